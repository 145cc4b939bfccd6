-- Keywords that are read one after another, and choices by them.
use Rattle.std.specs.Prelude.{◌≡◌, Bool, Err, List, None, Ok, Option, Result, Some, false, true, ℕ, ⊤}
use Rattle.def_grammar.specs.Forms.{all_words}
use Rattle.def_grammar.specs.Reading.{Rule, gives, ◌>>◌, ◌or◌}
use Rattle.wh_base.specs.declared.tokens.Token.{Token}
use Rattle.wh_query_text.specs.declared.parser.ParseFault.{ParseFault}
use Rattle.wh_query_text.specs.declared.parser.ParseFault.TheVariants as faults

-- the keywords are taken where all of them are next, and else none
abbrev pub TakesAll : Bool → List Token → List Token → Option (Bool × List Token) → Type 0
TakesAll true old left read = read ≡ Some (true, left)
TakesAll false old left read = (read ≡ None) × (left ≡ old)

-- the keywords are taken, or the rule doesn't read
abbrev pub TakesWords : Result ⊤ ParseFault → List Token → Option (Bool × List Token) → Type 0
TakesWords (Ok u) left read = read ≡ Some (true, left)
TakesWords (Err faults.Memory) left read = ⊥
TakesWords (Err faults.Syntax) left read = read ≡ None

-- one list of keywords for true, or the other for false
abbrev pub one_of_both : List (List ℕ) → List (List ℕ) → Rule Bool
one_of_both first second = (all_words first >> gives true) or (all_words second >> gives false)

-- the same, and false where neither is there
abbrev pub maybe_one_of_both : List (List ℕ) → List (List ℕ) → Rule Bool
maybe_one_of_both first second = (all_words first >> gives true) or (all_words second >> gives false) or gives false

-- what the code gives of all tokens is what the definition gives; want of memory says nothing
abbrev pub GivesWhole : {X : Type 0} → Result X ParseFault → Option X → Type 0
GivesWhole (Ok x) read = read ≡ Some x
GivesWhole (Err faults.Memory) read = Unit {0}
GivesWhole (Err faults.Syntax) read = read ≡ None
