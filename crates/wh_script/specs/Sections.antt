-- How what the code reads of a script has to do with its definition.
use Rattle.std.specs.Prelude.{Bool, Err, List, None, Ok, Option, Result, Some, [], decimal, length, nat_le, not, take_while, ℕ, ◌&&◌, ◌==◌, ◌+◌, ◌-◌, ◌*◌, ◌<◌, ◌^◌, ◌∷◌, ◌≡◌}
use Rattle.def_grammar.specs.Lines as defs
use Rattle.def_grammar.specs.Lines.{content_of, directive_by_words, words_in}
use Rattle.wh_base.specs.Lists.{same_text, where_true}
use Rattle.wh_base.specs.declared.statements.BadScript.{BadScript}
use Rattle.wh_script.specs.declared.lines.Directive.{Directive}
use Rattle.wh_script.specs.declared.lines.Directive.TheVariants as ours
use Rattle.wh_script.specs.declared.lines.NextWord.{NextWord}
use Rattle.wh_script.specs.declared.fault.ScriptFault.{ScriptFault}
use Rattle.wh_script.specs.declared.fault.ScriptFault.TheVariants as faults

-- what the code gives is what the definition gives, and its fault that of the definition; want of memory says nothing
abbrev pub Gives : {X : Type 0} → Result X ScriptFault → Result X BadScript → Type 0
Gives (Ok x) read = read ≡ Ok x
Gives (Err (faults.Bad b)) read = read ≡ Err b
Gives (Err faults.Memory) read = Unit {0}

-- the directive that the code's own stands for: the words of an order stand in the bytes behind its first
abbrev pub meant : Directive → defs.Directive
meant ours.Setup = defs.Setup
meant (ours.Session w) = defs.SessionAt w.now
meant (ours.Order rest) = defs.Order (words_in rest.now)
meant (ours.Workers w) = defs.WorkersAt w.now
meant (ours.Load n) = defs.LoadOf n
meant ours.EndLoad = defs.EndLoad
meant ours.EndScript = defs.EndScript
meant ours.Unknown = defs.Unknown

-- the directive on a line of these bytes, whatever its number and place
abbrev pub directive_in : List ℕ → defs.Directive
directive_in raw = directive_by_words (words_in (content_of raw))

abbrev pub is_space : ℕ → Bool
is_space b = b == 32

abbrev pub is_in_word : ℕ → Bool
is_in_word b = not (b == 32)

-- how many bytes stand before the first space
abbrev pub word_of : List ℕ → ℕ
word_of bytes = length (take_while is_in_word bytes)

-- the first word of these bytes and the bytes behind it, or none where there is no word
abbrev pub IsNextWord : List ℕ → Option NextWord → Type 0
IsNextWord bytes None = words_in bytes ≡ []
IsNextWord bytes (Some w) = words_in bytes ≡ w.word.now ∷ words_in w.rest.now

-- there are two words or more
abbrev pub HasTwo : List (List ℕ) → Type 0
HasTwo [] = ⊥
HasTwo (x ∷ []) = ⊥
HasTwo (x ∷ y ∷ more) = Unit {0}

-- the number that one or two digits are
abbrev pub two_digits : List ℕ → ℕ
two_digits [] = 0
two_digits (a ∷ []) = a - 48
two_digits (a ∷ b ∷ []) = (a - 48) * 10 + (b - 48)
two_digits (a ∷ b ∷ c ∷ more) = 0

-- the word is this session number
abbrev pub is_session : ℕ → List ℕ → Bool
is_session n w = (nat_le 1 n && nat_le n 64) && same_text (decimal n) w

-- a session number by the one or two digits that it has to be
abbrev pub session_by_digits : List ℕ → Option ℕ
session_by_digits w = where_true (is_session (two_digits w) w) (two_digits w)

-- the words of an order stand in fewer than 2 ^ 32 bytes
abbrev pub HasFewBytes : Directive → Type 0
HasFewBytes (ours.Order rest) = length rest.now < 2 ^ 32
HasFewBytes d = Unit {0}
