-- The words of the command line: which form they name, and what is read of them on the way there.
use Rattle.std.specs.Prelude.{Bool, List, None, Option, Some, [], false, codes, not, option_and_then, option_map, option_to_list, ℕ, ◌&&◌, ◌==◌, ◌∷◌}
use Rattle.std.specs.Str.{is_utf8}
use Rattle.clap.specs.Matches.{first_value, found_of}
use Rattle.clap.specs.declared.parser.matches.ArgMatches.{ArgMatches}
use Rattle.def_output.specs.Output.{Checking, Form, Generating, Ordering, form_of}
use Rattle.wh_words.specs.declared.words.Words.{Words}
use Rattle.wh_words.specs.declared.words.Words.TheVariants as variants
use Rattle.wh_words.specs.declared.places.Placed.{Placed}

-- The form where the program runs it so far: all but the check of a transcript.
abbrev pub built : Form → Option Form
built (Ordering version) = Some (Ordering version)
built Checking = None
built (Generating n) = Some (Generating n)

-- The form that the words name, where it runs so far.
abbrev pub built_form : List (List ℕ) → Option Form
built_form words = option_and_then built (form_of words)

-- The form that a value of the program's own stands for.
abbrev pub form_meant : Words → Form
form_meant (variants.Order version) = Ordering version
form_meant (variants.Generate n) = Generating n

-- The word begins with a hyphen (45).
abbrev pub has_hyphen : List ℕ → Bool
has_hyphen [] = false
has_hyphen (b ∷ bs) = b == 45

-- The word is text, and no flag.
abbrev pub is_plain : List ℕ → Bool
is_plain word = not (has_hyphen word) && is_utf8 word

-- The words, where there are one or two of them.
abbrev pub one_or_two : List (List ℕ) → Option (List (List ℕ))
one_or_two (w ∷ []) = Some (w ∷ [])
one_or_two (w ∷ n ∷ []) = Some (w ∷ n ∷ [])
one_or_two _ = None

-- The words that stand at the two places.
abbrev pub words_at : Placed → List (List ℕ)
words_at p = p.form.now ∷ option_to_list (option_map (λ s. s.now) p.number)

-- The words that a parse put at the two places, none where it left the first one empty.
abbrev pub words_in : ArgMatches → Option (List (List ℕ))
words_in m = option_map (λ w. w ∷ option_to_list (first_value (found_of m) (codes "number"))) (first_value (found_of m) (codes "form"))
