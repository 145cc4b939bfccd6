-- The lines of a script, and the pieces that they make: text, directives, LOAD blocks and the end.

use Rattle.std.specs.Prelude.{Bool, List, None, Option, Some, [], codes, cond, false, filter, length, not, suc, true, ℕ, ◌++◌, ◌+◌, ◌==◌, ◌∷◌}
use Rattle.wh_base.specs.Lists.{head, is_empty, last, option_nat_is, same_text}
use Rattle.def_grammar.specs.Forms.{name_in}

-- a line: its number from 1, the place of its first byte from 0, and its bytes with the LF that ends it
pub record Line : Type 0 where
  pub number : ℕ
  pub place : ℕ
  pub raw : List ℕ

-- the byte before the first of these lines
abbrev pub onto_first : ℕ → List (List ℕ) → List (List ℕ)
onto_first b [] = (b ∷ []) ∷ []
onto_first b (l ∷ ls) = (b ∷ l) ∷ ls

-- the lines of these bytes, each with the LF that ends it; the last one may have none
abbrev pub raw_lines : List ℕ → List (List ℕ)
raw_lines [] = []
raw_lines (b ∷ bs) = cond (b == 10) ((b ∷ []) ∷ raw_lines bs) (onto_first b (raw_lines bs))

-- the lines with their numbers and places, the first with these
abbrev pub placed_lines : ℕ → ℕ → List (List ℕ) → List Line
placed_lines n place [] = []
placed_lines n place (l ∷ ls) = record { number = n; place = place; raw = l } ∷ placed_lines (suc n) (place + length l) ls

abbrev pub lines_of : List ℕ → List Line
lines_of bytes = placed_lines 1 0 (raw_lines bytes)

-- the bytes without the last one, and without the last one where it is this byte
abbrev pub before_last : List ℕ → List ℕ
before_last [] = []
before_last (b ∷ []) = []
before_last (b ∷ c ∷ bs) = b ∷ before_last (c ∷ bs)

abbrev pub without_last : ℕ → List ℕ → List ℕ
without_last b bytes = cond (option_nat_is (last bytes) b) (before_last bytes) bytes

-- what stands on a line: its bytes without the LF, and without one CR before the LF
abbrev pub content_of : List ℕ → List ℕ
content_of raw = cond (option_nat_is (last raw) 10) (without_last 13 (before_last raw)) raw

-- ---- directives

-- the pieces between spaces, the empty ones too
abbrev pub split_spaces : List ℕ → List (List ℕ)
split_spaces [] = [] ∷ []
split_spaces (b ∷ bs) = cond (b == 32) ([] ∷ split_spaces bs) (onto_first b (split_spaces bs))

-- the words of a directive, which spaces alone separate
abbrev pub words_in : List ℕ → List (List ℕ)
words_in bytes = filter (λ w. not (is_empty w)) (split_spaces bytes)

abbrev pub directive_words : Line → List (List ℕ)
directive_words l = words_in (content_of l.raw)

-- the line's first byte is @
abbrev pub is_directive : Line → Bool
is_directive l = option_nat_is (head l.raw) 64

-- a directive, with the words that it names; Unknown is none of the grammar
pub data Directive : Type 0 where
  Setup : Directive
  SessionAt : List ℕ → Directive
  Order : List (List ℕ) → Directive
  LoadOf : List ℕ → Directive
  EndLoad : Directive
  EndScript : Directive
  Unknown : Directive
  WorkersAt : List ℕ → Directive

-- `@load` of a word that is a name
abbrev pub load_of_name : Option (List ℕ) → Directive
load_of_name None = Unknown
load_of_name (Some n) = LoadOf n

-- the directive of a first word and the words after it: each with as many words as it takes, and spelled as it is
abbrev pub directive_of : List ℕ → List (List ℕ) → Directive
directive_of w [] =
    cond (same_text w (codes "@setup")) Setup
    (cond (same_text w (codes "@order")) (Order [])
    (cond (same_text w (codes "@endload")) EndLoad (cond (same_text w (codes "@end")) EndScript Unknown)))
directive_of w (x ∷ []) =
    cond (same_text w (codes "@session")) (SessionAt x)
    (cond (same_text w (codes "@load")) (load_of_name (name_in x))
    (cond (same_text w (codes "@order")) (Order (x ∷ [])) (cond (same_text w (codes "@workers")) (WorkersAt x) Unknown)))
directive_of w (x ∷ y ∷ more) = cond (same_text w (codes "@order")) (Order (x ∷ y ∷ more)) Unknown

abbrev pub directive_by_words : List (List ℕ) → Directive
directive_by_words [] = Unknown
directive_by_words (w ∷ ws) = directive_of w ws

-- the directive on a line
abbrev pub directive_on : Line → Directive
directive_on l = directive_by_words (directive_words l)

-- ---- the pieces of a script

-- a piece: a run of text lines with its place; a directive; a LOAD block with the line of its `@load`, its name, its lines and
-- whether it was closed; the end, with the lines after it
pub data Piece : Type 0 where
  TextRun : ℕ → List ℕ → Piece
  DirectiveAt : Line → Directive → Piece
  LoadBlock : Line → List ℕ → List Line → Bool → Piece
  EndAt : Line → List Line → Piece

-- a text line before these pieces: text joins the text after it
abbrev pub text_onto : Line → List Piece → List Piece
text_onto l (TextRun place bytes ∷ ps) = TextRun l.place (l.raw ++ bytes) ∷ ps
text_onto l ps = TextRun l.place l.raw ∷ ps

-- where a line stands: in text, or in a LOAD block of which the line of `@load`, the name and the lines so far are known
pub data Mode : Type 0 where
  InText : Mode
  InLoad : Line → List ℕ → List Line → Mode

-- the pieces from a directive line on; `ls` are the lines after it and `rest` gives their pieces
abbrev pub directive_piece : Line → Directive → List Line → (Mode → List Piece) → List Piece
directive_piece l (LoadOf n) ls rest = rest (InLoad l n [])
directive_piece l EndScript ls rest = EndAt l ls ∷ []
directive_piece l d ls rest = DirectiveAt l d ∷ rest InText

-- the pieces from a line outside LOAD blocks on; true for a directive line
abbrev pub text_piece : Bool → Line → List Line → (Mode → List Piece) → List Piece
text_piece true l ls rest = directive_piece l (directive_on l) ls rest
text_piece false l ls rest = text_onto l (rest InText)

-- the pieces from a line in a LOAD block on; true for the line that closes it
abbrev pub load_piece : Bool → Line → List ℕ → List Line → Line → (Mode → List Piece) → List Piece
load_piece true d n done l rest = LoadBlock d n done true ∷ rest InText
load_piece false d n done l rest = rest (InLoad d n (done ++ l ∷ []))

-- the pieces of these lines. A LOAD block ends at the first line `@endload`, whatever stands in it; after `@end` nothing is read
abbrev pub pieces_from : List Line → Mode → List Piece
pieces_from [] InText = []
pieces_from [] (InLoad d n done) = LoadBlock d n done false ∷ []
pieces_from (l ∷ ls) InText = text_piece (is_directive l) l ls (pieces_from ls)
pieces_from (l ∷ ls) (InLoad d n done) = load_piece (same_text (content_of l.raw) (codes "@endload")) d n done l (pieces_from ls)

abbrev pub pieces : List ℕ → List Piece
pieces bytes = pieces_from (lines_of bytes) InText
