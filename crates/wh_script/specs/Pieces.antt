-- The lines of a script's bytes by their lengths, and what it means that elements of a script were taken.
use Rattle.def_built.specs.Form.{draft_is_built}
use Rattle.def_grammar.specs.Lines.{Directive, InText, Line, LoadBlock, Piece, content_of, directive_on, pieces_from, placed_lines, raw_lines}
use Rattle.def_grammar.specs.Script.{Draft, Element, Outcome, ending, is_white, line_at, piece_elements, read_from}
use Rattle.std.specs.Prelude.{Bool, Err, List, Ok, Result, [], codes, cond, drop, false, flat_map, length, suc, take, true, ℕ, ◌&&◌, ◌||◌, ◌++◌, ◌+◌, ◌==◌, ◌∷◌, ◌≡◌, ◌<◌, ◌≤◌, ◌^◌}
use Rattle.wh_base.specs.Lists.{same_text}
use Rattle.wh_script.specs.declared.fault.ScriptFault.{ScriptFault}
use Rattle.wh_script.specs.declared.fault.ScriptFault.TheVariants as faults
use Rattle.wh_script.specs.declared.lines.Directive as ours
use Rattle.wh_script.specs.declared.lines.Directive.TheVariants as directives
use Rattle.wh_script.specs.declared.lines.LineMark.{LineMark}
use Rattle.wh_script.specs.declared.pieces.Position.{Position}
use Rattle.wh_script.specs.declared.pieces.Walked.{Walked}
use Rattle.wh_script.specs.declared.pieces.Walked.TheVariants.{AtEnd, On}
use Rattle.wh_script.specs.declared.script.ReadScript.{ReadScript}

-- how many bytes stand before the first line that begins with @; `starts` says that a line starts here
abbrev pub text_len : Bool → List ℕ → ℕ
text_len starts [] = 0
text_len starts (b ∷ bs) = cond (starts && (b == 64)) 0 (suc (text_len (b == 10) bs))

-- how many bytes the first line has, its LF with them
abbrev pub line_len : List ℕ → ℕ
line_len [] = 0
line_len (b ∷ bs) = cond (b == 10) 1 (suc (line_len bs))

-- the line closes a LOAD block
abbrev pub is_closing : List ℕ → Bool
is_closing raw = same_text (content_of raw) (codes "@endload")

-- how many bytes stand on the lines before the first that closes a LOAD block
abbrev pub block_len : List (List ℕ) → ℕ
block_len [] = 0
block_len (l ∷ ls) = cond (is_closing l) 0 (length l + block_len ls)

-- ---- what is left of a script from the line on that starts at a place

abbrev pub lines_at : List ℕ → ℕ → List Line
lines_at bytes place = placed_lines (line_at bytes place) place (raw_lines (drop place bytes))

-- the first of these lines
abbrev pub line_of : List ℕ → ℕ → Line
line_of bytes place =
    record { number = line_at bytes place; place = place; raw = take (line_len (drop place bytes)) (drop place bytes) }

-- the place behind that line
abbrev pub behind_line : List ℕ → ℕ → ℕ
behind_line bytes place = place + line_len (drop place bytes)

abbrev pub pieces_at : List ℕ → ℕ → List Piece
pieces_at bytes place = pieces_from (lines_at bytes place) InText

-- the elements, where the first `valid` bytes are UTF-8
unfoldable pub elements_left : List ℕ → ℕ → ℕ → List Element
elements_left bytes valid place = flat_map (piece_elements valid) (pieces_at bytes place)

-- a position at the begin of a line of a script that is no larger than one may be
abbrev pub IsPosition : Position → Type 0
IsPosition p =
    (length p.bytes.now < 2 ^ 32) × (p.valid ≤ length p.bytes.now) × (p.mark.place ≤ length p.bytes.now)
    × (p.mark.line ≡ line_at p.bytes.now p.mark.place)

-- no text stands at the position, and this directive is on the line there
abbrev pub IsAtDirective : Position → Directive → Type 0
IsAtDirective p d =
    (p.mark.place < length p.bytes.now) × (text_len true (drop p.mark.place p.bytes.now) ≡ 0)
    × (directive_on (line_of p.bytes.now p.mark.place) ≡ d)

-- the directive is a piece by itself
abbrev pub IsAlone : ours.Directive → Type 0
IsAlone (directives.Load n) = ⊥
IsAlone directives.EndScript = ⊥
IsAlone d = Unit {0}

-- ---- LOAD blocks by their lines

-- the lines before the first that closes a block, whether there is one, and the lines behind it
abbrev pub before_closing : List Line → List Line
before_closing [] = []
before_closing (l ∷ ls) = cond (is_closing l.raw) [] (l ∷ before_closing ls)

abbrev pub is_closed : List Line → Bool
is_closed [] = false
is_closed (l ∷ ls) = cond (is_closing l.raw) true (is_closed ls)

abbrev pub behind_closing : List Line → List Line
behind_closing [] = []
behind_closing (l ∷ ls) = cond (is_closing l.raw) ls (behind_closing ls)

-- the block of this name whose `@load` is on the line that starts at this place
abbrev pub load_block : List ℕ → ℕ → List ℕ → Piece
load_block bytes place name =
    let ls = lines_at bytes (behind_line bytes place) in LoadBlock (line_of bytes place) name (before_closing ls) (is_closed ls)

-- how many bytes the block has whose lines begin at this place
abbrev pub block_at : List ℕ → ℕ → ℕ
block_at bytes place = block_len (raw_lines (drop place bytes))

-- the place behind the block whose lines begin at this one
abbrev pub behind_block : List ℕ → ℕ → ℕ
behind_block bytes place = behind_line bytes (place + block_at bytes place)

-- ---- behind the end

-- the byte is white space before this one
abbrev pub is_white_before : ℕ → ℕ → Bool
is_white_before b next = is_white b || ((b == 13) && (next == 10))

-- ---- what was taken

-- a script that goes on with these elements is read on from the draft that was made of them, or has their fault; want of
-- memory says nothing
abbrev pub IsTaken : List ℕ → Draft → List Element → Result Draft ScriptFault → Type 0
IsTaken bytes d es (Ok e) =
    (tail : Bool) → (rest : List Element) → read_from draft_is_built bytes tail d (es ++ rest) ≡ read_from draft_is_built bytes tail e rest
IsTaken bytes d es (Err (faults.Bad b)) = (tail : Bool) → (rest : List Element) → read_from draft_is_built bytes tail d (es ++ rest) ≡ Err b
IsTaken bytes d es (Err faults.Memory) = Unit {0}

-- what is read from a draft on is read from another
abbrev pub ReadsOn : List ℕ → Draft → List Element → Draft → List Element → Type 0
ReadsOn bytes d es e fs = (tail : Bool) → read_from draft_is_built bytes tail d es ≡ read_from draft_is_built bytes tail e fs

-- a built draft at this place
abbrev pub IsAt : List ℕ → ℕ → Draft → LineMark → Type 0
IsAt bytes place e m = (m.place ≡ place) × (m.line ≡ line_at bytes place) × (draft_is_built e ≡ true)

-- these elements were taken, and the next piece starts at this place
abbrev pub IsWalked : List ℕ → Draft → List Element → ℕ → Result Walked ScriptFault → Type 0
IsWalked bytes d es next (Ok (On e m)) = IsTaken bytes d es (Ok e) × IsAt bytes next e m
IsWalked bytes d es next (Ok (AtEnd e place)) = ⊥
IsWalked bytes d es next (Err f) = IsTaken bytes d es (Err f)

-- a step of the walk from this place: what is left of the script is read from the draft there on; or the end of the script is
-- behind that draft; or its fault was found. Want of memory says nothing
abbrev pub IsStep : List ℕ → ℕ → Draft → ℕ → Result Walked ScriptFault → Type 0
IsStep bytes valid d place (Ok (On e m)) =
    ReadsOn bytes d (elements_left bytes valid place) e (elements_left bytes valid m.place)
    × (place < m.place) × (m.place ≤ length bytes) × IsAt bytes m.place e m
IsStep bytes valid d place (Ok (AtEnd e next)) =
    ((tail : Bool) → read_from draft_is_built bytes tail d (elements_left bytes valid place) ≡ ending bytes tail e next (drop next bytes))
    × (next ≤ length bytes) × (draft_is_built e ≡ true)
IsStep bytes valid d place (Err (faults.Bad b)) =
    (tail : Bool) → read_from draft_is_built bytes tail d (elements_left bytes valid place) ≡ Err b
IsStep bytes valid d place (Err faults.Memory) = Unit {0}

-- what the code gives is what the definition gives, and its fault that of the definition; want of memory says nothing
abbrev pub GivesScript : Result ReadScript ScriptFault → Outcome → Type 0
GivesScript (Ok r) read = read ≡ Ok (r.script, r.next)
GivesScript (Err (faults.Bad b)) read = read ≡ Err b
GivesScript (Err faults.Memory) read = Unit {0}
