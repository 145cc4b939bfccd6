-- The lines from a place on, and the run of text before the first that begins with @.
use Rattle.std.proofs.Common.{◌≡◌, ℕ, ◌≤◌, ◌<◌, ◌+◌, ◌-◌, suc, zero, List, [], ◌∷◌, ◌++◌, length, drop, take, Bool, true, false, Some, cond, refl, ap, sym, ◌∙◌, arith, ◌&&◌, subst, length-drop}
use Rattle.std.proofs.Math.Seq.{take-add}
use Rattle.std.proofs.lemmas.List.{drop-drop, drop_all, length-take-le}
use Rattle.std.specs.Prelude.{◌==◌, count_by}
use Rattle.def_grammar.specs.Lines.{Directive, DirectiveAt, EndAt, EndLoad, EndScript, InLoad, Line, LoadBlock, LoadOf, Order, Piece, SessionAt, Setup, TextRun, Unknown, WorkersAt, directive_on, directive_piece, load_piece, onto_first, pieces_from, placed_lines, raw_lines, text_onto}
use Rattle.def_grammar.specs.Script.{line_at}
use Rattle.wh_base.specs.Lists.{head, option_nat_is}
use Rattle.wh_script.proofs.Counts.{count_by-append}
use Rattle.wh_script.specs.Pieces.{behind_line, block_len, is_closing, line_len, line_of, lines_at, pieces_at, text_len}

-- ---- the length of a line

pub line_len-le : (bs : List ℕ) → line_len bs ≤ length bs
line_len-le [] = omega arith
line_len-le (b ∷ bs) = by_test (b == 10) (line_len-le bs)
  where
    by_test : (t : Bool) → line_len bs ≤ length bs → cond t 1 (suc (line_len bs)) ≤ length (b ∷ bs)
    by_test true h = omega arith
    by_test false h = omega arith

pub line_len-some : (bs : List ℕ) → 0 < length bs → 0 < line_len bs
line_len-some [] h = absurd (omega arith)
line_len-some (b ∷ bs) h = by_test (b == 10)
  where
    by_test : (t : Bool) → 0 < cond t 1 (suc (line_len bs))
    by_test true = omega arith
    by_test false = omega arith

pub length_of_line : (bs : List ℕ) → length (take (line_len bs) bs) ≡ line_len bs
length_of_line bs = length-take-le (line_len bs) bs (line_len-le bs)

-- the first line, and those behind it
raw_lines-cons : (b : ℕ) (bs : List ℕ) → raw_lines (b ∷ bs) ≡ take (line_len (b ∷ bs)) (b ∷ bs) ∷ raw_lines (drop (line_len (b ∷ bs)) (b ∷ bs))
raw_lines-cons b [] = by_test (b == 10)
  where
    by_test : (t : Bool) → cond t ((b ∷ []) ∷ []) ((b ∷ []) ∷ []) ≡ take (cond t 1 1) (b ∷ []) ∷ raw_lines (drop (cond t 1 1) (b ∷ []))
    by_test true = refl
    by_test false = refl
raw_lines-cons b (c ∷ bs) = by_test (b == 10) (raw_lines-cons c bs)
  where
    by_test : (t : Bool) → raw_lines (c ∷ bs) ≡ take (line_len (c ∷ bs)) (c ∷ bs) ∷ raw_lines (drop (line_len (c ∷ bs)) (c ∷ bs)) → cond t ((b ∷ []) ∷ raw_lines (c ∷ bs)) (onto_first b (raw_lines (c ∷ bs))) ≡ take (cond t 1 (suc (line_len (c ∷ bs)))) (b ∷ c ∷ bs) ∷ raw_lines (drop (cond t 1 (suc (line_len (c ∷ bs)))) (b ∷ c ∷ bs))
    by_test true more = refl
    by_test false more = ap (onto_first b) more

pub raw_lines-first : (bs : List ℕ) → 0 < length bs → raw_lines bs ≡ take (line_len bs) bs ∷ raw_lines (drop (line_len bs) bs)
raw_lines-first [] h = absurd (omega arith)
raw_lines-first (b ∷ bs) h = raw_lines-cons b bs

-- ---- the bytes before a line that closes a block

-- the bytes before the closing line, by the first line
pub block_len-first : (bytes : List ℕ) (at : ℕ) → at < length bytes → block_len (raw_lines (drop at bytes)) ≡ cond (is_closing (take (line_len (drop at bytes)) (drop at bytes))) 0 (line_len (drop at bytes) + block_len (raw_lines (drop (at + line_len (drop at bytes)) bytes)))
block_len-first bytes at h =
    let ds = drop at bytes in
    let some : 0 < length ds = rw length-drop (omega arith) in
    ap block_len (raw_lines-first ds some) ∙ rw (length_of_line ds, drop-drop (line_len ds) at bytes) refl

-- the line that closes a block
pub block_len-closing : (bytes raw : List ℕ) (at : ℕ) → at < length bytes → raw ≡ take (line_len (drop at bytes)) (drop at bytes) → is_closing raw ≡ true → block_len (raw_lines (drop at bytes)) ≡ 0
block_len-closing bytes raw at h e f =
    let same : is_closing (take (line_len (drop at bytes)) (drop at bytes)) ≡ true = subst (λ xs. is_closing xs ≡ true) e f in
    block_len-first bytes at h ∙ rw same refl

-- one line more of a block
pub block_len-more : (bytes raw : List ℕ) (at : ℕ) → at < length bytes → raw ≡ take (line_len (drop at bytes)) (drop at bytes) → is_closing raw ≡ false → block_len (raw_lines (drop at bytes)) ≡ length raw + block_len (raw_lines (drop (at + length raw) bytes))
block_len-more bytes raw at h e f =
    let same : is_closing (take (line_len (drop at bytes)) (drop at bytes)) ≡ false = subst (λ xs. is_closing xs ≡ false) e f in
    let len : length raw ≡ line_len (drop at bytes) = ap length e ∙ length_of_line (drop at bytes) in
    block_len-first bytes at h ∙ rw (same, len) refl

pub block_len-end : (bytes : List ℕ) (at : ℕ) → length bytes ≤ at → block_len (raw_lines (drop at bytes)) ≡ 0
block_len-end bytes at h = rw (drop_all at bytes h) refl

pub ruleset blocks = (block_len-closing, block_len-more, block_len-end)

-- ---- the lines from a place on

-- where nothing is left, the number of the next line says nothing
numbered : (n m place : ℕ) (bs : List ℕ) → (0 < length bs → n ≡ m) → placed_lines n place (raw_lines bs) ≡ placed_lines m place (raw_lines bs)
numbered n m place [] h = refl
numbered n m place (b ∷ bs) h = ap (λ k. placed_lines k place (raw_lines (b ∷ bs))) (h (omega arith))

-- a line behind which something stands has one LF
line_ends-one : (bs : List ℕ) → 0 < length (drop (line_len bs) bs) → count_by (λ b. b == 10) (take (line_len bs) bs) ≡ 1
line_ends-one [] h = absurd (omega arith)
line_ends-one (b ∷ bs) h = by_test (b == 10) refl h (line_ends-one bs)
  where
    by_test : (t : Bool) → (b == 10) ≡ t → 0 < length (drop (cond t 1 (suc (line_len bs))) (b ∷ bs)) → (0 < length (drop (line_len bs) bs) → count_by (λ c. c == 10) (take (line_len bs) bs) ≡ 1) → count_by (λ c. c == 10) (take (cond t 1 (suc (line_len bs))) (b ∷ bs)) ≡ 1
    by_test true e some more = rw e refl
    by_test false e some more = count_by-append (λ c. c == 10) (b ∷ []) (take (line_len bs) bs) ∙ rw (e, more some) refl

-- the line at a place, and those behind it
pub lines_at-first : (bytes : List ℕ) (place : ℕ) → place < length bytes → lines_at bytes place ≡ line_of bytes place ∷ lines_at bytes (behind_line bytes place)
lines_at-first bytes place h =
    let ds = drop place bytes in
    let j = line_len ds in
    let some : 0 < length ds = rw length-drop (omega arith) in
    let count = count_by {X = ℕ} (λ b. b == 10) in
    let sum : 0 < length (drop j ds) → count (take (place + j) bytes) ≡ count (take place bytes) + 1 =
    λ more. ap count (take-add place j bytes) ∙ count_by-append (λ b. b == 10) (take place bytes) (take j ds) ∙ ap (λ k. count (take place bytes) + k) (line_ends-one ds more) in
    let number : 0 < length (drop j ds) → suc (line_at bytes place) ≡ line_at bytes (place + j) = λ more. omega (arith, sum more) in
    rw (raw_lines-first ds some)
    (ap (λ ls. line_of bytes place ∷ ls)
    (ap (λ k. placed_lines (suc (line_at bytes place)) (place + k) (raw_lines (drop j ds))) (length_of_line ds)
    ∙ numbered (suc (line_at bytes place)) (line_at bytes (place + j)) (place + j) (drop j ds) number
    ∙ ap (λ xs. placed_lines (line_at bytes (place + j)) (place + j) (raw_lines xs)) (drop-drop j place bytes)))

pub lines_at-end : (bytes : List ℕ) (place : ℕ) → length bytes ≤ place → lines_at bytes place ≡ []
lines_at-end bytes place h = rw (drop_all place bytes h) refl

-- ---- runs of text

head_of_line : (b : ℕ) (bs : List ℕ) → head (take (line_len (b ∷ bs)) (b ∷ bs)) ≡ Some b
head_of_line b bs = by_test (b == 10)
  where
    by_test : (t : Bool) → head (take (cond t 1 (suc (line_len bs))) (b ∷ bs)) ≡ Some b
    by_test true = refl
    by_test false = refl

-- no text stands before a directive line
pub directive-there : (ds : List ℕ) → 0 < length ds → text_len true ds ≡ 0 → option_nat_is (head (take (line_len ds) ds)) 64 ≡ true
directive-there [] h e = absurd (omega arith)
directive-there (b ∷ bs) h e = rw (head_of_line b bs) (by_test (b == 64) e)
  where
    by_test : (t : Bool) → cond t 0 (suc (text_len (b == 10) bs)) ≡ 0 → t ≡ true
    by_test true e = refl
    by_test false e = absurd (omega arith)

pub text-there : (ds : List ℕ) → 0 < text_len true ds → option_nat_is (head (take (line_len ds) ds)) 64 ≡ false
text-there [] h = absurd (omega arith)
text-there (b ∷ bs) h = rw (head_of_line b bs) (by_test (b == 64) h)
  where
    by_test : (t : Bool) → 0 < cond t 0 (suc (text_len (b == 10) bs)) → t ≡ false
    by_test true h = absurd (omega arith)
    by_test false h = refl

-- a text is its first line and the text behind it
text_len-cons : (starts : Bool) (b : ℕ) (bs : List ℕ) → (starts && (b == 64)) ≡ false → text_len starts (b ∷ bs) ≡ line_len (b ∷ bs) + text_len true (drop (line_len (b ∷ bs)) (b ∷ bs))
text_len-cons starts b [] e = rw e (by_test (b == 10))
  where
    by_test : (t : Bool) → 1 ≡ cond t 1 1 + text_len true (drop (cond t 1 1) (b ∷ []))
    by_test true = refl
    by_test false = refl
text_len-cons starts b (c ∷ bs) e = rw e (by_test (b == 10) (text_len-cons false c bs refl))
  where
    by_test : (t : Bool) → text_len false (c ∷ bs) ≡ line_len (c ∷ bs) + text_len true (drop (line_len (c ∷ bs)) (c ∷ bs)) → suc (text_len t (c ∷ bs)) ≡ cond t 1 (suc (line_len (c ∷ bs))) + text_len true (drop (cond t 1 (suc (line_len (c ∷ bs)))) (b ∷ c ∷ bs))
    by_test true more = omega arith
    by_test false more = omega (arith, more)

text_len-more : (ds : List ℕ) → 0 < text_len true ds → text_len true ds ≡ line_len ds + text_len true (drop (line_len ds) ds)
text_len-more [] h = absurd (omega arith)
text_len-more (b ∷ bs) h = text_len-cons true b bs (by_test (b == 64) h)
  where
    by_test : (t : Bool) → 0 < cond t 0 (suc (text_len (b == 10) bs)) → t ≡ false
    by_test true h = absurd (omega arith)
    by_test false h = refl

-- the pieces begin with a text
abbrev begins_text : List Piece → Bool
begins_text (TextRun place bytes ∷ ps) = true
begins_text ps = false

in_load-begins : (ls : List Line) (d : Line) (n : List ℕ) (done : List Line) → begins_text (pieces_from ls (InLoad d n done)) ≡ false
in_load-begins [] d n done = refl
in_load-begins (l ∷ ls) d n done = by_test (is_closing l.raw) (in_load-begins ls d n (done ++ l ∷ []))
  where
    by_test : (t : Bool) → begins_text (pieces_from ls (InLoad d n (done ++ l ∷ []))) ≡ false → begins_text (load_piece t d n done l (pieces_from ls)) ≡ false
    by_test true more = refl
    by_test false more = more

directive-begins : (l : Line) (d : Directive) (ls : List Line) → begins_text (directive_piece l d ls (pieces_from ls)) ≡ false
directive-begins l Setup ls = refl
directive-begins l (SessionAt w) ls = refl
directive-begins l (Order ws) ls = refl
directive-begins l (LoadOf n) ls = in_load-begins ls l n []
directive-begins l EndLoad ls = refl
directive-begins l EndScript ls = refl
directive-begins l Unknown ls = refl
directive-begins l (WorkersAt w) ls = refl

-- the pieces from a directive line on
pub pieces-directive : (bytes : List ℕ) (place : ℕ) → place < length bytes → text_len true (drop place bytes) ≡ 0 → pieces_at bytes place ≡ directive_piece (line_of bytes place) (directive_on (line_of bytes place)) (lines_at bytes (behind_line bytes place)) (pieces_from (lines_at bytes (behind_line bytes place)))
pieces-directive bytes place h e =
    let some : 0 < length (drop place bytes) = rw length-drop (omega arith) in
    rw (lines_at-first bytes place h, directive-there (drop place bytes) some e) refl

no_text-begins : (bytes : List ℕ) (place : ℕ) → text_len true (drop place bytes) ≡ 0 → begins_text (pieces_at bytes place) ≡ false
no_text-begins bytes place e = by_left (length bytes - place) refl
  where
    by_left : (n : ℕ) → length bytes - place ≡ n → begins_text (pieces_at bytes place) ≡ false
    by_left zero none = rw (lines_at-end bytes place (omega (arith, none))) refl
    by_left (suc n) some = rw (pieces-directive bytes place (omega (arith, some)) e) (directive-begins (line_of bytes place) (directive_on (line_of bytes place)) (lines_at bytes (behind_line bytes place)))

onto-others : (l : Line) (ps : List Piece) → begins_text ps ≡ false → text_onto l ps ≡ TextRun l.place l.raw ∷ ps
onto-others l [] e = refl
onto-others l (TextRun place bytes ∷ ps) e = cc
onto-others l (DirectiveAt m d ∷ ps) e = refl
onto-others l (LoadBlock m n ls c ∷ ps) e = refl
onto-others l (EndAt m ls ∷ ps) e = refl

-- a text run is one piece
pub pieces-text : (fuel : ℕ) (bytes : List ℕ) (place : ℕ) → length bytes ≤ place + fuel → 0 < text_len true (drop place bytes) → pieces_at bytes place ≡ TextRun place (take (text_len true (drop place bytes)) (drop place bytes)) ∷ pieces_at bytes (place + text_len true (drop place bytes))
pieces-text zero bytes place few some = absurd (none (drop place bytes) (drop_all place bytes (omega arith)) some)
  where
    none : (ds : List ℕ) → ds ≡ [] → 0 < text_len true ds → ⊥
    none [] e h = omega arith
    none (d ∷ ds) e h = cc
pieces-text (suc fuel) bytes place few some =
    let ds = drop place bytes in
    let j = line_len ds in
    let full : 0 < length ds = within ds some in
    let h : place < length bytes = omega (arith, length-drop place bytes) in
    let next : drop j ds ≡ drop (place + j) bytes = drop-drop j place bytes in
    let sum : text_len true ds ≡ j + text_len true (drop (place + j) bytes) = text_len-more ds some ∙ ap (λ xs. j + text_len true xs) next in
    let one : pieces_at bytes place ≡ text_onto (line_of bytes place) (pieces_at bytes (place + j)) = rw (lines_at-first bytes place h, text-there ds some) refl in
    one ∙ by_rest (text_len true (drop (place + j) bytes)) refl sum (pieces-text fuel bytes (place + j) (omega (arith, line_len-some ds full)))
  where
    within : (ds : List ℕ) → 0 < text_len true ds → 0 < length ds
    within [] h = absurd (omega arith)
    within (d ∷ ds) h = omega arith

    by_rest : (m : ℕ) → text_len true (drop (place + line_len (drop place bytes)) bytes) ≡ m → text_len true (drop place bytes) ≡ line_len (drop place bytes) + text_len true (drop (place + line_len (drop place bytes)) bytes) → (0 < text_len true (drop (place + line_len (drop place bytes)) bytes) → pieces_at bytes (place + line_len (drop place bytes)) ≡ TextRun (place + line_len (drop place bytes)) (take (text_len true (drop (place + line_len (drop place bytes)) bytes)) (drop (place + line_len (drop place bytes)) bytes)) ∷ pieces_at bytes (place + line_len (drop place bytes) + text_len true (drop (place + line_len (drop place bytes)) bytes))) → text_onto (line_of bytes place) (pieces_at bytes (place + line_len (drop place bytes))) ≡ TextRun place (take (text_len true (drop place bytes)) (drop place bytes)) ∷ pieces_at bytes (place + text_len true (drop place bytes))
    by_rest zero e sum more =
        let j = line_len (drop place bytes) in
        let all : j ≡ text_len true (drop place bytes) = omega (arith, sum, e) in
        onto-others (line_of bytes place) (pieces_at bytes (place + j)) (no_text-begins bytes (place + j) e)
        ∙ ap (λ k. TextRun place (take k (drop place bytes)) ∷ pieces_at bytes (place + k)) all
    by_rest (suc m) e sum more =
        let ds = drop place bytes in
        let j = line_len ds in
        let q = place + j in
        let left = text_len true (drop q bytes) in
        let texts : take j ds ++ take left (drop q bytes) ≡ take (text_len true ds) ds =
        ap (λ xs. take j ds ++ take left xs) (sym (drop-drop j place bytes)) ∙ sym (ap (λ k. take k ds) sum ∙ take-add j left ds) in
        let places : q + left ≡ place + text_len true ds = omega (arith, sum) in
        ap (text_onto (line_of bytes place)) (more (omega (arith, e)))
        ∙ ap (λ xs. TextRun place xs ∷ pieces_at bytes (q + left)) texts
        ∙ ap (λ p. TextRun place (take (text_len true ds) ds) ∷ pieces_at bytes p) places
