-- The lines of a LOAD block, and the bytes behind the end.
use Rattle.std.proofs.Common.{◌≡◌, ℕ, ◌≤◌, ◌<◌, ◌+◌, ◌-◌, suc, zero, List, [], ◌∷◌, ◌++◌, length, drop, take, Bool, true, false, cond, refl, ap, sym, ◌∙◌, arith, append_assoc, append-nil}
use Rattle.std.proofs.Math.Seq.{take-add}
use Rattle.std.proofs.lemmas.List.{drop-drop, drop_all, length-drop, take-append-drop}
use Rattle.std.proofs.lemmas.Bool.Decides.{nat_tests}
use Rattle.std.proofs.lemmas.List.Concat.{length-flat_map}
use Rattle.std.specs.Prelude.{nat_lt}
use Rattle.def_grammar.specs.Lines.{InLoad, InText, Line, LoadBlock, load_piece, pieces_from}
use Rattle.def_grammar.specs.Script.{block_bytes, size_of}
use Rattle.wh_script.proofs.LineRuns.{block_len-end, block_len-first, line_len-some, lines_at-end, lines_at-first}
use Rattle.wh_script.specs.Pieces.{before_closing, behind_closing, behind_line, block_at, is_closed, is_closing, line_len, line_of, lines_at}

-- a block is one piece
pub pieces-load : (ls : List Line) (d : Line) (n : List ℕ) (done : List Line) → pieces_from ls (InLoad d n done) ≡ LoadBlock d n (done ++ before_closing ls) (is_closed ls) ∷ pieces_from (behind_closing ls) InText
pieces-load [] d n done = ap (λ xs. LoadBlock d n xs false ∷ []) (sym (append-nil done))
pieces-load (l ∷ ls) d n done = by_test (is_closing l.raw) (pieces-load ls d n (done ++ l ∷ []))
  where
    by_test : (t : Bool) → pieces_from ls (InLoad d n (done ++ l ∷ [])) ≡ LoadBlock d n ((done ++ l ∷ []) ++ before_closing ls) (is_closed ls) ∷ pieces_from (behind_closing ls) InText → load_piece t d n done l (pieces_from ls) ≡ LoadBlock d n (done ++ cond t [] (l ∷ before_closing ls)) (cond t true (is_closed ls)) ∷ pieces_from (cond t ls (behind_closing ls)) InText
    by_test true more = ap (λ xs. LoadBlock d n xs true ∷ pieces_from ls InText) (sym (append-nil done))
    by_test false more = more ∙ ap (λ xs. LoadBlock d n xs (is_closed ls) ∷ pieces_from (behind_closing ls) InText) (append_assoc done (l ∷ []) (before_closing ls))

-- ---- the block whose first line starts at a place

-- how many bytes it has, whether it is closed, and what is behind it
abbrev IsBlock : List ℕ → ℕ → Type 0
IsBlock bytes place =
    (block_bytes (before_closing (lines_at bytes place)) ≡ take (block_at bytes place) (drop place bytes))
    × (is_closed (lines_at bytes place) ≡ nat_lt (place + block_at bytes place) (length bytes))
    × (behind_closing (lines_at bytes place) ≡ lines_at bytes (behind_line bytes (place + block_at bytes place)))

not_below : (m n : ℕ) → n ≤ m → nat_lt m n ≡ false
not_below m n h = grind (arith, nat_tests)

below : (m n : ℕ) → m < n → nat_lt m n ≡ true
below m n h = grind (arith, nat_tests)

block-end : (bytes : List ℕ) (place : ℕ) → length bytes ≤ place → IsBlock bytes place
block-end bytes place h =
    let none : lines_at bytes place ≡ [] = lines_at-end bytes place h in
    let size : block_at bytes place ≡ 0 = block_len-end bytes place h in (
      ap (λ ls. block_bytes (before_closing ls)) none ∙ sym (ap (λ k. take k (drop place bytes)) size),
      ap is_closed none ∙ sym (not_below (place + block_at bytes place) (length bytes) (omega arith)),
      ap behind_closing none ∙ sym (lines_at-end bytes (behind_line bytes (place + block_at bytes place)) (omega arith)),
    )

-- the line closes the block
block-closing : (bytes : List ℕ) (place : ℕ) → place < length bytes → is_closing (line_of bytes place).raw ≡ true → IsBlock bytes place
block-closing bytes place h e =
    let lines = lines_at-first bytes place h in
    let size : block_at bytes place ≡ 0 = block_len-first bytes place h ∙ rw e refl in
    let here : place + block_at bytes place ≡ place = omega (arith, size) in
    let no_bytes : block_bytes (before_closing (line_of bytes place ∷ lines_at bytes (behind_line bytes place))) ≡ [] = rw e refl in
    let closed : is_closed (line_of bytes place ∷ lines_at bytes (behind_line bytes place)) ≡ true = rw e refl in
    let rest : behind_closing (line_of bytes place ∷ lines_at bytes (behind_line bytes place)) ≡ lines_at bytes (behind_line bytes place) = rw e refl in (
      ap (λ ls. block_bytes (before_closing ls)) lines ∙ no_bytes ∙ sym (ap (λ k. take k (drop place bytes)) size),
      ap is_closed lines ∙ closed ∙ sym (below (place + block_at bytes place) (length bytes) (omega arith)),
      ap behind_closing lines ∙ rest ∙ sym (ap (λ p. lines_at bytes (behind_line bytes p)) here),
    )

-- one line more
block-more : (bytes : List ℕ) (place : ℕ) → place < length bytes → is_closing (line_of bytes place).raw ≡ false → IsBlock bytes (behind_line bytes place) → IsBlock bytes place
block-more bytes place h e more =
    let ds = drop place bytes in
    let j = line_len ds in
    let q = behind_line bytes place in
    let lines = lines_at-first bytes place h in
    let size : block_at bytes place ≡ j + block_at bytes q = block_len-first bytes place h ∙ rw e refl in
    let there : q + block_at bytes q ≡ place + block_at bytes place = omega (arith, size) in
    let some_bytes : block_bytes (before_closing (line_of bytes place ∷ lines_at bytes q)) ≡ take j ds ++ block_bytes (before_closing (lines_at bytes q)) = rw e refl in
    let closed : is_closed (line_of bytes place ∷ lines_at bytes q) ≡ is_closed (lines_at bytes q) = rw e refl in
    let rest : behind_closing (line_of bytes place ∷ lines_at bytes q) ≡ behind_closing (lines_at bytes q) = rw e refl in
    let parts : take (block_at bytes place) ds ≡ take j ds ++ take (block_at bytes q) (drop q bytes) =
    ap (λ k. take k ds) size ∙ take-add j (block_at bytes q) ds ∙ ap (λ xs. take j ds ++ take (block_at bytes q) xs) (drop-drop j place bytes) in (
      ap (λ ls. block_bytes (before_closing ls)) lines ∙ some_bytes ∙ ap (λ xs. take j ds ++ xs) more.0 ∙ sym parts,
      ap is_closed lines ∙ closed ∙ more.1 ∙ ap (λ p. nat_lt p (length bytes)) there,
      ap behind_closing lines ∙ rest ∙ more.2 ∙ ap (λ p. lines_at bytes (behind_line bytes p)) there,
    )

pub block-is : (fuel : ℕ) (bytes : List ℕ) (place : ℕ) → length bytes ≤ place + fuel → IsBlock bytes place
block-is zero bytes place few = block-end bytes place (omega arith)
block-is (suc fuel) bytes place few = by_left (length bytes - place) refl (λ h. block-is fuel bytes (behind_line bytes place) (omega (arith, line_len-some (drop place bytes) h)))
  where
    by_test : (t : Bool) → is_closing (line_of bytes place).raw ≡ t → place < length bytes → (0 < length (drop place bytes) → IsBlock bytes (behind_line bytes place)) → IsBlock bytes place
    by_test true e h more = block-closing bytes place h e
    by_test false e h more = block-more bytes place h e (more (rw length-drop (omega arith)))

    by_left : (n : ℕ) → length bytes - place ≡ n → (0 < length (drop place bytes) → IsBlock bytes (behind_line bytes place)) → IsBlock bytes place
    by_left zero e more = block-end bytes place (omega (arith, e))
    by_left (suc n) e more = by_test (is_closing (line_of bytes place).raw) refl (omega (arith, e)) more

pub size_of-bytes : (ls : List Line) → size_of ls ≡ length (block_bytes ls)
size_of-bytes ls = sym (length-flat_map (λ l. l.raw) ls)

-- the lines from a place on have all the bytes that are left
pub lines_at-bytes : (fuel : ℕ) (bytes : List ℕ) (place : ℕ) → length bytes ≤ place + fuel → block_bytes (lines_at bytes place) ≡ drop place bytes
lines_at-bytes zero bytes place few = ap block_bytes (lines_at-end bytes place (omega arith)) ∙ sym (drop_all place bytes (omega arith))
lines_at-bytes (suc fuel) bytes place few = by_left (length bytes - place) refl (λ h. lines_at-bytes fuel bytes (behind_line bytes place) (omega (arith, line_len-some (drop place bytes) h)))
  where
    by_left : (n : ℕ) → length bytes - place ≡ n → (0 < length (drop place bytes) → block_bytes (lines_at bytes (behind_line bytes place)) ≡ drop (behind_line bytes place) bytes) → block_bytes (lines_at bytes place) ≡ drop place bytes
    by_left zero e more = ap block_bytes (lines_at-end bytes place (omega (arith, e))) ∙ sym (drop_all place bytes (omega (arith, e)))
    by_left (suc n) e more =
        let ds = drop place bytes in
        let j = line_len ds in
        ap block_bytes (lines_at-first bytes place (omega (arith, e)))
        ∙ ap (λ xs. take j ds ++ xs) (more (rw length-drop (omega (arith, e))) ∙ sym (drop-drop j place bytes))
        ∙ take-append-drop j ds
