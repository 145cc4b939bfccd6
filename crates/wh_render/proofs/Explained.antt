-- The lines of EXPLAIN MVIEW from a place on.
use Rattle.std.specs.Prelude.{List, Option, Some, [], drop, map, slice_get, zip, ℕ, ◌<◌, ◌++◌, ◌+◌, ◌∷◌}
use Rattle.std.proofs.Common.{◌≡◌, add-one, ap, arith, get_or, length, min, refl, suc, sym}
use Rattle.std.proofs.Math.Seq.{drop-cons}
use Rattle.std.proofs.lemmas.Option.{get_or_from_slice_get, slice_get_within}
use Rattle.std.proofs.lemmas.List.{length-drop, nil_from_length}
use Rattle.std.proofs.lemmas.Slice.Zip.{length-zip}
use Rattle.wh_base.specs.declared.replies.Reason.{Reason}
use Rattle.def_transcript.specs.Texts.{explain_line, explain_names, lines_text}

-- one pair and the others
zip-drop : {A B : Type 0} (at : ℕ) (xs : List A) (ys : List B) (x : A) (y : B) → slice_get xs at ≡ Some x → at < length ys → y ≡ get_or ys at y → zip (drop at xs) (drop at ys) ≡ (x, y) ∷ zip (drop (at + 1) xs) (drop (at + 1) ys)
zip-drop at xs ys x y found within read =
    let names : drop at xs ≡ get_or xs at x ∷ drop (suc at) xs = drop-cons xs at x (slice_get_within xs at x found) in
    let items : drop at ys ≡ get_or ys at y ∷ drop (suc at) ys = drop-cons ys at y within in
    rw (add-one at, names, items, get_or_from_slice_get xs at x x found, sym read) refl

abbrev pub lines_from : ℕ → List (Option Reason) → List ℕ
lines_from at reasons = lines_text (map explain_line (zip (drop at explain_names) (drop at reasons)))

pub explain-step : (at : ℕ) (reasons : List (Option Reason)) (name : List ℕ) (reason : Option Reason) → slice_get explain_names at ≡ Some name → at < length reasons → reason ≡ get_or reasons at reason → lines_from at reasons ≡ (explain_line (name, reason) ++ 10 ∷ []) ++ lines_from (at + 1) reasons
explain-step at reasons name reason found within read = ap (λ ps. lines_text (map explain_line ps)) (zip-drop at explain_names reasons name reason found within read)

-- no line is left
pub explain-end : (at : ℕ) (reasons : List (Option Reason)) → at ≡ min (length reasons) 9 → lines_from at reasons ≡ []
explain-end at reasons ended =
    let left : length (zip (drop at explain_names) (drop at reasons)) ≡ 0 = rw (length-zip (drop at explain_names) (drop at reasons), length-drop at explain_names, length-drop at reasons) (omega arith) in
    ap (λ ps. lines_text (map explain_line ps)) (nil_from_length (zip (drop at explain_names) (drop at reasons)) left)
