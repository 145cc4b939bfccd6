-- What stands behind the end of a script, and a script without an end.
use Rattle.std.proofs.Common.{◌≡◌, ℕ, ◌≤◌, ◌<◌, ◌+◌, ◌-◌, suc, List, [], ◌∷◌, length, drop, get_or, Bool, true, false, Option, Some, None, cond, is_none, refl, ap, sym, ◌∙◌, arith, ◌&&◌, ◌||◌, add-zero, max}
use Rattle.std.proofs.lemmas.Bool.{and_from, and_parts, or_right}
use Rattle.std.proofs.lemmas.List.{drop_all, drop_more, get_or-drop}
use Rattle.std.proofs.lemmas.Str.{utf8_valid_len_le, utf8_valid_len-IsUtf8}
use Rattle.std.specs.Prelude.{◌==◌, count_by, not, unwrap_or}
use Rattle.def_built.specs.Form.{draft_is_built, script_is_built, sections_are_built, views_are_built}
use Rattle.def_built.specs.Forms.{is_built}
use Rattle.def_built.specs.declared.forms.Form.TheVariants as forms
use Rattle.def_grammar.specs.Lines.{lines_of, before_last, onto_first, placed_lines, raw_lines}
use Rattle.def_grammar.specs.Script.{Draft, first_black, is_white, line_at, sections_of}
use Rattle.wh_base.specs.Lists.{is_empty, where_true}
use Rattle.wh_base.specs.declared.statements.Script.{Script}
use Rattle.wh_script.proofs.Counts.{count_by-append}
use Rattle.wh_script.proofs.Ends.{before_last-take}
use Rattle.wh_script.specs.Built.{parts_are_built}
use Rattle.wh_script.specs.Pieces.{is_white_before}

-- ---- white space

black_alone : (place : ℕ) (white cr : Bool) → where_true (not white) place ≡ cond (white || (cr && false)) None (Some place)
black_alone place true cr = refl
black_alone place false true = refl
black_alone place false false = refl

first_black-front : (place b : ℕ) (bs : List ℕ) → first_black place (b ∷ bs) ≡ cond (is_white_before b (get_or bs 0 0)) (first_black (suc place) bs) (Some place)
first_black-front place b [] = black_alone place (is_white b) (b == 13)
first_black-front place b (c ∷ bs) = refl

-- a byte of a text
pub first_black-at : (bytes : List ℕ) (at : ℕ) → at < length bytes → first_black at (drop at bytes) ≡ cond (is_white_before (get_or bytes at 0) (get_or bytes (at + 1) 0)) (first_black (at + 1) (drop (at + 1) bytes)) (Some at)
first_black-at bytes at h =
    let one : suc at ≡ at + 1 = omega arith in
    let next : get_or (drop (at + 1) bytes) 0 0 ≡ get_or bytes (at + 1) 0 = get_or-drop (at + 1) bytes 0 0 ∙ ap (λ i. get_or bytes i 0) (add-zero (at + 1)) in
    rw (drop_more bytes at 0 h) (first_black-front at (get_or bytes at 0) (drop (at + 1) bytes) ∙ rw (next, one) refl)

pub first_black-end : (bytes : List ℕ) (at : ℕ) → length bytes ≤ at → first_black at (drop at bytes) ≡ None
first_black-end bytes at h = rw (drop_all at bytes h) refl

pub ruleset blacks = (first_black-at, first_black-end)

pub ruleset valid = (utf8_valid_len_le, utf8_valid_len-IsUtf8)

-- ---- the script that was read

-- a draft that is built makes a script that is built
pub finish-built : (d : Draft) (s : Script) → s ≡ record { sections = sections_of d; order = unwrap_or d.order []; workers = unwrap_or d.workers 0 } → draft_is_built d ≡ true → script_is_built s ≡ true
finish-built d s e h =
    let both = and_parts (sections_are_built (sections_of d) && views_are_built (sections_of d)) (parts_are_built d) h in
    let parts = and_parts (is_none d.block || is_built forms.Block) ((is_none d.order || is_built forms.Order) && (is_none d.workers || is_built forms.Workers)) both.1 in
    let last = and_parts (is_none d.order || is_built forms.Order) (is_none d.workers || is_built forms.Workers) parts.1 in
    rw e (and_from _ _ both.0 (and_from _ _ (by_order d.order last.0) (by_workers d.workers last.1)))
  where
    by_order : (o : Option (List ℕ)) → (is_none o || is_built forms.Order) ≡ true → (is_empty (unwrap_or o []) || is_built forms.Order) ≡ true
    by_order None k = refl
    by_order (Some ns) k = or_right (is_empty ns) (is_built forms.Order) k

    by_workers : (o : Option ℕ) → (is_none o || is_built forms.Workers) ≡ true → ((unwrap_or o 0 == 0) || is_built forms.Workers) ≡ true
    by_workers None k = refl
    by_workers (Some n) k = or_right (n == 0) (is_built forms.Workers) k

pub ruleset finishes = (finish-built)

-- ---- the last line

count-yes : (b : ℕ) (bs : List ℕ) → (b == 10) ≡ true → count_by (λ c. c == 10) (b ∷ bs) ≡ suc (count_by (λ c. c == 10) bs)
count-yes b bs e = count_by-append (λ c. c == 10) (b ∷ []) bs ∙ rw e (omega arith)

count-no : (b : ℕ) (bs : List ℕ) → (b == 10) ≡ false → count_by (λ c. c == 10) (b ∷ bs) ≡ count_by (λ c. c == 10) bs
count-no b bs e = count_by-append (λ c. c == 10) (b ∷ []) bs ∙ rw e (omega arith)

-- each line but the last ends before the last byte
count_lines : (b : ℕ) (bs : List ℕ) → length (raw_lines (b ∷ bs)) ≡ suc (count_by (λ c. c == 10) (before_last (b ∷ bs)))
count_lines b [] = by_test (b == 10)
  where
    by_test : (t : Bool) → length (cond t ((b ∷ []) ∷ []) ((b ∷ []) ∷ [])) ≡ 1
    by_test true = refl
    by_test false = refl
count_lines b (c ∷ bs) = by_test (b == 10) refl (count_lines c bs)
  where
    onto-length : (ls : List (List ℕ)) (n : ℕ) → length ls ≡ suc n → length (onto_first b ls) ≡ suc n
    onto-length [] n h = absurd (omega arith)
    onto-length (l ∷ ls) n h = h

    by_test : (t : Bool) → (b == 10) ≡ t → length (raw_lines (c ∷ bs)) ≡ suc (count_by (λ d. d == 10) (before_last (c ∷ bs))) → length (cond t ((b ∷ []) ∷ raw_lines (c ∷ bs)) (onto_first b (raw_lines (c ∷ bs)))) ≡ suc (count_by (λ d. d == 10) (b ∷ before_last (c ∷ bs)))
    by_test true e more = ap suc (more ∙ sym (count-yes b (before_last (c ∷ bs)) e))
    by_test false e more = onto-length (raw_lines (c ∷ bs)) (count_by (λ d. d == 10) (before_last (c ∷ bs))) more ∙ ap suc (sym (count-no b (before_last (c ∷ bs)) e))

length-placed : (n place : ℕ) (ls : List (List ℕ)) → length (placed_lines n place ls) ≡ length ls
length-placed n place [] = refl
length-placed n place (l ∷ ls) = ap suc (length-placed (suc n) (place + length l) ls)

-- the last line that has a byte is that of the last byte
pub last_line : (bytes : List ℕ) → max 1 (length (lines_of bytes)) ≡ line_at bytes (length bytes - 1)
last_line [] = refl
last_line (b ∷ bs) =
    let counted : length (lines_of (b ∷ bs)) ≡ line_at (b ∷ bs) (length (b ∷ bs) - 1) =
    length-placed 1 0 (raw_lines (b ∷ bs)) ∙ count_lines b bs ∙ ap (λ xs. suc (count_by (λ c. c == 10) xs)) (before_last-take (b ∷ bs)) in
    omega (arith, counted)

pub ruleset ends = (last_line)
