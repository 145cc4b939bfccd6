-- What a change of one view keeps of all views.
use Rattle.std.proofs.Common.{◌≡◌, ◌∙◌, sym, ap, refl, subst, arith, cond, filter, length, not, true, false, zero, suc, Bool, ℕ, ◌+◌, ◌<◌, ◌≤◌, List, [], ◌∷◌, ◌++◌, None, Some, slice_get, slice_set, slice_index_or, take, drop}
use Rattle.std.proofs.lemmas.Bool.Decides.{nat_tests}
use Rattle.std.proofs.lemmas.Option.{none-some, same_Some, slice_get-get_or}
use Rattle.std.specs.Prelude.{nat_lt, position}
use Rattle.std.specs.List.{position_or_len}
use Rattle.wh_base.specs.Lists.{change_where}
use Rattle.wh_view.specs.Kept.{Ascend, Kept, is_numbered, refreshed, suspended, switched, unregistered, with_change}
use Rattle.wh_base.specs.declared.views.ViewEntry.{ViewEntry}

pub view_is : (ks : List Kept) (n : ℕ) (k : Kept) → n < length ks → k ≡ slice_index_or ks n k → slice_get ks n ≡ Some k
view_is ks n k h is = slice_get-get_or ks n k h ∙ ap Some (sym is)

pub set_changed : (change : Kept → Kept) (ks : List Kept) (n : ℕ) (k l : Kept) → slice_get ks n ≡ Some k → l ≡ change k → slice_set ks n l ≡ with_change n change ks
set_changed change [] n k l e is = absurd (none-some k e)
set_changed change (m ∷ ks) zero k l e is = ap (λ v. v ∷ ks) (is ∙ ap change (sym (same_Some m k e)))
set_changed change (m ∷ ks) (suc n) k l e is = ap (λ rest. m ∷ rest) (set_changed change ks n k l e is)

-- ---- numbers that ascend

-- the change keeps the number
abbrev Keeps : (Kept → Kept) → Type 0
Keeps change = (k : Kept) → (change k).view.def.view ≡ k.view.def.view

ascend_from : (low lower made : ℕ) (ks : List Kept) → lower ≤ low → Ascend low made ks → Ascend lower made ks
ascend_from low lower made [] h a = omega (arith, h, a)
ascend_from low lower made (k ∷ ks) h a = (omega (arith, h, a.0), a.1)

ascend_changed : (change : Kept → Kept) (low made n : ℕ) (ks : List Kept) → Keeps change → Ascend low made ks → Ascend low made (with_change n change ks)
ascend_changed change low made n [] keeps a = a
ascend_changed change low made zero (k ∷ ks) keeps a = (subst (λ v. low < v) (sym (keeps k)) a.0, subst (λ v. Ascend v made ks) (sym (keeps k)) a.1)
ascend_changed change low made (suc n) (k ∷ ks) keeps a = (a.0, ascend_changed change k.view.def.view made n ks keeps a.1)

ascend_removed : (n low made : ℕ) (ks : List Kept) → Ascend low made ks → Ascend low made (filter (λ k. not (is_numbered n k)) ks)
ascend_removed n low made [] a = a
ascend_removed n low made (k ∷ ks) a = kept (ascend_removed n k.view.def.view made ks a.1) (not (is_numbered n k))
  where
    kept : Ascend k.view.def.view made (filter (λ l. not (is_numbered n l)) ks) → (b : Bool) → Ascend low made (cond b (k ∷ filter (λ l. not (is_numbered n l)) ks) (filter (λ l. not (is_numbered n l)) ks))
    kept later false = ascend_from k.view.def.view low made (filter (λ l. not (is_numbered n l)) ks) (omega (arith, a.0)) later
    kept later true = (a.0, later)

ascend_added : (low made : ℕ) (ks : List Kept) (k : Kept) → k.view.def.view ≡ made + 1 → Ascend low made ks → Ascend low (made + 1) (ks ++ k ∷ [])
ascend_added low made [] k next a = (omega (arith, next, a), omega (arith, next))
ascend_added low made (l ∷ ks) k next a = (a.0, ascend_added l.view.def.view made ks k next a.1)

-- ---- the place of a number

-- a number below all of these is that of none
absent : (change : Kept → Kept) (n low made : ℕ) (ks : List Kept) → n ≤ low → Ascend low made ks → change_where (is_numbered n) change ks ≡ ks
absent change n low made [] h a = refl
absent change n low made (k ∷ ks) h a =
    let other : is_numbered n k ≡ false = grind (arith, nat_tests, h, a.0) in
    let later : n ≤ k.view.def.view = omega (arith, h, a.0) in
    ap (λ b. cond b (change k) k ∷ change_where (is_numbered n) change ks) other ∙ ap (λ rest. k ∷ rest) (absent change n k.view.def.view made ks later a.1)

-- the place of the first view with this number, and how many there are where none has it
abbrev spot : ℕ → List Kept → ℕ
spot n [] = 0
spot n (k ∷ ks) = cond (is_numbered n k) 0 (suc (spot n ks))

spot_is : (n : ℕ) (ks : List Kept) → position_or_len (is_numbered n) ks ≡ spot n ks
spot_is n [] = refl
spot_is n (k ∷ ks) = here (spot_is n ks) (is_numbered n k)
  where
    here : position_or_len (is_numbered n) ks ≡ spot n ks → (b : Bool) → cond (not b) (1 + position_or_len (is_numbered n) ks) 0 ≡ cond b 0 (suc (spot n ks))
    here later true = refl
    here later false = omega (arith, later)

at_first : (change : Kept → Kept) (n low made : ℕ) (ks : List Kept) → Ascend low made ks → with_change (spot n ks) change ks ≡ change_where (is_numbered n) change ks
at_first change n low made [] a = refl
at_first change n low made (k ∷ ks) a = here (at_first change n k.view.def.view made ks a.1) (is_numbered n k) refl
  where
    here : with_change (spot n ks) change ks ≡ change_where (is_numbered n) change ks → (b : Bool) → is_numbered n k ≡ b
        → with_change (cond b 0 (suc (spot n ks))) change (k ∷ ks) ≡ cond b (change k) k ∷ change_where (is_numbered n) change ks
    here later true is =
        let same : n ≤ k.view.def.view = grind (arith, nat_tests, is) in
        ap (λ rest. change k ∷ rest) (sym (absent change n k.view.def.view made ks same a.1))
    here later false is = ap (λ rest. k ∷ rest) later

-- a number below all of these takes none away
all_stay : (n low made : ℕ) (ks : List Kept) → n ≤ low → Ascend low made ks → filter (λ k. not (is_numbered n k)) ks ≡ ks
all_stay n low made [] h a = refl
all_stay n low made (k ∷ ks) h a =
    let other : not (is_numbered n k) ≡ true = grind (arith, nat_tests, h, a.0) in
    let later : n ≤ k.view.def.view = omega (arith, h, a.0) in
    ap (λ b. cond b (k ∷ filter (λ l. not (is_numbered n l)) ks) (filter (λ l. not (is_numbered n l)) ks)) other ∙ ap (λ rest. k ∷ rest) (all_stay n k.view.def.view made ks later a.1)

taken_at : (n low made : ℕ) (ks : List Kept) → Ascend low made ks → take (spot n ks) ks ++ drop (spot n ks + 1) ks ≡ filter (λ k. not (is_numbered n k)) ks
taken_at n low made [] a = refl
taken_at n low made (k ∷ ks) a = here (taken_at n k.view.def.view made ks a.1) (is_numbered n k) refl
  where
    here : take (spot n ks) ks ++ drop (spot n ks + 1) ks ≡ filter (λ l. not (is_numbered n l)) ks → (b : Bool) → is_numbered n k ≡ b
        → take (cond b 0 (suc (spot n ks))) (k ∷ ks) ++ drop (cond b 0 (suc (spot n ks)) + 1) (k ∷ ks)
        ≡ cond (not b) (k ∷ filter (λ l. not (is_numbered n l)) ks) (filter (λ l. not (is_numbered n l)) ks)
    here later true is =
        let same : n ≤ k.view.def.view = grind (arith, nat_tests, is) in
        sym (all_stay n k.view.def.view made ks same a.1)
    here later false is =
        let next : suc (spot n ks) + 1 ≡ suc (spot n ks + 1) = omega arith in
        ap (λ p. take (suc (spot n ks)) (k ∷ ks) ++ drop p (k ∷ ks)) next ∙ ap (λ rest. k ∷ rest) later

past_end : (change : Kept → Kept) (place : ℕ) (ks : List Kept) → length ks ≤ place → with_change place change ks ≡ ks
past_end change place [] h = refl
past_end change zero (k ∷ ks) h = absurd (none_below (length ks) h)
  where
    none_below : (m : ℕ) → suc m ≤ 0 → ⊥
    none_below m g = omega (arith, g)
past_end change (suc n) (k ∷ ks) h = ap (λ rest. k ∷ rest) (past_end change n ks (omega (arith, h)))

-- ---- what a call on the first view of a number makes

place_is : (b : Bool) (m place : ℕ) → cond b (Some m) None ≡ Some place → m ≡ place
place_is true m place e = same_Some m place e
place_is false m place e = cc

place_none : (b : Bool) (m : ℕ) → cond b (Some m) None ≡ None → b ≡ false
place_none true m e = cc
place_none false m e = refl

pub numbered_switched : (on : Bool) (place made : ℕ) (ks : List Kept) → Ascend 0 made ks → Ascend 0 made (with_change place (switched on) ks)
numbered_switched on place made ks a = ascend_changed (switched on) 0 made place ks (λ k. refl) a

pub numbered_unregistered : (place made : ℕ) (ks : List Kept) → Ascend 0 made ks → Ascend 0 made (with_change place unregistered ks)
numbered_unregistered place made ks a = ascend_changed unregistered 0 made place ks (λ k. refl) a

pub numbered_suspended : (place made : ℕ) (ks : List Kept) → Ascend 0 made ks → Ascend 0 made (with_change place suspended ks)
numbered_suspended place made ks a = ascend_changed suspended 0 made place ks (λ k. refl) a

pub numbered_refreshed : (scn : ℕ) (entries : List ViewEntry) (place made : ℕ) (ks : List Kept) → Ascend 0 made ks → Ascend 0 made (with_change place (refreshed scn entries) ks)
numbered_refreshed scn entries place made ks a = ascend_changed (refreshed scn entries) 0 made place ks (λ k. refl) a

pub numbered_removed : (n made : ℕ) (ks : List Kept) → Ascend 0 made ks → Ascend 0 made (filter (λ k. not (is_numbered n k)) ks)
numbered_removed n made ks a = ascend_removed n 0 made ks a

pub numbered_added : (made : ℕ) (ks : List Kept) (k : Kept) → k.view.def.view ≡ made + 1 → Ascend 0 made ks → Ascend 0 (made + 1) (ks ++ k ∷ [])
numbered_added made ks k next a = ascend_added 0 made ks k next a

spot_at : (n place : ℕ) (ks : List Kept) → position (is_numbered n) ks ≡ Some place → spot n ks ≡ place
spot_at n place ks e =
    let at : ℕ = position_or_len (is_numbered n) ks in
    sym (spot_is n ks) ∙ place_is (nat_lt at (length ks)) at place e

spot_past : (n : ℕ) (ks : List Kept) → position (is_numbered n) ks ≡ None → length ks ≤ spot n ks
spot_past n ks e =
    let at : ℕ = position_or_len (is_numbered n) ks in
    let far : nat_lt at (length ks) ≡ false = place_none (nat_lt at (length ks)) at e in
    let past : length ks ≤ at = grind (arith, nat_tests, far) in
    omega (arith, past, spot_is n ks)

take_none : (n : ℕ) → take {A = Kept} n [] ≡ []
take_none zero = refl
take_none (suc n) = refl

drop_none : (n : ℕ) → drop {A = Kept} n [] ≡ []
drop_none zero = refl
drop_none (suc n) = refl

all_there : (p : ℕ) (ks : List Kept) → length ks ≤ p → ks ≡ take p ks ++ drop (p + 1) ks
all_there p [] h = sym (ap (λ xs. xs ++ drop (p + 1) []) (take_none p) ∙ drop_none (p + 1))
all_there zero (k ∷ ks) h = absurd (none_below (length ks) h)
  where
    none_below : (m : ℕ) → suc m ≤ 0 → ⊥
    none_below m g = omega (arith, g)
all_there (suc p) (k ∷ ks) h =
    let next : suc p + 1 ≡ suc (p + 1) = omega arith in
    ap (λ rest. k ∷ rest) (all_there p ks (omega (arith, h))) ∙ sym (ap (λ m. take (suc p) (k ∷ ks) ++ drop m (k ∷ ks)) next)

pub found_at : (change : Kept → Kept) (n place made : ℕ) (ks : List Kept) → Ascend 0 made ks → position (is_numbered n) ks ≡ Some place → with_change place change ks ≡ change_where (is_numbered n) change ks
found_at change n place made ks a e = ap (λ p. with_change p change ks) (sym (spot_at n place ks e)) ∙ at_first change n 0 made ks a

pub not_found : (change : Kept → Kept) (n made : ℕ) (ks : List Kept) → Ascend 0 made ks → position (is_numbered n) ks ≡ None → ks ≡ change_where (is_numbered n) change ks
not_found change n made ks a e = sym (past_end change (spot n ks) ks (spot_past n ks e)) ∙ at_first change n 0 made ks a

pub removed_at : (n place made : ℕ) (ks : List Kept) → Ascend 0 made ks → position (is_numbered n) ks ≡ Some place → take place ks ++ drop (place + 1) ks ≡ filter (λ k. not (is_numbered n k)) ks
removed_at n place made ks a e = ap (λ p. take p ks ++ drop (p + 1) ks) (sym (spot_at n place ks e)) ∙ taken_at n 0 made ks a

pub numbered_without : (n place made : ℕ) (ks : List Kept) → Ascend 0 made ks → position (is_numbered n) ks ≡ Some place → Ascend 0 made (take place ks ++ drop (place + 1) ks)
numbered_without n place made ks a e = subst (λ ls. Ascend 0 made ls) (sym (removed_at n place made ks a e)) (numbered_removed n made ks a)

pub none_removed : (n made : ℕ) (ks : List Kept) → Ascend 0 made ks → position (is_numbered n) ks ≡ None → ks ≡ filter (λ k. not (is_numbered n k)) ks
none_removed n made ks a e = all_there (spot n ks) ks (spot_past n ks e) ∙ taken_at n 0 made ks a

pub ruleset changing = (view_is, set_changed, numbered_switched, numbered_unregistered, numbered_suspended, numbered_refreshed, numbered_removed, numbered_added, found_at, not_found, removed_at, numbered_without, none_removed)
