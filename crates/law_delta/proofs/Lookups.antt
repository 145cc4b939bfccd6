-- Entries with keys apart are determined by the row at each key.
use Rattle.std.proofs.Common.{◌≡◌, ◌∙◌, sym, ap, subst, refl, arith, ◌+◌, Bool, true, false, cond, not, List, [], ◌∷◌, Option, Some, None}
use Rattle.std.specs.Prelude.{filter}
use Rattle.wh_base.proofs.Same.{same_values-Decides}
use Rattle.wh_base.proofs.Sorting.{SameCounts, times}
use Rattle.wh_base.specs.Values.{same_values}
use Rattle.wh_base.specs.declared.values.Value.{Value}
use Rattle.wh_base.specs.declared.views.ViewEntry.{ViewEntry}
use Rattle.law_delta.specs.Moved.{found_row, KeysApart}

-- ---- sameness of keys

pub same_is : (j k : List Value) → same_values j k ≡ true → j ≡ k
same_is j k h = (same_values-Decides j k).0 h

pub is_same : (j k : List Value) → j ≡ k → same_values j k ≡ true
is_same j k h = (same_values-Decides j k).1 h

pub same_turns : (j k : List Value) → same_values j k ≡ same_values k j
same_turns j k = by (same_values j k) (same_values k j) refl refl
  where
    by : (a b : Bool) → same_values j k ≡ a → same_values k j ≡ b → a ≡ b
    by true true e f = refl
    by false false e f = refl
    by true false e f = let g : same_values k j ≡ true = is_same k j (sym (same_is j k e)) in cc
    by false true e f = let g : same_values j k ≡ true = is_same j k (sym (same_is k j f)) in cc

-- ---- without a key

gone : (b : Bool) (o : Option (List Value)) → o ≡ None → cond b None o ≡ None
gone true o x = refl
gone false o x = x

pub without : List Value → List ViewEntry → List ViewEntry
without k es = filter (λ e. not (same_values e.key k)) es

found-without : (j k : List Value) (es : List ViewEntry) → found_row j (without k es) ≡ cond (same_values k j) None (found_row j es)
unfolding without
found-without j k [] = sym (gone (same_values k j) None refl)
found-without j k (e ∷ es) = by (same_values e.key k) (same_values e.key j) (same_values k j) refl refl refl (found-without j k es)
  where
    by : (a b c : Bool) → same_values e.key k ≡ a → same_values e.key j ≡ b → same_values k j ≡ c → found_row j (filter (λ e. not (same_values e.key k)) es) ≡ cond c None (found_row j es)
        → found_row j (cond (not a) (e ∷ filter (λ e. not (same_values e.key k)) es) (filter (λ e. not (same_values e.key k)) es)) ≡ cond c None (cond b (Some e.row) (found_row j es))
    by true b true x y z h = h
    by true true false x y z h = let g : same_values k j ≡ true = is_same k j (sym (same_is e.key k x) ∙ same_is e.key j y) in cc
    by true false false x y z h = h
    by false true true x y z h = let g : same_values e.key k ≡ true = is_same e.key k (same_is e.key j y ∙ sym (same_is k j z)) in cc
    by false true false x y z h = rw y
    by false false true x y z h = rw y h
    by false false false x y z h = rw y h

apart-without : (k : List Value) (es : List ViewEntry) → KeysApart es → KeysApart (without k es)
unfolding without
apart-without k [] h = tt
apart-without k (e ∷ es) h = by (same_values e.key k) (apart-without k es h.1)
  where
    by : (a : Bool) → KeysApart (filter (λ e. not (same_values e.key k)) es) → KeysApart (cond (not a) (e ∷ filter (λ e. not (same_values e.key k)) es) (filter (λ e. not (same_values e.key k)) es))
    by true rest = rest
    by false rest = (found-without e.key k es ∙ gone (same_values k e.key) (found_row e.key es) h.0, rest)

-- a list without the key already
without-none : (k : List Value) (es : List ViewEntry) → found_row k es ≡ None → without k es ≡ es
unfolding without
without-none k [] h = refl
without-none k (e ∷ es) h = by (without-none k es) (same_values e.key k) h
  where
    by : (found_row k es ≡ None → filter (λ e. not (same_values e.key k)) es ≡ es) → (a : Bool) → cond a (Some e.row) (found_row k es) ≡ None → cond (not a) (e ∷ filter (λ e. not (same_values e.key k)) es) (filter (λ e. not (same_values e.key k)) es) ≡ e ∷ es
    by more true x = cc
    by more false x = ap (λ rest. e ∷ rest) (more x)

-- the entry of a key, and the others
times-without : (p : ViewEntry → Bool) (k r : List Value) (es : List ViewEntry) → KeysApart es → found_row k es ≡ Some r → times p es ≡ cond (p (record { key = k; row = r })) 1 0 + times p (without k es)
unfolding without
times-without p k r [] apart h = cc
times-without p k r (e ∷ es) apart h = by (times-without p k r es apart.1) (same_values e.key k) refl h
  where
    by : (found_row k es ≡ Some r → times p es ≡ cond (p (record { key = k; row = r })) 1 0 + times p (filter (λ e. not (same_values e.key k)) es)) → (a : Bool) → same_values e.key k ≡ a → cond a (Some e.row) (found_row k es) ≡ Some r
        → cond (p e) 1 0 + times p es ≡ cond (p (record { key = k; row = r })) 1 0 + times p (cond (not a) (e ∷ filter (λ e. not (same_values e.key k)) es) (filter (λ e. not (same_values e.key k)) es))
    by more true x y =
        let key : e.key ≡ k = same_is e.key k x in
        let row : e.row ≡ r = cc in
        let whole : e ≡ record { key = k; row = r } = λ i. record { key = key i; row = row i } in
        let none : found_row k es ≡ None = subst (λ j. found_row j es ≡ None) key apart.0 in
        let rest : filter (λ e. not (same_values e.key k)) es ≡ es = without-none k es none in
        λ i. cond (p (whole i)) 1 0 + times p (sym rest i)
    by more false x y = let t : times p es ≡ cond (p (record { key = k; row = r })) 1 0 + times p (filter (λ e. not (same_values e.key k)) es) = more y in omega arith

-- ---- the same rows at all keys

pub lookups_same : (es fs : List ViewEntry) → KeysApart es → KeysApart fs → ((k : List Value) → found_row k es ≡ found_row k fs) → SameCounts es fs
lookups_same [] [] apart_e apart_f same p = refl
lookups_same [] (f ∷ fs) apart_e apart_f same p =
    let e : None ≡ cond (same_values f.key f.key) (Some f.row) (found_row f.key fs) = same f.key in
    let g : None ≡ Some f.row = e ∙ (λ i. cond (is_same f.key f.key refl i) (Some f.row) (found_row f.key fs)) in
    cc
lookups_same (e ∷ es) fs apart_e apart_f same p =
    let here : found_row e.key fs ≡ Some e.row = sym (same e.key) ∙ (λ i. cond (is_same e.key e.key refl i) (Some e.row) (found_row e.key es)) in
    let others : (j : List Value) → found_row j es ≡ found_row j (without e.key fs) = λ j. by j (same_values e.key j) refl (same j) ∙ sym (found-without j e.key fs) in
    let rest : times p es ≡ times p (without e.key fs) = lookups_same es (without e.key fs) apart_e.1 (apart-without e.key fs apart_f) others p in
    let both : times p fs ≡ cond (p e) 1 0 + times p (without e.key fs) = times-without p e.key e.row fs apart_f here in
    omega arith
  where
    by : (j : List Value) (b : Bool) → same_values e.key j ≡ b → cond b (Some e.row) (found_row j es) ≡ found_row j fs → found_row j es ≡ cond b None (found_row j fs)
    by j true x y = subst (λ k. found_row k es ≡ None) (same_is e.key j x) apart_e.0
    by j false x y = y
