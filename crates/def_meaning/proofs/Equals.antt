-- Columns equal by joins: the relation is an equality that has each join, and the least one.
use Rattle.std.proofs.Common.{◌≡◌, ◌∙◌, sym, ap, refl, ℕ, zero, suc, Bool, true, false, cond, not, List, [], ◌∷◌, ◌++◌, length, arith, subst}
use Rattle.std.specs.Cmp.{both_ways}
use Rattle.wh_base.proofs.SameItems.{same_column-Decides, same_column_is}
use Rattle.std.proofs.lemmas.Bool.{and_from, and_parts, or_left, or_right}
use Rattle.std.proofs.lemmas.List.{append-nil}
use Rattle.std.proofs.lemmas.List.Folds.{list_any-append}
use Rattle.std.specs.List.{list_all}
use Rattle.std.specs.Prelude.{◌&&◌, ◌||◌, ◌≤◌, ◌<◌}
use Rattle.wh_base.specs.Columns.{has_column, same_column}
use Rattle.wh_base.specs.declared.columns.ColRef.{ColRef}
use Rattle.wh_base.specs.declared.queries.Edge.{Edge}
use Rattle.def_meaning.specs.Ranges.{IsEquality, IsKept, are_equal, equal_columns, other_end, spread, spread_times}

-- ---- one column

-- ---- lists of columns

-- all columns of the first list are in the second
abbrev pub AreIn : List ColRef → List ColRef → Type 0
AreIn cs ds = (c : ColRef) → has_column cs c ≡ true → has_column ds c ≡ true

in_more : (cs ds : List ColRef) → AreIn cs (cs ++ ds)
in_more cs ds c h = list_any-append (same_column c) cs ds ∙ or_left (has_column cs c) (has_column ds c) h

has_last : (cs : List ColRef) (c : ColRef) → has_column (cs ++ c ∷ []) c ≡ true
has_last cs c =
    list_any-append (same_column c) cs (c ∷ [])
    ∙ or_right (has_column cs c) (has_column (c ∷ []) c) (or_left (same_column c c) false ((same_column-Decides c c).1 refl))

spread-in : (es : List Edge) (cs : List ColRef) → AreIn cs (spread es cs)
spread-in [] cs c h = h
spread-in (e ∷ es) cs c h = spread-in es (cs ++ other_end cs e) c (in_more cs (other_end cs e) c h)

rounds-in : (n : ℕ) (es : List Edge) (cs : List ColRef) → AreIn cs (spread_times n es cs)
rounds-in zero es cs c h = h
rounds-in (suc n) es cs c h = rounds-in n es (spread es cs) c (spread-in es cs c h)

-- ---- what the joins keep, the columns that are reached keep

module _ (test : ColRef → Bool) where
  -- the test is true of each of these columns
  abbrev pub AllPass : List ColRef → Type 0
  AllPass [] = Unit {0}
  AllPass (c ∷ cs) = (test c ≡ true) × AllPass cs

  passes : (cs : List ColRef) (c : ColRef) → AllPass cs → has_column cs c ≡ true → test c ≡ true
  passes [] c all h = cc
  passes (d ∷ cs) c all h = by (same_column c d) refl h (passes cs c all.1)
    where
      by : (b : Bool) → same_column c d ≡ b → (b || has_column cs c) ≡ true → (has_column cs c ≡ true → test c ≡ true) → test c ≡ true
      by true e k rest = ap test (same_column_is c d e) ∙ all.0
      by false e k rest = rest k

  pass-append : (cs ds : List ColRef) → AllPass cs → AllPass ds → AllPass (cs ++ ds)
  pass-append [] ds all more = more
  pass-append (c ∷ cs) ds all more = (all.0, pass-append cs ds all.1 more)

  other-passes : (cs : List ColRef) (e : Edge) → test e.from ≡ test e.to → AllPass cs → AllPass (other_end cs e)
  other-passes cs e h all = by (has_column cs e.from) (has_column cs e.to) refl refl
    where
      by : (b c : Bool) → has_column cs e.from ≡ b → has_column cs e.to ≡ c → AllPass (cond (b && not c) (e.to ∷ []) (cond (c && not b) (e.from ∷ []) []))
      by true true f g = tt
      by true false f g = (sym h ∙ passes cs e.from all f, tt)
      by false true f g = (h ∙ passes cs e.to all g, tt)
      by false false f g = tt

  spread-passes : (es : List Edge) (cs : List ColRef) → IsKept test es → AllPass cs → AllPass (spread es cs)
  spread-passes [] cs kept all = all
  spread-passes (e ∷ es) cs kept all = spread-passes es (cs ++ other_end cs e) kept.1 (pass-append cs (other_end cs e) all (other-passes cs e kept.0 all))

  rounds-pass : (n : ℕ) (es : List Edge) (cs : List ColRef) → IsKept test es → AllPass cs → AllPass (spread_times n es cs)
  rounds-pass zero es cs kept all = all
  rounds-pass (suc n) es cs kept all = rounds-pass n es (spread es cs) kept (spread-passes es cs kept all)

  equal-passes : (es : List Edge) (a b : ColRef) → IsKept test es → test a ≡ true → are_equal es a b ≡ true → test b ≡ true
  equal-passes es a b kept h k = passes (equal_columns es a) b (rounds-pass (length es) es (a ∷ []) kept (h, tt)) k

-- ---- as many rounds as there are joins reach all

-- how many of these joins don't have both columns among these
abbrev pub open_joins : List ColRef → List Edge → ℕ
open_joins cs [] = 0
open_joins cs (e ∷ es) = cond (has_column cs e.from && has_column cs e.to) (open_joins cs es) (suc (open_joins cs es))

open_few : (cs : List ColRef) (es : List Edge) → open_joins cs es ≤ length es
open_few cs [] = omega arith
open_few cs (e ∷ es) = by (has_column cs e.from && has_column cs e.to) (open_few cs es)
  where
    by : (b : Bool) → open_joins cs es ≤ length es → cond b (open_joins cs es) (suc (open_joins cs es)) ≤ suc (length es)
    by true h = omega (arith, h)
    by false h = omega (arith, h)

open_fall : (cs ds : List ColRef) → AreIn cs ds → (es : List Edge) → open_joins ds es ≤ open_joins cs es
open_fall cs ds in_ [] = omega arith
open_fall cs ds in_ (e ∷ es) =
    by (has_column cs e.from && has_column cs e.to) (has_column ds e.from && has_column ds e.to)
    (λ h. and_from (has_column ds e.from) (has_column ds e.to)
    (in_ e.from (and_parts (has_column cs e.from) (has_column cs e.to) h).0)
    (in_ e.to (and_parts (has_column cs e.from) (has_column cs e.to) h).1))
    (open_fall cs ds in_ es)
  where
    by : (b c : Bool) → (b ≡ true → c ≡ true) → open_joins ds es ≤ open_joins cs es
        → cond c (open_joins ds es) (suc (open_joins ds es)) ≤ cond b (open_joins cs es) (suc (open_joins cs es))
    by true true f h = h
    by true false f h = let e : false ≡ true = f refl in cc
    by false true f h = omega (arith, h)
    by false false f h = omega (arith, h)

cond-true : (b : Bool) (m n : ℕ) → b ≡ true → cond b m n ≡ m
cond-true true m n h = refl
cond-true false m n h = cc

cond-few : (b : Bool) (n : ℕ) → cond b n (suc n) ≤ suc n
cond-few true n = omega arith
cond-few false n = omega arith

-- a round adds no column, or leaves fewer joins open
data Move (stays moves : Type 0) : Type 0 where
  Stays : stays → Move stays moves
  Moves : moves → Move stays moves

spread-moves : (es : List Edge) (cs : List ColRef) → Move (IsKept (has_column cs) es) (open_joins (spread es cs) es < open_joins cs es)
spread-moves [] cs = Stays tt
spread-moves (e ∷ es) cs = by (has_column cs e.from) (has_column cs e.to) refl refl (spread-moves es cs)
  where
    -- both columns are in what a round leaves
    closed : (ds : List ColRef) → has_column ds e.from ≡ true → has_column ds e.to ≡ true → (has_column (spread es ds) e.from && has_column (spread es ds) e.to) ≡ true
    closed ds f g = and_from (has_column (spread es ds) e.from) (has_column (spread es ds) e.to) (spread-in es ds e.from f) (spread-in es ds e.to g)

    -- as few as that are open where both columns are in
    falls : (ds : List ColRef) → has_column ds e.from ≡ true → has_column ds e.to ≡ true → open_joins (spread es ds) (e ∷ es) ≡ open_joins (spread es ds) es
    falls ds f g = cond-true (has_column (spread es ds) e.from && has_column (spread es ds) e.to) (open_joins (spread es ds) es) (suc (open_joins (spread es ds) es)) (closed ds f g)

    both_in : has_column cs e.from ≡ true → has_column cs e.to ≡ true
        → Move (IsKept (has_column cs) es) (open_joins (spread es cs) es < open_joins cs es)
        → Move (IsKept (has_column cs) (e ∷ es)) (open_joins (spread es cs) (e ∷ es) < open_joins cs es)
    both_in f g (Stays k) = Stays (f ∙ sym g, k)
    both_in f g (Moves m) = Moves (omega (arith, m, falls cs f g))

    none_in : has_column cs e.from ≡ false → has_column cs e.to ≡ false
        → Move (IsKept (has_column cs) es) (open_joins (spread es cs) es < open_joins cs es)
        → Move (IsKept (has_column cs) (e ∷ es)) (open_joins (spread es cs) (e ∷ es) < suc (open_joins cs es))
    none_in f g (Stays k) = Stays (f ∙ sym g, k)
    none_in f g (Moves m) =
        Moves (omega (arith, m, cond-few (has_column (spread es cs) e.from && has_column (spread es cs) e.to) (open_joins (spread es cs) es)))

    one_in : (c : ColRef) → has_column (cs ++ c ∷ []) e.from ≡ true → has_column (cs ++ c ∷ []) e.to ≡ true
        → Move (IsKept (has_column cs) (e ∷ es)) (open_joins (spread es (cs ++ c ∷ [])) (e ∷ es) < suc (open_joins cs es))
    one_in c f g =
        Moves (omega (arith, falls (cs ++ c ∷ []) f g, open_fall cs (spread es (cs ++ c ∷ [])) (λ d h. spread-in es (cs ++ c ∷ []) d (in_more cs (c ∷ []) d h)) es))

    by : (b c : Bool) → has_column cs e.from ≡ b → has_column cs e.to ≡ c
        → Move (IsKept (has_column cs) es) (open_joins (spread es cs) es < open_joins cs es)
        → Move (IsKept (has_column cs) (e ∷ es))
        (open_joins (spread es (cs ++ cond (b && not c) (e.to ∷ []) (cond (c && not b) (e.from ∷ []) []))) (e ∷ es) < cond (b && c) (open_joins cs es) (suc (open_joins cs es)))
    by true true f g m =
        subst (λ ds. Move (IsKept (has_column cs) (e ∷ es)) (open_joins (spread es ds) (e ∷ es) < open_joins cs es)) (sym (append-nil cs)) (both_in f g m)
    by true false f g m = one_in e.to (in_more cs (e.to ∷ []) e.from f) (has_last cs e.to)
    by false true f g m = one_in e.from (has_last cs e.from) (in_more cs (e.from ∷ []) e.to g)
    by false false f g m =
        subst (λ ds. Move (IsKept (has_column cs) (e ∷ es)) (open_joins (spread es ds) (e ∷ es) < suc (open_joins cs es))) (sym (append-nil cs)) (none_in f g m)

-- what the joins keep already, a round leaves as it is
other-none : (cs : List ColRef) (e : Edge) → has_column cs e.from ≡ has_column cs e.to → other_end cs e ≡ []
other-none cs e h = by (has_column cs e.from) (has_column cs e.to) h
  where
    by : (b c : Bool) → b ≡ c → cond (b && not c) (e.to ∷ []) (cond (c && not b) (e.from ∷ []) []) ≡ []
    by true true h = refl
    by false false h = refl
    by true false h = cc
    by false true h = cc

spread-stays : (es : List Edge) (cs : List ColRef) → IsKept (has_column cs) es → spread es cs ≡ cs
spread-stays [] cs kept = refl
spread-stays (e ∷ es) cs kept =
    ap (λ more. spread es (cs ++ more)) (other-none cs e kept.0) ∙ (ap (spread es) (append-nil cs) ∙ spread-stays es cs kept.1)

rounds-stay : (n : ℕ) (es : List Edge) (cs : List ColRef) → IsKept (has_column cs) es → spread_times n es cs ≡ cs
rounds-stay zero es cs kept = refl
rounds-stay (suc n) es cs kept = ap (spread_times n es) (spread-stays es cs kept) ∙ rounds-stay n es cs kept

-- no join is open
none_open : (cs : List ColRef) (es : List Edge) → open_joins cs es ≤ 0 → IsKept (has_column cs) es
none_open cs [] h = tt
none_open cs (e ∷ es) h = by (has_column cs e.from) (has_column cs e.to) refl refl h (none_open cs es)
  where
    by : (b c : Bool) → has_column cs e.from ≡ b → has_column cs e.to ≡ c → cond (b && c) (open_joins cs es) (suc (open_joins cs es)) ≤ 0
        → (open_joins cs es ≤ 0 → IsKept (has_column cs) es) → IsKept (has_column cs) (e ∷ es)
    by true true f g few rest = (f ∙ sym g, rest few)
    by true false f g few rest = absurd (omega (arith, few))
    by false true f g few rest = absurd (omega (arith, few))
    by false false f g few rest = absurd (omega (arith, few))

rounds-keep : (n : ℕ) (es : List Edge) (cs : List ColRef) → open_joins cs es ≤ n → IsKept (has_column (spread_times n es cs)) es
rounds-keep zero es cs few = none_open cs es few
rounds-keep (suc n) es cs few = by (spread-moves es cs) (rounds-keep n es (spread es cs))
  where
    by : Move (IsKept (has_column cs) es) (open_joins (spread es cs) es < open_joins cs es)
        → (open_joins (spread es cs) es ≤ n → IsKept (has_column (spread_times n es (spread es cs))) es)
        → IsKept (has_column (spread_times n es (spread es cs))) es
    by (Stays k) rest = subst (λ ds. IsKept (has_column ds) es) (sym (rounds-stay (suc n) es cs k)) k
    by (Moves m) rest = rest (omega (arith, m, few))

-- ---- the relation

module _ (es : List Edge) where
  equal-kept : (a : ColRef) → IsKept (are_equal es a) es
  equal-kept a = rounds-keep (length es) es (a ∷ []) (open_few (a ∷ []) es)

  equal-itself : (a : ColRef) → are_equal es a a ≡ true
  equal-itself a = rounds-in (length es) es (a ∷ []) a (or_left (same_column a a) false ((same_column-Decides a a).1 refl))

  equal-third : (a b c : ColRef) → are_equal es a b ≡ true → are_equal es b c ≡ true → are_equal es a c ≡ true
  equal-third a b c h k = equal-passes (are_equal es a) es b c (equal-kept a) h k

  -- the columns of these joins are equal, one way and the other
  from-to : (e : Edge) → are_equal es e.from e.from ≡ are_equal es e.from e.to → are_equal es e.from e.to ≡ true
  from-to e k = sym k ∙ equal-itself e.from

  to-from : (e : Edge) → are_equal es e.to e.from ≡ are_equal es e.to e.to → are_equal es e.to e.from ≡ true
  to-from e k = k ∙ equal-itself e.to

  turned-kept : (a : ColRef) (ds : List Edge) → ((c : ColRef) → IsKept (are_equal es c) ds) → IsKept (λ c. are_equal es c a) ds
  turned-kept a [] kept = tt
  turned-kept a (e ∷ ds) kept = (
    both_ways (are_equal es e.from a) (are_equal es e.to a)
        (λ h. equal-third e.to e.from a (to-from e (kept e.to).0) h)
        (λ h. equal-third e.from e.to a (from-to e (kept e.from).0) h),
    turned-kept a ds (λ c. (kept c).1),
  )

  equal-turned : (a b : ColRef) → are_equal es a b ≡ true → are_equal es b a ≡ true
  equal-turned a b h = equal-passes (λ c. are_equal es c a) es a b (turned-kept a es equal-kept) (equal-itself a) h

  all-joined : (ds : List Edge) → ((c : ColRef) → IsKept (are_equal es c) ds) → list_all (λ e. are_equal es e.from e.to) ds ≡ true
  all-joined [] kept = refl
  all-joined (e ∷ ds) kept =
      and_from (are_equal es e.from e.to) (list_all (λ d. are_equal es d.from d.to) ds) (from-to e (kept e.from).0) (all-joined ds (λ c. (kept c).1))

-- columns equal by joins are so in the sense of the law
pub are_equal-is : (edges : List Edge) → IsEquality edges (are_equal edges)
are_equal-is edges = record {
  itself = equal-itself edges;
  both_ways = equal-turned edges;
  over_third = equal-third edges;
  joins = all-joined edges edges (equal-kept edges);
  no_others = λ test kept a b h.
      both_ways (test a) (test b) (λ t. equal-passes test edges a b kept t h) (λ t. equal-passes test edges b a kept t (equal-turned edges a b h));
}
