-- The best of the views that an image keeps is the choice of its catalog.
use Rattle.std.proofs.Common.{◌≡◌, ◌∙◌, sym, ap, refl, subst, cond, true, false, Bool, ℕ, List, [], ◌∷◌, Option, None, Some, Result, Ok, Err, IfOk, Less, Equal, Greater, length, map, nat_lt, filter_map, option_map, ◌==◌}
use Rattle.std.specs.List.{All, cons_option}
use Rattle.std.specs.Ordering.{is_lt}
use Rattle.std.proofs.lemmas.List.Elements.{All-head, All-tail}
use Rattle.wh_base.specs.Lists.{head, least_by, option_case, put_in_order, sort_onto, where_true}
use Rattle.wh_base.specs.declared.queries.StarQuery.{StarQuery}
use Rattle.wh_base.specs.declared.statements.Level.{Level}
use Rattle.wh_base.specs.declared.views.Class.TheVariants.{Full}
use Rattle.wh_base.specs.declared.views.Plan.{Plan}
use Rattle.wh_base.specs.declared.views.Plan.TheVariants as plan
use Rattle.def_choice.specs.Choice.{Candidate, candidate, candidate_cmp, choice, class_is_built, view_plan}
use Rattle.def_history.specs.Catalog.{Catalog}
use Rattle.def_history.specs.Staleness.{content}
use Rattle.wh_image.specs.Standing.{StandsFor}
use Rattle.wh_base.specs.declared.tokens.Token.{Token}
use Rattle.wh_rewrite.proofs.Candidates.{candidate_is}
use Rattle.wh_rewrite.proofs.Fresh.{IsOverTables, IsWhole, all_over_tables, all_whole}
use Rattle.wh_rewrite.specs.Served.{IsFullPlan, best_from, lesser, plan_by, serves}
use Rattle.wh_table.specs.Stored.{Stored}
use Rattle.wh_view.specs.Kept.{AllKept, Kept}

-- ---- the first of least rank, kept while the list goes on

abbrev keep : Option Candidate → Candidate → Option Candidate
keep None x = Some x
keep (Some y) x = cond (is_lt (candidate_cmp x y)) (Some x) (Some y)

abbrev keep_all : Option Candidate → List Candidate → Option Candidate
keep_all o [] = o
keep_all o (x ∷ xs) = keep_all (keep o x) xs

head_put : (x : Candidate) (ys : List Candidate) → head (put_in_order candidate_cmp x ys) ≡ keep (head ys) x
head_put x [] = refl
head_put x (y ∷ ys) = by (is_lt (candidate_cmp x y))
  where
    by : (b : Bool) → head (cond b (x ∷ y ∷ ys) (y ∷ put_in_order candidate_cmp x ys)) ≡ cond b (Some x) (Some y)
    by true = refl
    by false = refl

head_sort : (done xs : List Candidate) → head (sort_onto candidate_cmp done xs) ≡ keep_all (head done) xs
head_sort done [] = refl
head_sort done (x ∷ xs) = head_sort (put_in_order candidate_cmp x done) xs ∙ ap (λ o. keep_all o xs) (head_put x done)

-- ---- the same of what is kept

abbrev shown : Kept → Candidate
shown k = record { view = k.view; class = Full; back = []; size = length k.entries }

cmp_lt : (less same : Bool) → is_lt (cond less Less (cond same Equal Greater)) ≡ less
cmp_lt true same = refl
cmp_lt false true = refl
cmp_lt false false = refl

keep_is : (o : Option Kept) (k : Kept) → keep (option_map shown o) (shown k) ≡ option_map shown (lesser o k)
keep_is None k = refl
keep_is (Some b) k =
    ap (λ t. cond t (Some (shown k)) (Some (shown b))) (cmp_lt (nat_lt (length k.entries) (length b.entries)) (length k.entries == length b.entries))
    ∙ by (nat_lt (length k.entries) (length b.entries))
  where
    by : (t : Bool) → cond t (Some (shown k)) (Some (shown b)) ≡ option_map shown (cond t (Some k) (Some b))
    by true = refl
    by false = refl

plan_is : (o : Option Kept) → option_case (option_map shown o) plan.Base view_plan ≡ plan_by o
plan_is None = refl
plan_is (Some k) = refl

module _ (scn : ℕ) (tables : List Stored) (views : AllKept) (c : Catalog) (stands : StandsFor scn tables views c) (q : StarQuery) (text : List Token) (level : Level) (enabled : Bool) where
  best_is : (o : Option Kept) (ks : List Kept) → All (λ k. k.entries ≡ content c k.view) ks → All IsWhole (map (λ k. k.view) ks) → All IsOverTables (map (λ k. k.view) ks)
      → keep_all (option_map shown o) (filter_map (candidate class_is_built c q text level enabled) (map (λ k. k.view) ks)) ≡ option_map shown (best_from (serves tables q text level enabled) o ks)
  best_is o [] same whole over = refl
  best_is o (k ∷ ks) same whole over =
      ap (λ r. keep_all (option_map shown o) (cons_option r (filter_map (candidate class_is_built c q text level enabled) (map (λ j. j.view) ks))))
      (candidate_is scn tables views c stands q text level enabled k (All-head (λ j. j.entries ≡ content c j.view) k ks same) (All-head IsWhole k.view (map (λ j. j.view) ks) whole)
      (All-head IsOverTables k.view (map (λ j. j.view) ks) over))
      ∙ by (serves tables q text level enabled k)
      (λ p. best_is p ks (All-tail (λ j. j.entries ≡ content c j.view) k ks same) (All-tail IsWhole k.view (map (λ j. j.view) ks) whole) (All-tail IsOverTables k.view (map (λ j. j.view) ks) over))
    where
      by : (b : Bool)
          → ((p : Option Kept) → keep_all (option_map shown p) (filter_map (candidate class_is_built c q text level enabled) (map (λ j. j.view) ks)) ≡ option_map shown (best_from (serves tables q text level enabled) p ks))
          → keep_all (option_map shown o) (cons_option (where_true b (shown k)) (filter_map (candidate class_is_built c q text level enabled) (map (λ j. j.view) ks)))
          ≡ option_map shown (best_from (serves tables q text level enabled) (cond b (lesser o k) o) ks)
      by true rest = ap (λ p. keep_all p (filter_map (candidate class_is_built c q text level enabled) (map (λ j. j.view) ks))) (keep_is o k) ∙ rest (lesser o k)
      by false rest = rest o

  choice_is : plan_by (best_from (serves tables q text level enabled) None views.views) ≡ choice class_is_built c q text level enabled
  choice_is =
      sym
      (ap (λ vs. option_case (least_by candidate_cmp (filter_map (candidate class_is_built c q text level enabled) vs)) plan.Base view_plan) stands.views_are
      ∙ ap (λ o. option_case o plan.Base view_plan) (head_sort [] (filter_map (candidate class_is_built c q text level enabled) (map (λ k. k.view) views.views)))
      ∙ ap (λ o. option_case o plan.Base view_plan) (best_is None views.views stands.contents (all_whole scn tables views c stands) (all_over_tables scn tables views c stands))
      ∙ plan_is (best_from (serves tables q text level enabled) None views.views))

ok_same : {E : Type 0} (r : Result Plan E) (p s : Plan) → p ≡ s → IfOk r (λ x. x ≡ p) → IfOk r (λ x. x ≡ s)
ok_same (Ok x) p s e h = h ∙ e
ok_same (Err f) p s e h = h

-- a plan over a kept view is of its full text
full_by : (o : Option Kept) → IsFullPlan (plan_by o)
full_by None = tt
full_by (Some k) = (refl, refl)

pub is_full : {E : Type 0} (o : Option Kept) (r : Result Plan E) → IfOk r (λ x. x ≡ plan_by o) → IfOk r IsFullPlan
is_full o (Ok x) h = subst IsFullPlan (sym h) (full_by o)
is_full o (Err f) h = h

pub chosen : {E : Type 0} (scn : ℕ) (tables : List Stored) (views : AllKept) (q : StarQuery) (text : List Token) (level : Level) (enabled : Bool) (r : Result Plan E)
    → IfOk r (λ x. x ≡ plan_by (best_from (serves tables q text level enabled) None views.views))
    → (c : Catalog) → StandsFor scn tables views c → IfOk r (λ x. x ≡ choice class_is_built c q text level enabled)
chosen scn tables views q text level enabled r h c stands =
    ok_same r (plan_by (best_from (serves tables q text level enabled) None views.views)) (choice class_is_built c q text level enabled) (choice_is scn tables views c stands q text level enabled) h
