-- What is so of a view that is chosen under ENFORCED.
use Rattle.std.proofs.Common.{◌≡◌, ◌∙◌, sym, ap, refl, subst, ℕ, Bool, true, false, cond, List, [], ◌∷◌, length, Option, None, Some, ◌==◌, ◌&&◌}
use Rattle.law_trace.proofs.Defining.{each_given}
use Rattle.std.proofs.lemmas.Option.{none-some, same_Some}
use Rattle.std.specs.List.{find}
use Rattle.std.specs.Ordering.{is_lt}
use Rattle.std.specs.Prelude.{filter_map, is_none, is_some, option_and_then}
use Rattle.std.specs.declared.cmp.Ordering.{Ordering}
use Rattle.std.proofs.lemmas.Bool.{and_parts, eq-eqb}
use Rattle.wh_base.specs.Lists.{first_some, head, option_case, put_in_order, sort_onto, sorted_by, where_true}
use Rattle.wh_base.specs.declared.queries.StarQuery.{StarQuery}
use Rattle.wh_base.specs.declared.statements.Level.TheVariants.{Enforced}
use Rattle.wh_base.specs.declared.tables.TableDef.{TableDef}
use Rattle.wh_base.specs.declared.views.Back.{Back}
use Rattle.wh_base.specs.declared.views.Class.{Class}
use Rattle.wh_base.specs.declared.views.Class.TheVariants.{Concat, Full, General, JoinBack, Partial}
use Rattle.wh_base.specs.declared.views.Plan.TheVariants as plan
use Rattle.wh_base.specs.declared.views.Requirement.{Requirement}
use Rattle.wh_base.specs.declared.views.Requirement.TheVariants as requirement
use Rattle.wh_base.specs.declared.views.ViewPlan.{ViewPlan}
use Rattle.wh_base.specs.declared.tokens.Token.{Token}
use Rattle.def_choice.specs.Choice.{Candidate, best, candidate, candidate_cmp, choice, class_is_built, view_plan}
use Rattle.def_choice.specs.Concat.{concat_holds, or_concat}
use Rattle.def_choice.specs.Eligible.{Failing, Standing, back_of, class_of, form_failure, general_class, holds_e8, holds_e9, is_fresh_enough, partial_holds, standing_unless, text_class, time_failure}
use Rattle.def_history.specs.Catalog.{Catalog, View, defs_now, view_numbered}
use Rattle.def_history.specs.Staleness.{content}
use Rattle.def_rewriting.specs.Compatible.{failing}
use Rattle.def_rewriting.specs.Matching.{FullText, NoText, PartialText, TextMatch, match_text}
use Rattle.def_rewriting.specs.Reaching.{reach}
use Rattle.law_trace.proofs.Listed.{Each, Pairs, below_differs, each_two, each_weaker}
use Rattle.law_trace.proofs.Viewing.{IsBefore}

-- what a chosen view meets: it is over tables, with the query's own text, and E8 and E9 hold where no table is joined back
pub record Meets (q : StarQuery) (text : List Token) (c : Catalog) (v : View) (back : List Back) : Type 0 where
  pub over : v.def.beneath ≡ None
  pub full : match_text text v.def.tokens ≡ FullText
  pub alone : back ≡ []
  pub fresh : is_fresh_enough c q [] v ≡ true
  pub built : is_some v.point ≡ true
  pub now : is_none q.as_of ≡ true

-- ---- the text

abbrev class_by : List TableDef → StarQuery → View → TextMatch → Option Class
class_by defs q v FullText = Some Full
class_by defs q v PartialText = where_true (partial_holds defs q v.def.query) Partial
class_by defs q v NoText = None

matched_full : (defs : List TableDef) (q : StarQuery) (v : View) (m : TextMatch) → class_by defs q v m ≡ Some Full → m ≡ FullText
matched_full defs q v FullText e = refl
matched_full defs q v PartialText e = by (partial_holds defs q v.def.query) e
  where
    by : (b : Bool) → where_true b Partial ≡ Some Full → PartialText ≡ FullText
    by true f = absurd (cc)
    by false f = absurd (cc)
matched_full defs q v NoText e = absurd (cc)

-- a view with a text is over tables, and the text is its own
text_full : (defs : List TableDef) (q : StarQuery) (text : List Token) (v : View) (o : Option ℕ) → v.def.beneath ≡ o
    → option_and_then (λ given. class_by defs q v (match_text text given)) (cond (is_some o) None (Some v.def.tokens)) ≡ Some Full → (v.def.beneath ≡ None) × (match_text text v.def.tokens ≡ FullText)
text_full defs q text v None is e = (is, matched_full defs q v (match_text text v.def.tokens) e)
text_full defs q text v (Some n) is e = absurd (cc)

-- ---- the standing

abbrev candidate_of : Standing → View → ℕ → Option Candidate
candidate_of s v size = option_and_then (λ class. where_true (class_is_built class) (record { view = v; class = class; back = back_of s; size = size })) (class_of s)

-- what fails, or stands for its fresh keys alone, is no candidate, since that class isn't built
failing_none : (may : Bool) (e : Requirement) (v : View) (size : ℕ) → candidate_of (or_concat may (Failing e)) v size ≡ None
failing_none true e v size = refl
failing_none false e v size = refl

-- without a text match no class is built
general_none : (may : Bool) (failed : Option Requirement) (back : List Back) (v : View) (size : ℕ) → candidate_of (or_concat may (standing_unless failed (general_class back) back)) v size ≡ None
general_none may (Some e) back v size = failing_none may e v size
general_none may None [] v size = refl
general_none may None (b ∷ bs) v size = refl

-- a candidate by a text match is full, and nothing fails
record Fits (t : Option Requirement) (class : Class) (v : View) (x : Candidate) : Type 0 where
  passes : t ≡ None
  full : class ≡ Full
  view : v ≡ x.view
  alone : x.back ≡ []

fits : (may : Bool) (t : Option Requirement) (class : Class) (v : View) (size : ℕ) (x : Candidate) → candidate_of (or_concat may (standing_unless t class [])) v size ≡ Some x → Fits t class v x
fits may (Some r) class v size x e = absurd (none-some x (sym (failing_none may r v size) ∙ e))
fits may None Full v size x e =
    let same : record { view = v; class = Full; back = []; size = size } ≡ x = same_Some (record { view = v; class = Full; back = []; size = size }) x e in
    record { passes = refl; full = refl; view = ap (λ (y : Candidate). y.view) same; alone = sym (ap (λ (y : Candidate). y.back) same) }
fits may None Partial v size x e = absurd (none-some x e)
fits may None General v size x e = absurd (none-some x e)
fits may None JoinBack v size x e = absurd (none-some x e)
fits may None Concat v size x e = absurd (none-some x e)

-- nothing fails of E8 and E9
time_passes : (a b : Bool) → first_some (failing requirement.E8 a ∷ failing requirement.E9 b ∷ []) ≡ None → (a ≡ true) × (b ≡ true)
time_passes true true e = (refl, refl)
time_passes true false e = absurd (cc)
time_passes false b e = absurd (cc)

module _ (c : Catalog) (q : StarQuery) (text : List Token) (enabled : Bool) where
  abbrev IsMet : Candidate → Type 0
  IsMet x = Meets q text c x.view x.back

  candidate_meets : (v : View) (x : Candidate) → candidate class_is_built c q text Enforced enabled v ≡ Some x → (v ≡ x.view) × IsMet x
  candidate_meets v x e = by (text_class (defs_now c) q text v) refl e
    where
      may : Bool
      may = concat_holds c q Enforced enabled v

      back : List Back
      back = (reach (defs_now c) c.dimensions Enforced q v.def.query).back

      failed : Option Requirement
      failed = first_some (form_failure c q Enforced v (reach (defs_now c) c.dimensions Enforced q v.def.query) ∷ time_failure c q Enforced enabled back v ∷ [])

      by : (o : Option Class) → text_class (defs_now c) q text v ≡ o
          → candidate_of (or_concat may (option_case o (standing_unless failed (general_class back) back) (λ class. standing_unless (time_failure c q Enforced enabled [] v) class []))) v (length (content c v)) ≡ Some x
          → (v ≡ x.view) × IsMet x
      by None is f = absurd (none-some x (sym (general_none may failed back v (length (content c v))) ∙ f))
      by (Some class) is f =
          let all : Fits (time_failure c q Enforced enabled [] v) class v x = fits may (time_failure c q Enforced enabled [] v) class v (length (content c v)) x f in
          let times = time_passes (holds_e8 c q Enforced [] v) (holds_e9 q enabled v) all.passes in
          let rest : (v.def.rewrite && (enabled && is_none q.as_of)) ≡ true = (and_parts (is_some v.point) (v.def.rewrite && (enabled && is_none q.as_of)) times.1).1 in
          let own = text_full (defs_now c) q text v v.def.beneath refl (is ∙ ap (λ (k : Class). Some k) all.full) in
          let met : Meets q text c v x.back =
          record {
            over = own.0;
            full = own.1;
            alone = all.alone;
            fresh = times.0;
            built = (and_parts (is_some v.point) (v.def.rewrite && (enabled && is_none q.as_of)) times.1).0;
            now = (and_parts enabled (is_none q.as_of) (and_parts v.def.rewrite (enabled && is_none q.as_of) rest).1).1;
          } in
          (all.view, subst (λ (w : View). Meets q text c w x.back) all.view met)

-- ---- lists

each_put : {A : Type 0} (P : A → Type 0) (cmp : A → A → Ordering) (x : A) (ys : List A) → P x → Each P ys → Each P (put_in_order cmp x ys)
each_put P cmp x [] h k = (h, tt)
each_put P cmp x (y ∷ ys) h k = by (is_lt (cmp x y)) (each_put P cmp x ys h k.1)
  where
    by : (b : Bool) → Each P (put_in_order cmp x ys) → Each P (cond b (x ∷ y ∷ ys) (y ∷ put_in_order cmp x ys))
    by true rest = (h, k)
    by false rest = (k.0, rest)

each_onto : {A : Type 0} (P : A → Type 0) (cmp : A → A → Ordering) (done xs : List A) → Each P done → Each P xs → Each P (sort_onto cmp done xs)
each_onto P cmp done [] h k = h
each_onto P cmp done (x ∷ xs) h k = each_onto P cmp (put_in_order cmp x done) xs (each_put P cmp x done k.0 h) k.1

head_holds : {A : Type 0} (P : A → Type 0) (xs : List A) (x : A) → Each P xs → head xs ≡ Some x → P x
head_holds P [] x h e = absurd (none-some x e)
head_holds P (y ∷ xs) x h e = subst P (same_Some y x e) h.0

found_itself : (vs : List View) → Pairs IsBefore vs → Each (λ v. find (λ w. w.def.view == v.def.view) vs ≡ Some v) vs
found_itself [] h = tt
found_itself (v ∷ vs) h = (
  ap (λ b. cond b (Some v) (find (λ w. w.def.view == v.def.view) vs)) (eq-eqb v.def.view v.def.view refl),
  each_weaker (λ w. IsBefore v w × (find (λ u. u.def.view == w.def.view) vs ≡ Some w)) (λ w. find (λ u. u.def.view == w.def.view) (v ∷ vs) ≡ Some w)
      (λ w both. ap (λ b. cond b (Some v) (find (λ u. u.def.view == w.def.view) vs)) (below_differs v.def.view w.def.view both.0) ∙ both.1) vs
      (each_two (IsBefore v) (λ w. find (λ u. u.def.view == w.def.view) vs ≡ Some w) vs h.0 (found_itself vs h.1)),
)

-- ---- the choice

-- the view of the plan
pub record IsChosen (c : Catalog) (q : StarQuery) (text : List Token) (p : ViewPlan) : Type 0 where
  pub view : View
  pub found : view_numbered c p.view ≡ Some view
  pub meets : Meets q text c view p.back

module _ (c : Catalog) (q : StarQuery) (text : List Token) (enabled : Bool) where
  abbrev IsFound : View → Type 0
  IsFound v = view_numbered c v.def.view ≡ Some v

  abbrev IsGood : Candidate → Type 0
  IsGood x = IsFound x.view × Meets q text c x.view x.back

  candidate_good : (v : View) (x : Candidate) → IsFound v → candidate class_is_built c q text Enforced enabled v ≡ Some x → IsGood x
  candidate_good v x found e = let met = candidate_meets c q text enabled v x e in (subst IsFound met.0 found, met.1)

  best_good : (x : Candidate) → Pairs IsBefore c.views → best class_is_built c q text Enforced enabled ≡ Some x → IsGood x
  best_good x ordered e =
      let candidates : List Candidate = filter_map (candidate class_is_built c q text Enforced enabled) c.views in
      head_holds IsGood (sorted_by candidate_cmp candidates) x
      (each_onto IsGood candidate_cmp [] candidates tt (each_given IsFound IsGood (candidate class_is_built c q text Enforced enabled) candidate_good c.views (found_itself c.views ordered))) e

  pub chosen : (p : ViewPlan) → Pairs IsBefore c.views → choice class_is_built c q text Enforced enabled ≡ plan.View p → IsChosen c q text p
  chosen p ordered e = by (best class_is_built c q text Enforced enabled) refl e
    where
      same_plan : (a : ViewPlan) → plan.View a ≡ plan.View p → a ≡ p
      same_plan a f = cc

      by : (o : Option Candidate) → best class_is_built c q text Enforced enabled ≡ o → option_case o plan.Base view_plan ≡ plan.View p → IsChosen c q text p
      by None is f = absurd (cc)
      by (Some x) is f =
          let good : IsGood x = best_good x ordered is in
          let same = same_plan _ f in
          record {
            view = x.view;
            found = subst (λ n. view_numbered c n ≡ Some x.view) (ap (λ (a : ViewPlan). a.view) same) good.0;
            meets = subst (λ back. Meets q text c x.view back) (ap (λ (a : ViewPlan). a.back) same) good.1;
          }
