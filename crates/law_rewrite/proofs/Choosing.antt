-- From the plan that is chosen to the meaning.
use Rattle.std.proofs.Common.{◌≡◌, ◌∙◌, sym, ap, subst, refl, ℕ, Bool, true, false, cond, not, List, [], ◌∷◌, length, Option, Some, None}
use Rattle.std.specs.List.{cons_option}
use Rattle.std.specs.Ordering.{is_lt}
use Rattle.std.specs.Prelude.{◌&&◌, filter_map, is_none, is_some, nat_abs, option_and_then}
use Rattle.std.specs.declared.cmp.Ordering.{Ordering}
use Rattle.std.proofs.lemmas.Option.{same_Some, none-some}
use Rattle.std.proofs.lemmas.Bool.{and_parts}
use Rattle.wh_base.specs.Lists.{first_some, head, is_empty, option_case, put_in_order, sort_onto, sorted_by, where_true}
use Rattle.wh_base.specs.declared.queries.StarQuery.{StarQuery}
use Rattle.wh_base.specs.declared.statements.Level.{Level}
use Rattle.wh_base.specs.declared.views.Back.{Back}
use Rattle.wh_base.specs.declared.views.Class.{Class}
use Rattle.wh_base.specs.declared.views.Plan.TheVariants as plan
use Rattle.wh_base.specs.declared.tokens.Token.{Token}
use Rattle.def_choice.specs.Choice.{Candidate, base_then, best, candidate, candidate_cmp, choice, full_standing, plan_meaning, view_plan, view_rows}
use Rattle.def_choice.specs.Concat.{concat_holds, fails_e8_alone, or_concat, serves_in_part}
use Rattle.def_choice.specs.Eligible.{Eligible, Failing, Standing, asks_freshness, back_of, class_of, form_failure, general_class, general_standing, holds_e8, holds_e9, standing, standing_unless, text_class, time_failure}
use Rattle.def_history.specs.Catalog.{Catalog, View, base_at, base_now, defs_now}
use Rattle.def_history.specs.Staleness.{content, point_of}
use Rattle.def_meaning.specs.Meaning.{in_order, meaning}
use Rattle.def_rewriting.specs.Compatible.{failing}
use Rattle.def_rewriting.specs.Reaching.{reach}
use Rattle.law_lists.proofs.Options.{none_first, was_none}
use Rattle.law_rewrite.specs.Words.{Each}
use Rattle.law_rewrite.specs.Chosen.{ViewFine}
use Rattle.law_rewrite.proofs.In_part.{full_means}
use Rattle.law_rewrite.proofs.Standing_law.{eligible_is, holds_of}
use Rattle.wh_base.specs.declared.views.Requirement.TheVariants as requirement

-- ---- lists

each_put : {A : Type 0} (P : A → Type 0) (cmp : A → A → Ordering) (x : A) (ys : List A) → P x → Each P ys → Each P (put_in_order cmp x ys)
each_put P cmp x [] h k = (h, tt)
each_put P cmp x (y ∷ ys) h k = by (is_lt (cmp x y)) (each_put P cmp x ys h k.1)
  where
    by : (b : Bool) → Each P (put_in_order cmp x ys) → Each P (cond b (x ∷ y ∷ ys) (y ∷ put_in_order cmp x ys))
    by true rest = (h, k)
    by false rest = (k.0, rest)

each_onto : {A : Type 0} (P : A → Type 0) (cmp : A → A → Ordering) (done xs : List A) → Each P done → Each P xs → Each P (sort_onto cmp done xs)
each_onto P cmp done [] h k = h
each_onto P cmp done (x ∷ xs) h k = each_onto P cmp (put_in_order cmp x done) xs (each_put P cmp x done k.0 h) k.1

head_holds : {A : Type 0} (P : A → Type 0) (xs : List A) (x : A) → Each P xs → head xs ≡ Some x → P x
head_holds P [] x h e = absurd (none-some x e)
head_holds P (y ∷ xs) x h e = subst P (same_Some y x e) h.0

pub each_given : {A B : Type 0} (P : A → Type 0) (Q : B → Type 0) (f : A → Option B) → ((x : A) (y : B) → P x → f x ≡ Some y → Q y) → (xs : List A) → Each P xs → Each Q (filter_map f xs)
each_given P Q f k [] h = tt
each_given {B = B} P Q f k (x ∷ xs) h = by (f x) refl (each_given P Q f k xs h.1)
  where
    by : (o : Option B) → f x ≡ o → Each Q (filter_map f xs) → Each Q (cons_option o (filter_map f xs))
    by None is rest = rest
    by (Some y) is rest = (k x y h.0 is, rest)

-- ---- what an eligible view meets

module _ (c : Catalog) (q : StarQuery) (text : List Token) (level : Level) (enabled : Bool) where
  times_nine : (back : List Back) (v : View) → time_failure c q level enabled back v ≡ None → holds_e9 q enabled v ≡ true
  times_nine back v h =
      holds_of requirement.E9 (holds_e9 q enabled v)
      (none_first (failing requirement.E9 (holds_e9 q enabled v)) [] (none_first (failing requirement.E8 (holds_e8 c q level back v)) (failing requirement.E9 (holds_e9 q enabled v) ∷ []) h).1).0

  standing_nine : (v : View) (class : Class) (backs : List Back) → standing c q text level enabled v ≡ Eligible class backs → holds_e9 q enabled v ≡ true
  standing_nine v class backs h = by (text_class (defs_now c) q text v) h
    where
      w_back : List Back
      w_back = (reach (defs_now c) c.dimensions level q v.def.query).back

      by : (o : Option Class) → option_case o (general_standing c q level enabled v) (λ k. standing_unless (time_failure c q level enabled [] v) k []) ≡ Eligible class backs → holds_e9 q enabled v ≡ true
      by (Some k) e = times_nine [] v (eligible_is (time_failure c q level enabled [] v) k class [] backs e).0
      by None e =
          times_nine w_back v
          (none_first (time_failure c q level enabled w_back v) []
          (none_first (form_failure c q level v (reach (defs_now c) c.dimensions level q v.def.query)) (time_failure c q level enabled w_back v ∷ [])
          (eligible_is (first_some (form_failure c q level v (reach (defs_now c) c.dimensions level q v.def.query) ∷ time_failure c q level enabled w_back v ∷ [])) (general_class w_back) class w_back backs e).0).1).0

  concat_nine : (v : View) → concat_holds c q level enabled v ≡ true → holds_e9 q enabled v ≡ true
  concat_nine v h =
      (and_parts (holds_e9 q enabled v) (not (holds_e8 c q level (reach (defs_now c) c.dimensions level q v.def.query).back v))
      (and_parts (is_none (form_failure c q level v (reach (defs_now c) c.dimensions level q v.def.query)) && is_empty (reach (defs_now c) c.dimensions level q v.def.query).back)
      (holds_e9 q enabled v && not (holds_e8 c q level (reach (defs_now c) c.dimensions level q v.def.query).back v))
      (and_parts (fails_e8_alone c q level enabled v) (serves_in_part c q v) (and_parts (asks_freshness level) (fails_e8_alone c q level enabled v && serves_in_part c q v) h).1).0).1).0

  full_nine : (v : View) (class : Class) (backs : List Back) → full_standing c q text level enabled v ≡ Eligible class backs → holds_e9 q enabled v ≡ true
  full_nine v class backs h = by (standing c q text level enabled v) (concat_holds c q level enabled v) refl refl h
    where
      by : (s : Standing) (b : Bool) → standing c q text level enabled v ≡ s → concat_holds c q level enabled v ≡ b → or_concat b s ≡ Eligible class backs → holds_e9 q enabled v ≡ true
      by (Eligible k bs) false e f g = standing_nine v class backs (e ∙ g)
      by (Eligible k bs) true e f g = standing_nine v class backs (e ∙ g)
      by (Failing n) false e f g = cc
      by (Failing n) true e f g = concat_nine v f

-- ---- the choice

module _ (built : Class → Bool) (c : Catalog) (q : StarQuery) (text : List Token) (level : Level) (enabled : Bool) (asks : asks_freshness level ≡ true)
    (fine : is_none q.as_of ≡ true → Each (ViewFine c q text level) c.views) where
  abbrev Gives : Candidate → Type 0
  Gives x = plan_meaning c q (view_plan x) ≡ meaning q (base_then c q)

  abbrev Asked : View → Type 0
  Asked v = is_none q.as_of ≡ true → ViewFine c q text level v

  each_asked : (vs : List View) → (is_none q.as_of ≡ true → Each (ViewFine c q text level) vs) → Each Asked vs
  each_asked [] h = tt
  each_asked (v ∷ vs) h = (λ e. (h e).0, each_asked vs (λ e. (h e).1))

  then_is : is_none q.as_of ≡ true → base_now c ≡ base_then c q
  then_is e = ap (λ o. base_at c (option_case o c.scn nat_abs)) (sym (was_none q.as_of e))

  candidate_gives : (v : View) (x : Candidate) → Asked v → candidate built c q text level enabled v ≡ Some x → Gives x
  candidate_gives v x asked e = by (full_standing c q text level enabled v) refl e
    where
      of_point : (class : Class) (backs : List Back) (o : Option ℕ) → v.point ≡ o → full_standing c q text level enabled v ≡ Eligible class backs
          → is_some o && (v.def.rewrite && (enabled && is_none q.as_of)) ≡ true → Gives (record { view = v; class = class; back = backs; size = length (content c v) })
      of_point class backs None is f nine = cc
      of_point class backs (Some p) is f nine =
          let now : is_none q.as_of ≡ true = (and_parts enabled (is_none q.as_of) (and_parts v.def.rewrite (enabled && is_none q.as_of) nine).1).1 in
          let ours : ViewFine c q text level v = asked now in
          ap (λ o. in_order q.order (option_case o [] (view_rows c q (record { class = class; view = v.def.view; name = v.def.name; point = point_of v; back = backs })))) ours.numbered
          ∙ full_means c q text level enabled v p class backs asks is (ours.stars p is) (ours.kept p is) ours.texts f
          ∙ ap (meaning q) (then_is now)

      by_built : (class : Class) (backs : List Back) (b : Bool) → full_standing c q text level enabled v ≡ Eligible class backs
          → where_true b (record { view = v; class = class; back = backs; size = length (content c v) }) ≡ Some x → Gives x
      by_built class backs false f g = absurd (none-some x g)
      by_built class backs true f g =
          subst Gives (same_Some (record { view = v; class = class; back = backs; size = length (content c v) }) x g)
          (of_point class backs v.point refl f (full_nine c q text level enabled v class backs f))

      by : (s : Standing) → full_standing c q text level enabled v ≡ s
          → option_and_then (λ class. where_true (built class) (record { view = v; class = class; back = back_of s; size = length (content c v) })) (class_of s) ≡ Some x → Gives x
      by (Failing n) f g = absurd (none-some x g)
      by (Eligible class backs) f g = by_built class backs (built class) f g

  all_give : Each Gives (sorted_by candidate_cmp (filter_map (candidate built c q text level enabled) c.views))
  all_give =
      each_onto Gives candidate_cmp [] (filter_map (candidate built c q text level enabled) c.views) tt
      (each_given Asked Gives (candidate built c q text level enabled) candidate_gives c.views (each_asked c.views fine))

  pub choice_means : plan_meaning c q (choice built c q text level enabled) ≡ meaning q (base_then c q)
  choice_means = by (best built c q text level enabled) refl
    where
      by : (o : Option Candidate) → best built c q text level enabled ≡ o → plan_meaning c q (option_case o plan.Base view_plan) ≡ meaning q (base_then c q)
      by None e = refl
      by (Some x) e = head_holds Gives (sorted_by candidate_cmp (filter_map (candidate built c q text level enabled) c.views)) x all_give e
