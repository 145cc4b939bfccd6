-- The replies to a SELECT and to SHOW VIEW by what an image stores.
use Rattle.std.proofs.Common.{◌≡◌, ◌∙◌, sym, ap, refl, subst, ℕ, ℤ, Bool, not, List, [], ◌∷◌, map, Option, None, Some, Ok, Err, Result}
use Rattle.law_lists.proofs.Options.{none_first, none_then, unless_is}
use Rattle.std.specs.List.{find}
use Rattle.std.specs.Prelude.{IsSome, nat_abs, option_map}
use Rattle.wh_base.specs.Lists.{first_some, option_case, or_refuse, unless, where_true, ◌>>=◌}
use Rattle.wh_base.specs.Tables.{defs_of}
use Rattle.wh_base.specs.declared.columns.ColRef.{ColRef}
use Rattle.wh_base.specs.declared.queries.ColName.{ColName}
use Rattle.wh_base.specs.declared.queries.Item.{Item}
use Rattle.wh_base.specs.declared.queries.RawQuery.{RawQuery}
use Rattle.wh_base.specs.declared.queries.StarQuery.{StarQuery}
use Rattle.wh_base.specs.declared.replies.PlanLine.TheVariants.{BasePlan, ViewAt}
use Rattle.wh_base.specs.declared.replies.Refusal.{Refusal}
use Rattle.wh_base.specs.declared.replies.Refusal.TheVariants.{NotGrouped, NotStar}
use Rattle.wh_base.specs.declared.replies.Reply.{Reply}
use Rattle.wh_base.specs.declared.replies.Reply.TheVariants as reply
use Rattle.wh_base.specs.declared.statements.Asked.{Asked}
use Rattle.wh_base.specs.declared.statements.Event.{Event}
use Rattle.wh_base.specs.declared.statements.Level.TheVariants.{Enforced}
use Rattle.wh_base.specs.declared.tables.TableDef.{TableDef}
use Rattle.wh_base.specs.declared.views.Plan.{Plan}
use Rattle.wh_base.specs.declared.views.Plan.TheVariants as plan
use Rattle.wh_base.specs.declared.views.ViewPlan.{ViewPlan}
use Rattle.def_choice.specs.Choice.{asked_scn, base_then, choice, class_is_built, plan_reads, view_reads}
use Rattle.def_history.specs.Catalog.{Catalog, View, base_at, base_now, defs_now, view_numbered}
use Rattle.def_history.specs.Staleness.{content, stale_intervals}
use Rattle.def_journal.specs.Answers.{answer, back_names, plan_line, plan_rows, scn_refusal, star_at, time_refusal}
use Rattle.def_meaning.specs.Meaning.{in_order, meaning}
use Rattle.def_meaning.specs.Ranges.{base_reads}
use Rattle.def_resolve.specs.Names.{Source, column_named, names_refusal, sources_of, table_refusal}
use Rattle.def_resolve.specs.Resolve.{first_table, grouping_holds, joins_of, kinds_refusal, resolve, resolved_item, star_form, star_query}
use Rattle.def_resolve.specs.Star.{star_of}
use Rattle.def_restrictions.specs.Definition.{tracked_key}
use Rattle.def_rewriting.specs.Classes.{class_reads}
use Rattle.wh_answer.proofs.Evaluated.{found_all}
use Rattle.wh_answer.proofs.Steps.{reply_by}
use Rattle.wh_answer.specs.Answered.{HasView, answer_by, base_answer, enforced, entries_of, refusal, selected, view_answer}
use Rattle.wh_answer.specs.Over.{IsImage, IsImageOf}
use Rattle.wh_image.proofs.Lookup.{lookups}
use Rattle.wh_image.specs.Standing.{StandsFor}
use Rattle.wh_base.specs.declared.tokens.Token.{Token}
use Rattle.wh_resolve.specs.Gives.{Gives}
use Rattle.wh_resolve.specs.declared.query.QueryFault.{QueryFault}
use Rattle.wh_resolve.specs.declared.query.QueryFault.TheVariants.{Refused}
use Rattle.wh_rewrite.specs.Served.{IsFullPlan}
use Rattle.wh_table.specs.Kept as kept
use Rattle.wh_table.specs.Stored.{Stored}
use Rattle.law_trace.specs.Reached.{catalog_of}
use Rattle.wh_view.specs.Kept.{AllKept, Kept, is_numbered}
use Rattle.law_views.specs.Laws.{Answers, Serves}
use Rattle.law_views.specs.Read.{ReadsAs}

-- ---- star forms

found_some : {A B E : Type 0} (o : Option A) (e : E) (f : A → Result B E) (y : B) → (or_refuse o e >>= f) ≡ Ok y → (x : A) × (f x ≡ Ok y)
found_some (Some x) e f y h = (x, h)
found_some None e f y h = cc

-- the refusals of a query whose star form there is don't come
resolve_parts : (defs : List TableDef) (raw : RawQuery) (q : StarQuery) → resolve defs raw ≡ Ok q → (table_refusal defs raw ≡ None) × (star_form defs raw (sources_of defs raw) ≡ Ok q)
resolve_parts defs raw q h =
    let sources : List Source = sources_of defs raw in
    let later : List (Option Refusal) = names_refusal sources raw ∷ kinds_refusal defs (first_table sources) (column_named sources) raw ∷ [] in
    let parts = none_then (first_some (table_refusal defs raw ∷ later)) (star_form defs raw sources) q h in
    ((none_first (table_refusal defs raw) later parts.0).0, parts.1)

-- the star form has the AS OF of the query
as_of_kept : (defs : List TableDef) (raw : RawQuery) (q : StarQuery) → resolve defs raw ≡ Ok q → q.as_of ≡ raw.as_of
as_of_kept defs raw q h =
    let sources : List Source = sources_of defs raw in
    let column : (ColName → ColRef) = column_named sources in
    let items : List Item = map (λ i. resolved_item column i.what) raw.items in
    let grouped : Bool = grouping_holds raw column items (map column raw.groups) in
    let found = found_some (star_of defs (joins_of column raw) (map (λ s. s.table) sources)) NotStar
    (λ tree. unless (where_true (not grouped) NotGrouped) (star_query raw column tree)) q (resolve_parts defs raw q h).1 in
    let same : star_query raw column found.0 ≡ q = unless_is (where_true (not grouped) NotGrouped) (star_query raw column found.0) q found.1 in
    ap (λ (s : StarQuery). s.as_of) (sym same)

-- without AS OF the star form over the tables of now is that of the query
star_ok : (c : Catalog) (raw : RawQuery) (q : StarQuery) → raw.as_of ≡ None → resolve (defs_now c) raw ≡ Ok q → star_at c raw ≡ Ok q
star_ok c raw q built resolved =
    let there : table_refusal (defs_now c) raw ≡ None = (resolve_parts (defs_now c) raw q resolved).0 in
    let now : time_refusal c raw ≡ None =
    ap (λ o. first_some (scn_refusal c o ∷ table_refusal (defs_of (base_at c (option_case o c.scn nat_abs))) raw ∷ [])) built
    ∙ ap (λ o. first_some (None ∷ o ∷ [])) there in
    ap (λ r. r >>= (λ s. unless (time_refusal c raw) s)) resolved ∙ ap (λ o. unless o q) now

star_err : (c : Catalog) (raw : RawQuery) (code : Refusal) → resolve (defs_now c) raw ≡ Err code → star_at c raw ≡ Err code
star_err c raw code h = ap (λ r. r >>= (λ s. unless (time_refusal c raw) s)) h

module _ (scn : ℕ) (tables : List Stored) (views : AllKept) (trace : List Event) (is : IsImageOf trace scn tables views) (enabled : Bool) (a : Asked) where
  pub over_now : (r : Result StarQuery Refusal) → resolve (kept.defs_of tables) a.query ≡ r → resolve (defs_now (catalog_of trace)) a.query ≡ r
  over_now r h = ap (λ ds. resolve ds a.query) (lookups.definitions scn tables views (catalog_of trace) is.stands) ∙ h

  -- the reply by the star form, or by its refusal
  pub selected_ok : (q : StarQuery) (r : Reply) → a.query.as_of ≡ None → resolve (kept.defs_of tables) a.query ≡ Ok q → r ≡ answer class_is_built (catalog_of trace) (enforced enabled) a q → r ≡ selected (catalog_of trace) enabled a
  selected_ok q r built h e =
      let c : Catalog = catalog_of trace in
      e ∙ ap (reply_by (answer class_is_built c (enforced enabled) a)) (sym (star_ok c a.query q built (over_now (Ok q) h)))

  pub selected_err : (code : Refusal) → resolve (kept.defs_of tables) a.query ≡ Err code → refusal code ≡ selected (catalog_of trace) enabled a
  selected_err code h =
      let c : Catalog = catalog_of trace in
      ap (reply_by (answer class_is_built c (enforced enabled) a)) (sym (star_err c a.query code (over_now (Err code) h)))

-- the refusal that is given is that of the definition
pub refused_is : (fault : QueryFault) (code : Refusal) (r : Result StarQuery Refusal) → fault ≡ Refused code → Gives (Err fault) r → r ≡ Err code
refused_is fault code r e h = sym (subst (λ f. Gives (Err f) r) e h)

-- ---- answers by a plan

-- the view that is found in the catalog is the one that is found in the image, and it stores its content
found_kept : (scn : ℕ) (tables : List Stored) (views : AllKept) (c : Catalog) (n : ℕ) (v : View) → StandsFor scn tables views c → view_numbered c n ≡ Some v
    → (k : Kept) × ((find (is_numbered n) views.views ≡ Some k) × (k.entries ≡ content c v))
found_kept scn tables views c n v h there = by (find (is_numbered n) views.views) refl (sym (lookups.numbered scn tables views c n h) ∙ there)
  where
    by : (o : Option Kept) → find (is_numbered n) views.views ≡ o → option_map (λ (k : Kept). k.view) o ≡ Some v → (k : Kept) × ((find (is_numbered n) views.views ≡ Some k) × (k.entries ≡ content c v))
    by None e g = cc
    by (Some k) e g =
        let same : k.view ≡ v = cc in
        (k, (e, found_all (λ (w : Kept). w.entries ≡ content c w.view) (is_numbered n) views.views k h.contents e ∙ ap (content c) same))

-- an answer with this plan
abbrev with_plan : Catalog → StarQuery → Plan → Reply
with_plan c q p = reply.Answer (record { scn = asked_scn c q; plan = plan_line c p; read = plan_reads c q p; rows = plan_rows c q Enforced p })

-- the base rows of a query without AS OF are those of now
base_is : (scn : ℕ) (c : Catalog) (q : StarQuery) → c.scn ≡ scn → q.as_of ≡ None → with_plan c q plan.Base ≡ base_answer scn q (base_now c)
base_is scn c q at built =
    ap (λ (o : Option ℤ). (let s : ℕ = option_case o c.scn nat_abs in reply.Answer (record { scn = s; plan = BasePlan; read = base_reads q (base_at c s); rows = meaning q (base_at c s) }))) built
    ∙ ap (λ s. base_answer s q (base_now c)) at

-- a view that answers by its full text reads no base row
no_reads : (c : Catalog) (q : StarQuery) (p : ViewPlan) (v : View) → view_numbered c p.view ≡ Some v → IsFullPlan (plan.View p) → plan_reads c q (plan.View p) ≡ 0
no_reads c q p v found full =
    ap (λ (o : Option View). option_case o 0 (view_reads c q p)) found
    ∙ (λ i. class_reads (base_now c) q (tracked_key v.def) (stale_intervals c v) (full.0 i) (full.1 i))

view_is : (scn : ℕ) (tables : List Stored) (views : AllKept) (c : Catalog) (q : StarQuery) (p : ViewPlan) → StandsFor scn tables views c → q.as_of ≡ None → Serves c q p
    → IsFullPlan (plan.View p) → with_plan c q (plan.View p) ≡ view_answer scn q p (entries_of views p.view)
view_is scn tables views c q p h built serves full =
    let at : asked_scn c q ≡ scn = ap (λ (o : Option ℤ). option_case o c.scn nat_abs) built ∙ h.scn_is in
    let found = found_kept scn tables views c p.view serves.view h serves.found in
    let stored : content c serves.view ≡ entries_of views p.view = sym found.1.1 ∙ ap (λ o. option_case o [] (λ (k : Kept). k.entries)) (sym found.1.0) in
    let rows : meaning q (base_then c q) ≡ in_order q.order (map (λ e. e.row) (entries_of views p.view)) = serves.rows ∙ ap (λ es. in_order q.order (map (λ e. e.row) es)) stored in
    (λ i. reply.Answer (record { scn = at i; plan = ViewAt p.class p.name p.point (back_names c (full.1 i)); read = no_reads c q p serves.view serves.found full i; rows = rows i }))

module _ (scn : ℕ) (tables : List Stored) (views : AllKept) (a : Asked) (q : StarQuery) (enabled : Bool) (text : List Token) (same : text ≡ a.tokens)
    (reads : ReadsAs a) (built : a.query.as_of ≡ None) (resolved : resolve (kept.defs_of tables) a.query ≡ Ok q) (answers : Answers) (p : Plan)
    (chosen : (c : Catalog) → StandsFor scn tables views c → p ≡ choice class_is_built c q text Enforced enabled) where
  chosen_is : (trace : List Event) → IsImageOf trace scn tables views → choice class_is_built (catalog_of trace) q a.tokens Enforced enabled ≡ p
  chosen_is trace is = ap (λ ts. choice class_is_built (catalog_of trace) q ts Enforced enabled) (sym same) ∙ sym (chosen (catalog_of trace) is.stands)

  serves : (trace : List Event) → IsImageOf trace scn tables views → (w : ViewPlan) → p ≡ plan.View w → Serves (catalog_of trace) q w
  serves trace is w e =
      answers.chosen trace a.tokens a.query q enabled w is.read reads (over_now scn tables views trace is enabled a (Ok q) resolved) (chosen_is trace is ∙ e)

  no_as_of : q.as_of ≡ None
  no_as_of = as_of_kept (kept.defs_of tables) a.query q resolved ∙ built

  pub has_view : IsImage scn tables views → HasView views p
  has_view is = by p refl
    where
      by : (w : Plan) → p ≡ w → HasView views w
      by plan.Base e = tt
      by (plan.View w) e =
          let said = serves is.trace is.is w e in
          subst IsSome (sym (found_kept scn tables views (catalog_of is.trace) w.view said.view is.is.stands said.found).1.0) refl

  pub answer_is : IsFullPlan p → (trace : List Event) → IsImageOf trace scn tables views → answer_by scn views q (base_now (catalog_of trace)) p ≡ answer class_is_built (catalog_of trace) (enforced enabled) a q
  answer_is full trace is = sym (ap (with_plan (catalog_of trace) q) (chosen_is trace is) ∙ by p refl)
    where
      by : (w : Plan) → p ≡ w → with_plan (catalog_of trace) q w ≡ answer_by scn views q (base_now (catalog_of trace)) w
      by plan.Base e = base_is scn (catalog_of trace) q is.stands.scn_is no_as_of
      by (plan.View w) e = view_is scn tables views (catalog_of trace) q w is.stands no_as_of (serves trace is w e) (subst IsFullPlan e full)
