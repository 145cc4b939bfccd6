-- Every view is what a query resolved to over the tables that were there when it was made, and its tables were there at its point.
use Rattle.std.proofs.Common.{◌≡◌, ◌∙◌, sym, ap, refl, subst, arith, ℕ, ◌+◌, ◌<◌, ◌≤◌, Bool, true, false, cond, not, List, [], ◌∷◌, ◌++◌, length, map, None, Some, ◌==◌, true≢false}
use Rattle.std.proofs.lemmas.Option.{none-some, same_Some}
use Rattle.std.specs.List.{All, find}
use Rattle.std.specs.Option.{ForSome}
use Rattle.std.specs.Prelude.{Ok}
use Rattle.std.proofs.lemmas.Bool.{eq-eqb, eqb-true}
use Rattle.std.proofs.lemmas.List.{append-nil, append_assoc, length-append, length-map}
use Rattle.wh_base.specs.Lists.{change_where, where_true}
use Rattle.wh_base.specs.Parts.{entry_bearer}
use Rattle.wh_base.specs.Tables.{Base, Table, def_at}
use Rattle.wh_base.specs.declared.queries.RawQuery.{RawQuery}
use Rattle.wh_base.specs.declared.queries.StarQuery.{StarQuery}
use Rattle.wh_base.specs.declared.statements.Event.{Event}
use Rattle.wh_base.specs.declared.statements.NewView.{NewView}
use Rattle.wh_base.specs.declared.tables.TableDef.{TableDef}
use Rattle.wh_base.specs.declared.views.ViewDef.{ViewDef}
use Rattle.def_history.specs.Catalog.{Catalog, View, base_at, base_now, defs_now, view_numbered}
use Rattle.def_journal.specs.Committing.{after_block, do_dues}
use Rattle.def_journal.specs.Journal.{state_after, state_of}
use Rattle.def_journal.specs.Refreshing.{change_view, refreshed_to}
use Rattle.def_journal.specs.State.{Begun, Session, State, session_of}
use Rattle.def_journal.specs.Statements.{new_view}
use Rattle.def_resolve.specs.Resolve.{resolve}
use Rattle.law_trace.proofs.Due.{KeepsDue, dues_keep, suspended}
use Rattle.law_trace.proofs.Growing.{SamePast, dues_past}
use Rattle.law_trace.proofs.Listed.{Each, Pairs, all_from, below_differs, each_append, each_filter, each_found, each_map, each_two, each_weaker, eq_false, find_has}
use Rattle.def_history.specs.Staleness.{restriction}
use Rattle.law_lists.proofs.Each.{Each-turn}
use Rattle.law_refresh.proofs.Moving.{restriction_same}
use Rattle.law_refresh.proofs.Planning.{kept_definitions, planned}
use Rattle.law_refresh.specs.Planned.{IsCurrent, IsPlanned, PlanLaws, current}
use Rattle.law_trace.proofs.Moves.{Adds, Alters, Begins, Closes, Commits, Creates, Declares, Drops, Ends, Forgets, Installs, Keeps, Logs, Move, Opens, Purges, Stays, MakesView, Over, Plain, Switches, Takes, Turn, Withdraws, installed, own}
use Rattle.law_trace.proofs.Pointing.{trace_pointed}
use Rattle.law_trace.proofs.Preceding.{image_laws, trace_precedes}
use Rattle.law_trace.proofs.Stepping.{moves}
use Rattle.law_trace.proofs.Traces.{by_events, state_push}
use Rattle.law_trace.proofs.Viewing.{IsBefore, trace_ordered}
use Rattle.law_trace.specs.Reached.{HasBegun, IsSameView, Precedes, begun_over, catalog_of, is_of, still, stills}

pub record IsMade (c : Catalog) (v : View) : Type 0 where
  pub query : RawQuery
  pub tables : List TableDef
  pub later : List TableDef
  pub since : stills c ≡ map still tables ++ later
  pub resolved : resolve tables query ≡ Ok v.def.query
  pub defined : v.def.tables ≡ map (def_at tables) v.def.query.tables
  pub there : ForSome v.point (λ p. length tables ≤ length (base_at c p))

-- ---- from one catalog to a later one

-- the view v of c as it is in d, by then w
told : (c d : Catalog) (more : List TableDef) → stills d ≡ stills c ++ more → (v w : View) → IsSameView v.def w.def → (k : IsMade c v)
    → ForSome w.point (λ p. length k.tables ≤ length (base_at d p)) → IsMade d w
told c d more grown v w same k there =
    record {
      query = k.query;
      tables = k.tables;
      later = k.later ++ more;
      since = grown ∙ ap (λ defs. defs ++ more) k.since ∙ append_assoc (map still k.tables) k.later more;
      resolved = subst (λ q. resolve k.tables k.query ≡ Ok q) (sym (ap (λ (e : ViewDef). e.query) same)) k.resolved;
      defined = ap (λ (e : ViewDef). e.tables) same ∙ k.defined ∙ ap (λ (e : ViewDef). map (def_at k.tables) e.query.tables) (sym same);
      there = there;
    }

-- a table for each definition
defined_length : (c : Catalog) → length (stills c) ≡ length (base_now c)
defined_length c = length-map (defs_now c) still ∙ length-map (base_now c) (λ (t : Table). t.def)

-- the tables of the view are there now
all_there : (c : Catalog) (v : View) (k : IsMade c v) → length k.tables ≤ length (base_now c)
all_there c v k =
    let all : length (stills c) ≡ length (map still k.tables ++ k.later) = ap (λ (defs : List TableDef). length defs) k.since in
    let parts : length (map still k.tables ++ k.later) ≡ length (map still k.tables) + length k.later = length-append (map still k.tables) k.later in
    let many : length (map still k.tables) ≡ length k.tables = length-map k.tables still in
    omega (arith, all, parts, many, defined_length c)

-- no point of the view is above the SCN
abbrev IsAtMost : ℕ → View → Type 0
IsAtMost scn v = ForSome v.point (λ p. p ≤ scn)

carried : (c d : Catalog) → Precedes c d → (v : View) → IsAtMost c.scn v → IsMade c v → IsMade d v
carried c d h v low k =
    told c d h.tables.0 h.tables.1 v v refl k (λ p e. subst (λ (base : Base). length k.tables ≤ length base) (sym (h.base p (low p e))) (k.there p e))

-- the view in the same catalog, changed
retold : (d : Catalog) (v w : View) → IsSameView v.def w.def → (k : IsMade d v) → ForSome w.point (λ p. length k.tables ≤ length (base_at d p)) → IsMade d w
retold d v w same k there = told d d [] (sym (append-nil (stills d))) v w same k there

same_point : (d : Catalog) (v w : View) → IsSameView v.def w.def → w.point ≡ v.point → IsMade d v → IsMade d w
same_point d v w same point k = retold d v w same k (λ p e. k.there p (sym point ∙ e))

-- refreshed to the SCN of now
refreshed_now : (d : Catalog) (scn : ℕ) (v : View) → scn ≡ d.scn → IsMade d v → IsMade d (refreshed_to scn v)
refreshed_now d scn v same k =
    retold d v (refreshed_to scn v) refl k
    (λ p e. subst (λ n. length k.tables ≤ length (base_at d n)) (sym same ∙ same_Some scn p e) (all_there d v k))

-- refreshed to the SCN of an image that is before c, in which it was `then`
refreshed_then : (image c d : Catalog) → Precedes image c → Precedes c d → (then w : View) → IsSameView then.def w.def → IsMade image then → IsMade d (refreshed_to image.scn w)
refreshed_then image c d h k then w same t =
    let grown : stills d ≡ stills image ++ (h.tables.0 ++ k.tables.0) =
    k.tables.1 ∙ ap (λ defs. defs ++ k.tables.0) h.tables.1 ∙ append_assoc (stills image) h.tables.0 k.tables.0 in
    let base : base_at d image.scn ≡ base_now image = k.base image.scn h.scn ∙ h.base image.scn (omega arith) in
    told image d (h.tables.0 ++ k.tables.0) grown then (refreshed_to image.scn w) same t
    (λ p e. subst (λ n. length t.tables ≤ length (base_at d n)) (same_Some image.scn p e)
    (subst (λ (b : Base). length t.tables ≤ length b) (sym base) (all_there image then t)))

-- ---- views that are changed by their number

abbrev map_changed : ℕ → (View → View) → List View → List View
map_changed n f vs = change_where (λ v. v.def.view == n) f vs

changed_each : (P : View → Type 0) (n : ℕ) (f : View → View) → ((v : View) → P v → P (f v)) → (vs : List View) → Each P vs → Each P (map_changed n f vs)
changed_each P n f keeps vs h = each_map P P (λ v. cond (v.def.view == n) (f v) v) (λ v. by v (v.def.view == n)) vs h
  where
    by : (v : View) (b : Bool) → P v → P (cond b (f v) v)
    by v true k = keeps v k
    by v false k = k

-- one view alone has the number
no_other : (n : ℕ) (vs : List View) → Each (λ w. n < w.def.view) vs → Each (λ w. (w.def.view == n) ≡ false) vs
no_other n vs h = each_weaker (λ w. n < w.def.view) (λ w. (w.def.view == n) ≡ false) (λ w above. eq_false n w.def.view above) vs h

only_one : (n : ℕ) (vs : List View) (now : View) → Pairs IsBefore vs → find (λ v. v.def.view == n) vs ≡ Some now → Each (λ v. (v.def.view == n) ≡ true → v ≡ now) vs
only_one n [] now h found = tt
only_one n (v ∷ vs) now h found = by (v.def.view == n) refl found (only_one n vs now h.1)
  where
    by : (b : Bool) → (v.def.view == n) ≡ b → cond b (Some v) (find (λ v. v.def.view == n) vs) ≡ Some now
        → (find (λ v. v.def.view == n) vs ≡ Some now → Each (λ v. (v.def.view == n) ≡ true → v ≡ now) vs) → Each (λ v. (v.def.view == n) ≡ true → v ≡ now) (v ∷ vs)
    by true e f rest = (
      λ k. same_Some v now f,
      each_weaker (λ w. v.def.view < w.def.view) (λ w. (w.def.view == n) ≡ true → w ≡ now)
          (λ w above k. absurd (true≢false (sym k ∙ eq_false n w.def.view (subst (λ m. m < w.def.view) (eqb-true v.def.view n e) above)))) vs h.0,
    )
    by false e f rest = (λ k. absurd (true≢false (sym k ∙ e)), rest f)

changed_one : (P : View → Type 0) (n : ℕ) (f : View → View) (now : View) → (P (f now)) → (vs : List View) → Each (λ v. P v × ((v.def.view == n) ≡ true → v ≡ now)) vs
    → Each P (map_changed n f vs)
changed_one P n f now one vs h =
    each_map (λ v. P v × ((v.def.view == n) ≡ true → v ≡ now)) P (λ v. cond (v.def.view == n) (f v) v) (λ v both. by v both (v.def.view == n) refl) vs h
  where
    by : (v : View) → P v × ((v.def.view == n) ≡ true → v ≡ now) → (b : Bool) → (v.def.view == n) ≡ b → P (cond b (f v) v)
    by v both true e = subst (λ u. P (f u)) (sym (both.1 e)) one
    by v both false e = both.0

-- ---- views over tables

-- a view that isn't over a view
abbrev OverTables : Catalog → View → Type 0
OverTables c v = v.def.beneath ≡ None → IsMade c v

-- the definition over the same
still_over : (v w : View) → IsSameView v.def w.def → w.def.beneath ≡ None → v.def.beneath ≡ None
still_over v w same none = sym (ap (λ (d : ViewDef). d.beneath) same) ∙ none

-- ---- what an event leaves

-- the views are of their texts, and those of each image of a begin
record Texts (s : State) : Type 0 where
  now : Each (OverTables s.catalog) s.catalog.views
  begun : (n : ℕ) (b : Begun) → (session_of s n).begun ≡ Some b → Each (OverTables b.image) b.image.views

-- what is known of the state before
record Known (s : State) (x : Event) (d : Catalog) : Type 0 where
  precedes : Precedes s.catalog d
  pointed : Each (IsAtMost s.catalog.scn) s.catalog.views
  ordered : Pairs IsBefore s.catalog.views
  images : (b : Begun) → (own s x).begun ≡ Some b → Precedes b.image s.catalog × Pairs IsBefore b.image.views

-- what the refreshes at a commit keep, as of the catalog that they leave
abbrev AreTold : Catalog → Catalog → Type 0
AreTold d c = (c.scn ≡ d.scn) × Each (OverTables d) c.views

due_told : (d : Catalog) → KeepsDue (AreTold d)
due_told d =
    record {
      suspends = λ c n h. (h.0, changed_each (OverTables d) n suspended (λ v k none. same_point d v (suspended v) refl refl (k none)) c.views h.1);
      refreshes = λ c n h. (h.0, changed_each (OverTables d) n (refreshed_to c.scn) (λ v k none. refreshed_now d c.scn v h.0 (k none)) c.views h.1);
    }

-- the view as it is made
made_told : (c d : Catalog) → Precedes c d → (v : NewView) (q : StarQuery) → resolve (defs_now c) v.asked.query ≡ Ok q
    → IsMade d (new_view c v q)
made_told c d h v q resolved =
    record {
      query = v.asked.query;
      tables = defs_now c;
      later = h.tables.0;
      since = h.tables.1;
      resolved = resolved;
      defined = refl;
      there = λ p e. built (not v.deferred) p e;
    }
  where
    built : (b : Bool) (p : ℕ) → where_true b c.scn ≡ Some p → length (defs_now c) ≤ length (base_at d p)
    built false p e = absurd (none-some p e)
    built true p e =
        let all : length (defs_now c) ≡ length (base_at d c.scn) = length-map (base_now c) (λ (t : Table). t.def) ∙ ap (λ (base : Base). length base) (sym (h.base c.scn (omega arith))) in
        subst (λ n. length (defs_now c) ≤ length (base_at d n)) (same_Some c.scn p e) (omega (arith, all))

-- a view that is found in any way is found by its number
found_number : (vs : List View) (test : View → Bool) (then : View) → Pairs IsBefore vs → find test vs ≡ Some then → find (λ v. v.def.view == then.def.view) vs ≡ Some then
found_number [] test then h e = absurd (none-some then e)
found_number (v ∷ vs) test then h e = by (test v) e (found_number vs test then h.1)
  where
    by : (b : Bool) → cond b (Some v) (find test vs) ≡ Some then → (find test vs ≡ Some then → find (λ w. w.def.view == then.def.view) vs ≡ Some then)
        → cond (v.def.view == then.def.view) (Some v) (find (λ w. w.def.view == then.def.view) vs) ≡ Some then
    by true f rest =
        let same : v ≡ then = same_Some v then f in
        ap (λ b. cond b (Some v) (find (λ w. w.def.view == then.def.view) vs)) (eq-eqb v.def.view then.def.view (ap (λ (u : View). u.def.view) same)) ∙ ap (λ u. Some u) same
    by false f rest =
        let above : v.def.view < then.def.view = each_found (IsBefore v) test vs then h.0 f in
        ap (λ b. cond b (Some v) (find (λ w. w.def.view == then.def.view) vs)) (below_differs v.def.view then.def.view above) ∙ rest f

-- the views as installs leave them
installs_told : (P : View → Type 0) (ps : List (ℕ × ℕ)) (c : Catalog) → Each (λ v. P v × Each (λ p. (v.def.view == p.0) ≡ true → P (refreshed_to p.1 v)) ps) c.views → ((v : View) (m n : ℕ) → P (refreshed_to m v) → P (refreshed_to m (refreshed_to n v))) → Each P (installed ps c).views
installs_told P [] c h k = each_weaker (λ v. P v × Unit {0}) P (λ v both. both.0) c.views h
installs_told P (p ∷ ps) c h k =
    installs_told P ps (change_view p.0 (refreshed_to p.1) c)
    (each_map (λ v. P v × Each (λ p. (v.def.view == p.0) ≡ true → P (refreshed_to p.1 v)) (p ∷ ps)) (λ v. P v × Each (λ p. (v.def.view == p.0) ≡ true → P (refreshed_to p.1 v)) ps)
    (λ v. cond (v.def.view == p.0) (refreshed_to p.1 v) v) (λ v both. by v both (v.def.view == p.0) refl) c.views h) k
  where
    by : (v : View) → P v × Each (λ p. (v.def.view == p.0) ≡ true → P (refreshed_to p.1 v)) (p ∷ ps) → (b : Bool) → (v.def.view == p.0) ≡ b
        → P (cond b (refreshed_to p.1 v) v) × Each (λ q. ((cond b (refreshed_to p.1 v) v).def.view == q.0) ≡ true → P (refreshed_to q.1 (cond b (refreshed_to p.1 v) v))) ps
    by v both true e = (both.1.0 e, each_weaker (λ q. (v.def.view == q.0) ≡ true → P (refreshed_to q.1 v)) (λ q. (v.def.view == q.0) ≡ true → P (refreshed_to q.1 (refreshed_to p.1 v))) (λ q own f. k v q.1 p.1 (own f)) ps both.1.1)
    by v both false e = (both.0, both.1.1)

module _ (s : State) (x : Event) (d : Catalog) (known : Known s x d) (texts : Texts s) where
  all_told : Each (OverTables d) s.catalog.views
  all_told =
      each_weaker (λ v. IsAtMost s.catalog.scn v × OverTables s.catalog v) (OverTables d) (λ v both none. carried s.catalog d known.precedes v both.0 (both.1 none)) s.catalog.views
      (each_two (IsAtMost s.catalog.scn) (OverTables s.catalog) s.catalog.views known.pointed texts.now)

  -- the view that takes what was begun
  taken_told : (b : Begun) (p : ℕ × ℕ) → (own s x).begun ≡ Some b → Takes s.catalog b p → Each (λ v. (v.def.view == p.0) ≡ true → OverTables d (refreshed_to p.1 v)) s.catalog.views
  taken_told b p begun t =
      let c : Catalog = s.catalog in
      let image : Catalog = b.image in
      let before : Precedes image c = (known.images b begun).0 in
      let number : view_numbered image t.then.def.view ≡ Some t.then = found_number image.views t.test t.then (known.images b begun).1 t.was in
      let same : IsSameView t.then.def t.now.def = before.same t.then.def.view t.then t.now number t.found in
      let has : t.now.def.view ≡ t.then.def.view = find_has (λ (v : View). v.def.view) t.then.def.view c.views t.now t.found in
      let text : OverTables image t.then = each_found (OverTables image) t.test image.views t.then (texts.begun (entry_bearer x.entry) b begun) t.was in
      let one : OverTables d (refreshed_to p.1 t.now) =
      λ none. let was : t.then.def.beneath ≡ None = still_over t.then t.now same none in
      subst (λ m. IsMade d (refreshed_to m t.now)) (sym (t.plain was none)) (refreshed_then image c d before known.precedes t.then t.now same (text was)) in
      each_weaker (λ v. (v.def.view == t.now.def.view) ≡ true → v ≡ t.now) (λ v. (v.def.view == p.0) ≡ true → OverTables d (refreshed_to p.1 v))
      (λ v only e. subst (λ u. OverTables d (refreshed_to p.1 u)) (sym (only (ap (λ n. v.def.view == n) (sym t.number) ∙ e))) one) c.views
      (only_one t.now.def.view c.views t.now known.ordered (subst (λ n. view_numbered c n ≡ Some t.now) (sym has) t.found))

  installed_told : (b : Begun) (ps : List (ℕ × ℕ)) → (own s x).begun ≡ Some b → Each (Takes s.catalog b) ps → Each (OverTables d) (installed ps s.catalog).views
  installed_told b ps begun takes =
      installs_told (OverTables d) ps s.catalog
      (each_two (OverTables d) (λ v. Each (λ p. (v.def.view == p.0) ≡ true → OverTables d (refreshed_to p.1 v)) ps) s.catalog.views all_told
      (Each-turn (λ p v. (v.def.view == p.0) ≡ true → OverTables d (refreshed_to p.1 v)) ps s.catalog.views
      (each_weaker (Takes s.catalog b) (λ p. Each (λ v. (v.def.view == p.0) ≡ true → OverTables d (refreshed_to p.1 v)) s.catalog.views) (λ p t. taken_told b p begun t) ps takes)))
      (λ v m n k. k)

  new_told : (v : NewView) (w : View) → MakesView s.catalog v w → OverTables d w
  new_told v w (Plain q star is) none = subst (IsMade d) (sym is) (made_told s.catalog d known.precedes v q star)
  new_told v w (Over u q beneath star built is) none = absurd (some_beneath u.def.view (sym (ap (λ (w : View). w.def.beneath) is) ∙ none))
    where
      some_beneath : (n : ℕ) → Some n ≡ None → ⊥
      some_beneath n e = cc

  views_told : Move s x d → Each (OverTables d) d.views
  views_told (Stays is) = subst (Each (OverTables d)) (sym (ap (λ (k : Catalog). k.views) is)) all_told
  views_told (Commits p ss same block is) =
      let past : SamePast (after_block s.catalog p) (do_dues (after_block s.catalog p) p.changes).catalog = dues_past s.catalog p in
      let scn : (after_block s.catalog p).scn ≡ d.scn = sym past.scn ∙ sym (ap (λ (k : Catalog). k.scn) is) in
      subst (λ (k : Catalog). Each (OverTables d) k.views) (sym is) (dues_keep (AreTold d) (due_told d) (after_block s.catalog p) p.changes (scn, all_told)).1
  views_told (Creates t new fits is) = subst (Each (OverTables d)) (sym (ap (λ (k : Catalog). k.views) is)) all_told
  views_told (Alters n a same change form cut is) = subst (Each (OverTables d)) (sym (ap (λ (k : Catalog). k.views) is)) all_told
  views_told (Logs logs made is) = subst (Each (OverTables d)) (sym (ap (λ (k : Catalog). k.views) is)) all_told
  views_told (Purges logs purge is) = subst (Each (OverTables d)) (sym (ap (λ (k : Catalog). k.views) is)) all_told
  views_told (Forgets oldest more undo is) = subst (Each (OverTables d)) (sym (ap (λ (k : Catalog). k.views) is)) all_told
  views_told (Adds v w new star is) =
      subst (λ (k : Catalog). Each (OverTables d) k.views) (sym is)
      (each_append (OverTables d) s.catalog.views (w ∷ []) all_told (new_told v w star, tt))
  views_told (Switches n f keeps is) =
      subst (Each (OverTables d)) (sym (ap (λ (k : Catalog). k.views) is)) (changed_each (OverTables d) n f (λ v k none. same_point d v (f v) (keeps.def v) (keeps.point v) (k (still_over v (f v) (keeps.def v) none))) s.catalog.views all_told)
  views_told (Installs b ps begun takes is) = subst (Each (OverTables d)) (sym (ap (λ (k : Catalog). k.views) is)) (installed_told b ps begun takes)
  views_told (Drops n free is) = subst (Each (OverTables d)) (sym (ap (λ (k : Catalog). k.views) is)) (each_filter (OverTables d) (λ w. not (w.def.view == n)) s.catalog.views all_told)
  views_told (Declares a new is) = subst (Each (OverTables d)) (sym (ap (λ (k : Catalog). k.views) is)) all_told
  views_told (Withdraws name is) = subst (Each (OverTables d)) (sym (ap (λ (k : Catalog). k.views) is)) all_told

-- ---- the images of begins

abbrev ImagesTold : State → Type 0
ImagesTold s = (n : ℕ) (b : Begun) → (session_of s n).begun ≡ Some b → Each (OverTables b.image) b.image.views

own_image : (s : State) (x : Event) (y : Session) → Texts s → Turn s x y → (b : Begun) → y.begun ≡ Some b → Each (OverTables b.image) b.image.views
own_image s x y texts (Keeps reading begun) b found = texts.begun (entry_bearer x.entry) b (sym begun ∙ found)
own_image s x y texts (Closes is) b found = texts.begun (entry_bearer x.entry) b (sym (ap (λ (z : Session). z.begun) is) ∙ found)
own_image s x y texts (Opens command is) b found = texts.begun (entry_bearer x.entry) b (sym (ap (λ (z : Session). z.begun) is) ∙ found)
own_image s x y texts (Begins r begins is) b found =
    let same : begun_over s.catalog r.name ≡ b = same_Some (begun_over s.catalog r.name) b (sym (ap (λ (z : Session). z.begun) is) ∙ found) in
    subst (λ (k : Begun). Each (OverTables k.image) k.image.views) same texts.now
own_image s x y texts (Ends is) b found = absurd (none-some b (sym (ap (λ (z : Session). z.begun) is) ∙ found))

images_told : (s : State) (x : Event) → Texts s → ImagesTold (state_after s x)
images_told s x texts n b found = by (is_of n x) refl
  where
    by : (mine : Bool) → is_of n x ≡ mine → Each (OverTables b.image) b.image.views
    by true is =
        own_image s x (own (state_after s x) x) texts (moves s x).session b
        (subst (λ k. (session_of (state_after s x) k).begun ≡ Some b) (sym (eqb-true (entry_bearer x.entry) n is)) found)
    by false is = texts.begun n b (sym (ap (λ (y : Session). y.begun) ((moves s x).others n is)) ∙ found)

-- ---- traces

image_ordered : (front : List Event) (n : ℕ) (b : Begun) → (session_of (state_of front) n).begun ≡ Some b → Pairs IsBefore b.image.views
image_ordered front n b found =
    let h : HasBegun front n b = image_laws.begun front n b found in
    subst (λ (c : Catalog). Pairs IsBefore c.views) (sym (ap (λ (b : Begun). b.image) h.kept)) (trace_ordered h.front).ascending

known_of : (front : List Event) (x : Event) → Known (state_of front) x (state_after (state_of front) x).catalog
known_of front x =
    record {
      precedes = subst (λ (s : State). Precedes (catalog_of front) s.catalog) (state_push front x) (trace_precedes front (x ∷ []));
      pointed = trace_pointed front;
      ordered = (trace_ordered front).ascending;
      images = λ b found. (image_laws.begun_before front (entry_bearer x.entry) b found, image_ordered front (entry_bearer x.entry) b found);
    }

trace_made : (trace : List Event) → Texts (state_of trace)
trace_made = by_events (λ trace. Texts (state_of trace)) (record { now = tt; begun = λ n b found. absurd (none-some b found) }) step
  where
    step : (front : List Event) (x : Event) → Texts (state_of front) → Texts (state_of (front ++ x ∷ []))
    step front x h =
        let s : State = state_of front in
        subst Texts (sym (state_push front x)) (record { now = views_told s x (state_after s x).catalog (known_of front x) h (moves s x).catalog; begun = images_told s x h })

-- so each view of a trace over tables is a star over tables that are there
pub views : (trace : List Event) → All (λ v. v.def.beneath ≡ None → IsPlanned (catalog_of trace) (current (catalog_of trace) v)) (catalog_of trace).views
views trace =
    let c : Catalog = catalog_of trace in
    all_from (λ v. v.def.beneath ≡ None → IsPlanned c (current c v)) c.views
    (each_weaker (OverTables c) (λ v. v.def.beneath ≡ None → IsPlanned c (current c v))
    (λ v k none. let m : IsMade c v = k none in planned trace (current c v) m.query m.tables m.later m.since m.resolved refl m.there) c.views (trace_made trace).now)

planned_kept : (trace : List Event) (v : View) → IsCurrent (catalog_of trace) v → IsPlanned (catalog_of trace) (current (catalog_of trace) v) → IsPlanned (catalog_of trace) v
planned_kept trace v is h = subst (IsPlanned (catalog_of trace)) (ap (λ ds. record v { def = record v.def { tables = ds } }) (sym is)) h

-- the restrictions of such a view are those by the definitions of now
restricted_same : (trace : List Event) → All (λ v. v.def.beneath ≡ None → restriction (catalog_of trace) (current (catalog_of trace) v) ≡ restriction (catalog_of trace) v) (catalog_of trace).views
restricted_same trace =
    let c : Catalog = catalog_of trace in
    all_from (λ v. v.def.beneath ≡ None → restriction c (current c v) ≡ restriction c v) c.views
    (each_weaker (OverTables c) (λ v. v.def.beneath ≡ None → restriction c (current c v) ≡ restriction c v)
    (λ v k none. let m : IsMade c v = k none in
    sym (restriction_same c (current c v))
    ∙ ap (λ ts. restriction c (record v { def = record v.def { tables = ts } })) (sym (kept_definitions trace v m.query m.tables m.later m.since m.resolved m.defined))
    ∙ restriction_same c v) c.views (trace_made trace).now)

pub plan_laws : PlanLaws
plan_laws = record { planned = planned; views = views; kept = planned_kept; restricted = restricted_same }
