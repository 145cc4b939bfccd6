-- Every view over tables is what its tokens read as, over the tables that were there when it was made, and its tables were there at its point.
use Rattle.std.proofs.Common.{◌≡◌, ◌∙◌, sym, ap, refl, subst, arith, ℕ, suc, ◌+◌, ◌<◌, ◌≤◌, Bool, true, false, cond, not, List, [], ◌∷◌, ◌++◌, length, map, None, Some, ◌==◌, true≢false}
use Rattle.std.proofs.lemmas.Option.{none-some, same_Some}
use Rattle.std.specs.List.{All, find}
use Rattle.std.specs.Option.{ForSome}
use Rattle.std.specs.Prelude.{Ok}
use Rattle.std.proofs.lemmas.Bool.{eq-eqb, eqb-true}
use Rattle.std.proofs.lemmas.List.Elements.{All-head, All-tail}
use Rattle.std.proofs.lemmas.List.{append-nil, append_assoc, length-append, length-map}
use Rattle.wh_base.specs.Lists.{change_where, where_true}
use Rattle.wh_base.specs.Parts.{entry_bearer}
use Rattle.wh_base.specs.Tables.{Base, Table, def_at}
use Rattle.wh_base.specs.declared.queries.RawQuery.{RawQuery}
use Rattle.wh_base.specs.declared.queries.StarQuery.{StarQuery}
use Rattle.wh_base.specs.declared.statements.Event.{Event}
use Rattle.wh_base.specs.declared.statements.NewView.{NewView}
use Rattle.wh_base.specs.declared.tables.TableDef.{TableDef}
use Rattle.wh_base.specs.declared.views.ViewDef.{ViewDef}
use Rattle.def_grammar.specs.Query.{select}
use Rattle.def_grammar.specs.Reading.{whole}
use Rattle.def_history.specs.Catalog.{Catalog, View, base_at, base_now, defs_now, view_numbered}
use Rattle.def_journal.specs.Committing.{after_block, do_dues}
use Rattle.def_journal.specs.Journal.{state_after, state_of}
use Rattle.def_journal.specs.Refreshing.{change_view, refreshed_to}
use Rattle.def_journal.specs.State.{Begun, Session, State, session_of}
use Rattle.def_journal.specs.Statements.{new_view}
use Rattle.def_resolve.specs.Resolve.{resolve}
use Rattle.law_trace.proofs.Due.{KeepsDue, dues_keep, suspended}
use Rattle.law_trace.proofs.Growing.{SamePast, dues_past}
use Rattle.law_trace.proofs.Listed.{Each, Pairs, all_from, below_differs, each_append, each_filter, each_found, each_left, each_map, each_right, each_two, each_weaker, eq_false, find_has}
use Rattle.law_trace.proofs.Moves.{Adds, Alters, Begins, Closes, Commits, Creates, Declares, Drops, Ends, Forgets, Installs, Keeps, Logs, Move, Opens, Purges, Stays, MakesView, Over, Plain, Switches, Takes, Turn, Withdraws, installed, own}
use Rattle.law_trace.proofs.Pointing.{trace_pointed}
use Rattle.law_trace.proofs.Preceding.{image_laws, trace_precedes}
use Rattle.law_trace.proofs.Stepping.{moves}
use Rattle.law_trace.proofs.Traces.{by_events, state_push}
use Rattle.law_trace.proofs.Viewing.{IsBefore, trace_ordered}
use Rattle.law_trace.specs.Reached.{HasBegun, IsSameView, Precedes, begun_over, catalog_of, is_of, still, stills}
use Rattle.law_views.proofs.Stepping.{Leaves, Makes, Shows, seen}
use Rattle.law_views.proofs.Switched.{resolve-still}
use Rattle.law_views.specs.Laws.{IsOfText, IsOfTextNow, ViewTexts}
use Rattle.law_views.specs.Read.{AreRead, IsRead, ReadsAs}

-- ---- from one catalog to a later one

-- the view v of c as it is in d, by then w
told : (c d : Catalog) (more : List TableDef) → stills d ≡ stills c ++ more → (v w : View) → IsSameView v.def w.def → (k : IsOfText c v)
    → ForSome w.point (λ p. length k.tables ≤ length (base_at d p)) → IsOfText d w
told c d more grown v w same k there =
    record {
      query = k.query;
      tables = k.tables;
      later = k.later ++ more;
      since = grown ∙ ap (λ defs. defs ++ more) k.since ∙ append_assoc (map still k.tables) k.later more;
      reads = ap (λ (e : ViewDef). whole select e.tokens) same ∙ k.reads;
      resolved = subst (λ q. resolve k.tables k.query ≡ Ok q) (sym (ap (λ (e : ViewDef). e.query) same)) k.resolved;
      defined = ap (λ (e : ViewDef). e.tables) same ∙ k.defined ∙ ap (λ (e : ViewDef). map (def_at k.tables) e.query.tables) (sym same);
      there = there;
    }

-- a table for each definition
defined_length : (c : Catalog) → length (stills c) ≡ length (base_now c)
defined_length c = length-map (defs_now c) still ∙ length-map (base_now c) (λ (t : Table). t.def)

-- the tables of the view are there now
all_there : (c : Catalog) (v : View) (k : IsOfText c v) → length k.tables ≤ length (base_now c)
all_there c v k =
    let all : length (stills c) ≡ length (map still k.tables ++ k.later) = ap (λ (defs : List TableDef). length defs) k.since in
    let parts : length (map still k.tables ++ k.later) ≡ length (map still k.tables) + length k.later = length-append (map still k.tables) k.later in
    let many : length (map still k.tables) ≡ length k.tables = length-map k.tables still in
    omega (arith, all, parts, many, defined_length c)

-- no point of the view is above the SCN
abbrev IsAtMost : ℕ → View → Type 0
IsAtMost scn v = ForSome v.point (λ p. p ≤ scn)

carried : (c d : Catalog) → Precedes c d → (v : View) → IsAtMost c.scn v → IsOfText c v → IsOfText d v
carried c d h v low k =
    told c d h.tables.0 h.tables.1 v v refl k (λ p e. subst (λ (base : Base). length k.tables ≤ length base) (sym (h.base p (low p e))) (k.there p e))

-- the view in the same catalog, changed
retold : (d : Catalog) (v w : View) → IsSameView v.def w.def → (k : IsOfText d v) → ForSome w.point (λ p. length k.tables ≤ length (base_at d p)) → IsOfText d w
retold d v w same k there = told d d [] (sym (append-nil (stills d))) v w same k there

same_point : (d : Catalog) (v w : View) → IsSameView v.def w.def → w.point ≡ v.point → IsOfText d v → IsOfText d w
same_point d v w same point k = retold d v w same k (λ p e. k.there p (sym point ∙ e))

-- refreshed to the SCN of now
refreshed_now : (d : Catalog) (scn : ℕ) (v : View) → scn ≡ d.scn → IsOfText d v → IsOfText d (refreshed_to scn v)
refreshed_now d scn v same k =
    retold d v (refreshed_to scn v) refl k
    (λ p e. subst (λ n. length k.tables ≤ length (base_at d n)) (sym same ∙ same_Some scn p e) (all_there d v k))

-- refreshed to the SCN of an image that is before c, in which it was `then`
refreshed_then : (image c d : Catalog) → Precedes image c → Precedes c d → (then w : View) → IsSameView then.def w.def → IsOfText image then → IsOfText d (refreshed_to image.scn w)
refreshed_then image c d h k then w same t =
    let grown : stills d ≡ stills image ++ (h.tables.0 ++ k.tables.0) =
    k.tables.1 ∙ ap (λ defs. defs ++ k.tables.0) h.tables.1 ∙ append_assoc (stills image) h.tables.0 k.tables.0 in
    let base : base_at d image.scn ≡ base_now image = k.base image.scn h.scn ∙ h.base image.scn (omega arith) in
    told image d (h.tables.0 ++ k.tables.0) grown then (refreshed_to image.scn w) same t
    (λ p e. subst (λ n. length t.tables ≤ length (base_at d n)) (same_Some image.scn p e)
    (subst (λ (b : Base). length t.tables ≤ length b) (sym base) (all_there image then t)))

-- ---- views that are changed by their number

abbrev map_changed : ℕ → (View → View) → List View → List View
map_changed n f vs = change_where (λ v. v.def.view == n) f vs

changed_each : (P : View → Type 0) (n : ℕ) (f : View → View) → ((v : View) → P v → P (f v)) → (vs : List View) → Each P vs → Each P (map_changed n f vs)
changed_each P n f keeps vs h = each_map P P (λ v. cond (v.def.view == n) (f v) v) (λ v. by v (v.def.view == n)) vs h
  where
    by : (v : View) (b : Bool) → P v → P (cond b (f v) v)
    by v true k = keeps v k
    by v false k = k

-- one view alone has the number
only_one : (n : ℕ) (vs : List View) (now : View) → Pairs IsBefore vs → find (λ v. v.def.view == n) vs ≡ Some now → Each (λ v. (v.def.view == n) ≡ true → v ≡ now) vs
only_one n [] now h found = tt
only_one n (v ∷ vs) now h found = by (v.def.view == n) refl found (only_one n vs now h.1)
  where
    by : (b : Bool) → (v.def.view == n) ≡ b → cond b (Some v) (find (λ v. v.def.view == n) vs) ≡ Some now
        → (find (λ v. v.def.view == n) vs ≡ Some now → Each (λ v. (v.def.view == n) ≡ true → v ≡ now) vs) → Each (λ v. (v.def.view == n) ≡ true → v ≡ now) (v ∷ vs)
    by true e f rest = (
      λ k. same_Some v now f,
      each_weaker (λ w. v.def.view < w.def.view) (λ w. (w.def.view == n) ≡ true → w ≡ now)
          (λ w above k. absurd (true≢false (sym k ∙ eq_false n w.def.view (subst (λ m. m < w.def.view) (eqb-true v.def.view n e) above)))) vs h.0,
    )
    by false e f rest = (λ k. absurd (true≢false (sym k ∙ e)), rest f)

-- ---- views over tables

-- a view that isn't over a view
abbrev pub OverTables : Catalog → View → Type 0
OverTables c v = v.def.beneath ≡ None → IsOfText c v

-- the definition over the same
still_over : (v w : View) → IsSameView v.def w.def → w.def.beneath ≡ None → v.def.beneath ≡ None
still_over v w same none = sym (ap (λ (d : ViewDef). d.beneath) same) ∙ none

-- ---- what an event leaves

-- the views are of their texts, and those of each image of a begin
record Texts (s : State) : Type 0 where
  now : Each (OverTables s.catalog) s.catalog.views
  begun : (n : ℕ) (b : Begun) → (session_of s n).begun ≡ Some b → Each (OverTables b.image) b.image.views

-- what is known of the state before
record Known (s : State) (x : Event) (d : Catalog) : Type 0 where
  precedes : Precedes s.catalog d
  pointed : Each (IsAtMost s.catalog.scn) s.catalog.views
  ordered : Pairs IsBefore s.catalog.views
  images : (b : Begun) → (own s x).begun ≡ Some b → Precedes b.image s.catalog × Pairs IsBefore b.image.views
  read : IsRead x.command

-- what the refreshes at a commit keep, as of the catalog that they leave
abbrev AreTold : Catalog → Catalog → Type 0
AreTold d c = (c.scn ≡ d.scn) × Each (OverTables d) c.views

due_told : (d : Catalog) → KeepsDue (AreTold d)
due_told d =
    record {
      suspends = λ c n h. (h.0, changed_each (OverTables d) n suspended (λ v k none. same_point d v (suspended v) refl refl (k none)) c.views h.1);
      refreshes = λ c n h. (h.0, changed_each (OverTables d) n (refreshed_to c.scn) (λ v k none. refreshed_now d c.scn v h.0 (k none)) c.views h.1);
    }

-- the view as it is made
made_told : (c d : Catalog) → Precedes c d → (v : NewView) (q : StarQuery) → ReadsAs v.asked → resolve (defs_now c) v.asked.query ≡ Ok q → IsOfText d (new_view c v q)
made_told c d h v q reads resolved =
    record {
      query = v.asked.query;
      tables = defs_now c;
      later = h.tables.0;
      since = h.tables.1;
      reads = reads;
      resolved = resolved;
      defined = refl;
      there = λ p e. built (not v.deferred) p e;
    }
  where
    built : (b : Bool) (p : ℕ) → where_true b c.scn ≡ Some p → length (defs_now c) ≤ length (base_at d p)
    built false p e = absurd (none-some p e)
    built true p e =
        let all : length (defs_now c) ≡ length (base_at d c.scn) = length-map (base_now c) (λ (t : Table). t.def) ∙ ap (λ (base : Base). length base) (sym (h.base c.scn (omega arith))) in
        subst (λ n. length (defs_now c) ≤ length (base_at d n)) (same_Some c.scn p e) (omega (arith, all))

-- a view that is found in any way is found by its number
found_number : (vs : List View) (test : View → Bool) (then : View) → Pairs IsBefore vs → find test vs ≡ Some then → find (λ v. v.def.view == then.def.view) vs ≡ Some then
found_number [] test then h e = absurd (none-some then e)
found_number (v ∷ vs) test then h e = by (test v) e (found_number vs test then h.1)
  where
    by : (b : Bool) → cond b (Some v) (find test vs) ≡ Some then → (find test vs ≡ Some then → find (λ w. w.def.view == then.def.view) vs ≡ Some then)
        → cond (v.def.view == then.def.view) (Some v) (find (λ w. w.def.view == then.def.view) vs) ≡ Some then
    by true f rest =
        let same : v ≡ then = same_Some v then f in
        ap (λ b. cond b (Some v) (find (λ w. w.def.view == then.def.view) vs)) (eq-eqb v.def.view then.def.view (ap (λ (u : View). u.def.view) same)) ∙ ap (λ u. Some u) same
    by false f rest =
        let above : v.def.view < then.def.view = each_found (IsBefore v) test vs then h.0 f in
        ap (λ b. cond b (Some v) (find (λ w. w.def.view == then.def.view) vs)) (below_differs v.def.view then.def.view above) ∙ rest f

-- the views as installs leave them
installs_told : (P : View → Type 0) (ps : List (ℕ × ℕ)) (c : Catalog) → Each (λ v. P v × Each (λ p. (v.def.view == p.0) ≡ true → P (refreshed_to p.1 v)) ps) c.views → ((v : View) (m n : ℕ) → P (refreshed_to m v) → P (refreshed_to m (refreshed_to n v))) → Each P (installed ps c).views
installs_told P [] c h k = each_weaker (λ v. P v × Unit {0}) P (λ v both. both.0) c.views h
installs_told P (p ∷ ps) c h k =
    installs_told P ps (change_view p.0 (refreshed_to p.1) c)
    (each_map (λ v. P v × Each (λ p. (v.def.view == p.0) ≡ true → P (refreshed_to p.1 v)) (p ∷ ps)) (λ v. P v × Each (λ p. (v.def.view == p.0) ≡ true → P (refreshed_to p.1 v)) ps)
    (λ v. cond (v.def.view == p.0) (refreshed_to p.1 v) v) (λ v both. by v both (v.def.view == p.0) refl) c.views h) k
  where
    by : (v : View) → P v × Each (λ p. (v.def.view == p.0) ≡ true → P (refreshed_to p.1 v)) (p ∷ ps) → (b : Bool) → (v.def.view == p.0) ≡ b
        → P (cond b (refreshed_to p.1 v) v) × Each (λ q. ((cond b (refreshed_to p.1 v) v).def.view == q.0) ≡ true → P (refreshed_to q.1 (cond b (refreshed_to p.1 v) v))) ps
    by v both true e = (both.1.0 e, each_weaker (λ q. (v.def.view == q.0) ≡ true → P (refreshed_to q.1 v)) (λ q. (v.def.view == q.0) ≡ true → P (refreshed_to q.1 (refreshed_to p.1 v))) (λ q own f. k v q.1 p.1 (own f)) ps both.1.1)
    by v both false e = (both.0, both.1.1)

each_turned : {A B : Type 0} (R : A → B → Type 0) (xs : List A) (ys : List B) → Each (λ y. Each (λ x. R x y) xs) ys → Each (λ x. Each (R x) ys) xs
each_turned R [] ys h = tt
each_turned R (x ∷ xs) ys h = (each_weaker (λ y. Each (λ z. R z y) (x ∷ xs)) (R x) (λ y k. k.0) ys h, each_turned R xs ys (each_weaker (λ y. Each (λ z. R z y) (x ∷ xs)) (λ y. Each (λ z. R z y) xs) (λ y k. k.1) ys h))

module _ (s : State) (x : Event) (d : Catalog) (known : Known s x d) (texts : Texts s) where
  all_told : Each (OverTables d) s.catalog.views
  all_told =
      each_weaker (λ v. IsAtMost s.catalog.scn v × OverTables s.catalog v) (OverTables d) (λ v both none. carried s.catalog d known.precedes v both.0 (both.1 none)) s.catalog.views
      (each_two (IsAtMost s.catalog.scn) (OverTables s.catalog) s.catalog.views known.pointed texts.now)

  -- the view that takes what was begun
  taken_told : (b : Begun) (p : ℕ × ℕ) → (own s x).begun ≡ Some b → Takes s.catalog b p → Each (λ v. (v.def.view == p.0) ≡ true → OverTables d (refreshed_to p.1 v)) s.catalog.views
  taken_told b p begun t =
      let c : Catalog = s.catalog in
      let image : Catalog = b.image in
      let before : Precedes image c = (known.images b begun).0 in
      let number : view_numbered image t.then.def.view ≡ Some t.then = found_number image.views t.test t.then (known.images b begun).1 t.was in
      let same : IsSameView t.then.def t.now.def = before.same t.then.def.view t.then t.now number t.found in
      let has : t.now.def.view ≡ t.then.def.view = find_has (λ (v : View). v.def.view) t.then.def.view c.views t.now t.found in
      let text : OverTables image t.then = each_found (OverTables image) t.test image.views t.then (texts.begun (entry_bearer x.entry) b begun) t.was in
      let one : OverTables d (refreshed_to p.1 t.now) =
      λ none. let was : t.then.def.beneath ≡ None = still_over t.then t.now same none in
      subst (λ m. IsOfText d (refreshed_to m t.now)) (sym (t.plain was none)) (refreshed_then image c d before known.precedes t.then t.now same (text was)) in
      each_weaker (λ v. (v.def.view == t.now.def.view) ≡ true → v ≡ t.now) (λ v. (v.def.view == p.0) ≡ true → OverTables d (refreshed_to p.1 v))
      (λ v only e. subst (λ u. OverTables d (refreshed_to p.1 u)) (sym (only (ap (λ n. v.def.view == n) (sym t.number) ∙ e))) one) c.views
      (only_one t.now.def.view c.views t.now known.ordered (subst (λ n. view_numbered c n ≡ Some t.now) (sym has) t.found))

  installed_told : (b : Begun) (ps : List (ℕ × ℕ)) → (own s x).begun ≡ Some b → Each (Takes s.catalog b) ps → Each (OverTables d) (installed ps s.catalog).views
  installed_told b ps begun takes =
      installs_told (OverTables d) ps s.catalog
      (each_two (OverTables d) (λ v. Each (λ p. (v.def.view == p.0) ≡ true → OverTables d (refreshed_to p.1 v)) ps) s.catalog.views all_told
      (each_turned (λ v p. (v.def.view == p.0) ≡ true → OverTables d (refreshed_to p.1 v)) s.catalog.views ps
      (each_weaker (Takes s.catalog b) (λ p. Each (λ v. (v.def.view == p.0) ≡ true → OverTables d (refreshed_to p.1 v)) s.catalog.views) (λ p t. taken_told b p begun t) ps takes)))
      (λ v m n k. k)

  new_told : (v : NewView) (w : View) → ReadsAs v.asked → MakesView s.catalog v w → OverTables d w
  new_told v w reads (Plain q star is) none = subst (IsOfText d) (sym is) (made_told s.catalog d known.precedes v q reads star)
  new_told v w reads (Over u q beneath star built is) none = absurd (some_beneath u.def.view (sym (ap (λ (w : View). w.def.beneath) is) ∙ none))
    where
      some_beneath : (n : ℕ) → Some n ≡ None → ⊥
      some_beneath n e = cc

  -- where no view is made
  left_told : d.views_made ≡ s.catalog.views_made → Move s x d → Each (OverTables d) d.views
  left_told made (Stays is) = subst (Each (OverTables d)) (sym (ap (λ (k : Catalog). k.views) is)) all_told
  left_told made (Commits p ss same block is) =
      let past : SamePast (after_block s.catalog p) (do_dues (after_block s.catalog p) p.changes).catalog = dues_past s.catalog p in
      let scn : (after_block s.catalog p).scn ≡ d.scn = sym past.scn ∙ sym (ap (λ (k : Catalog). k.scn) is) in
      subst (λ (k : Catalog). Each (OverTables d) k.views) (sym is) (dues_keep (AreTold d) (due_told d) (after_block s.catalog p) p.changes (scn, all_told)).1
  left_told made (Creates t new fits is) = subst (Each (OverTables d)) (sym (ap (λ (k : Catalog). k.views) is)) all_told
  left_told made (Alters n a same change form cut is) = subst (Each (OverTables d)) (sym (ap (λ (k : Catalog). k.views) is)) all_told
  left_told same (Logs logs made is) = subst (Each (OverTables d)) (sym (ap (λ (k : Catalog). k.views) is)) all_told
  left_told made (Purges logs purge is) = subst (Each (OverTables d)) (sym (ap (λ (k : Catalog). k.views) is)) all_told
  left_told made (Forgets oldest more undo is) = subst (Each (OverTables d)) (sym (ap (λ (k : Catalog). k.views) is)) all_told
  left_told made (Adds v w new star is) = let grown : d.views_made ≡ suc s.catalog.views_made = ap (λ (k : Catalog). k.views_made) is in absurd (omega (arith, grown, made))
  left_told made (Switches n f keeps is) =
      subst (Each (OverTables d)) (sym (ap (λ (k : Catalog). k.views) is)) (changed_each (OverTables d) n f (λ v k none. same_point d v (f v) (keeps.def v) (keeps.point v) (k (still_over v (f v) (keeps.def v) none))) s.catalog.views all_told)
  left_told made (Installs b ps begun takes is) = subst (Each (OverTables d)) (sym (ap (λ (k : Catalog). k.views) is)) (installed_told b ps begun takes)
  left_told made (Drops n free is) = subst (Each (OverTables d)) (sym (ap (λ (k : Catalog). k.views) is)) (each_filter (OverTables d) (λ w. not (w.def.view == n)) s.catalog.views all_told)
  left_told made (Declares a new is) = subst (Each (OverTables d)) (sym (ap (λ (k : Catalog). k.views) is)) all_told
  left_told made (Withdraws name is) = subst (Each (OverTables d)) (sym (ap (λ (k : Catalog). k.views) is)) all_told

  views_told : Shows s x d → Move s x d → Each (OverTables d) d.views
  views_told (Leaves made) move = left_told made move
  views_told (Makes v w command star is) move =
      subst (λ (k : Catalog). Each (OverTables d) k.views) (sym is)
      (each_append (OverTables d) s.catalog.views (w ∷ []) all_told (new_told v w (subst IsRead command known.read) star, tt))

-- ---- the images of begins

abbrev ImagesTold : State → Type 0
ImagesTold s = (n : ℕ) (b : Begun) → (session_of s n).begun ≡ Some b → Each (OverTables b.image) b.image.views

own_image : (s : State) (x : Event) (y : Session) → Texts s → Turn s x y → (b : Begun) → y.begun ≡ Some b → Each (OverTables b.image) b.image.views
own_image s x y texts (Keeps reading begun) b found = texts.begun (entry_bearer x.entry) b (sym begun ∙ found)
own_image s x y texts (Closes is) b found = texts.begun (entry_bearer x.entry) b (sym (ap (λ (z : Session). z.begun) is) ∙ found)
own_image s x y texts (Opens command is) b found = texts.begun (entry_bearer x.entry) b (sym (ap (λ (z : Session). z.begun) is) ∙ found)
own_image s x y texts (Begins r begins is) b found =
    let same : begun_over s.catalog r.name ≡ b = same_Some (begun_over s.catalog r.name) b (sym (ap (λ (z : Session). z.begun) is) ∙ found) in
    subst (λ (k : Begun). Each (OverTables k.image) k.image.views) same texts.now
own_image s x y texts (Ends is) b found = absurd (none-some b (sym (ap (λ (z : Session). z.begun) is) ∙ found))

images_told : (s : State) (x : Event) → Texts s → ImagesTold (state_after s x)
images_told s x texts n b found = by (is_of n x) refl
  where
    by : (mine : Bool) → is_of n x ≡ mine → Each (OverTables b.image) b.image.views
    by true is =
        own_image s x (own (state_after s x) x) texts (moves s x).session b
        (subst (λ k. (session_of (state_after s x) k).begun ≡ Some b) (sym (eqb-true (entry_bearer x.entry) n is)) found)
    by false is = texts.begun n b (sym (ap (λ (y : Session). y.begun) ((moves s x).others n is)) ∙ found)

-- ---- traces

image_ordered : (front : List Event) (n : ℕ) (b : Begun) → (session_of (state_of front) n).begun ≡ Some b → Pairs IsBefore b.image.views
image_ordered front n b found =
    let h : HasBegun front n b = image_laws.begun front n b found in
    subst (λ (c : Catalog). Pairs IsBefore c.views) (sym (ap (λ (b : Begun). b.image) h.kept)) (trace_ordered h.front).ascending

known_of : (front : List Event) (x : Event) → IsRead x.command → Known (state_of front) x (state_after (state_of front) x).catalog
known_of front x read =
    record {
      precedes = subst (λ (s : State). Precedes (catalog_of front) s.catalog) (state_push front x) (trace_precedes front (x ∷ []));
      pointed = trace_pointed front;
      ordered = (trace_ordered front).ascending;
      images = λ b found. (image_laws.begun_before front (entry_bearer x.entry) b found, image_ordered front (entry_bearer x.entry) b found);
      read = read;
    }

texts_after : (front : List Event) (x : Event) → IsRead x.command → Texts (state_of front) → Texts (state_after (state_of front) x)
texts_after front x read texts =
    let s : State = state_of front in
    record { now = views_told s x (state_after s x).catalog (known_of front x read) texts (seen s x).views (moves s x).catalog; begun = images_told s x texts }

abbrev EachRead : List Event → Type 0
EachRead trace = Each (λ (x : Event). IsRead x.command) trace

trace_texts : (trace : List Event) → EachRead trace → Texts (state_of trace)
trace_texts = by_events (λ trace. EachRead trace → Texts (state_of trace)) (λ read. record { now = tt; begun = λ n b found. absurd (none-some b found) }) step
  where
    step : (front : List Event) (x : Event) → (EachRead front → Texts (state_of front)) → EachRead (front ++ x ∷ []) → Texts (state_of (front ++ x ∷ []))
    step front x h read =
        subst Texts (sym (state_push front x))
        (texts_after front x (each_right (λ (x : Event). IsRead x.command) front (x ∷ []) read).0 (h (each_left (λ (x : Event). IsRead x.command) front (x ∷ []) read)))

each_of : {A : Type 0} (P : A → Type 0) (xs : List A) → All P xs → Each P xs
each_of P [] h = tt
each_of P (x ∷ xs) h = (All-head P x xs h, each_of P xs (All-tail P x xs h))

pub each_text : (trace : List Event) → AreRead trace → Each (OverTables (catalog_of trace)) (catalog_of trace).views
each_text trace read = (trace_texts trace (each_of (λ (x : Event). IsRead x.command) trace read)).now

-- ---- in the words of the law

-- the law of text match that later tables don't change a star form
abbrev pub LaterTables : Type 0
LaterTables = (defs more : List TableDef) (a : RawQuery) (q : StarQuery) → resolve defs a ≡ Ok q → resolve (defs ++ more) a ≡ Ok q

pub resolved_now : LaterTables → (c : Catalog) (v : View) → (k : IsOfText c v) → resolve (defs_now c) k.query ≡ Ok v.def.query
resolved_now later c v k =
    sym (resolve-still (defs_now c) k.query)
    ∙ ap (λ defs. resolve defs k.query) k.since
    ∙ later (map still k.tables) k.later k.query v.def.query (resolve-still k.tables k.query ∙ k.resolved)

abbrev IsNow : Catalog → View → Type 0
IsNow c v = v.def.beneath ≡ None → IsOfTextNow c v

pub view_texts : LaterTables → ViewTexts
view_texts later =
    record {
      views = λ trace read. all_from (OverTables (catalog_of trace)) (catalog_of trace).views (each_text trace read);
      now = λ trace read.
          all_from (IsNow (catalog_of trace)) (catalog_of trace).views
          (each_weaker (OverTables (catalog_of trace)) (IsNow (catalog_of trace))
          (λ v k none. record { query = (k none).query; reads = (k none).reads; resolved = resolved_now later (catalog_of trace) v (k none) }) (catalog_of trace).views (each_text trace read));
    }
