-- Tables only come, and the names of all objects differ.
use Rattle.std.proofs.Common.{◌≡◌, ◌≢◌, ◌∙◌, sym, ap, refl, subst, arith, ℕ, zero, suc, ◌+◌, ◌≤◌, Bool, true, false, cond, not, List, [], ◌∷◌, ◌++◌, length, map, Option, None, Some, nat_le, ◌==◌, true≢false}
use Rattle.std.proofs.lemmas.Bool.{le-leb, or_parts}
use Rattle.std.specs.List.{filter, find}
use Rattle.std.specs.Prelude.{Err, Ok, Result}
use Rattle.std.proofs.lemmas.List.{append-nil, append_assoc, map-append}
use Rattle.std.proofs.lemmas.Slice.Eq.{bytes_eq-Decides}
use Rattle.wh_base.specs.Lists.{first_of, first_some, has_text, option_case, same_text}
use Rattle.wh_base.specs.Tables.{Base, Table, TableChange, defs_of, table_after, table_at, with_table}
use Rattle.wh_base.specs.declared.replies.Refusal.{Refusal}
use Rattle.wh_base.specs.declared.statements.Event.{Event}
use Rattle.wh_base.specs.declared.statements.Statement.{Statement}
use Rattle.wh_base.specs.declared.tables.TableDef.{TableDef}
use Rattle.def_dimensions.specs.Dimensions.{Dimension, new_dimension}
use Rattle.wh_base.specs.declared.tables.Change.{Change}
use Rattle.def_effect.specs.Block.{made_changes, Asks, Progress, changed_row_refusal, effect, final_refusal, make_changes, run_asked, run_statement, run_statements, statement_asks, stop_at}
use Rattle.def_effect.specs.Define.{defined}
use Rattle.def_effect.specs.Partitions.{Altering}
use Rattle.def_history.specs.Catalog.{Catalog, Log, View, base_now, defs_now, names_taken}
use Rattle.def_history.specs.History.{kept_versions}
use Rattle.def_journal.specs.Committing.{after_block, do_dues}
use Rattle.def_journal.specs.Journal.{state_after, state_of}
use Rattle.def_journal.specs.Refreshing.{change_view, refreshed_to}
use Rattle.def_journal.specs.State.{State, next_scn, with_base}
use Rattle.def_journal.specs.Statements.{altered, with_view}
use Rattle.law_trace.proofs.Due.{KeepsDue, dues_keep, installs_keep, suspended}
use Rattle.law_trace.proofs.Growing.{SamePast, dues_past, installed_past, past_bounded, reached}
use Rattle.law_trace.proofs.Listed.{Each, Pairs, each_append, each_every, each_left, each_right, each_weaker, find_alike, pairs_across, pairs_append, pairs_from, pairs_left, pairs_right}
use Rattle.law_trace.proofs.Moves.{Adds, Alters, Commits, Creates, Declares, Drops, Forgets, Installs, Logs, Move, IsSameTable, Purges, Stays, Switches, Withdraws, installed}
use Rattle.law_trace.proofs.Outcomes.{EachOk, bind_ok, ok_holds}
use Rattle.law_trace.proofs.Stepping.{moves}
use Rattle.law_trace.proofs.Traces.{by_events, state_push}
use Rattle.law_trace.proofs.Viewing.{changed_name, made_name}
use Rattle.law_trace.specs.Laws.{TableLaws}
use Rattle.law_trace.specs.Reached.{IsSameView, catalog_of, still, stills}

-- ---- the base state of now

-- the latest base state is that of now
pub base_latest : (d : Catalog) (base : Base) (past : List (ℕ × Base)) → d.past ≡ (d.scn, base) ∷ past → base_now d ≡ base
base_latest d base past is =
    ap (λ past. option_case (find (λ p. nat_le p.0 d.scn) past) [] (λ p. p.1)) is
    ∙ ap (λ b. option_case (cond b (Some (d.scn, base)) (find (λ p. nat_le p.0 d.scn) past)) [] (λ p. p.1)) (le-leb d.scn d.scn (omega arith))

-- without a new one it is the same at a later SCN
pub base_later : (c d : Catalog) → d.past ≡ c.past → c.scn ≤ d.scn → Each (λ p. p.0 ≤ c.scn) c.past → base_now d ≡ base_now c
base_later c d same later bounded =
    ap (λ past. option_case (find (λ p. nat_le p.0 d.scn) past) [] (λ p. p.1)) same
    ∙ ap (λ o. option_case o [] (λ p. p.1))
    (find_alike (λ p. nat_le p.0 d.scn) (λ p. nat_le p.0 c.scn) c.past
    (each_weaker (λ p. p.0 ≤ c.scn) (λ p. (nat_le p.0 d.scn ≡ true) × (nat_le p.0 c.scn ≡ true)) (λ p low. (le-leb p.0 d.scn (omega arith), le-leb p.0 c.scn low)) c.past bounded))

-- ---- changes of rows and partitions leave the definitions

pub with_table_defs : (base : Base) (n : ℕ) (t : Table) → t.def ≡ (table_at base n).def → defs_of (with_table base n t) ≡ defs_of base
with_table_defs [] n t same = refl
with_table_defs (u ∷ us) zero t same = ap (λ d. d ∷ defs_of us) same
with_table_defs (u ∷ us) (suc n) t same = ap (λ ds. u.def ∷ ds) (with_table_defs us n t same)

-- ALTER TABLE leaves them but for the row movement
pub with_table_still : (base : Base) (n : ℕ) (t : Table) → IsSameTable (table_at base n).def t.def → map still (defs_of (with_table base n t)) ≡ map still (defs_of base)
with_table_still [] n t same = refl
with_table_still (u ∷ us) zero t same = ap (λ d. still d ∷ map still (defs_of us)) same
with_table_still (u ∷ us) (suc n) t same = ap (λ ds. still u.def ∷ ds) (with_table_still us n t same)

abbrev HasDefs : List TableDef → Progress → Type 0
HasDefs defs p = defs_of p.base ≡ defs

pub stop_keeps : (Q : Progress → Type 0) (at scanned : ℕ) (o : Option Refusal) (done : Progress) → Q done → EachOk Q (stop_at at scanned o done)
stop_keeps Q at scanned None done h = h
stop_keeps Q at scanned (Some code) done h = tt

make_keeps : (defs : List TableDef) (kept at : ℕ) (p : Progress) (a : Asks) → HasDefs defs p → EachOk (HasDefs defs) (make_changes kept at p a)
make_keeps defs kept at p a h =
    let news : List Change = made_changes (table_at p.base a.table) (table_at p.base a.table).given a.changes in
    let base : Base = with_table p.base a.table (table_after (table_at p.base a.table) news) in
    let changes : List TableChange = p.changes ++ map (λ c. record { table = a.table; change = c }) news in
    stop_keeps (HasDefs defs) at (p.scanned + a.scanned)
    (first_some (first_of (changed_row_refusal (table_at p.base a.table)) a.changes ∷ final_refusal base a.table kept changes ∷ []))
    (record { base = base; changes = changes; scanned = p.scanned + a.scanned; rows = p.rows + length a.changes })
    (with_table_defs p.base a.table (table_after (table_at p.base a.table) (made_changes (table_at p.base a.table) (table_at p.base a.table).given a.changes)) refl ∙ h)

asked_keeps : (defs : List TableDef) (kept at : ℕ) (p : Progress) (r : Result Asks Refusal) → HasDefs defs p → EachOk (HasDefs defs) (run_asked kept at p r)
asked_keeps defs kept at p (Ok a) h = make_keeps defs kept at p a h
asked_keeps defs kept at p (Err code) h = tt

statements_keep : (defs : List TableDef) (kept at : ℕ) (p : Progress) (ss : List Statement) → HasDefs defs p → EachOk (HasDefs defs) (run_statements kept at p ss)
statements_keep defs kept at p [] h = h
statements_keep defs kept at p (s ∷ ss) h =
    bind_ok (HasDefs defs) (run_statement kept at p s) (λ q. run_statements kept (suc at) q ss)
    (λ q same. statements_keep defs kept (suc at) q ss (ok_holds (HasDefs defs) (run_statement kept at p s) q (asked_keeps defs kept at p (statement_asks p.base s) h) same))

effect_keeps : (base : Base) (kept : ℕ) (ss : List Statement) (p : Progress) → effect base kept ss ≡ Ok p → defs_of p.base ≡ defs_of base
effect_keeps base kept ss p same =
    ok_holds (HasDefs (defs_of base)) (effect base kept ss) p (statements_keep (defs_of base) kept 1 (record { base = base; changes = []; scanned = 0; rows = 0 }) ss refl) same

-- ---- what each event does to the definitions

abbrev pub IsBounded : Catalog → Type 0
IsBounded c = Each (λ p. p.0 ≤ c.scn) c.past

defs_same : (c d : Catalog) → base_now d ≡ base_now c → defs_now d ≡ defs_now c
defs_same c d same = ap defs_of same

commit_defs : (c : Catalog) (p : Progress) (ss : List Statement) → effect (base_now c) (kept_versions c) ss ≡ Ok p
    → defs_now (do_dues (after_block c p) p.changes).catalog ≡ defs_now c
commit_defs c p ss same =
    let d : Catalog = (do_dues (after_block c p) p.changes).catalog in
    let past : SamePast (after_block c p) d = dues_past c p in
    ap defs_of (base_latest d p.base c.past (past.past ∙ ap (λ n. (n, p.base) ∷ c.past) (sym past.scn))) ∙ effect_keeps (base_now c) (kept_versions c) ss p same

alter_defs : (c : Catalog) (n : ℕ) (a : Altering) → IsSameTable (table_at (base_now c) n).def a.table.def → stills (altered c n a) ≡ stills c
alter_defs c n a same =
    ap (λ (b : Base). map still (defs_of b)) (base_latest (altered c n a) (with_table (base_now c) n a.table) c.past refl) ∙ with_table_still (base_now c) n a.table same

create_defs : (c : Catalog) (t : Table) → defs_now (with_base c (base_now c ++ t ∷ [])) ≡ defs_now c ++ t.def ∷ []
create_defs c t = ap defs_of (base_latest (with_base c (base_now c ++ t ∷ [])) (base_now c ++ t ∷ []) c.past refl) ∙ map-append (λ (t : Table). t.def) (base_now c) (t ∷ [])

logs_defs : (c : Catalog) (logs : List Log) → IsBounded c → defs_now (record (next_scn c) { logs = logs }) ≡ defs_now c
logs_defs c logs bounded = ap defs_of (base_later c (record (next_scn c) { logs = logs }) refl (omega arith) bounded)

-- installs leave them
pub installed_base : (c : Catalog) (ps : List (ℕ × ℕ)) → base_now (installed ps c) ≡ base_now c
installed_base c ps =
    let same : SamePast c (installed ps c) = installed_past c ps in
    λ i. option_case (find (λ p. nat_le p.0 (same.scn i)) (same.past i)) [] (λ p. p.1)

pub installed_defs : (c : Catalog) (ps : List (ℕ × ℕ)) → defs_now (installed ps c) ≡ defs_now c
installed_defs c ps = ap defs_of (installed_base c ps)

-- ---- tables only come

record Longer (c d : Catalog) : Type 0 where
  later : List TableDef
  is : stills d ≡ stills c ++ later

longer_same : (c d : Catalog) → stills d ≡ stills c → Longer c d
longer_same c d same = record { later = []; is = same ∙ sym (append-nil (stills c)) }

longer_on : (c d e : Catalog) → Longer c d → Longer d e → Longer c e
longer_on c d e h k = record { later = h.later ++ k.later; is = k.is ∙ ap (λ defs. defs ++ k.later) h.is ∙ append_assoc (stills c) h.later k.later }

move_longer : (s : State) (x : Event) (d : Catalog) → IsBounded s.catalog → Move s x d → Longer s.catalog d
move_longer s x d bounded (Stays is) = subst (Longer s.catalog) (sym is) (longer_same s.catalog s.catalog refl)
move_longer s x d bounded (Commits p ss same block is) = subst (Longer s.catalog) (sym is) (longer_same s.catalog _ (ap (map still) (commit_defs s.catalog p ss same)))
move_longer s x d bounded (Creates t new fits is) =
    subst (Longer s.catalog) (sym is) (record { later = still (defined (defs_now s.catalog) t).def ∷ []; is = ap (map still) (create_defs s.catalog (defined (defs_now s.catalog) t)) ∙ map-append still (defs_now s.catalog) ((defined (defs_now s.catalog) t).def ∷ []) })
move_longer s x d bounded (Alters n a same change form cut is) = subst (Longer s.catalog) (sym is) (longer_same s.catalog _ (alter_defs s.catalog n a same))
move_longer s x d bounded (Logs logs made is) = subst (Longer s.catalog) (sym is) (longer_same s.catalog _ (ap (map still) (logs_defs s.catalog logs bounded)))
move_longer s x d bounded (Purges logs purge is) = subst (Longer s.catalog) (sym is) (longer_same s.catalog _ refl)
move_longer s x d bounded (Forgets oldest more undo is) = subst (Longer s.catalog) (sym is) (longer_same s.catalog _ refl)
move_longer s x d bounded (Adds v w new star is) = subst (Longer s.catalog) (sym is) (longer_same s.catalog _ refl)
move_longer s x d bounded (Switches n f keeps is) = subst (Longer s.catalog) (sym is) (longer_same s.catalog _ refl)
move_longer s x d bounded (Installs b ps begun takes is) = subst (Longer s.catalog) (sym is) (longer_same s.catalog _ (ap (map still) (installed_defs s.catalog ps)))
move_longer s x d bounded (Drops n free is) = subst (Longer s.catalog) (sym is) (longer_same s.catalog _ refl)
move_longer s x d bounded (Declares a new is) = subst (Longer s.catalog) (sym is) (longer_same s.catalog _ refl)
move_longer s x d bounded (Withdraws name is) = subst (Longer s.catalog) (sym is) (longer_same s.catalog _ refl)

-- the past of a reached catalog is bounded
pub bounded_of : (trace : List Event) → IsBounded (catalog_of trace)
bounded_of trace = past_bounded (catalog_of trace) (reached trace)

push_longer : (trace : List Event) (e : Event) → Longer (catalog_of trace) (catalog_of (trace ++ e ∷ []))
push_longer trace e =
    subst (λ (s : State). Longer (catalog_of trace) s.catalog) (sym (state_push trace e))
    (move_longer (state_of trace) e (state_after (state_of trace) e).catalog (bounded_of trace) (moves (state_of trace) e).catalog)

trace_longer : (trace more : List Event) → Longer (catalog_of trace) (catalog_of (trace ++ more))
trace_longer trace more = by_events (λ more. Longer (catalog_of trace) (catalog_of (trace ++ more))) none step more
  where
    none : Longer (catalog_of trace) (catalog_of (trace ++ []))
    none = subst (λ t. Longer (catalog_of trace) (catalog_of t)) (sym (append-nil trace)) (longer_same (catalog_of trace) (catalog_of trace) refl)

    step : (front : List Event) (e : Event) → Longer (catalog_of trace) (catalog_of (trace ++ front)) → Longer (catalog_of trace) (catalog_of (trace ++ (front ++ e ∷ [])))
    step front e h =
        subst (λ t. Longer (catalog_of trace) (catalog_of t)) (append_assoc trace front (e ∷ []))
        (longer_on (catalog_of trace) (catalog_of (trace ++ front)) (catalog_of ((trace ++ front) ++ e ∷ [])) h (push_longer (trace ++ front) e))

-- ---- the names differ

abbrev Name : Type 0
Name = List ℕ

abbrev Differ : Name → Name → Type 0
Differ a b = a ≢ b

abbrev view_names : Catalog → List Name
view_names c = map (λ v. v.def.name) c.views

abbrev dimension_names : Catalog → List Name
dimension_names c = map (λ d. d.name) c.dimensions

abbrev table_names : Catalog → List Name
table_names c = map (λ d. d.name) (defs_now c)

differ_turned : (a b : Name) → Differ a b → Differ b a
differ_turned a b h same = h (sym same)

-- a name that isn't taken differs from each that is
not_taken : (name : Name) (names : List Name) → has_text names name ≡ false → Each (λ a. Differ a name) names
not_taken name [] e = tt
not_taken name (a ∷ names) e =
    (λ same. true≢false (sym ((bytes_eq-Decides name a).1 (sym same)) ∙ (or_parts (same_text name a) (has_text names name) e).0), not_taken name names (or_parts (same_text name a) (has_text names name) e).1)

-- a name more, wherever it stands
inserted : (front back : List Name) (name : Name) → Pairs Differ (front ++ back) → has_text (front ++ back) name ≡ false → Pairs Differ (front ++ name ∷ back)
inserted front back name h new =
    let apart : Each (λ a. Differ a name) (front ++ back) = not_taken name (front ++ back) new in
    let behind : Each (Differ name) back = each_weaker (λ a. Differ a name) (Differ name) (λ a. differ_turned a name) back (each_right (λ a. Differ a name) front back apart) in
    pairs_append Differ front (name ∷ back) (pairs_left Differ front back h) (behind, pairs_right Differ front back h)
    (across front (each_left (λ a. Differ a name) front back apart) (pairs_across Differ front back h))
  where
    across : (front : List Name) → Each (λ a. Differ a name) front → Each (λ a. Each (Differ a) back) front → Each (λ a. Each (Differ a) (name ∷ back)) front
    across [] k l = tt
    across (a ∷ front) k l = ((k.0, l.0), across front k.1 l.1)

-- names of items that were filtered
each_thinned : {A : Type 0} (P : Name → Type 0) (f : A → Name) (p : A → Bool) (xs : List A) → Each P (map f xs) → Each P (map f (filter p xs))
each_thinned P f p [] h = tt
each_thinned P f p (x ∷ xs) h = by (p x) (each_thinned P f p xs h.1)
  where
    by : (b : Bool) → Each P (map f (filter p xs)) → Each P (map f (cond b (x ∷ filter p xs) (filter p xs)))
    by true k = (h.0, k)
    by false k = k

pairs_thinned : {A : Type 0} (f : A → Name) (p : A → Bool) (xs : List A) → Pairs Differ (map f xs) → Pairs Differ (map f (filter p xs))
pairs_thinned f p [] h = tt
pairs_thinned f p (x ∷ xs) h = by (p x) (pairs_thinned f p xs h.1)
  where
    by : (b : Bool) → Pairs Differ (map f (filter p xs)) → Pairs Differ (map f (cond b (x ∷ filter p xs) (filter p xs)))
    by true k = (each_thinned (Differ (f x)) f p xs h.0, k)
    by false k = k

-- three lists of names, of which one has fewer
each_across : (P : Name → Name → Type 0) (xs ys zs : List Name) → ((Q : Name → Type 0) → Each Q ys → Each Q zs) → Each (λ a. Each (P a) ys) xs → Each (λ a. Each (P a) zs) xs
each_across P [] ys zs k h = tt
each_across P (x ∷ xs) ys zs k h = (k (P x) h.0, each_across P xs ys zs k h.1)

fewer_behind : (xs ys zs : List Name) → ((Q : Name → Type 0) → Each Q ys → Each Q zs) → Pairs Differ zs → Pairs Differ (xs ++ ys) → Pairs Differ (xs ++ zs)
fewer_behind xs ys zs k pairs h = pairs_append Differ xs zs (pairs_left Differ xs ys h) pairs (each_across Differ xs ys zs k (pairs_across Differ xs ys h))

fewer_before : (xs ys zs : List Name) → Pairs Differ ys → ((Q : Name → Type 0) → Each Q xs → Each Q ys) → Pairs Differ (xs ++ zs) → Pairs Differ (ys ++ zs)
fewer_before xs ys zs pairs k h = pairs_append Differ ys zs pairs (pairs_right Differ xs zs h) (k (λ a. Each (Differ a) zs) (pairs_across Differ xs zs h))

abbrev AreNamed : Catalog → Type 0
AreNamed c = Pairs Differ (names_taken c)

-- the same names of all kinds
record SameNames (c d : Catalog) : Type 0 where
  views : view_names d ≡ view_names c
  dimensions : d.dimensions ≡ c.dimensions

-- the names don't tell the row movement
still_names : (ds : List TableDef) → map (λ (d : TableDef). d.name) ds ≡ map (λ (d : TableDef). d.name) (map still ds)
still_names [] = refl
still_names (d ∷ ds) = ap (λ ns. d.name ∷ ns) (still_names ds)

named_same : (c d : Catalog) → stills d ≡ stills c → SameNames c d → AreNamed c → AreNamed d
named_same c d defs same h =
    let names : names_taken d ≡ names_taken c =
    ap (λ ns. ns ++ (view_names d ++ dimension_names d)) (still_names (defs_now d) ∙ ap (map (λ (d : TableDef). d.name)) defs ∙ sym (still_names (defs_now c)))
    ∙ ap (λ vs. table_names c ++ (vs ++ dimension_names d)) same.views
    ∙ ap (λ ds. table_names c ++ (view_names c ++ map (λ (d : Dimension). d.name) ds)) same.dimensions in
    subst (Pairs Differ) (sym names) h

names_changed : (n : ℕ) (f : View → View) → ((v : View) → IsSameView v.def (f v).def) → (vs : List View)
    → map (λ v. v.def.name) (map (λ v. cond (v.def.view == n) (f v) v) vs) ≡ map (λ v. v.def.name) vs
names_changed n f keeps [] = refl
names_changed n f keeps (v ∷ vs) =
    ap (λ name. name ∷ map (λ v. v.def.name) (map (λ v. cond (v.def.view == n) (f v) v) vs)) (changed_name n f keeps v)
    ∙ ap (λ names. v.def.name ∷ names) (names_changed n f keeps vs)

changed_names : (c : Catalog) (n : ℕ) (f : View → View) → ((v : View) → IsSameView v.def (f v).def) → SameNames c (change_view n f c)
changed_names c n f keeps = record { views = names_changed n f keeps c.views; dimensions = refl }

names_on : (c d e : Catalog) → SameNames c d → SameNames d e → SameNames c e
names_on c d e h k = record { views = k.views ∙ h.views; dimensions = k.dimensions ∙ h.dimensions }

due_names : (c : Catalog) → KeepsDue (SameNames c)
due_names c =
    record {
      suspends = λ d n h. names_on c d (change_view n suspended d) h (changed_names d n suspended (λ v. refl));
      refreshes = λ d n h. names_on c d (change_view n (refreshed_to d.scn) d) h (changed_names d n (refreshed_to d.scn) (λ v. refl));
    }

installed_names : (c : Catalog) (ps : List (ℕ × ℕ)) → SameNames c (installed ps c)
installed_names c ps =
    installs_keep (SameNames c) (λ p. Unit {0}) (λ d p q h. names_on c d (change_view p.0 (refreshed_to p.1) d) h (changed_names d p.0 (refreshed_to p.1) (λ v. refl))) c ps
    (each_every (λ p. Unit {0}) (λ p. tt) ps) (record { views = refl; dimensions = refl })

commit_names : (c : Catalog) (p : Progress) → SameNames c (do_dues (after_block c p) p.changes).catalog
commit_names c p = dues_keep (SameNames c) (due_names c) (after_block c p) p.changes (record { views = refl; dimensions = refl })

all_same : (c d : Catalog) → view_names d ≡ view_names c → d.dimensions ≡ c.dimensions → SameNames c d
all_same c d views dimensions = record { views = views; dimensions = dimensions }

create_named : (c : Catalog) (t : Table) → has_text (names_taken c) t.def.name ≡ false → AreNamed c → AreNamed (with_base c (base_now c ++ t ∷ []))
create_named c t new h =
    let rest : List Name = view_names c ++ dimension_names c in
    let names : names_taken (with_base c (base_now c ++ t ∷ [])) ≡ table_names c ++ t.def.name ∷ rest =
    ap (λ ds. map (λ (d : TableDef). d.name) ds ++ rest) (create_defs c t)
    ∙ ap (λ ns. ns ++ rest) (map-append (λ (d : TableDef). d.name) (defs_now c) (t.def ∷ []))
    ∙ append_assoc (table_names c) (t.def.name ∷ []) rest in
    subst (Pairs Differ) (sym names) (inserted (table_names c) rest t.def.name h new)

add_named : (c : Catalog) (v : View) → has_text (names_taken c) v.def.name ≡ false → AreNamed c → AreNamed (with_view c v)
add_named c v new h =
    let front : List Name = table_names c ++ view_names c in
    let whole : names_taken c ≡ front ++ dimension_names c = sym (append_assoc (table_names c) (view_names c) (dimension_names c)) in
    let names : names_taken (with_view c v) ≡ front ++ v.def.name ∷ dimension_names c =
    ap (λ ns. table_names c ++ (ns ++ dimension_names c)) (map-append (λ (v : View). v.def.name) c.views (v ∷ []))
    ∙ ap (λ ns. table_names c ++ ns) (append_assoc (view_names c) (v.def.name ∷ []) (dimension_names c))
    ∙ sym (append_assoc (table_names c) (view_names c) (v.def.name ∷ dimension_names c)) in
    subst (Pairs Differ) (sym names)
    (inserted front (dimension_names c) v.def.name (subst (Pairs Differ) whole h) (subst (λ ns. has_text ns v.def.name ≡ false) whole new))

declare_named : (c : Catalog) (d : Dimension) → has_text (names_taken c) d.name ≡ false → AreNamed c → AreNamed (record c { dimensions = c.dimensions ++ d ∷ [] })
declare_named c d new h =
    let all : List Name = names_taken c in
    let whole : all ≡ all ++ [] = sym (append-nil all) in
    let names : names_taken (record c { dimensions = c.dimensions ++ d ∷ [] }) ≡ all ++ d.name ∷ [] =
    ap (λ ns. table_names c ++ (view_names c ++ ns)) (map-append (λ (d : Dimension). d.name) c.dimensions (d ∷ []))
    ∙ ap (λ ns. table_names c ++ ns) (sym (append_assoc (view_names c) (dimension_names c) (d.name ∷ [])))
    ∙ sym (append_assoc (table_names c) (view_names c ++ dimension_names c) (d.name ∷ [])) in
    subst (Pairs Differ) (sym names) (inserted all [] d.name (subst (Pairs Differ) whole h) (subst (λ ns. has_text ns d.name ≡ false) whole new))

drop_named : (c : Catalog) (p : View → Bool) → AreNamed c → AreNamed (record c { views = filter p c.views })
drop_named c p h =
    let kept : List Name = map (λ (v : View). v.def.name) (filter p c.views) in
    let rest : Pairs Differ (view_names c ++ dimension_names c) = pairs_right Differ (table_names c) (view_names c ++ dimension_names c) h in
    let fewer : Pairs Differ (kept ++ dimension_names c) =
    fewer_before (view_names c) kept (dimension_names c)
    (pairs_thinned (λ (v : View). v.def.name) p c.views (pairs_left Differ (view_names c) (dimension_names c) rest))
    (λ Q. each_thinned Q (λ (v : View). v.def.name) p c.views) rest in
    fewer_behind (table_names c) (view_names c ++ dimension_names c) (kept ++ dimension_names c)
    (λ Q k. each_append Q kept (dimension_names c) (each_thinned Q (λ (v : View). v.def.name) p c.views (each_left Q (view_names c) (dimension_names c) k)) (each_right Q (view_names c) (dimension_names c) k))
    fewer h

withdraw_named : (c : Catalog) (p : Dimension → Bool) → AreNamed c → AreNamed (record c { dimensions = filter p c.dimensions })
withdraw_named c p h =
    let kept : List Name = map (λ (d : Dimension). d.name) (filter p c.dimensions) in
    let rest : Pairs Differ (view_names c ++ dimension_names c) = pairs_right Differ (table_names c) (view_names c ++ dimension_names c) h in
    let thin : (Q : Name → Type 0) → Each Q (dimension_names c) → Each Q kept = λ Q. each_thinned Q (λ (d : Dimension). d.name) p c.dimensions in
    let fewer : Pairs Differ (view_names c ++ kept) =
    fewer_behind (view_names c) (dimension_names c) kept thin (pairs_thinned (λ (d : Dimension). d.name) p c.dimensions (pairs_right Differ (view_names c) (dimension_names c) rest)) rest in
    fewer_behind (table_names c) (view_names c ++ dimension_names c) (view_names c ++ kept)
    (λ Q k. each_append Q (view_names c) kept (each_left Q (view_names c) (dimension_names c) k) (thin Q (each_right Q (view_names c) (dimension_names c) k)))
    fewer h

move_named : (s : State) (x : Event) (d : Catalog) → IsBounded s.catalog → Move s x d → AreNamed s.catalog → AreNamed d
move_named s x d bounded (Stays is) h = subst AreNamed (sym is) h
move_named s x d bounded (Commits p ss same block is) h = subst AreNamed (sym is) (named_same s.catalog (do_dues (after_block s.catalog p) p.changes).catalog (ap (map still) (commit_defs s.catalog p ss same)) (commit_names s.catalog p) h)
move_named s x d bounded (Creates t new fits is) h = subst AreNamed (sym is) (create_named s.catalog (defined (defs_now s.catalog) t) new h)
move_named s x d bounded (Alters n a same change form cut is) h = subst AreNamed (sym is) (named_same s.catalog (altered s.catalog n a) (alter_defs s.catalog n a same) (all_same s.catalog (altered s.catalog n a) refl refl) h)
move_named s x d bounded (Logs logs made is) h = subst AreNamed (sym is) (named_same s.catalog (record (next_scn s.catalog) { logs = logs }) (ap (map still) (logs_defs s.catalog logs bounded)) (all_same s.catalog (record (next_scn s.catalog) { logs = logs }) refl refl) h)
move_named s x d bounded (Purges logs purge is) h = subst AreNamed (sym is) h
move_named s x d bounded (Forgets oldest more undo is) h = subst AreNamed (sym is) h
move_named s x d bounded (Adds v w new star is) h = subst AreNamed (sym is) (add_named s.catalog w (ap (has_text (names_taken s.catalog)) (made_name s.catalog v w star) ∙ new) h)
move_named s x d bounded (Switches n f keeps is) h = subst AreNamed (sym is) (named_same s.catalog (change_view n f s.catalog) refl (changed_names s.catalog n f keeps.def) h)
move_named s x d bounded (Installs b ps begun takes is) h = subst AreNamed (sym is) (named_same s.catalog (installed ps s.catalog) (ap (map still) (installed_defs s.catalog ps)) (installed_names s.catalog ps) h)
move_named s x d bounded (Drops n free is) h = subst AreNamed (sym is) (drop_named s.catalog (λ w. not (w.def.view == n)) h)
move_named s x d bounded (Declares a new is) h = subst AreNamed (sym is) (declare_named s.catalog (new_dimension (defs_now s.catalog) a) new h)
move_named s x d bounded (Withdraws name is) h = subst AreNamed (sym is) (withdraw_named s.catalog (λ e. not (same_text e.name name)) h)

pub trace_named : (trace : List Event) → Pairs Differ (names_taken (catalog_of trace))
trace_named = by_events (λ trace. AreNamed (catalog_of trace)) tt step
  where
    step : (front : List Event) (e : Event) → AreNamed (catalog_of front) → AreNamed (catalog_of (front ++ e ∷ []))
    step front e h =
        subst (λ (s : State). AreNamed s.catalog) (sym (state_push front e))
        (move_named (state_of front) e (state_after (state_of front) e).catalog (bounded_of front) (moves (state_of front) e).catalog h)

pub table_laws : TableLaws
table_laws =
    record {
      grown = λ trace more. let h = trace_longer trace more in (h.later, h.is);
      named = λ trace. pairs_from Differ (names_taken (catalog_of trace)) (trace_named trace);
    }
