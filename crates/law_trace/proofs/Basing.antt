-- What the steps make of the base state: each law of it is proved statement by statement.
use Rattle.std.proofs.Common.{Bool, not, true, nat_le, ◌||◌, ◌⊎◌, inl, inr, ◌≡◌, ◌∙◌, sym, ap, refl, subst, arith, ℕ, zero, suc, ◌+◌, List, [], ◌∷◌, ◌++◌, length, map, Option, None, Some}
use Rattle.std.proofs.lemmas.Bool.{not-false}
use Rattle.std.specs.Prelude.{codes, Err, Ok, Result, option_map}
use Rattle.wh_base.specs.Lists.{first_of, first_some, or_refuse, same_text, unless, where_true, ◌>>=◌}
use Rattle.wh_base.specs.Values.{literal_value}
use Rattle.wh_base.specs.declared.values.Value.{Value}
use Rattle.wh_base.specs.declared.replies.Counted.TheVariants.{Partitions}
use Rattle.wh_base.specs.Tables.{Base, Table, TableChange, column_name, defs_of, table_after, table_at, with_table}
use Rattle.wh_base.specs.declared.replies.Refusal.{Refusal}
use Rattle.wh_base.specs.declared.replies.Refusal.TheVariants.{LastPartition, NameTaken, NoSuchObject, PartitionBound, TooManyObjects, ValueDoesNotFit}
use Rattle.wh_base.specs.declared.statements.Event.{Event}
use Rattle.wh_base.specs.declared.statements.NewRange.{NewRange}
use Rattle.wh_base.specs.declared.statements.NewTable.{NewTable}
use Rattle.wh_base.specs.declared.statements.PartChange.{PartChange}
use Rattle.wh_base.specs.declared.statements.PartChange.TheVariants.{Add, DropPart, Merge, Movement, Split, Truncate}
use Rattle.wh_base.specs.declared.statements.MergeParts.{MergeParts}
use Rattle.wh_base.specs.declared.statements.SplitPart.{SplitPart}
use Rattle.wh_base.specs.declared.tables.Change.{Change}
use Rattle.wh_base.specs.declared.statements.Statement.{Statement}
use Rattle.wh_base.specs.declared.tables.Part.{Part}
use Rattle.wh_base.specs.declared.tables.TableDef.{TableDef}
use Rattle.wh_base.specs.declared.values.Interval.{Interval}
use Rattle.def_effect.specs.Block.{Asks, Progress, changed_row_refusal, effect, final_refusal, made_changes, make_changes, run_asked, run_statement, run_statements, statement_asks, stop_at}
use Rattle.def_effect.specs.Define.{bound_fits, define_refusal, defined, max_parts}
use Rattle.def_effect.specs.Partitions.{Altering, add_refusal, added, adjoins, alter_part, dropped, is_inside, is_name_of_other, key_kind, versions_refusal, is_only_part, lower_half, merge_refusal, merged, merged_part, part_named, referred_refusal, regrouped, split_refusal, split_up, truncated, upper_half, with_movement}
use Rattle.def_history.specs.Catalog.{Catalog, base_now, defs_now, names_taken}
use Rattle.def_history.specs.History.{kept_versions}
use Rattle.def_journal.specs.Committing.{after_block, do_dues}
use Rattle.def_journal.specs.Journal.{state_after, state_of}
use Rattle.def_journal.specs.State.{State, next_scn, with_base}
use Rattle.def_journal.specs.Statements.{altered}
use Rattle.law_trace.proofs.Growing.{SamePast, dues_past}
use Rattle.law_trace.proofs.Listed.{Each, each_append}
use Rattle.law_trace.proofs.Moves.{Adds, Alters, Commits, Creates, Declares, Drops, Forgets, Installs, Logs, Move, Purges, Stays, Switches, Withdraws}
pub use Rattle.law_trace.proofs.Outcomes.{none_where}
use Rattle.law_trace.proofs.Outcomes.{EachOk, bind_ok, ok_holds, refused_not, unless_ok}
use Rattle.law_trace.proofs.Stepping.{moves}
use Rattle.law_trace.proofs.Tabling.{IsBounded, base_later, base_latest, bounded_of, installed_base}
use Rattle.law_trace.proofs.Traces.{by_events, state_push}
use Rattle.law_trace.specs.Reached.{catalog_of}
pub use Rattle.law_lists.proofs.Options.{none_each}

-- ---- what wasn't refused

pub none_first : {A : Type 0} (o : Option A) (rest : List (Option A)) → first_some (o ∷ rest) ≡ None → o ≡ None
none_first None rest e = refl
none_first (Some x) rest e = absurd (cc)

pub none_rest : {A : Type 0} (o : Option A) (rest : List (Option A)) → first_some (o ∷ rest) ≡ None → first_some rest ≡ None
none_rest None rest e = e
none_rest (Some x) rest e = absurd (cc)

pub none_map : {A B : Type 0} (f : A → B) (o : Option A) → option_map f o ≡ None → o ≡ None
none_map f None e = refl
none_map f (Some x) e = absurd (cc)

-- ---- a statement that goes through

-- the changes that are made of those that a statement asks for
abbrev pub made_of : Base → Asks → List Change
made_of base a = made_changes (table_at base a.table) (table_at base a.table).given a.changes

-- the base state after them
abbrev pub made : Base → Asks → Base
made base a = with_table base a.table (table_after (table_at base a.table) (made_of base a))

abbrev pub asked_changes : Base → Asks → List TableChange
asked_changes base a = map (λ c. record { table = a.table; change = c }) (made_of base a)

-- the progress after it
abbrev pub after : Progress → Asks → Progress
after p a = record { base = made p.base a; changes = p.changes ++ asked_changes p.base a; scanned = p.scanned + a.scanned; rows = p.rows + length a.changes }

-- a statement goes through
pub record Passes (kept : ℕ) (p : Progress) (s : Statement) (a : Asks) : Type 0 where
  pub asks : statement_asks p.base s ≡ Ok a
  pub rows : first_of (changed_row_refusal (table_at p.base a.table)) a.changes ≡ None
  pub whole : final_refusal (made p.base a) a.table kept (p.changes ++ asked_changes p.base a) ≡ None

-- what each statement that goes through keeps
abbrev pub KeepsProgress : ℕ → (Progress → Type 0) → Type 0
KeepsProgress kept Q = (p : Progress) (s : Statement) (a : Asks) → Passes kept p s a → Q p → Q (after p a)

stop_passes : (Q : Progress → Type 0) (at scanned : ℕ) (o : Option Refusal) (done : Progress) → (o ≡ None → Q done) → EachOk Q (stop_at at scanned o done)
stop_passes Q at scanned None done h = h refl
stop_passes Q at scanned (Some code) done h = tt

make_passes : (kept : ℕ) (Q : Progress → Type 0) → KeepsProgress kept Q → (at : ℕ) (p : Progress) (s : Statement) (a : Asks) → statement_asks p.base s ≡ Ok a → Q p
    → EachOk Q (make_changes kept at p a)
make_passes kept Q k at p s a asks h =
    let rows : Option Refusal = first_of (changed_row_refusal (table_at p.base a.table)) a.changes in
    let whole : Option Refusal = final_refusal (made p.base a) a.table kept (p.changes ++ asked_changes p.base a) in
    stop_passes Q at (p.scanned + a.scanned) (first_some (rows ∷ whole ∷ [])) (after p a)
    (λ none. k p s a (record { asks = asks; rows = none_first rows (whole ∷ []) none; whole = none_first whole [] (none_rest rows (whole ∷ []) none) }) h)

asked_passes : (kept : ℕ) (Q : Progress → Type 0) → KeepsProgress kept Q → (at : ℕ) (p : Progress) (s : Statement) (r : Result Asks Refusal) → statement_asks p.base s ≡ r → Q p
    → EachOk Q (run_asked kept at p r)
asked_passes kept Q k at p s (Ok a) asks h = make_passes kept Q k at p s a asks h
asked_passes kept Q k at p s (Err code) asks h = tt

all_pass : (kept : ℕ) (Q : Progress → Type 0) → KeepsProgress kept Q → (at : ℕ) (p : Progress) (ss : List Statement) → Q p → EachOk Q (run_statements kept at p ss)
all_pass kept Q k at p [] h = h
all_pass kept Q k at p (s ∷ ss) h =
    bind_ok Q (run_statement kept at p s) (λ q. run_statements kept (suc at) q ss)
    (λ q same. all_pass kept Q k (suc at) q ss (ok_holds Q (run_statement kept at p s) q (asked_passes kept Q k at p s (statement_asks p.base s) refl h) same))

-- what holds before a block holds after it
pub block_keeps : (kept : ℕ) (Q : Progress → Type 0) → KeepsProgress kept Q → (base : Base) (ss : List Statement) (p : Progress) → effect base kept ss ≡ Ok p
    → Q (record { base = base; changes = []; scanned = 0; rows = 0 }) → Q p
block_keeps kept Q k base ss p same h =
    ok_holds Q (effect base kept ss) p (all_pass kept Q k 1 (record { base = base; changes = []; scanned = 0; rows = 0 }) ss h) same

-- ---- a form of ALTER TABLE that goes through

-- partitions that end, and those that stand in their place: a SPLIT or a MERGE that isn't refused
pub data Regroups (kept : ℕ) (t : Table) (before after : List (Part × Interval)) : Type 0 where
  Splits : (s : SplitPart) (p : Part × Interval) (key : ℕ) → t.def.part_key ≡ Some key → part_named t s.name ≡ Some p → split_refusal kept t s p key ≡ None
      → before ≡ p ∷ [] → after ≡ lower_half t s p ∷ upper_half t s p ∷ [] → Regroups kept t before after
  Merges : (s : MergeParts) (p q : Part × Interval) → part_named t s.lower ≡ Some p → part_named t s.upper ≡ Some q → merge_refusal kept t s p q ≡ None
      → before ≡ p ∷ q ∷ [] → after ≡ merged_part t s p q ∷ [] → Regroups kept t before after

fifth : {A : Type 0} (a b c d e f : Option A) → first_some (a ∷ b ∷ c ∷ d ∷ e ∷ f ∷ []) ≡ None → (e ≡ None) × (f ≡ None)
fifth a b c d e f none =
    let rest : first_some (e ∷ f ∷ []) ≡ None = none_rest d (e ∷ f ∷ []) (none_rest c (d ∷ e ∷ f ∷ []) (none_rest b (c ∷ d ∷ e ∷ f ∷ []) (none_rest a (b ∷ c ∷ d ∷ e ∷ f ∷ []) none))) in
    (none_first e (f ∷ []) rest, none_first f [] (none_rest e (f ∷ []) rest))

pub split_met : (kept : ℕ) (t : Table) (s : SplitPart) (p : Part × Interval) (key : ℕ) → split_refusal kept t s p key ≡ None
    → (is_inside p.1 (literal_value s.at) ≡ true) × (versions_refusal kept t (p.0.number ∷ []) ≡ None)
split_met kept t s p key none =
    let ended : List ℕ = p.0.number ∷ [] in
    let at : Value = literal_value s.at in
    let both : (where_true (not (is_inside p.1 at)) (PartitionBound t.def.name s.name) ≡ None) × (versions_refusal kept t ended ≡ None) =
    fifth (where_true (is_name_of_other t ended s.lower) (NameTaken s.lower)) (where_true (is_name_of_other t ended s.upper || same_text s.lower s.upper) (NameTaken s.upper)) (where_true (nat_le max_parts (length t.parts)) (TooManyObjects Partitions))
    (where_true (not (bound_fits (key_kind t.def key) (Some at))) (ValueDoesNotFit t.def.name (column_name t.def key))) (where_true (not (is_inside p.1 at)) (PartitionBound t.def.name s.name)) (versions_refusal kept t ended) none in
    (not-false (is_inside p.1 at) (none_where (not (is_inside p.1 at)) (PartitionBound t.def.name s.name) both.0), both.1)

pub merge_met : (kept : ℕ) (t : Table) (s : MergeParts) (p q : Part × Interval) → merge_refusal kept t s p q ≡ None
    → (adjoins t.parts p.0.number q.0.number ≡ true) × (versions_refusal kept t (p.0.number ∷ q.0.number ∷ []) ≡ None)
merge_met kept t s p q none =
    let ended : List ℕ = p.0.number ∷ q.0.number ∷ [] in
    let named : Option Refusal = where_true (is_name_of_other t ended s.name) (NameTaken s.name) in
    let apart : Option Refusal = where_true (not (adjoins t.parts p.0.number q.0.number)) (PartitionBound t.def.name s.lower) in
    let versions : Option Refusal = versions_refusal kept t ended in
    let rest : first_some (apart ∷ versions ∷ []) ≡ None = none_rest named (apart ∷ versions ∷ []) none in (
      not-false (adjoins t.parts p.0.number q.0.number) (none_where (not (adjoins t.parts p.0.number q.0.number)) (PartitionBound t.def.name s.lower) (none_first apart (versions ∷ []) rest)),
      none_first versions [] (none_rest apart (versions ∷ []) rest),
    )

pub record KeepsCut (P : Table → Type 0) : Type 0 where
  pub adds : (t : Table) (r : NewRange) (key : ℕ) → add_refusal t r key ≡ None → P t → P (added t r).table
  pub truncates : (base : Base) (n : ℕ) (t : Table) (p : Part × Interval) → referred_refusal base n ≡ None → P t → P (truncated t p).table
  pub drops : (base : Base) (n : ℕ) (t : Table) (p : Part × Interval) → referred_refusal base n ≡ None → P t → P (dropped t p).table
  pub regroups : (kept : ℕ) (t : Table) (before after : List (Part × Interval)) → Regroups kept t before after → P t → P (regrouped t before after).table
  pub moves : (t : Table) (on : Bool) → P t → P (with_movement t on).table

-- the table after it
abbrev pub After : (Table → Type 0) → Altering → Type 0
After P a = P a.table

-- what a form of ALTER TABLE makes of a table, by the form
pub data CutBy (kept : ℕ) (base : Base) (n : ℕ) (t : Table) (a : Altering) : Type 0 where
  ByAdd : (r : NewRange) (key : ℕ) → add_refusal t r key ≡ None → a ≡ added t r → CutBy kept base n t a
  ByDrop : (name : List ℕ) (p : Part × Interval) → part_named t name ≡ Some p → referred_refusal base n ≡ None → a ≡ dropped t p → CutBy kept base n t a
  ByTruncate : (name : List ℕ) (p : Part × Interval) → part_named t name ≡ Some p → referred_refusal base n ≡ None → a ≡ truncated t p → CutBy kept base n t a
  ByRegroup : (before after : List (Part × Interval)) → Regroups kept t before after → a ≡ regrouped t before after → CutBy kept base n t a
  ByMovement : (on : Bool) → a ≡ with_movement t on → CutBy kept base n t a

cuts_by : (kept : ℕ) (base : Base) (n : ℕ) (t : Table) (change : PartChange) → EachOk (CutBy kept base n t) (alter_part kept base n t change)
cuts_by kept base n t (Add r) =
    bind_ok (CutBy kept base n t) (or_refuse t.def.part_key (PartitionBound t.def.name r.name)) (λ key. unless (add_refusal t r key) (added t r))
    (λ key e. unless_ok (CutBy kept base n t) (add_refusal t r key) (added t r) (λ none. ByAdd r key none refl))
cuts_by kept base n t (DropPart name) =
    let last : Option Refusal = where_true (is_only_part t) (LastPartition t.def.name) in
    bind_ok (CutBy kept base n t) (or_refuse (part_named t name) (NoSuchObject name)) (λ p. unless (first_some (referred_refusal base n ∷ last ∷ [])) (dropped t p))
    (λ p e. unless_ok (CutBy kept base n t) (first_some (referred_refusal base n ∷ last ∷ [])) (dropped t p)
    (λ none. ByDrop name p (refused_not (part_named t name) (NoSuchObject name) p e) (none_first (referred_refusal base n) (last ∷ []) none) refl))
cuts_by kept base n t (Truncate name) =
    bind_ok (CutBy kept base n t) (or_refuse (part_named t name) (NoSuchObject name)) (λ p. unless (referred_refusal base n) (truncated t p))
    (λ p e. unless_ok (CutBy kept base n t) (referred_refusal base n) (truncated t p) (λ none. ByTruncate name p (refused_not (part_named t name) (NoSuchObject name) p e) none refl))
cuts_by kept base n t (Split s) =
    bind_ok (CutBy kept base n t) (or_refuse t.def.part_key (NoSuchObject s.name)) (λ key. or_refuse (part_named t s.name) (NoSuchObject s.name) >>= (λ p. unless (split_refusal kept t s p key) (split_up t s p)))
    (λ key e. bind_ok (CutBy kept base n t) (or_refuse (part_named t s.name) (NoSuchObject s.name)) (λ p. unless (split_refusal kept t s p key) (split_up t s p))
    (λ p f. unless_ok (CutBy kept base n t) (split_refusal kept t s p key) (split_up t s p)
    (λ none. ByRegroup (p ∷ []) (lower_half t s p ∷ upper_half t s p ∷ [])
    (Splits s p key (refused_not t.def.part_key (NoSuchObject s.name) key e) (refused_not (part_named t s.name) (NoSuchObject s.name) p f) none refl refl) refl)))
cuts_by kept base n t (Merge s) =
    bind_ok (CutBy kept base n t) (or_refuse (part_named t s.lower) (NoSuchObject s.lower)) (λ p. or_refuse (part_named t s.upper) (NoSuchObject s.upper) >>= (λ q. unless (merge_refusal kept t s p q) (merged t s p q)))
    (λ p e. bind_ok (CutBy kept base n t) (or_refuse (part_named t s.upper) (NoSuchObject s.upper)) (λ q. unless (merge_refusal kept t s p q) (merged t s p q))
    (λ q f. unless_ok (CutBy kept base n t) (merge_refusal kept t s p q) (merged t s p q)
    (λ none. ByRegroup (p ∷ q ∷ []) (merged_part t s p q ∷ [])
    (Merges s p q (refused_not (part_named t s.lower) (NoSuchObject s.lower) p e) (refused_not (part_named t s.upper) (NoSuchObject s.upper) q f) none refl refl) refl)))
cuts_by kept base n t (Movement on) =
    bind_ok (CutBy kept base n t) (or_refuse t.def.part_key (PartitionBound t.def.name (codes "-"))) (λ key. Ok (with_movement t on)) (λ key e. ByMovement on refl)

pub cut_by : (kept : ℕ) (base : Base) (n : ℕ) (t : Table) (change : PartChange) (a : Altering) → alter_part kept base n t change ≡ Ok a → CutBy kept base n t a
cut_by kept base n t change a same = ok_holds (CutBy kept base n t) (alter_part kept base n t change) a (cuts_by kept base n t change) same

-- each form but for row movement touches a partition
pub cut_touches : (kept : ℕ) (base : Base) (n : ℕ) (t : Table) (a : Altering) → CutBy kept base n t a → (a.touched ≡ [] → ⊥) ⊎ ((on : Bool) × (a ≡ with_movement t on))
cut_touches kept base n t a (ByAdd r key none is) = inl (some (ap (λ (a : Altering). a.touched) is))
  where
    some : {A : Type 0} {xs : List A} {x : A} {rest : List A} → xs ≡ x ∷ rest → xs ≡ [] → ⊥
    some e f = cc
cut_touches kept base n t a (ByDrop name p named none is) = inl (some (ap (λ (a : Altering). a.touched) is))
  where
    some : {A : Type 0} {xs : List A} {x : A} {rest : List A} → xs ≡ x ∷ rest → xs ≡ [] → ⊥
    some e f = cc
cut_touches kept base n t a (ByTruncate name p named none is) = inl (some (ap (λ (a : Altering). a.touched) is))
  where
    some : {A : Type 0} {xs : List A} {x : A} {rest : List A} → xs ≡ x ∷ rest → xs ≡ [] → ⊥
    some e f = cc
cut_touches kept base n t a (ByRegroup before after (Splits s p key at named none b c) is) = inl (some (ap (λ (a : Altering). a.touched) is ∙ ap (λ ps. ps ++ after) b))
  where
    some : {A : Type 0} {xs : List A} {x : A} {rest : List A} → xs ≡ x ∷ rest → xs ≡ [] → ⊥
    some e f = cc
cut_touches kept base n t a (ByRegroup before after (Merges s p q one other none b c) is) = inl (some (ap (λ (a : Altering). a.touched) is ∙ ap (λ ps. ps ++ after) b))
  where
    some : {A : Type 0} {xs : List A} {x : A} {rest : List A} → xs ≡ x ∷ rest → xs ≡ [] → ⊥
    some e f = cc
cut_touches kept base n t a (ByMovement on is) = inr (on, is)

cut_passes : (P : Table → Type 0) → KeepsCut P → (kept : ℕ) (base : Base) (n : ℕ) (t : Table) (a : Altering) → CutBy kept base n t a → P t → After P a
cut_passes P k kept base n t a (ByAdd r key none is) h = subst (After P) (sym is) (k.adds t r key none h)
cut_passes P k kept base n t a (ByDrop name p named none is) h = subst (After P) (sym is) (k.drops base n t p none h)
cut_passes P k kept base n t a (ByTruncate name p named none is) h = subst (After P) (sym is) (k.truncates base n t p none h)
cut_passes P k kept base n t a (ByRegroup before after groups is) h = subst (After P) (sym is) (k.regroups kept t before after groups h)
cut_passes P k kept base n t a (ByMovement on is) h = subst (After P) (sym is) (k.moves t on h)

pub cut_keeps : (P : Table → Type 0) → KeepsCut P → (kept : ℕ) (base : Base) (n : ℕ) (t : Table) (change : PartChange) (a : Altering) → alter_part kept base n t change ≡ Ok a → P t → P a.table
cut_keeps P k kept base n t change a same h = cut_passes P k kept base n t a (cut_by kept base n t change a same) h

-- ---- what each step keeps of the base state

pub record KeepsBase (P : Base → Type 0) : Type 0 where
  pub none : P []
  pub asked : (kept : ℕ) (p : Progress) (s : Statement) (a : Asks) → Passes kept p s a → P p.base → P (made p.base a)
  pub created : (taken : List (List ℕ)) (base : Base) (t : NewTable) → define_refusal taken (defs_of base) t ≡ None → P base → P (base ++ defined (defs_of base) t ∷ [])
  pub cut : (kept : ℕ) (base : Base) (n : ℕ) (change : PartChange) (a : Altering) → alter_part kept base n (table_at base n) change ≡ Ok a → P base → P (with_table base n a.table)

pub base_committed : (c : Catalog) (p : Progress) → base_now (do_dues (after_block c p) p.changes).catalog ≡ p.base
base_committed c p =
    let d : Catalog = (do_dues (after_block c p) p.changes).catalog in
    let past : SamePast (after_block c p) d = dues_past c p in
    base_latest d p.base c.past (past.past ∙ ap (λ n. (n, p.base) ∷ c.past) (sym past.scn))

pub base_created : (c : Catalog) (base : Base) → base_now (with_base c base) ≡ base
base_created c base = base_latest (with_base c base) base c.past refl

pub base_altered : (c : Catalog) (n : ℕ) (a : Altering) → base_now (altered c n a) ≡ with_table (base_now c) n a.table
base_altered c n a = base_latest (altered c n a) (with_table (base_now c) n a.table) c.past refl

abbrev Now : (Base → Type 0) → Catalog → Type 0
Now P c = P (base_now c)

move_keeps : (P : Base → Type 0) → KeepsBase P → (s : State) (x : Event) (d : Catalog) → IsBounded s.catalog → Move s x d → Now P s.catalog → Now P d
move_keeps P k s x d bounded (Stays is) h = subst (Now P) (sym is) h
move_keeps P k s x d bounded (Commits p ss same block is) h =
    let kept : ℕ = kept_versions s.catalog in
    subst (Now P) (sym is)
    (subst P (sym (base_committed s.catalog p)) (block_keeps kept (λ q. P q.base) (λ q s a passes h. k.asked kept q s a passes h) (base_now s.catalog) ss p same h))
move_keeps P k s x d bounded (Creates t new fits is) h =
    subst (Now P) (sym is)
    (subst P (sym (base_created s.catalog (base_now s.catalog ++ defined (defs_now s.catalog) t ∷ []))) (k.created (names_taken s.catalog) (base_now s.catalog) t fits h))
move_keeps P k s x d bounded (Alters n a same change form cut is) h =
    subst (Now P) (sym is) (subst P (sym (base_altered s.catalog n a)) (k.cut (kept_versions s.catalog) (base_now s.catalog) n change a cut h))
move_keeps P k s x d bounded (Logs logs made is) h =
    subst (Now P) (sym is) (subst P (sym (base_later s.catalog (record (next_scn s.catalog) { logs = logs }) refl (omega arith) bounded)) h)
move_keeps P k s x d bounded (Purges logs purge is) h = subst (Now P) (sym is) h
move_keeps P k s x d bounded (Forgets oldest more undo is) h = subst (Now P) (sym is) h
move_keeps P k s x d bounded (Adds v w new star is) h = subst (Now P) (sym is) h
move_keeps P k s x d bounded (Switches n f keeps is) h = subst (Now P) (sym is) h
move_keeps P k s x d bounded (Installs b ps begun takes is) h = subst (Now P) (sym is) (subst P (sym (installed_base s.catalog ps)) h)
move_keeps P k s x d bounded (Drops n free is) h = subst (Now P) (sym is) h
move_keeps P k s x d bounded (Declares a new is) h = subst (Now P) (sym is) h
move_keeps P k s x d bounded (Withdraws name is) h = subst (Now P) (sym is) h

-- what the steps keep holds of the base state of now
pub base_holds : (P : Base → Type 0) → KeepsBase P → (trace : List Event) → P (base_now (catalog_of trace))
base_holds P k = by_events (λ trace. Now P (catalog_of trace)) k.none step
  where
    step : (front : List Event) (e : Event) → Now P (catalog_of front) → Now P (catalog_of (front ++ e ∷ []))
    step front e h =
        subst (λ (s : State). Now P s.catalog) (sym (state_push front e))
        (move_keeps P k (state_of front) e (state_after (state_of front) e).catalog (bounded_of front) (moves (state_of front) e).catalog h)

-- ---- what each step keeps of each table

pub record KeepsTable (P : Table → Type 0) : Type 0 where
  pub asked : (kept : ℕ) (p : Progress) (s : Statement) (a : Asks) → Passes kept p s a
      → table_at (made p.base a) a.table ≡ table_after (table_at p.base a.table) (made_of p.base a) → P (table_at p.base a.table) → P (table_after (table_at p.base a.table) (made_of p.base a))
  pub created : (taken : List (List ℕ)) (defs : List TableDef) (t : NewTable) → define_refusal taken defs t ≡ None → P (defined defs t)
  pub cut : KeepsCut P

pub each_with : (P : Table → Type 0) (base : Base) (n : ℕ) (t : Table) → Each P base → (table_at (with_table base n t) n ≡ t → P (table_at base n) → P t) → Each P (with_table base n t)
each_with P [] n t h k = tt
each_with P (u ∷ us) zero t h k = (k refl h.0, h.1)
each_with P (u ∷ us) (suc n) t h k = (h.0, each_with P us n t h.1 k)

pub keeps_each : (P : Table → Type 0) → KeepsTable P → KeepsBase (Each P)
keeps_each P k =
    record {
      none = tt;
      asked = λ kept p s a passes h.
          each_with P p.base a.table (table_after (table_at p.base a.table) (made_of p.base a)) h (λ same was. k.asked kept p s a passes same was);
      created = λ taken base t fits h. each_append P base (defined (defs_of base) t ∷ []) h (k.created taken (defs_of base) t fits, tt);
      cut = λ kept base n change a same h. each_with P base n a.table h (λ is was. cut_keeps P k.cut kept base n (table_at base n) change a same was);
    }

pub each_table : (P : Table → Type 0) → KeepsTable P → (trace : List Event) → Each P (base_now (catalog_of trace))
each_table P k trace = base_holds (Each P) (keeps_each P k) trace
