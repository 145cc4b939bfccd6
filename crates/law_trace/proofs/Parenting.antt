-- Each enabled foreign key holds.
use Rattle.std.proofs.Common.{◌≡◌, ◌∙◌, sym, ap, refl, subst, ℕ, zero, suc, Bool, true, false, cond, not, List, [], ◌∷◌, ◌++◌, map, None, Some, ◌==◌, ◌&&◌, ◌||◌}
use Rattle.law_lists.proofs.Each.{Each-from_none}
use Rattle.std.proofs.Math.Bool.{or_assoc}
use Rattle.std.specs.List.{filter, find, list_any}
use Rattle.wh_base.specs.Lists.{first_of}
use Rattle.wh_base.specs.Tables.{Base, Row, Table, defs_of, table_after, table_at, value_at, with_table}
use Rattle.wh_base.specs.Values.{same_value}
use Rattle.wh_base.specs.declared.replies.Refusal.TheVariants.{ChildExists}
use Rattle.wh_base.specs.declared.statements.Event.{Event}
use Rattle.wh_base.specs.declared.statements.Statement.{Statement}
use Rattle.wh_base.specs.declared.tables.ForeignDef.{ForeignDef}
use Rattle.wh_base.specs.declared.tables.Part.{Part}
use Rattle.wh_base.specs.declared.values.Interval.{Interval}
use Rattle.wh_base.specs.declared.tables.TableDef.{TableDef}
use Rattle.wh_base.specs.declared.values.Value.{Value}
use Rattle.def_effect.specs.Block.{Asks, Progress, child_refusal, column_values, enabled, is_orphaned, parent_refusal}
use Rattle.def_effect.specs.Define.{defined}
use Rattle.def_effect.specs.Partitions.{Altering, is_row_of, referred_refusal, referring, regrouped}
use Rattle.def_history.specs.Catalog.{base_now}
use Rattle.def_meaning.specs.Meaning.{not_null}
use Rattle.law_trace.proofs.Basing.{ByAdd, ByDrop, ByMovement, ByRegroup, ByTruncate, CutBy, KeepsBase, Passes, asked_changes, base_holds, cut_by, each_with, made, made_of, none_each, none_map, none_where}
use Rattle.law_trace.proofs.Finishing.{Finished, finished}
use Rattle.law_trace.proofs.Keying.{regrouped_values, thin_each}
use Rattle.law_trace.proofs.Listed.{Each, any_false, each_append, each_every, each_two, each_unmap, each_weaker}
use Rattle.law_trace.proofs.Untouched.{differ_of, more_rows, still_rows, with_other}
use Rattle.law_trace.specs.Reached.{catalog_of}
use Rattle.law_trace.specs.Rows.{HasParents}

-- all enabled foreign keys of a table
abbrev pub ParentsThere : Base → Table → Type 0
ParentsThere base t = Each (HasParents base t) (enabled t.def)

-- ---- a foreign key in another base state

-- a value has no parent among these
abbrev has_none : List Value → Value → Bool
has_none parents v = not (list_any (same_value v) parents)

-- the parents are told by the rows
rows_tell : (t u : Table) (c : ℕ) → t.rows ≡ u.rows → column_values t c ≡ column_values u c
rows_tell t u c same = ap (λ rows. filter not_null (map (λ (r : Row). value_at r.values c) rows)) same

parents_same : (base later : Base) (t : Table) (f : ForeignDef) → (table_at base f.table).rows ≡ (table_at later f.table).rows → HasParents base t f → HasParents later t f
parents_same base later t f same h =
    ap (λ parents. list_any (has_none parents) (column_values t f.column)) (sym (rows_tell (table_at base f.table) (table_at later f.table) f.to same)) ∙ h

-- with fewer rows there are fewer values without a parent
parents_fewer : (base : Base) (t : Table) (p : Row → Bool) (f : ForeignDef) → HasParents base t f → HasParents base (record t { rows = filter p t.rows }) f
parents_fewer base t p f h =
    let missing : (Value → Bool) = has_none (column_values (table_at base f.table) f.to) in
    any_false missing (column_values (record t { rows = filter p t.rows }) f.column)
    (thin_each (λ v. missing v ≡ false) not_null (λ r. value_at r.values f.column) p t.rows (Each-from_none missing (column_values t f.column) h))

-- ---- a statement

abbrev IsOf : ℕ → ForeignDef → Bool
IsOf n f = f.table == n

-- every foreign key to another table than n holds
abbrev OthersThere : Base → ℕ → Table → Type 0
OthersThere base n t = Each (λ f. IsOf n f ≡ false → HasParents base t f) (enabled t.def)

others_there : (base : Base) (n : ℕ) (t u : Table) → ParentsThere base u → OthersThere (with_table base n t) n u
others_there base n t u h =
    each_weaker (HasParents base u) (λ f. IsOf n f ≡ false → HasParents (with_table base n t) u f)
    (λ f has other. parents_same base (with_table base n t) u f (ap (λ (t : Table). t.rows) (with_other base n f.table t (λ same. differ_of f.table n other (sym same)))) has) (enabled u.def) h

-- and those to n itself
abbrev NoneLost : Base → ℕ → Table → Type 0
NoneLost base n t = Each (λ f. (IsOf n f && is_orphaned base t f) ≡ false) (enabled t.def)

by_table : (a b : Bool) → (a ≡ false → b ≡ false) → (a && b) ≡ false → b ≡ false
by_table true b k e = e
by_table false b k e = k refl

all_there : (base : Base) (n : ℕ) (t : Table) → OthersThere base n t → NoneLost base n t → ParentsThere base t
all_there base n t h k =
    each_weaker (λ f. (IsOf n f ≡ false → HasParents base t f) × ((IsOf n f && is_orphaned base t f) ≡ false)) (HasParents base t)
    (λ f both. by_table (IsOf n f) (is_orphaned base t f) both.0 both.1) (enabled t.def)
    (each_two (λ f. IsOf n f ≡ false → HasParents base t f) (λ f. (IsOf n f && is_orphaned base t f) ≡ false) (enabled t.def) h k)

none_lost : (base : Base) (n : ℕ) (t : Table) → child_refusal base n t ≡ None → NoneLost base n t
none_lost base n t none =
    Each-from_none (λ f. IsOf n f && is_orphaned base t f) (enabled t.def)
    (none_where (list_any (λ f. IsOf n f && is_orphaned base t f) (enabled t.def)) (ChildExists (table_at base n).def.name t.def.name) none)

abbrev ParentsPass : Base → Table → Type 0
ParentsPass base t = first_of (parent_refusal base t) (enabled t.def) ≡ None

parents_pass : (base : Base) (n : ℕ) (t : Table) → ParentsPass base t → OthersThere base n t
parents_pass base n t none =
    each_weaker (λ f. parent_refusal base t f ≡ None) (λ f. IsOf n f ≡ false → HasParents base t f)
    (λ f e other. none_where (is_orphaned base t f) _ e) (enabled t.def) (none_each (parent_refusal base t) (enabled t.def) none)

abbrev pub Parented : Base → Type 0
Parented base = Each (ParentsThere base) base

asked_parented : (kept : ℕ) (p : Progress) (s : Statement) (a : Asks) → Passes kept p s a → Parented p.base → Parented (made p.base a)
asked_parented kept p s a passes h =
    let base : Base = made p.base a in
    let n : ℕ = a.table in
    let t : Table = table_after (table_at p.base n) (made_of p.base a) in
    let end : Finished base n kept (p.changes ++ asked_changes p.base a) = finished base n kept (p.changes ++ asked_changes p.base a) passes.whole in
    let old : Each (OthersThere base n) p.base = each_weaker (ParentsThere p.base) (OthersThere base n) (others_there p.base n t) p.base h in
    let now : Each (OthersThere base n) base = each_with (OthersThere base n) p.base n t old (λ same was. parents_pass base n t (subst (ParentsPass base) same end.parents)) in
    let lost : Each (NoneLost base n) base = each_weaker (λ t. child_refusal base n t ≡ None) (NoneLost base n) (none_lost base n) base (none_each (child_refusal base n) base end.children) in
    each_weaker (λ t. OthersThere base n t × NoneLost base n t) (ParentsThere base) (λ t both. all_there base n t both.0 both.1) base (each_two (OthersThere base n) (NoneLost base n) base now lost)

-- ---- a new table

created_parented : (base : Base) (t : Table) → t.rows ≡ [] → ParentsThere (base ++ t ∷ []) t → Parented base → Parented (base ++ t ∷ [])
created_parented base t none fits h =
    each_append (ParentsThere (base ++ t ∷ [])) base (t ∷ [])
    (each_weaker (ParentsThere base) (ParentsThere (base ++ t ∷ []))
    (λ u each. each_weaker (HasParents base u) (HasParents (base ++ t ∷ []) u) (λ f has. parents_same base (base ++ t ∷ []) u f (more_rows base f.table t none) has) (enabled u.def) each) base h)
    (fits, tt)

-- ---- ALTER TABLE

-- the rows stay; or no enabled foreign key refers to the table, and rows may go; or rows get new rowids
data Cut (base : Base) (n : ℕ) (t : Table) (u : Table) : Type 0 where
  Stays : u.rows ≡ t.rows → enabled u.def ≡ enabled t.def → Cut base n t u
  Thins : referred_refusal base n ≡ None → (p : Row → Bool) → u.rows ≡ filter p t.rows → enabled u.def ≡ enabled t.def → Cut base n t u
  Mixes : (before after : List (Part × Interval)) → u ≡ (regrouped t before after).table → Cut base n t u

cuts : (kept : ℕ) (base : Base) (n : ℕ) (t : Table) (a : Altering) → CutBy kept base n t a → Cut base n t a.table
cuts kept base n t a (ByAdd r key none is) = subst (λ (a : Altering). Cut base n t a.table) (sym is) (Stays refl refl)
cuts kept base n t a (ByDrop name p named none is) = subst (λ (a : Altering). Cut base n t a.table) (sym is) (Thins none _ refl refl)
cuts kept base n t a (ByTruncate name p named none is) = subst (λ (a : Altering). Cut base n t a.table) (sym is) (Thins none _ refl refl)
cuts kept base n t a (ByRegroup before after groups is) = Mixes before after (ap (λ (a : Altering). a.table) is)
cuts kept base n t a (ByMovement on is) = subst (λ (a : Altering). Cut base n t a.table) (sym is) (Stays refl refl)

-- what the rows and the definition of a table tell
there_told : (base : Base) (t u : Table) → u.rows ≡ t.rows → enabled u.def ≡ enabled t.def → ParentsThere base t → ParentsThere base u
there_told base t u rows def h =
    subst (Each (HasParents base u)) (sym def)
    (each_weaker (HasParents base t) (HasParents base u)
    (λ f has. ap (λ vs. list_any (has_none (column_values (table_at base f.table) f.to)) vs) (rows_tell u t f.column rows) ∙ has) (enabled t.def) h)

pub find_none : {A : Type 0} (p : A → Bool) (xs : List A) → find p xs ≡ None → Each (λ x. p x ≡ false) xs
find_none p [] e = tt
find_none p (x ∷ xs) e = by (p x) refl e (find_none p xs)
  where
    by : (b : Bool) → p x ≡ b → cond b (Some x) (find p xs) ≡ None → (find p xs ≡ None → Each (λ x. p x ≡ false) xs) → (p x ≡ false) × Each (λ x. p x ≡ false) xs
    by true is e later = absurd (cc)
    by false is e later = (is, later e)

-- no enabled foreign key refers to table n
abbrev Unreferred : ℕ → Table → Type 0
Unreferred n t = Each (λ f. IsOf n f ≡ false) (enabled t.def)

none_refer : (base : Base) (n : ℕ) → referred_refusal base n ≡ None → Each (Unreferred n) base
none_refer base n none =
    let refers : (TableDef → Bool) = λ d. list_any (IsOf n) (enabled d) in
    each_weaker (λ t. refers t.def ≡ false) (Unreferred n) (λ t e. Each-from_none (IsOf n) (enabled t.def) e) base
    (each_unmap (λ d. refers d ≡ false) (λ (t : Table). t.def) base (find_none refers (defs_of base) (none_map _ (referring base n) none)))

unreferred_there : (base : Base) (n : ℕ) (t u : Table) → OthersThere base n u → Unreferred n u → ParentsThere base u
unreferred_there base n t u h k =
    each_weaker (λ f. (IsOf n f ≡ false → HasParents base u f) × (IsOf n f ≡ false)) (HasParents base u) (λ f both. both.0 both.1) (enabled u.def)
    (each_two (λ f. IsOf n f ≡ false → HasParents base u f) (λ f. IsOf n f ≡ false) (enabled u.def) h k)

-- ---- rows with new rowids have the values that they had

or_swap : (a b c : Bool) → (a || (b || c)) ≡ (b || (a || c))
or_swap true true c = refl
or_swap true false c = refl
or_swap false true c = refl
or_swap false false c = refl

any_joined : {A : Type 0} (g : A → Bool) (xs ys : List A) → list_any g (xs ++ ys) ≡ (list_any g xs || list_any g ys)
any_joined g [] ys = refl
any_joined g (x ∷ xs) ys = ap (λ b. g x || b) (any_joined g xs ys) ∙ sym (or_assoc (g x) (list_any g xs) (list_any g ys))

any_split : {A B : Type 0} (g q : B → Bool) (f : A → B) (e : A → Bool) (xs : List A)
    → (list_any g (filter q (map f (filter (λ x. not (e x)) xs))) || list_any g (filter q (map f (filter e xs)))) ≡ list_any g (filter q (map f xs))
any_split g q f e [] = refl
any_split {A} {B} g q f e (x ∷ xs) = by (e x) (q (f x)) refl (any_split g q f e xs)
  where
    stay : List B
    stay = filter q (map f (filter (λ x. not (e x)) xs))

    taken : List B
    taken = filter q (map f (filter e xs))

    by : (b c : Bool) → q (f x) ≡ c → (list_any g stay || list_any g taken) ≡ list_any g (filter q (map f xs))
        → (list_any g (filter q (map f (cond (not b) (x ∷ filter (λ x. not (e x)) xs) (filter (λ x. not (e x)) xs)))) || list_any g (filter q (map f (cond b (x ∷ filter e xs) (filter e xs)))))
        ≡ list_any g (cond c (f x ∷ filter q (map f xs)) (filter q (map f xs)))
    by true true is rest = ap (λ c. list_any g stay || list_any g (cond c (f x ∷ taken) taken)) is ∙ or_swap (list_any g stay) (g (f x)) (list_any g taken) ∙ ap (λ b. g (f x) || b) rest
    by true false is rest = ap (λ c. list_any g stay || list_any g (cond c (f x ∷ taken) taken)) is ∙ rest
    by false true is rest = ap (λ c. list_any g (cond c (f x ∷ stay) stay) || list_any g taken) is ∙ or_assoc (g (f x)) (list_any g stay) (list_any g taken) ∙ ap (λ b. g (f x) || b) rest
    by false false is rest = ap (λ c. list_any g (cond c (f x ∷ stay) stay) || list_any g taken) is ∙ rest

mixed_any : (t : Table) (before after : List (Part × Interval)) (c : ℕ) (g : Value → Bool) → list_any g (column_values (regrouped t before after).table c) ≡ list_any g (column_values t c)
mixed_any t before after c g =
    let moves : Row → Bool = is_row_of (map (λ p. p.0.number) before) t in
    let value : Row → Value = λ r. value_at r.values c in
    ap (list_any g) (regrouped_values t before after c)
    ∙ any_joined g (filter not_null (map value (filter (λ r. not (moves r)) t.rows))) (filter not_null (map value (filter moves t.rows)))
    ∙ any_split g not_null value moves t.rows

-- the parents that any value has are as before
with_any : (base : Base) (n m c : ℕ) (t : Table) (g : Value → Bool) → list_any g (column_values t c) ≡ list_any g (column_values (table_at base n) c)
    → list_any g (column_values (table_at (with_table base n t) m) c) ≡ list_any g (column_values (table_at base m) c)
with_any [] n m c t g same = refl
with_any (u ∷ us) zero zero c t g same = same
with_any (u ∷ us) zero (suc m) c t g same = refl
with_any (u ∷ us) (suc n) zero c t g same = refl
with_any (u ∷ us) (suc n) (suc m) c t g same = with_any us n m c t g same

mixed_parents : (base : Base) (n : ℕ) (before after : List (Part × Interval)) (t : Table) (f : ForeignDef) → HasParents base t f → HasParents (with_table base n (regrouped (table_at base n) before after).table) t f
mixed_parents base n before after t f h =
    let later : Base = with_table base n (regrouped (table_at base n) before after).table in
    let same : (v : Value) → has_none (column_values (table_at later f.table) f.to) v ≡ has_none (column_values (table_at base f.table) f.to) v =
    λ v. ap not (with_any base n f.table f.to (regrouped (table_at base n) before after).table (same_value v) (mixed_any (table_at base n) before after f.to (same_value v))) in
    (λ i. list_any (λ v. same v i) (column_values t f.column)) ∙ h

mixed_parented : (base : Base) (n : ℕ) (before after : List (Part × Interval)) → Parented base → Parented (with_table base n (regrouped (table_at base n) before after).table)
mixed_parented base n before after h =
    let u : Table = (regrouped (table_at base n) before after).table in
    let later : Base = with_table base n u in
    let all : Each (ParentsThere later) base = each_weaker (ParentsThere base) (ParentsThere later) (λ t each. each_weaker (HasParents base t) (HasParents later t) (mixed_parents base n before after t) (enabled t.def) each) base h in
    each_with (ParentsThere later) base n u all
    (λ same was. each_weaker (HasParents later (table_at base n)) (HasParents later u)
    (λ f has. mixed_any (table_at base n) before after f.column (has_none (column_values (table_at later f.table) f.to)) ∙ has) (enabled (table_at base n).def) was)

cut_parented : (base : Base) (n : ℕ) (u : Table) → Cut base n (table_at base n) u → Parented base → Parented (with_table base n u)
cut_parented base n u (Stays rows def) h =
    let later : Base = with_table base n u in
    let all : Each (ParentsThere later) base =
    each_weaker (ParentsThere base) (ParentsThere later)
    (λ t each. each_weaker (HasParents base t) (HasParents later t) (λ f has. parents_same base later t f (still_rows base n f.table u rows) has) (enabled t.def) each) base h in
    each_with (ParentsThere later) base n u all (λ same was. there_told later (table_at base n) u rows def was)
cut_parented base n u (Mixes before after is) h = subst (λ u. Parented (with_table base n u)) (sym is) (mixed_parented base n before after h)
cut_parented base n u (Thins none p rows def) h =
    let later : Base = with_table base n u in
    let t : Table = table_at base n in
    let all : Each (ParentsThere later) base =
    each_weaker (λ t. ParentsThere base t × Unreferred n t) (ParentsThere later) (λ t both. unreferred_there later n u t (others_there base n u t both.0) both.1) base
    (each_two (ParentsThere base) (Unreferred n) base h (none_refer base n none)) in
    each_with (ParentsThere later) base n u all
    (λ same was. there_told later (record t { rows = filter p t.rows }) u rows def
    (each_weaker (HasParents later t) (HasParents later (record t { rows = filter p t.rows })) (parents_fewer later t p) (enabled t.def) was))

keep_parents : KeepsBase Parented
keep_parents =
    record {
      none = tt;
      asked = asked_parented;
      created = λ taken base t fits h.
          created_parented base (defined (defs_of base) t) refl
          (each_every (HasParents (base ++ defined (defs_of base) t ∷ []) (defined (defs_of base) t)) (λ f. refl) (enabled (defined (defs_of base) t).def)) h;
      cut = λ kept base n change a same h.
          cut_parented base n a.table (cuts kept base n (table_at base n) a (cut_by kept base n (table_at base n) change a same)) h;
    }

pub trace_parents : (trace : List Event) → Parented (base_now (catalog_of trace))
trace_parents trace = base_holds Parented keep_parents trace
