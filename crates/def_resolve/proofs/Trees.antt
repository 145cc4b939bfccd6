-- What `resolve` gives is a star: its tables are the root and those that its joins reach, each once, each join leads outwards
-- over a key, and where it is grouped a plain item is one of its group columns.
use Rattle.std.proofs.Common.{◌≡◌, ◌∙◌, sym, ap, subst, refl, ℕ, Bool, true, false, cond, not, List, [], ◌∷◌, ◌++◌, length, map}
use Rattle.std.specs.List.{list_all}
use Rattle.std.specs.Prelude.{None, Ok, Option, Result, Some, is_some, suc, unwrap_or, zero, ◌&&◌, ◌==◌, ◌||◌, ◌+◌}
use Rattle.std.proofs.lemmas.Bool.{and_from, and_parts, eqb-true}
use Rattle.std.proofs.lemmas.List.{append_assoc, append-nil, map-append}
use Rattle.wh_base.specs.Lists.{first_of, first_some, has_number, head, or_refuse, unless, unless_then, where_true, ◌>>=◌}
use Rattle.wh_base.specs.declared.columns.ColRef.{ColRef}
use Rattle.wh_base.specs.declared.queries.ColName.{ColName}
use Rattle.wh_base.specs.declared.queries.Edge.{Edge}
use Rattle.wh_base.specs.declared.queries.Item.{Item}
use Rattle.wh_base.specs.declared.queries.RawQuery.{RawQuery}
use Rattle.wh_base.specs.declared.queries.StarQuery.{StarQuery}
use Rattle.wh_base.specs.declared.replies.Refusal.TheVariants.{NotGrouped, NotStar}
use Rattle.wh_base.specs.declared.tables.TableDef.{TableDef}
use Rattle.def_resolve.specs.Names.{Source, column_named, names_refusal, sources_of, table_refusal}
use Rattle.def_resolve.specs.Star.{IsTreeFrom, Tree, branch_to, directed, grow, is_key_column, is_repeated_number, leads_outwards, leads_to, next_branch, spanning, star_of, tree_from, turned, with_branch}
use Rattle.def_resolve.specs.Resolve.{IsStar, first_table, grouping_holds, is_grouped, item_is_grouped, joins_of, kinds_refusal, order_item, resolve, resolved_item, star_form, star_query}

-- ---- tests

-- ---- what the first of some options satisfies

first_is :
    {A B : Type 0} (P : B → Type 0) (h : A → Option B) → ((x : A) (y : B) → h x ≡ Some y → P y)
    → (xs : List A) (y : B) → first_of h xs ≡ Some y → P y
first_is P h each [] y e = cc
first_is {B = B} P h each (x ∷ xs) y e = by (first_is P h each xs y) (h x) refl e
  where
    by : (first_of h xs ≡ Some y → P y) → (o : Option B) → h x ≡ o → first_some (o ∷ map h xs) ≡ Some y → P y
    by rest None f g = rest g
    by rest (Some z) f g = each x y (f ∙ g)

pub where_is : {A : Type 0} (b : Bool) (x y : A) → where_true b x ≡ Some y → (b ≡ true) × (x ≡ y)
where_is true x y e = (refl, cc)
where_is false x y e = cc

-- ---- a tree as it grows

-- the join leads from the tree to a table outside it, over a key
abbrev pub IsBranch : List TableDef → List ℕ → Edge → Type 0
IsBranch defs tables e = (has_number tables e.from.table && (not (has_number tables e.to.table) && is_key_column defs e.to)) ≡ true

branch_leads : (defs : List TableDef) (tree : Tree) (n : ℕ) (e : Edge) → has_number tree.tables n ≡ false → leads_to defs tree n e ≡ true → IsBranch defs tree.tables e
branch_leads defs tree n e outside h =
    let rest : ((e.to.table == n) && is_key_column defs e.to) ≡ true = (and_parts (has_number tree.tables e.from.table) ((e.to.table == n) && is_key_column defs e.to) h).1 in
    let at : e.to.table ≡ n = eqb-true e.to.table n (and_parts (e.to.table == n) (is_key_column defs e.to) rest).0 in
    and_from (has_number tree.tables e.from.table) (not (has_number tree.tables e.to.table) && is_key_column defs e.to)
    (and_parts (has_number tree.tables e.from.table) ((e.to.table == n) && is_key_column defs e.to) h).0
    (and_from (not (has_number tree.tables e.to.table)) (is_key_column defs e.to)
    (ap not (ap (has_number tree.tables) at ∙ outside))
    (and_parts (e.to.table == n) (is_key_column defs e.to) rest).1)

pub directed_leads : (defs : List TableDef) (tree : Tree) (n : ℕ) (j e : Edge) → directed defs tree n j ≡ Some e → leads_to defs tree n e ≡ true
directed_leads defs tree n j e h = by (leads_to defs tree n j) refl h
  where
    by : (b : Bool) → leads_to defs tree n j ≡ b → cond b (Some j) (where_true (leads_to defs tree n (turned j)) (turned j)) ≡ Some e → leads_to defs tree n e ≡ true
    by true f g = let same : j ≡ e = cc in subst (λ k. leads_to defs tree n k ≡ true) same f
    by false f g =
        let said : (leads_to defs tree n (turned j) ≡ true) × (turned j ≡ e) = where_is (leads_to defs tree n (turned j)) (turned j) e g in
        subst (λ k. leads_to defs tree n k ≡ true) said.1 said.0

pub branch_is : (defs : List TableDef) (joins : List Edge) (tree : Tree) (n : ℕ) (e : Edge) → branch_to defs joins tree n ≡ Some e → IsBranch defs tree.tables e
branch_is defs joins tree n e h = by (has_number tree.tables n) refl h
  where
    by : (b : Bool) → has_number tree.tables n ≡ b → cond b None (first_of (directed defs tree n) joins) ≡ Some e → IsBranch defs tree.tables e
    by true f g = cc
    by false f g =
        first_is (IsBranch defs tree.tables) (directed defs tree n) (λ j k d. branch_leads defs tree n k f (directed_leads defs tree n j k d)) joins e g

outwards-push :
    (defs : List TableDef) (listed : List ℕ) (es : List Edge) (e : Edge)
    → leads_outwards defs listed es ≡ true → IsBranch defs (listed ++ map (λ x. x.to.table) es) e
    → leads_outwards defs listed (es ++ e ∷ []) ≡ true
outwards-push defs listed [] e h k =
    let here : IsBranch defs listed e = subst (λ ts. IsBranch defs ts e) (append-nil listed) k in
    and_from (has_number listed e.from.table && (not (has_number listed e.to.table) && is_key_column defs e.to)) true here refl
outwards-push defs listed (f ∷ fs) e h k =
    let first : Bool = has_number listed f.from.table && (not (has_number listed f.to.table) && is_key_column defs f.to) in
    and_from first (leads_outwards defs (listed ++ f.to.table ∷ []) (fs ++ e ∷ []))
    (and_parts first (leads_outwards defs (listed ++ f.to.table ∷ []) fs) h).0
    (outwards-push defs (listed ++ f.to.table ∷ []) fs e
    (and_parts first (leads_outwards defs (listed ++ f.to.table ∷ []) fs) h).1
    (subst (λ ts. IsBranch defs ts e) (sym (append_assoc listed (f.to.table ∷ []) (map (λ x. x.to.table) fs))) k))

with_branch-is : (defs : List TableDef) (root : ℕ) (tree : Tree) (o : Option Edge) → IsTreeFrom defs root tree.tables tree.edges → ((e : Edge) → o ≡ Some e → IsBranch defs tree.tables e) → IsTreeFrom defs root (with_branch tree o).tables (with_branch tree o).edges
with_branch-is defs root tree None is branch = is
with_branch-is defs root tree (Some e) is branch = (
  ap (λ ts. ts ++ e.to.table ∷ []) is.0 ∙ ap (λ ts. root ∷ ts) (sym (map-append (λ x. x.to.table) tree.edges (e ∷ []))),
  outwards-push defs (root ∷ []) tree.edges e is.1 (subst (λ ts. IsBranch defs ts e) is.0 (branch e refl)),
)

grow-is : (n : ℕ) (defs : List TableDef) (joins : List Edge) (from : List ℕ) (root : ℕ) (tree : Tree) → IsTreeFrom defs root tree.tables tree.edges → IsTreeFrom defs root (grow n defs joins from tree).tables (grow n defs joins from tree).edges
grow-is zero defs joins from root tree is = is
grow-is (suc n) defs joins from root tree is =
    grow-is n defs joins from root (with_branch tree (next_branch defs joins from tree))
    (with_branch-is defs root tree (next_branch defs joins from tree) is
    (λ e h. first_is (IsBranch defs tree.tables) (branch_to defs joins tree) (λ m k b. branch_is defs joins tree m k b) from e h))

pub tree_from-is : (defs : List TableDef) (joins : List Edge) (from : List ℕ) (root : ℕ) → IsTreeFrom defs root (tree_from defs joins from root).tables (tree_from defs joins from root).edges
tree_from-is defs joins from root = grow-is (length from) defs joins from root (record { tables = root ∷ []; edges = [] }) (refl, refl)

-- ---- the tree of a query

-- some root has this tree
abbrev pub IsTree : List TableDef → Tree → Type 0
IsTree defs tree = (root : ℕ) × IsTreeFrom defs root tree.tables tree.edges

spanning-is : (defs : List TableDef) (joins : List Edge) (from : List ℕ) (root : ℕ) (tree : Tree) → spanning defs joins from root ≡ Some tree → IsTree defs tree
spanning-is defs joins from root tree h =
    let grown : Tree = tree_from defs joins from root in
    let said : ((length grown.tables == length from) ≡ true) × (grown ≡ tree) = where_is (length grown.tables == length from) grown tree h in
    (root, subst (λ t. IsTreeFrom defs root t.tables t.edges) said.1 (tree_from-is defs joins from root))

pub star_of-is : (defs : List TableDef) (joins : List Edge) (from : List ℕ) (tree : Tree) → star_of defs joins from ≡ Some tree → IsTree defs tree
star_of-is defs joins from tree h = by (is_repeated_number from || not (length joins + 1 == length from)) h
  where
    by : (b : Bool) → cond b None (first_of (spanning defs joins from) from) ≡ Some tree → IsTree defs tree
    by true g = cc
    by false g = first_is (IsTree defs) (spanning defs joins from) (λ root t e. spanning-is defs joins from root t e) from tree g

-- ---- star forms

or_refuse-is : {A E : Type 0} (o : Option A) (e : E) {B : Type 0} (f : A → Result B E) (y : B) → (or_refuse o e >>= f) ≡ Ok y → (x : A) × ((o ≡ Some x) × (f x ≡ Ok y))
or_refuse-is (Some x) e f y h = (x, (refl, h))
or_refuse-is None e f y h = cc

unless-is : {A E : Type 0} (b : Bool) (e : E) (x y : A) → unless (where_true (not b) e) x ≡ Ok y → (b ≡ true) × (x ≡ y)
unless-is true e x y h = (refl, cc)
unless-is false e x y h = cc

unless_then-is : {A E : Type 0} (o : Option E) (r : Result A E) (y : A) → unless_then o r ≡ Ok y → r ≡ Ok y
unless_then-is None r y h = h
unless_then-is (Some e) r y h = cc

grouped_or : (g a : Bool) → (not g || a) ≡ true → g ≡ true → a ≡ true
grouped_or true a h k = h
grouped_or false a h k = cc

root_is : (defs : List TableDef) (tree : Tree) → IsTree defs tree → IsTreeFrom defs (unwrap_or (head tree.tables) 0) tree.tables tree.edges
root_is defs tree is =
    let first : unwrap_or (head tree.tables) 0 ≡ is.0 = ap (λ ts. unwrap_or (head ts) 0) is.1.0 in
    subst (λ r. IsTreeFrom defs r tree.tables tree.edges) (sym first) is.1

star_form-is : (defs : List TableDef) (raw : RawQuery) (sources : List Source) (q : StarQuery) → star_form defs raw sources ≡ Ok q → IsStar defs q
star_form-is defs raw sources q h =
    let column : (ColName → ColRef) = column_named sources in
    let items : List Item = map (λ i. resolved_item column i.what) raw.items in
    let keys : List ColRef = map column raw.groups in
    let found = or_refuse-is (star_of defs (joins_of column raw) (map (λ s. s.table) sources)) NotStar
    (λ tree. unless (where_true (not (grouping_holds raw column items keys)) NotGrouped) (star_query raw column tree)) q h in
    let tree : Tree = found.0 in
    let said : (grouping_holds raw column items keys ≡ true) × (star_query raw column tree ≡ q) =
    unless-is (grouping_holds raw column items keys) NotGrouped (star_query raw column tree) q found.1.1 in
    let groups : (is_grouped raw items ≡ true) → list_all (item_is_grouped keys) items ≡ true =
    grouped_or (is_grouped raw items) (list_all (item_is_grouped keys) items)
    (and_parts (not (is_grouped raw items) || list_all (item_is_grouped keys) items) (list_all (λ k. is_some (order_item raw column items k.what)) raw.order) said.0).0 in
    subst (IsStar defs) said.1
    ((root_is defs tree (star_of-is defs (joins_of column raw) (map (λ s. s.table) sources) tree found.1.0)), groups)

-- what `resolve` gives is a star
pub resolve-is : (defs : List TableDef) (raw : RawQuery) (q : StarQuery) → resolve defs raw ≡ Ok q → IsStar defs q
resolve-is defs raw q h =
    let sources : List Source = sources_of defs raw in
    star_form-is defs raw sources q
    (unless_then-is (first_some (table_refusal defs raw ∷ names_refusal sources raw ∷ kinds_refusal defs (first_table sources) (column_named sources) raw ∷ []))
    (star_form defs raw sources) q h)
