-- The tree that is found from a root has all tables of FROM, and one is found wherever there is one.
use Rattle.std.proofs.Common.{◌≡◌, ◌∙◌, sym, ap, subst, refl, arith, ℕ, zero, suc, Bool, true, false, cond, not, List, [], ◌∷◌, ◌++◌, length, map}
use Rattle.std.specs.Cmp.{both_ways}
use Rattle.wh_base.proofs.SameItems.{same_column-Decides, same_column_is}
use Rattle.std.proofs.lemmas.Bool.{and_from, and_parts, eq-eqb, eqb-true, or_left, or_right}
use Rattle.std.proofs.lemmas.List.Folds.{list_all-append, list_any-append}
use Rattle.std.specs.List.{list_all, list_any}
use Rattle.std.specs.Prelude.{None, Option, Some, is_some, nat_eq, ◌&&◌, ◌==◌, ◌||◌, ◌+◌, ◌≤◌}
use Rattle.wh_base.specs.Columns.{same_column}
use Rattle.wh_base.specs.Lists.{first_of, first_some, has_number, repeated_after, where_true}
use Rattle.wh_base.specs.declared.queries.Edge.{Edge}
use Rattle.wh_base.specs.declared.tables.TableDef.{TableDef}
use Rattle.def_resolve.proofs.Trees.{directed_leads, tree_from-is, where_is}
use Rattle.def_resolve.specs.Star.{IsSpanning, IsStarOf, IsTreeOver, Tree, branch_to, directed, grow, is_key_column, is_one_of, is_repeated_number, leads_outwards, leads_to, next_branch, same_join, spanning, star_of, tree_from, turned, with_branch}

-- ---- tests

eq_swap : (m n : ℕ) → (m == n) ≡ (n == m)
eq_swap m n = both_ways (m == n) (n == m) (λ h. eq-eqb n m (sym (eqb-true m n h))) (λ h. eq-eqb m n (sym (eqb-true n m h)))

none_some : {A : Type 0} (o : Option A) → o ≡ None → is_some o ≡ true → ⊥
none_some None h k = cc
none_some (Some x) h k = cc

-- what is given of some item is given of the first
first_some-is : {A B : Type 0} (h : A → Option B) (p : A → Bool) → ((x : A) → p x ≡ true → is_some (h x) ≡ true) → (xs : List A) → list_any p xs ≡ true → is_some (first_of h xs) ≡ true
first_some-is h p each [] k = cc
first_some-is {A = A} {B = B} h p each (x ∷ xs) k = by (h x) refl (p x) refl k (first_some-is h p each xs)
  where
    by : (o : Option B) → h x ≡ o → (b : Bool) → p x ≡ b → (b || list_any p xs) ≡ true → (list_any p xs ≡ true → is_some (first_of h xs) ≡ true) → is_some (first_some (o ∷ map h xs)) ≡ true
    by (Some y) e b f j rest = refl
    by None e true f j rest = absurd (none_some (h x) e (each x f))
    by None e false f j rest = rest j

-- ---- tables of FROM that a list doesn't have

has-append : (ts us : List ℕ) (n : ℕ) → has_number (ts ++ us) n ≡ (has_number ts n || has_number us n)
has-append ts us n = list_any-append (λ m. m == n) ts us

abbrev pub outside : List ℕ → List ℕ → ℕ
outside ts [] = 0
outside ts (m ∷ ms) = cond (has_number ts m) (outside ts ms) (suc (outside ts ms))

abbrev pub AreDistinct : List ℕ → Type 0
AreDistinct [] = Unit {0}
AreDistinct (m ∷ ms) = (has_number ms m ≡ false) × AreDistinct ms

outside-nothing : (ms : List ℕ) → outside [] ms ≡ length ms
outside-nothing [] = refl
outside-nothing (m ∷ ms) = ap suc (outside-nothing ms)

outside-none : (ts ms : List ℕ) → outside ts ms ≡ 0 → (n : ℕ) → has_number ms n ≡ true → has_number ts n ≡ true
outside-none ts [] few n h = cc
outside-none ts (m ∷ ms) few n h = by (has_number ts m) refl few (m == n) refl h (outside-none ts ms)
  where
    by : (b : Bool) → has_number ts m ≡ b → cond b (outside ts ms) (suc (outside ts ms)) ≡ 0
        → (c : Bool) → (m == n) ≡ c → (c || has_number ms n) ≡ true
        → (outside ts ms ≡ 0 → (k : ℕ) → has_number ms k ≡ true → has_number ts k ≡ true) → has_number ts n ≡ true
    by true f few true g k rest = ap (has_number ts) (sym (eqb-true m n g)) ∙ f
    by true f few false g k rest = rest few n k
    by false f few c g k rest = absurd (omega (arith, few))

outside-all : (ts ms : List ℕ) → ((n : ℕ) → has_number ms n ≡ true → has_number ts n ≡ true) → outside ts ms ≡ 0
outside-all ts [] all = refl
outside-all ts (m ∷ ms) all =
    by (has_number ts m) (all m (or_left (m == m) (has_number ms m) (eq-eqb m m refl))) (outside-all ts ms (λ n h. all n (or_right (m == n) (has_number ms n) h)))
  where
    by : (b : Bool) → b ≡ true → outside ts ms ≡ 0 → cond b (outside ts ms) (suc (outside ts ms)) ≡ 0
    by true h rest = rest
    by false h rest = cc

-- one table more, of none of these
outside-same : (ts : List ℕ) (n : ℕ) (ms : List ℕ) → has_number ms n ≡ false → outside (ts ++ n ∷ []) ms ≡ outside ts ms
outside-same ts n [] h = refl
outside-same ts n (m ∷ ms) h = by (m == n) refl h (outside-same ts n ms)
  where
    also : (m == n) ≡ false → has_number (ts ++ n ∷ []) m ≡ has_number ts m
    also f = has-append ts (n ∷ []) m ∙ (ap (λ b. has_number ts m || (b || false)) (eq_swap n m ∙ f) ∙ no_more (has_number ts m))
      where
        no_more : (b : Bool) → (b || (false || false)) ≡ b
        no_more true = refl
        no_more false = refl

    by : (b : Bool) → (m == n) ≡ b → (b || has_number ms n) ≡ false → (has_number ms n ≡ false → outside (ts ++ n ∷ []) ms ≡ outside ts ms)
        → outside (ts ++ n ∷ []) (m ∷ ms) ≡ outside ts (m ∷ ms)
    by true f g rest = cc
    by false f g rest =
        ap (λ b. cond b (outside (ts ++ n ∷ []) ms) (suc (outside (ts ++ n ∷ []) ms))) (also f) ∙ ap (λ k. cond (has_number ts m) k (suc k)) (rest g)

-- one table more, of these
outside-less : (ts : List ℕ) (n : ℕ) (ms : List ℕ) → AreDistinct ms → has_number ts n ≡ false → has_number ms n ≡ true → suc (outside (ts ++ n ∷ []) ms) ≡ outside ts ms
outside-less ts n [] once new h = cc
outside-less ts n (m ∷ ms) once new h = by (m == n) refl h (outside-less ts n ms once.1 new)
  where
    more : List ℕ
    more = ts ++ n ∷ []

    has_it : has_number (ts ++ n ∷ []) n ≡ true
    has_it = has-append ts (n ∷ []) n ∙ or_right (has_number ts n) (has_number (n ∷ []) n) (or_left (n == n) false (eq-eqb n n refl))

    here : m ≡ n → suc (outside (ts ++ n ∷ []) (m ∷ ms)) ≡ outside ts (m ∷ ms)
    here e =
        let rest : outside (ts ++ n ∷ []) ms ≡ outside ts ms = outside-same ts n ms (ap (has_number ms) (sym e) ∙ once.0) in
        ap (λ b. suc (cond b (outside (ts ++ n ∷ []) ms) (suc (outside (ts ++ n ∷ []) ms)))) (ap (has_number (ts ++ n ∷ [])) e ∙ has_it)
        ∙ (ap suc rest ∙ ap (λ b. cond b (outside ts ms) (suc (outside ts ms))) (sym (ap (has_number ts) e ∙ new)))

    also : (m == n) ≡ false → has_number (ts ++ n ∷ []) m ≡ has_number ts m
    also f = has-append ts (n ∷ []) m ∙ (ap (λ b. has_number ts m || (b || false)) (eq_swap n m ∙ f) ∙ no_more (has_number ts m))
      where
        no_more : (b : Bool) → (b || (false || false)) ≡ b
        no_more true = refl
        no_more false = refl

    out : (b : Bool) (j k : ℕ) → suc j ≡ k → suc (cond b j (suc j)) ≡ cond b k (suc k)
    out true j k e = e
    out false j k e = ap suc e

    by : (b : Bool) → (m == n) ≡ b → (b || has_number ms n) ≡ true → (has_number ms n ≡ true → suc (outside (ts ++ n ∷ []) ms) ≡ outside ts ms)
        → suc (outside (ts ++ n ∷ []) (m ∷ ms)) ≡ outside ts (m ∷ ms)
    by true f g rest = here (eqb-true m n f)
    by false f g rest =
        ap (λ b. suc (cond b (outside (ts ++ n ∷ []) ms) (suc (outside (ts ++ n ∷ []) ms)))) (also f)
        ∙ out (has_number ts m) (outside (ts ++ n ∷ []) ms) (outside ts ms) (rest g)

-- ---- a list of which no table stands twice

any-has : (x : ℕ) (ns : List ℕ) → list_any (nat_eq x) ns ≡ has_number ns x
any-has x [] = refl
any-has x (n ∷ ns) = ap (λ b. b || list_any (nat_eq x) ns) (eq_swap x n) ∙ ap (λ b. (n == x) || b) (any-has x ns)

abbrev pub Apart : List ℕ → List ℕ → Type 0
Apart seen ns = (n : ℕ) → has_number seen n ≡ true → has_number ns n ≡ false

after-distinct : (seen ns : List ℕ) → is_some (repeated_after nat_eq seen ns) ≡ false → Apart seen ns × AreDistinct ns
after-distinct seen [] h = (λ n k. refl, tt)
after-distinct seen (x ∷ xs) h = by (list_any (nat_eq x) seen) refl h (after-distinct (x ∷ seen) xs)
  where
    others : has_number seen x ≡ false → Apart (x ∷ seen) xs → (n : ℕ) → has_number seen n ≡ true → (b : Bool) → (x == n) ≡ b → (b || has_number xs n) ≡ false
    others new apart n k true e = let same : has_number seen x ≡ has_number seen n = ap (has_number seen) (eqb-true x n e) in cc
    others new apart n k false e = apart n (or_right (x == n) (has_number seen n) k)

    by : (b : Bool) → list_any (nat_eq x) seen ≡ b → is_some (cond b (Some x) (repeated_after nat_eq (x ∷ seen) xs)) ≡ false
        → (is_some (repeated_after nat_eq (x ∷ seen) xs) ≡ false → Apart (x ∷ seen) xs × AreDistinct xs) → Apart seen (x ∷ xs) × AreDistinct (x ∷ xs)
    by true e k rest = cc
    by false e k rest =
        let known = rest k in
        (λ n j. others (sym (any-has x seen) ∙ e) known.0 n j (x == n) refl, (known.0 x (or_left (x == x) (has_number seen x) (eq-eqb x x refl)), known.1))

are-distinct : (ns : List ℕ) → is_repeated_number ns ≡ false → AreDistinct ns
are-distinct ns h = (after-distinct [] ns h).1

-- ---- a tree as it grows

same_join-is : (d e : Edge) → same_join d e ≡ true → d ≡ e
same_join-is d e h =
    let froms : d.from ≡ e.from = same_column_is d.from e.from (and_parts (same_column d.from e.from) (same_column d.to e.to) h).0 in
    let tos : d.to ≡ e.to = same_column_is d.to e.to (and_parts (same_column d.from e.from) (same_column d.to e.to) h).1 in
    λ i. record { from = froms i; to = tos i }

same_join-itself : (e : Edge) → same_join e e ≡ true
same_join-itself e = and_from (same_column e.from e.from) (same_column e.to e.to) ((same_column-Decides e.from e.from).1 refl) ((same_column-Decides e.to e.to).1 refl)

-- the join, as it is written or turned, is the edge
abbrev pub is_either : Edge → Edge → Bool
is_either e j = same_join j e || same_join (turned j) e

directed-either : (defs : List TableDef) (tree : Tree) (n : ℕ) (j e : Edge) → directed defs tree n j ≡ Some e → is_either e j ≡ true
directed-either defs tree n j e h = by (leads_to defs tree n j) h
  where
    by : (b : Bool) → cond b (Some j) (where_true (leads_to defs tree n (turned j)) (turned j)) ≡ Some e → is_either e j ≡ true
    by true g = let same : j ≡ e = cc in or_left (same_join j e) (same_join (turned j) e) (ap (λ k. same_join k e) same ∙ same_join-itself e)
    by false g =
        let same : turned j ≡ e = (where_is (leads_to defs tree n (turned j)) (turned j) e g).1 in
        or_right (same_join j e) (same_join (turned j) e) (ap (λ k. same_join k e) same ∙ same_join-itself e)

directed-some : (defs : List TableDef) (tree : Tree) (n : ℕ) (e j : Edge) → leads_to defs tree n e ≡ true → is_either e j ≡ true → is_some (directed defs tree n j) ≡ true
directed-some defs tree n e j leads either = by (leads_to defs tree n j) refl (same_join j e) refl either
  where
    whole : (b : Bool) → b ≡ true → is_some (where_true b (turned j)) ≡ true
    whole true h = refl
    whole false h = cc

    clash : (b : Bool) → b ≡ false → b ≡ true → is_some (where_true (leads_to defs tree n (turned j)) (turned j)) ≡ true
    clash b f g = let wrong : false ≡ true = sym f ∙ g in cc

    by : (b : Bool) → leads_to defs tree n j ≡ b → (c : Bool) → same_join j e ≡ c → (c || same_join (turned j) e) ≡ true
        → is_some (cond b (Some j) (where_true (leads_to defs tree n (turned j)) (turned j))) ≡ true
    by true f c g h = refl
    by false f true g h = clash (leads_to defs tree n j) f (ap (leads_to defs tree n) (same_join-is j e g) ∙ leads)
    by false f false g h = whole (leads_to defs tree n (turned j)) (ap (leads_to defs tree n) (same_join-is (turned j) e h) ∙ leads)

-- the edge that is found is one of the joins, and leads to the table asked for
found-one : (defs : List TableDef) (tree : Tree) (n : ℕ) (joins : List Edge) (e : Edge) → first_of (directed defs tree n) joins ≡ Some e → is_one_of joins e ≡ true
found-one defs tree n [] e h = cc
found-one defs tree n (j ∷ js) e h = by (directed defs tree n j) refl h (found-one defs tree n js e)
  where
    by : (o : Option Edge) → directed defs tree n j ≡ o → first_some (o ∷ map (directed defs tree n) js) ≡ Some e
        → (first_of (directed defs tree n) js ≡ Some e → is_one_of js e ≡ true) → (is_either e j || is_one_of js e) ≡ true
    by (Some d) f g rest = let same : Some d ≡ Some e = g in or_left (is_either e j) (is_one_of js e) (directed-either defs tree n j e (f ∙ same))
    by None f g rest = or_right (is_either e j) (is_one_of js e) (rest g)

found-leads : (defs : List TableDef) (tree : Tree) (n : ℕ) (joins : List Edge) (e : Edge) → first_of (directed defs tree n) joins ≡ Some e → e.to.table ≡ n
found-leads defs tree n [] e h = cc
found-leads defs tree n (j ∷ js) e h = by (directed defs tree n j) refl h (found-leads defs tree n js e)
  where
    by : (o : Option Edge) → directed defs tree n j ≡ o → first_some (o ∷ map (directed defs tree n) js) ≡ Some e
        → (first_of (directed defs tree n) js ≡ Some e → e.to.table ≡ n) → e.to.table ≡ n
    by (Some d) f g rest =
        let same : Some d ≡ Some e = g in
        let leads : leads_to defs tree n e ≡ true = directed_leads defs tree n j e (f ∙ same) in
        eqb-true e.to.table n (and_parts (e.to.table == n) (is_key_column defs e.to)
        (and_parts (has_number tree.tables e.from.table) ((e.to.table == n) && is_key_column defs e.to) leads).1).0
    by None f g rest = rest g

-- the branch to the first table that can be added: it leads outwards to a table of FROM, and is one of the joins
abbrev pub IsNext : List Edge → List ℕ → Tree → Edge → Type 0
IsNext joins from tree e = (has_number from e.to.table ≡ true) × ((has_number tree.tables e.to.table ≡ false) × (is_one_of joins e ≡ true))

branch-next : (defs : List TableDef) (joins : List Edge) (tree : Tree) (n : ℕ) (e : Edge) → branch_to defs joins tree n ≡ Some e
    → (e.to.table ≡ n) × ((has_number tree.tables n ≡ false) × (is_one_of joins e ≡ true))
branch-next defs joins tree n e h = by (has_number tree.tables n) refl h
  where
    by : (b : Bool) → has_number tree.tables n ≡ b → cond b None (first_of (directed defs tree n) joins) ≡ Some e
        → (e.to.table ≡ n) × ((has_number tree.tables n ≡ false) × (is_one_of joins e ≡ true))
    by true f g = cc
    by false f g = (found-leads defs tree n joins e g, (f, found-one defs tree n joins e g))

next-is : (defs : List TableDef) (joins : List Edge) (tree : Tree) (from : List ℕ) (e : Edge) → next_branch defs joins from tree ≡ Some e → IsNext joins from tree e
next-is defs joins tree [] e h = cc
next-is defs joins tree (m ∷ ms) e h = by (branch_to defs joins tree m) refl h (next-is defs joins tree ms e)
  where
    by : (o : Option Edge) → branch_to defs joins tree m ≡ o → first_some (o ∷ map (branch_to defs joins tree) ms) ≡ Some e
        → (next_branch defs joins ms tree ≡ Some e → IsNext joins ms tree e) → IsNext joins (m ∷ ms) tree e
    by (Some d) f g rest =
        let same : Some d ≡ Some e = g in
        let known = branch-next defs joins tree m e (f ∙ same) in
        (or_left (m == e.to.table) (has_number ms e.to.table) (eq-eqb m e.to.table (sym known.0)), (ap (has_number tree.tables) known.0 ∙ known.1.0, known.1.1))
    by None f g rest = let known = rest g in (or_right (m == e.to.table) (has_number ms e.to.table) known.0, known.1)

-- what is so of a tree that grows over these tables from a root
record Grown (joins : List Edge) (from : List ℕ) (root : ℕ) (tree : Tree) : Type 0 where
  rooted : has_number tree.tables root ≡ true
  inside : (n : ℕ) → has_number tree.tables n ≡ true → has_number from n ≡ true
  counted : outside tree.tables from + length tree.tables ≡ length from
  by_joins : list_all (is_one_of joins) tree.edges ≡ true

grown-start : (joins : List Edge) (from : List ℕ) (root : ℕ) → AreDistinct from → has_number from root ≡ true → Grown joins from root (record { tables = root ∷ []; edges = [] })
grown-start joins from root once h = record {
  rooted = or_left (root == root) false (eq-eqb root root refl);
  inside = λ n k. start n k (root == n) refl;
  counted = omega (arith, outside-less [] root from once refl h, outside-nothing from);
  by_joins = refl;
}
  where
    start : (n : ℕ) → (root == n || false) ≡ true → (b : Bool) → (root == n) ≡ b → has_number from n ≡ true
    start n k true f = ap (has_number from) (sym (eqb-true root n f)) ∙ h
    start n k false f = let wrong : (false || false) ≡ true = ap (λ b. b || false) (sym f) ∙ k in cc

length-more : (ts : List ℕ) (n : ℕ) → length (ts ++ n ∷ []) ≡ suc (length ts)
length-more [] n = refl
length-more (t ∷ ts) n = ap suc (length-more ts n)

grown-step : (joins : List Edge) (from : List ℕ) (root : ℕ) (tree : Tree) (o : Option Edge) → AreDistinct from → Grown joins from root tree → ((e : Edge) → o ≡ Some e → IsNext joins from tree e) → Grown joins from root (with_branch tree o)
grown-step joins from root tree None once g next = g
grown-step joins from root tree (Some e) once g next =
    let known : IsNext joins from tree e = next e refl in
    record {
      rooted = has-append tree.tables (e.to.table ∷ []) root ∙ or_left (has_number tree.tables root) (has_number (e.to.table ∷ []) root) g.rooted;
      inside = λ n k. stays n (has_number tree.tables n) refl (sym (has-append tree.tables (e.to.table ∷ []) n) ∙ k) (e.to.table == n) refl known.0;
      counted = omega (arith, g.counted, outside-less tree.tables e.to.table from once known.1.0 known.0, length-more tree.tables e.to.table);
      by_joins = list_all-append (is_one_of joins) tree.edges (e ∷ [])
          ∙ and_from (list_all (is_one_of joins) tree.edges) (list_all (is_one_of joins) (e ∷ [])) g.by_joins (and_from (is_one_of joins e) true known.1.1 refl);
    }
  where
    stays : (n : ℕ) → (b : Bool) → has_number tree.tables n ≡ b → (has_number tree.tables n || ((e.to.table == n) || false)) ≡ true
        → (c : Bool) → (e.to.table == n) ≡ c → has_number from e.to.table ≡ true → has_number from n ≡ true
    stays n true f k c h i = g.inside n f
    stays n false f k true h i = ap (has_number from) (sym (eqb-true e.to.table n h)) ∙ i
    stays n false f k false h i =
        let wrong : (false || (false || false)) ≡ true = sym (ap (λ b. b || ((e.to.table == n) || false)) f ∙ ap (λ c. false || (c || false)) h) ∙ k in cc

grown-on : (n : ℕ) (defs : List TableDef) (joins : List Edge) (from : List ℕ) (root : ℕ) (tree : Tree) → AreDistinct from → Grown joins from root tree → Grown joins from root (grow n defs joins from tree)
grown-on zero defs joins from root tree once g = g
grown-on (suc n) defs joins from root tree once g =
    grown-on n defs joins from root (with_branch tree (next_branch defs joins from tree)) once
    (grown-step joins from root tree (next_branch defs joins from tree) once g (next-is defs joins tree from))

-- ---- what is found

spanning-some :
    (defs : List TableDef) (joins : List Edge) (from : List ℕ) (root : ℕ) → AreDistinct from → has_number from root ≡ true
    → (tree : Tree) → spanning defs joins from root ≡ Some tree
    → (tree.tables ≡ root ∷ map (λ e. e.to.table) tree.edges) × IsTreeOver defs joins from root tree.edges
spanning-some defs joins from root once h tree e =
    let grown : Tree = tree_from defs joins from root in
    let said : ((length grown.tables == length from) ≡ true) × (grown ≡ tree) = where_is (length grown.tables == length from) grown tree e in
    let is = tree_from-is defs joins from root in
    let g : Grown joins from root grown = grown-on (length from) defs joins from root (record { tables = root ∷ []; edges = [] }) once (grown-start joins from root once h) in
    let many : length grown.tables ≡ length from = eqb-true (length grown.tables) (length from) said.0 in
    let none : outside grown.tables from ≡ 0 = omega (arith, g.counted, many) in
    let whole : IsTreeOver defs joins from root grown.edges = record {
      outwards = is.1;
      by_joins = g.by_joins;
      all_tables = λ n. ap (λ ts. has_number ts n) (sym is.0) ∙ both_ways (has_number grown.tables n) (has_number from n) (g.inside n) (outside-none grown.tables from none n);
    } in
    subst (λ t. (t.tables ≡ root ∷ map (λ d. d.to.table) t.edges) × IsTreeOver defs joins from root t.edges) said.1 (is.0, whole)

-- ---- a tree that is there is found

module _ (defs : List TableDef) (joins : List Edge) (from : List ℕ) (tree : Tree) where
  -- a table of FROM to which one of the joins leads can be added
  can-branch : (e : Edge) → is_one_of joins e ≡ true → leads_to defs tree e.to.table e ≡ true → has_number tree.tables e.to.table ≡ false → is_some (branch_to defs joins tree e.to.table) ≡ true
  can-branch e one leads new = by (has_number tree.tables e.to.table) new
    where
      by : (b : Bool) → b ≡ false → is_some (cond b None (first_of (directed defs tree e.to.table) joins)) ≡ true
      by false f = first_some-is (directed defs tree e.to.table) (is_either e) (λ j k. directed-some defs tree e.to.table e j leads k) joins one
      by true f = cc

  can-go-on : (e : Edge) → has_number from e.to.table ≡ true → is_some (branch_to defs joins tree e.to.table) ≡ true → is_some (next_branch defs joins from tree) ≡ true
  can-go-on e h k =
      first_some-is (branch_to defs joins tree) (λ m. m == e.to.table)
      (λ m f. ap (λ n. is_some (branch_to defs joins tree n)) (eqb-true m e.to.table f) ∙ k) from h

  -- where no table can be added, the tree has the table of each edge that leads outwards from its own
  no-more : next_branch defs joins from tree ≡ None → (listed : List ℕ) (es : List Edge)
      → leads_outwards defs listed es ≡ true → list_all (is_one_of joins) es ≡ true
      → ((n : ℕ) → has_number listed n ≡ true → has_number tree.tables n ≡ true)
      → ((n : ℕ) → has_number (map (λ e. e.to.table) es) n ≡ true → has_number from n ≡ true)
      → (n : ℕ) → has_number (map (λ e. e.to.table) es) n ≡ true → has_number tree.tables n ≡ true
  no-more stuck listed [] out one has within n h = cc
  no-more stuck listed (e ∷ es) out one has within n h =
      by (e.to.table == n) refl h
      (no-more stuck (listed ++ e.to.table ∷ []) es (and_parts first (leads_outwards defs (listed ++ e.to.table ∷ []) es) out).1
      (and_parts (is_one_of joins e) (list_all (is_one_of joins) es) one).1 has-more
      (λ m k. within m (or_right (e.to.table == m) (has_number (map (λ d. d.to.table) es) m) k)) n)
    where
      first : Bool
      first = has_number listed e.from.table && (not (has_number listed e.to.table) && is_key_column defs e.to)

      leads : leads_to defs tree e.to.table e ≡ true
      leads =
          let here : first ≡ true = (and_parts first (leads_outwards defs (listed ++ e.to.table ∷ []) es) out).0 in
          and_from (has_number tree.tables e.from.table) ((e.to.table == e.to.table) && is_key_column defs e.to)
          (has e.from.table (and_parts (has_number listed e.from.table) (not (has_number listed e.to.table) && is_key_column defs e.to) here).0)
          (and_from (e.to.table == e.to.table) (is_key_column defs e.to) (eq-eqb e.to.table e.to.table refl)
          (and_parts (not (has_number listed e.to.table)) (is_key_column defs e.to)
          (and_parts (has_number listed e.from.table) (not (has_number listed e.to.table) && is_key_column defs e.to) here).1).1)

      -- the tree has this table
      has-it : (b : Bool) → has_number tree.tables e.to.table ≡ b → has_number tree.tables e.to.table ≡ true
      has-it true f = f
      has-it false f =
          absurd (none_some (next_branch defs joins from tree) stuck
          (can-go-on e (within e.to.table (or_left (e.to.table == e.to.table) (has_number (map (λ d. d.to.table) es) e.to.table) (eq-eqb e.to.table e.to.table refl)))
          (can-branch e (and_parts (is_one_of joins e) (list_all (is_one_of joins) es) one).0 leads f)))

      in-more : (m : ℕ) → (b : Bool) → has_number listed m ≡ b → (c : Bool) → (e.to.table == m) ≡ c → (b || (c || false)) ≡ true → has_number tree.tables m ≡ true
      in-more m true f c g k = has m f
      in-more m false f true g k = ap (has_number tree.tables) (sym (eqb-true e.to.table m g)) ∙ has-it (has_number tree.tables e.to.table) refl
      in-more m false f false g k = cc

      has-more : (m : ℕ) → has_number (listed ++ e.to.table ∷ []) m ≡ true → has_number tree.tables m ≡ true
      has-more m k = in-more m (has_number listed m) refl (e.to.table == m) refl (sym (has-append listed (e.to.table ∷ []) m) ∙ k)

      by : (b : Bool) → (e.to.table == n) ≡ b → (b || has_number (map (λ d. d.to.table) es) n) ≡ true
          → (has_number (map (λ d. d.to.table) es) n ≡ true → has_number tree.tables n ≡ true) → has_number tree.tables n ≡ true
      by true f k rest = ap (has_number tree.tables) (sym (eqb-true e.to.table n f)) ∙ has-it (has_number tree.tables e.to.table) refl
      by false f k rest = rest k

-- a tree that can't grow has all tables where there is a tree over all
grown-whole :
    (defs : List TableDef) (joins : List Edge) (from : List ℕ) (root : ℕ) (edges : List Edge) (tree : Tree) → IsTreeOver defs joins from root edges → Grown joins from root tree
    → next_branch defs joins from tree ≡ None → outside tree.tables from ≡ 0
grown-whole defs joins from root edges tree over g stuck =
    outside-all tree.tables from (λ n h. has-all n (root == n) refl (over.all_tables n ∙ h))
  where
    tos : List ℕ
    tos = map (λ e. e.to.table) edges

    from-root : (n : ℕ) → (root == n || false) ≡ true → (b : Bool) → (root == n) ≡ b → has_number tree.tables n ≡ true
    from-root n k true f = ap (has_number tree.tables) (sym (eqb-true root n f)) ∙ g.rooted
    from-root n k false f = let wrong : (false || false) ≡ true = ap (λ b. b || false) (sym f) ∙ k in cc

    has-all : (n : ℕ) → (b : Bool) → (root == n) ≡ b → (root == n || has_number (map (λ e. e.to.table) edges) n) ≡ true → has_number tree.tables n ≡ true
    has-all n true f k = ap (has_number tree.tables) (sym (eqb-true root n f)) ∙ g.rooted
    has-all n false f k =
        no-more defs joins from tree stuck (root ∷ []) edges over.outwards over.by_joins (λ m j. from-root m j (root == m) refl)
        (λ m j. sym (over.all_tables m) ∙ or_right (root == m) (has_number (map (λ e. e.to.table) edges) m) j) n
        (ap (λ b. b || has_number (map (λ e. e.to.table) edges) n) (sym f) ∙ k)

grown-all :
    (n : ℕ) (defs : List TableDef) (joins : List Edge) (from : List ℕ) (root : ℕ) (edges : List Edge) (tree : Tree) → AreDistinct from → IsTreeOver defs joins from root edges
    → Grown joins from root tree → outside tree.tables from ≤ n → outside (grow n defs joins from tree).tables from ≡ 0
grown-all zero defs joins from root edges tree once over g few = omega (arith, few)
grown-all (suc n) defs joins from root edges tree once over g few =
    by (next_branch defs joins from tree) refl (λ o s. grown-step joins from root tree o once g s) (λ t k f. grown-all n defs joins from root edges t once over k f)
  where
    by : (o : Option Edge) → next_branch defs joins from tree ≡ o
        → ((p : Option Edge) → ((e : Edge) → p ≡ Some e → IsNext joins from tree e) → Grown joins from root (with_branch tree p))
        → ((t : Tree) → Grown joins from root t → outside t.tables from ≤ n → outside (grow n defs joins from t).tables from ≡ 0)
        → outside (grow n defs joins from (with_branch tree o)).tables from ≡ 0
    by None stuck step rest = let none : outside tree.tables from ≡ 0 = grown-whole defs joins from root edges tree over g stuck in rest tree g (omega (arith, none))
    by (Some e) f step rest =
        let next : Grown joins from root (with_branch tree (Some e)) = step (Some e) (λ d k. next-is defs joins tree from d (f ∙ k)) in
        rest (with_branch tree (Some e)) next (omega (arith, few, g.counted, next.counted, length-more tree.tables e.to.table))

outside-few : (ts ms : List ℕ) → outside ts ms ≤ length ms
outside-few ts [] = omega arith
outside-few ts (m ∷ ms) = by (has_number ts m) (outside-few ts ms)
  where
    by : (b : Bool) → outside ts ms ≤ length ms → cond b (outside ts ms) (suc (outside ts ms)) ≤ suc (length ms)
    by true h = omega (arith, h)
    by false h = omega (arith, h)

some-where : {A : Type 0} (b : Bool) (x : A) → b ≡ true → is_some (where_true b x) ≡ true
some-where true x h = refl
some-where false x h = cc

spanning-found :
    (defs : List TableDef) (joins : List Edge) (from : List ℕ) (root : ℕ) (edges : List Edge) → AreDistinct from → has_number from root ≡ true
    → IsTreeOver defs joins from root edges → is_some (spanning defs joins from root) ≡ true
spanning-found defs joins from root edges once h over =
    let start : Tree = record { tables = root ∷ []; edges = [] } in
    let g : Grown joins from root start = grown-start joins from root once h in
    let end : Grown joins from root (tree_from defs joins from root) = grown-on (length from) defs joins from root start once g in
    let none : outside (tree_from defs joins from root).tables from ≡ 0 = grown-all (length from) defs joins from root edges start once over g (outside-few (root ∷ []) from) in
    let many : length (tree_from defs joins from root).tables ≡ length from = omega (arith, end.counted, none) in
    some-where (length (tree_from defs joins from root).tables == length from) (tree_from defs joins from root)
    (eq-eqb (length (tree_from defs joins from root).tables) (length from) many)

root-of : (defs : List TableDef) (joins : List Edge) (from : List ℕ) (root : ℕ) (edges : List Edge) → IsTreeOver defs joins from root edges → has_number from root ≡ true
root-of defs joins from root edges over =
    sym (over.all_tables root) ∙ or_left (root == root) (has_number (map (λ e. e.to.table) edges) root) (eq-eqb root root refl)

-- ---- the laws

-- from a table of FROM, of which none stands twice
pub spanning-law :
    (defs : List TableDef) (joins : List Edge) (from : List ℕ) (root : ℕ) → is_repeated_number from ≡ false → has_number from root ≡ true
    → IsSpanning defs joins from root (spanning defs joins from root)
spanning-law defs joins from root once h = record {
  some = spanning-some defs joins from root (are-distinct from once) h;
  none = λ e edges over. none_some (spanning defs joins from root) e (spanning-found defs joins from root edges (are-distinct from once) h over);
}

-- the tree that is found for some root
from-some :
    (defs : List TableDef) (joins : List Edge) (from : List ℕ) → AreDistinct from → (roots : List ℕ) → ((n : ℕ) → has_number roots n ≡ true → has_number from n ≡ true)
    → (tree : Tree) → first_of (spanning defs joins from) roots ≡ Some tree
    → (root : ℕ) × ((tree.tables ≡ root ∷ map (λ e. e.to.table) tree.edges) × IsTreeOver defs joins from root tree.edges)
from-some defs joins from once [] within tree e = cc
from-some defs joins from once (r ∷ rs) within tree e =
    by (spanning defs joins from r) refl e (from-some defs joins from once rs (λ n h. within n (or_right (r == n) (has_number rs n) h)) tree)
  where
    by : (o : Option Tree) → spanning defs joins from r ≡ o → first_some (o ∷ map (spanning defs joins from) rs) ≡ Some tree
        → (first_of (spanning defs joins from) rs ≡ Some tree → (root : ℕ) × ((tree.tables ≡ root ∷ map (λ d. d.to.table) tree.edges) × IsTreeOver defs joins from root tree.edges))
        → (root : ℕ) × ((tree.tables ≡ root ∷ map (λ d. d.to.table) tree.edges) × IsTreeOver defs joins from root tree.edges)
    by (Some t) f k rest =
        let same : Some t ≡ Some tree = k in
        (r, spanning-some defs joins from r once (within r (or_left (r == r) (has_number rs r) (eq-eqb r r refl))) tree (f ∙ same))
    by None f k rest = rest k

pub star_of-law : (defs : List TableDef) (joins : List Edge) (from : List ℕ) → IsStarOf defs joins from (star_of defs joins from)
star_of-law defs joins from = record {
  some = λ tree e. is-some tree (is_repeated_number from) refl (not (length joins + 1 == length from)) e;
  once = λ tree e. is-once tree (is_repeated_number from) (length joins + 1 == length from) e;
  none = λ e once many root edges over. is-none once many (is_repeated_number from) once (length joins + 1 == length from) many e root edges over;
}
  where
    is-some : (tree : Tree) → (b : Bool) → is_repeated_number from ≡ b → (c : Bool) → cond (b || c) None (first_of (spanning defs joins from) from) ≡ Some tree
        → (root : ℕ) × ((tree.tables ≡ root ∷ map (λ e. e.to.table) tree.edges) × IsTreeOver defs joins from root tree.edges)
    is-some tree true f c e = cc
    is-some tree false f true e = cc
    is-some tree false f false e = from-some defs joins from (are-distinct from f) from (λ n h. h) tree e

    is-once : (tree : Tree) → (b c : Bool) → cond (b || not c) None (first_of (spanning defs joins from) from) ≡ Some tree → (b ≡ false) × (c ≡ true)
    is-once tree true c e = cc
    is-once tree false false e = cc
    is-once tree false true e = (refl, refl)

    is-none : is_repeated_number from ≡ false → (length joins + 1 == length from) ≡ true → (b : Bool) → b ≡ false → (c : Bool) → c ≡ true
        → cond (b || not c) None (first_of (spanning defs joins from) from) ≡ None → (root : ℕ) (edges : List Edge) → IsTreeOver defs joins from root edges → ⊥
    is-none once many true f c g e root edges over = cc
    is-none once many false f false g e root edges over = cc
    is-none once many false f true g e root edges over =
        none_some (first_of (spanning defs joins from) from) e
        (first_some-is (spanning defs joins from) (λ m. m == root)
        (λ m k. spanning-found defs joins from m edges (are-distinct from once)
        (ap (has_number from) (eqb-true m root k) ∙ root-of defs joins from root edges over)
        (subst (λ r. IsTreeOver defs joins from r edges) (sym (eqb-true m root k)) over))
        from (root-of defs joins from root edges over))
