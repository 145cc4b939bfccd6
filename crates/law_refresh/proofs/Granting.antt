-- Where no restriction of a refresh by logs holds, what it stands for doesn't.
use Rattle.std.proofs.Common.{◌≡◌, ◌∙◌, sym, ap, refl, subst, ℕ, Bool, true, false, cond, not, List, [], ◌∷◌, map, Option, None, Some, nat_lt, ◌&&◌, true≢false}
use Rattle.std.specs.Prelude.{is_none, option_map, zip}
use Rattle.std.proofs.lemmas.Bool.{ltb-false, not-false}
use Rattle.wh_base.specs.Lists.{first_of, has_number, is_empty, where_true}
use Rattle.wh_base.specs.Tables.{def_at}
use Rattle.wh_base.specs.declared.columns.ColPart.TheVariants.{RowId}
use Rattle.wh_base.specs.declared.logs.LogFacts.{LogFacts}
use Rattle.wh_base.specs.declared.views.Restriction.TheVariants.{F1, F10, F11, F13, F2, F3, F4, F5, F6, F7, F8, F9}
use Rattle.def_history.specs.Catalog.{Catalog, Log, View, defs_now, log_of}
use Rattle.def_history.specs.Staleness.{facts_of, known, point_of, restriction}
use Rattle.def_restrictions.specs.Definition.{has_average_alone, is_insert_only, selects_column}
use Rattle.def_restrictions.specs.Restrictions.{Known, check_f1, check_f10, check_f11, check_f12, check_f13, check_f3, check_f4, check_f5, check_f6, check_f7, check_f8, check_f9, form_restriction, log_says, unlogged}
use Rattle.law_lists.proofs.Lists.{no_elements}
use Rattle.law_lists.proofs.Booleans.{and_rest}
use Rattle.law_lists.proofs.Numbers.{number_among}
use Rattle.law_lists.proofs.Each.{Each-of_mapped}
use Rattle.law_refresh.specs.Planned.{AreGranted, IsGranted}
use Rattle.law_trace.proofs.Basing.{none_each, none_first, none_map, none_rest, none_where}
use Rattle.law_trace.proofs.Listed.{Each}

-- the tables with their definitions
pub zip_map : {B : Type 0} (f : ℕ → B) (ns : List ℕ) → zip ns (map f ns) ≡ map (λ n. (n, f n)) ns
zip_map f [] = refl
zip_map f (n ∷ ns) = ap (λ rest. (n, f n) ∷ rest) (zip_map f ns)

-- what is known of each table of the view
pub knowns : (c : Catalog) (v : View) → v.def.tables ≡ map (def_at (defs_now c)) v.def.query.tables → (facts_of c v).tables ≡ map (λ n. known c v (n, def_at (defs_now c) n)) v.def.query.tables
knowns c v defined =
    ap (λ ds. map (known c v) (zip v.def.query.tables ds)) defined ∙ ap (map (known c v)) (zip_map (def_at (defs_now c)) v.def.query.tables) ∙ twice v.def.query.tables
  where
    twice : (ns : List ℕ) → map (known c v) (map (λ n. (n, def_at (defs_now c) n)) ns) ≡ map (λ n. known c v (n, def_at (defs_now c) n)) ns
    twice [] = refl
    twice (n ∷ ns) = ap (λ rest. known c v (n, def_at (defs_now c) n) ∷ rest) (twice ns)

-- what is so of each is so of one among them
pub each_number : {K : Type 0} (P : K → Type 0) (f : ℕ → K) (ns : List ℕ) → Each P (map f ns) → (n : ℕ) → has_number ns n ≡ true → P (f n)
each_number P f ns h n = number_among (λ m. P (f m)) ns n (Each-of_mapped P f ns h)

first_where : {A : Type 0} (b : Bool) (o : Option A) → b ≡ true → cond b o None ≡ None → o ≡ None
first_where true o is e = e
first_where false o is e = cc

-- all that is asked of one table
abbrev Passes : Catalog → View → Known → Type 0
Passes c v k =
    (check_f3 k ≡ None) × (check_f4 k ≡ None) × (check_f5 v.def k ≡ None) × (check_f6 v.def k ≡ None) × (check_f8 v.def k ≡ None) × (check_f10 (point_of v) k ≡ None) × (check_f11 k ≡ None) × (check_f13 v.def k ≡ None)

granted : (c : Catalog) (v : View) (n : ℕ) → Passes c v (known c v (n, def_at (defs_now c) n)) → IsGranted c v n
granted c v n h = by (log_of c n) refl
  where
    k : Known
    k = known c v (n, def_at (defs_now c) n)

    says : (o : Option Log) (test : LogFacts → Bool) (l : Log) → log_of c n ≡ o → o ≡ Some l → log_says k test ≡ test l.facts
    says o test l e is = ap (λ (x : Option Log). log_says (record k { log = option_map (λ l. l.facts) x }) test) (e ∙ is)

    by : (o : Option Log) → log_of c n ≡ o → IsGranted c v n
    by None e = let none : is_none k.log ≡ false = none_where (is_none k.log) (F3 n) h.0 in absurd (true≢false (sym (ap (λ (x : Option Log). is_none (option_map (λ l. l.facts) x)) e) ∙ none))
    by (Some l) e =
        record {
          log = l;
          found = e;
          rowid = not-false l.facts.rowid (sym (says (Some l) (λ f. not f.rowid) l e refl) ∙ none_where (log_says k (λ f. not f.rowid)) (F4 n) h.1);
          logged = λ grouped. none_map (F5 n) (unlogged v.def k) (first_where v.def.query.grouped (option_map (F5 n) (unlogged v.def k)) grouped h.2);
          both = λ grouped. not-false l.facts.new_values (sym (says (Some l) (λ f. not f.new_values) l e refl)
              ∙ and_rest v.def.query.grouped (log_says k (λ f. not f.new_values)) grouped (none_where (v.def.query.grouped && log_says k (λ f. not f.new_values)) (F6 n) h.3));
          selected = λ plain. not-false (selects_column v.def.query (record { table = n; part = RowId }))
              (and_rest (not v.def.query.grouped) (not (selects_column v.def.query (record { table = n; part = RowId }))) (ap not plain) (none_where (not v.def.query.grouped && not (selects_column v.def.query (record { table = n; part = RowId }))) (F8 n) h.4));
          from = ltb-false (point_of v) l.facts.from (sym (says (Some l) (λ f. nat_lt (point_of v) f.from) l e refl) ∙ none_where (log_says k (λ f. nat_lt (point_of v) f.from)) (F10 n) h.5);
          kept = none_where k.maintained (F11 n) h.6;
          inserts = λ grouped only. and_rest (is_insert_only v.def) k.removed only (and_rest v.def.query.grouped (is_insert_only v.def && k.removed) grouped (none_where (v.def.query.grouped && (is_insert_only v.def && k.removed)) (F13 n) h.7));
        }

each_eight : {K : Type 0} (A B C D E F G H : K → Type 0) (ks : List K) → Each A ks → Each B ks → Each C ks → Each D ks → Each E ks → Each F ks → Each G ks → Each H ks
    → Each (λ k. A k × B k × C k × D k × E k × F k × G k × H k) ks
each_eight A B C D E F G H [] a b c d e f g h = tt
each_eight A B C D E F G H (k ∷ ks) a b c d e f g h = ((a.0, b.0, c.0, d.0, e.0, f.0, g.0, h.0), each_eight A B C D E F G H ks a.1 b.1 c.1 d.1 e.1 f.1 g.1 h.1)

pub are_granted : (c : Catalog) (v : View) → v.def.tables ≡ map (def_at (defs_now c)) v.def.query.tables → restriction c v ≡ None → AreGranted c v
are_granted c v defined none =
    let ks : List Known = (facts_of c v).tables in
    let after_1 = none_rest (check_f1 (facts_of c v)) _ none in
    let after_2 = none_rest (where_true (not v.registered) F2) _ after_1 in
    let form : form_restriction v.def ks ≡ None = none_first (form_restriction v.def ks) _ after_2 in
    let after_9 = none_rest (form_restriction v.def ks) _ after_2 in
    let after_10 = none_rest (first_of (check_f10 (point_of v)) ks) _ after_9 in
    let after_11 = none_rest (first_of check_f11 ks) _ after_10 in
    let after_12 = none_rest (first_of (check_f12 v.def) ks) _ after_11 in
    let form_3 = none_rest (first_of check_f3 ks) _ form in
    let form_4 = none_rest (first_of check_f4 ks) _ form_3 in
    let form_5 = none_rest (first_of (check_f5 v.def) ks) _ form_4 in
    let form_6 = none_rest (first_of (check_f6 v.def) ks) _ form_5 in
    let form_7 = none_rest (check_f7 v.def) _ form_6 in
    let form_8 = none_rest (first_of (check_f8 v.def) ks) _ form_7 in
    let passes : Each (Passes c v) ks =
    each_eight (λ k. check_f3 k ≡ None) (λ k. check_f4 k ≡ None) (λ k. check_f5 v.def k ≡ None) (λ k. check_f6 v.def k ≡ None) (λ k. check_f8 v.def k ≡ None) (λ k. check_f10 (point_of v) k ≡ None) (λ k. check_f11 k ≡ None) (λ k. check_f13 v.def k ≡ None) ks
    (none_each check_f3 ks (none_first (first_of check_f3 ks) _ form))
    (none_each check_f4 ks (none_first (first_of check_f4 ks) _ form_3))
    (none_each (check_f5 v.def) ks (none_first (first_of (check_f5 v.def) ks) _ form_4))
    (none_each (check_f6 v.def) ks (none_first (first_of (check_f6 v.def) ks) _ form_5))
    (none_each (check_f8 v.def) ks (none_first (first_of (check_f8 v.def) ks) _ form_7))
    (none_each (check_f10 (point_of v)) ks (none_first (first_of (check_f10 (point_of v)) ks) _ after_9))
    (none_each check_f11 ks (none_first (first_of check_f11 ks) _ after_10))
    (none_each (check_f13 v.def) ks (none_first (first_of (check_f13 v.def) ks) _ after_12)) in
    let named : Each (Passes c v) (map (λ n. known c v (n, def_at (defs_now c) n)) v.def.query.tables) = subst (Each (Passes c v)) (knowns c v defined) passes in
    let built : is_none v.point ≡ false = none_where (is_none v.point) F1 (none_first (check_f1 (facts_of c v)) _ none) in
    let average : (v.def.query.grouped && has_average_alone v.def.query) ≡ false = none_where (v.def.query.grouped && has_average_alone v.def.query) F7 (none_first (check_f7 v.def) _ form_6) in
    let empty : not (is_empty v.def.query.having) ≡ false = none_where (not (is_empty v.def.query.having)) F9 (none_first (check_f9 v.def) _ form_8) in
    by v.point refl built
    (λ n e. granted c v n (each_number (Passes c v) (λ n. known c v (n, def_at (defs_now c) n)) v.def.query.tables named n e))
    (λ grouped. and_rest v.def.query.grouped (has_average_alone v.def.query) grouped average)
    (no_elements v.def.query.having (not-false (is_empty v.def.query.having) empty))
  where
    by : (o : Option ℕ) → v.point ≡ o → is_none o ≡ false → ((n : ℕ) → has_number v.def.query.tables n ≡ true → IsGranted c v n) → (v.def.query.grouped ≡ true → has_average_alone v.def.query ≡ false) → v.def.query.having ≡ [] → AreGranted c v
    by None e built tables averages having = absurd (true≢false built)
    by (Some p) e built tables averages having = record { point = p; built = e; tables = tables; averages = averages; having = having }
