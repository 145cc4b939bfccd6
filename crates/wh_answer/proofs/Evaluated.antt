-- A query that resolves over the tables of a trace's catalog can be evaluated over the image of that catalog.
use Rattle.std.proofs.Common.{◌≡◌, ◌∙◌, sym, ap, refl, subst, ℕ, suc, Bool, true, false, cond, List, [], ◌∷◌, length, map, Option, None, Some, Ok}
use Rattle.std.proofs.lemmas.List.Elements.{All-head, All-tail}
use Rattle.std.specs.List.{All, find, list_all}
use Rattle.std.specs.Prelude.{option_map, ◌&&◌, ◌==◌}
use Rattle.wh_base.specs.Lists.{option_case}
use Rattle.wh_base.specs.Tables.{Base, Table, defs_of, rows_shown}
use Rattle.wh_base.specs.declared.queries.RawQuery.{RawQuery}
use Rattle.wh_base.specs.declared.queries.StarQuery.{StarQuery}
use Rattle.wh_base.specs.declared.statements.Event.{Event}
use Rattle.def_history.specs.Catalog.{base_now, defs_now, view_numbered}
use Rattle.def_meaning.specs.Joined.{rows_at}
use Rattle.def_resolve.proofs.Trees.{resolve-is}
use Rattle.def_resolve.specs.Resolve.{resolve}
use Rattle.wh_answer.proofs.Counted.{reads_bound}
use Rattle.wh_answer.specs.Answered.{CanAnswer}
use Rattle.wh_answer.specs.Over.{IsImageOf}
use Rattle.wh_evaluate.specs.Shown.{HasKeys, Shows, are_numbered, are_placed, is_placed}
use Rattle.wh_image.proofs.Lookup.{lookups}
use Rattle.wh_table.specs.Kept.{no_key, no_part, tables_at}
use Rattle.wh_table.specs.Stored.{Stored, base_seen, seen}
use Rattle.law_trace.specs.Laws.{RowLaws}
use Rattle.law_trace.specs.Reached.{catalog_of}
use Rattle.wh_view.specs.Kept.{AllKept, Kept, is_numbered}
use Rattle.law_views.specs.Laws.{IsOfTextNow, TableSizes, ViewTexts}

-- what is so of each item is so of one that is found
pub found_all : {A : Type 0} (P : A → Type 0) (p : A → Bool) (xs : List A) (x : A) → All P xs → find p xs ≡ Some x → P x
found_all P p [] x all h = absurd (cc)
found_all P p (y ∷ ys) x all h = by (p y) (found_all P p ys x (All-tail P y ys all)) h
  where
    by : (b : Bool) → (find p ys ≡ Some x → P x) → cond b (Some y) (find p ys) ≡ Some x → P x
    by true later g = let same : y ≡ x = cc in subst P same (All-head P y ys all)
    by false later g = later g

-- ---- what the tables show

same_many : (scn : ℕ) (tables : List Stored) → length (tables_at scn tables) ≡ length (base_seen scn tables)
same_many scn [] = refl
same_many scn (s ∷ tables) = ap suc (same_many scn tables)

no_keys : (scn : ℕ) (tables : List Stored) → All (λ s. s.def.part_key ≡ None) tables → map no_key tables ≡ map (λ t. t.def.part_key) (base_seen scn tables)
no_keys scn [] h = refl
no_keys scn (s ∷ tables) h =
    (λ i. sym (All-head (λ s. s.def.part_key ≡ None) s tables h) i ∷ no_keys scn tables (All-tail (λ s. s.def.part_key ≡ None) s tables h) i)

all_placed : (scn : ℕ) (tables : List Stored) → All (λ s. s.def.part_key ≡ None) tables → list_all are_placed (base_seen scn tables) ≡ true
all_placed scn [] h = refl
all_placed scn (s ∷ tables) h =
    let here : are_placed (seen scn s) ≡ true = ap (placed_by (seen scn s)) (All-head (λ s. s.def.part_key ≡ None) s tables h) in
    ap (λ b. b && list_all are_placed (base_seen scn tables)) here ∙ all_placed scn tables (All-tail (λ s. s.def.part_key ≡ None) s tables h)
  where
    placed_by : Table → Option ℕ → Bool
    placed_by t o = option_case o true (λ key. list_all (is_placed t key) t.rows)

-- ---- queries

module _ (scn : ℕ) (tables : List Stored) (views : AllKept) (trace : List Event) (is : IsImageOf trace scn tables views)
    (shown : (n : ℕ) → rows_shown (tables_at scn tables) n ≡ rows_at (base_seen scn tables) n)
    (numbered : list_all are_numbered (base_seen scn tables) ≡ true)
    (parts : map no_part tables ≡ map (λ t. t.parts) (base_seen scn tables))
    (rows : RowLaws) (sizes : TableSizes) where
  base_is : base_now (catalog_of trace) ≡ base_seen scn tables
  base_is = is.stands.base_is

  shows_seen : Shows (tables_at scn tables) (map no_key tables) (map no_part tables) (base_seen scn tables)
  shows_seen = record { many = same_many scn tables; rows = shown; part_keys = no_keys scn tables is.stands.whole; parts = parts }

  pub can_answer : (raw : RawQuery) (q : StarQuery) → resolve (defs_now (catalog_of trace)) raw ≡ Ok q → CanAnswer scn tables (catalog_of trace) q
  can_answer raw q resolved =
      let base : Base = base_now (catalog_of trace) in
      record {
        known = record {
          base = base_seen scn tables;
          shown = shows_seen;
          raw = raw;
          resolved = subst (λ (b : Base). resolve (defs_of b) raw ≡ Ok q) base_is resolved;
          unique = subst (All HasKeys) base_is (rows.keys trace);
          placed = all_placed scn tables is.stands.whole;
          numbered = numbered;
        };
        shown = subst (Shows (tables_at scn tables) (map no_key tables) (map no_part tables)) (sym base_is) shows_seen;
        few = reads_bound q base (resolve-is (defs_of base) raw q resolved) (rows.few trace) (sizes.few trace);
      }

  -- the query of a view, which its text reads as
  pub view_can : (texts : ViewTexts) (n : ℕ) (k : Kept) → find (is_numbered n) views.views ≡ Some k → CanAnswer scn tables (catalog_of trace) k.view.def.query
  view_can texts n k found =
      let there : view_numbered (catalog_of trace) n ≡ Some k.view = lookups.numbered scn tables views (catalog_of trace) n is.stands ∙ ap (option_map (λ (k : Kept). k.view)) found in
      let over : k.view.def.beneath ≡ None = found_all (λ v. v.def.beneath ≡ None) (λ v. v.def.view == n) (catalog_of trace).views k.view is.stands.over_tables there in
      let text : IsOfTextNow (catalog_of trace) k.view =
      found_all (λ v. v.def.beneath ≡ None → IsOfTextNow (catalog_of trace) v) (λ v. v.def.view == n) (catalog_of trace).views k.view (texts.now trace is.read) there over in
      can_answer text.query k.view.def.query text.resolved
