-- Without group columns there is one entry, also over nothing. And: what is never NULL is counted by COUNT(*).
use Rattle.std.proofs.Common.{◌≡◌, ◌∙◌, sym, ap, refl, suc, Bool, true, false, cond, not, List, [], ◌∷◌, length, map, Some}
use Rattle.std.specs.Prelude.{pos, filter}
use Rattle.std.specs.List.{list_all}
use Rattle.wh_base.specs.Lists.{sorted_by}
use Rattle.wh_base.specs.Values.{is_null}
use Rattle.wh_base.specs.declared.columns.Agg.{Agg}
use Rattle.wh_base.specs.declared.columns.Agg.TheVariants.{Count, CountAll}
use Rattle.wh_base.specs.declared.columns.ColRef.{ColRef}
use Rattle.wh_base.specs.declared.columns.Expr.{Expr}
use Rattle.wh_base.specs.declared.queries.StarQuery.{StarQuery}
use Rattle.wh_base.specs.declared.values.Value.{Value}
use Rattle.wh_base.specs.declared.values.Value.TheVariants.{Num}
use Rattle.wh_base.specs.declared.views.ViewEntry.{ViewEntry}
use Rattle.def_meaning.specs.Accumulated.{acc_of}
use Rattle.def_meaning.specs.Meaning.{agg_value, entries, entry_cmp, expr_value, group_entry, group_item, grouped_entries, groups, plain_entries, test_true, values_of}
use Rattle.law_lists.proofs.Each.{Each-filter}
use Rattle.law_delta.specs.Deltas.{Balanced}
use Rattle.law_delta.specs.Masked.{Each}
use Rattle.law_delta.specs.Moved.{IsAdded, counting, moved_item, moved_single, row_says, selects, value_in_row}
use Rattle.law_delta.proofs.Moving.{items_moved}
use Rattle.law_delta.proofs.Refreshed.{all_known, says_value}

module _ {T : Type 0} (value : T → ColRef → Value) (q : StarQuery) (having : q.having ≡ []) (single : q.keys ≡ []) where
  abbrev pub one_entry : (ts : List T) → ViewEntry
  one_entry ts = record { key = []; row = map (group_item value q.keys ([], ts)) q.items }

  pub entries_single : q.grouped ≡ true → (ts : List T) → entries value q ts ≡ one_entry ts ∷ []
  entries_single grouped ts =
      ap (λ b. cond b (grouped_entries value q ts) (plain_entries value q ts)) grouped
      ∙ (λ i. map (group_entry value q) (filter (λ g. list_all (test_true value g) (having i)) (groups value (single i) ts)))

  -- the one entry after the changes
  pub single_refreshed : q.grouped ≡ true → selects q.items CountAll ≡ true → ((a : Agg) → selects q.items a ≡ true → IsAdded a × (selects q.items (counting a) ≡ true))
      → (now olds before news : List T) → Balanced now olds before news
      → moved_single value q (sorted_by entry_cmp (entries value q before)) olds news ≡ sorted_by entry_cmp (entries value q now)
  single_refreshed grouped rows counted now olds before news h =
      let said : Agg → Value = row_says q.items (Some (map (group_item value q.keys ([], before)) q.items)) in
      let says : (a : Agg) → selects q.items a ≡ true → said a ≡ agg_value value before a = λ a e.
      ap (λ b. cond b (value_in_row q.items (map (group_item value q.keys ([], before)) q.items) a) (value_in_row q.items (map (group_item value q.keys ([], before)) q.items) CountAll)) e ∙ says_value value q.keys [] before q.items a e in
      let is : map (group_item value q.keys ([], now)) q.items ≡ map (moved_item q.keys [] said (acc_of value news) (acc_of value olds)) q.items =
      items_moved value now olds before news h said (says CountAll rows) q.keys [] q.items (all_known value before said q.items (λ a e. ((counted a e).0, says (counting a) (counted a e).1, says a e)) q.items (λ a x. x)) in
      (λ i. moved_single value q (sorted_by entry_cmp (entries_single grouped before i)) olds news)
      ∙ (λ i. record { key = []; row = sym is i } ∷ [])
      ∙ (λ i. sorted_by entry_cmp (sym (entries_single grouped now) i))

-- ---- never NULL

count_full : {T : Type 0} (value : T → ColRef → Value) (e : Expr) (ts : List T) → Each (λ t. is_null (expr_value (value t) e) ≡ false) ts → length (values_of value e ts) ≡ length ts
count_full value e [] h = refl
count_full value e (t ∷ ts) h = (λ i. length (cond (not (h.0 i)) (expr_value (value t) e ∷ values_of value e ts) (values_of value e ts))) ∙ ap suc (count_full value e ts h.1)

-- what Counted asks where COUNT(e) isn't selected
pub never_null_full : {T : Type 0} (value : T → ColRef → Value) (e : Expr) (p : T → Bool) (ts : List T) → Each (λ t. is_null (expr_value (value t) e) ≡ false) ts → agg_value value (filter p ts) (Count e) ≡ agg_value value (filter p ts) CountAll
never_null_full value e p ts h = ap (λ n. Num (pos n)) (count_full value e (filter p ts) (Each-filter (λ t. is_null (expr_value (value t) e) ≡ false) p ts h))
