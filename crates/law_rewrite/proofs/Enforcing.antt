-- Under ENFORCED the rows are as the law of plans asks by what every base state keeps.
use Rattle.std.proofs.Common.{◌≡◌, ◌∙◌, sym, ap, subst, refl, arith, ℕ, ◌≤◌, Bool, true, false, not, List}
use Rattle.std.specs.Prelude.{◌||◌}
use Rattle.wh_base.specs.Lists.{has_number}
use Rattle.wh_base.specs.Tables.{Base, def_at, defs_of, never_null, never_null_part}
use Rattle.wh_base.specs.declared.columns.ColPart.{ColPart}
use Rattle.wh_base.specs.declared.columns.ColPart.TheVariants.{Col, Mark, RowId}
use Rattle.wh_base.specs.declared.columns.ColRef.{ColRef}
use Rattle.wh_base.specs.declared.queries.StarQuery.{StarQuery}
use Rattle.wh_base.specs.declared.statements.Level.TheVariants.{Enforced}
use Rattle.wh_base.specs.declared.tables.RowAt.{RowAt}
use Rattle.wh_base.specs.declared.tables.TableDef.{TableDef}
use Rattle.wh_base.specs.declared.values.Value.{Value}
use Rattle.def_dimensions.specs.Relations.{dimension_holds}
use Rattle.def_history.specs.Catalog.{Catalog, View, base_at, base_now, defs_now}
use Rattle.def_meaning.specs.Joined.{part_value, rows_at}
use Rattle.def_meaning.specs.Meaning.{not_null}
use Rattle.def_resolve.specs.Star.{is_key_column}
use Rattle.law_lists.proofs.Each.{Each-map, Each-of}
use Rattle.law_rewrite.specs.Words.{Each}
use Rattle.law_rewrite.specs.Fine.{HasParent, RowsFine, with_value}
use Rattle.law_rewrite.specs.Kept.{BasesKept, DefKept, NoRows, SameDef}
use Rattle.law_rewrite.specs.Standing.{StarsKept}
use Rattle.law_rewrite.proofs.Owed.{rows_fine_of}

abbrev still : TableDef → TableDef
still d = record d { movement = false }

never_same : (d e : TableDef) → still d ≡ still e → (p : ColPart) → never_null_part d p ≡ never_null_part e p
never_same d e h (Col k) = ap (λ (x : TableDef). never_null_part x (Col k)) h
never_same d e h RowId = refl
never_same d e h Mark = refl

keys_same : (defs defs' : List TableDef) (c : ColRef) → still (def_at defs c.table) ≡ still (def_at defs' c.table) → is_key_column defs c ≡ is_key_column defs' c
keys_same defs defs' c h = by c.part
  where
    by : (p : ColPart) → is_key_column defs (record { table = c.table; part = p }) ≡ is_key_column defs' (record { table = c.table; part = p })
    by (Col k) = ap (λ (x : TableDef). has_number x.keys k) h
    by RowId = refl
    by Mark = refl

-- the same rows by the definitions of now
rows_later : (defs : List TableDef) (base : Base) (tables : List ℕ) (rely : Bool) → ((n : ℕ) → DefKept defs base n) → RowsFine (defs_of base) tables rely (rows_at base) → RowsFine defs tables rely (rows_at base)
rows_later defs base tables rely kept fine = record {
  plain = fine.plain;
  sure = λ n. sure n (kept n) (fine.sure n);
  unique = λ c key w. unique c w (kept c.table) key;
  foreign = λ n there. foreign n (kept n) (fine.foreign n there);
}
  where
    Sure : List TableDef → ℕ → RowAt → Type 0
    Sure ds n r = (p : ColPart) → never_null ds (record { table = n; part = p }) ≡ true → not_null (part_value r p) ≡ true

    sure : (n : ℕ) → DefKept defs base n → Each (Sure (defs_of base) n) (rows_at base n) → Each (Sure defs n) (rows_at base n)
    sure n (NoRows e) h = subst (Each (Sure defs n)) (sym e) tt
    sure n (SameDef e) h = Each-map (Sure (defs_of base) n) (Sure defs n) (λ r k p f. k p (never_same (def_at (defs_of base) n) (def_at defs n) e p ∙ f)) (rows_at base n) h

    unique : (c : ColRef) (w : Value) → DefKept defs base c.table → is_key_column defs c ≡ true → with_value c.part w (rows_at base c.table) ≤ 1
    unique c w (NoRows e) key = subst (λ rs. with_value c.part w rs ≤ 1) (sym e) (omega arith)
    unique c w (SameDef e) key = fine.unique c (keys_same (defs_of base) defs c e ∙ key) w

    foreign : (n : ℕ) → DefKept defs base n
        → Each (λ f. has_number tables f.table ≡ true → (not f.rely || rely) ≡ true → Each (HasParent (rows_at base) f) (rows_at base n)) (def_at (defs_of base) n).foreign
        → Each (λ f. has_number tables f.table ≡ true → (not f.rely || rely) ≡ true → Each (HasParent (rows_at base) f) (rows_at base n)) (def_at defs n).foreign
    foreign n (NoRows e) h =
        Each-of (λ f. has_number tables f.table ≡ true → (not f.rely || rely) ≡ true → Each (HasParent (rows_at base) f) (rows_at base n)) (λ f there may. subst (Each (HasParent (rows_at base) f)) (sym e) tt) (def_at defs n).foreign
    foreign n (SameDef e) h =
        subst (λ (d : TableDef). Each (λ f. has_number tables f.table ≡ true → (not f.rely || rely) ≡ true → Each (HasParent (rows_at base) f) (rows_at base n)) d.foreign) e h

pub enforced_owe : (c : Catalog) (q : StarQuery) (v : View) (p : ℕ) → BasesKept c q v p → StarsKept c Enforced q v p
enforced_owe c q v p h = record {
  star_q = h.star_q;
  star_v = h.star_v;
  rows_then = rows_later (defs_now c) (base_at c p) v.def.query.tables false h.defs_then (rows_fine_of (base_at c p) v.def.query.tables h.tables_then);
  rows_now = rows_fine_of (base_now c) v.def.query.tables h.tables_now;
  relies_then = λ may. nothing (base_at c p) may;
  relies_now = λ may. nothing (base_now c) may;
  kinds_then = h.kinds_then;
  kinds_now = h.kinds_now;
}
  where
    nothing : (base : Base) → false ≡ true → Each (λ d. dimension_holds base d ≡ true) c.dimensions
    nothing base e = cc
