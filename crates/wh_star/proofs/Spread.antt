-- In a tuple in which the joins are true, columns that joins make equal have one value.
use Rattle.std.proofs.Common.{◌≡◌, ◌∙◌, sym, ap, refl, ℕ, zero, suc, Bool, true, false, cond, not, List, [], ◌∷◌, ◌++◌, length}
use Rattle.std.proofs.lemmas.Bool.{and_parts}
use Rattle.std.specs.List.{list_all}
use Rattle.std.specs.Prelude.{◌&&◌, ◌||◌}
use Rattle.wh_base.proofs.SameItems.{same_column_is}
use Rattle.wh_base.specs.Columns.{has_column, same_column}
use Rattle.wh_base.specs.declared.columns.ColRef.{ColRef}
use Rattle.wh_base.specs.declared.queries.Edge.{Edge}
use Rattle.wh_base.specs.declared.values.Value.{Value}
use Rattle.def_meaning.specs.Joined.{edge_true}
use Rattle.def_meaning.specs.Ranges.{equal_columns, other_end, spread, spread_times}
use Rattle.wh_star.proofs.Found.{one_value}

-- ---- columns of one value

module _ (value : ColRef → Value) (v : Value) where
  -- each of these columns has this value
  abbrev pub AllHave : List ColRef → Type 0
  AllHave [] = Unit {0}
  AllHave (c ∷ cs) = (value c ≡ v) × AllHave cs

  pub has-value : (cs : List ColRef) (c : ColRef) → AllHave cs → has_column cs c ≡ true → value c ≡ v
  has-value [] c all h = cc
  has-value (d ∷ cs) c all h = by (same_column c d) refl h (has-value cs c all.1)
    where
      by : (b : Bool) → same_column c d ≡ b → (b || has_column cs c) ≡ true → (has_column cs c ≡ true → value c ≡ v) → value c ≡ v
      by true e k rest = ap value (same_column_is c d e) ∙ all.0
      by false e k rest = rest k

  have-append : (cs ds : List ColRef) → AllHave cs → AllHave ds → AllHave (cs ++ ds)
  have-append [] ds all more = more
  have-append (c ∷ cs) ds all more = (all.0, have-append cs ds all.1 more)

  other-has : (cs : List ColRef) (e : Edge) → edge_true value e ≡ true → AllHave cs → AllHave (other_end cs e)
  other-has cs e h all = by (has_column cs e.from) (has_column cs e.to) refl refl
    where
      by : (b c : Bool) → has_column cs e.from ≡ b → has_column cs e.to ≡ c → AllHave (cond (b && not c) (e.to ∷ []) (cond (c && not b) (e.from ∷ []) []))
      by true true f g = tt
      by true false f g = (sym (one_value (value e.from) (value e.to) h) ∙ has-value cs e.from all f, tt)
      by false true f g = (one_value (value e.from) (value e.to) h ∙ has-value cs e.to all g, tt)
      by false false f g = tt

  spread-has : (es : List Edge) (cs : List ColRef) → list_all (edge_true value) es ≡ true → AllHave cs → AllHave (spread es cs)
  spread-has [] cs h all = all
  spread-has (e ∷ es) cs h all =
      spread-has es (cs ++ other_end cs e) (and_parts (edge_true value e) (list_all (edge_true value) es) h).1
      (have-append cs (other_end cs e) all (other-has cs e (and_parts (edge_true value e) (list_all (edge_true value) es) h).0 all))

  rounds-have : (n : ℕ) (es : List Edge) (cs : List ColRef) → list_all (edge_true value) es ≡ true → AllHave cs → AllHave (spread_times n es cs)
  rounds-have zero es cs h all = all
  rounds-have (suc n) es cs h all = rounds-have n es (spread es cs) h (spread-has es cs h all)

-- the columns that joins make equal to one have its value
pub equal-have : (value : ColRef → Value) (es : List Edge) (c : ColRef) → list_all (edge_true value) es ≡ true → AllHave value (value c) (equal_columns es c)
equal-have value es c h = rounds-have value (value c) (length es) es (c ∷ []) h (refl, tt)
