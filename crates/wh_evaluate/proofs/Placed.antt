-- A row that stands in a partition is marked with its number.
use Rattle.std.proofs.Common.{◌≡◌, sym, ap, subst, refl, arith, ℕ, Bool, true, false, cond, not, List, [], ◌∷◌, Option, Some, None, map}
use Rattle.std.proofs.lemmas.Bool.{and_from, and_parts, eq-eqb, or_left, or_right}
use Rattle.std.proofs.lemmas.List.Elements.{All-cons}
use Rattle.std.specs.List.{All, find, list_all, list_any}
use Rattle.std.specs.Prelude.{◌&&◌, ◌||◌, ◌==◌, is_some, nat_lt, option_map}
use Rattle.wh_base.specs.Lists.{option_case}
use Rattle.wh_base.specs.Tables.{Row, Table, mark_of, part_of_key, row_at, value_at, with_intervals}
use Rattle.wh_base.specs.Values.{interval_has, number_limit}
use Rattle.wh_base.specs.declared.tables.Part.{Part}
use Rattle.wh_base.specs.declared.values.Interval.{Interval}
use Rattle.wh_base.specs.declared.values.Value.{Value}
use Rattle.wh_evaluate.specs.Shown.{are_placed, is_placed}
use Rattle.wh_star.specs.Marked.{AreMarked, is_marked, is_pair}

-- ---- marks

found_marked : (key : Value) (ps : List (Part × Interval)) (p : Part × Interval) → find (λ r. interval_has r.1 key) ps ≡ Some p → list_any (λ r. (r.0.number == p.0.number) && interval_has r.1 key) ps ≡ true
found_marked key [] p h = cc
found_marked key (q ∷ ps) p h = by (interval_has q.1 key) refl h (found_marked key ps p)
  where
    by : (b : Bool) → interval_has q.1 key ≡ b → cond b (Some q) (find (λ r. interval_has r.1 key) ps) ≡ Some p
        → (find (λ r. interval_has r.1 key) ps ≡ Some p → list_any (λ r. (r.0.number == p.0.number) && interval_has r.1 key) ps ≡ true)
        → (((q.0.number == p.0.number) && interval_has q.1 key) || list_any (λ r. (r.0.number == p.0.number) && interval_has r.1 key) ps) ≡ true
    by true e g rest =
        let same : q ≡ p = cc in
        let number : (q.0.number == p.0.number) ≡ true = eq-eqb q.0.number p.0.number (ap (λ r. r.0.number) same) in
        or_left ((q.0.number == p.0.number) && interval_has q.1 key) (list_any (λ r. (r.0.number == p.0.number) && interval_has r.1 key) ps)
        (and_from (q.0.number == p.0.number) (interval_has q.1 key) number e)
    by false e g rest =
        or_right ((q.0.number == p.0.number) && interval_has q.1 key) (list_any (λ r. (r.0.number == p.0.number) && interval_has r.1 key) ps) (rest g)

found_number : (key : Value) (ps : List (Part × Interval)) (o : Option (Part × Interval)) → find (λ r. interval_has r.1 key) ps ≡ o → is_some o ≡ true → list_any (λ r. (r.0.number == option_case o 0 (λ p. p.0.number)) && interval_has r.1 key) ps ≡ true
found_number key ps None e h = cc
found_number key ps (Some p) e h = found_marked key ps p e

-- the mark of a row in a table with this partition key
mark_is : (t : Table) (key : ℕ) (vs : List Value) → t.def.part_key ≡ Some key → mark_of t vs ≡ option_case (part_of_key t (value_at vs key)) 0 (λ p. p.0.number)
mark_is t key vs e = ap (λ o. option_case (option_map (value_at vs) o) 0 (λ k. option_case (part_of_key t k) 0 (λ p. p.0.number))) e

row_marked : (t : Table) (key : ℕ) (r : Row) → t.def.part_key ≡ Some key → is_placed t key r ≡ true → (is_marked t.parts key (row_at t r) && not (is_pair (value_at r.values key))) ≡ true
row_marked t key r e h =
    let value : Value = value_at r.values key in
    let parts = and_parts (is_some (part_of_key t value)) (not (is_pair value)) h in
    let found : list_any (λ p. (p.0.number == option_case (part_of_key t value) 0 (λ p. p.0.number)) && interval_has p.1 value) (with_intervals None t.parts) ≡ true =
    found_number value (with_intervals None t.parts) (part_of_key t value) refl parts.0 in
    let marked : is_marked t.parts key (row_at t r) ≡ true =
    subst (λ m. list_any (λ p. (p.0.number == m) && interval_has p.1 value) (with_intervals None t.parts) ≡ true) (sym (mark_is t key r.values e)) found in
    and_from (is_marked t.parts key (row_at t r)) (not (is_pair value)) marked parts.1

-- the rows of a table are marked
pub placed-marked : (t : Table) → are_placed t ≡ true → AreMarked t.def.part_key t.parts (map (row_at t) t.rows)
placed-marked t h = by t.def.part_key refl h
  where
    each : (key : ℕ) (rs : List Row) → t.def.part_key ≡ Some key → list_all (is_placed t key) rs ≡ true → All (λ r. (is_marked t.parts key r && not (is_pair (value_at r.values key))) ≡ true) (map (row_at t) rs)
    each key [] e g = λ k d l. absurd (omega arith)
    each key (r ∷ rs) e g =
        let parts = and_parts (is_placed t key r) (list_all (is_placed t key) rs) g in
        All-cons (λ s. (is_marked t.parts key s && not (is_pair (value_at s.values key))) ≡ true) (row_at t r) (map (row_at t) rs) (row_marked t key r e parts.0) (each key rs e parts.1)

    by : (o : Option ℕ) → t.def.part_key ≡ o → option_case o true (λ key. list_all (is_placed t key) t.rows) ≡ true → AreMarked o t.parts (map (row_at t) t.rows)
    by None e g = tt
    by (Some key) e g = each key t.rows e g

-- ---- numbers of partitions

found_small : (key : Value) (lo : Option Value) (ps : List Part) → list_all (λ p. nat_lt p.number number_limit) ps ≡ true → nat_lt (option_case (find (λ r. interval_has r.1 key) (with_intervals lo ps)) 0 (λ p. p.0.number)) number_limit ≡ true
found_small key lo [] h = refl
found_small key lo (p ∷ ps) h =
    let parts = and_parts (nat_lt p.number number_limit) (list_all (λ q. nat_lt q.number number_limit) ps) h in
    by (interval_has (record { lo = lo; hi = p.below }) key) parts.0 (found_small key p.below ps parts.1)
  where
    by : (b : Bool) → nat_lt p.number number_limit ≡ true
        → nat_lt (option_case (find (λ r. interval_has r.1 key) (with_intervals p.below ps)) 0 (λ q. q.0.number)) number_limit ≡ true
        → nat_lt (option_case (cond b (Some (p, record { lo = lo; hi = p.below })) (find (λ r. interval_has r.1 key) (with_intervals p.below ps))) 0 (λ q. q.0.number)) number_limit ≡ true
    by true e rest = e
    by false e rest = rest

-- the mark of a row is a small number
pub mark-small : (t : Table) (vs : List Value) → list_all (λ p. nat_lt p.number number_limit) t.parts ≡ true → nat_lt (mark_of t vs) number_limit ≡ true
mark-small t vs h = by t.def.part_key
  where
    by : (o : Option ℕ) → nat_lt (option_case (option_map (value_at vs) o) 0 (λ k. option_case (part_of_key t k) 0 (λ p. p.0.number))) number_limit ≡ true
    by None = refl
    by (Some key) = found_small (value_at vs key) None t.parts h
