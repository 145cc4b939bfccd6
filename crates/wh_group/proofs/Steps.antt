-- One more tuple in a map of groups.
use Rattle.std.proofs.Common.{◌≡◌, sym, ap, subst, refl, Bool, true, false, cond, List, [], ◌∷◌, Some, None}
use Rattle.std.proofs.lemmas.Option.{same_Some}
use Rattle.std.specs.Cmp.Lexicographic.{pointwise}
use Rattle.std.specs.List.{All}
use Rattle.std.specs.Ordering.{eq_by_cmp}
use Rattle.std.proofs.lemmas.List.Elements.{All-head, All-tail}
use Rattle.std.specs.Map.{lookup, set_value}
use Rattle.indexmap.specs.IndexMap.{insert_entry}
use Rattle.wh_base.specs.Values.{value_cmp, same_values}
use Rattle.wh_group.specs.Tallies.{Kept, HasRoom, HaveRoom, change_group}
use Rattle.wh_group.specs.declared.tally.Tally.{Tally}
use Rattle.wh_group.proofs.Keys.{Key, same_by_cmp}

abbrev Matches : (Key → Key → Bool) → Type 0
Matches eq = (k l : Key) → eq k l ≡ same_values k l

-- the group that is found has room
pub found_room : (test : Key → Bool) (groups : List Kept) (tallies : List Tally) → HaveRoom groups → lookup test groups ≡ Some tallies → All HasRoom tallies
found_room test [] tallies h e = cc
found_room test (g ∷ gs) tallies h e = by (test g.0) e (found_room test gs tallies (All-tail (λ g. All HasRoom g.1) g gs h))
  where
    by : (b : Bool) → cond b (Some g.1) (lookup test gs) ≡ Some tallies → (lookup test gs ≡ Some tallies → All HasRoom tallies) → All HasRoom tallies
    by true e more = subst (All HasRoom) (same_Some g.1 tallies e) (All-head (λ g. All HasRoom g.1) g gs h)
    by false e more = more e

-- the group that is found goes on
goes_on : (eq : Key → Key → Bool) → Matches eq → (key : Key) (change : List Tally → List Tally) (first : List Tally) (groups : List Kept) (tallies : List Tally)
    → lookup (eq key) groups ≡ Some tallies → set_value (eq key) groups (change tallies) ≡ change_group key change first groups
goes_on eq h key change first [] tallies e = cc
goes_on eq h key change first (g ∷ gs) tallies e = by (eq key g.0) (same_values key g.0) (h key g.0) e (goes_on eq h key change first gs tallies)
  where
    by : (a b : Bool) → a ≡ b → cond a (Some g.1) (lookup (eq key) gs) ≡ Some tallies
        → (lookup (eq key) gs ≡ Some tallies → set_value (eq key) gs (change tallies) ≡ change_group key change first gs)
        → cond a ((g.0, change tallies) ∷ gs) (g ∷ set_value (eq key) gs (change tallies)) ≡ cond b ((g.0, change g.1) ∷ gs) (g ∷ change_group key change first gs)
    by true true s e more = ap (λ ts. (g.0, change ts) ∷ gs) (sym (same_Some g.1 tallies e))
    by true false s e more = cc
    by false true s e more = cc
    by false false s e more = ap (λ l. g ∷ l) (more e)

-- a new group comes last
comes_last : (eq : Key → Key → Bool) → Matches eq → (key : Key) (change : List Tally → List Tally) (first : List Tally) (groups : List Kept)
    → lookup (eq key) groups ≡ None → insert_entry eq groups key (change first) ≡ change_group key change first groups
comes_last eq h key change first [] e = refl
comes_last eq h key change first (g ∷ gs) e = by (eq key g.0) (same_values key g.0) (h key g.0) e (comes_last eq h key change first gs)
  where
    by : (a b : Bool) → a ≡ b → cond a (Some g.1) (lookup (eq key) gs) ≡ None
        → (lookup (eq key) gs ≡ None → insert_entry eq gs key (change first) ≡ change_group key change first gs)
        → cond a ((g.0, change first) ∷ gs) (g ∷ insert_entry eq gs key (change first)) ≡ cond b ((g.0, change g.1) ∷ gs) (g ∷ change_group key change first gs)
    by true true s e more = cc
    by true false s e more = cc
    by false true s e more = cc
    by false false s e more = ap (λ l. g ∷ l) (more e)

pub one_goes_on : (key : Key) (change : List Tally → List Tally) (first : List Tally) (groups : List Kept) (tallies : List Tally)
    → lookup (pointwise (eq_by_cmp value_cmp) key) groups ≡ Some tallies → set_value (pointwise (eq_by_cmp value_cmp) key) groups (change tallies) ≡ change_group key change first groups
one_goes_on = goes_on (pointwise (eq_by_cmp value_cmp)) same_by_cmp

pub one_comes_last : (key : Key) (change : List Tally → List Tally) (first : List Tally) (groups : List Kept)
    → lookup (pointwise (eq_by_cmp value_cmp) key) groups ≡ None → insert_entry (pointwise (eq_by_cmp value_cmp)) groups key (change first) ≡ change_group key change first groups
one_comes_last = comes_last (pointwise (eq_by_cmp value_cmp)) same_by_cmp

pub ruleset steps = (found_room)
