-- An index of keys after each call.
use Rattle.std.proofs.Common.{◌≡◌, List, None, Some, not, length, Bool, ℕ}
use Rattle.std.specs.List.{IsDistinct, filter}
use Rattle.std.specs.Map.{lookup, keys_of}
use Rattle.std.specs.Ordering.{eq_by_cmp}
use Rattle.std.specs.FinMap as map
use Rattle.indexmap.specs.IndexMap.{IndexMap, Updates, UpdatesBy}
use Rattle.wh_base.specs.Values.{value_cmp}
use Rattle.wh_base.specs.ValueLaws.{value_total, value_exact}
use Rattle.wh_base.specs.declared.values.Value.{Value}
use Rattle.wh_keyindex.specs.Marks.{is_marked, unmarked}
use Rattle.wh_keyindex.proofs.Looked.{get-lookup, inserted, removed, kept, counted}

pub find_place : (es : List (Value × ℕ)) (key : Value) → map.get (map.from_entries {R = value_cmp} es) key ≡ lookup (eq_by_cmp value_cmp key) es
find_place = get-lookup value_total value_exact

pub place_given : {S : Type 0} (old new : IndexMap Value ℕ S) (key : Value) (place : ℕ) → Updates (eq_by_cmp value_cmp) old new key (Some place)
    → map.from_entries {R = value_cmp} new.entries ≡ map.insert (map.from_entries old.entries) key place
place_given old new key place updates = inserted value_total value_exact old.entries new.entries key place updates.0

pub key_taken : {S : Type 0} (old new : IndexMap Value ℕ S) (key : Value) → UpdatesBy (eq_by_cmp value_cmp) (eq_by_cmp value_cmp key) old new None
    → map.from_entries {R = value_cmp} new.entries ≡ map.remove (map.from_entries old.entries) key
key_taken old new key updates = removed value_total value_exact old.entries new.entries key updates.0

pub keys_counted : (es : List (Value × ℕ)) → IsDistinct (eq_by_cmp value_cmp) (keys_of es) → map.len (map.from_entries {R = value_cmp} es) ≡ length es
keys_counted = counted value_total value_exact

pub marked_dropped : (es : List (Value × ℕ)) (gone : List Bool) → IsDistinct (eq_by_cmp value_cmp) (keys_of es)
    → map.from_entries {R = value_cmp} (filter (λ e. not (is_marked gone e.1)) es) ≡ unmarked gone (map.from_entries es)
marked_dropped es gone once = kept value_total value_exact es (λ place. not (is_marked gone place)) once

pub ruleset placed = (find_place, place_given, key_taken, keys_counted, marked_dropped)
