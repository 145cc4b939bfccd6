-- The register as the entries of a map in the order of their keys.
use Rattle.std.proofs.Common.{◌≡◌, ◌∙◌, sym, ap, subst, refl, arith, ℕ, length, unwrap_or, Bool, true, false, cond, List, [], ◌∷◌, Some, None, Option, IsSome, option_map}
use Rattle.std.specs.BTreeMap.{BTreeMap, Updates, is_at}
use Rattle.std.specs.Cmp.{nat_cmp_total, eq_by_cmp_equiv}
use Rattle.std.specs.List.{cons_option, filter_map}
use Rattle.std.specs.List.Sorted.{IsStrictlySortedBy}
use Rattle.std.specs.Map.{lookup, set_value, keys_of}
use Rattle.std.specs.Ordering.{is_eq, nat_cmp, eq_by_cmp}
use Rattle.std.specs.declared.cmp.Ordering.{Ordering}
use Rattle.std.specs.declared.cmp.Ordering.TheVariants.{Less, Equal, Greater}
use Rattle.std.specs.FinMap as fin
use Rattle.std.proofs.lemmas.Map.{lookup-set_value}
use Rattle.wh_base.specs.Lists.{least_of, option_case}
use Rattle.wh_register.specs.Register.{Rooms, least_point, lesser_point, point_over, with_point}
use Rattle.wh_register.specs.declared.register.Room.{Room}

abbrev same_key : ℕ → ℕ → Bool
same_key = eq_by_cmp nat_cmp

is_equal : (o : Ordering) → is_eq o ≡ true → o ≡ Equal
is_equal Less h = cc
is_equal Equal h = refl
is_equal Greater h = cc

one_key : (k x : ℕ) → same_key k x ≡ true → k ≡ x
one_key k x h = fin.nat_cmp-IsAntisymmetric k x (is_equal (nat_cmp k x) h)

abbrev Entries : Type 0
Entries = List (ℕ × Room)

-- the map of entries finds what the entries have
find-lookup : (es : Entries) (q : ℕ) → fin.find nat_cmp q es ≡ lookup (same_key q) es
find-lookup [] q = refl
find-lookup (e ∷ es) q = ap (cond (same_key q e.0) (Some e.1)) (find-lookup es q)

pub get-lookup : (es : List (ℕ × Room)) (q : ℕ) → fin.get (fin.from_entries {R = nat_cmp} es) q ≡ lookup (is_at (nat_cmp q)) es
get-lookup es q = fin.get-from_entries nat_cmp_total es q ∙ find-lookup es q

-- two lists of entries at which all look-ups agree but for one key
inserted : (old new : Entries) (k : ℕ) (v : Room) → ((q : ℕ) → lookup (same_key q) new ≡ cond (same_key k q) (Some v) (lookup (same_key q) old))
    → fin.from_entries {R = nat_cmp} new ≡ fin.insert (fin.from_entries old) k v
inserted old new k v h =
    fin.same_map nat_cmp_total fin.nat_cmp-IsAntisymmetric _ _
    (λ q.
    get-lookup new q ∙ h q ∙ ap (λ b. cond b (Some v) (lookup (same_key q) old)) ((eq_by_cmp_equiv nat_cmp_total).symm k q)
    ∙ ap (cond (same_key q k) (Some v)) (sym (get-lookup old q)) ∙ sym (fin.get-insert nat_cmp_total (fin.from_entries old) k v q))

none_of : (es : Entries) → length es ≡ 0 → es ≡ []
none_of [] h = refl
none_of (e ∷ es) h = absurd (omega arith)

put_first : (k : ℕ) (v : Room) (es : Entries) → IsStrictlySortedBy nat_cmp (keys_of ((k, v) ∷ es)) → fin.put nat_cmp k v es ≡ (k, v) ∷ es
unfolding IsStrictlySortedBy
put_first k v [] up = refl
put_first k v (e ∷ es) up = rw up.0.0 refl

-- the map of entries in order has these entries
pub entries-from_entries : (es : List (ℕ × Room)) → IsStrictlySortedBy nat_cmp (keys_of es) → fin.entries (fin.from_entries {R = nat_cmp} es) ≡ es
unfolding IsStrictlySortedBy
entries-from_entries [] up = none_of (fin.entries (fin.empty {R = nat_cmp})) (sym (fin.len-entries fin.empty) ∙ fin.len-empty nat_cmp Room)
entries-from_entries (e ∷ es) up =
    fin.entries-insert nat_cmp_total (fin.from_entries es) e.0 e.1 ∙ ap (fin.put nat_cmp e.0 e.1) (entries-from_entries es up.1) ∙ put_first e.0 e.1 es up

pub room_added : (old new : BTreeMap ℕ Room) (view : ℕ) (room : Room) → Updates nat_cmp old new view (Some room)
    → fin.from_entries {R = nat_cmp} new.entries ≡ fin.insert (fin.from_entries old.entries) view room
room_added old new view room updates = inserted old.entries new.entries view room updates.0

pub point_set : (es : List (ℕ × Room)) (view : ℕ) (point : Option ℕ) (room : Room) → lookup (is_at (nat_cmp view)) es ≡ Some room
    → fin.from_entries {R = nat_cmp} (set_value (is_at (nat_cmp view)) es (record room { point = point })) ≡ with_point (fin.from_entries es) view point
point_set es view point room found =
    inserted es (set_value (same_key view) es (record room { point = point })) view (record room { point = point })
    (λ q. lookup-set_value (eq_by_cmp_equiv nat_cmp_total) (same_key view) (λ x y same. ap (λ k. same_key k y) (one_key view x same)) q (record room { point = point }) es (subst IsSome (sym found) refl))
    ∙ ap (λ o. option_case o (fin.from_entries es) (λ r. fin.insert (fin.from_entries es) view (record r { point = point }))) (sym (get-lookup es view ∙ found))

pub point_missing : (es : List (ℕ × Room)) (view : ℕ) (point : Option ℕ) → lookup (is_at (nat_cmp view)) es ≡ None → fin.from_entries {R = nat_cmp} es ≡ with_point (fin.from_entries es) view point
point_missing es view point none = ap (λ o. option_case o (fin.from_entries es) (λ r. fin.insert (fin.from_entries es) view (record r { point = point }))) (sym (get-lookup es view ∙ none))

pub ruleset changes = (room_added, point_set, point_missing)

-- ---- the least point

-- the least of a point, where it is there, and of more points
abbrev pub least_with : Option ℕ → ℕ → List ℕ → ℕ
least_with least now ps = option_case least (least_point now ps) (λ p. least_of p ps)

abbrev pub rooms_left : Option ℕ → List Room → ℕ → ℕ → ℕ
rooms_left least rooms table now = least_with least now (filter_map (point_over table) rooms)

pub next_room : (least : Option ℕ) (room : Room) (rooms : List Room) (table now : ℕ)
    → rooms_left (lesser_point least (point_over table room)) rooms table now ≡ rooms_left least (room ∷ rooms) table now
next_room least room rooms table now = by least (point_over table room)
  where
    by : (least point : Option ℕ) → rooms_left (lesser_point least point) rooms table now
        ≡ least_with least now (cons_option point (filter_map (point_over table) rooms))
    by None None = refl
    by None (Some p) = refl
    by (Some q) None = refl
    by (Some q) (Some p) = refl

pub no_room : (least : Option ℕ) (table now : ℕ) → unwrap_or least now ≡ rooms_left least [] table now
no_room None table now = refl
no_room (Some p) table now = refl

pub ruleset leasts = (next_room, no_room, entries-from_entries)

-- ---- what a look-up finds after a change

-- a view keeps its room, and its room alone is changed
pub get-with_point : (rooms : Rooms) (view : ℕ) (point : Option ℕ) (q : ℕ)
    → fin.get (with_point rooms view point) q ≡ cond (same_key q view) (option_map {T = Room} {U = Room} (λ room. record room { point = point }) (fin.get rooms view)) (fin.get rooms q)
get-with_point rooms view point q = by (fin.get rooms view) refl (same_key q view) refl
  where
    by : (o : Option Room) → fin.get rooms view ≡ o → (b : Bool) → same_key q view ≡ b
        → fin.get (option_case o rooms (λ room. fin.insert rooms view (record room { point = point }))) q ≡ cond b (option_map {T = Room} {U = Room} (λ room. record room { point = point }) o) (fin.get rooms q)
    by None none true same = ap (fin.get rooms) (one_key q view same) ∙ none
    by None none false other = refl
    by (Some room) some b e = fin.get-insert nat_cmp_total rooms view (record room { point = point }) q ∙ ap (λ c. cond c (Some (record room { point = point })) (fin.get rooms q)) e

pub ruleset found = (get-with_point, fin.gets)
