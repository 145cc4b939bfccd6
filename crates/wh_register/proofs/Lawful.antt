-- The laws of the register.
use Rattle.std.proofs.Common.{◌≡◌, ◌≢◌, ◌∙◌, ◌⊎◌, ◌&&◌, sym, ap, subst, refl, arith, inl, inr, ℕ, Bool, true, false, cond, List, [], ◌∷◌, map, Option, None, Some, T, nat_eq}
use Rattle.std.proofs.lemmas.Option.{same_Some}
use Rattle.std.specs.FinMap as fin
use Rattle.std.specs.List.{All, cons_option, filter, filter_map}
use Rattle.std.specs.Ordering.{eq_by_cmp, is_lt, nat_cmp}
use Rattle.std.specs.FinMap.Entries.{below_all}
use Rattle.std.proofs.lemmas.Bool.Decides.{nat_tests}
use Rattle.std.proofs.lemmas.List.Elements.{All-cons, All-nil}
use Rattle.wh_base.specs.Lists.{has_number}
use Rattle.def_history.specs.Catalog.{Catalog, View}
use Rattle.def_history.specs.Logs as logs
use Rattle.wh_register.specs.Laws.{Laws, StandsFor, room_of}
use Rattle.wh_register.specs.Register.{Rooms, least_point, point_over}
use Rattle.wh_register.specs.declared.register.Room.{Room}
use Rattle.wh_register.proofs.Leasts.{Member, all_member, from_mapped, mapped, same_least}

-- ---- the entries of a map

abbrev Entries : Type 0
Entries = List (ℕ × Room)

member_value : (es : Entries) (r : Room) → Member r (map (λ e. e.1) es) → (k : ℕ) × Member (k, r) es
member_value [] r m = absurd m
member_value (e ∷ es) r m = elim m [ inl same ↦ (e.0, inl (λ i. (e.0, same i))) | inr later ↦ let found = member_value es r later in (found.0, inr found.1) ]

value_member : (es : Entries) (k : ℕ) (r : Room) → Member (k, r) es → Member r (map (λ e. e.1) es)
value_member [] k r m = absurd m
value_member (e ∷ es) k r m = elim m [ inl same ↦ inl (ap (λ e. e.1) same) | inr later ↦ inr (value_member es k r later) ]

found_member : (es : Entries) (k : ℕ) (r : Room) → fin.find nat_cmp k es ≡ Some r → (q : ℕ) × Member (q, r) es
found_member [] k r h = cc
found_member (e ∷ es) k r h = by (eq_by_cmp nat_cmp k e.0) h (found_member es k r)
  where
    by : (b : Bool) → cond b (Some e.1) (fin.find nat_cmp k es) ≡ Some r → (fin.find nat_cmp k es ≡ Some r → (q : ℕ) × Member (q, r) es) → (q : ℕ) × Member (q, r) (e ∷ es)
    by true g more = (e.0, inl (λ i. (e.0, same_Some r e.1 (sym g) i)))
    by false g more = let found = more g in (found.0, inr found.1)

key_itself : (k : ℕ) → eq_by_cmp nat_cmp k k ≡ true
key_itself k = grind (arith, nat_tests)

is_true : (b : Bool) → T b → b ≡ true
is_true true h = refl
is_true false h = absurd h

first : (a b : Bool) → T (a && b) → T a
first true b h = tt
first false b h = absurd h

second : (a b : Bool) → T (a && b) → T b
second true b h = h
second false b h = absurd h

-- a key is below the keys after it
below_member : (x : ℕ) (es : Entries) (k : ℕ) (r : Room) → T (below_all nat_cmp x es) → Member (k, r) es → T (is_lt (nat_cmp x k))
below_member x [] k r low m = absurd m
below_member x (e ∷ es) k r low m = elim m [
  | inl same ↦ subst (λ (f : ℕ × Room). T (is_lt (nat_cmp x f.0))) (sym same) (first (is_lt (nat_cmp x e.0)) (below_all nat_cmp x es) low)
  | inr later ↦ below_member x es k r (second (is_lt (nat_cmp x e.0)) (below_all nat_cmp x es) low) later
]

apart : (x k : ℕ) → is_lt (nat_cmp x k) ≡ true → eq_by_cmp nat_cmp k x ≡ false
apart x k h = grind (arith, nat_tests)

member_found : (es : Entries) (k : ℕ) (r : Room) → T (fin.is_sorted nat_cmp es) → Member (k, r) es → fin.find nat_cmp k es ≡ Some r
member_found [] k r up m = absurd m
member_found (e ∷ es) k r up m = elim m [
  | inl same ↦ ap (λ (f : ℕ × Room). cond (eq_by_cmp nat_cmp k f.0) (Some f.1) (fin.find nat_cmp k es)) (sym same) ∙ ap (λ b. cond b (Some r) (fin.find nat_cmp k es)) (key_itself k)
  | inr later ↦
      let lower : T (is_lt (nat_cmp e.0 k)) = below_member e.0 es k r (first (below_all nat_cmp e.0 es) (fin.is_sorted nat_cmp es) up) later in
      ap (λ b. cond b (Some e.1) (fin.find nat_cmp k es)) (apart e.0 k (is_true (is_lt (nat_cmp e.0 k)) lower))
      ∙ member_found es k r (second (below_all nat_cmp e.0 es) (fin.is_sorted nat_cmp es) up) later
]

-- ---- the points of views

view_points : (table : ℕ) (vs : List View) → filter_map (λ v. point_over table (room_of v)) vs ≡ filter_map (λ v. v.point) (filter (λ v. v.registered && logs.is_over table v) vs)
view_points table [] = refl
view_points table (v ∷ vs) = by v.registered (logs.is_over table v) v.point (view_points table vs)
  where
    by : (a b : Bool) (o : Option ℕ) → filter_map (λ v. point_over table (room_of v)) vs ≡ filter_map (λ v. v.point) (filter (λ v. v.registered && logs.is_over table v) vs)
        → cons_option (cond b (cond a o None) None) (filter_map (λ v. point_over table (room_of v)) vs)
        ≡ filter_map (λ v. v.point) (cond (a && b) (record v { point = o } ∷ filter (λ v. v.registered && logs.is_over table v) vs) (filter (λ v. v.registered && logs.is_over table v) vs))
    by true true o h = ap (cons_option o) h
    by true false o h = h
    by false true o h = h
    by false false o h = h

-- the view with this number, or none has it
pick : (k : ℕ) (vs : List View) → ((v : View) × Member v vs × (v.def.view ≡ k)) ⊎ All (λ v. v.def.view ≢ k) vs
pick k [] = inr (All-nil (λ v. v.def.view ≢ k))
pick k (v ∷ vs) = by (nat_eq v.def.view k) refl (pick k vs)
  where
    same : (a b : ℕ) → nat_eq a b ≡ true → a ≡ b
    same a b h = grind (arith, nat_tests)

    other : (a b : ℕ) → nat_eq a b ≡ false → a ≢ b
    other a b h = grind (arith, nat_tests)

    by : (b : Bool) → nat_eq v.def.view k ≡ b → ((w : View) × Member w vs × (w.def.view ≡ k)) ⊎ All (λ w. w.def.view ≢ k) vs → ((w : View) × Member w (v ∷ vs) × (w.def.view ≡ k)) ⊎ All (λ w. w.def.view ≢ k) (v ∷ vs)
    by true e rest = inl (v, inl refl, same v.def.view k e)
    by false e rest = elim rest [ inl found ↦ inl (found.0, inr found.1, found.2) | inr none ↦ inr (All-cons (λ w. w.def.view ≢ k) v vs (other v.def.view k e) none) ]

no_point : (table : ℕ) (r : Room) (p : ℕ) → r.point ≡ None → point_over table r ≡ Some p → ⊥
no_point table r p h e = by (has_number r.tables table) e
  where
    by : (b : Bool) → cond b r.point None ≡ Some p → ⊥
    by true g = cc
    by false g = cc

-- ---- the law

module _ (c : Catalog) (rooms : Rooms) (table : ℕ) (stands : StandsFor rooms c.views) where
  there : (p : ℕ) → Member p (filter_map (point_over table) (fin.values rooms)) → Member p (filter_map (λ v. point_over table (room_of v)) c.views)
  there p m =
      let room = from_mapped (point_over table) (fin.values rooms) p m in
      let entry = member_value (fin.entries rooms) room.0 room.1 in
      let has : fin.get rooms entry.0 ≡ Some room.0 = fin.get-entries rooms entry.0 ∙ member_found (fin.entries rooms) entry.0 room.0 (fin.entries_sorted rooms) entry.1 in
      elim (pick entry.0 c.views) [
        | inl v ↦
            let held : fin.get rooms v.0.def.view ≡ Some (room_of v.0) = all_member (λ v. fin.get rooms v.def.view ≡ Some (room_of v)) c.views v.0 stands.held v.1 in
            let same : room_of v.0 ≡ room.0 = same_Some (room_of v.0) room.0 (sym held ∙ ap (fin.get rooms) v.2 ∙ has) in
            mapped (λ v. point_over table (room_of v)) c.views v.0 p v.1 (ap (point_over table) same ∙ room.2)
        | inr none ↦ absurd (no_point table room.0 p (stands.others entry.0 room.0 has none) room.2)
      ]

  back : (p : ℕ) → Member p (filter_map (λ v. point_over table (room_of v)) c.views) → Member p (filter_map (point_over table) (fin.values rooms))
  back p m =
      let v = from_mapped (λ v. point_over table (room_of v)) c.views p m in
      let held : fin.get rooms v.0.def.view ≡ Some (room_of v.0) = all_member (λ v. fin.get rooms v.def.view ≡ Some (room_of v)) c.views v.0 stands.held v.1 in
      let entry = found_member (fin.entries rooms) v.0.def.view (room_of v.0) (sym (fin.get-entries rooms v.0.def.view) ∙ held) in
      mapped (point_over table) (fin.values rooms) (room_of v.0) p (value_member (fin.entries rooms) entry.0 (room_of v.0) entry.1) v.2

by_definition : (c : Catalog) (table : ℕ) (ps : List ℕ) → logs.registered_points c table ≡ ps → least_point c.scn ps ≡ logs.purge_point c table
by_definition c table [] e = rw e refl
by_definition c table (p ∷ ps) e = rw e refl

pub lawful : Laws
lawful = record {
  purges = λ c rooms table stands.
      same_least c.scn _ _ (there c rooms table stands) (back c rooms table stands) ∙ ap (least_point c.scn) (view_points table c.views) ∙ by_definition c table (logs.registered_points c table) refl;
}
