-- What stands at a place of a table.
use Rattle.std.proofs.Common.{◌≡◌, ◌∙◌, sym, ap, refl, subst, ℕ, zero, suc, ◌<◌, Bool, true, false, List, [], ◌∷◌, length, map, Option, None, Some, IsTrue, IsSome, IfSome, IsSomeAnd, ◌↔◌, is_some, slice_get, unwrap_or}
use Rattle.std.proofs.lemmas.Option.{none-some, same_Some}
use Rattle.std.proofs.lemmas.List.{length-map, nil_from_length}
use Rattle.std.specs.List.{All}
use Rattle.wh_base.specs.Lists.{option_case, where_true}
use Rattle.wh_base.specs.Tables.{place_of, places_of}
use Rattle.wh_base.specs.declared.tables.Part.{Part}
use Rattle.wh_base.specs.declared.tables.RowAt.{RowAt}
use Rattle.wh_base.specs.declared.values.Value.{Value}
use Rattle.wh_segment.proofs.Lawful.{lawful}
use Rattle.wh_segment.specs.Versions.{is_visible, row_at, rows_at, visible_at}
use Rattle.wh_segment.specs.declared.version.Version.{Version}
use Rattle.wh_table.specs.Kept.{no_key, no_part, tables_at}
use Rattle.wh_table.specs.Stored.{IsNamed, IsStored, Stored, places_at}
use Rattle.wh_table.proofs.Counting.{each_from, each_get}

places_is : (tables : List Stored) (at n : ℕ) (s : Stored) → slice_get tables n ≡ Some s → places_of (tables_at at tables) n ≡ places_at at s
places_is [] at n s e = absurd (none-some s e)
places_is (t ∷ tables) at zero s e = ap (places_at at) (same_Some t s e)
places_is (t ∷ tables) at (suc n) s e = places_is tables at n s e

at_place : (at : ℕ) (vs : List Version) (place : ℕ) → unwrap_or (slice_get (rows_at at vs) place) None ≡ option_case (slice_get vs place) None (row_at at)
at_place at [] place = refl
at_place at (v ∷ vs) zero = refl
at_place at (v ∷ vs) (suc place) = at_place at vs place

place_is : (tables : List Stored) (at n place : ℕ) (s : Stored) → slice_get tables n ≡ Some s → place_of (tables_at at tables) n place ≡ option_case (slice_get s.versions place) None (row_at at)
place_is tables at n place s e = ap (λ ps. unwrap_or (slice_get ps place) None) (places_is tables at n s e) ∙ at_place at s.versions place

pub within_tables : (tables : List Stored) (at n : ℕ) → n < length (tables_at at tables) → n < length tables
within_tables tables at n h = subst (λ m. n < m) (length-map tables (places_at at)) h

pub places_count : (tables : List Stored) (at n : ℕ) (s : Stored) → slice_get tables n ≡ Some s → length (places_of (tables_at at tables) n) ≡ length s.versions
places_count tables at n s e = ap length (places_is tables at n s e) ∙ length-map s.versions (row_at at)

pub within_places : (tables : List Stored) (at n place : ℕ) (s : Stored) → slice_get tables n ≡ Some s → place < length (places_of (tables_at at tables) n) → place < length s.versions
within_places tables at n place s e h = subst (λ m. place < m) (places_count tables at n s e) h

is_some_iff : (o : Option RowAt) → IsTrue (is_some o) ↔ IsSome o
is_some_iff o = ((λ h. h), (λ h. h))

pub lives_is : (tables : List Stored) (at n place : ℕ) (s : Stored) → slice_get tables n ≡ Some s → IsTrue (visible_at s.versions place at) ↔ IsSome (place_of (tables_at at tables) n place)
lives_is tables at n place s e =
    subst (λ o. IsTrue (visible_at s.versions place at) ↔ IsSome o) (sym (place_is tables at n place s e))
    (subst (λ b. IsTrue b ↔ IsSome (option_case (slice_get s.versions place) None (row_at at))) (sym (lawful.visible s.versions place at ∙ ap is_some (at_place at s.versions place)))
    (is_some_iff (option_case (slice_get s.versions place) None (row_at at))))

-- ---- what the row at a place has of its version

of_version : (at : ℕ) (v : Version) (P : RowAt → Type 0) → ((ws : List Value) → v.values ≡ Some ws → P (record { rowid = v.rowid; mark = v.part; values = ws })) → IfSome (row_at at v) P
of_version at v P h = by v.values (is_visible at v) refl
  where
    by : (values : Option (List Value)) (b : Bool) → v.values ≡ values → IfSome (option_case values None (λ ws. where_true b (record { rowid = v.rowid; mark = v.part; values = ws }))) P
    by None b e = tt
    by (Some ws) true e = h ws e
    by (Some ws) false e = tt

of_place : (at : ℕ) (vs : List Version) (place : ℕ) (P : RowAt → Type 0)
    → ((v : Version) → slice_get vs place ≡ Some v → (ws : List Value) → v.values ≡ Some ws → P (record { rowid = v.rowid; mark = v.part; values = ws }))
    → IfSome (option_case (slice_get vs place) None (row_at at)) P
of_place at vs place P h = by (slice_get vs place) refl
  where
    by : (o : Option Version) → slice_get vs place ≡ o → IfSome (option_case o None (row_at at)) P
    by None e = tt
    by (Some v) e = of_version at v P (h v e)

shown_at : (tables : List Stored) (at n place : ℕ) (s : Stored) (P : RowAt → Type 0) → slice_get tables n ≡ Some s
    → ((v : Version) → slice_get s.versions place ≡ Some v → (ws : List Value) → v.values ≡ Some ws → P (record { rowid = v.rowid; mark = v.part; values = ws }))
    → IfSome (place_of (tables_at at tables) n place) P
shown_at tables at n place s P e h = subst (λ o. IfSome o P) (sym (place_is tables at n place s e)) (of_place at s.versions place P h)

pub rowid_shown : (tables : List Stored) (at n place id : ℕ) (s : Stored) → slice_get tables n ≡ Some s → IfSome (slice_get s.versions place) (λ v. id ≡ v.rowid)
    → IfSome (place_of (tables_at at tables) n place) (λ row. id ≡ row.rowid)
rowid_shown tables at n place id s e h = shown_at tables at n place s (λ row. id ≡ row.rowid) e (λ v f ws g. subst (λ o. IfSome o (λ u. id ≡ u.rowid)) f h)

pub values_shown : (tables : List Stored) (at n place : ℕ) (values : List Value) (s : Stored) → slice_get tables n ≡ Some s → IfSome (slice_get s.versions place) (λ v. v.values ≡ Some values)
    → IfSome (place_of (tables_at at tables) n place) (λ row. values ≡ row.values)
values_shown tables at n place values s e h =
    shown_at tables at n place s (λ row. values ≡ row.values) e
    (λ v f ws g. (let has : v.values ≡ Some values = subst (λ o. IfSome o (λ u. u.values ≡ Some values)) f h in same_Some values ws (sym has ∙ g)))

pub unmarked_shown : (tables : List Stored) (at n place : ℕ) (s : Stored) → All IsStored tables → slice_get tables n ≡ Some s → IfSome (place_of (tables_at at tables) n place) (λ row. 0 ≡ row.mark)
unmarked_shown tables at n place s all e =
    let stored : IsStored s = each_get IsStored tables n s e (each_from IsStored tables all) in
    shown_at tables at n place s (λ row. 0 ≡ row.mark) e
    (λ v f ws g. sym (each_get (IsNamed s.given) s.versions place v f (each_from (IsNamed s.given) s.versions stored.named)).unmarked)

has_values : (at : ℕ) (v : Version) → IsSome {T = RowAt} (row_at at v) → IsSome {T = List Value} v.values
has_values at v h = by v.values (is_visible at v) h
  where
    by : (values : Option (List Value)) (b : Bool) → IsSome {T = RowAt} (option_case values None (λ ws. where_true b (record { rowid = v.rowid; mark = v.part; values = ws }))) → IsSome {T = List Value} values
    by None b h = h
    by (Some ws) b h = refl

there_at : (at : ℕ) (o : Option Version) → IsSome {T = RowAt} (option_case o None (row_at at)) → IsSomeAnd o (λ v. IsSome {T = List Value} v.values)
there_at at None h = cc
there_at at (Some v) h = has_values at v h

pub there_shown : (tables : List Stored) (at n place : ℕ) (s : Stored) → slice_get tables n ≡ Some s → IsSome {T = RowAt} (place_of (tables_at at tables) n place) → IsSomeAnd (slice_get s.versions place) (λ v. IsSome {T = List Value} v.values)
there_shown tables at n place s e h = there_at at (slice_get s.versions place) (subst (λ (o : Option RowAt). IsSome {T = RowAt} o) (place_is tables at n place s e) h)

pub key_is : (tables : List Stored) (n : ℕ) (s : Stored) → slice_get tables n ≡ Some s → slice_get (map no_key tables) n ≡ Some None
key_is [] n s e = absurd (none-some s e)
key_is (t ∷ tables) zero s e = refl
key_is (t ∷ tables) (suc n) s e = key_is tables n s e

pub parts_is : (tables : List Stored) (n : ℕ) (s : Stored) (parts : List Part) → slice_get tables n ≡ Some s → length parts ≡ 0 → slice_get (map no_part tables) n ≡ Some parts
parts_is [] n s parts e none = absurd (none-some s e)
parts_is (t ∷ tables) zero s parts e none = ap Some (sym (nil_from_length parts none))
parts_is (t ∷ tables) (suc n) s parts e none = parts_is tables n s parts e none

pub ruleset reading = (within_tables, places_count, within_places, lives_is, rowid_shown, values_shown, unmarked_shown, there_shown, key_is, parts_is)
