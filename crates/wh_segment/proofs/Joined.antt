-- Chunks as one list: what stands at a place, and what a change of a chunk does to the list.
use Rattle.std.proofs.Common.{◌≡◌, ◌∙◌, sym, ap, subst, refl, List, [], ◌∷◌, ◌++◌, ◌+◌, ◌*◌, ◌-◌, ◌/◌, ◌%◌, ◌<◌, ◌≤◌, Some, None, Option, ℕ, zero, suc, length, slice_get, slice_set, slice_index_or, nat_lt, true, false, append_assoc, length-append, arith}
use Rattle.std.proofs.lemmas.Bool.Decides.{Decides-ltb}
use Rattle.std.proofs.lemmas.List.{set-append_left, set-append_right, length-set}
use Rattle.std.proofs.lemmas.Option.{slice_get_past, slice_get_within, slice_get-get_or}
use Rattle.std.proofs.Math.Nat.{div-add-mod}
use Rattle.wh_base.specs.Lists.{joined_lists}
use Rattle.wh_segment.specs.Chunks.{AreChunks, AreChunksOf, last_has_room}

append_none : {T : Type 0} (xs : List T) → xs ++ [] ≡ xs
append_none [] = refl
append_none (x ∷ xs) = ap (λ ys. x ∷ ys) (append_none xs)

pub get_left : {T : Type 0} (xs ys : List T) (i : ℕ) → i < length xs → slice_get (xs ++ ys) i ≡ slice_get xs i
get_left [] ys i h = absurd (omega arith)
get_left (x ∷ xs) ys zero h = refl
get_left (x ∷ xs) ys (suc i) h = get_left xs ys i (omega arith)

pub get_right : {T : Type 0} (xs ys : List T) (i j : ℕ) → j ≡ length xs + i → slice_get (xs ++ ys) j ≡ slice_get ys i
get_right [] ys i j e = let same : j ≡ i = omega arith in ap (slice_get ys) same
get_right (x ∷ xs) ys i zero e = absurd (omega arith)
get_right (x ∷ xs) ys i (suc j) e = get_right xs ys i j (omega arith)

-- ---- what stands at a place

in_chunk : {T : Type 0} → Option (List T) → ℕ → Option T
in_chunk None k = None
in_chunk (Some c) k = slice_get c k

at_offset : {T : Type 0} (cs : List (List T)) (i k p : ℕ) → AreChunks cs → k < 1024 → p ≡ 1024 * i + k → slice_get (joined_lists cs) p ≡ in_chunk (slice_get cs i) k
unfolding in_chunk
at_offset [] i k p full h e = refl
at_offset (c ∷ []) zero k p full h e = let same : p ≡ k = omega arith in ap (λ xs. slice_get xs p) (append_none c) ∙ ap (slice_get c) same
at_offset (c ∷ []) (suc i) k p full h e = ap (λ xs. slice_get xs p) (append_none c) ∙ slice_get_past c p (omega arith)
at_offset (c ∷ d ∷ cs) zero k p full h e =
    let size = full.0 in
    let same : p ≡ k = omega arith in
    get_left c (joined_lists (d ∷ cs)) p (omega arith) ∙ ap (slice_get c) same
at_offset (c ∷ d ∷ cs) (suc i) k p full h e =
    let size = full.0 in
    get_right c (joined_lists (d ∷ cs)) (1024 * i + k) p (omega arith) ∙ at_offset (d ∷ cs) i k (1024 * i + k) full.1 h refl

at_place : {T : Type 0} (cs : List (List T)) (p : ℕ) → AreChunks cs → slice_get (joined_lists cs) p ≡ in_chunk (slice_get cs (p / 1024)) (p % 1024)
at_place cs p full = at_offset cs (p / 1024) (p % 1024) p full (omega arith) (sym (div-add-mod p 1024))

pub found_in : {T : Type 0} (cs : List (List T)) (p : ℕ) (c : List T) → AreChunks cs → slice_get cs (p / 1024) ≡ Some c → slice_get (joined_lists cs) p ≡ slice_get c (p % 1024)
unfolding in_chunk
found_in cs p c full there = at_place cs p full ∙ ap (λ o. in_chunk o (p % 1024)) there

pub found_nowhere : {T : Type 0} (cs : List (List T)) (p : ℕ) → AreChunks cs → slice_get cs (p / 1024) ≡ None → slice_get (joined_lists cs) p ≡ None
unfolding in_chunk
found_nowhere cs p full none = at_place cs p full ∙ ap (λ o. in_chunk o (p % 1024)) none

in_bounds : {T : Type 0} (cs : List (List T)) (i k p : ℕ) → AreChunks cs → p ≡ 1024 * i + k → p < length (joined_lists cs) → i < length cs
in_bounds [] i k p full e h = absurd (omega arith)
in_bounds (c ∷ []) zero k p full e h = omega arith
in_bounds (c ∷ []) (suc i) k p full e h = let all = length-append c [] in absurd (omega (arith, all, full, e, h))
in_bounds (c ∷ d ∷ cs) zero k p full e h = omega arith
in_bounds (c ∷ d ∷ cs) (suc i) k p full e h =
    let all = length-append c (joined_lists (d ∷ cs)) in
    let size = full.0 in
    let rest : 1024 * i + k < length (joined_lists (d ∷ cs)) = omega (arith, all, size, e, h) in
    let more = in_bounds (d ∷ cs) i k (1024 * i + k) full.1 refl rest in
    omega (arith, more)

pub chunk_there : {T : Type 0} (cs : List (List T)) (p : ℕ) → AreChunks cs → p < length (joined_lists cs) → p / 1024 < length cs
chunk_there cs p full h = in_bounds cs (p / 1024) (p % 1024) p full (sym (div-add-mod p 1024)) h

-- the chunk with this index
pub chunk_is : {T : Type 0} (cs : List (List T)) (i : ℕ) (c : List T) → i < length cs → c ≡ slice_index_or cs i c → slice_get cs i ≡ Some c
chunk_is cs i c h is = slice_get-get_or cs i c h ∙ ap Some (sym is)

get_some : {T : Type 0} (xs : List T) (i : ℕ) → i < length xs → (x : T) × (slice_get xs i ≡ Some x)
get_some [] i h = absurd (omega arith)
get_some (x ∷ xs) zero h = (x, refl)
get_some (x ∷ xs) (suc i) h = get_some xs i (omega arith)

pub offset_there : {T : Type 0} (cs : List (List T)) (p : ℕ) (c : List T) → AreChunks cs → p < length (joined_lists cs) → slice_get cs (p / 1024) ≡ Some c → p % 1024 < length c
offset_there cs p c full h there = let some = get_some (joined_lists cs) p h in slice_get_within c (p % 1024) some.0 (sym (found_in cs p c full there) ∙ some.1)

-- ---- an item put at a place

put_at_offset : {T : Type 0} (cs : List (List T)) (i k p : ℕ) (c : List T) (x : T) → AreChunks cs → k < length c → slice_get cs i ≡ Some c → p ≡ 1024 * i + k
    → joined_lists (slice_set cs i (slice_set c k x)) ≡ slice_set (joined_lists cs) p x
put_at_offset [] i k p c x full h there e = cc
put_at_offset (d ∷ cs) zero k p c x full h there e =
    let same : c ≡ d = cc in
    let as_long : length c ≡ length d = ap length same in
    let at : k ≡ p = omega arith in
    (λ j. slice_set (same j) (at j) x ++ joined_lists cs) ∙ sym (set-append_left d (joined_lists cs) p x (omega arith))
put_at_offset (d ∷ []) (suc i) k p c x full h there e = cc
put_at_offset (d ∷ b ∷ cs) (suc i) k p c x full h there e =
    let size = full.0 in
    let rest : 1024 * i + k ≡ p - 1024 = omega arith in
    ap (λ xs. d ++ xs) (put_at_offset (b ∷ cs) i k (1024 * i + k) c x full.1 h there refl)
    ∙ ap (λ q. d ++ slice_set (joined_lists (b ∷ cs)) q x) rest
    ∙ sym (set-append_right d (joined_lists (b ∷ cs)) 1024 p x size (omega arith))

pub put_at_place : {T : Type 0} (cs : List (List T)) (p : ℕ) (c : List T) (x : T) → AreChunks cs → p < length (joined_lists cs) → slice_get cs (p / 1024) ≡ Some c
    → joined_lists (slice_set cs (p / 1024) (slice_set c (p % 1024) x)) ≡ slice_set (joined_lists cs) p x
put_at_place cs p c x full h there = put_at_offset cs (p / 1024) (p % 1024) p c x full (offset_there cs p c full h there) there (sym (div-add-mod p 1024))

-- a chunk as long in its place
pub full_set : {T : Type 0} (cs : List (List T)) (i : ℕ) (c e : List T) → AreChunks cs → slice_get cs i ≡ Some c → length e ≡ length c → AreChunks (slice_set cs i e)
full_set [] i c e full there as_long = full
full_set (d ∷ []) zero c e full there as_long = let same : c ≡ d = cc in let sizes : length c ≡ length d = ap length same in omega arith
full_set (d ∷ []) (suc i) c e full there as_long = full
full_set (d ∷ b ∷ cs) zero c e full there as_long = let same : c ≡ d = cc in let sizes : length c ≡ length d = ap length same in let size = full.0 in (omega arith, full.1)
full_set (d ∷ b ∷ cs) (suc zero) c e full there as_long = (full.0, full_set (b ∷ cs) zero c e full.1 there as_long)
full_set (d ∷ b ∷ cs) (suc (suc i)) c e full there as_long = (full.0, full_set (b ∷ cs) (suc i) c e full.1 there as_long)

-- ---- an item more

pub room_of_last : {T : Type 0} (cs : List (List T)) (i : ℕ) (c : List T) → suc i ≡ length cs → slice_get cs i ≡ Some c → last_has_room cs ≡ nat_lt (length c) 1024
room_of_last [] i c e there = cc
room_of_last (d ∷ []) zero c e there = let same : d ≡ c = cc in ap (λ xs. nat_lt (length xs) 1024) same
room_of_last (d ∷ []) (suc i) c e there = cc
room_of_last (d ∷ b ∷ cs) zero c e there = absurd (omega arith)
room_of_last (d ∷ b ∷ cs) (suc i) c e there = room_of_last (b ∷ cs) i c (omega arith) there

pub room_there : {T : Type 0} (cs : List (List T)) → last_has_room cs ≡ true → 0 < length cs
room_there [] room = cc
room_there (c ∷ cs) room = omega arith

pub put_last : {T : Type 0} (cs : List (List T)) (i : ℕ) (c : List T) (x : T) → suc i ≡ length cs → slice_get cs i ≡ Some c
    → joined_lists (slice_set cs i (c ++ x ∷ [])) ≡ joined_lists cs ++ x ∷ []
put_last [] i c x e there = cc
put_last (d ∷ []) zero c x e there = let same : c ≡ d = cc in append_none (c ++ x ∷ []) ∙ (λ j. same j ++ x ∷ []) ∙ ap (λ xs. xs ++ x ∷ []) (sym (append_none d))
put_last (d ∷ []) (suc i) c x e there = cc
put_last (d ∷ b ∷ cs) zero c x e there = absurd (omega arith)
put_last (d ∷ b ∷ cs) (suc i) c x e there = ap (λ xs. d ++ xs) (put_last (b ∷ cs) i c x (omega arith) there) ∙ sym (append_assoc d (joined_lists (b ∷ cs)) (x ∷ []))

pub full_last : {T : Type 0} (cs : List (List T)) (i : ℕ) (c : List T) (x : T) → AreChunks cs → last_has_room cs ≡ true → suc i ≡ length cs → slice_get cs i ≡ Some c
    → AreChunks (slice_set cs i (c ++ x ∷ []))
full_last [] i c x full room e there = cc
full_last (d ∷ []) zero c x full room e there =
    let same : c ≡ d = cc in
    let sizes : length c ≡ length d = ap length same in
    let less : length d < 1024 = (Decides-ltb (length d) 1024).0 room in
    let more = length-append c (x ∷ []) in
    omega (arith, sizes, less, more)
full_last (d ∷ []) (suc i) c x full room e there = cc
full_last (d ∷ b ∷ cs) zero c x full room e there = absurd (omega arith)
full_last (d ∷ b ∷ cs) (suc zero) c x full room e there = (full.0, full_last (b ∷ cs) zero c x full.1 room (omega arith) there)
full_last (d ∷ b ∷ cs) (suc (suc i)) c x full room e there = (full.0, full_last (b ∷ cs) (suc i) c x full.1 room (omega arith) there)

pub joined_push : {T : Type 0} (cs : List (List T)) (c : List T) → joined_lists (cs ++ c ∷ []) ≡ joined_lists cs ++ c
joined_push [] c = append_none c
joined_push (d ∷ cs) c = ap (λ xs. d ++ xs) (joined_push cs c) ∙ sym (append_assoc d (joined_lists cs) c)

pub full_push : {T : Type 0} (cs : List (List T)) (x : T) → AreChunks cs → last_has_room cs ≡ false → AreChunks (cs ++ (x ∷ []) ∷ [])
full_push [] x full room = omega arith
full_push (c ∷ []) x full room = let most : (length c < 1024) → ⊥ = λ less. (let yes = (Decides-ltb (length c) 1024).1 less in let no : true ≡ false = sym yes ∙ room in cc) in (grind (arith, Decides-ltb (length c) 1024), omega arith)
full_push (c ∷ d ∷ cs) x full room = (full.0, full_push (d ∷ cs) x full.1 room)

pub room_at_last : {T : Type 0} (cs : List (List T)) (c : List T) → Some c ≡ slice_get cs (length cs - 1) → last_has_room cs ≡ nat_lt (length c) 1024
room_at_last [] c e = cc
room_at_last (d ∷ cs) c e = let last : suc (length (d ∷ cs) - 1) ≡ length (d ∷ cs) = omega arith in room_of_last (d ∷ cs) (length (d ∷ cs) - 1) c last (sym e)

-- ---- the same by the words of the calls

pub found_is : {T : Type 0} (cs xs : List (List T)) (p : ℕ) (c : List T) → xs ≡ cs → AreChunks cs → p / 1024 < length xs → c ≡ slice_index_or xs (p / 1024) c
    → slice_get c (p % 1024) ≡ slice_get (joined_lists cs) p
found_is cs xs p c same full h is =
    sym (found_in cs p c full (subst (λ ys. slice_get ys (p / 1024) ≡ Some c) same (chunk_is xs (p / 1024) c h is)))

pub lost_is : {T : Type 0} (cs xs : List (List T)) (p : ℕ) → xs ≡ cs → AreChunks cs → length xs ≤ p / 1024 → None ≡ slice_get (joined_lists cs) p
lost_is cs xs p same full h = sym (found_nowhere cs p full (slice_get_past cs (p / 1024) (subst (λ ys. length ys ≤ p / 1024) same h)))

pub offset_is : {T : Type 0} (cs : List (List T)) (p : ℕ) (c : List T) → AreChunks cs → p < length (joined_lists cs) → c ≡ slice_index_or cs (p / 1024) c → p % 1024 < length c
offset_is cs p c full h is = offset_there cs p c full h (chunk_is cs (p / 1024) c (chunk_there cs p full h) is)

pub set_list : {T : Type 0} (cs : List (List T)) (p : ℕ) (c e : List T) (x : T) → AreChunks cs → p < length (joined_lists cs) → c ≡ slice_index_or cs (p / 1024) c → e ≡ slice_set c (p % 1024) x
    → joined_lists (slice_set cs (p / 1024) e) ≡ slice_set (joined_lists cs) p x
set_list cs p c e x full h is changed =
    ap (λ d. joined_lists (slice_set cs (p / 1024) d)) changed ∙ put_at_place cs p c x full h (chunk_is cs (p / 1024) c (chunk_there cs p full h) is)

pub set_chunks : {T : Type 0} (count : ℕ) (cs : List (List T)) (p : ℕ) (c e : List T) (x : T) → AreChunksOf count cs → p < length (joined_lists cs) → c ≡ slice_index_or cs (p / 1024) c
    → e ≡ slice_set c (p % 1024) x → AreChunksOf count (slice_set cs (p / 1024) e)
set_chunks count cs p c e x of h is changed = record {
  all = of.all ∙ sym (ap length (set_list cs p c e x of.full h is changed) ∙ length-set (joined_lists cs) p x);
  few = of.few;
  full = full_set cs (p / 1024) c e of.full (chunk_is cs (p / 1024) c (chunk_there cs p of.full h) is) (ap length changed ∙ length-set c (p % 1024) x);
}

-- the last chunk with an item more
pub last_list : {T : Type 0} (cs : List (List T)) (n : ℕ) (c e : List T) (x : T) → last_has_room cs ≡ true → n ≡ length cs → c ≡ slice_index_or cs (n - 1) c → e ≡ c ++ x ∷ []
    → joined_lists (slice_set cs (n - 1) e) ≡ joined_lists cs ++ x ∷ []
last_list cs n c e x room as_long is changed =
    let some = room_there cs room in
    let last : suc (n - 1) ≡ length cs = omega (arith, some, as_long) in
    ap (λ d. joined_lists (slice_set cs (n - 1) d)) changed ∙ put_last cs (n - 1) c x last (chunk_is cs (n - 1) c (omega (arith, last)) is)

pub last_chunks : {T : Type 0} (cs : List (List T)) (n : ℕ) (c e : List T) (x : T) → AreChunks cs → last_has_room cs ≡ true → n ≡ length cs → c ≡ slice_index_or cs (n - 1) c → e ≡ c ++ x ∷ []
    → AreChunks (slice_set cs (n - 1) e)
last_chunks cs n c e x full room as_long is changed =
    let some = room_there cs room in
    let last : suc (n - 1) ≡ length cs = omega (arith, some, as_long) in
    subst (λ d. AreChunks (slice_set cs (n - 1) d)) (sym changed) (full_last cs (n - 1) c x full room last (chunk_is cs (n - 1) c (omega (arith, last)) is))

-- a chunk more, of one item
pub new_list : {T : Type 0} (cs ds : List (List T)) (c : List T) (x : T) → c ≡ x ∷ [] → ds ≡ cs ++ c ∷ [] → joined_lists ds ≡ joined_lists cs ++ x ∷ []
new_list cs ds c x one more = ap joined_lists more ∙ joined_push cs c ∙ ap (λ d. joined_lists cs ++ d) one

pub new_chunks : {T : Type 0} (cs ds : List (List T)) (c : List T) (x : T) → AreChunks cs → last_has_room cs ≡ false → c ≡ x ∷ [] → ds ≡ cs ++ c ∷ [] → AreChunks ds
new_chunks cs ds c x full room one more = subst AreChunks (sym (more ∙ ap (λ d. cs ++ d ∷ []) one)) (full_push cs x full room)
