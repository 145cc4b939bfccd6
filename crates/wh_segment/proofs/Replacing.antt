-- An item put at a place of the list in chunks, and one more at its end.
use Rattle.std.proofs.Common.{Result, Ok, Err, OnErr, take, drop, ◌≡◌, ◌∙◌, sym, ap, subst, refl, List, [], ◌∷◌, ◌++◌, ◌+◌, ◌/◌, ◌%◌, ◌<◌, ◌≤◌, Some, ℕ, zero, suc, length, slice_get, slice_set, slice_index_or, nat_lt, true, false, append_assoc, length-append, arith}
use Rattle.std.proofs.lemmas.Bool.Decides.{Decides-ltb}
use Rattle.std.proofs.lemmas.List.{set-get_or, set-append_left, length-set, length_push}
use Rattle.std.proofs.lemmas.Option.{slice_get-get_or}
use Rattle.wh_base.specs.Lists.{joined_lists}
use Rattle.wh_segment.specs.Chunks.{AreChunks, AreChunksOf, last_has_room}
use Rattle.wh_segment.proofs.Joined.{chunk_is, chunk_there, full_set, get_left, get_right, joined_push, new_chunks, new_list, offset_is, offset_there, put_at_place}

-- ---- where the last chunk is full

room_set : {T : Type 0} (cs : List (List T)) (i : ℕ) (c e : List T) → slice_get cs i ≡ Some c → length e ≡ length c → last_has_room (slice_set cs i e) ≡ last_has_room cs
room_set [] i c e there as_long = refl
room_set (d ∷ []) zero c e there as_long = let same : c ≡ d = cc in ap (λ n. nat_lt n 1024) (as_long ∙ ap length same)
room_set (d ∷ []) (suc i) c e there as_long = refl
room_set (d ∷ b ∷ cs) zero c e there as_long = refl
room_set (d ∷ b ∷ cs) (suc zero) c e there as_long = room_set (b ∷ cs) zero c e there as_long
room_set (d ∷ b ∷ cs) (suc (suc i)) c e there as_long = room_set (b ∷ cs) (suc i) c e there as_long

added_list : {T : Type 0} (cs ds : List (List T)) (c e a : List T) (p : ℕ) (x m : T) → AreChunks cs → p < length (joined_lists cs) → c ≡ slice_index_or cs (p / 1024) c → e ≡ slice_set c (p % 1024) x
    → a ≡ m ∷ [] → ds ≡ slice_set cs (p / 1024) e ++ a ∷ [] → joined_lists ds ≡ slice_set (joined_lists cs) p x ++ m ∷ []
added_list cs ds c e a p x m full h is changed one more =
    let there : slice_get cs (p / 1024) ≡ Some c = chunk_is cs (p / 1024) c (chunk_there cs p full h) is in
    new_list (slice_set cs (p / 1024) e) ds a m one more
    ∙ ap (λ d. joined_lists (slice_set cs (p / 1024) d) ++ m ∷ []) changed
    ∙ ap (λ xs. xs ++ m ∷ []) (put_at_place cs p c x full h there)

added_chunks : {T : Type 0} (cs ds : List (List T)) (c e a : List T) (p : ℕ) (x m : T) → AreChunks cs → p < length (joined_lists cs) → last_has_room cs ≡ false → c ≡ slice_index_or cs (p / 1024) c → e ≡ slice_set c (p % 1024) x
    → a ≡ m ∷ [] → ds ≡ slice_set cs (p / 1024) e ++ a ∷ [] → AreChunks ds
added_chunks cs ds c e a p x m full h none is changed one more =
    let there : slice_get cs (p / 1024) ≡ Some c = chunk_is cs (p / 1024) c (chunk_there cs p full h) is in
    let as_long : length e ≡ length c = ap length changed ∙ length-set c (p % 1024) x in
    new_chunks (slice_set cs (p / 1024) e) ds a m (full_set cs (p / 1024) c e full there as_long) (room_set cs (p / 1024) c e there as_long ∙ none) one more

-- the same by the words of the calls
pub added_offset : {T : Type 0} (cs ws : List (List T)) (c : List T) (p : ℕ) → AreChunks cs → p < length (joined_lists cs) → ws ≡ cs → c ≡ slice_index_or ws (p / 1024) c → p % 1024 < length c
added_offset cs ws c p full h same is = offset_is cs p c full h (subst (λ xs. c ≡ slice_index_or xs (p / 1024) c) same is)

pub added_is : {T : Type 0} (cs ws ds : List (List T)) (c e a : List T) (p : ℕ) (x m : T) → AreChunks cs → p < length (joined_lists cs) → ws ≡ cs → c ≡ slice_index_or ws (p / 1024) c → e ≡ slice_set c (p % 1024) x
    → a ≡ m ∷ [] → ds ≡ slice_set ws (p / 1024) e ++ a ∷ [] → joined_lists ds ≡ slice_set (joined_lists cs) p x ++ m ∷ []
added_is cs ws ds c e a p x m full h same is changed one more =
    added_list cs ds c e a p x m full h (subst (λ xs. c ≡ slice_index_or xs (p / 1024) c) same is) changed one (more ∙ ap (λ xs. slice_set xs (p / 1024) e ++ a ∷ []) same)

pub added_full : {T : Type 0} (cs ws ds : List (List T)) (c e a : List T) (p : ℕ) (x m : T) → AreChunks cs → p < length (joined_lists cs) → last_has_room cs ≡ false → ws ≡ cs → c ≡ slice_index_or ws (p / 1024) c
    → e ≡ slice_set c (p % 1024) x → a ≡ m ∷ [] → ds ≡ slice_set ws (p / 1024) e ++ a ∷ [] → AreChunks ds
added_full cs ws ds c e a p x m full h none same is changed one more =
    added_chunks cs ds c e a p x m full h none (subst (λ xs. c ≡ slice_index_or xs (p / 1024) c) same is) changed one (more ∙ ap (λ xs. slice_set xs (p / 1024) e ++ a ∷ []) same)

-- ---- where it isn't

room_last : {T : Type 0} (cs : List (List T)) (l : List T) → last_has_room (cs ++ l ∷ []) ≡ nat_lt (length l) 1024
room_last [] l = refl
room_last (c ∷ []) l = refl
room_last (c ∷ d ∷ cs) l = room_last (d ∷ cs) l

less_last : {T : Type 0} (cs : List (List T)) (l : List T) → last_has_room (cs ++ l ∷ []) ≡ true → length l < 1024
less_last cs l room = (Decides-ltb (length l) 1024).0 (sym (room_last cs l) ∙ room)

grown : {T : Type 0} (cs : List (List T)) (l : List T) (m : T) → AreChunks (cs ++ l ∷ []) → length l < 1024 → AreChunks (cs ++ (l ++ m ∷ []) ∷ [])
grown [] l m full less = let more = length-append l (m ∷ []) in omega (arith, more, less)
grown (c ∷ []) l m full less = (full.0, grown [] l m full.1 less)
grown (c ∷ d ∷ cs) l m full less = (full.0, grown (d ∷ cs) l m full.1 less)

joined_grown : {T : Type 0} (cs : List (List T)) (l : List T) (m : T) → joined_lists (cs ++ (l ++ m ∷ []) ∷ []) ≡ joined_lists (cs ++ l ∷ []) ++ m ∷ []
joined_grown cs l m = joined_push cs (l ++ m ∷ []) ∙ sym (append_assoc (joined_lists cs) l (m ∷ [])) ∙ ap (λ xs. xs ++ m ∷ []) (sym (joined_push cs l))

-- the item stands in another chunk than the last
in_other : {T : Type 0} (cs : List (List T)) (l d : List T) (i : ℕ) → i < length cs → slice_get (cs ++ l ∷ []) i ≡ Some (slice_index_or cs i d)
in_other cs l d i less = get_left cs (l ∷ []) i less ∙ slice_get-get_or cs i d less

pub other_offset : {T : Type 0} (d : List T) (cs : List (List T)) (l : List T) (p : ℕ) → AreChunks (cs ++ l ∷ []) → p < length (joined_lists (cs ++ l ∷ [])) → p / 1024 < length cs
    → p % 1024 < length (slice_index_or cs (p / 1024) d)
other_offset d cs l p full h less = offset_there (cs ++ l ∷ []) p (slice_index_or cs (p / 1024) d) full h (in_other cs l d (p / 1024) less)

pub other_list : {T : Type 0} (d : List T) (cs : List (List T)) (l k e : List T) (p : ℕ) (x m : T) → AreChunks (cs ++ l ∷ []) → p < length (joined_lists (cs ++ l ∷ [])) → p / 1024 < length cs
    → e ≡ slice_set (slice_index_or cs (p / 1024) d) (p % 1024) x → k ≡ l ++ m ∷ [] → joined_lists (slice_set cs (p / 1024) e ++ k ∷ []) ≡ slice_set (joined_lists (cs ++ l ∷ [])) p x ++ m ∷ []
other_list d cs l k e p x m full h less changed more =
    ap (λ b. joined_lists (slice_set cs (p / 1024) e ++ b ∷ [])) more
    ∙ joined_grown (slice_set cs (p / 1024) e) l m
    ∙ ap (λ ds. joined_lists ds ++ m ∷ []) (sym (set-append_left cs (l ∷ []) (p / 1024) e less))
    ∙ ap (λ b. joined_lists (slice_set (cs ++ l ∷ []) (p / 1024) b) ++ m ∷ []) changed
    ∙ ap (λ xs. xs ++ m ∷ []) (put_at_place (cs ++ l ∷ []) p (slice_index_or cs (p / 1024) d) x full h (in_other cs l d (p / 1024) less))

pub other_chunks : {T : Type 0} (d : List T) (cs : List (List T)) (l k e : List T) (p : ℕ) (x m : T) → AreChunks (cs ++ l ∷ []) → last_has_room (cs ++ l ∷ []) ≡ true → p / 1024 < length cs
    → e ≡ slice_set (slice_index_or cs (p / 1024) d) (p % 1024) x → k ≡ l ++ m ∷ [] → AreChunks (slice_set cs (p / 1024) e ++ k ∷ [])
other_chunks {T = T} d cs l k e p x m full room less changed more =
    let c : List T = slice_index_or cs (p / 1024) d in
    let as_long : length e ≡ length c = ap length changed ∙ length-set c (p % 1024) x in
    let set : AreChunks (slice_set cs (p / 1024) e ++ l ∷ []) =
    subst AreChunks (set-append_left cs (l ∷ []) (p / 1024) e less) (full_set (cs ++ l ∷ []) (p / 1024) c e full (in_other cs l d (p / 1024) less) as_long) in
    subst (λ b. AreChunks (slice_set cs (p / 1024) e ++ b ∷ [])) (sym more) (grown (slice_set cs (p / 1024) e) l m set (less_last cs l room))

-- the item stands in the last chunk
last_index : {T : Type 0} (cs : List (List T)) (l : List T) (p : ℕ) → AreChunks (cs ++ l ∷ []) → p < length (joined_lists (cs ++ l ∷ [])) → length cs ≤ p / 1024 → p / 1024 ≡ length cs
last_index cs l p full h past =
    let below : p / 1024 < length (cs ++ l ∷ []) = chunk_there (cs ++ l ∷ []) p full h in
    let pushed : length (cs ++ l ∷ []) ≡ length cs + 1 = length_push cs l in
    omega (arith, below, pushed, past)

in_last : {T : Type 0} (cs : List (List T)) (l : List T) (i : ℕ) → i ≡ length cs → slice_get (cs ++ l ∷ []) i ≡ Some l
in_last cs l i e = get_right cs (l ∷ []) 0 i (omega (arith, e))

set_last : {T : Type 0} (cs : List (List T)) (l k : List T) (i : ℕ) → i ≡ length cs → slice_set (cs ++ l ∷ []) i k ≡ cs ++ k ∷ []
set_last [] l k zero e = refl
set_last [] l k (suc i) e = absurd (omega (arith, e))
set_last (c ∷ cs) l k zero e = absurd (omega (arith, e))
set_last (c ∷ cs) l k (suc i) e = ap (λ ds. c ∷ ds) (set_last cs l k i (omega (arith, e)))

pub last_offset : {T : Type 0} (cs : List (List T)) (l : List T) (p : ℕ) → AreChunks (cs ++ l ∷ []) → p < length (joined_lists (cs ++ l ∷ [])) → length cs ≤ p / 1024 → p % 1024 < length l
last_offset cs l p full h past = offset_there (cs ++ l ∷ []) p l full h (in_last cs l (p / 1024) (last_index cs l p full h past))

pub last_put_list : {T : Type 0} (cs : List (List T)) (l k : List T) (p : ℕ) (x m : T) → AreChunks (cs ++ l ∷ []) → p < length (joined_lists (cs ++ l ∷ [])) → length cs ≤ p / 1024
    → k ≡ slice_set l (p % 1024) x ++ m ∷ [] → joined_lists (cs ++ k ∷ []) ≡ slice_set (joined_lists (cs ++ l ∷ [])) p x ++ m ∷ []
last_put_list cs l k p x m full h past more =
    let at : p / 1024 ≡ length cs = last_index cs l p full h past in
    ap (λ d. joined_lists (cs ++ d ∷ [])) more
    ∙ joined_grown cs (slice_set l (p % 1024) x) m
    ∙ ap (λ ds. joined_lists ds ++ m ∷ []) (sym (set_last cs l (slice_set l (p % 1024) x) (p / 1024) at))
    ∙ ap (λ xs. xs ++ m ∷ []) (put_at_place (cs ++ l ∷ []) p l x full h (in_last cs l (p / 1024) at))

pub last_put_chunks : {T : Type 0} (cs : List (List T)) (l k : List T) (p : ℕ) (x m : T) → AreChunks (cs ++ l ∷ []) → p < length (joined_lists (cs ++ l ∷ [])) → last_has_room (cs ++ l ∷ []) ≡ true → length cs ≤ p / 1024
    → k ≡ slice_set l (p % 1024) x ++ m ∷ [] → AreChunks (cs ++ k ∷ [])
last_put_chunks cs l k p x m full h room past more =
    let at : p / 1024 ≡ length cs = last_index cs l p full h past in
    let as_long : length (slice_set l (p % 1024) x) ≡ length l = length-set l (p % 1024) x in
    let set : AreChunks (cs ++ slice_set l (p % 1024) x ∷ []) =
    subst AreChunks (set_last cs l (slice_set l (p % 1024) x) (p / 1024) at) (full_set (cs ++ l ∷ []) (p / 1024) l (slice_set l (p % 1024) x) full (in_last cs l (p / 1024) at) as_long) in
    let less : length l < 1024 = less_last cs l room in
    subst (λ d. AreChunks (cs ++ d ∷ [])) (sym more) (grown cs (slice_set l (p % 1024) x) m set (omega (arith, less, as_long)))

-- ---- the same by the words of the calls

-- a slice written back into its vector
front : {T : Type 0} (ys zs : List T) (n : ℕ) → n ≡ length ys → take n (ys ++ zs) ≡ ys
front [] zs zero e = refl
front [] zs (suc n) e = absurd (omega arith)
front (y ∷ ys) zs zero e = absurd (omega arith)
front (y ∷ ys) zs (suc n) e = ap (λ l. y ∷ l) (front ys zs n (omega arith))

pub back_list : {T : Type 0} (cs ws ds : List (List T)) (n p : ℕ) (x m : T) → n ≡ length ds → ws ≡ cs → joined_lists ds ≡ slice_set (joined_lists ws) p x ++ m ∷ []
    → joined_lists (take n (ds ++ drop (length ds) cs)) ≡ slice_set (joined_lists cs) p x ++ m ∷ []
back_list cs ws ds n p x m long same put = ap joined_lists (front ds (drop (length ds) cs) n long) ∙ put ∙ ap (λ xs. slice_set (joined_lists xs) p x ++ m ∷ []) same

pub back_full : {T : Type 0} (cs ds : List (List T)) (n : ℕ) → n ≡ length ds → AreChunks ds → AreChunks (take n (ds ++ drop (length ds) cs))
back_full cs ds n long full = subst AreChunks (sym (front ds (drop (length ds) cs) n long)) full

pub back_same : {T : Type 0} (cs ws ds : List (List T)) (n : ℕ) → n ≡ length ds → ws ≡ cs → ds ≡ ws → take n (ds ++ drop (length ds) cs) ≡ cs
back_same cs ws ds n long same kept = front ds (drop (length ds) cs) n long ∙ kept ∙ same

pub same_full : {T : Type 0} (cs ws : List (List T)) → ws ≡ cs → AreChunks cs → AreChunks ws
same_full cs ws same full = subst AreChunks (sym same) full

pub same_there : {T : Type 0} (cs ws : List (List T)) (p : ℕ) → ws ≡ cs → p < length (joined_lists cs) → p < length (joined_lists ws)
same_there cs ws p same h = subst (λ xs. p < length (joined_lists xs)) (sym same) h

-- one item put and one more, with the count
pub counted_put : {T : Type 0} (count : ℕ) (cs ds : List (List T)) (p : ℕ) (x m : T) → AreChunksOf count cs → count < 4294967295 → joined_lists ds ≡ slice_set (joined_lists cs) p x ++ m ∷ [] → AreChunks ds
    → AreChunksOf (count + 1) ds
counted_put count cs ds p x m of less put full =
    let sizes = ap length put in
    let more = length-append (slice_set (joined_lists cs) p x) (m ∷ []) in
    let set = length-set (joined_lists cs) p x in
    record {
      all = omega (arith, of.all, sizes, more, set);
      few = omega (arith, less);
      full = full;
    }

-- what a call that fails leaves
pub on_err : {A E P : Type 0} (r : Result A E) → P → OnErr r P
on_err (Ok a) p = tt
on_err (Err e) p = p

-- an item put where it stands
pub set_kept : {T : Type 0} (d : List T) (cs : List (List T)) (i : ℕ) (e : List T) → e ≡ slice_index_or cs i d → slice_set cs i e ≡ cs
set_kept d cs i e kept = ap (slice_set cs i) kept ∙ set-get_or cs i d
