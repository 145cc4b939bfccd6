-- The names between commas, one piece after another.
use Rattle.std.proofs.Common.{◌≡◌, ℕ, ◌+◌, ◌<◌, ◌≤◌, suc, List, [], ◌∷◌, ◌++◌, length, drop, take, Bool, true, false, Option, Some, None, Ok, cond, refl, ap, sym, ◌∙◌, append_assoc, arith, map}
use Rattle.std.proofs.lemmas.Bool.Decides.{nat_tests}
use Rattle.std.proofs.lemmas.List.{length-append, reverse-append, reverse-reverse}
use Rattle.std.proofs.lemmas.List.Sums.{take_while-cons}
use Rattle.std.specs.Prelude.{nat_lt, option_and_then, option_map, reverse, take_while, unwrap_or, ◌==◌}
use Rattle.def_grammar.specs.Forms.{as_list, behind_comma, between_commas, name_in, name_pieces, onto_piece, without_spaces_before, without_spaces_behind}
use Rattle.wh_base.specs.Lists.{all_there, is_empty, where_true}
use Rattle.wh_ddl_text.specs.NameLists.{Pushes, comma_place, is_no_comma, is_space, list_in, names_behind, with_names}

-- ---- spaces

pub before-drops : (bs : List ℕ) → drop (length (take_while is_space bs)) bs ≡ without_spaces_before bs
before-drops [] = refl
before-drops (b ∷ bs) = by (b == 32) refl (before-drops bs)
  where
    by : (t : Bool) → (b == 32) ≡ t → drop (length (take_while is_space bs)) bs ≡ without_spaces_before bs → drop (length (take_while is_space (b ∷ bs))) (b ∷ bs) ≡ without_spaces_before (b ∷ bs)
    by true e more = rw (take_while-cons is_space b bs, e) more
    by false e more = rw (take_while-cons is_space b bs, e) refl

-- a space at the end goes
pub behind-space : (all front : List ℕ) (last : ℕ) → all ≡ front ++ last ∷ [] → last ≡ 32 → without_spaces_behind front ≡ without_spaces_behind all
behind-space all front last e space =
    let same : all ≡ front ++ 32 ∷ [] = e ∙ ap (λ b. front ++ b ∷ []) space in
    sym (ap without_spaces_behind same ∙ ap (λ bs. reverse (without_spaces_before bs)) (reverse-append front (32 ∷ [])))

-- any other byte there stays, with all before it
pub behind-other : (all front : List ℕ) (last : ℕ) → all ≡ front ++ last ∷ [] → (last == 32) ≡ false → all ≡ without_spaces_behind all
behind-other all front last e other =
    let turned : reverse all ≡ last ∷ reverse front = ap reverse e ∙ reverse-append front (last ∷ []) in
    sym (ap (λ bs. reverse (without_spaces_before bs)) turned ∙ ap (λ t. reverse (cond t (without_spaces_before (reverse front)) (last ∷ reverse front))) other ∙ ap reverse (sym turned) ∙ reverse-reverse all)

pub ruleset spaces = (before-drops, behind-space, behind-other)

-- ---- pieces

onto-some : (b : ℕ) (ps : List (List ℕ)) → is_empty (onto_piece b ps) ≡ false
onto-some b [] = refl
onto-some b (p ∷ ps) = refl

pieces-some : (bs : List ℕ) → is_empty (between_commas bs) ≡ false
pieces-some [] = refl
pieces-some (b ∷ bs) = by (b == 44)
  where
    by : (t : Bool) → is_empty (cond t ([] ∷ between_commas bs) (onto_piece b (between_commas bs))) ≡ false
    by true = refl
    by false = onto-some b (between_commas bs)

-- without a comma
one-piece : (bs : List ℕ) → comma_place bs ≡ length bs → between_commas bs ≡ bs ∷ []
one-piece [] h = refl
one-piece (b ∷ bs) h = by (b == 44) refl (λ k. one-piece bs k)
  where
    by : (t : Bool) → (b == 44) ≡ t → (comma_place bs ≡ length bs → between_commas bs ≡ bs ∷ []) → between_commas (b ∷ bs) ≡ (b ∷ bs) ∷ []
    by true e more = let none : 0 ≡ suc (length bs) = rw (take_while-cons is_no_comma b bs, e) at h in absurd (omega (arith, none))
    by false e more =
        let all : suc (comma_place bs) ≡ suc (length bs) = rw (take_while-cons is_no_comma b bs, e) at h in
        rw e (ap (onto_piece b) (more (omega (arith, all))))

-- the piece before the first comma, and those behind it
first-piece : (bs : List ℕ) → comma_place bs < length bs → between_commas bs ≡ take (comma_place bs) bs ∷ between_commas (drop (comma_place bs + 1) bs)
first-piece [] h = absurd (omega (arith, h))
first-piece (b ∷ bs) h = by (b == 44) refl (λ k. first-piece bs k)
  where
    by : (t : Bool) → (b == 44) ≡ t → (comma_place bs < length bs → between_commas bs ≡ take (comma_place bs) bs ∷ between_commas (drop (comma_place bs + 1) bs))
        → between_commas (b ∷ bs) ≡ take (comma_place (b ∷ bs)) (b ∷ bs) ∷ between_commas (drop (comma_place (b ∷ bs) + 1) (b ∷ bs))
    by true e more = rw (take_while-cons is_no_comma b bs, e) refl
    by false e more =
        let less : suc (comma_place bs) < suc (length bs) = rw (take_while-cons is_no_comma b bs, e) at h in
        let next : suc (comma_place bs) + 1 ≡ suc (comma_place bs + 1) = omega arith in
        rw (take_while-cons is_no_comma b bs, e, next) (ap (onto_piece b) (more (omega (arith, less))))

-- ---- names behind a comma

-- one piece more, and what it is without its spaces
behind-more : (p : List ℕ) (ps : List (List ℕ)) → is_empty ps ≡ false → behind_comma (p ∷ ps) ≡ without_spaces_behind (without_spaces_before p) ∷ behind_comma ps
behind-more p [] h = cc
behind-more p (q ∷ ps) h = refl

behind-some : (ps : List (List ℕ)) → is_empty ps ≡ false → is_empty (behind_comma ps) ≡ false
behind-some [] h = h
behind-some (p ∷ []) h = refl
behind-some (p ∷ q ∷ ps) h = refl

-- the names of a last piece, and of a piece that others follow
names-last : (bs : List ℕ) → comma_place bs ≡ length bs → names_behind bs ≡ all_there (name_in (without_spaces_before bs) ∷ [])
names-last bs h = ap (λ ps. all_there (map name_in (behind_comma ps))) (one-piece bs h)

names-more : (bs : List ℕ) → comma_place bs < length bs
    → names_behind bs ≡ all_there (name_in (without_spaces_behind (without_spaces_before (take (comma_place bs) bs))) ∷ map name_in (behind_comma (between_commas (drop (comma_place bs + 1) bs))))
names-more bs h =
    let rest : List ℕ = drop (comma_place bs + 1) bs in
    ap (λ ps. all_there (map name_in (behind_comma ps))) (first-piece bs h) ∙ ap (λ ps. all_there (map name_in ps)) (behind-more (take (comma_place bs) bs) (between_commas rest) (pieces-some rest))

-- the same for the name of the piece, which is there or not
alone : (done : List (List ℕ)) (o : Option (List ℕ)) → length done < 63 → with_names done (all_there (o ∷ [])) ≡ option_map (λ n. done ++ n ∷ []) o
alone done None h = refl
alone done (Some n) h = let few : nat_lt (length (done ++ n ∷ [])) 64 ≡ true = grind (arith, nat_tests, length-append done (n ∷ []), h) in rw few refl

-- the names, one more, and then those that were read
abbrev pub with_one : List (List ℕ) → Option (List ℕ) → Option (List (List ℕ)) → Option (List (List ℕ))
with_one done o read = option_and_then (λ names. with_names names read) (option_map (λ n. done ++ n ∷ []) o)

followed : (done : List (List ℕ)) (o : Option (List ℕ)) (os : List (Option (List ℕ))) → with_names done (all_there (o ∷ os)) ≡ with_one done o (all_there os)
followed done None os = refl
followed done (Some n) os = by (all_there os)
  where
    by : (read : Option (List (List ℕ))) → with_names done (option_map (λ ns. n ∷ ns) read) ≡ with_names (done ++ n ∷ []) read
    by None = refl
    by (Some ns) = ap (λ all. where_true (nat_lt (length all) 64) all) (sym (append_assoc done (n ∷ []) ns))

too-long : (done : List (List ℕ)) (os : List (Option (List ℕ))) → 63 ≤ length done → is_empty os ≡ false → with_names done (all_there os) ≡ None
too-long done [] h some = cc
too-long done (None ∷ os) h some = refl
too-long done (Some n ∷ os) h some = by (all_there os)
  where
    by : (read : Option (List (List ℕ))) → with_names done (option_map (λ ns. n ∷ ns) read) ≡ None
    by None = refl
    by (Some ns) = let many : nat_lt (length (done ++ n ∷ ns)) 64 ≡ false = grind (arith, nat_tests, length-append done (n ∷ ns), h) in rw many refl

map-some : {A B : Type 0} (f : A → B) (xs : List A) → is_empty xs ≡ false → is_empty (map f xs) ≡ false
map-some f [] h = h
map-some f (x ∷ xs) h = refl

-- ---- the turns of the loop

-- the last piece
pub last-name : (done : List (List ℕ)) (bs : List ℕ) (place : ℕ) → place ≡ comma_place bs → place ≡ length bs → length done < 63
    → with_names done (names_behind bs) ≡ option_map (λ n. done ++ n ∷ []) (name_in (without_spaces_before bs))
last-name done bs place at end few = ap (with_names done) (names-last bs (sym at ∙ end)) ∙ alone done (name_in (without_spaces_before bs)) few

-- a piece that others follow
pub next-name : (done : List (List ℕ)) (bs : List ℕ) (place : ℕ) → place ≡ comma_place bs → place < length bs
    → with_names done (names_behind bs) ≡ with_one done (name_in (without_spaces_behind (without_spaces_before (take place bs)))) (names_behind (drop (place + 1) bs))
next-name done bs place at within =
    let less : comma_place bs < length bs = omega (arith, at, within) in
    let same : comma_place bs ≡ place = sym at in
    ap (with_names done) (names-more bs less)
    ∙ followed done (name_in (without_spaces_behind (without_spaces_before (take (comma_place bs) bs)))) (map name_in (behind_comma (between_commas (drop (comma_place bs + 1) bs))))
    ∙ ap (λ n. with_one done (name_in (without_spaces_behind (without_spaces_before (take n bs)))) (names_behind (drop (n + 1) bs))) same

-- the same with what was pushed of the piece
pub next-pushed : (done : List (List ℕ)) (bs piece : List ℕ) (place : ℕ) (o : Option (List (List ℕ))) → place ≡ comma_place bs → place < length bs → piece ≡ without_spaces_behind (without_spaces_before (take place bs))
    → option_map (λ n. done ++ n ∷ []) (name_in piece) ≡ o → with_names done (names_behind bs) ≡ option_and_then (λ names. with_names names (names_behind (drop (place + 1) bs))) o
next-pushed done bs piece place o at within same e =
    next-name done bs place at within ∙ ap (λ t. with_one done (name_in t) (names_behind (drop (place + 1) bs))) (sym same) ∙ ap (λ p. option_and_then (λ names. with_names names (names_behind (drop (place + 1) bs))) p) e

-- whether a name was pushed
pub pushed : (done : Bool) (names : List (List ℕ)) (o : Option (List (List ℕ))) → Pushes (Ok done) names o → done ≡ true → o ≡ Some names
pushed true names o h e = h
pushed false names o h e = cc

pub not-pushed : (done : Bool) (names : List (List ℕ)) (o : Option (List (List ℕ))) → Pushes (Ok done) names o → done ≡ false → o ≡ None
not-pushed true names o h e = cc
not-pushed false names o h e = h

-- a name that was pushed is one more
pub longer : (done new : List (List ℕ)) (o : Option (List ℕ)) → option_map (λ n. done ++ n ∷ []) o ≡ Some new → length new ≡ length done + 1
longer done new None e = cc
longer done new (Some n) e = let same : Some (done ++ n ∷ []) ≡ Some new = e in omega (arith, length-append done (n ∷ []), ap (λ all. length (unwrap_or all [])) same)

-- a piece is always left
pub too-many : (done : List (List ℕ)) (bs : List ℕ) → 63 ≤ length done → with_names done (names_behind bs) ≡ None
too-many done bs h =
    too-long done (map name_in (behind_comma (between_commas bs))) h (map-some name_in (behind_comma (between_commas bs)) (behind-some (between_commas bs) (pieces-some bs)))

-- ---- the first name

abbrev listed_names : List (Option (List ℕ)) → Option (List ℕ × List (List ℕ))
listed_names os = option_and_then as_list (all_there os)

abbrev listed : List (List ℕ) → Option (List ℕ × List (List ℕ))
listed ps = listed_names (map name_in (name_pieces ps))

only-name : (o : Option (List ℕ)) → listed_names (o ∷ []) ≡ option_map (λ n. (n, [])) o
only-name None = refl
only-name (Some n) = refl

-- one piece is the list
pub list-alone : (bs : List ℕ) (place : ℕ) → place ≡ comma_place bs → place ≡ length bs → list_in bs ≡ option_map (λ n. (n, [])) (name_in bs)
list-alone bs place at end = ap listed (one-piece bs (sym at ∙ end)) ∙ only-name (name_in bs)

-- the name before the names of the other pieces
abbrev pub with_first : Option (List ℕ) → Option (List (List ℕ)) → Option (List ℕ × List (List ℕ))
with_first None read = None
with_first (Some n) read = option_map (λ ns. (n, ns)) (with_names [] read)

first-followed : (o : Option (List ℕ)) (os : List (Option (List ℕ))) → listed_names (o ∷ os) ≡ with_first o (all_there os)
first-followed None os = refl
first-followed (Some n) os = by (all_there os)
  where
    by_test : (ns : List (List ℕ)) (t : Bool) → where_true {A = List ℕ × List (List ℕ)} t (n, ns) ≡ option_map (λ ms. (n, ms)) (where_true t ns)
    by_test ns true = refl
    by_test ns false = refl

    by : (read : Option (List (List ℕ))) → option_and_then as_list (option_map (λ ns. n ∷ ns) read) ≡ option_map (λ ns. (n, ns)) (with_names [] read)
    by None = refl
    by (Some ns) = by_test ns (nat_lt (length ns) 64)

pieces-more : (p : List ℕ) (ps : List (List ℕ)) → is_empty ps ≡ false → name_pieces (p ∷ ps) ≡ without_spaces_behind p ∷ behind_comma ps
pieces-more p [] h = cc
pieces-more p (q ∷ ps) h = refl

-- a first piece that others follow
pub list-more : (bs : List ℕ) (place : ℕ) → place ≡ comma_place bs → place < length bs
    → list_in bs ≡ with_first (name_in (without_spaces_behind (take place bs))) (names_behind (drop (place + 1) bs))
list-more bs place at within =
    let less : comma_place bs < length bs = omega (arith, at, within) in
    let same : comma_place bs ≡ place = sym at in
    let rest : List ℕ = drop (comma_place bs + 1) bs in
    ap listed (first-piece bs less) ∙ ap (λ ps. listed_names (map name_in ps)) (pieces-more (take (comma_place bs) bs) (between_commas rest) (pieces-some rest))
    ∙ first-followed (name_in (without_spaces_behind (take (comma_place bs) bs))) (map name_in (behind_comma (between_commas rest)))
    ∙ ap (λ n. with_first (name_in (without_spaces_behind (take n bs))) (names_behind (drop (n + 1) bs))) same

-- the same with what was read of the piece
pub list-read : (bs piece : List ℕ) (place : ℕ) (o : Option (List ℕ)) → place ≡ comma_place bs → place < length bs → piece ≡ without_spaces_behind (take place bs) → o ≡ name_in piece
    → list_in bs ≡ with_first o (names_behind (drop (place + 1) bs))
list-read bs piece place o at within same e =
    list-more bs place at within ∙ ap (λ t. with_first (name_in t) (names_behind (drop (place + 1) bs))) (sym same) ∙ ap (λ p. with_first p (names_behind (drop (place + 1) bs))) (sym e)

pub ruleset pieces = (last-name, next-name, too-many)

pub ruleset lists = (list-alone, list-more)
