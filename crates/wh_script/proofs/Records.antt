-- The records of a block, one read after another.
use Rattle.std.proofs.Common.{◌≡◌, ℕ, ◌<◌, suc, List, [], ◌∷◌, ◌++◌, length, true, false, Option, Some, None, refl, ap, sym, ◌∙◌, arith, append-nil, append_assoc, subst, Bor, get_or, zero, option_map}
use Rattle.csv.specs.Machine.{Read, next_record}
use Rattle.csv.specs.Reading.{NextIs, ReadsNext, default_config}
use Rattle.csv.specs.Records.{field_at}
use Rattle.csv.specs.declared.parser.State.{State}
use Rattle.def_grammar.specs.Script.{records_from}
use Rattle.wh_base.specs.Lists.{option_case}

-- the records from here on, by the next one where there is one
abbrev pub by_next : ℕ → Option Read → List (List (List ℕ))
by_next n r = option_case r [] (λ p. p.0 ∷ records_from n p.1 p.2)

next_found : (n : ℕ) (r : Option Read) (fields : List (List ℕ)) (s2 : State) (ys : List ℕ) → NextIs r true fields s2 ys → by_next n r ≡ fields ∷ records_from n s2 ys
next_found n None fields s2 ys h = cc
next_found n (Some p) fields s2 ys h = rw (h.1, h.2, h.3) refl

next_none : (n : ℕ) (r : Option Read) (fields : List (List ℕ)) (s2 : State) (ys : List ℕ) → NextIs r false fields s2 ys → by_next n r ≡ []
next_none n None fields s2 ys h = refl
next_none n (Some p) fields s2 ys h = let no : false ≡ true = h.0 in cc

-- a record that was read, before those that are left
pub records-found : (n : ℕ) (s : State) (xs : List ℕ) (after : Option (List ℕ)) (fields : List (List ℕ)) (s2 : State) → ReadsNext default_config s (Some xs) after true fields s2
    → (ys : List ℕ) × (after ≡ Some ys) × (records_from (suc n) s xs ≡ fields ∷ records_from n s2 ys)
records-found n s xs None fields s2 h = absurd h
records-found n s xs (Some ys) fields s2 h = (ys, refl, next_found n (next_record default_config s [] [] xs) fields s2 ys h)

-- no record is left
pub records-none : (n : ℕ) (s : State) (xs : List ℕ) (after : Option (List ℕ)) (fields : List (List ℕ)) (s2 : State) → ReadsNext default_config s (Some xs) after false fields s2
    → records_from (suc n) s xs ≡ []
records-none n s xs None fields s2 h = absurd h
records-none n s xs (Some ys) fields s2 h = next_none n (next_record default_config s [] [] xs) fields s2 ys h

-- the rows so far with one more, and those that are left
pub step-found : (rows new : List (List (List ℕ))) (row fields : List (List ℕ)) (before after n : ℕ) (s s2 : State) (xs ys : List ℕ) (all : List (List (List ℕ)))
    → before ≡ suc n → after ≡ n → new ≡ rows ++ row ∷ [] → row ≡ fields → rows ++ records_from before s xs ≡ all
    → records_from (suc n) s xs ≡ fields ∷ records_from n s2 ys → new ++ records_from after s2 ys ≡ all
step-found rows new row fields before after n s s2 xs ys all b a e f inv step =
    let known : rows ++ records_from (suc n) s xs ≡ all = subst (λ k. rows ++ records_from k s xs ≡ all) b inv in
    let joined : (rows ++ fields ∷ []) ++ records_from n s2 ys ≡ all = append_assoc rows (fields ∷ []) (records_from n s2 ys) ∙ ap (λ z. rows ++ z) (sym step) ∙ known in
    subst (λ k. new ++ records_from k s2 ys ≡ all) (sym a) (ap (λ z. z ++ records_from n s2 ys) (e ∙ ap (λ r. rows ++ r ∷ []) f) ∙ joined)

-- the rows where none is left
pub step-none : (rows : List (List (List ℕ))) (before n : ℕ) (s : State) (xs : List ℕ) (all : List (List (List ℕ)))
    → before ≡ suc n → rows ++ records_from before s xs ≡ all → records_from (suc n) s xs ≡ [] → rows ≡ all
step-none rows before n s xs all b inv none =
    sym (append-nil rows) ∙ ap (λ z. rows ++ z) (sym none) ∙ subst (λ k. rows ++ records_from k s xs ≡ all) b inv

field_at-is : (fs : List (List ℕ)) (i : ℕ) → i < length fs → field_at fs i ≡ Some (get_or fs i [])
unfolding field_at
field_at-is [] i h = absurd (omega (arith, h))
field_at-is (f ∷ fs) zero h = refl
field_at-is (f ∷ fs) (suc i) h = field_at-is fs i (omega (arith, h))

-- a field that is there
pub field-some : (fs : List (List ℕ)) (i : ℕ) (f : Bor (List ℕ)) → option_map (λ s. s.now) (Some f) ≡ field_at fs i → i < length fs → f.now ≡ get_or fs i []
field-some fs i f e h = let same : Some f.now ≡ Some (get_or fs i []) = e ∙ field_at-is fs i h in cc

pub field-none : (fs : List (List ℕ)) (i : ℕ) → None ≡ field_at fs i → i < length fs → ⊥
field-none fs i e h = let same : None ≡ Some (get_or fs i []) = e ∙ field_at-is fs i h in cc

pub ruleset fields = (field-some, field-none)
