-- The words between spaces, one after another.
use Rattle.std.proofs.Common.{◌≡◌, ℕ, ◌<◌, suc, List, [], ◌∷◌, length, drop, take, Bool, true, false, cond, refl, ap, sym, subst, zero, ◌∙◌, arith}
use Rattle.std.proofs.lemmas.List.Sums.{take_while-cons}
use Rattle.std.specs.Prelude.{◌==◌, filter, not, take_while}
use Rattle.def_grammar.specs.Lines.{onto_first, split_spaces, words_in}
use Rattle.wh_base.specs.Lists.{is_empty}
use Rattle.wh_script.specs.Sections.{is_in_word, is_space, word_of}

-- spaces in front make no word
pub words_in-spaces : (bs : List ℕ) → words_in bs ≡ words_in (drop (length (take_while is_space bs)) bs)
words_in-spaces [] = refl
words_in-spaces (b ∷ bs) = by_test (b == 32) refl (words_in-spaces bs)
  where
    by_test : (t : Bool) → (b == 32) ≡ t → words_in bs ≡ words_in (drop (length (take_while is_space bs)) bs) → words_in (b ∷ bs) ≡ words_in (drop (length (take_while is_space (b ∷ bs))) (b ∷ bs))
    by_test true e more = rw (take_while-cons is_space b bs, e) more
    by_test false e more = rw (take_while-cons is_space b bs, e, e) refl

-- the pieces behind the first
abbrev behind : List ℕ → List (List ℕ)
behind [] = []
behind (b ∷ bs) = cond (b == 32) (split_spaces bs) (behind bs)

split_spaces-first : (bs : List ℕ) → split_spaces bs ≡ take (word_of bs) bs ∷ behind bs
split_spaces-first [] = refl
split_spaces-first (b ∷ bs) = by_test (b == 32) refl (split_spaces-first bs)
  where
    by_test : (t : Bool) → (b == 32) ≡ t → split_spaces bs ≡ take (word_of bs) bs ∷ behind bs → split_spaces (b ∷ bs) ≡ take (word_of (b ∷ bs)) (b ∷ bs) ∷ behind (b ∷ bs)
    by_test true e more = rw (take_while-cons is_in_word b bs, e) refl
    by_test false e more = rw (take_while-cons is_in_word b bs, e) (ap (onto_first b) more)

abbrev some_of : List (List ℕ) → List (List ℕ)
some_of ws = filter (λ w. not (is_empty w)) ws

words_behind : (bs : List ℕ) → some_of (behind bs) ≡ words_in (drop (word_of bs) bs)
words_behind [] = refl
words_behind (b ∷ bs) = by_test (b == 32) refl (words_behind bs)
  where
    by_test : (t : Bool) → (b == 32) ≡ t → some_of (behind bs) ≡ words_in (drop (word_of bs) bs) → some_of (behind (b ∷ bs)) ≡ words_in (drop (word_of (b ∷ bs)) (b ∷ bs))
    by_test true e more = rw (take_while-cons is_in_word b bs, e, e) refl
    by_test false e more = rw (take_while-cons is_in_word b bs, e) more

kept : (n : ℕ) (bs : List ℕ) (ws : List (List ℕ)) → 0 < n → 0 < length bs → some_of (take n bs ∷ ws) ≡ take n bs ∷ some_of ws
kept zero bs ws some h = absurd (omega (arith, some))
kept (suc n) [] ws some h = absurd (omega (arith, h))
kept (suc n) (b ∷ bs) ws some h = refl

word_within : (bs : List ℕ) → 0 < word_of bs → 0 < length bs
word_within [] h = absurd (omega (arith, h))
word_within (b ∷ bs) h = omega arith

-- a word in front
pub words_in-word : (bs rest : List ℕ) (n : ℕ) → words_in rest ≡ words_in bs → n ≡ length (take_while is_in_word rest) → 0 < n → words_in bs ≡ take n rest ∷ words_in (drop n rest)
words_in-word bs rest n same e h =
    let some : 0 < word_of rest = subst (λ k. 0 < k) e h in
    let all : words_in rest ≡ take (word_of rest) rest ∷ words_in (drop (word_of rest) rest) =
    ap some_of (split_spaces-first rest) ∙ kept (word_of rest) rest (behind rest) some (word_within rest some) ∙ ap (λ ws. take (word_of rest) rest ∷ ws) (words_behind rest) in
    subst (λ k. words_in bs ≡ take k rest ∷ words_in (drop k rest)) (sym e) (sym same ∙ all)

-- behind the spaces in front there is a word, or nothing
pub words_in-none : (bs : List ℕ) → word_of (drop (length (take_while is_space bs)) bs) ≡ 0 → words_in bs ≡ []
words_in-none [] h = refl
words_in-none (b ∷ bs) h = by_test (b == 32) refl h (λ k. words_in-none bs k)
  where
    by_test : (t : Bool) → (b == 32) ≡ t → word_of (drop (length (take_while is_space (b ∷ bs))) (b ∷ bs)) ≡ 0
        → (word_of (drop (length (take_while is_space bs)) bs) ≡ 0 → words_in bs ≡ []) → words_in (b ∷ bs) ≡ []
    by_test true e k more = rw e (more (rw (take_while-cons is_space b bs, e) at k))
    by_test false e k more_none =
        let some : word_of (b ∷ bs) ≡ 0 = rw (take_while-cons is_space b bs, e) at k in
        let more : suc (word_of bs) ≡ 0 = rw (take_while-cons is_in_word b bs, e) at some in
        absurd (omega (arith, more))

pub ruleset words = (words_in-word)

pub ruleset starts = (words_in-spaces, words_in-none)
