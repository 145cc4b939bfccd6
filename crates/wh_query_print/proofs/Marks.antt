-- What stands at the front of a text that begins with a mark.
use Rattle.std.proofs.Common.{◌≡◌, ℕ, suc, List, [], ◌∷◌, ◌++◌, length, get_or, refl, ap, sym, ◌∙◌, arith, true, false, Bool, ◌||◌, subst}
use Rattle.std.proofs.lemmas.Bool.Decides.{nat_tests}
use Rattle.std.proofs.lemmas.Slice.Eq.{bytes_eq-Decides}
use Rattle.std.specs.Prelude.{codes, ◌==◌}
use Rattle.wh_base.specs.Lists.{has_text, same_text}
use Rattle.wh_lex.specs.Tokens.{front_of}
use Rattle.wh_lex.specs.declared.front.Front.TheVariants as front
use Rattle.wh_base.specs.declared.tokens.TokenKind.TheVariants as kinds
use Rattle.def_grammar.specs.Written.{Each, marks}
use Rattle.wh_query_print.proofs.Fronts.{begins}

pub same-text : (xs ys : List ℕ) → same_text xs ys ≡ true → xs ≡ ys
same-text xs ys h = (bytes_eq-Decides xs ys).0 h

either : (x : List ℕ) (ms : List (List ℕ)) (text : List ℕ) (P : List ℕ → Type 0) (b : Bool) → same_text text x ≡ b → P x
    → (has_text ms text ≡ true → P text) → (b || has_text ms text) ≡ true → P text
either x ms text P true e px more h = subst P (sym (same-text text x e)) px
either x ms text P false e px more h = more h

-- what holds of each text of a list holds of one that is among them
pub among : (ms : List (List ℕ)) (text : List ℕ) (P : List ℕ → Type 0) → Each P ms → has_text ms text ≡ true → P text
among [] text P all h = cc
among (m ∷ ms) text P all h = either m ms text P (same_text text m) refl all.0 (λ later. among ms text P all.1 later) h

-- the bytes that go on a mark
abbrev pub goes_on : ℕ → Bool
goes_on b = b == 45 || (b == 61 || b == 62)

-- the marks that go on in some other marks, or in a comment
abbrev pub open_marks : List (List ℕ)
open_marks = codes "-" ∷ codes "<" ∷ codes ">" ∷ []

-- read at the front of a text where nothing goes it on
abbrev pub IsRead : List ℕ → Type 0
IsRead text = (rest : List ℕ) → (has_text open_marks text ≡ true → begins goes_on rest ≡ false) → (more : ℕ) → length text ≡ suc more → front_of (text ++ rest) ≡ front.Token kinds.Mark text more

next : (rest : List ℕ) (n : ℕ) → goes_on n ≡ true → begins goes_on rest ≡ false → (get_or rest 0 0 == n) ≡ false
next [] n h ends = grind (arith, nat_tests, h)
next (b ∷ bs) n h ends = grind (arith, nat_tests, h, ends)

one : (a : ℕ) (rest : List ℕ) (more : ℕ) → length (a ∷ []) ≡ suc more → front_of (a ∷ rest) ≡ front.Token kinds.Mark (a ∷ []) 0 → front_of (a ∷ rest) ≡ front.Token kinds.Mark (a ∷ []) more
one a rest more e h = let none : 0 ≡ more = omega (arith, e) in h ∙ ap (λ n. front.Token kinds.Mark (a ∷ []) n) none

two : (a b : ℕ) (rest : List ℕ) (more : ℕ) → length (a ∷ b ∷ []) ≡ suc more → front_of (a ∷ b ∷ rest) ≡ front.Token kinds.Mark (a ∷ b ∷ []) 1 → front_of (a ∷ b ∷ rest) ≡ front.Token kinds.Mark (a ∷ b ∷ []) more
two a b rest more e h = let single : 1 ≡ more = omega (arith, e) in h ∙ ap (λ n. front.Token kinds.Mark (a ∷ b ∷ []) n) single

front-open : (rest : List ℕ) → front_of (40 ∷ rest) ≡ front.Token kinds.Mark (40 ∷ []) 0
unfolding front_of
front-open rest = refl

front-close : (rest : List ℕ) → front_of (41 ∷ rest) ≡ front.Token kinds.Mark (41 ∷ []) 0
unfolding front_of
front-close rest = refl

front-comma : (rest : List ℕ) → front_of (44 ∷ rest) ≡ front.Token kinds.Mark (44 ∷ []) 0
unfolding front_of
front-comma rest = refl

front-dot : (rest : List ℕ) → front_of (46 ∷ rest) ≡ front.Token kinds.Mark (46 ∷ []) 0
unfolding front_of
front-dot rest = refl

front-semicolon : (rest : List ℕ) → front_of (59 ∷ rest) ≡ front.Token kinds.Mark (59 ∷ []) 0
unfolding front_of
front-semicolon rest = refl

front-star : (rest : List ℕ) → front_of (42 ∷ rest) ≡ front.Token kinds.Mark (42 ∷ []) 0
unfolding front_of
front-star rest = refl

front-equals : (rest : List ℕ) → front_of (61 ∷ rest) ≡ front.Token kinds.Mark (61 ∷ []) 0
unfolding front_of
front-equals rest = refl

front-plus : (rest : List ℕ) → front_of (43 ∷ rest) ≡ front.Token kinds.Mark (43 ∷ []) 0
unfolding front_of
front-plus rest = refl

front-asked : (rest : List ℕ) → front_of (63 ∷ rest) ≡ front.Token kinds.Mark (63 ∷ []) 0
unfolding front_of
front-asked rest = refl

front-minus : (rest : List ℕ) → begins goes_on rest ≡ false → front_of (45 ∷ rest) ≡ front.Token kinds.Mark (45 ∷ []) 0
unfolding front_of
front-minus rest ends = rw (next rest 45 refl ends) refl

front-less : (rest : List ℕ) → begins goes_on rest ≡ false → front_of (60 ∷ rest) ≡ front.Token kinds.Mark (60 ∷ []) 0
unfolding front_of
front-less rest ends = rw (next rest 61 refl ends, next rest 62 refl ends) refl

front-greater : (rest : List ℕ) → begins goes_on rest ≡ false → front_of (62 ∷ rest) ≡ front.Token kinds.Mark (62 ∷ []) 0
unfolding front_of
front-greater rest ends = rw (next rest 61 refl ends) refl

front-unequal : (rest : List ℕ) → front_of (60 ∷ 62 ∷ rest) ≡ front.Token kinds.Mark (60 ∷ 62 ∷ []) 1
unfolding front_of
front-unequal rest = refl

front-at_most : (rest : List ℕ) → front_of (60 ∷ 61 ∷ rest) ≡ front.Token kinds.Mark (60 ∷ 61 ∷ []) 1
unfolding front_of
front-at_most rest = refl

front-at_least : (rest : List ℕ) → front_of (62 ∷ 61 ∷ rest) ≡ front.Token kinds.Mark (62 ∷ 61 ∷ []) 1
unfolding front_of
front-at_least rest = refl

front-not : (rest : List ℕ) → front_of (33 ∷ 61 ∷ rest) ≡ front.Token kinds.Mark (33 ∷ 61 ∷ []) 1
unfolding front_of
front-not rest = refl

each-mark : Each IsRead marks
each-mark = (
  (λ rest ends more e. one 40 rest more e (front-open rest)),
  (
    (λ rest ends more e. one 41 rest more e (front-close rest)),
    (
      (λ rest ends more e. one 44 rest more e (front-comma rest)),
      (
        (λ rest ends more e. one 46 rest more e (front-dot rest)),
        (
          (λ rest ends more e. one 59 rest more e (front-semicolon rest)),
          (
            (λ rest ends more e. one 42 rest more e (front-star rest)),
            (
              (λ rest ends more e. one 61 rest more e (front-equals rest)),
              (
                (λ rest ends more e. one 43 rest more e (front-plus rest)),
                (
                  (λ rest ends more e. one 45 rest more e (front-minus rest (ends refl))),
                  (
                    (λ rest ends more e. one 63 rest more e (front-asked rest)),
                    (
                      (λ rest ends more e. one 60 rest more e (front-less rest (ends refl))),
                      (
                        (λ rest ends more e. two 60 62 rest more e (front-unequal rest)),
                        (
                          (λ rest ends more e. two 60 61 rest more e (front-at_most rest)),
                          (
                            (λ rest ends more e. one 62 rest more e (front-greater rest (ends refl))),
                            (
                              (λ rest ends more e. two 62 61 rest more e (front-at_least rest)),
                              (
                                (λ rest ends more e. two 33 61 rest more e (front-not rest)),
                                tt,
                              ),
                            ),
                          ),
                        ),
                      ),
                    ),
                  ),
                ),
              ),
            ),
          ),
        ),
      ),
    ),
  ),
)

pub front-mark : (text : List ℕ) → has_text marks text ≡ true → IsRead text
front-mark text h = among marks text IsRead each-mark h
