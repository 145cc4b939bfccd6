-- Rules that don't read what stands next, and lists that read back.
use Rattle.std.proofs.Common.{◌≡◌, ℕ, ◌<◌, ◌≤◌, suc, zero, List, [], ◌∷◌, ◌++◌, length, refl, sym, append_assoc, arith, true, false, Bool, subst, Option, Some, None}
use Rattle.std.proofs.lemmas.Bool.{or_right}
use Rattle.std.proofs.lemmas.List.{length-append}
use Rattle.std.proofs.lemmas.Slice.Eq.{bytes_eq-Decides}
use Rattle.std.specs.Prelude.{flat_map}
use Rattle.wh_base.specs.Lists.{has_text, same_text}
use Rattle.wh_base.specs.declared.tokens.Token.{Token}
use Rattle.wh_base.specs.declared.tokens.TokenKind.TheVariants as kinds
use Rattle.def_grammar.specs.Canonical.{bare, clause_tokens, listed_tokens}
use Rattle.def_grammar.specs.Reading.{Rule, gives, many, many_times, mapped, mark, maybe, name, optional_list, reserved, word, ◌>>=◌, ◌>>◌, ◌or◌}
use Rattle.def_grammar.specs.Written.{Each, EachOfSome}
use Rattle.wh_query_print.proofs.Marks.{among}

pub same-self : (w : List ℕ) → same_text w w ≡ true
same-self w = (bytes_eq-Decides w w).1 refl

-- ---- what rules made of rules read

pub mapped-some : {A B : Type 0} (f : A → B) (r : Rule A) (x : A) (ts us : List Token) → r ts ≡ Some (x, us) → mapped f r ts ≡ Some (f x, us)
mapped-some f r x ts us h = rw h refl

pub mapped-none : {A B : Type 0} (f : A → B) (r : Rule A) (ts : List Token) → r ts ≡ None → mapped f r ts ≡ None
mapped-none f r ts h = rw h refl

pub or-first : {A : Type 0} (r s : Rule A) (p : A × List Token) (ts : List Token) → r ts ≡ Some p → (r or s) ts ≡ Some p
or-first r s p ts h = rw h refl

pub or-second : {A : Type 0} (r s : Rule A) (o : Option (A × List Token)) (ts : List Token) → r ts ≡ None → s ts ≡ o → (r or s) ts ≡ o
or-second r s o ts h k = rw h k

pub bind-some : {A B : Type 0} (r : Rule A) (f : A → Rule B) (x : A) (o : Option (B × List Token)) (ts us : List Token) → r ts ≡ Some (x, us) → f x us ≡ o → (r >>= f) ts ≡ o
bind-some r f x o ts us h k = rw h k

pub bind-none : {A B : Type 0} (r : Rule A) (f : A → Rule B) (ts : List Token) → r ts ≡ None → (r >>= f) ts ≡ None
bind-none r f ts h = rw h refl

pub then-some : {A B : Type 0} (r : Rule A) (s : Rule B) (x : A) (o : Option (B × List Token)) (ts us : List Token) → r ts ≡ Some (x, us) → s us ≡ o → (r >> s) ts ≡ o
then-some r s x o ts us h k = rw h k

pub then-none : {A B : Type 0} (r : Rule A) (s : Rule B) (ts : List Token) → r ts ≡ None → (r >> s) ts ≡ None
then-none r s ts h = rw h refl

pub maybe-some : {A : Type 0} (r : Rule A) (x : A) (ts us : List Token) → r ts ≡ Some (x, us) → maybe r ts ≡ Some (Some x, us)
maybe-some r x ts us h = rw h refl

pub maybe-none : {A : Type 0} (r : Rule A) (ts : List Token) → r ts ≡ None → maybe r ts ≡ Some (None, ts)
maybe-none r ts h = rw h refl

-- ---- what stands next

-- nothing, or one of these keywords and more
abbrev pub Begun : List (List ℕ) → List Token → Type 0
Begun ws [] = Unit {0}
Begun ws (t ∷ ts) = (w : List ℕ) × (has_text ws w ≡ true) × (t ≡ bare kinds.Name w)

mark-at : (m w : List ℕ) (t : Token) (ts : List Token) → t ≡ bare kinds.Name w → mark m (t ∷ ts) ≡ None
mark-at m w t ts e = rw e refl

pub begun-mark : (m : List ℕ) (ws : List (List ℕ)) (rest : List Token) → Begun ws rest → mark m rest ≡ None
begun-mark m ws [] h = refl
begun-mark m ws (t ∷ ts) h = mark-at m h.0 t ts h.2

abbrev pub IsOther : List ℕ → List ℕ → Type 0
IsOther k w = same_text w k ≡ false

word-at : (k w : List ℕ) (t : Token) (ts : List Token) → t ≡ bare kinds.Name w → IsOther k w → word k (t ∷ ts) ≡ None
word-at k w t ts e other = rw (e, other) refl

pub begun-word : (k : List ℕ) (ws : List (List ℕ)) (rest : List Token) → Each (IsOther k) ws → Begun ws rest → word k rest ≡ None
begun-word k ws [] others h = refl
begun-word k ws (t ∷ ts) others h = word-at k h.0 t ts h.2 (among ws h.0 (IsOther k) others h.1)

abbrev pub IsReserved : List ℕ → Type 0
IsReserved w = has_text reserved w ≡ true

name-at : (w : List ℕ) (t : Token) (ts : List Token) → t ≡ bare kinds.Name w → IsReserved w → name (t ∷ ts) ≡ None
name-at w t ts e kept = let P : Token → Type 0 = λ u. name (u ∷ ts) ≡ None in subst P (sym e) (named-none w ts (has_text reserved w) refl kept)
  where
    named-none : (w : List ℕ) (ts : List Token) (b : Bool) → has_text reserved w ≡ b → b ≡ true → name (bare kinds.Name w ∷ ts) ≡ None
    named-none w ts true e h = rw e refl
    named-none w ts false e h = cc

pub begun-name : (ws : List (List ℕ)) (rest : List Token) → Each IsReserved ws → Begun ws rest → name rest ≡ None
begun-name ws [] kept h = refl
begun-name ws (t ∷ ts) kept h = name-at h.0 t ts h.2 (among ws h.0 IsReserved kept h.1)

begun-more : (k : List ℕ) (ws : List (List ℕ)) (rest : List Token) → Begun ws rest → Begun (k ∷ ws) rest
begun-more k ws [] h = tt
begun-more k ws (t ∷ ts) h = (h.0, or_right (same_text h.0 k) (has_text ws h.0) h.1, h.2)

-- a clause that may be left out
pub begun-clause : {A : Type 0} (k : List ℕ) (keywords between : List Token) (f : A → List Token) (xs : List A) (ws : List (List ℕ)) (rest : List Token)
    → Begun ws rest → Begun (k ∷ ws) (clause_tokens (bare kinds.Name k ∷ keywords) between f xs ++ rest)
begun-clause k keywords between f [] ws rest h = begun-more k ws rest h
begun-clause k keywords between f (x ∷ xs) ws rest h = (k, rw (same-self k) refl, refl)

-- ---- lists

ok-more : {A : Type 0} (P : A → Type 0) (Ok : List Token → Type 0) (g : A → List Token) (xs : List A) (rest : List Token)
    → Each P xs → ((x : A) (ts : List Token) → P x → Ok (g x ++ ts)) → Ok rest → Ok (flat_map g xs ++ rest)
ok-more P Ok g [] rest all next ok = ok
ok-more P Ok g (x ∷ xs) rest all next ok = rw (append_assoc (g x) (flat_map g xs) rest) (next x (flat_map g xs ++ rest) all.0)

times-end : {A : Type 0} (n : ℕ) (step : Rule A) (rest : List Token) → step rest ≡ None → many_times n step rest ≡ Some ([], rest)
times-end zero step rest h = refl
times-end (suc n) step rest h = rw h refl

times-read : {A : Type 0} (P : A → Type 0) (Ok : List Token → Type 0) (g : A → List Token) (step : Rule A) (xs : List A) (rest : List Token) (n : ℕ)
    → Each P xs → ((x : A) → P x → (ts : List Token) → Ok ts → step (g x ++ ts) ≡ Some (x, ts)) → ((x : A) (ts : List Token) → P x → Ok (g x ++ ts))
    → Ok rest → step rest ≡ None → length xs ≤ n → many_times n step (flat_map g xs ++ rest) ≡ Some (xs, rest)
times-read P Ok g step [] rest n all one next ok end few = times-end n step rest end
times-read P Ok g step (x ∷ xs) rest zero all one next ok end few = absurd (omega (arith, few))
times-read P Ok g step (x ∷ xs) rest (suc n) all one next ok end few =
    let first : step (g x ++ (flat_map g xs ++ rest)) ≡ Some (x, flat_map g xs ++ rest) = one x all.0 (flat_map g xs ++ rest) (ok-more P Ok g xs rest all.1 next ok) in
    let others : many_times n step (flat_map g xs ++ rest) ≡ Some (xs, rest) = times-read P Ok g step xs rest n all.1 one next ok end (omega (arith, few)) in
    rw (append_assoc (g x) (flat_map g xs) rest, first, others) refl

long-enough : {A : Type 0} (P : A → Type 0) (g : A → List Token) (xs : List A) → Each P xs → ((x : A) → P x → 0 < length (g x)) → length xs ≤ length (flat_map g xs)
long-enough P g [] all some = omega arith
long-enough P g (x ∷ xs) all some = omega (arith, length-append (g x) (flat_map g xs), some x all.0, long-enough P g xs all.1 some)

-- the rule again and again, up to where it doesn't read
pub many-read : {A : Type 0} (P : A → Type 0) (Ok : List Token → Type 0) (g : A → List Token) (step : Rule A) (xs : List A) (rest : List Token)
    → Each P xs → ((x : A) → P x → (ts : List Token) → Ok ts → step (g x ++ ts) ≡ Some (x, ts)) → ((x : A) (ts : List Token) → P x → Ok (g x ++ ts))
    → ((x : A) → P x → 0 < length (g x)) → Ok rest → step rest ≡ None → many step (flat_map g xs ++ rest) ≡ Some (xs, rest)
many-read P Ok g step xs rest all one next some ok end =
    let few : length xs ≤ length (flat_map g xs ++ rest) = omega (arith, length-append (flat_map g xs) rest, long-enough P g xs all some) in
    times-read P Ok g step xs rest (length (flat_map g xs ++ rest)) all one next ok end few

-- what stands between the items of a list, as a rule and as a token
pub record Parts (Ok : List Token → Type 0) (part : Rule Token) (between : Token) : Type 0 where
  pub reads : (ts : List Token) → part (between ∷ ts) ≡ Some (between, ts)
  pub follows : (ts : List Token) → Ok (between ∷ ts)

-- one or more, with this rule between
abbrev pub parted : {A : Type 0} → Rule Token → Rule A → Rule (List A)
parted part r = r >>= (λ x. many (part >> r) >>= (λ xs. gives (x ∷ xs)))

part-end : {A : Type 0} (part : Rule Token) (r : Rule A) (rest : List Token) → part rest ≡ None → (part >> r) rest ≡ None
part-end part r rest h = rw h refl

pub parted-read : {A : Type 0} (P : A → Type 0) (Ok : List Token → Type 0) (f : A → List Token) (r : Rule A) (part : Rule Token) (between : Token) (xs : List A) (rest : List Token)
    → Parts Ok part between → EachOfSome P xs → ((x : A) → P x → (ts : List Token) → Ok ts → r (f x ++ ts) ≡ Some (x, ts))
    → Ok rest → part rest ≡ None → parted part r (listed_tokens (between ∷ []) f xs ++ rest) ≡ Some (xs, rest)
parted-read P Ok f r part between [] rest parts all one ok end = absurd all
parted-read {A} P Ok f r part between (x ∷ xs) rest parts all one ok end =
    let g : A → List Token = λ y. between ∷ f y in
    let behind : Ok (flat_map g xs ++ rest) = ok-more P Ok g xs rest all.1 (λ y ts p. parts.follows (f y ++ ts)) ok in
    let first : r (f x ++ (flat_map g xs ++ rest)) ≡ Some (x, flat_map g xs ++ rest) = one x all.0 (flat_map g xs ++ rest) behind in
    let others : many (part >> r) (flat_map g xs ++ rest) ≡ Some (xs, rest) =
    many-read P Ok g (part >> r) xs rest all.1 (λ y p ts k. rw (parts.reads (f y ++ ts)) (one y p ts k)) (λ y ts p. parts.follows (f y ++ ts)) (λ y p. omega arith) ok (part-end part r rest end) in
    rw (append_assoc (f x) (flat_map g xs) rest, first, others) refl

-- a list that may be left out
pub optional-none : {A : Type 0} (r : Rule (List A)) (rest : List Token) → r rest ≡ None → optional_list r rest ≡ Some ([], rest)
optional-none r rest h = rw h refl

pub optional-some : {A : Type 0} (r : Rule (List A)) (ts rest : List Token) (xs : List A) → r ts ≡ Some (xs, rest) → optional_list r ts ≡ Some (xs, rest)
optional-some r ts rest xs h = rw h refl
