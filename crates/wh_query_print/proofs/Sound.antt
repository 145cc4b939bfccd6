-- Rules of the grammar read the same wherever the tokens stand, and give only what can be written.
use Rattle.std.proofs.Common.{◌≡◌, ℕ, suc, zero, List, [], ◌∷◌, length, refl, ap, true, false, Bool, map, Option, Some, None}
use Rattle.std.proofs.lemmas.List.{length-map}
use Rattle.std.specs.Prelude.{codes, option_map, unwrap_or}
use Rattle.wh_base.specs.Lists.{option_case, where_true}
use Rattle.wh_base.specs.declared.tokens.Token.{Token}
use Rattle.wh_base.specs.declared.tokens.TokenKind.{TokenKind}
use Rattle.wh_base.specs.declared.tokens.TokenKind.TheVariants as kinds
use Rattle.def_grammar.specs.Reading.{Rule, bracketed, gives, is_token, listed, made_by, many, many_times, mapped, mark, maybe, optional_list, or_else, token_where, word, ◌>>=◌, ◌>>◌, ◌or◌}
use Rattle.def_grammar.specs.Written.{Each, EachOfSome, IfThere, IsSpelled}
use Rattle.wh_query_print.specs.Kept.{unplaced}

-- read alike with the places and without: the same value, of which P holds, and the same rest
abbrev pub Alike : {A : Type 0} → (A → Type 0) → Option (A × List Token) → Option (A × List Token) → Type 0
Alike P None None = Unit {0}
Alike P None (Some q) = ⊥
Alike P (Some p) None = ⊥
Alike P (Some p) (Some q) = (q.0 ≡ p.0) × P p.0 × (q.1 ≡ map unplaced p.1) × Each IsSpelled p.1

-- the same rest, whatever the values are
abbrev pub Along : {A : Type 0} → Option (A × List Token) → Option (A × List Token) → Type 0
Along None None = Unit {0}
Along None (Some q) = ⊥
Along (Some p) None = ⊥
Along (Some p) (Some q) = (q.1 ≡ map unplaced p.1) × Each IsSpelled p.1

-- a rule that gives only values of which P holds
pub record Sound {A : Type 0} (P : A → Type 0) (r : Rule A) : Type 0 where
  pub alike : (ts : List Token) → Each IsSpelled ts → Alike P (r ts) (r (map unplaced ts))

-- a rule of which only the rest counts
pub record Blind {A : Type 0} (r : Rule A) : Type 0 where
  pub along : (ts : List Token) → Each IsSpelled ts → Along (r ts) (r (map unplaced ts))

along-of : {A : Type 0} (P : A → Type 0) (o u : Option (A × List Token)) → Alike P o u → Along o u
along-of P None None h = tt
along-of P None (Some q) h = absurd h
along-of P (Some p) None h = absurd h
along-of P (Some p) (Some q) h = (h.2, h.3)

pub blind-of : {A : Type 0} (P : A → Type 0) (r : Rule A) → Sound P r → Blind r
blind-of P r h = record { along = λ ts all. along-of P (r ts) (r (map unplaced ts)) (h.alike ts all) }

-- ---- one rule after another

pub gives-sound : {A : Type 0} (P : A → Type 0) (x : A) → P x → Sound P (gives x)
gives-sound P x h = record { alike = λ ts all. (refl, h, refl, all) }

bind-alike : {A B : Type 0} (P : A → Type 0) (Q : B → Type 0) (f : A → Rule B) → ((x : A) → P x → Sound Q (f x)) → (o u : Option (A × List Token)) → Alike P o u
    → Alike Q (option_case o None (λ p. f p.0 p.1)) (option_case u None (λ p. f p.0 p.1))
bind-alike P Q f k None None h = tt
bind-alike P Q f k None (Some q) h = absurd h
bind-alike P Q f k (Some p) None h = absurd h
bind-alike P Q f k (Some p) (Some q) h = rw (h.0, h.2) ((k p.0 h.1).alike p.1 h.3)

pub bind-sound : {A B : Type 0} (P : A → Type 0) (Q : B → Type 0) (r : Rule A) (f : A → Rule B) → Sound P r → ((x : A) → P x → Sound Q (f x)) → Sound Q (r >>= f)
bind-sound P Q r f h k = record { alike = λ ts all. bind-alike P Q f k (r ts) (r (map unplaced ts)) (h.alike ts all) }

then-alike : {A B : Type 0} (Q : B → Type 0) (s : Rule B) → Sound Q s → (o u : Option (A × List Token)) → Along o u
    → Alike Q (option_case o None (λ p. s p.1)) (option_case u None (λ p. s p.1))
then-alike Q s k None None h = tt
then-alike Q s k None (Some q) h = absurd h
then-alike Q s k (Some p) None h = absurd h
then-alike Q s k (Some p) (Some q) h = rw (h.0) (k.alike p.1 h.1)

pub then-sound : {A B : Type 0} (Q : B → Type 0) (r : Rule A) (s : Rule B) → Blind r → Sound Q s → Sound Q (r >> s)
then-sound Q r s h k = record { alike = λ ts all. then-alike Q s k (r ts) (r (map unplaced ts)) (h.along ts all) }

then-along : {A B : Type 0} (s : Rule B) → Blind s → (o u : Option (A × List Token)) → Along o u
    → Along (option_case o None (λ p. s p.1)) (option_case u None (λ p. s p.1))
then-along s k None None h = tt
then-along s k None (Some q) h = absurd h
then-along s k (Some p) None h = absurd h
then-along s k (Some p) (Some q) h = rw (h.0) (k.along p.1 h.1)

pub then-blind : {A B : Type 0} (r : Rule A) (s : Rule B) → Blind r → Blind s → Blind (r >> s)
then-blind r s h k = record { along = λ ts all. then-along s k (r ts) (r (map unplaced ts)) (h.along ts all) }

mapped-alike : {A B : Type 0} (P : A → Type 0) (Q : B → Type 0) (f : A → B) → ((x : A) → P x → Q (f x)) → (o u : Option (A × List Token)) → Alike P o u
    → Alike Q (option_map (λ p. (f p.0, p.1)) o) (option_map (λ p. (f p.0, p.1)) u)
mapped-alike P Q f k None None h = tt
mapped-alike P Q f k None (Some q) h = absurd h
mapped-alike P Q f k (Some p) None h = absurd h
mapped-alike P Q f k (Some p) (Some q) h = (ap f h.0, k p.0 h.1, h.2, h.3)

pub mapped-sound : {A B : Type 0} (P : A → Type 0) (Q : B → Type 0) (f : A → B) (r : Rule A) → Sound P r → ((x : A) → P x → Q (f x)) → Sound Q (mapped f r)
mapped-sound P Q f r h k = record { alike = λ ts all. mapped-alike P Q f k (r ts) (r (map unplaced ts)) (h.alike ts all) }

option-alike : {B : Type 0} (Q : B → Type 0) (o : Option B) → ((y : B) → o ≡ Some y → Q y) → (ts us : List Token) → us ≡ map unplaced ts → Each IsSpelled ts
    → Alike Q (option_map (λ y. (y, ts)) o) (option_map (λ y. (y, us)) o)
option-alike Q None k ts us same all = tt
option-alike Q (Some y) k ts us same all = (refl, k y refl, same, all)

made-alike : {A B : Type 0} (P : A → Type 0) (Q : B → Type 0) (f : A → Option B) → ((x : A) (y : B) → P x → f x ≡ Some y → Q y) → (o u : Option (A × List Token)) → Alike P o u
    → Alike Q (option_case o None (λ p. option_map (λ y. (y, p.1)) (f p.0))) (option_case u None (λ p. option_map (λ y. (y, p.1)) (f p.0)))
made-alike P Q f k None None h = tt
made-alike P Q f k None (Some q) h = absurd h
made-alike P Q f k (Some p) None h = absurd h
made-alike P Q f k (Some p) (Some q) h = rw (h.0) (option-alike Q (f p.0) (λ y e. k p.0 y h.1 e) p.1 q.1 h.2 h.3)

-- what a rule gives, where something is made of it
pub made-sound : {A B : Type 0} (P : A → Type 0) (Q : B → Type 0) (f : A → Option B) (r : Rule A) → Sound P r → ((x : A) (y : B) → P x → f x ≡ Some y → Q y) → Sound Q (made_by f r)
made-sound P Q f r h k = record { alike = λ ts all. made-alike P Q f k (r ts) (r (map unplaced ts)) (h.alike ts all) }

const-alike : {A B : Type 0} (Q : B → Type 0) (x : B) → Q x → (o u : Option (A × List Token)) → Along o u
    → Alike Q (option_map (λ p. (x, p.1)) o) (option_map (λ p. (x, p.1)) u)
const-alike Q x k None None h = tt
const-alike Q x k None (Some q) h = absurd h
const-alike Q x k (Some p) None h = absurd h
const-alike Q x k (Some p) (Some q) h = (refl, k, h.0, h.1)

-- the rule for one value, whatever the tokens
pub const-sound : {A B : Type 0} (Q : B → Type 0) (x : B) (r : Rule A) → Blind r → Q x → Sound Q (mapped (λ _. x) r)
const-sound Q x r h k = record { alike = λ ts all. const-alike Q x k (r ts) (r (map unplaced ts)) (h.along ts all) }

-- ---- one rule or another

or-alike : {A : Type 0} (P : A → Type 0) (s : Rule A) → Sound P s → (ts : List Token) → Each IsSpelled ts → (o u : Option (A × List Token)) → Alike P o u
    → Alike P (or_else o s ts) (or_else u s (map unplaced ts))
or-alike P s k ts all None None h = k.alike ts all
or-alike P s k ts all None (Some q) h = absurd h
or-alike P s k ts all (Some p) None h = absurd h
or-alike P s k ts all (Some p) (Some q) h = h

pub or-sound : {A : Type 0} (P : A → Type 0) (r s : Rule A) → Sound P r → Sound P s → Sound P (r or s)
or-sound P r s h k = record { alike = λ ts all. or-alike P s k ts all (r ts) (r (map unplaced ts)) (h.alike ts all) }

pub maybe-sound : {A : Type 0} (P : A → Type 0) (r : Rule A) → Sound P r → Sound (IfThere P) (maybe r)
maybe-sound P r h = or-sound (IfThere P) (mapped Some r) (gives None) (mapped-sound P (IfThere P) Some r h (λ x p. p)) (gives-sound (IfThere P) None tt)

maybe-along : {A : Type 0} (ts : List Token) → Each IsSpelled ts → (o u : Option (A × List Token)) → Along o u
    → Along (or_else (option_map (λ p. (Some p.0, p.1)) o) (gives None) ts) (or_else (option_map (λ p. (Some p.0, p.1)) u) (gives None) (map unplaced ts))
maybe-along ts all None None h = (refl, all)
maybe-along ts all None (Some q) h = absurd h
maybe-along ts all (Some p) None h = absurd h
maybe-along ts all (Some p) (Some q) h = h

pub maybe-blind : {A : Type 0} (r : Rule A) → Blind r → Blind (maybe r)
maybe-blind r h = record { along = λ ts all. maybe-along ts all (r ts) (r (map unplaced ts)) (h.along ts all) }

-- ---- a rule again and again

cons-alike : {A : Type 0} (P : A → Type 0) (x : A) → P x → (o u : Option (List A × List Token)) → Alike (Each P) o u
    → Alike (Each P) (option_map (λ q. (x ∷ q.0, q.1)) o) (option_map (λ q. (x ∷ q.0, q.1)) u)
cons-alike P x k None None h = tt
cons-alike P x k None (Some q) h = absurd h
cons-alike P x k (Some p) None h = absurd h
cons-alike P x k (Some p) (Some q) h = (ap (λ xs. x ∷ xs) h.0, (k, h.1), h.2, h.3)

again-alike : {A : Type 0} (P : A → Type 0) (n : ℕ) (r : Rule A) (ts : List Token) → Each IsSpelled ts
    → ((us : List Token) → Each IsSpelled us → Alike (Each P) (many_times n r us) (many_times n r (map unplaced us)))
    → (o u : Option (A × List Token)) → Alike P o u
    → Alike (Each P) (option_case o (Some ([], ts)) (λ p. option_map (λ q. (p.0 ∷ q.0, q.1)) (many_times n r p.1)))
    (option_case u (Some ([], map unplaced ts)) (λ p. option_map (λ q. (p.0 ∷ q.0, q.1)) (many_times n r p.1)))
again-alike P n r ts all more None None h = (refl, tt, refl, all)
again-alike P n r ts all more None (Some q) h = absurd h
again-alike P n r ts all more (Some p) None h = absurd h
again-alike P n r ts all more (Some p) (Some q) h = rw (h.0, h.2) (cons-alike P p.0 h.1 (many_times n r p.1) (many_times n r (map unplaced p.1)) (more p.1 h.3))

times-alike : {A : Type 0} (P : A → Type 0) (n : ℕ) (r : Rule A) → Sound P r → (ts : List Token) → Each IsSpelled ts → Alike (Each P) (many_times n r ts) (many_times n r (map unplaced ts))
times-alike P zero r h ts all = (refl, tt, refl, all)
times-alike P (suc n) r h ts all = again-alike P n r ts all (λ us each. times-alike P n r h us each) (r ts) (r (map unplaced ts)) (h.alike ts all)

pub many-sound : {A : Type 0} (P : A → Type 0) (r : Rule A) → Sound P r → Sound (Each P) (many r)
many-sound P r h = record { alike = λ ts all. rw (length-map ts unplaced) (times-alike P (length ts) r h ts all) }

-- ---- tokens

token-along : (t : Token) (ts : List Token) (b : Bool) → Each IsSpelled ts → Along (where_true b (t, ts)) (where_true b (unplaced t, map unplaced ts))
token-along t ts true all = (refl, all)
token-along t ts false all = tt

where-along : (k : TokenKind) (w : List ℕ) (ts : List Token) → Each IsSpelled ts → Along (token_where (is_token k w) ts) (token_where (is_token k w) (map unplaced ts))
where-along k w [] all = tt
where-along k w (t ∷ ts) all = token-along t ts (is_token k w t) all.1

pub word-blind : (w : List ℕ) → Blind (word w)
word-blind w = record { along = λ ts all. where-along kinds.Name w ts all }

pub mark-blind : (w : List ℕ) → Blind (mark w)
mark-blind w = record { along = λ ts all. where-along kinds.Mark w ts all }

-- ---- lists and brackets

pub listed-sound : {A : Type 0} (P : A → Type 0) (r : Rule A) → Sound P r → Sound (EachOfSome P) (listed r)
listed-sound P r h =
    bind-sound P (EachOfSome P) r (λ x. many (mark (codes ",") >> r) >>= (λ xs. gives (x ∷ xs))) h (λ x p.
    bind-sound (Each P) (EachOfSome P) (many (mark (codes ",") >> r)) (λ xs. gives (x ∷ xs)) (many-sound P (mark (codes ",") >> r) (then-sound P (mark (codes ",")) r (mark-blind (codes ",")) h)) (λ xs ps.
    gives-sound (EachOfSome P) (x ∷ xs) (p, ps)))

pub bracketed-sound : {A : Type 0} (P : A → Type 0) (r : Rule A) → Sound P r → Sound P (bracketed r)
bracketed-sound P r h =
    bind-sound P P (mark (codes "(") >> r) (λ x. mark (codes ")") >> gives x) (then-sound P (mark (codes "(")) r (mark-blind (codes "(")) h) (λ x p.
    then-sound P (mark (codes ")")) (gives x) (mark-blind (codes ")")) (gives-sound P x p))

each-of-some : {A : Type 0} (P : A → Type 0) (o : Option (List A)) → IfThere (EachOfSome P) o → Each P (unwrap_or o [])
each-of-some P None h = tt
each-of-some P (Some []) h = absurd h
each-of-some P (Some (x ∷ xs)) h = h

pub optional-sound : {A : Type 0} (P : A → Type 0) (r : Rule (List A)) → Sound (EachOfSome P) r → Sound (Each P) (optional_list r)
optional-sound P r h = mapped-sound (IfThere (EachOfSome P)) (Each P) (λ o. unwrap_or o []) (maybe r) (maybe-sound (EachOfSome P) r h) (λ o p. each-of-some P o p)
