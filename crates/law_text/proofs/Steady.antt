-- Rules that read the same from all tokens that are equal up to the word ORDER, wherever these stand and whatever follows.
use Rattle.std.proofs.Common.{◌≡◌, ℕ, suc, zero, ◌+◌, ◌≤◌, List, [], ◌∷◌, length, refl, ap, ap₂, sym, arith, true, false, Bool, ◌&&◌, cond, subst, Option, Some, None, option_map, unwrap_or, codes}
use Rattle.std.proofs.lemmas.Slice.Eq.{bytes_eq-Decides}
use Rattle.wh_base.specs.Lists.{option_case, same_text, where_true}
use Rattle.wh_base.specs.declared.tokens.Token.{Token}
use Rattle.wh_base.specs.declared.tokens.TokenKind.{TokenKind}
use Rattle.wh_base.specs.declared.tokens.TokenKind.TheVariants as kinds
use Rattle.def_grammar.specs.Reading.{Rule, bracketed, gives, listed, many, many_times, mapped, mark, maybe, optional_list, or_else, same_token_kind, token_where, word, ◌>>=◌, ◌>>◌, ◌or◌}
use Rattle.def_rewriting.specs.Matching.{is_word, same_kind}

abbrev pub is_order : Token → Bool
is_order t = is_word (codes "ORDER") t

-- how many tokens stand before ORDER
abbrev pub size : List Token → ℕ
size [] = 0
size (t ∷ ts) = cond (is_order t) 0 (suc (size ts))

-- two tokens that are both ORDER, or are equal and followed by more such tokens
abbrev pub Near : Bool → Bool → Token → Token → Type 0 → Type 0
Near true true t u more = Unit {0}
Near true false t u more = ⊥
Near false true t u more = ⊥
Near false false t u more = (t.kind ≡ u.kind) × (t.text ≡ u.text) × more

-- equal up to ORDER
abbrev pub Like : List Token → List Token → Type 0
Like [] [] = Unit {0}
Like [] (u ∷ us) = is_order u ≡ true
Like (t ∷ ts) [] = is_order t ≡ true
Like (t ∷ ts) (u ∷ us) = Near (is_order t) (is_order u) t u (Like ts us)

-- the same value, and rests that are equal up to ORDER, with at least k tokens fewer than n before it
abbrev pub Alike : {A : Type 0} → ℕ → ℕ → Option (A × List Token) → Option (A × List Token) → Type 0
Alike n k None None = Unit {0}
Alike n k None (Some q) = ⊥
Alike n k (Some p) None = ⊥
Alike n k (Some p) (Some q) = (q.0 ≡ p.0) × Like p.1 q.1 × (size p.1 + k ≤ n)

-- the same, whatever the values are
abbrev pub Along : {A : Type 0} → ℕ → ℕ → Option (A × List Token) → Option (A × List Token) → Type 0
Along n k None None = Unit {0}
Along n k None (Some q) = ⊥
Along n k (Some p) None = ⊥
Along n k (Some p) (Some q) = Like p.1 q.1 × (size p.1 + k ≤ n)

-- a rule that reads so, and takes at least k tokens
pub record Steady {A : Type 0} (k : ℕ) (r : Rule A) : Type 0 where
  pub alike : (ts us : List Token) → Like ts us → Alike (size ts) k (r ts) (r us)

-- such a rule of which only the rest counts
pub record Blind {A : Type 0} (k : ℕ) (r : Rule A) : Type 0 where
  pub along : (ts us : List Token) → Like ts us → Along (size ts) k (r ts) (r us)

-- ---- fewer tokens

loosen : {A : Type 0} (m j n k : ℕ) → m + k ≤ n + j → (o u : Option (A × List Token)) → Alike m j o u → Alike n k o u
loosen m j n k less None None h = tt
loosen m j n k less None (Some q) h = absurd h
loosen m j n k less (Some p) None h = absurd h
loosen m j n k less (Some p) (Some q) h = (h.0, h.1, omega (arith, h.2, less))

pub weaker : {A : Type 0} (r : Rule A) → Steady 1 r → Steady 0 r
weaker r h = record { alike = λ ts us like. loosen (size ts) 1 (size ts) 0 (omega arith) (r ts) (r us) (h.alike ts us like) }

along-weaker : {A : Type 0} (n : ℕ) (o u : Option (A × List Token)) → Along n 1 o u → Along n 0 o u
along-weaker n None None h = tt
along-weaker n None (Some q) h = absurd h
along-weaker n (Some p) None h = absurd h
along-weaker n (Some p) (Some q) h = (h.0, omega (arith, h.1))

pub blind-weaker : {A : Type 0} (r : Rule A) → Blind 1 r → Blind 0 r
blind-weaker r h = record { along = λ ts us like. along-weaker (size ts) (r ts) (r us) (h.along ts us like) }

-- ---- one rule after another

pub gives-steady : {A : Type 0} (x : A) → Steady 0 (gives x)
gives-steady x = record { alike = λ ts us like. (refl, like, omega arith) }

bind-alike : {A B : Type 0} (n k : ℕ) (f : A → Rule B) → ((x : A) → Steady 0 (f x)) → (o u : Option (A × List Token)) → Alike n k o u
    → Alike n k (option_case o None (λ p. f p.0 p.1)) (option_case u None (λ p. f p.0 p.1))
bind-alike n k f s None None h = tt
bind-alike n k f s None (Some q) h = absurd h
bind-alike n k f s (Some p) None h = absurd h
bind-alike n k f s (Some p) (Some q) h = rw (h.0) (loosen (size p.1) 0 n k (omega (arith, h.2)) (f p.0 p.1) (f p.0 q.1) ((s p.0).alike p.1 q.1 h.1))

pub bind-steady : {A B : Type 0} (k : ℕ) (r : Rule A) (f : A → Rule B) → Steady k r → ((x : A) → Steady 0 (f x)) → Steady k (r >>= f)
bind-steady k r f h s = record { alike = λ ts us like. bind-alike (size ts) k f s (r ts) (r us) (h.alike ts us like) }

then-alike : {A B : Type 0} (n k : ℕ) (s : Rule B) → Steady 0 s → (o u : Option (A × List Token)) → Along n k o u
    → Alike n k (option_case o None (λ p. s p.1)) (option_case u None (λ p. s p.1))
then-alike n k s h None None e = tt
then-alike n k s h None (Some q) e = absurd e
then-alike n k s h (Some p) None e = absurd e
then-alike n k s h (Some p) (Some q) e = loosen (size p.1) 0 n k (omega (arith, e.1)) (s p.1) (s q.1) (h.alike p.1 q.1 e.0)

pub then-steady : {A B : Type 0} (k : ℕ) (r : Rule A) (s : Rule B) → Blind k r → Steady 0 s → Steady k (r >> s)
then-steady k r s h e = record { alike = λ ts us like. then-alike (size ts) k s e (r ts) (r us) (h.along ts us like) }

later-alike : {A B : Type 0} (n k : ℕ) (s : Rule B) → Steady k s → (o u : Option (A × List Token)) → Along n 0 o u
    → Alike n k (option_case o None (λ p. s p.1)) (option_case u None (λ p. s p.1))
later-alike n k s h None None e = tt
later-alike n k s h None (Some q) e = absurd e
later-alike n k s h (Some p) None e = absurd e
later-alike n k s h (Some p) (Some q) e = loosen (size p.1) k n k (omega (arith, e.1)) (s p.1) (s q.1) (h.alike p.1 q.1 e.0)

-- where the second rule takes the tokens
pub then-later : {A B : Type 0} (k : ℕ) (r : Rule A) (s : Rule B) → Blind 0 r → Steady k s → Steady k (r >> s)
then-later k r s h e = record { alike = λ ts us like. later-alike (size ts) k s e (r ts) (r us) (h.along ts us like) }

then-along : {A B : Type 0} (n : ℕ) (s : Rule B) → Blind 0 s → (o u : Option (A × List Token)) → Along n 0 o u
    → Along n 0 (option_case o None (λ p. s p.1)) (option_case u None (λ p. s p.1))
then-along n s h None None e = tt
then-along n s h None (Some q) e = absurd e
then-along n s h (Some p) None e = absurd e
then-along {B = B} n s h (Some p) (Some q) e = by (s p.1) (s q.1) (h.along p.1 q.1 e.0)
  where
    by : (o u : Option (B × List Token)) → Along (size p.1) 0 o u → Along n 0 o u
    by None None h = tt
    by None (Some b) h = absurd h
    by (Some a) None h = absurd h
    by (Some a) (Some b) h = (h.0, omega (arith, h.1, e.1))

pub then-blind : {A B : Type 0} (r : Rule A) (s : Rule B) → Blind 0 r → Blind 0 s → Blind 0 (r >> s)
then-blind r s h e = record { along = λ ts us like. then-along (size ts) s e (r ts) (r us) (h.along ts us like) }

mapped-alike : {A B : Type 0} (n k : ℕ) (f : A → B) (o u : Option (A × List Token)) → Alike n k o u
    → Alike n k (option_map (λ p. (f p.0, p.1)) o) (option_map (λ p. (f p.0, p.1)) u)
mapped-alike n k f None None h = tt
mapped-alike n k f None (Some q) h = absurd h
mapped-alike n k f (Some p) None h = absurd h
mapped-alike n k f (Some p) (Some q) h = (ap f h.0, h.1, h.2)

pub mapped-steady : {A B : Type 0} (k : ℕ) (f : A → B) (r : Rule A) → Steady k r → Steady k (mapped f r)
mapped-steady k f r h = record { alike = λ ts us like. mapped-alike (size ts) k f (r ts) (r us) (h.alike ts us like) }

const-alike : {A B : Type 0} (n k : ℕ) (x : B) (o u : Option (A × List Token)) → Along n k o u
    → Alike n k (option_map (λ p. (x, p.1)) o) (option_map (λ p. (x, p.1)) u)
const-alike n k x None None h = tt
const-alike n k x None (Some q) h = absurd h
const-alike n k x (Some p) None h = absurd h
const-alike n k x (Some p) (Some q) h = (refl, h.0, h.1)

-- the rule for one value, whatever the tokens
pub const-steady : {A B : Type 0} (x : B) (r : Rule A) → Blind 0 r → Steady 0 (mapped (λ _. x) r)
const-steady x r h = record { alike = λ ts us like. const-alike (size ts) 0 x (r ts) (r us) (h.along ts us like) }

-- ---- one rule or another

or-alike : {A : Type 0} (k : ℕ) (s : Rule A) → Steady k s → (ts us : List Token) → Like ts us → (o u : Option (A × List Token)) → Alike (size ts) k o u
    → Alike (size ts) k (or_else o s ts) (or_else u s us)
or-alike k s e ts us like None None h = e.alike ts us like
or-alike k s e ts us like None (Some q) h = absurd h
or-alike k s e ts us like (Some p) None h = absurd h
or-alike k s e ts us like (Some p) (Some q) h = h

pub or-steady : {A : Type 0} (k : ℕ) (r s : Rule A) → Steady k r → Steady k s → Steady k (r or s)
or-steady k r s h e = record { alike = λ ts us like. or-alike k s e ts us like (r ts) (r us) (h.alike ts us like) }

pub maybe-steady : {A : Type 0} (r : Rule A) → Steady 0 r → Steady 0 (maybe r)
maybe-steady r h = or-steady 0 (mapped Some r) (gives None) (mapped-steady 0 Some r h) (gives-steady None)

maybe-along : {A : Type 0} (ts us : List Token) → Like ts us → (o u : Option (A × List Token)) → Along (size ts) 0 o u
    → Along (size ts) 0 (or_else (option_map (λ p. (Some p.0, p.1)) o) (gives None) ts) (or_else (option_map (λ p. (Some p.0, p.1)) u) (gives None) us)
maybe-along ts us like None None h = (like, omega arith)
maybe-along ts us like None (Some q) h = absurd h
maybe-along ts us like (Some p) None h = absurd h
maybe-along ts us like (Some p) (Some q) h = h

pub maybe-blind : {A : Type 0} (r : Rule A) → Blind 0 r → Blind 0 (maybe r)
maybe-blind r h = record { along = λ ts us like. maybe-along ts us like (r ts) (r us) (h.along ts us like) }

-- ---- a rule again and again

cons-alike : {A : Type 0} (n : ℕ) (x : A) (o u : Option (List A × List Token)) → Alike n 0 o u
    → Alike n 0 (option_map (λ q. (x ∷ q.0, q.1)) o) (option_map (λ q. (x ∷ q.0, q.1)) u)
cons-alike n x None None h = tt
cons-alike n x None (Some q) h = absurd h
cons-alike n x (Some p) None h = absurd h
cons-alike n x (Some p) (Some q) h = (ap (λ xs. x ∷ xs) h.0, h.1, h.2)

right-end : {A : Type 0} (ts us : List Token) (f : A × List Token → Option (List A × List Token)) → Like ts us → size ts ≤ 0 → (o u : Option (A × List Token)) → Alike (size ts) 1 o u
    → Alike (size ts) 0 (Some ([], ts)) (option_case u (Some ([], us)) f)
right-end ts us f like none None None h = (refl, like, omega arith)
right-end ts us f like none None (Some q) h = absurd h
right-end ts us f like none (Some p) None h = absurd h
right-end ts us f like none (Some p) (Some q) h = absurd (omega (arith, none, h.2))

left-end : {A : Type 0} (ts us : List Token) (f : A × List Token → Option (List A × List Token)) → Like ts us → size ts ≤ 0 → (o u : Option (A × List Token)) → Alike (size ts) 1 o u
    → Alike (size ts) 0 (option_case o (Some ([], ts)) f) (Some ([], us))
left-end ts us f like none None None h = (refl, like, omega arith)
left-end ts us f like none None (Some q) h = absurd h
left-end ts us f like none (Some p) None h = absurd h
left-end ts us f like none (Some p) (Some q) h = absurd (omega (arith, none, h.2))

again-alike : {A : Type 0} (n m : ℕ) (r : Rule A) (ts us : List Token) → Like ts us → size ts ≤ suc n → size ts ≤ suc m
    → ((vs ws : List Token) → Like vs ws → size vs ≤ n → size vs ≤ m → Alike (size vs) 0 (many_times n r vs) (many_times m r ws))
    → (o u : Option (A × List Token)) → Alike (size ts) 1 o u
    → Alike (size ts) 0 (option_case o (Some ([], ts)) (λ p. option_map (λ q. (p.0 ∷ q.0, q.1)) (many_times n r p.1)))
    (option_case u (Some ([], us)) (λ p. option_map (λ q. (p.0 ∷ q.0, q.1)) (many_times m r p.1)))
again-alike n m r ts us like a b more None None h = (refl, like, omega arith)
again-alike n m r ts us like a b more None (Some q) h = absurd h
again-alike n m r ts us like a b more (Some p) None h = absurd h
again-alike n m r ts us like a b more (Some p) (Some q) h =
    let rest = cons-alike (size p.1) p.0 (many_times n r p.1) (many_times m r q.1) (more p.1 q.1 h.1 (omega (arith, a, h.2)) (omega (arith, b, h.2))) in
    rw (h.0) (loosen (size p.1) 0 (size ts) 0 (omega (arith, h.2)) (option_map (λ x. (p.0 ∷ x.0, x.1)) (many_times n r p.1)) (option_map (λ x. (p.0 ∷ x.0, x.1)) (many_times m r q.1)) rest)

times-alike : {A : Type 0} (n m : ℕ) (r : Rule A) → Steady 1 r → (ts us : List Token) → Like ts us → size ts ≤ n → size ts ≤ m → Alike (size ts) 0 (many_times n r ts) (many_times m r us)
times-alike zero zero r h ts us like a b = (refl, like, omega arith)
times-alike zero (suc m) r h ts us like a b = right-end ts us (λ p. option_map (λ q. (p.0 ∷ q.0, q.1)) (many_times m r p.1)) like a (r ts) (r us) (h.alike ts us like)
times-alike (suc n) zero r h ts us like a b = left-end ts us (λ p. option_map (λ q. (p.0 ∷ q.0, q.1)) (many_times n r p.1)) like b (r ts) (r us) (h.alike ts us like)
times-alike (suc n) (suc m) r h ts us like a b = again-alike n m r ts us like a b (λ vs ws. times-alike n m r h vs ws) (r ts) (r us) (h.alike ts us like)

size-within : (ts : List Token) → size ts ≤ length ts
size-within [] = omega arith
size-within (t ∷ ts) = by (is_order t) (size-within ts)
  where
    by : (b : Bool) → size ts ≤ length ts → cond b 0 (suc (size ts)) ≤ suc (length ts)
    by true h = omega arith
    by false h = omega (arith, h)

size-like : (ts us : List Token) → Like ts us → size ts ≤ length us
size-like [] us like = omega arith
size-like (t ∷ ts) [] like = rw (like) (omega arith)
size-like (t ∷ ts) (u ∷ us) like = by (is_order t) (is_order u) like (λ h. size-like ts us h)
  where
    by : (b c : Bool) → Near b c t u (Like ts us) → (Like ts us → size ts ≤ length us) → cond b 0 (suc (size ts)) ≤ suc (length us)
    by true c near h = omega arith
    by false true near h = absurd near
    by false false near h = omega (arith, h near.2)

pub many-steady : {A : Type 0} (r : Rule A) → Steady 1 r → Steady 0 (many r)
many-steady r h = record { alike = λ ts us like. times-alike (length ts) (length us) r h ts us like (size-within ts) (size-like ts us like) }

-- ---- tokens

order-fails : (f : TokenKind → List ℕ → Bool) → f kinds.Name (codes "ORDER") ≡ false → (kind : TokenKind) (text : List ℕ)
    → (same_kind kind kinds.Name && same_text text (codes "ORDER")) ≡ true → f kind text ≡ false
order-fails f h kinds.Name text e = let same : text ≡ codes "ORDER" = (bytes_eq-Decides text (codes "ORDER")).0 e in rw (same) h
order-fails f h kinds.Number text e = cc
order-fails f h kinds.Text text e = cc
order-fails f h kinds.Mark text e = cc

abbrev read : {A : Type 0} → (List ℕ → A) → Bool → Token → List Token → Option (A × List Token)
read g b t ts = option_map {T = Token × List Token} (λ p. (g p.0.text, p.1)) (where_true b (t, ts))

taken : {A : Type 0} (g : List ℕ → A) (b : Bool) (t u : Token) (ts us : List Token) → u.text ≡ t.text → Like ts us → Alike (suc (size ts)) 1 (read g b t ts) (read g b u us)
taken g true t u ts us e like = (ap g e, like, omega arith)
taken g false t u ts us e like = tt

near-read : {A : Type 0} (f : TokenKind → List ℕ → Bool) (g : List ℕ → A) → f kinds.Name (codes "ORDER") ≡ false → (t u : Token) (ts us : List Token) (b c : Bool)
    → is_order t ≡ b → is_order u ≡ c → Near b c t u (Like ts us)
    → Alike (cond b 0 (suc (size ts))) 1 (read g (f t.kind t.text) t ts) (read g (f u.kind u.text) u us)
near-read f g h t u ts us true true d e near = rw (order-fails f h t.kind t.text d, order-fails f h u.kind u.text e) tt
near-read f g h t u ts us true false d e near = absurd near
near-read f g h t u ts us false true d e near = absurd near
near-read f g h t u ts us false false d e near =
    let same : f t.kind t.text ≡ f u.kind u.text = ap₂ f near.0 near.1 in
    subst (λ (b : Bool). Alike (suc (size ts)) 1 (read g (f t.kind t.text) t ts) (read g b u us)) same (taken g (f t.kind t.text) t u ts us (sym near.1) near.2)

-- a rule of one token, by its kind and text; the word ORDER doesn't pass
abbrev token_by : {A : Type 0} → (TokenKind → List ℕ → Bool) → (List ℕ → A) → Rule A
token_by f g = mapped (λ t. g t.text) (token_where (λ t. f t.kind t.text))

token-alike : {A : Type 0} (f : TokenKind → List ℕ → Bool) (g : List ℕ → A) → f kinds.Name (codes "ORDER") ≡ false → (ts us : List Token) → Like ts us → Alike (size ts) 1 (token_by f g ts) (token_by f g us)
token-alike f g h [] [] like = tt
token-alike f g h [] (u ∷ us) like = rw (order-fails f h u.kind u.text like) tt
token-alike f g h (t ∷ ts) [] like = rw (order-fails f h t.kind t.text like) tt
token-alike f g h (t ∷ ts) (u ∷ us) like = near-read f g h t u ts us (is_order t) (is_order u) refl refl like

pub token-steady : {A : Type 0} (f : TokenKind → List ℕ → Bool) (g : List ℕ → A) → f kinds.Name (codes "ORDER") ≡ false → Steady 1 (mapped (λ t. g t.text) (token_where (λ t. f t.kind t.text)))
token-steady f g h = record { alike = token-alike f g h }

along-read : {A : Type 0} (n : ℕ) (g : List ℕ → A) (o u : Option (Token × List Token)) → Alike n 1 (option_map (λ p. (g p.0.text, p.1)) o) (option_map (λ p. (g p.0.text, p.1)) u) → Along n 1 o u
along-read n g None None h = tt
along-read n g None (Some q) h = absurd h
along-read n g (Some p) None h = absurd h
along-read n g (Some p) (Some q) h = (h.1, h.2)

pub token-blind : (f : TokenKind → List ℕ → Bool) → f kinds.Name (codes "ORDER") ≡ false → Blind 1 (token_where (λ t. f t.kind t.text))
token-blind f h = record {
  along = λ ts us like. along-read (size ts) (λ text. text) (token_where (λ t. f t.kind t.text) ts) (token_where (λ t. f t.kind t.text) us) (token-alike f (λ text. text) h ts us like);
}

-- another keyword than ORDER
pub word-first : (w : List ℕ) → same_text (codes "ORDER") w ≡ false → Blind 1 (word w)
word-first w h = token-blind (λ kind text. same_token_kind kind kinds.Name && same_text text w) h

pub word-blind : (w : List ℕ) → same_text (codes "ORDER") w ≡ false → Blind 0 (word w)
word-blind w h = blind-weaker (word w) (word-first w h)

pub mark-first : (m : List ℕ) → Blind 1 (mark m)
mark-first m = token-blind (λ kind text. same_token_kind kind kinds.Mark && same_text text m) refl

pub mark-blind : (m : List ℕ) → Blind 0 (mark m)
mark-blind m = blind-weaker (mark m) (mark-first m)

-- ---- lists and brackets

pub listed-steady : {A : Type 0} (r : Rule A) → Steady 0 r → Steady 0 (listed r)
listed-steady r h =
    bind-steady 0 r (λ x. many (mark (codes ",") >> r) >>= (λ xs. gives (x ∷ xs))) h (λ x.
    bind-steady 0 (many (mark (codes ",") >> r)) (λ xs. gives (x ∷ xs)) (many-steady (mark (codes ",") >> r) (then-steady 1 (mark (codes ",")) r (mark-first (codes ",")) h)) (λ xs. gives-steady (x ∷ xs)))

pub bracketed-steady : {A : Type 0} (r : Rule A) → Steady 0 r → Steady 0 (bracketed r)
bracketed-steady r h =
    bind-steady 0 (mark (codes "(") >> r) (λ x. mark (codes ")") >> gives x) (then-steady 0 (mark (codes "(")) r (mark-blind (codes "(")) h) (λ x.
    then-steady 0 (mark (codes ")")) (gives x) (mark-blind (codes ")")) (gives-steady x))

pub optional-steady : {A : Type 0} (r : Rule (List A)) → Steady 0 r → Steady 0 (optional_list r)
optional-steady r h = mapped-steady 0 (λ o. unwrap_or o []) (maybe r) (maybe-steady r h)
