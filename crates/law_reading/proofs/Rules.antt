-- What holds of each value that a rule of the grammar reads.
use Rattle.std.proofs.Common.{◌≡◌, List, [], option_map, Option, None, Some}
use Rattle.wh_base.specs.Lists.{option_case}
use Rattle.wh_base.specs.declared.tokens.Token.{Token}
use Rattle.def_grammar.specs.Reading.{Rule, gives, mapped, or_else, ◌>>=◌, ◌>>◌, ◌or◌}

-- ---- whatever the tokens are

-- P of the value, where one is read
abbrev OfValue : {A : Type 0} → (A → Type 0) → Option (A × List Token) → Type 0
OfValue P None = Unit {0}
OfValue P (Some p) = P p.0

-- a rule that gives only values of which P holds
pub record Gives {A : Type 0} (P : A → Type 0) (r : Rule A) : Type 0 where
  pub value : (ts : List Token) → OfValue P (r ts)

pub gives-it : {A : Type 0} (P : A → Type 0) (x : A) → P x → Gives P (gives x)
gives-it P x h = record { value = λ ts. h }

bind-value : {A B : Type 0} (P : B → Type 0) (f : A → Rule B) → ((x : A) → Gives P (f x)) → (o : Option (A × List Token)) → OfValue P (option_case o None (λ p. f p.0 p.1))
bind-value P f k None = tt
bind-value P f k (Some p) = (k p.0).value p.1

pub bind-gives : {A B : Type 0} (P : B → Type 0) (r : Rule A) (f : A → Rule B) → ((x : A) → Gives P (f x)) → Gives P (r >>= f)
bind-gives P r f k = record { value = λ ts. bind-value P f k (r ts) }

then-value : {A B : Type 0} (P : B → Type 0) (s : Rule B) → Gives P s → (o : Option (A × List Token)) → OfValue P (option_case o None (λ p. s p.1))
then-value P s k None = tt
then-value P s k (Some p) = k.value p.1

pub then-gives : {A B : Type 0} (P : B → Type 0) (r : Rule A) (s : Rule B) → Gives P s → Gives P (r >> s)
then-gives P r s k = record { value = λ ts. then-value P s k (r ts) }

mapped-value : {A B : Type 0} (P : B → Type 0) (f : A → B) → ((x : A) → P (f x)) → (o : Option (A × List Token)) → OfValue P (option_map (λ p. (f p.0, p.1)) o)
mapped-value P f k None = tt
mapped-value P f k (Some p) = k p.0

pub mapped-gives : {A B : Type 0} (P : B → Type 0) (f : A → B) (r : Rule A) → ((x : A) → P (f x)) → Gives P (mapped f r)
mapped-gives P f r k = record { value = λ ts. mapped-value P f k (r ts) }

or-value : {A : Type 0} (P : A → Type 0) (s : Rule A) → Gives P s → (ts : List Token) → (o : Option (A × List Token)) → OfValue P o → OfValue P (or_else o s ts)
or-value P s k ts None h = k.value ts
or-value P s k ts (Some p) h = h

pub or-gives : {A : Type 0} (P : A → Type 0) (r s : Rule A) → Gives P r → Gives P s → Gives P (r or s)
or-gives P r s h k = record { value = λ ts. or-value P s k ts (r ts) (h.value ts) }

-- ---- what a rule reads of all of the tokens

-- P of the value that takes all of the tokens, where one is read
abbrev pub OfAll : {A : Type 0} → (A → Type 0) → Option (A × List Token) → Type 0
OfAll P None = Unit {0}
OfAll P (Some p) = p.1 ≡ [] → P p.0

-- a rule that gives only such values where it reads all of the tokens
pub record Ends {A : Type 0} (P : A → Type 0) (r : Rule A) : Type 0 where
  pub all : (ts : List Token) → OfAll P (r ts)

value-all : {A : Type 0} (P : A → Type 0) (o : Option (A × List Token)) → OfValue P o → OfAll P o
value-all P None h = tt
value-all P (Some p) h = λ none. h

pub gives-ends : {A : Type 0} (P : A → Type 0) (r : Rule A) → Gives P r → Ends P r
gives-ends P r h = record { all = λ ts. value-all P (r ts) (h.value ts) }

bind-all : {A B : Type 0} (P : B → Type 0) (f : A → Rule B) → ((x : A) → Ends P (f x)) → (o : Option (A × List Token)) → OfAll P (option_case o None (λ p. f p.0 p.1))
bind-all P f k None = tt
bind-all P f k (Some p) = (k p.0).all p.1

pub bind-ends : {A B : Type 0} (P : B → Type 0) (r : Rule A) (f : A → Rule B) → ((x : A) → Ends P (f x)) → Ends P (r >>= f)
bind-ends P r f k = record { all = λ ts. bind-all P f k (r ts) }

then-all : {A B : Type 0} (P : B → Type 0) (s : Rule B) → Ends P s → (o : Option (A × List Token)) → OfAll P (option_case o None (λ p. s p.1))
then-all P s k None = tt
then-all P s k (Some p) = k.all p.1

pub then-ends : {A B : Type 0} (P : B → Type 0) (r : Rule A) (s : Rule B) → Ends P s → Ends P (r >> s)
then-ends P r s k = record { all = λ ts. then-all P s k (r ts) }

mapped-all : {A B : Type 0} (P : A → Type 0) (Q : B → Type 0) (f : A → B) → ((x : A) → P x → Q (f x)) → (o : Option (A × List Token)) → OfAll P o → OfAll Q (option_map (λ p. (f p.0, p.1)) o)
mapped-all P Q f k None h = tt
mapped-all P Q f k (Some p) h = λ none. k p.0 (h none)

pub mapped-ends : {A B : Type 0} (P : A → Type 0) (Q : B → Type 0) (f : A → B) (r : Rule A) → Ends P r → ((x : A) → P x → Q (f x)) → Ends Q (mapped f r)
mapped-ends P Q f r h k = record { all = λ ts. mapped-all P Q f k (r ts) (h.all ts) }

-- a rule that reads last, and then a value of what it read
made-all : {A B : Type 0} (P : A → Type 0) (Q : B → Type 0) (f : A → B) → ((x : A) → P x → Q (f x)) → (o : Option (A × List Token)) → OfAll P o
    → OfAll Q (option_case o None (λ p. gives (f p.0) p.1))
made-all P Q f k None h = tt
made-all P Q f k (Some p) h = λ none. k p.0 (h none)

pub made-ends : {A B : Type 0} (P : A → Type 0) (Q : B → Type 0) (f : A → B) (r : Rule A) → Ends P r → ((x : A) → P x → Q (f x)) → Ends Q (r >>= (λ x. gives (f x)))
made-ends P Q f r h k = record { all = λ ts. made-all P Q f k (r ts) (h.all ts) }

or-all : {A : Type 0} (P : A → Type 0) (s : Rule A) → Ends P s → (ts : List Token) → (o : Option (A × List Token)) → OfAll P o → OfAll P (or_else o s ts)
or-all P s k ts None h = k.all ts
or-all P s k ts (Some p) h = h

pub or-ends : {A : Type 0} (P : A → Type 0) (r s : Rule A) → Ends P r → Ends P s → Ends P (r or s)
or-ends P r s h k = record { all = λ ts. or-all P s k ts (r ts) (h.all ts) }
