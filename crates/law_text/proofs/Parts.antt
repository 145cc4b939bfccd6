-- Texts that are equal up to ORDER BY read as queries that are equal in all but ORDER BY.
use Rattle.std.proofs.Common.{◌≡◌, ℕ, List, [], ◌∷◌, refl, subst₂, true, false, Bool, cond, not, take_while, Option, Some, None, codes, ℤ}
use Rattle.std.proofs.lemmas.Bool.{and_parts}
use Rattle.std.proofs.lemmas.List.Sums.{take_while-cons}
use Rattle.std.proofs.lemmas.Slice.Eq.{bytes_eq-Decides}
use Rattle.wh_base.specs.Lists.{is_empty, option_case, same_text, where_true}
use Rattle.wh_base.specs.declared.queries.ColName.{ColName}
use Rattle.wh_base.specs.declared.queries.RawCondition.{RawCondition}
use Rattle.wh_base.specs.declared.queries.RawItem.{RawItem}
use Rattle.wh_base.specs.declared.queries.RawKey.{RawKey}
use Rattle.wh_base.specs.declared.queries.RawQuery.{RawQuery}
use Rattle.wh_base.specs.declared.queries.RawTable.{RawTable}
use Rattle.wh_base.specs.declared.queries.RawTest.{RawTest}
use Rattle.wh_base.specs.declared.tokens.Token.{Token}
use Rattle.wh_base.specs.declared.tokens.TokenKind.{TokenKind}
use Rattle.wh_base.specs.declared.tokens.TokenKind.TheVariants as kinds
use Rattle.def_grammar.specs.Query.{as_of, from_tables, item, order_key, select, where_conditions}
use Rattle.def_grammar.specs.Reading.{Rule, gives, listed, optional_list, whole, word, ◌>>=◌, ◌>>◌}
use Rattle.def_rewriting.specs.Matching.{FullText, NoText, PartialText, before_order, from_on, match_text, same_kind, same_token, same_tokens}
use Rattle.law_text.specs.Unordered.{without_order}
use Rattle.law_text.proofs.Clauses.{as_of-steady, from-steady, groups, groups-steady, havings, havings-steady, items-steady, where-steady}
use Rattle.law_text.proofs.Steady.{Along, Alike, Blind, Like, Near, Steady, is_order, size, word-blind}

-- ---- tokens that match are equal up to ORDER

kinds-same : (k l : TokenKind) → same_kind k l ≡ true → k ≡ l
kinds-same kinds.Name kinds.Name h = refl
kinds-same kinds.Name kinds.Number h = cc
kinds-same kinds.Name kinds.Text h = cc
kinds-same kinds.Name kinds.Mark h = cc
kinds-same kinds.Number kinds.Name h = cc
kinds-same kinds.Number kinds.Number h = refl
kinds-same kinds.Number kinds.Text h = cc
kinds-same kinds.Number kinds.Mark h = cc
kinds-same kinds.Text kinds.Name h = cc
kinds-same kinds.Text kinds.Number h = cc
kinds-same kinds.Text kinds.Text h = refl
kinds-same kinds.Text kinds.Mark h = cc
kinds-same kinds.Mark kinds.Name h = cc
kinds-same kinds.Mark kinds.Number h = cc
kinds-same kinds.Mark kinds.Text h = cc
kinds-same kinds.Mark kinds.Mark h = refl

texts-same : (x y : List ℕ) → same_text x y ≡ true → x ≡ y
texts-same x y h = (bytes_eq-Decides x y).0 h

near-same : (t u : Token) (xs ys : List Token) (more : Type 0) (b c : Bool) → (same_tokens xs ys ≡ true → more)
    → same_tokens (cond (not b) (t ∷ xs) []) (cond (not c) (u ∷ ys) []) ≡ true → Near b c t u more
near-same t u xs ys more true true next h = tt
near-same t u xs ys more true false next h = cc
near-same t u xs ys more false true next h = cc
near-same t u xs ys more false false next h =
    let both = and_parts (same_token t u) (same_tokens xs ys) h in
    let token = and_parts (same_kind t.kind u.kind) (same_text t.text u.text) both.0 in
    (kinds-same t.kind u.kind token.0, texts-same t.text u.text token.1, next both.1)

end-same : (t : Token) (xs : List Token) (b : Bool) → is_order t ≡ b → same_tokens [] (cond (not b) (t ∷ xs) []) ≡ true → is_order t ≡ true
end-same t xs true e h = e
end-same t xs false e h = cc

same-end : (t : Token) (xs : List Token) (b : Bool) → is_order t ≡ b → same_tokens (cond (not b) (t ∷ xs) []) [] ≡ true → is_order t ≡ true
same-end t xs true e h = e
same-end t xs false e h = cc

abbrev is_before : Token → Bool
is_before t = not (is_order t)

pub like-same : (ts us : List Token) → same_tokens (take_while is_before ts) (take_while is_before us) ≡ true → Like ts us
like-same [] [] h = tt
like-same [] (u ∷ us) h = let same = rw (take_while-cons is_before u us) at h in end-same u (take_while is_before us) (is_order u) refl same
like-same (t ∷ ts) [] h = let same = rw (take_while-cons is_before t ts) at h in same-end t (take_while is_before ts) (is_order t) refl same
like-same (t ∷ ts) (u ∷ us) h =
    let same = rw (take_while-cons is_before t ts, take_while-cons is_before u us) at h in
    near-same t u (take_while is_before ts) (take_while is_before us) (Like ts us) (is_order t) (is_order u) (λ k. like-same ts us k) same

full-true : (b c : Bool) → cond b FullText (cond c PartialText NoText) ≡ FullText → b ≡ true
full-true true c h = refl
full-true false true h = cc
full-true false false h = cc

pub full-like : (s t : List Token) → match_text s t ≡ FullText → Like s t
full-like s t h = like-same s t (full-true (same_tokens (before_order s) (before_order t)) (same_tokens (from_on (before_order s)) (from_on (before_order t))) h)

-- ---- queries that are equal in all but ORDER BY

-- where both read a query
abbrev pub Agree : Option (RawQuery × List Token) → Option (RawQuery × List Token) → Type 0
Agree None u = Unit {0}
Agree (Some p) None = Unit {0}
Agree (Some p) (Some q) = without_order p.0 ≡ without_order q.0

-- a rule that reads such queries from all tokens that are equal up to ORDER
pub record Settled (r : Rule RawQuery) : Type 0 where
  pub agree : (ts us : List Token) → Like ts us → Agree (r ts) (r us)

bind-agree : {A : Type 0} (n : ℕ) (f : A → Rule RawQuery) → ((x : A) → Settled (f x)) → (o u : Option (A × List Token)) → Alike n 0 o u
    → Agree (option_case o None (λ p. f p.0 p.1)) (option_case u None (λ p. f p.0 p.1))
bind-agree n f s None None h = tt
bind-agree n f s None (Some q) h = tt
bind-agree n f s (Some p) None h = absurd h
bind-agree n f s (Some p) (Some q) h = rw (h.0) ((s p.0).agree p.1 q.1 h.1)

bind-settled : {A : Type 0} (r : Rule A) (f : A → Rule RawQuery) → Steady 0 r → ((x : A) → Settled (f x)) → Settled (r >>= f)
bind-settled r f h s = record { agree = λ ts us like. bind-agree (size ts) f s (r ts) (r us) (h.alike ts us like) }

then-agree : {A : Type 0} (n : ℕ) (s : Rule RawQuery) → Settled s → (o u : Option (A × List Token)) → Along n 0 o u
    → Agree (option_case o None (λ p. s p.1)) (option_case u None (λ p. s p.1))
then-agree n s e None None h = tt
then-agree n s e None (Some q) h = tt
then-agree n s e (Some p) None h = absurd h
then-agree n s e (Some p) (Some q) h = e.agree p.1 q.1 h.0

then-settled : {A : Type 0} (r : Rule A) (s : Rule RawQuery) → Blind 0 r → Settled s → Settled (r >> s)
then-settled r s h e = record { agree = λ ts us like. then-agree (size ts) s e (r ts) (r us) (h.along ts us like) }

abbrev pub keys : Rule (List RawKey)
keys = optional_list (word (codes "ORDER") >> word (codes "BY") >> listed order_key)

abbrev pub made : List RawItem → List RawTable → Option ℤ → List RawCondition → List ColName → List RawTest → List RawKey → RawQuery
made i t s c g h o = record { items = i; tables = t; as_of = s; conditions = c; groups = g; having = h; order = o }

-- whatever ORDER BY reads as
keys-agree : (i : List RawItem) (t : List RawTable) (s : Option ℤ) (c : List RawCondition) (g : List ColName) (h : List RawTest) (o u : Option (List RawKey × List Token))
    → Agree (option_case o None (λ p. gives (made i t s c g h p.0) p.1)) (option_case u None (λ p. gives (made i t s c g h p.0) p.1))
keys-agree i t s c g h None u = tt
keys-agree i t s c g h (Some p) None = tt
keys-agree i t s c g h (Some p) (Some q) = refl

keys-settled : (i : List RawItem) (t : List RawTable) (s : Option ℤ) (c : List RawCondition) (g : List ColName) (h : List RawTest) → Settled (keys >>= (λ o. gives (made i t s c g h o)))
keys-settled i t s c g h = record { agree = λ ts us like. keys-agree i t s c g h (keys ts) (keys us) }

abbrev rest_of : List RawItem → List RawTable → Option ℤ → Rule RawQuery
rest_of i t s = where_conditions >>= (λ c. groups >>= (λ g. havings >>= (λ h. keys >>= (λ o. gives (made i t s c g h o)))))

rest-settled : (i : List RawItem) (t : List RawTable) (s : Option ℤ) → Settled (rest_of i t s)
rest-settled i t s =
    bind-settled where_conditions (λ c. groups >>= (λ g. havings >>= (λ h. keys >>= (λ o. gives (made i t s c g h o))))) where-steady (λ c.
    bind-settled groups (λ g. havings >>= (λ h. keys >>= (λ o. gives (made i t s c g h o)))) groups-steady (λ g.
    bind-settled havings (λ h. keys >>= (λ o. gives (made i t s c g h o))) havings-steady (λ h. keys-settled i t s c g h)))

pub from-settled : (i : List RawItem) → Settled (word (codes "FROM") >> (from_tables >>= (λ t. as_of >>= (λ s. rest_of i t s))))
from-settled i =
    then-settled (word (codes "FROM")) (from_tables >>= (λ t. as_of >>= (λ s. rest_of i t s))) (word-blind (codes "FROM") refl)
    (bind-settled from_tables (λ t. as_of >>= (λ s. rest_of i t s)) from-steady (λ t.
    bind-settled as_of (λ s. rest_of i t s) as_of-steady (λ s. rest-settled i t s)))

select-settled : Settled select
select-settled =
    then-settled (word (codes "SELECT")) (listed item >>= (λ i. word (codes "FROM") >> (from_tables >>= (λ t. as_of >>= (λ s. rest_of i t s))))) (word-blind (codes "SELECT") refl)
    (bind-settled (listed item) (λ i. word (codes "FROM") >> (from_tables >>= (λ t. as_of >>= (λ s. rest_of i t s)))) items-steady from-settled)

-- ---- the laws

pub front-parts : (s t rest more : List Token) (a b : RawQuery) → match_text s t ≡ FullText → select s ≡ Some (a, rest) → select t ≡ Some (b, more) → without_order a ≡ without_order b
front-parts s t rest more a b h left right = subst₂ (λ (o u : Option (RawQuery × List Token)). Agree o u) left right (select-settled.agree s t (full-like s t h))

whole-agree : (o u : Option (RawQuery × List Token)) (a b : RawQuery) → Agree o u → option_case o None (λ p. where_true (is_empty p.1) p.0) ≡ Some a
    → option_case u None (λ p. where_true (is_empty p.1) p.0) ≡ Some b → without_order a ≡ without_order b
whole-agree None u a b h left right = cc
whole-agree (Some p) None a b h left right = cc
whole-agree (Some p) (Some q) a b h left right = subst₂ (λ (x y : RawQuery). without_order x ≡ without_order y) (read-all (is_empty p.1) p.0 a left) (read-all (is_empty q.1) q.0 b right) h
  where
    read-all : (e : Bool) (x y : RawQuery) → where_true e x ≡ Some y → x ≡ y
    read-all true x y h = cc
    read-all false x y h = cc

pub whole-parts : (s t : List Token) (a b : RawQuery) → match_text s t ≡ FullText → whole select s ≡ Some a → whole select t ≡ Some b → without_order a ≡ without_order b
whole-parts s t a b h left right = whole-agree (select s) (select t) a b (select-settled.agree s t (full-like s t h)) left right
