-- Texts that are equal from FROM on up to ORDER BY are queries that are equal in all but their items and ORDER BY.
use Rattle.std.proofs.Common.{◌≡◌, ◌∙◌, List, [], ◌∷◌, refl, ap, sym, subst₂, true, false, Bool, ◌&&◌, cond, not, Option, Some, None, codes, option_map}
use Rattle.std.proofs.lemmas.Bool.{and_parts}
use Rattle.std.proofs.lemmas.List.Sums.{take_while-cons}
use Rattle.std.proofs.lemmas.Slice.Eq.{bytes_eq-Decides}
use Rattle.wh_base.specs.Lists.{is_empty, option_case, same_text, where_true}
use Rattle.wh_base.specs.declared.queries.RawItem.{RawItem}
use Rattle.wh_base.specs.declared.queries.RawQuery.{RawQuery}
use Rattle.wh_base.specs.declared.tokens.Token.{Token}
use Rattle.wh_base.specs.declared.tokens.TokenKind.{TokenKind}
use Rattle.wh_base.specs.declared.tokens.TokenKind.TheVariants as kinds
use Rattle.def_grammar.specs.Query.{as_of, from_tables, item, select, where_conditions}
use Rattle.def_grammar.specs.Reading.{Rule, gives, is_token, listed, mapped, same_token_kind, whole, word, ◌>>=◌, ◌>>◌}
use Rattle.def_rewriting.specs.Matching.{FullText, NoText, PartialText, before_order, from_on, match_text, same_kind, same_tokens}
use Rattle.law_text.specs.Unordered.{from_written, without_order}
use Rattle.law_text.proofs.Clauses.{groups, havings}
use Rattle.law_text.proofs.Parts.{Agree, from-settled, keys, like-same, made}
use Rattle.law_text.proofs.Passing.{Left, is_from, items-passes, part, word-passes}
use Rattle.law_text.proofs.Steady.{Like, is_order}

-- what stands from FROM on, with these items
abbrev from_rule : List RawItem → Rule RawQuery
from_rule i =
    word (codes "FROM") >> (from_tables >>= (λ t. as_of >>= (λ s. where_conditions >>= (λ c. groups >>= (λ g. havings >>= (λ h. keys >>= (λ o. gives (made i t s c g h o))))))))

-- ---- the items are read by themselves

abbrev with_items : List RawItem → RawQuery → RawQuery
with_items i q = record q { items = i }

bind-case : {A B C : Type 0} (k : B → C) (f : A → Rule C) (g : A → Rule B) → ((x : A) (ts : List Token) → f x ts ≡ mapped k (g x) ts) → (o : Option (A × List Token))
    → option_case o None (λ p. f p.0 p.1) ≡ option_map (λ p. (k p.0, p.1)) (option_case o None (λ p. g p.0 p.1))
bind-case k f g h None = refl
bind-case k f g h (Some p) = h p.0 p.1

bind-mapped : {A B C : Type 0} (k : B → C) (r : Rule A) (f : A → Rule C) (g : A → Rule B) → ((x : A) (ts : List Token) → f x ts ≡ mapped k (g x) ts) → (ts : List Token) → (r >>= f) ts ≡ mapped k (r >>= g) ts
bind-mapped k r f g h ts = bind-case k f g h (r ts)

then-case : {A B C : Type 0} (k : B → C) (f : Rule C) (g : Rule B) → ((ts : List Token) → f ts ≡ mapped k g ts) → (o : Option (A × List Token))
    → option_case o None (λ p. f p.1) ≡ option_map (λ p. (k p.0, p.1)) (option_case o None (λ p. g p.1))
then-case k f g h None = refl
then-case k f g h (Some p) = h p.1

from-items : (i : List RawItem) (ts : List Token) → from_rule i ts ≡ mapped (with_items i) (from_rule []) ts
from-items i ts = then-case (with_items i) (rest i) (rest []) tables (word (codes "FROM") ts)
  where
    rest : List RawItem → Rule RawQuery
    rest j = from_tables >>= (λ t. as_of >>= (λ s. where_conditions >>= (λ c. groups >>= (λ g. havings >>= (λ h. keys >>= (λ o. gives (made j t s c g h o)))))))

    tables : (us : List Token) → rest i us ≡ mapped (with_items i) (rest []) us
    tables us =
        bind-mapped (with_items i) from_tables (λ t. as_of >>= (λ s. where_conditions >>= (λ c. groups >>= (λ g. havings >>= (λ h. keys >>= (λ o. gives (made i t s c g h o)))))))
        (λ t. as_of >>= (λ s. where_conditions >>= (λ c. groups >>= (λ g. havings >>= (λ h. keys >>= (λ o. gives (made [] t s c g h o))))))) (λ t.
        bind-mapped (with_items i) as_of (λ s. where_conditions >>= (λ c. groups >>= (λ g. havings >>= (λ h. keys >>= (λ o. gives (made i t s c g h o))))))
        (λ s. where_conditions >>= (λ c. groups >>= (λ g. havings >>= (λ h. keys >>= (λ o. gives (made [] t s c g h o)))))) (λ s.
        bind-mapped (with_items i) where_conditions (λ c. groups >>= (λ g. havings >>= (λ h. keys >>= (λ o. gives (made i t s c g h o)))))
        (λ c. groups >>= (λ g. havings >>= (λ h. keys >>= (λ o. gives (made [] t s c g h o))))) (λ c.
        bind-mapped (with_items i) groups (λ g. havings >>= (λ h. keys >>= (λ o. gives (made i t s c g h o)))) (λ g. havings >>= (λ h. keys >>= (λ o. gives (made [] t s c g h o)))) (λ g.
        bind-mapped (with_items i) havings (λ h. keys >>= (λ o. gives (made i t s c g h o))) (λ h. keys >>= (λ o. gives (made [] t s c g h o))) (λ h.
        bind-mapped (with_items i) keys (λ o. gives (made i t s c g h o)) (λ o. gives (made [] t s c g h o)) (λ o vs. refl)))))) us

-- ---- where FROM stands

record Begins (s : List Token) (p : RawQuery × List Token) : Type 0 where
  items : List RawItem
  at : List Token
  same : part s ≡ part at
  reads : from_rule items at ≡ Some p

begins : (s : List Token) (p : RawQuery × List Token) → select s ≡ Some p → Begins s p
begins s p h = by_word (word (codes "SELECT") s) ((word-passes (codes "SELECT") refl refl).left s) h
  where
    by_items : (ts : List Token) → part s ≡ part ts → (o : Option (List RawItem × List Token)) → Left ts o → option_case o None (λ q. from_rule q.0 q.1) ≡ Some p → Begins s p
    by_items ts e None l k = cc
    by_items ts e (Some q) l k = record { items = q.0; at = q.1; same = e ∙ l; reads = k }

    by_word : (o : Option (Token × List Token)) → Left s o → option_case o None (λ q. (listed item >>= from_rule) q.1) ≡ Some p → Begins s p
    by_word None l k = cc
    by_word (Some q) l k = by_items q.1 l (listed item q.1) (items-passes.left q.1) k

kind_is : (kind : TokenKind) → same_token_kind kind kinds.Name ≡ true → kind ≡ kinds.Name
kind_is kinds.Name h = refl
kind_is kinds.Number h = cc
kind_is kinds.Text h = cc
kind_is kinds.Mark h = cc

-- where the rule reads, FROM stands first
from-first : (i : List RawItem) (ts : List Token) (p : RawQuery × List Token) → from_rule i ts ≡ Some p → part ts ≡ before_order ts
from-first i [] p h = cc
from-first i (t ∷ ts) p h = by (is_token kinds.Name (codes "FROM") t) refl h
  where
    rest : Rule RawQuery
    rest = from_tables >>= (λ t. as_of >>= (λ s. where_conditions >>= (λ c. groups >>= (λ g. havings >>= (λ h. keys >>= (λ o. gives (made i t s c g h o)))))))

    by : (b : Bool) → is_token kinds.Name (codes "FROM") t ≡ b → option_case {A = Token × List Token} (where_true b (t, ts)) None (λ q. rest q.1) ≡ Some p → part (t ∷ ts) ≡ before_order (t ∷ ts)
    by true e k =
        let both : (same_token_kind t.kind kinds.Name ≡ true) × (same_text t.text (codes "FROM") ≡ true) = and_parts (same_token_kind t.kind kinds.Name) (same_text t.text (codes "FROM")) e in
        let kind : t.kind ≡ kinds.Name = kind_is t.kind both.0 in
        let text : t.text ≡ codes "FROM" = (bytes_eq-Decides t.text (codes "FROM")).0 both.1 in
        let from : is_from t ≡ true = λ j. same_kind (kind j) kinds.Name && same_text (text j) (codes "FROM") in
        let order : is_order t ≡ false = λ j. same_kind (kind j) kinds.Name && same_text (text j) (codes "ORDER") in
        let front : before_order (t ∷ ts) ≡ t ∷ before_order ts = take_while-cons (λ u. not (is_order u)) t ts ∙ ap (λ b. cond (not b) (t ∷ before_order ts) []) order in
        ap from_on front ∙ ap (λ b. cond b (t ∷ before_order ts) (from_on (before_order ts))) from ∙ sym front
    by false e k = cc

-- ---- the law

partial-true : (b c : Bool) → cond b FullText (cond c PartialText NoText) ≡ PartialText → c ≡ true
partial-true true c h = cc
partial-true false true h = refl
partial-true false false h = cc

read-from : (i : List RawItem) (o : Option (RawQuery × List Token)) (p : RawQuery × List Token) → option_map (λ q. (with_items i q.0, q.1)) o ≡ Some p
    → (q : RawQuery × List Token) × ((o ≡ Some q) × (from_written q.0 ≡ from_written p.0))
read-from i None p h = cc
read-from i (Some q) p h = (q, (refl, let same : (with_items i q.0, q.1) ≡ p = cc in ap (λ (x : RawQuery × List Token). from_written x.0) same))

pub front-from : (s t rest more : List Token) (a b : RawQuery) → match_text s t ≡ PartialText → select s ≡ Some (a, rest) → select t ≡ Some (b, more) → from_written a ≡ from_written b
front-from s t rest more a b h left right =
    let one : Begins s (a, rest) = begins s (a, rest) left in
    let two : Begins t (b, more) = begins t (b, more) right in
    let equal : same_tokens (part s) (part t) ≡ true = partial-true (same_tokens (before_order s) (before_order t)) (same_tokens (part s) (part t)) h in
    let like : Like one.at two.at = like-same one.at two.at
    ((λ j. same_tokens (sym (one.same ∙ from-first one.items one.at (a, rest) one.reads) j) (sym (two.same ∙ from-first two.items two.at (b, more) two.reads) j)) ∙ equal) in
    let first = read-from one.items (from_rule [] one.at) (a, rest) (sym (from-items one.items one.at) ∙ one.reads) in
    let second = read-from two.items (from_rule [] two.at) (b, more) (sym (from-items two.items two.at) ∙ two.reads) in
    let agree : without_order first.0.0 ≡ without_order second.0.0 = subst₂ (λ (o u : Option (RawQuery × List Token)). Agree o u) first.1.0 second.1.0 ((from-settled []).agree one.at two.at like) in
    sym first.1.1 ∙ ap (λ (x : RawQuery). from_written x) agree ∙ second.1.1

whole-read : (o : Option (RawQuery × List Token)) (a : RawQuery) → option_case o None (λ p. where_true (is_empty p.1) p.0) ≡ Some a → (rest : List Token) × (o ≡ Some (a, rest))
whole-read None a h = cc
whole-read (Some p) a h = (p.1, by (is_empty p.1) h)
  where
    by : (e : Bool) → where_true e p.0 ≡ Some a → Some p ≡ Some (a, p.1)
    by true k = let same : p.0 ≡ a = cc in ap (λ x. Some (x, p.1)) same
    by false k = cc

pub whole-from : (s t : List Token) (a b : RawQuery) → match_text s t ≡ PartialText → whole select s ≡ Some a → whole select t ≡ Some b → from_written a ≡ from_written b
whole-from s t a b h left right =
    let one = whole-read (select s) a left in
    let two = whole-read (select t) b right in
    front-from s t one.0 two.0 a b h one.1 two.1
