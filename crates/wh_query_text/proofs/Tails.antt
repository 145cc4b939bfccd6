-- A condition is its column and what stands behind it.
use Rattle.std.proofs.Common.{◌≡◌, List, Option, Some, None, refl}
use Rattle.std.specs.Prelude.{codes, option_map}
use Rattle.def_grammar.specs.Query.{column, condition_on, literal, operator}
use Rattle.def_grammar.specs.Reading.{Rule, bracketed, gives, listed, mapped, mark, or_else, word, ◌>>=◌, ◌>>◌}
use Rattle.wh_base.specs.Lists.{option_case}
use Rattle.wh_base.specs.declared.queries.ColName.{ColName}
use Rattle.wh_base.specs.declared.queries.RawCondition.TheVariants as raw
use Rattle.wh_base.specs.declared.tokens.Token.{Token}
use Rattle.wh_query_text.specs.Tail.{any_tail, between_tail, compare_tail, condition_with, equal_tail, null_tail, one_of_tail}
use Rattle.wh_query_text.specs.declared.query.conditions.ConditionTail.TheVariants as tails

-- what was read, changed
abbrev pub changed : {X Y : Type 0} → (X → Y) → Option (X × List Token) → Option (Y × List Token)
changed f o = option_map (λ p. (f p.0, p.1)) o

-- behind a first rule
pub behind : {A X Y : Type 0} (f : X → Y) (o : Option (A × List Token)) (k : A × List Token → Option (Y × List Token)) (m : A × List Token → Option (X × List Token)) → ((p : A × List Token) → k p ≡ changed f (m p)) → option_case o None k ≡ changed f (option_case o None m)
behind f None k m h = refl
behind f (Some p) k m h = h p

-- changed twice
twice : {A X Y : Type 0} (f : X → Y) (g : A → X) (o : Option (A × List Token)) → changed (λ x. f (g x)) o ≡ changed f (changed g o)
twice f g None = refl
twice f g (Some p) = refl

-- one alternative and the others
either : {X Y : Type 0} (f : X → Y) (a : Option (Y × List Token)) (o : Option (X × List Token)) (r : Rule Y) (s : Rule X) (ts : List Token) → a ≡ changed f o → r ts ≡ changed f (s ts) → or_else a r ts ≡ changed f (or_else o s ts)
either f a None r s ts e h = rw e h
either f a (Some p) r s ts e h = rw e refl

compare : (c : ColName) (ts : List Token) → (operator >>= (λ o. literal >>= (λ l. gives (raw.Compare c o l)))) ts ≡ changed (condition_with c) (compare_tail ts)
compare c ts = behind (condition_with c) (operator ts) _ _ (λ p. behind (condition_with c) (literal p.1) _ _ (λ q. refl))

between : (c : ColName) (ts : List Token) → (word (codes "BETWEEN") >>= (λ _. literal >>= (λ l. word (codes "AND") >>= (λ _. literal >>= (λ m. gives (raw.Between c l m)))))) ts ≡ changed (condition_with c) (between_tail ts)
between c ts = behind (condition_with c) (word (codes "BETWEEN") ts) _ _ (λ p. behind (condition_with c) (literal p.1) _ _ (λ q. behind (condition_with c) (word (codes "AND") q.1) _ _ (λ r. behind (condition_with c) (literal r.1) _ _ (λ s. refl))))

equal : (c : ColName) (ts : List Token) → (mark (codes "=") >>= (λ _. column >>= (λ d. gives (raw.Equal c d)))) ts ≡ changed (condition_with c) (equal_tail ts)
equal c ts = behind (condition_with c) (mark (codes "=") ts) _ _ (λ p. behind (condition_with c) (column p.1) _ _ (λ q. refl))

pub condition_on-tail : (c : ColName) (ts : List Token) → condition_on c ts ≡ mapped (condition_with c) any_tail ts
condition_on-tail c ts =
    either (condition_with c) _ (compare_tail ts) _ _ ts (compare c ts)
    (either (condition_with c) _ (between_tail ts) _ _ ts (between c ts)
    (either (condition_with c) _ (equal_tail ts) _ _ ts (equal c ts)
    (either (condition_with c) _ (one_of_tail ts) _ _ ts (twice (condition_with c) tails.OneOf ((word (codes "IN") >> bracketed (listed literal)) ts))
    (either (condition_with c) _ (null_tail ts) _ _ ts (twice (condition_with c) (λ _. tails.IsNull) ((word (codes "IS") >> word (codes "NULL")) ts))
    (twice (condition_with c) (λ _. tails.NotNull) ((word (codes "IS") >> word (codes "NOT") >> word (codes "NULL")) ts))))))

pub ruleset conditions = (condition_on-tail)
