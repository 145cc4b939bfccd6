-- The tokens that are kept with a SELECT read as its query.
use Rattle.std.proofs.Common.{◌≡◌, ◌-◌, List, [], length, arith, ap, sym, ◌∙◌, subst, Option, Some, None}
use Rattle.std.proofs.Math.Seq.{take-length}
use Rattle.std.specs.Prelude.{option_map, take}
use Rattle.wh_base.specs.Lists.{is_empty, option_case, where_true}
use Rattle.wh_base.specs.declared.queries.RawQuery.{RawQuery}
use Rattle.wh_base.specs.declared.statements.Asked.{Asked}
use Rattle.wh_base.specs.declared.tokens.Token.{Token}
use Rattle.def_grammar.specs.Forms.{asked}
use Rattle.def_grammar.specs.Query.{select}
use Rattle.def_grammar.specs.Reading.{whole}
use Rattle.law_views.specs.Read.{ReadsAs}

-- what a SELECT is read as, by the query that the grammar reads and what is left
abbrev asked_of : List Token → RawQuery × List Token → Asked × List Token
asked_of ts p = (record { query = p.0; tokens = take (length ts - length p.1) ts }, p.1)

-- nothing is left, so all tokens are those that were taken
all-taken : (ts : List Token) → take (length ts - 0) ts ≡ ts
all-taken ts = let all : length ts - 0 ≡ length ts = omega arith in ap (λ n. take n ts) all ∙ take-length ts

some-same : {T : Type 0} (p q : T) → Some p ≡ Some q → p ≡ q
some-same p q e = cc

-- the query is read of all tokens, and all of them are kept
record Taken (ts : List Token) (o : Option (RawQuery × List Token)) (a : Asked) : Type 0 where
  whole : option_case o None (λ p. where_true (is_empty p.1) p.0) ≡ Some a.query
  tokens : ts ≡ a.tokens

taken : (ts : List Token) (o : Option (RawQuery × List Token)) (a : Asked) → option_map (asked_of ts) o ≡ Some (a, []) → Taken ts o a
taken ts None a e = cc
taken ts (Some p) a e =
    let same : asked_of ts p ≡ (a, []) = some-same (asked_of ts p) (a, []) e in
    let left : p.1 ≡ [] = ap (λ r. r.1) same in
    record {
      whole = ap (λ rest. where_true (is_empty rest) p.0) left ∙ ap (λ r. Some r.0.query) same;
      tokens = sym (all-taken ts) ∙ ap (λ rest. take (length ts - length rest) ts) (sym left) ∙ ap (λ r. r.0.tokens) same;
    }

pub kept-reads : (tokens : List Token) (kept : Asked) → asked tokens ≡ Some (kept, []) → ReadsAs kept
kept-reads ts a e =
    let all : Taken ts (select ts) a = taken ts (select ts) a e in
    subst (λ us. whole select us ≡ Some a.query) all.tokens all.whole
