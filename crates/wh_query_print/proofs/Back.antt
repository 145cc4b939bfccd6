-- What is written reads back, and what reads can be written.
use Rattle.std.proofs.Common.{◌≡◌, ℕ, List, [], ◌∷◌, refl, ap, sym, ◌∙◌, map, subst, Option, Some, None, Result, Ok, Err}
use Rattle.wh_base.specs.Lists.{is_empty, option_case, where_true}
use Rattle.wh_base.specs.declared.queries.RawQuery.{RawQuery}
use Rattle.wh_lex.specs.Lex.{tokens_of}
use Rattle.wh_lex.specs.declared.lex.LexFault.{LexFault}
use Rattle.wh_base.specs.declared.tokens.Token.{Token}
use Rattle.def_grammar.specs.Canonical.{laid, query_text, query_tokens}
use Rattle.def_grammar.specs.Forms.{tokens_or_none}
use Rattle.def_grammar.specs.Query.{select}
use Rattle.def_grammar.specs.Reading.{whole}
use Rattle.def_grammar.specs.Written.{Each, IsSpelled, IsWritten, ReadsAs}
use Rattle.wh_query_print.specs.Kept.{unplaced}
use Rattle.wh_query_print.proofs.Laid.{AreTokens, laid-tokens}
use Rattle.wh_query_print.proofs.PlainTokens.{IsPlain, query-plain}
use Rattle.wh_query_print.proofs.ReadQuery.{query-read}
use Rattle.wh_query_print.proofs.Rules.{select-sound}
use Rattle.wh_query_print.proofs.Sound.{Alike}
use Rattle.wh_query_print.proofs.Spelled.{tokens-spelled}

plain-tokens : (ts : List Token) → Each IsPlain ts → Each IsSpelled ts
plain-tokens [] h = tt
plain-tokens (t ∷ ts) h = (h.0.0, plain-tokens ts h.1)

plain-same : (ts : List Token) → Each IsPlain ts → map unplaced ts ≡ ts
plain-same [] h = refl
plain-same (t ∷ ts) h = rw (h.0.1, plain-same ts h.1) refl

-- all of the tokens were read, and as this query
all-read : (q r : RawQuery) (rest : List Token) → q ≡ r → [] ≡ map unplaced rest → where_true (is_empty rest) r ≡ Some q
all-read q r [] same none = ap (λ x. Some x) (sym same)
all-read q r (t ∷ rest) same none = cc

whole-read : (q : RawQuery) (o : Option (RawQuery × List Token)) → Alike IsWritten o (Some (q, [])) → option_case o None (λ p. where_true (is_empty p.1) p.0) ≡ Some q
whole-read q None h = absurd h
whole-read q (Some p) h = all-read q p.0 p.1 h.0 h.2

text-read : (q : RawQuery) → IsWritten q → (text : List ℕ) (r : Result (List Token) LexFault) → tokens_of text ≡ r → AreTokens r (query_tokens q) → whole select (tokens_or_none r) ≡ Some q
text-read q h text (Ok ts) e same =
    let plain : Each IsPlain (query_tokens q) = query-plain q h in
    let bare : map unplaced ts ≡ query_tokens q = same ∙ plain-same (query_tokens q) plain in
    let read : select (map unplaced ts) ≡ Some (q, []) = ap (λ us. select us) bare ∙ query-read q h in
    whole-read q (select ts) (subst (λ o. Alike IsWritten (select ts) o) read (select-sound.alike ts (tokens-spelled text ts e)))
text-read q h text (Err e) same none = absurd none

pub reads-back : (q : RawQuery) → IsWritten q → ReadsAs (query_text q) q
unfolding query_text
reads-back q h =
    let text : List ℕ = laid (query_tokens q) in
    text-read q h text (tokens_of text) refl (laid-tokens (query_tokens q) (plain-tokens (query_tokens q) (query-plain q h)))

written-of : (q : RawQuery) (rest : List Token) (o u : Option (RawQuery × List Token)) → o ≡ Some (q, rest) → Alike IsWritten o u → IsWritten q
written-of q rest o None e h = let P : Option (RawQuery × List Token) → Type 0 = λ x. Alike IsWritten x None in absurd (subst P e h)
written-of q rest o (Some p) e h = let P : Option (RawQuery × List Token) → Type 0 = λ x. Alike IsWritten x (Some p) in (subst P e h).1

pub spelled-written : (ts rest : List Token) (q : RawQuery) → Each IsSpelled ts → select ts ≡ Some (q, rest) → IsWritten q
spelled-written ts rest q all read = written-of q rest (select ts) (select (map unplaced ts)) read (select-sound.alike ts all)

pub text-written : (text : List ℕ) (ts rest : List Token) (q : RawQuery) → tokens_of text ≡ Ok ts → select ts ≡ Some (q, rest) → IsWritten q
text-written text ts rest q e read = spelled-written ts rest q (tokens-spelled text ts e) read

-- a text is the canonical text of one query at most
pub one-query : (q r : RawQuery) → IsWritten q → IsWritten r → query_text q ≡ query_text r → q ≡ r
one-query q r h k same =
    let read : ReadsAs (query_text q) r = subst (λ t. ReadsAs t r) (sym same) (reads-back r k) in
    some-same q r (sym (reads-back q h) ∙ read)
  where
    some-same : (q r : RawQuery) → Some q ≡ Some r → q ≡ r
    some-same q r e = cc

pub ruleset laws = (reads-back)
