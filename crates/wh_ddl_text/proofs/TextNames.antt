-- A text that is a name, by the tokens of its first statement.
use Rattle.std.proofs.Common.{◌≡◌, ℕ, ◌≤◌, List, [], ◌∷◌, ◌++◌, length, Bool, true, false, Option, Some, None, Result, Ok, Err, cond, refl, ap, sym, ◌∙◌, arith, ◌&&◌, append-nil, subst}
use Rattle.std.proofs.Math.ListN.{drop_of_length-le}
use Rattle.std.proofs.lemmas.Bool.Decides.{nat_tests}
use Rattle.std.specs.Prelude.{◌==◌, is_none, option_to_list}
use Rattle.def_grammar.specs.Forms.{name_in, tokens_or_none}
use Rattle.def_grammar.specs.Reading.{Rule, is_name, mapped, name, same_token_kind, whole}
use Rattle.wh_base.specs.Lists.{is_empty, option_case, where_true}
use Rattle.wh_ddl_text.specs.Names.{only_name}
use Rattle.wh_lex.specs.Lex.{IsClosed, IsStatement, ends_statement, is_semicolon, tokens_at, tokens_of, with_front}
use Rattle.wh_lex.specs.declared.lex.LexFault.{LexFault}
use Rattle.wh_lex.specs.declared.lex.StatementTokens.{StatementTokens}
use Rattle.wh_base.specs.declared.tokens.Token.{Token}
use Rattle.wh_base.specs.declared.tokens.TokenKind.{TokenKind}
use Rattle.wh_base.specs.declared.tokens.TokenKind.TheVariants as kinds

-- no item, and no length
pub is_empty-length : {X : Type 0} (xs : List X) → is_empty xs ≡ (length xs == 0)
is_empty-length [] = refl
is_empty-length (x ∷ xs) = grind (arith, nat_tests)

pub ruleset empties = (is_empty-length)

-- the name that these tokens are, of this many bytes
abbrev pub named : ℕ → List Token → Option (List ℕ)
named len ts = option_case (whole name ts) None (λ n. where_true (length n == len) n)

abbrev pub text_of : Token → List ℕ
text_of t = t.text

abbrev pub first_where : Bool → Token → List Token → Rule Token
first_where is t ts us = where_true is (t, ts)

-- the name that this token is where it is one, with those behind it
abbrev pub named_by : ℕ → Token → List Token → Bool → Option (List ℕ)
named_by len t ts is = option_case (whole (mapped text_of (first_where is t ts)) []) None (λ n. where_true (length n == len) n)

-- two tokens are no name
two : (len : ℕ) (t u : Token) (ts : List Token) (is : Bool) → named_by len t (u ∷ ts) is ≡ None
two len t u ts true = refl
two len t u ts false = refl

more_than_one : (len : ℕ) (t u : Token) (ts : List Token) → named len (t ∷ u ∷ ts) ≡ None
more_than_one len t u ts = two len t u ts (is_name t)

-- a semicolon is no name
no_name : (k : TokenKind) (text : List ℕ) (other : Bool) → is_semicolon k text ≡ true → (same_token_kind k kinds.Name && other) ≡ false
no_name kinds.Name text other e = cc
no_name kinds.Number text other e = refl
no_name kinds.Text text other e = refl
no_name kinds.Mark text other e = refl

semicolon : (len : ℕ) (t : Token) (ts : List Token) → ends_statement t ≡ true → named len (t ∷ ts) ≡ None
semicolon len t ts e =
    let none : is_name t ≡ false = no_name t.kind t.text _ e in
    subst (λ b. named_by len t ts b ≡ None) (sym none) refl

-- tokens and a semicolon behind them are no name
closed_list : (len : ℕ) (ts : List Token) (t : Token) (more : List Token) → ends_statement t ≡ true → named len ((ts ++ t ∷ []) ++ more) ≡ None
closed_list len [] t more e = semicolon len t more e
closed_list len (u ∷ []) t more e = more_than_one len u t more
closed_list len (u ∷ v ∷ ts) t more e = more_than_one len u v _

tokens_at-end : (text : List ℕ) (place : ℕ) → length text ≤ place → tokens_at text place ≡ Ok []
unfolding tokens_at
tokens_at-end text place h = rw (drop_of_length-le text h) refl

tokens_of-at : (text : List ℕ) → tokens_of text ≡ tokens_at text 0
unfolding tokens_at tokens_of
tokens_of-at text = refl

by_end : (len : ℕ) (ts : List Token) (o : Option Token) (left : Result (List Token) LexFault) → (o ≡ None → left ≡ Ok []) → ((t : Token) → o ≡ Some t → ends_statement t ≡ true) → named len (tokens_or_none (with_front (ts ++ option_to_list o) left)) ≡ cond (is_none o) (named len ts) None
by_end len ts None left last ends = rw (last refl, append-nil ts, append-nil ts) refl
by_end len ts (Some t) (Ok more) last ends = closed_list len ts t more (ends t refl)
by_end len ts (Some t) (Err e) last ends = refl

pub name_in-by : (text : List ℕ) (s : StatementTokens) → IsStatement text 0 (tokens_at text 0) s → name_in text ≡ only_name s (length text)
name_in-by text s part =
    ap (λ r. named (length text) (tokens_or_none r)) (tokens_of-at text ∙ part.all)
    ∙ by_end (length text) s.tokens s.closed (tokens_at text s.next)
    (λ e. let end : s.next ≡ length text = subst (IsClosed text s.next) e part.closed in tokens_at-end text s.next (omega (arith, end)))
    (λ t e. subst (IsClosed text s.next) e part.closed)

pub name_in-fault : (text : List ℕ) (e : LexFault) → tokens_at text 0 ≡ Err e → name_in text ≡ None
name_in-fault text e h = ap (λ r. named (length text) (tokens_or_none r)) (tokens_of-at text ∙ h)

pub ruleset texts = (name_in-by, name_in-fault)
