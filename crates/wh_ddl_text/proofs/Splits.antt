-- A partition that is split is its name, its bound and its halves.
use Rattle.std.proofs.Common.{◌≡◌, ◌∙◌, ℕ, Err, List, Some, ap, refl}
use Rattle.std.specs.Prelude.{codes}
use Rattle.def_grammar.specs.Reading.{mapped, mark, name, word}
use Rattle.wh_base.specs.declared.tokens.Token.{Token}
use Rattle.wh_base.specs.declared.values.Literal.{Literal}
use Rattle.wh_ddl_text.specs.Pieces.{halves, split_from, split_with}
use Rattle.wh_base.specs.declared.statements.SplitPart.{SplitPart}
use Rattle.wh_query_text.specs.Parse.{Gives}
use Rattle.wh_query_text.specs.declared.parser.ParseFault.{ParseFault}
use Rattle.wh_query_text.specs.declared.parser.ParseFault.TheVariants as faults
use Rattle.wh_query_text.proofs.Tails.{behind, changed}

split_from-halves : (p : List ℕ) (v : Literal) (ts : List Token) → split_from p v ts ≡ mapped (split_with p v) halves ts
split_from-halves p v ts =
    behind (split_with p v) (mark (codes "(") ts) _ _ (λ a.
    behind (split_with p v) (word (codes "PARTITION") a.1) _ _ (λ b.
    behind (split_with p v) (name b.1) _ _ (λ l.
    behind (split_with p v) (mark (codes ",") l.1) _ _ (λ c.
    behind (split_with p v) (word (codes "PARTITION") c.1) _ _ (λ d.
    behind (split_with p v) (name d.1) _ _ (λ u.
    behind (split_with p v) (mark (codes ")") u.1) _ _ (λ e. refl)))))))

-- where its halves are read, and where they aren't
pub split-some : (p : List ℕ) (v : Literal) (ts more : List Token) (lower upper : List ℕ) → halves ts ≡ Some ((lower, upper), more) → split_from p v ts ≡ Some (record { name = p; at = v; lower = lower; upper = upper }, more)
split-some p v ts more lower upper e = split_from-halves p v ts ∙ ap (changed (split_with p v)) e

pub split-fault : (p : List ℕ) (v : Literal) (ts left : List Token) (fault : ParseFault) → Gives {X = List ℕ × List ℕ} (Err fault) left (halves ts) → Gives {X = SplitPart} (Err fault) left (split_from p v ts)
split-fault p v ts left faults.Memory h = tt
split-fault p v ts left faults.Syntax h = split_from-halves p v ts ∙ ap (changed (split_with p v)) h
