use Rattle.std.proofs.Common.{[], ◌∷◌, ◌++◌, ◌∙◌, ap, append_assoc, codes}
use Rattle.def_grammar.specs.Canonical.{bare}
use Rattle.wh_base.specs.Days.{day_text}
use Rattle.wh_base.specs.declared.tokens.TokenKind.TheVariants as kinds
use Rattle.wh_query_print.proofs.parts.push_date.Goals as goal

pub returns : goal.returns
returns c =
    let day = day_text c.args.day in
    c.in_ok-push_day.ensures
    ∙ ap (λ text. c.push.new.self ++ bare kinds.Text text ∷ []) c.day_bytes.ensures
    ∙ ap (λ tokens. tokens ++ bare kinds.Text day ∷ []) c.in_ok-push.ensures
    ∙ append_assoc c.args.out.now (bare kinds.Name (codes "DATE") ∷ []) (bare kinds.Text day ∷ [])
