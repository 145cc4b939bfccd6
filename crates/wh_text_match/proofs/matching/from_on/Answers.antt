use Rattle.std.proofs.Common.{◌∙◌, ap, drop}
use Rattle.wh_text_match.proofs.Fronts.{rest-is}
use Rattle.wh_text_match.proofs.matching.from_on.Goals as goal

pub returns : goal.returns
returns c = c.split_at.ensures.back ∙ ap (λ n. drop n c.args.tokens.now) c.count_before.ensures.count ∙ rest-is c.args.tokens.now
