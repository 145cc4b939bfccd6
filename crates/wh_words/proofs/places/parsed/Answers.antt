use Rattle.std.proofs.Common.{rules, ap, ap₂, codes, true, map, ◌≡◌, ◌∙◌}
use Rattle.clap.specs.Walk.{rule_of}
use Rattle.clap.specs.Simple.{App, app_of, app_of_fields, new_rule, on_top, with_rule}
use Rattle.wh_words.proofs.Command.{app, form_rule, named_app, parse_failed, parse_found}
use Rattle.wh_words.proofs.places.parsed.Goals as goal

pub returns : goal.returns
returns c =
    let form_is : rule_of c.required-form.result ≡ form_rule = search rules in
    let number_is : rule_of c.new-number.result ≡ new_rule (codes "number") = search rules in
    let named_is : app_of c.no_binary_name.result ≡ named_app =
    ap app_of_fields c.no_binary_name.ensures ∙ ap (λ (a : App). on_top (λ s. record s { no_binary_name = true }) a) c.new-2.ensures.app in
    let app_is : app_of c.in_ok-command.command ≡ app = c.in_ok-command.ensures.shape (search rules)
    ∙ ap₂ with_rule (c.in_ok-arg.ensures.shape (search rules) ∙ ap₂ with_rule named_is form_is) number_is in
    let words = map (λ s. s.now) c.args.words.now in
    let parse = c.try_get_matches_from in
    record {
      ok = parse_found _ parse.result words app_is c.requires parse.ensures.matches parse.ensures.kinds;
      err = parse_failed _ parse.result words app_is c.requires parse.ensures.kinds;
    }
