use Rattle.std.proofs.Common.{◌∙◌, ap, option_map, sym}
use Rattle.wh_words.proofs.Forms.{named_words}
use Rattle.wh_words.proofs.Walked.{texts}
use Rattle.wh_words.specs.Words.{form_meant, one_or_two, words_at}
use Rattle.wh_words.proofs.words.form.Goals as goal

-- the words at their places are those that were given
pub returns : goal.returns
returns c =
    named_words c.args.words.now (texts c.in-Some.texts.items) (words_at c.in-Some-2.placed) (option_map form_meant c.named.result)
    (ap (option_map (λ v. texts v.items)) (sym c.in-Some.is) ∙ c.in_ok-texts.ensures)
    (ap (option_map words_at) (sym c.in-Some-2.is) ∙ c.in_ok-placed.ensures ∙ ap (λ ts. one_or_two (texts ts)) c.as_slice.ensures.value) c.named.ensures
