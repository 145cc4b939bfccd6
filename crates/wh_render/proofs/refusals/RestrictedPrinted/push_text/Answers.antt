use Rattle.std.proofs.Common.{append_assoc}
use Rattle.def_transcript.specs.Texts.{place_words}
use Rattle.wh_render.proofs.Joined.{words-code}
use Rattle.wh_render.proofs.refusals.RestrictedPrinted.push_text.Goals as goal

pub returns : goal.returns
returns c =
    let r = c.args.self.now in
    rw (c.in_ok-push_restricted_place.ensures, c.in_ok-extend_from_slice.ensures.items, c.as_bytes.ensures.value, c.code_text.ensures, words-code r.code (place_words r.place)) (simp append_assoc)
