use Rattle.std.proofs.Common.{[], ◌∷◌, append_assoc, append-nil}
use Rattle.std.specs.Prelude.{codes}
use Rattle.def_transcript.specs.Texts.{restricted_text}
use Rattle.wh_render.proofs.Joined.{words-cons}
use Rattle.wh_render.proofs.lines.RefreshedPrinted.push_text.Goals as goal

pub returns-in_ok-push_printed-in-Suspended : goal.returns-in_ok-push_printed-in-Suspended
returns-in_ok-push_printed-in-Suspended c =
    rw (c.in_ok-push_printed-in-Suspended.ensures, c.in_ok-extend_from_slice-in-Suspended.ensures.items, c.in-Suspended.is, words-cons 83 (codes "USPENDED") (restricted_text c.in-Suspended.restriction ∷ [])) (simp (append_assoc, append-nil))
