-- What the code's answers stand for.
use Rattle.def_rewriting.specs.Matching as defs
use Rattle.wh_text_match.specs.declared.matching.TextMatch.{TextMatch}
use Rattle.wh_text_match.specs.declared.matching.TextMatch.TheVariants as ours

abbrev pub meant : TextMatch → defs.TextMatch
meant ours.Full = defs.FullText
meant ours.Partial = defs.PartialText
meant ours.None = defs.NoText
