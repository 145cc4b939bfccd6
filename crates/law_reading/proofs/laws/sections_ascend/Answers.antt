use Rattle.law_reading.proofs.Sections.{built-sections-rise, built-sections-within, sections-rise, sections-within}
use Rattle.law_reading.proofs.laws.sections_ascend.Goals as goal

pub returns : goal.returns
returns c = record { ascend = sections-rise; within = sections-within; built_ascend = built-sections-rise; built_within = built-sections-within }
