-- Queries without what ORDER BY says, so that two of them can be compared in all else.
use Rattle.std.specs.Prelude.{[], false}
use Rattle.wh_base.specs.declared.queries.RawQuery.{RawQuery}
use Rattle.wh_base.specs.declared.queries.StarQuery.{StarQuery}

-- a query as it is written, without its ORDER BY
abbrev pub without_order : RawQuery → RawQuery
without_order q = record q { order = [] }

-- a query in star form, without the order of its answer
abbrev pub unordered : StarQuery → StarQuery
unordered q = record q { order = [] }

-- what stands from FROM on up to ORDER BY: a query as it is written, and its star form
abbrev pub from_written : RawQuery → RawQuery
from_written q = record q { items = []; order = [] }

abbrev pub from_formed : StarQuery → StarQuery
from_formed q = record q { grouped = false; items = []; order = [] }
