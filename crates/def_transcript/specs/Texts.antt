-- The text of a reply: its header line and the lines after it. A line with values has a text in each version of transcripts.
use Rattle.std.specs.Prelude.{Bool, List, None, Option, Some, [], codes, cond, decimal, false, filter, flat_map, length, map, not, true, zip, ℕ, ◌++◌, ◌==◌, ◌∷◌}
use Rattle.wh_base.specs.Lists.{is_empty, option_case}
use Rattle.wh_base.specs.Values.{int_text, parted_by, value_text}
use Rattle.wh_base.specs.declared.logs.LogOp.{LogOp}
use Rattle.wh_base.specs.declared.logs.LogOp.TheVariants.{D, I, U}
use Rattle.wh_base.specs.declared.logs.LogRow.{LogRow}
use Rattle.wh_base.specs.declared.logs.LogSide.{LogSide}
use Rattle.wh_base.specs.declared.logs.LogSide.TheVariants.{N, O}
use Rattle.wh_base.specs.declared.replies.Broken.{Broken}
use Rattle.wh_base.specs.declared.replies.Code.{Code}
use Rattle.wh_base.specs.declared.replies.Counted.{Counted}
use Rattle.wh_base.specs.declared.replies.Counted.TheVariants.{Columns, Dimensions, Partitions, Tables, Views}
use Rattle.wh_base.specs.declared.replies.ListLine.{ListLine}
use Rattle.wh_base.specs.declared.replies.PlanLine.{PlanLine}
use Rattle.wh_base.specs.declared.replies.PlanLine.TheVariants.{BasePlan, ViewAt}
use Rattle.wh_base.specs.declared.replies.Reason.{Reason}
use Rattle.wh_base.specs.declared.replies.Refreshed.{Refreshed}
use Rattle.wh_base.specs.declared.replies.Refreshed.TheVariants.{By, Suspended}
use Rattle.wh_base.specs.declared.replies.Refusal.{Refusal}
use Rattle.wh_base.specs.declared.replies.Refusal.TheVariants.{BeneathUnbuilt, ChildExists, DuplicateKey, FastRefused, FutureScn, KeysReferenced, LastPartition, LogExists, NameTaken, NoLog, NoPartition, NoSuchColumn, NoSuchObject, NotAKey, NotGrouped, NotNested, NotStar, NullNotAllowed, OnlyReading, Overtaken, ParentMissing, PartitionBound, PartitionRefused, RowMovement, SelectInBlock, SnapshotTooOld, StillUsed, TableFull, TooManyObjects, ValueDoesNotFit, VersionsFull}
use Rattle.wh_base.specs.declared.replies.Reply.{Reply}
use Rattle.wh_base.specs.declared.replies.Reply.TheVariants.{Commit, Explain, Purge, Refuse, Validate}
use Rattle.wh_base.specs.declared.replies.Restricted.{Restricted}
use Rattle.wh_base.specs.declared.replies.ViewLine.{ViewLine}
use Rattle.wh_base.specs.declared.statements.Entry.{Entry}
use Rattle.wh_base.specs.declared.statements.Id.{Id}
use Rattle.wh_base.specs.declared.statements.Method.{Method}
use Rattle.wh_base.specs.declared.statements.Method.TheVariants.{Complete, Fast, Force, Partition}
use Rattle.wh_base.specs.declared.values.Interval.{Interval}
use Rattle.wh_base.specs.declared.values.Value.{Value}
use Rattle.wh_base.specs.declared.values.Version.{Version}
use Rattle.wh_base.specs.declared.values.Version.TheVariants.{One, Two}
use Rattle.wh_base.specs.declared.views.Class.{Class}
use Rattle.wh_base.specs.declared.views.Class.TheVariants.{Concat, Full, General, JoinBack, Partial}
use Rattle.wh_base.specs.declared.views.Verdict.{Verdict}
use Rattle.wh_base.specs.declared.views.ViewState.{ViewState}
use Rattle.wh_base.specs.declared.views.ViewState.TheVariants.{Fresh, Partly, Stale, Unbuilt}
use Rattle.wh_base.specs.declared.replies.Reply.TheVariants as reply
use Rattle.wh_base.specs.declared.replies.Reason.TheVariants as reason
use Rattle.wh_base.specs.declared.replies.Code.TheVariants as code
use Rattle.wh_base.specs.declared.replies.Place.{Place}
use Rattle.wh_base.specs.declared.replies.Place.TheVariants as place
use Rattle.wh_base.specs.declared.views.Requirement.{Requirement}
use Rattle.wh_base.specs.declared.views.Requirement.TheVariants as requirement
use Rattle.wh_base.specs.declared.views.Serving.{Serving}
use Rattle.wh_base.specs.declared.views.Serving.TheVariants.{Fails, Serves}

-- ---- pieces of lines

-- Words with a space between each two; an empty word is left out.
abbrev pub words : List (List ℕ) → List ℕ
words ws = parted_by 32 (filter (λ w. not (is_empty w)) ws)

-- Fields with a bar between each two; an empty field stays.
abbrev pub fields : List (List ℕ) → List ℕ
fields fs = parted_by 124 fs

-- A row: its values as they print.
abbrev pub row_text : Version → List Value → List ℕ
row_text version vs = fields (map (value_text version) vs)

-- A view's point; a missing one is `-`.
abbrev pub point_text : Option ℕ → List ℕ
point_text p = option_case p (codes "-") decimal

-- YES or NO.
abbrev pub yes_or_no : Bool → List ℕ
yes_or_no true = codes "YES"
yes_or_no false = codes "NO"

-- The method of a refresh.
abbrev pub method_text : Method → List ℕ
method_text Fast = codes "FAST"
method_text Complete = codes "COMPLETE"
method_text Partition = codes "PARTITION"
method_text Force = codes "FORCE"

-- The code of a restriction, as F13 or P1.
abbrev pub code_text : Code → List ℕ
code_text code.F1 = codes "F1"
code_text code.F2 = codes "F2"
code_text code.F3 = codes "F3"
code_text code.F4 = codes "F4"
code_text code.F5 = codes "F5"
code_text code.F6 = codes "F6"
code_text code.F7 = codes "F7"
code_text code.F8 = codes "F8"
code_text code.F9 = codes "F9"
code_text code.F10 = codes "F10"
code_text code.F11 = codes "F11"
code_text code.F12 = codes "F12"
code_text code.F13 = codes "F13"
code_text code.P1 = codes "P1"
code_text code.P2 = codes "P2"
code_text code.P3 = codes "P3"

-- What a restriction names.
abbrev pub place_words : Place → List (List ℕ)
place_words place.View = []
place_words (place.Table t) = t ∷ []
place_words (place.Column t c) = t ∷ c ∷ []

-- A restriction with its table and column, where it prints them.
abbrev pub restricted_text : Restricted → List ℕ
restricted_text r = words (code_text r.code ∷ place_words r.place)

-- ---- refusals

-- What there would be too many of.
abbrev pub counted_text : Counted → List ℕ
counted_text Tables = codes "TABLES"
counted_text Views = codes "VIEWS"
counted_text Dimensions = codes "DIMENSIONS"
counted_text Columns = codes "COLUMNS"
counted_text Partitions = codes "PARTITIONS"

-- The code of a refusal, and its details.
abbrev pub refusal_words : Refusal → List (List ℕ)
refusal_words (NameTaken n) = codes "MV-01" ∷ n ∷ []
refusal_words (NoSuchObject n) = codes "MV-02" ∷ n ∷ []
refusal_words (NoSuchColumn n) = codes "MV-03" ∷ n ∷ []
refusal_words (ValueDoesNotFit t c) = codes "MV-04" ∷ t ∷ c ∷ []
refusal_words (NullNotAllowed t c) = codes "MV-05" ∷ t ∷ c ∷ []
refusal_words (DuplicateKey t c) = codes "MV-06" ∷ t ∷ c ∷ []
refusal_words (ParentMissing t c) = codes "MV-07" ∷ t ∷ c ∷ []
refusal_words (ChildExists t c) = codes "MV-08" ∷ t ∷ c ∷ []
refusal_words (NoPartition t) = codes "MV-09" ∷ t ∷ []
refusal_words (RowMovement t) = codes "MV-10" ∷ t ∷ []
refusal_words (PartitionBound t p) = codes "MV-11" ∷ t ∷ p ∷ []
refusal_words (LastPartition t) = codes "MV-12" ∷ t ∷ []
refusal_words (KeysReferenced t c) = codes "MV-13" ∷ t ∷ c ∷ []
refusal_words (TableFull t) = codes "MV-14" ∷ t ∷ []
refusal_words (VersionsFull t) = codes "MV-15" ∷ t ∷ []
refusal_words (TooManyObjects k) = codes "MV-16" ∷ counted_text k ∷ []
refusal_words NotStar = codes "MV-17" ∷ []
refusal_words NotGrouped = codes "MV-18" ∷ []
refusal_words SelectInBlock = codes "MV-19" ∷ []
refusal_words (NoLog t) = codes "MV-20" ∷ t ∷ []
refusal_words (LogExists t) = codes "MV-21" ∷ t ∷ []
refusal_words (FastRefused r) = codes "MV-22" ∷ restricted_text r ∷ []
refusal_words (PartitionRefused r) = codes "MV-23" ∷ restricted_text r ∷ []
refusal_words (Overtaken v begun now) = codes "MV-24" ∷ v ∷ point_text begun ∷ point_text now ∷ []
refusal_words (SnapshotTooOld asked oldest) = codes "MV-25" ∷ int_text asked ∷ decimal oldest ∷ []
refusal_words (FutureScn asked now) = codes "MV-26" ∷ int_text asked ∷ decimal now ∷ []
refusal_words (NotAKey t c) = codes "MV-27" ∷ t ∷ c ∷ []
refusal_words (StillUsed n) = codes "MV-28" ∷ n ∷ []
refusal_words OnlyReading = codes "MV-29" ∷ []
refusal_words (BeneathUnbuilt v) = codes "MV-30" ∷ v ∷ []
refusal_words (NotNested v) = codes "MV-31" ∷ v ∷ []

-- In a block AT and the number of the statement stand after the code.
abbrev pub at_words : Option ℕ → List (List ℕ) → List (List ℕ)
at_words None ws = ws
at_words (Some i) [] = []
at_words (Some i) (code' ∷ details) = code' ∷ codes "AT" ∷ decimal i ∷ details

-- ---- header lines

-- READ and the number of base rows read.
abbrev pub read_words : ℕ → List (List ℕ)
read_words n = codes "READ" ∷ decimal n ∷ []

-- SCN and the number.
abbrev pub scn_words : ℕ → List (List ℕ)
scn_words n = codes "SCN" ∷ decimal n ∷ []

-- ROWS and the number.
abbrev pub rows_words : ℕ → List (List ℕ)
rows_words n = codes "ROWS" ∷ decimal n ∷ []

-- The class of a plan over a view.
abbrev pub class_text : Class → List ℕ
class_text Full = codes "FULL"
class_text Partial = codes "PARTIAL"
class_text General = codes "GENERAL"
class_text JoinBack = codes "JOINBACK"
class_text Concat = codes "CONCAT"

-- PLAN and BASE; or PLAN, the class, the view with its point, and the tables joined back.
abbrev pub plan_words : PlanLine → List (List ℕ)
plan_words BasePlan = codes "PLAN" ∷ codes "BASE" ∷ []
plan_words (ViewAt c v p backs) = codes "PLAN" ∷ class_text c ∷ (v ++ (64 ∷ decimal p)) ∷ parted_by 44 backs ∷ []

-- The state of a view.
abbrev pub state_text : ViewState → List ℕ
state_text Unbuilt = codes "UNBUILT"
state_text Fresh = codes "FRESH"
state_text Partly = codes "PARTLY"
state_text Stale = codes "STALE"

-- ---- the lines after a header

-- What a commit did with a view: the method, or SUSPENDED with the restriction.
abbrev pub refreshed_text : Refreshed → List ℕ
refreshed_text (By m) = method_text m
refreshed_text (Suspended r) = words (codes "SUSPENDED" ∷ restricted_text r ∷ [])

-- The line of a view that a commit refreshed or suspended.
abbrev pub view_line_text : ViewLine → List ℕ
view_line_text l = fields (l.view ∷ refreshed_text l.done ∷ [])

-- A view of a list that was refreshed: its name, the method used, and the number of its entries.
abbrev pub list_line_text : ListLine → List ℕ
list_line_text l = fields (l.view ∷ method_text l.method ∷ decimal l.holds ∷ [])

-- A bound of an interval; an empty field where there is none.
abbrev pub bound_text : Version → Option Value → List ℕ
bound_text version b = option_case b [] (value_text version)

-- An interval of stale keys: its lower and its upper bound.
abbrev pub interval_text : Version → Interval → List ℕ
interval_text version i = fields (bound_text version i.lo ∷ bound_text version i.hi ∷ [])

-- The operation of a log row: insert, update or delete.
abbrev pub op_text : LogOp → List ℕ
op_text I = codes "I"
op_text U = codes "U"
op_text D = codes "D"

-- The side of a log row: old or new.
abbrev pub side_text : LogSide → List ℕ
side_text O = codes "O"
side_text N = codes "N"

-- A number, or an empty field where the log doesn't keep it.
abbrev pub number_field : Option ℕ → List ℕ
number_field n = option_case n [] decimal

-- A log row: SCN, sequence number, rowid, operation, side, and the logged values.
abbrev pub log_row_text : Version → LogRow → List ℕ
log_row_text version r = fields (decimal r.scn ∷ number_field r.seq ∷ number_field r.rowid ∷ op_text r.op ∷ side_text r.side ∷ map (value_text version) r.values)

-- The nine names of EXPLAIN MVIEW, in order.
abbrev pub explain_names : List (List ℕ)
explain_names =
    codes "REFRESH_COMPLETE"
    ∷ codes "REFRESH_FAST_AFTER_INSERT"
    ∷ codes "REFRESH_FAST_AFTER_ONETAB_DML"
    ∷ codes "REFRESH_FAST_AFTER_ANY_DML"
    ∷ codes "REFRESH_FAST_PCT"
    ∷ codes "REWRITE_FULL_TEXT_MATCH"
    ∷ codes "REWRITE_PARTIAL_TEXT_MATCH"
    ∷ codes "REWRITE_GENERAL"
    ∷ codes "REWRITE_PCT"
    ∷ []

-- A requirement of rewrite, as E7.
abbrev pub requirement_text : Requirement → List ℕ
requirement_text requirement.E1 = codes "E1"
requirement_text requirement.E2 = codes "E2"
requirement_text requirement.E3 = codes "E3"
requirement_text requirement.E4 = codes "E4"
requirement_text requirement.E5 = codes "E5"
requirement_text requirement.E6 = codes "E6"
requirement_text requirement.E7 = codes "E7"
requirement_text requirement.E8 = codes "E8"
requirement_text requirement.E9 = codes "E9"

-- Why a name says N: a restriction, a requirement of rewrite, or that the view is over a view.
abbrev pub reason_text : Reason → List ℕ
reason_text (reason.Refresh r) = restricted_text r
reason_text (reason.Rewrite e) = requirement_text e
reason_text reason.Nested = codes "MV-31"

-- A name with Y and an empty field, or with N and its reason.
abbrev pub explain_line : List ℕ × Option Reason → List ℕ
explain_line p = option_case p.1 (fields (p.0 ∷ codes "Y" ∷ [] ∷ [])) (λ r. fields (p.0 ∷ codes "N" ∷ reason_text r ∷ []))

-- How a view can answer, or the first requirement that fails.
abbrev pub serving_text : Serving → List ℕ
serving_text (Serves class) = class_text class
serving_text (Fails e) = requirement_text e

-- A view with its class, or with the first requirement of rewrite that fails.
abbrev pub verdict_text : Verdict → List ℕ
verdict_text v = fields (v.view ∷ serving_text v.serving ∷ [])

-- The number of a declared relation, and the rowid of a row that breaks it.
abbrev pub broken_text : Broken → List ℕ
broken_text b = fields (decimal b.relation ∷ decimal b.rowid ∷ [])

-- ---- whole replies

-- The words of the header line after the session and the command.
abbrev pub body_words : Reply → List (List ℕ)
body_words (Commit r) = codes "COMMITTED" ∷ scn_words r.scn ++ (rows_words r.rows ++ (read_words r.read ++ (codes "VIEWS" ∷ decimal (length r.views) ∷ [])))
body_words (reply.Catalog r) = codes "DONE" ∷ scn_words r.scn ++ read_words r.read
body_words (Purge r) = codes "PURGED" ∷ scn_words r.scn ++ (rows_words r.rows ++ read_words 0)
body_words (reply.Answer r) = codes "ANSWER" ∷ scn_words r.scn ++ (plan_words r.plan ++ (read_words r.read ++ rows_words (length r.rows)))
body_words (reply.Refresh r) = codes "REFRESHED" ∷ method_text r.method ∷ scn_words r.scn ++ (read_words r.read ++ (codes "HOLDS" ∷ decimal r.holds ∷ []))
body_words (reply.View r) =
    codes "VIEW" ∷ r.view ∷ codes "POINT" ∷ point_text r.point ∷ codes "STATE" ∷ state_text r.state ∷ codes "REGISTERED" ∷ yes_or_no r.registered
    ∷ codes "SUSPENDED" ∷ yes_or_no r.suspended ∷ read_words 0 ++ (codes "INTERVALS" ∷ decimal (length r.intervals) ∷ rows_words (length r.rows))
body_words (reply.Log r) = codes "LOG" ∷ r.table ∷ codes "BORN" ∷ decimal r.born ∷ codes "FROM" ∷ decimal r.from ∷ read_words 0 ++ rows_words (length r.rows)
body_words (Explain r) = codes "MVIEW" ∷ r.view ∷ read_words 0 ++ rows_words (length r.lines)
body_words (reply.Rewrite r) = codes "REWRITE" ∷ scn_words r.scn ++ (plan_words r.plan ++ (read_words 0 ++ rows_words (length r.verdicts)))
body_words (Validate r) = codes "VALIDATED" ∷ r.dimension ∷ scn_words r.scn ++ (read_words r.read ++ rows_words (length r.broken))
body_words (Refuse r) = codes "REFUSED" ∷ at_words r.at (refusal_words r.code) ++ read_words r.read
body_words (reply.RefreshList r) =
    codes "REFRESHED" ∷ codes "LIST" ∷ scn_words r.scn ++ (read_words r.read ++ (codes "VIEWS" ∷ decimal (length r.views) ∷ []))
body_words reply.Submit = codes "SUBMITTED" ∷ read_words 0

-- The lines after the header.
abbrev pub lines_after : Version → Reply → List (List ℕ)
lines_after version (Commit r) = map view_line_text r.views
lines_after version (reply.Answer r) = map (row_text version) r.rows
lines_after version (reply.View r) = map (interval_text version) r.intervals ++ map (row_text version) r.rows
lines_after version (reply.Log r) = map (log_row_text version) r.rows
lines_after version (Explain r) = map explain_line (zip explain_names r.lines)
lines_after version (reply.Rewrite r) = map verdict_text r.verdicts
lines_after version (Validate r) = map broken_text r.broken
lines_after version (reply.Catalog r) = []
lines_after version (Purge r) = []
lines_after version (reply.Refresh r) = []
lines_after version (Refuse r) = []
lines_after version (reply.RefreshList r) = map list_line_text r.views
lines_after version reply.Submit = []

-- The session and the command, as 2.1; for the reply of a job JOB and the worker, since it stands under that of its SUBMIT.
abbrev pub id_text : Id → List ℕ
id_text id = cond (id.worker == 0) (decimal id.session ++ (46 ∷ decimal id.command)) (codes "JOB " ++ decimal id.worker)

-- The header line, and the lines after it.
abbrev pub reply_lines : Version → Id → Reply → List (List ℕ)
reply_lines version id r = words (id_text id ∷ body_words r) ∷ lines_after version r

-- ---- journal and line ends

-- The mark of a worker, as @3; none for the session itself.
abbrev pub worker_text : ℕ → List ℕ
worker_text w = cond (w == 0) [] (64 ∷ decimal w)

-- The session, the command and the part, as 2.1.1, and the worker that did it, as 2.1.2@3.
abbrev pub entry_text : Entry → List ℕ
entry_text e = decimal e.session ++ (46 ∷ decimal e.command ++ (46 ∷ decimal e.part ++ worker_text e.worker))

-- What stands before the replies: in the second version a line that says so.
abbrev pub first_lines : Version → List (List ℕ)
first_lines One = []
first_lines Two = codes "mviewdb 2" ∷ []

-- The word `journal` and the entries.
abbrev pub journal_line : List Entry → List ℕ
journal_line journal = words (codes "journal" ∷ map entry_text journal)

-- Each line ends with LF.
abbrev pub lines_text : List (List ℕ) → List ℕ
lines_text ls = flat_map (λ l. l ++ 10 ∷ []) ls
