-- The form `gen N`: the generated script, and the summary of its transcript.
use Rattle.std.specs.Prelude.{Bool, List, [], codes, count_by, decimal, false, flat_map, length, map, option_map, option_to_list, sum_by, true, ℕ, ◌%◌, ◌*◌, ◌++◌, ◌/◌, ◌∷◌}
use Rattle.wh_base.specs.Lists.{count_from}
use Rattle.wh_base.specs.declared.replies.PlanLine.{PlanLine}
use Rattle.wh_base.specs.declared.replies.PlanLine.TheVariants.{BasePlan, ViewAt}
use Rattle.wh_base.specs.declared.replies.Reply.{Reply}
use Rattle.wh_base.specs.declared.replies.Reply.TheVariants.{Refuse}
use Rattle.wh_base.specs.declared.statements.Command.{Command}
use Rattle.wh_base.specs.declared.statements.Script.{Script}
use Rattle.wh_base.specs.declared.statements.Section.{Section}
use Rattle.wh_base.specs.declared.statements.ChangeStatement.TheVariants.{Load}
use Rattle.wh_base.specs.declared.statements.Statement.TheVariants as about
use Rattle.def_grammar.specs.Forms.{statement_of, text_tokens}
use Rattle.def_grammar.specs.Query.{table}
use Rattle.def_grammar.specs.Script.{command_by}
use Rattle.def_journal.specs.Journal.{Told, order_of, replies_of, state_of, trace_of}
use Rattle.wh_base.specs.declared.statements.Event.{Event}
use Rattle.def_output.specs.Reads.{reads_of}
use Rattle.wh_base.specs.declared.statements.Command.TheVariants as commands
use Rattle.wh_base.specs.declared.replies.Reply.TheVariants as reply

-- ---- the script

-- The command that a statement's text stands for.
abbrev pub by_text : List ℕ → List Command
by_text text = option_to_list (option_map command_by (statement_of (text_tokens text)))

-- A LOAD of these rows.
abbrev pub load_command : List ℕ → List (List (List ℕ)) → List Command
load_command table rows = commands.Block (record { statements = about.Change (Load (record { table = table; rows = rows })) ∷ [] }) ∷ []

-- A day and its month of 30 days.
abbrev pub day_row : ℕ → List (List ℕ)
day_row d = decimal d ∷ decimal (d / 30) ∷ []

-- The sale with this number: day, product and amount.
abbrev pub sale_row : ℕ → List (List ℕ)
sale_row i = decimal (7 * i % 360) ∷ decimal (13 * i % 50) ∷ decimal (i * i % 1000) ∷ []

-- The sum and the number of sales per month.
abbrev pub view_query : List ℕ
view_query = codes "SELECT T.MON, SUM(S.AMT), COUNT(*) FROM SALES S JOIN TIMES T ON S.DAY = T.DAY GROUP BY T.MON"

-- 360 days, n sales, and a view with query rewrite over both.
abbrev pub setup_commands : ℕ → List Command
setup_commands n =
    by_text (codes "CREATE TABLE TIMES (DAY NUMBER PRIMARY KEY, MON NUMBER NOT NULL)")
    ++ (load_command (codes "TIMES") (map day_row (count_from 0 360))
    ++ (by_text (codes "CREATE TABLE SALES (DAY NUMBER NOT NULL REFERENCES TIMES (DAY), PROD NUMBER NOT NULL, AMT NUMBER)")
    ++ (load_command (codes "SALES") (map sale_row (count_from 0 n))
    ++ by_text (codes "CREATE MATERIALIZED VIEW V ENABLE QUERY REWRITE AS " ++ view_query))))

-- One more sale, on this day.
abbrev pub insert_text : ℕ → List ℕ
insert_text j = codes "INSERT INTO SALES VALUES (" ++ (decimal j ++ codes ", 0, 1)")

-- A section with its session number.
abbrev pub section : ℕ → List Command → Section
section n cs = record { session = n; commands = cs }

-- The list ten times over.
abbrev pub ten_times : {A : Type 0} → List A → List A
ten_times xs = flat_map (λ _. xs) (count_from 0 10)

-- The script: session 1 inserts, session 2 refreshes the view and asks its query, session 3 counts sales by product, in turns.
abbrev pub generated : ℕ → Script
generated n =
    record {
      sections =
          section 0 (setup_commands n)
          ∷ section 1 (flat_map (λ j. by_text (insert_text j)) (count_from 0 10))
          ∷ section 2 (ten_times (by_text (codes "EXECUTE DBMS_MVIEW.REFRESH('V', 'C')") ++ by_text view_query))
          ∷ section 3 (ten_times (by_text (codes "SELECT S.PROD, COUNT(*) FROM SALES S GROUP BY S.PROD")))
          ∷ [];
      order = ten_times (1 ∷ 2 ∷ 2 ∷ 2 ∷ 3 ∷ []);
      workers = 0;
    }

-- ---- the summary

-- The reply is a refusal.
abbrev pub is_refused : Told → Bool
is_refused t = refuses t.reply
  where
    refuses : Reply → Bool
    refuses (Refuse r) = true
    refuses r = false

-- The plan is one over a view.
abbrev pub is_view_line : PlanLine → Bool
is_view_line BasePlan = false
is_view_line (ViewAt c v p backs) = true

-- The reply is an answer whose plan isn't BASE.
abbrev pub is_rewritten : Told → Bool
is_rewritten t = rewrites t.reply
  where
    rewrites : Reply → Bool
    rewrites (reply.Answer r) = is_view_line r.plan
    rewrites r = false

-- A word, a space and a number.
abbrev pub number_line : List ℕ → ℕ → List ℕ
number_line w n = w ++ (32 ∷ decimal n)

-- How many commands the script has, how many were refused, how many answers came from a view, the sum of READ, and the last SCN.
abbrev pub summary_lines : ℕ → Script → List Event → List (List ℕ)
summary_lines n script trace =
    let told = replies_of trace in
    number_line (codes "gen") n
    ∷ number_line (codes "commands") (sum_by (λ s. length s.commands) script.sections)
    ∷ number_line (codes "refused") (count_by is_refused told)
    ∷ number_line (codes "rewritten") (count_by is_rewritten told)
    ∷ number_line (codes "read") (reads_of told)
    ∷ number_line (codes "scn") (state_of trace).catalog.scn
    ∷ []

-- What `gen N` writes, line by line.
abbrev pub summary : ℕ → List (List ℕ)
summary n = let script = generated n in summary_lines n script (trace_of script (order_of script))
