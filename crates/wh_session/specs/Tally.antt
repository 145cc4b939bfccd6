-- The replies of a session as they are kept: their text, and what is counted of them.
use Rattle.std.specs.Prelude.{Bool, List, ◌+◌, ◌++◌, cond, count_by, false, flat_map, true, ℕ}
use Rattle.wh_base.specs.declared.replies.Reply.{Reply}
use Rattle.wh_base.specs.declared.replies.Reply.TheVariants as reply
use Rattle.wh_base.specs.declared.statements.Id.{Id}
use Rattle.wh_base.specs.declared.values.Version.{Version}
use Rattle.def_journal.specs.Journal.{Told}
use Rattle.def_output.specs.Generator.{is_refused, is_rewritten, is_view_line}
use Rattle.def_output.specs.Reads.{read_of, reads_of}
use Rattle.def_transcript.specs.Texts.{lines_text, reply_lines}
use Rattle.wh_session.specs.declared.tally.Tally.{Tally}

-- the lines of these replies in this version
abbrev pub told_text : Version → List Told → List ℕ
told_text version told = lines_text (flat_map (λ t. reply_lines version t.id t.reply) told)

-- how many of these replies are refusals, how many are answers from a view, and the sum of their READ numbers
abbrev pub tally_of : List Told → Tally
tally_of told = record { refused = count_by is_refused told; rewritten = count_by is_rewritten told; read = reads_of told }

-- both counted together
abbrev pub both : Tally → Tally → Tally
both a b = record { refused = a.refused + b.refused; rewritten = a.rewritten + b.rewritten; read = a.read + b.read }

-- ---- one reply more

-- a refusal
abbrev pub refuses : Reply → Bool
refuses (reply.Refuse r) = true
refuses r = false

-- an answer whose plan isn't BASE
abbrev pub rewrites : Reply → Bool
rewrites (reply.Answer r) = is_view_line r.plan
rewrites r = false

abbrev pub weight : Bool → ℕ
weight b = cond b 1 0

-- the tally of one reply
abbrev pub tally_of_reply : Reply → Tally
tally_of_reply r = record { refused = weight (refuses r); rewritten = weight (rewrites r); read = read_of r }

-- what is kept of the replies so far
pub record Telling : Type 0 where
  pub version : Version
  pub text : List ℕ
  pub tally : Tally

-- with the reply to this command behind them
abbrev pub told_after : Telling → Id → Reply → Telling
told_after t id r = record t { text = t.text ++ lines_text (reply_lines t.version id r); tally = both t.tally (tally_of_reply r) }
