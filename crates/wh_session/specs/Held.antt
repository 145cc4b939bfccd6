-- What a session keeps of how far it has come.
use Rattle.std.specs.List.{enumerate_from}
use Rattle.std.specs.Prelude.{◌≡◌, ◌<◌, ◌+◌, ◌-◌, ◌^◌, ◌∷◌, List, None, Option, Some, drop, flat_map, length, slice_get, ℕ}
use Rattle.wh_base.specs.Lists.{option_case}
use Rattle.wh_base.specs.Parts.{command_entries}
use Rattle.wh_base.specs.declared.statements.Command.{Command}
use Rattle.wh_base.specs.declared.statements.Entry.{Entry}
use Rattle.wh_base.specs.declared.statements.Event.{Event}
use Rattle.wh_base.specs.declared.statements.Section.{Section}
use Rattle.wh_session.specs.Parts.{IsPending}
use Rattle.wh_session.specs.Run.{CanRun, Run}
use Rattle.wh_session.specs.Tally.{Telling}
use Rattle.wh_session.specs.declared.parts.Pending.{Pending}

-- the entries of these commands, which stand behind so many of the session's
abbrev pub entries_of : ℕ → ℕ → List Command → List Entry
entries_of session taken rest = flat_map (command_entries session) (enumerate_from (taken + 1) rest)

-- the same with the install of a refresh that has begun before them
abbrev pub left_of : ℕ → ℕ → Option Pending → List Command → List Entry
left_of session taken None rest = entries_of session taken rest
left_of session taken (Some p) rest = record { session = p.id.session; command = p.id.command; part = 2; worker = p.id.worker } ∷ entries_of session taken rest

-- the base rows that it has read
abbrev pub ahead_of : Option Pending → ℕ
ahead_of None = 0
ahead_of (Some p) = option_case p.computed 0 (λ x. x.read)

-- how far a session has come that has begun so many of its commands
abbrev pub run_of : Section → List Event → ℕ → ℕ → Option Pending → List Command → Telling → Run
run_of section seen session taken pending rest telling =
    record { section = section; left = left_of session taken pending rest; seen = seen; version = telling.version; text = telling.text; tally = telling.tally; ahead = ahead_of pending }

-- The refresh is a command of the section, which its session does itself, and has begun in the trace.
pub record IsBegunIn (section : Section) (trace : List Event) (p : Pending) : Type 0 where
  pub own : p.id.session ≡ section.session
  pub alone : p.id.worker ≡ 0
  pub names : slice_get section.commands (p.id.command - 1) ≡ Some p.command
  pub is : IsPending trace p.id p.command p.begun p.computed

abbrev pub BegunIn : Section → List Event → Option Pending → Type 0
BegunIn section trace None = Unit {0}
BegunIn section trace (Some p) = IsBegunIn section trace p

-- The commands that are left are those of the section behind the ones that have begun.
pub record Holds (section : Section) (seen : List Event) (session taken : ℕ) (pending : Option Pending) (rest : List Command) (len : ℕ) : Type 0 where
  pub runs : CanRun section
  pub own : session ≡ section.session
  pub left : rest ≡ drop taken section.commands
  pub counted : len ≡ length rest
  pub few : taken + len < 2 ^ 32
  pub begun : BegunIn section seen pending
