-- The state that a journal stands for: the catalog, and what each session keeps. And what a step leaves.
use Rattle.std.specs.Prelude.{Bool, Err, List, None, Ok, Option, Result, Some, [], filter, find, is_some, not, suc, true, unwrap_or, ℕ, ◌==◌, ◌∷◌}
use Rattle.wh_base.specs.Tables.{Base}
use Rattle.wh_base.specs.declared.replies.Refusal.{Refusal}
use Rattle.wh_base.specs.declared.replies.Reply.{Reply}
use Rattle.wh_base.specs.declared.replies.Reply.TheVariants.{Refuse}
use Rattle.wh_base.specs.declared.statements.Level.{Level}
use Rattle.wh_base.specs.declared.statements.Level.TheVariants.{Enforced}
use Rattle.def_effect.specs.Block.{Stopped}
use Rattle.def_history.specs.Catalog.{Catalog, empty_catalog}
use Rattle.wh_base.specs.declared.replies.Reply.TheVariants as reply

-- A refresh that has begun: the view's number and point then, none where there was no such view or no point, and the image of the catalog.
-- Of a list it is the first view; the numbers and points of all are those of the image.
pub record Begun : Type 0 where
  pub view : Option ℕ
  pub point : Option ℕ
  pub image : Catalog

-- What a session keeps between its commands, and a worker between its jobs. A worker has the number 64 and its own, and begins and
-- installs refreshes alone.
pub record Session : Type 0 where
  pub number : ℕ
  -- how far its answers may rely on what is declared and on what is stale
  pub level : Level
  -- whether views may answer its queries
  pub rewrite : Bool
  -- the image that it keeps from SET TRANSACTION READ ONLY on until its COMMIT
  pub reading : Option Catalog
  -- its refresh that has begun and isn't installed
  pub begun : Option Begun

-- The catalog, and the sessions that have kept something so far.
pub record State : Type 0 where
  pub catalog : Catalog
  pub sessions : List Session

-- Each session begins with ENFORCED and with rewrite enabled.
abbrev pub new_session : ℕ → Session
new_session n = record { number = n; level = Enforced; rewrite = true; reading = None; begun = None }

-- The state before the first entry.
abbrev pub empty_state : State
empty_state = record { catalog = empty_catalog; sessions = [] }

-- The session with this number.
abbrev pub session_of : State → ℕ → Session
session_of s n = unwrap_or (find (λ x. x.number == n) s.sessions) (new_session n)

-- The state with this session as it is now.
abbrev pub with_session : State → Session → State
with_session s x = record s { sessions = x ∷ filter (λ y. not (y.number == x.number)) s.sessions }

-- The state with this catalog.
abbrev pub with_catalog : State → Catalog → State
with_catalog s c = record s { catalog = c }

-- The image over which the session's queries are answered: the one that it keeps, else the catalog as it is.
abbrev pub image_of : State → Session → Catalog
image_of s x = unwrap_or x.reading s.catalog

-- The session has a READ ONLY image open.
abbrev pub only_reads : Session → Bool
only_reads x = is_some x.reading

-- The state that a step leaves, and its reply where it gives one. The begin of a refresh gives none: the reply comes with its install.
pub record Step : Type 0 where
  pub state : State
  pub reply : Option Reply

-- The step leaves this state and gives this reply.
abbrev pub replied : State → Reply → Step
replied s r = record { state = s; reply = Some r }

-- A refusal with the number of rows read. It changes nothing.
abbrev pub refused : State → ℕ → Refusal → Step
refused s read code = replied s (Refuse (record { code = code; at = None; read = read }))

-- The refusal of a block, with the number of the statement at fault and the rows that the block scanned up to and with it.
abbrev pub refused_at : State → Stopped → Step
refused_at s stopped = replied s (Refuse (record { code = stopped.code; at = Some stopped.at; read = stopped.scanned }))

-- DONE with the catalog that is left and the number of rows read, or the refusal, which read none.
abbrev pub done_or_refused : State → Result (Catalog × ℕ) Refusal → Step
done_or_refused s (Err code) = refused s 0 code
done_or_refused s (Ok p) = replied (with_catalog s p.0) (reply.Catalog (record { scn = p.0.scn; read = p.1 }))

-- The catalog with a new base state, at the next SCN.
abbrev pub with_base : Catalog → Base → Catalog
with_base c base = record c { scn = suc c.scn; past = (suc c.scn, base) ∷ c.past }

-- The catalog at the next SCN, with the same base state.
abbrev pub next_scn : Catalog → Catalog
next_scn c = record c { scn = suc c.scn }
