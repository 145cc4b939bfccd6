-- What the install of a refresh makes of the views, and its reply.
use Rattle.std.specs.List.{find}
use Rattle.std.specs.Prelude.{None, Option, Some, cond, length, ℕ}
use Rattle.wh_base.specs.Lists.{option_case, option_nat_same}
use Rattle.wh_base.specs.declared.replies.Refusal.{Refusal}
use Rattle.wh_base.specs.declared.replies.Refusal.TheVariants.{NoSuchObject, Overtaken}
use Rattle.wh_base.specs.declared.replies.Reply.{Reply}
use Rattle.wh_base.specs.declared.replies.Reply.TheVariants as reply
use Rattle.def_journal.specs.Refreshing.{Computed}
use Rattle.wh_core.specs.declared.refreshing.Begun.{Begun}
use Rattle.wh_view.specs.Kept.{AllKept, Kept, changed, is_numbered, refreshed}

-- a refusal that read so many base rows
abbrev pub refusal_after : ℕ → Refusal → Reply
refusal_after read code = reply.Refuse (record { code = code; at = None; read = read })

-- the view takes the rows, unless another refresh moved its point since the begin
abbrev pub put_into : AllKept → Begun → Computed → ℕ → Kept → AllKept × Reply
put_into views b x n now =
    cond (option_nat_same b.point now.view.point)
    (changed n (refreshed b.scn x.rows) views, reply.Refresh (record { method = x.used; scn = b.scn; read = x.read; holds = length x.rows }))
    (views, refusal_after x.read (Overtaken b.name b.point now.view.point))

-- where it wasn't dropped since
abbrev pub put_over : AllKept → Begun → Computed → ℕ → AllKept × Reply
put_over views b x n = option_case (find (is_numbered n) views.views) (views, refusal_after x.read (NoSuchObject b.name)) (put_into views b x n)

-- where the begin found it
abbrev pub put : AllKept → Begun → Option Computed → AllKept × Reply
put views b None = (views, refusal_after 0 (NoSuchObject b.name))
put views b (Some x) = option_case b.view (views, refusal_after 0 (NoSuchObject b.name)) (put_over views b x)
