-- The logs of every trace, and what each event leaves of them.
use Rattle.std.proofs.Common.{◌≡◌, ◌∙◌, sym, ap, refl, subst, ℕ, Bool, true, false, cond, List, [], ◌∷◌, Some, inl, inr, ◌⊎◌, ◌==◌}
use Rattle.std.proofs.lemmas.Option.{same_Some}
use Rattle.std.specs.List.{find}
use Rattle.std.specs.Prelude.{option_map}
use Rattle.std.proofs.lemmas.Bool.{eqb-true}
use Rattle.wh_base.specs.Tables.{def_at}
use Rattle.wh_base.specs.declared.statements.Event.{Event}
use Rattle.def_effect.specs.Block.{Progress}
use Rattle.def_history.specs.Catalog.{Catalog, Log, defs_now, log_of}
use Rattle.def_history.specs.Logs.{purged_log}
use Rattle.def_journal.specs.Committing.{after_block, do_dues}
use Rattle.def_journal.specs.State.{State}
use Rattle.def_journal.specs.Statements.{new_log}
use Rattle.law_trace.proofs.Due.{dues_keep, installs_keep}
use Rattle.law_trace.proofs.Listed.{each_every, find_changed, find_has, find_left}
use Rattle.law_trace.proofs.Moves.{Adds, Alters, Born, Commits, Creates, Declares, Drops, Forgets, Gone, Installs, Logs, MakesLogs, Move, Purged, Purges, PurgesLogs, Stays, Switches, Withdraws, installed}
use Rattle.law_lists.proofs.Options.{find_more}

-- the refreshes at a commit leave the logs
pub dues_logs : (c : Catalog) (p : Progress) → (do_dues (after_block c p) p.changes).catalog.logs ≡ c.logs
dues_logs c p = dues_keep (λ d. d.logs ≡ c.logs) (record { suspends = λ d n h. h; refreshes = λ d n h. h }) (after_block c p) p.changes refl

-- and so do installs
pub installed_logs : (c : Catalog) (ps : List (ℕ × ℕ)) → (installed ps c).logs ≡ c.logs
installed_logs c ps = installs_keep (λ d. d.logs ≡ c.logs) (λ p. Unit {0}) (λ d p q h. h) c ps (each_every (λ p. Unit {0}) (λ p. tt) ps) refl

-- ---- what an event leaves of a log

abbrev table_of : Log → ℕ
table_of l = l.table

-- the log is as it was, or purged
abbrev pub Left : Catalog → Log → Log → Type 0
Left c l m = (m ≡ l) ⊎ (m ≡ purged_log c l)

same_left : (c d : Catalog) (table : ℕ) (l m : Log) → d.logs ≡ c.logs → log_of c table ≡ Some l → log_of d table ≡ Some m → Left c l m
same_left c d table l m same was is = inl (same_Some m l (sym is ∙ ap (find (λ k. k.table == table)) same ∙ was))

made_left : (c d : Catalog) (table : ℕ) (l m : Log) → MakesLogs c d.logs → log_of c table ≡ Some l → log_of d table ≡ Some m → Left c l m
made_left c d table l m (Born n a there none made) was is =
    inl (same_Some m l (sym is ∙ ap (find (λ k. k.table == table)) made ∙ find_more (λ k. k.table == table) c.logs (new_log c n (def_at (defs_now c) n) a ∷ []) l was))
made_left c d table l m (Gone n made) was is =
    inl (same_Some m l (sym (find_left table_of n table c.logs m (ap (find (λ k. k.table == table)) (sym made) ∙ is)) ∙ was))

-- the log of k's table purged, the others as they are
abbrev changed : Catalog → Log → Log → Log
changed c k j = cond (j.table == k.table) (purged_log c k) j

changed_keeps : (c : Catalog) (k j : Log) → (changed c k j).table ≡ j.table
changed_keeps c k j = by (j.table == k.table) refl
  where
    by : (b : Bool) → (j.table == k.table) ≡ b → (cond b (purged_log c k) j).table ≡ j.table
    by true e = sym (eqb-true j.table k.table e)
    by false e = refl

purge_left : (c d : Catalog) (table : ℕ) (l m : Log) → PurgesLogs c d.logs → log_of c table ≡ Some l → log_of d table ≡ Some m → Left c l m
purge_left c d table l m (Purged n k found made) was is = by (l.table == k.table) refl after
  where
    after : m ≡ changed c k l
    after = same_Some m (changed c k l) (sym is ∙ ap (find (λ j. j.table == table)) made ∙ find_changed table_of (changed c k) (changed_keeps c k) table c.logs ∙ ap (option_map (changed c k)) was)

    by : (b : Bool) → (l.table == k.table) ≡ b → m ≡ changed c k l → Left c l m
    by true e after =
        let of_l : l.table ≡ table = find_has table_of table c.logs l was in
        let of_k : k.table ≡ n = find_has table_of n c.logs k found in
        let numbers : n ≡ table = sym of_k ∙ sym (eqb-true l.table k.table e) ∙ of_l in
        let same : k ≡ l = same_Some k l (sym found ∙ ap (log_of c) numbers ∙ was) in
        inr (after ∙ ap (λ b. cond b (purged_log c k) l) e ∙ ap (purged_log c) same)
    by false e after = inl (after ∙ ap (λ b. cond b (purged_log c k) l) e)

pub move_left : (s : State) (x : Event) (d : Catalog) → Move s x d → (table : ℕ) (l m : Log) → log_of s.catalog table ≡ Some l → log_of d table ≡ Some m → Left s.catalog l m
move_left s x d (Stays is) table l m = same_left s.catalog d table l m (ap (λ (c : Catalog). c.logs) is)
move_left s x d (Commits p ss same block is) table l m = same_left s.catalog d table l m (ap (λ (c : Catalog). c.logs) is ∙ dues_logs s.catalog p)
move_left s x d (Creates t new fits is) table l m = same_left s.catalog d table l m (ap (λ (c : Catalog). c.logs) is)
move_left s x d (Alters n a same change form cut is) table l m = same_left s.catalog d table l m (ap (λ (c : Catalog). c.logs) is)
move_left s x d (Logs logs made is) table l m = made_left s.catalog d table l m (subst (MakesLogs s.catalog) (sym (ap (λ (c : Catalog). c.logs) is)) made)
move_left s x d (Purges logs purge is) table l m = purge_left s.catalog d table l m (subst (PurgesLogs s.catalog) (sym (ap (λ (c : Catalog). c.logs) is)) purge)
move_left s x d (Forgets oldest more undo is) table l m = same_left s.catalog d table l m (ap (λ (c : Catalog). c.logs) is)
move_left s x d (Adds v w new star is) table l m = same_left s.catalog d table l m (ap (λ (c : Catalog). c.logs) is)
move_left s x d (Switches n f keeps is) table l m = same_left s.catalog d table l m (ap (λ (c : Catalog). c.logs) is)
move_left s x d (Installs b ps begun takes is) table l m = same_left s.catalog d table l m (ap (λ (c : Catalog). c.logs) is ∙ installed_logs s.catalog ps)
move_left s x d (Drops n free is) table l m = same_left s.catalog d table l m (ap (λ (c : Catalog). c.logs) is)
move_left s x d (Declares a new is) table l m = same_left s.catalog d table l m (ap (λ (c : Catalog). c.logs) is)
move_left s x d (Withdraws name is) table l m = same_left s.catalog d table l m (ap (λ (c : Catalog). c.logs) is)
