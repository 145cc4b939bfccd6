-- A block over tables without partitions, statement by statement.
use Rattle.std.proofs.Common.{◌≡◌, ◌∙◌, sym, ap, refl, subst, arith, ℕ, suc, ◌+◌, ◌*◌, ◌<◌, ◌≤◌, Bool, true, false, cond, ◌||◌, List, [], ◌∷◌, ◌++◌, length, drop, get_or, IsTrue, None, ◌==◌}
use Rattle.std.proofs.lemmas.List.{drop_all, drop_more}
use Rattle.std.specs.List.{All}
use Rattle.std.specs.Prelude.{Err, Ok, Result}
use Rattle.def_effect.specs.Block.{Progress, Stopped, effect, enabled, is_orphaned, max_rows, max_versions, run_statement, run_statements}
use Rattle.wh_base.specs.Lists.{◌>>=◌}
use Rattle.wh_base.specs.Tables.{Base, TableChange}
use Rattle.wh_base.specs.declared.replies.Refusal.{Refusal}
use Rattle.wh_base.specs.declared.statements.Statement.{Statement}
use Rattle.wh_base.specs.declared.tables.TableDef.{TableDef}
use Rattle.wh_check.specs.Effects.{Makes}
use Rattle.wh_check.specs.Fresh.{AreMarked, changes_made, fresh_of}
use Rattle.wh_check.specs.Making.{AreWhole, Fails, Goes, done_at, statement_step}
use Rattle.wh_check.proofs.FreshCounts.{counted, fresh_none}
use Rattle.wh_check.proofs.FreshMarks.{marks_none}
use Rattle.wh_constraints.specs.Constraints.{AreRight}
use Rattle.wh_dml.specs.Sized.{AreSized}
use Rattle.wh_image.specs.Laws.{is_in}
use Rattle.wh_image.specs.Standing.{changed_at, is_change}
use Rattle.wh_keys.specs.Indexes.{Indexes}
use Rattle.wh_load.specs.Sized.{is_sized_def}
use Rattle.wh_table.specs.Kept.{defs_of}
use Rattle.wh_table.specs.Stored.{IsStored, Stored, base_seen, last_scn}
use Rattle.wh_table.proofs.Counting.{all_from, each_from}
use Rattle.wh_table.proofs.Ordered.{Each, each_append}
use Rattle.wh_table.proofs.Seen.{laws_hold}

-- ---- what is so of all definitions

each_defs : (P : TableDef → Type 0) (tables : List Stored) → Each (λ (s : Stored). P s.def) tables → Each P (defs_of tables)
each_defs P [] h = tt
each_defs P (s ∷ tables) h = (h.0, each_defs P tables h.1)

defs_each : (P : TableDef → Type 0) (tables : List Stored) → Each P (defs_of tables) → Each (λ (s : Stored). P s.def) tables
defs_each P [] h = tt
defs_each P (s ∷ tables) h = (h.0, defs_each P tables h.1)

-- it stays
same_defs : (P : TableDef → Type 0) (tables now : List Stored) → defs_of now ≡ defs_of tables → All (λ (s : Stored). P s.def) tables → All (λ (s : Stored). P s.def) now
same_defs P tables now e h = all_from (λ (s : Stored). P s.def) now (defs_each P now (subst (Each P) (sym e) (each_defs P tables (each_from (λ (s : Stored). P s.def) tables h))))

-- ---- the loop

-- The block has come to the statement at this place: with these tables at their SCN, so many rows changed, so many live rows with versions of its own, and so many rows scanned.
pub record IsUnderWay (scn kept : ℕ) (tables : List Stored) (statements : List Statement) (at now_scn : ℕ) (now : List Stored) (rows fresh read : ℕ) : Type 0 where
  pub changes : List TableChange
  pub next : now_scn ≡ scn + 1
  pub rest : run_statements kept (at + 1) (done_at now_scn now changes read rows) (drop at statements) ≡ effect (base_seen scn tables) kept statements
  pub marked : AreMarked now_scn now changes
  pub fresh_is : fresh ≡ fresh_of now_scn now
  pub few : kept + fresh ≤ max_versions
  pub few_rows : rows ≤ at * max_rows
  pub few_read : read ≤ at * max_rows
  pub defs : defs_of now ≡ defs_of tables
  pub moved : (m : ℕ) → changed_at now m ≡ cond (is_in changes m) now_scn (changed_at tables m)
  pub noted : All (λ d. is_change d.change ≡ true) changes

pub whole_now : (scn kept : ℕ) (tables : List Stored) (statements : List Statement) (at now_scn : ℕ) (now : List Stored) (rows fresh read : ℕ) → All (λ s. s.def.part_key ≡ None) tables
    → IsUnderWay scn kept tables statements at now_scn now rows fresh read → AreWhole now
whole_now scn kept tables statements at now_scn now rows fresh read whole w = record { all = same_defs (λ d. d.part_key ≡ None) tables now w.defs whole }

pub sized_now : (scn kept : ℕ) (tables : List Stored) (statements : List Statement) (at now_scn : ℕ) (now : List Stored) (rows fresh read : ℕ) → All (λ s. IsTrue (is_sized_def s.def)) tables
    → IsUnderWay scn kept tables statements at now_scn now rows fresh read → AreSized now
sized_now scn kept tables statements at now_scn now rows fresh read sized w = record { all = same_defs (λ d. IsTrue (is_sized_def d)) tables now w.defs sized }

pub fresh_now : (scn kept : ℕ) (tables : List Stored) (statements : List Statement) (at now_scn : ℕ) (now : List Stored) (rows fresh read : ℕ) → IsUnderWay scn kept tables statements at now_scn now rows fresh read
    → fresh ≡ fresh_of now_scn now
fresh_now scn kept tables statements at now_scn now rows fresh read w = w.fresh_is

pub few_now : (scn kept : ℕ) (tables : List Stored) (statements : List Statement) (at now_scn : ℕ) (now : List Stored) (rows fresh read : ℕ) → IsUnderWay scn kept tables statements at now_scn now rows fresh read
    → kept + fresh ≤ max_versions
few_now scn kept tables statements at now_scn now rows fresh read w = w.few

pub above_now : (scn kept : ℕ) (tables : List Stored) (statements : List Statement) (at now_scn : ℕ) (now : List Stored) (rows fresh read : ℕ) → IsUnderWay scn kept tables statements at now_scn now rows fresh read
    → 0 < now_scn
above_now scn kept tables statements at now_scn now rows fresh read w = let next = w.next in omega (arith, next)

base_rests : (scn : ℕ) (tables : List Stored) → Each (λ s. last_scn s.versions ≤ scn) tables → base_seen (scn + 1) tables ≡ base_seen scn tables
base_rests scn [] h = refl
base_rests scn (s ∷ tables) h = (λ i. sym (laws_hold.rests s scn (scn + 1) h.0 (omega arith)) i ∷ base_rests scn tables h.1 i)

-- nothing changed since the SCN before
pub right_begins : (scn : ℕ) (tables : List Stored) (now_scn : ℕ) (now : List Stored) (all : List Indexes) → All (λ s. last_scn s.versions ≤ scn) tables → now_scn ≡ scn + 1 → now ≡ tables → AreRight scn tables all
    → AreRight now_scn now all
right_begins scn tables now_scn now all settled next same right =
    subst (λ ts. AreRight now_scn ts all) (sym same) (subst (λ m. AreRight m tables all) (sym next) (record {
      indexed = right.indexed;
      parents = subst (λ (b : Base). All (λ t. All (λ f. is_orphaned b t f ≡ false) (enabled t.def)) b) (sym (base_rests scn tables (each_from (λ s. last_scn s.versions ≤ scn) tables settled))) right.parents;
      earlier = right.earlier;
    }))

pub begins : (scn kept : ℕ) (tables : List Stored) (statements : List Statement) (now_scn : ℕ) (now : List Stored) → All (λ s. last_scn s.versions ≤ scn) tables → now_scn ≡ scn + 1 → now ≡ tables → kept ≤ max_versions
    → IsUnderWay scn kept tables statements 0 now_scn now 0 0 0
begins scn kept tables statements now_scn now settled next same few =
    subst (λ ts. IsUnderWay scn kept tables statements 0 now_scn ts 0 0 0) (sym same) (subst (λ m. IsUnderWay scn kept tables statements 0 m tables 0 0 0) (sym next) (record {
      changes = [];
      next = refl;
      rest = (λ i. run_statements kept 1 (record { base = base_rests scn tables (each_from (λ s. last_scn s.versions ≤ scn) tables settled) i; changes = []; scanned = 0; rows = 0 }) statements);
      marked = marks_none scn tables settled;
      fresh_is = sym (fresh_none scn tables settled);
      few = omega (arith, few);
      few_rows = omega arith;
      few_read = omega arith;
      defs = refl;
      moved = λ m. refl;
      noted = all_from (λ d. is_change d.change ≡ true) [] tt;
    }))

-- the statement at a place, and those behind it
pub cut_at : (statements : List Statement) (at : ℕ) (st : Statement) → at < length statements → st ≡ get_or statements at st → drop at statements ≡ st ∷ drop (at + 1) statements
cut_at statements at st less is = drop_more statements at st less ∙ ap (λ s. s ∷ drop (at + 1) statements) (sym is)

is_in_append : (xs ys : List TableChange) (m : ℕ) → is_in (xs ++ ys) m ≡ (is_in xs m || is_in ys m)
is_in_append [] ys m = refl
is_in_append (x ∷ xs) ys m = ap (λ b. (x.table == m) || b) (is_in_append xs ys m) ∙ grouped (x.table == m) (is_in xs m) (is_in ys m)
  where
    grouped : (p q r : Bool) → (p || (q || r)) ≡ ((p || q) || r)
    grouped true q r = refl
    grouped false q r = refl

run_on : (kept at : ℕ) (p : Progress) (st : Statement) (rest all : List Statement) (r : Result Progress Stopped) → all ≡ st ∷ rest → run_statement kept at p st ≡ r
    → run_statements kept at p all ≡ (r >>= (λ q. run_statements kept (suc at) q rest))
run_on kept at p st rest all r cut is = ap (run_statements kept at p) cut ∙ ap (λ x. x >>= (λ q. run_statements kept (suc at) q rest)) is

module _ (scn kept : ℕ) (tables : List Stored) (statements : List Statement) (at now_scn : ℕ) (now : List Stored) (rows fresh read : ℕ) (w : IsUnderWay scn kept tables statements at now_scn now rows fresh read)
    (st : Statement) (cut : drop at statements ≡ st ∷ drop (at + 1) statements) where
  pub stops : (code : Refusal) (more : ℕ) → Fails (statement_step kept st) now_scn now code more → effect (base_seen scn tables) kept statements ≡ Err (record { at = at + 1; code = code; scanned = read + more })
  stops code more fails =
      sym w.rest
      ∙ run_on kept (at + 1) (done_at now_scn now w.changes read rows) st (drop (at + 1) statements) (drop at statements) (Err (record { at = at + 1; code = code; scanned = read + more })) cut (fails.is (at + 1) w.changes read rows w.marked)

  pub goes_on : (new : List Stored) (new_scn more_rows new_fresh more : ℕ) → new_scn ≡ now_scn → Goes (statement_step kept st) now_scn kept now new more_rows new_fresh more → more ≤ max_rows
      → IsUnderWay scn kept tables statements (at + 1) new_scn new (rows + more_rows) new_fresh (read + more)
  goes_on new new_scn more_rows new_fresh more same goes few =
      subst (λ m. IsUnderWay scn kept tables statements (at + 1) m new (rows + more_rows) new_fresh (read + more)) (sym same) (record {
        changes = w.changes ++ (changes_made goes.table goes.changes);
        next = w.next;
        rest = ap (λ m. run_statements kept m (done_at now_scn new (w.changes ++ (changes_made goes.table goes.changes)) (read + more) (rows + more_rows)) (drop (at + 1) statements)) one_more
            ∙ sym (run_on kept (at + 1) (done_at now_scn now w.changes read rows) st (drop (at + 1) statements) (drop at statements) (Ok (done_at now_scn new (w.changes ++ (changes_made goes.table goes.changes)) (read + more) (rows + more_rows))) cut (goes.is (at + 1) w.changes read rows w.marked))
            ∙ w.rest;
        marked = goes.marked w.changes w.marked;
        fresh_is = goes.fresh_is;
        few = goes.few;
        few_rows = few_all;
        few_read = few_all_read;
        defs = goes.defs ∙ w.defs;
        moved = λ m. goes.moved m ∙ ap (λ n. cond (is_in (changes_made goes.table goes.changes) m) now_scn n) (w.moved m) ∙ by m (is_in w.changes m) (is_in (changes_made goes.table goes.changes) m) ∙ ap (λ b. cond b now_scn (changed_at tables m)) (sym (is_in_append w.changes (changes_made goes.table goes.changes) m));
        noted = all_from (λ d. is_change d.change ≡ true) (w.changes ++ (changes_made goes.table goes.changes))
            (each_append (λ d. is_change d.change ≡ true) w.changes (changes_made goes.table goes.changes) (each_from (λ d. is_change d.change ≡ true) w.changes w.noted) (each_from (λ d. is_change d.change ≡ true) (changes_made goes.table goes.changes) goes.noted));
      })
    where
      one_more : at + 1 + 1 ≡ suc (at + 1)
      one_more = omega arith

      few_all : rows + more_rows ≤ (at + 1) * max_rows
      few_all = let had = w.few_rows in let one = goes.few_rows in omega (arith, had, one)

      few_all_read : read + more ≤ (at + 1) * max_rows
      few_all_read = let had = w.few_read in omega (arith, had, few)

      by : (m : ℕ) (old new : Bool) → cond new now_scn (cond old now_scn (changed_at tables m)) ≡ cond (old || new) now_scn (changed_at tables m)
      by m true true = refl
      by m true false = refl
      by m false true = refl
      by m false false = refl

-- the block is done
pub all_done : (scn kept : ℕ) (tables : List Stored) (statements : List Statement) (at now_scn : ℕ) (now : List Stored) (rows fresh read versions : ℕ) → IsUnderWay scn kept tables statements at now_scn now rows fresh read
    → All IsStored now → All (λ s. last_scn s.versions ≤ now_scn) now → length statements ≤ at → versions ≡ kept + fresh → Makes scn tables kept statements now_scn now rows versions read
all_done scn kept tables statements at now_scn now rows fresh read versions w stored settled end sum = record {
  progress = done_at now_scn now w.changes read rows;
  is = sym w.rest ∙ ap (run_statements kept (at + 1) (done_at now_scn now w.changes read rows)) (drop_all at statements end);
  next = w.next;
  leaves = record {
    base = ap (λ m. base_seen m now) (sym w.next);
    defs = w.defs;
    moved = λ m. w.moved m ∙ ap (λ n. cond (is_in w.changes m) n (changed_at tables m)) w.next;
    noted = w.noted;
  };
  rows_are = refl;
  versions_are = sum ∙ ap (λ m. kept + m) (w.fresh_is ∙ sym (counted now_scn now w.changes stored settled w.marked));
  read_is = refl;
}

pub ruleset running = (fresh_now, few_now, above_now)
