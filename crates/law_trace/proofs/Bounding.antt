-- No more row versions are kept than there may be.
use Rattle.std.proofs.Common.{None, ◌≡◌, ◌∙◌, sym, ap, refl, subst, arith, ℕ, suc, ◌+◌, ◌≤◌, Bool, true, false, cond, not, List, [], ◌∷◌, ◌++◌, length, map, nat_le, nat_lt, ◌&&◌, ◌||◌, true≢false}
use Rattle.law_lists.proofs.Each.{Each-from_none}
use Rattle.std.specs.List.{filter, list_any}
use Rattle.std.specs.Prelude.{Ok, count_by, flat_map}
use Rattle.std.proofs.lemmas.Bool.{le-leb, leb-true, ltb-false, not-true, not_from_false, or_parts}
use Rattle.std.proofs.lemmas.List.{append-nil, length-append, length-map}
use Rattle.std.proofs.lemmas.List.Sums.{count_by-le-length, length-filter}
use Rattle.wh_base.specs.Lists.{distinct, distinct_after}
use Rattle.wh_base.specs.Tables.{Base, Row, Table, TableChange, table_at, with_table}
use Rattle.wh_base.specs.declared.replies.Refusal.TheVariants.{VersionsFull}
use Rattle.wh_base.specs.declared.statements.PartChange.{PartChange}
use Rattle.wh_base.specs.declared.tables.Part.{Part}
use Rattle.wh_base.specs.declared.values.Interval.{Interval}
use Rattle.def_effect.specs.Partitions.{Altering, alter_part, moved_rows, regrouped, versions_refusal}
use Rattle.def_journal.specs.Statements.{altered}
use Rattle.wh_base.specs.declared.statements.Event.{Event}
use Rattle.wh_base.specs.declared.statements.Statement.{Statement}
use Rattle.def_effect.specs.Block.{Progress, effect, is_live, max_versions, new_versions, same_place}
use Rattle.def_effect.specs.Define.{defined}
use Rattle.def_history.specs.Catalog.{Catalog, base_now, defs_now, empty_catalog}
use Rattle.def_history.specs.History.{changed_at, ended_by, is_among, kept_versions, versions, versions_begun, versions_kept_above, within}
use Rattle.def_journal.specs.Committing.{after_block, do_dues}
use Rattle.def_journal.specs.Journal.{state_after, state_of}
use Rattle.def_journal.specs.State.{State, with_base}
use Rattle.law_trace.proofs.Basing.{ByAdd, ByDrop, ByMovement, ByRegroup, ByTruncate, CutBy, Merges, Regroups, Splits, asked_changes, block_keeps, cut_by, made, merge_met, none_where, split_met}
use Rattle.law_trace.proofs.Counting.{AreKnown, IsPast, altered_kept, altered_places, any_as, block_gone, changed_new, changed_old, commit_kept, ends, filter_join, grown, kept_grown, kept_same, place, places, there, there_written, versions_old}
use Rattle.law_trace.proofs.Finishing.{finished}
use Rattle.law_trace.proofs.Growing.{SamePast, changes_bounded, installed_past, past_bounded, reached, renumbered_bounded}
use Rattle.law_trace.proofs.Listed.{Each, any_false, each_weaker}
use Rattle.law_trace.proofs.Moves.{Adds, Alters, Commits, Creates, Declares, Drops, Forgets, Installs, Logs, Move, Purges, Stays, Switches, Withdraws, installed}
use Rattle.law_trace.proofs.Rising.{Sound}
use Rattle.law_trace.proofs.Fitting.{trace_sound}
use Rattle.law_trace.proofs.Stepping.{moves}
use Rattle.law_trace.proofs.Traces.{by_events, state_push}
use Rattle.law_trace.specs.Reached.{catalog_of}

-- ---- how many pass

fewer : {A : Type 0} (p q : A → Bool) → ((x : A) → p x ≡ true → q x ≡ true) → (xs : List A) → length (filter p xs) ≤ length (filter q xs)
fewer p q k [] = omega arith
fewer p q k (x ∷ xs) = by (p x) (q x) (k x) (fewer p q k xs)
  where
    by : (a b : Bool) → (a ≡ true → b ≡ true) → length (filter p xs) ≤ length (filter q xs) → length (cond a (x ∷ filter p xs) (filter p xs)) ≤ length (cond b (x ∷ filter q xs) (filter q xs))
    by true true k h = omega arith
    by true false k h = absurd (true≢false (sym (k refl)))
    by false true k h = omega arith
    by false false k h = h

at_most : {A : Type 0} (p : A → Bool) (xs : List A) → length (filter p xs) ≤ length xs
at_most p xs =
    let many : length (filter p xs) ≡ count_by p xs = length-filter p xs in
    let most : count_by p xs ≤ length xs = count_by-le-length p xs in
    omega arith

-- a version that hasn't ended after a new base state hadn't before
alive_before : (c : Catalog) (base : Base) (news : List TableChange) (given : List (ℕ × ℕ)) → Each (IsPast c) c.past → (v : ℕ × (ℕ × ℕ)) → not (ended_by (grown c base news given) c.oldest v) ≡ true → not (ended_by c c.oldest v) ≡ true
alive_before c base news given bounded v e =
    let g : Catalog = grown c base news given in
    let rest : list_any (ends g c.oldest v) c.past ≡ false = (or_parts (ends g c.oldest v (suc c.scn, base)) (list_any (ends g c.oldest v) c.past) (not-true (ended_by g c.oldest v) e)).1 in
    not_from_false (ended_by c c.oldest v)
    (sym (any_as (ends g c.oldest v) (ends c c.oldest v) c.past
    (each_weaker (IsPast c) (λ p. ends g c.oldest v p ≡ ends c c.oldest v p)
    (λ p past. ap (λ ps. within v.0 c.oldest p.0 && (is_among ps v.1 || not (is_live p.1 v.1))) (changed_old c base news given p.0 past)) c.past bounded)) ∙ rest)

most_grown : (c : Catalog) (base : Base) (news : List TableChange) (given : List (ℕ × ℕ)) → Each (IsPast c) c.past → AreKnown c
    → kept_versions (grown c base news given) ≤ there base (places news given) + kept_versions c
most_grown c base news given bounded changes =
    let g : Catalog = grown c base news given in
    let alive : (ℕ × (ℕ × ℕ) → Bool) = λ v. not (ended_by g c.oldest v) in
    let begun : List (ℕ × (ℕ × ℕ)) = versions_begun g (suc c.scn, base) in
    let older : List (ℕ × (ℕ × ℕ)) = flat_map (versions_begun g) c.past in
    let split : kept_versions g ≡ length (filter alive begun) + length (filter alive older) = ap length (filter_join alive begun older) ∙ length-append (filter alive begun) (filter alive older) in
    let first : length (filter alive begun) ≤ length begun = at_most alive begun in
    let new : length begun ≡ there base (places news given) =
    length-map (filter (is_live base) (distinct same_place (changed_at g (suc c.scn)))) (λ r. (suc c.scn, r)) ∙ ap (there base) (changed_new c base news given changes) in
    let same : length (filter alive older) ≡ length (filter alive (versions c)) = ap (λ vs. length (filter alive vs)) (versions_old c base news given bounded) in
    let second : length (filter alive (versions c)) ≤ kept_versions c = fewer alive (λ v. not (ended_by c c.oldest v)) (alive_before c base news given bounded) (versions c) in
    omega arith

-- ---- a later oldest SCN

shorter : (a b d x : Bool) → (b ≡ true → d ≡ true) → ((a && d) && x) ≡ false → ((a && b) && x) ≡ false
shorter false b d x k e = refl
shorter true false d x k e = refl
shorter true true d x k e = subst (λ d. (d && x) ≡ false) (k refl) e

alive_longer : (c : Catalog) (oldest : ℕ) → c.oldest ≤ oldest → (v : ℕ × (ℕ × ℕ)) → not (ended_by c oldest v) ≡ true → not (ended_by c c.oldest v) ≡ true
alive_longer c oldest low v e =
    not_from_false (ended_by c c.oldest v)
    (any_false (ends c c.oldest v) c.past
    (each_weaker (λ p. ends c oldest v p ≡ false) (λ p. ends c c.oldest v p ≡ false)
    (λ p none. shorter (nat_lt v.0 p.0) (nat_le p.0 c.oldest) (nat_le p.0 oldest) (is_among (changed_at c p.0) v.1 || not (is_live p.1 v.1))
    (λ is. let within : p.0 ≤ c.oldest = leb-true p.0 c.oldest is in le-leb p.0 oldest (omega arith)) none) c.past
    (Each-from_none (ends c oldest v) c.past (not-true (ended_by c oldest v) e))))

-- ---- a block

abbrev IsBelow : ℕ → Progress → Type 0
IsBelow kept p = kept + new_versions p.base p.changes ≤ max_versions

block_below : (base : Base) (kept : ℕ) (ss : List Statement) (p : Progress) → effect base kept ss ≡ Ok p → kept ≤ max_versions → IsBelow kept p
block_below base kept ss p same low =
    let none : new_versions base [] ≡ 0 = refl in
    block_keeps kept (IsBelow kept)
    (λ q s a passes h. (finished (made q.base a) a.table kept (q.changes ++ asked_changes q.base a) passes.whole).versions) base ss p same (omega arith)

-- ---- each event

abbrev IsFilled : Catalog → Type 0
IsFilled c = kept_versions c ≤ max_versions

-- a new base state without changes leaves the kept versions
pub based_kept : (c : Catalog) (base : Base) → Each (IsPast c) c.past → AreKnown c → c.oldest ≤ c.scn → kept_versions (with_base c base) ≡ kept_versions c
based_kept c base past changes low =
    let same : kept_versions (grown c base [] []) ≡ kept_versions (with_base c base) = kept_same (with_base c base) (grown c base [] []) refl (append-nil c.changes) (append-nil c.renumbered) refl in
    let none : there base (places [] []) ≡ 0 = refl in
    let more : kept_versions (grown c base [] []) ≡ there base (places [] []) + kept_versions c = kept_grown c base [] [] past changes low in
    omega arith

based_filled : (c : Catalog) (base : Base) → Each (IsPast c) c.past → AreKnown c → IsFilled c → kept_versions (with_base c base) ≤ max_versions
based_filled c base past changes h =
    let same : kept_versions (grown c base [] []) ≡ kept_versions (with_base c base) = kept_same (with_base c base) (grown c base [] []) refl (append-nil c.changes) (append-nil c.renumbered) refl in
    let none : there base (places [] []) ≡ 0 = refl in
    let most : kept_versions (grown c base [] []) ≤ there base (places [] []) + kept_versions c = most_grown c base [] [] past changes in
    omega arith

pub record Known (c : Catalog) : Type 0 where
  pub sound : Each Sound (base_now c)
  pub past : Each (IsPast c) c.past
  pub changes : AreKnown c

commit_filled : (c : Catalog) (p : Progress) (ss : List Statement) → Known c → effect (base_now c) (kept_versions c) ss ≡ Ok p → IsFilled c → IsFilled (do_dues (after_block c p) p.changes).catalog
commit_filled c p ss k same h =
    let one : kept_versions (do_dues (after_block c p) p.changes).catalog ≡ kept_versions (grown c p.base p.changes []) = commit_kept c p in
    let two : kept_versions (grown c p.base p.changes []) ≤ there p.base (places p.changes []) + kept_versions c = most_grown c p.base p.changes [] k.past k.changes in
    let also : there p.base (places p.changes []) ≡ there p.base (map place p.changes) = ap (there p.base) (append-nil (map place p.changes)) in
    let three : there p.base (map place p.changes) ≡ new_versions p.base p.changes = there_written p.base p.changes (block_gone (base_now c) (kept_versions c) ss p same k.sound) in
    let four : kept_versions c + new_versions p.base p.changes ≤ max_versions = block_below (base_now c) (kept_versions c) ss p same h in
    omega arith

pub installed_kept : (c : Catalog) (ps : List (ℕ × ℕ)) → kept_versions (installed ps c) ≡ kept_versions c
installed_kept c ps = let same : SamePast c (installed ps c) = installed_past c ps in kept_same c (installed ps c) same.past same.changes same.renumbered same.oldest

-- ALTER TABLE gives no more new rowids than versions may be kept
distinct_most : (seen ps : List (ℕ × ℕ)) → length (distinct_after same_place seen ps) ≤ length ps
distinct_most seen [] = omega arith
distinct_most seen (p ∷ ps) = by (list_any (same_place p) seen) (distinct_most seen ps) (distinct_most (p ∷ seen) ps)
  where
    by : (b : Bool) → length (distinct_after same_place seen ps) ≤ length ps → length (distinct_after same_place (p ∷ seen) ps) ≤ length ps
        → length (cond b (distinct_after same_place seen ps) (p ∷ distinct_after same_place (p ∷ seen) ps)) ≤ length (p ∷ ps)
    by true h k = omega (arith, h)
    by false h k = omega (arith, k)

there_most : (base : Base) (ps : List (ℕ × ℕ)) → there base ps ≤ length ps
there_most base ps =
    let few : length (filter (is_live base) (distinct same_place ps)) ≤ length (distinct same_place ps) = at_most (is_live base) (distinct same_place ps) in
    let most : length (distinct same_place ps) ≤ length ps = distinct_most [] ps in
    omega arith

abbrev GivesFew : ℕ → Altering → Type 0
GivesFew kept a = kept + length a.renumbered ≤ max_versions

versions_pass : (kept : ℕ) (t : Table) (ended : List ℕ) → versions_refusal kept t ended ≡ None → kept + length (map (λ (r : Row). r.rowid) (moved_rows t ended)) ≤ max_versions
versions_pass kept t ended none =
    let low : kept + length (moved_rows t ended) ≤ max_versions = ltb-false max_versions (kept + length (moved_rows t ended)) (none_where (nat_lt max_versions (kept + length (moved_rows t ended))) (VersionsFull t.def.name) none) in
    let many : length (map (λ (r : Row). r.rowid) (moved_rows t ended)) ≡ length (moved_rows t ended) = length-map (moved_rows t ended) (λ r. r.rowid) in
    omega arith

none_given : (kept : ℕ) (a : Altering) → a.renumbered ≡ [] → kept ≤ max_versions → GivesFew kept a
none_given kept a none h = let no : length a.renumbered ≡ 0 = ap length none in omega (arith, h)

groups_few : (kept : ℕ) (t : Table) (before after : List (Part × Interval)) → Regroups kept t before after → GivesFew kept (regrouped t before after)
groups_few kept t before after (Splits s p key at named none b c) =
    subst (λ ps. GivesFew kept (regrouped t ps after)) (sym b) (versions_pass kept t (p.0.number ∷ []) (split_met kept t s p key none).1)
groups_few kept t before after (Merges s p q one other none b c) =
    subst (λ ps. GivesFew kept (regrouped t ps after)) (sym b) (versions_pass kept t (p.0.number ∷ q.0.number ∷ []) (merge_met kept t s p q none).1)

cut_few : (kept : ℕ) (base : Base) (n : ℕ) (t : Table) (a : Altering) → CutBy kept base n t a → kept ≤ max_versions → GivesFew kept a
cut_few kept base n t a (ByAdd r key none is) h = none_given kept a (ap (λ (a : Altering). a.renumbered) is) h
cut_few kept base n t a (ByDrop name p named none is) h = none_given kept a (ap (λ (a : Altering). a.renumbered) is) h
cut_few kept base n t a (ByTruncate name p named none is) h = none_given kept a (ap (λ (a : Altering). a.renumbered) is) h
cut_few kept base n t a (ByRegroup before after groups is) h = subst (GivesFew kept) (sym is) (groups_few kept t before after groups)
cut_few kept base n t a (ByMovement on is) h = none_given kept a (ap (λ (a : Altering). a.renumbered) is) h

altered_filled : (c : Catalog) (n : ℕ) (a : Altering) (change : PartChange) → Known c → alter_part (kept_versions c) (base_now c) n (table_at (base_now c) n) change ≡ Ok a → IsFilled c → IsFilled (altered c n a)
altered_filled c n a change k cut h =
    let base : Base = with_table (base_now c) n a.table in
    let one : kept_versions (altered c n a) ≡ kept_versions (grown c base [] (altered_places n a)) = altered_kept c n a in
    let two : kept_versions (grown c base [] (altered_places n a)) ≤ there base (altered_places n a) + kept_versions c = most_grown c base [] (altered_places n a) k.past k.changes in
    let three : there base (altered_places n a) ≤ length (altered_places n a) = there_most base (altered_places n a) in
    let many : length (altered_places n a) ≡ length a.renumbered = length-map a.renumbered (λ rowid. (n, rowid)) in
    let few : kept_versions c + length a.renumbered ≤ max_versions = cut_few (kept_versions c) (base_now c) n (table_at (base_now c) n) a (cut_by (kept_versions c) (base_now c) n (table_at (base_now c) n) change a cut) h in
    omega arith

move_filled : (s : State) (x : Event) (d : Catalog) → Known s.catalog → Move s x d → IsFilled s.catalog → IsFilled d
move_filled s x d k (Stays is) h = subst IsFilled (sym is) h
move_filled s x d k (Commits p ss same block is) h = subst IsFilled (sym is) (commit_filled s.catalog p ss k same h)
move_filled s x d k (Creates t new fits is) h =
    subst IsFilled (sym is) (based_filled s.catalog (base_now s.catalog ++ defined (defs_now s.catalog) t ∷ []) k.past k.changes h)
move_filled s x d k (Alters n a same change form cut is) h = subst IsFilled (sym is) (altered_filled s.catalog n a change k cut h)
move_filled s x d k (Logs logs made is) h = subst IsFilled (sym is) h
move_filled s x d k (Purges logs purge is) h = subst IsFilled (sym is) h
move_filled s x d k (Forgets oldest more undo is) h =
    let most : versions_kept_above s.catalog oldest ≤ kept_versions s.catalog =
    fewer (λ v. not (ended_by s.catalog oldest v)) (λ v. not (ended_by s.catalog s.catalog.oldest v)) (alive_longer s.catalog oldest more) (versions s.catalog) in
    let low : versions_kept_above s.catalog oldest ≤ max_versions = omega (arith, h) in
    subst IsFilled (sym is) low
move_filled s x d k (Adds v w new star is) h = subst IsFilled (sym is) h
move_filled s x d k (Switches n f keeps is) h = subst IsFilled (sym is) h
move_filled s x d k (Installs b ps begun takes is) h = subst IsFilled (sym is) (subst (λ n. n ≤ max_versions) (sym (installed_kept s.catalog ps)) h)
move_filled s x d k (Drops n free is) h = subst IsFilled (sym is) h
move_filled s x d k (Declares a new is) h = subst IsFilled (sym is) h
move_filled s x d k (Withdraws name is) h = subst IsFilled (sym is) h

pub known : (trace : List Event) → Known (catalog_of trace)
known trace = record { sound = trace_sound trace; past = past_bounded (catalog_of trace) (reached trace); changes = record { changes = changes_bounded (catalog_of trace) (reached trace); given = renumbered_bounded (catalog_of trace) (reached trace) } }

filled_none : IsFilled empty_catalog
filled_none = let none : kept_versions empty_catalog ≡ 0 = refl in omega arith

pub trace_filled : (trace : List Event) → kept_versions (catalog_of trace) ≤ max_versions
trace_filled = by_events (λ trace. IsFilled (catalog_of trace)) filled_none step
  where
    step : (front : List Event) (e : Event) → IsFilled (catalog_of front) → IsFilled (catalog_of (front ++ e ∷ []))
    step front e h =
        subst (λ (s : State). IsFilled s.catalog) (sym (state_push front e))
        (move_filled (state_of front) e (state_after (state_of front) e).catalog (known front) (moves (state_of front) e).catalog h)
