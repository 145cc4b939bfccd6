-- Row versions are counted: a block adds those that it makes.
use Rattle.std.proofs.Common.{◌≡◌, ◌∙◌, sym, ap, refl, subst, arith, ℕ, zero, suc, ◌+◌, ◌<◌, ◌≤◌, Bool, true, false, cond, not, List, [], ◌∷◌, ◌++◌, length, map, Option, None, Some, nat_le, nat_lt, ◌==◌, ◌&&◌, ◌||◌, true≢false}
use Rattle.law_lists.proofs.Each.{Each-passes}
use Rattle.std.specs.List.{cons_option, filter, fold, list_any}
use Rattle.std.specs.Prelude.{Ok, count_by, filter_map, flat_map, option_map}
use Rattle.std.proofs.lemmas.Bool.{and_parts, and_right, eq-eqb, eqb-true, le-ltb, lt-leb, not-true}
use Rattle.std.proofs.lemmas.List.{append-nil, length-append, length-map}
use Rattle.wh_base.specs.Lists.{distinct, distinct_after}
use Rattle.wh_base.specs.Tables.{Base, Row, Table, TableChange, empty_table, is_insert, rows_after, table_after, table_at, with_table}
use Rattle.wh_base.specs.declared.statements.Statement.{Statement}
use Rattle.wh_base.specs.declared.tables.Change.{Change}
use Rattle.wh_base.specs.declared.values.Value.{Value}
use Rattle.def_effect.specs.Block.{Asks, Progress, deleted_change, effect, is_live, new_versions, same_place, written_row}
use Rattle.def_effect.specs.Partitions.{Altering}
use Rattle.def_history.specs.Catalog.{Catalog, Noted, Renumbered, base_now, empty_catalog}
use Rattle.def_history.specs.History.{changed_at, ended_by, is_among, kept_versions, versions, versions_begun, within}
use Rattle.def_journal.specs.Committing.{after_block, do_dues, noted}
use Rattle.def_journal.specs.State.{with_base}
use Rattle.def_journal.specs.Statements.{altered, renumbered}
use Rattle.law_trace.proofs.Asking.{is_there}
use Rattle.law_trace.proofs.Basing.{Passes, after, asked_changes, block_keeps, each_with, made, made_of}
use Rattle.law_trace.proofs.Growing.{SamePast, dues_past}
use Rattle.law_trace.proofs.Listed.{Each, any_false, below_differs, each_append, each_filter, each_made, each_map, each_weaker, eq_false, filter_behind}
use Rattle.law_trace.proofs.Rising.{Comes, Goes, Sound, Step, Steps, Turns, changed_row, count_more, each_unit, same_rowid, sound_after, steps_keep, steps_made, weight}

-- ---- lists

pub filter_join : {A : Type 0} (p : A → Bool) (xs ys : List A) → filter p (xs ++ ys) ≡ filter p xs ++ filter p ys
filter_join p [] ys = refl
filter_join p (x ∷ xs) ys = by (p x) (filter_join p xs ys)
  where
    by : (b : Bool) → filter p (xs ++ ys) ≡ filter p xs ++ filter p ys → cond b (x ∷ filter p (xs ++ ys)) (filter p (xs ++ ys)) ≡ cond b (x ∷ filter p xs) (filter p xs) ++ filter p ys
    by true h = ap (λ zs. x ∷ zs) h
    by false h = h

pub filter_whole : {A : Type 0} (p : A → Bool) (xs : List A) → Each (λ x. p x ≡ true) xs → filter p xs ≡ xs
filter_whole p [] h = refl
filter_whole p (x ∷ xs) h = ap (λ b. cond b (x ∷ filter p xs) (filter p xs)) h.0 ∙ ap (λ ys. x ∷ ys) (filter_whole p xs h.1)

filter_as : {A : Type 0} (p q : A → Bool) → ((x : A) → p x ≡ q x) → (xs : List A) → filter p xs ≡ filter q xs
filter_as p q k [] = refl
filter_as p q k (x ∷ xs) = ap (λ b. cond b (x ∷ filter p xs) (filter p xs)) (k x) ∙ ap (λ ys. cond (q x) (x ∷ ys) ys) (filter_as p q k xs)

filter_before : {A : Type 0} (p : A → Bool) (xs ys : List A) → Each (λ x. p x ≡ false) xs → filter p (xs ++ ys) ≡ filter p ys
filter_before p [] ys h = refl
filter_before p (x ∷ xs) ys h = ap (λ b. cond b (x ∷ filter p (xs ++ ys)) (filter p (xs ++ ys))) h.0 ∙ filter_before p xs ys h.1

pub any_as : {A : Type 0} (f g : A → Bool) (xs : List A) → Each (λ x. f x ≡ g x) xs → list_any f xs ≡ list_any g xs
any_as f g [] h = refl
any_as f g (x ∷ xs) h = ap (λ b. b || list_any f xs) h.0 ∙ ap (λ b. g x || b) (any_as f g xs h.1)

flat_as : {A B : Type 0} (f g : A → List B) (xs : List A) → Each (λ x. f x ≡ g x) xs → flat_map f xs ≡ flat_map g xs
flat_as f g [] h = refl
flat_as f g (x ∷ xs) h = ap (λ ys. ys ++ flat_map f xs) h.0 ∙ ap (λ ys. g x ++ ys) (flat_as f g xs h.1)

-- ---- a catalog with one base state more

-- with these changes of rows, and these rows that got their rowids
abbrev given_row : ℕ → ℕ × ℕ → Renumbered
given_row scn p = record { scn = scn; table = p.0; rowid = p.1 }

abbrev pub grown : Catalog → Base → List TableChange → List (ℕ × ℕ) → Catalog
grown c base news given = record (with_base c base) { changes = c.changes ++ map (noted (suc c.scn)) news; renumbered = c.renumbered ++ map (given_row (suc c.scn)) given }

abbrev pub place : TableChange → ℕ × ℕ
place c = (c.table, c.change.rowid)

abbrev noted_place : Noted → ℕ × ℕ
noted_place n = (n.table, n.change.rowid)

abbrev given_place : Renumbered → ℕ × ℕ
given_place n = (n.table, n.rowid)

pub changed_old : (c : Catalog) (base : Base) (news : List TableChange) (given : List (ℕ × ℕ)) (s : ℕ) → s ≤ c.scn → changed_at (grown c base news given) s ≡ changed_at c s
changed_old c base news given s low =
    let one : map noted_place (filter (λ n. n.scn == s) (c.changes ++ map (noted (suc c.scn)) news)) ≡ map noted_place (filter (λ n. n.scn == s) c.changes) =
    ap (λ ns. map noted_place ns)
    (filter_behind (λ n. n.scn == s) c.changes (map (noted (suc c.scn)) news) (each_made (λ n. (n.scn == s) ≡ false) (noted (suc c.scn)) (λ ch. eq_false s (suc c.scn) (omega arith)) news)) in
    let two : map given_place (filter (λ n. n.scn == s) (c.renumbered ++ map (given_row (suc c.scn)) given)) ≡ map given_place (filter (λ n. n.scn == s) c.renumbered) =
    ap (λ ns. map given_place ns)
    (filter_behind (λ n. n.scn == s) c.renumbered (map (given_row (suc c.scn)) given) (each_made (λ n. (n.scn == s) ≡ false) (given_row (suc c.scn)) (λ p. eq_false s (suc c.scn) (omega arith)) given)) in
    λ i. one i ++ two i

map_noted : (scn : ℕ) (news : List TableChange) → map noted_place (map (noted scn) news) ≡ map place news
map_noted scn [] = refl
map_noted scn (ch ∷ news) = ap (λ ps. place ch ∷ ps) (map_noted scn news)

map_given : (scn : ℕ) (given : List (ℕ × ℕ)) → map given_place (map (given_row scn) given) ≡ given
map_given scn [] = refl
map_given scn (p ∷ given) = ap (λ ps. p ∷ ps) (map_given scn given)

-- no change and no new rowid is of a later SCN
pub record AreKnown (c : Catalog) : Type 0 where
  pub changes : Each (λ n. n.scn ≤ c.scn) c.changes
  pub given : Each (λ n. n.scn ≤ c.scn) c.renumbered

-- the rows of what is new
abbrev pub places : List TableChange → List (ℕ × ℕ) → List (ℕ × ℕ)
places news given = map place news ++ given

pub changed_new : (c : Catalog) (base : Base) (news : List TableChange) (given : List (ℕ × ℕ)) → AreKnown c → changed_at (grown c base news given) (suc c.scn) ≡ places news given
changed_new c base news given known =
    let one : map noted_place (filter (λ n. n.scn == suc c.scn) (c.changes ++ map (noted (suc c.scn)) news)) ≡ map place news =
    ap (λ ns. map noted_place ns)
    (filter_before (λ n. n.scn == suc c.scn) c.changes (map (noted (suc c.scn)) news)
    (each_weaker (λ n. n.scn ≤ c.scn) (λ n. (n.scn == suc c.scn) ≡ false) (λ n low. below_differs n.scn (suc c.scn) (omega arith)) c.changes known.changes)
    ∙ filter_whole (λ n. n.scn == suc c.scn) (map (noted (suc c.scn)) news)
    (each_made (λ n. (n.scn == suc c.scn) ≡ true) (noted (suc c.scn)) (λ ch. eq-eqb (suc c.scn) (suc c.scn) refl) news))
    ∙ map_noted (suc c.scn) news in
    let two : map given_place (filter (λ n. n.scn == suc c.scn) (c.renumbered ++ map (given_row (suc c.scn)) given)) ≡ given =
    ap (λ ns. map given_place ns)
    (filter_before (λ n. n.scn == suc c.scn) c.renumbered (map (given_row (suc c.scn)) given)
    (each_weaker (λ n. n.scn ≤ c.scn) (λ n. (n.scn == suc c.scn) ≡ false) (λ n low. below_differs n.scn (suc c.scn) (omega arith)) c.renumbered known.given)
    ∙ filter_whole (λ n. n.scn == suc c.scn) (map (given_row (suc c.scn)) given)
    (each_made (λ n. (n.scn == suc c.scn) ≡ true) (given_row (suc c.scn)) (λ p. eq-eqb (suc c.scn) (suc c.scn) refl) given))
    ∙ map_given (suc c.scn) given in
    λ i. one i ++ two i

abbrev pub IsPast : Catalog → ℕ × Base → Type 0
IsPast c p = p.0 ≤ c.scn

pub versions_old : (c : Catalog) (base : Base) (news : List TableChange) (given : List (ℕ × ℕ)) → Each (IsPast c) c.past → flat_map (versions_begun (grown c base news given)) c.past ≡ versions c
versions_old c base news given bounded =
    flat_as (versions_begun (grown c base news given)) (versions_begun c) c.past
    (each_weaker (IsPast c) (λ p. versions_begun (grown c base news given) p ≡ versions_begun c p)
    (λ p low. ap (λ ps. map (λ r. (p.0, r)) (filter (is_live p.1) (distinct same_place ps))) (changed_old c base news given p.0 low)) c.past bounded)

-- the version ended with this base state
abbrev pub ends : Catalog → ℕ → ℕ × (ℕ × ℕ) → ℕ × Base → Bool
ends c oldest v p = within v.0 oldest p.0 && (is_among (changed_at c p.0) v.1 || not (is_live p.1 v.1))

no_and : (a b : Bool) → a ≡ false → (a && b) ≡ false
no_and a b h = ap (λ a. a && b) h

ended_old : (c : Catalog) (base : Base) (news : List TableChange) (given : List (ℕ × ℕ)) → Each (IsPast c) c.past → c.oldest ≤ c.scn → (v : ℕ × (ℕ × ℕ)) → ended_by (grown c base news given) c.oldest v ≡ ended_by c c.oldest v
ended_old c base news given bounded low v =
    let g : Catalog = grown c base news given in
    let later : within v.0 c.oldest (suc c.scn) ≡ false = and_right (nat_lt v.0 (suc c.scn)) (nat_le (suc c.scn) c.oldest) (lt-leb (suc c.scn) c.oldest (omega arith)) in
    ap (λ b. b || list_any (ends g c.oldest v) c.past) (no_and (within v.0 c.oldest (suc c.scn)) (is_among (changed_at g (suc c.scn)) v.1 || not (is_live base v.1)) later)
    ∙ any_as (ends g c.oldest v) (ends c c.oldest v) c.past
    (each_weaker (IsPast c) (λ p. ends g c.oldest v p ≡ ends c c.oldest v p)
    (λ p past. ap (λ ps. within v.0 c.oldest p.0 && (is_among ps v.1 || not (is_live p.1 v.1))) (changed_old c base news given p.0 past)) c.past bounded)

ended_new : (c : Catalog) (base : Base) (news : List TableChange) (given : List (ℕ × ℕ)) → Each (IsPast c) c.past → (r : ℕ × ℕ) → ended_by (grown c base news given) c.oldest (suc c.scn, r) ≡ false
ended_new c base news given bounded r =
    let g : Catalog = grown c base news given in
    let never : (p : ℕ × Base) → p.0 ≤ suc c.scn → ends g c.oldest (suc c.scn, r) p ≡ false =
    λ p low. ap (λ b. (b && nat_le p.0 c.oldest) && (is_among (changed_at g p.0) r || not (is_live p.1 r))) (le-ltb (suc c.scn) p.0 low) in
    any_false (ends g c.oldest (suc c.scn, r)) ((suc c.scn, base) ∷ c.past)
    (never (suc c.scn, base) (omega arith), each_weaker (IsPast c) (λ p. ends g c.oldest (suc c.scn, r) p ≡ false) (λ p past. never p (omega arith)) c.past bounded)

-- the rows that are there among these places, each once
abbrev pub there : Base → List (ℕ × ℕ) → ℕ
there base ps = length (filter (is_live base) (distinct same_place ps))

pub kept_grown : (c : Catalog) (base : Base) (news : List TableChange) (given : List (ℕ × ℕ)) → Each (IsPast c) c.past → AreKnown c → c.oldest ≤ c.scn
    → kept_versions (grown c base news given) ≡ there base (places news given) + kept_versions c
kept_grown c base news given bounded changes low =
    let g : Catalog = grown c base news given in
    let alive : (ℕ × (ℕ × ℕ) → Bool) = λ v. not (ended_by g c.oldest v) in
    let begun : List (ℕ × (ℕ × ℕ)) = versions_begun g (suc c.scn, base) in
    let new : filter alive begun ≡ begun =
    filter_whole alive begun (each_made (λ v. alive v ≡ true) (λ r. (suc c.scn, r)) (λ r. ap not (ended_new c base news given bounded r)) (filter (is_live base) (distinct same_place (changed_at g (suc c.scn))))) in
    let old : filter alive (flat_map (versions_begun g) c.past) ≡ filter (λ v. not (ended_by c c.oldest v)) (versions c) =
    ap (λ vs. filter alive vs) (versions_old c base news given bounded)
    ∙ filter_as alive (λ v. not (ended_by c c.oldest v)) (λ v. ap not (ended_old c base news given bounded low v)) (versions c) in
    ap length (filter_join alive begun (flat_map (versions_begun g) c.past))
    ∙ length-append (filter alive begun) (filter alive (flat_map (versions_begun g) c.past))
    ∙ ap (λ vs. length vs + length (filter alive (flat_map (versions_begun g) c.past))) new
    ∙ ap (λ vs. length begun + length vs) old
    ∙ ap (λ n. n + kept_versions c)
    (length-map (filter (is_live base) (distinct same_place (changed_at g (suc c.scn)))) (λ r. (suc c.scn, r)) ∙ ap (there base) (changed_new c base news given changes))

-- ---- rows that were written, of those that were changed

module _ {A : Type 0} (same : A → A → Bool) (p : A → Bool) (alike : (x y : A) → same x y ≡ true → p x ≡ p y) where
  -- where x passes, what is the same passes too
  any_kept : (x : A) (seen : List A) → p x ≡ true → list_any (same x) (filter p seen) ≡ list_any (same x) seen
  any_kept x [] e = refl
  any_kept x (y ∷ seen) e = by (p y) (same x y) refl refl (any_kept x seen e)
    where
      by : (b s : Bool) → p y ≡ b → same x y ≡ s → list_any (same x) (filter p seen) ≡ list_any (same x) seen
          → list_any (same x) (cond b (y ∷ filter p seen) (filter p seen)) ≡ (s || list_any (same x) seen)
      by true s is at h = ap (λ b. b || list_any (same x) (filter p seen)) at ∙ ap (λ b. s || b) h
      by false true is at h = absurd (true≢false (sym e ∙ alike x y at ∙ is))
      by false false is at h = h

  filter_distinct : (seen xs : List A) → filter p (distinct_after same seen xs) ≡ distinct_after same (filter p seen) (filter p xs)
  filter_distinct seen [] = refl
  filter_distinct seen (x ∷ xs) = by (p x) (list_any (same x) seen) refl refl (filter_distinct seen xs) (filter_distinct (x ∷ seen) xs)
    where
      by : (b s : Bool) → p x ≡ b → list_any (same x) seen ≡ s
          → filter p (distinct_after same seen xs) ≡ distinct_after same (filter p seen) (filter p xs)
          → filter p (distinct_after same (x ∷ seen) xs) ≡ distinct_after same (filter p (x ∷ seen)) (filter p xs)
          → filter p (cond s (distinct_after same seen xs) (x ∷ distinct_after same (x ∷ seen) xs)) ≡ distinct_after same (filter p seen) (cond b (x ∷ filter p xs) (filter p xs))
      by true true is at h k =
          h ∙ sym (ap (λ b. cond b (distinct_after same (filter p seen) (filter p xs)) (x ∷ distinct_after same (x ∷ filter p seen) (filter p xs))) (any_kept x seen is ∙ at))
      by true false is at h k =
          ap (λ b. cond b (x ∷ filter p (distinct_after same (x ∷ seen) xs)) (filter p (distinct_after same (x ∷ seen) xs))) is
          ∙ ap (λ ys. x ∷ ys) (k ∙ ap (λ b. distinct_after same (cond b (x ∷ filter p seen) (filter p seen)) (filter p xs)) is)
          ∙ sym (ap (λ b. cond b (distinct_after same (filter p seen) (filter p xs)) (x ∷ distinct_after same (x ∷ filter p seen) (filter p xs))) (any_kept x seen is ∙ at))
      by false true is at h k = h
      by false false is at h k =
          ap (λ b. cond b (x ∷ filter p (distinct_after same (x ∷ seen) xs)) (filter p (distinct_after same (x ∷ seen) xs))) is
          ∙ k ∙ ap (λ b. distinct_after same (cond b (x ∷ filter p seen) (filter p seen)) (filter p xs)) is

live_alike : (base : Base) (a b : ℕ × ℕ) → same_place a b ≡ true → is_live base a ≡ is_live base b
live_alike base a b e =
    ap (λ n. is_live base (n, a.1)) (eqb-true a.0 b.0 (and_parts (a.0 == b.0) (a.1 == b.1) e).0)
    ∙ ap (λ n. is_live base (b.0, n)) (eqb-true a.1 b.1 (and_parts (a.0 == b.0) (a.1 == b.1) e).1)

-- a row that was deleted is gone
abbrev IsGone : Base → TableChange → Type 0
IsGone base c = c.change.new ≡ None → is_live base (place c) ≡ false

written_live : (base : Base) (changes : List TableChange) → Each (IsGone base) changes → filter (is_live base) (map place changes) ≡ filter (is_live base) (filter_map written_row changes)
written_live base [] h = refl
written_live base (c ∷ changes) h = by c.change.new refl (written_live base changes h.1)
  where
    by : (o : Option (List Value)) → c.change.new ≡ o → filter (is_live base) (map place changes) ≡ filter (is_live base) (filter_map written_row changes)
        → filter (is_live base) (place c ∷ map place changes) ≡ filter (is_live base) (cons_option (option_map (λ _. (c.table, c.change.rowid)) o) (filter_map written_row changes))
    by None is k = ap (λ b. cond b (place c ∷ filter (is_live base) (map place changes)) (filter (is_live base) (map place changes))) (h.0 is) ∙ k
    by (Some vs) is k = ap (λ ps. cond (is_live base (place c)) (place c ∷ ps) ps) k

pub there_written : (base : Base) (changes : List TableChange) → Each (IsGone base) changes → there base (map place changes) ≡ new_versions base changes
there_written base changes h =
    ap length
    (filter_distinct same_place (is_live base) (live_alike base) [] (map place changes)
    ∙ ap (λ ps. distinct same_place ps) (written_live base changes h)
    ∙ sym (filter_distinct same_place (is_live base) (live_alike base) [] (filter_map written_row changes)))

-- ---- what was deleted stays away

abbrev IsAbsent : ℕ → Row → Type 0
IsAbsent n r = (r.rowid == n) ≡ false

-- no row has this rowid, and it was given, so none will
abbrev IsAway : Table → ℕ → Type 0
IsAway t n = Each (IsAbsent n) t.rows × (n ≤ t.given)

-- what is away stays away
absent_step : (t : Table) (m : ℕ) (rows : List Row) (c : Change) (n : ℕ) → Step t m rows c → (Each (IsAbsent n) rows × (n ≤ m)) → (Each (IsAbsent n) (rows_after rows c) × (n ≤ m + weight c))
absent_step t m rows c n (Comes vs fits none is) h =
    (subst (λ c. Each (IsAbsent n) (rows_after rows c)) (sym is) (each_append (IsAbsent n) rows (record { rowid = suc m; values = vs } ∷ []) h.0 (eq_false n (suc m) (omega (arith, h.1)), tt)), omega (arith, h.1))
absent_step t m rows c n (Turns r vs has fits is) h = (
  subst (λ c. Each (IsAbsent n) (rows_after rows c)) (sym is)
      (each_map (IsAbsent n) (IsAbsent n) (changed_row r.rowid vs) (λ q absent. ap (λ k. k == n) (same_rowid r.rowid vs q) ∙ absent) rows h.0),
  omega (arith, h.1),
)
absent_step t m rows c n (Goes r has is) h =
    (subst (λ c. Each (IsAbsent n) (rows_after rows c)) (sym is) (each_filter (IsAbsent n) (λ q. not (q.rowid == r.rowid)) rows h.0), omega (arith, h.1))

-- as the rows and how many rowids were given
abbrev IsAwayBy : ℕ → List Row → ℕ → Type 0
IsAwayBy m rows n = Each (IsAbsent n) rows × (n ≤ m)

away_steps : (t : Table) (m : ℕ) (rows : List Row) (cs : List Change) → Steps t m rows cs → (n : ℕ) → IsAwayBy m rows n → IsAwayBy (m + count_by is_insert cs) (fold rows_after rows cs) n
away_steps t m rows cs steps n h = steps_keep t (λ c. Unit {0}) (λ m rows. IsAwayBy m rows n) (λ m rows c step u k. absent_step t m rows c n step k) m rows cs steps (each_unit cs) h

away_after : (t : Table) (changes : List Change) → Steps t t.given t.rows changes → (n : ℕ) → IsAway t n → IsAway (table_after t changes) n
away_after t changes steps n h = away_steps t t.given t.rows changes steps n h

abbrev AwayWhereGone : Table → Change → Type 0
AwayWhereGone t c = c.new ≡ None → IsAway t c.rowid

some_none : {A : Type 0} (x : A) → Some x ≡ None → ⊥
some_none x e = cc

-- what goes is away then
gone_step : (t : Table) (m : ℕ) (rows : List Row) (c : Change) → Step t m rows c → c.new ≡ None → IsAwayBy (m + weight c) (rows_after rows c) c.rowid
gone_step t m rows c (Comes vs fits none is) e = absurd (some_none vs (sym (ap (λ (c : Change). c.new) is) ∙ e))
gone_step t m rows c (Turns r vs has fits is) e = absurd (some_none vs (sym (ap (λ (c : Change). c.new) is) ∙ e))
gone_step t m rows c (Goes r has is) e =
    subst (λ c. IsAwayBy (m + weight c) (rows_after rows c) c.rowid) (sym is)
    (each_weaker (λ q. not (q.rowid == r.rowid) ≡ true) (IsAbsent r.rowid) (λ q e. not-true (q.rowid == r.rowid) e) (rows_after rows (deleted_change r)) (Each-passes (λ q. not (q.rowid == r.rowid)) rows), omega (arith, has.given))

-- and after all that follows
all_gone : (t : Table) (m : ℕ) (rows : List Row) (cs : List Change) → Steps t m rows cs → Each (λ c. c.new ≡ None → IsAwayBy (m + count_by is_insert cs) (fold rows_after rows cs) c.rowid) cs
all_gone t m rows [] steps = tt
all_gone t m rows (c ∷ cs) steps =
    let whole : (m + weight c) + count_by is_insert cs ≡ m + count_by is_insert (c ∷ cs) = count_more m c cs in (
      λ e. subst (λ n. IsAwayBy n (fold rows_after (rows_after rows c) cs) c.rowid) whole (away_steps t (m + weight c) (rows_after rows c) cs steps.1 c.rowid (gone_step t m rows c steps.0 e)),
      subst (λ n. Each (λ k. k.new ≡ None → IsAwayBy n (fold rows_after (rows_after rows c) cs) k.rowid) cs) whole (all_gone t (m + weight c) (rows_after rows c) cs steps.1),
    )

asked_away : (t : Table) (changes : List Change) → Steps t t.given t.rows changes → Each (AwayWhereGone (table_after t changes)) changes
asked_away t changes steps = all_gone t t.given t.rows changes steps

-- ---- through a block

put_there : (base : Base) (n : ℕ) (t : Table) → n < length base → table_at (with_table base n t) n ≡ t
put_there [] n t low = absurd (omega arith)
put_there (u ∷ us) zero t low = refl
put_there (u ∷ us) (suc n) t low = put_there us n t (omega arith)

with_old : (P : Table → Type 0) (base : Base) (n m : ℕ) (t : Table) → P (table_at base m) → (P (table_at base n) → P t) → P (table_at (with_table base n t) m)
with_old P [] n m t h k = h
with_old P (u ∷ us) zero zero t h k = k h
with_old P (u ∷ us) zero (suc m) t h k = h
with_old P (u ∷ us) (suc n) zero t h k = h
with_old P (u ∷ us) (suc n) (suc m) t h k = with_old P us n m t h k

pub each_at : (P : Table → Type 0) → P empty_table → (base : Base) (n : ℕ) → Each P base → P (table_at base n)
each_at P none [] n h = none
each_at P none (u ∷ us) zero h = h.0
each_at P none (u ∷ us) (suc n) h = each_at P none us n h.1

abbrev StaysAway : Base → TableChange → Type 0
StaysAway base c = AwayWhereGone (table_at base c.table) c.change

abbrev Stay : Progress → Type 0
Stay p = Each Sound p.base × Each (StaysAway p.base) p.changes

step_sound : (kept : ℕ) (p : Progress) (s : Statement) (a : Asks) → Passes kept p s a → (a.table < length p.base) → Stay p → Stay (after p a)
step_sound kept p s a passes there h =
    let n : ℕ = a.table in
    let t : Table = table_at p.base n in
    let cs : List Change = made_of p.base a in
    let sound : Sound t = each_at Sound ((tt, tt), tt) p.base n h.0 in
    let steps : Steps t t.given t.rows cs = steps_made kept p s a passes sound in
    let later : Base = made p.base a in
    let new : Each (AwayWhereGone (table_at later n)) cs = subst (λ u. Each (AwayWhereGone u) cs) (sym (put_there p.base n (table_after t cs) there)) (asked_away t cs steps) in (
      each_with Sound p.base n (table_after t cs) h.0 (λ same was. sound_after t cs steps was),
      each_append (StaysAway later) p.changes (asked_changes p.base a)
          (each_weaker (StaysAway p.base) (StaysAway later)
          (λ c was gone. with_old (λ t. IsAway t c.change.rowid) p.base n c.table (table_after t cs) (was gone) (away_after t cs steps c.change.rowid)) p.changes h.1)
          (each_map (AwayWhereGone (table_at later n)) (StaysAway later) (λ c. record { table = n; change = c }) (λ c away. away) cs new),
    )

pub block_gone : (base : Base) (kept : ℕ) (ss : List Statement) (p : Progress) → effect base kept ss ≡ Ok p → Each Sound base → Each (IsGone p.base) p.changes
block_gone base kept ss p same sound =
    let h : Stay p = block_keeps kept Stay (λ q s a passes k. step_sound kept q s a passes (is_there q.base s a passes.asks) k) base ss p same (sound, tt) in
    each_weaker (StaysAway p.base) (IsGone p.base)
    (λ c away gone. any_false (λ r. r.rowid == c.change.rowid) (table_at p.base c.table).rows (away gone).0) p.changes h.1

-- ---- the kept versions after a block

abbrev kept_by : List (ℕ × Base) → List Noted → List Renumbered → ℕ → ℕ
kept_by past changes given oldest = kept_versions (record empty_catalog { past = past; changes = changes; renumbered = given; oldest = oldest })

pub kept_same : (c d : Catalog) → d.past ≡ c.past → d.changes ≡ c.changes → d.renumbered ≡ c.renumbered → d.oldest ≡ c.oldest → kept_versions d ≡ kept_versions c
kept_same c d past changes given oldest = λ i. kept_by (past i) (changes i) (given i) (oldest i)

pub commit_kept : (c : Catalog) (p : Progress) → kept_versions (do_dues (after_block c p) p.changes).catalog ≡ kept_versions (grown c p.base p.changes [])
commit_kept c p =
    let d : Catalog = (do_dues (after_block c p) p.changes).catalog in
    let past : SamePast (after_block c p) d = dues_past c p in
    kept_same (grown c p.base p.changes []) d past.past past.changes (past.renumbered ∙ sym (append-nil c.renumbered)) past.oldest

-- the rows that ALTER TABLE gave new rowids
abbrev pub altered_places : ℕ → Altering → List (ℕ × ℕ)
altered_places n a = map (λ rowid. (n, rowid)) a.renumbered

pub altered_kept : (c : Catalog) (n : ℕ) (a : Altering) → kept_versions (altered c n a) ≡ kept_versions (grown c (with_table (base_now c) n a.table) [] (altered_places n a))
altered_kept c n a =
    kept_same (grown c (with_table (base_now c) n a.table) [] (altered_places n a)) (altered c n a) refl (sym (append-nil c.changes)) (ap (λ ns. c.renumbered ++ ns) (each_given (suc c.scn) n a.renumbered)) refl
  where
    each_given : (scn n : ℕ) (rs : List ℕ) → map (renumbered scn n) rs ≡ map (given_row scn) (map (λ rowid. (n, rowid)) rs)
    each_given scn n [] = refl
    each_given scn n (r ∷ rs) = ap (λ ns. renumbered scn n r ∷ ns) (each_given scn n rs)

pub block_counted : (c : Catalog) (ss : List Statement) (p : Progress) → effect (base_now c) (kept_versions c) ss ≡ Ok p → Each Sound (base_now c) → Each (IsPast c) c.past → AreKnown c
    → c.oldest ≤ c.scn → kept_versions (do_dues (after_block c p) p.changes).catalog ≡ kept_versions c + new_versions p.base p.changes
block_counted c ss p same sound past known low =
    let one : kept_versions (do_dues (after_block c p) p.changes).catalog ≡ kept_versions (grown c p.base p.changes []) = commit_kept c p in
    let two : kept_versions (grown c p.base p.changes []) ≡ there p.base (places p.changes []) + kept_versions c = kept_grown c p.base p.changes [] past known low in
    let also : there p.base (places p.changes []) ≡ there p.base (map place p.changes) = ap (there p.base) (append-nil (map place p.changes)) in
    let three : there p.base (map place p.changes) ≡ new_versions p.base p.changes = there_written p.base p.changes (block_gone (base_now c) (kept_versions c) ss p same sound) in
    omega arith
