-- A session's parts as they are taken one after another.
use Rattle.std.proofs.Common.{rules, ◌≡◌, ◌∙◌, ◌+◌, ◌-◌, ◌<◌, ◌^◌, ◌&&◌, ap, refl, sym, subst, arith, suc, zero, Bool, true, false, true≢false, List, [], ◌∷◌, ◌++◌, None, Option, Some, ℕ, drop, length, map}
use Rattle.std.proofs.lemmas.List.{append-nil}
use Rattle.std.proofs.lemmas.Option.{get_or_from_slice_get, slice_get_within}
use Rattle.std.specs.List.{list_all, list_any, slice_get}
use Rattle.std.specs.Prelude.{IsTrue}
use Rattle.wh_base.specs.Lists.{count_from, option_case}
use Rattle.wh_base.specs.Parts.{bearer, parts_of}
use Rattle.wh_base.specs.declared.replies.Reply.{Reply}
use Rattle.wh_base.specs.declared.replies.Reply.TheVariants as reply
use Rattle.wh_base.specs.declared.statements.Command.{Command}
use Rattle.wh_base.specs.declared.statements.Command.TheVariants as commands
use Rattle.wh_base.specs.declared.statements.Entry.{Entry}
use Rattle.wh_base.specs.declared.statements.Event.{Event}
use Rattle.wh_base.specs.declared.statements.Id.{Id}
use Rattle.wh_base.specs.declared.statements.Section.{Section}
use Rattle.wh_base.specs.declared.statements.Statement.TheVariants as about
use Rattle.wh_base.specs.declared.values.Version.{Version}
use Rattle.def_built.specs.Commands.{command_is_built}
use Rattle.def_journal.specs.Journal.{commands_of, event_of, given_by, reply_to}
use Rattle.def_output.specs.Reads.{read_of, reads_of}
use Rattle.def_output.specs.Generator.{is_refused, is_rewritten}
use Rattle.def_transcript.specs.Texts.{lines_text, reply_lines}
use Rattle.wh_core.specs.Calls.{IsOverTables, bearer_of, install_of}
use Rattle.wh_session.proofs.Beginning.{still_pending}
use Rattle.wh_session.specs.Held.{BegunIn, Holds, entries_of, left_of, run_of}
use Rattle.wh_session.specs.Parts.{IsFinished, IsPending, IsStarted, IsTold, IsWaiting}
use Rattle.wh_session.specs.Run.{AreOverTables, CanRun, Continues, Takes}
use Rattle.wh_session.specs.Tally.{Telling, both, refuses, rewrites, tally_of, tally_of_reply, told_after, told_text, weight}
use Rattle.wh_session.specs.declared.parts.Pending.{Pending}
use Rattle.wh_session.specs.declared.tally.Tally.{Tally}
use Rattle.law_trace.specs.Laws.{SessionLaws}
use Rattle.law_trace.specs.Reached.{is_of}
use Rattle.law_views.specs.Read.{IsRead}

-- ---- what is left of the commands

-- the first of those behind so many is the one of the next number
first_left : (cs : List Command) (taken : ℕ) (k : Command) (more : List Command) → k ∷ more ≡ drop taken cs → slice_get cs taken ≡ Some k
first_left [] zero k more is = absurd (cc)
first_left [] (suc n) k more is = absurd (cc)
first_left (c ∷ cs) zero k more is = let same : k ≡ c = cc in ap Some (sym same)
first_left (c ∷ cs) (suc n) k more is = first_left cs n k more is

rest_left : (cs : List Command) (taken : ℕ) (k : Command) (more : List Command) → k ∷ more ≡ drop taken cs → more ≡ drop (suc taken) cs
rest_left [] zero k more is = absurd (cc)
rest_left [] (suc n) k more is = absurd (cc)
rest_left (c ∷ cs) zero k more is = cc
rest_left (c ∷ cs) (suc n) k more is = rest_left cs n k more is

none_left : (xs : List Command) → length xs ≡ 0 → xs ≡ []
none_left [] is = refl
none_left (x ∷ xs) is = absurd (omega (arith, is))

some_within : (xs : List Command) (i : ℕ) (k : Command) → slice_get xs i ≡ Some k → list_all command_is_built xs ≡ true → command_is_built k ≡ true
some_within [] i k is built = absurd (cc)
some_within (x ∷ xs) zero k is built = let same : x ≡ k = cc in ap command_is_built (sym same) ∙ left (command_is_built x) _ built
  where
    left : (a b : Bool) → (a && b) ≡ true → a ≡ true
    left true b e = refl
    left false b e = e
some_within (x ∷ xs) (suc i) k is built = some_within xs i k is (right (command_is_built x) _ built)
  where
    right : (a b : Bool) → (a && b) ≡ true → b ≡ true
    right true b e = e
    right false b e = absurd (true≢false (sym e))

one_more : (n : ℕ) → suc n ≡ n + 1
one_more n = omega arith

same_number : (n : ℕ) → n + 1 - 1 ≡ n
same_number n = omega arith

-- ---- with no refresh that has begun

pub held_none : {section : Section} {seen : List Event} {session taken : ℕ} {pending : Option Pending} {rest : List Command} {len : ℕ} → pending ≡ None → Holds section seen session taken pending rest len
    → Holds section seen session taken None rest len
held_none {section} {seen} {session} {taken} {pending} {rest} {len} is h = subst (λ p. Holds section seen session taken p rest len) is h

pub held_as : {section : Section} {seen : List Event} {session taken : ℕ} {pending : Option Pending} {rest : List Command} {len : ℕ} → pending ≡ None → Holds section seen session taken None rest len
    → Holds section seen session taken pending rest len
held_as {section} {seen} {session} {taken} {pending} {rest} {len} is h = subst (λ p. Holds section seen session taken p rest len) (sym is) h

-- ---- the next command of a session

module _ (section : Section) (seen : List Event) (session taken : ℕ) (rest : List Command) (len : ℕ) (h : Holds section seen session taken None rest len)
    (k : Command) (more : List Command) (is : rest ≡ k ∷ more) where
  next_is : slice_get section.commands taken ≡ Some k
  next_is = first_left section.commands taken k more (sym is ∙ h.left)

  pub names : slice_get section.commands (taken + 1 - 1) ≡ Some k
  names = ap (slice_get section.commands) (same_number taken) ∙ next_is

  pub is_built : IsTrue (command_is_built k)
  is_built = search (rules, some_within section.commands taken k next_is h.runs.built)

  pub is_read : IsRead k
  is_read = subst IsRead (get_or_from_slice_get section.commands taken k k next_is) (h.runs.read taken k (slice_get_within section.commands taken k next_is))

  pub is_over : (trace : List Event) → AreOverTables trace section → IsOverTables (commands_of trace) k
  is_over trace over = subst (IsOverTables (commands_of trace)) (get_or_from_slice_get section.commands taken k k next_is) (over taken k (slice_get_within section.commands taken k next_is))

  pub room : taken + 1 < 2 ^ 32
  room = let some : length rest ≡ suc (length more) = ap length is in omega (arith, h.few, h.counted, some)

  -- what a session keeps of it
  pub held_first : (seen2 : List Event) (pending : Option Pending) (len2 : ℕ) → len2 + 1 ≡ len → BegunIn section seen2 pending → Holds section seen2 session (taken + 1) pending more len2
  held_first seen2 pending len2 fewer is_begun =
      let some : length rest ≡ suc (length more) = ap length is in
      record {
        runs = h.runs;
        own = h.own;
        left = rest_left section.commands taken k more (sym is ∙ h.left) ∙ ap (λ n. drop n section.commands) (one_more taken);
        counted = omega (arith, fewer, h.counted, some);
        few = omega (arith, fewer, h.few);
        begun = is_begun;
      }

  -- a refresh of it that has begun
  is_begun : (trace after seen2 : List Event) (pending : Option Pending) (kept kept2 : Telling) (read read2 : ℕ) → seen2 ≡ after
      → IsStarted trace after (record { session = session; command = taken + 1; worker = 0 }) k pending kept kept2 read read2 → BegunIn section seen2 pending
  is_begun trace after seen2 None kept kept2 read read2 same started = tt
  is_begun trace after seen2 (Some p) kept kept2 read read2 same started =
      record {
        own = ap (λ i. i.session) started.id_is ∙ h.own;
        alone = ap (λ i. i.worker) started.id_is;
        names = ap (λ i. slice_get section.commands (i.command - 1)) started.id_is ∙ names ∙ ap Some (sym started.command_is);
        is = subst (λ t. IsPending t p.id p.command p.begun p.computed) (sym same)
            (subst (λ i. IsPending after i p.command p.begun p.computed) (sym started.id_is)
            (subst (λ c. IsPending after (record { session = session; command = taken + 1; worker = 0 }) c p.begun p.computed) (sym started.command_is) started.begun.pending));
      }

  pub held_started : (trace after seen2 : List Event) (pending : Option Pending) (kept kept2 : Telling) (read read2 len2 : ℕ) → seen2 ≡ after → len2 + 1 ≡ len
      → IsStarted trace after (record { session = session; command = taken + 1; worker = 0 }) k pending kept kept2 read read2 → Holds section seen2 session (taken + 1) pending more len2
  held_started trace after seen2 pending kept kept2 read read2 len2 same fewer started =
      held_first seen2 pending len2 fewer (is_begun trace after seen2 pending kept kept2 read read2 same started)

-- once its refresh is installed
pub held_second : (section : Section) (seen after : List Event) (session taken : ℕ) (p : Pending) (rest : List Command) (len : ℕ) → Holds section seen session taken (Some p) rest len
    → Holds section after session taken None rest len
held_second section seen after session taken p rest len h = record { runs = h.runs; own = h.own; left = h.left; counted = h.counted; few = h.few; begun = tt }

-- nothing is left
pub left_none : (section : Section) (seen : List Event) (session taken : ℕ) (rest : List Command) (len : ℕ) → Holds section seen session taken None rest len → len ≡ 0
    → left_of session taken None rest ≡ []
left_none section seen session taken rest len h none = ap (entries_of session taken) (none_left rest (omega (arith, h.counted, none)))

pub rest_none : (section : Section) (seen : List Event) (session taken : ℕ) (rest : List Command) (len : ℕ) → Holds section seen session taken None rest len → len ≡ 0 → rest ≡ []
rest_none section seen session taken rest len h none = none_left rest (omega (arith, h.counted, none))

-- a session with nothing done
pub held_new : (section : Section) (rest : List Command) (len : ℕ) → CanRun section → rest ≡ section.commands → len ≡ length rest → length rest < 2 ^ 32
    → Holds section [] section.session 0 None rest len
held_new section rest len runs is counted few = record { runs = runs; own = refl; left = is; counted = counted; few = omega (arith, counted, few); begun = tt }

-- ---- the entries of a command

one_part : (session taken : ℕ) (k : Command) (more : List Command) → parts_of k ≡ 1 → entries_of session taken (k ∷ more) ≡ record { session = session; command = taken + 1; part = 1; worker = 0 } ∷ entries_of session (taken + 1) more
one_part session taken k more one = ap (λ n. map (λ part. record { session = session; command = taken + 1; part = part; worker = 0 }) (count_from 1 n) ++ entries_of session (taken + 1) more) one

two_parts : (session taken : ℕ) (k : Command) (more : List Command) → parts_of k ≡ 2
    → entries_of session taken (k ∷ more) ≡ record { session = session; command = taken + 1; part = 1; worker = 0 } ∷ record { session = session; command = taken + 1; part = 2; worker = 0 } ∷ entries_of session (taken + 1) more
two_parts session taken k more two = ap (λ n. map (λ part. record { session = session; command = taken + 1; part = part; worker = 0 }) (count_from 1 n) ++ entries_of session (taken + 1) more) two

-- a command whose first part is answered has no other
answered_parts : (trace : List Event) (id : Id) (k : Command) (r : Reply) → reply_to trace (event_of id k) ≡ Some r → parts_of k ≡ 1
answered_parts trace id (commands.Block b) r is = refl
answered_parts trace id (commands.Other (about.Refresh asked)) r is = absurd (cc)
answered_parts trace id (commands.Other s) r is = refl
answered_parts trace id (commands.Submit s) r is = refl

-- ---- what is told

told_one : (version : Version) (id : Id) (r : Reply) → lines_text (reply_lines version id r) ≡ told_text version (record { id = id; reply = r } ∷ [])
told_one version id r = ap lines_text (sym (append-nil (reply_lines version id r)))

refused_one : (id : Id) (r : Reply) → refuses r ≡ is_refused (record { id = id; reply = r })
refused_one id (reply.Refuse r) = refl
refused_one id r = refl

rewritten_one : (id : Id) (r : Reply) → rewrites r ≡ is_rewritten (record { id = id; reply = r })
rewritten_one id (reply.Answer r) = refl
rewritten_one id r = refl

none_before : (n : ℕ) → n ≡ 0 + n
none_before n = omega arith

tally_one : (id : Id) (r : Reply) → tally_of_reply r ≡ tally_of (record { id = id; reply = r } ∷ [])
tally_one id r =
    let refused : weight (refuses r) ≡ 0 + weight (is_refused (record { id = id; reply = r })) = none_before (weight (refuses r)) ∙ ap (λ b. 0 + weight b) (refused_one id r) in
    let rewritten : weight (rewrites r) ≡ 0 + weight (is_rewritten (record { id = id; reply = r })) = none_before (weight (rewrites r)) ∙ ap (λ b. 0 + weight b) (rewritten_one id r) in
    λ i. record { refused = refused i; rewritten = rewritten i; read = none_before (read_of r) i }

none_behind : (n : ℕ) → n ≡ n + 0
none_behind n = omega arith

tally_none : (t : Tally) → t ≡ both t (tally_of [])
tally_none t = λ i. record { refused = none_behind t.refused i; rewritten = none_behind t.rewritten i; read = none_behind t.read i }

abbrev id_of : Event → Id
id_of e = record { session = e.entry.session; command = e.entry.command; worker = e.entry.worker }

text_reply : (e : Event) (o : Option Reply) (r : Reply) (kept kept2 : Telling) → o ≡ Some r → kept2 ≡ told_after kept (id_of e) r → kept2.text ≡ kept.text ++ told_text kept.version (given_by e o)
text_reply e o r kept kept2 reply is =
    ap (λ t. t.text) is ∙ ap (λ t. kept.text ++ t) (told_one kept.version (id_of e) r) ∙ ap (λ p. kept.text ++ told_text kept.version (given_by e p)) (sym reply)

tally_reply : (e : Event) (o : Option Reply) (r : Reply) (kept kept2 : Telling) → o ≡ Some r → kept2 ≡ told_after kept (id_of e) r → kept2.tally ≡ both kept.tally (tally_of (given_by e o))
tally_reply e o r kept kept2 reply is =
    ap (λ t. t.tally) is ∙ ap (both kept.tally) (tally_one (id_of e) r) ∙ ap (λ p. both kept.tally (tally_of (given_by e p))) (sym reply)

text_none : (e : Event) (o : Option Reply) (kept kept2 : Telling) → o ≡ None → kept2 ≡ kept → kept2.text ≡ kept.text ++ told_text kept.version (given_by e o)
text_none e o kept kept2 reply is = ap (λ t. t.text) is ∙ sym (append-nil kept.text) ∙ ap (λ p. kept.text ++ told_text kept.version (given_by e p)) (sym reply)

tally_unchanged : (e : Event) (o : Option Reply) (kept kept2 : Telling) → o ≡ None → kept2 ≡ kept → kept2.tally ≡ both kept.tally (tally_of (given_by e o))
tally_unchanged e o kept kept2 reply is = ap (λ t. t.tally) is ∙ tally_none kept.tally ∙ ap (λ p. both kept.tally (tally_of (given_by e p))) (sym reply)

reads_reply : (e : Event) (o : Option Reply) (r : Reply) → o ≡ Some r → reads_of (given_by e o) ≡ read_of r
reads_reply e o r reply = ap (λ p. reads_of (given_by e p)) reply ∙ plus (read_of r)
  where
    plus : (n : ℕ) → 0 + n ≡ n
    plus n = omega arith

reads_none : (e : Event) (o : Option Reply) → o ≡ None → reads_of (given_by e o) ≡ 0
reads_none e o reply = ap (λ p. reads_of (given_by e p)) reply

-- ---- the parts as they are taken

abbrev part_two : Id → Entry
part_two i = record { session = i.session; command = i.command; part = 2; worker = i.worker }

-- what a session does itself is counted as its own
own_bearer : (i : Id) → i.worker ≡ 0 → bearer_of i ≡ i.session
own_bearer i alone = ap (bearer i.session) alone

module _ (section : Section) (seen : List Event) (session taken : ℕ) (rest : List Command) (len : ℕ) (kept : Telling) where
  -- the refresh that has begun is still there
  pub goes_on : SessionLaws → (p : Pending) (trace : List Event) → Holds section seen session taken (Some p) rest len → Continues (run_of section seen session taken (Some p) rest kept) trace
      → IsPending trace p.id p.command p.begun p.computed
  goes_on laws p trace h on =
      still_pending laws seen on.more trace p.id p.command p.begun p.computed on.is (subst (λ n. list_any (is_of n) on.more ≡ false) (sym (own_bearer p.id h.begun.alone ∙ h.begun.own)) on.apart) h.begun.is

  -- an install
  pub takes_second : (p : Pending) (trace after seen2 : List Event) (kept2 : Telling) (read : ℕ) → Holds section seen session taken (Some p) rest len
      → IsFinished trace p kept kept2 → after ≡ trace ++ install_of p.id p.command ∷ [] → seen2 ≡ after
      → Takes (run_of section seen session taken (Some p) rest kept) (run_of section seen2 session taken None rest kept2) trace after read read
  takes_second p trace after seen2 kept2 read h finished is same =
      let e : Event = install_of p.id p.command in
      let all : reads_of (given_by e (reply_to trace e)) ≡ option_case p.computed 0 (λ x. x.read) = reads_reply e (reply_to trace e) finished.answer finished.reply ∙ finished.read in
      record {
        entry = part_two p.id;
        command = p.command;
        next = refl;
        names = h.begun.names;
        own = h.begun.own;
        event_is = is;
        section_is = refl;
        version_is = ap (λ t. t.version) finished.told;
        seen_is = same;
        text_is = text_reply e (reply_to trace e) finished.answer kept kept2 finished.reply finished.told;
        tally_is = tally_reply e (reply_to trace e) finished.answer kept kept2 finished.reply finished.told;
        read_is = omega (arith, all);
        ended = λ none. refl;
      }

  module _ (h : Holds section seen session taken None rest len) (k : Command) (more : List Command) (is : rest ≡ k ∷ more) (trace after seen2 : List Event)
      (event : after ≡ trace ++ event_of (record { session = session; command = taken + 1; worker = 0 }) k ∷ []) (same : seen2 ≡ after) (kept2 : Telling) (read read2 : ℕ) where
    -- a command with one part
    takes_answer : IsTold trace (record { session = session; command = taken + 1; worker = 0 }) k kept kept2 read read2
        → Takes (run_of section seen session taken None rest kept) (run_of section seen2 session (taken + 1) None more kept2) trace after read read2
    takes_answer told =
        let e : Event = event_of (record { session = session; command = taken + 1; worker = 0 }) k in
        let all : reads_of (given_by e (reply_to trace e)) ≡ read_of told.answer = reads_reply e (reply_to trace e) told.answer told.replied.reply in
        record {
          entry = e.entry;
          command = k;
          next = ap (entries_of session taken) is ∙ one_part session taken k more (answered_parts trace (record { session = session; command = taken + 1; worker = 0 }) k told.answer told.replied.reply);
          names = names section seen session taken rest len h k more is;
          own = h.own;
          event_is = event;
          section_is = refl;
          version_is = ap (λ t. t.version) told.told;
          seen_is = same;
          text_is = text_reply e (reply_to trace e) told.answer kept kept2 told.replied.reply told.told;
          tally_is = tally_reply e (reply_to trace e) told.answer kept kept2 told.replied.reply told.told;
          read_is = omega (arith, all, told.replied.read_is);
          ended = λ none. refl;
        }

    -- the begin of a refresh
    takes_begin : (p : Pending) → IsWaiting trace after (record { session = session; command = taken + 1; worker = 0 }) k p kept kept2 read read2
        → Takes (run_of section seen session taken None rest kept) (run_of section seen2 session (taken + 1) (Some p) more kept2) trace after read read2
    takes_begin p waits =
        let e : Event = event_of (record { session = session; command = taken + 1; worker = 0 }) k in
        let none_read : reads_of (given_by e (reply_to trace e)) ≡ 0 = reads_none e (reply_to trace e) waits.begun.reply in
        record {
          entry = e.entry;
          command = k;
          next = ap (entries_of session taken) is ∙ two_parts session taken k more (ap parts_of waits.begun.pending.command_is)
              ∙ ap (λ i. e.entry ∷ part_two i ∷ entries_of session (taken + 1) more) (sym waits.id_is);
          names = names section seen session taken rest len h k more is;
          own = h.own;
          event_is = event;
          section_is = refl;
          version_is = ap (λ t. t.version) waits.untold;
          seen_is = same;
          text_is = text_none e (reply_to trace e) kept kept2 waits.begun.reply waits.untold;
          tally_is = tally_unchanged e (reply_to trace e) kept kept2 waits.begun.reply waits.untold;
          read_is = omega (arith, none_read, waits.begun.read_is);
          ended = λ none. absurd (cc);
        }

    pub takes_first : (pending : Option Pending) → IsStarted trace after (record { session = session; command = taken + 1; worker = 0 }) k pending kept kept2 read read2
        → Takes (run_of section seen session taken None rest kept) (run_of section seen2 session (taken + 1) pending more kept2) trace after read read2
    takes_first None started = takes_answer started
    takes_first (Some p) started = takes_begin p started
