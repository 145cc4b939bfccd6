-- What a legal journal is, entry by entry.
use Rattle.std.proofs.Common.{◌≡◌, ◌∙◌, sym, ap, subst, refl, arith, ℕ, suc, zero, ◌+◌, ◌-◌, ◌<◌, ◌≤◌, ◌==◌, ◌&&◌, ◌||◌, Bool, true, false, true≢false, cond, List, [], ◌∷◌, ◌++◌, length, map, take, slice_get, find, flat_map, Option, Some}
use Rattle.std.specs.List.{All, AllByRecursion, enumerate_from, list_all}
use Rattle.std.specs.Prelude.{unwrap_or}
use Rattle.std.proofs.lemmas.Bool.{and_parts, eq-eqb, eqb-true}
use Rattle.std.proofs.lemmas.List.Elements.{All-from_recursion, filter-append}
use Rattle.wh_base.specs.Lists.{count_from, has_number, option_case}
use Rattle.wh_base.specs.Parts.{command_entries, parts_of, section_entries}
use Rattle.wh_base.specs.declared.statements.Command.{Command}
use Rattle.wh_base.specs.declared.statements.Entry.{Entry}
use Rattle.wh_base.specs.declared.statements.Script.{Script}
use Rattle.wh_base.specs.declared.statements.Section.{Section}
use Rattle.def_journal.specs.Jobs.{accepted_submits, is_own, jobs_are_legal, same_entries, same_entry}
use Rattle.def_journal.specs.Journal.{is_legal, no_command, not_of_session, of_session, order_of, own_entries, own_turns, session_numbers}
use Rattle.def_journal.proofs.NoJobs.{all_own_entries, entries_themselves, legal_is_own, order_without_jobs}
use Rattle.wh_order.specs.Laws.{IsNext, Names}
use Rattle.wh_order.proofs.Listed.{each_append, each_from_all, each_map, each_right, each_weaker}

-- ---- the same entries

entry_is : (a b : Entry) → same_entry a b ≡ true → a ≡ b
entry_is a b h =
    let parts = and_parts (a.session == b.session) ((a.command == b.command) && ((a.part == b.part) && (a.worker == b.worker))) h in
    let more = and_parts (a.command == b.command) ((a.part == b.part) && (a.worker == b.worker)) parts.1 in
    let last = and_parts (a.part == b.part) (a.worker == b.worker) more.1 in
    let session : a.session ≡ b.session = eqb-true a.session b.session parts.0 in
    let command : a.command ≡ b.command = eqb-true a.command b.command more.0 in
    let part : a.part ≡ b.part = eqb-true a.part b.part last.0 in
    let worker : a.worker ≡ b.worker = eqb-true a.worker b.worker last.1 in
    λ i. record { session = session i; command = command i; part = part i; worker = worker i }

pub entries_are : (xs ys : List Entry) → same_entries xs ys ≡ true → xs ≡ ys
entries_are [] [] h = refl
entries_are [] (y ∷ ys) h = absurd (true≢false (sym h))
entries_are (x ∷ xs) [] h = absurd (true≢false (sym h))
entries_are (x ∷ xs) (y ∷ ys) h =
    let parts = and_parts (same_entry x y) (same_entries xs ys) h in
    ap (λ z. z ∷ xs) (entry_is x y parts.0) ∙ ap (λ zs. y ∷ zs) (entries_are xs ys parts.1)

pub entries_same : (xs ys : List Entry) → xs ≡ ys → same_entries xs ys ≡ true
entries_same xs ys is = subst (λ zs. same_entries xs zs ≡ true) is (entries_themselves xs)

-- ---- a section's own parts

-- what a legal journal keeps
record LegalParts (script : Script) (journal : List Entry) : Type 0 where
  own : AllByRecursion (λ s. own_entries s.session journal ≡ section_entries s) script.sections
  known : AllByRecursion (λ e. has_number (session_numbers script) e.session ≡ true) journal
  jobs : jobs_are_legal script journal ≡ true

legal_parts : (script : Script) (journal : List Entry) → is_legal script journal ≡ true → LegalParts script journal
legal_parts script journal legal =
    let owned : Section → Bool = λ s. same_entries (own_entries s.session journal) (section_entries s) in
    let known : Entry → Bool = λ e. has_number (session_numbers script) e.session in
    let jobs : Bool = jobs_are_legal script journal in
    let parts = and_parts (same_entries journal (of_session 0 journal ++ not_of_session 0 journal)) (list_all owned script.sections && (list_all known journal && jobs)) legal in
    let more = and_parts (list_all owned script.sections) (list_all known journal && jobs) parts.1 in
    let last = and_parts (list_all known journal) jobs more.1 in
    record {
      own = each_weaker (λ s. owned s ≡ true) (λ s. own_entries s.session journal ≡ section_entries s) (λ s h. entries_are (own_entries s.session journal) (section_entries s) h) script.sections (each_from_all owned script.sections more.0);
      known = each_from_all known journal last.0;
      jobs = last.1;
    }

pub own_parts : (script : Script) (journal : List Entry) → is_legal script journal ≡ true → All (λ s. own_entries s.session journal ≡ section_entries s) script.sections
own_parts script journal legal = All-from_recursion (λ s. own_entries s.session journal ≡ section_entries s) script.sections (legal_parts script journal legal).own

-- each entry is of a session that the script has
pub each_known : (script : Script) (journal : List Entry) → is_legal script journal ≡ true → AllByRecursion (λ e. has_number (session_numbers script) e.session ≡ true) journal
each_known script journal legal = (legal_parts script journal legal).known

-- without jobs all entries are own
pub all_own : (script : Script) (journal : List Entry) → accepted_submits script ≡ [] → is_legal script journal ≡ true → list_all is_own journal ≡ true
all_own script journal none legal = legal_is_own script journal none (legal_parts script journal legal).jobs

pub each_own : (script : Script) (journal : List Entry) → accepted_submits script ≡ [] → is_legal script journal ≡ true → AllByRecursion (λ s. of_session s.session journal ≡ section_entries s) script.sections
each_own script journal none legal =
    let own : list_all is_own journal ≡ true = all_own script journal none legal in
    each_weaker (λ s. own_entries s.session journal ≡ section_entries s) (λ s. of_session s.session journal ≡ section_entries s) (λ s h. sym (all_own_entries s.session journal own) ∙ h) script.sections (legal_parts script journal legal).own

-- and the whole order is that of the sessions' turns
pub order_whole : (script : Script) (entries : List Entry) → entries ≡ own_turns script → accepted_submits script ≡ [] → entries ≡ order_of script
order_whole script entries own none = own ∙ sym (order_without_jobs script none)

-- ---- the entries of a section's commands

counted_from : (k m : ℕ) → AllByRecursion (λ n. (k ≤ n) × (n < k + m)) (count_from k m)
counted_from k zero = tt
counted_from k (suc m) = (((omega arith), (omega arith)), each_weaker (λ n. (suc k ≤ n) × (n < suc k + m)) (λ n. (k ≤ n) × (n < k + suc m)) (λ n h. (omega (arith, h.0), omega (arith, h.1))) (count_from (suc k) m) (counted_from (suc k) m))

names_first : (session n : ℕ) (c : Command) (cs : List Command) → AllByRecursion (Names session n (c ∷ cs)) (command_entries session (n, c))
names_first session n c cs = each_map (λ k. (1 ≤ k) × (k < 1 + parts_of c)) (Names session n (c ∷ cs)) (λ k. record { session = session; command = n; part = k; worker = 0 }) named (count_from 1 (parts_of c)) (counted_from 1 (parts_of c))
  where
    named : (k : ℕ) → (1 ≤ k) × (k < 1 + parts_of c) → Names session n (c ∷ cs) (record { session = session; command = n; part = k; worker = 0 })
    named k h =
        let none : 0 ≡ n - n = omega arith in
        record {
          own = refl;
          alone = refl;
          command = c;
          at = ap (slice_get (c ∷ cs)) (sym none);
          from = omega arith;
          first = h.0;
          last = omega (arith, h.1);
        }

-- a command among the later ones
names_later : (session n : ℕ) (c : Command) (cs : List Command) (e : Entry) → Names session (n + 1) cs e → Names session n (c ∷ cs) e
names_later session n c cs e h =
    let behind : suc (e.command - (n + 1)) ≡ e.command - n = omega (arith, h.from) in
    record {
      own = h.own;
      alone = h.alone;
      command = h.command;
      at = sym (ap (slice_get (c ∷ cs)) behind) ∙ h.at;
      from = omega (arith, h.from);
      first = h.first;
      last = h.last;
    }

pub each_names : (session n : ℕ) (cs : List Command) → AllByRecursion (Names session n cs) (flat_map (command_entries session) (enumerate_from n cs))
each_names session n [] = tt
each_names session n (c ∷ cs) =
    let later : List Entry = flat_map (command_entries session) (enumerate_from (n + 1) cs) in
    each_append (Names session n (c ∷ cs)) (command_entries session (n, c)) later (names_first session n c cs) (each_weaker (Names session (n + 1) cs) (Names session n (c ∷ cs)) (names_later session n c cs) later (each_names session (n + 1) cs))

-- ---- the next part

-- the first section of a session that the script has
section_found : (journal : List Entry) (n : ℕ) (sections : List Section) → has_number (map (λ s. s.session) sections) n ≡ true → AllByRecursion (λ s. of_session s.session journal ≡ section_entries s) sections → (s : Section) × (find (λ t. t.session == n) sections ≡ Some s) × (s.session ≡ n) × (of_session s.session journal ≡ section_entries s)
section_found journal n [] known own = absurd (true≢false (sym known))
section_found journal n (s ∷ ss) known own = by (s.session == n) refl (λ more. section_found journal n ss more own.1)
  where
    by : (b : Bool) → (s.session == n) ≡ b → (has_number (map (λ u. u.session) ss) n ≡ true → (t : Section) × (find (λ u. u.session == n) ss ≡ Some t) × (t.session ≡ n) × (of_session t.session journal ≡ section_entries t)) → (t : Section) × (find (λ u. u.session == n) (s ∷ ss) ≡ Some t) × (t.session ≡ n) × (of_session t.session journal ≡ section_entries t)
    by true is later = (s, ap (λ b. cond b (Some s) (find (λ t. t.session == n) ss)) is, eqb-true s.session n is, own.0)
    by false is later =
        let more : has_number (map (λ t. t.session) ss) n ≡ true = sym (ap (λ b. b || has_number (map (λ t. t.session) ss) n) is) ∙ known in
        let rest = later more in
        (rest.0, ap (λ b. cond b (Some s) (find (λ t. t.session == n) ss)) is ∙ rest.1, rest.2, rest.3)

take_seam : (xs ys : List Entry) → xs ≡ take (length xs) (xs ++ ys)
take_seam [] ys = refl
take_seam (x ∷ xs) ys = ap (λ zs. x ∷ zs) (take_seam xs ys)

get_seam : (xs : List Entry) (e : Entry) (ys : List Entry) → slice_get (xs ++ e ∷ ys) (length xs) ≡ Some e
get_seam [] e ys = refl
get_seam (x ∷ xs) e ys = get_seam xs e ys

-- the command that the entry names in its section
abbrev command_in : Entry → Option Section → Command
command_in e found = option_case found no_command (λ s. unwrap_or (slice_get s.commands (e.command - 1)) no_command)

pub next_part : (script : Script) (front rest : List Entry) (e : Entry) → accepted_submits script ≡ [] → is_legal script (front ++ e ∷ rest) ≡ true → IsNext script front e
next_part script front rest e none legal =
    let journal : List Entry = front ++ e ∷ rest in
    let known : AllByRecursion (λ x. has_number (session_numbers script) x.session ≡ true) (e ∷ rest) = each_right (λ x. has_number (session_numbers script) x.session ≡ true) front (e ∷ rest) (each_known script journal legal) in
    let there = section_found journal e.session script.sections known.0 (each_own script journal none legal) in
    let section : Section = there.0 in
    let before : List Entry = of_session e.session front in
    let behind : List Entry = of_session e.session rest in
    let same : (e.session == e.session) ≡ true = eq-eqb e.session e.session refl in
    let here : of_session e.session journal ≡ before ++ e ∷ behind = filter-append (λ x. x.session == e.session) front (e ∷ rest) ∙ ap (λ b. before ++ cond b (e ∷ behind) behind) same in
    let parts : section_entries section ≡ before ++ e ∷ behind = sym there.3 ∙ ap (λ n. of_session n journal) there.2 ∙ here in
    let named : AllByRecursion (Names section.session 1 section.commands) (before ++ e ∷ behind) = subst (AllByRecursion (Names section.session 1 section.commands)) parts (each_names section.session 1 section.commands) in
    let names : Names section.session 1 section.commands e = (each_right (Names section.session 1 section.commands) before (e ∷ behind) named).0 in
    record {
      section = section;
      found = there.1;
      before = take_seam before (e ∷ behind) ∙ sym (ap (take (length before)) parts);
      next = ap (λ es. slice_get es (length before)) parts ∙ get_seam before e behind;
      names = names;
      command_is = ap (command_in e) there.1 ∙ ap (λ o. unwrap_or o no_command) names.at;
    }
