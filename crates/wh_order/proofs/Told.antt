-- The replies of a trace, and the transcript session by session.
use Rattle.std.proofs.Common.{◌≡◌, ◌∙◌, sym, ap, subst, refl, arith, ℕ, suc, zero, ◌+◌, ◌<◌, ◌≤◌, ◌==◌, Bool, true, false, cond, List, [], ◌∷◌, ◌++◌, length, map, filter, flat_map, fold, Option, Some, None}
use Rattle.std.specs.List.{AllByRecursion, enumerate_from}
use Rattle.std.proofs.lemmas.Bool.{and_from, and_left, and_right, eq-eqb, ne_eqb}
use Rattle.std.proofs.lemmas.List.{append-nil, append_assoc}
use Rattle.std.proofs.lemmas.List.Concat.{flat_map-append}
use Rattle.std.proofs.lemmas.List.Elements.{filter-append}
use Rattle.wh_base.specs.Lists.{count_from, option_case}
use Rattle.wh_base.specs.Parts.{command_entries, parts_of, section_entries}
use Rattle.wh_base.specs.declared.replies.Reply.{Reply}
use Rattle.wh_base.specs.declared.statements.Command.{Command}
use Rattle.wh_base.specs.declared.statements.Entry.{Entry}
use Rattle.wh_base.specs.declared.statements.Event.{Event}
use Rattle.wh_base.specs.declared.statements.Id.{Id}
use Rattle.wh_base.specs.declared.statements.Script.{Script}
use Rattle.wh_base.specs.declared.statements.Section.{Section}
use Rattle.wh_base.specs.declared.values.Version.{Version}
use Rattle.def_journal.specs.Journal.{Told, event_step, given_by, of_session, replies_from, replies_of, reply_to, state_after, trace_of}
use Rattle.def_journal.specs.State.{State, empty_state}
use Rattle.def_transcript.specs.Texts.{first_lines, journal_line, lines_text, reply_lines}
use Rattle.def_transcript.specs.Transcript.{lines_of, same_id, section_ids, transcript}
use Rattle.wh_order.specs.Laws.{session_told, told_in, told_text}
use Rattle.wh_order.proofs.Listed.{each_append, each_map, each_of, each_weaker, filter_all, filter_none}

-- ---- one event more

replies_from_push : (s : State) (trace : List Event) (e : Event) → replies_from s (trace ++ e ∷ []) ≡ replies_from s trace ++ given_by e (event_step (fold state_after s trace) e).reply
replies_from_push s [] e = append-nil (given_by e (event_step s e).reply)
replies_from_push s (x ∷ xs) e =
    let given : List Told = given_by x (event_step s x).reply in
    ap (λ ts. given ++ ts) (replies_from_push (state_after s x) xs e) ∙ sym (append_assoc given (replies_from (state_after s x) xs) (given_by e (event_step (fold state_after (state_after s x) xs) e).reply))

pub told_of : (trace : List Event) (e : Event) → replies_of (trace ++ e ∷ []) ≡ replies_of trace ++ given_by e (reply_to trace e)
told_of trace e = replies_from_push empty_state trace e

-- the reply of an event is one of its session
given_in : (n : ℕ) (e : Event) (r : Option Reply) → told_in n (given_by e r) ≡ cond (e.entry.session == n) (given_by e r) []
given_in n e None = neither (e.entry.session == n) []
  where
    neither : (b : Bool) (none : List Told) → none ≡ cond b none none
    neither true none = refl
    neither false none = refl
given_in n e (Some r) = refl

pub told_in_of : (n : ℕ) (trace : List Event) (e : Event) → told_in n (replies_of (trace ++ e ∷ [])) ≡ told_in n (replies_of trace) ++ cond (e.entry.session == n) (given_by e (reply_to trace e)) []
told_in_of n trace e =
    ap (told_in n) (told_of trace e)
    ∙ filter-append (λ t. t.id.session == n) (replies_of trace) (given_by e (reply_to trace e))
    ∙ ap (λ ts. told_in n (replies_of trace) ++ ts) (given_in n e (reply_to trace e))

-- ---- replies beside the entries that they are for

abbrev id_of : Entry → Id
id_of e = record { session = e.session; command = e.command; worker = e.worker }

-- the reply of an entry, where it gives one
abbrev answer_of : Entry → Option Reply → List Told
answer_of e r = option_case r [] (λ x. record { id = id_of e; reply = x } ∷ [])

-- each entry has one of these replies or none, in their order
abbrev Answer : List Entry → List Told → Type 0
Answer [] ts = ts ≡ []
Answer (e ∷ es) ts = (r : Option Reply) × (more : List Told) × (ts ≡ answer_of e r ++ more) × Answer es more

replies_answer : (s : State) (trace : List Event) → Answer (map (λ e. e.entry) trace) (replies_from s trace)
replies_answer s [] = refl
replies_answer s (e ∷ es) = ((event_step s e).reply, replies_from (state_after s e) es, refl, replies_answer (state_after s e) es)

entries_of : (script : Script) (journal : List Entry) → map (λ e. e.entry) (trace_of script journal) ≡ journal
entries_of script [] = refl
entries_of script (e ∷ es) = ap (λ ys. e ∷ ys) (entries_of script es)

pub journal_answered : (script : Script) (journal : List Entry) → Answer journal (replies_of (trace_of script journal))
journal_answered script journal = subst (λ es. Answer es (replies_of (trace_of script journal))) (entries_of script journal) (replies_answer empty_state (trace_of script journal))

-- those of a session
session_answered : (n : ℕ) (es : List Entry) (ts : List Told) → Answer es ts → Answer (of_session n es) (told_in n ts)
session_answered n [] ts h = ap (told_in n) h
session_answered n (e ∷ es) ts h =
    let rest : Answer (of_session n es) (told_in n h.1) = session_answered n es h.1 h.3 in
    subst (λ us. Answer (of_session n (e ∷ es)) (told_in n us)) (sym h.2) (by h.0 rest)
  where
    mine : List Entry
    mine = of_session n es

    more : List Told
    more = told_in n h.1

    silent : (b : Bool) → Answer mine more → Answer (cond b (e ∷ mine) mine) more
    silent true rest = (None, more, refl, rest)
    silent false rest = rest

    spoken : (x : Reply) (b : Bool) → Answer mine more → Answer (cond b (e ∷ mine) mine) (cond b (record { id = id_of e; reply = x } ∷ more) more)
    spoken x true rest = (Some x, more, refl, rest)
    spoken x false rest = rest

    by : (r : Option Reply) → Answer mine more → Answer (of_session n (e ∷ es)) (told_in n (answer_of e r ++ h.1))
    by None rest = silent (e.session == n) rest
    by (Some x) rest = spoken x (e.session == n) rest

-- the replies to two lists of entries
answer_apart : (es fs : List Entry) (ts : List Told) → Answer (es ++ fs) ts → (us vs : List Told) × (ts ≡ us ++ vs) × Answer es us × Answer fs vs
answer_apart [] fs ts h = ([], ts, refl, refl, h)
answer_apart (e ∷ es) fs ts h =
    let rest = answer_apart es fs h.1 h.3 in
    (answer_of e h.0 ++ rest.0, rest.1, h.2 ∙ ap (λ ys. answer_of e h.0 ++ ys) rest.2 ∙ sym (append_assoc (answer_of e h.0) rest.0 rest.1), (h.0, rest.0, refl, rest.3), rest.4)

-- what holds of the names of all entries holds of those of the replies
pub answers_hold : (P : Id → Type 0) (es : List Entry) (ts : List Told) → Answer es ts → AllByRecursion (λ e. P (id_of e)) es → AllByRecursion (λ t. P t.id) ts
answers_hold P [] ts h k = subst (AllByRecursion (λ t. P t.id)) (sym h) tt
answers_hold P (e ∷ es) ts h k = subst (AllByRecursion (λ t. P t.id)) (sym h.2) (by h.0 (answers_hold P es h.1 h.3 k.1))
  where
    by : (r : Option Reply) → AllByRecursion (λ t. P t.id) h.1 → AllByRecursion (λ t. P t.id) (answer_of e r ++ h.1)
    by None rest = rest
    by (Some x) rest = (k.0, rest)

-- ---- the replies to the commands of a session

module _ (version : Version) (session : ℕ) where
  abbrev named : ℕ → Id
  named n = record { session = session; command = n; worker = 0 }

  -- the name of each is this one
  abbrev AreAt : ℕ → List Entry → Type 0
  AreAt n es = AllByRecursion (λ e. id_of e ≡ named n) es

  -- the name of each is one of a command from n on
  abbrev AreFrom : ℕ → Id → Type 0
  AreFrom n i = n ≤ i.command

  command_at : (n : ℕ) (c : Command) → AreAt n (command_entries session (n, c))
  command_at n c = each_map (λ k. Unit {0}) (λ e. id_of e ≡ named n) (λ k. record { session = session; command = n; part = k; worker = 0 }) (λ k h. refl) (count_from 1 (parts_of c)) (each_of (λ k. Unit {0}) (λ k. tt) (count_from 1 (parts_of c)))

  commands_from : (n : ℕ) (cs : List Command) → AllByRecursion (λ e. AreFrom n (id_of e)) (flat_map (command_entries session) (enumerate_from n cs))
  commands_from n [] = tt
  commands_from n (c ∷ cs) =
      let rest : List Entry = flat_map (command_entries session) (enumerate_from (n + 1) cs) in
      let later : AllByRecursion (λ e. n ≤ e.command) rest = each_weaker (λ e. n + 1 ≤ e.command) (λ e. n ≤ e.command) (λ e h. omega (arith, h)) rest (commands_from (n + 1) cs) in
      each_append (λ e. n ≤ e.command) (command_entries session (n, c)) rest here later
    where
      here : AllByRecursion (λ e. n ≤ e.command) (command_entries session (n, c))
      here = each_map (λ k. Unit {0}) (λ e. n ≤ e.command) (λ k. record { session = session; command = n; part = k; worker = 0 }) (λ k h. omega arith) (count_from 1 (parts_of c)) (each_of (λ k. Unit {0}) (λ k. tt) (count_from 1 (parts_of c)))

  abbrev lines : Told → List (List ℕ)
  lines t = reply_lines version t.id t.reply

  -- for the command with this number
  abbrev is_named : ℕ → Told → Bool
  is_named n t = same_id t.id (named n)

  named_itself : (n : ℕ) (t : Told) → t.id ≡ named n → is_named n t ≡ true
  named_itself n t is = ap (λ i. same_id i (named n)) is ∙ and_from (session == session) (n == n) (eq-eqb session session refl) (eq-eqb n n refl)

  later_named : (n : ℕ) (t : Told) → n + 1 ≤ t.id.command → is_named n t ≡ false
  later_named n t later = and_right (t.id.session == session) (t.id.command == n) (ne_eqb t.id.command n (λ same. no_way same))
    where
      no_way : t.id.command ≡ n → ⊥
      no_way same = omega (arith, same, later)

  -- replies to an earlier command don't count
  skip : (n j m : ℕ) (us vs : List Told) → n < j → AllByRecursion (λ t. t.id ≡ named n) us → flat_map (lines_of version (us ++ vs)) (map named (count_from j m)) ≡ flat_map (lines_of version vs) (map named (count_from j m))
  skip n j zero us vs low at = refl
  skip n j (suc m) us vs low at =
      let none : filter (is_named j) us ≡ [] = filter_none (is_named j) us (each_weaker (λ t. t.id ≡ named n) (λ t. is_named j t ≡ false) other us at) in
      let here : filter (is_named j) (us ++ vs) ≡ filter (is_named j) vs = filter-append (is_named j) us vs ∙ ap (λ ts. ts ++ filter (is_named j) vs) none in
      ap (λ ts. flat_map lines ts ++ flat_map (lines_of version (us ++ vs)) (map named (count_from (suc j) m))) here
      ∙ ap (λ ls. flat_map lines (filter (is_named j) vs) ++ ls) (skip n (suc j) m us vs (omega (arith, low)) at)
    where
      apart : n ≡ j → ⊥
      apart same = omega (arith, same, low)

      other : (t : Told) → t.id ≡ named n → is_named j t ≡ false
      other t is = ap (λ i. same_id i (named j)) is ∙ and_right (session == session) (n == j) (ne_eqb n j apart)

  -- the replies command by command are the replies in their order
  lines_are : (n : ℕ) (cs : List Command) (ts : List Told) → Answer (flat_map (command_entries session) (enumerate_from n cs)) ts → flat_map (lines_of version ts) (map named (count_from n (length cs))) ≡ flat_map lines ts
  lines_are n [] ts h = sym (ap (flat_map lines) h)
  lines_are n (c ∷ cs) ts h =
      let parts = answer_apart (command_entries session (n, c)) (flat_map (command_entries session) (enumerate_from (n + 1) cs)) ts h in
      let us : List Told = parts.0 in
      let vs : List Told = parts.1 in
      let at : AllByRecursion (λ t. t.id ≡ named n) us = answers_hold (λ i. i ≡ named n) (command_entries session (n, c)) us parts.3 (command_at n c) in
      let from : AllByRecursion (λ t. n + 1 ≤ t.id.command) vs = answers_hold (AreFrom (n + 1)) (flat_map (command_entries session) (enumerate_from (n + 1) cs)) vs parts.4 (commands_from (n + 1) cs) in
      let front : filter (is_named n) us ≡ us = filter_all (is_named n) us (each_weaker (λ t. t.id ≡ named n) (λ t. is_named n t ≡ true) (named_itself n) us at) in
      let back : filter (is_named n) vs ≡ [] = filter_none (is_named n) vs (each_weaker (λ t. n + 1 ≤ t.id.command) (λ t. is_named n t ≡ false) (later_named n) vs from) in
      let here : filter (is_named n) (us ++ vs) ≡ us = filter-append (is_named n) us vs ∙ ap (λ xs. xs ++ filter (is_named n) vs) front ∙ ap (λ xs. us ++ xs) back ∙ append-nil us in
      let next : suc n ≡ n + 1 = omega arith in
      let low : n < suc n = omega arith in
      let later : flat_map (lines_of version vs) (map named (count_from (suc n) (length cs))) ≡ flat_map lines vs = ap (λ k. flat_map (lines_of version vs) (map named (count_from k (length cs)))) next ∙ lines_are (n + 1) cs vs parts.4 in
      ap (λ xs. flat_map (lines_of version xs) (map named (count_from n (suc (length cs))))) parts.2
      ∙ ap (λ xs. flat_map lines xs ++ flat_map (lines_of version (us ++ vs)) (map named (count_from (suc n) (length cs)))) here
      ∙ ap (λ ls. flat_map lines us ++ ls) (skip n (suc n) (length cs) us vs low at ∙ later)
      ∙ sym (flat_map-append lines us vs)
      ∙ ap (flat_map lines) (sym parts.2)

  -- a command's replies are among those of its session
  in_session : (n : ℕ) (ts : List Told) → filter (is_named n) (told_in session ts) ≡ filter (is_named n) ts
  in_session n [] = refl
  in_session n (t ∷ ts) = by (t.id.session == session) refl (in_session n ts)
    where
      by : (b : Bool) → (t.id.session == session) ≡ b → filter (is_named n) (told_in session ts) ≡ filter (is_named n) ts → filter (is_named n) (told_in session (t ∷ ts)) ≡ filter (is_named n) (t ∷ ts)
      by true is rest =
          let kept : told_in session (t ∷ ts) ≡ t ∷ told_in session ts = ap (λ c. cond c (t ∷ told_in session ts) (told_in session ts)) is in
          ap (filter (is_named n)) kept ∙ ap (λ us. cond (is_named n t) (t ∷ us) us) rest
      by false is rest =
          let gone : told_in session (t ∷ ts) ≡ told_in session ts = ap (λ c. cond c (t ∷ told_in session ts) (told_in session ts)) is in
          let other : is_named n t ≡ false = and_left (t.id.session == session) (t.id.command == n) is in
          ap (filter (is_named n)) gone ∙ rest ∙ sym (ap (λ c. cond c (t ∷ filter (is_named n) ts) (filter (is_named n) ts)) other)

  all_in_session : (ns : List ℕ) (ts : List Told) → flat_map (lines_of version ts) (map named ns) ≡ flat_map (lines_of version (told_in session ts)) (map named ns)
  all_in_session [] ts = refl
  all_in_session (n ∷ ns) ts =
      ap (λ us. flat_map lines us ++ flat_map (lines_of version ts) (map named ns)) (sym (in_session n ts))
      ∙ ap (λ ls. lines_of version (told_in session ts) (named n) ++ ls) (all_in_session ns ts)

-- ---- the transcript

module _ (version : Version) (script : Script) (journal : List Entry) where
  abbrev given : List Told
  given = replies_of (trace_of script journal)

  -- the lines of the replies to a command
  abbrev told_to : Id → List (List ℕ)
  told_to id = lines_of version given id

  section_lines : (s : Section) → of_session s.session journal ≡ section_entries s → flat_map told_to (section_ids s) ≡ flat_map (lines version s.session) (session_told script journal s)
  section_lines s own =
      let answered : Answer (section_entries s) (told_in s.session given) = subst (λ es. Answer es (told_in s.session given)) own (session_answered s.session journal given (journal_answered script journal)) in
      all_in_session version s.session (count_from 1 (length s.commands)) given ∙ lines_are version s.session 1 s.commands (told_in s.session given) answered

  sections_text : (sections : List Section) → AllByRecursion (λ s. of_session s.session journal ≡ section_entries s) sections → lines_text (flat_map told_to (flat_map section_ids sections)) ≡ flat_map (λ s. told_text version (session_told script journal s)) sections
  sections_text [] own = refl
  sections_text (s ∷ ss) own =
      ap lines_text (flat_map-append told_to (section_ids s) (flat_map section_ids ss))
      ∙ flat_map-append (λ l. l ++ 10 ∷ []) (flat_map told_to (section_ids s)) (flat_map told_to (flat_map section_ids ss))
      ∙ ap (λ ls. lines_text ls ++ lines_text (flat_map told_to (flat_map section_ids ss))) (section_lines s own.0)
      ∙ ap (λ text. told_text version (session_told script journal s) ++ text) (sections_text ss own.1)

  pub by_sections : AllByRecursion (λ s. of_session s.session journal ≡ section_entries s) script.sections → transcript version script journal ≡ lines_text (first_lines version) ++ (flat_map (λ s. told_text version (session_told script journal s)) script.sections ++ lines_text (journal_line journal ∷ []))
  by_sections own =
      let told : List (List ℕ) = flat_map told_to (flat_map section_ids script.sections) in
      let first : List ℕ = lines_text (first_lines version) in
      flat_map-append (λ l. l ++ 10 ∷ []) (first_lines version) (told ++ journal_line journal ∷ [])
      ∙ ap (λ text. first ++ text) (flat_map-append (λ l. l ++ 10 ∷ []) told (journal_line journal ∷ []))
      ∙ ap (λ text. first ++ (text ++ lines_text (journal_line journal ∷ []))) (sections_text script.sections own)
