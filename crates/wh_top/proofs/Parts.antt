-- A part more of a session, and what it leaves of the others.
use Rattle.std.proofs.Common.{◌≡◌, ◌∙◌, sym, ap, subst, refl, arith, ℕ, suc, zero, ◌+◌, ◌-◌, ◌==◌, ◌||◌, Bool, true, false, cond, List, [], ◌∷◌, ◌++◌, length, drop, find, flat_map, slice_get, Some, None}
use Rattle.std.proofs.lemmas.Option.{same_Some}
use Rattle.std.specs.Prelude.{count_by, slice_set}
use Rattle.std.proofs.lemmas.Bool.{eq-eqb, eqb-true, eqb-false, ne_eqb}
use Rattle.std.proofs.lemmas.List.{append-nil, append_assoc, map-append, length-append}
use Rattle.std.proofs.lemmas.List.Concat.{flat_map-append}
use Rattle.std.proofs.lemmas.List.Elements.{filter-append}
use Rattle.std.proofs.lemmas.List.Folds.{list_any-append}
use Rattle.std.proofs.lemmas.List.Sums.{sum_by-append}
use Rattle.wh_base.specs.Parts.{bearer, section_entries}
use Rattle.wh_base.specs.declared.statements.Entry.{Entry}
use Rattle.wh_base.specs.declared.statements.Event.{Event}
use Rattle.wh_base.specs.declared.statements.Script.{Script}
use Rattle.wh_base.specs.declared.statements.Section.{Section}
use Rattle.wh_base.specs.declared.values.Version.{Version}
use Rattle.def_journal.specs.Journal.{Told, command_of, given_by, of_session, replies_of, reply_to, trace_of}
use Rattle.def_output.specs.Generator.{is_refused, is_rewritten}
use Rattle.def_output.specs.Reads.{read_of}
use Rattle.def_transcript.specs.Texts.{lines_text, reply_lines}
use Rattle.wh_order.specs.Laws.{IsNext, session_told, told_in, told_text}
use Rattle.wh_order.proofs.Told.{told_in_of}
use Rattle.wh_session.specs.Run.{Run, Takes}
use Rattle.wh_session.specs.Tally.{both, tally_of}
use Rattle.law_trace.specs.Reached.{is_of}
use Rattle.wh_top.specs.Running.{AreAsFar, IsAsFar, place_of}
use Rattle.wh_top.proofs.Apart.{AreApart, AreOthers}

-- ---- one entry more

-- the event that the script gives an entry
abbrev pub event_at : Script → Entry → Event
event_at script e = record { entry = e; command = command_of script e }

pub trace_push : (script : Script) (front : List Entry) (e : Entry) → trace_of script (front ++ e ∷ []) ≡ trace_of script front ++ event_at script e ∷ []
trace_push script front e = map-append (λ x. event_at script x) front (e ∷ [])

-- the replies of a session
pub told_push : (script : Script) (front : List Entry) (e : Entry) (n : ℕ) → told_in n (replies_of (trace_of script (front ++ e ∷ []))) ≡ told_in n (replies_of (trace_of script front)) ++ cond (e.session == n) (given_by (event_at script e) (reply_to (trace_of script front) (event_at script e))) []
told_push script front e n = ap (λ t. told_in n (replies_of t)) (trace_push script front e) ∙ told_in_of n (trace_of script front) (event_at script e)

told_text_append : (version : Version) (xs ys : List Told) → told_text version (xs ++ ys) ≡ told_text version xs ++ told_text version ys
told_text_append version xs ys =
    ap lines_text (flat_map-append (λ (t : Told). reply_lines version t.id t.reply) xs ys)
    ∙ flat_map-append (λ (l : List ℕ). l ++ 10 ∷ []) (flat_map (λ t. reply_lines version t.id t.reply) xs) (flat_map (λ t. reply_lines version t.id t.reply) ys)

count_append : (p : Told → Bool) (xs ys : List Told) → count_by p (xs ++ ys) ≡ count_by p xs + count_by p ys
count_append p xs ys = sum_by-append (λ (t : Told). cond (p t) 1 0) xs ys

tally_append : (xs ys : List Told) → tally_of (xs ++ ys) ≡ both (tally_of xs) (tally_of ys)
tally_append xs ys = λ i. record {
  refused = count_append is_refused xs ys i;
  rewritten = count_append is_rewritten xs ys i;
  read = sum_by-append (λ (t : Told). read_of t.reply) xs ys i;
}

-- the entries of a session
own_push : (front : List Entry) (e : Entry) (n : ℕ) (b : Bool) → (e.session == n) ≡ b → of_session n (front ++ e ∷ []) ≡ of_session n front ++ cond b (e ∷ []) []
own_push front e n b is = filter-append (λ x. x.session == n) front (e ∷ []) ∙ ap (λ c. of_session n front ++ cond c (e ∷ []) []) is

-- ---- another session's part

pub other_far : (version : Version) (script : Script) (front : List Entry) (e : Entry) (s : Section) (r : Run) → e.worker ≡ 0 → (e.session == s.session) ≡ false → IsAsFar version script front s r → IsAsFar version script (front ++ e ∷ []) s r
other_far version script front e s r alone other far =
    let trace : List Event = trace_of script front in
    let x : Event = event_at script e in
    let same : of_session s.session (front ++ e ∷ []) ≡ of_session s.session front = own_push front e s.session false other ∙ append-nil (of_session s.session front) in
    let told : session_told script (front ++ e ∷ []) s ≡ session_told script front s =
    told_push script front e s.session
    ∙ ap (λ b. session_told script front s ++ cond b (given_by x (reply_to trace x)) []) other
    ∙ append-nil (session_told script front s) in
    let number : r.section.session ≡ s.session = ap (λ t. t.session) far.section_is in
    let apart : is_of r.section.session x ≡ false = ap (λ w. bearer e.session w == r.section.session) alone ∙ ap (λ n. e.session == n) number ∙ other in
    record {
      version_is = far.version_is;
      section_is = far.section_is;
      left_is = far.left_is ∙ sym (ap (λ es. drop (length es) (section_entries s)) same);
      text_is = far.text_is ∙ sym (ap (told_text version) told);
      tally_is = far.tally_is ∙ sym (ap tally_of told);
      goes_on = record {
        more = far.goes_on.more ++ x ∷ [];
        is = trace_push script front e ∙ ap (λ t. t ++ x ∷ []) far.goes_on.is ∙ append_assoc r.seen far.goes_on.more (x ∷ []);
        apart = list_any-append (is_of r.section.session) far.goes_on.more (x ∷ []) ∙ ap (λ b. b || (is_of r.section.session x || false)) far.goes_on.apart ∙ ap (λ b. b || false) apart;
      };
      ended = far.ended;
    }

pub others_far : (version : Version) (script : Script) (front : List Entry) (e : Entry) (ss : List Section) (rs : List Run) → e.worker ≡ 0 → AreOthers e.session ss → AreAsFar version script front ss rs → AreAsFar version script (front ++ e ∷ []) ss rs
others_far version script front e [] [] alone others far = tt
others_far version script front e [] (r ∷ rs) alone others far = far
others_far version script front e (s ∷ ss) [] alone others far = far
others_far version script front e (s ∷ ss) (r ∷ rs) alone others far =
    let other : (e.session == s.session) ≡ false = ne_eqb e.session s.session (λ same. eqb-false s.session e.session others.0 (sym same)) in
    (other_far version script front e s r alone other far.0, others_far version script front e ss rs alone others.1 far.1)

-- ---- the session's own part

none_is_some : {A B : Type 0} (x : A) → None ≡ Some x → B
none_is_some x e = cc

drop_next : (xs : List Entry) (n : ℕ) (e : Entry) → slice_get xs n ≡ Some e → drop n xs ≡ e ∷ drop (suc n) xs
drop_next [] zero e is = none_is_some e is
drop_next [] (suc n) e is = none_is_some e is
drop_next (x ∷ xs) zero e is = ap (λ y. y ∷ xs) (same_Some x e is)
drop_next (x ∷ xs) (suc n) e is = drop_next xs n e is

first_is : (x y : Entry) (xs ys : List Entry) → x ∷ xs ≡ y ∷ ys → x ≡ y
first_is x y xs ys e = cc

rest_is : (x y : Entry) (xs ys : List Entry) → x ∷ xs ≡ y ∷ ys → xs ≡ ys
rest_is x y xs ys e = cc

-- what is left of a session whose part comes next
pub left_next : (version : Version) (script : Script) (front : List Entry) (e : Entry) (r : Run) (next : IsNext script front e) → next.section.session ≡ e.session → IsAsFar version script front next.section r → r.left ≡ e ∷ drop (suc (length (of_session e.session front))) (section_entries next.section)
left_next version script front e r next own far =
    far.left_is
    ∙ ap (λ n. drop (length (of_session n front)) (section_entries next.section)) own
    ∙ drop_next (section_entries next.section) (length (of_session e.session front)) e next.next

-- the event of the part is the one that the script gives its entry
pub event_is : (version : Version) (script : Script) (front : List Entry) (e : Entry) (r after : Run) (trace_after : List Event) (read read_after : ℕ) (next : IsNext script front e) → next.section.session ≡ e.session → IsAsFar version script front next.section r → (takes : Takes r after (trace_of script front) trace_after read read_after) → event_at script e ≡ record { entry = takes.entry; command = takes.command }
event_is version script front e r after trace_after read read_after next own far takes =
    let parts = sym takes.next ∙ left_next version script front e r next own far in
    let entry : takes.entry ≡ e = first_is takes.entry e after.left (drop (suc (length (of_session e.session front))) (section_entries next.section)) parts in
    let found : Some takes.command ≡ Some next.names.command = sym takes.names ∙ ap (λ s. slice_get s.commands (takes.entry.command - 1)) far.section_is ∙ ap (λ x. slice_get next.section.commands (x.command - 1)) entry ∙ next.names.at in
    let command : takes.command ≡ command_of script e = same_Some takes.command next.names.command found ∙ sym next.command_is in
    sym (ap (λ x. record { entry = x; command = takes.command }) entry ∙ ap (λ c. record { entry = e; command = c }) command)

pub trace_is : (version : Version) (script : Script) (front : List Entry) (e : Entry) (r after : Run) (trace_after : List Event) (read read_after : ℕ) (next : IsNext script front e) → next.section.session ≡ e.session → IsAsFar version script front next.section r → Takes r after (trace_of script front) trace_after read read_after → trace_after ≡ trace_of script (front ++ e ∷ [])
trace_is version script front e r after trace_after read read_after next own far takes =
    takes.event_is
    ∙ ap (λ x. trace_of script front ++ x ∷ []) (sym (event_is version script front e r after trace_after read read_after next own far takes))
    ∙ sym (trace_push script front e)

pub own_far : (version : Version) (script : Script) (front : List Entry) (e : Entry) (r after : Run) (trace_after : List Event) (read read_after : ℕ) (next : IsNext script front e) → next.section.session ≡ e.session → IsAsFar version script front next.section r → Takes r after (trace_of script front) trace_after read read_after → IsAsFar version script (front ++ e ∷ []) next.section after
own_far version script front e r after trace_after read read_after next own far takes =
    let s : Section = next.section in
    let trace : List Event = trace_of script front in
    let x : Event = event_at script e in
    let k : ℕ = length (of_session e.session front) in
    let same : (e.session == s.session) ≡ true = eq-eqb e.session s.session (sym own) in
    let event : x ≡ record { entry = takes.entry; command = takes.command } = event_is version script front e r after trace_after read read_after next own far takes in
    let more : after.left ≡ drop (suc k) (section_entries s) = rest_is takes.entry e after.left (drop (suc k) (section_entries s)) (sym takes.next ∙ left_next version script front e r next own far) in
    let entries : of_session s.session (front ++ e ∷ []) ≡ of_session s.session front ++ e ∷ [] = own_push front e s.session true same in
    let here : length (of_session s.session front) ≡ k = ap (λ n. length (of_session n front)) own in
    let count : length (of_session s.session (front ++ e ∷ [])) ≡ suc k = ap length entries ∙ length-append (of_session s.session front) (e ∷ []) ∙ omega (arith, here) in
    let told : session_told script (front ++ e ∷ []) s ≡ session_told script front s ++ given_by x (reply_to trace x) =
    told_push script front e s.session
    ∙ ap (λ b. session_told script front s ++ cond b (given_by x (reply_to trace x)) []) same in
    let text : told_text version (session_told script (front ++ e ∷ []) s) ≡ told_text version (session_told script front s) ++ told_text version (given_by x (reply_to trace x)) = ap (told_text version) told ∙ told_text_append version (session_told script front s) (given_by x (reply_to trace x)) in
    let tally : tally_of (session_told script (front ++ e ∷ []) s) ≡ both (tally_of (session_told script front s)) (tally_of (given_by x (reply_to trace x))) = ap tally_of told ∙ tally_append (session_told script front s) (given_by x (reply_to trace x)) in
    record {
      version_is = takes.version_is ∙ far.version_is;
      section_is = takes.section_is ∙ far.section_is;
      left_is = more ∙ sym (ap (λ n. drop n (section_entries s)) count);
      text_is = takes.text_is
          ∙ ap (λ v. r.text ++ told_text v (given_by (record { entry = takes.entry; command = takes.command }) (reply_to trace (record { entry = takes.entry; command = takes.command })))) far.version_is
          ∙ ap (λ t. t ++ told_text version (given_by (record { entry = takes.entry; command = takes.command }) (reply_to trace (record { entry = takes.entry; command = takes.command })))) far.text_is
          ∙ sym (text ∙ ap (λ y. told_text version (session_told script front s) ++ told_text version (given_by y (reply_to trace y))) event);
      tally_is = takes.tally_is ∙ ap (λ t. both t (tally_of (given_by (record { entry = takes.entry; command = takes.command }) (reply_to trace (record { entry = takes.entry; command = takes.command }))))) far.tally_is
          ∙ sym (tally ∙ ap (λ y. both (tally_of (session_told script front s)) (tally_of (given_by y (reply_to trace y)))) event);
      goes_on = record {
        more = [];
        is = sym (trace_is version script front e r after trace_after read read_after next own far takes) ∙ sym takes.seen_is ∙ sym (append-nil after.seen);
        apart = refl;
      };
      ended = takes.ended;
    }

-- ---- the session among the others

-- the run of the first section with the number n
pub run_found : (version : Version) (script : Script) (front : List Entry) (n : ℕ) (s : Section) (ss : List Section) (rs : List Run) → AreAsFar version script front ss rs → find (λ t. t.session == n) ss ≡ Some s → (r : Run) × (slice_get rs (place_of n rs) ≡ Some r) × IsAsFar version script front s r
run_found version script front n s [] rs far found = none_is_some s found
run_found version script front n s (t ∷ ss) [] far found = absurd far
run_found version script front n s (t ∷ ss) (r ∷ rs) far found = by (t.session == n) refl found (run_found version script front n s ss rs far.1)
  where
    test : (r.section.session == n) ≡ (t.session == n)
    test = ap (λ u. u.session == n) far.0.section_is

    by : (b : Bool) → (t.session == n) ≡ b → cond b (Some t) (find (λ u. u.session == n) ss) ≡ Some s → (find (λ u. u.session == n) ss ≡ Some s → (q : Run) × (slice_get rs (place_of n rs) ≡ Some q) × IsAsFar version script front s q) → (q : Run) × (slice_get (r ∷ rs) (place_of n (r ∷ rs)) ≡ Some q) × IsAsFar version script front s q
    by true is here later = (r, ap (λ b. slice_get (r ∷ rs) (cond b 0 (suc (place_of n rs)))) (test ∙ is), subst (λ u. IsAsFar version script front u r) (same_Some t s here) far.0)
    by false is here later =
        let rest = later here in
        (rest.0, ap (λ b. slice_get (r ∷ rs) (cond b 0 (suc (place_of n rs)))) (test ∙ is) ∙ rest.1, rest.2)

-- that section has this number
pub found_own : (n : ℕ) (s : Section) (ss : List Section) → find (λ t. t.session == n) ss ≡ Some s → s.session ≡ n
found_own n s [] found = none_is_some s found
found_own n s (t ∷ ss) found = by (t.session == n) refl found (found_own n s ss)
  where
    by : (b : Bool) → (t.session == n) ≡ b → cond b (Some t) (find (λ u. u.session == n) ss) ≡ Some s → (find (λ u. u.session == n) ss ≡ Some s → s.session ≡ n) → s.session ≡ n
    by true is here later = sym (ap (λ u. u.session) (same_Some t s here)) ∙ eqb-true t.session n is
    by false is here later = later here

-- it alone has gone on
pub all_far : (version : Version) (script : Script) (front : List Entry) (e : Entry) (s : Section) (after : Run) (ss : List Section) (rs : List Run) → e.worker ≡ 0 → AreApart ss → AreAsFar version script front ss rs → find (λ t. t.session == e.session) ss ≡ Some s → IsAsFar version script (front ++ e ∷ []) s after → AreAsFar version script (front ++ e ∷ []) ss (slice_set rs (place_of e.session rs) after)
all_far version script front e s after [] rs alone apart far found own = none_is_some s found
all_far version script front e s after (t ∷ ss) [] alone apart far found own = absurd far
all_far version script front e s after (t ∷ ss) (r ∷ rs) alone apart far found own = by (t.session == e.session) refl found (all_far version script front e s after ss rs alone apart.1 far.1)
  where
    n : ℕ
    n = e.session

    test : (r.section.session == n) ≡ (t.session == n)
    test = ap (λ u. u.session == n) far.0.section_is

    by : (b : Bool) → (t.session == n) ≡ b → cond b (Some t) (find (λ u. u.session == n) ss) ≡ Some s → (find (λ u. u.session == n) ss ≡ Some s → IsAsFar version script (front ++ e ∷ []) s after → AreAsFar version script (front ++ e ∷ []) ss (slice_set rs (place_of n rs) after)) → AreAsFar version script (front ++ e ∷ []) (t ∷ ss) (slice_set (r ∷ rs) (place_of n (r ∷ rs)) after)
    by true is here later =
        let place : place_of n (r ∷ rs) ≡ 0 = ap (λ b. cond b 0 (suc (place_of n rs))) (test ∙ is) in
        let others : AreOthers n ss = subst (λ m. AreOthers m ss) (eqb-true t.session n is) apart.0 in
        let both : AreAsFar version script (front ++ e ∷ []) (t ∷ ss) (after ∷ rs) = (subst (λ u. IsAsFar version script (front ++ e ∷ []) u after) (sym (same_Some t s here)) own, others_far version script front e ss rs alone others far.1) in
        subst (λ k. AreAsFar version script (front ++ e ∷ []) (t ∷ ss) (slice_set (r ∷ rs) k after)) (sym place) both
    by false is here later =
        let place : place_of n (r ∷ rs) ≡ suc (place_of n rs) = ap (λ b. cond b 0 (suc (place_of n rs))) (test ∙ is) in
        let other : (n == t.session) ≡ false = ne_eqb n t.session (λ same. eqb-false t.session n is (sym same)) in
        let both : AreAsFar version script (front ++ e ∷ []) (t ∷ ss) (r ∷ slice_set rs (place_of n rs) after) = (other_far version script front e t r alone other far.0, later here own) in
        subst (λ k. AreAsFar version script (front ++ e ∷ []) (t ∷ ss) (slice_set (r ∷ rs) k after)) (sym place) both
