-- A script's own order is legal.
use Rattle.std.proofs.Common.{◌≡◌, ◌∙◌, sym, ap, subst, refl, ℕ, ◌==◌, ◌&&◌, ◌||◌, Bool, true, false, cond, not, List, [], ◌∷◌, ◌++◌, map, take, drop, filter, flat_map, Some, None}
use Rattle.std.specs.List.{AllByRecursion, list_all, list_any}
use Rattle.std.proofs.lemmas.Bool.{and_from, eq-eqb, eqb-false, eqb-true, ne_eqb, not-true, not_from_false, not_from_true, or_parts, or_right}
use Rattle.std.proofs.lemmas.List.{append-nil, append_assoc}
use Rattle.std.proofs.lemmas.List.Elements.{filter-append}
use Rattle.std.proofs.lemmas.List.Folds.{flat_map-map}
use Rattle.wh_base.specs.Lists.{has_number, repeated_after}
use Rattle.wh_base.specs.Parts.{section_entries}
use Rattle.wh_base.specs.declared.statements.Entry.{Entry}
use Rattle.wh_base.specs.declared.statements.Script.{Script}
use Rattle.wh_base.specs.declared.statements.Section.{Section}
use Rattle.def_journal.specs.Jobs.{accepted_submits, is_own, jobs_are_legal, same_entries}
use Rattle.def_journal.specs.Journal.{Left, is_legal, is_setup, next_of, not_of_session, of_session, order_of, own_entries, own_turns, session_numbers, turns, without_next}
use Rattle.def_journal.proofs.NoJobs.{all_own_entries, order_without_jobs, own_is_legal}
use Rattle.wh_order.specs.Laws.{Names, number_twice}
use Rattle.wh_order.specs.Left.{begun, setup_entries}
use Rattle.wh_order.proofs.Listed.{all_from_each, each_append, each_both, each_filter, each_flat, each_map, each_of, each_passed, each_weaker, filter_all, filter_none}
use Rattle.wh_order.proofs.Journals.{each_names, entries_same}

-- ---- numbers that differ

-- no number stands twice
abbrev pub AreApart : List ℕ → Type 0
AreApart [] = Unit {0}
AreApart (n ∷ ns) = (has_number ns n ≡ false) × AreApart ns

abbrev same_number : ℕ → ℕ → Bool
same_number m n = m == n

none_not_some : {A : Type 0} (x : A) → Some x ≡ None → ⊥
none_not_some x e = cc

-- those that come are not among those that were seen
unseen : (seen ns : List ℕ) → repeated_after same_number seen ns ≡ None → AllByRecursion (λ n. list_any (same_number n) seen ≡ false) ns
unseen seen [] h = tt
unseen seen (n ∷ ns) h = by (list_any (same_number n) seen) refl h (λ rest. unseen (n ∷ seen) ns rest)
  where
    weaker : (m : ℕ) → list_any (same_number m) (n ∷ seen) ≡ false → list_any (same_number m) seen ≡ false
    weaker m none = (or_parts (m == n) (list_any (same_number m) seen) none).1

    by : (b : Bool) → list_any (same_number n) seen ≡ b → cond b (Some n) (repeated_after same_number (n ∷ seen) ns) ≡ None → (repeated_after same_number (n ∷ seen) ns ≡ None → AllByRecursion (λ m. list_any (same_number m) (n ∷ seen) ≡ false) ns) → AllByRecursion (λ m. list_any (same_number m) seen ≡ false) (n ∷ ns)
    by true is twice more = absurd (none_not_some n twice)
    by false is rest more = (is, each_weaker (λ m. list_any (same_number m) (n ∷ seen) ≡ false) (λ m. list_any (same_number m) seen ≡ false) weaker ns (more rest))

not_there : (n : ℕ) (ns : List ℕ) → AllByRecursion (λ m. (m == n) ≡ false) ns → has_number ns n ≡ false
not_there n [] h = refl
not_there n (m ∷ ns) h = rw h.0 (not_there n ns h.1)

pub apart_after : (seen ns : List ℕ) → repeated_after same_number seen ns ≡ None → AreApart ns
apart_after seen [] h = tt
apart_after seen (n ∷ ns) h = by (list_any (same_number n) seen) h (λ rest. apart_after (n ∷ seen) ns rest)
  where
    other : (m : ℕ) → list_any (same_number m) (n ∷ seen) ≡ false → (m == n) ≡ false
    other m none = (or_parts (m == n) (list_any (same_number m) seen) none).0

    by : (b : Bool) → cond b (Some n) (repeated_after same_number (n ∷ seen) ns) ≡ None → (repeated_after same_number (n ∷ seen) ns ≡ None → AreApart ns) → AreApart (n ∷ ns)
    by true twice more = absurd (none_not_some n twice)
    by false rest more =
        let others : AllByRecursion (λ m. (m == n) ≡ false) ns = each_weaker (λ m. list_any (same_number m) (n ∷ seen) ≡ false) (λ m. (m == n) ≡ false) other ns (unseen (n ∷ seen) ns rest) in
        (not_there n ns others, more rest)

-- ---- entries of one session

abbrev AreOf : ℕ → List Entry → Type 0
AreOf n es = AllByRecursion (λ e. e.session ≡ n) es

-- all of them or none are of the session
picked : (n m : ℕ) (es : List Entry) → AreOf m es → of_session n es ≡ cond (m == n) es []
picked n m [] h = neither (m == n) []
  where
    neither : (b : Bool) (none : List Entry) → none ≡ cond b none none
    neither true none = refl
    neither false none = refl
picked n m (e ∷ es) h =
    ap (λ k. cond (k == n) (e ∷ of_session n es) (of_session n es)) h.0
    ∙ ap (λ fs. cond (m == n) (e ∷ fs) fs) (picked n m es h.1)
    ∙ whole (m == n)
  where
    whole : (b : Bool) → cond b (e ∷ cond b es []) (cond b es []) ≡ cond b (e ∷ es) []
    whole true = refl
    whole false = refl

none_picked : (n m : ℕ) (es : List Entry) → AreOf m es → (m == n) ≡ false → of_session n es ≡ []
none_picked n m es h other = picked n m es h ∙ ap (λ b. cond b es []) other

-- no worker has a part in it
section_alone : (s : Section) → AllByRecursion (λ e. is_own e ≡ true) (section_entries s)
section_alone s = each_weaker (Names s.session 1 s.commands) (λ e. is_own e ≡ true) (λ e h. ap (λ w. w == 0) h.alone) (section_entries s) (each_names s.session 1 s.commands)

section_own : (s : Section) → AreOf s.session (section_entries s)
section_own s = each_weaker (Names s.session 1 s.commands) (λ e. e.session ≡ s.session) (λ e h. h.own) (section_entries s) (each_names s.session 1 s.commands)

-- ---- what is left

abbrev AreOwn : Left → Type 0
AreOwn left = AllByRecursion (λ p. AreOf p.0 p.1) left

abbrev numbers : Left → List ℕ
numbers left = map (λ p. p.0) left

-- what is left of this session
abbrev left_in : ℕ → Left → List Entry
left_in n left = flat_map (λ p. cond (p.0 == n) p.1 []) left

-- what holds of each part holds of the turns
each_next : (P : Entry → Type 0) (left : Left) (n : ℕ) → AllByRecursion (λ p. AllByRecursion P p.1) left → AllByRecursion P (next_of left n)
each_next P [] n h = tt
each_next P (p ∷ ps) n h = by (p.0 == n) (each_next P ps n h.1)
  where
    first : (es : List Entry) → AllByRecursion P es → AllByRecursion P (take 1 es)
    first [] h = tt
    first (e ∷ es) h = (h.0, tt)

    by : (b : Bool) → AllByRecursion P (next_of ps n) → AllByRecursion P (cond b (take 1 p.1) (next_of ps n))
    by true rest = first p.1 h.0
    by false rest = rest

each_without : (Q : ℕ → Entry → Type 0) (left : Left) (n : ℕ) → AllByRecursion (λ p. AllByRecursion (Q p.0) p.1) left → AllByRecursion (λ p. AllByRecursion (Q p.0) p.1) (without_next left n)
each_without Q [] n h = tt
each_without Q (p ∷ ps) n h = (by (p.0 == n), each_without Q ps n h.1)
  where
    later : (es : List Entry) → AllByRecursion (Q p.0) es → AllByRecursion (Q p.0) (drop 1 es)
    later [] h = tt
    later (e ∷ es) h = h.1

    by : (b : Bool) → AllByRecursion (Q (cond b (p.0, drop 1 p.1) p).0) (cond b (p.0, drop 1 p.1) p).1
    by true = later p.1 h.0
    by false = h.0

each_turn : (P : Entry → Type 0) (ns : List ℕ) (left : Left) → AllByRecursion (λ p. AllByRecursion P p.1) left → AllByRecursion P (turns ns left)
each_turn P [] left h = each_flat (λ p. AllByRecursion P p.1) P (λ p. p.1) (λ p k. k) left h
each_turn P (n ∷ ns) left h = each_append P (next_of left n) (turns ns (without_next left n)) (each_next P left n h) (each_turn P ns (without_next left n) (each_without (λ m. P) left n h))

-- the next part of a session is of it
next_own : (left : Left) (n : ℕ) → AreOwn left → AreOf n (next_of left n)
next_own [] n h = tt
next_own (p ∷ ps) n h = by (p.0 == n) refl (next_own ps n h.1)
  where
    first : (m : ℕ) (es : List Entry) → AreOf m es → AreOf m (take 1 es)
    first m [] h = tt
    first m (e ∷ es) h = (h.0, tt)

    by : (b : Bool) → (p.0 == n) ≡ b → AreOf n (next_of ps n) → AreOf n (cond b (take 1 p.1) (next_of ps n))
    by true is rest = subst (λ m. AreOf m (take 1 p.1)) (eqb-true p.0 n is) (first p.0 p.1 h.0)
    by false is rest = rest

numbers_kept : (left : Left) (n : ℕ) → numbers (without_next left n) ≡ numbers left
numbers_kept [] n = refl
numbers_kept (p ∷ ps) n = ap (λ m. m ∷ numbers (without_next ps n)) (by (p.0 == n)) ∙ ap (λ ms. p.0 ∷ ms) (numbers_kept ps n)
  where
    by : (b : Bool) → (cond b (p.0, drop 1 p.1) p).0 ≡ p.0
    by true = refl
    by false = refl

-- a session that isn't there has no next part
none_without : (left : Left) (n : ℕ) → has_number (numbers left) n ≡ false → without_next left n ≡ left
none_without [] n h = refl
none_without (p ∷ ps) n h =
    let parts = or_parts (p.0 == n) (has_number (numbers ps) n) h in
    ap (λ b. cond b (p.0, drop 1 p.1) p ∷ without_next ps n) parts.0 ∙ ap (λ qs. p ∷ qs) (none_without ps n parts.1)

-- the next part and what is left without it are what was left
next_in : (n m : ℕ) (left : Left) → AreOwn left → AreApart (numbers left) → of_session n (next_of left m) ++ left_in n (without_next left m) ≡ left_in n left
next_in n m [] own apart = refl
next_in n m (p ∷ ps) own apart = by (p.0 == m) refl (next_in n m ps own.1 apart.1)
  where
    first : (k : ℕ) (es : List Entry) → AreOf k es → AreOf k (take 1 es)
    first k [] h = tt
    first k (e ∷ es) h = (h.0, tt)

    taken : (b : Bool) (es more : List Entry) → cond b (take 1 es) [] ++ (cond b (drop 1 es) [] ++ more) ≡ cond b es [] ++ more
    taken true [] more = refl
    taken true (e ∷ es) more = refl
    taken false es more = refl

    goal : Bool → Type 0
    goal b = of_session n (cond b (take 1 p.1) (next_of ps m)) ++ (cond ((cond b (p.0, drop 1 p.1) p).0 == n) (cond b (p.0, drop 1 p.1) p).1 [] ++ left_in n (without_next ps m)) ≡ cond (p.0 == n) p.1 [] ++ left_in n ps

    among : (b : Bool) → (p.0 == n) ≡ b → (p.0 == m) ≡ false → of_session n (next_of ps m) ++ left_in n (without_next ps m) ≡ left_in n ps → of_session n (next_of ps m) ++ (cond b p.1 [] ++ left_in n (without_next ps m)) ≡ cond b p.1 [] ++ left_in n ps
    among true is differ more =
        let here : p.0 ≡ n = eqb-true p.0 n is in
        let other : (m == n) ≡ false = ne_eqb m n (λ same. eqb-false p.0 m differ (here ∙ sym same)) in
        let none : of_session n (next_of ps m) ≡ [] = none_picked n m (next_of ps m) (next_own ps m own.1) other in
        ap (λ es. es ++ (p.1 ++ left_in n (without_next ps m))) none
        ∙ ap (λ es. p.1 ++ (es ++ left_in n (without_next ps m))) (sym none)
        ∙ ap (λ es. p.1 ++ es) more
    among false is differ more = more

    by : (b : Bool) → (p.0 == m) ≡ b → of_session n (next_of ps m) ++ left_in n (without_next ps m) ≡ left_in n ps → of_session n (next_of (p ∷ ps) m) ++ left_in n (without_next (p ∷ ps) m) ≡ left_in n (p ∷ ps)
    by true is more =
        let absent : has_number (numbers ps) m ≡ false = subst (λ k. has_number (numbers ps) k ≡ false) (eqb-true p.0 m is) apart.0 in
        subst goal (sym is)
        (ap (λ es. es ++ (cond (p.0 == n) (drop 1 p.1) [] ++ left_in n (without_next ps m))) (picked n p.0 (take 1 p.1) (first p.0 p.1 own.0))
        ∙ ap (λ qs. cond (p.0 == n) (take 1 p.1) [] ++ (cond (p.0 == n) (drop 1 p.1) [] ++ left_in n qs)) (none_without ps m absent)
        ∙ taken (p.0 == n) p.1 (left_in n ps))
    by false is more = subst goal (sym is) (among (p.0 == n) refl is more)

left_all : (n : ℕ) (left : Left) → AreOwn left → of_session n (flat_map (λ p. p.1) left) ≡ left_in n left
left_all n [] own = refl
left_all n (p ∷ ps) own =
    filter-append (λ e. e.session == n) p.1 (flat_map (λ q. q.1) ps)
    ∙ ap (λ es. es ++ of_session n (flat_map (λ q. q.1) ps)) (picked n p.0 p.1 own.0)
    ∙ ap (λ es. cond (p.0 == n) p.1 [] ++ es) (left_all n ps own.1)

-- whatever the turns, a session's parts stand in its order
turns_in : (n : ℕ) (ns : List ℕ) (left : Left) → AreOwn left → AreApart (numbers left) → of_session n (turns ns left) ≡ left_in n left
turns_in n [] left own apart = left_all n left own
turns_in n (m ∷ ns) left own apart =
    filter-append (λ e. e.session == n) (next_of left m) (turns ns (without_next left m))
    ∙ ap (λ es. of_session n (next_of left m) ++ es) (turns_in n ns (without_next left m) (each_without (λ k e. e.session ≡ k) left m own) (subst AreApart (sym (numbers_kept left m)) apart))
    ∙ next_in n m left own apart

-- ---- the sections

-- the entries of the sections with this number
abbrev sections_in : ℕ → List Section → List Entry
sections_in n sections = flat_map (λ s. cond (s.session == n) (section_entries s) []) sections

setups_in : (n : ℕ) (sections : List Section) → of_session n (flat_map section_entries sections) ≡ sections_in n sections
setups_in n [] = refl
setups_in n (s ∷ ss) =
    filter-append (λ e. e.session == n) (section_entries s) (flat_map section_entries ss)
    ∙ ap (λ es. es ++ of_session n (flat_map section_entries ss)) (picked n s.session (section_entries s) (section_own s))
    ∙ ap (λ es. cond (s.session == n) (section_entries s) [] ++ es) (setups_in n ss)

-- the setup has no parts of another session
setups_other : (n : ℕ) (sections : List Section) → (0 == n) ≡ false → sections_in n (filter is_setup sections) ≡ []
setups_other n [] other = refl
setups_other n (s ∷ ss) other = by (is_setup s) refl (setups_other n ss other)
  where
    by : (b : Bool) → is_setup s ≡ b → sections_in n (filter is_setup ss) ≡ [] → sections_in n (cond b (s ∷ filter is_setup ss) (filter is_setup ss)) ≡ []
    by true is more =
        let differ : (s.session == n) ≡ false = ap (λ k. k == n) (eqb-true s.session 0 is) ∙ other in
        ap (λ b. cond b (section_entries s) [] ++ sections_in n (filter is_setup ss)) differ ∙ more
    by false is more = more

-- the setup first and then the sessions: of each number there is the same
setup_first : (n : ℕ) (sections : List Section) → sections_in n (filter is_setup sections) ++ sections_in n (filter (λ s. not (is_setup s)) sections) ≡ sections_in n sections
setup_first n [] = refl
setup_first n (s ∷ ss) = by (is_setup s) refl (setup_first n ss)
  where
    setups : List Section
    setups = filter is_setup ss

    others : List Section
    others = filter (λ t. not (is_setup t)) ss

    here : List Entry
    here = cond (s.session == n) (section_entries s) []

    among : (b : Bool) → (s.session == n) ≡ b → is_setup s ≡ false → sections_in n setups ++ sections_in n others ≡ sections_in n ss → sections_in n setups ++ (cond b (section_entries s) [] ++ sections_in n others) ≡ cond b (section_entries s) [] ++ sections_in n ss
    among true same not_setup more =
        let is : s.session ≡ n = eqb-true s.session n same in
        let other : (0 == n) ≡ false = ne_eqb 0 n (λ zero_is. eqb-false s.session 0 not_setup (is ∙ sym zero_is)) in
        let none : sections_in n setups ≡ [] = setups_other n ss other in
        ap (λ es. es ++ (section_entries s ++ sections_in n others)) none
        ∙ ap (λ es. section_entries s ++ (es ++ sections_in n others)) (sym none)
        ∙ ap (λ es. section_entries s ++ es) more
    among false same not_setup more = more

    by : (b : Bool) → is_setup s ≡ b → sections_in n setups ++ sections_in n others ≡ sections_in n ss → sections_in n (cond (is_setup s) (s ∷ setups) setups) ++ sections_in n (cond (not (is_setup s)) (s ∷ others) others) ≡ here ++ sections_in n ss
    by true is more =
        ap (λ c. sections_in n (cond c (s ∷ setups) setups) ++ sections_in n (cond (not c) (s ∷ others) others)) is
        ∙ append_assoc here (sections_in n setups) (sections_in n others)
        ∙ ap (λ es. here ++ es) more
    by false is more =
        ap (λ c. sections_in n (cond c (s ∷ setups) setups) ++ sections_in n (cond (not c) (s ∷ others) others)) is
        ∙ among (s.session == n) refl is more

abbrev section_numbers : List Section → List ℕ
section_numbers ss = map (λ s. s.session) ss

fewer : (n : ℕ) (ss : List Section) → has_number (section_numbers ss) n ≡ false → has_number (numbers (begun ss)) n ≡ false
fewer n [] h = refl
fewer n (s ∷ ss) h = by (not (is_setup s)) (fewer n ss (or_parts (s.session == n) (has_number (section_numbers ss) n) h).1)
  where
    others : List Section
    others = filter (λ t. not (is_setup t)) ss

    parts : ((s.session == n) ≡ false) × (has_number (section_numbers ss) n ≡ false)
    parts = or_parts (s.session == n) (has_number (section_numbers ss) n) h

    by : (b : Bool) → has_number (numbers (begun ss)) n ≡ false → has_number (numbers (map (λ t. (t.session, section_entries t)) (cond b (s ∷ others) others))) n ≡ false
    by true more = ap (λ b. b || has_number (numbers (begun ss)) n) parts.0 ∙ more
    by false more = more

apart_begun : (ss : List Section) → AreApart (section_numbers ss) → AreApart (numbers (begun ss))
apart_begun [] h = tt
apart_begun (s ∷ ss) h = by (not (is_setup s)) (apart_begun ss h.1)
  where
    others : List Section
    others = filter (λ t. not (is_setup t)) ss

    by : (b : Bool) → AreApart (numbers (begun ss)) → AreApart (numbers (map (λ t. (t.session, section_entries t)) (cond b (s ∷ others) others)))
    by true more = (fewer s.session ss h.0, more)
    by false more = more

own_begun : (ss : List Section) → AreOwn (begun ss)
own_begun ss =
    let others : List Section = filter (λ t. not (is_setup t)) ss in
    each_map (λ s. Unit {0}) (λ p. AreOf p.0 p.1) (λ s. (s.session, section_entries s)) (λ s h. section_own s) others (each_of (λ s. Unit {0}) (λ s. tt) others)

order_parts : (script : Script) (n : ℕ) → AreApart (section_numbers script.sections) → of_session n (own_turns script) ≡ sections_in n script.sections
order_parts script n apart =
    let sections : List Section = script.sections in
    let others : List Section = filter (λ s. not (is_setup s)) sections in
    let ours : ℕ × List Entry → List Entry = λ p. cond (p.0 == n) p.1 [] in
    let later : List Entry = turns script.order (begun sections) in
    filter-append (λ e. e.session == n) (setup_entries sections) later
    ∙ ap (λ es. es ++ of_session n later) (setups_in n (filter is_setup sections))
    ∙ ap (λ es. sections_in n (filter is_setup sections) ++ es) (turns_in n script.order (begun sections) (own_begun sections) (apart_begun sections apart) ∙ flat_map-map ours (λ s. (s.session, section_entries s)) others)
    ∙ setup_first n sections

-- a number that isn't there has no parts
none_in : (n : ℕ) (ss : List Section) → has_number (section_numbers ss) n ≡ false → sections_in n ss ≡ []
none_in n [] h = refl
none_in n (s ∷ ss) h =
    let parts = or_parts (s.session == n) (has_number (section_numbers ss) n) h in
    ap (λ b. cond b (section_entries s) [] ++ sections_in n ss) parts.0 ∙ none_in n ss parts.1

others_of : (n : ℕ) (ss : List Section) → has_number (section_numbers ss) n ≡ false → AllByRecursion (λ s. (s.session == n) ≡ false) ss
others_of n [] h = tt
others_of n (s ∷ ss) h =
    let parts = or_parts (s.session == n) (has_number (section_numbers ss) n) h in
    (parts.0, others_of n ss parts.1)

sections_own : (ss : List Section) → AreApart (section_numbers ss) → AllByRecursion (λ s. sections_in s.session ss ≡ section_entries s) ss
sections_own [] h = tt
sections_own (s ∷ ss) h = (first, each_both (λ t. (t.session == s.session) ≡ false) (λ t. sections_in t.session ss ≡ section_entries t) (λ t. sections_in t.session (s ∷ ss) ≡ section_entries t) later ss (others_of s.session ss h.0) (sections_own ss h.1))
  where
    first : sections_in s.session (s ∷ ss) ≡ section_entries s
    first =
        ap (λ b. cond b (section_entries s) [] ++ sections_in s.session ss) (eq-eqb s.session s.session refl)
        ∙ ap (λ es. section_entries s ++ es) (none_in s.session ss h.0)
        ∙ append-nil (section_entries s)

    later : (t : Section) → (t.session == s.session) ≡ false → sections_in t.session ss ≡ section_entries t → sections_in t.session (s ∷ ss) ≡ section_entries t
    later t differ is =
        let other : (s.session == t.session) ≡ false = ne_eqb s.session t.session (λ same. eqb-false t.session s.session differ (sym same)) in
        ap (λ b. cond b (section_entries s) [] ++ sections_in t.session ss) other ∙ is

each_there : (ss : List Section) → AllByRecursion (λ s. has_number (section_numbers ss) s.session ≡ true) ss
each_there [] = tt
each_there (s ∷ ss) = (
  ap (λ b. b || has_number (section_numbers ss) s.session) (eq-eqb s.session s.session refl),
  each_weaker (λ t. has_number (section_numbers ss) t.session ≡ true) (λ t. has_number (section_numbers (s ∷ ss)) t.session ≡ true) (λ t h. or_right (s.session == t.session) (has_number (section_numbers ss) t.session) h) ss (each_there ss),
)

-- ---- the law

-- what holds of a section's number holds of those of its entries
spread : (P : ℕ → Type 0) (s : Section) → P s.session → AllByRecursion (λ e. P e.session) (section_entries s)
spread P s h = each_weaker (λ e. e.session ≡ s.session) (λ e. P e.session) (λ e is. subst P (sym is) h) (section_entries s) (section_own s)

-- what holds of the numbers of all sections holds of those of the entries
setup_holds : (P : ℕ → Type 0) (sections : List Section) → AllByRecursion (λ s. P s.session) (filter is_setup sections) → AllByRecursion (λ e. P e.session) (setup_entries sections)
setup_holds P sections h = each_flat (λ s. P s.session) (λ e. P e.session) section_entries (spread P) (filter is_setup sections) h

turns_hold : (P : ℕ → Type 0) (ns : List ℕ) (sections : List Section) → AllByRecursion (λ s. P s.session) (filter (λ s. not (is_setup s)) sections) → AllByRecursion (λ e. P e.session) (turns ns (begun sections))
turns_hold P ns sections h = each_turn (λ e. P e.session) ns (begun sections) (each_map (λ s. P s.session) (λ p. AllByRecursion (λ e. P e.session) p.1) (λ s. (s.session, section_entries s)) (spread P) (filter (λ s. not (is_setup s)) sections) h)

-- the setup's entries come first
front_first : (xs ys : List Entry) → AllByRecursion (λ e. (e.session == 0) ≡ true) xs → AllByRecursion (λ e. (e.session == 0) ≡ false) ys → of_session 0 (xs ++ ys) ++ not_of_session 0 (xs ++ ys) ≡ xs ++ ys
front_first xs ys front back =
    let none : AllByRecursion (λ e. not (e.session == 0) ≡ false) xs = each_weaker (λ e. (e.session == 0) ≡ true) (λ e. not (e.session == 0) ≡ false) (λ e h. not_from_true (e.session == 0) h) xs front in
    let all : AllByRecursion (λ e. not (e.session == 0) ≡ true) ys = each_weaker (λ e. (e.session == 0) ≡ false) (λ e. not (e.session == 0) ≡ true) (λ e h. not_from_false (e.session == 0) h) ys back in
    let first : of_session 0 (xs ++ ys) ≡ xs = filter-append (λ e. e.session == 0) xs ys ∙ ap (λ es. es ++ of_session 0 ys) (filter_all (λ e. e.session == 0) xs front) ∙ ap (λ es. xs ++ es) (filter_none (λ e. e.session == 0) ys back) ∙ append-nil xs in
    let rest : not_of_session 0 (xs ++ ys) ≡ ys = filter-append (λ e. not (e.session == 0)) xs ys ∙ ap (λ es. es ++ not_of_session 0 ys) (filter_none (λ e. not (e.session == 0)) xs none) ∙ filter_all (λ e. not (e.session == 0)) ys all in
    ap (λ es. es ++ not_of_session 0 (xs ++ ys)) first ∙ ap (λ es. xs ++ es) rest

-- no worker has an entry in the turns of the sessions
turns_alone : (script : Script) → list_all is_own (own_turns script) ≡ true
turns_alone script =
    let alone : Entry → Type 0 = λ e. is_own e ≡ true in
    let setups : List Section = filter is_setup script.sections in
    let others : List Section = filter (λ s. not (is_setup s)) script.sections in
    let front : AllByRecursion alone (setup_entries script.sections) = each_flat (λ s. Unit {0}) alone section_entries (λ s k. section_alone s) setups (each_of (λ s. Unit {0}) (λ s. tt) setups) in
    let left : AllByRecursion (λ p. AllByRecursion alone p.1) (begun script.sections) = each_map (λ s. Unit {0}) (λ p. AllByRecursion alone p.1) (λ s. (s.session, section_entries s)) (λ s k. section_alone s) others (each_of (λ s. Unit {0}) (λ s. tt) others) in
    all_from_each is_own (own_turns script) (each_append alone (setup_entries script.sections) (turns script.order (begun script.sections)) front (each_turn alone script.order (begun script.sections) left))

turns_legal : (script : Script) → accepted_submits script ≡ [] → number_twice (session_numbers script) ≡ None → is_legal script (own_turns script) ≡ true
turns_legal script without once =
    let sections : List Section = script.sections in
    let journal : List Entry = own_turns script in
    let alone : list_all is_own journal ≡ true = turns_alone script in
    let jobs : Bool = jobs_are_legal script journal in
    let front : List Entry = setup_entries sections in
    let back : List Entry = turns script.order (begun sections) in
    let others : Section → Bool = λ s. not (is_setup s) in
    let owned : Section → Bool = λ s. same_entries (own_entries s.session journal) (section_entries s) in
    let known : Entry → Bool = λ e. has_number (session_numbers script) e.session in
    let apart : AreApart (section_numbers sections) = apart_after [] (session_numbers script) once in
    let setups : AllByRecursion (λ e. (e.session == 0) ≡ true) front = setup_holds (λ n. (n == 0) ≡ true) sections (each_passed is_setup sections) in
    let rest : AllByRecursion (λ e. (e.session == 0) ≡ false) back = turns_hold (λ n. (n == 0) ≡ false) script.order sections (each_weaker (λ s. others s ≡ true) (λ s. is_setup s ≡ false) (λ s h. not-true (is_setup s) h) (filter others sections) (each_passed others sections)) in
    let setup_known : AllByRecursion (λ e. known e ≡ true) front = setup_holds (λ n. has_number (session_numbers script) n ≡ true) sections (each_filter (λ s. has_number (session_numbers script) s.session ≡ true) is_setup sections (each_there sections)) in
    let rest_known : AllByRecursion (λ e. known e ≡ true) back = turns_hold (λ n. has_number (session_numbers script) n ≡ true) script.order sections (each_filter (λ s. has_number (session_numbers script) s.session ≡ true) others sections (each_there sections)) in
    let own_at : (s : Section) → sections_in s.session sections ≡ section_entries s → owned s ≡ true = λ s h. entries_same (own_entries s.session journal) (section_entries s) (all_own_entries s.session journal alone ∙ order_parts script s.session apart ∙ h) in
    let own : AllByRecursion (λ s. owned s ≡ true) sections = each_weaker (λ s. sections_in s.session sections ≡ section_entries s) (λ s. owned s ≡ true) own_at sections (sections_own sections apart) in
    let all_known : list_all known journal ≡ true = all_from_each known journal (each_append (λ e. known e ≡ true) front back setup_known rest_known) in
    and_from (same_entries journal (of_session 0 journal ++ not_of_session 0 journal)) (list_all owned sections && (list_all known journal && jobs))
    (entries_same journal (of_session 0 journal ++ not_of_session 0 journal) (sym (front_first front back setups rest)))
    (and_from (list_all owned sections) (list_all known journal && jobs) (all_from_each owned sections own)
    (and_from (list_all known journal) jobs all_known (own_is_legal script journal without alone)))

pub legal : (script : Script) → accepted_submits script ≡ [] → number_twice (session_numbers script) ≡ None → is_legal script (order_of script) ≡ true
legal script without once = ap (is_legal script) (order_without_jobs script without) ∙ turns_legal script without once
