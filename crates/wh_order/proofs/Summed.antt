-- Sums over the replies of a script are the sums over those of its sections.
use Rattle.std.proofs.Common.{◌≡◌, ◌∙◌, sym, ap, subst, refl, arith, ℕ, ◌+◌, ◌==◌, ◌||◌, Bool, true, false, true≢false, cond, List, [], ◌∷◌, map, None}
use Rattle.std.specs.List.{AllByRecursion}
use Rattle.std.specs.Prelude.{count_by, sum_by}
use Rattle.std.proofs.lemmas.Bool.{eq-eqb, eqb-false, eqb-true, ne_eqb, or_parts}
use Rattle.std.proofs.lemmas.List.Sums.{sum_by-cons}
use Rattle.wh_base.specs.Lists.{has_number}
use Rattle.wh_base.specs.declared.statements.Entry.{Entry}
use Rattle.wh_base.specs.declared.statements.Script.{Script}
use Rattle.wh_base.specs.declared.statements.Section.{Section}
use Rattle.def_journal.specs.Journal.{Told, is_legal, replies_of, session_numbers, trace_of}
use Rattle.wh_order.specs.Laws.{number_twice, session_told, told_in}
use Rattle.wh_order.proofs.Journals.{each_known}
use Rattle.wh_order.proofs.Ordered.{AreApart, apart_after}
use Rattle.wh_order.proofs.Told.{answers_hold, journal_answered}

-- each reply is one of a session that the script has
told_known : (script : Script) (journal : List Entry) → is_legal script journal ≡ true → AllByRecursion (λ t. has_number (session_numbers script) t.id.session ≡ true) (replies_of (trace_of script journal))
told_known script journal legal = answers_hold (λ i. has_number (session_numbers script) i.session ≡ true) journal (replies_of (trace_of script journal)) (journal_answered script journal) (each_known script journal legal)

module _ (f : Told → ℕ) where
  -- what a reply adds to the sum of the session n
  abbrev share : Told → ℕ → ℕ
  share t n = cond (t.id.session == n) (f t) 0

  nothing_of : (t : Told) (n : ℕ) → (n == t.id.session) ≡ false → share t n ≡ 0
  nothing_of t n differ =
      let other : (t.id.session == n) ≡ false = ne_eqb t.id.session n (λ same. eqb-false n t.id.session differ (sym same)) in
      ap (λ b. cond b (f t) 0) other

  none_shared : (t : Told) (ns : List ℕ) → has_number ns t.id.session ≡ false → sum_by (share t) ns ≡ 0
  none_shared t [] h = refl
  none_shared t (n ∷ ns) h =
      let parts = or_parts (n == t.id.session) (has_number ns t.id.session) h in
      omega (arith, sum_by-cons (share t) n ns, nothing_of t n parts.0, none_shared t ns parts.1)

  -- among numbers that differ it adds itself once
  one_shared : (t : Told) (ns : List ℕ) → AreApart ns → has_number ns t.id.session ≡ true → sum_by (share t) ns ≡ f t
  one_shared t [] apart there = absurd (true≢false (sym there))
  one_shared t (n ∷ ns) apart there = by (n == t.id.session) refl (one_shared t ns apart.1)
    where
      by : (b : Bool) → (n == t.id.session) ≡ b → (has_number ns t.id.session ≡ true → sum_by (share t) ns ≡ f t) → sum_by (share t) (n ∷ ns) ≡ f t
      by true is rest =
          let same : n ≡ t.id.session = eqb-true n t.id.session is in
          let absent : has_number ns t.id.session ≡ false = subst (λ m. has_number ns m ≡ false) same apart.0 in
          let first : share t n ≡ f t = ap (λ b. cond b (f t) 0) (eq-eqb t.id.session n (sym same)) in
          omega (arith, sum_by-cons (share t) n ns, first, none_shared t ns absent)
      by false is rest =
          let more : has_number ns t.id.session ≡ true = sym (ap (λ b. b || has_number ns t.id.session) is) ∙ there in
          omega (arith, sum_by-cons (share t) n ns, nothing_of t n is, rest more)

  -- the sum over the replies of the session n
  abbrev sum_in : List Told → ℕ → ℕ
  sum_in ts n = sum_by f (told_in n ts)

  one_more : (t : Told) (ts : List Told) (n : ℕ) → sum_in (t ∷ ts) n ≡ share t n + sum_in ts n
  one_more t ts n = kept (t.id.session == n)
    where
      kept : (b : Bool) → sum_by f (cond b (t ∷ told_in n ts) (told_in n ts)) ≡ cond b (f t) 0 + sum_by f (told_in n ts)
      kept true = sum_by-cons f t (told_in n ts)
      kept false = omega arith

  parted : (t : Told) (ts : List Told) (ns : List ℕ) → sum_by (sum_in (t ∷ ts)) ns ≡ sum_by (share t) ns + sum_by (sum_in ts) ns
  parted t ts [] = refl
  parted t ts (n ∷ ns) = omega (arith, sum_by-cons (sum_in (t ∷ ts)) n ns, sum_by-cons (share t) n ns, sum_by-cons (sum_in ts) n ns, one_more t ts n, parted t ts ns)

  none_in : (ns : List ℕ) → sum_by (sum_in []) ns ≡ 0
  none_in [] = refl
  none_in (n ∷ ns) = omega (arith, sum_by-cons (sum_in []) n ns, none_in ns)

  by_numbers : (ns : List ℕ) (ts : List Told) → AreApart ns → AllByRecursion (λ t. has_number ns t.id.session ≡ true) ts → sum_by f ts ≡ sum_by (sum_in ts) ns
  by_numbers ns [] apart known = sym (none_in ns)
  by_numbers ns (t ∷ ts) apart known = omega (arith, sum_by-cons f t ts, parted t ts ns, one_shared t ns apart known.0, by_numbers ns ts apart known.1)

  of_sections : (g : ℕ → ℕ) (ss : List Section) → sum_by g (map (λ s. s.session) ss) ≡ sum_by (λ s. g s.session) ss
  of_sections g [] = refl
  of_sections g (s ∷ ss) = omega (arith, sum_by-cons g s.session (map (λ t. t.session) ss), sum_by-cons (λ t. g t.session) s ss, of_sections g ss)

  pub sum_by_sections : (script : Script) (journal : List Entry) → is_legal script journal ≡ true → number_twice (session_numbers script) ≡ None → sum_by f (replies_of (trace_of script journal)) ≡ sum_by (λ s. sum_by f (session_told script journal s)) script.sections
  sum_by_sections script journal legal once =
      let told : List Told = replies_of (trace_of script journal) in
      by_numbers (session_numbers script) told (apart_after [] (session_numbers script) once) (told_known script journal legal)
      ∙ of_sections (sum_in told) script.sections

-- how many replies pass a test
pub count_by_sections : (p : Told → Bool) (script : Script) (journal : List Entry) → is_legal script journal ≡ true → number_twice (session_numbers script) ≡ None → count_by p (replies_of (trace_of script journal)) ≡ sum_by (λ s. count_by p (session_told script journal s)) script.sections
count_by_sections p script journal legal once = sum_by_sections (λ t. cond (p t) 1 0) script journal legal once
