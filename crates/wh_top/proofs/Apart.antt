-- Sections whose numbers differ.
use Rattle.std.proofs.Common.{Bool, List, None, Some, [], ap, arith, cond, false, map, refl, suc, sym, true, ℕ, ◌+◌, ◌<◌, ◌==◌, ◌||◌, ◌∙◌, ◌∷◌, ◌≡◌, ◌≤◌}
use Rattle.std.proofs.lemmas.Option.{none-some}
use Rattle.std.specs.List.{AllByRecursion, AllPairs, list_any}
use Rattle.std.proofs.lemmas.Bool.{ne_eqb, or_parts}
use Rattle.wh_base.specs.Lists.{repeated_after}
use Rattle.wh_base.specs.declared.statements.Script.{Script}
use Rattle.wh_base.specs.declared.statements.Section.{Section}
use Rattle.def_journal.specs.Journal.{session_numbers}
use Rattle.wh_order.specs.Laws.{number_twice}
use Rattle.wh_order.proofs.Listed.{each_weaker}

-- no section has the number n
abbrev pub AreOthers : ℕ → List Section → Type 0
AreOthers n ss = AllByRecursion (λ s. (s.session == n) ≡ false) ss

-- each section has a number of its own
abbrev pub AreApart : List Section → Type 0
AreApart [] = Unit {0}
AreApart (s ∷ ss) = AreOthers s.session ss × AreApart ss

abbrev same_number : ℕ → ℕ → Bool
same_number m n = m == n

abbrev numbers : List Section → List ℕ
numbers ss = map (λ s. s.session) ss

-- ---- from 'no number stands twice'

-- those that come are not among those that were seen
unseen : (seen : List ℕ) (ss : List Section) → repeated_after same_number seen (numbers ss) ≡ None → AllByRecursion (λ s. list_any (same_number s.session) seen ≡ false) ss
unseen seen [] h = tt
unseen seen (s ∷ ss) h = by (list_any (same_number s.session) seen) refl h (unseen (s.session ∷ seen) ss)
  where
    weaker : (t : Section) → list_any (same_number t.session) (s.session ∷ seen) ≡ false → list_any (same_number t.session) seen ≡ false
    weaker t none = (or_parts (t.session == s.session) (list_any (same_number t.session) seen) none).1

    by : (b : Bool) → list_any (same_number s.session) seen ≡ b → cond b (Some s.session) (repeated_after same_number (s.session ∷ seen) (numbers ss)) ≡ None → (repeated_after same_number (s.session ∷ seen) (numbers ss) ≡ None → AllByRecursion (λ t. list_any (same_number t.session) (s.session ∷ seen) ≡ false) ss) → AllByRecursion (λ t. list_any (same_number t.session) seen ≡ false) (s ∷ ss)
    by true is twice more = absurd (none-some s.session (sym twice))
    by false is rest more = (is, each_weaker (λ t. list_any (same_number t.session) (s.session ∷ seen) ≡ false) (λ t. list_any (same_number t.session) seen ≡ false) weaker ss (more rest))

apart_after : (seen : List ℕ) (ss : List Section) → repeated_after same_number seen (numbers ss) ≡ None → AreApart ss
apart_after seen [] h = tt
apart_after seen (s ∷ ss) h = by (list_any (same_number s.session) seen) h (apart_after (s.session ∷ seen) ss)
  where
    other : (t : Section) → list_any (same_number t.session) (s.session ∷ seen) ≡ false → (t.session == s.session) ≡ false
    other t none = (or_parts (t.session == s.session) (list_any (same_number t.session) seen) none).0

    by : (b : Bool) → cond b (Some s.session) (repeated_after same_number (s.session ∷ seen) (numbers ss)) ≡ None → (repeated_after same_number (s.session ∷ seen) (numbers ss) ≡ None → AreApart ss) → AreApart (s ∷ ss)
    by true twice more = absurd (none-some s.session (sym twice))
    by false rest more = (each_weaker (λ t. list_any (same_number t.session) (s.session ∷ seen) ≡ false) (λ t. (t.session == s.session) ≡ false) other ss (unseen (s.session ∷ seen) ss rest), more rest)

pub apart_of : (script : Script) → number_twice (session_numbers script) ≡ None → AreApart script.sections
apart_of script once = apart_after [] script.sections once

-- ---- from 'the numbers ascend'

-- numbers that ascend, each at least so great
abbrev Climb : ℕ → List Section → Type 0
Climb low [] = Unit {0}
Climb low (s ∷ ss) = (low ≤ s.session) × Climb (s.session + 1) ss

climb_from : (low : ℕ) (s : Section) (ss : List Section) → low ≤ s.session → AllPairs (λ t u. t.session < u.session) (s ∷ ss) → Climb low (s ∷ ss)
climb_from low s [] h pairs = (h, tt)
climb_from low s (t ∷ ts) h pairs =
    let next : s.session < t.session = pairs 0 1 s (omega arith) (omega arith) in
    (h, climb_from (s.session + 1) t ts (omega (arith, next)) (λ i j d before within. pairs (suc i) (suc j) d (omega (arith, before)) (omega (arith, within))))

-- a number that is above all that were seen
not_seen : (n : ℕ) (seen : List ℕ) → AllByRecursion (λ m. m < n) seen → list_any (same_number n) seen ≡ false
not_seen n [] below = refl
not_seen n (m ∷ seen) below =
    let other : (n == m) ≡ false = ne_eqb n m (λ same. omega (arith, below.0, same)) in
    ap (λ b. b || list_any (same_number n) seen) other ∙ not_seen n seen below.1

none_twice : (low : ℕ) (seen : List ℕ) (ss : List Section) → AllByRecursion (λ m. m < low) seen → Climb low ss → repeated_after same_number seen (numbers ss) ≡ None
none_twice low seen [] below climb = refl
none_twice low seen (s ∷ ss) below climb =
    let under : AllByRecursion (λ m. m < s.session) seen = each_weaker (λ m. m < low) (λ m. m < s.session) (λ m h. omega (arith, h, climb.0)) seen below in
    let next : AllByRecursion (λ m. m < s.session + 1) (s.session ∷ seen) = (omega arith, each_weaker (λ m. m < low) (λ m. m < s.session + 1) (λ m h. omega (arith, h, climb.0)) seen below) in
    ap (λ b. cond b (Some s.session) (repeated_after same_number (s.session ∷ seen) (numbers ss))) (not_seen s.session seen under)
    ∙ none_twice (s.session + 1) (s.session ∷ seen) ss next climb.1

pub once_from_ascent : (script : Script) → AllPairs (λ s t. s.session < t.session) script.sections → number_twice (session_numbers script) ≡ None
once_from_ascent script pairs = none_twice 0 [] script.sections tt (climb script.sections pairs)
  where
    climb : (ss : List Section) → AllPairs (λ s t. s.session < t.session) ss → Climb 0 ss
    climb [] h = tt
    climb (s ∷ ss) h = climb_from 0 s ss (omega arith) h
