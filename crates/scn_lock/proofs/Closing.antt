-- What the rule says once one pass is left.
use Rattle.std.proofs.Common.{◌≡◌, ℕ, ◌≤◌, List, [], sym, ap, ◌∙◌, subst, arith, Option, Some}
use mathlib.Core.Logic.{dite}
use mathlib.Core.Option.{none, some, some-injective, some-ne-none}
use mathlib.Core.Option as maybe
use native.Mathlib.Decide.{ℕ_discrete}
use lib.ListN.{get_elem?}
use Rattle.atomic_table.specs.Table.{State, Final, Seen}
use Rattle.scn_lock.specs.declared.view.View.{View}
use Rattle.scn_lock.specs.Journal.{events_of}
use Rattle.scn_lock.specs.Rule.{has_ticket, Orderly}
use Rattle.scn_lock.specs.Words.{IsAlone, HasKept}
use Rattle.scn_lock.proofs.Lists.{value_or, total_none}

module _ {C E : Type 0} (journal : C → List E) (number : E → ℕ) where
  abbrev Rule : State (Option C) (View E) → Type 0
  Rule = Orderly journal number

  -- where all other passes were joined, no other view is live
  -- what a closed lock says of its value, by what pass 0 knew
  abbrev pub Ended : View E → C → Type 0
  Ended v x =
      (journal x ≡ v.seen) × (events_of number 0 (journal x) ≡ v.own) × ((n : ℕ) (own : List E) → HasKept v n own → events_of number n (journal x) ≡ own)
      × ((n : ℕ) → v.made ≤ n → events_of number n (journal x) ≡ [])

  -- where all other passes were taken in, no other view is live
  only : (s : State (Option C) (View E)) (k : Rule s) (id : ℕ) (v : View E) → get_elem? s.views id ≡ some v → v.live ≡ 1 → v.number ≡ 0 → IsAlone v → (i : ℕ) (u : View E) → get_elem? s.views i ≡ some u → u.live ≡ 1 → u ≡ v
  only s k id v me live first alone i u here l =
      let a = (k.each i u here).number_is l in let f = k.each id v me in let c = f.number_is live in dite (ℕ_discrete u.number 0)
      (λ e. let is : i ≡ id = omega (arith, a.1, c.1, ap k.board.seat_of (e ∙ sym first)) in some-injective u v (subst (λ (j : ℕ). some u ≡ get_elem? s.views j) is (sym here) ∙ me))
      (λ ne. let t = alone u.number (omega arith) (omega (arith, a.0, f.made live first)) in absurd (omega (arith, a.1, (f.joined live first t.1.0 (u.number, t.0) t.1.1).gone)))

  -- then no ticket is out
  none_out : (s : State (Option C) (View E)) (k : Rule s) (id : ℕ) (v : View E) → get_elem? s.views id ≡ some v → v.live ≡ 1 → v.number ≡ 0 → v.stage ≡ 0 → IsAlone v → k.board.stage ≡ 1
  none_out s k id v me live first idle alone =
      let nothing = total_none has_ticket s.views (λ i u here. let g = k.each i u here in dite (ℕ_discrete u.live 0)
      (λ e. omega (arith, g.spent e))
      (λ ne. omega (arith, idle, ap (λ (z : View E). z.stage) (only s k id v me live first alone i u here (omega (arith, g.alive)))))) in k.free (omega (arith, k.tickets, nothing))

  -- and the one pass has seen the whole journal
  all_seen : (s : State (Option C) (View E)) (k : Rule s) (id : ℕ) (v : View E) → get_elem? s.views id ≡ some v → v.live ≡ 1 → v.number ≡ 0 → IsAlone v → v.seen ≡ k.board.log
  all_seen s k id v me live first alone = let best = k.best in let z : View E = best.1 in ap (λ (u : View E). u.seen) (sym (only s k id v me live first alone best.0 z best.2 best.3)) ∙ best.4

  pub closes : (id : ℕ) (v : View E) (ws : List ℕ) (xs : List (Option C)) (y : Option C) → v.live ≡ 1 → v.number ≡ 0 → v.stage ≡ 0 → IsAlone v → Final (Seen Rule id v) ws xs → get_elem? xs 0 ≡ some y → (x : C) × (y ≡ Some x) × Ended v x
  closes id v ws xs y live first idle alone end at =
      let s : State (Option C) (View E) = end.0 in let k = end.1.0 in let me = end.1.1 in let b = k.board in let f = k.each id v me in
      let rests = none_out s k id v me live first idle alone in let all = all_seen s k id v me live first alone in
      let h = k.at_home (λ e. absurd (omega (arith, rests))) (λ e. absurd (omega (arith, rests))) in let x : C = h.0 in (
        x,
        some-injective y (Some x) (sym at ∙ end.4 0 (Some x) (ap (λ (hs : List (maybe.Option (Option C))). get_elem? hs 0) k.homes_are ∙ ap (λ (o : maybe.Option (Option C)). some o) h.1)),
        (
          h.2 ∙ sym all,
          ap (events_of number 0) h.2 ∙ (ap (λ (n : ℕ). events_of number n b.log) (sym first) ∙ f.own live),
          (λ n own kept. ap (events_of number n) h.2 ∙ (f.joined live first kept.0 (n, own) kept.1).own),
          (λ n g. ap (events_of number n) h.2 ∙ k.unmade n (subst (λ (c : ℕ). c ≤ n) (f.made live first) g)),
        ),
      )

  -- the same, of the value that came out of the slot
  pub ends : (v : View E) (y : Option C) (z : C) → (x : C) × (y ≡ Some x) × Ended v x → y ≡ Some z → Ended v z
  ends v y z t e = subst (Ended v) (ap (value_or t.0) (sym t.1 ∙ e)) t.2
