-- Each step of a turn keeps the rule, but for the one that raises the length.
use Rattle.std.proofs.Common.{◌≡◌, ◌≢◌, ℕ, ◌+◌, ◌%◌, ◌<◌, ◌≤◌, List, [], ◌∷◌, length, get_or, set, sym, refl, ap, ◌∙◌, subst, arith, Option, Some}
use mathlib.Core.Logic.{dite}
use mathlib.Core.Option.{none, some, some-injective, some-ne-none}
use mathlib.Core.Option as maybe
use native.Mathlib.Decide.{ℕ_discrete}
use lib.ListN.{get_elem?}
use Rattle.atomic_table.specs.Table.{State, keeps, takes, gives, put_back, rest, Allows}
use Rattle.atomic_table.proofs.Lists.{set_here, one_turn}
use Rattle.scn_lock.specs.declared.view.View.{View}
use Rattle.scn_lock.specs.Journal.{StartsWith, events_of}
use Rattle.scn_lock.specs.Rule.{Holds, Orderly}
use Rattle.scn_lock.specs.Steps.{out_with, Seated, inside, drew, served, took, raised, gave, left, looked}
use Rattle.scn_lock.proofs.Lists.{put, put_here, put_else, at_inside}
use Rattle.scn_lock.proofs.Journals.{starts_refl, starts_shorter, events_before}
use Rattle.scn_lock.proofs.Seats.{set_same, no_step, not_away, held_after, narrow, moves, with_homes, still, not_served, served_stage, others_wait}

module _ {C E : Type 0} (journal : C → List E) (number : E → ℕ) where
  abbrev Rule : State (Option C) (View E) → Type 0
  Rule = Orderly journal number

  -- a ticket is drawn by 1 alone
  pub draws : (slots : ℕ) (id : ℕ) (m : Seated C E) (k : ℕ) → m.0.live ≡ 1 → m.0.stage ≡ 0 → k ≡ 1 → Allows Rule slots id m 0 (λ n. (n + k) % 18446744073709551616) (drew no_step m)
  draws slots id m by live idle one s k deep me fits =
      let b = k.board in let t : ℕ = b.next in let old : b.first ≤ t = omega (arith, k.tickets) in (
        record m.0 { stage = 1; ticket = t },
        keeps,
        tt,
        with_homes journal number _ _ _ _ k.homes_are (moves journal number s k id m.0 _ k.home b.first (t + 1) b.stage (put b.holder t id) 1 t m.0.seen me live
            (ap (λ (ws : List ℕ). set ws 0 ((get_or ws 0 0 + by) % 18446744073709551616)) k.words_are ∙ ap (λ (n : ℕ). n ∷ b.first % 18446744073709551616 ∷ length b.log % 18446744073709551616 ∷ []) (omega (arith, one)))
            (omega (arith, k.tickets))
            (λ u low high. dite (ℕ_discrete u t)
            (λ e. (record m.0 { stage = 1; ticket = t }, subst (λ (j : ℕ). get_elem? (set s.views id (record m.0 { stage = 1; ticket = t })) j ≡ some (record m.0 { stage = 1; ticket = t })) (sym (ap (put b.holder t id) e ∙ put_here b.holder t id)) (set_here s.views id (record m.0 { stage = 1; ticket = t }) (at_inside s.views id m.0 me)), omega arith, sym e))
            (λ ne. subst (λ (j : ℕ). Holds (set s.views id (record m.0 { stage = 1; ticket = t })) j u) (sym (put_else b.holder t id u ne)) (held_after s.views id m.0 (record m.0 { stage = 1; ticket = t }) (b.holder u) u me (k.held u low (omega arith)) (λ h _. absurd (omega arith)))))
            k.away
            (λ e. absurd (omega arith))
            k.at_home
            ((λ _. (old, omega arith, put_here b.holder t id)), (λ _ e. sym (k.free (sym e))), (λ _ _. refl))
            (k.each id m.0 me).seen
            (λ h. absurd (omega arith))
            (λ e. e)
            ((k.each id m.0 me).own_seen live)
            (λ i v other at f. ((λ h. let a = f.ticket h in (a.0, omega (arith, a.1), put_else b.holder t id v.ticket (λ e. absurd (omega (arith, a.1))) ∙ a.2)), f.serving, f.waiting))),
        (t, ap (λ (ws : List ℕ). get_or ws 0 0) k.words_are, refl),
      )

  -- a look at serving: where its own ticket stands there the pass is inside
  pub serves : (slots : ℕ) (id : ℕ) (m : Seated C E) → m.0.live ≡ 1 → m.0.stage ≡ 1 → Allows Rule slots id m 1 (λ n. n) (served no_step m)
  serves slots id m live waits s k deep me fits =
      let b = k.board in let f = k.each id m.0 me in let has : 0 < m.0.stage = omega arith in let at = f.ticket has in
      let r : get_or s.words 1 0 ≡ b.first % 18446744073709551616 = ap (λ (ws : List ℕ). get_or ws 1 0) k.words_are in dite (ℕ_discrete (get_or s.words 1 0) (m.0.ticket % 18446744073709551616))
      (λ hit. let same : b.first ≡ m.0.ticket = one_turn b.first m.0.ticket 18446744073709551616 at.0 (omega (arith, at.1, narrow journal number s k, k.few)) (sym r ∙ hit) in (
        record m.0 { stage = 2 },
        keeps,
        tt,
        with_homes journal number _ _ _ _ k.homes_are (moves journal number s k id m.0 _ k.home b.first b.next 2 b.holder 2 m.0.ticket m.0.seen me live
            (set_same s.words 1 ∙ k.words_are)
            (omega (arith, k.tickets))
            (λ u low high. held_after s.views id m.0 (record m.0 { stage = 2 }) (b.holder u) u me (k.held u low high) (λ _ e. (omega arith, e)))
            (not_away 2 (k.home ≡ none) (λ e. absurd (omega arith)) (λ e. absurd (omega arith)))
            (λ e. absurd (omega (arith, at.1)))
            (λ _ _. k.at_home (λ e. absurd (omega (arith, f.serving has (sym same)))) (λ e. absurd (omega (arith, f.serving has (sym same)))))
            ((λ _. at), (λ _ _. refl), (λ _ ne. absurd (ne (sym same))))
            f.seen
            (λ h. absurd (omega arith))
            (λ e. e)
            (f.own_seen live)
            (λ i v other seat g. (g.ticket, (λ h e. absurd (not_served journal number s k id i m.0 v other me seat has h (sym same ∙ sym e))), g.waiting))),
        ((λ _. refl), (λ ne. absurd (ne hit))),
      ))
      (λ miss. (m.0, keeps, tt, still journal number s 1 id m.0 me k, ((λ e. absurd (miss e)), (λ _. refl))))

  -- a pass that is inside finds the value at home and takes it
  pub takes_out : (slots : ℕ) (id : ℕ) (m : Seated C E) → m.0.live ≡ 1 → m.0.stage ≡ 2 → m.1 ≡ [] → Allows Rule slots id m 0 (λ n. n) (took journal number no_step m)
  takes_out slots id m live inside empty s k deep me fits =
      let b = k.board in let f = k.each id m.0 me in let on = served_stage journal number s k id m.0 me (omega arith) in let h = k.at_home (λ e. absurd (omega (arith, on.1))) (λ e. absurd (omega (arith, on.1))) in
      let x : C = h.0 in let all : journal x ≡ b.log = h.2 in (
        record m.0 { stage = 3; seen = journal x },
        takes 0 (Some x),
        ap (λ (hs : List (maybe.Option (Option C))). get_elem? hs 0) k.homes_are ∙ ap (λ (y : maybe.Option (Option C)). some y) h.1,
        with_homes journal number _ _ _ _ (ap (λ (hs : List (maybe.Option (Option C))). set hs 0 none) k.homes_are) (moves journal number s k id m.0 _ none b.first b.next 3 b.holder 3 m.0.ticket (journal x) me live
            (set_same s.words 0 ∙ k.words_are)
            (omega (arith, k.tickets))
            (λ u low high. held_after s.views id m.0 (record m.0 { stage = 3; seen = journal x }) (b.holder u) u me (k.held u low high) (λ _ e. (omega arith, e)))
            (λ _. refl)
            (λ e. absurd (omega (arith, f.ticket (omega arith))))
            (λ no _. absurd (no refl))
            ((λ _. f.ticket (omega arith)), (λ _ _. refl), (λ _ ne. absurd (ne on.0)))
            (subst (λ (l : List E). StartsWith b.log l) (sym all) (starts_refl b.log))
            (λ _. all)
            (λ _. all)
            (ap (events_of number m.0.number) all ∙ f.own live)
            (others_wait journal number s k id m.0 3 me (omega arith))),
        (x, ap (λ (cs : List (ℕ × Option C)). (record m.0 { stage = 3; seen = journal x }, (0, Some x) ∷ cs)) empty, subst (λ (l : List E). StartsWith l m.0.seen) (sym all) f.seen, ap (events_of number m.0.number) all ∙ f.own live),
      )

  -- a pass that has raised the length gives the value back
  gives_back : (slots : ℕ) (id : ℕ) (m : Seated C E) (x : C) → m.0.live ≡ 1 → m.0.stage ≡ 4 → m.1 ≡ out_with x → journal x ≡ m.0.seen → Allows Rule slots id m 0 (λ n. n) (gave no_step m)
  gives_back slots id m x live raised held same s k deep me fits =
      let b = k.board in let f = k.each id m.0 me in let on = served_stage journal number s k id m.0 me (omega arith) in (
        record m.0 { stage = 5 },
        gives,
        tt,
        with_homes journal number _ _ _ _ (λ j. put_back (k.homes_are j) (held j)) (moves journal number s k id m.0 _ (some (Some x)) b.first b.next 5 b.holder 5 m.0.ticket m.0.seen me live
            (set_same s.words 0 ∙ k.words_are)
            (omega (arith, k.tickets))
            (λ u low high. held_after s.views id m.0 (record m.0 { stage = 5 }) (b.holder u) u me (k.held u low high) (λ _ e. (omega arith, e)))
            (not_away 5 (some (Some x) ≡ none) (λ e. absurd (omega arith)) (λ e. absurd (omega arith)))
            (λ e. absurd (omega (arith, f.ticket (omega arith))))
            (λ _ _. (x, refl, same ∙ f.whole (omega arith)))
            ((λ _. f.ticket (omega arith)), (λ _ _. refl), (λ _ ne. absurd (ne on.0)))
            f.seen
            (λ _. f.whole (omega arith))
            (λ e. e)
            (f.own_seen live)
            (others_wait journal number s k id m.0 5 me (omega arith))),
        ap (λ (cs : List (ℕ × Option C)). (record m.0 { stage = 5 }, rest cs)) held,
      )

  -- the same, of a seat that is known by an equation
  pub gives_at : (slots : ℕ) (id : ℕ) (m : Seated C E) (v : View E) (x : C) → m ≡ (v, out_with x) → v.live ≡ 1 → v.stage ≡ 4 → journal x ≡ v.seen → Allows Rule slots id m 0 (λ n. n) (gave no_step m)
  gives_at slots id m v x e live raised-is same = subst (λ (z : Seated C E). Allows Rule slots id z 0 (λ n. n) (gave no_step z)) (sym e) (gives_back slots id (v, out_with x) x live raised-is refl same)

  -- serving is raised by 1 alone
  pub leaves : (slots : ℕ) (id : ℕ) (m : Seated C E) (k : ℕ) → m.0.live ≡ 1 → m.0.stage ≡ 5 → k ≡ 1 → Allows Rule slots id m 1 (λ n. (n + k) % 18446744073709551616) (left no_step m)
  leaves slots id m by live given one s k deep me fits =
      let b = k.board in let f = k.each id m.0 me in let on = served_stage journal number s k id m.0 me (omega arith) in let at = f.ticket (omega arith) in (
        record m.0 { stage = 0; ticket = 0 },
        keeps,
        tt,
        with_homes journal number _ _ _ _ k.homes_are (moves journal number s k id m.0 _ k.home (b.first + 1) b.next 1 b.holder 0 0 m.0.seen me live
            (ap (λ (ws : List ℕ). set ws 1 ((get_or ws 1 0 + by) % 18446744073709551616)) k.words_are ∙ ap (λ (n : ℕ). b.next % 18446744073709551616 ∷ n ∷ length b.log % 18446744073709551616 ∷ []) (omega (arith, one)))
            (omega (arith, k.tickets))
            (λ u low high. held_after s.views id m.0 (record m.0 { stage = 0; ticket = 0 }) (b.holder u) u me (k.held u (omega arith) high) (λ _ e. absurd (omega (arith, on.0))))
            (not_away 1 (k.home ≡ none) (λ e. absurd (omega arith)) (λ e. absurd (omega arith)))
            (λ _. refl)
            (λ _ _. k.at_home (λ e. absurd (omega (arith, on.1))) (λ e. absurd (omega (arith, on.1))))
            ((λ h. absurd (omega arith)), (λ h. absurd (omega arith)), (λ h. absurd (omega arith)))
            f.seen
            (λ h. absurd (omega arith))
            (λ e. e)
            (f.own_seen live)
            (λ i u other seat g. let apart : (0 < u.stage) → u.ticket ≢ b.first = λ h e. absurd (not_served journal number s k id i m.0 u other me seat (omega arith) h (on.0 ∙ sym e)) in
            ((λ h. let a = g.ticket h in let ne = apart h in (omega (arith, a.0), a.1, a.2)), (λ h _. g.waiting h (apart h)), (λ h _. g.waiting h (apart h))))),
        refl,
      )

  -- a load that only tells what the rule says of the pass
  pub looks : (slots : ℕ) (id : ℕ) (m : Seated C E) → m.0.live ≡ 1 → Allows Rule slots id m 0 (λ n. n) (looked number no_step m)
  looks slots id m live s k deep me fits = let f = k.each id m.0 me in
      (m.0, keeps, tt, still journal number s 0 id m.0 me k, (refl, f.own_seen live, (λ z n h. events_before number n k.board.log m.0.seen f.seen (k.unmade n (subst (λ (c : ℕ). c ≤ n) (f.made live z) h))), starts_shorter k.board.log m.0.seen m.0.told f.seen f.told))
