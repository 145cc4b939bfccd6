-- The laws of the lock follow from its rule.
use Rattle.std.proofs.Common.{◌≡◌, ◌≢◌, ◌⊎◌, ℕ, ◌<◌, ◌≤◌, List, [], ◌∷◌, sym, ap, ◌∙◌, inl, inr, ⊎_elim, arith, Option, Some}
use mathlib.Core.Logic.{dite}
use mathlib.Core.Option.{none, some, some-injective, some-ne-none}
use mathlib.Core.Option as maybe
use native.Mathlib.Decide.{ℕ_discrete}
use lib.ListN.{get_elem?}
use Rattle.atomic_table.specs.Table.{State}
use Rattle.scn_lock.specs.declared.view.View.{View}
use Rattle.scn_lock.specs.Laws.{Laws, IsHolding}
use Rattle.scn_lock.specs.Rule.{Orderly}
use Rattle.scn_lock.proofs.Lists.{value_or}
use Rattle.scn_lock.proofs.Seats.{narrow, served_stage}

module _ {C E : Type 0} (journal : C → List E) (number : E → ℕ) where
  abbrev Rule : State (Option C) (View E) → Type 0
  Rule = Orderly journal number

  from_three : (v : View E) → IsHolding v → 3 ≤ v.stage
  from_three v h = ⊎_elim (λ e. omega (arith, e)) (λ e. omega (arith, e)) h

  -- two passes with tickets that are equal are one
  same_seat : (s : State (Option C) (View E)) (k : Rule s) (i j : ℕ) (u v : View E) → get_elem? s.views i ≡ some u → get_elem? s.views j ≡ some v → 0 < u.stage → 0 < v.stage → u.ticket ≡ v.ticket → i ≡ j
  same_seat s k i j u v at at' has has' e = sym ((k.each i u at).ticket has).2 ∙ (ap k.board.holder e ∙ ((k.each j v at').ticket has').2)

  away : (s : State (Option C) (View E)) (k : Rule s) (i : ℕ) (v : View E) → get_elem? s.views i ≡ some v → IsHolding v → s.homes ≡ none ∷ []
  away s k i v at h = let on = served_stage journal number s k i v at (omega (arith, from_three v h)) in k.homes_are ∙ ap (λ (y : maybe.Option (Option C)). y ∷ []) (k.away (⊎_elim (λ e. inl (sym on.1 ∙ e)) (λ e. inr (sym on.1 ∙ e)) h))

  -- what the one slot has
  home_is : (s : State (Option C) (View E)) (k : Rule s) (y : maybe.Option (Option C)) → s.homes ≡ y ∷ [] → k.home ≡ y
  home_is s k y e = some-injective k.home y (ap (λ (hs : List (maybe.Option (Option C))). get_elem? hs 0) (sym k.homes_are ∙ e))

  held_away : (s : State (Option C) (View E)) (k : Rule s) → s.homes ≡ none ∷ [] → (k.board.stage ≡ 3) ⊎ (k.board.stage ≡ 4)
  held_away s k e = dite (ℕ_discrete k.board.stage 3) (λ h. inl h) (λ no. dite (ℕ_discrete k.board.stage 4) (λ h. inr h) (λ no'. let h = k.at_home no no' in absurd (some-ne-none (Some h.0) (sym h.1 ∙ home_is s k none e))))

  holder : (s : State (Option C) (View E)) (k : Rule s) → s.homes ≡ none ∷ [] → (i : ℕ) × (v : View E) × (get_elem? s.views i ≡ some v) × IsHolding v
  holder s k e = let b = k.board in let out = held_away s k e in
      let busy : b.first ≢ b.next = λ same. ⊎_elim (λ h. absurd (omega (arith, h, k.free same))) (λ h. absurd (omega (arith, h, k.free same))) out in
      let it = k.held b.first (omega arith) (omega (arith, k.tickets, busy)) in let v : View E = it.0 in
      let stage : v.stage ≡ b.stage = (k.each (b.holder b.first) v it.1).serving it.2 it.3 in (b.holder b.first, v, it.1, ⊎_elim (λ h. inl (stage ∙ h)) (λ h. inr (stage ∙ h)) out)

  -- while the value is at home the journal is its own
  at_home : (s : State (Option C) (View E)) (k : Rule s) (x : C) → s.homes ≡ some (Some x) ∷ [] → journal x ≡ k.board.log
  at_home s k x e = let here = home_is s k (some (Some x)) e in
      let gone : (A : Type 0) → (k.board.stage ≡ 3) ⊎ (k.board.stage ≡ 4) → A = λ A h. absurd (some-ne-none (Some x) (sym here ∙ k.away h)) in
      let h = k.at_home (λ is. gone _ (inl is)) (λ is. gone _ (inr is)) in
      ap (λ (y : C). journal y) (ap (value_or x) (some-injective (Some x) (Some h.0) (sym here ∙ h.1))) ∙ h.2

  pub lawful : (s : State (Option C) (View E)) → Rule s → Laws journal number s
  lawful s k = let b = k.board in record {
    serving = b.first;
    next = b.next;
    log = b.log;
    made = b.made;
    words_are = k.words_are;
    tickets_differ = same_seat s k;
    ticket_is_out = λ i v at has. let t = (k.each i v at).ticket has in (t.0, t.1);
    no_ticket_is_lost = λ t low high. let h = k.held t low high in (b.holder t, h.0, h.1, h.2, h.3);
    few_tickets = narrow journal number s k;
    inside_is_served = λ i v at in-it. (served_stage journal number s k i v at in-it).0;
    one_inside = λ i j u v at at' in-it in-it'. same_seat s k i j u v at at' (omega (arith, in-it)) (omega (arith, in-it')) ((served_stage journal number s k i u at in-it).0 ∙ sym (served_stage journal number s k j v at' in-it').0);
    away_while_held = away s k;
    held_while_away = holder s k;
    seen_begins = λ i v at. (k.each i v at).seen;
    seen_whole = k.best;
    home_journal = at_home s k;
    holder_journal = λ i v at h. (k.each i v at).whole (from_three v h);
    own_events = λ i v at live. (k.each i v at).own live;
    kept_events = λ i v at live first n own kept. ((k.each i v at).joined live first kept.0 (n, own) kept.1).own;
    unborn_events = k.unmade;
    numbers_differ = λ i j u v at at' live live' e. omega (arith, ((k.each i u at).number_is live).1, ((k.each j v at').number_is live').1, ap b.seat_of e);
    number_was_made = λ i v at live. ((k.each i v at).number_is live).0;
    kept_is_gone = λ i j u v at at' live live' first n own kept e. absurd (omega (arith, ((k.each i u at).joined live first kept.0 (n, own) kept.1).gone, ((k.each j v at').number_is live').1, ap b.seat_of e));
  }
