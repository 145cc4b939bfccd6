-- The step at which an event enters the journal keeps the rule.
use Rattle.std.proofs.Common.{◌≡◌, ◌≢◌, ℕ, ◌+◌, ◌%◌, List, [], ◌∷◌, ◌++◌, length, get_or, set, drop, sym, refl, ap, ◌∙◌, subst, inl, arith, Option, Some, length-append}
use Rattle.atomic_table.specs.Table.{State, keeps, Allows}
use Rattle.atomic_table.proofs.Lists.{set_here}
use Rattle.scn_lock.specs.declared.view.View.{View}
use Rattle.scn_lock.specs.Journal.{StartsWith, events_of, Adds}
use Rattle.scn_lock.specs.Rule.{Board, Kept, has_ticket, is_live, Orderly}
use Rattle.scn_lock.specs.Steps.{out_with, Seated, holding, raised_with, raised}
use Rattle.scn_lock.proofs.Lists.{value_or, at_inside, total-set}
use Rattle.scn_lock.proofs.Journals.{drop_past, starts_refl, starts_trans, events_append, same_events, added}
use Rattle.scn_lock.proofs.Seats.{no_step, held_after, all_fit, not_served, served_stage, others_wait}

module _ {C E : Type 0} (journal : C → List E) (number : E → ℕ) where
  abbrev Rule : State (Option C) (View E) → Type 0
  Rule = Orderly journal number

  -- one slot that is out has one value
  same_held : (x y : C) → out_with x ≡ out_with y → x ≡ y
  same_held x y e = ap (λ (l : List (ℕ × Option C)). value_or x (get_or l 0 (0, Some x)).1) e

  -- the length rises by what the value held has beyond what was seen
  raises : (slots : ℕ) (id : ℕ) (m : Seated C E) (x : C) (n : ℕ) (more : List E) → m.0.live ≡ 1 → m.0.stage ≡ 3 → m.1 ≡ out_with x → journal x ≡ m.0.seen ++ more → n ≡ length more
      → events_of number m.0.number more ≡ more → ((j : ℕ) → j ≢ m.0.number → events_of number j more ≡ [])
      → Allows Rule slots id m 2 (λ w. (w + n) % 18446744073709551616) (raised journal number no_step m)
  raises slots id m x n more live holding held grows count own_more other_more s k deep me fits =
      let b = k.board in let f = k.each id m.0 me in let on = served_stage journal number s k id m.0 me (omega arith) in let all : m.0.seen ≡ b.log = f.whole (omega arith) in let here = f.number_is live in
      let own : List E = m.0.own ++ drop (length m.0.seen) (journal x) in let w : View E = record m.0 { stage = 4; seen = journal x; own = own } in
      let longer : journal x ≡ b.log ++ more = grows ∙ ap (λ (l : List E). l ++ more) all in let begins : StartsWith (journal x) b.log = (more, longer) in
      let own_is : own ≡ m.0.own ++ more = ap (λ (l : List E). m.0.own ++ l) (ap (drop (length m.0.seen)) grows ∙ drop_past m.0.seen more) in
      let b' : Board E = record b { log = journal x; stage = 4 } in
      let own_all : m.0.live ≡ 1 → events_of number m.0.number (journal x) ≡ own = λ l. ap (events_of number m.0.number) longer ∙ (events_append number m.0.number b.log more ∙ ((λ i. f.own l i ++ own_more i) ∙ sym own_is)) in
      let kept : (p : ℕ × List E) → Kept number b p → Kept number b' p = λ p q. record {
        made = q.made;
        gone = q.gone;
        own = same_events number p.0 b.log more (journal x) longer (other_more p.0 (λ e. absurd (omega (arith, q.gone, ap b.seat_of e, here.1)))) ∙ q.own;
      } in
      let new : Seated C E = (w, m.1) in (
        w,
        keeps,
        tt,
        record {
          board = b';
          home = k.home;
          words_are = ap (λ (ws : List ℕ). set ws 2 ((get_or ws 2 0 + n) % 18446744073709551616)) k.words_are ∙ ap (λ (q : ℕ). b.next % 18446744073709551616 ∷ b.first % 18446744073709551616 ∷ q ∷ [])
              (omega (arith, count, ap (λ (l : List E). length l) longer, length-append b.log more));
          homes_are = k.homes_are;
          tickets = omega (arith, total-set has_ticket s.views id m.0 w me, k.tickets);
          passes = omega (arith, total-set is_live s.views id m.0 w me, k.passes);
          few = k.few;
          free = λ e. absurd (omega (arith, f.ticket (omega arith)));
          held = λ u low high. held_after s.views id m.0 w (b.holder u) u me (k.held u low high) (λ _ e. (omega arith, e));
          away = λ _. k.away (inl (sym on.1 ∙ holding));
          at_home = λ _ no. absurd (no refl);
          each = all_fit journal number s.views id w b b' record {
            alive = f.alive;
            spent = λ z. absurd (omega arith);
            ticket = λ _. f.ticket (omega arith);
            serving = λ _ _. refl;
            waiting = λ _ ne. absurd (ne on.0);
            seen = starts_refl (journal x);
            told = starts_trans (journal x) b.log m.0.told begins f.told;
            whole = λ _. refl;
            number_is = f.number_is;
            own = own_all;
            own_seen = own_all;
            made = f.made;
            joined = λ l z j p e. kept p (f.joined l z j p e);
          } (λ i u other at g. let t = others_wait journal number s k id m.0 4 me (omega arith) i u other at g in record {
            alive = g.alive;
            spent = g.spent;
            ticket = t.0;
            serving = t.1;
            waiting = t.2;
            seen = starts_trans (journal x) b.log u.seen begins g.seen;
            told = starts_trans (journal x) b.log u.told begins g.told;
            whole = λ h. absurd (not_served journal number s k id i m.0 u other me at (omega arith) (omega arith) (on.0 ∙ sym (served_stage journal number s k i u at (omega arith)).0));
            number_is = g.number_is;
            own = λ l. same_events number u.number b.log more (journal x) longer (other_more u.number (λ e. absurd (other (omega (arith, (g.number_is l).1, ap b.seat_of e, here.1))))) ∙ g.own l;
            own_seen = g.own_seen;
            made = g.made;
            joined = λ l z j p e. kept p (g.joined l z j p e);
          }) k.each;
          unmade = λ j h. same_events number j b.log more (journal x) longer (other_more j (λ e. absurd (omega (arith, here.0)))) ∙ k.unmade j h;
          best = (id, w, set_here s.views id w (at_inside s.views id m.0 me), live, refl);
        },
        (λ y e. let is = same_held x y (sym held ∙ e) in (ap (λ (z : C). (raised_with journal m.0 z, m.1)) is, subst (λ (z : C). events_of number m.0.number (journal z) ≡ m.0.own ++ drop (length m.0.seen) (journal z)) is (own_all live))),
      )

  -- the same, where one event at most was added
  pub raises_at : (slots : ℕ) (id : ℕ) (m : Seated C E) (v : View E) (x : C) (n : ℕ) → m ≡ (v, out_with x) → v.live ≡ 1 → v.stage ≡ 3 → Adds number v.number v.seen (journal x) → n + length v.seen ≡ length (journal x)
      → Allows Rule slots id m 2 (λ w. (w + n) % 18446744073709551616) (raised journal number no_step m)
  raises_at slots id m v x n e live holds adds count = let t = added number v.number v.seen (journal x) adds in
      subst (λ (z : Seated C E). Allows Rule slots id z 2 (λ w. (w + n) % 18446744073709551616) (raised journal number no_step z)) (sym e)
      (raises slots id (v, out_with x) x n t.0 live holds refl t.1 (omega (arith, count, ap (λ (l : List E). length l) t.1, length-append v.seen t.0)) t.2 t.3)
