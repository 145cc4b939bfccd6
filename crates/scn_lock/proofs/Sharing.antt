-- A new lock meets the rule, and making a pass and taking one in keep it.
use Rattle.std.proofs.Common.{◌≡◌, ◌≢◌, ℕ, zero, suc, ◌+◌, ◌<◌, ◌⊎◌, List, [], ◌∷◌, length, set, sym, refl, ap, ◌∙◌, subst, inl, inr, ⊎_elim, arith, length-set, Option, Some}
use mathlib.Core.Logic.{dite}
use mathlib.Core.Option.{some, some-injective, some-ne-none}
use native.Mathlib.Decide.{ℕ_discrete}
use lib.ListN.{get_elem?}
use Rattle.atomic_table.specs.Table.{State, Splits, Joins, opening}
use Rattle.atomic_table.proofs.Lists.{at_set, set_here, set_else, at_longer}
use Rattle.scn_lock.specs.declared.view.View.{View}
use Rattle.scn_lock.specs.Journal.{StartsWith, events_of}
use Rattle.scn_lock.specs.Rule.{Board, Kept, Fits, Knows, has_ticket, is_live, Orderly}
use Rattle.scn_lock.specs.Steps.{opener, spent_view, made_one, one_made, taken_in}
use Rattle.scn_lock.proofs.Lists.{put, put_here, put_else, at_end, at_inside, total-append, total-set}
use Rattle.scn_lock.proofs.Journals.{starts_shorter, events_before, events_between, of_longer, longer_whole}
use Rattle.scn_lock.proofs.Seats.{not_away, best_after, held_after, all_fit}

module _ {C E : Type 0} (journal : C → List E) (number : E → ℕ) where
  abbrev Rule : State (Option C) (View E) → Type 0
  Rule = Orderly journal number

  -- a new lock
  pub starts : (x : C) → journal x ≡ [] → Rule (opening (0 ∷ 0 ∷ 0 ∷ []) (Some x ∷ []) opener)
  starts x none-yet =
      let b : Board E = record { log = []; first = 0; next = 0; stage = 1; made = 1; holder = λ _. 0; seat_of = λ _. 1 } in
      let mine : Fits number b 0 opener = record {
        alive = omega arith;
        spent = λ e. absurd (omega arith);
        ticket = λ g. absurd (omega arith);
        serving = λ g. absurd (omega arith);
        waiting = λ g. absurd (omega arith);
        seen = ([], refl);
        told = ([], refl);
        whole = λ g. absurd (omega arith);
        number_is = λ _. (omega arith, refl);
        own = λ _. refl;
        own_seen = λ _. refl;
        made = λ _ _. refl;
        joined = λ _ _ j p e. absurd (some-ne-none p (sym e));
      } in record {
        board = b;
        home = some (Some x);
        words_are = refl;
        homes_are = refl;
        tickets = refl;
        passes = omega arith;
        few = omega arith;
        free = λ _. refl;
        held = λ j low high. absurd (omega arith);
        away = not_away 1 _ (λ e. absurd (omega arith)) (λ e. absurd (omega arith));
        at_home = λ _ _. (x, refl, none-yet);
        each = λ i v e. first_fits b mine i v e;
        unmade = λ _ _. refl;
        best = (0, opener, refl, refl, refl);
      }
    where
      first_fits : (b : Board E) → Fits number b 0 opener → (i : ℕ) (v : View E) → get_elem? (opener ∷ []) i ≡ some v → Fits number b i v
      first_fits b mine zero v e = subst (Fits number b 0) (some-injective opener v e) mine
      first_fits b mine (suc i) v e = absurd (some-ne-none v (sym e))

  -- pass 0 makes a pass
  pub splits : (id : ℕ) (v : View E) → v.live ≡ 1 → v.number ≡ 0 → v.made < 4294967295 → Splits Rule id v (made_one v) (one_made v)
  splits id v live first few s k me =
      let b = k.board in let f = k.each id v me in let made : v.made ≡ b.made = f.made live first in let w : View E = made_one v in let u : View E = one_made v in
      let n : ℕ = length s.views in let b' : Board E = record b { made = b.made + 1; seat_of = put b.seat_of b.made (n + 1) } in
      let kept : (p : ℕ × List E) → Kept number b p → Kept number b' p = λ p q. record { made = omega (arith, q.made); gone = put_else b.seat_of b.made (n + 1) p.0 (λ e. absurd (omega (arith, q.made))) ∙ q.gone; own = q.own } in
      let seated : (i : ℕ) (z : View E) → Fits number b i z → z.live ≡ 1 → (z.number < b.made + 1) × (put b.seat_of b.made (n + 1) z.number ≡ i + 1) = λ i z g l. let a = g.number_is l in
      (omega (arith, a.0), put_else b.seat_of b.made (n + 1) z.number (λ e. absurd (omega (arith, a.0))) ∙ a.1) in
      let old : (i : ℕ) (z : View E) → get_elem? (set s.views id w) i ≡ some z → Fits number b' i z = all_fit journal number s.views id w b b' record {
        alive = f.alive;
        spent = f.spent;
        ticket = f.ticket;
        serving = f.serving;
        waiting = f.waiting;
        seen = f.seen;
        told = f.told;
        whole = f.whole;
        number_is = seated id v f;
        own = f.own;
        own_seen = f.own_seen;
        made = λ l z. ap (λ (c : ℕ). c + 1) made;
        joined = λ l z j p e. kept p (f.joined l z j p e);
      } (λ i z other at g. record {
        alive = g.alive;
        spent = g.spent;
        ticket = g.ticket;
        serving = g.serving;
        waiting = g.waiting;
        seen = g.seen;
        told = g.told;
        whole = g.whole;
        number_is = seated i z g;
        own = g.own;
        own_seen = g.own_seen;
        made = λ l zero-is. absurd (other (omega (arith, (g.number_is l).1, (f.number_is live).1, ap b.seat_of (zero-is ∙ sym first))));
        joined = λ l z j p e. kept p (g.joined l z j p e);
      }) k.each in
      let new : Fits number b' n u = record {
        alive = omega arith;
        spent = λ z. refl;
        ticket = λ h. absurd (omega arith);
        serving = λ h. absurd (omega arith);
        waiting = λ h. absurd (omega arith);
        seen = f.seen;
        told = (b.log, refl);
        whole = λ h. absurd (omega arith);
        number_is = λ _. (omega arith, ap (put b.seat_of b.made (n + 1)) made ∙ put_here b.seat_of b.made (n + 1));
        own = λ _. ap (λ (c : ℕ). events_of number c b.log) made ∙ k.unmade b.made (omega arith);
        own_seen = λ _. events_before number v.made b.log v.seen f.seen (ap (λ (c : ℕ). events_of number c b.log) made ∙ k.unmade b.made (omega arith));
        made = λ _ z. absurd (omega (arith, (f.number_is live).0, z));
        joined = λ _ z. absurd (omega (arith, (f.number_is live).0, z));
      } in record {
        board = b';
        home = k.home;
        words_are = k.words_are;
        homes_are = k.homes_are;
        tickets = omega (arith, total-append has_ticket (set s.views id w) (u ∷ []), total-set has_ticket s.views id v w me, k.tickets);
        passes = omega (arith, total-append is_live (set s.views id w) (u ∷ []), total-set is_live s.views id v w me, k.passes);
        few = omega (arith, made);
        free = k.free;
        held = λ j low high. let h = held_after s.views id v w (b.holder j) j me (k.held j low high) (λ p e. (p, e)) in (h.0, at_longer (set s.views id w) (u ∷ []) (b.holder j) h.0 h.1, h.2, h.3);
        away = k.away;
        at_home = k.at_home;
        each = λ i z e. ⊎_elim (λ t. old i z t) (λ (t : (i ≡ length (set s.views id w)) × (u ≡ z)). subst (λ (x : ℕ × View E). Fits number b' x.0 x.1) (λ j. (sym (t.0 ∙ length-set s.views id w) j, t.1 j)) new) (at_end (set s.views id w) u z i e);
        unmade = λ j h. k.unmade j (omega arith);
        best = let know = best_after s.views id v w b.log me live (λ e. e) k.best in (know.0, know.1, at_longer (set s.views id w) (u ∷ []) know.0 know.1 know.2, know.3, know.4);
      }

  -- pass 0 takes a pass in
  pub merges : (id : ℕ) (v : View E) (other : ℕ) (w : View E) → v.live ≡ 1 → v.number ≡ 0 → v.stage ≡ 0 → w.live ≡ 1 → w.stage ≡ 0 → Joins Rule id v other w (taken_in v w) spent_view
  merges id v other w live first idle live' idle' s k me apart it =
      let b = k.board in let f = k.each id v me in let both : View E = taken_in v w in
      let there : get_elem? s.views other ≡ some w = sym (set_else s.views id other both apart) ∙ it in
      let h = k.each other w there in let b' : Board E = record b { seat_of = put b.seat_of w.number 0 } in
      let kept : (p : ℕ × List E) → Kept number b p → Kept number b' p = λ p q. record {
        made = q.made;
        gone = dite (ℕ_discrete p.0 w.number) (λ e. ap (put b.seat_of w.number 0) e ∙ put_here b.seat_of w.number 0) (λ ne. put_else b.seat_of w.number 0 p.0 ne ∙ q.gone);
        own = q.own;
      } in
      let seated : (i : ℕ) (z : View E) → i ≢ other → Fits number b i z → z.live ≡ 1 → (z.number < b.made) × (put b.seat_of w.number 0 z.number ≡ i + 1) = λ i z ne g l. let a = g.number_is l in
      (a.0, put_else b.seat_of w.number 0 z.number (λ e. absurd (ne (omega (arith, a.1, ap b.seat_of e, (h.number_is live').1)))) ∙ a.1) in
      let took : Kept number b' (w.number, w.own) = record { made = (h.number_is live').0; gone = put_here b.seat_of w.number 0; own = h.own live' } in
      let mine : Fits number b' id both = record {
        alive = f.alive;
        spent = f.spent;
        ticket = f.ticket;
        serving = f.serving;
        waiting = f.waiting;
        seen = of_longer v.seen w.seen (λ l _. StartsWith b.log l) (λ _. h.seen) (λ _. f.seen);
        told = of_longer v.seen w.seen (λ _ l. StartsWith b.log l) (λ _. f.seen) (λ _. h.seen);
        whole = λ g. absurd (omega arith);
        number_is = seated id v (λ e. apart (sym e)) f;
        own = f.own;
        own_seen = λ l. of_longer v.seen w.seen (λ l' _. events_of number v.number l' ≡ v.own)
            (λ less. events_between number v.number b.log w.seen v.seen v.own h.seen (starts_shorter b.log w.seen v.seen h.seen f.seen (omega arith)) (f.own l) (f.own_seen l)) (λ _. f.own_seen l);
        made = f.made;
        joined = λ l z j p e. ⊎_elim (λ t. kept p (f.joined l z j p t)) (λ (t : (j ≡ length v.joined) × ((w.number, w.own) ≡ p)). subst (λ (q : ℕ × List E). Kept number b' q) t.1 took) (at_end v.joined (w.number, w.own) p j e);
      } in
      let gone : Fits number b' other spent_view = record {
        alive = omega arith;
        spent = λ _. refl;
        ticket = λ g. absurd (omega arith);
        serving = λ g. absurd (omega arith);
        waiting = λ g. absurd (omega arith);
        seen = (b.log, refl);
        told = (b.log, refl);
        whole = λ g. absurd (omega arith);
        number_is = λ g. absurd (omega arith);
        own = λ g. absurd (omega arith);
        own_seen = λ g. absurd (omega arith);
        made = λ g. absurd (omega arith);
        joined = λ g. absurd (omega arith);
      } in
      let rest_fit : (i : ℕ) (z : View E) → i ≢ other → i ≢ id → get_elem? s.views i ≡ some z → Fits number b' i z = λ i z ne ne' at. let g = k.each i z at in record {
        alive = g.alive;
        spent = g.spent;
        ticket = g.ticket;
        serving = g.serving;
        waiting = g.waiting;
        seen = g.seen;
        told = g.told;
        whole = g.whole;
        number_is = seated i z ne g;
        own = g.own;
        own_seen = g.own_seen;
        made = g.made;
        joined = λ l zero-is. absurd (ne' (omega (arith, (g.number_is l).1, (f.number_is live).1, ap b.seat_of (zero-is ∙ sym first))));
      } in
      let vs : List (View E) = set s.views id both in
      let best' : (z : View E) → z.seen ≡ b.log → (z ≡ v) ⊎ (z ≡ w) → Knows (set vs other spent_view) b.log = λ z all is. (
        id,
        both,
        set_else vs other id spent_view (λ e. apart (sym e)) ∙ set_here s.views id both (at_inside s.views id v me),
        live,
        longer_whole b.log v.seen w.seen f.seen h.seen (⊎_elim (λ e. inl (ap (λ (y : View E). y.seen) (sym e) ∙ all)) (λ e. inr (ap (λ (y : View E). y.seen) (sym e) ∙ all)) is),
      ) in record {
        board = b';
        home = k.home;
        words_are = k.words_are;
        homes_are = k.homes_are;
        tickets = omega (arith, total-set has_ticket s.views id v both me, total-set has_ticket vs other w spent_view it, k.tickets);
        passes = omega (arith, total-set is_live s.views id v both me, total-set is_live vs other w spent_view it, k.passes);
        few = k.few;
        free = k.free;
        held = λ j low high. held_after vs other w spent_view (b.holder j) j it (held_after s.views id v both (b.holder j) j me (k.held j low high) (λ p e. (p, e))) (λ p _. absurd (omega arith));
        away = k.away;
        at_home = k.at_home;
        each = λ i z e. ⊎_elim (λ (t : (i ≡ other) × (spent_view ≡ z)). subst (λ (x : ℕ × View E). Fits number b' x.0 x.1) (λ j. (sym t.0 j, t.1 j)) gone)
            (λ (t : (i ≢ other) × (get_elem? vs i ≡ some z)). ⊎_elim (λ (u : (i ≡ id) × (both ≡ z)). subst (λ (x : ℕ × View E). Fits number b' x.0 x.1) (λ j. (sym u.0 j, u.1 j)) mine) (λ (u : (i ≢ id) × (get_elem? s.views i ≡ some z)). rest_fit i z t.0 u.0 u.1) (at_set s.views id i both z t.1))
            (at_set vs other i spent_view z e);
        unmade = k.unmade;
        best = let n = k.best.0 in let z = k.best.1 in let at = k.best.2 in dite (ℕ_discrete n id)
            (λ e. best' z k.best.4 (inl (some-injective z v (sym at ∙ (ap (get_elem? s.views) e ∙ me)))))
            (λ ne. dite (ℕ_discrete n other)
            (λ e. best' z k.best.4 (inr (some-injective z w (sym at ∙ (ap (get_elem? s.views) e ∙ there)))))
            (λ ne'. (n, z, set_else vs other n spent_view ne' ∙ (set_else s.views id n both ne ∙ at), k.best.3, k.best.4)));
      }
