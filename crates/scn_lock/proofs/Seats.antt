-- What a step of one pass leaves of the others, and the one lemma on the steps that leave the journal as it is.
use Rattle.std.proofs.Common.{◌≡◌, ◌≢◌, ℕ, zero, suc, ◌+◌, ◌%◌, ◌<◌, ◌≤◌, ◌⊎◌, List, [], ◌∷◌, length, get_or, set, min, sym, refl, ap, ◌∙◌, subst, ⊎_elim, arith, Option, Some}
use mathlib.Core.Logic.{dite}
use mathlib.Core.Option.{none, some, some-injective, some-ne-none}
use mathlib.Core.Option as maybe
use native.Mathlib.Decide.{ℕ_discrete}
use lib.ListN.{get_elem?}
use Rattle.atomic_table.specs.Table.{State, step}
use Rattle.atomic_table.proofs.Lists.{at_set, set_here, set_else, set_again}
use Rattle.scn_lock.specs.declared.view.View.{View}
use Rattle.scn_lock.specs.Journal.{StartsWith, events_of}
use Rattle.scn_lock.specs.Rule.{total, Board, Fits, Holds, Knows, has_ticket, is_live, Orderly}
use Rattle.scn_lock.specs.Steps.{At}
use Rattle.scn_lock.proofs.Lists.{at_inside, total-set, totals_le}

-- a number that is written where it stood
pub set_same : (ns : List ℕ) (i : ℕ) → set ns i (get_or ns i 0) ≡ ns
set_same [] i = refl
set_same (n ∷ ns) zero = refl
set_same (n ∷ ns) (suc i) = λ j. n ∷ set_same ns i j

-- no play looks at its step
abbrev pub no_step : {C : Type 0} → At C
no_step = step 0 0 0 0 none

-- at a stage other than 3 and 4 the value is at home
pub not_away : (n : ℕ) (A : Type 0) → n ≢ 3 → n ≢ 4 → (n ≡ 3) ⊎ (n ≡ 4) → A
not_away n A a b h = ⊎_elim (λ e. absurd (a e)) (λ e. absurd (b e)) h

module _ {E : Type 0} where
  -- some pass still has seen the whole journal after a step of the seat id
  pub best_after : (vs : List (View E)) (id : ℕ) (v w : View E) (log : List E) → get_elem? vs id ≡ some v → w.live ≡ 1 → (v.seen ≡ log → w.seen ≡ log) → Knows vs log → Knows (set vs id w) log
  best_after vs id v w log me live sees know = let best = know.0 in let u = know.1 in dite (ℕ_discrete best id)
      (λ e. (
        id,
        w,
        set_here vs id w (at_inside vs id v me),
        live,
        sees (ap (λ (z : View E). z.seen) (some-injective v u (sym me ∙ subst (λ (j : ℕ). get_elem? vs j ≡ some u) e know.2)) ∙ know.4),
      ))
      (λ ne. (best, u, set_else vs id best w ne ∙ know.2, know.3, know.4))

  -- a ticket is still held after a step of the seat id that keeps its own
  pub held_after : (vs : List (View E)) (id : ℕ) (v w : View E) (seat t : ℕ) → get_elem? vs id ≡ some v → Holds vs seat t → (0 < v.stage → v.ticket ≡ t → (0 < w.stage) × (w.ticket ≡ t)) → Holds (set vs id w) seat t
  held_after vs id v w seat t me h keep = dite (ℕ_discrete seat id)
      (λ e. let is : h.0 ≡ v = some-injective h.0 v (sym h.1 ∙ (ap (get_elem? vs) e ∙ me)) in let now = keep (subst (λ (z : View E). 0 < z.stage) is h.2) (subst (λ (z : View E). z.ticket ≡ t) is h.3) in
      (w, subst (λ (j : ℕ). get_elem? (set vs id w) j ≡ some w) (sym e) (set_here vs id w (at_inside vs id v me)), now.0, now.1))
      (λ ne. (h.0, set_else vs id seat w ne ∙ h.1, h.2, h.3))

  -- the seat, at another stage
  abbrev pub posed : View E → ℕ → ℕ → List E → View E
  posed v stage ticket seen = record v { stage = stage; ticket = ticket; seen = seen }

  -- what a ticket asks of a seat
  abbrev pub Tickets : Board E → ℕ → View E → Type 0
  Tickets b seat v = (0 < v.stage → (b.first ≤ v.ticket) × (v.ticket < b.next) × (b.holder v.ticket ≡ seat)) × (0 < v.stage → v.ticket ≡ b.first → v.stage ≡ b.stage) × (0 < v.stage → v.ticket ≢ b.first → v.stage ≡ 1)

module _ {C E : Type 0} (journal : C → List E) (number : E → ℕ) where
  abbrev Rule : State (Option C) (View E) → Type 0
  Rule = Orderly journal number

  -- the views after a step of the seat id
  pub all_fit : (vs : List (View E)) (id : ℕ) (w : View E) (b b' : Board E) → Fits number b' id w → ((i : ℕ) (v : View E) → i ≢ id → get_elem? vs i ≡ some v → Fits number b i v → Fits number b' i v)
      → ((i : ℕ) (v : View E) → get_elem? vs i ≡ some v → Fits number b i v) → (i : ℕ) (v : View E) → get_elem? (set vs id w) i ≡ some v → Fits number b' i v
  all_fit vs id w b b' mine others each i v e = ⊎_elim (λ (t : (i ≡ id) × (w ≡ v)). subst (λ (x : ℕ × View E). Fits number b' x.0 x.1) (λ j. (sym t.0 j, t.1 j)) mine)
      (λ (t : (i ≢ id) × (get_elem? vs i ≡ some v)). others i v t.0 t.1 (each i v t.1)) (at_set vs id i w v e)

  -- fewer tickets are out than passes were made
  pub narrow : (s : State (Option C) (View E)) (k : Rule s) → k.board.next ≤ k.board.first + k.board.made
  narrow s k = omega (arith, k.tickets, k.passes, totals_le has_ticket is_live s.views (λ j v e. let f = k.each j v e in fewer v f.alive f.spent))
    where
      fewer : (v : View E) → v.live ≤ 1 → (v.live ≡ 0 → v.stage ≡ 0) → min v.stage 1 ≤ v.live
      fewer v a z = dite (ℕ_discrete v.live 0) (λ e. omega (arith, z e)) (λ ne. omega arith)

  -- a step that leaves the journal as it is
  pub moves : (s : State (Option C) (View E)) (k : Rule s) (id : ℕ) (v : View E) (ws : List ℕ) (home : maybe.Option (Option C)) (first next bstage : ℕ) (holder : ℕ → ℕ) (stage ticket : ℕ) (seen : List E)
      → get_elem? s.views id ≡ some v → v.live ≡ 1
      → let b : Board E = record k.board { first = first; next = next; stage = bstage; holder = holder } in
      ws ≡ next % 18446744073709551616 ∷ first % 18446744073709551616 ∷ length b.log % 18446744073709551616 ∷ []
      → first + total has_ticket s.views + min stage 1 ≡ next + min v.stage 1
      → ((t : ℕ) → first ≤ t → t < next → Holds (set s.views id (posed v stage ticket seen)) (holder t) t) → ((bstage ≡ 3) ⊎ (bstage ≡ 4) → home ≡ none)
      → (first ≡ next → bstage ≡ 1) → (bstage ≢ 3 → bstage ≢ 4 → (x : C) × (home ≡ some (Some x)) × (journal x ≡ b.log))
      → Tickets b id (posed v stage ticket seen) → StartsWith b.log seen → (3 ≤ stage → seen ≡ b.log) → (v.seen ≡ b.log → seen ≡ b.log) → events_of number v.number seen ≡ v.own
      → ((i : ℕ) (u : View E) → i ≢ id → get_elem? s.views i ≡ some u → Fits number k.board i u → Tickets b i u)
      → Rule record { words = ws; homes = home ∷ []; views = set s.views id (posed v stage ticket seen) }
  moves s k id v ws home first next bstage holder stage ticket seen me live words tickets held away free at_home mine starts whole best own others =
      let b : Board E = record k.board { first = first; next = next; stage = bstage; holder = holder } in let was = k.each id v me in let w : View E = posed v stage ticket seen in record {
        board = b;
        home = home;
        words_are = words;
        homes_are = refl;
        tickets = omega (arith, total-set has_ticket s.views id v w me, tickets);
        passes = omega (arith, total-set is_live s.views id v w me, k.passes);
        few = k.few;
        free = free;
        held = held;
        away = away;
        at_home = at_home;
        each = all_fit s.views id w k.board b record {
          alive = was.alive;
          spent = λ z. absurd (omega arith);
          ticket = mine.0;
          serving = mine.1;
          waiting = mine.2;
          seen = starts;
          told = was.told;
          whole = whole;
          number_is = was.number_is;
          own = was.own;
          own_seen = λ _. own;
          made = was.made;
          joined = λ l z j p e. let q = was.joined l z j p e in record { made = q.made; gone = q.gone; own = q.own };
        } (λ i u other at f. let t = others i u other at f in record {
          alive = f.alive;
          spent = f.spent;
          ticket = t.0;
          serving = t.1;
          waiting = t.2;
          seen = f.seen;
          told = f.told;
          whole = f.whole;
          number_is = f.number_is;
          own = f.own;
          own_seen = f.own_seen;
          made = f.made;
          joined = λ l z j p e. let q = f.joined l z j p e in record { made = q.made; gone = q.gone; own = q.own };
        }) k.each;
        unmade = k.unmade;
        best = best_after s.views id v w k.board.log me live best k.best;
      }

  -- the rule, of slots that are given by an equation
  pub with_homes : (ws : List ℕ) (hs hs' : List (maybe.Option (Option C))) (vs : List (View E)) → hs ≡ hs' → Rule record { words = ws; homes = hs'; views = vs } → Rule record { words = ws; homes = hs; views = vs }
  with_homes ws hs hs' vs e = subst (λ (h : List (maybe.Option (Option C))). Rule record { words = ws; homes = h; views = vs }) (sym e)

  -- a load that changes nothing
  pub still : (s : State (Option C) (View E)) (i id : ℕ) (v : View E) → get_elem? s.views id ≡ some v → Rule s → Rule record { words = set s.words i (get_or s.words i 0); homes = s.homes; views = set s.views id v }
  still s i id v me k = subst (λ (x : List ℕ × List (View E)). Rule record { words = x.0; homes = s.homes; views = x.1 }) (λ j. (sym (set_same s.words i) j, sym (set_again s.views id v me) j)) k

  -- a view with a ticket, where another seat is served
  pub not_served : (s : State (Option C) (View E)) (k : Rule s) (id i : ℕ) (v u : View E) → i ≢ id → get_elem? s.views id ≡ some v → get_elem? s.views i ≡ some u → 0 < v.stage → 0 < u.stage → v.ticket ≢ u.ticket
  not_served s k id i v u other me at mine his e = other (sym ((k.each i u at).ticket his).2 ∙ (ap k.board.holder (sym e) ∙ ((k.each id v me).ticket mine).2))

  -- the journal at the stages from 2 on, of a seat with a ticket
  pub served_stage : (s : State (Option C) (View E)) (k : Rule s) (id : ℕ) (v : View E) → get_elem? s.views id ≡ some v → 2 ≤ v.stage → (v.ticket ≡ k.board.first) × (v.stage ≡ k.board.stage)
  served_stage s k id v me h = let f = k.each id v me in let has : 0 < v.stage = omega arith in dite (ℕ_discrete v.ticket k.board.first)
      (λ e. (e, f.serving has e)) (λ ne. absurd (omega (arith, f.waiting has ne)))

  -- another seat's ticket, while this one is served and stays so
  pub others_wait : (s : State (Option C) (View E)) (k : Rule s) (id : ℕ) (v : View E) (bstage : ℕ) → get_elem? s.views id ≡ some v → 2 ≤ v.stage
      → (i : ℕ) (u : View E) → i ≢ id → get_elem? s.views i ≡ some u → Fits number k.board i u → Tickets (record k.board { stage = bstage }) i u
  others_wait s k id v bstage me h i u other at f = let same = (served_stage s k id v me h).0 in let has : 0 < v.stage = omega arith in
      (f.ticket, (λ his e. absurd (not_served s k id i v u other me at has his (same ∙ sym e))), f.waiting)
