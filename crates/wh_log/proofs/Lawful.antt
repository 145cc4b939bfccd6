-- The laws of the log.
use Rattle.std.proofs.Common.{◌≡◌, ◌∙◌, ◌+◌, ◌<◌, ◌≤◌, ◌&&◌, ◌||◌, sym, ap, subst, refl, arith, ℕ, suc, Bool, true, false, cond, List, [], ◌∷◌, ◌++◌, Option, None, Some, flat_map, is_none, length, max, nat_lt}
use Rattle.std.specs.List.{All, AllByRecursion, filter}
use Rattle.std.proofs.lemmas.Bool.Decides.{nat_tests}
use Rattle.std.proofs.lemmas.List.{append-nil, length-append}
use Rattle.std.proofs.lemmas.List.Concat.{flat_map-append}
use Rattle.std.proofs.lemmas.List.Elements.{All-append, All-cons, All-filter, All-head, All-nil, All-tail, filter-append}
use Rattle.wh_base.specs.Lists.{option_case, where_true}
use Rattle.wh_base.specs.declared.logs.LogFacts.{LogFacts}
use Rattle.wh_base.specs.declared.logs.LogRow.{LogRow}
use Rattle.wh_base.specs.declared.logs.LogSide.{LogSide}
use Rattle.wh_base.specs.declared.logs.LogSide.TheVariants.{N, O}
use Rattle.wh_base.specs.declared.values.Value.{Value}
use Rattle.def_history.specs.Catalog.{Catalog, Log, Noted}
use Rattle.def_history.specs.History.{noted_changes, within}
use Rattle.def_history.specs.Logs.{log_history, log_rows, log_side, sequenced, sides_of}
use Rattle.wh_log.proofs.Orders.{filter_twice}
use Rattle.wh_log.specs.Held.{Held}
use Rattle.wh_log.specs.Laws.{HasNoted, Laws}
use Rattle.wh_log.specs.Log.{after, between, noted_at, numbered_from, with_noted}

-- numbers go on from one list to the next
numbered-append : (f : LogFacts) (first : ℕ) (xs ys : List LogRow) → numbered_from f first (xs ++ ys) ≡ numbered_from f first xs ++ numbered_from f (first + length xs) ys
numbered-append f first [] ys = let same : first ≡ first + 0 = omega arith in ap (λ n. numbered_from f n ys) same
numbered-append f first (x ∷ xs) ys =
    let same : first + 1 + length xs ≡ first + suc (length xs) = omega arith in
    ap (λ l. numbered_from f first (x ∷ []) ++ l) (numbered-append f (first + 1) xs ys ∙ ap (λ n. numbered_from f (first + 1) xs ++ numbered_from f n ys) same)

-- rows above FROM are all held
all_held : (f : LogFacts) (from first : ℕ) (rows : List LogRow) → AllByRecursion (λ r. nat_lt from r.scn ≡ true) rows → after from (numbered_from f first rows) ≡ numbered_from f first rows
all_held f from first [] h = refl
all_held f from first (r ∷ rs) h =
    let one : List LogRow = numbered_from f first (r ∷ []) in
    let rest : List LogRow = after from (numbered_from f (first + 1) rs) in
    ap (λ b. cond b (one ++ rest) rest) h.0 ∙ ap (λ l. one ++ l) (all_held f from (first + 1) rs h.1)

above : (from scn : ℕ) → from < scn → nat_lt from scn ≡ true
above from scn h = grind (arith, nat_tests)

sides_above : (f : LogFacts) (n : Noted) (from : ℕ) → nat_lt from n.scn ≡ true → AllByRecursion (λ r. nat_lt from r.scn ≡ true) (sides_of f n)
sides_above f n from h = by n.change.old n.change.new (is_none n.change.old || f.new_values)
  where
    by : (old new : Option (List Value)) (b : Bool)
        → AllByRecursion (λ r. nat_lt from r.scn ≡ true) (option_case old [] (λ vs. log_side f n O vs ∷ []) ++ option_case new [] (λ vs. cond b (log_side f n N vs ∷ []) []))
    by None None b = tt
    by None (Some vs) true = (h, tt)
    by None (Some vs) false = tt
    by (Some us) None b = (h, tt)
    by (Some us) (Some vs) true = (h, (h, tt))
    by (Some us) (Some vs) false = (h, tt)

sides-append : (f : LogFacts) (changes : List Noted) (n : Noted) → flat_map (sides_of f) (changes ++ n ∷ []) ≡ flat_map (sides_of f) changes ++ sides_of f (noted_at n.scn n.change)
sides-append f changes n = flat_map-append (sides_of f) changes (n ∷ []) ∙ ap (λ l. flat_map (sides_of f) changes ++ l) (append-nil (sides_of f n))

noted : (log : Held) (changes : List Noted) (n : Noted) → HasNoted log changes → log.facts.from < n.scn → HasNoted (with_noted log (noted_at n.scn n.change)) (changes ++ n ∷ [])
noted log changes n h later =
    let f : LogFacts = log.facts in
    let all : List LogRow = flat_map (sides_of f) changes in
    let sides : List LogRow = sides_of f (noted_at n.scn n.change) in
    let from : ℕ = f.from in
    let next : 1 + length all ≡ log.numbered + 1 = omega (arith, h.numbered) in
    let whole : after from (sequenced f (flat_map (sides_of f) (changes ++ n ∷ []))) ≡ after from (sequenced f all) ++ numbered_from f (1 + length all) sides =
    ap (λ rows. after from (sequenced f rows)) (sides-append f changes n) ∙ ap (after from) (numbered-append f 1 all sides)
    ∙ filter-append (λ r. nat_lt from r.scn) (sequenced f all) (numbered_from f (1 + length all) sides)
    ∙ ap (λ l. after from (sequenced f all) ++ l) (all_held f from (1 + length all) sides (sides_above f (noted_at n.scn n.change) from (above from n.scn later))) in
    record {
      rows = sym (whole ∙ ap (λ l. l ++ numbered_from f (1 + length all) sides) (sym h.rows) ∙ ap (λ k. log.rows ++ numbered_from f k sides) next);
      numbered = ap (λ k. k + length sides) h.numbered ∙ sym (length-append all sides) ∙ sym (ap length (sides-append f changes n));
    }

filter_same : (p q : LogRow → Bool) (rows : List LogRow) → ((r : LogRow) → p r ≡ q r) → filter p rows ≡ filter q rows
filter_same p q [] h = refl
filter_same p q (r ∷ rs) h = ap (λ b. cond b (r ∷ filter p rs) (filter p rs)) (h r) ∙ ap (λ l. cond (q r) (r ∷ l) l) (filter_same p q rs h)

both_above : (from to scn : ℕ) → (nat_lt from scn && nat_lt to scn) ≡ nat_lt (max from to) scn
both_above from to scn = grind (arith, nat_tests)

above_low : (low from to scn : ℕ) → low ≤ from → (nat_lt low scn && within from to scn) ≡ within from to scn
above_low low from to scn h = grind (arith, nat_tests)

after_twice : (from to : ℕ) (rows : List LogRow) → after to (after from rows) ≡ after (max from to) rows
after_twice from to rows = filter_twice (λ r. nat_lt from r.scn) (λ r. nat_lt to r.scn) rows ∙ filter_same _ _ rows (λ r. both_above from to r.scn)

between_after : (low from to : ℕ) (rows : List LogRow) → low ≤ from → between from to (after low rows) ≡ between from to rows
between_after low from to rows h = filter_twice (λ r. nat_lt low r.scn) (λ r. within from to r.scn) rows ∙ filter_same _ _ rows (λ r. above_low low from to r.scn h)

holds : (c : Catalog) (l : Log) (log : Held) → log.facts ≡ l.facts → HasNoted log (noted_changes c l.table l.born c.scn) → log.rows ≡ log_rows c l
holds c l log same h = h.rows ∙ ap (λ (f : LogFacts). after f.from (sequenced f (flat_map (sides_of f) (noted_changes c l.table l.born c.scn)))) same

-- ---- bounds

two_sides : (f : LogFacts) (n : Noted) → length (sides_of f n) ≤ 2
two_sides f n = by n.change.old n.change.new (is_none n.change.old || f.new_values)
  where
    by : (old new : Option (List Value)) (b : Bool) → length (option_case old [] (λ vs. log_side f n O vs ∷ []) ++ option_case new [] (λ vs. cond b (log_side f n N vs ∷ []) [])) ≤ 2
    by None None b = omega arith
    by None (Some vs) true = omega arith
    by None (Some vs) false = omega arith
    by (Some us) None b = omega arith
    by (Some us) (Some vs) true = omega arith
    by (Some us) (Some vs) false = omega arith

module _ (scn : ℕ) where
  abbrev UpTo : LogRow → Type 0
  UpTo r = r.scn ≤ scn

  sides_latest : (f : LogFacts) (n : Noted) → n.scn ≤ scn → All UpTo (sides_of f n)
  sides_latest f n h = by n.change.old n.change.new (is_none n.change.old || f.new_values)
    where
      one : (side : LogSide) (vs : List Value) → All UpTo (log_side f n side vs ∷ [])
      one side vs = All-cons UpTo (log_side f n side vs) [] h (All-nil UpTo)

      by : (old new : Option (List Value)) (b : Bool) → All UpTo (option_case old [] (λ vs. log_side f n O vs ∷ []) ++ option_case new [] (λ vs. cond b (log_side f n N vs ∷ []) []))
      by None None b = All-nil UpTo
      by None (Some vs) true = one N vs
      by None (Some vs) false = All-nil UpTo
      by (Some us) None b = one O us
      by (Some us) (Some vs) true = All-cons UpTo (log_side f n O us) (log_side f n N vs ∷ []) h (one N vs)
      by (Some us) (Some vs) false = one O us

  changes_latest : (f : LogFacts) (changes : List Noted) → All (λ n. n.scn ≤ scn) changes → All UpTo (flat_map (sides_of f) changes)
  changes_latest f [] h = All-nil UpTo
  changes_latest f (n ∷ ns) h =
      All-append UpTo (sides_of f n) (flat_map (sides_of f) ns) (sides_latest f n (All-head (λ n. n.scn ≤ scn) n ns h)) (changes_latest f ns (All-tail (λ n. n.scn ≤ scn) n ns h))

  numbered_latest : (f : LogFacts) (first : ℕ) (rows : List LogRow) → All UpTo rows → All UpTo (numbered_from f first rows)
  numbered_latest f first [] h = All-nil UpTo
  numbered_latest f first (r ∷ rs) h =
      All-cons UpTo (record r { seq = where_true f.sequence first }) (numbered_from f (first + 1) rs) (All-head UpTo r rs h) (numbered_latest f (first + 1) rs (All-tail UpTo r rs h))

  latest : (log : Held) (changes : List Noted) → HasNoted log changes → All (λ n. n.scn ≤ scn) changes → All UpTo log.rows
  latest log changes h below =
      let all : List LogRow = sequenced log.facts (flat_map (sides_of log.facts) changes) in
      subst (All UpTo) (sym h.rows) (All-filter (λ r. nat_lt log.facts.from r.scn) UpTo all (numbered_latest log.facts 1 (flat_map (sides_of log.facts) changes) (changes_latest log.facts changes below)))

pub lawful : Laws
lawful = record {
  begins = λ facts. record { rows = refl; numbered = refl };
  notes = noted;
  purges = λ log changes to h. record { rows = ap (after to) h.rows ∙ after_twice log.facts.from to _; numbered = h.numbered };
  reserves = λ log changes room h. record { rows = h.rows; numbered = h.numbered };
  holds = holds;
  suffixes = λ c l log from to same h low. ap (between from to) (holds c l log same h) ∙ between_after l.facts.from from to (log_history c l) low;
  latest = λ log changes scn. latest scn log changes;
  two = two_sides;
}
