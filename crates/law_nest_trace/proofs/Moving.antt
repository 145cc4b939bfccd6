-- The install of a list moves all of its views or none.
use Rattle.std.proofs.Common.{◌≡◌, ◌∙◌, sym, ap, subst, refl, arith, ℕ, Bool, true, false, cond, not, List, [], ◌∷◌, ◌++◌, length, map, Option, Some, None, ◌==◌, ◌||◌, true≢false}
use Rattle.std.proofs.lemmas.Option.{none-some, same_Some}
use Rattle.std.specs.List.{cons_option, filter_map, find, list_any}
use Rattle.std.specs.Prelude.{Err, Ok, Result, is_none, option_and_then, option_map, unwrap_or}
use Rattle.std.proofs.lemmas.Bool.{eq-eqb, eqb-true, not-true}
use Rattle.std.proofs.lemmas.List.{append-nil, append_assoc}
use Rattle.std.proofs.lemmas.Simd.{map-map}
use Rattle.wh_base.specs.Lists.{first_of, first_some, has_text, option_case, option_nat_is, option_nat_same, same_text, unless, where_true, ◌>>=◌}
use Rattle.wh_base.specs.declared.replies.Refusal.{Refusal}
use Rattle.wh_base.specs.declared.replies.Refusal.TheVariants.{BeneathUnbuilt, NameTaken, NoSuchObject, NotNested, OnlyReading, Overtaken}
use Rattle.wh_base.specs.declared.statements.RefreshView.{RefreshView}
use Rattle.def_history.specs.Catalog.{Catalog, View, view_named, view_numbered}
use Rattle.def_journal.specs.Listing.{all_names, all_refreshed, by_turns, computed_each, computed_list, install_over, install_views, list_installed, moved_refusal, name_refusal, names_refusal, or_having_read, reads_so_far, views_named}
use Rattle.def_journal.specs.Refreshing.{Computed, Listed, asks_for_less, asked_method, change_view, computed, computed_for, computed_over, ended, name_numbered, nested_refusal, new_point, point_beneath, refreshed_to}
use Rattle.def_journal.specs.State.{Begun, State, only_reads, refused}
use Rattle.def_resolve.specs.Earlier.{first_after}
use Rattle.law_lists.proofs.Each.{Each-both, Each-given}
use Rattle.law_lists.proofs.Lists.{list_any-map}
use Rattle.law_lists.proofs.Options.{none_first, find_passes, none_each}
use Rattle.law_lists.proofs.Numbers.{differs_turned}
use Rattle.law_nest_trace.specs.Lists.{AllMoved, AreNumbered, HasMoved, Installed, All_moved, ListsMove, None_moved, moved_by}
use Rattle.law_trace.proofs.Listed.{Each, Pairs, each_found, each_weaker, find_changed, find_has, each_unmap}
use Rattle.law_nest_trace.proofs.Standing.{changed, found_number, the_number}
use Rattle.law_nest_trace.proofs.Turns.{Follows, IsOlder, all_turn, differs, has_number_of, is_beneath, turn_within, turns_follow}

-- ---- what is computed, one view after another

-- the point that the view gets
abbrev pub Pointed : Catalog → List Listed → View → ℕ → Type 0
Pointed c done v p = (v.def.beneath ≡ None → p ≡ c.scn) × ((n : ℕ) → v.def.beneath ≡ Some n → point_beneath c done n ≡ Some p)

abbrev pub Made : Catalog → List Listed → List View → List Listed → Type 0
Made c done [] [] = Unit {0}
Made c done [] (l ∷ ls) = ⊥
Made c done (v ∷ vs) [] = ⊥
Made c done (v ∷ vs) (l ∷ ls) = (l.view ≡ v) × (Pointed c done v l.point × Made c (done ++ l ∷ []) vs ls)

unless_fine : {A : Type 0} (o : Option Refusal) (x y : A) → unless o x ≡ Ok y → o ≡ None
unless_fine None x y e = refl
unless_fine (Some code) x y e = cc

there_is : {A : Type 0} (o : Option ℕ) (x : A) → where_true (is_none o) x ≡ None → o ≡ Some (unwrap_or o 0)
there_is (Some p) x e = refl
there_is None x e = absurd (none-some x (sym e))

pub pointed : (c : Catalog) (done : List Listed) (r : RefreshView) (v : View) (x : Computed) → computed_for c done r v ≡ Ok x → Pointed c done v (new_point c done v)
pointed c done r v x e = by v.def.beneath refl e
  where
    by : (o : Option ℕ) → v.def.beneath ≡ o → option_case o (computed c v (asked_method r v)) (λ n. unless (nested_refusal c done r v n) (computed_over c done v)) ≡ Ok x → Pointed c done v (new_point c done v)
    by None h e = ((λ _. ap (λ o. option_case o c.scn (λ n. unwrap_or (point_beneath c done n) 0)) h), (λ n k. absurd (none-some n (sym h ∙ k))))
    by (Some m) h e =
        let fine = none_first (where_true (asks_for_less r.method) (NotNested v.def.name)) (where_true (is_none (point_beneath c done m)) (BeneathUnbuilt (name_numbered c m)) ∷ [])
        (unless_fine (nested_refusal c done r v m) (computed_over c done v) x e) in
        let built : point_beneath c done m ≡ Some (unwrap_or (point_beneath c done m) 0)
        = there_is (point_beneath c done m) (BeneathUnbuilt (name_numbered c m)) (none_first (where_true (is_none (point_beneath c done m)) (BeneathUnbuilt (name_numbered c m))) [] fine.1).0 in
        let point : new_point c done v ≡ unwrap_or (point_beneath c done m) 0 = ap (λ o. option_case o c.scn (λ n. unwrap_or (point_beneath c done n) 0)) h in (
          (λ k. absurd (none-some m (sym k ∙ h))),
          (λ n k. subst (λ j. point_beneath c done j ≡ Some (new_point c done v)) (same_Some m n (sym h ∙ k)) (built ∙ ap Some (sym point))),
        )

-- what is computed is behind what was before
pub record Computes (c : Catalog) (done : List Listed) (vs : List View) (out : List Listed) : Type 0 where
  pub more : List Listed
  pub out_is : out ≡ done ++ more
  pub made : Made c done vs more

pub computes : (c : Catalog) (r : RefreshView) (done : List Listed) (vs : List View) (out : List Listed) → computed_each c r done vs ≡ Ok out → Computes c done vs out
computes c r done [] out e = let same : done ≡ out = cc in record { more = []; out_is = sym same ∙ sym (append-nil done); made = tt }
computes c r done (v ∷ vs) out e = by (computed_for c done r v) refl e (λ l. computes c r (done ++ l ∷ []) vs out)
  where
    by : (o : Result Computed Refusal) → computed_for c done r v ≡ o
        → (or_having_read (reads_so_far done) o >>= (λ x. computed_each c r (done ++ record { view = v; point = new_point c done v; computed = x } ∷ []) vs)) ≡ Ok out
        → ((l : Listed) → computed_each c r (done ++ l ∷ []) vs ≡ Ok out → Computes c (done ++ l ∷ []) vs out) → Computes c done (v ∷ vs) out
    by (Err code) h e k = cc
    by (Ok x) h e k =
        let l : Listed = record { view = v; point = new_point c done v; computed = x } in
        let rest : Computes c (done ++ l ∷ []) vs out = k l e in
        record { more = l ∷ rest.more; out_is = rest.out_is ∙ append_assoc done (l ∷ []) rest.more; made = (refl, (pointed c done r v x h, rest.made)) }

-- the views are those asked for, in their order
pub made_views : (c : Catalog) (done : List Listed) (vs : List View) (ls : List Listed) → Made c done vs ls → map (λ l. l.view) ls ≡ vs
made_views c done [] [] h = refl
made_views c done [] (l ∷ ls) h = absurd h
made_views c done (v ∷ vs) [] h = absurd h
made_views c done (v ∷ vs) (l ∷ ls) h = λ i. h.0 i ∷ made_views c (done ++ l ∷ []) vs ls h.1.1 i

-- ---- the view beneath isn't among the later ones, so its point stays

find_front : {A : Type 0} (p : A → Bool) (xs ys : List A) → Each (λ y. p y ≡ false) ys → find p (xs ++ ys) ≡ find p xs
find_front p [] [] h = refl
find_front p [] (y ∷ ys) h = ap (λ b. cond b (Some y) (find p ys)) h.0 ∙ find_front p [] ys h.1
find_front p (x ∷ xs) ys h = ap (λ o. cond (p x) (Some x) o) (find_front p xs ys h)

pointed_more : (c : Catalog) (done ls : List Listed) (v : View) (p : ℕ) → Each (λ l. is_beneath v l.view ≡ false) ls → Pointed c done v p → Pointed c (done ++ ls) v p
pointed_more c done ls v p apart h = (
  h.0,
  (λ n e. ap (λ o. first_some (option_map (λ l. l.point) o ∷ option_and_then (λ w. w.point) (view_numbered c n) ∷ []))
      (find_front (λ l. l.view.def.view == n) done ls (each_weaker (λ l. is_beneath v l.view ≡ false) (λ l. (l.view.def.view == n) ≡ false) (λ l k. differs_turned n l.view.def.view (ap (λ o. option_nat_is o l.view.def.view) (sym e) ∙ k)) ls apart))
      ∙ h.1 n e),
)

pub all_pointed : (c : Catalog) (done : List Listed) (vs : List View) (ls : List Listed) → Made c done vs ls → Pairs Follows vs → Each (λ v. is_beneath v v ≡ false) vs
    → Each (λ l. Pointed c (done ++ ls) l.view l.point) ls
all_pointed c done [] [] h follow own = tt
all_pointed c done [] (l ∷ ls) h follow own = absurd h
all_pointed c done (v ∷ vs) [] h follow own = absurd h
all_pointed c done (v ∷ vs) (l ∷ ls) h follow own =
    let views : map (λ m. m.view) ls ≡ vs = made_views c (done ++ l ∷ []) vs ls h.1.1 in
    let later : Each (λ w. is_beneath v w ≡ false) (map (λ m. m.view) ls)
    = subst (Each (λ w. is_beneath v w ≡ false)) (sym views) (each_weaker (Follows v) (λ w. is_beneath v w ≡ false) (λ w k. k.1) vs follow.0) in
    let apart : Each (λ m. is_beneath v m.view ≡ false) (l ∷ ls) = (ap (is_beneath v) h.0 ∙ own.0, each_unmap (λ w. is_beneath v w ≡ false) (λ m. m.view) ls later) in (
      subst (λ w. Pointed c (done ++ l ∷ ls) w l.point) (sym h.0) (pointed_more c done (l ∷ ls) v l.point apart h.1.0),
      subst (λ ms. Each (λ m. Pointed c ms m.view m.point) ls) (append_assoc done (l ∷ []) ls) (all_pointed c (done ++ l ∷ []) vs ls h.1.1 follow.1 own.1),
    )

-- ---- the catalog after the install

abbrev pub Differ : Listed → Listed → Type 0
Differ l m = differs l.view m.view ≡ true

-- a view that is changed first isn't changed again
moved_step : (l : Listed) (done : List Listed) → Each (Differ l) done → (v : View) → moved_by done (changed l.view.def.view (refreshed_to l.point) v) ≡ moved_by (l ∷ done) v
moved_step l done apart v = by (v.def.view == l.view.def.view) refl
  where
    by : (b : Bool) → (v.def.view == l.view.def.view) ≡ b → moved_by done (cond b (refreshed_to l.point v) v) ≡ moved_by (l ∷ done) v
    by true e =
        let same : v.def.view ≡ l.view.def.view = eqb-true v.def.view l.view.def.view e in
        ap (λ o. option_case o (refreshed_to l.point v) (λ m. refreshed_to m.point (refreshed_to l.point v)))
        (ap (λ k. find (λ m. m.view.def.view == k) done) same
        ∙ find_front (λ m. m.view.def.view == l.view.def.view) [] done (each_weaker (Differ l) (λ m. (m.view.def.view == l.view.def.view) ≡ false) (λ m h. not-true (m.view.def.view == l.view.def.view) h) done apart))
        ∙ sym (ap (λ b. option_case (cond b (Some l) (find (λ m. m.view.def.view == v.def.view) done)) v (λ m. refreshed_to m.point v)) (eq-eqb l.view.def.view v.def.view (sym same)))
    by false e = sym (ap (λ b. option_case (cond b (Some l) (find (λ m. m.view.def.view == v.def.view) done)) v (λ m. refreshed_to m.point v)) other)
      where
        other : (l.view.def.view == v.def.view) ≡ false
        other = turn (l.view.def.view == v.def.view) refl
          where
            turn : (b : Bool) → (l.view.def.view == v.def.view) ≡ b → (l.view.def.view == v.def.view) ≡ false
            turn true k = absurd (true≢false (sym (eq-eqb v.def.view l.view.def.view (sym (eqb-true l.view.def.view v.def.view k))) ∙ e))
            turn false k = k

nothing_moved : (vs : List View) → vs ≡ map (moved_by []) vs
nothing_moved [] = refl
nothing_moved (v ∷ vs) = ap (λ ws. v ∷ ws) (nothing_moved vs)

all_views : (done : List Listed) (c : Catalog) → Pairs Differ done → all_refreshed done c ≡ record c { views = map (moved_by done) c.views }
all_views [] c apart = ap (λ vs. with_views c vs) (nothing_moved c.views)
  where
    with_views : Catalog → List View → Catalog
    with_views c vs = record c { views = vs }
all_views (l ∷ done) c apart =
    all_views done (change_view l.view.def.view (refreshed_to l.point) c) apart.1
    ∙ ap (with_views c) (map-map (moved_by done) (changed l.view.def.view (refreshed_to l.point)) c.views ∙ ap (λ f. map f c.views) (λ i v. moved_step l done apart.0 v i))
  where
    with_views : Catalog → List View → Catalog
    with_views c vs = record c { views = vs }

-- ---- what the checks before it say

abbrev pub Known : Catalog → List ℕ → Type 0
Known c name = (v : View) × (view_named c name ≡ Some v)

known : (c : Catalog) (earlier : List (List ℕ)) (name : List ℕ) → name_refusal c earlier name ≡ None → Known c name
known c earlier name e = by (view_named c name) refl (none_first (option_case (view_named c name) (Some (NoSuchObject name)) (λ v. None)) (where_true (has_text earlier name) (NameTaken name) ∷ []) e).0
  where
    by : (o : Option View) → view_named c name ≡ o → option_case o (Some (NoSuchObject name)) (λ v. None) ≡ None → Known c name
    by None h e = absurd (none-some (NoSuchObject name) (sym e))
    by (Some v) h e = (v, h)

all_known : (c : Catalog) (earlier names : List (List ℕ)) → first_after (name_refusal c) earlier names ≡ None → Each (Known c) names
all_known c earlier [] e = tt
all_known c earlier (name ∷ names) e =
    let both = none_first (name_refusal c earlier name) (first_after (name_refusal c) (earlier ++ name ∷ []) names ∷ []) e in
    let rest = none_first (first_after (name_refusal c) (earlier ++ name ∷ []) names) [] both.1 in
    (known c earlier name both.0, all_known c (earlier ++ name ∷ []) names rest.0)

each_named : {A B : Type 0} (P : B → Type 0) (f : A → Option B) (xs : List A) → Each P (filter_map f xs) → Each (λ x. (y : B) → f x ≡ Some y → P y) xs
each_named P f [] h = tt
each_named {A} {B} P f (x ∷ xs) h = by (f x) refl h (each_named P f xs)
  where
    by : (o : Option B) → f x ≡ o → Each P (cons_option o (filter_map f xs)) → (Each P (filter_map f xs) → Each (λ y. (z : B) → f y ≡ Some z → P z) xs) → Each (λ y. (z : B) → f y ≡ Some z → P z) (x ∷ xs)
    by None e h k = ((λ z same. absurd (none-some z (sym e ∙ same))), k h)
    by (Some y) e h k = ((λ z same. subst P (same_Some y z (sym e ∙ same)) h.0), k h.1)

find_any : {A : Type 0} (p : A → Bool) (xs : List A) → list_any p xs ≡ true → (x : A) × (find p xs ≡ Some x)
find_any p [] h = absurd (true≢false (sym h))
find_any {A} p (x ∷ xs) h = by (p x) h (find_any p xs)
  where
    by : (b : Bool) → (b || list_any p xs) ≡ true → (list_any p xs ≡ true → (y : A) × (find p xs ≡ Some y)) → (y : A) × (cond b (Some x) (find p xs) ≡ Some y)
    by true h k = (x, refl)
    by false h k = k h

pairs_unmap : {A B : Type 0} (R : B → B → Type 0) (f : A → B) (xs : List A) → Pairs R (map f xs) → Pairs (λ x y. R (f x) (f y)) xs
pairs_unmap R f [] h = tt
pairs_unmap R f (x ∷ xs) h = (each_unmap (R (f x)) f xs h.0, pairs_unmap R f xs h.1)

pairs_weaker : {A : Type 0} (R S : A → A → Type 0) → ((x y : A) → R x y → S x y) → (xs : List A) → Pairs R xs → Pairs S xs
pairs_weaker R S k [] h = tt
pairs_weaker R S k (x ∷ xs) h = (each_weaker (R x) (S x) (k x) xs h.0, pairs_weaker R S k xs h.1)

moved_number : (done : List Listed) (v : View) → (moved_by done v).def.view ≡ v.def.view
moved_number done v = by (find (λ l. l.view.def.view == v.def.view) done)
  where
    by : (o : Option Listed) → (option_case o v (λ l. refreshed_to l.point v)).def.view ≡ v.def.view
    by None = refl
    by (Some l) = refl

-- ---- the whole

module _ (now c : Catalog) (r : RefreshView) (numbered : AreNumbered c) (names : names_refusal c r ≡ None) (done : List Listed) (is : computed_list c r ≡ Ok done)
    (stays : first_of (moved_refusal now) (views_named c r) ≡ None) where
  all : Computes c [] (by_turns (views_named c r)) done
  all = computes c r [] (by_turns (views_named c r)) done is

  made : Made c [] (by_turns (views_named c r)) done
  made = subst (Made c [] (by_turns (views_named c r))) (sym all.out_is) all.made

  views_are : map (λ l. l.view) done ≡ by_turns (views_named c r)
  views_are = made_views c [] (by_turns (views_named c r)) done made

  follow : Pairs Follows (by_turns (views_named c r)) × Each (λ v. is_beneath v v ≡ false) (by_turns (views_named c r))
  follow = turns_follow (length (views_named c r)) (views_named c r)

  points : Each (λ l. Pointed c done l.view l.point) done
  points = all_pointed c [] (by_turns (views_named c r)) done made follow.0 follow.1

  apart : Pairs Differ done
  apart =
      pairs_weaker (λ l m. Follows l.view m.view) Differ (λ l m h. h.0) done
      (pairs_unmap Follows (λ l. l.view) done (subst (Pairs Follows) (sym views_are) follow.0))

  -- of a view that is named
  abbrev pub IsFound : View → Type 0
  IsFound v = find (λ u. u.def.view == v.def.view) c.views ≡ Some v

  found_all : Each IsFound (views_named c r)
  found_all = Each-given IsFound (view_named c) (λ name v e. found_number (λ u. same_text u.def.name name) c.views v numbered.ascending e) (all_names r)

  older_all : Each IsOlder (views_named c r)
  older_all = Each-given IsOlder (view_named c) (λ name v e. each_found IsOlder (λ u. same_text u.def.name name) c.views v numbered.older e) (all_names r)

  turn_all : Each (λ v. has_number_of (by_turns (views_named c r)) v ≡ true) (views_named c r)
  turn_all = all_turn (length (views_named c r)) (views_named c r) (omega arith) older_all

  listed_found : Each (λ l. IsFound l.view) done
  listed_found = each_unmap IsFound (λ l. l.view) done (subst (Each IsFound) (sym views_are) (turn_within IsFound (length (views_named c r)) (views_named c r) found_all))

  abbrev pub Fits : View → Type 0
  Fits v = ((has_number_of (by_turns (views_named c r)) v ≡ true) × IsFound v) × (moved_refusal now v ≡ None)

  fits_all : Each Fits (views_named c r)
  fits_all =
      Each-both (λ v. (has_number_of (by_turns (views_named c r)) v ≡ true) × IsFound v) (λ v. moved_refusal now v ≡ None) (views_named c r)
      (Each-both (λ v. has_number_of (by_turns (views_named c r)) v ≡ true) IsFound (views_named c r) turn_all found_all)
      (none_each (moved_refusal now) (views_named c r) stays)

  abbrev pub after : Catalog
  after = record now { views = map (moved_by done) now.views }

  still_there : (v : View) → moved_refusal now v ≡ None → (w : View) × (view_numbered now v.def.view ≡ Some w)
  still_there v e = by (view_numbered now v.def.view) refl e
    where
      by : (o : Option View) → view_numbered now v.def.view ≡ o
          → option_case o (Some (NoSuchObject v.def.name)) (λ w. where_true (not (option_nat_same v.point w.point)) (Overtaken v.def.name v.point w.point)) ≡ None
          → (w : View) × (view_numbered now v.def.view ≡ Some w)
      by None h e = absurd (none-some (NoSuchObject v.def.name) (sym e))
      by (Some w) h e = (w, h)

  has_moved : (name : List ℕ) (v : View) → view_named c name ≡ Some v → Fits v → HasMoved c now after done name
  has_moved name v named fits =
      let there = still_there v fits.1 in
      let at = find_any (λ l. l.view.def.view == v.def.view) done
      (sym (list_any-map (λ w. w.def.view == v.def.view) (λ l. l.view) done) ∙ ap (λ ws. has_number_of ws v) views_are ∙ fits.0.0) in
      let number : at.0.view.def.view ≡ v.def.view
      = eqb-true at.0.view.def.view v.def.view (find_passes (λ l. l.view.def.view == v.def.view) done at.0 at.1) in
      let same : at.0.view ≡ v
      = same_Some at.0.view v (sym (each_found (λ l. IsFound l.view) (λ l. l.view.def.view == v.def.view) done at.0 listed_found at.1) ∙ ap (λ k. find (λ u. u.def.view == k) c.views) number ∙ fits.0.1) in
      let point : Pointed c done v at.0.point
      = subst (λ w. Pointed c done w at.0.point) same (each_found (λ l. Pointed c done l.view l.point) (λ l. l.view.def.view == v.def.view) done at.0 points at.1) in
      let own : there.0.def.view ≡ v.def.view = find_has the_number v.def.view now.views there.0 there.1 in
      let becomes : moved_by done there.0 ≡ refreshed_to at.0.point there.0
      = ap (λ k. option_case (find (λ l. l.view.def.view == k) done) there.0 (λ l. refreshed_to l.point there.0)) own
      ∙ ap (λ o. option_case o there.0 (λ l. refreshed_to l.point there.0)) at.1 in
      record {
        view = v;
        named = named;
        before = there.0;
        found = there.1;
        point = at.0.point;
        after = find_changed the_number (moved_by done) (moved_number done) v.def.view now.views ∙ ap (option_map (moved_by done)) there.1 ∙ ap Some becomes;
        over_tables = point.0;
        over_view = point.1;
      }

  pub all_moved : AllMoved c now (all_refreshed done now) r
  all_moved =
      subst (λ d. AllMoved c now d r) (sym (all_views done now apart))
      (record {
        done = done;
        each = each_weaker (λ name. Known c name × ((v : View) → view_named c name ≡ Some v → Fits v)) (HasMoved c now after done)
            (λ name both. has_moved name both.0.0 both.0.1 (both.1 both.0.0 both.0.1)) (all_names r)
            (Each-both (Known c) (λ name. (v : View) → view_named c name ≡ Some v → Fits v) (all_names r)
            (all_known c [] (all_names r) names) (each_named Fits (view_named c) (all_names r) fits_all));
        rest = refl;
      })

-- ---- the step

views_move : (s : State) (c : Catalog) (r : RefreshView) → AreNumbered c → names_refusal c r ≡ None → (o : Result (List Listed) (ℕ × Refusal)) → computed_list c r ≡ o
    → Installed c s.catalog (install_views s c (views_named c r) o).state.catalog r
views_move s c r numbered names (Err p) e = None_moved refl
views_move s c r numbered names (Ok done) e = by (first_of (moved_refusal s.catalog) (views_named c r)) refl
  where
    by : (o : Option Refusal) → first_of (moved_refusal s.catalog) (views_named c r) ≡ o
        → Installed c s.catalog (option_case o (list_installed s c (views_named c r) done) (refused s (reads_so_far done))).state.catalog r
    by None h = All_moved (all_moved s.catalog c r numbered names done e h)
    by (Some code) h = None_moved refl

over_moves : (s : State) (c : Catalog) (r : RefreshView) → AreNumbered c → Installed c s.catalog (install_over s r c).state.catalog r
over_moves s c r numbered = by (names_refusal c r) refl
  where
    by : (o : Option Refusal) → names_refusal c r ≡ o → Installed c s.catalog (option_case o (install_views s c (views_named c r) (computed_list c r)) (refused s 0)).state.catalog r
    by None h = views_move s c r numbered h (computed_list c r) refl
    by (Some code) h = None_moved refl

pub lists_move_law : ListsMove
lists_move_law s x r b begun numbered = by_reads (only_reads x)
  where
    by_begun : (o : Option Begun) → o ≡ Some b → Installed b.image s.catalog (option_case o (refused s 0 (NoSuchObject r.name)) (λ d. install_over (ended s x) r d.image)).state.catalog r
    by_begun None e = absurd (none-some b e)
    by_begun (Some d) e =
        subst (λ (f : Begun). Installed b.image s.catalog (install_over (ended s x) r f.image).state.catalog r) (sym (same_Some d b e)) (over_moves (ended s x) b.image r numbered)

    by_reads : (k : Bool) → Installed b.image s.catalog (cond k (refused (ended s x) 0 OnlyReading) (option_case x.begun (refused s 0 (NoSuchObject r.name)) (λ d. install_over (ended s x) r d.image))).state.catalog r
    by_reads true = None_moved refl
    by_reads false = by_begun x.begun begun
