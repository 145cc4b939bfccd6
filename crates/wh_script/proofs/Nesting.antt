-- The names of the views of commands, with those of one command more, and whether a view may stand over a view.
use Rattle.std.proofs.Common.{◌≡◌, ◌∙◌, ℕ, List, [], ◌∷◌, ◌++◌, Bool, true, false, cond, Option, Some, None, refl, ap, sym, subst, ◌||◌, append-nil, append_assoc}
use Rattle.std.proofs.Math.Bool.{or-false, or_assoc}
use Rattle.std.proofs.lemmas.Grind.{flat_map-append}
use Rattle.std.proofs.lemmas.List.Folds.{list_any-append}
use Rattle.std.specs.Cmp.Lexicographic.{nat_list_eq_equiv, pointwise}
use Rattle.std.specs.HashSet.{HashSet, Updates}
use Rattle.std.specs.List.{list_any}
use Rattle.std.specs.Prelude.{flat_map, nat_eq, not, option_map, option_to_list}
use Rattle.def_built.specs.Form.{created_by, created_over, views_are_built}
use Rattle.def_built.specs.Forms.{is_built}
use Rattle.def_built.specs.declared.forms.Form.TheVariants as forms
use Rattle.wh_base.specs.Lists.{has_text, same_text}
use Rattle.wh_base.specs.declared.statements.Command.{Command}
use Rattle.wh_base.specs.declared.statements.Section.{Section}
use Rattle.wh_script.specs.Drafts.{one_more}
use Rattle.wh_script.specs.Known.{AreMore, HasMore, IsMore, Knows, commands_of, nests_with}
use Rattle.wh_script.specs.declared.view_names.ViewNames.{ViewNames}

-- ---- one name

pub one-found : (found p : Bool) → found ≡ p → found ≡ (p || false)
one-found found p e = e ∙ sym (or-false p)

pub one-same : (same p : Bool) → same ≡ p → same ≡ ((p || false) || false)
one-same same p e = e ∙ sym (or-false p) ∙ sym (or-false (p || false))

pub ruleset ones = (one-found, one-same)

-- ---- sets of names

added : (same found : Bool) → cond same true found ≡ (found || (same || false))
added true true = refl
added true false = refl
added false true = refl
added false false = refl

same_text-swap : (a b : List ℕ) → same_text a b ≡ same_text b a
same_text-swap a b = nat_list_eq_equiv.symm a b

pub more-none : (names : List (List ℕ)) → HasMore names [] names
more-none names = record { has = λ n. sym (or-false (has_text names n)) }

pub more-one : {S : Type 0} (old new : HashSet (List ℕ) S) (name : List ℕ) → Updates (pointwise nat_eq) old new name true → HasMore old.keys (name ∷ []) new.keys
more-one old new name updates =
    record {
      has = λ n.
          updates.0 n ∙ added (same_text name n) (has_text old.keys n) ∙ ap (λ b. has_text old.keys n || (b || false)) (same_text-swap name n);
    }

pub ruleset sets = (more-none, more-one)

-- ---- names among other names

any-same : {A : Type 0} (p q : A → Bool) (xs : List A) → ((x : A) → p x ≡ q x) → list_any p xs ≡ list_any q xs
any-same p q [] h = refl
any-same p q (x ∷ xs) h =
    let first = h x in
    let more = any-same p q xs h in
    λ i. first i || more i

swapped : (a b c d : Bool) → ((a || b) || (c || d)) ≡ ((a || c) || (b || d))
swapped true b c d = refl
swapped false true true d = refl
swapped false true false d = refl
swapped false false true d = refl
swapped false false false d = refl

any-either : {A : Type 0} (p q : A → Bool) (xs : List A) → list_any (λ x. p x || q x) xs ≡ (list_any p xs || list_any q xs)
any-either p q [] = refl
any-either p q (x ∷ xs) = ap (λ b. (p x || q x) || b) (any-either p q xs) ∙ swapped (p x) (q x) (list_any p xs) (list_any q xs)

has-append : (xs ys : List (List ℕ)) (n : List ℕ) → has_text (xs ++ ys) n ≡ (has_text xs n || has_text ys n)
has-append xs ys n = list_any-append (same_text n) xs ys

has_none : (ys : List (List ℕ)) → list_any (has_text []) ys ≡ false
has_none [] = refl
has_none (y ∷ ys) = has_none ys

-- two lists of names have one in common, whichever goes first
meet-swap : (xs ys : List (List ℕ)) → list_any (has_text xs) ys ≡ list_any (has_text ys) xs
meet-swap [] ys = has_none ys
meet-swap (x ∷ xs) ys =
    any-either (λ y. same_text y x) (has_text xs) ys
    ∙ ap (λ b. b || list_any (has_text xs) ys) (any-same (λ y. same_text y x) (same_text x) ys (λ y. same_text-swap y x))
    ∙ ap (λ b. has_text ys x || b) (meet-swap xs ys)

meet-both : (xs more ys : List (List ℕ)) → list_any (has_text (xs ++ more)) ys ≡ (list_any (has_text xs) ys || list_any (has_text more) ys)
meet-both xs more ys = any-same (has_text (xs ++ more)) (λ y. has_text xs y || has_text more y) ys (has-append xs more) ∙ any-either (has_text xs) (has_text more) ys

-- with names more on both sides
meet-more : (xs more ys over : List (List ℕ)) → list_any (has_text (xs ++ more)) (ys ++ over) ≡ (list_any (has_text xs) ys || (list_any (has_text ys) more || (list_any (has_text xs) over || list_any (has_text more) over)))
meet-more xs more ys over =
    let first : list_any (has_text (xs ++ more)) ys ≡ (list_any (has_text xs) ys || list_any (has_text ys) more) = meet-both xs more ys ∙ ap (λ b. list_any (has_text xs) ys || b) (meet-swap more ys) in
    let second = meet-both xs more over in
    list_any-append (has_text (xs ++ more)) ys over
    ∙ (λ i. first i || second i)
    ∙ or_assoc (list_any (has_text xs) ys) (list_any (has_text ys) more) (list_any (has_text xs) over || list_any (has_text more) over)

-- ---- one command more

behind_last : {A B : Type 0} (f : A → List B) (xs : List A) (x : A) → flat_map f (xs ++ x ∷ []) ≡ flat_map f xs ++ f x
behind_last f xs x = flat_map-append f xs (x ∷ []) ∙ ap (λ ys. flat_map f xs ++ ys) (append-nil (f x))

commands-more : (before : List Section) (s : Section) (c : Command) → commands_of (before ++ one_more c s ∷ []) ≡ commands_of (before ++ s ∷ []) ++ c ∷ []
commands-more before s c =
    behind_last (λ (t : Section). t.commands) before (one_more c s)
    ∙ sym (append_assoc (commands_of before) s.commands (c ∷ []))
    ∙ ap (λ cs. cs ++ c ∷ []) (sym (behind_last (λ (t : Section). t.commands) before s))

knows_more : (v w : ViewNames) (c : Command) (old new : List Section) → commands_of new ≡ commands_of old ++ c ∷ [] → Knows v old → IsMore v c w → Knows w new
knows_more v w c old new e k m =
    let xs = flat_map created_by (commands_of old) in
    let ys = flat_map created_over (commands_of old) in
    let by : flat_map created_by (commands_of new) ≡ xs ++ created_by c = ap (flat_map created_by) e ∙ behind_last created_by (commands_of old) c in
    let upon : flat_map created_over (commands_of new) ≡ ys ++ created_over c = ap (flat_map created_over) e ∙ behind_last created_over (commands_of old) c in
    let known = k.nested in
    let under : list_any (has_text v.over) (created_by c) ≡ list_any (has_text ys) (created_by c) = any-same (has_text v.over) (has_text ys) (created_by c) k.upon in
    let over : list_any (has_text v.made) (created_over c) ≡ list_any (has_text xs) (created_over c) = any-same (has_text v.made) (has_text xs) (created_over c) k.by in
    record {
      by = λ n. m.by.has n ∙ ap (λ b. b || has_text (created_by c) n) (k.by n) ∙ sym (has-append xs (created_by c) n) ∙ ap (λ ns. has_text ns n) (sym by);
      upon = λ n. m.upon.has n ∙ ap (λ b. b || has_text (created_over c) n) (k.upon n) ∙ sym (has-append ys (created_over c) n) ∙ ap (λ ns. has_text ns n) (sym upon);
      nested =
          m.nested
          ∙ (λ i. known i || (under i || (over i || list_any (has_text (created_by c)) (created_over c))))
          ∙ sym (meet-more xs (created_by c) ys (created_over c))
          ∙ sym (λ i. list_any (has_text (by i)) (upon i));
    }

pub is-more : (v : ViewNames) (c : Command) (made over by upon : List (List ℕ)) (nest : Bool) → by ≡ created_by c → upon ≡ created_over c → HasMore v.made by made → HasMore v.over upon over → nest ≡ (v.nest || nests_with v c) → IsMore v c (record { made = made; over = over; nest = nest })
is-more v c made over by upon nest e f h k n =
    record { by = subst (λ ns. HasMore v.made ns made) e h; upon = subst (λ ns. HasMore v.over ns over) f k; nested = n }

pub ruleset mores = (is-more)

-- ---- sections

knows_along : (v : ViewNames) (xs ys : List Section) → commands_of xs ≡ commands_of ys → Knows v xs → Knows v ys
knows_along v xs ys e k = record {
  by = λ n. k.by n ∙ ap (λ cs. has_text (flat_map created_by cs) n) e;
  upon = λ n. k.upon n ∙ ap (λ cs. has_text (flat_map created_over cs) n) e;
  nested = k.nested ∙ ap (λ cs. list_any (has_text (flat_map created_by cs)) (flat_map created_over cs)) e;
}

-- nothing read
pub knows-none : (v : ViewNames) (before : List Section) → v ≡ record { made = []; over = []; nest = false } → before ≡ [] → Knows v (before ++ [])
knows-none v before e f = rw (e, f) (record { by = λ n. refl; upon = λ n. refl; nested = refl })

-- a command more in the section that goes on
pub knows-with : (v w : ViewNames) (before : List Section) (now new : Option Section) (c : Command) → new ≡ option_map (one_more c) now → AreMore now c v w → Knows v (before ++ option_to_list now) → Knows w (before ++ option_to_list new)
knows-with v w before now new c e m k = subst (λ o. Knows w (before ++ option_to_list o)) (sym e) (by_section now m k)
  where
    by_section : (o : Option Section) → AreMore o c v w → Knows v (before ++ option_to_list o) → Knows w (before ++ option_to_list (option_map (one_more c) o))
    by_section None n h = subst (λ u. Knows u (before ++ [])) (sym n) h
    by_section (Some s) n h = knows_more v w c (before ++ s ∷ []) (before ++ one_more c s ∷ []) (commands-more before s c) h n

-- all sections so far
pub knows-same : (v : ViewNames) (xs ys : List Section) → xs ≡ ys → Knows v ys → Knows v xs
knows-same v xs ys e k = subst (Knows v) (sym e) k

-- a new section behind them
pub knows-begun : (v : ViewNames) (all xs : List Section) (n : ℕ) (cs : List Command) → xs ≡ all → cs ≡ [] → Knows v all → Knows v (xs ++ record { session = n; commands = cs } ∷ [])
knows-begun v all xs n cs e f k =
    rw (e, f) (knows_along v all (all ++ record { session = n; commands = [] } ∷ []) (sym (behind_last (λ (t : Section). t.commands) all (record { session = n; commands = [] }) ∙ append-nil (commands_of all))) k)

-- no section behind them
pub knows-ended : (v : ViewNames) (all xs : List Section) → xs ≡ all → Knows v all → Knows v (xs ++ [])
knows-ended v all xs e k = subst (Knows v) (sym (append-nil xs ∙ e)) k

pub ruleset known = (knows-none, knows-with, knows-same, knows-begun, knows-ended)

-- ---- whether that is built

pub views-built : (v : ViewNames) (sections : List Section) → Knows v sections → (not v.nest || is_built forms.Nested) ≡ views_are_built sections
views-built v sections k = ap (λ b. not b || is_built forms.Nested) k.nested

pub ruleset built = (views-built)
