-- The words of an order, the parts of a session, and how often each is named.
use Rattle.std.proofs.Common.{◌≡◌, ℕ, ◌<◌, ◌+◌, suc, zero, List, [], ◌∷◌, ◌++◌, length, Bool, true, false, Some, None, Ok, cond, refl, ap, sym, subst, ◌∙◌, arith, append-nil, append_assoc, ◌⊎◌, get_or, inl, inr, Result, Err}
use Rattle.std.proofs.lemmas.Bool.{and_from, and_parts, false_from_ne_true, ltb-true, not-false}
use Rattle.std.proofs.lemmas.Bool.Decides.{nat_tests}
use Rattle.std.specs.List.{enumerate_from, list_any}
use Rattle.std.specs.Prelude.{◌==◌, ◌&&◌, ◌||◌, count_by, flat_map, is_none, map, not, option_to_list}
use Rattle.def_grammar.specs.Lines.{words_in}
use Rattle.def_grammar.specs.Script.{Draft, bad, is_section_of, is_too_long, is_unknown, order_by, order_fault, parts_in, sections_of, session_number, with_order, word_fault, words_fault}
use Rattle.wh_base.specs.Lists.{count_from, unless}
use Rattle.wh_base.specs.Parts.{command_entries, parts_of}
use Rattle.wh_base.specs.declared.statements.Command.{Command}
use Rattle.wh_base.specs.declared.statements.ScriptKind.{ScriptKind}
use Rattle.wh_base.specs.declared.statements.Section.{Section}
use Rattle.wh_script.proofs.Counts.{count_by-append}
use Rattle.wh_script.specs.Drafts.{is_named_too_often, numbers_behind}
use Rattle.wh_script.specs.Sections.{Gives}
use Rattle.wh_script.specs.declared.fault.ScriptFault.{ScriptFault}
use Rattle.wh_script.specs.declared.fault.ScriptFault.TheVariants as faults

none_here : (line : ℕ) (done w : List ℕ) (ws : List (List ℕ)) → session_number w ≡ None → numbers_behind line done (w ∷ ws) ≡ Err (bad line (word_fault w))
none_here line done w ws e = rw e refl

some_here : (line : ℕ) (done w : List ℕ) (ws : List (List ℕ)) (n : ℕ) → session_number w ≡ Some n → numbers_behind line (done ++ n ∷ []) ws ≡ numbers_behind line done (w ∷ ws)
some_here line done w ws n e = rw e (by_test (list_any is_none (map session_number ws)))
  where
    by_test : (t : Bool) → cond t (Err (bad line (words_fault ws))) (Ok ((done ++ n ∷ []) ++ flat_map option_to_list (map session_number ws))) ≡ cond t (Err (bad line (words_fault ws))) (Ok (done ++ n ∷ flat_map option_to_list (map session_number ws)))
    by_test true = refl
    by_test false = ap Ok (append_assoc done (n ∷ []) (flat_map option_to_list (map session_number ws)))

pub numbers-none : (line : ℕ) (done bs w rest : List ℕ) (kind : ScriptKind) → words_in bs ≡ w ∷ words_in rest → session_number w ≡ None → kind ≡ word_fault w → numbers_behind line done (words_in bs) ≡ Err (bad line kind)
numbers-none line done bs w rest kind e n k = ap (numbers_behind line done) e ∙ none_here line done w (words_in rest) n ∙ ap (λ x. Err (bad line x)) (sym k)

pub numbers-some : (line : ℕ) (done bs w rest : List ℕ) (n : ℕ) → words_in bs ≡ w ∷ words_in rest → session_number w ≡ Some n → numbers_behind line (done ++ n ∷ []) (words_in rest) ≡ numbers_behind line done (words_in bs)
numbers-some line done bs w rest n e f = some_here line done w (words_in rest) n f ∙ ap (numbers_behind line done) (sym e)

pub numbers-end : (line : ℕ) (done bs : List ℕ) → words_in bs ≡ [] → numbers_behind line done (words_in bs) ≡ Ok done
numbers-end line done bs e = ap (numbers_behind line done) e ∙ ap Ok (append-nil done)

pub ruleset numbers = (numbers-none, numbers-some, numbers-end)

-- ---- the parts of a session

abbrev pub parts_behind : ℕ → ℕ → List Command → ℕ
parts_behind session k cs = length (flat_map (command_entries session) (enumerate_from k cs))

length-count_from : (start n : ℕ) → length (count_from start n) ≡ n
length-count_from start zero = refl
length-count_from start (suc n) = ap suc (length-count_from (suc start) n)

length-map : {A B : Type 0} (f : A → B) (xs : List A) → length (map f xs) ≡ length xs
length-map f [] = refl
length-map f (x ∷ xs) = ap suc (length-map f xs)

length-both : {A : Type 0} (xs ys : List A) → length (xs ++ ys) ≡ length xs + length ys
length-both [] ys = omega arith
length-both (x ∷ xs) ys = let rest : length (xs ++ ys) ≡ length xs + length ys = length-both xs ys in omega (arith, rest)

pub parts_behind-more : (session k : ℕ) (c : Command) (cs : List Command) → parts_behind session k (c ∷ cs) ≡ parts_of c + parts_behind session (k + 1) cs
parts_behind-more session k c cs =
    length-both (command_entries session (k, c)) (flat_map (command_entries session) (enumerate_from (k + 1) cs))
    ∙ ap (λ n. n + parts_behind session (k + 1) cs) (length-map _ (count_from 1 (parts_of c)) ∙ length-count_from 1 (parts_of c))

pub ruleset parts = (parts_behind-more)

-- ---- sessions named too often

abbrev pub Among : {A : Type 0} → A → List A → Type 0
Among x [] = ⊥
Among x (y ∷ ys) = (x ≡ y) ⊎ Among x ys

any_here : {A : Type 0} (p : A → Bool) (xs : List A) (x : A) → Among x xs → p x ≡ true → list_any p xs ≡ true
any_here p [] x h e = absurd h
any_here p (y ∷ ys) x (inl same) e = let here : p y ≡ true = subst (λ z. p z ≡ true) same e in rw here refl
any_here p (y ∷ ys) x (inr more) e = or_right (p y) (list_any p ys) (any_here p ys x more e)
  where
    or_right : (a b : Bool) → b ≡ true → (a || b) ≡ true
    or_right true b h = refl
    or_right false b h = h

any_found : {A : Type 0} (p : A → Bool) (xs : List A) → list_any p xs ≡ true → (x : A) × Among x xs × (p x ≡ true)
any_found p [] h = cc
any_found p (y ∷ ys) h = by_test (p y) refl h (λ k. any_found p ys k)
  where
    by_test : (t : Bool) → p y ≡ t → (t || list_any p ys) ≡ true → (list_any p ys ≡ true → (x : _) × Among x ys × (p x ≡ true)) → (x : _) × Among x (y ∷ ys) × (p x ≡ true)
    by_test true e k more = (y, inl refl, e)
    by_test false e k more = let found = more k in (found.0, inr found.1, found.2)

counted : (n : ℕ) (ns : List ℕ) → 0 < count_by (λ m. m == n) ns → Among n ns
counted n [] h = absurd (omega (arith, h))
counted n (m ∷ ns) h = by_test (m == n) refl (subst (λ k. 0 < k) (count_by-append (λ k. k == n) (m ∷ []) ns) h) (λ k. counted n ns k)
  where
    by_test : (t : Bool) → (m == n) ≡ t → 0 < 0 + cond t 1 0 + count_by (λ k. k == n) ns → (0 < count_by (λ k. k == n) ns → Among n ns) → Among n (m ∷ ns)
    by_test true e k more = inl (grind (arith, nat_tests, e))
    by_test false e k more = inr (more (omega (arith, k)))

-- an item that passes, at a place
any_there : {A : Type 0} (p : A → Bool) (xs : List A) (i : ℕ) (d : A) → i < length xs → p (get_or xs i d) ≡ true → list_any p xs ≡ true
any_there p [] i d h e = absurd (omega (arith, h))
any_there p (y ∷ ys) zero d h e = rw e refl
any_there p (y ∷ ys) (suc i) d h e = either (p y) (any_there p ys i d (omega (arith, h)) e)
  where
    either : (t : Bool) → list_any p ys ≡ true → (t || list_any p ys) ≡ true
    either true k = refl
    either false k = k

pub any_at : {A : Type 0} (p : A → Bool) (xs : List A) (i : ℕ) (x : A) → i < length xs → x ≡ get_or xs i x → p x ≡ true → list_any p xs ≡ true
any_at p xs i x h e f = any_there p xs i x h (subst (λ z. p z ≡ true) e f)

bool_same : (a b : Bool) → (a ≡ true → b ≡ true) → (b ≡ true → a ≡ true) → a ≡ b
bool_same true b f g = sym (f refl)
bool_same false true f g = g refl
bool_same false false f g = refl

-- a session that is named too often is named
named : (sections : List Section) (ns : List ℕ) (n : ℕ) → is_too_long sections ns n ≡ true → Among n ns
named sections ns n h = let less : parts_in sections n < count_by (λ m. m == n) ns = ltb-true (parts_in sections n) (count_by (λ m. m == n) ns) h in counted n ns (omega (arith, less))

pub too_long-by_section : (sections : List Section) (ns : List ℕ) → list_any (is_unknown sections) ns ≡ false → list_any (is_named_too_often sections ns) sections ≡ list_any (is_too_long sections ns) ns
too_long-by_section sections ns known = bool_same _ _ to from
  where
    to : list_any (is_named_too_often sections ns) sections ≡ true → list_any (is_too_long sections ns) ns ≡ true
    to h =
        let found = any_found (is_named_too_often sections ns) sections h in
        let long : is_too_long sections ns (found.0).session ≡ true = (and_parts (not ((found.0).session == 0)) (is_too_long sections ns (found.0).session) found.2).1 in
        any_here (is_too_long sections ns) ns (found.0).session (named sections ns (found.0).session long) long

    here : (n : ℕ) → Among n ns → list_any (is_section_of n) sections ≡ true
    here n among =
        let no : is_unknown sections n ≡ false = false_from_ne_true (is_unknown sections n) (λ e. let all : list_any (is_unknown sections) ns ≡ true = any_here (is_unknown sections) ns n among e in cc) in
        not-false (list_any (is_section_of n) sections) no

    from : list_any (is_too_long sections ns) ns ≡ true → list_any (is_named_too_often sections ns) sections ≡ true
    from h =
        let found = any_found (is_too_long sections ns) ns h in
        let section = any_found (is_section_of found.0) sections (here found.0 found.1) in
        let test : ((section.0).session == found.0) ≡ true = (and_parts ((section.0).session == found.0) (not (found.0 == 0)) section.2).0 in
        let same : (section.0).session ≡ found.0 = grind (arith, nat_tests, test) in
        let some : not (found.0 == 0) ≡ true = (and_parts ((section.0).session == found.0) (not (found.0 == 0)) section.2).1 in
        any_here (is_named_too_often sections ns) sections section.0 section.1
        (subst (λ n. (not (n == 0) && is_too_long sections ns n) ≡ true) (sym same) (and_from (not (found.0 == 0)) (is_too_long sections ns found.0) some found.2))

pub ruleset sections = (too_long-by_section)

-- ---- the step

pub order-gives : (r : Result Draft ScriptFault) (d : Draft) (line : ℕ) (ns : List ℕ) (ws : List (List ℕ)) → numbers_behind line [] ws ≡ Ok ns → Gives r (unless (order_fault (sections_of d) line ns) (with_order d ns)) → Gives r (order_by d line (words_fault ws) (map session_number ws))
order-gives r d line ns ws e h = by_test (list_any is_none (map session_number ws)) e
  where
    by_test : (t : Bool) → cond t (Err (bad line (words_fault ws))) (Ok (flat_map option_to_list (map session_number ws))) ≡ Ok ns
        → Gives r (cond t (Err (bad line (words_fault ws))) (unless (order_fault (sections_of d) line (flat_map option_to_list (map session_number ws))) (with_order d (flat_map option_to_list (map session_number ws)))))
    by_test true k = cc
    by_test false k = let same : ns ≡ flat_map option_to_list (map session_number ws) = cc in subst (λ ms. Gives r (unless (order_fault (sections_of d) line ms) (with_order d ms))) same h

pub order-refused : (d : Draft) (line : ℕ) (f : ScriptFault) (ws : List (List ℕ)) → Gives (Err f) (numbers_behind line [] ws) → Gives (Err f) (order_by d line (words_fault ws) (map session_number ws))
order-refused d line faults.Memory ws e = tt
order-refused d line (faults.Bad b) ws e = by_test (list_any is_none (map session_number ws)) e
  where
    by_test : (t : Bool) → cond t (Err (bad line (words_fault ws))) (Ok (flat_map option_to_list (map session_number ws))) ≡ Err b
        → cond t (Err (bad line (words_fault ws))) (unless (order_fault (sections_of d) line (flat_map option_to_list (map session_number ws))) (with_order d (flat_map option_to_list (map session_number ws)))) ≡ Err b
    by_test true k = let same : bad line (words_fault ws) ≡ b = cc in ap (λ x. Err x) same
    by_test false k = cc

pub ruleset orders = (order-gives, order-refused)
