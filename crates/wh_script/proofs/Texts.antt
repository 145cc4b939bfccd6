-- The statements of a text, one after another.
use Rattle.std.proofs.Common.{◌≡◌, ℕ, ◌+◌, ◌-◌, ◌<◌, ◌≤◌, List, [], ◌∷◌, ◌++◌, length, drop, take, Bool, true, false, cond, Option, Some, None, Result, Ok, Err, refl, ap, sym, subst, ◌∙◌, arith, ◌&&◌, ◌⊎◌, inl, inr, append_assoc, append-nil, length-drop, length-take}
use Rattle.std.proofs.Math.ListN.{drop_of_length-le}
use Rattle.std.proofs.lemmas.Bool.{and_from, and_left, and_parts, cases_lt, le-leb, le-ltb, leb-false, leb-true, lt-leb, lt-ltb, ltb-false, ltb-true, true≢false}
use Rattle.std.proofs.lemmas.List.{drop-take, take-take}
use Rattle.std.proofs.lemmas.List.Folds.{length-prefix_len}
use Rattle.std.proofs.lemmas.List.Sums.{take_while-cons}
use Rattle.std.specs.List.{list_all}
use Rattle.std.specs.Prelude.{IfOk, IfSome, codes, map, nat_le, nat_lt, not, option_map, option_to_list, take_while, unwrap_or}
use Rattle.def_built.specs.Form.{draft_is_built}
use Rattle.def_grammar.specs.Forms.{tokens_or_none}
use Rattle.def_grammar.specs.Reading.{same_token_kind}
use Rattle.def_grammar.specs.Script as script
use Rattle.def_grammar.specs.Script.{Draft, Element, Stated, Unreadable, bad, broken_elements_by, elements_by, fault_element, fault_place, is_broken_in, line_at, read_from, split_statements, statement_place, take_statement, text_elements, tokens_before, unclosed, where_built}
use Rattle.wh_base.specs.Lists.{first_some, head, option_case, same_text}
use Rattle.wh_base.specs.declared.statements.ScriptKind.{ScriptKind}
use Rattle.wh_base.specs.declared.statements.ScriptKind.TheVariants as script_kinds
use Rattle.wh_base.specs.declared.tokens.Token.{Token}
use Rattle.wh_base.specs.declared.tokens.TokenKind.{TokenKind}
use Rattle.wh_base.specs.declared.tokens.TokenKind.TheVariants as kinds
use Rattle.wh_lex.specs.Lex.{IsClosed, IsFaultOf, IsStatement, ends_statement, statement_at, token_fits, tokens_at, tokens_from, with_front}
use Rattle.wh_lex.specs.Lex.{Gives as LexGives, is_semicolon as closes}
use Rattle.wh_lex.specs.declared.lex.LexFault.{LexFault}
use Rattle.wh_lex.specs.declared.lex.LexFault.TheVariants as lex
use Rattle.wh_lex.specs.declared.lex.StatementTokens.{StatementTokens}
use Rattle.wh_script.proofs.Before.{ArePlaced, IsBetween, before-all, before-cut, before-inner, before-statement, fault-between, good_tokens, placed-before, statement-narrow, statement-placed}
use Rattle.wh_script.specs.Drafts.{stated}
use Rattle.wh_script.specs.Pieces.{IsTaken}
use Rattle.wh_script.specs.Sections.{Gives}
use Rattle.wh_script.specs.Texts.{IsMark, IsNext, IsOpen, IsReadOn, after_text, cut, draft_of, elements_at, elements_up_to, first_place, is_broken_by, statement_elements, stopped_elements, unreadable}
use Rattle.wh_script.specs.declared.fault.ScriptFault.{ScriptFault}
use Rattle.wh_script.specs.declared.fault.ScriptFault.TheVariants as faults
use Rattle.wh_script.specs.declared.text.TextAt.{TextAt}

-- ---- tokens and the statements that they are

same_semicolon : (k : TokenKind) (text : List ℕ) → (same_token_kind k kinds.Mark && same_text text (codes ";")) ≡ closes k text
same_semicolon kinds.Name text = refl
same_semicolon kinds.Number text = refl
same_semicolon kinds.Text text = refl
same_semicolon kinds.Mark text = refl

head_open : (p q : Bool) → (not p && q) ≡ true → p ≡ false
head_open true q h = cc
head_open false q h = refl

tail_open : (p q : Bool) → (not p && q) ≡ true → q ≡ true
tail_open true q h = cc
tail_open false q h = h

-- tokens before a semicolon are one statement
split-closed : (done ts : List Token) (t : Token) (more : List Token) → list_all (λ u. not (ends_statement u)) ts ≡ true → ends_statement t ≡ true → split_statements done ((ts ++ t ∷ []) ++ more) ≡ record { tokens = done ++ ts; closed = Some t } ∷ split_statements [] more
split-closed done [] t more h e = rw (same_semicolon t.kind t.text, e, append-nil done) refl
split-closed done (u ∷ ts) t more h e =
    let stays : ends_statement u ≡ false = head_open (ends_statement u) (list_all (λ v. not (ends_statement v)) ts) h in
    rw (same_semicolon u.kind u.text, stays)
    (split-closed (done ++ u ∷ []) ts t more (tail_open (ends_statement u) (list_all (λ v. not (ends_statement v)) ts) h) e
    ∙ ap (λ us. record { tokens = us; closed = Some t } ∷ split_statements [] more) (append_assoc done (u ∷ []) ts))

-- tokens without a semicolon are a statement that isn't closed
split-open : (done ts : List Token) → list_all (λ u. not (ends_statement u)) ts ≡ true → split_statements done ts ≡ unclosed (done ++ ts)
split-open done [] h = ap unclosed (sym (append-nil done))
split-open done (u ∷ ts) h =
    let stays : ends_statement u ≡ false = head_open (ends_statement u) (list_all (λ v. not (ends_statement v)) ts) h in
    rw (same_semicolon u.kind u.text, stays)
    (split-open (done ++ u ∷ []) ts (tail_open (ends_statement u) (list_all (λ v. not (ends_statement v)) ts) h) ∙ ap unclosed (append_assoc done (u ∷ []) ts))

abbrev pub element_by : List Token → Option Token → List Element
element_by ts o = option_case o (map Stated (unclosed ts)) (λ t. Stated (record { tokens = ts; closed = Some t }) ∷ [])

-- the elements of a statement's tokens and what follows, which is nothing where it isn't closed
stated-front : (ts : List Token) (o : Option Token) (more : List Token) → list_all (λ u. not (ends_statement u)) ts ≡ true → ((t : Token) → o ≡ Some t → ends_statement t ≡ true) → (o ≡ None → more ≡ []) → script.stated ((ts ++ option_to_list o) ++ more) ≡ element_by ts o ++ script.stated more
stated-front ts (Some t) more inner ends none = ap (map Stated) (split-closed [] ts t more inner (ends t refl))
stated-front ts None more inner ends none =
    let empty : more ≡ [] = none refl in
    rw empty (rw (append-nil ts, append-nil ts) (ap (map Stated) (split-open [] ts inner) ∙ sym (append-nil (map Stated (unclosed ts)))))

-- ---- the items of a list before the first that fails

front_kept : {A : Type 0} (p : A → Bool) (xs ys : List A) → list_all p xs ≡ true → take_while p (xs ++ ys) ≡ xs ++ take_while p ys
front_kept p [] ys h = refl
front_kept p (x ∷ xs) ys h =
    let each = and_parts (p x) (list_all p xs) h in
    take_while-cons p x (xs ++ ys) ∙ ap (λ b. cond b (x ∷ take_while p (xs ++ ys)) []) each.0 ∙ ap (λ zs. x ∷ zs) (front_kept p xs ys each.1)

front_stops : {A : Type 0} (p : A → Bool) (xs : List A) (y : A) (ys : List A) → p y ≡ false → take_while p ((xs ++ y ∷ []) ++ ys) ≡ take_while p xs
front_stops p [] y ys h = take_while-cons p y ys ∙ ap (λ b. cond b (y ∷ take_while p ys) []) h
front_stops p (x ∷ xs) y ys h =
    take_while-cons p x ((xs ++ y ∷ []) ++ ys) ∙ ap (λ zs. cond (p x) (x ∷ zs) []) (front_stops p xs y ys h) ∙ sym (take_while-cons p x xs)

front_passes : {A : Type 0} (p q : A → Bool) (xs : List A) → list_all q xs ≡ true → list_all q (take_while p xs) ≡ true
front_passes p q [] h = refl
front_passes p q (x ∷ xs) h =
    let each = and_parts (q x) (list_all q xs) h in
    subst (λ zs. list_all q zs ≡ true) (sym (take_while-cons p x xs)) (by_test (p x) each.0 (front_passes p q xs each.1))
  where
    by_test : (b : Bool) → q x ≡ true → list_all q (take_while p xs) ≡ true → list_all q (cond b (x ∷ take_while p xs) []) ≡ true
    by_test true e more = rw e more
    by_test false e more = refl

-- the tokens before a place by how many they are
pub cut-tokens : (place : ℕ) (ts : List Token) (n : ℕ) → n ≡ length (take_while (λ t. nat_lt t.start place) ts) → take n ts ≡ tokens_before place ts
cut-tokens place ts n e = ap (λ k. take k ts) (e ∙ length-prefix_len (λ t. nat_lt t.start place) ts)

pub ruleset cut_tokens = (cut-tokens)

-- no token of a text before a place is a semicolon where none of the text's is
before_open : (place : ℕ) (ts : List Token) → list_all (λ u. not (ends_statement u)) ts ≡ true → script.stated (tokens_before place ts) ≡ map Stated (unclosed (tokens_before place ts))
before_open place ts h = ap (map Stated) (split-open [] (tokens_before place ts) (front_passes (λ t. nat_lt t.start place) (λ u. not (ends_statement u)) ts h))

-- ---- the elements of a text by its tokens before its first fault

abbrev pub fault_of : Result (List Token) LexFault → List Element
fault_of (Ok ts) = []
fault_of (Err e) = fault_element e

elements_of_text : (place : ℕ) (bytes : List ℕ) → elements_by place bytes (tokens_from 0 place bytes) ≡ script.stated (good_tokens 0 place bytes) ++ fault_of (tokens_from 0 place bytes)
elements_of_text place bytes = by_tokens (tokens_from 0 place bytes) refl
  where
    by_tokens : (r : Result (List Token) LexFault) → tokens_from 0 place bytes ≡ r → elements_by place bytes r ≡ script.stated (good_tokens 0 place bytes) ++ fault_of r
    by_tokens (Ok ts) h = ap script.stated (sym (before-all 0 place bytes ts h)) ∙ sym (append-nil _)
    by_tokens (Err e) h =
        let kept : tokens_from 0 place (take (fault_place e - place) bytes) ≡ Ok (good_tokens 0 place bytes) = before-cut place bytes e h in
        rw kept refl

-- ---- where a byte is no UTF-8

-- the text has a fault before this place
abbrev pub IsEarly : ℕ → Result (List Token) LexFault → Type 0
IsEarly valid (Ok ts) = ⊥
IsEarly valid (Err e) = fault_place e < valid

-- it has none
abbrev pub IsLate : ℕ → Result (List Token) LexFault → Type 0
IsLate valid (Ok ts) = Unit {0}
IsLate valid (Err e) = valid ≤ fault_place e

abbrev pub broken_end : ℕ → List Element
broken_end valid = Unreadable script_kinds.NotUtf8 valid ∷ []

-- a text without that byte, or with a fault before it
elements_plain : (valid at : ℕ) (bytes : List ℕ) → (is_broken_in valid at (length bytes) ≡ true → IsEarly valid (tokens_from 0 at bytes)) → text_elements valid at bytes ≡ elements_by at bytes (tokens_from 0 at bytes)
elements_plain valid at bytes early = by_test (is_broken_in valid at (length bytes)) (tokens_from 0 at bytes) early
  where
    by_test : (b : Bool) (r : Result (List Token) LexFault) → (b ≡ true → IsEarly valid r) → cond b (broken_elements_by at bytes valid r) (elements_by at bytes r) ≡ elements_by at bytes r
    by_test false r h = refl
    by_test true (Ok ts) h = absurd (h refl)
    by_test true (Err e) h = rw (lt-ltb (fault_place e) valid (h refl)) refl

-- a text with it and with no fault before it
elements_broken : (valid at : ℕ) (bytes : List ℕ) → is_broken_in valid at (length bytes) ≡ true → IsLate valid (tokens_from 0 at bytes) → text_elements valid at bytes ≡ script.stated (tokens_before valid (good_tokens 0 at bytes)) ++ broken_end valid
elements_broken valid at bytes broken late =
    ap (λ b. cond b (broken_elements_by at bytes valid (tokens_from 0 at bytes)) (elements_by at bytes (tokens_from 0 at bytes))) broken
    ∙ by_tokens (tokens_from 0 at bytes) refl late
  where
    by_tokens : (r : Result (List Token) LexFault) → tokens_from 0 at bytes ≡ r → IsLate valid r → broken_elements_by at bytes valid r ≡ script.stated (tokens_before valid (good_tokens 0 at bytes)) ++ broken_end valid
    by_tokens (Ok ts) h l = ap (λ us. script.stated (tokens_before valid us) ++ broken_end valid) (sym (before-all 0 at bytes ts h))
    by_tokens (Err e) h l =
        let kept : tokens_from 0 at (take (fault_place e - at) bytes) ≡ Ok (good_tokens 0 at bytes) = before-cut at bytes e h in
        rw (le-ltb (fault_place e) valid l, kept) refl

-- a text from a place on has that byte where it has it from a later place on, unless it stands between the two
broken_behind : (valid at next n m : ℕ) → at ≤ next → at + n ≡ next + m → (at ≤ valid → valid < next → ⊥) → is_broken_in valid at n ≡ is_broken_in valid next m
broken_behind valid at next n m low sum apart = by_tests (nat_le at valid) refl (nat_lt valid next) refl
  where
    by_tests : (b : Bool) → nat_le at valid ≡ b → (c : Bool) → nat_lt valid next ≡ c → (b && nat_lt valid (at + n)) ≡ is_broken_in valid next m
    by_tests false e c f =
        let before : valid < next = omega (arith, leb-false at valid e, low) in
        sym (and_left (nat_le next valid) (nat_lt valid (next + m)) (lt-leb next valid before))
    by_tests true e true f = absurd (apart (leb-true at valid e) (ltb-true valid next f))
    by_tests true e false f = ap (nat_lt valid) sum ∙ sym (ap (λ b. b && nat_lt valid (next + m)) (le-leb next valid (ltb-false valid next f)))

broken_here : (valid at n : ℕ) → at ≤ valid → valid < at + n → is_broken_in valid at n ≡ true
broken_here valid at n low high = and_from (nat_le at valid) (nat_lt valid (at + n)) (le-leb at valid low) (lt-ltb valid (at + n) high)

before_end : (text : List ℕ) (place : ℕ) → length text ≤ place → good_tokens 0 place (drop place text) ≡ []
before_end text place h = rw (drop_of_length-le text h) refl

fault_behind : (some : List Token) (r : Result (List Token) LexFault) → fault_of (with_front some r) ≡ fault_of r
fault_behind some (Ok ts) = refl
fault_behind some (Err e) = refl

early_behind : (valid : ℕ) (some : List Token) (r : Result (List Token) LexFault) → IsEarly valid r → IsEarly valid (with_front some r)
early_behind valid some (Ok ts) h = absurd h
early_behind valid some (Err e) h = h

late_behind : (valid : ℕ) (some : List Token) (r : Result (List Token) LexFault) → IsLate valid r → IsLate valid (with_front some r)
late_behind valid some (Ok ts) h = tt
late_behind valid some (Err e) h = h

early_or_late : (valid : ℕ) (r : Result (List Token) LexFault) → IsEarly valid r ⊎ IsLate valid r
early_or_late valid (Ok ts) = inr tt
early_or_late valid (Err e) = cases_lt (fault_place e) valid

-- what is read from behind a place has its faults behind it
late_from : (text : List ℕ) (valid at : ℕ) → at ≤ length text → valid < at → IsLate valid (tokens_from 0 at (drop at text))
late_from text valid at within low = by_tokens (tokens_from 0 at (drop at text)) refl
  where
    by_tokens : (r : Result (List Token) LexFault) → tokens_from 0 at (drop at text) ≡ r → IsLate valid r
    by_tokens (Ok ts) e = tt
    by_tokens (Err g) e = let b : IsBetween at (length text) g = fault-between text at g e within in omega (arith, b.from, low)

-- ---- a statement, and then the text behind it

module _ (text : List ℕ) (at : ℕ) (s : StatementTokens) (h : statement_at text at ≡ Ok s) (part : IsStatement text at (tokens_at text at) s) where
  all_tokens : tokens_from 0 at (drop at text) ≡ with_front (s.tokens ++ option_to_list s.closed) (tokens_from 0 s.next (drop s.next text))
  unfolding tokens_at
  all_tokens = part.all

  -- where the text ends behind the statement, no token follows
  none_behind : s.closed ≡ None → good_tokens 0 s.next (drop s.next text) ≡ []
  none_behind e = let last : s.next ≡ length text = subst (IsClosed text s.next) e part.closed in before_end text s.next (omega (arith, last))

  ends_closed : (t : Token) → s.closed ≡ Some t → ends_statement t ≡ true
  ends_closed t e = subst (IsClosed text s.next) e part.closed

  plain_next : elements_by at (drop at text) (tokens_from 0 at (drop at text)) ≡ statement_elements s ++ elements_by s.next (drop s.next text) (tokens_from 0 s.next (drop s.next text))
  plain_next =
      let more : List Token = good_tokens 0 s.next (drop s.next text) in
      let faults : fault_of (tokens_from 0 at (drop at text)) ≡ fault_of (tokens_from 0 s.next (drop s.next text)) = ap fault_of all_tokens ∙ fault_behind _ _ in
      let front : script.stated (good_tokens 0 at (drop at text)) ≡ statement_elements s ++ script.stated more =
      ap script.stated (before-statement text at s h) ∙ stated-front s.tokens s.closed more part.inner ends_closed none_behind in
      elements_of_text at (drop at text) ∙ rw (front, faults) (append_assoc (statement_elements s) (script.stated more) _ ∙ ap (λ es. statement_elements s ++ es) (sym (elements_of_text s.next (drop s.next text))))

  -- before the byte that is no UTF-8
  broken_next : (valid : ℕ) → s.next ≤ valid → script.stated (tokens_before valid (good_tokens 0 at (drop at text))) ++ broken_end valid ≡ statement_elements s ++ (script.stated (tokens_before valid (good_tokens 0 s.next (drop s.next text))) ++ broken_end valid)
  broken_next valid high =
      let more : List Token = good_tokens 0 s.next (drop s.next text) in
      let mine : List Token = s.tokens ++ option_to_list s.closed in
      let kept : tokens_before valid (mine ++ more) ≡ mine ++ tokens_before valid more = front_kept (λ t. nat_lt t.start valid) mine more (placed-before at s.next valid mine high (statement-placed text at s h)) in
      let none : s.closed ≡ None → tokens_before valid more ≡ [] = λ e. ap (tokens_before valid) (none_behind e) in
      let front : script.stated (tokens_before valid (good_tokens 0 at (drop at text))) ≡ statement_elements s ++ script.stated (tokens_before valid more) =
      ap script.stated (ap (tokens_before valid) (before-statement text at s h) ∙ kept) ∙ stated-front s.tokens s.closed (tokens_before valid more) part.inner ends_closed none in
      ap (λ es. es ++ broken_end valid) front ∙ append_assoc (statement_elements s) (script.stated (tokens_before valid more)) (broken_end valid)

  -- the byte stands before what is left behind the statement
  cut_next : (valid : ℕ) → valid < s.next → script.stated (tokens_before valid (good_tokens 0 at (drop at text))) ≡ statement_elements (cut s valid)
  cut_next valid low = ap (λ us. script.stated (tokens_before valid us)) (before-statement text at s h) ∙ ap script.stated (by_closed s.closed refl) ∙ before_open valid s.tokens part.inner
    where
      by_closed : (o : Option Token) → s.closed ≡ o → tokens_before valid ((s.tokens ++ option_to_list s.closed) ++ good_tokens 0 s.next (drop s.next text)) ≡ tokens_before valid s.tokens
      by_closed (Some t) e =
          let late : nat_lt t.start valid ≡ false = le-ltb t.start valid (omega (arith, statement-narrow text at s h t e, low)) in
          rw e (front_stops (λ u. nat_lt u.start valid) s.tokens t (good_tokens 0 s.next (drop s.next text)) late)
      by_closed None e = rw (none_behind e, e) (ap (tokens_before valid) (append-nil (s.tokens ++ []) ∙ append-nil s.tokens))

  -- the byte stands before the statement or behind it
  module _ (valid : ℕ) (here : at ≤ length text) (apart : at ≤ valid → valid < s.next → ⊥) where
    broken_same : is_broken_in valid at (length (drop at text)) ≡ is_broken_in valid s.next (length (drop s.next text))
    broken_same =
        broken_behind valid at s.next (length (drop at text)) (length (drop s.next text)) part.later
        (omega (arith, length-drop at text, length-drop s.next text, here, part.within)) apart

    next_plain : (is_broken_in valid at (length (drop at text)) ≡ true → IsEarly valid (tokens_from 0 s.next (drop s.next text))) → text_elements valid at (drop at text) ≡ statement_elements s ++ text_elements valid s.next (drop s.next text)
    next_plain early =
        elements_plain valid at (drop at text) (λ e. subst (IsEarly valid) (sym all_tokens) (early_behind valid (s.tokens ++ option_to_list s.closed) (tokens_from 0 s.next (drop s.next text)) (early e)))
        ∙ plain_next
        ∙ ap (λ es. statement_elements s ++ es) (sym (elements_plain valid s.next (drop s.next text) (λ e. early (broken_same ∙ e))))

    next_broken : is_broken_in valid at (length (drop at text)) ≡ true → IsLate valid (tokens_from 0 s.next (drop s.next text)) → text_elements valid at (drop at text) ≡ statement_elements s ++ text_elements valid s.next (drop s.next text)
    next_broken e late =
        let there : is_broken_in valid s.next (length (drop s.next text)) ≡ true = sym broken_same ∙ e in
        let low : s.next ≤ valid = leb-true s.next valid (and_parts (nat_le s.next valid) (nat_lt valid (s.next + length (drop s.next text))) there).0 in
        elements_broken valid at (drop at text) e (subst (IsLate valid) (sym all_tokens) (late_behind valid (s.tokens ++ option_to_list s.closed) (tokens_from 0 s.next (drop s.next text)) late))
        ∙ broken_next valid low
        ∙ ap (λ es. statement_elements s ++ es) (sym (elements_broken valid s.next (drop s.next text) there late))

    next_by : (b : Bool) → is_broken_in valid at (length (drop at text)) ≡ b → (IsEarly valid (tokens_from 0 s.next (drop s.next text)) ⊎ IsLate valid (tokens_from 0 s.next (drop s.next text))) → text_elements valid at (drop at text) ≡ statement_elements s ++ text_elements valid s.next (drop s.next text)
    next_by false e either = next_plain (λ k. absurd (true≢false (sym k ∙ e)))
    next_by true e (inl early) = next_plain (λ k. early)
    next_by true e (inr late) = next_broken e late

    text_next : text_elements valid at (drop at text) ≡ statement_elements s ++ text_elements valid s.next (drop s.next text)
    text_next = next_by (is_broken_in valid at (length (drop at text))) refl (early_or_late valid (tokens_from 0 s.next (drop s.next text)))

  -- the byte stands within the statement
  text_cut : (valid : ℕ) → at ≤ valid → valid < s.next → text_elements valid at (drop at text) ≡ unreadable (cut s valid) script_kinds.NotUtf8 valid
  text_cut valid low high =
      let within : at + length (drop at text) ≡ length text = omega (arith, length-drop at text, part.later, part.within) in
      let broken : is_broken_in valid at (length (drop at text)) ≡ true = broken_here valid at (length (drop at text)) low (omega (arith, within, high, part.within)) in
      elements_broken valid at (drop at text) broken
      (subst (IsLate valid) (sym all_tokens) (late_behind valid (s.tokens ++ option_to_list s.closed) (tokens_from 0 s.next (drop s.next text)) (late_from text valid s.next part.within high)))
      ∙ ap (λ es. es ++ broken_end valid) (cut_next valid high)

pub elements-next : (bytes : List ℕ) (valid end at : ℕ) (s : StatementTokens) → at ≤ length (take end bytes) → (at ≤ valid → valid < s.next → ⊥) → statement_at (take end bytes) at ≡ Ok s → IsStatement (take end bytes) at (tokens_at (take end bytes) at) s → elements_at bytes valid end at ≡ statement_elements s ++ elements_at bytes valid end s.next
elements-next bytes valid end at s here apart h part = text_next (take end bytes) at s h part valid here apart

pub elements-cut : (bytes : List ℕ) (valid end at : ℕ) (s : StatementTokens) → at ≤ valid → valid < s.next → statement_at (take end bytes) at ≡ Ok s → IsStatement (take end bytes) at (tokens_at (take end bytes) at) s → elements_at bytes valid end at ≡ unreadable (cut s valid) script_kinds.NotUtf8 valid
elements-cut bytes valid end at s low high h part = text_cut (take end bytes) at s h part valid low high

-- ---- up to a byte that can't be read

cut_here : (bytes : List ℕ) (end at place : ℕ) → at ≤ place → place ≤ end → take (place - at) (drop at (take end bytes)) ≡ drop at (take place bytes)
cut_here bytes end at place low high =
    let first : at + (place - at) ≡ place = omega arith in
    let second : at + (end - at) ≡ end = omega arith in
    ap (λ n. take (place - at) (drop at (take n bytes))) (sym second)
    ∙ ap (take (place - at)) (drop-take at (end - at) bytes)
    ∙ take-take (place - at) (end - at) (drop at bytes) (omega arith)
    ∙ sym (drop-take at (place - at) bytes)
    ∙ ap (λ n. drop at (take n bytes)) first

tokens_up_to : (bytes : List ℕ) (end at : ℕ) (e : LexFault) → at ≤ length (take end bytes) → tokens_at (take end bytes) at ≡ Err e → tokens_at (take (fault_place e) bytes) at ≡ Ok (good_tokens 0 at (drop at (take end bytes)))
unfolding tokens_at
tokens_up_to bytes end at e within h =
    let b : IsBetween at (length (take end bytes)) e = fault-between (take end bytes) at e h within in
    let high : fault_place e ≤ end = omega (arith, b.before, length-take end bytes) in
    ap (tokens_from 0 at) (sym (cut_here bytes end at (fault_place e) b.from high)) ∙ before-cut at (drop at (take end bytes)) e h

-- the elements up to the text's fault
up_to-elements : (bytes : List ℕ) (valid end at : ℕ) (e : LexFault) (kind : ScriptKind) → at ≤ length (take end bytes) → tokens_at (take end bytes) at ≡ Err e → fault_element e ≡ Unreadable kind (fault_place e) ∷ [] → elements_at bytes valid end at ≡ elements_up_to bytes valid kind (fault_place e) at
unfolding tokens_at
up_to-elements bytes valid end at e kind within h is =
    by_test (is_broken_by valid at (fault_place e)) refl (fault-between (take end bytes) at e h within)
    ∙ ap (λ r. stopped_elements (is_broken_by valid at (fault_place e)) (tokens_or_none r) valid kind (fault_place e)) (sym (tokens_up_to bytes end at e within h))
  where
    by_order : is_broken_by valid at (fault_place e) ≡ false → nat_le at valid ≡ true → fault_place e < valid
    by_order k low = leb-false valid (fault_place e) (sym (ap (λ b. b && nat_le valid (fault_place e)) low) ∙ k)

    by_test : (b : Bool) → is_broken_by valid at (fault_place e) ≡ b → IsBetween at (length (take end bytes)) e → elements_at bytes valid end at ≡ stopped_elements b (good_tokens 0 at (drop at (take end bytes))) valid kind (fault_place e)
    by_test true k between =
        let both = and_parts (nat_le at valid) (nat_le valid (fault_place e)) k in
        let high : valid ≤ fault_place e = leb-true valid (fault_place e) both.1 in
        elements_broken valid at (drop at (take end bytes))
        (broken_here valid at (length (drop at (take end bytes))) (leb-true at valid both.0) (omega (arith, high, between.before, length-drop at (take end bytes), within)))
        (subst (IsLate valid) (sym h) high)
    by_test false k between =
        elements_plain valid at (drop at (take end bytes))
        (λ broken. subst (IsEarly valid) (sym h) (by_order k (and_parts (nat_le at valid) (nat_lt valid (at + length (drop at (take end bytes)))) broken).0))
        ∙ elements_of_text at (drop at (take end bytes))
        ∙ ap (λ es. script.stated (good_tokens 0 at (drop at (take end bytes))) ++ es) (ap fault_of h ∙ is)

-- the text goes up to a byte that can't be read
pub record IsUpTo (bytes : List ℕ) (valid end at : ℕ) (kind : ScriptKind) (place : ℕ) : Type 0 where
  pub low : at ≤ place
  pub high : place ≤ length bytes
  pub unclosed : IsOpen (tokens_at (take place bytes) at)
  pub elements : elements_at bytes valid end at ≡ elements_up_to bytes valid kind place at

up_to : (bytes : List ℕ) (valid end at : ℕ) (e : LexFault) (kind : ScriptKind) → at < end → end ≤ length bytes → statement_at (take end bytes) at ≡ Err e → tokens_at (take end bytes) at ≡ Err e → fault_element e ≡ Unreadable kind (fault_place e) ∷ [] → IsUpTo bytes valid end at kind (fault_place e)
unfolding tokens_at
up_to bytes valid end at e kind some within h k is =
    let here : at ≤ length (take end bytes) = omega (arith, length-take end bytes, some, within) in
    let b : IsBetween at (length (take end bytes)) e = fault-between (take end bytes) at e k here in
    record {
      low = b.from;
      high = omega (arith, b.before, length-take end bytes, within);
      unclosed = subst IsOpen (sym (tokens_up_to bytes end at e here k)) (before-inner (take end bytes) at e h);
      elements = up_to-elements bytes valid end at e kind here k is;
    }

pub up_to-bad : (bytes : List ℕ) (valid end at : ℕ) (e : LexFault) (place : ℕ) → at < end → end ≤ length bytes → e ≡ lex.BadCharacter place → LexGives (Err e) (statement_at (take end bytes) at) → IsFaultOf (tokens_at (take end bytes) at) e → IsUpTo bytes valid end at script_kinds.BadCharacter place
up_to-bad bytes valid end at e place some within is h k = up_to bytes valid end at (lex.BadCharacter place) script_kinds.BadCharacter some within (rw is at h) (rw is at k) refl

pub up_to-quote : (bytes : List ℕ) (valid end at : ℕ) (e : LexFault) (place : ℕ) → at < end → end ≤ length bytes → e ≡ lex.OpenQuote place → LexGives (Err e) (statement_at (take end bytes) at) → IsFaultOf (tokens_at (take end bytes) at) e → IsUpTo bytes valid end at script_kinds.OpenQuote place
up_to-quote bytes valid end at e place some within is h k = up_to bytes valid end at (lex.OpenQuote place) script_kinds.OpenQuote some within (rw is at h) (rw is at k) refl

-- the semicolon is none of these tokens
no_semicolon : (ts : List Token) (t : Token) (more : List Token) → list_all (λ u. not (ends_statement u)) ((ts ++ t ∷ []) ++ more) ≡ true → ends_statement t ≡ true → ⊥
no_semicolon [] t more h e = let stays : ends_statement t ≡ false = head_open (ends_statement t) (list_all (λ u. not (ends_statement u)) more) h in cc
no_semicolon (u ∷ ts) t more h e = no_semicolon ts t more (tail_open (ends_statement u) (list_all (λ v. not (ends_statement v)) ((ts ++ t ∷ []) ++ more)) h) e

tokens_at-end : (text : List ℕ) (place : ℕ) → length text ≤ place → tokens_at text place ≡ Ok []
unfolding tokens_at
tokens_at-end text place h = rw (drop_of_length-le text h) refl

-- tokens without a semicolon are a statement that isn't closed
open_alone : (text : List ℕ) (at : ℕ) (s : StatementTokens) → IsStatement text at (tokens_at text at) s → IsOpen (tokens_at text at) → (tokens_or_none (tokens_at text at) ≡ s.tokens) × (s.closed ≡ None)
open_alone text at s part open_here = by_closed s.closed refl (tokens_at text s.next) refl
  where
    by_closed : (o : Option Token) → s.closed ≡ o → (left : Result (List Token) LexFault) → tokens_at text s.next ≡ left → (tokens_or_none (tokens_at text at) ≡ s.tokens) × (s.closed ≡ None)
    by_closed (Some t) e (Ok more) f =
        let all : tokens_at text at ≡ Ok ((s.tokens ++ t ∷ []) ++ more) = part.all ∙ ap (λ r. with_front (s.tokens ++ option_to_list s.closed) r) f ∙ ap (λ o. Ok ((s.tokens ++ option_to_list o) ++ more)) e in
        absurd (no_semicolon s.tokens t more (subst IsOpen all open_here) (subst (IsClosed text s.next) e part.closed))
    by_closed o e (Err g) f =
        let all : tokens_at text at ≡ Err g = part.all ∙ ap (λ r. with_front (s.tokens ++ option_to_list s.closed) r) f in
        absurd (subst IsOpen all open_here)
    by_closed None e (Ok more) f =
        let last : s.next ≡ length text = subst (IsClosed text s.next) e part.closed in
        let end : tokens_at text s.next ≡ Ok [] = tokens_at-end text s.next (omega (arith, last)) in
        let all : tokens_at text at ≡ Ok ((s.tokens ++ []) ++ []) = part.all ∙ ap (λ r. with_front (s.tokens ++ option_to_list s.closed) r) end ∙ ap (λ o. Ok ((s.tokens ++ option_to_list o) ++ [])) e in
        (ap tokens_or_none all ∙ append-nil (s.tokens ++ []) ∙ append-nil s.tokens, e)

-- that statement and the byte, or what of it stands before the byte that is no UTF-8
pub stopped-whole : (bytes : List ℕ) (valid : ℕ) (kind : ScriptKind) (place at : ℕ) (s : StatementTokens) → is_broken_by valid at place ≡ false → IsStatement (take place bytes) at (tokens_at (take place bytes) at) s → IsOpen (tokens_at (take place bytes) at) → unreadable s kind place ≡ elements_up_to bytes valid kind place at
stopped-whole bytes valid kind place at s later part open_here =
    let alone = open_alone (take place bytes) at s part open_here in
    let one : statement_elements s ≡ script.stated s.tokens =
    ap (λ o. element_by s.tokens o) alone.1 ∙ sym (ap (map Stated) (split-open [] s.tokens part.inner)) in
    ap (λ es. es ++ Unreadable kind place ∷ []) one
    ∙ ap (λ ts. script.stated ts ++ Unreadable kind place ∷ []) (sym alone.0)
    ∙ ap (λ b. stopped_elements b (tokens_or_none (tokens_at (take place bytes) at)) valid kind place) (sym later)

pub stopped-cut : (bytes : List ℕ) (valid : ℕ) (kind : ScriptKind) (place at : ℕ) (s : StatementTokens) → is_broken_by valid at place ≡ true → IsStatement (take place bytes) at (tokens_at (take place bytes) at) s → IsOpen (tokens_at (take place bytes) at) → unreadable (cut s valid) script_kinds.NotUtf8 valid ≡ elements_up_to bytes valid kind place at
stopped-cut bytes valid kind place at s earlier part open_here =
    let alone = open_alone (take place bytes) at s part open_here in
    ap (λ es. es ++ broken_end valid) (sym (before_open valid s.tokens part.inner))
    ∙ ap (λ ts. script.stated (tokens_before valid ts) ++ broken_end valid) (sym alone.0)
    ∙ ap (λ b. stopped_elements b (tokens_or_none (tokens_at (take place bytes) at)) valid kind place) (sym earlier)

pub broken_by : (valid at place : ℕ) → at ≤ valid → valid ≤ place → is_broken_by valid at place ≡ true
broken_by valid at place low high = and_from (nat_le at valid) (nat_le valid place) (le-leb at valid low) (le-leb valid place high)

pub unbroken_by : (valid at place : ℕ) → (at ≤ valid → valid ≤ place → ⊥) → is_broken_by valid at place ≡ false
unbroken_by valid at place apart = by_tests (nat_le at valid) refl (nat_le valid place) refl
  where
    by_tests : (b : Bool) → nat_le at valid ≡ b → (c : Bool) → nat_le valid place ≡ c → (b && c) ≡ false
    by_tests true e true f = absurd (apart (leb-true at valid e) (leb-true valid place f))
    by_tests true e false f = refl
    by_tests false e c f = refl

-- ---- what was taken

pub first_place-none : (s : StatementTokens) → first_place s ≡ None → statement_elements s ≡ []
first_place-none s h = by_parts s.tokens s.closed h
  where
    by_parts : (ts : List Token) (o : Option Token) → option_map (λ t. t.start) (first_some (head ts ∷ o ∷ [])) ≡ None → element_by ts o ≡ []
    by_parts [] None k = refl
    by_parts [] (Some t) k = cc
    by_parts (u ∷ ts) o k = cc

pub first_place-some : (s : StatementTokens) (p : ℕ) → first_place s ≡ Some p → (statement_elements s ≡ Stated (stated s) ∷ []) × (statement_place (stated s) ≡ p)
first_place-some s p h = by_parts s.tokens s.closed h
  where
    by_parts : (ts : List Token) (o : Option Token) → option_map (λ t. t.start) (first_some (head ts ∷ o ∷ [])) ≡ Some p → (element_by ts o ≡ Stated (record { tokens = ts; closed = o }) ∷ []) × (option_case (first_some (head ts ∷ o ∷ [])) 0 (λ t. t.start) ≡ p)
    by_parts [] None k = cc
    by_parts [] (Some t) k = (refl, cc)
    by_parts (u ∷ ts) None k = (refl, cc)
    by_parts (u ∷ ts) (Some t) k = (refl, cc)

-- no element
pub taken-none : (bytes : List ℕ) (d : Draft) (s : StatementTokens) → first_place s ≡ None → IsTaken bytes d (statement_elements s) (Ok d)
taken-none bytes d s h = rw (first_place-none s h) (λ tail rest. refl)

-- a statement
pub taken-stated : (bytes : List ℕ) (d : Draft) (s : StatementTokens) (p line : ℕ) (r : Result Draft ScriptFault) → first_place s ≡ Some p → line ≡ line_at bytes p → Gives r (where_built draft_is_built line (take_statement d line (stated s))) → IsTaken bytes d (statement_elements s) r
taken-stated bytes d s p line r h l g =
    let place : line ≡ line_at bytes (statement_place (stated s)) = l ∙ ap (line_at bytes) (sym (first_place-some s p h).1) in
    rw (first_place-some s p h).0 (by_result r (subst (λ n. Gives r (where_built draft_is_built n (take_statement d n (stated s)))) place g))
  where
    by_result : (q : Result Draft ScriptFault) → Gives q (where_built draft_is_built (line_at bytes (statement_place (stated s))) (take_statement d (line_at bytes (statement_place (stated s))) (stated s))) → IsTaken bytes d (Stated (stated s) ∷ []) q
    by_result (Ok e) k = λ tail rest. rw k refl
    by_result (Err (faults.Bad b)) k = λ tail rest. rw k refl
    by_result (Err faults.Memory) k = tt

-- a fault before more
pub taken-fault : (bytes : List ℕ) (d : Draft) (es more : List Element) (f : ScriptFault) → IsTaken bytes d es (Err f) → IsTaken bytes d (es ++ more) (Err f)
taken-fault bytes d es more (faults.Bad b) h = λ tail rest. rw (append_assoc es more rest) (h tail (more ++ rest))
taken-fault bytes d es more faults.Memory h = tt

-- a byte that can't be read
pub taken-unreadable : (bytes : List ℕ) (d e : Draft) (es : List Element) (kind : ScriptKind) (place : ℕ) → IsTaken bytes d es (Ok e) → IsTaken bytes d (es ++ Unreadable kind place ∷ []) (Err (faults.Bad (bad (line_at bytes place) kind)))
taken-unreadable bytes d e es kind place h = λ tail rest. rw (append_assoc es (Unreadable kind place ∷ []) rest) (h tail (Unreadable kind place ∷ rest))

-- a statement, and behind it a byte that can't be read
pub stop-taken : (bytes : List ℕ) (d : Draft) (kind : ScriptKind) (place : ℕ) (s : StatementTokens) (r : Result Draft ScriptFault) → IsTaken bytes d (statement_elements s) r → IsTaken bytes d (unreadable s kind place) (Err (after_text bytes kind place r))
stop-taken bytes d kind place s (Ok e) h = taken-unreadable bytes d e (statement_elements s) kind place h
stop-taken bytes d kind place s (Err f) h = taken-fault bytes d (statement_elements s) (Unreadable kind place ∷ []) f h

-- ---- one statement more

pub next-ok : (bytes : List ℕ) (valid end : ℕ) (t u : TextAt) (es : List Element) → elements_at bytes valid end t.at ≡ es ++ elements_at bytes valid end u.at → IsTaken bytes t.draft es (Ok u.draft) → IsNext bytes valid end t (Ok u)
next-ok bytes valid end t u es e h = λ tail rest. rw e (rw (append_assoc es (elements_at bytes valid end u.at) rest) (h tail (elements_at bytes valid end u.at ++ rest)))

pub next-refused : (bytes : List ℕ) (valid end : ℕ) (t : TextAt) (es : List Element) (f : ScriptFault) → elements_at bytes valid end t.at ≡ es → IsTaken bytes t.draft es (Err f) → IsNext bytes valid end t (Err f)
next-refused bytes valid end t es (faults.Bad b) e h = λ tail rest. rw e (h tail rest)
next-refused bytes valid end t es faults.Memory e h = tt

next-fault : (bytes : List ℕ) (valid end : ℕ) (t : TextAt) (es more : List Element) (f : ScriptFault) → elements_at bytes valid end t.at ≡ es ++ more → IsTaken bytes t.draft es (Err f) → IsNext bytes valid end t (Err f)
next-fault bytes valid end t es more (faults.Bad b) e h = λ tail rest. rw e (rw (append_assoc es more rest) (h tail (more ++ rest)))
next-fault bytes valid end t es more faults.Memory e h = tt

pub next-result : (bytes : List ℕ) (valid end at : ℕ) (t : TextAt) (es : List Element) (r : Result TextAt ScriptFault) → elements_at bytes valid end t.at ≡ es ++ elements_at bytes valid end at → IfOk r (λ u. u.at ≡ at) → IsTaken bytes t.draft es (draft_of r) → IsNext bytes valid end t r
next-result bytes valid end at t es (Ok u) e place h = next-ok bytes valid end t u es (e ∙ ap (λ n. es ++ elements_at bytes valid end n) (sym place)) h
next-result bytes valid end at t es (Err f) e place h = next-fault bytes valid end t es (elements_at bytes valid end at) f e h

-- ---- the whole text

from_here : (bytes : List ℕ) (end at : ℕ) → at ≤ end → take (end - at) (drop at bytes) ≡ drop at (take end bytes)
from_here bytes end at h = let sum : at + (end - at) ≡ end = omega arith in sym (drop-take at (end - at) bytes) ∙ ap (λ n. drop at (take n bytes)) sum

-- nothing is left at the end
none_left : (bytes : List ℕ) (valid end at : ℕ) → end ≤ at → elements_at bytes valid end at ≡ []
none_left bytes valid end at h =
    let empty : drop at (take end bytes) ≡ [] = drop_of_length-le (take end bytes) (omega (arith, length-take end bytes)) in
    ap (text_elements valid at) empty
    ∙ elements_plain valid at []
    (λ e.
    let both = and_parts (nat_le at valid) (nat_lt valid (at + 0)) e in
    absurd (omega (arith, leb-true at valid both.0, ltb-true valid (at + 0) both.1)))

pub text-taken : (bytes : List ℕ) (valid end from at : ℕ) (d e : Draft) → from ≤ end → end ≤ at → IsReadOn bytes valid end d from e at → IsTaken bytes d (text_elements valid from (take (end - from) (drop from bytes))) (Ok e)
text-taken bytes valid end from at d e h k same = λ tail rest. rw (from_here bytes end from h) (same tail rest ∙ ap (λ es. read_from draft_is_built bytes tail e (es ++ rest)) (none_left bytes valid end at k))

pub text-refused : (bytes : List ℕ) (valid end from : ℕ) (d : Draft) (t : TextAt) (f : ScriptFault) → from ≤ end → IsReadOn bytes valid end d from t.draft t.at → IsNext bytes valid end t (Err f) → IsTaken bytes d (text_elements valid from (take (end - from) (drop from bytes))) (Err f)
text-refused bytes valid end from d t (faults.Bad b) h same next = λ tail rest. rw (from_here bytes end from h) (same tail rest ∙ next tail rest)
text-refused bytes valid end from d t faults.Memory h same next = tt

-- ---- the places of a statement

first_by : (low high : ℕ) (ts : List Token) (o : Option Token) → ArePlaced low high (ts ++ option_to_list o) → IfSome (option_map (λ t. t.start) (first_some (head ts ∷ o ∷ []))) (λ p. (low ≤ p) × (p < high))
first_by low high [] None h = tt
first_by low high [] (Some t) h = (h.0, h.1)
first_by low high (u ∷ ts) o h = (h.0, h.1)

by_place : (o : Option ℕ) (low high : ℕ) → IfSome o (λ p. (low ≤ p) × (p < high)) → (P : ℕ → Type 0) → ((p : ℕ) → low ≤ p → p < high → P p) → IfSome o P
by_place None low high h P f = tt
by_place (Some p) low high h P f = f p h.0 h.1

place_of : (text : List ℕ) (at : ℕ) (s : StatementTokens) → statement_at text at ≡ Ok s → IfSome (first_place s) (λ p. (at ≤ p) × (p < s.next))
place_of text at s h = first_by at s.next s.tokens s.closed (statement-placed text at s h)

-- a mark no later than the place that the statement was read from is no later than the statement
pub first-later : (text : List ℕ) (at mark : ℕ) (s : StatementTokens) → statement_at text at ≡ Ok s → mark ≤ at → IfSome (first_place s) (λ p. mark ≤ p)
first-later text at mark s h low = by_place (first_place s) at s.next (place_of text at s h) (λ p. mark ≤ p) (λ p a b. omega (arith, low, a))

pub first-within : (text : List ℕ) (at most : ℕ) (s : StatementTokens) → statement_at text at ≡ Ok s → s.next ≤ most → IfSome (first_place s) (λ p. p ≤ most)
first-within text at most s h high = by_place (first_place s) at s.next (place_of text at s h) (λ p. p ≤ most) (λ p a b. omega (arith, high, b))

-- the first token that is left of a statement is its first, and stands before the place where it is cut
cut_first : (place : ℕ) (ts : List Token) (P : ℕ → Type 0) → IfSome (option_map (λ t. t.start) (head ts)) P → IfSome (option_map (λ t. t.start) (first_some (head (tokens_before place ts) ∷ None ∷ []))) (λ p. P p × (p < place))
cut_first place [] P h = tt
cut_first place (t ∷ ts) P h = subst (λ us. IfSome (option_map (λ u. u.start) (first_some (head us ∷ None ∷ []))) (λ p. P p × (p < place))) (sym (take_while-cons (λ u. nat_lt u.start place) t ts)) (by_test (nat_lt t.start place) refl)
  where
    by_test : (b : Bool) → nat_lt t.start place ≡ b → IfSome (option_map (λ u. u.start) (first_some (head (cond b (t ∷ tokens_before place ts) []) ∷ None ∷ []))) (λ p. P p × (p < place))
    by_test true e = (h, ltb-true t.start place e)
    by_test false e = tt

first_of_tokens : (low high : ℕ) (ts more : List Token) → ArePlaced low high (ts ++ more) → IfSome (option_map (λ t. t.start) (head ts)) (λ p. low ≤ p)
first_of_tokens low high [] more h = tt
first_of_tokens low high (t ∷ ts) more h = h.0

cut_place : (text : List ℕ) (at place : ℕ) (s : StatementTokens) → statement_at text at ≡ Ok s → IfSome (first_place (cut s place)) (λ p. (at ≤ p) × (p < place))
cut_place text at place s h = cut_first place s.tokens (λ p. at ≤ p) (first_of_tokens at s.next s.tokens (option_to_list s.closed) (statement-placed text at s h))

pub cut-later : (text : List ℕ) (at mark place : ℕ) (s : StatementTokens) → statement_at text at ≡ Ok s → mark ≤ at → IfSome (first_place (cut s place)) (λ p. mark ≤ p)
cut-later text at mark place s h low = by_place (first_place (cut s place)) at place (cut_place text at place s h) (λ p. mark ≤ p) (λ p a b. omega (arith, low, a))

pub cut-before : (text : List ℕ) (at place : ℕ) (s : StatementTokens) → statement_at text at ≡ Ok s → IfSome (first_place (cut s place)) (λ p. p ≤ place)
cut-before text at place s h = by_place (first_place (cut s place)) at place (cut_place text at place s h) (λ p. p ≤ place) (λ p a b. omega (arith, b))

pub cut-fits : (s : StatementTokens) (place : ℕ) → list_all token_fits s.tokens ≡ true → list_all token_fits (cut s place).tokens ≡ true
cut-fits s place h = front_passes (λ t. nat_lt t.start place) token_fits s.tokens h

-- what stands no later than one place stands no later than a later one
pub first-most : (o : Option ℕ) (place most : ℕ) → IfSome o (λ p. p ≤ place) → place ≤ most → IfSome o (λ p. p ≤ most)
first-most None place most h k = tt
first-most (Some p) place most h k = omega (arith, h, k)

-- the mark of a statement stands before what is left behind it
pub mark-within : (text : List ℕ) (at mark : ℕ) (s : StatementTokens) → statement_at text at ≡ Ok s → mark ≤ at → at ≤ s.next → unwrap_or (first_place s) mark ≤ s.next
mark-within text at mark s h low later = by_option (first_place s) (place_of text at s h)
  where
    by_option : (o : Option ℕ) → IfSome o (λ p. (at ≤ p) × (p < s.next)) → unwrap_or o mark ≤ s.next
    by_option None k = omega (arith, low, later)
    by_option (Some p) k = omega (arith, k.1)

-- a mark that stands no later than a place, and so does the statement behind it
pub mark-before : (o : Option ℕ) (mark place : ℕ) → IfSome o (λ p. p ≤ place) → mark ≤ place → unwrap_or o mark ≤ place
mark-before None mark place h k = k
mark-before (Some p) mark place h k = h

pub mark-result : (bytes : List ℕ) (r : Result TextAt ScriptFault) (s : StatementTokens) (mark : ℕ) → IfOk r (λ t. t.at ≡ s.next) → IfOk r (λ t. t.mark.line ≡ line_at bytes t.mark.place) → IfOk r (λ t. t.mark.place ≡ unwrap_or (first_place s) mark) → unwrap_or (first_place s) mark ≤ s.next → IfOk r (λ t. IsMark bytes t.at t.mark)
mark-result bytes (Ok t) s mark at line place h = (line, omega (arith, at, place, h))
mark-result bytes (Err f) s mark at line place h = tt
