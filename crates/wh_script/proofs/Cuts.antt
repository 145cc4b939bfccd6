-- What stands at the front of a text stands there too where the text is cut off behind it.
use Rattle.std.proofs.Common.{◌≡◌, ◌≢◌, ℕ, ◌+◌, ◌<◌, ◌≤◌, suc, zero, Bool, true, false, cond, List, [], ◌∷◌, length, take, refl, ap, ◌∙◌, sym, subst, arith, Option, Some, None, ◌&&◌}
use Rattle.std.specs.Char.{is_ascii_digit, to_ascii_uppercase}
use Rattle.std.specs.List.{prefix_len}
use Rattle.std.specs.Prelude.{◌==◌, map, nat_lt, not, slice_index, take_while}
use Rattle.std.proofs.lemmas.Bool.Decides.{nat_tests}
use Rattle.std.proofs.lemmas.List.{take-take}
use Rattle.std.proofs.lemmas.List.Folds.{length-prefix_len}
use Rattle.wh_base.specs.declared.tokens.TokenKind.{TokenKind}
use Rattle.wh_base.specs.declared.tokens.TokenKind.TheVariants as kinds
use Rattle.wh_lex.specs.declared.front.Front.{Front}
use Rattle.wh_lex.specs.declared.front.Front.TheVariants as front
use Rattle.wh_lex.specs.declared.front.Start.{Start}
use Rattle.wh_lex.specs.declared.front.Start.TheVariants as starts
use Rattle.wh_lex.specs.Tokens.{digits_len, front_of, is_name_byte, line_len, mark_len, mark_part, name_len, name_part, number_part, part_of, run_part, start_of, text_more, text_of, text_part}

-- ---- runs of bytes

pub prefix-cut : (p : ℕ → Bool) (xs : List ℕ) (n : ℕ) → prefix_len p xs ≤ n → prefix_len p (take n xs) ≡ prefix_len p xs
prefix-cut p [] zero h = refl
prefix-cut p [] (suc n) h = refl
prefix-cut p (x ∷ xs) zero h = by_test (p x) h
  where
    by_test : (b : Bool) → cond b (1 + prefix_len p xs) 0 ≤ 0 → 0 ≡ cond b (1 + prefix_len p xs) 0
    by_test true k = absurd (omega (arith, k))
    by_test false k = refl
prefix-cut p (x ∷ xs) (suc n) h = by_test (p x) h (λ k. prefix-cut p xs n k)
  where
    by_test : (b : Bool) → cond b (1 + prefix_len p xs) 0 ≤ suc n → (prefix_len p xs ≤ n → prefix_len p (take n xs) ≡ prefix_len p xs) → cond b (1 + prefix_len p (take n xs)) 0 ≡ cond b (1 + prefix_len p xs) 0
    by_test true k more = ap (λ m. 1 + m) (more (omega (arith, k)))
    by_test false k more = refl

run_len : (p : ℕ → Bool) (xs : List ℕ) → length (take_while p xs) ≡ prefix_len p xs
run_len p xs = length-prefix_len p xs

run-cut : (p : ℕ → Bool) (xs : List ℕ) (n : ℕ) → length (take_while p xs) ≤ n → length (take_while p (take n xs)) ≡ length (take_while p xs)
run-cut p xs n h = run_len p (take n xs) ∙ prefix-cut p xs n (rw (run_len p xs) at h) ∙ sym (run_len p xs)

-- ---- quoted texts

-- a text that is closed takes its quote at least
text_some : (bs : List ℕ) (t : List ℕ × ℕ) → text_of bs ≡ Some t → 1 ≤ t.1
text_some [] t h = cc
text_some (b ∷ []) t h = by_test (b == 39) h
  where
    by_test : (q : Bool) → cond q (Some ([], 1)) None ≡ Some t → 1 ≤ t.1
    by_test true k = let same : ([], 1) ≡ t = cc in subst (λ u. 1 ≤ u.1) same (omega arith)
    by_test false k = cc
text_some (b ∷ c ∷ bs) t h = by_tests (b == 10) (b == 39) (c == 39) h
  where
    behind : (a k : ℕ) (o : Option (List ℕ × ℕ)) → 1 ≤ k → text_more a k o ≡ Some t → 1 ≤ t.1
    behind a k None some e = cc
    behind a k (Some u) some e = let same : (a ∷ u.0, k + u.1) ≡ t = cc in subst (λ v. 1 ≤ v.1) same (omega (arith, some))

    by_tests : (l q r : Bool) → cond l None (cond q (cond r (text_more 39 2 (text_of bs)) (Some ([], 1))) (text_more b 1 (text_of (c ∷ bs)))) ≡ Some t → 1 ≤ t.1
    by_tests true q r k = cc
    by_tests false true true k = behind 39 2 (text_of bs) (omega arith) k
    by_tests false true false k = let same : ([], 1) ≡ t = cc in subst (λ u. 1 ≤ u.1) same (omega arith)
    by_tests false false r k = behind b 1 (text_of (c ∷ bs)) (omega arith) k

abbrev pub SameCut : List ℕ → List ℕ × ℕ → Type 0
SameCut bs t = (n : ℕ) → t.1 ≤ n → text_of (take n bs) ≡ Some t

more_of : (a k : ℕ) (o : Option (List ℕ × ℕ)) (t : List ℕ × ℕ) → text_more a k o ≡ Some t → (u : List ℕ × ℕ) × (o ≡ Some u) × ((a ∷ u.0, k + u.1) ≡ t)
more_of a k None t h = cc
more_of a k (Some u) t h = (u, refl, cc)

text-cut : (bs : List ℕ) (t : List ℕ × ℕ) → text_of bs ≡ Some t → SameCut bs t
text-cut [] t h n k = cc
text-cut (b ∷ []) t h zero k = absurd (omega (arith, text_some (b ∷ []) t h, k))
text-cut (b ∷ []) t h (suc zero) k = h
text-cut (b ∷ []) t h (suc (suc n)) k = h
text-cut (b ∷ c ∷ bs) t h n k = by_tests (b == 10) (b == 39) (c == 39) refl refl refl h (text-cut bs) (text-cut (c ∷ bs)) n k
  where
    by_tests : (l q r : Bool) → (b == 10) ≡ l → (b == 39) ≡ q → (c == 39) ≡ r
        → cond l None (cond q (cond r (text_more 39 2 (text_of bs)) (Some ([], 1))) (text_more b 1 (text_of (c ∷ bs)))) ≡ Some t
        → ((u : List ℕ × ℕ) → text_of bs ≡ Some u → SameCut bs u) → ((u : List ℕ × ℕ) → text_of (c ∷ bs) ≡ Some u → SameCut (c ∷ bs) u)
        → (n : ℕ) → t.1 ≤ n → text_of (take n (b ∷ c ∷ bs)) ≡ Some t
    by_tests true q r e f g m two one n k = cc
    by_tests false true true e f g m two one zero k = let u = more_of 39 2 (text_of bs) t m in absurd (omega (arith, k, ap (λ v. v.1) u.2))
    by_tests false true true e f g m two one (suc zero) k = let u = more_of 39 2 (text_of bs) t m in absurd (omega (arith, k, ap (λ v. v.1) u.2))
    by_tests false true true e f g m two one (suc (suc n)) k =
        let u = more_of 39 2 (text_of bs) t m in
        rw (e, f, g) (ap (text_more 39 2) (two u.0 u.1 n (omega (arith, k, ap (λ v. v.1) u.2))) ∙ ap Some u.2)
    by_tests false true false e f g m two one zero k = let same : ([], 1) ≡ t = cc in absurd (omega (arith, k, ap (λ v. v.1) same))
    by_tests false true false e f g m two one (suc zero) k = rw f m
    by_tests false true false e f g m two one (suc (suc n)) k = rw (e, f, g) m
    by_tests false false r e f g m two one zero k = let u = more_of b 1 (text_of (c ∷ bs)) t m in absurd (omega (arith, k, ap (λ v. v.1) u.2))
    by_tests false false r e f g m two one (suc zero) k = let u = more_of b 1 (text_of (c ∷ bs)) t m in absurd (omega (arith, k, ap (λ v. v.1) u.2, text_some (c ∷ bs) u.0 u.1))
    by_tests false false r e f g m two one (suc (suc n)) k =
        let u = more_of b 1 (text_of (c ∷ bs)) t m in
        rw (e, f) (ap (text_more b 1) (one u.0 u.1 (suc n) (omega (arith, k, ap (λ v. v.1) u.2))) ∙ ap Some u.2)

-- ---- fronts

-- the text goes at least so far
abbrev pub IsCutBehind : Front → ℕ → Type 0
IsCutBehind (front.Blank more) n = more < n
IsCutBehind (front.Token kind text more) n = more < n
IsCutBehind front.Bad n = ⊥
IsCutBehind front.Open n = ⊥

run_same : (kind : TokenKind) (most more : ℕ) (f : List ℕ → List ℕ) (bytes : List ℕ) (n : ℕ) → IsCutBehind (run_part kind most more (f (take (more + 1) bytes))) n → run_part kind most more (f (take (more + 1) (take n bytes))) ≡ run_part kind most more (f (take (more + 1) bytes))
run_same kind most more f bytes n h = by_test (nat_lt more most) h
  where
    by_test : (b : Bool) → IsCutBehind (cond b (front.Token kind (f (take (more + 1) bytes)) more) front.Bad) n → cond b (front.Token kind (f (take (more + 1) (take n bytes))) more) front.Bad ≡ cond b (front.Token kind (f (take (more + 1) bytes)) more) front.Bad
    by_test true k = ap (λ xs. front.Token kind (f xs) more) (take-take (more + 1) n bytes (omega (arith, k)))
    by_test false k = refl

-- a run has no more bytes than stand before the cut
run_fits : (kind : TokenKind) (most more : ℕ) (text : List ℕ) (n : ℕ) → IsCutBehind (run_part kind most more text) n → more < n
run_fits kind most more text n h = by_test (nat_lt more most) h
  where
    by_test : (b : Bool) → IsCutBehind (cond b (front.Token kind text more) front.Bad) n → more < n
    by_test true k = k
    by_test false k = absurd k

name_same : (b : ℕ) (bs : List ℕ) (n : ℕ) → IsCutBehind (name_part (b ∷ bs)) (suc n) → name_part (b ∷ take n bs) ≡ name_part (b ∷ bs)
name_same b bs n h =
    let few : name_len bs < suc n = run_fits kinds.Name 30 (name_len bs) _ (suc n) h in
    let len : name_len (take n bs) ≡ name_len bs = run-cut is_name_byte bs n (omega (arith, few)) in
    rw len (run_same kinds.Name 30 (name_len bs) (map to_ascii_uppercase) (b ∷ bs) (suc n) h)

number_same : (b : ℕ) (bs : List ℕ) (n : ℕ) → IsCutBehind (number_part (b ∷ bs)) (suc n) → number_part (b ∷ take n bs) ≡ number_part (b ∷ bs)
number_same b bs n h =
    let few : digits_len bs < suc n = run_fits kinds.Number 38 (digits_len bs) _ (suc n) h in
    let len : digits_len (take n bs) ≡ digits_len bs = run-cut is_ascii_digit bs n (omega (arith, few)) in
    rw len (run_same kinds.Number 38 (digits_len bs) (λ xs. xs) (b ∷ bs) (suc n) h)

text_same : (bs : List ℕ) (n : ℕ) → IsCutBehind (text_part (text_of bs)) (suc n) → text_part (text_of (take n bs)) ≡ text_part (text_of bs)
text_same bs n h = by_text (text_of bs) refl h
  where
    by_text : (o : Option (List ℕ × ℕ)) → text_of bs ≡ o → IsCutBehind (text_part o) (suc n) → text_part (text_of (take n bs)) ≡ text_part o
    by_text None e k = absurd k
    by_text (Some t) e k = ap text_part (text-cut bs t e n (omega (arith, k)))

mark_same : (len : ℕ) (bytes : List ℕ) (n : ℕ) → IsCutBehind (mark_part len bytes) n → mark_part len (take n bytes) ≡ mark_part len bytes
mark_same zero bytes n h = refl
mark_same (suc more) bytes n h = ap (λ xs. front.Token kinds.Mark xs more) (take-take (suc more) n bytes (omega (arith, h)))

part_same : (s : Start) (b c : ℕ) (bs : List ℕ) (n : ℕ) → IsCutBehind (part_of s (b ∷ c ∷ bs)) (suc (suc n)) → part_of s (b ∷ c ∷ take n bs) ≡ part_of s (b ∷ c ∷ bs)
part_same starts.Blank b c bs n h = refl
part_same starts.Comment b c bs n h = ap front.Blank (run-cut (λ x. not (x == 10)) (c ∷ bs) (suc n) (omega (arith, h)))
part_same starts.Name b c bs n h = name_same b (c ∷ bs) (suc n) h
part_same starts.Number b c bs n h = number_same b (c ∷ bs) (suc n) h
part_same starts.Quote b c bs n h = text_same (c ∷ bs) (suc n) h
part_same starts.Mark b c bs n h = mark_same (mark_len b c) (b ∷ c ∷ bs) (suc (suc n)) h

-- a mark of one byte is that by itself
mark_alone : (b c : ℕ) → mark_len b c ≡ 1 → mark_len b 0 ≡ 1
mark_alone b c h = grind (arith, nat_tests, h)

-- what a byte begins by itself, where it is no CR and begins no comment
start_alone : (b c : ℕ) → b ≢ 13 → (b == 45 && c == 45) ≡ false → start_of b 0 ≡ start_of b c
start_alone b c h k = grind (arith, nat_tests, h, k)

comment_of : (b c : ℕ) → (b == 45 && c == 45) ≡ true → start_of b c ≡ starts.Comment
comment_of b c h = grind (arith, nat_tests, h)

alone : (s : Start) (b c : ℕ) → start_of b c ≡ s → b ≢ 13 → (s ≡ starts.Comment → ⊥) → start_of b 0 ≡ s
alone s b c e h other = by_test (b == 45 && c == 45) refl
  where
    by_test : (t : Bool) → (b == 45 && c == 45) ≡ t → start_of b 0 ≡ s
    by_test true k = absurd (other (sym e ∙ comment_of b c k))
    by_test false k = start_alone b c h k ∙ e

-- a comment has two bytes at least
comment_long : (b c : ℕ) (bs : List ℕ) → start_of b c ≡ starts.Comment → line_len (c ∷ bs) < 1 → ⊥
comment_long b c bs e k =
    let second : c ≡ 45 = grind (arith, nat_tests, e) in
    let some : line_len (45 ∷ bs) < 1 = subst (λ x. line_len (x ∷ bs) < 1) second k in
    omega (arith, some, length-prefix_len (λ x. not (x == 10)) (45 ∷ bs))

part_alone : (s : Start) (b c : ℕ) (bs : List ℕ) → start_of b c ≡ s → b ≢ 13 → IsCutBehind (part_of s (b ∷ c ∷ bs)) 1 → part_of (start_of b 0) (b ∷ []) ≡ part_of s (b ∷ c ∷ bs)
part_alone starts.Blank b c bs e h k = rw (alone starts.Blank b c e h (λ x. cc)) refl
part_alone starts.Comment b c bs e h k = absurd (comment_long b c bs e k)
part_alone starts.Name b c bs e h k = rw (alone starts.Name b c e h (λ x. cc)) (name_same b (c ∷ bs) 0 k)
part_alone starts.Number b c bs e h k = rw (alone starts.Number b c e h (λ x. cc)) (number_same b (c ∷ bs) 0 k)
part_alone starts.Quote b c bs e h k = rw (alone starts.Quote b c e h (λ x. cc)) (text_same (c ∷ bs) 0 k)
part_alone starts.Mark b c bs e h k = rw (alone starts.Mark b c e h (λ x. cc)) (by_len (mark_len b c) refl k)
  where
    by_len : (n : ℕ) → mark_len b c ≡ n → IsCutBehind (mark_part n (b ∷ c ∷ bs)) 1 → mark_part (mark_len b 0) (b ∷ []) ≡ mark_part n (b ∷ c ∷ bs)
    by_len zero f l = absurd l
    by_len (suc zero) f l = rw (mark_alone b c f) refl
    by_len (suc (suc m)) f l = absurd (omega (arith, l))

none_cut : (x : Front) → IsCutBehind x 0 → ⊥
none_cut (front.Blank more) h = omega (arith, h)
none_cut (front.Token kind text more) h = omega (arith, h)
none_cut front.Bad h = h
none_cut front.Open h = h

pub front-cut : (bytes : List ℕ) (n : ℕ) → (slice_index bytes 0 ≡ 13 → 2 ≤ n) → IsCutBehind (front_of bytes) n → front_of (take n bytes) ≡ front_of bytes
unfolding front_of
front-cut [] n cr h = absurd h
front-cut (b ∷ []) zero cr h = absurd (none_cut (front_of (b ∷ [])) h)
front-cut (b ∷ []) (suc zero) cr h = refl
front-cut (b ∷ []) (suc (suc n)) cr h = refl
front-cut (b ∷ c ∷ bs) zero cr h = absurd (none_cut (front_of (b ∷ c ∷ bs)) h)
front-cut (b ∷ c ∷ bs) (suc zero) cr h = part_alone (start_of b c) b c bs refl (λ e. absurd (omega (arith, cr e))) h
front-cut (b ∷ c ∷ bs) (suc (suc n)) cr h = part_same (start_of b c) b c bs n h

pub ruleset cuts = (front-cut)
