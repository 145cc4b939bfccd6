-- The tokens of a text stand in it one after another.
use Rattle.std.proofs.Common.{◌≡◌, ℕ, ◌+◌, ◌-◌, ◌<◌, ◌≤◌, suc, zero, Bool, true, false, cond, ltb, eqb, List, [], ◌∷◌, length, drop, refl, ap, ◌∙◌, sym, subst, arith, Option, Some, None, Result, Ok, Err, length-drop, length-take}
use Rattle.std.specs.Prelude.{take_while, slice_index}
use Rattle.std.specs.List.{prefix_len}
use Rattle.std.proofs.lemmas.Bool.Decides.{nat_tests}
use Rattle.std.proofs.lemmas.List.{drop-drop}
use Rattle.wh_base.specs.declared.tokens.Token.{Token}
use Rattle.wh_base.specs.declared.tokens.TokenKind.{TokenKind}
use Rattle.wh_lex.specs.declared.front.Front.{Front}
use Rattle.wh_lex.specs.declared.front.Front.TheVariants as front
use Rattle.wh_lex.specs.declared.front.Start.{Start}
use Rattle.wh_lex.specs.declared.front.Start.TheVariants as starts
use Rattle.wh_lex.specs.declared.lex.LexFault.{LexFault}
use Rattle.wh_lex.specs.Tokens.{front_of, part_of, start_of, run_part, mark_part, mark_len, text_part, text_of, text_more, IsWithin}
use Rattle.wh_lex.specs.Lex.{tokens_from, tokens_of, with_front, after, IsSpan, AreSpans}

run_within : (k : TokenKind) (most more : ℕ) (text bytes : List ℕ) → more < length bytes → IsWithin (run_part k most more text) bytes
run_within k most more text bytes h = by_test (ltb more most) where
  by_test : (b : Bool) → IsWithin (cond b (front.Token k text more) front.Bad) bytes
  by_test true = h
  by_test false = tt

taken : (p : ℕ → Bool) (xs : List ℕ) → length (take_while p xs) ≤ length xs
taken p xs = omega (arith, length-take (prefix_len p xs) xs)

rest_below : (p : ℕ → Bool) (bytes : List ℕ) → 0 < length bytes → length (take_while p (drop 1 bytes)) < length bytes
rest_below p bytes h = omega (arith, taken p (drop 1 bytes), length-drop 1 bytes)

MaxLen : ℕ → Option (List ℕ × ℕ) → Type 0
MaxLen n None = Unit {0}
MaxLen n (Some t) = t.1 ≤ n

more_len : (b k n m : ℕ) (t : Option (List ℕ × ℕ)) → MaxLen n t → k + n ≤ m → MaxLen m (text_more b k t)
unfolding MaxLen
more_len b k n m None h e = tt
more_len b k n m (Some t) h e = omega arith

cond_len : (n : ℕ) (b : Bool) (s t : Option (List ℕ × ℕ)) → MaxLen n s → MaxLen n t → MaxLen n (cond b s t)
cond_len n true s t h k = h
cond_len n false s t h k = k

text_len : (bytes : List ℕ) → MaxLen (length bytes) (text_of bytes)
unfolding MaxLen
text_len [] = tt
text_len (b ∷ []) = cond_len 1 (eqb b 39) (Some ([], 1)) None (omega arith) tt
text_len (b ∷ c ∷ bytes) =
    cond_len (length (b ∷ c ∷ bytes)) (eqb b 10) _ _ tt
    (cond_len (length (b ∷ c ∷ bytes)) (eqb b 39) _ _
    (cond_len (length (b ∷ c ∷ bytes)) (eqb c 39) _ _ (more_len 39 2 (length bytes) (length (b ∷ c ∷ bytes)) (text_of bytes) (text_len bytes) (omega arith)) (omega arith))
    (more_len b 1 (length (c ∷ bytes)) (length (b ∷ c ∷ bytes)) (text_of (c ∷ bytes)) (text_len (c ∷ bytes)) (omega arith)))

mark_two : (b next : ℕ) → next ≡ 0 → mark_len b next ≤ 1
mark_two b next e = grind (arith, nat_tests)

mark_most : (b next : ℕ) → mark_len b next ≤ 2
mark_most b next = grind (arith, nat_tests)

mark_fits : (bytes : List ℕ) → 0 < length bytes → mark_len (slice_index bytes 0) (slice_index bytes 1) ≤ length bytes
mark_fits [] h = absurd (omega arith)
mark_fits (b ∷ []) h = mark_two b 0 refl
mark_fits (b ∷ c ∷ bytes) h = omega (arith, mark_most b c)

mark_within : (n : ℕ) (bytes : List ℕ) → n ≤ length bytes → IsWithin (mark_part n bytes) bytes
mark_within zero bytes h = tt
mark_within (suc more) bytes h = omega arith

text_within : (t : Option (List ℕ × ℕ)) (bytes : List ℕ) → 0 < length bytes → MaxLen (length (drop 1 bytes)) t → IsWithin (text_part t) bytes
unfolding MaxLen
text_within None bytes h k = tt
text_within (Some t) bytes h k = omega (arith, length-drop 1 bytes)

pub part_within : (s : Start) (bytes : List ℕ) → 0 < length bytes → IsWithin (part_of s bytes) bytes
part_within starts.Blank bytes h = h
part_within starts.Comment bytes h = rest_below _ bytes h
part_within starts.Name bytes h = run_within _ _ _ _ bytes (rest_below _ bytes h)
part_within starts.Number bytes h = run_within _ _ _ _ bytes (rest_below _ bytes h)
part_within starts.Quote bytes h = text_within (text_of (drop 1 bytes)) bytes h (text_len (drop 1 bytes))
part_within starts.Mark bytes h = mark_within (mark_len (slice_index bytes 0) (slice_index bytes 1)) bytes (mark_fits bytes h)

pub front_within : (bytes : List ℕ) → 0 < length bytes → IsWithin (front_of bytes) bytes
unfolding front_of
front_within bytes h = part_within (start_of (slice_index bytes 0) (slice_index bytes 1)) bytes h

earlier : (bytes : List ℕ) (low high : ℕ) (ts : List Token) → low ≤ high → AreSpans bytes high ts → AreSpans bytes low ts
earlier bytes low high [] h spans = tt
earlier bytes low high (t ∷ ts) h spans = (record { after = omega (arith, spans.0.after); some = spans.0.some; within = spans.0.within; reads = spans.0.reads }, spans.1)

module _ (bytes : List ℕ) (place : ℕ) (k : ℕ → Result (List Token) LexFault) (later : (more : ℕ) (us : List Token) → k more ≡ Ok us → AreSpans bytes (suc place + more) us) where
  behind : (t : Token) (more : ℕ) (r : Result (List Token) LexFault) (ts : List Token) → k more ≡ r → with_front (t ∷ []) r ≡ Ok ts → IsSpan bytes place t → t.end ≡ suc place + more → AreSpans bytes place ts
  behind t more (Ok us) ts e h span end =
      let same : t ∷ us ≡ ts = cc in
      subst (AreSpans bytes place) same (span, rw end (later more us e))
  behind t more (Err f) ts e h span end = cc

  spans_after : (x : Front) (ts : List Token) → front_of (drop place bytes) ≡ x → IsWithin x (drop place bytes) → place < length bytes → after x place k ≡ Ok ts → AreSpans bytes place ts
  spans_after (front.Blank more) ts e within some h = earlier bytes place (suc place + more) ts (omega arith) (later more ts h)
  spans_after (front.Token kind text more) ts e within some h =
      behind (record { kind = kind; text = text; start = place; end = place + (more + 1) }) more (k more) ts refl h
      (record { after = omega arith; some = omega arith; within = omega (arith, length-drop place bytes); reads = e ∙ (let n : more ≡ place + (more + 1) - place - 1 = omega arith in ap (front.Token kind text) n) })
      (omega arith)
  spans_after front.Bad ts e within some h = cc
  spans_after front.Open ts e within some h = cc

pub next : (bytes rest : List ℕ) (b place : ℕ) → drop place bytes ≡ b ∷ rest → drop (suc place) bytes ≡ rest
next bytes rest b place d = let one : place + 1 ≡ suc place = omega arith in rw (← one) (sym (drop-drop 1 place bytes) ∙ ap (drop 1) d)

spans_from : (bytes rest : List ℕ) (skip place : ℕ) (ts : List Token) → drop place bytes ≡ rest → tokens_from skip place rest ≡ Ok ts → AreSpans bytes (place + skip) ts
spans_from bytes [] skip place ts d h = let none : [] ≡ ts = cc in subst (AreSpans bytes (place + skip)) none tt
spans_from bytes (b ∷ rest) (suc skip) place ts d h = let p : suc place + skip ≡ place + suc skip = omega arith in subst (λ low. AreSpans bytes low ts) p (spans_from bytes rest skip (suc place) ts (next bytes rest b place d) h)
spans_from bytes (b ∷ rest) zero place ts d h =
    let p : place ≡ place + 0 = omega arith in
    let some : place < length bytes = omega (arith, length-drop place bytes, ap length d) in
    subst (λ low. AreSpans bytes low ts) p
    (spans_after bytes place (λ more. tokens_from more (suc place) rest) (λ more us e. spans_from bytes rest more (suc place) us (next bytes rest b place d) e)
    (front_of (b ∷ rest)) ts (ap front_of d) (rw d (front_within (b ∷ rest) (omega arith))) some h)

-- the tokens of a text stand in it one after another
pub tokens_of-spans : (bytes : List ℕ) (ts : List Token) → tokens_of bytes ≡ Ok ts → AreSpans bytes 0 ts
unfolding tokens_of
tokens_of-spans bytes ts h = spans_from bytes bytes 0 0 ts refl h

pub ruleset spans = (tokens_of-spans)
