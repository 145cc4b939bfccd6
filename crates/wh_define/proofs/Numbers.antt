-- Partitions that are numbered one behind another.
use Rattle.std.proofs.Common.{◌≡◌, ◌∙◌, ◌+◌, ◌<◌, ◌++◌, ap, arith, refl, sym, ℕ, suc, List, [], ◌∷◌, Option, Some, None, Ok, Err, length, take, drop, get_or}
use Rattle.def_effect.specs.Define.{numbered_parts}
use Rattle.std.proofs.lemmas.List.{take_more}
use Rattle.def_resolve.specs.Earlier.{first_after, first_in_turn}
use Rattle.wh_base.specs.Lists.{unless}
use Rattle.wh_base.specs.declared.replies.Refusal.{Refusal}
use Rattle.wh_base.specs.declared.statements.NewRange.{NewRange}
use Rattle.wh_base.specs.declared.tables.Part.{Part}
use Rattle.wh_define.specs.Bounds.{numbered}
use Rattle.wh_define.proofs.Turns.{turn_on, turn_off}

numbered_behind : (n : ℕ) (rs : List NewRange) (r : NewRange) → numbered_parts n (rs ++ r ∷ []) ≡ numbered_parts n rs ++ numbered (n + length rs) r ∷ []
numbered_behind n [] r = let e : n ≡ n + 0 = omega arith in ap (λ m. numbered m r ∷ []) e
numbered_behind n (s ∷ rs) r =
    let e : suc n + length rs ≡ n + length (s ∷ rs) = omega arith in
    ap (λ ps. numbered n s ∷ ps) (numbered_behind (suc n) rs r ∙ ap (λ m. numbered_parts (suc n) rs ++ numbered m r ∷ []) e)

numbered_length : (n : ℕ) (rs : List NewRange) → length (numbered_parts n rs) ≡ length rs
numbered_length n [] = refl
numbered_length n (r ∷ rs) = omega (arith, numbered_length (suc n) rs)

-- the next partition has the next number
part_behind : (parts : List Part) (part : Part) (rs : List NewRange) (r : NewRange) → parts ≡ numbered_parts 1 rs → part ≡ numbered (suc (length parts)) r → parts ++ part ∷ [] ≡ numbered_parts 1 (rs ++ r ∷ [])
part_behind parts part rs r e f =
    let count : suc (length parts) ≡ 1 + length rs = omega (arith, ap length e, numbered_length 1 rs) in
    ap (λ ps. ps ++ part ∷ []) e ∙ ap (λ p. numbered_parts 1 rs ++ p ∷ []) (f ∙ ap (λ n. numbered n r) count) ∙ sym (numbered_behind 1 rs r)

-- what a value that wasn't refused says, and what a refusal says
pub not_refused : {A : Type 0} (o : Option Refusal) (x y : A) → Ok y ≡ unless o x → (None ≡ o) × (y ≡ x)
not_refused None x y e = (refl, cc)
not_refused (Some b) x y e = cc

pub refused : {A : Type 0} (o : Option Refusal) (x : A) (b : Refusal) → Err b ≡ unless o x → Some b ≡ o
refused None x b e = cc
refused (Some c) x b e = cc

pub refused_by : {A : Type 0} (o : Option Refusal) (x : A) (b : Refusal) → Some b ≡ o → Err b ≡ unless o x
refused_by o x b e = rw (sym e) refl

pub made_by : {A : Type 0} (o : Option Refusal) (x y : A) → None ≡ o → y ≡ x → Ok y ≡ unless o x
made_by o x y e f = rw (sym e) (ap Ok f)

-- one turn that makes a partition, and one that refuses it
pub next_parts : (h : List NewRange → NewRange → Option Refusal) (ranges : List NewRange) (at : ℕ) (r : NewRange) (parts : List Part) (part : Part) → at < length ranges → r ≡ get_or ranges at r → parts ≡ numbered_parts 1 (take at ranges) → Ok part ≡ unless (h (take at ranges) r) (numbered (suc (length parts)) r) → parts ++ part ∷ [] ≡ numbered_parts 1 (take (at + 1) ranges)
next_parts h ranges at r parts part less is e made =
    let kept : take (at + 1) ranges ≡ take at ranges ++ r ∷ [] = take_more ranges at r less ∙ ap (λ y. take at ranges ++ y ∷ []) (sym is) in
    part_behind parts part (take at ranges) r e (not_refused (h (take at ranges) r) (numbered (suc (length parts)) r) part made).1 ∙ ap (numbered_parts 1) (sym kept)

pub next_turn : (h : List NewRange → NewRange → Option Refusal) (ranges : List NewRange) (at : ℕ) (r : NewRange) (parts : List Part) (part : Part) → at < length ranges → r ≡ get_or ranges at r → Ok part ≡ unless (h (take at ranges) r) (numbered (suc (length parts)) r) → first_after h (take (at + 1) ranges) (drop (at + 1) ranges) ≡ first_after h (take at ranges) (drop at ranges)
next_turn h ranges at r parts part less is made = turn_on h ranges at r less is (not_refused (h (take at ranges) r) (numbered (suc (length parts)) r) part made).0

pub no_turn : {A : Type 0} (h : List NewRange → NewRange → Option Refusal) (ranges : List NewRange) (at : ℕ) (r : NewRange) (x : Part) (y : A) (b : Refusal) → at < length ranges → r ≡ get_or ranges at r → first_after h (take at ranges) (drop at ranges) ≡ first_in_turn h ranges → Err b ≡ unless (h (take at ranges) r) x → Err b ≡ unless (first_in_turn h ranges) y
no_turn h ranges at r x y b less is turn e =
    refused_by (first_in_turn h ranges) y b (turn_off h ranges at r b less is (refused (h (take at ranges) r) x b e) ∙ turn)

pub ruleset numbering = (next_parts, next_turn, no_turn, made_by)
