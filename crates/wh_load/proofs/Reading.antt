-- The digits of a number one by one, and a field by its first byte.
use Rattle.std.proofs.Common.{◌≡◌, ◌∙◌, sym, ap, refl, arith, ℕ, ◌+◌, ◌-◌, ◌*◌, ◌<◌, ◌≤◌, ◌&&◌, Bool, true, false, cond, List, [], ◌∷◌, length, drop, get_or, Option, Some, None, min, nat_le}
use Rattle.std.proofs.lemmas.Bool.Decides.{nat_tests}
use Rattle.std.proofs.lemmas.List.{drop_more}
use Rattle.std.specs.Prelude.{option_map, ℤ}
use Rattle.def_effect.specs.Block.{field_of_kind, field_value}
use Rattle.wh_base.specs.Values.{digits_number, digits_value}
use Rattle.wh_base.specs.declared.tables.Kind.{Kind}
use Rattle.wh_base.specs.declared.values.Value.TheVariants.{Day}
use Rattle.wh_load.specs.Capped.{capped, capped_size, largest}

-- ---- digits

-- two sizes that are capped alike are so with one digit more
digit_alike : (m n d : ℕ) → capped_size m ≡ capped_size n → capped_size (m * 10 + d) ≡ capped_size (n * 10 + d)
digit_alike m n d h = omega (arith, h)

digits_alike : (ds : List ℕ) (m n : ℕ) → capped_size m ≡ capped_size n → option_map capped_size (digits_value m ds) ≡ option_map capped_size (digits_value n ds)
digits_alike [] m n h = ap Some h
digits_alike (d ∷ ds) m n h = by (nat_le 48 d && nat_le d 57) (digits_alike ds (m * 10 + (d - 48)) (n * 10 + (d - 48)) (digit_alike m n (d - 48) h))
  where
    by : (b : Bool) → option_map capped_size (digits_value (m * 10 + (d - 48)) ds) ≡ option_map capped_size (digits_value (n * 10 + (d - 48)) ds)
        → option_map capped_size (cond b (digits_value (m * 10 + (d - 48)) ds) None) ≡ option_map capped_size (cond b (digits_value (n * 10 + (d - 48)) ds) None)
    by true rest = rest
    by false rest = refl

capped_twice : (n : ℕ) → capped_size (capped_size n) ≡ capped_size n
capped_twice n = omega arith

pub within_largest : (n m : ℕ) → m ≡ min n largest → m ≤ largest
within_largest n m e = omega (arith, e)

-- a digit that is read, with the rest behind it
pub digit_on : {whole : Option ℕ} (digits : List ℕ) (at size next : ℕ) → at < length digits → 48 ≤ get_or digits at 0 → get_or digits at 0 ≤ 57 → next ≡ min (size * 10 + (get_or digits at 0 - 48)) largest
    → option_map capped_size (digits_value size (drop at digits)) ≡ whole → option_map capped_size (digits_value next (drop (at + 1) digits)) ≡ whole
digit_on digits at size next less low high e h =
    let d : ℕ = get_or digits at 0 in
    let test : (nat_le 48 d && nat_le d 57) ≡ true = grind (arith, nat_tests, low, high) in
    let now : digits_value size (drop at digits) ≡ digits_value (size * 10 + (d - 48)) (drop (at + 1) digits) =
    ap (digits_value size) (drop_more digits at 0 less) ∙ ap (λ b. cond b (digits_value (size * 10 + (d - 48)) (drop (at + 1) digits)) None) test in
    ap (λ n. option_map capped_size (digits_value n (drop (at + 1) digits))) e
    ∙ digits_alike (drop (at + 1) digits) (capped_size (size * 10 + (d - 48))) (size * 10 + (d - 48)) (capped_twice (size * 10 + (d - 48)))
    ∙ sym (ap (option_map capped_size) now)
    ∙ h

-- a byte that is no digit
pub digit_off : {whole : Option ℕ} (digits : List ℕ) (at size : ℕ) → at < length digits → (nat_le 48 (get_or digits at 0) && nat_le (get_or digits at 0) 57) ≡ false
    → option_map capped_size (digits_value size (drop at digits)) ≡ whole → None ≡ whole
digit_off digits at size less test h =
    let d : ℕ = get_or digits at 0 in
    let now : digits_value size (drop at digits) ≡ None =
    ap (digits_value size) (drop_more digits at 0 less) ∙ ap (λ b. cond b (digits_value (size * 10 + (d - 48)) (drop (at + 1) digits)) None) test in
    sym (ap (option_map capped_size) now) ∙ h

pub digits_end : (digits : List ℕ) (size : ℕ) → size ≤ largest → Some size ≡ option_map capped_size (digits_value size [])
digits_end digits size most = let same : size ≡ capped_size size = omega (arith, most) in ap Some same

-- where there are digits, their number begins at 0
pub begun : (digits : List ℕ) → (digits ≡ [] → ⊥) → digits_number digits ≡ digits_value 0 digits
begun [] some = absurd (some refl)
begun (d ∷ ds) some = refl

pub ruleset digits = (digit_on, digit_off, digits_end, begun)

-- ---- fields

pub some_field : (k : Kind) (field : List ℕ) → (field ≡ [] → ⊥) → field_value k field ≡ field_of_kind k field
some_field k [] some = absurd (some refl)
some_field k (b ∷ bs) some = refl

-- a day is not capped
pub day_whole : (day : Option ℤ) → option_map Day day ≡ option_map capped (option_map Day day)
day_whole None = refl
day_whole (Some n) = refl

pub ruleset fields = (some_field, day_whole)
