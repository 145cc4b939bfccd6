-- A signed number of 128 bits as two words of 64 bits.
use Rattle.std.specs.Prelude.{◌≡◌, ℕ, ℤ, ◌+◌, ◌*◌, ◌/◌, ◌%◌, ◌<◌, ◌^◌}
use Rattle.std.specs.Int.{cast_signed, cast_unsigned, w128}
use Rattle.std.proofs.Common.{arith, ap, ◌∙◌}
use Rattle.std.proofs.lemmas.Int.{of_z-to_z}

abbrev pub from_words : ℕ → ℕ → ℤ
from_words high low = cast_signed w128 (high * 2 ^ 64 + low)

abbrev pub high_word : ℤ → ℕ
high_word n = cast_unsigned w128 n / 2 ^ 64

abbrev pub low_word : ℤ → ℕ
low_word n = cast_unsigned w128 n % 2 ^ 64

pub words_kept : {A : Type 0} (make : ℕ → ℕ → A) (high low : ℕ) → high < 2 ^ 64 → low < 2 ^ 64 → make (high_word (from_words high low)) (low_word (from_words high low)) ≡ make high low
words_kept make high low h l =
    let bits : cast_unsigned w128 (from_words high low) ≡ high * 2 ^ 64 + low = of_z-to_z w128 (high * 2 ^ 64 + low) (omega arith) in
    let first : high_word (from_words high low) ≡ high = ap (λ n. n / 2 ^ 64) bits ∙ omega arith in
    let second : low_word (from_words high low) ≡ low = ap (λ n. n % 2 ^ 64) bits ∙ omega arith in
    λ i. make (first i) (second i)
