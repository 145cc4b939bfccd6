-- A word as text.
use Rattle.std.proofs.Common.{◌≡◌, ℕ, List, Bool, None, Some, true, false, refl, ap}
use Rattle.std.specs.Str.{is_utf8, IsUtf8}
use Rattle.std.proofs.lemmas.Str.{IsUtf8-from_is_utf8, is_utf8-from_IsUtf8}
use Rattle.wh_base.specs.Lists.{where_true}

pub is_text : (bs t : List ℕ) → t ≡ bs → IsUtf8 bs → Some t ≡ where_true (is_utf8 bs) bs
is_text bs t same utf8 = rw (is_utf8-from_IsUtf8 bs utf8) (ap Some same)

pub no_text : (bs : List ℕ) → (IsUtf8 bs → ⊥) → None ≡ where_true (is_utf8 bs) bs
no_text bs not_utf8 = go (is_utf8 bs) refl
  where
    go : (b : Bool) → is_utf8 bs ≡ b → None ≡ where_true b bs
    go true e = absurd (not_utf8 (IsUtf8-from_is_utf8 bs e))
    go false e = refl

pub ruleset texts = (is_text, no_text)
