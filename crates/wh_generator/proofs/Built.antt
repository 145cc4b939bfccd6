-- What the generated script is made of, computed.
use Rattle.std.proofs.Common.{◌≡◌, ℕ, ◌∷◌, [], length, refl, true}
use Rattle.std.specs.Fmt.{digits}
use Rattle.std.specs.Prelude.{sum_by}
use Rattle.def_built.specs.Form.{script_is_built}
use Rattle.def_journal.specs.Journal.{session_numbers}
use Rattle.def_output.specs.Generator.{generated}
use Rattle.wh_lex.specs.Lex.{tokens_of}
use Rattle.wh_lex.specs.Tokens.{front_of}

pub all-built : (n : ℕ) → script_is_built (generated n) ≡ true
unfolding tokens_of front_of digits
all-built n = refl

pub sessions-are : (n : ℕ) → session_numbers (generated n) ≡ 0 ∷ 1 ∷ 2 ∷ 3 ∷ []
sessions-are n = refl

pub command-count : (n : ℕ) → sum_by (λ s. length s.commands) (generated n).sections ≡ 45
unfolding tokens_of front_of digits
command-count n = refl
