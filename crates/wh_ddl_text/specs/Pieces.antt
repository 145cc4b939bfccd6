-- Pieces of the rules of statements that the code reads by themselves.
use Rattle.std.specs.Prelude.{Bool, List, codes, false, neg_ℤ, not, pos, true, ℕ}
use Rattle.def_grammar.specs.Forms.{fast_or_other, on_commit}
use Rattle.def_grammar.specs.Reading.{Rule, gives, mapped, mark, name, number, word, ◌>>=◌, ◌>>◌, ◌or◌}
use Rattle.wh_base.specs.declared.statements.Method.{Method}
use Rattle.wh_base.specs.declared.statements.NewValue.{NewValue}
use Rattle.wh_base.specs.declared.statements.NewValue.TheVariants.{Moved}
use Rattle.wh_base.specs.declared.statements.SplitPart.{SplitPart}
use Rattle.wh_base.specs.declared.values.Literal.{Literal}

-- name (+ | -) number
abbrev pub moved_value : Rule NewValue
moved_value = do
  c ← name
  n ← (mark (codes "+") >> mapped pos number) or (mark (codes "-") >> mapped (λ n. neg_ℤ (pos n)) number)
  gives (Moved c n)

-- an option of a log that is the wanted one: true is ROWID
abbrev pub is_option : Bool → Bool → Bool
is_option true = λ b. b
is_option false = not

-- REFRESH [FAST | COMPLETE | FORCE] [ON COMMIT | ON DEMAND]
abbrev pub written_refresh : Rule (Method × Bool)
written_refresh = do
  word (codes "REFRESH")
  m ← fast_or_other
  c ← on_commit
  gives (m, c)

-- ( PARTITION name , PARTITION name )
abbrev pub halves : Rule (List ℕ × List ℕ)
halves = do
  mark (codes "(")
  word (codes "PARTITION")
  l ← name
  mark (codes ",")
  word (codes "PARTITION")
  u ← name
  mark (codes ")")
  gives (l, u)

-- a partition that is split at this bound, with its halves
abbrev pub split_with : List ℕ → Literal → List ℕ × List ℕ → SplitPart
split_with p v h = record { name = p; at = v; lower = h.0; upper = h.1 }

-- the same, read from its halves on
abbrev pub split_from : List ℕ → Literal → Rule SplitPart
split_from p v = do
  mark (codes "(")
  word (codes "PARTITION")
  l ← name
  mark (codes ",")
  word (codes "PARTITION")
  u ← name
  mark (codes ")")
  gives (record { name = p; at = v; lower = l; upper = u })
