-- Rounds over the joins, as loops make them.
use Rattle.std.proofs.Common.{◌≡◌, ◌+◌, ◌-◌, ◌<◌, ◌≤◌, ℕ, suc, List, ◌++◌, length, drop, get_or, refl, arith, ap}
use Rattle.std.proofs.Math.ListN.{drop_of_length-le}
use Rattle.std.proofs.lemmas.List.{drop_more}
use Rattle.wh_base.specs.declared.columns.ColRef.{ColRef}
use Rattle.wh_base.specs.declared.queries.Edge.{Edge}
use Rattle.def_meaning.specs.Ranges.{other_end, spread, spread_times}

pub spread-more : (es : List Edge) (columns : List ColRef) (at : ℕ) (d : Edge) → at < length es → spread (drop at es) columns ≡ spread (drop (at + 1) es) (columns ++ other_end columns (get_or es at d))
spread-more es columns at d h = rw (drop_more es at d h) refl

pub spread-done : (es : List Edge) (columns : List ColRef) (at : ℕ) → length es ≤ at → spread (drop at es) columns ≡ columns
spread-done es columns at h = rw (drop_of_length-le es h) refl

pub ruleset spreading = (spread-more, spread-done)

pub rounds-more : (es : List Edge) (columns : List ColRef) (n at : ℕ) → at < n → spread_times (n - at) es columns ≡ spread_times (n - (at + 1)) es (spread es columns)
rounds-more es columns n at h = let e : n - at ≡ suc (n - (at + 1)) = omega arith in ap (λ k. spread_times k es columns) e

pub rounds-done : (es : List Edge) (columns : List ColRef) (n at : ℕ) → n ≤ at → spread_times (n - at) es columns ≡ columns
rounds-done es columns n at h = let e : n - at ≡ 0 = omega arith in ap (λ k. spread_times k es columns) e

pub ruleset rounds = (rounds-more, rounds-done)
