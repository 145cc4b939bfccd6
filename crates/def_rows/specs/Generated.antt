use Rattle.std.specs.Prelude.{Ok, [], codes, refl, ◌∷◌, ◌≡◌}
use Rattle.def_rows.specs.Lines.{Generating, digits, front_of, lines_text, output, tokens_of}

-- The summary of the generated script with one sale.
pub one_sale :
    output (Generating 1) []
    ≡ Ok (lines_text (
    codes "gen 1"
    ∷ codes "commands 45"
    ∷ codes "refused 0"
    ∷ codes "rewritten 10"
    ∷ codes "read 4091"
    ∷ codes "scn 14"
    ∷ []))
unfolding digits tokens_of front_of
one_sale = refl
