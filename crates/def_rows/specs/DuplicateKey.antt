use Rattle.std.specs.Prelude.{Ok, [], codes, refl, ◌∷◌, ◌≡◌}
use Rattle.def_rows.specs.Lines.{Ordering, Two, chars, digits, front_of, is_utf8, lines_text, output, tokens_of, utf8_valid_len}

-- A block is all or nothing: the second row with the same key undoes the first.
pub duplicate_key_undoes_block :
    output (Ordering Two) (lines_text (
    codes "@setup"
    ∷ codes "CREATE TABLE K (I NUMBER PRIMARY KEY);"
    ∷ codes "BEGIN; INSERT INTO K VALUES (1); INSERT INTO K VALUES (1); COMMIT;"
    ∷ codes "SELECT COUNT(*) FROM K;"
    ∷ codes "@end"
    ∷ []))
    ≡ Ok (lines_text (
    codes "mviewdb 2"
    ∷ codes "0.1 DONE SCN 1 READ 0"
    ∷ codes "0.2 REFUSED MV-06 AT 2 K I READ 0"
    ∷ codes "0.3 ANSWER SCN 1 PLAN BASE READ 0 ROWS 1"
    ∷ codes "0"
    ∷ codes "journal 0.1.1 0.2.1 0.3.1"
    ∷ []))
unfolding digits utf8_valid_len is_utf8 chars lib.Utf8.encode tokens_of front_of
duplicate_key_undoes_block = refl
