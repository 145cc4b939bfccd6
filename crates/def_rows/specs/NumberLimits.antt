use Rattle.std.specs.Prelude.{Ok, [], codes, refl, ◌∷◌, ◌≡◌}
use Rattle.def_rows.specs.Lines.{Ordering, Two, chars, digits, front_of, is_utf8, lines_text, output, tokens_of, utf8_valid_len}

-- A number has at most 15 digits, and a sum of products may be longer.
pub number_limits :
    output (Ordering Two) (lines_text (
    codes "@setup"
    ∷ codes "CREATE TABLE N (A NUMBER, B NUMBER);"
    ∷ codes "INSERT INTO N VALUES (999999999999999, 999999999999999);"
    ∷ codes "SELECT SUM(A*B) FROM N;"
    ∷ codes "INSERT INTO N VALUES (1000000000000000, 1);"
    ∷ codes "@end"
    ∷ []))
    ≡ Ok (lines_text (
    codes "mviewdb 2"
    ∷ codes "0.1 DONE SCN 1 READ 0"
    ∷ codes "0.2 COMMITTED SCN 2 ROWS 1 READ 0 VIEWS 0"
    ∷ codes "0.3 ANSWER SCN 2 PLAN BASE READ 1 ROWS 1"
    ∷ codes "999999999999998000000000000001"
    ∷ codes "0.4 REFUSED MV-04 AT 1 N A READ 0"
    ∷ codes "journal 0.1.1 0.2.1 0.3.1 0.4.1"
    ∷ []))
unfolding digits utf8_valid_len is_utf8 chars lib.Utf8.encode tokens_of front_of
number_limits = refl
