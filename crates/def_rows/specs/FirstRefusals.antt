use Rattle.std.specs.Prelude.{Ok, [], codes, refl, ◌∷◌, ◌≡◌}
use Rattle.def_rows.specs.Lines.{Ordering, Two, chars, digits, front_of, is_utf8, lines_text, output, tokens_of, utf8_valid_len}

-- A table that isn't there, a row with too few values, and a column that isn't there. A refusal changes nothing.
pub first_refusals :
    output (Ordering Two) (lines_text (
    codes "@setup"
    ∷ codes "CREATE TABLE T (G VARCHAR2(4), A NUMBER);"
    ∷ codes "INSERT INTO X VALUES (1);"
    ∷ codes "INSERT INTO T VALUES ('P');"
    ∷ codes "SELECT B, COUNT(*) FROM T GROUP BY B;"
    ∷ codes "@end"
    ∷ []))
    ≡ Ok (lines_text (
    codes "mviewdb 2"
    ∷ codes "0.1 DONE SCN 1 READ 0"
    ∷ codes "0.2 REFUSED MV-02 AT 1 X READ 0"
    ∷ codes "0.3 REFUSED MV-04 AT 1 T - READ 0"
    ∷ codes "0.4 REFUSED MV-03 B READ 0"
    ∷ codes "journal 0.1.1 0.2.1 0.3.1 0.4.1"
    ∷ []))
unfolding digits utf8_valid_len is_utf8 chars lib.Utf8.encode tokens_of front_of
first_refusals = refl
