use Rattle.std.specs.Prelude.{Ok, [], codes, refl, ◌∷◌, ◌≡◌}
use Rattle.def_rows.specs.Lines.{Ordering, Two, chars, digits, front_of, is_utf8, lines_text, output, tokens_of, utf8_valid_len}

-- Each statement of a block has to leave the keys in order: parents before children, and no parent goes that has a child.
pub foreign_keys :
    output (Ordering Two) (lines_text (
    codes "@setup"
    ∷ codes "CREATE TABLE P (ID NUMBER PRIMARY KEY);"
    ∷ codes "CREATE TABLE C (PID NUMBER REFERENCES P (ID));"
    ∷ codes "BEGIN; INSERT INTO P VALUES (1); INSERT INTO C VALUES (1); COMMIT;"
    ∷ codes "BEGIN; INSERT INTO C VALUES (2); INSERT INTO P VALUES (2); COMMIT;"
    ∷ codes "DELETE FROM P;"
    ∷ codes "@end"
    ∷ []))
    ≡ Ok (lines_text (
    codes "mviewdb 2"
    ∷ codes "0.1 DONE SCN 1 READ 0"
    ∷ codes "0.2 DONE SCN 2 READ 0"
    ∷ codes "0.3 COMMITTED SCN 3 ROWS 2 READ 0 VIEWS 0"
    ∷ codes "0.4 REFUSED MV-07 AT 1 C PID READ 0"
    ∷ codes "0.5 REFUSED MV-08 AT 1 P C READ 1"
    ∷ codes "journal 0.1.1 0.2.1 0.3.1 0.4.1 0.5.1"
    ∷ []))
unfolding digits utf8_valid_len is_utf8 chars lib.Utf8.encode tokens_of front_of
foreign_keys = refl
