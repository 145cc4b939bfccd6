use Rattle.std.specs.Prelude.{Ok, [], codes, refl, ◌∷◌, ◌≡◌}
use Rattle.def_rows.specs.Lines.{Ordering, Two, chars, digits, front_of, is_utf8, lines_text, output, tokens_of, utf8_valid_len}

-- From SET TRANSACTION READ ONLY to COMMIT a session sees one image and can't change anything.
pub read_only_transaction :
    output (Ordering Two) (lines_text (
    codes "@setup"
    ∷ codes "CREATE TABLE T (G VARCHAR2(4), A NUMBER);"
    ∷ codes "@session 1"
    ∷ codes "SET TRANSACTION READ ONLY;"
    ∷ codes "SELECT COUNT(*) FROM T;"
    ∷ codes "INSERT INTO T VALUES ('P',1);"
    ∷ codes "COMMIT;"
    ∷ codes "SELECT COUNT(*) FROM T;"
    ∷ codes "@session 2"
    ∷ codes "INSERT INTO T VALUES ('Q',2);"
    ∷ codes "@order 1 2 1 1 1 1"
    ∷ codes "@end"
    ∷ []))
    ≡ Ok (lines_text (
    codes "mviewdb 2"
    ∷ codes "0.1 DONE SCN 1 READ 0"
    ∷ codes "1.1 DONE SCN 1 READ 0"
    ∷ codes "1.2 ANSWER SCN 1 PLAN BASE READ 0 ROWS 1"
    ∷ codes "0"
    ∷ codes "1.3 REFUSED MV-29 READ 0"
    ∷ codes "1.4 DONE SCN 2 READ 0"
    ∷ codes "1.5 ANSWER SCN 2 PLAN BASE READ 1 ROWS 1"
    ∷ codes "1"
    ∷ codes "2.1 COMMITTED SCN 2 ROWS 1 READ 0 VIEWS 0"
    ∷ codes "journal 0.1.1 1.1.1 2.1.1 1.2.1 1.3.1 1.4.1 1.5.1"
    ∷ []))
unfolding digits utf8_valid_len is_utf8 chars lib.Utf8.encode tokens_of front_of
read_only_transaction = refl
