use Rattle.std.specs.Prelude.{Ok, [], codes, refl, ◌∷◌, ◌≡◌}
use Rattle.def_rows.specs.Lines.{Ordering, Two, chars, digits, front_of, is_utf8, lines_text, output, tokens_of, utf8_valid_len}

-- UPDATE and DELETE read all live rows of their table, also where they change none. An empty block is a commit.
-- A query in a block is refused when the block runs.
pub update_delete_and_empty_block :
    output (Ordering Two) (lines_text (
    codes "@setup"
    ∷ codes "CREATE TABLE T (G VARCHAR2(4), A NUMBER);"
    ∷ codes "INSERT INTO T VALUES ('P',1),('Q',NULL);"
    ∷ codes "UPDATE T SET A = A + 1;"
    ∷ codes "DELETE FROM T WHERE A = 9;"
    ∷ codes "BEGIN; COMMIT;"
    ∷ codes "BEGIN; SELECT COUNT(*) FROM T; COMMIT;"
    ∷ codes "@end"
    ∷ []))
    ≡ Ok (lines_text (
    codes "mviewdb 2"
    ∷ codes "0.1 DONE SCN 1 READ 0"
    ∷ codes "0.2 COMMITTED SCN 2 ROWS 2 READ 0 VIEWS 0"
    ∷ codes "0.3 COMMITTED SCN 3 ROWS 2 READ 2 VIEWS 0"
    ∷ codes "0.4 COMMITTED SCN 4 ROWS 0 READ 2 VIEWS 0"
    ∷ codes "0.5 COMMITTED SCN 5 ROWS 0 READ 0 VIEWS 0"
    ∷ codes "0.6 REFUSED MV-19 AT 1 READ 0"
    ∷ codes "journal 0.1.1 0.2.1 0.3.1 0.4.1 0.5.1 0.6.1"
    ∷ []))
unfolding digits utf8_valid_len is_utf8 chars lib.Utf8.encode tokens_of front_of
update_delete_and_empty_block = refl
