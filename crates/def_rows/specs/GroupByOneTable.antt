use Rattle.std.specs.Prelude.{Ok, [], codes, refl, ◌∷◌, ◌≡◌}
use Rattle.def_rows.specs.Lines.{Ordering, Two, chars, digits, front_of, is_utf8, lines_text, output, tokens_of, utf8_valid_len}

-- One table, one INSERT and one query with GROUP BY: SUM leaves NULL out, and COUNT(*) counts every row.
pub group_by_one_table :
    output (Ordering Two) (lines_text (
    codes "@setup"
    ∷ codes "CREATE TABLE T (G VARCHAR2(4), A NUMBER);"
    ∷ codes "INSERT INTO T VALUES ('P',10),('P',5),('Q',NULL);"
    ∷ codes "SELECT G, SUM(A), COUNT(*) FROM T GROUP BY G;"
    ∷ codes "@end"
    ∷ []))
    ≡ Ok (lines_text (
    codes "mviewdb 2"
    ∷ codes "0.1 DONE SCN 1 READ 0"
    ∷ codes "0.2 COMMITTED SCN 2 ROWS 3 READ 0 VIEWS 0"
    ∷ codes "0.3 ANSWER SCN 2 PLAN BASE READ 3 ROWS 2"
    ∷ codes "P|15|2"
    ∷ codes "Q||1"
    ∷ codes "journal 0.1.1 0.2.1 0.3.1"
    ∷ []))
unfolding digits utf8_valid_len is_utf8 chars lib.Utf8.encode tokens_of front_of
group_by_one_table = refl
