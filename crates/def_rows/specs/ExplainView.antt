use Rattle.std.specs.Prelude.{Ok, [], codes, refl, ◌∷◌, ◌≡◌}
use Rattle.def_rows.specs.Lines.{Ordering, Two, chars, digits, front_of, is_utf8, lines_text, output, tokens_of, utf8_valid_len}

-- The nine lines for a view with MAX and a condition, which is insert-only, is over no partitioned table, and isn't enabled for rewrite.
pub explain_view :
    output (Ordering Two) (lines_text (
    codes "@setup"
    ∷ codes "CREATE TABLE T (G VARCHAR2(4), A NUMBER);"
    ∷ codes "CREATE MATERIALIZED VIEW LOG ON T WITH ROWID, SEQUENCE (G, A) INCLUDING NEW VALUES;"
    ∷ codes "INSERT INTO T VALUES ('P',10),('P',4);"
    ∷ codes "CREATE MATERIALIZED VIEW V AS SELECT G, MAX(A), COUNT(*) FROM T GROUP BY G;"
    ∷ codes "CREATE MATERIALIZED VIEW W AS SELECT G, MAX(A), COUNT(*) FROM T WHERE A > 0 GROUP BY G;"
    ∷ codes "EXPLAIN MVIEW W;"
    ∷ codes "@end"
    ∷ []))
    ≡ Ok (lines_text (
    codes "mviewdb 2"
    ∷ codes "0.1 DONE SCN 1 READ 0"
    ∷ codes "0.2 DONE SCN 2 READ 0"
    ∷ codes "0.3 COMMITTED SCN 3 ROWS 2 READ 0 VIEWS 0"
    ∷ codes "0.4 DONE SCN 3 READ 2"
    ∷ codes "0.5 DONE SCN 3 READ 2"
    ∷ codes "0.6 MVIEW W READ 0 ROWS 9"
    ∷ codes "REFRESH_COMPLETE|Y|"
    ∷ codes "REFRESH_FAST_AFTER_INSERT|Y|"
    ∷ codes "REFRESH_FAST_AFTER_ONETAB_DML|N|F13"
    ∷ codes "REFRESH_FAST_AFTER_ANY_DML|N|F13"
    ∷ codes "REFRESH_FAST_PCT|N|P1"
    ∷ codes "REWRITE_FULL_TEXT_MATCH|N|E9"
    ∷ codes "REWRITE_PARTIAL_TEXT_MATCH|N|E9"
    ∷ codes "REWRITE_GENERAL|N|E9"
    ∷ codes "REWRITE_PCT|N|E9"
    ∷ codes "journal 0.1.1 0.2.1 0.3.1 0.4.1 0.5.1 0.6.1"
    ∷ []))
unfolding digits utf8_valid_len is_utf8 chars lib.Utf8.encode tokens_of front_of
explain_view = refl
