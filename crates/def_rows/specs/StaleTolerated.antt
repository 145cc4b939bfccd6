use Rattle.std.specs.Prelude.{Ok, [], codes, refl, ◌∷◌, ◌≡◌}
use Rattle.def_rows.specs.Lines.{Ordering, Two, chars, digits, front_of, is_utf8, lines_text, output, tokens_of, utf8_valid_len}

-- Under STALE_TOLERATED a stale view answers with the rows that it has.
pub stale_tolerated :
    output (Ordering Two) (lines_text (
    codes "@setup"
    ∷ codes "CREATE TABLE T (G VARCHAR2(4), A NUMBER);"
    ∷ codes "INSERT INTO T VALUES ('P',1);"
    ∷ codes "CREATE MATERIALIZED VIEW V ENABLE QUERY REWRITE AS SELECT G, SUM(A), COUNT(*) FROM T GROUP BY G;"
    ∷ codes "INSERT INTO T VALUES ('P',2);"
    ∷ codes "ALTER SESSION SET QUERY_REWRITE_INTEGRITY = STALE_TOLERATED;"
    ∷ codes "SELECT G, SUM(A), COUNT(*) FROM T GROUP BY G;"
    ∷ codes "@end"
    ∷ []))
    ≡ Ok (lines_text (
    codes "mviewdb 2"
    ∷ codes "0.1 DONE SCN 1 READ 0"
    ∷ codes "0.2 COMMITTED SCN 2 ROWS 1 READ 0 VIEWS 0"
    ∷ codes "0.3 DONE SCN 2 READ 1"
    ∷ codes "0.4 COMMITTED SCN 3 ROWS 1 READ 0 VIEWS 0"
    ∷ codes "0.5 DONE SCN 3 READ 0"
    ∷ codes "0.6 ANSWER SCN 3 PLAN FULL V@2 READ 0 ROWS 1"
    ∷ codes "P|1|1"
    ∷ codes "journal 0.1.1 0.2.1 0.3.1 0.4.1 0.5.1 0.6.1"
    ∷ []))
unfolding digits utf8_valid_len is_utf8 chars lib.Utf8.encode tokens_of front_of
stale_tolerated = refl
