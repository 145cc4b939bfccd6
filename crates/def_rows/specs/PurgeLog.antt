use Rattle.std.specs.Prelude.{Ok, [], codes, refl, ◌∷◌, ◌≡◌}
use Rattle.def_rows.specs.Lines.{Ordering, Two, chars, digits, front_of, is_utf8, lines_text, output, tokens_of, utf8_valid_len}

-- PURGE LOG keeps the rows above the least point of the registered views; once W is unregistered, those above V's point.
pub purge_by_registered_points :
    output (Ordering Two) (lines_text (
    codes "@setup"
    ∷ codes "CREATE TABLE T (G VARCHAR2(4), A NUMBER);"
    ∷ codes "CREATE MATERIALIZED VIEW LOG ON T WITH ROWID, SEQUENCE (G, A) INCLUDING NEW VALUES;"
    ∷ codes "INSERT INTO T VALUES ('P',10),('Q',7);"
    ∷ codes "CREATE MATERIALIZED VIEW V AS SELECT G, SUM(A), COUNT(A), COUNT(*) FROM T GROUP BY G;"
    ∷ codes "CREATE MATERIALIZED VIEW W AS SELECT G, SUM(A), COUNT(A), COUNT(*) FROM T GROUP BY G;"
    ∷ codes "DELETE FROM T WHERE G = 'Q';"
    ∷ codes "EXECUTE DBMS_MVIEW.REFRESH('V', 'C');"
    ∷ codes "PURGE LOG ON T;"
    ∷ codes "SHOW LOG T;"
    ∷ codes "UNREGISTER MATERIALIZED VIEW W;"
    ∷ codes "PURGE LOG ON T;"
    ∷ codes "CREATE MATERIALIZED VIEW LOG ON T WITH ROWID, SEQUENCE (G, A) INCLUDING NEW VALUES;"
    ∷ codes "DROP MATERIALIZED VIEW LOG ON T;"
    ∷ codes "@end"
    ∷ []))
    ≡ Ok (lines_text (
    codes "mviewdb 2"
    ∷ codes "0.1 DONE SCN 1 READ 0"
    ∷ codes "0.2 DONE SCN 2 READ 0"
    ∷ codes "0.3 COMMITTED SCN 3 ROWS 2 READ 0 VIEWS 0"
    ∷ codes "0.4 DONE SCN 3 READ 2"
    ∷ codes "0.5 DONE SCN 3 READ 2"
    ∷ codes "0.6 COMMITTED SCN 4 ROWS 1 READ 2 VIEWS 0"
    ∷ codes "0.7 REFRESHED COMPLETE SCN 4 READ 1 HOLDS 1"
    ∷ codes "0.8 PURGED SCN 4 ROWS 2 READ 0"
    ∷ codes "0.9 LOG T BORN 2 FROM 3 READ 0 ROWS 1"
    ∷ codes "4|3|2|D|O|Q|7"
    ∷ codes "0.10 DONE SCN 4 READ 0"
    ∷ codes "0.11 PURGED SCN 4 ROWS 1 READ 0"
    ∷ codes "0.12 REFUSED MV-21 T READ 0"
    ∷ codes "0.13 DONE SCN 5 READ 0"
    ∷ codes "journal 0.1.1 0.2.1 0.3.1 0.4.1 0.5.1 0.6.1 0.7.1 0.7.2 0.8.1 0.9.1 0.10.1 0.11.1 0.12.1 0.13.1"
    ∷ []))
unfolding digits utf8_valid_len is_utf8 chars lib.Utf8.encode tokens_of front_of
purge_by_registered_points = refl
