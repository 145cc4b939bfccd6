use Rattle.std.specs.Prelude.{Ok, [], codes, refl, ◌∷◌, ◌≡◌}
use Rattle.def_rows.specs.Lines.{Ordering, Two, chars, digits, front_of, is_utf8, lines_text, output, tokens_of, utf8_valid_len}

-- A DELETE takes the greatest value of a group: the fast refresh reads the rows again. With a condition the view is insert-only.
pub deleted_maximum :
    output (Ordering Two) (lines_text (
    codes "@setup"
    ∷ codes "CREATE TABLE T (G VARCHAR2(4), A NUMBER);"
    ∷ codes "CREATE MATERIALIZED VIEW LOG ON T WITH ROWID, SEQUENCE (G, A) INCLUDING NEW VALUES;"
    ∷ codes "INSERT INTO T VALUES ('P',10),('P',4);"
    ∷ codes "CREATE MATERIALIZED VIEW V AS SELECT G, MAX(A), COUNT(*) FROM T GROUP BY G;"
    ∷ codes "CREATE MATERIALIZED VIEW W AS SELECT G, MAX(A), COUNT(*) FROM T WHERE A > 0 GROUP BY G;"
    ∷ codes "DELETE FROM T WHERE A = 10;"
    ∷ codes "EXECUTE DBMS_MVIEW.REFRESH('V', 'F');"
    ∷ codes "SHOW VIEW V;"
    ∷ codes "EXECUTE DBMS_MVIEW.REFRESH('W', 'F');"
    ∷ codes "@end"
    ∷ []))
    ≡ Ok (lines_text (
    codes "mviewdb 2"
    ∷ codes "0.1 DONE SCN 1 READ 0"
    ∷ codes "0.2 DONE SCN 2 READ 0"
    ∷ codes "0.3 COMMITTED SCN 3 ROWS 2 READ 0 VIEWS 0"
    ∷ codes "0.4 DONE SCN 3 READ 2"
    ∷ codes "0.5 DONE SCN 3 READ 2"
    ∷ codes "0.6 COMMITTED SCN 4 ROWS 1 READ 2 VIEWS 0"
    ∷ codes "0.7 REFRESHED FAST SCN 4 READ 1 HOLDS 1"
    ∷ codes "0.8 VIEW V POINT 4 STATE FRESH REGISTERED YES SUSPENDED NO READ 0 INTERVALS 0 ROWS 1"
    ∷ codes "P|4|1"
    ∷ codes "0.9 REFUSED MV-22 F13 T READ 0"
    ∷ codes "journal 0.1.1 0.2.1 0.3.1 0.4.1 0.5.1 0.6.1 0.7.1 0.7.2 0.8.1 0.9.1 0.9.2"
    ∷ []))
unfolding digits utf8_valid_len is_utf8 chars lib.Utf8.encode tokens_of front_of
deleted_maximum = refl
