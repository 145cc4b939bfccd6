use Rattle.std.specs.Prelude.{Ok, [], codes, refl, ◌∷◌, ◌≡◌}
use Rattle.def_rows.specs.Lines.{Ordering, Two, chars, digits, front_of, is_utf8, lines_text, output, tokens_of, utf8_valid_len}

-- A join view is refreshed by rowids, so it has to select the rowid of each of its tables.
pub join_view_fast_refresh :
    output (Ordering Two) (lines_text (
    codes "@setup"
    ∷ codes "CREATE TABLE P (ID NUMBER PRIMARY KEY, CAT VARCHAR2(4));"
    ∷ codes "CREATE TABLE S (PID NUMBER NOT NULL REFERENCES P (ID), AMT NUMBER);"
    ∷ codes "CREATE MATERIALIZED VIEW LOG ON P WITH ROWID, SEQUENCE (ID, CAT) INCLUDING NEW VALUES;"
    ∷ codes "CREATE MATERIALIZED VIEW LOG ON S WITH ROWID, SEQUENCE (PID, AMT) INCLUDING NEW VALUES;"
    ∷ codes "INSERT INTO P VALUES (1,'X'),(2,'Y');"
    ∷ codes "INSERT INTO S VALUES (1,10),(2,20);"
    ∷ codes "CREATE MATERIALIZED VIEW J REFRESH FAST AS SELECT S.ROWID, P.ROWID, S.AMT, P.CAT FROM S JOIN P ON S.PID = P.ID;"
    ∷ codes "UPDATE S SET AMT = 11 WHERE PID = 1;"
    ∷ codes "EXECUTE DBMS_MVIEW.REFRESH('J', 'F');"
    ∷ codes "SHOW VIEW J;"
    ∷ codes "CREATE MATERIALIZED VIEW K REFRESH FAST AS SELECT S.ROWID, S.AMT, P.CAT FROM S JOIN P ON S.PID = P.ID;"
    ∷ codes "@end"
    ∷ []))
    ≡ Ok (lines_text (
    codes "mviewdb 2"
    ∷ codes "0.1 DONE SCN 1 READ 0"
    ∷ codes "0.2 DONE SCN 2 READ 0"
    ∷ codes "0.3 DONE SCN 3 READ 0"
    ∷ codes "0.4 DONE SCN 4 READ 0"
    ∷ codes "0.5 COMMITTED SCN 5 ROWS 2 READ 0 VIEWS 0"
    ∷ codes "0.6 COMMITTED SCN 6 ROWS 2 READ 0 VIEWS 0"
    ∷ codes "0.7 DONE SCN 6 READ 4"
    ∷ codes "0.8 COMMITTED SCN 7 ROWS 1 READ 2 VIEWS 0"
    ∷ codes "0.9 REFRESHED FAST SCN 7 READ 3 HOLDS 2"
    ∷ codes "0.10 VIEW J POINT 7 STATE FRESH REGISTERED YES SUSPENDED NO READ 0 INTERVALS 0 ROWS 2"
    ∷ codes "1|1|11|X"
    ∷ codes "2|2|20|Y"
    ∷ codes "0.11 REFUSED MV-22 F8 P READ 0"
    ∷ codes "journal 0.1.1 0.2.1 0.3.1 0.4.1 0.5.1 0.6.1 0.7.1 0.8.1 0.9.1 0.9.2 0.10.1 0.11.1"
    ∷ []))
unfolding digits utf8_valid_len is_utf8 chars lib.Utf8.encode tokens_of front_of
join_view_fast_refresh = refl
