use Rattle.std.specs.Prelude.{Ok, [], codes, refl, ◌∷◌, ◌≡◌}
use Rattle.def_rows.specs.Lines.{Ordering, Two, chars, digits, front_of, is_utf8, lines_text, output, tokens_of, utf8_valid_len}

-- A fact row and its dimension row change in one block: the fast refresh takes the old and the new sides of both.
pub both_tables_changed :
    output (Ordering Two) (lines_text (
    codes "@setup"
    ∷ codes "CREATE TABLE P (ID NUMBER PRIMARY KEY, CAT VARCHAR2(4));"
    ∷ codes "CREATE TABLE S (PID NUMBER NOT NULL REFERENCES P (ID), AMT NUMBER);"
    ∷ codes "CREATE MATERIALIZED VIEW LOG ON P WITH ROWID, SEQUENCE (ID, CAT) INCLUDING NEW VALUES;"
    ∷ codes "CREATE MATERIALIZED VIEW LOG ON S WITH ROWID, SEQUENCE (PID, AMT) INCLUDING NEW VALUES;"
    ∷ codes "INSERT INTO P VALUES (1,'X'),(2,'Y');"
    ∷ codes "INSERT INTO S VALUES (1,10),(2,20);"
    ∷ codes "CREATE MATERIALIZED VIEW V AS SELECT P.CAT, SUM(S.AMT), COUNT(S.AMT), COUNT(*) FROM S JOIN P ON S.PID = P.ID GROUP BY P.CAT;"
    ∷ codes "BEGIN; UPDATE S SET AMT = 15 WHERE PID = 1; UPDATE P SET CAT = 'Z' WHERE ID = 1; COMMIT;"
    ∷ codes "EXECUTE DBMS_MVIEW.REFRESH('V', 'F');"
    ∷ codes "SHOW VIEW V;"
    ∷ codes "@end"
    ∷ []))
    ≡ Ok (lines_text (
    codes "mviewdb 2"
    ∷ codes "0.1 DONE SCN 1 READ 0"
    ∷ codes "0.2 DONE SCN 2 READ 0"
    ∷ codes "0.3 DONE SCN 3 READ 0"
    ∷ codes "0.4 DONE SCN 4 READ 0"
    ∷ codes "0.5 COMMITTED SCN 5 ROWS 2 READ 0 VIEWS 0"
    ∷ codes "0.6 COMMITTED SCN 6 ROWS 2 READ 0 VIEWS 0"
    ∷ codes "0.7 DONE SCN 6 READ 4"
    ∷ codes "0.8 COMMITTED SCN 7 ROWS 2 READ 4 VIEWS 0"
    ∷ codes "0.9 REFRESHED FAST SCN 7 READ 4 HOLDS 2"
    ∷ codes "0.10 VIEW V POINT 7 STATE FRESH REGISTERED YES SUSPENDED NO READ 0 INTERVALS 0 ROWS 2"
    ∷ codes "Y|20|1|1"
    ∷ codes "Z|15|1|1"
    ∷ codes "journal 0.1.1 0.2.1 0.3.1 0.4.1 0.5.1 0.6.1 0.7.1 0.8.1 0.9.1 0.9.2 0.10.1"
    ∷ []))
unfolding digits utf8_valid_len is_utf8 chars lib.Utf8.encode tokens_of front_of
both_tables_changed = refl

-- Where another table than the root changed, a fast refresh reads all rows of all tables.
pub dimension_changed :
    output (Ordering Two) (lines_text (
    codes "@setup"
    ∷ codes "CREATE TABLE P (ID NUMBER PRIMARY KEY, CAT VARCHAR2(4));"
    ∷ codes "CREATE TABLE S (PID NUMBER NOT NULL REFERENCES P (ID), AMT NUMBER);"
    ∷ codes "CREATE MATERIALIZED VIEW LOG ON P WITH ROWID, SEQUENCE (ID, CAT) INCLUDING NEW VALUES;"
    ∷ codes "CREATE MATERIALIZED VIEW LOG ON S WITH ROWID, SEQUENCE (PID, AMT) INCLUDING NEW VALUES;"
    ∷ codes "INSERT INTO P VALUES (1,'X'),(2,'Y');"
    ∷ codes "INSERT INTO S VALUES (1,10),(2,20);"
    ∷ codes "CREATE MATERIALIZED VIEW V AS SELECT P.CAT, SUM(S.AMT), COUNT(S.AMT), COUNT(*) FROM S JOIN P ON S.PID = P.ID GROUP BY P.CAT;"
    ∷ codes "INSERT INTO P VALUES (3, 'W');"
    ∷ codes "EXECUTE DBMS_MVIEW.REFRESH('V', 'F');"
    ∷ codes "@end"
    ∷ []))
    ≡ Ok (lines_text (
    codes "mviewdb 2"
    ∷ codes "0.1 DONE SCN 1 READ 0"
    ∷ codes "0.2 DONE SCN 2 READ 0"
    ∷ codes "0.3 DONE SCN 3 READ 0"
    ∷ codes "0.4 DONE SCN 4 READ 0"
    ∷ codes "0.5 COMMITTED SCN 5 ROWS 2 READ 0 VIEWS 0"
    ∷ codes "0.6 COMMITTED SCN 6 ROWS 2 READ 0 VIEWS 0"
    ∷ codes "0.7 DONE SCN 6 READ 4"
    ∷ codes "0.8 COMMITTED SCN 7 ROWS 1 READ 0 VIEWS 0"
    ∷ codes "0.9 REFRESHED FAST SCN 7 READ 5 HOLDS 2"
    ∷ codes "journal 0.1.1 0.2.1 0.3.1 0.4.1 0.5.1 0.6.1 0.7.1 0.8.1 0.9.1 0.9.2"
    ∷ []))
unfolding digits utf8_valid_len is_utf8 chars lib.Utf8.encode tokens_of front_of
dimension_changed = refl

-- Where the root alone changed, it reads the rows of the other tables.
pub root_changed :
    output (Ordering Two) (lines_text (
    codes "@setup"
    ∷ codes "CREATE TABLE P (ID NUMBER PRIMARY KEY, CAT VARCHAR2(4));"
    ∷ codes "CREATE TABLE S (PID NUMBER NOT NULL REFERENCES P (ID), AMT NUMBER);"
    ∷ codes "CREATE MATERIALIZED VIEW LOG ON P WITH ROWID, SEQUENCE (ID, CAT) INCLUDING NEW VALUES;"
    ∷ codes "CREATE MATERIALIZED VIEW LOG ON S WITH ROWID, SEQUENCE (PID, AMT) INCLUDING NEW VALUES;"
    ∷ codes "INSERT INTO P VALUES (1,'X'),(2,'Y');"
    ∷ codes "INSERT INTO S VALUES (1,10),(2,20);"
    ∷ codes "CREATE MATERIALIZED VIEW V AS SELECT P.CAT, SUM(S.AMT), COUNT(S.AMT), COUNT(*) FROM S JOIN P ON S.PID = P.ID GROUP BY P.CAT;"
    ∷ codes "INSERT INTO S VALUES (2, 5);"
    ∷ codes "EXECUTE DBMS_MVIEW.REFRESH('V', 'F');"
    ∷ codes "SHOW VIEW V;"
    ∷ codes "@end"
    ∷ []))
    ≡ Ok (lines_text (
    codes "mviewdb 2"
    ∷ codes "0.1 DONE SCN 1 READ 0"
    ∷ codes "0.2 DONE SCN 2 READ 0"
    ∷ codes "0.3 DONE SCN 3 READ 0"
    ∷ codes "0.4 DONE SCN 4 READ 0"
    ∷ codes "0.5 COMMITTED SCN 5 ROWS 2 READ 0 VIEWS 0"
    ∷ codes "0.6 COMMITTED SCN 6 ROWS 2 READ 0 VIEWS 0"
    ∷ codes "0.7 DONE SCN 6 READ 4"
    ∷ codes "0.8 COMMITTED SCN 7 ROWS 1 READ 0 VIEWS 0"
    ∷ codes "0.9 REFRESHED FAST SCN 7 READ 2 HOLDS 2"
    ∷ codes "0.10 VIEW V POINT 7 STATE FRESH REGISTERED YES SUSPENDED NO READ 0 INTERVALS 0 ROWS 2"
    ∷ codes "X|10|1|1"
    ∷ codes "Y|25|2|2"
    ∷ codes "journal 0.1.1 0.2.1 0.3.1 0.4.1 0.5.1 0.6.1 0.7.1 0.8.1 0.9.1 0.9.2 0.10.1"
    ∷ []))
unfolding digits utf8_valid_len is_utf8 chars lib.Utf8.encode tokens_of front_of
root_changed = refl
