use Rattle.std.specs.Prelude.{Ok, [], codes, refl, ◌∷◌, ◌≡◌}
use Rattle.def_rows.specs.Lines.{Ordering, Two, chars, digits, front_of, is_utf8, lines_text, output, tokens_of, utf8_valid_len}

-- An update moves a row to another partition: it is a delete of the old rowid and an insert under the next one, and counts as one
-- row. SPLIT gives the rows of the partition new rowids, is maintenance, and reads these rows.
pub moved_row :
    output (Ordering Two) (lines_text (
    codes "@setup"
    ∷ codes "CREATE TABLE S (K NUMBER, A NUMBER) PARTITION BY RANGE (K) (PARTITION P1 VALUES LESS THAN (10), PARTITION P2 VALUES LESS THAN (20)) ENABLE ROW MOVEMENT;"
    ∷ codes "CREATE MATERIALIZED VIEW LOG ON S WITH ROWID, SEQUENCE (K, A) INCLUDING NEW VALUES;"
    ∷ codes "INSERT INTO S VALUES (5,1),(15,2);"
    ∷ codes "CREATE MATERIALIZED VIEW V AS SELECT K, SUM(A), COUNT(A), COUNT(*) FROM S GROUP BY K;"
    ∷ codes "UPDATE S SET K = 15 WHERE K = 5;"
    ∷ codes "SHOW LOG S;"
    ∷ codes "EXECUTE DBMS_MVIEW.REFRESH('V', 'F');"
    ∷ codes "SHOW VIEW V;"
    ∷ codes "ALTER TABLE S SPLIT PARTITION P2 AT (15) INTO (PARTITION P3, PARTITION P4);"
    ∷ codes "SELECT S.ROWID, DBMS_MVIEW.PMARKER(S.ROWID) FROM S;"
    ∷ codes "EXECUTE DBMS_MVIEW.REFRESH('V', 'F');"
    ∷ codes "EXECUTE DBMS_MVIEW.REFRESH('V', 'P');"
    ∷ codes "ALTER TABLE S SPLIT PARTITION P3 AT (15) INTO (PARTITION P5, PARTITION P6);"
    ∷ codes "ALTER TABLE S MERGE PARTITIONS P1, P4 INTO PARTITION P5;"
    ∷ codes "@end"
    ∷ []))
    ≡ Ok (lines_text (
    codes "mviewdb 2"
    ∷ codes "0.1 DONE SCN 1 READ 0"
    ∷ codes "0.2 DONE SCN 2 READ 0"
    ∷ codes "0.3 COMMITTED SCN 3 ROWS 2 READ 0 VIEWS 0"
    ∷ codes "0.4 DONE SCN 3 READ 2"
    ∷ codes "0.5 COMMITTED SCN 4 ROWS 1 READ 2 VIEWS 0"
    ∷ codes "0.6 LOG S BORN 2 FROM 2 READ 0 ROWS 4"
    ∷ codes "3|1|1|I|N|5|1"
    ∷ codes "3|2|2|I|N|15|2"
    ∷ codes "4|3|1|D|O|5|1"
    ∷ codes "4|4|3|I|N|15|1"
    ∷ codes "0.7 REFRESHED FAST SCN 4 READ 0 HOLDS 1"
    ∷ codes "0.8 VIEW V POINT 4 STATE FRESH REGISTERED YES SUSPENDED NO READ 0 INTERVALS 0 ROWS 1"
    ∷ codes "15|3|2|2"
    ∷ codes "0.9 DONE SCN 5 READ 2"
    ∷ codes "0.10 ANSWER SCN 5 PLAN BASE READ 2 ROWS 2"
    ∷ codes "4|4"
    ∷ codes "5|4"
    ∷ codes "0.11 REFUSED MV-22 F11 S READ 0"
    ∷ codes "0.12 REFRESHED PARTITION SCN 5 READ 2 HOLDS 1"
    ∷ codes "0.13 REFUSED MV-11 S P3 READ 0"
    ∷ codes "0.14 REFUSED MV-11 S P1 READ 0"
    ∷ codes "journal 0.1.1 0.2.1 0.3.1 0.4.1 0.5.1 0.6.1 0.7.1 0.7.2 0.8.1 0.9.1 0.10.1 0.11.1 0.11.2 0.12.1 0.12.2 0.13.1 0.14.1"
    ∷ []))
unfolding digits utf8_valid_len is_utf8 chars lib.Utf8.encode tokens_of front_of
moved_row = refl

-- A row may move twice in a block. Each time it is one row changed, and its rowids in between are given and gone.
pub movement_in_a_block :
    output (Ordering Two) (lines_text (
    codes "@setup"
    ∷ codes "CREATE TABLE S (K NUMBER, A NUMBER) PARTITION BY RANGE (K) (PARTITION P1 VALUES LESS THAN (10), PARTITION P2 VALUES LESS THAN (20)) ENABLE ROW MOVEMENT;"
    ∷ codes "CREATE MATERIALIZED VIEW LOG ON S WITH ROWID, SEQUENCE (K, A) INCLUDING NEW VALUES;"
    ∷ codes "INSERT INTO S VALUES (5,1),(15,2);"
    ∷ codes "BEGIN; UPDATE S SET K = K + 10 WHERE K = 5; UPDATE S SET K = K - 10; INSERT INTO S VALUES (6,7); DELETE FROM S WHERE A = 1; COMMIT;"
    ∷ codes "SHOW LOG S;"
    ∷ codes "SELECT K, A, S.ROWID, DBMS_MVIEW.PMARKER(S.ROWID) FROM S;"
    ∷ codes "PURGE UNDO TO SCN 4;"
    ∷ codes "@end"
    ∷ []))
    ≡ Ok (lines_text (
    codes "mviewdb 2"
    ∷ codes "0.1 DONE SCN 1 READ 0"
    ∷ codes "0.2 DONE SCN 2 READ 0"
    ∷ codes "0.3 COMMITTED SCN 3 ROWS 2 READ 0 VIEWS 0"
    ∷ codes "0.4 COMMITTED SCN 4 ROWS 5 READ 7 VIEWS 0"
    ∷ codes "0.5 LOG S BORN 2 FROM 2 READ 0 ROWS 10"
    ∷ codes "3|1|1|I|N|5|1"
    ∷ codes "3|2|2|I|N|15|2"
    ∷ codes "4|3|1|D|O|5|1"
    ∷ codes "4|4|3|I|N|15|1"
    ∷ codes "4|5|2|D|O|15|2"
    ∷ codes "4|6|4|I|N|5|2"
    ∷ codes "4|7|3|D|O|15|1"
    ∷ codes "4|8|5|I|N|5|1"
    ∷ codes "4|9|6|I|N|6|7"
    ∷ codes "4|10|5|D|O|5|1"
    ∷ codes "0.6 ANSWER SCN 4 PLAN BASE READ 2 ROWS 2"
    ∷ codes "5|2|4|1"
    ∷ codes "6|7|6|1"
    ∷ codes "0.7 PURGED SCN 4 ROWS 2 READ 0"
    ∷ codes "journal 0.1.1 0.2.1 0.3.1 0.4.1 0.5.1 0.6.1 0.7.1"
    ∷ []))
unfolding digits utf8_valid_len is_utf8 chars lib.Utf8.encode tokens_of front_of
movement_in_a_block = refl

-- Row movement is set for a partitioned table alone, and without it an update of the partition is refused. It raises the SCN, but it is no maintenance.
pub row_movement_refusals :
    output (Ordering Two) (lines_text (
    codes "@setup"
    ∷ codes "CREATE TABLE T (A NUMBER);"
    ∷ codes "CREATE TABLE S (K NUMBER, A NUMBER) PARTITION BY RANGE (K) (PARTITION P1 VALUES LESS THAN (10), PARTITION P2 VALUES LESS THAN (20)) ENABLE ROW MOVEMENT;"
    ∷ codes "CREATE MATERIALIZED VIEW LOG ON S WITH ROWID, SEQUENCE (K, A) INCLUDING NEW VALUES;"
    ∷ codes "INSERT INTO S VALUES (5,1),(15,2);"
    ∷ codes "CREATE MATERIALIZED VIEW V AS SELECT K, SUM(A), COUNT(A), COUNT(*) FROM S GROUP BY K;"
    ∷ codes "ALTER TABLE T ENABLE ROW MOVEMENT;"
    ∷ codes "ALTER TABLE U ENABLE ROW MOVEMENT;"
    ∷ codes "ALTER TABLE S DISABLE ROW MOVEMENT;"
    ∷ codes "UPDATE S SET K = 15;"
    ∷ codes "UPDATE S SET K = 25;"
    ∷ codes "EXECUTE DBMS_MVIEW.REFRESH('V', 'F');"
    ∷ codes "ALTER TABLE S ENABLE ROW MOVEMENT;"
    ∷ codes "UPDATE S SET K = 25;"
    ∷ codes "UPDATE S SET K = 15;"
    ∷ codes "EXECUTE DBMS_MVIEW.REFRESH('V', 'F');"
    ∷ codes "SHOW VIEW V;"
    ∷ codes "@end"
    ∷ []))
    ≡ Ok (lines_text (
    codes "mviewdb 2"
    ∷ codes "0.1 DONE SCN 1 READ 0"
    ∷ codes "0.2 DONE SCN 2 READ 0"
    ∷ codes "0.3 DONE SCN 3 READ 0"
    ∷ codes "0.4 COMMITTED SCN 4 ROWS 2 READ 0 VIEWS 0"
    ∷ codes "0.5 DONE SCN 4 READ 2"
    ∷ codes "0.6 REFUSED MV-11 T - READ 0"
    ∷ codes "0.7 REFUSED MV-02 U READ 0"
    ∷ codes "0.8 DONE SCN 5 READ 0"
    ∷ codes "0.9 REFUSED MV-10 AT 1 S READ 2"
    ∷ codes "0.10 REFUSED MV-09 AT 1 S READ 2"
    ∷ codes "0.11 REFRESHED FAST SCN 5 READ 0 HOLDS 2"
    ∷ codes "0.12 DONE SCN 6 READ 0"
    ∷ codes "0.13 REFUSED MV-09 AT 1 S READ 2"
    ∷ codes "0.14 COMMITTED SCN 7 ROWS 2 READ 2 VIEWS 0"
    ∷ codes "0.15 REFRESHED FAST SCN 7 READ 0 HOLDS 1"
    ∷ codes "0.16 VIEW V POINT 7 STATE FRESH REGISTERED YES SUSPENDED NO READ 0 INTERVALS 0 ROWS 1"
    ∷ codes "15|3|2|2"
    ∷ codes "journal 0.1.1 0.2.1 0.3.1 0.4.1 0.5.1 0.6.1 0.7.1 0.8.1 0.9.1 0.10.1 0.11.1 0.11.2 0.12.1 0.13.1 0.14.1 0.15.1 0.15.2 0.16.1"
    ∷ []))
unfolding digits utf8_valid_len is_utf8 chars lib.Utf8.encode tokens_of front_of
row_movement_refusals = refl

-- A fast refresh of a join view and of a view with MIN meets a moved row as a delete and an insert.
pub movement_of_views :
    output (Ordering Two) (lines_text (
    codes "@setup"
    ∷ codes "CREATE TABLE S (K NUMBER, A NUMBER) PARTITION BY RANGE (K) (PARTITION P1 VALUES LESS THAN (10), PARTITION P2 VALUES LESS THAN (20)) ENABLE ROW MOVEMENT;"
    ∷ codes "CREATE MATERIALIZED VIEW LOG ON S WITH ROWID, SEQUENCE (K, A) INCLUDING NEW VALUES;"
    ∷ codes "INSERT INTO S VALUES (5,1),(15,2);"
    ∷ codes "CREATE MATERIALIZED VIEW J REFRESH FAST AS SELECT S.ROWID, K, A FROM S;"
    ∷ codes "CREATE MATERIALIZED VIEW M REFRESH FAST ON COMMIT AS SELECT A, MIN(K), COUNT(*) FROM S GROUP BY A;"
    ∷ codes "UPDATE S SET K = K + 10 WHERE K = 5;"
    ∷ codes "EXECUTE DBMS_MVIEW.REFRESH('J', 'F');"
    ∷ codes "SHOW VIEW J;"
    ∷ codes "SHOW VIEW M;"
    ∷ codes "@end"
    ∷ []))
    ≡ Ok (lines_text (
    codes "mviewdb 2"
    ∷ codes "0.1 DONE SCN 1 READ 0"
    ∷ codes "0.2 DONE SCN 2 READ 0"
    ∷ codes "0.3 COMMITTED SCN 3 ROWS 2 READ 0 VIEWS 0"
    ∷ codes "0.4 DONE SCN 3 READ 2"
    ∷ codes "0.5 DONE SCN 3 READ 2"
    ∷ codes "0.6 COMMITTED SCN 4 ROWS 1 READ 4 VIEWS 1"
    ∷ codes "M|FAST"
    ∷ codes "0.7 REFRESHED FAST SCN 4 READ 1 HOLDS 2"
    ∷ codes "0.8 VIEW J POINT 4 STATE FRESH REGISTERED YES SUSPENDED NO READ 0 INTERVALS 0 ROWS 2"
    ∷ codes "2|15|2"
    ∷ codes "3|15|1"
    ∷ codes "0.9 VIEW M POINT 4 STATE FRESH REGISTERED YES SUSPENDED NO READ 0 INTERVALS 0 ROWS 2"
    ∷ codes "1|15|1"
    ∷ codes "2|15|1"
    ∷ codes "journal 0.1.1 0.2.1 0.3.1 0.4.1 0.5.1 0.6.1 0.7.1 0.7.2 0.8.1 0.9.1"
    ∷ []))
unfolding digits utf8_valid_len is_utf8 chars lib.Utf8.encode tokens_of front_of
movement_of_views = refl
