use Rattle.std.specs.Prelude.{Ok, [], codes, refl, ◌∷◌, ◌≡◌}
use Rattle.def_rows.specs.Lines.{Ordering, Two, chars, digits, front_of, is_utf8, lines_text, output, tokens_of, utf8_valid_len}

-- SPLIT and MERGE touch the intervals that end and those that begin, so both make one stale interval here. Each keeps the earlier
-- versions of the rows until they are purged.
pub split_and_merge :
    output (Ordering Two) (lines_text (
    codes "@setup"
    ∷ codes "CREATE TABLE S (K NUMBER, A NUMBER) PARTITION BY RANGE (K) (PARTITION P1 VALUES LESS THAN (10), PARTITION P2 VALUES LESS THAN (20)) ENABLE ROW MOVEMENT;"
    ∷ codes "INSERT INTO S VALUES (5,1),(15,2),(9,3),(12,4);"
    ∷ codes "CREATE MATERIALIZED VIEW V AS SELECT K, SUM(A), COUNT(A), COUNT(*) FROM S GROUP BY K;"
    ∷ codes "ALTER TABLE S SPLIT PARTITION P1 AT (7) INTO (PARTITION P1, PARTITION P3);"
    ∷ codes "SHOW VIEW V;"
    ∷ codes "ALTER TABLE S MERGE PARTITIONS P3, P2 INTO PARTITION P3;"
    ∷ codes "SHOW VIEW V;"
    ∷ codes "SELECT K, S.ROWID, DBMS_MVIEW.PMARKER(S.ROWID) FROM S;"
    ∷ codes "SELECT K, S.ROWID, DBMS_MVIEW.PMARKER(S.ROWID) FROM S AS OF SCN 3;"
    ∷ codes "SELECT K, S.ROWID, DBMS_MVIEW.PMARKER(S.ROWID) FROM S AS OF SCN 2;"
    ∷ codes "INSERT INTO S VALUES (1,9);"
    ∷ codes "SELECT S.ROWID FROM S WHERE K < 7;"
    ∷ codes "EXECUTE DBMS_MVIEW.REFRESH('V', 'P');"
    ∷ codes "PURGE UNDO TO SCN 3;"
    ∷ codes "PURGE UNDO TO SCN 5;"
    ∷ codes "@end"
    ∷ []))
    ≡ Ok (lines_text (
    codes "mviewdb 2"
    ∷ codes "0.1 DONE SCN 1 READ 0"
    ∷ codes "0.2 COMMITTED SCN 2 ROWS 4 READ 0 VIEWS 0"
    ∷ codes "0.3 DONE SCN 2 READ 4"
    ∷ codes "0.4 DONE SCN 3 READ 2"
    ∷ codes "0.5 VIEW V POINT 2 STATE PARTLY REGISTERED YES SUSPENDED NO READ 0 INTERVALS 1 ROWS 4"
    ∷ codes "|10"
    ∷ codes "5|1|1|1"
    ∷ codes "9|3|1|1"
    ∷ codes "12|4|1|1"
    ∷ codes "15|2|1|1"
    ∷ codes "0.6 DONE SCN 4 READ 3"
    ∷ codes "0.7 VIEW V POINT 2 STATE PARTLY REGISTERED YES SUSPENDED NO READ 0 INTERVALS 1 ROWS 4"
    ∷ codes "|20"
    ∷ codes "5|1|1|1"
    ∷ codes "9|3|1|1"
    ∷ codes "12|4|1|1"
    ∷ codes "15|2|1|1"
    ∷ codes "0.8 ANSWER SCN 4 PLAN BASE READ 4 ROWS 4"
    ∷ codes "5|5|3"
    ∷ codes "9|9|5"
    ∷ codes "12|8|5"
    ∷ codes "15|7|5"
    ∷ codes "0.9 ANSWER SCN 3 PLAN BASE READ 4 ROWS 4"
    ∷ codes "5|5|3"
    ∷ codes "9|6|4"
    ∷ codes "12|4|2"
    ∷ codes "15|2|2"
    ∷ codes "0.10 ANSWER SCN 2 PLAN BASE READ 4 ROWS 4"
    ∷ codes "5|1|1"
    ∷ codes "9|3|1"
    ∷ codes "12|4|2"
    ∷ codes "15|2|2"
    ∷ codes "0.11 COMMITTED SCN 5 ROWS 1 READ 0 VIEWS 0"
    ∷ codes "0.12 ANSWER SCN 5 PLAN BASE READ 2 ROWS 2"
    ∷ codes "5"
    ∷ codes "10"
    ∷ codes "0.13 REFRESHED PARTITION SCN 5 READ 5 HOLDS 5"
    ∷ codes "0.14 PURGED SCN 5 ROWS 2 READ 0"
    ∷ codes "0.15 PURGED SCN 5 ROWS 3 READ 0"
    ∷ codes "journal 0.1.1 0.2.1 0.3.1 0.4.1 0.5.1 0.6.1 0.7.1 0.8.1 0.9.1 0.10.1 0.11.1 0.12.1 0.13.1 0.13.2 0.14.1 0.15.1"
    ∷ []))
unfolding digits utf8_valid_len is_utf8 chars lib.Utf8.encode tokens_of front_of
split_and_merge = refl

-- The refusals of SPLIT in their order.
pub split_refusals :
    output (Ordering Two) (lines_text (
    codes "@setup"
    ∷ codes "CREATE TABLE T (A NUMBER);"
    ∷ codes "CREATE TABLE S (K NUMBER, A NUMBER) PARTITION BY RANGE (K) (PARTITION P1 VALUES LESS THAN (10), PARTITION P2 VALUES LESS THAN (20)) ENABLE ROW MOVEMENT;"
    ∷ codes "ALTER TABLE U SPLIT PARTITION P2 AT (15) INTO (PARTITION P3, PARTITION P4);"
    ∷ codes "ALTER TABLE T SPLIT PARTITION P2 AT (15) INTO (PARTITION P3, PARTITION P4);"
    ∷ codes "ALTER TABLE S SPLIT PARTITION P3 AT (15) INTO (PARTITION P1, PARTITION P1);"
    ∷ codes "ALTER TABLE S SPLIT PARTITION P2 AT ('X') INTO (PARTITION P1, PARTITION P1);"
    ∷ codes "ALTER TABLE S SPLIT PARTITION P2 AT ('X') INTO (PARTITION P3, PARTITION P1);"
    ∷ codes "ALTER TABLE S SPLIT PARTITION P2 AT ('X') INTO (PARTITION P3, PARTITION P3);"
    ∷ codes "ALTER TABLE S SPLIT PARTITION P2 AT ('X') INTO (PARTITION P3, PARTITION P4);"
    ∷ codes "ALTER TABLE S SPLIT PARTITION P2 AT ('') INTO (PARTITION P3, PARTITION P4);"
    ∷ codes "ALTER TABLE S SPLIT PARTITION P2 AT (1000000000000000) INTO (PARTITION P3, PARTITION P4);"
    ∷ codes "ALTER TABLE S SPLIT PARTITION P2 AT (10) INTO (PARTITION P3, PARTITION P4);"
    ∷ codes "ALTER TABLE S SPLIT PARTITION P2 AT (20) INTO (PARTITION P3, PARTITION P4);"
    ∷ codes "ALTER TABLE S SPLIT PARTITION P2 AT (11) INTO (PARTITION P2, PARTITION P4);"
    ∷ codes "ALTER TABLE S SPLIT PARTITION P1 AT (-5) INTO (PARTITION P1, PARTITION P3);"
    ∷ codes "@end"
    ∷ []))
    ≡ Ok (lines_text (
    codes "mviewdb 2"
    ∷ codes "0.1 DONE SCN 1 READ 0"
    ∷ codes "0.2 DONE SCN 2 READ 0"
    ∷ codes "0.3 REFUSED MV-02 U READ 0"
    ∷ codes "0.4 REFUSED MV-02 P2 READ 0"
    ∷ codes "0.5 REFUSED MV-02 P3 READ 0"
    ∷ codes "0.6 REFUSED MV-01 P1 READ 0"
    ∷ codes "0.7 REFUSED MV-01 P1 READ 0"
    ∷ codes "0.8 REFUSED MV-01 P3 READ 0"
    ∷ codes "0.9 REFUSED MV-04 S K READ 0"
    ∷ codes "0.10 REFUSED MV-04 S K READ 0"
    ∷ codes "0.11 REFUSED MV-04 S K READ 0"
    ∷ codes "0.12 REFUSED MV-11 S P2 READ 0"
    ∷ codes "0.13 REFUSED MV-11 S P2 READ 0"
    ∷ codes "0.14 DONE SCN 3 READ 0"
    ∷ codes "0.15 DONE SCN 4 READ 0"
    ∷ codes "journal 0.1.1 0.2.1 0.3.1 0.4.1 0.5.1 0.6.1 0.7.1 0.8.1 0.9.1 0.10.1 0.11.1 0.12.1 0.13.1 0.14.1 0.15.1"
    ∷ []))
unfolding digits utf8_valid_len is_utf8 chars lib.Utf8.encode tokens_of front_of
split_refusals = refl

-- The refusals of MERGE in their order.
pub merge_refusals :
    output (Ordering Two) (lines_text (
    codes "@setup"
    ∷ codes "CREATE TABLE T (A NUMBER);"
    ∷ codes "CREATE TABLE S (K NUMBER, A NUMBER) PARTITION BY RANGE (K) (PARTITION P1 VALUES LESS THAN (10), PARTITION P2 VALUES LESS THAN (20), PARTITION P3 VALUES LESS THAN (MAXVALUE));"
    ∷ codes "ALTER TABLE U MERGE PARTITIONS P1, P2 INTO PARTITION P4;"
    ∷ codes "ALTER TABLE T MERGE PARTITIONS P1, P2 INTO PARTITION P4;"
    ∷ codes "ALTER TABLE S MERGE PARTITIONS P8, P9 INTO PARTITION P3;"
    ∷ codes "ALTER TABLE S MERGE PARTITIONS P1, P9 INTO PARTITION P3;"
    ∷ codes "ALTER TABLE S MERGE PARTITIONS P2, P1 INTO PARTITION P3;"
    ∷ codes "ALTER TABLE S MERGE PARTITIONS P2, P1 INTO PARTITION P4;"
    ∷ codes "ALTER TABLE S MERGE PARTITIONS P1, P1 INTO PARTITION P4;"
    ∷ codes "ALTER TABLE S MERGE PARTITIONS P1, P3 INTO PARTITION P2;"
    ∷ codes "ALTER TABLE S MERGE PARTITIONS P2, P3 INTO PARTITION P2;"
    ∷ codes "INSERT INTO S VALUES (99,1);"
    ∷ codes "SELECT DBMS_MVIEW.PMARKER(S.ROWID) FROM S;"
    ∷ codes "@end"
    ∷ []))
    ≡ Ok (lines_text (
    codes "mviewdb 2"
    ∷ codes "0.1 DONE SCN 1 READ 0"
    ∷ codes "0.2 DONE SCN 2 READ 0"
    ∷ codes "0.3 REFUSED MV-02 U READ 0"
    ∷ codes "0.4 REFUSED MV-02 P1 READ 0"
    ∷ codes "0.5 REFUSED MV-02 P8 READ 0"
    ∷ codes "0.6 REFUSED MV-02 P9 READ 0"
    ∷ codes "0.7 REFUSED MV-01 P3 READ 0"
    ∷ codes "0.8 REFUSED MV-11 S P2 READ 0"
    ∷ codes "0.9 REFUSED MV-11 S P1 READ 0"
    ∷ codes "0.10 REFUSED MV-01 P2 READ 0"
    ∷ codes "0.11 DONE SCN 3 READ 0"
    ∷ codes "0.12 COMMITTED SCN 4 ROWS 1 READ 0 VIEWS 0"
    ∷ codes "0.13 ANSWER SCN 4 PLAN BASE READ 1 ROWS 1"
    ∷ codes "4"
    ∷ codes "journal 0.1.1 0.2.1 0.3.1 0.4.1 0.5.1 0.6.1 0.7.1 0.8.1 0.9.1 0.10.1 0.11.1 0.12.1 0.13.1"
    ∷ []))
unfolding digits utf8_valid_len is_utf8 chars lib.Utf8.encode tokens_of front_of
merge_refusals = refl
