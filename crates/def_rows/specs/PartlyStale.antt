use Rattle.std.specs.Prelude.{Ok, [], codes, refl, ◌∷◌, ◌≡◌}
use Rattle.def_rows.specs.Lines.{chars, digits, front_of, is_utf8, lines_text, tokens_of, utf8_valid_len}
use Rattle.def_rows.specs.WholeChoice.{whole_output}

-- A view that is stale in part serves what misses its stale intervals, and with the base rows of the stale ones what doesn't.
pub dropped_partition :
    whole_output (lines_text (
    codes "@setup"
    ∷ codes "CREATE TABLE S (K NUMBER, A NUMBER) PARTITION BY RANGE (K) (PARTITION P1 VALUES LESS THAN (10), PARTITION P2 VALUES LESS THAN (20));"
    ∷ codes "INSERT INTO S VALUES (5,1),(15,2);"
    ∷ codes "CREATE MATERIALIZED VIEW V ENABLE QUERY REWRITE AS SELECT K, SUM(A), COUNT(A), COUNT(*) FROM S GROUP BY K;"
    ∷ codes "ALTER TABLE S DROP PARTITION P1;"
    ∷ codes "SELECT SUM(A) FROM S WHERE K < 20;"
    ∷ codes "SELECT SUM(A) FROM S WHERE K >= 10;"
    ∷ codes "EXPLAIN REWRITE SELECT SUM(A) FROM S WHERE K < 20;"
    ∷ codes "EXECUTE DBMS_MVIEW.REFRESH('V', 'P');"
    ∷ codes "@end"
    ∷ []))
    ≡ Ok (lines_text (
    codes "0.1 DONE SCN 1 READ 0"
    ∷ codes "0.2 COMMITTED SCN 2 ROWS 2 READ 0 VIEWS 0"
    ∷ codes "0.3 DONE SCN 2 READ 2"
    ∷ codes "0.4 DONE SCN 3 READ 0"
    ∷ codes "0.5 ANSWER SCN 3 PLAN CONCAT V@2 READ 1 ROWS 1"
    ∷ codes "2"
    ∷ codes "0.6 ANSWER SCN 3 PLAN GENERAL V@2 READ 0 ROWS 1"
    ∷ codes "2"
    ∷ codes "0.7 REWRITE SCN 3 PLAN CONCAT V@2 READ 0 ROWS 1"
    ∷ codes "V|CONCAT"
    ∷ codes "0.8 REFRESHED PARTITION SCN 3 READ 1 HOLDS 1"
    ∷ codes "journal 0.1.1 0.2.1 0.3.1 0.4.1 0.5.1 0.6.1 0.7.1 0.8.1 0.8.2"
    ∷ []))
unfolding digits utf8_valid_len is_utf8 chars lib.Utf8.encode tokens_of front_of
dropped_partition = refl

-- The bound 10 itself is stale, so `K < 10` misses the stale interval and `K <= 10` doesn't. READ counts the rows of the stale partition alone.
pub changed_partition :
    whole_output (lines_text (
    codes "@setup"
    ∷ codes "CREATE TABLE S (K NUMBER, A NUMBER) PARTITION BY RANGE (K) (PARTITION P1 VALUES LESS THAN (10), PARTITION P2 VALUES LESS THAN (20));"
    ∷ codes "INSERT INTO S VALUES (5,1),(15,2);"
    ∷ codes "CREATE MATERIALIZED VIEW V ENABLE QUERY REWRITE AS SELECT K, SUM(A), COUNT(A), COUNT(*) FROM S GROUP BY K;"
    ∷ codes "INSERT INTO S VALUES (15,7);"
    ∷ codes "SELECT SUM(A) FROM S WHERE K < 10;"
    ∷ codes "SELECT SUM(A) FROM S WHERE K <= 10;"
    ∷ codes "SHOW VIEW V;"
    ∷ codes "@end"
    ∷ []))
    ≡ Ok (lines_text (
    codes "0.1 DONE SCN 1 READ 0"
    ∷ codes "0.2 COMMITTED SCN 2 ROWS 2 READ 0 VIEWS 0"
    ∷ codes "0.3 DONE SCN 2 READ 2"
    ∷ codes "0.4 COMMITTED SCN 3 ROWS 1 READ 0 VIEWS 0"
    ∷ codes "0.5 ANSWER SCN 3 PLAN GENERAL V@2 READ 0 ROWS 1"
    ∷ codes "1"
    ∷ codes "0.6 ANSWER SCN 3 PLAN CONCAT V@2 READ 2 ROWS 1"
    ∷ codes "1"
    ∷ codes "0.7 VIEW V POINT 2 STATE PARTLY REGISTERED YES SUSPENDED NO READ 0 INTERVALS 1 ROWS 2"
    ∷ codes "10|20"
    ∷ codes "5|1|1|1"
    ∷ codes "15|2|1|1"
    ∷ codes "journal 0.1.1 0.2.1 0.3.1 0.4.1 0.5.1 0.6.1 0.7.1"
    ∷ []))
unfolding digits utf8_valid_len is_utf8 chars lib.Utf8.encode tokens_of front_of
changed_partition = refl

-- Two touched partitions that adjoin make one stale interval. Conditions that no key meets miss each partition, but not this interval,
-- so a view of single rows fails by E8, and one of groups takes the stale keys from the base rows, of which it reads none.
pub stale_intervals_are_a_union :
    whole_output (lines_text (
    codes "@setup"
    ∷ codes "CREATE TABLE S (K NUMBER, A NUMBER) PARTITION BY RANGE (K) (PARTITION P1 VALUES LESS THAN (10), PARTITION P2 VALUES LESS THAN (20));"
    ∷ codes "INSERT INTO S VALUES (5,1),(15,2);"
    ∷ codes "CREATE MATERIALIZED VIEW V ENABLE QUERY REWRITE AS SELECT K, SUM(A), COUNT(A), COUNT(*) FROM S GROUP BY K;"
    ∷ codes "CREATE MATERIALIZED VIEW J ENABLE QUERY REWRITE AS SELECT K, A FROM S;"
    ∷ codes "INSERT INTO S VALUES (5,3),(15,4);"
    ∷ codes "SELECT SUM(A) FROM S WHERE K <= 1 AND K > 15;"
    ∷ codes "EXPLAIN REWRITE SELECT SUM(A) FROM S WHERE K <= 1 AND K > 15;"
    ∷ codes "EXPLAIN REWRITE SELECT SUM(A) FROM S WHERE K >= 20;"
    ∷ codes "SHOW VIEW J;"
    ∷ codes "@end"
    ∷ []))
    ≡ Ok (lines_text (
    codes "0.1 DONE SCN 1 READ 0"
    ∷ codes "0.2 COMMITTED SCN 2 ROWS 2 READ 0 VIEWS 0"
    ∷ codes "0.3 DONE SCN 2 READ 2"
    ∷ codes "0.4 DONE SCN 2 READ 2"
    ∷ codes "0.5 COMMITTED SCN 3 ROWS 2 READ 0 VIEWS 0"
    ∷ codes "0.6 ANSWER SCN 3 PLAN CONCAT V@2 READ 0 ROWS 1"
    ∷ []
    ∷ codes "0.7 REWRITE SCN 3 PLAN CONCAT V@2 READ 0 ROWS 2"
    ∷ codes "V|CONCAT"
    ∷ codes "J|E8"
    ∷ codes "0.8 REWRITE SCN 3 PLAN GENERAL V@2 READ 0 ROWS 2"
    ∷ codes "V|GENERAL"
    ∷ codes "J|GENERAL"
    ∷ codes "0.9 VIEW J POINT 2 STATE PARTLY REGISTERED YES SUSPENDED NO READ 0 INTERVALS 1 ROWS 2"
    ∷ codes "|20"
    ∷ codes "5|1"
    ∷ codes "15|2"
    ∷ codes "journal 0.1.1 0.2.1 0.3.1 0.4.1 0.5.1 0.6.1 0.7.1 0.8.1 0.9.1"
    ∷ []))
unfolding digits utf8_valid_len is_utf8 chars lib.Utf8.encode tokens_of front_of
stale_intervals_are_a_union = refl

-- Groups that have entries of the view and base rows: sums and counts add, of extremes the better one stands, and averages add both.
pub both_sides :
    whole_output (lines_text (
    codes "@setup"
    ∷ codes "CREATE TABLE S (K NUMBER, G VARCHAR2(4), A NUMBER) PARTITION BY RANGE (K) (PARTITION P1 VALUES LESS THAN (10), PARTITION P2 VALUES LESS THAN (20));"
    ∷ codes "INSERT INTO S VALUES (5,'P',1),(6,'P',4),(7,'Q',NULL),(15,'P',2),(16,'R',9),(17,'Q',3);"
    ∷ codes "CREATE MATERIALIZED VIEW V ENABLE QUERY REWRITE AS SELECT K, G, SUM(A), COUNT(A), MIN(A), MAX(A), COUNT(*) FROM S GROUP BY K, G;"
    ∷ codes "UPDATE S SET A = A + 10 WHERE K > 10;"
    ∷ codes "SELECT G, SUM(A), COUNT(A), MIN(A), MAX(A), AVG(A), COUNT(*) FROM S GROUP BY G;"
    ∷ codes "SELECT G, SUM(A) FROM S WHERE G <> 'Q' GROUP BY G HAVING MIN(A) < 10;"
    ∷ codes "SELECT SUM(A), COUNT(*) FROM S WHERE K > 16 AND G = 'R';"
    ∷ codes "SELECT K, A FROM S;"
    ∷ codes "ALTER SESSION SET QUERY_REWRITE_INTEGRITY = STALE_TOLERATED;"
    ∷ codes "SELECT SUM(A) FROM S;"
    ∷ codes "@end"
    ∷ []))
    ≡ Ok (lines_text (
    codes "0.1 DONE SCN 1 READ 0"
    ∷ codes "0.2 COMMITTED SCN 2 ROWS 6 READ 0 VIEWS 0"
    ∷ codes "0.3 DONE SCN 2 READ 6"
    ∷ codes "0.4 COMMITTED SCN 3 ROWS 3 READ 6 VIEWS 0"
    ∷ codes "0.5 ANSWER SCN 3 PLAN CONCAT V@2 READ 3 ROWS 3"
    ∷ codes "P|17|3|1|12|17/3|3"
    ∷ codes "Q|13|1|13|13|13/1|2"
    ∷ codes "R|19|1|19|19|19/1|1"
    ∷ codes "0.6 ANSWER SCN 3 PLAN CONCAT V@2 READ 3 ROWS 1"
    ∷ codes "P|17"
    ∷ codes "0.7 ANSWER SCN 3 PLAN CONCAT V@2 READ 3 ROWS 1"
    ∷ codes "|0"
    ∷ codes "0.8 ANSWER SCN 3 PLAN BASE READ 6 ROWS 6"
    ∷ codes "5|1"
    ∷ codes "6|4"
    ∷ codes "7|"
    ∷ codes "15|12"
    ∷ codes "16|19"
    ∷ codes "17|13"
    ∷ codes "0.9 DONE SCN 3 READ 0"
    ∷ codes "0.10 ANSWER SCN 3 PLAN GENERAL V@2 READ 0 ROWS 1"
    ∷ codes "19"
    ∷ codes "journal 0.1.1 0.2.1 0.3.1 0.4.1 0.5.1 0.6.1 0.7.1 0.8.1 0.9.1 0.10.1"
    ∷ []))
unfolding digits utf8_valid_len is_utf8 chars lib.Utf8.encode tokens_of front_of
both_sides = refl

-- A view that doesn't select the key, or is stale in a table that isn't tracked, fails.
pub key_not_selected :
    whole_output (lines_text (
    codes "@setup"
    ∷ codes "CREATE TABLE S (K NUMBER, A NUMBER) PARTITION BY RANGE (K) (PARTITION P1 VALUES LESS THAN (10), PARTITION P2 VALUES LESS THAN (20));"
    ∷ codes "INSERT INTO S VALUES (5,1),(15,2);"
    ∷ codes "CREATE MATERIALIZED VIEW V ENABLE QUERY REWRITE AS SELECT DBMS_MVIEW.PMARKER(S.ROWID) M, SUM(A) FROM S GROUP BY DBMS_MVIEW.PMARKER(S.ROWID);"
    ∷ codes "INSERT INTO S VALUES (15,7);"
    ∷ codes "SHOW VIEW V;"
    ∷ codes "SELECT SUM(A) FROM S;"
    ∷ codes "EXPLAIN REWRITE SELECT SUM(A) FROM S;"
    ∷ codes "@end"
    ∷ []))
    ≡ Ok (lines_text (
    codes "0.1 DONE SCN 1 READ 0"
    ∷ codes "0.2 COMMITTED SCN 2 ROWS 2 READ 0 VIEWS 0"
    ∷ codes "0.3 DONE SCN 2 READ 2"
    ∷ codes "0.4 COMMITTED SCN 3 ROWS 1 READ 0 VIEWS 0"
    ∷ codes "0.5 VIEW V POINT 2 STATE PARTLY REGISTERED YES SUSPENDED NO READ 0 INTERVALS 1 ROWS 2"
    ∷ codes "10|20"
    ∷ codes "1|1"
    ∷ codes "2|2"
    ∷ codes "0.6 ANSWER SCN 3 PLAN BASE READ 3 ROWS 1"
    ∷ codes "10"
    ∷ codes "0.7 REWRITE SCN 3 PLAN BASE READ 0 ROWS 1"
    ∷ codes "V|E8"
    ∷ codes "journal 0.1.1 0.2.1 0.3.1 0.4.1 0.5.1 0.6.1 0.7.1"
    ∷ []))
unfolding digits utf8_valid_len is_utf8 chars lib.Utf8.encode tokens_of front_of
key_not_selected = refl

-- Of the query's other tables all rows are read.
pub other_tables_are_read :
    whole_output (lines_text (
    codes "@setup"
    ∷ codes "CREATE TABLE P (ID NUMBER PRIMARY KEY, CAT VARCHAR2(4));"
    ∷ codes "CREATE TABLE S (K NUMBER, PID NUMBER NOT NULL REFERENCES P (ID), A NUMBER) PARTITION BY RANGE (K) (PARTITION P1 VALUES LESS THAN (10), PARTITION P2 VALUES LESS THAN (20), PARTITION P3 VALUES LESS THAN (30));"
    ∷ codes "INSERT INTO P VALUES (1,'X'),(2,'Y');"
    ∷ codes "INSERT INTO S VALUES (5,1,1),(15,2,2),(25,1,4);"
    ∷ codes "CREATE MATERIALIZED VIEW V ENABLE QUERY REWRITE AS SELECT S.K, P.CAT, SUM(S.A) FROM S JOIN P ON S.PID = P.ID GROUP BY S.K, P.CAT;"
    ∷ codes "INSERT INTO S VALUES (15,1,8),(25,2,16);"
    ∷ codes "SELECT P.CAT, SUM(S.A) FROM S JOIN P ON S.PID = P.ID GROUP BY P.CAT;"
    ∷ codes "SELECT P.CAT, SUM(S.A) FROM S JOIN P ON S.PID = P.ID WHERE S.K < 20 GROUP BY P.CAT;"
    ∷ codes "SELECT SUM(A) FROM S;"
    ∷ codes "@end"
    ∷ []))
    ≡ Ok (lines_text (
    codes "0.1 DONE SCN 1 READ 0"
    ∷ codes "0.2 DONE SCN 2 READ 0"
    ∷ codes "0.3 COMMITTED SCN 3 ROWS 2 READ 0 VIEWS 0"
    ∷ codes "0.4 COMMITTED SCN 4 ROWS 3 READ 0 VIEWS 0"
    ∷ codes "0.5 DONE SCN 4 READ 5"
    ∷ codes "0.6 COMMITTED SCN 5 ROWS 2 READ 0 VIEWS 0"
    ∷ codes "0.7 ANSWER SCN 5 PLAN CONCAT V@4 READ 6 ROWS 2"
    ∷ codes "X|13"
    ∷ codes "Y|18"
    ∷ codes "0.8 ANSWER SCN 5 PLAN CONCAT V@4 READ 4 ROWS 2"
    ∷ codes "X|9"
    ∷ codes "Y|2"
    ∷ codes "0.9 ANSWER SCN 5 PLAN CONCAT V@4 READ 4 ROWS 1"
    ∷ codes "31"
    ∷ codes "journal 0.1.1 0.2.1 0.3.1 0.4.1 0.5.1 0.6.1 0.7.1 0.8.1 0.9.1"
    ∷ []))
unfolding digits utf8_valid_len is_utf8 chars lib.Utf8.encode tokens_of front_of
other_tables_are_read = refl
