-- Columns that hold days.
use Rattle.std.specs.Prelude.{Ok, [], codes, refl, ◌∷◌, ◌≡◌}
use Rattle.def_rows.specs.Lines.{One, Ordering, Two, chars, digits, front_of, is_utf8, lines_text, next_record, output, strip_bom, tokens_of, utf8_valid_len}

-- Two days behind 28 February of a leap year. A day behind the last partition has none, and a text that names no day is of the
-- wrong kind.
pub days_in_partitions :
    output (Ordering Two) (lines_text (
    codes "@setup"
    ∷ codes "CREATE TABLE H (D DATE NOT NULL, A NUMBER) PARTITION BY RANGE (D) (PARTITION Y24 VALUES LESS THAN (DATE '2025-01-01'));"
    ∷ codes "INSERT INTO H VALUES (DATE '2024-02-28', 1);"
    ∷ codes "UPDATE H SET D = D + 2;"
    ∷ codes "SELECT D, SUM(A) FROM H GROUP BY D;"
    ∷ codes "INSERT INTO H VALUES (DATE '2025-01-01', 1);"
    ∷ codes "@load H"
    ∷ codes "2023-02-29,1"
    ∷ codes "@endload"
    ∷ codes "@end"
    ∷ []))
    ≡ Ok (lines_text (
    codes "mviewdb 2"
    ∷ codes "0.1 DONE SCN 1 READ 0"
    ∷ codes "0.2 COMMITTED SCN 2 ROWS 1 READ 0 VIEWS 0"
    ∷ codes "0.3 COMMITTED SCN 3 ROWS 1 READ 1 VIEWS 0"
    ∷ codes "0.4 ANSWER SCN 3 PLAN BASE READ 1 ROWS 1"
    ∷ codes "2024-03-01|1"
    ∷ codes "0.5 REFUSED MV-09 AT 1 H READ 0"
    ∷ codes "0.6 REFUSED MV-04 AT 1 H D READ 0"
    ∷ codes "journal 0.1.1 0.2.1 0.3.1 0.4.1 0.5.1 0.6.1"
    ∷ []))
unfolding digits utf8_valid_len is_utf8 chars lib.Utf8.encode tokens_of front_of next_record strip_bom
days_in_partitions = refl

-- The first version of the transcript prints the number of a day.
pub numbers_of_days :
    output (Ordering One) (lines_text (
    codes "@setup"
    ∷ codes "CREATE TABLE H (D DATE NOT NULL, A NUMBER) PARTITION BY RANGE (D) (PARTITION Y24 VALUES LESS THAN (DATE '2025-01-01'));"
    ∷ codes "INSERT INTO H VALUES (DATE '2024-02-28', 1);"
    ∷ codes "UPDATE H SET D = D + 2;"
    ∷ codes "SELECT D, SUM(A) FROM H GROUP BY D;"
    ∷ codes "@end"
    ∷ []))
    ≡ Ok (lines_text (
    codes "0.1 DONE SCN 1 READ 0"
    ∷ codes "0.2 COMMITTED SCN 2 ROWS 1 READ 0 VIEWS 0"
    ∷ codes "0.3 COMMITTED SCN 3 ROWS 1 READ 1 VIEWS 0"
    ∷ codes "0.4 ANSWER SCN 3 PLAN BASE READ 1 ROWS 1"
    ∷ codes "19783|1"
    ∷ codes "journal 0.1.1 0.2.1 0.3.1 0.4.1"
    ∷ []))
unfolding digits utf8_valid_len is_utf8 chars lib.Utf8.encode tokens_of front_of next_record strip_bom
numbers_of_days = refl

-- It is negative before 1970-01-01.
pub days_before_1970 :
    output (Ordering One) (lines_text (
    codes "@setup"
    ∷ codes "CREATE TABLE T (D DATE);"
    ∷ codes "INSERT INTO T VALUES (DATE '1970-01-01'), (DATE '1969-12-31'), (DATE '0001-01-01'), (DATE '9999-12-31'), (NULL);"
    ∷ codes "SELECT D FROM T;"
    ∷ codes "@end"
    ∷ []))
    ≡ Ok (lines_text (
    codes "0.1 DONE SCN 1 READ 0"
    ∷ codes "0.2 COMMITTED SCN 2 ROWS 5 READ 0 VIEWS 0"
    ∷ codes "0.3 ANSWER SCN 2 PLAN BASE READ 5 ROWS 5"
    ∷ codes "-719162"
    ∷ codes "-1"
    ∷ codes "0"
    ∷ codes "2932896"
    ∷ []
    ∷ codes "journal 0.1.1 0.2.1 0.3.1"
    ∷ []))
unfolding digits utf8_valid_len is_utf8 chars lib.Utf8.encode tokens_of front_of next_record strip_bom
days_before_1970 = refl

-- Of the years that end a century every fourth is a leap year. Each row of the answer is one day later than that of the INSERT.
pub leap_years :
    output (Ordering Two) (lines_text (
    codes "@setup"
    ∷ codes "CREATE TABLE T (N NUMBER, D DATE);"
    ∷ codes "INSERT INTO T VALUES (1, DATE '1900-02-28'), (2, DATE '2000-02-28'), (3, DATE '2023-02-28'), (4, DATE '2024-02-28'), (5, DATE '2024-02-29'), (6, DATE '1999-12-31'), (7, DATE '0400-12-30'), (8, DATE '2000-12-30');"
    ∷ codes "UPDATE T SET D = D + 1;"
    ∷ codes "SELECT N, D FROM T;"
    ∷ codes "UPDATE T SET D = D - 366 WHERE N < 3;"
    ∷ codes "SELECT N, D FROM T WHERE N < 3;"
    ∷ codes "@end"
    ∷ []))
    ≡ Ok (lines_text (
    codes "mviewdb 2"
    ∷ codes "0.1 DONE SCN 1 READ 0"
    ∷ codes "0.2 COMMITTED SCN 2 ROWS 8 READ 0 VIEWS 0"
    ∷ codes "0.3 COMMITTED SCN 3 ROWS 8 READ 8 VIEWS 0"
    ∷ codes "0.4 ANSWER SCN 3 PLAN BASE READ 8 ROWS 8"
    ∷ codes "1|1900-03-01"
    ∷ codes "2|2000-02-29"
    ∷ codes "3|2023-03-01"
    ∷ codes "4|2024-02-29"
    ∷ codes "5|2024-03-01"
    ∷ codes "6|2000-01-01"
    ∷ codes "7|0400-12-31"
    ∷ codes "8|2000-12-31"
    ∷ codes "0.5 COMMITTED SCN 4 ROWS 2 READ 8 VIEWS 0"
    ∷ codes "0.6 ANSWER SCN 4 PLAN BASE READ 8 ROWS 2"
    ∷ codes "1|1899-02-28"
    ∷ codes "2|1999-02-28"
    ∷ codes "journal 0.1.1 0.2.1 0.3.1 0.4.1 0.5.1 0.6.1"
    ∷ []))
unfolding digits utf8_valid_len is_utf8 chars lib.Utf8.encode tokens_of front_of next_record strip_bom
leap_years = refl

-- No column holds a day outside the calendar. The column is told before NULL in a later one.
pub ends_of_the_calendar :
    output (Ordering Two) (lines_text (
    codes "@setup"
    ∷ codes "CREATE TABLE T (D DATE, N NUMBER NOT NULL);"
    ∷ codes "INSERT INTO T VALUES (DATE '9999-12-30', 1);"
    ∷ codes "UPDATE T SET D = D + 1;"
    ∷ codes "UPDATE T SET D = D + 1, N = NULL;"
    ∷ codes "UPDATE T SET N = NULL;"
    ∷ codes "UPDATE T SET D = D - 3652058;"
    ∷ codes "SELECT D FROM T;"
    ∷ codes "UPDATE T SET D = D - 1;"
    ∷ codes "UPDATE T SET D = D + 99999999999999999999999999999999999999;"
    ∷ codes "UPDATE T SET D = NULL;"
    ∷ codes "UPDATE T SET D = D + 1;"
    ∷ codes "SELECT D FROM T;"
    ∷ codes "@end"
    ∷ []))
    ≡ Ok (lines_text (
    codes "mviewdb 2"
    ∷ codes "0.1 DONE SCN 1 READ 0"
    ∷ codes "0.2 COMMITTED SCN 2 ROWS 1 READ 0 VIEWS 0"
    ∷ codes "0.3 COMMITTED SCN 3 ROWS 1 READ 1 VIEWS 0"
    ∷ codes "0.4 REFUSED MV-04 AT 1 T D READ 1"
    ∷ codes "0.5 REFUSED MV-05 AT 1 T N READ 1"
    ∷ codes "0.6 COMMITTED SCN 4 ROWS 1 READ 1 VIEWS 0"
    ∷ codes "0.7 ANSWER SCN 4 PLAN BASE READ 1 ROWS 1"
    ∷ codes "0001-01-01"
    ∷ codes "0.8 REFUSED MV-04 AT 1 T D READ 1"
    ∷ codes "0.9 REFUSED MV-04 AT 1 T D READ 1"
    ∷ codes "0.10 COMMITTED SCN 5 ROWS 1 READ 1 VIEWS 0"
    ∷ codes "0.11 COMMITTED SCN 6 ROWS 1 READ 1 VIEWS 0"
    ∷ codes "0.12 ANSWER SCN 6 PLAN BASE READ 1 ROWS 1"
    ∷ []
    ∷ codes "journal 0.1.1 0.2.1 0.3.1 0.4.1 0.5.1 0.6.1 0.7.1 0.8.1 0.9.1 0.10.1 0.11.1 0.12.1"
    ∷ []))
unfolding digits utf8_valid_len is_utf8 chars lib.Utf8.encode tokens_of front_of next_record strip_bom
ends_of_the_calendar = refl

-- A day is compared with days, and set from them alone. A number counts days, also of another column.
pub kinds_with_days :
    output (Ordering Two) (lines_text (
    codes "@setup"
    ∷ codes "CREATE TABLE T (D DATE, E DATE, A NUMBER, V VARCHAR2(10));"
    ∷ codes "INSERT INTO T VALUES ('2024-01-01', NULL, 1, 'x');"
    ∷ codes "INSERT INTO T VALUES (5, NULL, 1, 'x');"
    ∷ codes "INSERT INTO T VALUES (NULL, NULL, DATE '2024-01-01', 'x');"
    ∷ codes "INSERT INTO T VALUES (NULL, NULL, 1, DATE '2024-01-01');"
    ∷ codes "INSERT INTO T VALUES (DATE '2024-01-01', '', 1, '2024-01-01');"
    ∷ codes "UPDATE T SET E = D + 31;"
    ∷ codes "UPDATE T SET E = A + 1;"
    ∷ codes "UPDATE T SET A = D + 1;"
    ∷ codes "UPDATE T SET V = D + 1;"
    ∷ codes "UPDATE T SET D = V + 1;"
    ∷ codes "UPDATE T SET D = 5;"
    ∷ codes "DELETE FROM T WHERE D = E;"
    ∷ codes "DELETE FROM T WHERE D = A;"
    ∷ codes "DELETE FROM T WHERE D IN (DATE '2024-01-01', 5);"
    ∷ codes "SELECT D, E FROM T;"
    ∷ codes "SELECT D FROM T WHERE D = V;"
    ∷ codes "SELECT D FROM T WHERE D BETWEEN DATE '2024-01-01' AND 'x';"
    ∷ codes "SELECT D FROM T WHERE V = DATE '2024-01-01';"
    ∷ codes "SELECT D FROM T WHERE D = '';"
    ∷ codes "SELECT D FROM T WHERE A < DATE '2024-01-01';"
    ∷ codes "@end"
    ∷ []))
    ≡ Ok (lines_text (
    codes "mviewdb 2"
    ∷ codes "0.1 DONE SCN 1 READ 0"
    ∷ codes "0.2 REFUSED MV-04 AT 1 T D READ 0"
    ∷ codes "0.3 REFUSED MV-04 AT 1 T D READ 0"
    ∷ codes "0.4 REFUSED MV-04 AT 1 T A READ 0"
    ∷ codes "0.5 REFUSED MV-04 AT 1 T V READ 0"
    ∷ codes "0.6 COMMITTED SCN 2 ROWS 1 READ 0 VIEWS 0"
    ∷ codes "0.7 COMMITTED SCN 3 ROWS 1 READ 1 VIEWS 0"
    ∷ codes "0.8 REFUSED MV-04 AT 1 T E READ 0"
    ∷ codes "0.9 REFUSED MV-04 AT 1 T A READ 0"
    ∷ codes "0.10 REFUSED MV-04 AT 1 T V READ 0"
    ∷ codes "0.11 REFUSED MV-04 AT 1 T D READ 0"
    ∷ codes "0.12 REFUSED MV-04 AT 1 T D READ 0"
    ∷ codes "0.13 COMMITTED SCN 4 ROWS 0 READ 1 VIEWS 0"
    ∷ codes "0.14 REFUSED MV-04 AT 1 T D READ 0"
    ∷ codes "0.15 REFUSED MV-04 AT 1 T D READ 0"
    ∷ codes "0.16 ANSWER SCN 4 PLAN BASE READ 1 ROWS 1"
    ∷ codes "2024-01-01|2024-02-01"
    ∷ codes "0.17 REFUSED MV-04 T D READ 0"
    ∷ codes "0.18 REFUSED MV-04 T D READ 0"
    ∷ codes "0.19 REFUSED MV-04 T V READ 0"
    ∷ codes "0.20 ANSWER SCN 4 PLAN BASE READ 1 ROWS 0"
    ∷ codes "0.21 REFUSED MV-04 T A READ 0"
    ∷ codes "journal 0.1.1 0.2.1 0.3.1 0.4.1 0.5.1 0.6.1 0.7.1 0.8.1 0.9.1 0.10.1 0.11.1 0.12.1 0.13.1 0.14.1 0.15.1 0.16.1 0.17.1 0.18.1 0.19.1 0.20.1 0.21.1"
    ∷ []))
unfolding digits utf8_valid_len is_utf8 chars lib.Utf8.encode tokens_of front_of next_record strip_bom
kinds_with_days = refl

-- Days have a least, a greatest and a count, and neither a sum nor a product.
pub aggregates_of_days :
    output (Ordering Two) (lines_text (
    codes "@setup"
    ∷ codes "CREATE TABLE T (D DATE, A NUMBER);"
    ∷ codes "INSERT INTO T VALUES (DATE '2024-03-01', 1), (DATE '2023-12-31', 2), (NULL, 3);"
    ∷ codes "SELECT MIN(D), MAX(D), COUNT(D), COUNT(*) FROM T;"
    ∷ codes "SELECT SUM(D) FROM T;"
    ∷ codes "SELECT AVG(D) FROM T;"
    ∷ codes "SELECT SUM(A * D) FROM T;"
    ∷ codes "SELECT COUNT(D * A) FROM T;"
    ∷ codes "SELECT COUNT(*) FROM T HAVING MIN(D) > DATE '2024-01-01';"
    ∷ codes "SELECT COUNT(*) FROM T HAVING MIN(D) < DATE '2024-01-01';"
    ∷ codes "SELECT COUNT(*) FROM T HAVING MIN(D) > 5;"
    ∷ codes "SELECT COUNT(*) FROM T HAVING COUNT(*) = DATE '2024-01-01';"
    ∷ codes "SELECT D, A FROM T ORDER BY D DESC;"
    ∷ codes "@end"
    ∷ []))
    ≡ Ok (lines_text (
    codes "mviewdb 2"
    ∷ codes "0.1 DONE SCN 1 READ 0"
    ∷ codes "0.2 COMMITTED SCN 2 ROWS 3 READ 0 VIEWS 0"
    ∷ codes "0.3 ANSWER SCN 2 PLAN BASE READ 3 ROWS 1"
    ∷ codes "2023-12-31|2024-03-01|2|3"
    ∷ codes "0.4 REFUSED MV-04 T D READ 0"
    ∷ codes "0.5 REFUSED MV-04 T D READ 0"
    ∷ codes "0.6 REFUSED MV-04 T D READ 0"
    ∷ codes "0.7 REFUSED MV-04 T D READ 0"
    ∷ codes "0.8 ANSWER SCN 2 PLAN BASE READ 3 ROWS 0"
    ∷ codes "0.9 ANSWER SCN 2 PLAN BASE READ 3 ROWS 1"
    ∷ codes "3"
    ∷ codes "0.10 REFUSED MV-04 T D READ 0"
    ∷ codes "0.11 REFUSED MV-04 T - READ 0"
    ∷ codes "0.12 ANSWER SCN 2 PLAN BASE READ 3 ROWS 3"
    ∷ codes "|3"
    ∷ codes "2024-03-01|1"
    ∷ codes "2023-12-31|2"
    ∷ codes "journal 0.1.1 0.2.1 0.3.1 0.4.1 0.5.1 0.6.1 0.7.1 0.8.1 0.9.1 0.10.1 0.11.1 0.12.1"
    ∷ []))
unfolding digits utf8_valid_len is_utf8 chars lib.Utf8.encode tokens_of front_of next_record strip_bom
aggregates_of_days = refl

-- Bounds of partitions are days where the key is one.
pub bounds_of_days :
    output (Ordering Two) (lines_text (
    codes "@setup"
    ∷ codes "CREATE TABLE T (D DATE) PARTITION BY RANGE (D) (PARTITION P VALUES LESS THAN (20240101));"
    ∷ codes "CREATE TABLE T (D DATE) PARTITION BY RANGE (D) (PARTITION P VALUES LESS THAN ('2024-01-01'));"
    ∷ codes "CREATE TABLE T (A NUMBER) PARTITION BY RANGE (A) (PARTITION P VALUES LESS THAN (DATE '2024-01-01'));"
    ∷ codes "CREATE TABLE T (D DATE) PARTITION BY RANGE (D) (PARTITION P VALUES LESS THAN (DATE '2024-01-01'), PARTITION Q VALUES LESS THAN (DATE '2023-12-31'));"
    ∷ codes "CREATE TABLE T (D DATE, A NUMBER) PARTITION BY RANGE (D) (PARTITION P VALUES LESS THAN (DATE '2024-01-01'), PARTITION Q VALUES LESS THAN (DATE '2024-02-01'));"
    ∷ codes "ALTER TABLE T ADD PARTITION R VALUES LESS THAN (DATE '2024-01-31');"
    ∷ codes "ALTER TABLE T ADD PARTITION R VALUES LESS THAN (9);"
    ∷ codes "ALTER TABLE T ADD PARTITION R VALUES LESS THAN (DATE '2024-03-01');"
    ∷ codes "@load T"
    ∷ codes "2023-06-30,1"
    ∷ codes "2024-01-31,2"
    ∷ codes "2024-02-29,3"
    ∷ codes "@endload"
    ∷ codes "INSERT INTO T (A) VALUES (4);"
    ∷ codes "SELECT COUNT(*) FROM T WHERE D >= DATE '2024-01-01' AND D < DATE '2024-02-01';"
    ∷ codes "SELECT DBMS_MVIEW.PMARKER(ROWID), D FROM T WHERE D IN (DATE '2024-02-29', DATE '2023-06-30');"
    ∷ codes "ALTER TABLE T DROP PARTITION Q;"
    ∷ codes "SELECT D, A FROM T;"
    ∷ codes "@end"
    ∷ []))
    ≡ Ok (lines_text (
    codes "mviewdb 2"
    ∷ codes "0.1 REFUSED MV-04 T D READ 0"
    ∷ codes "0.2 REFUSED MV-04 T D READ 0"
    ∷ codes "0.3 REFUSED MV-04 T A READ 0"
    ∷ codes "0.4 REFUSED MV-11 T Q READ 0"
    ∷ codes "0.5 DONE SCN 1 READ 0"
    ∷ codes "0.6 REFUSED MV-11 T R READ 0"
    ∷ codes "0.7 REFUSED MV-04 T D READ 0"
    ∷ codes "0.8 DONE SCN 2 READ 0"
    ∷ codes "0.9 COMMITTED SCN 3 ROWS 3 READ 0 VIEWS 0"
    ∷ codes "0.10 REFUSED MV-05 AT 1 T D READ 0"
    ∷ codes "0.11 ANSWER SCN 3 PLAN BASE READ 1 ROWS 1"
    ∷ codes "1"
    ∷ codes "0.12 ANSWER SCN 3 PLAN BASE READ 3 ROWS 2"
    ∷ codes "1|2023-06-30"
    ∷ codes "3|2024-02-29"
    ∷ codes "0.13 DONE SCN 4 READ 0"
    ∷ codes "0.14 ANSWER SCN 4 PLAN BASE READ 2 ROWS 2"
    ∷ codes "2023-06-30|1"
    ∷ codes "2024-02-29|3"
    ∷ codes "journal 0.1.1 0.2.1 0.3.1 0.4.1 0.5.1 0.6.1 0.7.1 0.8.1 0.9.1 0.10.1 0.11.1 0.12.1 0.13.1 0.14.1"
    ∷ []))
unfolding digits utf8_valid_len is_utf8 chars lib.Utf8.encode tokens_of front_of next_record strip_bom
bounds_of_days = refl

-- A day is a key like any other value, and refers to a key of its kind.
pub keys_of_days :
    output (Ordering Two) (lines_text (
    codes "@setup"
    ∷ codes "CREATE TABLE C (D DATE PRIMARY KEY, M NUMBER UNIQUE);"
    ∷ codes "CREATE TABLE S (D DATE REFERENCES C, A NUMBER);"
    ∷ codes "CREATE TABLE R (D DATE REFERENCES C (M));"
    ∷ codes "INSERT INTO C VALUES (DATE '2024-01-01', 1), (DATE '2024-02-01', 2);"
    ∷ codes "INSERT INTO C VALUES (DATE '2024-02-01', 3);"
    ∷ codes "INSERT INTO S VALUES (DATE '2024-02-01', 5), (DATE '2024-02-01', 7), (NULL, 9);"
    ∷ codes "INSERT INTO S VALUES (DATE '2024-02-02', 5);"
    ∷ codes "SELECT C.M, SUM(S.A) FROM S JOIN C ON S.D = C.D GROUP BY C.M;"
    ∷ codes "SELECT C.M FROM S JOIN C ON S.D = C.M;"
    ∷ codes "@end"
    ∷ []))
    ≡ Ok (lines_text (
    codes "mviewdb 2"
    ∷ codes "0.1 DONE SCN 1 READ 0"
    ∷ codes "0.2 DONE SCN 2 READ 0"
    ∷ codes "0.3 REFUSED MV-27 R D READ 0"
    ∷ codes "0.4 COMMITTED SCN 3 ROWS 2 READ 0 VIEWS 0"
    ∷ codes "0.5 REFUSED MV-06 AT 1 C D READ 0"
    ∷ codes "0.6 COMMITTED SCN 4 ROWS 3 READ 0 VIEWS 0"
    ∷ codes "0.7 REFUSED MV-07 AT 1 S D READ 0"
    ∷ codes "0.8 ANSWER SCN 4 PLAN BASE READ 5 ROWS 1"
    ∷ codes "2|12"
    ∷ codes "0.9 REFUSED MV-04 S D READ 0"
    ∷ codes "journal 0.1.1 0.2.1 0.3.1 0.4.1 0.5.1 0.6.1 0.7.1 0.8.1 0.9.1"
    ∷ []))
unfolding digits utf8_valid_len is_utf8 chars lib.Utf8.encode tokens_of front_of next_record strip_bom
keys_of_days = refl

-- A view by days in a partitioned table: the log, its stale interval, its refresh by partitions, and an answer from it.
pub views_of_days :
    output (Ordering Two) (lines_text (
    codes "@setup"
    ∷ codes "CREATE TABLE H (D DATE, A NUMBER) PARTITION BY RANGE (D) (PARTITION Y23 VALUES LESS THAN (DATE '2024-01-01'), PARTITION Y24 VALUES LESS THAN (DATE '2025-01-01'));"
    ∷ codes "CREATE MATERIALIZED VIEW LOG ON H WITH ROWID, SEQUENCE (D, A) INCLUDING NEW VALUES;"
    ∷ codes "INSERT INTO H VALUES (DATE '2023-05-05', 1), (DATE '2024-02-29', 2);"
    ∷ codes "CREATE MATERIALIZED VIEW V ENABLE QUERY REWRITE AS SELECT D, SUM(A), COUNT(A), COUNT(*) FROM H GROUP BY D;"
    ∷ codes "INSERT INTO H VALUES (DATE '2024-12-31', 4);"
    ∷ codes "SHOW LOG H;"
    ∷ codes "SHOW VIEW V;"
    ∷ codes "EXECUTE DBMS_MVIEW.REFRESH('V', 'P');"
    ∷ codes "EXECUTE DBMS_MVIEW.REFRESH('V', 'F');"
    ∷ codes "SELECT D, SUM(A), COUNT(A), COUNT(*) FROM H GROUP BY D;"
    ∷ codes "@end"
    ∷ []))
    ≡ Ok (lines_text (
    codes "mviewdb 2"
    ∷ codes "0.1 DONE SCN 1 READ 0"
    ∷ codes "0.2 DONE SCN 2 READ 0"
    ∷ codes "0.3 COMMITTED SCN 3 ROWS 2 READ 0 VIEWS 0"
    ∷ codes "0.4 DONE SCN 3 READ 2"
    ∷ codes "0.5 COMMITTED SCN 4 ROWS 1 READ 0 VIEWS 0"
    ∷ codes "0.6 LOG H BORN 2 FROM 2 READ 0 ROWS 3"
    ∷ codes "3|1|1|I|N|2023-05-05|1"
    ∷ codes "3|2|2|I|N|2024-02-29|2"
    ∷ codes "4|3|3|I|N|2024-12-31|4"
    ∷ codes "0.7 VIEW V POINT 3 STATE PARTLY REGISTERED YES SUSPENDED NO READ 0 INTERVALS 1 ROWS 2"
    ∷ codes "2024-01-01|2025-01-01"
    ∷ codes "2023-05-05|1|1|1"
    ∷ codes "2024-02-29|2|1|1"
    ∷ codes "0.8 REFRESHED PARTITION SCN 4 READ 2 HOLDS 3"
    ∷ codes "0.9 REFRESHED FAST SCN 4 READ 0 HOLDS 3"
    ∷ codes "0.10 ANSWER SCN 4 PLAN FULL V@4 READ 0 ROWS 3"
    ∷ codes "2023-05-05|1|1|1"
    ∷ codes "2024-02-29|2|1|1"
    ∷ codes "2024-12-31|4|1|1"
    ∷ codes "journal 0.1.1 0.2.1 0.3.1 0.4.1 0.5.1 0.6.1 0.7.1 0.8.1 0.8.2 0.9.1 0.9.2 0.10.1"
    ∷ []))
unfolding digits utf8_valid_len is_utf8 chars lib.Utf8.encode tokens_of front_of next_record strip_bom
views_of_days = refl
