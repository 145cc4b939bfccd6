use Rattle.std.specs.Prelude.{Ok, [], codes, refl, ◌∷◌, ◌≡◌}
use Rattle.def_rows.specs.Lines.{Ordering, Two, chars, digits, front_of, is_utf8, lines_text, output, tokens_of, utf8_valid_len}

-- A view that can't serve prints the first condition that fails.
pub view_that_fails :
    output (Ordering Two) (lines_text (
    codes "@setup"
    ∷ codes "CREATE TABLE P (ID NUMBER PRIMARY KEY, CAT VARCHAR2(4));"
    ∷ codes "CREATE TABLE S (PID NUMBER REFERENCES P (ID), A NUMBER);"
    ∷ codes "INSERT INTO P VALUES (1,'X');"
    ∷ codes "INSERT INTO S VALUES (1,10);"
    ∷ codes "CREATE MATERIALIZED VIEW V ENABLE QUERY REWRITE AS SELECT S.PID, P.CAT, SUM(S.A), COUNT(*) FROM S JOIN P ON S.PID = P.ID GROUP BY S.PID, P.CAT;"
    ∷ codes "EXPLAIN REWRITE SELECT PID, SUM(A) FROM S GROUP BY PID;"
    ∷ codes "@end"
    ∷ []))
    ≡ Ok (lines_text (
    codes "mviewdb 2"
    ∷ codes "0.1 DONE SCN 1 READ 0"
    ∷ codes "0.2 DONE SCN 2 READ 0"
    ∷ codes "0.3 COMMITTED SCN 3 ROWS 1 READ 0 VIEWS 0"
    ∷ codes "0.4 COMMITTED SCN 4 ROWS 1 READ 0 VIEWS 0"
    ∷ codes "0.5 DONE SCN 4 READ 2"
    ∷ codes "0.6 REWRITE SCN 4 PLAN BASE READ 0 ROWS 1"
    ∷ codes "V|E4"
    ∷ codes "journal 0.1.1 0.2.1 0.3.1 0.4.1 0.5.1 0.6.1"
    ∷ []))
unfolding digits utf8_valid_len is_utf8 chars lib.Utf8.encode tokens_of front_of
view_that_fails = refl

-- Two touched partitions that adjoin make one stale interval. Conditions that no key meets miss each partition, but not this
-- interval, so a view of single rows fails by it. The plan is one of those that are built.
pub stale_intervals_are_a_union :
    output (Ordering Two) (lines_text (
    codes "@setup"
    ∷ codes "CREATE TABLE S (K NUMBER, A NUMBER) PARTITION BY RANGE (K) (PARTITION P1 VALUES LESS THAN (10), PARTITION P2 VALUES LESS THAN (20));"
    ∷ codes "INSERT INTO S VALUES (5,1),(15,2);"
    ∷ codes "CREATE MATERIALIZED VIEW V ENABLE QUERY REWRITE AS SELECT K, SUM(A), COUNT(A), COUNT(*) FROM S GROUP BY K;"
    ∷ codes "CREATE MATERIALIZED VIEW J ENABLE QUERY REWRITE AS SELECT K, A FROM S;"
    ∷ codes "INSERT INTO S VALUES (5,3),(15,4);"
    ∷ codes "EXPLAIN REWRITE SELECT SUM(A) FROM S WHERE K <= 1 AND K > 15;"
    ∷ codes "EXPLAIN REWRITE SELECT SUM(A) FROM S WHERE K >= 20;"
    ∷ codes "SHOW VIEW V;"
    ∷ codes "@end"
    ∷ []))
    ≡ Ok (lines_text (
    codes "mviewdb 2"
    ∷ codes "0.1 DONE SCN 1 READ 0"
    ∷ codes "0.2 COMMITTED SCN 2 ROWS 2 READ 0 VIEWS 0"
    ∷ codes "0.3 DONE SCN 2 READ 2"
    ∷ codes "0.4 DONE SCN 2 READ 2"
    ∷ codes "0.5 COMMITTED SCN 3 ROWS 2 READ 0 VIEWS 0"
    ∷ codes "0.6 REWRITE SCN 3 PLAN BASE READ 0 ROWS 2"
    ∷ codes "V|CONCAT"
    ∷ codes "J|E8"
    ∷ codes "0.7 REWRITE SCN 3 PLAN BASE READ 0 ROWS 2"
    ∷ codes "V|GENERAL"
    ∷ codes "J|GENERAL"
    ∷ codes "0.8 VIEW V POINT 2 STATE PARTLY REGISTERED YES SUSPENDED NO READ 0 INTERVALS 1 ROWS 2"
    ∷ codes "|20"
    ∷ codes "5|1|1|1"
    ∷ codes "15|2|1|1"
    ∷ codes "journal 0.1.1 0.2.1 0.3.1 0.4.1 0.5.1 0.6.1 0.7.1 0.8.1"
    ∷ []))
unfolding digits utf8_valid_len is_utf8 chars lib.Utf8.encode tokens_of front_of
stale_intervals_are_a_union = refl
