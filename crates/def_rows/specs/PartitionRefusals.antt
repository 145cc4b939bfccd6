use Rattle.std.specs.Prelude.{Ok, [], codes, refl, ◌∷◌, ◌≡◌}
use Rattle.def_rows.specs.Lines.{Ordering, Two, chars, digits, front_of, is_utf8, lines_text, output, tokens_of, utf8_valid_len}

-- An update that would move a row to another partition, a bound that isn't above the last, a name
-- that is taken, a table without a log, and an item that is no group column.
pub partition_refusals :
    output (Ordering Two) (lines_text (
    codes "@setup"
    ∷ codes "CREATE TABLE S (K NUMBER, A NUMBER) PARTITION BY RANGE (K) (PARTITION P1 VALUES LESS THAN (10), PARTITION P2 VALUES LESS THAN (20));"
    ∷ codes "INSERT INTO S VALUES (5,1),(15,2);"
    ∷ codes "CREATE MATERIALIZED VIEW V ENABLE QUERY REWRITE AS SELECT K, SUM(A), COUNT(A), COUNT(*) FROM S GROUP BY K;"
    ∷ codes "UPDATE S SET K = 15 WHERE K = 5;"
    ∷ codes "ALTER TABLE S ADD PARTITION P3 VALUES LESS THAN (20);"
    ∷ codes "CREATE TABLE S (A NUMBER);"
    ∷ codes "SHOW LOG S;"
    ∷ codes "SELECT A, SUM(A) FROM S;"
    ∷ codes "@end"
    ∷ []))
    ≡ Ok (lines_text (
    codes "mviewdb 2"
    ∷ codes "0.1 DONE SCN 1 READ 0"
    ∷ codes "0.2 COMMITTED SCN 2 ROWS 2 READ 0 VIEWS 0"
    ∷ codes "0.3 DONE SCN 2 READ 2"
    ∷ codes "0.4 REFUSED MV-10 AT 1 S READ 2"
    ∷ codes "0.5 REFUSED MV-11 S P3 READ 0"
    ∷ codes "0.6 REFUSED MV-01 S READ 0"
    ∷ codes "0.7 REFUSED MV-20 S READ 0"
    ∷ codes "0.8 REFUSED MV-18 READ 0"
    ∷ codes "journal 0.1.1 0.2.1 0.3.1 0.4.1 0.5.1 0.6.1 0.7.1 0.8.1"
    ∷ []))
unfolding digits utf8_valid_len is_utf8 chars lib.Utf8.encode tokens_of front_of
partition_refusals = refl

-- A partition isn't truncated while an enabled foreign key refers to its table.
pub truncate_of_a_referenced_table :
    output (Ordering Two) (lines_text (
    codes "@setup"
    ∷ codes "CREATE TABLE P (ID NUMBER PRIMARY KEY) PARTITION BY RANGE (ID) (PARTITION A VALUES LESS THAN (10));"
    ∷ codes "CREATE TABLE C (PID NUMBER REFERENCES P (ID));"
    ∷ codes "ALTER TABLE P TRUNCATE PARTITION A;"
    ∷ codes "@end"
    ∷ []))
    ≡ Ok (lines_text (
    codes "mviewdb 2"
    ∷ codes "0.1 DONE SCN 1 READ 0"
    ∷ codes "0.2 DONE SCN 2 READ 0"
    ∷ codes "0.3 REFUSED MV-13 P C READ 0"
    ∷ codes "journal 0.1.1 0.2.1 0.3.1"
    ∷ []))
unfolding digits utf8_valid_len is_utf8 chars lib.Utf8.encode tokens_of front_of
truncate_of_a_referenced_table = refl
