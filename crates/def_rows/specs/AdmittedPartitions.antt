use Rattle.std.specs.Prelude.{Ok, [], codes, refl, ◌∷◌, ◌≡◌}
use Rattle.def_rows.specs.Lines.{Ordering, Two, chars, digits, front_of, is_utf8, lines_text, output, tokens_of, utf8_valid_len}

-- A query reads the partitions alone that its conditions admit. The last partition of a table can't be dropped.
pub admitted_partitions :
    output (Ordering Two) (lines_text (
    codes "@setup"
    ∷ codes "CREATE TABLE S (K NUMBER, A NUMBER) PARTITION BY RANGE (K) (PARTITION P1 VALUES LESS THAN (10), PARTITION P2 VALUES LESS THAN (20));"
    ∷ codes "INSERT INTO S VALUES (5,1),(15,2);"
    ∷ codes "SELECT SUM(A) FROM S WHERE K < 10;"
    ∷ codes "ALTER TABLE S TRUNCATE PARTITION P2;"
    ∷ codes "ALTER TABLE S DROP PARTITION P1;"
    ∷ codes "ALTER TABLE S DROP PARTITION P2;"
    ∷ codes "@end"
    ∷ []))
    ≡ Ok (lines_text (
    codes "mviewdb 2"
    ∷ codes "0.1 DONE SCN 1 READ 0"
    ∷ codes "0.2 COMMITTED SCN 2 ROWS 2 READ 0 VIEWS 0"
    ∷ codes "0.3 ANSWER SCN 2 PLAN BASE READ 1 ROWS 1"
    ∷ codes "1"
    ∷ codes "0.4 DONE SCN 3 READ 0"
    ∷ codes "0.5 DONE SCN 4 READ 0"
    ∷ codes "0.6 REFUSED MV-12 S READ 0"
    ∷ codes "journal 0.1.1 0.2.1 0.3.1 0.4.1 0.5.1 0.6.1"
    ∷ []))
unfolding digits utf8_valid_len is_utf8 chars lib.Utf8.encode tokens_of front_of
admitted_partitions = refl
