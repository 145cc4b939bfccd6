use Rattle.std.specs.Prelude.{Ok, [], codes, refl, ◌∷◌, ◌≡◌}
use Rattle.def_rows.specs.Lines.{Ordering, Two, chars, digits, front_of, is_utf8, lines_text, output, tokens_of, utf8_valid_len}

-- The bound of a partition is not in it, PMARKER is the number of a row's partition, and a key at the last bound has no partition.
pub bounds_and_markers :
    output (Ordering Two) (lines_text (
    codes "@setup"
    ∷ codes "CREATE TABLE S (K NUMBER, A NUMBER) PARTITION BY RANGE (K) (PARTITION P1 VALUES LESS THAN (10), PARTITION P2 VALUES LESS THAN (20));"
    ∷ codes "INSERT INTO S VALUES (5,1),(15,2);"
    ∷ codes "CREATE MATERIALIZED VIEW V ENABLE QUERY REWRITE AS SELECT K, SUM(A), COUNT(A), COUNT(*) FROM S GROUP BY K;"
    ∷ codes "INSERT INTO S VALUES (10,1);"
    ∷ codes "SELECT DBMS_MVIEW.PMARKER(S.ROWID) FROM S WHERE K = 10;"
    ∷ codes "INSERT INTO S VALUES (20,1);"
    ∷ codes "@end"
    ∷ []))
    ≡ Ok (lines_text (
    codes "mviewdb 2"
    ∷ codes "0.1 DONE SCN 1 READ 0"
    ∷ codes "0.2 COMMITTED SCN 2 ROWS 2 READ 0 VIEWS 0"
    ∷ codes "0.3 DONE SCN 2 READ 2"
    ∷ codes "0.4 COMMITTED SCN 3 ROWS 1 READ 0 VIEWS 0"
    ∷ codes "0.5 ANSWER SCN 3 PLAN BASE READ 2 ROWS 1"
    ∷ codes "2"
    ∷ codes "0.6 REFUSED MV-09 AT 1 S READ 0"
    ∷ codes "journal 0.1.1 0.2.1 0.3.1 0.4.1 0.5.1 0.6.1"
    ∷ []))
unfolding digits utf8_valid_len is_utf8 chars lib.Utf8.encode tokens_of front_of
bounds_and_markers = refl
