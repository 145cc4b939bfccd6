use Rattle.std.specs.Prelude.{Ok, [], codes, refl, ◌∷◌, ◌≡◌}
use Rattle.def_rows.specs.Lines.{Ordering, Two, chars, digits, front_of, is_utf8, lines_text, output, tokens_of, utf8_valid_len}

-- AS OF SCN answers from the rows of that SCN; it is refused above the SCN of now, and below the oldest one.
pub as_of_and_purge_undo :
    output (Ordering Two) (lines_text (
    codes "@setup"
    ∷ codes "CREATE TABLE T (G VARCHAR2(4), A NUMBER);"
    ∷ codes "INSERT INTO T VALUES ('P',1);"
    ∷ codes "INSERT INTO T VALUES ('P',2);"
    ∷ codes "SELECT COUNT(*) FROM T AS OF SCN 2;"
    ∷ codes "SELECT COUNT(*) FROM T AS OF SCN 9;"
    ∷ codes "PURGE UNDO TO SCN 3;"
    ∷ codes "SELECT COUNT(*) FROM T AS OF SCN 2;"
    ∷ codes "@end"
    ∷ []))
    ≡ Ok (lines_text (
    codes "mviewdb 2"
    ∷ codes "0.1 DONE SCN 1 READ 0"
    ∷ codes "0.2 COMMITTED SCN 2 ROWS 1 READ 0 VIEWS 0"
    ∷ codes "0.3 COMMITTED SCN 3 ROWS 1 READ 0 VIEWS 0"
    ∷ codes "0.4 ANSWER SCN 2 PLAN BASE READ 1 ROWS 1"
    ∷ codes "1"
    ∷ codes "0.5 REFUSED MV-26 9 3 READ 0"
    ∷ codes "0.6 PURGED SCN 3 ROWS 0 READ 0"
    ∷ codes "0.7 REFUSED MV-25 2 3 READ 0"
    ∷ codes "journal 0.1.1 0.2.1 0.3.1 0.4.1 0.5.1 0.6.1 0.7.1"
    ∷ []))
unfolding digits utf8_valid_len is_utf8 chars lib.Utf8.encode tokens_of front_of
as_of_and_purge_undo = refl

-- The partitions are those of that SCN, and a table that wasn't there then is refused.
pub partitions_of_that_scn :
    output (Ordering Two) (lines_text (
    codes "@setup"
    ∷ codes "CREATE TABLE S (K NUMBER, A NUMBER) PARTITION BY RANGE (K) (PARTITION P1 VALUES LESS THAN (10), PARTITION P2 VALUES LESS THAN (20));"
    ∷ codes "INSERT INTO S VALUES (5,1),(15,2);"
    ∷ codes "CREATE MATERIALIZED VIEW V ENABLE QUERY REWRITE AS SELECT K, SUM(A), COUNT(A), COUNT(*) FROM S GROUP BY K;"
    ∷ codes "ALTER TABLE S DROP PARTITION P1;"
    ∷ codes "SELECT SUM(A) FROM S AS OF SCN 2 WHERE K < 10;"
    ∷ codes "SELECT COUNT(*) FROM S AS OF SCN 0;"
    ∷ codes "@end"
    ∷ []))
    ≡ Ok (lines_text (
    codes "mviewdb 2"
    ∷ codes "0.1 DONE SCN 1 READ 0"
    ∷ codes "0.2 COMMITTED SCN 2 ROWS 2 READ 0 VIEWS 0"
    ∷ codes "0.3 DONE SCN 2 READ 2"
    ∷ codes "0.4 DONE SCN 3 READ 0"
    ∷ codes "0.5 ANSWER SCN 2 PLAN BASE READ 1 ROWS 1"
    ∷ codes "1"
    ∷ codes "0.6 REFUSED MV-02 S READ 0"
    ∷ codes "journal 0.1.1 0.2.1 0.3.1 0.4.1 0.5.1 0.6.1"
    ∷ []))
unfolding digits utf8_valid_len is_utf8 chars lib.Utf8.encode tokens_of front_of
partitions_of_that_scn = refl
