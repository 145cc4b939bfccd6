use Rattle.std.specs.Prelude.{Ok, [], codes, refl, ◌∷◌, ◌≡◌}
use Rattle.def_rows.specs.Lines.{Ordering, Two, chars, digits, front_of, is_utf8, lines_text, output, tokens_of, utf8_valid_len}

-- A view grouped by PMARKER is refreshed by partitions: the touched one alone is computed anew.
pub refresh_by_marker :
    output (Ordering Two) (lines_text (
    codes "@setup"
    ∷ codes "CREATE TABLE S (K NUMBER, A NUMBER) PARTITION BY RANGE (K) (PARTITION P1 VALUES LESS THAN (10), PARTITION P2 VALUES LESS THAN (20));"
    ∷ codes "INSERT INTO S VALUES (5,1),(15,2);"
    ∷ codes "CREATE MATERIALIZED VIEW W AS SELECT SUM(A), COUNT(*) FROM S;"
    ∷ codes "EXECUTE DBMS_MVIEW.REFRESH('W', 'P');"
    ∷ codes "CREATE MATERIALIZED VIEW X AS SELECT DBMS_MVIEW.PMARKER(S.ROWID), SUM(A), COUNT(A), COUNT(*) FROM S GROUP BY DBMS_MVIEW.PMARKER(S.ROWID);"
    ∷ codes "INSERT INTO S VALUES (15,7);"
    ∷ codes "SHOW VIEW X;"
    ∷ codes "EXECUTE DBMS_MVIEW.REFRESH('X', 'P');"
    ∷ codes "SHOW VIEW X;"
    ∷ codes "@end"
    ∷ []))
    ≡ Ok (lines_text (
    codes "mviewdb 2"
    ∷ codes "0.1 DONE SCN 1 READ 0"
    ∷ codes "0.2 COMMITTED SCN 2 ROWS 2 READ 0 VIEWS 0"
    ∷ codes "0.3 DONE SCN 2 READ 2"
    ∷ codes "0.4 REFUSED MV-23 P2 READ 0"
    ∷ codes "0.5 DONE SCN 2 READ 2"
    ∷ codes "0.6 COMMITTED SCN 3 ROWS 1 READ 0 VIEWS 0"
    ∷ codes "0.7 VIEW X POINT 2 STATE PARTLY REGISTERED YES SUSPENDED NO READ 0 INTERVALS 1 ROWS 2"
    ∷ codes "10|20"
    ∷ codes "1|1|1|1"
    ∷ codes "2|2|1|1"
    ∷ codes "0.8 REFRESHED PARTITION SCN 3 READ 2 HOLDS 2"
    ∷ codes "0.9 VIEW X POINT 3 STATE FRESH REGISTERED YES SUSPENDED NO READ 0 INTERVALS 0 ROWS 2"
    ∷ codes "1|1|1|1"
    ∷ codes "2|9|2|2"
    ∷ codes "journal 0.1.1 0.2.1 0.3.1 0.4.1 0.4.2 0.5.1 0.6.1 0.7.1 0.8.1 0.8.2 0.9.1"
    ∷ []))
unfolding digits utf8_valid_len is_utf8 chars lib.Utf8.encode tokens_of front_of
refresh_by_marker = refl

-- A view over no partitioned table can't be refreshed by partitions.
pub no_partitioned_table :
    output (Ordering Two) (lines_text (
    codes "@setup"
    ∷ codes "CREATE TABLE T (G VARCHAR2(4), A NUMBER);"
    ∷ codes "INSERT INTO T VALUES ('P',10),('P',5),('Q',NULL);"
    ∷ codes "CREATE MATERIALIZED VIEW V AS SELECT G, SUM(A), COUNT(A), COUNT(*) FROM T GROUP BY G;"
    ∷ codes "EXECUTE DBMS_MVIEW.REFRESH('V', 'P');"
    ∷ codes "@end"
    ∷ []))
    ≡ Ok (lines_text (
    codes "mviewdb 2"
    ∷ codes "0.1 DONE SCN 1 READ 0"
    ∷ codes "0.2 COMMITTED SCN 2 ROWS 3 READ 0 VIEWS 0"
    ∷ codes "0.3 DONE SCN 2 READ 3"
    ∷ codes "0.4 REFUSED MV-23 P1 READ 0"
    ∷ codes "journal 0.1.1 0.2.1 0.3.1 0.4.1 0.4.2"
    ∷ []))
unfolding digits utf8_valid_len is_utf8 chars lib.Utf8.encode tokens_of front_of
no_partitioned_table = refl
