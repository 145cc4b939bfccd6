use Rattle.std.specs.Prelude.{Ok, [], codes, refl, ◌∷◌, ◌≡◌}
use Rattle.def_rows.specs.Lines.{chars, digits, front_of, is_utf8, lines_text, tokens_of, utf8_valid_len}
use Rattle.def_rows.specs.WholeChoice.{whole_output}

-- A view without entries serves too: the sum is NULL and the count 0.
pub over_no_entry :
    whole_output (lines_text (
    codes "@setup"
    ∷ codes "CREATE TABLE T (G VARCHAR2(4), A NUMBER);"
    ∷ codes "CREATE MATERIALIZED VIEW V ENABLE QUERY REWRITE AS SELECT G, SUM(A), COUNT(A), COUNT(*) FROM T GROUP BY G;"
    ∷ codes "SELECT SUM(A), COUNT(*) FROM T;"
    ∷ codes "@end"
    ∷ []))
    ≡ Ok (lines_text (
    codes "0.1 DONE SCN 1 READ 0"
    ∷ codes "0.2 DONE SCN 1 READ 0"
    ∷ codes "0.3 ANSWER SCN 1 PLAN GENERAL V@1 READ 0 ROWS 1"
    ∷ codes "|0"
    ∷ codes "journal 0.1.1 0.2.1 0.3.1"
    ∷ []))
unfolding digits utf8_valid_len is_utf8 chars lib.Utf8.encode tokens_of front_of
over_no_entry = refl

-- Sums, counts, averages and extremes roll up from those of the view, after its own conditions and before HAVING.
pub all_aggregates :
    whole_output (lines_text (
    codes "@setup"
    ∷ codes "CREATE TABLE T (G VARCHAR2(4), H NUMBER NOT NULL, A NUMBER);"
    ∷ codes "INSERT INTO T VALUES ('P',1,10),('P',2,5),('Q',1,NULL),('Q',3,7),('R',2,NULL);"
    ∷ codes "CREATE MATERIALIZED VIEW V ENABLE QUERY REWRITE AS SELECT G, H, SUM(A), COUNT(A), MIN(A), MAX(A), AVG(A), COUNT(*) FROM T GROUP BY G, H;"
    ∷ codes "SELECT G, SUM(A), COUNT(A), MIN(A), MAX(A), AVG(A), COUNT(H) FROM T GROUP BY G;"
    ∷ codes "SELECT H, AVG(A) FROM T WHERE G <> 'R' GROUP BY H HAVING COUNT(*) > 1 ORDER BY 2 DESC;"
    ∷ codes "SELECT SUM(A) FROM T WHERE H > 9;"
    ∷ codes "@end"
    ∷ []))
    ≡ Ok (lines_text (
    codes "0.1 DONE SCN 1 READ 0"
    ∷ codes "0.2 COMMITTED SCN 2 ROWS 5 READ 0 VIEWS 0"
    ∷ codes "0.3 DONE SCN 2 READ 5"
    ∷ codes "0.4 ANSWER SCN 2 PLAN GENERAL V@2 READ 0 ROWS 3"
    ∷ codes "P|15|2|5|10|15/2|2"
    ∷ codes "Q|7|1|7|7|7/1|2"
    ∷ codes "R||0||||1"
    ∷ codes "0.5 ANSWER SCN 2 PLAN GENERAL V@2 READ 0 ROWS 1"
    ∷ codes "1|10/1"
    ∷ codes "0.6 ANSWER SCN 2 PLAN GENERAL V@2 READ 0 ROWS 1"
    ∷ []
    ∷ codes "journal 0.1.1 0.2.1 0.3.1 0.4.1 0.5.1 0.6.1"
    ∷ []))
unfolding digits utf8_valid_len is_utf8 chars lib.Utf8.encode tokens_of front_of
all_aggregates = refl

-- In a class the view with the fewest entries serves.
pub fewest_entries_serve :
    whole_output (lines_text (
    codes "@setup"
    ∷ codes "CREATE TABLE T (G VARCHAR2(4), H NUMBER, A NUMBER);"
    ∷ codes "INSERT INTO T VALUES ('P',1,10),('P',2,5),('P',3,4);"
    ∷ codes "CREATE MATERIALIZED VIEW V ENABLE QUERY REWRITE AS SELECT G, H, SUM(A) FROM T GROUP BY G, H;"
    ∷ codes "CREATE MATERIALIZED VIEW W ENABLE QUERY REWRITE AS SELECT G, SUM(A) FROM T GROUP BY G;"
    ∷ codes "SELECT SUM(A) FROM T;"
    ∷ codes "EXPLAIN REWRITE SELECT SUM(A) FROM T;"
    ∷ codes "EXPLAIN REWRITE SELECT COUNT(*) FROM T;"
    ∷ codes "@end"
    ∷ []))
    ≡ Ok (lines_text (
    codes "0.1 DONE SCN 1 READ 0"
    ∷ codes "0.2 COMMITTED SCN 2 ROWS 3 READ 0 VIEWS 0"
    ∷ codes "0.3 DONE SCN 2 READ 3"
    ∷ codes "0.4 DONE SCN 2 READ 3"
    ∷ codes "0.5 ANSWER SCN 2 PLAN GENERAL W@2 READ 0 ROWS 1"
    ∷ codes "19"
    ∷ codes "0.6 REWRITE SCN 2 PLAN GENERAL W@2 READ 0 ROWS 2"
    ∷ codes "V|GENERAL"
    ∷ codes "W|GENERAL"
    ∷ codes "0.7 REWRITE SCN 2 PLAN BASE READ 0 ROWS 2"
    ∷ codes "V|E7"
    ∷ codes "W|E7"
    ∷ codes "journal 0.1.1 0.2.1 0.3.1 0.4.1 0.5.1 0.6.1 0.7.1"
    ∷ []))
unfolding digits utf8_valid_len is_utf8 chars lib.Utf8.encode tokens_of front_of
fewest_entries_serve = refl

-- Over a join view aggregates are computed from its columns.
pub join_view :
    whole_output (lines_text (
    codes "@setup"
    ∷ codes "CREATE TABLE P (ID NUMBER PRIMARY KEY, CAT VARCHAR2(4));"
    ∷ codes "CREATE TABLE S (PID NUMBER NOT NULL REFERENCES P (ID), A NUMBER);"
    ∷ codes "INSERT INTO P VALUES (1,'X'),(2,'Y');"
    ∷ codes "INSERT INTO S VALUES (1,10),(2,20),(2,5);"
    ∷ codes "CREATE MATERIALIZED VIEW V ENABLE QUERY REWRITE AS SELECT S.PID, P.CAT, S.A FROM S JOIN P ON S.PID = P.ID;"
    ∷ codes "SELECT P.CAT, SUM(S.A), COUNT(*) FROM S JOIN P ON P.ID = S.PID WHERE S.A > 5 GROUP BY P.CAT;"
    ∷ codes "SELECT S.A FROM S WHERE PID = 2;"
    ∷ codes "@end"
    ∷ []))
    ≡ Ok (lines_text (
    codes "0.1 DONE SCN 1 READ 0"
    ∷ codes "0.2 DONE SCN 2 READ 0"
    ∷ codes "0.3 COMMITTED SCN 3 ROWS 2 READ 0 VIEWS 0"
    ∷ codes "0.4 COMMITTED SCN 4 ROWS 3 READ 0 VIEWS 0"
    ∷ codes "0.5 DONE SCN 4 READ 5"
    ∷ codes "0.6 ANSWER SCN 4 PLAN GENERAL V@4 READ 0 ROWS 2"
    ∷ codes "X|10|1"
    ∷ codes "Y|20|1"
    ∷ codes "0.7 ANSWER SCN 4 PLAN GENERAL V@4 READ 0 ROWS 2"
    ∷ codes "5"
    ∷ codes "20"
    ∷ codes "journal 0.1.1 0.2.1 0.3.1 0.4.1 0.5.1 0.6.1 0.7.1"
    ∷ []))
unfolding digits utf8_valid_len is_utf8 chars lib.Utf8.encode tokens_of front_of
join_view = refl
