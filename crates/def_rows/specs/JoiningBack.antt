use Rattle.std.specs.Prelude.{Ok, [], codes, refl, ◌∷◌, ◌≡◌}
use Rattle.def_rows.specs.Lines.{chars, digits, front_of, is_utf8, lines_text, tokens_of, utf8_valid_len}
use Rattle.def_rows.specs.WholeChoice.{whole_output}

-- Under TRUSTED a table may be joined back by a level of a dimension, and its rows are read.
pub by_a_level :
    whole_output (lines_text (
    codes "@setup"
    ∷ codes "CREATE TABLE TM (DAY NUMBER PRIMARY KEY, MON NUMBER, QTR NUMBER);"
    ∷ codes "CREATE TABLE S (DAY NUMBER NOT NULL REFERENCES TM (DAY), A NUMBER);"
    ∷ codes "INSERT INTO TM VALUES (1,1,1),(2,2,1),(3,4,2);"
    ∷ codes "INSERT INTO S VALUES (1,10),(2,20),(3,40);"
    ∷ codes "CREATE MATERIALIZED VIEW V ENABLE QUERY REWRITE AS SELECT TM.MON, SUM(S.A), COUNT(*) FROM S JOIN TM ON S.DAY = TM.DAY GROUP BY TM.MON;"
    ∷ codes "CREATE DIMENSION D LEVEL M IS TM.MON LEVEL Q IS TM.QTR HIERARCHY H (M CHILD OF Q);"
    ∷ codes "SELECT TM.QTR, SUM(S.A) FROM S JOIN TM ON S.DAY = TM.DAY GROUP BY TM.QTR;"
    ∷ codes "EXPLAIN REWRITE SELECT TM.QTR, SUM(S.A) FROM S JOIN TM ON S.DAY = TM.DAY GROUP BY TM.QTR;"
    ∷ codes "ALTER SESSION SET QUERY_REWRITE_INTEGRITY = TRUSTED;"
    ∷ codes "SELECT TM.QTR, SUM(S.A) FROM S JOIN TM ON S.DAY = TM.DAY GROUP BY TM.QTR;"
    ∷ codes "@end"
    ∷ []))
    ≡ Ok (lines_text (
    codes "0.1 DONE SCN 1 READ 0"
    ∷ codes "0.2 DONE SCN 2 READ 0"
    ∷ codes "0.3 COMMITTED SCN 3 ROWS 3 READ 0 VIEWS 0"
    ∷ codes "0.4 COMMITTED SCN 4 ROWS 3 READ 0 VIEWS 0"
    ∷ codes "0.5 DONE SCN 4 READ 6"
    ∷ codes "0.6 DONE SCN 4 READ 0"
    ∷ codes "0.7 ANSWER SCN 4 PLAN BASE READ 6 ROWS 2"
    ∷ codes "1|30"
    ∷ codes "2|40"
    ∷ codes "0.8 REWRITE SCN 4 PLAN BASE READ 0 ROWS 1"
    ∷ codes "V|E6"
    ∷ codes "0.9 DONE SCN 4 READ 0"
    ∷ codes "0.10 ANSWER SCN 4 PLAN JOINBACK V@4 TM READ 3 ROWS 2"
    ∷ codes "1|30"
    ∷ codes "2|40"
    ∷ codes "journal 0.1.1 0.2.1 0.3.1 0.4.1 0.5.1 0.6.1 0.7.1 0.8.1 0.9.1 0.10.1"
    ∷ []))
unfolding digits utf8_valid_len is_utf8 chars lib.Utf8.encode tokens_of front_of
by_a_level = refl

-- Where the dimension's relation doesn't hold, the answer is what the plan gives: each entry is extended by the row of least rowid.
pub relation_that_fails :
    whole_output (lines_text (
    codes "@setup"
    ∷ codes "CREATE TABLE TM (DAY NUMBER PRIMARY KEY, MON NUMBER, QTR NUMBER);"
    ∷ codes "CREATE TABLE S (DAY NUMBER NOT NULL REFERENCES TM (DAY), A NUMBER);"
    ∷ codes "INSERT INTO TM VALUES (1,1,1),(2,2,1),(3,4,2),(4,4,3);"
    ∷ codes "INSERT INTO S VALUES (1,10),(2,20),(3,40),(4,80);"
    ∷ codes "CREATE MATERIALIZED VIEW V ENABLE QUERY REWRITE AS SELECT TM.MON, SUM(S.A), COUNT(*) FROM S JOIN TM ON S.DAY = TM.DAY GROUP BY TM.MON;"
    ∷ codes "CREATE DIMENSION D LEVEL M IS TM.MON LEVEL Q IS TM.QTR HIERARCHY H (M CHILD OF Q);"
    ∷ codes "SELECT TM.QTR, SUM(S.A) FROM S JOIN TM ON S.DAY = TM.DAY GROUP BY TM.QTR;"
    ∷ codes "EXPLAIN REWRITE SELECT TM.QTR, SUM(S.A) FROM S JOIN TM ON S.DAY = TM.DAY GROUP BY TM.QTR;"
    ∷ codes "ALTER SESSION SET QUERY_REWRITE_INTEGRITY = TRUSTED;"
    ∷ codes "SELECT TM.QTR, SUM(S.A) FROM S JOIN TM ON S.DAY = TM.DAY GROUP BY TM.QTR;"
    ∷ codes "VALIDATE DIMENSION D;"
    ∷ codes "@end"
    ∷ []))
    ≡ Ok (lines_text (
    codes "0.1 DONE SCN 1 READ 0"
    ∷ codes "0.2 DONE SCN 2 READ 0"
    ∷ codes "0.3 COMMITTED SCN 3 ROWS 4 READ 0 VIEWS 0"
    ∷ codes "0.4 COMMITTED SCN 4 ROWS 4 READ 0 VIEWS 0"
    ∷ codes "0.5 DONE SCN 4 READ 8"
    ∷ codes "0.6 DONE SCN 4 READ 0"
    ∷ codes "0.7 ANSWER SCN 4 PLAN BASE READ 8 ROWS 3"
    ∷ codes "1|30"
    ∷ codes "2|40"
    ∷ codes "3|80"
    ∷ codes "0.8 REWRITE SCN 4 PLAN BASE READ 0 ROWS 1"
    ∷ codes "V|E6"
    ∷ codes "0.9 DONE SCN 4 READ 0"
    ∷ codes "0.10 ANSWER SCN 4 PLAN JOINBACK V@4 TM READ 4 ROWS 2"
    ∷ codes "1|30"
    ∷ codes "2|120"
    ∷ codes "0.11 VALIDATED D SCN 4 READ 4 ROWS 1"
    ∷ codes "1|4"
    ∷ codes "journal 0.1.1 0.2.1 0.3.1 0.4.1 0.5.1 0.6.1 0.7.1 0.8.1 0.9.1 0.10.1 0.11.1"
    ∷ []))
unfolding digits utf8_valid_len is_utf8 chars lib.Utf8.encode tokens_of front_of
relation_that_fails = refl

-- Under ENFORCED a table is joined back by a key of it that the view selects.
pub by_a_key :
    whole_output (lines_text (
    codes "@setup"
    ∷ codes "CREATE TABLE P (ID NUMBER PRIMARY KEY, CAT VARCHAR2(4));"
    ∷ codes "CREATE TABLE S (PID NUMBER NOT NULL REFERENCES P (ID), A NUMBER);"
    ∷ codes "INSERT INTO P VALUES (1,'X'),(2,'Y'),(3,'X');"
    ∷ codes "INSERT INTO S VALUES (1,10),(2,20),(3,5);"
    ∷ codes "CREATE MATERIALIZED VIEW V ENABLE QUERY REWRITE AS SELECT P.ID, SUM(S.A), COUNT(S.A), COUNT(*) FROM S JOIN P ON S.PID = P.ID GROUP BY P.ID;"
    ∷ codes "SELECT P.CAT, SUM(S.A), AVG(S.A) FROM S JOIN P ON S.PID = P.ID GROUP BY P.CAT;"
    ∷ codes "CREATE MATERIALIZED VIEW W ENABLE QUERY REWRITE AS SELECT PID, SUM(A) FROM S GROUP BY PID;"
    ∷ codes "SELECT P.CAT, SUM(S.A) FROM S JOIN P ON S.PID = P.ID WHERE P.CAT <> 'Y' GROUP BY P.CAT;"
    ∷ codes "@end"
    ∷ []))
    ≡ Ok (lines_text (
    codes "0.1 DONE SCN 1 READ 0"
    ∷ codes "0.2 DONE SCN 2 READ 0"
    ∷ codes "0.3 COMMITTED SCN 3 ROWS 3 READ 0 VIEWS 0"
    ∷ codes "0.4 COMMITTED SCN 4 ROWS 3 READ 0 VIEWS 0"
    ∷ codes "0.5 DONE SCN 4 READ 6"
    ∷ codes "0.6 ANSWER SCN 4 PLAN JOINBACK V@4 P READ 3 ROWS 2"
    ∷ codes "X|15|15/2"
    ∷ codes "Y|20|20/1"
    ∷ codes "0.7 DONE SCN 4 READ 3"
    ∷ codes "0.8 ANSWER SCN 4 PLAN JOINBACK V@4 P READ 3 ROWS 1"
    ∷ codes "X|15"
    ∷ codes "journal 0.1.1 0.2.1 0.3.1 0.4.1 0.5.1 0.6.1 0.7.1 0.8.1"
    ∷ []))
unfolding digits utf8_valid_len is_utf8 chars lib.Utf8.encode tokens_of front_of
by_a_key = refl
