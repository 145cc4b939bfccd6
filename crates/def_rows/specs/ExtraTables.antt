use Rattle.std.specs.Prelude.{Ok, [], codes, refl, ◌∷◌, ◌≡◌}
use Rattle.def_rows.specs.Lines.{chars, digits, front_of, is_utf8, lines_text, tokens_of, utf8_valid_len}
use Rattle.def_rows.specs.WholeChoice.{whole_output}

-- A table of the view alone does no harm where the join to it loses no row: over a NOT NULL column with an enabled foreign key.
pub join_loses_nothing :
    whole_output (lines_text (
    codes "@setup"
    ∷ codes "CREATE TABLE P (ID NUMBER PRIMARY KEY, CAT VARCHAR2(4));"
    ∷ codes "CREATE TABLE S (PID NUMBER NOT NULL REFERENCES P (ID), A NUMBER);"
    ∷ codes "INSERT INTO P VALUES (1,'X');"
    ∷ codes "INSERT INTO S VALUES (1,10);"
    ∷ codes "CREATE MATERIALIZED VIEW V ENABLE QUERY REWRITE AS SELECT S.PID, P.CAT, SUM(S.A), COUNT(*) FROM S JOIN P ON S.PID = P.ID GROUP BY S.PID, P.CAT;"
    ∷ codes "SELECT PID, SUM(A) FROM S GROUP BY PID;"
    ∷ codes "EXPLAIN REWRITE SELECT PID, SUM(A) FROM S GROUP BY PID;"
    ∷ codes "@end"
    ∷ []))
    ≡ Ok (lines_text (
    codes "0.1 DONE SCN 1 READ 0"
    ∷ codes "0.2 DONE SCN 2 READ 0"
    ∷ codes "0.3 COMMITTED SCN 3 ROWS 1 READ 0 VIEWS 0"
    ∷ codes "0.4 COMMITTED SCN 4 ROWS 1 READ 0 VIEWS 0"
    ∷ codes "0.5 DONE SCN 4 READ 2"
    ∷ codes "0.6 ANSWER SCN 4 PLAN GENERAL V@4 READ 0 ROWS 1"
    ∷ codes "1|10"
    ∷ codes "0.7 REWRITE SCN 4 PLAN GENERAL V@4 READ 0 ROWS 1"
    ∷ codes "V|GENERAL"
    ∷ codes "journal 0.1.1 0.2.1 0.3.1 0.4.1 0.5.1 0.6.1 0.7.1"
    ∷ []))
unfolding digits utf8_valid_len is_utf8 chars lib.Utf8.encode tokens_of front_of
join_loses_nothing = refl

-- Over a column that may be NULL the join might lose rows: E4 fails.
pub nullable_column :
    whole_output (lines_text (
    codes "@setup"
    ∷ codes "CREATE TABLE P (ID NUMBER PRIMARY KEY, CAT VARCHAR2(4));"
    ∷ codes "CREATE TABLE S (PID NUMBER REFERENCES P (ID), A NUMBER);"
    ∷ codes "INSERT INTO P VALUES (1,'X');"
    ∷ codes "INSERT INTO S VALUES (1,10);"
    ∷ codes "CREATE MATERIALIZED VIEW V ENABLE QUERY REWRITE AS SELECT S.PID, P.CAT, SUM(S.A), COUNT(*) FROM S JOIN P ON S.PID = P.ID GROUP BY S.PID, P.CAT;"
    ∷ codes "SELECT PID, SUM(A) FROM S GROUP BY PID;"
    ∷ codes "EXPLAIN REWRITE SELECT PID, SUM(A) FROM S GROUP BY PID;"
    ∷ codes "ALTER SESSION SET QUERY_REWRITE_INTEGRITY = TRUSTED;"
    ∷ codes "SELECT PID, SUM(A) FROM S GROUP BY PID;"
    ∷ codes "@end"
    ∷ []))
    ≡ Ok (lines_text (
    codes "0.1 DONE SCN 1 READ 0"
    ∷ codes "0.2 DONE SCN 2 READ 0"
    ∷ codes "0.3 COMMITTED SCN 3 ROWS 1 READ 0 VIEWS 0"
    ∷ codes "0.4 COMMITTED SCN 4 ROWS 1 READ 0 VIEWS 0"
    ∷ codes "0.5 DONE SCN 4 READ 2"
    ∷ codes "0.6 ANSWER SCN 4 PLAN BASE READ 1 ROWS 1"
    ∷ codes "1|10"
    ∷ codes "0.7 REWRITE SCN 4 PLAN BASE READ 0 ROWS 1"
    ∷ codes "V|E4"
    ∷ codes "0.8 DONE SCN 4 READ 0"
    ∷ codes "0.9 ANSWER SCN 4 PLAN BASE READ 1 ROWS 1"
    ∷ codes "1|10"
    ∷ codes "journal 0.1.1 0.2.1 0.3.1 0.4.1 0.5.1 0.6.1 0.7.1 0.8.1 0.9.1"
    ∷ []))
unfolding digits utf8_valid_len is_utf8 chars lib.Utf8.encode tokens_of front_of
nullable_column = refl

-- A foreign key that is RELY counts under TRUSTED alone.
pub relied_on :
    whole_output (lines_text (
    codes "@setup"
    ∷ codes "CREATE TABLE P (ID NUMBER PRIMARY KEY, CAT VARCHAR2(4));"
    ∷ codes "CREATE TABLE S (PID NUMBER NOT NULL REFERENCES P (ID) RELY DISABLE NOVALIDATE, A NUMBER);"
    ∷ codes "INSERT INTO P VALUES (1,'X');"
    ∷ codes "INSERT INTO S VALUES (1,10);"
    ∷ codes "CREATE MATERIALIZED VIEW V ENABLE QUERY REWRITE AS SELECT S.PID, P.CAT, SUM(S.A), COUNT(*) FROM S JOIN P ON S.PID = P.ID GROUP BY S.PID, P.CAT;"
    ∷ codes "SELECT PID, SUM(A) FROM S GROUP BY PID;"
    ∷ codes "EXPLAIN REWRITE SELECT PID, SUM(A) FROM S GROUP BY PID;"
    ∷ codes "ALTER SESSION SET QUERY_REWRITE_INTEGRITY = TRUSTED;"
    ∷ codes "SELECT PID, SUM(A) FROM S GROUP BY PID;"
    ∷ codes "EXPLAIN REWRITE SELECT PID, SUM(A) FROM S GROUP BY PID;"
    ∷ codes "@end"
    ∷ []))
    ≡ Ok (lines_text (
    codes "0.1 DONE SCN 1 READ 0"
    ∷ codes "0.2 DONE SCN 2 READ 0"
    ∷ codes "0.3 COMMITTED SCN 3 ROWS 1 READ 0 VIEWS 0"
    ∷ codes "0.4 COMMITTED SCN 4 ROWS 1 READ 0 VIEWS 0"
    ∷ codes "0.5 DONE SCN 4 READ 2"
    ∷ codes "0.6 ANSWER SCN 4 PLAN BASE READ 1 ROWS 1"
    ∷ codes "1|10"
    ∷ codes "0.7 REWRITE SCN 4 PLAN BASE READ 0 ROWS 1"
    ∷ codes "V|E4"
    ∷ codes "0.8 DONE SCN 4 READ 0"
    ∷ codes "0.9 ANSWER SCN 4 PLAN GENERAL V@4 READ 0 ROWS 1"
    ∷ codes "1|10"
    ∷ codes "0.10 REWRITE SCN 4 PLAN GENERAL V@4 READ 0 ROWS 1"
    ∷ codes "V|GENERAL"
    ∷ codes "journal 0.1.1 0.2.1 0.3.1 0.4.1 0.5.1 0.6.1 0.7.1 0.8.1 0.9.1 0.10.1"
    ∷ []))
unfolding digits utf8_valid_len is_utf8 chars lib.Utf8.encode tokens_of front_of
relied_on = refl
