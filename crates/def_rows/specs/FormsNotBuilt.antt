-- What the program runs so far of a script, and what it doesn't run yet: NotBuilt on the line of the first such form, behind
-- every fault that comes before it or stands on its place.
use Rattle.std.specs.Prelude.{Err, List, Ok, Result, [], codes, false, map, refl, replicate, ◌∷◌, ◌≡◌, ℕ}
use Rattle.def_built.specs.Form.{built_script}
use Rattle.def_grammar.specs.Script.{Outcome}
use Rattle.def_rows.specs.Lines.{chars, digits, front_of, is_utf8, lines_text, next_record, strip_bom, tokens_of, utf8_valid_len}
use Rattle.wh_base.specs.declared.statements.BadScript.{BadScript}
use Rattle.wh_base.specs.declared.statements.ScriptKind.TheVariants.{NoEnd, NotBuilt, OpenBlock, OpenStatement, OrderTooLong, Syntax}

-- the place behind the end, or the fault
abbrev place_or_fault : Outcome → Result ℕ BadScript
place_or_fault (Ok p) = Ok p.1
place_or_fault (Err e) = Err e

abbrev built : List ℕ → Result ℕ BadScript
built bytes = place_or_fault (built_script bytes false)

-- of each line behind `@setup`, without an end
abbrev built_alone : List (List ℕ) → List (Result ℕ BadScript)
built_alone lines = map (λ line. built (lines_text (codes "@setup" ∷ line ∷ []))) lines

pub setup_alone : built (lines_text (codes "@setup" ∷ codes "@end" ∷ [])) ≡ Ok 12
unfolding built_script digits utf8_valid_len is_utf8 chars lib.Utf8.encode tokens_of front_of next_record strip_bom
setup_alone = refl

pub session : built (lines_text (codes "@setup" ∷ codes "@session 1" ∷ codes "@end" ∷ [])) ≡ Ok 23
unfolding built_script digits utf8_valid_len is_utf8 chars lib.Utf8.encode tokens_of front_of next_record strip_bom
session = refl

-- several tables with keys, rows by a list of columns, a block, a star query, a view with its complete refresh, and an order
pub all_forms :
    built (lines_text (
    codes "@setup"
    ∷ codes "CREATE TABLE D (P NUMBER PRIMARY KEY, G VARCHAR2(9) UNIQUE);"
    ∷ codes "CREATE TABLE S (P NUMBER NOT NULL REFERENCES D, A NUMBER);"
    ∷ codes "INSERT INTO S (A, P) VALUES (1, 7);"
    ∷ codes "BEGIN;"
    ∷ codes "UPDATE S SET A = A + 1 WHERE P = 7;"
    ∷ codes "DELETE FROM D;"
    ∷ codes "COMMIT;"
    ∷ codes "CREATE MATERIALIZED VIEW V REFRESH COMPLETE AS SELECT P, SUM(A) FROM S GROUP BY P;"
    ∷ codes "@session 3"
    ∷ codes "SELECT D.G, AVG(S.A) AS M FROM S JOIN D ON S.P = D.P WHERE S.A > 0 GROUP BY D.G HAVING COUNT(*) > 1 ORDER BY M DESC;"
    ∷ codes "@session 5"
    ∷ codes "EXEC DBMS_MVIEW.REFRESH('V', 'c');"
    ∷ codes "SHOW VIEW V;"
    ∷ codes "@order 5 3 5 5"
    ∷ codes "@end"
    ∷ []))
    ≡ Ok 519
unfolding built_script digits utf8_valid_len is_utf8 chars lib.Utf8.encode tokens_of front_of next_record strip_bom
all_forms = refl

-- a line that is built has no fault before the end that isn't there
pub parts_built :
    built_alone (
    codes "CREATE TABLE T (A NUMBER(99) NOT NULL, A VARCHAR2(0));"
    ∷ codes "CREATE TABLE T (A NUMBER PRIMARY KEY, B NUMBER CONSTRAINT K UNIQUE REFERENCES T (A));"
    ∷ codes "CREATE TABLE T (A NUMBER, PRIMARY KEY (A), CONSTRAINT K UNIQUE (B));"
    ∷ codes "CREATE TABLE T (A NUMBER REFERENCES U RELY DISABLE NOVALIDATE, FOREIGN KEY (A) REFERENCES U (B) ENABLE VALIDATE);"
    ∷ codes "SELECT A FROM T;"
    ∷ codes "INSERT INTO T VALUES (1);"
    ∷ codes "UPDATE T SET A = 1;"
    ∷ codes "DELETE FROM T WHERE A IS NULL;"
    ∷ codes "BEGIN; COMMIT;"
    ∷ codes "BEGIN; INSERT INTO T VALUES (1); UPDATE T SET A = 2; DELETE FROM T; SELECT A FROM T; COMMIT;"
    ∷ codes "CREATE MATERIALIZED VIEW V REFRESH FORCE AS SELECT A FROM T;"
    ∷ codes "ALTER MATERIALIZED VIEW V ENABLE QUERY REWRITE;"
    ∷ codes "DROP MATERIALIZED VIEW V;"
    ∷ codes "UNREGISTER MATERIALIZED VIEW V;"
    ∷ [])
    ≡ replicate 14 (Err (record { line = 2; kind = NoEnd }))
unfolding built_script digits utf8_valid_len is_utf8 chars lib.Utf8.encode tokens_of front_of next_record strip_bom
parts_built = refl

-- parts of forms of which other parts are built
pub parts_not_built :
    built_alone (
    codes "CREATE TABLE T (A NUMBER) PARTITION BY RANGE (A) (PARTITION P VALUES LESS THAN (9));"
    ∷ codes "CREATE TABLE T (A NUMBER) PARTITION BY RANGE (A) (PARTITION P VALUES LESS THAN (9)) ENABLE ROW MOVEMENT;"
    ∷ codes "SELECT A FROM T AS OF SCN 1;"
    ∷ codes "CREATE MATERIALIZED VIEW V REFRESH FAST AS SELECT A FROM T;"
    ∷ codes "CREATE MATERIALIZED VIEW V REFRESH COMPLETE ON COMMIT AS SELECT A FROM T;"
    ∷ codes "EXEC DBMS_MVIEW.REFRESH('V');"
    ∷ codes "EXEC DBMS_MVIEW.REFRESH('V', '?');"
    ∷ codes "EXEC DBMS_MVIEW.REFRESH('V,W', 'C');"
    ∷ codes "SHOW LOG T;"
    ∷ [])
    ≡ replicate 9 (Err (record { line = 2; kind = NotBuilt }))
unfolding built_script digits utf8_valid_len is_utf8 chars lib.Utf8.encode tokens_of front_of next_record strip_bom
parts_not_built = refl

-- forms of which nothing is built
pub forms_not_built :
    built_alone (
    codes "ALTER TABLE T DROP PARTITION P;"
    ∷ codes "ALTER TABLE T SPLIT PARTITION P AT (5) INTO (PARTITION Q, PARTITION R);"
    ∷ codes "ALTER TABLE T MERGE PARTITIONS P, Q INTO PARTITION R;"
    ∷ codes "ALTER TABLE T DISABLE ROW MOVEMENT;"
    ∷ codes "DROP MATERIALIZED VIEW LOG ON T;"
    ∷ codes "DROP DIMENSION D;"
    ∷ codes "PURGE UNDO TO SCN 1;"
    ∷ codes "EXPLAIN REWRITE SELECT A FROM T;"
    ∷ codes "SET TRANSACTION READ ONLY;"
    ∷ [])
    ≡ replicate 9 (Err (record { line = 2; kind = NotBuilt }))
unfolding built_script digits utf8_valid_len is_utf8 chars lib.Utf8.encode tokens_of front_of next_record strip_bom
forms_not_built = refl

-- dates run: columns of that kind, and literals
pub dates_built :
    built_alone (
    codes "CREATE TABLE T (A NUMBER, D DATE);"
    ∷ codes "INSERT INTO T VALUES (1, DATE '2024-02-29');"
    ∷ codes "UPDATE T SET D = DATE '2024-02-29';"
    ∷ codes "UPDATE T SET A = 1 WHERE D = DATE '2024-02-29';"
    ∷ codes "DELETE FROM T WHERE D IN ('', DATE '2024-02-29');"
    ∷ codes "SELECT A FROM T WHERE D BETWEEN DATE '2024-02-29' AND '';"
    ∷ codes "SELECT A FROM T GROUP BY A HAVING MIN(D) = DATE '2024-02-29';"
    ∷ codes "CREATE MATERIALIZED VIEW V AS SELECT A FROM T WHERE D = DATE '2024-02-29';"
    ∷ codes "BEGIN; INSERT INTO T VALUES (1, DATE '2024-02-29'); COMMIT;"
    ∷ [])
    ≡ replicate 9 (Err (record { line = 2; kind = NoEnd }))
unfolding built_script digits utf8_valid_len is_utf8 chars lib.Utf8.encode tokens_of front_of next_record strip_bom
dates_built = refl

-- a refresh has two parts, and all else one
pub order_too_long :
    built (lines_text (
    codes "@session 1"
    ∷ codes "EXEC DBMS_MVIEW.REFRESH('V', 'C');"
    ∷ codes "@order 1 1 1"
    ∷ []))
    ≡ Err (record { line = 3; kind = OrderTooLong })
unfolding built_script digits utf8_valid_len is_utf8 chars lib.Utf8.encode tokens_of front_of next_record strip_bom
order_too_long = refl

-- a LOAD block
pub load :
    built (lines_text (
    codes "@setup"
    ∷ codes "CREATE TABLE T (A NUMBER);"
    ∷ codes "@load T"
    ∷ codes "1"
    ∷ codes "@endload"
    ∷ codes "@end"
    ∷ []))
    ≡ Ok 58
unfolding built_script digits utf8_valid_len is_utf8 chars lib.Utf8.encode tokens_of front_of next_record strip_bom
load = refl

-- a block that isn't closed is told on the line of its BEGIN, where its section ends
pub open_block :
    built (lines_text (
    codes "@setup"
    ∷ codes "CREATE TABLE T (A NUMBER);"
    ∷ codes "BEGIN;"
    ∷ codes "INSERT INTO T VALUES (1);"
    ∷ codes "@end"
    ∷ []))
    ≡ Err (record { line = 3; kind = OpenBlock })
unfolding built_script digits utf8_valid_len is_utf8 chars lib.Utf8.encode tokens_of front_of next_record strip_bom
open_block = refl

-- the earlier place is told
pub before_a_fault :
    built (lines_text (
    codes "@setup"
    ∷ codes "CREATE TABLE T (A NUMBER);"
    ∷ codes "DROP DIMENSION D;"
    ∷ codes "SELECT ?;"
    ∷ codes "SELECT FROM;"
    ∷ []))
    ≡ Err (record { line = 3; kind = NotBuilt })
unfolding built_script digits utf8_valid_len is_utf8 chars lib.Utf8.encode tokens_of front_of next_record strip_bom
before_a_fault = refl

pub behind_a_fault :
    built (lines_text (
    codes "@setup"
    ∷ codes "CREATE TABLE T (A NUMBER);"
    ∷ codes "SELECT FROM;"
    ∷ codes "DROP DIMENSION D;"
    ∷ []))
    ≡ Err (record { line = 3; kind = Syntax })
unfolding built_script digits utf8_valid_len is_utf8 chars lib.Utf8.encode tokens_of front_of next_record strip_bom
behind_a_fault = refl

-- a statement that isn't closed isn't asked for its form
pub open_statement :
    built (lines_text (codes "@setup" ∷ codes "DROP DIMENSION D" ∷ codes "@session 1" ∷ [])) ≡ Err (record { line = 2; kind = OpenStatement })
unfolding built_script digits utf8_valid_len is_utf8 chars lib.Utf8.encode tokens_of front_of next_record strip_bom
open_statement = refl

-- row movement stands behind partitions alone, and a bound of SPLIT is a literal
pub not_in_the_grammar :
    built_alone (
    codes "CREATE TABLE T (A NUMBER) ENABLE ROW MOVEMENT;"
    ∷ codes "CREATE TABLE T (A NUMBER) PARTITION BY RANGE (A) (PARTITION P VALUES LESS THAN (9)) DISABLE ROW MOVEMENT;"
    ∷ codes "ALTER TABLE T SPLIT PARTITION P AT (MAXVALUE) INTO (PARTITION Q, PARTITION R);"
    ∷ codes "ALTER TABLE T SPLIT PARTITION P AT 5 INTO (PARTITION Q, PARTITION R);"
    ∷ codes "ALTER TABLE T MERGE PARTITIONS P INTO PARTITION R;"
    ∷ [])
    ≡ replicate 5 (Err (record { line = 2; kind = Syntax }))
unfolding built_script digits utf8_valid_len is_utf8 chars lib.Utf8.encode tokens_of front_of next_record strip_bom
not_in_the_grammar = refl

-- a view over a view is told where both are there, in whatever order they stand
pub view_over_a_view :
    built (lines_text (
    codes "@setup"
    ∷ codes "CREATE MATERIALIZED VIEW V AS SELECT A, SUM(B) C FROM T GROUP BY A;"
    ∷ codes "CREATE MATERIALIZED VIEW W AS SELECT A, SUM(B) C FROM T GROUP BY A;"
    ∷ codes "CREATE MATERIALIZED VIEW N AS SELECT A, SUM(C) FROM V X GROUP BY A;"
    ∷ codes "CREATE MATERIALIZED VIEW N AS SELECT A, SUM(C) FROM V GROUP BY A;"
    ∷ []))
    ≡ Err (record { line = 5; kind = NotBuilt })
unfolding built_script digits utf8_valid_len is_utf8 chars lib.Utf8.encode tokens_of front_of next_record strip_bom
view_over_a_view = refl

pub view_beneath_created_behind :
    built (lines_text (
    codes "@session 1"
    ∷ codes "CREATE MATERIALIZED VIEW N AS SELECT A, SUM(C) FROM V GROUP BY A;"
    ∷ codes "@session 2"
    ∷ codes "CREATE MATERIALIZED VIEW V AS SELECT A, SUM(B) C FROM T GROUP BY A;"
    ∷ []))
    ≡ Err (record { line = 4; kind = NotBuilt })
unfolding built_script digits utf8_valid_len is_utf8 chars lib.Utf8.encode tokens_of front_of next_record strip_bom
view_beneath_created_behind = refl

-- jobs
pub workers :
    built (lines_text (codes "@setup" ∷ codes "@workers 2" ∷ [])) ≡ Err (record { line = 2; kind = NotBuilt })
unfolding built_script digits utf8_valid_len is_utf8 chars lib.Utf8.encode tokens_of front_of next_record strip_bom
workers = refl

pub submit :
    built (lines_text (codes "@session 1" ∷ codes "SUBMIT EXEC DBMS_MVIEW.REFRESH('V', 'C');" ∷ [])) ≡ Err (record { line = 2; kind = NotBuilt })
unfolding built_script digits utf8_valid_len is_utf8 chars lib.Utf8.encode tokens_of front_of next_record strip_bom
submit = refl
