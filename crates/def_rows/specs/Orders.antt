-- Orders of refusals and of the faults of scripts, each tried on one script.
use Rattle.std.specs.Prelude.{◌≡◌, [], ◌∷◌, Err, Ok, codes, refl}
use Rattle.std.specs.Fmt.{digits}
use Rattle.std.specs.Str.{is_utf8, chars}
use Rattle.std.specs.Str.Lossy.{utf8_valid_len}
use Rattle.csv.specs.Machine.{next_record}
use Rattle.csv.specs.Reading.{strip_bom}
use Rattle.wh_lex.specs.Lex.{tokens_of}
use Rattle.wh_lex.specs.Tokens.{front_of}
use Rattle.def_transcript.specs.Texts.{lines_text}
use Rattle.def_output.specs.Output.{output, Ordering}
use Rattle.wh_base.specs.declared.values.Version.TheVariants.{Two}
use Rattle.wh_base.specs.declared.statements.ScriptKind.TheVariants as kinds

-- CREATE TABLE: columns, keys, foreign keys, element by element
pub tables : output (Ordering Two) (lines_text (
    codes "@setup"
    ∷ codes "CREATE TABLE T (A NUMBER, A NUMBER);"
    ∷ codes "CREATE TABLE T (A NUMBER(16), A NUMBER);"
    ∷ codes "CREATE TABLE T (A NUMBER PRIMARY KEY, B NUMBER UNIQUE, PRIMARY KEY (B));"
    ∷ codes "CREATE TABLE T (A NUMBER UNIQUE, UNIQUE (A));"
    ∷ codes "CREATE TABLE T (A NUMBER, UNIQUE (C), FOREIGN KEY (X) REFERENCES Q);"
    ∷ codes "CREATE TABLE T (A NUMBER, FOREIGN KEY (X) REFERENCES Q);"
    ∷ codes "CREATE TABLE T (A NUMBER REFERENCES Q);"
    ∷ codes "CREATE TABLE T (A NUMBER REFERENCES T);"
    ∷ codes "CREATE TABLE P (I NUMBER PRIMARY KEY, V VARCHAR2(3) UNIQUE, W NUMBER);"
    ∷ codes "CREATE TABLE T (A VARCHAR2(3) REFERENCES P);"
    ∷ codes "CREATE TABLE T (A NUMBER REFERENCES P (W));"
    ∷ codes "CREATE TABLE T (A NUMBER REFERENCES P (ZZ));"
    ∷ codes "@end"
    ∷ []))
    ≡ Ok (lines_text (
    codes "mviewdb 2"
    ∷ codes "0.1 REFUSED MV-01 A READ 0"
    ∷ codes "0.2 REFUSED MV-04 T A READ 0"
    ∷ codes "0.3 REFUSED MV-01 B READ 0"
    ∷ codes "0.4 REFUSED MV-01 A READ 0"
    ∷ codes "0.5 REFUSED MV-03 C READ 0"
    ∷ codes "0.6 REFUSED MV-03 X READ 0"
    ∷ codes "0.7 REFUSED MV-02 Q READ 0"
    ∷ codes "0.8 REFUSED MV-02 T READ 0"
    ∷ codes "0.9 DONE SCN 1 READ 0"
    ∷ codes "0.10 REFUSED MV-27 T A READ 0"
    ∷ codes "0.11 REFUSED MV-27 T A READ 0"
    ∷ codes "0.12 REFUSED MV-27 T A READ 0"
    ∷ codes "journal 0.1.1 0.2.1 0.3.1 0.4.1 0.5.1 0.6.1 0.7.1 0.8.1 0.9.1 0.10.1 0.11.1 0.12.1"
    ∷ []))
unfolding digits utf8_valid_len is_utf8 chars lib.Utf8.encode next_record strip_bom tokens_of front_of
tables = refl

-- partitions of CREATE TABLE and ALTER TABLE, and the number of a partition that was added
pub partitions : output (Ordering Two) (lines_text (
    codes "@setup"
    ∷ codes "CREATE TABLE T (A NUMBER) PARTITION BY RANGE (B) (PARTITION P1 VALUES LESS THAN (1));"
    ∷ codes "CREATE TABLE T (A NUMBER) PARTITION BY RANGE (A) (PARTITION P1 VALUES LESS THAN (1), PARTITION P1 VALUES LESS THAN (0));"
    ∷ codes "CREATE TABLE T (A NUMBER) PARTITION BY RANGE (A) (PARTITION P1 VALUES LESS THAN ('x'));"
    ∷ codes "CREATE TABLE T (A NUMBER) PARTITION BY RANGE (A) (PARTITION P1 VALUES LESS THAN (''));"
    ∷ codes "CREATE TABLE T (A NUMBER) PARTITION BY RANGE (A) (PARTITION P1 VALUES LESS THAN (5), PARTITION P2 VALUES LESS THAN (5));"
    ∷ codes "CREATE TABLE T (A NUMBER) PARTITION BY RANGE (A) (PARTITION P1 VALUES LESS THAN (MAXVALUE), PARTITION P2 VALUES LESS THAN (5));"
    ∷ codes "CREATE TABLE T (A NUMBER) PARTITION BY RANGE (A) (PARTITION P1 VALUES LESS THAN (5), PARTITION P2 VALUES LESS THAN (MAXVALUE));"
    ∷ codes "ALTER TABLE T ADD PARTITION P1 VALUES LESS THAN ('x');"
    ∷ codes "ALTER TABLE T ADD PARTITION P3 VALUES LESS THAN ('x');"
    ∷ codes "ALTER TABLE T ADD PARTITION P3 VALUES LESS THAN (9);"
    ∷ codes "ALTER TABLE T DROP PARTITION P9;"
    ∷ codes "ALTER TABLE T DROP PARTITION P2;"
    ∷ codes "INSERT INTO T VALUES (5);"
    ∷ codes "ALTER TABLE T ADD PARTITION P3 VALUES LESS THAN (9);"
    ∷ codes "INSERT INTO T VALUES (5);"
    ∷ codes "SELECT DBMS_MVIEW.PMARKER(ROWID) FROM T;"
    ∷ codes "CREATE TABLE P (A NUMBER);"
    ∷ codes "ALTER TABLE P ADD PARTITION P3 VALUES LESS THAN (9);"
    ∷ codes "ALTER TABLE P DROP PARTITION P3;"
    ∷ codes "@end"
    ∷ []))
    ≡ Ok (lines_text (
    codes "mviewdb 2"
    ∷ codes "0.1 REFUSED MV-03 B READ 0"
    ∷ codes "0.2 REFUSED MV-01 P1 READ 0"
    ∷ codes "0.3 REFUSED MV-04 T A READ 0"
    ∷ codes "0.4 REFUSED MV-04 T A READ 0"
    ∷ codes "0.5 REFUSED MV-11 T P2 READ 0"
    ∷ codes "0.6 REFUSED MV-11 T P2 READ 0"
    ∷ codes "0.7 DONE SCN 1 READ 0"
    ∷ codes "0.8 REFUSED MV-01 P1 READ 0"
    ∷ codes "0.9 REFUSED MV-04 T A READ 0"
    ∷ codes "0.10 REFUSED MV-11 T P3 READ 0"
    ∷ codes "0.11 REFUSED MV-02 P9 READ 0"
    ∷ codes "0.12 DONE SCN 2 READ 0"
    ∷ codes "0.13 REFUSED MV-09 AT 1 T READ 0"
    ∷ codes "0.14 DONE SCN 3 READ 0"
    ∷ codes "0.15 COMMITTED SCN 4 ROWS 1 READ 0 VIEWS 0"
    ∷ codes "0.16 ANSWER SCN 4 PLAN BASE READ 1 ROWS 1"
    ∷ codes "3"
    ∷ codes "0.17 DONE SCN 5 READ 0"
    ∷ codes "0.18 REFUSED MV-11 P P3 READ 0"
    ∷ codes "0.19 REFUSED MV-02 P3 READ 0"
    ∷ codes "journal 0.1.1 0.2.1 0.3.1 0.4.1 0.5.1 0.6.1 0.7.1 0.8.1 0.9.1 0.10.1 0.11.1 0.12.1 0.13.1 0.14.1 0.15.1 0.16.1 0.17.1 0.18.1 0.19.1"
    ∷ []))
unfolding digits utf8_valid_len is_utf8 chars lib.Utf8.encode next_record strip_bom tokens_of front_of
partitions = refl

-- INSERT, UPDATE and DELETE: names, repeats, kinds, sizes; a SET list reads the old values
pub changes : output (Ordering Two) (lines_text (
    codes "@setup"
    ∷ codes "CREATE TABLE U (A NUMBER, B NUMBER, C VARCHAR2(2));"
    ∷ codes "INSERT INTO U VALUES (1,2,'x'),(NULL,3,NULL);"
    ∷ codes "UPDATE U SET A = B + 1, B = A - 1;"
    ∷ codes "SELECT A, B FROM U;"
    ∷ codes "UPDATE U SET A = C + 1;"
    ∷ codes "UPDATE U SET C = 'yyy' WHERE A = 3;"
    ∷ codes "UPDATE U SET A = 1, A = 2 WHERE Z = 1;"
    ∷ codes "UPDATE U SET A = 1, A = 2;"
    ∷ codes "DELETE FROM U WHERE A = B;"
    ∷ codes "DELETE FROM U WHERE A = C;"
    ∷ codes "DELETE FROM U WHERE A = 1000000000000000000;"
    ∷ codes "INSERT INTO U (A, A) VALUES (1);"
    ∷ codes "INSERT INTO U (A, Q, A) VALUES (1);"
    ∷ codes "INSERT INTO U (B, A) VALUES ('x', 1);"
    ∷ codes "@end"
    ∷ []))
    ≡ Ok (lines_text (
    codes "mviewdb 2"
    ∷ codes "0.1 DONE SCN 1 READ 0"
    ∷ codes "0.2 COMMITTED SCN 2 ROWS 2 READ 0 VIEWS 0"
    ∷ codes "0.3 COMMITTED SCN 3 ROWS 2 READ 2 VIEWS 0"
    ∷ codes "0.4 ANSWER SCN 3 PLAN BASE READ 2 ROWS 2"
    ∷ codes "3|0"
    ∷ codes "4|"
    ∷ codes "0.5 REFUSED MV-04 AT 1 U A READ 0"
    ∷ codes "0.6 REFUSED MV-04 AT 1 U C READ 2"
    ∷ codes "0.7 REFUSED MV-03 AT 1 Z READ 0"
    ∷ codes "0.8 REFUSED MV-01 AT 1 A READ 0"
    ∷ codes "0.9 COMMITTED SCN 4 ROWS 0 READ 2 VIEWS 0"
    ∷ codes "0.10 REFUSED MV-04 AT 1 U A READ 0"
    ∷ codes "0.11 COMMITTED SCN 5 ROWS 0 READ 2 VIEWS 0"
    ∷ codes "0.12 REFUSED MV-01 AT 1 A READ 0"
    ∷ codes "0.13 REFUSED MV-03 AT 1 Q READ 0"
    ∷ codes "0.14 REFUSED MV-04 AT 1 U B READ 0"
    ∷ codes "journal 0.1.1 0.2.1 0.3.1 0.4.1 0.5.1 0.6.1 0.7.1 0.8.1 0.9.1 0.10.1 0.11.1 0.12.1 0.13.1 0.14.1"
    ∷ []))
unfolding digits utf8_valid_len is_utf8 chars lib.Utf8.encode next_record strip_bom tokens_of front_of
changes = refl

-- queries: tables, columns, kinds, stars, groups
pub queries : output (Ordering Two) (lines_text (
    codes "@setup"
    ∷ codes "CREATE TABLE P (ID NUMBER PRIMARY KEY, CAT VARCHAR2(4));"
    ∷ codes "CREATE TABLE S (PID NUMBER, A NUMBER);"
    ∷ codes "SELECT X FROM S, Q;"
    ∷ codes "SELECT A FROM S ORDER BY 02;"
    ∷ codes "SELECT A FROM S S1, S S2;"
    ∷ codes "SELECT S.A FROM S S1;"
    ∷ codes "SELECT DBMS_MVIEW.PMARKER(Z.ROWID) FROM S;"
    ∷ codes "SELECT A, X FROM S WHERE Y = 1;"
    ∷ codes "SELECT S1.A FROM S S1, S S2;"
    ∷ codes "SELECT SUM(ID*CAT) FROM P;"
    ∷ codes "SELECT SUM(ROWID) FROM P;"
    ∷ codes "SELECT COUNT(*) FROM P HAVING COUNT(*) = 'x';"
    ∷ codes "SELECT CAT FROM P WHERE ID = 'x';"
    ∷ codes "SELECT CAT FROM P WHERE ID = 1000000000000000;"
    ∷ codes "SELECT CAT FROM P WHERE ID IN (1000000000000000, 'x');"
    ∷ codes "SELECT A FROM S, P WHERE CAT = A;"
    ∷ codes "SELECT A FROM S, P WHERE A > 1 AND PID = A;"
    ∷ codes "SELECT A FROM P, S WHERE ID = PID;"
    ∷ codes "SELECT A, SUM(A) FROM S GROUP BY PID;"
    ∷ codes "SELECT A FROM S ORDER BY PID;"
    ∷ codes "SELECT A X FROM S ORDER BY X;"
    ∷ codes "@end"
    ∷ []))
    ≡ Ok (lines_text (
    codes "mviewdb 2"
    ∷ codes "0.1 DONE SCN 1 READ 0"
    ∷ codes "0.2 DONE SCN 2 READ 0"
    ∷ codes "0.3 REFUSED MV-02 Q READ 0"
    ∷ codes "0.4 REFUSED MV-03 2 READ 0"
    ∷ codes "0.5 REFUSED MV-03 A READ 0"
    ∷ codes "0.6 REFUSED MV-03 S.A READ 0"
    ∷ codes "0.7 REFUSED MV-03 Z.ROWID READ 0"
    ∷ codes "0.8 REFUSED MV-03 X READ 0"
    ∷ codes "0.9 REFUSED MV-17 READ 0"
    ∷ codes "0.10 REFUSED MV-04 P CAT READ 0"
    ∷ codes "0.11 REFUSED MV-04 P ROWID READ 0"
    ∷ codes "0.12 REFUSED MV-04 P - READ 0"
    ∷ codes "0.13 REFUSED MV-04 P ID READ 0"
    ∷ codes "0.14 REFUSED MV-04 P - READ 0"
    ∷ codes "0.15 REFUSED MV-04 P ID READ 0"
    ∷ codes "0.16 REFUSED MV-04 P CAT READ 0"
    ∷ codes "0.17 REFUSED MV-17 READ 0"
    ∷ codes "0.18 ANSWER SCN 2 PLAN BASE READ 0 ROWS 0"
    ∷ codes "0.19 REFUSED MV-18 READ 0"
    ∷ codes "0.20 REFUSED MV-18 READ 0"
    ∷ codes "0.21 ANSWER SCN 2 PLAN BASE READ 0 ROWS 0"
    ∷ codes "journal 0.1.1 0.2.1 0.3.1 0.4.1 0.5.1 0.6.1 0.7.1 0.8.1 0.9.1 0.10.1 0.11.1 0.12.1 0.13.1 0.14.1 0.15.1 0.16.1 0.17.1 0.18.1 0.19.1 0.20.1 0.21.1"
    ∷ []))
unfolding digits utf8_valid_len is_utf8 chars lib.Utf8.encode next_record strip_bom tokens_of front_of
queries = refl

-- CREATE DIMENSION: levels and hierarchies; a JOIN KEY stands in the table of each level below its parent
pub dims : output (Ordering Two) (lines_text (
    codes "@setup"
    ∷ codes "CREATE TABLE TA (A NUMBER, X NUMBER);"
    ∷ codes "CREATE TABLE TB (B NUMBER);"
    ∷ codes "CREATE TABLE TP (P NUMBER, Y NUMBER);"
    ∷ codes "CREATE DIMENSION D LEVEL LA IS TA.A LEVEL LP IS TP.P LEVEL LB IS TB.B HIERARCHY H (LA CHILD OF LP CHILD OF LB CHILD OF LP JOIN KEY TP.Y REFERENCES LB JOIN KEY TA.X REFERENCES LP);"
    ∷ codes "CREATE DIMENSION D LEVEL L IS TA.A LEVEL L IS TA.X;"
    ∷ codes "CREATE DIMENSION D LEVEL L IS TA.Z LEVEL L IS TA.X;"
    ∷ codes "CREATE DIMENSION D LEVEL L IS TA.A LEVEL M IS TP.P HIERARCHY H (L CHILD OF M JOIN KEY TA.X REFERENCES L);"
    ∷ codes "CREATE DIMENSION D LEVEL L IS TA.A LEVEL M IS TP.P HIERARCHY H (L CHILD OF M);"
    ∷ codes "CREATE DIMENSION D LEVEL L IS TA.A LEVEL M IS TP.P HIERARCHY H (L CHILD OF M JOIN KEY TA.X REFERENCES M);"
    ∷ codes "@end"
    ∷ []))
    ≡ Ok (lines_text (
    codes "mviewdb 2"
    ∷ codes "0.1 DONE SCN 1 READ 0"
    ∷ codes "0.2 DONE SCN 2 READ 0"
    ∷ codes "0.3 DONE SCN 3 READ 0"
    ∷ codes "0.4 REFUSED MV-03 TA.X READ 0"
    ∷ codes "0.5 REFUSED MV-01 L READ 0"
    ∷ codes "0.6 REFUSED MV-03 TA.Z READ 0"
    ∷ codes "0.7 REFUSED MV-02 L READ 0"
    ∷ codes "0.8 REFUSED MV-27 TA A READ 0"
    ∷ codes "0.9 DONE SCN 3 READ 0"
    ∷ codes "journal 0.1.1 0.2.1 0.3.1 0.4.1 0.5.1 0.6.1 0.7.1 0.8.1 0.9.1"
    ∷ []))
unfolding digits utf8_valid_len is_utf8 chars lib.Utf8.encode next_record strip_bom tokens_of front_of
dims = refl

-- a semicolon by itself
pub alone : output (Ordering Two) (lines_text (
    codes "@setup"
    ∷ codes "COMMIT;"
    ∷ codes " ;"
    ∷ codes "@end"
    ∷ []))
    ≡ Err (record { line = 3; kind = kinds.Syntax })
unfolding digits utf8_valid_len is_utf8 chars lib.Utf8.encode next_record strip_bom tokens_of front_of
alone = refl

-- a LOAD block inside a statement
pub load_in_open : output (Ordering Two) (lines_text (
    codes "@setup"
    ∷ codes "COMMIT; COMMIT"
    ∷ codes "@load T"
    ∷ codes "@endload"
    ∷ codes "@end"
    ∷ []))
    ≡ Err (record { line = 3; kind = kinds.Misplaced })
unfolding digits utf8_valid_len is_utf8 chars lib.Utf8.encode next_record strip_bom tokens_of front_of
load_in_open = refl

-- a section ends inside a statement
pub open_stmt : output (Ordering Two) (lines_text (
    codes "@setup"
    ∷ codes "COMMIT; COMMIT"
    ∷ codes "@end"
    ∷ []))
    ≡ Err (record { line = 2; kind = kinds.OpenStatement })
unfolding digits utf8_valid_len is_utf8 chars lib.Utf8.encode next_record strip_bom tokens_of front_of
open_stmt = refl

-- an open statement goes before an open block
pub open_first : output (Ordering Two) (lines_text (
    codes "@setup"
    ∷ codes "BEGIN; INSERT INTO T"
    ∷ codes "@end"
    ∷ []))
    ≡ Err (record { line = 2; kind = kinds.OpenStatement })
unfolding digits utf8_valid_len is_utf8 chars lib.Utf8.encode next_record strip_bom tokens_of front_of
open_first = refl

-- BEGIN inside a block
pub nested : output (Ordering Two) (lines_text (
    codes "@setup"
    ∷ codes "BEGIN; BEGIN;"
    ∷ codes "@end"
    ∷ []))
    ≡ Err (record { line = 2; kind = kinds.Misplaced })
unfolding digits utf8_valid_len is_utf8 chars lib.Utf8.encode next_record strip_bom tokens_of front_of
nested = refl

-- an open statement goes before a bad session number
pub open_before_number : output (Ordering Two) (lines_text (
    codes "@setup"
    ∷ codes "COMMIT"
    ∷ codes "@session x"
    ∷ codes "@end"
    ∷ []))
    ≡ Err (record { line = 2; kind = kinds.OpenStatement })
unfolding digits utf8_valid_len is_utf8 chars lib.Utf8.encode next_record strip_bom tokens_of front_of
open_before_number = refl

-- a bad directive inside a statement is told by its own line
pub told_by_own_line : output (Ordering Two) (lines_text (
    codes "@setup"
    ∷ codes "COMMIT"
    ∷ codes "@sesion 1"
    ∷ codes "@end"
    ∷ []))
    ≡ Err (record { line = 3; kind = kinds.UnknownDirective })
unfolding digits utf8_valid_len is_utf8 chars lib.Utf8.encode next_record strip_bom tokens_of front_of
told_by_own_line = refl

-- text after @order stands in no section
pub after_order : output (Ordering Two) (lines_text (
    codes "@setup"
    ∷ codes "@order"
    ∷ codes "SELECT"
    ∷ codes "@end"
    ∷ []))
    ≡ Err (record { line = 3; kind = kinds.Misplaced })
unfolding digits utf8_valid_len is_utf8 chars lib.Utf8.encode next_record strip_bom tokens_of front_of
after_order = refl

-- records with different numbers of fields
pub shape : output (Ordering Two) (lines_text (
    codes "@setup"
    ∷ codes "@load T"
    ∷ codes "1,2"
    ∷ codes "1"
    ∷ codes "@endload"
    ∷ codes "@end"
    ∷ []))
    ≡ Err (record { line = 2; kind = kinds.LoadShape })
unfolding digits utf8_valid_len is_utf8 chars lib.Utf8.encode next_record strip_bom tokens_of front_of
shape = refl

-- a LOAD of a word that is no name
pub load_word : output (Ordering Two) (lines_text (
    codes "@setup"
    ∷ codes "@load SELECT"
    ∷ codes "@endload"
    ∷ codes "@end"
    ∷ []))
    ≡ Err (record { line = 2; kind = kinds.UnknownDirective })
unfolding digits utf8_valid_len is_utf8 chars lib.Utf8.encode next_record strip_bom tokens_of front_of
load_word = refl
