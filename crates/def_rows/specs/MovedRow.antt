use Rattle.std.specs.Prelude.{Ok, [], codes, refl, ◌∷◌, ◌≡◌}
use Rattle.def_rows.specs.Lines.{chars, digits, front_of, is_utf8, lines_text, tokens_of, utf8_valid_len}
use Rattle.def_rows.specs.WholeChoice.{whole_output}

-- A view that is stale in part, and whose tracked table would be joined back. The row of ID 1 had day 7 and has day 1 now. The plan over the
-- view would take the row for DAY >= 3 by the key that the view has, and for DAY < 6 by the key that it has now; the query means no row. So E8 fails.
pub moved_row :
    whole_output (lines_text (
    codes "@setup"
    ∷ codes "CREATE TABLE DIM (DAY NUMBER(9) PRIMARY KEY);"
    ∷ codes "CREATE TABLE FACT (ID NUMBER(9) PRIMARY KEY, DAY NUMBER(9) NOT NULL REFERENCES DIM (DAY), AMOUNT NUMBER(9)) PARTITION BY RANGE (DAY) (PARTITION P1 VALUES LESS THAN (3), PARTITION P2 VALUES LESS THAN (6), PARTITION P3 VALUES LESS THAN (9));"
    ∷ codes "INSERT INTO DIM VALUES (1),(7);"
    ∷ codes "INSERT INTO FACT VALUES (1,7,50);"
    ∷ codes "CREATE MATERIALIZED VIEW V ENABLE QUERY REWRITE AS SELECT ID, DAY FROM FACT;"
    ∷ codes "EXPLAIN REWRITE SELECT FACT.ID, FACT.AMOUNT FROM FACT JOIN DIM ON FACT.DAY = DIM.DAY WHERE FACT.DAY >= 3 AND DIM.DAY < 6;"
    ∷ codes "DELETE FROM FACT WHERE ID = 1;"
    ∷ codes "INSERT INTO FACT VALUES (1,1,50);"
    ∷ codes "EXPLAIN REWRITE SELECT FACT.ID, FACT.AMOUNT FROM FACT JOIN DIM ON FACT.DAY = DIM.DAY WHERE FACT.DAY >= 3 AND DIM.DAY < 6;"
    ∷ codes "SELECT FACT.ID, FACT.AMOUNT FROM FACT JOIN DIM ON FACT.DAY = DIM.DAY WHERE FACT.DAY >= 3 AND DIM.DAY < 6;"
    ∷ codes "EXPLAIN REWRITE SELECT ID FROM FACT WHERE DAY >= 3 AND DAY < 6;"
    ∷ codes "@end"
    ∷ []))
    ≡ Ok (lines_text (
    codes "0.1 DONE SCN 1 READ 0"
    ∷ codes "0.2 DONE SCN 2 READ 0"
    ∷ codes "0.3 COMMITTED SCN 3 ROWS 2 READ 0 VIEWS 0"
    ∷ codes "0.4 COMMITTED SCN 4 ROWS 1 READ 0 VIEWS 0"
    ∷ codes "0.5 DONE SCN 4 READ 1"
    ∷ codes "0.6 REWRITE SCN 4 PLAN JOINBACK V@4 FACT,DIM READ 0 ROWS 1"
    ∷ codes "V|JOINBACK"
    ∷ codes "0.7 COMMITTED SCN 5 ROWS 1 READ 1 VIEWS 0"
    ∷ codes "0.8 COMMITTED SCN 6 ROWS 1 READ 0 VIEWS 0"
    ∷ codes "0.9 REWRITE SCN 6 PLAN BASE READ 0 ROWS 1"
    ∷ codes "V|E8"
    ∷ codes "0.10 ANSWER SCN 6 PLAN BASE READ 2 ROWS 0"
    ∷ codes "0.11 REWRITE SCN 6 PLAN GENERAL V@4 READ 0 ROWS 1"
    ∷ codes "V|GENERAL"
    ∷ codes "journal 0.1.1 0.2.1 0.3.1 0.4.1 0.5.1 0.6.1 0.7.1 0.8.1 0.9.1 0.10.1 0.11.1"
    ∷ []))
unfolding digits utf8_valid_len is_utf8 chars lib.Utf8.encode tokens_of front_of
moved_row = refl
