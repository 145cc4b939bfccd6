use Rattle.std.specs.Prelude.{Ok, [], codes, refl, ◌∷◌, ◌≡◌}
use Rattle.def_rows.specs.Lines.{chars, digits, front_of, is_utf8, lines_text, tokens_of, utf8_valid_len}
use Rattle.def_rows.specs.WholeChoice.{whole_output}

-- The view's own text in other letters and spaces is a full text match; other items over the same FROM and GROUP BY are a partial one.
pub full_and_partial :
    whole_output (lines_text (
    codes "@setup"
    ∷ codes "CREATE TABLE T (G VARCHAR2(4), A NUMBER);"
    ∷ codes "INSERT INTO T VALUES ('P',10),('P',5),('Q',NULL);"
    ∷ codes "CREATE MATERIALIZED VIEW V ENABLE QUERY REWRITE AS SELECT G, SUM(A), COUNT(A), COUNT(*) FROM T GROUP BY G;"
    ∷ codes "select g ,sum(a), count(a),count(*)  from t group by g;"
    ∷ codes "SELECT AVG(A), G FROM T GROUP BY G;"
    ∷ codes "EXPLAIN REWRITE SELECT AVG(A), G FROM T GROUP BY G;"
    ∷ codes "@end"
    ∷ []))
    ≡ Ok (lines_text (
    codes "0.1 DONE SCN 1 READ 0"
    ∷ codes "0.2 COMMITTED SCN 2 ROWS 3 READ 0 VIEWS 0"
    ∷ codes "0.3 DONE SCN 2 READ 3"
    ∷ codes "0.4 ANSWER SCN 2 PLAN FULL V@2 READ 0 ROWS 2"
    ∷ codes "P|15|2|2"
    ∷ codes "Q||0|1"
    ∷ codes "0.5 ANSWER SCN 2 PLAN PARTIAL V@2 READ 0 ROWS 2"
    ∷ codes "15/2|P"
    ∷ codes "|Q"
    ∷ codes "0.6 REWRITE SCN 2 PLAN PARTIAL V@2 READ 0 ROWS 1"
    ∷ codes "V|PARTIAL"
    ∷ codes "journal 0.1.1 0.2.1 0.3.1 0.4.1 0.5.1 0.6.1"
    ∷ []))
unfolding digits utf8_valid_len is_utf8 chars lib.Utf8.encode tokens_of front_of
full_and_partial = refl

-- With a text match E8 and E9 alone are asked.
pub text_match_needs_freshness :
    whole_output (lines_text (
    codes "@setup"
    ∷ codes "CREATE TABLE T (G VARCHAR2(4), A NUMBER);"
    ∷ codes "INSERT INTO T VALUES ('P',10);"
    ∷ codes "CREATE MATERIALIZED VIEW V ENABLE QUERY REWRITE AS SELECT G, SUM(A), COUNT(A), COUNT(*) FROM T GROUP BY G;"
    ∷ codes "INSERT INTO T VALUES ('Q',1);"
    ∷ codes "SELECT G, SUM(A), COUNT(A), COUNT(*) FROM T GROUP BY G;"
    ∷ codes "EXPLAIN REWRITE SELECT G, SUM(A), COUNT(A), COUNT(*) FROM T GROUP BY G;"
    ∷ codes "ALTER SESSION SET QUERY_REWRITE_INTEGRITY = STALE_TOLERATED;"
    ∷ codes "SELECT G, SUM(A), COUNT(A), COUNT(*) FROM T GROUP BY G;"
    ∷ codes "@end"
    ∷ []))
    ≡ Ok (lines_text (
    codes "0.1 DONE SCN 1 READ 0"
    ∷ codes "0.2 COMMITTED SCN 2 ROWS 1 READ 0 VIEWS 0"
    ∷ codes "0.3 DONE SCN 2 READ 1"
    ∷ codes "0.4 COMMITTED SCN 3 ROWS 1 READ 0 VIEWS 0"
    ∷ codes "0.5 ANSWER SCN 3 PLAN BASE READ 2 ROWS 2"
    ∷ codes "P|10|1|1"
    ∷ codes "Q|1|1|1"
    ∷ codes "0.6 REWRITE SCN 3 PLAN BASE READ 0 ROWS 1"
    ∷ codes "V|E8"
    ∷ codes "0.7 DONE SCN 3 READ 0"
    ∷ codes "0.8 ANSWER SCN 3 PLAN FULL V@2 READ 0 ROWS 1"
    ∷ codes "P|10|1|1"
    ∷ codes "journal 0.1.1 0.2.1 0.3.1 0.4.1 0.5.1 0.6.1 0.7.1 0.8.1"
    ∷ []))
unfolding digits utf8_valid_len is_utf8 chars lib.Utf8.encode tokens_of front_of
text_match_needs_freshness = refl
