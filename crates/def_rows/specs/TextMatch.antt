use Rattle.std.specs.Prelude.{Ok, [], codes, refl, ◌∷◌, ◌≡◌}
use Rattle.def_rows.specs.Lines.{Ordering, Two, chars, digits, front_of, is_utf8, lines_text, output, tokens_of, utf8_valid_len}

-- The view's own text in other letters and spaces is a full text match. Other items over the same FROM and GROUP BY are a partial one,
-- a class that isn't built yet.
pub full_and_partial_text_match :
    output (Ordering Two) (lines_text (
    codes "@setup"
    ∷ codes "CREATE TABLE T (G VARCHAR2(4), A NUMBER);"
    ∷ codes "INSERT INTO T VALUES ('P',10),('P',5),('Q',NULL);"
    ∷ codes "CREATE MATERIALIZED VIEW V ENABLE QUERY REWRITE AS SELECT G, SUM(A), COUNT(A), COUNT(*) FROM T GROUP BY G;"
    ∷ codes "select g ,sum(a), count(a),count(*)  from t group by g;"
    ∷ codes "SELECT AVG(A), G FROM T GROUP BY G;"
    ∷ codes "@end"
    ∷ []))
    ≡ Ok (lines_text (
    codes "mviewdb 2"
    ∷ codes "0.1 DONE SCN 1 READ 0"
    ∷ codes "0.2 COMMITTED SCN 2 ROWS 3 READ 0 VIEWS 0"
    ∷ codes "0.3 DONE SCN 2 READ 3"
    ∷ codes "0.4 ANSWER SCN 2 PLAN FULL V@2 READ 0 ROWS 2"
    ∷ codes "P|15|2|2"
    ∷ codes "Q||0|1"
    ∷ codes "0.5 ANSWER SCN 2 PLAN BASE READ 3 ROWS 2"
    ∷ codes "15/2|P"
    ∷ codes "|Q"
    ∷ codes "journal 0.1.1 0.2.1 0.3.1 0.4.1 0.5.1"
    ∷ []))
unfolding digits utf8_valid_len is_utf8 chars lib.Utf8.encode tokens_of front_of
full_and_partial_text_match = refl
