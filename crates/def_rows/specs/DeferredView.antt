use Rattle.std.specs.Prelude.{Ok, [], codes, refl, ◌∷◌, ◌≡◌}
use Rattle.def_rows.specs.Lines.{Ordering, Two, chars, digits, front_of, is_utf8, lines_text, output, tokens_of, utf8_valid_len}

-- A view that isn't built has no point, and a refresh of a view that isn't there has its two parts in the journal all the same.
pub deferred_view :
    output (Ordering Two) (lines_text (
    codes "@setup"
    ∷ codes "CREATE TABLE T (G VARCHAR2(4), A NUMBER);"
    ∷ codes "CREATE MATERIALIZED VIEW D BUILD DEFERRED AS SELECT G, SUM(A), COUNT(A), COUNT(*) FROM T GROUP BY G;"
    ∷ codes "SHOW VIEW D;"
    ∷ codes "EXECUTE DBMS_MVIEW.REFRESH('X', 'C');"
    ∷ codes "@end"
    ∷ []))
    ≡ Ok (lines_text (
    codes "mviewdb 2"
    ∷ codes "0.1 DONE SCN 1 READ 0"
    ∷ codes "0.2 DONE SCN 1 READ 0"
    ∷ codes "0.3 VIEW D POINT - STATE UNBUILT REGISTERED NO SUSPENDED NO READ 0 INTERVALS 0 ROWS 0"
    ∷ codes "0.4 REFUSED MV-02 X READ 0"
    ∷ codes "journal 0.1.1 0.2.1 0.3.1 0.4.1 0.4.2"
    ∷ []))
unfolding digits utf8_valid_len is_utf8 chars lib.Utf8.encode tokens_of front_of
deferred_view = refl
