use Rattle.std.specs.Prelude.{Ok, [], codes, refl, ◌∷◌, ◌≡◌}
use Rattle.def_rows.specs.Lines.{Ordering, Two, chars, digits, front_of, is_utf8, lines_text, output, tokens_of, utf8_valid_len}

-- A commit whose DELETE an insert-only view can't take stands, and suspends the view's refresh at commit until a complete refresh.
pub suspended_view :
    output (Ordering Two) (lines_text (
    codes "@setup"
    ∷ codes "CREATE TABLE T (G VARCHAR2(4), A NUMBER);"
    ∷ codes "CREATE MATERIALIZED VIEW LOG ON T WITH ROWID, SEQUENCE (G, A) INCLUDING NEW VALUES;"
    ∷ codes "CREATE MATERIALIZED VIEW V REFRESH FAST ON COMMIT AS SELECT G, SUM(A), COUNT(A) FROM T GROUP BY G;"
    ∷ codes "INSERT INTO T VALUES ('P',1);"
    ∷ codes "DELETE FROM T;"
    ∷ codes "INSERT INTO T VALUES ('Q',2);"
    ∷ codes "SHOW VIEW V;"
    ∷ codes "EXECUTE DBMS_MVIEW.REFRESH('V', 'C');"
    ∷ codes "INSERT INTO T VALUES ('R',3);"
    ∷ codes "@end"
    ∷ []))
    ≡ Ok (lines_text (
    codes "mviewdb 2"
    ∷ codes "0.1 DONE SCN 1 READ 0"
    ∷ codes "0.2 DONE SCN 2 READ 0"
    ∷ codes "0.3 DONE SCN 2 READ 0"
    ∷ codes "0.4 COMMITTED SCN 3 ROWS 1 READ 0 VIEWS 1"
    ∷ codes "V|FAST"
    ∷ codes "0.5 COMMITTED SCN 4 ROWS 1 READ 1 VIEWS 1"
    ∷ codes "V|SUSPENDED F13 T"
    ∷ codes "0.6 COMMITTED SCN 5 ROWS 1 READ 0 VIEWS 0"
    ∷ codes "0.7 VIEW V POINT 3 STATE STALE REGISTERED YES SUSPENDED YES READ 0 INTERVALS 0 ROWS 1"
    ∷ codes "P|1|1"
    ∷ codes "0.8 REFRESHED COMPLETE SCN 5 READ 1 HOLDS 1"
    ∷ codes "0.9 COMMITTED SCN 6 ROWS 1 READ 0 VIEWS 1"
    ∷ codes "V|FAST"
    ∷ codes "journal 0.1.1 0.2.1 0.3.1 0.4.1 0.5.1 0.6.1 0.7.1 0.8.1 0.8.2 0.9.1"
    ∷ []))
unfolding digits utf8_valid_len is_utf8 chars lib.Utf8.encode tokens_of front_of
suspended_view = refl
