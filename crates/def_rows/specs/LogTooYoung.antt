use Rattle.std.specs.Prelude.{Ok, [], codes, refl, ◌∷◌, ◌≡◌}
use Rattle.def_rows.specs.Lines.{Ordering, Two, chars, digits, front_of, is_utf8, lines_text, output, tokens_of, utf8_valid_len}

-- Without a log, and with a log that is younger than the view's point, a fast refresh is
-- refused. FORCE then refreshes completely, and after it the log serves.
pub no_log_then_log_too_young :
    output (Ordering Two) (lines_text (
    codes "@setup"
    ∷ codes "CREATE TABLE T (G VARCHAR2(4), A NUMBER);"
    ∷ codes "INSERT INTO T VALUES ('P',1);"
    ∷ codes "CREATE MATERIALIZED VIEW V AS SELECT G, SUM(A), COUNT(A), COUNT(*) FROM T GROUP BY G;"
    ∷ codes "EXECUTE DBMS_MVIEW.REFRESH('V', 'F');"
    ∷ codes "CREATE MATERIALIZED VIEW LOG ON T WITH ROWID, SEQUENCE (G, A) INCLUDING NEW VALUES;"
    ∷ codes "EXECUTE DBMS_MVIEW.REFRESH('V', 'F');"
    ∷ codes "EXECUTE DBMS_MVIEW.REFRESH('V');"
    ∷ codes "EXECUTE DBMS_MVIEW.REFRESH('V', 'F');"
    ∷ codes "@end"
    ∷ []))
    ≡ Ok (lines_text (
    codes "mviewdb 2"
    ∷ codes "0.1 DONE SCN 1 READ 0"
    ∷ codes "0.2 COMMITTED SCN 2 ROWS 1 READ 0 VIEWS 0"
    ∷ codes "0.3 DONE SCN 2 READ 1"
    ∷ codes "0.4 REFUSED MV-22 F3 T READ 0"
    ∷ codes "0.5 DONE SCN 3 READ 0"
    ∷ codes "0.6 REFUSED MV-22 F10 T READ 0"
    ∷ codes "0.7 REFRESHED COMPLETE SCN 3 READ 1 HOLDS 1"
    ∷ codes "0.8 REFRESHED FAST SCN 3 READ 0 HOLDS 1"
    ∷ codes "journal 0.1.1 0.2.1 0.3.1 0.4.1 0.4.2 0.5.1 0.6.1 0.6.2 0.7.1 0.7.2 0.8.1 0.8.2"
    ∷ []))
unfolding digits utf8_valid_len is_utf8 chars lib.Utf8.encode tokens_of front_of
no_log_then_log_too_young = refl
