use Rattle.std.specs.Prelude.{Ok, [], codes, refl, ◌∷◌, ◌≡◌}
use Rattle.def_rows.specs.Lines.{Ordering, Two, chars, digits, front_of, is_utf8, lines_text, output, tokens_of, utf8_valid_len}

-- Two sessions refresh one view; the one that installs last finds another point than at its begin and is refused.
pub overtaken_refresh :
    output (Ordering Two) (lines_text (
    codes "@setup"
    ∷ codes "CREATE TABLE T (G VARCHAR2(4), A NUMBER);"
    ∷ codes "INSERT INTO T VALUES ('P',1);"
    ∷ codes "CREATE MATERIALIZED VIEW V ENABLE QUERY REWRITE AS SELECT G, SUM(A), COUNT(*) FROM T GROUP BY G;"
    ∷ codes "INSERT INTO T VALUES ('P',2);"
    ∷ codes "INSERT INTO T VALUES ('P',3);"
    ∷ codes "@session 1"
    ∷ codes "EXECUTE DBMS_MVIEW.REFRESH('V', 'C');"
    ∷ codes "@session 2"
    ∷ codes "EXECUTE DBMS_MVIEW.REFRESH('V', 'C');"
    ∷ codes "@session 3"
    ∷ codes "INSERT INTO T VALUES ('P',5);"
    ∷ codes "INSERT INTO T VALUES ('P',6);"
    ∷ codes "@order 1 3 3 2 1 2"
    ∷ codes "@end"
    ∷ []))
    ≡ Ok (lines_text (
    codes "mviewdb 2"
    ∷ codes "0.1 DONE SCN 1 READ 0"
    ∷ codes "0.2 COMMITTED SCN 2 ROWS 1 READ 0 VIEWS 0"
    ∷ codes "0.3 DONE SCN 2 READ 1"
    ∷ codes "0.4 COMMITTED SCN 3 ROWS 1 READ 0 VIEWS 0"
    ∷ codes "0.5 COMMITTED SCN 4 ROWS 1 READ 0 VIEWS 0"
    ∷ codes "1.1 REFRESHED COMPLETE SCN 4 READ 3 HOLDS 1"
    ∷ codes "2.1 REFUSED MV-24 V 2 4 READ 5"
    ∷ codes "3.1 COMMITTED SCN 5 ROWS 1 READ 0 VIEWS 0"
    ∷ codes "3.2 COMMITTED SCN 6 ROWS 1 READ 0 VIEWS 0"
    ∷ codes "journal 0.1.1 0.2.1 0.3.1 0.4.1 0.5.1 1.1.1 3.1.1 3.2.1 2.1.1 1.1.2 2.1.2"
    ∷ []))
unfolding digits utf8_valid_len is_utf8 chars lib.Utf8.encode tokens_of front_of
overtaken_refresh = refl
