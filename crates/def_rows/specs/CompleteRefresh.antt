use Rattle.std.specs.Prelude.{Ok, [], codes, refl, ◌∷◌, ◌≡◌}
use Rattle.def_rows.specs.Lines.{Ordering, Two, chars, digits, front_of, is_utf8, lines_text, output, tokens_of, utf8_valid_len}

-- A commit of session 2 falls between the begin and the install of a refresh of session 1: the
-- view's point is the SCN of the begin, so the query finds it stale.
pub commit_between_begin_and_install :
    output (Ordering Two) (lines_text (
    codes "@setup"
    ∷ codes "CREATE TABLE T (G VARCHAR2(4), A NUMBER);"
    ∷ codes "INSERT INTO T VALUES ('P',1);"
    ∷ codes "CREATE MATERIALIZED VIEW V ENABLE QUERY REWRITE AS SELECT G, SUM(A), COUNT(*) FROM T GROUP BY G;"
    ∷ codes "INSERT INTO T VALUES ('P',2);"
    ∷ codes "@session 1"
    ∷ codes "EXECUTE DBMS_MVIEW.REFRESH('V', 'C');"
    ∷ codes "SELECT G, SUM(A), COUNT(*) FROM T GROUP BY G;"
    ∷ codes "@session 2"
    ∷ codes "INSERT INTO T VALUES ('P',4);"
    ∷ codes "@order 1 2 1 1"
    ∷ codes "@end"
    ∷ []))
    ≡ Ok (lines_text (
    codes "mviewdb 2"
    ∷ codes "0.1 DONE SCN 1 READ 0"
    ∷ codes "0.2 COMMITTED SCN 2 ROWS 1 READ 0 VIEWS 0"
    ∷ codes "0.3 DONE SCN 2 READ 1"
    ∷ codes "0.4 COMMITTED SCN 3 ROWS 1 READ 0 VIEWS 0"
    ∷ codes "1.1 REFRESHED COMPLETE SCN 3 READ 2 HOLDS 1"
    ∷ codes "1.2 ANSWER SCN 4 PLAN BASE READ 3 ROWS 1"
    ∷ codes "P|7|3"
    ∷ codes "2.1 COMMITTED SCN 4 ROWS 1 READ 0 VIEWS 0"
    ∷ codes "journal 0.1.1 0.2.1 0.3.1 0.4.1 1.1.1 2.1.1 1.1.2 1.2.1"
    ∷ []))
unfolding digits utf8_valid_len is_utf8 chars lib.Utf8.encode tokens_of front_of
commit_between_begin_and_install = refl

-- The same script, where SHOW VIEW says so.
pub point_is_scn_of_begin :
    output (Ordering Two) (lines_text (
    codes "@setup"
    ∷ codes "CREATE TABLE T (G VARCHAR2(4), A NUMBER);"
    ∷ codes "INSERT INTO T VALUES ('P',1);"
    ∷ codes "CREATE MATERIALIZED VIEW V ENABLE QUERY REWRITE AS SELECT G, SUM(A), COUNT(*) FROM T GROUP BY G;"
    ∷ codes "INSERT INTO T VALUES ('P',2);"
    ∷ codes "@session 1"
    ∷ codes "EXECUTE DBMS_MVIEW.REFRESH('V', 'C');"
    ∷ codes "SELECT G, SUM(A), COUNT(*) FROM T GROUP BY G;"
    ∷ codes "SHOW VIEW V;"
    ∷ codes "@session 2"
    ∷ codes "INSERT INTO T VALUES ('P',4);"
    ∷ codes "@order 1 2 1 1 1"
    ∷ codes "@end"
    ∷ []))
    ≡ Ok (lines_text (
    codes "mviewdb 2"
    ∷ codes "0.1 DONE SCN 1 READ 0"
    ∷ codes "0.2 COMMITTED SCN 2 ROWS 1 READ 0 VIEWS 0"
    ∷ codes "0.3 DONE SCN 2 READ 1"
    ∷ codes "0.4 COMMITTED SCN 3 ROWS 1 READ 0 VIEWS 0"
    ∷ codes "1.1 REFRESHED COMPLETE SCN 3 READ 2 HOLDS 1"
    ∷ codes "1.2 ANSWER SCN 4 PLAN BASE READ 3 ROWS 1"
    ∷ codes "P|7|3"
    ∷ codes "1.3 VIEW V POINT 3 STATE STALE REGISTERED YES SUSPENDED NO READ 0 INTERVALS 0 ROWS 1"
    ∷ codes "P|3|2"
    ∷ codes "2.1 COMMITTED SCN 4 ROWS 1 READ 0 VIEWS 0"
    ∷ codes "journal 0.1.1 0.2.1 0.3.1 0.4.1 1.1.1 2.1.1 1.1.2 1.2.1 1.3.1"
    ∷ []))
unfolding digits utf8_valid_len is_utf8 chars lib.Utf8.encode tokens_of front_of
point_is_scn_of_begin = refl
