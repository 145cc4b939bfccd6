use Rattle.std.specs.Prelude.{Ok, [], codes, refl, ◌∷◌, ◌≡◌}
use Rattle.def_rows.specs.Lines.{Ordering, Two, chars, digits, front_of, is_utf8, lines_text, output, tokens_of, utf8_valid_len}

-- The first refusal refuses a whole list: unknown and repeated names read nothing, and what is refused while the list is computed comes with what was read before.
pub list_refused :
    output (Ordering Two) (lines_text (
    codes "@setup"
    ∷ codes "CREATE TABLE T (G VARCHAR2(4), A NUMBER);"
    ∷ codes "INSERT INTO T VALUES ('P',1);"
    ∷ codes "CREATE MATERIALIZED VIEW V AS SELECT G, SUM(A), COUNT(*) C FROM T GROUP BY G;"
    ∷ codes "CREATE MATERIALIZED VIEW W REFRESH COMPLETE AS SELECT G, A FROM T;"
    ∷ codes "CREATE MATERIALIZED VIEW N AS SELECT G, SUM(C) FROM V GROUP BY G;"
    ∷ codes "INSERT INTO T VALUES ('P',2);"
    ∷ codes "EXECUTE DBMS_MVIEW.REFRESH('W,Z,W');"
    ∷ codes "EXECUTE DBMS_MVIEW.REFRESH('W,V,W');"
    ∷ codes "EXECUTE DBMS_MVIEW.REFRESH('W,V', 'F');"
    ∷ codes "EXECUTE DBMS_MVIEW.REFRESH('N,V', 'F');"
    ∷ codes "EXECUTE DBMS_MVIEW.REFRESH('W,V', 'P');"
    ∷ codes "CREATE MATERIALIZED VIEW E BUILD DEFERRED AS SELECT G, COUNT(*) C FROM T GROUP BY G;"
    ∷ codes "CREATE MATERIALIZED VIEW M BUILD DEFERRED AS SELECT G, SUM(C) FROM E GROUP BY G;"
    ∷ codes "EXECUTE DBMS_MVIEW.REFRESH('W,M', 'C');"
    ∷ codes "SHOW VIEW W;"
    ∷ codes "EXECUTE DBMS_MVIEW.REFRESH('M,W,E', 'C');"
    ∷ codes "SHOW VIEW V;"
    ∷ codes "EXECUTE DBMS_MVIEW.REFRESH('W,N,V');"
    ∷ codes "SHOW VIEW N;"
    ∷ codes "@end"
    ∷ []))
    ≡ Ok (lines_text (
    codes "mviewdb 2"
    ∷ codes "0.1 DONE SCN 1 READ 0"
    ∷ codes "0.2 COMMITTED SCN 2 ROWS 1 READ 0 VIEWS 0"
    ∷ codes "0.3 DONE SCN 2 READ 1"
    ∷ codes "0.4 DONE SCN 2 READ 1"
    ∷ codes "0.5 DONE SCN 2 READ 0"
    ∷ codes "0.6 COMMITTED SCN 3 ROWS 1 READ 0 VIEWS 0"
    ∷ codes "0.7 REFUSED MV-02 Z READ 0"
    ∷ codes "0.8 REFUSED MV-01 W READ 0"
    ∷ codes "0.9 REFUSED MV-22 F3 T READ 0"
    ∷ codes "0.10 REFUSED MV-22 F3 T READ 0"
    ∷ codes "0.11 REFUSED MV-23 P1 READ 0"
    ∷ codes "0.12 DONE SCN 3 READ 0"
    ∷ codes "0.13 DONE SCN 3 READ 0"
    ∷ codes "0.14 REFUSED MV-30 E READ 2"
    ∷ codes "0.15 VIEW W POINT 2 STATE STALE REGISTERED YES SUSPENDED NO READ 0 INTERVALS 0 ROWS 1"
    ∷ codes "P|1"
    ∷ codes "0.16 REFRESHED LIST SCN 3 READ 4 VIEWS 3"
    ∷ codes "M|COMPLETE|1"
    ∷ codes "W|COMPLETE|2"
    ∷ codes "E|COMPLETE|1"
    ∷ codes "0.17 VIEW V POINT 2 STATE STALE REGISTERED YES SUSPENDED NO READ 0 INTERVALS 0 ROWS 1"
    ∷ codes "P|1|1"
    ∷ codes "0.18 REFRESHED LIST SCN 3 READ 4 VIEWS 3"
    ∷ codes "W|COMPLETE|2"
    ∷ codes "N|COMPLETE|1"
    ∷ codes "V|COMPLETE|1"
    ∷ codes "0.19 VIEW N POINT 3 STATE FRESH REGISTERED NO SUSPENDED NO READ 0 INTERVALS 0 ROWS 1"
    ∷ codes "P|2"
    ∷ codes "journal 0.1.1 0.2.1 0.3.1 0.4.1 0.5.1 0.6.1 0.7.1 0.7.2 0.8.1 0.8.2 0.9.1 0.9.2 0.10.1 0.10.2 0.11.1 0.11.2 0.12.1 0.13.1 0.14.1 0.14.2 0.15.1 0.16.1 0.16.2 0.17.1 0.18.1 0.18.2 0.19.1"
    ∷ []))
unfolding digits utf8_valid_len is_utf8 chars lib.Utf8.encode tokens_of front_of
list_refused = refl

-- All or none of the views of a list move: one that was refreshed or dropped in between refuses it.
pub list_overtaken :
    output (Ordering Two) (lines_text (
    codes "@setup"
    ∷ codes "CREATE TABLE T (G VARCHAR2(4), A NUMBER);"
    ∷ codes "INSERT INTO T VALUES ('P',1);"
    ∷ codes "CREATE MATERIALIZED VIEW V AS SELECT G, SUM(A), COUNT(*) C FROM T GROUP BY G;"
    ∷ codes "CREATE MATERIALIZED VIEW W AS SELECT G, A FROM T;"
    ∷ codes "INSERT INTO T VALUES ('P',2);"
    ∷ codes "@session 1"
    ∷ codes "EXECUTE DBMS_MVIEW.REFRESH('V,W', 'C');"
    ∷ codes "EXECUTE DBMS_MVIEW.REFRESH('V,W', 'C');"
    ∷ codes "SHOW VIEW V;"
    ∷ codes "@session 2"
    ∷ codes "EXECUTE DBMS_MVIEW.REFRESH('W', 'C');"
    ∷ codes "DROP MATERIALIZED VIEW W;"
    ∷ codes "@order 1 2 2 1 1 2 1 1"
    ∷ codes "@end"
    ∷ []))
    ≡ Ok (lines_text (
    codes "mviewdb 2"
    ∷ codes "0.1 DONE SCN 1 READ 0"
    ∷ codes "0.2 COMMITTED SCN 2 ROWS 1 READ 0 VIEWS 0"
    ∷ codes "0.3 DONE SCN 2 READ 1"
    ∷ codes "0.4 DONE SCN 2 READ 1"
    ∷ codes "0.5 COMMITTED SCN 3 ROWS 1 READ 0 VIEWS 0"
    ∷ codes "1.1 REFUSED MV-24 W 2 3 READ 4"
    ∷ codes "1.2 REFUSED MV-02 W READ 4"
    ∷ codes "1.3 VIEW V POINT 2 STATE STALE REGISTERED YES SUSPENDED NO READ 0 INTERVALS 0 ROWS 1"
    ∷ codes "P|1|1"
    ∷ codes "2.1 REFRESHED COMPLETE SCN 3 READ 2 HOLDS 2"
    ∷ codes "2.2 DONE SCN 3 READ 0"
    ∷ codes "journal 0.1.1 0.2.1 0.3.1 0.4.1 0.5.1 1.1.1 2.1.1 2.1.2 1.1.2 1.2.1 2.2.1 1.2.2 1.3.1"
    ∷ []))
unfolding digits utf8_valid_len is_utf8 chars lib.Utf8.encode tokens_of front_of
list_overtaken = refl

-- A READ ONLY transaction refuses a list before anything else.
pub list_only_reads :
    output (Ordering Two) (lines_text (
    codes "@setup"
    ∷ codes "CREATE TABLE T (G VARCHAR2(4), A NUMBER);"
    ∷ codes "INSERT INTO T VALUES ('P',1);"
    ∷ codes "@session 1"
    ∷ codes "SET TRANSACTION READ ONLY;"
    ∷ codes "EXECUTE DBMS_MVIEW.REFRESH('V,W', 'C');"
    ∷ codes "@end"
    ∷ []))
    ≡ Ok (lines_text (
    codes "mviewdb 2"
    ∷ codes "0.1 DONE SCN 1 READ 0"
    ∷ codes "0.2 COMMITTED SCN 2 ROWS 1 READ 0 VIEWS 0"
    ∷ codes "1.1 DONE SCN 2 READ 0"
    ∷ codes "1.2 REFUSED MV-29 READ 0"
    ∷ codes "journal 0.1.1 0.2.1 1.1.1 1.2.1 1.2.2"
    ∷ []))
unfolding digits utf8_valid_len is_utf8 chars lib.Utf8.encode tokens_of front_of
list_only_reads = refl
