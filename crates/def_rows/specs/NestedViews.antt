use Rattle.std.specs.Prelude.{Ok, [], codes, refl, ◌∷◌, ◌≡◌}
use Rattle.def_rows.specs.Lines.{Ordering, Two, chars, digits, front_of, is_utf8, lines_text, output, tokens_of, utf8_valid_len}

-- A view over a view has the point of the view beneath, reads no base rows, and is never registered.
pub view_over_a_view :
    output (Ordering Two) (lines_text (
    codes "@setup"
    ∷ codes "CREATE TABLE U (G VARCHAR2(4), H VARCHAR2(4), A NUMBER);"
    ∷ codes "INSERT INTO U VALUES ('P','x',10),('P','y',5),('Q','x',7);"
    ∷ codes "CREATE MATERIALIZED VIEW V AS SELECT G, H, SUM(A) SA, COUNT(*) C FROM U GROUP BY G, H;"
    ∷ codes "CREATE MATERIALIZED VIEW N ENABLE QUERY REWRITE AS SELECT G, SUM(SA), SUM(C) FROM V GROUP BY G;"
    ∷ codes "SHOW VIEW N;"
    ∷ codes "@end"
    ∷ []))
    ≡ Ok (lines_text (
    codes "mviewdb 2"
    ∷ codes "0.1 DONE SCN 1 READ 0"
    ∷ codes "0.2 COMMITTED SCN 2 ROWS 3 READ 0 VIEWS 0"
    ∷ codes "0.3 DONE SCN 2 READ 3"
    ∷ codes "0.4 DONE SCN 2 READ 0"
    ∷ codes "0.5 VIEW N POINT 2 STATE FRESH REGISTERED NO SUSPENDED NO READ 0 INTERVALS 0 ROWS 2"
    ∷ codes "P|15|2"
    ∷ codes "Q|7|1"
    ∷ codes "journal 0.1.1 0.2.1 0.3.1 0.4.1 0.5.1"
    ∷ []))
unfolding digits utf8_valid_len is_utf8 chars lib.Utf8.encode tokens_of front_of
view_over_a_view = refl

-- Its definition is the composed one, over the base tables, so it may answer a query over them.
pub answers_like_any_view :
    output (Ordering Two) (lines_text (
    codes "@setup"
    ∷ codes "CREATE TABLE U (G VARCHAR2(4), H VARCHAR2(4), A NUMBER);"
    ∷ codes "INSERT INTO U VALUES ('P','x',10),('P','y',5),('Q','x',7);"
    ∷ codes "CREATE MATERIALIZED VIEW V AS SELECT G, H, SUM(A) SA, COUNT(*) C FROM U GROUP BY G, H;"
    ∷ codes "CREATE MATERIALIZED VIEW N ENABLE QUERY REWRITE AS SELECT G, SUM(SA), SUM(C) FROM V GROUP BY G;"
    ∷ codes "EXPLAIN REWRITE SELECT G, COUNT(*) FROM U GROUP BY G;"
    ∷ codes "@end"
    ∷ []))
    ≡ Ok (lines_text (
    codes "mviewdb 2"
    ∷ codes "0.1 DONE SCN 1 READ 0"
    ∷ codes "0.2 COMMITTED SCN 2 ROWS 3 READ 0 VIEWS 0"
    ∷ codes "0.3 DONE SCN 2 READ 3"
    ∷ codes "0.4 DONE SCN 2 READ 0"
    ∷ codes "0.5 REWRITE SCN 2 PLAN BASE READ 0 ROWS 2"
    ∷ codes "V|E9"
    ∷ codes "N|GENERAL"
    ∷ codes "journal 0.1.1 0.2.1 0.3.1 0.4.1 0.5.1"
    ∷ []))
unfolding digits utf8_valid_len is_utf8 chars lib.Utf8.encode tokens_of front_of
answers_like_any_view = refl

-- Its refresh takes the rows of the view beneath as they are. In a list that one is refreshed first.
pub refreshed_from_beneath :
    output (Ordering Two) (lines_text (
    codes "@setup"
    ∷ codes "CREATE TABLE U (G VARCHAR2(4), H VARCHAR2(4), A NUMBER);"
    ∷ codes "INSERT INTO U VALUES ('P','x',10),('P','y',5),('Q','x',7);"
    ∷ codes "CREATE MATERIALIZED VIEW V AS SELECT G, H, SUM(A) SA, COUNT(*) C FROM U GROUP BY G, H;"
    ∷ codes "CREATE MATERIALIZED VIEW N ENABLE QUERY REWRITE AS SELECT G, SUM(SA), SUM(C) FROM V GROUP BY G;"
    ∷ codes "INSERT INTO U VALUES ('Q','y',1);"
    ∷ codes "EXECUTE DBMS_MVIEW.REFRESH('N', 'C');"
    ∷ codes "EXECUTE DBMS_MVIEW.REFRESH('N,V', 'C');"
    ∷ codes "SHOW VIEW N;"
    ∷ codes "SHOW VIEW V;"
    ∷ codes "@end"
    ∷ []))
    ≡ Ok (lines_text (
    codes "mviewdb 2"
    ∷ codes "0.1 DONE SCN 1 READ 0"
    ∷ codes "0.2 COMMITTED SCN 2 ROWS 3 READ 0 VIEWS 0"
    ∷ codes "0.3 DONE SCN 2 READ 3"
    ∷ codes "0.4 DONE SCN 2 READ 0"
    ∷ codes "0.5 COMMITTED SCN 3 ROWS 1 READ 0 VIEWS 0"
    ∷ codes "0.6 REFRESHED COMPLETE SCN 2 READ 0 HOLDS 2"
    ∷ codes "0.7 REFRESHED LIST SCN 3 READ 4 VIEWS 2"
    ∷ codes "N|COMPLETE|2"
    ∷ codes "V|COMPLETE|4"
    ∷ codes "0.8 VIEW N POINT 3 STATE FRESH REGISTERED NO SUSPENDED NO READ 0 INTERVALS 0 ROWS 2"
    ∷ codes "P|15|2"
    ∷ codes "Q|8|2"
    ∷ codes "0.9 VIEW V POINT 3 STATE FRESH REGISTERED YES SUSPENDED NO READ 0 INTERVALS 0 ROWS 4"
    ∷ codes "P|x|10|1"
    ∷ codes "P|y|5|1"
    ∷ codes "Q|x|7|1"
    ∷ codes "Q|y|1|1"
    ∷ codes "journal 0.1.1 0.2.1 0.3.1 0.4.1 0.5.1 0.6.1 0.6.2 0.7.1 0.7.2 0.8.1 0.9.1"
    ∷ []))
unfolding digits utf8_valid_len is_utf8 chars lib.Utf8.encode tokens_of front_of
refreshed_from_beneath = refl

-- Neither F nor P is for a view over a view. A view is not dropped while one stands over it, and has to be built beneath one that is.
pub refused_over_a_view :
    output (Ordering Two) (lines_text (
    codes "@setup"
    ∷ codes "CREATE TABLE U (G VARCHAR2(4), H VARCHAR2(4), A NUMBER);"
    ∷ codes "INSERT INTO U VALUES ('P','x',10),('P','y',5),('Q','x',7);"
    ∷ codes "CREATE MATERIALIZED VIEW V AS SELECT G, H, SUM(A) SA, COUNT(*) C FROM U GROUP BY G, H;"
    ∷ codes "CREATE MATERIALIZED VIEW N ENABLE QUERY REWRITE AS SELECT G, SUM(SA), SUM(C) FROM V GROUP BY G;"
    ∷ codes "EXECUTE DBMS_MVIEW.REFRESH('N', 'F');"
    ∷ codes "EXECUTE DBMS_MVIEW.REFRESH('N', 'P');"
    ∷ codes "EXECUTE DBMS_MVIEW.REFRESH('N', '?');"
    ∷ codes "DROP MATERIALIZED VIEW V;"
    ∷ codes "CREATE MATERIALIZED VIEW E BUILD DEFERRED AS SELECT G, H, SUM(A) SA, COUNT(*) C FROM U GROUP BY G, H;"
    ∷ codes "CREATE MATERIALIZED VIEW M AS SELECT G, SUM(C) FROM E GROUP BY G;"
    ∷ codes "CREATE MATERIALIZED VIEW M BUILD DEFERRED AS SELECT G, SUM(C) FROM E GROUP BY G;"
    ∷ codes "EXECUTE DBMS_MVIEW.REFRESH('M');"
    ∷ codes "SHOW VIEW M;"
    ∷ codes "@end"
    ∷ []))
    ≡ Ok (lines_text (
    codes "mviewdb 2"
    ∷ codes "0.1 DONE SCN 1 READ 0"
    ∷ codes "0.2 COMMITTED SCN 2 ROWS 3 READ 0 VIEWS 0"
    ∷ codes "0.3 DONE SCN 2 READ 3"
    ∷ codes "0.4 DONE SCN 2 READ 0"
    ∷ codes "0.5 REFUSED MV-31 N READ 0"
    ∷ codes "0.6 REFUSED MV-31 N READ 0"
    ∷ codes "0.7 REFRESHED COMPLETE SCN 2 READ 0 HOLDS 2"
    ∷ codes "0.8 REFUSED MV-28 N READ 0"
    ∷ codes "0.9 DONE SCN 2 READ 0"
    ∷ codes "0.10 REFUSED MV-30 E READ 0"
    ∷ codes "0.11 DONE SCN 2 READ 0"
    ∷ codes "0.12 REFUSED MV-30 E READ 0"
    ∷ codes "0.13 VIEW M POINT - STATE UNBUILT REGISTERED NO SUSPENDED NO READ 0 INTERVALS 0 ROWS 0"
    ∷ codes "journal 0.1.1 0.2.1 0.3.1 0.4.1 0.5.1 0.5.2 0.6.1 0.6.2 0.7.1 0.7.2 0.8.1 0.9.1 0.10.1 0.11.1 0.12.1 0.12.2 0.13.1"
    ∷ []))
unfolding digits utf8_valid_len is_utf8 chars lib.Utf8.encode tokens_of front_of
refused_over_a_view = refl
