use Rattle.std.specs.Prelude.{Ok, [], codes, refl, ◌∷◌, ◌≡◌}
use Rattle.def_rows.specs.Lines.{Ordering, Two, chars, digits, front_of, is_utf8, lines_text, output, tokens_of, utf8_valid_len}

-- A purge between begin and install keeps what the view's old point needs.
pub purge_between_begin_and_install :
    output (Ordering Two) (lines_text (
    codes "@setup"
    ∷ codes "CREATE TABLE T (G VARCHAR2(4), A NUMBER);"
    ∷ codes "CREATE MATERIALIZED VIEW LOG ON T WITH ROWID, SEQUENCE (G, A) INCLUDING NEW VALUES;"
    ∷ codes "INSERT INTO T VALUES ('P',1);"
    ∷ codes "CREATE MATERIALIZED VIEW V AS SELECT G, SUM(A), COUNT(A), COUNT(*) FROM T GROUP BY G;"
    ∷ codes "INSERT INTO T VALUES ('P',2);"
    ∷ codes "@session 1"
    ∷ codes "EXECUTE DBMS_MVIEW.REFRESH('V', 'F');"
    ∷ codes "@session 2"
    ∷ codes "PURGE LOG ON T;"
    ∷ codes "@order 1 2 1"
    ∷ codes "@end"
    ∷ []))
    ≡ Ok (lines_text (
    codes "mviewdb 2"
    ∷ codes "0.1 DONE SCN 1 READ 0"
    ∷ codes "0.2 DONE SCN 2 READ 0"
    ∷ codes "0.3 COMMITTED SCN 3 ROWS 1 READ 0 VIEWS 0"
    ∷ codes "0.4 DONE SCN 3 READ 1"
    ∷ codes "0.5 COMMITTED SCN 4 ROWS 1 READ 0 VIEWS 0"
    ∷ codes "1.1 REFRESHED FAST SCN 4 READ 0 HOLDS 1"
    ∷ codes "2.1 PURGED SCN 4 ROWS 1 READ 0"
    ∷ codes "journal 0.1.1 0.2.1 0.3.1 0.4.1 0.5.1 1.1.1 2.1.1 1.1.2"
    ∷ []))
unfolding digits utf8_valid_len is_utf8 chars lib.Utf8.encode tokens_of front_of
purge_between_begin_and_install = refl

-- Where the view is unregistered in between, the purge takes all rows. The refresh was computed before, and its install registers the view again.
pub unregistered_between_begin_and_install :
    output (Ordering Two) (lines_text (
    codes "@setup"
    ∷ codes "CREATE TABLE T (G VARCHAR2(4), A NUMBER);"
    ∷ codes "CREATE MATERIALIZED VIEW LOG ON T WITH ROWID, SEQUENCE (G, A) INCLUDING NEW VALUES;"
    ∷ codes "INSERT INTO T VALUES ('P',1);"
    ∷ codes "CREATE MATERIALIZED VIEW V AS SELECT G, SUM(A), COUNT(A), COUNT(*) FROM T GROUP BY G;"
    ∷ codes "INSERT INTO T VALUES ('P',2);"
    ∷ codes "@session 1"
    ∷ codes "EXECUTE DBMS_MVIEW.REFRESH('V', 'F');"
    ∷ codes "SHOW VIEW V;"
    ∷ codes "@session 2"
    ∷ codes "UNREGISTER MATERIALIZED VIEW V;"
    ∷ codes "PURGE LOG ON T;"
    ∷ codes "@order 1 2 2 1"
    ∷ codes "@end"
    ∷ []))
    ≡ Ok (lines_text (
    codes "mviewdb 2"
    ∷ codes "0.1 DONE SCN 1 READ 0"
    ∷ codes "0.2 DONE SCN 2 READ 0"
    ∷ codes "0.3 COMMITTED SCN 3 ROWS 1 READ 0 VIEWS 0"
    ∷ codes "0.4 DONE SCN 3 READ 1"
    ∷ codes "0.5 COMMITTED SCN 4 ROWS 1 READ 0 VIEWS 0"
    ∷ codes "1.1 REFRESHED FAST SCN 4 READ 0 HOLDS 1"
    ∷ codes "1.2 VIEW V POINT 4 STATE FRESH REGISTERED YES SUSPENDED NO READ 0 INTERVALS 0 ROWS 1"
    ∷ codes "P|3|2|2"
    ∷ codes "2.1 DONE SCN 4 READ 0"
    ∷ codes "2.2 PURGED SCN 4 ROWS 2 READ 0"
    ∷ codes "journal 0.1.1 0.2.1 0.3.1 0.4.1 0.5.1 1.1.1 2.1.1 2.2.1 1.1.2 1.2.1"
    ∷ []))
unfolding digits utf8_valid_len is_utf8 chars lib.Utf8.encode tokens_of front_of
unregistered_between_begin_and_install = refl

-- A new view with the name of the dropped one is another view.
pub view_replaced_between_begin_and_install :
    output (Ordering Two) (lines_text (
    codes "@setup"
    ∷ codes "CREATE TABLE T (G VARCHAR2(4), A NUMBER);"
    ∷ codes "INSERT INTO T VALUES ('P',1);"
    ∷ codes "CREATE MATERIALIZED VIEW V ENABLE QUERY REWRITE AS SELECT G, SUM(A), COUNT(*) FROM T GROUP BY G;"
    ∷ codes "INSERT INTO T VALUES ('P',2);"
    ∷ codes "@session 1"
    ∷ codes "EXECUTE DBMS_MVIEW.REFRESH('V', 'C');"
    ∷ codes "@session 2"
    ∷ codes "DROP MATERIALIZED VIEW V;"
    ∷ codes "CREATE MATERIALIZED VIEW V ENABLE QUERY REWRITE AS SELECT G, SUM(A), COUNT(*) FROM T GROUP BY G;"
    ∷ codes "@order 1 2 2 1"
    ∷ codes "@end"
    ∷ []))
    ≡ Ok (lines_text (
    codes "mviewdb 2"
    ∷ codes "0.1 DONE SCN 1 READ 0"
    ∷ codes "0.2 COMMITTED SCN 2 ROWS 1 READ 0 VIEWS 0"
    ∷ codes "0.3 DONE SCN 2 READ 1"
    ∷ codes "0.4 COMMITTED SCN 3 ROWS 1 READ 0 VIEWS 0"
    ∷ codes "1.1 REFUSED MV-02 V READ 2"
    ∷ codes "2.1 DONE SCN 3 READ 0"
    ∷ codes "2.2 DONE SCN 3 READ 2"
    ∷ codes "journal 0.1.1 0.2.1 0.3.1 0.4.1 1.1.1 2.1.1 2.2.1 1.1.2"
    ∷ []))
unfolding digits utf8_valid_len is_utf8 chars lib.Utf8.encode tokens_of front_of
view_replaced_between_begin_and_install = refl
