use Rattle.std.specs.Prelude.{Ok, [], codes, refl, ◌∷◌, ◌≡◌}
use Rattle.def_rows.specs.Lines.{Ordering, Two, chars, digits, front_of, is_utf8, lines_text, output, tokens_of, utf8_valid_len}

-- A fast refresh of an aggregate view over one table reads no base row. W has no COUNT(*), so a DELETE
-- refuses its fast refresh, and PURGE LOG keeps the rows that it still needs.
pub fast_refresh_of_one_table :
    output (Ordering Two) (lines_text (
    codes "@setup"
    ∷ codes "CREATE TABLE T (G VARCHAR2(4), A NUMBER);"
    ∷ codes "CREATE MATERIALIZED VIEW LOG ON T WITH ROWID, SEQUENCE (G, A) INCLUDING NEW VALUES;"
    ∷ codes "INSERT INTO T VALUES ('P',10),('Q',7);"
    ∷ codes "CREATE MATERIALIZED VIEW V REFRESH FAST AS SELECT G, SUM(A), COUNT(A), COUNT(*) FROM T GROUP BY G;"
    ∷ codes "CREATE MATERIALIZED VIEW W REFRESH FAST AS SELECT G, SUM(A), COUNT(A) FROM T GROUP BY G;"
    ∷ codes "DELETE FROM T WHERE G = 'Q';"
    ∷ codes "EXECUTE DBMS_MVIEW.REFRESH('V', 'F');"
    ∷ codes "EXECUTE DBMS_MVIEW.REFRESH('W', 'F');"
    ∷ codes "SHOW VIEW V;"
    ∷ codes "INSERT INTO T VALUES ('R',1);"
    ∷ codes "PURGE LOG ON T;"
    ∷ codes "SHOW LOG T;"
    ∷ codes "@end"
    ∷ []))
    ≡ Ok (lines_text (
    codes "mviewdb 2"
    ∷ codes "0.1 DONE SCN 1 READ 0"
    ∷ codes "0.2 DONE SCN 2 READ 0"
    ∷ codes "0.3 COMMITTED SCN 3 ROWS 2 READ 0 VIEWS 0"
    ∷ codes "0.4 DONE SCN 3 READ 2"
    ∷ codes "0.5 DONE SCN 3 READ 2"
    ∷ codes "0.6 COMMITTED SCN 4 ROWS 1 READ 2 VIEWS 0"
    ∷ codes "0.7 REFRESHED FAST SCN 4 READ 0 HOLDS 1"
    ∷ codes "0.8 REFUSED MV-22 F13 T READ 0"
    ∷ codes "0.9 VIEW V POINT 4 STATE FRESH REGISTERED YES SUSPENDED NO READ 0 INTERVALS 0 ROWS 1"
    ∷ codes "P|10|1|1"
    ∷ codes "0.10 COMMITTED SCN 5 ROWS 1 READ 0 VIEWS 0"
    ∷ codes "0.11 PURGED SCN 5 ROWS 2 READ 0"
    ∷ codes "0.12 LOG T BORN 2 FROM 3 READ 0 ROWS 2"
    ∷ codes "4|3|2|D|O|Q|7"
    ∷ codes "5|4|3|I|N|R|1"
    ∷ codes "journal 0.1.1 0.2.1 0.3.1 0.4.1 0.5.1 0.6.1 0.7.1 0.7.2 0.8.1 0.8.2 0.9.1 0.10.1 0.11.1 0.12.1"
    ∷ []))
unfolding digits utf8_valid_len is_utf8 chars lib.Utf8.encode tokens_of front_of
fast_refresh_of_one_table = refl
