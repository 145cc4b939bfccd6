-- The two versions of a transcript.
use Rattle.std.specs.Prelude.{Ok, [], codes, refl, ◌∷◌, ◌≡◌}
use Rattle.def_rows.specs.Lines.{Checking, One, Ordering, chars, digits, front_of, is_utf8, lines_text, next_record, output, strip_bom, tokens_of, utf8_valid_len}

-- The first version has no line of its own.
pub empty_script_first_version :
    output (Ordering One) (lines_text (
    codes "@end"
    ∷ []))
    ≡ Ok (lines_text (codes "journal" ∷ []))
unfolding digits utf8_valid_len is_utf8 chars lib.Utf8.encode tokens_of front_of next_record strip_bom
empty_script_first_version = refl

pub group_by_one_table_first_version :
    output (Ordering One) (lines_text (
    codes "@setup"
    ∷ codes "CREATE TABLE T (G VARCHAR2(4), A NUMBER);"
    ∷ codes "INSERT INTO T VALUES ('P',10),('P',5),('Q',NULL);"
    ∷ codes "SELECT G, SUM(A), COUNT(*) FROM T GROUP BY G;"
    ∷ codes "@end"
    ∷ []))
    ≡ Ok (lines_text (
    codes "0.1 DONE SCN 1 READ 0"
    ∷ codes "0.2 COMMITTED SCN 2 ROWS 3 READ 0 VIEWS 0"
    ∷ codes "0.3 ANSWER SCN 2 PLAN BASE READ 3 ROWS 2"
    ∷ codes "P|15|2"
    ∷ codes "Q||1"
    ∷ codes "journal 0.1.1 0.2.1 0.3.1"
    ∷ []))
unfolding digits utf8_valid_len is_utf8 chars lib.Utf8.encode tokens_of front_of next_record strip_bom
group_by_one_table_first_version = refl

-- `check` takes the version from the first line of the transcript.
pub check_second :
    output Checking (lines_text (
    codes "@setup"
    ∷ codes "CREATE TABLE T (D DATE);"
    ∷ codes "INSERT INTO T VALUES (DATE '2024-02-29');"
    ∷ codes "SELECT D FROM T;"
    ∷ codes "@end"
    ∷ codes "mviewdb 2"
    ∷ codes "0.1 DONE SCN 1 READ 0"
    ∷ codes "0.2 COMMITTED SCN 2 ROWS 1 READ 0 VIEWS 0"
    ∷ codes "0.3 ANSWER SCN 2 PLAN BASE READ 1 ROWS 1"
    ∷ codes "2024-02-29"
    ∷ codes "journal 0.1.1 0.2.1 0.3.1"
    ∷ []))
    ≡ Ok (lines_text (codes "check ok" ∷ []))
unfolding digits utf8_valid_len is_utf8 chars lib.Utf8.encode tokens_of front_of next_record strip_bom
check_second = refl

-- Without that line it is the first version.
pub check_first :
    output Checking (lines_text (
    codes "@setup"
    ∷ codes "CREATE TABLE T (D DATE);"
    ∷ codes "INSERT INTO T VALUES (DATE '2024-02-29');"
    ∷ codes "SELECT D FROM T;"
    ∷ codes "@end"
    ∷ codes "0.1 DONE SCN 1 READ 0"
    ∷ codes "0.2 COMMITTED SCN 2 ROWS 1 READ 0 VIEWS 0"
    ∷ codes "0.3 ANSWER SCN 2 PLAN BASE READ 1 ROWS 1"
    ∷ codes "19782"
    ∷ codes "journal 0.1.1 0.2.1 0.3.1"
    ∷ []))
    ≡ Ok (lines_text (codes "check ok" ∷ []))
unfolding digits utf8_valid_len is_utf8 chars lib.Utf8.encode tokens_of front_of next_record strip_bom
check_first = refl

-- A date isn't how the first version prints a day.
pub check_date_in_first :
    output Checking (lines_text (
    codes "@setup"
    ∷ codes "CREATE TABLE T (D DATE);"
    ∷ codes "INSERT INTO T VALUES (DATE '2024-02-29');"
    ∷ codes "SELECT D FROM T;"
    ∷ codes "@end"
    ∷ codes "0.1 DONE SCN 1 READ 0"
    ∷ codes "0.2 COMMITTED SCN 2 ROWS 1 READ 0 VIEWS 0"
    ∷ codes "0.3 ANSWER SCN 2 PLAN BASE READ 1 ROWS 1"
    ∷ codes "2024-02-29"
    ∷ codes "journal 0.1.1 0.2.1 0.3.1"
    ∷ []))
    ≡ Ok (lines_text (codes "check differs at byte 105" ∷ []))
unfolding digits utf8_valid_len is_utf8 chars lib.Utf8.encode tokens_of front_of next_record strip_bom
check_date_in_first = refl

-- Nor a number in the second.
pub check_number_in_second :
    output Checking (lines_text (
    codes "@setup"
    ∷ codes "CREATE TABLE T (D DATE);"
    ∷ codes "INSERT INTO T VALUES (DATE '2024-02-29');"
    ∷ codes "SELECT D FROM T;"
    ∷ codes "@end"
    ∷ codes "mviewdb 2"
    ∷ codes "0.1 DONE SCN 1 READ 0"
    ∷ codes "0.2 COMMITTED SCN 2 ROWS 1 READ 0 VIEWS 0"
    ∷ codes "0.3 ANSWER SCN 2 PLAN BASE READ 1 ROWS 1"
    ∷ codes "19782"
    ∷ codes "journal 0.1.1 0.2.1 0.3.1"
    ∷ []))
    ≡ Ok (lines_text (codes "check differs at byte 115" ∷ []))
unfolding digits utf8_valid_len is_utf8 chars lib.Utf8.encode tokens_of front_of next_record strip_bom
check_number_in_second = refl

-- The line alone stands before the journal of an empty script.
pub check_empty_second :
    output Checking (lines_text (
    codes "@end"
    ∷ codes "mviewdb 2"
    ∷ codes "journal"
    ∷ []))
    ≡ Ok (lines_text (codes "check ok" ∷ []))
unfolding digits utf8_valid_len is_utf8 chars lib.Utf8.encode tokens_of front_of next_record strip_bom
check_empty_second = refl

-- A line with a blank more is another line.
pub check_no_blank :
    output Checking (lines_text (
    codes "@end"
    ∷ codes "mviewdb 2 "
    ∷ codes "journal"
    ∷ []))
    ≡ Ok (lines_text (codes "check differs at byte 0" ∷ []))
unfolding digits utf8_valid_len is_utf8 chars lib.Utf8.encode tokens_of front_of next_record strip_bom
check_no_blank = refl

-- The line alone has no journal.
pub check_no_lines :
    output Checking (lines_text (
    codes "@end"
    ∷ codes "mviewdb 2"
    ∷ []))
    ≡ Ok (lines_text (codes "check no journal" ∷ []))
unfolding digits utf8_valid_len is_utf8 chars lib.Utf8.encode tokens_of front_of next_record strip_bom
check_no_lines = refl
