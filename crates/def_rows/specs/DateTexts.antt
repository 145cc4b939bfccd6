-- What reads as a date, and what doesn't.
use Rattle.std.specs.Prelude.{Err, Ok, [], codes, refl, ◌∷◌, ◌≡◌}
use Rattle.def_rows.specs.Lines.{Ordering, Two, chars, digits, front_of, is_utf8, lines_text, next_record, output, strip_bom, tokens_of, utf8_valid_len}
use Rattle.wh_base.specs.declared.statements.ScriptKind.TheVariants.{Syntax, UnknownDirective}

-- The calendar has no such day.
pub no_such_day :
    output (Ordering Two) (lines_text (
    codes "@setup"
    ∷ codes "SELECT D FROM H WHERE D = DATE '2023-02-29';"
    ∷ codes "@end"
    ∷ []))
    ≡ Err (record { line = 2; kind = Syntax })
unfolding digits utf8_valid_len is_utf8 chars lib.Utf8.encode tokens_of front_of next_record strip_bom
no_such_day = refl

pub no_such_month :
    output (Ordering Two) (lines_text (
    codes "@setup"
    ∷ codes "SELECT D FROM H WHERE D = DATE '2023-13-01';"
    ∷ codes "@end"
    ∷ []))
    ≡ Err (record { line = 2; kind = Syntax })
unfolding digits utf8_valid_len is_utf8 chars lib.Utf8.encode tokens_of front_of next_record strip_bom
no_such_month = refl

pub no_year_0 :
    output (Ordering Two) (lines_text (
    codes "@setup"
    ∷ codes "SELECT D FROM H WHERE D = DATE '0000-01-01';"
    ∷ codes "@end"
    ∷ []))
    ≡ Err (record { line = 2; kind = Syntax })
unfolding digits utf8_valid_len is_utf8 chars lib.Utf8.encode tokens_of front_of next_record strip_bom
no_year_0 = refl

-- Ten bytes, with two digits for the month.
pub one_digit_of_a_month :
    output (Ordering Two) (lines_text (
    codes "@setup"
    ∷ codes "SELECT D FROM H WHERE D = DATE '2023-2-028';"
    ∷ codes "@end"
    ∷ []))
    ≡ Err (record { line = 2; kind = Syntax })
unfolding digits utf8_valid_len is_utf8 chars lib.Utf8.encode tokens_of front_of next_record strip_bom
one_digit_of_a_month = refl

pub slashes :
    output (Ordering Two) (lines_text (
    codes "@setup"
    ∷ codes "INSERT INTO H VALUES (DATE '2023/02/28');"
    ∷ codes "@end"
    ∷ []))
    ≡ Err (record { line = 2; kind = Syntax })
unfolding digits utf8_valid_len is_utf8 chars lib.Utf8.encode tokens_of front_of next_record strip_bom
slashes = refl

pub date_in_a_bound :
    output (Ordering Two) (lines_text (
    codes "@setup"
    ∷ codes "CREATE TABLE H (D DATE) PARTITION BY RANGE (D) (PARTITION P VALUES LESS THAN (DATE ''));"
    ∷ codes "@end"
    ∷ []))
    ≡ Err (record { line = 2; kind = Syntax })
unfolding digits utf8_valid_len is_utf8 chars lib.Utf8.encode tokens_of front_of next_record strip_bom
date_in_a_bound = refl

-- A text follows the word.
pub number_behind_date :
    output (Ordering Two) (lines_text (
    codes "@setup"
    ∷ codes "SELECT D FROM H WHERE D = DATE 20230228;"
    ∷ codes "@end"
    ∷ []))
    ≡ Err (record { line = 2; kind = Syntax })
unfolding digits utf8_valid_len is_utf8 chars lib.Utf8.encode tokens_of front_of next_record strip_bom
number_behind_date = refl

-- A date is no expression.
pub date_in_an_expression :
    output (Ordering Two) (lines_text (
    codes "@setup"
    ∷ codes "SELECT MIN(DATE '2023-02-28') FROM H;"
    ∷ codes "@end"
    ∷ []))
    ≡ Err (record { line = 2; kind = Syntax })
unfolding digits utf8_valid_len is_utf8 chars lib.Utf8.encode tokens_of front_of next_record strip_bom
date_in_an_expression = refl

-- DATE is never a name.
pub column_of_that_name :
    output (Ordering Two) (lines_text (
    codes "@setup"
    ∷ codes "CREATE TABLE H (DATE DATE);"
    ∷ codes "@end"
    ∷ []))
    ≡ Err (record { line = 2; kind = Syntax })
unfolding digits utf8_valid_len is_utf8 chars lib.Utf8.encode tokens_of front_of next_record strip_bom
column_of_that_name = refl

-- The kind has no size.
pub size_of_a_date :
    output (Ordering Two) (lines_text (
    codes "@setup"
    ∷ codes "CREATE TABLE H (D DATE (7));"
    ∷ codes "@end"
    ∷ []))
    ≡ Err (record { line = 2; kind = Syntax })
unfolding digits utf8_valid_len is_utf8 chars lib.Utf8.encode tokens_of front_of next_record strip_bom
size_of_a_date = refl

pub load_of_that_name :
    output (Ordering Two) (lines_text (
    codes "@setup"
    ∷ codes "@load DATE"
    ∷ codes "@endload"
    ∷ codes "@end"
    ∷ []))
    ≡ Err (record { line = 2; kind = UnknownDirective })
unfolding digits utf8_valid_len is_utf8 chars lib.Utf8.encode tokens_of front_of next_record strip_bom
load_of_that_name = refl

-- Case doesn't matter, nor white space behind the word.
pub lower_case :
    output (Ordering Two) (lines_text (
    codes "@setup"
    ∷ codes "create table H (D date); insert into H values (date'2024-02-29'); select D from H where D in (date  '2024-02-29');"
    ∷ codes "@end"
    ∷ []))
    ≡ Ok (lines_text (
    codes "mviewdb 2"
    ∷ codes "0.1 DONE SCN 1 READ 0"
    ∷ codes "0.2 COMMITTED SCN 2 ROWS 1 READ 0 VIEWS 0"
    ∷ codes "0.3 ANSWER SCN 2 PLAN BASE READ 1 ROWS 1"
    ∷ codes "2024-02-29"
    ∷ codes "journal 0.1.1 0.2.1 0.3.1"
    ∷ []))
unfolding digits utf8_valid_len is_utf8 chars lib.Utf8.encode tokens_of front_of next_record strip_bom
lower_case = refl
