-- The form `check`: a script, and the transcript that is said to be its own.
use Rattle.std.specs.Prelude.{Ok, [], codes, refl, ◌∷◌, ◌≡◌}
use Rattle.def_rows.specs.Lines.{Checking, chars, digits, front_of, is_utf8, lines_text, next_record, output, strip_bom, tokens_of, utf8_valid_len}

-- The transcript of the empty script is its journal line.
pub empty_transcript :
    output Checking (lines_text (
    codes "@end"
    ∷ codes "journal"
    ∷ []))
    ≡ Ok (lines_text (codes "check ok" ∷ []))
unfolding digits utf8_valid_len is_utf8 chars lib.Utf8.encode tokens_of front_of next_record strip_bom
empty_transcript = refl

-- The last line is no journal line.
pub no_journal :
    output Checking (lines_text (
    codes "@end"
    ∷ codes "journax"
    ∷ []))
    ≡ Ok (lines_text (codes "check no journal" ∷ []))
unfolding digits utf8_valid_len is_utf8 chars lib.Utf8.encode tokens_of front_of next_record strip_bom
no_journal = refl

-- The last line is a journal line, but the script has no session 1.
pub other_session :
    output Checking (lines_text (
    codes "@end"
    ∷ codes "journal 1.1.1"
    ∷ []))
    ≡ Ok (lines_text (codes "check no journal" ∷ []))
unfolding digits utf8_valid_len is_utf8 chars lib.Utf8.encode tokens_of front_of next_record strip_bom
other_session = refl

-- The sessions took turns in another order than that of the script, which is legal.
pub another_order :
    output Checking (lines_text (
    codes "@setup"
    ∷ codes "CREATE TABLE T (A NUMBER);"
    ∷ codes "@session 1"
    ∷ codes "INSERT INTO T VALUES (1);"
    ∷ codes "@session 2"
    ∷ codes "SELECT COUNT(*) FROM T;"
    ∷ codes "@end"
    ∷ codes "0.1 DONE SCN 1 READ 0"
    ∷ codes "1.1 COMMITTED SCN 2 ROWS 1 READ 0 VIEWS 0"
    ∷ codes "2.1 ANSWER SCN 1 PLAN BASE READ 0 ROWS 1"
    ∷ codes "0"
    ∷ codes "journal 0.1.1 2.1.1 1.1.1"
    ∷ []))
    ≡ Ok (lines_text (codes "check ok" ∷ []))
unfolding digits utf8_valid_len is_utf8 chars lib.Utf8.encode tokens_of front_of next_record strip_bom
another_order = refl

-- The same with a wrong count in the answer: the place is that of its digit, counted from 0.
pub wrong_count :
    output Checking (lines_text (
    codes "@setup"
    ∷ codes "CREATE TABLE T (A NUMBER);"
    ∷ codes "@session 1"
    ∷ codes "INSERT INTO T VALUES (1);"
    ∷ codes "@session 2"
    ∷ codes "SELECT COUNT(*) FROM T;"
    ∷ codes "@end"
    ∷ codes "0.1 DONE SCN 1 READ 0"
    ∷ codes "1.1 COMMITTED SCN 2 ROWS 1 READ 0 VIEWS 0"
    ∷ codes "2.1 ANSWER SCN 1 PLAN BASE READ 0 ROWS 1"
    ∷ codes "1"
    ∷ codes "journal 0.1.1 2.1.1 1.1.1"
    ∷ []))
    ≡ Ok (lines_text (codes "check differs at byte 105" ∷ []))
unfolding digits utf8_valid_len is_utf8 chars lib.Utf8.encode tokens_of front_of next_record strip_bom
wrong_count = refl

-- A line that the transcript doesn't have.
pub line_before_journal :
    output Checking (lines_text (
    codes "@end"
    ∷ codes "x"
    ∷ codes "journal"
    ∷ []))
    ≡ Ok (lines_text (codes "check differs at byte 0" ∷ []))
unfolding digits utf8_valid_len is_utf8 chars lib.Utf8.encode tokens_of front_of next_record strip_bom
line_before_journal = refl
