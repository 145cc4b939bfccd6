-- One script for each kind of fault, with the line that it is told by.
use Rattle.std.specs.Prelude.{Err, [], codes, refl, ◌∷◌, ◌≡◌}
use Rattle.def_rows.specs.Lines.{Ordering, Two, chars, digits, front_of, is_utf8, lines_text, next_record, output, strip_bom, tokens_of, utf8_valid_len}
use Rattle.wh_base.specs.declared.statements.ScriptKind.TheVariants.{AfterEnd, BadCharacter, LoadShape, Misplaced, NoEnd, NotUtf8, OpenBlock, OpenLoad, OpenQuote, OpenStatement, OrderTooLong, OrderUnknown, SessionNumber, Syntax, UnknownDirective}

-- Bytes that are no UTF-8: a byte that opens a character of two bytes, and nothing that goes on with it.
pub not_utf8 :
    output (Ordering Two) (lines_text (
    codes "@setup"
    ∷ (195 ∷ [])
    ∷ []))
    ≡ Err (record { line = 2; kind = NotUtf8 })
unfolding digits utf8_valid_len is_utf8 chars lib.Utf8.encode tokens_of front_of next_record strip_bom
not_utf8 = refl

-- A name has at most 30 bytes; a longer one is no token.
pub long_name :
    output (Ordering Two) (lines_text (
    codes "@setup"
    ∷ codes "CREATE TABLE N23456789012345678901234567890X (A NUMBER);"
    ∷ codes "@end"
    ∷ []))
    ≡ Err (record { line = 2; kind = BadCharacter })
unfolding digits utf8_valid_len is_utf8 chars lib.Utf8.encode tokens_of front_of next_record strip_bom
long_name = refl

-- A text ends on its line.
pub open_quote :
    output (Ordering Two) (lines_text (
    codes "@setup"
    ∷ codes "SELECT 'a"
    ∷ []))
    ≡ Err (record { line = 2; kind = OpenQuote })
unfolding digits utf8_valid_len is_utf8 chars lib.Utf8.encode tokens_of front_of next_record strip_bom
open_quote = refl

-- There is no such directive.
pub unknown_directive :
    output (Ordering Two) (lines_text (
    codes "@setup"
    ∷ codes "CREATE TABLE T (A NUMBER);"
    ∷ codes "@finish"
    ∷ []))
    ≡ Err (record { line = 3; kind = UnknownDirective })
unfolding digits utf8_valid_len is_utf8 chars lib.Utf8.encode tokens_of front_of next_record strip_bom
unknown_directive = refl

-- A directive with words too many isn't one either, and it is told by its own line also inside a statement.
pub bad_words_of_a_directive :
    output (Ordering Two) (lines_text (
    codes "@setup"
    ∷ codes "SELECT A"
    ∷ codes "@end now"
    ∷ []))
    ≡ Err (record { line = 3; kind = UnknownDirective })
unfolding digits utf8_valid_len is_utf8 chars lib.Utf8.encode tokens_of front_of next_record strip_bom
bad_words_of_a_directive = refl

-- A statement in no section is out of its place.
pub outside_every_section :
    output (Ordering Two) (lines_text (
    codes "COMMIT;"
    ∷ []))
    ≡ Err (record { line = 1; kind = Misplaced })
unfolding digits utf8_valid_len is_utf8 chars lib.Utf8.encode tokens_of front_of next_record strip_bom
outside_every_section = refl

-- In a block the grammar has changes of rows and queries alone.
pub in_a_block :
    output (Ordering Two) (lines_text (
    codes "@setup"
    ∷ codes "BEGIN; COMMIT; BEGIN; DROP DIMENSION D; COMMIT;"
    ∷ codes "@end"
    ∷ []))
    ≡ Err (record { line = 2; kind = Misplaced })
unfolding digits utf8_valid_len is_utf8 chars lib.Utf8.encode tokens_of front_of next_record strip_bom
in_a_block = refl

-- Sessions are numbered 1 to 64.
pub session_65 :
    output (Ordering Two) (lines_text (
    codes "@setup"
    ∷ codes "@session 65"
    ∷ codes "@end"
    ∷ []))
    ≡ Err (record { line = 2; kind = SessionNumber })
unfolding digits utf8_valid_len is_utf8 chars lib.Utf8.encode tokens_of front_of next_record strip_bom
session_65 = refl

-- Session numbers ascend.
pub descending_sessions :
    output (Ordering Two) (lines_text (
    codes "@session 2"
    ∷ codes "@session 1"
    ∷ codes "@end"
    ∷ []))
    ≡ Err (record { line = 2; kind = SessionNumber })
unfolding digits utf8_valid_len is_utf8 chars lib.Utf8.encode tokens_of front_of next_record strip_bom
descending_sessions = refl

-- A statement that isn't in the grammar is told by the line of its first token.
pub no_items :
    output (Ordering Two) (lines_text (
    codes "@setup"
    ∷ codes "SELECT"
    ∷ codes "FROM T;"
    ∷ codes "@end"
    ∷ []))
    ≡ Err (record { line = 2; kind = Syntax })
unfolding digits utf8_valid_len is_utf8 chars lib.Utf8.encode tokens_of front_of next_record strip_bom
no_items = refl

-- A section ends inside a statement.
pub open_statement :
    output (Ordering Two) (lines_text (
    codes "@setup"
    ∷ []
    ∷ codes "SELECT A"
    ∷ codes "@session 1"
    ∷ codes "@end"
    ∷ []))
    ≡ Err (record { line = 3; kind = OpenStatement })
unfolding digits utf8_valid_len is_utf8 chars lib.Utf8.encode tokens_of front_of next_record strip_bom
open_statement = refl

-- A section ends inside a block.
pub open_block :
    output (Ordering Two) (lines_text (
    codes "@setup"
    ∷ codes "BEGIN;"
    ∷ codes "@end"
    ∷ []))
    ≡ Err (record { line = 2; kind = OpenBlock })
unfolding digits utf8_valid_len is_utf8 chars lib.Utf8.encode tokens_of front_of next_record strip_bom
open_block = refl

-- A LOAD block has no end.
pub open_load :
    output (Ordering Two) (lines_text (
    codes "@setup"
    ∷ codes "CREATE TABLE T (A NUMBER);"
    ∷ codes "@load T"
    ∷ codes "1"
    ∷ []))
    ≡ Err (record { line = 3; kind = OpenLoad })
unfolding digits utf8_valid_len is_utf8 chars lib.Utf8.encode tokens_of front_of next_record strip_bom
open_load = refl

-- The records of a LOAD block differ in their number of fields.
pub uneven_load :
    output (Ordering Two) (lines_text (
    codes "@setup"
    ∷ codes "CREATE TABLE T (A NUMBER, B NUMBER);"
    ∷ codes "@load T"
    ∷ codes "1,2"
    ∷ codes "3"
    ∷ codes "@endload"
    ∷ codes "@end"
    ∷ []))
    ≡ Err (record { line = 3; kind = LoadShape })
unfolding digits utf8_valid_len is_utf8 chars lib.Utf8.encode tokens_of front_of next_record strip_bom
uneven_load = refl

-- @order names a session that isn't there.
pub order_of_no_session :
    output (Ordering Two) (lines_text (
    codes "@session 1"
    ∷ codes "COMMIT;"
    ∷ codes "@order 2"
    ∷ codes "@end"
    ∷ []))
    ≡ Err (record { line = 3; kind = OrderUnknown })
unfolding digits utf8_valid_len is_utf8 chars lib.Utf8.encode tokens_of front_of next_record strip_bom
order_of_no_session = refl

-- @order has more turns than a session has parts.
pub order_too_long :
    output (Ordering Two) (lines_text (
    codes "@session 1"
    ∷ codes "COMMIT;"
    ∷ codes "@order 1 1"
    ∷ codes "@end"
    ∷ []))
    ≡ Err (record { line = 3; kind = OrderTooLong })
unfolding digits utf8_valid_len is_utf8 chars lib.Utf8.encode tokens_of front_of next_record strip_bom
order_too_long = refl

-- The script has no end; the line is its last one.
pub no_end :
    output (Ordering Two) (lines_text (
    codes "@setup"
    ∷ codes "CREATE TABLE T (A NUMBER);"
    ∷ []))
    ≡ Err (record { line = 2; kind = NoEnd })
unfolding digits utf8_valid_len is_utf8 chars lib.Utf8.encode tokens_of front_of next_record strip_bom
no_end = refl

-- Only white space follows @end.
pub after_end :
    output (Ordering Two) (lines_text (
    codes "@end"
    ∷ []
    ∷ codes "x"
    ∷ []))
    ≡ Err (record { line = 3; kind = AfterEnd })
unfolding digits utf8_valid_len is_utf8 chars lib.Utf8.encode tokens_of front_of next_record strip_bom
after_end = refl
