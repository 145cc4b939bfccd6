-- Faults of @workers, of SUBMIT and of lists of views.
use Rattle.std.specs.Prelude.{Err, [], codes, refl, ◌∷◌, ◌≡◌}
use Rattle.wh_base.specs.declared.statements.ScriptKind.TheVariants as kinds
use Rattle.def_rows.specs.Lines.{Ordering, Two, chars, digits, front_of, is_utf8, lines_text, output, tokens_of, utf8_valid_len}

-- There are 1 to 8 workers.
pub workers_number :
    output (Ordering Two) (lines_text (
    codes "@setup"
    ∷ codes "@workers 9"
    ∷ codes "@end"
    ∷ []))
    ≡ Err (record { line = 2; kind = kinds.SessionNumber })
unfolding digits utf8_valid_len is_utf8 chars lib.Utf8.encode tokens_of front_of
workers_number = refl

-- @workers stands behind the setup and before the sessions.
pub workers_late :
    output (Ordering Two) (lines_text (
    codes "@session 1"
    ∷ codes "@workers 1"
    ∷ codes "@end"
    ∷ []))
    ≡ Err (record { line = 2; kind = kinds.Misplaced })
unfolding digits utf8_valid_len is_utf8 chars lib.Utf8.encode tokens_of front_of
workers_late = refl

-- It stands once.
pub workers_twice :
    output (Ordering Two) (lines_text (
    codes "@workers 1"
    ∷ codes "@workers 1"
    ∷ codes "@end"
    ∷ []))
    ≡ Err (record { line = 2; kind = kinds.Misplaced })
unfolding digits utf8_valid_len is_utf8 chars lib.Utf8.encode tokens_of front_of
workers_twice = refl

-- The setup comes before it.
pub setup_behind_workers :
    output (Ordering Two) (lines_text (
    codes "@workers 1"
    ∷ codes "@setup"
    ∷ codes "@end"
    ∷ []))
    ≡ Err (record { line = 2; kind = kinds.Misplaced })
unfolding digits utf8_valid_len is_utf8 chars lib.Utf8.encode tokens_of front_of
setup_behind_workers = refl

-- It begins no section.
pub text_behind_workers :
    output (Ordering Two) (lines_text (
    codes "@workers 1"
    ∷ codes "SHOW VIEW V;"
    ∷ codes "@end"
    ∷ []))
    ≡ Err (record { line = 2; kind = kinds.Misplaced })
unfolding digits utf8_valid_len is_utf8 chars lib.Utf8.encode tokens_of front_of
text_behind_workers = refl

-- It ends the setup.
pub open_at_workers :
    output (Ordering Two) (lines_text (
    codes "@setup"
    ∷ codes "SHOW VIEW V"
    ∷ codes "@workers 0"
    ∷ codes "@end"
    ∷ []))
    ≡ Err (record { line = 2; kind = kinds.OpenStatement })
unfolding digits utf8_valid_len is_utf8 chars lib.Utf8.encode tokens_of front_of
open_at_workers = refl

-- It has one word.
pub workers_without_number :
    output (Ordering Two) (lines_text (
    codes "@workers"
    ∷ codes "@end"
    ∷ []))
    ≡ Err (record { line = 1; kind = kinds.UnknownDirective })
unfolding digits utf8_valid_len is_utf8 chars lib.Utf8.encode tokens_of front_of
workers_without_number = refl

-- SUBMIT stands in sessions alone.
pub submit_in_setup :
    output (Ordering Two) (lines_text (
    codes "@setup"
    ∷ codes "SUBMIT EXEC DBMS_MVIEW.REFRESH('V');"
    ∷ codes "@end"
    ∷ []))
    ≡ Err (record { line = 2; kind = kinds.Misplaced })
unfolding digits utf8_valid_len is_utf8 chars lib.Utf8.encode tokens_of front_of
submit_in_setup = refl

-- It stands in no block.
pub submit_in_block :
    output (Ordering Two) (lines_text (
    codes "@session 1"
    ∷ codes "BEGIN;"
    ∷ codes "SUBMIT EXEC DBMS_MVIEW.REFRESH('V');"
    ∷ codes "COMMIT;"
    ∷ codes "@end"
    ∷ []))
    ≡ Err (record { line = 3; kind = kinds.Misplaced })
unfolding digits utf8_valid_len is_utf8 chars lib.Utf8.encode tokens_of front_of
submit_in_block = refl

-- It is of one view.
pub submit_of_list :
    output (Ordering Two) (lines_text (
    codes "@setup"
    ∷ codes "SUBMIT EXEC DBMS_MVIEW.REFRESH('V,W');"
    ∷ codes "@end"
    ∷ []))
    ≡ Err (record { line = 2; kind = kinds.Syntax })
unfolding digits utf8_valid_len is_utf8 chars lib.Utf8.encode tokens_of front_of
submit_of_list = refl

-- It is of a refresh.
pub submit_of_other :
    output (Ordering Two) (lines_text (
    codes "@session 1"
    ∷ codes "SUBMIT SHOW VIEW V;"
    ∷ codes "@end"
    ∷ []))
    ≡ Err (record { line = 2; kind = kinds.Syntax })
unfolding digits utf8_valid_len is_utf8 chars lib.Utf8.encode tokens_of front_of
submit_of_other = refl

-- Spaces stand around the commas of a list, and not at its ends.
pub names_with_blank :
    output (Ordering Two) (lines_text (
    codes "@session 1"
    ∷ codes "EXEC DBMS_MVIEW.REFRESH('V ,W ');"
    ∷ codes "@end"
    ∷ []))
    ≡ Err (record { line = 2; kind = kinds.Syntax })
unfolding digits utf8_valid_len is_utf8 chars lib.Utf8.encode tokens_of front_of
names_with_blank = refl

-- Each name is there.
pub name_missing :
    output (Ordering Two) (lines_text (
    codes "@session 1"
    ∷ codes "EXEC DBMS_MVIEW.REFRESH('V,,W');"
    ∷ codes "@end"
    ∷ []))
    ≡ Err (record { line = 2; kind = kinds.Syntax })
unfolding digits utf8_valid_len is_utf8 chars lib.Utf8.encode tokens_of front_of
name_missing = refl

-- A SUBMIT has one part for its session.
pub submit_has_one_part :
    output (Ordering Two) (lines_text (
    codes "@session 1"
    ∷ codes "SUBMIT EXEC DBMS_MVIEW.REFRESH('V');"
    ∷ codes "@order 1 1"
    ∷ codes "@end"
    ∷ []))
    ≡ Err (record { line = 3; kind = kinds.OrderTooLong })
unfolding digits utf8_valid_len is_utf8 chars lib.Utf8.encode tokens_of front_of
submit_has_one_part = refl
