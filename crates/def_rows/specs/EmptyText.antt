use Rattle.std.specs.Prelude.{Ok, [], codes, refl, ◌∷◌, ◌≡◌}
use Rattle.def_rows.specs.Lines.{Ordering, Two, chars, digits, front_of, is_utf8, lines_text, output, tokens_of, utf8_valid_len}

-- A text of length zero is NULL.
pub empty_text_is_null :
    output (Ordering Two) (lines_text (
    codes "@setup"
    ∷ codes "CREATE TABLE C (N VARCHAR2(3) NOT NULL);"
    ∷ codes "INSERT INTO C VALUES ('');"
    ∷ codes "@end"
    ∷ []))
    ≡ Ok (lines_text (
    codes "mviewdb 2"
    ∷ codes "0.1 DONE SCN 1 READ 0"
    ∷ codes "0.2 REFUSED MV-05 AT 1 C N READ 0"
    ∷ codes "journal 0.1.1 0.2.1"
    ∷ []))
unfolding digits utf8_valid_len is_utf8 chars lib.Utf8.encode tokens_of front_of
empty_text_is_null = refl
