-- Bytes that are no UTF-8, beside other faults on their line: the first place is told, and on one place these bytes before what is
-- wrong with a session number.
use Rattle.std.specs.Prelude.{Err, [], codes, refl, ◌++◌, ◌∷◌, ◌≡◌}
use Rattle.def_rows.specs.Lines.{Ordering, Two, chars, digits, front_of, is_utf8, lines_text, next_record, output, strip_bom, tokens_of, utf8_valid_len}
use Rattle.wh_base.specs.declared.statements.ScriptKind.TheVariants.{BadCharacter, Misplaced, NotUtf8, OpenQuote, SessionNumber, Syntax, UnknownDirective}

-- A word that begins with such a byte.
pub session_of_no_text :
    output (Ordering Two) (lines_text (
    codes "@setup"
    ∷ (codes "@session " ++ (255 ∷ []))
    ∷ codes "@end"
    ∷ []))
    ≡ Err (record { line = 2; kind = NotUtf8 })
unfolding digits utf8_valid_len is_utf8 chars lib.Utf8.encode tokens_of front_of next_record strip_bom
session_of_no_text = refl

-- A word that begins before it.
pub session_with_no_text :
    output (Ordering Two) (lines_text (
    codes "@setup"
    ∷ (codes "@session 1" ++ (255 ∷ []))
    ∷ codes "@end"
    ∷ []))
    ≡ Err (record { line = 2; kind = SessionNumber })
unfolding digits utf8_valid_len is_utf8 chars lib.Utf8.encode tokens_of front_of next_record strip_bom
session_with_no_text = refl

pub order_of_no_text :
    output (Ordering Two) (lines_text (
    codes "@session 1"
    ∷ codes "COMMIT;"
    ∷ (codes "@order 1 " ++ ((255 ∷ []) ++ codes " x"))
    ∷ codes "@end"
    ∷ []))
    ≡ Err (record { line = 3; kind = NotUtf8 })
unfolding digits utf8_valid_len is_utf8 chars lib.Utf8.encode tokens_of front_of next_record strip_bom
order_of_no_text = refl

-- A word before it is no session number either.
pub order_with_a_word_before :
    output (Ordering Two) (lines_text (
    codes "@session 1"
    ∷ codes "COMMIT;"
    ∷ (codes "@order x " ++ (255 ∷ []))
    ∷ codes "@end"
    ∷ []))
    ≡ Err (record { line = 3; kind = SessionNumber })
unfolding digits utf8_valid_len is_utf8 chars lib.Utf8.encode tokens_of front_of next_record strip_bom
order_with_a_word_before = refl

-- The line is no directive, which is told on its first byte.
pub directive_with_no_text :
    output (Ordering Two) (lines_text (
    codes "@setup"
    ∷ (codes "@session 1 " ++ (255 ∷ []))
    ∷ codes "@end"
    ∷ []))
    ≡ Err (record { line = 2; kind = UnknownDirective })
unfolding digits utf8_valid_len is_utf8 chars lib.Utf8.encode tokens_of front_of next_record strip_bom
directive_with_no_text = refl

-- A character of two bytes without its second.
pub cut_character :
    output (Ordering Two) (lines_text (
    codes "@setup"
    ∷ (codes "@session " ++ (195 ∷ []))
    ∷ codes "@end"
    ∷ []))
    ≡ Err (record { line = 2; kind = NotUtf8 })
unfolding digits utf8_valid_len is_utf8 chars lib.Utf8.encode tokens_of front_of next_record strip_bom
cut_character = refl

-- A text that is closed behind such a byte is closed.
pub closed_text :
    output (Ordering Two) (lines_text (
    codes "@setup"
    ∷ (codes "SELECT 'a" ++ ((255 ∷ []) ++ codes "' FROM T;"))
    ∷ codes "@end"
    ∷ []))
    ≡ Err (record { line = 2; kind = NotUtf8 })
unfolding digits utf8_valid_len is_utf8 chars lib.Utf8.encode tokens_of front_of next_record strip_bom
closed_text = refl

-- One that isn't is told where it begins.
pub open_text :
    output (Ordering Two) (lines_text (
    codes "@setup"
    ∷ (codes "SELECT 'a" ++ ((255 ∷ []) ++ codes " FROM T;"))
    ∷ codes "@end"
    ∷ []))
    ≡ Err (record { line = 2; kind = OpenQuote })
unfolding digits utf8_valid_len is_utf8 chars lib.Utf8.encode tokens_of front_of next_record strip_bom
open_text = refl

pub closed_on_the_next_line :
    output (Ordering Two) (lines_text (
    codes "@setup"
    ∷ (codes "SELECT 'a" ++ (255 ∷ []))
    ∷ codes "' FROM T;"
    ∷ codes "@end"
    ∷ []))
    ≡ Err (record { line = 2; kind = OpenQuote })
unfolding digits utf8_valid_len is_utf8 chars lib.Utf8.encode tokens_of front_of next_record strip_bom
closed_on_the_next_line = refl

-- A quote that is doubled closes nothing.
pub doubled_quote :
    output (Ordering Two) (lines_text (
    codes "@setup"
    ∷ (codes "SELECT 'a" ++ ((255 ∷ []) ++ codes "'' FROM T;"))
    ∷ codes "@end"
    ∷ []))
    ≡ Err (record { line = 2; kind = OpenQuote })
unfolding digits utf8_valid_len is_utf8 chars lib.Utf8.encode tokens_of front_of next_record strip_bom
doubled_quote = refl

-- A statement in no section begins with its text.
pub text_in_no_section :
    output (Ordering Two) (lines_text (
    (codes "'a" ++ ((255 ∷ []) ++ codes "';"))
    ∷ codes "@end"
    ∷ []))
    ≡ Err (record { line = 1; kind = Misplaced })
unfolding digits utf8_valid_len is_utf8 chars lib.Utf8.encode tokens_of front_of next_record strip_bom
text_in_no_section = refl

pub bad_character_before :
    output (Ordering Two) (lines_text (
    codes "@setup"
    ∷ (codes "SELECT ! 'a" ++ ((255 ∷ []) ++ codes "' FROM T;"))
    ∷ codes "@end"
    ∷ []))
    ≡ Err (record { line = 2; kind = BadCharacter })
unfolding digits utf8_valid_len is_utf8 chars lib.Utf8.encode tokens_of front_of next_record strip_bom
bad_character_before = refl

pub bad_character_behind :
    output (Ordering Two) (lines_text (
    codes "@setup"
    ∷ (codes "SELECT 'a" ++ ((255 ∷ []) ++ codes "' ! FROM T;"))
    ∷ codes "@end"
    ∷ []))
    ≡ Err (record { line = 2; kind = NotUtf8 })
unfolding digits utf8_valid_len is_utf8 chars lib.Utf8.encode tokens_of front_of next_record strip_bom
bad_character_behind = refl

-- The statement isn't asked for its syntax.
pub no_syntax_is_asked :
    output (Ordering Two) (lines_text (
    codes "@setup"
    ∷ (codes "SELECT FROM 'a" ++ ((255 ∷ []) ++ codes "';"))
    ∷ codes "@end"
    ∷ []))
    ≡ Err (record { line = 2; kind = NotUtf8 })
unfolding digits utf8_valid_len is_utf8 chars lib.Utf8.encode tokens_of front_of next_record strip_bom
no_syntax_is_asked = refl

-- One that is closed before is.
pub syntax_before :
    output (Ordering Two) (lines_text (
    codes "@setup"
    ∷ (codes "SELECT FROM T; SELECT 'a" ++ ((255 ∷ []) ++ codes "';"))
    ∷ codes "@end"
    ∷ []))
    ≡ Err (record { line = 2; kind = Syntax })
unfolding digits utf8_valid_len is_utf8 chars lib.Utf8.encode tokens_of front_of next_record strip_bom
syntax_before = refl

-- A comment has to be text too.
pub in_a_comment :
    output (Ordering Two) (lines_text (
    codes "@setup"
    ∷ (codes "SELECT A -- 'a" ++ (255 ∷ []))
    ∷ codes "FROM T;"
    ∷ codes "@end"
    ∷ []))
    ≡ Err (record { line = 2; kind = NotUtf8 })
unfolding digits utf8_valid_len is_utf8 chars lib.Utf8.encode tokens_of front_of next_record strip_bom
in_a_comment = refl

pub two_texts :
    output (Ordering Two) (lines_text (
    codes "@setup"
    ∷ (codes "SELECT 'a" ++ ((255 ∷ []) ++ (codes "', 'b" ++ ((255 ∷ []) ++ codes " FROM T;"))))
    ∷ codes "@end"
    ∷ []))
    ≡ Err (record { line = 2; kind = NotUtf8 })
unfolding digits utf8_valid_len is_utf8 chars lib.Utf8.encode tokens_of front_of next_record strip_bom
two_texts = refl
