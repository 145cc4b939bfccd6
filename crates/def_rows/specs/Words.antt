-- The words that the program knows.
use Rattle.std.specs.Prelude.{None, Some, [], codes, refl, ◌∷◌, ◌≡◌}
use Rattle.def_rows.specs.Lines.{Checking, Generating, One, Ordering, Two, digits, form_of, run_version}

-- `order` runs the script in its own order, and writes the second version of the transcript.
pub order : form_of (codes "order" ∷ []) ≡ Some (Ordering Two)
unfolding digits
order = refl

-- `order 1` writes the first version.
pub order_1 : form_of (codes "order" ∷ codes "1" ∷ []) ≡ Some (Ordering One)
unfolding digits
order_1 = refl

-- There is no other version to ask for, and `check` tells it from the transcript.
pub order_2 : form_of (codes "order" ∷ codes "2" ∷ []) ≡ None
unfolding digits
order_2 = refl

pub check_1 : form_of (codes "check" ∷ codes "1" ∷ []) ≡ None
unfolding digits
check_1 = refl

-- `check` compares a transcript with the script's own.
pub check : form_of (codes "check" ∷ []) ≡ Some Checking
unfolding digits
check = refl

-- `gen` takes a number up to 100000.
pub gen_most : form_of (codes "gen" ∷ codes "100000" ∷ []) ≡ Some (Generating 100000)
unfolding digits
gen_most = refl

-- The least number is 1.
pub gen_none : form_of (codes "gen" ∷ codes "0" ∷ []) ≡ None
unfolding digits
gen_none = refl

-- There is no greater number than 100000.
pub gen_too_many : form_of (codes "gen" ∷ codes "100001" ∷ []) ≡ None
unfolding digits
gen_too_many = refl

-- A number has no leading zero.
pub gen_leading_zero : form_of (codes "gen" ∷ codes "01" ∷ []) ≡ None
unfolding digits
gen_leading_zero = refl

-- No words at all are no form.
pub no_words : form_of [] ≡ None
unfolding digits
no_words = refl

-- Words in other letters are no form.
pub other_letters : form_of (codes "ORDER" ∷ []) ≡ None
unfolding digits
other_letters = refl

-- `run` is the form whose output isn't determined, in the second version.
pub run : run_version (codes "run" ∷ []) ≡ Some Two
unfolding digits
run = refl

-- `run 1` is the same in the first one.
pub run_1 : run_version (codes "run" ∷ codes "1" ∷ []) ≡ Some One
unfolding digits
run_1 = refl

-- No other word follows.
pub run_2 : run_version (codes "run" ∷ codes "2" ∷ []) ≡ None
unfolding digits
run_2 = refl
