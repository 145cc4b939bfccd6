use Rattle.wh_base.specs.Lists.{count_from}
use Rattle.wh_base.specs.Values.{parted_by}
use Rattle.std.specs.Prelude.{List, Ok, [], codes, decimal, map, refl, ℕ, ◌++◌, ◌∷◌, ◌≡◌}
use Rattle.def_rows.specs.Lines.{Ordering, Two, chars, digits, front_of, is_utf8, lines_text, output, tokens_of, utf8_valid_len}

-- A table has at most 16 columns.
pub seventeen_columns :
    output (Ordering Two) (lines_text (
    codes "@setup"
    ∷ codes "CREATE TABLE T (C1 NUMBER, C2 NUMBER, C3 NUMBER, C4 NUMBER, C5 NUMBER, C6 NUMBER, C7 NUMBER, C8 NUMBER, C9 NUMBER, C10 NUMBER, C11 NUMBER, C12 NUMBER, C13 NUMBER, C14 NUMBER, C15 NUMBER, C16 NUMBER, C17 NUMBER);"
    ∷ codes "@end"
    ∷ []))
    ≡ Ok (lines_text (
    codes "mviewdb 2"
    ∷ codes "0.1 REFUSED MV-16 COLUMNS READ 0"
    ∷ codes "journal 0.1.1"
    ∷ []))
unfolding digits utf8_valid_len is_utf8 chars lib.Utf8.encode tokens_of front_of
seventeen_columns = refl

-- A partition as it is written: P7 has the values below 7.
abbrev part : ℕ → List ℕ
part n = codes "PARTITION P" ++ (decimal n ++ (codes " VALUES LESS THAN (" ++ (decimal n ++ codes ")")))

-- A table with so many partitions.
abbrev table_with : ℕ → List ℕ
table_with n = codes "CREATE TABLE T (A NUMBER) PARTITION BY RANGE (A) (" ++ (parted_by 44 (map part (count_from 1 n)) ++ codes ");")

-- A table has at most 256 partitions when it is created.
pub too_many_partitions :
    output (Ordering Two) (lines_text (codes "@setup" ∷ table_with 257 ∷ codes "@end" ∷ []))
    ≡ Ok (lines_text (codes "mviewdb 2" ∷ codes "0.1 REFUSED MV-16 PARTITIONS READ 0" ∷ codes "journal 0.1.1" ∷ []))
unfolding digits utf8_valid_len is_utf8 chars lib.Utf8.encode tokens_of front_of
too_many_partitions = refl

-- It has at most 256 partitions later, too.
pub one_partition_more :
    output (Ordering Two) (lines_text (
    codes "@setup"
    ∷ table_with 256
    ∷ codes "ALTER TABLE T ADD PARTITION P257 VALUES LESS THAN (257);"
    ∷ codes "@end"
    ∷ []))
    ≡ Ok (lines_text (
    codes "mviewdb 2"
    ∷ codes "0.1 DONE SCN 1 READ 0"
    ∷ codes "0.2 REFUSED MV-16 PARTITIONS READ 0"
    ∷ codes "journal 0.1.1 0.2.1"
    ∷ []))
unfolding digits utf8_valid_len is_utf8 chars lib.Utf8.encode tokens_of front_of
one_partition_more = refl
