-- The form `check`: a journal line read back, and two transcripts compared.
use Rattle.std.specs.List.{list_all}
use Rattle.std.specs.Prelude.{Bool, List, None, Option, Some, [], codes, cond, decimal, drop, false, filter_map, map, nat_lt, option_and_then, suc, unwrap_or, ℕ, ◌&&◌, ◌++◌, ◌==◌, ◌^◌, ◌∷◌}
use Rattle.wh_base.specs.Lists.{head, last, option_case, same_text, where_true}
use Rattle.wh_base.specs.Values.{digits_number}
use Rattle.wh_base.specs.declared.statements.Entry.{Entry}
use Rattle.wh_base.specs.declared.statements.Script.{Script}
use Rattle.wh_base.specs.declared.values.Version.{Version}
use Rattle.wh_base.specs.declared.values.Version.TheVariants.{One, Two}
use Rattle.def_grammar.specs.Lines.{without_last}
use Rattle.def_grammar.specs.Reading.{mark}
use Rattle.def_journal.specs.Journal.{is_legal}
use Rattle.def_transcript.specs.Texts.{journal_line}
use Rattle.def_transcript.specs.Transcript.{transcript}

-- ---- a journal line

-- The byte in front of the first piece.
abbrev pub onto_word : ℕ → List (List ℕ) → List (List ℕ)
onto_word b [] = (b ∷ []) ∷ []
onto_word b (w ∷ ws) = (b ∷ w) ∷ ws

-- The pieces between the bytes that equal the mark; there is always at least one.
abbrev pub split_at : ℕ → List ℕ → List (List ℕ)
split_at mark [] = [] ∷ []
split_at mark (b ∷ bs) = cond (b == mark) ([] ∷ split_at mark bs) (onto_word b (split_at mark bs))

-- The entry of this worker and of three numbers: session, command and part.
abbrev pub entry_of_numbers : ℕ → List (Option ℕ) → Option Entry
entry_of_numbers w (Some s ∷ Some k ∷ Some p ∷ []) = Some (record { session = s; command = k; part = p; worker = w })
entry_of_numbers w _ = None

-- The entry that the pieces of a word name: the numbers, and behind @ the worker, where it isn't the session's own.
abbrev pub entry_of_pieces : List (List ℕ) → Option Entry
entry_of_pieces [] = None
entry_of_pieces (w ∷ []) = entry_of_numbers 0 (map digits_number (split_at 46 w))
entry_of_pieces (w ∷ x ∷ []) = option_and_then (λ n. entry_of_numbers n (map digits_number (split_at 46 w))) (digits_number x)
entry_of_pieces (w ∷ x ∷ y ∷ more) = None

-- The entry that a word names, where it has the form of one.
abbrev pub entry_in : List ℕ → Option Entry
entry_in w = entry_of_pieces (split_at 64 w)

-- The entries that the words after the first one name.
abbrev pub entries_in : List ℕ → List Entry
entries_in line = filter_map entry_in (drop 1 (split_at 32 line))

-- The numbers of the entry stay below 2^32.
abbrev pub entry_fits : Entry → Bool
entry_fits e = nat_lt e.session (2 ^ 32) && (nat_lt e.command (2 ^ 32) && (nat_lt e.part (2 ^ 32) && nat_lt e.worker (2 ^ 32)))

-- The journal of which this is the line, byte for byte, with numbers that fit; none where there is no such journal.
abbrev pub read_journal : List ℕ → Option (List Entry)
read_journal line =
    let journal = entries_in line in
    where_true (list_all entry_fits journal && same_text (journal_line journal) line) journal

-- ---- the last line

-- The bytes without one LF at their end.
abbrev pub without_line_end : List ℕ → List ℕ
without_line_end bytes = without_last 10 bytes

-- What follows the last LF that has a byte after it, without one LF at its end; the whole where there is no such LF.
abbrev pub last_line : List ℕ → List ℕ
last_line bytes = unwrap_or (last (split_at 10 (without_line_end bytes))) []

-- ---- comparing

-- The first place at which two texts differ; where one is the beginning of the other, the length of
-- the shorter; none where they are equal. Places are counted on from n.
abbrev pub difference : ℕ → List ℕ → List ℕ → Option ℕ
difference n [] [] = None
difference n [] (b ∷ bs) = Some n
difference n (a ∷ rest) [] = Some n
difference n (a ∷ rest) (b ∷ bs) = cond (a == b) (difference (suc n) rest bs) (Some n)

-- The line with its LF.
abbrev pub line_text : List ℕ → List ℕ
line_text l = l ++ 10 ∷ []

-- The version of a transcript: the second exactly where its first line says so.
abbrev pub given_version : List ℕ → Version
given_version given = cond (option_case (head (split_at 10 given)) false (same_text (codes "mviewdb 2"))) Two One

-- What the comparison prints.
abbrev pub difference_line : Option ℕ → List ℕ
difference_line None = codes "check ok"
difference_line (Some n) = codes "check differs at byte " ++ decimal n

-- The journal that the last line of a transcript names, where it is a legal journal of the script.
abbrev pub given_journal : Script → List ℕ → Option (List Entry)
given_journal script given = option_and_then (λ journal. where_true (is_legal script journal) journal) (read_journal (last_line given))

-- `no journal` where there is none; else the script is run under that journal, and all bytes of the two transcripts are compared, in
-- the version of the one that is given.
abbrev pub check_line : Script → List ℕ → Option (List Entry) → List ℕ
check_line script given None = codes "check no journal"
check_line script given (Some journal) = difference_line (difference 0 (transcript (given_version given) script journal) given)

-- What `check` writes for a script and the transcript that follows it.
abbrev pub checked : Script → List ℕ → List ℕ
checked script given = line_text (check_line script given (given_journal script given))
