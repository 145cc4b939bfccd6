-- A line of words is its first word and the others behind spaces.
use Rattle.std.specs.Prelude.{Bool, List, None, Option, Some, [], codes, cond, decimal, drop, false, filter, map, not, slice_index, true, ℕ, ◌++◌, ◌==◌, ◌∷◌}
use Rattle.std.proofs.Common.{◌≡◌, ◌≢◌, ap, arith, length, refl, subst, sym, take}
use Rattle.std.proofs.lemmas.Grind.{common_steps}
use Rattle.wh_base.specs.Lists.{is_empty}
use Rattle.wh_base.specs.declared.replies.Code.{Code}
use Rattle.wh_base.specs.declared.replies.Code.TheVariants as code
use Rattle.wh_base.specs.declared.replies.Refusal.{Refusal}
use Rattle.wh_base.specs.declared.replies.Refusal.TheVariants.{NotStar}
use Rattle.wh_base.specs.declared.statements.Entry.{Entry}
use Rattle.wh_base.specs.declared.statements.Id.{Id}
use Rattle.def_transcript.specs.Texts.{at_words, code_text, entry_text, id_text, journal_line, refusal_words, words}
use Rattle.wh_render.specs.Pieces.{first_word, more_parts, more_words, statement_words, spaced}
use Rattle.wh_render.proofs.Parted.{parted-cons}

abbrev pub filled : List (List ℕ) → List (List ℕ)
filled ws = filter (λ w. not (is_empty w)) ws

more-filled : (ws : List (List ℕ)) → more_parts 32 (filled ws) ≡ more_words ws
unfolding spaced
more-filled [] = refl
more-filled ([] ∷ ws) = more-filled ws
more-filled ((b ∷ bs) ∷ ws) = ap (λ t. 32 ∷ (b ∷ bs) ++ t) (more-filled ws)

pub words-cons : (b : ℕ) (bs : List ℕ) (ws : List (List ℕ)) → words ((b ∷ bs) ∷ ws) ≡ (b ∷ bs) ++ more_words ws
words-cons b bs ws = rw (parted-cons 32 (b ∷ bs) (filled ws), more-filled ws) refl

-- the first word has a byte in its middle
pub words-middle : (a : List ℕ) (b : ℕ) (bs : List ℕ) (ws : List (List ℕ)) → words ((a ++ b ∷ bs) ∷ ws) ≡ (a ++ b ∷ bs) ++ more_words ws
words-middle [] b bs ws = words-cons b bs ws
words-middle (a ∷ rest) b bs ws = words-cons a (rest ++ b ∷ bs) ws

pub spaced-middle : (a : List ℕ) (b : ℕ) (bs : List ℕ) → spaced (a ++ b ∷ bs) ≡ 32 ∷ (a ++ b ∷ bs)
unfolding spaced
spaced-middle [] b bs = refl
spaced-middle (a ∷ rest) b bs = refl

-- a code has a first byte
code-cons : (c : Code) → code_text c ≡ slice_index (code_text c) 0 ∷ drop 1 (code_text c)
code-cons code.F1 = refl
code-cons _ = refl

pub words-code : (c : Code) (ws : List (List ℕ)) → words (code_text c ∷ ws) ≡ code_text c ++ more_words ws
words-code c ws = subst (λ t. words (t ∷ ws) ≡ t ++ more_words ws) (sym (code-cons c)) (words-cons (slice_index (code_text c) 0) (drop 1 (code_text c)) ws)

-- a refusal has a code
code-first : (r : Refusal) → refusal_words r ≡ first_word (refusal_words r) ∷ drop 1 (refusal_words r)
code-first NotStar = refl
code-first _ = refl

-- the place stands between the code and the details
placed : (at : Option ℕ) (c : List ℕ) (details : List (List ℕ)) → at_words at (c ∷ details) ≡ c ∷ statement_words at ++ details
placed None c details = refl
placed (Some i) c details = refl

pub at_words-refusal : (at : Option ℕ) (r : Refusal) → at_words at (refusal_words r) ≡ first_word (refusal_words r) ∷ statement_words at ++ drop 1 (refusal_words r)
at_words-refusal at r = rw (code-first r) (placed at (first_word (refusal_words r)) (drop 1 (refusal_words r)))

pub ruleset refusals = (at_words-refusal)

-- the first word of a header, where a session does the command itself or not
abbrev named : Bool → Id → List ℕ
named own id = cond own (decimal id.session ++ (46 ∷ decimal id.command)) (codes "JOB " ++ decimal id.worker)

words-named : (own : Bool) (id : Id) (ws : List (List ℕ)) → words (named own id ∷ ws) ≡ named own id ++ more_words ws
words-named true id ws = words-middle (decimal id.session) 46 (decimal id.command) ws
words-named false id ws = words-cons 74 (codes "OB " ++ decimal id.worker) ws

pub words-id : (id : Id) (ws : List (List ℕ)) → words (id_text id ∷ ws) ≡ id_text id ++ more_words ws
words-id id ws = words-named (id.worker == 0) id ws

pub journal-words : (entries : List Entry) → journal_line entries ≡ codes "journal" ++ more_words (map entry_text entries)
journal-words entries = words-cons 106 (codes "ournal") (map entry_text entries)

-- a space and a text behind it: where the text is empty the space goes, else the whole is a word
pub printed-nothing : (n : ℕ) (a b c t : List ℕ) → n ≡ length a → b ≡ a ++ 32 ∷ [] → c ≡ b ++ t → length c ≡ length b → take n c ≡ a ++ spaced t
unfolding spaced
printed-nothing n a b c [] few pushed written same = grind (arith, common_steps)
printed-nothing n a b c (x ∷ xs) few pushed written same = absurd (grind (arith, common_steps))

pub printed-word : (a b c t : List ℕ) → b ≡ a ++ 32 ∷ [] → c ≡ b ++ t → length c ≢ length b → c ≡ a ++ spaced t
unfolding spaced
printed-word a b c [] pushed written differ = absurd (differ (grind (arith, common_steps)))
printed-word a b c (x ∷ xs) pushed written differ = grind (arith, common_steps)
