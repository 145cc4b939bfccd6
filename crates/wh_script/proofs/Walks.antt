-- The elements of a script piece by piece, and what a draft is behind them.
use Rattle.std.proofs.Common.{◌≡◌, ℕ, ◌≤◌, ◌<◌, ◌+◌, ◌-◌, List, [], ◌∷◌, ◌++◌, length, drop, take, Bool, true, false, Result, Ok, Err, refl, ap, sym, ◌∙◌, arith, subst, append-nil, append_assoc}
use Rattle.std.proofs.lemmas.Bool.Decides.{nat_tests}
use Rattle.std.proofs.lemmas.List.{length-drop, length-take-le}
use Rattle.std.specs.Prelude.{flat_map, nat_le, nat_lt, ◌&&◌}
use Rattle.std.specs.Str.Lossy.{utf8_valid_len}
use Rattle.def_built.specs.Form.{built_script, draft_is_built}
use Rattle.def_grammar.specs.Lines.{Directive, DirectiveAt, EndAt, EndScript, InText, Line, LoadBlock, LoadOf, TextRun, directive_on, directive_piece, pieces, pieces_from}
use Rattle.def_grammar.specs.Script.{Directed, Draft, bad, Element, Loaded, block_bytes, broken_within, ending, line_at, first_draft, piece_elements, read_from, size_of, take_directive, take_load, text_elements, where_built}
use Rattle.wh_base.specs.declared.statements.ScriptKind.TheVariants.{NotUtf8}
use Rattle.wh_script.proofs.LineRuns.{length_of_line, lines_at-end, pieces-directive, pieces-text}
use Rattle.wh_script.proofs.LoadLines.{block-is, lines_at-bytes, pieces-load, size_of-bytes}
use Rattle.wh_script.specs.Pieces.{IsAlone, IsAt, IsStep, IsTaken, IsWalked, ReadsOn, before_closing, behind_block, behind_line, block_at, elements_left, is_closed, line_len, line_of, lines_at, load_block, pieces_at, text_len}
use Rattle.wh_script.specs.Sections.{Gives, meant}
use Rattle.wh_script.specs.declared.lines.Directive as ours
use Rattle.wh_script.specs.declared.lines.Directive.TheVariants as directives
use Rattle.wh_script.specs.declared.lines.LineMark.{LineMark}
use Rattle.wh_script.specs.declared.pieces.Walked.{Walked}
use Rattle.wh_script.specs.declared.pieces.Walked.TheVariants.{AtEnd, On}
use Rattle.wh_script.specs.declared.fault.ScriptFault.{ScriptFault}
use Rattle.wh_script.specs.declared.fault.ScriptFault.TheVariants as faults

-- ---- one piece more

-- elements and then others
pub taken-both : (bytes : List ℕ) (d e : Draft) (es fs : List Element) (r : Result Draft ScriptFault) → IsTaken bytes d es (Ok e) → IsTaken bytes e fs r → IsTaken bytes d (es ++ fs) r
taken-both bytes d e es fs (Ok f) first second =
    λ tail rest. ap (read_from draft_is_built bytes tail d) (append_assoc es fs rest) ∙ first tail (fs ++ rest) ∙ second tail rest
taken-both bytes d e es fs (Err (faults.Bad b)) first second =
    λ tail rest. ap (read_from draft_is_built bytes tail d) (append_assoc es fs rest) ∙ first tail (fs ++ rest) ∙ second tail rest
taken-both bytes d e es fs (Err faults.Memory) first second = tt

-- the first fault is the fault
pub taken-fault : (bytes : List ℕ) (d : Draft) (es fs : List Element) (f : ScriptFault) → IsTaken bytes d es (Err f) → IsTaken bytes d (es ++ fs) (Err f)
taken-fault bytes d es fs (faults.Bad b) first =
    λ tail rest. ap (read_from draft_is_built bytes tail d) (append_assoc es fs rest) ∙ first tail (fs ++ rest)
taken-fault bytes d es fs faults.Memory first = tt

-- ---- the elements from a place on

pub elements-text : (bytes : List ℕ) (valid place : ℕ) → 0 < text_len true (drop place bytes) → elements_left bytes valid place ≡ piece_elements valid (TextRun place (take (text_len true (drop place bytes)) (drop place bytes))) ++ elements_left bytes valid (place + text_len true (drop place bytes))
unfolding elements_left
elements-text bytes valid place some = ap (flat_map (piece_elements valid)) (pieces-text (length bytes) bytes place (omega arith) some)

-- a LOAD block
pub elements-load : (bytes : List ℕ) (valid place : ℕ) (name : List ℕ) → place < length bytes → text_len true (drop place bytes) ≡ 0 → directive_on (line_of bytes place) ≡ LoadOf name → elements_left bytes valid place ≡ piece_elements valid (load_block bytes place name) ++ elements_left bytes valid (behind_block bytes (behind_line bytes place))
unfolding elements_left
elements-load bytes valid place name h e d =
    let l = line_of bytes place in
    let q = behind_line bytes place in
    let ls = lines_at bytes q in
    let pieces : pieces_at bytes place ≡ LoadBlock l name (before_closing ls) (is_closed ls) ∷ pieces_at bytes (behind_block bytes q) =
    pieces-directive bytes place h e
    ∙ ap (λ t. directive_piece l t ls (pieces_from ls)) d
    ∙ pieces-load ls l name []
    ∙ ap (λ more. LoadBlock l name (before_closing ls) (is_closed ls) ∷ pieces_from more InText) (block-is (length bytes) bytes q (omega arith)).2 in
    ap (flat_map (piece_elements valid)) pieces

-- `@end`
pub elements-end : (bytes : List ℕ) (valid place : ℕ) → place < length bytes → text_len true (drop place bytes) ≡ 0 → directive_on (line_of bytes place) ≡ EndScript → (d : Draft) (tail : Bool) → read_from draft_is_built bytes tail d (elements_left bytes valid place) ≡ ending bytes tail d (behind_line bytes place) (drop (behind_line bytes place) bytes)
unfolding elements_left
elements-end bytes valid place h e t d tail =
    let l = line_of bytes place in
    let q = behind_line bytes place in
    let ls = lines_at bytes q in
    let pieces : pieces_at bytes place ≡ EndAt l ls ∷ [] = pieces-directive bytes place h e ∙ ap (λ t. directive_piece l t ls (pieces_from ls)) t in
    ap (λ ps. read_from draft_is_built bytes tail d (flat_map (piece_elements valid) ps)) pieces
    ∙ ap (λ k. ending bytes tail d (place + k) (block_bytes ls)) (length_of_line (drop place bytes))
    ∙ ap (ending bytes tail d q) (lines_at-bytes (length bytes) bytes q (omega arith))

-- a directive that is neither
pub elements-alone : (bytes : List ℕ) (valid place : ℕ) (t : ours.Directive) → place < length bytes → text_len true (drop place bytes) ≡ 0 → directive_on (line_of bytes place) ≡ meant t → IsAlone t → elements_left bytes valid place ≡ piece_elements valid (DirectiveAt (line_of bytes place) (meant t)) ++ elements_left bytes valid (behind_line bytes place)
unfolding elements_left
elements-alone bytes valid place t h e d alone =
    let l = line_of bytes place in
    let q = behind_line bytes place in
    let ls = lines_at bytes q in
    ap (flat_map (piece_elements valid)) (pieces-directive bytes place h e ∙ ap (λ t. directive_piece l t ls (pieces_from ls)) d ∙ by_case t alone)
  where
    by_case : (t : ours.Directive) → IsAlone t → directive_piece (line_of bytes place) (meant t) (lines_at bytes (behind_line bytes place)) (pieces_from (lines_at bytes (behind_line bytes place))) ≡ DirectiveAt (line_of bytes place) (meant t) ∷ pieces_at bytes (behind_line bytes place)
    by_case (directives.Load n) alone = absurd alone
    by_case directives.EndScript alone = absurd alone
    by_case directives.Setup alone = refl
    by_case (directives.Session w) alone = refl
    by_case (directives.Order ws) alone = refl
    by_case (directives.Workers w) alone = refl
    by_case directives.EndLoad alone = refl
    by_case directives.Unknown alone = refl

-- ---- steps

-- what was taken, and then the rest of the piece
pub step-then : (bytes : List ℕ) (valid place next : ℕ) (d e : Draft) (es fs : List Element) (r : Result Walked ScriptFault) → IsTaken bytes d es (Ok e) → IsWalked bytes e fs next r → elements_left bytes valid place ≡ (es ++ fs) ++ elements_left bytes valid next → place < next → next ≤ length bytes → IsStep bytes valid d place r
step-then bytes valid place next d e es fs (Ok (On f m)) first walked all later within =
    let both : IsTaken bytes d (es ++ fs) (Ok f) = taken-both bytes d e es fs (Ok f) first walked.0 in
    let reads : ReadsOn bytes d (elements_left bytes valid place) f (elements_left bytes valid next) =
    λ tail. ap (read_from draft_is_built bytes tail d) all ∙ both tail (elements_left bytes valid next) in
    let there : m.place ≡ next = walked.1.0 in (
      subst (λ p. ReadsOn bytes d (elements_left bytes valid place) f (elements_left bytes valid p)) (sym there) reads,
      omega (arith, there),
      omega (arith, there),
      (refl, walked.1.1 ∙ ap (line_at bytes) (sym there), walked.1.2),
    )
step-then bytes valid place next d e es fs (Ok (AtEnd f place')) first walked all later within = absurd walked
step-then bytes valid place next d e es fs (Err (faults.Bad b)) first walked all later within =
    let both : IsTaken bytes d (es ++ fs) (Err (faults.Bad b)) = taken-both bytes d e es fs (Err (faults.Bad b)) first walked in
    λ tail. ap (read_from draft_is_built bytes tail d) all ∙ both tail (elements_left bytes valid next)
step-then bytes valid place next d e es fs (Err faults.Memory) first walked all later within = tt

pub step-fault : (bytes : List ℕ) (valid place next : ℕ) (d : Draft) (es fs : List Element) (f : ScriptFault) → IsTaken bytes d es (Err f) → elements_left bytes valid place ≡ (es ++ fs) ++ elements_left bytes valid next → IsStep bytes valid d place (Err f)
step-fault bytes valid place next d es fs (faults.Bad b) first all =
    let both : IsTaken bytes d (es ++ fs) (Err (faults.Bad b)) = taken-fault bytes d es fs (faults.Bad b) first in
    λ tail. ap (read_from draft_is_built bytes tail d) all ∙ both tail (elements_left bytes valid next)
step-fault bytes valid place next d es fs faults.Memory first all = tt

-- ---- one element

directed-taken : (bytes : List ℕ) (d : Draft) (l : Line) (t : Directive) (r : Result Draft ScriptFault) → Gives r (where_built draft_is_built l.number (take_directive d l.number t)) → IsTaken bytes d (Directed l t ∷ []) r
directed-taken bytes d l t (Ok e) h = λ tail rest. rw h refl
directed-taken bytes d l t (Err (faults.Bad b)) h = λ tail rest. rw h refl
directed-taken bytes d l t (Err faults.Memory) h = tt

loaded-taken : (bytes : List ℕ) (d : Draft) (l : Line) (n : List ℕ) (ls : List Line) (c : Bool) (r : Result Draft ScriptFault) → Gives r (where_built draft_is_built l.number (take_load d l.number n (block_bytes ls) c)) → IsTaken bytes d (Loaded l n ls c ∷ []) r
loaded-taken bytes d l n ls c (Ok e) h = λ tail rest. rw h refl
loaded-taken bytes d l n ls c (Err (faults.Bad b)) h = λ tail rest. rw h refl
loaded-taken bytes d l n ls c (Err faults.Memory) h = tt

pub broken-there : (bytes : List ℕ) (valid place size : ℕ) (d : Draft) → place ≤ valid → valid < place + size → IsTaken bytes d (broken_within valid place size) (Err (faults.Bad (bad (line_at bytes valid) NotUtf8)))
broken-there bytes valid place size d h k =
    let test : (nat_le place valid && nat_lt valid (place + size)) ≡ true = grind (arith, nat_tests) in
    λ tail rest. rw test refl

pub broken-not : (bytes : List ℕ) (valid place size : ℕ) (d : Draft) → (nat_le place valid && nat_lt valid (place + size)) ≡ false → IsTaken bytes d (broken_within valid place size) (Ok d)
broken-not bytes valid place size d e = λ tail rest. rw e refl

pub ruleset ons = (broken-there, broken-not)

-- ---- the three kinds of step

-- the elements of a run of text, and those behind it
run-all : (bytes : List ℕ) (valid place size next : ℕ) → size ≡ text_len true (drop place bytes) → 0 < size → next ≡ place + size → elements_left bytes valid place ≡ (text_elements valid place (take (next - place) (drop place bytes)) ++ []) ++ elements_left bytes valid next
run-all bytes valid place size next is some end =
    let len : text_len true (drop place bytes) ≡ next - place = omega (arith, is, end) in
    let sum : place + text_len true (drop place bytes) ≡ next = omega (arith, is, end) in
    let there : 0 < text_len true (drop place bytes) = omega (arith, is, some) in
    elements-text bytes valid place there
    ∙ ap (λ n. text_elements valid place (take n (drop place bytes)) ++ elements_left bytes valid (place + text_len true (drop place bytes))) len
    ∙ ap (λ n. text_elements valid place (take (next - place) (drop place bytes)) ++ elements_left bytes valid n) sum
    ∙ ap (λ es. es ++ elements_left bytes valid next) (sym (append-nil (text_elements valid place (take (next - place) (drop place bytes)))))

-- a run of text
pub run-step : (bytes : List ℕ) (valid place size next : ℕ) (d e : Draft) (m : LineMark) → place + size ≤ length bytes → size ≡ text_len true (drop place bytes) → 0 < size → next ≡ place + size → IsTaken bytes d (text_elements valid place (take (next - place) (drop place bytes))) (Ok e) → IsAt bytes next e m → IsStep bytes valid d place (Ok (On e m))
run-step bytes valid place size next d e m within is some end taken at =
    step-then bytes valid place next d e (text_elements valid place (take (next - place) (drop place bytes))) [] (Ok (On e m)) taken ((λ tail rest. refl), at) (run-all bytes valid place size next is some end) (omega (arith, end, some)) (omega (arith, end, within))

pub run-fault : (bytes : List ℕ) (valid place size next : ℕ) (d : Draft) (f : ScriptFault) → size ≡ text_len true (drop place bytes) → 0 < size → next ≡ place + size → IsTaken bytes d (text_elements valid place (take (next - place) (drop place bytes))) (Err f) → IsStep bytes valid d place (Err f)
run-fault bytes valid place size next d f is some end taken =
    step-fault bytes valid place next d (text_elements valid place (take (next - place) (drop place bytes))) [] f taken (run-all bytes valid place size next is some end)

pub alone-first : (bytes : List ℕ) (place line : ℕ) (t : Directive) (d : Draft) (r : Result Draft ScriptFault) → line ≡ line_at bytes place → Gives r (where_built draft_is_built line (take_directive d line t)) → IsTaken bytes d (Directed (line_of bytes place) t ∷ []) r
alone-first bytes place line t d r e h = directed-taken bytes d (line_of bytes place) t r (subst (λ n. Gives r (where_built draft_is_built n (take_directive d n t))) e h)

pub alone-all : (bytes : List ℕ) (valid place size : ℕ) (t : ours.Directive) → place < length bytes → text_len true (drop place bytes) ≡ 0 → directive_on (line_of bytes place) ≡ meant t → IsAlone t → size ≡ line_len (drop place bytes) → elements_left bytes valid place ≡ ((Directed (line_of bytes place) (meant t) ∷ []) ++ broken_within valid place size) ++ elements_left bytes valid (place + size)
alone-all bytes valid place size t h e d alone len =
    elements-alone bytes valid place t h e d alone
    ∙ ap (λ n. (Directed (line_of bytes place) (meant t) ∷ broken_within valid place n) ++ elements_left bytes valid (behind_line bytes place)) (length_of_line (drop place bytes))
    ∙ ap (λ n. (Directed (line_of bytes place) (meant t) ∷ broken_within valid place n) ++ elements_left bytes valid (place + n)) (sym len)

-- a block, by the lines that it has
abbrev pub load_element : List ℕ → ℕ → List ℕ → Element
load_element bytes place name =
    let ls = lines_at bytes (behind_line bytes place) in Loaded (line_of bytes place) name (before_closing ls) (is_closed ls)

pub block-first : (bytes : List ℕ) (place line start size : ℕ) (name block : List ℕ) (closed : Bool) (d : Draft) (r : Result Draft ScriptFault) → line ≡ line_at bytes place → start ≡ behind_line bytes place → size ≡ block_at bytes start → block ≡ take size (drop start bytes) → closed ≡ nat_lt (start + size) (length bytes) → Gives r (where_built draft_is_built line (take_load d line name block closed)) → IsTaken bytes d (load_element bytes place name ∷ []) r
block-first bytes place line start size name block closed d r e s m b c h =
    let q = behind_line bytes place in
    let ls = lines_at bytes q in
    let known = block-is (length bytes) bytes q (omega arith) in
    let len : size ≡ block_at bytes q = m ∙ ap (block_at bytes) s in
    let block_is : block ≡ block_bytes (before_closing ls) =
    b ∙ ap (λ p. take size (drop p bytes)) s ∙ ap (λ n. take n (drop q bytes)) len ∙ sym known.0 in
    let closed_is : closed ≡ is_closed ls =
    c ∙ ap (λ p. nat_lt (p + size) (length bytes)) s ∙ ap (λ n. nat_lt (q + n) (length bytes)) len ∙ sym known.1 in
    let on_line = subst (λ n. Gives r (where_built draft_is_built n (take_load d n name block closed))) e h in
    let with_block = subst (λ bs. Gives r (where_built draft_is_built (line_at bytes place) (take_load d (line_at bytes place) name bs closed))) block_is on_line in
    loaded-taken bytes d (line_of bytes place) name (before_closing ls) (is_closed ls) r
    (subst (λ t. Gives r (where_built draft_is_built (line_at bytes place) (take_load d (line_at bytes place) name (block_bytes (before_closing ls)) t))) closed_is with_block)

pub block-all : (bytes : List ℕ) (valid place start size next : ℕ) (name : List ℕ) → place < length bytes → text_len true (drop place bytes) ≡ 0 → directive_on (line_of bytes place) ≡ LoadOf name → start ≡ behind_line bytes place → size ≡ block_at bytes start → start + size ≤ length bytes → next ≡ behind_line bytes (start + size) → elements_left bytes valid place ≡ ((load_element bytes place name ∷ []) ++ broken_within valid place (start + size - place)) ++ elements_left bytes valid next
block-all bytes valid place start size next name h e d s m within n =
    let q = behind_line bytes place in
    let ls = lines_at bytes q in
    let known = block-is (length bytes) bytes q (omega arith) in
    let len : size ≡ block_at bytes q = m ∙ ap (block_at bytes) s in
    let taken : length (take (block_at bytes q) (drop q bytes)) ≡ block_at bytes q =
    length-take-le (block_at bytes q) (drop q bytes) (rw length-drop (omega (arith, len, s))) in
    let lines : size_of (before_closing ls) ≡ size = size_of-bytes (before_closing ls) ∙ ap length known.0 ∙ taken ∙ sym len in
    let sum : length (line_of bytes place).raw + size_of (before_closing ls) ≡ start + size - place =
    omega (arith, length_of_line (drop place bytes), lines, s) in
    let behind : behind_block bytes q ≡ next = sym (n ∙ ap (λ p. behind_line bytes (p + size)) s ∙ ap (λ k. behind_line bytes (q + k)) len) in
    elements-load bytes valid place name h e d
    ∙ ap (λ k. (load_element bytes place name ∷ broken_within valid place k) ++ elements_left bytes valid (behind_block bytes q)) sum
    ∙ ap (λ p. (load_element bytes place name ∷ broken_within valid place (start + size - place)) ++ elements_left bytes valid p) behind

-- ---- the end

pub end-step : (bytes : List ℕ) (valid place next : ℕ) (d : Draft) → place < length bytes → text_len true (drop place bytes) ≡ 0 → directive_on (line_of bytes place) ≡ EndScript → next ≡ place + line_len (drop place bytes) → next ≤ length bytes → draft_is_built d ≡ true → IsStep bytes valid d place (Ok (AtEnd d next))
end-step bytes valid place next d h e t n within built =
    (λ tail. elements-end bytes valid place h e t d tail ∙ ap (λ p. ending bytes tail d p (drop p bytes)) (sym n), within, built)

-- ---- the whole

-- nothing is read
pub begun : (bytes : List ℕ) (tail : Bool) (valid : ℕ) → valid ≡ utf8_valid_len bytes → read_from draft_is_built bytes tail first_draft (elements_left bytes valid 0) ≡ built_script bytes tail
unfolding elements_left built_script
begun bytes tail valid e = ap (λ v. read_from draft_is_built bytes tail first_draft (flat_map (piece_elements v) (pieces bytes))) e

-- all is read
pub none_left : (bytes : List ℕ) (valid place : ℕ) → length bytes ≤ place → elements_left bytes valid place ≡ []
unfolding elements_left
none_left bytes valid place h = ap (λ ls. flat_map (piece_elements valid) (pieces_from ls InText)) (lines_at-end bytes place h)

pub ruleset scripts = (begun, none_left)
