-- The counters of the sessions, a part after another.
use Rattle.std.proofs.Common.{◌≡◌, ◌∙◌, sym, ap, refl, arith, ℕ, suc, zero, ◌+◌, ◌<◌, ◌==◌, Bool, true, false, cond, List, [], ◌∷◌, ◌++◌, length, map, get_or, slice_get, Some}
use Rattle.std.specs.List.{enumerate_from}
use Rattle.std.specs.Prelude.{slice_index, slice_set}
use Rattle.std.proofs.lemmas.Bool.{eq-eqb, eqb-false, ne_eqb}
use Rattle.std.proofs.lemmas.List.Sums.{sum_by-append, sum_by-set}
use Rattle.std.proofs.lemmas.Option.{get_or_from_slice_get, slice_get_within}
use Rattle.wh_base.specs.declared.statements.Entry.{Entry}
use Rattle.wh_base.specs.declared.statements.Script.{Script}
use Rattle.def_journal.specs.Journal.{Told, given_by, replies_of, reply_to, trace_of}
use Rattle.def_output.specs.Reads.{read_of, reads_of}
use Rattle.wh_order.specs.Laws.{told_in}
use Rattle.wh_session.specs.Run.{Run}
use Rattle.wh_top.specs.Running.{CountedSoFar, ahead_of, read_by}
use Rattle.wh_top.proofs.Parts.{event_at, told_push}

-- ---- counters as a list

-- each counter with what f says of its place
abbrev raised : (ℕ → ℕ) → ℕ → List ℕ → List ℕ
raised f k old = map (λ p. p.1 + f p.0) (enumerate_from k old)

at_raised : (f : ℕ → ℕ) (k m n : ℕ) (old : List ℕ) → k + m ≡ n → m < length old → get_or (raised f k old) m 0 ≡ get_or old m 0 + f n
at_raised f k m n [] at within = absurd (omega (arith, within))
at_raised f k zero n (c ∷ cs) at within =
    let same : k ≡ n = omega (arith, at) in
    ap (λ j. c + f j) same
at_raised f k (suc m) n (c ∷ cs) at within = at_raised f (k + 1) m n cs (omega (arith, at)) (omega (arith, within))

-- from the place k on nothing differs
same_raised : (f g : ℕ → ℕ) (n k : ℕ) (old : List ℕ) → n < k → ((j : ℕ) → (j == n) ≡ false → f j ≡ g j) → raised f k old ≡ raised g k old
same_raised f g n k [] past same = refl
same_raised f g n k (c ∷ cs) past same =
    let other : (k == n) ≡ false = ne_eqb k n (λ e. omega (arith, past, e)) in
    ap (λ x. (c + x) ∷ raised f (k + 1) cs) (same k other) ∙ ap (λ xs. (c + g k) ∷ xs) (same_raised f g n (k + 1) cs (omega (arith, past)) same)

set_raised : (f g : ℕ → ℕ) (n k m count : ℕ) (old : List ℕ) → k + m ≡ n → m < length old → ((j : ℕ) → (j == n) ≡ false → f j ≡ g j) → count ≡ get_or old m 0 + g n → slice_set (raised f k old) m count ≡ raised g k old
set_raised f g n k m count [] at within same is = absurd (omega (arith, within))
set_raised f g n k zero count (c ∷ cs) at within same is =
    let here : k ≡ n = omega (arith, at) in
    let first : count ≡ c + g k = is ∙ ap (λ j. c + g j) (sym here) in
    ap (λ x. x ∷ raised f (k + 1) cs) first ∙ ap (λ xs. (c + g k) ∷ xs) (same_raised f g n (k + 1) cs (omega (arith, here)) same)
set_raised f g n k (suc m) count (c ∷ cs) at within same is =
    let other : (k == n) ≡ false = ne_eqb k n (λ e. omega (arith, at, e)) in
    ap (λ x. (c + x) ∷ slice_set (raised f (k + 1) cs) m count) (same k other)
    ∙ ap (λ xs. (c + g k) ∷ xs) (set_raised f g n (k + 1) m count cs (omega (arith, at)) (omega (arith, within)) same is)

-- ---- what one part reads

-- what a run has read ahead, where it is that of the session n
abbrev ahead_in : ℕ → Run → ℕ
ahead_in n r = cond (r.section.session == n) r.ahead 0

ahead_set : (n place : ℕ) (runs : List Run) (run after : Run) → slice_get runs place ≡ Some run → ahead_of n (slice_set runs place after) + ahead_in n run ≡ ahead_of n runs + ahead_in n after
ahead_set n place runs run after there =
    let within : place < length runs = slice_get_within runs place run there in
    let here : get_or runs place run ≡ run = get_or_from_slice_get runs place run run there in
    sym (ap (λ r. ahead_of n (slice_set runs place after) + ahead_in n r) here) ∙ sum_by-set (ahead_in n) runs place after run within

reads_append : (xs ys : List Told) → reads_of (xs ++ ys) ≡ reads_of xs + reads_of ys
reads_append xs ys = sum_by-append (λ (t : Told). read_of t.reply) xs ys

-- what was read for a session and told, after one part more
told_reads : (script : Script) (front : List Entry) (e : Entry) (n : ℕ) (b : Bool) → (e.session == n) ≡ b → reads_of (told_in n (replies_of (trace_of script (front ++ e ∷ [])))) ≡ reads_of (told_in n (replies_of (trace_of script front))) + reads_of (cond b (given_by (event_at script e) (reply_to (trace_of script front) (event_at script e))) [])
told_reads script front e n b is =
    let given : List Told = given_by (event_at script e) (reply_to (trace_of script front) (event_at script e)) in
    let before : List Told = told_in n (replies_of (trace_of script front)) in
    ap reads_of (told_push script front e n)
    ∙ ap (λ c. reads_of (before ++ cond c given [])) is
    ∙ reads_append before (cond b given [])

-- nothing for another session
pub read_other : (script : Script) (front : List Entry) (e : Entry) (place : ℕ) (runs : List Run) (run after : Run) → slice_get runs place ≡ Some run → run.section.session ≡ e.session → after.section ≡ run.section → (n : ℕ) → (n == e.session) ≡ false → read_by script front runs n ≡ read_by script (front ++ e ∷ []) (slice_set runs place after) n
read_other script front e place runs run after there own kept n other =
    let differ : (e.session == n) ≡ false = ne_eqb e.session n (λ same. eqb-false n e.session other (sym same)) in
    let first : ahead_in n run ≡ 0 = ap (λ m. cond (m == n) run.ahead 0) own ∙ ap (λ b. cond b run.ahead 0) differ in
    let later : ahead_in n after ≡ 0 = ap (λ s. cond (s.session == n) after.ahead 0) kept ∙ ap (λ m. cond (m == n) after.ahead 0) own ∙ ap (λ b. cond b after.ahead 0) differ in
    let ahead : ahead_of n (slice_set runs place after) + ahead_in n run ≡ ahead_of n runs + ahead_in n after = ahead_set n place runs run after there in
    let told : reads_of (told_in n (replies_of (trace_of script (front ++ e ∷ [])))) ≡ reads_of (told_in n (replies_of (trace_of script front))) + 0 = told_reads script front e n false differ in
    omega (arith, first, later, ahead, told)

-- for its own what its reply tells, and what is read ahead
pub read_own : (script : Script) (front : List Entry) (e : Entry) (place : ℕ) (runs : List Run) (run after : Run) → slice_get runs place ≡ Some run → run.section.session ≡ e.session → after.section ≡ run.section → read_by script (front ++ e ∷ []) (slice_set runs place after) e.session + run.ahead ≡ read_by script front runs e.session + (reads_of (given_by (event_at script e) (reply_to (trace_of script front) (event_at script e))) + after.ahead)
read_own script front e place runs run after there own kept =
    let n : ℕ = e.session in
    let same : (e.session == n) ≡ true = eq-eqb e.session n refl in
    let first : ahead_in n run ≡ run.ahead = ap (λ m. cond (m == n) run.ahead 0) own ∙ ap (λ b. cond b run.ahead 0) same in
    let later : ahead_in n after ≡ after.ahead = ap (λ s. cond (s.session == n) after.ahead 0) kept ∙ ap (λ m. cond (m == n) after.ahead 0) own ∙ ap (λ b. cond b after.ahead 0) same in
    let ahead : ahead_of n (slice_set runs place after) + ahead_in n run ≡ ahead_of n runs + ahead_in n after = ahead_set n place runs run after there in
    let told : reads_of (told_in n (replies_of (trace_of script (front ++ e ∷ [])))) ≡ reads_of (told_in n (replies_of (trace_of script front))) + reads_of (given_by (event_at script e) (reply_to (trace_of script front) (event_at script e))) = told_reads script front e n true same in
    omega (arith, first, later, ahead, told)

-- ---- the counters after one part more

pub counted_next : (script : Script) (front : List Entry) (e : Entry) (place count : ℕ) (runs : List Run) (run after : Run) (old reads : List ℕ) → slice_get runs place ≡ Some run → run.section.session ≡ e.session → after.section ≡ run.section → e.session < length old → CountedSoFar script front runs old reads → count + run.ahead ≡ slice_index reads e.session + (reads_of (given_by (event_at script e) (reply_to (trace_of script front) (event_at script e))) + after.ahead) → CountedSoFar script (front ++ e ∷ []) (slice_set runs place after) old (slice_set reads e.session count)
counted_next script front e place count runs run after old reads there own kept within counted read =
    let n : ℕ = e.session in
    let f : ℕ → ℕ = read_by script front runs in
    let g : ℕ → ℕ = read_by script (front ++ e ∷ []) (slice_set runs place after) in
    let before : slice_index reads n ≡ get_or old n 0 + f n = ap (λ cs. slice_index cs n) counted ∙ at_raised f 0 n n old (omega arith) within in
    let raise : g n + run.ahead ≡ f n + (reads_of (given_by (event_at script e) (reply_to (trace_of script front) (event_at script e))) + after.ahead) = read_own script front e place runs run after there own kept in
    let is : count ≡ get_or old n 0 + g n = omega (arith, before, raise, read) in
    ap (λ cs. slice_set cs n count) counted ∙ set_raised f g n 0 n count old (omega arith) within (read_other script front e place runs run after there own kept) is
