-- A session's entries as its parts are taken one after another.
use Rattle.std.proofs.Common.{◌≡◌, ◌∙◌, sym, ap, refl, arith, ℕ, suc, zero, ◌+◌, ◌<◌, ◌≤◌, List, [], ◌∷◌, ◌++◌, map, take, drop, flat_map}
use Rattle.std.specs.List.{enumerate_from}
use Rattle.wh_base.specs.Lists.{count_from}
use Rattle.wh_base.specs.Parts.{command_entries, parts_of}
use Rattle.wh_base.specs.declared.statements.Command.{Command}
use Rattle.wh_base.specs.declared.statements.Command.TheVariants as commands
use Rattle.wh_base.specs.declared.statements.Entry.{Entry}
use Rattle.wh_base.specs.declared.statements.Statement.TheVariants as about
use Rattle.wh_order.specs.Left.{IsWithin, left_of}

some_part : (c : Command) → 0 < parts_of c
some_part (commands.Block b) = omega arith
some_part (commands.Other (about.Refresh r)) = omega arith
some_part (commands.Other s) = omega arith
some_part (commands.Submit s) = omega arith

pub within_first : (cs : List Command) → IsWithin 0 cs
within_first [] = refl
within_first (c ∷ cs) = some_part c

-- ---- the parts of the first command

abbrev part_of : ℕ → ℕ → ℕ → Entry
part_of session n k = record { session = session; command = n; part = k; worker = 0 }

drop_counted : (f : ℕ → Entry) (start k m : ℕ) (more : List Entry) → k < m → drop k (map f (count_from start m) ++ more) ≡ f (start + k) ∷ drop (suc k) (map f (count_from start m) ++ more)
drop_counted f start k zero more low = absurd (none low)
  where
    none : k < 0 → ⊥
    none low = omega (arith, low)
drop_counted f start zero (suc m) more low =
    let same : start ≡ start + 0 = omega arith in
    ap (λ n. f n ∷ map f (count_from (suc start) m) ++ more) same
drop_counted f start (suc k) (suc m) more low =
    let same : suc start + k ≡ start + suc k = omega arith in
    drop_counted f (suc start) k m more (omega (arith, low)) ∙ ap (λ n. f n ∷ drop (suc k) (map f (count_from (suc start) m) ++ more)) same

drop_all : (f : ℕ → Entry) (start m : ℕ) (more : List Entry) → drop m (map f (count_from start m) ++ more) ≡ more
drop_all f start zero more = refl
drop_all f start (suc m) more = drop_all f (suc start) m more

empty_drops : (k : ℕ) (es : List Entry) → es ≡ [] → drop k es ≡ []
empty_drops zero es is = is
empty_drops (suc k) es is = ap (drop (suc k)) is

-- the next part, and those behind it
left_step : (session taken parts : ℕ) (c : Command) (cs : List Command) → parts < parts_of c → left_of session taken parts (c ∷ cs) ≡ record { session = session; command = taken + 1; part = parts + 1; worker = 0 } ∷ left_of session taken (parts + 1) (c ∷ cs)
left_step session taken parts c cs low =
    let more : List Entry = flat_map (command_entries session) (enumerate_from (taken + 1 + 1) cs) in
    let all : List Entry = map (λ part. record { session = session; command = taken + 1; part = part; worker = 0 }) (count_from 1 (parts_of c)) ++ more in
    let first : 1 + parts ≡ parts + 1 = omega arith in
    let next : suc parts ≡ parts + 1 = omega arith in
    drop_counted (λ part. record { session = session; command = taken + 1; part = part; worker = 0 }) 1 parts (parts_of c) more low
    ∙ ap (λ k. part_of session (taken + 1) k ∷ drop (suc parts) all) first
    ∙ ap (λ k. part_of session (taken + 1) (parts + 1) ∷ drop k all) next

-- a command is done
left_behind : (session taken : ℕ) (c : Command) (cs : List Command) → left_of session taken (parts_of c) (c ∷ cs) ≡ left_of session (taken + 1) 0 cs
left_behind session taken c cs = drop_all (λ part. record { session = session; command = taken + 1; part = part; worker = 0 }) 1 (parts_of c) (flat_map (command_entries session) (enumerate_from (taken + 1 + 1) cs))

-- ---- what the calls of a cursor say

pub left_none : (session taken parts : ℕ) (cs : List Command) → cs ≡ [] → [] ≡ take 1 (left_of session taken parts cs)
left_none session taken parts cs is = sym (ap (take 1) (empty_drops parts (flat_map (command_entries session) (enumerate_from (taken + 1) cs)) (ap (λ ds. flat_map (command_entries session) (enumerate_from (taken + 1) ds)) is)))

pub left_first : (session taken parts : ℕ) (cs : List Command) → (cs ≡ [] → ⊥) → IsWithin parts cs → record { session = session; command = taken + 1; part = parts + 1; worker = 0 } ∷ [] ≡ take 1 (left_of session taken parts cs)
left_first session taken parts [] some within = absurd (some refl)
left_first session taken parts (c ∷ cs) some within = sym (ap (take 1) (left_step session taken parts c cs within))

pub passed_none : (session taken parts : ℕ) (cs : List Command) → cs ≡ [] → left_of session taken parts cs ≡ drop 1 (left_of session taken parts cs)
passed_none session taken parts cs is =
    let none : left_of session taken parts cs ≡ [] = empty_drops parts (flat_map (command_entries session) (enumerate_from (taken + 1) cs)) (ap (λ ds. flat_map (command_entries session) (enumerate_from (taken + 1) ds)) is) in
    none ∙ sym (ap (drop 1) none)

pub passed_part : (session taken parts : ℕ) (c : Command) (cs : List Command) → parts + 1 < parts_of c → left_of session taken (parts + 1) (c ∷ cs) ≡ drop 1 (left_of session taken parts (c ∷ cs))
passed_part session taken parts c cs low = sym (ap (drop 1) (left_step session taken parts c cs (omega (arith, low))))

pub passed_command : (session taken parts : ℕ) (c : Command) (cs : List Command) → parts < parts_of c → parts_of c ≤ parts + 1 → left_of session (taken + 1) 0 cs ≡ drop 1 (left_of session taken parts (c ∷ cs))
passed_command session taken parts c cs low last =
    let all : parts_of c ≡ parts + 1 = omega (arith, low, last) in
    sym (left_behind session taken c cs) ∙ ap (λ k. left_of session taken k (c ∷ cs)) all ∙ sym (ap (drop 1) (left_step session taken parts c cs low))

-- ---- what is taken from a list of entries

pub one_taken : (e : Entry) (es : List Entry) → e ∷ [] ≡ take 1 es → es ≡ e ∷ drop 1 es
one_taken e [] is = absurd (cc)
one_taken e (x ∷ xs) is = let same : e ≡ x = cc in ap (λ y. y ∷ xs) (sym same)

pub none_taken : (es : List Entry) → [] ≡ take 1 es → es ≡ []
none_taken [] is = refl
none_taken (x ∷ xs) is = absurd (cc)

pub ruleset cursors = (within_first, left_none, left_first, passed_none, passed_part, passed_command)

pub ruleset taken = (one_taken, none_taken)
