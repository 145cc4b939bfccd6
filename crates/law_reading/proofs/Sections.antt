-- The numbers of a script's sections ascend, and are at most 64.
use Rattle.std.proofs.Common.{◌≡◌, ◌∷◌, ◌++◌, ◌≤◌, ◌<◌, ℕ, List, [], append-nil, arith, Bool, true, true≢false, Option, None, Some, Ok, refl, subst, sym}
use Rattle.std.proofs.lemmas.Bool.{ltb-true}
use Rattle.std.specs.List.{All, AllPairs}
use Rattle.std.specs.Prelude.{option_map}
use Rattle.wh_base.specs.Lists.{is_empty}
use Rattle.wh_base.specs.declared.statements.Command.{Command}
use Rattle.wh_base.specs.declared.statements.Script.{Script}
use Rattle.wh_base.specs.declared.statements.Section.{Section}
use Rattle.def_built.specs.Form.{built_script, draft_is_built}
use Rattle.def_grammar.specs.Script.{Draft, is_later, script_where}
use Rattle.law_trace.proofs.Listed.{Each, Pairs, all_from, each_append, each_left, each_right, each_weaker, pairs_across, pairs_from, pairs_left, pairs_push}
use Rattle.law_reading.proofs.Walk.{Keeps, last_of, longer, opened, script-holds, so_far}

abbrev IsBefore : Section → Section → Type 0
IsBefore s t = s.session < t.session

abbrev IsWithin : Section → Type 0
IsWithin s = s.session ≤ 64

record Ascend (sections : List Section) : Type 0 where
  rising : Pairs IsBefore sections
  within : Each IsWithin sections

abbrev SoFarAscends : List Section → Option Section → Type 0
SoFarAscends before now = Ascend (so_far before now)

-- a section of the same number in the last one's place
same-number : (before : List Section) (s t : Section) → s.session ≡ t.session → Ascend (before ++ s ∷ []) → Ascend (before ++ t ∷ [])
same-number before s t same h =
    let across : Each (λ r. IsBefore r t) before =
    each_weaker (λ r. Each (IsBefore r) (s ∷ [])) (λ r. IsBefore r t) (λ r k. subst (λ n. r.session < n) same k.0) before (pairs_across IsBefore before (s ∷ []) h.rising) in
    record {
      rising = pairs_push IsBefore before t (pairs_left IsBefore before (s ∷ []) h.rising) across;
      within = each_append IsWithin before (t ∷ []) (each_left IsWithin before (s ∷ []) h.within) (subst (λ n. n ≤ 64) same (each_right IsWithin before (s ∷ []) h.within).0, tt);
    }

with-command : (before : List Section) (now : Option Section) (c : Command) → SoFarAscends before now → SoFarAscends before (option_map (longer c) now)
with-command before None c h = h
with-command before (Some s) c h = same-number before s (longer c s) refl h

setup-first : (sections : List Section) → is_empty sections ≡ true → Ascend (sections ++ opened 0 ∷ [])
setup-first [] e = record { rising = (tt, tt); within = (omega arith, tt) }
setup-first (s ∷ ss) e = absurd (true≢false (sym e))

-- what is above the last number is above each
below-last : (sections : List Section) (n : ℕ) → Pairs IsBefore sections → is_later (last_of sections) n ≡ true → Each (λ s. s.session < n) sections
below-last [] n h e = tt
below-last (s ∷ []) n h e = (ltb-true s.session n e, tt)
below-last (s ∷ t ∷ ss) n h e =
    let rest : Each (λ r. r.session < n) (t ∷ ss) = below-last (t ∷ ss) n h.1 e in
    let first : s.session < t.session = h.0.0 in
    let second : t.session < n = rest.0 in
    (omega arith, rest)

session-later : (sections : List Section) (n : ℕ) → n ≤ 64 → is_later (last_of sections) n ≡ true → Ascend sections → Ascend (sections ++ opened n ∷ [])
session-later sections n small later h =
    record {
      rising = pairs_push IsBefore sections (opened n) h.rising (below-last sections n h.rising later);
      within = each_append IsWithin sections (opened n ∷ []) h.within (small, tt);
    }

keeps-ascending : Keeps (λ c. Unit {0}) SoFarAscends
keeps-ascending = record {
  command = λ before now c any h. with-command before now c h;
  setup = λ before now first h. setup-first (so_far before now) first;
  session = λ before now n small later h. session-later (so_far before now) n small later h;
  ends = λ before now h. subst Ascend (sym (append-nil (so_far before now))) h;
}

script-ascends : (is_built : Draft → Bool) (bytes : List ℕ) (tail : Bool) (script : Script) (place : ℕ) → script_where is_built bytes tail ≡ Ok (script, place) → Ascend script.sections
script-ascends is_built bytes tail script place e =
    let held : Ascend (script.sections ++ []) =
    script-holds (λ c. Unit {0}) SoFarAscends keeps-ascending (λ statements. tt) (λ statement. tt) (λ tokens statement read. tt) (record { rising = tt; within = tt }) is_built bytes tail script place e in
    subst Ascend (append-nil script.sections) held

pub sections-rise : (is_built : Draft → Bool) (bytes : List ℕ) (tail : Bool) (script : Script) (place : ℕ) → script_where is_built bytes tail ≡ Ok (script, place)
    → AllPairs (λ s t. s.session < t.session) script.sections
sections-rise is_built bytes tail script place e = pairs_from IsBefore script.sections (script-ascends is_built bytes tail script place e).rising

pub sections-within : (is_built : Draft → Bool) (bytes : List ℕ) (tail : Bool) (script : Script) (place : ℕ) → script_where is_built bytes tail ≡ Ok (script, place)
    → All (λ s. s.session ≤ 64) script.sections
sections-within is_built bytes tail script place e = all_from IsWithin script.sections (script-ascends is_built bytes tail script place e).within

pub built-sections-rise : (bytes : List ℕ) (tail : Bool) (script : Script) (place : ℕ) → built_script bytes tail ≡ Ok (script, place) → AllPairs (λ s t. s.session < t.session) script.sections
unfolding built_script
built-sections-rise bytes tail script place e = sections-rise draft_is_built bytes tail script place e

pub built-sections-within : (bytes : List ℕ) (tail : Bool) (script : Script) (place : ℕ) → built_script bytes tail ≡ Ok (script, place) → All (λ s. s.session ≤ 64) script.sections
unfolding built_script
built-sections-within bytes tail script place e = sections-within draft_is_built bytes tail script place e
