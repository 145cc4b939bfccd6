-- A script of forms that are built is the same script by the whole grammar, and a fault other than NotBuilt is the same fault.
use Rattle.std.proofs.Common.{◌≡◌, ◌∷◌, sym, ap, ℕ, List, [], Bool, true, false, cond, Ok, Err}
use Rattle.wh_base.specs.Lists.{◌>>=◌}
use Rattle.wh_base.specs.declared.statements.BadScript.{BadScript}
use Rattle.wh_base.specs.declared.statements.Script.{Script}
use Rattle.wh_base.specs.declared.statements.ScriptKind.{ScriptKind}
use Rattle.wh_base.specs.declared.statements.ScriptKind.TheVariants.{NotBuilt}
use Rattle.def_built.specs.Form.{built_script, draft_is_built}
use Rattle.def_grammar.specs.Script.{Directed, Draft, Drafted, Element, Ended, Loaded, Outcome, Stated, Unreadable, bad, block_bytes, elements_of, first_draft, line_at, read_from, script_of, statement_place, take_directive, take_load, take_statement, where_built}

-- every draft is built by the whole grammar
abbrev all_built : Draft → Bool
all_built d = true

-- an outcome that isn't NotBuilt
module _ (b : Draft → Bool) (r : Outcome) (runs : (line : ℕ) → Err (bad line NotBuilt) ≡ r → ⊥) where
  -- one element: what comes of each draft that is built comes of it by the whole grammar too
  taken : (line : ℕ) (drafted : Drafted) (f g : Draft → Outcome) → ((e : Draft) → f e ≡ r → g e ≡ r) → (where_built b line drafted >>= f) ≡ r → (where_built all_built line drafted >>= g) ≡ r
  taken line (Err e) f g goes h = h
  taken line (Ok d) f g goes h = by (b d) h
    where
      by : (x : Bool) → (cond x (Ok d) (Err (bad line NotBuilt)) >>= f) ≡ r → g d ≡ r
      by true k = goes d k
      by false k = absurd (runs line k)

  -- all elements
  read_wholly : (bytes : List ℕ) (tail : Bool) (d : Draft) (es : List Element) → read_from b bytes tail d es ≡ r → read_from all_built bytes tail d es ≡ r
  read_wholly bytes tail d [] h = h
  read_wholly bytes tail d (Unreadable kind place ∷ rest) h = h
  read_wholly bytes tail d (Ended l ls ∷ rest) h = h
  read_wholly bytes tail d (Stated s ∷ rest) h =
      let line = line_at bytes (statement_place s) in
      taken line (take_statement d line s) (λ e. read_from b bytes tail e rest) (λ e. read_from all_built bytes tail e rest) (λ e k. read_wholly bytes tail e rest k) h
  read_wholly bytes tail d (Directed l t ∷ rest) h =
      taken l.number (take_directive d l.number t) (λ e. read_from b bytes tail e rest) (λ e. read_from all_built bytes tail e rest) (λ e k. read_wholly bytes tail e rest k) h
  read_wholly bytes tail d (Loaded l n ls closed ∷ rest) h =
      taken l.number (take_load d l.number n (block_bytes ls) closed) (λ e. read_from b bytes tail e rest) (λ e. read_from all_built bytes tail e rest) (λ e k. read_wholly bytes tail e rest k) h

-- where the bytes are a script of forms that are built, they are this script, and it ends at this place
pub built_is_script : (bytes : List ℕ) (tail : Bool) (p : Script × ℕ) → built_script bytes tail ≡ Ok p → script_of bytes tail ≡ Ok p
unfolding built_script
built_is_script bytes tail p h = read_wholly draft_is_built (Ok p) (λ line e. absurd (cc)) bytes tail first_draft (elements_of bytes) h

-- the kind of a fault
kind_in : Outcome → ScriptKind
kind_in (Ok p) = NotBuilt
kind_in (Err e) = e.kind

-- where they have another fault than a form that isn't built, it is their first fault
pub built_fault_is_fault : (bytes : List ℕ) (tail : Bool) (e : BadScript) → (e.kind ≡ NotBuilt → ⊥) → built_script bytes tail ≡ Err e → script_of bytes tail ≡ Err e
unfolding built_script kind_in
built_fault_is_fault bytes tail e other h = read_wholly draft_is_built (Err e) (λ line k. other (sym (ap kind_in k))) bytes tail first_draft (elements_of bytes) h
