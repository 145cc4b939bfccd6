-- The last section.
use Rattle.std.proofs.Common.{◌≡◌, List, [], ◌∷◌, ◌++◌, Some, refl, ap, sym, append-nil}
use Rattle.std.specs.Prelude.{option_map}
use Rattle.wh_base.specs.Lists.{last}
use Rattle.wh_base.specs.declared.statements.Section.{Section}
use Rattle.wh_script.specs.Drafts.{last_session}

pub last-end : {A : Type 0} (xs : List A) (y : A) → last (xs ++ y ∷ []) ≡ Some y
last-end [] y = refl
last-end (x ∷ []) y = refl
last-end (x ∷ z ∷ xs) y = last-end (z ∷ xs) y

pub last_session-end : (sections : List Section) (s : Section) → Some s.session ≡ last_session (sections ++ s ∷ [])
last_session-end sections s = sym (ap (λ o. option_map (λ t. t.session) o) (last-end sections s))

pub last_session-same : (sections : List Section) → last_session sections ≡ last_session (sections ++ [])
last_session-same sections = ap last_session (sym (append-nil sections))

pub ruleset lasts = (last_session-end, last_session-same, last-end)
