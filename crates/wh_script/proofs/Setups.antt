-- Whether all sections are the setup.
use Rattle.std.proofs.Common.{◌≡◌, ◌∙◌, List, Bool, true, false, Option, ap, sym, ◌&&◌, ◌++◌}
use Rattle.std.proofs.Math.Bool.{and-true}
use Rattle.std.proofs.lemmas.List.Folds.{list_all-append}
use Rattle.std.specs.Prelude.{◌==◌, option_to_list}
use Rattle.wh_base.specs.declared.statements.Section.{Section}
use Rattle.wh_script.specs.Drafts.{are_setups}

parts : (before : List Section) (now : Option Section) → are_setups (before ++ option_to_list now) ≡ (are_setups before && are_setups (option_to_list now))
parts before now = list_all-append (λ (s : Section). s.session == 0) before (option_to_list now)

-- by the last section, where those before are
pub setups-last : (before : List Section) (now : Option Section) (first last : Bool) → first ≡ are_setups before → first ≡ true → last ≡ are_setups (option_to_list now) → last ≡ are_setups (before ++ option_to_list now)
setups-last before now first last e f l = l ∙ sym (parts before now ∙ ap (λ b. b && are_setups (option_to_list now)) (sym e ∙ f))

pub setups-first : (before : List Section) (now : Option Section) (first : Bool) → first ≡ are_setups before → first ≡ false → false ≡ are_setups (before ++ option_to_list now)
setups-first before now first e f = sym (parts before now ∙ ap (λ b. b && are_setups (option_to_list now)) (sym e ∙ f))

pub setup-one : (is p : Bool) → is ≡ p → is ≡ (p && true)
setup-one is p e = e ∙ sym (and-true p)

pub ruleset setups = (setups-last, setups-first, setup-one)
