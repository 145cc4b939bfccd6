-- Whether commands are built with one more.
use Rattle.std.proofs.Common.{◌≡◌, List, [], ◌∷◌, ◌++◌, Bool, true, false, refl, ap, sym, subst, ◌∙◌, ◌&&◌}
use Rattle.std.proofs.Math.Bool.{and-true}
use Rattle.std.specs.List.{list_all}
use Rattle.def_built.specs.Commands.{command_is_built, commands_are_built}
use Rattle.wh_base.specs.declared.statements.Command.{Command}
use Rattle.wh_script.specs.Built.{but_last}

pub but_last-end : {A : Type 0} (xs : List A) (y : A) → but_last (xs ++ y ∷ []) ≡ xs
but_last-end [] y = refl
but_last-end (x ∷ []) y = refl
but_last-end (x ∷ z ∷ xs) y = ap (λ zs. x ∷ zs) (but_last-end (z ∷ xs) y)

pub all_more : {A : Type 0} (p : A → Bool) (xs : List A) (y : A) → list_all p (xs ++ y ∷ []) ≡ (list_all p xs && p y)
all_more p [] y = and-true (p y)
all_more p (x ∷ xs) y = by_test (p x) (all_more p xs y)
  where
    by_test : (b : Bool) → list_all p (xs ++ y ∷ []) ≡ (list_all p xs && p y) → (b && list_all p (xs ++ y ∷ [])) ≡ ((b && list_all p xs) && p y)
    by_test true h = h
    by_test false h = refl

-- the last command tells whether all are built, where those before it are
pub last-command : (cs before : List Command) (c : Command) → cs ≡ before ++ c ∷ [] → commands_are_built (but_last cs) ≡ true → command_is_built c ≡ commands_are_built cs
last-command cs before c e h =
    let known : commands_are_built before ≡ true = subst (λ xs. commands_are_built xs ≡ true) (ap but_last e ∙ but_last-end before c) h in
    rw e (sym (all_more command_is_built before c ∙ ap (λ b. b && command_is_built c) known))

pub ruleset commands = (last-command)
