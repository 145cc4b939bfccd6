use Rattle.std.proofs.Common.{◌≡◌, drop, take}
use Rattle.def_effect.specs.Define.{new_key_refusal}
use Rattle.def_resolve.specs.Earlier.{first_after, first_in_turn}
use Rattle.wh_define.proofs.keys.keys_refusal.Given as goal

abbrev pub invariant-loop-at : goal.invariant-loop-at
invariant-loop-at l = first_after (new_key_refusal l.columns) (take l.at l.keys) (drop l.at l.keys) ≡ first_in_turn (new_key_refusal l.columns) l.keys
