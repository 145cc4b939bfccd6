-- What a turn is after a write through the value that it lends.
use Rattle.std.specs.Borrow.{Lends, Fml, RattleType, MutBor}
use Rattle.scn_lock.specs.declared.turn.Turn.{Turn}
use Rattle.scn_lock.specs.contracts.turn.Turn.{the_row}

-- the turn with another value
abbrev pub with_value : {C : Type 0} → Turn C → C → Turn C
with_value t x = record t { value = x }

-- the turn ends with the value last written through r
abbrev pub LendsValue : (R : RattleType) → MutBor (Turn R.Denot) → MutBor R.Denot → Fml
LendsValue R s r = Lends (the_row R) R s r (with_value s.now)
