-- What `Held::value` lends.
use Rattle.std.specs.Borrow.{Lends, MutBor, Fml}
use denote.RattleType.{RattleType}
use Rattle.hist_lock.specs.contracts.lock.Held.{the_row}

-- the lock's value ends as the last value behind the result
abbrev pub LendsValue : (R : RattleType) → MutBor R.Denot → MutBor R.Denot → Fml
LendsValue R held lent = Lends (the_row R) R held lent (λ w. w)
