use Rattle.std.proofs.Common.{take}
use Rattle.trans_log.specs.Opening.{IsLastNumber}
use Rattle.trans_log.proofs.opening.last_number.Given as goal

-- the greatest number among the names so far
abbrev pub invariant-loop-name : goal.invariant-loop-name
invariant-loop-name l = IsLastNumber (take l.name-index l.names) l.last
