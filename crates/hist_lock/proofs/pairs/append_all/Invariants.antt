use Rattle.std.proofs.Common.{◌≡◌}
use Rattle.hist_lock.specs.Pairs.{pairs_below, IsFreeSeat, HasSameRoom}
use Rattle.hist_lock.specs.Seats.{history_seen, own_entries}
use Rattle.hist_lock.proofs.pairs.append_all.Given as goal

abbrev pub invariant-loop-number : goal.invariant-loop-number
invariant-loop-number g l = IsFreeSeat l.lock l.by l.seat × HasSameRoom l.fn.seat l.seat × (own_entries l.seat ≡ pairs_below l.by l.number) × (l.seen.items ≡ history_seen l.seat)
