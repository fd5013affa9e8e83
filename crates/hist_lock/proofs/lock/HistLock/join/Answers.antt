use Rattle.std.proofs.Common.{arith, ap, ◌∙◌}
use Rattle.hist_lock.specs.Seats.{history_seen}
use Rattle.hist_lock.proofs.Keeps.{merges, compares_two}
use Rattle.hist_lock.proofs.lock.HistLock.join.Goals as goal

pub join_seat-requires : goal.join_seat-requires
join_seat-requires g c = let size = c.args.self.now.sized in (c.requires.of.0, c.requires.of.1, c.requires.free.1.1, omega arith, merges g.T.Grows.history g.T.Grows.names _ _ _ _ c.requires.free.0.0)

pub load-requires : goal.load-requires
load-requires g c = let size = c.args.self.now.sized in let e = c.join_seat.ensures in (
  e.0 ∙ c.requires.of.0,
  omega arith,
  compares_two g.T.Grows.history g.T.Grows.names _ _ _ (history_seen c.args.seat.now) (history_seen c.args.other) (ap (λ m. m.1) e.2 ∙ c.requires.free.0.1) (ap (λ m. m.0.told) e.2) (ap (λ m. m.0.seen) e.2),
)
