use Rattle.std.proofs.Common.{arith, ap, ◌∙◌}
use Rattle.hist_lock.specs.Seats.{history_seen}
use Rattle.hist_lock.specs.History.{shorter_of, longer_of}
use Rattle.hist_lock.proofs.Keeps.{notes, hears, compares_two}
use Rattle.hist_lock.proofs.lock.HistLock.tell.Goals as goal

pub split_seat-note-requires : goal.split_seat-note-requires
split_seat-note-requires g c = let size = c.args.self.now.sized in (c.requires.of.0, omega arith, notes g.T.Grows.history g.T.Grows.names _ _)

pub join_seat-requires : goal.join_seat-requires
join_seat-requires g c = let size = c.args.self.now.sized in let e = c.split_seat-note.ensures in
    (c.requires.of.1, e.3 ∙ c.requires.of.0, ap (λ m. m.1) e.4, omega arith, hears g.T.Grows.history g.T.Grows.names _ _ _ _ c.requires.free.1.0 (ap (λ m. m.0.room) e.4))

pub load-requires : goal.load-requires
load-requires g c = let size = c.args.self.now.sized in let n = c.split_seat-note.ensures in let e = c.join_seat.ensures in (
  e.0 ∙ c.requires.of.1,
  omega arith,
  compares_two g.T.Grows.history g.T.Grows.names _ _ _ (history_seen c.args.to.now) (history_seen c.args.from.now) (ap (λ m. m.1) e.2 ∙ c.requires.free.1.1)
      (ap (λ m. m.0.told) e.2 ∙ ap (λ m. shorter_of (history_seen c.args.to.now) m.0.seen) n.4) (ap (λ m. m.0.seen) e.2 ∙ ap (λ m. longer_of (history_seen c.args.to.now) m.0.seen) n.4),
)
