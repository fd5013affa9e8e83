use Rattle.searcher_switch.proofs.Places.{moves_closed, closed_only, closed_counted, fresh_without}
use Rattle.searcher_switch.proofs.searchers.Searchers.release.Goals as goal

pub release-requires : goal.release-requires
release-requires g c = record {
  each = closed_counted c.args.self.now.point c.args.ticket.number c.take_out-open.result c.args.self.now.tickets c.as_slice.result.now c.args.files.now
      c.requires.counts.each c.as_slice.ensures c.take_out-open.ensures.open;
}

pub returns-clause-moves : goal.returns-clause-moves
returns-clause-moves g c = moves_closed c.args.self.now.point c.args.ticket.number c.take_out-open.result c.args.self.now.tickets c.take_out-open.new.tickets c.as_slice.result.now
    c.args.files.now c.release.new.self (g.D.Dir.cells c.args.dir.now) (g.D.Dir.cells c.release.new.dir) c.release.ensures.lets_go c.as_slice.ensures c.take_out-open.ensures.open c.take_out-open.ensures.rest

pub invariant_of-self : goal.invariant_of-self
invariant_of-self g c = record { fresh = rw c.take_out-open.ensures.rest (fresh_without c.args.self.now.next c.args.ticket.number c.args.self.now.tickets c.args.self.now.fresh) }

pub returns-clause-only : goal.returns-clause-only
returns-clause-only g c = closed_only c.args.self.now.point c.args.ticket.number c.take_out-open.result c.args.self.now.tickets c.take_out-open.new.tickets c.take_out-open.ensures.open c.take_out-open.ensures.rest
