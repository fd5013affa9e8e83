use Rattle.std.proofs.Common.{◌∙◌, refl, arith}
use Rattle.cluster_merges.proofs.SendSteps.{begun_next, begun_last}
use Rattle.cluster_merges.proofs.writes.note_begun.Goals as goal

pub loop-s-init : goal.loop-s-init
loop-s-init c = record { log = refl; nodes = refl; cut = refl; room = omega arith; within = omega arith }

pub note_one-requires : goal.note_one-requires
note_one-requires c = record { room = omega (arith, c.requires.room, c.loop-s.invariant.room, c.loop-s-test.true) }

pub loop-s-preserved : goal.loop-s-preserved
loop-s-preserved c = record {
  log = begun_next c.args.line c.args.sent.now c.loop-s.s-index _ _ c.args.ledger.now.log c.loop-s.ledger.log c.note_one.new.ledger.log c.loop-s-test.true refl c.loop-s.invariant.log c.note_one.ensures.log;
  nodes = c.note_one.ensures.nodes ∙ c.loop-s.invariant.nodes;
  cut = c.note_one.ensures.cut ∙ c.loop-s.invariant.cut;
  room = omega (arith, c.note_one.ensures.room, c.loop-s.invariant.room);
  within = omega (arith, c.loop-s-test.true);
}

pub returns-clause-log : goal.returns-clause-log
returns-clause-log c = begun_last c.args.line c.args.sent.now c.loop-s.s-index c.args.ledger.now.log c.loop-s.ledger.log (omega arith) c.loop-s.invariant.log

pub returns-clause-room : goal.returns-clause-room
returns-clause-room c = omega (arith, c.requires.room, c.loop-s.invariant.room, c.loop-s.invariant.within)
