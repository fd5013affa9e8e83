use Rattle.std.proofs.Common.{arith}
use Rattle.std.proofs.lemmas.Option.{slice_get-get_or}
use Rattle.replica_opening.proofs.Placed.{placed_more, placed_all}
use Rattle.replica_opening.proofs.sharing.places_of.Goals as goal

pub loop-at-preserved : goal.loop-at-preserved
loop-at-preserved c = placed_more c.args.records.now c.loop-at.at _ c.loop-at.places.entries c.note_place.new.places.entries c.requires (omega arith) (slice_get-get_or c.args.records.now c.loop-at.at _ (omega arith)) c.in_default.ensures c.loop-at.invariant

pub returns : goal.returns
returns c = placed_all c.args.records.now c.loop-at.at c.loop-at.places.entries (omega arith) c.loop-at.invariant
