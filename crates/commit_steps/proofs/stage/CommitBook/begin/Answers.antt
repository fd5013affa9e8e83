use Rattle.std.proofs.Common.{subst}
use Rattle.std.specs.Prelude.{Contains}
use Rattle.std.specs.List.{flat_map}
use Rattle.segment_infos.specs.Files.{files_of_segment}
use Rattle.segment_infos.specs.declared.infos.Infos.{Infos}
use Rattle.commit_steps.proofs.Beginning.{files_there, begun_sound, begun_moves}
use Rattle.commit_steps.proofs.stage.CommitBook.begin.Goals as goal

pub returns-clause-moves : goal.returns-clause-moves
returns-clause-moves g c = rw c.put.ensures
    (begun_moves (g.D.Dir.cells c.args.dir.now) c.args.files.now c.flight_held.new.files c.args.self.now c.in_ok-flight.flight c.requires.none c.in_ok-flight.ensures.flight c.in_ok-flight.ensures.number
    c.in_ok-flight.ensures.holds)

pub returns-clause-sound : goal.returns-clause-sound
returns-clause-sound g c = rw c.put.ensures
    (begun_sound (g.D.Dir.cells c.args.dir.now) c.args.files.now c.flight_held.new.files c.args.self.now c.in_ok-flight.flight c.requires.none c.in_ok-flight.ensures.flight c.in_ok-flight.ensures.number
    c.in_ok-flight.ensures.holds c.in_ok-flight.ensures.due
    (files_there (g.D.Dir.cells c.args.dir.now) c.in_ok-flight.flight.commit c.in_ok-flight.ensures.flight.commit
    (λ q named. c.requires.there q (subst (λ (x : Infos). Contains (flat_map files_of_segment x.segs) q) c.in_ok-flight.ensures.infos named)))
    c.requires.pending c.requires.own c.requires.sound)
