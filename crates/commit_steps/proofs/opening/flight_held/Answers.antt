use Rattle.std.proofs.Common.{List, sym, ap, subst, ◌∙◌, ◌&&◌, not}
use Rattle.std.specs.Prelude.{Contains}
use Rattle.std.specs.List.{flat_map}
use Rattle.disk_model.specs.Disk.{Name, is_among}
use Rattle.segment_infos.specs.Files.{files_of_segment}
use Rattle.segment_infos.specs.declared.infos.Infos.{Infos}
use Rattle.file_deleter.specs.Holdings.{AreThere, is_due}
use Rattle.file_deleter.specs.Moves.{HoldsFiles}
use Rattle.commit_steps.proofs.Beginning.{files_there}
use Rattle.commit_steps.proofs.opening.flight_held.Goals as goal

pub hold_there-requires : goal.hold_there-requires
hold_there-requires g c =
    subst (AreThere (g.D.Dir.cells c.args.dir.now)) (sym c.as_slice.ensures) (files_there (g.D.Dir.cells c.args.dir.now) c.in_ok-flight.flight.commit c.in_ok-flight.ensures.flight.commit
    (λ q named. c.requires.there q (subst (λ (x : Infos). Contains (flat_map files_of_segment x.segs) q) c.in_ok-flight.ensures.infos named)))

pub returns-in-Ok-clause-holds : goal.returns-in-Ok-clause-holds
returns-in-Ok-clause-holds g c =
    subst (λ (ns : List Name). HoldsFiles ns c.args.files.now c.hold_there.new.self (g.D.Dir.cells c.args.dir.now)) c.as_slice.ensures c.in-Ok.ensures.holds

pub returns-in-Ok-clause-due : goal.returns-in-Ok-clause-due
returns-in-Ok-clause-due g c =
    λ q. c.in-Ok.ensures.due q ∙ ap (λ (ns : List Name). is_due c.args.files.now q && not (is_among ns q)) c.as_slice.ensures
