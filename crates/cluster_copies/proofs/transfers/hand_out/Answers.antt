use Rattle.std.proofs.Common.{◌∙◌, List, ℕ, None, map, arith, sym, subst}
use Rattle.history_book.specs.Log.{Log, printed}
use Rattle.cluster_nodes.specs.declared.went.Went.{Went}
use Rattle.cluster_nodes.specs.Went.{ByWent}
use Rattle.cluster_nodes.specs.JobPlaces.{ReadsIn, StopsIn}
use Rattle.cluster_state.specs.Met.{ArePlanned, met_in}
use Rattle.cluster_copies.proofs.Calls.{can_tell, fetches_met, alive1, source_rule, refused_turn}
use Rattle.cluster_copies.proofs.transfers.hand_out.Goals as goal

pub must_be_planned-requires-clause-count : goal.must_be_planned-requires-clause-count
must_be_planned-requires-clause-count g c = c.requires.room.count ∙ sym c.book.ensures.nodes

pub must_be_planned-requires-clause-places : goal.must_be_planned-requires-clause-places
must_be_planned-requires-clause-places g c = c.in_ok-read.ensures.count ∙ (c.requires.room.nodes ∙ sym c.book.ensures.nodes)

pub note_file-requires-clause-tells : goal.note_file-requires-clause-tells
note_file-requires-clause-tells g c =
    can_tell g.D.FaultDir.planned 3 c.read_for_in.new.places.items c.requires.room (omega arith) c.in_ok-read.ensures.count
    (subst (λ (l : Log). ArePlanned 1 c.args.met.now (map (met_in g.D.FaultDir.planned) c.read_for_in.new.places.items) (printed l)) c.book.ensures.log c.in_ok-must_be_planned.ensures) c.requires.going.unanswered

pub note_file-requires-clause-fetched : goal.note_file-requires-clause-fetched
note_file-requires-clause-fetched g c = fetches_met c.requires.going c.args.met.now (map (met_in g.D.FaultDir.planned) c.read_for_in.new.places.items)

pub note_file-requires-clause-alive : goal.note_file-requires-clause-alive
note_file-requires-clause-alive g c = alive1 c.requires.going c.args.met.now (map (met_in g.D.FaultDir.planned) c.read_for_in.new.places.items)

pub returns-in_ok-task-in-Done-clause-went : goal.returns-in_ok-task-in-Done-clause-went
returns-in_ok-task-in-Done-clause-went g c =
    subst (λ (bytes : List ℕ). ReadsIn g.D.Dir.cells c.args.p.0 c.args.file.0 bytes c.args.places.now.items c.read_for_in.new.places.items) (sym c.in_ok-task-in-Done.ensures.source)
    (subst (λ (x : Went (List ℕ)). ByWent (λ bytes. ReadsIn g.D.Dir.cells c.args.p.0 c.args.file.0 bytes c.args.places.now.items c.read_for_in.new.places.items) (StopsIn g.D.Dir.cells None c.args.p.0 c.args.row.job.node.0 c.args.places.now.items c.read_for_in.new.places.items) x) c.in-Done.is c.in_ok-read.ensures.went)

pub note_disk_failed-requires-clause-tells : goal.note_disk_failed-requires-clause-tells
note_disk_failed-requires-clause-tells g c =
    can_tell g.D.FaultDir.planned 2 c.read_for_in.new.places.items c.requires.room (omega arith) c.in_ok-read.ensures.count
    (subst (λ (l : Log). ArePlanned 1 c.args.met.now (map (met_in g.D.FaultDir.planned) c.read_for_in.new.places.items) (printed l)) c.book.ensures.log c.in_ok-must_be_planned.ensures) c.requires.going.unanswered

pub note_disk_failed-requires-clause-rule : goal.note_disk_failed-requires-clause-rule
note_disk_failed-requires-clause-rule g c = source_rule c.requires.going c.args.met.now (map (met_in g.D.FaultDir.planned) c.read_for_in.new.places.items)

pub note_disk_failed-requires-clause-turn : goal.note_disk_failed-requires-clause-turn
note_disk_failed-requires-clause-turn g c = refused_turn c.requires.going c.args.met.now (map (met_in g.D.FaultDir.planned) c.read_for_in.new.places.items)

pub returns-in_ok-note_disk_failed-in-Failed-clause-went : goal.returns-in_ok-note_disk_failed-in-Failed-clause-went
returns-in_ok-note_disk_failed-in-Failed-clause-went g c =
    subst (λ (x : Went (List ℕ)). ByWent (λ bytes. ReadsIn g.D.Dir.cells c.args.p.0 c.args.file.0 bytes c.args.places.now.items c.read_for_in.new.places.items) (StopsIn g.D.Dir.cells None c.args.p.0 c.args.row.job.node.0 c.args.places.now.items c.read_for_in.new.places.items) x) c.in-Failed.is c.in_ok-read.ensures.went
