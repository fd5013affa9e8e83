use Rattle.std.proofs.Common.{◌≢◌, ◌∙◌, ℕ, None, map, arith, sym, subst}
use Rattle.history_rules.specs.Rules.{IsLineWhole}
use Rattle.history_tables.specs.Begins.{open_line}
use Rattle.history_book.specs.Log.{Log, printed}
use Rattle.cluster_nodes.specs.declared.went.Went.{Went}
use Rattle.cluster_nodes.specs.Went.{ByWent}
use Rattle.cluster_nodes.specs.JobPlaces.{FinishesIn, StopsIn}
use Rattle.cluster_state.specs.Met.{ArePlanned, met_in}
use Rattle.cluster_copies.proofs.Calls.{can_tell, node_rule, refused_turn}
use Rattle.cluster_copies.proofs.transfers.finish.Goals as goal

pub must_be_whole-requires : goal.must_be_whole-requires
must_be_whole-requires g c = subst (λ (l : Log). open_line c.args.row.job.at (printed l) ≢ None) (sym c.book.ensures.log) c.requires.going.line

pub must_be_planned-requires-clause-count : goal.must_be_planned-requires-clause-count
must_be_planned-requires-clause-count g c = c.requires.room.count ∙ sym c.book-2.ensures.nodes

pub must_be_planned-requires-clause-places : goal.must_be_planned-requires-clause-places
must_be_planned-requires-clause-places g c = c.in_ok-finished.ensures.count ∙ (c.requires.room.nodes ∙ sym c.book-2.ensures.nodes)

pub note_ended-requires-clause-tells : goal.note_ended-requires-clause-tells
note_ended-requires-clause-tells g c =
    can_tell g.D.FaultDir.planned 3 c.finish_in.new.places.items c.requires.room (omega arith) c.in_ok-finished.ensures.count
    (subst (λ (l : Log). ArePlanned 1 c.args.met.now (map (met_in g.D.FaultDir.planned) c.finish_in.new.places.items) (printed l)) c.book-2.ensures.log c.in_ok-must_be_planned.ensures) c.requires.going.unanswered

pub note_ended-requires-clause-whole : goal.note_ended-requires-clause-whole
note_ended-requires-clause-whole g c =
    subst (λ (x : ℕ × Log). IsLineWhole x.0 (printed x.1) c.args.row.job.at) (λ i. (c.book.ensures.nodes i, c.book.ensures.log i)) c.in_ok-must_be_whole.ensures

pub returns-in-Done-clause-went : goal.returns-in-Done-clause-went
returns-in-Done-clause-went g c =
    subst (λ (x : Went Unit). ByWent (λ done. FinishesIn g.D.Dir.cells c.args.p.0 c.args.row.job.node.0 c.args.places.now.items c.finish_in.new.places.items) (StopsIn g.D.Dir.cells None c.args.p.0 c.args.row.job.node.0 c.args.places.now.items c.finish_in.new.places.items) x) c.in-Done.is c.in_ok-finished.ensures.went

pub note_disk_failed-requires-clause-tells : goal.note_disk_failed-requires-clause-tells
note_disk_failed-requires-clause-tells g c =
    can_tell g.D.FaultDir.planned 2 c.finish_in.new.places.items c.requires.room (omega arith) c.in_ok-finished.ensures.count
    (subst (λ (l : Log). ArePlanned 1 c.args.met.now (map (met_in g.D.FaultDir.planned) c.finish_in.new.places.items) (printed l)) c.book-2.ensures.log c.in_ok-must_be_planned.ensures) c.requires.going.unanswered

pub note_disk_failed-requires-clause-rule : goal.note_disk_failed-requires-clause-rule
note_disk_failed-requires-clause-rule g c = node_rule c.requires.going c.args.met.now (map (met_in g.D.FaultDir.planned) c.finish_in.new.places.items)

pub note_disk_failed-requires-clause-turn : goal.note_disk_failed-requires-clause-turn
note_disk_failed-requires-clause-turn g c = refused_turn c.requires.going c.args.met.now (map (met_in g.D.FaultDir.planned) c.finish_in.new.places.items)

pub returns-in_ok-note_disk_failed-in-Failed-clause-went : goal.returns-in_ok-note_disk_failed-in-Failed-clause-went
returns-in_ok-note_disk_failed-in-Failed-clause-went g c =
    subst (λ (x : Went Unit). ByWent (λ done. FinishesIn g.D.Dir.cells c.args.p.0 c.args.row.job.node.0 c.args.places.now.items c.finish_in.new.places.items) (StopsIn g.D.Dir.cells None c.args.p.0 c.args.row.job.node.0 c.args.places.now.items c.finish_in.new.places.items) x) c.in-Failed.is c.in_ok-finished.ensures.went
