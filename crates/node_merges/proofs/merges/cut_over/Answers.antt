use Rattle.std.proofs.Common.{Err, ap, ◌∙◌}
use Rattle.index_primary.specs.declared.parts.PrimaryFault.{PrimaryFault}
use Rattle.index_primary.specs.declared.parts.PrimaryParts.{PrimaryParts}
use Rattle.index_primary.specs.States.{out_of, is_out}
use Rattle.node_merges.proofs.MergeSteps.{cuts_over, gives_back}
use Rattle.node_merges.proofs.merges.cut_over.Goals as goal

pub returns-in-Ok : goal.returns-in-Ok
returns-in-Ok g c = cuts_over g.D.Dir.cells c.args.seg c.args.state c.args.primary.now c.merge_cut.new.self c.give_back.new.self c.in-Ok.ensures.cut c.in-Ok.ensures.documents c.in-Ok.ensures.others c.in-Ok.ensures.stays c.in-Ok.ensures.fresh c.in-Ok.ensures.drawn
    c.in-Ok.ensures.appears c.give_back.ensures.states c.give_back.ensures.others c.give_back.ensures.stays c.give_back.ensures.no_new c.give_back.ensures.appears c.give_back.ensures.whole

pub give_back-requires-in-Err : goal.give_back-requires-in-Err
give_back-requires-in-Err g c = record { out = ap (λ (z : PrimaryParts _). is_out (out_of c.args.state) z.states) c.in-Err.ensures.err ∙ c.requires.out }

pub returns-in_ok-is_failed-in-Err : goal.returns-in_ok-is_failed-in-Err
returns-in_ok-is_failed-in-Err g c =
    gives_back g.D.Dir.cells c.args.seg c.args.state c.args.primary.now c.merge_cut.new.self c.give_back-in-Err.new.self (c.merge_cut.ensures.ended (c.in-Err.is ∙ ap (λ (f : PrimaryFault). Err f) c.in_ok-is_failed-in-Err.ensures)) c.in-Err.ensures.err
    c.in-Err.ensures.stays c.in-Err.ensures.given_back c.in-Err.ensures.drawn c.in-Err.ensures.appears c.give_back-in-Err.ensures.states c.give_back-in-Err.ensures.others c.give_back-in-Err.ensures.stays
    c.give_back-in-Err.ensures.no_new c.give_back-in-Err.ensures.appears c.give_back-in-Err.ensures.whole
