use Rattle.std.proofs.Common.{sym}
use Rattle.cluster_nodes.proofs.Stepping.{alters_by}
use Rattle.cluster_nodes.proofs.JobNumbers.{nothing_back, state_back, back_out}
use Rattle.cluster_nodes.proofs.jobs.give_back.Goals as goal

pub returns-in_default : goal.returns-in_default
returns-in_default g c = nothing_back g.D.Dir.cells c.args.primary.now c.args.state c.in_default.not-Some

pub give_back-requires : goal.give_back-requires
give_back-requires g c = record { out = back_out g.D.Dir.cells c.args.primary.now c.args.state c.in-Some.state c.in-Some.is c.requires }

pub returns : goal.returns
returns g c = state_back g.D.Dir.cells c.args.primary.now c.give_back.new.self c.args.state c.in-Some.state c.in-Some.is
    (alters_by g.D.Dir.cells c.args.primary.now c.give_back.new.self c.give_back.ensures.stays c.give_back.ensures.no_new c.give_back.ensures.appears c.give_back.ensures.others (λ w. c.give_back.ensures.whole))
    c.give_back.ensures.states
