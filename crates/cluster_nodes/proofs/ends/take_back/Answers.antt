use Rattle.std.proofs.Common.{◌∙◌, ap, sym, Some}
use Rattle.std.specs.Option.{option_map}
use Rattle.index_primary.specs.States.{out_of}
use Rattle.cluster_nodes.proofs.Stepping.{alters_by}
use Rattle.cluster_nodes.proofs.EndedJobs.{no_state, nothing_back, state_out, state_back}
use Rattle.cluster_nodes.proofs.ends.take_back.Goals as goal

pub returns-in_default : goal.returns-in_default
returns-in_default g c = nothing_back g.D.Dir.cells c.args.p.0 c.args.n.0 c.args.places.now.items c.requires.can (no_state c.in_ok-state.field-0 _ c.in_default.not-Some c.in_ok-state.ensures)

pub give_back-requires : goal.give_back-requires
give_back-requires g c = record {
  out = state_out g.D.Dir.cells c.args.p.0 c.args.n.0 c.args.places.now.items c.primary_in-primary.result.0 c.primary_in-primary.result.1 c.in-Some.state c.requires.can
      (c.take.ensures.place ∙ ap Some c.primary_in-primary.ensures) (ap (option_map out_of) (sym c.in-Some.is) ∙ c.in_ok-state.ensures);
}

pub returns : goal.returns
returns g c = state_back g.D.Dir.cells c.args.p.0 c.args.n.0 c.args.places.now.items c.take.new.places.items c.put.new.places.items c.primary_in-primary.result.0 c.give_back.new.self c.primary_in-primary.result.1 c.in-Some.state c.requires.can.slot
    (c.take.ensures.place ∙ ap Some c.primary_in-primary.ensures) c.take.ensures.count c.take.ensures.places c.put.ensures.count c.put.ensures.places (ap (option_map out_of) (sym c.in-Some.is) ∙ c.in_ok-state.ensures)
    (alters_by g.D.Dir.cells c.primary_in-primary.result.0 c.give_back.new.self c.give_back.ensures.stays c.give_back.ensures.no_new c.give_back.ensures.appears c.give_back.ensures.others (λ w. c.give_back.ensures.whole))
    c.give_back.ensures.states
