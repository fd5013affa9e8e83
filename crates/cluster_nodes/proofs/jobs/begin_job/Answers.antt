use Rattle.std.proofs.Common.{◌≡◌, true, ap, arith, refl, subst, sym, Option}
use Rattle.std.specs.Prelude.{IfSome}
use Rattle.std.specs.Option.{option_map}
use Rattle.index_primary.specs.declared.states.Out.{Out}
use Rattle.index_primary.specs.States.{out_of, is_out}
use Rattle.replica_node.specs.declared.parts.ReplicaParts.{ReplicaParts}
use Rattle.cluster_nodes.specs.Outs.{want_of}
use Rattle.cluster_nodes.specs.Ends.{TakesBack}
use Rattle.cluster_nodes.proofs.Stepping.{out_pushed, begins, alters_by, none_by, job_noted, job_by}
use Rattle.cluster_nodes.proofs.jobs.begin_job.Goals as goal

pub give_back-requires : goal.give_back-requires
give_back-requires g c =
    subst (λ (o : Option Out). IfSome o (λ s. is_out s c.take_state.new.self.states ≡ true)) (sym c.in_ok-older.ensures)
    (out_pushed (want_of c.args.replica.now.job) (out_of c.in-Ok.state) c.args.primary.now.states c.take_state.new.self.states c.in-Ok.ensures.out c.requires.out)

pub start_job-requires-clause-few : goal.start_job-requires-clause-few
start_job-requires-clause-few g c =
    let low = c.if-begun.false in
    let now = c.jobs-begun.ensures in
    let noted = ap (λ (r : ReplicaParts _). r.jobs) c.new_point.ensures.others in
    omega (arith, low, now, noted)

pub returns-in-Err : goal.returns-in-Err
returns-in-Err g c = record {
  primary = alters_by g.D.Dir.cells c.args.primary.now c.take_state.new.self c.take_state.ensures.stays c.take_state.ensures.no_new (none_by c.take_state.ensures.cells) c.take_state.ensures.others (λ w. c.take_state.ensures.whole);
  states = c.in-Err.ensures.err.0;
  replica = refl;
}

pub returns : goal.returns
returns g c = begins g.D.Dir.cells c.args.primary.now c.take_state.new.self c.give_back.new.primary c.args.replica.now c.new_point.new.self c.start_job.new.self c.in-Ok.state _ _ _
    c.in-Ok.ensures.state c.in-Ok.ensures.out
    (alters_by g.D.Dir.cells c.args.primary.now c.take_state.new.self c.take_state.ensures.stays c.take_state.ensures.no_new (none_by c.take_state.ensures.cells) c.take_state.ensures.others (λ w. c.take_state.ensures.whole))
    (subst (λ (o : Option Out). TakesBack g.D.Dir.cells o c.take_state.new.self c.give_back.new.primary) c.in_ok-older.ensures c.give_back.ensures)
    c.new_point.ensures.seen
    (job_noted g.D.Dir.cells c.args.replica.now c.new_point.new.self c.new_point.ensures.others (λ w. c.new_point.ensures.whole) c.new_point.ensures.standing c.new_point.ensures.sourced c.new_point.ensures.appears)
    (ap (λ (r : ReplicaParts _). r.jobs) c.new_point.ensures.others) c.new_point.ensures.copies c.new_point.ensures.job c.new_point.ensures.fewer c.new_point.ensures.quiet
    (job_by g.D.Dir.cells c.new_point.new.self c.start_job.new.self c.start_job.ensures.others (λ w. c.start_job.ensures.whole) c.start_job.ensures.standing c.start_job.ensures.sourced c.start_job.ensures.appears)
    (ap (λ (r : ReplicaParts _). r.seen) c.start_job.ensures.others)
    c.in-Ok-start_job.ensures.number c.in-Ok-start_job.ensures.jobs c.in-Ok-start_job.ensures.begun c.in-Ok-start_job.ensures.some c.in-Ok-start_job.ensures.copies c.requires.seen
