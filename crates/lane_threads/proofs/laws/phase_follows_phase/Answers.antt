use Rattle.lane_threads.proofs.PhaseLemmas.{ready_after}
use Rattle.std.proofs.Common.{sym}
use Rattle.std.proofs.lemmas.Option.{slice_get_within, get_or_from_slice_get}
use Rattle.lane_threads.proofs.laws.phase_follows_phase.Goals as goal

pub returns : goal.returns
returns c =
    let phases = c.args.phases.now in
    let phase = c.args.phase.now in
    let is = sym (get_or_from_slice_get phases c.args.k phase phase c.requires.phase) in
    let within = slice_get_within phases c.args.k phase c.requires.phase in
    ready_after c.args.logged c.args.lane phases c.requires.form c.args.k phase is within _ _ c.requires.ready c.requires.done
