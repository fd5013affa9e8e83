use Rattle.lane_threads.proofs.PhaseLemmas.{part_of, part_fresh}
use Rattle.std.proofs.Common.{sym}
use Rattle.std.proofs.lemmas.Option.{slice_get_within, get_or_from_slice_get}
use Rattle.lane_threads.proofs.laws.part_may_begin.Goals as goal

pub returns : goal.returns
returns c =
    let phases = c.args.phases.now in
    let phase = c.args.phase.now in
    let is = sym (get_or_from_slice_get phases c.args.k phase phase c.requires.phase) in
    let within = slice_get_within phases c.args.k phase c.requires.phase in
    record {
      part = part_of c.args.logged c.args.lane phases c.requires.form c.args.k phase is within;
      fresh = part_fresh c.args.logged c.args.lane phases c.requires.form c.args.k phase is within _ c.requires.ready;
    }
