use Rattle.std.proofs.Common.{sym, ◌∙◌, length-take-le}
use Rattle.known_past.proofs.PlaceLaws.{before_there}
use Rattle.known_past.proofs.past.KnownPast.before_start.Goals as goal

pub slice_bounds-result-end : goal.slice_bounds-result-end
slice_bounds-result-end c =
    sym (length-take-le c.in-Some.place c.args.entries.now (before_there c.args.at c.args.entries.now c.in-Some.place (sym c.in-Some.is ∙ c.line.ensures.start)).1)
