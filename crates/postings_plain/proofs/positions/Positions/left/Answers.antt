use Rattle.std.proofs.Common.{length, sym, ap, ◌∙◌}
use Rattle.postings_plain.proofs.PlaceLaws.{length-left}
use Rattle.postings_plain.proofs.positions.Positions.left.Goals as goal

pub returns : goal.returns
returns c =
    let a = c.self.inside in
    sym (length-left a.count a.least a.rest.now c.self.invariant.1) ∙ ap length c.self.view_is
