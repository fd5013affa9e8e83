use Rattle.std.proofs.Common.{◌-◌, ◌≤◌, length, drop, arith, sym, ◌∙◌, length-drop}
use Rattle.point_history.proofs.ListingLemmas.{short_ascending}
use Rattle.point_history.proofs.listings.is_ascending.Goals as goal

pub returns : goal.returns
returns c =
    let rest = drop (c.loop-i.i - 1) c.args.names.now in
    let few : length rest ≤ 1 = omega (arith, length-drop (c.loop-i.i - 1) c.args.names.now) in
    sym (short_ascending rest few) ∙ c.loop-i.invariant
