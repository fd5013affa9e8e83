use Rattle.segment_infos.proofs.NumberLaws.{own_numbers}
use Rattle.segment_infos.proofs.reading.have_own_numbers.Goals as goal

pub returns : goal.returns
returns c =
    let e = c.in_ok-numbers.ensures in
    own_numbers c.args.segs.now c.in_ok-numbers.numbers.items c.sort_unstable.new.self.items c.deref.result.now c.are_ascending.result e c.sort_unstable.ensures.permutation c.sort_unstable.ensures.sorted c.deref.ensures.value c.are_ascending.ensures
