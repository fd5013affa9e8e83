use Rattle.std.proofs.Common.{refl}
use Rattle.history_points.proofs.KeptLaws.{one_kept}
use Rattle.history_points.proofs.searched.SearchedTexts.keep.Goals as goal

pub returns-clause-kept : goal.returns-clause-kept
returns-clause-kept c =
    let keeps = rw c.in-Some.is at c.in_ok-one.ensures in
    one_kept c.make_room.new.self _ c.in-Some.one c.make_room.ensures.kept keeps refl c.in_ok-push.ensures.items
