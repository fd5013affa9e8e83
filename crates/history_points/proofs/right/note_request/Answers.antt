use Rattle.history_points.proofs.RightLaws.{one_requested}
use Rattle.history_points.proofs.right.note_request.Goals as goal

pub returns-in_ok-push-in-Answered : goal.returns-in_ok-push-in-Answered
returns-in_ok-push-in-Answered c =
    one_requested c.args.entries.now c.args.requests.now.items c.push.new.self.items _ c.args.places.now c.in_ok-push-in-Answered.ensures.items c.requires.requests c.requires.within c.requires.places
    c.place_of-place.ensures
