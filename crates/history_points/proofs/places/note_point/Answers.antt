use Rattle.std.proofs.Common.{reverse}
use Rattle.std.proofs.lemmas.Result.{on_ok_weaker}
use Rattle.history_points.proofs.AskedLaws.{published_places}
use Rattle.history_points.proofs.places.note_point.Goals as goal

pub returns-in-Published : goal.returns-in-Published
returns-in-Published c =
    on_ok_weaker c.set_place.result
    (λ noted. published_places (reverse c.args.before.now) c.args.entry.now c.in-Published.generation c.in-Published.v c.args.places.now c.set_place.new.places c.start_count-started.result
    c.in-Published.is c.requires.places c.start_count-started.ensures noted)
    c.set_place.ensures
