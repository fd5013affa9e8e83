use Rattle.std.proofs.Common.{rules}
use Rattle.postings_plain.proofs.inverting.add_word.Goals as goal

pub returns : goal.returns
returns c =
    let gains = c.in_ok-push_place.ensures in
    let value = c.or_insert-hits.ensures.value in
    let before = c.in_ok-found.ensures.value in
    let key = c.in_ok-of_word.ensures in
    (c.push_place.new.self, rw (← key, ← before, ← c.new.ensures, ← value) gains, search rules)
