use Rattle.std.proofs.Common.{[], sym, ◌∙◌, arith, append-nil}
use Rattle.hist_lock.proofs.tests.a_seat_that_is_told_finds_all_entries_of_both.Goals as goal

pub unlock-requires-clause-extends : goal.unlock-requires-clause-extends
unlock-requires-clause-extends g c = ([], c.value.ensures.value ∙ (sym c.lock_after_telling-held.ensures.seen ∙ sym (append-nil _)), tt)

pub join-requires-clause-of : goal.join-requires-clause-of
join-requires-clause-of g c = (c.split-two.ensures.counted.table, c.lock_after_telling-held.ensures.free.0.table)

pub join-requires-clause-free : goal.join-requires-clause-free
join-requires-clause-free g c = (c.split-two.ensures.counted.free, c.lock_after_telling-held.ensures.free.0.free)

pub close-pairs-requires-clause-last : goal.close-pairs-requires-clause-last
close-pairs-requires-clause-last g c =
    let opening = c.in_ok-lock.ensures.is_last.1 in
    let one = c.split-one.ensures.counted.room in
    let two = c.split-two.ensures.counted.room in
    let new_one = c.split-one.ensures.new.room in
    let new_two = c.split-two.ensures.new.room in
    let ended_one = c.append_in_two_threads-one.ensures.one.1.room in
    let ended_two = c.append_in_two_threads-one.ensures.two.1.room in
    let told = c.lock_after_telling-held.ensures.free.1 in
    let inside = c.lock_after_telling-held.ensures.room in
    let left = c.unlock.ensures.left.room in
    let first = c.join.ensures.taken.room in
    let second = c.join-2.ensures.taken.room in
    (c.join-2.ensures.taken.free, omega arith)
