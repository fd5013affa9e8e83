use Rattle.std.proofs.Common.{◌≡◌, ℕ, ◌+◌, ◌∷◌, ◌++◌, [], ◌∙◌, ap, arith, length}
use Rattle.std.specs.Prelude.{option_to_list, Option, ◌-◌}
use Rattle.history_book.specs.declared.inner.Mark.{Mark}
use Rattle.lane_threads.specs.declared.lane.Lane.{Lane}
use Rattle.lane_threads.proofs.Seatings.{joined_at, joined_on, last_idle}
use Rattle.lane_threads.proofs.seating.disband.Goals as goal

pub join-requires-clause-of : goal.join-requires-clause-of
join-requires-clause-of g c =
    let v = c.loop.invariant in
    let k : ℕ = length c.args.lanes.items - 1 - c.loop.counter in
    let is : v.0 ≡ k + 1 = let e = v.1 in let l = c.loop-test.true in let o = c.args.lanes.ok.0 in omega arith in
    let items : c.loop.lanes.items ≡ c.pop.new.self.items ++ c.in-Some.lane ∷ [] =
    c.pop.ensures.items ∙ ap (λ (o : Option (Lane g.row.T.Denot Mark g.T.Grows)). c.pop.new.self.items ++ option_to_list o) c.in-Some.is in
    let before = joined_at c.args.lock.now v.0 (k + 1) c.loop.hub c.args.lanes.items c.loop.lanes.items (c.pop.new.self.items ++ c.in-Some.lane ∷ []) is items v.2 in
    (v.2.hub.table, (last_idle c.args.lock.now k c.loop.hub c.loop.hub c.args.lanes.items c.pop.new.self.items c.in-Some.lane before).1.table)

pub join-requires-clause-free : goal.join-requires-clause-free
join-requires-clause-free g c =
    let v = c.loop.invariant in
    let k : ℕ = length c.args.lanes.items - 1 - c.loop.counter in
    let is : v.0 ≡ k + 1 = let e = v.1 in let l = c.loop-test.true in let o = c.args.lanes.ok.0 in omega arith in
    let items : c.loop.lanes.items ≡ c.pop.new.self.items ++ c.in-Some.lane ∷ [] =
    c.pop.ensures.items ∙ ap (λ (o : Option (Lane g.row.T.Denot Mark g.T.Grows)). c.pop.new.self.items ++ option_to_list o) c.in-Some.is in
    let before = joined_at c.args.lock.now v.0 (k + 1) c.loop.hub c.args.lanes.items c.loop.lanes.items (c.pop.new.self.items ++ c.in-Some.lane ∷ []) is items v.2 in
    (v.2.hub.free, (last_idle c.args.lock.now k c.loop.hub c.loop.hub c.args.lanes.items c.pop.new.self.items c.in-Some.lane before).1.free)

pub loop-preserved : goal.loop-preserved
loop-preserved g c =
    let v = c.loop.invariant in
    let k : ℕ = length c.args.lanes.items - 1 - c.loop.counter in
    let is : v.0 ≡ k + 1 = let e = v.1 in let l = c.loop-test.true in let o = c.args.lanes.ok.0 in omega arith in
    let items : c.loop.lanes.items ≡ c.pop.new.self.items ++ c.in-Some.lane ∷ [] =
    c.pop.ensures.items ∙ ap (λ (o : Option (Lane g.row.T.Denot Mark g.T.Grows)). c.pop.new.self.items ++ option_to_list o) c.in-Some.is in
    let before = joined_at c.args.lock.now v.0 (k + 1) c.loop.hub c.args.lanes.items c.loop.lanes.items (c.pop.new.self.items ++ c.in-Some.lane ∷ []) is items v.2 in (
      k,
      (let l = c.loop-test.true in let o = c.args.lanes.ok.0 in omega arith),
      joined_on c.args.lock.now k c.loop.hub c.join.new.seat c.args.lanes.items c.pop.new.self.items c.in-Some.lane before c.join.ensures.taken c.join.ensures.seen,
    )
