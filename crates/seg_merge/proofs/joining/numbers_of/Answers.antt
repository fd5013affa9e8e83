use Rattle.std.proofs.Common.{◌≡◌, ◌<◌, ◌∙◌, ap, arith, length, drop, sym, ◌++◌, List, Bool, []}
use Rattle.std.proofs.Math.ListN.{drop_of_length-le}
use Rattle.std.proofs.lemmas.List.{append-nil}
use Rattle.seg_build.specs.Given.{live_rows, numbers_from}
use Rattle.seg_merge.proofs.JoinLaws.{numbered, counted_on}
use Rattle.seg_merge.proofs.joining.numbers_of.Goals as goal

pub loop-row-preserved : goal.loop-row-preserved
loop-row-preserved c =
    let live = c.args.live.now in
    let at = c.loop-row.row in
    let lt : at < length live = omega (arith, c.loop-row-test.true, c.counts-rows.ensures.rows) in
    let inv = c.loop-row.invariant in
    record {
      numbers =
          numbered at c.loop-row.next c.number_of.new.next live c.is_live.result c.in_ok-number.number c.loop-row.numbers.items c.push.new.self.items _ lt c.is_live.ensures c.in_ok-number.ensures.number c.in_ok-number.ensures.next
          c.in_ok-push.ensures.items inv.numbers;
      next = counted_on at c.loop-row.next c.number_of.new.next _ live c.is_live.result lt c.is_live.ensures c.in_ok-number.ensures.next inv.next;
    }

pub returns-clause-numbers : goal.returns-clause-numbers
returns-clause-numbers c =
    let none : drop c.loop-row.row c.args.live.now ≡ [] = drop_of_length-le c.args.live.now (omega (arith, c.loop-row-test.false, c.counts-rows.ensures.rows)) in
    sym (append-nil c.loop-row.numbers.items) ∙ sym (ap (λ (ls : List Bool). c.loop-row.numbers.items ++ numbers_from c.loop-row.next ls) none) ∙ c.loop-row.invariant.numbers

pub returns-clause-next : goal.returns-clause-next
returns-clause-next c =
    let none : drop c.loop-row.row c.args.live.now ≡ [] = drop_of_length-le c.args.live.now (omega (arith, c.loop-row-test.false, c.counts-rows.ensures.rows)) in
    let e = ap live_rows none in
    omega (arith, e, c.loop-row.invariant.next)
