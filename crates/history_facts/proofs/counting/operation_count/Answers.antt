use Rattle.std.proofs.Common.{◌≡◌, ◌∷◌, [], ap, arith, length, reverse, ◌∙◌}
use Rattle.std.proofs.lemmas.List.{length-append}
use Rattle.history_rules.specs.Nodes.{Past}
use Rattle.history_rules.specs.Points.{operations_at}
use Rattle.history_facts.specs.Walks.{operations_sought}
use Rattle.history_facts.proofs.WalkLemmas.{last_newest, first_sought}
use Rattle.history_facts.proofs.WrittenLemmas.{point_few}
use Rattle.history_facts.proofs.counting.operation_count.Goals as goal

pub loop-entry-preserved : goal.loop-entry-preserved
loop-entry-preserved c =
    let here = ap (λ (past : Past). length (operations_sought c.loop-entry.sought past)) (last_newest c.loop-entry.left.now c.in-Some.front.now c.in-Some.entry.now c.in-Some.ensures.cases.0) in
    let shorter = ap length c.in-Some.ensures.cases.0 ∙ length-append c.in-Some.front.now (c.in-Some.entry.now ∷ []) in
    record {
      total = omega (arith, here, c.before_entry-next.ensures.count, c.loop-entry.invariant.total);
      few = omega (arith, shorter, c.before_entry-next.ensures.few, c.loop-entry.invariant.few);
    }

pub returns : goal.returns
returns c =
    let past : Past = reverse c.args.entries.now in
    let whole : c.loop-entry.count ≡ length (operations_at past c.args.v.0) = omega (arith, first_sought c.loop-entry.left.now c.loop-entry.sought c.in_default.ensures.cases, c.loop-entry.invariant.total) in
    record { count = whole; few = omega (arith, whole, point_few past c.args.v.0) }
