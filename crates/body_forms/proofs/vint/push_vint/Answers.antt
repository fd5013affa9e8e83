use Rattle.std.proofs.Common.{refl, arith}
use Rattle.body_forms.proofs.VIntLemmas.{goes_start, goes_more, goes_end, put_at_end}
use Rattle.body_forms.proofs.vint.push_vint.Goals as goal

pub loop-high-init : goal.loop-high-init
loop-high-init c = goes_start c.args.n _ refl (omega arith)

pub loop-high-preserved : goal.loop-high-preserved
loop-high-preserved c = goes_more c.args.n c.loop-high.form c.loop-high.len c.loop-high.high c.loop-high-test.true c.loop-high.invariant

pub returns-clause-ok : goal.returns-clause-ok
returns-clause-ok c =
    put_at_end c.extend_from_slice.result c.args.out.now.items _ _ _ c.extend_from_slice.ensures.items
    (goes_end c.args.n c.loop-high.form c.loop-high.len c.loop-high.high (omega arith) c.loop-high.invariant)
