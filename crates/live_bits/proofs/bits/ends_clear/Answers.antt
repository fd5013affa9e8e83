use Rattle.std.proofs.Common.{arith}
use Rattle.std.proofs.lemmas.Bool.{eqb-true, eq-eqb}
use Rattle.live_bits.proofs.Editing.{past_is_clear, clear_is_past}
use Rattle.live_bits.proofs.bits.ends_clear.Goals as goal

pub returns-else-rest-eq0 : goal.returns-else-rest-eq0
returns-else-rest-eq0 c = (
  λ h. past_is_clear c.args.rows c.args.bits.now c.requires c.if-rest-eq0.false (eqb-true _ _ h),
  λ clear. eq-eqb _ _ (clear_is_past c.args.rows c.args.bits.now (λ i. omega (arith, c.type_inv.bits i)) clear),
)
