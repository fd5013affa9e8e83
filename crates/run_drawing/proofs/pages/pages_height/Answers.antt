use Rattle.std.proofs.Common.{arith}
use Rattle.run_drawing.proofs.PageLemmas.{height_fits}
use Rattle.run_drawing.proofs.pages.pages_height.Goals as goal

pub overflow_mul-result : goal.overflow_mul-result
overflow_mul-result c = omega (arith, height_fits c.args.pages c.page_height.result (omega (arith, c.ranges.pages.fits)) c.page_height.ensures.low)

pub overflow_add-result : goal.overflow_add-result
overflow_add-result c = omega (arith, height_fits c.args.pages c.page_height.result (omega (arith, c.ranges.pages.fits)) c.page_height.ensures.low)
