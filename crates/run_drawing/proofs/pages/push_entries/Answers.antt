use Rattle.std.proofs.Common.{◌≤◌, length, arith}
use Rattle.run_drawing.specs.Drawing.{first_of}
use Rattle.run_drawing.proofs.PageLemmas.{count_first, first_drawn}
use Rattle.run_drawing.proofs.pages.push_entries.Goals as goal

pub loop-i-init : goal.loop-i-init
loop-i-init c =
    let within : c.args.page.start ≤ length c.args.entries.now = omega (arith, c.requires.order, c.requires.within) in
    record {
      low = omega arith;
      drawn = λ size shows. first_drawn c.args.page size (first_of c.args.entries.now c.args.page.start) c.args.out.now.items c.args.scene.now (count_first c.args.entries.now c.args.page.start within) shows;
    }
