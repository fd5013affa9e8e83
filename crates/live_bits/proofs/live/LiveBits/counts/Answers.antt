use Rattle.std.proofs.Common.{length, sym, ap, ◌∙◌}
use Rattle.live_bits.proofs.Packing.{length-rows_in}
use Rattle.live_bits.proofs.live.LiveBits.counts.Goals as goal

pub returns-clause-rows : goal.returns-clause-rows
returns-clause-rows c = sym (length-rows_in c.self.inside.rows c.self.inside.bits.items) ∙ ap length c.self.view_is
