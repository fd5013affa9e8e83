use Rattle.std.proofs.Common.{ℕ, ◌+◌, ◌/◌, length, ap, ◌∙◌}
use Rattle.live_bits.proofs.Packing.{length-rows_in}
use Rattle.live_bits.proofs.live.LiveBits.next_live.Goals as goal

pub next_set-requires : goal.next_set-requires
next_set-requires c =
    let held = c.self.inside in
    ap length c.deref.ensures.value ∙ c.self.invariant.packed.enough ∙ ap (λ (n : ℕ). (n + 7) / 8) (length-rows_in held.rows held.bits.items)
