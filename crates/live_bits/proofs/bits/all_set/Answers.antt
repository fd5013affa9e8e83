use Rattle.std.proofs.Common.{ℕ, ◌-◌, ◌/◌, ◌%◌, ◌^◌, List, set, ap, ◌∙◌, arith}
use Rattle.live_bits.proofs.Editing.{AllSet, all_hold, all_rows, whole_bytes, last_byte, made}
use Rattle.live_bits.proofs.bits.all_set.Goals as goal
use Rattle.live_bits.proofs.bits.all_set.Goals.{then-rest-gt0, else-rest-gt0}

all_are_set : (c : goal.Joined-rest-gt0) → AllSet c.if-rest-gt0.bits.items c.args.rows
all_are_set c =
    let new = c.in_ok-bits.ensures in
    let whole = made c.in_ok-bits.bits.items c.bytes_for.result c.args.rows (new.items_if_clones_equal (λ y same. same)) c.bytes_for.ensures in
    elim c.if-rest-gt0.branch [
      | then-rest-gt0 w ↦ last_byte c.args.rows c.if-rest-gt0.bits.items (λ e. omega (arith, e, w.if-rest-gt0.true)) (ap (λ v. v.items) w.bits-is ∙ ap (λ (bits : List ℕ). set bits (c.args.rows / 8) (255 / 2 ^ (8 - c.args.rows % 8))) whole)
      | else-rest-gt0 w ↦ whole_bytes c.args.rows c.if-rest-gt0.bits.items (omega (arith, w.if-rest-gt0.false)) (ap (λ v. v.items) w.bits-is ∙ whole)
    ]

pub returns-clause-hold : goal.returns-clause-hold
returns-clause-hold c = all_hold c.args.rows c.if-rest-gt0.bits.items (omega (arith, c.ranges.rows)) (all_are_set c)

pub returns-clause-rows : goal.returns-clause-rows
returns-clause-rows c = let h = all_are_set c in all_rows c.args.rows c.if-rest-gt0.bits.items h.set_below
