use Rattle.std.proofs.Common.{◌≡◌, ℕ, ◌-◌, ◌<◌, List, Bool, true, false, length, set, sym, ap, subst, ◌∙◌, arith}
use Rattle.std.proofs.lemmas.List.{with_items_is}
use Rattle.live_bits.specs.LiveRows.{has_bit}
use Rattle.live_bits.specs.Held.{rows_in, HoldsRows, ClearsBit}
use Rattle.live_bits.proofs.Packing.{length-rows_in}
use Rattle.live_bits.proofs.Editing.{clear_holds, cleared_rows}
use Rattle.live_bits.proofs.live.LiveBits.kill.Goals as goal

pub invariant_of-self : goal.invariant_of-self
invariant_of-self c =
    let held = c.self.inside in
    let here = c.if-is_set.ensures in
    let same = with_items_is held.bits c.clear.new.bits (c.clear.auto.bits ∙ c.deref_mut.ensures.len) in
    let below : c.args.row < held.rows = omega (arith, c.requires, ap length c.self.view_is, length-rows_in held.rows held.bits.items) in
    let clears = subst (λ (old : List ℕ). ClearsBit old c.clear.new.bits c.args.row) c.deref_mut.ensures.value c.clear.ensures in
    let was_set : has_bit held.bits.items c.args.row ≡ true = ap (λ (bits : List ℕ). has_bit bits c.args.row) (sym c.deref.ensures.value) ∙ sym here in
    subst (λ (bits : List ℕ). HoldsRows bits held.rows (held.live - 1)) (sym same) (clear_holds held.rows held.live held.bits.items c.clear.new.bits c.args.row below was_set c.self.invariant clears)

pub returns-then-is_set : goal.returns-then-is_set
returns-then-is_set c =
    let held = c.self.inside in
    let same = with_items_is held.bits c.clear.new.bits (c.clear.auto.bits ∙ c.deref_mut.ensures.len) in
    let below : c.args.row < held.rows = omega (arith, c.requires, ap length c.self.view_is, length-rows_in held.rows held.bits.items) in
    let clears = subst (λ (old : List ℕ). ClearsBit old c.clear.new.bits c.args.row) c.deref_mut.ensures.value c.clear.ensures in
    ap (rows_in held.rows) same ∙ cleared_rows held.rows held.bits.items c.clear.new.bits c.args.row below clears ∙ ap (λ (live : List Bool). set live c.args.row false) c.self.view_is
