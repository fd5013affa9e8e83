use Rattle.std.proofs.Common.{◌≡◌, ℕ, ◌+◌, ◌/◌, ◌%◌, ◌^◌, ◌==◌, true, false, List, get_or, sym, subst, ◌∙◌, arith, bit_and}
use Rattle.std.proofs.lemmas.Bool.{eq-eqb, ne_eqb}
use Rattle.std.proofs.lemmas.Nat.{and_mask}
use Rattle.live_bits.proofs.NextRow.{IsClearTo, first_bit, one_passed, rest_passed, none_from, first_from}
use Rattle.live_bits.proofs.bits.next_set.Goals as goal
use Rattle.live_bits.proofs.bits.next_set.Goals.{then-rest-eq0, else-rest-eq0}

set_bit : (bits : List ℕ) (row : ℕ) → bit_and (get_or bits (row / 8) 0 / 2 ^ (row % 8)) 1 ≡ 1 → (get_or bits (row / 8) 0 / 2 ^ (row % 8) % 2 == 1) ≡ true
set_bit bits row e = let rest : ℕ = get_or bits (row / 8) 0 / 2 ^ (row % 8) in eq-eqb (rest % 2) 1 (sym (and_mask rest 1) ∙ e)

clear_bit : (bits : List ℕ) (row : ℕ) → (bit_and (get_or bits (row / 8) 0 / 2 ^ (row % 8)) 1 ≡ 1 → ⊥) → (get_or bits (row / 8) 0 / 2 ^ (row % 8) % 2 == 1) ≡ false
clear_bit bits row ne = let rest : ℕ = get_or bits (row / 8) 0 / 2 ^ (row % 8) in ne_eqb (rest % 2) 1 (λ e. ne (and_mask rest 1 ∙ e))

pub returns-then-rest-eq1 : goal.returns-then-rest-eq1
returns-then-rest-eq1 c =
    first_from c.args.bits.now c.args.rows c.args.least c.loop-row.row c.loop-row.invariant c.loop-row-test.true
    (first_bit c.args.bits.now c.loop-row.row ∙ set_bit c.args.bits.now c.loop-row.row c.if-rest-eq1.true)

pub loop-row-preserved : goal.loop-row-preserved
loop-row-preserved c =
    let bits = c.args.bits.now in
    let least = c.args.least in
    let row = c.loop-row.row in
    elim c.if-rest-eq0.branch [
      | then-rest-eq0 w ↦ subst (λ (n : ℕ). IsClearTo bits least (row + n)) (sym w.step-is) (rest_passed bits least row c.loop-row.invariant w.if-rest-eq0.true)
      | else-rest-eq0 w ↦
          subst (λ (n : ℕ). IsClearTo bits least (row + n)) (sym w.step-is)
          (one_passed bits least row c.loop-row.invariant (first_bit bits row ∙ clear_bit bits row c.if-rest-eq1.false))
    ]

pub returns-then-rows-row : goal.returns-then-rows-row
returns-then-rows-row c =
    let bits = c.args.bits.now in
    let least = c.args.least in
    let row = c.loop-row.row in
    let stepped : IsClearTo bits least (row + c.if-rest-eq0.step) =
    elim c.if-rest-eq0.branch [
      | then-rest-eq0 w ↦ subst (λ (n : ℕ). IsClearTo bits least (row + n)) (sym w.step-is) (rest_passed bits least row c.loop-row.invariant w.if-rest-eq0.true)
      | else-rest-eq0 w ↦
          subst (λ (n : ℕ). IsClearTo bits least (row + n)) (sym w.step-is)
          (one_passed bits least row c.loop-row.invariant (first_bit bits row ∙ clear_bit bits row c.if-rest-eq1.false))
    ] in
    none_from bits c.args.rows least (row + c.if-rest-eq0.step) stepped (omega (arith, c.if-rows-row.true))

pub returns : goal.returns
returns c = none_from c.args.bits.now c.args.rows c.args.least c.loop-row.row c.loop-row.invariant (omega (arith, c.loop-row-test.false))
