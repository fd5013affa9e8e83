use Rattle.std.proofs.Common.{◌≡◌, ℕ, ◌≤◌, List, length, take, ap, sym, subst, ◌∙◌, arith}
use Rattle.std.proofs.lemmas.List.{take_all}
use Rattle.cluster_nodes.specs.declared.held.HeldTicket.{HeldTicket}
use Rattle.cluster_nodes.specs.Held.{held_number}
use Rattle.cluster_nodes.proofs.HeldRows.{held_here, held_before}
use Rattle.cluster_nodes.proofs.held.number_held.Goals as goal

pub loop-left-init : goal.loop-left-init
loop-left-init c = (omega arith, ap (λ (rows : List HeldTicket). held_number rows c.args.key) (take_all (length c.args.held.now) c.args.held.now (omega arith)))

pub returns-then-same_key : goal.returns-then-same_key
returns-then-same_key c =
    sym (held_here c.args.held.now c.loop-left.left _ c.args.key c.loop-left-test.true c.loop-left.invariant.0 (sym c.same_key.ensures ∙ c.if-same_key.true)) ∙ c.loop-left.invariant.1

pub returns : goal.returns
returns c =
    let none : c.loop-left.left ≡ 0 = omega arith in
    subst (λ (n : ℕ). held_number (take n c.args.held.now) c.args.key ≡ held_number c.args.held.now c.args.key) none c.loop-left.invariant.1

pub loop-left-preserved : goal.loop-left-preserved
loop-left-preserved c =
    let up : c.loop-left.left ≤ length c.args.held.now = c.loop-left.invariant.0 in (
      omega (arith, up),
      sym (held_before c.args.held.now c.loop-left.left _ c.args.key c.loop-left-test.true up (sym c.same_key.ensures ∙ c.if-same_key.false)) ∙ c.loop-left.invariant.1,
    )
