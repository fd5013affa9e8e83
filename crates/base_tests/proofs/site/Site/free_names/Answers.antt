use Rattle.std.proofs.Common.{◌≡◌, ℕ, List, true, arith, refl, subst}
use Rattle.commit_steps.specs.Calls.{IsFree}
use Rattle.base_tests.proofs.site.Site.free_names.Goals as goal

pub returns-clause-pending : goal.returns-clause-pending
returns-clause-pending g c =
    let free : c.in_ok-pending.pending ≡ true = grind (arith, c.if-not-pending.false) in
    subst (λ (q : List ℕ). IsFree (g.D.Dir.cells c.args.self.now.dir) c.args.self.now.files q) c.pending_name.ensures.name (c.in_ok-pending.ensures (rw free refl))

pub returns-clause-own : goal.returns-clause-own
returns-clause-own g c =
    let free : c.in_ok-own.own ≡ true = grind (arith, c.if-not-own.false) in
    subst (λ (q : List ℕ). IsFree (g.D.Dir.cells c.args.self.now.dir) c.args.self.now.files q) c.commit_name.ensures.name (c.in_ok-own.ensures (rw free refl))
