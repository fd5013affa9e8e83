use Rattle.std.proofs.Common.{subst, ap, sym, ◌∙◌, List, ◌≡◌, ◌≤◌, take, arith}
use Rattle.disk_model.specs.Disk.{Name, Cells}
use Rattle.file_deleter.specs.Holdings.{times}
use Rattle.replica_opening.specs.Opened.{IsHandedBack}
use Rattle.replica_opening.proofs.Clearings.{times_take, handed_back, opened_cleared}
use Rattle.replica_opening.proofs.opening.open.Goals as goal

times_same : (a b : List Name) → a ≡ b → (q : Name) → times a q ≡ times b q
times_same a b e q = ap (λ (ns : List Name). times ns q) e

times_within : (a b : List Name) → a ≡ b → (q : Name) → times a q ≤ times b q
times_within a b e q = omega (arith, times_same a b e q)

pub returns-in-Ok-clear-clause-opened : goal.returns-in-Ok-clear-clause-opened
returns-in-Ok-clear-clause-opened g c =
    opened_cleared (g.D.Dir.cells c.listed.new.dir) (g.D.Dir.cells c.clear.new.dir) c.in-Ok-hold_found.taken c.in-Ok-hold_found.ensures c.clear.new.files c.as_slice.result.now
    (times_within _ _ c.as_slice.ensures) c.in-Ok-clear.ensures.lets_go (g.D.Dir.cells c.args.dir.now) (c.listed.ensures.cells ∙ c.found_point.ensures.cells) (times_same _ _ c.as_slice.ensures) c.in-Ok-clear.ensures.none

pub returns-in-Ok-clear-clause-kept : goal.returns-in-Ok-clear-clause-kept
returns-in-Ok-clear-clause-kept g c =
    subst (λ (cells : Cells). IsHandedBack cells (g.D.Dir.cells c.clear.new.dir)) (c.listed.ensures.cells ∙ c.found_point.ensures.cells)
    (handed_back (g.D.Dir.cells c.listed.new.dir) (g.D.Dir.cells c.clear.new.dir) c.in-Ok-hold_found.taken c.in-Ok-hold_found.ensures c.clear.new.files c.as_slice.result.now
    (times_within _ _ c.as_slice.ensures) c.in-Ok-clear.ensures.lets_go)

pub returns-in-Err-clear-clause-kept : goal.returns-in-Err-clear-clause-kept
returns-in-Err-clear-clause-kept g c =
    let some = c.in-Err-clear.ensures.some in
    subst (λ (cells : Cells). IsHandedBack cells (g.D.Dir.cells c.clear.new.dir)) (c.listed.ensures.cells ∙ c.found_point.ensures.cells)
    (handed_back (g.D.Dir.cells c.listed.new.dir) (g.D.Dir.cells c.clear.new.dir) c.in-Ok-hold_found.taken c.in-Ok-hold_found.ensures c.clear.new.files (take some.0 c.as_slice.result.now)
    (λ q. omega (arith, times_take c.as_slice.result.now some.0 q, times_same _ _ c.as_slice.ensures q)) some.1)
