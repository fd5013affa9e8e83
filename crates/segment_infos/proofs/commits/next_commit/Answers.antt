use Rattle.std.proofs.Common.{ℕ, ◌+◌, ap, arith}
use Rattle.segment_infos.proofs.CommitLaws.{next_is, or_zero_below}
use Rattle.segment_infos.proofs.commits.next_commit.Goals as goal

pub returns-clause-next : goal.returns-clause-next
returns-clause-next c =
    next_is _ _ c.last_commit.result c.last_pending.result c.unwrap_or-last.result c.unwrap_or-pending.result _ c.last_commit.ensures.greatest c.last_pending.ensures.greatest c.unwrap_or-last.ensures c.unwrap_or-pending.ensures
    (ap (λ (n : ℕ). n + 1) c.max.ensures)

pub returns-clause-below : goal.returns-clause-below
returns-clause-below c =
    let a = or_zero_below c.last_commit.result c.last_commit.ensures.below in
    let b = or_zero_below c.last_pending.result c.last_pending.ensures.below in
    omega (arith, c.max.ensures, c.unwrap_or-last.ensures, c.unwrap_or-pending.ensures, a, b)
