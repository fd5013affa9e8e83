use Rattle.std.proofs.Common.{ℕ, arith, subst, ap, sym, ◌∙◌}
use mathlib.Core.List.{IsPrefix}
use Rattle.hist_lock.specs.Seats.{history_seen}
use Rattle.hist_lock.specs.History.{entries_by}
use Rattle.hist_lock.proofs.Histories.{by_prefix, prefix_trans}
use Rattle.hist_lock.proofs.pairs.lock_after_telling.Goals as goal

pub returns-clause-one : goal.returns-clause-one
returns-clause-one g c =
    let names : ℕ × ℕ → ℕ = λ e. e.0 in
    let n = c.requires.one.is in
    let whole = prefix_trans _ _ c.lock.result c.tell.ensures.seen.begins_with_two c.lock.ensures.found.seen in
    subst (λ l. IsPrefix l (entries_by names 1 c.lock.result)) (ap (λ k. entries_by names k (history_seen c.args.one.now)) (sym n) ∙ c.args.one.now.recalls (omega arith)) (by_prefix names 1 _ _ whole)
