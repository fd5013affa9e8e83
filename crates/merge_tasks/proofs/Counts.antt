-- How many tasks count for drain lines, once one more does and once a line has its reply.
use Rattle.std.proofs.Common.{◌≡◌, ◌+◌, ℕ, Bool, true, false, List, [], ◌∷◌, refl, ap, ◌∙◌, sym, arith, if◌then◌else◌}
use Rattle.std.specs.Prelude.{not}
use Rattle.std.specs.List.{filter}
use Rattle.nrt_base.specs.declared.numbers.At.{At}
use Rattle.history_rules.specs.Lines.{same_at}
use Rattle.history_tables.proofs.RowLemmas.{by_test, same_at_self, same_at_is}
use Rattle.merge_tasks.specs.declared.drains.DrainCount.{DrainCount}
use Rattle.merge_tasks.specs.Board.{done_under, without_count}

-- a row in front
pub one_more : (counts new : List DrainCount) (at : At) (done : ℕ) → new ≡ record { at = at; done = done } ∷ counts → (x : At) → done_under x new ≡ (if same_at at x then done else done_under x counts)
one_more counts new at done is x = ap (done_under x) is

-- other lines than the one that has its reply
pub other_counts : (counts : List DrainCount) (at x : At) → same_at at x ≡ false → done_under x (without_count at counts) ≡ done_under x counts
other_counts [] at x apart = refl
other_counts (r ∷ counts) at x apart =
    by_test (same_at r.at at) (λ b. done_under x (if not b then r ∷ without_count at counts else without_count at counts) ≡ (if same_at r.at x then r.done else done_under x counts))
    (λ here. other_counts counts at x apart ∙ sym (ap (λ (b : Bool). if b then r.done else done_under x counts) (ap (λ (a : At). same_at a x) (same_at_is r.at at here) ∙ apart)))
    (λ away. ap (λ (k : ℕ). if same_at r.at x then r.done else k) (other_counts counts at x apart))
