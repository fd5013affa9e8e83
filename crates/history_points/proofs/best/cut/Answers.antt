use Rattle.std.proofs.Common.{ap, ◌∙◌, take, rules, ◌≡◌, subst, sym}
use Rattle.std.specs.List.Sorted.{IsSorted}
use Rattle.std.specs.Ordering.{is_lt}
use Rattle.std.proofs.lemmas.List.Sorted.{ranks_by, answers_always}
use Rattle.documents.specs.Ranking.{hit_cmp}
use Rattle.documents.proofs.InOrderLemmas.{in_order-from_sort, hit_cmp_total, hit_ties}
use Rattle.history_points.proofs.BestLaws.{take_sorted}
use Rattle.history_points.proofs.best.cut.Goals as goal

pub returns-clause-first : goal.returns-clause-first
returns-clause-first c =
    let sorted = c.sort_unstable_by.ensures.sorted (λ x y. is_lt (hit_cmp x y)) (ranks_by hit_cmp_total (λ h. h)) (answers_always _ (λ a r. is_lt r ≡ is_lt (hit_cmp a.0.now a.1.0.now)) _ (λ f a r q k. search rules)) in
    c.truncate.ensures.items ∙ ap (take 20) (in_order-from_sort hit_cmp hit_cmp_total hit_ties _ _ c.sort_unstable_by.ensures.permutation sorted)

pub returns-clause-sorted : goal.returns-clause-sorted
returns-clause-sorted c =
    let sorted = c.sort_unstable_by.ensures.sorted (λ x y. is_lt (hit_cmp x y)) (ranks_by hit_cmp_total (λ h. h)) (answers_always _ (λ a r. is_lt r ≡ is_lt (hit_cmp a.0.now a.1.0.now)) _ (λ f a r q k. search rules)) in
    subst (IsSorted hit_cmp) (sym c.truncate.ensures.items) (take_sorted 20 _ sorted)
