use Rattle.std.proofs.Common.{ap, ◌∙◌, ℕ, List, take, rules, ◌≡◌}
use Rattle.std.specs.Ordering.{is_lt}
use Rattle.std.proofs.lemmas.List.Sorted.{ranks_by, answers_always}
use Rattle.documents.specs.declared.answer.Answer.{Answer}
use Rattle.documents.specs.declared.answer.Hit.{Hit}
use Rattle.documents.specs.Ranking.{hit_cmp}
use Rattle.documents.proofs.InOrderLemmas.{in_order-from_sort, hit_cmp_total, hit_ties}
use Rattle.documents.proofs.ranking.answer_of.Goals as goal

same_answer : (m n : ℕ) (hits others : List Hit) → m ≡ n → hits ≡ others → ◌≡◌ {A = Answer} (record { total = m; hits = hits }) (record { total = n; hits = others })
same_answer m n hits others e f = cc

pub returns : goal.returns
returns c =
    let sorted = c.sort_unstable_by.ensures.sorted (λ x y. is_lt (hit_cmp x y)) (ranks_by hit_cmp_total (λ h. h)) (answers_always _ (λ a r. is_lt r ≡ is_lt (hit_cmp a.0.now a.1.0.now)) _ (λ f a r q k. search rules)) in
    let ordered = in_order-from_sort hit_cmp hit_cmp_total hit_ties c.args.hits.items _ c.sort_unstable_by.ensures.permutation sorted in
    same_answer _ _ _ _ (c.len-total.ensures ∙ c.args.hits.ok.0) (c.from_vec.ensures ∙ c.truncate.ensures.items ∙ ap (take 20) ordered)
