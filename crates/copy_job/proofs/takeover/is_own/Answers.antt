use Rattle.std.proofs.Common.{rules, ◌∙◌}
use Rattle.std.proofs.lemmas.List.Sorted.{answers_always}
use Rattle.copy_job.proofs.Ascending.{own_by}
use Rattle.copy_job.proofs.takeover.is_own.Goals as goal

pub returns : goal.returns
returns c up =
    c.is_ok.ensures.value ∙ own_by c.args.parts.now c.args.name.now c.binary_search_by_key.result c.binary_search_by_key.ensures.bound
    (c.binary_search_by_key.ensures.position (λ part. part.own) (answers_always _ _ _ (λ f a r g called. search rules))) up
