use Rattle.std.proofs.Common.{◌∙◌, sym}
use Rattle.cluster_merges.proofs.Turning.{starts_there}
use Rattle.std.proofs.lemmas.Result.{on_ok_weaker}
use Rattle.cluster_merges.proofs.KeptMerges.{none_sized}
use Rattle.cluster_merges.proofs.tasks.merge_start.Goals as goal

pub returns-clause-ok : goal.returns-clause-ok
returns-clause-ok g c = starts_there c.args.at c.args.factor c.args.state.now c.start_at.new.state c.in-Some.p (sym c.primary.ensures.is ∙ c.in-Some.is) c.in_ok-start_at.ensures.ok

pub returns-in_default-clause-rest : goal.returns-in_default-clause-rest
returns-in_default-clause-rest g c = on_ok_weaker c.refuse.result (λ kept. none_sized c.args.state.now c.refuse.new.state kept) c.refuse.ensures.rest

pub returns-clause-rest : goal.returns-clause-rest
returns-clause-rest g c = c.in_ok-start_at.ensures.rest
