use Rattle.std.proofs.Common.{◌∙◌, Option, None, ap, subst}
use Rattle.history_rules.specs.declared.cause.Cause.{Cause}
use Rattle.history_rules.specs.Lines.{entries_of_line}
use Rattle.history_book.specs.Log.{Log, printed}
use Rattle.cluster_merges.specs.MergePaths.{StartsMergeFor}
use Rattle.cluster_merges.proofs.Turning.{plain_cause, not_started, refused_so}
use Rattle.cluster_merges.proofs.KeptMerges.{sized_then}
use Rattle.cluster_merges.proofs.tasks.start_at.Goals as goal

pub returns-in-None-clause-ok : goal.returns-in-None-clause-ok
returns-in-None-clause-ok g c = (None, subst (λ (o : Option Cause). StartsMergeFor c.args.at c.args.factor c.args.state.now c.start_merge.new.cluster o) c.in-None.is c.in_ok-start_merge.ensures.ok)

pub refuse-requires-clause-running : goal.refuse-requires-clause-running
refuse-requires-clause-running g c =
    (not_started c.args.at c.args.factor c.args.state.now c.start_merge.new.cluster c.in-Some.cause (subst (λ (o : Option Cause). StartsMergeFor c.args.at c.args.factor c.args.state.now c.start_merge.new.cluster o) c.in-Some.is c.in_ok-start_merge.ensures.ok)).is.running

pub refuse-requires-clause-fresh : goal.refuse-requires-clause-fresh
refuse-requires-clause-fresh g c =
    ap (λ (l : Log). entries_of_line c.args.at (printed l))
    (not_started c.args.at c.args.factor c.args.state.now c.start_merge.new.cluster c.in-Some.cause (subst (λ (o : Option Cause). StartsMergeFor c.args.at c.args.factor c.args.state.now c.start_merge.new.cluster o) c.in-Some.is c.in_ok-start_merge.ensures.ok)).is.log
    ∙ c.requires.fresh

pub refuse-requires-clause-cause : goal.refuse-requires-clause-cause
refuse-requires-clause-cause g c =
    plain_cause c.args.at c.args.factor c.args.state.now c.start_merge.new.cluster c.in-Some.cause (subst (λ (o : Option Cause). StartsMergeFor c.args.at c.args.factor c.args.state.now c.start_merge.new.cluster o) c.in-Some.is c.in_ok-start_merge.ensures.ok)

pub returns-in_ok-refuse-in-Some-clause-ok : goal.returns-in_ok-refuse-in-Some-clause-ok
returns-in_ok-refuse-in-Some-clause-ok g c =
    refused_so c.args.at c.args.factor c.args.state.now c.start_merge.new.cluster c.refuse.new.state c.in-Some.cause (subst (λ (o : Option Cause). StartsMergeFor c.args.at c.args.factor c.args.state.now c.start_merge.new.cluster o) c.in-Some.is c.in_ok-start_merge.ensures.ok)
    c.in_ok-refuse-in-Some.ensures.ok c.in_ok-refuse-in-Some.ensures.tasks

pub returns-in-None-clause-rest : goal.returns-in-None-clause-rest
returns-in-None-clause-rest g c = c.in_ok-start_merge.ensures.rest

pub returns-in_ok-refuse-in-Some-clause-rest : goal.returns-in_ok-refuse-in-Some-clause-rest
returns-in_ok-refuse-in-Some-clause-rest g c = sized_then c.args.state.now c.start_merge.new.cluster c.refuse.new.state c.in_ok-start_merge.ensures.rest c.in_ok-refuse-in-Some.ensures.rest
