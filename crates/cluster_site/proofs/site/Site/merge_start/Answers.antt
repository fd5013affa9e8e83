use Rattle.std.proofs.Common.{refl, subst}
use Rattle.std.specs.Prelude.{OnErr, OnOk}
use Rattle.script_serving.specs.declared.script.LineCommand.TheVariants.{Merge}
use Rattle.cluster_state.specs.Run.{IsEnded}
use Rattle.cluster_core.specs.Given.{MergeLine, KeepsButSizes}
use Rattle.cluster_site.proofs.Stands.{line_stands, line_does, none_of}
use Rattle.cluster_site.specs.Sites.{SiteRun}
use Rattle.cluster_site.proofs.site.Site.merge_start.Goals as goal

pub invariant_of-self : goal.invariant_of-self
invariant_of-self g c = line_stands g.D.Dir.cells g.D.Dir.plans c.self.inside.cluster c.merge_start.new.self c.self.inside.log c.args.self.now c.self.view_is c.requires.running c.self.invariant (Merge c.args.factor) c.args.at refl c.merge_start.result c.merge_start.ensures.does c.merge_start.ensures.err

pub returns-clause-does : goal.returns-clause-does
returns-clause-does g c = line_does g.D.Dir.cells g.D.Dir.plans c.self.inside.cluster c.merge_start.new.self c.self.inside.log c.args.self.now c.self.view_is c.requires.running c.self.invariant (Merge c.args.factor) c.args.at refl c.merge_start.result
    (none_of (Merge c.args.factor) c.args.at c.self.inside.cluster c.merge_start.new.self c.merge_start.result refl c.merge_start.ensures.does) c.merge_start.ensures.first c.merge_start.ensures.does

-- ---- as the cluster says

pub returns-clause-ok : goal.returns-clause-ok
returns-clause-ok g c =
    subst (λ (s : SiteRun). OnOk c.merge_start.result (MergeLine c.args.at c.args.factor s.run c.merge_start.new.self)) c.self.view_is c.merge_start.ensures.ok

pub returns-clause-rest : goal.returns-clause-rest
returns-clause-rest g c = subst (λ (s : SiteRun). OnOk c.merge_start.result (KeepsButSizes s.run c.merge_start.new.self)) c.self.view_is c.merge_start.ensures.rest

pub returns-clause-err : goal.returns-clause-err
returns-clause-err g c =
    subst (λ (s : SiteRun). OnErr c.merge_start.result (IsEnded s.run c.merge_start.new.self)) c.self.view_is c.merge_start.ensures.err
