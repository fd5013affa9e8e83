use Rattle.std.proofs.Common.{ap, ◌∙◌, ◌++◌, Option}
use Rattle.std.specs.Option.{option_to_list}
use Rattle.history_points.specs.declared.kept.KeptQuery.{KeptQuery}
use Rattle.history_points.proofs.KeptLaws.{kept_next}
use Rattle.history_points.proofs.kept.kept_after.Goals as goal

pub loop-one-preserved : goal.loop-one-preserved
loop-one-preserved c = λ docs all.
    kept_next docs c.args.op.now c.loop-one.kept.items c.pop.new.self.items c.loop-one.new.items c.keep_after.new.new.items c.in-Some.one
    (c.pop.ensures.items ∙ ap (λ (o : Option KeptQuery). c.pop.new.self.items ++ option_to_list o) c.in-Some.is) (c.in_ok-keep_after.ensures docs) (c.loop-one.invariant docs all)
