use Rattle.std.proofs.Common.{sym, subst}
use Rattle.history_rules.specs.Rules.{MayStartMerge}
use Rattle.history_book.specs.Log.{Log, printed}
use Rattle.merge_tasks.specs.Merging.{MergesShow, Sheet}
use Rattle.merge_tasks.proofs.MergeFrames.{merges_begun, next_free}
use Rattle.merge_tasks.proofs.FateLaws.{plans_at}
use Rattle.merge_tasks.proofs.ledger.Ledger.show_merging.Goals as goal

pub begin-requires-clause-fresh : goal.begin-requires-clause-fresh
begin-requires-clause-fresh c =
    let rule = subst (λ (s : Sheet). MayStartMerge (printed s.log) c.args.at c.args.seg) (sym c.self.view_is) c.requires.rule in
    next_free _ c.self.inside.merges c.args.seg rule.next c.self.invariant.0

pub invariant_of-self : goal.invariant_of-self
invariant_of-self c =
    let rule = subst (λ (s : Sheet). MayStartMerge (printed s.log) c.args.at c.args.seg) (sym c.self.view_is) c.requires.rule in (
      subst (λ (l : Log). MergesShow l c.begin.new.self) (sym c.show.ensures.log)
          (merges_begun _ c.self.inside.merges c.begin.new.self c.args.at c.args.seg rule.next rule.running c.begin.ensures.lines c.begin.ensures.count c.begin.ensures.cut c.self.invariant.0),
      plans_at c.self.inside.plans.items c.show.ensures.log c.show.ensures.nodes (record { count = c.self.invariant.1.count; each = c.self.invariant.1.each }),
    )
