use Rattle.std.proofs.Common.{◌≡◌, ◌≢◌, ◌∙◌, sym, subst, true, None}
use Rattle.history_rules.specs.Lines.{publish_in_flight}
use Rattle.history_book.specs.Log.{Log, printed}
use Rattle.merge_tasks.specs.Merging.{MergesShow, Sheet, merge_on}
use Rattle.merge_tasks.proofs.MergeFrames.{merges_ended}
use Rattle.merge_tasks.proofs.FateLaws.{plans_at}
use Rattle.merge_tasks.proofs.ledger.Ledger.end_merge.Goals as goal

pub end-requires : goal.end-requires
end-requires c =
    let on = subst (λ (s : Sheet). merge_on c.args.seg.0 s.log ≢ None) (sym c.self.view_is) c.requires.on in
    λ none. on (sym (c.self.invariant.0.lines c.args.seg.0) ∙ none)

pub invariant_of-self : goal.invariant_of-self
invariant_of-self c =
    let on = subst (λ (s : Sheet). merge_on c.args.seg.0 s.log ≢ None) (sym c.self.view_is) c.requires.on in
    let calm = subst (λ (s : Sheet). c.args.cut ≡ true → publish_in_flight (printed s.log) ≡ None) (sym c.self.view_is) c.requires.calm in (
      subst (λ (l : Log). MergesShow l c.end.new.self) (sym c.keep.ensures.log)
          (merges_ended _ c.self.inside.merges c.end.new.self c.args.seg c.args.cut (λ none. on (sym (c.self.invariant.0.lines c.args.seg.0) ∙ none)) calm
          c.end.ensures.lines c.end.ensures.fewer c.end.ensures.cut c.self.invariant.0),
      plans_at c.self.inside.plans.items c.keep.ensures.log c.keep.ensures.nodes (record { count = c.self.invariant.1.count; each = c.self.invariant.1.each }),
    )
