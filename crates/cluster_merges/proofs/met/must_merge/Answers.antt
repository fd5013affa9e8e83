use Rattle.std.proofs.Common.{◌∙◌, inl, inr, ap, sym}
use Rattle.history_rules.specs.Lines.{last_of_line}
use Rattle.history_rules.specs.Rules.{is_merging}
use Rattle.history_book.specs.Log.{Log, printed}
use Rattle.cluster_merges.proofs.met.must_merge.Goals as goal

pub returns-then-comes_whole : goal.returns-then-comes_whole
returns-then-comes_whole c = inl (c.comes_whole.ensures.whole c.if-comes_whole.true)

pub returns-then-is_merge_line : goal.returns-then-is_merge_line
returns-then-is_merge_line c = inr (sym (c.is_merge_line.ensures ∙ ap (λ (l : Log). is_merging (last_of_line c.args.at (printed l))) c.book.ensures.log) ∙ c.if-is_merge_line.true)
