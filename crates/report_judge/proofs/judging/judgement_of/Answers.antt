use Rattle.std.proofs.Common.{List, get_or, subst, ap, ◌∙◌, ◌≡◌}
use Rattle.std.proofs.lemmas.Option.{get_or_from_slice_get}
use Rattle.history_rules.specs.declared.entry.Entry.{Entry}
use Rattle.history_rules.specs.declared.point.Verdict.{Verdict}
use Rattle.history_rules.specs.Legal.{IsVerdict, BreaksFirst}
use Rattle.report_reading.specs.Widths.{EntryIsNarrow}
use Rattle.report_judge.proofs.WalkLaws.{broken_at}
use Rattle.report_judge.proofs.judging.judgement_of.Goals as goal

pub returns-in-Broken : goal.returns-in-Broken
returns-in-Broken c =
    let h = c.in_ok-history.history in
    let breaks : BreaksFirst h c.in-Broken.at c.in-Broken.rule = subst (λ (verdict : Verdict). IsVerdict h verdict) c.in-Broken.is c.in_ok-at.ensures in
    let item = c.index-as_slice-at.result in
    let same : item ≡ breaks.entry =
    c.index-as_slice-at.is ∙ ap (λ (es : List Entry). get_or es c.in-Broken.at item) c.as_slice.ensures ∙ get_or_from_slice_get h.entries c.in-Broken.at breaks.entry item breaks.there in
    broken_at c.args.script.now c.args.report.now h c.in_ok-history.stop c.in_ok-history.ensures c.requires.form c.in-Broken.at c.in-Broken.rule breaks (subst EntryIsNarrow same c.entry_is_narrow.ensures)
