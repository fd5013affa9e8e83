use Rattle.std.proofs.Common.{ap, ◌∙◌, Bool, false, Option, Some, if◌then◌else◌, unwrap_or}
use Rattle.std.specs.BTreeMap.{get}
use Rattle.history_rules.specs.Lines.{same_at}
use Rattle.known_past.specs.Lines.{line_cmp}
use Rattle.known_past.proofs.LineLaws.{is_eq-line_cmp, unwrap_or-if}
use Rattle.report_judge.proofs.cuts.set_cut.Goals as goal

pub returns : goal.returns
returns c = λ a.
    let old = get line_cmp c.args.cuts.now (a.lane.0, a.line.0) in
    ap (λ (o : Option Bool). unwrap_or o false) (c.in_ok-insert.ensures.updates.0 (a.lane.0, a.line.0)
    ∙ ap (λ (b : Bool). if b then Some c.args.has_put else old) (is_eq-line_cmp c.args.at a))
    ∙ unwrap_or-if (same_at c.args.at a) c.args.has_put false old
