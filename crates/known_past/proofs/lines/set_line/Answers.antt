use Rattle.std.proofs.Common.{ap, ◌∙◌, Bool, Option, Some, if◌then◌else◌, unwrap_or}
use Rattle.std.specs.BTreeMap.{get}
use Rattle.history_rules.specs.Lines.{same_at}
use Rattle.known_past.specs.declared.lines.KnownLine.{KnownLine}
use Rattle.known_past.specs.Lines.{unknown_line, line_cmp}
use Rattle.known_past.proofs.LineLaws.{is_eq-line_cmp, unwrap_or-if}
use Rattle.known_past.proofs.lines.set_line.Goals as goal

pub returns : goal.returns
returns c = λ a.
    let old = get line_cmp c.args.lines.now (a.lane.0, a.line.0) in
    ap (λ (o : Option KnownLine). unwrap_or o unknown_line) (c.in_ok-insert.ensures.updates.0 (a.lane.0, a.line.0)
    ∙ ap (λ (b : Bool). if b then Some c.args.line else old) (is_eq-line_cmp c.args.at a))
    ∙ unwrap_or-if (same_at c.args.at a) c.args.line unknown_line old
