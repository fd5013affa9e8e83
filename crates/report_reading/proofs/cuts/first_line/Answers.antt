use Rattle.std.proofs.Common.{◌∙◌}
use Rattle.report_reading.proofs.CutLemmas.{cut_line, cut_last_line}
use Rattle.report_reading.proofs.cuts.first_line.Goals as goal

pub returns-then-len-text-clause-line : goal.returns-then-len-text-clause-line
returns-then-len-text-clause-line c = c.split_at.ensures.front ∙ (cut_line c.args.text.now c.line_len-len.result c.line_len-len.ensures c.if-len-text.true).0

pub returns-then-len-text-clause-rest : goal.returns-then-len-text-clause-rest
returns-then-len-text-clause-rest c = c.split_at.ensures.back ∙ (cut_line c.args.text.now c.line_len-len.result c.line_len-len.ensures c.if-len-text.true).1

pub returns-else-len-text-clause-line : goal.returns-else-len-text-clause-line
returns-else-len-text-clause-line c = c.split_at-else-len-text.ensures.front ∙ (cut_last_line c.args.text.now c.line_len-len.result c.line_len-len.ensures c.if-len-text.false).0

pub returns-else-len-text-clause-rest : goal.returns-else-len-text-clause-rest
returns-else-len-text-clause-rest c = c.split_at-else-len-text.ensures.back ∙ (cut_last_line c.args.text.now c.line_len-len.result c.line_len-len.ensures c.if-len-text.false).1
