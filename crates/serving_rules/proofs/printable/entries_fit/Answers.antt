use Rattle.std.proofs.Common.{arith, subst}
use Rattle.report_text.specs.Printed.{AllFit}
use Rattle.serving_rules.proofs.FitLemmas.{one_more_fits, none_left_fits}
use Rattle.serving_rules.proofs.printable.entries_fit.Goals as goal

pub loop-entry-init : goal.loop-entry-init
loop-entry-init c = subst AllFit c.as_slice-entry-items.ensures

pub loop-entry-preserved : goal.loop-entry-preserved
loop-entry-preserved c =
    one_more_fits (AllFit c.args.h.now.entries) c.as_slice-entry-items.result.now c.loop-entry.entry-index c.entry-item.result
    c.loop-entry-test.true c.entry-item.is c.entry_fits.ensures c.loop-entry.invariant

pub returns : goal.returns
returns c = none_left_fits (AllFit c.args.h.now.entries) c.as_slice-entry-items.result.now c.loop-entry.entry-index (omega arith) c.loop-entry.invariant
