use Rattle.serving_rules.proofs.Unprinted.{texts_determine_histories}
use Rattle.serving_rules.proofs.report_laws.texts_determine_histories.Goals as goal

pub returns : goal.returns
returns c =
    texts_determine_histories c.args.script.now c.args.h.now c.args.k.now c.requires c.entries_fit.ensures c.entries_fit-2.ensures
