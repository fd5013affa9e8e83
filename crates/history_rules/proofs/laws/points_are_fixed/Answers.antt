use Rattle.history_rules.proofs.LawLemmas.{documents_stay, have_their_documents, one_point, versions_ascend}
use Rattle.history_rules.proofs.laws.points_are_fixed.Goals as goal

pub returns-clause-ascending : goal.returns-clause-ascending
returns-clause-ascending c = versions_ascend c.args.h.now c.requires

pub returns-clause-one : goal.returns-clause-one
returns-clause-one c = one_point _ (versions_ascend c.args.h.now c.requires)

pub returns-clause-stay : goal.returns-clause-stay
returns-clause-stay c = documents_stay c.args.h.now c.requires

pub returns-clause-documents : goal.returns-clause-documents
returns-clause-documents c = have_their_documents c.args.h.now c.requires
