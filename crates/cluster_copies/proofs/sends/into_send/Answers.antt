use Rattle.cluster_copies.proofs.sends.into_send.Goals as goal

pub returns-in-None-clause-none : goal.returns-in-None-clause-none
returns-in-None-clause-none g c = λ none. c.source_of.ensures.none c.in-None.is
