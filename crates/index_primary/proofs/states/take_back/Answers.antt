use Rattle.index_primary.proofs.StateLemmas.{moves_back, back_counted}
use Rattle.index_primary.proofs.states.take_back.Goals as goal

pub release-requires : goal.release-requires
release-requires g c = record { each = back_counted _ _ _ _ _ c.requires.counted c.as_slice.ensures c.take_out-found.ensures.names }

pub returns-clause-moves : goal.returns-clause-moves
returns-clause-moves g c = moves_back _ _ _ _ _ _ _ _ c.release.ensures.lets_go c.as_slice.ensures c.take_out-found.ensures.names
