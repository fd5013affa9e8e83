use Rattle.std.proofs.Common.{take}
use Rattle.std.specs.Prelude.{reverse}
use Rattle.history_facts.specs.Openings.{was_opened, HoldsNone}
use Rattle.point_history.proofs.listings.holds_documents.Given as goal

abbrev pub invariant-loop-entry : goal.invariant-loop-entry
invariant-loop-entry l = HoldsNone (reverse l.entries) l.n.0 (λ lane t. was_opened lane t (reverse (take l.entry-index l.entries)))
