-- Where the operations of a point come from.
use Rattle.std.specs.Prelude.{ℕ, ◌+◌, List, [], ◌∷◌, length, reverse}
use Rattle.documents.specs.declared.operation.Op.{Op}
use Rattle.history_rules.specs.declared.entry.Event.{Event}
use Rattle.history_rules.specs.declared.entry.Event.TheVariants.{Promoted}
use Rattle.history_facts.specs.declared.written.Origin.{Origin}
use Rattle.history_facts.specs.declared.written.Origin.TheVariants.{Nothing, Written, Searched}
use Rattle.history_rules.specs.Nodes.{Past, version_of}
use Rattle.history_rules.specs.Points.{operations_at, operations_written}

-- none, those written after some entries, or those of the version that a node searched after some entries
abbrev pub operations_from : Origin → List Op
operations_from Nothing = []
operations_from (Written before) = operations_written (reverse before.now)
operations_from (Searched n before) = operations_at (reverse before.now) (version_of n.0 (reverse before.now))

-- one more than the number of entries that are to be read
abbrev pub size_of : Origin → ℕ
size_of Nothing = 0
size_of (Written before) = length before.now + 1
size_of (Searched n before) = length before.now + 1

abbrev pub operations_base_by : Event → Past → (ℕ → List Op) → List Op → List Op
operations_base_by (Promoted m g f w) past points base = points (version_of m.0 past)
operations_base_by e past points base = base

-- the operations on which the generation started
abbrev pub operations_before_generation : Past → List Op
operations_before_generation [] = []
operations_before_generation (e ∷ past) = operations_base_by e.event past (operations_at past) (operations_before_generation past)
