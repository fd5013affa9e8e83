-- What a walk back over the entries seeks, and what it finds.
use Rattle.std.specs.Prelude.{ℕ, ◌≡◌, ◌∷◌, Bool, true, false, List}
use Rattle.documents.specs.declared.operation.Op.{Op}
use Rattle.history_rules.specs.declared.entry.Entry.{Entry}
use Rattle.history_rules.specs.Nodes.{Past, is_at, primary_of, version_of}
use Rattle.history_rules.specs.Points.{operations_written, operations_at_start, operations_at}
use Rattle.history_facts.specs.declared.counting.Sought.{Sought}
use Rattle.history_facts.specs.declared.counting.Sought.TheVariants.{Point, Start, Written}
use Rattle.history_facts.specs.declared.searched.Said.{Said}
use Rattle.history_facts.specs.declared.searched.Said.TheVariants.{Found, Before}

-- the operations that are sought in the entries before a place
abbrev pub operations_sought : Sought → Past → List Op
operations_sought (Point v) past = operations_at past v
operations_sought (Start at) past = operations_at_start at past
operations_sought Written past = operations_written past

-- where it is said to be apart, the node is not the primary
abbrev pub ReignsNot : Bool → ℕ → Past → Type 0
ReignsNot apart n past = apart ≡ true → is_at (primary_of past) n ≡ false

-- what an entry says of the version that a node searches: this version, or that before the entry
abbrev pub SaysBack : ℕ → Entry → Past → Said → Type 0
SaysBack n e past (Found v) = version_of n (e ∷ past) ≡ v
SaysBack n e past (Before apart) = (version_of n (e ∷ past) ≡ version_of n past) × ReignsNot apart n past
