-- What is told of a call by how it went at a node's disk.
use Rattle.cluster_nodes.specs.declared.went.Went.{Went}
use Rattle.cluster_nodes.specs.declared.went.Went.TheVariants.{Done, Failed}

-- the one holds of what a call gave, or else the other, as the disk failed
abbrev pub ByWent : {T : Type 0} → (T → Type 0) → Type 0 → Went T → Type 0
ByWent done failed (Done given) = done given
ByWent done failed Failed = failed
