-- What is remembered of the copies to a node, and of its commits.
use Rattle.std.specs.Prelude.{ℕ, ◌≡◌, Option, None, max, ⊤}
use Rattle.nrt_base.specs.declared.numbers.At.{At}
use Rattle.nrt_base.specs.declared.numbers.NodeNo.{NodeNo}
use Rattle.history_rules.specs.declared.entry.Event.{Event}
use Rattle.history_rules.specs.declared.entry.Event.TheVariants.{Published, Promoted, Copying, Refused}
use Rattle.history_rules.specs.Nodes.{Past, is_at, newest_version}
use Rattle.history_rules.specs.Lines.{start_entry, without_at, copy_in_flight}
use Rattle.history_rules.specs.Commits.{has_committed, is_stuck, starts_commit}
use Rattle.history_tables.specs.declared.work.Work.{Work}

-- what is remembered is what the entries show
pub record WorkTells (past : Past) (n : ℕ) (work : Work) : Type 0 where
  pub stuck : work.stuck ≡ is_stuck n past
  pub committed : work.committed ≡ has_committed n past
  pub copying : work.copying ≡ copy_in_flight n (newest_version past) past

-- no other line copies to the node what is the newest version when this one was made
abbrev pub IsUncopied : ℕ → At → Past → ℕ → Type 0
IsUncopied n at past v = without_at at (copy_in_flight n (max (newest_version past) v) past) ≡ None

-- a version that is made was never copied, and a copy has the newest one
abbrev pub KnowsNewest : ℕ → At → Past → Event → Type 0
KnowsNewest n at past (Published g v) = IsUncopied n at past v.0
KnowsNewest n at past (Promoted m g f v) = IsUncopied n at past v.0
KnowsNewest n at past (Copying m v) = v.0 ≡ newest_version past
KnowsNewest n at past e = ⊤

-- where a line is refused, this is the node whose commit it started as, if it did
abbrev pub IsCommitter : At → Past → Event → Option NodeNo → Type 0
IsCommitter at past (Refused cause) m = (k : ℕ) → starts_commit k (start_entry at past) ≡ is_at m k
IsCommitter at past e m = ⊤
