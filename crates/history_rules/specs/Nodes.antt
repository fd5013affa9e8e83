-- What the entries before a place show of the nodes. They stand newest first, so that one more entry is one more in front.
use Rattle.std.specs.Prelude.{ℕ, ◌≡◌, ◌≤◌, ◌+◌, List, [], ◌∷◌, Bool, true, false, ◌==◌, max, if◌then◌else◌, Option, Some, None}
use Rattle.nrt_base.specs.declared.numbers.NodeNo.{NodeNo}
use Rattle.history_rules.specs.declared.entry.Entry.{Entry}
use Rattle.history_rules.specs.declared.entry.Event.{Event}
use Rattle.history_rules.specs.declared.entry.Event.TheVariants.{Accepted, Published, Switched, Promoted, Reopened, Crashed}

-- the entries before a place, newest first
abbrev pub Past : Type 0
Past = List Entry

-- what the past makes of a value that starts so: each entry in turn changes it, over the entries before
abbrev pub over : {X : Type 0} → X → (Entry → Past → X → X) → Past → X
over start step [] = start
over start step (e ∷ past) = step e past (over start step past)

-- the nodes are 1 to the size
abbrev pub IsNode : ℕ → ℕ → Type 0
IsNode size n = (1 ≤ n) × (n ≤ size)

-- this node is the one
abbrev pub is_at : Option NodeNo → ℕ → Bool
is_at None n = false
is_at (Some m) n = m.0 == n

abbrev pub primary_by : Event → Option NodeNo → Option NodeNo
primary_by (Crashed m) p = if is_at p m.0 then None else p
primary_by (Promoted m g f w) p = Some m
primary_by e p = p

-- the running primary: node 1 at first, nobody after its crash, the promoted node after a promotion
abbrev pub primary_of : Past → Option NodeNo
primary_of = over (Some (record { 0 = 1 })) (λ e past p. primary_by e.event p)

-- how often a running primary has crashed
abbrev pub primary_crashes : Past → ℕ
primary_crashes = over 0 (λ e past k.
    elim e.event [ Crashed m ↦ if is_at (primary_of past) m.0 then k + 1 else k | _ ↦ k ])

-- a node runs unless the last of its crashes and reopenings is a crash
abbrev pub is_running : ℕ → Past → Bool
is_running n = over true (λ e past b. elim e.event [
  | Crashed m ↦ if m.0 == n then false else b
  | Reopened m v ↦ if m.0 == n then true else b
  | _ ↦ b
])

-- how often a node has crashed
abbrev pub crashes : ℕ → Past → ℕ
crashes n = over 0 (λ e past k. elim e.event [ Crashed m ↦ if m.0 == n then k + 1 else k | _ ↦ k ])

-- the node runs, and is not the primary
pub record IsReplica (past : Past) (n : ℕ) : Type 0 where
  pub running : is_running n past ≡ true
  pub other : is_at (primary_of past) n ≡ false

-- the generation: that of the last promotion, or 1
abbrev pub generation_of : Past → ℕ
generation_of = over 1 (λ e past k. elim e.event [ Promoted m g f w ↦ g.0 | _ ↦ k ])

-- the version that a node searches: that of the last point that it published, switched to,
-- was promoted to or reopened at, or 1
abbrev pub version_of : ℕ → Past → ℕ
version_of n = over 1 (λ e past v. elim e.event [
  | Published g w ↦ if is_at (primary_of past) n then w.0 else v
  | Switched m w ↦ if m.0 == n then w.0 else v
  | Promoted m g f w ↦ if m.0 == n then w.0 else v
  | Reopened m w ↦ if m.0 == n then w.0 else v
  | _ ↦ v
])

-- the greatest version that was published or promoted, or 1
abbrev pub newest_version : Past → ℕ
newest_version = over 1 (λ e past v.
    elim e.event [ Published g w ↦ max v w.0 | Promoted m g f w ↦ max v w.0 | _ ↦ v ])

-- the version was published or promoted in the present generation
abbrev pub is_made_in_generation : ℕ → Past → Bool
is_made_in_generation v = over false (λ e past b. elim e.event [
  | Published g w ↦ if w.0 == v then true else b
  | Promoted m g f w ↦ w.0 == v
  | _ ↦ b
])

-- there is a point of this version: the opening point, of version 1, or one that was published or promoted
abbrev pub is_point : ℕ → Past → Bool
is_point v = over (v == 1) (λ e past b. elim e.event [
  | Published g w ↦ if w.0 == v then true else b
  | Promoted m g f w ↦ if w.0 == v then true else b
  | _ ↦ b
])

-- how many operations were accepted
abbrev pub accepted_count : Past → ℕ
accepted_count = over 0 (λ e past k. elim e.event [ Accepted seq op ↦ k + 1 | _ ↦ k ])
