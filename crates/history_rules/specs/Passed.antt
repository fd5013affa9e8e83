-- What takes the place of the greatest copy: a copy above a version that no fault of a disk refused.
use Rattle.std.specs.Prelude.{ℕ, ◌≡◌, ◌≤◌, ◌∷◌, Bool, false, ◌&&◌, ◌==◌, nat_lt}
use Rattle.nrt_base.specs.declared.numbers.At.{At}
use Rattle.nrt_base.specs.declared.numbers.NodeNo.{NodeNo}
use Rattle.nrt_base.specs.declared.numbers.Version.{Version}
use Rattle.history_rules.specs.declared.cause.Cause.TheVariants.{DiskFault}
use Rattle.history_rules.specs.declared.entry.Entry.{Entry}
use Rattle.history_rules.specs.declared.entry.Event.{Event}
use Rattle.history_rules.specs.declared.entry.Event.TheVariants.{Copying, Refused}
use Rattle.history_rules.specs.Nodes.{Past, newest_version}
use Rattle.history_rules.specs.Commits.{is_passed}
use Rattle.history_rules.specs.Legal.{IsLegalPast}

-- the event starts a copy to the node above this version
abbrev pub starts_above : ℕ → ℕ → Event → Bool
starts_above n v e = elim e [ Copying m w ↦ (m.0 == n) && nat_lt v w.0 | _ ↦ false ]

-- no entry but such a start makes it pass
abbrev pub StaysUnpassed : Type 0
StaysUnpassed = (n v : ℕ) (past : Past) (e : Entry) → starts_above n v e.event ≡ false → is_passed n v past ≡ false → is_passed n v (e ∷ past) ≡ false

-- the newest version is never passed
abbrev pub NewestIsUnpassed : Type 0
NewestIsUnpassed = (size n v : ℕ) (past : Past) → IsLegalPast size past → newest_version past ≤ v → is_passed n v past ≡ false

-- nor does a copy that a fault of a disk refuses at once make it pass
abbrev pub RefusedAtOnce : Type 0
RefusedAtOnce = (n v : ℕ) (past : Past) (at : At) (m : NodeNo) (w : Version) → is_passed n v past ≡ false
    → is_passed n v (record { at = at; event = Refused DiskFault } ∷ record { at = at; event = Copying m w } ∷ past) ≡ false
