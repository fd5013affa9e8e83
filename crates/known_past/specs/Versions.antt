-- What is known of each version.
use Rattle.std.specs.Prelude.{ℕ, ◌≡◌, ◌+◌, ◌==◌, length, if◌then◌else◌, unwrap_or}
use Rattle.std.specs.Ordering.{nat_cmp}
use Rattle.std.specs.BTreeMap.{BTreeMap, get}
use Rattle.history_rules.specs.declared.entry.Event.TheVariants.{Published, Promoted}
use Rattle.history_rules.specs.Nodes.{Past, over}
use Rattle.known_past.specs.declared.versions.KnownVersions.{KnownVersions}

-- how many entries there were after the version was last published or promoted, 0 where it never was
abbrev pub made_place : ℕ → Past → ℕ
made_place v = over 0 (λ e past k. elim e.event [
  | Published g w ↦ if w.0 == v then length past + 1 else k
  | Promoted m g f w ↦ if w.0 == v then length past + 1 else k
  | _ ↦ k
])

-- how many entries there were after the last promotion, 0 where there was none
abbrev pub promoted_place : Past → ℕ
promoted_place = over 0 (λ e past k. elim e.event [ Promoted m g f w ↦ length past + 1 | _ ↦ k ])

-- what is noted of a version, 0 where nothing is
abbrev pub made_known : BTreeMap ℕ ℕ → ℕ → ℕ
made_known made v = unwrap_or (get nat_cmp made v) 0

-- what is noted is what these entries show
pub record VersionsAreKnown (past : Past) (versions : KnownVersions) : Type 0 where
  pub made : (v : ℕ) → made_known versions.made v ≡ made_place v past
  pub promoted : versions.promoted ≡ promoted_place past
