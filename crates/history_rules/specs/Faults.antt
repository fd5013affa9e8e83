-- The faults that the entries before a place show.
use Rattle.std.specs.Prelude.{ℕ, List, [], ◌∷◌, map, codes, Bool, true, false, ◌&&◌, ◌||◌, not, ◌==◌, if◌then◌else◌}
use Rattle.std.specs.List.{list_any}
use Rattle.std.specs.Fmt.{decimal}
use Rattle.nrt_base.specs.declared.numbers.At.{At}
use Rattle.history_rules.specs.declared.cause.FaultKind.{FaultKind}
use Rattle.history_rules.specs.declared.cause.FaultKind.TheVariants.{Link, Damage, Disk, Stop}
use Rattle.history_rules.specs.declared.cause.FaultPlan.{FaultPlan}
use Rattle.history_rules.specs.declared.cause.FaultPlan.TheVariants.{Link as LinkPlan, Damage as DamagePlan, Disk as DiskPlan, Stop as StopPlan}
use Rattle.history_rules.specs.declared.entry.Event.TheVariants.{Planned, Fault, Crashed}
use Rattle.history_rules.specs.Nodes.{Past, over}
use Rattle.history_rules.specs.Lines.{same_at, is_start}

-- the words of a planned fault at a node: its kind, the node, which file or call,
-- and for damage which byte
abbrev pub plan_words : ℕ → FaultPlan → List (List ℕ)
plan_words n (LinkPlan k) = codes "link" ∷ map decimal (n ∷ k ∷ [])
plan_words n (DamagePlan k at) = codes "damage" ∷ map decimal (n ∷ k ∷ at ∷ [])
plan_words n (DiskPlan k) = codes "disk" ∷ map decimal (n ∷ k ∷ [])
plan_words n (StopPlan k) = codes "stop" ∷ map decimal (n ∷ k ∷ [])

-- the kind of a planned fault
abbrev pub kind_of : FaultPlan → FaultKind
kind_of (LinkPlan k) = Link
kind_of (DamagePlan k at) = Damage
kind_of (DiskPlan k) = Disk
kind_of (StopPlan k) = Stop

-- the two are one kind
abbrev pub same_kind : FaultKind → FaultKind → Bool
same_kind Link Link = true
same_kind Damage Damage = true
same_kind Disk Disk = true
same_kind Stop Stop = true
same_kind a b = false

-- a fault of a disk: of one call, or of a call and all after it
abbrev pub is_of_disk : FaultKind → Bool
is_of_disk kind = same_kind Disk kind || same_kind Stop kind

-- a fault of this kind is planned at a node: neither has the node crashed since the plan,
-- nor was it used up, as each but a stop is when it is met
abbrev pub is_planned : ℕ → FaultKind → Past → Bool
is_planned n kind = over false (λ e past b. elim e.event [
  | Planned m plan ↦ if (m.0 == n) && same_kind (kind_of plan) kind then true else b
  | Crashed m ↦ if m.0 == n then false else b
  | Fault m met ↦ if (m.0 == n) && same_kind met kind then same_kind Stop kind && b else b
  | _ ↦ b
])

-- the line has met a fault of such a kind at such a node
abbrev pub has_fault : (ℕ → Bool) → (FaultKind → Bool) → At → Past → Bool
has_fault node kind at past =
    list_any (λ e. elim e.event [ Fault m met ↦ node m.0 && kind met | _ ↦ false ]
    && same_at e.at at) past

-- the line has met a fault, of any kind, at any node
abbrev pub has_met_fault : At → Past → Bool
has_met_fault at past = has_fault (λ n. true) (λ kind. true) at past

-- the line has met a fault of the link, or a damage, in a file for the node
abbrev pub has_file_fault : ℕ → At → Past → Bool
has_file_fault n at past = has_fault (λ m. m == n) (λ kind. not (is_of_disk kind)) at past

-- the line has met a damage at such a node, and at that node no fault of the link
abbrev pub has_damage : (ℕ → Bool) → At → Past → Bool
has_damage node at past = has_fault (λ n. node n && not (has_fault (λ m. m == n) (same_kind Link) at past)) (same_kind Damage) at past

-- the newest entry is a fault of a disk that the line met
abbrev pub has_just_failed : At → Past → Bool
has_just_failed at [] = false
has_just_failed at (e ∷ past) = elim e.event [ Fault m met ↦ is_of_disk met | _ ↦ false ] && same_at e.at at

-- it is, or it is the start entry of the line, right behind such a fault
abbrev pub fails_now : At → Past → Bool
fails_now at [] = false
fails_now at (e ∷ past) = if is_start e.event && same_at e.at at then has_just_failed at past else has_just_failed at (e ∷ past)
