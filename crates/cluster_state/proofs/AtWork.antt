-- Where a line may meet a fault, a fault may stand behind it, and the line may meet another.
use Rattle.std.proofs.Common.{◌≡◌, ◌+◌, ◌||◌, ◌&&◌, ◌⊎◌, Bool, true, false, true≢false, List, [], ◌∷◌, inl, inr, Option, ℕ, refl, ap, ◌∙◌, sym, subst, if◌then◌else◌}
use Rattle.std.specs.Prelude.{nat_lt}
use Rattle.std.proofs.lemmas.Bool.{or_right, or_parts}
use Rattle.nrt_base.specs.declared.numbers.At.{At}
use Rattle.nrt_base.specs.declared.numbers.NodeNo.{NodeNo}
use Rattle.history_rules.specs.declared.cause.FaultKind.{FaultKind}
use Rattle.history_rules.specs.declared.cause.FaultKind.TheVariants.{Disk, Stop}
use Rattle.history_rules.specs.declared.entry.Event.{Event}
use Rattle.history_rules.specs.declared.entry.Event.TheVariants.{Merging, Fault}
use Rattle.history_rules.specs.Nodes.{Past, IsNode, is_running}
use Rattle.history_rules.specs.Lines.{same_at, last_of_line, is_answered}
use Rattle.history_rules.specs.Faults.{is_planned, is_of_disk}
use Rattle.history_rules.specs.Rules.{is_merging, is_unbegun, fetches_at, MayFault}
use Rattle.history_rules.proofs.FaultLaws.{both}
use Rattle.history_book.specs.Log.{Log, printed, begins_merge, has_merging, FollowsMerging}
use Rattle.history_book.specs.Steps.{last_by}
use Rattle.cluster_state.specs.Met.{fault_on, fault_if, with_met, has_any_risen, MayMeet}

-- a line that is a merge has begun one
has_begun : (at : At) (past : Past) → is_merging (last_of_line at past) ≡ true → has_merging at past ≡ true
has_begun at [] is = absurd (true≢false (sym is))
has_begun at (e ∷ past) is = step (same_at e.at at) e.event (last_of_line at past) (has_merging at past) (has_begun at past) is
  where
    step : (b : Bool) (x : Event) (last : Option Event) (rest : Bool) → (is_merging last ≡ true → rest ≡ true) → is_merging (if b then last_by x last else last) ≡ true → ((begins_merge x && b) || rest) ≡ true
    step true (Fault n kind) last rest before is = before is
    step true (Merging seg) last rest before is = refl
    step true x last rest before is = absurd (true≢false (sym is))
    step false x last rest before is = or_right (begins_merge x && false) rest (before is)

-- so a fault of a task follows it
pub follows : (task : Bool) (at : At) (n : NodeNo) (kind : FaultKind) (past : Past) → MayMeet task at past → task ≡ true → FollowsMerging at (Fault n kind) past
follows true at n kind past works is = has_begun at past works
follows false at n kind past works is = absurd (true≢false (sym is))

-- the rule of a fault of a disk
pub may_fault : (task : Bool) (size : ℕ) (past : Past) (at : At) (n : NodeNo) (kind : FaultKind) → IsNode size n.0 → (is_planned n.0 kind past ≡ true) × (is_running n.0 past ≡ true) → MayMeet task at past → is_of_disk kind ≡ true → MayFault size past at n kind
may_fault task size past at n kind node planned works disk = record {
  node = node;
  planned = planned.0;
  at_work = by task works;
  fetched = ap (λ (b : Bool). b || fetches_at size at past n.0) disk;
  alive = ap (λ (b : Bool). b || is_unbegun (last_of_line at past)) planned.1;
}
  where
    by : (t : Bool) → MayMeet t at past → (is_answered at past ≡ false) ⊎ (is_merging (last_of_line at past) ≡ true)
    by true works = inr works
    by false works = inl works

-- and the line may meet another behind it
pub works_over : (task b : Bool) (at : At) (n : ℕ) (kind : FaultKind) (log new : Log) → new ≡ fault_on b task at n kind log → MayMeet task at (printed log) → MayMeet task at (printed new)
works_over task b at n kind log new is works = subst (λ (l : Log). MayMeet task at (printed l)) (sym is) (by task b works)
  where
    by : (t c : Bool) → MayMeet t at (printed log) → MayMeet t at (printed (fault_on c t at n kind log))
    by true true works = ap is_merging (both (same_at at at) (last_of_line at (printed log))) ∙ works
    by false true works = works
    by t false works = works

-- where none rose none stands in front
pub none_met : (task : Bool) (at : At) (n : ℕ) (olds news : List (ℕ × ℕ)) (log : Log) → has_any_risen olds news ≡ false → with_met task at n olds news log ≡ log
none_met task at n [] news log none = refl
none_met task at n (o ∷ olds) [] log none = refl
none_met task at n (o ∷ olds) (w ∷ news) log none =
    let here = or_parts (nat_lt o.0 w.0 || nat_lt o.1 w.1) (has_any_risen olds news) none in
    let both_low = or_parts (nat_lt o.0 w.0) (nat_lt o.1 w.1) here.0 in
    ap (λ (l : Log). with_met task at (n + 1) olds news l)
    (ap (λ (b : Bool). fault_on b task at n Stop (fault_if task at n Disk o.0 w.0 log)) both_low.1 ∙ ap (λ (b : Bool). fault_on b task at n Disk log) both_low.0)
    ∙ none_met task at (n + 1) olds news log here.1
