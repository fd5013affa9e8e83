-- What the entries show where no node was crashed, reopened or promoted and no fault was planned.
use Rattle.std.proofs.Common.{◌≡◌, ℕ, ◌+◌, ◌≤◌, List, [], ◌∷◌, ◌++◌, ◌&&◌, ◌||◌, Bool, true, false, Option, Some, None, length, drop, max, refl, ap, ◌∙◌, sym, subst, arith, append-nil, if◌then◌else◌}
use Rattle.std.specs.Prelude.{⊤, ◌==◌}
use Rattle.std.proofs.Math.Seq.{drop-append_seam}
use Rattle.std.proofs.lemmas.Bool.{false≢true, eq-eqb}
use Rattle.std.proofs.lemmas.Bool.Decides.{nat_tests}
use Rattle.std.proofs.lemmas.List.{nil_from_length}
use Rattle.script_serving.proofs.LogLemmas.{longer}
use mathlib.Core.List.{IsPrefix}
use Rattle.nrt_base.specs.declared.numbers.At.{At}
use Rattle.nrt_base.specs.declared.numbers.NodeNo.{NodeNo}
use Rattle.documents.specs.declared.operation.Op.{Op}
use Rattle.history_rules.specs.declared.cause.FaultKind.{FaultKind}
use Rattle.history_rules.specs.declared.entry.Entry.{Entry}
use Rattle.history_rules.specs.declared.entry.Event.{Event}
use Rattle.history_rules.specs.declared.entry.Event.TheVariants.{Accepted, Published, Crashed, Reopened, Promoted, Planned, Fault}
use Rattle.history_rules.specs.Nodes.{Past, is_at, primary_by, primary_of, primary_crashes, is_running, crashes, newest_version}
use Rattle.history_rules.specs.Lines.{same_at, is_start, before_start}
use Rattle.history_rules.specs.Points.{operations_written, operations_at, operations_at_start, operations_of_generation, published_in_generation, accepted_at_start, cut_of}
use Rattle.history_rules.specs.Faults.{is_planned, kind_of, same_kind, has_fault}
use Rattle.history_rules.specs.declared.cause.FaultKind.TheVariants.{Stop}
use Rattle.history_rules.specs.Legal.{KeepsRule, IsLegalPast}
use Rattle.history_rules.specs.Steps.{is_running_by, crashes_by, written_by, accepted_ops_by, newest_by}
use Rattle.history_facts.proofs.WrittenLemmas.{started}

-- the event is none of these
abbrev pub is_calm_event : Event → Bool
is_calm_event (Crashed m) = false
is_calm_event (Reopened m v) = false
is_calm_event (Promoted m g f v) = false
is_calm_event (Planned m plan) = false
is_calm_event (Fault m kind) = false
is_calm_event e = true

-- so is none of the entries
abbrev pub IsCalm : Past → Type 0
IsCalm [] = ⊤
IsCalm (e ∷ past) = (is_calm_event e.event ≡ true) × IsCalm past

pub calm_before : (newer past : Past) → IsCalm (newer ++ past) → IsCalm past
calm_before [] past calm = calm
calm_before (e ∷ newer) past calm = calm_before newer past calm.1

-- ---- nodes

abbrev first_node : NodeNo
first_node = record { 0 = 1 }

primary_step : (e : Event) → is_calm_event e ≡ true → primary_by e (Some first_node) ≡ Some first_node
primary_step (Crashed m) calm = absurd (false≢true calm)
primary_step (Promoted m g f v) calm = absurd (false≢true calm)
primary_step e calm = refl

-- node 1 is the primary
pub calm_primary : (past : Past) → IsCalm past → primary_of past ≡ Some (record { 0 = 1 })
calm_primary [] calm = refl
calm_primary (e ∷ past) calm = ap (primary_by e.event) (calm_primary past calm.1) ∙ primary_step e.event calm.0

runs_step : (n : ℕ) (e : Event) → is_calm_event e ≡ true → is_running_by n e true ≡ true
runs_step n (Crashed m) calm = absurd (false≢true calm)
runs_step n (Reopened m v) calm = absurd (false≢true calm)
runs_step n e calm = refl

-- every node runs
pub calm_runs : (n : ℕ) (past : Past) → IsCalm past → is_running n past ≡ true
calm_runs n [] calm = refl
calm_runs n (e ∷ past) calm = ap (is_running_by n e.event) (calm_runs n past calm.1) ∙ runs_step n e.event calm.0

crashes_step : (n : ℕ) (e : Event) → is_calm_event e ≡ true → crashes_by n e 0 ≡ 0
crashes_step n (Crashed m) calm = absurd (false≢true calm)
crashes_step n e calm = refl

pub calm_crashes : (n : ℕ) (past : Past) → IsCalm past → crashes n past ≡ 0
calm_crashes n [] calm = refl
calm_crashes n (e ∷ past) calm = ap (crashes_by n e.event) (calm_crashes n past calm.1) ∙ crashes_step n e.event calm.0

abbrev primary_crashes_by : Event → Option NodeNo → ℕ → ℕ
primary_crashes_by e p k = elim e [ Crashed m ↦ if is_at p m.0 then k + 1 else k | _ ↦ k ]

primary_crashes_step : (e : Event) (p : Option NodeNo) → is_calm_event e ≡ true → primary_crashes_by e p 0 ≡ 0
primary_crashes_step (Crashed m) p calm = absurd (false≢true calm)
primary_crashes_step e p calm = refl

pub calm_primary_crashes : (past : Past) → IsCalm past → primary_crashes past ≡ 0
calm_primary_crashes [] calm = refl
calm_primary_crashes (e ∷ past) calm =
    ap (primary_crashes_by e.event (primary_of past)) (calm_primary_crashes past calm.1) ∙ primary_crashes_step e.event (primary_of past) calm.0

-- ---- faults

abbrev planned_by : ℕ → FaultKind → Event → Bool → Bool
planned_by n kind e b =
    elim e [
      | Planned m plan ↦ if (m.0 == n) && same_kind (kind_of plan) kind then true else b
      | Crashed m ↦ if m.0 == n then false else b
      | Fault m met ↦ if (m.0 == n) && same_kind met kind then same_kind Stop kind && b else b
      | _ ↦ b
    ]

planned_step : (n : ℕ) (kind : FaultKind) (e : Event) → is_calm_event e ≡ true → planned_by n kind e false ≡ false
planned_step n kind (Crashed m) calm = absurd (false≢true calm)
planned_step n kind (Planned m plan) calm = absurd (false≢true calm)
planned_step n kind (Fault m met) calm = absurd (false≢true calm)
planned_step n kind e calm = refl

pub calm_planned : (n : ℕ) (kind : FaultKind) (past : Past) → IsCalm past → is_planned n kind past ≡ false
calm_planned n kind [] calm = refl
calm_planned n kind (e ∷ past) calm = ap (planned_by n kind e.event) (calm_planned n kind past calm.1) ∙ planned_step n kind e.event calm.0

abbrev met_by : (ℕ → Bool) → (FaultKind → Bool) → Event → Bool
met_by node kind e = elim e [ Fault m met ↦ node m.0 && kind met | _ ↦ false ]

met_step : (node : ℕ → Bool) (kind : FaultKind → Bool) (e : Event) → is_calm_event e ≡ true → met_by node kind e ≡ false
met_step node kind (Fault m met) calm = absurd (false≢true calm)
met_step node kind e calm = refl

pub calm_fault : (node : ℕ → Bool) (kind : FaultKind → Bool) (at : At) (past : Past) → IsCalm past → has_fault node kind at past ≡ false
calm_fault node kind at [] calm = refl
calm_fault node kind at (e ∷ past) calm =
    ap (λ (b : Bool). b && same_at e.at at || has_fault node kind at past) (met_step node kind e.event calm.0) ∙ calm_fault node kind at past calm.1

-- ---- operations

written_step : (e : Event) (past : Past) (points : ℕ → List Op) (ops : List Op) → is_calm_event e ≡ true → written_by e past points ops ≡ accepted_ops_by e ops
written_step (Promoted m g f w) past points ops calm = absurd (false≢true calm)
written_step e past points ops calm = refl

-- one entry more
pub calm_written_next : (e : Entry) (past : Past) → is_calm_event e.event ≡ true → operations_written (e ∷ past) ≡ accepted_ops_by e.event (operations_written past)
calm_written_next e past calm = written_step e.event past (operations_at past) (operations_written past) calm

-- all operations are of the first generation
pub calm_written : (past : Past) → IsCalm past → operations_written past ≡ operations_of_generation past
calm_written [] calm = refl
calm_written (e ∷ past) calm = calm_written_next e past calm.0 ∙ ap (accepted_ops_by e.event) (calm_written past calm.1)

grown : (e : Event) (ops : List Op) → is_calm_event e ≡ true → IsPrefix ops (accepted_ops_by e ops)
grown (Accepted seq op) ops calm = (op ∷ [], refl)
grown (Promoted m g f w) ops calm = absurd (false≢true calm)
grown e ops calm = ([], append-nil ops)

-- those at the start of a line are the first of them
start_first : (at : At) (past : Past) → IsCalm past → IsPrefix (operations_of_generation (before_start at past)) (operations_of_generation past)
start_first at [] calm = ([], refl)
start_first at (e ∷ past) calm = by_test (is_start e.event && same_at e.at at) (start_first at past calm.1)
  where
    more : IsPrefix (operations_of_generation past) (operations_of_generation (e ∷ past))
    more = grown e.event (operations_of_generation past) calm.0

    by_test : (b : Bool) → IsPrefix (operations_of_generation (before_start at past)) (operations_of_generation past)
        → IsPrefix (operations_of_generation (if b then past else before_start at past)) (operations_of_generation (e ∷ past))
    by_test true ih = more
    by_test false ih = longer (operations_of_generation (before_start at past)) (operations_of_generation past) (operations_of_generation (e ∷ past)) ih more

-- the newest point has the operations that were published, which are the first of all
pub record HasPublished (past : Past) : Type 0 where
  pub front : IsPrefix (operations_at past (newest_version past)) (operations_of_generation past)
  pub count : length (operations_at past (newest_version past)) ≡ published_in_generation past

module _ (size : ℕ) (at : At) (past : Past) (calm : IsCalm past) (has : HasPublished past) where
  published_next : (e : Event) → is_calm_event e ≡ true → KeepsRule size past at e → HasPublished (record { at = at; event = e } ∷ past)
  published_next (Accepted seq op) quiet keeps =
      record {
        front = longer (operations_at past (newest_version past)) (operations_of_generation past) (operations_of_generation past ++ op ∷ []) has.front (op ∷ [], refl);
        count = has.count;
      }
  published_next (Published g w) quiet keeps =
      let next : w.0 ≡ newest_version past + 1 = keeps.next in
      let greatest : max (newest_version past) w.0 ≡ w.0 = omega (arith, next) in
      let made : (if w.0 == w.0 then operations_at_start at past else operations_at past w.0) ≡ operations_at_start at past = rw (eq-eqb w.0 w.0 refl) refl in
      let started_with : operations_at_start at past ≡ operations_of_generation (before_start at past) = started at past ∙ calm_written (before_start at past) (calm_start past calm) in
      let there : operations_at (record { at = at; event = Published g w } ∷ past) (max (newest_version past) w.0) ≡ operations_of_generation (before_start at past) =
      ap (operations_at (record { at = at; event = Published g w } ∷ past)) greatest ∙ (made ∙ started_with) in
      record {
        front = subst (λ (ops : List Op). IsPrefix ops (operations_of_generation past)) (sym there) (start_first at past calm);
        count = ap length there;
      }
    where
      calm_start : (p : Past) → IsCalm p → IsCalm (before_start at p)
      calm_start [] c = c
      calm_start (e ∷ p) c = by_test (is_start e.event && same_at e.at at) (calm_start p c.1)
        where
          by_test : (b : Bool) → IsCalm (before_start at p) → IsCalm (if b then p else before_start at p)
          by_test true ih = c.1
          by_test false ih = ih
  published_next (Crashed m) quiet keeps = absurd (false≢true quiet)
  published_next (Promoted m g f v) quiet keeps = absurd (false≢true quiet)
  published_next e quiet keeps = record { front = has.front; count = has.count }

pub calm_published : (size : ℕ) (past : Past) → IsCalm past → IsLegalPast size past → HasPublished past
calm_published size [] calm legal = record { front = ([], refl); count = refl }
calm_published size (e ∷ past) calm legal = published_next size e.at past calm.1 (calm_published size past calm.1 legal.1) e.event calm.0 legal.0

-- where nothing is left to publish, the newest point has all operations
pub nothing_left : (past : Past) → IsCalm past → HasPublished past → length (cut_of past) ≡ 0 → operations_at past (newest_version past) ≡ operations_written past
nothing_left past calm has none =
    let front = operations_at past (newest_version past) in
    let rest : List Op = has.front.0 in
    let cut : cut_of past ≡ rest =
    ap (λ (k : ℕ). drop k (operations_of_generation past)) (sym has.count) ∙ (ap (drop (length front)) (sym has.front.1) ∙ drop-append_seam front rest) in
    let empty : rest ≡ [] = nil_from_length rest (ap length (sym cut) ∙ none) in
    sym (append-nil front) ∙ (ap (λ (more : List Op). front ++ more) (sym empty) ∙ (has.front.1 ∙ sym (calm_written past calm)))
