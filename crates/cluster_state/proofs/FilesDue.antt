-- The faults that a file meets as it is handed out: their rules, what they leave, and that what becomes of a file follows them.
use Rattle.std.proofs.Common.{◌≡◌, ◌==◌, ◌&&◌, ◌||◌, ◌⊎◌, ℕ, Bool, true, false, List, [], ◌∷◌, inl, inr, Option, Some, None, refl, ap, ◌∙◌, sym, subst, not, nat_le, if◌then◌else◌, arith}
use Rattle.std.proofs.Math.Bool.{and-false}
use Rattle.std.proofs.lemmas.Bool.{false≢true, and_parts, eqb-true, eq-eqb, or_right}
use Rattle.std.proofs.lemmas.Bool.Decides.{nat_tests}
use Rattle.nrt_base.specs.declared.numbers.At.{At}
use Rattle.nrt_base.specs.declared.numbers.NodeNo.{NodeNo}
use Rattle.disk_model.specs.Disk.{Name, Cells, same}
use Rattle.history_rules.specs.declared.cause.FaultKind.{FaultKind}
use Rattle.history_rules.specs.declared.cause.FaultKind.TheVariants.{Link, Damage, Disk, Stop}
use Rattle.history_rules.specs.declared.entry.Event.{Event}
use Rattle.history_rules.specs.declared.entry.Event.TheVariants.{Copying, Settling, Fault}
use Rattle.history_rules.specs.declared.entry.Entry.{Entry}
use Rattle.history_rules.specs.Nodes.{Past, IsNode, is_at, is_running, primary_of}
use Rattle.history_rules.specs.Lines.{same_at, start_entry, before_start, last_of_line, is_answered}
use Rattle.history_rules.specs.Faults.{is_planned, is_of_disk, has_damage, has_fault, has_file_fault, same_kind}
use Rattle.history_rules.specs.Rules.{MayFault, copies_to, fetches_at, is_merging, is_unbegun}
use Rattle.history_rules.proofs.AnyLemmas.{none_more}
use Rattle.history_rules.proofs.FaultLaws.{both}
use Rattle.history_tables.proofs.RowLemmas.{same_at_is, same_at_self}
use Rattle.link_model.specs.declared.fate.Fate.{Fate}
use Rattle.link_model.specs.declared.fate.Fate.TheVariants.{Whole, Fail, Damage as DamageFate}
use Rattle.history_book.specs.declared.inner.Inner.{Inner}
use Rattle.history_book.specs.declared.inner.Inner.TheVariants.{JobBegun, FileOut}
use Rattle.history_book.specs.declared.inner.Mark.TheVariants.{Shown, TaskFault, Kept}
use Rattle.history_book.specs.Jobs.{AreInside, FollowsFault, IsInside, StartsJob}
use Rattle.history_book.specs.Log.{Log, printed}
use Rattle.merge_tasks.specs.declared.fates.FilePlans.{FilePlans}
use Rattle.merge_tasks.specs.Board.{Board}
use Rattle.merge_tasks.specs.Fates.{fate_by, file_plans, used_up}
use Rattle.cluster_nodes.specs.declared.nodes.NodePlace.{NodePlace}
use Rattle.cluster_state.specs.DueFaults.{MeetsFate, with_due}
use Rattle.cluster_state.specs.FilesOut.{is_job, fate_out, handed_fate}
use Rattle.cluster_state.specs.Met.{MayMeet, ClusterStands, fault_by, fault_on, with_met}
use Rattle.cluster_state.proofs.Faulted.{fault_stands, met_keeps}

-- ---- their rules

-- the rule of a fault in a file for the node
pub may_meet : (task : Bool) (size : ℕ) (past : Past) (at : At) (n : NodeNo) (kind : FaultKind) → IsNode size n.0 → is_planned n.0 kind past ≡ true → MayMeet task at past → fetches_at size at past n.0 ≡ true → is_running n.0 past ≡ true
    → MayFault size past at n kind
may_meet task size past at n kind node planned works fetched alive = record {
  node = node;
  planned = planned;
  at_work = by task works;
  fetched = or_right (is_of_disk kind) (fetches_at size at past n.0) fetched;
  alive = ap (λ (b : Bool). b || is_unbegun (last_of_line at past)) alive;
}
  where
    by : (t : Bool) → MayMeet t at past → (is_answered at past ≡ false) ⊎ (is_merging (last_of_line at past) ≡ true)
    by true works = inr works
    by false works = inl works

-- it stands behind a fault of the link too
planned_over : (b c : Bool) → (if b && false then false else c) ≡ c
planned_over true c = refl
planned_over false c = refl

fetched_over : (size : ℕ) (at : At) (past : Past) (m n : ℕ) (kind : FaultKind) → fetches_at size at (record { at = at; event = Fault (record { 0 = m }) kind } ∷ past) n ≡ fetches_at size at past n
fetched_over size at past m n kind =
    ap (λ (o : Option Event). copies_to size (before_start at past) (start_entry at past) n || (is_merging o && is_running n past && not (is_at (primary_of past) n))) (both (same_at at at) (last_of_line at past))

pub may_meet_too : (task due : Bool) (size : ℕ) (at : At) (n : NodeNo) (log new : Log) → new ≡ fault_on due task at n.0 Link log → IsNode size n.0 → is_planned n.0 Damage (printed log) ≡ true → MayMeet task at (printed new)
    → fetches_at size at (printed log) n.0 ≡ true → is_running n.0 (printed log) ≡ true → MayFault size (printed new) at n Damage
may_meet_too task due size at n log new is node planned works fetched alive =
    may_meet task size (printed new) at n Damage node
    (ap (λ (l : Log). is_planned n.0 Damage (printed l)) is ∙ (plans task due ∙ planned)) works
    (ap (λ (l : Log). fetches_at size at (printed l) n.0) is ∙ (fetches task due ∙ fetched))
    (ap (λ (l : Log). is_running n.0 (printed l)) is ∙ (runs task due ∙ alive))
  where
    plans : (t b : Bool) → is_planned n.0 Damage (printed (fault_on b t at n.0 Link log)) ≡ is_planned n.0 Damage (printed log)
    plans true true = planned_over (n.0 == n.0) (is_planned n.0 Damage (printed log))
    plans false true = planned_over (n.0 == n.0) (is_planned n.0 Damage (printed log))
    plans t false = refl

    fetches : (t b : Bool) → fetches_at size at (printed (fault_on b t at n.0 Link log)) n.0 ≡ fetches_at size at (printed log) n.0
    fetches true true = fetched_over size at (printed log) n.0 n.0 Link
    fetches false true = fetched_over size at (printed log) n.0 n.0 Link
    fetches t false = refl

    runs : (t b : Bool) → is_running n.0 (printed (fault_on b t at n.0 Link log)) ≡ is_running n.0 (printed log)
    runs true true = refl
    runs false true = refl
    runs t false = refl

-- the line of a job copies to its node
pub fetches : (size : ℕ) (at : At) (past : Past) (n v : ℕ) → IsNode size n → StartsJob (before_start at past) n v (start_entry at past) → fetches_at size at past n ≡ true
fetches size at past n v node starts = ap (λ (b : Bool). b || (is_merging (last_of_line at past) && is_running n past && not (is_at (primary_of past) n))) (by (start_entry at past) starts)
  where
    by : (o : Option Event) → StartsJob (before_start at past) n v o → copies_to size (before_start at past) o n ≡ true
    by (Some (Copying m w)) s = eq-eqb m.0 n s.0
    by (Some (Settling w)) s =
        let low : nat_le 1 n ≡ true = let one = node.0 in grind (arith, nat_tests) in
        let high : nat_le n size ≡ true = let two = node.1 in grind (arith, nat_tests) in
        rw (low, high, s.running, s.other) refl
    by o s = absurd s

-- ---- what they leave

-- what holds behind one fault holds behind those that are due
pub due_has : (P : Log → Type 0) (task : Bool) (at : At) → ((n : ℕ) (kind : FaultKind) (log : Log) → P log → P (fault_by task at n kind ∷ log)) → (n : ℕ) (log : Log) → P log → P (with_due task at n log)
due_has P task at step n log was = one ((file_plans n log).damage == 1) Damage (fault_on ((file_plans n log).link == 1) task at n Link log) (one ((file_plans n log).link == 1) Link log was)
  where
    one : (b : Bool) (kind : FaultKind) (l : Log) → P l → P (fault_on b task at n kind l)
    one true kind l was' = step n kind l was'
    one false kind l was' = was'

pub due_stands : {D : Type 0} (cells : D → Cells) (size : ℕ) (places : List (Option (NodePlace D))) (cut : Bool) (board : Board) (task : Bool) (at : At) (n : ℕ) (log : Log)
    → ClusterStands cells size places cut board log → ClusterStands cells size places cut board (with_due task at n log)
due_stands cells size places cut board task at n log was =
    due_has (ClusterStands cells size places cut board) task at (λ m kind l s. fault_stands cells size places cut board task at m kind l s) n log was

-- the plans for files are behind faults of disks those from before
pub plans_still : (task : Bool) (n : ℕ) (by : At) (olds news : List (ℕ × ℕ)) (log : Log) → file_plans n (with_met task by 1 olds news log) ≡ file_plans n log
plans_still task n by olds news log = met_keeps (λ l. file_plans n l ≡ file_plans n log) task by (λ m kind l disk is. of_task task m kind l disk ∙ is) 1 olds news log refl
  where
    step : (b : Bool) (kind : FaultKind) (p : FilePlans) → is_of_disk kind ≡ true → (if b then used_up kind p else p) ≡ p
    step true Disk p disk = refl
    step true Stop p disk = refl
    step true Link p disk = absurd (false≢true disk)
    step true Damage p disk = absurd (false≢true disk)
    step false kind p disk = refl

    of_task : (t : Bool) (m : ℕ) (kind : FaultKind) (l : Log) → is_of_disk kind ≡ true → file_plans n (fault_by t by m kind ∷ l) ≡ file_plans n l
    of_task true m kind l disk = step (m == n) kind (file_plans n l) disk
    of_task false m kind l disk = step (m == n) kind (file_plans n l) disk

-- where the next file is to come whole none is due
pub none_due : (task : Bool) (at : At) (n : ℕ) (log : Log) → fate_by (file_plans n log) ≡ Whole → with_due task at n log ≡ log
none_due task at n log whole = by ((file_plans n log).link == 1) ((file_plans n log).damage == 1) whole
  where
    by : (link damage : Bool) → (if link then Fail else if damage then DamageFate (file_plans n log).byte else Whole) ≡ Whole → fault_on damage task at n Damage (fault_on link task at n Link log) ≡ log
    by true damage is = absurd (let same : Fail ≡ Whole = is in cc)
    by false true is = absurd (let same : DamageFate (file_plans n log).byte ≡ Whole = is in cc)
    by false false is = refl

-- ---- what becomes of a file follows them

has_more : (node : ℕ → Bool) (kind : FaultKind → Bool) (at : At) (e : Entry) (past : Past) → has_fault node kind at past ≡ true → has_fault node kind at (e ∷ past) ≡ true
has_more node kind at e past is = or_right (elim e.event [ Fault m met ↦ node m.0 && kind met | _ ↦ false ] && same_at e.at at) (has_fault node kind at past) is

met_here : (task : Bool) (at : At) (n : ℕ) (kind : FaultKind) (log : Log) → same_kind kind kind ≡ true → has_fault (λ m. m == n) (same_kind kind) at (printed (fault_by task at n kind ∷ log)) ≡ true
met_here true at n kind log same = ap (λ (z : Bool × (Bool × Bool)). ((z.0 && z.1.0) && z.1.1) || has_fault (λ m. m == n) (same_kind kind) at (printed log)) (λ i. (eq-eqb n n refl i, (same i, same_at_self at i)))
met_here false at n kind log same = ap (λ (z : Bool × (Bool × Bool)). ((z.0 && z.1.0) && z.1.1) || has_fault (λ m. m == n) (same_kind kind) at (printed log)) (λ i. (eq-eqb n n refl i, (same i, same_at_self at i)))

met_more : (task due : Bool) (at : At) (n : ℕ) (kind met : FaultKind) (log : Log) → has_fault (λ m. m == n) (same_kind kind) at (printed log) ≡ true
    → has_fault (λ m. m == n) (same_kind kind) at (printed (fault_on due task at n met log)) ≡ true
met_more true true at n kind met log is = has_more (λ m. m == n) (same_kind kind) at (record { at = at; event = Fault (record { 0 = n }) met }) (printed log) is
met_more false true at n kind met log is = has_more (λ m. m == n) (same_kind kind) at (record { at = at; event = Fault (record { 0 = n }) met }) (printed log) is
met_more task false at n kind met log is = is

pub due_followed : (task : Bool) (at : At) (n : ℕ) (p : FilePlans) (log : Log) → FollowsFault (fate_by p) at n (printed (fault_on (p.damage == 1) task at n Damage (fault_on (p.link == 1) task at n Link log)))
due_followed task at n p log = by (p.link == 1) (p.damage == 1)
  where
    by : (link damage : Bool) → FollowsFault (if link then Fail else if damage then DamageFate p.byte else Whole) at n (printed (fault_on damage task at n Damage (fault_on link task at n Link log)))
    by true damage = met_more task damage at n Link Damage (fault_by task at n Link ∷ log) (met_here task at n Link log refl)
    by false true = met_here task at n Damage log refl
    by false false = tt

-- a line that met no fault in a file for the node meets what makes this of its next file
not_link : (n : ℕ) (at : At) (past : Past) → has_file_fault n at past ≡ false → has_fault (λ m. m == n) (same_kind Link) at past ≡ false
not_link n at past none = none_more
    (λ e. elim e.event [ Fault m met ↦ (m.0 == n) && not (is_of_disk met) | _ ↦ false ] && same_at e.at at)
    (λ e. elim e.event [ Fault m met ↦ (m.0 == n) && same_kind Link met | _ ↦ false ] && same_at e.at at)
    (λ e hurt. by_event e.event (same_at e.at at) hurt) past none
  where
    by_event : (x : Event) (s : Bool) → (elim x [ Fault m met ↦ (m.0 == n) && same_kind Link met | _ ↦ false ] && s) ≡ true
        → (elim x [ Fault m met ↦ (m.0 == n) && not (is_of_disk met) | _ ↦ false ] && s) ≡ true
    by_event (Fault m Link) s hurt = hurt
    by_event (Fault m Damage) s hurt = absurd (false≢true (sym (ap (λ (b : Bool). b && s) (and-false (m.0 == n))) ∙ hurt))
    by_event (Fault m Disk) s hurt = absurd (false≢true (sym (ap (λ (b : Bool). b && s) (and-false (m.0 == n))) ∙ hurt))
    by_event (Fault m Stop) s hurt = absurd (false≢true (sym (ap (λ (b : Bool). b && s) (and-false (m.0 == n))) ∙ hurt))
    by_event x s hurt = absurd (false≢true hurt)

damaged_here : (task : Bool) (at : At) (n : ℕ) (log : Log) → has_fault (λ m. m == n) (same_kind Link) at (printed log) ≡ false → has_damage (λ m. m == n) at (printed (fault_by task at n Damage ∷ log)) ≡ true
damaged_here task at n log none = by task
  where
    unlinked : (t : Bool) → has_fault (λ m. m == n) (same_kind Link) at (printed (fault_by t at n Damage ∷ log)) ≡ false
    unlinked true = ap (λ (b : Bool). (b && same_at at at) || has_fault (λ m. m == n) (same_kind Link) at (printed log)) (and-false (n == n)) ∙ none
    unlinked false = ap (λ (b : Bool). (b && same_at at at) || has_fault (λ m. m == n) (same_kind Link) at (printed log)) (and-false (n == n)) ∙ none

    head : (t rest : Bool) → (((((n == n) && not (has_fault (λ m. m == n) (same_kind Link) at (printed (fault_by t at n Damage ∷ log)))) && true) && same_at at at) || rest) ≡ true
    head t rest = ap (λ (z : Bool × (Bool × Bool)). (((z.0 && not z.1.0) && true) && z.1.1) || rest) (λ i. (eq-eqb n n refl i, (unlinked t i, same_at_self at i)))

    by : (t : Bool) → has_damage (λ m. m == n) at (printed (fault_by t at n Damage ∷ log)) ≡ true
    by true = head true _
    by false = head false _

pub due_meets : (task : Bool) (at : At) (n : ℕ) (p : FilePlans) (log : Log) → has_file_fault n at (printed log) ≡ false
    → MeetsFate (fate_by p) at n (printed (fault_on (p.damage == 1) task at n Damage (fault_on (p.link == 1) task at n Link log)))
due_meets task at n p log none = by (p.link == 1) (p.damage == 1)
  where
    by : (link damage : Bool) → MeetsFate (if link then Fail else if damage then DamageFate p.byte else Whole) at n (printed (fault_on damage task at n Damage (fault_on link task at n Link log)))
    by true damage = met_more task damage at n Link Damage (fault_by task at n Link ∷ log) (met_here task at n Link log refl)
    by false true = damaged_here task at n log (not_link n at (printed log) none)
    by false false = tt

follows_more : (fate : Fate) (at : At) (n : ℕ) (e : Entry) (past : Past) → FollowsFault fate at n past → FollowsFault fate at n (e ∷ past)
follows_more Whole at n e past was = tt
follows_more Fail at n e past was = has_more (λ m. m == n) (same_kind Link) at e past was
follows_more (DamageFate byte) at n e past was = has_more (λ m. m == n) (same_kind Damage) at e past was

-- where a file was handed out to the job of a line, the fault that makes of it what becomes of it stands, of the line
pub fate_follows : (size n number : ℕ) (at : At) (q : Name) (log : Log) → AreInside size log → FollowsFault (fate_out (Some at) n number q log) at n (printed log)
fate_follows size n number at q [] inside = tt
fate_follows size n number at q (Shown e ∷ log) inside = follows_more (fate_out (Some at) n number q log) at n e (printed log) (fate_follows size n number at q log inside)
fate_follows size n number at q (TaskFault e ∷ log) inside = follows_more (fate_out (Some at) n number q log) at n e (printed log) (fate_follows size n number at q log inside)
fate_follows size n number at q (Kept i ∷ log) inside = step i inside.0 (fate_follows size n number at q log inside.1)
  where
    old : Fate
    old = fate_out (Some at) n number q log

    handed : (a : At) (m : NodeNo) (k : ℕ) (name : Name) (fate : Fate) → FollowsFault fate a m.0 (printed log) → FollowsFault old at n (printed log)
        → (b : Bool) → (is_job at n number (Some a) m.0 k && same name q) ≡ b → FollowsFault (if b then fate else old) at n (printed log)
    handed a m k name fate turn was true is =
        let job = and_parts (same_at at a) (n == m.0) (and_parts (same_at at a && (n == m.0)) (number == k) (and_parts (is_job at n number (Some a) m.0 k) (same name q) is).0).0 in
        let here : a ≡ at = sym (same_at_is at a job.0) in
        let node : m.0 ≡ n = sym (eqb-true n m.0 job.1) in
        subst (λ (z : At × ℕ). FollowsFault fate z.0 z.1 (printed log)) (λ j. (here j, node j)) turn
    handed a m k name fate turn was false is = was

    begun : (b : Bool) → FollowsFault old at n (printed log) → FollowsFault (if b then Whole else old) at n (printed log)
    begun true was = tt
    begun false was = was

    step : (i' : Inner) → IsInside size log i' → FollowsFault old at n (printed log) → FollowsFault (handed_fate (Some at) n number q i' old) at n (printed log)
    step (JobBegun line m k v by) turn was = begun (is_job at n number by m.0 k) was
    step (FileOut line m k name source fate (Some a)) turn was = handed a m k name fate turn was (is_job at n number (Some a) m.0 k && same name q) refl
    step (FileOut line m k name source fate None) turn was = was
    step i' turn was = was
