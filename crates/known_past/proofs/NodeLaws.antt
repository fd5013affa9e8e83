-- One more entry keeps what is known of each node.
use Rattle.std.proofs.Common.{◌≡◌, ◌==◌, ◌<◌, ℕ, ◌≤◌, ◌+◌, [], ◌∷◌, length, Bool, true, false, ◌&&◌, ◌||◌, not, nat_lt, nat_le, max, if◌then◌else◌, Option, Some, None, refl, ap, sym, subst, ◌∙◌, arith}
use Rattle.std.specs.BTreeMap.{BTreeMap}
use Rattle.std.proofs.Math.Bool.{and-false}
use Rattle.std.proofs.lemmas.Bool.{eqb-true}
use Rattle.std.proofs.lemmas.Bool.Decides.{nat_tests}
use Rattle.nrt_base.specs.declared.numbers.At.{At}
use Rattle.nrt_base.specs.declared.numbers.NodeNo.{NodeNo}
use Rattle.history_rules.specs.declared.entry.Entry.{Entry}
use Rattle.history_rules.specs.declared.entry.Event.{Event}
use Rattle.history_rules.specs.declared.entry.Event.TheVariants.{Published, Copying, Committing, Switched, Committed, Crashed, Reopened, Promoted, Planned, Fault, Refused}
use Rattle.history_rules.specs.declared.cause.FaultKind.{FaultKind}
use Rattle.history_rules.specs.declared.cause.FaultKind.TheVariants.{Link, Damage, Disk, Stop}
use Rattle.history_rules.specs.Nodes.{Past, is_at, primary_of, is_running, crashes, version_of}
use Rattle.history_rules.specs.Lines.{start_entry, is_reply, without_at, copy_in_flight}
use Rattle.history_rules.specs.Commits.{base_version, has_committed, is_disk_fault, starts_commit, is_stuck, is_refused_by_disk, passes, is_passed}
use Rattle.history_rules.specs.Faults.{same_kind, kind_of, is_planned}
use Rattle.history_tables.specs.NodeRows.{crashed_at}
use Rattle.history_tables.specs.WorkRows.{IsCommitter}
use Rattle.known_past.specs.declared.nodes.KnownNode.{KnownNode}
use Rattle.known_past.specs.Nodes.{highest_copied, last_copy, last_changed, commit_begun, first_node, node_known, touched, NodeIsKnown, AreNodesKnown}

pub first_is_known : (n : ℕ) → NodeIsKnown [] n first_node
first_is_known n = record {
  life = record { running = refl; crashes = refl; crashed = refl; changed = refl; version = refl; copied = refl; copying = refl; low = omega arith };
  commits = record { committed = refl; stuck = refl; base = refl; begun = refl };
  plans = record { link = refl; damage = refl; disk = refl; stop = refl };
}

module _ (past now : Past) (n : ℕ) (node : KnownNode) (h : NodeIsKnown past n node) where
  -- what the entries show of a node is as before
  still : is_running n now ≡ is_running n past → crashes n now ≡ crashes n past → crashed_at n now ≡ crashed_at n past → last_changed n now ≡ last_changed n past
      → version_of n now ≡ version_of n past → highest_copied n now ≡ highest_copied n past → last_copy n now ≡ last_copy n past
      → has_committed n now ≡ has_committed n past → is_stuck n now ≡ is_stuck n past → base_version n now ≡ base_version n past → commit_begun n now ≡ commit_begun n past
      → ((kind : FaultKind) → is_planned n kind now ≡ is_planned n kind past) → length past ≤ length now → NodeIsKnown now n node
  still running crashed at changed version copied copying committed stuck base begun planned longer = record {
    life = record {
      running = h.life.running ∙ sym running;
      crashes = h.life.crashes ∙ sym crashed;
      crashed = h.life.crashed ∙ sym at;
      changed = h.life.changed ∙ sym changed;
      version = h.life.version ∙ sym version;
      copied = h.life.copied ∙ sym copied;
      copying = h.life.copying ∙ sym copying;
      low = let low = h.life.low in omega (arith, low, longer);
    };
    commits = record {
      committed = h.commits.committed ∙ sym committed;
      stuck = h.commits.stuck ∙ sym stuck;
      base = h.commits.base ∙ sym base;
      begun = h.commits.begun ∙ sym begun;
    };
    plans = record {
      link = h.plans.link ∙ sym (planned Link);
      damage = h.plans.damage ∙ sym (planned Damage);
      disk = h.plans.disk ∙ sym (planned Disk);
      stop = h.plans.stop ∙ sym (planned Stop);
    };
  }

-- an entry is nothing to a node that it does not touch
untouched : (past : Past) (at : At) (e : Event) (n : ℕ) (node : KnownNode) (primary committer : Option NodeNo) → primary ≡ primary_of past → IsCommitter at past e committer
    → is_at (touched e primary committer) n ≡ false → NodeIsKnown past n node → NodeIsKnown (record { at = at; event = e } ∷ past) n node
untouched past at (Published g v) n node primary committer source refuses out h =
    let other : is_at (primary_of past) n ≡ false = ap (λ (p : Option NodeNo). is_at p n) (sym source) ∙ out in
    still past (record { at = at; event = Published g v } ∷ past) n node h refl refl refl refl
    (ap (λ (b : Bool). if b then v.0 else version_of n past) other) refl refl refl refl refl refl (λ kind. refl) (omega arith)
untouched past at (Refused cause) n node primary committer source refuses out h =
    let other : starts_commit n (start_entry at past) ≡ false = refuses n ∙ out in
    still past (record { at = at; event = Refused cause } ∷ past) n node h refl refl refl refl refl refl refl refl
    (ap (λ (b : Bool). (is_disk_fault cause && b) || is_stuck n past) other ∙ ap (λ (b : Bool). b || is_stuck n past) (and-false (is_disk_fault cause)))
    refl refl (λ kind. refl) (omega arith)
untouched past at (Switched m v) n node primary committer source refuses out h =
    still past (record { at = at; event = Switched m v } ∷ past) n node h refl refl refl refl
    (ap (λ (b : Bool). if b then v.0 else version_of n past) out) refl refl refl refl refl refl (λ kind. refl) (omega arith)
untouched past at (Crashed m) n node primary committer source refuses out h =
    still past (record { at = at; event = Crashed m } ∷ past) n node h (ap (λ (b : Bool). if b then false else is_running n past) out)
    (ap (λ (b : Bool). if b then crashes n past + 1 else crashes n past) out)
    (ap (λ (b : Bool). if b then length past + 1 else crashed_at n past) out)
    (ap (λ (b : Bool). if b then length past + 1 else last_changed n past) out) refl refl refl refl refl refl
    (ap (λ (b : Bool). if b then None else commit_begun n past) out) (λ kind. ap (λ (b : Bool). if b then false else is_planned n kind past) out)
    (omega arith)
untouched past at (Reopened m v) n node primary committer source refuses out h =
    still past (record { at = at; event = Reopened m v } ∷ past) n node h (ap (λ (b : Bool). if b then true else is_running n past) out) refl refl
    (ap (λ (b : Bool). if b then length past + 1 else last_changed n past) out) (ap (λ (b : Bool). if b then v.0 else version_of n past) out) refl
    refl (ap (λ (b : Bool). if b then has_committed n past || nat_lt 1 v.0 else has_committed n past) out)
    (ap (λ (b : Bool). if b then false else is_stuck n past) out) (ap (λ (b : Bool). if b then v.0 else base_version n past) out) refl (λ kind. refl)
    (omega arith)
untouched past at (Promoted m g f v) n node primary committer source refuses out h =
    still past (record { at = at; event = Promoted m g f v } ∷ past) n node h refl refl refl refl
    (ap (λ (b : Bool). if b then v.0 else version_of n past) out) refl refl refl refl refl refl (λ kind. refl) (omega arith)
untouched past at (Committed m v) n node primary committer source refuses out h =
    still past (record { at = at; event = Committed m v } ∷ past) n node h refl refl refl refl refl refl refl
    (ap (λ (b : Bool). if b then true else has_committed n past) out) (ap (λ (b : Bool). if b then false else is_stuck n past) out)
    (ap (λ (b : Bool). if b then v.0 else base_version n past) out) refl (λ kind. refl) (omega arith)
untouched past at (Planned m plan) n node primary committer source refuses out h =
    still past (record { at = at; event = Planned m plan } ∷ past) n node h refl refl refl refl refl refl refl refl refl refl refl
    (λ kind. ap (λ (b : Bool). if b && same_kind (kind_of plan) kind then true else is_planned n kind past) out) (omega arith)
untouched past at (Fault m met) n node primary committer source refuses out h =
    still past (record { at = at; event = Fault m met } ∷ past) n node h refl refl refl refl refl refl refl refl refl refl refl
    (λ kind. ap (λ (b : Bool). if b && same_kind met kind then same_kind Stop kind && is_planned n kind past else is_planned n kind past) out)
    (omega arith)
untouched past at (Copying m v) n node primary committer source refuses out h =
    still past (record { at = at; event = Copying m v } ∷ past) n node h refl refl refl refl refl
    (ap (λ (b : Bool). if b then max (highest_copied n past) v.0 else highest_copied n past) out)
    (ap (λ (b : Bool). if b && nat_le (highest_copied n past) v.0 then Some (record { at = at; place = length past }) else last_copy n past) out) refl
    refl refl refl (λ kind. refl) (omega arith)
untouched past at (Committing m v) n node primary committer source refuses out h =
    still past (record { at = at; event = Committing m v } ∷ past) n node h refl refl refl refl refl refl refl refl refl refl
    (ap (λ (b : Bool). if b then Some (record { at = at; place = length past }) else commit_begun n past) out) (λ kind. refl) (omega arith)
untouched past at e n node primary committer source refuses out h =
    still past (record { at = at; event = e } ∷ past) n node h refl refl refl refl refl refl refl refl refl refl refl (λ kind. refl) (omega arith)

-- an entry that touches no node
pub none_touched : (past : Past) (e : Entry) (nodes : BTreeMap ℕ KnownNode) (primary committer : Option NodeNo) → AreNodesKnown past nodes → primary ≡ primary_of past
    → IsCommitter e.at past e.event committer → None ≡ touched e.event primary committer → AreNodesKnown (e ∷ past) nodes
none_touched past e nodes primary committer known source refuses none = λ n.
    untouched past e.at e.event n (node_known nodes n) primary committer source refuses (ap (λ (o : Option NodeNo). is_at o n) (sym none)) (known n)

-- an entry that touches this node
pub one_touched : (past : Past) (e : Entry) (old new : BTreeMap ℕ KnownNode) (primary committer : Option NodeNo) (n : NodeNo) (node : KnownNode) → AreNodesKnown past old
    → primary ≡ primary_of past → IsCommitter e.at past e.event committer → Some n ≡ touched e.event primary committer → NodeIsKnown (e ∷ past) n.0 node
    → ((k : ℕ) → node_known new k ≡ (if n.0 == k then node else node_known old k)) → AreNodesKnown (e ∷ past) new
one_touched past e old new primary committer n node known source refuses one own noted = λ k. by_test k (n.0 == k) refl
  where
    by_test : (k : ℕ) (t : Bool) → (n.0 == k) ≡ t → NodeIsKnown (e ∷ past) k (node_known new k)
    by_test k true same =
        let now : node_known new k ≡ node = noted k ∙ ap (λ (b : Bool). if b then node else node_known old k) same in
        let here : n.0 ≡ k = eqb-true n.0 k same in
        subst (NodeIsKnown (e ∷ past) k) (sym now) (subst (λ (m : ℕ). NodeIsKnown (e ∷ past) m node) here own)
    by_test k false other =
        let now : node_known new k ≡ node_known old k = noted k ∙ ap (λ (b : Bool). if b then node else node_known old k) other in
        subst (NodeIsKnown (e ∷ past) k) (sym now)
        (untouched past e.at e.event k (node_known old k) primary committer source refuses (ap (λ (o : Option NodeNo). is_at o k) (sym one) ∙ other) (known k))

-- ---- what no copy to a node passed

greater : (b : Bool) (k w v : ℕ) → (if b then max k w else k) ≤ v → (k ≤ v) × ((b && nat_lt v w) ≡ false)
greater true k w v low = (omega (arith, low), grind (arith, nat_tests, low))
greater false k w v low = (low, refl)

none_passes : (n v : ℕ) (all past : Past) → highest_copied n past ≤ v → false ≡ passes n v all past
none_passes n v all [] low = refl
none_passes n v all (e ∷ past) low = by_event e.event low (none_passes n v all past)
  where
    by_event : (event : Event) → highest_copied n (record { at = e.at; event = event } ∷ past) ≤ v → (highest_copied n past ≤ v → false ≡ passes n v all past)
        → false ≡ passes n v all (record { at = e.at; event = event } ∷ past)
    by_event (Copying m w) low more =
        let h = greater (m.0 == n) (highest_copied n past) w.0 v low in
        more h.0 ∙ ap (λ (b : Bool). (b && not (is_refused_by_disk e.at all)) || passes n v all past) (sym h.1)
    by_event event low more = more low

-- a copy to a node passed no version that is as high as each of them
pub not_passed : (n v : ℕ) (past : Past) → highest_copied n past ≤ v → false ≡ is_passed n v past
not_passed n v past low = none_passes n v past past low

below : (b : Bool) (k w v : ℕ) → (if b then max k w else k) < v → (k < v) × ((b && (w == v)) ≡ false)
below true k w v low = (omega (arith, low), grind (arith, nat_tests, low))
below false k w v low = (low, refl)

reply_none : (b : Bool) (old : Option At) (at : At) → None ≡ old → None ≡ (if b then without_at at old else old)
reply_none true old at none = ap (without_at at) none
reply_none false old at none = none

crash_none : (b : Bool) (old : Option At) (at : At) → None ≡ old → None ≡ (if b then None else without_at at old)
crash_none true old at none = refl
crash_none false old at none = ap (without_at at) none

-- no copy of a version above all that were copied to a node is in flight
pub not_copied : (n v : ℕ) (past : Past) → highest_copied n past < v → None ≡ copy_in_flight n v past
not_copied n v [] low = refl
not_copied n v (e ∷ past) low = by_event e.event low (not_copied n v past)
  where
    by_event : (event : Event) → highest_copied n (record { at = e.at; event = event } ∷ past) < v → (highest_copied n past < v → None ≡ copy_in_flight n v past)
        → None ≡ copy_in_flight n v (record { at = e.at; event = event } ∷ past)
    by_event (Copying m w) low more =
        let h = below (m.0 == n) (highest_copied n past) w.0 v low in
        more h.0 ∙ ap (λ (b : Bool). if b then Some e.at else copy_in_flight n v past) (sym h.1)
    by_event (Crashed m) low more = crash_none ((m.0 == n) || is_at (primary_of past) m.0) (copy_in_flight n v past) e.at (more low)
    by_event event low more = reply_none (is_reply event) (copy_in_flight n v past) e.at (more low)
