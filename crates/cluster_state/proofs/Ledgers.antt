-- What the book of a ledger says, in the terms of the ledger; and which entries a ledger shows by itself.
use Rattle.std.proofs.Common.{◌≡◌, ◌==◌, ℕ, Bool, true, false, true≢false, Some, None, Option, refl, ap, ◌∙◌, sym, subst, List}
use Rattle.std.proofs.lemmas.Bool.{eq-eqb}
use Rattle.nrt_base.specs.declared.numbers.At.{At}
use Rattle.nrt_base.specs.declared.numbers.NodeNo.{NodeNo}
use Rattle.nrt_base.specs.declared.numbers.Version.{Version}
use Rattle.history_rules.specs.declared.entry.Event.{Event}
use Rattle.history_rules.specs.declared.entry.Event.TheVariants.{Publishing, Published, Merging, Crashed, Promoted}
use Rattle.history_rules.specs.Nodes.{Past, IsReplica, primary_of, is_running}
use Rattle.history_rules.specs.Lines.{commit_in_flight}
use Rattle.history_rules.specs.Rules.{MayCommit}
use Rattle.history_rules.specs.Legal.{IsLegalPast}
use Rattle.history_tables.specs.declared.jobs.JobRow.{JobRow}
use Rattle.history_book.specs.Log.{Log, printed}
use Rattle.history_book.specs.Laws.{IsFresh}
use Rattle.history_book.specs.Jobs.{job_at, LaneJobShows}
use Rattle.history_book.specs.Turns.{IsUnbegun, AreInTurn}
use Rattle.merge_tasks.specs.Merging.{Sheet, is_apart, ends_reign}
use Rattle.cluster_state.specs.Run.{Rest, Run}
use Rattle.cluster_state.specs.Moves.{moves}

-- ---- what the book says

module _ {a b : Log} (log : a ≡ b) where
  pub fresh_of : {at : At} → IsFresh at (printed a) → IsFresh at (printed b)
  fresh_of {at = at} is = subst (λ (l : Log). IsFresh at (printed l)) log is

  pub turns_of : AreInTurn (printed a) → AreInTurn (printed b)
  turns_of is = subst (λ (l : Log). AreInTurn (printed l)) log is

  pub replica_of : {n : ℕ} → IsReplica (printed a) n → IsReplica (printed b) n
  replica_of {n = n} is = subst (λ (l : Log). IsReplica (printed l) n) log is

  -- what holds where no primary runs, and of a node that is down
  pub vacant_of : ((m : ℕ) → primary_of (printed a) ≡ None → job_at m a ≡ None) → (m : ℕ) → primary_of (printed b) ≡ None → job_at m b ≡ None
  vacant_of idle = subst (λ (l : Log). (m : ℕ) → primary_of (printed l) ≡ None → job_at m l ≡ None) log idle

  pub down_of : ((m : ℕ) → is_running m (printed a) ≡ false → job_at m a ≡ None) → (m : ℕ) → is_running m (printed b) ≡ false → job_at m b ≡ None
  down_of idle = subst (λ (l : Log). (m : ℕ) → is_running m (printed l) ≡ false → job_at m l ≡ None) log idle

  pub uncommitting_of : ((m : ℕ) → is_running m (printed a) ≡ false → commit_in_flight m (printed a) ≡ None) → (m : ℕ) → is_running m (printed b) ≡ false → commit_in_flight m (printed b) ≡ None
  uncommitting_of idle = subst (λ (l : Log). (m : ℕ) → is_running m (printed l) ≡ false → commit_in_flight m (printed l) ≡ None) log idle

  -- a number or a truth of the past
  pub told_of : {X : Type 0} (f : Past → X) {x : X} → x ≡ f (printed a) → x ≡ f (printed b)
  told_of f is = is ∙ ap (λ (l : Log). f (printed l)) log

-- a line of which nothing stands there has not begun
pub unbegun_of : {at : At} {past : Past} → IsFresh at past → IsUnbegun at past
unbegun_of fresh = record { begun = fresh.begun; replied = fresh.replied }

module _ {k m : ℕ} {a b : Log} (nodes : k ≡ m) (log : a ≡ b) where
  pub legal_of : IsLegalPast k (printed a) → IsLegalPast m (printed b)
  legal_of is = subst (λ (x : ℕ × Log). IsLegalPast x.0 (printed x.1)) (λ i. (nodes i, log i)) is

  pub lane_of : {row : JobRow} → LaneJobShows k (printed a) row → LaneJobShows m (printed b) row
  lane_of {row = row} is = subst (λ (x : ℕ × Log). LaneJobShows x.0 (printed x.1) row) (λ i. (nodes i, log i)) is

  pub commit_of : {at : At} {n : NodeNo} {v : Version} → MayCommit k (printed a) at n v → MayCommit m (printed b) at n v
  commit_of {at = at} {n = n} {v = v} is = subst (λ (x : ℕ × Log). MayCommit x.0 (printed x.1) at n v) (λ i. (nodes i, log i)) is

-- what a call asks of the book, from what is asked of the cluster
pub asked_of : {r : Run} {ended : Bool} {nodes : ℕ} {left : Rest} {a log : Log} (P : Log → Type 0) → record { ended = ended; nodes = nodes; log = log; rest = left } ≡ r → a ≡ log → P r.log → P a
asked_of P view same has = subst P (sym (same ∙ ap (λ (x : Run). x.log) view)) has

-- the same of how many nodes there are
pub asked_size : {r : Run} {ended : Bool} {nodes k : ℕ} {left : Rest} {log : Log} (P : ℕ → Type 0) → record { ended = ended; nodes = nodes; log = log; rest = left } ≡ r → k ≡ nodes → P r.nodes → P k
asked_size P view same has = subst P (sym (same ∙ ap (λ (x : Run). x.nodes) view)) has

-- ---- what a ledger shows by itself

-- an entry that moves no node starts and ends no publish and no merge, and begins no generation
pub still_apart : (e : Event) → ((p : Option NodeNo) (m : ℕ) → moves e p m ≡ false) → is_apart e ≡ true
still_apart Publishing still = absurd (true≢false (still (Some (record { 0 = 0 })) 0))
still_apart (Published g v) still = absurd (true≢false (still (Some (record { 0 = 0 })) 0))
still_apart (Merging seg) still = absurd (true≢false (still (Some (record { 0 = 0 })) 0))
still_apart (Promoted m g f v) still = absurd (true≢false (same (m.0) (still (Some (record { 0 = 0 })) m.0)))
  where
    same : (k : ℕ) → (k == k) ≡ false → true ≡ false
    same k is = sym (eq-eqb k k refl) ∙ is
still_apart e still = refl

-- nor does it end a reign
pub still_reigns : (e : Event) (p : Option NodeNo) → ((q : Option NodeNo) (m : ℕ) → moves e q m ≡ false) → ends_reign e p ≡ false
still_reigns (Crashed m) p still = absurd (true≢false (sym (eq-eqb m.0 m.0 refl) ∙ still p m.0))
still_reigns e p still = refl
