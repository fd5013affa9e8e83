-- What is left of a settle.
use Rattle.std.proofs.Common.{◌≡◌, ◌≢◌, ◌≤◌, ◌<◌, ◌+◌, ◌==◌, ◌⊎◌, ⊎_elim, inl, inr, ℕ, zero, suc, Bool, true, false, true≢false, List, [], ◌∷◌, ◌++◌, Some, None, Option, refl, ap, ◌∙◌, sym, subst, arith, if◌then◌else◌, length, drop}
use Rattle.std.specs.List.{All, AllPairs, Contains, slice_get}
use Rattle.std.proofs.lemmas.Bool.{eqb-true, eq-eqb}
use Rattle.std.proofs.lemmas.List.Elements.{All-rest}
use Rattle.nrt_base.specs.declared.numbers.At.{At}
use Rattle.nrt_base.specs.declared.numbers.NodeNo.{NodeNo}
use Rattle.nrt_base.specs.declared.numbers.Version.{Version}
use Rattle.history_rules.specs.declared.entry.Event.TheVariants.{Settling}
use Rattle.history_rules.specs.Nodes.{Past, IsNode, IsReplica, is_at, is_running, crashes, version_of}
use Rattle.history_rules.specs.Lines.{same_at, start_entry, before_start, highest_switched, NodeSurvives, SourceSurvives}
use Rattle.history_rules.specs.Points.{operations_of_generation}
use Rattle.history_rules.specs.Rules.{IsLineWhole, MaySettle}
use Rattle.history_rules.specs.Legal.{IsLegalPast}
use Rattle.history_rules.proofs.NodeLemmas.{runs_through}
use Rattle.history_tables.specs.Begins.{begun_by, open_line}
use Rattle.history_tables.proofs.RowLemmas.{same_at_self}
use Rattle.history_book.specs.Log.{Log, printed, shown}
use Rattle.merge_tasks.specs.Merging.{Sheet}
use Rattle.history_book.proofs.ReignLaws.{since_start, reigns_on, start_kept}
use Rattle.cluster_nodes.specs.declared.tasks.SettleTask.{SettleTask}
use Rattle.cluster_state.specs.Run.{Rest, Run, IsNow}
use Rattle.cluster_state.proofs.Turning.{past_has}
use Rattle.cluster_state.specs.Settles.{AreReplicas, IsLeft, IsSettling, WaitsFor}

-- ---- a node since the start of a line

-- a replica stays one while neither it nor the primary has crashed since
pub replica_stays : (size : ℕ) (past : Past) (at : At) (v : Version) (n : ℕ) → IsLegalPast size past → start_entry at past ≡ Some (Settling v) → IsReplica (before_start at past) n
    → NodeSurvives past at n → SourceSurvives past at → IsReplica past n
replica_stays size past at v n legal started was alive source =
    let since = since_start at past in
    let runs = runs_through size n since.newer (before_start at past) (subst (IsLegalPast size) since.split legal) was.running (still since.newer since.split) in
    record {
      running = subst (λ (p : Past). is_running n p ≡ true) (sym since.split) runs.running;
      other = ap (λ p. is_at p n) (reigns_on size at past legal (start_kept size at past (Settling v) legal started).source source.source).primary ∙ was.other;
    }
  where
    still : (newer : Past) → past ≡ newer ++ before_start at past → crashes n (newer ++ before_start at past) ≤ crashes n (before_start at past)
    still newer split = let same = alive.node in let moved : crashes n past ≡ crashes n (newer ++ before_start at past) = ap (crashes n) split in omega arith

-- ---- what is left

-- the first that is left, where it has not crashed and is behind, is waited for
pub first_waits : (size : ℕ) (past : Past) (at : At) (task : SettleTask) (n : NodeNo) (rest : List NodeNo) → IsLegalPast size past → SourceSurvives past at → task.left.items ≡ n ∷ rest
    → (crashes n.0 past == crashes n.0 (before_start at past)) ≡ true → version_of n.0 past < task.version.0 → IsSettling size past at task → WaitsFor size past at task.version.0 n
first_waits size past at task n rest legal source is alive behind s =
    let left : All (IsLeft size past at task.version.0) (n ∷ rest) = subst (All (IsLeft size past at task.version.0)) is s.left in
    let mine : IsLeft size past at task.version.0 n = left 0 n (omega arith) in
    let survives : NodeSurvives past at n.0 = record { node = eqb-true (crashes n.0 past) (crashes n.0 (before_start at past)) alive } in
    record {
      node = mine.node;
      was = mine.replica;
      replica = replica_stays size past at task.version n.0 legal s.started mine.replica survives source;
      survives = survives;
      behind = behind;
      ordered = ⊎_elim (λ (low : highest_switched at past < n.0). low) (λ (high : task.version.0 ≤ version_of n.0 past). absurd (omega arith)) (mine.ordered survives);
    }

in_rest : (xs : List NodeNo) (n m : NodeNo) (rest : List NodeNo) → xs ≡ n ∷ rest → Contains xs m → (n ≡ m) ⊎ Contains rest m
in_rest xs n m rest is has = go (subst (λ (ys : List NodeNo). Contains ys m) is has)
  where
    go : Contains (n ∷ rest) m → (n ≡ m) ⊎ Contains rest m
    go (zero, low, same) = inl same
    go (suc k, low, same) = inr (k, omega arith, same)

-- the first may be passed that has crashed, or has reached the version
pub one_passed : (size : ℕ) (past : Past) (at : At) (task now : SettleTask) (n : NodeNo) (rest : List NodeNo) → task.left.items ≡ n ∷ rest → now.left.items ≡ rest → now.version ≡ task.version
    → (NodeSurvives past at n.0 → task.version.0 ≤ version_of n.0 past) → IsSettling size past at task → IsSettling size past at now
one_passed size past at task now n rest is left same passed s = record {
  started = s.started ∙ ap (λ (v : Version). Some (Settling v)) (sym same);
  is_open = s.is_open;
  left = subst (λ (x : List NodeNo × Version). All (IsLeft size past at x.1.0) x.0) (λ i. (sym left i, sym same i))
      (All-rest (IsLeft size past at task.version.0) n rest task.left.items is s.left);
  ascending = subst (AllPairs (λ (a b : NodeNo). a.0 < b.0)) (sym left) (rest_ascends (subst (AllPairs (λ (a b : NodeNo). a.0 < b.0)) is s.ascending));
  reached = λ m node replica survives. ⊎_elim
      (λ (has : Contains task.left.items m). ⊎_elim
      (λ (first : n ≡ m). inr (reach first survives))
      (λ (later : Contains rest m). inl (subst (λ (ys : List NodeNo). Contains ys m) (sym left) later)) (in_rest task.left.items n m rest is has))
      (λ (high : task.version.0 ≤ version_of m.0 past). inr (subst (λ (v : Version). v.0 ≤ version_of m.0 past) (sym same) high)) (s.reached m node replica survives);
}
  where
    rest_ascends : AllPairs (λ (a b : NodeNo). a.0 < b.0) (n ∷ rest) → AllPairs (λ (a b : NodeNo). a.0 < b.0) rest
    rest_ascends all = λ i j d l h. all (suc i) (suc j) d (omega arith) (omega arith)

    reach : {m : NodeNo} → n ≡ m → NodeSurvives past at m.0 → now.version.0 ≤ version_of m.0 past
    reach {m = m} first survives =
        subst (λ (v : Version). v.0 ≤ version_of m.0 past) (sym same)
        (subst (λ (k : NodeNo). task.version.0 ≤ version_of k.0 past) first (passed (subst (λ (k : NodeNo). NodeSurvives past at k.0) (sym first) survives)))

-- where none is left the settle may end
pub none_left : (size : ℕ) (past : Past) (at : At) (task : SettleTask) → SourceSurvives past at → task.left.items ≡ [] → IsLineWhole size past at → IsSettling size past at task → MaySettle size past at task.version
none_left size past at task source is whole s = record {
  started = s.started;
  source = source;
  whole = whole;
  reached = λ n node replica survives. ⊎_elim
      (λ (has : Contains task.left.items (record { 0 = n })). nowhere (record { 0 = n }) (subst (λ (ys : List NodeNo). Contains ys (record { 0 = n })) is has))
      (λ (high : task.version.0 ≤ version_of n past). high) (s.reached (record { 0 = n }) node replica survives);
}
  where
    nowhere : {X : Type 0} (m : NodeNo) → Contains [] m → X
    nowhere m (k, low, same) = absurd (omega arith)

-- ---- the start

-- a settle that has started just now waits for all replicas
pub settle_started : (size : ℕ) (past : Past) (at : At) (v : Version) (task : SettleTask) → task.version ≡ v → AreReplicas size past task.left.items
    → IsSettling size (record { at = at; event = Settling v } ∷ past) at task
settle_started size past at v task same are = record {
  started = ap (λ (b : Bool). if b then Some (Settling v) else start_entry at past) here ∙ ap (λ (w : Version). Some (Settling w)) (sym same);
  is_open = opens (same_at at at) here;
  left = λ i d h. let m = are.each i d h in is_left _ m.0 m.1;
  ascending = are.ascending;
  reached = λ n node replica survives. inl (are.all n node (subst (λ (b : Bool). IsReplica (if b then past else before_start at past) n.0) here replica));
}
  where
    here : same_at at at ≡ true
    here = same_at_self at

    opens : (b : Bool) → b ≡ true → (if b then begun_by (Settling v) (length past) (length (operations_of_generation past)) (open_line at past) else open_line at past) ≢ None
    opens true is none = absurd (cc)
    opens false is none = absurd (true≢false (sym is))

    is_left : (n : NodeNo) → IsNode size n.0 → IsReplica past n.0 → IsLeft size (record { at = at; event = Settling v } ∷ past) at task.version.0 n
    is_left n node replica = record {
      node = node;
      replica = subst (λ (b : Bool). IsReplica (if b then past else before_start at past) n.0) (sym here) replica;
      ordered = λ survives. inl (subst (λ (b : Bool). (if b then 0 else highest_switched at past) < n.0) (sym here) (let one : 1 ≤ n.0 = node.0 in omega arith));
    }

-- the same in the terms of a call
pub settle_begun : (r now : Run) (ended : Bool) (b : Sheet) (at : At) (v : Version) (task : SettleTask) → {left : Rest} → record { ended = ended; nodes = b.nodes; log = b.log; rest = left } ≡ r → IsNow r now (shown at (Settling v) ∷ r.log)
    → task.version ≡ v → AreReplicas b.nodes (printed b.log) task.left.items → IsSettling now.nodes (printed now.log) at task
settle_begun r now ended b at v task view is same are =
    subst (λ (x : ℕ × Log). IsSettling x.0 (printed x.1) at task) (λ i. (sym is.nodes i, sym is.log i))
    (settle_started r.nodes (printed r.log) at v task same (subst (λ (x : Run). AreReplicas x.nodes (printed x.log) task.left.items) view are))

-- the first that is left is the least
pub first_least : (n : NodeNo) (rest : List NodeNo) → AllPairs (λ a b. a.0 < b.0) (n ∷ rest) → All (λ m. n.0 ≤ m.0) (n ∷ rest)
first_least n rest ascends zero d h = omega arith
first_least n rest ascends (suc k) d h = let above : n.0 < _ = ascends 0 (suc k) d (omega arith) h in omega arith

-- ---- in the terms of a call

-- the first of a list, and the others
pub first_is : (items xs : List NodeNo) (o : Option NodeNo) (n : NodeNo) → items ≡ xs → o ≡ slice_get items 0 → o ≡ Some n → xs ≡ n ∷ drop 1 xs
first_is items xs o n same first is = go xs (sym (ap (λ (ys : List NodeNo). slice_get ys 0) same) ∙ (sym first ∙ is))
  where
    go : (xs : List NodeNo) → slice_get xs 0 ≡ Some n → xs ≡ n ∷ drop 1 xs
    go [] got = absurd (cc)
    go (x ∷ rest) got = let here : x ≡ n = cc in ap (λ (y : NodeNo). y ∷ rest) here

pub none_is : (items xs : List NodeNo) (o : Option NodeNo) → items ≡ xs → o ≡ slice_get items 0 → o ≡ None → xs ≡ []
none_is items xs o same first is = go xs (sym (ap (λ (ys : List NodeNo). slice_get ys 0) same) ∙ (sym first ∙ is))
  where
    go : (xs : List NodeNo) → slice_get xs 0 ≡ None → xs ≡ []
    go [] got = refl
    go (x ∷ rest) got = absurd (cc)

pub waits_at : (r : Run) (ended : Bool) (b : Sheet) (at : At) (task : SettleTask) (n : NodeNo) (alive : Bool) (version : ℕ) → {left : Rest} → record { ended = ended; nodes = b.nodes; log = b.log; rest = left } ≡ r → IsLegalPast b.nodes (printed b.log)
    → SourceSurvives (printed r.log) at → task.left.items ≡ n ∷ drop 1 task.left.items → alive ≡ (crashes n.0 (printed b.log) == crashes n.0 (before_start at (printed b.log))) → alive ≡ true
    → version ≡ version_of n.0 (printed b.log) → version < task.version.0 → IsSettling r.nodes (printed r.log) at task → WaitsFor r.nodes (printed r.log) at task.version.0 n
waits_at r ended b at task n alive version view legal source is tested lives read behind s =
    let low : version_of n.0 (printed b.log) < task.version.0 = omega (arith, read) in
    first_waits r.nodes (printed r.log) at task n (drop 1 task.left.items) (subst (λ (x : Run). IsLegalPast x.nodes (printed x.log)) view legal) source is
    (past_has (λ p. (crashes n.0 p == crashes n.0 (before_start at p)) ≡ true) r ended b view (sym tested ∙ lives))
    (past_has (λ p. version_of n.0 p < task.version.0) r ended b view low) s

-- one that has reached the version may be passed, and one that has crashed
pub reached_at : (r : Run) (ended : Bool) (b : Sheet) (at : At) (v version : ℕ) (n : NodeNo) → {left : Rest} → record { ended = ended; nodes = b.nodes; log = b.log; rest = left } ≡ r → version ≡ version_of n.0 (printed b.log) → v ≤ version
    → NodeSurvives (printed r.log) at n.0 → v ≤ version_of n.0 (printed r.log)
reached_at r ended b at v version n view read high survives = past_has (λ p. v ≤ version_of n.0 p) r ended b view (let up : v ≤ version_of n.0 (printed b.log) = omega (arith, read) in up)

pub crashed_at : (r : Run) (ended : Bool) (b : Sheet) (at : At) (v : ℕ) (n : NodeNo) (alive : Bool) → {left : Rest} → record { ended = ended; nodes = b.nodes; log = b.log; rest = left } ≡ r
    → alive ≡ (crashes n.0 (printed b.log) == crashes n.0 (before_start at (printed b.log))) → alive ≡ false → NodeSurvives (printed r.log) at n.0 → v ≤ version_of n.0 (printed r.log)
crashed_at r ended b at v n alive view tested dead survives =
    let other : (crashes n.0 (printed r.log) == crashes n.0 (before_start at (printed r.log))) ≡ false = past_has (λ p. (crashes n.0 p == crashes n.0 (before_start at p)) ≡ false) r ended b view (sym tested ∙ dead) in
    absurd (true≢false (sym (eq-eqb (crashes n.0 (printed r.log)) (crashes n.0 (before_start at (printed r.log))) survives.node) ∙ other))
