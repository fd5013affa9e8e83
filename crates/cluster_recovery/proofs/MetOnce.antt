-- What the log shows of the faults that disks met where one node was called: those of its own disk.
use Rattle.std.proofs.Common.{◌≡◌, ◌≤◌, ◌<◌, ◌+◌, ◌==◌, ◌&&◌, ◌||◌, ℕ, suc, Bool, true, false, List, [], ◌∷◌, Some, Option, map, length, nat_lt, refl, ap, ◌∙◌, sym, arith, if◌then◌else◌}
use Rattle.std.specs.List.{slice_get}
use Rattle.std.proofs.lemmas.Bool.{eqb-true, or_parts}
use Rattle.std.proofs.lemmas.Bool.Decides.{nat_tests}
use Rattle.nrt_base.specs.declared.numbers.At.{At}
use Rattle.nrt_base.specs.declared.numbers.NodeNo.{NodeNo}
use Rattle.disk_model.specs.Faults.{Plans}
use Rattle.history_rules.specs.declared.cause.FaultKind.TheVariants.{Disk, Stop}
use Rattle.history_tables.proofs.RowLemmas.{by_test}
use Rattle.history_book.specs.Log.{Log}
use Rattle.cluster_nodes.specs.declared.nodes.NodePlace.{NodePlace}
use Rattle.cluster_nodes.specs.Places.{unwrapped, place_of, IsSlot}
use Rattle.cluster_nodes.specs.JobPlaces.{MovesOne}
use Rattle.cluster_state.specs.Run.{Run}
use Rattle.cluster_state.specs.PlansIn.{plans_in}
use Rattle.cluster_state.specs.Met.{failures_by_plan, fault_on, fault_if, with_met, has_risen, met_in}
use Rattle.cluster_state.specs.Lives.{met_at}
use Rattle.cluster_state.proofs.FileFrames.{this_place}
use Rattle.cluster_state.proofs.MetStands.{met_plans}

not_below : (k : ℕ) → nat_lt k k ≡ false
not_below k = grind (arith, nat_tests)

-- a disk that met what it had met shows nothing
idle_at : (at : At) (k : ℕ) (o w : ℕ × ℕ) (log : Log) → w ≡ o → fault_if false at k Stop o.1 w.1 (fault_if false at k Disk o.0 w.0 log) ≡ log
idle_at at k o w log same =
    ap (λ (z : ℕ × ℕ). fault_if false at k Stop o.1 z.1 (fault_if false at k Disk o.0 z.0 log)) same
    ∙ λ i. fault_on (not_below o.1 i) false at k Stop (fault_on (not_below o.0 i) false at k Disk log)

idle_rose : (o w : ℕ × ℕ) → w ≡ o → (nat_lt o.0 w.0 || nat_lt o.1 w.1) ≡ false
idle_rose o w same = ap (λ (z : ℕ × ℕ). nat_lt o.0 z.0 || nat_lt o.1 z.1) same ∙ λ i. not_below o.0 i || not_below o.1 i

none_and : (b : Bool) → ((b && false) || false) ≡ false
none_and true = refl
none_and false = refl

module _ {D : Type 0} (planned : D → Plans) (n : ℕ) (x : Option (NodePlace D)) where
  -- these places, from this number on, are as those but for the node's
  abbrev Moved : ℕ → List (Option (NodePlace D)) → List (Option (NodePlace D)) → Type 0
  Moved k old new = (j : ℕ) → unwrapped (slice_get new j) ≡ (if n == k + j then x else unwrapped (slice_get old j))

  moved_next : (k : ℕ) (o w : Option (NodePlace D)) (old new : List (Option (NodePlace D))) → Moved k (o ∷ old) (w ∷ new) → Moved (k + 1) old new
  moved_next k o w old new moved j =
      moved (suc j) ∙ ap (λ (m : ℕ). if n == m then x else unwrapped (slice_get old j)) (let same : k + suc j ≡ (k + 1) + j = omega arith in same)

  -- the first of them
  head_far : (k : ℕ) (o w : Option (NodePlace D)) (old new : List (Option (NodePlace D))) → (n == k) ≡ false → Moved k (o ∷ old) (w ∷ new) → w ≡ o
  head_far k o w old new far moved = moved 0 ∙ (ap (λ (m : ℕ). if n == m then x else o) (let same : k + 0 ≡ k = omega arith in same) ∙ ap (λ (b : Bool). if b then x else o) far)

  head_here : (k : ℕ) (o w : Option (NodePlace D)) (old new : List (Option (NodePlace D))) → (n == k) ≡ true → Moved k (o ∷ old) (w ∷ new) → w ≡ x
  head_here k o w old new here moved = moved 0 ∙ (ap (λ (m : ℕ). if n == m then x else o) (let same : k + 0 ≡ k = omega arith in same) ∙ ap (λ (b : Bool). if b then x else o) here)

  far_of : (k : ℕ) → n < k → (n == k) ≡ false
  far_of k low = grind (arith, nat_tests, low)

  -- behind the node's place nothing was met
  pub record MeetsNone (at : At) (k : ℕ) (old new : List (Option (NodePlace D))) : Type 0 where
    pub log : (log : Log) → with_met false at k (map (met_in planned) old) (map (met_in planned) new) log ≡ log
    pub rose : has_risen n k (map (met_in planned) old) (map (met_in planned) new) ≡ false

  met_after : (at : At) (k : ℕ) (old new : List (Option (NodePlace D))) → n < k → Moved k old new → MeetsNone at k old new
  met_after at k [] new low moved = record { log = λ log. refl; rose = refl }
  met_after at k (o ∷ old) [] low moved = record { log = λ log. refl; rose = refl }
  met_after at k (o ∷ old) (w ∷ new) low moved =
      let same : met_in planned w ≡ met_in planned o = ap (met_in planned) (head_far k o w old new (far_of k low) moved) in
      let rest = met_after at (k + 1) old new (omega (arith, low)) (moved_next k o w old new moved) in
      record {
        log = λ log. ap (λ (l : Log). with_met false at (k + 1) (map (met_in planned) old) (map (met_in planned) new) l) (idle_at at k (met_in planned o) (met_in planned w) log same) ∙ rest.log log;
        rose = (λ i. ((n == k) && idle_rose (met_in planned o) (met_in planned w) same i) || rest.rose i) ∙ none_and (n == k);
      }

  -- with it just its own faults were
  pub record MeetsOwn (at : At) (k : ℕ) (y : Option (NodePlace D)) (old new : List (Option (NodePlace D))) : Type 0 where
    pub log : (log : Log) → with_met false at k (map (met_in planned) old) (map (met_in planned) new) log ≡ met_at at n (met_in planned y) (met_in planned x) log
    pub rose : has_risen n k (map (met_in planned) old) (map (met_in planned) new) ≡ (nat_lt (met_in planned y).0 (met_in planned x).0 || nat_lt (met_in planned y).1 (met_in planned x).1)

  abbrev Was : ℕ → Option (NodePlace D) → List (Option (NodePlace D)) → Type 0
  Was k y old = (j : ℕ) → k + j ≡ n → unwrapped (slice_get old j) ≡ y

  pub met_own : (at : At) (k : ℕ) (y : Option (NodePlace D)) (old new : List (Option (NodePlace D))) → k ≤ n → n < k + length old → length new ≡ length old → Moved k old new → Was k y old → MeetsOwn at k y old new
  met_own at k y [] new low within count moved was = absurd (omega (arith, low, within))
  met_own at k y (o ∷ old) [] low within count moved was = absurd (omega (arith, count))
  met_own at k y (o ∷ old) (w ∷ new) low within count moved was =
      by_test (n == k) (λ b. (n == k) ≡ b → MeetsOwn at k y (o ∷ old) (w ∷ new)) here
      (apart (λ (far : (n == k) ≡ false). met_own at (k + 1) y old new (later far) (omega (arith, within)) (omega (arith, count)) next
      (λ j at_n. was (suc j) ((let shift : k + suc j ≡ (k + 1) + j = omega arith in shift) ∙ at_n)))) refl
    where
      next : Moved (k + 1) old new
      next = moved_next k o w old new moved

      here : (n == k) ≡ true → (n == k) ≡ true → MeetsOwn at k y (o ∷ old) (w ∷ new)
      here is again =
          let same : k ≡ n = sym (eqb-true n k is) in
          let before : o ≡ y = was 0 (let first : k + 0 ≡ k = omega arith in first ∙ same) in
          let after : w ≡ x = head_here k o w old new is moved in
          let rest = met_after at (k + 1) old new (let low : n < k + 1 = omega (arith, same) in low) next in
          record {
            log = λ log. rest.log (fault_if false at k Stop (met_in planned o).1 (met_in planned w).1 (fault_if false at k Disk (met_in planned o).0 (met_in planned w).0 log))
                ∙ λ i. met_at at (same i) (met_in planned (before i)) (met_in planned (after i)) log;
            rose = (λ i. (is i && (nat_lt (met_in planned (before i)).0 (met_in planned (after i)).0 || nat_lt (met_in planned (before i)).1 (met_in planned (after i)).1)) || rest.rose i)
                ∙ or_none (nat_lt (met_in planned y).0 (met_in planned x).0 || nat_lt (met_in planned y).1 (met_in planned x).1);
          }
        where
          or_none : (b : Bool) → (b || false) ≡ b
          or_none true = refl
          or_none false = refl

      later : (n == k) ≡ false → k + 1 ≤ n
      later far = grind (arith, nat_tests, far, low)

      apart : ((n == k) ≡ false → MeetsOwn at (k + 1) y old new) → (n == k) ≡ false → (n == k) ≡ false → MeetsOwn at k y (o ∷ old) (w ∷ new)
      apart behind is again =
          let same : met_in planned w ≡ met_in planned o = ap (met_in planned) (head_far k o w old new is moved) in
          let rest = behind is in
          record {
            log = λ log. ap (λ (l : Log). with_met false at (k + 1) (map (met_in planned) old) (map (met_in planned) new) l) (idle_at at k (met_in planned o) (met_in planned w) log same) ∙ rest.log log;
            rose = (λ i. (is i && (nat_lt (met_in planned o).0 (met_in planned w).0 || nat_lt (met_in planned o).1 (met_in planned w).1)) || has_risen n (k + 1) (map (met_in planned) old) (map (met_in planned) new)) ∙ rest.rose;
          }

-- where neither number rose nothing stands in front
pub none_at : (at : At) (n : ℕ) (o w : ℕ × ℕ) (log : Log) → (nat_lt o.0 w.0 || nat_lt o.1 w.1) ≡ false → met_at at n o w log ≡ log
none_at at n o w log none =
    let low = or_parts (nat_lt o.0 w.0) (nat_lt o.1 w.1) none in
    λ i. fault_on (low.1 i) false at n Stop (fault_on (low.0 i) false at n Disk log)

-- ---- in the terms of a call

module _ {D : Type 0} (planned : D → Plans) (at : At) (n : NodeNo) (x : NodePlace D) (old new : List (Option (NodePlace D))) (slot : IsSlot old n.0) (moves : MovesOne n.0 x old new) (before now : ℕ × ℕ)
    (was : before ≡ met_in planned (place_of old n.0)) (is : now ≡ met_in planned (place_of new n.0)) where
  own : MeetsOwn planned n.0 (Some x) at 1 (place_of old n.0) old new
  own =
      met_own planned n.0 (Some x) at 1 (place_of old n.0) old new slot.0 (let low = slot.1 in omega (arith, low)) moves.count
      (λ j. moves.there (suc j) ∙ ap (λ (m : ℕ). if n.0 == m then Some x else place_of old (suc j)) (let same : suc j ≡ 1 + j = omega arith in same))
      (λ j at_n. ap (place_of old) ((let same : suc j ≡ 1 + j = omega arith in same) ∙ at_n))

  here : now ≡ met_in planned (Some x)
  here = is ∙ ap (met_in planned) (this_place n.0 x old new moves)

  pub own_log : (log : Log) → with_met false at 1 (map (met_in planned) old) (map (met_in planned) new) log ≡ met_at at n.0 before now log
  own_log log = own.log log ∙ λ i. met_at at n.0 (sym was i) (sym here i) log

  own_rose : has_risen n.0 1 (map (met_in planned) old) (map (met_in planned) new) ≡ (nat_lt before.0 now.0 || nat_lt before.1 now.1)
  own_rose = own.rose ∙ λ i. nat_lt (sym was i).0 (sym here i).0 || nat_lt (sym was i).1 (sym here i).1

  pub own_failed : (r : Run) → r.rest.plans ≡ plans_in planned old → has_risen n.0 1 (map failures_by_plan r.rest.plans) (map failures_by_plan (plans_in planned new)) ≡ (nat_lt before.0 now.0 || nat_lt before.1 now.1)
  own_failed r had =
      let olds : map failures_by_plan r.rest.plans ≡ map (met_in planned) old = ap (λ (l : List Plans). map failures_by_plan l) had ∙ sym (met_plans planned old) in
      let news : map failures_by_plan (plans_in planned new) ≡ map (met_in planned) new = sym (met_plans planned new) in
      (λ i. has_risen n.0 1 (olds i) (news i)) ∙ own_rose
