-- What ends with a node that crashes.
use Rattle.std.proofs.Common.{◌≡◌, ◌≤◌, ◌+◌, ◌-◌, ◌==◌, ℕ, zero, suc, Bool, true, false, true≢false, nat_le, List, [], ◌∷◌, Some, None, Option, Vec, Global, Result, Ok, Err, length, set, get_or, refl, ap, ◌∙◌, sym, subst, arith, if◌then◌else◌}
use Rattle.std.specs.Prelude.{OnOk, IfSome, IsSomeAnd}
use Rattle.std.specs.Option.{option_map}
use Rattle.std.proofs.lemmas.Bool.{eqb-true, eq-eqb}
use Rattle.std.proofs.lemmas.Bool.Decides.{nat_tests}
use Rattle.nrt_base.specs.declared.numbers.NodeNo.{NodeNo}
use Rattle.disk_model.specs.Disk.{Cells}
use Rattle.history_rules.specs.Nodes.{is_at}
use Rattle.copy_state.specs.declared.state.CopyState.{CopyState}
use Rattle.index_primary.specs.declared.parts.PrimaryParts.{PrimaryParts}
use Rattle.index_primary.specs.declared.states.Out.{Out}
use Rattle.index_primary.specs.States.{is_out, out_of, states_without}
use Rattle.cluster_nodes.specs.declared.held.HeldTicket.{HeldTicket}
use Rattle.cluster_nodes.specs.declared.nodes.Node.{Node}
use Rattle.cluster_nodes.specs.declared.nodes.Node.TheVariants.{Primary, Replica, Down}
use Rattle.cluster_nodes.specs.declared.nodes.NodePlace.{NodePlace}
use Rattle.cluster_nodes.specs.Places.{place_of, IsSlot, HasPrimary}
use Rattle.cluster_nodes.specs.Outs.{want_at}
use Rattle.cluster_nodes.specs.JobChanges.{given_back, AltersStates}
use Rattle.cluster_nodes.specs.JobPlaces.{MovesOne}
use Rattle.cluster_nodes.specs.Ends.{StopsNodeJob, StopsPlaceJob, TakesBack, CanTakeBack, TakesBackIn, Outlives, PlaceOutlives, EndsWith}
use Rattle.cluster_nodes.proofs.Stepping.{alters_none}
use Rattle.cluster_nodes.proofs.Slots.{place_set}
use Rattle.cluster_nodes.proofs.Taking.{moved_one}

-- no copy state was begun with
pub no_state : (o : Option CopyState) (state : Option Out) → ((s : CopyState) → o ≡ Some s → ⊥) → option_map out_of o ≡ state → state ≡ None
no_state None state none is = sym is
no_state (Some s) state none is = absurd (none s refl)

module _ {D : Type 0} (cells : D → Cells) where
  -- ---- all places

  -- the jobs of the first places are stopped, and the others are as before
  pub record StopsUpTo (old new : List (Option (NodePlace D))) (k : ℕ) : Type 0 where
    pub count : length new ≡ length old
    pub stopped : (m : ℕ) → m ≤ k → StopsPlaceJob cells (place_of old m) (place_of new m)
    pub still : (m : ℕ) → suc k ≤ m → place_of new m ≡ place_of old m

  pub none_stopped : (places : List (Option (NodePlace D))) → StopsUpTo places places 0
  none_stopped places = record { count = refl; stopped = λ m low. nothing m low; still = λ m above. refl }
    where
      nothing : (m : ℕ) → m ≤ 0 → StopsPlaceJob cells (place_of places m) (place_of places m)
      nothing zero low = refl
      nothing (suc m) low = absurd (omega (arith, low))

  pub one_stopped : (old mid new : List (Option (NodePlace D))) (k : ℕ) → StopsUpTo old mid k → length new ≡ length mid → StopsPlaceJob cells (place_of mid (k + 1)) (place_of new (k + 1))
      → ((m : ℕ) → ((k + 1) == m) ≡ false → place_of new m ≡ place_of mid m) → StopsUpTo old new (k + 1)
  one_stopped old mid new k was count here others = record {
    count = count ∙ was.count;
    stopped = λ m low. tests m low ((k + 1) == m) refl;
    still = λ m above. others m (let up : suc (k + 1) ≤ m = above in grind (arith, nat_tests)) ∙ was.still m (omega (arith, above));
  }
    where
      tests : (m : ℕ) → m ≤ k + 1 → (b : Bool) → ((k + 1) == m) ≡ b → StopsPlaceJob cells (place_of old m) (place_of new m)
      tests m low true is =
          let same : k + 1 ≡ m = eqb-true (k + 1) m is in
          subst (λ (j : ℕ). StopsPlaceJob cells (place_of old j) (place_of new j)) same
          (subst (λ (o : Option (NodePlace D)). StopsPlaceJob cells o (place_of new (k + 1))) (was.still (k + 1) (omega arith)) here)
      tests m low false apart =
          subst (λ (o : Option (NodePlace D)). StopsPlaceJob cells (place_of old m) o) (sym (others m apart)) (was.stopped m (let up : m ≤ k + 1 = low in let other : ((k + 1) == m) ≡ false = apart in grind (arith, nat_tests)))

  -- no place is above the last
  past_last : (places : List (Option (NodePlace D))) (m : ℕ) → suc (length places) ≤ m → place_of places m ≡ None
  past_last places zero above = refl
  past_last [] (suc m) above = refl
  past_last (x ∷ places) (suc zero) above = absurd (omega (arith, above))
  past_last (x ∷ places) (suc (suc m)) above = past_last places (suc m) (omega (arith, above))

  pub all_stopped : (old new : List (Option (NodePlace D))) (k : ℕ) → StopsUpTo old new k → k ≡ length old → (m : ℕ) → StopsPlaceJob cells (place_of old m) (place_of new m)
  all_stopped old new k was is m = tests (nat_le m k) refl
    where
      tests : (b : Bool) → nat_le m k ≡ b → StopsPlaceJob cells (place_of old m) (place_of new m)
      tests true low = was.stopped m (let l : nat_le m k ≡ true = low in grind (arith, nat_tests))
      tests false above =
          let up : suc k ≤ m = (let l : nat_le m k ≡ false = above in grind (arith, nat_tests)) in
          let none : place_of old m ≡ None = past_last old m (omega (arith, up, is)) in
          subst (λ (o : Option (NodePlace D)). StopsPlaceJob cells o (place_of new m)) (sym none) (was.still m up ∙ none)

  -- the node is the primary
  abbrev IsThePrimary : Node D → Type 0
  IsThePrimary (Primary p) = Unit {0}
  IsThePrimary (Replica r) = ⊥
  IsThePrimary (Down d) = ⊥

  is_primary : (x : NodePlace D) (z : Node D) → x.node ≡ z → HasPrimary (Some x) → IsThePrimary z
  is_primary x z is has = by z (subst (λ (y : Node D). HasPrimary (Some (record { node = y; held = x.held }))) is has)
    where
      by : (y : Node D) → HasPrimary (Some (record { node = y; held = x.held })) → IsThePrimary y
      by (Primary p) has = tt
      by (Replica r) has = absurd has
      by (Down d) has = absurd has

  -- ---- the primary crashes

  primary_same : (o new : Option (NodePlace D)) → HasPrimary o → StopsPlaceJob cells o new → new ≡ o
  primary_same None new has is = absurd has
  primary_same (Some x) None has is = absurd is
  primary_same (Some x) (Some y) has is = node x.node refl (is_primary x x.node refl has) is.1
    where
      node : (z : Node D) → x.node ≡ z → IsThePrimary z → StopsNodeJob cells z y.node → ◌≡◌ {A = Option (NodePlace D)} (Some y) (Some x)
      node (Primary p) at has same = λ i. Some (record { node = (same ∙ sym at) i; held = is.0 i })
      node (Replica r) at has same = absurd has
      node (Down d) at has same = absurd has

  -- a job that is stopped outlives the primary
  stopped_outlives : (this : Bool) (state : Option Out) (o new : Option (NodePlace D)) → StopsPlaceJob cells o new → PlaceOutlives cells true this state o new
  stopped_outlives this state None new is = is
  stopped_outlives this state (Some x) None is = is
  stopped_outlives this state (Some x) (Some y) is = record { held = is.0; node = is.1 }

  pub primary_ends : (p n : NodeNo) (old new : List (Option (NodePlace D))) → p.0 ≡ n.0 → HasPrimary (place_of old p.0) → length new ≡ length old → ((m : ℕ) → StopsPlaceJob cells (place_of old m) (place_of new m))
      → EndsWith cells (Some p) n.0 old new
  primary_ends p n old new is has count each = record {
    count = count;
    here = primary_same (place_of old n.0) (place_of new n.0) (subst (λ (k : ℕ). HasPrimary (place_of old k)) is has) (each n.0);
    others = λ m apart. subst (λ (b : Bool). PlaceOutlives cells b (p.0 == m) (want_at (place_of old n.0)) (place_of old m) (place_of new m)) (sym (eq-eqb p.0 n.0 is))
        (stopped_outlives (p.0 == m) (want_at (place_of old n.0)) (place_of old m) (place_of new m) (each m));
  }

  -- ---- a replica crashes, or nobody is primary

  same_outlives : (state : Option Out) (o new : Option (NodePlace D)) → new ≡ o → PlaceOutlives cells false false state o new
  same_outlives state None new is = is
  same_outlives state (Some x) new is = subst (λ (o : Option (NodePlace D)). IsSomeAnd o (Outlives cells false false state x)) (sym is) (record { held = refl; node = refl })

  pub none_ends : (n : ℕ) (places : List (Option (NodePlace D))) → EndsWith cells None n places places
  none_ends n places = record { count = refl; here = refl; others = λ m apart. same_outlives (want_at (place_of places n)) (place_of places m) (place_of places m) refl }

  pub replica_ends : (p n : NodeNo) (old new : List (Option (NodePlace D))) → (p.0 == n.0) ≡ false → TakesBackIn cells p.0 n.0 old new → EndsWith cells (Some p) n.0 old new
  replica_ends p n old new apart takes = record {
    count = takes.moves.count;
    here = takes.moves.there n.0 ∙ ap (λ (t : Bool). if t then Some left else place_of old n.0) apart;
    others = λ m away. subst (λ (b : Bool). PlaceOutlives cells b (p.0 == m) state (place_of old m) (place_of new m)) (sym apart) (other m (p.0 == m) refl);
  }
    where
      state : Option Out
      state = want_at (place_of old n.0)

      left : NodePlace D
      left = record { node = Primary takes.primary; held = takes.at.held }

      mine : PlaceOutlives cells false true (want_at (place_of old n.0)) (Some (record { node = Primary takes.at.parts; held = takes.at.held })) (Some (record { node = Primary takes.primary; held = takes.at.held }))
      mine = record { held = refl; node = takes.back }

      other : (m : ℕ) (b : Bool) → (p.0 == m) ≡ b → PlaceOutlives cells false b (want_at (place_of old n.0)) (place_of old m) (place_of new m)
      other m true here =
          subst (λ (x : Option (NodePlace D) × Option (NodePlace D)). PlaceOutlives cells false true (want_at (place_of old n.0)) x.0 x.1)
          (λ i. ((sym takes.at.there ∙ ap (place_of old) (eqb-true p.0 m here)) i, sym (takes.moves.there m ∙ ap (λ (t : Bool). if t then Some left else place_of old m) here) i)) mine
      other m false far = same_outlives (want_at (place_of old n.0)) (place_of old m) (place_of new m) (takes.moves.there m ∙ ap (λ (t : Bool). if t then Some left else place_of old m) far)

  -- in the terms of a call
  pub replica_end : {E : Type 0} (result : Result Unit E) (p n : NodeNo) (old new : List (Option (NodePlace D))) → (p.0 == n.0) ≡ false → OnOk result (TakesBackIn cells p.0 n.0 old new) → OnOk result (EndsWith cells (Some p) n.0 old new)
  replica_end (Ok x) p n old new apart takes = replica_ends p n old new apart takes
  replica_end (Err e) p n old new apart takes = tt

  -- ---- the state is taken back

  -- no job, no state
  pub nothing_back : (p n : ℕ) (places : List (Option (NodePlace D))) → CanTakeBack p n places → want_at (place_of places n) ≡ None → TakesBackIn cells p n places places
  nothing_back p n places can none = some (place_of places p) refl can.primary
    where
      node : (x : NodePlace D) (z : Node D) → x.node ≡ z → place_of places p ≡ Some x → IsThePrimary z → TakesBackIn cells p n places places
      node x (Primary q) is there has = record {
        at = record { slot = can.slot; parts = q; held = x.held; there = at };
        primary = q;
        moves = record { count = refl; there = λ m. tests m (p == m) refl };
        back = record { alters = alters_none cells q; states = ap (λ (o : Option Out). given_back o q.states) (sym none) };
      }
        where
          at : place_of places p ≡ Some (record { node = Primary q; held = x.held })
          at = there ∙ (λ i. Some (record { node = is i; held = x.held }))

          tests : (m : ℕ) (b : Bool) → (p == m) ≡ b → place_of places m ≡ (if b then Some (record { node = Primary q; held = x.held }) else place_of places m)
          tests m true here = ap (place_of places) (sym (eqb-true p m here)) ∙ at
          tests m false away = refl
      node x (Replica r) is there has = absurd has
      node x (Down d) is there has = absurd has

      some : (o : Option (NodePlace D)) → place_of places p ≡ o → HasPrimary o → TakesBackIn cells p n places places
      some None is has = absurd has
      some (Some x) is has = node x x.node refl is (is_primary x x.node refl has)

  pub state_back : (p n : ℕ) (old mid new : List (Option (NodePlace D))) (q s : PrimaryParts D) (held : Vec HeldTicket Global) (state : CopyState) → IsSlot old p → place_of old p ≡ Some (record { node = Primary q; held = held })
      → length mid ≡ length old → ((m : ℕ) → place_of mid m ≡ (if p == m then None else place_of old m)) → length new ≡ length mid
      → ((m : ℕ) → place_of new m ≡ (if p == m then Some (record { node = Primary s; held = held }) else place_of mid m))
      → option_map out_of (Some state) ≡ want_at (place_of old n) → AltersStates cells q s → s.states ≡ states_without (out_of state) q.states → TakesBackIn cells p n old new
  state_back p n old mid new q s held state slot there cm tm cn tn want alters states = record {
    at = record { slot = slot; parts = q; held = held; there = there };
    primary = s;
    moves = moved_one old mid new p (record { node = Primary s; held = held }) cm tm cn tn;
    back = record { alters = alters; states = states ∙ ap (λ (o : Option Out). given_back o q.states) want };
  }

  -- what is out
  pub state_out : (p n : ℕ) (places : List (Option (NodePlace D))) (q : PrimaryParts D) (held : Vec HeldTicket Global) (state : CopyState) → CanTakeBack p n places → place_of places p ≡ Some (record { node = Primary q; held = held })
      → option_map out_of (Some state) ≡ want_at (place_of places n) → is_out (out_of state) q.states ≡ true
  state_out p n places q held state can there want = subst (λ (o : Option Out). IfSome o (λ s. is_out s q.states ≡ true)) (sym want) (can.out q held there)
