-- A crash once all that ends with it has ended, told as if the node had gone down before the merges ended.
use Rattle.std.proofs.Common.{◌≡◌, ◌≢◌, ◌≤◌, ◌∙◌, ◌==◌, ◌-◌, ℕ, Bool, true, false, true≢false, List, [], Some, None, Option, Vec, Global, Result, Ok, Err, length, set, refl, ap, sym, subst, if◌then◌else◌}
use Rattle.std.specs.Prelude.{IsSomeAnd, OnOk}
use Rattle.std.proofs.lemmas.Bool.{eqb-true, eq-eqb}
use Rattle.std.proofs.lemmas.List.{length-set}
use Rattle.nrt_base.specs.declared.numbers.NodeNo.{NodeNo}
use Rattle.disk_model.specs.Disk.{Cells, HasCrashed}
use Rattle.history_rules.specs.Nodes.{is_at}
use Rattle.merge_tasks.specs.Board.{Board}
use Rattle.merge_tasks.specs.declared.tasks.OpenMerge.{OpenMerge}
use Rattle.cluster_nodes.specs.declared.held.HeldTicket.{HeldTicket}
use Rattle.cluster_nodes.specs.declared.nodes.Node.{Node}
use Rattle.cluster_nodes.specs.declared.nodes.Node.TheVariants.{Primary, Replica, Down}
use Rattle.cluster_nodes.specs.declared.nodes.NodePlace.{NodePlace}
use Rattle.cluster_nodes.specs.Outs.{want_at}
use Rattle.cluster_nodes.specs.Places.{place_of, dir_of, IsSlot, HasPrimary}
use Rattle.cluster_nodes.specs.Ends.{PlaceOutlives, OthersOutlive, CanTakeBack, CanEnd, StopsPlaceJob, TakesBackIn, EndsWith}
use Rattle.cluster_nodes.specs.Lives.{CrashesIn}
use Rattle.cluster_nodes.proofs.EndedJobs.{none_ends, primary_ends, replica_ends}
use Rattle.cluster_nodes.proofs.Slots.{place_set}
use Rattle.cluster_recovery.specs.Falls.{NodeLoses, PlaceLoses, AllLose, Falls, EndsAll}

module _ {D : Type 0} where
  -- the node is down, and the jobs have ended that end with it; no merge has ended yet
  pub record CrashesBefore (cells : D → Cells) (primary : Option NodeNo) (n : ℕ) (old new : List (Option (NodePlace D))) : Type 0 where
    pub place : NodePlace D
    pub there : place_of old n ≡ Some place
    pub dir : D
    pub held : Vec HeldTicket Global
    pub none : held.items ≡ []
    pub crashed : HasCrashed (cells (dir_of place.node)) (cells dir)
    pub count : length new ≡ length old
    pub here : place_of new n ≡ Some (record { node = Down dir; held = held })
    pub others : OthersOutlive cells primary n old new

  -- so it is of some places, of which the merges then end; at the node itself nothing stands otherwise than it does before and behind the call
  pub record DownFirst (cells : D → Cells) (primary : Option NodeNo) (n : ℕ) (board now : Board) (old between new : List (Option (NodePlace D))) : Type 0 where
    pub mid : List (Option (NodePlace D))
    pub crashes : CrashesBefore cells primary n old mid
    pub falls : is_at primary n ≡ true → Falls cells board now mid new
    pub stays : is_at primary n ≡ false → (now ≡ board) × (new ≡ mid)
    pub was : place_of between n ≡ place_of old n
    pub left : place_of new n ≡ place_of mid n

  -- what is so of the node's directory before and behind its crash
  pub left_as : (so : D → D → Type 0) (n : ℕ) (old between new mid : List (Option (NodePlace D))) → place_of between n ≡ place_of old n → place_of new n ≡ place_of mid n
      → IsSomeAnd (place_of between n) (λ x. IsSomeAnd (place_of new n) (λ y. so (dir_of x.node) (dir_of y.node))) → IsSomeAnd (place_of old n) (λ x. IsSomeAnd (place_of mid n) (λ y. so (dir_of x.node) (dir_of y.node)))
  left_as so n old between new mid was left is =
      subst (λ (z : Option (NodePlace D) × Option (NodePlace D)). IsSomeAnd z.0 (λ x. IsSomeAnd z.1 (λ y. so (dir_of x.node) (dir_of y.node)))) (λ i. (was i, left i)) is

module _ {D : Type 0} (cells : D → Cells) where
  -- the places are as many, and the node is in its own
  pub slot_ended : (primary : Option NodeNo) (n : ℕ) (board now : Board) (old new : List (Option (NodePlace D))) → EndsAll cells primary n board now old new → IsSlot old n → IsSlot new n
  slot_ended primary n board now old new ends slot = (slot.0, subst (λ (k : ℕ). n ≤ k) (sym (count (is_at primary n) refl ∙ ends.jobs.count)) slot.1)
    where
      count : (t : Bool) → is_at primary n ≡ t → length new ≡ length ends.mid
      count true e = (ends.falls e).lose.count
      count false e = ap (λ (l : List (Option (NodePlace D))). length l) (ends.stays e).1

  pub there_ended : (primary : Option NodeNo) (n : ℕ) (board now : Board) (old new : List (Option (NodePlace D))) → EndsAll cells primary n board now old new → place_of old n ≢ None → place_of new n ≢ None
  there_ended primary n board now old new ends there none = there (sym ends.here ∙ none)

  -- ---- the node is down

  pub down_first : (primary : Option NodeNo) (n : ℕ) (board now : Board) (old between new : List (Option (NodePlace D))) → IsSlot old n → EndsAll cells primary n board now old between → CrashesIn cells n between new → DownFirst cells primary n board now old between new
  down_first primary n board now old between new slot ends b = by (is_at primary n) refl
    where
      down : NodePlace D
      down = record { node = Down b.dir; held = b.held }

      new_here : place_of new n ≡ Some down
      new_here = b.moves.there n ∙ ap (λ (t : Bool). if t then Some down else place_of between n) (eq-eqb n n refl)

      new_apart : (m : ℕ) → (n == m) ≡ false → place_of new m ≡ place_of between m
      new_apart m apart = b.moves.there m ∙ ap (λ (t : Bool). if t then Some down else place_of between m) apart

      crashes : (mid : List (Option (NodePlace D))) → length mid ≡ length old → place_of mid n ≡ Some down → ((m : ℕ) → (n == m) ≡ false → place_of mid m ≡ place_of ends.mid m) → CrashesBefore cells primary n old mid
      crashes mid count here others = record {
        place = b.place;
        there = sym ends.here ∙ b.there;
        dir = b.dir;
        held = b.held;
        none = b.none;
        crashed = b.crashed;
        count = count;
        here = here;
        others = λ m apart. subst (λ (o : Option (NodePlace D)). PlaceOutlives cells (is_at primary n) (is_at primary m) (want_at (place_of old n)) (place_of old m) o) (sym (others m apart)) (ends.jobs.others m apart);
      }

      by : (t : Bool) → is_at primary n ≡ t → DownFirst cells primary n board now old between new
      by true e = record {
        mid = set ends.mid (n - 1) (Some down);
        crashes = crashes (set ends.mid (n - 1) (Some down)) (length-set ends.mid (n - 1) (Some down) ∙ ends.jobs.count) mid_here mid_apart;
        falls = λ here. record { lose = lose; rows = f.rows; posted = f.posted; counts = f.counts };
        stays = λ away. absurd (true≢false (sym e ∙ away));
        was = ends.here;
        left = new_here ∙ sym mid_here;
      }
        where
          f : Falls cells board now ends.mid between
          f = ends.falls e

          slot_mid : IsSlot ends.mid n
          slot_mid = (slot.0, subst (λ (k : ℕ). n ≤ k) (sym ends.jobs.count) slot.1)

          mid_here : place_of (set ends.mid (n - 1) (Some down)) n ≡ Some down
          mid_here = place_set ends.mid n (Some down) slot_mid n ∙ ap (λ (t : Bool). if t then Some down else place_of ends.mid n) (eq-eqb n n refl)

          mid_apart : (m : ℕ) → (n == m) ≡ false → place_of (set ends.mid (n - 1) (Some down)) m ≡ place_of ends.mid m
          mid_apart m apart = place_set ends.mid n (Some down) slot_mid m ∙ ap (λ (t : Bool). if t then Some down else place_of ends.mid m) apart

          down_itself : PlaceLoses cells n board.rows (Some down) (Some down)
          down_itself = (refl, refl)

          each : (m : ℕ) (t : Bool) → (n == m) ≡ t → PlaceLoses cells m board.rows (place_of (set ends.mid (n - 1) (Some down)) m) (place_of new m)
          each m true here =
              subst (λ (k : ℕ). PlaceLoses cells k board.rows (place_of (set ends.mid (n - 1) (Some down)) k) (place_of new k)) (eqb-true n m here)
              (subst (λ (z : Option (NodePlace D) × Option (NodePlace D)). PlaceLoses cells n board.rows z.0 z.1) (λ i. (sym mid_here i, sym new_here i)) down_itself)
          each m false apart =
              subst (λ (z : Option (NodePlace D) × Option (NodePlace D)). PlaceLoses cells m board.rows z.0 z.1) (λ i. (sym (mid_apart m apart) i, sym (new_apart m apart) i)) (f.lose.each m)

          lose : AllLose cells board.rows (set ends.mid (n - 1) (Some down)) new
          lose = record { count = b.moves.count ∙ (f.lose.count ∙ sym (length-set ends.mid (n - 1) (Some down))); each = λ m. each m (n == m) refl }
      by false e =
          let kept = ends.stays e in
          record {
            mid = new;
            crashes = crashes new (b.moves.count ∙ (ap (λ (l : List (Option (NodePlace D))). length l) kept.1 ∙ ends.jobs.count)) new_here (λ m apart. new_apart m apart ∙ ap (λ (l : List (Option (NodePlace D))). place_of l m) kept.1);
            falls = λ here. absurd (true≢false (sym here ∙ e));
            stays = λ away. (kept.0, refl);
            was = ends.here;
            left = refl;
          }

  -- ---- all that ends

  -- a node that is the primary loses no copy
  primary_keeps : (rows : List OpenMerge) (m : ℕ) (o new : Option (NodePlace D)) → HasPrimary o → PlaceLoses cells m rows o new → new ≡ o
  primary_keeps rows m None new has is = absurd has
  primary_keeps rows m (Some x) None has is = absurd is
  primary_keeps rows m (Some x) (Some y) has is = by x.node y.node x.held y.held has is
    where
      by : (a b : Node D) (held kept : Vec HeldTicket Global) → HasPrimary (Some (record { node = a; held = held })) → (kept ≡ held) × NodeLoses cells m rows a b
          → ◌≡◌ {A = Option (NodePlace D)} (Some (record { node = b; held = kept })) (Some (record { node = a; held = held }))
      by (Primary p) b held kept has is = λ i. Some (record { node = is.1 i; held = is.0 i })
      by (Replica r) b held kept has is = absurd has
      by (Down d) b held kept has is = absurd has

  none_runs : (o : Option NodeNo) → ((p : NodeNo) → o ≡ Some p → ⊥) → o ≡ None
  none_runs None never = refl
  none_runs (Some p) never = absurd (never p refl)

  -- no primary runs: nothing ends
  pub nothing_ends : (primary : Option NodeNo) (n : ℕ) (board : Board) (places : List (Option (NodePlace D))) → ((p : NodeNo) → primary ≡ Some p → ⊥) → EndsAll cells primary n board board places places
  nothing_ends primary n board places never = subst (λ (o : Option NodeNo). EndsAll cells o n board board places places) (sym (none_runs primary never)) (record {
    mid = places;
    jobs = none_ends cells n places;
    falls = λ here. absurd (true≢false (sym here));
    stays = λ away. (refl, refl);
    here = refl;
  })

  -- a replica crashes
  pub replica_falls : {E : Type 0} (result : Result Unit E) (primary : Option NodeNo) (p n : NodeNo) (board : Board) (old new : List (Option (NodePlace D))) → primary ≡ Some p → p.0 ≢ n.0 → OnOk result (TakesBackIn cells p.0 n.0 old new)
      → OnOk result (EndsAll cells primary n.0 board board old new)
  replica_falls (Ok x) primary p n board old new is other takes = subst (λ (o : Option NodeNo). EndsAll cells o n.0 board board old new) (sym is) (record {
    mid = new;
    jobs = replica_ends cells p n old new apart takes;
    falls = λ here. absurd (true≢false (sym here ∙ apart));
    stays = λ away. (refl, refl);
    here = (replica_ends cells p n old new apart takes).here;
  })
    where
      apart_by : (t : Bool) → (p.0 == n.0) ≡ t → (p.0 == n.0) ≡ false
      apart_by true here = absurd (other (eqb-true p.0 n.0 here))
      apart_by false away = away

      apart : (p.0 == n.0) ≡ false
      apart = apart_by (p.0 == n.0) refl
  replica_falls (Err e) primary p n board old new is other takes = tt

  -- the primary crashes
  pub primary_falls : (primary : Option NodeNo) (p n : NodeNo) (board now : Board) (old mid new : List (Option (NodePlace D))) → primary ≡ Some p → p.0 ≡ n.0 → CanEnd primary n.0 old → length mid ≡ length old → ((m : ℕ) → StopsPlaceJob cells (place_of old m) (place_of mid m))
      → AllLose cells board.rows mid new → now.rows ≡ [] → now.posted ≡ [] → now.counts ≡ board.counts → EndsAll cells primary n.0 board now old new
  primary_falls primary p n board now old mid new is same can count each lose rows posted counts =
      subst (λ (o : Option NodeNo). EndsAll cells o n.0 board now old new) (sym is) (record {
        mid = mid;
        jobs = jobs;
        falls = λ here. record { lose = lose; rows = rows; posted = posted; counts = counts };
        stays = λ away. absurd (true≢false (sym (eq-eqb p.0 n.0 same) ∙ away));
        here = primary_keeps board.rows n.0 (place_of mid n.0) (place_of new n.0) (subst (λ (o : Option (NodePlace D)). HasPrimary o) (sym jobs.here) (subst (λ (k : ℕ). HasPrimary (place_of old k)) same stands)) (lose.each n.0) ∙ jobs.here;
      })
    where
      stands : HasPrimary (place_of old p.0)
      stands = let back : CanTakeBack p.0 n.0 old = subst (λ (o : Option NodeNo). CanEnd o n.0 old) is can in back.primary

      jobs : EndsWith cells (Some p) n.0 old mid
      jobs = primary_ends cells p n old mid same stands count each
