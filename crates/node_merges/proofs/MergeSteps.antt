-- A node that was taken out of its place moved, and was put back; and what a cut-over makes of the primary.
use Rattle.std.proofs.Common.{◌≡◌, ◌≤◌, ◌<◌, ◌==◌, ℕ, zero, suc, Bool, List, Some, None, Option, Result, Ok, Err, Vec, Global, refl, ap, ◌∙◌, sym, subst, arith, if◌then◌else◌, length}
use Rattle.std.specs.Prelude.{IfOk}
use Rattle.nrt_base.specs.declared.numbers.SegNo.{SegNo}
use Rattle.disk_model.specs.Disk.{Name, Cells}
use Rattle.file_deleter.specs.Holdings.{count_of}
use Rattle.searcher_switch.specs.Appearing.{NoneAppears, AppearsOnly}
use Rattle.searcher_switch.proofs.Appearing.{only_then_none}
use Rattle.copy_state.specs.declared.state.CopyState.{CopyState}
use Rattle.index_primary.specs.declared.parts.PrimaryParts.{PrimaryParts}
use Rattle.index_primary.specs.declared.states.Out.{Out}
use Rattle.index_primary.specs.Held.{IsOwnFile}
use Rattle.index_primary.specs.declared.states.Merging.{Merging}
use Rattle.index_primary.specs.Merges.{merges_without}
use Rattle.index_primary.specs.States.{out_of, is_out, states_without}
use Rattle.index_primary.specs.Primary.{IsPrimary, KeepsHeldBytes, IsUnwritten, loose_of}
use Rattle.index_primary.specs.Calls.{FillsUndrawn, DrawsOnly, HoldsNoNew}
use Rattle.cluster_nodes.specs.Given.{IsCutOver, KeepsDocuments}
use Rattle.cluster_nodes.specs.declared.held.HeldTicket.{HeldTicket}
use Rattle.cluster_nodes.specs.declared.nodes.Node.TheVariants.{Primary, Replica}
use Rattle.cluster_nodes.specs.declared.nodes.NodePlace.{NodePlace}
use Rattle.cluster_nodes.specs.Places.{place_of, IsSlot}
use Rattle.cluster_nodes.specs.Went.{ByWent}
use Rattle.cluster_nodes.specs.declared.went.Went.{Went}
use Rattle.cluster_nodes.specs.declared.went.Went.TheVariants.{Done, Failed}
use Rattle.replica_node.specs.declared.parts.ReplicaParts.{ReplicaParts}
use Rattle.cluster_nodes.proofs.Taking.{moved_one}
use Rattle.node_merges.specs.MergeChanges.{CutsMerge, GivesUpMerge}
use Rattle.node_merges.specs.MergePlaces.{MovesPrimary, MovesReplica}

module _ {D : Type 0} where
  pub primary_moved : (Step : PrimaryParts D → PrimaryParts D → Type 0) (old mid new : List (Option (NodePlace D))) (p : ℕ) (q r : PrimaryParts D) (held : Vec HeldTicket Global) → IsSlot old p
      → length mid ≡ length old → ((m : ℕ) → place_of mid m ≡ (if p == m then None else place_of old m)) → length new ≡ length mid → ((m : ℕ) → place_of new m ≡ (if p == m then Some (record { node = Primary r; held = held }) else place_of mid m))
      → place_of old p ≡ Some (record { node = Primary q; held = held }) → Step q r → MovesPrimary Step p old new
  primary_moved Step old mid new p q r held slot cm tm cn tn there step = record {
    at = record { slot = slot; parts = q; held = held; there = there };
    primary = r;
    moves = moved_one old mid new p (record { node = Primary r; held = held }) cm tm cn tn;
    step = step;
  }

  pub replica_moved : (Step : ReplicaParts D → ReplicaParts D → Type 0) (old mid new : List (Option (NodePlace D))) (n : ℕ) (r s : ReplicaParts D) (held : Vec HeldTicket Global) → IsSlot old n
      → length mid ≡ length old → ((m : ℕ) → place_of mid m ≡ (if n == m then None else place_of old m)) → length new ≡ length mid → ((m : ℕ) → place_of new m ≡ (if n == m then Some (record { node = Replica s; held = held }) else place_of mid m))
      → place_of old n ≡ Some (record { node = Replica r; held = held }) → Step r s → MovesReplica Step n old new
  replica_moved Step old mid new n r s held slot cm tm cn tn there step = record {
    at = record { slot = slot; parts = r; held = held; there = there };
    replica = s;
    moves = moved_one old mid new n (record { node = Replica s; held = held }) cm tm cn tn;
    step = step;
  }

  -- the same of what a call of the node's disk gave, or where it failed
  pub primary_went : {T E : Type 0} (Step : T → PrimaryParts D → PrimaryParts D → Type 0) (Fail : PrimaryParts D → PrimaryParts D → Type 0) (result : Result (Went T) E) (old mid new : List (Option (NodePlace D))) (p : ℕ) (q r : PrimaryParts D) (held : Vec HeldTicket Global) → IsSlot old p
      → length mid ≡ length old → ((m : ℕ) → place_of mid m ≡ (if p == m then None else place_of old m)) → length new ≡ length mid → ((m : ℕ) → place_of new m ≡ (if p == m then Some (record { node = Primary r; held = held }) else place_of mid m))
      → place_of old p ≡ Some (record { node = Primary q; held = held }) → IfOk result (ByWent (λ x. Step x q r) (Fail q r)) → IfOk result (ByWent (λ x. MovesPrimary (Step x) p old new) (MovesPrimary Fail p old new))
  primary_went Step Fail (Ok (Done x)) old mid new p q r held slot cm tm cn tn there step = primary_moved (Step x) old mid new p q r held slot cm tm cn tn there step
  primary_went Step Fail (Ok Failed) old mid new p q r held slot cm tm cn tn there step = primary_moved Fail old mid new p q r held slot cm tm cn tn there step
  primary_went Step Fail (Err e) old mid new p q r held slot cm tm cn tn there step = tt

  pub replica_went : {T E : Type 0} (Step : T → ReplicaParts D → ReplicaParts D → Type 0) (Fail : ReplicaParts D → ReplicaParts D → Type 0) (result : Result (Went T) E) (old mid new : List (Option (NodePlace D))) (n : ℕ) (r s : ReplicaParts D) (held : Vec HeldTicket Global) → IsSlot old n
      → length mid ≡ length old → ((m : ℕ) → place_of mid m ≡ (if n == m then None else place_of old m)) → length new ≡ length mid → ((m : ℕ) → place_of new m ≡ (if n == m then Some (record { node = Replica s; held = held }) else place_of mid m))
      → place_of old n ≡ Some (record { node = Replica r; held = held }) → IfOk result (ByWent (λ x. Step x r s) (Fail r s)) → IfOk result (ByWent (λ x. MovesReplica (Step x) n old new) (MovesReplica Fail n old new))
  replica_went Step Fail (Ok (Done x)) old mid new n r s held slot cm tm cn tn there step = replica_moved (Step x) old mid new n r s held slot cm tm cn tn there step
  replica_went Step Fail (Ok Failed) old mid new n r s held slot cm tm cn tn there step = replica_moved Fail old mid new n r s held slot cm tm cn tn there step
  replica_went Step Fail (Err e) old mid new n r s held slot cm tm cn tn there step = tt

  pub replica_answers : {T E : Type 0} (Step : T → ReplicaParts D → ReplicaParts D → Type 0) (result : Result T E) (old mid new : List (Option (NodePlace D))) (n : ℕ) (r s : ReplicaParts D) (held : Vec HeldTicket Global) → IsSlot old n
      → length mid ≡ length old → ((m : ℕ) → place_of mid m ≡ (if n == m then None else place_of old m)) → length new ≡ length mid → ((m : ℕ) → place_of new m ≡ (if n == m then Some (record { node = Replica s; held = held }) else place_of mid m))
      → place_of old n ≡ Some (record { node = Replica r; held = held }) → IfOk result (λ x. Step x r s) → IfOk result (λ x. MovesReplica (Step x) n old new)
  replica_answers Step (Ok x) old mid new n r s held slot cm tm cn tn there step = replica_moved (Step x) old mid new n r s held slot cm tm cn tn there step
  replica_answers Step (Err e) old mid new n r s held slot cm tm cn tn there step = tt

  -- ---- a cut-over, and its copy state back

  module _ (cells : D → Cells) (old mid new : PrimaryParts D) (no_new : HoldsNoNew mid new) where
    -- what is held in the end was held between
    held_between : (q : Name) → 0 < count_of new.files q → 0 < count_of mid.files q
    held_between q some = by (count_of mid.files q) refl
      where
        by : (k : ℕ) → count_of mid.files q ≡ k → 0 < k
        by zero none = let gone = no_new.each q none in absurd (omega (arith, some, gone))
        by (suc k) is = omega arith

    stays_over : KeepsHeldBytes cells old mid → KeepsHeldBytes cells mid new → KeepsHeldBytes cells old new
    stays_over first second = record { held = λ q was now. second.held q (held_between q now) now ∙ first.held q was (held_between q now) }

    fresh_over : FillsUndrawn old mid → FillsUndrawn old new
    fresh_over fresh = record { each = λ q none some. fresh.each q none (held_between q some) }

  drawn_over : (old mid new : PrimaryParts D) → DrawsOnly old mid → ((q : Name) → IsUnwritten new q → IsUnwritten mid q) → DrawsOnly old new
  drawn_over old mid new first second = record { each = λ q is. first.each q (second q is) }

  -- the cut-over and the end of its copy state in one
  pub cuts_over : (cells : D → Cells) (seg : SegNo) (state : CopyState) (old mid new : PrimaryParts D) → IsCutOver seg old mid → KeepsDocuments old mid
      → mid ≡ record old {
        dir = mid.dir;
        files = mid.files;
        infos = mid.infos;
        segs = mid.segs;
        names = mid.names;
        merges = mid.merges;
        has_cut_over = mid.has_cut_over;
        completed = mid.completed;
      }
      → KeepsHeldBytes cells old mid → FillsUndrawn old mid → DrawsOnly old mid → AppearsOnly (IsOwnFile old.infos (loose_of old)) (cells old.dir) (cells mid.dir)
      → new.states ≡ states_without (out_of state) mid.states → new ≡ record mid { dir = new.dir; files = new.files; states = new.states } → KeepsHeldBytes cells mid new → HoldsNoNew mid new → NoneAppears (cells mid.dir) (cells new.dir)
      → IsPrimary cells new → CutsMerge cells seg state old new
  cuts_over cells seg state old mid new cut documents others stays fresh drawn appears states back stays2 no_new none whole = record {
    cut = cut_is;
    documents = documents_are;
    states = states ∙ ap (λ (z : PrimaryParts D). states_without (out_of state) z.states) others;
    others = frame;
    stays = stays_over cells old mid new no_new stays stays2;
    fresh = fresh_over cells old mid new no_new fresh;
    drawn = drawn_over old mid new drawn (λ q is. subst (λ (z : PrimaryParts D). IsUnwritten z q → IsUnwritten mid q) (sym back) (λ u. u) is);
    appears = only_then_none (IsOwnFile old.infos (loose_of old)) (cells old.dir) (cells mid.dir) (cells new.dir) appears none;
    whole = whole;
  }
    where
      cut_is : IsCutOver seg old new
      cut_is = subst (λ (z : PrimaryParts D). IsCutOver seg old z) (sym back) (record {
        m = cut.m;
        found = cut.found;
        merged = cut.merged;
        is_merged = cut.is_merged;
        shown = cut.shown;
        back = cut.back;
        made = cut.made;
        cut = cut.cut;
        infos = cut.infos;
        segs = cut.segs;
        merges = cut.merges;
        cut_over = cut.cut_over;
        completed = cut.completed;
      })

      documents_are : KeepsDocuments old new
      documents_are = subst (λ (z : PrimaryParts D). KeepsDocuments old z) (sym back) documents

      frame : new ≡ record old {
        dir = new.dir;
        files = new.files;
        infos = new.infos;
        segs = new.segs;
        names = new.names;
        states = new.states;
        merges = new.merges;
        has_cut_over = new.has_cut_over;
        completed = new.completed;
      }
      frame = subst (λ (z : PrimaryParts D). z ≡ record old {
        dir = z.dir;
        files = z.files;
        infos = z.infos;
        segs = z.segs;
        names = z.names;
        states = z.states;
        merges = z.merges;
        has_cut_over = z.has_cut_over;
        completed = z.completed;
      }) (sym back) (ap (λ (z : PrimaryParts D). record z { dir = new.dir; files = new.files; states = new.states }) others)

module _ {D : Type 0} (cells : D → Cells) where
  -- the merge was given up, and its copy state given back
  pub gives_back : (seg : SegNo) (state : CopyState) (old mid new : PrimaryParts D) → mid.merges ≡ merges_without seg.0 old.merges → mid ≡ record old { dir = mid.dir; files = mid.files; merges = mid.merges }
      → KeepsHeldBytes cells old mid → HoldsNoNew old mid → DrawsOnly old mid → AppearsOnly (IsOwnFile old.infos (loose_of old)) (cells old.dir) (cells mid.dir)
      → new.states ≡ states_without (out_of state) mid.states → new ≡ record mid { dir = new.dir; files = new.files; states = new.states } → KeepsHeldBytes cells mid new → HoldsNoNew mid new → NoneAppears (cells mid.dir) (cells new.dir)
      → IsPrimary cells new → GivesUpMerge cells seg (states_without (out_of state)) old new
  gives_back seg state old mid new gone others stays first drawn appears states back stays2 second none whole = record {
    merges = ap (λ (z : PrimaryParts D). z.merges) back ∙ gone;
    states = states ∙ ap (λ (z : PrimaryParts D). states_without (out_of state) z.states) others;
    others = back ∙ (ap (λ (z : PrimaryParts D). record z { dir = new.dir; files = new.files; states = new.states }) others
        ∙ ap (λ (ms : List Merging). record old { dir = new.dir; files = new.files; states = new.states; merges = ms }) (sym (ap (λ (z : PrimaryParts D). z.merges) back)));
    stays = stays_over cells old mid new second stays stays2;
    no_new = record { each = λ q is. second.each q (first.each q is) };
    drawn = drawn_over old mid new drawn (λ q is. subst (λ (z : PrimaryParts D). IsUnwritten z q → IsUnwritten mid q) (sym back) (λ u. u) is);
    appears = only_then_none (IsOwnFile old.infos (loose_of old)) (cells old.dir) (cells mid.dir) (cells new.dir) appears none;
    whole = whole;
  }

  -- a merge whose files could not be written was given up
  pub gives_up : (seg : SegNo) (old new : PrimaryParts D) → new.merges ≡ merges_without seg.0 old.merges → new.states ≡ old.states → new ≡ record old { dir = new.dir; files = new.files; states = new.states; merges = new.merges }
      → KeepsHeldBytes cells old new → HoldsNoNew old new → DrawsOnly old new → AppearsOnly (IsOwnFile old.infos (loose_of old)) (cells old.dir) (cells new.dir) → IsPrimary cells new → GivesUpMerge cells seg (λ states. states) old new
  gives_up seg old new gone states others stays no_new drawn appears whole = record { merges = gone; states = states; others = others; stays = stays; no_new = no_new; drawn = drawn; appears = appears; whole = whole }
