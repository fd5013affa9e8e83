-- A merge copy of which nothing is missing, over the calls of its finish.
use Rattle.std.proofs.Common.{◌≡◌, ◌==◌, ◌<◌, ◌≤◌, ℕ, true, List, [], ◌++◌, Option, Some, None, is_some, refl, sym, ap, subst, ◌∙◌, arith, length}
use Rattle.std.specs.Prelude.{IfSome, Result, Err, IsErrOf}
use Rattle.std.proofs.lemmas.Bool.{eq-eqb}
use Rattle.disk_model.specs.Disk.{Name, Cells, reads_of}
use Rattle.file_deleter.specs.Holdings.{count_of, times}
use Rattle.copy_state.specs.declared.meta.FileMetaData.{FileMetaData}
use Rattle.copy_state.specs.States.{meta_names}
use Rattle.copy_job.specs.Parts.{placed_to}
use Rattle.copy_job.specs.Jobs.{Job, present_of, reads_under}
use Rattle.merge_precopy.specs.Pending.{Pending}
use Rattle.replica_node.specs.declared.merges.MergeCopies.{MergeCopies}
use Rattle.replica_node.specs.declared.parts.ReplicaParts.{ReplicaParts}
use Rattle.replica_node.specs.Merges.{copy_at, copies_with, copies_without}
use Rattle.replica_node.specs.Sources.{HoldsOnlyWanted}
use Rattle.replica_node.proofs.Merging.{number_at}
use Rattle.replica_node.specs.Settling.{PlacesCopy, SettlesCopy, EndsCopy, StillCopies}
use Rattle.replica_node.proofs.Came.{with_same}
use Rattle.replica_node.proofs.Settled.{at_with, without_with, present_all, placed_twice}

pub same_fault : (T E : Type 0) (a b : E) → IsErrOf {T = T} {E = E} (Err a) b → a ≡ b
same_fault T E a b e = cc

-- ---- nothing was done
-- memory was wanting before anything was done
pub still_whole : {D : Type 0} (p : ReplicaParts D) (number : ℕ) → IfSome (copy_at number p.copies.running) (λ c. StillCopies number c p p)
still_whole p number = by (copy_at number p.copies.running) refl
  where
    by : (o : Option Job) → copy_at number p.copies.running ≡ o → IfSome o (λ c. StillCopies number c p p)
    by None e = tt
    by (Some c) e = record { placed = 0; copies = sym (ap (λ (cs : List Job). record p.copies { running = cs }) (with_same number p.copies.running c e)) }

-- ---- after parts were renamed
pub holds_then : {D : Type 0} (p mid last : ReplicaParts D) (o : Option Job) → IfSome o (λ c. HoldsOnlyWanted c.want p mid) → ((q : Name) → count_of last.files q ≤ count_of mid.files q) → IfSome o (λ c. HoldsOnlyWanted c.want p last)
holds_then p mid last None h fewer = tt
holds_then p mid last (Some c) h fewer = λ q lasting some. h q lasting (omega (arith, some, fewer q))

module _ {D : Type 0} (cells : D → Cells) (p mid : ReplicaParts D) (number : ℕ) (c : Job) (e : copy_at number p.copies.running ≡ Some c) {T E : Type 0} (result : Result T E) (places : PlacesCopy cells number c p mid result) where
  abbrev now : Job
  now = record c { parts = placed_to places.placed c.parts }

  same_here : (c.number == number) ≡ true
  same_here = eq-eqb c.number number (number_at number p.copies.running c e)

  running_mid : mid.copies.running ≡ copies_with number now p.copies.running
  running_mid = ap (λ (m : MergeCopies). m.running) places.copies

  at_mid : copy_at number mid.copies.running ≡ Some now
  at_mid = ap (copy_at number) running_mid ∙ at_with number p.copies.running c now e same_here

  without_mid : copies_without number mid.copies.running ≡ copies_without number p.copies.running
  without_mid = ap (copies_without number) running_mid ∙ without_with number p.copies.running now same_here

  mid_some : (P : Job → Type 0) → P now → IfSome (copy_at number mid.copies.running) P
  mid_some P h = subst (λ (o : Option Job). IfSome o P) (sym at_mid) h

  pub runs_mid : is_some (copy_at number mid.copies.running) ≡ true
  runs_mid = ap is_some at_mid

  pub complete_mid : IfSome (copy_at number p.copies.running) (λ k. k.missing ≡ []) → IfSome (copy_at number mid.copies.running) (λ k. k.missing ≡ [])
  complete_mid complete = mid_some (λ k. k.missing ≡ []) (subst (λ (o : Option Job). IfSome o (λ k. k.missing ≡ [])) e complete)

  pub files_mid : (files : List (Name × FileMetaData)) → IfSome (copy_at number p.copies.running) (λ k. files ≡ k.want.files) → IfSome (copy_at number mid.copies.running) (λ k. files ≡ k.want.files)
  files_mid files h = mid_some (λ k. files ≡ k.want.files) (subst (λ (o : Option Job). IfSome o (λ k. files ≡ k.want.files)) e h)

  pub ended_mid : (last : ReplicaParts D) → EndsCopy number mid last → EndsCopy number p last
  ended_mid last h = record {
    copies = h.copies ∙ ap (λ (m : MergeCopies). record m { running = copies_without number m.running }) places.copies
        ∙ ap (λ (cs : List Job). record p.copies { running = cs }) (without_with number p.copies.running now same_here);
  }

  pub still_mid : (last : ReplicaParts D) → last.copies ≡ mid.copies → IfSome (copy_at number p.copies.running) (λ k. StillCopies number k p last)
  still_mid last same = subst (λ (o : Option Job). IfSome o (λ k. StillCopies number k p last)) (sym e) (record { placed = places.placed; copies = same ∙ places.copies })

  module _ (all : places.placed ≡ length c.parts) where
    pub own_mid : IfSome (copy_at number mid.copies.running) (λ k. k.parts ≡ placed_to (length k.parts) k.parts)
    own_mid = mid_some (λ k. k.parts ≡ placed_to (length k.parts) k.parts)
        (subst (λ (n : ℕ). placed_to n c.parts ≡ placed_to (length (placed_to n c.parts)) (placed_to n c.parts)) (sym all) (placed_twice c.parts))

    pub settled_mid : (last : ReplicaParts D) → IfSome (copy_at number mid.copies.running) (λ k. SettlesCopy number k mid last) → IfSome (copy_at number p.copies.running) (λ k. SettlesCopy number k p last)
    settled_mid last h =
        let s : SettlesCopy number now mid last = subst (λ (o : Option Job). IfSome o (λ k. SettlesCopy number k mid last)) at_mid h in
        subst (λ (o : Option Job). IfSome o (λ k. SettlesCopy number k p last)) (sym e) (record {
          copies = s.copies ∙ ap (λ (cs : List Job). record { running = cs; pending = record mid.copies.pending { files = mid.copies.pending.files ++ c.want.files } }) without_mid
              ∙ ap (λ (x : Pending). record { running = copies_without number p.copies.running; pending = record x { files = x.files ++ c.want.files } }) (ap (λ (m : MergeCopies). m.pending) places.copies);
        })

    pub reads_mid : (last : ReplicaParts D) → last.dir ≡ mid.dir
        → IfSome (copy_at number p.copies.running) (λ k. (q : Name) → 0 < times (meta_names k.want.files) q → (cells last.dir q).now ≡ reads_under k.parts (reads_of (cells p.dir)) q)
    reads_mid last same = subst (λ (o : Option Job). IfSome o (λ k. (q : Name) → 0 < times (meta_names k.want.files) q → (cells last.dir q).now ≡ reads_under k.parts (reads_of (cells p.dir)) q)) (sym e) (λ q wanted.
        let name : present_of (placed_to places.placed c.parts) q ≡ q = ap (λ (n : ℕ). present_of (placed_to n c.parts) q) all ∙ present_all c.parts q in
        ap (λ (d : D). (cells d q).now) same ∙ subst (λ (x : Name). (cells mid.dir x).now ≡ reads_under c.parts (reads_of (cells p.dir)) q) name (places.reads q wanted))
