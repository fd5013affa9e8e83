-- The job or the copy of a merged segment with a number, before and after a call.
use Rattle.std.proofs.Common.{◌≡◌, ℕ, Bool, true, false, Option, Some, None, is_some, refl, sym, ap, subst, ◌∙◌, arith, true≢false}
use Rattle.std.specs.Prelude.{◌==◌, ◌&&◌, not, if◌then◌else◌, IsSome, IfSome, OnOk, OnErr, Result}
use Rattle.std.proofs.lemmas.Bool.{and_parts, and_from, eqb-true}
use Rattle.std.proofs.lemmas.Bool.Decides.{nat_tests}
use Rattle.std.specs.Option.{option_map}
use Rattle.std.specs.List.{AllByRecursion}
use Rattle.std.proofs.lemmas.Result.{on_ok_weaker, on_err_weaker}
use Rattle.disk_model.specs.Disk.{Name, Cells}
use Rattle.copy_job.specs.Jobs.{Job, with_part}
use Rattle.replica_node.specs.declared.job.PointJob.{PointJob}
use Rattle.replica_node.specs.declared.merges.MergeCopies.{MergeCopies}
use Rattle.replica_node.specs.declared.parts.ReplicaParts.{ReplicaParts}
use Rattle.replica_node.specs.Merges.{copy_at, copies_with, copies_without, CopyApart}
use Rattle.replica_node.specs.Jobs.{stopped_job}
use Rattle.replica_node.specs.Replica.{IsWholeReplica}
use Rattle.replica_node.proofs.Merging.{all_at, number_at}
use Rattle.replica_node.specs.Running.{is_job_number, running_job, with_job, without_job}

no_point : (number : ℕ) → is_job_number number None ≡ true → ⊥
no_point number e = true≢false (sym e)

-- ---- what is asked of the one there is
pub point_number : (number : ℕ) (job : Option PointJob) → is_job_number number job ≡ true → IfSome job (λ j. j.copy.number ≡ number)
point_number number None e = tt
point_number number (Some j) e = eqb-true j.copy.number number (and_parts (not j.stopped) (j.copy.number == number) e).1

pub point_all : (P : Job → Type 0) (number : ℕ) (job : Option PointJob) (other : Option Job) → is_job_number number job ≡ true → IfSome (if is_job_number number job then option_map (λ (j : PointJob). j.copy) job else other) P → IfSome job (λ j. P j.copy)
point_all P number None other e h = tt
point_all P number (Some j) other e h = subst (λ (b : Bool). IfSome (if b then Some j.copy else other) P) e h

pub copy_all : (P : Job → Type 0) (number : ℕ) (job : Option PointJob) (other : Option Job) → is_job_number number job ≡ false → IfSome (if is_job_number number job then option_map (λ (j : PointJob). j.copy) job else other) P → IfSome other P
copy_all P number job other e h = subst (λ (b : Bool). IfSome (if b then option_map (λ (j : PointJob). j.copy) job else other) P) e h

pub copy_some : (number : ℕ) (job : Option PointJob) (other : Option Job) → is_job_number number job ≡ false → IsSome (if is_job_number number job then option_map (λ (j : PointJob). j.copy) job else other) → is_some other ≡ true
copy_some number job other e h = subst (λ (b : Bool). IsSome (if b then option_map (λ (j : PointJob). j.copy) job else other)) e h

-- ---- what the call makes of it
if_map : {P Q : Job → Type 0} (o : Option Job) → ((k : Job) → P k → Q k) → IfSome o P → IfSome o Q
if_map None turns h = tt
if_map (Some k) turns h = turns k h

module _ {D : Type 0} (number : ℕ) (old new : ReplicaParts D) where
  -- the job is stopped, and nothing else moves
  pub point_kept : is_job_number number old.job ≡ true → new ≡ record old { job = option_map stopped_job old.job } → new ≡ without_job number old
  point_kept e stopped =
      stopped ∙ sym (ap (λ (b : Bool). if b then record old { job = option_map stopped_job old.job } else record old { copies = record old.copies { running = copies_without number old.copies.running } }) e)

  -- the job is stopped
  pub point_gone : is_job_number number old.job ≡ true → new ≡ record old { job = option_map stopped_job old.job } → new ≡ record (without_job number old) { dir = new.dir; files = new.files }
  point_gone e stopped =
      let dirs : old.dir ≡ new.dir = sym (ap (λ (p : ReplicaParts D). p.dir) stopped) in
      let files : old.files ≡ new.files = sym (ap (λ (p : ReplicaParts D). p.files) stopped) in
      stopped ∙ (λ i. record old { dir = dirs i; files = files i; job = option_map stopped_job old.job })
      ∙ sym (ap (λ (b : Bool). record (if b then record old { job = option_map stopped_job old.job } else record old { copies = record old.copies { running = copies_without number old.copies.running } }) { dir = new.dir; files = new.files }) e)

  module _ (e : is_job_number number old.job ≡ false) (others : new ≡ record old { dir = new.dir; files = new.files; copies = new.copies }) where
    pub copy_ok : {T E : Type 0} (result : Result T E) (name : Name) → OnOk result (IfSome (copy_at number old.copies.running) (λ c. new.copies ≡ record old.copies { running = copies_with number (with_part c name) old.copies.running }))
        → OnOk result (IfSome (running_job number old) (λ j. new ≡ record (with_job number (with_part j name) old) { dir = new.dir; files = new.files }))
    copy_ok result name = on_ok_weaker result (λ h. subst (λ (b : Bool). IfSome (if b then option_map (λ (j : PointJob). j.copy) old.job else copy_at number old.copies.running) (λ j. new ≡ record (with_job number (with_part j name) old) { dir = new.dir; files = new.files })) (sym e)
        (if_map (copy_at number old.copies.running) (λ k made.
        others ∙ ap (λ (m : MergeCopies). record old { dir = new.dir; files = new.files; copies = m }) made
        ∙ sym (ap (λ (b : Bool). record (if b then record old { job = option_map (λ (j : PointJob). record j { copy = with_part k name }) old.job } else record old { copies = record old.copies { running = copies_with number (with_part k name) old.copies.running } }) { dir = new.dir; files = new.files }) e)) h))

    pub copy_err : {T E : Type 0} (result : Result T E) → OnErr result (new.copies ≡ old.copies) → OnErr result (new ≡ record old { dir = new.dir; files = new.files })
    copy_err result = on_err_weaker result (λ same. others ∙ ap (λ (m : MergeCopies). record old { dir = new.dir; files = new.files; copies = m }) same)

    pub copy_gone : new.copies ≡ record old.copies { running = copies_without number old.copies.running } → new ≡ record (without_job number old) { dir = new.dir; files = new.files }
    copy_gone made = others ∙ ap (λ (m : MergeCopies). record old { dir = new.dir; files = new.files; copies = m }) made
        ∙ sym (ap (λ (b : Bool). record (if b then record old { job = option_map stopped_job old.job } else record old { copies = record old.copies { running = copies_without number old.copies.running } }) { dir = new.dir; files = new.files }) e)

-- ---- for those who know which one it is
pub point_runs : {D : Type 0} (number : ℕ) (p : ReplicaParts D) (j : PointJob) → p.job ≡ Some j → j.stopped ≡ false → j.copy.number ≡ number → (running_job number p ≡ Some j.copy) × ((k : Job) → with_job number k p ≡ record p { job = Some (record j { copy = k }) }) × (without_job number p ≡ record p { job = Some (stopped_job j) })
point_runs number p j e runs same =
    let test : is_job_number number p.job ≡ true = ap (is_job_number number) e ∙ and_from (not j.stopped) (j.copy.number == number) (ap not runs) (grind (arith, nat_tests, same)) in (
      ap (λ (b : Bool). if b then option_map (λ (i : PointJob). i.copy) p.job else copy_at number p.copies.running) test ∙ ap (option_map (λ (i : PointJob). i.copy)) e,
      (λ k. ap (λ (b : Bool). if b then record p { job = option_map (λ (i : PointJob). record i { copy = k }) p.job } else record p { copies = record p.copies { running = copies_with number k p.copies.running } }) test
          ∙ ap (λ (o : Option PointJob). record p { job = option_map (λ (i : PointJob). record i { copy = k }) o }) e),
      ap (λ (b : Bool). if b then record p { job = option_map stopped_job p.job } else record p { copies = record p.copies { running = copies_without number p.copies.running } }) test ∙ ap (λ (o : Option PointJob). record p { job = option_map stopped_job o }) e,
    )

pub copy_runs : {D : Type 0} (cells : D → Cells) (number : ℕ) (p : ReplicaParts D) (c : Job) → IsWholeReplica cells p → copy_at number p.copies.running ≡ Some c
    → (running_job number p ≡ Some c) × ((k : Job) → with_job number k p ≡ record p { copies = record p.copies { running = copies_with number k p.copies.running } })
    × (without_job number p ≡ record p { copies = record p.copies { running = copies_without number p.copies.running } })
copy_runs cells number p c is e =
    let test : is_job_number number p.job ≡ false = not_point p.job is.merges.beside_job in (
      ap (λ (b : Bool). if b then option_map (λ (i : PointJob). i.copy) p.job else copy_at number p.copies.running) test ∙ e,
      (λ k. ap (λ (b : Bool). if b then record p { job = option_map (λ (i : PointJob). record i { copy = k }) p.job } else record p { copies = record p.copies { running = copies_with number k p.copies.running } }) test),
      ap (λ (b : Bool). if b then record p { job = option_map stopped_job p.job } else record p { copies = record p.copies { running = copies_without number p.copies.running } }) test,
    )
  where
    not_point : (o : Option PointJob) → IfSome o (λ j. AllByRecursion (CopyApart j.copy) p.copies.running) → is_job_number number o ≡ false
    not_point None h = refl
    not_point (Some j) h = by (j.copy.number == number) refl
      where
        by : (b : Bool) → (j.copy.number == number) ≡ b → (not j.stopped && (j.copy.number == number)) ≡ false
        by false f = ap (λ b. not j.stopped && b) f ∙ none (not j.stopped)
          where
            none : (b : Bool) → (b && false) ≡ false
            none true = refl
            none false = refl
        by true f = absurd ((all_at (CopyApart j.copy) number p.copies.running c e h).numbers (grind (arith, nat_tests, f, number_at number p.copies.running c e)))
