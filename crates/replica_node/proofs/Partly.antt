-- A job whose first parts get their own names.
use Rattle.std.proofs.Common.{◌≡◌, ℕ, zero, suc, ◌+◌, ◌<◌, ◌≤◌, List, [], ◌∷◌, ◌++◌, refl, sym, ap, subst, ◌∙◌, arith}
use Rattle.disk_model.specs.Disk.{Name, Cells}
use Rattle.file_deleter.specs.Holdings.{Holdings, count_of, times}
use Rattle.file_deleter.specs.Moves.{MovesCounts}
use Rattle.file_deleter.proofs.NameLemmas.{times-append, times-cons}
use Rattle.copy_job.specs.declared.part.JobPart.{JobPart}
use Rattle.copy_job.specs.Parts.{part_at, present_names, own_names, written_names, placed_to}
use Rattle.copy_job.specs.Placing.{Places}
use Rattle.copy_job.specs.Jobs.{Job, job_names, present_of}
use Rattle.replica_node.specs.Merges.{copied_names}
use Rattle.replica_node.specs.Replica.{KeepsReads}
use Rattle.replica_node.proofs.Carried.{under_placed}

-- ---- parts are placed
pub placed_moves : (n : ℕ) (parts now : List JobPart) (reused : List Name) (old new : Holdings) (before after : Cells) → Places n parts now old new before after
    → MovesCounts (written_names parts) (present_names parts ++ reused) (present_names now ++ reused) old new before after
placed_moves n parts now reused old new before after done = record {
  balance = λ q. omega (arith, done.moves.balance q, times-append (present_names parts) reused q, times-append (present_names now) reused q);
  keeps = done.moves.keeps;
}

-- ---- parts are placed, not all of them
module _ (j : Job) (now : List JobPart) (n : ℕ) (h0 h1 : Holdings) (a b : Cells) (counted : (q : Name) → times (job_names j) q ≤ count_of h0 q) (done : Places n j.parts now h0 h1 a b) where
  pub reads_partly : KeepsReads j (record j { parts = now }) a b
  reads_partly = record {
    each = λ q some. subst (λ (ps : List JobPart). (b (present_of ps q)).now ≡ (a (present_of j.parts q)).now) (sym done.parts_are)
        (under_placed j.parts n q a b (λ place was is at there. done.reads place was is at (ap (λ (ps : List JobPart). part_at ps place) done.parts_are ∙ there)) (λ none.
        let r : 0 < times j.reused q = omega (arith, some, none) in
        done.moves.keeps.reads q (omega (arith, r, counted q, times-append (present_names j.parts) j.reused q)) (omega (arith, r, counted q, done.moves.balance q, times-append (present_names j.parts) j.reused q))));
  }

-- ---- what it copies is the same
-- the parts have the own names that they had
pub own_placed : (ps : List JobPart) (n : ℕ) (q : Name) → times (own_names (placed_to n ps)) q ≡ times (own_names ps) q
own_placed ps zero q = refl
own_placed [] (suc n) q = refl
own_placed (y ∷ ys) (suc n) q = omega (arith, own_placed ys n q, times-cons y.own (own_names (placed_to n ys)) q, times-cons y.own (own_names ys) q)

-- so the job copies what it copied
pub copied_placed : (j now : Job) → now ≡ record j { parts = now.parts } → (n : ℕ) → now.parts ≡ placed_to n j.parts → (q : Name) → times (copied_names now) q ≡ times (copied_names j) q
copied_placed j now same n parts q =
    let own : times (own_names now.parts) q ≡ times (own_names j.parts) q = ap (λ (ps : List JobPart). times (own_names ps) q) parts ∙ own_placed j.parts n q in
    let missing : times now.missing q ≡ times j.missing q = ap (λ (k : Job). times k.missing q) same in
    omega (arith, own, missing, times-append now.missing (own_names now.parts) q, times-append j.missing (own_names j.parts) q)
