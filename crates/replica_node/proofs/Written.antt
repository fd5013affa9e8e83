-- What is written where the parts of a job get their own names.
use Rattle.std.proofs.Common.{◌≡◌, ◌⊎◌, ℕ, ◌+◌, ◌<◌, ◌≤◌, Bool, true, false, List, ◌++◌, refl, sym, ap, subst, ◌∙◌, arith, inl, inr, true≢false}
use Rattle.file_names.specs.Names.{is_pending_name}
use Rattle.disk_model.specs.Disk.{Name, Cells, is_among}
use Rattle.file_deleter.specs.Holdings.{Holdings, count_of, times}
use Rattle.file_deleter.specs.Moves.{MovesCounts}
use Rattle.file_deleter.proofs.NameLemmas.{times-append, among_times}
use Rattle.commit_steps.specs.declared.stage.CommitBook.{CommitBook}
use Rattle.commit_steps.specs.Book.{book_names}
use Rattle.searcher_switch.specs.Node.{IsWholeNode, IsApart}
use Rattle.searcher_switch.proofs.Carry.{node_moves}
use Rattle.copy_job.specs.declared.part.JobPart.{JobPart}
use Rattle.copy_job.specs.Parts.{present_names, written_names, placed_to}
use Rattle.copy_job.specs.Jobs.{Job, job_names}
use Rattle.copy_job.proofs.Placings.{IsWritten, written_is, other_name, present_some}
use Rattle.copy_job.proofs.Points.{present_to}
use Rattle.replica_node.specs.Replica.{CanPlace}

-- what is written while parts get their own names is none of a commit, and the commits hold none of it
module _ (a : Cells) (h0 : Holdings) (others : List Name) (j : Job) (book : CommitBook) (node : IsWholeNode a h0 (others ++ job_names j) book) (can : CanPlace h0 j) where
  pub written_apart : IsApart (written_names j.parts) book
  written_apart = record { plain = can.plain; files = λ q there. by q (among_times (book_names book) q there) (is_among (written_names j.parts) q) refl }
    where
      held : (q : Name) → 0 < times (book_names book) q → (w : IsWritten j.parts q) → (w.part.now ≡ q) ⊎ (w.part.own ≡ q) → ⊥
      held q some w (inl e) =
          let one : count_of h0 q ≡ 1 = ap (count_of h0) (sym e) ∙ (other_name h0 w.part (can.able.each w.place w.part w.at) w.apart).0 in
          let mine : 1 ≤ times (present_names j.parts) q = subst (λ (x : Name). 1 ≤ times (present_names j.parts) x) e (present_some j.parts w.place w.part w.at) in
          omega (arith, some, one, mine, node.counts q, times-append others (job_names j) q, times-append (present_names j.parts) j.reused q)
      held q some w (inr e) =
          let none : count_of h0 q ≡ 0 = ap (count_of h0) (sym e) ∙ (other_name h0 w.part (can.able.each w.place w.part w.at) w.apart).1 in
          omega (arith, some, none, node.counts q)

      by : (q : Name) → 0 < times (book_names book) q → (b : Bool) → is_among (written_names j.parts) q ≡ b → is_among (written_names j.parts) q ≡ false
      by q some true e = let w = written_is j.parts q e in absurd (held q some w w.is)
      by q some false e = e

  -- no name of a commit in preparation is held
  not_written : (q : Name) → is_pending_name q ≡ true → (b : Bool) → is_among (written_names j.parts) q ≡ b → is_among (written_names j.parts) q ≡ false
  not_written q named true e = absurd (true≢false (sym named ∙ (can.plain q e).1))
  not_written q named false e = e

  module _ (now : Job) (n : ℕ) (parts : now.parts ≡ placed_to n j.parts) (reused : now.reused ≡ j.reused) where
    pub now_plain : (q : Name) → is_pending_name q ≡ true → times (job_names now) q ≡ 0
    now_plain q named =
        let e : times (present_names now.parts) q ≡ times (present_names j.parts) q = ap (λ (ps : List JobPart). times (present_names ps) q) parts ∙ present_to j.parts n q (not_written q named (is_among (written_names j.parts) q) refl) in
        let f : times now.reused q ≡ times j.reused q = ap (λ (ns : List Name). times ns q) reused in
        omega (arith, e, f, node.plain.each q named, times-append others (job_names j) q, times-append (present_names j.parts) j.reused q, times-append (present_names now.parts) now.reused q)

    pub others_plain : (q : Name) → is_pending_name q ≡ true → times others q ≡ 0
    others_plain q named = omega (arith, node.plain.each q named, times-append others (job_names j) q)

    -- the job was refused
    pub refused_node : (b : Cells) (h1 : Holdings) → MovesCounts (written_names j.parts) (job_names j) (job_names now) h0 h1 a b → IsWholeNode b h1 (others ++ job_names now) book
    refused_node b h1 moves =
        node_moves a b h0 h1 (others ++ job_names j) (others ++ job_names now) (job_names j) (job_names now) book (written_names j.parts) node written_apart moves
        (λ q. omega (arith, times-append others (job_names j) q, times-append others (job_names now) q))
        (record { each = λ q named. omega (arith, now_plain q named, others_plain q named, times-append others (job_names now) q) })
