-- A part that arrives.
use Rattle.replica_node.proofs.PartsArriving.{part_added, adds_made, adds_none, temp_plain, temp_none}
use Rattle.replica_node.proofs.Cores.{IsCore}
use Rattle.std.proofs.Common.{◌≡◌, ◌+◌, ◌<◌, ◌^◌, Bool, true, false, List, [], ◌∷◌, ◌++◌, Option, Some, cond, refl, sym, ap, subst, ◌∙◌, arith, inl, inr}
use Rattle.file_names.specs.Names.{temp_name_of}
use Rattle.disk_model.specs.Disk.{Name, Cells, same, is_among}
use Rattle.disk_model.proofs.CellLemmas.{same_true}
use Rattle.file_deleter.specs.Holdings.{Holdings, count_of, times}
use Rattle.file_deleter.specs.Moves.{MovesCounts}
use Rattle.file_deleter.proofs.NameLemmas.{times-append, times_one, among_times}
use Rattle.searcher_switch.specs.Node.{IsWholeNode, IsApart, HasNoPending, AddsOnly}
use Rattle.searcher_switch.specs.Tickets.{ticket_names}
use Rattle.searcher_switch.specs.Searching.{searcher_names}
use Rattle.replica_opening.specs.Known.{IsLasting}
use Rattle.commit_steps.specs.Book.{book_names}
use Rattle.searcher_switch.proofs.Carry.{node_moves, unheld_apart}
use Rattle.copy_job.specs.Jobs.{Job, job_names, IsJob, with_part}
use Rattle.replica_node.specs.declared.parts.ReplicaParts.{ReplicaParts}
use Rattle.replica_node.specs.Merges.{copies_names, copied_names}
use Rattle.replica_node.proofs.Sparing.{copied_missing}
use Rattle.replica_node.specs.Replica.{IsPointState, IsJobAbove, names_of_job}
use Rattle.replica_node.specs.declared.job.PointJob.{PointJob}
use Rattle.std.specs.Prelude.{IfSome}
use Rattle.copy_state.specs.declared.state.CopyState.{CopyState}
use Rattle.replica_node.specs.Waiting.{IsWaiting}
use Rattle.replica_node.proofs.Waiting.{temp_free, waits_arrived}
use Rattle.replica_node.proofs.Temporary.{book_no_temporary}
use Rattle.replica_node.proofs.Along.{point_along}

-- ---- a replica over a part that arrives, or does not
module _ {D : Type 0} (cells : D → Cells) (p : ReplicaParts D) (is : IsCore cells p) (j : PointJob) (e : p.job ≡ Some j) where
  pub node_j : IsWholeNode (cells p.dir) p.files (searcher_names p.searchers ++ (job_names j.copy ++ copies_names p.copies)) p.commits
  node_j = subst (λ (x : Option PointJob). IsWholeNode (cells p.dir) p.files (searcher_names p.searchers ++ (names_of_job x ++ copies_names p.copies)) p.commits) e is.node

  -- the names of all holders, with these of the job
  pub held_split : (names : List Name) (q : Name) → times (searcher_names p.searchers ++ (names ++ copies_names p.copies)) q ≡ times (searcher_names p.searchers) q + (times names q + times (copies_names p.copies) q)
  held_split names q = omega (arith, times-append (searcher_names p.searchers) (names ++ copies_names p.copies) q, times-append names (copies_names p.copies) q)

  module _ (name : Name) (free : count_of p.files (temp_name_of name j.copy.number) ≡ 0) (dir : D) (files : Holdings) (now : Job)
      (moves : MovesCounts (temp_name_of name j.copy.number ∷ []) (job_names j.copy) (job_names now) p.files files (cells p.dir) (cells dir))
      (adds : AddsOnly (temp_name_of name j.copy.number ∷ []) (job_names j.copy) (job_names now)) where
    apart : IsApart (temp_name_of name j.copy.number ∷ []) p.commits
    apart = unheld_apart (cells p.dir) p.files (searcher_names p.searchers ++ (job_names j.copy ++ copies_names p.copies)) (temp_name_of name j.copy.number ∷ []) p.commits node_j (temp_plain name j.copy.number) (λ q there. by q (same (temp_name_of name j.copy.number) q) refl there)
      where
        by : (q : Name) (b : Bool) → same (temp_name_of name j.copy.number) q ≡ b → is_among (temp_name_of name j.copy.number ∷ []) q ≡ true → count_of p.files q ≡ 0
        by q true f there = subst (λ (x : Name). count_of p.files x ≡ 0) (same_true (temp_name_of name j.copy.number) q f) free
        by q false f there = let n = among_times (temp_name_of name j.copy.number ∷ []) q there in absurd (omega (arith, n, times_one (temp_name_of name j.copy.number) q ∙ ap (λ b. cond b 1 0) f))

    plain : HasNoPending (searcher_names p.searchers ++ (job_names now ++ copies_names p.copies))
    plain = record {
      each = λ q named.
          let none : times (searcher_names p.searchers ++ (job_names j.copy ++ copies_names p.copies)) q ≡ 0 = node_j.plain.each q named in
          omega (arith, none, held_split (job_names j.copy) q, held_split (job_names now) q, adds.each q (omega (arith, none, held_split (job_names j.copy) q)) (temp_none name j.copy.number q named));
    }

    node_arrived : IsWholeNode (cells dir) files (searcher_names p.searchers ++ (job_names now ++ copies_names p.copies)) p.commits
    node_arrived = node_moves (cells p.dir) (cells dir) p.files files (searcher_names p.searchers ++ (job_names j.copy ++ copies_names p.copies)) (searcher_names p.searchers ++ (job_names now ++ copies_names p.copies)) (job_names j.copy) (job_names now) p.commits
        (temp_name_of name j.copy.number ∷ []) node_j apart moves
        (λ q. omega (arith, held_split (job_names j.copy) q, held_split (job_names now) q)) plain

    pub arrived : (is_job : IsJob now) → now.want ≡ j.copy.want → IsWaiting files now → IsCore cells (record p { dir = dir; files = files; job = Some (record { copy = now; infos = j.infos; stopped = j.stopped }) })
    arrived is_job want waits = record {
      node = node_arrived;
      point = point_along (cells p.dir) (cells dir) p.infos p.searchers.point is.point (λ q some.
          let n : 0 < times (searcher_names p.searchers) q = omega (arith, some, times-append p.searchers.point.names (ticket_names p.searchers.tickets) q) in
          moves.keeps.reads q (omega (arith, n, node_j.counts q, held_split (job_names j.copy) q)) (omega (arith, n, node_arrived.counts q, held_split (job_names now) q)));
      spelled = is.spelled;
      newer =
          let was : IsJobAbove p.searchers.point.version.0 j = subst (λ (x : Option PointJob). IfSome x (IsJobAbove p.searchers.point.version.0)) e is.newer in
          record { copy = is_job; state = subst (λ (s : CopyState). IsPointState s j.infos) (sym want) was.state; above = was.above };
      lasting = is.lasting;
      waits = waits;
    }

-- ---- a part of the job arrives, or does not
module _ {D : Type 0} (cells : D → Cells) (p : ReplicaParts D) (is : IsCore cells p) (j : PointJob) (e : p.job ≡ Some j) (few : j.copy.number < 2 ^ 64) (foreign : (name : Name) → 0 < times (copied_names j.copy) name → times (copies_names p.copies) (temp_name_of name j.copy.number) ≡ 0) where
  above_j : IsJobAbove p.searchers.point.version.0 j
  above_j = subst (λ (x : Option PointJob). IfSome x (IsJobAbove p.searchers.point.version.0)) e is.newer

  waits_j : IsWaiting p.files j.copy
  waits_j = subst (λ (x : Option PointJob). IfSome x (λ k. IsWaiting p.files k.copy)) e is.waits

  counts_j : (q : Name) → count_of p.files q ≡ times ((searcher_names p.searchers ++ book_names p.commits) ++ copies_names p.copies) q + times (job_names j.copy) q
  counts_j q = omega (arith, (node_j cells p is j e).counts q, held_split cells p is j e (job_names j.copy) q, times-append (searcher_names p.searchers ++ book_names p.commits) (copies_names p.copies) q, times-append (searcher_names p.searchers) (book_names p.commits) q)

  module _ (name : Name) (missing : IfSome p.job (λ k. 0 < times k.copy.missing name)) where
    missing_j : 0 < times j.copy.missing name
    missing_j = subst (λ (x : Option PointJob). IfSome x (λ k. 0 < times k.copy.missing name)) e missing

    others_none : times ((searcher_names p.searchers ++ book_names p.commits) ++ copies_names p.copies) (temp_name_of name j.copy.number) ≡ 0
    others_none = omega (
      arith,
      foreign name (copied_missing j.copy name missing_j),
      is.lasting.each name j.copy.number,
      (book_no_temporary (cells p.dir) p.files p.commits is.node.sound).each name j.copy.number,
      times-append (searcher_names p.searchers ++ book_names p.commits) (copies_names p.copies) (temp_name_of name j.copy.number),
      times-append (searcher_names p.searchers) (book_names p.commits) (temp_name_of name j.copy.number),
    )

    pub free_j : count_of p.files (temp_name_of name j.copy.number) ≡ 0
    free_j = temp_free j.infos j.copy above_j.copy above_j.state.files p.files waits_j few name missing_j ((searcher_names p.searchers ++ book_names p.commits) ++ copies_names p.copies) others_none counts_j

    module _ (dir : D) (files : Holdings) (now : Job) (moves : MovesCounts (temp_name_of name j.copy.number ∷ []) (job_names j.copy) (job_names now) p.files files (cells p.dir) (cells dir)) (is_job : IsJob now) where
      pub arrives : now ≡ with_part j.copy name → IsCore cells (record p { dir = dir; files = files; job = Some (record { copy = now; infos = j.infos; stopped = j.stopped }) })
      arrives made = arrived cells p is j e name free_j dir files now moves (adds_made j.copy now name made) is_job (ap (λ (x : Job). x.want) made)
          (waits_arrived j.infos j.copy above_j.copy above_j.state.files p.files waits_j few name missing_j files now made free_j (λ q. omega (arith, moves.balance q, part_added j.copy now name made q)))

      pub stays_out : now ≡ j.copy → IsCore cells (record p { dir = dir; files = files; job = Some (record { copy = now; infos = j.infos; stopped = j.stopped }) })
      stays_out same_job = arrived cells p is j e name free_j dir files now moves (adds_none j.copy now name same_job) is_job (ap (λ (x : Job). x.want) same_job) (subst (IsWaiting files) (sym same_job) still)
        where
          same_counts : (q : Name) → count_of files q ≡ count_of p.files q
          same_counts q = let f : times (job_names now) q ≡ times (job_names j.copy) q = ap (λ (x : Job). times (job_names x) q) same_job in omega (arith, f, moves.balance q)

          still : IsWaiting files j.copy
          still = record {
            each = λ place part at. elim (waits_j.each place part at) [ inl own ↦ inl own | inr l ↦ inr (record { job = l.job; small = l.small; temporary = l.temporary; once = same_counts part.now ∙ l.once; free = same_counts part.own ∙ l.free }) ];
            missing = λ q some. same_counts q ∙ waits_j.missing q some;
          }

-- the files of segments are counted as before
pub counts_new : {D : Type 0} (cells : D → Cells) (p : ReplicaParts D) → IsCore cells p → (j : PointJob) → p.job ≡ Some j → (name : Name) (dir : D) (files : Holdings) (now : Job)
    → MovesCounts (temp_name_of name j.copy.number ∷ []) (job_names j.copy) (job_names now) p.files files (cells p.dir) (cells dir) → now ≡ with_part j.copy name → (q : Name) → IsLasting q → count_of files q ≡ count_of p.files q
counts_new cells p is j e name dir files now moves made q lasting = omega (arith, moves.balance q, part_added j.copy now name made q, none (same (temp_name_of name j.copy.number) q) refl)
  where
    none : (b : Bool) → same (temp_name_of name j.copy.number) q ≡ b → times (temp_name_of name j.copy.number ∷ []) q ≡ 0
    none true f = absurd (lasting.temporary name j.copy.number (sym (same_true (temp_name_of name j.copy.number) q f)))
    none false f = times_one (temp_name_of name j.copy.number) q ∙ ap (λ b. cond b 1 0) f
