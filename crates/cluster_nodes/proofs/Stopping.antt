-- What a disk that fails makes of the primary, and of a job, which is stopped.
use Rattle.std.proofs.Common.{◌≡◌, ◌∙◌, ◌<◌, ◌^◌, inl, inr, ℕ, true, List, Some, None, Option, Result, Err, ap, sym, subst, ⊎_elim, arith}
use Rattle.std.specs.Prelude.{IfSome, IsSomeAnd}
use Rattle.std.specs.Option.{option_map}
use Rattle.disk_model.specs.Disk.{Name, Content, Cells}
use Rattle.file_deleter.specs.Holdings.{times, IsThere}
use Rattle.file_names.specs.Names.{temp_name_of}
use Rattle.searcher_switch.specs.Appearing.{AppearsOnly}
use Rattle.searcher_switch.proofs.Appearing.{only_none, stood_or}
use Rattle.copy_state.specs.declared.state.CopyState.{CopyState}
use Rattle.copy_job.specs.declared.copying.Part.{Part}
use Rattle.copy_job.specs.declared.fault.JobFault.{JobFault}
use Rattle.copy_job.specs.declared.fault.JobFault.TheVariants.{DirFailed}
use Rattle.copy_job.specs.Parts.{placed_to}
use Rattle.copy_job.specs.Jobs.{Job}
use Rattle.index_primary.specs.declared.parts.PrimaryParts.{PrimaryParts}
use Rattle.index_primary.specs.declared.states.Out.{Out}
use Rattle.index_primary.specs.Primary.{IsPrimary}
use Rattle.index_primary.specs.Calls.{HoldsNoNew}
use Rattle.index_primary.specs.States.{out_of, is_out, states_without}
use Rattle.replica_node.specs.declared.job.PointJob.{PointJob}
use Rattle.replica_node.specs.declared.parts.ReplicaParts.{ReplicaParts}
use Rattle.replica_node.specs.Jobs.{running_point, stopped_job}
use Rattle.replica_node.specs.Replica.{IsWholeReplica, AreStanding}
use Rattle.replica_node.specs.Sources.{IsSourced, KeepsSource, IsWantedName, IsStillCopying}
use Rattle.replica_node.proofs.Lent.{RunsHere}
use Rattle.cluster_nodes.specs.JobChanges.{AltersStates, IsLeftName, StopsAt, StopsFor}
use Rattle.cluster_nodes.specs.Ends.{StopsJob}
use Rattle.cluster_nodes.proofs.Stepping.{alters_by, alters_then, none_by}

-- what is so of each job is so of the one that is there
some_job : (o : Option PointJob) (P Q : PointJob → Type 0) → ((j : PointJob) → P j → Q j) → IfSome o P → IfSome o Q
some_job None P Q step was = tt
some_job (Some j) P Q step was = step j was

-- the answer of a call whose disk failed
pub dir_failed : {T : Type 0} (r : Result T JobFault) (fault : JobFault) → r ≡ Err fault → fault ≡ DirFailed → r ≡ Err DirFailed
dir_failed r fault is failed = is ∙ ap (λ (f : JobFault). Err f) failed

module _ {D : Type 0} (cells : D → Cells) where
  -- ---- the primary

  -- a file was read, or could not be
  pub reads_alters : (p q : PrimaryParts D) → cells q.dir ≡ cells p.dir → q ≡ record p { dir = q.dir } → HoldsNoNew p q → IsPrimary cells q → AltersStates cells p q
  reads_alters p q same is no_new whole =
      alters_by cells p q (record { held = λ name a b. ap (λ (c : Cells). (c name).now) same }) no_new (none_by same)
      (is ∙ ap (λ (x : PrimaryParts D). record p { dir = q.dir; files = x.files; states = x.states }) (sym is)) (λ w. whole)

  -- a state that was out before is out
  pub still_out : (p q : PrimaryParts D) (o : Option Out) → q.states ≡ p.states → IfSome o (λ s. is_out s p.states ≡ true) → IfSome o (λ s. is_out s q.states ≡ true)
  still_out p q o same out = subst (λ (ts : List Out). IfSome o (λ s. is_out s ts ≡ true)) (sym same) out

  -- ---- a job that is stopped

  pub stops_for : (p q : PrimaryParts D) (r s : ReplicaParts D) (state : CopyState) (c : Job) → RunsHere c r.job → state ≡ c.want → AltersStates cells p q → q.states ≡ states_without (out_of state) p.states → StopsJob cells r s
      → StopsFor cells None p q r s
  stops_for p q r s state c is want altered back stops = subst (λ (o : Option PointJob). IfSome o (λ j. StopsAt cells None j p q r s)) (sym is.point) (record {
    primary = altered;
    states = back ∙ ap (λ (x : CopyState). states_without (out_of x) p.states) (want ∙ ap (λ (x : Job). x.want) is.copy);
    others = stops.alters.others ∙ (λ i. record r {
      dir = s.dir;
      files = s.files;
      seen = stops.seen i;
      jobs = stops.jobs i;
      job = s.job;
      copies = stops.copies i;
      known = sym (ap (λ (x : ReplicaParts D). x.known) stops.alters.others) i;
    });
    whole = stops.alters.whole;
    standing = stops.alters.standing;
    sourced = λ source at was. stops.alters.sourced source was;
    placed = 0;
    job = stops.stops ∙ ap (option_map stopped_job) is.there;
    appears = only_none (IsLeftName is.job) (cells r.dir) (cells s.dir) stops.alters.appears;
  })

  -- the primary's disk failed before
  pub stops_behind : (part : Option Part) (p q t : PrimaryParts D) (r s : ReplicaParts D) → AltersStates cells p q → q.states ≡ p.states → StopsFor cells part q t r s → StopsFor cells part p t r s
  stops_behind part p q t r s altered same stops = some_job (running_point r.job) (λ j. StopsAt cells part j q t r s) (λ j. StopsAt cells part j p t r s) (λ j was. record {
    primary = alters_then cells p q t altered was.primary;
    states = was.states ∙ ap (states_without (out_of j.copy.want)) same;
    others = was.others;
    whole = was.whole;
    standing = was.standing;
    sourced = was.sourced;
    placed = was.placed;
    job = was.job;
    appears = was.appears;
  }) stops

  -- ---- while its point was to be searched

  pub stops_finishing : (p q : PrimaryParts D) (r s : ReplicaParts D) (state : CopyState) (c : Job) → RunsHere c r.job → state ≡ c.want → AltersStates cells p q → q.states ≡ states_without (out_of state) p.states
      → s ≡ record r { dir = s.dir; files = s.files; searchers = s.searchers; infos = s.infos; segs = s.segs; job = s.job; copies = s.copies; known = s.known } → IsWholeReplica cells s → (AreStanding cells r → AreStanding cells s) → KeepsSource cells r s
      → AppearsOnly (IsWantedName r.job) (cells r.dir) (cells s.dir) → IfSome r.job (IsStillCopying r s) → IsSomeAnd s.job (λ k. k.stopped ≡ true) → StopsFor cells None p q r s
  stops_finishing p q r s state c is want altered back others whole standing sourced appears still stopped =
      let left : IsStillCopying r s is.job = subst (λ (o : Option PointJob). IfSome o (IsStillCopying r s)) is.there still in
      let halted : left.halted ≡ true = subst (λ (o : Option PointJob). IsSomeAnd o (λ k. k.stopped ≡ true)) left.job stopped in
      subst (λ (o : Option PointJob). IfSome o (λ j. StopsAt cells None j p q r s)) (sym is.point) (record {
        primary = altered;
        states = back ∙ ap (λ (x : CopyState). states_without (out_of x) p.states) (want ∙ ap (λ (x : Job). x.want) is.copy);
        others = others ∙ (λ i. record r { dir = s.dir; files = s.files; searchers = left.searchers i; infos = left.infos i; segs = left.segs i; job = s.job; copies = left.copies i; known = s.known });
        whole = λ w. whole;
        standing = standing;
        sourced = λ source at was. sourced source was;
        placed = left.placed;
        job = left.job ∙ (λ i. Some (record is.job { copy = record is.job.copy { parts = placed_to left.placed is.job.copy.parts }; stopped = halted i }));
        appears = record { each = λ name none stands. inl (subst (λ (o : Option PointJob). IsWantedName o name) is.there (appears.each name none stands)) };
      })

  -- ---- while a part was to be written

  pub stops_writing : (part : Part) (p q : PrimaryParts D) (r u s : ReplicaParts D) (c : Job) (is : RunsHere c r.job) (number : ℕ) → u ≡ record r { dir = u.dir; files = u.files } → IsWholeReplica cells u → (AreStanding cells r → AreStanding cells u)
      → ((source : Name → Content) → source part.name ≡ Some part.bytes → IsSourced source cells r → IsSourced source cells u) → number ≡ is.job.copy.number → number < 2 ^ 64 → 0 < times is.job.copy.missing part.name
      → AppearsOnly (λ name. name ≡ temp_name_of part.name number) (cells r.dir) (cells u.dir) → StopsFor cells None p q u s → StopsFor cells (Some part) p q r s
  stops_writing part p q r u s c is number left whole standing sourced same_number small lacks appears stops =
      let was : StopsAt cells None is.job p q u s = subst (λ (o : Option PointJob). IfSome o (λ j. StopsAt cells None j p q u s)) (ap (λ (x : ReplicaParts D). running_point x.job) left ∙ is.point) stops in
      subst (λ (o : Option PointJob). IfSome o (λ j. StopsAt cells (Some part) j p q r s)) (sym is.point) (record {
        primary = was.primary;
        states = was.states;
        others = was.others ∙ ap (λ (x : ReplicaParts D). record x { dir = s.dir; files = s.files; job = s.job; known = s.known }) left;
        whole = λ w. was.whole whole;
        standing = λ w. was.standing (standing w);
        sourced = λ source at before. was.sourced source tt (sourced source at before);
        placed = was.placed;
        job = was.job;
        appears = record { each = λ name none stands. ⊎_elim (λ there. written name none there) (λ named. named) (stood_or (IsLeftName is.job) (cells u.dir) (cells s.dir) was.appears name stands) };
      })
    where
      written : (name : Name) → (cells r.dir name).now ≡ None → IsThere (cells u.dir) name → IsLeftName is.job name
      written name none there = inr (part.name, (lacks, (omega (arith, same_number, small)), appears.each name none there ∙ ap (temp_name_of part.name) same_number))
