-- The job of a point that runs at a replica, for calls that name it by its number, and what is left where it stops.
use Rattle.std.proofs.Common.{◌≡◌, ◌∙◌, ℕ, Bool, true, false, Some, None, Option, is_some, refl, ap, sym, subst}
use Rattle.std.specs.Prelude.{◌==◌, not, IfSome, IsSome, if◌then◌else◌}
use Rattle.std.specs.Option.{option_map}
use Rattle.std.proofs.lemmas.Bool.{and_from, eq-eqb}
use Rattle.std.proofs.lemmas.Option.{none-some}
use Rattle.disk_model.specs.Disk.{Name, Cells}
use Rattle.searcher_switch.specs.Appearing.{NoneAppears}
use Rattle.copy_state.specs.declared.state.CopyState.{CopyState}
use Rattle.copy_job.specs.Jobs.{Job, with_part}
use Rattle.index_primary.specs.declared.parts.PrimaryParts.{PrimaryParts}
use Rattle.index_primary.specs.States.{out_of, is_out, states_without}
use Rattle.replica_node.specs.declared.job.PointJob.{PointJob}
use Rattle.replica_node.specs.declared.parts.ReplicaParts.{ReplicaParts}
use Rattle.replica_node.specs.Jobs.{running_point, stopped_job}
use Rattle.replica_node.specs.Replica.{IsWholeReplica, AreStanding}
use Rattle.replica_node.specs.Sources.{KeepsSource}
use Rattle.replica_node.specs.Running.{is_job_number, running_job, with_job, without_job}
use Rattle.cluster_nodes.specs.JobChanges.{AltersStates}
use Rattle.cluster_nodes.specs.Ends.{StopsJob, TakesBack}
use Rattle.replica_node.proofs.Lent.{RunsHere, runs_here}
use Rattle.cluster_nodes.proofs.Stepping.{alters_none, job_none}

-- what the law on numbers says
abbrev pub NumberLaw : (D : Type 0) → Type 0
NumberLaw D = (number : ℕ) (p : ReplicaParts D) (j : PointJob) → p.job ≡ Some j → j.stopped ≡ false → j.copy.number ≡ number
    → (running_job number p ≡ Some j.copy) × ((k : Job) → with_job number k p ≡ record p { job = Some (record j { copy = k }) }) × (without_job number p ≡ record p { job = Some (stopped_job j) })

module _ {D : Type 0} where
  -- the job of a point, which runs and has this number: the calls by number are about it
  pub record RunsPoint (number : ℕ) (c : Job) (r : ReplicaParts D) : Type 0 where
    pub here : RunsHere c r.job
    pub number_is : number ≡ here.job.copy.number
    pub test : is_job_number number r.job ≡ true
    pub runs : running_job number r ≡ Some here.job.copy
    pub changes : (k : Job) → with_job number k r ≡ record r { job = Some (record here.job { copy = k }) }
    pub stops : without_job number r ≡ record r { job = Some (stopped_job here.job) }

  pub runs_point : NumberLaw D → (number : ℕ) (c : Job) (r : ReplicaParts D) → Some c ≡ option_map (λ (j : PointJob). j.copy) (running_point r.job) → number ≡ c.number → RunsPoint number c r
  runs_point law number c r lent is =
      let here : RunsHere c r.job = runs_here r.job c lent in
      let same : number ≡ here.job.copy.number = is ∙ ap (λ (x : Job). x.number) here.copy in
      let all = law number r here.job here.there here.going (sym same) in
      record {
        here = here;
        number_is = same;
        test = ap (is_job_number number) here.there ∙ and_from (not here.job.stopped) (here.job.copy.number == number) (ap not here.going) (eq-eqb here.job.copy.number number (sym same));
        runs = all.0;
        changes = all.1;
        stops = all.2;
      }

  -- it runs
  pub some_runs : (number : ℕ) (c : Job) (r : ReplicaParts D) → RunsPoint number c r → IsSome (running_job number r)
  some_runs number c r is = ap is_some is.runs

  -- what holds of it holds of the one that runs
  pub all_runs : (P : Job → Type 0) (number : ℕ) (c : Job) (r : ReplicaParts D) → RunsPoint number c r → P c → IfSome (running_job number r) P
  all_runs P number c r is has = subst (λ (o : Option Job). IfSome o P) (sym is.runs) (subst P is.here.copy has)

  -- and what holds of the job that runs holds of it
  pub copy_has : (P : Job → Type 0) (number : ℕ) (c : Job) (r : ReplicaParts D) → RunsPoint number c r → IfSome (running_point r.job) (λ j. P j.copy) → P c
  copy_has P number c r is has = subst P (sym is.here.copy) (subst (λ (o : Option PointJob). IfSome o (λ j. P j.copy)) is.here.point has)

  -- it has one part more
  pub point_arrived : (number : ℕ) (c : Job) (r s : ReplicaParts D) (name : Name) (is : RunsPoint number c r) → IfSome (running_job number r) (λ j. s ≡ record (with_job number (with_part j name) r) { dir = s.dir; files = s.files })
      → s ≡ record r { dir = s.dir; files = s.files; job = Some (record is.here.job { copy = with_part is.here.job.copy name }) }
  point_arrived number c r s name is made =
      subst (λ (o : Option Job). IfSome o (λ j. s ≡ record (with_job number (with_part j name) r) { dir = s.dir; files = s.files })) is.runs made
      ∙ ap (λ (x : ReplicaParts D). record x { dir = s.dir; files = s.files }) (is.changes (with_part is.here.job.copy name))

  module _ (cells : D → Cells) where
    -- a job that does not run is stopped already
    stopped_same : (o : Option PointJob) → running_point o ≡ None → o ≡ option_map stopped_job o
    stopped_same None none = refl
    stopped_same (Some j) none = by j.stopped refl
      where
        by : (b : Bool) → j.stopped ≡ b → Some j ≡ Some (stopped_job j)
        by true e = λ i. Some (record j { stopped = e i })
        by false e = absurd (none-some j (sym none ∙ ap (λ (b : Bool). if b then None else Some j) e))

    -- no job stops where none runs
    pub none_stops : (r : ReplicaParts D) → running_point r.job ≡ None → StopsJob cells r r
    none_stops r none = record { alters = job_none cells r; stops = stopped_same r.job none; dir = refl; files = refl; jobs = refl; seen = refl; copies = refl }

    -- the job stops
    pub point_stops : (number : ℕ) (c : Job) (r s : ReplicaParts D) → RunsPoint number c r → (is_job_number number r.job ≡ true → s ≡ without_job number r) → IsWholeReplica cells s → (AreStanding cells r → AreStanding cells s) → KeepsSource cells r s
        → NoneAppears (cells r.dir) (cells s.dir) → StopsJob cells r s
    point_stops number c r s is kept whole standing sourced appears = record {
      alters = record {
        others = left ∙ ap (λ (x : ReplicaParts D). record r { dir = x.dir; files = x.files; seen = x.seen; jobs = x.jobs; job = x.job; copies = x.copies }) (sym left);
        whole = λ w. whole;
        standing = standing;
        sourced = sourced;
        appears = appears;
      };
      stops = ap (λ (x : ReplicaParts D). x.job) left ∙ ap (option_map stopped_job) (sym is.here.there);
      dir = ap (λ (x : ReplicaParts D). x.dir) left;
      files = ap (λ (x : ReplicaParts D). x.files) left;
      jobs = ap (λ (x : ReplicaParts D). x.jobs) left;
      seen = ap (λ (x : ReplicaParts D). x.seen) left;
      copies = ap (λ (x : ReplicaParts D). x.copies) left;
    }
      where
        left : s ≡ record r { job = Some (stopped_job is.here.job) }
        left = kept is.test ∙ is.stops

    -- ---- a state is given back, where there is one
    pub nothing_back : (p : PrimaryParts D) (o : Option CopyState) → ((x : CopyState) → o ≡ Some x → ⊥) → TakesBack cells (option_map out_of o) p p
    nothing_back p None none = record { alters = alters_none cells p; states = refl }
    nothing_back p (Some x) none = absurd (none x refl)

    pub state_back : (p q : PrimaryParts D) (o : Option CopyState) (state : CopyState) → o ≡ Some state → AltersStates cells p q → q.states ≡ states_without (out_of state) p.states → TakesBack cells (option_map out_of o) p q
    state_back p q o state is alters back = subst (λ (x : Option CopyState). TakesBack cells (option_map out_of x) p q) (sym is) (record { alters = alters; states = back })

    pub back_out : (p : PrimaryParts D) (o : Option CopyState) (state : CopyState) → o ≡ Some state → IfSome (option_map out_of o) (λ s. is_out s p.states ≡ true) → is_out (out_of state) p.states ≡ true
    back_out p o state is out = subst (λ (x : Option CopyState). IfSome (option_map out_of x) (λ s. is_out s p.states ≡ true)) is out
