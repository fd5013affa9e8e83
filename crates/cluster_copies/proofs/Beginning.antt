-- What is shown of files and jobs once a job of the newest point has begun.
use Rattle.std.proofs.Common.{◌≡◌, ◌≢◌, ◌≤◌, ◌<◌, ◌+◌, ◌&&◌, ◌==◌, ℕ, Bool, true, false, true≢false, List, [], ◌∷◌, ◌++◌, Some, None, Option, nat_le, refl, ap, ◌∙◌, sym, subst, arith, if◌then◌else◌, length}
use Rattle.std.specs.Prelude.{IsSomeAnd, IfSome, not, Contains}
use Rattle.std.specs.List.{All, flat_map}
use Rattle.std.proofs.lemmas.Bool.{eq-eqb}
use Rattle.std.proofs.lemmas.Bool.Decides.{nat_tests}
use Rattle.nrt_base.specs.declared.numbers.At.{At}
use Rattle.nrt_base.specs.declared.numbers.NodeNo.{NodeNo}
use Rattle.nrt_base.specs.declared.numbers.Version.{Version}
use Rattle.disk_model.specs.Disk.{Name, Content, Cells, same}
use Rattle.segment_infos.specs.declared.infos.Infos.{Infos}
use Rattle.segment_infos.specs.Files.{files_of_segment, AreFilesOf}
use Rattle.segment_infos.proofs.FileLaws.{infos_files_one_to_one}
use Rattle.copy_state.specs.declared.state.CopyState.{CopyState}
use Rattle.index_primary.specs.declared.parts.PrimaryParts.{PrimaryParts}
use Rattle.index_primary.specs.declared.states.Out.{Out}
use Rattle.index_primary.specs.States.{out_of, is_out}
use Rattle.replica_opening.specs.Known.{IsLasting, HasMeta}
use Rattle.replica_node.specs.declared.job.PointJob.{PointJob}
use Rattle.replica_node.specs.declared.parts.ReplicaParts.{ReplicaParts}
use Rattle.history_rules.specs.declared.entry.Event.TheVariants.{Copying}
use Rattle.history_rules.specs.Nodes.{Past, IsNode, is_at, primary_of, newest_version, version_of}
use Rattle.history_rules.specs.Lines.{same_at, start_entry, before_start, copy_in_flight}
use Rattle.history_rules.specs.Commits.{is_passed}
use Rattle.history_rules.specs.Legal.{KeepsRule, IsLegalPast}
use Rattle.history_rules.proofs.PassedLaws.{newest_is_unpassed}
use Rattle.history_tables.specs.declared.jobs.Job.{Job}
use Rattle.history_tables.specs.declared.jobs.JobStep.TheVariants.{Begins}
use Rattle.history_tables.specs.JobRows.{new_job_row, row_if_some, while_going}
use Rattle.history_tables.specs.NodeRows.{crashed_at}
use Rattle.history_tables.specs.Numbering.{primary_crashed}
use Rattle.history_tables.proofs.RowLemmas.{same_at_self}
use Rattle.history_book.specs.Log.{Log, printed, shown, kept}
use Rattle.history_book.specs.declared.inner.Inner.TheVariants.{JobBegun}
use Rattle.history_book.specs.Jobs.{last_job, job_at, IsOlder}
use Rattle.history_book.specs.Turns.{InTurn, AreInTurn}
use Rattle.history_book.proofs.ReignLaws.{crashed_low, primary_crashed_low}
use Rattle.cluster_nodes.specs.declared.nodes.Node.{Node}
use Rattle.cluster_nodes.specs.declared.nodes.Node.TheVariants.{Primary, Replica, Down}
use Rattle.cluster_nodes.specs.declared.nodes.NodePlace.{NodePlace}
use Rattle.cluster_nodes.specs.Places.{place_of}
use Rattle.cluster_state.specs.State.{NodeShows, Shows}
use Rattle.cluster_state.specs.FilesOut.{is_job, file_out}
use Rattle.cluster_nodes.specs.Outs.{want_of, want_at, one_like, jobs_like, states_like}
use Rattle.cluster_state.specs.Files.{CopyShows, JobShows, IsJobFor, ReplicaFiles, PrimaryFiles, NodeFiles, FilesShow}
use Rattle.cluster_state.specs.FileChanges.{SameJob, CarriesNoMore}
use Rattle.cluster_nodes.specs.JobChanges.{given_back, BeginsAt}
use Rattle.cluster_nodes.specs.JobPlaces.{BeginsIn}
use Rattle.cluster_state.proofs.Frames.{some_at}
use Rattle.cluster_state.proofs.JobFrames.{same_shown, same_inner, same_then}
use Rattle.cluster_nodes.proofs.OutCounts.{states_push, states_given, jobs_moved}
use Rattle.cluster_state.specs.Disks.{IsPastPoint, PointsStay, CommitsStay}
use Rattle.cluster_state.proofs.Points.{points_alone, point_stays}
use Rattle.cluster_state.proofs.Disks.{fresh_flights, commits_shown, commits_alone, disks_moved, disk_same, disks_kept}
use Rattle.cluster_state.proofs.Wider.{primary_stays, primary_kept}
use Rattle.cluster_state.proofs.Drawn.{Grows, grows_none, grows_shown}
use Rattle.cluster_state.proofs.Naming.{means_more, altered_steps, altered_job}
use Rattle.cluster_state.proofs.FileFrames.{names_both, replica_same, both_each, both_of, Both, wants_apart}
use Rattle.cluster_state.proofs.FileJobs.{job_out, want_runs}
use Rattle.cluster_nodes.proofs.Stepping.{out_pushed}
use Rattle.cluster_state.proofs.PointStands.{state_metas}

-- ---- the past

-- what a job's beginning rests on: the entries behind which it begins
pub record BeginsOver (log mid : Log) (at : At) (n v : ℕ) : Type 0 where
  pub grows : Grows (printed log) (printed mid)
  pub no_more : CarriesNoMore log mid
  pub same : (m : ℕ) → (n == m) ≡ false → is_at (primary_of (printed log)) m ≡ false → SameJob log mid m
  pub newest : newest_version (printed mid) ≡ newest_version (printed log)
  pub version : v ≡ newest_version (printed log)
  pub unpassed : is_passed n v (printed mid) ≡ false
  pub begun : start_entry at (printed mid) ≢ None
  pub behind : version_of n (printed mid) < newest_version (before_start at (printed mid))
  pub flight : (a : At) → copy_in_flight n (newest_version (printed mid)) (printed mid) ≡ Some a → a ≡ at
  pub stay : (m : ℕ) → CommitsStay (printed log) (printed mid) m

-- a copy starts
pub over_copying : (size : ℕ) (log : Log) (at : At) (n : NodeNo) (v : Version) → IsLegalPast size (printed log) → AreInTurn (printed log) → KeepsRule size (printed log) at (Copying n v) → InTurn (printed log) at (Copying n v)
    → version_of n.0 (printed log) < v.0 → BeginsOver log (shown at (Copying n v) ∷ log) at n.0 v.0
over_copying size log at n v legal turns rule turn behind = record {
  grows = grows_shown size (printed log) at (Copying n v) legal rule;
  no_more = λ q bytes out. out;
  same = λ m apart other. same_shown size log at m legal turns other (Copying n v) rule turn (ap not apart);
  newest = refl;
  version = rule.newest;
  unpassed = newest_is_unpassed size n.0 v.0 (printed (shown at (Copying n v) ∷ log)) (rule, legal) (let is : newest_version (printed (shown at (Copying n v) ∷ log)) ≡ v.0 = sym rule.newest in omega (arith, is));
  begun = λ none. begins (sym (ap (λ (b : Bool). if b then Some (Copying n v) else start_entry at (printed log)) mine) ∙ none);
  behind = subst (λ (p : Past). version_of n.0 (printed log) < newest_version p) (sym (ap (λ (b : Bool). if b then printed log else before_start at (printed log)) mine))
      (let is : v.0 ≡ newest_version (printed log) = rule.newest in omega (arith, is, behind));
  flight = λ a is. first a (sym (ap (λ (b : Bool). if b then Some at else copy_in_flight n.0 (newest_version (printed log)) (printed log)) both) ∙ is);
  stay = λ m. commits_shown (printed log) at m size (Copying n v) legal turns rule turn refl (fresh_flights size (printed log) at legal turns turn.once.begun m);
}
  where
    mine : same_at at at ≡ true
    mine = same_at_self at

    both : ((n.0 == n.0) && (v.0 == newest_version (printed log))) ≡ true
    both = rw (eq-eqb n.0 n.0 refl, eq-eqb v.0 (newest_version (printed log)) rule.newest) refl

    begins : Some (Copying n v) ≡ None → ⊥
    begins is = absurd (cc)

    first : (a : At) → Some at ≡ Some a → a ≡ at
    first a is = cc

-- a settle goes on
pub over_settle : (size : ℕ) (log : Log) (at : At) (n v : ℕ) → IsLegalPast size (printed log) → start_entry at (printed log) ≢ None → v ≡ newest_version (printed log)
    → version_of n (printed log) < newest_version (before_start at (printed log)) → ((a : At) → copy_in_flight n (newest_version (printed log)) (printed log) ≡ Some a → ⊥) → BeginsOver log log at n v
over_settle size log at n v legal begun is behind none = record {
  grows = grows_none (printed log);
  no_more = λ q bytes out. out;
  same = λ m apart other. record {
    job = refl;
    points = points_alone (printed log);
    latest = λ w none. none;
    version = refl;
    start = λ job is begun. (begun, refl);
    flight = λ at is. (is, refl);
    handed = λ job q is. refl;
  };
  newest = refl;
  version = is;
  unpassed = newest_is_unpassed size n v (printed log) legal (omega (arith, is));
  begun = begun;
  behind = behind;
  flight = λ a flies. absurd (none a flies);
  stay = λ m. commits_alone (printed log) m;
}

-- ---- the job that runs now

module _ (mid : Log) (at : At) (n : NodeNo) (v : Version) (number : ℕ) where
  abbrev pub begun_job : Job
  begun_job = record { at = at; node = n; number = number; version = v }

  abbrev pub begun_log : Log
  begun_log = kept (JobBegun at.line n number (Some v) (Some at)) ∷ mid

  le_self : (a b : ℕ) → a ≤ b → nat_le a b ≡ true
  le_self a b low = grind (arith, nat_tests)

  pub begun_at : job_at n.0 begun_log ≡ Some begun_job
  begun_at =
      let row = new_job_row begun_job (length (printed mid)) in
      let last : last_job false n.0 begun_log ≡ Some row = ap (λ (b : Bool). if b then Some row else row_if_some (Begins begun_job) (last_job false n.0 mid)) (eq-eqb n.0 n.0 refl) in
      ap (while_going n.0 (printed mid)) last
      ∙ rw (le_self (crashed_at n.0 (printed mid)) (length (printed mid)) (crashed_low n.0 (printed mid)), le_self (primary_crashed (printed mid)) (length (printed mid)) (primary_crashed_low (printed mid))) refl

  -- nothing was handed out to it
  pub nothing_out : (q : Name) (bytes : List ℕ) → file_out at n.0 number q begun_log ≡ Some bytes → ⊥
  nothing_out q bytes is = absurd (cc' (sym (ap (λ (b : Bool). if b then None else file_out at n.0 number q mid) mine) ∙ is))
    where
      mine : is_job at n.0 number (Some at) n.0 number ≡ true
      mine = rw (same_at_self at, eq-eqb n.0 n.0 refl, eq-eqb number number refl) refl

      cc' : ◌≡◌ {A = Content} None (Some bytes) → ⊥
      cc' none = absurd (cc)

-- ---- nodes

module _ {D : Type 0} (cells : D → Cells) where
  -- a node that is not the primary
  other_files : (source : Name → Content) (log now : Log) (jobs count : Out → ℕ) (n : ℕ) (x : Node D) → NodeShows cells log n x → is_at (primary_of (printed log)) n ≡ false → SameJob log now n → NodeFiles source cells log jobs n x → NodeFiles source cells now count n x
  other_files source log now jobs count n (Primary p) shows other same was = absurd (true≢false (sym shows.primary ∙ other))
  other_files source log now jobs count n (Replica r) shows other same was = replica_same cells source log now n r same was
  other_files source log now jobs count n (Down d) shows other same was = tt

  -- the primary, whose states are counted anew
  primary_side : (source : Name → Content) (log mid : Log) (jobs count : Out → ℕ) (number : ℕ) (p q : PrimaryParts D) (r s : ReplicaParts D) (b : BeginsAt cells number p q r s) → IfSome (want_of r.job) (λ t. is_out t p.states ≡ true)
      → ((t : Out) → count t + one_like t (want_of r.job) ≡ jobs t + one_like t (Some (out_of b.state))) → PointsStay (printed log) (printed mid) → PrimaryFiles source cells (printed log) jobs p → PrimaryFiles source cells (printed mid) count q
  primary_side source log mid jobs count number p q r s b out counted stay was = primary_stays cells source (printed log) (printed mid) count count q stay (λ t. omega arith) (primary_kept cells source (printed log) jobs count p q b.primary.files low was)
    where
      low : (t : Out) → count t ≤ states_like t q.states
      low t =
          let now : states_like t q.states ≡ states_like t (given_back (want_of r.job) (p.states ++ out_of b.state ∷ [])) = ap (states_like t) b.states in
          let given = states_given t (want_of r.job) (p.states ++ out_of b.state ∷ []) (out_pushed (want_of r.job) (out_of b.state) p.states (p.states ++ out_of b.state ∷ []) refl out) in
          let pushed = states_push t p.states (out_of b.state) in
          let was_low = was.outs t in
          let all = counted t in
          omega (arith, now, given, pushed, was_low, all)

  -- ---- how many jobs there are

  -- one of the state with which the job began, and none of the state of the job before it
  pub begun_counted : (size : ℕ) (old new : List (Option (NodePlace D))) (p n number : ℕ) (b : BeginsIn cells p n number old new) → IsNode size n → (t : Out)
      → jobs_like new t size + one_like t (want_of b.both.replica.parts.job) ≡ jobs_like old t size + one_like t (Some (out_of b.begins.state))
  begun_counted size old new p n number b node t =
      let moved = jobs_moved old new t n size node.0 node.1 apart_wants in
      let was : one_like t (want_at (place_of old n)) ≡ one_like t (want_of b.both.replica.parts.job) = ap (λ (o : Option (NodePlace D)). one_like t (want_at o)) b.both.replica.there in
      let is : one_like t (want_at (place_of new n)) ≡ one_like t (Some (out_of b.begins.state)) = ap (one_like t) want_new in
      omega (arith, moved, was, is)
    where
      x : NodePlace D
      x = record { node = Primary b.primary; held = b.both.primary.held }

      y : NodePlace D
      y = record { node = Replica b.replica; held = b.both.replica.held }

      there_n : place_of new n ≡ Some y
      there_n = b.moves.there n ∙ ap (λ (t : Bool). if t then Some y else if p == n then Some x else place_of old n) (eq-eqb n n refl)

      apart_wants : (m : ℕ) → (n == m) ≡ false → want_at (place_of new m) ≡ want_at (place_of old m)
      apart_wants m apart = wants_apart p n x y (record { node = Primary b.both.primary.parts; held = b.both.primary.held }) old new b.moves b.both.primary.there refl m apart

      want_new : want_at (place_of new n) ≡ Some (out_of b.begins.state)
      want_new = ap want_at there_n ∙ (ap want_of b.begins.there ∙ (want_runs b.begins.job b.begins.begun.runs ∙ ap (λ (s : CopyState). Some (out_of s)) b.begins.want))

  -- ---- all of them

  pub files_begun : (size : ℕ) (log mid : Log) (old new : List (Option (NodePlace D))) (at : At) (p n : NodeNo) (v : Version) (number : ℕ)
      → ((infos : Infos) (names : List Name) → AreFilesOf infos names → (q : Name) → Contains (flat_map files_of_segment infos.segs) q → IsLasting q)
      → BeginsOver log mid at n.0 v.0 → BeginsIn cells p.0 n.0 number old new → IsOlder v.0 (job_at n.0 log) → version_of n.0 (printed log) < v.0 → primary_of (printed log) ≡ Some p → IsNode size p.0 → IsNode size n.0
      → Shows cells log size old → FilesShow cells log size old → FilesShow cells (kept (JobBegun at.line n number (Some v) (Some at)) ∷ mid) size new
  files_begun size log mid old new at p n v number lasting over b older behind primary node_p node_n shows files =
      record {
        source = files.source;
        drawn = means_more files.source (printed log) (printed mid) over.grows files.drawn;
        names = names_both cells size (printed log) (printed mid) old new p.0 n.0 x y (record { node = Primary q; held = b.both.primary.held }) (record { node = Replica r; held = b.both.replica.held }) over.grows b.moves node_p node_n
            b.both.primary.there b.both.replica.there (altered_steps cells (printed mid) q b.primary b.begins.primary) (altered_job cells (printed mid) r b.replica b.begins.replica) files.names;
        each = both_each {P = Both cells files.source log jobs} {Q = λ m z. NodeFiles files.source cells now count m z.node} size p.0 n.0 x y old new b.moves (both_of cells log size old shows files)
            (λ m z node away apart both. other_files files.source log now jobs count m z.node both.0.node_shows (ap (λ (o : Option NodeNo). is_at o m) primary ∙ away)
            (same_then log mid now m (over.same m apart (ap (λ (o : Option NodeNo). is_at o m) primary ∙ away)) (same_inner mid (JobBegun at.line n number (Some v) (Some at)) m (ap not apart))) both.1)
            (primary_side files.source log mid jobs count number q b.primary r b.replica b.begins (job_out cells log size n.0 old q r b.both.replica.held files.source node_n b.both.replica.there at_p.1) counted stay at_p.1)
            replica_side;
        disks = disks_kept cells files.source files.source log now size old new (λ name bytes is. is)
            (disks_moved p.0 n.0 x y (record { node = Primary q; held = b.both.primary.held }) (record { node = Replica r; held = b.both.replica.held }) old new b.moves b.both.primary.there b.both.replica.there
            (disk_same q.commits b.primary.commits b.begins.primary.files.commits) (disk_same r.commits b.replica.commits (ap (λ (z : ReplicaParts D). z.commits) b.begins.replica.others)))
            over.stay files.disks;
        carried = λ name bytes out. files.carried name bytes (over.no_more name bytes out);
      }
    where
      now : Log
      now = kept (JobBegun at.line n number (Some v) (Some at)) ∷ mid

      q : PrimaryParts D
      q = b.both.primary.parts

      r : ReplicaParts D
      r = b.both.replica.parts

      x : NodePlace D
      x = record { node = Primary b.primary; held = b.both.primary.held }

      y : NodePlace D
      y = record { node = Replica b.replica; held = b.both.replica.held }

      jobs : Out → ℕ
      jobs s = jobs_like old s size

      count : Out → ℕ
      count s = jobs_like new s size

      at_p : Both cells files.source log jobs p.0 (record { node = Primary q; held = b.both.primary.held })
      at_p = some_at (Both cells files.source log jobs p.0) (place_of old p.0) (record { node = Primary q; held = b.both.primary.held }) b.both.primary.there (both_of cells log size old shows files p.0 node_p)

      at_n : Both cells files.source log jobs n.0 (record { node = Replica r; held = b.both.replica.held })
      at_n = some_at (Both cells files.source log jobs n.0) (place_of old n.0) (record { node = Replica r; held = b.both.replica.held }) b.both.replica.there (both_of cells log size old shows files n.0 node_n)

      counted : (t : Out) → count t + one_like t (want_of r.job) ≡ jobs t + one_like t (Some (out_of b.begins.state))
      counted t = begun_counted size old new p.0 n.0 number b node_n t

      infos : b.begins.job.infos ≡ q.point_infos
      infos = infos_files_one_to_one.one_value b.begins.state.infos b.begins.job.infos q.point_infos b.begins.infos b.begins.of_point.infos

      version : b.begins.job.infos.version.0 ≡ v.0
      version =
          let one : b.begins.job.infos.version.0 ≡ q.point_infos.version.0 = ap (λ (i : Infos). i.version.0) infos in
          let two : q.infos.version.0 ≡ q.point_infos.version.0 = ap (λ (w : Version). w.0) at_p.0.node_shows.whole.versions in
          let three = at_p.0.node_shows.writer.version in
          omega (arith, one, two, three, over.version)

      -- the points of before are points still
      stay : PointsStay (printed log) (printed mid)
      stay = (over.stay n.0).points

      point : IsPastPoint files.source (printed mid) b.begins.job.infos
      point = subst (λ (i : Infos). IsPastPoint files.source (printed mid) i) (sym infos) (point_stays files.source (printed log) (printed mid) q.point_infos stay at_p.1.point)

      shows_job : CopyShows files.source now n.0 (begun_job mid at n v number) b.begins.job
      shows_job = record {
        runs = b.begins.begun.runs;
        number = b.begins.number_is;
        version = version;
        point = point;
        latest = over.unpassed;
        begun = over.begun;
        behind = over.behind;
        metas = subst (λ (s : CopyState). All (λ f. HasMeta files.source f.0 f.1) s.files) (sym b.begins.want) (state_metas cells files.source q b.begins.state lasting at_p.0.node_shows.whole at_p.1.held b.begins.of_point);
        handed = λ name bytes out. absurd (nothing_out mid at n v number name bytes out);
      }

      replica_side : ReplicaFiles files.source cells now n.0 b.replica
      replica_side = record {
        sourced = b.begins.replica.sourced files.source at_n.1.sourced;
        job = subst (λ (o : Option Job). JobShows files.source now n.0 o b.replica.job) (sym (begun_at mid at n v number))
            (subst (λ (o : Option PointJob). JobShows files.source now n.0 (Some (begun_job mid at n v number)) o) (sym b.begins.there) shows_job);
        point = subst (λ (i : Infos). IsPastPoint files.source (printed mid) i) (sym (ap (λ (z : ReplicaParts D). z.infos) b.begins.replica.others)) (point_stays files.source (printed log) (printed mid) r.infos stay at_n.1.point);
        flight = λ a is. subst (λ (o : Option Job). IsSomeAnd o (IsJobFor a (newest_version (printed mid)))) (sym (begun_at mid at n v number)) (sym (over.flight a is), over.version ∙ sym over.newest);
      }
