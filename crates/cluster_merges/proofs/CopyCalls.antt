-- The next step of a copy of a merged segment, and a part that comes to one, in the terms of a call.
use Rattle.std.proofs.Common.{◌≡◌, ℕ, zero, suc, Bool, true, false, true≢false, List, [], Some, None, Option, Vec, Global, is_some, refl, ap, ◌∙◌, sym, subst}
use Rattle.std.specs.Prelude.{unwrap_or, option_map, IfSome, IsSome, IsSomeAnd}
use Rattle.std.specs.List.{slice_get}
use Rattle.std.proofs.lemmas.Option.{slice_get-map}
use Rattle.nrt_base.specs.declared.numbers.At.{At}
use Rattle.nrt_base.specs.declared.numbers.LineNo.{LineNo}
use Rattle.nrt_base.specs.declared.numbers.NodeNo.{NodeNo}
use Rattle.nrt_base.specs.declared.numbers.SegNo.{SegNo}
use Rattle.disk_model.specs.Disk.{Name, Cells}
use Rattle.copy_state.specs.declared.meta.FileMetaData.{FileMetaData}
use Rattle.copy_state.specs.States.{meta_in}
use Rattle.copy_state.specs.Meta.{IsMetaOf}
use Rattle.copy_job.specs.declared.copying.Part.{Part}
use Rattle.copy_job.specs.Jobs.{Job}
use Rattle.replica_node.specs.declared.parts.ReplicaParts.{ReplicaParts}
use Rattle.replica_node.specs.Merges.{copy_at}
use Rattle.history_rules.specs.Nodes.{IsNode, primary_of}
use Rattle.history_rules.specs.Legal.{IsLegalPast}
use Rattle.history_book.specs.Log.{Log, printed}
use Rattle.history_book.specs.Jobs.{job_at}
use Rattle.merge_tasks.specs.Merging.{Sheet}
use Rattle.merge_tasks.specs.declared.tasks.OpenMerge.{OpenMerge}
use Rattle.merge_tasks.specs.TaskLog.{carried_out}
use Rattle.merge_tasks.specs.Board.{Board, open_merge, spread_at, has_copy_task}
use Rattle.cluster_nodes.specs.declared.held.HeldTicket.{HeldTicket}
use Rattle.cluster_nodes.specs.declared.nodes.Node.{Node}
use Rattle.cluster_nodes.specs.declared.nodes.Node.TheVariants.{Primary, Replica, Down}
use Rattle.cluster_nodes.specs.declared.nodes.NodePlace.{NodePlace}
use Rattle.cluster_nodes.specs.Places.{place_of, unwrapped}
use Rattle.cluster_nodes.specs.JobChanges.{HasReplica}
use Rattle.node_merges.specs.MergeChanges.{is_copy_of, MayTakeMerged, TakesMerged, LosesMerged}
use Rattle.node_merges.specs.MergePlaces.{IsReplicaIn, MovesReplica, RunsCopyOf}
use Rattle.disk_model.specs.Faults.{Plans}
use Rattle.cluster_state.specs.Run.{JobFiles, MergedCopy, Run, misses_file, misses_at}
use Rattle.cluster_state.specs.MergedCopies.{place_copies, copies_in}
use Rattle.cluster_state.proofs.BookLaws.{primary_node}
use Rattle.cluster_merges.specs.Running.{AllShown}
use Rattle.cluster_merges.specs.MergePaths.{IsAsBefore}
use Rattle.cluster_merges.specs.declared.precopies.CopyTurn.{CopyTurn}
use Rattle.cluster_merges.specs.CopyTurns.{IsTurnWhere, EndsCopyOf}
use Rattle.cluster_merges.specs.TaskMet.{behind}
use Rattle.cluster_merges.proofs.TaskBehind.{primary_behind, carried_behind, all_behind}
use Rattle.cluster_merges.proofs.CopyPaths.{lost_path}
use Rattle.cluster_merges.proofs.MovedCopies.{copies_path, taken_moves}
use Rattle.cluster_merges.proofs.CopyFacts.{at_replica, slot_here, whole_here, sent_here, copy_here, copy_drawn, carried_meta}

-- ---- what callers see of the copies that run

module _ {D : Type 0} where
  copies_told : (o : Option (Option (NodePlace D))) → unwrap_or (option_map place_copies o) [] ≡ place_copies (unwrapped o)
  copies_told None = refl
  copies_told (Some place) = refl

  misses_are : (seg n number : ℕ) (r : Run) (places : List (Option (NodePlace D))) → r.rest.copies ≡ copies_in places → misses_at seg n number r ≡ misses_file seg number (place_copies (place_of places n))
  misses_are seg zero number r places is = refl
  misses_are seg (suc k) number r places is =
      ap (λ (l : List (List MergedCopy)). misses_file seg number (unwrap_or (slice_get l k) [])) is
      ∙ ap (λ (l : List MergedCopy). misses_file seg number l) (ap (λ (o : Option (List MergedCopy)). unwrap_or o []) (slice_get-map place_copies places k) ∙ copies_told (slice_get places k))

  -- the turn is that of the copy that callers see
  pub turn_where : (r : Run) (b0 b1 : Sheet) (board : Board) (places : List (Option (NodePlace D))) → {ended cut : Bool} {calls : List ℕ} {sizes : List (Option ℕ)} {jobs : List JobFiles} {plans : List Plans} {named : List (List Name)}
      → record { ended = ended; nodes = b0.nodes; log = b0.log; rest = record { calls_left = calls; cut = cut; sizes = sizes; jobs = jobs; copies = copies_in places; tasks = board; plans = plans; names = named } } ≡ r → b1.log ≡ b0.log → (seg : SegNo) (n : NodeNo) (job : ℕ) (turn : CopyTurn)
      → IsTurnWhere (misses_file seg.0 job (place_copies (place_of places n.0))) (job_at n.0 b1.log) turn → IsTurnWhere (misses_at seg.0 n.0 job r) (job_at n.0 r.log) turn
  turn_where r b0 b1 board places view e1 seg n job turn is =
      subst (λ (misses : Bool). IsTurnWhere misses (job_at n.0 r.log) turn) (sym (misses_are seg.0 n.0 job r places (sym (ap (λ (x : Run). x.rest.copies) view))))
      (subst (λ (l : Log). IsTurnWhere (misses_file seg.0 job (place_copies (place_of places n.0))) (job_at n.0 l) turn) (e1 ∙ ap (λ (x : Run). x.log) view) is)

-- ---- a part that comes

-- nothing was done
pub nothing_done : (r : Run) → r.ended ≡ false → IsAsBefore r r
nothing_done r running = record { is = record { running = running; nodes = refl; log = refl }; rows_are = refl; posted_are = refl }

pub some_is : (o : Option Job) (c : Job) → o ≡ Some c → IsSome o
some_is o c is = ap is_some is

module _ {D : Type 0} where
  -- a copy that runs at the node that is there
  pub record RunsThere (seg number n : ℕ) (places : List (Option (NodePlace D))) : Type 0 where
    pub parts : ReplicaParts D
    pub held : Vec HeldTicket Global
    pub there : place_of places n ≡ Some (record { node = Replica parts; held = held })
    pub copy : Job
    pub runs : copy_at number parts.copies.running ≡ Some copy

  pub runs_there : (seg number n : ℕ) (places : List (Option (NodePlace D))) → RunsCopyOf seg number (place_of places n) → RunsThere seg number n places
  runs_there seg number n places is = by (place_of places n) refl is
    where
      of_copy : (r : ReplicaParts D) (held : Vec HeldTicket Global) → place_of places n ≡ Some (record { node = Replica r; held = held }) → (o : Option Job) → copy_at number r.copies.running ≡ o → IsSomeAnd o (λ c. is_copy_of seg c ≡ true) → RunsThere seg number n places
      of_copy r held there None at none = absurd none
      of_copy r held there (Some c) at is = record { parts = r; held = held; there = there; copy = c; runs = at }

      of_node : (x : Node D) (held : Vec HeldTicket Global) → place_of places n ≡ Some (record { node = x; held = held }) → RunsCopyOf seg number (Some (record { node = x; held = held })) → RunsThere seg number n places
      of_node (Primary p) held there none = absurd none
      of_node (Replica r) held there is = of_copy r held there (copy_at number r.copies.running) refl is
      of_node (Down d) held there none = absurd none

      by : (o : Option (NodePlace D)) → place_of places n ≡ o → RunsCopyOf seg number o → RunsThere seg number n places
      by None there none = absurd none
      by (Some z) there is = of_node z.node z.held there is

  pub replica_there : (places : List (Option (NodePlace D))) (n : ℕ) (r : ReplicaParts D) (held : Vec HeldTicket Global) → place_of places n ≡ Some (record { node = Replica r; held = held }) → HasReplica (place_of places n)
  replica_there places n r held there = subst HasReplica (sym there) tt

module _ {D : Type 0} (cells : D → Cells) (b : Sheet) (board : Board) (places : List (Option (NodePlace D))) (all : AllShown cells b board places) (legal : IsLegalPast b.nodes (printed b.log)) (seg : SegNo) (n : NodeNo) (number : ℕ) (node : IsNode b.nodes n.0)
    (runs : RunsCopyOf seg.0 number (place_of places n.0)) where
  -- a primary runs, since without one no merge is in flight
  record SourceRuns : Type 0 where
    source : NodeNo
    node_is : IsNode b.nodes source.0
    is : primary_of (printed b.log) ≡ Some source

  source_runs : SourceRuns
  source_runs = by (primary_of (printed b.log)) refl
    where
      t : RunsThere seg.0 number n.0 places
      t = runs_there seg.0 number n.0 places runs

      no_spread : (rows : List OpenMerge) (k : ℕ) → rows ≡ [] → is_some (spread_at (open_merge k rows)) ≡ false
      no_spread rows k none = ap (λ (l : List OpenMerge). is_some (spread_at (open_merge k l))) none

      by : (o : Option NodeNo) → primary_of (printed b.log) ≡ o → SourceRuns
      by None none =
          let was = sent_here cells b board places all n.0 t.parts t.held node t.there number t.copy t.runs in
          absurd (true≢false (sym (ap is_some was.row) ∙ no_spread board.rows was.seg (all.2.vacant none).1.1))
      by (Some p) is = record { source = p; node_is = primary_node b.nodes (printed b.log) p all.0.some legal is; is = is }

  module _ (part : Part) (out : carried_out part.name b.log ≡ Some part.bytes) (meta : IsMetaOf part.bytes part.meta) where
    pub may_take : IsReplicaIn (MayTakeMerged number part) n.0 places
    may_take = record {
      slot = slot_here cells b board places all n.0 node;
      replica = replica_there places n.0 t.parts t.held t.there;
      may = λ r held there. record {
        runs = some_is (copy_at number r.copies.running) t.copy (same_copy r held there);
        wanted = wanted r held there (copy_at number r.copies.running) refl;
      };
    }
      where
        t : RunsThere seg.0 number n.0 places
        t = runs_there seg.0 number n.0 places runs

        -- what stands there is the replica whose copy runs
        same_copy : (r : ReplicaParts D) (held : Vec HeldTicket Global) → place_of places n.0 ≡ Some (record { node = Replica r; held = held }) → copy_at number r.copies.running ≡ Some t.copy
        same_copy r held there = at_replica (λ (q : ReplicaParts D). copy_at number q.copies.running ≡ Some t.copy) places n.0 t.parts r t.held held t.there there t.runs

        wanted : (r : ReplicaParts D) (held : Vec HeldTicket Global) → place_of places n.0 ≡ Some (record { node = Replica r; held = held }) → (o : Option Job) → copy_at number r.copies.running ≡ o
            → IfSome o (λ c. (m : FileMetaData) → meta_in c.want.files part.name ≡ Some m → m ≡ part.meta)
        wanted r held there None at = tt
        wanted r held there (Some c) at = λ m listed.
            carried_meta cells b board places all source_runs.source source_runs.node_is source_runs.is part.name m part.meta part.bytes c
            (copy_here cells b board places all source_runs.source source_runs.node_is source_runs.is n.0 number r held c node there at) (all.1.carried part.name part.bytes out) meta listed

    pub taken_all : (new : List (Option (NodePlace D))) → MovesReplica (TakesMerged cells number part) n.0 places new → AllShown cells b board new
    taken_all new w =
        copies_path cells b board places new n.0 w.at.parts w.replica w.at.held w.moves node w.at.there all
        (taken_moves cells all.1.source (printed b.log) number t.copy part w.at.parts w.replica at (whole_here cells b board places all n.0 w.at.parts w.at.held node w.at.there)
        (copy_drawn cells b board places all source_runs.source source_runs.node_is source_runs.is t.copy
        (copy_here cells b board places all source_runs.source source_runs.node_is source_runs.is n.0 number w.at.parts w.at.held t.copy node w.at.there at))
        (all.1.carried part.name part.bytes out) w.step)
      where
        t : RunsThere seg.0 number n.0 places
        t = runs_there seg.0 number n.0 places runs

        at : copy_at number w.at.parts.copies.running ≡ Some t.copy
        at = at_replica (λ (q : ReplicaParts D). copy_at number q.copies.running ≡ Some t.copy) places n.0 t.parts w.at.parts t.held w.at.held t.there w.at.there t.runs

    -- its disk failed: the copy has ended, and its task behind it
    pub lost_all : (at : At) (olds news : List (ℕ × ℕ)) (b2 : Sheet) (after : Board) (line : LineNo) (by : Option At) (new : List (Option (NodePlace D))) → has_copy_task n.0 number (spread_at (open_merge seg.0 board.rows)) ≡ true → EndsCopyOf line seg by n number (behind at olds news b) b2 board after
        → MovesReplica (LosesMerged cells (λ source. source part.name ≡ Some part.bytes) number) n.0 places new → AllShown cells b2 after new
    lost_all at olds news b2 after line by new has ends w =
        lost_path cells (behind at olds news b) b2 board places new behind_all source_runs.source source_runs.node_is (primary_behind at olds news b.log source_runs.source source_runs.is) line seg n number node by after has ends
        (λ source. source part.name ≡ Some part.bytes) (behind_all.1.carried part.name part.bytes (carried_behind at olds news b.log part.name part.bytes out)) w (may_take.may w.at.parts w.at.held w.at.there).runs
      where
        behind_all : AllShown cells (behind at olds news b) board places
        behind_all = all_behind at olds news cells b board places all
