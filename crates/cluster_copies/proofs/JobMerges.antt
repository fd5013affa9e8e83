-- Merges stand where a job of the primary's point begins.
use Rattle.std.proofs.Common.{◌≡◌, ◌+◌, ◌++◌, ◌∷◌, [], Bool, false, ℕ, List, Some, Option, refl, ap, ◌∙◌, sym, subst, arith}
use Rattle.std.proofs.lemmas.Bool.{eq-eqb}
use Rattle.nrt_base.specs.declared.numbers.NodeNo.{NodeNo}
use Rattle.disk_model.specs.Disk.{Cells}
use Rattle.index_primary.specs.declared.parts.PrimaryParts.{PrimaryParts}
use Rattle.index_primary.specs.declared.states.Out.{Out}
use Rattle.index_primary.specs.States.{out_of}
use Rattle.replica_node.specs.declared.merges.MergeCopies.{MergeCopies}
use Rattle.replica_node.specs.declared.parts.ReplicaParts.{ReplicaParts}
use Rattle.history_rules.specs.Nodes.{IsNode, is_at, primary_of}
use Rattle.history_book.specs.Log.{Log, printed}
use Rattle.merge_tasks.specs.Merging.{Sheet}
use Rattle.cluster_nodes.specs.declared.nodes.Node.TheVariants.{Primary, Replica}
use Rattle.cluster_nodes.specs.declared.nodes.NodePlace.{NodePlace}
use Rattle.cluster_nodes.specs.Places.{place_of}
use Rattle.cluster_nodes.specs.Outs.{want_of, states_like, jobs_like}
use Rattle.cluster_nodes.specs.JobChanges.{given_back}
use Rattle.cluster_nodes.specs.JobPlaces.{BeginsIn}
use Rattle.cluster_nodes.proofs.OutCounts.{states_given, states_push}
use Rattle.cluster_nodes.proofs.Stepping.{out_pushed}
use Rattle.cluster_state.specs.Run.{Run, Rest}
use Rattle.cluster_state.specs.State.{PlaceShows, Shows}
use Rattle.cluster_state.specs.Files.{FilesShow}
use Rattle.cluster_state.specs.Merging.{RunsNoOther, KeepsPrimaryMerges, KeepAllMerges}
use Rattle.cluster_state.proofs.Frames.{some_at}
use Rattle.cluster_state.proofs.FileFrames.{Both, both_of}
use Rattle.cluster_state.proofs.FileJobs.{job_out}
use Rattle.cluster_state.proofs.Ledgers.{asked_size}
use Rattle.cluster_state.proofs.MergingPaths.{both_keep, begun_runs}
use Rattle.cluster_copies.proofs.Beginning.{begun_counted}

module _ {D : Type 0} (cells : D → Cells) where
  pub begun_keeps : (size : ℕ) (log : Log) (old new : List (Option (NodePlace D))) (p n : NodeNo) (number : ℕ) → IsNode size p.0 → IsNode size n.0 → primary_of (printed log) ≡ Some p → Shows cells log size old → FilesShow cells log size old
      → BeginsIn cells p.0 n.0 number old new → KeepAllMerges size old new
  begun_keeps size log old new p n number node_p node_n primary shows files b =
      both_keep cells size log old new p.0 n.0 (record { node = Primary b.primary; held = b.both.primary.held }) (record { node = Replica b.replica; held = b.both.replica.held })
      (record { node = Primary q; held = b.both.primary.held }) (record { node = Replica r; held = b.both.replica.held }) b.moves b.both.primary.there b.both.replica.there
      (ap (λ (o : Option NodeNo). is_at o p.0) primary ∙ eq-eqb p.0 p.0 refl) shows first second
    where
      q : PrimaryParts D
      q = b.both.primary.parts

      r : ReplicaParts D
      r = b.both.replica.parts

      jobs : Out → ℕ
      jobs o = jobs_like old o size

      count : Out → ℕ
      count o = jobs_like new o size

      at_p : Both cells files.source log jobs p.0 (record { node = Primary q; held = b.both.primary.held })
      at_p = some_at (Both cells files.source log jobs p.0) (place_of old p.0) (record { node = Primary q; held = b.both.primary.held }) b.both.primary.there (both_of cells log size old shows files p.0 node_p)

      at_n : PlaceShows cells log n.0 (record { node = Replica r; held = b.both.replica.held })
      at_n = some_at (PlaceShows cells log n.0) (place_of old n.0) (record { node = Replica r; held = b.both.replica.held }) b.both.replica.there (shows.each n.0 node_n)

      first : KeepsPrimaryMerges jobs count q b.primary
      first = record {
        cut_over = ap (λ (z : PrimaryParts D). z.has_cut_over) b.begins.primary.others;
        merges = ap (λ (z : PrimaryParts D). z.merges) b.begins.primary.others;
        outs = λ t.
            let now : states_like t b.primary.states ≡ states_like t (given_back (want_of r.job) (q.states ++ out_of b.begins.state ∷ [])) = ap (states_like t) b.begins.states in
            let given = states_given t (want_of r.job) (q.states ++ out_of b.begins.state ∷ []) (out_pushed (want_of r.job) (out_of b.begins.state) q.states (q.states ++ out_of b.begins.state ∷ []) refl
            (job_out cells log size n.0 old q r b.both.replica.held files.source node_n b.both.replica.there at_p.1)) in
            let pushed = states_push t q.states (out_of b.begins.state) in
            let all = begun_counted cells size old new p.0 n.0 number b node_n t in
            omega (arith, now, given, pushed, all);
      }

      second : RunsNoOther r.copies.running b.replica.copies.running
      second = subst (λ (c : MergeCopies). RunsNoOther r.copies.running c.running) (sym b.begins.copies) (begun_runs r.seen.0 b.begins.state r.copies at_n.node_shows.whole.merges.apart)

  -- the same in the terms of a call
  pub begun_stand : (r : Run) (ended : Bool) (b0 : Sheet) (old new : List (Option (NodePlace D))) (p n : NodeNo) (number : ℕ) {rest : Rest} → record { ended = ended; nodes = b0.nodes; log = b0.log; rest = rest } ≡ r → r.ended ≡ false
      → (ended ≡ false → Shows cells b0.log b0.nodes old × FilesShow cells b0.log b0.nodes old) → IsNode r.nodes p.0 → IsNode r.nodes n.0 → primary_of (printed r.log) ≡ Some p → BeginsIn cells p.0 n.0 number old new → KeepAllMerges b0.nodes old new
  begun_stand r ended b0 old new p n number view running pair node_p node_n primary b =
      let both = pair (ap (λ (x : Run). x.ended) view ∙ running) in
      begun_keeps b0.nodes b0.log old new p n number (asked_size (λ (k : ℕ). IsNode k p.0) view refl node_p) (asked_size (λ (k : ℕ). IsNode k n.0) view refl node_n)
      (ap (λ (x : Run). primary_of (printed x.log)) view ∙ primary) both.0 both.1 b
