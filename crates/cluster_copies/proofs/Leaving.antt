-- A job that is at its end, well or not: what is true of all files, and of merges, where its copy state was given back.
use Rattle.std.proofs.Common.{◌≡◌, ◌≤◌, ◌==◌, ℕ, Bool, true, false, true≢false, if◌then◌else◌, List, Some, None, Option, Vec, Global, refl, ap, ◌∙◌, sym, arith}
use Rattle.std.proofs.lemmas.Bool.{eq-eqb}
use Rattle.nrt_base.specs.declared.numbers.NodeNo.{NodeNo}
use Rattle.disk_model.specs.Disk.{Cells}
use Rattle.index_primary.specs.declared.parts.PrimaryParts.{PrimaryParts}
use Rattle.index_primary.specs.declared.states.Out.{Out}
use Rattle.index_primary.specs.States.{is_out, states_without}
use Rattle.replica_node.specs.declared.parts.ReplicaParts.{ReplicaParts}
use Rattle.history_rules.specs.Nodes.{IsNode, is_at, primary_of}
use Rattle.history_book.specs.Log.{Log, printed}
use Rattle.cluster_nodes.specs.declared.held.HeldTicket.{HeldTicket}
use Rattle.cluster_nodes.specs.declared.nodes.Node.{Node}
use Rattle.cluster_nodes.specs.declared.nodes.Node.TheVariants.{Primary, Replica, Down}
use Rattle.cluster_nodes.specs.declared.nodes.NodePlace.{NodePlace}
use Rattle.cluster_nodes.specs.Places.{place_of}
use Rattle.cluster_nodes.specs.Outs.{one_like, want_of, want_at, states_like, jobs_like}
use Rattle.cluster_nodes.specs.JobChanges.{AltersStates}
use Rattle.cluster_nodes.specs.JobPlaces.{MovesBoth}
use Rattle.cluster_nodes.proofs.OutCounts.{jobs_moved, states_back}
use Rattle.cluster_state.specs.State.{NodeShows, Shows}
use Rattle.cluster_state.specs.Disks.{CommitsStay}
use Rattle.cluster_state.specs.Files.{ReplicaFiles, NodeFiles, FilesShow}
use Rattle.cluster_state.specs.FileChanges.{SameJob, CarriesNoMore}
use Rattle.cluster_state.specs.Merging.{RunsNoOther, KeepsPrimaryMerges, KeepAllMerges}
use Rattle.cluster_state.proofs.Frames.{some_at}
use Rattle.cluster_state.proofs.Drawn.{Grows}
use Rattle.cluster_state.proofs.Naming.{NodeSteps, means_more, altered_steps}
use Rattle.cluster_state.proofs.FileFrames.{names_both, Both, both_of, both_each, replica_same, wants_apart}
use Rattle.cluster_state.proofs.Wider.{primary_stays, primary_kept}
use Rattle.cluster_state.proofs.Disks.{disks_moved, disk_same, disks_kept}
use Rattle.cluster_state.proofs.MergingPaths.{both_keep}

module _ {D : Type 0} (cells : D → Cells) where
  -- the job of a replica, which ran, is at its end: the primary took the state back that it was begun with
  pub record LeavesJob (w : Out) (p q : PrimaryParts D) (r s : ReplicaParts D) : Type 0 where
    pub want : want_of r.job ≡ Some w
    pub out : is_out w p.states ≡ true
    pub primary : AltersStates cells p q
    pub states : q.states ≡ states_without w p.states
    pub gone : want_of s.job ≡ None
    pub commits : s.commits ≡ r.commits

  module _ (size : ℕ) (log : Log) (old new : List (Option (NodePlace D))) (p : NodeNo) (n : ℕ) (q q' : PrimaryParts D) (r r' : ReplicaParts D) (hq hr : Vec HeldTicket Global) (w : Out)
      (moves : MovesBoth p.0 n (record { node = Primary q'; held = hq }) (record { node = Replica r'; held = hr }) old new) (there_q : place_of old p.0 ≡ Some (record { node = Primary q; held = hq }))
      (there_r : place_of old n ≡ Some (record { node = Replica r; held = hr })) (node_p : IsNode size p.0) (node : IsNode size n) (primary : primary_of (printed log) ≡ Some p) (shows : Shows cells log size old)
      (leaves : LeavesJob w q q' r r') where
    abbrev x : NodePlace D
    x = record { node = Primary q'; held = hq }

    abbrev y : NodePlace D
    y = record { node = Replica r'; held = hr }

    abbrev u : NodePlace D
    u = record { node = Primary q; held = hq }

    abbrev jobs : Out → ℕ
    jobs o = jobs_like old o size

    abbrev count : Out → ℕ
    count o = jobs_like new o size

    -- as many states less are out as there are jobs less that began with one
    first : KeepsPrimaryMerges jobs count q q'
    first = record {
      cut_over = ap (λ (z : PrimaryParts D). z.has_cut_over) leaves.primary.others;
      merges = ap (λ (z : PrimaryParts D). z.merges) leaves.primary.others;
      outs = λ t.
          let moved = jobs_moved old new t n size node.0 node.1 (wants_apart p.0 n x y u old new moves there_q refl) in
          let before : one_like t (want_at (place_of old n)) ≡ one_like t (Some w) = ap (λ (o : Option (NodePlace D)). one_like t (want_at o)) there_r ∙ ap (one_like t) leaves.want in
          let after : one_like t (want_at (place_of new n)) ≡ 0
          = ap (λ (o : Option (NodePlace D)). one_like t (want_at o)) (moves.there n ∙ ap (λ (c : Bool). if c then Some y else if p.0 == n then Some x else place_of old n) (eq-eqb n n refl)) ∙ ap (one_like t) leaves.gone in
          let back = states_back t w q.states leaves.out in
          let now : states_like t q'.states ≡ states_like t (states_without w q.states) = ap (states_like t) leaves.states in
          omega (arith, moved, before, after, back, now);
    }

    pub left_merges : RunsNoOther r.copies.running r'.copies.running → KeepAllMerges size old new
    left_merges copies = both_keep cells size log old new p.0 n x y u (record { node = Replica r; held = hr }) moves there_q there_r (ap (λ (o : Option NodeNo). is_at o p.0) primary ∙ eq-eqb p.0 p.0 refl) shows first copies

    pub left_files : (files : FilesShow cells log size old) (now : Log) → Grows (printed log) (printed now) → CarriesNoMore log now → ((m : ℕ) → (n == m) ≡ false → is_at (primary_of (printed log)) m ≡ false → SameJob log now m)
        → ((m : ℕ) → CommitsStay (printed log) (printed now) m) → NodeSteps cells (printed now) (Replica r) (Replica r') → ReplicaFiles files.source cells now n r' → FilesShow cells now size new
    left_files files now grows no_more others stay steps mine = record {
      source = files.source;
      drawn = means_more files.source (printed log) (printed now) grows files.drawn;
      names = names_both cells size (printed log) (printed now) old new p.0 n x y u (record { node = Replica r; held = hr }) grows moves node_p node there_q there_r (altered_steps cells (printed now) q q' leaves.primary) steps files.names;
      each = both_each {P = Both cells files.source log jobs} {Q = λ m z. NodeFiles files.source cells now count m z.node} size p.0 n x y old new moves (both_of cells log size old shows files)
          (λ m z node' away other both. other_node m z.node other (ap (λ (o : Option NodeNo). is_at o m) primary ∙ away) both.0.node_shows both.1)
          (primary_stays cells files.source (printed log) (printed now) count count q' (stay n).points (λ t. omega arith) (primary_kept cells files.source (printed log) jobs count q q' leaves.primary.files low at_p.1))
          mine;
      disks = disks_kept cells files.source files.source log now size old new (λ name bytes is. is)
          (disks_moved p.0 n x y u (record { node = Replica r; held = hr }) old new moves there_q there_r (disk_same q.commits q'.commits leaves.primary.files.commits) (disk_same r.commits r'.commits leaves.commits)) stay files.disks;
      carried = λ name bytes out. files.carried name bytes (no_more name bytes out);
    }
      where
        at_p : Both cells files.source log jobs p.0 u
        at_p = some_at (Both cells files.source log jobs p.0) (place_of old p.0) u there_q (both_of cells log size old shows files p.0 node_p)

        low : (t : Out) → count t ≤ states_like t q'.states
        low t = let less = first.outs t in let was = at_p.1.outs t in omega (arith, less, was)

        other_node : (m : ℕ) (z : Node D) → (n == m) ≡ false → is_at (primary_of (printed log)) m ≡ false → NodeShows cells log m z → NodeFiles files.source cells log jobs m z → NodeFiles files.source cells now count m z
        other_node m (Primary t) other far has files_was = absurd (true≢false (sym has.primary ∙ far))
        other_node m (Replica t) other far has files_was = replica_same cells files.source log now m t (others m other far) files_was
        other_node m (Down d) other far has files_was = tt
