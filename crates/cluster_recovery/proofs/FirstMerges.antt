-- Merges where a cluster has just started: nothing is in flight, and nothing was cut over.
use Rattle.std.proofs.Common.{◌≡◌, ℕ, Bool, false, List, [], Some, None, Option, refl, ap, ◌∙◌, sym, subst, arith}
use Rattle.std.specs.Prelude.{IsSomeAnd}
use Rattle.std.proofs.lemmas.List.Elements.{All-nil}
use Rattle.disk_model.specs.Disk.{Cells}
use Rattle.copy_job.specs.Jobs.{Job}
use Rattle.index_primary.specs.declared.states.Merging.{Merging}
use Rattle.index_primary.specs.declared.states.Out.{Out}
use Rattle.index_primary.specs.Merges.{merge_of}
use Rattle.replica_node.specs.Merges.{copy_at}
use Rattle.history_rules.specs.Nodes.{IsNode}
use Rattle.history_book.specs.Log.{Log}
use Rattle.merge_tasks.specs.declared.tasks.Posted.{Posted}
use Rattle.merge_tasks.specs.Board.{Board, IsToldTask, TasksShow}
use Rattle.cluster_nodes.specs.declared.nodes.Node.{Node}
use Rattle.cluster_nodes.specs.declared.nodes.Node.TheVariants.{Primary, Replica, Down}
use Rattle.cluster_nodes.specs.declared.nodes.NodePlace.{NodePlace}
use Rattle.cluster_nodes.specs.Places.{place_of}
use Rattle.cluster_nodes.specs.Outs.{jobs_like}
use Rattle.cluster_state.specs.State.{NodeShows}
use Rattle.cluster_state.specs.Starting.{copies_at, OpensPlace}
use Rattle.cluster_state.specs.Merging.{AreMergedAlike, IsFitKind, NodeMerges, MergesStand}
use Rattle.cluster_recovery.proofs.FirstNodes.{jobs_none}

-- nothing is posted
abbrev no_tasks : Board
no_tasks = record { posted = []; rows = []; counts = [] }

tasks_none : (size : ℕ) → TasksShow size [] no_tasks
tasks_none size = record {
  lines = λ seg. refl;
  posted = All-nil (IsToldTask []);
  noted = λ seg some. absurd (some refl);
  low = tt;
  paid = omega arith;
  drains = λ lines none. omega arith;
  counts = λ at none. refl;
}

module _ {D : Type 0} (cells : D → Cells) where
  first_node : (jobs : Out → ℕ) (n : ℕ) (x : Node D) → ((s : Out) → jobs s ≡ 0) → NodeShows cells [] n x → copies_at x ≡ [] → NodeMerges [] false jobs [] n x
  first_node jobs n (Primary p) none shows uncopied = record {
    cut_over = shows.uncut refl;
    merges = λ seg. subst (λ (ms : List Merging). AreMergedAlike [] (merge_of seg ms) None) (sym (shows.calm refl)) tt;
    outs = λ s. let no = none s in omega (arith, no);
  }
  first_node jobs n (Replica r) none shows uncopied = λ k c at. let no : ◌≡◌ {A = Option Job} None (Some c) = sym (ap (copy_at k) uncopied) ∙ at in absurd (cc)
  first_node jobs n (Down d) none shows uncopied = tt

  none_merges : (size : ℕ) (places : List (Option (NodePlace D))) → ((n : ℕ) → IsNode size n → IsSomeAnd (place_of places n) (OpensPlace cells n)) → MergesStand [] false size no_tasks places
  none_merges size places all = record {
    tasks = tasks_none size;
    fit = All-nil (λ (p : Posted). IsFitKind p.kind);
    each = λ n node. at (place_of places n) n (all n node);
    vacant = λ none. (refl, (refl, refl));
  }
    where
      at : (o : Option (NodePlace D)) (n : ℕ) → IsSomeAnd o (OpensPlace cells n) → IsSomeAnd o (λ z. NodeMerges [] false (λ s. jobs_like places s size) [] n z.node)
      at None n none = absurd none
      at (Some place) n is = first_node (λ s. jobs_like places s size) n place.node (λ s. jobs_none cells places size size s (omega arith) all) is.shows.node_shows is.uncopied

  pub first_merges : (log : Log) (cut : Bool) (size n : ℕ) (board : Board) (places : List (Option (NodePlace D))) → log ≡ [] → cut ≡ false → size ≡ n → board.posted ≡ [] → board.rows ≡ [] → board.counts ≡ []
      → ((m : ℕ) → IsNode n m → IsSomeAnd (place_of places m) (OpensPlace cells m)) → MergesStand log cut size board places
  first_merges log cut size n board places none uncut same posted rows counts each =
      subst (λ (z : Log × (Bool × Board)). MergesStand z.0 z.1.0 size z.1.1 places) (λ i. (sym none i, (sym uncut i, record { posted = sym posted i; rows = sym rows i; counts = sym counts i })))
      (none_merges size places (λ m node. each m (subst (λ (j : ℕ). IsNode j m) same node)))
