-- What the nodes of a cluster have to do with the merges in flight, with what was cut over, and with the copies of merged segments.
use Rattle.std.specs.Prelude.{ℕ, ◌≡◌, ◌≤◌, ◌+◌, true, Bool, List, [], ◌∷◌, Option, Some, None, IsSomeAnd, false, ⊤}
use Rattle.std.specs.List.{All}
use Rattle.disk_model.specs.Disk.{Name, Content}
use Rattle.copy_state.specs.States.{meta_names, IsCopyState}
use Rattle.copy_job.specs.Jobs.{Job}
use Rattle.segment_steps.specs.Given.{Merged}
use Rattle.index_primary.specs.declared.parts.PrimaryParts.{PrimaryParts}
use Rattle.index_primary.specs.declared.states.Merging.{Merging}
use Rattle.index_primary.specs.declared.states.Out.{Out}
use Rattle.index_primary.specs.Merges.{merge_of}
use Rattle.index_primary.specs.States.{out_of, IsMetaIn}
use Rattle.index_primary.specs.Written.{names_of}
use Rattle.replica_node.specs.declared.parts.ReplicaParts.{ReplicaParts}
use Rattle.replica_node.specs.Merges.{copy_at}
use Rattle.history_rules.specs.Nodes.{IsNode, primary_of}
use Rattle.history_book.specs.Log.{Log, printed}
use Rattle.cluster_nodes.specs.Given.{IsFitTask}
use Rattle.merge_tasks.specs.declared.tasks.TaskKind.{TaskKind}
use Rattle.merge_tasks.specs.declared.tasks.TaskKind.TheVariants.{Merge, PreCopy, Cut}
use Rattle.merge_tasks.specs.declared.tasks.Spread.{Spread}
use Rattle.merge_tasks.specs.declared.tasks.OpenMerge.{OpenMerge}
use Rattle.merge_tasks.specs.TaskLog.{inputs_out, merge_task}
use Rattle.merge_tasks.specs.Board.{Board, open_merge, spread_at, is_sent_in, TasksShow}
use Rattle.cluster_nodes.specs.declared.nodes.Node.{Node}
use Rattle.cluster_nodes.specs.declared.nodes.Node.TheVariants.{Primary, Replica, Down}
use Rattle.cluster_nodes.specs.declared.nodes.NodePlace.{NodePlace}
use Rattle.cluster_nodes.specs.Places.{place_of}
use Rattle.cluster_nodes.specs.Outs.{one_like, states_like, jobs_like}

-- the copy state names the files of the merged segment, with the metadata of their bytes
pub record IsStateOfMerged (merged : Merged) (s : Spread) : Type 0 where
  pub names : meta_names s.state.files ≡ names_of merged.files.files
  pub metas : (reads : Name → Content) → All (λ f. reads f.0 ≡ Some f.1) merged.files.files → All (IsMetaIn reads) s.state.files
  pub copy : IsCopyState s.state

-- the files of a merge are written both here and there, or in neither
abbrev pub AreWrittenAlike : Option Merged → Option Spread → Type 0
AreWrittenAlike None None = ⊤
AreWrittenAlike (Some merged) (Some s) = IsStateOfMerged merged s
AreWrittenAlike merged s = ⊥

-- a merge of the primary's is that of a row: it is made from what was handed out, and is written where the row says so
pub record IsMergeOfRow (log : Log) (m : Merging) (row : OpenMerge) : Type 0 where
  pub inputs : inputs_out m.task.seg.0 log ≡ Some m.task.inputs
  pub task : m.task ≡ merge_task m.task.seg m.task.inputs
  pub written : AreWrittenAlike m.merged row.spread

-- a merge is in flight both here and there, or in neither
abbrev pub AreMergedAlike : Log → Option Merging → Option OpenMerge → Type 0
AreMergedAlike log None None = ⊤
AreMergedAlike log (Some m) (Some row) = IsMergeOfRow log m row
AreMergedAlike log m row = ⊥

-- the copy state of a merge whose files are written
abbrev pub out_at : Option Spread → Option Out
out_at None = None
out_at (Some s) = Some (out_of s.state)

-- how many copy states of merges are like it
abbrev pub spreads_like : Out → List OpenMerge → ℕ
spreads_like s [] = 0
spreads_like s (r ∷ rows) = one_like s (out_at r.spread) + spreads_like s rows

-- a copy that runs at a node is one that a merge in flight sent there, of its copy state
pub record IsSentCopy (rows : List OpenMerge) (n k : ℕ) (c : Job) : Type 0 where
  pub seg : ℕ
  pub spread : Spread
  pub row : spread_at (open_merge seg rows) ≡ Some spread
  pub sent : is_sent_in n k spread.left ≡ true
  pub want : c.want ≡ spread.state

-- so is each
abbrev pub AreSentCopies : List OpenMerge → ℕ → List Job → Type 0
AreSentCopies rows n running = (k : ℕ) (c : Job) → copy_at k running ≡ Some c → IsSentCopy rows n k c

-- each copy that runs now ran before, of the same copy state
abbrev pub RunsNoOther : List Job → List Job → Type 0
RunsNoOther old new = (k : ℕ) (c : Job) → copy_at k new ≡ Some c → IsSomeAnd (copy_at k old) (λ d. c.want ≡ d.want)

-- a task to build a segment is fit to be merged
abbrev pub IsFitKind : TaskKind → Type 0
IsFitKind (Merge task) = IsFitTask task
IsFitKind (PreCopy n job) = ⊤
IsFitKind Cut = ⊤

module _ {D : Type 0} where
  -- The primary's merges in flight are those of the rows, and it was cut over where the ledger says so; of each copy state as many are out as
  -- there are jobs and merges with one like it.
  pub record PrimaryMerges (log : Log) (cut : Bool) (jobs : Out → ℕ) (rows : List OpenMerge) (p : PrimaryParts D) : Type 0 where
    pub cut_over : p.has_cut_over ≡ cut
    pub merges : (seg : ℕ) → AreMergedAlike log (merge_of seg p.merges) (open_merge seg rows)
    pub outs : (s : Out) → jobs s + spreads_like s rows ≤ states_like s p.states

  -- what a node has to do with merges
  abbrev pub NodeMerges : Log → Bool → (Out → ℕ) → List OpenMerge → ℕ → Node D → Type 0
  NodeMerges log cut jobs rows n (Primary p) = PrimaryMerges log cut jobs rows p
  NodeMerges log cut jobs rows n (Replica r) = AreSentCopies rows n r.copies.running
  NodeMerges log cut jobs rows n (Down d) = ⊤

  -- All that is true of merges: the log shows the tasks, and those that are posted are fit; each node has what it has to do with them; and
  -- without a primary nothing is in flight or cut over.
  pub record MergesStand (log : Log) (cut : Bool) (size : ℕ) (board : Board) (places : List (Option (NodePlace D))) : Type 0 where
    pub tasks : TasksShow size log board
    pub fit : All (λ p. IsFitKind p.kind) board.posted
    pub each : (n : ℕ) → IsNode size n → IsSomeAnd (place_of places n) (λ place. NodeMerges log cut (λ s. jobs_like places s size) board.rows n place.node)
    pub vacant : primary_of (printed log) ≡ None → (cut ≡ false) × ((board.posted ≡ []) × (board.rows ≡ []))

  -- The primary's merges and what it cut over stay, and its copy states grow at least as its jobs do.
  pub record KeepsPrimaryMerges (jobs now : Out → ℕ) (p q : PrimaryParts D) : Type 0 where
    pub cut_over : q.has_cut_over ≡ p.has_cut_over
    pub merges : q.merges ≡ p.merges
    pub outs : (s : Out) → now s + states_like s p.states ≤ jobs s + states_like s q.states

  -- what a call must leave of a node for merges to stand: a replica that reopens runs no copy
  abbrev pub KeepsMerges : (Out → ℕ) → (Out → ℕ) → Node D → Node D → Type 0
  KeepsMerges jobs now (Primary p) (Primary q) = KeepsPrimaryMerges jobs now p q
  KeepsMerges jobs now (Replica r) (Replica s) = RunsNoOther r.copies.running s.copies.running
  KeepsMerges jobs now (Down d) (Replica s) = s.copies.running ≡ []
  KeepsMerges jobs now x (Down d) = ⊤
  KeepsMerges jobs now x y = ⊥

  -- the same of what is in a place
  abbrev pub PlaceKeepsMerges : (Out → ℕ) → (Out → ℕ) → Option (NodePlace D) → Option (NodePlace D) → Type 0
  PlaceKeepsMerges jobs now (Some x) (Some y) = KeepsMerges jobs now x.node y.node
  PlaceKeepsMerges jobs now x y = ⊥

  -- the same of all nodes
  abbrev pub KeepAllMerges : ℕ → List (Option (NodePlace D)) → List (Option (NodePlace D)) → Type 0
  KeepAllMerges size old new = (n : ℕ) → IsNode size n → PlaceKeepsMerges (λ s. jobs_like old s size) (λ s. jobs_like new s size) (place_of old n) (place_of new n)
