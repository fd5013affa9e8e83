-- A replica whose copies give names back.
use Rattle.std.proofs.Common.{◌≡◌, ◌+◌, ◌<◌, ◌≤◌, ◌^◌, ℕ, List, ◌++◌, arith}
use Rattle.file_names.specs.Names.{temp_name_of}
use Rattle.disk_model.specs.Disk.{Name, Cells, reads_of}
use Rattle.file_deleter.specs.Holdings.{Holdings, times, AreCounted}
use Rattle.file_deleter.specs.Moves.{LetsGo}
use Rattle.file_deleter.proofs.NameLemmas.{times-append}
use Rattle.searcher_switch.specs.Node.{IsWholeNode, KeepsBytes}
use Rattle.searcher_switch.proofs.Carry.{node_lets_go, node_same_names}
use Rattle.searcher_switch.specs.Tickets.{ticket_names}
use Rattle.searcher_switch.specs.Searching.{searcher_names}
use Rattle.copy_job.specs.Jobs.{Job, job_names}
use Rattle.replica_node.specs.declared.parts.ReplicaParts.{ReplicaParts}
use Rattle.replica_node.specs.Merges.{copied_names}
use Rattle.replica_node.specs.Replica.{IsPointOf, IsMergeCopy, copying_names, replica_names}
use Rattle.replica_node.proofs.Along.{point_along}
use Rattle.replica_node.proofs.Carried.{HoldsNoOther}
use Rattle.replica_node.proofs.Cores.{IsCore}
use Rattle.replica_node.proofs.Keeping.{merge_spared}
use Rattle.replica_node.proofs.Sparing.{SparesJob}

module _ {D : Type 0} (cells : D → Cells) (p : ReplicaParts D) (is : IsCore cells p) (gone rest : List Name) (split : (q : Name) → times (copying_names p) q ≡ times gone q + times rest q) where
  pub gone_counted : AreCounted gone p.files
  gone_counted = record { each = λ q. omega (arith, is.node.counts q, split q, times-append (searcher_names p.searchers) (copying_names p) q) }

  module _ (dir : D) (files : Holdings) (lets_go : LetsGo gone p.files files (cells p.dir) (cells dir)) where
    pub node_rest : IsWholeNode (cells dir) files (searcher_names p.searchers ++ rest) p.commits
    node_rest = node_lets_go (cells p.dir) (cells dir) p.files files (searcher_names p.searchers ++ rest) gone p.commits
        (node_same_names (cells p.dir) p.files (replica_names p) (gone ++ (searcher_names p.searchers ++ rest)) p.commits is.node
        (λ q. omega (arith, split q, times-append (searcher_names p.searchers) (copying_names p) q, times-append gone (searcher_names p.searchers ++ rest) q, times-append (searcher_names p.searchers) rest q))) lets_go

    pub point_rest : IsPointOf (reads_of (cells dir)) p.infos p.searchers.point
    point_rest = point_along (cells p.dir) (cells dir) p.infos p.searchers.point is.point (λ q some.
        let n : 0 < times (searcher_names p.searchers) q = omega (arith, some, times-append p.searchers.point.names (ticket_names p.searchers.tickets) q) in
        lets_go.keeps.reads q (omega (arith, n, is.node.counts q, times-append (searcher_names p.searchers) (copying_names p) q)) (omega (arith, n, node_rest.counts q, times-append (searcher_names p.searchers) rest q)))

    pub rest_other : HoldsNoOther p.files files
    rest_other = record { each = λ q lasting none. omega (arith, none, lets_go.counts q) }

    pub rest_bytes : KeepsBytes p.files files (cells p.dir) (cells dir)
    rest_bytes = record { held = lets_go.keeps.reads }

    -- a copy that stays
    module _ (c : Job) (within : (q : Name) → times (job_names c) q ≤ times rest q) (foreign : (name : Name) (k : ℕ) → 0 < times (copied_names c) name → k < 2 ^ 64 → times gone (temp_name_of name k) ≡ 0) where
      pub copy_bytes : (q : Name) → 0 < times (job_names c) q → (cells dir q).now ≡ (cells p.dir q).now
      copy_bytes q some = lets_go.keeps.reads q (omega (arith, some, within q, split q, is.node.counts q, times-append (searcher_names p.searchers) (copying_names p) q)) (omega (arith, some, within q, node_rest.counts q, times-append (searcher_names p.searchers) rest q))

      pub copy_spared : SparesJob c p.files files (cells p.dir) (cells dir)
      copy_spared = record {
        temporary = λ name k copied fewer. omega (arith, foreign name k copied fewer, lets_go.counts (temp_name_of name k));
        unheld = λ q copied none. omega (arith, none, lets_go.counts q);
        bytes = copy_bytes;
      }

      pub copy_stays : (jobs : ℕ) → IsMergeCopy (cells p.dir) p.files jobs c → IsMergeCopy (cells dir) files jobs c
      copy_stays jobs m = merge_spared (cells p.dir) (cells dir) p.files files jobs jobs c (omega arith) copy_spared m
