-- Tickets of a replica.
use Rattle.replica_node.proofs.Cores.{IsCore}
use Rattle.std.proofs.Common.{◌≡◌, ◌<◌, [], ◌++◌, refl, sym, ap, subst, arith}
use Rattle.disk_model.specs.Disk.{Cells, reads_of}
use Rattle.file_deleter.specs.Holdings.{Holdings, times}
use Rattle.file_deleter.specs.Moves.{MovesCounts}
use Rattle.file_deleter.proofs.NameLemmas.{times-append}
use Rattle.seg_reader.specs.Shown.{Shown}
use Rattle.searcher_switch.specs.Node.{IsWholeNode, AddsOnly, HoldsNoMore}
use Rattle.searcher_switch.proofs.Carry.{node_front}
use Rattle.searcher_switch.specs.declared.open.SearchPoint.{SearchPoint}
use Rattle.searcher_switch.specs.declared.searchers.Searchers.{Searchers}
use Rattle.searcher_switch.specs.Tickets.{ticket_names}
use Rattle.searcher_switch.specs.Searching.{searcher_names}
use Rattle.replica_node.specs.declared.parts.ReplicaParts.{ReplicaParts}
use Rattle.replica_node.specs.Replica.{IsPointOf, IsJobAbove, copying_names}
use Rattle.std.specs.Prelude.{IfSome}
use Rattle.file_names.specs.Names.{temp_name_of}
use Rattle.replica_node.proofs.Along.{point_along}
use Rattle.replica_node.proofs.Beside.{waits_on, front_no_more}

pub searched : {D : Type 0} (cells : D → Cells) (p : ReplicaParts D) → IsCore cells p → (dir : D) (files : Holdings) (searchers : Searchers Shown)
    → MovesCounts [] (searcher_names p.searchers) (searcher_names searchers) p.files files (cells p.dir) (cells dir) → AddsOnly [] (searcher_names p.searchers) (searcher_names searchers) → searchers.point ≡ p.searchers.point
    → IsCore cells (record p { dir = dir; files = files; searchers = searchers })
searched cells p is dir files searchers moves only same =
    let node : IsWholeNode (cells dir) files (searcher_names searchers ++ copying_names p) p.commits =
    node_front (cells p.dir) (cells dir) p.files files p.commits (searcher_names p.searchers) (searcher_names searchers) (copying_names p) is.node moves only in
    record {
      node = node;
      point = subst (λ (x : SearchPoint Shown). IsPointOf (reads_of (cells dir)) p.infos x) (sym same) (point_along (cells p.dir) (cells dir) p.infos p.searchers.point is.point (λ q some.
          let had : 0 < times (searcher_names p.searchers) q = omega (arith, some, times-append p.searchers.point.names (ticket_names p.searchers.tickets) q) in
          let here : times searchers.point.names q ≡ times p.searchers.point.names q = ap (λ (x : SearchPoint Shown). times x.names q) same in
          let has : 0 < times (searcher_names searchers) q = omega (arith, some, here, times-append searchers.point.names (ticket_names searchers.tickets) q) in
          moves.keeps.reads q (omega (arith, had, is.node.counts q, times-append (searcher_names p.searchers) (copying_names p) q)) (omega (arith, has, node.counts q, times-append (searcher_names searchers) (copying_names p) q))));
      spelled = is.spelled;
      lasting = record { each = λ name job. only.each (temp_name_of name job) (is.lasting.each name job) refl };
      newer = subst (λ (x : SearchPoint Shown). IfSome p.job (IsJobAbove x.version.0)) (sym same) is.newer;
      waits = waits_on (cells p.dir) (cells dir) p.files files p.searchers.point.version.0 p.job (searcher_names p.searchers) (searcher_names searchers) (copying_names p) p.commits p.commits is.node node is.lasting
          (record { each = λ name job. only.each (temp_name_of name job) (is.lasting.each name job) refl })
          (front_no_more (cells p.dir) (cells dir) p.files files (searcher_names p.searchers) (searcher_names searchers) (copying_names p) p.commits is.node node only) is.newer is.waits;
    }

pub searched_only : {D : Type 0} (cells : D → Cells) (p : ReplicaParts D) → IsCore cells p → (dir : D) (files : Holdings) (searchers : Searchers Shown)
    → MovesCounts [] (searcher_names p.searchers) (searcher_names searchers) p.files files (cells p.dir) (cells dir) → AddsOnly [] (searcher_names p.searchers) (searcher_names searchers) → HoldsNoMore p.files files
searched_only cells p is dir files searchers moves only =
    front_no_more (cells p.dir) (cells dir) p.files files (searcher_names p.searchers) (searcher_names searchers) (copying_names p) p.commits is.node
    (node_front (cells p.dir) (cells dir) p.files files p.commits (searcher_names p.searchers) (searcher_names searchers) (copying_names p) is.node moves only) only
