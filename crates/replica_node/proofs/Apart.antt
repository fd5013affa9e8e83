-- A replica that is taken apart.
use Rattle.std.proofs.Common.{◌≡◌, ◌<◌, List, Option, None, ◌≤◌, ◌∙◌, sym, ap, subst, arith}
use Rattle.nrt_base.specs.declared.doc.Doc.{Doc}
use Rattle.disk_model.specs.Disk.{Name, Cells, reads_of}
use Rattle.file_deleter.specs.Holdings.{Holdings, count_of, times}
use Rattle.file_deleter.proofs.NameLemmas.{times-append}
use Rattle.std.specs.Prelude.{Contains}
use Rattle.std.specs.List.{flat_map}
use Rattle.segment_infos.specs.declared.infos.Infos.{Infos}
use Rattle.segment_infos.specs.Files.{files_of_segment}
use Rattle.seg_reader.specs.Shown.{Shown}
use Rattle.seg_reader.specs.Stands.{StandsFor, StandsWith}
use Rattle.searcher_switch.specs.Node.{IsWholeNode, KeepsBytes}
use Rattle.searcher_switch.proofs.Carry.{node_same_names}
use Rattle.searcher_switch.proofs.Standing.{stands_along}
use Rattle.searcher_switch.specs.Tickets.{ticket_names}
use Rattle.searcher_switch.specs.Searching.{searcher_names}
use Rattle.replica_node.specs.declared.job.PointJob.{PointJob}
use Rattle.replica_node.specs.declared.parts.ReplicaParts.{ReplicaParts}
use Rattle.replica_node.specs.declared.merges.MergeCopies.{MergeCopies}
use Rattle.replica_node.specs.Merges.{copies_names, no_copies}
use Rattle.replica_node.specs.Replica.{IsWholeReplica, names_of_job, copying_names, replica_names}
use Rattle.replica_node.proofs.Named.{file_counted}
use Rattle.replica_node.proofs.Documents.{readers_search}

-- without copies, the searchers alone hold files beside the commits
pub node_apart : {D : Type 0} (cells : D → Cells) (p : ReplicaParts D) → IsWholeReplica cells p → p.job ≡ None → p.copies ≡ no_copies → IsWholeNode (cells p.dir) p.files (searcher_names p.searchers) p.commits
node_apart cells p is none empty = node_same_names (cells p.dir) p.files (replica_names p) (searcher_names p.searchers) p.commits is.node
    (λ q.
    let z : times (names_of_job p.job) q ≡ 0 = ap (λ (o : Option PointJob). times (names_of_job o) q) none in
    let y : times (copies_names p.copies) q ≡ 0 = ap (λ (c : MergeCopies). times (copies_names c) q) empty in
    omega (arith, z, y, times-append (searcher_names p.searchers) (copying_names p) q, times-append (names_of_job p.job) (copies_names p.copies) q))

-- two calls in a row, of which the second holds no more than the first
pub bytes_apart : (h0 h1 h2 : Holdings) (a b c : Cells) → KeepsBytes h0 h1 a b → KeepsBytes h1 h2 b c → ((q : Name) → count_of h2 q ≤ count_of h1 q) → KeepsBytes h0 h2 a c
bytes_apart h0 h1 h2 a b c x y fewer = record { held = λ q had has. let mid : 0 < count_of h1 q = omega (arith, has, fewer q) in y.held q mid has ∙ x.held q had mid }

-- the segments at hand are of the documents of the point
pub segs_stand : {D : Type 0} (cells : D → Cells) (p now : ReplicaParts D) → IsWholeReplica cells p → IsWholeReplica cells now → now.infos ≡ p.infos → KeepsBytes p.files now.files (cells p.dir) (cells now.dir)
    → (docs : List Doc) → StandsFor (reads_of (cells p.dir)) p.infos docs → StandsWith (reads_of (cells now.dir)) now.infos now.segs docs
segs_stand cells p now is after same stays docs stands =
    let there : StandsFor (reads_of (cells now.dir)) p.infos docs = stands_along (reads_of (cells p.dir)) (reads_of (cells now.dir)) p.infos docs (λ q named.
    let some : 0 < times p.searchers.point.names q = file_counted p.infos p.searchers.point.names is.point.names q named in
    let has : 0 < times now.searchers.point.names q = file_counted now.infos now.searchers.point.names after.point.names q (subst (λ (i : Infos). Contains (flat_map files_of_segment i.segs) q) (sym same) named) in
    stays.held q (omega (arith, some, is.node.counts q, times-append (searcher_names p.searchers) (copying_names p) q, times-append p.searchers.point.names (ticket_names p.searchers.tickets) q))
    (omega (arith, has, after.node.counts q, times-append (searcher_names now.searchers) (copying_names now) q, times-append now.searchers.point.names (ticket_names now.searchers.tickets) q))) stands in
    let mine : StandsFor (reads_of (cells now.dir)) now.infos docs = subst (λ (i : Infos). StandsFor (reads_of (cells now.dir)) i docs) (sym same) there in
    subst (λ (ss : List Shown). StandsWith (reads_of (cells now.dir)) now.infos ss docs) (sym after.segs)
    (record { each = after.point.readers; stand = readers_search (reads_of (cells now.dir)) now.infos now.searchers.point.readers docs after.point.readers mine })
