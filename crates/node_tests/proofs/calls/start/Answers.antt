use Rattle.std.proofs.Common.{ap, ◌∙◌, arith}
use Rattle.file_deleter.specs.Holdings.{Holdings}
use Rattle.commit_steps.specs.declared.stage.CommitBook.{CommitBook}
use Rattle.searcher_switch.specs.declared.open.SearchPoint.{SearchPoint}
use Rattle.seg_reader.specs.Shown.{Shown}
use Rattle.index_primary.proofs.Callers.{empty_node, empty_held}
use Rattle.node_tests.proofs.Seeing.{no_names, empty_spelled}
use Rattle.node_tests.proofs.calls.start.Goals as goal

pub from_parts-requires-clause-node : goal.from_parts-requires-clause-node
from_parts-requires-clause-node g c =
    let names = ap (λ (p : SearchPoint Shown). p.names) c.in_ok-searchers.ensures.point ∙ c.new-names.ensures in
    empty_node (g.D.Dir.cells c.args.dir) _ _ _ c.requires.empty.none (ap (λ (h : Holdings). h.counts) c.in_ok-files.ensures) (ap (λ (h : Holdings). h.due) c.in_ok-files.ensures)
    (no_names c.in_ok-searchers.searchers names c.in_ok-searchers.ensures.tickets) (ap (λ (b : CommitBook). b.last) c.new-commits.ensures.book) (ap (λ (b : CommitBook). b.stage) c.new-commits.ensures.book)
    (c.new-commits.ensures.sound _ _ c.requires.empty.images)

pub from_parts-requires-clause-held : goal.from_parts-requires-clause-held
from_parts-requires-clause-held g c =
    let names = ap (λ (p : SearchPoint Shown). p.names) c.in_ok-searchers.ensures.point ∙ c.new-names.ensures in
    empty_held _ _ _ _ (empty_spelled _ (omega arith) (omega arith) c.new-records.ensures) c.new-records.ensures c.new-segs.ensures names
