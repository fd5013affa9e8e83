-- What the readers of a point show, where its files are of some documents.
use Rattle.std.proofs.Common.{List, subst}
use Rattle.nrt_base.specs.declared.doc.Doc.{Doc}
use Rattle.disk_model.specs.Disk.{Name, Content, Cells, reads_of}
use Rattle.segment_infos.specs.declared.infos.Infos.{Infos}
use Rattle.seg_reader.specs.Shown.{Shown}
use Rattle.seg_reader.specs.Stands.{StandsFor, AreSegmentsOf}
use Rattle.seg_reader.proofs.StandingLaws.{one_segs}
use Rattle.searcher_switch.proofs.Standing.{stands_along}
use Rattle.replica_opening.specs.Readers.{AreReaders}
use Rattle.replica_opening.specs.Opening.{FindsPoint}
use Rattle.replica_opening.specs.Opened.{IsHandedBack}
use Rattle.std.specs.Prelude.{ℕ, Option}

-- readers of a point whose files are of these documents are of these documents
pub readers_search : (reads : Name → Content) (infos : Infos) (segs : List Shown) (docs : List Doc) → AreReaders reads infos.segs segs → StandsFor reads infos docs → AreSegmentsOf docs segs
readers_search reads infos segs docs readers stands =
    subst (λ (ss : List Shown). AreSegmentsOf docs ss) (one_segs reads infos.segs stands.segs segs stands.stands.each readers) stands.stands.stand

-- over an opening the files of the point are of the same documents
pub stands_back : (before after : Cells) (number : Option ℕ) (infos : Infos) (docs : List Doc) → IsHandedBack before after → FindsPoint (reads_of before) number infos → StandsFor (reads_of before) infos docs → StandsFor (reads_of after) infos docs
stands_back before after number infos docs back finds stands = stands_along (reads_of before) (reads_of after) infos docs (back.files number infos finds) stands
