use Rattle.std.proofs.Common.{◌≡◌, List, ℕ, arith, subst, length}
use Rattle.std.proofs.lemmas.List.{length-map}
use Rattle.docs_plain.specs.Documents.{IsDocumentsFile}
use Rattle.postings_plain.specs.Body.{in_format, IsPostingsFile}
use Rattle.segment_infos.specs.SegmentInfo.{IsInfoFile}
use Rattle.seg_reader.specs.Files.{info_of}
use Rattle.seg_build.specs.Rows.{docs_of}
use Rattle.seg_build.proofs.Records.{read_as}
use Rattle.seg_build.proofs.contents.parts_of.Goals as goal

pub returns-clause-read : goal.returns-clause-read
returns-clause-read c =
    let r = c.args.segment.now in
    let rows = c.args.rows.now in
    let count : length (docs_of rows) ≡ length rows = length-map rows (λ row. row.doc) in
    let id = c.segment_id-id.ensures in
    let post = c.in_ok-post.ensures.file in
    let format = c.of_rows-format.result in
    read_as r _ (docs_of rows) c.args.live.now post.0 format c.of_rows-format.ensures (omega arith) (omega arith) c.requires.live
    (subst (λ (x : List ℕ). IsDocumentsFile x (docs_of rows) c.in_ok-docs.docs) id c.in_ok-docs.ensures.file) post.1 (subst (λ (x : List ℕ). IsPostingsFile x (in_format format post.0) c.in_ok-post.post) id post.2)
    (subst (λ (x : List ℕ). IsInfoFile x (info_of format r) c.in_ok-info.info) id c.in_ok-info.ensures) c.in_ok-live.ensures.given c.in_ok-live.ensures.rows
