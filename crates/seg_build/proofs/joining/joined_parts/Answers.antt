use Rattle.std.proofs.Common.{List, ℕ, map, arith, subst}
use Rattle.std.proofs.lemmas.List.{length-map}
use Rattle.docs_plain.specs.Documents.{IsDocumentsFile}
use Rattle.postings_plain.specs.Body.{in_format, IsPostingsFile}
use Rattle.postings_plain.specs.Gathering.{AreFew}
use Rattle.segment_infos.specs.SegmentInfo.{IsInfoFile}
use Rattle.seg_reader.specs.Files.{info_of}
use Rattle.seg_reader.specs.Sound.{term_row}
use Rattle.seg_build.proofs.Records.{read_as}
use Rattle.seg_build.proofs.WordCounts.{few_in_each}
use Rattle.seg_build.proofs.joining.joined_parts.Goals as goal

pub encode-requires-2 : goal.encode-requires-2
encode-requires-2 c =
    let docs = c.args.docs.now in
    let long = length-map docs term_row in
    let few : AreFew (map term_row docs) = record { rows_few = omega (arith, long, c.requires.count, c.requires.live.rows); words_few = few_in_each docs c.in_ok-file.ensures.file.spelled.fit } in
    (map term_row docs, c.requires.joined, few, omega (arith, long, c.requires.some))

pub returns-clause-read : goal.returns-clause-read
returns-clause-read c =
    let r = c.args.segment.now in
    let docs = c.args.docs.now in
    let id = c.segment_id-id.ensures in
    let long = length-map docs term_row in
    let few : AreFew (map term_row docs) = record { rows_few = omega (arith, long, c.requires.count, c.requires.live.rows); words_few = few_in_each docs c.in_ok-file.ensures.file.spelled.fit } in
    let post = c.in_ok-post.ensures.file (map term_row docs) c.requires.joined few (omega (arith, long, c.requires.some)) in
    let format = c.of_rows-format.result in
    read_as r _ docs c.args.live.now post.0 format c.of_rows-format.ensures c.requires.some c.requires.count c.requires.live
    (subst (λ (x : List ℕ). IsDocumentsFile x docs c.in_ok-file.file) id c.in_ok-file.ensures.file) post.1 (subst (λ (x : List ℕ). IsPostingsFile x (in_format format post.0) c.in_ok-post.post) id post.2)
    (subst (λ (x : List ℕ). IsInfoFile x (info_of format r) c.in_ok-info.info) id c.in_ok-info.ensures) c.in_ok-live.ensures.given c.in_ok-live.ensures.rows
