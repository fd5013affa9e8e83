use Rattle.std.proofs.Common.{ℕ, List, ◌<◌, length, sym, subst, ◌∙◌}
use Rattle.postings_plain.specs.declared.row.TermRow.{TermRow}
use Rattle.postings_plain.specs.Inverting.{IsPostingsFileOf}
use Rattle.seg_reader.specs.Files.{record_id}
use Rattle.index_check.proofs.Postings.{sound_by_file}
use Rattle.index_check.proofs.segment.has_own_postings.Goals as goal

pub encode_in-requires : goal.encode_in-requires
encode_in-requires c = subst (λ (ts : List TermRow). 0 < length ts) (sym c.as_slice.ensures.value) c.in_ok-terms.ensures.some

pub returns : goal.returns
returns c =
    let rows = c.as_slice.result.now in
    let made = subst (λ (id : List ℕ). IsPostingsFileOf c.args.format id rows c.in_ok-file.file) c.segment_id-id.ensures c.in_ok-file.ensures.file in
    let same = sound_by_file (record_id c.args.record.now) c.args.format c.args.segment.now rows c.args.post.now c.in_ok-file.file (c.as_slice.ensures.value ∙ c.in_ok-terms.ensures.terms) c.requires made in
    let told = c.is_same_file.ensures in
    (λ h. same.0 (told.0 h), λ sound. told.1 (same.1 sound))
