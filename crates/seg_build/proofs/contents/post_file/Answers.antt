use Rattle.std.proofs.Common.{List, IfOk, ◌∙◌, subst}
use Rattle.postings_plain.specs.declared.row.TermRow.{TermRow}
use Rattle.postings_plain.specs.Inverting.{IsPostingsFileOf}
use Rattle.seg_build.proofs.contents.post_file.Goals as goal

pub returns-clause-file : goal.returns-clause-file
returns-clause-file c = subst (λ (rows : List TermRow). IfOk c.encode_in.result (IsPostingsFileOf c.args.format c.args.id.now rows)) (c.as_slice.ensures.value ∙ c.in_ok-terms.ensures) c.encode_in.ensures.file
