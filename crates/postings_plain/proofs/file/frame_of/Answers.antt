use Rattle.std.proofs.Common.{◌∙◌}
use Rattle.body_forms.proofs.FileLaws.{moved}
use Rattle.postings_plain.proofs.FileLaws.{versions_are}
use Rattle.postings_plain.proofs.file.frame_of.Goals as goal

pub returns : goal.returns
returns c = moved _ _ _ _ _ (versions_are c.from.result c.from-2.result c.args.id.now (c.from.ensures ∙ c.number.ensures.value) (c.from-2.ensures ∙ c.number-2.ensures.value)) c.as_slice.ensures c.check.ensures
