use Rattle.file_names.proofs.NameLemmas.{is_padded}
use Rattle.file_names.proofs.names.padded.Goals as goal

pub invariant_of-result : goal.invariant_of-result
invariant_of-result c = is_padded c.args.bytes.now c.with_zeros.result c.requires c.with_zeros.ensures
