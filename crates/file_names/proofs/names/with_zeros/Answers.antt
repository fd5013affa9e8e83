use Rattle.file_names.proofs.NameLemmas.{over_zeros}
use Rattle.file_names.proofs.names.with_zeros.Goals as goal

pub returns : goal.returns
returns c = over_zeros _ c.args.bytes.now c.copy_from_slice.ensures.after
