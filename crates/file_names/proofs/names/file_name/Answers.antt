use Rattle.std.proofs.Common.{sym, ◌∙◌}
use Rattle.file_names.proofs.NameLemmas.{is_name}
use Rattle.file_names.proofs.names.file_name.Goals as goal

pub padded-requires : goal.padded-requires
padded-requires c = is_name c.args.bytes.now (sym c.is_empty.ensures ∙ c.if-is_empty.false) c.if-bytes-gt-LONGEST.false (sym c.first_refused.ensures ∙ c.in-None.is)
