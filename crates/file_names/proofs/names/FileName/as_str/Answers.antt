use Rattle.std.proofs.Common.{sym, subst}
use Rattle.std.specs.Str.{IsUtf8}
use Rattle.file_names.proofs.NameLemmas.{name_is_text}
use Rattle.file_names.proofs.names.FileName.as_str.Goals as goal

pub from_utf8_unchecked-requires : goal.from_utf8_unchecked-requires
from_utf8_unchecked-requires c = subst IsUtf8 (sym c.as_slice.ensures.bytes) (name_is_text _ c.as_slice.ensures.kind)
