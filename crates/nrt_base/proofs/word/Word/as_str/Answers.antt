use Rattle.std.proofs.Common.{sym, subst}
use Rattle.std.specs.Str.{IsUtf8}
use Rattle.nrt_base.proofs.Plain.{word_is_text}
use Rattle.nrt_base.proofs.word.Word.as_str.Goals as goal

pub from_utf8_unchecked-requires : goal.from_utf8_unchecked-requires
from_utf8_unchecked-requires c = subst IsUtf8 (sym c.as_slice.ensures.bytes) (word_is_text _ c.as_slice.ensures.kind)
