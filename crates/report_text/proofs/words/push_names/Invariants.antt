use Rattle.std.proofs.Common.{◌≡◌, ◌++◌, drop}
use Rattle.report_text.specs.Texts.{all_spaced}
use Rattle.report_text.proofs.words.push_names.Given as goal

abbrev pub invariant-loop-name : goal.invariant-loop-name
invariant-loop-name l = l.out.items ++ all_spaced (drop l.name-index l.names) ≡ l.fn.out.items ++ all_spaced l.names
