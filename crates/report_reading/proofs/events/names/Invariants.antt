use Rattle.std.proofs.Common.{◌≡◌, ◌++◌, length}
use Rattle.std.specs.Option.{option_map}
use Rattle.report_reading.specs.Cuts.{later_words}
use Rattle.report_reading.specs.Readings.{names_read}
use Rattle.report_reading.proofs.events.names.Given as goal

abbrev pub invariant-loop-word : goal.invariant-loop-word
invariant-loop-word l = names_read (later_words l.text) ≡ option_map (λ xs. l.names.items ++ xs) (names_read (later_words l.left))

abbrev pub decreases-loop-word : goal.decreases-loop-word
decreases-loop-word l = length l.left
