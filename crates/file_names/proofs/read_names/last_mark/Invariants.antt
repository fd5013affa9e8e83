use Rattle.std.proofs.Common.{◌≡◌, ◌<◌, ◌+◌, get_or, take, drop}
use Rattle.std.specs.Prelude.{true}
use Rattle.std.specs.Option.{MatchOption}
use Rattle.file_names.specs.Names.{is_unmarked}
use Rattle.file_names.proofs.read_names.last_mark.Given as goal

abbrev pub invariant-loop-at : goal.invariant-loop-at
invariant-loop-at l =
    MatchOption l.last (is_unmarked (take l.at l.bytes) ≡ true)
    (λ k. (k < l.at) × (get_or l.bytes k 0 ≡ 95) × (is_unmarked (drop (k + 1) (take l.at l.bytes)) ≡ true))
