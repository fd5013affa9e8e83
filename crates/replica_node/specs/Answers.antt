-- What a replica answers where it is told of a point.
use Rattle.std.specs.Prelude.{ℕ, ◌==◌, nat_lt, if◌then◌else◌}
use Rattle.replica_node.specs.declared.answer.PointAnswer.{PointAnswer}
use Rattle.replica_node.specs.declared.answer.PointAnswer.TheVariants.{Start, Same, Older, OldGen}

-- by the greatest generation seen and the version searched, a point of this generation and version
abbrev pub point_answer : (seen version generation asked : ℕ) → PointAnswer
point_answer seen version generation asked =
    if nat_lt generation seen then OldGen (record { 0 = seen })
    else (if asked == version then Same (record { 0 = version }) else (if nat_lt asked version then Older (record { 0 = version }) else Start))
