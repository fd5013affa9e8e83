-- What is kept of the cuts at the starts of lines.
use Rattle.std.specs.Prelude.{ℕ, ◌≡◌, Bool, false, unwrap_or}
use Rattle.std.specs.BTreeMap.{BTreeMap, get}
use Rattle.nrt_base.specs.declared.numbers.At.{At}
use Rattle.history_rules.specs.Nodes.{Past}
use Rattle.history_rules.specs.Lines.{before_start}
use Rattle.history_rules.specs.Points.{cut_has_put}
use Rattle.known_past.specs.Lines.{line_cmp}

-- what is noted of a line, that the cut had no put where nothing is
abbrev pub cut_noted : BTreeMap (ℕ × ℕ) Bool → At → Bool
cut_noted cuts at = unwrap_or (get line_cmp cuts (at.lane.0, at.line.0)) false

-- what is noted of a line is whether the cut had a put when it started
abbrev pub ShowsCuts : Past → BTreeMap (ℕ × ℕ) Bool → Type 0
ShowsCuts past cuts = (at : At) → cut_noted cuts at ≡ cut_has_put (before_start at past)
