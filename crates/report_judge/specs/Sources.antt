-- How a source is cut into a script and a report: at its first line that is the word `report` alone.
use Rattle.std.specs.Prelude.{ℕ, List, [], ◌∷◌, codes, Bool, true, ◌&&◌, ◌||◌, ◌==◌, if◌then◌else◌, bytes_eq}
use Rattle.report_reading.specs.Cuts.{first_line, behind_line}

-- the line is the word `report` alone
abbrev pub is_mark : List ℕ → Bool
is_mark line = bytes_eq line (codes "report\n") || bytes_eq line (codes "report")

-- what stands before the first such line, where a line starts here or not
abbrev pub before_mark : Bool → List ℕ → List ℕ
before_mark start [] = []
before_mark start (b ∷ bytes) = if start && is_mark (first_line (b ∷ bytes)) then [] else b ∷ before_mark (b == 10) bytes

-- what stands behind it: nothing where there is none
abbrev pub behind_mark : Bool → List ℕ → List ℕ
behind_mark start [] = []
behind_mark start (b ∷ bytes) = if start && is_mark (first_line (b ∷ bytes)) then behind_line (b ∷ bytes) else behind_mark (b == 10) bytes

-- the part of a source that is a script
abbrev pub script_part : List ℕ → List ℕ
script_part bytes = before_mark true bytes

-- the part of a source that is a report
abbrev pub report_part : List ℕ → List ℕ
report_part bytes = behind_mark true bytes
