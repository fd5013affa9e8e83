-- What a deleter holds: how often each name is counted, and which removals are due.
use Rattle.std.specs.Prelude.{◌≡◌, ℕ, ◌≤◌, nat_lt, Bool, true, false, ◌||◌, ◌&&◌, not, IsSome, List, unwrap_or, is_some, count_by, All}
use Rattle.std.specs.Map.{lookup}
use Rattle.disk_model.specs.Disk.{Name, Cells, same, is_among}

-- the counted names, each with its count; the names whose removal is due, ascending; and how often there is room for one more name or a rename
pub record Holdings : Type 0 where
  pub counts : List (Name × ℕ)
  pub due : List Name
  pub room : ℕ

-- the count of a name in a table of counts
abbrev pub count_in : List (Name × ℕ) → Name → ℕ
count_in counts q = unwrap_or (lookup (same q) counts) 0

-- how often a name is counted
abbrev pub count_of : Holdings → Name → ℕ
count_of holdings q = count_in holdings.counts q

-- the removal of a name is due
abbrev pub is_due : Holdings → Name → Bool
is_due holdings q = is_among holdings.due q

-- a name is counted, or its removal is due
abbrev pub is_known : Holdings → Name → Bool
is_known holdings q = nat_lt 0 (count_of holdings q) || is_due holdings q

-- the removals that are due are those from before, but of these names
abbrev pub IsDueBut : List Name → Holdings → Holdings → Type 0
IsDueBut names old new = (q : Name) → is_due new q ≡ (is_due old q && not (is_among names q))

-- a file has the name, and its removal is not due
abbrev pub IsInTheWay : Cells → Holdings → Name → Type 0
IsInTheWay cells holdings q = IsSome (cells q).now × (is_due holdings q ≡ false)

-- how often a name stands in a list
abbrev pub times : List Name → Name → ℕ
times names q = count_by (λ x. same x q) names

-- the directory has the name
abbrev pub IsThere : Cells → Name → Type 0
IsThere cells q = is_some (cells q).now ≡ true

-- a whole directory: its names are just the counted and the due ones, and no name is both
pub record IsWhole (cells : Cells) (holdings : Holdings) : Type 0 where
  pub names : (q : Name) → is_some (cells q).now ≡ is_known holdings q
  pub apart : (q : Name) → is_due holdings q ≡ true → count_of holdings q ≡ 0

-- each name is in the directory
pub record AreThere (cells : Cells) (names : List Name) : Type 0 where
  pub each : All (IsThere cells) names

-- each name is counted at least as often as it stands in the list
pub record AreCounted (names : List Name) (holdings : Holdings) : Type 0 where
  pub each : (q : Name) → times names q ≤ count_of holdings q
