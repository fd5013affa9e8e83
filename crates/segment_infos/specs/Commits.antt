-- The numbers of the commits that a directory's names show.
use Rattle.std.specs.Prelude.{◌≡◌, ℕ, ◌+◌, ◌≤◌, List, [], false, Option, Some, None}
use Rattle.std.specs.List.{All, Contains, filter_map}
use Rattle.file_names.specs.Names.{is_commit_name, is_pending_name, number_of_commit, number_of_pending}

-- the name is neither that of a commit nor that of one in preparation
abbrev pub IsOfNoCommit : List ℕ → Type 0
IsOfNoCommit name = (is_commit_name name ≡ false) × (is_pending_name name ≡ false)

-- the numbers of the commits among the names
abbrev pub commit_numbers : List (List ℕ) → List ℕ
commit_numbers names = filter_map number_of_commit names

-- the numbers of the commits in preparation among the names
abbrev pub pending_numbers : List (List ℕ) → List ℕ
pending_numbers names = filter_map number_of_pending names

-- the greatest of the numbers, or nothing where there are none
abbrev pub IsGreatest : List ℕ → Option ℕ → Type 0
IsGreatest numbers None = numbers ≡ []
IsGreatest numbers (Some n) = Contains numbers n × All (λ m. m ≤ n) numbers

-- one above the number, or 1 where there is none
abbrev pub number_after : Option ℕ → ℕ
number_after None = 1
number_after (Some n) = n + 1

-- one above the greatest of the numbers, or 1 where there are none
abbrev pub IsNext : List ℕ → ℕ → Type 0
IsNext numbers n = (greatest : Option ℕ) × IsGreatest numbers greatest × (n ≡ number_after greatest)
