-- Copies of merged segments that copy a file which a newer point copies too.
use Rattle.std.specs.Prelude.{ℕ, Bool, ◌||◌, not, if◌then◌else◌, List, [], ◌∷◌, Option, Some, None, filter}
use Rattle.std.specs.List.{list_any}
use Rattle.disk_model.specs.Disk.{Name, is_among}
use Rattle.copy_job.specs.Jobs.{Job}

-- the test whether a job copies one of the files of these names
abbrev pub overlaps : List Name → Job → Bool
overlaps names c = list_any (is_among names) c.missing || list_any (λ p. is_among names p.own) c.parts

-- the number of the first copy that does
abbrev pub first_overlapping : List Name → List Job → Option ℕ
first_overlapping names [] = None
first_overlapping names (c ∷ cs) = if overlaps names c then Some c.number else first_overlapping names cs

-- the copies that do not
abbrev pub copies_beside : List Name → List Job → List Job
copies_beside names cs = filter (λ c. not (overlaps names c)) cs
