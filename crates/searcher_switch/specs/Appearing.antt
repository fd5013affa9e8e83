-- Which names come to stand in a directory.
use Rattle.std.specs.Prelude.{◌≡◌, ◌⊎◌, true, Option, None, IsSomeAnd}
use Rattle.disk_model.specs.Disk.{Name, Cells}
use Rattle.file_names.specs.Names.{is_commit_name, is_pending_name, commit_number, pending_number}
use Rattle.file_deleter.specs.Holdings.{IsThere}
use Rattle.commit_steps.specs.declared.stage.Stage.{Stage}
use Rattle.commit_steps.specs.Book.{commit_of}

-- no name stands that did not stand before
pub record NoneAppears (before after : Cells) : Type 0 where
  pub each : (q : Name) → (before q).now ≡ None → (after q).now ≡ None

-- a name that stands and did not stand before is of this kind
pub record AppearsOnly (P : Name → Type 0) (before after : Cells) : Type 0 where
  pub each : (q : Name) → (before q).now ≡ None → IsThere after q → P q

-- the name is that of the commit in flight, or of it in preparation
abbrev pub IsNameInFlight : Option Stage → Name → Type 0
IsNameInFlight stage q = IsSomeAnd stage (λ s.
    ((is_commit_name q ≡ true) × (commit_number q ≡ (commit_of s).number)) ⊎ ((is_pending_name q ≡ true) × (pending_number q ≡ (commit_of s).number)))
