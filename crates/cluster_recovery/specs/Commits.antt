-- What the call for a commit makes of the node in a place, and what its line hands out.
use Rattle.std.specs.Prelude.{ℕ, ◌≡◌, Bool, true, false, List, Option}
use Rattle.disk_model.specs.Disk.{Cells}
use Rattle.commit_steps.specs.Book.{HasBegun}
use Rattle.cluster_nodes.specs.declared.nodes.NodePlace.{NodePlace}
use Rattle.cluster_nodes.specs.declared.went.Went.{Went}
use Rattle.cluster_nodes.specs.declared.went.Went.TheVariants.{Done as Given, Failed as Broken}
use Rattle.cluster_nodes.specs.Commits.{KeepsBook, StepsBook, CommitsIn}
use Rattle.cluster_state.specs.declared.turn.Turn.{Turn}
use Rattle.cluster_state.specs.declared.turn.Turn.TheVariants.{Work, Done}
use Rattle.cluster_recovery.specs.declared.commits.Called.{Called}
use Rattle.cluster_recovery.specs.declared.commits.Called.TheVariants.{Goes, Carried, Made, Failed}

-- what a line hands out whose call for a commit went so: it comes again where the call was not the last, else it has its reply
abbrev pub turned : Went Bool → Turn (Unit {0})
turned (Given true) = Done
turned (Given false) = Work tt
turned Broken = Done

module _ {D : Type 0} (cells : D → Cells) (n : ℕ) where
  -- the commit that was stopped is made, and the line's own has begun
  pub record CarriesIn (old new : List (Option (NodePlace D))) : Type 0 where
    pub mid : List (Option (NodePlace D))
    pub made : CommitsIn (StepsBook true) cells n old mid
    pub begun : CommitsIn HasBegun cells n mid new

  -- by how the call went, for a line that carries an older commit to its end or not, at a node that is stuck or not
  abbrev pub CallsFor : Bool → Bool → List (Option (NodePlace D)) → List (Option (NodePlace D)) → Called → Type 0
  CallsFor carries stuck old new Goes = CommitsIn (StepsBook false) cells n old new
  CallsFor carries stuck old new Carried = CarriesIn old new × (carries ≡ true) × (stuck ≡ true)
  CallsFor carries stuck old new Made = CommitsIn (StepsBook true) cells n old new × (carries ≡ false)
  CallsFor carries stuck old new Failed = CommitsIn KeepsBook cells n old new
