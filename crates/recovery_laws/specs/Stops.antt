-- Where a node stands that crashed and was opened again.
use Rattle.std.specs.Prelude.{◌≡◌, ◌⊎◌, ℕ, List, Option, Some, None, IsSome, IsSomeAnd}
use Rattle.std.specs.Option.{option_map}
use Rattle.nrt_base.specs.declared.doc.Doc.{Doc}
use Rattle.disk_model.specs.Disk.{Cells, reads_of}
use Rattle.segment_infos.specs.declared.infos.Infos.{Infos}
use Rattle.seg_reader.specs.Stands.{StandsFor}
use Rattle.commit_steps.specs.declared.states.Commit.{Commit}
use Rattle.commit_steps.specs.declared.stage.Stage.{Stage}
use Rattle.commit_steps.specs.declared.stage.CommitBook.{CommitBook}
use Rattle.commit_steps.specs.Book.{commit_of, shown_by}
use Rattle.replica_opening.specs.Opening.{opening_infos}
use Rattle.replica_node.specs.declared.parts.ReplicaParts.{ReplicaParts}
use Rattle.replica_node.specs.Starting.{SearchesJust}

-- the number and the infos that were found are those of this commit
abbrev pub IsFoundAs : ℕ × Infos → Commit → Type 0
IsFoundAs found c = (found.0 ≡ c.number) × (found.1 ≡ c.infos)

-- the commit in flight
abbrev pub staged_commit : Option Stage → Option Commit
staged_commit stage = option_map commit_of stage

-- the commit in flight is still in flight
pub record IsStillInFlight (old new : CommitBook) : Type 0 where
  pub last : new.last ≡ old.last
  pub flight : staged_commit new.stage ≡ staged_commit old.stage
  pub some : IsSome new.stage

-- calls were made for the commit in flight: it is still in flight, or it is made, and is the last one
abbrev pub CommitGoesOn : CommitBook → CommitBook → Type 0
CommitGoesOn old new = IsStillInFlight old new ⊎ ((new.last ≡ staged_commit old.stage) × (new.stage ≡ None))

module _ {D : Type 0} where
  -- what is found of a node's commits: its last one, or the one in flight, or nothing where none was made
  abbrev pub FindsCommit : ReplicaParts D → Option (ℕ × Infos) → Type 0
  FindsCommit was None = was.commits.last ≡ None
  FindsCommit was (Some found) = IsSomeAnd was.commits.last (IsFoundAs found) ⊎ IsSomeAnd (shown_by was.commits.stage) (IsFoundAs found)

  -- a node searches the point of a commit that this node had, and just the documents that the commit was of
  pub record StandsAt (cells : D → Cells) (was now : ReplicaParts D) (c : Commit) : Type 0 where
    pub infos : now.infos ≡ c.infos
    pub docs : List Doc
    pub were : StandsFor (reads_of (cells was.dir)) c.infos docs
    pub searches : SearchesJust cells docs now

  -- a node stands at the last commit of this one, or at the one in flight, or, where none was made, at the opening point
  abbrev pub StandsAgain : (D → Cells) → ReplicaParts D → ReplicaParts D → Type 0
  StandsAgain cells was now =
      ((was.commits.last ≡ None) × (now.infos ≡ opening_infos))
      ⊎ (IsSomeAnd was.commits.last (StandsAt cells was now) ⊎ IsSomeAnd (shown_by was.commits.stage) (StandsAt cells was now))

  -- a node has the infos of the last commit of this one, or of the one in flight, or, where none was made, those of the opening point
  abbrev pub HasInfosAgain : ReplicaParts D → ReplicaParts D → Type 0
  HasInfosAgain was now =
      ((was.commits.last ≡ None) × (now.infos ≡ opening_infos))
      ⊎ (IsSomeAnd was.commits.last (λ c. now.infos ≡ c.infos) ⊎ IsSomeAnd (staged_commit was.commits.stage) (λ c. now.infos ≡ c.infos))
