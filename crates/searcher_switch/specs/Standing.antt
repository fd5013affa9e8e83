-- What the commits of a node are of.
use Rattle.std.specs.Prelude.{◌≡◌, ◌⊎◌, List, Option, None, IfSome, IsSomeAnd}
use Rattle.nrt_base.specs.declared.doc.Doc.{Doc}
use Rattle.disk_model.specs.Disk.{Name, Content, Cells, Image, IsImage}
use Rattle.commit_steps.specs.Given.{Infos}
use Rattle.seg_reader.specs.Stands.{StandsFor}
use Rattle.disk_model.specs.Disk.{reads_of}
use Rattle.commit_steps.specs.Found.{ShowsNothing}
use Rattle.commit_steps.specs.Commits.{HasCommit}
use Rattle.commit_steps.specs.Book.{commit_of}
use Rattle.commit_steps.specs.declared.states.Commit.{Commit}
use Rattle.commit_steps.specs.declared.stage.CommitBook.{CommitBook}

-- where files read so, the infos are of some documents
pub record StandsForSome (reads : Name → Content) (infos : Infos) : Type 0 where
  pub docs : List Doc
  pub stands : StandsFor reads infos docs

-- the last commit and the one in flight are each of some documents
pub record IsStanding (reads : Name → Content) (book : CommitBook) : Type 0 where
  pub last : IfSome book.last (λ c. StandsForSome reads c.infos)
  pub flight : IfSome book.stage (λ s. StandsForSome reads (commit_of s).infos)

-- an image shows this commit with its files, and is of the same documents as what reads
pub record HasStanding (cells : Cells) (image : Image) (c : Commit) : Type 0 where
  pub has : HasCommit cells image c
  pub docs : List Doc
  pub stands : StandsFor (reads_of cells) c.infos docs
  pub image_stands : StandsFor image c.infos docs

-- each image shows the last commit or the one in flight, of the documents that the directory has of it now, or nothing where there is no last one
pub record ImagesStand (cells : Cells) (last flight : Option Commit) : Type 0 where
  pub each : (image : Image) → IsImage cells image →
      (ShowsNothing image × (last ≡ None)) ⊎ (IsSomeAnd last (HasStanding cells image) ⊎ IsSomeAnd flight (HasStanding cells image))
