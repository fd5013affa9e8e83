-- What an opened node has.
use Rattle.std.specs.Prelude.{◌≡◌, ◌+◌, ◌++◌, ℕ, true, is_some, List, [], Option, Some, None, IfSome, Contains}
use Rattle.std.specs.List.{flat_map}
use Rattle.disk_model.specs.Disk.{Name, Cells, Image, is_among, reads_of}
use Rattle.file_deleter.specs.Holdings.{count_of, times, IsWhole}
use Rattle.segment_infos.specs.declared.infos.Infos.{Infos}
use Rattle.segment_infos.specs.Infos.{CanSpell}
use Rattle.segment_infos.specs.Files.{files_of_segment, AreFilesOf}
use Rattle.commit_steps.specs.Flights.{IsCommit}
use Rattle.commit_steps.specs.Commits.{HasFilesOf, ImagesShowNothing, ImagesShow}
use Rattle.commit_steps.specs.Book.{book_names, IsBookSound}
use Rattle.searcher_switch.specs.Node.{HasNoPending, AreFree, IsWholeNode}
use Rattle.searcher_switch.specs.Searching.{searcher_names}
use Rattle.replica_opening.specs.declared.opening.FilesAndCommits.{FilesAndCommits}
use Rattle.replica_opening.specs.declared.opening.Found.{Found}
use Rattle.replica_opening.specs.declared.opening.Opened.{Opened}
use Rattle.replica_opening.specs.declared.opening.Taken.{Taken}
use Rattle.replica_opening.specs.Readers.{AreReaders}
use Rattle.replica_opening.specs.Known.{KnowsFiles}
use Rattle.replica_opening.specs.Opening.{FindsPoint, number_of_last, opening_infos}

-- each image of the directory shows this commit with its files, or nothing where there is none
abbrev pub IsSettledAt : Cells → Option ℕ → Infos → Type 0
IsSettledAt cells None infos = ImagesShowNothing cells
IsSettledAt cells (Some n) infos = ImagesShow cells n infos

-- each image shows what the directory shows, where all files of that are there, and these read the same in it
pub record IsSettledOn (cells : Cells) : Type 0 where
  pub each : (number : Option ℕ) (infos : Infos) → FindsPoint (reads_of cells) number infos → HasFilesOf cells infos → IsSettledAt cells number infos

-- the opening point: no commit, no file and no segment
pub record IsOpeningPoint (f : Found) : Type 0 where
  pub number : f.number ≡ None
  pub infos : f.infos ≡ opening_infos
  pub names : f.names ≡ []
  pub segs : f.read.segs ≡ []

-- the point that the directory shows, its files, with what is known of them, and its segments
pub record IsFoundPoint (reads : Image) (f : Found) : Type 0 where
  pub finds : FindsPoint reads f.number f.infos
  pub spelled : CanSpell f.infos
  pub names : AreFilesOf f.infos f.names
  pub there : (q : Name) → Contains (flat_map files_of_segment f.infos.segs) q → is_some (reads q) ≡ true
  pub readers : AreReaders reads f.infos.segs f.read.segs
  pub known : KnowsFiles reads (flat_map files_of_segment f.infos.segs) f.read.known

-- the node searches that point, whose files it knows, without a ticket, and its last commit is the one that was found
pub record IsNodeOpened (reads : Image) (o : Opened) : Type 0 where
  pub finds : FindsPoint reads (number_of_last o.commits.last) o.infos
  pub none : o.commits.stage ≡ None
  pub last : IfSome o.commits.last (λ c. IsCommit c × (c.infos ≡ o.infos))
  pub spelled : CanSpell o.infos
  pub version : o.searchers.point.version ≡ o.infos.version
  pub names : AreFilesOf o.infos o.searchers.point.names
  pub there : (q : Name) → Contains (flat_map files_of_segment o.infos.segs) q → is_some (reads q) ≡ true
  pub readers : AreReaders reads o.infos.segs o.searchers.point.readers
  pub segs : o.segs ≡ o.searchers.point.readers
  pub known : KnowsFiles reads (flat_map files_of_segment o.infos.segs) o.known
  pub tickets : o.searchers.tickets ≡ []

-- a node was opened on a directory: what it has, that it is whole where the directory was settled, and that no other file is left there
pub record OpensNode (before after : Cells) (o : Opened) : Type 0 where
  pub opened : IsNodeOpened (reads_of after) o
  pub node : IsSettledOn before → IsWholeNode after o.files (searcher_names o.searchers) o.commits
  pub names : (q : Name) → is_some (after q).now ≡ is_among (searcher_names o.searchers ++ book_names o.commits) q

-- each file of the directory is counted, those of the point and of the commit that was found once more, and nothing is in flight
pub record IsCounted (cells : Cells) (f : Found) (listed : List Name) (t : FilesAndCommits) : Type 0 where
  pub counts : (q : Name) → count_of t.files q ≡ times listed q + (times f.names q + times (book_names t.commits) q)
  pub whole : IsWhole cells t.files
  pub none : t.files.due ≡ []
  pub last : number_of_last t.commits.last ≡ f.number
  pub commit : IfSome t.commits.last (λ c. IsCommit c × (c.infos ≡ f.infos))
  pub stage : t.commits.stage ≡ None
  pub sound : IsSettledOn cells → IsBookSound cells t.files t.commits
  pub free : AreFree cells t.commits.next

-- all files of the directory are held once more than the node holds them
pub record IsTaken (cells : Cells) (t : Taken) : Type 0 where
  pub opened : IsNodeOpened (reads_of cells) t.opened
  pub listed : (q : Name) → is_among t.listed q ≡ is_some (cells q).now
  pub counts : (q : Name) → count_of t.opened.files q ≡ times t.listed q + (times (searcher_names t.opened.searchers) q + times (book_names t.opened.commits) q)
  pub whole : IsWhole cells t.opened.files
  pub none : t.opened.files.due ≡ []
  pub sound : IsSettledOn cells → IsBookSound cells t.opened.files t.opened.commits
  pub plain : HasNoPending (searcher_names t.opened.searchers)
  pub free : AreFree cells t.opened.commits.next

-- what was shown is shown, with the same files, and where each image showed it, each shows it
pub record IsHandedBack (before after : Cells) : Type 0 where
  pub shown : (number : Option ℕ) (infos : Infos) → FindsPoint (reads_of before) number infos → FindsPoint (reads_of after) number infos
  pub files : (number : Option ℕ) (infos : Infos) → FindsPoint (reads_of before) number infos → (q : Name) → Contains (flat_map files_of_segment infos.segs) q → (after q).now ≡ (before q).now
  pub settled : IsSettledOn before → IsSettledOn after
