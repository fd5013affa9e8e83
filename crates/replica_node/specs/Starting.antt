-- A replica that was just opened, and one that was not.
use Rattle.std.specs.Prelude.{◌≡◌, ◌⊎◌, ◌<◌, true, List, [], None, Contains, IsSomeAnd}
use Rattle.std.specs.List.{flat_map}
use Rattle.nrt_base.specs.declared.doc.Doc.{Doc}
use Rattle.disk_model.specs.Disk.{Name, Content, Cells, reads_of}
use Rattle.file_names.specs.Names.{is_commit_name, commit_number}
use Rattle.file_deleter.specs.Holdings.{IsThere, count_of}
use Rattle.segment_infos.specs.Files.{files_of_segment}
use Rattle.seg_reader.specs.Stands.{StandsFor, AreSegmentsOf}
use Rattle.searcher_switch.specs.Appearing.{NoneAppears}
use Rattle.replica_opening.specs.Known.{IsLasting}
use Rattle.replica_opening.specs.Opening.{FindsPoint, number_of_last}
use Rattle.replica_opening.specs.Opened.{IsHandedBack}
use Rattle.replica_node.specs.declared.parts.ReplicaParts.{ReplicaParts}
use Rattle.replica_node.specs.Merges.{no_copies}
use Rattle.replica_node.specs.Sources.{IsSourced}
use Rattle.replica_node.specs.Replica.{IsWholeReplica, AreStanding}

-- nothing is in flight, no ticket is open, there is no job and no merge copy and there was none, no file is pending, and the greatest generation seen is that of the point
pub record IsJustOpened {D : Type 0} (p : ReplicaParts D) : Type 0 where
  pub stage : p.commits.stage ≡ None
  pub tickets : p.searchers.tickets ≡ []
  pub job : p.job ≡ None
  pub copies : p.copies ≡ no_copies
  pub jobs : p.jobs ≡ 0
  pub seen : p.seen ≡ p.infos.generation

-- the replica searches just these documents, its directory has them, and its commits are of some
pub record SearchesJust {D : Type 0} (cells : D → Cells) (docs : List Doc) (p : ReplicaParts D) : Type 0 where
  pub searched : AreSegmentsOf docs p.searchers.point.readers
  pub stands : StandsFor (reads_of (cells p.dir)) p.infos docs
  pub standing : AreStanding cells p

-- each name that stands is that of a file of the point, or of the last commit
pub record HasJustItsFiles {D : Type 0} (cells : D → Cells) (p : ReplicaParts D) : Type 0 where
  pub each : (q : Name) → IsThere (cells p.dir) q
      → Contains (flat_map files_of_segment p.infos.segs) q ⊎ IsSomeAnd p.commits.last (λ c. (is_commit_name q ≡ true) × (commit_number q ≡ c.number))

-- A replica opened on a directory: it stands at the point that this shows, searches the documents that the point is of, has the files of the point
-- as they stood, and nothing was done with it. What the directory shows stays, no name appears, and no other file is left.
pub record OpensOn {D : Type 0} (cells : D → Cells) (dir : D) (r : ReplicaParts D) : Type 0 where
  pub whole : IsWholeReplica cells r
  pub point : FindsPoint (reads_of (cells dir)) (number_of_last r.commits.last) r.infos
  pub documents : (docs : List Doc) → StandsFor (reads_of (cells dir)) r.infos docs → SearchesJust cells docs r
  pub sourced : (source : Name → Content) → ((q : Name) → Contains (flat_map files_of_segment r.infos.segs) q → (cells dir q).now ≡ source q) → IsSourced source cells r
  pub held : (q : Name) → IsLasting q → 0 < count_of r.files q → Contains (flat_map files_of_segment r.infos.segs) q
  pub fresh : IsJustOpened r
  pub back : IsHandedBack (cells dir) (cells r.dir)
  pub appears : NoneAppears (cells dir) (cells r.dir)
  pub only : HasJustItsFiles cells r
