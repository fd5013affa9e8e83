-- What calls make of a primary's parts.
use Rattle.std.specs.Prelude.{◌≡◌, ◌+◌, ◌<◌, false, List, [], Option, Some, None}
use Rattle.disk_model.specs.Disk.{Name}
use Rattle.file_deleter.specs.Holdings.{count_of}
use Rattle.segment_infos.specs.declared.infos.Infos.{Infos}
use Rattle.segment_steps.specs.Given.{Shown}
use Rattle.commit_steps.specs.declared.stage.CommitBook.{CommitBook}
use Rattle.searcher_switch.specs.declared.searchers.Searchers.{Searchers}
use Rattle.segment_steps.specs.declared.flushing.FlushTask.{FlushTask}
use Rattle.segment_steps.specs.declared.flushing.FlushWork.{FlushWork}
use Rattle.segment_steps.specs.declared.next.NextSegments.{NextSegments}
use Rattle.segment_steps.specs.Next.{IsNextOf}
use Rattle.index_primary.specs.declared.parts.PrimaryParts.{PrimaryParts}
use Rattle.index_primary.specs.Merges.{merge_inputs}
use Rattle.index_primary.specs.Primary.{IsUnwritten}
use Rattle.index_primary.specs.Held.{next_infos}
use Rattle.index_primary.specs.Cut.{after_cut, has_put, noted, number_drawn, infos_drawn}

module _ {D : Type 0} where
  -- the writer's infos are searched at their version, under the tickets of before
  pub record SearchesWriter (old new : PrimaryParts D) : Type 0 where
    pub version : new.searchers.point.version ≡ old.infos.version
    pub readers : new.searchers.point.readers ≡ old.segs
    pub tickets : new.searchers.tickets ≡ old.searchers.tickets
    pub infos : new.point_infos ≡ old.infos

  -- A primary that has opened on a directory, the commits, the infos and what reads their segments: it searches the infos at their
  -- version, under the tickets of before. No operation waits, no publish is in flight and no copy state is out.
  pub record IsOpenedOn (dir : D) (searchers : Searchers Shown) (commits : CommitBook) (infos : Infos) (segs : List Shown) (p : PrimaryParts D) : Type 0 where
    pub dir_is : p.dir ≡ dir
    pub commits_are : p.commits ≡ commits
    pub infos_are : p.infos ≡ infos
    pub point_infos : p.point_infos ≡ infos
    pub segs_are : p.segs ≡ segs
    pub version : p.searchers.point.version ≡ infos.version
    pub readers : p.searchers.point.readers ≡ segs
    pub tickets : p.searchers.tickets ≡ searchers.tickets
    pub states : p.states ≡ []
    pub merges : p.merges ≡ []
    pub waiting : p.waiting ≡ []
    pub accepted : p.accepted ≡ 0
    pub publish : p.publish ≡ None
    pub has_cut_over : p.has_cut_over ≡ false
    pub completed : p.completed ≡ []

  -- the task of a publish: the number that it draws, all operations that wait, and the writer's segments
  pub record IsTaskOf (p : PrimaryParts D) (task : FlushTask) : Type 0 where
    pub seg : task.seg ≡ number_drawn (has_put p.waiting) p.infos
    pub ops : task.ops ≡ p.waiting
    pub segs : task.segs ≡ p.segs

  -- a primary that was asked for a task
  abbrev pub after_start : PrimaryParts D → Option FlushTask → PrimaryParts D
  after_start p None = p
  after_start p (Some task) = record p { infos = infos_drawn (has_put p.waiting) p.infos; publish = noted task.seg p.waiting }

  -- these segments are those of the next point, which is searched under the tickets of before; the operations of the cut wait no longer
  pub record MakesPoint (old : PrimaryParts D) (made : NextSegments) (new : PrimaryParts D) : Type 0 where
    pub infos : new.infos ≡ next_infos old.infos made.records
    pub point_infos : new.point_infos ≡ next_infos old.infos made.records
    pub segs : new.segs ≡ made.segs
    pub version : new.searchers.point.version.0 ≡ old.infos.version.0 + 1
    pub readers : new.searchers.point.readers ≡ made.segs
    pub tickets : new.searchers.tickets ≡ old.searchers.tickets
    pub waiting : new.waiting ≡ after_cut old.publish old.waiting
    pub publish : new.publish ≡ None
    pub has_cut_over : new.has_cut_over ≡ false

  -- the next point has the segments that the work of a publish makes
  pub record IsPublished (old : PrimaryParts D) (work : FlushWork) (new : PrimaryParts D) : Type 0 where
    pub made : NextSegments
    pub next : IsNextOf old.infos.generation.0 old.infos.segs old.segs work (merge_inputs old.merges) made
    pub point : MakesPoint old made new

  -- all but the directory, the counts and the publish in flight is as before
  abbrev pub KeepsPoint : PrimaryParts D → PrimaryParts D → Type 0
  KeepsPoint old new = new ≡ record old { dir = new.dir; files = new.files; publish = new.publish }

  -- all but the directory, the counts, the searchers, the infos with their segments and names, the operations of the cut and the publish
  -- in flight is as before
  abbrev pub KeepsOthers : PrimaryParts D → PrimaryParts D → Type 0
  KeepsOthers old new = new ≡ record old {
    dir = new.dir;
    files = new.files;
    searchers = new.searchers;
    point_infos = new.point_infos;
    infos = new.infos;
    segs = new.segs;
    names = new.names;
    waiting = new.waiting;
    publish = new.publish;
    has_cut_over = new.has_cut_over;
  }

  -- each file is counted as often as before
  pub record HasSameCounts (old new : PrimaryParts D) : Type 0 where
    pub each : (q : Name) → count_of new.files q ≡ count_of old.files q

  -- a file that is counted now and was not is one that was not written yet
  pub record FillsUndrawn (old new : PrimaryParts D) : Type 0 where
    pub each : (q : Name) → count_of old.files q ≡ 0 → 0 < count_of new.files q → IsUnwritten old q

  -- a file that is not written yet was not written before
  pub record DrawsOnly (old new : PrimaryParts D) : Type 0 where
    pub each : (q : Name) → IsUnwritten new q → IsUnwritten old q

  -- no file is counted that was not counted before
  pub record HoldsNoNew (old new : PrimaryParts D) : Type 0 where
    pub each : (q : Name) → count_of old.files q ≡ 0 → count_of new.files q ≡ 0
