-- A directory after a crash, and one that is new.
use Rattle.std.proofs.Common.{◌≡◌, ℕ, Bool, true, false, List, Option, Some, None, is_some, refl, sym, ap, subst, ◌∙◌, true≢false}
use Rattle.file_names.specs.Names.{commit_name_of}
use Rattle.disk_model.specs.Disk.{Name, Content, Cell, Cells, Image, IsImage, left_by, may_leave, restarted, reads_of}
use Rattle.disk_model.proofs.CellLemmas.{left_synced}
use Rattle.segment_infos.specs.declared.infos.Infos.{Infos}
use Rattle.commit_steps.specs.Found.{ShowsNothing, ShowsCommit}
use Rattle.commit_steps.specs.Commits.{HasFilesOf, ImagesShow, ImagesShowNothing, HasInfos}
use Rattle.replica_opening.specs.Opening.{FindsPoint}
use Rattle.replica_opening.specs.Opened.{IsSettledAt, IsSettledOn}

left_same : (content other : Content) → left_by content (is_some content) other ≡ true → other ≡ content
left_same None None h = refl
left_same None (Some x) h = absurd (true≢false (sym h))
left_same (Some bytes) other h = left_synced (Some bytes) true bytes other refl refl h

-- another crash leaves just what a restarted directory reads
one_image : (image other : Image) → IsImage (restarted image) other → (q : Name) → other q ≡ image q
one_image image other is q = left_same (image q) (other q) (is q)

-- after a crash, and where nothing was ever written
pub restarted_settled : (image : Image) → IsSettledOn (restarted image)
restarted_settled image = record { each = at }
  where
    at : (number : Option ℕ) (infos : Infos) → FindsPoint (reads_of (restarted image)) number infos → HasFilesOf (restarted image) infos → IsSettledAt (restarted image) number infos
    at None infos finds there = record { each = λ other is q named. one_image image other is q ∙ finds.0 q named }
    at (Some n) infos shows there = record {
      each = λ other is. record {
        shown = record {
          bytes = shows.bytes;
          newest = record {
            some = shows.newest.some;
            below = shows.newest.below;
            there = one_image image other is (commit_name_of n) ∙ shows.newest.there;
            greatest = λ q named above. one_image image other is q ∙ shows.newest.greatest q named above;
          };
          spelled = shows.spelled;
        };
        files = λ q named. (one_image image other is q, ap is_some (one_image image other is q) ∙ there q named);
      };
    }
