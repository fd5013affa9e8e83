-- What tests know of a primary, over its calls.
use Rattle.std.proofs.Common.{◌≡◌, ◌<◌, List, [], ◌++◌, length, Some, sym, ap, subst, ◌∙◌, arith, All}
use Rattle.disk_model.specs.Disk.{Name, Cells}
use Rattle.segment_infos.specs.declared.infos.Infos.{Infos}
use Rattle.segment_infos.specs.declared.infos.SegRecord.{SegRecord}
use Rattle.segment_infos.specs.Infos.{CanSpell}
use Rattle.seg_reader.specs.Shown.{Shown}
use Rattle.seg_reader.specs.Sound.{IsSound}
use Rattle.searcher_switch.specs.declared.open.Open.{Open}
use Rattle.searcher_switch.specs.declared.searchers.Searchers.{Searchers}
use Rattle.searcher_switch.specs.Searching.{searcher_names}
use Rattle.searcher_switch.specs.Tickets.{ticket_names}
use Rattle.segment_steps.specs.declared.flushing.FlushTask.{FlushTask}
use Rattle.index_primary.specs.declared.parts.PrimaryParts.{PrimaryParts}
use Rattle.index_primary.specs.Calls.{IsTaskOf, after_start}
use Rattle.index_primary.specs.Primary.{IsPrimary}

-- ---- a primary without a segment
pub no_names : (s : Searchers Shown) → s.point.names ≡ [] → s.tickets ≡ [] → searcher_names s ≡ []
no_names s names tickets = ap (λ (ns : List Name). ns ++ ticket_names s.tickets) names ∙ ap (λ (ts : List (Open Shown)). ticket_names ts) tickets

pub empty_spelled : (infos : Infos) → 0 < infos.generation.0 → 0 < infos.version.0 → infos.segs ≡ [] → CanSpell infos
empty_spelled infos generation version none =
    let n : length infos.segs ≡ 0 = ap (λ (rs : List SegRecord). length rs) none in
    record {
      generation = generation;
      version = version;
      few = omega (arith, n);
      records = λ k d lt. absurd (omega (arith, n, lt));
      apart = λ i j d lt in'. absurd (omega (arith, n, lt, in'));
    }

-- ---- publishes
-- what a task that was given out is good for
pub task_sound : {D : Type 0} (cells : D → Cells) (old new : PrimaryParts D) (task : FlushTask) → IsTaskOf old task → new ≡ after_start old (Some task) → IsPrimary cells new → All IsSound task.segs
task_sound {D} cells old new task is e whole = subst (λ (segs : List Shown). All IsSound segs) (ap (λ (p : PrimaryParts D). p.segs) e ∙ sym is.segs) whole.writer.stands.stand.sound
