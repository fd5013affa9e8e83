-- What callers of a primary need from call to call: a directory without a file, the task and the work of a publish, copy states that are out.
use Rattle.std.proofs.Common.{rules, ◌≡◌, ◌↔◌, ◌<◌, ◌≤◌, ◌^◌, ◌+◌, ◌||◌, nat_lt, if◌then◌else◌, ℕ, Bool, true, false, List, [], ◌∷◌, ◌++◌, Option, Some, None, is_some, length, refl, sym, ap, subst, ◌∙◌, arith, true≢false, All}
use Rattle.std.specs.Prelude.{IfSome, IsSome, IsTrue}
use Rattle.std.specs.List.{AllZip, list_any}
use Rattle.std.proofs.lemmas.List.{append-nil}
use Rattle.nrt_base.specs.declared.numbers.SegNo.{SegNo}
use Rattle.disk_model.specs.Disk.{Name, Content, Cells, is_among}
use Rattle.documents.specs.declared.operation.Op.{Op}
use Rattle.documents.specs.Documents.{is_put}
use Rattle.segment_infos.specs.declared.infos.Infos.{Infos}
use Rattle.segment_infos.specs.declared.infos.SegRecord.{SegRecord}
use Rattle.segment_infos.specs.Infos.{CanSpell}
use Rattle.segment_infos.proofs.SetLaws.{no_files}
use Rattle.segment_steps.specs.Given.{Shown, IsSound, IsSegmentIn, AreSegmentsOf}
use Rattle.file_deleter.specs.Holdings.{Holdings, count_in, count_of, is_known, times}
use Rattle.commit_steps.specs.declared.states.Commit.{Commit}
use Rattle.commit_steps.specs.declared.stage.Stage.{Stage}
use Rattle.commit_steps.specs.declared.stage.CommitBook.{CommitBook}
use Rattle.commit_steps.specs.Book.{commit_of, last_names, flying_names, book_names, IsBookSound}
use Rattle.searcher_switch.specs.Node.{IsWholeNode}
use Rattle.searcher_switch.specs.Standing.{StandsForSome, IsStanding}
use Rattle.segment_steps.specs.declared.flushing.FlushTask.{FlushTask}
use Rattle.segment_steps.specs.declared.flushing.FlushWork.{FlushWork}
use Rattle.segment_steps.specs.Next.{IsFlushOf}
use Rattle.index_primary.specs.declared.parts.PrimaryParts.{PrimaryParts}
use Rattle.index_primary.specs.declared.states.Out.{Out}
use Rattle.index_primary.specs.Cut.{has_put, noted, number_drawn}
use Rattle.index_primary.specs.Held.{IsHeld, AreUndrawn, AreNumbered}
use Rattle.index_primary.specs.States.{same_out, state_names, is_out}
use Rattle.index_primary.specs.Primary.{IsPrimary}
use Rattle.index_primary.specs.Calls.{IsTaskOf, after_start}
use Rattle.index_primary.specs.Work.{IsWorkOf}
use Rattle.std.specs.Prelude.{take}
use Rattle.std.proofs.Math.Seq.{take-append_seam}
use Rattle.index_primary.proofs.StateLemmas.{names-push, same_out_self}

-- ---- a publish
-- THE WORK, from what publish_start noted and what flush made: operations that were accepted since stand behind
pub work_is : {D : Type 0} (p : PrimaryParts D) (task : FlushTask) (work : FlushWork) (more : List Op) → p.publish ≡ noted task.seg task.ops → p.waiting ≡ task.ops ++ more → task.segs ≡ p.segs → IsFlushOf task work → IsWorkOf p work
work_is p task work more flight waits segs flushed = record {
  publish = record { seg = task.seg; count = length task.ops };
  in_flight = flight;
  task = task;
  ops = sym (ap (λ (ops : List Op). take (length task.ops) ops) waits ∙ take-append_seam task.ops more);
  segs = segs;
  seg = refl;
  flushed = flushed;
}

seg_given : (b : Bool) (infos : Infos) → IsSome (number_drawn b infos) ↔ IsTrue b
seg_given true infos = (λ h. refl, λ h. refl)
seg_given false infos = (λ h. absurd (true≢false (sym h)), λ h. absurd (true≢false (sym h)))

-- what flush asks for is true of the task that a publish gives
pub task_sound : {D : Type 0} (cells : D → Cells) (p : PrimaryParts D) (task : FlushTask) → IsPrimary cells p → IsTaskOf p task → All IsSound task.segs
task_sound cells p task is t = subst (λ (segs : List Shown). All IsSound segs) (sym t.segs) is.writer.stands.stand.sound

pub task_seg : {D : Type 0} (p : PrimaryParts D) (task : FlushTask) → IsTaskOf p task → IsSome task.seg ↔ IsTrue (list_any is_put task.ops)
task_seg p task t = subst (λ (o : Option SegNo). IsSome o ↔ IsTrue (list_any is_put task.ops)) (sym t.seg)
    (subst (λ (ops : List Op). IsSome (number_drawn (has_put p.waiting) p.infos) ↔ IsTrue (list_any is_put ops)) (sym t.ops) (seg_given (has_put p.waiting) p.infos))

-- the work of that task is the work of the publish in flight
pub work_of_task : {D : Type 0} (p : PrimaryParts D) (task : FlushTask) (work : FlushWork) → IsTaskOf p task → IsFlushOf task work → IsWorkOf (after_start p (Some task)) work
work_of_task p task work t flushed = work_is (after_start p (Some task)) task work [] (ap (λ (ops : List Op). noted task.seg ops) (sym t.ops)) (sym t.ops ∙ sym (append-nil task.ops)) t.segs flushed

-- ---- copy states

-- a state that was given out last is out, and so are its files
pub out_last : (ss : List Out) (s : Out) → is_out s (ss ++ s ∷ []) ≡ true
out_last [] s = ap (λ b. if b then true else false) (same_out_self s)
out_last (t ∷ ss) s = by (same_out s t) (out_last ss s)
  where
    by : (b : Bool) → is_out s (ss ++ s ∷ []) ≡ true → (if b then true else is_out s (ss ++ s ∷ [])) ≡ true
    by true more = refl
    by false more = more

pub file_out : (ss : List Out) (s : Out) (q : Name) → 0 < times s.names q → 0 < times (state_names (ss ++ s ∷ [])) q
file_out ss s q some = omega (arith, some, names-push ss s q)

-- ---- a directory without a file
module _ (cells : Cells) (files : Holdings) (hs : List Name) (book : CommitBook) (none : (q : Name) → (cells q).now ≡ None) (counts : files.counts ≡ []) (due : files.due ≡ [])
    (held : hs ≡ []) (last : book.last ≡ None) (stage : book.stage ≡ None) where
  uncounted : (q : Name) → count_of files q ≡ 0
  uncounted q = ap (λ (c : List (Name × ℕ)). count_in c q) counts

  unheld : (q : Name) → times hs q ≡ 0
  unheld q = ap (λ (ns : List Name). times ns q) held

  unknown : (q : Name) → is_known files q ≡ false
  unknown q = ap (λ (c : List (Name × ℕ)). nat_lt 0 (count_in c q) || is_among files.due q) counts ∙ ap (λ (d : List Name). is_among d q) due

  pub empty_node : IsBookSound cells files book → IsWholeNode cells files hs book
  empty_node sound = record {
    counts = λ q.
        let b : times (book_names book) q ≡ 0 = ap (λ (o : Option Commit). times (last_names o ++ flying_names book.stage) q) last ∙ ap (λ (o : Option Stage). times (flying_names o) q) stage in
        omega (arith, b, uncounted q, unheld q);
    whole = record { names = λ q. ap is_some (none q) ∙ sym (unknown q); apart = λ q is. uncounted q };
    sound = sound;
    plain = record { each = λ q is. unheld q };
    free = record { commits = λ q is le. none q; pending = λ q is le. none q };
  }

  pub empty_standing : (reads : Name → Content) → IsStanding reads book
  empty_standing reads = record {
    last = subst (λ (o : Option Commit). IfSome o (λ c. StandsForSome reads c.infos)) (sym last) tt;
    flight = subst (λ (o : Option Stage). IfSome o (λ s. StandsForSome reads (commit_of s).infos)) (sym stage) tt;
  }

  pub empty_undrawn : (infos : Infos) → AreUndrawn files infos [] []
  empty_undrawn infos = record { each = λ q is. uncounted q }

no_segs : AreSegmentsOf [] []
no_segs = record { sound = λ k d lt. absurd (omega (arith, lt)); apart = λ i j d lt in'. absurd (omega (arith, lt, in')); documents = search rules }

pub empty_held : (reads : Name → Content) (infos : Infos) (segs : List Shown) (names : List Name) → CanSpell infos → infos.segs ≡ [] → segs ≡ [] → names ≡ [] → IsHeld reads infos segs names
empty_held reads infos segs names spelled none no_shown unnamed = subst (λ (ss : List Shown). IsHeld reads infos ss names) (sym no_shown) (subst (λ (ns : List Name). IsHeld reads infos [] ns) (sym unnamed)
    (record { spelled = spelled; files = no_files infos none; docs = []; stands = record { each = subst (λ (rs : List SegRecord). AllZip (IsSegmentIn reads) rs []) (sym none) tt; stand = no_segs } }))

pub empty_numbered : (infos : Infos) → infos.segs ≡ [] → infos.generation.0 < 2 ^ 31 → infos.counter ≤ 1679616 → AreNumbered infos []
empty_numbered infos none generation counter = record {
  generation = generation;
  counter = counter;
  segs = λ k d lt. absurd (let n : length infos.segs ≡ 0 = ap (λ (rs : List SegRecord). length rs) none in omega (arith, lt, n));
  loose_below = λ seg c. absurd (omega (arith, c.1));
  loose_apart = λ seg c. absurd (omega (arith, c.1));
}
