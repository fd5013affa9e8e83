-- The work of the publish in flight gives a step of the primary.
use Rattle.std.proofs.Common.{◌≡◌, ◌≢◌, ◌<◌, ◌++◌, ℕ, true, List, Option, Some, None, refl, sym, ap, subst, ◌∙◌, arith, length, All}
use Rattle.std.specs.Prelude.{IfSome, is_some}
use Rattle.std.specs.List.{AllZip, Contains}
use Rattle.std.proofs.lemmas.List.Elements.{Contains-append_right}
use Rattle.nrt_base.specs.declared.numbers.SegNo.{SegNo}
use Rattle.nrt_base.specs.declared.doc.Doc.{Doc}
use Rattle.disk_model.specs.Disk.{Cells, reads_of}
use Rattle.documents.specs.Documents.{after_ops}
use Rattle.documents.specs.declared.operation.Op.{Op}
use Rattle.segment_steps.specs.declared.flushing.FlushWork.{FlushWork}
use Rattle.segment_steps.specs.declared.next.NextSegments.{NextSegments}
use Rattle.segment_steps.specs.Segments.{HasItsRows}
use Rattle.segment_steps.specs.Next.{IsBounded, IsNextOf, IsBuiltWork}
use Rattle.segment_steps.proofs.AfterPublish.{flush_fits}
use Rattle.segment_steps.proofs.PublishLaws.{publish_stand}
use Rattle.index_primary.specs.declared.parts.PrimaryParts.{PrimaryParts}
use Rattle.index_primary.specs.declared.parts.Publish.{Publish}
use Rattle.seg_reader.specs.Stands.{AreSegmentsOf}
use Rattle.index_primary.specs.Primary.{IsPrimary, loose_in, publish_loose, rest_loose, loose_of, filled_of}
use Rattle.index_primary.proofs.MergeLists.{filled_loose}
use Rattle.index_primary.specs.Publishing.{IsStep}
use Rattle.index_primary.specs.Work.{IsWorkOf}
use Rattle.index_primary.specs.Cut.{cut_by}
use Rattle.index_primary.proofs.Joining.{as_many, step_of}

number_there : (rest : List ℕ) (o : Option SegNo) → IfSome o (λ (s : SegNo). Contains (loose_in o ++ rest) s.0)
number_there rest None = tt
number_there rest (Some s) = (0, omega arith, refl)

number_apart : (n : ℕ) (o : Option SegNo) → (Contains (loose_in o) n → ⊥) → IfSome o (λ (s : SegNo). s.0 ≢ n)
number_apart n None out = tt
number_apart n (Some s) out = λ same. out (0, omega arith, same)

module _ {D : Type 0} (cells : D → Cells) (p : PrimaryParts D) (work : FlushWork) (whole : IsPrimary cells p) (w : IsWorkOf p work) where
  pub many_for : length p.infos.segs ≡ length p.segs
  many_for = as_many (reads_of (cells p.dir)) p.infos.segs p.segs whole.writer.stands.each

  pub work_fits : IsBuiltWork work.files × AllZip HasItsRows p.segs work.live
  work_fits = flush_fits (reads_of (cells p.dir)) p.infos.segs p.segs w.task work whole.writer.stands.each w.segs w.flushed

  few_for : is_some w.publish.seg ≡ true → length p.segs < 256
  few_for = subst (λ (o : Option Publish). IfSome o (λ (f : Publish). is_some f.seg ≡ true → length p.segs < 256)) w.in_flight whole.few

  alone_too : (n : ℕ) → Contains (loose_in w.publish.seg) n → Contains (rest_loose p) n → ⊥
  alone_too = subst (λ (o : Option Publish). IfSome o (λ (f : Publish). (n : ℕ) → Contains (loose_in f.seg) n → Contains (rest_loose p) n → ⊥)) w.in_flight whole.alone

  alone_for : (n : ℕ) → Contains (rest_loose p) n → Contains (loose_of p) n × IfSome w.task.seg (λ (s : SegNo). s.0 ≢ n)
  alone_for n c = (Contains-append_right (publish_loose p.publish) (rest_loose p) n c, number_apart n w.task.seg (λ in'. alone_too n (subst (λ (o : Option SegNo). Contains (loose_in o) n) w.seg in') c))

  unfilled_for : IfSome w.task.seg (λ (s : SegNo). Contains (filled_of p) s.0 → ⊥)
  unfilled_for = subst (λ (o : Option SegNo). IfSome o (λ (s : SegNo). Contains (filled_of p) s.0 → ⊥)) (sym w.seg) (by w.publish.seg alone_too)
    where
      by : (o : Option SegNo) → ((n : ℕ) → Contains (loose_in o) n → Contains (rest_loose p) n → ⊥) → IfSome o (λ (s : SegNo). Contains (filled_of p) s.0 → ⊥)
      by None alone = tt
      by (Some s) alone = λ c. alone s.0 (0, omega arith, refl) (filled_loose p.merges s.0 c)

  drawn_for : IfSome w.task.seg (λ (s : SegNo). Contains (loose_of p) s.0)
  drawn_for = subst (λ (o : Option Publish). IfSome w.task.seg (λ (s : SegNo). Contains (publish_loose o ++ rest_loose p) s.0)) (sym w.in_flight) (subst (λ (o : Option SegNo). IfSome w.task.seg (λ (s : SegNo). Contains (loose_in o ++ rest_loose p) s.0)) w.seg (number_there (rest_loose p) w.task.seg))

  -- THE STEP that publish_end asks for
  pub primary_step : (held : List SegNo) (made : NextSegments) → IsNextOf p.infos.generation.0 p.infos.segs p.segs work held made → IsStep p.infos p.segs (loose_of p) (rest_loose p) (filled_of p) held made.records made.segs made.files
  primary_step held made is = step_of (reads_of (cells p.dir)) p.infos p.segs whole.writer.docs (loose_of p) (rest_loose p) w.task work held made whole.writer.spelled whole.writer.stands.each whole.writer.stands.stand whole.numbered
      w.segs w.flushed is drawn_for (λ some. few_for (ap (λ (o : Option SegNo). is_some o) (sym w.seg) ∙ some)) alone_for (filled_of p) unfilled_for

  -- AND ITS SEGMENTS are of the documents after the cut
  pub primary_documents : (held : List SegNo) (made : NextSegments) → IsNextOf p.infos.generation.0 p.infos.segs p.segs work held made → (docs : List Doc) → AreSegmentsOf docs p.segs → AreSegmentsOf (after_ops docs (cut_by p.publish p.waiting)) made.segs
  primary_documents held made is docs stand =
      let s = publish_stand (reads_of (cells p.dir)) p.infos.generation.0 p.infos.segs p.segs docs w.task work held made whole.writer.stands.each stand w.segs w.flushed is in
      let cut : w.task.ops ≡ cut_by p.publish p.waiting = w.ops ∙ sym (ap (λ (o : Option Publish). cut_by o p.waiting) w.in_flight) in
      subst (λ (ops : List Op). AreSegmentsOf (after_ops docs ops) made.segs) cut s

  pub bounded_for : All (IsBounded p.infos.generation.0) p.infos.segs
  bounded_for = λ k d lt. let b = whole.numbered.segs k d lt in record { made = b.made; live_gen = b.live_gen; live = (whole.writer.spelled.records k d lt).most }
