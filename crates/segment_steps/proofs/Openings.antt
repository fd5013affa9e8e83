-- The same segments under other infos, in a later generation or in another directory.
use Rattle.std.proofs.Common.{◌≡◌, ℕ, ◌+◌, ◌*◌, ◌-◌, ◌≤◌, List, [], ◌∷◌, ◌++◌, refl, sym, subst, arith}
use Rattle.std.specs.List.{AllZip}
use Rattle.nrt_base.specs.declared.doc.Doc.{Doc}
use Rattle.disk_model.specs.Disk.{Name, Content}
use Rattle.documents.specs.declared.operation.Op.{Op}
use Rattle.documents.specs.Documents.{after_op, after_ops, documents_after}
use Rattle.segment_infos.specs.declared.infos.SegRecord.{SegRecord}
use Rattle.segment_infos.specs.declared.infos.Infos.{Infos}
use Rattle.seg_merge.specs.Given.{Shown, IsSegmentIn, StandsWith}
use Rattle.segment_steps.specs.Next.{record_generation, IsBounded}

-- A PROMOTION: infos with the same segments stand for the same documents
pub same_segments : (reads : Name → Content) (infos next : Infos) (segs : List Shown) (docs : List Doc) → StandsWith reads infos segs docs → next.segs ≡ infos.segs → StandsWith reads next segs docs
same_segments reads infos next segs docs is same = record { each = subst (λ (rs : List SegRecord). AllZip (IsSegmentIn reads) rs segs) (sym same) is.each; stand = is.stand }

-- and their live generations are bounded in the later generation too
pub bounded_later : (g h : ℕ) (r : SegRecord) → g ≤ h → IsBounded g r → IsBounded h r
bounded_later g h r le is =
    let made = is.made in
    let bound = is.live_gen in
    record { made = omega (arith, made, le); live_gen = raised (g - record_generation r) (h - record_generation r) r.live_gen r.live r.rows (omega (arith, le)) bound; live = is.live }
  where
    raised : (a b own live rows : ℕ) → a ≤ b → own + live ≤ a * 4294967296 + rows → own + live ≤ b * 4294967296 + rows
    raised a b own live rows le bound = omega (arith, le, bound)

-- operations after operations
pub after_more : (docs : List Doc) (ops more : List Op) → after_ops (after_ops docs ops) more ≡ after_ops docs (ops ++ more)
after_more docs [] more = refl
after_more docs (op ∷ ops) more = after_more (after_op docs op) ops more

pub documents_after_more : (written cut : List Op) → after_ops (documents_after written) cut ≡ documents_after (written ++ cut)
documents_after_more written cut = after_more [] written cut
