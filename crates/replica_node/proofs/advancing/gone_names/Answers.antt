use Rattle.std.proofs.Common.{◌≡◌, ◌∙◌, ◌∷◌, [], ap, arith, List, take}
use Rattle.std.proofs.lemmas.List.{take_all}
use Rattle.disk_model.specs.Disk.{Name}
use Rattle.file_deleter.specs.Holdings.{times}
use Rattle.file_deleter.proofs.NameLemmas.{times-append}
use Rattle.copy_job.specs.declared.part.JobPart.{JobPart}
use Rattle.copy_job.specs.Parts.{present_names}
use Rattle.replica_node.proofs.Lists.{push_times, present_more, one_more}
use Rattle.replica_node.proofs.advancing.gone_names.Goals as goal

pub loop-file-preserved : goal.loop-file-preserved
loop-file-preserved c q =
    let e : times (c.file-item.result ∷ []) q ≡ _ = ap (λ (n : Name). times (n ∷ []) q) c.file-item.is in
    omega (arith, e, push_times c.loop-file.gone c.push.new.self c.file-item.result c.in_ok-push.ensures.ok q, c.loop-file.invariant q, one_more c.args.dropped.now c.loop-file.file-index c.file-item.result q (omega arith))

pub loop-part-preserved : goal.loop-part-preserved
loop-part-preserved c q =
    let e : times (c.part-item.result.now ∷ []) q ≡ _ = ap (λ (p : JobPart). times (p.now ∷ []) q) c.part-item.is in
    omega (arith, e, push_times c.loop-part.gone c.push-in-loop-part.new.self c.part-item.result.now c.in_ok-push-2.ensures.ok q, c.loop-part.invariant q, present_more c.parts-part-items.result.now c.loop-part.part-index c.part-item.result q (omega arith))

pub loop-name-preserved : goal.loop-name-preserved
loop-name-preserved c q =
    let e : times (c.name-item.result ∷ []) q ≡ _ = ap (λ (n : Name). times (n ∷ []) q) c.name-item.is in
    omega (arith, e, push_times c.loop-name.gone c.push-in-loop-name.new.self c.name-item.result c.in_ok-push-3.ensures.ok q, c.loop-name.invariant q, one_more c.reused-name-items.result.now c.loop-name.name-index c.name-item.result q (omega arith))

pub returns : goal.returns
returns c q =
    let d : times (take c.loop-file.file-index c.args.dropped.now) q ≡ times c.args.dropped.now q = ap (λ (ns : List Name). times ns q) (take_all c.loop-file.file-index c.args.dropped.now (omega arith)) in
    let a : times (present_names (take c.loop-part.part-index c.parts-part-items.result.now)) q ≡ times (present_names c.args.copy.now.parts) q =
    ap (λ (ps : List JobPart). times (present_names ps) q) (take_all c.loop-part.part-index c.parts-part-items.result.now (omega arith) ∙ c.parts-part-items.ensures.parts) in
    let b : times (take c.loop-name.name-index c.reused-name-items.result.now) q ≡ times c.args.copy.now.reused q =
    ap (λ (ns : List Name). times ns q) (take_all c.loop-name.name-index c.reused-name-items.result.now (omega arith) ∙ c.reused-name-items.ensures) in
    let s : times c.in_ok-gone.gone q ≡ times c.args.names.now q = ap (λ (ns : List Name). times ns q) c.in_ok-gone.ensures in
    omega (arith, a, b, d, s, c.loop-file.invariant q, c.loop-part.invariant q, c.loop-name.invariant q, times-append (present_names c.args.copy.now.parts) c.args.copy.now.reused q)
