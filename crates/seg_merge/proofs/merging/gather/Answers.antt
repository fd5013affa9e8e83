use Rattle.std.proofs.Common.{sym, ◌∙◌, ap, arith, ◌++◌, List, Bool, drop}
use Rattle.std.proofs.Math.ListN.{drop_of_length-le}
use Rattle.std.proofs.lemmas.List.{append-nil}
use Rattle.seg_merge.specs.declared.task.RowFrom.{RowFrom}
use Rattle.nrt_base.specs.declared.doc.Doc.{Doc}
use Rattle.nrt_base.proofs.Plain.{moved_over}
use Rattle.seg_build.specs.Given.{Shown}
use Rattle.seg_merge.specs.Merging.{docs_by_input, all_live_docs, live_docs, origins_in, origins}
use Rattle.seg_merge.proofs.Gathering.{inputs_step, origins_step, many_lives, its_rows}
use Rattle.seg_merge.proofs.merging.gather.Goals as goal

pub bounds-live-at : goal.bounds-live-at
bounds-live-at c = omega (arith, many_lives c.args.inputs.now c.args.live.now c.requires)

pub push_rows-requires : goal.push_rows-requires
push_rows-requires c = its_rows c.args.inputs.now c.args.live.now c.loop-at.at c.index-inputs-at.result c.index-live-at.result c.requires c.loop-at-test.true c.index-inputs-at.is c.index-live-at.is

pub loop-at-preserved : goal.loop-at-preserved
loop-at-preserved c =
    let inputs = c.args.inputs.now in
    let lives = c.args.live.now in
    let at = c.loop-at.at in
    let s = c.index-inputs-at.result in
    let l = c.index-live-at.result in
    let inv = c.loop-at.invariant in
    let more = c.in_ok-push_rows.ensures in
    record {
      docs =
          moved_over {X = Doc} c.loop-at.gathered.docs.items c.push_rows.new.gathered.docs.items (live_docs s.docs l) (all_live_docs (docs_by_input (drop at inputs)) (drop at lives)) _ _
          (inputs_step inputs lives at s l c.loop-at-test.true (omega (arith, many_lives inputs lives c.requires)) c.index-inputs-at.is c.index-live-at.is) inv.docs more.docs;
      from =
          moved_over {X = RowFrom} c.loop-at.gathered.from.items c.push_rows.new.gathered.from.items (origins_in at 0 l) (origins at (drop at lives)) _ _
          (origins_step lives at l (omega (arith, many_lives inputs lives c.requires)) c.index-live-at.is) inv.from more.from;
    }

pub returns : goal.returns
returns c =
    let inputs = c.args.inputs.now in
    let lives = c.args.live.now in
    let at = c.loop-at.at in
    let inv = c.loop-at.invariant in
    let no_inputs = drop_of_length-le inputs c.loop-at-test.false in
    let no_lives = drop_of_length-le lives (omega (arith, many_lives inputs lives c.requires, c.loop-at-test.false)) in
    let docs = c.loop-at.gathered.docs.items in
    let from = c.loop-at.gathered.from.items in
    record {
      docs = sym (append-nil docs) ∙ sym (ap (λ (ss : List Shown). docs ++ all_live_docs (docs_by_input ss) (drop at lives)) no_inputs) ∙ inv.docs;
      from = sym (append-nil from) ∙ sym (ap (λ (ls : List (List Bool)). from ++ origins at ls) no_lives) ∙ inv.from;
    }
