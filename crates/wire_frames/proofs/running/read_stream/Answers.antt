use Rattle.std.proofs.Common.{◌≤◌, ◌+◌, sym, subst, arith}
use Rattle.std.proofs.lemmas.Result.{IfOk-weaker, IfErr-weaker}
use Rattle.wire_frames.specs.Runs.{SaysFrames}
use Rattle.wire_frames.proofs.Reading.{ends_right, ends_within}
use Rattle.wire_frames.proofs.running.read_stream.Goals as goal

pub overflow_add-taken : goal.overflow_add-taken
overflow_add-taken g c =
    let t = rw c.in-Ok-Some.field-0-is at (c.in-Ok-Some.ensures.turn (g.S.Source.left c.args.source.now)) in
    let most : c.loop-number.taken + c.in-Ok-Some.count ≤ 16777216 = t.1 in
    omega (arith, most)

pub returns-in-Ok-None-clause-text : goal.returns-in-Ok-None-clause-text
returns-in-Ok-None-clause-text g c =
    let t = rw c.in-Ok-None.field-0-is at (c.in-Ok-None.ensures.turn (g.S.Source.left c.args.source.now)) in
    let read = t.1 c.loop-number.invariant.read in
    IfOk-weaker c.ended.result _ _ (λ given h. ends_right _ _ _ _ _ given.items read c.loop-number.invariant.within t.0 h.0 h.1 c.ended.ensures.unfinished) c.ended.ensures.text

pub returns-in-Ok-None-clause-refusal : goal.returns-in-Ok-None-clause-refusal
returns-in-Ok-None-clause-refusal g c =
    let t = rw c.in-Ok-None.field-0-is at (c.in-Ok-None.ensures.turn (g.S.Source.left c.args.source.now)) in
    let read = t.1 c.loop-number.invariant.read in
    IfErr-weaker c.ended.result _ _
    (λ e h. subst (SaysFrames (g.S.Source.left c.args.source.now) (g.S.Source.left c.turn.new.source)) (sym h.0) (ends_within _ _ _ _ _ read c.loop-number.invariant.within t.0 h.1 c.ended.ensures.unfinished))
    c.ended.ensures.refusal

pub loop-number-preserved : goal.loop-number-preserved
loop-number-preserved g c =
    let t = rw c.in-Ok-Some.field-0-is at (c.in-Ok-Some.ensures.turn (g.S.Source.left c.args.source.now)) in
    let some = t.0 in
    let each = c.loop-number.invariant.each in
    let later = c.loop-number.invariant.later in
    let more = c.in-Ok-Some.ensures.later in
    record {
      read = t.2 c.loop-number.invariant.read;
      each = omega (arith, some, each);
      within = t.1;
      later = omega (arith, later, more);
    }
