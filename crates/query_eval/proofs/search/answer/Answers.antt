use Rattle.std.proofs.Common.{◌+◌, drop, refl, arith}
use Rattle.seg_reader.specs.Sound.{IsSound}
use Rattle.nrt_base.proofs.Plain.{All-item}
use Rattle.query_eval.proofs.AnswerLemmas.{counted_none, room_for, counted_next, answer_is}
use Rattle.query_eval.proofs.search.answer.Goals as goal

pub loop-seg-init : goal.loop-seg-init
loop-seg-init c = counted_none c.args.query.now c.args.segs.now c.new-best.result c.new-best.ensures c.requires.few

pub search-requires-clause-sound : goal.search-requires-clause-sound
search-requires-clause-sound c = All-item IsSound c.args.segs.now c.loop-seg.seg-index c.seg-item.result c.requires.sound (omega arith) c.seg-item.is

pub search-requires-clause-room : goal.search-requires-clause-room
search-requires-clause-room c = room_for c.args.query.now c.args.segs.now c.loop-seg.seg-index c.seg-item.result c.loop-seg.best c.loop-seg.invariant (omega arith) c.seg-item.is

pub loop-seg-preserved : goal.loop-seg-preserved
loop-seg-preserved c =
    counted_next c.args.query.now c.args.segs.now c.loop-seg.seg-index (c.loop-seg.seg-index + 1) c.seg-item.result c.loop-seg.best c.search.new.best c.loop-seg.invariant (omega arith) c.seg-item.is refl
    c.in_ok-search.ensures

pub returns : goal.returns
returns c =
    answer_is c.args.query.now c.args.segs.now c.loop-seg.seg-index (drop c.loop-seg.seg-index c.args.segs.now) c.loop-seg.best c.into_answer.result c.loop-seg.invariant (omega arith)
    c.into_answer.ensures.total c.into_answer.ensures.hits
