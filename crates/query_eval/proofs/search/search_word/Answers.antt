use Rattle.std.proofs.Common.{List, ℕ, ap, subst, arith}
use Rattle.documents.specs.declared.answer.Answer.{Answer}
use Rattle.postings_plain.specs.Body.{HasEntry, HasNoEntry}
use Rattle.query_eval.specs.Matching.{CountsRow}
use Rattle.query_eval.proofs.BestLemmas.{no_bar}
use Rattle.query_eval.proofs.WordLemmas.{word_start, word_next, word_step, word_end, word_lacks}
use Rattle.query_eval.proofs.search.search_word.Goals as goal

pub returns-in_default : goal.returns-in_default
returns-in_default c =
    word_lacks c.args.word.now c.args.seg.now c.args.best.now c.requires.sound
    (subst (λ (w : List ℕ). HasNoEntry c.args.seg.now.entries 1 w) c.as_slice.ensures.bytes c.in_default.ensures.found)

pub loop-row-init : goal.loop-row-init
loop-row-init c = (
  word_start c.args.word.now c.args.seg.now c.args.best.now c.in-Some.hits c.requires.sound
      (subst (λ (w : List ℕ). HasEntry c.args.seg.now.entries 1 w c.in-Some.hits) c.as_slice.ensures.bytes c.in-Some.ensures.found) c.in-Some.ensures.below,
  no_bar c.args.seg.now.docs c.places-places.result.now c.new-bar.result c.args.best.now.hits c.new-bar.ensures,
)

pub add_refused-requires-clause-row : goal.add_refused-requires-clause-row
add_refused-requires-clause-row c =
    (word_next c.args.word.now c.args.seg.now c.args.best.now c.loop-row.best c.loop-row.hits c.in-Some-next_hit.row c.in-Some-next_hit.times c.loop-row.invariant.0 c.in-Some-next_hit.ensures.answer).0

pub add_refused-requires-clause-room : goal.add_refused-requires-clause-room
add_refused-requires-clause-room c =
    let more =
    (word_next c.args.word.now c.args.seg.now c.args.best.now c.loop-row.best c.loop-row.hits c.in-Some-next_hit.row c.in-Some-next_hit.times c.loop-row.invariant.0 c.in-Some-next_hit.ensures.answer).1 in
    let room = c.requires.room in
    omega (arith, more, room)

pub loop-row-preserved-then-add_refused : goal.loop-row-preserved-then-add_refused
loop-row-preserved-then-add_refused c = (
  word_step c.args.word.now c.args.seg.now c.args.best.now c.loop-row.best c.add_refused.new.self c.loop-row.hits c.next_hit.new.self c.in-Some-next_hit.row c.in-Some-next_hit.times c.loop-row.invariant.0
      c.in-Some-next_hit.ensures.answer c.in-Some-next_hit.ensures.left c.in-Some-next_hit.ensures.above (c.add_refused.ensures.refused c.if-add_refused.true),
  c.add_refused.ensures.bar,
)

pub count_ranked-requires-clause-row : goal.count_ranked-requires-clause-row
count_ranked-requires-clause-row c =
    (word_next c.args.word.now c.args.seg.now c.args.best.now c.loop-row.best c.loop-row.hits c.in-Some-next_hit.row c.in-Some-next_hit.times c.loop-row.invariant.0 c.in-Some-next_hit.ensures.answer).0

pub count_ranked-requires-clause-room : goal.count_ranked-requires-clause-room
count_ranked-requires-clause-room c =
    let more =
    (word_next c.args.word.now c.args.seg.now c.args.best.now c.loop-row.best c.loop-row.hits c.in-Some-next_hit.row c.in-Some-next_hit.times c.loop-row.invariant.0 c.in-Some-next_hit.ensures.answer).1 in
    let same = ap (λ (a : Answer). a.total) (c.add_refused.ensures.other c.if-add_refused.false) in
    let room = c.requires.room in
    omega (arith, more, same, room)

pub loop-row-preserved : goal.loop-row-preserved
loop-row-preserved c = (
  word_step c.args.word.now c.args.seg.now c.args.best.now c.loop-row.best c.count_ranked.new.best c.loop-row.hits c.next_hit.new.self c.in-Some-next_hit.row c.in-Some-next_hit.times c.loop-row.invariant.0
      c.in-Some-next_hit.ensures.answer c.in-Some-next_hit.ensures.left c.in-Some-next_hit.ensures.above
      (subst (λ (a : Answer). CountsRow c.args.seg.now c.in-Some-next_hit.row c.in-Some-next_hit.times a c.count_ranked.new.best) (c.add_refused.ensures.other c.if-add_refused.false) c.in_ok-count_ranked.ensures.counts),
  c.in_ok-count_ranked.ensures.bar,
)

pub returns : goal.returns
returns c = word_end c.args.word.now c.args.seg.now c.args.best.now c.loop-row.best c.loop-row.hits c.loop-row.invariant.0 c.in_default-next_hit.ensures.answer
