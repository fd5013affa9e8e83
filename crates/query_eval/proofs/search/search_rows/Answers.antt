use Rattle.std.proofs.Common.{arith}
use Rattle.std.specs.Prelude.{bit_and}
use Rattle.query_eval.specs.Cursor.{answers, rank_in}
use Rattle.query_eval.proofs.BestLemmas.{no_bar}
use Rattle.query_eval.proofs.SearchLemmas.{search_start, search_none, window_begun, window_within, window_room, window_step, window_end}
use Rattle.query_eval.proofs.search.search_rows.Goals as goal

pub windows-init : goal.windows-init
windows-init c = (
  search_start c.args.query.now c.args.seg.now c.args.best.now (answers c.in_ok-cursor.cursor) (rank_in c.in_ok-cursor.cursor) c.in_ok-cursor.ensures.answers c.in_ok-cursor.ensures.ranks,
  no_bar c.args.seg.now.docs c.places-places.result.now c.new-bar.result c.args.best.now.hits c.new-bar.ensures,
)

pub overflow_sub-rows : goal.overflow_sub-rows
overflow_sub-rows c = let below = c.in-Some.ensures.start.below in omega (arith, below)

pub first_bits-requires : goal.first_bits-requires
first_bits-requires c = let below = c.in-Some.ensures.start.below in omega (arith, below)

pub count_window-requires-clause-within : goal.count_window-requires-clause-within
count_window-requires-clause-within c =
    let begun =
    window_begun c.args.query.now c.args.seg.now c.args.best.now c.windows.best (answers c.windows.cursor) (answers c.next_start.new.cursor) (rank_in c.windows.cursor) (rank_in c.next_start.new.cursor) c.windows.row
    c.rows-rows.result c.in-Some.start c.mark.result c.first_bits.result c.mark.new.times c.rows-rows.ensures.docs (omega arith) c.windows.invariant.0 c.in-Some.ensures.start c.in-Some.ensures.answers
    c.in-Some.ensures.ranks c.mark.ensures.marks.rows c.first_bits.ensures (omega arith) c.mark.ensures.marks.times in
    window_within (answers c.next_start.new.cursor) (rank_in c.next_start.new.cursor) _ c.in-Some.start _ c.mark.new.times begun.window

pub count_window-requires-clause-few : goal.count_window-requires-clause-few
count_window-requires-clause-few c = let all = c.rows-rows.ensures.docs in omega (arith, all)

pub count_window-requires-clause-bar : goal.count_window-requires-clause-bar
count_window-requires-clause-bar c = c.windows.invariant.1

pub count_window-requires-clause-room : goal.count_window-requires-clause-room
count_window-requires-clause-room c =
    let from = c.in-Some.ensures.start.from in
    let below = c.in-Some.ensures.start.below in
    let all = c.rows-rows.ensures.docs in
    window_room c.args.query.now c.args.seg.now c.args.best.now c.windows.best (answers c.windows.cursor) (rank_in c.windows.cursor) c.windows.row c.in-Some.start c.windows.invariant.0 from (omega (arith, below, all))
    c.requires.room

pub returns-then-rows-start-le64 : goal.returns-then-rows-start-le64
returns-then-rows-start-le64 c =
    let begun =
    window_begun c.args.query.now c.args.seg.now c.args.best.now c.windows.best (answers c.windows.cursor) (answers c.next_start.new.cursor) (rank_in c.windows.cursor) (rank_in c.next_start.new.cursor) c.windows.row
    c.rows-rows.result c.in-Some.start c.mark.result c.first_bits.result c.mark.new.times c.rows-rows.ensures.docs (omega arith) c.windows.invariant.0 c.in-Some.ensures.start c.in-Some.ensures.answers
    c.in-Some.ensures.ranks c.mark.ensures.marks.rows c.first_bits.ensures (omega arith) c.mark.ensures.marks.times in
    let within = begun.within in
    let near = c.if-rows-start-le64.true in
    let all = c.rows-rows.ensures.docs in
    window_end c.args.query.now c.args.seg.now c.args.best.now c.windows.best c.count_window.new.best (answers c.next_start.new.cursor) (rank_in c.next_start.new.cursor) c.in-Some.start
    (bit_and c.mark.result c.first_bits.result) c.mark.new.times c.requires.well_formed c.rows-rows.ensures.texts begun.searching begun.window c.in_ok-count_window.ensures.counts (omega (arith, within)) (omega (arith, near, all))

pub windows-preserved : goal.windows-preserved
windows-preserved c =
    let begun =
    window_begun c.args.query.now c.args.seg.now c.args.best.now c.windows.best (answers c.windows.cursor) (answers c.next_start.new.cursor) (rank_in c.windows.cursor) (rank_in c.next_start.new.cursor) c.windows.row
    c.rows-rows.result c.in-Some.start c.mark.result c.first_bits.result c.mark.new.times c.rows-rows.ensures.docs (omega arith) c.windows.invariant.0 c.in-Some.ensures.start c.in-Some.ensures.answers
    c.in-Some.ensures.ranks c.mark.ensures.marks.rows c.first_bits.ensures (omega arith) c.mark.ensures.marks.times in
    let far = c.if-rows-start-le64.false in
    let all = c.rows-rows.ensures.docs in (
      window_step c.args.query.now c.args.seg.now c.args.best.now c.windows.best c.count_window.new.best (answers c.next_start.new.cursor) (answers c.mark.new.cursor) (rank_in c.next_start.new.cursor)
          (rank_in c.mark.new.cursor) c.in-Some.start (bit_and c.mark.result c.first_bits.result) c.mark.new.times c.requires.well_formed c.rows-rows.ensures.texts begun.searching begun.window
          c.in_ok-count_window.ensures.counts (omega (arith, far, all)) c.mark.ensures.marks.rows_stay c.mark.ensures.marks.times_stay,
      c.in_ok-count_window.ensures.bar,
    )

pub windows-smaller : goal.windows-smaller
windows-smaller c =
    let from = c.in-Some.ensures.start.from in
    let below = c.in-Some.ensures.start.below in
    omega (arith, from, below)

pub returns : goal.returns
returns c =
    let all = c.rows-rows.ensures.docs in
    search_none c.args.query.now c.args.seg.now c.args.best.now c.windows.best (answers c.windows.cursor) (rank_in c.windows.cursor) c.windows.row c.windows.invariant.0
    (λ x le lt. c.in_default.ensures.none x le (omega (arith, lt, all)))
