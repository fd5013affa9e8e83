use Rattle.lane_threads.proofs.LineLemmas.{line_lane, line_fresh}
use Rattle.std.proofs.Common.{sym}
use Rattle.std.proofs.lemmas.Option.{slice_get_within, get_or_from_slice_get}
use Rattle.lane_threads.proofs.laws.next_line_may_begin.Goals as goal

pub returns : goal.returns
returns c =
    let lines = c.args.lines.now in
    let line = c.args.line.now in
    let is = sym (get_or_from_slice_get lines c.args.i line line c.requires.line) in
    let within = slice_get_within lines c.args.i line c.requires.line in
    record {
      lane = line_lane c.args.logged c.args.lane lines c.args.i line is within c.requires.part;
      fresh = line_fresh c.args.logged c.args.lane lines c.args.i line is within _ c.requires.going.fresh;
    }
