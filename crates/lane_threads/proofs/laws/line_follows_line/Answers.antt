use Rattle.lane_threads.proofs.LineLemmas.{going_on}
use Rattle.std.proofs.Common.{sym}
use Rattle.std.proofs.lemmas.Option.{slice_get_within, get_or_from_slice_get}
use Rattle.lane_threads.proofs.laws.line_follows_line.Goals as goal

pub returns : goal.returns
returns c =
    let lines = c.args.lines.now in
    let line = c.args.line.now in
    let is = sym (get_or_from_slice_get lines c.args.i line line c.requires.line) in
    let within = slice_get_within lines c.args.i line c.requires.line in
    going_on c.args.logged c.args.lane lines c.args.i line is within _ _ _ c.requires.part c.requires.going c.requires.ran
