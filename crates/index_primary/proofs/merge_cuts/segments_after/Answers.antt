use Rattle.std.proofs.Common.{sym}
use Rattle.index_primary.proofs.CutMaking.{cut_bounded, cut_many, cut_some, cut_now, cut_from, cut_rows, cut_built}
use Rattle.index_primary.proofs.merge_cuts.segments_after.Goals as goal

pub cut_over-requires-clause-bounded : goal.cut_over-requires-clause-bounded
cut_over-requires-clause-bounded g c = cut_bounded g.D.Dir.cells c.args.parts.now c.requires.whole c.args.seg c.merge_in-merging.result.now (sym (rw c.as_slice.ensures at c.merge_in-merging.ensures)) _ c.in-Some.is

pub cut_over-requires-clause-many : goal.cut_over-requires-clause-many
cut_over-requires-clause-many g c = rw (c.as_slice-4.ensures, c.as_slice-5.ensures) (cut_many g.D.Dir.cells c.args.parts.now c.requires.whole c.args.seg c.merge_in-merging.result.now (sym (rw c.as_slice.ensures at c.merge_in-merging.ensures)) _ c.in-Some.is)

pub cut_over-requires-clause-some : goal.cut_over-requires-clause-some
cut_over-requires-clause-some g c = rw (c.as_slice-2.ensures, c.as_slice-4.ensures, c.as_slice-5.ensures) (cut_some g.D.Dir.cells c.args.parts.now c.requires.whole c.args.seg c.merge_in-merging.result.now (sym (rw c.as_slice.ensures at c.merge_in-merging.ensures)) _ c.in-Some.is)

pub cut_over-requires-clause-now : goal.cut_over-requires-clause-now
cut_over-requires-clause-now g c = rw (c.as_slice-2.ensures, c.as_slice-3.ensures, c.as_slice-4.ensures, c.as_slice-5.ensures) (cut_now g.D.Dir.cells c.args.parts.now c.requires.whole c.args.seg c.merge_in-merging.result.now (sym (rw c.as_slice.ensures at c.merge_in-merging.ensures)) _ c.in-Some.is)

pub cut_over-requires-clause-from : goal.cut_over-requires-clause-from
cut_over-requires-clause-from g c = rw c.as_slice-3.ensures (cut_from g.D.Dir.cells c.args.parts.now c.requires.whole c.args.seg c.merge_in-merging.result.now (sym (rw c.as_slice.ensures at c.merge_in-merging.ensures)) _ c.in-Some.is)

pub cut_over-requires-clause-rows : goal.cut_over-requires-clause-rows
cut_over-requires-clause-rows g c = cut_rows g.D.Dir.cells c.args.parts.now c.requires.whole c.args.seg c.merge_in-merging.result.now (sym (rw c.as_slice.ensures at c.merge_in-merging.ensures)) _ c.in-Some.is

pub cut_over-requires-clause-built : goal.cut_over-requires-clause-built
cut_over-requires-clause-built g c = cut_built g.D.Dir.cells c.args.parts.now c.requires.whole c.args.seg c.merge_in-merging.result.now (sym (rw c.as_slice.ensures at c.merge_in-merging.ensures)) _ c.in-Some.is

pub returns-in-Ok : goal.returns-in-Ok
returns-in-Ok g c = record {
  m = c.merge_in-merging.result.now;
  found = sym (rw c.as_slice.ensures at c.merge_in-merging.ensures);
  merged = _;
  is_merged = c.in-Some.is;
  shown = c.in-Ok.ensures.0;
  back = c.in-Ok.ensures.1;
  cut = rw (c.as_slice-2.ensures, c.as_slice-4.ensures, c.as_slice-5.ensures) at c.in-Ok.ensures.2;
}
