use Rattle.std.proofs.Common.{◌∙◌, sym, subst}
use Rattle.segment_infos.specs.Files.{AreFilesOf}
use Rattle.index_primary.specs.CutOverCalls.{infos_of}
use Rattle.index_primary.proofs.CutMaking.{same_merging, written_is, cut_ready_of}
use Rattle.index_primary.proofs.merge_cuts.prepare.Goals as goal

pub returns : goal.returns
returns g c =
    let p = c.args.parts.now in
    let h = c.in_ok-made.ensures in
    let found = sym (rw c.as_slice.ensures at c.merge_in-merging.ensures) in
    let merged_is = same_merging c.merge_in-merging.result.now h.m h.merged (sym found ∙ h.found) h.is_merged in
    cut_ready_of g.D.Dir.cells p c.requires.whole c.args.seg c.merge_in-merging.result.now found h.merged merged_is c.in_ok-made.made h
    c.in_ok-own.own (written_is c.merge_in-merging.result.now.merged h.merged c.in_ok-own.own merged_is c.in_ok-own.ensures) c.in_ok-completed.completed (rw (c.as_slice-2.ensures, c.as_slice-3.ensures) at c.in_ok-completed.ensures)
    c.from_vec-names.result (subst (AreFilesOf (infos_of p.infos c.in_ok-made.made.records)) (sym c.from_vec-names.ensures) c.in_ok-files_of.ensures)
    c.in_ok-written.written c.in_ok-held.held c.in_ok-gone.gone (rw c.as_slice-4.ensures at c.in_ok-written.ensures) (rw (c.as_slice-5.ensures, c.as_slice-6.ensures) at c.in_ok-held.ensures) (rw (c.as_slice-7.ensures, c.as_slice-8.ensures) at c.in_ok-gone.ensures)
