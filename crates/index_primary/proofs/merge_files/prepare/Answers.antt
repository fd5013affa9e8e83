use Rattle.std.proofs.Common.{rules, ◌≡◌, None, sym}
use Rattle.index_primary.specs.declared.states.Merging.{Merging}
use Rattle.seg_merge.specs.Merging.{IsMergedOf}
use Rattle.index_primary.proofs.Making.{so_at, state_ready_of}
use Rattle.index_primary.proofs.MergedFiles.{merged_framed, merged_short}
use Rattle.index_primary.proofs.Readied.{small}
use Rattle.index_primary.proofs.merge_files.prepare.Goals as goal

pub metas_told-requires : goal.metas_told-requires
metas_told-requires g c =
    let m = c.merge_in-merging.result.now in
    let made = so_at (λ (x : Merging). (x.merged ≡ None) × IsMergedOf x.task c.args.merged.now) _ m (rw c.as_slice.ensures at c.merge_in-merging.ensures) c.requires.made in
    rw c.as_slice-files.ensures (merged_framed m.task c.args.merged.now made.1)

pub returns : goal.returns
returns g c =
    let p = c.args.parts.now in
    let m = c.merge_in-merging.result.now in
    let at = rw c.as_slice.ensures at c.merge_in-merging.ensures in
    let made = so_at (λ (x : Merging). (x.merged ≡ None) × IsMergedOf x.task c.args.merged.now) _ m at c.requires.made in
    state_ready_of p c.args.merged.now m (sym at) made.0 made.1 c.requires.whole.completed c.in_ok-written.written c.in_ok-names.names c.in_ok-held.held
    (rw c.as_slice-files.ensures at c.in_ok-written.ensures) (rw (c.as_slice-2.ensures, c.as_slice-3.ensures) at c.in_ok-names.ensures) c.in_ok-held.ensures c.in_ok-completed.completed c.in_ok-completed.ensures
    c.in_ok-infos.infos c.in_ok-infos.ensures c.in_ok-metas.metas (rw c.as_slice-files.ensures at c.in_ok-metas.ensures.names) (rw c.as_slice-files.ensures at c.in_ok-metas.ensures.metas)
    (merged_short m.task c.args.merged.now made.1 (small g.D.Dir.cells p c.requires.whole c.args.merged.now m (sym at) made.0 made.1)) _ (search rules)
