use Rattle.std.proofs.Common.{ap, ◌∙◌}
use Rattle.std.specs.List.{flat_map}
use Rattle.std.proofs.lemmas.List.Filters.{dedup_is}
use Rattle.segment_infos.specs.Files.{files_of_segment}
use Rattle.segment_infos.proofs.SetLaws.{files_are}
use Rattle.segment_infos.proofs.files.files_of.Goals as goal

pub returns : goal.returns
returns c =
    let e = c.in_ok-names.ensures in
    files_are c.args.infos.now c.in_ok-names.names.items c.sort_unstable.new.self.items c.dedup.new.self.items (e ∙ ap (flat_map files_of_segment) c.as_slice.ensures) c.sort_unstable.ensures.permutation
    c.sort_unstable.ensures.sorted (dedup_is _ _ _ c.dedup.ensures.filtered)
