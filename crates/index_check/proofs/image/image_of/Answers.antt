use Rattle.index_check.proofs.ImageLaws.{files_ascend, names_there}
use Rattle.index_check.proofs.image.image_of.Goals as goal

pub read_files-requires : goal.read_files-requires
read_files-requires g c = record {
  there = names_there _ _ c.in_ok-names.names.items c.as_slice.result.now c.names_of.ensures.cells c.in_ok-names.ensures.names c.as_slice.ensures.value;
}

pub write_image-requires-clause-ascending : goal.write_image-requires-clause-ascending
write_image-requires-clause-ascending g c =
    files_ascend _ _ c.in_ok-names.names.items c.as_slice.result.now c.in_ok-files.files.items c.as_slice-3.result.now c.as_slice.ensures.value c.as_slice-3.ensures.value c.in_ok-files.ensures.read
    c.in_ok-names.ensures.names
