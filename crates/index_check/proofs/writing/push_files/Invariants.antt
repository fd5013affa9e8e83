use Rattle.std.proofs.Common.{◌≡◌, ◌++◌, drop}
use Rattle.std.specs.List.{All, flat_map}
use Rattle.index_check.specs.Images.{file_bytes, FileFits}
use Rattle.index_check.proofs.writing.push_files.Given as goal

abbrev pub invariant-loop-file : goal.invariant-loop-file
invariant-loop-file l = record {
  bytes : l.out.items ++ flat_map file_bytes (drop l.file-index l.files) ≡ l.initial.out.items ++ flat_map file_bytes l.files;
  fit : All FileFits (drop l.file-index l.files) → All FileFits l.files;
}
