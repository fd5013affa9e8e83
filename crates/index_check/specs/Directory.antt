-- The directory of the files of an image.
use Rattle.std.specs.Prelude.{List, [], ◌∷◌, Some, None}
use Rattle.disk_model.specs.Disk.{Image, put}
use Rattle.index_check.specs.Images.{NamedFile}

-- what stands under each name after these files were put there, one after the other
abbrev pub after_puts : Image → List NamedFile → Image
after_puts image [] = image
after_puts image (f ∷ files) = after_puts (put image f.0 (Some f.1)) files

-- the directory of these files and no others
abbrev pub directory_with : List NamedFile → Image
directory_with files = after_puts (λ _. None) files
