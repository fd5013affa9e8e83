-- Files that are written: their names, and that they read so.
use Rattle.std.specs.Prelude.{◌≡◌, List, map, Some}
use Rattle.disk_model.specs.Disk.{Name, Cells}
use Rattle.segment_steps.specs.Given.{File}

-- the names of files
abbrev pub names_of : List File → List Name
names_of files = map (λ f. f.0) files

-- the file reads so
abbrev pub ReadsSo : Cells → File → Type 0
ReadsSo cells f = (cells f.0).now ≡ Some f.1
