-- The files of infos among names.
use Rattle.std.proofs.Common.{◌≡◌, ◌<◌, Bool, true, false, List, refl, arith}
use Rattle.std.specs.Prelude.{Contains}
use Rattle.std.specs.List.{flat_map}
use Rattle.disk_model.specs.Disk.{Name, is_among}
use Rattle.file_deleter.specs.Holdings.{times}
use Rattle.file_deleter.proofs.NameLemmas.{among_times, not_among_times}
use Rattle.segment_infos.specs.declared.infos.Infos.{Infos}
use Rattle.segment_infos.specs.Files.{files_of_segment, AreFilesOf}
use Rattle.commit_steps.proofs.Safe.{among_of, contains_of}

-- files of infos are counted with the names of a list that has them
pub file_counted : (infos : Infos) (names : List Name) → AreFilesOf infos names → (q : Name) → Contains (flat_map files_of_segment infos.segs) q → 0 < times names q
file_counted infos names are q named = among_times names q (among_of names q ((are.named q).1 named))

pub among_file : (infos : Infos) (names : List Name) → AreFilesOf infos names → (q : Name) → is_among names q ≡ true → Contains (flat_map files_of_segment infos.segs) q
among_file infos names are q there = (are.named q).0 (contains_of names q there)

pub some_among : (names : List Name) (q : Name) → 0 < times names q → is_among names q ≡ true
some_among names q some = by (is_among names q) refl
  where
    by : (b : Bool) → is_among names q ≡ b → is_among names q ≡ true
    by true e = e
    by false e = let none : times names q ≡ 0 = not_among_times names q e in absurd (omega (arith, some, none))
