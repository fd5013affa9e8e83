-- Files of infos are none of a commit and none that are being copied.
use Rattle.std.proofs.Common.{◌≡◌, ◌<◌, false, List}
use Rattle.std.specs.Prelude.{Contains}
use Rattle.std.specs.List.{flat_map}
use Rattle.std.proofs.lemmas.List.Elements.{All-contains}
use Rattle.file_names.specs.Names.{is_commit_name, is_pending_name}
use Rattle.disk_model.specs.Disk.{Name}
use Rattle.file_deleter.specs.Holdings.{times}
use Rattle.segment_infos.specs.declared.infos.Infos.{Infos}
use Rattle.segment_infos.specs.Files.{files_of_segment, AreFilesOf}
use Rattle.segment_infos.proofs.SetLaws.{files_plain}
use Rattle.commit_steps.proofs.Safe.{contains_of}
use Rattle.replica_opening.specs.Known.{IsLasting}
use Rattle.replica_node.proofs.Named.{some_among}
use Rattle.replica_node.proofs.Temporary.{file_apart}

pub file_lasts : (infos : Infos) (q : Name) → Contains (flat_map files_of_segment infos.segs) q → (names : List Name) → AreFilesOf infos names → IsLasting q
file_lasts infos q named names are =
    let plain = All-contains (λ (n : Name). (is_commit_name n ≡ false) × (is_pending_name n ≡ false)) names q (files_plain infos names are) ((are.named q).1 named) in
    record { commit = plain.0; pending = plain.1; temporary = λ name job e. file_apart infos q named name job e }

pub listed_lasts : (infos : Infos) (names : List Name) → AreFilesOf infos names → (q : Name) → 0 < times names q → IsLasting q
listed_lasts infos names are q some = file_lasts infos q ((are.named q).0 (contains_of names q (some_among names q some))) names are
