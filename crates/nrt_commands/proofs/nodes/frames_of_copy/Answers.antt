use Rattle.std.proofs.Common.{List, sym, subst}
use Rattle.std.specs.Prelude.{IsSome}
use Rattle.std.specs.List.{All}
use Rattle.disk_model.specs.Disk.{Name, reads_of}
use Rattle.disk_memory.specs.Memory.{cells_in}
use Rattle.nrt_commands.proofs.NodeTextLaws.{copy_frames_are}
use Rattle.nrt_commands.proofs.nodes.frames_of_copy.Goals as goal

pub read_files-requires : goal.read_files-requires
read_files-requires c = record { there = subst (λ (ns : List Name). All (λ q. IsSome (reads_of (cells_in c.args.sending.dir) q)) ns) (sym c.as_slice.ensures.value) c.requires.there }

pub returns : goal.returns
returns c =
    copy_frames_are c.args.sending.state c.args.sending.lacking.items c.as_slice.result.now c.args.sending.dir c.in_ok-files.files.items c.as_slice-2.result.now c.in_ok-text.text.items
    c.as_slice.ensures.value c.as_slice-2.ensures.value c.in_ok-files.ensures.read c.in_ok-text.ensures
