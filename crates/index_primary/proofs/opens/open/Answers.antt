use Rattle.std.proofs.Common.{sym, subst, List}
use Rattle.disk_model.specs.Disk.{Name}
use Rattle.segment_infos.specs.Files.{AreFilesOf}
use Rattle.index_primary.proofs.Opening.{names_there, primary_opens}
use Rattle.index_primary.proofs.opens.open.Goals as goal

pub hold_there-requires : goal.hold_there-requires
hold_there-requires g c = rw c.as_slice.ensures (names_there g.D.Dir.cells c.args.parts.now c.requires.node c.requires.held c.from_vec-names.result
    (subst (λ (ns : List Name). AreFilesOf c.args.parts.now.infos ns) (sym c.from_vec-names.ensures) c.in_ok-files_of.ensures))

pub returns-clause-whole : goal.returns-clause-whole
returns-clause-whole g c = primary_opens g.D.Dir.cells c.args.parts.now c.requires.node c.requires.held c.from_vec-names.result
    (subst (λ (ns : List Name). AreFilesOf c.args.parts.now.infos ns) (sym c.from_vec-names.ensures) c.in_ok-files_of.ensures)
    c.hold_there.new.self (rw c.as_slice.ensures at c.in_ok-hold_there.ensures.holds) c.replace-former.new.self c.in_ok-point_names.point_names c.in_ok-readers.readers c.in_ok-point_infos.point_infos
    c.replace-former.ensures.point c.replace-former.ensures.tickets c.in_ok-point_names.ensures c.in_ok-readers.ensures c.in_ok-point_infos.ensures c.requires.states c.requires.merges c.requires.publish c.requires.completed c.requires.standing c.requires.undrawn c.requires.numbered
