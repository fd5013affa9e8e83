use Rattle.std.proofs.Common.{◌∙◌, sym, subst, List, ◌++◌, ◌&&◌, not, ap}
use Rattle.disk_model.specs.Disk.{Name, is_among}
use Rattle.file_deleter.specs.Holdings.{Holdings, is_due, AreThere}
use Rattle.file_deleter.specs.Moves.{HoldsFiles}
use Rattle.replica_opening.proofs.Openings.{listed_there, files_there, above, counted}
use Rattle.replica_opening.proofs.opening.count_found.Goals as goal

pub hold_there-requires : goal.hold_there-requires
hold_there-requires g c = listed_there (g.D.Dir.cells c.args.dir.now) c.args.listed.now c.requires.listed

pub hold_there-requires-2 : goal.hold_there-requires-2
hold_there-requires-2 g c = subst (AreThere (g.D.Dir.cells c.args.dir.now)) (sym c.as_slice.ensures) (files_there (g.D.Dir.cells c.args.dir.now) c.args.found.now.infos c.args.found.now.names c.requires.found.names c.requires.found.there)

pub open_book-requires-clause-above : goal.open_book-requires-clause-above
open_book-requires-clause-above g c =
    above (g.D.Dir.cells c.args.dir.now) c.args.listed.now c.next_commit-next.result c.requires.listed c.next_commit-next.ensures.next c.args.found.now.number c.args.found.now.infos c.requires.found.finds

pub returns : goal.returns
returns g c =
    let cells = g.D.Dir.cells c.args.dir.now in
    counted cells c.in_ok-files.files c.hold_there.new.self c.hold_there-2.new.self c.open_book.new.files c.args.listed.now c.args.found.now c.in_ok-commits.commits c.next_commit-next.result
    (ap (λ (h : Holdings). h.counts) c.in_ok-files.ensures) (ap (λ (h : Holdings). h.due) c.in_ok-files.ensures)
    c.in_ok-hold_there.ensures.holds c.in_ok-hold_there.ensures.due
    (subst (λ (ns : List Name). HoldsFiles ns c.hold_there.new.self c.hold_there-2.new.self cells) c.as_slice.ensures c.in_ok-hold_there-2.ensures.holds)
    c.in_ok-commits.ensures.holds c.requires.listed c.next_commit-next.ensures.next
    c.in_ok-commits.ensures.last c.in_ok-commits.ensures.commit c.in_ok-commits.ensures.none c.in_ok-commits.ensures.next c.in_ok-commits.ensures.sound
