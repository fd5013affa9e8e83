use Rattle.std.proofs.Common.{List, ap, subst, ◌∙◌, arith}
use Rattle.disk_model.specs.Disk.{Name}
use Rattle.file_deleter.specs.Moves.{HoldsFiles, Releases}
use Rattle.file_deleter.proofs.NameLemmas.{times-append}
use Rattle.searcher_switch.specs.Tickets.{ticket_names}
use Rattle.searcher_switch.proofs.Switching.{switched_there}
use Rattle.searcher_switch.proofs.searchers.Searchers.switch.Goals as goal

pub returns-clause-there : goal.returns-clause-there
returns-clause-there g c =
    let s = c.args.self.now in
    switched_there c.args.names s.point.names c.args.files.now c.hold_there.new.self c.release.new.self (g.D.Dir.cells c.args.dir.now) (g.D.Dir.cells c.release.new.dir) c.requires.there
    (subst (λ (ns : List Name). HoldsFiles ns c.args.files.now c.hold_there.new.self (g.D.Dir.cells c.args.dir.now)) c.as_slice.ensures c.in_ok-hold_there.ensures.holds)
    (λ q. omega (arith, c.requires.counts.each q, times-append s.point.names (ticket_names s.tickets) q))
    (subst (λ (ns : List Name). Releases ns c.hold_there.new.self c.release.new.self (g.D.Dir.cells c.args.dir.now) (g.D.Dir.cells c.release.new.dir)) (c.as_slice-2.ensures ∙ ap (λ p. p.names) c.replace-old.ensures.old) c.release.ensures.releases)
