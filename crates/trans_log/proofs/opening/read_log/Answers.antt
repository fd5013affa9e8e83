use Rattle.std.proofs.Common.{List, ◌∙◌, ap, subst, sym}
use Rattle.disk_model.specs.Disk.{Name, Cells, is_among, reads_of}
use Rattle.trans_log.specs.Names.{pending_log_name_of}
use Rattle.trans_log.specs.Opening.{IsBrokenLog}
use Rattle.trans_log.proofs.LogFound.{all_clear}
use Rattle.trans_log.proofs.opening.read_log.Goals as goal

pub returns-clause-clear : goal.returns-clause-clear
returns-clause-clear g c =
    all_clear c.in_ok-names.names.items (g.D.Dir.cells c.args.dir.now) (g.D.Dir.cells c.sweep.new.dir) c.in_ok-names.ensures.names
    (λ m number among. c.in_ok-sweep.ensures.gone m number (ap (λ (ns : List Name). is_among ns (pending_log_name_of m)) c.deref-2.ensures.value ∙ among))
    (λ q none. c.sweep.ensures.none q (ap (λ (cs : Cells). (cs q).now) (c.find.ensures.cells ∙ c.list.ensures.cells) ∙ none))

pub returns-clause-broken : goal.returns-clause-broken
returns-clause-broken g c name fault b =
    absurd (c.in_ok-records.ensures.broken name fault (subst (λ (cs : Cells). IsBrokenLog (reads_of cs) name fault) (sym c.list.ensures.cells) b))
