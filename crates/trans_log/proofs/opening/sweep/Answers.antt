use Rattle.std.proofs.Common.{arith, List, ap, ◌∙◌}
use Rattle.std.proofs.lemmas.List.{take_all}
use Rattle.disk_model.specs.Disk.{Name, is_among}
use Rattle.trans_log.specs.Names.{pending_log_name_of}
use Rattle.trans_log.proofs.LogFound.{gone_more}
use Rattle.trans_log.proofs.opening.sweep.Goals as goal

pub loop-name-preserved : goal.loop-name-preserved
loop-name-preserved g c = record {
  gone = gone_more c.args.names.now c.loop-name.name-index c.name-item.result (g.D.Dir.cells c.loop-name.dir) (g.D.Dir.cells c.remove_pending.new.dir) c.loop-name-test.true c.name-item.is
      c.loop-name.invariant.gone c.in_ok-remove_pending.ensures.here c.remove_pending.ensures.none;
  none = λ q e. c.remove_pending.ensures.none q (c.loop-name.invariant.none q e);
  others = λ q never. c.remove_pending.ensures.others q never ∙ c.loop-name.invariant.others q never;
  later = omega (arith, c.remove_pending.ensures.later, c.loop-name.invariant.later);
  calm = λ none. c.remove_pending.ensures.calm (c.loop-name.invariant.calm none);
}

pub returns-clause-gone : goal.returns-clause-gone
returns-clause-gone g c m number among =
    c.loop-name.invariant.gone m number (ap (λ (ns : List Name). is_among ns (pending_log_name_of m)) (take_all c.loop-name.name-index c.args.names.now c.loop-name-test.false) ∙ among)
