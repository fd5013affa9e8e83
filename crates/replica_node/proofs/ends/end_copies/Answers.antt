use Rattle.std.proofs.Common.{◌∙◌, arith}
use Rattle.copy_state.specs.States.{meta_names}
use Rattle.searcher_switch.proofs.Appearing.{keeps_none}
use Rattle.replica_node.specs.Merges.{running_names}
use Rattle.replica_node.proofs.Cancelled.{all_gone, running_counted, pending_counted, gone_whole, gone_sourced, gone_standing, none_held}
use Rattle.replica_node.proofs.ends.end_copies.Goals as goal

pub end_all-requires : goal.end_all-requires
end_all-requires g c = running_counted g.D.Dir.cells c.args.parts.now c.requires

pub release-requires : goal.release-requires
release-requires g c = pending_counted g.D.Dir.cells c.args.parts.now c.requires c.end_all.new.files c.end_all.new.dir c.as_slice.result.now (c.as_slice.ensures.value ∙ c.discard_all-names.ensures.names) c.end_all.ensures.moves

pub returns-clause-copies : goal.returns-clause-copies
returns-clause-copies g c = λ i. record { running = c.end_all.ensures.none i; pending = c.discard_all-names.ensures.none i }

pub returns-clause-back : goal.returns-clause-back
returns-clause-back g c =
    let p = c.args.parts.now in
    let gone = all_gone (running_names p.copies.running) (meta_names p.copies.pending.files) c.as_slice.result.now p.files c.end_all.new.files c.release.new.self (g.D.Dir.cells p.dir) (g.D.Dir.cells c.end_all.new.dir) (g.D.Dir.cells c.release.new.dir)
    c.end_all.ensures.moves (c.as_slice.ensures.value ∙ c.discard_all-names.ensures.names) c.release.ensures.lets_go in
    record {
      whole = gone_whole g.D.Dir.cells p c.requires c.release.new.dir c.release.new.self gone (record { running = c.end_all.new.self; pending = c.discard_all-names.new.self }) (λ i. record { running = c.end_all.ensures.none i; pending = c.discard_all-names.ensures.none i });
      standing = gone_standing g.D.Dir.cells p c.requires c.release.new.dir c.release.new.self gone (record { running = c.end_all.new.self; pending = c.discard_all-names.new.self }) (λ i. record { running = c.end_all.ensures.none i; pending = c.discard_all-names.ensures.none i });
      sourced = gone_sourced g.D.Dir.cells p c.requires c.release.new.dir c.release.new.self gone (record { running = c.end_all.new.self; pending = c.discard_all-names.new.self }) (λ i. record { running = c.end_all.ensures.none i; pending = c.discard_all-names.ensures.none i });
      held = none_held g.D.Dir.cells p c.requires c.release.new.dir c.release.new.self gone;
      fewer = λ q. omega (arith, gone.counts q);
      stays = record { held = gone.keeps.reads };
      appears = keeps_none p.files c.release.new.self (g.D.Dir.cells p.dir) (g.D.Dir.cells c.release.new.dir) gone.keeps;
      later = omega (arith, c.end_all.ensures.later, c.release.ensures.later);
    }
