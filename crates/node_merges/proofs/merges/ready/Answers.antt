use Rattle.std.proofs.Common.{Err, ap, ◌∙◌}
use Rattle.index_primary.specs.declared.parts.PrimaryFault.{PrimaryFault}
use Rattle.node_merges.proofs.MergeSteps.{gives_up}
use Rattle.node_merges.proofs.merges.ready.Goals as goal

pub returns-in-Ok : goal.returns-in-Ok
returns-in-Ok g c = record {
  of_merged = c.in-Ok.ensures.state;
  copy = c.in-Ok.ensures.copy;
  states = c.in-Ok.ensures.out;
  merges = c.in-Ok.ensures.merges;
  written = c.in-Ok.ensures.written;
  others = c.in-Ok.ensures.others;
  stays = c.in-Ok.ensures.stays;
  fresh = c.in-Ok.ensures.fresh;
  drawn = c.in-Ok.ensures.drawn;
  appears = c.in-Ok.ensures.appears;
  whole = c.in-Ok.ensures.whole;
}

pub returns-in_ok-is_failed-in-Err : goal.returns-in_ok-is_failed-in-Err
returns-in_ok-is_failed-in-Err g c =
    gives_up g.D.Dir.cells c.args.merged.files.seg c.args.primary.now c.merge_ready.new.self (c.merge_ready.ensures.ended (c.in-Err.is ∙ ap (λ (f : PrimaryFault). Err f) c.in_ok-is_failed-in-Err.ensures)) c.in-Err.ensures.err
    c.in-Err.ensures.others c.in-Err.ensures.stays c.in-Err.ensures.given_back c.in-Err.ensures.drawn c.in-Err.ensures.appears c.in-Err.ensures.whole
