use Rattle.lane_threads.proofs.WalkLemmas.{apart_goes}
use Rattle.lane_threads.proofs.StayLemmas.{line_stays}
use Rattle.lane_threads.proofs.laws.others_leave_a_line.Goals as goal

pub returns : goal.returns
returns c = record {
  goes = apart_goes _ _ _ _ _ c.requires;
  stays = line_stays c.args.at _ _ _ c.requires;
}
