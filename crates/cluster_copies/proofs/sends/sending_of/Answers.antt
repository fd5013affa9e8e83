use Rattle.std.proofs.Common.{ap, ◌∙◌}
use Rattle.cluster_copies.proofs.sends.sending_of.Goals as goal

pub returns : goal.returns
returns g c = record {
  state_is = c.in_ok-state.ensures.state;
  copy = c.in_ok-state.ensures.copy;
  lacking_are = c.in_ok-lacking.ensures;
  dir_is = ap g.D.Dir.cells c.into_dir-dir.ensures ∙ c.state_of-taken.ensures.cells;
}
