use Rattle.std.proofs.Common.{refl}
use Rattle.cluster_merges.proofs.writes.send_one.Goals as goal

pub returns : goal.returns
returns g c = record { node = refl; moves = c.in_ok-job.ensures; rows = c.in_ok-send.ensures.rows; posted = c.send.ensures.posted; counts = c.send.ensures.counts }
