use Rattle.history_tables.proofs.rows.NodeRow.first.Goals as goal

pub returns : goal.returns
returns c = λ n.
    let s = c.first-state.ensures n in
    let w = c.first-work.ensures n in
    let p = c.first-plans.ensures n in
    record {
      running = s.running;
      crashes = s.crashes;
      crashed = s.crashed;
      version = s.version;
      committing = s.committing;
      low = s.low;
      stuck = w.stuck;
      committed = w.committed;
      copying = w.copying;
      link = p.link;
      damage = p.damage;
      disk = p.disk;
      stop = p.stop;
    }
