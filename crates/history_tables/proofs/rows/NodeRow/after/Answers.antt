use Rattle.history_tables.proofs.rows.NodeRow.after.Goals as goal

pub returns : goal.returns
returns c = λ past told was.
    let s = c.after-state.ensures past told.count told.source (record { running = was.running; crashes = was.crashes; crashed = was.crashed; version = was.version; committing = was.committing; low = was.low }) in
    let w = c.after-work.ensures past told.source (told.newest c.args.n) told.commit (record { stuck = was.stuck; committed = was.committed; copying = was.copying }) in
    let p = c.after-plans.ensures past (record { link = was.link; damage = was.damage; disk = was.disk; stop = was.stop }) in
    record {
      running = s.running;
      crashes = s.crashes;
      crashed = s.crashed;
      version = s.version;
      committing = s.committing;
      low = s.low;
      stuck = w.stuck;
      committed = w.committed;
      copying = w.copying;
      link = p.link;
      damage = p.damage;
      disk = p.disk;
      stop = p.stop;
    }
