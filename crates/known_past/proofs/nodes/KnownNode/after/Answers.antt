use Rattle.std.proofs.Common.{◌≤◌, ◌+◌, length, reverse, arith}
use Rattle.std.proofs.lemmas.List.{length-reverse}
use Rattle.known_past.proofs.nodes.KnownNode.after.Goals as goal

pub returns : goal.returns
returns c =
    let life = c.after-life.ensures in
    let commits = c.after-commits.ensures in
    let low : c.after-life.result.crashes ≤ length c.args.before.now + 1 = life.low in
    let size = length-reverse c.args.before.now in
    record {
      life = record { running = life.running; crashes = life.crashes; crashed = life.crashed; changed = life.changed; version = life.version; copied = life.copied; copying = life.copying; low = omega (arith, low, size) };
      commits = record { committed = commits.committed; stuck = commits.stuck; base = commits.base; begun = commits.begun };
      plans = c.after-plans.ensures (reverse c.args.before.now) c.requires.known.plans;
    }
