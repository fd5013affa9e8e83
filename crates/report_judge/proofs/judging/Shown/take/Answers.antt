use Rattle.std.proofs.Common.{◌≡◌, ◌≤◌, ◌+◌, ◌∷◌, Bool, length, reverse, subst, arith}
use Rattle.std.proofs.lemmas.List.{length-reverse}
use Rattle.report_judge.specs.Replaying.{ShowsReplay}
use Rattle.report_judge.proofs.judging.Shown.take.Goals as goal

pub returns : goal.returns
returns c =
    let low : c.puts_after-puts.result ≤ length c.args.before.now + 1 = c.puts_after-puts.ensures.low in
    let size : length (reverse c.args.before.now) ≡ length c.args.before.now = length-reverse c.args.before.now in
    record {
      known = c.in_ok-known.ensures;
      puts = c.puts_after-puts.ensures.next;
      few = omega (arith, low, size);
      cuts = c.in_ok-note_cut.ensures;
      turns = c.in_ok-take-2.ensures c.args.script.now c.requires.shown.turns;
      replay = subst (λ (log : Bool). ShowsReplay log (c.args.entry.now ∷ reverse c.args.before.now) c.take.new.self) c.requires.shown.replay.logs c.in_ok-take.ensures.shown;
    }
