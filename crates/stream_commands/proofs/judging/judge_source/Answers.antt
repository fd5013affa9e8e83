use Rattle.std.proofs.Common.{List, ℕ, subst}
use Rattle.script_text.specs.Refused.{IsFirstRefused}
use Rattle.report_judge.specs.Sources.{script_part}
use Rattle.stream_commands.proofs.judging.judge_source.Goals as goal

pub returns-in-Ok-clause-bad : goal.returns-in-Ok-clause-bad
returns-in-Ok-clause-bad g c = λ n cause same. record {
  bytes = c.in-Ok.bytes.items;
  read = record { taken = c.in-Ok.ensures.read.0; ended = c.in-Ok.ensures.read.1; within = c.in-Ok.ensures.read.2 };
  refused = subst (λ (bytes : List ℕ). IsFirstRefused (script_part bytes) n.0 cause) c.as_slice.ensures.value (c.judge_bytes.ensures.bad n cause same);
}
