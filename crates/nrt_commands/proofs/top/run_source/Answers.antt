use Rattle.std.proofs.Common.{ℕ, List, inr, refl, subst}
use Rattle.script_text.specs.Grammar.{SpellsScript}
use Rattle.stream_commands.specs.declared.status.Status.TheVariants.{WriteFault}
use Rattle.stream_commands.proofs.AnswerLaws.{run_answer}
use Rattle.nrt_commands.proofs.top.run_source.Goals as goal

pub returns-clause-answers : goal.returns-clause-answers
returns-clause-answers g c = λ read_all large memory. record {
  bytes = c.in-Ok.bytes.items;
  read = record { taken = c.in-Ok.ensures.read.0; ended = c.in-Ok.ensures.read.1; within = c.in-Ok.ensures.read.2 };
  given = run_answer c.in-Ok.bytes.items c.in-Ok-read_script.script WriteFault (subst (λ (bytes : List ℕ). SpellsScript bytes c.in-Ok-read_script.script) c.as_slice.ensures.value c.in-Ok-read_script.ensures.script) (inr refl);
}
