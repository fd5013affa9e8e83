-- A refused line is no line of a script; so each answer is the answer to its bytes.
use Rattle.std.proofs.Common.{◌≡◌, ◌≢◌, ℕ, List, refl, ap, ◌∙◌}
use Rattle.std.specs.Prelude.{◌⊎◌}
use Rattle.nrt_base.specs.declared.numbers.LineNo.{LineNo}
use Rattle.script_text.specs.declared.fault.LineFault.{LineFault}
use Rattle.script_serving.specs.declared.script.Script.{Script}
use Rattle.script_text.specs.Grammar.{SpellsScript}
use Rattle.script_text.specs.Refused.{IsFirstRefused}
use Rattle.script_text.proofs.RefusalLaws.{never_both, one_refusal}
use Rattle.stream_commands.specs.declared.status.Status.{Status}
use Rattle.stream_commands.specs.declared.status.Status.TheVariants.{Done, BadScript, WriteFault, Memory}
use Rattle.stream_commands.specs.Scripts.{IsAnswer}
use Rattle.stream_commands.specs.Scripts.{IsRefusal}

pub bad_script : (n m : LineNo) (cause other : LineFault) → n.0 ≡ m.0 → cause ≡ other → BadScript n cause ≡ BadScript m other
bad_script n m cause other lines causes =
    ap (λ (k : ℕ). let line : LineNo = record { 0 = k } in BadScript line cause) lines ∙ ap (BadScript m) causes

module _ (bytes : List ℕ) where
  bad_answer : (n : LineNo) (cause : LineFault) → IsFirstRefused bytes n.0 cause → IsAnswer bytes (BadScript n cause)
  bad_answer n cause refused =
      record {
        refusals = λ m other too. let same = one_refusal bytes n.0 m.0 cause other refused too in bad_script n m cause other same.0 same.1;
        runs = λ script grammar. absurd (never_both bytes script n.0 cause grammar refused);
      }

  -- a script that was run is answered so
  pub run_answer : (script : Script) (answer : Status) → SpellsScript bytes script → (answer ≡ Done) ⊎ (answer ≡ WriteFault) → IsAnswer bytes answer
  run_answer script answer grammar ran =
      record {
        refusals = λ n cause refused. absurd (never_both bytes script n.0 cause grammar refused);
        runs = λ other too. ran;
      }

  -- bytes of which nothing is run are answered so
  pub refusal_answer : (answer : Status) → IsRefusal bytes answer → answer ≢ Memory → IsAnswer bytes answer
  refusal_answer (BadScript n cause) refused known = bad_answer n cause refused
  refusal_answer Memory refused known = absurd (known refl)
  refusal_answer answer refused known = absurd refused
