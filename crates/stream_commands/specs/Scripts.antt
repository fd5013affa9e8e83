-- What is answered to a script: that it was run, or why not.
use Rattle.std.specs.Prelude.{ℕ, ◌≡◌, ◌⊎◌, List, ⊤, Option}
use Rattle.nrt_base.specs.declared.numbers.LineNo.{LineNo}
use Rattle.script_text.specs.declared.fault.LineFault.{LineFault}
use Rattle.script_serving.specs.declared.script.Script.{Script}
use Rattle.script_text.specs.Grammar.{SpellsScript}
use Rattle.script_text.specs.Refused.{IsFirstRefused}
use Rattle.stream_commands.specs.declared.status.Status.{Status}
use Rattle.stream_commands.specs.declared.status.Status.TheVariants.{Done, BadScript, WriteFault, Memory}
use Rattle.stream_commands.specs.Reads.{ReadWhole}

-- the answer to bytes of which nothing is run: a line of them that is refused and why, or want of memory
abbrev pub IsRefusal : List ℕ → Status → Type 0
IsRefusal bytes (BadScript n cause) = IsFirstRefused bytes n.0 cause
IsRefusal bytes Memory = ⊤
IsRefusal bytes answer = ⊥

-- the source was read to its end, and this line of what it gave is refused for this cause
pub record Refuses (before after : Option (List ℕ)) (n : ℕ) (cause : LineFault) : Type 0 where
  pub bytes : List ℕ
  pub read : ReadWhole before after bytes
  pub refused : IsFirstRefused bytes n cause

-- the answer to these bytes: the line of them that is refused and why, or that the script which they are was run
pub record IsAnswer (bytes : List ℕ) (answer : Status) : Type 0 where
  pub refusals : (n : LineNo) (cause : LineFault) → IsFirstRefused bytes n.0 cause → answer ≡ BadScript n cause
  pub runs : (script : Script) → SpellsScript bytes script → (answer ≡ Done) ⊎ (answer ≡ WriteFault)

-- the source was read to its end, and this is the answer to what it gave
pub record AnswersWhole (before after : Option (List ℕ)) (answer : Status) : Type 0 where
  pub bytes : List ℕ
  pub read : ReadWhole before after bytes
  pub given : IsAnswer bytes answer
