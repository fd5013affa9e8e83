-- What a call answers that reads each script and each refusal only where the bytes are one: that very script, and that very refusal, unless memory runs out.
use Rattle.std.proofs.Common.{◌≡◌, ℕ, ◌<◌, List, length, refl, ap, ◌∙◌, arith, inl, inr, Result, Ok, Err}
use Rattle.std.specs.Prelude.{◌⊎◌, ◌↔◌, IfOk, IsErrOf}
use Rattle.nrt_base.specs.declared.numbers.LineNo.{LineNo}
use Rattle.script_text.specs.declared.fault.LineFault.{LineFault}
use Rattle.script_text.specs.declared.fault.ScriptFault.{ScriptFault}
use Rattle.script_text.specs.declared.fault.ScriptFault.TheVariants.{Memory, BadScript, TooLarge}
use Rattle.script_serving.specs.declared.script.Script.{Script}
use Rattle.script_text.specs.Grammar.{SpellsScript}
use Rattle.script_text.specs.Refused.{IsFirstRefused}
use Rattle.script_text.proofs.RefusalLaws.{never_both, one_refusal}
use Rattle.script_text.proofs.ScriptLaws.{one_script}

-- each refusal that is answered is one of the bytes
abbrev pub RefusesRightly : List ℕ → Result Script ScriptFault → Type 0
RefusesRightly bytes answer = (n : LineNo) (cause : LineFault) → IsErrOf answer (BadScript n cause) → IsFirstRefused bytes n.0 cause

module _ (bytes : List ℕ) where
  -- the script that the bytes spell is answered, unless memory runs out
  pub script_answered : (answer : Result Script ScriptFault) (script : Script) → IfOk answer (SpellsScript bytes) → RefusesRightly bytes answer
      → (IsErrOf answer TooLarge ↔ (16777216 < length bytes)) → SpellsScript bytes script → (answer ≡ Err Memory) ⊎ (answer ≡ Ok script)
  script_answered (Ok other) script spelled refused large spells = inr (ap Ok (one_script bytes other script spelled spells))
  script_answered (Err Memory) script spelled refused large spells = inl refl
  script_answered (Err (BadScript n cause)) script spelled refused large spells = absurd (never_both bytes script n.0 cause spells (refused n cause refl))
  script_answered (Err TooLarge) script spelled refused large spells = let long : 16777216 < length bytes = large.0 refl in absurd (omega (arith, spells.short))

  -- the first refused line of the bytes is answered with its cause, unless memory runs out
  pub refusal_answered : (answer : Result Script ScriptFault) (n : LineNo) (cause : LineFault) → IfOk answer (SpellsScript bytes) → RefusesRightly bytes answer
      → (IsErrOf answer TooLarge ↔ (16777216 < length bytes)) → IsFirstRefused bytes n.0 cause → (answer ≡ Err Memory) ⊎ (answer ≡ Err (BadScript n cause))
  refusal_answered (Ok other) n cause spelled refused large is = absurd (never_both bytes other n.0 cause spelled is)
  refusal_answered (Err Memory) n cause spelled refused large is = inl refl
  refusal_answered (Err (BadScript m other)) n cause spelled refused large is =
      let same = one_refusal bytes m.0 n.0 other cause (refused m other refl) is in
      inr (ap (λ (k : ℕ). let line : LineNo = record { 0 = k } in let none : Result Script ScriptFault = Err (BadScript line other) in none) same.0
      ∙ ap (λ (c : LineFault). let none : Result Script ScriptFault = Err (BadScript n c) in none) same.1)
  refusal_answered (Err TooLarge) n cause spelled refused large is = let long : 16777216 < length bytes = large.0 refl in absurd (omega (arith, is.short))
