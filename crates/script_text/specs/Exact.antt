-- The grammar of scripts and the first refused line are exact: each text has one of them at most, and one only.
use Rattle.std.specs.Prelude.{ℕ, ◌≡◌, List}
use Rattle.script_text.specs.declared.fault.LineFault.{LineFault}
use Rattle.script_serving.specs.declared.script.Script.{Script}
use Rattle.script_text.specs.Grammar.{SpellsScript}
use Rattle.script_text.specs.Refused.{IsFirstRefused}

-- no bytes both spell a script and have a line that is refused
abbrev pub NeverBoth : Type 0
NeverBoth = (bytes : List ℕ) (script : Script) (n : ℕ) (cause : LineFault) → SpellsScript bytes script → IsFirstRefused bytes n cause → ⊥

-- bytes spell one script at most
abbrev pub OneScript : Type 0
OneScript = (bytes : List ℕ) (first second : Script) → SpellsScript bytes first → SpellsScript bytes second → first ≡ second

-- bytes have one first refused line at most, with one cause
abbrev pub OneRefusal : Type 0
OneRefusal =
    (bytes : List ℕ) (n m : ℕ) (cause other : LineFault) → IsFirstRefused bytes n cause → IsFirstRefused bytes m other
    → (n ≡ m) × (cause ≡ other)
