-- What a call that only looks at a directory answers.
use Rattle.std.specs.Prelude.{◌≡◌, ◌⊎◌, Result, Ok, Err}
use Rattle.index_check.specs.declared.fault.CheckFault.{CheckFault}
use Rattle.index_check.specs.declared.fault.CheckFault.TheVariants.{Memory, Failed}

-- the call was cut off: out of memory, or the disk failed
abbrev pub IsCutShort : CheckFault → Type 0
IsCutShort Memory = Unit {0}
IsCutShort Failed = Unit {0}
IsCutShort other = ⊥

-- this is answered, unless the call was cut off
abbrev pub IsDue : {X : Type 0} → (result answer : Result X CheckFault) → Type 0
IsDue result answer = (result ≡ Err Memory) ⊎ ((result ≡ Err Failed) ⊎ (result ≡ answer))

-- Unless it is cut off, a call answers a value that is right, or a fault that there is; and each right value and each fault that
-- there is, is what it answers.
pub record IsExact {X : Type 0} (IsRight : X → Type 0) (IsThere : CheckFault → Type 0) (result : Result X CheckFault) : Type 0 where
  pub value : (x : X) → result ≡ Ok x → IsRight x
  pub fault : (f : CheckFault) → result ≡ Err f → IsCutShort f ⊎ IsThere f
  pub each_value : (x : X) → IsRight x → IsDue result (Ok x)
  pub each_fault : (f : CheckFault) → IsThere f → IsDue result (Err f)
