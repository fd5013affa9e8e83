-- The shapes of commands by their names.
use Rattle.std.proofs.Common.{◌≡◌, ◌≤◌, length, ℕ, List, refl, ◌∙◌, arith}
use Rattle.history_rules.specs.declared.cause.FaultKind.{FaultKind}
use Rattle.history_rules.specs.declared.cause.FaultKind.TheVariants as kind
use Rattle.script_text.specs.declared.shapes.Plain.{Plain}
use Rattle.script_text.specs.declared.shapes.Plain.TheVariants as plain
use Rattle.script_text.specs.declared.shapes.Name.{Name}
use Rattle.script_text.specs.Refused.{nothing, shape_named, command_shapes, plain_shape, fault_shape}
use Rattle.script_text.specs.Reading.{late_shapes, IsNamed}

pub plain_tail : (p : Plain) → (plain_shape p).tail ≡ nothing
plain_tail plain.Publish = refl
plain_tail plain.Copy = refl
plain_tail plain.Settle = refl
plain_tail plain.Open = refl
plain_tail plain.Close = refl
plain_tail plain.Commit = refl
plain_tail plain.Crash = refl
plain_tail plain.Reopen = refl
plain_tail plain.Promote = refl
plain_tail plain.Merge = refl
plain_tail plain.Drain = refl
plain_tail plain.Files = refl

pub fault_tail : (k : FaultKind) → (fault_shape k).tail ≡ nothing
fault_tail kind.Link = refl
fault_tail kind.Damage = refl
fault_tail kind.Disk = refl
fault_tail kind.Stop = refl

-- a word that names a command of the second half names it in the table
pub named_late : (word : List ℕ) (n : Name) → shape_named word command_shapes ≡ shape_named word late_shapes → IsNamed word late_shapes n → IsNamed word command_shapes n
named_late word n e named = record { found = e ∙ named.found; front = named.front }

-- a command has three words at most behind its name
pub plain_few : (p : Plain) → length (plain_shape p).words ≤ 3
plain_few plain.Publish = omega arith
plain_few plain.Copy = omega arith
plain_few plain.Settle = omega arith
plain_few plain.Open = omega arith
plain_few plain.Close = omega arith
plain_few plain.Commit = omega arith
plain_few plain.Crash = omega arith
plain_few plain.Reopen = omega arith
plain_few plain.Promote = omega arith
plain_few plain.Merge = omega arith
plain_few plain.Drain = omega arith
plain_few plain.Files = omega arith

pub fault_few : (k : FaultKind) → length (fault_shape k).words ≤ 3
fault_few kind.Link = omega arith
fault_few kind.Damage = omega arith
fault_few kind.Disk = omega arith
fault_few kind.Stop = omega arith
