-- The answer to an image is the answer to its bytes.
use Rattle.std.proofs.Common.{◌≡◌, ℕ, List, Option, Some, None, Result, Ok, Err, refl, sym, subst, ◌∙◌, inl, inr, true≢false}
use Rattle.std.specs.Prelude.{◌⊎◌, IsSome}
use Rattle.std.proofs.lemmas.Option.{none-some}
use Rattle.nrt_base.proofs.Plain.{ok_never_err, same_ok}
use Rattle.index_check.specs.declared.reading.ImageFault.{ImageFault}
use Rattle.index_check.specs.declared.reading.ImageFault.TheVariants.{Memory}
use Rattle.index_check.specs.Images.{IsNoImage}
use Rattle.index_check.specs.declared.fault.CheckFault.{CheckFault}
use Rattle.index_check.specs.declared.checking.Checked.{Checked}
use Rattle.index_check.specs.Checks.{IsCheckOfImage}
use Rattle.stream_commands.specs.declared.status.Status.{Status}
use Rattle.stream_commands.specs.declared.status.Status.TheVariants.{Done, WriteFault, BadIndex, BadImage}
use Rattle.stream_commands.specs.Check.{IsCheckAnswer}

-- the answer to what a check found, by what was written
abbrev pub Tells : Checked → Status → Type 0
Tells checked answer = (checked.fault ≡ None → (answer ≡ Done) ⊎ (answer ≡ WriteFault)) × (IsSome checked.fault → (answer ≡ BadIndex) ⊎ (answer ≡ WriteFault))

module _ (bytes : List ℕ) where
  pub bad_image : IsNoImage bytes → IsCheckAnswer bytes BadImage
  bad_image none = record { none = λ h. refl; right = λ checked k e. absurd (none k.files k.image); wrong = λ checked k e. absurd (none k.files k.image) }

  pub checked_answer : (checked : Checked) (answer : Status) → IsCheckOfImage bytes checked
      → ((other : Checked) → IsCheckOfImage bytes other → (◌≡◌ {A = Result Checked ImageFault} (Ok checked) (Err Memory)) ⊎ (◌≡◌ {A = Result Checked ImageFault} (Ok checked) (Ok other)))
      → Tells checked answer → IsCheckAnswer bytes answer
  checked_answer checked answer is each tells = record { none = λ none. absurd (none is.files is.image); right = λ other k. (by other k).0; wrong = λ other k. (by other k).1 }
    where
      by : (other : Checked) → IsCheckOfImage bytes other → Tells other answer
      by other k = elim (each other k) [ inl e ↦ absurd (ok_never_err checked Memory e) | inr e ↦ subst (λ (c : Checked). Tells c answer) (same_ok checked other e) tells ]

  pub told_right : (checked : Checked) → checked.fault ≡ None → Tells checked Done
  told_right checked e = (λ h. inl refl, λ some. absurd (true≢false (sym (subst (λ (o : Option CheckFault). IsSome o) e some))))

  pub told_wrong : (checked : Checked) (fault : CheckFault) → checked.fault ≡ Some fault → Tells checked BadIndex
  told_wrong checked fault e = (λ h. absurd (none-some fault (sym h ∙ e)), λ some. inl refl)

  pub told_in_part : (checked : Checked) → Tells checked WriteFault
  told_in_part checked = (λ h. inr refl, λ some. inr refl)
