-- What a check of an image says, by what was read of it.
use Rattle.std.proofs.Common.{◌≡◌, ◌⊎◌, ℕ, List, Result, Ok, Err, Vec, Global, sym, ap, subst, inl, inr}
use Rattle.std.specs.Prelude.{alloc_error}
use Rattle.nrt_base.proofs.Plain.{ok_never_err, same_ok, same_err}
use Rattle.index_check.specs.declared.reading.ImageFault.{ImageFault}
use Rattle.index_check.specs.declared.reading.ImageFault.TheVariants.{Memory}
use Rattle.index_check.specs.Images.{NamedFile, IsImageOf}
use Rattle.index_check.specs.declared.checking.Checked.{Checked}
use Rattle.index_check.specs.Directory.{directory_with}
use Rattle.index_check.specs.Checks.{IsCheckOf, IsCheckOfImage, IsExactCheck}

module _ (bytes : List ℕ) where
  pub not_said : (fault : ImageFault) → ((files : List NamedFile) → IsImageOf bytes files → (◌≡◌ {A = Result (Vec NamedFile Global) ImageFault} (Err fault) (Err Memory)) ⊎ ⊥) → (checked : Checked) → IsCheckOfImage bytes checked
      → (◌≡◌ {A = Result Checked ImageFault} (Err fault) (Err Memory)) ⊎ (◌≡◌ {A = Result Checked ImageFault} (Err fault) (Ok checked))
  not_said fault each checked k = elim (each k.files k.image) [ inl e ↦ inl (ap Err (same_err fault Memory e)) | inr never ↦ absurd never ]

  pub no_image_said : (fault refusal : ImageFault) → (◌≡◌ {A = Result (Vec NamedFile Global) ImageFault} (Err fault) (Err Memory)) ⊎ (◌≡◌ {A = Result (Vec NamedFile Global) ImageFault} (Err fault) (Err refusal))
      → (◌≡◌ {A = Result Checked ImageFault} (Err fault) (Err Memory)) ⊎ (◌≡◌ {A = Result Checked ImageFault} (Err fault) (Err refusal))
  no_image_said fault refusal (inl e) = inl (ap Err (same_err fault Memory e))
  no_image_said fault refusal (inr e) = inr (ap Err (same_err fault refusal e))

  pub said_of : (files : List NamedFile) (checked : Checked) → IsImageOf bytes files → IsExactCheck alloc_error (directory_with files) (Ok checked) → IsCheckOfImage bytes checked
  said_of files checked image exact = record { files = files; image = image; is = exact.told }

  pub nothing_else : (read : Vec NamedFile Global) → ((files : List NamedFile) → IsImageOf bytes files → (◌≡◌ {A = Result (Vec NamedFile Global) ImageFault} (Ok read) (Err Memory)) ⊎ (read.items ≡ files)) → (checked : Checked)
      → IsExactCheck alloc_error (directory_with read.items) (Ok checked) → (other : Checked) → IsCheckOfImage bytes other
      → (◌≡◌ {A = Result Checked ImageFault} (Ok checked) (Err Memory)) ⊎ (◌≡◌ {A = Result Checked ImageFault} (Ok checked) (Ok other))
  nothing_else read each checked exact other k = elim (each k.files k.image) [
    | inl e ↦ absurd (ok_never_err read Memory e)
    | inr same ↦
        elim (exact.each other (subst (λ (files : List NamedFile). IsCheckOf (directory_with files) other) (sym same) k.is)) [ inl e ↦ absurd (ok_never_err checked alloc_error e) | inr e ↦ inr (ap Ok (same_ok checked other e)) ]
  ]
