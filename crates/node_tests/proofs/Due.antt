-- The next part of a job.
use Rattle.std.proofs.Common.{◌≡◌, ℕ, suc, ◌+◌, ◌<◌, true, false, List, [], ◌∷◌, length, drop, get_or, slice_get, Option, Some, is_some, cond, sym, ap, subst, ◌∙◌, arith, true≢false, drop-cons, add-one}
use Rattle.disk_model.specs.Disk.{Name, same}
use Rattle.file_deleter.specs.Holdings.{times}
use Rattle.file_deleter.proofs.NameLemmas.{same_self, times-cons}
use Rattle.copy_state.specs.declared.meta.FileMetaData.{FileMetaData}
use Rattle.copy_state.specs.States.{meta_in}

abbrev File : Type 0
File = Name × FileMetaData

-- the first name of a list is counted
pub first_counted : (names : List Name) (q : Name) → slice_get names 0 ≡ Some q → 0 < times names q
first_counted [] q e = absurd (true≢false (sym (ap (λ (o : Option Name). is_some o) e)))
first_counted (x ∷ xs) q e =
    let one : x ≡ q = cc in
    omega (arith, times-cons x xs q, ap {B = ℕ} (λ b. cond b 1 0) (subst (λ (n : Name). same n q ≡ true) (sym one) (same_self q)))

-- one file more is not the one that is looked for
pub looked_on : (files : List File) (i : ℕ) (d : File) (q : Name) → i < length files → same q (get_or files i d).0 ≡ false → meta_in (drop (i + 1) files) q ≡ meta_in (drop i files) q
looked_on files i d q lt other =
    ap (λ n. meta_in (drop n files) q) (add-one i) ∙ sym (ap (λ (fs : List File). meta_in fs q) (drop-cons files i d lt) ∙ ap (λ b. cond b (Some (get_or files i d).1) (meta_in (drop (suc i) files) q)) other)

-- this file is the one that is looked for
pub looked_up : (files : List File) (i : ℕ) (d : File) (q : Name) → i < length files → same q (get_or files i d).0 ≡ true → Some (get_or files i d).1 ≡ meta_in (drop i files) q
looked_up files i d q lt here = sym (ap (λ (fs : List File). meta_in fs q) (drop-cons files i d lt) ∙ ap (λ b. cond b (Some (get_or files i d).1) (meta_in (drop (suc i) files) q)) here)
