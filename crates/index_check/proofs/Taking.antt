-- Files, taken one after the other.
use Rattle.std.proofs.Common.{◌≡◌, ℕ, suc, ◌+◌, ◌-◌, ◌<◌, ◌≤◌, List, [], ◌∷◌, ◌++◌, Option, Some, None, refl, sym, ap, ◌∙◌, append_assoc, arith}
use Rattle.std.specs.Option.{unwrap_or}
use Rattle.std.proofs.lemmas.List.{append-nil}
use Rattle.body_forms.specs.Format.{Read, ◌>>=◌, chain_at}
use Rattle.body_forms.proofs.Loops.{with_front}
use Rattle.index_check.specs.Images.{NamedFile}
use Rattle.index_check.specs.Reading.{image_file_at, image_files_at}

abbrev from_here : ℕ → List ℕ → List ℕ → Read (List NamedFile)
from_here count before bytes = chain_at image_file_at (λ f. f.0) count before bytes

-- of `count` files, n have been taken from the front of the bytes; the last has this name, and they are followed by `rest`
pub record HasTaken (count : ℕ) (bytes : List ℕ) (n : ℕ) (before : Option (List ℕ)) (taken : List NamedFile) (rest : List ℕ) : Type 0 where
  pub so_far : with_front taken (chain_at image_file_at (λ f. f.0) (count - n) (unwrap_or before []) rest) ≡ image_files_at count bytes

nothing_before : (read : Read (List NamedFile)) → with_front [] read ≡ read
nothing_before (Some x) = refl
nothing_before None = refl

regroup : (front : List NamedFile) (f : NamedFile) (read : Read (List NamedFile)) → with_front front (read >>= λ xs. Some (f ∷ xs.0, xs.1)) ≡ with_front (front ++ f ∷ []) read
regroup front f (Some xs) = ap (λ (ys : List NamedFile). Some (ys, xs.1)) (sym (append_assoc front (f ∷ []) xs.0))
regroup front f None = refl

module _ (count : ℕ) (bytes : List ℕ) where
  pub taken_start : (before : Option (List ℕ)) (taken : List NamedFile) → before ≡ None → taken ≡ [] → HasTaken count bytes 0 before taken bytes
  unfolding image_files_at
  taken_start before taken b z =
      let e : count - 0 ≡ count = omega arith in
      record {
        so_far = ap (λ (k : Option (List ℕ)). with_front taken (from_here (count - 0) (unwrap_or k []) bytes)) b ∙ ap (λ (t : List NamedFile). with_front t (from_here (count - 0) [] bytes)) z
            ∙ ap (λ (n : ℕ). with_front [] (from_here n [] bytes)) e ∙ nothing_before (from_here count [] bytes);
      }

  pub taken_next : (n : ℕ) (before : Option (List ℕ)) (taken : List NamedFile) (rest name content copied after : List ℕ) (more : List NamedFile)
      → n < count → ◌≡◌ {A = Read NamedFile} (Some ((name, content), after)) (image_file_at (unwrap_or before []) rest) → copied ≡ content → more ≡ taken ++ (name, copied) ∷ [] → HasTaken count bytes n before taken rest
      → HasTaken count bytes (n + 1) (Some name) more after
  taken_next n before taken rest name content copied after more lt e s g h =
      let f : NamedFile = (name, content) in
      let m : count - n ≡ suc (count - (n + 1)) = omega arith in
      let read : from_here (suc (count - (n + 1))) (unwrap_or before []) rest ≡ (from_here (count - (n + 1)) name after >>= λ xs. Some (f ∷ xs.0, xs.1)) =
      ap (λ (z : Read NamedFile). z >>= λ x. from_here (count - (n + 1)) x.0.0 x.1 >>= λ xs. Some (x.0 ∷ xs.0, xs.1)) (sym e) in
      let one : with_front taken (from_here (count - n) (unwrap_or before []) rest) ≡ with_front (taken ++ f ∷ []) (from_here (count - (n + 1)) name after) =
      ap (λ (k : ℕ). with_front taken (from_here k (unwrap_or before []) rest)) m ∙ ap (with_front taken) read ∙ regroup taken f (from_here (count - (n + 1)) name after) in
      let same : more ≡ taken ++ f ∷ [] = g ∙ ap (λ (b : List ℕ). taken ++ (name, b) ∷ []) s in
      record { so_far = ap (λ (t : List NamedFile). with_front t (from_here (count - (n + 1)) name after)) same ∙ sym one ∙ h.so_far }

  pub taken_no_more : (n : ℕ) (before : Option (List ℕ)) (taken : List NamedFile) (rest : List ℕ)
      → n < count → ◌≡◌ {A = Read NamedFile} None (image_file_at (unwrap_or before []) rest) → HasTaken count bytes n before taken rest → ◌≡◌ {A = Read (List NamedFile)} None (image_files_at count bytes)
  taken_no_more n before taken rest lt e h =
      let m : count - n ≡ suc (count - (n + 1)) = omega arith in
      let read : from_here (suc (count - (n + 1))) (unwrap_or before []) rest ≡ None =
      ap (λ (z : Read NamedFile). z >>= λ x. from_here (count - (n + 1)) x.0.0 x.1 >>= λ xs. Some (x.0 ∷ xs.0, xs.1)) (sym e) in
      let one : with_front taken (from_here (count - n) (unwrap_or before []) rest) ≡ None = ap (λ (k : ℕ). with_front taken (from_here k (unwrap_or before []) rest)) m ∙ ap (with_front taken) read in
      sym one ∙ h.so_far

  pub taken_all : (n : ℕ) (before : Option (List ℕ)) (taken : List NamedFile) (rest : List ℕ)
      → count ≤ n → HasTaken count bytes n before taken rest → ◌≡◌ {A = Read (List NamedFile)} (Some (taken, rest)) (image_files_at count bytes)
  taken_all n before taken rest le h =
      let m : count - n ≡ 0 = omega arith in
      let one : with_front taken (from_here (count - n) (unwrap_or before []) rest) ≡ Some (taken, rest) =
      ap (λ (k : ℕ). with_front taken (from_here k (unwrap_or before []) rest)) m ∙ ap (λ (xs : List NamedFile). Some (xs, rest)) (append-nil taken) in
      sym one ∙ h.so_far
