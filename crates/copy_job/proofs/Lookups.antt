-- What a search among held files finds.
use Rattle.std.proofs.Common.{◌≡◌, ℕ, zero, suc, ◌<◌, ◌≤◌, Bool, true, false, List, [], ◌∷◌, length, get_or, Option, Some, None, Err, refl, sym, ap, subst, ◌∙◌, arith, true≢false, is_some}
use Rattle.std.proofs.Math.ListN.{get_or-map}
use Rattle.std.proofs.lemmas.List.{length-map}
use Rattle.std.specs.List.Sorted.{IsStrictlySortedBy, IsBinarySearchResult}
use Rattle.std.specs.Cmp.Lexicographic.{slice_cmp}
use Rattle.std.specs.Ordering.{nat_cmp, is_eq}
use Rattle.std.specs.declared.cmp.Ordering.TheVariants.{Less, Equal}
use Rattle.std.proofs.lemmas.Map.Entries.{lookup_head, lookup_tail}
use Rattle.std.proofs.lemmas.Map.Keys.{Less-from_sorted, sorted_tail}
use Rattle.std.proofs.lemmas.Map.Text.{is_eq-slice_cmp}
use Rattle.disk_model.specs.Disk.{Name, same}
use Rattle.disk_model.proofs.CellLemmas.{same_true, never_less}
use Rattle.file_deleter.proofs.NameLemmas.{same_self, found_nowhere, among-keys}
use Rattle.copy_state.specs.declared.meta.FileMetaData.{FileMetaData}
use Rattle.copy_state.specs.States.{meta_names, meta_in}
use Rattle.copy_job.proofs.Ascending.{search_names}

abbrev File : Type 0
File = Name × FileMetaData

size_of : (held : List File) → length (meta_names held) ≡ length held
size_of held = length-map held (λ (f : File). f.0)

name_at : (held : List File) (i : ℕ) (d : File) → get_or (meta_names held) i d.0 ≡ (get_or held i d).0
name_at held i d = get_or-map (λ (f : File). f.0) held i d

none_of : {X : Type 0} (o : Option X) → is_some o ≡ false → None ≡ o
none_of None e = refl
none_of (Some x) e = absurd (true≢false e)

pub found_none : (held : List File) (q : Name) (i : ℕ) → IsStrictlySortedBy (slice_cmp nat_cmp) (meta_names held) → i ≤ length held → IsBinarySearchResult (λ (f : File). slice_cmp nat_cmp f.0 q) held (Err i) → None ≡ meta_in held q
found_none held q i up low h = none_of (meta_in held q) (sym (among-keys held q) ∙ found_nowhere (meta_names held) q i up (search_names (λ (f : File). f.0) q held i low h))

equal_names : (a q : Name) → slice_cmp nat_cmp a q ≡ Equal → a ≡ q
equal_names a q e = same_true a q (sym (is_eq-slice_cmp a q) ∙ ap is_eq e)

pub found_there : (held : List File) (q : Name) (i : ℕ) (d : File) → IsStrictlySortedBy (slice_cmp nat_cmp) (meta_names held) → i < length held → slice_cmp nat_cmp (get_or held i d).0 q ≡ Equal
    → Some (get_or held i d).1 ≡ meta_in held q
found_there [] q i d up lt e = absurd (omega (arith, lt))
found_there (f ∷ fs) q zero d up lt e = sym (lookup_head (same q) f fs (subst (λ (n : Name). same n f.0 ≡ true) (equal_names f.0 q e) (same_self f.0)))
found_there (f ∷ fs) q (suc i) d up lt e = found_there fs q i d (sorted_tail (slice_cmp nat_cmp) f.0 (meta_names fs) up) (omega (arith, lt)) e ∙ sym (lookup_tail (same q) f fs (apart (same q f.0) refl))
  where
    first : slice_cmp nat_cmp f.0 (get_or fs i d).0 ≡ Less
    first = subst (λ (n : Name). slice_cmp nat_cmp f.0 n ≡ Less) (name_at fs i d) (Less-from_sorted (slice_cmp nat_cmp) (meta_names (f ∷ fs)) zero (suc i) d.0 up (omega arith) (omega (arith, lt, size_of fs)))

    apart : (b : Bool) → same q f.0 ≡ b → same q f.0 ≡ false
    apart false h = h
    apart true h =
        let low : slice_cmp nat_cmp f.0 q ≡ Less = subst (λ (n : Name). slice_cmp nat_cmp f.0 n ≡ Less) (equal_names (get_or fs i d).0 q e) first in
        absurd (never_less q (subst (λ (n : Name). slice_cmp nat_cmp n q ≡ Less) (sym (same_true q f.0 h)) low))
