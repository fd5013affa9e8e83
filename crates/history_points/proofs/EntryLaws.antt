-- Two lists of entries in order of key are one where each key finds the same in both.
use Rattle.std.proofs.Common.{◌≡◌, ℕ, List, [], ◌∷◌, Bool, true, false, Option, Some, None, cond, refl, sym, ap, ◌∙◌}
use Rattle.std.specs.Prelude.{unwrap_or}
use Rattle.std.specs.Cmp.Lexicographic.{nat_list_cmp_total, texts_ties}
use Rattle.std.specs.List.{AllByRecursion}
use Rattle.std.specs.List.Sorted.{IsStrictlySortedBy}
use Rattle.std.specs.Map.{lookup, keys_of}
use Rattle.std.specs.BTreeMap.{is_at}
use Rattle.std.specs.Ordering.{ordering_reverse}
use Rattle.std.specs.declared.cmp.Ordering.{Ordering}
use Rattle.std.specs.declared.cmp.Ordering.TheVariants.{Less, Equal, Greater}
use Rattle.std.proofs.lemmas.Cmp.{nat_list_eq_equiv}
use Rattle.std.proofs.lemmas.Map.Keys.{sorted_head, sorted_tail}
use Rattle.std.proofs.lemmas.Map.Lookups.{exact_bytes}
use Rattle.std.proofs.lemmas.Slice.Eq.{bytes_eq-Decides}
use Rattle.documents.specs.Documents.{key_cmp}

abbrev Entries : Type 0
Entries = List (List ℕ × ℕ)

abbrev found : Entries → List ℕ → Option ℕ
found entries key = lookup (is_at (key_cmp key)) entries

-- a key is the same as itself
pub at_itself : (key : List ℕ) → is_at (key_cmp key) key ≡ true
at_itself key = sym (texts_ties key key) ∙ nat_list_eq_equiv.refl key

-- keys that are the same are equal
pub at_equal : (a b : List ℕ) → is_at (key_cmp a) b ≡ true → a ≡ b
at_equal a b e = (bytes_eq-Decides a b).0 (texts_ties a b ∙ e)

found-head : (e : List ℕ × ℕ) (entries : Entries) → found (e ∷ entries) e.0 ≡ Some e.1
found-head e entries = ap (λ (b : Bool). cond b (Some e.1) (found entries e.0)) (at_itself e.0)

all_above : (a b : List ℕ) (keys : List (List ℕ)) → key_cmp a b ≡ Less → AllByRecursion (λ k. key_cmp b k ≡ Less) keys → AllByRecursion (λ k. key_cmp a k ≡ Less) keys
all_above a b [] less above = tt
all_above a b (k ∷ keys) less above = (nat_list_cmp_total.trans a b k less above.0, all_above a b keys less above.1)

none_above : (key : List ℕ) (entries : Entries) → AllByRecursion (λ k. key_cmp key k ≡ Less) (keys_of entries) → found entries key ≡ None
none_above key [] above = refl
none_above key (e ∷ entries) above = rw above.0 (none_above key entries above.1)

none_from : (key : List ℕ) (e : List ℕ × ℕ) (entries : Entries) → key_cmp key e.0 ≡ Less → IsStrictlySortedBy key_cmp (keys_of (e ∷ entries)) → found (e ∷ entries) key ≡ None
none_from key e entries less sorted = none_above key (e ∷ entries) (less, all_above key e.0 (keys_of entries) less (sorted_head key_cmp e.0 (keys_of entries) sorted))

-- behind the first entry its key is not found again
none_behind : (e : List ℕ × ℕ) (entries : Entries) (key : List ℕ) → key ≡ e.0 → IsStrictlySortedBy key_cmp (keys_of (e ∷ entries)) → found entries key ≡ None
none_behind e entries key same sorted = ap (found entries) same ∙ none_above e.0 entries (sorted_head key_cmp e.0 (keys_of entries) sorted)

found-behind : (x y : List ℕ × ℕ) (xs ys : Entries) → IsStrictlySortedBy key_cmp (keys_of (x ∷ xs)) → IsStrictlySortedBy key_cmp (keys_of (y ∷ ys)) → x.0 ≡ y.0
    → ((key : List ℕ) → found (x ∷ xs) key ≡ found (y ∷ ys) key) → (key : List ℕ) → found xs key ≡ found ys key
found-behind x y xs ys s t same both key = by_test (is_at (key_cmp key) x.0) refl
  where
    by_test : (b : Bool) → is_at (key_cmp key) x.0 ≡ b → found xs key ≡ found ys key
    by_test true e =
        let here : key ≡ x.0 = at_equal key x.0 e in
        none_behind x xs key here s ∙ sym (none_behind y ys key (here ∙ same) t)
    by_test false e =
        let e' : is_at (key_cmp key) y.0 ≡ false = ap (λ (k : List ℕ). is_at (key_cmp key) k) (sym same) ∙ e in
        sym (ap (λ (b : Bool). cond b (Some x.1) (found xs key)) e) ∙ both key ∙ ap (λ (b : Bool). cond b (Some y.1) (found ys key)) e'

same_heads : (x y : List ℕ × ℕ) (xs ys : Entries) → x.0 ≡ y.0 → x.1 ≡ y.1 → xs ≡ ys → ◌≡◌ {A = Entries} (x ∷ xs) (y ∷ ys)
same_heads x y xs ys key value rest = λ i. (key i, value i) ∷ rest i

-- each list is the other one
pub same_entries : (xs ys : Entries) → IsStrictlySortedBy key_cmp (keys_of xs) → IsStrictlySortedBy key_cmp (keys_of ys) → ((key : List ℕ) → found xs key ≡ found ys key) → xs ≡ ys
same_entries [] [] s t both = refl
same_entries [] (y ∷ ys) s t both = let bad : ◌≡◌ {A = Option ℕ} None (Some y.1) = both y.0 ∙ found-head y ys in absurd cc
same_entries (x ∷ xs) [] s t both = let bad : ◌≡◌ {A = Option ℕ} (Some x.1) None = sym (found-head x xs) ∙ both x.0 in absurd cc
same_entries (x ∷ xs) (y ∷ ys) s t both =
    by_order (key_cmp x.0 y.0) refl (same_entries xs ys (sorted_tail key_cmp x.0 (keys_of xs) s) (sorted_tail key_cmp y.0 (keys_of ys) t))
  where
    by_order : (o : Ordering) → key_cmp x.0 y.0 ≡ o → (((key : List ℕ) → found xs key ≡ found ys key) → xs ≡ ys) → ◌≡◌ {A = Entries} (x ∷ xs) (y ∷ ys)
    by_order Less e rest =
        let bad : ◌≡◌ {A = Option ℕ} (Some x.1) None = sym (found-head x xs) ∙ both x.0 ∙ none_from x.0 y ys e t in
        absurd cc
    by_order Greater e rest =
        let less : key_cmp y.0 x.0 ≡ Less = nat_list_cmp_total.antisymm y.0 x.0 ∙ ap ordering_reverse e in
        let bad : ◌≡◌ {A = Option ℕ} (Some y.1) None = sym (found-head y ys) ∙ sym (both y.0) ∙ none_from y.0 x xs less s in
        absurd cc
    by_order Equal e rest =
        let same : x.0 ≡ y.0 = exact_bytes x.0 y.0 e in
        let value : x.1 ≡ y.1 =
        ap (λ (o : Option ℕ). unwrap_or o x.1) (sym (found-head x xs) ∙ both x.0 ∙ ap (found (y ∷ ys)) same ∙ found-head y ys) in
        same_heads x y xs ys same value (rest (found-behind x y xs ys s t same both))
