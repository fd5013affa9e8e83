-- A directory that shows a commit whose files are there, and whose segments read, opens.
use Rattle.std.proofs.Common.{◌≡◌, ◌⊎◌, ℕ, zero, true, List, [], ◌∷◌, None, is_some, refl, sym, ap, subst, ◌∙◌, arith, inl, inr}
use Rattle.std.specs.Prelude.{◌↔◌}
use Rattle.std.specs.List.{Contains, AllByRecursion, flat_map}
use Rattle.std.specs.List.Sorted.{IsStrictlySortedBy}
use Rattle.std.specs.BTreeSet.{insert_key}
use Rattle.std.specs.Cmp.Lexicographic.{slice_cmp}
use Rattle.std.specs.Ordering.{nat_cmp, ordering_reverse, match_ordering}
use Rattle.std.specs.declared.cmp.Ordering.{Ordering}
use Rattle.std.specs.declared.cmp.Ordering.TheVariants.{Less, Equal, Greater}
use Rattle.std.proofs.lemmas.Cmp.{nat_list_cmp_total}
use Rattle.std.proofs.lemmas.Map.Lookups.{exact_bytes}
use Rattle.nrt_base.proofs.Plain.{contains_later, contains_cases, sorted_none}
use Rattle.disk_model.specs.Disk.{Name, Image, first_missing}
use Rattle.segment_infos.specs.Files.{files_of_segment}
use Rattle.segment_infos.specs.declared.infos.Infos.{Infos}
use Rattle.seg_reader.specs.Shown.{Shown}
use Rattle.commit_steps.specs.Found.{ShowsCommit}
use Rattle.replica_opening.specs.Readers.{AreReaders}
use Rattle.replica_opening.specs.Opening.{OpensCommit}

abbrev order : Name → Name → Ordering
order = slice_cmp nat_cmp

contains_here : (x : Name) (xs : List Name) → Contains (x ∷ xs) x
contains_here x xs = (zero, omega arith, refl)

-- ---- names in ascending order, each once

all_placed : (P : Name → Type 0) (x : Name) (ys : List Name) → AllByRecursion P ys → P x → AllByRecursion P (insert_key order ys x)
all_placed P x [] all here = (here, tt)
all_placed P x (y ∷ ys) all here = by (order x y) (all_placed P x ys all.1 here)
  where
    by : (r : Ordering) → AllByRecursion P (insert_key order ys x) → AllByRecursion P (match_ordering r (x ∷ y ∷ ys) (y ∷ ys) (y ∷ insert_key order ys x))
    by Less rest = (here, all)
    by Equal rest = all
    by Greater rest = (all.0, rest)

all_above : (x y : Name) (zs : List Name) → order x y ≡ Less → AllByRecursion (λ z. order y z ≡ Less) zs → AllByRecursion (λ z. order x z ≡ Less) zs
all_above x y [] lt all = tt
all_above x y (z ∷ zs) lt all = (nat_list_cmp_total.trans x y z lt all.0, all_above x y zs lt all.1)

placed_ascends : (x : Name) (ys : List Name) → IsStrictlySortedBy order ys → IsStrictlySortedBy order (insert_key order ys x)
unfolding IsStrictlySortedBy
placed_ascends x [] up = (tt, tt)
placed_ascends x (y ∷ ys) up = by (order x y) refl (placed_ascends x ys up.1)
  where
    by : (r : Ordering) → order x y ≡ r → IsStrictlySortedBy order (insert_key order ys x) → IsStrictlySortedBy order (match_ordering r (x ∷ y ∷ ys) (y ∷ ys) (y ∷ insert_key order ys x))
    by Less e rest = ((e, all_above x y ys e up.0), up)
    by Equal e rest = up
    by Greater e rest = (all_placed (λ z. order y z ≡ Less) x ys up.0 (nat_list_cmp_total.antisymm y x ∙ ap ordering_reverse e), rest)

placed_here : (x : Name) (ys : List Name) → Contains (insert_key order ys x) x
placed_here x [] = contains_here x []
placed_here x (y ∷ ys) = by (order x y) refl (placed_here x ys)
  where
    by : (r : Ordering) → order x y ≡ r → Contains (insert_key order ys x) x → Contains (match_ordering r (x ∷ y ∷ ys) (y ∷ ys) (y ∷ insert_key order ys x)) x
    by Less e rest = contains_here x (y ∷ ys)
    by Equal e rest = subst (Contains (y ∷ ys)) (sym (exact_bytes x y e)) (contains_here y ys)
    by Greater e rest = contains_later y x (insert_key order ys x) rest

placed_keeps : (x q : Name) (ys : List Name) → Contains ys q → Contains (insert_key order ys x) q
placed_keeps x q [] h = contains_later x q [] h
placed_keeps x q (y ∷ ys) h = by (order x y) (contains_cases y q ys h) (placed_keeps x q ys)
  where
    by : (r : Ordering) → (y ≡ q) ⊎ Contains ys q → (Contains ys q → Contains (insert_key order ys x) q) → Contains (match_ordering r (x ∷ y ∷ ys) (y ∷ ys) (y ∷ insert_key order ys x)) q
    by Less cases rest = contains_later x q (y ∷ ys) h
    by Equal cases rest = h
    by Greater (inl e) rest = subst (Contains (y ∷ insert_key order ys x)) e (contains_here y (insert_key order ys x))
    by Greater (inr later) rest = contains_later y q (insert_key order ys x) (rest later)

placed_only : (x q : Name) (ys : List Name) → Contains (insert_key order ys x) q → (x ≡ q) ⊎ Contains ys q
placed_only x q [] h = contains_cases x q [] h
placed_only x q (y ∷ ys) h = by (order x y) (placed_only x q ys) h
  where
    behind : (x ≡ q) ⊎ Contains ys q → (x ≡ q) ⊎ Contains (y ∷ ys) q
    behind (inl e) = inl e
    behind (inr later) = inr (contains_later y q ys later)

    by : (r : Ordering) → (Contains (insert_key order ys x) q → (x ≡ q) ⊎ Contains ys q) → Contains (match_ordering r (x ∷ y ∷ ys) (y ∷ ys) (y ∷ insert_key order ys x)) q → (x ≡ q) ⊎ Contains (y ∷ ys) q
    by Less rest has = contains_cases x q (y ∷ ys) has
    by Equal rest has = inr has
    by Greater rest has = elim (contains_cases y q (insert_key order ys x) has) [ inl e ↦ inr (subst (Contains (y ∷ ys)) e (contains_here y ys)) | inr later ↦ behind (rest later) ]

-- the names of any list, in ascending order and each once
pub record AreNamed (all names : List Name) : Type 0 where
  pub ascending : IsStrictlySortedBy order names
  pub named : (q : Name) → Contains names q ↔ Contains all q

pub names_of : (all : List Name) → (names : List Name) × AreNamed all names
names_of [] = ([], record { ascending = sorted_none order; named = λ q. (λ h. h, λ h. h) })
names_of (x ∷ all) =
    let rest = names_of all in
    let into : (q : Name) → (x ≡ q) ⊎ Contains rest.0 q → Contains (x ∷ all) q = λ q cases. elim cases [ inl e ↦ subst (Contains (x ∷ all)) e (contains_here x all) | inr later ↦ contains_later x q all ((rest.1.named q).0 later) ] in
    let out : (q : Name) → (x ≡ q) ⊎ Contains all q → Contains (insert_key order rest.0 x) q = λ q cases. elim cases [ inl e ↦ subst (Contains (insert_key order rest.0 x)) e (placed_here x rest.0) | inr later ↦ placed_keeps x q rest.0 ((rest.1.named q).1 later) ] in
    (insert_key order rest.0 x, record { ascending = placed_ascends x rest.0 rest.1.ascending; named = λ q. (λ h. into q (placed_only x q rest.0 h), λ h. out q (contains_cases x q all h)) })

-- ---- a commit whose files are there

none_lacking : (image : Image) (names : List Name) → ((q : Name) → Contains names q → is_some (image q) ≡ true) → first_missing image names ≡ None
none_lacking image [] there = refl
none_lacking image (x ∷ names) there = rw (there x (contains_here x names)) (none_lacking image names (λ q h. there q (contains_later x q names h)))

pub opens_commit : (image : Image) (number : ℕ) (infos : Infos) (segs : List Shown) → ShowsCommit image number infos → ((q : Name) → Contains (flat_map files_of_segment infos.segs) q → is_some (image q) ≡ true) → AreReaders image infos.segs segs → OpensCommit image
opens_commit image number infos segs shown there read =
    let names = names_of (flat_map files_of_segment infos.segs) in
    record {
      number = number;
      infos = infos;
      whole = record {
        shown = shown;
        files = names.0;
        named = record { ascending = names.1.ascending; named = names.1.named };
        there = none_lacking image names.0 (λ q h. there q ((names.1.named q).0 h));
      };
      segs = segs;
      read = read;
    }
