-- Places of rows in the order of keys, by the entries of keys.
use Rattle.std.proofs.Common.{◌≡◌, ℕ, zero, suc, ◌+◌, ◌-◌, ◌<◌, ◌≤◌, List, [], ◌∷◌, ◌++◌, length, take, get_or, set, length-set, get_or-set_same, get_or-set_other, Bool, true, false, Option, Some, None, refl, sym, ap, subst, ◌∙◌, inl, inr, arith}
use Rattle.std.proofs.lemmas.Bool.{cases_eq, cases_lt}
use Rattle.std.specs.Prelude.{◌⊎◌, slice_get}
use Rattle.std.specs.List.{AllPairs}
use Rattle.std.specs.Ordering.{ordering_reverse}
use Rattle.std.specs.Cmp.{nat_cmp_is}
use Rattle.std.specs.declared.cmp.Ordering.{Ordering}
use Rattle.std.specs.declared.cmp.Ordering.TheVariants.{Less, Equal, Greater}
use Rattle.std.proofs.lemmas.Cmp.{nat_list_cmp_total}
use Rattle.nrt_base.specs.declared.doc.Doc.{Doc}
use Rattle.documents.specs.Documents.{key_cmp}
use Rattle.postings_plain.specs.Postings.{Entry}
use Rattle.postings_plain.specs.Body.{IsBefore, heading_of, heading_order}
use Rattle.postings_plain.specs.Reading.{at_place, no_entry}
use Rattle.seg_reader.specs.Placing.{place_in, IsPlacing, GivesPlace}

-- a known place is one above that of an entry of the row's key, among so many
abbrev pub IsByEntries : List Entry → List Doc → (count : ℕ) → List ℕ → Type 0
IsByEntries es docs count places =
    (row : ℕ) (doc : Doc) → slice_get docs row ≡ Some doc → 0 < place_in places row
    → (place_in places row ≤ count) × (heading_of (at_place es (place_in places row - 1)) ≡ 0 ∷ doc.key)

pub gives_none : (docs : List Doc) (key : List ℕ) (place : ℕ) (places : List ℕ) → GivesPlace docs key place places places
gives_none docs key place places row doc is = inl refl

pub gives_more : (docs : List Doc) (key : List ℕ) (place : ℕ) (old now new : List ℕ) → GivesPlace docs key place old now → GivesPlace docs key place now new → GivesPlace docs key place old new
gives_more docs key place old now new a b row doc is = elim (b row doc is) [
  | inl same ↦ elim (a row doc is) [
    | inl before ↦ inl (same ∙ before)
    | inr given ↦ inr (same ∙ given.0, given.1)
  ]
  | inr given ↦ inr given
]

some_doc : (o : Option Doc) (d e : Doc) → o ≡ Some d → o ≡ Some e → d ≡ e
some_doc o d e p q = cc

-- a row was given the place, whose key is so
pub gives_row : (docs : List Doc) (key : List ℕ) (place row : ℕ) (old new : List ℕ) → new ≡ set old row place → row < length old → ((doc : Doc) → slice_get docs row ≡ Some doc → doc.key ≡ key)
    → GivesPlace docs key place old new
gives_row docs key place row old new put lt has x doc is = elim (cases_eq x row) [
  | inl same ↦ inr (
    subst (λ (n : ℕ). place_in new n ≡ place) (sym same) (ap (λ (ps : List ℕ). get_or ps row 0) put ∙ get_or-set_same old row place 0 lt),
    has doc (subst (λ (n : ℕ). slice_get docs n ≡ Some doc) same is),
  )
  | inr apart ↦ inl (ap (λ (ps : List ℕ). get_or ps x 0) put ∙ get_or-set_other old row x place 0 apart)
]

pub by_none : (es : List Entry) (docs : List Doc) (places : List ℕ) → ((row : ℕ) → place_in places row ≡ 0) → IsByEntries es docs 0 places
by_none es docs places zeros row doc is known = absurd (let z = zeros row in omega (arith, z, known))

pub by_more : (es : List Entry) (docs : List Doc) (count : ℕ) (key : List ℕ) (old new : List ℕ) → heading_of (at_place es count) ≡ 0 ∷ key → IsByEntries es docs count old
    → GivesPlace docs key (count + 1) old new → IsByEntries es docs (count + 1) new
by_more es docs count key old new heading k gives row doc is known = elim (gives row doc is) [
  | inl same ↦
      let here = k row doc is (omega (arith, same, known)) in
      let few = here.0 in (
        omega (arith, few, same),
        ap (λ (n : ℕ). heading_of (at_place es (n - 1))) same ∙ here.1,
      )
  | inr given ↦
      let at = given.0 in
      let one : place_in new row - 1 ≡ count = omega (arith, at) in (
        omega (arith, at),
        ap (λ (n : ℕ). heading_of (at_place es n)) one ∙ heading ∙ ap (λ (k : List ℕ). 0 ∷ k) (sym given.1),
      )
]

abbrev tail_of : List ℕ → List ℕ
tail_of [] = []
tail_of (x ∷ xs) = xs

same_key : (key : List ℕ) → key_cmp key key ≡ Equal
same_key key = by_case (key_cmp key key) refl
  where
    by_case : (o : Ordering) → key_cmp key key ≡ o → key_cmp key key ≡ Equal
    by_case Less e = let bad : Less ≡ Greater = sym e ∙ nat_list_cmp_total.antisymm key key ∙ ap ordering_reverse e in absurd cc
    by_case Equal e = e
    by_case Greater e = let bad : Greater ≡ Less = sym e ∙ nat_list_cmp_total.antisymm key key ∙ ap ordering_reverse e in absurd cc

-- of two entries the one before has the lesser key
ascending : (es : List Entry) (m n : ℕ) (key other : List ℕ) → AllPairs IsBefore es → m < n → n < length es → heading_of (at_place es m) ≡ 0 ∷ key → heading_of (at_place es n) ≡ 0 ∷ other → key_cmp key other ≡ Less
ascending es m n key other ascend lt few here there =
    sym (ap (λ (h : List ℕ). heading_order h (0 ∷ other)) here) ∙ sym (ap (heading_order (heading_of (at_place es m))) there) ∙ ascend m n no_entry lt few

-- entries ascend, so places are in the order of keys
pub placing : (es : List Entry) (docs : List Doc) (count : ℕ) (places : List ℕ) → AllPairs IsBefore es → count ≤ length es → IsByEntries es docs count places → IsPlacing docs places
placing es docs count places ascend few k a b d e at_a at_b known other =
    let x = k a d at_a known in
    let y = k b e at_b other in
    let i = place_in places a in
    let j = place_in places b in
    let up = x.0 in
    let up' = y.0 in
    elim (cases_lt i j) [
      | inl lt ↦ ascending es (i - 1) (j - 1) d.key e.key ascend (omega (arith, lt, known)) (omega (arith, other, up', few)) x.1 y.1 ∙ nat_cmp_is i j Less lt
      | inr ge ↦ elim (cases_lt j i) [
        | inl lt ↦
            let less = ascending es (j - 1) (i - 1) e.key d.key ascend (omega (arith, lt, other)) (omega (arith, known, up, few)) y.1 x.1 in
            nat_list_cmp_total.antisymm d.key e.key ∙ ap ordering_reverse less ∙ nat_cmp_is i j Greater lt
        | inr le ↦
            let same : i ≡ j = omega (arith, ge, le) in
            let keys : d.key ≡ e.key = ap tail_of (sym x.1 ∙ ap (λ (n : ℕ). heading_of (at_place es (n - 1))) same ∙ y.1) in
            ap (λ (w : List ℕ). key_cmp d.key w) (sym keys) ∙ same_key d.key ∙ nat_cmp_is i j Equal same
      ]
    ]

pub whole : (n : ℕ) (xs ys : List ℕ) → length xs ≡ n → xs ≡ take n (xs ++ ys)
whole zero [] ys e = refl
whole zero (x ∷ xs) ys e = absurd (omega (arith, e))
whole (suc n) [] ys e = absurd (omega (arith, e))
whole (suc n) (x ∷ xs) ys e = ap (λ (l : List ℕ). x ∷ l) (whole n xs ys (omega (arith, e)))
