-- The first 20 of hits, with one more of them.
use Rattle.std.proofs.Common.{◌≡◌, ℕ, zero, suc, ◌+◌, ◌≤◌, ◌<◌, List, [], ◌∷◌, ◌++◌, length, map, take, get_or, if◌then◌else◌, true, false, Bool, Bor, Option, Some, None, inl, inr, refl, sym, ap, subst, ◌∙◌, arith}
use Rattle.std.specs.List.{All, slice_get}
use Rattle.std.specs.List.Sorted.{IsSorted}
use Rattle.std.specs.Map.{keys_of}
use Rattle.std.specs.Map.Iter.{TakesFirst, deref_pair}
use Rattle.std.specs.Iterator.{Yields}
use Rattle.std.specs.BTreeMap.{BTreeMap, IsOrdered}
use Rattle.std.specs.Cmp.Lexicographic.{nat_list_cmp_total}
use Rattle.std.specs.Ordering.{is_lt, is_le, ordering_then}
use Rattle.std.specs.declared.cmp.Ordering.{Ordering}
use Rattle.std.specs.declared.cmp.Ordering.TheVariants.{Less, Equal, Greater}
use Rattle.std.proofs.lemmas.Bool.{cases_lt}
use Rattle.std.proofs.lemmas.List.{length-take, length_push, get_or-take, get_or_default, get_or_append_left, get_or-append-add, length-append, take-append-le, take-take, take_all}
use Rattle.std.proofs.lemmas.List.Elements.{All-nil, All-cons, All-head, All-tail, All-take}
use Rattle.std.proofs.lemmas.Map.Iter.{iter_turn, iter_end, btree_map_turn}
use Rattle.nrt_base.proofs.Plain.{All-item}
use Rattle.documents.specs.declared.answer.Hit.{Hit}
use Rattle.documents.specs.Documents.{key_cmp}
use Rattle.documents.specs.InOrder.{with_item, in_order}
use Rattle.documents.specs.Ranking.{hit_cmp}
use Rattle.documents.proofs.InOrderLemmas.{hit_cmp_total, hit_ties, in_order-sorted, not_behind, with_two}
use Rattle.history_points.specs.Kept.{AreFirst, AreKeysBelow, ranked_hit}

abbrev with_hit : List Hit → Hit → List Hit
with_hit hits hit = with_item hit_cmp hits hit

-- one more hit comes to its place
in_order-more : (hits : List Hit) (hit : Hit) → in_order hit_cmp (hits ++ hit ∷ []) ≡ with_hit (in_order hit_cmp hits) hit
in_order-more [] hit = refl
in_order-more (h ∷ hits) hit =
    ap (λ (hs : List Hit). with_hit hs h) (in_order-more hits hit) ∙ with_two hit_cmp hit_cmp_total hit_ties (in_order hit_cmp hits) hit h

-- of the first items and one more, as many are the first of all and that one
first-with_item : {X : Type 0} (cmp : X → X → Ordering) (n : ℕ) (items : List X) (item : X) → take n (with_item cmp (take n items) item) ≡ take n (with_item cmp items item)
first-with_item cmp zero items item = refl
first-with_item cmp (suc n) [] item = refl
first-with_item {X} cmp (suc n) (x ∷ items) item = by_test (is_lt (cmp x item)) refl (first-with_item cmp n items item)
  where
    by_test : (b : Bool) → is_lt (cmp x item) ≡ b → take n (with_item cmp (take n items) item) ≡ take n (with_item cmp items item)
        → take (suc n) (with_item cmp (x ∷ take n items) item) ≡ take (suc n) (with_item cmp (x ∷ items) item)
    by_test true e same = rw e (ap (λ (xs : List X). x ∷ xs) same)
    by_test false e same = rw e (ap (λ (xs : List X). item ∷ xs) (take-take n (suc n) (x ∷ items) (omega arith)))

-- the first 20 with one more hit are those of all with it
first_more : (hits best : List Hit) (hit : Hit) → AreFirst hits best → take 20 (in_order hit_cmp (hits ++ hit ∷ [])) ≡ take 20 (in_order hit_cmp (best ++ hit ∷ []))
first_more hits best hit are =
    let all = in_order hit_cmp hits in
    ap (take 20) (in_order-more hits hit) ∙ sym (first-with_item hit_cmp 20 all hit)
    ∙ ap (λ (hs : List Hit). take 20 (with_hit hs hit)) (sym are.first ∙ sym (in_order-sorted hit_cmp hit_cmp_total hit_ties best are.sorted))
    ∙ ap (take 20) (sym (in_order-more best hit))

pub take_sorted : (n : ℕ) (hits : List Hit) → IsSorted hit_cmp hits → IsSorted hit_cmp (take n hits)
take_sorted n hits sorted k d low less =
    let size = length-take n hits in
    ap (λ (h : Hit). is_lt (hit_cmp h (get_or (take n hits) k d))) (get_or-take n hits (k + 1) d (omega (arith, less, size)))
    ∙ ap (λ (h : Hit). is_lt (hit_cmp (get_or hits (k + 1) d) h)) (get_or-take n hits k d (omega (arith, less, size))) ∙ sorted k d low (omega (arith, less, size))

-- one more hit is taken in
pub first_taken : (hits best pushed left : List Hit) (hit : Hit) → AreFirst hits best → pushed ≡ best ++ hit ∷ [] → left ≡ take 20 (in_order hit_cmp pushed) → IsSorted hit_cmp left
    → AreFirst (hits ++ hit ∷ []) left
first_taken hits best pushed left hit are put first up = record {
  first = first ∙ ap (λ (hs : List Hit). take 20 (in_order hit_cmp hs)) put ∙ sym (first_more hits best hit are);
  sorted = up;
}

-- ---- a hit behind 20

behind_sorted : (best : List Hit) (hit last : Hit) (n : ℕ) → length best ≡ n + 1 → last ≡ get_or best n last → is_lt (hit_cmp last hit) ≡ true → IsSorted hit_cmp best → IsSorted hit_cmp (best ++ hit ∷ [])
behind_sorted best hit last n size item before sorted k d low less =
    let long = length-append best (hit ∷ []) in
    elim (cases_lt (k + 1) (length best)) [
      | inl within ↦
          ap (λ (h : Hit). is_lt (hit_cmp h (get_or (best ++ hit ∷ []) k d))) (get_or_append_left best (hit ∷ []) d (k + 1) within)
          ∙ ap (λ (h : Hit). is_lt (hit_cmp (get_or best (k + 1) d) h)) (get_or_append_left best (hit ∷ []) d k (omega (arith, within)))
          ∙ sorted k d low within
      | inr past ↦
          let here : k + 1 ≡ length best + 0 = omega (arith, past, less, long) in
          let place : k ≡ n = omega (arith, here, size) in
          let newest : get_or (best ++ hit ∷ []) (k + 1) d ≡ hit =
          ap (λ (i : ℕ). get_or (best ++ hit ∷ []) i d) here ∙ get_or-append-add best (hit ∷ []) 0 d in
          let one : get_or (best ++ hit ∷ []) k d ≡ last =
          get_or_append_left best (hit ∷ []) d k (omega (arith, place, size)) ∙ ap (λ (i : ℕ). get_or best i d) place
          ∙ get_or_default best n d last (omega (arith, size)) ∙ sym item in
          ap (λ (h : Hit). is_lt (hit_cmp h (get_or (best ++ hit ∷ []) k d))) newest ∙ ap (λ (h : Hit). is_lt (hit_cmp hit h)) one
          ∙ not_behind hit_cmp hit_cmp_total last hit before
    ]

-- where 20 stand before a hit they stay the first
pub first_stay : (hits best : List Hit) (hit last : Hit) → 20 ≤ length best → last ≡ get_or best 19 last → is_lt (hit_cmp last hit) ≡ true → AreFirst hits best → AreFirst (hits ++ hit ∷ []) best
first_stay hits best hit last few item before are =
    let most : length best ≤ 20 = let size = ap (λ (hs : List Hit). length hs) are.first in let taken = length-take 20 (in_order hit_cmp hits) in omega (arith, size, taken) in
    let size : length best ≡ 19 + 1 = omega (arith, few, most) in
    let up = behind_sorted best hit last 19 size item before are.sorted in
    record {
      first =
          sym (take_all 20 best most) ∙ sym (take-append-le 20 best (hit ∷ []) few)
          ∙ ap (take 20) (sym (in_order-sorted hit_cmp hit_cmp_total hit_ties (best ++ hit ∷ []) up)) ∙ sym (first_more hits best hit are);
      sorted = are.sorted;
    }

-- of no hits there is none
pub none_first : (best : List Hit) → best ≡ [] → AreFirst [] best
none_first best none = record { first = none; sorted = subst (IsSorted hit_cmp) (sym none) (λ k d low less. absurd (omega (arith, less))) }

-- ---- hits in ascending order of key

-- a hit of no lower rank and of a lesser key stands before
pub before_by : (by_rank by_key : Ordering) → is_le by_rank ≡ true → by_key ≡ Less → is_lt (ordering_then by_rank by_key) ≡ true
before_by Less by_key low less = refl
before_by Equal by_key low less = ap is_lt less
before_by Greater by_key low less = absurd cc

all-with_hit : (P : Hit → Type 0) (hits : List Hit) (hit : Hit) → All P hits → P hit → All P (with_hit hits hit)
all-with_hit P [] hit all p = All-cons P hit [] p all
all-with_hit P (h ∷ hits) hit all p =
    elim (is_lt (hit_cmp h hit)) as (λ b. All P (if b then h ∷ with_hit hits hit else hit ∷ h ∷ hits)) [
      | true ↦ All-cons P h (with_hit hits hit) (All-head P h hits all) (all-with_hit P hits hit (All-tail P h hits all) p)
      | false ↦ All-cons P hit (h ∷ hits) p all
    ]

all-in_order : (P : Hit → Type 0) (hits : List Hit) → All P hits → All P (in_order hit_cmp hits)
all-in_order P [] all = all
all-in_order P (h ∷ hits) all = all-with_hit P (in_order hit_cmp hits) h (all-in_order P hits (All-tail P h hits all)) (All-head P h hits all)

-- the last of the first 20 has a key below, too
pub last_below : (hits best : List Hit) (last : Hit) (key : List ℕ) → AreFirst hits best → AreKeysBelow key hits → 20 ≤ length best → last ≡ get_or best 19 last → key_cmp last.key key ≡ Less
last_below hits best last key are below few item =
    let is_below : Hit → Type 0 = λ h. key_cmp h.key key ≡ Less in
    All-item is_below best 19 last (subst (All is_below) (sym are.first) (All-take is_below 20 (in_order hit_cmp hits) (all-in_order is_below hits below))) (omega (arith, few)) item

below_taken : (entries : List (List ℕ × ℕ)) (n : ℕ) (key : List ℕ) → ((i : ℕ) (d : List ℕ) → i < n → key_cmp (get_or (keys_of entries) i d) key ≡ Less) → n ≤ length entries
    → AreKeysBelow key (map ranked_hit (take n entries))
below_taken entries zero key below low = All-nil (λ h. key_cmp h.key key ≡ Less)
below_taken [] (suc n) key below low = absurd (omega (arith, low))
below_taken (e ∷ entries) (suc n) key below low =
    All-cons (λ h. key_cmp h.key key ≡ Less) (ranked_hit e) (map ranked_hit (take n entries)) (below 0 [] (omega arith))
    (below_taken entries n key (λ i d less. below (suc i) d (omega (arith, less))) (omega (arith, low)))

taken_next : (entries : List (List ℕ × ℕ)) (n : ℕ) (e : List ℕ × ℕ) → slice_get entries n ≡ Some e → map ranked_hit (take (suc n) entries) ≡ map ranked_hit (take n entries) ++ ranked_hit e ∷ []
taken_next [] n e is = absurd cc
taken_next (x ∷ entries) zero e is = let same : x ≡ e = cc in ap (λ (y : List ℕ × ℕ). ranked_hit y ∷ []) same
taken_next (x ∷ entries) (suc n) e is = ap (λ (hs : List Hit). ranked_hit x ∷ hs) (taken_next entries n e is)

-- the hits of ranks that a walk has passed, with the next one
pub passed_next : (passed : List (Bor (List ℕ) × Bor ℕ)) (s t u : List (List ℕ × ℕ)) (r : Option (Bor (List ℕ) × Bor ℕ)) (next : Bor (List ℕ) × Bor ℕ) (best more : List Hit) → Yields (TakesFirst deref_pair) s passed t → r ≡ Some next
    → TakesFirst deref_pair t r u → (ranks : BTreeMap (List ℕ) ℕ) → s ≡ ranks.entries → IsOrdered key_cmp ranks → AreFirst (map ranked_hit (take (length passed) ranks.entries)) best
    → ((hits : List Hit) → AreKeysBelow next.0.now hits → AreFirst hits best → AreFirst (hits ++ ranked_hit (deref_pair next) ∷ []) more)
    → AreFirst (map ranked_hit (take (length (passed ++ next ∷ [])) ranks.entries)) more
passed_next passed s t u r next best more y is step ranks start ordered are add =
    let turn = iter_turn deref_pair ranks.entries passed s t u r start y next is step in
    let keys = btree_map_turn deref_pair passed s t u r next y is step nat_list_cmp_total ranks start ordered in
    let size : length (passed ++ next ∷ []) ≡ suc (length passed) = let more = length_push passed next in omega (arith, more) in
    let hits = map ranked_hit (take (length passed) ranks.entries) in
    let all = add hits (below_taken ranks.entries (length passed) next.0.now keys.2 (let low = turn.0 in omega (arith, low))) are in
    subst (λ (n : ℕ). AreFirst (map ranked_hit (take n ranks.entries)) more) (sym size)
    (subst (λ (hs : List Hit). AreFirst hs more) (sym (taken_next ranks.entries (length passed) (deref_pair next) turn.1)) all)

-- at its end all were passed
pub passed_all : (passed : List (Bor (List ℕ) × Bor ℕ)) (s t u : List (List ℕ × ℕ)) (r : Option (Bor (List ℕ) × Bor ℕ)) (best : List Hit) → Yields (TakesFirst deref_pair) s passed t → r ≡ None → TakesFirst deref_pair t r u
    → (ranks : BTreeMap (List ℕ) ℕ) → s ≡ ranks.entries → AreFirst (map ranked_hit (take (length passed) ranks.entries)) best → best ≡ take 20 (in_order hit_cmp (map ranked_hit ranks.entries))
passed_all passed s t u r best y is step ranks start are =
    let all = (iter_end deref_pair ranks.entries passed s t u r start y is step).1 in
    are.first ∙ ap (λ (es : List (List ℕ × ℕ)). take 20 (in_order hit_cmp (map ranked_hit es))) (take_all (length passed) ranks.entries (omega (arith, all)))
