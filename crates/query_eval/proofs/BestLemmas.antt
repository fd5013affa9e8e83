-- Hits in order, one more of them, and the first 20.
use Rattle.std.proofs.Common.{◌≡◌, ℕ, zero, suc, ◌+◌, ◌<◌, ◌≤◌, List, [], ◌∷◌, length, take, get_or, Bool, true, false, Option, Some, None, refl, sym, ap, subst, ◌∙◌, inl, inr, arith, add-one}
use Rattle.std.specs.Prelude.{nat_lt, slice_get, slice_index_or, MatchBool, IfSome, IsTrue}
use Rattle.std.specs.List.{insert}
use Rattle.std.specs.Ordering.{is_lt, nat_cmp, ordering_reverse}
use Rattle.std.proofs.lemmas.Cmp.{nat_cmp_total}
use Rattle.std.specs.Cmp.{nat_cmp_is}
use Rattle.std.specs.declared.cmp.Ordering.{Ordering}
use Rattle.std.specs.declared.cmp.Ordering.TheVariants.{Less, Equal, Greater}
use Rattle.std.proofs.lemmas.Bool.{cases_eq, lt-ltb}
use Rattle.std.proofs.lemmas.Option.{slice_get_cases}
use Rattle.nrt_base.specs.Bytes.{is_key}
use Rattle.nrt_base.specs.declared.doc.Doc.{Doc}
use Rattle.documents.specs.declared.answer.Answer.{Answer}
use Rattle.documents.specs.declared.answer.Hit.{Hit}
use Rattle.documents.specs.InOrder.{with_item, in_order}
use Rattle.documents.specs.Ranking.{hit_cmp, answer_of}
use Rattle.documents.specs.Documents.{key_cmp}
use Rattle.documents.proofs.InOrderLemmas.{not_behind, before_too, hit_cmp_total}
use Rattle.seg_reader.specs.Placing.{place_in, IsPlacing}
use Rattle.seg_reader.specs.Shown.{Shown}
use Rattle.query_eval.specs.declared.best.Bar.{Bar}
use Rattle.query_eval.specs.Best.{hit_with, count_ahead, AreBest, AreBeyond, CountsHit, IsBar}
use Rattle.query_eval.specs.Matching.{CountsRow}

abbrev with_hit : List Hit → Hit → List Hit
with_hit hits hit = with_item hit_cmp hits hit

pub count_ahead-le : (hits : List Hit) (hit : Hit) → count_ahead hits hit ≤ length hits
count_ahead-le [] hit = omega arith
count_ahead-le (h ∷ hits) hit = by_test (is_lt (hit_cmp h hit)) refl (count_ahead-le hits hit)
  where
    by_test : (b : Bool) → is_lt (hit_cmp h hit) ≡ b → count_ahead hits hit ≤ length hits → count_ahead (h ∷ hits) hit ≤ length (h ∷ hits)
    by_test true e few = rw e (omega (arith, few))
    by_test false e few = rw e (omega arith)

insert-count_ahead : (hits : List Hit) (hit : Hit) → insert hits (count_ahead hits hit) hit ≡ with_hit hits hit
insert-count_ahead [] hit = refl
insert-count_ahead (h ∷ hits) hit = by_test (is_lt (hit_cmp h hit)) refl (insert-count_ahead hits hit)
  where
    by_test : (b : Bool) → is_lt (hit_cmp h hit) ≡ b → insert hits (count_ahead hits hit) hit ≡ with_hit hits hit
        → insert (h ∷ hits) (count_ahead (h ∷ hits) hit) hit ≡ with_hit (h ∷ hits) hit
    by_test true e same = rw (e, add-one) (ap (λ hs. h ∷ hs) same)
    by_test false e same = rw e refl

take_fewer : (n : ℕ) (hits : List Hit) → take n (take (suc n) hits) ≡ take n hits
take_fewer zero hits = refl
take_fewer (suc n) [] = refl
take_fewer (suc n) (h ∷ hits) = ap (λ hs. h ∷ hs) (take_fewer n hits)

take_twice : (n : ℕ) (hits : List Hit) → take n (take n hits) ≡ take n hits
take_twice zero hits = refl
take_twice (suc n) [] = refl
take_twice (suc n) (h ∷ hits) = ap (λ hs. h ∷ hs) (take_twice n hits)

take_behind : (n : ℕ) (h : Hit) (hits : List Hit) → take n (h ∷ take n hits) ≡ take n (h ∷ hits)
take_behind zero h hits = refl
take_behind (suc n) h hits = ap (λ hs. h ∷ hs) (take_fewer n hits)

-- of the first hits and one more, as many are the first of all and that one
take-with_hit : (n : ℕ) (hits : List Hit) (hit : Hit) → take n (with_hit (take n hits) hit) ≡ take n (with_hit hits hit)
take-with_hit zero hits hit = refl
take-with_hit (suc n) [] hit = refl
take-with_hit (suc n) (h ∷ hits) hit = by_test (is_lt (hit_cmp h hit)) refl (take-with_hit n hits hit)
  where
    by_test : (b : Bool) → is_lt (hit_cmp h hit) ≡ b → take n (with_hit (take n hits) hit) ≡ take n (with_hit hits hit)
        → take (suc n) (with_hit (h ∷ take n hits) hit) ≡ take (suc n) (with_hit (h ∷ hits) hit)
    by_test true e same = rw e (ap (λ hs. h ∷ hs) same)
    by_test false e same = rw e (ap (λ hs. hit ∷ hs) (take_behind n h hits))

-- a hit that has as many ahead of it changes nothing of so many
take-beyond : (n : ℕ) (hits : List Hit) (hit : Hit) → n ≤ count_ahead hits hit → take n (with_hit hits hit) ≡ take n hits
take-beyond zero hits hit le = refl
take-beyond (suc n) [] hit le = absurd (omega (arith, le))
take-beyond (suc n) (h ∷ hits) hit le = by_test (is_lt (hit_cmp h hit)) refl (take-beyond n hits hit)
  where
    by_test : (b : Bool) → is_lt (hit_cmp h hit) ≡ b → (n ≤ count_ahead hits hit → take n (with_hit hits hit) ≡ take n hits)
        → take (suc n) (with_hit (h ∷ hits) hit) ≡ take (suc n) (h ∷ hits)
    by_test true e same = let le' = rw e at le in rw e (ap (λ hs. h ∷ hs) (same (omega (arith, le'))))
    by_test false e same = let le' = rw e at le in absurd (omega (arith, le'))

-- ---- where a hit stands, sought from the last one on

-- no hit stands ahead of the one before it
abbrev BeginsBehind : Hit → List Hit → Type 0
BeginsBehind a [] = Unit {0}
BeginsBehind a (h ∷ hits) = is_lt (hit_cmp h a) ≡ false

abbrev Ascends : List Hit → Type 0
Ascends [] = Unit {0}
Ascends (h ∷ hits) = BeginsBehind h hits × Ascends hits

begins_with : (a : Hit) (hits : List Hit) (hit : Hit) → BeginsBehind a hits → is_lt (hit_cmp hit a) ≡ false → BeginsBehind a (with_hit hits hit)
begins_with a [] hit up le = le
begins_with a (h ∷ hits) hit up le = by_test (is_lt (hit_cmp h hit)) refl
  where
    by_test : (b : Bool) → is_lt (hit_cmp h hit) ≡ b → BeginsBehind a (with_hit (h ∷ hits) hit)
    by_test true e = rw e up
    by_test false e = rw e le

with_hit_ascends : (hits : List Hit) (hit : Hit) → Ascends hits → Ascends (with_hit hits hit)
with_hit_ascends [] hit up = (tt, tt)
with_hit_ascends (h ∷ hits) hit up = by_test (is_lt (hit_cmp h hit)) refl (with_hit_ascends hits hit up.1)
  where
    by_test : (b : Bool) → is_lt (hit_cmp h hit) ≡ b → Ascends (with_hit hits hit) → Ascends (with_hit (h ∷ hits) hit)
    by_test true e rest = rw e (begins_with h hits hit up.0 (not_behind hit_cmp hit_cmp_total h hit e), rest)
    by_test false e rest = rw e (e, up)

in_order_ascends : (hits : List Hit) → Ascends (in_order hit_cmp hits)
in_order_ascends [] = tt
in_order_ascends (h ∷ hits) = with_hit_ascends (in_order hit_cmp hits) h (in_order_ascends hits)

begins_take : (a : Hit) (n : ℕ) (hits : List Hit) → BeginsBehind a hits → BeginsBehind a (take n hits)
begins_take a zero hits up = tt
begins_take a (suc n) [] up = tt
begins_take a (suc n) (h ∷ hits) up = up

take_ascends : (n : ℕ) (hits : List Hit) → Ascends hits → Ascends (take n hits)
take_ascends zero hits up = tt
take_ascends (suc n) [] up = tt
take_ascends (suc n) (h ∷ hits) up = (begins_take h n hits up.0, take_ascends n hits up.1)

best_ascend : (hits : List Hit) → AreBest hits → Ascends hits
best_ascend hits best = subst Ascends (sym best.1) (take_ascends 20 (in_order hit_cmp best.0) (in_order_ascends best.0))

-- a hit that is not ahead ends the count
pub count_stops : (hits : List Hit) (hit : Hit) (i : ℕ) (h : Hit) → i < length hits → h ≡ get_or hits i h → is_lt (hit_cmp h hit) ≡ false → count_ahead hits hit ≤ i
count_stops [] hit i h lt item behind = absurd (omega (arith, lt))
count_stops (x ∷ hits) hit zero h lt item behind =
    let e : is_lt (hit_cmp x hit) ≡ false = ap (λ (w : Hit). is_lt (hit_cmp w hit)) (sym item) ∙ behind in
    rw e (omega arith)
count_stops (x ∷ hits) hit (suc i) h lt item behind = by_test (is_lt (hit_cmp x hit)) refl (count_stops hits hit i h (omega (arith, lt)) item behind)
  where
    by_test : (b : Bool) → is_lt (hit_cmp x hit) ≡ b → count_ahead hits hit ≤ i → count_ahead (x ∷ hits) hit ≤ suc i
    by_test true e few = rw e (omega (arith, few))
    by_test false e few = rw e (omega arith)

first_ahead : (hits : List Hit) (hit : Hit) (n : ℕ) → n + 1 ≤ count_ahead hits hit → (a : Hit) → BeginsBehind a hits → is_lt (hit_cmp a hit) ≡ true
first_ahead [] hit n le a up = absurd (omega (arith, le))
first_ahead (x ∷ hits) hit n le a up = by_test (is_lt (hit_cmp x hit)) refl
  where
    by_test : (b : Bool) → is_lt (hit_cmp x hit) ≡ b → is_lt (hit_cmp a hit) ≡ true
    by_test true e = before_too hit_cmp hit_cmp_total a x hit up e
    by_test false e = let le' = rw e at le in absurd (omega (arith, le'))

-- where a hit is ahead, so are those before it
count_reaches : (hits : List Hit) (hit : Hit) (i : ℕ) (h : Hit) → Ascends hits → i < length hits → h ≡ get_or hits i h → is_lt (hit_cmp h hit) ≡ true → i + 1 ≤ count_ahead hits hit
count_reaches [] hit i h up lt item ahead = absurd (omega (arith, lt))
count_reaches (x ∷ hits) hit zero h up lt item ahead =
    let e : is_lt (hit_cmp x hit) ≡ true = ap (λ (w : Hit). is_lt (hit_cmp w hit)) (sym item) ∙ ahead in
    rw e (omega arith)
count_reaches (x ∷ hits) hit (suc i) h up lt item ahead =
    let more = count_reaches hits hit i h up.1 (omega (arith, lt)) item ahead in
    rw (first_ahead hits hit i more x up.0) (omega (arith, more))

-- the place behind a hit that is ahead, where none from there on is
pub count_is : (hits : List Hit) (hit : Hit) (place i : ℕ) (h : Hit) → place ≡ i + 1 → i < length hits → h ≡ get_or hits i h → is_lt (hit_cmp h hit) ≡ true
    → count_ahead hits hit ≤ place → AreBest hits → place ≡ count_ahead hits hit
count_is hits hit place i h next lt item ahead le best =
    let ge = count_reaches hits hit i h (best_ascend hits best) lt item ahead in
    omega (arith, next, le, ge)

-- the twentieth has a greater rank
pub beyond_last : (hits : List Hit) (rank : ℕ) (last : Hit) → 20 ≤ length hits → last ≡ get_or hits 19 last → nat_lt rank (get_or hits 19 last).rank ≡ true
    → AreBest hits → AreBeyond hits rank
beyond_last hits rank last few item less best key =
    let greater : nat_lt rank last.rank ≡ true = ap (λ (h : Hit). nat_lt rank h.rank) item ∙ less in
    count_reaches hits (hit_with key rank) 19 last (best_ascend hits best) (omega (arith, few)) item (rw greater refl)

-- ---- one more hit is counted

abbrev answer : ℕ → List Hit → Answer
answer total hits = record { total = total; hits = hits }

same_answer : (total other : ℕ) (hits others : List Hit) → total ≡ other → hits ≡ others → answer total hits ≡ answer other others
same_answer total other hits others e f = cc

-- hits that are cut at 20 once there is one more
counts_hit : (old : Answer) (total : ℕ) (hits cut : List Hit) (hit : Hit) → old ≡ answer total hits → (AreBest hits → cut ≡ take 20 (with_hit hits hit)) → CountsHit hit old (answer (total + 1) cut)
counts_hit old total hits cut hit view left =
    let count : old.total ≡ total = ap (λ (a : Answer). a.total) view in
    record { more = omega (arith, count); all = λ all e. counts_it all (sym view ∙ e) }
  where
    counts_it : (all : List Hit) → answer total hits ≡ answer_of all → answer (total + 1) cut ≡ answer_of (hit ∷ all)
    counts_it all e =
        let these : hits ≡ take 20 (in_order hit_cmp all) = ap (λ (a : Answer). a.hits) e in
        let count : total ≡ length all = ap (λ (a : Answer). a.total) e in
        let more : total + 1 ≡ length (hit ∷ all) = omega (arith, count) in
        same_answer (total + 1) (length (hit ∷ all)) cut (take 20 (in_order hit_cmp (hit ∷ all))) more
        (left (all, these) ∙ ap (λ hs. take 20 (with_hit hs hit)) these ∙ take-with_hit 20 (in_order hit_cmp all) hit)

-- a hit at its place among the first 20
pub cut_is : (hits slice inserted cut : List Hit) (place : ℕ) (key field : List ℕ) (rank : ℕ) → slice ≡ hits → (AreBest slice → place ≡ count_ahead slice (hit_with key rank)) → field ≡ key
    → inserted ≡ insert hits place (hit_with field rank) → cut ≡ take 20 inserted → AreBest hits → cut ≡ take 20 (with_hit hits (hit_with key rank))
cut_is hits slice inserted cut place key field rank same at spelt put left best =
    left ∙ ap (take 20) (
    put ∙ ap (λ (k : List ℕ). insert hits place (hit_with k rank)) spelt
    ∙ ap (λ (n : ℕ). insert hits n (hit_with key rank)) (at (subst AreBest (sym same) best) ∙ ap (λ (hs : List Hit). count_ahead hs (hit_with key rank)) same)
    ∙ insert-count_ahead hits (hit_with key rank)
    )

-- they are the first 20 of all
pub best_more : (hits cut : List Hit) (hit : Hit) → cut ≡ take 20 (with_hit hits hit) → AreBest hits → AreBest cut
best_more hits cut hit e best = (hit ∷ best.0, e ∙ ap (λ (hs : List Hit). take 20 (with_hit hs hit)) best.1 ∙ take-with_hit 20 (in_order hit_cmp best.0) hit)

-- a hit at its place is kept
pub kept : (old : Answer) (total : ℕ) (hits slice inserted cut : List Hit) (place : ℕ) (key field : List ℕ) (rank : ℕ) → old ≡ answer total hits → slice ≡ hits
    → (AreBest slice → place ≡ count_ahead slice (hit_with key rank)) → field ≡ key → inserted ≡ insert hits place (hit_with field rank) → cut ≡ take 20 inserted
    → CountsHit (hit_with key rank) old (answer (total + 1) cut)
kept old total hits slice inserted cut place key field rank view same at spelt put left =
    counts_hit old total hits cut (hit_with key rank) view (cut_is hits slice inserted cut place key field rank same at spelt put left)

-- a hit beyond the first 20 is not
pub not_kept : (old : Answer) (total : ℕ) (hits slice : List Hit) (hit : Hit) → old ≡ answer total hits → slice ≡ hits → (AreBest slice → 20 ≤ count_ahead slice hit)
    → CountsHit hit old (answer (total + 1) hits)
not_kept old total hits slice hit view same beyond =
    counts_hit old total hits hits hit view (λ best.
    let le : 20 ≤ count_ahead hits hit = subst (λ (hs : List Hit). 20 ≤ count_ahead hs hit) same (beyond (subst AreBest (sym same) best)) in
    best.1 ∙ sym (take_twice 20 (in_order hit_cmp best.0)) ∙ ap (take 20) (sym best.1) ∙ sym (take-beyond 20 hits hit le))

-- ---- the document of a row

-- it is counted by the key that was read
pub by_key : (o : Option Doc) (key : List ℕ) (rank : ℕ) (old new : Answer) → IfSome o (λ doc. key ≡ doc.key) → CountsHit (hit_with key rank) old new
    → IfSome o (λ doc. CountsHit (hit_with doc.key rank) old new)
by_key None key rank old new same counts = tt
by_key (Some doc) key rank old new same counts = subst (λ (k : List ℕ). CountsHit (hit_with k rank) old new) same counts

-- or by any
pub any_key : (o : Option Doc) (rank : ℕ) (old new : Answer) → ((key : List ℕ) → CountsHit (hit_with key rank) old new) → IfSome o (λ doc. CountsHit (hit_with doc.key rank) old new)
any_key None rank old new counts = tt
any_key (Some doc) rank old new counts = counts doc.key

-- the key of a row is a key
pub key_kind : (docs : List Doc) (row : ℕ) (key : List ℕ) → row < length docs → IfSome (slice_get docs row) (λ doc. key ≡ doc.key) → IfSome (slice_get docs row) (λ doc. IsTrue (is_key doc.key))
    → IsTrue (is_key key)
key_kind docs row key lt has kind = elim (slice_get_cases docs row).1 [
  | inl there ↦ of_doc (slice_get docs row) there.0 there.2 has kind
  | inr past ↦ absurd (let le = past.0 in omega (arith, le, lt))
] where
  of_doc : (o : Option Doc) (doc : Doc) → o ≡ Some doc → IfSome o (λ doc. key ≡ doc.key) → IfSome o (λ doc. IsTrue (is_key doc.key)) → IsTrue (is_key key)
  of_doc None doc e same k = absurd cc
  of_doc (Some d) doc e same k = subst (λ (w : List ℕ). IsTrue (is_key w)) (sym same) k

-- ---- the bar

-- what stands ahead of a hit stands ahead of one that is not before it
ahead_too : (h a b : Hit) → is_lt (hit_cmp b a) ≡ false → is_lt (hit_cmp h a) ≡ true → is_lt (hit_cmp h b) ≡ true
ahead_too h a b le lt = by_test (is_lt (hit_cmp h b)) refl
  where
    by_test : (t : Bool) → is_lt (hit_cmp h b) ≡ t → is_lt (hit_cmp h b) ≡ true
    by_test true e = e
    by_test false e = let bad : true ≡ false = sym (before_too hit_cmp hit_cmp_total b h a e lt) ∙ le in absurd cc

count_ahead-more : (hits : List Hit) (a b : Hit) → is_lt (hit_cmp b a) ≡ false → count_ahead hits a ≤ count_ahead hits b
count_ahead-more [] a b le = omega arith
count_ahead-more (h ∷ hits) a b le = by_test (is_lt (hit_cmp h a)) refl (count_ahead-more hits a b le)
  where
    by_test : (t : Bool) → is_lt (hit_cmp h a) ≡ t → count_ahead hits a ≤ count_ahead hits b → count_ahead (h ∷ hits) a ≤ count_ahead (h ∷ hits) b
    by_test true e more = rw (e, ahead_too h a b le e) (omega (arith, more))
    by_test false e more = rw e (omega arith)

count_ahead-take : (n : ℕ) (hits : List Hit) (hit : Hit) → n ≤ count_ahead hits hit → n ≤ count_ahead (take n hits) hit
count_ahead-take zero hits hit le = omega arith
count_ahead-take (suc n) [] hit le = absurd (omega (arith, le))
count_ahead-take (suc n) (h ∷ hits) hit le = by_test (is_lt (hit_cmp h hit)) refl (count_ahead-take n hits hit)
  where
    by_test : (t : Bool) → is_lt (hit_cmp h hit) ≡ t → (n ≤ count_ahead hits hit → n ≤ count_ahead (take n hits) hit) → suc n ≤ count_ahead (h ∷ take n hits) hit
    by_test true e more = let le' = rw e at le in let few = more (omega (arith, le')) in rw e (omega (arith, few))
    by_test false e more = let le' = rw e at le in absurd (omega (arith, le'))

-- one more hit takes no hit from ahead of another
count_ahead-with_hit : (n : ℕ) (hits : List Hit) (x hit : Hit) → n ≤ count_ahead hits hit → n ≤ count_ahead (take n (with_hit hits x)) hit
count_ahead-with_hit zero hits x hit le = omega arith
count_ahead-with_hit (suc n) [] x hit le = absurd (omega (arith, le))
count_ahead-with_hit (suc n) (h ∷ hits) x hit le = by_test (is_lt (hit_cmp h hit)) refl (is_lt (hit_cmp h x)) refl (count_ahead-with_hit n hits x hit)
  where
    by_test : (t : Bool) → is_lt (hit_cmp h hit) ≡ t → (s : Bool) → is_lt (hit_cmp h x) ≡ s → (n ≤ count_ahead hits hit → n ≤ count_ahead (take n (with_hit hits x)) hit)
        → suc n ≤ count_ahead (take (suc n) (with_hit (h ∷ hits) x)) hit
    by_test true e true f more =
        let le' = rw e at le in
        let few = more (omega (arith, le')) in
        rw (f, e) (omega (arith, few))
    by_test true e false f more =
        let few = count_ahead-take n (h ∷ hits) hit (omega (arith, le)) in
        let first = before_too hit_cmp hit_cmp_total x h hit f e in
        rw (f, first) (omega (arith, few))
    by_test false e s f more = let le' = rw e at le in absurd (omega (arith, le'))

hit_behind : (key other : List ℕ) (rank least : ℕ) → is_lt (key_cmp other key) ≡ false → least ≤ rank → is_lt (hit_cmp (hit_with other least) (hit_with key rank)) ≡ false
hit_behind key other rank least le few = elim (cases_eq least rank) [
  | inl same ↦ subst (λ (r : ℕ). is_lt (hit_cmp (hit_with other r) (hit_with key rank)) ≡ false) (sym same) (same_rank (nat_cmp rank rank) refl)
  | inr apart ↦ not_behind hit_cmp hit_cmp_total (hit_with key rank) (hit_with other least) (ahead_by least rank (omega (arith, apart, few)))
]
  where
    ahead_by : (m n : ℕ) → m < n → is_lt (hit_cmp (hit_with key n) (hit_with other m)) ≡ true
    ahead_by m n lt = rw (lt-ltb m n lt) refl

    same_rank : (o : Ordering) → nat_cmp rank rank ≡ o → is_lt (hit_cmp (hit_with other rank) (hit_with key rank)) ≡ false
    same_rank Less e = let bad : Less ≡ Greater = sym e ∙ nat_cmp_total.antisymm rank rank ∙ ap ordering_reverse e in absurd cc
    same_rank Equal e = rw e le
    same_rank Greater e = let bad : Greater ≡ Less = sym e ∙ nat_cmp_total.antisymm rank rank ∙ ap ordering_reverse e in absurd cc

not_less : (m n : ℕ) → n ≤ m → is_lt (nat_cmp m n) ≡ false
not_less m n le = elim (cases_eq m n) [
  | inl same ↦ ap is_lt (sym (nat_cmp_is m n Equal same))
  | inr apart ↦ ap is_lt (sym (nat_cmp_is m n Greater (omega (arith, le, apart))))
]

module _ (docs : List Doc) (places : List ℕ) where
  -- there is none at first
  pub no_bar : (bar : Bar) (hits : List Hit) → bar.place ≡ 0 → IsBar docs places bar hits
  no_bar bar hits none some = absurd (omega (arith, none, some))

  -- a row whose hit was refused bars those at its place and behind it
  pub bar_at : (row : ℕ) (doc : Doc) (rank place : ℕ) (hits : List Hit) → IsPlacing docs places → slice_get docs row ≡ Some doc → place ≡ place_in places row → 20 ≤ count_ahead hits (hit_with doc.key rank)
      → IsBar docs places (record { rank = rank; place = place }) hits
  bar_at row doc rank place hits order is at behind some x least other is_x le few =
      let known : 0 < place_in places row = omega (arith, some, at) in
      let up : place_in places row ≤ place_in places x = omega (arith, at, le) in
      let keys : is_lt (key_cmp other.key doc.key) ≡ false = ap is_lt (order x row other doc is_x is (omega (arith, known, up)) known) ∙ not_less (place_in places x) (place_in places row) up in
      let more = count_ahead-more hits (hit_with doc.key rank) (hit_with other.key least) (hit_behind doc.key other.key rank least keys few) in
      omega (arith, behind, more)

  -- and it stays where more hits are kept
  pub bar_stays : (bar : Bar) (hits cut : List Hit) (x : Hit) → cut ≡ take 20 (with_hit hits x) → IsBar docs places bar hits → IsBar docs places bar cut
  bar_stays bar hits cut x e is some row rank doc at le few =
      subst (λ (hs : List Hit). 20 ≤ count_ahead hs (hit_with doc.key rank)) (sym e) (count_ahead-with_hit 20 hits x (hit_with doc.key rank) (is some row rank doc at le few))

  pub bar_same : (bar : Bar) (old : Answer) (total : ℕ) (hits : List Hit) → old ≡ answer total hits → IsBar docs places bar old.hits → IsBar docs places bar hits
  bar_same bar old total hits view is = subst (IsBar docs places bar) (ap (λ (a : Answer). a.hits) view) is

  key_of : (o : Option Doc) (doc : Doc) (key : List ℕ) → o ≡ Some doc → IfSome o (λ d. key ≡ d.key) → key ≡ doc.key
  key_of None doc key e is = absurd cc
  key_of (Some d) doc key e is = cc

  -- the bar of the row whose key was read
  pub bar_row : (row rank place : ℕ) (key : List ℕ) (hits : List Hit) → IsPlacing docs places → row < length docs → IfSome (slice_get docs row) (λ doc. key ≡ doc.key) → place ≡ place_in places row
      → 20 ≤ count_ahead hits (hit_with key rank) → IsBar docs places (record { rank = rank; place = place }) hits
  bar_row row rank place key hits order lt has at behind = elim (slice_get_cases docs row).1 [
    | inl there ↦
        let doc = there.0 in
        let same = key_of (slice_get docs row) doc key there.2 has in
        bar_at row doc rank place hits order there.2 at (subst (λ (k : List ℕ). 20 ≤ count_ahead hits (hit_with k rank)) same behind)
    | inr past ↦ absurd (let le = past.0 in omega (arith, le, lt))
  ]

-- the document of a row, where there is one
pub each_doc : (o : Option Doc) (rank : ℕ) (old new : Answer) → ((doc : Doc) → o ≡ Some doc → CountsHit (hit_with doc.key rank) old new) → IfSome o (λ doc. CountsHit (hit_with doc.key rank) old new)
each_doc None rank old new each = tt
each_doc (Some doc) rank old new each = each doc refl

-- a live row was counted
pub live_counts : (seg : Shown) (row rank : ℕ) (old new : Answer) → slice_index_or seg.live row false ≡ true → IfSome (slice_get seg.docs row) (λ doc. CountsHit (hit_with doc.key rank) old new) → CountsRow seg row rank old new
live_counts seg row rank old new live counts = by_doc (slice_get seg.docs row) counts
  where
    by_doc : (o : Option Doc) → IfSome o (λ doc. CountsHit (hit_with doc.key rank) old new) → IfSome o (λ doc. MatchBool (slice_index_or seg.live row false) (CountsHit (hit_with doc.key rank) old new) (new ≡ old))
    by_doc None is = tt
    by_doc (Some doc) is = rw live is
