-- The infos after a publish can be spelled, and their numbers are bounded.
use Rattle.std.proofs.Common.{◌≡◌, ◌≢◌, ◌<◌, ◌≤◌, ◌+◌, ◌-◌, ◌*◌, ◌/◌, ◌++◌, max, ℕ, Bool, true, false, cond, List, [], ◌∷◌, length, Option, Some, None, refl, sym, ap, subst, ◌∙◌, arith, All, length-append}
use Rattle.std.specs.Prelude.{IfSome}
use Rattle.std.specs.List.{Contains, AllByRecursion, AllZip, AllPairs}
use Rattle.std.proofs.lemmas.List.Elements.{All-nil, All-cons, All-append, All-contains, All-same}
use Rattle.std.proofs.lemmas.List.Kept.{AllPairs-cons}
use Rattle.segment_infos.specs.declared.infos.SegRecord.{SegRecord}
use Rattle.segment_infos.specs.declared.infos.Infos.{Infos}
use Rattle.segment_infos.specs.Infos.{CanSpell, IsRecord}
use Rattle.index_primary.specs.Held.{drawn_to, IsDrawnRecord, AreNumbered, next_infos}
use Rattle.index_primary.specs.NextNames.{Kept, New, AreApart, IsDrawn}
use Rattle.segment_steps.specs.Next.{next_live_gen}
use Rattle.index_primary.specs.NextRecords.{IsNextRecord, IsFreshRecord, AreFresh, AreNextRecords}

-- what holds of each that stays holds of its record after it
all_after : (g : ℕ) (Q : Kept → Type 0) (P : SegRecord → Type 0) → ((k : Kept) (r : SegRecord) → Q k → IsNextRecord g k r → P r) → (ks : List Kept) (rs : List SegRecord) → AllByRecursion Q ks → AllZip (IsNextRecord g) ks rs → All P rs
all_after g Q P step [] [] all zip = All-nil P
all_after g Q P step [] (r ∷ rs) all zip = absurd zip
all_after g Q P step (k ∷ ks) [] all zip = absurd zip
all_after g Q P step (k ∷ ks) (r ∷ rs) all zip = All-cons P r rs (step k r all.0 zip.0) (all_after g Q P step ks rs all.1 zip.1)

all_fresh : (new : Option New) (P : SegRecord → Type 0) → ((n : New) (r : SegRecord) → new ≡ Some n → IsFreshRecord n r → P r) → (rs : List SegRecord) → AreFresh new rs → All P rs
all_fresh None P step [] h = All-nil P
all_fresh None P step (r ∷ rs) h = absurd h
all_fresh (Some n) P step [] h = absurd h
all_fresh (Some n) P step (r ∷ []) h = All-cons P r [] (step n r refl h) (All-nil P)
all_fresh (Some n) P step (r ∷ x ∷ rs) h = absurd h

weaker : (P Q : Kept → Type 0) → ((k : Kept) → P k → Q k) → (ks : List Kept) → AllByRecursion P ks → AllByRecursion Q ks
weaker P Q f [] all = tt
weaker P Q f (k ∷ ks) all = (f k all.0, weaker P Q f ks all.1)

both : (P Q : Kept → Type 0) (ks : List Kept) → AllByRecursion P ks → AllByRecursion Q ks → AllByRecursion (λ k. P k × Q k) ks
both P Q [] a b = tt
both P Q (k ∷ ks) a b = ((a.0, b.0), both P Q ks a.1 b.1)

-- records of segments that stay have numbers apart, as these have
apart_after : (g : ℕ) (ks : List Kept) (rs fresh : List SegRecord) → AreApart ks → AllZip (IsNextRecord g) ks rs → AllPairs (λ r s. r.seg.0 ≢ s.seg.0) fresh
    → AllByRecursion (λ k. All (λ s. k.0.seg.0 ≢ s.seg.0) fresh) ks → AllPairs (λ r s. r.seg.0 ≢ s.seg.0) (rs ++ fresh)
apart_after g [] [] fresh apart zip pairs all = pairs
apart_after g [] (r ∷ rs) fresh apart zip pairs all = absurd zip
apart_after g (k ∷ ks) [] fresh apart zip pairs all = absurd zip
apart_after g (k ∷ ks) (r ∷ rs) fresh apart zip pairs all = AllPairs-cons (λ (x s : SegRecord). x.seg.0 ≢ s.seg.0) r (rs ++ fresh)
    (All-append (λ (s : SegRecord). r.seg.0 ≢ s.seg.0) rs fresh
    (all_after g (λ l. k.0.seg.0 ≢ l.0.seg.0) (λ (s : SegRecord). r.seg.0 ≢ s.seg.0) (λ l s n is e. n (sym zip.0.seg ∙ e ∙ is.seg)) ks rs apart.0 zip.1)
    (λ i d lt e. all.0 i d lt (sym zip.0.seg ∙ e)))
    (apart_after g ks rs fresh apart.1 zip.1 pairs all.1)

module _ (infos : Infos) (loose still : List ℕ) (kept : List Kept) (new : Option New) (records : List SegRecord) (h : AreNextRecords infos loose still kept new records) (spelled : CanSpell infos) (numbered : AreNumbered infos loose) where
  abbrev Known : Kept → Type 0
  Known k = IsDrawnRecord infos k.0 × IsRecord k.0

  known : AllByRecursion Known kept
  known = weaker (λ k. Contains infos.segs k.0) Known (λ k c. (All-contains (IsDrawnRecord infos) infos.segs k.0 numbered.segs c, All-contains IsRecord infos.segs k.0 spelled.records c)) kept h.of

  drawn_of : (n : New) → new ≡ Some n → IsDrawn infos loose kept n
  drawn_of n e = subst (λ (o : Option New). IfSome o (IsDrawn infos loose kept)) e h.drawn

  all_records : (P : SegRecord → Type 0) → All P h.older → All P h.fresh → All P records
  all_records P a b = All-same P records (h.older ++ h.fresh) h.records_are (All-append P h.older h.fresh a b)

  -- ---- records
  record_after : (k : Kept) (r : SegRecord) → IsRecord k.0 → IsNextRecord infos.generation.0 k r → IsRecord r
  record_after k r was is = by k.1 refl
    where
      by : (b : Bool) → k.1 ≡ b → IsRecord r
      by true e = record {
        most = (let f : r.live < k.0.live = is.fell e in omega (arith, f, was.most, is.rows));
        all = λ none. absurd (let g : r.live_gen ≡ next_live_gen infos.generation.0 k.0 = is.live_gen ∙ ap (λ b. cond b (next_live_gen infos.generation.0 k.0) k.0.live_gen) e in omega (arith, g, none));
      }
      by false e = record {
        most = (let s : r.live ≡ k.0.live = is.same e in omega (arith, s, was.most, is.rows));
        all = λ none. (let g : r.live_gen ≡ k.0.live_gen = is.live_gen ∙ ap (λ b. cond b (next_live_gen infos.generation.0 k.0) k.0.live_gen) e in is.same e ∙ was.all (sym g ∙ none) ∙ sym is.rows);
      }

  record_fresh : (n : New) (r : SegRecord) → IsFreshRecord n r → IsRecord r
  record_fresh n r is = by n.1 refl
    where
      by : (b : Bool) → n.1 ≡ b → IsRecord r
      by true e = record { most = (let f : r.live < r.rows = is.fewer e in omega (arith, f)); all = λ none. absurd (let g : r.live_gen ≡ 1 = is.live_gen ∙ ap (λ b. cond b 1 0) e in omega (arith, g, none)) }
      by false e = record { most = (let s : r.live ≡ r.rows = is.all e in omega (arith, s)); all = λ none. is.all e }

  fresh_apart : AllPairs (λ r s. r.seg.0 ≢ s.seg.0) h.fresh
  fresh_apart = by new h.fresh h.fresh_are
    where
      by : (o : Option New) (rs : List SegRecord) → AreFresh o rs → AllPairs (λ r s. r.seg.0 ≢ s.seg.0) rs
      by None [] a = λ i j d lt in'. absurd (omega (arith, in'))
      by None (r ∷ rs) a = absurd a
      by (Some n) [] a = absurd a
      by (Some n) (r ∷ []) a = λ i j d lt in'. absurd (omega (arith, lt, in'))
      by (Some n) (r ∷ x ∷ rs) a = absurd a

  kept_fresh : AllByRecursion (λ k. All (λ s. k.0.seg.0 ≢ s.seg.0) h.fresh) kept
  kept_fresh = by new h.drawn h.fresh h.fresh_are
    where
      none : (ks : List Kept) → AllByRecursion (λ k. All (λ (s : SegRecord). k.0.seg.0 ≢ s.seg.0) []) ks
      none [] = tt
      none (k ∷ ks) = (All-nil (λ (s : SegRecord). k.0.seg.0 ≢ s.seg.0), none ks)

      by : (o : Option New) → IfSome o (IsDrawn infos loose kept) → (rs : List SegRecord) → AreFresh o rs → AllByRecursion (λ k. All (λ s. k.0.seg.0 ≢ s.seg.0) rs) kept
      by None d [] a = none kept
      by None d (r ∷ rs) a = absurd a
      by (Some n) d [] a = absurd a
      by (Some n) d (r ∷ []) a = weaker (λ k. k.0.seg.0 ≢ n.0) (λ k. All (λ s. k.0.seg.0 ≢ s.seg.0) (r ∷ []))
          (λ k apart. All-cons (λ (s : SegRecord). k.0.seg.0 ≢ s.seg.0) r [] (λ e. apart (e ∙ a.seg)) (All-nil (λ (s : SegRecord). k.0.seg.0 ≢ s.seg.0))) kept d.apart
      by (Some n) d (r ∷ x ∷ rs) a = absurd a

  -- THE NEXT INFOS CAN BE SPELLED
  pub next_spelled : CanSpell (next_infos infos records)
  next_spelled = record {
    generation = spelled.generation;
    version = omega arith;
    few = (let e : length records ≡ length (h.older ++ h.fresh) = ap (λ (rs : List SegRecord). length rs) h.records_are in omega (arith, e, length-append h.older h.fresh, h.few));
    records = all_records IsRecord (all_after infos.generation.0 Known IsRecord (λ k r q is. record_after k r q.1 is) kept h.older known h.kept_are)
        (all_fresh new IsRecord (λ n r e is. record_fresh n r is) h.fresh h.fresh_are);
    apart = subst (λ (rs : List SegRecord). AllPairs (λ r s. r.seg.0 ≢ s.seg.0) rs) (sym h.records_are)
        (apart_after infos.generation.0 kept h.older h.fresh h.apart h.kept_are fresh_apart kept_fresh);
  }

  -- ---- numbers
  bounded_after : (k : Kept) (r : SegRecord) → Known k → IsNextRecord infos.generation.0 k r → IsDrawnRecord (next_infos infos records) r
  bounded_after k r was is = record { below = omega (arith, is.seg, was.0.below); made = subst (λ n. n / 1679616 ≤ infos.generation.0) (sym is.seg) was.0.made; live_gen = by k.1 refl }
    where
      base : (infos.generation.0 - r.seg.0 / 1679616) * 4294967296 ≡ (infos.generation.0 - k.0.seg.0 / 1679616) * 4294967296
      base = ap (λ n. (infos.generation.0 - n / 1679616) * 4294967296) is.seg

      by : (b : Bool) → k.1 ≡ b → r.live_gen + r.live ≤ (infos.generation.0 - r.seg.0 / 1679616) * 4294967296 + r.rows
      by true e =
          let g : r.live_gen ≡ next_live_gen infos.generation.0 k.0 = is.live_gen ∙ ap (λ b. cond b (next_live_gen infos.generation.0 k.0) k.0.live_gen) e in
          let f : r.live < k.0.live = is.fell e in
          raised_fits k.0.live_gen ((infos.generation.0 - k.0.seg.0 / 1679616) * 4294967296) k.0.live k.0.rows r.live_gen r.live ((infos.generation.0 - r.seg.0 / 1679616) * 4294967296) r.rows g f was.0.live_gen was.1.most base is.rows
        where
          raised_fits : (gen base live rows gen2 live2 base2 rows2 : ℕ) → gen2 ≡ max gen base + 1 → live2 < live → gen + live ≤ base + rows → live ≤ rows → base2 ≡ base → rows2 ≡ rows → gen2 + live2 ≤ base2 + rows2
          raised_fits gen base live rows gen2 live2 base2 rows2 a b c d e f = omega (arith, a, b, c, d, e, f)
      by false e =
          let g : r.live_gen ≡ k.0.live_gen = is.live_gen ∙ ap (λ b. cond b (next_live_gen infos.generation.0 k.0) k.0.live_gen) e in
          let s : r.live ≡ k.0.live = is.same e in
          same_fits k.0.live_gen ((infos.generation.0 - k.0.seg.0 / 1679616) * 4294967296) k.0.live k.0.rows r.live_gen r.live ((infos.generation.0 - r.seg.0 / 1679616) * 4294967296) r.rows g s was.0.live_gen base is.rows
        where
          same_fits : (gen base live rows gen2 live2 base2 rows2 : ℕ) → gen2 ≡ gen → live2 ≡ live → gen + live ≤ base + rows → base2 ≡ base → rows2 ≡ rows → gen2 + live2 ≤ base2 + rows2
          same_fits gen base live rows gen2 live2 base2 rows2 a b c e f = omega (arith, a, b, c, e, f)

  made_fresh : (seg : ℕ) → seg < drawn_to infos → infos.counter ≤ 1679616 → seg / 1679616 ≤ infos.generation.0
  made_fresh seg below counter = omega (arith, below, counter)

  bounded_fresh : (n : New) (r : SegRecord) → new ≡ Some n → IsFreshRecord n r → IsDrawnRecord (next_infos infos records) r
  bounded_fresh n r e is =
      let below : r.seg.0 < drawn_to infos = (let d = drawn_of n e in omega (arith, is.seg, d.below)) in
      record { below = below; made = made_fresh r.seg.0 below numbered.counter; live_gen = by n.1 refl }
    where
      by : (b : Bool) → n.1 ≡ b → r.live_gen + r.live ≤ (infos.generation.0 - r.seg.0 / 1679616) * 4294967296 + r.rows
      by true e = fits ((infos.generation.0 - r.seg.0 / 1679616) * 4294967296) 1 r.live_gen r.live r.rows (is.live_gen ∙ ap (λ b. cond b 1 0) e) (is.fewer e)
        where
          fits : (base one gen live rows : ℕ) → gen ≡ 1 → live < rows → gen + live ≤ base + rows
          fits base one gen live rows a b = omega (arith, a, b)
      by false e = fits ((infos.generation.0 - r.seg.0 / 1679616) * 4294967296) r.live_gen r.live r.rows (is.live_gen ∙ ap (λ b. cond b 1 0) e) (is.all e)
        where
          fits : (base gen live rows : ℕ) → gen ≡ 0 → live ≡ rows → gen + live ≤ base + rows
          fits base gen live rows a b = omega (arith, a, b)

  still_out : (seg : ℕ) → Contains still seg → All (λ r. r.seg.0 ≢ seg) records
  still_out seg c = all_records (λ r. r.seg.0 ≢ seg)
      (all_after infos.generation.0 (λ k. k.0.seg.0 ≢ seg) (λ r. r.seg.0 ≢ seg) (λ k r apart is e. apart (sym is.seg ∙ e)) kept h.older (h.still_apart seg c).2 h.kept_are)
      (all_fresh new (λ r. r.seg.0 ≢ seg) (λ n r e is i. (subst (λ (o : Option New). IfSome o (λ m. m.0 ≢ seg)) e (h.still_apart seg c).1) (sym is.seg ∙ i)) h.fresh h.fresh_are)

  -- THEIR NUMBERS ARE BOUNDED
  pub next_numbered : AreNumbered (next_infos infos records) still
  next_numbered = record {
    generation = numbered.generation;
    counter = numbered.counter;
    segs = all_records (IsDrawnRecord (next_infos infos records))
        (all_after infos.generation.0 Known (IsDrawnRecord (next_infos infos records)) bounded_after kept h.older known h.kept_are)
        (all_fresh new (IsDrawnRecord (next_infos infos records)) bounded_fresh h.fresh h.fresh_are);
    loose_below = λ seg c. numbered.loose_below seg (h.still_apart seg c).0;
    loose_apart = still_out;
  }
