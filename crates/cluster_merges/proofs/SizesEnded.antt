-- The sizes of the primary's segments where a merge starts, and where one is given up.
use Rattle.std.proofs.Common.{◌≡◌, ◌≤◌, ◌==◌, ◌||◌, ◌++◌, ◌∷◌, [], ℕ, zero, suc, Bool, true, false, true≢false, List, map, length, take, drop, Some, None, Option, Vec, Global, filter, refl, ap, ◌∙◌, sym, subst, arith, if◌then◌else◌}
use Rattle.std.specs.List.{AllByRecursion, AllZip, list_any, zip}
use Rattle.std.proofs.lemmas.Bool.{eq-eqb}
use Rattle.std.proofs.lemmas.List.{length-map, length-take-le, length-drop, append-nil}
use Rattle.std.proofs.lemmas.List.Concat.{flat_map-append}
use Rattle.std.proofs.lemmas.List.Folds.{list_any-append}
use Rattle.nrt_base.specs.declared.numbers.NodeNo.{NodeNo}
use Rattle.nrt_base.specs.declared.numbers.SegNo.{SegNo}
use Rattle.disk_model.specs.Disk.{Cells, reads_of}
use Rattle.segment_infos.specs.declared.infos.SegRecord.{SegRecord}
use Rattle.seg_reader.specs.Shown.{Shown}
use Rattle.seg_merge.specs.declared.task.MergeTask.{MergeTask}
use Rattle.segment_steps.specs.Starting.{size_by, neighbours}
use Rattle.segment_steps.specs.CutOver.{Part, inputs_in}
use Rattle.index_primary.specs.declared.parts.PrimaryParts.{PrimaryParts}
use Rattle.index_primary.specs.declared.states.Merging.{Merging}
use Rattle.index_primary.specs.declared.states.Out.{Out}
use Rattle.index_primary.specs.Merges.{merge_inputs, merges_without, IsMerging}
use Rattle.index_primary.specs.Primary.{IsPrimary}
use Rattle.index_primary.specs.StartCalls.{merge_sizes, StartsMerge}
use Rattle.history_rules.specs.Nodes.{IsNode, is_at, primary_of}
use Rattle.history_book.specs.Log.{printed}
use Rattle.merge_tasks.specs.Merging.{Sheet}
use Rattle.cluster_nodes.specs.declared.held.HeldTicket.{HeldTicket}
use Rattle.cluster_nodes.specs.declared.nodes.Node.TheVariants.{Primary}
use Rattle.cluster_nodes.specs.declared.nodes.NodePlace.{NodePlace}
use Rattle.cluster_nodes.specs.Places.{place_of}
use Rattle.node_merges.specs.MergeChanges.{GivesUpMerge}
use Rattle.node_merges.specs.MergePlaces.{MovesPrimary}
use Rattle.cluster_state.specs.Sizes.{sizes_in}
use Rattle.cluster_state.specs.State.{Shows}
use Rattle.cluster_state.proofs.SizesTold.{sizes_at}
use Rattle.cluster_merges.specs.MergeSizes.{without_range, IsToldStill, SizesEnd}

-- a merge has this segment
abbrev pub is_in : List SegNo → SegRecord → Bool
is_in inputs r = list_any (λ seg. seg.0 == r.seg.0) inputs

-- ---- a merge that starts

-- what is merged are so many neighbours from a place on
abbrev IsRange : List SegNo → ℕ → ℕ → List SegRecord → Type 0
IsRange inputs zero zero rs = AllByRecursion (λ r. is_in inputs r ≡ false) rs
IsRange inputs zero (suc n) [] = Unit {0}
IsRange inputs zero (suc n) (r ∷ rs) = (is_in inputs r ≡ true) × IsRange inputs zero n rs
IsRange inputs (suc k) n [] = Unit {0}
IsRange inputs (suc k) n (r ∷ rs) = (is_in inputs r ≡ false) × IsRange inputs k n rs

module _ (inputs : List SegNo) where
  one_more : (b : Bool) (r : SegRecord) (rs : List SegRecord) → is_in inputs r ≡ b → length (filter (is_in inputs) (r ∷ rs)) ≡ length (if b then r ∷ filter (is_in inputs) rs else filter (is_in inputs) rs)
  one_more b r rs is = ap (λ (t : Bool). length (if t then r ∷ filter (is_in inputs) rs else filter (is_in inputs) rs)) is

  none_in : (rs : List SegRecord) → length (filter (is_in inputs) rs) ≤ 0 → AllByRecursion (λ r. is_in inputs r ≡ false) rs
  none_in [] few = tt
  none_in (r ∷ rs) few = by (is_in inputs r) refl (none_in rs)
    where
      by : (b : Bool) → is_in inputs r ≡ b → (length (filter (is_in inputs) rs) ≤ 0 → AllByRecursion (λ r. is_in inputs r ≡ false) rs) → (is_in inputs r ≡ false) × AllByRecursion (λ r. is_in inputs r ≡ false) rs
      by true is rest = let more = one_more true r rs is in absurd (omega (arith, few, more))
      by false is rest = let same = one_more false r rs is in (is, rest (omega (arith, few, same)))

  at_least : (from count : ℕ) (rs : List SegRecord) → AllByRecursion (λ r. is_in inputs r ≡ true) (take count (drop from rs)) → length (take count (drop from rs)) ≡ count → count ≤ length (filter (is_in inputs) rs)
  at_least zero zero rs all long = omega arith
  at_least zero (suc n) [] all long = absurd (omega (arith, long))
  at_least zero (suc n) (r ∷ rs) all long = let more = one_more true r rs all.0 in let rest = at_least zero n rs all.1 (omega (arith, long)) in omega (arith, more, rest)
  at_least (suc k) zero rs all long = omega arith
  at_least (suc k) (suc n) [] all long = absurd (omega (arith, long))
  at_least (suc k) (suc n) (r ∷ rs) all long = let rest = at_least k (suc n) rs all long in by (is_in inputs r) refl rest
    where
      by : (b : Bool) → is_in inputs r ≡ b → suc n ≤ length (filter (is_in inputs) rs) → suc n ≤ length (filter (is_in inputs) (r ∷ rs))
      by true is rest = let more = one_more true r rs is in omega (arith, more, rest)
      by false is rest = let same = one_more false r rs is in omega (arith, same, rest)

  -- no others are, where they are no more than these
  is_range : (from count : ℕ) (rs : List SegRecord) → AllByRecursion (λ r. is_in inputs r ≡ true) (take count (drop from rs)) → length (take count (drop from rs)) ≡ count → length (filter (is_in inputs) rs) ≤ count → IsRange inputs from count rs
  is_range zero zero rs all long few = none_in rs few
  is_range zero (suc n) [] all long few = tt
  is_range zero (suc n) (r ∷ rs) all long few = let more = one_more true r rs all.0 in (all.0, is_range zero n rs all.1 (omega (arith, long)) (omega (arith, few, more)))
  is_range (suc k) n [] all long few = tt
  is_range (suc k) n (r ∷ rs) all long few = by (is_in inputs r) refl (is_range k n rs all long)
    where
      by : (b : Bool) → is_in inputs r ≡ b → (length (filter (is_in inputs) rs) ≤ n → IsRange inputs k n rs) → (is_in inputs r ≡ false) × IsRange inputs k n rs
      by true is rest = let more = one_more true r rs is in let least = at_least k n rs all long in absurd (omega (arith, few, more, least))
      by false is rest = let same = one_more false r rs is in (is, rest (omega (arith, few, same)))

  -- ---- the sizes then

  size_more : (held : List SegNo) (r : SegRecord) → size_by (held ++ inputs) r ≡ (if (r.live == 0) || (is_in held r || is_in inputs r) then None else Some r.live)
  size_more held r = ap (λ (b : Bool). if (r.live == 0) || b then None else Some r.live) (list_any-append (λ seg. seg.0 == r.seg.0) held inputs)

  size_same : (held : List SegNo) (r : SegRecord) → is_in inputs r ≡ false → size_by (held ++ inputs) r ≡ size_by held r
  size_same held r none = size_more held r ∙ by (r.live == 0) (is_in held r) (is_in inputs r) none
    where
      by : (z a b : Bool) → b ≡ false → (if z || (a || b) then None else Some r.live) ≡ (if z || a then None else Some r.live)
      by true a b e = refl
      by false true b e = refl
      by false false b e = ap (λ (t : Bool). if t then None else Some r.live) e

  size_gone : (held : List SegNo) (r : SegRecord) → is_in inputs r ≡ true → size_by (held ++ inputs) r ≡ None
  size_gone held r is = size_more held r ∙ by (r.live == 0) (is_in held r) (is_in inputs r) is
    where
      by : (z a b : Bool) → b ≡ true → (if z || (a || b) then None else Some r.live) ≡ None
      by true a b e = refl
      by false true b e = refl
      by false false b e = ap (λ (t : Bool). if t then None else Some r.live) e

  range_sizes : (held : List SegNo) (from count : ℕ) (rs : List SegRecord) → IsRange inputs from count rs → map (size_by (held ++ inputs)) rs ≡ without_range from count (map (size_by held) rs)
  range_sizes held zero zero rs range = all_same rs range
    where
      all_same : (rs : List SegRecord) → AllByRecursion (λ r. is_in inputs r ≡ false) rs → map (size_by (held ++ inputs)) rs ≡ map (size_by held) rs
      all_same [] none = refl
      all_same (r ∷ rs) none = λ i. size_same held r none.0 i ∷ all_same rs none.1 i
  range_sizes held zero (suc n) [] range = refl
  range_sizes held zero (suc n) (r ∷ rs) range = λ i. size_gone held r range.0 i ∷ range_sizes held zero n rs range.1 i
  range_sizes held (suc k) n [] range = refl
  range_sizes held (suc k) n (r ∷ rs) range = λ i. size_same held r range.0 i ∷ range_sizes held k n rs range.1 i

-- those whose numbers are listed are among them
all_in : (held : List SegNo) (rs : List SegRecord) → ((n : ℕ) → list_any (λ seg. seg.0 == n) (map (λ (r : SegRecord). r.seg) rs) ≡ true → list_any (λ seg. seg.0 == n) held ≡ true) → AllByRecursion (λ r. is_in held r ≡ true) rs
all_in held [] are = tt
all_in held (r ∷ rs) are = (
  are r.seg.0 (ap (λ (b : Bool). b || list_any (λ seg. seg.0 == r.seg.0) (map (λ (x : SegRecord). x.seg) rs)) (eq-eqb r.seg.0 r.seg.0 refl)),
  all_in held rs (λ n is. are n (later (r.seg.0 == n) (list_any (λ seg. seg.0 == n) (map (λ (x : SegRecord). x.seg) rs)) is)),
)
  where
    later : (a b : Bool) → b ≡ true → (a || b) ≡ true
    later true b is = refl
    later false b is = is

-- as many parts as records are
parts_in : (inputs : List SegNo) (rs : List SegRecord) (ss : List Shown) → length rs ≡ length ss → length (inputs_in inputs (zip rs ss)) ≡ length (filter (is_in inputs) rs)
parts_in inputs [] ss long = refl
parts_in inputs (r ∷ rs) [] long = absurd (omega (arith, long))
parts_in inputs (r ∷ rs) (s ∷ ss) long = by (is_in inputs r) (parts_in inputs rs ss (omega (arith, long)))
  where
    by : (b : Bool) → length (inputs_in inputs (zip rs ss)) ≡ length (filter (is_in inputs) rs)
        → length (if b then (r, s) ∷ inputs_in inputs (zip rs ss) else inputs_in inputs (zip rs ss)) ≡ length (if b then r ∷ filter (is_in inputs) rs else filter (is_in inputs) rs)
    by true rest = ap suc rest
    by false rest = rest

last_of : {X : Type 0} (P : X → Type 0) (xs : List X) (x : X) → AllByRecursion P (xs ++ x ∷ []) → P x
last_of P [] x all = all.0
last_of P (y ∷ xs) x all = last_of P xs x all.1

module _ {D : Type 0} where
  -- the inputs of a merge that started are told no more
  pub started_sizes : (cells : D → Cells) (factor : ℕ) (q s : PrimaryParts D) (task : MergeTask) (starts : StartsMerge factor q task s) → IsPrimary cells s → length q.infos.segs ≡ length q.segs → merge_sizes s ≡ without_range starts.start.from factor (merge_sizes q)
  started_sizes cells factor q s task starts whole long =
      (λ i. map (size_by ((ap merge_inputs merges ∙ held) i)) (segs i))
      ∙ range_sizes inputs (merge_inputs q.merges) starts.start.from factor q.infos.segs (is_range inputs starts.start.from factor q.infos.segs range many few)
    where
      inputs : List SegNo
      inputs = starts.merging.inputs

      segs : s.infos.segs ≡ q.infos.segs
      segs = ap (λ (z : PrimaryParts D). z.infos.segs) starts.next

      merges : s.merges ≡ q.merges ++ starts.merging ∷ []
      merges = ap (λ (z : PrimaryParts D). z.merges) starts.next

      held : merge_inputs (q.merges ++ starts.merging ∷ []) ≡ merge_inputs q.merges ++ inputs
      held = flat_map-append (λ (m : Merging). m.inputs) q.merges (starts.merging ∷ []) ∙ ap (λ (l : List SegNo). merge_inputs q.merges ++ l) (append-nil inputs)

      rows : List SegRecord
      rows = neighbours starts.start.from factor q.infos.segs

      many : length rows ≡ factor
      many =
          let within = starts.start.first.is.within in
          let count = length-map q.infos.segs (size_by (merge_inputs q.merges)) in
          let rest = length-drop starts.start.from q.infos.segs in
          length-take-le factor (drop starts.start.from q.infos.segs) (omega (arith, within, count, rest))

      range : AllByRecursion (λ r. is_in inputs r ≡ true) rows
      range = all_in inputs rows (λ n is. ap (λ (l : List SegNo). list_any (λ seg. seg.0 == n) l) starts.start.inputs_are ∙ is)

      merging : IsMerging (reads_of (cells s.dir)) s.infos.segs s.segs starts.merging
      merging = last_of (IsMerging (reads_of (cells s.dir)) s.infos.segs s.segs) q.merges starts.merging (subst (λ (ms : List Merging). AllByRecursion (IsMerging (reads_of (cells s.dir)) s.infos.segs s.segs) ms) merges whole.merging)

      few : length (filter (is_in inputs) q.infos.segs) ≤ factor
      few =
          let parts = parts_in inputs q.infos.segs q.segs long in
          let same : length (inputs_in inputs (zip s.infos.segs s.segs)) ≡ length (inputs_in inputs (zip q.infos.segs q.segs)) = (λ i. length (inputs_in inputs (zip (segs i) (ap (λ (z : PrimaryParts D). z.segs) starts.next i)))) in
          let listed = length-map (inputs_in inputs (zip s.infos.segs s.segs)) (λ (x : Part). x.0.seg) in
          let are : length (map (λ (x : Part). x.0.seg) (inputs_in inputs (zip s.infos.segs s.segs))) ≡ length inputs = ap length merging.flight.numbers in
          let of : length inputs ≡ length rows = ap length starts.start.inputs_are ∙ length-map rows (λ (r : SegRecord). r.seg) in
          let count = many in
          omega (arith, parts, same, listed, are, of, count)

-- ---- a merge that was given up

fewer : (seg n : ℕ) (ms : List Merging) → list_any (λ g. g.0 == n) (merge_inputs (merges_without seg ms)) ≡ true → list_any (λ g. g.0 == n) (merge_inputs ms) ≡ true
fewer seg n [] is = is
fewer seg n (m ∷ ms) is = list_any-append test m.inputs (merge_inputs ms) ∙ by (m.task.seg.0 == seg) (fewer seg n ms) is
  where
    test : SegNo → Bool
    test g = g.0 == n

    later : (a b : Bool) → b ≡ true → (a || b) ≡ true
    later true b is = refl
    later false b is = is

    both : (a b c : Bool) → (c ≡ true → b ≡ true) → (a || c) ≡ true → (a || b) ≡ true
    both true b c f is = refl
    both false b c f is = f is

    by : (t : Bool) → (list_any test (merge_inputs (merges_without seg ms)) ≡ true → list_any test (merge_inputs ms) ≡ true)
        → list_any test (merge_inputs (if t then ms else m ∷ merges_without seg ms)) ≡ true → (list_any test m.inputs || list_any test (merge_inputs ms)) ≡ true
    by true more is = later (list_any test m.inputs) (list_any test (merge_inputs ms)) is
    by false more is = both (list_any test m.inputs) (list_any test (merge_inputs ms)) (list_any test (merge_inputs (merges_without seg ms))) more
        (sym (list_any-append test m.inputs (merge_inputs (merges_without seg ms))) ∙ is)

told_still : (seg : ℕ) (ms : List Merging) (rs : List SegRecord) → AllZip IsToldStill (map (size_by (merge_inputs ms)) rs) (map (size_by (merge_inputs (merges_without seg ms))) rs)
told_still seg ms [] = tt
told_still seg ms (r ∷ rs) = (by (r.live == 0) (is_in (merge_inputs ms) r) (is_in (merge_inputs (merges_without seg ms)) r) (fewer seg r.seg.0 ms), told_still seg ms rs)
  where
    by : (z a b : Bool) → (b ≡ true → a ≡ true) → IsToldStill (if z || a then None else Some r.live) (if z || b then None else Some r.live)
    by true a b f = tt
    by false true b f = tt
    by false false true f = absurd (true≢false (sym (f refl)))
    by false false false f = refl

module _ {D : Type 0} (cells : D → Cells) where
  -- the sizes that are told are those of the primary
  pub sizes_of : (b : Sheet) (places : List (Option (NodePlace D))) (p : NodeNo) (q : PrimaryParts D) (held : Vec HeldTicket Global) → Shows cells b.log b.nodes places → IsNode b.nodes p.0 → primary_of (printed b.log) ≡ Some p
      → place_of places p.0 ≡ Some (record { node = Primary q; held = held }) → sizes_in places ≡ merge_sizes q
  sizes_of b places p q held shows node primary there =
      sizes_at cells b.log b.nodes p.0 places q held node there (λ m apart. ap (λ (o : Option NodeNo). is_at o m) primary ∙ apart) shows

  module _ (b now : Sheet) (old new : List (Option (NodePlace D))) (p : NodeNo) (was : Shows cells b.log b.nodes old) (shows : Shows cells now.log now.nodes new) (node : IsNode b.nodes p.0) (nodes : now.nodes ≡ b.nodes)
      (primary : primary_of (printed b.log) ≡ Some p) (later : primary_of (printed now.log) ≡ Some p) where
    -- of a primary that moved
    pub sizes_moved : {Step : PrimaryParts D → PrimaryParts D → Type 0} (moved : MovesPrimary Step p.0 old new) → (sizes_in old ≡ merge_sizes moved.at.parts) × (sizes_in new ≡ merge_sizes moved.primary)
    sizes_moved moved = (
      sizes_of b old p moved.at.parts moved.at.held was node primary moved.at.there,
      sizes_of now new p moved.primary moved.at.held shows (subst (λ (k : ℕ). IsNode k p.0) (sym nodes) node) later
          (moved.moves.there p.0 ∙ ap (λ (t : Bool). if t then Some (record { node = Primary moved.primary; held = moved.at.held }) else place_of old p.0) (eq-eqb p.0 p.0 refl)),
    )

    pub sizes_given : (seg : SegNo) (still : List Out → List Out) → MovesPrimary (GivesUpMerge cells seg still) p.0 old new → SizesEnd false (sizes_in old) (sizes_in new)
    sizes_given seg still moved =
        let are = sizes_moved moved in
        subst (λ (z : List (Option ℕ) × List (Option ℕ)). AllZip IsToldStill z.0 z.1)
        (λ i. ((sym are.0) i, (sym (are.1 ∙ λ j. map (size_by (merge_inputs (moved.step.merges j))) (ap (λ (z : PrimaryParts D). z.infos.segs) moved.step.others j))) i))
        (told_still seg.0 moved.at.parts.merges moved.at.parts.infos.segs)
