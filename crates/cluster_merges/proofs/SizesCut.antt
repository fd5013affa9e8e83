-- The sizes of the primary's segments where a merge is cut over.
use Rattle.std.proofs.Common.{◌≡◌, ◌≢◌, ◌<◌, ◌==◌, ◌||◌, ◌++◌, ◌∷◌, [], ℕ, zero, suc, Bool, true, false, List, map, length, not, nat_lt, Some, None, Option, refl, ap, ◌∙◌, sym, subst, arith, if◌then◌else◌}
use Rattle.std.specs.List.{All, AllByRecursion, AllZip, list_any, zip}
use Rattle.std.proofs.Math.Bool.{or_assoc, or_comm}
use Rattle.std.proofs.lemmas.Bool.{ne_eqb, lt-ltb}
use Rattle.std.proofs.lemmas.List.{length-map, map-append}
use Rattle.std.proofs.lemmas.List.Elements.{Contains-append_right}
use Rattle.std.proofs.lemmas.List.Folds.{list_any-append}
use Rattle.std.proofs.lemmas.Slice.Zip.{AllZip-long}
use Rattle.nrt_base.specs.declared.numbers.NodeNo.{NodeNo}
use Rattle.nrt_base.specs.declared.numbers.SegNo.{SegNo}
use Rattle.disk_model.specs.Disk.{Name, Content, Cells, reads_of}
use Rattle.copy_state.specs.declared.state.CopyState.{CopyState}
use Rattle.segment_infos.specs.declared.infos.Infos.{Infos}
use Rattle.segment_infos.specs.declared.infos.SegRecord.{SegRecord}
use Rattle.seg_reader.specs.Shown.{Shown}
use Rattle.seg_reader.specs.Stands.{IsSegmentIn}
use Rattle.segment_steps.specs.Next.{Turn, record_by, record_after, stays}
use Rattle.segment_steps.specs.Starting.{size_by}
use Rattle.segment_steps.specs.CutOver.{Part, inputs_in, others_in, in_place, lives_of, merged_turn, merged_turns, part_after}
use Rattle.index_primary.specs.declared.parts.PrimaryParts.{PrimaryParts}
use Rattle.index_primary.specs.declared.states.Merging.{Merging}
use Rattle.index_primary.specs.CutOverCalls.{IsCutOver}
use Rattle.index_primary.specs.Merges.{merge_inputs, merge_loose, merge_of, merges_without, IsMadeBy, IsMerging}
use Rattle.index_primary.specs.Primary.{IsPrimary, publish_loose}
use Rattle.index_primary.specs.StartCalls.{merge_sizes}
use Rattle.index_primary.proofs.MergeLists.{all_without, loose_at}
use Rattle.history_rules.specs.Nodes.{IsNode, primary_of}
use Rattle.history_book.specs.Log.{printed}
use Rattle.merge_tasks.specs.Merging.{Sheet}
use Rattle.cluster_nodes.specs.declared.nodes.Node.TheVariants.{Primary}
use Rattle.cluster_nodes.specs.declared.nodes.NodePlace.{NodePlace}
use Rattle.cluster_nodes.specs.Places.{place_of}
use Rattle.node_merges.specs.MergeChanges.{CutsMerge}
use Rattle.node_merges.specs.MergePlaces.{MovesPrimary}
use Rattle.cluster_state.specs.Sizes.{sizes_in}
use Rattle.cluster_state.specs.State.{PlaceShows, Shows}
use Rattle.cluster_state.proofs.Frames.{some_at}
use Rattle.cluster_merges.specs.MergeSizes.{beside_inputs, in_their_place, merged_size, CutsSizes, SizesEnd}
use Rattle.cluster_merges.proofs.SizesEnded.{is_in, sizes_moved}
use Rattle.cluster_merges.proofs.StandSteps.{merge_numbered}

-- ---- the inputs of merges

-- those of one and those of the others
inputs_split : (test : SegNo → Bool) (seg : ℕ) (ms : List Merging) (m : Merging) → merge_of seg ms ≡ Some m → list_any test (merge_inputs ms) ≡ (list_any test m.inputs || list_any test (merge_inputs (merges_without seg ms)))
inputs_split test seg [] m is = absurd (cc)
inputs_split test seg (x ∷ ms) m is = list_any-append test x.inputs (merge_inputs ms) ∙ by (x.task.seg.0 == seg) (inputs_split test seg ms m) is
  where
    by : (t : Bool) → (merge_of seg ms ≡ Some m → list_any test (merge_inputs ms) ≡ (list_any test m.inputs || list_any test (merge_inputs (merges_without seg ms)))) → (if t then Some x else merge_of seg ms) ≡ Some m
        → (list_any test x.inputs || list_any test (merge_inputs ms)) ≡ (list_any test m.inputs || list_any test (merge_inputs (if t then ms else x ∷ merges_without seg ms)))
    by true more is = let same : ◌≡◌ {A = Merging} x m = cc in ap (λ (y : Merging). list_any test y.inputs || list_any test (merge_inputs ms)) same
    by false more is =
        let first : Bool = list_any test x.inputs in
        let its : Bool = list_any test m.inputs in
        let others : Bool = list_any test (merge_inputs (merges_without seg ms)) in
        ap (λ (b : Bool). first || b) (more is)
        ∙ (sym (or_assoc first its others) ∙ (ap (λ (b : Bool). b || others) (or_comm first its) ∙ (or_assoc its first others
        ∙ ap (λ (b : Bool). its || b) (sym (list_any-append test x.inputs (merge_inputs (merges_without seg ms)))))))

-- a number of no record is none of them
no_part : (n : ℕ) (inputs : List SegNo) (rs : List SegRecord) (ss : List Shown) → All (λ r. r.seg.0 ≢ n) rs → list_any (λ g. g.0 == n) (map (λ (x : Part). x.0.seg) (inputs_in inputs (zip rs ss))) ≡ false
no_part n inputs [] ss apart = refl
no_part n inputs (r ∷ rs) [] apart = refl
no_part n inputs (r ∷ rs) (s ∷ ss) apart = by (is_in inputs r) (no_part n inputs rs ss (λ k d l. apart (suc k) d (omega (arith, l))))
  where
    by : (t : Bool) → list_any (λ g. g.0 == n) (map (λ (x : Part). x.0.seg) (inputs_in inputs (zip rs ss))) ≡ false
        → list_any (λ g. g.0 == n) (map (λ (x : Part). x.0.seg) (if t then (r, s) ∷ inputs_in inputs (zip rs ss) else inputs_in inputs (zip rs ss))) ≡ false
    by true rest = ap (λ (b : Bool). b || list_any (λ g. g.0 == n) (map (λ (x : Part). x.0.seg) (inputs_in inputs (zip rs ss)))) (ne_eqb r.seg.0 n (apart 0 r (omega arith))) ∙ rest
    by false rest = rest

no_input : (n : ℕ) (reads : Name → Content) (rs : List SegRecord) (ss : List Shown) (ms : List Merging) → All (λ r. r.seg.0 ≢ n) rs → AllByRecursion (IsMerging reads rs ss) ms → list_any (λ g. g.0 == n) (merge_inputs ms) ≡ false
no_input n reads rs ss [] apart all = refl
no_input n reads rs ss (m ∷ ms) apart all =
    list_any-append (λ g. g.0 == n) m.inputs (merge_inputs ms)
    ∙ (ap (λ (b : Bool). b || list_any (λ g. g.0 == n) (merge_inputs ms)) (ap (λ (l : List SegNo). list_any (λ g. g.0 == n) l) (sym all.0.flight.numbers) ∙ no_part n m.inputs rs ss apart)
    ∙ no_input n reads rs ss ms apart all.1)

-- what is so of all is so of the one of a number
all_found : (P : Merging → Type 0) (seg : ℕ) (ms : List Merging) (m : Merging) → merge_of seg ms ≡ Some m → AllByRecursion P ms → P m
all_found P seg [] m is all = absurd (cc)
all_found P seg (x ∷ ms) m is all = by (x.task.seg.0 == seg) (λ e. all_found P seg ms m e all.1) is
  where
    by : (t : Bool) → (merge_of seg ms ≡ Some m → P m) → (if t then Some x else merge_of seg ms) ≡ Some m → P m
    by true rest is = let same : ◌≡◌ {A = Merging} x m = cc in subst P same all.0
    by false rest is = rest is

-- ---- the sizes

module _ (inputs held rest : List SegNo) (split : (r : SegRecord) → is_in held r ≡ (is_in inputs r || is_in rest r)) where
  -- of a segment that stays
  size_stays : (r : SegRecord) → is_in inputs r ≡ false → size_by rest r ≡ size_by held r
  size_stays r none = ap (λ (b : Bool). if (r.live == 0) || b then None else Some r.live) (sym (split r ∙ ap (λ (b : Bool). b || is_in rest r) none))

  -- of an input
  size_held : (r : SegRecord) → is_in inputs r ≡ true → size_by held r ≡ None
  size_held r is = by (r.live == 0) (is_in held r) (split r ∙ ap (λ (b : Bool). b || is_in rest r) is)
    where
      by : (z a : Bool) → a ≡ true → (if z || a then None else Some r.live) ≡ None
      by true a e = refl
      by false a e = ap (λ (t : Bool). if t then None else Some r.live) e

  untold : (rs : List SegRecord) → AllZip (λ b s. b ≡ true → s ≡ None) (map (is_in inputs) rs) (map (size_by held) rs)
  untold [] = tt
  untold (r ∷ rs) = (size_held r, untold rs)

  others_sizes : (rs : List SegRecord) (ss : List Shown) → length rs ≡ length ss → map (size_by rest) (map (λ (x : Part). x.0) (others_in inputs (zip rs ss))) ≡ beside_inputs (map (is_in inputs) rs) (map (size_by held) rs)
  others_sizes [] ss long = refl
  others_sizes (r ∷ rs) [] long = absurd (omega (arith, long))
  others_sizes (r ∷ rs) (s ∷ ss) long = by (is_in inputs r) refl (others_sizes rs ss (omega (arith, long)))
    where
      by : (t : Bool) → is_in inputs r ≡ t → map (size_by rest) (map (λ (x : Part). x.0) (others_in inputs (zip rs ss))) ≡ beside_inputs (map (is_in inputs) rs) (map (size_by held) rs)
          → map (size_by rest) (map (λ (x : Part). x.0) (if not t then (r, s) ∷ others_in inputs (zip rs ss) else others_in inputs (zip rs ss))) ≡ beside_inputs (t ∷ map (is_in inputs) rs) (size_by held r ∷ map (size_by held) rs)
      by true is more = more
      by false none more = λ i. size_stays r none i ∷ more i

  place_sizes_are : (merged : List Part) (told : List (Option ℕ)) → map (size_by rest) (map (λ (x : Part). x.0) merged) ≡ told → (rs : List SegRecord) (ss : List Shown) → length rs ≡ length ss
      → map (size_by rest) (map (λ (x : Part). x.0) (in_place inputs merged (zip rs ss))) ≡ in_their_place told (map (is_in inputs) rs) (map (size_by held) rs)
  place_sizes_are merged told new [] ss long = refl
  place_sizes_are merged told new (r ∷ rs) [] long = absurd (omega (arith, long))
  place_sizes_are merged told new (r ∷ rs) (s ∷ ss) long = by (is_in inputs r) refl (place_sizes_are merged told new rs ss (omega (arith, long)))
    where
      parts : Part → SegRecord
      parts x = x.0

      by : (t : Bool) → is_in inputs r ≡ t
          → map (size_by rest) (map parts (in_place inputs merged (zip rs ss))) ≡ in_their_place told (map (is_in inputs) rs) (map (size_by held) rs)
          → map (size_by rest) (map parts (if t then merged ++ others_in inputs (zip rs ss) else (r, s) ∷ in_place inputs merged (zip rs ss))) ≡ in_their_place told (t ∷ map (is_in inputs) rs) (size_by held r ∷ map (size_by held) rs)
      by true is more =
          ap (map (size_by rest)) (map-append parts merged (others_in inputs (zip rs ss)))
          ∙ (map-append (size_by rest) (map parts merged) (map parts (others_in inputs (zip rs ss)))
          ∙ λ i. new i ++ others_sizes rs ss (omega (arith, long)) i)
      by false none more = λ i. size_stays r none i ∷ more i

-- some record is an input
some_input : (inputs : List SegNo) (rs : List SegRecord) (ss : List Shown) → length rs ≡ length ss → 0 < length (inputs_in inputs (zip rs ss)) → list_any (λ b. b) (map (is_in inputs) rs) ≡ true
some_input inputs [] ss long has = absurd (omega (arith, has))
some_input inputs (r ∷ rs) [] long has = absurd (omega (arith, long))
some_input inputs (r ∷ rs) (s ∷ ss) long has = by (is_in inputs r) (some_input inputs rs ss (omega (arith, long))) has
  where
    by : (t : Bool) → (0 < length (inputs_in inputs (zip rs ss)) → list_any (λ b. b) (map (is_in inputs) rs) ≡ true)
        → 0 < length (if t then (r, s) ∷ inputs_in inputs (zip rs ss) else inputs_in inputs (zip rs ss)) → (t || list_any (λ b. b) (map (is_in inputs) rs)) ≡ true
    by true more has = refl
    by false more has = more has

-- the number of a record stays
number_by : (g : ℕ) (r : SegRecord) (o : Option (List Bool)) → (record_by g r o).seg.0 ≡ r.seg.0
number_by g r None = refl
number_by g r (Some live) = refl

-- the merged segment's size
new_size : (g : ℕ) (t : Turn) (rest : List SegNo) → is_in rest (record_after g t) ≡ false
    → map (size_by rest) (map (λ (x : Part). x.0) (map (part_after g) (if stays g [] t then t ∷ [] else []))) ≡ merged_size (record_after g t).live
new_size g t rest none = by (record_after g t).live refl
  where
    r : SegRecord
    r = record_after g t

    by : (k : ℕ) → r.live ≡ k → map (size_by rest) (map (λ (x : Part). x.0) (map (part_after g) (if stays g [] t then t ∷ [] else []))) ≡ merged_size r.live
    by zero e = ap (λ (n : ℕ). map (size_by rest) (map (λ (x : Part). x.0) (map (part_after g) (if nat_lt 0 n || false then t ∷ [] else [])))) e ∙ ap merged_size (sym e)
    by (suc k) e =
        let told : (r.live == 0) ≡ false = ne_eqb r.live 0 (λ none_live. absurd (omega (arith, e, none_live))) in
        ap (λ (b : Bool). map (size_by rest) (map (λ (x : Part). x.0) (map (part_after g) (if b || false then t ∷ [] else [])))) (lt-ltb 0 r.live (omega (arith, e)))
        ∙ ((λ i. (if told i || none i then None else Some r.live) ∷ []) ∙ (ap (λ (n : ℕ). Some n ∷ []) e ∙ ap merged_size (sym e)))

module _ {D : Type 0} where
  pub cut_sizes : (cells : D → Cells) (seg : SegNo) (q s : PrimaryParts D) → IsPrimary cells q → IsCutOver seg q s → CutsSizes (merge_sizes q) (merge_sizes s)
  cut_sizes cells seg q s whole cut = record {
    inputs = map (is_in m.inputs) q.infos.segs;
    count = length-map q.infos.segs (is_in m.inputs) ∙ sym (length-map q.infos.segs (size_by held));
    some =
        let listed = length-map (inputs_in m.inputs (zip q.infos.segs q.segs)) (λ (x : Part). x.0.seg) in
        let are : length (map (λ (x : Part). x.0.seg) (inputs_in m.inputs (zip q.infos.segs q.segs))) ≡ length m.inputs = ap length mine.flight.numbers in
        let some = mine.flight.some in
        some_input m.inputs q.infos.segs q.segs long (omega (arith, listed, are, some));
    untold = untold m.inputs held rest split q.infos.segs;
    live = (record_after g turn).live;
    are = (λ i. map (size_by (merge_inputs (cut.merges i))) ((ap (λ (x : Infos). x.segs) cut.infos ∙ cut.cut.records_are) i))
        ∙ place_sizes_are m.inputs held rest split (map (part_after g) (merged_turns g cut.merged cut.shown lives)) (merged_size (record_after g turn).live) (new_size g turn rest none) q.infos.segs q.segs long;
  }
    where
      m : Merging
      m = cut.m

      held : List SegNo
      held = merge_inputs q.merges

      rest : List SegNo
      rest = merge_inputs (merges_without seg.0 q.merges)

      g : ℕ
      g = q.infos.generation.0

      lives : List (List Bool)
      lives = lives_of (inputs_in m.inputs (zip q.infos.segs q.segs))

      turn : Turn
      turn = merged_turn cut.merged cut.shown lives

      split : (r : SegRecord) → is_in held r ≡ (is_in m.inputs r || is_in rest r)
      split r = inputs_split (λ x. x.0 == r.seg.0) seg.0 q.merges m cut.found

      long : length q.infos.segs ≡ length q.segs
      long = sym (AllZip-long (IsSegmentIn (reads_of (cells q.dir))) q.infos.segs q.segs whole.writer.stands.each)

      mine : IsMerging (reads_of (cells q.dir)) q.infos.segs q.segs m
      mine = all_found (IsMerging (reads_of (cells q.dir)) q.infos.segs q.segs) seg.0 q.merges m cut.found whole.merging

      number : (record_after g turn).seg.0 ≡ seg.0
      number = number_by g turn.0 turn.1.1 ∙ (ap (λ (x : SegNo). x.0) (subst (IsMadeBy (reads_of (cells q.dir)) m) cut.is_merged mine.made).of.number ∙ merge_numbered q.merges seg.0 m cut.found)

      apart : All (λ r. r.seg.0 ≢ seg.0) q.infos.segs
      apart = whole.numbered.loose_apart seg.0 (Contains-append_right (publish_loose q.publish) (merge_loose q.merges) seg.0 (loose_at seg.0 q.merges m cut.found))

      none : is_in rest (record_after g turn) ≡ false
      none = ap (λ (k : ℕ). list_any (λ x. x.0 == k) rest) number
          ∙ no_input seg.0 (reads_of (cells q.dir)) q.infos.segs q.segs (merges_without seg.0 q.merges) apart (all_without (IsMerging (reads_of (cells q.dir)) q.infos.segs q.segs) seg.0 q.merges whole.merging)

module _ {D : Type 0} (cells : D → Cells) (b now : Sheet) (old new : List (Option (NodePlace D))) (p : NodeNo) (was : Shows cells b.log b.nodes old) (shows : Shows cells now.log now.nodes new) (node : IsNode b.nodes p.0) (nodes : now.nodes ≡ b.nodes)
    (primary : primary_of (printed b.log) ≡ Some p) (later : primary_of (printed now.log) ≡ Some p) where
  -- of the primary that cut it over
  pub sizes_cut : (seg : SegNo) (state : CopyState) → MovesPrimary (CutsMerge cells seg state) p.0 old new → SizesEnd true (sizes_in old) (sizes_in new)
  sizes_cut seg state moved =
      let are = sizes_moved cells b now old new p was shows node nodes primary later moved in
      let place = some_at (PlaceShows cells b.log p.0) (place_of old p.0) (record { node = Primary moved.at.parts; held = moved.at.held }) moved.at.there (was.each p.0 node) in
      subst (λ (z : List (Option ℕ) × List (Option ℕ)). CutsSizes z.0 z.1) (λ i. ((sym are.0) i, (sym are.1) i)) (cut_sizes cells seg moved.at.parts moved.primary place.node_shows.whole moved.step.cut)
