-- A merge that starts.
use Rattle.std.proofs.Common.{◌≡◌, ◌<◌, ◌≤◌, ◌+◌, ◌==◌, if◌then◌else◌, ℕ, Bool, true, false, List, [], ◌∷◌, ◌++◌, ◌⊎◌, inl, inr, Option, Some, None, refl, sym, subst, ◌∙◌, arith, true≢false}
use Rattle.std.specs.Prelude.{IfSome}
use Rattle.std.specs.List.{AllByRecursion, Contains, filter, flat_map, list_any, zip}
use Rattle.std.proofs.lemmas.Bool.{cases_lt}
use Rattle.std.proofs.lemmas.List.Elements.{Contains-append_cases, Contains-append_left, Contains-append_right}
use Rattle.nrt_base.specs.declared.numbers.SegNo.{SegNo}
use Rattle.nrt_base.proofs.Plain.{contains_later}
use Rattle.disk_model.specs.Disk.{Name, Cells, reads_of}
use Rattle.segment_infos.specs.declared.infos.SegRecord.{SegRecord}
use Rattle.segment_infos.specs.Files.{files_of_segment, AreFilesOf}
use Rattle.file_deleter.specs.Holdings.{Holdings, count_of, times, AreThere}
use Rattle.file_deleter.specs.Moves.{HoldsFiles}
use Rattle.file_deleter.proofs.NameLemmas.{times-append}
use Rattle.seg_merge.specs.declared.task.Merged.{Merged}
use Rattle.seg_merge.specs.Merging.{docs_by_input}
use Rattle.segment_steps.specs.CutOver.{IsMergeOf}
use Rattle.searcher_switch.specs.Searching.{searcher_names}
use Rattle.searcher_switch.specs.Node.{IsWholeNode}
use Rattle.searcher_switch.proofs.Carry.{node_kept, node_there, nothing_written}
use Rattle.index_primary.specs.declared.parts.PrimaryParts.{PrimaryParts}
use Rattle.index_primary.specs.declared.parts.Publish.{Publish}
use Rattle.index_primary.specs.declared.states.Merging.{Merging}
use Rattle.index_primary.specs.Held.{IsUnused, drawn_to}
use Rattle.index_primary.specs.States.{state_names}
use Rattle.index_primary.specs.Merges.{merge_names, merge_loose, merge_filled, merge_inputs, IsMadeBy, AreOtherMerges}
use Rattle.index_primary.specs.Primary.{loose_in, publish_loose, rest_loose, loose_of, filled_of, rest_names, primary_names, IsUnwritten, IsPrimary}
use Rattle.index_primary.specs.Calls.{DrawsOnly, HoldsNoNew}
use Rattle.index_primary.proofs.Holding.{named_times}
use Rattle.index_primary.proofs.Keeping.{writer_counted}
use Rattle.index_primary.proofs.Drawing.{counted_on, counted_held, drawn_now, numbered_on, numbered_within}
use Rattle.index_primary.proofs.NewFiles.{named_of, undrawn_of}
use Rattle.index_primary.proofs.MergeLists.{names_behind, loose_behind, filled_behind, all_behind, apart_behind, inputs_within}
use Rattle.index_primary.specs.StartCalls.{records_in}

-- ---- the names of the inputs' files are names of the infos' files
chosen_in : (test : SegRecord → Bool) (rs : List SegRecord) (q : Name) → Contains (flat_map files_of_segment (filter test rs)) q → Contains (flat_map files_of_segment rs) q
chosen_in test [] q c = c
chosen_in test (r ∷ rs) q c = by (test r) (chosen_in test rs q) c
  where
    by : (b : Bool) → (Contains (flat_map files_of_segment (filter test rs)) q → Contains (flat_map files_of_segment rs) q) → Contains (flat_map files_of_segment (if b then r ∷ filter test rs else filter test rs)) q → Contains (files_of_segment r ++ flat_map files_of_segment rs) q
    by true more d = elim (Contains-append_cases (files_of_segment r) (flat_map files_of_segment (filter test rs)) q d) [
      | inl here ↦ Contains-append_left (files_of_segment r) (flat_map files_of_segment rs) q here
      | inr there ↦ Contains-append_right (files_of_segment r) (flat_map files_of_segment rs) q (more there)
    ]
    by false more d = Contains-append_right (files_of_segment r) (flat_map files_of_segment rs) q (more d)

pub inputs_named : {D : Type 0} (cells : D → Cells) (p : PrimaryParts D) → IsPrimary cells p → (inputs : List SegNo) (names : List Name) → AreFilesOf (record p.infos { segs = records_in inputs p.infos.segs }) names
    → (q : Name) → 0 < times names q → 0 < times p.names q
inputs_named cells p is inputs names are q some = named_times p.infos p.segs p.names (reads_of (cells p.dir)) is.writer q
    (chosen_in (λ (r : SegRecord). list_any (λ (seg : SegNo). seg.0 == r.seg.0) inputs) p.infos.segs q ((are.named q).0 (named_of names q some)))

-- they are there
pub inputs_there : {D : Type 0} (cells : D → Cells) (p : PrimaryParts D) → IsPrimary cells p → (names : List Name) → ((q : Name) → 0 < times names q → 0 < times p.names q) → AreThere (cells p.dir) names
inputs_there cells p is names named = node_there (cells p.dir) p.files (primary_names p) names p.commits is.node (λ q none. by q none (cases_lt 0 (times names q)))
  where
    by : (q : Name) → times (primary_names p) q ≡ 0 → (0 < times names q) ⊎ (times names q ≤ 0) → times names q ≡ 0
    by q none (inl some) = absurd (omega (arith, none, named q some, times-append (searcher_names p.searchers) (p.names ++ rest_names p) q, times-append p.names (rest_names p) q))
    by q none (inr le) = omega (arith, le)

-- ---- numbers
numbers_below : (n : ℕ) (ms : List Merging) → ((k : ℕ) → Contains (merge_loose ms) k → k < n) → AllByRecursion (λ (x : Merging). x.task.seg.0 < n) ms
numbers_below n [] below = tt
numbers_below n (x ∷ ms) below = (below x.task.seg.0 (0, omega arith, refl), numbers_below n ms (λ k c. below k (contains_later x.task.seg.0 k (merge_loose ms) c)))

all_others : (m : Merging) (held : List SegNo) (ms : List Merging) → AllByRecursion (λ (x : Merging). x.task.seg.0 < m.task.seg.0) ms
    → AllByRecursion (λ (x : Merging). (n : ℕ) → list_any (λ (seg : SegNo). seg.0 == n) x.inputs ≡ true → list_any (λ (seg : SegNo). seg.0 == n) held ≡ true) ms
    → ((n : ℕ) → list_any (λ (seg : SegNo). seg.0 == n) m.inputs ≡ true → list_any (λ (seg : SegNo). seg.0 == n) held ≡ false) → AllByRecursion (λ (x : Merging). AreOtherMerges x m) ms
all_others m held [] below within other = tt
all_others m held (x ∷ ms) below within other = (
  record { number = λ e. (let lt = below.0 in omega (arith, e, lt)); inputs = λ n there. by n (within.0 n there) (list_any (λ (seg : SegNo). seg.0 == n) m.inputs) refl },
  all_others m held ms below.1 within.1 other,
)
  where
    by : (n : ℕ) → list_any (λ (seg : SegNo). seg.0 == n) held ≡ true → (b : Bool) → list_any (λ (seg : SegNo). seg.0 == n) m.inputs ≡ b → list_any (λ (seg : SegNo). seg.0 == n) m.inputs ≡ false
    by n there true e = absurd (true≢false (sym there ∙ other n e))
    by n there false e = e

-- ---- all
module _ {D : Type 0} (cells : D → Cells) (p : PrimaryParts D) (is : IsPrimary cells p) (m : Merging) (more : p.infos.counter < 1679616) (number : m.task.seg.0 ≡ drawn_to p.infos) (none : m.merged ≡ None)
    (flight : IsMergeOf (zip p.infos.segs p.segs) m.inputs (docs_by_input m.task.inputs) m.task.live)
    (other : (n : ℕ) → list_any (λ (seg : SegNo). seg.0 == n) m.inputs ≡ true → list_any (λ (seg : SegNo). seg.0 == n) (merge_inputs p.merges) ≡ false)
    (named : (q : Name) → 0 < times m.names q → 0 < times p.names q) (files : Holdings) (holds : HoldsFiles m.names p.files files (cells p.dir)) where
  abbrev all : List Merging
  all = p.merges ++ m ∷ []

  abbrev after : PrimaryParts D
  after = record p { files = files; infos = counted_on p.infos; merges = all }

  names_now : (q : Name) → times (primary_names after) q ≡ times (primary_names p) q + times m.names q
  names_now q =
      let a : times (primary_names after) q ≡ times (searcher_names p.searchers) q + times (p.names ++ (state_names p.states ++ merge_names all)) q = times-append (searcher_names p.searchers) (p.names ++ (state_names p.states ++ merge_names all)) q in
      let b : times (p.names ++ (state_names p.states ++ merge_names all)) q ≡ times p.names q + times (state_names p.states ++ merge_names all) q = times-append p.names (state_names p.states ++ merge_names all) q in
      let c : times (state_names p.states ++ merge_names all) q ≡ times (state_names p.states) q + times (merge_names all) q = times-append (state_names p.states) (merge_names all) q in
      let d : times (primary_names p) q ≡ times (searcher_names p.searchers) q + times (p.names ++ rest_names p) q = times-append (searcher_names p.searchers) (p.names ++ rest_names p) q in
      let e : times (p.names ++ rest_names p) q ≡ times p.names q + times (rest_names p) q = times-append p.names (rest_names p) q in
      omega (arith, a, b, c, d, e, times-append (state_names p.states) (merge_names p.merges) q, names_behind p.merges m q)

  -- what nobody holds is no input's file
  unheld : (q : Name) → count_of p.files q ≡ 0 → times m.names q ≡ 0
  unheld q zero = by (cases_lt 0 (times m.names q))
    where
      by : (0 < times m.names q) ⊎ (times m.names q ≤ 0) → times m.names q ≡ 0
      by (inl some) = absurd (omega (arith, zero, writer_counted (cells p.dir) p.files p.searchers p.names (rest_names p) p.commits is.node q (named q some)))
      by (inr le) = omega (arith, le)

  unnamed : (q : Name) → times (primary_names p) q ≡ 0 → times m.names q ≡ 0
  unnamed q zero = by (cases_lt 0 (times m.names q))
    where
      by : (0 < times m.names q) ⊎ (times m.names q ≤ 0) → times m.names q ≡ 0
      by (inl some) = absurd (omega (arith, zero, named q some, times-append (searcher_names p.searchers) (p.names ++ rest_names p) q, times-append p.names (rest_names p) q))
      by (inr le) = omega (arith, le)

  node_now : IsWholeNode (cells p.dir) files (primary_names after) p.commits
  node_now = node_kept (cells p.dir) (cells p.dir) p.files files (primary_names p) (primary_names after) p.commits [] is.node (nothing_written p.commits) holds.keeps
      (λ q. omega (arith, is.node.counts q, holds.counts q, names_now q))
      (record { each = λ q pending. omega (arith, is.node.plain.each q pending, unnamed q (is.node.plain.each q pending), names_now q) })

  -- a number that is loose now was loose, or is the one that was drawn
  loose_now : (seg : ℕ) → Contains (publish_loose p.publish ++ merge_loose all) seg → Contains (drawn_to p.infos ∷ loose_of p) seg
  loose_now seg c = elim (Contains-append_cases (publish_loose p.publish) (merge_loose all) seg c) [
    | inl a ↦ contains_later (drawn_to p.infos) seg (loose_of p) (Contains-append_left (publish_loose p.publish) (rest_loose p) seg a)
    | inr b ↦ (elim (loose_behind p.merges m seg b) [
      | inl own ↦ (0, omega arith, sym number ∙ own)
      | inr old ↦ contains_later (drawn_to p.infos) seg (loose_of p) (Contains-append_right (publish_loose p.publish) (rest_loose p) seg old)
    ])
  ]

  unused_now : (seg : ℕ) → IsUnused (counted_on p.infos) (publish_loose p.publish ++ merge_loose all) seg → IsUnused p.infos (loose_of p) seg
  unused_now seg (small, inl le) = drawn_now p.infos (loose_of p) seg (small, inl le)
  unused_now seg (small, inr c) = drawn_now p.infos (loose_of p) seg (small, inr (loose_now seg c))

  unwritten_before : (q : Name) → IsUnwritten after q → IsUnwritten p q
  unwritten_before q u = undrawn_of p.infos (counted_on p.infos) (loose_of p) (publish_loose p.publish ++ merge_loose all) (filled_of p) (merge_filled all) unused_now
      (λ seg unused out. subst (λ (ls : List ℕ). Contains ls seg → ⊥) (filled_behind p.merges m none) out)
      (λ r live_gen h. record { of = h.of; above = h.above; apart = h.apart; small = h.small }) q u

  alone_now : (o : Option Publish) → IfSome o (λ f. (n : ℕ) → Contains (loose_in f.seg) n → Contains (rest_loose p) n → ⊥) → ((n : ℕ) → Contains (publish_loose o) n → n < drawn_to p.infos)
      → IfSome o (λ f. (n : ℕ) → Contains (loose_in f.seg) n → Contains (merge_loose all) n → ⊥)
  alone_now None old below = tt
  alone_now (Some f) old below = λ n c d. elim (loose_behind p.merges m n d) [ inl own ↦ omega (arith, below n c, number, own) | inr rest ↦ old n c rest ]

  -- A MERGE IS IN FLIGHT
  pub primary_begins_merge : IsPrimary cells after
  primary_begins_merge = record {
    node = node_now;
    standing = is.standing;
    writer = counted_held (reads_of (cells p.dir)) p.infos p.segs p.names is.writer;
    searched = is.searched;
    version = is.version;
    versions = is.versions;
    undrawn = record { each = λ q u. let zero : count_of p.files q ≡ 0 = is.undrawn.each q (unwritten_before q u) in omega (arith, zero, unheld q zero, holds.counts q) };
    numbered = numbered_within (counted_on p.infos) (drawn_to p.infos ∷ loose_of p) (publish_loose p.publish ++ merge_loose all) loose_now (numbered_on p.infos (loose_of p) more is.numbered);
    waits = is.waits;
    few = is.few;
    alone = alone_now p.publish is.alone (λ n c. is.numbered.loose_below n (Contains-append_left (publish_loose p.publish) (rest_loose p) n c));
    merging = all_behind _ p.merges m is.merging (record { flight = flight; made = subst (λ (o : Option Merged). IsMadeBy (reads_of (cells p.dir)) m o) (sym none) tt });
    merges_apart = apart_behind p.merges m is.merges_apart
        (all_others m (merge_inputs p.merges) p.merges
        (numbers_below m.task.seg.0 p.merges (λ k c. (let lt = is.numbered.loose_below k (Contains-append_right (publish_loose p.publish) (rest_loose p) k c) in omega (arith, lt, number)))) (inputs_within p.merges) other);
    completed = is.completed;
  }

  pub begun_draws : DrawsOnly p after
  begun_draws = record { each = unwritten_before }

  pub begun_no_new : HoldsNoNew p after
  begun_no_new = record { each = λ q zero. omega (arith, zero, unheld q zero, holds.counts q) }
