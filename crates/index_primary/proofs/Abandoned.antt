-- A merge that is given up, and calls that are refused on their way.
use Rattle.std.proofs.Common.{◌≡◌, ◌<◌, ◌+◌, ℕ, List, ◌++◌, inl, inr, Option, Some, None, sym, subst, ◌∙◌, arith}
use Rattle.std.specs.Prelude.{IfSome}
use Rattle.std.specs.List.{Contains}
use Rattle.std.proofs.lemmas.List.Elements.{Contains-append_cases, Contains-append_left, Contains-append_right}
use Rattle.nrt_base.specs.declared.numbers.SegNo.{SegNo}
use Rattle.disk_model.specs.Disk.{Name, Cells, reads_of}
use Rattle.file_deleter.specs.Holdings.{Holdings, count_of, times, AreCounted}
use Rattle.file_deleter.specs.Moves.{KeepsFiles, LetsGo}
use Rattle.file_deleter.proofs.NameLemmas.{times-append}
use Rattle.searcher_switch.specs.Searching.{searcher_names}
use Rattle.searcher_switch.specs.Node.{IsWholeNode}
use Rattle.searcher_switch.proofs.Carry.{node_lets_go, node_same_names, front_counted}
use Rattle.index_primary.specs.declared.parts.PrimaryParts.{PrimaryParts}
use Rattle.index_primary.specs.declared.parts.Publish.{Publish}
use Rattle.index_primary.specs.declared.states.Merging.{Merging}
use Rattle.index_primary.specs.Held.{IsUnused}
use Rattle.index_primary.specs.States.{state_names}
use Rattle.index_primary.specs.Merges.{merge_names, merge_loose, merge_of, merges_without, IsMerging}
use Rattle.index_primary.specs.Primary.{loose_in, publish_loose, rest_loose, loose_of, filled_of, rest_names, primary_names, IsUnwritten, IsPrimary, KeepsHeldBytes}
use Rattle.index_primary.specs.Calls.{FillsUndrawn, DrawsOnly, HoldsNoNew}
use Rattle.index_primary.proofs.Drawing.{numbered_within}
use Rattle.index_primary.proofs.NewFiles.{undrawn_of}
use Rattle.index_primary.proofs.MergeLists.{names_split, loose_at, loose_without, loose_gone, filled_or, all_without, apart_without}
use Rattle.index_primary.specs.MergeCalls.{loose_left, filled_left}
use Rattle.index_primary.proofs.Carrying.{standing_carried, writer_carried, searched_carried, merging_carried}

module _ {D : Type 0} (cells : D → Cells) (p : PrimaryParts D) (is : IsPrimary cells p) (seg : SegNo) (m : Merging) (found : merge_of seg.0 p.merges ≡ Some m) where
  abbrev left : List Merging
  left = merges_without seg.0 p.merges

  abbrev left_names : List Name
  left_names = searcher_names p.searchers ++ (p.names ++ (state_names p.states ++ merge_names left))

  -- ---- numbers
  pub loose_within : (k : ℕ) → Contains (loose_left p seg) k → Contains (loose_of p) k
  loose_within k c = elim (Contains-append_cases (publish_loose p.publish) (merge_loose left) k c) [
    | inl a ↦ Contains-append_left (publish_loose p.publish) (rest_loose p) k a
    | inr b ↦ Contains-append_right (publish_loose p.publish) (rest_loose p) k (loose_without seg.0 p.merges k b)
  ]

  pub is_loose : Contains (loose_of p) seg.0
  is_loose = Contains-append_right (publish_loose p.publish) (rest_loose p) seg.0 (loose_at seg.0 p.merges m found)

  -- its number is loose no more
  not_publish : (o : Option Publish) → IfSome o (λ f. (k : ℕ) → Contains (loose_in f.seg) k → Contains (rest_loose p) k → ⊥) → Contains (publish_loose o) seg.0 → ⊥
  not_publish None alone c = absurd (omega (arith, c.1))
  not_publish (Some f) alone c = alone seg.0 c (loose_at seg.0 p.merges m found)

  pub not_left : Contains (loose_left p seg) seg.0 → ⊥
  not_left c = elim (Contains-append_cases (publish_loose p.publish) (merge_loose left) seg.0 c) [
    | inl a ↦ not_publish p.publish is.alone a
    | inr b ↦ loose_gone seg.0 p.merges m is.merges_apart found b
  ]

  pub unused_within : (k : ℕ) → IsUnused p.infos (loose_left p seg) k → IsUnused p.infos (loose_of p) k
  unused_within k (small, inl le) = (small, inl le)
  unused_within k (small, inr c) = (small, inr (loose_within k c))

  not_unused : IsUnused p.infos (loose_left p seg) seg.0 → ⊥
  not_unused (small, inl le) = absurd (omega (arith, le, is.numbered.loose_below seg.0 is_loose))
  not_unused (small, inr c) = not_left c

  pub outs_within : (k : ℕ) → IsUnused p.infos (loose_left p seg) k → (Contains (filled_left p seg) k → ⊥) → Contains (filled_of p) k → ⊥
  outs_within k unused out c = elim (filled_or seg.0 p.merges k c) [ inl own ↦ not_unused (subst (IsUnused p.infos (loose_left p seg)) (sym own) unused) | inr more ↦ out more ]

  -- ---- counts
  pub names_left : (q : Name) → times (m.names ++ left_names) q ≡ times (primary_names p) q
  names_left q =
      let a : times (m.names ++ left_names) q ≡ times m.names q + times left_names q = times-append m.names left_names q in
      let b : times left_names q ≡ times (searcher_names p.searchers) q + times (p.names ++ (state_names p.states ++ merge_names left)) q = times-append (searcher_names p.searchers) (p.names ++ (state_names p.states ++ merge_names left)) q in
      let c : times (p.names ++ (state_names p.states ++ merge_names left)) q ≡ times p.names q + times (state_names p.states ++ merge_names left) q = times-append p.names (state_names p.states ++ merge_names left) q in
      let d : times (state_names p.states ++ merge_names left) q ≡ times (state_names p.states) q + times (merge_names left) q = times-append (state_names p.states) (merge_names left) q in
      let e : times (primary_names p) q ≡ times (searcher_names p.searchers) q + times (p.names ++ rest_names p) q = times-append (searcher_names p.searchers) (p.names ++ rest_names p) q in
      let f : times (p.names ++ rest_names p) q ≡ times p.names q + times (rest_names p) q = times-append p.names (rest_names p) q in
      omega (arith, a, b, c, d, e, f, times-append (state_names p.states) (merge_names p.merges) q, names_split seg.0 p.merges m q found)

  node_left : IsWholeNode (cells p.dir) p.files (m.names ++ left_names) p.commits
  node_left = node_same_names (cells p.dir) p.files (primary_names p) (m.names ++ left_names) p.commits is.node names_left

  pub names_counted : AreCounted m.names p.files
  names_counted = front_counted (cells p.dir) p.files m.names left_names p.commits node_left

  module _ (dir : D) (files : Holdings) (lets : LetsGo m.names p.files files (cells p.dir) (cells dir)) where
    abbrev after : PrimaryParts D
    after = record p { dir = dir; files = files; merges = left }

    node_now : IsWholeNode (cells dir) files left_names p.commits
    node_now = node_lets_go (cells p.dir) (cells dir) p.files files left_names m.names p.commits node_left lets

    reads_now : (q : Name) → 0 < count_of p.files q → 0 < count_of files q → (cells dir q).now ≡ (cells p.dir q).now
    reads_now q had has = lets.keeps.reads q had has

    unwritten_before : (q : Name) → IsUnwritten after q → IsUnwritten p q
    unwritten_before q u = undrawn_of p.infos p.infos (loose_of p) (loose_left p seg) (filled_of p) (filled_left p seg) unused_within outs_within (λ r live_gen h. h) q u

    alone_now : (o : Option Publish) → IfSome o (λ f. (k : ℕ) → Contains (loose_in f.seg) k → Contains (rest_loose p) k → ⊥) → IfSome o (λ f. (k : ℕ) → Contains (loose_in f.seg) k → Contains (merge_loose left) k → ⊥)
    alone_now None alone = tt
    alone_now (Some f) alone = λ k c d. alone k c (loose_without seg.0 p.merges k d)

    -- A MERGE HAS ENDED, and nothing is left of it
    pub primary_abandons : IsPrimary cells after
    primary_abandons = record {
      node = node_now;
      standing = standing_carried cells p is dir files p.states left node_now reads_now;
      writer = writer_carried cells p is dir files p.states left node_now reads_now;
      searched = searched_carried cells p is dir files p.states left node_now reads_now;
      version = is.version;
      versions = is.versions;
      undrawn = record { each = λ q u. (let zero : count_of p.files q ≡ 0 = is.undrawn.each q (unwritten_before q u) in omega (arith, zero, lets.counts q)) };
      numbered = numbered_within p.infos (loose_of p) (loose_left p seg) loose_within is.numbered;
      waits = is.waits;
      few = is.few;
      alone = alone_now p.publish is.alone;
      merging = merging_carried cells p is dir files p.states left node_now reads_now left (all_without (IsMerging (reads_of (cells p.dir)) p.infos.segs p.segs) seg.0 p.merges is.merging)
          (λ q some. (omega (arith, some, names_split seg.0 p.merges m q found), some));
      merges_apart = apart_without seg.0 p.merges is.merges_apart;
      completed = is.completed;
    }

    pub abandon_draws : DrawsOnly p after
    abandon_draws = record { each = unwritten_before }

    pub abandon_no_new : HoldsNoNew p after
    abandon_no_new = record { each = λ q zero. omega (arith, zero, lets.counts q) }

-- ---- a call that is refused on its way, where each file is counted as before
module _ {D : Type 0} (cells : D → Cells) (p m n : PrimaryParts D) (same : (q : Name) → count_of m.files q ≡ count_of p.files q) where
  pub refused_no_new : HoldsNoNew m n → HoldsNoNew p n
  refused_no_new h = record { each = λ q zero. h.each q (same q ∙ zero) }

  pub refused_fills : HoldsNoNew m n → FillsUndrawn p n
  refused_fills h = record { each = λ q zero some. let none : count_of n.files q ≡ 0 = h.each q (same q ∙ zero) in absurd (omega (arith, some, none)) }

  pub refused_stays : (written : List Name) → KeepsFiles written p.files m.files (cells p.dir) (cells m.dir) → KeepsHeldBytes cells m n → KeepsHeldBytes cells p n
  refused_stays written keeps h = record { held = λ q had has. let mid : 0 < count_of m.files q = omega (arith, had, same q) in h.held q mid has ∙ keeps.reads q had mid }
