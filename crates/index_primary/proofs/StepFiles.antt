-- Files that a publish counts for the first time, and those that are not written yet.
use Rattle.std.proofs.Common.{◌≡◌, ◌<◌, ◌+◌, ℕ, List, [], ◌++◌, inl, inr, Option, Some, None, ◌∷◌, sym, ap, subst, ◌∙◌, arith}
use Rattle.std.specs.List.{Contains, flat_map}
use Rattle.std.proofs.lemmas.Bool.{cases_lt}
use Rattle.disk_model.specs.Disk.{Name, Cells, reads_of}
use Rattle.segment_infos.specs.declared.infos.SegRecord.{SegRecord}
use Rattle.segment_infos.specs.declared.infos.Infos.{Infos}
use Rattle.segment_infos.specs.Files.{files_of_segment, AreFilesOf}
use Rattle.seg_reader.specs.Shown.{Shown}
use Rattle.seg_build.specs.Built.{File}
use Rattle.file_deleter.specs.Holdings.{count_of, times}
use Rattle.file_deleter.proofs.NameLemmas.{times-append}
use Rattle.commit_steps.specs.Book.{book_names}
use Rattle.searcher_switch.specs.Tickets.{ticket_names}
use Rattle.searcher_switch.specs.Searching.{searcher_names}
use Rattle.index_primary.specs.declared.parts.PrimaryParts.{PrimaryParts}
use Rattle.index_primary.specs.declared.parts.Publish.{Publish}
use Rattle.index_primary.specs.Held.{IsUndrawn, drawn_to, next_infos}
use Rattle.index_primary.specs.States.{state_names}
use Rattle.index_primary.specs.Merges.{merge_names}
use Rattle.index_primary.specs.Primary.{publish_loose, rest_loose, loose_of, filled_of, IsUnwritten, rest_names, primary_names, IsPrimary}
use Rattle.index_primary.specs.Publishing.{IsStepOf}
use Rattle.index_primary.specs.Calls.{KeepsOthers, FillsUndrawn, DrawsOnly}
use Rattle.index_primary.proofs.Holding.{named_times}
use Rattle.index_primary.proofs.Keeping.{states_split, writer_counted}
use Rattle.index_primary.proofs.NewFiles.{undrawn_of, named_of}
use Rattle.index_primary.proofs.Drawing.{counted_on, drawn_now}

module _ {D : Type 0} (cells : D → Cells) (p n : PrimaryParts D) where
  -- A STEP counts files that were not written yet, beside those that were counted
  pub step_fills : (records : List SegRecord) (fresh : List Shown) (files : List File) → IsPrimary cells p → IsPrimary cells n → IsStepOf p records fresh files
      → n.infos ≡ next_infos p.infos records → n.point_infos ≡ next_infos p.infos records → n.searchers.tickets ≡ p.searchers.tickets → KeepsOthers p n → FillsUndrawn p n
  step_fills records fresh files is now step infos point tickets others = record { each = each }
    where
      named : (q : Name) → count_of p.files q ≡ 0 → Contains (flat_map files_of_segment records) q → IsUnwritten p q
      named q none there = elim (step.named q there) [
        | inl old ↦
            let some : 0 < times p.names q = named_times p.infos p.segs p.names (reads_of (cells p.dir)) is.writer q old in
            absurd (omega (arith, none, writer_counted (cells p.dir) p.files p.searchers p.names (rest_names p) p.commits is.node q some))
        | inr written ↦ step.undrawn q written
      ]

      of_infos : (i : Infos) (names : List Name) (q : Name) → i ≡ next_infos p.infos records → AreFilesOf i names → count_of p.files q ≡ 0 → 0 < times names q → IsUnwritten p q
      of_infos i names q same are none some =
          let there : Contains (flat_map files_of_segment i.segs) q = (are.named q).0 (named_of names q some) in
          named q none (subst (λ (x : Infos). Contains (flat_map files_of_segment x.segs) q) same there)

      each : (q : Name) → count_of p.files q ≡ 0 → 0 < count_of n.files q → IsUnwritten p q
      each q none some = elim (cases_lt 0 (times n.names q)) [
        | inl writer ↦ of_infos n.infos n.names q infos now.writer.files none writer
        | inr beside ↦
            let was : times (primary_names p) q ≡ times (searcher_names p.searchers) q + (times p.names q + (times (state_names p.states) q + times (merge_names p.merges) q)) = states_split p p.states q in
            let is_now : times (primary_names n) q ≡ times (searcher_names n.searchers) q + (times n.names q + (times (state_names n.states) q + times (merge_names n.merges) q)) = states_split n n.states q in
            let before : times (searcher_names p.searchers) q ≡ times p.searchers.point.names q + times (ticket_names p.searchers.tickets) q = times-append p.searchers.point.names (ticket_names p.searchers.tickets) q in
            let after : times (searcher_names n.searchers) q ≡ times n.searchers.point.names q + times (ticket_names n.searchers.tickets) q = times-append n.searchers.point.names (ticket_names n.searchers.tickets) q in
            let held : times (ticket_names n.searchers.tickets) q ≡ times (ticket_names p.searchers.tickets) q = ap (λ ts. times (ticket_names ts) q) tickets in
            let book : times (book_names n.commits) q ≡ times (book_names p.commits) q = ap (λ (x : PrimaryParts D). times (book_names x.commits) q) others in
            let states : times (state_names n.states) q ≡ times (state_names p.states) q = ap (λ (x : PrimaryParts D). times (state_names x.states) q) others in
            let merges : times (merge_names n.merges) q ≡ times (merge_names p.merges) q = ap (λ (x : PrimaryParts D). times (merge_names x.merges) q) others in
            let in_point : 0 < times n.searchers.point.names q = omega (arith, none, some, beside, is.node.counts q, now.node.counts q, was, is_now, before, after, held, book, states, merges) in
            of_infos n.point_infos n.searchers.point.names q point now.searched.files none in_point
      ]

  -- after it no file is unwritten that was not before
  pub step_draws : (records : List SegRecord) (fresh : List Shown) (files : List File) → IsStepOf p records fresh files
      → n.infos ≡ next_infos p.infos records → n.publish ≡ None → KeepsOthers p n → DrawsOnly p n
  step_draws records fresh files step infos none others = record {
    each = λ q undrawn.
        let rest : rest_loose n ≡ rest_loose p = ap (λ (x : PrimaryParts D). rest_loose x) others in
        let filled : filled_of n ≡ filled_of p = ap (λ (x : PrimaryParts D). filled_of x) others in
        let loose : loose_of n ≡ rest_loose p = ap (λ (o : Option Publish). publish_loose o ++ rest_loose n) none ∙ rest in
        (step.rest q (subst (λ (fs : List ℕ). IsUndrawn (next_infos p.infos records) (rest_loose p) fs q) filled (subst (λ (i : Infos). IsUndrawn i (rest_loose p) (filled_of n) q) infos (subst (λ (ls : List ℕ). IsUndrawn n.infos ls (filled_of n) q) loose undrawn)))).0;
  }

-- a publish that starts draws its name, and no file is unwritten after it that was not before
pub start_draws : {D : Type 0} (p : PrimaryParts D) (f : Publish) → p.publish ≡ None → publish_loose (Some f) ≡ drawn_to p.infos ∷ [] → DrawsOnly p (record p { infos = counted_on p.infos; publish = Some f })
start_draws p f none drawn = record {
  each = λ q undrawn.
      subst (λ (o : Option Publish). IsUndrawn p.infos (publish_loose o ++ rest_loose p) (filled_of p) q) (sym none)
      (undrawn_of p.infos (counted_on p.infos) (rest_loose p) (drawn_to p.infos ∷ rest_loose p) (filled_of p) (filled_of p) (drawn_now p.infos (rest_loose p)) (λ seg unused out. out) (λ r live_gen h. record { of = h.of; above = h.above; apart = h.apart; small = h.small }) q
      (subst (λ (ls : List ℕ). IsUndrawn (counted_on p.infos) (ls ++ rest_loose p) (filled_of p) q) drawn undrawn));
}

-- a publish that draws none
pub idle_draws : {D : Type 0} (p : PrimaryParts D) (f : Publish) → p.publish ≡ None → publish_loose (Some f) ≡ [] → DrawsOnly p (record p { publish = Some f })
idle_draws p f none drawn = record {
  each = λ q undrawn.
      subst (λ (o : Option Publish). IsUndrawn p.infos (publish_loose o ++ rest_loose p) (filled_of p) q) (sym none)
      (subst (λ (ls : List ℕ). IsUndrawn p.infos (ls ++ rest_loose p) (filled_of p) q) drawn undrawn);
}
