-- A merge that was chosen starts.
use Rattle.std.proofs.Common.{◌≡◌, ◌<◌, ◌≤◌, ◌==◌, ℕ, Bool, true, false, List, [], ◌∷◌, ◌++◌, None, drop, refl, sym, ap, subst, ◌∙◌, All}
use Rattle.std.specs.List.{list_any, zip}
use Rattle.std.proofs.lemmas.List.Elements.{All-take, All-drop}
use Rattle.nrt_base.specs.declared.numbers.SegNo.{SegNo}
use Rattle.disk_model.specs.Disk.{Name, Cells, reads_of}
use Rattle.file_deleter.specs.Holdings.{Holdings, times, AreThere}
use Rattle.file_deleter.specs.Moves.{HoldsFiles}
use Rattle.segment_infos.specs.Files.{AreFilesOf}
use Rattle.seg_reader.specs.Shown.{Shown}
use Rattle.seg_reader.specs.Sound.{IsSound}
use Rattle.seg_merge.specs.declared.task.MergeTask.{MergeTask}
use Rattle.seg_merge.specs.Merging.{docs_by_input}
use Rattle.segment_steps.specs.declared.starting.MergeStart.{MergeStart}
use Rattle.segment_steps.specs.Starting.{IsStart}
use Rattle.segment_steps.specs.CutOver.{IsMergeOf}
use Rattle.segment_steps.proofs.MergeStarts.{start_is_merge, start_fits, start_apart}
use Rattle.index_primary.specs.declared.parts.PrimaryParts.{PrimaryParts}
use Rattle.index_primary.specs.declared.states.Merging.{Merging}
use Rattle.index_primary.specs.Held.{drawn_to}
use Rattle.index_primary.specs.Merges.{merge_inputs}
use Rattle.index_primary.specs.Primary.{IsPrimary}
use Rattle.index_primary.specs.Calls.{DrawsOnly, HoldsNoNew}
use Rattle.index_primary.proofs.Drawing.{counted_on}
use Rattle.index_primary.specs.StartCalls.{records_in, IsFitTask, StartsMerge}
use Rattle.index_primary.proofs.Begun.{inputs_named, inputs_there, primary_begins_merge, begun_draws, begun_no_new}

-- a task of the same contents is the same
pub same_task : (t : MergeTask) (inputs : List Shown) (live : List (List Bool)) → inputs ≡ t.inputs → live ≡ t.live → ◌≡◌ {A = MergeTask} (record { seg = t.seg; inputs = inputs; live = live }) t
same_task t inputs live a b = ap (λ (xs : List Shown). record { seg = t.seg; inputs = xs; live = live }) a ∙ ap (λ (ls : List (List Bool)). record { seg = t.seg; inputs = t.inputs; live = ls }) b

-- what is refused leaves the parts as they were
pub note_refused : {D : Type 0} (p : PrimaryParts D) (files : Holdings) (merges : List Merging) → merges ≡ p.merges → files ≡ p.files → ◌≡◌ {A = PrimaryParts D} (record p { files = files; merges = merges }) p
note_refused p files merges a b = ap (λ (ms : List Merging). record p { files = files; merges = ms }) a ∙ ap (λ (h : Holdings). record p { files = h }) b

module _ {D : Type 0} (cells : D → Cells) (p : PrimaryParts D) (is : IsPrimary cells p) (factor : ℕ) (two : 2 ≤ factor) (start : MergeStart)
    (h : IsStart (record { 0 = drawn_to p.infos }) factor (merge_inputs p.merges) p.infos.segs p.segs start) (more : p.infos.counter < 1679616) where
  abbrev number : SegNo
  number = record { 0 = drawn_to p.infos }

  start_flight : IsMergeOf (zip p.infos.segs p.segs) start.inputs (docs_by_input start.task.inputs) start.task.live
  start_flight = start_is_merge (reads_of (cells p.dir)) number factor (merge_inputs p.merges) p.infos.segs p.segs start h two is.writer.stands.each is.writer.spelled.apart

  pub start_fit : IsFitTask start.task
  start_fit =
      let f = start_fits (reads_of (cells p.dir)) number factor (merge_inputs p.merges) p.infos.segs p.segs start h two is.writer.stands.each in
      record { rows = f.0; some = f.1; sound = subst (All IsSound) (sym h.segs_are) (All-take IsSound factor (drop h.from p.segs) (All-drop IsSound h.from p.segs is.writer.stands.stand.sound)) }

  module _ (noted : MergeTask) (same : noted ≡ start.task) (names : List Name) (named : AreFilesOf (record p.infos { segs = records_in start.inputs p.infos.segs }) names) where
    abbrev pub merging : Merging
    merging = record { task = noted; inputs = start.inputs; names = names; merged = None }

    among : (q : Name) → 0 < times names q → 0 < times p.names q
    among = inputs_named cells p is start.inputs names named

    pub start_there : AreThere (cells p.dir) names
    start_there = inputs_there cells p is names among

    number_is : noted.seg.0 ≡ drawn_to p.infos
    number_is = ap (λ (t : MergeTask). t.seg.0) same ∙ ap (λ (s : SegNo). s.0) h.number

    flight : IsMergeOf (zip p.infos.segs p.segs) start.inputs (docs_by_input noted.inputs) noted.live
    flight = subst (λ (t : MergeTask). IsMergeOf (zip p.infos.segs p.segs) start.inputs (docs_by_input t.inputs) t.live) (sym same) start_flight

    other : (n : ℕ) → list_any (λ (seg : SegNo). seg.0 == n) start.inputs ≡ true → list_any (λ (seg : SegNo). seg.0 == n) (merge_inputs p.merges) ≡ false
    other = start_apart number factor (merge_inputs p.merges) p.infos.segs p.segs start h

    module _ (files : Holdings) (holds : HoldsFiles names p.files files (cells p.dir)) where
      abbrev after : PrimaryParts D
      after = record p { files = files; infos = counted_on p.infos; merges = p.merges ++ merging ∷ [] }

      pub start_begins : IsPrimary cells after
      start_begins = primary_begins_merge cells p is merging more number_is refl flight other among files holds

      pub start_draws : DrawsOnly p after
      start_draws = begun_draws cells p is merging more number_is refl flight other among files holds

      pub start_no_new : HoldsNoNew p after
      start_no_new = begun_no_new cells p is merging more number_is refl flight other among files holds

      pub start_starts : StartsMerge factor p start.task after
      start_starts = record {
        merging = merging;
        start = record { from = h.from; first = h.first; number = h.number; inputs_are = h.inputs_are; segs_are = h.segs_are; live_are = h.live_are };
        more = more;
        task_is = same;
        unmade = refl;
        names = named;
        next = refl;
      }
