-- The files of a merge that are written: they read at the source what they were made of, and so does each copy of them.
use Rattle.std.proofs.Common.{◌≡◌, ◌≤◌, ◌<◌, ◌+◌, ◌++◌, ◌||◌, ℕ, Bool, true, false, true≢false, List, [], ◌∷◌, Some, None, Option, length, get_or, refl, ap, ◌∙◌, sym, subst, arith}
use Rattle.std.specs.List.{All}
use Rattle.std.proofs.lemmas.List.Elements.{All-head, All-tail, All-weaker}
use Rattle.std.proofs.lemmas.Bool.{lt-ltb}
use Rattle.nrt_base.specs.declared.numbers.SegNo.{SegNo}
use Rattle.disk_model.specs.Disk.{Name, Content, Cells, reads_of, same, is_among}
use Rattle.disk_model.proofs.CellLemmas.{same_true}
use Rattle.file_deleter.specs.Holdings.{count_of, times}
use Rattle.file_deleter.proofs.NameLemmas.{times-append, among_is, same_self}
use Rattle.file_names.specs.Names.{part_name_of}
use Rattle.file_names.specs.declared.composed.SegPart.TheVariants.{Docs}
use Rattle.codec_frame.specs.Bytes.{AreBytes}
use Rattle.codec_frame.specs.Checking.{HasFooter}
use Rattle.codec_frame.proofs.FrameLaws.{framed_footer}
use Rattle.copy_state.specs.declared.meta.FileMetaData.{FileMetaData}
use Rattle.copy_state.specs.declared.state.CopyState.{CopyState}
use Rattle.copy_state.specs.States.{meta_names, meta_in}
use Rattle.copy_job.specs.Jobs.{Job}
use Rattle.searcher_switch.specs.Searching.{searcher_names}
use Rattle.seg_build.specs.Built.{File}
use Rattle.seg_merge.specs.declared.task.MergeTask.{MergeTask}
use Rattle.seg_merge.specs.declared.task.Merged.{Merged}
use Rattle.seg_merge.specs.Merging.{IsMergedOf}
use Rattle.index_primary.specs.declared.parts.PrimaryParts.{PrimaryParts}
use Rattle.index_primary.specs.declared.states.Merging.{Merging}
use Rattle.index_primary.specs.declared.states.Out.{Out}
use Rattle.index_primary.specs.Primary.{IsPrimary, primary_names, rest_names}
use Rattle.index_primary.specs.Merges.{merge_names, merge_of, IsMade, IsMadeBy, IsMerging}
use Rattle.index_primary.specs.States.{IsFramedFile, IsMetaIn, out_of, is_out, state_names}
use Rattle.index_primary.specs.Written.{names_of}
use Rattle.index_primary.proofs.MergeLists.{number_of, all_at, names_split}
use Rattle.index_primary.proofs.Writing.{among_at}
use Rattle.index_primary.proofs.MergedFiles.{part_names, part_among, merged_names, merged_framed}
use Rattle.replica_opening.specs.Known.{IsLasting, HasMeta}
use Rattle.replica_node.specs.Sources.{HeldReadAs}
use Rattle.replica_node.proofs.Metas.{some_meta, meta_some}
use Rattle.history_rules.specs.Nodes.{Past}
use Rattle.history_rules.specs.Points.{IsDrawnFile}
use Rattle.history_book.specs.Log.{Log}
use Rattle.merge_tasks.specs.declared.tasks.OpenMerge.{OpenMerge}
use Rattle.merge_tasks.specs.declared.tasks.Spread.{Spread}
use Rattle.merge_tasks.specs.Board.{open_merge, spread_at}
use Rattle.cluster_nodes.specs.Outs.{one_like}
use Rattle.cluster_nodes.proofs.OutCounts.{is_there, one_self, names_out}
use Rattle.node_merges.specs.MergeChanges.{is_copy_of}
use Rattle.cluster_state.specs.Files.{MeansDrawn}
use Rattle.cluster_state.specs.Merging.{IsStateOfMerged, AreWrittenAlike, AreMergedAlike, PrimaryMerges, out_at, spreads_like}
use Rattle.cluster_state.proofs.Lasting.{part_lasts}
use Rattle.cluster_state.proofs.Wider.{meta_at_source}
use Rattle.cluster_merges.proofs.StandSteps.{spreads_without}

-- the files of a merge into a segment are written, of which this is the copy state: they read so at the source
pub record IsWrittenMerge (source : Name → Content) (seg : ℕ) (s : Spread) : Type 0 where
  pub merged : Merged
  pub task : MergeTask
  pub of : IsMergedOf task merged
  pub number : merged.files.seg.0 ≡ seg
  pub state : IsStateOfMerged merged s
  pub reads : All (λ f. source f.0 ≡ Some f.1) merged.files.files

-- what reads under the name of a framed file is framed
framed_at : (source : Name → Content) (files : List File) (q : Name) (bytes : List ℕ) → All (λ (f : File). IsFramedFile f.1) files → All (λ (f : File). source f.0 ≡ Some f.1) files → is_among (names_of files) q ≡ true → source q ≡ Some bytes → IsFramedFile bytes
framed_at source [] q bytes framed reads there is = absurd (true≢false (sym there))
framed_at source (f ∷ fs) q bytes framed reads there is =
    by (framed_at source fs q bytes (All-tail (λ (x : File). IsFramedFile x.1) f fs framed) (All-tail (λ (x : File). source x.0 ≡ Some x.1) f fs reads)) (same f.0 q) refl there
  where
    by : (is_among (names_of fs) q ≡ true → source q ≡ Some bytes → IsFramedFile bytes) → (b : Bool) → same f.0 q ≡ b → (b || is_among (names_of fs) q) ≡ true → IsFramedFile bytes
    by more true here some =
        let both : Some f.1 ≡ Some bytes = sym (All-head (λ (x : File). source x.0 ≡ Some x.1) f fs reads) ∙ (ap source (same_true f.0 q here) ∙ is) in
        let alike : f.1 ≡ bytes = cc in
        subst IsFramedFile alike (All-head (λ (x : File). IsFramedFile x.1) f fs framed)
    by more false other some = more some is

-- what has the metadata that a name has at the source is of the same bytes
pub meta_of_bytes : (source : Name → Content) (q : Name) (meta : FileMetaData) (bytes : List ℕ) → (has : HasMeta source q meta) → source q ≡ Some bytes → has.bytes ≡ bytes
meta_of_bytes source q meta bytes has is = let both : Some has.bytes ≡ Some bytes = sym has.there ∙ is in cc

-- the copy state of a merge is among those of merges
spreads_there : (rows : List OpenMerge) (seg : ℕ) (s : Spread) → spread_at (open_merge seg rows) ≡ Some s → 1 ≤ spreads_like (out_of s.state) rows
spreads_there rows seg s is = by (open_merge seg rows) refl is
  where
    by : (o : Option OpenMerge) → open_merge seg rows ≡ o → spread_at o ≡ Some s → 1 ≤ spreads_like (out_of s.state) rows
    by None there none = absurd (cc)
    by (Some r) there spread =
        let move = spreads_without (out_of s.state) rows seg r there in
        let one : one_like (out_of s.state) (out_at r.spread) ≡ 1 = ap (λ (x : Option Spread). one_like (out_of s.state) (out_at x)) spread ∙ one_self (out_of s.state) in
        omega (arith, move, one)

module _ (source : Name → Content) (seg : ℕ) (s : Spread) (w : IsWrittenMerge source seg s) where
  -- each name of the copy state is one of the merged segment's
  state_among : (q : Name) → 0 < times (meta_names s.state.files) q → is_among (names_of w.merged.files.files) q ≡ true
  state_among q some =
      let same_names : times (meta_names s.state.files) q ≡ times (names_of w.merged.files.files) q = ap (λ (ns : List Name). times ns q) w.state.names in
      among_is (names_of w.merged.files.files) q ∙ lt-ltb 0 (times (names_of w.merged.files.files) q) (omega (arith, some, same_names))

  pub state_lasts : (q : Name) → 0 < times (meta_names s.state.files) q → IsLasting q
  state_lasts q some =
      let part = part_among w.merged.files.seg.0 q (ap (λ (ns : List Name). is_among ns q) (sym (merged_names w.task w.merged w.of)) ∙ state_among q some) in
      subst IsLasting (sym part.1) (part_lasts w.merged.files.seg.0 part.0)

  -- its metadata is that of the bytes at the source
  pub state_meta : (q : Name) (meta : FileMetaData) → meta_in s.state.files q ≡ Some meta → HasMeta source q meta
  state_meta q meta is =
      meta_at_source source s.state.files q meta
      (All-weaker (IsMetaIn source) (λ (f : Name × FileMetaData). HasMeta source f.0 f.1) (λ f has. record { bytes = has.bytes; there = has.there; meta_is = has.meta }) s.state.files (w.state.metas source w.reads)) is

  -- it is drawn
  pub state_drawn : (past : Past) → MeansDrawn source past → (q : Name) → 0 < times (meta_names s.state.files) q → IsDrawnFile past q
  state_drawn past drawn q some =
      let meta = some_meta s.state.files q some in
      let has = state_meta q meta.0 meta.1 in
      drawn.drawn q has.bytes (state_lasts q some) has.there

  -- what reads under it ends in a footer
  pub state_footer : (q : Name) (bytes : List ℕ) → 0 < times (meta_names s.state.files) q → source q ≡ Some bytes → AreBytes bytes → HasFooter bytes
  state_footer q bytes some is fits =
      let file = framed_at source w.merged.files.files q bytes (merged_framed w.task w.merged w.of) w.reads (state_among q some) is in
      framed_footer file.want file.version file.id file.body bytes fits file.framed

  -- a copy of this state is one of the segment
  pub copy_is : (c : Job) → c.want ≡ s.state → is_copy_of seg c ≡ true
  copy_is c want = by c.want.files refl
    where
      names : meta_names c.want.files ≡ part_names seg
      names = ap (λ (state : CopyState). meta_names state.files) want ∙ (w.state.names ∙ (merged_names w.task w.merged w.of ∙ ap part_names w.number))

      by : (files : List (Name × FileMetaData)) → c.want.files ≡ files → is_copy_of seg c ≡ true
      by [] is =
          let long : length (meta_names c.want.files) ≡ 3 = ap (λ (l : List Name). length l) names in
          let short : length (meta_names c.want.files) ≡ 0 = ap (λ (l : List (Name × FileMetaData)). length (meta_names l)) is in
          absurd (omega (arith, long, short))
      by (f ∷ fs) is =
          let all : f.0 ∷ meta_names fs ≡ part_names seg = ap meta_names (sym is) ∙ names in
          let first : f.0 ≡ part_name_of seg Docs = ap (λ (l : List Name). get_or l 0 []) all in
          ap (λ (l : List (Name × FileMetaData)). is_copy_of seg (record c { want = record c.want { files = l } })) is ∙ (ap (λ (q : Name). same q (part_name_of seg Docs)) first ∙ same_self (part_name_of seg Docs))

module _ {D : Type 0} (cells : D → Cells) where
  -- what copy states or merges name is counted
  pub rest_counted : (p : PrimaryParts D) (q : Name) → IsPrimary cells p → 0 < times (state_names p.states) q + times (merge_names p.merges) q → 0 < count_of p.files q
  rest_counted p q whole named =
      let counts = whole.node.counts q in
      let first : times (primary_names p) q ≡ times (searcher_names p.searchers) q + times (p.names ++ rest_names p) q = times-append (searcher_names p.searchers) (p.names ++ rest_names p) q in
      let second : times (p.names ++ rest_names p) q ≡ times p.names q + times (rest_names p) q = times-append p.names (rest_names p) q in
      let third : times (rest_names p) q ≡ times (state_names p.states) q + times (merge_names p.merges) q = times-append (state_names p.states) (merge_names p.merges) q in
      omega (arith, counts, first, second, third, named)

  -- the merge of a row whose files are written
  pub written_merge : (source : Name → Content) (log : Log) (cut : Bool) (jobs : Out → ℕ) (rows : List OpenMerge) (seg : ℕ) (s : Spread) (p : PrimaryParts D) → IsPrimary cells p → HeldReadAs source (cells p.dir) p.files
      → PrimaryMerges log cut jobs rows p → spread_at (open_merge seg rows) ≡ Some s → IsWrittenMerge source seg s
  written_merge source log cut jobs rows seg s p whole held merges there = of_both (merge_of seg p.merges) (open_merge seg rows) refl there (merges.merges seg)
    where
      of_merged : (m : Merging) → merge_of seg p.merges ≡ Some m → (o : Option Merged) → m.merged ≡ o → AreWrittenAlike o (Some s) → IsWrittenMerge source seg s
      of_merged m found None is alike = absurd alike
      of_merged m found (Some merged) is alike = record {
        merged = merged;
        task = m.task;
        of = made.of;
        number = ap (λ (k : SegNo). k.0) made.of.number ∙ number_of seg p.merges m found;
        state = alike;
        reads = λ k d lt. sym (reads_same (get_or merged.files.files k d).0 (among_at merged.files.files k d lt)) ∙ made.reads_so k d lt;
      }
        where
          made : IsMade (reads_of (cells p.dir)) m merged
          made = subst (λ (o : Option Merged). IsMadeBy (reads_of (cells p.dir)) m o) is
              (all_at (IsMerging (reads_of (cells p.dir)) p.infos.segs p.segs) seg p.merges m whole.merging found).made

          reads_same : (q : Name) → is_among (names_of merged.files.files) q ≡ true → (cells p.dir q).now ≡ source q
          reads_same q among =
              let part = part_among merged.files.seg.0 q (ap (λ (ns : List Name). is_among ns q) (sym (merged_names m.task merged made.of)) ∙ among) in
              let mine = made.held q among in
              let split = names_split seg p.merges m q found in
              held.each q (subst IsLasting (sym part.1) (part_lasts merged.files.seg.0 part.0)) (rest_counted p q whole (omega (arith, mine, split)))

      of_both : (a : Option Merging) (b : Option OpenMerge) → merge_of seg p.merges ≡ a → spread_at b ≡ Some s → AreMergedAlike log a b → IsWrittenMerge source seg s
      of_both None None found spread alike = absurd (cc)
      of_both None (Some row) found spread alike = absurd alike
      of_both (Some m) None found spread alike = absurd alike
      of_both (Some m) (Some row) found spread alike = of_merged m found m.merged refl (subst (λ (x : Option Spread). AreWrittenAlike m.merged x) spread alike.written)

  -- its copy state is out
  pub state_out : (log : Log) (cut : Bool) (jobs : Out → ℕ) (rows : List OpenMerge) (seg : ℕ) (s : Spread) (p : PrimaryParts D) → PrimaryMerges log cut jobs rows p → spread_at (open_merge seg rows) ≡ Some s → is_out (out_of s.state) p.states ≡ true
  state_out log cut jobs rows seg s p merges there =
      let low = merges.outs (out_of s.state) in
      let some = spreads_there rows seg s there in
      is_there (out_of s.state) p.states (omega (arith, low, some))

  -- so it names its files
  pub state_named : (log : Log) (cut : Bool) (jobs : Out → ℕ) (rows : List OpenMerge) (seg : ℕ) (s : Spread) (p : PrimaryParts D) (q : Name) (meta : FileMetaData) → PrimaryMerges log cut jobs rows p → spread_at (open_merge seg rows) ≡ Some s
      → meta_in s.state.files q ≡ Some meta → 0 < times (state_names p.states) q
  state_named log cut jobs rows seg s p q meta merges there is =
      let named = meta_some s.state.files q meta is in
      let all = names_out (out_of s.state) p.states q (state_out log cut jobs rows seg s p merges there) in
      omega (arith, named, all)
