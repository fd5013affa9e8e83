-- A cut-over leaves the documents as they are, whatever died since the merge started.
use Rattle.std.proofs.Common.{◌≡◌, ℕ, ◌<◌, Bool, true, false, not, cond, List, [], ◌∷◌, ◌++◌, length, replicate, map, Option, Some, None, refl, sym, ap, subst, ◌∙◌, arith}
use Rattle.std.specs.Prelude.{◌==◌}
use Rattle.std.specs.List.{All, AllZip, AllByRecursion, filter, zip, flat_map}
use Rattle.std.specs.List.Sorted.{IsPermutation}
use Rattle.std.proofs.lemmas.Bool.{eqb-true}
use Rattle.std.proofs.lemmas.List.{append-nil, append_assoc, length-map, length-replicate}
use Rattle.std.proofs.lemmas.List.Concat.{flat_map-append}
use Rattle.std.proofs.lemmas.List.Elements.{All-nil, All-cons, All-head, All-tail}
use Rattle.std.proofs.lemmas.List.Sorted.{IsPermutation-refl, IsPermutation-sym, IsPermutation-trans, IsPermutation-append_left, IsPermutation-append_right, IsPermutation-append_comm}
use Rattle.std.proofs.lemmas.Slice.Zip.{seconds-zip, AllZip-long}
use Rattle.nrt_base.specs.declared.doc.Doc.{Doc}
use Rattle.nrt_base.specs.declared.numbers.SegNo.{SegNo}
use Rattle.disk_model.specs.Disk.{Name, Content}
use Rattle.live_bits.specs.LiveRows.{live_rows}
use Rattle.live_bits.proofs.LiveCounts.{each_row_live}
use Rattle.segment_infos.specs.declared.infos.SegRecord.{SegRecord}
use Rattle.segment_infos.specs.declared.infos.Infos.{Infos}
use Rattle.segment_infos.specs.Files.{files_of_segment}
use Rattle.seg_merge.specs.Given.{Shown, live_documents, live_documents_of, IsSound, IsSegmentIn, AreSegmentsOf, StandsWith, File, record_of}
use Rattle.seg_merge.specs.declared.task.MergeTask.{MergeTask}
use Rattle.seg_merge.specs.declared.task.Merged.{Merged}
use Rattle.seg_merge.specs.declared.task.RowFrom.{RowFrom}
use Rattle.seg_merge.specs.Merging.{all_live_docs, is_live_at, carried, docs_by_input, IsMergedOf}
use Rattle.seg_merge.proofs.CarryLaws.{carried_documents}
use Rattle.segment_steps.specs.declared.next.NextSegments.{NextSegments}
use Rattle.segment_steps.specs.Segments.{changed}
use Rattle.segment_steps.specs.Next.{Turn, record_after, shown_after, stays, IsReadBack, AreReadSame}
use Rattle.segment_steps.specs.CutOver.{Part, is_one_of, inputs_in, others_in, in_place, lives_of, documents_of, IsMergeOf, change_by, merged_turn, part_after, merged_turns, IsCutOf}
use Rattle.segment_steps.proofs.Documents.{live_docs}
use Rattle.segment_steps.proofs.Segments.{documents_ascend, segments_of}
use Rattle.segment_steps.proofs.PublishLaws.{new_in, segments_stay, each_step, sound_step, documents_step}

-- ---- parts

abbrev pub Each : (Part → Type 0) → List Part → Type 0
Each P ps = AllByRecursion P ps

pub each_in : (R : SegRecord → Shown → Type 0) (rs : List SegRecord) (ss : List Shown) → AllZip R rs ss → Each (λ p. R p.0 p.1) (zip rs ss)
each_in R [] [] all = tt
each_in R [] (s ∷ ss) all = absurd all
each_in R (r ∷ rs) [] all = absurd all
each_in R (r ∷ rs) (s ∷ ss) all = (all.0, each_in R rs ss all.1)

pub each_out : (R : SegRecord → Shown → Type 0) (ps : List Part) → Each (λ p. R p.0 p.1) ps → AllZip R (map (λ p. p.0) ps) (map (λ p. p.1) ps)
each_out R [] all = tt
each_out R (p ∷ ps) all = (all.0, each_out R ps all.1)

pub each_filter : (P : Part → Type 0) (test : Part → Bool) (ps : List Part) → Each P ps → Each P (filter test ps)
each_filter P test [] all = tt
each_filter P test (p ∷ ps) all = by_test (test p) (each_filter P test ps all.1)
  where
    by_test : (b : Bool) → Each P (filter test ps) → Each P (cond b (p ∷ filter test ps) (filter test ps))
    by_test true h = (all.0, h)
    by_test false h = h

pub each_append : (P : Part → Type 0) (ps qs : List Part) → Each P ps → Each P qs → Each P (ps ++ qs)
each_append P [] qs a b = b
each_append P (p ∷ ps) qs a b = (a.0, each_append P ps qs a.1 b)

pub each_in_place : (P : Part → Type 0) (inputs : List SegNo) (new ps : List Part) → Each P new → Each P ps → Each P (in_place inputs new ps)
each_in_place P inputs new [] fresh all = tt
each_in_place P inputs new (p ∷ ps) fresh all = by_test (is_one_of inputs p) (each_in_place P inputs new ps fresh all.1)
  where
    by_test : (b : Bool) → Each P (in_place inputs new ps) → Each P (cond b (new ++ others_in inputs ps) (p ∷ in_place inputs new ps))
    by_test true h = each_append P new (others_in inputs ps) fresh (each_filter P (λ q. not (is_one_of inputs q)) ps all.1)
    by_test false h = (all.0, h)

-- ---- the documents of their live rows

abbrev documents_in : List Part → List Doc
documents_in ps = flat_map (λ (p : Part). live_documents_of p.1) ps

documents_are : (ps : List Part) → live_documents (map (λ (p : Part). p.1) ps) ≡ documents_in ps
documents_are [] = refl
documents_are (p ∷ ps) = ap (λ (ds : List Doc). live_documents_of p.1 ++ ds) (documents_are ps)

rows_are : (ps : List Part) → documents_in ps ≡ all_live_docs (documents_of ps) (lives_of ps)
rows_are [] = refl
rows_are (p ∷ ps) = ap (λ (ds : List Doc). live_documents_of p.1 ++ ds) (rows_are ps)

-- from front to back: a, b and c to b, a and c
over : (a b c : List Doc) → IsPermutation (a ++ (b ++ c)) (b ++ (a ++ c))
over a b c =
    subst (λ (ds : List Doc). IsPermutation ds (b ++ (a ++ c))) (append_assoc a b c)
    (subst (λ (ds : List Doc). IsPermutation ((a ++ b) ++ c) ds) (append_assoc b a c) (IsPermutation-append_left c (a ++ b) (b ++ a) (IsPermutation-append_comm a b)))

split : (inputs : List SegNo) (ps : List Part) → IsPermutation (documents_in ps) (documents_in (inputs_in inputs ps) ++ documents_in (others_in inputs ps))
split inputs [] = IsPermutation-refl []
split inputs (p ∷ ps) = by_test (is_one_of inputs p) (IsPermutation-append_right (live_documents_of p.1) (documents_in ps) (documents_in (inputs_in inputs ps) ++ documents_in (others_in inputs ps)) (split inputs ps))
  where
    mine : List Doc
    mine = live_documents_of p.1

    by_test : (b : Bool) → IsPermutation (live_documents_of p.1 ++ documents_in ps) (live_documents_of p.1 ++ (documents_in (inputs_in inputs ps) ++ documents_in (others_in inputs ps)))
        → IsPermutation (live_documents_of p.1 ++ documents_in ps) (documents_in (cond b (p ∷ inputs_in inputs ps) (inputs_in inputs ps)) ++ documents_in (cond (not b) (p ∷ others_in inputs ps) (others_in inputs ps)))
    by_test true h = subst (λ (ds : List Doc). IsPermutation (live_documents_of p.1 ++ documents_in ps) ds) (sym (append_assoc (live_documents_of p.1) (documents_in (inputs_in inputs ps)) (documents_in (others_in inputs ps)))) h
    by_test false h = IsPermutation-trans (live_documents_of p.1 ++ documents_in ps) (live_documents_of p.1 ++ (documents_in (inputs_in inputs ps) ++ documents_in (others_in inputs ps))) (documents_in (inputs_in inputs ps) ++ (live_documents_of p.1 ++ documents_in (others_in inputs ps))) h
        (over (live_documents_of p.1) (documents_in (inputs_in inputs ps)) (documents_in (others_in inputs ps)))

placed : (inputs : List SegNo) (new ps : List Part) → 0 < length (inputs_in inputs ps) → IsPermutation (documents_in (in_place inputs new ps)) (documents_in new ++ documents_in (others_in inputs ps))
placed inputs new [] some = absurd (omega (arith, some))
placed inputs new (p ∷ ps) some = by_test (is_one_of inputs p) some (placed inputs new ps)
  where
    by_test : (b : Bool) → 0 < length (cond b (p ∷ inputs_in inputs ps) (inputs_in inputs ps)) → (0 < length (inputs_in inputs ps) → IsPermutation (documents_in (in_place inputs new ps)) (documents_in new ++ documents_in (others_in inputs ps)))
        → IsPermutation (documents_in (cond b (new ++ others_in inputs ps) (p ∷ in_place inputs new ps))) (documents_in new ++ documents_in (cond (not b) (p ∷ others_in inputs ps) (others_in inputs ps)))
    by_test true lt h = subst (λ (ds : List Doc). IsPermutation ds (documents_in new ++ documents_in (others_in inputs ps))) (sym (flat_map-append (λ (q : Part). live_documents_of q.1) new (others_in inputs ps)))
        (IsPermutation-refl (documents_in new ++ documents_in (others_in inputs ps)))
    by_test false lt h = IsPermutation-trans (live_documents_of p.1 ++ documents_in (in_place inputs new ps)) (live_documents_of p.1 ++ (documents_in new ++ documents_in (others_in inputs ps))) (documents_in new ++ (live_documents_of p.1 ++ documents_in (others_in inputs ps)))
        (IsPermutation-append_right (live_documents_of p.1) (documents_in (in_place inputs new ps)) (documents_in new ++ documents_in (others_in inputs ps)) (h lt))
        (over (live_documents_of p.1) (documents_in new) (documents_in (others_in inputs ps)))

-- SECOND LAW's twin: one segment in the place of several whose live documents it has
replaced : (inputs : List SegNo) (new ps : List Part) → 0 < length (inputs_in inputs ps) → documents_in new ≡ documents_in (inputs_in inputs ps) → IsPermutation (documents_in (in_place inputs new ps)) (documents_in ps)
replaced inputs new ps some same =
    IsPermutation-trans (documents_in (in_place inputs new ps)) (documents_in new ++ documents_in (others_in inputs ps)) (documents_in ps) (placed inputs new ps some)
    (subst (λ (ds : List Doc). IsPermutation (ds ++ documents_in (others_in inputs ps)) (documents_in ps)) (sym same)
    (IsPermutation-sym (documents_in ps) (documents_in (inputs_in inputs ps) ++ documents_in (others_in inputs ps)) (split inputs ps)))

-- ---- the merged segment

-- what it shows after its change has just the rows that are carried
change_live : (s : Shown) (live : List Bool) → s.live ≡ replicate (length live) true → (changed s (change_by live)).live ≡ live
change_live s live all = by_test (live_rows live == length live) refl
  where
    by_test : (b : Bool) → (live_rows live == length live) ≡ b → (changed s (cond b None (Some live))).live ≡ live
    by_test true e = all ∙ sym (each_row_live live (eqb-true (live_rows live) (length live) e))
    by_test false e = refl

change_docs : (s : Shown) (c : Option (List Bool)) → (changed s c).docs ≡ s.docs
change_docs s None = refl
change_docs s (Some live) = refl

abbrev IsAsLong : Shown → Option (List Bool) → Type 0
IsAsLong s None = Unit {0}
IsAsLong s (Some live) = length live ≡ length s.live

change_long : (s : Shown) (live : List Bool) → length s.live ≡ length live → IsAsLong s (change_by live)
change_long s live long = by_test (live_rows live == length live)
  where
    by_test : (b : Bool) → IsAsLong s (cond b None (Some live))
    by_test true = tt
    by_test false = sym long

turn_documents : (g : ℕ) (ts : List Turn) → documents_in (map (part_after g) ts) ≡ live_documents (map shown_after ts)
turn_documents g [] = refl
turn_documents g (t ∷ ts) = ap (λ (ds : List Doc). live_documents_of (shown_after t) ++ ds) (turn_documents g ts)

pub each_turn : (R : SegRecord → Shown → Type 0) (g : ℕ) (ts : List Turn) → AllZip R (map (record_after g) ts) (map shown_after ts) → Each (λ p. R p.0 p.1) (map (part_after g) ts)
each_turn R g [] all = tt
each_turn R g (t ∷ ts) all = (all.0, each_turn R g ts all.1)

-- ---- soundness, part by part

sound_in : (rs : List SegRecord) (ss : List Shown) → All IsSound ss → Each (λ p. IsSound p.1) (zip rs ss)
sound_in [] ss all = tt
sound_in (r ∷ rs) [] all = tt
sound_in (r ∷ rs) (s ∷ ss) all = (All-head IsSound s ss all, sound_in rs ss (All-tail IsSound s ss all))

sound_out : (ps : List Part) → Each (λ p. IsSound p.1) ps → All IsSound (map (λ (p : Part). p.1) ps)
sound_out [] all = All-nil IsSound
sound_out (p ∷ ps) all = All-cons IsSound p.1 (map (λ (q : Part). q.1) ps) all.0 (sound_out ps all.1)

sound_turn : (g : ℕ) (ts : List Turn) → All IsSound (map shown_after ts) → Each (λ p. IsSound p.1) (map (part_after g) ts)
sound_turn g [] all = tt
sound_turn g (t ∷ ts) all = (All-head IsSound (shown_after t) (map shown_after ts) all, sound_turn g ts (All-tail IsSound (shown_after t) (map shown_after ts) all))

-- ---- the cut-over

abbrev pub now_in : List SegNo → List Part → List (List Bool)
now_in inputs ps = lives_of (inputs_in inputs ps)

pub all_are : (task : MergeTask) (merged : Merged) (shown : Shown) (lives : List (List Bool)) → IsMergedOf task merged → IsReadBack merged.files shown → shown.live ≡ replicate (length (carried merged.from lives)) true
all_are task merged shown lives is back = back.live ∙ is.live ∙ ap (λ (n : ℕ). replicate n true) (sym (length-map merged.from (is_live_at lives)))

-- it has the documents of its inputs' live rows
merged_documents : (g : ℕ) (ps : List Part) (inputs : List SegNo) (task : MergeTask) (merged : Merged) (shown : Shown) → IsMergeOf ps inputs (docs_by_input task.inputs) task.live → IsMergedOf task merged → IsReadBack merged.files shown
    → documents_in (map (part_after g) (merged_turns g merged shown (now_in inputs ps))) ≡ documents_in (inputs_in inputs ps)
merged_documents g ps inputs task merged shown flight is back =
    let lives = now_in inputs ps in
    let live = carried merged.from lives in
    let c = change_by live in
    let t = merged_turn merged shown lives in
    let r = record_of merged.files.seg merged.files.live in
    let docs = docs_by_input task.inputs in
    turn_documents g (merged_turns g merged shown lives)
    ∙ documents_step (λ name. None) (λ name. None) g [] (stays g [] t) r shown c [] refl (ap live_rows back.live)
    ∙ append-nil (live_documents_of (changed shown c))
    ∙ ap (λ (ds : List Doc). live_docs ds (changed shown c).live) (change_docs shown c ∙ back.docs (all_live_docs docs task.live) is.built)
    ∙ ap (live_docs (all_live_docs docs task.live)) (change_live shown live (all_are task merged shown lives is back) ∙ ap (λ (from : List RowFrom). carried from lives) is.from)
    ∙ carried_documents docs task.live lives flight.rows flight.within
    ∙ ap (λ (ds : List (List Doc)). all_live_docs ds lives) (sym flight.documents)
    ∙ sym (rows_are (inputs_in inputs ps))

-- THE SEGMENTS OF A CUT-OVER are of the documents that the segments were of, whatever the directory reads.
pub cut_over_stand : (g : ℕ) (rs : List SegRecord) (segs : List Shown) (docs : List Doc) (inputs : List SegNo) (task : MergeTask) (merged : Merged) (shown : Shown) (made : NextSegments)
    → length segs ≡ length rs → AreSegmentsOf docs segs → IsMergeOf (zip rs segs) inputs (docs_by_input task.inputs) task.live → IsMergedOf task merged → IsReadBack merged.files shown
    → IsCutOf g (zip rs segs) inputs merged shown made → AreSegmentsOf docs made.segs
cut_over_stand g rs segs docs inputs task merged shown made many stand flight is back cut =
    let ps = zip rs segs in
    let lives = now_in inputs ps in
    let c = change_by (carried merged.from lives) in
    let t = merged_turn merged shown lives in
    let ts = merged_turns g merged shown lives in
    let r = record_of merged.files.seg merged.files.live in
    let new = map (part_after g) ts in
    let sound_new = sound_turn g ts (sound_step (λ name. None) (λ name. None) g [] (stays g [] t) r shown c [] back.sound (All-nil IsSound)) in
    let sound = sound_out (in_place inputs new ps) (each_in_place (λ p. IsSound p.1) inputs new ps sound_new (sound_in rs segs stand.sound)) in
    let some : 0 < length (inputs_in inputs ps) = omega (arith, flight.some, length-map (inputs_in inputs ps) (λ (p : Part). p.0.seg), ap length flight.numbers) in
    let moved : IsPermutation (documents_in (in_place inputs new ps)) (documents_in ps) = replaced inputs new ps some (merged_documents g ps inputs task merged shown flight is back) in
    let whole : documents_in ps ≡ live_documents segs = sym (documents_are ps) ∙ ap live_documents (seconds-zip rs segs many) in
    let shown_segs = map (λ (p : Part). p.1) (in_place inputs new ps) in
    let ordered : IsPermutation (live_documents shown_segs) docs =
    IsPermutation-trans (live_documents shown_segs) (live_documents segs) docs
    (subst (λ (ds : List Doc). IsPermutation (live_documents shown_segs) ds) whole (subst (λ (ds : List Doc). IsPermutation ds (documents_in ps)) (sym (documents_are (in_place inputs new ps))) moved))
    stand.documents.same in
    subst (AreSegmentsOf docs) (sym cut.segs_are) (segments_of docs shown_segs sound (documents_ascend docs segs stand) ordered)

-- A CUT-OVER: where the merged segment's files and its live file are in the directory and those of the infos read as before, the next
-- infos stand for the documents that the infos stood for.
pub cut_over_stands : (before after : Name → Content) (infos next : Infos) (segs : List Shown) (docs : List Doc) (inputs : List SegNo) (task : MergeTask) (merged : Merged) (shown : Shown) (made : NextSegments)
    → StandsWith before infos segs docs → IsMergeOf (zip infos.segs segs) inputs (docs_by_input task.inputs) task.live → IsMergedOf task merged → IsReadBack merged.files shown
    → IsCutOf infos.generation.0 (zip infos.segs segs) inputs merged shown made → next.segs ≡ made.records
    → AreReadSame before after (flat_map files_of_segment infos.segs) → All (λ (file : File). after file.0 ≡ Some file.1) merged.files.files → All (λ (file : File). after file.0 ≡ Some file.1) made.files
    → StandsWith after next made.segs docs
cut_over_stands before after infos next segs docs inputs task merged shown made stands flight is back cut same_records same reads_merged reads =
    let g = infos.generation.0 in
    let ps = zip infos.segs segs in
    let lives = now_in inputs ps in
    let live = carried merged.from lives in
    let c = change_by live in
    let t = merged_turn merged shown lives in
    let ts = merged_turns g merged shown lives in
    let r = record_of merged.files.seg merged.files.live in
    let new = map (part_after g) ts in
    let in' : IsSegmentIn after r shown = new_in after after r merged.files.files (all_live_docs (docs_by_input task.inputs) task.live) merged.files.live is.built shown reads_merged (back.segment (all_live_docs (docs_by_input task.inputs) task.live) is.built) (ap live_rows back.live) in
    let all : shown.live ≡ replicate (length live) true = all_are task merged shown lives is back in
    let long : length shown.live ≡ length live = ap length all ∙ length-replicate (length live) true in
    let turn_each = each_step after after g [] (stays g [] t) r shown c [] made.files in' (λ name there. refl) (change_long shown live long) cut.changes reads (λ others zips all_read. tt) in
    let each_new : Each (λ p. IsSegmentIn after p.0 p.1) new = each_turn (IsSegmentIn after) g ts turn_each in
    let each_old : Each (λ p. IsSegmentIn after p.0 p.1) ps = each_in (IsSegmentIn after) infos.segs segs (segments_stay before after infos.segs segs stands.each same) in
    let placed_each = each_out (IsSegmentIn after) (in_place inputs new ps) (each_in_place (λ p. IsSegmentIn after p.0 p.1) inputs new ps each_new each_old) in
    let records : next.segs ≡ map (λ (p : Part). p.0) (in_place inputs new ps) = same_records ∙ cut.records_are in
    record {
      each = subst (λ (rs : List SegRecord). AllZip (IsSegmentIn after) rs made.segs) (sym records) (subst (AllZip (IsSegmentIn after) (map (λ (p : Part). p.0) (in_place inputs new ps))) (sym cut.segs_are) placed_each);
      stand = cut_over_stand g infos.segs segs docs inputs task merged shown made (AllZip-long (IsSegmentIn before) infos.segs segs stands.each) stands.stand flight is back cut;
    }
