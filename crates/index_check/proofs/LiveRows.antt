-- Live rows that are gathered one after the other.
use Rattle.std.proofs.Common.{◌≡◌, ℕ, ◌+◌, ◌<◌, ◌≤◌, Bool, true, false, cond, List, [], ◌∷◌, ◌++◌, length, get_or, drop, map, refl, sym, ap, ◌∙◌, arith}
use Rattle.std.specs.List.{filter, zip}
use Rattle.std.proofs.lemmas.List.{append-nil, drop_more}
use Rattle.std.proofs.Math.ListN.{drop_of_length-le}
use Rattle.nrt_base.specs.declared.doc.Doc.{Doc}
use Rattle.nrt_base.specs.declared.numbers.SegNo.{SegNo}
use Rattle.nrt_base.proofs.Plain.{moved_over}
use Rattle.segment_infos.specs.declared.infos.SegRecord.{SegRecord}
use Rattle.seg_reader.specs.Shown.{Shown}
use Rattle.index_check.specs.declared.rows.LiveRow.{LiveRow}
use Rattle.index_check.specs.Rows.{live_row, rows_of_segment, rows_of_segments}

-- the live rows of these documents
abbrev pub rows_from : SegNo → List Doc → List Bool → List LiveRow
rows_from seg docs live = map (live_row seg) (map (λ x. x.0) (filter (λ x. x.1) (zip docs live)))

step : (seg : SegNo) (docs : List Doc) (live : List Bool) (at : ℕ) (d : Doc) → at < length docs → length live ≡ length docs
    → rows_from seg (drop at docs) (drop at live) ≡ cond (get_or live at false) (live_row seg (get_or docs at d) ∷ []) [] ++ rows_from seg (drop (at + 1) docs) (drop (at + 1) live)
step seg docs live at d lt long =
    let l : at < length live = omega (arith, lt, long) in
    ap (λ (ds : List Doc). rows_from seg ds (drop at live)) (drop_more docs at d lt) ∙ ap (rows_from seg (get_or docs at d ∷ drop (at + 1) docs)) (drop_more live at false l)
    ∙ by_row (get_or live at false) (get_or docs at d) (drop (at + 1) docs) (drop (at + 1) live)
  where
    by_row : (b : Bool) (x : Doc) (ds : List Doc) (ls : List Bool) → rows_from seg (x ∷ ds) (b ∷ ls) ≡ cond b (live_row seg x ∷ []) [] ++ rows_from seg ds ls
    by_row true x ds ls = refl
    by_row false x ds ls = refl

module _ (seg : SegNo) (docs : List Doc) (live : List Bool) (at : ℕ) (old whole : List LiveRow) (lt : at < length docs) (long : length live ≡ length docs) (so_far : old ++ rows_from seg (drop at docs) (drop at live) ≡ whole) where
  pub row_put : (d : Doc) (new : List LiveRow) → true ≡ get_or live at false → d ≡ get_or docs at d → new ≡ old ++ live_row seg d ∷ [] → new ++ rows_from seg (drop (at + 1) docs) (drop (at + 1) live) ≡ whole
  row_put d new is same put =
      moved_over old new (live_row seg d ∷ []) (rows_from seg (drop at docs) (drop at live)) (rows_from seg (drop (at + 1) docs) (drop (at + 1) live)) whole
      (step seg docs live at d lt long ∙ ap (λ (b : Bool). cond b (live_row seg (get_or docs at d) ∷ []) [] ++ rows_from seg (drop (at + 1) docs) (drop (at + 1) live)) (sym is)
      ∙ ap (λ (x : Doc). live_row seg x ∷ rows_from seg (drop (at + 1) docs) (drop (at + 1) live)) (sym same)) so_far put

  pub row_passed : (d : Doc) → false ≡ get_or live at false → old ++ rows_from seg (drop (at + 1) docs) (drop (at + 1) live) ≡ whole
  row_passed d is =
      ap (λ (rs : List LiveRow). old ++ rs) (sym (step seg docs live at d lt long ∙ ap (λ (b : Bool). cond b (live_row seg (get_or docs at d) ∷ []) [] ++ rows_from seg (drop (at + 1) docs) (drop (at + 1) live)) (sym is)))
      ∙ so_far

pub rows_ended : (seg : SegNo) (docs : List Doc) (live : List Bool) (at : ℕ) (old whole : List LiveRow) → length docs ≤ at → old ++ rows_from seg (drop at docs) (drop at live) ≡ whole → old ≡ whole
rows_ended seg docs live at old whole le so_far = sym (append-nil old) ∙ sym (ap (λ (ds : List Doc). old ++ rows_from seg ds (drop at live)) (drop_of_length-le docs le)) ∙ so_far

-- ---- segment by segment
pub segment_put : (records : List SegRecord) (segs : List Shown) (at : ℕ) (r : SegRecord) (s : Shown) (old new whole : List LiveRow) → at < length records → at < length segs → r ≡ get_or records at r → s ≡ get_or segs at s
    → new ≡ old ++ rows_of_segment r s → old ++ rows_of_segments (drop at records) (drop at segs) ≡ whole → new ++ rows_of_segments (drop (at + 1) records) (drop (at + 1) segs) ≡ whole
segment_put records segs at r s old new whole lr ls er es put so_far =
    moved_over old new (rows_of_segment r s) (rows_of_segments (drop at records) (drop at segs)) (rows_of_segments (drop (at + 1) records) (drop (at + 1) segs)) whole
    (ap (λ (rs : List SegRecord). rows_of_segments rs (drop at segs)) (drop_more records at r lr ∙ ap (λ (x : SegRecord). x ∷ drop (at + 1) records) (sym er))
    ∙ ap (rows_of_segments (r ∷ drop (at + 1) records)) (drop_more segs at s ls ∙ ap (λ (x : Shown). x ∷ drop (at + 1) segs) (sym es))) so_far put

pub segments_ended : (records : List SegRecord) (segs : List Shown) (at : ℕ) (old whole : List LiveRow) → length records ≤ at → old ++ rows_of_segments (drop at records) (drop at segs) ≡ whole → old ≡ whole
segments_ended records segs at old whole le so_far = sym (append-nil old) ∙ sym (ap (λ (rs : List SegRecord). old ++ rows_of_segments rs (drop at segs)) (drop_of_length-le records le)) ∙ so_far
