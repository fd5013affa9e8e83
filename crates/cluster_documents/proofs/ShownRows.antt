-- The documents of live rows that are gathered, and that those of a node are of its version.
use Rattle.std.proofs.Common.{◌≡◌, ℕ, ◌+◌, ◌<◌, ◌≤◌, Bool, true, false, cond, List, [], ◌∷◌, ◌++◌, Some, None, Option, length, get_or, drop, map, refl, sym, ap, subst, ◌∙◌, arith}
use Rattle.std.specs.Prelude.{IsSomeAnd}
use Rattle.std.specs.List.{filter, zip}
use Rattle.std.proofs.lemmas.List.{append-nil, drop_more}
use Rattle.std.proofs.Math.ListN.{drop_of_length-le}
use Rattle.nrt_base.specs.declared.doc.Doc.{Doc}
use Rattle.nrt_base.proofs.Plain.{moved_over}
use Rattle.disk_model.specs.Disk.{Cells}
use Rattle.seg_reader.specs.Shown.{Shown, live_documents_of, live_documents, AreLiveDocuments}
use Rattle.seg_reader.specs.Stands.{AreSegmentsOf}
use Rattle.seg_reader.proofs.SortedLists.{one_live_list}
use Rattle.history_rules.specs.Nodes.{is_running, version_of}
use Rattle.history_rules.specs.Points.{documents_at}
use Rattle.history_book.specs.Log.{Log, printed}
use Rattle.cluster_nodes.specs.declared.nodes.Node.{Node}
use Rattle.cluster_nodes.specs.declared.nodes.Node.TheVariants.{Primary, Replica, Down}
use Rattle.cluster_nodes.specs.declared.nodes.NodePlace.{NodePlace}
use Rattle.cluster_nodes.specs.Places.{searchers_of, AreReadersAt}
use Rattle.cluster_state.specs.State.{NodeShows, PlaceShows}

-- the documents of these rows that are live
abbrev pub live_from : List Doc → List Bool → List Doc
live_from docs live = map (λ x. x.0) (filter (λ x. x.1) (zip docs live))

row_step : (docs : List Doc) (live : List Bool) (at : ℕ) (d : Doc) → at < length docs → length live ≡ length docs
    → live_from (drop at docs) (drop at live) ≡ cond (get_or live at false) (get_or docs at d ∷ []) [] ++ live_from (drop (at + 1) docs) (drop (at + 1) live)
row_step docs live at d lt long =
    let l : at < length live = omega (arith, lt, long) in
    ap (λ (ds : List Doc). live_from ds (drop at live)) (drop_more docs at d lt) ∙ ap (live_from (get_or docs at d ∷ drop (at + 1) docs)) (drop_more live at false l)
    ∙ by_row (get_or live at false) (get_or docs at d) (drop (at + 1) docs) (drop (at + 1) live)
  where
    by_row : (b : Bool) (x : Doc) (ds : List Doc) (ls : List Bool) → live_from (x ∷ ds) (b ∷ ls) ≡ cond b (x ∷ []) [] ++ live_from ds ls
    by_row true x ds ls = refl
    by_row false x ds ls = refl

module _ (docs : List Doc) (live : List Bool) (at : ℕ) (old whole : List Doc) (lt : at < length docs) (long : length live ≡ length docs) (so_far : old ++ live_from (drop at docs) (drop at live) ≡ whole) where
  pub row_taken : (d : Doc) (new : List Doc) → true ≡ get_or live at false → d ≡ get_or docs at d → new ≡ old ++ d ∷ [] → new ++ live_from (drop (at + 1) docs) (drop (at + 1) live) ≡ whole
  row_taken d new is same put =
      moved_over old new (d ∷ []) (live_from (drop at docs) (drop at live)) (live_from (drop (at + 1) docs) (drop (at + 1) live)) whole
      (row_step docs live at d lt long ∙ ap (λ (b : Bool). cond b (get_or docs at d ∷ []) [] ++ live_from (drop (at + 1) docs) (drop (at + 1) live)) (sym is)
      ∙ ap (λ (x : Doc). x ∷ live_from (drop (at + 1) docs) (drop (at + 1) live)) (sym same)) so_far put

  pub row_dead : (d : Doc) → false ≡ get_or live at false → old ++ live_from (drop (at + 1) docs) (drop (at + 1) live) ≡ whole
  row_dead d is =
      ap (λ (rest : List Doc). old ++ rest) (sym (row_step docs live at d lt long ∙ ap (λ (b : Bool). cond b (get_or docs at d ∷ []) [] ++ live_from (drop (at + 1) docs) (drop (at + 1) live)) (sym is)))
      ∙ so_far

-- ---- segment by segment

pub segment_taken : (segs : List Shown) (at : ℕ) (s : Shown) (old new whole : List Doc) → at < length segs → s ≡ get_or segs at s → new ≡ old ++ live_documents_of s → old ++ live_documents (drop at segs) ≡ whole
    → new ++ live_documents (drop (at + 1) segs) ≡ whole
segment_taken segs at s old new whole lt is put so_far =
    moved_over old new (live_documents_of s) (live_documents (drop at segs)) (live_documents (drop (at + 1) segs)) whole
    (ap live_documents (drop_more segs at s lt ∙ ap (λ (x : Shown). x ∷ drop (at + 1) segs) (sym is))) so_far put

pub segments_taken : (segs : List Shown) (at : ℕ) (old whole : List Doc) → length segs ≤ at → old ++ live_documents (drop at segs) ≡ whole → old ≡ whole
segments_taken segs at old whole le so_far = sym (append-nil old) ∙ sym (ap (λ (rest : List Shown). old ++ live_documents rest) (drop_of_length-le segs le)) ∙ so_far

-- ---- of a node

module _ {D : Type 0} (cells : D → Cells) where
  one_list : (past_docs : List Doc) (readers segs : List Shown) (docs : List Doc) → AreSegmentsOf past_docs readers → segs ≡ readers → AreLiveDocuments segs docs → docs ≡ past_docs
  one_list past_docs readers segs docs stand same live = one_live_list readers docs past_docs stand.apart (subst (λ (ss : List Shown). AreLiveDocuments ss docs) same live) stand.documents

  -- what it shows are the documents of the version that it searches
  pub shown_documents : (log : Log) (n : ℕ) (o : Option (NodePlace D)) (segs : List Shown) (docs : List Doc) → is_running n (printed log) ≡ true → IsSomeAnd o (PlaceShows cells log n) → AreReadersAt o segs → AreLiveDocuments segs docs
      → docs ≡ documents_at (printed log) (version_of n (printed log))
  shown_documents log n None segs docs up shows readers live = absurd shows
  shown_documents log n (Some place) segs docs up shows readers live = by place.node shows.node_shows readers
    where
      by : (x : Node D) → NodeShows cells log n x → IsSomeAnd (searchers_of x) (λ s. segs ≡ s.point.readers) → docs ≡ documents_at (printed log) (version_of n (printed log))
      by (Primary p) is read = one_list (documents_at (printed log) (version_of n (printed log))) p.searchers.point.readers segs docs is.point.stands.documents read live
      by (Replica r) is read = one_list (documents_at (printed log) (version_of n (printed log))) r.searchers.point.readers segs docs is.point.stands.documents read live
      by (Down d) is read = absurd read
