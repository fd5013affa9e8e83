-- What reading the documents of a directory answers.
use Rattle.std.proofs.Common.{◌≡◌, ◌⊎◌, ℕ, zero, suc, List, [], ◌∷◌, ◌++◌, length, get_or, map, Result, Ok, Err, refl, sym, ap, subst, ◌∙◌, arith, inl, inr}
use Rattle.std.specs.Prelude.{◌≢◌, IfOk, IfErr}
use Rattle.std.specs.List.{All, AllZip, AllPairs, slice_get}
use Rattle.std.specs.List.Sorted.{IsPermutation}
use Rattle.std.proofs.lemmas.List.Elements.{All-cons, All-nil, All-head, All-tail}
use Rattle.nrt_base.specs.declared.doc.Doc.{Doc}
use Rattle.disk_model.specs.Disk.{Image}
use Rattle.segment_infos.specs.declared.infos.SegRecord.{SegRecord}
use Rattle.segment_infos.specs.declared.infos.Infos.{Infos}
use Rattle.seg_reader.specs.Shown.{Shown, live_documents_of, live_documents}
use Rattle.seg_reader.specs.Sound.{IsSound}
use Rattle.seg_reader.specs.Stands.{IsSegmentIn, StandsFor}
use Rattle.seg_reader.proofs.StandingLaws.{one_list_of_documents}
use Rattle.index_check.specs.declared.rows.LiveRow.{LiveRow}
use Rattle.index_check.specs.declared.fault.CheckFault.{CheckFault}
use Rattle.index_check.specs.declared.fault.CheckFault.TheVariants.{Memory, Failed, NoFile, File, Disagrees, Postings, TwoRows, OtherDocs}
use Rattle.index_check.specs.Answers.{IsCutShort, IsExact}
use Rattle.index_check.specs.Segments.{IsRightSegment, IsFirstWrong}
use Rattle.index_check.specs.Rows.{live_row, rows_of_segment, rows_of_segments, keys_of, HaveOwnKeys, row_documents, AreOwnDocuments, HaveTwin}
use Rattle.index_check.specs.Checked.{HasTwins, IsWrong, DifferFirst, StandsForOthers, AreOthers, IsCheckFault}
use Rattle.index_check.proofs.Exact.{IsOnlyRight, exact_value, exact_cut, exact_fault, exact_refused, only_right}
use Rattle.file_names.specs.Names.{part_name_of}
use Rattle.file_names.specs.declared.composed.SegPart.TheVariants.{Docs}
use Rattle.index_check.proofs.Twins.{twin_not_own, one_twin}
use Rattle.index_check.proofs.Places.{one_place}

-- ---- right segments
module _ (reads : Image) where
  right_segments : (records : List SegRecord) (segs : List Shown) → AllZip (IsSegmentIn reads) records segs → All IsSound segs → AllZip (IsRightSegment reads) records segs
  right_segments [] [] each sound = tt
  right_segments [] (s ∷ segs) each sound = absurd each
  right_segments (r ∷ rs) [] each sound = absurd each
  right_segments (r ∷ rs) (s ∷ segs) each sound = (record { segment = each.0; sound = All-head IsSound s segs sound }, right_segments rs segs each.1 (All-tail IsSound s segs sound))

  are_in : (records : List SegRecord) (segs : List Shown) → AllZip (IsRightSegment reads) records segs → AllZip (IsSegmentIn reads) records segs
  are_in [] [] right = tt
  are_in [] (s ∷ segs) right = absurd right
  are_in (r ∷ rs) [] right = absurd right
  are_in (r ∷ rs) (s ∷ segs) right = (right.0.segment, are_in rs segs right.1)

  all_sound : (records : List SegRecord) (segs : List Shown) → AllZip (IsRightSegment reads) records segs → All IsSound segs
  all_sound [] [] right = All-nil IsSound
  all_sound [] (s ∷ segs) right = absurd right
  all_sound (r ∷ rs) [] right = absurd right
  all_sound (r ∷ rs) (s ∷ segs) right = All-cons IsSound s segs right.0.sound (all_sound rs segs right.1)

  pub as_many : (records : List SegRecord) (segs : List Shown) → AllZip (IsRightSegment reads) records segs → length segs ≡ length records
  as_many [] [] right = refl
  as_many [] (s ∷ segs) right = absurd right
  as_many (r ∷ rs) [] right = absurd right
  as_many (r ∷ rs) (s ∷ segs) right = omega (arith, as_many rs segs right.1)

  -- the rows are those of the live documents
  documents-of_rows : (seg : SegRecord) (docs : List Doc) → row_documents (map (live_row seg.seg) docs) ≡ docs
  documents-of_rows seg [] = refl
  documents-of_rows seg (d ∷ docs) = ap (λ (ds : List Doc). d ∷ ds) (documents-of_rows seg docs)

  documents-append : (xs ys : List LiveRow) → row_documents (xs ++ ys) ≡ row_documents xs ++ row_documents ys
  documents-append [] ys = refl
  documents-append (x ∷ xs) ys = ap (λ (ds : List Doc). x.doc ∷ ds) (documents-append xs ys)

  rows_documents : (records : List SegRecord) (segs : List Shown) → AllZip (IsRightSegment reads) records segs → row_documents (rows_of_segments records segs) ≡ live_documents segs
  rows_documents [] [] right = refl
  rows_documents [] (s ∷ segs) right = absurd right
  rows_documents (r ∷ rs) [] right = absurd right
  rows_documents (r ∷ rs) (s ∷ segs) right =
      documents-append (rows_of_segment r s) (rows_of_segments rs segs) ∙ ap (λ (ds : List Doc). ds ++ row_documents (rows_of_segments rs segs)) (documents-of_rows r (live_documents_of s))
      ∙ ap (λ (ds : List Doc). live_documents_of s ++ ds) (rows_documents rs segs right.1)

  keys_are : (rows : List LiveRow) → keys_of rows ≡ map (λ (d : Doc). d.key) (row_documents rows)
  keys_are [] = refl
  keys_are (r ∷ rows) = ap (λ (ks : List (List ℕ)). r.doc.key ∷ ks) (keys_are rows)

  get_or-keys : (docs : List Doc) (i : ℕ) (d : Doc) → get_or (map (λ (x : Doc). x.key) docs) i d.key ≡ (get_or docs i d).key
  get_or-keys [] i d = refl
  get_or-keys (x ∷ docs) zero d = refl
  get_or-keys (x ∷ docs) (suc i) d = get_or-keys docs i d

  length-keys : (docs : List Doc) → length (map (λ (x : Doc). x.key) docs) ≡ length docs
  length-keys [] = refl
  length-keys (x ∷ docs) = ap suc (length-keys docs)

  apart_documents : (docs : List Doc) → AllPairs (λ (a b : List ℕ). a ≢ b) (map (λ (x : Doc). x.key) docs) → AllPairs (λ (d e : Doc). d.key ≢ e.key) docs
  apart_documents docs apart i j d less within same =
      apart i j d.key less (omega (arith, within, length-keys docs)) (get_or-keys docs i d ∙ same ∙ sym (get_or-keys docs j d))

  apart_keys : (docs : List Doc) → AllPairs (λ (d e : Doc). d.key ≢ e.key) docs → AllPairs (λ (a b : List ℕ). a ≢ b) (map (λ (x : Doc). x.key) docs)
  apart_keys docs apart i j k less within same =
      let none : Doc = record { key = k; text = [] } in
      apart i j none less (omega (arith, within, length-keys docs)) (sym (get_or-keys docs i none) ∙ same ∙ get_or-keys docs j none)

  module _ (infos : Infos) where
    pub its_segments : (docs : List Doc) → StandsFor reads infos docs → (segs : List Shown) × AllZip (IsRightSegment reads) infos.segs segs
    its_segments docs h = (h.segs, right_segments infos.segs h.segs h.stands.each h.stands.stand.sound)

    -- the segments are not read
    pub no_segments : (f : CheckFault) → IsExact (AllZip (IsRightSegment reads) infos.segs) (IsFirstWrong reads infos.segs) (Err f) → IsExact (StandsFor reads infos) (IsWrong reads infos) (Err f)
    no_segments f h =
        exact_refused (AllZip (IsRightSegment reads) infos.segs) (IsFirstWrong reads infos.segs) (StandsFor reads infos) (IsWrong reads infos) f (λ g first. inl first) its_segments
        (λ g wrong. elim wrong [ inl first ↦ inl first | inr twins ↦ inr (twins.segs, twins.right) ]) h

    module _ (segs : List Shown) (exact : IsExact (AllZip (IsRightSegment reads) infos.segs) (IsFirstWrong reads infos.segs) (Ok segs)) where
      own : IsOnlyRight (AllZip (IsRightSegment reads) infos.segs) (IsFirstWrong reads infos.segs) segs
      own = only_right (AllZip (IsRightSegment reads) infos.segs) (IsFirstWrong reads infos.segs) segs exact

      same_documents : row_documents (rows_of_segments infos.segs segs) ≡ live_documents segs
      same_documents = rows_documents infos.segs segs own.right

      -- what stands has rows of their own keys
      own_keys : (docs : List Doc) → StandsFor reads infos docs → HaveOwnKeys (rows_of_segments infos.segs segs)
      own_keys docs h =
          let one : h.segs ≡ segs = own.one h.segs (right_segments infos.segs h.segs h.stands.each h.stands.stand.sound) in
          let apart : AllPairs (λ (d e : Doc). d.key ≢ e.key) (live_documents segs) = subst (λ (ss : List Shown). AllPairs (λ (d e : Doc). d.key ≢ e.key) (live_documents ss)) one h.stands.stand.apart in
          subst (AllPairs (λ (a b : List ℕ). a ≢ b)) (sym (keys_are (rows_of_segments infos.segs segs) ∙ ap (map (λ (d : Doc). d.key)) same_documents)) (apart_keys (live_documents segs) apart)

      not_both : (f : CheckFault) → HaveTwin (rows_of_segments infos.segs segs) f → HaveOwnKeys (rows_of_segments infos.segs segs) → ⊥
      not_both (TwoRows name key) twin keys = twin_not_own (rows_of_segments infos.segs segs) twin.twin twin.first keys
      not_both Memory twin keys = twin
      not_both Failed twin keys = twin
      not_both (NoFile name) twin keys = twin
      not_both (File name fault) twin keys = twin
      not_both (Disagrees name want found) twin keys = twin
      not_both (Postings name) twin keys = twin
      not_both (OtherDocs at) twin keys = twin

      twins_here : (f : CheckFault) → HasTwins reads infos f → HaveTwin (rows_of_segments infos.segs segs) f
      twins_here f h = subst (λ (ss : List Shown). HaveTwin (rows_of_segments infos.segs ss) f) (own.one h.segs h.right) h.twin

      same_rows : (a b : List ℕ) (k l : List ℕ) → a ≡ b → k ≡ l → ◌≡◌ {A = CheckFault} (TwoRows a k) (TwoRows b l)
      same_rows a b k l e f = cc

      one_fault : (f g : CheckFault) → HaveTwin (rows_of_segments infos.segs segs) f → HaveTwin (rows_of_segments infos.segs segs) g → g ≡ f
      one_fault (TwoRows name key) (TwoRows name2 key2) x y =
          let same : y.twin ≡ x.twin = one_twin (rows_of_segments infos.segs segs) y.twin x.twin y.first x.first in
          same_rows name2 name key2 key (y.name_is ∙ ap (λ (t : LiveRow). part_name_of t.seg.0 Docs) same ∙ sym x.name_is) (y.key_is ∙ ap (λ (t : LiveRow). t.doc.key) same ∙ sym x.key_is)
      one_fault (TwoRows name key) Memory x y = absurd y
      one_fault (TwoRows name key) Failed x y = absurd y
      one_fault (TwoRows name key) (NoFile name2) x y = absurd y
      one_fault (TwoRows name key) (File name2 fault) x y = absurd y
      one_fault (TwoRows name key) (Disagrees name2 want found) x y = absurd y
      one_fault (TwoRows name key) (Postings name2) x y = absurd y
      one_fault (TwoRows name key) (OtherDocs at) x y = absurd y
      one_fault Memory g x y = absurd x
      one_fault Failed g x y = absurd x
      one_fault (NoFile name) g x y = absurd x
      one_fault (File name fault) g x y = absurd x
      one_fault (Disagrees name want found) g x y = absurd x
      one_fault (Postings name) g x y = absurd x
      one_fault (OtherDocs at) g x y = absurd x

      stands_for : (docs : List Doc) → AreOwnDocuments (rows_of_segments infos.segs segs) docs → StandsFor reads infos docs
      stands_for docs h = record {
        segs = segs;
        stands = record {
          each = are_in infos.segs segs own.right;
          stand = record {
            sound = all_sound infos.segs segs own.right;
            apart = apart_documents (live_documents segs) (subst (AllPairs (λ (a b : List ℕ). a ≢ b)) (keys_are (rows_of_segments infos.segs segs) ∙ ap (map (λ (d : Doc). d.key)) same_documents) h.own);
            documents = record { same = subst (λ (ds : List Doc). IsPermutation ds docs) same_documents h.same; in_order = h.in_order };
          };
        };
      }

      pub documents_answered : (all : List LiveRow) (result : Result (List Doc) CheckFault) → all ≡ rows_of_segments infos.segs segs → IfOk result (AreOwnDocuments all) → IfErr result (λ f. IsCutShort f ⊎ HaveTwin all f)
          → IsExact (StandsFor reads infos) (IsWrong reads infos) result
      documents_answered all (Ok docs) same is _ =
          exact_value (StandsFor reads infos) (IsWrong reads infos) docs (record { right = here; one = λ other h. one_list_of_documents reads infos other docs h here; none = none })
        where
          here : StandsFor reads infos docs
          here = stands_for docs (subst (λ (rs : List LiveRow). AreOwnDocuments rs docs) same is)

          none : (f : CheckFault) → IsWrong reads infos f → ⊥
          none f (inl first) = own.none f first
          none f (inr twins) = not_both f (twins_here f twins) (own_keys docs here)
      documents_answered all (Err f) same _ (inl cut) = exact_cut (StandsFor reads infos) (IsWrong reads infos) f cut
      documents_answered all (Err f) same _ (inr twin) =
          exact_fault (StandsFor reads infos) (IsWrong reads infos) f (record { there = inr (record { segs = segs; right = own.right; twin = here }); one = only; none = λ docs h. not_both f here (own_keys docs h) })
        where
          here : HaveTwin (rows_of_segments infos.segs segs) f
          here = subst (λ (rs : List LiveRow). HaveTwin rs f) same twin

          only : (g : CheckFault) → IsWrong reads infos g → g ≡ f
          only g (inl first) = absurd (own.none g first)
          only g (inr twins) = one_fault f g here (twins_here g twins)

    -- ---- compared with given documents
    module _ (docs : List Doc) where
      pub not_read : (f : CheckFault) → IsExact (StandsFor reads infos) (IsWrong reads infos) (Err f) → IsExact (λ (_ : Unit {0}). StandsFor reads infos docs) (IsCheckFault reads infos docs) (Err f)
      not_read f h =
          exact_refused (StandsFor reads infos) (IsWrong reads infos) (λ (_ : Unit {0}). StandsFor reads infos docs) (IsCheckFault reads infos docs) f (λ g wrong. inl wrong) (λ _ stands. (docs, stands))
          (λ g fault. elim fault [ inl wrong ↦ inl wrong | inr others ↦ inr (found_of g others) ]) h
        where
          found_of : (g : CheckFault) → AreOthers reads infos docs g → (found : List Doc) × StandsFor reads infos found
          found_of (OtherDocs at) h = (h.found, h.stands)
          found_of Memory h = absurd h
          found_of Failed h = absurd h
          found_of (NoFile name) h = absurd h
          found_of (File name fault) h = absurd h
          found_of (Disagrees name want found) h = absurd h
          found_of (Postings name) h = absurd h
          found_of (TwoRows name key) h = absurd h

      module _ (found : List Doc) (exact : IsExact (StandsFor reads infos) (IsWrong reads infos) (Ok found)) where
        read : IsOnlyRight (StandsFor reads infos) (IsWrong reads infos) found
        read = only_right (StandsFor reads infos) (IsWrong reads infos) found exact

        -- others differ at a place
        others_here : (at : ℕ) → StandsForOthers reads infos docs at → DifferFirst found docs at
        others_here at h = subst (λ (ds : List Doc). DifferFirst ds docs at) (read.one h.found h.stands) h.first

        pub same_found : found ≡ docs → IsExact (λ (_ : Unit {0}). StandsFor reads infos docs) (IsCheckFault reads infos docs) (Ok tt)
        same_found e =
            exact_value (λ (_ : Unit {0}). StandsFor reads infos docs) (IsCheckFault reads infos docs) tt (record { right = subst (StandsFor reads infos) e read.right; one = λ _ _. refl; none = none })
          where
            none : (f : CheckFault) → IsCheckFault reads infos docs f → ⊥
            none f (inl wrong) = read.none f wrong
            none (OtherDocs at) (inr h) = (others_here at h).differ (ap (λ (ds : List Doc). slice_get ds at) e)
            none Memory (inr h) = h
            none Failed (inr h) = h
            none (NoFile name) (inr h) = h
            none (File name fault) (inr h) = h
            none (Disagrees name want got) (inr h) = h
            none (Postings name) (inr h) = h
            none (TwoRows name key) (inr h) = h

        pub others_found : (at : ℕ) → DifferFirst found docs at → IsExact (λ (_ : Unit {0}). StandsFor reads infos docs) (IsCheckFault reads infos docs) (Err (OtherDocs at))
        others_found at first =
            exact_fault (λ (_ : Unit {0}). StandsFor reads infos docs) (IsCheckFault reads infos docs) (OtherDocs at) (record {
              there = inr (record { found = found; stands = read.right; first = first });
              one = only;
              none = λ _ stands. first.differ (ap (λ (ds : List Doc). slice_get ds at) (sym (read.one docs stands)));
            })
          where
            only : (g : CheckFault) → IsCheckFault reads infos docs g → g ≡ OtherDocs at
            only g (inl wrong) = absurd (read.none g wrong)
            only (OtherDocs other) (inr h) = ap OtherDocs (one_place found docs other at (others_here other h) first)
            only Memory (inr h) = absurd h
            only Failed (inr h) = absurd h
            only (NoFile name) (inr h) = absurd h
            only (File name fault) (inr h) = absurd h
            only (Disagrees name want got) (inr h) = absurd h
            only (Postings name) (inr h) = absurd h
            only (TwoRows name key) (inr h) = absurd h
