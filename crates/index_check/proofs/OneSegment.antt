-- What checking one segment answers.
use Rattle.std.proofs.Common.{◌≡◌, ◌⊎◌, ℕ, Bool, List, Option, Some, None, Result, Ok, Err, refl, sym, ap, subst, ◌∙◌, inl, inr}
use Rattle.std.specs.Prelude.{IfOk, IfErr}
use Rattle.nrt_base.proofs.Plain.{ok_never_err, same_err}
use Rattle.codec_frame.specs.declared.frame.FileFault.{FileFault}
use Rattle.disk_model.specs.Disk.{Name, Image}
use Rattle.live_bits.specs.LiveRows.{live_rows}
use Rattle.live_bits.proofs.Editing.{all_live}
use Rattle.segment_infos.specs.Infos.{IsRecord}
use Rattle.segment_infos.specs.declared.infos.SegRecord.{SegRecord}
use Rattle.seg_reader.specs.declared.parts.SegFile.{SegFile}
use Rattle.seg_reader.specs.declared.parts.SegFile.TheVariants.{Post}
use Rattle.seg_reader.specs.declared.parts.SegParts.{SegParts}
use Rattle.seg_reader.specs.declared.parts.SegFault.{SegFault}
use Rattle.seg_reader.specs.declared.parts.SegFault.TheVariants.{Memory as NoMemory, File as OfFile, Disagrees as OtherNumber}
use Rattle.seg_reader.specs.Shown.{Shown}
use Rattle.seg_reader.specs.Files.{AreLiveRowsOf, IsSegmentOf}
use Rattle.seg_reader.specs.Faults.{IsSegmentFault}
use Rattle.seg_reader.specs.Sound.{IsSound}
use Rattle.seg_reader.specs.Stands.{IsLiveFileIn, ArePartsIn}
use Rattle.seg_reader.proofs.StandingLaws.{one_segment, one_parts}
use Rattle.index_check.specs.declared.fault.CheckFault.{CheckFault}
use Rattle.index_check.specs.declared.fault.CheckFault.TheVariants.{Memory, Failed, NoFile, File, Disagrees, Postings, TwoRows, OtherDocs}
use Rattle.index_check.specs.Answers.{IsCutShort, IsExact}
use Rattle.index_check.specs.Segments.{segment_file_name, LacksFile, IsRightOf, fault_of_reader, HaveFault, IsSegmentWrong, IsRightSegment}
use Rattle.index_check.specs.Judged.{IsMemoryOrUnsound}
use Rattle.index_check.proofs.Exact.{IsOnlyThere, exact_value, exact_cut, exact_fault, exact_same}
use Rattle.index_check.proofs.Loads.{not_lacking, lacks_one}

same_file_fault : (part part2 : SegFile) (f f2 : FileFault) → ◌≡◌ {A = SegFault} (OfFile part f) (OfFile part2 f2) → (part ≡ part2) × (f ≡ f2)
same_file_fault part part2 f f2 e = (cc, cc)

same_number_fault : (part part2 : SegFile) (want want2 found found2 : ℕ) → ◌≡◌ {A = SegFault} (OtherNumber part want found) (OtherNumber part2 want2 found2) → (part ≡ part2) × ((want ≡ want2) × (found ≡ found2))
same_number_fault part part2 want want2 found found2 e = (cc, (cc, cc))

file_never_number : (part part2 : SegFile) (f : FileFault) (want found : ℕ) → ◌≡◌ {A = SegFault} (OfFile part f) (OtherNumber part2 want found) → ⊥
file_never_number part part2 f want found e = cc

named_file : (a b : Name) (f g : FileFault) → a ≡ b → f ≡ g → ◌≡◌ {A = CheckFault} (File a f) (File b g)
named_file a b f g e h = cc

named_number : (a b : Name) (want want2 found found2 : ℕ) → a ≡ b → want ≡ want2 → found ≡ found2 → ◌≡◌ {A = CheckFault} (Disagrees a want found) (Disagrees b want2 found2)
named_number a b want want2 found found2 e f g = cc

module _ (parts : SegParts) (r : SegRecord) where
  -- the reader refused the files for this fault, and for no other
  record IsOnlyFault (fault : SegFault) : Type 0 where
    is : IsSegmentFault parts r fault
    one : (other : SegFault) → IsSegmentFault parts r other → fault ≡ other
    none : (shown : Shown) → IsSegmentOf parts r shown → ⊥

  refused_by : (fault : SegFault) → IsOnlyFault fault → IsOnlyThere (IsRightOf parts r) (HaveFault parts r) (fault_of_reader r fault)
  refused_by NoMemory h = absurd h.is
  refused_by (OfFile part f) h = record { there = record { part = part; first = h.is; name_is = refl }; one = only; none = λ y right. h.none y right.segment }
    where
      only : (g : CheckFault) → HaveFault parts r g → g ≡ File (segment_file_name r part) f
      only (File name f2) k = let e = same_file_fault part k.part f f2 (h.one (OfFile k.part f2) k.first) in named_file name (segment_file_name r part) f2 f (k.name_is ∙ ap (segment_file_name r) (sym e.0)) (sym e.1)
      only (Disagrees name want found) k = absurd (file_never_number part k.part f want found (h.one (OtherNumber k.part want found) k.first))
      only (Postings name) k = absurd (h.none k.shown k.segment)
      only Memory k = absurd k
      only Failed k = absurd k
      only (NoFile name) k = absurd k
      only (TwoRows name key) k = absurd k
      only (OtherDocs at) k = absurd k
  refused_by (OtherNumber part want found) h = record { there = record { part = part; first = h.is; name_is = refl }; one = only; none = λ y right. h.none y right.segment }
    where
      only : (g : CheckFault) → HaveFault parts r g → g ≡ Disagrees (segment_file_name r part) want found
      only (Disagrees name want2 found2) k =
          let e = same_number_fault part k.part want want2 found found2 (h.one (OtherNumber k.part want2 found2) k.first) in
          named_number name (segment_file_name r part) want2 want found2 found (k.name_is ∙ ap (segment_file_name r) (sym e.0)) (sym e.1.0) (sym e.1.1)
      only (File name f2) k = absurd (file_never_number k.part part f2 want found (sym (h.one (OfFile k.part f2) k.first)))
      only (Postings name) k = absurd (h.none k.shown k.segment)
      only Memory k = absurd k
      only Failed k = absurd k
      only (NoFile name) k = absurd k
      only (TwoRows name key) k = absurd k
      only (OtherDocs at) k = absurd k

  -- the reader refused the files
  pub reader_refused : (fault : SegFault) → (fault ≡ NoMemory) ⊎ IsSegmentFault parts r fault
      → ((shown : Shown) → IsSegmentOf parts r shown → (◌≡◌ {A = Result Shown SegFault} (Err fault) (Err NoMemory)) ⊎ (◌≡◌ {A = Result Shown SegFault} (Err fault) (Ok shown)))
      → ((other : SegFault) → IsSegmentFault parts r other → (◌≡◌ {A = Result Shown SegFault} (Err fault) (Err NoMemory)) ⊎ (◌≡◌ {A = Result Shown SegFault} (Err fault) (Err other)))
      → IsExact (IsRightOf parts r) (HaveFault parts r) (Err (fault_of_reader r fault))
  reader_refused fault (inl cut) segments faults = exact_cut (IsRightOf parts r) (HaveFault parts r) (fault_of_reader r fault) (subst (λ (f : SegFault). IsCutShort (fault_of_reader r f)) (sym cut) tt)
  reader_refused fault (inr is) segments faults =
      exact_fault (IsRightOf parts r) (HaveFault parts r) (fault_of_reader r fault) (refused_by fault (record { is = is; one = λ other k. by_fault other (faults other k); none = λ shown k. by_segment shown (segments shown k) }))
    where
      no_memory : fault ≡ NoMemory → ⊥
      no_memory e = subst (IsSegmentFault parts r) e is

      by_fault : (other : SegFault) → (◌≡◌ {A = Result Shown SegFault} (Err fault) (Err NoMemory)) ⊎ (◌≡◌ {A = Result Shown SegFault} (Err fault) (Err other)) → fault ≡ other
      by_fault other (inl e) = absurd (no_memory (same_err _ _ e))
      by_fault other (inr e) = same_err _ _ e

      by_segment : (shown : Shown) → (◌≡◌ {A = Result Shown SegFault} (Err fault) (Err NoMemory)) ⊎ (◌≡◌ {A = Result Shown SegFault} (Err fault) (Ok shown)) → ⊥
      by_segment shown (inl e) = no_memory (same_err _ _ e)
      by_segment shown (inr e) = ok_never_err _ _ (sym e)

  module _ (shown : Shown) (segment : IsSegmentOf parts r shown) where
    one_here : (y : Shown) → IsSegmentOf parts r y → y ≡ shown
    one_here y k = one_segment parts r y shown k segment

    no_fault : ((other : SegFault) → IsSegmentFault parts r other → (◌≡◌ {A = Result Shown SegFault} (Ok shown) (Err NoMemory)) ⊎ (◌≡◌ {A = Result Shown SegFault} (Ok shown) (Err other)))
        → (other : SegFault) → IsSegmentFault parts r other → ⊥
    no_fault faults other is = elim (faults other is) [ inl e ↦ ok_never_err _ _ e | inr e ↦ ok_never_err _ _ e ]

    module _ (faults : (other : SegFault) → IsSegmentFault parts r other → (◌≡◌ {A = Result Shown SegFault} (Ok shown) (Err NoMemory)) ⊎ (◌≡◌ {A = Result Shown SegFault} (Ok shown) (Err other))) where
      -- its postings are those of its rows
      is_right : IsSound shown → IsExact (IsRightOf parts r) (HaveFault parts r) (Ok shown)
      is_right sound = exact_value (IsRightOf parts r) (HaveFault parts r) shown (record { right = record { segment = segment; sound = sound }; one = λ y right. one_here y right.segment; none = none })
        where
          none : (f : CheckFault) → HaveFault parts r f → ⊥
          none (File name f) k = no_fault faults (OfFile k.part f) k.first
          none (Disagrees name want found) k = no_fault faults (OtherNumber k.part want found) k.first
          none (Postings name) k = k.unsound (subst IsSound (sym (one_here k.shown k.segment)) sound)
          none Memory k = k
          none Failed k = k
          none (NoFile name) k = k
          none (TwoRows name key) k = k
          none (OtherDocs at) k = k

      -- its postings are others
      other_postings : (IsSound shown → ⊥) → IsExact (IsRightOf parts r) (HaveFault parts r) (Err (Postings (segment_file_name r Post)))
      other_postings unsound =
          exact_fault (IsRightOf parts r) (HaveFault parts r) (Postings (segment_file_name r Post)) (record {
            there = record { shown = shown; segment = segment; unsound = unsound; name_is = refl };
            one = only;
            none = λ y right. unsound (subst IsSound (one_here y right.segment) right.sound);
          })
        where
          only : (g : CheckFault) → HaveFault parts r g → g ≡ Postings (segment_file_name r Post)
          only (Postings name) k = ap Postings k.name_is
          only (File name f) k = absurd (no_fault faults (OfFile k.part f) k.first)
          only (Disagrees name want found) k = absurd (no_fault faults (OtherNumber k.part want found) k.first)
          only Memory k = absurd k
          only Failed k = absurd k
          only (NoFile name) k = absurd k
          only (TwoRows name key) k = absurd k
          only (OtherDocs at) k = absurd k

      -- its postings are those of its rows, or they are others, or memory ran out
      pub by_postings : (result : Result Shown CheckFault) → IfOk result (λ same. (same ≡ shown) × IsSound shown) → IfErr result (IsMemoryOrUnsound shown r) → IsExact (IsRightOf parts r) (HaveFault parts r) result
      by_postings (Ok same) sound fault = subst (λ (s : Shown). IsExact (IsRightOf parts r) (HaveFault parts r) (Ok s)) (sym sound.0) (is_right sound.1)
      by_postings (Err f) sound (inl memory) = exact_cut (IsRightOf parts r) (HaveFault parts r) f (subst IsCutShort (sym memory) tt)
      by_postings (Err f) sound (inr others) = subst (λ (g : CheckFault). IsExact (IsRightOf parts r) (HaveFault parts r) (Err g)) (sym others.0) (other_postings others.1)

-- ---- the segment in its directory
module _ (reads : Image) (r : SegRecord) where
  pub not_loaded : (f : CheckFault) → IsCutShort f ⊎ LacksFile reads r f → IsExact (IsRightSegment reads r) (IsSegmentWrong reads r) (Err f)
  not_loaded f (inl cut) = exact_cut (IsRightSegment reads r) (IsSegmentWrong reads r) f cut
  not_loaded f (inr lacks) =
      exact_fault (IsRightSegment reads r) (IsSegmentWrong reads r) f (record {
        there = inl lacks;
        one = λ g wrong. elim wrong [ inl other ↦ lacks_one reads r f g lacks other | inr have ↦ absurd (not_lacking reads r have.parts f have.files lacks) ];
        none = λ y right. not_lacking reads r right.segment.parts f right.segment.files lacks;
      })

  live_count : (bytes : Option (List ℕ)) (live : List Bool) → IsRecord r → IsLiveFileIn reads r bytes → AreLiveRowsOf bytes r live → live_rows live ≡ r.live
  live_count None live is none rows = ap live_rows rows ∙ all_live r.rows ∙ sym (is.all none)
  live_count (Some bytes) live is there rows = rows.2

  pub in_directory : (parts : SegParts) (result : Result Shown CheckFault) → IsRecord r → ArePartsIn reads r parts → IsExact (IsRightOf parts r) (HaveFault parts r) result
      → IsExact (IsRightSegment reads r) (IsSegmentWrong reads r) result
  in_directory parts result is files h =
      exact_same (IsRightOf parts r) (IsRightSegment reads r) (HaveFault parts r) (IsSegmentWrong reads r) result
      (λ x right. record { segment = record { parts = parts; files = files; segment = right.segment; live = live_count parts.live x.live is files.live right.segment.live }; sound = right.sound })
      (λ x right. record { segment = subst (λ (p : SegParts). IsSegmentOf p r x) (one_parts reads r right.segment.parts parts right.segment.files files) right.segment.segment; sound = right.sound })
      (λ f have. inr (record { parts = parts; files = files; have = have }))
      (λ f wrong. elim wrong [
        | inl lacks ↦ absurd (not_lacking reads r parts f files lacks)
        | inr other ↦ subst (λ (p : SegParts). HaveFault p r f) (one_parts reads r other.parts parts other.files files) other.have
      ]) h
