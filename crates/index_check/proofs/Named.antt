-- What is wrong with a commit is a fault of a file, which a line names.
use Rattle.std.proofs.Common.{◌≡◌, ◌⊎◌, List, [], ◌∷◌, refl, inl, inr, arith}
use Rattle.std.specs.Prelude.{IsSome}
use Rattle.nrt_base.specs.Causes.{Rose}
use Rattle.disk_model.specs.Disk.{Image}
use Rattle.segment_infos.specs.declared.infos.Infos.{Infos}
use Rattle.segment_infos.specs.declared.infos.SegRecord.{SegRecord}
use Rattle.seg_reader.specs.declared.parts.SegParts.{SegParts}
use Rattle.index_check.specs.declared.fault.CheckFault.{CheckFault}
use Rattle.index_check.specs.declared.fault.CheckFault.TheVariants.{Memory, Failed, NoFile, File, Disagrees, Postings, TwoRows, OtherDocs}
use Rattle.index_check.specs.declared.rows.LiveRow.{LiveRow}
use Rattle.index_check.specs.Answers.{IsCutShort}
use Rattle.index_check.specs.Segments.{LacksFile, HaveFault, IsSegmentWrong, IsFirstWrong}
use Rattle.index_check.specs.Rows.{HaveTwin}
use Rattle.index_check.specs.Checked.{IsWrong}
use Rattle.index_check.specs.Commit.{HasBrokenInfos, IsCommitFault}
use Rattle.index_check.specs.Lines.{name_and_number}

abbrev IsNamed : CheckFault → Type 0
IsNamed f = IsSome (name_and_number f)

-- a count that stands at 0 did not rise
pub never_rose : Rose 0 0 → ⊥
never_rose h = omega (arith, h)

module _ (reads : Image) where
  lacks_named : (r : SegRecord) (f : CheckFault) → LacksFile reads r f → IsNamed f
  lacks_named r (NoFile name) h = refl
  lacks_named r (File name fault) h = refl
  lacks_named r (Disagrees name want found) h = refl
  lacks_named r (Postings name) h = refl
  lacks_named r (TwoRows name key) h = refl
  lacks_named r Memory h = absurd h
  lacks_named r Failed h = absurd h
  lacks_named r (OtherDocs at) h = absurd h

  broken_named : (f : CheckFault) → HasBrokenInfos reads f → IsNamed f
  broken_named (NoFile name) h = refl
  broken_named (File name fault) h = refl
  broken_named (Disagrees name want found) h = refl
  broken_named (Postings name) h = refl
  broken_named (TwoRows name key) h = refl
  broken_named Memory h = absurd h
  broken_named Failed h = absurd h
  broken_named (OtherDocs at) h = absurd h

  have_named : (parts : SegParts) (r : SegRecord) (f : CheckFault) → HaveFault parts r f → IsNamed f
  have_named parts r (NoFile name) h = refl
  have_named parts r (File name fault) h = refl
  have_named parts r (Disagrees name want found) h = refl
  have_named parts r (Postings name) h = refl
  have_named parts r (TwoRows name key) h = refl
  have_named parts r Memory h = absurd h
  have_named parts r Failed h = absurd h
  have_named parts r (OtherDocs at) h = absurd h

  twin_named : (rows : List LiveRow) (f : CheckFault) → HaveTwin rows f → IsNamed f
  twin_named rows (NoFile name) h = refl
  twin_named rows (File name fault) h = refl
  twin_named rows (Disagrees name want found) h = refl
  twin_named rows (Postings name) h = refl
  twin_named rows (TwoRows name key) h = refl
  twin_named rows Memory h = absurd h
  twin_named rows Failed h = absurd h
  twin_named rows (OtherDocs at) h = absurd h

  segment_named : (r : SegRecord) (f : CheckFault) → IsSegmentWrong reads r f → IsNamed f
  segment_named r f (inl h) = lacks_named r f h
  segment_named r f (inr h) = have_named h.parts r f h.have

  first_named : (rs : List SegRecord) (f : CheckFault) → IsFirstWrong reads rs f → IsNamed f
  first_named [] f h = absurd h
  first_named (r ∷ rs) f (inl h) = segment_named r f h
  first_named (r ∷ rs) f (inr h) = first_named rs f h.1

  wrong_named : (infos : Infos) (f : CheckFault) → IsWrong reads infos f → IsNamed f
  wrong_named infos f (inl h) = first_named infos.segs f h
  wrong_named infos f (inr h) = twin_named _ f h.twin

  fault_named : (f : CheckFault) → IsCommitFault reads f → IsNamed f
  fault_named f (inl h) = broken_named f h
  fault_named f (inr h) = wrong_named h.infos f h.wrong

  -- where the disk did not fail, what was answered is want of memory or the fault of a file
  pub memory_or_named : (f : CheckFault) → IsCutShort f ⊎ IsCommitFault reads f → (f ≡ Failed → ⊥) → (f ≡ Memory) ⊎ IsNamed f
  memory_or_named f (inr h) kept = inr (fault_named f h)
  memory_or_named f (inl cut) kept = by f cut kept
    where
      by : (g : CheckFault) → IsCutShort g → (g ≡ Failed → ⊥) → (g ≡ Memory) ⊎ IsNamed g
      by Memory h k = inl refl
      by Failed h k = absurd (k refl)
      by (NoFile name) h k = absurd h
      by (File name fault) h k = absurd h
      by (Disagrees name want found) h k = absurd h
      by (Postings name) h k = absurd h
      by (TwoRows name key) h k = absurd h
      by (OtherDocs at) h k = absurd h
