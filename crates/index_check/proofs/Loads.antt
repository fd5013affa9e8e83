-- Files of a segment that were loaded, and those that do not exist.
use Rattle.std.proofs.Common.{◌≡◌, ◌⊎◌, ◌↔◌, ℕ, ◌<◌, ◌==◌, Bool, false, cond, not, List, [], ◌∷◌, Option, Some, None, Result, Ok, Err, refl, sym, ap, subst, ◌∙◌, arith, inl, inr, is_some}
use Rattle.std.specs.Prelude.{IsSome, IfErr, IsErrAnd}
use Rattle.std.proofs.lemmas.Option.{same_Some, none-some}
use Rattle.std.proofs.lemmas.Bool.Decides.{nat_tests}
use Rattle.disk_model.specs.Disk.{Name, Content, Cells, Image, reads_of, first_missing}
use Rattle.file_names.specs.Names.{part_name_of, live_name_of}
use Rattle.file_names.specs.declared.composed.SegPart.TheVariants.{Docs, Post, Info}
use Rattle.segment_infos.specs.Files.{live_files, files_of_segment}
use Rattle.segment_infos.specs.declared.infos.SegRecord.{SegRecord}
use Rattle.seg_reader.specs.declared.parts.SegParts.{SegParts}
use Rattle.seg_reader.specs.Stands.{IsLiveFileIn, ArePartsIn}
use Rattle.index_check.specs.declared.fault.CheckFault.{CheckFault}
use Rattle.index_check.specs.declared.fault.CheckFault.TheVariants.{Memory, Failed, NoFile, File, Disagrees, Postings, TwoRows, OtherDocs}
use Rattle.index_check.specs.Answers.{IsCutShort}
use Rattle.index_check.specs.Loading.{IsAbsent, LacksLive}
use Rattle.index_check.specs.Segments.{LacksFile}

-- ---- over calls that change nothing
pub absent_at : (before now : Cells) (name own : Name) (fault : CheckFault) → now ≡ before → name ≡ own → IsCutShort fault ⊎ IsAbsent (reads_of now) name fault → IsCutShort fault ⊎ IsAbsent (reads_of before) own fault
absent_at before now name own fault same is h =
    subst (λ (n : Name). IsCutShort fault ⊎ IsAbsent (reads_of before) n fault) is (subst (λ (c : Cells). IsCutShort fault ⊎ IsAbsent (reads_of c) name fault) same h)

pub there_at : (before now : Cells) (name own : Name) (bytes : List ℕ) → now ≡ before → name ≡ own → reads_of now name ≡ Some bytes → reads_of before own ≡ Some bytes
there_at before now name own bytes same is h = subst (λ (n : Name). reads_of before n ≡ Some bytes) is (subst (λ (c : Cells). reads_of c name ≡ Some bytes) same h)

pub live_absent_at : (before now : Cells) (r : SegRecord) (fault : CheckFault) → now ≡ before → IsCutShort fault ⊎ LacksLive (reads_of now) r fault → IsCutShort fault ⊎ LacksLive (reads_of before) r fault
live_absent_at before now r fault same h = subst (λ (c : Cells). IsCutShort fault ⊎ LacksLive (reads_of c) r fault) same h

pub live_at : (before now : Cells) (r : SegRecord) (live : Option (List ℕ)) → now ≡ before → IsLiveFileIn (reads_of now) r live → IsLiveFileIn (reads_of before) r live
live_at before now r live same h = subst (λ (c : Cells). IsLiveFileIn (reads_of c) r live) same h

-- what an error is refused for
pub refused_for : {X : Type 0} (P : CheckFault → Type 0) (result : Result X CheckFault) (e : CheckFault) → IsErrAnd result (λ x. x ≡ e) → P e → IfErr result P
refused_for P (Ok x) e is h = tt
refused_for P (Err f) e is h = subst P (sym is) h

module _ (reads : Image) where
  -- a file that is there is passed over
  passes : (name : Name) (names : List Name) (content : Content) (bytes : List ℕ) → reads name ≡ content → content ≡ Some bytes → first_missing reads (name ∷ names) ≡ first_missing reads names
  passes name names content bytes is there = ap (λ (b : Bool). cond (not b) (Some name) (first_missing reads names)) (ap is_some (is ∙ there))

  stops : (name : Name) (names : List Name) → reads name ≡ None → first_missing reads (name ∷ names) ≡ Some name
  stops name names none = ap (λ (b : Bool). cond (not b) (Some name) (first_missing reads names)) (ap is_some none)

  lacks : (r : SegRecord) (name : Name) (fault : CheckFault) → fault ≡ NoFile name → first_missing reads (files_of_segment r) ≡ Some name → LacksFile reads r fault
  lacks r name fault e first = subst (LacksFile reads r) (sym e) first

  no_live : (r : SegRecord) → r.live_gen ≡ 0 → live_files r ≡ []
  no_live r e = ap (λ (n : ℕ). cond (n == 0) [] (live_name_of r.seg.0 n ∷ [])) e

  one_live : (r : SegRecord) → 0 < r.live_gen → live_files r ≡ live_name_of r.seg.0 r.live_gen ∷ []
  one_live r some = let e : (r.live_gen == 0) ≡ false = grind (arith, nat_tests) in ap (λ (b : Bool). cond b [] (live_name_of r.seg.0 r.live_gen ∷ [])) e

  module _ (r : SegRecord) where
    -- ---- what a call was refused for
    pub no_docs : (fault : CheckFault) → IsCutShort fault ⊎ IsAbsent reads (part_name_of r.seg.0 Docs) fault → IsCutShort fault ⊎ LacksFile reads r fault
    no_docs fault (inl cut) = inl cut
    no_docs fault (inr absent) = inr (lacks r (part_name_of r.seg.0 Docs) fault absent.1 (stops (part_name_of r.seg.0 Docs) (part_name_of r.seg.0 Post ∷ part_name_of r.seg.0 Info ∷ live_files r) absent.0))

    module _ (docs : List ℕ) (docs_there : reads (part_name_of r.seg.0 Docs) ≡ Some docs) where
      after_docs : first_missing reads (files_of_segment r) ≡ first_missing reads (part_name_of r.seg.0 Post ∷ part_name_of r.seg.0 Info ∷ live_files r)
      after_docs = passes (part_name_of r.seg.0 Docs) (part_name_of r.seg.0 Post ∷ part_name_of r.seg.0 Info ∷ live_files r) (Some docs) docs docs_there refl

      pub no_post : (fault : CheckFault) → IsCutShort fault ⊎ IsAbsent reads (part_name_of r.seg.0 Post) fault → IsCutShort fault ⊎ LacksFile reads r fault
      no_post fault (inl cut) = inl cut
      no_post fault (inr absent) = inr (lacks r (part_name_of r.seg.0 Post) fault absent.1 (after_docs ∙ stops (part_name_of r.seg.0 Post) (part_name_of r.seg.0 Info ∷ live_files r) absent.0))

      module _ (post : List ℕ) (post_there : reads (part_name_of r.seg.0 Post) ≡ Some post) where
        after_post : first_missing reads (files_of_segment r) ≡ first_missing reads (part_name_of r.seg.0 Info ∷ live_files r)
        after_post = after_docs ∙ passes (part_name_of r.seg.0 Post) (part_name_of r.seg.0 Info ∷ live_files r) (Some post) post post_there refl

        pub no_info : (fault : CheckFault) → IsCutShort fault ⊎ IsAbsent reads (part_name_of r.seg.0 Info) fault → IsCutShort fault ⊎ LacksFile reads r fault
        no_info fault (inl cut) = inl cut
        no_info fault (inr absent) = inr (lacks r (part_name_of r.seg.0 Info) fault absent.1 (after_post ∙ stops (part_name_of r.seg.0 Info) (live_files r) absent.0))

        module _ (info : List ℕ) (info_there : reads (part_name_of r.seg.0 Info) ≡ Some info) where
          after_info : first_missing reads (files_of_segment r) ≡ first_missing reads (live_files r)
          after_info = after_post ∙ passes (part_name_of r.seg.0 Info) (live_files r) (Some info) info info_there refl

          pub no_live_file : (fault : CheckFault) → IsCutShort fault ⊎ LacksLive reads r fault → IsCutShort fault ⊎ LacksFile reads r fault
          no_live_file fault (inl cut) = inl cut
          no_live_file fault (inr absent) =
              inr (lacks r (live_name_of r.seg.0 r.live_gen) fault absent.1.1 (after_info ∙ ap (first_missing reads) (one_live r absent.0) ∙ stops (live_name_of r.seg.0 r.live_gen) [] absent.1.0))

          -- where all are there, none is missing
          none_missing_here : (live : Option (List ℕ)) → IsLiveFileIn reads r live → first_missing reads (files_of_segment r) ≡ None
          none_missing_here None is = after_info ∙ ap (first_missing reads) (no_live r is)
          none_missing_here (Some bytes) is = after_info ∙ ap (first_missing reads) (one_live r is.0) ∙ passes (live_name_of r.seg.0 r.live_gen) [] (Some bytes) bytes is.1 refl

    pub none_missing : (parts : SegParts) → ArePartsIn reads r parts → first_missing reads (files_of_segment r) ≡ None
    none_missing parts are = none_missing_here parts.docs are.docs parts.post are.post parts.info are.info parts.live are.live

    -- a segment whose files are there lacks none
    pub not_lacking : (parts : SegParts) (fault : CheckFault) → ArePartsIn reads r parts → LacksFile reads r fault → ⊥
    not_lacking parts (NoFile name) are first = none-some name (sym (none_missing parts are) ∙ first)
    not_lacking parts Memory are h = h
    not_lacking parts Failed are h = h
    not_lacking parts (File name fault) are h = h
    not_lacking parts (Disagrees name want found) are h = h
    not_lacking parts (Postings name) are h = h
    not_lacking parts (TwoRows name key) are h = h
    not_lacking parts (OtherDocs at) are h = h

    -- a segment lacks one file first
    pub lacks_one : (f g : CheckFault) → LacksFile reads r f → LacksFile reads r g → g ≡ f
    lacks_one (NoFile a) (NoFile b) x y = ap NoFile (same_Some b a (sym y ∙ x))
    lacks_one (NoFile a) Memory x y = absurd y
    lacks_one (NoFile a) Failed x y = absurd y
    lacks_one (NoFile a) (File name fault) x y = absurd y
    lacks_one (NoFile a) (Disagrees name want found) x y = absurd y
    lacks_one (NoFile a) (Postings name) x y = absurd y
    lacks_one (NoFile a) (TwoRows name key) x y = absurd y
    lacks_one (NoFile a) (OtherDocs at) x y = absurd y
    lacks_one Memory g x y = absurd x
    lacks_one Failed g x y = absurd x
    lacks_one (File name fault) g x y = absurd x
    lacks_one (Disagrees name want found) g x y = absurd x
    lacks_one (Postings name) g x y = absurd x
    lacks_one (TwoRows name key) g x y = absurd x
    lacks_one (OtherDocs at) g x y = absurd x

  -- there is a live file exactly where the live generation is above 0
  pub live_given : (r : SegRecord) (live : Option (List ℕ)) → IsLiveFileIn reads r live → IsSome live ↔ (0 < r.live_gen)
  live_given r None is = (λ h. absurd cc, λ lt. absurd (omega (arith, is, lt)))
  live_given r (Some bytes) is = (λ _. is.0, λ _. refl)
