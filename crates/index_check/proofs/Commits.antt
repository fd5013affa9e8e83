-- What reading the commit that a directory shows answers.
use Rattle.std.proofs.Common.{◌≡◌, ◌⊎◌, ℕ, List, Option, Some, None, Result, Ok, Err, refl, sym, ap, subst, ◌∙◌, inl, inr, is_some, true≢false, Vec, Global}
use Rattle.std.specs.Prelude.{IfOk, IfErr}
use Rattle.std.proofs.lemmas.Option.{same_Some, none-some}
use Rattle.nrt_base.specs.declared.doc.Doc.{Doc}
use Rattle.nrt_base.proofs.Plain.{ok_never_err, same_ok, same_err}
use Rattle.codec_frame.specs.declared.frame.FileFault.{FileFault}
use Rattle.disk_model.specs.Disk.{Name, Image, Cells, reads_of}
use Rattle.file_names.specs.Names.{commit_name_of}
use Rattle.file_names.proofs.NameLaws.{commit_name_is_one}
use Rattle.segment_infos.specs.declared.infos.Infos.{Infos}
use Rattle.seg_reader.specs.Stands.{StandsFor}
use Rattle.commit_steps.specs.declared.recovery.RecoverFault.{RecoverFault}
use Rattle.commit_steps.specs.declared.recovery.RecoverFault.TheVariants.{Memory as NoMemory, Failed as DiskFailed, Broken, Gone}
use Rattle.commit_steps.specs.Found.{ShowsNothing, IsNewest, IsNewestNumber, ShowsCommit}
use Rattle.commit_steps.specs.Recovery.{IsAnswered, IsBrokenCommit, SaysHowBroken, IsLoaded}
use Rattle.commit_steps.proofs.Recovered.{one_number}
use Rattle.index_check.specs.declared.commit.Found.{Found}
use Rattle.index_check.specs.declared.fault.CheckFault.{CheckFault}
use Rattle.index_check.specs.declared.fault.CheckFault.TheVariants.{Memory, Failed, NoFile, File, Disagrees, Postings, TwoRows, OtherDocs}
use Rattle.index_check.specs.Answers.{IsCutShort, IsDue, IsExact}
use Rattle.index_check.specs.Checked.{IsWrong}
use Rattle.index_check.specs.Commit.{ShowsFound, HasBrokenInfos, IsCommitFault, IsCommitRead, IsDueCommit, fault_of_infos}
use Rattle.index_check.proofs.Exact.{IsOnlyRight, exact_value, exact_cut, exact_fault, exact_refused, only_right, due_cut, cut_from_value, fault_from_due, value_from_due, never_due}

module _ (image : Image) where
  newest_of : (n : ℕ) (bytes : List ℕ) → IsNewest image n bytes → IsNewestNumber image n
  newest_of n bytes h = record { some = h.some; below = h.below; there = ap is_some h.there; greatest = h.greatest }

  not_nothing : (n : ℕ) (bytes : List ℕ) → IsNewest image n bytes → ShowsNothing image → ⊥
  not_nothing n bytes h nothing = true≢false (sym (ap is_some h.there) ∙ ap is_some (nothing (commit_name_of n) (commit_name_is_one n h.some h.below)))

  -- ---- the commit's own file
  module _ (n : ℕ) (newest : IsNewestNumber image n) where
    number_is : (m : ℕ) (bytes : List ℕ) → IsNewest image m bytes → m ≡ n
    number_is m bytes h = one_number image m n (newest_of m bytes h) newest

    moved : (m : ℕ) (infos : Infos) → ShowsCommit image m infos → ShowsCommit image n infos
    moved m infos shown = subst (λ k. ShowsCommit image k infos) (number_is m shown.bytes shown.newest) shown

    got : (a b : Infos) → IsAnswered {X = Infos} (Ok a) (Ok b) → b ≡ a
    got a b (inl e) = absurd (ok_never_err _ _ e)
    got a b (inr (inl e)) = absurd (ok_never_err _ _ e)
    got a b (inr (inr e)) = sym (same_ok _ _ e)

    never : (a : Infos) (fault : RecoverFault) → IsAnswered {X = Infos} (Ok a) (Err fault) → ⊥
    never a fault (inl e) = ok_never_err _ _ e
    never a fault (inr (inl e)) = ok_never_err _ _ e
    never a fault (inr (inr e)) = ok_never_err _ _ e

    pub infos_loaded : (infos : Infos) → ShowsCommit image n infos → IsLoaded image n (Ok infos) → IsExact (ShowsCommit image n) (HasBrokenInfos image) (Ok infos)
    infos_loaded infos shown loaded =
        exact_value (ShowsCommit image n) (HasBrokenInfos image) infos (record { right = shown; one = λ other h. got infos other (loaded.each_infos other h); none = none })
      where
        none : (f : CheckFault) → HasBrokenInfos image f → ⊥
        none (File name fault) h = never infos (Broken name fault) (loaded.each_fault name fault h)
        none Memory h = h
        none Failed h = h
        none (NoFile name) h = h
        none (Disagrees name want found) h = h
        none (Postings name) h = h
        none (TwoRows name key) h = h
        none (OtherDocs at) h = h

    refused_as : (a b : RecoverFault) → IsAnswered {X = Infos} (Err a) (Err b) → (a ≡ NoMemory) ⊎ ((a ≡ DiskFailed) ⊎ (a ≡ b))
    refused_as a b (inl e) = inl (same_err _ _ e)
    refused_as a b (inr (inl e)) = inr (inl (same_err _ _ e))
    refused_as a b (inr (inr e)) = inr (inr (same_err _ _ e))

    no_infos : (name : Name) (fault : FileFault) (infos : Infos) → IsAnswered {X = Infos} (Err (Broken name fault)) (Ok infos) → ⊥
    no_infos name fault infos (inl e) = broken_not_memory (same_err _ _ e)
      where
        broken_not_memory : ◌≡◌ {A = RecoverFault} (Broken name fault) NoMemory → ⊥
        broken_not_memory e = cc
    no_infos name fault infos (inr (inl e)) = broken_not_failed (same_err _ _ e)
      where
        broken_not_failed : ◌≡◌ {A = RecoverFault} (Broken name fault) DiskFailed → ⊥
        broken_not_failed e = cc
    no_infos name fault infos (inr (inr e)) = ok_never_err _ _ (sym e)

    same_broken : (name other : Name) (fault that : FileFault) → (◌≡◌ {A = RecoverFault} (Broken name fault) NoMemory) ⊎ ((◌≡◌ {A = RecoverFault} (Broken name fault) DiskFailed) ⊎ (◌≡◌ {A = RecoverFault} (Broken name fault) (Broken other that)))
        → ◌≡◌ {A = CheckFault} (File other that) (File name fault)
    same_broken name other fault that (inl e) = absurd cc
    same_broken name other fault that (inr (inl e)) = absurd cc
    same_broken name other fault that (inr (inr e)) = cc

    pub infos_broken : (name : Name) (fault : FileFault) → IsBrokenCommit image name fault → IsLoaded image n (Err (Broken name fault)) → IsExact (ShowsCommit image n) (HasBrokenInfos image) (Err (File name fault))
    infos_broken name fault broken loaded =
        exact_fault (ShowsCommit image n) (HasBrokenInfos image) (File name fault) (record { there = broken; one = only; none = λ infos shown. no_infos name fault infos (loaded.each_infos infos shown) })
      where
        only : (g : CheckFault) → HasBrokenInfos image g → g ≡ File name fault
        only (File other that) h = same_broken name other fault that (refused_as (Broken name fault) (Broken other that) (loaded.each_fault other that h))
        only Memory h = absurd h
        only Failed h = absurd h
        only (NoFile name) h = absurd h
        only (Disagrees name want found) h = absurd h
        only (Postings name) h = absurd h
        only (TwoRows name key) h = absurd h
        only (OtherDocs at) h = absurd h

    no_gone : (name : Name) (infos : Infos) → IsAnswered {X = Infos} (Err (Gone name)) (Ok infos) → ⊥
    no_gone name infos (inl e) = gone_not_memory (same_err _ _ e)
      where
        gone_not_memory : ◌≡◌ {A = RecoverFault} (Gone name) NoMemory → ⊥
        gone_not_memory e = cc
    no_gone name infos (inr (inl e)) = gone_not_failed (same_err _ _ e)
      where
        gone_not_failed : ◌≡◌ {A = RecoverFault} (Gone name) DiskFailed → ⊥
        gone_not_failed e = cc
    no_gone name infos (inr (inr e)) = ok_never_err _ _ (sym e)

    pub not_loaded : (fault : RecoverFault) → SaysHowBroken image fault → IsLoaded image n (Err fault) → IsExact {X = Infos} (ShowsCommit image n) (HasBrokenInfos image) (Err (fault_of_infos fault))
    not_loaded NoMemory says loaded = exact_cut (ShowsCommit image n) (HasBrokenInfos image) Memory tt
    not_loaded DiskFailed says loaded = exact_cut (ShowsCommit image n) (HasBrokenInfos image) Failed tt
    not_loaded (Broken name fault) says loaded = infos_broken name fault says loaded
    not_loaded (Gone name) says loaded = absurd (no_gone name says.infos (loaded.each_infos says.infos (moved says.number says.infos says.shown)))

  -- ---- the commit
  pub shows_nothing : ShowsNothing image → IsExact (ShowsFound image) (IsCommitFault image) (Ok None)
  shows_nothing nothing = exact_value (ShowsFound image) (IsCommitFault image) None (record { right = nothing; one = only; none = none })
    where
      only : (y : Option Found) → ShowsFound image y → y ≡ None
      only None h = refl
      only (Some found) h = absurd (not_nothing found.number h.0.bytes h.0.newest nothing)

      broken : (f : CheckFault) → HasBrokenInfos image f → ⊥
      broken (File name fault) h = not_nothing h.number h.bytes h.newest nothing
      broken Memory h = h
      broken Failed h = h
      broken (NoFile name) h = h
      broken (Disagrees name want found) h = h
      broken (Postings name) h = h
      broken (TwoRows name key) h = h
      broken (OtherDocs at) h = h

      none : (f : CheckFault) → IsCommitFault image f → ⊥
      none f (inl h) = broken f h
      none f (inr h) = not_nothing h.number h.shown.bytes h.shown.newest nothing

  module _ (n : ℕ) (newest : IsNewestNumber image n) where
    stands_there : ShowsNothing image → ⊥
    stands_there nothing = true≢false (sym newest.there ∙ ap is_some (nothing (commit_name_of n) (commit_name_is_one n newest.some newest.below)))

    pub infos_refused : (f : CheckFault) → IsExact (ShowsCommit image n) (HasBrokenInfos image) (Err f) → IsExact (ShowsFound image) (IsCommitFault image) (Err f)
    infos_refused f h =
        exact_refused (ShowsCommit image n) (HasBrokenInfos image) (ShowsFound image) (IsCommitFault image) f (λ g broken. inl broken) value
        (λ g fault. elim fault [ inl broken ↦ inl broken | inr wrong ↦ inr (wrong.infos, moved n newest wrong.number wrong.infos wrong.shown) ]) h
      where
        value : (y : Option Found) → ShowsFound image y → (infos : Infos) × ShowsCommit image n infos
        value None nothing = absurd (stands_there nothing)
        value (Some found) h = (found.infos, moved n newest found.number found.infos h.0)

    module _ (infos : Infos) (exact : IsExact (ShowsCommit image n) (HasBrokenInfos image) (Ok infos)) where
      own : IsOnlyRight (ShowsCommit image n) (HasBrokenInfos image) infos
      own = only_right (ShowsCommit image n) (HasBrokenInfos image) infos exact

      infos_are : (m : ℕ) (other : Infos) → ShowsCommit image m other → other ≡ infos
      infos_are m other shown = own.one other (moved n newest m other shown)

      pub documents_refused : (f : CheckFault) → IsExact (StandsFor image infos) (IsWrong image infos) (Err f) → IsExact (ShowsFound image) (IsCommitFault image) (Err f)
      documents_refused f h =
          exact_refused (StandsFor image infos) (IsWrong image infos) (ShowsFound image) (IsCommitFault image) f (λ g wrong. inr (record { number = n; infos = infos; shown = own.right; wrong = wrong })) value fault h
        where
          value : (y : Option Found) → ShowsFound image y → (docs : List Doc) × StandsFor image infos docs
          value None nothing = absurd (stands_there nothing)
          value (Some found) h = (found.docs, subst (λ (i : Infos). StandsFor image i found.docs) (infos_are found.number found.infos h.0) h.1)

          fault : (g : CheckFault) → IsCommitFault image g → IsWrong image infos g ⊎ ((docs : List Doc) × StandsFor image infos docs)
          fault g (inl broken) = absurd (own.none g broken)
          fault g (inr h) = inl (subst (λ (i : Infos). IsWrong image i g) (infos_are h.number h.infos h.shown) h.wrong)

      same_commit : (m k : ℕ) (a b : Infos) (x y : List Doc) → m ≡ k → a ≡ b → x ≡ y → ◌≡◌ {A = Option Found} (Some (record { number = m; infos = a; docs = x })) (Some (record { number = k; infos = b; docs = y }))
      same_commit m k a b x y e f g = cc

      pub commit_read : (docs : List Doc) → IsExact (StandsFor image infos) (IsWrong image infos) (Ok docs) → IsExact (ShowsFound image) (IsCommitFault image) (Ok (Some (record { number = n; infos = infos; docs = docs })))
      commit_read docs h =
          exact_value (ShowsFound image) (IsCommitFault image) (Some (record { number = n; infos = infos; docs = docs })) (record { right = (own.right, read.right); one = only; none = none })
        where
          read : IsOnlyRight (StandsFor image infos) (IsWrong image infos) docs
          read = only_right (StandsFor image infos) (IsWrong image infos) docs h

          only : (y : Option Found) → ShowsFound image y → y ≡ Some (record { number = n; infos = infos; docs = docs })
          only None nothing = absurd (stands_there nothing)
          only (Some found) is =
              let same = infos_are found.number found.infos is.0 in
              same_commit found.number n found.infos infos found.docs docs (number_is n newest found.number is.0.bytes is.0.newest) same (read.one found.docs (subst (λ (i : Infos). StandsFor image i found.docs) same is.1))

          none : (f : CheckFault) → IsCommitFault image f → ⊥
          none f (inl broken) = own.none f broken
          none f (inr wrong) = read.none f (subst (λ (i : Infos). IsWrong image i f) (infos_are wrong.number wrong.infos wrong.shown) wrong.wrong)

-- over calls that change nothing
pub infos_at : (before now : Cells) (n : ℕ) (result : Result Infos CheckFault) → now ≡ before → IsExact (ShowsCommit (reads_of now) n) (HasBrokenInfos (reads_of now)) result
    → IsExact (ShowsCommit (reads_of before) n) (HasBrokenInfos (reads_of before)) result
infos_at before now n result same h = subst (λ (c : Cells). IsExact (ShowsCommit (reads_of c) n) (HasBrokenInfos (reads_of c)) result) same h

pub documents_at : (before now : Cells) (infos : Infos) (result : Result (List Doc) CheckFault) → now ≡ before → IsExact (StandsFor (reads_of now) infos) (IsWrong (reads_of now) infos) result
    → IsExact (StandsFor (reads_of before) infos) (IsWrong (reads_of before) infos) result
documents_at before now infos result same h = subst (λ (c : Cells). IsExact (StandsFor (reads_of c) infos) (IsWrong (reads_of c) infos) result) same h

-- ---- what is answered, by what was found
abbrev Answered : Type 0
Answered = Result (Option (ℕ × Infos × Vec Doc Global)) CheckFault

-- the clauses of the call that reads the commit
pub record IsReadAnswer (image : Image) (result : Answered) : Type 0 where
  pub commit : IfOk result (IsCommitRead image)
  pub fault : IfErr result (λ f. IsCutShort f ⊎ IsCommitFault image f)
  pub nothing : ShowsNothing image → IsDue result (Ok None)
  pub each_commit : (n : ℕ) (infos : Infos) (docs : List Doc) → ShowsCommit image n infos → StandsFor image infos docs → IsDueCommit result n infos docs
  pub each_fault : (f : CheckFault) → IsCommitFault image f → IsDue result (Err f)

module _ (image : Image) where
  pub answered_none : IsExact (ShowsFound image) (IsCommitFault image) (Ok None) → IsReadAnswer image (Ok None)
  answered_none h = record {
    commit = h.value None refl;
    fault = tt;
    nothing = λ e. inr (inr refl);
    each_commit = λ n infos docs shown stands. absurd (none-some (commit_of n infos docs) (sym (value_from_due None (Some (commit_of n infos docs)) (h.each_value (Some (commit_of n infos docs)) (shown, stands)))));
    each_fault = λ f there. absurd (never_due None f (h.each_fault f there));
  }
    where
      commit_of : ℕ → Infos → List Doc → Found
      commit_of n infos docs = record { number = n; infos = infos; docs = docs }

  pub answered_commit : (found : Found) (docs : Vec Doc Global) → docs.items ≡ found.docs → IsExact (ShowsFound image) (IsCommitFault image) (Ok (Some found)) → IsReadAnswer image (Ok (Some (found.number, found.infos, docs)))
  answered_commit found docs same h = record {
    commit = (let right = h.value (Some found) refl in (right.0, subst (StandsFor image found.infos) (sym same) right.1));
    fault = tt;
    nothing = λ e. absurd (none-some found (value_from_due (Some found) None (h.each_value None e)));
    each_commit = λ n infos ds shown stands.
        let one = parts_of n infos ds (same_Some (commit_of n infos ds) found (value_from_due (Some found) (Some (commit_of n infos ds)) (h.each_value (Some (commit_of n infos ds)) (shown, stands)))) in
        inr (inr (sym one.0, sym one.1, same ∙ sym one.2));
    each_fault = λ f there. absurd (never_due (Some found) f (h.each_fault f there));
  }
    where
      commit_of : ℕ → Infos → List Doc → Found
      commit_of n infos docs = record { number = n; infos = infos; docs = docs }

      parts_of : (n : ℕ) (infos : Infos) (ds : List Doc) → commit_of n infos ds ≡ found → (n ≡ found.number) × (infos ≡ found.infos) × (ds ≡ found.docs)
      parts_of n infos ds e = (ap (λ (x : Found). x.number) e, ap (λ (x : Found). x.infos) e, ap (λ (x : Found). x.docs) e)

  pub answered_fault : (f : CheckFault) → IsExact (ShowsFound image) (IsCommitFault image) (Err f) → IsReadAnswer image (Err f)
  answered_fault f h = record {
    commit = tt;
    fault = h.fault f refl;
    nothing = λ e. due_cut f (Ok None) (cut_from_value f None (h.each_value None e));
    each_commit = λ n infos docs shown stands. due_commit f n infos docs (cut_from_value f (Some (commit_of n infos docs)) (h.each_value (Some (commit_of n infos docs)) (shown, stands)));
    each_fault = λ g there. by_fault g (fault_from_due f g (h.each_fault g there));
  }
    where
      commit_of : ℕ → Infos → List Doc → Found
      commit_of n infos docs = record { number = n; infos = infos; docs = docs }

      due_commit : (f : CheckFault) (n : ℕ) (infos : Infos) (docs : List Doc) → IsCutShort f → IsDueCommit (Err f) n infos docs
      due_commit Memory n infos docs cut = inl refl
      due_commit Failed n infos docs cut = inr (inl refl)
      due_commit (NoFile name) n infos docs cut = absurd cut
      due_commit (File name fault) n infos docs cut = absurd cut
      due_commit (Disagrees name want found) n infos docs cut = absurd cut
      due_commit (Postings name) n infos docs cut = absurd cut
      due_commit (TwoRows name key) n infos docs cut = absurd cut
      due_commit (OtherDocs at) n infos docs cut = absurd cut

      by_fault : (g : CheckFault) → IsCutShort f ⊎ (g ≡ f) → IsDue {X = Option (ℕ × Infos × Vec Doc Global)} (Err f) (Err g)
      by_fault g (inl cut) = due_cut f (Err g) cut
      by_fault g (inr same) = inr (inr (ap Err (sym same)))
