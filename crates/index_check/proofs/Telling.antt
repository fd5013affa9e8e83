-- What a check says, by what was read of the commit.
use Rattle.std.proofs.Common.{◌≡◌, ◌⊎◌, ℕ, List, Option, Some, None, Result, Ok, Err, Vec, Global, refl, sym, ap, subst, ◌∙◌, inl, inr}
use Rattle.std.specs.Prelude.{IfOk, IfErr, alloc_error}
use Rattle.std.specs.declared.alloc.AllocError.{AllocError}
use Rattle.std.proofs.lemmas.Option.{none-some}
use Rattle.nrt_base.proofs.Plain.{ok_never_err, same_ok, same_err}
use Rattle.nrt_base.specs.declared.doc.Doc.{Doc}
use Rattle.disk_model.specs.Disk.{Image}
use Rattle.segment_infos.specs.declared.infos.Infos.{Infos}
use Rattle.seg_reader.specs.Stands.{StandsFor}
use Rattle.commit_steps.specs.Found.{ShowsNothing, ShowsCommit}
use Rattle.index_check.specs.declared.fault.CheckFault.{CheckFault}
use Rattle.index_check.specs.declared.fault.CheckFault.TheVariants.{Memory, Failed, NoFile, File, Disagrees, Postings, TwoRows, OtherDocs}
use Rattle.index_check.specs.Answers.{IsCutShort, IsDue}
use Rattle.index_check.specs.Commit.{IsCommitFault, IsCommitRead, IsDueCommit}
use Rattle.index_check.specs.declared.checking.Checked.{Checked}
use Rattle.index_check.specs.Lines.{commit_line, name_and_number, fault_line}
use Rattle.index_check.specs.Checks.{TellsFault, IsToldOf, TellsNoCommit, TellsNumbers, IsRefusalOf, IsExactCheck}

abbrev pub Answer : Type 0
Answer = Result (Option (ℕ × Infos × Vec Doc Global)) CheckFault

-- what was read of the commit, in the clauses of the call that reads it
pub record IsCommitAnswer (reads : Image) (result : Answer) : Type 0 where
  pub commit : IfOk result (IsCommitRead reads)
  pub fault : IfErr result (λ f. IsCutShort f ⊎ IsCommitFault reads f)
  pub nothing : ShowsNothing reads → IsDue result (Ok None)
  pub each_commit : (n : ℕ) (infos : Infos) (docs : List Doc) → ShowsCommit reads n infos → StandsFor reads infos docs → IsDueCommit result n infos docs
  pub each_fault : (f : CheckFault) → IsCommitFault reads f → IsDue result (Err f)

same_checked : (a b : List ℕ) (f g : Option CheckFault) → a ≡ b → f ≡ g → ◌≡◌ {A = Result Checked AllocError} (Ok (record { line = a; fault = f })) (Ok (record { line = b; fault = g }))
same_checked a b f g e h = cc

module _ (reads : Image) where
  never_fault : (x : Option (ℕ × Infos × Vec Doc Global)) (f : CheckFault) → IsDue {X = Option (ℕ × Infos × Vec Doc Global)} (Ok x) (Err f) → ⊥
  never_fault x f (inl e) = ok_never_err _ _ e
  never_fault x f (inr (inl e)) = ok_never_err _ _ e
  never_fault x f (inr (inr e)) = ok_never_err _ _ e

  never_nothing : (x : ℕ × Infos × Vec Doc Global) → IsDue {X = Option (ℕ × Infos × Vec Doc Global)} (Ok (Some x)) (Ok None) → ⊥
  never_nothing x (inl e) = ok_never_err _ _ e
  never_nothing x (inr (inl e)) = ok_never_err _ _ e
  never_nothing x (inr (inr e)) = none-some x (sym (same_ok _ _ e))

  never_commit : (n : ℕ) (infos : Infos) (docs : List Doc) → IsDueCommit (Ok None) n infos docs → ⊥
  never_commit n infos docs (inl e) = ok_never_err _ _ e
  never_commit n infos docs (inr (inl e)) = ok_never_err _ _ e
  never_commit n infos docs (inr (inr e)) = e

  its_parts : (x : ℕ × Infos × Vec Doc Global) (n : ℕ) (infos : Infos) (docs : List Doc) → IsDueCommit (Ok (Some x)) n infos docs → (x.0 ≡ n) × (x.1 ≡ infos) × (x.2.items ≡ docs)
  its_parts x n infos docs (inl e) = absurd (ok_never_err _ _ e)
  its_parts x n infos docs (inr (inl e)) = absurd (ok_never_err _ _ e)
  its_parts x n infos docs (inr (inr e)) = e

  -- there is no commit
  pub nothing_told : (result : Answer) (said : Result Checked AllocError) → IsCommitAnswer reads result → result ≡ Ok None → IfOk said TellsNoCommit → IsExactCheck alloc_error reads said
  nothing_told result (Err none) h e is = record { told = tt; each = λ checked k. inl refl }
  nothing_told result (Ok said) h e is =
      record { told = subst (λ (o : Option CheckFault). IsToldOf reads o said.line) (sym is.fault_is) (inl (own.commit, is.line_is)); each = λ checked k. inr (by checked.fault checked.line k) }
    where
      own : IsCommitAnswer reads (Ok None)
      own = subst (IsCommitAnswer reads) e h

      by : (fault : Option CheckFault) (other : List ℕ) → IsToldOf reads fault other → ◌≡◌ {A = Result Checked AllocError} (Ok said) (Ok (record { line = other; fault = fault }))
      by None other (inl k) = same_checked said.line other said.fault None (is.line_is ∙ sym k.1) is.fault_is
      by None other (inr k) = absurd (never_commit k.number k.infos k.docs (own.each_commit k.number k.infos k.docs k.shown k.stands))
      by (Some f) other k = absurd (never_fault None f (own.each_fault f k.wrong))

  -- there is one
  pub commit_told : (result : Answer) (said : Result Checked AllocError) (x : ℕ × Infos × Vec Doc Global) → IsCommitAnswer reads result → result ≡ Ok (Some x) → IfOk said (TellsNumbers x.0 x.1 x.2.items)
      → IsExactCheck alloc_error reads said
  commit_told result (Err none) x h e is = record { told = tt; each = λ checked k. inl refl }
  commit_told result (Ok said) x h e is = record {
    told = subst (λ (o : Option CheckFault). IsToldOf reads o said.line) (sym is.fault_is)
        (inr (record { number = x.0; infos = x.1; docs = x.2.items; shown = own.commit.0; stands = own.commit.1; line_is = is.line_is }));
    each = λ checked k. inr (by checked.fault checked.line k);
  }
    where
      own : IsCommitAnswer reads (Ok (Some x))
      own = subst (IsCommitAnswer reads) e h

      by : (fault : Option CheckFault) (other : List ℕ) → IsToldOf reads fault other → ◌≡◌ {A = Result Checked AllocError} (Ok said) (Ok (record { line = other; fault = fault }))
      by None other (inl k) = absurd (never_nothing x (own.nothing k.0))
      by None other (inr k) =
          let p = its_parts x k.number k.infos k.docs (own.each_commit k.number k.infos k.docs k.shown k.stands) in
          same_checked said.line other said.fault None
          (is.line_is ∙ ap (λ m. commit_line m x.1 x.2.items) p.0 ∙ ap (λ (i : Infos). commit_line k.number i x.2.items) p.1 ∙ ap (commit_line k.number k.infos) p.2 ∙ sym k.line_is) is.fault_is
      by (Some f) other k = absurd (never_fault (Some x) f (own.each_fault f k.wrong))

  -- it is refused
  not_cut : (f : CheckFault) (x : List ℕ × ℕ) → name_and_number f ≡ Some x → IsCutShort f → ⊥
  not_cut Memory x e cut = none-some x e
  not_cut Failed x e cut = none-some x e
  not_cut (NoFile name) x e cut = cut
  not_cut (File name fault) x e cut = cut
  not_cut (Disagrees name want found) x e cut = cut
  not_cut (Postings name) x e cut = cut
  not_cut (TwoRows name key) x e cut = cut
  not_cut (OtherDocs at) x e cut = cut

  its_fault : (f g : CheckFault) → IsDue {X = Option (ℕ × Infos × Vec Doc Global)} (Err f) (Err g) → IsCutShort f ⊎ (f ≡ g)
  its_fault f g (inl e) = inl (subst IsCutShort (sym (same_err f Memory e)) tt)
  its_fault f g (inr (inl e)) = inl (subst IsCutShort (sym (same_err f Failed e)) tt)
  its_fault f g (inr (inr e)) = inr (same_err f g e)

  fault_never : (f : CheckFault) (x : Option (ℕ × Infos × Vec Doc Global)) → IsDue {X = Option (ℕ × Infos × Vec Doc Global)} (Err f) (Ok x) → IsCutShort f
  fault_never f x (inl e) = subst IsCutShort (sym (same_err f Memory e)) tt
  fault_never f x (inr (inl e)) = subst IsCutShort (sym (same_err f Failed e)) tt
  fault_never f x (inr (inr e)) = absurd (ok_never_err _ _ (sym e))

  fault_never_commit : (f : CheckFault) (n : ℕ) (infos : Infos) (docs : List Doc) → IsDueCommit (Err f) n infos docs → IsCutShort f
  fault_never_commit f n infos docs (inl e) = subst IsCutShort (sym (same_err f Memory e)) tt
  fault_never_commit f n infos docs (inr (inl e)) = subst IsCutShort (sym (same_err f Failed e)) tt
  fault_never_commit f n infos docs (inr (inr e)) = absurd e

  pub fault_told : (result : Answer) (f : CheckFault) (said : Result Checked AllocError) → IsCommitAnswer reads result → result ≡ Err f → IfOk said (IsRefusalOf f) → IsExactCheck alloc_error reads said
  fault_told result f (Err none) h e is = record { told = tt; each = λ checked k. inl refl }
  fault_told result f (Ok checked) h e is = record { told = subst (λ (o : Option CheckFault). IsToldOf reads o checked.line) (sym is.fault_is) here; each = λ other k. inr (by other.fault other.line k) }
    where
      own : IsCommitAnswer reads (Err f)
      own = subst (IsCommitAnswer reads) e h

      here : TellsFault reads f checked.line
      here = elim own.fault [
        | inl cut ↦ absurd (not_cut f (is.name, is.number) is.called cut)
        | inr wrong ↦ record { wrong = wrong; name = is.name; number = is.number; called = is.called; line_is = is.line_is }
      ]

      same_name : (a b : List ℕ × ℕ) (o : Option (List ℕ × ℕ)) → o ≡ Some a → o ≡ Some b → a ≡ b
      same_name a b o e f = cc

      by : (fault : Option CheckFault) (line : List ℕ) → IsToldOf reads fault line → ◌≡◌ {A = Result Checked AllocError} (Ok checked) (Ok (record { line = line; fault = fault }))
      by None line (inl k) = absurd (not_cut f (is.name, is.number) is.called (fault_never f None (own.nothing k.0)))
      by None line (inr k) = absurd (not_cut f (is.name, is.number) is.called (fault_never_commit f k.number k.infos k.docs (own.each_commit k.number k.infos k.docs k.shown k.stands)))
      by (Some g) line k = elim (its_fault f g (own.each_fault g k.wrong)) [
        | inl cut ↦ absurd (not_cut f (is.name, is.number) is.called cut)
        | inr same ↦
            let one = same_name (is.name, is.number) (k.name, k.number) (name_and_number g) (ap name_and_number (sym same) ∙ is.called) k.called in
            same_checked checked.line line checked.fault (Some g) (is.line_is ∙ ap (λ (x : List ℕ × ℕ). fault_line x.0 x.1) one ∙ sym k.line_is) (is.fault_is ∙ ap Some same)
      ]
