-- An opening answers all that the directory shows.
use Rattle.std.proofs.Common.{◌≡◌, ◌⊎◌, ◌↔◌, ℕ, ◌<◌, List, Option, Some, None, Result, Ok, Err, refl, sym, ap, subst, ◌∙◌, arith, inl, inr, is_some, true≢false}
use Rattle.std.proofs.lemmas.Option.{same_Some}
use Rattle.std.specs.Prelude.{Contains}
use Rattle.std.specs.List.{flat_map}
use Rattle.disk_model.specs.Disk.{Name, Cells, Image, reads_of, first_missing}
use Rattle.file_names.specs.Names.{commit_name_of, commit_number}
use Rattle.nrt_base.proofs.Plain.{ok_never_err, same_ok, same_err}
use Rattle.file_names.proofs.NameLaws.{commit_name_is_one, commit_number-commit_name}
use Rattle.codec_frame.specs.Checking.{IsFirstFault}
use Rattle.codec_frame.specs.declared.frame.FrameFault.{FrameFault}
use Rattle.codec_frame.specs.declared.frame.FileFault.{FileFault}
use Rattle.codec_frame.specs.declared.frame.FileFault.TheVariants.{Frame, Body}
use Rattle.file_deleter.specs.Holdings.{IsThere}
use Rattle.file_deleter.proofs.NameLemmas.{all_there, none_missing}
use Rattle.segment_infos.specs.Given.{ReadFault, File, Memory as ReadMemory}
use Rattle.segment_infos.specs.Infos.{infos_wanted, IsInfosFile, IsOfNoInfos}
use Rattle.segment_infos.specs.Files.{AreFilesOf, files_of_segment}
use Rattle.segment_infos.specs.declared.infos.Infos.{Infos}
use Rattle.segment_infos.proofs.SetLaws.{one_list_of}
use Rattle.commit_steps.specs.declared.recovery.RecoverFault.{RecoverFault}
use Rattle.commit_steps.specs.declared.recovery.RecoverFault.TheVariants.{Memory, Failed, Broken, Gone}
use Rattle.commit_steps.specs.Found.{ShowsNothing, IsNewest, IsNewestNumber, IsNewestAnswer, ShowsCommit}
use Rattle.commit_steps.specs.Recovery.{IsRefused, IsWholeCommit, IsBrokenCommit, IsCutOff, IsAnswered, SaysHowBroken, IsLoaded, IsRecoverAnswer}
use Rattle.commit_steps.proofs.Recovering.{whole_commit}
use Rattle.commit_steps.proofs.Safe.{among_of}

same_file : (e : ReadFault) (a b : FileFault) → e ≡ File a → ◌≡◌ {A = Result Infos ReadFault} (Err e) (Err (File b)) → a ≡ b
same_file e a b is same = cc

not_memory : (e : ReadFault) (a : FileFault) → e ≡ File a → ◌≡◌ {A = Result Infos ReadFault} (Err e) (Err ReadMemory) → ⊥
not_memory e a is same = cc

same_broken : (a b : Name) (f g : FileFault) → a ≡ b → f ≡ g → ◌≡◌ {A = RecoverFault} (Broken a f) (Broken b g)
same_broken a b f g e h = cc

same_pair : (m n : ℕ) (a b : Infos) → m ≡ n → a ≡ b → ◌≡◌ {A = Result (Option (ℕ × Infos)) RecoverFault} (Ok (Some (m, a))) (Ok (Some (n, b)))
same_pair m n a b e f = cc

-- each file of a whole commit is there
pub whole_there : (cells : Cells) (n : ℕ) (infos : Infos) → IsWholeCommit (reads_of cells) n infos → (q : Name) → Contains (flat_map files_of_segment infos.segs) q → IsThere cells q
whole_there cells n infos whole q named = all_there cells whole.files q (none_missing cells whole.files whole.there).each (among_of whole.files q ((whole.named.named q).1 named))

-- ---- one commit is the newest
module _ (image : Image) where
  newest_number : (n : ℕ) (bytes : List ℕ) → IsNewest image n bytes → IsNewestNumber image n
  newest_number n bytes h = record { some = h.some; below = h.below; there = ap is_some h.there; greatest = h.greatest }

  stands : (n : ℕ) → IsNewestNumber image n → ShowsNothing image → ⊥
  stands n h nothing = true≢false (sym h.there ∙ ap is_some (nothing (commit_name_of n) (commit_name_is_one n h.some h.below)))

  not_above : (m n : ℕ) → IsNewestNumber image m → IsNewestNumber image n → m < n → ⊥
  not_above m n a b lt =
      let e : commit_number (commit_name_of n) ≡ n = commit_number-commit_name n (omega (arith, b.below)) in
      true≢false (sym b.there ∙ ap is_some (a.greatest (commit_name_of n) (commit_name_is_one n b.some b.below) (omega (arith, e, lt))))

  order : (m n : ℕ) → (m < n) ⊎ ((m ≡ n) ⊎ (n < m))
  order m n = grind arith

  pub one_number : (m n : ℕ) → IsNewestNumber image m → IsNewestNumber image n → m ≡ n
  one_number m n a b = elim (order m n) [
    | inl less ↦ absurd (not_above m n a b less)
    | inr rest ↦ elim rest [ inl same ↦ same | inr more ↦ absurd (not_above n m b a more) ]
  ]

-- ---- its infos
module _ (image : Image) (n : ℕ) where
  -- reading was cut off
  pub loaded_not : (e : RecoverFault) → IsCutOff e → IsLoaded image n (Err e)
  loaded_not Memory cut = record { each_infos = λ infos shown. inl refl; each_fault = λ name fault broken. inl refl }
  loaded_not Failed cut = record { each_infos = λ infos shown. inr (inl refl); each_fault = λ name fault broken. inr (inl refl) }
  loaded_not (Broken name fault) cut = absurd cut
  loaded_not (Gone name) cut = absurd cut

  module _ (name : Name) (bytes : List ℕ) (newest : IsNewestNumber image n) (is : name ≡ commit_name_of n) (there : image name ≡ Some bytes) where
    their_bytes : (m : ℕ) (others : List ℕ) → IsNewest image m others → (m ≡ n) × (others ≡ bytes)
    their_bytes m others h =
        let e : m ≡ n = one_number image m n (newest_number image m others h) newest in
        (e, same_Some others bytes (sym h.there ∙ ap (λ k. image (commit_name_of k)) e ∙ sym (ap image is) ∙ there))

    spelled_here : (infos : Infos) → ShowsCommit image n infos → IsInfosFile infos bytes
    spelled_here infos shown = subst (λ (b : List ℕ). IsInfosFile infos b) (their_bytes n shown.bytes shown.newest).1 shown.spelled

    refused_here : (other : Name) (fault : FileFault) → IsBrokenCommit image other fault → (name ≡ other) × IsRefused bytes fault
    refused_here other fault broken =
        let t = their_bytes broken.number broken.bytes broken.newest in
        (is ∙ sym (ap commit_name_of t.0) ∙ sym broken.name_is, subst (λ (b : List ℕ). IsRefused b fault) t.1 broken.refused)

    -- the bytes spell infos
    pub loaded_infos : (infos : Infos) → IsInfosFile infos bytes → ((fault : FrameFault) → ◌≡◌ {A = Result Infos ReadFault} (Ok infos) (Err (File (Frame fault))) ↔ IsFirstFault infos_wanted bytes fault)
        → ((x : Infos) → IsInfosFile x bytes → (◌≡◌ {A = Result Infos ReadFault} (Ok infos) (Err ReadMemory)) ⊎ (◌≡◌ {A = Result Infos ReadFault} (Ok infos) (Ok x))) → IsLoaded image n (Ok infos)
    loaded_infos infos value frame each = record {
      each_infos = λ x shown. inr (inr (ap Ok (got x (each x (spelled_here x shown)))));
      each_fault = λ other fault broken. absurd (not_refused fault (refused_here other fault broken).1);
    }
      where
        got : (x : Infos) → (◌≡◌ {A = Result Infos ReadFault} (Ok infos) (Err ReadMemory)) ⊎ (◌≡◌ {A = Result Infos ReadFault} (Ok infos) (Ok x)) → infos ≡ x
        got x (inl e) = absurd (ok_never_err _ _ e)
        got x (inr e) = same_ok _ _ e

        not_refused : (fault : FileFault) → IsRefused bytes fault → ⊥
        not_refused (Frame fault) h = ok_never_err _ _ ((frame fault).1 h)
        not_refused Body h = h.1 infos value

    -- they are refused
    pub loaded_fault : (e : ReadFault) (fault : FileFault) → e ≡ File fault → ((x : FrameFault) → ◌≡◌ {A = Result Infos ReadFault} (Err e) (Err (File (Frame x))) ↔ IsFirstFault infos_wanted bytes x)
        → ((x : Infos) → IsInfosFile x bytes → (◌≡◌ {A = Result Infos ReadFault} (Err e) (Err ReadMemory)) ⊎ (◌≡◌ {A = Result Infos ReadFault} (Err e) (Ok x)))
        → (IsOfNoInfos bytes → (◌≡◌ {A = Result Infos ReadFault} (Err e) (Err ReadMemory)) ⊎ (◌≡◌ {A = Result Infos ReadFault} (Err e) (Err (File Body)))) → IsLoaded image n (Err (Broken name fault))
    loaded_fault e fault file frame each body = record {
      each_infos = λ x shown. absurd (never x (each x (spelled_here x shown)));
      each_fault = λ other that broken. let h = refused_here other that broken in inr (inr (ap Err (same_broken name other fault that h.0 (same that h.1))));
    }
      where
        never : (x : Infos) → (◌≡◌ {A = Result Infos ReadFault} (Err e) (Err ReadMemory)) ⊎ (◌≡◌ {A = Result Infos ReadFault} (Err e) (Ok x)) → ⊥
        never x (inl h) = not_memory e fault file h
        never x (inr h) = ok_never_err _ _ (sym h)

        told : (◌≡◌ {A = Result Infos ReadFault} (Err e) (Err ReadMemory)) ⊎ (◌≡◌ {A = Result Infos ReadFault} (Err e) (Err (File Body))) → fault ≡ Body
        told (inl h) = absurd (not_memory e fault file h)
        told (inr h) = same_file e fault Body file h

        same : (that : FileFault) → IsRefused bytes that → fault ≡ that
        same (Frame x) h = same_file e fault (Frame x) file ((frame x).1 h)
        same Body h = told (body h)

-- ---- each answer
module _ (image : Image) where
  pub answers_cut_off : (e : RecoverFault) → IsCutOff e → IsRecoverAnswer image (Err e)
  answers_cut_off Memory cut = record { recovers = tt; none = λ h. inl refl; whole = λ n infos h. inl refl; broken = λ name fault h. inl refl; gone = λ name h. inl refl }
  answers_cut_off Failed cut = record { recovers = tt; none = λ h. inr (inl refl); whole = λ n infos h. inr (inl refl); broken = λ name fault h. inr (inl refl); gone = λ name h. inr (inl refl) }
  answers_cut_off (Broken name fault) cut = absurd cut
  answers_cut_off (Gone name) cut = absurd cut

  pub answers_nothing : ShowsNothing image → IsRecoverAnswer image (Ok None)
  answers_nothing nothing = record {
    recovers = nothing;
    none = λ h. inr (inr refl);
    whole = λ n infos h. absurd (stands image n (newest_number image n h.shown.bytes h.shown.newest) nothing);
    broken = λ name fault h. absurd (stands image h.number (newest_number image h.number h.bytes h.newest) nothing);
    gone = λ name h. absurd (stands image h.number (newest_number image h.number h.shown.bytes h.shown.newest) nothing);
  }

  module _ (n : ℕ) (newest : IsNewestNumber image n) where
    shown_here : (m : ℕ) (infos : Infos) → ShowsCommit image m infos → (m ≡ n) × ShowsCommit image n infos
    shown_here m infos shown =
        let e : m ≡ n = one_number image m n (newest_number image m shown.bytes shown.newest) newest in
        (e, subst (λ k. ShowsCommit image k infos) e shown)

    -- reading was refused
    pub answers_refused : (e : RecoverFault) → SaysHowBroken image e → IsLoaded image n (Err e) → IsRecoverAnswer image (Err e)
    answers_refused e refuses loaded = record {
      recovers = refuses;
      none = λ nothing. absurd (stands image n newest nothing);
      whole = λ m infos h. cut (Ok (Some (m, infos))) infos (loaded.each_infos infos (shown_here m infos h.shown).1);
      broken = λ name fault h. told name fault (loaded.each_fault name fault h);
      gone = λ name h. cut (Err (Gone name)) h.infos (loaded.each_infos h.infos (shown_here h.number h.infos h.shown).1);
    }
      where
        cut : (answer : Result (Option (ℕ × Infos)) RecoverFault) (infos : Infos) → IsAnswered {X = Infos} (Err e) (Ok infos) → IsAnswered (Err e) answer
        cut answer infos (inl h) = inl (ap Err (same_err _ _ h))
        cut answer infos (inr (inl h)) = inr (inl (ap Err (same_err _ _ h)))
        cut answer infos (inr (inr h)) = absurd (ok_never_err _ _ (sym h))

        told : (name : Name) (fault : FileFault) → IsAnswered {X = Infos} (Err e) (Err (Broken name fault)) → IsAnswered {X = Option (ℕ × Infos)} (Err e) (Err (Broken name fault))
        told name fault (inl h) = inl (ap Err (same_err _ _ h))
        told name fault (inr (inl h)) = inr (inl (ap Err (same_err _ _ h)))
        told name fault (inr (inr h)) = inr (inr (ap Err (same_err _ _ h)))

    module _ (infos : Infos) (loaded : IsLoaded image n (Ok infos)) where
      got : (x : Infos) → IsAnswered {X = Infos} (Ok infos) (Ok x) → infos ≡ x
      got x (inl e) = absurd (ok_never_err _ _ e)
      got x (inr (inl e)) = absurd (ok_never_err _ _ e)
      got x (inr (inr e)) = same_ok _ _ e

      never : (fault : RecoverFault) → IsAnswered {X = Infos} (Ok infos) (Err fault) → ⊥
      never fault (inl e) = ok_never_err _ _ e
      never fault (inr (inl e)) = ok_never_err _ _ e
      never fault (inr (inr e)) = ok_never_err _ _ e

      one_shown : (m : ℕ) (x : Infos) → ShowsCommit image m x → (m ≡ n) × (infos ≡ x)
      one_shown m x shown = let h = shown_here m x shown in (h.0, got x (loaded.each_infos x h.1))

      not_broken : (name : Name) (fault : FileFault) → IsBrokenCommit image name fault → ⊥
      not_broken name fault h = never (Broken name fault) (loaded.each_fault name fault h)

      -- the first file that is missing is told by the infos
      same_missing : (files names : List Name) (m : ℕ) (x : Infos) → AreFilesOf infos files → ShowsCommit image m x → AreFilesOf x names
          → first_missing image files ≡ first_missing image names
      same_missing files names m x named shown also =
          ap (first_missing image) (one_list_of infos files names named (subst (λ (i : Infos). AreFilesOf i names) (sym (one_shown m x shown).1) also))

      some_none : (name : Name) (a b : Option Name) → a ≡ b → a ≡ Some name → b ≡ None → ⊥
      some_none name a b e f g = cc

      same_name : (x y : Name) (a b : Option Name) → a ≡ b → a ≡ Some x → b ≡ Some y → x ≡ y
      same_name x y a b e f g = cc

      -- the commit is whole
      pub answers_whole : IsWholeCommit image n infos → IsRecoverAnswer image (Ok (Some (n, infos)))
      answers_whole is = record {
        recovers = is;
        none = λ nothing. absurd (stands image n newest nothing);
        whole = λ m x h. let one = one_shown m x h.shown in inr (inr (same_pair n m infos x (sym one.0) one.1));
        broken = λ name fault h. absurd (not_broken name fault h);
        gone = λ name h. absurd (some_none name _ _ (sym (same_missing is.files h.files h.number h.infos is.named h.shown h.named)) h.first is.there);
      }

      -- a file is gone
      pub answers_gone : (files : List Name) (name : Name) → ShowsCommit image n infos → AreFilesOf infos files → first_missing image files ≡ Some name → IsRecoverAnswer image (Err (Gone name))
      answers_gone files name shown named first = record {
        recovers = record { number = n; infos = infos; shown = shown; files = files; named = named; first = first };
        none = λ nothing. absurd (stands image n newest nothing);
        whole = λ m x h. absurd (some_none name _ _ (same_missing files h.files m x named h.shown h.named) first h.there);
        broken = λ other fault h. absurd (not_broken other fault h);
        gone = λ other h. inr (inr (ap (λ (q : Name). Err (Gone q)) (same_name name other _ _ (same_missing files h.files h.number h.infos named h.shown h.named) first h.first)));
      }

-- ---- over the calls of the directory, which change nothing
abbrev Numbered : Cells → Option ℕ → ℕ → Type 0
Numbered cells number n = IsNewestAnswer (reads_of cells) number × (number ≡ Some n)

newest_of : (cells : Cells) (number : Option ℕ) (n : ℕ) → Numbered cells number n → IsNewestNumber (reads_of cells) n
newest_of cells number n h = subst (IsNewestAnswer (reads_of cells)) h.1 h.0

pub nothing_found : (cells : Cells) (number : Option ℕ) → IsNewestAnswer (reads_of cells) number → number ≡ None → IsRecoverAnswer (reads_of cells) (Ok None)
nothing_found cells number found is = answers_nothing (reads_of cells) (subst (IsNewestAnswer (reads_of cells)) is found)

module _ (cells between : Cells) (number : Option ℕ) (n : ℕ) (same : between ≡ cells) (found : IsNewestAnswer (reads_of cells) number) (is : number ≡ Some n) where
  pub not_loaded : (e : RecoverFault) → SaysHowBroken (reads_of between) e → IsLoaded (reads_of between) n (Err e) → IsRecoverAnswer (reads_of cells) (Err e)
  not_loaded e refuses loaded =
      answers_refused (reads_of cells) n (newest_of cells number n (found, is)) e (subst (λ (k : Cells). SaysHowBroken (reads_of k) e) same refuses)
      (subst (λ (k : Cells). IsLoaded (reads_of k) n (Err e)) same loaded)

  module _ (after : Cells) (infos : Infos) (files : List Name) (missing : Option Name) (still : after ≡ between) (shown : ShowsCommit (reads_of between) n infos) (loaded : IsLoaded (reads_of between) n (Ok infos))
      (named : AreFilesOf infos files) (first : missing ≡ first_missing (reads_of after) files) where
    shown_first : ShowsCommit (reads_of cells) n infos
    shown_first = subst (λ (k : Cells). ShowsCommit (reads_of k) n infos) same shown

    loaded_first : IsLoaded (reads_of cells) n (Ok infos)
    loaded_first = subst (λ (k : Cells). IsLoaded (reads_of k) n (Ok infos)) same loaded

    pub all_found : missing ≡ None → IsRecoverAnswer (reads_of cells) (Ok (Some (n, infos)))
    all_found none = answers_whole (reads_of cells) n (newest_of cells number n (found, is)) infos loaded_first (whole_commit cells after n infos files missing (still ∙ same) shown_first named first none)

    pub one_gone : (name : Name) → missing ≡ Some name → IsRecoverAnswer (reads_of cells) (Err (Gone name))
    one_gone name some =
        answers_gone (reads_of cells) n (newest_of cells number n (found, is)) infos loaded_first files name shown_first named
        (ap (λ (k : Cells). first_missing (reads_of k) files) (sym (still ∙ same)) ∙ sym first ∙ some)
