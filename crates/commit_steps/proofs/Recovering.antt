-- What an opening finds.
use Rattle.std.proofs.Common.{◌≡◌, ◌⊎◌, ℕ, ◌≤◌, true, List, [], Option, Some, None, refl, sym, ap, subst, ◌∙◌, arith, inl, inr, is_some}
use Rattle.std.specs.Prelude.{Contains}
use Rattle.std.specs.List.{All}
use Rattle.std.proofs.lemmas.List.Elements.{All-contains}
use Rattle.disk_model.specs.Disk.{Name, Content, Cells, Image, is_among, reads_of, first_missing}
use Rattle.disk_model.specs.declared.dir.DirFault.{DirFault}
use Rattle.disk_model.specs.declared.dir.DirFault.TheVariants.{Memory as DirMemory, Missing, Exists, Failed as DirFailed}
use Rattle.disk_model.specs.Faults.{IsMemoryOrFailed}
use Rattle.file_names.specs.Names.{commit_name_of, is_commit_name, commit_number}
use Rattle.file_names.proofs.NameLaws.{commit_name_only}
use Rattle.codec_frame.specs.declared.frame.FileFault.{FileFault}
use Rattle.segment_infos.specs.Commits.{commit_numbers, IsGreatest}
use Rattle.segment_infos.specs.Infos.{IsInfosFile}
use Rattle.segment_infos.specs.Files.{AreFilesOf}
use Rattle.segment_infos.specs.declared.infos.Infos.{Infos}
use Rattle.segment_infos.proofs.CommitLaws.{commits_are}
use Rattle.commit_steps.specs.declared.recovery.RecoverFault.{RecoverFault}
use Rattle.commit_steps.specs.declared.recovery.RecoverFault.TheVariants.{Memory, Failed, Broken, Gone}
use Rattle.commit_steps.specs.Found.{ShowsNothing, IsNewest, IsNewestNumber, IsNewestAnswer, ShowsCommit}
use Rattle.commit_steps.specs.Recovery.{IsRefused, IsWholeCommit, IsBrokenCommit, IsGone, SaysHowBroken}
use Rattle.commit_steps.proofs.Safe.{contains_of, among_of}

pub listed_faults : (e : DirFault) → (◌≡◌ {A = DirFault} e Missing → ⊥) → (◌≡◌ {A = DirFault} e Exists → ⊥) → IsMemoryOrFailed e
listed_faults DirMemory a b = tt
listed_faults DirFailed a b = tt
listed_faults Missing a b = absurd (a refl)
listed_faults Exists a b = absurd (b refl)

-- ---- the newest commit among the names
module _ (cells : Cells) (names : List Name) (listed : (q : Name) → is_among names q ≡ is_some (cells q).now) where
  numbered : (q : Name) → is_commit_name q ≡ true → is_some (cells q).now ≡ true → Contains (commit_numbers names) (commit_number q)
  numbered q named there =
      let only = commit_name_only q named in
      (commits_are names (commit_number q)).1 (only.1, only.2, subst (Contains names) only.0 (contains_of names q (listed q ∙ there)))

  none_of : (content : Content) → (is_some content ≡ true → ⊥) → content ≡ None
  none_of None h = refl
  none_of (Some bytes) h = absurd (h refl)

  none_in : (n : ℕ) → (let none : List ℕ = [] in Contains none n) → ⊥
  none_in n (k, lt, e) = absurd (omega (arith, lt))

  nothing : commit_numbers names ≡ [] → ShowsNothing (reads_of cells)
  nothing e q named = none_of (cells q).now (λ there. none_in (commit_number q) (subst (λ (ns : List ℕ). Contains ns (commit_number q)) e (numbered q named there)))

  newest : (n : ℕ) → Contains (commit_numbers names) n → All (λ m. m ≤ n) (commit_numbers names) → IsNewestNumber (reads_of cells) n
  newest n there most =
      let is = (commits_are names n).0 there in
      record {
        some = is.0;
        below = is.1;
        there = sym (listed (commit_name_of n)) ∙ among_of names (commit_name_of n) is.2;
        greatest = λ q named lt. none_of (cells q).now (λ here.
            let le : commit_number q ≤ n = All-contains (λ m. m ≤ n) (commit_numbers names) (commit_number q) most (numbered q named here) in
            absurd (omega (arith, le, lt)));
      }

  pub newest_answer : (r : Option ℕ) → IsGreatest (commit_numbers names) r → IsNewestAnswer (reads_of cells) r
  newest_answer None h = nothing h
  newest_answer (Some n) h = newest n h.0 h.1

-- ---- its infos
pub is_newest : (image : Image) (n : ℕ) (name : Name) (bytes : List ℕ) → IsNewestNumber image n → name ≡ commit_name_of n → image name ≡ Some bytes → IsNewest image n bytes
is_newest image n name bytes newest is there = record { some = newest.some; below = newest.below; there = sym (ap image is) ∙ there; greatest = newest.greatest }

pub shows_infos : (image : Image) (n : ℕ) (name : Name) (bytes : List ℕ) (infos : Infos) → IsNewestNumber image n → name ≡ commit_name_of n → image name ≡ Some bytes → IsInfosFile infos bytes → ShowsCommit image n infos
shows_infos image n name bytes infos newest is there spelled = record { bytes = bytes; newest = is_newest image n name bytes newest is there; spelled = spelled }

pub is_broken : (image : Image) (n : ℕ) (name : Name) (bytes : List ℕ) (fault : FileFault) → IsNewestNumber image n → name ≡ commit_name_of n → image name ≡ Some bytes → IsRefused bytes fault → IsBrokenCommit image name fault
is_broken image n name bytes fault newest is there refused = record { number = n; bytes = bytes; newest = is_newest image n name bytes newest is there; name_is = is; refused = refused }

pub refuses : (image : Image) (fault : RecoverFault) → (fault ≡ Memory) ⊎ (fault ≡ Failed) → SaysHowBroken image fault
refuses image Memory h = tt
refuses image Failed h = tt
refuses image (Broken name fault) h = elim h [ inl e ↦ absurd cc | inr e ↦ absurd cc ]
refuses image (Gone name) h = elim h [ inl e ↦ absurd cc | inr e ↦ absurd cc ]

-- ---- its files
pub whole_commit : (cells now : Cells) (n : ℕ) (infos : Infos) (files : List Name) (missing : Option Name) → now ≡ cells → ShowsCommit (reads_of cells) n infos → AreFilesOf infos files
    → missing ≡ first_missing (reads_of now) files → missing ≡ None → IsWholeCommit (reads_of cells) n infos
whole_commit cells now n infos files missing same shown named is none = record {
  shown = shown;
  files = files;
  named = named;
  there = ap (λ (c : Cells). first_missing (reads_of c) files) (sym same) ∙ sym is ∙ none;
}

pub gone : (cells now : Cells) (n : ℕ) (infos : Infos) (files : List Name) (missing : Option Name) (name : Name) → now ≡ cells → ShowsCommit (reads_of cells) n infos → AreFilesOf infos files
    → missing ≡ first_missing (reads_of now) files → missing ≡ Some name → IsGone (reads_of cells) name
gone cells now n infos files missing name same shown named is some = record {
  number = n;
  infos = infos;
  shown = shown;
  files = files;
  named = named;
  first = ap (λ (c : Cells). first_missing (reads_of c) files) (sym same) ∙ sym is ∙ some;
}
