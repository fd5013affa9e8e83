-- What a replica has of a source.
use Rattle.std.proofs.Common.{◌≡◌, ◌==◌, ℕ, true, false, List, [], ◌∷◌, length, Option, Some, None, Result, Ok, Err, refl, ap, sym, arith, subst, ◌∙◌, slice_get, true≢false}
use Rattle.std.specs.Prelude.{IfSome, OnOk, is_err}
use Rattle.std.proofs.lemmas.Bool.{eqb-true}
use Rattle.nrt_base.specs.declared.doc.Doc.{Doc}
use Rattle.disk_model.specs.Disk.{Name, Content}
use Rattle.segment_infos.specs.declared.infos.Infos.{Infos}
use Rattle.segment_infos.specs.Infos.{IsInfosFile}
use Rattle.segment_infos.specs.Files.{AreFilesOf}
use Rattle.segment_infos.proofs.FileLaws.{infos_files_one_to_one}
use Rattle.seg_reader.specs.Stands.{StandsFor}
use Rattle.searcher_switch.specs.Standing.{StandsForSome}
use Rattle.copy_state.specs.States.{meta_names}
use Rattle.copy_job.specs.Jobs.{Job, reads_under}
use Rattle.replica_node.specs.declared.job.PointJob.{PointJob}
use Rattle.replica_node.specs.Replica.{IsJobAbove}
use Rattle.replica_node.specs.Sources.{CopiesFrom}

-- the law of `replica_node` on a job that lacks nothing
abbrev SourcedStands : Type 0
SourcedStands = (source reads : Name → Content) (j : Job) (infos : Infos) (docs : List Doc) → CopiesFrom source reads j → j.missing ≡ [] → AreFilesOf infos (meta_names j.want.files) → StandsFor source infos docs → StandsFor (reads_under j.parts reads) infos docs

-- where the source stands for documents under the job's infos, so does what the job has
pub job_stands : SourcedStands → (source reads : Name → Content) (infos : Infos) (docs : List Doc) (v : ℕ) (o : Option PointJob) → IfSome o (IsJobAbove v) → IfSome o (λ j. CopiesFrom source reads j.copy) → IfSome o (λ j. j.copy.missing ≡ [])
    → IfSome o (λ j. IsInfosFile infos j.copy.want.infos) → StandsFor source infos docs → IfSome o (λ j. StandsForSome (reads_under j.copy.parts reads) j.infos)
job_stands law source reads infos docs v None above copies none spelled stands = tt
job_stands law source reads infos docs v (Some j) above copies none spelled stands =
    let same : infos ≡ j.infos = infos_files_one_to_one.one_value j.copy.want.infos infos j.infos spelled above.state.spelled in
    record { docs = docs; stands = law source reads j.copy j.infos docs copies none above.state.files (subst (λ (i : Infos). StandsFor source i docs) same stands) }

-- a claim of the job from one of what is seen of it
pub of_job : (P : Job → Type 0) (c : Job) (o : Option PointJob) → IfSome o (λ j. c ≡ j.copy) → P c → IfSome o (λ j. P j.copy)
of_job P c None is h = tt
of_job P c (Some j) is h = subst P is h

-- a claim that holds in any case, where the call answers
pub on_ok : {T E : Type 0} (r : Result T E) (P : Type 0) → P → OnOk r P
on_ok (Ok x) P h = h
on_ok (Err e) P h = tt

-- a claim where the call answers, of a call that did
pub of_ok : {T E : Type 0} (r : Result T E) (P : Type 0) → OnOk r P → false ≡ is_err r → P
of_ok (Ok x) P h e = h
of_ok (Err x) P h e = absurd (true≢false (sym e))

pub none_left : (names : List Name) → true ≡ (length names == 0) → names ≡ []
none_left [] e = refl
none_left (q ∷ names) e = let zero : length (q ∷ names) ≡ 0 = eqb-true (length (q ∷ names)) 0 (sym e) in absurd (omega (arith, zero))

-- a part that was loaded under the first name that is missing
pub part_reads : (reads : Name → Content) (shown names : List Name) (name q : Name) (bytes part : List ℕ) → Some name ≡ slice_get shown 0 → shown ≡ names → slice_get names 0 ≡ Some q → part ≡ bytes → reads name ≡ Some bytes → reads q ≡ Some part
part_reads reads shown names name q bytes part first is named same there =
    let one : name ≡ q = same_some name q (first ∙ ap (λ (ns : List Name). slice_get ns 0) is ∙ named) in
    sym (ap reads one) ∙ there ∙ ap Some (sym same)
  where
    same_some : (a b : Name) → Some a ≡ Some b → a ≡ b
    same_some a b e = cc
