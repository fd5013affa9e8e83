-- A job whose files read as at a source.
use Rattle.std.proofs.Common.{◌≡◌, ℕ, suc, ◌<◌, List, [], ◌∷◌, ◌++◌, refl, sym, ap, subst, ◌∙◌, arith}
use Rattle.std.specs.Prelude.{Contains}
use Rattle.std.specs.List.{All}
use Rattle.std.proofs.lemmas.List.Elements.{All-contains}
use Rattle.nrt_base.specs.declared.doc.Doc.{Doc}
use Rattle.disk_model.specs.Disk.{Name, Content}
use Rattle.file_deleter.specs.Holdings.{Holdings, count_of, times}
use Rattle.segment_infos.specs.declared.infos.Infos.{Infos}
use Rattle.segment_infos.specs.Files.{AreFilesOf}
use Rattle.seg_reader.specs.Stands.{StandsFor}
use Rattle.searcher_switch.proofs.Standing.{stands_along}
use Rattle.copy_state.specs.declared.meta.FileMetaData.{FileMetaData}
use Rattle.copy_state.specs.States.{meta_names}
use Rattle.copy_state.specs.Meta.{IsMetaOf}
use Rattle.copy_state.proofs.MetaLaws.{one_meta}
use Rattle.copy_job.specs.declared.fault.JobFault.{JobFault}
use Rattle.copy_job.specs.declared.fault.JobFault.TheVariants.{Memory, LinkFailed, Damaged, DirFailed, NameClash}
use Rattle.copy_job.specs.Jobs.{Job, reads_under}
use Rattle.replica_opening.specs.Known.{IsLasting, HasMeta}
use Rattle.replica_opening.proofs.Clearings.{same_bytes}
use Rattle.replica_node.specs.Jobs.{IsStartingFault}
use Rattle.replica_node.specs.Sources.{CopiesFrom}
use Rattle.replica_node.proofs.Named.{file_counted}

-- what reads under a name has one metadata
has_one : (reads other : Name → Content) (q : Name) (m n : FileMetaData) → reads q ≡ other q → HasMeta reads q m → HasMeta other q n → m ≡ n
has_one reads other q m n same h k =
    let bytes : h.bytes ≡ k.bytes = same_bytes (reads q) h.bytes k.bytes h.there (same ∙ k.there) in
    one_meta k.bytes m n (subst (λ (b : List ℕ). IsMetaOf b m) bytes h.meta_is) k.meta_is

pub no_clash : (source reads : Name → Content) (holdings : Holdings) (files : List (Name × FileMetaData)) (fault : JobFault) → ((q : Name) → IsLasting q → 0 < count_of holdings q → reads q ≡ source q)
    → All (λ f. IsLasting f.0) files → All (λ f. HasMeta source f.0 f.1) files → IsStartingFault reads holdings files fault → fault ≡ Memory
no_clash source reads holdings files Memory same lasting metas h = refl
no_clash source reads holdings files LinkFailed same lasting metas h = absurd h
no_clash source reads holdings files (Damaged name want found) same lasting metas h = absurd h
no_clash source reads holdings files DirFailed same lasting metas h = absurd h
no_clash source reads holdings files (NameClash name ours theirs) same lasting metas h =
    let there : Contains files (name, theirs) = subst (λ (fs : List (Name × FileMetaData)). Contains fs (name, theirs)) (sym h.files_are) (middle h.front h.rest (name, theirs)) in
    let lasts : IsLasting name = All-contains (λ (f : Name × FileMetaData). IsLasting f.0) files (name, theirs) lasting there in
    let wanted : HasMeta source name theirs = All-contains (λ (f : Name × FileMetaData). HasMeta source f.0 f.1) files (name, theirs) metas there in
    absurd (h.other (has_one reads source name ours theirs (same name lasts h.held) h.has wanted))
  where
    middle : (front rest : List (Name × FileMetaData)) (f : Name × FileMetaData) → Contains (front ++ f ∷ rest) f
    middle [] rest f = (0, omega arith, refl)
    middle (x ∷ xs) rest f = let c = middle xs rest f in (suc c.0, omega (arith, c.1), c.2)

pub sourced_stands : (source reads : Name → Content) (j : Job) (infos : Infos) (docs : List Doc) → CopiesFrom source reads j → j.missing ≡ [] → AreFilesOf infos (meta_names j.want.files) → StandsFor source infos docs
    → StandsFor (reads_under j.parts reads) infos docs
sourced_stands source reads j infos docs copies none files stands =
    stands_along source (reads_under j.parts reads) infos docs (λ q named. copies.each q (file_counted infos (meta_names j.want.files) files q named) (ap (λ (ns : List Name). times ns q) none)) stands
