-- A merge in its place; the state of one whose files are to be written, and the metadata of these.
use Rattle.std.proofs.Common.{◌≡◌, ◌<◌, ◌+◌, ℕ, true, List, [], ◌∷◌, ◌++◌, Option, Some, None, is_some, length, take, get_or, slice_set, refl, sym, ap, subst, ◌∙◌, All}
use Rattle.std.specs.Option.{IsSomeAnd}
use Rattle.std.proofs.lemmas.List.{take_more, map-append}
use Rattle.std.proofs.lemmas.Option.{slice_get_read}
use Rattle.std.proofs.lemmas.List.Elements.{All-push}
use Rattle.disk_model.specs.Disk.{Name, Content}
use Rattle.segment_infos.specs.Infos.{IsInfosFile}
use Rattle.seg_merge.specs.Given.{File}
use Rattle.copy_state.specs.declared.meta.FileMetaData.{FileMetaData}
use Rattle.copy_state.specs.Meta.{IsMetaOf}
use Rattle.copy_state.specs.States.{meta_names, AreShortNames}
use Rattle.seg_merge.specs.declared.task.Merged.{Merged}
use Rattle.seg_merge.specs.Merging.{IsMergedOf}
use Rattle.index_primary.specs.declared.parts.PrimaryParts.{PrimaryParts}
use Rattle.index_primary.specs.declared.states.Merging.{Merging}
use Rattle.index_primary.specs.Cut.{last_number}
use Rattle.index_primary.specs.Merges.{merge_of, merge_place, merges_with}
use Rattle.index_primary.specs.States.{IsMetaIn}
use Rattle.index_primary.specs.Written.{names_of}
use Rattle.index_primary.proofs.MergeLists.{merge_at}
use Rattle.index_primary.specs.MergeCalls.{IsStateReady}

abbrev Meta : Type 0
Meta = Name × FileMetaData

pub told_names : (files : List File) (i : ℕ) (file : File) (metas more : List Meta) (meta : FileMetaData) → i < length files → file ≡ get_or files i file → meta_names metas ≡ names_of (take i files) → more ≡ metas ++ (file.0, meta) ∷ []
    → meta_names more ≡ names_of (take (i + 1) files)
told_names files i file metas more meta lt is sofar e =
    ap meta_names e ∙ map-append (λ (y : Meta). y.0) metas ((file.0, meta) ∷ []) ∙ ap (λ (ns : List Name). ns ++ file.0 ∷ []) sofar ∙ ap (λ (f : File). names_of (take i files) ++ f.0 ∷ []) is
    ∙ sym (map-append (λ (f : File). f.0) (take i files) (get_or files i file ∷ [])) ∙ ap names_of (sym (take_more files i file lt))

pub told_metas : (files : List File) (i : ℕ) (file : File) (metas more : List Meta) (meta : FileMetaData) → i < length files → file ≡ get_or files i file → more ≡ metas ++ (file.0, meta) ∷ [] → IsMetaOf file.1 meta
    → ((reads : Name → Content) → All (λ (f : File). reads f.0 ≡ Some f.1) files → All (IsMetaIn reads) metas) → (reads : Name → Content) → All (λ (f : File). reads f.0 ≡ Some f.1) files → All (IsMetaIn reads) more
told_metas files i file metas more meta lt is e of sofar reads all = subst (All (IsMetaIn reads)) (sym e)
    (All-push (IsMetaIn reads) metas (file.0, meta) (sofar reads all) (record { bytes = file.1; there = subst (λ (f : File). reads f.0 ≡ Some f.1) (sym is) (all i file lt); meta = of }))

-- ---- all that is made before the first write
pub state_ready_of : {D : Type 0} (p : PrimaryParts D) (merged : Merged) (m : Merging) → merge_of merged.files.seg.0 p.merges ≡ Some m → m.merged ≡ None → IsMergedOf m.task merged → AreShortNames p.completed → (written names held : List Name)
    → written ≡ names_of merged.files.files → names ≡ m.names ++ written → held ≡ written → (completed : List Name) → completed ≡ p.completed → (infos : List ℕ) → IsInfosFile p.point_infos infos
    → (metas : List Meta) → meta_names metas ≡ names_of merged.files.files → ((reads : Name → Content) → All (λ (f : File). reads f.0 ≡ Some f.1) merged.files.files → All (IsMetaIn reads) metas)
    → AreShortNames (names_of merged.files.files) → (generation : ℕ) → generation ≡ last_number p.commits
    → IsStateReady p merged (record {
      written = written;
      names = names;
      state = record { version = p.point_infos.version; generation = generation; primary_gen = p.point_infos.generation; infos = infos; files = metas; completed = completed };
      out = record { version = p.point_infos.version; names = held };
    })
state_ready_of p merged m found unmade of short_completed written names held w n h completed same infos spelled metas named told short generation gen = record {
  m = m;
  found = found;
  unmade = unmade;
  of = of;
  written = w;
  names = n ∙ ap (λ (ns : List Name). m.names ++ ns) w;
  state = λ reads all. record {
    version = refl;
    primary_gen = refl;
    generation = gen;
    infos_file = spelled;
    names_are = named;
    metas = told reads all;
    completed_are = same;
  };
  copy = record { infos = p.point_infos; spelled = spelled; files = subst AreShortNames (sym named) short; completed = subst AreShortNames (sym same) short_completed };
  out = ap (λ (ns : List Name). record { version = p.point_infos.version; names = ns }) (h ∙ w ∙ sym named);
}

-- ---- the merge in its place
-- what is true of the merge that is found
pub so_at : {X : Type 0} (P : X → Type 0) (o : Option X) (x : X) → Some x ≡ o → IsSomeAnd o P → P x
so_at P None x e h = absurd h
so_at P (Some y) x e h = let same : y ≡ x = cc in subst P same h

pub found_at : (n : ℕ) (ms : List Merging) (i : ℕ) (x : Merging) → is_some (merge_of n ms) ≡ true → i ≡ merge_place n ms → x ≡ get_or ms i x → Some x ≡ merge_of n ms
found_at n ms i x there place is =
    let at = merge_at n ms there in
    sym (slice_get_read ms (length ms) (merge_place n ms) x refl at.within (is ∙ ap (λ (k : ℕ). get_or ms k x) place)) ∙ at.item

pub place_within : (n : ℕ) (ms : List Merging) (i : ℕ) → is_some (merge_of n ms) ≡ true → i ≡ merge_place n ms → i < length ms
place_within n ms i there place = subst (λ (k : ℕ). k < length ms) (sym place) (merge_at n ms there).within

pub made_at : (merged : Merged) (names : List Name) (ms : List Merging) (i : ℕ) (x : Merging) → is_some (merge_of merged.files.seg.0 ms) ≡ true → i ≡ merge_place merged.files.seg.0 ms → x ≡ get_or ms i x
    → slice_set ms i (record x { merged = Some merged; names = names }) ≡ merges_with merged names ms
made_at merged names ms i x there place is =
    ap (λ (k : ℕ). slice_set ms k (record x { merged = Some merged; names = names })) place
    ∙ (merge_at merged.files.seg.0 ms there).set merged names x refl (sym (found_at merged.files.seg.0 ms i x there place is))
