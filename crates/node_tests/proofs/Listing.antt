-- A state that a test makes.
use Rattle.std.proofs.Common.{◌≡◌, ℕ, ◌+◌, ◌<◌, ◌≤◌, List, [], ◌∷◌, ◌++◌, length, take, get_or, sym, ap, subst, ◌∙◌, arith, add-one}
use Rattle.std.specs.List.{All}
use Rattle.std.specs.List.Sorted.{IsStrictlySortedBy}
use Rattle.std.specs.Ordering.{nat_cmp}
use Rattle.std.specs.Cmp.Lexicographic.{slice_cmp}
use Rattle.std.proofs.Math.Seq.{take-suc}
use Rattle.std.proofs.lemmas.List.{map-append}
use Rattle.std.proofs.lemmas.List.Elements.{All-nil, All-cons, All-append}
use Rattle.disk_model.specs.Disk.{Name}
use Rattle.segment_infos.specs.declared.infos.SegRecord.{SegRecord}
use Rattle.segment_infos.specs.declared.infos.Infos.{Infos}
use Rattle.segment_infos.specs.Infos.{IsRecord, CanSpell, IsInfosFile}
use Rattle.segment_infos.specs.Files.{AreFilesOf}
use Rattle.copy_state.specs.declared.meta.FileMetaData.{FileMetaData}
use Rattle.copy_state.specs.declared.state.CopyState.{CopyState}
use Rattle.copy_state.specs.States.{meta_names, IsCopyState}
use Rattle.replica_node.specs.Replica.{IsPointState}
use Rattle.node_tests.specs.States.{HaveShortNames}

-- infos of one segment
pub one_spelled : (infos : Infos) (r : SegRecord) → 0 < infos.generation.0 → 0 < infos.version.0 → IsRecord r → infos.segs ≡ r ∷ [] → CanSpell infos
one_spelled infos r generation version is one =
    let n : length infos.segs ≡ 1 = ap (λ (rs : List SegRecord). length rs) one in
    record {
      generation = generation;
      version = version;
      few = omega (arith, n);
      records = subst (All IsRecord) (sym one) (All-cons IsRecord r [] is (All-nil IsRecord));
      apart = λ i j d lt le e. absurd (omega (arith, n, lt, le));
    }

-- the first names are listed
pub record AreListedTo (names : List Name) (count : ℕ) (files : List (Name × FileMetaData)) : Type 0 where
  pub names_are : meta_names files ≡ take count names
  pub short : All (λ q. length q ≤ 46) (take count names)

pub listed_none : (names : List Name) (files : List (Name × FileMetaData)) → files ≡ [] → AreListedTo names 0 files
listed_none names files e = record { names_are = ap meta_names e; short = All-nil (λ q. length q ≤ 46) }

pub listed_more : (names : List Name) (i : ℕ) (name : Name) (meta : FileMetaData) (old new : List (Name × FileMetaData)) → i < length names → name ≡ get_or names i name → length name ≤ 46 → new ≡ old ++ (name, meta) ∷ [] → AreListedTo names i old
    → AreListedTo names (i + 1) new
listed_more names i name meta old new lt is low push was = record {
  names_are = ap meta_names push ∙ map-append (λ (f : Name × FileMetaData). f.0) old ((name, meta) ∷ []) ∙ ap (λ (ns : List Name). ns ++ name ∷ []) was.names_are ∙ more;
  short = subst (All (λ q. length q ≤ 46)) more (All-append (λ q. length q ≤ 46) (take i names) (name ∷ []) was.short (All-cons (λ q. length q ≤ 46) name [] low (All-nil (λ q. length q ≤ 46))));
}
  where
    more : take i names ++ name ∷ [] ≡ take (i + 1) names
    more = ap (λ (n : Name). take i names ++ n ∷ []) is ∙ sym (ap (λ n. take n names) (add-one i) ∙ take-suc names i name lt)

-- the state is one of a point
module _ (infos : Infos) (names slice : List Name) (are : AreFilesOf infos names) (slice_is : slice ≡ names) (state : CopyState) (listed : HaveShortNames slice state.files) (spelled : IsInfosFile infos state.infos) where
  files_are : meta_names state.files ≡ names
  files_are = listed.names_are ∙ slice_is

  nothing_ascends : IsStrictlySortedBy (slice_cmp nat_cmp) []
  unfolding IsStrictlySortedBy
  nothing_ascends = tt

  pub copy_made : state.completed ≡ [] → IsCopyState state
  copy_made none = record {
    infos = infos;
    spelled = spelled;
    files = record {
      ascending = subst (IsStrictlySortedBy (slice_cmp nat_cmp)) (sym files_are) are.ascending;
      short = subst (All (λ q. length q ≤ 46)) (sym listed.names_are) listed.short;
    };
    completed = record {
      ascending = subst (IsStrictlySortedBy (slice_cmp nat_cmp)) (sym none) nothing_ascends;
      short = subst (All (λ q. length q ≤ 46)) (sym none) (All-nil (λ q. length q ≤ 46));
    };
  }

  pub point_made : infos.version ≡ state.version → infos.generation ≡ state.primary_gen → IsPointState state infos
  point_made version generation = record { spelled = spelled; version = version; generation = generation; files = subst (AreFilesOf infos) (sym files_are) are }
