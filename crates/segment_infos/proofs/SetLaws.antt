-- Lists of names in ascending order, each once.
use Rattle.std.proofs.Common.{◌≡◌, ℕ, Bool, true, false, cond, List, [], ◌∷◌, get_or, sym, subst, arith, nat_eq}
use Rattle.std.specs.List.{Contains, dedup, flat_map}
use Rattle.std.specs.List.Sorted.{IsStrictlySortedBy, IsSorted, IsPermutation}
use Rattle.std.specs.Ordering.{nat_cmp}
use Rattle.std.specs.Cmp.Lexicographic.{slice_cmp, pointwise, nat_list_eq_equiv, texts_ties}
use Rattle.std.proofs.lemmas.Cmp.{nat_list_cmp_total}
use Rattle.std.proofs.lemmas.List.Kept.{IsStrictlySortedBy-dedup, Contains-dedup, Contains-from_dedup}
use Rattle.std.proofs.lemmas.List.Sorted.{Contains-permutation, IsPermutation-sym}
use Rattle.std.proofs.lemmas.Slice.Eq.{bytes_eq-Decides}
use Rattle.std.specs.declared.cmp.Ordering.{Ordering}
use Rattle.std.specs.Prelude.{◌==◌}
use Rattle.std.specs.List.{All}
use Rattle.std.proofs.lemmas.List.Elements.{All-append, All-cons, All-nil, All-contains, Contains-get_or}
use Rattle.file_names.specs.Names.{part_name_of, live_name_of, is_commit_name, is_pending_name}
use Rattle.file_names.specs.declared.composed.SegPart.{SegPart}
use Rattle.file_names.specs.declared.composed.SegPart.TheVariants.{Docs, Post, Info}
use Rattle.file_names.proofs.NameLaws.{part_name_not_commit, part_name_not_pending, live_name_not_commit, live_name_not_pending}
use Rattle.segment_infos.specs.declared.infos.SegRecord.{SegRecord}
use Rattle.segment_infos.specs.declared.infos.Infos.{Infos}
use Rattle.segment_infos.proofs.SortedLists.{one_sorted_list}
use Rattle.segment_infos.specs.Files.{live_files, files_of_segment, AreFilesOf}

abbrev Name : Type 0
Name = List ℕ

abbrev order : Name → Name → Ordering
order = slice_cmp nat_cmp

-- sorting and dropping those that follow their like leaves the files
pub files_are : (infos : Infos) (all sorted left : List Name) → all ≡ flat_map files_of_segment infos.segs → IsPermutation all sorted → IsSorted order sorted → left ≡ dedup (pointwise nat_eq) sorted → AreFilesOf infos left
files_are infos all sorted left e moved up is = record {
  ascending = subst (IsStrictlySortedBy order) (sym is) (IsStrictlySortedBy-dedup nat_list_cmp_total texts_ties sorted up);
  named = λ name. (
    λ h. subst (λ (x : List Name). Contains x name) e (Contains-permutation sorted all name (IsPermutation-sym all sorted moved) (Contains-from_dedup (pointwise nat_eq) sorted name (subst (λ (x : List Name). Contains x name) is h))),
    λ h. subst (λ (x : List Name). Contains x name) (sym is)
        (Contains-dedup nat_list_eq_equiv (λ x y t. (bytes_eq-Decides x y).0 t) sorted name (Contains-permutation all sorted name moved (subst (λ (x : List Name). Contains x name) (sym e) h))),
  );
}

-- ---- such a list is told by its names

pub one_list_of : (infos : Infos) (names others : List Name) → AreFilesOf infos names → AreFilesOf infos others → names ≡ others
one_list_of infos names others a b =
    one_sorted_list Name order nat_list_cmp_total names others a.ascending b.ascending (λ name. (λ h. (b.named name).1 ((a.named name).0 h), λ h. (a.named name).1 ((b.named name).0 h)))

-- ---- no file of infos is a commit

-- the name is that of no commit, nor of one in preparation
abbrev IsPlain : Name → Type 0
IsPlain name = (is_commit_name name ≡ false) × (is_pending_name name ≡ false)

plain_part : (seg : ℕ) (part : SegPart) → IsPlain (part_name_of seg part)
plain_part seg part = (part_name_not_commit seg part, part_name_not_pending seg part)

plain_live : (r : SegRecord) (test : Bool) → All IsPlain (cond test [] (live_name_of r.seg.0 r.live_gen ∷ []))
plain_live r true = All-nil IsPlain
plain_live r false = All-cons IsPlain (live_name_of r.seg.0 r.live_gen) [] (live_name_not_commit r.seg.0 r.live_gen, live_name_not_pending r.seg.0 r.live_gen) (All-nil IsPlain)

plain_parts : (seg : ℕ) (rest : List Name) → All IsPlain rest → All IsPlain (part_name_of seg Docs ∷ part_name_of seg Post ∷ part_name_of seg Info ∷ rest)
plain_parts seg rest h =
    let info = All-cons IsPlain (part_name_of seg Info) rest (plain_part seg Info) h in
    let post = All-cons IsPlain (part_name_of seg Post) (part_name_of seg Info ∷ rest) (plain_part seg Post) info in
    All-cons IsPlain (part_name_of seg Docs) (part_name_of seg Post ∷ part_name_of seg Info ∷ rest) (plain_part seg Docs) post

plain_files : (segs : List SegRecord) → All IsPlain (flat_map files_of_segment segs)
plain_files [] = All-nil IsPlain
plain_files (r ∷ segs) = All-append IsPlain (files_of_segment r) (flat_map files_of_segment segs) (plain_parts r.seg.0 (live_files r) (plain_live r (r.live_gen == 0))) (plain_files segs)

pub files_plain : (infos : Infos) (names : List Name) → AreFilesOf infos names → All (λ name. (is_commit_name name ≡ false) × (is_pending_name name ≡ false)) names
files_plain infos names a k d lt = All-contains IsPlain (flat_map files_of_segment infos.segs) (get_or names k d) (plain_files infos.segs) ((a.named (get_or names k d)).0 (Contains-get_or names k d lt))

-- infos without a segment
pub no_files : (infos : Infos) → infos.segs ≡ [] → AreFilesOf infos []
unfolding IsStrictlySortedBy
no_files infos e = record {
  ascending = tt;
  named = λ q. (λ c. absurd (omega (arith, c.1)), λ c. let n : Contains (flat_map files_of_segment []) q = subst (λ (rs : List SegRecord). Contains (flat_map files_of_segment rs) q) e c in absurd (omega (arith, n.1)));
}
