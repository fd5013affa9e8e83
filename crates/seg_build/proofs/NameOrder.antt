-- The names of a segment's files stand in ascending order.
use Rattle.std.proofs.Common.{◌≡◌, ℕ, ◌<◌, ◌↔◌, ◌==◌, Bool, true, false, cond, List, [], ◌∷◌, ◌++◌, map, codes, Option, Some, None, IsSome, refl, sym, ap, ◌∙◌, append_assoc, inl, inr, arith}
use Rattle.std.specs.Ordering.{nat_cmp, ordering_then}
use Rattle.std.specs.Cmp.{nat_cmp_is}
use Rattle.std.specs.Cmp.Lexicographic.{slice_cmp}
use Rattle.std.specs.List.Sorted.{IsStrictlySortedBy}
use Rattle.std.specs.declared.cmp.Ordering.{Ordering}
use Rattle.std.specs.declared.cmp.Ordering.TheVariants.{Less, Equal}
use Rattle.std.proofs.lemmas.Bool.{cases_lt, eq-eqb}
use Rattle.file_names.specs.Base36.{base36_of}
use Rattle.file_names.specs.Names.{part_name_of, live_name_of}
use Rattle.file_names.specs.declared.composed.SegPart.TheVariants.{Docs, Post, Info}
use Rattle.segment_infos.specs.declared.infos.SegRecord.{SegRecord}
use Rattle.segment_infos.specs.Files.{live_files, files_of_segment}
use Rattle.seg_reader.specs.declared.parts.SegParts.{SegParts}
use Rattle.seg_build.specs.Built.{File, live_file_of, files_of}

-- ---- their order

abbrev order : List ℕ → List ℕ → Ordering
order a b = slice_cmp nat_cmp a b

same_front : (front a b : List ℕ) → order (front ++ a) (front ++ b) ≡ order a b
same_front [] a b = refl
same_front (x ∷ front) a b = ap (λ (o : Ordering). ordering_then o (order (front ++ a) (front ++ b))) (sym (nat_cmp_is x x Equal refl)) ∙ same_front front a b

abbrev front_of : ℕ → List ℕ
front_of seg = codes "_" ++ base36_of seg

live_name_behind : (seg live_gen : ℕ) → live_name_of seg live_gen ≡ front_of seg ++ (codes "_" ++ (base36_of live_gen ++ codes ".liv"))
live_name_behind seg live_gen =
    append_assoc (front_of seg ++ codes "_") (base36_of live_gen) (codes ".liv") ∙ append_assoc (front_of seg) (codes "_") (base36_of live_gen ++ codes ".liv")

-- a point stands before the line that the live generation follows
before_live : (seg live_gen : ℕ) (ending : List ℕ) → order (front_of seg ++ 46 ∷ ending) (live_name_of seg live_gen) ≡ Less
before_live seg live_gen ending =
    ap (order (front_of seg ++ 46 ∷ ending)) (live_name_behind seg live_gen) ∙ same_front (front_of seg) (46 ∷ ending) (codes "_" ++ (base36_of live_gen ++ codes ".liv"))

docs_post : (seg : ℕ) → order (part_name_of seg Docs) (part_name_of seg Post) ≡ Less
docs_post seg = same_front (front_of seg) (codes ".docs") (codes ".post")

docs_info : (seg : ℕ) → order (part_name_of seg Docs) (part_name_of seg Info) ≡ Less
docs_info seg = same_front (front_of seg) (codes ".docs") (codes ".si")

post_info : (seg : ℕ) → order (part_name_of seg Post) (part_name_of seg Info) ≡ Less
post_info seg = same_front (front_of seg) (codes ".post") (codes ".si")

ascend : (seg live_gen : ℕ) (none : Bool)
    → IsStrictlySortedBy (slice_cmp nat_cmp) (part_name_of seg Docs ∷ part_name_of seg Post ∷ part_name_of seg Info ∷ cond none [] (live_name_of seg live_gen ∷ []))
unfolding IsStrictlySortedBy
ascend seg live_gen true = ((docs_post seg, (docs_info seg, tt)), ((post_info seg, tt), (tt, tt)))
ascend seg live_gen false = (
  (docs_post seg, (docs_info seg, (before_live seg live_gen (codes "docs"), tt))),
  ((post_info seg, (before_live seg live_gen (codes "post"), tt)), ((before_live seg live_gen (codes "si"), tt), (tt, tt))),
)

pub names_ascend : (r : SegRecord) → IsStrictlySortedBy (slice_cmp nat_cmp) (files_of_segment r)
names_ascend r = ascend r.seg.0 r.live_gen (r.live_gen == 0)

-- ---- the names of the files are those that infos name

live_names : (r : SegRecord) (live : Option (List ℕ)) → IsSome live ↔ (0 < r.live_gen) → map (λ (f : File). f.0) (live_file_of r live) ≡ live_files r
live_names r None given =
    let zero : r.live_gen ≡ 0 = elim (cases_lt 0 r.live_gen) [ inl lt ↦ absurd (true_is_none (given.1 lt)) | inr ge ↦ omega arith ] in
    ap (λ (b : Bool). cond b [] (live_name_of r.seg.0 r.live_gen ∷ [])) (sym (eq-eqb r.live_gen 0 zero))
  where
    true_is_none : false ≡ true → ⊥
    true_is_none e = cc
live_names r (Some bytes) given =
    let some : 0 < r.live_gen = given.0 refl in
    ap (λ (b : Bool). cond b [] (live_name_of r.seg.0 r.live_gen ∷ [])) (sym (not_zero r.live_gen some))
  where
    not_zero : (n : ℕ) → 0 < n → (n == 0) ≡ false
    not_zero n lt = grind arith

pub names_are : (r : SegRecord) (parts : SegParts) → IsSome parts.live ↔ (0 < r.live_gen) → map (λ (f : File). f.0) (files_of r parts) ≡ files_of_segment r
names_are r parts given = ap (λ (names : List (List ℕ)). part_name_of r.seg.0 Docs ∷ part_name_of r.seg.0 Post ∷ part_name_of r.seg.0 Info ∷ names) (live_names r parts.live given)
