-- The files of a merged segment: its three parts, each once, framed, under short names that ascend.
use Rattle.std.proofs.Common.{◌≡◌, ◌<◌, ◌≤◌, ◌+◌, ◌^◌, ◌||◌, ◌==◌, if◌then◌else◌, cond, ℕ, Bool, true, false, List, [], ◌∷◌, Option, Some, None, length, codes, refl, sym, ap, subst, ◌∙◌, arith, inl, inr, All, true≢false}
use Rattle.std.specs.Prelude.{IsSome}
use Rattle.std.specs.List.Sorted.{IsStrictlySortedBy}
use Rattle.std.specs.Ordering.{nat_cmp}
use Rattle.std.specs.Cmp.Lexicographic.{slice_cmp}
use Rattle.std.proofs.lemmas.Bool.{eq-eqb, or_cases}
use Rattle.std.proofs.lemmas.List.{append-nil, length-replicate}
use Rattle.std.proofs.lemmas.List.Elements.{All-nil, All-cons}
use Rattle.body_forms.specs.File.{IsFile}
use Rattle.codec_frame.specs.Frame.{Wanted}
use Rattle.disk_model.specs.Disk.{Name, is_among, same}
use Rattle.disk_model.proofs.CellLemmas.{same_true}
use Rattle.file_names.specs.Names.{part_name_of, live_name_of}
use Rattle.file_names.specs.declared.composed.SegPart.{SegPart}
use Rattle.file_names.specs.declared.composed.SegPart.TheVariants.{Docs, Post, Info}
use Rattle.file_names.proofs.NameLaws.{part_name_apart, length-part_name-le}
use Rattle.file_deleter.specs.Holdings.{times}
use Rattle.file_deleter.proofs.NameLemmas.{times-cons}
use Rattle.live_bits.specs.LiveRows.{live_rows}
use Rattle.live_bits.proofs.Editing.{all_live}
use Rattle.segment_infos.specs.declared.infos.SegRecord.{SegRecord}
use Rattle.segment_infos.specs.Files.{files_of_segment}
use Rattle.seg_merge.specs.Given.{File, record_of, first_live_gen, live_file_of}
use Rattle.seg_merge.proofs.Given.{names_ascend}
use Rattle.seg_merge.specs.declared.task.MergeTask.{MergeTask}
use Rattle.seg_merge.specs.declared.task.Merged.{Merged}
use Rattle.seg_merge.specs.Merging.{docs_by_input, all_live_docs, IsMergedOf}
use Rattle.segment_steps.proofs.NextNames.{new_names}
use Rattle.copy_state.specs.States.{AreShortNames}
use Rattle.index_primary.specs.States.{IsFramedFile}
use Rattle.index_primary.specs.Written.{names_of}

-- the names of the parts of a segment
abbrev pub part_names : ℕ → List Name
part_names n = part_name_of n Docs ∷ part_name_of n Post ∷ part_name_of n Info ∷ []

pub part_among : (n : ℕ) (q : Name) → is_among (part_names n) q ≡ true → (which : SegPart) × (q ≡ part_name_of n which)
part_among n q h = elim (or_cases (same (part_name_of n Docs) q) (same (part_name_of n Post) q || (same (part_name_of n Info) q || false)) h) [
  | inl docs ↦ (Docs, sym (same_true (part_name_of n Docs) q docs))
  | inr more ↦ (elim (or_cases (same (part_name_of n Post) q) (same (part_name_of n Info) q || false) more) [
    | inl post ↦ (Post, sym (same_true (part_name_of n Post) q post))
    | inr rest ↦ (elim (or_cases (same (part_name_of n Info) q) false rest) [ inl info ↦ (Info, sym (same_true (part_name_of n Info) q info)) | inr none ↦ absurd (true≢false (sym none)) ])
  ])
]

pub parts_once : (n : ℕ) → n < 2 ^ 64 → (q : Name) → times (part_names n) q ≤ 1
parts_once n small q = by (same (part_name_of n Docs) q) (same (part_name_of n Post) q) (same (part_name_of n Info) q) refl refl refl
  where
    all : times (part_names n) q ≡ cond (same (part_name_of n Docs) q) 1 0 + (cond (same (part_name_of n Post) q) 1 0 + (cond (same (part_name_of n Info) q) 1 0 + 0))
    all =
        let a : times (part_names n) q ≡ cond (same (part_name_of n Docs) q) 1 0 + times (part_name_of n Post ∷ part_name_of n Info ∷ []) q = times-cons (part_name_of n Docs) (part_name_of n Post ∷ part_name_of n Info ∷ []) q in
        let b : times (part_name_of n Post ∷ part_name_of n Info ∷ []) q ≡ cond (same (part_name_of n Post) q) 1 0 + times (part_name_of n Info ∷ []) q = times-cons (part_name_of n Post) (part_name_of n Info ∷ []) q in
        let c : times (part_name_of n Info ∷ []) q ≡ cond (same (part_name_of n Info) q) 1 0 + 0 = times-cons (part_name_of n Info) [] q in
        omega (arith, a, b, c)

    apart : (a b : SegPart) → same (part_name_of n a) q ≡ true → same (part_name_of n b) q ≡ true → a ≡ b
    apart a b e f = (part_name_apart n n a b small small (same_true (part_name_of n a) q e ∙ sym (same_true (part_name_of n b) q f))).1

    one : (which : SegPart) (b : Bool) → same (part_name_of n which) q ≡ b → ◌≡◌ {A = ℕ} (cond (same (part_name_of n which) q) 1 0) (cond b 1 0)
    one which b e = ap (λ (x : Bool). cond x 1 0) e

    none : (which : SegPart) → same (part_name_of n which) q ≡ false → ◌≡◌ {A = ℕ} (cond (same (part_name_of n which) q) 1 0) 0
    none which e = one which false e

    most : (which : SegPart) (b : Bool) → same (part_name_of n which) q ≡ b → cond (same (part_name_of n which) q) 1 0 ≤ 1
    most which true e = let f : ◌≡◌ {A = ℕ} (cond (same (part_name_of n which) q) 1 0) 1 = one which true e in omega (arith, f)
    most which false e = omega (arith, none which e)

    by : (a b c : Bool) → same (part_name_of n Docs) q ≡ a → same (part_name_of n Post) q ≡ b → same (part_name_of n Info) q ≡ c → times (part_names n) q ≤ 1
    by true true c e f g = let two : Docs ≡ Post = apart Docs Post e f in absurd cc
    by true false true e f g = let two : Docs ≡ Info = apart Docs Info e g in absurd cc
    by true false false e f g = omega (arith, all, most Docs true e, none Post f, none Info g)
    by false true true e f g = let two : Post ≡ Info = apart Post Info f g in absurd cc
    by false true false e f g = omega (arith, all, none Docs e, most Post true f, none Info g)
    by false false c e f g = omega (arith, all, none Docs e, none Post f, most Info c g)

framed_file : {X : Type 0} (Spells : List ℕ → X → Type 0) (want : Wanted) (id : List ℕ) (x : X) (bytes : List ℕ) → IsFile Spells want id x bytes
    → want.max < 2 ^ 32 → length want.name < 128 → length want.suffix < 256 → IsFramedFile bytes
framed_file Spells want id x bytes file small name suffix = record { want = want; version = want.min; id = id; body = file.body; framed = file.framed; small = small; short_name = name; short_suffix = suffix }

module _ (task : MergeTask) (merged : Merged) (is : IsMergedOf task merged) where
  -- all of its rows are live, so it has no live file
  all_rows : live_rows merged.files.live ≡ length merged.files.live
  all_rows = ap live_rows is.live ∙ all_live (length merged.from) ∙ sym (ap length is.live ∙ length-replicate (length merged.from) true)

  no_live : first_live_gen merged.files.live ≡ 0
  no_live = ap (λ (b : Bool). cond b 0 1) (eq-eqb (live_rows merged.files.live) (length merged.files.live) all_rows)

  abbrev r : SegRecord
  r = record_of merged.files.seg merged.files.live

  names_by_record : names_of merged.files.files ≡ files_of_segment r
  names_by_record = sym (new_names (Some merged.files) (all_live_docs (docs_by_input task.inputs) task.live, is.built)) ∙ append-nil (files_of_segment r)

  pub merged_names : names_of merged.files.files ≡ part_names merged.files.seg.0
  merged_names = names_by_record
      ∙ ap (λ (g : ℕ). part_name_of merged.files.seg.0 Docs ∷ part_name_of merged.files.seg.0 Post ∷ part_name_of merged.files.seg.0 Info ∷ (if g == 0 then [] else live_name_of merged.files.seg.0 g ∷ [])) no_live

  pub merged_short : merged.files.seg.0 < 2 ^ 64 → AreShortNames (names_of merged.files.files)
  merged_short small = record {
    ascending = subst (IsStrictlySortedBy (slice_cmp nat_cmp)) (sym names_by_record) (names_ascend r);
    short = subst (All (λ (q : Name). length q ≤ 46)) (sym merged_names)
        (All-cons (λ (q : Name). length q ≤ 46) (part_name_of merged.files.seg.0 Docs) (part_name_of merged.files.seg.0 Post ∷ part_name_of merged.files.seg.0 Info ∷ []) (le Docs)
        (All-cons (λ (q : Name). length q ≤ 46) (part_name_of merged.files.seg.0 Post) (part_name_of merged.files.seg.0 Info ∷ []) (le Post)
        (All-cons (λ (q : Name). length q ≤ 46) (part_name_of merged.files.seg.0 Info) [] (le Info) (All-nil (λ (q : Name). length q ≤ 46)))));
  }
    where
      le : (which : SegPart) → length (part_name_of merged.files.seg.0 which) ≤ 46
      le which = omega (arith, length-part_name-le merged.files.seg.0 which small)

  no_file : (o : Option (List ℕ)) → (IsSome o → 0 < first_live_gen merged.files.live) → All (λ (f : File). IsFramedFile f.1) (live_file_of r o)
  no_file None given = All-nil (λ (f : File). IsFramedFile f.1)
  no_file (Some bytes) given = absurd (let lt = given refl in omega (arith, lt, no_live))

  pub merged_framed : All (λ (f : File). IsFramedFile f.1) merged.files.files
  merged_framed =
      let b = is.built in
      let s = b.reads.segment in
      let n : length (codes "NrtDocs") ≡ 7 = refl in
      let m : length (codes "NrtPostings") ≡ 11 = refl in
      let k : length (codes "NrtSegmentInfo") ≡ 14 = refl in
      let rest : List File = live_file_of r b.parts.live in
      subst (All (λ (f : File). IsFramedFile f.1)) (sym b.named)
      (All-cons (λ (f : File). IsFramedFile f.1) (part_name_of merged.files.seg.0 Docs, b.parts.docs) ((part_name_of merged.files.seg.0 Post, b.parts.post) ∷ (part_name_of merged.files.seg.0 Info, b.parts.info) ∷ rest)
      (framed_file _ _ _ _ _ s.docs (omega arith) (omega (arith, n)) (omega arith))
      (All-cons (λ (f : File). IsFramedFile f.1) (part_name_of merged.files.seg.0 Post, b.parts.post) ((part_name_of merged.files.seg.0 Info, b.parts.info) ∷ rest)
      (framed_file _ _ _ _ _ s.post (omega arith) (omega (arith, m)) (omega arith))
      (All-cons (λ (f : File). IsFramedFile f.1) (part_name_of merged.files.seg.0 Info, b.parts.info) rest
      (framed_file _ _ _ _ _ s.info (omega arith) (omega (arith, k)) (omega arith))
      (no_file b.parts.live b.reads.live_file.0))))
