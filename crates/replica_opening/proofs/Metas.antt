-- The metadata of a segment's files, noted one after the other.
use Rattle.std.proofs.Common.{◌≡◌, ◌⊎◌, ◌==◌, ◌+◌, ◌<◌, ◌≤◌, ◌^◌, ℕ, zero, suc, Bool, true, false, List, [], ◌∷◌, ◌++◌, Option, Some, None, cond, refl, sym, ap, subst, ◌∙◌, arith, inl, inr, length, take, get_or, codes, add-one, true≢false}
use Rattle.std.specs.List.{Contains, flat_map, All}
use Rattle.std.specs.Map.{lookup}
use Rattle.std.specs.Map.Calls.{RetainsPairs}
use Rattle.std.proofs.Math.Dec.{ltb as nat_lt}
use Rattle.std.proofs.lemmas.List.Elements.{Contains-append_cases}
use Rattle.std.proofs.lemmas.Bool.Decides.{nat_tests}
use Rattle.std.proofs.lemmas.List.{take_more}
use Rattle.codec_frame.specs.Frame.{Wanted, IsFramed}
use Rattle.segment_infos.specs.Given.{IsFile}
use Rattle.disk_model.specs.Disk.{Name, Content, Cells, same, reads_of}
use Rattle.disk_model.proofs.CellLemmas.{same_true}
use Rattle.file_names.specs.Base36.{base36_of}
use Rattle.file_names.proofs.Base36Lemmas.{spelling_of}
use Rattle.file_names.specs.Names.{part_name_of, live_name_of}
use Rattle.file_names.specs.declared.composed.SegPart.TheVariants.{Docs, Post, Info}
use Rattle.file_deleter.specs.Holdings.{Holdings, count_of}
use Rattle.file_deleter.proofs.NameLemmas.{same_self}
use Rattle.segment_infos.specs.declared.infos.SegRecord.{SegRecord}
use Rattle.segment_infos.specs.Infos.{RecordFits}
use Rattle.segment_infos.specs.Files.{files_of_segment, live_files}
use Rattle.seg_reader.specs.Given.{Format, One, Two, format_number}
use Rattle.seg_reader.specs.declared.parts.SegParts.{SegParts}
use Rattle.seg_reader.specs.Shown.{Shown}
use Rattle.seg_reader.specs.Files.{IsSegmentOf, AreLiveRowsOf}
use Rattle.seg_reader.specs.Stands.{IsLiveFileIn, ArePartsIn}
use Rattle.copy_state.specs.declared.meta.FileMetaData.{FileMetaData}
use Rattle.copy_state.specs.States.{meta_in}
use Rattle.copy_state.proofs.MetaLaws.{framed_readable}
use Rattle.replica_opening.specs.Known.{TellsMeta, KnowsFile, KnowsFiles, LearnsFile, LearnsFiles, HasMeta}

-- ---- the files of a segment tell their metadata
told : {X : Type 0} (Spells : List ℕ → X → Type 0) (want : Wanted) (id : List ℕ) (x : X) (bytes : List ℕ) → IsFile Spells want id x bytes → want.max < 2 ^ 32 → length want.name < 128 → length want.suffix < 256 → TellsMeta bytes
told Spells want id x bytes file small name suffix fits = framed_readable want want.min id file.body bytes small name suffix fits file.framed

low_number : (format : Format) → format_number format < 2 ^ 32
low_number One = omega arith
low_number Two = omega arith

module _ (r : SegRecord) (parts : SegParts) (shown : Shown) (h : IsSegmentOf parts r shown) where
  pub told_docs : TellsMeta parts.docs
  told_docs = let n : length (codes "NrtDocs") ≡ 7 = refl in told _ _ _ _ parts.docs h.docs (omega arith) (omega (arith, n)) (omega arith)

  pub told_post : TellsMeta parts.post
  told_post = let n : length (codes "NrtPostings") ≡ 11 = refl in told _ _ _ _ parts.post h.post (low_number h.format) (omega (arith, n)) (omega arith)

  pub told_info : TellsMeta parts.info
  told_info = let n : length (codes "NrtSegmentInfo") ≡ 14 = refl in told _ _ _ _ parts.info h.info (omega arith) (omega (arith, n)) (omega arith)

  pub told_live : RecordFits r → (bytes : List ℕ) → parts.live ≡ Some bytes → TellsMeta bytes
  told_live fits bytes is = by (subst (λ (live : Option (List ℕ)). AreLiveRowsOf live r shown.live) is h.live)
    where
      by : AreLiveRowsOf (Some bytes) r shown.live → TellsMeta bytes
      by rows = let n : length (codes "NrtLive") ≡ 7 = refl in let few : length (base36_of r.live_gen) ≤ 13 = (spelling_of r.live_gen fits.live_gen).few in
          told _ _ _ _ bytes rows.0 (omega arith) (omega (arith, n)) (omega (arith, few))

-- ---- what is learned of them
one_at : (x q : Name) (i : ℕ) → i < length (x ∷ []) → get_or (x ∷ []) i q ≡ q → x ≡ q
one_at x q zero lt is = is
one_at x q (suc i) lt is = absurd (omega (arith, lt))

module _ (reads : Name → Content) where
  learned_has : (name : Name) (bytes : List ℕ) (old new : List (Name × FileMetaData)) → reads name ≡ Some bytes → LearnsFile name bytes old new → (q : Name) → (b : Bool) → same name q ≡ b → (name ≡ q) ⊎ KnowsFile reads old q → KnowsFile reads new q
  learned_has name bytes old new there l q true e was = record {
    meta = l.meta;
    known_is = l.learns q ∙ ap (λ b. cond b (Some l.meta) (meta_in old q)) e;
    has = subst (λ (x : Name). HasMeta reads x l.meta) (same_true name q e) (record { bytes = bytes; there = there; meta_is = l.meta_is });
  }
  learned_has name bytes old new there l q false e (inl is) = absurd (apart e)
    where
      apart : same name q ≡ false → ⊥
      apart e = true≢false (sym (ap (same name) (sym is) ∙ same_self name) ∙ e)
  learned_has name bytes old new there l q false e (inr knows) = record {
    meta = knows.meta;
    known_is = l.learns q ∙ ap (λ b. cond b (Some l.meta) (meta_in old q)) e ∙ knows.known_is;
    has = knows.has;
  }

  learns_one : (name : Name) (bytes : List ℕ) (old new : List (Name × FileMetaData)) → reads name ≡ Some bytes → LearnsFile name bytes old new → LearnsFiles reads (name ∷ []) old new
  learns_one name bytes old new there l = record {
    files = record { each = λ q c. learned_has name bytes old new there l q (same name q) refl (inl (one_at name q c.0 c.1 c.2)) };
    kept = λ q knows. learned_has name bytes old new there l q (same name q) refl (inr knows);
  }

  pub learns_then : (xs ys : List Name) (a b c : List (Name × FileMetaData)) → LearnsFiles reads xs a b → LearnsFiles reads ys b c → LearnsFiles reads (xs ++ ys) a c
  learns_then xs ys a b c first next = record {
    files = record { each = λ q there. elim (Contains-append_cases xs ys q there) [ inl h ↦ next.kept q (first.files.each q h) | inr h ↦ next.files.each q h ] };
    kept = λ q knows. next.kept q (first.kept q knows);
  }

  learns_none : (names : List Name) (a : List (Name × FileMetaData)) → names ≡ [] → LearnsFiles reads names a a
  learns_none names a e = record { files = record { each = λ q c. absurd (let z : length names ≡ 0 = ap length e in omega (arith, z, c.1)) }; kept = λ q knows. knows }

  module _ (r : SegRecord) (parts : SegParts) (is : ArePartsIn reads r parts) (a b c d : List (Name × FileMetaData)) (docs : LearnsFile (part_name_of r.seg.0 Docs) parts.docs a b)
      (post : LearnsFile (part_name_of r.seg.0 Post) parts.post b c) (info : LearnsFile (part_name_of r.seg.0 Info) parts.info c d) where
    parts_then : (e : List (Name × FileMetaData)) → LearnsFiles reads (live_files r) d e → LearnsFiles reads (files_of_segment r) a e
    parts_then e live =
        learns_then (part_name_of r.seg.0 Docs ∷ []) (part_name_of r.seg.0 Post ∷ part_name_of r.seg.0 Info ∷ live_files r) a b e (learns_one (part_name_of r.seg.0 Docs) parts.docs a b is.docs docs)
        (learns_then (part_name_of r.seg.0 Post ∷ []) (part_name_of r.seg.0 Info ∷ live_files r) b c e (learns_one (part_name_of r.seg.0 Post) parts.post b c is.post post)
        (learns_then (part_name_of r.seg.0 Info ∷ []) (live_files r) c d e (learns_one (part_name_of r.seg.0 Info) parts.info c d is.info info) live))

    pub learns_parts : parts.live ≡ None → LearnsFiles reads (files_of_segment r) a d
    learns_parts none =
        let zero_gen : r.live_gen ≡ 0 = subst (λ (live : Option (List ℕ)). IsLiveFileIn reads r live) none is.live in
        let test : (r.live_gen == 0) ≡ true = grind (arith, nat_tests, zero_gen) in
        parts_then d (learns_none (live_files r) d (ap (λ t. cond t [] (live_name_of r.seg.0 r.live_gen ∷ [])) test))

    pub learns_all : (bytes : List ℕ) (e : List (Name × FileMetaData)) → parts.live ≡ Some bytes → LearnsFile (live_name_of r.seg.0 r.live_gen) bytes d e → LearnsFiles reads (files_of_segment r) a e
    learns_all bytes e some live =
        let h : (0 < r.live_gen) × (reads (live_name_of r.seg.0 r.live_gen) ≡ Some bytes) = subst (λ (l : Option (List ℕ)). IsLiveFileIn reads r l) some is.live in
        let above : 0 < r.live_gen = h.0 in
        let test : (r.live_gen == 0) ≡ false = grind (arith, nat_tests, above) in
        parts_then e (subst (λ (names : List Name). LearnsFiles reads names d e) (sym (ap (λ t. cond t [] (live_name_of r.seg.0 r.live_gen ∷ [])) test)) (learns_one (live_name_of r.seg.0 r.live_gen) bytes d e h.1 live))

-- what is known of a file that reads the same
pub knows_along : (before after : Name → Content) (known : List (Name × FileMetaData)) (q : Name) → after q ≡ before q → KnowsFile before known q → KnowsFile after known q
knows_along before after known q same_reads knows = record {
  meta = knows.meta;
  known_is = knows.known_is;
  has = record { bytes = knows.has.bytes; there = same_reads ∙ knows.has.there; meta_is = knows.has.meta_is };
}

-- ---- the segments of a point
pub knows_more : (a b : Cells) (records : List SegRecord) (i : ℕ) (d : SegRecord) (old new : List (Name × FileMetaData)) → b ≡ a → i < length records → KnowsFiles (reads_of a) (flat_map files_of_segment (take i records)) old
    → LearnsFiles (reads_of b) (files_of_segment (get_or records i d)) old new → KnowsFiles (reads_of a) (flat_map files_of_segment (take (i + 1) records)) new
knows_more a b records i d old new same_cells lt was next_b =
    let next : LearnsFiles (reads_of a) (files_of_segment (get_or records i d)) old new = subst (λ (c : Cells). LearnsFiles (reads_of c) (files_of_segment (get_or records i d)) old new) same_cells next_b in
    subst (λ (rs : List SegRecord). KnowsFiles (reads_of a) (flat_map files_of_segment rs) new) (sym (take_more records i d lt))
    (subst (λ (names : List Name). KnowsFiles (reads_of a) names new) (sym (flat_more (take i records) (get_or records i d)))
    (record { each = λ q there. elim (Contains-append_cases (flat_map files_of_segment (take i records)) (files_of_segment (get_or records i d)) q there) [ inl h ↦ next.kept q (was.each q h) | inr h ↦ next.files.each q h ] }))
  where
    flat_more : (rs : List SegRecord) (r : SegRecord) → flat_map files_of_segment (rs ++ r ∷ []) ≡ flat_map files_of_segment rs ++ files_of_segment r
    flat_more [] r = append_nil (files_of_segment r)
      where
        append_nil : (xs : List Name) → xs ++ [] ≡ xs
        append_nil [] = refl
        append_nil (x ∷ xs) = ap (λ (ys : List Name). x ∷ ys) (append_nil xs)
    flat_more (x ∷ xs) r = ap (λ (ys : List Name). files_of_segment x ++ ys) (flat_more xs r) ∙ append_twice (files_of_segment x) (flat_map files_of_segment xs) (files_of_segment r)
      where
        append_twice : (xs ys zs : List Name) → xs ++ (ys ++ zs) ≡ (xs ++ ys) ++ zs
        append_twice [] ys zs = refl
        append_twice (x ∷ xs) ys zs = ap (λ (ws : List Name). x ∷ ws) (append_twice xs ys zs)

-- ---- what is forgotten
module _ {F : Type 0} (T : F → Name → FileMetaData → Bool → FileMetaData → F → Type 0) (held_by : F → Holdings)
    (says : (f : F) (k : Name) (v : FileMetaData) (b : Bool) (w : FileMetaData) (g : F) → T f k v b w g → (w ≡ v) × (b ≡ nat_lt 0 (count_of (held_by f) k)) × (held_by g ≡ held_by f)) where
  pub held_kept : (entries kept : List (Name × FileMetaData)) (f : F) → RetainsPairs T f entries kept → (q : Name) → 0 < count_of (held_by f) q → meta_in kept q ≡ meta_in entries q
  held_kept [] kept f h q some = ap (λ (ks : List (Name × FileMetaData)). meta_in ks q) h
  held_kept (e ∷ entries) kept f h q some =
      let s = says f e.0 e.1 h.0 h.1 h.2 h.4 in
      let rest : meta_in h.3 q ≡ meta_in entries q = held_kept entries h.3 h.2 h.5 q (subst (λ (files : Holdings). 0 < count_of files q) (sym s.2) some) in
      ap (λ (ks : List (Name × FileMetaData)). meta_in ks q) h.6 ∙ by h.0 s.1 (same q e.0) refl rest (ap Some s.0)
    where
      by : (b : Bool) → b ≡ nat_lt 0 (count_of (held_by f) e.0) → (t : Bool) → same q e.0 ≡ t → meta_in h.3 q ≡ meta_in entries q → ◌≡◌ {A = Option FileMetaData} (Some h.1) (Some e.1)
          → meta_in (cond b ((e.0, h.1) ∷ h.3) h.3) q ≡ cond (same q e.0) (Some e.1) (meta_in entries q)
      by true held true t rest value = ap (λ x. cond x (Some h.1) (meta_in h.3 q)) t ∙ value ∙ ap (λ x. cond x (Some e.1) (meta_in entries q)) (sym t)
      by true held false t rest value = ap (λ x. cond x (Some h.1) (meta_in h.3 q)) t ∙ rest ∙ ap (λ x. cond x (Some e.1) (meta_in entries q)) (sym t)
      by false held true t rest value =
          let at : count_of (held_by f) q ≡ count_of (held_by f) e.0 = ap (count_of (held_by f)) (same_true q e.0 t) in
          let not_less : nat_lt 0 (count_of (held_by f) e.0) ≡ false = sym held in
          absurd (grind (arith, nat_tests, some, at, not_less))
      by false held false t rest value = rest ∙ ap (λ x. cond x (Some e.1) (meta_in entries q)) (sym t)
