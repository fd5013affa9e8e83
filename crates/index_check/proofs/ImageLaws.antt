-- The directory of the files that were read is the one that they were read from.
use Rattle.std.proofs.Common.{◌≡◌, ◌∙◌, ℕ, List, [], ◌∷◌, map, Bool, true, false, ◌&&◌, ◌||◌, if◌then◌else◌, Some, None, refl, sym, ap, subst}
use Rattle.std.specs.Prelude.{is_some, IsSome}
use Rattle.std.specs.List.{All}
use Rattle.std.specs.List.Sorted.{IsStrictlySortedBy}
use Rattle.std.proofs.lemmas.List.Elements.{All-nil, All-cons, All-head, All-tail}
use Rattle.std.specs.Cmp.Lexicographic.{slice_cmp}
use Rattle.std.specs.Ordering.{nat_cmp}
use Rattle.std.proofs.lemmas.Bool.{or_left, or_right}
use Rattle.std.proofs.lemmas.Slice.Eq.{bytes_eq-Decides}
use Rattle.file_names.specs.Names.{is_ascending, is_less}
use Rattle.disk_model.specs.Disk.{Name, Content, Cells, Image, same, is_among, put, reads_of}
use Rattle.disk_model.specs.Listed.{AreNamesOf}
use Rattle.index_check.specs.Images.{NamedFile, IsImageOf}
use Rattle.index_check.specs.Directory.{after_puts, directory_with}
use Rattle.index_check.specs.ImagesNow.{AreReadAs, IsImageNow}

names_ascend : (files : List NamedFile) → IsStrictlySortedBy (slice_cmp nat_cmp) (map (λ f. f.0) files) → is_ascending (map (λ f. f.0) files) ≡ true
unfolding IsStrictlySortedBy
names_ascend [] sorted = refl
names_ascend (f ∷ []) sorted = refl
names_ascend (f ∷ g ∷ files) sorted = ap (λ (x : _). is_less x && is_ascending (map (λ h. h.0) (g ∷ files))) sorted.0.0 ∙ names_ascend (g ∷ files) sorted.1

-- the names of files that were read ascend
pub files_ascend : (cells : Cells) (reads : Image) (names shown : List Name) (files given : List NamedFile) → shown ≡ names → given ≡ files → AreReadAs reads shown files → AreNamesOf cells names
    → is_ascending (map (λ f. f.0) given) ≡ true
files_ascend cells reads names shown files given same whole read listed =
    ap (λ (fs : List NamedFile). is_ascending (map (λ f. f.0) fs)) whole ∙ names_ascend files (subst (IsStrictlySortedBy (slice_cmp nat_cmp)) (sym (read.called ∙ same)) listed.ascending)

there_of : (reads : Image) (names : List Name) → ((q : Name) → is_among names q ≡ true → IsSome (reads q)) → All (λ q. IsSome (reads q)) names
there_of reads [] each = All-nil (λ q. IsSome (reads q))
there_of reads (a ∷ names) each =
    All-cons (λ q. IsSome (reads q)) a names (each a (or_left (same a a) (is_among names a) ((bytes_eq-Decides a a).1 refl))) (there_of reads names (λ q among. each q (or_right (same a q) (is_among names q) among)))

-- the names of a directory are those of files that are there
pub names_there : (before after : Cells) (names shown : List Name) → after ≡ before → AreNamesOf before names → shown ≡ names → All (λ q. IsSome (reads_of after q)) shown
names_there before after names shown same listed is =
    subst (λ (ns : List Name). All (λ q. IsSome (reads_of after q)) ns) (sym is)
    (subst (λ (cells : Cells). All (λ q. IsSome (reads_of cells q)) names) (sym same) (there_of (reads_of before) names (λ q among. sym (listed.told q) ∙ among)))

abbrev names_in : List NamedFile → List Name
names_in files = map (λ f. f.0) files

-- what stands under a name after these files were put there
stands : (reads image : Image) (files : List NamedFile) (q : Name) → All (λ f. reads f.0 ≡ Some f.1) files
    → after_puts image files q ≡ (if is_among (names_in files) q then reads q else image q)
stands reads image [] q all = refl
stands reads image (f ∷ files) q all =
    stands reads (put image f.0 (Some f.1)) files q (All-tail (λ (g : NamedFile). reads g.0 ≡ Some g.1) f files all) ∙ by_test (same f.0 q) (is_among (names_in files) q) refl
  where
    by_test : (here later : Bool) → same f.0 q ≡ here → (if later then reads q else if here then Some f.1 else image q) ≡ (if here || later then reads q else image q)
    by_test true true is = refl
    by_test true false is = let here : f.0 ≡ q = (bytes_eq-Decides f.0 q).0 is in subst (λ (name : Name). Some f.1 ≡ reads name) here (sym (All-head (λ (g : NamedFile). reads g.0 ≡ Some g.1) f files all))
    by_test false true is = refl
    by_test false false is = refl

whole : (reads : Image) (files : List NamedFile) → All (λ f. reads f.0 ≡ Some f.1) files → ((q : Name) → is_among (names_in files) q ≡ is_some (reads q)) → directory_with files ≡ reads
whole reads files all there = λ i q. each q i
  where
    chosen : (o : Content) → (if is_some o then o else None) ≡ o
    chosen None = refl
    chosen (Some bytes) = refl

    each : (q : Name) → directory_with files q ≡ reads q
    each q = stands reads (λ _. None) files q all ∙ ap (λ (b : Bool). if b then reads q else None) (there q) ∙ chosen (reads q)

-- the image of the files of all names of a directory is its image
pub image_now : (cells : Cells) (names : List Name) (files : List NamedFile) (bytes : List ℕ) → AreReadAs (reads_of cells) names files → AreNamesOf cells names → IsImageOf bytes files
    → IsImageNow (reads_of cells) bytes
image_now cells names files bytes read listed image = record {
  files = files;
  image = image;
  same = whole (reads_of cells) files read.bytes (λ q. ap (λ (ns : List Name). is_among ns q) read.called ∙ listed.told q);
}
