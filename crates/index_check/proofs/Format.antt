-- The images that bytes are, as a format.
use Rattle.std.proofs.Common.{◌≡◌, ℕ, ◌+◌, ◌<◌, ◌≤◌, true, false, cond, List, [], ◌∷◌, ◌++◌, length, get_or, take, drop, map, Some, None, refl, sym, ap, subst, ◌∙◌, append_assoc, arith, length-append, length-take, take-append-drop}
use Rattle.std.specs.Prelude.{◌^◌, ◌==◌, IsTrue, nat_lt, nat_le}
use Rattle.std.specs.List.{All, flat_map, list_all}
use Rattle.std.specs.Ordering.{nat_cmp}
use Rattle.std.specs.Cmp.Lexicographic.{slice_cmp}
use Rattle.std.proofs.lemmas.List.{append-nil, take_at, drop_at, drop_more}
use Rattle.std.proofs.lemmas.List.Elements.{All-cons, All-nil, All-head, All-tail}
use Rattle.std.proofs.lemmas.Bool.{and_parts, and_from, ltb-false, le-ltb, leb-true, eqb-true}
use Rattle.std.proofs.lemmas.Option.{some_pair_parts, same_Some, none-some}
use Rattle.file_names.specs.Names.{is_name_byte, is_file_name, is_less, is_ascending}
use Rattle.nrt_base.specs.Bytes.{is_between}
use Rattle.codec_frame.specs.Bytes.{AreBytes}
use Rattle.body_forms.specs.Format.{Read, ◌>>=◌, Takes, IsFormat, chain, ChainFits, chain_at, then_at, counted_at}
use Rattle.body_forms.specs.Numbers.{u32_bytes, u32_at, string, string_at}
use Rattle.body_forms.proofs.Formats.{AreBytes-drop, bind_some, passed, not_stopped, then_format, counted_format, chain_format, tested_format}
use Rattle.body_forms.proofs.NumberLaws.{u32_format}
use Rattle.body_forms.proofs.Numerals.{string_format}
use Rattle.index_check.specs.Images.{NamedFile, sized, file_bytes, image_bytes, FileFits, IsImageOf, IsNoImage}
use Rattle.index_check.specs.Reading.{sized_at, may_follow, image_file_at, image_files_at, whole_of, held_image}

-- ---- bytes behind their length
abbrev text_from : ℕ × List ℕ → Read (List ℕ)
text_from n = cond (nat_lt (length n.1) n.0) None (Some (take n.0 n.1, drop n.0 n.1))

sized_again : (t rest : List ℕ) → length t < 2 ^ 32 → sized_at (sized t ++ rest) ≡ Some (t, rest)
unfolding sized_at
sized_again t rest h =
    let long : nat_lt (length (t ++ rest)) (length t) ≡ false = le-ltb (length (t ++ rest)) (length t) (omega (arith, length-append t rest)) in
    ap (λ (x : List ℕ). u32_at x >>= text_from) (append_assoc (u32_bytes (length t)) t rest)
    ∙ ap (λ (r : Read ℕ). r >>= text_from) (u32_format.again (length t) (t ++ rest) h)
    ∙ rw (long, take_at t rest, drop_at t rest) refl

sized_takes : (bytes t rest : List ℕ) → AreBytes bytes → sized_at bytes ≡ Some (t, rest) → Takes bytes (sized t) rest × (length t < 2 ^ 32)
unfolding sized_at
sized_takes bytes t rest fits e =
    let r = bind_some (u32_at bytes) text_from (t, rest) e in
    let n = r.0.0 in
    let after = r.0.1 in
    let s = not_stopped (nat_lt (length after) n) (Some (take n after, drop n after)) (t, rest) r.2 in
    let q = some_pair_parts (take n after) t (drop n after) rest s.1 in
    let v = u32_format.takes bytes n after fits r.1 in
    let le : n ≤ length after = ltb-false _ _ s.0 in
    let len : length t ≡ n = sym (ap length q.0) ∙ omega (arith, length-take n after) in
    let front : u32_bytes n ≡ u32_bytes (length t) = ap u32_bytes (sym len) in
    let split : after ≡ t ++ rest = sym (take-append-drop n after) ∙ ap (λ (x : List ℕ). x ++ drop n after) q.0 ∙ ap (λ (x : List ℕ). t ++ x) q.1 in (
      record {
        parts = v.0.parts ∙ ap (λ (x : List ℕ). u32_bytes n ++ x) split ∙ ap (λ (x : List ℕ). x ++ (t ++ rest)) front ∙ sym (append_assoc (u32_bytes (length t)) t rest);
        rest_fits = subst AreBytes q.1 (AreBytes-drop n after v.0.rest_fits);
      },
      omega (arith, len, v.1),
    )

abbrev Small : List ℕ → Type 0
Small t = length t < 2 ^ 32

sized_format : IsFormat sized Small sized_at
sized_format = record { again = sized_again; takes = sized_takes }

-- ---- a file
abbrev Follows : List ℕ → NamedFile → Type 0
Follows before f = may_follow before f ≡ true

abbrev PartsFit : NamedFile → Type 0
PartsFit f = Small f.0 × Small f.1

file_format : (before : List ℕ) → IsFormat file_bytes (λ f. Follows before f × PartsFit f) (image_file_at before)
unfolding image_file_at
file_format before =
    tested_format file_bytes PartsFit (then_at string_at (λ _. sized_at)) (may_follow before) (Follows before)
    (then_format string Small string_at (λ _. sized) (λ _. Small) (λ _. sized_at) string_format (λ _ _. sized_format)) (λ _ h. h) (λ _ h. h)

-- ---- the files
abbrev files_bytes : List ℕ → List NamedFile → List ℕ
files_bytes before files = chain (λ _ f. file_bytes f) (λ f. f.0) before files

abbrev AllFollow : List ℕ → List NamedFile → Type 0
AllFollow before files = ChainFits (λ k f. Follows k f × PartsFit f) (λ f. f.0) before files

counted_files : IsFormat (λ files. u32_bytes (length files) ++ files_bytes [] files) (λ files. (length files < 2 ^ 32) × AllFollow [] files) (counted_at u32_at image_files_at)
unfolding image_files_at
counted_files =
    counted_format u32_bytes (λ n. n < 2 ^ 32) u32_at (files_bytes []) (AllFollow []) (λ n bytes. chain_at image_file_at (λ f. f.0) n [] bytes) u32_format
    (λ n _. chain_format (λ _ f. file_bytes f) (λ k f. Follows k f × PartsFit f) image_file_at (λ f. f.0) file_format n [])

flat_files : (before : List ℕ) (files : List NamedFile) → files_bytes before files ≡ flat_map file_bytes files
flat_files before [] = refl
flat_files before (f ∷ files) = ap (λ (x : List ℕ). file_bytes f ++ x) (flat_files f.0 files)

image_bytes-is : (files : List NamedFile) → u32_bytes (length files) ++ files_bytes [] files ≡ image_bytes files
unfolding image_bytes
image_bytes-is files = ap (λ (x : List ℕ). u32_bytes (length files) ++ x) (flat_files [] files)

-- ---- what the tests say

name_is_short : (t : List ℕ) → is_file_name t ≡ true → Small t
name_is_short t h =
    let p = and_parts (is_between 1 64 (length t)) (list_all is_name_byte t) h in
    let q = and_parts (nat_le 1 (length t)) (nat_le (length t) 64) p.0 in
    let le : length t ≤ 64 = leb-true (length t) 64 q.1 in
    omega (arith, le)

-- the files may follow a name: each fits, and the names ascend from there
pub record MayFollow (before : List ℕ) (files : List NamedFile) : Type 0 where
  pub fit : All FileFits files
  pub ascending : is_ascending (before ∷ map (λ f. f.0) files) ≡ true

follow : (before : List ℕ) (files : List NamedFile) → AllFollow before files → MayFollow before files
follow before [] h = record { fit = All-nil FileFits; ascending = refl }
follow before (f ∷ files) h =
    let p = and_parts (is_file_name f.0) (is_less (slice_cmp nat_cmp before f.0)) h.0.0 in
    let rest = follow f.0 files h.1 in
    record {
      fit = All-cons FileFits f files (record { name = p.0; small = h.0.1.1 }) rest.fit;
      ascending = and_from (is_less (slice_cmp nat_cmp before f.0)) (is_ascending (f.0 ∷ map (λ g. g.0) files)) p.1 rest.ascending;
    }

all_follow : (before : List ℕ) (files : List NamedFile) → MayFollow before files → AllFollow before files
all_follow before [] h = tt
all_follow before (f ∷ files) h =
    let fits = All-head FileFits f files h.fit in
    let p = and_parts (is_less (slice_cmp nat_cmp before f.0)) (is_ascending (f.0 ∷ map (λ g. g.0) files)) h.ascending in (
      (and_from (is_file_name f.0) (is_less (slice_cmp nat_cmp before f.0)) fits.name p.0, (name_is_short f.0 fits.name, fits.small)),
      all_follow f.0 files (record { fit = All-tail FileFits f files h.fit; ascending = p.1 }),
    )

-- the first name is above no name
from_first : (files : List NamedFile) → All FileFits files → is_ascending (map (λ f. f.0) files) ≡ true → is_ascending ([] ∷ map (λ f. f.0) files) ≡ true
from_first [] fit h = refl
from_first (f ∷ files) fit h = and_from (is_less (slice_cmp nat_cmp [] f.0)) (is_ascending (f.0 ∷ map (λ g. g.0) files)) (above f.0 (All-head FileFits f files fit).name) h
  where
    above : (t : List ℕ) → is_file_name t ≡ true → is_less (slice_cmp nat_cmp [] t) ≡ true
    above [] e = absurd cc
    above (b ∷ t) e = refl

without_first : (files : List NamedFile) → is_ascending ([] ∷ map (λ f. f.0) files) ≡ true → is_ascending (map (λ f. f.0) files) ≡ true
without_first [] h = refl
without_first (f ∷ files) h = (and_parts (is_less (slice_cmp nat_cmp [] f.0)) (is_ascending (f.0 ∷ map (λ g. g.0) files)) h).1

-- ---- the image
ends : (x : List NamedFile × List ℕ) (files : List NamedFile) → whole_of x ≡ Some files → (x.0 ≡ files) × (x.1 ≡ [])
ends x files e =
    let p = passed (length x.1 == 0) (Some x.0) files e in
    (same_Some x.0 files p.1, none_left x.1 (eqb-true (length x.1) 0 p.0))
  where
    none_left : (rest : List ℕ) → length rest ≡ 0 → rest ≡ []
    none_left [] h = refl
    none_left (b ∷ rest) h = absurd (omega arith)

-- what is read is what the bytes are the image of
pub read_image : (bytes : List ℕ) (files : List NamedFile) → AreBytes bytes → held_image bytes ≡ Some files → IsImageOf bytes files
unfolding held_image
read_image bytes files fits e =
    let a = bind_some (u32_at bytes) (λ n. image_files_at n.0 n.1 >>= whole_of) files e in
    let b = bind_some (image_files_at a.0.0 a.0.1) whole_of files a.2 in
    let c = ends b.0 files b.2 in
    let read : counted_at u32_at image_files_at bytes ≡ Some b.0 = ap (λ (r : Read ℕ). r >>= λ n. image_files_at n.0 n.1) a.1 ∙ b.1 in
    let t = counted_files.takes bytes b.0.0 b.0.1 fits read in
    let own : AllFollow [] files = subst (AllFollow []) c.0 t.1.1 in
    let may = follow [] files own in
    record {
      few = subst (λ (fs : List NamedFile). length fs < 2 ^ 32) c.0 t.1.0;
      fit = may.fit;
      ascending = without_first files may.ascending;
      whole = t.0.parts ∙ ap (λ (rest : List ℕ). (u32_bytes (length b.0.0) ++ files_bytes [] b.0.0) ++ rest) c.1 ∙ append-nil (u32_bytes (length b.0.0) ++ files_bytes [] b.0.0)
          ∙ ap (λ (fs : List NamedFile). u32_bytes (length fs) ++ files_bytes [] fs) c.0 ∙ image_bytes-is files;
    }

-- and the image of files is read as these
pub image_again : (bytes : List ℕ) (files : List NamedFile) → IsImageOf bytes files → held_image bytes ≡ Some files
unfolding held_image
image_again bytes files is =
    let own : AllFollow [] files = all_follow [] files (record { fit = is.fit; ascending = from_first files is.fit is.ascending }) in
    let read : counted_at u32_at image_files_at ((u32_bytes (length files) ++ files_bytes [] files) ++ []) ≡ Some (files, []) = counted_files.again files [] (is.few, own) in
    let same : bytes ≡ (u32_bytes (length files) ++ files_bytes [] files) ++ [] = is.whole ∙ sym (image_bytes-is files) ∙ sym (append-nil (u32_bytes (length files) ++ files_bytes [] files)) in
    regrouped (u32_at bytes) ∙ ap (λ (r : Read (List NamedFile)). r >>= whole_of) (ap (counted_at u32_at image_files_at) same ∙ read)
  where
    regrouped : (r : Read ℕ) → (r >>= λ n. image_files_at n.0 n.1 >>= whole_of) ≡ ((r >>= λ n. image_files_at n.0 n.1) >>= whole_of)
    regrouped (Some n) = refl
    regrouped None = refl

pub no_image : (bytes : List ℕ) → held_image bytes ≡ None → IsNoImage bytes
no_image bytes e files is = none-some files (sym e ∙ image_again bytes files is)

pub one_image : (bytes : List ℕ) (a b : List NamedFile) → held_image bytes ≡ Some a → IsImageOf bytes b → a ≡ b
one_image bytes a b e is = same_Some a b (sym e ∙ image_again bytes b is)

-- ---- writing
pub image_written : (files : List NamedFile) (none counted out : List ℕ) (count : ℕ) → none ≡ [] → counted ≡ none ++ u32_bytes count → out ≡ counted ++ flat_map file_bytes files
    → count ≡ length files → length files < 2 ^ 32 → All FileFits files → IsTrue (is_ascending (map (λ f. f.0) files)) → IsImageOf out files
unfolding image_bytes
image_written files none counted out count z n p same few fit ascending = record {
  few = few;
  fit = fit;
  ascending = ascending;
  whole = p ∙ ap (λ (x : List ℕ). x ++ flat_map file_bytes files) (n ∙ ap (λ (x : List ℕ). x ++ u32_bytes count) z ∙ ap u32_bytes same);
}

pub one_more : (files : List NamedFile) (i : ℕ) (f : NamedFile) (before out more : List ℕ) → i < length files → f ≡ get_or files i f → more ≡ out ++ file_bytes f → FileFits f
    → out ++ flat_map file_bytes (drop i files) ≡ before ++ flat_map file_bytes files → (All FileFits (drop i files) → All FileFits files)
    → (more ++ flat_map file_bytes (drop (i + 1) files) ≡ before ++ flat_map file_bytes files) × (All FileFits (drop (i + 1) files) → All FileFits files)
one_more files i f before out more lt is e fits bytes all =
    let split : drop i files ≡ f ∷ drop (i + 1) files = drop_more files i f lt ∙ ap (λ (g : NamedFile). g ∷ drop (i + 1) files) (sym is) in (
      ap (λ (x : List ℕ). x ++ flat_map file_bytes (drop (i + 1) files)) e ∙ append_assoc out (file_bytes f) (flat_map file_bytes (drop (i + 1) files))
          ∙ ap (λ (fs : List NamedFile). out ++ flat_map file_bytes fs) (sym split) ∙ bytes,
      λ rest. all (subst (All FileFits) (sym split) (All-cons FileFits f (drop (i + 1) files) fits rest)),
    )
