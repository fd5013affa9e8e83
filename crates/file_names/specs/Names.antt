-- The names of files: which there are, and which names are those of commits and of stored documents.
use Rattle.std.specs.Prelude.{ℕ, ◌≡◌, ◌<◌, ◌≤◌, ◌+◌, ◌^◌, ◌⊎◌, List, [], ◌∷◌, ◌++◌, Bool, true, false, ◌&&◌, not, ◌==◌, nat_eq, nat_lt, codes, take, drop, if◌then◌else◌, Option, Some, None, ◌||◌, length, position}
use Rattle.std.specs.List.{list_all, starts_with, ends_with}
use Rattle.std.specs.Ordering.{nat_cmp}
use Rattle.std.specs.Cmp.Lexicographic.{slice_cmp}
use Rattle.std.specs.declared.cmp.Ordering.{Ordering}
use Rattle.std.specs.declared.cmp.Ordering.TheVariants.{Less, Equal, Greater}
use Rattle.file_names.specs.Base36.{is_base36_digit, base36_value, base36_of}
use Rattle.file_names.specs.declared.composed.SegPart.{SegPart}
use Rattle.file_names.specs.declared.composed.SegPart.TheVariants.{Docs, Post, Info}
use Rattle.nrt_base.specs.Bytes.{is_between, is_word_byte}

-- a byte that a file's name may have: a small letter, a digit, `_` or `.`
abbrev pub is_name_byte : ℕ → Bool
is_name_byte b = is_word_byte b || (nat_eq b 95 || nat_eq b 46)

-- 1 to 64 bytes that a file's name may have
abbrev pub is_file_name : List ℕ → Bool
is_file_name bytes = is_between 1 64 (length bytes) && list_all is_name_byte bytes

-- the bytes are this many, more than a file's name may have
abbrev pub IsTooLong : ℕ → List ℕ → Type 0
IsTooLong n bytes = (64 < length bytes) × (n ≡ length bytes)

-- of bytes that are not too many, the first that no file's name may have stands at this place
abbrev pub IsRefusedByte : ℕ → List ℕ → Type 0
IsRefusedByte at bytes = (length bytes ≤ 64) × (position (λ b. not (is_name_byte b)) bytes ≡ Some at)

-- the ending of a part's name
abbrev pub part_ending : SegPart → List ℕ
part_ending Docs = codes ".docs"
part_ending Post = codes ".post"
part_ending Info = codes ".si"

-- the name of a part of a segment: `_S.docs`, `_S.post` or `_S.si`
abbrev pub part_name_of : ℕ → SegPart → List ℕ
part_name_of seg part = codes "_" ++ base36_of seg ++ part_ending part

-- the name of a segment's live rows: `_S_G.liv`
abbrev pub live_name_of : ℕ → ℕ → List ℕ
live_name_of seg live_gen = codes "_" ++ base36_of seg ++ codes "_" ++ base36_of live_gen ++ codes ".liv"

-- the name of a commit: `segments_N`
abbrev pub commit_name_of : ℕ → List ℕ
commit_name_of n = codes "segments_" ++ base36_of n

-- the name of a commit in preparation: `pending_segments_N`
abbrev pub pending_name_of : ℕ → List ℕ
pending_name_of n = codes "pending_segments_" ++ base36_of n

-- the temporary name of a file in a job: `NAME_J.tmp`
abbrev pub temp_name_of : List ℕ → ℕ → List ℕ
temp_name_of name job = name ++ codes "_" ++ base36_of job ++ codes ".tmp"

-- the name `_N` and an ending
abbrev pub marked_name : ℕ → List ℕ → List ℕ
marked_name n ending = codes "_" ++ base36_of n ++ ending

-- the name `FRONT_N` and an ending
abbrev pub numbered_name : List ℕ → ℕ → List ℕ → List ℕ
numbered_name front n ending = front ++ codes "_" ++ base36_of n ++ ending

-- no `_` is among the bytes
abbrev pub is_unmarked : List ℕ → Bool
is_unmarked bytes = list_all (λ b. not (nat_eq b 95)) bytes

-- the last `_` of the bytes stands at this place
abbrev pub IsLastMark : List ℕ → ℕ → Type 0
IsLastMark bytes at = (at < length bytes) × (bytes ≡ take at bytes ++ 95 ∷ drop (at + 1) bytes) × (is_unmarked (drop (at + 1) bytes) ≡ true)

-- the name of a segment's live rows, in some generation
abbrev pub IsLiveNameOf : ℕ → List ℕ → Type 0
IsLiveNameOf seg name = (live_gen : ℕ) × (live_gen < 2 ^ 64) × (name ≡ live_name_of seg live_gen)

-- the name of a file of a segment: of a part of it, or of its live rows in some generation
abbrev pub IsFileOfSegment : ℕ → List ℕ → Type 0
IsFileOfSegment seg name =
    (seg < 2 ^ 64)
    × (((part : SegPart) × (name ≡ part_name_of seg part)) ⊎ IsLiveNameOf seg name)

-- the temporary name of a file of a segment in some job
abbrev pub IsTemporaryOfSegment : ℕ → List ℕ → Type 0
IsTemporaryOfSegment seg name =
    (file : List ℕ) × (job : ℕ) × IsFileOfSegment seg file × (job < 2 ^ 64) × (name ≡ temp_name_of file job)

-- the digits spell a number from 1 to below 2^62, without leading zeros
abbrev pub is_commit_number : List ℕ → Bool
is_commit_number [] = false
is_commit_number (b ∷ digits) = not (b == 48) && list_all is_base36_digit (b ∷ digits) && nat_lt (base36_value (b ∷ digits)) (2 ^ 62)

-- the number of a commit that the digits spell, and nothing where they spell none
abbrev pub number_of_digits : List ℕ → Option ℕ
number_of_digits digits = if is_commit_number digits then Some (base36_value digits) else None

-- the number of a commit that stands behind these letters and ends the name, and nothing for any other name
abbrev pub number_behind : List ℕ → List ℕ → Option ℕ
number_behind letters name =
    if starts_with nat_eq name letters && is_commit_number (drop (length letters) name)
    then Some (base36_value (drop (length letters) name))
    else None

-- the name of an acknowledged commit: `segments_N`, N in base 36
abbrev pub is_commit_name : List ℕ → Bool
is_commit_name name = starts_with nat_eq name (codes "segments_") && is_commit_number (drop 9 name)

-- the number in the name of a commit
abbrev pub commit_number : List ℕ → ℕ
commit_number name = base36_value (drop 9 name)

-- the name of a commit in preparation: `pending_segments_N`, N in base 36
abbrev pub is_pending_name : List ℕ → Bool
is_pending_name name = starts_with nat_eq name (codes "pending_segments_") && is_commit_number (drop 17 name)

-- the number in the name of a commit in preparation
abbrev pub pending_number : List ℕ → ℕ
pending_number name = base36_value (drop 17 name)

-- the number of a commit's name, and nothing for any other name
abbrev pub number_of_commit : List ℕ → Option ℕ
number_of_commit name = if is_commit_name name then Some (commit_number name) else None

-- the number of the name of a commit in preparation, and nothing for any other name
abbrev pub number_of_pending : List ℕ → Option ℕ
number_of_pending name = if is_pending_name name then Some (pending_number name) else None

-- the name of stored documents: it ends in `.docs`
abbrev pub is_documents_name : List ℕ → Bool
is_documents_name name = ends_with nat_eq name (codes ".docs")

abbrev pub is_less : Ordering → Bool
is_less Less = true
is_less Equal = false
is_less Greater = false

-- each name is above the one before it, in the order of their bytes
abbrev pub is_ascending : List (List ℕ) → Bool
is_ascending [] = true
is_ascending (a ∷ []) = true
is_ascending (a ∷ b ∷ names) = is_less (slice_cmp nat_cmp a b) && is_ascending (b ∷ names)
