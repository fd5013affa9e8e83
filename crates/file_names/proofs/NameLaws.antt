-- The names of files are names, and no two things have one name.
use Rattle.std.proofs.Common.{◌≡◌, ℕ, ◌+◌, ◌-◌, ◌*◌, ◌^◌, ◌<◌, ◌≤◌, ◌⊎◌, Bool, true, false, not, ◌&&◌, nat_lt, nat_eq, List, [], ◌∷◌, ◌++◌, length, take, drop, codes, refl, sym, ap, ◌∙◌, arith, inl, inr}
use Rattle.std.specs.List.{list_all, starts_with, ends_with}
use Rattle.std.proofs.lemmas.Bool.{cases_eq, lt-ltb, and_parts, and_from, false_from_ne_true}
use Rattle.std.proofs.lemmas.Bool.Decides.{nat_tests}
use Rattle.std.proofs.lemmas.Slice.Eq.{bytes_eq-Decides}
use borrow.Author.Tests.{ltb-true}
use Rattle.std.proofs.lemmas.List.{append_assoc, append_cancel_left, append_cancel_right, length-append, drop_at, take-append-drop}
use Rattle.file_names.specs.Names.{is_name_byte, is_file_name}
use Rattle.file_names.specs.declared.composed.SegPart.{SegPart}
use Rattle.file_names.specs.declared.composed.SegPart.TheVariants.{Docs, Post, Info}
use Rattle.file_names.specs.Base36.{is_base36_digit, digit_value, base36_value, has_leading_zero, SpellsBase36, base36_of}
use Rattle.file_names.specs.Names.{part_ending, part_name_of, live_name_of, commit_name_of, pending_name_of, temp_name_of, is_commit_number, is_commit_name, commit_number, is_pending_name, pending_number, is_documents_name}
use Rattle.nrt_base.proofs.Plain.{cons_first, cons_rest, cons_from}
use Rattle.file_names.proofs.Base36Lemmas.{spelling_of, list_all-append, value_grows, value-first, digit_value_some, only_first, base36_spells, only_spelling, base36_apart}

-- ---- each is a name

pub digits_are_name_bytes : (bytes : List ℕ) → list_all is_base36_digit bytes ≡ true → list_all is_name_byte bytes ≡ true
digits_are_name_bytes [] h = refl
digits_are_name_bytes (b ∷ bytes) h =
    let e = and_parts (is_base36_digit b) (list_all is_base36_digit bytes) h in
    let name : is_name_byte b ≡ true = grind (arith, nat_tests, e.0) in
    and_from (is_name_byte b) (list_all is_name_byte bytes) name (digits_are_name_bytes bytes e.1)

-- name bytes that are few enough
record IsPiece (bytes : List ℕ) (most : ℕ) : Type 0 where
  pub few : length bytes ≤ most
  pub name : list_all is_name_byte bytes ≡ true

joined : (a b : List ℕ) (m n : ℕ) → IsPiece a m → IsPiece b n → IsPiece (a ++ b) (m + n)
joined a b m n p q = record {
  few = omega (arith, length-append a b, p.few, q.few);
  name = list_all-append is_name_byte a b p.name q.name;
}

digits_piece : (n : ℕ) → n < 2 ^ 64 → IsPiece (base36_of n) 13
digits_piece n h = let s = spelling_of n h in record { few = s.few; name = digits_are_name_bytes (base36_of n) s.digits }

ending_piece : (part : SegPart) → IsPiece (part_ending part) 5
ending_piece Docs = record { few = omega arith; name = refl }
ending_piece Post = record { few = omega arith; name = refl }
ending_piece Info = record { few = omega arith; name = refl }

name_from : (bytes : List ℕ) (most : ℕ) → most ≤ 64 → 0 < length bytes → IsPiece bytes most → is_file_name bytes ≡ true
name_from bytes most h some p = grind (arith, nat_tests, p.few, p.name)

mark_piece : IsPiece (codes "_") 1
mark_piece = record { few = omega arith; name = refl }

part_piece : (seg : ℕ) (part : SegPart) → seg < 2 ^ 64 → IsPiece (part_name_of seg part) 19
part_piece seg part h = joined (codes "_" ++ base36_of seg) (part_ending part) 14 5 (joined (codes "_") (base36_of seg) 1 13 mark_piece (digits_piece seg h)) (ending_piece part)

pub part_name_is : (seg : ℕ) (part : SegPart) → seg < 2 ^ 64 → is_file_name (part_name_of seg part) ≡ true
part_name_is seg part h = name_from (part_name_of seg part) 19 (omega arith) (omega arith) (part_piece seg part h)

pub length-part_name-le : (seg : ℕ) (part : SegPart) → seg < 2 ^ 64 → length (part_name_of seg part) ≤ 19
length-part_name-le seg part h = (part_piece seg part h).few

live_piece : (seg live_gen : ℕ) → seg < 2 ^ 64 → live_gen < 2 ^ 64 → IsPiece (live_name_of seg live_gen) 32
live_piece seg live_gen h k =
    let front = joined (codes "_") (base36_of seg) 1 13 mark_piece (digits_piece seg h) in
    let middle = joined (codes "_" ++ base36_of seg) (codes "_") 14 1 front mark_piece in
    let back = joined (codes "_" ++ base36_of seg ++ codes "_") (base36_of live_gen) 15 13 middle (digits_piece live_gen k) in
    joined (codes "_" ++ base36_of seg ++ codes "_" ++ base36_of live_gen) (codes ".liv") 28 4 back (record { few = omega arith; name = refl })

pub live_name_is : (seg live_gen : ℕ) → seg < 2 ^ 64 → live_gen < 2 ^ 64 → is_file_name (live_name_of seg live_gen) ≡ true
live_name_is seg live_gen h k = name_from (live_name_of seg live_gen) 32 (omega arith) (omega arith) (live_piece seg live_gen h k)

pub length-live_name-le : (seg live_gen : ℕ) → seg < 2 ^ 64 → live_gen < 2 ^ 64 → length (live_name_of seg live_gen) ≤ 32
length-live_name-le seg live_gen h k = (live_piece seg live_gen h k).few

pub commit_name_is : (n : ℕ) → n < 2 ^ 64 → is_file_name (commit_name_of n) ≡ true
commit_name_is n h =
    name_from (commit_name_of n) 22 (omega arith) (omega arith) (joined (codes "segments_") (base36_of n) 9 13 (record { few = omega arith; name = refl }) (digits_piece n h))

pub pending_name_is : (n : ℕ) → n < 2 ^ 64 → is_file_name (pending_name_of n) ≡ true
pending_name_is n h =
    name_from (pending_name_of n) 30 (omega arith) (omega arith) (joined (codes "pending_segments_") (base36_of n) 17 13 (record { few = omega arith; name = refl }) (digits_piece n h))

name_piece : (name : List ℕ) → is_file_name name ≡ true → length name ≤ 46 → IsPiece name 46
name_piece name h few = record { few = few; name = (and_parts _ (list_all is_name_byte name) h).1 }

pub temp_name_is : (name : List ℕ) (job : ℕ) → is_file_name name ≡ true → length name ≤ 46 → job < 2 ^ 64 → is_file_name (temp_name_of name job) ≡ true
temp_name_is name job h few k =
    let front = joined name (codes "_") 46 1 (name_piece name h few) (record { few = omega arith; name = refl }) in
    let back = joined (name ++ codes "_") (base36_of job) 47 13 front (digits_piece job k) in
    name_from (temp_name_of name job) 64 (omega arith) (omega (arith, length-append (name ++ codes "_" ++ base36_of job) (codes ".tmp")))
    (joined (name ++ codes "_" ++ base36_of job) (codes ".tmp") 60 4 back (record { few = omega arith; name = refl }))

-- ---- what a name is cut at

-- no byte is this one
abbrev lacks : ℕ → List ℕ → Bool
lacks m bytes = list_all (λ b. not (nat_eq b m)) bytes

pub lacks_not : (m : ℕ) (xs ys : List ℕ) → lacks m (xs ++ m ∷ ys) ≡ true → ⊥
lacks_not m [] ys h = grind (arith, nat_tests, (and_parts (not (nat_eq m m)) (lacks m ys) h).0)
lacks_not m (x ∷ xs) ys h = lacks_not m xs ys (and_parts (not (nat_eq x m)) (lacks m (xs ++ m ∷ ys)) h).1

digits_lack : (m : ℕ) (bytes : List ℕ) → is_base36_digit m ≡ false → list_all is_base36_digit bytes ≡ true → lacks m bytes ≡ true
digits_lack m [] e h = refl
digits_lack m (b ∷ bytes) e h =
    let g = and_parts (is_base36_digit b) (list_all is_base36_digit bytes) h in
    let other : not (nat_eq b m) ≡ true = grind (arith, nat_tests, e, g.0) in
    and_from (not (nat_eq b m)) (lacks m bytes) other (digits_lack m bytes e g.1)

pub spelling_lacks : (m n : ℕ) → is_base36_digit m ≡ false → n < 2 ^ 64 → lacks m (base36_of n) ≡ true
spelling_lacks m n e h = digits_lack m (base36_of n) e (spelling_of n h).digits

-- lists that are cut at the first such byte
cut_first : (m : ℕ) (a b x y : List ℕ) → lacks m a ≡ true → lacks m b ≡ true → a ++ m ∷ x ≡ b ++ m ∷ y → (a ≡ b) × (x ≡ y)
cut_first m [] [] x y h k e = (refl, cons_rest m m x y e)
cut_first m [] (c ∷ b) x y h k e = absurd (grind (arith, nat_tests, cons_first m c x (b ++ m ∷ y) e, (and_parts (not (nat_eq c m)) (lacks m b) k).0))
cut_first m (c ∷ a) [] x y h k e = absurd (grind (arith, nat_tests, cons_first c m (a ++ m ∷ x) y e, (and_parts (not (nat_eq c m)) (lacks m a) h).0))
cut_first m (c ∷ a) (d ∷ b) x y h k e =
    let rest = cut_first m a b x y (and_parts (not (nat_eq c m)) (lacks m a) h).1 (and_parts (not (nat_eq d m)) (lacks m b) k).1 (cons_rest c d (a ++ m ∷ x) (b ++ m ∷ y) e) in
    (cons_from c d a b (cons_first c d (a ++ m ∷ x) (b ++ m ∷ y) e) rest.0, rest.1)

-- lists that are cut at the last such byte
pub cut_last : (m : ℕ) (a b x y : List ℕ) → lacks m x ≡ true → lacks m y ≡ true → a ++ m ∷ x ≡ b ++ m ∷ y → (a ≡ b) × (x ≡ y)
cut_last m [] [] x y h k e = (refl, cons_rest m m x y e)
cut_last m [] (c ∷ b) x y h k e = absurd (lacks_not m b y (sym (ap (lacks m) (cons_rest m c x (b ++ m ∷ y) e)) ∙ h))
cut_last m (c ∷ a) [] x y h k e = absurd (lacks_not m a x (ap (lacks m) (cons_rest c m (a ++ m ∷ x) y e) ∙ k))
cut_last m (c ∷ a) (d ∷ b) x y h k e =
    let rest = cut_last m a b x y h k (cons_rest c d (a ++ m ∷ x) (b ++ m ∷ y) e) in
    (cons_from c d a b (cons_first c d (a ++ m ∷ x) (b ++ m ∷ y) e) rest.0, rest.1)

-- ---- no two things have one name

-- what stands behind the dot of a part's ending
abbrev ending_letters : SegPart → List ℕ
ending_letters Docs = codes "docs"
ending_letters Post = codes "post"
ending_letters Info = codes "si"

part_ending-letters : (part : SegPart) → part_ending part ≡ 46 ∷ ending_letters part
part_ending-letters Docs = refl
part_ending-letters Post = refl
part_ending-letters Info = refl

same_part : (p q : SegPart) → ending_letters p ≡ ending_letters q → p ≡ q
same_part Docs Docs e = refl
same_part Docs Post e = absurd (grind (arith, cons_first 100 112 (codes "ocs") (codes "ost") e))
same_part Docs Info e = absurd (grind (arith, cons_first 100 115 (codes "ocs") (codes "i") e))
same_part Post Docs e = absurd (grind (arith, cons_first 112 100 (codes "ost") (codes "ocs") e))
same_part Post Post e = refl
same_part Post Info e = absurd (grind (arith, cons_first 112 115 (codes "ost") (codes "i") e))
same_part Info Docs e = absurd (grind (arith, cons_first 115 100 (codes "i") (codes "ocs") e))
same_part Info Post e = absurd (grind (arith, cons_first 115 112 (codes "i") (codes "ost") e))
same_part Info Info e = refl

part_name-cut : (seg : ℕ) (part : SegPart) → part_name_of seg part ≡ 95 ∷ (base36_of seg ++ 46 ∷ ending_letters part)
part_name-cut seg part = ap (λ (x : List ℕ). 95 ∷ (base36_of seg ++ x)) (part_ending-letters part)

-- two parts have one name only where they are one part of one segment
pub part_name_apart : (s t : ℕ) (p q : SegPart) → s < 2 ^ 64 → t < 2 ^ 64 → part_name_of s p ≡ part_name_of t q → (s ≡ t) × (p ≡ q)
part_name_apart s t p q h k e =
    let behind = cons_rest 95 95 (base36_of s ++ 46 ∷ ending_letters p) (base36_of t ++ 46 ∷ ending_letters q) (sym (part_name-cut s p) ∙ e ∙ part_name-cut t q) in
    let cut = cut_first 46 (base36_of s) (base36_of t) (ending_letters p) (ending_letters q) (spelling_lacks 46 s refl h) (spelling_lacks 46 t refl k) behind in
    (base36_apart s t h k cut.0, same_part p q cut.1)

live_name-cut : (seg live_gen : ℕ) → live_name_of seg live_gen ≡ 95 ∷ (base36_of seg ++ 95 ∷ (base36_of live_gen ++ 46 ∷ codes "liv"))
live_name-cut seg live_gen =
    ap (λ (x : List ℕ). 95 ∷ x) (append_assoc (base36_of seg ++ 95 ∷ []) (base36_of live_gen) (codes ".liv") ∙ append_assoc (base36_of seg) (95 ∷ []) (base36_of live_gen ++ codes ".liv"))

-- two live files have one name only where they are of one segment and one generation
pub live_name_apart : (s t g k : ℕ) → s < 2 ^ 64 → t < 2 ^ 64 → g < 2 ^ 64 → k < 2 ^ 64 → live_name_of s g ≡ live_name_of t k → (s ≡ t) × (g ≡ k)
live_name_apart s t g k hs ht hg hk e =
    let behind_s : List ℕ = base36_of g ++ 46 ∷ codes "liv" in
    let behind_t : List ℕ = base36_of k ++ 46 ∷ codes "liv" in
    let behind = cons_rest 95 95 (base36_of s ++ 95 ∷ behind_s) (base36_of t ++ 95 ∷ behind_t) (sym (live_name-cut s g) ∙ e ∙ live_name-cut t k) in
    let cut = cut_first 95 (base36_of s) (base36_of t) behind_s behind_t (spelling_lacks 95 s refl hs) (spelling_lacks 95 t refl ht) behind in
    let end = cut_first 46 (base36_of g) (base36_of k) (codes "liv") (codes "liv") (spelling_lacks 46 g refl hg) (spelling_lacks 46 k refl hk) cut.1 in
    (base36_apart s t hs ht cut.0, base36_apart g k hg hk end.0)

-- no live file has the name of a part
pub part_name_not_live : (s t g : ℕ) (p : SegPart) → s < 2 ^ 64 → t < 2 ^ 64 → g < 2 ^ 64 → part_name_of s p ≡ live_name_of t g → ⊥
part_name_not_live s t g p hs ht hg e =
    let live_behind : List ℕ = base36_of t ++ 95 ∷ (base36_of g ++ 46 ∷ codes "liv") in
    let behind = cons_rest 95 95 (base36_of s ++ 46 ∷ ending_letters p) live_behind (sym (part_name-cut s p) ∙ e ∙ live_name-cut t g) in
    let none : lacks 95 (base36_of s ++ 46 ∷ ending_letters p) ≡ true =
    list_all-append (λ b. not (nat_eq b 95)) (base36_of s) (46 ∷ ending_letters p) (spelling_lacks 95 s refl hs) (letters_lack p) in
    lacks_not 95 (base36_of t) (base36_of g ++ 46 ∷ codes "liv") (sym (ap (lacks 95) behind) ∙ none)
  where
    letters_lack : (part : SegPart) → lacks 95 (46 ∷ ending_letters part) ≡ true
    letters_lack Docs = refl
    letters_lack Post = refl
    letters_lack Info = refl

temp_name-cut : (name : List ℕ) (job : ℕ) → temp_name_of name job ≡ (name ++ 95 ∷ base36_of job) ++ codes ".tmp"
temp_name-cut name job = ap (λ (x : List ℕ). x ++ codes ".tmp") (append_assoc name (95 ∷ []) (base36_of job))

-- two temporary names are one only where they are of one file in one job
pub temp_name_apart : (a b : List ℕ) (j k : ℕ) → j < 2 ^ 64 → k < 2 ^ 64 → temp_name_of a j ≡ temp_name_of b k → (a ≡ b) × (j ≡ k)
temp_name_apart a b j k hj hk e =
    let front = append_cancel_right (a ++ 95 ∷ base36_of j) (b ++ 95 ∷ base36_of k) (codes ".tmp") (sym (temp_name-cut a j) ∙ e ∙ temp_name-cut b k) in
    let cut = cut_last 95 a b (base36_of j) (base36_of k) (spelling_lacks 95 j refl hj) (spelling_lacks 95 k refl hk) front in
    (cut.0, base36_apart j k hj hk cut.1)

-- two commits have two names
pub commit_name_apart : (m n : ℕ) → m < 2 ^ 64 → n < 2 ^ 64 → commit_name_of m ≡ commit_name_of n → m ≡ n
commit_name_apart m n h k e = base36_apart m n h k (append_cancel_left (codes "segments_") (base36_of m) (base36_of n) e)

-- two commits in preparation have two names
pub pending_name_apart : (m n : ℕ) → m < 2 ^ 64 → n < 2 ^ 64 → pending_name_of m ≡ pending_name_of n → m ≡ n
pending_name_apart m n h k e = base36_apart m n h k (append_cancel_left (codes "pending_segments_") (base36_of m) (base36_of n) e)

-- ---- which names are those of commits

-- digits that spell a commit's number
pub record IsCommitNumber (bytes : List ℕ) (n : ℕ) : Type 0 where
  pub spelled : bytes ≡ base36_of n
  pub some : 0 < n
  pub below : n < 2 ^ 62

first_some : (b : ℕ) (digits : List ℕ) → is_base36_digit b ≡ true → not (nat_eq b 48) ≡ true → 0 < base36_value (b ∷ digits)
first_some b digits h e =
    let some : 0 < digit_value b = digit_value_some b h (λ f. grind (arith, nat_tests, e, f)) in
    omega (arith, value_grows (0 * 36 + digit_value b) digits)

number_is : (bytes : List ℕ) → is_commit_number bytes ≡ true → IsCommitNumber bytes (base36_value bytes)
number_is [] h = absurd cc
number_is (b ∷ digits) h =
    let all : List ℕ = b ∷ digits in
    let e = and_parts (not (nat_eq b 48) && list_all is_base36_digit all) (nat_lt (base36_value all) (2 ^ 62)) h in
    let f = and_parts (not (nat_eq b 48)) (list_all is_base36_digit all) e.0 in
    let below : base36_value all < 2 ^ 62 = ltb-true _ _ e.1 in
    let none : has_leading_zero all ≡ false = grind (arith, nat_tests, f.0) in
    record {
      spelled = only_spelling all (base36_value all) (omega (arith, below)) (record { some = omega arith; digits = f.1; leading = none; value = refl });
      some = first_some b digits (and_parts (is_base36_digit b) (list_all is_base36_digit digits) f.1).0 f.0;
      below = below;
    }

is_number_at : (bytes : List ℕ) (n : ℕ) → SpellsBase36 bytes n → 0 < n → n < 2 ^ 62 → is_commit_number bytes ≡ true
is_number_at [] n s some below = absurd (omega (arith, s.some))
is_number_at (b ∷ digits) n s some below =
    let not_zero : not (nat_eq b 48) ≡ true = not_zero_of (cases_eq b 48) in
    and_from (not (nat_eq b 48) && list_all is_base36_digit (b ∷ digits)) (nat_lt (base36_value (b ∷ digits)) (2 ^ 62))
    (and_from (not (nat_eq b 48)) (list_all is_base36_digit (b ∷ digits)) not_zero s.digits)
    (lt-ltb (base36_value (b ∷ digits)) (2 ^ 62) (omega (arith, s.value, below)))
  where
    zero_value : b ≡ 48 → n ≡ 0
    zero_value e = sym s.value ∙ ap (λ (x : List ℕ). base36_value (b ∷ x)) (only_first b digits s.leading e) ∙ value-first b [] ∙ ap digit_value e

    not_zero_of : (b ≡ 48) ⊎ (b ≡ 48 → ⊥) → not (nat_eq b 48) ≡ true
    not_zero_of (inl e) = absurd (omega (arith, zero_value e, some))
    not_zero_of (inr ne) = grind (arith, nat_tests, ne)

-- the digits of a number from 1 to below 2^62 are a commit's
pub is_number : (n : ℕ) → 0 < n → n < 2 ^ 62 → is_commit_number (base36_of n) ≡ true
is_number n some below = is_number_at (base36_of n) n (base36_spells n (omega (arith, below))) some below

begins_with : (needle bytes : List ℕ) → starts_with nat_eq bytes needle ≡ true → bytes ≡ needle ++ drop (length needle) bytes
begins_with needle bytes h =
    let front : needle ≡ take (length needle) bytes = (bytes_eq-Decides needle (take (length needle) bytes)).0 h in
    sym (take-append-drop (length needle) bytes) ∙ ap (λ (x : List ℕ). x ++ drop (length needle) bytes) (sym front)

-- the name of a commit is made of its number
pub commit_name_only : (name : List ℕ) → is_commit_name name ≡ true → (name ≡ commit_name_of (commit_number name)) × (0 < commit_number name) × (commit_number name < 2 ^ 62)
commit_name_only name h =
    let e = and_parts (starts_with nat_eq name (codes "segments_")) (is_commit_number (drop 9 name)) h in
    let n = number_is (drop 9 name) e.1 in
    (begins_with (codes "segments_") name e.0 ∙ ap (λ (x : List ℕ). codes "segments_" ++ x) n.spelled, n.some, n.below)

pub pending_name_only : (name : List ℕ) → is_pending_name name ≡ true → (name ≡ pending_name_of (pending_number name)) × (0 < pending_number name) × (pending_number name < 2 ^ 62)
pending_name_only name h =
    let e = and_parts (starts_with nat_eq name (codes "pending_segments_")) (is_commit_number (drop 17 name)) h in
    let n = number_is (drop 17 name) e.1 in
    (begins_with (codes "pending_segments_") name e.0 ∙ ap (λ (x : List ℕ). codes "pending_segments_" ++ x) n.spelled, n.some, n.below)

-- and a name that is so made is one
pub commit_name_is_one : (n : ℕ) → 0 < n → n < 2 ^ 62 → is_commit_name (commit_name_of n) ≡ true
commit_name_is_one n some below = is_number n some below

pub pending_name_is_one : (n : ℕ) → 0 < n → n < 2 ^ 62 → is_pending_name (pending_name_of n) ≡ true
pending_name_is_one n some below = is_number n some below

pub commit_number-commit_name : (n : ℕ) → n < 2 ^ 64 → commit_number (commit_name_of n) ≡ n
commit_number-commit_name n h = (base36_spells n h).value

pub pending_number-pending_name : (n : ℕ) → n < 2 ^ 64 → pending_number (pending_name_of n) ≡ n
pending_number-pending_name n h = (base36_spells n h).value

-- ---- no other name is a commit's

pub part_name_not_commit : (seg : ℕ) (part : SegPart) → is_commit_name (part_name_of seg part) ≡ false
part_name_not_commit seg part = refl

pub part_name_not_pending : (seg : ℕ) (part : SegPart) → is_pending_name (part_name_of seg part) ≡ false
part_name_not_pending seg part = refl

pub live_name_not_commit : (seg live_gen : ℕ) → is_commit_name (live_name_of seg live_gen) ≡ false
live_name_not_commit seg live_gen = refl

pub live_name_not_pending : (seg live_gen : ℕ) → is_pending_name (live_name_of seg live_gen) ≡ false
live_name_not_pending seg live_gen = refl

pub commit_name_not_pending : (n : ℕ) → is_pending_name (commit_name_of n) ≡ false
commit_name_not_pending n = refl

pub pending_name_not_commit : (n : ℕ) → is_commit_name (pending_name_of n) ≡ false
pending_name_not_commit n = refl

temp_name-dot : (name : List ℕ) (job : ℕ) → temp_name_of name job ≡ (name ++ codes "_" ++ base36_of job) ++ 46 ∷ codes "tmp"
temp_name-dot name job = refl

no_dot : (front : List ℕ) (n : ℕ) → lacks 46 front ≡ true → n < 2 ^ 64 → lacks 46 (front ++ base36_of n) ≡ true
no_dot front n e h = list_all-append (λ b. not (nat_eq b 46)) front (base36_of n) e (spelling_lacks 46 n refl h)

pub temp_name_not_commit : (name : List ℕ) (job : ℕ) → is_commit_name (temp_name_of name job) ≡ false
temp_name_not_commit name job = false_from_ne_true (is_commit_name (temp_name_of name job)) (λ h.
    let e = commit_name_only (temp_name_of name job) h in
    lacks_not 46 (name ++ codes "_" ++ base36_of job) (codes "tmp") (ap (lacks 46) e.0 ∙ no_dot (codes "segments_") (commit_number (temp_name_of name job)) refl (omega (arith, e.2))))

pub temp_name_not_pending : (name : List ℕ) (job : ℕ) → is_pending_name (temp_name_of name job) ≡ false
temp_name_not_pending name job = false_from_ne_true (is_pending_name (temp_name_of name job)) (λ h.
    let e = pending_name_only (temp_name_of name job) h in
    lacks_not 46 (name ++ codes "_" ++ base36_of job) (codes "tmp") (ap (lacks 46) e.0 ∙ no_dot (codes "pending_segments_") (pending_number (temp_name_of name job)) refl (omega (arith, e.2))))

-- ---- stored documents

pub documents_name : (seg : ℕ) → is_documents_name (part_name_of seg Docs) ≡ true
documents_name seg = ends_in (codes "_" ++ base36_of seg) (codes ".docs")
  where
    ends_in : (front needle : List ℕ) → ends_with nat_eq (front ++ needle) needle ≡ true
    ends_in front needle =
        let back : length (front ++ needle) - length needle ≡ length front = omega (arith, length-append front needle) in
        (bytes_eq-Decides needle (drop (length (front ++ needle) - length needle) (front ++ needle))).1
        (sym (ap (λ (k : ℕ). drop k (front ++ needle)) back ∙ drop_at front needle (length front) refl))
