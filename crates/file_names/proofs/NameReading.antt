-- What is read of a name is what it was made of.
use Rattle.std.proofs.Common.{◌≡◌, ℕ, ◌+◌, ◌^◌, ◌<◌, ◌≤◌, ◌⊎◌, ◌↔◌, inl, inr, Bool, true, false, cond, Option, Some, None, Result, Ok, Err, List, ◌∷◌, ◌++◌, take, drop, codes, refl, sym, ap, subst, ◌∙◌, arith}
use Rattle.std.specs.Option.{option_or}
use Rattle.std.specs.Prelude.{IfSome}
use Rattle.std.proofs.lemmas.List.{append_assoc, append_cancel_left, append_cancel_right}
use Rattle.std.proofs.lemmas.Option.{same_Some}
use Rattle.file_names.specs.declared.composed.SegPart.{SegPart}
use Rattle.file_names.specs.declared.composed.SegPart.TheVariants.{Docs, Post, Info}
use Rattle.nrt_base.specs.declared.numbers.SegNo.{SegNo}
use Rattle.file_names.specs.declared.radix.Base36Fault.{Base36Fault}
use Rattle.file_names.specs.Base36.{base36_value, base36_of, SpellsBase36}
use Rattle.file_names.specs.Names.{part_name_of, live_name_of, is_unmarked, IsFileOfSegment, IsTemporaryOfSegment, is_commit_number}
use Rattle.nrt_base.proofs.Plain.{ok_never_err, same_ok}
use Rattle.file_names.proofs.Base36Lemmas.{base36_spells, only_spelling}
use Rattle.file_names.proofs.NameLaws.{commit_name_only, commit_name_is_one, lacks_not, spelling_lacks, cut_last, part_name_apart, live_name_apart, part_name_not_live, temp_name_apart}

marked_front : (front digits : List ℕ) → front ++ codes "_" ++ digits ≡ front ++ 95 ∷ digits
marked_front front digits = append_assoc front (codes "_") digits

-- a name that was cut at its last mark, and whose number was read, is made of both
pub numbered_is : (name front ending : List ℕ) (at n : ℕ) → name ≡ front ++ ending → front ≡ take at front ++ 95 ∷ drop (at + 1) front
    → drop (at + 1) front ≡ base36_of n → name ≡ take at front ++ codes "_" ++ base36_of n ++ ending
numbered_is name front ending at n e cut digits =
    e ∙ ap (λ (x : List ℕ). x ++ ending) (cut ∙ (ap (λ (x : List ℕ). take at front ++ 95 ∷ x) digits ∙ sym (marked_front (take at front) (base36_of n))))

-- what a name that is so made has before its ending
pub before_ending : (name front ending made : List ℕ) (n : ℕ) → name ≡ front ++ ending → name ≡ made ++ codes "_" ++ base36_of n ++ ending
    → front ≡ made ++ 95 ∷ base36_of n
before_ending name front ending made n e is = append_cancel_right front (made ++ codes "_" ++ base36_of n) ending (sym e ∙ is) ∙ marked_front made (base36_of n)

-- it has a mark
pub has_mark : (front made : List ℕ) (n : ℕ) → front ≡ made ++ 95 ∷ base36_of n → is_unmarked front ≡ true → ⊥
has_mark front made n is none = lacks_not 95 made (base36_of n) (sym (ap is_unmarked is) ∙ none)

-- and is cut there
pub cut_there : (front made : List ℕ) (at n : ℕ) → n < 2 ^ 64 → front ≡ take at front ++ 95 ∷ drop (at + 1) front → is_unmarked (drop (at + 1) front) ≡ true
    → front ≡ made ++ 95 ∷ base36_of n → (take at front ≡ made) × (drop (at + 1) front ≡ base36_of n)
cut_there front made at n low cut none is =
    cut_last 95 (take at front) made (drop (at + 1) front) (base36_of n) none (spelling_lacks 95 n refl low) (sym cut ∙ is)

-- a file is of one segment
pub file_apart : (s t : ℕ) (name : List ℕ) → IsFileOfSegment s name → IsFileOfSegment t name → s ≡ t
file_apart s t name a b = by a.1 b.1
  where
    by : ((part : SegPart) × (name ≡ part_name_of s part)) ⊎ ((live_gen : ℕ) × (live_gen < 2 ^ 64) × (name ≡ live_name_of s live_gen))
        → ((part : SegPart) × (name ≡ part_name_of t part)) ⊎ ((live_gen : ℕ) × (live_gen < 2 ^ 64) × (name ≡ live_name_of t live_gen)) → s ≡ t
    by (inl p) (inl q) = (part_name_apart s t p.0 q.0 a.0 b.0 (sym p.1 ∙ q.1)).0
    by (inl p) (inr g) = absurd (part_name_not_live s t g.0 p.0 a.0 b.0 g.1 (sym p.1 ∙ g.2))
    by (inr g) (inl p) = absurd (part_name_not_live t s g.0 p.0 b.0 a.0 g.1 (sym p.1 ∙ g.2))
    by (inr g) (inr k) = (live_name_apart s t g.0 k.0 a.0 b.0 g.1 k.1 (sym g.2 ∙ k.2)).0

-- a temporary name is of one segment
pub temporary_apart : (s t : ℕ) (name : List ℕ) → IsTemporaryOfSegment s name → IsTemporaryOfSegment t name → s ≡ t
temporary_apart s t name a b =
    let same = (temp_name_apart a.0 b.0 a.1 b.1 a.3 b.3 (sym a.4 ∙ b.4)).0 in
    file_apart s t a.0 a.2 (subst (λ (x : List ℕ). IsFileOfSegment t x) (sym same) b.2)

-- ---- the digits of a commit's number

-- digits that spell the number of a commit
record Spell (digits : List ℕ) (n : ℕ) : Type 0 where
  spelled : SpellsBase36 digits n
  some : 0 < n
  below : n < 2 ^ 62

digits_spell : (digits : List ℕ) → is_commit_number digits ≡ true → Spell digits (base36_value digits)
digits_spell digits h =
    let e = commit_name_only (codes "segments_" ++ digits) h in
    let n : ℕ = base36_value digits in
    let same : digits ≡ base36_of n = append_cancel_left (codes "segments_") digits (base36_of n) e.0 in
    record { spelled = subst (λ (d : List ℕ). SpellsBase36 d n) (sym same) (base36_spells n (omega (arith, e.2))); some = e.1; below = e.2 }

spell_digits : (digits : List ℕ) (n : ℕ) → Spell digits n → is_commit_number digits ≡ true
spell_digits digits n s = ap is_commit_number (only_spelling digits n (omega (arith, s.below)) s.spelled) ∙ commit_name_is_one n s.some s.below

abbrev Answer : Type 0
Answer = Result ℕ Base36Fault

abbrev Reads : List ℕ → Answer → Type 0
Reads digits r = (n : ℕ) → (r ≡ Ok n) ↔ (SpellsBase36 digits n × (n < 2 ^ 64))

pub number_found : (digits : List ℕ) (r : Answer) (n : ℕ) → Reads digits r → r ≡ Ok n → 0 < n → n < 2 ^ 62 → Some n ≡ cond (is_commit_number digits) (Some (base36_value digits)) None
number_found digits r n reads e some below =
    let s = (reads n).0 e in
    let is : is_commit_number digits ≡ true = spell_digits digits n (record { spelled = s.0; some = some; below = below }) in
    rw is (ap (λ (m : ℕ). Some m) (sym s.0.value))

no_number : (digits : List ℕ) (test : Bool) → is_commit_number digits ≡ test → (test ≡ true → ⊥) → None ≡ cond test (Some (base36_value digits)) None
no_number digits true e never = absurd (never refl)
no_number digits false e never = refl

none_found : (digits : List ℕ) (r : Answer) → Reads digits r → ((n : ℕ) → r ≡ Ok n → 0 < n → n < 2 ^ 62 → ⊥) → None ≡ cond (is_commit_number digits) (Some (base36_value digits)) None
none_found digits r reads never =
    no_number digits (is_commit_number digits) refl
    (λ h. let s = digits_spell digits h in let n : ℕ = base36_value digits in never n ((reads n).1 (s.spelled, omega (arith, s.below))) s.some s.below)

pub none_spelled : (digits : List ℕ) (r : Answer) (fault : Base36Fault) → Reads digits r → r ≡ Err fault → None ≡ cond (is_commit_number digits) (Some (base36_value digits)) None
none_spelled digits r fault reads e = none_found digits r reads (λ n f some below. ok_never_err n fault (sym f ∙ e))

pub none_small : (digits : List ℕ) (r : Answer) (n : ℕ) → Reads digits r → r ≡ Ok n → n ≤ 0 → None ≡ cond (is_commit_number digits) (Some (base36_value digits)) None
none_small digits r n reads e zero_is = none_found digits r reads (λ m f some below. omega (arith, same_ok m n (sym f ∙ e), some, zero_is))

pub none_large : (digits : List ℕ) (r : Answer) (n : ℕ) → Reads digits r → r ≡ Ok n → 2 ^ 62 ≤ n → None ≡ cond (is_commit_number digits) (Some (base36_value digits)) None
none_large digits r n reads e large = none_found digits r reads (λ m f some below. omega (arith, same_ok m n (sym f ∙ e), below, large))

-- ---- any number

-- a number that was read was spelled
pub spelled_is : (digits : List ℕ) (r : Answer) (n : ℕ) → Reads digits r → r ≡ Ok n → (n < 2 ^ 64) × (digits ≡ base36_of n)
spelled_is digits r n reads e = let s = (reads n).0 e in (s.1, only_spelling digits n s.1 s.0)

read_back : (digits : List ℕ) (r : Answer) (n : ℕ) → Reads digits r → n < 2 ^ 64 → digits ≡ base36_of n → r ≡ Ok n
read_back digits r n reads low is = (reads n).1 (subst (λ (x : List ℕ). SpellsBase36 x n) (sym is) (base36_spells n low), low)

-- and one that was spelled is read
pub spelled_found : (digits : List ℕ) (r : Answer) (m n : ℕ) → Reads digits r → r ≡ Ok m → n < 2 ^ 64 → digits ≡ base36_of n → ◌≡◌ {A = Option ℕ} (Some m) (Some n)
spelled_found digits r m n reads e low is = ap Some (same_ok m n (sym e ∙ read_back digits r n reads low is))

pub spelled_not_refused : (digits : List ℕ) (r : Answer) (fault : Base36Fault) (n : ℕ) → Reads digits r → r ≡ Err fault → n < 2 ^ 64 → digits ≡ base36_of n → ⊥
spelled_not_refused digits r fault n reads e low is = ok_never_err n fault (sym (read_back digits r n reads low is) ∙ e)

-- ---- the segment of a file

found_first : (a b : Option ℕ) (n : ℕ) → a ≡ Some n → option_or a b ≡ Some n
found_first a b n e = ap (λ (o : Option ℕ). option_or o b) e

-- of two readings that agree, one found the number
found_second : (name : List ℕ) (a b : Option ℕ) (n : ℕ) → IfSome a (λ m. IsFileOfSegment m name) → IsFileOfSegment n name → b ≡ Some n → option_or a b ≡ Some n
found_second name None b n some is e = e
found_second name (Some m) b n some is e = ap Some (file_apart m n name some is)

part_is : (name : List ℕ) (part : SegPart) (r : Option ℕ) → IfSome r (λ m. (m < 2 ^ 64) × (name ≡ part_name_of m part)) → IfSome r (λ m. IsFileOfSegment m name)
part_is name part None some = tt
part_is name part (Some m) some = (some.0, inl (part, some.1))

either_is : (name : List ℕ) (a b : Option ℕ) → IfSome a (λ m. IsFileOfSegment m name) → IfSome b (λ m. IsFileOfSegment m name) → IfSome (option_or a b) (λ m. IsFileOfSegment m name)
either_is name None b some other = other
either_is name (Some m) b some other = some

-- of four readings that read what is such a file, one found the segment of a file
module _ (name : List ℕ) (docs post info live : Option ℕ) (d : IfSome docs (λ m. (m < 2 ^ 64) × (name ≡ part_name_of m Docs)))
    (p : IfSome post (λ m. (m < 2 ^ 64) × (name ≡ part_name_of m Post))) (i : IfSome info (λ m. (m < 2 ^ 64) × (name ≡ part_name_of m Info)))
    (all_docs : (n : ℕ) → n < 2 ^ 64 → name ≡ part_name_of n Docs → docs ≡ Some n) (all_post : (n : ℕ) → n < 2 ^ 64 → name ≡ part_name_of n Post → post ≡ Some n)
    (all_info : (n : ℕ) → n < 2 ^ 64 → name ≡ part_name_of n Info → info ≡ Some n)
    (all_live : (n live_gen : ℕ) → n < 2 ^ 64 → live_gen < 2 ^ 64 → name ≡ live_name_of n live_gen → live ≡ Some n) where
  two : IfSome (option_or docs post) (λ m. IsFileOfSegment m name)
  two = either_is name docs post (part_is name Docs docs d) (part_is name Post post p)

  three : IfSome (option_or (option_or docs post) info) (λ m. IsFileOfSegment m name)
  three = either_is name (option_or docs post) info two (part_is name Info info i)

  part_found : (n : ℕ) (part : SegPart) → n < 2 ^ 64 → name ≡ part_name_of n part → option_or (option_or docs post) info ≡ Some n
  part_found n Docs low e = found_first (option_or docs post) info n (found_first docs post n (all_docs n low e))
  part_found n Post low e = found_first (option_or docs post) info n (found_second name docs post n (part_is name Docs docs d) (low, inl (Post, e)) (all_post n low e))
  part_found n Info low e = found_second name (option_or docs post) info n two (low, inl (Info, e)) (all_info n low e)

  pub file_found : (n : ℕ) → IsFileOfSegment n name → option_or (option_or (option_or docs post) info) live ≡ Some n
  file_found n is = by is.1
    where
      by : ((part : SegPart) × (name ≡ part_name_of n part)) ⊎ ((live_gen : ℕ) × (live_gen < 2 ^ 64) × (name ≡ live_name_of n live_gen))
          → option_or (option_or (option_or docs post) info) live ≡ Some n
      by (inl q) = found_first (option_or (option_or docs post) info) live n (part_found n q.0 is.0 q.1)
      by (inr g) = found_second name (option_or (option_or docs post) info) live n three is (all_live n g.0 is.0 g.1 g.2)

-- ---- numbers that were found

pub not_none : (n : ℕ) → ◌≡◌ {A = Option ℕ} None (Some n) → ⊥
not_none n e = cc

pub same_segment : (m : ℕ) (seg : SegNo) → ◌≡◌ {A = Option ℕ} (Some m) (Some seg.0) → ◌≡◌ {A = Option SegNo} (Some (record { 0 = m })) (Some seg)
same_segment m seg e = ap (λ (k : ℕ). Some (record { 0 = k })) (same_Some m seg.0 e)
