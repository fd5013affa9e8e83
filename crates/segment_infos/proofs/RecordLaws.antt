-- Records of segments, taken one after the other.
use Rattle.std.proofs.Common.{◌≡◌, ℕ, suc, ◌+◌, ◌-◌, ◌<◌, ◌≤◌, List, [], ◌∷◌, ◌++◌, Some, None, refl, sym, ap, ◌∙◌, append_assoc, arith}
use Rattle.std.proofs.lemmas.List.{append-nil}
use Rattle.body_forms.specs.Format.{Read, ◌>>=◌, chain_at}
use Rattle.segment_infos.specs.declared.infos.SegRecord.{SegRecord}
use Rattle.segment_infos.specs.Reading.{record_at, records_at}

-- what was read before, and what is still read
abbrev with_front : List SegRecord → Read (List SegRecord) → Read (List SegRecord)
with_front front read = read >>= λ x. Some (front ++ x.0, x.1)

-- of `count` records, n have been taken from the front of the bytes, and are followed by `rest`
pub record HasTaken (count : ℕ) (bytes : List ℕ) (n : ℕ) (taken : List SegRecord) (rest : List ℕ) : Type 0 where
  pub so_far : with_front taken (records_at (count - n) rest) ≡ records_at count bytes

nothing_before : (read : Read (List SegRecord)) → with_front [] read ≡ read
nothing_before (Some x) = refl
nothing_before None = refl

regroup : (front : List SegRecord) (r : SegRecord) (read : Read (List SegRecord)) → with_front front (read >>= λ xs. Some (r ∷ xs.0, xs.1)) ≡ with_front (front ++ r ∷ []) read
regroup front r (Some xs) = ap (λ (ys : List SegRecord). Some (ys, xs.1)) (sym (append_assoc front (r ∷ []) xs.0))
regroup front r None = refl

-- one record, and the others
records_at-suc : (n : ℕ) (bytes after : List ℕ) (r : SegRecord) → record_at bytes ≡ Some (r, after) → records_at (suc n) bytes ≡ (records_at n after >>= λ xs. Some (r ∷ xs.0, xs.1))
unfolding records_at
records_at-suc n bytes after r e =
    ap (λ (z : Read SegRecord). z >>= λ x. chain_at (λ (_ : Unit {0}). record_at) (λ _. tt) n tt x.1 >>= λ xs. Some (x.0 ∷ xs.0, xs.1)) e

records_at-none : (n : ℕ) (bytes : List ℕ) → record_at bytes ≡ None → records_at (suc n) bytes ≡ None
unfolding records_at
records_at-none n bytes e =
    ap (λ (z : Read SegRecord). z >>= λ x. chain_at (λ (_ : Unit {0}). record_at) (λ _. tt) n tt x.1 >>= λ xs. Some (x.0 ∷ xs.0, xs.1)) e

records_at-zero : (bytes : List ℕ) → records_at 0 bytes ≡ Some ([], bytes)
unfolding records_at
records_at-zero bytes = refl

pub taken_start : (count : ℕ) (bytes : List ℕ) (taken : List SegRecord) → taken ≡ [] → HasTaken count bytes 0 taken bytes
taken_start count bytes taken z =
    let e : count - 0 ≡ count = omega arith in
    record { so_far = ap (λ (t : List SegRecord). with_front t (records_at (count - 0) bytes)) z ∙ ap (λ (n : ℕ). with_front [] (records_at n bytes)) e ∙ nothing_before (records_at count bytes) }

pub taken_next : (count : ℕ) (bytes : List ℕ) (n : ℕ) (taken : List SegRecord) (rest : List ℕ) (r : SegRecord) (after : List ℕ) (more : List SegRecord)
    → n < count → ◌≡◌ {A = Read SegRecord} (Some (r, after)) (record_at rest) → more ≡ taken ++ r ∷ [] → HasTaken count bytes n taken rest → HasTaken count bytes (n + 1) more after
taken_next count bytes n taken rest r after more lt e f h =
    let m : count - n ≡ suc (count - (n + 1)) = omega arith in
    let one : with_front taken (records_at (count - n) rest) ≡ with_front (taken ++ r ∷ []) (records_at (count - (n + 1)) after) =
    ap (λ (k : ℕ). with_front taken (records_at k rest)) m ∙ ap (with_front taken) (records_at-suc (count - (n + 1)) rest after r (sym e)) ∙ regroup taken r (records_at (count - (n + 1)) after) in
    record { so_far = ap (λ (t : List SegRecord). with_front t (records_at (count - (n + 1)) after)) f ∙ sym one ∙ h.so_far }

pub taken_no_more : (count : ℕ) (bytes : List ℕ) (n : ℕ) (taken : List SegRecord) (rest : List ℕ)
    → n < count → ◌≡◌ {A = Read SegRecord} None (record_at rest) → HasTaken count bytes n taken rest → ◌≡◌ {A = Read (List SegRecord)} None (records_at count bytes)
taken_no_more count bytes n taken rest lt e h =
    let m : count - n ≡ suc (count - (n + 1)) = omega arith in
    let one : with_front taken (records_at (count - n) rest) ≡ None =
    ap (λ (k : ℕ). with_front taken (records_at k rest)) m ∙ ap (with_front taken) (records_at-none (count - (n + 1)) rest (sym e)) in
    sym one ∙ h.so_far

pub taken_all : (count : ℕ) (bytes : List ℕ) (n : ℕ) (taken : List SegRecord) (rest : List ℕ)
    → count ≤ n → HasTaken count bytes n taken rest → ◌≡◌ {A = Read (List SegRecord)} (Some (taken, rest)) (records_at count bytes)
taken_all count bytes n taken rest le h =
    let m : count - n ≡ 0 = omega arith in
    let one : with_front taken (records_at (count - n) rest) ≡ Some (taken, rest) =
    ap (λ (k : ℕ). with_front taken (records_at k rest)) m ∙ ap (with_front taken) (records_at-zero rest) ∙ ap (λ (xs : List SegRecord). Some (xs, rest)) (append-nil taken) in
    sym one ∙ h.so_far
