-- The forms of a number in bytes of seven bits: reading finds exactly them, and none is shorter than the one that is written.
use Rattle.std.proofs.Common.{◌≡◌, ℕ, zero, suc, ◌+◌, ◌-◌, ◌*◌, ◌/◌, ◌%◌, ◌^◌, ◌<◌, ◌≤◌, ◌↔◌, true, false, cond, nat_le, List, [], ◌∷◌, ◌++◌, length, get_or, set, take, drop, Result, Ok, Err, IsErrAnd, OnOk, is_ok, refl, sym, ap, subst, ◌∙◌, arith, inl, inr}
use Rattle.std.specs.List.{list_all}
use Rattle.std.proofs.Math.Nat.{pow-suc}
use Rattle.std.proofs.lemmas.Bool.{cases_lt, lt-ltb, le-ltb}
use Rattle.std.proofs.lemmas.Bool.Decides.{nat_tests}
use Rattle.std.proofs.lemmas.List.{append_assoc, take_all, length-take, length-set, take_more_set, get_or_past}
use Rattle.codec_frame.specs.Bytes.{AreBytes}
use Rattle.body_forms.specs.declared.vint.VIntFault.{VIntFault}
use Rattle.body_forms.specs.declared.vint.VIntFault.TheVariants.{Short, Long}
use Rattle.codec_frame.proofs.ByteLaws.{AreBytes-rest, AreBytes-take}
use Rattle.body_forms.specs.VInts.{goes_on, is_vint, vint_value, SpellsVInt, BeginsWithVInt, EndsWithinVInt, PassesVInt, vint_within, vint, vint_limit, with_first_byte, vint_read}

AreBytes-cons : (b : ℕ) (bytes : List ℕ) → b < 256 → AreBytes bytes → AreBytes (b ∷ bytes)
AreBytes-cons b bytes lt h zero = lt
AreBytes-cons b bytes lt h (suc i) = h i

AreBytes-none : AreBytes []
AreBytes-none i = omega arith

pub pow_pos_128 : (k : ℕ) → 0 < 128 ^ k
pow_pos_128 zero = omega arith
pow_pos_128 (suc k) = omega (arith, pow-suc 128 k, pow_pos_128 k)

-- ---- the shortest form

pub within-small : (more n : ℕ) → n < 128 → vint_within more n ≡ n ∷ []
unfolding vint_within
within-small zero n h = refl
within-small (suc more) n h = rw (lt-ltb n 128 h) refl

pub within-large : (more n : ℕ) → 128 ≤ n → vint_within (suc more) n ≡ (128 + n % 128) ∷ vint_within more (n / 128)
unfolding vint_within
within-large more n h = rw (le-ltb n 128 h) refl

length-within-large : (more n : ℕ) → 128 ≤ n → length (vint_within (suc more) n) ≡ suc (length (vint_within more (n / 128)))
length-within-large more n h = ap length (within-large more n h)

pub length_one : (more n : ℕ) → n < 128 → length (vint_within more n) ≡ 1
length_one more n h = ap length (within-small more n h)

pub length_two : (more n : ℕ) → 128 ≤ n → n < 16384 → length (vint_within (suc more) n) ≡ 2
length_two more n h e = length-within-large more n h ∙ ap suc (length_one more (n / 128) (omega arith))

pub length_three : (more n : ℕ) → 16384 ≤ n → n < 2097152 → length (vint_within (suc (suc more)) n) ≡ 3
length_three more n h e = length-within-large (suc more) n (omega arith) ∙ ap suc (length_two more (n / 128) (omega arith) (omega arith))

pub length_four : (more n : ℕ) → 2097152 ≤ n → n < 268435456 → length (vint_within (suc (suc (suc more))) n) ≡ 4
length_four more n h e = length-within-large (suc (suc more)) n (omega arith) ∙ ap suc (length_three more (n / 128) (omega arith) (omega arith))

pub length_five : (n : ℕ) → 268435456 ≤ n → n < 2 ^ 32 → length (vint_within 4 n) ≡ 5
length_five n h e = length-within-large 3 n (omega arith) ∙ ap suc (length_four 0 (n / 128) (omega arith) (omega arith))

-- ---- reading, step by step

read-end : (more b : ℕ) (rest : List ℕ) → b < 128 → vint_read (suc more) (b ∷ rest) ≡ Ok (b, 1)
unfolding vint_read
read-end more b rest h = rw (lt-ltb b 128 h) refl

read-on : (more b : ℕ) (rest : List ℕ) → 128 ≤ b → vint_read (suc more) (b ∷ rest) ≡ with_first_byte b (vint_read more rest)
unfolding vint_read
read-on more b rest h = rw (le-ltb b 128 h) refl

read-last : (b : ℕ) (rest : List ℕ) → b < 16 → vint_read zero (b ∷ rest) ≡ Ok (b, 1)
unfolding vint_read
read-last b rest h = rw (lt-ltb b 16 h) refl

read-long : (b : ℕ) (rest : List ℕ) → 16 ≤ b → vint_read zero (b ∷ rest) ≡ Err Long
unfolding vint_read
read-long b rest h = rw (le-ltb b 16 h) refl

read-none : (more : ℕ) → vint_read more [] ≡ Err Short
unfolding vint_read
read-none zero = refl
read-none (suc more) = refl

-- so many bytes at the front, of at most `more` after the first, are a form of the number
pub record FormAt (more : ℕ) (bytes : List ℕ) (n taken : ℕ) : Type 0 where
  pub within : taken ≤ length bytes
  pub whole : is_vint (take taken bytes) ≡ true
  pub few : taken ≤ suc more
  pub value : vint_value (take taken bytes) ≡ n
  pub fits : n < vint_limit more

one_form : (more b : ℕ) (rest : List ℕ) → b < 128 → b < vint_limit more → FormAt more (b ∷ rest) b 1
one_form more b rest h fits =
    let end : goes_on b ≡ false = grind (arith, nat_tests) in
    record {
      within = omega arith;
      whole = rw end refl;
      few = omega arith;
      value = omega arith;
      fits = fits;
    }

more_form : (more b : ℕ) (rest : List ℕ) (n taken : ℕ) → 128 ≤ b → b < 256 → FormAt more rest n taken → FormAt (suc more) (b ∷ rest) (b - 128 + 128 * n) (suc taken)
more_form more b rest n taken h byte f =
    let on : goes_on b ≡ true = grind (arith, nat_tests) in
    record {
      within = omega (arith, f.within);
      whole = rw on f.whole;
      few = omega (arith, f.few);
      value = omega (arith, f.value);
      fits = omega (arith, f.fits, pow-suc 128 more);
    }

limit_least : (more : ℕ) → 128 ≤ vint_limit (suc more)
limit_least more = omega (arith, pow-suc 128 more, pow_pos_128 more)

abbrev pub answer : ℕ → ℕ → Result (ℕ × ℕ) VIntFault
answer n taken = Ok (n, taken)

pub ok_parts : (n taken m k : ℕ) → answer n taken ≡ answer m k → (n ≡ m) × (taken ≡ k)
ok_parts n taken m k e = (ap number_of e, ap taken_of e)
  where
    number_of : Result (ℕ × ℕ) VIntFault → ℕ
    number_of (Ok x) = x.0
    number_of (Err fault) = 0

    taken_of : Result (ℕ × ℕ) VIntFault → ℕ
    taken_of (Ok x) = x.1
    taken_of (Err fault) = 0

-- what reading answers at each front
pub data Reads (more : ℕ) (bytes : List ℕ) : Type 0 where
  form : (n taken : ℕ) → FormAt more bytes n taken → vint_read more bytes ≡ Ok (n, taken) → Reads more bytes
  short : length bytes ≤ more → list_all goes_on bytes ≡ true → vint_read more bytes ≡ Err Short → Reads more bytes
  long : list_all goes_on (take more bytes) ≡ true → 15 < get_or bytes more 0 → vint_read more bytes ≡ Err Long → Reads more bytes

reads_on : (more b : ℕ) (rest : List ℕ) → 128 ≤ b → b < 256 → Reads more rest → Reads (suc more) (b ∷ rest)
reads_on more b rest h byte (form n taken f e) =
    let next : suc taken ≡ taken + 1 = omega arith in
    form (b - 128 + 128 * n) (suc taken) (more_form more b rest n taken h byte f) (read-on more b rest h ∙ ap (with_first_byte b) e ∙ ap (answer (b - 128 + 128 * n)) (sym next))
reads_on more b rest h byte (short few all e) =
    let on : goes_on b ≡ true = grind (arith, nat_tests) in
    short (omega (arith, few)) (rw on all) (read-on more b rest h ∙ ap (with_first_byte b) e)
reads_on more b rest h byte (long all fifth e) =
    let on : goes_on b ≡ true = grind (arith, nat_tests) in
    long (rw on all) fifth (read-on more b rest h ∙ ap (with_first_byte b) e)

pub reads : (more : ℕ) (bytes : List ℕ) → AreBytes bytes → Reads more bytes
reads more [] h = short (omega arith) refl (read-none more)
reads zero (b ∷ rest) h =
    elim (cases_lt b 16) [
      | inl lt ↦ form b 1 (one_form zero b rest (omega arith) (omega arith)) (read-last b rest lt)
      | inr le ↦ long refl (omega arith) (read-long b rest le)
    ]
reads (suc more) (b ∷ rest) h =
    elim (cases_lt b 128) [
      | inl lt ↦ form b 1 (one_form (suc more) b rest lt (omega (arith, limit_least more))) (read-end more b rest lt)
      | inr le ↦ reads_on more b rest le (h 0) (reads more rest (AreBytes-rest b rest h))
    ]

-- two fronts of the same bytes that are forms are one
pub same_form : (bytes : List ℕ) (a b : ℕ) → a ≤ length bytes → b ≤ length bytes → is_vint (take a bytes) ≡ true → is_vint (take b bytes) ≡ true → a ≡ b
same_form [] zero zero h k e f = refl
same_form [] (suc a) b h k e f = absurd (omega arith)
same_form [] zero (suc b) h k e f = absurd (omega arith)
same_form (x ∷ bytes) zero b h k e f = absurd cc
same_form (x ∷ bytes) (suc a) zero h k e f = absurd cc
same_form (x ∷ bytes) (suc a) (suc b) h k e f =
    elim (cases_lt x 128) [
      | inl lt ↦
          let end : goes_on x ≡ false = grind (arith, nat_tests) in
          ap suc (none_left bytes a b (omega arith) (omega arith) (rw end at e) (rw end at f))
      | inr le ↦
          let on : goes_on x ≡ true = grind (arith, nat_tests) in
          ap suc (same_form bytes a b (omega arith) (omega arith) (rw on at e) (rw on at f))
    ]
  where
    no_length : (xs : List ℕ) (n : ℕ) → n ≤ length xs → nat_le (length (take n xs)) 0 ≡ true → n ≡ 0
    no_length xs zero h e = refl
    no_length [] (suc n) h e = absurd (omega arith)
    no_length (x ∷ xs) (suc n) h e = absurd (grind (arith, nat_tests, e))

    none_left : (xs : List ℕ) (m n : ℕ) → m ≤ length xs → n ≤ length xs → nat_le (length (take m xs)) 0 ≡ true → nat_le (length (take n xs)) 0 ≡ true → m ≡ n
    none_left xs m n h k e f = no_length xs m h e ∙ sym (no_length xs n k f)

-- a form is no front of bytes that all say that another follows
pub unended : (bytes : List ℕ) (taken : ℕ) → list_all goes_on bytes ≡ true → is_vint (take taken bytes) ≡ true → ⊥
unended bytes zero all e = absurd cc
unended [] (suc taken) all e = absurd cc
unended (x ∷ bytes) (suc taken) all e =
    elim (cases_lt x 128) [
      | inl lt ↦ let end : goes_on x ≡ false = grind (arith, nat_tests) in absurd (let h : false ≡ true = rw end at all in cc)
      | inr le ↦ let on : goes_on x ≡ true = grind (arith, nat_tests) in unended bytes taken (rw on at all) (rw on at e)
    ]

-- ---- what the code's branches give

abbrev pub after_first : List ℕ → List ℕ
after_first bytes = take (length bytes - 1) (drop 1 bytes)

pub first_and_rest : (bytes : List ℕ) → 1 ≤ length bytes → bytes ≡ get_or bytes 0 0 ∷ after_first bytes
first_and_rest [] h = absurd (omega arith)
first_and_rest (b ∷ bytes) h =
    let n : suc (length bytes) - 1 ≡ length bytes = omega arith in
    rw (n, take_all (length bytes) bytes (omega arith)) refl

pub none_read : (more : ℕ) (bytes : List ℕ) → length bytes < 1 → ◌≡◌ {A = Result (ℕ × ℕ) VIntFault} (Err Short) (vint_read more bytes)
none_read more [] h = sym (read-none more)
none_read more (b ∷ bytes) h = absurd (omega arith)

at_first : (more : ℕ) (bytes : List ℕ) (k : ℕ) (b : ℕ) → more ≡ k → 1 ≤ length bytes → b ≡ get_or bytes 0 0 → vint_read k (b ∷ after_first bytes) ≡ vint_read more bytes
at_first more bytes k b e len f =
    ap (λ (x : ℕ). vint_read k (x ∷ after_first bytes)) f ∙ ap (vint_read k) (sym (first_and_rest bytes len)) ∙ ap (λ (j : ℕ). vint_read j bytes) (sym e)

pub last_read : (more b : ℕ) (bytes : List ℕ) → more ≡ 0 → 1 ≤ length bytes → b ≡ get_or bytes 0 0 → b < 16 → answer b 1 ≡ vint_read more bytes
last_read more b bytes e len f h = sym (read-last b (after_first bytes) h) ∙ at_first more bytes 0 b e len f

pub long_read : (more b : ℕ) (bytes : List ℕ) → more ≡ 0 → 1 ≤ length bytes → b ≡ get_or bytes 0 0 → 16 ≤ b → ◌≡◌ {A = Result (ℕ × ℕ) VIntFault} (Err Long) (vint_read more bytes)
long_read more b bytes e len f h = sym (read-long b (after_first bytes) h) ∙ at_first more bytes 0 b e len f

more_is : (more : ℕ) → 0 < more → more ≡ suc (more - 1)
more_is more h = omega arith

pub end_read : (more b : ℕ) (bytes : List ℕ) → 0 < more → 1 ≤ length bytes → b ≡ get_or bytes 0 0 → b < 128 → answer b 1 ≡ vint_read more bytes
end_read more b bytes some len f h = sym (read-end (more - 1) b (after_first bytes) h) ∙ at_first more bytes (suc (more - 1)) b (more_is more some) len f

pub on_read : (more b : ℕ) (bytes : List ℕ) (read : Result (ℕ × ℕ) VIntFault) → 0 < more → 1 ≤ length bytes → b ≡ get_or bytes 0 0 → 128 ≤ b → read ≡ vint_read (more - 1) (after_first bytes)
    → with_first_byte b read ≡ vint_read more bytes
on_read more b bytes read some len f h e = ap (with_first_byte b) e ∙ sym (read-on (more - 1) b (after_first bytes) h) ∙ at_first more bytes (suc (more - 1)) b (more_is more some) len f

-- what was read of the rest leaves room for one byte more
pub read_below : (more n taken : ℕ) (bytes : List ℕ) → AreBytes bytes → answer n taken ≡ vint_read more bytes → n < vint_limit more
read_below more n taken bytes h e = below_of (reads more bytes h)
  where
    below_of : Reads more bytes → n < vint_limit more
    below_of (form m k f r) = let same = ok_parts n taken m k (e ∙ r) in omega (arith, f.fits, same.0)
    below_of (short few all r) = absurd (let no_ok : answer n taken ≡ Err Short = e ∙ r in cc)
    below_of (long all fifth r) = absurd (let no_ok : answer n taken ≡ Err Long = e ∙ r in cc)

pub limit_most : (more n : ℕ) → 0 < more → more ≤ 4 → n < vint_limit (more - 1) → n * 128 + 128 ≤ 2 ^ 32
limit_most zero n some le lt = absurd (omega arith)
limit_most (suc zero) n some le lt = omega arith
limit_most (suc (suc zero)) n some le lt = omega arith
limit_most (suc (suc (suc zero))) n some le lt = omega arith
limit_most (suc (suc (suc (suc zero)))) n some le lt = omega arith
limit_most (suc (suc (suc (suc (suc more))))) n some le lt = absurd (omega arith)

-- ---- the clauses of reading

abbrev Answer : Type 0
Answer = Result (ℕ × ℕ) VIntFault

form_begins : (bytes : List ℕ) (n taken : ℕ) → FormAt 4 bytes n taken → BeginsWithVInt bytes n taken
form_begins bytes n taken f = record {
  within = f.within;
  spelled = record { whole = f.whole; few = omega (arith, length-take taken bytes, f.few); value = f.value; fits = omega (arith, f.fits) };
}

-- no form stands at a front that passes the last byte
passes_no_form : (more : ℕ) (bytes : List ℕ) (taken : ℕ) → AreBytes bytes → list_all goes_on (take more bytes) ≡ true → 15 < get_or bytes more 0
    → is_vint (take taken bytes) ≡ true → taken ≤ suc more → vint_value (take taken bytes) < vint_limit more → ⊥
passes_no_form more [] taken h all fifth e few fits = absurd (omega arith)
passes_no_form more (b ∷ bytes) zero h all fifth e few fits = absurd cc
passes_no_form zero (b ∷ bytes) (suc zero) h all fifth e few fits =
    elim (cases_lt b 128) [
      | inl lt ↦ omega arith
      | inr le ↦ let on : goes_on b ≡ true = grind (arith, nat_tests) in let f : false ≡ true = rw on at e in cc
    ]
passes_no_form zero (b ∷ bytes) (suc (suc taken)) h all fifth e few fits = omega arith
passes_no_form (suc more) (b ∷ bytes) (suc taken) h all fifth e few fits =
    elim (cases_lt b 128) [
      | inl lt ↦ let end : goes_on b ≡ false = grind (arith, nat_tests) in let f : false ≡ true = rw end at all in cc
      | inr le ↦
          let on : goes_on b ≡ true = grind (arith, nat_tests) in
          passes_no_form more bytes taken (AreBytes-rest b bytes h) (rw on at all) fifth (rw on at e) (omega arith) (omega (arith, pow-suc 128 more))
    ]

taken_few : (bytes : List ℕ) (taken : ℕ) → taken ≤ length bytes → length (take taken bytes) ≤ 5 → taken ≤ 5
taken_few bytes taken h e = omega (arith, length-take taken bytes)

begins_read_of : (bytes : List ℕ) (n taken : ℕ) → AreBytes bytes → BeginsWithVInt bytes n taken → Reads 4 bytes → vint_read 4 bytes ≡ answer n taken
begins_read_of bytes n taken h b (form m k f r) =
    let same : k ≡ taken = same_form bytes k taken f.within b.within f.whole b.spelled.whole in
    let value : m ≡ n = sym f.value ∙ ap (λ (j : ℕ). vint_value (take j bytes)) same ∙ b.spelled.value in
    r ∙ ap (answer m) same ∙ ap (λ (j : ℕ). answer j taken) value
begins_read_of bytes n taken h b (short few all r) = absurd (unended bytes taken all b.spelled.whole)
begins_read_of bytes n taken h b (long all fifth r) =
    absurd (passes_no_form 4 bytes taken h all fifth b.spelled.whole (taken_few bytes taken b.within b.spelled.few) (omega (arith, b.spelled.value, b.spelled.fits)))

read_begins_of : (bytes : List ℕ) (n taken : ℕ) → vint_read 4 bytes ≡ answer n taken → Reads 4 bytes → BeginsWithVInt bytes n taken
read_begins_of bytes n taken e (form m k f r) =
    let same = ok_parts m k n taken (sym r ∙ e) in
    subst (λ (x : ℕ). BeginsWithVInt bytes x taken) same.0 (subst (λ (x : ℕ). BeginsWithVInt bytes m x) same.1 (form_begins bytes m k f))
read_begins_of bytes n taken e (short few all r) = absurd (let other : answer n taken ≡ Err Short = sym e ∙ r in cc)
read_begins_of bytes n taken e (long all fifth r) = absurd (let other : answer n taken ≡ Err Long = sym e ∙ r in cc)

-- a number is answered exactly where its form stands at the front
pub number_clause : (bytes : List ℕ) (r : Answer) → AreBytes bytes → r ≡ vint_read 4 bytes → (n taken : ℕ) → (r ≡ answer n taken) ↔ BeginsWithVInt bytes n taken
number_clause bytes r h e n taken =
    (λ f. read_begins_of bytes n taken (sym e ∙ f) (reads 4 bytes h), λ b. e ∙ begins_read_of bytes n taken h b (reads 4 bytes h))

short_read_of : (bytes : List ℕ) → EndsWithinVInt bytes → Reads 4 bytes → ◌≡◌ {A = Answer} (vint_read 4 bytes) (Err Short)
short_read_of bytes b (form m k f r) = absurd (unended bytes k b.unended f.whole)
short_read_of bytes b (short few all r) = r
short_read_of bytes b (long all fifth r) = absurd (omega (arith, fifth, get_or_past bytes 4 0 (omega (arith, b.few))))

read_short_of : (bytes : List ℕ) → ◌≡◌ {A = Answer} (vint_read 4 bytes) (Err Short) → Reads 4 bytes → EndsWithinVInt bytes
read_short_of bytes e (form m k f r) = absurd (let other : answer m k ≡ Err Short = sym r ∙ e in cc)
read_short_of bytes e (short few all r) = record { few = omega (arith, few); unended = all }
read_short_of bytes e (long all fifth r) = absurd (let other : ◌≡◌ {A = Answer} (Err Long) (Err Short) = sym r ∙ e in cc)

-- the bytes are too short exactly where they end before the last byte of a form
pub short_clause : (bytes : List ℕ) (r : Answer) → AreBytes bytes → r ≡ vint_read 4 bytes → (◌≡◌ {A = Answer} r (Err Short)) ↔ EndsWithinVInt bytes
short_clause bytes r h e = (λ f. read_short_of bytes (sym e ∙ f) (reads 4 bytes h), λ b. e ∙ short_read_of bytes b (reads 4 bytes h))

long_read_of : (bytes : List ℕ) → AreBytes bytes → PassesVInt bytes → Reads 4 bytes → ◌≡◌ {A = Answer} (vint_read 4 bytes) (Err Long)
long_read_of bytes h b (form m k f r) = absurd (passes_no_form 4 bytes k h b.unended b.fifth f.whole f.few (omega (arith, f.value, f.fits)))
long_read_of bytes h b (short few all r) = absurd (omega (arith, b.fifth, get_or_past bytes 4 0 few))
long_read_of bytes h b (long all fifth r) = r

read_long_of : (bytes : List ℕ) → ◌≡◌ {A = Answer} (vint_read 4 bytes) (Err Long) → Reads 4 bytes → PassesVInt bytes
read_long_of bytes e (form m k f r) = absurd (let other : answer m k ≡ Err Long = sym r ∙ e in cc)
read_long_of bytes e (short few all r) = absurd (let other : ◌≡◌ {A = Answer} (Err Short) (Err Long) = sym r ∙ e in cc)
read_long_of bytes e (long all fifth r) = record { unended = all; fifth = fifth }

-- they are too long exactly where the fifth byte is above 15
pub long_clause : (bytes : List ℕ) (r : Answer) → AreBytes bytes → r ≡ vint_read 4 bytes → (◌≡◌ {A = Answer} r (Err Long)) ↔ PassesVInt bytes
long_clause bytes r h e = (λ f. read_long_of bytes (sym e ∙ f) (reads 4 bytes h), λ b. e ∙ long_read_of bytes h b (reads 4 bytes h))

-- the three clauses leave one answer
pub read_is : (bytes : List ℕ) (r : Answer) → AreBytes bytes → ((n taken : ℕ) → (r ≡ answer n taken) ↔ BeginsWithVInt bytes n taken)
    → (◌≡◌ {A = Answer} r (Err Short)) ↔ EndsWithinVInt bytes → (◌≡◌ {A = Answer} r (Err Long)) ↔ PassesVInt bytes → r ≡ vint_read 4 bytes
read_is bytes r h number short_is long_is = by (reads 4 bytes h)
  where
    by : Reads 4 bytes → r ≡ vint_read 4 bytes
    by (form n taken f e) = (number n taken).1 (form_begins bytes n taken f) ∙ sym e
    by (short few all e) = short_is.1 (record { few = omega (arith, few); unended = all }) ∙ sym e
    by (long all fifth e) = long_is.1 (record { unended = all; fifth = fifth }) ∙ sym e

-- ---- writing: the rest of the number completes its form

-- so many bytes of the form stand, and `high` is what they leave of the number
pub record Goes (n : ℕ) (spelled : List ℕ) (len high : ℕ) : Type 0 where
  pub more : ℕ
  pub room : len + more ≡ 4
  pub size : length spelled ≡ 5
  pub fits : high < vint_limit more
  pub whole : take len spelled ++ vint_within more high ≡ vint n

pub goes_start : (n : ℕ) (spelled : List ℕ) → length spelled ≡ 5 → n < 2 ^ 32 → Goes n spelled 0 n
goes_start n spelled size h = record { more = 4; room = omega arith; size = size; fits = h; whole = refl }

cells : (x y : ℕ) (c : List ℕ) → x ≡ y → x ∷ c ≡ y ∷ c
cells x y c e = cc

goes_on_from : (n : ℕ) (spelled : List ℕ) (len high : ℕ) → 128 ≤ high → (more : ℕ) → len + more ≡ 4 → length spelled ≡ 5 → high < vint_limit more → take len spelled ++ vint_within more high ≡ vint n
    → Goes n (set spelled len (high % 128 + 128)) (len + 1) (high / 128)
goes_on_from n spelled len high le zero room size fits whole = absurd (omega arith)
goes_on_from n spelled len high le (suc more) room size fits whole = record {
  more = more;
  room = omega arith;
  size = length-set spelled len (high % 128 + 128) ∙ size;
  fits = omega (arith, pow-suc 128 more);
  whole =
      ap (λ (x : List ℕ). x ++ vint_within more (high / 128)) (take_more_set spelled len (high % 128 + 128) (omega arith))
      ∙ append_assoc (take len spelled) ((high % 128 + 128) ∷ []) (vint_within more (high / 128))
      ∙ ap (λ (x : List ℕ). take len spelled ++ x) (cells (high % 128 + 128) (128 + high % 128) (vint_within more (high / 128)) (omega arith) ∙ sym (within-large more high le)) ∙ whole;
}

pub goes_more : (n : ℕ) (spelled : List ℕ) (len high : ℕ) → 128 ≤ high → Goes n spelled len high → Goes n (set spelled len (high % 128 + 128)) (len + 1) (high / 128)
goes_more n spelled len high le g = goes_on_from n spelled len high le g.more g.room g.size g.fits g.whole

pub goes_end : (n : ℕ) (spelled : List ℕ) (len high : ℕ) → high < 128 → Goes n spelled len high → take (len + 1) (set spelled len high) ≡ vint n
goes_end n spelled len high lt g =
    take_more_set spelled len high (omega (arith, g.room, g.size)) ∙ ap (λ (x : List ℕ). take len spelled ++ x) (sym (within-small g.more high lt)) ∙ g.whole

-- what was put at the end where that was done
pub put_at_end : {E : Type 0} (r : Result (Unit {0}) E) (before added spelled out : List ℕ) → out ≡ cond (is_ok r) (before ++ added) before → added ≡ spelled → OnOk r (out ≡ before ++ spelled)
put_at_end (Ok x) before added spelled out h e = h ∙ ap (λ (x : List ℕ). before ++ x) e
put_at_end (Err x) before added spelled out h e = tt

-- ---- the form that is written is one of the forms, and none is shorter

shortest_form : (more n : ℕ) → n < vint_limit more → FormAt more (vint_within more n) n (length (vint_within more n))
shortest_form zero n h = subst (λ (x : List ℕ). FormAt zero x n (length x)) (sym (within-small zero n (omega arith))) (one_form zero n [] (omega arith) h)
shortest_form (suc more) n h =
    elim (cases_lt n 128) [
      | inl lt ↦ subst (λ (x : List ℕ). FormAt (suc more) x n (length x)) (sym (within-small (suc more) n lt)) (one_form (suc more) n [] lt h)
      | inr le ↦
          let f = shortest_form more (n / 128) (omega (arith, pow-suc 128 more)) in
          let back : 128 + n % 128 - 128 + 128 * (n / 128) ≡ n = omega arith in
          subst (λ (x : List ℕ). FormAt (suc more) x n (length x)) (sym (within-large more n le))
          (subst (λ (k : ℕ). FormAt (suc more) ((128 + n % 128) ∷ vint_within more (n / 128)) k (suc (length (vint_within more (n / 128))))) back
          (more_form more (128 + n % 128) (vint_within more (n / 128)) (n / 128) (length (vint_within more (n / 128))) (omega arith) (omega arith) f))
    ]

-- what is written is a form of the number
pub vint_spells : (n : ℕ) → n < 2 ^ 32 → SpellsVInt (vint n) n
vint_spells n h =
    let f = shortest_form 4 n (omega arith) in
    let whole : take (length (vint n)) (vint n) ≡ vint n = take_all (length (vint n)) (vint n) (omega arith) in
    record { whole = rw whole at f.whole; few = f.few; value = rw whole at f.value; fits = h }

length-within-zero : (n : ℕ) → length (vint_within zero n) ≡ 1
unfolding vint_within
length-within-zero n = refl

-- a byte that begins a number above 127 says that another follows
begins_large : (b : ℕ) (bytes : List ℕ) → is_vint (b ∷ bytes) ≡ true → 128 ≤ vint_value (b ∷ bytes) → 128 ≤ b
begins_large b [] e h = omega arith
begins_large b (x ∷ bytes) e h =
    elim (cases_lt b 128) [
      | inl lt ↦ let end : goes_on b ≡ false = grind (arith, nat_tests) in absurd (let f : nat_le (suc (length bytes)) 0 ≡ true = rw end at e in grind (arith, nat_tests, f))
      | inr le ↦ le
    ]

length-within-le : (more : ℕ) (bytes : List ℕ) (n : ℕ) → AreBytes bytes → is_vint bytes ≡ true → vint_value bytes ≡ n → length (vint_within more n) ≤ length bytes
length-within-le more [] n h e v = absurd cc
length-within-le zero (b ∷ bytes) n h e v = omega (arith, length-within-zero n)
length-within-le (suc more) (b ∷ bytes) n h e v =
    elim (cases_lt n 128) [
      | inl lt ↦ omega (arith, length_one (suc more) n lt)
      | inr le ↦
          let first : 128 ≤ b = begins_large b bytes e (omega (arith, v)) in
          let on : goes_on b ≡ true = grind (arith, nat_tests) in
          let ih = length-within-le more bytes (n / 128) (AreBytes-rest b bytes h) (rw on at e) (omega (arith, v)) in
          omega (arith, length-within-large more n le, ih)
    ]

-- no form of a number is shorter than the one that is written
pub vint_shortest : (bytes : List ℕ) (n : ℕ) → AreBytes bytes → SpellsVInt bytes n → length (vint n) ≤ length bytes
vint_shortest bytes n h s = length-within-le 4 bytes n h s.whole s.value

-- two forms of one number and one length are one
pub same_spelling : (xs ys : List ℕ) → AreBytes xs → AreBytes ys → is_vint xs ≡ true → is_vint ys ≡ true → length xs ≡ length ys → vint_value xs ≡ vint_value ys → xs ≡ ys
same_spelling [] [] h k e f l v = refl
same_spelling [] (y ∷ ys) h k e f l v = absurd (omega arith)
same_spelling (x ∷ xs) [] h k e f l v = absurd (omega arith)
same_spelling (x ∷ []) (y ∷ []) h k e f l v =
    let one : (b : ℕ) → is_vint (b ∷ []) ≡ true → b < 128 = λ b i. elim (cases_lt b 128) [ inl lt ↦ lt | inr le ↦ absurd (let on : goes_on b ≡ true = grind (arith, nat_tests) in let g : false ≡ true = rw on at i in cc) ] in
    cells x y [] (omega (arith, one x e, one y f))
same_spelling (x ∷ []) (y ∷ z ∷ ys) h k e f l v = absurd (omega arith)
same_spelling (x ∷ z ∷ xs) (y ∷ []) h k e f l v = absurd (omega arith)
same_spelling (x ∷ a ∷ xs) (y ∷ b ∷ ys) h k e f l v =
    let more : (c d : ℕ) (bs : List ℕ) → is_vint (c ∷ d ∷ bs) ≡ true → 128 ≤ c = λ c d bs i. elim (cases_lt c 128) [ inl lt ↦ absurd (let end : goes_on c ≡ false = grind (arith, nat_tests) in let g : nat_le (suc (length bs)) 0 ≡ true = rw end at i in grind (arith, nat_tests, g)) | inr le ↦ le ] in
    let on_x : goes_on x ≡ true = (let le : 128 ≤ x = more x a xs e in grind (arith, nat_tests)) in
    let on_y : goes_on y ≡ true = (let le : 128 ≤ y = more y b ys f in grind (arith, nat_tests)) in
    let rest : a ∷ xs ≡ b ∷ ys = same_spelling (a ∷ xs) (b ∷ ys) (AreBytes-rest x (a ∷ xs) h) (AreBytes-rest y (b ∷ ys) k) (rw on_x at e) (rw on_y at f) (omega arith) (omega (arith, v)) in
    let first : x ≡ y = omega (arith, v, h 0, k 0, more x a xs e, more y b ys f) in
    cells x y (a ∷ xs) first ∙ ap (λ (t : List ℕ). y ∷ t) rest

AreBytes-within : (more n : ℕ) → n < vint_limit more → AreBytes (vint_within more n)
AreBytes-within zero n h = subst AreBytes (sym (within-small zero n (omega arith))) (AreBytes-cons n [] (omega arith) AreBytes-none)
AreBytes-within (suc more) n h =
    elim (cases_lt n 128) [
      | inl lt ↦ subst AreBytes (sym (within-small (suc more) n lt)) (AreBytes-cons n [] (omega arith) AreBytes-none)
      | inr le ↦ subst AreBytes (sym (within-large more n le)) (AreBytes-cons (128 + n % 128) (vint_within more (n / 128)) (omega arith) (AreBytes-within more (n / 128) (omega (arith, pow-suc 128 more))))
    ]

-- what is written is read back, whatever follows it
pub read_again : (more n : ℕ) (rest : List ℕ) → n < vint_limit more → vint_read more (vint_within more n ++ rest) ≡ answer n (length (vint_within more n))
read_again zero n rest h = ap (λ (t : List ℕ). vint_read zero (t ++ rest)) (within-small zero n (omega arith)) ∙ read-last n rest (omega arith) ∙ ap (answer n) (sym (length_one zero n (omega arith)))
read_again (suc more) n rest h =
    elim (cases_lt n 128) [
      | inl lt ↦ ap (λ (t : List ℕ). vint_read (suc more) (t ++ rest)) (within-small (suc more) n lt) ∙ read-end more n rest lt ∙ ap (answer n) (sym (length_one (suc more) n lt))
      | inr le ↦
          let len = length (vint_within more (n / 128)) in
          let back : 128 + n % 128 - 128 + 128 * (n / 128) ≡ n = omega arith in
          let long : len + 1 ≡ length (vint_within (suc more) n) = omega (arith, length-within-large more n le) in
          ap (λ (t : List ℕ). vint_read (suc more) (t ++ rest)) (within-large more n le)
          ∙ read-on more (128 + n % 128) (vint_within more (n / 128) ++ rest) (omega arith)
          ∙ ap (with_first_byte (128 + n % 128)) (read_again more (n / 128) rest (omega (arith, pow-suc 128 more)))
          ∙ ap (λ (k : ℕ). answer k (len + 1)) back ∙ ap (answer n) long
    ]

-- a number that is read in as few bytes as its shortest form has is read from that form
pub read_shortest : (bytes : List ℕ) (n taken : ℕ) → AreBytes bytes → vint_read 4 bytes ≡ answer n taken → taken ≡ length (vint n) → (take taken bytes ≡ vint n) × (n < 2 ^ 32)
read_shortest bytes n taken h e len =
    let b = (number_clause bytes (vint_read 4 bytes) h refl n taken).0 e in
    let s = vint_spells n b.spelled.fits in
    (same_spelling (take taken bytes) (vint n) (AreBytes-take taken bytes h) (AreBytes-within 4 n b.spelled.fits) b.spelled.whole s.whole (omega (arith, length-take taken bytes, b.within, len)) (b.spelled.value ∙ sym s.value), b.spelled.fits)

-- ---- the code's recursion

AreBytes-after : (bytes : List ℕ) → AreBytes bytes → 1 ≤ length bytes → AreBytes (after_first bytes)
AreBytes-after bytes h len = AreBytes-rest (get_or bytes 0 0) (after_first bytes) (subst AreBytes (first_and_rest bytes len) h)

pub rest_below : (more n taken : ℕ) (bytes : List ℕ) → AreBytes bytes → 1 ≤ length bytes → answer n taken ≡ vint_read more (after_first bytes) → n < vint_limit more
rest_below more n taken bytes h len e = read_below more n taken (after_first bytes) (AreBytes-after bytes h len) e

-- the code's answer has few bytes
pub rest_few : (more n taken : ℕ) (bytes : List ℕ) → AreBytes bytes → 1 ≤ length bytes → answer n taken ≡ vint_read more (after_first bytes) → taken ≤ suc more
rest_few more n taken bytes h len e = few_of (reads more (after_first bytes) (AreBytes-after bytes h len))
  where
    few_of : Reads more (after_first bytes) → taken ≤ suc more
    few_of (form m k f r) = let same = ok_parts n taken m k (e ∙ r) in omega (arith, f.few, same.1)
    few_of (short few all r) = absurd (let other : answer n taken ≡ Err Short = e ∙ r in cc)
    few_of (long all fifth r) = absurd (let other : answer n taken ≡ Err Long = e ∙ r in cc)

pub err_of : (r : Answer) (fault : VIntFault) → IsErrAnd r (λ e. e ≡ fault) → r ≡ Err fault
err_of (Ok x) fault h = absurd h
err_of (Err e) fault h = ap refused h
  where
    refused : VIntFault → Answer
    refused f = Err f

-- a byte below 128 is a number of one byte
pub read_one : (b : ℕ) (rest : List ℕ) → b < 128 → vint_read 4 (b ∷ rest) ≡ answer b 1
read_one b rest h = read-end 3 b rest h
