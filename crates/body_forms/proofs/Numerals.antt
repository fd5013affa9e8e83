-- A number in its shortest form, and a string, have one spelling.
use Rattle.std.proofs.Common.{◌≡◌, ℕ, ◌^◌, ◌<◌, ◌≤◌, true, false, cond, List, ◌∷◌, ◌++◌, length, get_or, take, drop, Some, None, Result, Ok, Err, refl, sym, ap, subst, ◌∙◌, append_assoc, arith}
use Rattle.std.specs.Prelude.{nat_lt, ◌==◌}
use Rattle.std.proofs.lemmas.Bool.{ltb-false, le-ltb, eqb-true, eq-eqb, ne_eqb}
use Rattle.std.proofs.lemmas.Option.{some_pair_parts}
use Rattle.std.proofs.lemmas.List.{length-append, length-take, take_at, drop_at, take-append-drop}
use Rattle.codec_frame.specs.Bytes.{AreBytes}
use Rattle.body_forms.specs.declared.vint.VIntFault.{VIntFault}
use Rattle.body_forms.specs.Format.{Read, ◌>>=◌, Takes, IsFormat}
use Rattle.body_forms.specs.VInts.{vint, vint_read}
use Rattle.body_forms.specs.Numbers.{shortest_of, vint_at, string, string_at}
use Rattle.body_forms.proofs.VIntLemmas.{answer, read_again, read_shortest, first_and_rest, after_first, read_one, length_one, ok_parts}
use Rattle.body_forms.proofs.Formats.{AreBytes-drop, bind_some, passed, not_stopped}

vint_again : (n : ℕ) (rest : List ℕ) → n < 2 ^ 32 → vint_at (vint n ++ rest) ≡ Some (n, rest)
unfolding vint_at
vint_again n rest h =
    let same : (length (vint n) == length (vint n)) ≡ true = eq-eqb (length (vint n)) (length (vint n)) refl in
    let after : drop (length (vint n)) (vint n ++ rest) ≡ rest = drop_at (vint n) rest (length (vint n)) refl in
    ap (shortest_of (vint n ++ rest)) (read_again 4 n rest h) ∙ rw (same, after) refl

-- a vInt that is read stands at the front in its shortest form
taken_of : (bytes : List ℕ) (read : Result (ℕ × ℕ) VIntFault) (n : ℕ) (rest : List ℕ) → AreBytes bytes → read ≡ vint_read 4 bytes → shortest_of bytes read ≡ Some (n, rest) → Takes bytes (vint n) rest × (n < 2 ^ 32)
taken_of bytes (Err fault) n rest fits e f = absurd cc
taken_of bytes (Ok x) n rest fits e f =
    let p = passed (x.1 == length (vint x.0)) (Some (x.0, drop x.1 bytes)) (n, rest) f in
    let q = some_pair_parts x.0 n (drop x.1 bytes) rest p.1 in
    let s = read_shortest bytes x.0 x.1 fits (sym e) (eqb-true x.1 (length (vint x.0)) p.0) in
    let front : bytes ≡ vint x.0 ++ drop x.1 bytes = sym (take-append-drop x.1 bytes) ∙ ap (λ (t : List ℕ). t ++ drop x.1 bytes) s.0 in
    (record { parts = front ∙ ap (λ (k : ℕ). vint k ++ drop x.1 bytes) q.0 ∙ ap (λ (t : List ℕ). vint n ++ t) q.1; rest_fits = subst AreBytes q.1 (AreBytes-drop x.1 bytes fits) }, subst (λ (k : ℕ). k < 2 ^ 32) q.0 s.1)

vint_takes : (bytes : List ℕ) (n : ℕ) (rest : List ℕ) → AreBytes bytes → vint_at bytes ≡ Some (n, rest) → Takes bytes (vint n) rest × (n < 2 ^ 32)
unfolding vint_at
vint_takes bytes n rest fits e = taken_of bytes (vint_read 4 bytes) n rest fits refl e

pub vint_format : IsFormat vint (λ n. n < 2 ^ 32) vint_at
vint_format = record { again = λ n rest h. vint_again n rest h; takes = λ bytes n rest fits e. vint_takes bytes n rest fits e }

abbrev text_from : ℕ × List ℕ → Read (List ℕ)
text_from n = cond (nat_lt (length n.1) n.0) None (Some (take n.0 n.1, drop n.0 n.1))

string_again : (t rest : List ℕ) → length t < 2 ^ 32 → string_at (string t ++ rest) ≡ Some (t, rest)
unfolding string_at
string_again t rest h =
    let long : nat_lt (length (t ++ rest)) (length t) ≡ false = le-ltb (length (t ++ rest)) (length t) (omega (arith, length-append t rest)) in
    ap (λ (x : List ℕ). vint_at x >>= text_from) (append_assoc (vint (length t)) t rest)
    ∙ ap (λ (r : Read ℕ). r >>= text_from) (vint_format.again (length t) (t ++ rest) h)
    ∙ rw (long, take_at t rest, drop_at t rest) refl

string_takes : (bytes t rest : List ℕ) → AreBytes bytes → string_at bytes ≡ Some (t, rest) → Takes bytes (string t) rest × (length t < 2 ^ 32)
unfolding string_at
string_takes bytes t rest fits e =
    let r = bind_some (vint_at bytes) text_from (t, rest) e in
    let n = r.0.0 in
    let after = r.0.1 in
    let s = not_stopped (nat_lt (length after) n) (Some (take n after, drop n after)) (t, rest) r.2 in
    let q = some_pair_parts (take n after) t (drop n after) rest s.1 in
    let v = vint_format.takes bytes n after fits r.1 in
    let le : n ≤ length after = ltb-false _ _ s.0 in
    let len : length t ≡ n = sym (ap length q.0) ∙ omega (arith, length-take n after) in
    let front : vint n ≡ vint (length t) = ap vint (sym len) in
    let split : after ≡ t ++ rest = sym (take-append-drop n after) ∙ ap (λ (x : List ℕ). x ++ drop n after) q.0 ∙ ap (λ (x : List ℕ). t ++ x) q.1 in (
      record {
        parts = v.0.parts ∙ ap (λ (x : List ℕ). vint n ++ x) split ∙ ap (λ (x : List ℕ). x ++ (t ++ rest)) front ∙ sym (append_assoc (vint (length t)) t rest);
        rest_fits = subst AreBytes q.1 (AreBytes-drop n after v.0.rest_fits);
      },
      omega (arith, len, v.1),
    )

pub string_format : IsFormat string (λ t. length t < 2 ^ 32) string_at
unfolding string_at
string_format = record {
  again = λ t rest h. string_again t rest h;
  takes = λ bytes t rest fits e. string_takes bytes t rest fits e;
}

-- ---- what the branches of `vint_of` give

-- one byte below 128 is a number
pub one_byte : (n : ℕ) (bytes : List ℕ) → 1 ≤ length bytes → n ≡ get_or bytes 0 0 → get_or bytes 0 0 < 128 → ◌≡◌ {A = Read ℕ} (Some (n, after_first bytes)) (vint_at bytes)
unfolding vint_at
one_byte n bytes len e lt =
    let b = get_or bytes 0 0 in
    let one : (1 == length (vint b)) ≡ true = eq-eqb 1 (length (vint b)) (sym (length_one 4 b lt)) in
    ap (λ (k : ℕ). Some (k, after_first bytes)) e
    ∙ sym (ap (λ (x : List ℕ). shortest_of x (vint_read 4 x)) (first_and_rest bytes len) ∙ ap (shortest_of (b ∷ after_first bytes)) (read_one b (after_first bytes) lt) ∙ rw one refl)

-- a number that was read in its shortest form
pub shortest : (n taken : ℕ) (bytes : List ℕ) (len : ℕ) → answer n taken ≡ vint_read 4 bytes → len ≡ length (vint n) → taken ≡ len → ◌≡◌ {A = Read ℕ} (Some (n, drop taken bytes)) (vint_at bytes)
unfolding vint_at
shortest n taken bytes len e f g =
    let same : (taken == length (vint n)) ≡ true = eq-eqb taken (length (vint n)) (g ∙ f) in
    sym (ap (shortest_of bytes) (sym e) ∙ rw same refl)

-- what was read otherwise is no number: it has a longer form, or there is none
pub not_shortest : (bytes : List ℕ) (r : Result (ℕ × ℕ) VIntFault) → r ≡ vint_read 4 bytes → ((n taken : ℕ) → r ≡ answer n taken → taken ≡ length (vint n) → ⊥) → ◌≡◌ {A = Read ℕ} None (vint_at bytes)
unfolding vint_at
not_shortest bytes (Err fault) e other = ap (shortest_of bytes) e
not_shortest bytes (Ok x) e other =
    let apart : (x.1 == length (vint x.0)) ≡ false = ne_eqb x.1 (length (vint x.0)) (λ same. other x.0 x.1 refl same) in
    sym (ap (shortest_of bytes) (sym e) ∙ rw apart refl)

-- one answer does not have two lengths
pub longer : (n taken len m k : ℕ) → answer n taken ≡ answer m k → len ≡ length (vint n) → (taken ≡ len → ⊥) → k ≡ length (vint m) → ⊥
longer n taken len m k e f other g =
    let same = ok_parts n taken m k e in
    other (same.1 ∙ g ∙ ap (λ (x : ℕ). length (vint x)) (sym same.0) ∙ sym f)
