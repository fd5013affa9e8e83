-- Rows and their bits.
use Rattle.std.proofs.Common.{◌≡◌, ℕ, ◌+◌, ◌*◌, ◌/◌, ◌<◌, ◌≤◌, Bool, false, List, length, get_or, sym, ◌∙◌, inl, inr, arith}
use Rattle.std.proofs.lemmas.Bool.{cases_lt}
use Rattle.std.proofs.lemmas.List.{ext_get_or, get_or_past}
use Rattle.std.proofs.lemmas.List.FromFn.{length-map-range_with_len, get_or-map-range_with_len}
use Rattle.codec_frame.specs.Bytes.{AreBytes}
use Rattle.live_bits.specs.LiveRows.{has_bit, live_rows, IsPacked}
use Rattle.live_bits.specs.Held.{rows_in}
use Rattle.live_bits.proofs.BitLaws.{live-rows_in, below_past, same_bits}

pub length-rows_in : (n : ℕ) (bits : List ℕ) → length (rows_in n bits) ≡ n
unfolding rows_in
length-rows_in n bits = length-map-range_with_len (has_bit bits) 0 n

pub rows_in_at : (n : ℕ) (bits : List ℕ) (i : ℕ) → i < n → get_or (rows_in n bits) i false ≡ has_bit bits i
unfolding rows_in
rows_in_at n bits i lt = get_or-map-range_with_len (has_bit bits) 0 n i i false lt (omega arith)

-- rows have one packing, and bits with a number of rows are packed from one list of rows
pub one_packing : (a b : List ℕ) (live : List Bool) → IsPacked a live → IsPacked b live → a ≡ b
one_packing a b live p q = same_bits a b p.bytes q.bytes (p.enough ∙ sym q.enough) (λ i. p.each i ∙ sym (q.each i))

pub one_content : (bits : List ℕ) (x y : List Bool) → length x ≡ length y → IsPacked bits x → IsPacked bits y → x ≡ y
one_content bits x y len p q = ext_get_or false x y len (λ i lt. sym (p.each i) ∙ q.each i)

-- the bits past the last of n rows are clear
abbrev pub EndsClear : List ℕ → ℕ → Type 0
EndsClear bits n = (i : ℕ) → n ≤ i → has_bit bits i ≡ false

pub packed_rows : (n : ℕ) (bits : List ℕ) → AreBytes bits → length bits ≡ (n + 7) / 8 → EndsClear bits n → IsPacked bits (rows_in n bits)
packed_rows n bits fits long clear = record {
  bytes = fits;
  enough = omega (arith, long, length-rows_in n bits);
  each = λ i. elim (cases_lt i n) [
    | inl lt ↦ sym (rows_in_at n bits i lt)
    | inr ge ↦ clear i ge ∙ sym (get_or_past (rows_in n bits) i false (omega (arith, length-rows_in n bits)))
  ];
}

pub rows_are : (n : ℕ) (bits : List ℕ) (live : List Bool) → length live ≡ n → IsPacked bits live → rows_in n bits ≡ live
rows_are n bits live len p = ext_get_or false (rows_in n bits) live (omega (arith, length-rows_in n bits)) (λ i lt. rows_in_at n bits i (omega (arith, length-rows_in n bits)) ∙ p.each i)

pub ends_clear_of : (bits : List ℕ) (live : List Bool) → IsPacked bits live → EndsClear bits (length live)
ends_clear_of bits live p i le = p.each i ∙ get_or_past live i false le

-- all bits together are as many as those of the rows
pub whole_count : (n : ℕ) (bits : List ℕ) → length bits ≡ (n + 7) / 8 → EndsClear bits n → live_rows (rows_in (8 * length bits) bits) ≡ live_rows (rows_in n bits)
whole_count n bits long clear =
    live-rows_in (8 * length bits) bits ∙ below_past (has_bit bits) n (8 * length bits) (omega arith) clear ∙ sym (live-rows_in n bits)
