-- Where the parts of a table of items stand.
use Rattle.std.proofs.Common.{◌≡◌, ℕ, zero, suc, ◌+◌, ◌-◌, ◌*◌, ◌<◌, ◌≤◌, List, [], ◌∷◌, ◌++◌, length, get_or, take, drop, refl, ap, ◌∙◌, append_assoc, arith}
use Rattle.std.specs.List.{flat_map}
use Rattle.std.specs.Int.{w32, from_be_bytes}
use Rattle.std.proofs.Math.Seq.{drop-append-add, take-append_seam}
use Rattle.std.proofs.lemmas.Nat.{from_be_bytes-to_be_bytes_4}
use Rattle.std.proofs.lemmas.List.{length-append}
use Rattle.std.proofs.lemmas.List.Concat.{flat_map-cons}
use Rattle.body_forms.specs.Numbers.{u32_bytes}
use Rattle.body_forms.specs.ItemTable.{concat, starts, IsItemTable}

pub length-starts : (at : ℕ) (items : List (List ℕ)) → length (starts at items) ≡ length items + 1
length-starts at [] = refl
length-starts at (item ∷ items) = omega (arith, length-starts (at + length item) items)

pub length-numbers : (ns : List ℕ) → length (flat_map u32_bytes ns) ≡ 4 * length ns
length-numbers [] = refl
length-numbers (n ∷ ns) = ap length (flat_map-cons u32_bytes n ns) ∙ length-append (u32_bytes n) (flat_map u32_bytes ns) ∙ omega (arith, length-numbers ns)

pub concat-cons : (item : List ℕ) (items : List (List ℕ)) → concat (item ∷ items) ≡ item ++ concat items
concat-cons item items = flat_map-cons (λ x. x) item items

-- the offset at i
pub starts-at : (i at : ℕ) (items : List (List ℕ)) → i ≤ length items → get_or (starts at items) i 0 ≡ at + length (concat (take i items))
starts-at zero at [] h = omega arith
starts-at zero at (item ∷ items) h = omega arith
starts-at (suc i) at [] h = absurd (omega arith)
starts-at (suc i) at (item ∷ items) h =
    starts-at i (at + length item) items (omega arith) ∙ omega (arith, ap length (concat-cons item (take i items)), length-append item (concat (take i items)))

-- the bytes of the offset at i
pub number-at : (i : ℕ) (ns : List ℕ) (rest : List ℕ) → i < length ns → take 4 (drop (4 * i) (flat_map u32_bytes ns ++ rest)) ≡ u32_bytes (get_or ns i 0)
number-at i [] rest h = absurd (omega arith)
number-at zero (n ∷ ns) rest h = ap (λ (x : List ℕ). take 4 (x ++ rest)) (flat_map-cons u32_bytes n ns)
number-at (suc i) (n ∷ ns) rest h =
    let e : 4 * suc i ≡ 4 + 4 * i = omega arith in
    let split : flat_map u32_bytes (n ∷ ns) ++ rest ≡ u32_bytes n ++ (flat_map u32_bytes ns ++ rest) = ap (λ (x : List ℕ). x ++ rest) (flat_map-cons u32_bytes n ns) ∙ append_assoc (u32_bytes n) (flat_map u32_bytes ns) rest in
    ap (λ (k : ℕ). take 4 (drop k (flat_map u32_bytes (n ∷ ns) ++ rest))) e ∙ ap (λ (x : List ℕ). take 4 (drop (4 + 4 * i) x)) split
    ∙ ap (take 4) (drop-append-add (u32_bytes n) (flat_map u32_bytes ns ++ rest) (4 * i)) ∙ number-at i ns rest (omega arith)

-- the item at i, in the area
pub item-at : (i : ℕ) (items : List (List ℕ)) → i < length items → drop (length (concat (take i items))) (concat items) ≡ get_or items i [] ++ concat (drop (i + 1) items)
item-at i [] h = absurd (omega arith)
item-at zero (item ∷ items) h = concat-cons item items
item-at (suc i) (item ∷ items) h =
    let n : length (concat (take (suc i) (item ∷ items))) ≡ length item + length (concat (take i items)) = ap length (concat-cons item (take i items)) ∙ length-append item (concat (take i items)) in
    let e : suc i + 1 ≡ suc (i + 1) = omega arith in
    ap (λ (k : ℕ). drop k (concat (item ∷ items))) n ∙ ap (drop (length item + length (concat (take i items)))) (concat-cons item items) ∙ drop-append-add item (concat items) (length (concat (take i items)))
    ∙ item-at i items (omega arith) ∙ rw e refl

pub front_at_most : (i : ℕ) (items : List (List ℕ)) → length (concat (take i items)) ≤ length (concat items)
front_at_most zero items = omega arith
front_at_most (suc i) [] = omega arith
front_at_most (suc i) (item ∷ items) = omega (arith, front_at_most i items, ap length (concat-cons item (take i items)), length-append item (concat (take i items)), ap length (concat-cons item items), length-append item (concat items))

pub next_front : (i : ℕ) (items : List (List ℕ)) → i < length items → length (concat (take (i + 1) items)) ≡ length (concat (take i items)) + length (get_or items i [])
next_front i [] h = absurd (omega arith)
next_front zero (item ∷ items) h = ap length (concat-cons item []) ∙ length-append item [] ∙ omega arith
next_front (suc i) (item ∷ items) h =
    let e : suc i + 1 ≡ suc (i + 1) = omega arith in
    ap (λ (k : ℕ). length (concat (take k (item ∷ items)))) e ∙ ap length (concat-cons item (take (i + 1) items)) ∙ length-append item (concat (take (i + 1) items))
    ∙ omega (arith, next_front i items (omega arith), ap length (concat-cons item (take i items)), length-append item (concat (take i items)))

-- ---- in the whole

pub table_length : (bytes : List ℕ) (items : List (List ℕ)) → IsItemTable bytes items → length bytes ≡ 8 + 4 * length items + length (concat items)
table_length bytes items t =
    ap length t.whole ∙ length-append (u32_bytes (length items)) (flat_map u32_bytes (starts 0 items) ++ concat items) ∙ omega (arith, length-append (flat_map u32_bytes (starts 0 items)) (concat items), length-numbers (starts 0 items), length-starts 0 items)

pub table_count : (bytes : List ℕ) (items : List (List ℕ)) → IsItemTable bytes items → from_be_bytes w32 (take 4 (drop 0 bytes)) ≡ length items
table_count bytes items t = ap (λ (x : List ℕ). from_be_bytes w32 (take 4 x)) t.whole ∙ from_be_bytes-to_be_bytes_4 (length items) t.count

pub table_start : (bytes : List ℕ) (items : List (List ℕ)) (i : ℕ) → IsItemTable bytes items → i ≤ length items → from_be_bytes w32 (take 4 (drop (4 + 4 * i) bytes)) ≡ length (concat (take i items))
table_start bytes items i t h =
    let first = u32_bytes (length items) in
    let rest = flat_map u32_bytes (starts 0 items) ++ concat items in
    let there : take 4 (drop (4 + 4 * i) bytes) ≡ u32_bytes (get_or (starts 0 items) i 0) =
    ap (λ (x : List ℕ). take 4 (drop (4 + 4 * i) x)) t.whole ∙ ap (take 4) (drop-append-add first rest (4 * i)) ∙ number-at i (starts 0 items) (concat items) (omega (arith, length-starts 0 items)) in
    let value : get_or (starts 0 items) i 0 ≡ length (concat (take i items)) = starts-at i 0 items h ∙ omega arith in
    ap (from_be_bytes w32) (there ∙ ap u32_bytes value) ∙ from_be_bytes-to_be_bytes_4 (length (concat (take i items))) (omega (arith, front_at_most i items, t.area))

pub table_area : (bytes : List ℕ) (items : List (List ℕ)) (k : ℕ) → IsItemTable bytes items → drop (8 + 4 * length items + k) bytes ≡ drop k (concat items)
table_area bytes items k t =
    let first = u32_bytes (length items) in
    let table = flat_map u32_bytes (starts 0 items) in
    let long : length table ≡ 4 + 4 * length items = length-numbers (starts 0 items) ∙ omega (arith, length-starts 0 items) in
    let e : 8 + 4 * length items + k ≡ 4 + (length table + k) = omega (arith, long) in
    ap (λ (n : ℕ). drop n bytes) e ∙ ap (drop (4 + (length table + k))) t.whole ∙ drop-append-add first (table ++ concat items) (length table + k) ∙ drop-append-add table (concat items) k

-- what the offsets at i and i + 1 bound
pub item_slice : (bytes : List ℕ) (items : List (List ℕ)) (i count start end : ℕ) → IsItemTable bytes items → i < length items → count ≡ length items
    → start ≡ length (concat (take i items)) → end ≡ length (concat (take (i + 1) items)) → take (8 + 4 * count + end - (8 + 4 * count + start)) (drop (8 + 4 * count + start) bytes) ≡ get_or items i []
item_slice bytes items i count start end t h ec es ee =
    let item = get_or items i [] in
    let long : 8 + 4 * count + end - (8 + 4 * count + start) ≡ length item = omega (arith, next_front i items h) in
    let place : 8 + 4 * count + start ≡ 8 + 4 * length items + start = omega arith in
    let there : drop (8 + 4 * count + start) bytes ≡ item ++ concat (drop (i + 1) items) =
    ap (λ (n : ℕ). drop n bytes) place ∙ table_area bytes items start t ∙ ap (λ (n : ℕ). drop n (concat items)) es ∙ item-at i items h in
    ap (λ (n : ℕ). take n (drop (8 + 4 * count + start) bytes)) long ∙ ap (take (length item)) there ∙ take-append_seam item (concat (drop (i + 1) items))
