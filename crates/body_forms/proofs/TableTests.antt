-- Which bytes are a table of items.
use Rattle.std.proofs.Common.{◌≡◌, ℕ, zero, suc, ◌+◌, ◌-◌, ◌*◌, ◌^◌, ◌<◌, ◌≤◌, Bool, false, List, [], ◌∷◌, ◌++◌, length, get_or, take, drop, drop-cons, refl, sym, ap, subst, ◌∙◌, append_assoc, arith, add-one}
use Rattle.std.specs.Prelude.{IsTrue}
use Rattle.std.specs.List.{flat_map}
use Rattle.std.specs.Int.{w32, from_be_bytes}
use Rattle.std.proofs.Math.Nat.{le_trans}
use Rattle.std.proofs.lemmas.Nat.{be_bytes_4}
use Rattle.nrt_base.proofs.Plain.{cons_from, false_says}
use Rattle.std.proofs.lemmas.List.{length-append, length-drop, length-take, take-append-drop, drop_all, append-nil, take_all, drop-drop}
use Rattle.std.proofs.lemmas.List.Concat.{flat_map-cons}
use Rattle.codec_frame.specs.Bytes.{AreBytes}
use Rattle.body_forms.specs.ItemTable.{concat, starts, IsItemTable, item_count_in, item_start_in, items_from, items_in}
use Rattle.body_forms.specs.Numbers.{u32_bytes}
use Rattle.codec_frame.proofs.ByteLaws.{AreBytes-take}
use Rattle.body_forms.proofs.Formats.{AreBytes-drop}
use Rattle.body_forms.proofs.ItemTables.{concat-cons, table_count, table_start, table_length, next_front, item_slice}

-- a front and the front of what comes after it
nothing_taken : (n : ℕ) → ◌≡◌ {A = List ℕ} ([] ++ take n []) []
nothing_taken zero = refl
nothing_taken (suc n) = refl

none_of : (x : List ℕ) → take 0 x ≡ []
none_of [] = refl
none_of (b ∷ x) = refl

take_parts : (m n : ℕ) (bytes : List ℕ) → take m bytes ++ take n (drop m bytes) ≡ take (m + n) bytes
take_parts zero n bytes = let e : 0 + n ≡ n = omega arith in rw e refl
take_parts (suc m) n [] = let e : suc m + n ≡ suc (m + n) = omega arith in rw e (nothing_taken n)
take_parts (suc m) n (b ∷ bytes) = let e : suc m + n ≡ suc (m + n) = omega arith in rw e (ap (λ (x : List ℕ). b ∷ x) (take_parts m n bytes))

-- what the loop tests, of the offsets from i to i + n
abbrev pub Rises : List ℕ → ℕ → Type 0
Rises bytes n = (i : ℕ) → i < n → item_start_in bytes i ≤ item_start_in bytes (i + 1)

-- a number and its four bytes
number_back : (at : ℕ) (bytes : List ℕ) → AreBytes bytes → at + 4 ≤ length bytes → u32_bytes (from_be_bytes w32 (take 4 (drop at bytes))) ≡ take 4 (drop at bytes)
number_back at bytes fits h =
    be_bytes_4 (take 4 (drop at bytes)) _ (omega (arith, length-take 4 (drop at bytes), length-drop at bytes)) (AreBytes-take 4 (drop at bytes) (AreBytes-drop at bytes fits)) refl

abbrev offsets_from : ℕ → ℕ → List ℕ → List ℕ
offsets_from zero i bytes = item_start_in bytes i ∷ []
offsets_from (suc n) i bytes = item_start_in bytes i ∷ offsets_from n (i + 1) bytes

offset_bytes : (n i : ℕ) (bytes : List ℕ) → AreBytes bytes → 8 + 4 * (i + n) ≤ length bytes → flat_map u32_bytes (offsets_from n i bytes) ≡ take (4 + 4 * n) (drop (4 + 4 * i) bytes)
offset_bytes zero i bytes fits h =
    flat_map-cons u32_bytes (item_start_in bytes i) [] ∙ append-nil (u32_bytes (item_start_in bytes i)) ∙ number_back (4 + 4 * i) bytes fits (omega arith)
offset_bytes (suc n) i bytes fits h =
    let next : 4 + 4 * (i + 1) ≡ 4 + 4 * i + 4 = omega arith in
    let size : 4 + 4 * suc n ≡ 4 + (4 + 4 * n) = omega arith in
    flat_map-cons u32_bytes (item_start_in bytes i) (offsets_from n (i + 1) bytes)
    ∙ ap (λ (x : List ℕ). x ++ flat_map u32_bytes (offsets_from n (i + 1) bytes)) (number_back (4 + 4 * i) bytes fits (omega arith))
    ∙ ap (λ (x : List ℕ). take 4 (drop (4 + 4 * i) bytes) ++ x) (offset_bytes n (i + 1) bytes fits (omega arith) ∙ ap (λ (k : ℕ). take (4 + 4 * n) (drop k bytes)) next ∙ ap (take (4 + 4 * n)) (sym (drop-drop 4 (4 + 4 * i) bytes)))
    ∙ take_parts 4 (4 + 4 * n) (drop (4 + 4 * i) bytes) ∙ ap (λ (k : ℕ). take k (drop (4 + 4 * i) bytes)) (sym size)

length-items_from : (base n i : ℕ) (bytes : List ℕ) → length (items_from base n i bytes) ≡ n
length-items_from base zero i bytes = refl
length-items_from base (suc n) i bytes = ap suc (length-items_from base n (i + 1) bytes)

le_itself : (a : ℕ) → a ≤ a
le_itself a = omega arith

item_ends : (base s t u : ℕ) (bytes : List ℕ) → s ≤ t → t ≤ u → base + u ≤ length bytes → s + length (take (t - s) (drop (base + s) bytes)) ≡ t
item_ends base s t u bytes h g l = omega (arith, length-take (t - s) (drop (base + s) bytes), length-drop (base + s) bytes)

nothing_between : (s : ℕ) (x : List ℕ) → [] ≡ take (s - s) x
nothing_between s x = let e : s - s ≡ 0 = omega arith in rw e (sym (none_of x))

joined : (base s t u : ℕ) (bytes : List ℕ) → s ≤ t → t ≤ u → take (t - s) (drop (base + s) bytes) ++ take (u - t) (drop (base + t) bytes) ≡ take (u - s) (drop (base + s) bytes)
joined base s t u bytes h g =
    let place : base + t ≡ base + s + (t - s) = omega arith in
    let size : t - s + (u - t) ≡ u - s = omega arith in
    ap (λ (k : ℕ). take (t - s) (drop (base + s) bytes) ++ take (u - t) (drop k bytes)) place
    ∙ ap (λ (x : List ℕ). take (t - s) (drop (base + s) bytes) ++ take (u - t) x) (sym (drop-drop (t - s) (base + s) bytes))
    ∙ take_parts (t - s) (u - t) (drop (base + s) bytes) ∙ ap (λ (k : ℕ). take k (drop (base + s) bytes)) size

whole_area : (base n : ℕ) (bytes : List ℕ) (last first : ℕ) → first ≡ 0 → last ≡ length bytes - 8 - 4 * n → 8 + 4 * n ≤ length bytes → take (last - first) (drop (8 + 4 * n + first) bytes) ≡ drop (4 + 4 * n) (drop 4 bytes)
whole_area base n bytes last first f l h =
    let place : 8 + 4 * n + first ≡ 4 + (4 + 4 * n) = omega arith in
    let same : drop (8 + 4 * n + first) bytes ≡ drop (4 + 4 * n) (drop 4 bytes) = ap (λ (k : ℕ). drop k bytes) place ∙ sym (drop-drop (4 + 4 * n) 4 bytes) in
    ap (take (last - first)) same ∙ take_all (last - first) (drop (4 + 4 * n) (drop 4 bytes)) (omega (arith, length-drop (4 + 4 * n) (drop 4 bytes), length-drop 4 bytes))

count_below : (bytes : List ℕ) → AreBytes bytes → item_count_in bytes < 2 ^ 32
count_below bytes fits = let h = AreBytes-take 4 bytes fits in omega (arith, h 0, h 1, h 2, h 3)

climbs : (n i : ℕ) (bytes : List ℕ) → ((k : ℕ) → k < i + n → item_start_in bytes k ≤ item_start_in bytes (k + 1)) → item_start_in bytes i ≤ item_start_in bytes (i + n)
climbs zero i bytes rise = let e : i + 0 ≡ i = omega arith in subst (λ (k : ℕ). item_start_in bytes i ≤ item_start_in bytes k) (sym e) (le_itself (item_start_in bytes i))
climbs (suc n) i bytes rise =
    let e : i + suc n ≡ i + 1 + n = omega arith in
    let first = rise i (omega arith) in
    let others = climbs n (i + 1) bytes (λ k h. rise k (omega arith)) in
    subst (λ (k : ℕ). item_start_in bytes i ≤ item_start_in bytes k) (sym e) (le_trans first others)

starts-items_from : (base n i : ℕ) (bytes : List ℕ) → ((k : ℕ) → k < i + n → item_start_in bytes k ≤ item_start_in bytes (k + 1)) → base + item_start_in bytes (i + n) ≤ length bytes
    → starts (item_start_in bytes i) (items_from base n i bytes) ≡ offsets_from n i bytes
starts-items_from base zero i bytes rise h = refl
starts-items_from base (suc n) i bytes rise h =
    let e : i + suc n ≡ i + 1 + n = omega arith in
    let last : base + item_start_in bytes (i + 1 + n) ≤ length bytes = subst (λ (k : ℕ). base + item_start_in bytes k ≤ length bytes) e h in
    let later : (k : ℕ) → k < i + 1 + n → item_start_in bytes k ≤ item_start_in bytes (k + 1) = λ k g. rise k (omega arith) in
    let first = rise i (omega arith) in
    let others = climbs n (i + 1) bytes later in
    let item = take (item_start_in bytes (i + 1) - item_start_in bytes i) (drop (base + item_start_in bytes i) bytes) in
    let long : item_start_in bytes i + length item ≡ item_start_in bytes (i + 1) =
    item_ends base (item_start_in bytes i) (item_start_in bytes (i + 1)) (item_start_in bytes (i + 1 + n)) bytes first others last in
    ap (λ (k : ℕ). item_start_in bytes i ∷ starts k (items_from base n (i + 1) bytes)) long ∙ ap (λ (x : List ℕ). item_start_in bytes i ∷ x) (starts-items_from base n (i + 1) bytes later last)

concat-items_from : (base n i : ℕ) (bytes : List ℕ) → ((k : ℕ) → k < i + n → item_start_in bytes k ≤ item_start_in bytes (k + 1))
    → concat (items_from base n i bytes) ≡ take (item_start_in bytes (i + n) - item_start_in bytes i) (drop (base + item_start_in bytes i) bytes)
concat-items_from base zero i bytes rise =
    let e : i + 0 ≡ i = omega arith in
    subst (λ (k : ℕ). [] ≡ take (item_start_in bytes k - item_start_in bytes i) (drop (base + item_start_in bytes i) bytes)) (sym e) (nothing_between (item_start_in bytes i) (drop (base + item_start_in bytes i) bytes))
concat-items_from base (suc n) i bytes rise =
    let e : i + suc n ≡ i + 1 + n = omega arith in
    let later : (k : ℕ) → k < i + 1 + n → item_start_in bytes k ≤ item_start_in bytes (k + 1) = λ k g. rise k (omega arith) in
    let first = rise i (omega arith) in
    let others = climbs n (i + 1) bytes later in
    concat-cons (take (item_start_in bytes (i + 1) - item_start_in bytes i) (drop (base + item_start_in bytes i) bytes)) (items_from base n (i + 1) bytes)
    ∙ ap (λ (x : List ℕ). take (item_start_in bytes (i + 1) - item_start_in bytes i) (drop (base + item_start_in bytes i) bytes) ++ x) (concat-items_from base n (i + 1) bytes later)
    ∙ joined base (item_start_in bytes i) (item_start_in bytes (i + 1)) (item_start_in bytes (i + 1 + n)) bytes first others
    ∙ ap (λ (k : ℕ). take (item_start_in bytes k - item_start_in bytes i) (drop (base + item_start_in bytes i) bytes)) (sym e)

-- what passes the tests is a table
pub is_table : (bytes : List ℕ) → AreBytes bytes → 8 + 4 * item_count_in bytes ≤ length bytes → length bytes - 8 - 4 * item_count_in bytes < 2 ^ 32 → item_start_in bytes 0 ≡ 0 → Rises bytes (item_count_in bytes)
    → item_start_in bytes (item_count_in bytes) ≡ length bytes - 8 - 4 * item_count_in bytes → IsItemTable bytes (items_from (8 + 4 * item_count_in bytes) (item_count_in bytes) 0 bytes)
is_table bytes fits long small zero_first rise last =
    let n = item_count_in bytes in
    let base = 8 + 4 * n in
    let items = items_from base n 0 bytes in
    let rest = drop 4 bytes in
    let up : (k : ℕ) → k < 0 + n → item_start_in bytes k ≤ item_start_in bytes (k + 1) = λ k h. rise k (omega arith) in
    let at_end : 0 + n ≡ n = omega arith in
    let fit : base + item_start_in bytes (0 + n) ≤ length bytes = subst (λ (k : ℕ). base + item_start_in bytes k ≤ length bytes) (sym at_end) (omega (arith, last)) in
    let count : u32_bytes n ≡ take 4 bytes = number_back 0 bytes fits (omega arith) in
    let offsets : flat_map u32_bytes (starts 0 items) ≡ take (4 + 4 * n) rest =
    ap (λ (k : ℕ). flat_map u32_bytes (starts k items)) (sym zero_first) ∙ ap (flat_map u32_bytes) (starts-items_from base n 0 bytes up fit) ∙ offset_bytes n 0 bytes fits (omega arith) in
    let area : concat items ≡ drop (4 + 4 * n) rest =
    concat-items_from base n 0 bytes up ∙ whole_area base n bytes (item_start_in bytes (0 + n)) (item_start_in bytes 0) zero_first (ap (item_start_in bytes) at_end ∙ last) long in
    let len : length items ≡ n = length-items_from base n 0 bytes in
    record {
      count = subst (λ (k : ℕ). k < 2 ^ 32) (sym len) (count_below bytes fits);
      area = subst (λ (x : List ℕ). length x < 2 ^ 32) (sym area) (omega (arith, length-drop (4 + 4 * n) rest, length-drop 4 bytes));
      whole = sym (ap (λ (k : ℕ). u32_bytes k ++ (flat_map u32_bytes (starts 0 items) ++ concat items)) len ∙ ap (λ (x : List ℕ). x ++ (flat_map u32_bytes (starts 0 items) ++ concat items)) count
          ∙ ap (λ (x : List ℕ). take 4 bytes ++ (x ++ concat items)) offsets ∙ ap (λ (x : List ℕ). take 4 bytes ++ (take (4 + 4 * n) rest ++ x)) area
          ∙ ap (λ (x : List ℕ). take 4 bytes ++ x) (take-append-drop (4 + 4 * n) rest) ∙ take-append-drop 4 bytes);
    }

whole_front : (items : List (List ℕ)) → length (concat (take (length items) items)) ≡ length (concat items)
whole_front items = ap (λ (x : List (List ℕ)). length (concat x)) (take_all (length items) items (omega arith))

-- what a table passes
pub record Passes (bytes : List ℕ) : Type 0 where
  pub long : 8 + 4 * item_count_in bytes ≤ length bytes
  pub small : length bytes - 8 - 4 * item_count_in bytes < 2 ^ 32
  pub zero_first : item_start_in bytes 0 ≡ 0
  pub rise : Rises bytes (item_count_in bytes)
  pub last : item_start_in bytes (item_count_in bytes) ≡ length bytes - 8 - 4 * item_count_in bytes

pub table_passes : (bytes : List ℕ) (items : List (List ℕ)) → IsItemTable bytes items → Passes bytes
table_passes bytes items t =
    let n : item_count_in bytes ≡ length items = table_count bytes items t in
    let len = table_length bytes items t in
    record {
      long = omega (arith, n, len);
      small = omega (arith, n, len, t.area);
      zero_first = table_start bytes items 0 t (omega arith);
      rise = λ i h. omega (arith, table_start bytes items i t (omega (arith, n)), table_start bytes items (i + 1) t (omega (arith, n)), next_front i items (omega (arith, n)));
      last = ap (item_start_in bytes) n ∙ table_start bytes items (length items) t (omega arith) ∙ whole_front items ∙ omega (arith, n, len);
    }

pub passes_is : (bytes : List ℕ) → AreBytes bytes → Passes bytes → (items : List (List ℕ)) × IsItemTable bytes items
passes_is bytes fits p = (items_from (8 + 4 * item_count_in bytes) (item_count_in bytes) 0 bytes, is_table bytes fits p.long p.small p.zero_first p.rise p.last)

pub fails : (bytes : List ℕ) → (Passes bytes → ⊥) → (IsTrue false → (items : List (List ℕ)) × IsItemTable bytes items) × (((items : List (List ℕ)) × IsItemTable bytes items) → IsTrue false)
fails bytes never = false_says ((items : List (List ℕ)) × IsItemTable bytes items) (λ x. never (table_passes bytes x.0 x.1))

pub last_test : (bytes : List ℕ) (b : Bool) → (IsTrue b → Passes bytes) → (Passes bytes → IsTrue b) → AreBytes bytes → (IsTrue b → (items : List (List ℕ)) × IsItemTable bytes items) × (((items : List (List ℕ)) × IsItemTable bytes items) → IsTrue b)
last_test bytes b to from fits = (λ h. passes_is bytes fits (to h), λ x. from (table_passes bytes x.0 x.1))

-- the items that a table's bytes give are those of the table

item_lies : (s t base : ℕ) (bytes item : List ℕ) → take (base + t - (base + s)) (drop (base + s) bytes) ≡ item → take (t - s) (drop (base + s) bytes) ≡ item
item_lies s t base bytes item e = let same : base + t - (base + s) ≡ t - s = omega arith in rw (← same) e

items_from-is : (n i : ℕ) (bytes : List ℕ) (items : List (List ℕ)) → IsItemTable bytes items → i + n ≡ length items → items_from (8 + 4 * item_count_in bytes) n i bytes ≡ drop i items
items_from-is zero i bytes items t e = sym (drop_all i items (omega arith))
items_from-is (suc n) i bytes items t e =
    let lt : i < length items = omega arith in
    let base = 8 + 4 * item_count_in bytes in
    let head : take (item_start_in bytes (i + 1) - item_start_in bytes i) (drop (base + item_start_in bytes i) bytes) ≡ get_or items i [] =
    item_lies (item_start_in bytes i) (item_start_in bytes (i + 1)) base bytes (get_or items i [])
    (item_slice bytes items i (item_count_in bytes) (item_start_in bytes i) (item_start_in bytes (i + 1)) t lt (table_count bytes items t) (table_start bytes items i t (omega arith)) (table_start bytes items (i + 1) t (omega arith))) in
    let tail : items_from base n (i + 1) bytes ≡ drop (i + 1) items = items_from-is n (i + 1) bytes items t (omega arith) in
    cons_from _ _ _ _ head tail ∙ sym (drop-cons items i [] lt ∙ ap (λ (k : ℕ). get_or items i [] ∷ drop k items) (sym (add-one i)))

pub items_in-is : (bytes : List ℕ) (items : List (List ℕ)) → IsItemTable bytes items → items_in bytes ≡ items
unfolding items_in
items_in-is bytes items t =
    let from : 0 + item_count_in bytes ≡ length items = omega (arith, table_count bytes items t) in
    items_from-is (item_count_in bytes) 0 bytes items t from

-- bytes are a table of one list of items
pub one_table : (bytes : List ℕ) (a b : List (List ℕ)) → IsItemTable bytes a → IsItemTable bytes b → a ≡ b
one_table bytes a b t u = sym (items_in-is bytes a t) ∙ items_in-is bytes b u

-- ---- a table that is written

pub concat-append : (items : List (List ℕ)) (item : List ℕ) → concat (items ++ item ∷ []) ≡ concat items ++ item
concat-append [] item = concat-cons item [] ∙ append-nil item
concat-append (first ∷ items) item =
    concat-cons first (items ++ item ∷ []) ∙ ap (λ (x : List ℕ). first ++ x) (concat-append items item) ∙ sym (append_assoc first (concat items) item)
    ∙ ap (λ (x : List ℕ). x ++ item) (sym (concat-cons first items))

starts-append : (at : ℕ) (items : List (List ℕ)) (item : List ℕ) → starts at (items ++ item ∷ []) ≡ starts at items ++ (at + length (concat (items ++ item ∷ []))) ∷ []
starts-append at [] item = ap (λ (n : ℕ). at ∷ n ∷ []) (ap (λ (x : List ℕ). at + length x) (sym (concat-append [] item)))
starts-append at (first ∷ items) item =
    let long : at + length first + length (concat (items ++ item ∷ [])) ≡ at + length (concat (first ∷ items ++ item ∷ [])) =
    omega (arith, ap length (concat-cons first (items ++ item ∷ [])), length-append first (concat (items ++ item ∷ []))) in
    ap (λ (x : List ℕ). at ∷ x) (starts-append (at + length first) items item ∙ ap (λ (n : ℕ). starts (at + length first) items ++ n ∷ []) long)

flat_one : (xs : List ℕ) (x : ℕ) → flat_map u32_bytes (xs ++ x ∷ []) ≡ flat_map u32_bytes xs ++ u32_bytes x
flat_one [] x = flat_map-cons u32_bytes x [] ∙ append-nil (u32_bytes x)
flat_one (y ∷ xs) x =
    flat_map-cons u32_bytes y (xs ++ x ∷ []) ∙ ap (λ (z : List ℕ). u32_bytes y ++ z) (flat_one xs x) ∙ sym (append_assoc (u32_bytes y) (flat_map u32_bytes xs) (u32_bytes x))
    ∙ ap (λ (z : List ℕ). z ++ u32_bytes x) (sym (flat_map-cons u32_bytes y xs))

-- the offsets of one item more
pub offsets_more : (items : List (List ℕ)) (item : List ℕ) (end : ℕ) → end ≡ length (concat items) + length item
    → flat_map u32_bytes (starts 0 items) ++ u32_bytes end ≡ flat_map u32_bytes (starts 0 (items ++ item ∷ []))
offsets_more items item end e =
    let long : 0 + length (concat (items ++ item ∷ [])) ≡ end = omega (arith, ap length (concat-append items item), length-append (concat items) item) in
    sym (ap (flat_map u32_bytes) (starts-append 0 items item) ∙ flat_one (starts 0 items) (0 + length (concat (items ++ item ∷ []))) ∙ ap (λ (n : ℕ). flat_map u32_bytes (starts 0 items) ++ u32_bytes n) long)

pub offsets_none : u32_bytes 0 ≡ flat_map u32_bytes (starts 0 [])
offsets_none = sym (flat_map-cons u32_bytes 0 [] ∙ append-nil (u32_bytes 0))
