-- A count, one more offset than items, and the items one after the other.
use Rattle.std.specs.Prelude.{◌≡◌, ℕ, zero, suc, ◌+◌, ◌-◌, ◌*◌, ◌<◌, ◌^◌, List, [], ◌∷◌, ◌++◌, length, take, drop}
use Rattle.std.specs.List.{flat_map}
use Rattle.std.specs.Int.{w32, from_be_bytes}
use Rattle.body_forms.specs.Numbers.{u32_bytes}

-- the items one after the other
abbrev pub concat : List (List ℕ) → List ℕ
concat items = flat_map (λ item. item) items

-- where each item starts, and where the last one ends
abbrev pub starts : ℕ → List (List ℕ) → List ℕ
starts at [] = at ∷ []
starts at (item ∷ items) = at ∷ starts (at + length item) items

-- how many items there are, where each starts and the last one ends, and the items
abbrev pub item_table : List (List ℕ) → List ℕ
item_table items = u32_bytes (length items) ++ (flat_map u32_bytes (starts 0 items) ++ concat items)

-- the bytes are the table of these items
pub record IsItemTable (bytes : List ℕ) (items : List (List ℕ)) : Type 0 where
  pub count : length items < 2 ^ 32
  pub area : length (concat items) < 2 ^ 32
  pub whole : bytes ≡ item_table items

-- how many items the bytes say that there are
abbrev pub item_count_in : List ℕ → ℕ
item_count_in bytes = from_be_bytes w32 (take 4 bytes)

-- the offset at i that the bytes give
abbrev pub item_start_in : List ℕ → ℕ → ℕ
item_start_in bytes i = from_be_bytes w32 (take 4 (drop (4 + 4 * i) bytes))

-- n items from the one at i on, as their offsets bound them in an area that begins at `base`
abbrev pub items_from : ℕ → ℕ → ℕ → List ℕ → List (List ℕ)
items_from base zero i bytes = []
items_from base (suc n) i bytes = take (item_start_in bytes (i + 1) - item_start_in bytes i) (drop (base + item_start_in bytes i) bytes) ∷ items_from base n (i + 1) bytes

-- the items of a table, as a function of its bytes
unfoldable pub items_in : List ℕ → List (List ℕ)
items_in bytes = items_from (8 + 4 * item_count_in bytes) (item_count_in bytes) 0 bytes
