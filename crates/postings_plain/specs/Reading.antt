-- What is read at the front of bytes, part by part, and the entries that a body spells as a function of its bytes.
use Rattle.std.specs.Prelude.{◌≡◌, ℕ, zero, suc, ◌+◌, ◌-◌, ◌<◌, ◌==◌, ◌&&◌, min, Bool, List, [], ◌∷◌, ◌++◌, length, map, slice_index_or, Option, Some, None, nat_lt, if◌then◌else◌}
use Rattle.body_forms.specs.Format.{Read, ◌>>=◌, chain_at, then_at, counted_at}
use Rattle.body_forms.specs.Numbers.{vint_at, string_at, difference_at, positive_at, ascending_at}
use Rattle.body_forms.specs.ItemTable.{items_in}
use Rattle.postings_plain.specs.Body.{heading_of}
use Rattle.postings_plain.specs.declared.format.Format.{Format}
use Rattle.postings_plain.specs.Postings.{Hit, Entry, hits_of, above_hit, block_rows, skip_count, Skip, above_block, entry, IsFileEntry}

-- the positions of a hit: nothing for a key
abbrev pub positions_at : (field : ℕ) → List ℕ → Read (List ℕ)
positions_at zero bytes = Some ([], bytes)
positions_at (suc n) bytes = ascending_at bytes

-- a hit whose row is k or above
abbrev pub hit_at : (field k : ℕ) → List ℕ → Read Hit
hit_at field k bytes = then_at (difference_at k) (λ _. positions_at field) bytes

-- so many hits, the first of which has the row k or above
abbrev pub counted_from_at : (field count k : ℕ) → List ℕ → Read (List Hit)
counted_from_at field count k bytes = chain_at (hit_at field) above_hit count k bytes

-- the least row that may come after hits, where k is the least before them
abbrev pub end_after : (k : ℕ) → List Hit → ℕ
end_after k [] = k
end_after k (h ∷ hs) = end_after (above_hit h) hs

-- a skip entry of a block whose rows are k or above
abbrev pub skip_at : (k : ℕ) → List ℕ → Read Skip
skip_at k bytes = then_at (difference_at k) (λ _. vint_at) bytes

-- so many skip entries, the first of a block whose rows are k or above
abbrev pub skips_at : (count k : ℕ) → List ℕ → Read (List Skip)
skips_at count k bytes = chain_at skip_at above_block count k bytes

-- a block that was read from these bytes ends as its skip entry says: with its row, and after so many bytes
abbrev pub ends_as : Skip → (k : ℕ) (bytes : List ℕ) → List Hit × List ℕ → Bool
ends_as s k bytes block = (end_after k block.0 == above_block s) && (length bytes == length block.1 + s.1)

-- so many hits, in blocks that end as their skip entries say
abbrev pub blocks_at : (field : ℕ) → List Skip → (count k : ℕ) → List ℕ → Read (List Hit)
blocks_at field [] count k bytes = counted_from_at field count k bytes
blocks_at field (s ∷ skips) count k bytes = counted_from_at field (min block_rows count) k bytes >>= λ block.
    if ends_as s k bytes block then (blocks_at field skips (count - block_rows) (above_block s) block.1 >>= λ hs. Some (block.0 ++ hs.0, hs.1)) else None

-- so many hits of a term: the skip entries of their blocks, then the hits
abbrev pub rows_of_term_at : Format → (field count : ℕ) → List ℕ → Read (List Hit)
rows_of_term_at format field count bytes = skips_at (skip_count format count) 0 bytes >>= λ skips. blocks_at field skips.0 count 0 skips.1

-- the hits of a term
abbrev pub hits_at : Format → (field : ℕ) → List ℕ → Read (List Hit)
hits_at format field bytes = counted_at positive_at (rows_of_term_at format field) bytes

-- the field, 0 or 1
unfoldable pub field_at : List ℕ → Read ℕ
field_at [] = None
field_at (b ∷ rest) = if nat_lt b 2 then Some (b, rest) else None

-- the term, which is not empty
unfoldable pub term_at : List ℕ → Read (List ℕ)
term_at bytes = string_at bytes >>= λ t. if nat_lt 0 (length t.0) then Some t else None

-- an entry: its field, its term and its hits
abbrev pub entry_at : Format → List ℕ → Read Entry
entry_at format bytes = then_at field_at (λ field. then_at term_at (λ _. hits_at format field)) bytes

-- the row is known, and its positions are read past
abbrev pub SkipsHit : Option (ℕ × List ℕ) → Read Hit → Type 0
SkipsHit None read = read ≡ None
SkipsHit (Some found) read = (positions : List ℕ) × (read ≡ Some ((found.0, positions), found.1))

-- positions are read past, and how many they are is known
abbrev pub CountsPositions : Option (ℕ × List ℕ) → Read (List ℕ) → Type 0
CountsPositions None read = read ≡ None
CountsPositions (Some found) read = (positions : List ℕ) × (read ≡ Some (positions, found.1)) × (length positions ≡ found.0)

-- a hit is read past, and its row and how many positions are in it are known
abbrev pub CountsHitPositions : Option (ℕ × (ℕ × List ℕ)) → Read Hit → Type 0
CountsHitPositions None read = read ≡ None
CountsHitPositions (Some found) read =
    (positions : List ℕ) × (read ≡ Some ((found.0, positions), found.1.1)) × (length positions ≡ found.1.0)

-- the hits are read past, whose rows are k or above, and the least row that may come after them is known
abbrev pub SkipsHits : (k : ℕ) → Option (ℕ × List ℕ) → Read (List Hit) → Type 0
SkipsHits k None read = read ≡ None
SkipsHits k (Some found) read = (hs : List Hit) × (read ≡ Some (hs, found.1)) × (found.0 ≡ end_after k hs)

-- the bytes are exactly one entry
abbrev pub IsEntry : Format → List ℕ → Type 0
IsEntry format item = (e : Entry) × IsFileEntry format e × (item ≡ entry format e)

-- the field and the term are read past as well, and the entry is known by where its hits end
abbrev pub SkipsEntry : Option (ℕ × List ℕ) → Read Entry → Type 0
SkipsEntry None read = read ≡ None
SkipsEntry (Some found) read = (e : Entry) × (read ≡ Some (e, found.1)) × (found.0 ≡ end_after 0 (hits_of e))

-- the bytes are exactly one entry, and this is one above its greatest row
abbrev pub IsEntryUpTo : Format → List ℕ → ℕ → Type 0
IsEntryUpTo format item end = (e : Entry) × IsFileEntry format e × (item ≡ entry format e) × (end ≡ end_after 0 (hits_of e))

-- each item is an entry
abbrev pub AreEntries : Format → List (List ℕ) → Type 0
AreEntries format items = (i : ℕ) → i < length items → IsEntry format (slice_index_or items i [])

-- what stands for an entry where there is none
abbrev pub no_entry : Entry
no_entry = (0, ([], []))

-- the entry at a place
abbrev pub at_place : List Entry → ℕ → Entry
at_place es i = slice_index_or es i no_entry

-- no entry has the heading
abbrev pub HasNoHeading : List Entry → List ℕ → Type 0
HasNoHeading es heading = (i : ℕ) → i < length es → heading_of (at_place es i) ≡ heading → ⊥

-- the entry at this place has the heading
abbrev pub HasHeadingAt : List Entry → List ℕ → ℕ → Type 0
HasHeadingAt es heading i = (i < length es) × (heading_of (at_place es i) ≡ heading)

-- the entry that was read, or what stands for none
abbrev pub entry_or_none : Read Entry → Entry
entry_or_none None = no_entry
entry_or_none (Some x) = x.0

-- the entry that an item spells
abbrev pub entry_in : Format → List ℕ → Entry
entry_in format item = entry_or_none (entry_at format item)

-- the entry that the item at i spells
abbrev pub entry_of : Format → List (List ℕ) → ℕ → Entry
entry_of format items i = entry_in format (slice_index_or items i [])

-- the entries that a body spells
unfoldable pub entries_in : Format → List ℕ → List Entry
entries_in format body = map (entry_in format) (items_in body)

-- the hits that were read, or none
abbrev pub hits_or_none : Read (List Hit) → List Hit
hits_or_none None = []
hits_or_none (Some x) = x.0

-- hits were read
abbrev pub AreHits : Read (List Hit) → Type 0
AreHits None = ⊥
AreHits (Some x) = Unit {0}

-- the numbers that were read, or none
abbrev pub numbers_or_none : Read (List ℕ) → List ℕ
numbers_or_none None = []
numbers_or_none (Some x) = x.0

-- numbers were read
abbrev pub AreNumbers : Read (List ℕ) → Type 0
AreNumbers None = ⊥
AreNumbers (Some x) = Unit {0}
