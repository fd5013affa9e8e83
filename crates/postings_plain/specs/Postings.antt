-- Postings: for each key and each word, the rows that have it; and the one spelling of each part.
use Rattle.std.specs.Prelude.{◌≡◌, ℕ, zero, suc, ◌+◌, ◌^◌, ◌<◌, List, [], ◌∷◌, ◌++◌, length, take, drop, nat_lt, if◌then◌else◌}
use Rattle.std.specs.Int.{div_ceil}
use Rattle.body_forms.specs.Format.{chain, ChainFits}
use Rattle.body_forms.specs.VInts.{vint}
use Rattle.body_forms.specs.Numbers.{string, difference, MayCome, ascending, Ascend}
use Rattle.postings_plain.specs.declared.format.Format.{Format}
use Rattle.postings_plain.specs.declared.format.Format.TheVariants.{One, Two}

-- a hit: a row that has a term, and the positions of the term in it; a key has no positions
abbrev pub Hit : Type 0
Hit = ℕ × List ℕ

abbrev pub row_of : Hit → ℕ
row_of h = h.0

abbrev pub positions_in : Hit → List ℕ
positions_in h = h.1

-- an entry: its field, which is 0 for a key and 1 for a word; its term; and its hits, a row of the term each
abbrev pub Entry : Type 0
Entry = ℕ × (List ℕ × List Hit)

abbrev pub field_of : Entry → ℕ
field_of e = e.0

abbrev pub term_of : Entry → List ℕ
term_of e = e.1.0

abbrev pub hits_of : Entry → List Hit
hits_of e = e.1.1

-- the positions in a row: nothing for a key, and for a word how many there are and their differences
abbrev pub positions : (field : ℕ) → List ℕ → List ℕ
positions zero xs = []
positions (suc n) xs = ascending xs

-- a key has no positions; a word has at least one, and they ascend
abbrev pub PositionsFit : (field : ℕ) → List ℕ → Type 0
PositionsFit zero xs = xs ≡ []
PositionsFit (suc n) xs = ((0 < length xs) × (length xs < 2 ^ 32)) × Ascend xs

-- a hit whose row is k or above: the difference of the row, then the positions
abbrev pub hit : (field k : ℕ) → Hit → List ℕ
hit field k h = difference k (row_of h) ++ positions field (positions_in h)

abbrev pub HitFits : (field k : ℕ) → Hit → Type 0
HitFits field k h = MayCome k (row_of h) × PositionsFit field (positions_in h)

-- the least row that may come after a hit
abbrev pub above_hit : Hit → ℕ
above_hit h = row_of h + 1

-- The format of postings. In the second, many rows of a term stand in blocks, and before them stands a skip entry for each
-- block.

-- the number of a format, which is the version of its files
abbrev pub format_number : Format → ℕ
format_number One = 1
format_number Two = 2

-- how many rows a block has; the last block has the rest
unfoldable pub block_rows : ℕ
block_rows = 128

-- the format of a segment of so many rows: the second exactly where they are more than a block has
abbrev pub format_for : ℕ → Format
format_for rows = if nat_lt block_rows rows then Two else One

-- how many blocks so many rows have
unfoldable pub block_count : ℕ → ℕ
block_count rows = div_ceil rows block_rows

-- how many skip entries a term of so many rows has: in the second format one for each block, where there is more than one block
abbrev pub skip_count : Format → ℕ → ℕ
skip_count One rows = 0
skip_count Two rows = if nat_lt block_rows rows then block_count rows else 0

-- a skip entry: the last row of a block, and how many bytes the rows of the block take
abbrev pub Skip : Type 0
Skip = ℕ × ℕ

-- the least row that may come after a block
abbrev pub above_block : Skip → ℕ
above_block s = s.0 + 1

-- a skip entry of a block whose rows are k or above: the difference of the last row, then the number of bytes
abbrev pub skip : (k : ℕ) → Skip → List ℕ
skip k s = difference k s.0 ++ vint s.1

abbrev pub SkipFits : (k : ℕ) → Skip → Type 0
SkipFits k s = MayCome k s.0 × (s.1 < 2 ^ 32)

-- hits, each after the one before; the first has the row k or above
abbrev pub hits_from : (field k : ℕ) → List Hit → List ℕ
hits_from field k hs = chain (hit field) above_hit k hs

abbrev pub HitsFitFrom : (field k : ℕ) → List Hit → Type 0
HitsFitFrom field k hs = ChainFits (HitFits field) above_hit k hs

-- the row of the last of hits
abbrev pub last_row : List Hit → ℕ
last_row [] = 0
last_row (h ∷ []) = row_of h
last_row (h ∷ g ∷ hs) = last_row (g ∷ hs)

-- the skip entry of a block whose rows are k or above
abbrev pub skip_of : (field k : ℕ) → List Hit → Skip
skip_of field k block = (last_row block, length (hits_from field k block))

-- the skip entries of so many blocks, of hits whose rows are k or above
abbrev pub skips_from : (field blocks k : ℕ) → List Hit → List Skip
skips_from field zero k hs = []
skips_from field (suc n) k hs = skip_of field k (take block_rows hs) ∷ skips_from field n (above_block (skip_of field k (take block_rows hs))) (drop block_rows hs)

-- the skip entries of the hits of a term
abbrev pub skips_of : Format → (field : ℕ) → List Hit → List Skip
skips_of format field hs = skips_from field (skip_count format (length hs)) 0 hs

abbrev pub SkipsFit : Format → (field : ℕ) → List Hit → Type 0
SkipsFit format field hs = ChainFits SkipFits above_block 0 (skips_of format field hs)

-- the hits of a term: how many there are, then the skip entries of their blocks, then each after the one before
abbrev pub hits : Format → (field : ℕ) → List Hit → List ℕ
hits format field hs = vint (length hs) ++ (chain skip above_block 0 (skips_of format field hs) ++ hits_from field 0 hs)

-- there is at least one, and their rows ascend
abbrev pub HitsFit : (field : ℕ) → List Hit → Type 0
HitsFit field hs = ((0 < length hs) × (length hs < 2 ^ 32)) × HitsFitFrom field 0 hs

-- an entry: its field in one byte, its term as a string, its hits
abbrev pub entry : Format → Entry → List ℕ
entry format e = (field_of e ∷ []) ++ (string (term_of e) ++ hits format (field_of e) (hits_of e))

-- the field is 0 or 1, the term is not empty, and the rows of each block take fewer than 2^32 bytes
pub record IsFileEntry (format : Format) (e : Entry) : Type 0 where
  pub kind : field_of e < 2
  pub term_fits : (0 < length (term_of e)) × (length (term_of e) < 2 ^ 32)
  pub hits_fit : HitsFit (field_of e) (hits_of e)
  pub skips_fit : SkipsFit format (field_of e) (hits_of e)
