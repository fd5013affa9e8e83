-- Where a block begins, for those who go from block to block.
use Rattle.std.specs.Prelude.{◌≡◌, ◌⊎◌, ℕ, ◌^◌, ◌<◌, ◌≤◌, List, ◌++◌, length, Some}
use Rattle.std.specs.List.{All}
use Rattle.postings_plain.specs.declared.blocks.BlockStart.{BlockStart}
use Rattle.postings_plain.specs.Postings.{Hit, row_of, hits_from, HitsFitFrom, block_count, skips_from}
use Rattle.postings_plain.specs.Reading.{skips_at}

-- a block begins here: the bytes begin with these hits, and the skip entries of their blocks are read from its own on
pub record IsBlockStart (field : ℕ) (start : BlockStart) (hs : List Hit) : Type 0 where
  pub below : start.least ≤ 2 ^ 32
  pub count : length hs ≡ start.count
  pub fit : HitsFitFrom field start.least hs
  pub after : List ℕ
  pub rows : start.rest.now ≡ hits_from field start.least hs ++ after
  pub table : List ℕ
  pub skips : skips_at (block_count start.count) start.least start.skips.now ≡ Some (skips_from field (block_count start.count) start.least hs, table)

-- of the hits that are left, the first stand before this block, in rows below those of the block, and the others from it on
pub record Precedes (field : ℕ) (left : List Hit) (start : BlockStart) : Type 0 where
  pub front : List Hit
  pub others : List Hit
  pub parts : left ≡ front ++ others
  pub below : All (λ h. row_of h < start.least) front
  pub begins : IsBlockStart field start others

-- where there is a block ahead, it begins after the first of the hits that are left
abbrev pub IsAhead : (field : ℕ) → List Hit → BlockStart → Type 0
IsAhead field left start = 0 < start.count → Precedes field left start

-- a reader that has so many hits left and looks for a row goes on to this block: it stands before it, or the row is not below
-- the rows of this block
pub record IsReached (start : BlockStart) (count row : ℕ) : Type 0 where
  pub there : 0 < start.count
  pub near : (start.count ≡ count) ⊎ (start.least ≤ row)
