-- A loop that writes blocks: the skip entries at once, and the hits into an area of their own.
use Rattle.std.proofs.Common.{◌≡◌, ℕ, zero, suc, ◌-◌, ◌^◌, ◌<◌, ◌≤◌, min, List, [], ◌∷◌, ◌++◌, length, take, drop, sym, ap, subst, ◌∙◌, append_assoc, append-nil, arith, length-append, take-append-drop}
use Rattle.std.proofs.lemmas.List.{take_min, drop_min}
use Rattle.body_forms.specs.Format.{chain, ChainFits}
use Rattle.postings_plain.specs.Postings.{Hit, block_rows, block_count, Skip, above_block, skip, SkipFits, hits_from, HitsFitFrom, last_row, skip_of, skips_from}
use Rattle.postings_plain.specs.Reading.{end_after}
use Rattle.postings_plain.specs.Gathering.{AddsRows, AddsBlock, AddsBlocks}
use Rattle.postings_plain.proofs.HitLaws.{hits_from-append, fits_parts, end_after-last_row, end_above}
use Rattle.postings_plain.proofs.BlockLaws.{same_pair, block_rows-is, AreBlocks, some_rows, blocks_after, length-block}

pub last_row_is : (field k : ℕ) (block : List Hit) (end : ℕ) → 0 < length block → end ≡ end_after k block → end - 1 ≡ last_row block
last_row_is field k block end pos e = omega (arith, e, end_after-last_row k block pos)

pub last_not_below : (field k : ℕ) (block : List Hit) (end : ℕ) → 0 < length block → HitsFitFrom field k block → end ≡ end_after k block → k < end
last_not_below field k block end pos fit e = omega (arith, e, end_above field k block pos fit)

-- a block was added, where its rows were and so was its skip entry
pub block_added : (field k : ℕ) (block : List Hit) (old_area new_area old new : List ℕ) (end row len : ℕ) → 0 < length block → HitsFitFrom field k block → AddsRows field k block old_area new_area end → row ≡ end - 1
    → len ≡ length new_area - length old_area → len < 2 ^ 32 → new ≡ old ++ skip k (row, len) → AddsBlock field k block old_area new_area old new end
block_added field k block old_area new_area old new end row len pos fit rows r l small e =
    let last = last_row_is field k block end pos rows.end_is in
    let above = last_not_below field k block end pos fit rows.end_is in
    let size : len ≡ length (hits_from field k block) = omega (arith, l, ap length rows.added, length-append old_area (hits_from field k block)) in
    record {
      rows = rows;
      added = e ∙ ap (λ (s : Skip). old ++ skip k s) (same_pair row (last_row block) len (length (hits_from field k block)) (r ∙ last) size);
      skip_fits = ((omega (arith, above, last), omega (arith, last, rows.below, above)), omega (arith, small, size));
      end_above = omega (arith, above, last);
    }

-- So many blocks are left, with the hits of `left`: with their skip entries all of them stand behind `before`, and with their
-- rows the area has the rows of all.
pub record BlocksWritten (field blocks : ℕ) (hs : List Hit) (before : List ℕ) (n : ℕ) (left : List Hit) (least : ℕ) (area out : List ℕ) : Type 0 where
  pub below : least ≤ 2 ^ 32
  pub fit : HitsFitFrom field least left
  pub are : AreBlocks n (length left)
  pub rows : area ++ hits_from field least left ≡ hits_from field 0 hs
  pub whole : out ++ chain skip above_block least (skips_from field n least left) ≡ before ++ chain skip above_block 0 (skips_from field blocks 0 hs)
  pub skips_fit : ChainFits SkipFits above_block least (skips_from field n least left) → ChainFits SkipFits above_block 0 (skips_from field blocks 0 hs)

pub blocks_unwritten : (field blocks n : ℕ) (hs : List Hit) (out area : List ℕ) → n ≡ blocks → area ≡ [] → HitsFitFrom field 0 hs → AreBlocks blocks (length hs) → BlocksWritten field blocks hs out n hs 0 area out
blocks_unwritten field blocks n hs out area e none fit are = record {
  below = omega arith;
  fit = fit;
  are = subst (λ (k : ℕ). AreBlocks k (length hs)) (sym e) are;
  rows = ap (λ (x : List ℕ). x ++ hits_from field 0 hs) none;
  whole = ap (λ (k : ℕ). out ++ chain skip above_block 0 (skips_from field k 0 hs)) e;
  skips_fit = λ h. subst (λ (k : ℕ). ChainFits SkipFits above_block 0 (skips_from field k 0 hs)) e h;
}

-- a list that is cut at the end of its first block
pub cut_at : (left : List Hit) (size : ℕ) → size ≡ min (length left) 128 → (take size left ≡ take block_rows left) × (drop size left ≡ drop block_rows left)
cut_at left size e =
    let same : size ≡ min block_rows (length left) = omega (arith, e, block_rows-is) in
    (ap (λ (n : ℕ). take n left) same ∙ take_min block_rows left, ap (λ (n : ℕ). drop n left) same ∙ drop_min block_rows left)

-- what is known of the block that is next
pub record BlockNext (field least : ℕ) (left block others : List Hit) : Type 0 where
  pub some : 0 < length block
  pub fit : HitsFitFrom field least block
  pub others_fit : HitsFitFrom field (end_after least block) others
  pub block_is : block ≡ take block_rows left
  pub others_are : others ≡ drop block_rows left

pub block_next : (field blocks : ℕ) (hs : List Hit) (before : List ℕ) (n : ℕ) (left : List Hit) (least : ℕ) (area out : List ℕ) (block others : List Hit) → BlocksWritten field blocks hs before n left least area out → 0 < n
    → block ≡ take block_rows left → others ≡ drop block_rows left → BlockNext field least left block others
block_next field blocks hs before zero left least area out block others w pos b o = absurd (omega arith)
block_next field blocks hs before (suc n) left least area out block others w pos b o =
    let whole : block ++ others ≡ left = ap (λ (x : List Hit). x ++ others) b ∙ ap (λ (x : List Hit). take block_rows left ++ x) o ∙ take-append-drop block_rows left in
    let parts = fits_parts field least block others (subst (HitsFitFrom field least) (sym whole) w.fit) in
    record { some = omega (arith, ap length b, length-block left, some_rows n (length left) w.are, block_rows-is); fit = parts.0; others_fit = parts.1; block_is = b; others_are = o }

pub block_written : (field blocks : ℕ) (hs : List Hit) (before : List ℕ) (n : ℕ) (left : List Hit) (least : ℕ) (area out : List ℕ) (block others : List Hit) (new_area new_out : List ℕ) (end : ℕ)
    → BlocksWritten field blocks hs before n left least area out → 0 < n → BlockNext field least left block others → AddsBlock field least block area new_area out new_out end
    → BlocksWritten field blocks hs before (n - 1) others end new_area new_out
block_written field blocks hs before zero left least area out block others new_area new_out end w pos x a = absurd (omega arith)
block_written field blocks hs before (suc n) left least area out block others new_area new_out end w pos x a =
    let s = skip_of field least block in
    let m : suc n - 1 ≡ n = omega arith in
    let whole : block ++ others ≡ left = ap (λ (y : List Hit). y ++ others) x.block_is ∙ ap (λ (y : List Hit). take block_rows left ++ y) x.others_are ∙ take-append-drop block_rows left in
    let skips : s ∷ skips_from field n (above_block s) others ≡ skips_from field (suc n) least left =
    ap (λ (y : List Hit). skip_of field least y ∷ skips_from field n (above_block (skip_of field least y)) others) x.block_is
    ∙ ap (λ (y : List Hit). skip_of field least (take block_rows left) ∷ skips_from field n (above_block (skip_of field least (take block_rows left))) y) x.others_are in
    let left_is : length others ≡ length left - block_rows = omega (arith, ap length (sym whole), length-append block others, ap length x.block_is, length-block left) in
    subst (λ (k : ℕ). BlocksWritten field blocks hs before k others end new_area new_out) (sym m) (record {
      below = a.rows.below;
      fit = subst (λ (k : ℕ). HitsFitFrom field k others) (sym a.rows.end_is) x.others_fit;
      are = λ _. blocks_after n (length left) w.are ∙ ap block_count (sym left_is);
      rows = ap (λ (y : List ℕ). y ++ hits_from field end others) a.rows.added ∙ append_assoc area (hits_from field least block) (hits_from field end others)
          ∙ ap (λ (k : ℕ). area ++ (hits_from field least block ++ hits_from field k others)) a.rows.end_is ∙ ap (λ (y : List ℕ). area ++ y) (sym (hits_from-append field least block others))
          ∙ ap (λ (y : List Hit). area ++ hits_from field least y) whole ∙ w.rows;
      whole = ap (λ (y : List ℕ). y ++ chain skip above_block end (skips_from field n end others)) a.added
          ∙ ap (λ (k : ℕ). (out ++ skip least s) ++ chain skip above_block k (skips_from field n k others)) a.end_above
          ∙ append_assoc out (skip least s) (chain skip above_block (above_block s) (skips_from field n (above_block s) others))
          ∙ ap (λ (y : List Skip). out ++ chain skip above_block least y) skips ∙ w.whole;
      skips_fit = λ later. w.skips_fit (subst (ChainFits SkipFits above_block least) skips (a.skip_fits, subst (λ (k : ℕ). ChainFits SkipFits above_block k (skips_from field n k others)) a.end_above later));
    })

pub blocks_added : (field blocks : ℕ) (hs : List Hit) (before : List ℕ) (n : ℕ) (left : List Hit) (least : ℕ) (area out with_area new : List ℕ) (end : ℕ) → BlocksWritten field blocks hs before n left least area out → n ≡ 0
    → with_area ≡ out ++ area → AddsRows field least left with_area new end → AddsBlocks field blocks hs before new
blocks_added field blocks hs before (suc n) left least area out with_area new end w none e a = absurd (omega arith)
blocks_added field blocks hs before zero left least area out with_area new end w none e a =
    let entries = chain skip above_block 0 (skips_from field blocks 0 hs) in
    record {
      added = a.added ∙ ap (λ (x : List ℕ). x ++ hits_from field least left) (e ∙ ap (λ (x : List ℕ). x ++ area) (sym (append-nil out) ∙ w.whole))
          ∙ append_assoc (before ++ entries) area (hits_from field least left) ∙ ap (λ (x : List ℕ). (before ++ entries) ++ x) w.rows ∙ append_assoc before entries (hits_from field 0 hs);
      skips_fit = w.skips_fit tt;
    }
