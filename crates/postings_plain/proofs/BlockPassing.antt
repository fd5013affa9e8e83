-- A cursor that passes whole blocks.
use Rattle.std.proofs.Common.{◌≡◌, ℕ, zero, suc, ◌+◌, ◌-◌, ◌^◌, ◌<◌, ◌≤◌, ◌⊎◌, List, [], ◌∷◌, ◌++◌, length, get_or, take, drop, Option, Some, None, refl, sym, ap, subst, ◌∙◌, inl, inr, append_assoc, arith, length-append, length-drop, take-append-drop, drop_at}
use Rattle.std.specs.List.{All}
use Rattle.std.proofs.lemmas.List.Elements.{All-head, All-tail}
use Rattle.codec_frame.specs.Bytes.{AreBytes}
use Rattle.body_forms.proofs.Formats.{bind_some, read_is}
use Rattle.nrt_base.proofs.Plain.{cons_first, cons_rest}
use Rattle.postings_plain.specs.declared.format.Format.{Format}
use Rattle.postings_plain.specs.declared.blocks.BlockStart.{BlockStart}
use Rattle.postings_plain.specs.Postings.{Hit, row_of, above_hit, block_rows, block_count, skip_count, Skip, above_block, hits_from, HitsFitFrom, skip_of, skips_from}
use Rattle.postings_plain.specs.Rows.{from_row, first_row, first_hit, after_first}
use Rattle.postings_plain.specs.Reading.{hit_at, end_after, skip_at, skips_at, blocks_at, rows_of_term_at, hits_or_none, AreHits}
use Rattle.postings_plain.specs.Blocks.{IsBlockStart, IsAhead, IsReached}
use Rattle.postings_plain.proofs.HitLaws.{rows_format, hits_from-append, fits_parts, all_below}
use Rattle.postings_plain.proofs.BlockLaws.{block_rows-is, block_count-more, skip_count-blocks, length-block, above_end, term_takes}
use Rattle.postings_plain.proofs.CountedHits.{next_skip}
use Rattle.postings_plain.proofs.KeptHits.{from_row-zero}
use Rattle.postings_plain.proofs.Passing.{rows_at, was_read, is_read, Head, head_of, none_left, from_row-below, from_row-at, rows_ascend, all_from}

-- ---- the block after a block

-- what the skip entry of a block says of the hits from there on
pub record Follows (field : ℕ) (start : BlockStart) (hs : List Hit) (s : Skip) (after : List ℕ) : Type 0 where
  pub long : s.1 ≤ length start.rest.now
  pub below : All (λ h. row_of h < above_block s) (take block_rows hs)
  pub count : length (drop block_rows hs) ≡ start.count - block_rows
  pub fit : HitsFitFrom field (above_block s) (drop block_rows hs)
  pub tail : List ℕ
  pub rows : drop s.1 start.rest.now ≡ hits_from field (above_block s) (drop block_rows hs) ++ tail
  pub table : List ℕ
  pub skips : (count : ℕ) → count ≡ start.count - block_rows → skips_at (block_count count) (above_block s) after ≡ Some (skips_from field (block_count count) (above_block s) (drop block_rows hs), table)

same_parts : (a b : Skip) (x y z : List ℕ) (more : ℕ) → a ≡ b → x ≡ y ++ z → more ≡ length y → b.1 ≡ more → a.1 ≤ length x
same_parts a b x y z more e f g h = omega (arith, ap (λ (s : Skip). s.1) e, ap length f, length-append y z)

pub follows : (field : ℕ) (start : BlockStart) (hs : List Hit) (s : Skip) (after : List ℕ) → IsBlockStart field start hs → 0 < start.count → skip_at start.least start.skips.now ≡ Some (s, after)
    → Follows field start hs s after
follows field start hs s after b pos e =
    let count = start.count in
    let least = start.least in
    let block = take block_rows hs in
    let others = drop block_rows hs in
    let m = block_count (count - block_rows) in
    let more : block_count count ≡ suc m = block_count-more count pos in
    let n = next_skip (block_count count) least start.skips.now (skips_from field (block_count count) least hs) b.table (omega (arith, more)) b.skips in
    let q = read_is s n.skip after n.rest (sym e ∙ n.first) in
    let listed : skip_of field least block ∷ skips_from field m (above_block (skip_of field least block)) others ≡ n.skip ∷ n.others = ap (λ (k : ℕ). skips_from field k least hs) (sym more) ∙ n.whole in
    let is : s ≡ skip_of field least block = q.0 ∙ sym (cons_first (skip_of field least block) n.skip (skips_from field m (above_block (skip_of field least block)) others) n.others listed) in
    let rest_is : skips_from field m (above_block (skip_of field least block)) others ≡ n.others = cons_rest (skip_of field least block) n.skip (skips_from field m (above_block (skip_of field least block)) others) n.others listed in
    let some : 0 < length block = omega (arith, length-block hs, b.count, block_rows-is) in
    let end : end_after least block ≡ above_block s = above_end field least block some ∙ ap above_block (sym is) in
    let whole : block ++ others ≡ hs = take-append-drop block_rows hs in
    let parts = fits_parts field least block others (subst (HitsFitFrom field least) (sym whole) b.fit) in
    let tail = hits_from field (above_block s) others ++ b.after in
    let bytes : start.rest.now ≡ hits_from field least block ++ tail =
    b.rows ∙ ap (λ (x : List Hit). hits_from field least x ++ b.after) (sym whole) ∙ ap (λ (x : List ℕ). x ++ b.after) (hits_from-append field least block others)
    ∙ append_assoc (hits_from field least block) (hits_from field (end_after least block) others) b.after ∙ ap (λ (k : ℕ). hits_from field least block ++ (hits_from field k others ++ b.after)) end in
    let size : s.1 ≡ length (hits_from field least block) = ap (λ (x : Skip). x.1) is in
    let left : length others ≡ count - block_rows = omega (arith, length-drop block_rows hs, b.count) in
    record {
      long = same_parts s (skip_of field least block) start.rest.now (hits_from field least block) tail (length (hits_from field least block)) is bytes refl refl;
      below = λ i d lt. subst (λ (k : ℕ). row_of (get_or block i d) < k) end (all_below field least block parts.0 i d lt);
      count = left;
      fit = subst (λ (j : ℕ). HitsFitFrom field j others) end parts.1;
      tail = b.after;
      rows = ap (drop s.1) bytes ∙ drop_at (hits_from field least block) tail s.1 (sym size);
      table = b.table;
      skips = λ k same.
          let blocks : block_count (count) - 1 ≡ block_count k = omega (arith, more, ap block_count same) in
          ap (λ (j : ℕ). skips_at j (above_block s) after) (sym blocks)
          ∙ ap (λ (x : Skip). skips_at (block_count count - 1) (above_block x) after) q.0 ∙ ap (skips_at (block_count count - 1) (above_block n.skip)) q.1 ∙ n.onward
          ∙ ap (λ (x : List Skip). Some (x, b.table)) (sym rest_is)
          ∙ ap (λ (x : Skip). Some (skips_from field m (above_block x) others, b.table)) (sym is)
          ∙ ap (λ (j : ℕ). Some (skips_from field j (above_block s) others, b.table)) (ap block_count (sym same));
    }

pub skip_is_there : (field : ℕ) (start : BlockStart) (hs : List Hit) → IsBlockStart field start hs → 0 < start.count → skip_at start.least start.skips.now ≡ None → ⊥
skip_is_there field start hs b pos e =
    let n = next_skip (block_count start.count) start.least start.skips.now (skips_from field (block_count start.count) start.least hs) b.table (omega (arith, block_count-more start.count pos)) b.skips in
    let clash = sym e ∙ n.first in cc

-- ---- hits that are read are as many as were asked for

pub rows_long : (field count least : ℕ) (rest : List ℕ) (hs : List Hit) (tail : List ℕ) → rows_at field count least rest ≡ Some (hs, tail) → length hs ≡ count
rows_long field zero least rest hs tail e = let q = read_is [] hs rest tail e in ap length (sym q.0)
rows_long field (suc n) least rest hs tail e =
    let h = head_of field (suc n) least rest hs tail (omega arith) e in
    let m : suc n - 1 ≡ n = omega arith in
    let others : rows_at field n (above_hit h.head) h.after ≡ Some (h.others, tail) = ap (λ (k : ℕ). rows_at field k (above_hit h.head) h.after) (sym m) ∙ h.onward in
    ap length h.whole ∙ ap suc (rows_long field n (above_hit h.head) h.after h.others tail others)

-- ---- from block to block

from_row-passed : (row : ℕ) (front others : List Hit) → All (λ h. row_of h < row) front → from_row row (front ++ others) ≡ from_row row others
from_row-passed row [] others below = refl
from_row-passed row (h ∷ front) others below =
    from_row-below row h (front ++ others) (All-head (λ (g : Hit). row_of g < row) h front below) ∙ from_row-passed row front others (All-tail (λ (g : Hit). row_of g < row) h front below)

none_passed : (row : ℕ) (front : List Hit) → length front ≡ 0 → All (λ h. row_of h < row) front
none_passed row front e = λ i d lt. absurd (omega arith)

-- The hits left are read from the bytes left, and from the row on they are those of the whole; the next block may be ahead.
pub record Passes (field count least : ℕ) (rest : List ℕ) (row : ℕ) (whole : List Hit) (next : BlockStart) : Type 0 where
  pub below : least ≤ 2 ^ 32
  pub left : List Hit
  pub tail : List ℕ
  pub read : rows_at field count least rest ≡ Some (left, tail)
  pub same : from_row row left ≡ from_row row whole
  pub ahead : IsAhead field left next

pub passes_none : (field count least : ℕ) (rest : List ℕ) (row : ℕ) (whole : List Hit) (next : BlockStart) → least ≤ 2 ^ 32 → AreHits (rows_at field count least rest) → hits_or_none (rows_at field count least rest) ≡ whole
    → IsAhead field (hits_or_none (rows_at field count least rest)) next → Passes field count least rest row whole next
passes_none field count least rest row whole next below r e ahead =
    let w = was_read (rows_at field count least rest) r in
    let is : hits_or_none (rows_at field count least rest) ≡ w.0 = ap hits_or_none w.2 in
    record { below = below; left = w.0; tail = w.1; read = w.2; same = ap (from_row row) (sym is ∙ e); ahead = subst (λ (hs : List Hit). IsAhead field hs next) is ahead }

-- ---- a hit is passed

moved : (field n : ℕ) (g h : Hit) (a b : List ℕ) → g ≡ h → a ≡ b → rows_at field n (above_hit h) b ≡ rows_at field n (above_hit g) a
moved field n g h a b e f = ap (λ (z : Hit). rows_at field n (above_hit z) b) (sym e) ∙ ap (rows_at field n (above_hit g)) (sym f)

-- the first of the hits left is the one that was read
front : (field count least : ℕ) (rest : List ℕ) (hs : List Hit) (tail : List ℕ) (x : ℕ) (xs after : List ℕ) (h : Head field count least rest hs tail) → hit_at field least rest ≡ Some ((x, xs), after)
    → (hs ≡ (x, xs) ∷ h.others) × (rows_at field (count - 1) (x + 1) after ≡ Some (h.others, tail))
front field count least rest hs tail x xs after h e =
    let q = read_is h.head (x, xs) h.after after (sym h.first ∙ e) in
    (h.whole ∙ ap (λ (z : Hit). z ∷ h.others) q.0, moved field (count - 1) h.head (x, xs) h.after after q.0 q.1 ∙ h.onward)

not_zero : (n : ℕ) → (n ≡ 0 → ⊥) → 0 < n
not_zero zero never = absurd (never refl)
not_zero (suc n) never = omega arith

others_parts : (h : Hit) (hs front others : List Hit) → h ∷ hs ≡ front ++ others → 0 < length front → (rest : List Hit) × (hs ≡ rest ++ others) × (front ≡ h ∷ rest)
others_parts h hs [] others e pos = absurd (omega arith)
others_parts h hs (g ∷ front) others e pos = (front, cons_rest h g hs (front ++ others) e, ap (λ (x : Hit). x ∷ front) (sym (cons_first h g hs (front ++ others) e)))

-- a hit before the next block is passed, and the block is still ahead
ahead_after : (field count : ℕ) (h : Hit) (left others : List Hit) (next : BlockStart) → left ≡ h ∷ others → length left ≡ count → (0 < next.count → next.count ≡ count → ⊥) → IsAhead field left next → IsAhead field others next
ahead_after field count h left others next e long away ahead pos =
    let a = ahead pos in
    let some : 0 < length a.front = not_zero (length a.front) (λ none. away pos (omega (arith, none, long, a.begins.count, ap length a.parts, length-append a.front a.others))) in
    let x = others_parts h others a.front a.others (sym e ∙ a.parts) some in
    record {
      front = x.0;
      others = a.others;
      parts = x.1;
      below = All-tail (λ (g : Hit). row_of g < next.least) h x.0 (subst (All (λ g. row_of g < next.least)) x.2 a.below);
      begins = a.begins;
    }

pub passes_one : (field count least : ℕ) (rest : List ℕ) (row : ℕ) (whole : List Hit) (next : BlockStart) (x : ℕ) (xs after : List ℕ) → 0 < count → x < row → x < 2 ^ 32 → hit_at field least rest ≡ Some ((x, xs), after)
    → (IsReached next count row → ⊥) → Passes field count least rest row whole next → Passes field (count - 1) (x + 1) after row whole next
passes_one field count least rest row whole next x xs after pos lt fit e away p =
    let h = head_of field count least rest p.left p.tail pos p.read in
    let f = front field count least rest p.left p.tail x xs after h e in
    record {
      below = omega arith;
      left = h.others;
      tail = p.tail;
      read = f.1;
      same = sym (from_row-below row (x, xs) h.others lt) ∙ ap (from_row row) (sym f.0) ∙ p.same;
      ahead = ahead_after field count (x, xs) p.left h.others next f.0 (rows_long field count least rest p.left p.tail p.read) (λ there near. away (record { there = there; near = inl near })) p.ahead;
    }

pub not_none : (field count least : ℕ) (rest : List ℕ) (row : ℕ) (whole : List Hit) (next : BlockStart) → 0 < count → Passes field count least rest row whole next → hit_at field least rest ≡ None → ⊥
not_none field count least rest row whole next pos p e =
    let h = head_of field count least rest p.left p.tail pos p.read in
    let clash = sym e ∙ h.first in
    cc

-- ---- a block is passed

-- how many hits are left, and how many of them stand from the next block on
counts : (field count least : ℕ) (rest : List ℕ) (row : ℕ) (whole : List Hit) (next : BlockStart) (p : Passes field count least rest row whole next) (pos : 0 < next.count) → count ≡ length (p.ahead pos).front + next.count
counts field count least rest row whole next p pos =
    let a = p.ahead pos in
    omega (arith, rows_long field count least rest p.left p.tail p.read, a.begins.count, ap length a.parts, length-append a.front a.others)

pub next_is_within : (field count least : ℕ) (rest : List ℕ) (row : ℕ) (whole : List Hit) (next : BlockStart) → Passes field count least rest row whole next → 0 < next.count → next.count ≤ count
next_is_within field count least rest row whole next p pos = omega (arith, counts field count least rest row whole next p pos)

front_below : (row : ℕ) (next : BlockStart) (front : List Hit) (count : ℕ) → count ≡ length front + next.count → All (λ h. row_of h < next.least) front → (next.count ≡ count) ⊎ (next.least ≤ row) → All (λ h. row_of h < row) front
front_below row next front count e below (inl none) = none_passed row front (omega arith)
front_below row next front count e below (inr le) = λ i d lt. omega (arith, below i d lt)

pub begins_of : (field count least : ℕ) (rest : List ℕ) (row : ℕ) (whole : List Hit) (next : BlockStart) (p : Passes field count least rest row whole next) → (pos : 0 < next.count) → (hs : List Hit) × IsBlockStart field next hs
begins_of field count least rest row whole next p pos = ((p.ahead pos).others, (p.ahead pos).begins)

-- the next block begins, and the one after it is ahead
pub passes_block : (field count least : ℕ) (rest : List ℕ) (row : ℕ) (whole : List Hit) (next further : BlockStart) → IsReached next count row
    → ((hs : List Hit) → IsBlockStart field next hs → IsBlockStart field further (drop block_rows hs))
    → ((hs : List Hit) → IsBlockStart field next hs → All (λ h. row_of h < further.least) (take block_rows hs))
    → Passes field count least rest row whole next → Passes field next.count next.least next.rest.now row whole further
passes_block field count least rest row whole next further reached begins below p =
    let a = p.ahead reached.there in
    let passed = front_below row next a.front count (counts field count least rest row whole next p reached.there) a.below reached.near in
    record {
      below = a.begins.below;
      left = a.others;
      tail = a.begins.after;
      read = ap (rows_at field next.count next.least) a.begins.rows ∙ (rows_format field next.count next.least).again a.others a.begins.after (a.begins.count, a.begins.fit);
      same = sym (ap (from_row row) a.parts ∙ from_row-passed row a.front a.others passed) ∙ p.same;
      ahead = λ _. record { front = take block_rows a.others; others = drop block_rows a.others; parts = sym (take-append-drop block_rows a.others); below = below a.others a.begins; begins = begins a.others a.begins };
    }

-- ---- where the loop ends

-- the hits left are those from the row on, and this is the first of them
pub record Arrives (field count least : ℕ) (rest : List ℕ) (row : ℕ) (whole : List Hit) (next : BlockStart) (found : Option ℕ) : Type 0 where
  pub read : AreHits (rows_at field count least rest)
  pub left : hits_or_none (rows_at field count least rest) ≡ from_row row whole
  pub first : found ≡ first_row (from_row row whole)
  pub ahead : IsAhead field (hits_or_none (rows_at field count least rest)) next

still_ahead : (field count least : ℕ) (rest : List ℕ) (row : ℕ) (whole : List Hit) (next : BlockStart) (p : Passes field count least rest row whole next) → IsAhead field (hits_or_none (rows_at field count least rest)) next
still_ahead field count least rest row whole next p = subst (λ (hs : List Hit). IsAhead field hs next) (sym (ap hits_or_none p.read)) p.ahead

-- at a row that is not below
pub stops : (field count least : ℕ) (rest : List ℕ) (row : ℕ) (whole : List Hit) (next : BlockStart) (x : ℕ) (xs after : List ℕ) → 0 < count → row ≤ x → hit_at field least rest ≡ Some ((x, xs), after)
    → Passes field count least rest row whole next → Arrives field count least rest row whole next (Some x)
stops field count least rest row whole next x xs after pos le e p =
    let h = head_of field count least rest p.left p.tail pos p.read in
    let f = front field count least rest p.left p.tail x xs after h e in
    let here : from_row row whole ≡ (x, xs) ∷ h.others = sym p.same ∙ ap (from_row row) f.0 ∙ from_row-at row (x, xs) h.others le in
    record {
      read = is_read (rows_at field count least rest) p.left p.tail p.read;
      left = ap hits_or_none p.read ∙ f.0 ∙ sym here;
      first = sym (ap first_row here);
      ahead = still_ahead field count least rest row whole next p;
    }

-- where no hit is left
pub runs_out : (field count least : ℕ) (rest : List ℕ) (row : ℕ) (whole : List Hit) (next : BlockStart) → count ≡ 0 → Passes field count least rest row whole next → Arrives field count least rest row whole next None
runs_out field count least rest row whole next z p =
    let none = none_left field count least rest p.left p.tail z p.read in
    let here : from_row row whole ≡ [] = sym p.same ∙ ap (from_row row) none in
    record {
      read = is_read (rows_at field count least rest) p.left p.tail p.read;
      left = ap hits_or_none p.read ∙ none ∙ sym here;
      first = sym (ap first_row here);
      ahead = still_ahead field count least rest row whole next p;
    }

-- ---- the first hit is taken

-- the hits left are those after the first, whose row and number of positions these are
pub record TakesFirst (field count least : ℕ) (rest : List ℕ) (row times : ℕ) (whole : List Hit) (next : BlockStart) : Type 0 where
  pub first : ◌≡◌ {A = Option (ℕ × ℕ)} (Some (row, times)) (first_hit whole)
  pub read : AreHits (rows_at field count least rest)
  pub left : hits_or_none (rows_at field count least rest) ≡ after_first whole
  pub above : All (λ h. row < row_of h) (hits_or_none (rows_at field count least rest))
  pub ahead : IsAhead field (hits_or_none (rows_at field count least rest)) next

pub takes_first : (field count least : ℕ) (rest : List ℕ) (whole : List Hit) (next : BlockStart) (x times : ℕ) (xs after : List ℕ) → 0 < count → hit_at field least rest ≡ Some ((x, xs), after) → length xs ≡ times
    → (IsReached next count 0 → ⊥) → Passes field count least rest 0 whole next → TakesFirst field (count - 1) (x + 1) after x times whole next
takes_first field count least rest whole next x times xs after pos e long away p =
    let h = head_of field count least rest p.left p.tail pos p.read in
    let f = front field count least rest p.left p.tail x xs after h e in
    let is : whole ≡ (x, xs) ∷ h.others = sym (from_row-zero whole) ∙ sym p.same ∙ from_row-zero p.left ∙ f.0 in
    let now : hits_or_none (rows_at field (count - 1) (x + 1) after) ≡ h.others = ap hits_or_none f.1 in
    let up = rows_ascend field (count - 1) (x + 1) after h.others p.tail f.1 in
    record {
      first = ap (λ (n : ℕ). Some (x, n)) (sym long) ∙ sym (ap first_hit is);
      read = is_read (rows_at field (count - 1) (x + 1) after) h.others p.tail f.1;
      left = now ∙ sym (ap after_first is);
      above = subst (All (λ (g : Hit). x < row_of g)) (sym now) (λ i d lt. let least = all_from (x + 1) h.others up i d lt in omega (arith, least));
      ahead = subst (λ (hs : List Hit). IsAhead field hs next) (sym now)
          (ahead_after field count (x, xs) p.left h.others next f.0 (rows_long field count least rest p.left p.tail p.read) (λ there near. away (record { there = there; near = inl near })) p.ahead);
    }

-- none is left to take
pub record TakesNone (field count least : ℕ) (rest : List ℕ) (whole : List Hit) : Type 0 where
  pub first : ◌≡◌ {A = Option (ℕ × ℕ)} None (first_hit whole)
  pub left : hits_or_none (rows_at field count least rest) ≡ after_first whole

pub takes_none : (field count least : ℕ) (rest : List ℕ) (whole : List Hit) (next : BlockStart) → count ≡ 0 → Passes field count least rest 0 whole next → TakesNone field count least rest whole
takes_none field count least rest whole next z p =
    let none = none_left field count least rest p.left p.tail z p.read in
    let is : whole ≡ [] = sym (from_row-zero whole) ∙ sym p.same ∙ ap (from_row 0) none in
    record { first = sym (ap first_hit is); left = ap hits_or_none p.read ∙ none ∙ sym (ap after_first is) }

-- ---- where a cursor begins

-- the hits of a term are all left, and the first block is ahead
pub record BeginsAt (field count : ℕ) (rows : List ℕ) (hs : List Hit) (next : BlockStart) : Type 0 where
  pub tail : List ℕ
  pub read : rows_at field count 0 rows ≡ Some (hs, tail)
  pub ahead : IsAhead field hs next

pub begins_at : (format : Format) (field count blocks : ℕ) (bytes : List ℕ) (skips : List Skip) (rows : List ℕ) (hs : List Hit) (tail : List ℕ) (next : BlockStart) → AreBytes bytes → rows_of_term_at format field count bytes ≡ Some (hs, tail)
    → blocks ≡ skip_count format count → skips_at blocks 0 bytes ≡ Some (skips, rows) → next.least ≡ 0 → (0 < next.count → (0 < blocks) × (next.count ≡ count)) → next.rest.now ≡ rows → next.skips.now ≡ bytes → BeginsAt field count rows hs next
begins_at format field count blocks bytes skips rows hs tail next fits e is table least some rest entries =
    let t = term_takes format field count bytes hs tail fits e in
    let q = read_is skips t.skips rows t.rows (sym table ∙ ap (λ (n : ℕ). skips_at n 0 bytes) is ∙ t.table) in
    let read : rows_at field count 0 rows ≡ Some (hs, tail) = ap (rows_at field count 0) (q.1 ∙ t.blocks.takes.parts) ∙ (rows_format field count 0).again hs tail (t.blocks.long, t.blocks.fits) in
    record {
      tail = tail;
      read = read;
      ahead = λ pos.
          let s = some pos in
          let blocks_are : skip_count format count ≡ block_count count = skip_count-blocks format count (omega (arith, is, s.0)) in
          record {
            front = [];
            others = hs;
            parts = refl;
            below = λ i d lt. absurd (omega arith);
            begins = record {
              below = omega (arith, least);
              count = t.blocks.long ∙ sym s.1;
              fit = subst (λ (k : ℕ). HitsFitFrom field k hs) (sym least) t.blocks.fits;
              after = tail;
              rows = rest ∙ q.1 ∙ t.blocks.takes.parts ∙ ap (λ (k : ℕ). hits_from field k hs ++ tail) (sym least);
              table = t.rows;
              skips = ap (λ (n : ℕ). skips_at (block_count n) next.least next.skips.now) s.1 ∙ ap (λ (k : ℕ). skips_at (block_count count) k next.skips.now) least
                  ∙ ap (skips_at (block_count count) 0) entries ∙ ap (λ (n : ℕ). skips_at n 0 bytes) (sym blocks_are) ∙ t.table
                  ∙ ap (λ (x : List Skip). Some (x, t.rows)) (t.skips_are ∙ ap (λ (n : ℕ). skips_from field (skip_count format n) 0 hs) t.blocks.long ∙ ap (λ (n : ℕ). skips_from field n 0 hs) (blocks_are ∙ ap block_count (sym s.1))
                  ∙ ap (λ (k : ℕ). skips_from field (block_count next.count) k hs) (sym least));
            };
          };
    }

pub table_is_there : (format : Format) (field count : ℕ) (bytes : List ℕ) → AreHits (rows_of_term_at format field count bytes) → skips_at (skip_count format count) 0 bytes ≡ None → ⊥
table_is_there format field count bytes are e =
    let w = was_read (rows_of_term_at format field count bytes) are in
    let f = bind_some (skips_at (skip_count format count) 0 bytes) (λ s. blocks_at field s.0 count 0 s.1) (w.0, w.1) w.2 in
    let clash = sym e ∙ f.1 in cc
