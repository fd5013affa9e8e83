-- The laws of blocks: what is spelled with skip entries is read back, and what is read is spelled so.
use Rattle.std.proofs.Common.{◌≡◌, ℕ, zero, suc, ◌+◌, ◌-◌, ◌^◌, ◌<◌, ◌≤◌, ◌==◌, min, Bool, true, false, cond, List, [], ◌∷◌, ◌++◌, length, take, drop, Some, None, refl, sym, ap, subst, ◌∙◌, append_assoc, inl, inr, arith, length-append, length-take, length-drop, take-append-drop, take_at, drop_at, take_all, append-nil}
use Rattle.std.specs.Prelude.{nat_lt}
use Rattle.std.proofs.lemmas.Bool.{eqb-true, eq-eqb, and_parts, and_from, cases_lt}
use Rattle.std.proofs.lemmas.List.{drop_all, nil_from_length}
use Rattle.std.proofs.lemmas.Grind.{div_ceil_times}
use Rattle.nrt_base.proofs.Plain.{cons_from}
use Rattle.codec_frame.specs.Bytes.{AreBytes}
use Rattle.body_forms.specs.Format.{Read, ◌>>=◌, Takes, IsFormat, chain, ChainFits}
use Rattle.body_forms.specs.VInts.{vint}
use Rattle.body_forms.specs.Numbers.{difference, MayCome, difference_at, vint_at}
use Rattle.body_forms.proofs.Formats.{bind_some, passed, Takes-then, read_is, pair_of, then_format, chain_format}
use Rattle.body_forms.proofs.Numerals.{vint_format}
use Rattle.body_forms.proofs.NumberLaws.{difference_format}
use Rattle.postings_plain.specs.declared.format.Format.{Format}
use Rattle.postings_plain.specs.declared.format.Format.TheVariants.{One, Two}
use Rattle.postings_plain.specs.Postings.{Hit, block_rows, block_count, skip_count, Skip, above_block, skip, SkipFits, hits_from, HitsFitFrom, last_row, skip_of, skips_from, skips_of, SkipsFit}
use Rattle.postings_plain.specs.Reading.{end_after, counted_from_at, skip_at, skips_at, ends_as, blocks_at, rows_of_term_at}
use Rattle.postings_plain.proofs.HitLaws.{rows_format, hits_from-append, fits-append, fits_parts, end_after-last_row}

-- the same values, told otherwise
pub format_as : {X : Type 0} (s : X → List ℕ) (F G : X → Type 0) (r : List ℕ → Read X) → IsFormat s F r → ((x : X) → F x → G x) → ((x : X) → G x → F x) → IsFormat s G r
format_as s F G r f to from = record { again = λ x rest h. f.again x rest (from x h); takes = λ bytes x rest fits e. let t = f.takes bytes x rest fits e in (t.0, to x t.1) }

pub skip_format : (k : ℕ) → IsFormat (skip k) (SkipFits k) (skip_at k)
skip_format k = then_format (difference k) (MayCome k) (difference_at k) (λ _. vint) (λ _ n. n < 2 ^ 32) (λ _. vint_at) (difference_format k) (λ _ _. vint_format)

pub skips_format : (n k : ℕ) → IsFormat (chain skip above_block k) (λ skips. (length skips ≡ n) × ChainFits SkipFits above_block k skips) (skips_at n k)
skips_format n k = chain_format skip SkipFits skip_at above_block skip_format n k

-- ---- how many blocks there are

pub block_rows-is : block_rows ≡ 128
unfolding block_rows
block_rows-is = refl

pub block_count-none : block_count 0 ≡ 0
unfolding block_count block_rows
block_count-none = refl

pub block_count-more : (count : ℕ) → 0 < count → block_count count ≡ suc (block_count (count - block_rows))
unfolding block_count block_rows
block_count-more count pos = let a = div_ceil_times count 128 (omega arith) in let b = div_ceil_times (count - 128) 128 (omega arith) in omega (arith, a.0, a.1, b.0, b.1)

-- where there are blocks, they are as many as the rows have
abbrev pub AreBlocks : (n count : ℕ) → Type 0
AreBlocks n count = 0 < n → n ≡ block_count count

pub some_rows : (n count : ℕ) → AreBlocks (suc n) count → 0 < count
some_rows n zero h = absurd (omega (arith, h (omega arith), block_count-none))
some_rows n (suc count) h = omega arith

pub blocks_after : (n count : ℕ) → AreBlocks (suc n) count → n ≡ block_count (count - block_rows)
blocks_after n count h = omega (arith, h (omega arith), block_count-more count (some_rows n count h))

if_some : (b : Bool) (n : ℕ) → 0 < cond b n 0 → cond b n 0 ≡ n
if_some true n pos = refl
if_some false n pos = absurd (omega arith)

pub skip_count-blocks : (format : Format) (count : ℕ) → AreBlocks (skip_count format count) count
skip_count-blocks One count pos = absurd (omega arith)
skip_count-blocks Two count pos = if_some (nat_lt block_rows count) (block_count count) pos

pub length-skips_from : (field n k : ℕ) (hs : List Hit) → length (skips_from field n k hs) ≡ n
length-skips_from field zero k hs = refl
length-skips_from field (suc n) k hs = ap suc (length-skips_from field n (above_block (skip_of field k (take block_rows hs))) (drop block_rows hs))

-- ---- a block, then others

pub record IsCut (block others : List Hit) : Type 0 where
  pub first : take block_rows (block ++ others) ≡ block
  pub rest : drop block_rows (block ++ others) ≡ others

pub is_cut : (block others : List Hit) (count : ℕ) → length block ≡ min block_rows count → length others ≡ count - block_rows → IsCut block others
is_cut block others count a b = elim (cases_lt count block_rows) [
  | inl lt ↦
      let none : others ≡ [] = nil_from_length others (omega arith) in
      let few : length (block ++ others) ≤ block_rows = omega (arith, length-append block others) in
      record { first = take_all block_rows (block ++ others) few ∙ ap (λ (t : List Hit). block ++ t) none ∙ append-nil block; rest = drop_all block_rows (block ++ others) few ∙ sym none }
  | inr ge ↦ record { first = take_at block others block_rows (omega arith); rest = drop_at block others block_rows (omega arith) }
]

pub length-block : (hs : List Hit) → length (take block_rows hs) ≡ min block_rows (length hs)
length-block hs = length-take block_rows hs

pub ends_true : (s : Skip) (k : ℕ) (bytes : List ℕ) (block : List Hit × List ℕ) → ends_as s k bytes block ≡ true → (end_after k block.0 ≡ above_block s) × (length bytes ≡ length block.1 + s.1)
ends_true s k bytes block e =
    let p = and_parts (end_after k block.0 == above_block s) (length bytes == length block.1 + s.1) e in
    (eqb-true (end_after k block.0) (above_block s) p.0, eqb-true (length bytes) (length block.1 + s.1) p.1)

pub ends_pass : (s : Skip) (k : ℕ) (bytes : List ℕ) (block : List Hit × List ℕ) → end_after k block.0 ≡ above_block s → length bytes ≡ length block.1 + s.1 → ends_as s k bytes block ≡ true
ends_pass s k bytes block e f = and_from (end_after k block.0 == above_block s) (length bytes == length block.1 + s.1) (eq-eqb (end_after k block.0) (above_block s) e) (eq-eqb (length bytes) (length block.1 + s.1) f)

-- ---- what is spelled is read

pub above_end : (field k : ℕ) (block : List Hit) → 0 < length block → end_after k block ≡ above_block (skip_of field k block)
above_end field k block pos = end_after-last_row k block pos

block_again : (field k count : ℕ) (skips : List Skip) (block others : List Hit) (rest : List ℕ) → 0 < length block → length block ≡ min block_rows count → HitsFitFrom field k block
    → blocks_at field skips (count - block_rows) (above_block (skip_of field k block)) (hits_from field (above_block (skip_of field k block)) others ++ rest) ≡ Some (others, rest)
    → blocks_at field (skip_of field k block ∷ skips) count k (hits_from field k (block ++ others) ++ rest) ≡ Some (block ++ others, rest)
block_again field k count skips block others rest pos len fits later =
    let s = skip_of field k block in
    let tail = hits_from field (above_block s) others ++ rest in
    let bytes = hits_from field k block ++ tail in
    let same : hits_from field k (block ++ others) ++ rest ≡ bytes =
    ap (λ (t : List ℕ). t ++ rest) (hits_from-append field k block others) ∙ append_assoc (hits_from field k block) (hits_from field (end_after k block) others) rest
    ∙ ap (λ (j : ℕ). hits_from field k block ++ (hits_from field j others ++ rest)) (above_end field k block pos) in
    let first : counted_from_at field (min block_rows count) k bytes ≡ Some (block, tail) = (rows_format field (min block_rows count) k).again block tail (len, fits) in
    let ends : ends_as s k bytes (block, tail) ≡ true = ends_pass s k bytes (block, tail) (above_end field k block pos) (omega (arith, length-append (hits_from field k block) tail)) in
    ap (blocks_at field (s ∷ skips) count k) same
    ∙ ap (λ (z : Read (List Hit)). z >>= λ b. cond (ends_as s k bytes b) (blocks_at field skips (count - block_rows) (above_block s) b.1 >>= λ hs. Some (b.0 ++ hs.0, hs.1)) None) first
    ∙ ap (λ (t : Bool). cond t (blocks_at field skips (count - block_rows) (above_block s) tail >>= λ hs. Some (block ++ hs.0, hs.1)) None) ends
    ∙ ap (λ (z : Read (List Hit)). z >>= λ hs. Some (block ++ hs.0, hs.1)) later

pub blocks_again : (field n k : ℕ) (hs : List Hit) (rest : List ℕ) → AreBlocks n (length hs) → HitsFitFrom field k hs → blocks_at field (skips_from field n k hs) (length hs) k (hits_from field k hs ++ rest) ≡ Some (hs, rest)
blocks_again field zero k hs rest are fits = (rows_format field (length hs) k).again hs rest (refl, fits)
blocks_again field (suc n) k hs rest are fits =
    let block = take block_rows hs in
    let others = drop block_rows hs in
    let whole : block ++ others ≡ hs = take-append-drop block_rows hs in
    let pos : 0 < length block = omega (arith, length-block hs, some_rows n (length hs) are, block_rows-is) in
    let parts = fits_parts field k block others (subst (HitsFitFrom field k) (sym whole) fits) in
    let s = skip_of field k block in
    let left : length others ≡ length hs - block_rows = length-drop block_rows hs in
    let later = blocks_again field n (above_block s) others rest (λ _. blocks_after n (length hs) are ∙ ap block_count (sym left)) (subst (λ (j : ℕ). HitsFitFrom field j others) (above_end field k block pos) parts.1) in
    let here = subst (λ (m : ℕ). blocks_at field (skips_from field n (above_block s) others) m (above_block s) (hits_from field (above_block s) others ++ rest) ≡ Some (others, rest)) left later in
    subst (λ (x : List Hit). blocks_at field (s ∷ skips_from field n (above_block s) others) (length hs) k (hits_from field k x ++ rest) ≡ Some (x, rest)) whole
    (block_again field k (length hs) (skips_from field n (above_block s) others) block others rest pos (length-block hs) parts.0 here)

-- ---- what is read is spelled so

-- hits were taken from the front of the bytes, in blocks that end as these skip entries say
pub record TakesBlocks (field : ℕ) (skips : List Skip) (count k : ℕ) (bytes : List ℕ) (hs : List Hit) (rest : List ℕ) : Type 0 where
  pub takes : Takes bytes (hits_from field k hs) rest
  pub long : length hs ≡ count
  pub fits : HitsFitFrom field k hs
  pub skips_are : skips ≡ skips_from field (length skips) k hs

pub same_pair : (a b c d : ℕ) → a ≡ b → c ≡ d → ◌≡◌ {A = Skip} (a, c) (b, d)
same_pair a b c d e f = cc

same_skip : (field k : ℕ) (s : Skip) (block : List Hit) → s.0 ≡ last_row block → s.1 ≡ length (hits_from field k block) → s ≡ skip_of field k block
same_skip field k s block e f = same_pair s.0 (last_row block) s.1 (length (hits_from field k block)) e f

block_then : (field k count : ℕ) (s : Skip) (skips : List Skip) (bytes : List ℕ) (block : List Hit) (after : List ℕ) (others : List Hit) (rest : List ℕ) → 0 < count → Takes bytes (hits_from field k block) after → length block ≡ min block_rows count
    → HitsFitFrom field k block → end_after k block ≡ above_block s → length bytes ≡ length after + s.1 → TakesBlocks field skips (count - block_rows) (above_block s) after others rest → TakesBlocks field (s ∷ skips) count k bytes (block ++ others) rest
block_then field k count s skips bytes block after others rest pos t len fits end long u =
    let some : 0 < length block = omega (arith, len, block_rows-is) in
    let cut = is_cut block others count len u.long in
    let is : s ≡ skip_of field k block = same_skip field k s block (omega (arith, end, end_after-last_row k block some)) (omega (arith, long, ap length t.parts, length-append (hits_from field k block) after)) in
    let there : s ≡ skip_of field k (take block_rows (block ++ others)) = is ∙ ap (skip_of field k) (sym cut.first) in
    record {
      takes = subst (λ (x : List ℕ). Takes bytes x rest)
          (ap (λ (j : ℕ). hits_from field k block ++ hits_from field j others) (sym end) ∙ sym (hits_from-append field k block others))
          (Takes-then bytes (hits_from field k block) after (hits_from field (above_block s) others) rest t u.takes);
      long = omega (arith, length-append block others, len, u.long);
      fits = fits-append field k block others fits (subst (λ (j : ℕ). HitsFitFrom field j others) (sym end) u.fits);
      skips_are = cons_from s (skip_of field k (take block_rows (block ++ others))) skips _ there
          (u.skips_are ∙ ap (λ (x : Skip). skips_from field (length skips) (above_block x) others) there
          ∙ ap (skips_from field (length skips) (above_block (skip_of field k (take block_rows (block ++ others))))) (sym cut.rest));
    }

pub blocks_take : (field : ℕ) (skips : List Skip) (count k : ℕ) (bytes : List ℕ) (hs : List Hit) (rest : List ℕ) → AreBytes bytes → AreBlocks (length skips) count → blocks_at field skips count k bytes ≡ Some (hs, rest)
    → TakesBlocks field skips count k bytes hs rest
blocks_take field [] count k bytes hs rest fits are e =
    let t = (rows_format field count k).takes bytes hs rest fits e in
    record { takes = t.0; long = t.1.0; fits = t.1.1; skips_are = refl }
blocks_take field (s ∷ skips) count k bytes hs rest fits are e =
    let f = bind_some (counted_from_at field (min block_rows count) k bytes) (λ b. cond (ends_as s k bytes b) (blocks_at field skips (count - block_rows) (above_block s) b.1 >>= λ hs. Some (b.0 ++ hs.0, hs.1)) None) (hs, rest) e in
    let p = passed (ends_as s k bytes f.0) (blocks_at field skips (count - block_rows) (above_block s) f.0.1 >>= λ hs. Some (f.0.0 ++ hs.0, hs.1)) (hs, rest) f.2 in
    let g = bind_some (blocks_at field skips (count - block_rows) (above_block s) f.0.1) (λ hs. Some (f.0.0 ++ hs.0, hs.1)) (hs, rest) p.1 in
    let q = read_is (f.0.0 ++ g.0.0) hs g.0.1 rest g.2 in
    let t = (rows_format field (min block_rows count) k).takes bytes f.0.0 f.0.1 fits f.1 in
    let d = ends_true s k bytes f.0 p.0 in
    let u = blocks_take field skips (count - block_rows) (above_block s) f.0.1 g.0.0 g.0.1 t.0.rest_fits (λ _. blocks_after (length skips) count are) g.1 in
    subst (λ (z : List Hit × List ℕ). TakesBlocks field (s ∷ skips) count k bytes z.0 z.1) {x = (f.0.0 ++ g.0.0, g.0.1)} (pair_of (f.0.0 ++ g.0.0) hs g.0.1 rest q.0 q.1)
    (block_then field k count s skips bytes f.0.0 f.0.1 g.0.0 g.0.1 (some_rows (length skips) count are) t.0 t.1.0 t.1.1 d.0 d.1 u)

-- ---- the rows of a term

rows_again : (format : Format) (field : ℕ) (hs : List Hit) (rest : List ℕ) → HitsFitFrom field 0 hs × SkipsFit format field hs
    → rows_of_term_at format field (length hs) ((chain skip above_block 0 (skips_of format field hs) ++ hits_from field 0 hs) ++ rest) ≡ Some (hs, rest)
rows_again format field hs rest h =
    let n = skip_count format (length hs) in
    let skips = skips_of format field hs in
    ap (rows_of_term_at format field (length hs)) (append_assoc (chain skip above_block 0 skips) (hits_from field 0 hs) rest)
    ∙ ap (λ (z : Read (List Skip)). z >>= λ s. blocks_at field s.0 (length hs) 0 s.1) ((skips_format n 0).again skips (hits_from field 0 hs ++ rest) (length-skips_from field n 0 hs, h.1))
    ∙ blocks_again field n 0 hs rest (skip_count-blocks format (length hs)) h.0

-- what was read of the rows of a term
pub record TakesTerm (format : Format) (field count : ℕ) (bytes : List ℕ) (hs : List Hit) (rest : List ℕ) : Type 0 where
  pub skips : List Skip
  pub rows : List ℕ
  pub table : skips_at (skip_count format count) 0 bytes ≡ Some (skips, rows)
  pub table_takes : Takes bytes (chain skip above_block 0 skips) rows
  pub table_fits : ChainFits SkipFits above_block 0 skips
  pub skips_are : skips ≡ skips_of format field hs
  pub blocks : TakesBlocks field skips count 0 rows hs rest

pub term_takes : (format : Format) (field count : ℕ) (bytes : List ℕ) (hs : List Hit) (rest : List ℕ) → AreBytes bytes → rows_of_term_at format field count bytes ≡ Some (hs, rest) → TakesTerm format field count bytes hs rest
term_takes format field count bytes hs rest fits e =
    let f = bind_some (skips_at (skip_count format count) 0 bytes) (λ s. blocks_at field s.0 count 0 s.1) (hs, rest) e in
    let t = (skips_format (skip_count format count) 0).takes bytes f.0.0 f.0.1 fits f.1 in
    let u = blocks_take field f.0.0 count 0 f.0.1 hs rest t.0.rest_fits (λ pos. t.1.0 ∙ skip_count-blocks format count (omega (arith, t.1.0, pos))) f.2 in
    record {
      skips = f.0.0;
      rows = f.0.1;
      table = f.1;
      table_takes = t.0;
      table_fits = t.1.1;
      skips_are = u.skips_are ∙ ap (λ (m : ℕ). skips_from field m 0 hs) (t.1.0 ∙ ap (skip_count format) (sym u.long));
      blocks = u;
    }

pub rows_of_term_format : (format : Format) (field n : ℕ) → IsFormat (λ hs. chain skip above_block 0 (skips_of format field hs) ++ hits_from field 0 hs) (λ hs. (length hs ≡ n) × (HitsFitFrom field 0 hs × SkipsFit format field hs)) (rows_of_term_at format field n)
rows_of_term_format format field n = record {
  again = λ hs rest h. subst (λ (m : ℕ). rows_of_term_at format field m ((chain skip above_block 0 (skips_of format field hs) ++ hits_from field 0 hs) ++ rest) ≡ Some (hs, rest)) h.0 (rows_again format field hs rest h.1);
  takes = λ bytes hs rest fits e.
      let t = term_takes format field n bytes hs rest fits e in
      let both = Takes-then bytes (chain skip above_block 0 t.skips) t.rows (hits_from field 0 hs) rest t.table_takes t.blocks.takes in (
        subst (λ (skips : List Skip). Takes bytes (chain skip above_block 0 skips ++ hits_from field 0 hs) rest) t.skips_are both,
        (t.blocks.long, (t.blocks.fits, subst (ChainFits SkipFits above_block 0) t.skips_are t.table_fits)),
      );
}
