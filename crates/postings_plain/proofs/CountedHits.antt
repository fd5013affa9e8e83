-- Loops that read past hits, and past blocks of them.
use Rattle.std.proofs.Common.{◌≡◌, ℕ, zero, suc, ◌+◌, ◌-◌, ◌^◌, ◌<◌, ◌≤◌, min, Bool, false, cond, List, [], ◌∷◌, ◌++◌, length, Option, Some, None, refl, sym, ap, subst, ◌∙◌, append_assoc, arith}
use Rattle.std.proofs.lemmas.List.{append-nil}
use Rattle.std.proofs.lemmas.Bool.{false_from_ne_true}
use Rattle.body_forms.specs.Format.{Read, ◌>>=◌}
use Rattle.body_forms.proofs.Formats.{bind_some, read_is}
use Rattle.body_forms.proofs.Loops.{with_front}
use Rattle.postings_plain.specs.Postings.{Hit, above_hit, block_rows, Skip, above_block}
use Rattle.postings_plain.specs.Reading.{hit_at, counted_from_at, end_after, skip_at, skips_at, ends_as, blocks_at, SkipsHits}
use Rattle.postings_plain.proofs.HitLaws.{end_after-append}
use Rattle.postings_plain.proofs.BlockLaws.{ends_true, ends_pass}

regroup : (front : List Hit) (h : Hit) (read : Read (List Hit)) → with_front front (read >>= λ hs. Some (h ∷ hs.0, hs.1)) ≡ with_front (front ++ h ∷ []) read
regroup front h (Some hs) = ap (λ (ys : List Hit). Some (ys, hs.1)) (sym (append_assoc front (h ∷ []) hs.0))
regroup front h None = refl

nothing_before : (read : Read (List Hit)) → with_front [] read ≡ read
nothing_before (Some hs) = refl
nothing_before None = refl

end_after-last : (k : ℕ) (front : List Hit) (h : Hit) → end_after k (front ++ h ∷ []) ≡ above_hit h
end_after-last k [] h = refl
end_after-last k (g ∷ front) h = end_after-last (above_hit g) front h

-- The loop has read i of n hits, whose rows are `least` or above, and k is the least row that may come after them: reading the
-- others from the bytes left gives what reading all of them gives.
pub record HasPassed (field n least i k : ℕ) (left bytes : List ℕ) : Type 0 where
  pub front : List Hit
  pub so_far : with_front front (counted_from_at field (n - i) k left) ≡ counted_from_at field n least bytes
  pub end : k ≡ end_after least front

pub at_start : (field n least : ℕ) (bytes : List ℕ) → HasPassed field n least 0 least bytes bytes
at_start field n least bytes = record { front = []; so_far = let e : n - 0 ≡ n = omega arith in rw e (nothing_before (counted_from_at field n least bytes)); end = refl }

pub goes_on : (field n least i k : ℕ) (left bytes : List ℕ) (h : Hit) (after : List ℕ) → i < n → hit_at field k left ≡ Some (h, after) → HasPassed field n least i k left bytes
    → HasPassed field n least (i + 1) (above_hit h) after bytes
goes_on field n least i k left bytes h after lt e at =
    let m : n - i ≡ suc (n - (i + 1)) = omega arith in
    let one : with_front at.front (counted_from_at field (n - i) k left) ≡ with_front (at.front ++ h ∷ []) (counted_from_at field (n - (i + 1)) (above_hit h) after) =
    rw (m, e) (regroup at.front h (counted_from_at field (n - (i + 1)) (above_hit h) after)) in
    record { front = at.front ++ h ∷ []; so_far = sym one ∙ at.so_far; end = sym (end_after-last least at.front h) }

pub stops : (field n least i k : ℕ) (left bytes : List ℕ) → i < n → hit_at field k left ≡ None → HasPassed field n least i k left bytes → counted_from_at field n least bytes ≡ None
stops field n least i k left bytes lt e at =
    let m : n - i ≡ suc (n - (i + 1)) = omega arith in
    let one : with_front at.front (counted_from_at field (n - i) k left) ≡ None = rw (m, e) refl in
    sym at.so_far ∙ one

pub is_done : (field n least i k : ℕ) (left bytes : List ℕ) → n ≤ i → HasPassed field n least i k left bytes → (hs : List Hit) × (counted_from_at field n least bytes ≡ Some (hs, left)) × (k ≡ end_after least hs)
is_done field n least i k left bytes le at =
    let m : n - i ≡ 0 = omega arith in
    let one : with_front at.front (counted_from_at field (n - i) k left) ≡ Some (at.front, left) = rw m (ap (λ (hs : List Hit). Some (hs, left)) (append-nil at.front)) in
    (at.front, sym at.so_far ∙ one, at.end)

-- ---- a loop that reads past blocks

-- The loop has read some blocks, with the hits of `front`, and `later` are the skip entries of the others: reading the others
-- from the bytes left gives what reading all of them gives.
pub record HasPassedBlocks (field : ℕ) (skips : List Skip) (count blocks : ℕ) (bytes : List ℕ) (left k : ℕ) (table rest : List ℕ) : Type 0 where
  pub front : List Hit
  pub later : List Skip
  pub after : List ℕ
  pub entries : skips_at blocks k table ≡ Some (later, after)
  pub so_far : with_front front (blocks_at field later left k rest) ≡ blocks_at field skips count 0 bytes
  pub end : k ≡ end_after 0 front
  pub below : k ≤ 2 ^ 32

pub blocks_start : (field : ℕ) (skips : List Skip) (count blocks : ℕ) (bytes table after : List ℕ) → skips_at blocks 0 table ≡ Some (skips, after) → HasPassedBlocks field skips count blocks bytes count 0 table bytes
blocks_start field skips count blocks bytes table after e = record { front = []; later = skips; after = after; entries = e; so_far = nothing_before (blocks_at field skips count 0 bytes); end = refl; below = omega arith }

-- the skip entry of the block that is next
pub record NextSkip (blocks k : ℕ) (table : List ℕ) (skips : List Skip) (after : List ℕ) : Type 0 where
  pub skip : Skip
  pub rest : List ℕ
  pub others : List Skip
  pub first : skip_at k table ≡ Some (skip, rest)
  pub onward : skips_at (blocks - 1) (above_block skip) rest ≡ Some (others, after)
  pub whole : skips ≡ skip ∷ others

pub next_skip : (blocks k : ℕ) (table : List ℕ) (skips : List Skip) (after : List ℕ) → 0 < blocks → skips_at blocks k table ≡ Some (skips, after) → NextSkip blocks k table skips after
next_skip zero k table skips after pos e = absurd (omega arith)
next_skip (suc n) k table skips after pos e =
    let f = bind_some (skip_at k table) (λ s. skips_at n (above_block s.0) s.1 >>= λ ss. Some (s.0 ∷ ss.0, ss.1)) (skips, after) e in
    let g = bind_some (skips_at n (above_block f.0.0) f.0.1) (λ ss. Some (f.0.0 ∷ ss.0, ss.1)) (skips, after) f.2 in
    let q = read_is (f.0.0 ∷ g.0.0) skips g.0.1 after g.2 in
    let m : suc n - 1 ≡ n = omega arith in
    record { skip = f.0.0; rest = f.0.1; others = g.0.0; first = f.1; onward = ap (λ (j : ℕ). skips_at j (above_block f.0.0) f.0.1) m ∙ g.1 ∙ ap (λ (t : List ℕ). Some (g.0.0, t)) q.1; whole = sym q.0 }

no_skips : (k : ℕ) (table : List ℕ) (skips : List Skip) (after : List ℕ) → skips_at 0 k table ≡ Some (skips, after) → skips ≡ []
no_skips k table skips after e = let q = read_is [] skips table after e in sym q.0

regroup_block : (front block : List Hit) (read : Read (List Hit)) → with_front front (read >>= λ hs. Some (block ++ hs.0, hs.1)) ≡ with_front (front ++ block) read
regroup_block front block (Some hs) = ap (λ (ys : List Hit). Some (ys, hs.1)) (sym (append_assoc front block hs.0))
regroup_block front block None = refl

module _ (field : ℕ) (skips : List Skip) (count blocks : ℕ) (bytes : List ℕ) (left k : ℕ) (table rest : List ℕ) (pos : 0 < blocks) (at : HasPassedBlocks field skips count blocks bytes left k table rest) where
  entry_next : NextSkip blocks k table at.later at.after
  entry_next = next_skip blocks k table at.later at.after pos at.entries

  pub no_entry_left : skip_at k table ≡ None → ⊥
  no_entry_left e = let clash = sym e ∙ entry_next.first in cc

  abbrev Block : (s : Skip) (others : List Skip) → Read (List Hit) → Read (List Hit)
  Block s others read = read >>= λ b. cond (ends_as s k rest b) (blocks_at field others (left - block_rows) (above_block s) b.1 >>= λ hs. Some (b.0 ++ hs.0, hs.1)) None

  -- what is read of all, where the next skip entry and the next block are known
  whole_at : (s : Skip) (after : List ℕ) (read : Read (List Hit)) → skip_at k table ≡ Some (s, after) → counted_from_at field (min block_rows left) k rest ≡ read
      → (with_front at.front (Block s entry_next.others read) ≡ blocks_at field skips count 0 bytes) × (skips_at (blocks - 1) (above_block s) after ≡ Some (entry_next.others, at.after))
  whole_at s after read e f =
      let n = entry_next in
      let q = read_is n.skip s n.rest after (sym n.first ∙ e) in (
        ap (λ (r : Read (List Hit)). with_front at.front (Block s n.others r)) (sym f)
            ∙ ap (λ (x : Skip). with_front at.front (Block x n.others (counted_from_at field (min block_rows left) k rest))) (sym q.0)
            ∙ ap (λ (x : List Skip). with_front at.front (blocks_at field x left k rest)) (sym n.whole) ∙ at.so_far,
        ap (λ (x : Skip). skips_at (blocks - 1) (above_block x) after) (sym q.0) ∙ ap (skips_at (blocks - 1) (above_block n.skip)) (sym q.1) ∙ n.onward,
      )

  pub block_stops : (s : Skip) (after : List ℕ) → skip_at k table ≡ Some (s, after) → counted_from_at field (min block_rows left) k rest ≡ None → blocks_at field skips count 0 bytes ≡ None
  block_stops s after e f = sym (whole_at s after None e f).0

  pub block_differs : (s : Skip) (after : List ℕ) (block : List Hit) (others : List ℕ) → skip_at k table ≡ Some (s, after) → counted_from_at field (min block_rows left) k rest ≡ Some (block, others)
      → (end_after k block ≡ above_block s → length rest ≡ length others + s.1 → ⊥) → blocks_at field skips count 0 bytes ≡ None
  block_differs s after block others e f fails =
      let not : ends_as s k rest (block, others) ≡ false = false_from_ne_true (ends_as s k rest (block, others)) (λ yes. let d = ends_true s k rest (block, others) yes in fails d.0 d.1) in
      sym (whole_at s after (Some (block, others)) e f).0
      ∙ ap (λ (b : Bool). with_front at.front (cond b (blocks_at field entry_next.others (left - block_rows) (above_block s) others >>= λ hs. Some (block ++ hs.0, hs.1)) None)) not

  pub block_passed : (s : Skip) (after : List ℕ) (block : List Hit) (others : List ℕ) → skip_at k table ≡ Some (s, after) → counted_from_at field (min block_rows left) k rest ≡ Some (block, others)
      → end_after k block ≡ above_block s → length rest ≡ length others + s.1 → s.0 < 2 ^ 32 → HasPassedBlocks field skips count (blocks - 1) bytes (left - block_rows) (above_block s) after others
  block_passed s after block others e f end long small =
      let w = whole_at s after (Some (block, others)) e f in
      let yes = ends_pass s k rest (block, others) end long in
      record {
        front = at.front ++ block;
        later = entry_next.others;
        after = at.after;
        entries = w.1;
        so_far = sym (regroup_block at.front block (blocks_at field entry_next.others (left - block_rows) (above_block s) others))
            ∙ ap (λ (b : Bool). with_front at.front (cond b (blocks_at field entry_next.others (left - block_rows) (above_block s) others >>= λ hs. Some (block ++ hs.0, hs.1)) None)) (sym yes) ∙ w.0;
        end = sym end ∙ ap (λ (j : ℕ). end_after j block) at.end ∙ sym (end_after-append 0 at.front block);
        below = omega (arith, small);
      }

-- where no block is left, the others are hits without skip entries
pub blocks_done : (field : ℕ) (skips : List Skip) (count : ℕ) (bytes : List ℕ) (left k : ℕ) (table rest : List ℕ) (found : Option (ℕ × List ℕ)) → HasPassedBlocks field skips count 0 bytes left k table rest
    → SkipsHits k found (counted_from_at field left k rest) → SkipsHits 0 found (blocks_at field skips count 0 bytes)
blocks_done field skips count bytes left k table rest found at told =
    let so_far : with_front at.front (counted_from_at field left k rest) ≡ blocks_at field skips count 0 bytes =
    ap (λ (x : List Skip). with_front at.front (blocks_at field x left k rest)) (sym (no_skips k table at.later at.after at.entries)) ∙ at.so_far in
    subst (SkipsHits 0 found) so_far (with_others at.front k found (counted_from_at field left k rest) at.end told)
  where
    with_others : (front : List Hit) (k : ℕ) (found : Option (ℕ × List ℕ)) (read : Read (List Hit)) → k ≡ end_after 0 front → SkipsHits k found read → SkipsHits 0 found (with_front front read)
    with_others front k None read end told = ap (with_front front) told
    with_others front k (Some x) read end told =
        (front ++ told.0, ap (with_front front) told.1, told.2 ∙ ap (λ (j : ℕ). end_after j told.0) end ∙ sym (end_after-append 0 front told.0))
