-- Infos once a number is drawn.
use Rattle.std.proofs.Common.{◌≢◌, ◌<◌, ◌≤◌, ◌+◌, ◌*◌, ◌^◌, ℕ, zero, suc, List, [], ◌∷◌, All, inl, inr, arith}
use Rattle.std.specs.List.{Contains}
use Rattle.std.proofs.lemmas.List.Elements.{All-weaker}
use Rattle.disk_model.specs.Disk.{Name, Content}
use Rattle.segment_infos.specs.declared.infos.SegRecord.{SegRecord}
use Rattle.segment_infos.specs.declared.infos.Infos.{Infos}
use Rattle.segment_steps.specs.Given.{Shown}
use Rattle.index_primary.specs.Held.{IsHeld, IsUnused, drawn_to, IsDrawnRecord, AreNumbered}

abbrev pub counted_on : Infos → Infos
counted_on infos = record infos { counter = infos.counter + 1 }

pub counted_held : (reads : Name → Content) (infos : Infos) (segs : List Shown) (names : List Name) → IsHeld reads infos segs names → IsHeld reads (counted_on infos) segs names
counted_held reads infos segs names h = record {
  spelled = record { generation = h.spelled.generation; version = h.spelled.version; few = h.spelled.few; records = h.spelled.records; apart = h.spelled.apart };
  files = record { ascending = h.files.ascending; named = h.files.named };
  docs = h.docs;
  stands = record { each = h.stands.each; stand = h.stands.stand };
}

pub bounded_on : (infos : Infos) (r : SegRecord) → IsDrawnRecord infos r → IsDrawnRecord (counted_on infos) r
bounded_on infos r h = record { below = omega (arith, h.below); made = h.made; live_gen = h.live_gen }

-- the number that is drawn was not drawn before
pub drawn_now : (infos : Infos) (rest : List ℕ) (seg : ℕ) → IsUnused (counted_on infos) (drawn_to infos ∷ rest) seg → IsUnused infos rest seg
drawn_now infos rest seg (small, inl le) = (small, inl (omega (arith, le)))
drawn_now infos rest seg (small, inr (zero, lt, e)) = (small, inl (omega (arith, e)))
drawn_now infos rest seg (small, inr (suc k, lt, e)) = (small, inr (k, omega (arith, lt), e))

pub numbered_on : (infos : Infos) (rest : List ℕ) → infos.counter < 1679616 → AreNumbered infos rest → AreNumbered (counted_on infos) (drawn_to infos ∷ rest)
numbered_on infos rest more h = record {
  generation = h.generation;
  counter = omega (arith, more);
  segs = All-weaker (IsDrawnRecord infos) (IsDrawnRecord (counted_on infos)) (bounded_on infos) infos.segs h.segs;
  loose_below = below;
  loose_apart = apart;
}
  where
    below : (seg : ℕ) → Contains (drawn_to infos ∷ rest) seg → seg < drawn_to (counted_on infos)
    below seg (zero, lt, e) = omega (arith, e)
    below seg (suc k, lt, e) = let b : seg < drawn_to infos = h.loose_below seg (k, omega (arith, lt), e) in omega (arith, b)

    apart : (seg : ℕ) → Contains (drawn_to infos ∷ rest) seg → All (λ r. r.seg.0 ≢ seg) infos.segs
    apart seg (zero, lt, e) = All-weaker (IsDrawnRecord infos) (λ r. r.seg.0 ≢ seg) (λ r b i. omega (arith, b.below, i, e)) infos.segs h.segs
    apart seg (suc k, lt, e) = h.loose_apart seg (k, omega (arith, lt), e)

pub drawn_alone : (infos : Infos) (rest : List ℕ) → ((seg : ℕ) → Contains rest seg → seg < drawn_to infos) → (n : ℕ) → Contains (drawn_to infos ∷ []) n → Contains rest n → ⊥
drawn_alone infos rest below n (zero, lt, e) c = omega (arith, e, below n c)
drawn_alone infos rest below n (suc k, lt, e) c = omega (arith, lt)

-- a number that was drawn takes 64 bits
pub drawn_small : (infos : Infos) (loose : List ℕ) (n : ℕ) → AreNumbered infos loose → n < drawn_to infos → n < 2 ^ 64
drawn_small infos loose n h lt = fits infos.generation.0 infos.counter h.generation h.counter lt
  where
    fits : (g counter : ℕ) → g < 2 ^ 31 → counter ≤ 1679616 → n < g * 1679616 + counter → n < 2 ^ 64
    fits g counter few most below = omega (arith, few, most, below)

-- fewer numbers are loose
pub numbered_within : (infos : Infos) (loose still : List ℕ) → ((seg : ℕ) → Contains still seg → Contains loose seg) → AreNumbered infos loose → AreNumbered infos still
numbered_within infos loose still within h = record {
  generation = h.generation;
  counter = h.counter;
  segs = h.segs;
  loose_below = λ seg c. h.loose_below seg (within seg c);
  loose_apart = λ seg c. h.loose_apart seg (within seg c);
}
