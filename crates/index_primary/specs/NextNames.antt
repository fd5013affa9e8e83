-- The names that a publish, or a cut-over, writes, and those that are not written yet afterwards.
use Rattle.std.specs.Prelude.{◌≡◌, ◌≢◌, ◌⊎◌, ◌<◌, ◌^◌, ℕ, Bool, if◌then◌else◌, List, [], ◌∷◌, ◌++◌, Option, Some, None, IfSome, IsSomeAnd}
use Rattle.std.specs.List.{Contains, AllByRecursion}
use Rattle.file_names.specs.Names.{part_name_of, live_name_of}
use Rattle.file_names.specs.declared.composed.SegPart.TheVariants.{Docs, Post, Info}
use Rattle.disk_model.specs.Disk.{Name}
use Rattle.segment_infos.specs.declared.infos.SegRecord.{SegRecord}
use Rattle.segment_infos.specs.declared.infos.Infos.{Infos}
use Rattle.segment_steps.specs.Next.{next_live_gen}
use Rattle.index_primary.specs.Held.{drawn_to}

-- a segment that stays: its record before, and whether it gets a live file
abbrev pub Kept : Type 0
Kept = SegRecord × Bool

-- a new segment: its number, and whether it has a live file
abbrev pub New : Type 0
New = ℕ × Bool

-- the thing is one of the list
abbrev pub IsIn : {X : Type 0} → X → List X → Type 0
IsIn x [] = ⊥
IsIn x (y ∷ ys) = (y ≡ x) ⊎ IsIn x ys

-- the live generation of a segment that stays, afterwards
abbrev pub gen_after : ℕ → Kept → ℕ
gen_after g k = if k.1 then next_live_gen g k.0 else k.0.live_gen

-- the live generation of a new segment
abbrev pub new_gen : New → ℕ
new_gen n = if n.1 then 1 else 0

-- the names of the new live files of those that stay
abbrev pub raised_names : ℕ → List Kept → List Name
raised_names g [] = []
raised_names g (k ∷ ks) = if k.1 then live_name_of k.0.seg.0 (next_live_gen g k.0) ∷ raised_names g ks else raised_names g ks

-- the names of the new segment's files
abbrev pub new_names : Option New → List Name
new_names None = []
new_names (Some n) = part_name_of n.0 Docs ∷ part_name_of n.0 Post ∷ part_name_of n.0 Info ∷ (if n.1 then live_name_of n.0 1 ∷ [] else [])

-- no two of the segments that stay have one number
abbrev pub AreApart : List Kept → Type 0
AreApart [] = Unit {0}
AreApart (k ∷ ks) = AllByRecursion (λ l. k.0.seg.0 ≢ l.0.seg.0) ks × AreApart ks

-- the new segment's number was drawn, and it is that of no segment that stays
pub record IsDrawn (infos : Infos) (loose : List ℕ) (kept : List Kept) (n : New) : Type 0 where
  pub there : Contains loose n.0
  pub below : n.0 < drawn_to infos
  pub apart : AllByRecursion (λ k. k.0.seg.0 ≢ n.0) kept

-- the records after it are those of the segments that stay and of the new one; the files are the new one's and the new live files
pub record AreNextNames (infos : Infos) (loose still : List ℕ) (kept : List Kept) (new : Option New) (records : List SegRecord) (written : List Name) : Type 0 where
  pub of : AllByRecursion (λ k. Contains infos.segs k.0) kept
  pub bounded : AllByRecursion (λ k. (k.0.seg.0 < drawn_to infos) × (next_live_gen infos.generation.0 k.0 < 2 ^ 64)) kept
  pub small : drawn_to infos < 2 ^ 64
  pub apart : AreApart kept
  pub drawn : IfSome new (IsDrawn infos loose kept)
  -- the numbers that are still without files afterwards were so before, and are those of no segment that stays or is new
  pub still_apart : (seg : ℕ) → Contains still seg → Contains loose seg × IfSome new (λ n. n.0 ≢ seg) × AllByRecursion (λ k. k.0.seg.0 ≢ seg) kept
  pub each : (r : SegRecord) → Contains records r → ((k : Kept) × (IsIn k kept × (r.seg.0 ≡ k.0.seg.0) × (r.live_gen ≡ gen_after infos.generation.0 k))) ⊎ IsSomeAnd new (λ n. (r.seg.0 ≡ n.0) × (r.live_gen ≡ new_gen n))
  pub written_are : written ≡ new_names new ++ raised_names infos.generation.0 kept
