-- What the infos of a node become when it is promoted, and when it is not.
use Rattle.std.specs.Prelude.{◌≡◌, ◌≤◌, ◌<◌, ◌+◌, ◌^◌}
use Rattle.nrt_base.specs.declared.numbers.Gen.{Gen}
use Rattle.nrt_base.specs.declared.numbers.Version.{Version}
use Rattle.segment_infos.specs.declared.infos.Infos.{Infos}

-- the infos of a new generation: it has drawn no name, its first point is one version above the forced one and has the segments of before
abbrev pub promoted_infos : Infos → Gen → Version → Infos
promoted_infos infos generation forced = record {
  generation = generation;
  version = record { 0 = forced.0 + 1 };
  counter = 0;
  segs = infos.segs;
}

-- the generation is not above the last one, which is told
abbrev pub IsNotNewer : Infos → Gen → Gen → Type 0
IsNotNewer infos generation last = (last ≡ infos.generation) × (generation.0 ≤ infos.generation.0)

-- the generation is above the last one, and the forced version is 2^62 or more
abbrev pub IsForceHigh : Infos → Gen → Version → Type 0
IsForceHigh infos generation forced = (infos.generation.0 < generation.0) × (2 ^ 62 ≤ forced.0)
