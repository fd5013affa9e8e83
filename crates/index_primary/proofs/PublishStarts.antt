-- A publish that starts, and one that has ended.
use Rattle.std.proofs.Common.{◌≡◌, ◌<◌, ◌≤◌, ◌+◌, ℕ, ◌∷◌, ◌++◌, length, Option, Some, None, sym, subst}
use Rattle.std.specs.List.{Contains}
use Rattle.std.proofs.lemmas.List.Elements.{Contains-append_right}
use Rattle.disk_model.specs.Disk.{Cells, reads_of}
use Rattle.index_primary.specs.declared.parts.PrimaryParts.{PrimaryParts}
use Rattle.index_primary.specs.declared.parts.Publish.{Publish}
use Rattle.index_primary.specs.Held.{drawn_to, IsUndrawn, AreNumbered}
use Rattle.index_primary.proofs.NewFiles.{undrawn_of, behind_loose}
use Rattle.index_primary.proofs.Drawing.{counted_on, counted_held, drawn_now, numbered_on, drawn_alone}
use Rattle.index_primary.specs.Primary.{publish_loose, rest_loose, loose_of, filled_of, IsPrimary}

pub primary_idle : {D : Type 0} (cells : D → Cells) (p : PrimaryParts D) → IsPrimary cells p → IsPrimary cells (record p { publish = None })
primary_idle cells p is = record {
  node = is.node;
  standing = is.standing;
  writer = is.writer;
  searched = is.searched;
  version = is.version;
  versions = is.versions;
  undrawn = record { each = λ q u. is.undrawn.each q (undrawn_of p.infos p.infos (loose_of p) (rest_loose p) (filled_of p) (filled_of p) (behind_loose p.infos (publish_loose p.publish) (rest_loose p)) (λ seg unused out. out) (λ r live_gen h. h) q u) };
  numbered = record {
    generation = is.numbered.generation;
    counter = is.numbered.counter;
    segs = is.numbered.segs;
    loose_below = λ seg c. is.numbered.loose_below seg (Contains-append_right (publish_loose p.publish) (rest_loose p) seg c);
    loose_apart = λ seg c. is.numbered.loose_apart seg (Contains-append_right (publish_loose p.publish) (rest_loose p) seg c);
  };
  waits = tt;
  few = tt;
  completed = is.completed;
  alone = tt;
  merging = is.merging;
  merges_apart = is.merges_apart;
}

pub primary_starts : {D : Type 0} (cells : D → Cells) (p : PrimaryParts D) (count : ℕ) → IsPrimary cells p → p.publish ≡ None → count ≤ length p.waiting → p.infos.counter < 1679616 → length p.segs < 256
    → IsPrimary cells (record p { infos = counted_on p.infos; publish = Some (record { seg = Some (record { 0 = drawn_to p.infos }); count = count }) })
primary_starts cells p count is none within more few = record {
  node = is.node;
  standing = is.standing;
  writer = counted_held (reads_of (cells p.dir)) p.infos p.segs p.names is.writer;
  searched = is.searched;
  version = is.version;
  versions = is.versions;
  undrawn = record {
    each = λ q u. is.undrawn.each q
        (subst (λ (o : Option Publish). IsUndrawn p.infos (publish_loose o ++ rest_loose p) (filled_of p) q) (sym none)
        (undrawn_of p.infos (counted_on p.infos) (rest_loose p) (drawn_to p.infos ∷ rest_loose p) (filled_of p) (filled_of p) (drawn_now p.infos (rest_loose p)) (λ seg unused out. out) (λ r live_gen h. record { of = h.of; above = h.above; apart = h.apart; small = h.small }) q u));
  };
  waits = within;
  numbered = numbered_on p.infos (rest_loose p) more (subst (λ (o : Option Publish). AreNumbered p.infos (publish_loose o ++ rest_loose p)) none is.numbered);
  few = λ h. few;
  completed = is.completed;
  merging = is.merging;
  merges_apart = is.merges_apart;
  alone = drawn_alone p.infos (rest_loose p) (λ seg c. is.numbered.loose_below seg (Contains-append_right (publish_loose p.publish) (rest_loose p) seg c));
}
