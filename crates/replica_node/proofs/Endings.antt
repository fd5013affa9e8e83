-- Calls that only give files back, one behind the other.
use Rattle.std.proofs.Common.{ℕ, arith, refl, inl}
use Rattle.disk_model.specs.Disk.{Cells}
use Rattle.nrt_base.specs.declared.numbers.Gen.{Gen}
use Rattle.replica_node.specs.declared.parts.ReplicaParts.{ReplicaParts}
use Rattle.replica_node.specs.Replica.{IsWholeReplica}
use Rattle.replica_node.specs.Ending.{GivesFilesBack}
use Rattle.replica_node.proofs.Apart.{bytes_apart}

module _ {D : Type 0} (cells : D → Cells) (faults : D → ℕ) where
  pub back_none : (p : ReplicaParts D) → IsWholeReplica cells p → GivesFilesBack cells faults p p
  back_none p whole = record {
    whole = whole;
    standing = λ h. h;
    sourced = λ source h. h;
    held = λ q lasting some. inl some;
    fewer = λ q. omega (arith);
    stays = record { held = λ q had has. refl };
    appears = record { each = λ q none. none };
    later = omega (arith);
  }

  pub back_then : (p m n : ReplicaParts D) → GivesFilesBack cells faults p m → GivesFilesBack cells faults m n → GivesFilesBack cells faults p n
  back_then p m n a b = record {
    whole = b.whole;
    standing = λ h. b.standing (a.standing h);
    sourced = λ source h. b.sourced source (a.sourced source h);
    held = λ q lasting some. inl (omega (arith, some, a.fewer q, b.fewer q));
    fewer = λ q. omega (arith, a.fewer q, b.fewer q);
    stays = bytes_apart p.files m.files n.files _ _ _ a.stays b.stays b.fewer;
    appears = record { each = λ q none. b.appears.each q (a.appears.each q none) };
    later = omega (arith, a.later, b.later);
  }

  -- a greater generation was seen
  pub back_seen : (p m : ReplicaParts D) (seen : Gen) → GivesFilesBack cells faults p m → GivesFilesBack cells faults p (record m { seen = seen })
  back_seen p m seen a = record {
    whole = record {
      node = a.whole.node;
      point = a.whole.point;
      spelled = a.whole.spelled;
      segs = a.whole.segs;
      known = a.whole.known;
      lasting = a.whole.lasting;
      newer = a.whole.newer;
      waits = a.whole.waits;
      copied = a.whole.copied;
      few = a.whole.few;
      merges = a.whole.merges;
    };
    standing = λ h. record { point = (a.standing h).point; commits = (a.standing h).commits };
    sourced = λ source h. let s = a.sourced source h in record { held = s.held; job = s.job; merges = s.merges };
    held = a.held;
    fewer = a.fewer;
    stays = a.stays;
    appears = a.appears;
    later = a.later;
  }
