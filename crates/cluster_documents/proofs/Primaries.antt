-- What the calls of the primary ask for, by what it shows.
use Rattle.std.proofs.Common.{◌≡◌, ◌==◌, ◌≤◌, ◌<◌, ◌+◌, ◌^◌, ℕ, true, false, true≢false, List, Some, None, Option, Vec, Global, refl, ap, ◌∙◌, sym, subst, arith, length, take}
use Rattle.std.proofs.lemmas.Bool.{eq-eqb}
use Rattle.std.specs.Prelude.{IsSomeAnd}
use Rattle.nrt_base.specs.declared.numbers.At.{At}
use Rattle.nrt_base.specs.declared.numbers.NodeNo.{NodeNo}
use Rattle.disk_model.specs.Disk.{Cells}
use Rattle.segment_steps.specs.declared.flushing.FlushWork.{FlushWork}
use Rattle.history_rules.specs.Nodes.{is_at, primary_of, accepted_count}
use Rattle.history_rules.specs.Lines.{publish_in_flight}
use Rattle.history_rules.specs.Points.{operations_of_generation}
use Rattle.history_rules.specs.Legal.{IsLegalPast}
use Rattle.history_book.specs.Log.{Log, printed}
use Rattle.history_book.specs.Turns.{AreInTurn}
use Rattle.index_primary.specs.declared.parts.PrimaryParts.{PrimaryParts}
use Rattle.index_primary.specs.declared.parts.Publish.{Publish}
use Rattle.index_primary.specs.Work.{IsWorkOf}
use Rattle.cluster_nodes.specs.declared.held.HeldTicket.{HeldTicket}
use Rattle.cluster_nodes.specs.declared.nodes.Node.{Node}
use Rattle.cluster_nodes.specs.declared.nodes.Node.TheVariants.{Primary, Replica, Down}
use Rattle.cluster_nodes.specs.declared.nodes.NodePlace.{NodePlace}
use Rattle.cluster_state.specs.Lookups.{Handed}
use Rattle.cluster_nodes.specs.Places.{HasPrimary}
use Rattle.cluster_state.specs.State.{IsFlying, FlightShows, PrimaryShows, NodeShows, PlaceShows}
use Rattle.cluster_state.specs.Writes.{IsFlushed}
use Rattle.cluster_documents.proofs.Cuts.{FliesWith, flies_with}

-- another node than the primary is not the primary
pub others_apart : (p : Option NodeNo) (n : NodeNo) (m : ℕ) → p ≡ Some n → (n.0 == m) ≡ false → is_at p m ≡ false
others_apart p n m is apart = ap (λ (o : Option NodeNo). is_at o m) is ∙ apart

pub primary_there : (p : Option NodeNo) (n : NodeNo) → p ≡ Some n → is_at p n.0 ≡ true
primary_there p n is = ap (λ (o : Option NodeNo). is_at o n.0) is ∙ eq-eqb n.0 n.0 refl

module _ {D : Type 0} (cells : D → Cells) where
  node_is_primary : (log : Log) (n : ℕ) (x : Node D) (held : Vec HeldTicket Global) → is_at (primary_of (printed log)) n ≡ true → NodeShows cells log n x → HasPrimary (Some (record { node = x; held = held }))
  node_is_primary log n (Primary p) held here shows = tt
  node_is_primary log n (Replica r) held here shows = true≢false (sym here ∙ shows.other)
  node_is_primary log n (Down d) held here shows = true≢false (sym here ∙ shows.other)

  -- in the primary's place the primary stands
  pub has_primary : (log : Log) (n : ℕ) (x : NodePlace D) → is_at (primary_of (printed log)) n ≡ true → PlaceShows cells log n x → HasPrimary (Some x)
  has_primary log n x here shows = node_is_primary log n x.node x.held here shows.node_shows

  -- what the primary shows, taken out of its place
  pub primary_shows : (log : Log) (n : ℕ) (x : NodePlace D) (p : PrimaryParts D) (held : List HeldTicket) → x.node ≡ Primary p → PlaceShows cells log n x → PrimaryShows cells log n p
  primary_shows log n x p held is shows = subst (λ (y : Node D). NodeShows cells log n y) is shows.node_shows

  -- the next operation has a number
  pub numbered : (log : Log) (n : ℕ) (p : PrimaryParts D) → length (operations_of_generation (printed log)) ≤ accepted_count (printed log) → accepted_count (printed log) + 1 < 2 ^ 32
      → PrimaryShows cells log n p → p.accepted + 1 < 2 ^ 32
  numbered log n p counted few shows = omega (arith, counted, few, shows.accepted)

  -- no publish is in flight
  pub unpublished : (log : Log) (n : ℕ) (p : PrimaryParts D) → publish_in_flight (printed log) ≡ None → PrimaryShows cells log n p → p.publish ≡ None
  unpublished log n p none shows = subst (λ (o : Option At). FlightShows log o p.publish p.segs) none shows.flight

  -- the work of what was handed out is that of the publish in flight
  pub is_work : (size : ℕ) (log : Log) (at : At) (n : ℕ) (p : PrimaryParts D) (work : FlushWork) → IsLegalPast size (printed log) → AreInTurn (printed log)
      → publish_in_flight (printed log) ≡ Some at → IsFlushed at log work → PrimaryShows cells log n p → IsWorkOf p work
  is_work size log at n p work legal turns flight flushed shows =
      work_by p.publish refl (subst (λ (o : Option At). FlightShows log o p.publish p.segs) flight shows.flight)
    where
      f : FliesWith (printed log) at
      f = flies_with size (printed log) at legal turns flight

      work_by : (x : Option Publish) → p.publish ≡ x → IsSomeAnd x (λ g. IsFlying log at g p.segs) → IsWorkOf p work
      work_by None is flies = absurd flies
      work_by (Some g) is flies =
          let same : ◌≡◌ {A = Option Handed} (Some (record { seg = flushed.task.seg; segs = flushed.task.segs })) (Some (record { seg = g.seg; segs = p.segs })) = sym flushed.out ∙ flies.out in
          let handed : ◌≡◌ {A = Handed} (record { seg = flushed.task.seg; segs = flushed.task.segs }) (record { seg = g.seg; segs = p.segs }) = cc in
          record {
            publish = g;
            in_flight = is;
            task = flushed.task;
            ops = flushed.ops ∙ (f.cut ∙ λ i. take ((sym f.count ∙ sym flies.count) i) (sym shows.waiting i));
            segs = ap (λ (h : Handed). h.segs) handed;
            seg = ap (λ (h : Handed). h.seg) handed;
            flushed = flushed.flushed;
          }
