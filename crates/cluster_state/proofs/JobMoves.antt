-- Nodes of which a call altered copy states and jobs alone, and inner entries of jobs: what is shown of nodes stays.
use Rattle.std.proofs.Common.{◌≡◌, ◌≤◌, ℕ, List, ◌∷◌, Some, None, Option, Vec, Global, refl, ap, ◌∙◌, sym, subst, arith}
use Rattle.nrt_base.specs.declared.numbers.At.{At}
use Rattle.disk_model.specs.Disk.{Cells}
use Rattle.index_primary.specs.declared.parts.PrimaryParts.{PrimaryParts}
use Rattle.replica_node.specs.declared.parts.ReplicaParts.{ReplicaParts}
use Rattle.history_rules.specs.Nodes.{Past, generation_of, version_of}
use Rattle.history_rules.specs.Lines.{publish_in_flight}
use Rattle.history_book.specs.Log.{Log, printed, kept}
use Rattle.history_book.specs.declared.inner.Inner.{Inner}
use Rattle.cluster_nodes.specs.declared.held.HeldTicket.{HeldTicket}
use Rattle.cluster_nodes.specs.declared.nodes.Node.TheVariants.{Primary, Replica}
use Rattle.cluster_nodes.specs.declared.nodes.NodePlace.{NodePlace}
use Rattle.cluster_state.specs.Lookups.{Handed, handed_by, or_older, flush_out}
use Rattle.cluster_state.specs.State.{IsPointAt, WritesAt, FlightShows, HoldsTickets, PrimaryShows, PlaceShows, Shows}
use Rattle.cluster_state.specs.Moves.{Fewer, Same}
use Rattle.cluster_nodes.specs.JobChanges.{AltersStates, AltersJob}
use Rattle.cluster_nodes.specs.JobPlaces.{MovesOne, MovesBoth}
use Rattle.cluster_state.proofs.Frames.{shows_still}
use Rattle.cluster_state.proofs.FileFrames.{one_each, both_each}

-- nothing happened
pub same_none : (past : Past) (n : ℕ) → Same past past n
same_none past n = record {
  lasts = record { stands = λ v segs was. was; generation = omega arith };
  running = refl;
  primary = refl;
  version = refl;
  writer = λ here. record { newest = refl; generation = refl; names = refl; operations = refl; published = refl; puts = refl; merges = refl };
  flight = λ here. record { flight = refl; start = λ at is. refl };
}

fewer_none : (past : Past) (n : ℕ) → Fewer past past n
fewer_none past n = record { tickets = λ lane t v is. is; searches = λ at v is. is; out = λ key. refl }

-- the entry is of a job
abbrev pub IsOfJob : Inner → Type 0
IsOfJob i = (at : At) → handed_by at i ≡ None

module _ {D : Type 0} (cells : D → Cells) where
  -- an inner entry of a job
  pub shows_kept : (size : ℕ) (log : Log) (i : Inner) (places : List (Option (NodePlace D))) → IsOfJob i → Shows cells log size places → Shows cells (kept i ∷ log) size places
  shows_kept size log i places of_job was =
      shows_still cells size log (kept i ∷ log) places (λ m. same_none (printed log) m) (λ m. fewer_none (printed log) m)
      (λ at h is. out at (flush_out at log) (Some h) is) (λ at none. out at (flush_out at log) None (was.handed at none)) was
    where
      out : (at : At) (o h : Option Handed) → o ≡ h → or_older o (handed_by at i) ≡ h
      out at None h is = ap (λ (x : Option Handed). or_older None x) (of_job at) ∙ is
      out at (Some x) h is = is

  -- ---- nodes

  primary_altered : (log : Log) (n : ℕ) (p q : PrimaryParts D) → AltersStates cells p q → PrimaryShows cells log n p → PrimaryShows cells log n q
  primary_altered log n p q alters was = record {
    running = was.running;
    primary = was.primary;
    whole = alters.whole was.whole;
    point = subst (λ (x : PrimaryParts D). IsPointAt (printed log) (version_of n (printed log)) x.searchers.point) (sym alters.others) was.point;
    writer = subst (λ (x : PrimaryParts D). WritesAt (printed log) x.infos x.segs) (sym alters.others) was.writer;
    waiting = ap (λ (x : PrimaryParts D). x.waiting) alters.others ∙ was.waiting;
    accepted = ap (λ (x : PrimaryParts D). x.accepted) alters.others ∙ was.accepted;
    uncut = λ none. ap (λ (x : PrimaryParts D). x.has_cut_over) alters.others ∙ was.uncut none;
    calm = λ none. ap (λ (x : PrimaryParts D). x.merges) alters.others ∙ was.calm none;
    flight = subst (λ (x : PrimaryParts D). FlightShows log (publish_in_flight (printed log)) x.publish x.segs) (sym alters.others) was.flight;
  }

  pub primary_place : (log : Log) (n : ℕ) (p q : PrimaryParts D) (held : Vec HeldTicket Global) → AltersStates cells p q → PlaceShows cells log n (record { node = Primary p; held = held }) → PlaceShows cells log n (record { node = Primary q; held = held })
  primary_place log n p q held alters was = record {
    node_shows = primary_altered log n p q alters was.node_shows;
    tickets = subst (λ (x : PrimaryParts D). HoldsTickets (printed log) n x.searchers.tickets held.items) (sym alters.others) was.tickets;
  }

  -- a replica that has seen no later generation than the present one
  pub replica_place : (log : Log) (n : ℕ) (r s : ReplicaParts D) (held : Vec HeldTicket Global) → AltersJob cells r s → s.seen.0 ≤ generation_of (printed log) → PlaceShows cells log n (record { node = Replica r; held = held })
      → PlaceShows cells log n (record { node = Replica s; held = held })
  replica_place log n r s held alters seen was = record {
    node_shows = record {
      running = was.node_shows.running;
      other = was.node_shows.other;
      whole = alters.whole was.node_shows.whole;
      standing = alters.standing was.node_shows.standing;
      point = subst (λ (x : ReplicaParts D). IsPointAt (printed log) (version_of n (printed log)) x.searchers.point) (sym alters.others) was.node_shows.point;
      seen = seen;
    };
    tickets = subst (λ (x : ReplicaParts D). HoldsTickets (printed log) n x.searchers.tickets held.items) (sym alters.others) was.tickets;
  }

  -- ---- all of them

  pub shows_put : (size : ℕ) (log : Log) (old new : List (Option (NodePlace D))) (n : ℕ) (x : NodePlace D) → MovesOne n x old new → PlaceShows cells log n x → Shows cells log size old → Shows cells log size new
  shows_put size log old new n x moves mine was = record {
    some = was.some;
    count = moves.count ∙ was.count;
    each = one_each {P = PlaceShows cells log} {Q = PlaceShows cells log} size n x old new moves was.each (λ m z node apart shows. shows) mine;
    handed = was.handed;
  }

  pub shows_both : (size : ℕ) (log : Log) (old new : List (Option (NodePlace D))) (p n : ℕ) (x y : NodePlace D) → MovesBoth p n x y old new → PlaceShows cells log p x → PlaceShows cells log n y → Shows cells log size old → Shows cells log size new
  shows_both size log old new p n x y moves first second was = record {
    some = was.some;
    count = moves.count ∙ was.count;
    each = both_each {P = PlaceShows cells log} {Q = PlaceShows cells log} size p n x y old new moves was.each (λ m z node away apart shows. shows) first second;
    handed = was.handed;
  }
