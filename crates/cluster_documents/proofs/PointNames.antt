-- What points name of documents, and the points of tickets that are opened and closed.
use Rattle.std.proofs.Common.{◌≡◌, ◌⊎◌, ◌<◌, ◌==◌, ◌||◌, inl, inr, ℕ, zero, suc, Bool, true, false, List, [], ◌∷◌, ◌++◌, Some, None, Option, length, get_or, refl, ap, ◌∙◌, subst, arith, if◌then◌else◌}
use Rattle.std.specs.List.{Contains, AllZip, flat_map, list_any}
use Rattle.std.proofs.lemmas.List.Elements.{Contains-append_left, Contains-push_cases}
use Rattle.std.proofs.lemmas.Bool.{or_right}
use Rattle.disk_model.specs.Disk.{Name, Content, Cells, reads_of}
use Rattle.file_names.specs.Names.{part_name_of, is_documents_name}
use Rattle.file_names.specs.declared.composed.SegPart.TheVariants.{Docs}
use Rattle.file_names.proofs.NameLaws.{documents_name}
use Rattle.segment_infos.specs.declared.infos.SegRecord.{SegRecord}
use Rattle.segment_infos.specs.declared.infos.Infos.{Infos}
use Rattle.segment_infos.specs.Files.{files_of_segment, AreFilesOf}
use Rattle.seg_reader.specs.Shown.{Shown}
use Rattle.seg_reader.specs.Stands.{IsSegmentIn}
use Rattle.searcher_switch.specs.declared.open.Open.{Open}
use Rattle.searcher_switch.specs.declared.open.SearchPoint.{SearchPoint}
use Rattle.searcher_switch.specs.Tickets.{tickets_without}
use Rattle.index_primary.specs.declared.parts.PrimaryParts.{PrimaryParts}
use Rattle.index_primary.specs.Primary.{IsPrimary, loose_of}
use Rattle.replica_node.specs.declared.parts.ReplicaParts.{ReplicaParts}
use Rattle.replica_node.specs.Replica.{IsWholeReplica}
use Rattle.history_rules.specs.Nodes.{Past}
use Rattle.history_book.specs.Log.{Log}
use Rattle.cluster_nodes.specs.declared.held.HeldKey.{HeldKey}
use Rattle.cluster_nodes.specs.declared.nodes.Node.{Node}
use Rattle.cluster_nodes.specs.declared.nodes.Node.TheVariants.{Primary, Replica, Down}
use Rattle.cluster_nodes.specs.declared.nodes.NodePlace.{NodePlace}
use Rattle.cluster_nodes.specs.Held.{held_number}
use Rattle.cluster_nodes.specs.Places.{tickets_of}
use Rattle.cluster_nodes.specs.Changes.{KeepsNode, OpensTicket, HoldsMore, ClosesTicket, HoldsLess}
use Rattle.cluster_state.specs.State.{NodeShows}
use Rattle.cluster_state.specs.Names.{NamesDocuments, loose_at}
use Rattle.cluster_state.proofs.Naming.{HoldsFrom}

-- ---- lists

-- one that passes a test is among them, so one does
pub any_passes : {X : Type 0} (p : X → Bool) (xs : List X) (x : X) → Contains xs x → p x ≡ true → list_any p xs ≡ true
any_passes p [] x (i, lt, e) passes = absurd (omega (arith, lt))
any_passes {X} p (y ∷ xs) x (i, lt, e) passes = at i lt e (λ k lt' e'. any_passes p xs x (k, lt', e') passes)
  where
    at : (i : ℕ) → i < length (y ∷ xs) → get_or (y ∷ xs) i x ≡ x → ((k : ℕ) → k < length xs → get_or xs k x ≡ x → list_any p xs ≡ true) → (p y || list_any p xs) ≡ true
    at zero lt e rest = ap (λ (b : Bool). b || list_any p xs) (ap p e ∙ passes)
    at (suc k) lt e rest = ap (λ (b : Bool). p y || b) (rest k (omega (arith, lt)) e) ∙ or_right (p y) true refl

-- ---- points

-- a point whose readers are those of segments of which its names are the files
named_by : (reads : Name → Content) (infos : Infos) (point : SearchPoint Shown) → AreFilesOf infos point.names → AllZip (IsSegmentIn reads) infos.segs point.readers → NamesDocuments point
named_by reads infos point files zip = by infos.segs (λ q. (files.named q).1) zip
  where
    by : (records : List SegRecord) → ((q : Name) → Contains (flat_map files_of_segment records) q → Contains point.names q) → AllZip (IsSegmentIn reads) records point.readers → NamesDocuments point
    by [] named zip some = none point.readers zip some
      where
        none : (segs : List Shown) → AllZip (IsSegmentIn reads) [] segs → 0 < length segs → list_any is_documents_name point.names ≡ true
        none [] zip some = absurd (omega (arith, some))
        none (s ∷ ss) zip some = absurd zip
    by (r ∷ rs) named zip some =
        let q : Name = part_name_of r.seg.0 Docs in
        any_passes is_documents_name point.names q (named q (Contains-append_left (files_of_segment r) (flat_map files_of_segment rs) q (0, omega arith, refl))) (documents_name r.seg.0)

module _ {D : Type 0} (cells : D → Cells) where
  pub primary_named : (p : PrimaryParts D) → IsPrimary cells p → NamesDocuments p.searchers.point
  primary_named p whole = named_by (reads_of (cells p.dir)) p.point_infos p.searchers.point whole.searched.files whole.searched.stands.each

  pub replica_named : (r : ReplicaParts D) → IsWholeReplica cells r → NamesDocuments r.searchers.point
  replica_named r whole = named_by (reads_of (cells r.dir)) r.infos r.searchers.point whole.point.names whole.point.readers

  -- ---- tickets

  loose_kept : (x y : Node D) → KeepsNode cells x y → loose_at y ≡ loose_at x
  loose_kept (Primary p) (Primary q) keeps = ap (λ (z : PrimaryParts D). loose_of z) keeps.0
  loose_kept (Replica r) (Replica s) keeps = refl
  loose_kept (Down d) (Down e) keeps = refl
  loose_kept (Primary p) (Replica s) keeps = absurd keeps
  loose_kept (Primary p) (Down e) keeps = absurd keeps
  loose_kept (Replica r) (Primary q) keeps = absurd keeps
  loose_kept (Replica r) (Down e) keeps = absurd keeps
  loose_kept (Down d) (Primary q) keeps = absurd keeps
  loose_kept (Down d) (Replica s) keeps = absurd keeps

  more_tickets : (number : ℕ) (point : SearchPoint Shown) (old new : List (Open Shown)) → new ≡ old ++ record { number = number; point = point } ∷ [] → NamesDocuments point
      → (o : Open Shown) → Contains new o → Contains old o ⊎ NamesDocuments o.point
  more_tickets number point old new is named o held =
      elim (Contains-push_cases old (record { number = number; point = point }) o (subst (λ (ts : List (Open Shown)). Contains ts o) is held)) [
        | inl before ↦ inl before
        | inr mine ↦ inr (subst (λ (t : Open Shown). NamesDocuments t.point) mine named)
      ]

  -- a ticket that is opened is on the point that is searched
  pub opened_holds : (now : Past) (log : Log) (n : ℕ) (key : HeldKey) (x y : NodePlace D) → NodeShows cells log n x.node → KeepsNode cells x.node y.node → HoldsMore key x y → HoldsFrom cells now x.node y.node
  opened_holds now log n key x y shows keeps holds = record {
    tickets = by x.node y.node holds.number holds.opens shows keeps;
    loose = λ seg held. inl (subst (λ (ns : List ℕ). Contains ns seg) (loose_kept x.node y.node keeps) held);
  }
    where
      by : (a b : Node D) (number : ℕ) → OpensTicket number a b → NodeShows cells log n a → KeepsNode cells a b → (o : Open Shown) → Contains (tickets_of b) o → Contains (tickets_of a) o ⊎ NamesDocuments o.point
      by (Primary p) (Primary q) number opens shows keeps = more_tickets number p.searchers.point p.searchers.tickets q.searchers.tickets opens.tickets (primary_named p shows.whole)
      by (Replica r) (Replica s) number opens shows keeps = more_tickets number r.searchers.point r.searchers.tickets s.searchers.tickets opens.tickets (replica_named r shows.whole)
      by (Down d) (Down e) number opens shows keeps = λ o held. inl held
      by (Primary p) (Replica s) number opens shows keeps = absurd keeps
      by (Primary p) (Down e) number opens shows keeps = absurd keeps
      by (Replica r) (Primary q) number opens shows keeps = absurd keeps
      by (Replica r) (Down e) number opens shows keeps = absurd keeps
      by (Down d) (Primary q) number opens shows keeps = absurd keeps
      by (Down d) (Replica s) number opens shows keeps = absurd keeps

  without_held : (number : ℕ) (ts : List (Open Shown)) (o : Open Shown) → Contains (tickets_without number ts) o → Contains ts o
  without_held number [] o held = held
  without_held number (t ∷ ts) o held = by (t.number == number) held (λ later. without_held number ts o later)
    where
      after : Contains ts o → Contains (t ∷ ts) o
      after (i, lt, e) = (suc i, omega (arith, lt), e)

      front : (i : ℕ) → i < length (t ∷ tickets_without number ts) → get_or (t ∷ tickets_without number ts) i o ≡ o → (Contains (tickets_without number ts) o → Contains ts o) → Contains (t ∷ ts) o
      front zero lt e rest = (0, omega arith, e)
      front (suc k) lt e rest = after (rest (k, omega (arith, lt), e))

      by : (b : Bool) → Contains (if b then ts else t ∷ tickets_without number ts) o → (Contains (tickets_without number ts) o → Contains ts o) → Contains (t ∷ ts) o
      by true held rest = after held
      by false held rest = front held.0 held.1 held.2 rest

  pub closed_holds : (now : Past) (key : HeldKey) (x y : NodePlace D) → KeepsNode cells x.node y.node → HoldsLess key x y → HoldsFrom cells now x.node y.node
  closed_holds now key x y keeps less = record {
    tickets = λ o held. inl (by (held_number x.held.items key) less.closed o held);
    loose = λ seg held. inl (subst (λ (ns : List ℕ). Contains ns seg) (loose_kept x.node y.node keeps) held);
  }
    where
      by : (number : Option ℕ) → ClosesTicket number x.node y.node → (o : Open Shown) → Contains (tickets_of y.node) o → Contains (tickets_of x.node) o
      by None same o held = subst (λ (ts : List (Open Shown)). Contains ts o) same held
      by (Some k) without o held = without_held k (tickets_of x.node) o (subst (λ (ts : List (Open Shown)). Contains ts o) without held)
