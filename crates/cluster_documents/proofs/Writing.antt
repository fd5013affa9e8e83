-- What the primary shows after it accepted an operation, started a publish or ended one.
use Rattle.std.proofs.Common.{◌≡◌, ◌≢◌, ◌≤◌, ◌+◌, ◌-◌, ℕ, Bool, true, false, List, [], ◌∷◌, ◌++◌, Some, None, Option, refl, ap, ◌∙◌, sym, subst, arith, if◌then◌else◌, length, take, drop, append_assoc}
use Rattle.std.specs.Prelude.{IsSomeAnd}
use Rattle.std.specs.List.{All, list_any}
use Rattle.std.proofs.lemmas.Bool.{eq-eqb}
use Rattle.std.proofs.lemmas.List.{drop-append-le, length_push}
use Rattle.nrt_base.specs.declared.numbers.At.{At}
use Rattle.nrt_base.specs.declared.numbers.Gen.{Gen}
use Rattle.nrt_base.specs.declared.numbers.SegNo.{SegNo}
use Rattle.nrt_base.specs.declared.numbers.Version.{Version}
use Rattle.nrt_base.specs.declared.doc.Doc.{Doc}
use Rattle.documents.specs.declared.operation.Op.{Op}
use Rattle.documents.specs.Documents.{is_put, after_ops, documents_after}
use Rattle.disk_model.specs.Disk.{Cells}
use Rattle.seg_reader.specs.Shown.{Shown}
use Rattle.seg_reader.specs.Stands.{AreSegmentsOf}
use Rattle.segment_infos.specs.declared.infos.Infos.{Infos}
use Rattle.segment_infos.specs.declared.infos.SegRecord.{SegRecord}
use Rattle.searcher_switch.specs.declared.open.SearchPoint.{SearchPoint}
use Rattle.history_rules.specs.declared.entry.Event.TheVariants.{Accepted, Publishing, Published}
use Rattle.history_rules.specs.Nodes.{Past, generation_of, newest_version, version_of}
use Rattle.history_rules.specs.Lines.{same_at, start_entry, before_start, without_at, publish_in_flight}
use Rattle.history_rules.specs.Points.{documents_at, operations_at, operations_at_start, accepted_at_start, operations_of_generation, published_in_generation, cut_of, names_drawn}
use Rattle.history_rules.specs.Legal.{KeepsRule, IsLegalPast}
use Rattle.history_facts.specs.Origins.{operations_before_generation}
use Rattle.history_tables.proofs.RowLemmas.{same_at_self}
use Rattle.history_book.specs.Log.{Log, printed, shown, kept}
use Rattle.history_book.specs.declared.inner.Inner.TheVariants.{FlushOut}
use Rattle.history_book.specs.Turns.{AreInTurn}
use Rattle.history_book.proofs.ReignLaws.{written}
use Rattle.index_primary.specs.declared.parts.PrimaryParts.{PrimaryParts}
use Rattle.index_primary.specs.declared.parts.Publish.{Publish}
use Rattle.index_primary.specs.Primary.{IsPrimary}
use Rattle.segment_steps.specs.declared.flushing.FlushWork.{FlushWork}
use Rattle.index_primary.specs.Calls.{IsPublished}
use Rattle.index_primary.specs.Merges.{merge_inputs}
use Rattle.index_primary.specs.declared.states.Merging.{Merging}
use Rattle.history_rules.specs.Tasks.{merge_count}
use Rattle.script_serving.specs.Refusals.{put_publishes}
use Rattle.index_primary.specs.Work.{AreOfCut}
use Rattle.index_primary.specs.Cut.{infos_drawn, noted, has_put, cut_by, after_cut}
use Rattle.cluster_state.specs.Lookups.{Handed, or_older, flush_out}
use Rattle.cluster_state.specs.State.{StandForVersion, IsPointAt, IsFlying, FlightShows, WritesAt, PrimaryShows}
use Rattle.cluster_state.specs.Writes.{IsFlushed}
use Rattle.cluster_state.proofs.Growing.{stands_more, flight_stays, not_flying}
use Rattle.cluster_state.proofs.Frames.{flight_same}
use Rattle.cluster_documents.proofs.Filling.{IsLive, next_live, next_few}
use Rattle.cluster_documents.proofs.Cuts.{drop_on, take_on, after_ops-append, FliesWith, flies_with}

module _ {D : Type 0} (cells : D → Cells) where
  -- ---- an operation is accepted

  pub accepted_primary : (size : ℕ) (log : Log) (at : At) (seq : ℕ) (op : Op) (n : ℕ) (p q : PrimaryParts D) → IsLegalPast size (printed log) → AreInTurn (printed log)
      → KeepsRule size (printed log) at (Accepted seq op) → start_entry at (printed log) ≢ Some Publishing
      → q ≡ record p { waiting = p.waiting ++ op ∷ []; accepted = p.accepted + 1 } → IsPrimary cells q
      → PrimaryShows cells log n p → PrimaryShows cells (shown at (Accepted seq op) ∷ log) n q
  accepted_primary size log at seq op n p q legal turns keeps line is whole was =
      let point = stands_more size (printed log) (record { at = at; event = Accepted seq op }) (version_of n (printed log)) p.searchers.point.readers (keeps, legal) was.point.stands in
      let newest = stands_more size (printed log) (record { at = at; event = Accepted seq op }) (newest_version (printed log)) p.segs (keeps, legal) (record { known = omega arith; documents = was.writer.documents }) in
      let flight = flight_same log (shown at (Accepted seq op) ∷ log) p.publish p.segs (flight_stays (printed log) at (Accepted seq op) (not_flying size (printed log) at legal turns line) refl) (λ a h there. there) was.flight in
      record {
        running = was.running;
        primary = was.primary;
        whole = whole;
        point = subst (λ (o : SearchPoint Shown). IsPointAt (printed (shown at (Accepted seq op) ∷ log)) (version_of n (printed log)) o) (sym (ap (λ (z : PrimaryParts D). z.searchers.point) is))
            (record { version = was.point.version; stands = point });
        writer = subst (λ (x : Infos × List Shown). WritesAt (printed (shown at (Accepted seq op) ∷ log)) x.0 x.1) (λ i. (sym (ap (λ (z : PrimaryParts D). z.infos) is) i, sym (ap (λ (z : PrimaryParts D). z.segs) is) i))
            (record { documents = newest.documents; generation = was.writer.generation; version = was.writer.version; counter = was.writer.counter; few = was.writer.few; live = was.writer.live });
        waiting = ap (λ (z : PrimaryParts D). z.waiting) is ∙ (ap (λ (ops : List Op). ops ++ op ∷ []) was.waiting
            ∙ sym (drop-append-le (published_in_generation (printed log)) (operations_of_generation (printed log)) (op ∷ []) (written size (printed log) legal).within));
        accepted = omega (arith, ap (λ (z : PrimaryParts D). z.accepted) is, was.accepted, length_push (operations_of_generation (printed log)) op);
        uncut = λ none. ap (λ (z : PrimaryParts D). z.has_cut_over) is ∙ was.uncut none;
        calm = λ none. ap (λ (z : PrimaryParts D). z.merges) is ∙ was.calm none;
        flight = subst (λ (x : Option Publish × List Shown). FlightShows (shown at (Accepted seq op) ∷ log) (publish_in_flight (printed (shown at (Accepted seq op) ∷ log))) x.0 x.1)
            (λ i. (sym (ap (λ (z : PrimaryParts D). z.publish) is) i, sym (ap (λ (z : PrimaryParts D). z.segs) is) i)) flight;
      }

  -- ---- a publish starts

  drawn_writes : (b : Bool) (past now : Past) (infos : Infos) (segs : List Shown) → AreSegmentsOf (documents_at now (newest_version now)) segs
      → generation_of now ≡ generation_of past → newest_version now ≡ newest_version past → names_drawn now ≡ (if b then names_drawn past + 1 else names_drawn past) → put_publishes now ≡ put_publishes past → merge_count now ≡ merge_count past
      → WritesAt past infos segs → WritesAt now (infos_drawn b infos) segs
  drawn_writes true past now infos segs documents generation newest names puts merges was =
      record { documents = documents; generation = was.generation ∙ sym generation; version = was.version ∙ sym newest; counter = ap (λ (k : ℕ). k + 1) was.counter ∙ sym names; few = subst (λ (k : ℕ). length infos.segs ≤ k) (sym puts) was.few; live = λ none. was.live (sym merges ∙ none) }
  drawn_writes false past now infos segs documents generation newest names puts merges was =
      record { documents = documents; generation = was.generation ∙ sym generation; version = was.version ∙ sym newest; counter = was.counter ∙ sym names; few = subst (λ (k : ℕ). length infos.segs ≤ k) (sym puts) was.few; live = λ none. was.live (sym merges ∙ none) }

  pub started_primary : (size : ℕ) (log : Log) (at : At) (seg : Option SegNo) (segs : List Shown) (n : ℕ) (p q : PrimaryParts D) → IsLegalPast size (printed log)
      → KeepsRule size (printed log) at Publishing → flush_out at log ≡ None → segs ≡ p.segs
      → q ≡ record p { infos = infos_drawn (has_put p.waiting) p.infos; publish = noted seg p.waiting } → IsPrimary cells q
      → PrimaryShows cells log n p → PrimaryShows cells (kept (FlushOut at seg segs) ∷ shown at Publishing ∷ log) n q
  started_primary size log at seg segs n p q legal keeps none same is whole was =
      let point = stands_more size (printed log) (record { at = at; event = Publishing }) (version_of n (printed log)) p.searchers.point.readers (keeps, legal) was.point.stands in
      let newest = stands_more size (printed log) (record { at = at; event = Publishing }) (newest_version (printed log)) p.segs (keeps, legal) (record { known = omega arith; documents = was.writer.documents }) in
      let writer = drawn_writes (has_put p.waiting) (printed log) (printed (shown at Publishing ∷ log)) p.infos p.segs newest.documents refl refl
      (ap (λ (ops : List Op). if list_any is_put ops then names_drawn (printed log) + 1 else names_drawn (printed log)) (sym was.waiting)) refl refl was.writer in
      record {
        running = was.running;
        primary = was.primary;
        whole = whole;
        point = subst (λ (o : SearchPoint Shown). IsPointAt (printed (shown at Publishing ∷ log)) (version_of n (printed log)) o) (sym (ap (λ (z : PrimaryParts D). z.searchers.point) is))
            (record { version = was.point.version; stands = point });
        writer = subst (λ (x : Infos × List Shown). WritesAt (printed (shown at Publishing ∷ log)) x.0 x.1) (λ i. (sym (ap (λ (z : PrimaryParts D). z.infos) is) i, sym (ap (λ (z : PrimaryParts D). z.segs) is) i)) writer;
        waiting = ap (λ (z : PrimaryParts D). z.waiting) is ∙ was.waiting;
        accepted = ap (λ (z : PrimaryParts D). z.accepted) is ∙ was.accepted;
        uncut = λ none. ap (λ (z : PrimaryParts D). z.has_cut_over) is ∙ was.uncut none;
        calm = λ none. ap (λ (z : PrimaryParts D). z.merges) is ∙ was.calm none;
        flight = subst (λ (x : Option Publish × List Shown). FlightShows (kept (FlushOut at seg segs) ∷ shown at Publishing ∷ log) (Some at) x.0 x.1)
            (λ i. (sym (ap (λ (z : PrimaryParts D). z.publish) is) i, sym (ap (λ (z : PrimaryParts D). z.segs) is) i)) flying;
      }
    where
      start : before_start at (printed (shown at Publishing ∷ log)) ≡ printed log
      start = ap (λ (b : Bool). if b then printed log else before_start at (printed log)) (same_at_self at)

      flying : IsFlying (kept (FlushOut at seg segs) ∷ shown at Publishing ∷ log) at (record { seg = seg; count = length p.waiting }) p.segs
      flying = record {
        out = ap (λ (o : Option Handed). or_older o (if same_at at at then Some (record { seg = seg; segs = segs }) else None)) none
            ∙ (ap (λ (b : Bool). if b then Some (record { seg = seg; segs = segs }) else None) (same_at_self at) ∙ ap (λ (s : List Shown). Some (record { seg = seg; segs = s })) same);
        count = ap length was.waiting ∙ ap (λ (x : Past). length (cut_of x)) (sym start);
      }

  -- ---- a publish ends

  -- the documents of the newest point and of what is taken of the cut are those of the next point
  published_docs : (past : Past) (at : At) → operations_at past (newest_version past) ≡ operations_before_generation past ++ take (published_in_generation past) (operations_of_generation past)
      → FliesWith past at
      → after_ops (documents_at past (newest_version past)) (take (accepted_at_start at past - published_in_generation past) (cut_of past)) ≡ documents_after (operations_at_start at past)
  published_docs past at newest f =
      sym (after_ops-append [] (operations_at past (newest_version past)) (take (accepted_at_start at past - published_in_generation past) (cut_of past)))
      ∙ ap documents_after (ap (λ (ops : List Op). ops ++ take (accepted_at_start at past - published_in_generation past) (cut_of past)) newest
      ∙ (append_assoc (operations_before_generation past) (take (published_in_generation past) (operations_of_generation past)) (take (accepted_at_start at past - published_in_generation past) (cut_of past))
      ∙ (ap (λ (ops : List Op). operations_before_generation past ++ ops) (take_on (published_in_generation past) (accepted_at_start at past) (operations_of_generation past) f.low) ∙ sym f.found)))

  -- what the publish in flight takes of what waits, and what it leaves
  flight_cut : (log : Log) (at : At) (x : Option Publish) (segs : List Shown) (w : List Op) → IsSomeAnd x (λ f. IsFlying log at f segs)
      → (cut_by x w ≡ take (length (cut_of (before_start at (printed log)))) w) × (after_cut x w ≡ drop (length (cut_of (before_start at (printed log)))) w)
  flight_cut log at None segs w flies = absurd flies
  flight_cut log at (Some f) segs w flies = (ap (λ (k : ℕ). take k w) flies.count, ap (λ (k : ℕ). drop k w) flies.count)

  flies_at : (log : Log) (at : At) (publish : Option Publish) (segs : List Shown) → publish_in_flight (printed log) ≡ Some at → FlightShows log (publish_in_flight (printed log)) publish segs
      → IsSomeAnd publish (λ f. IsFlying log at f segs)
  flies_at log at publish segs is shows = subst (λ (o : Option At). FlightShows log o publish segs) is shows

  pub published_primary : (size : ℕ) (log : Log) (at : At) (g : Gen) (v : Version) (n : ℕ) (p q : PrimaryParts D) (work : FlushWork) → IsLegalPast size (printed log) → AreInTurn (printed log)
      → KeepsRule size (printed log) at (Published g v) → publish_in_flight (printed log) ≡ Some at → v.0 ≡ newest_version (printed log) + 1
      → IsFlushed at log work → IsPublished p work q → AreOfCut p q → q.accepted ≡ p.accepted → q.merges ≡ p.merges → IsPrimary cells q
      → PrimaryShows cells log n p → PrimaryShows cells (shown at (Published g v) ∷ log) n q
  published_primary size log at g v n p q work legal turns keeps flight next flushed published of_cut accepted calm whole was =
      record {
        running = was.running;
        primary = was.primary;
        whole = whole;
        point = record {
          version = published.point.version ∙ (ap (λ (k : ℕ). k + 1) was.writer.version ∙ (sym next ∙ sym searched));
          stands = subst (λ (k : ℕ). StandForVersion (printed (shown at (Published g v) ∷ log)) k q.searchers.point.readers) (sym searched)
              (record { known = omega arith; documents = subst (λ (docs : List Doc). AreSegmentsOf docs q.searchers.point.readers) docs (of_cut (documents_at (printed log) (newest_version (printed log))) was.writer.documents).1 });
        };
        writer = record {
          documents = subst (λ (docs : List Doc). AreSegmentsOf docs q.segs) (docs ∙ ap (λ (k : ℕ). documents_at (printed (shown at (Published g v) ∷ log)) k) (sym newest))
              (of_cut (documents_at (printed log) (newest_version (printed log))) was.writer.documents).0;
          generation = ap (λ (i : Infos). i.generation.0) published.point.infos ∙ was.writer.generation;
          version = ap (λ (i : Infos). i.version.0) published.point.infos ∙ (ap (λ (k : ℕ). k + 1) was.writer.version ∙ (sym next ∙ sym newest));
          counter = ap (λ (i : Infos). i.counter) published.point.infos ∙ was.writer.counter;
          few = subst (λ (rs : List SegRecord). length rs ≤ put_publishes (printed (shown at (Published g v) ∷ log))) (sym records)
              (subst (λ (ops : List Op). length published.made.records ≤ (if list_any is_put ops then put_publishes (printed log) + 1 else put_publishes (printed log))) flushed.ops
              (next_few p.infos.generation.0 p.infos.segs p.segs flushed.task work (merge_inputs p.merges) published.made (put_publishes (printed log)) flushed.flushed published.next was.writer.few));
          live = λ none. subst (λ (rs : List SegRecord). All IsLive rs) (sym records)
              (next_live p.infos.generation.0 p.infos.segs p.segs flushed.task work (merge_inputs p.merges) published.made (unheld none) flushed.flushed published.next);
        };
        waiting = published.point.waiting ∙ left;
        accepted = accepted ∙ was.accepted;
        uncut = λ none. published.point.has_cut_over;
        calm = λ none. calm ∙ was.calm none;
        flight = subst (λ (o : Option At). FlightShows (shown at (Published g v) ∷ log) o q.publish q.segs) (sym none) published.point.publish;
      }
    where
      f : FliesWith (printed log) at
      f = flies_with size (printed log) at legal turns flight

      records : q.infos.segs ≡ published.made.records
      records = ap (λ (i : Infos). i.segs) published.point.infos

      unheld : merge_count (printed log) ≡ 0 → merge_inputs p.merges ≡ []
      unheld none = ap (λ (ms : List Merging). merge_inputs ms) (was.calm none)

      searched : version_of n (printed (shown at (Published g v) ∷ log)) ≡ v.0
      searched = ap (λ (b : Bool). if b then v.0 else version_of n (printed log)) was.primary

      newest : newest_version (printed (shown at (Published g v) ∷ log)) ≡ v.0
      newest = omega (arith, next)

      cut : (cut_by p.publish p.waiting ≡ take (length (cut_of (before_start at (printed log)))) p.waiting) × (after_cut p.publish p.waiting ≡ drop (length (cut_of (before_start at (printed log)))) p.waiting)
      cut = flight_cut log at p.publish p.segs p.waiting (flies_at log at p.publish p.segs flight was.flight)

      taken : cut_by p.publish p.waiting ≡ take (accepted_at_start at (printed log) - published_in_generation (printed log)) (cut_of (printed log))
      taken = cut.0 ∙ λ i. take (f.count i) (was.waiting i)

      docs : after_ops (documents_at (printed log) (newest_version (printed log))) (cut_by p.publish p.waiting) ≡ documents_at (printed (shown at (Published g v) ∷ log)) v.0
      docs = ap (after_ops (documents_at (printed log) (newest_version (printed log)))) taken
          ∙ (published_docs (printed log) at (written size (printed log) legal).newest f
          ∙ ap (λ (b : Bool). documents_after (if b then operations_at_start at (printed log) else operations_at (printed log) v.0)) (sym (eq-eqb v.0 v.0 refl)))

      left : after_cut p.publish p.waiting ≡ cut_of (printed (shown at (Published g v) ∷ log))
      left = cut.1 ∙ ((λ i. drop (f.count i) (was.waiting i)) ∙ drop_on (published_in_generation (printed log)) (accepted_at_start at (printed log)) (operations_of_generation (printed log)) f.low)

      none : publish_in_flight (printed (shown at (Published g v) ∷ log)) ≡ None
      none = ap (without_at at) flight ∙ ap (λ (b : Bool). if b then None else Some at) (same_at_self at)
