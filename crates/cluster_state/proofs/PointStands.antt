-- What points stand for: the one that a node opens with, and the one that the primary searches.
use Rattle.std.proofs.Common.{◌≡◌, ◌<◌, ◌+◌, ℕ, List, [], ◌∷◌, ◌++◌, zero, suc, get_or, refl, ap, ◌∙◌, sym, subst, arith, length, rules}
use Rattle.std.specs.Prelude.{Contains}
use Rattle.std.specs.List.{All}
use Rattle.std.proofs.lemmas.List.Elements.{All-nil}
use Rattle.disk_model.specs.Disk.{Name, Content, Cells, reads_of}
use Rattle.file_deleter.specs.Holdings.{count_of, times}
use Rattle.file_deleter.proofs.NameLemmas.{times-append, among_times}
use Rattle.commit_steps.proofs.Safe.{among_of}
use Rattle.segment_infos.specs.declared.infos.Infos.{Infos}
use Rattle.segment_infos.specs.declared.infos.SegRecord.{SegRecord}
use Rattle.index_primary.proofs.Callers.{empty_numbered}
use Rattle.seg_reader.specs.Stands.{StandsFor, AreSegmentsOf}
use Rattle.searcher_switch.proofs.Standing.{stands_along}
use Rattle.copy_state.specs.declared.state.CopyState.{CopyState}
use Rattle.copy_state.specs.declared.meta.FileMetaData.{FileMetaData}
use Rattle.copy_state.specs.States.{meta_names}
use Rattle.index_primary.specs.declared.parts.PrimaryParts.{PrimaryParts}
use Rattle.searcher_switch.specs.Tickets.{ticket_names}
use Rattle.searcher_switch.specs.Searching.{searcher_names}
use Rattle.index_primary.specs.Primary.{IsPrimary, primary_names, rest_names, loose_of}
use Rattle.replica_node.specs.Given.{HasMeta, opening_infos}
use Rattle.replica_node.specs.Sources.{HeldReadAs}
use Rattle.nrt_base.specs.declared.numbers.Version.{Version}
use Rattle.history_rules.specs.Nodes.{Past, version_of}
use Rattle.history_rules.specs.Points.{documents_at}
use Rattle.history_book.specs.Log.{Log, printed}
use Rattle.cluster_state.specs.State.{PrimaryShows}
use Rattle.cluster_state.specs.Disks.{IsWritable, IsPastPoint}
use Rattle.cluster_state.proofs.Points.{unloosed}
use Rattle.cluster_state.proofs.Naming.{FilesLast}
use Rattle.cluster_nodes.specs.JobChanges.{IsStateOfPoint}

no_segments : AreSegmentsOf [] []
no_segments = record { sound = λ k d lt. absurd (omega (arith, lt)); apart = λ i j d lt in'. absurd (omega (arith, lt, in')); documents = search rules }

-- it is of no documents, whatever a directory has
pub opening_stands : (reads : Name → Content) (infos : Infos) → infos ≡ opening_infos → StandsFor reads infos []
opening_stands reads infos is = subst (λ (i : Infos). StandsFor reads i []) (sym is) (record { segs = []; stands = record { each = tt; stand = no_segments } })

-- and a writer may go on from it
pub opening_writable : (past : Past) (infos : Infos) → infos ≡ opening_infos → IsWritable past infos
opening_writable past infos is = subst (λ (i : Infos). IsWritable past i) (sym is) (record {
  few = omega arith;
  live = λ none. All-nil (λ (r : SegRecord). 0 < r.live);
  numbered = empty_numbered opening_infos refl (omega arith) (omega arith);
})

-- ---- the state of the primary's point

module _ {D : Type 0} (cells : D → Cells) where
  -- a name of the point is counted
  point_counted : (p : PrimaryParts D) (q : Name) → IsPrimary cells p → 0 < times p.searchers.point.names q → 0 < count_of p.files q
  point_counted p q whole named =
      let counts = whole.node.counts q in
      let first : times (primary_names p) q ≡ times (searcher_names p.searchers) q + times (p.names ++ rest_names p) q
      = times-append (searcher_names p.searchers) (p.names ++ rest_names p) q in
      let second : times (searcher_names p.searchers) q ≡ times p.searchers.point.names q + times (ticket_names p.searchers.tickets) q
      = times-append p.searchers.point.names (ticket_names p.searchers.tickets) q in
      omega (arith, counts, first, second, named)

  -- a file of the point reads as at the source
  point_reads : (source : Name → Content) (p : PrimaryParts D) → FilesLast → IsPrimary cells p → HeldReadAs source (cells p.dir) p.files → (q : Name) → Contains p.searchers.point.names q → source q ≡ (cells p.dir q).now
  point_reads source p lasting whole held q named =
      let last = lasting p.point_infos p.searchers.point.names whole.searched.files q ((whole.searched.files.named q).0 named) in
      sym (held.each q last (point_counted p q whole (among_times p.searchers.point.names q (among_of p.searchers.point.names q named))))

  pub state_metas : (source : Name → Content) (p : PrimaryParts D) (state : CopyState) → FilesLast → IsPrimary cells p → HeldReadAs source (cells p.dir) p.files → IsStateOfPoint cells p state → All (λ f. HasMeta source f.0 f.1) state.files
  state_metas source p state lasting whole held is = λ i d lt.
      let h = is.metas i d lt in
      let f = get_or state.files i d in
      let named : Contains p.searchers.point.names f.0 = subst (λ (names : List Name). Contains names f.0) is.names (i, length_map (λ (x : Name × FileMetaData). x.0) state.files i lt, name_at state.files i d lt) in
      record { bytes = h.bytes; there = point_reads source p lasting whole held f.0 named ∙ h.there; meta_is = h.meta }
    where
      length_map : (g : Name × FileMetaData → Name) (xs : List (Name × FileMetaData)) (i : ℕ) → i < length xs → i < length (meta_names xs)
      length_map g [] i lt = absurd (omega (arith, lt))
      length_map g (x ∷ xs) zero lt = omega arith
      length_map g (x ∷ xs) (suc i) lt = let more = length_map g xs i (omega (arith, lt)) in omega (arith, more)

      name_at : (xs : List (Name × FileMetaData)) (i : ℕ) (d : Name × FileMetaData) → i < length xs → get_or (meta_names xs) i (get_or xs i d).0 ≡ (get_or xs i d).0
      name_at [] i d lt = absurd (omega (arith, lt))
      name_at (x ∷ xs) zero d lt = refl
      name_at (x ∷ xs) (suc i) d lt = name_at xs i d (omega (arith, lt))

  point_stands : (source : Name → Content) (log : Log) (n : ℕ) (p : PrimaryParts D) → FilesLast → PrimaryShows cells log n p → HeldReadAs source (cells p.dir) p.files → StandsFor source p.point_infos (documents_at (printed log) (version_of n (printed log)))
  point_stands source log n p lasting shows held =
      let point = shows.whole.searched in
      stands_along (reads_of (cells p.dir)) source p.point_infos (documents_at (printed log) (version_of n (printed log)))
      (λ q named. point_reads source p lasting shows.whole held q ((point.files.named q).1 named))
      (record { segs = p.searchers.point.readers; stands = record { each = point.stands.each; stand = shows.point.stands.documents } })

  -- where the primary writes from its point, that is one of the history
  pub primary_point : (source : Name → Content) (log : Log) (n : ℕ) (p : PrimaryParts D) → FilesLast → PrimaryShows cells log n p → p.point_infos ≡ p.infos → HeldReadAs source (cells p.dir) p.files → IsPastPoint source (printed log) p.point_infos
  primary_point source log n p lasting shows same held = record {
    known = (let low = shows.point.stands.known in omega (arith, low, version));
    generation = (let is : p.point_infos.generation.0 ≡ p.infos.generation.0 = ap (λ (i : Infos). i.generation.0) same in let now = shows.writer.generation in omega (arith, is, now));
    stands = subst (λ (v : ℕ). StandsFor source p.point_infos (documents_at (printed log) v)) (sym version) (point_stands source log n p lasting shows held);
    writable = subst (λ (i : Infos). IsWritable (printed log) i) (sym same) (record { few = shows.writer.few; live = shows.writer.live; numbered = unloosed p.infos (loose_of p) shows.whole.numbered });
  }
    where
      version : p.point_infos.version.0 ≡ version_of n (printed log)
      version = ap (λ (v : Version). v.0) shows.whole.version ∙ shows.point.version
