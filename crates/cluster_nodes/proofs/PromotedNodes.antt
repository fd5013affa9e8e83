-- A replica that became the primary.
use Rattle.std.proofs.Common.{◌≡◌, ◌≤◌, ◌<◌, ◌+◌, ◌^◌, ◌↔◌, ◌++◌, ℕ, zero, suc, true, false, List, [], Some, None, Option, Vec, Global, Result, Ok, Err, length, refl, ap, ◌∙◌, sym, subst, arith}
use Rattle.std.specs.Prelude.{IsErrOf, IfOk, Contains}
use Rattle.std.specs.List.{flat_map}
use Rattle.std.proofs.lemmas.Bool.{lt-ltb}
use Rattle.nrt_base.specs.declared.numbers.Gen.{Gen}
use Rattle.nrt_base.specs.declared.numbers.Version.{Version}
use Rattle.disk_model.specs.Disk.{Name, Content, Cells, reads_of}
use Rattle.file_deleter.specs.Holdings.{Holdings, count_of, times}
use Rattle.file_deleter.proofs.NameLemmas.{times-append, among_is, among_times}
use Rattle.segment_infos.specs.declared.infos.Infos.{Infos}
use Rattle.segment_infos.specs.declared.infos.SegRecord.{SegRecord}
use Rattle.segment_infos.specs.Infos.{CanSpell}
use Rattle.segment_infos.specs.Files.{files_of_segment, AreFilesOf}
use Rattle.commit_steps.specs.Book.{book_names}
use Rattle.commit_steps.specs.declared.stage.CommitBook.{CommitBook}
use Rattle.commit_steps.proofs.Safe.{among_of, contains_of}
use Rattle.searcher_switch.specs.Node.{IsWholeNode}
use Rattle.searcher_switch.specs.Appearing.{NoneAppears}
use Rattle.searcher_switch.specs.declared.open.Open.{Open}
use Rattle.searcher_switch.specs.declared.searchers.Searchers.{Searchers}
use Rattle.searcher_switch.specs.Tickets.{ticket_names}
use Rattle.searcher_switch.specs.Searching.{searcher_names}
use Rattle.seg_reader.specs.Shown.{Shown}
use Rattle.seg_reader.specs.Stands.{StandsFor, StandsWith}
use Rattle.nrt_base.specs.declared.doc.Doc.{Doc}
use Rattle.promotion.specs.declared.fault.PromoteFault.{PromoteFault}
use Rattle.promotion.specs.declared.fault.PromoteFault.TheVariants.{Memory, GenNotNewer, ForceHigh}
use Rattle.promotion.specs.Generations.{promoted_infos, IsNotNewer, IsForceHigh}
use Rattle.index_primary.specs.declared.parts.PrimaryParts.{PrimaryParts}
use Rattle.index_primary.specs.declared.states.Out.{Out}
use Rattle.index_primary.specs.declared.states.Merging.{Merging}
use Rattle.index_primary.specs.States.{state_names}
use Rattle.index_primary.specs.Merges.{merge_names}
use Rattle.index_primary.specs.Primary.{IsPrimary, primary_names, rest_names}
use Rattle.index_primary.specs.Held.{IsHeld, IsUndrawn, AreUndrawn, AreNumbered}
use Rattle.index_primary.specs.Calls.{IsOpenedOn}
use Rattle.replica_node.specs.declared.parts.ReplicaParts.{ReplicaParts}
use Rattle.replica_node.specs.declared.taking.NodeParts.{NodeParts}
use Rattle.replica_node.specs.Sources.{HeldReadAs, IsSourced, IsTakenApart}
use Rattle.replica_opening.specs.Known.{IsLasting}
use Rattle.cluster_nodes.specs.Promoting.{CanPromote, PromotesTo}

-- the generation opens but for want of memory
pub only_memory : (result : Result Infos PromoteFault) (infos : Infos) (generation : Gen) (forced : Version) (fault : PromoteFault) → result ≡ Err fault → infos.generation.0 < generation.0 → forced.0 < 2 ^ 62
    → ((last : Gen) → IsErrOf result (GenNotNewer last) ↔ IsNotNewer infos generation last) → IsErrOf result ForceHigh ↔ IsForceHigh infos generation forced → fault ≡ Memory
only_memory result infos generation forced Memory is newer low first second = refl
only_memory result infos generation forced (GenNotNewer last) is newer low first second = absurd (let not = (first last).0 is in let old = not.1 in omega (arith, old, newer))
only_memory result infos generation forced ForceHigh is newer low first second = absurd (let high = second.0 is in let up = high.1 in omega (arith, up, low))

-- infos of the same segments have the same files
same_files : (infos other : Infos) (names : List Name) → infos.segs ≡ other.segs → AreFilesOf infos names → AreFilesOf other names
same_files infos other names same files = record { ascending = files.ascending; named = λ q. subst (λ (rs : List SegRecord). Contains names q ↔ Contains (flat_map files_of_segment rs) q) same (files.named q) }

-- a name of these files is one of those
files_times : (infos other : Infos) (names others : List Name) (q : Name) → infos.segs ≡ other.segs → AreFilesOf infos names → AreFilesOf other others → 0 < times names q → 0 < times others q
files_times infos other names others q same a b some =
    let named : Contains (flat_map files_of_segment infos.segs) q = (a.named q).0 (contains_of names q (among_is names q ∙ lt-ltb 0 (times names q) some)) in
    let there : Contains others q = (b.named q).1 (subst (λ (rs : List SegRecord). Contains (flat_map files_of_segment rs) q) same named) in
    among_times others q (among_of others q there)

module _ {D : Type 0} (cells : D → Cells) (generation : Gen) (forced : Version) (r : ReplicaParts D) (parts : NodeParts D) (can : CanPromote cells generation forced r) (same : IsTakenApart r parts) where
  abbrev next : Infos
  next = promoted_infos parts.infos generation forced

  next_is : promoted_infos r.infos generation forced ≡ next
  next_is = ap (λ (i : Infos). promoted_infos i generation forced) (sym same.infos)

  -- what `open_generation` asks for
  pub newer_apart : parts.infos.generation.0 < generation.0
  newer_apart = subst (λ (i : Infos). i.generation.0 < generation.0) (sym same.infos) can.newer

  pub above_apart : parts.infos.version.0 ≤ forced.0
  above_apart = subst (λ (i : Infos). i.version.0 ≤ forced.0) (sym same.infos) can.above

  spelled_next : CanSpell parts.infos → CanSpell next
  spelled_next spelled = record {
    generation = let up = can.newer in omega (arith, up);
    version = omega arith;
    few = spelled.few;
    records = spelled.records;
    apart = spelled.apart;
  }

  -- what `from_parts` asks for
  pub held_next : (infos : Infos) → infos ≡ next → CanSpell parts.infos → AreFilesOf parts.infos parts.searchers.point.names
      → ((docs : List Doc) → StandsFor (reads_of (cells r.dir)) r.infos docs → StandsWith (reads_of (cells parts.dir)) parts.infos parts.segs docs) → IsHeld (reads_of (cells parts.dir)) infos parts.segs parts.searchers.point.names
  held_next infos is spelled files stands =
      let with = stands can.standing.point.docs can.standing.point.stands in
      subst (λ (i : Infos). IsHeld (reads_of (cells parts.dir)) i parts.segs parts.searchers.point.names) (sym is) (record {
        spelled = spelled_next spelled;
        files = same_files parts.infos next parts.searchers.point.names refl files;
        docs = can.standing.point.docs;
        stands = record { each = with.each; stand = with.stand };
      })

  pub undrawn_apart : (infos : Infos) → infos ≡ next → ((q : Name) → count_of parts.files q ≤ count_of r.files q) → AreUndrawn parts.files infos [] []
  undrawn_apart infos is fewer = record {
    each = λ q undrawn.
        let none = can.undrawn.each q (subst (λ (i : Infos). IsUndrawn i [] [] q) (is ∙ sym next_is) undrawn) in
        let low = fewer q in
        omega (arith, none, low);
  }

  pub numbered_apart : (infos : Infos) → infos ≡ next → AreNumbered infos []
  numbered_apart infos is = subst (λ (i : Infos). AreNumbered i []) (sym (is ∙ sym next_is)) can.numbered

  -- ---- what the primary is

  module _ (infos : Infos) (p : PrimaryParts D) (is : infos ≡ next) (whole : IsPrimary cells p) (opened : IsOpenedOn parts.dir parts.searchers parts.commits infos parts.segs p)
      (node : IsWholeNode (cells parts.dir) parts.files (searcher_names parts.searchers) parts.commits) (files : AreFilesOf parts.infos parts.searchers.point.names) where
    infos_are : p.infos ≡ next
    infos_are = opened.infos_are ∙ is

    point_are : p.point_infos ≡ next
    point_are = opened.point_infos ∙ is

    -- a file that the primary holds was held
    held_before : (q : Name) → 0 < count_of p.files q → 0 < count_of parts.files q
    held_before q some = tests (times p.searchers.point.names q) (times p.names q) refl refl
      where
        was : count_of parts.files q ≡ (times parts.searchers.point.names q + times (ticket_names parts.searchers.tickets) q) + times (book_names parts.commits) q
        was = node.counts q ∙ ap (λ (k : ℕ). k + times (book_names parts.commits) q) (times-append parts.searchers.point.names (ticket_names parts.searchers.tickets) q)

        tickets : times (ticket_names p.searchers.tickets) q ≡ times (ticket_names parts.searchers.tickets) q
        tickets = ap (λ (ts : List (Open Shown)). times (ticket_names ts) q) opened.tickets

        booked : times (book_names p.commits) q ≡ times (book_names parts.commits) q
        booked = ap (λ (b : CommitBook). times (book_names b) q) opened.commits_are

        no_rest : times (rest_names p) q ≡ 0
        no_rest = ap (λ (ss : List Out). times (state_names ss ++ merge_names p.merges) q) opened.states ∙ ap (λ (ms : List Merging). times (merge_names ms) q) opened.merges

        now : count_of p.files q ≡ (times p.searchers.point.names q + times (ticket_names p.searchers.tickets) q) + (times p.names q + times (rest_names p) q) + times (book_names p.commits) q
        now =
            let counts = whole.node.counts q in
            let first : times (primary_names p) q ≡ times (searcher_names p.searchers) q + times (p.names ++ rest_names p) q = times-append (searcher_names p.searchers) (p.names ++ rest_names p) q in
            let second : times (p.names ++ rest_names p) q ≡ times p.names q + times (rest_names p) q = times-append p.names (rest_names p) q in
            let third : times (searcher_names p.searchers) q ≡ times p.searchers.point.names q + times (ticket_names p.searchers.tickets) q = times-append p.searchers.point.names (ticket_names p.searchers.tickets) q in
            omega (arith, counts, first, second, third)

        point_some : 0 < times parts.searchers.point.names q → 0 < count_of parts.files q
        point_some named = omega (arith, was, named)

        tests : (a b : ℕ) → times p.searchers.point.names q ≡ a → times p.names q ≡ b → 0 < count_of parts.files q
        tests (suc a) b first second =
            point_some (files_times p.point_infos parts.infos p.searchers.point.names parts.searchers.point.names q (ap (λ (i : Infos). i.segs) point_are) whole.searched.files files (omega (arith, first)))
        tests zero (suc b) first second =
            point_some (files_times p.infos parts.infos p.names parts.searchers.point.names q (ap (λ (i : Infos). i.segs) infos_are) whole.writer.files files (omega (arith, second)))
        tests zero zero first second = omega (arith, some, was, now, tickets, booked, no_rest, first, second)

    promoted_to : ((source : Name → Content) → IsSourced source cells r → HeldReadAs source (cells parts.dir) parts.files) → NoneAppears (cells r.dir) (cells parts.dir)
        → PromotesTo cells generation forced r p
    promoted_to sourced appears = record {
      whole = whole;
      infos = infos_are ∙ sym next_is;
      point_infos = opened.point_infos ∙ sym opened.infos_are;
      segs = opened.segs_are ∙ segs_were;
      readers = opened.readers ∙ segs_were;
      version = ap (λ (v : Version). v.0) opened.version ∙ ap (λ (i : Infos). i.version.0) is;
      tickets = opened.tickets ∙ ap (λ (s : Searchers Shown). s.tickets) same.searchers;
      commits = opened.commits_are ∙ same.commits;
      states = opened.states;
      merges = opened.merges;
      waiting = opened.waiting;
      accepted = opened.accepted;
      publish = opened.publish;
      has_cut_over = opened.has_cut_over;
      held = λ source was. record {
        each = λ q lasting some. ap (λ (d : D). (cells d q).now) opened.dir_is ∙ (sourced source was).each q lasting (held_before q some);
      };
      appears = record { each = λ q none. ap (λ (d : D). (cells d q).now) opened.dir_is ∙ appears.each q none };
    }
      where
        segs_were : parts.segs ≡ r.searchers.point.readers
        segs_were = same.segs ∙ can.whole.segs

  -- in the terms of a call
  pub becomes : {E : Type 0} (result : Result (PrimaryParts D) E) (infos : Infos) → infos ≡ next → IfOk result (IsPrimary cells) → IfOk result (IsOpenedOn parts.dir parts.searchers parts.commits infos parts.segs)
      → IsWholeNode (cells parts.dir) parts.files (searcher_names parts.searchers) parts.commits → AreFilesOf parts.infos parts.searchers.point.names
      → ((source : Name → Content) → IsSourced source cells r → HeldReadAs source (cells parts.dir) parts.files) → NoneAppears (cells r.dir) (cells parts.dir) → IfOk result (PromotesTo cells generation forced r)
  becomes (Ok p) infos is whole opened node files sourced appears = promoted_to infos p is whole opened node files sourced appears
  becomes (Err e) infos is whole opened node files sourced appears = tt
