-- The nodes of a cluster that has just started.
use Rattle.std.proofs.Common.{◌≡◌, ◌≢◌, ◌≤◌, ◌<◌, ◌+◌, ◌++◌, ◌^◌, ◌==◌, inl, inr, ℕ, suc, zero, Bool, true, false, true≢false, is_some, List, [], ◌∷◌, Some, None, Option, Vec, Global, length, length-append, refl, ap, ◌∙◌, sym, subst, arith, if◌then◌else◌}
use Rattle.std.specs.Prelude.{IsSomeAnd, Contains, Result, Ok, Err, IfOk}
use Rattle.std.specs.List.{slice_get, flat_map}
use Rattle.std.proofs.lemmas.Bool.Decides.{nat_tests, eqb_tells}
use Rattle.std.proofs.lemmas.List.Elements.{All-nil}
use Rattle.std.proofs.lemmas.Option.{none-some}
use Rattle.file_names.specs.Names.{commit_name_of}
use Rattle.nrt_base.specs.declared.doc.Doc.{Doc}
use Rattle.nrt_base.specs.declared.numbers.Gen.{Gen}
use Rattle.nrt_base.specs.declared.numbers.Version.{Version}
use Rattle.disk_model.specs.Disk.{Name, Cells, reads_of}
use Rattle.file_deleter.specs.Holdings.{times, count_of}
use Rattle.seg_reader.specs.Shown.{Shown}
use Rattle.seg_reader.specs.Stands.{StandsFor, StandsWith, AreSegmentsOf}
use Rattle.segment_infos.specs.declared.infos.Infos.{Infos}
use Rattle.segment_infos.specs.declared.infos.SegRecord.{SegRecord}
use Rattle.segment_infos.specs.Infos.{CanSpell}
use Rattle.segment_infos.specs.Files.{files_of_segment, AreFilesOf}
use Rattle.segment_steps.proofs.PublishLaws.{here}
use Rattle.searcher_switch.specs.declared.open.Open.{Open}
use Rattle.searcher_switch.specs.declared.searchers.Searchers.{Searchers}
use Rattle.searcher_switch.specs.Searching.{searcher_names}
use Rattle.searcher_switch.specs.Tickets.{ticket_names}
use Rattle.searcher_switch.specs.Node.{IsWholeNode}
use Rattle.history_rules.specs.Nodes.{IsNode}
use Rattle.history_rules.specs.Tickets.{IsTicketOf}
use Rattle.history_book.specs.Log.{Log}
use Rattle.commit_steps.specs.Commits.{HasFilesOf}
use Rattle.commit_steps.specs.Book.{book_names, last_names, flying_names}
use Rattle.commit_steps.specs.Found.{ShowsCommit}
use Rattle.commit_steps.specs.declared.states.Commit.{Commit}
use Rattle.commit_steps.specs.declared.stage.CommitBook.{CommitBook}
use Rattle.commit_steps.specs.declared.stage.Stage.{Stage}
use Rattle.replica_opening.specs.Opening.{opening_infos, FindsPoint, number_of_last}
use Rattle.replica_opening.specs.Opened.{IsSettledAt, IsSettledOn}
use Rattle.replica_node.specs.declared.parts.ReplicaParts.{ReplicaParts}
use Rattle.replica_node.specs.declared.taking.NodeParts.{NodeParts}
use Rattle.replica_node.specs.declared.merges.MergeCopies.{MergeCopies}
use Rattle.replica_node.specs.Sources.{IsTakenApart}
use Rattle.replica_node.specs.Starting.{OpensOn}
use Rattle.index_primary.specs.declared.parts.PrimaryParts.{PrimaryParts}
use Rattle.index_primary.specs.Primary.{IsPrimary, loose_of, publish_loose, primary_names}
use Rattle.searcher_switch.specs.Appearing.{NoneAppears}
use Rattle.index_primary.specs.Held.{IsHeld, AreUndrawn, AreNumbered}
use Rattle.index_primary.specs.Calls.{IsOpenedOn}
use Rattle.index_primary.proofs.Callers.{empty_numbered}
use Rattle.cluster_nodes.specs.declared.held.HeldTicket.{HeldTicket}
use Rattle.cluster_nodes.specs.declared.nodes.Node.TheVariants.{Primary, Replica, Down}
use Rattle.cluster_nodes.specs.declared.nodes.NodePlace.{NodePlace}
use Rattle.cluster_nodes.specs.Places.{place_of, unwrapped, disk_at}
use Rattle.cluster_state.specs.Names.{AreNamesShown, NamesShow}
use Rattle.cluster_state.proofs.Frames.{some_then}
use Rattle.cluster_state.specs.Starting.{IsEmptyDir, IsUncommitted, IsOpening, OpensPlace}
use Rattle.cluster_state.specs.Disks.{IsPastPoint, LastShows, StageShows, DiskShows}
use Rattle.cluster_state.specs.Files.{JobShows, PrimaryFiles, ReplicaFiles, NodeFiles, FilesShow}
use Rattle.cluster_nodes.specs.Outs.{want_of, one_like, want_at, jobs_like}
use Rattle.index_primary.specs.declared.states.Out.{Out}
use Rattle.index_primary.specs.States.{state_names}
use Rattle.index_primary.specs.Merges.{merge_names, merge_loose}
use Rattle.nrt_base.specs.declared.numbers.At.{At}
use Rattle.nrt_base.proofs.Plain.{slice_get-push}
use Rattle.replica_node.specs.declared.job.PointJob.{PointJob}
use Rattle.cluster_nodes.specs.declared.nodes.Node.{Node}
use Rattle.cluster_state.specs.State.{IsPointAt, WritesAt, HoldsTickets, PrimaryShows, PlaceShows, Shows}
use Rattle.cluster_state.proofs.PointStands.{opening_stands, opening_writable}

-- an empty directory shows no commit
no_commit : (cells : Cells) (n : ℕ) (infos : Infos) → IsEmptyDir cells → ShowsCommit (reads_of cells) n infos → ⊥
no_commit cells n infos empty shows = none-some shows.bytes (sym (sym shows.newest.there ∙ empty.now (commit_name_of n)))

-- what it gives is the opening point
pub finds_opening : (cells : Cells) (last : Option Commit) (infos : Infos) → IsEmptyDir cells → FindsPoint (reads_of cells) (number_of_last last) infos → (last ≡ None) × (infos ≡ opening_infos)
finds_opening cells None infos empty finds = (refl, finds.1)
finds_opening cells (Some c) infos empty finds = absurd (no_commit cells c.number infos empty finds)

-- each image shows what it shows
pub empty_settled : (cells : Cells) → IsEmptyDir cells → IsSettledOn cells
empty_settled cells empty = record { each = settled }
  where
    settled : (number : Option ℕ) (infos : Infos) → FindsPoint (reads_of cells) number infos → HasFilesOf cells infos → IsSettledAt cells number infos
    settled None infos finds files = record { each = λ image is q commit. empty.images image is q }
    settled (Some n) infos finds files = absurd (no_commit cells n infos empty finds)

slice_get_before : {X : Type 0} (xs ys : List X) (i : ℕ) → i < length xs → slice_get (xs ++ ys) i ≡ slice_get xs i
slice_get_before [] ys i h = absurd (omega arith)
slice_get_before (x ∷ xs) ys zero h = refl
slice_get_before (x ∷ xs) ys (suc i) h = slice_get_before xs ys i (omega arith)

pub nothing_held : (n : ℕ) (tickets : List (Open Shown)) → HoldsTickets [] n tickets []
nothing_held n tickets = record {
  each = λ key number is. absurd (none-some number is);
  out = λ key number is. absurd (none-some number is);
  apart = λ a b number is is'. absurd (none-some number is);
  opened = λ lane t v is. none_open v (t == 0) is;
  searched = λ at v is. absurd is.line;
}
  where
    none_open : {P : Type 0} (v : ℕ) (b : Bool) → IsTicketOf n v (if b then None else None) → P
    none_open v true is = absurd is
    none_open v false is = absurd is

-- ---- the opening point

-- it has no file
no_names : (infos : Infos) (names : List Name) → infos ≡ opening_infos → AreFilesOf infos names → names ≡ []
no_names infos [] is files = refl
no_names infos (name ∷ names) is files =
    let c : Contains (flat_map files_of_segment infos.segs) name = (files.named name).0 (here name names) in
    let none : Contains [] name = subst (λ (i : Infos). Contains (flat_map files_of_segment i.segs) name) is c in
    absurd (omega (arith, none.1))

nothing_named : {R : Type 0} (s : Searchers R) → s.point.names ≡ [] → s.tickets ≡ [] → searcher_names s ≡ []
nothing_named {R} s names tickets = λ i. names i ++ ticket_names (tickets i)

nothing_booked : (book : CommitBook) → book.last ≡ None → book.stage ≡ None → book_names book ≡ []
nothing_booked book last stage = λ i. last_names (last i) ++ flying_names (stage i)

-- nothing stands, and nothing is held
none_shown : (cells : Cells) (tickets : List (Open Shown)) (loose : List ℕ) → ((q : Name) → (cells q).now ≡ None) → tickets ≡ [] → loose ≡ [] → AreNamesShown [] cells tickets loose
none_shown cells tickets loose empty untaken undrawn = record {
  kinds = λ q there. absurd (true≢false (sym there ∙ ap is_some (empty q)));
  tickets = λ o held. let none : Contains [] o = subst (λ (ts : List (Open Shown)). Contains ts o) untaken held in absurd (omega (arith, none.1));
  loose = λ seg held. let none : Contains [] seg = subst (λ (ns : List ℕ). Contains ns seg) undrawn held in absurd (omega (arith, none.1));
}

module _ {D : Type 0} (cells : D → Cells) where
  -- ---- a replica on an empty directory

  pub is_opening : (dir : D) (r : ReplicaParts D) → IsEmptyDir (cells dir) → OpensOn cells dir r → IsOpening cells r
  is_opening dir r empty opens =
      let found = finds_opening (cells dir) r.commits.last r.infos empty opens.point in
      let just = opens.documents [] (opening_stands (reads_of (cells dir)) r.infos found.1) in
      record {
        whole = opens.whole;
        standing = just.standing;
        infos = found.1;
        searched = just.searched;
        stands = just.stands;
        empty = λ q. opens.appears.each q (empty.now q);
        tickets = opens.fresh.tickets;
        commits = record { last = found.0; stage = opens.fresh.stage };
        seen = opens.fresh.seen;
        sourced = opens.sourced (λ q. None) (λ q named. empty.now q);
        job = opens.fresh.job;
        jobs = opens.fresh.jobs;
        copies = ap (λ (c : MergeCopies). c.running) opens.fresh.copies;
      }

  opening_point : (r : ReplicaParts D) → IsOpening cells r → IsPointAt [] 1 r.searchers.point
  opening_point r is = record {
    version = ap (λ (v : Version). v.0) is.whole.point.version ∙ ap (λ (i : Infos). i.version.0) is.infos;
    stands = record { known = omega arith; documents = is.searched };
  }

  -- it is the replica of a number above 1
  pub first_replica : (n : ℕ) (r : ReplicaParts D) (held : Vec HeldTicket Global) → n ≢ 1 → held.items ≡ [] → IsOpening cells r → PlaceShows cells [] n (record { node = Replica r; held = held })
  first_replica n r held other none is = record {
    node_shows = record {
      running = refl;
      other = grind (arith, nat_tests, other);
      whole = is.whole;
      standing = is.standing;
      point = opening_point r is;
      seen = let same : r.seen.0 ≡ 1 = ap (λ (g : Gen). g.0) is.seen ∙ ap (λ (i : Infos). i.generation.0) is.infos in omega (arith, same);
    };
    tickets = subst (λ (rows : List HeldTicket). HoldsTickets [] n r.searchers.tickets rows) (sym none) (nothing_held n r.searchers.tickets);
  }

  -- the opening point, where nothing has happened
  opening_past : (infos : Infos) → infos ≡ opening_infos → IsPastPoint (λ q. None) [] infos
  opening_past infos is = record {
    known = (let one : infos.version.0 ≡ 1 = ap (λ (i : Infos). i.version.0) is in omega (arith, one));
    generation = (let one : infos.generation.0 ≡ 1 = ap (λ (i : Infos). i.generation.0) is in omega (arith, one));
    stands = opening_stands (λ q. None) infos is;
    writable = opening_writable [] infos is;
  }

  -- ---- the first primary, of its parts

  module _ (r : ReplicaParts D) (p : NodeParts D) (is : IsOpening cells r) (same : IsTakenApart r p) where
    infos_are : p.infos ≡ opening_infos
    infos_are = same.infos ∙ is.infos

    pub parts_held : CanSpell p.infos → AreFilesOf p.infos p.searchers.point.names
        → ((docs : List Doc) → StandsFor (reads_of (cells r.dir)) r.infos docs → StandsWith (reads_of (cells p.dir)) p.infos p.segs docs) → IsHeld (reads_of (cells p.dir)) p.infos p.segs p.searchers.point.names
    parts_held spelled files stands = record { spelled = spelled; files = files; docs = []; stands = stands [] is.stands }

    -- no file is counted
    pub parts_undrawn : IsWholeNode (cells p.dir) p.files (searcher_names p.searchers) p.commits → AreFilesOf p.infos p.searchers.point.names → AreUndrawn p.files p.infos [] []
    parts_undrawn node files = record { each = λ q undrawn. node.counts q ∙ λ i. times (named i) q + times (booked i) q }
      where
        named : searcher_names p.searchers ≡ []
        named = nothing_named p.searchers (no_names p.infos p.searchers.point.names infos_are files) (ap (λ (s : Searchers Shown). s.tickets) same.searchers ∙ is.tickets)

        booked : book_names p.commits ≡ []
        booked = nothing_booked p.commits (ap (λ (b : CommitBook). b.last) same.commits ∙ is.commits.last) (ap (λ (b : CommitBook). b.stage) same.commits ∙ is.commits.stage)

    pub parts_numbered : AreNumbered p.infos []
    parts_numbered = empty_numbered p.infos (ap (λ (i : Infos). i.segs) infos_are) (subst (λ (i : Infos). i.generation.0 < 2 ^ 31) (sym infos_are) (omega arith)) (subst (λ (i : Infos). i.counter ≤ 1679616) (sym infos_are) (omega arith))

    -- it is the primary of node 1
    pub first_primary : (q : PrimaryParts D) → IsPrimary cells q → IsOpenedOn p.dir p.searchers p.commits p.infos p.segs q → PrimaryShows cells [] 1 q
    first_primary q whole opened = record {
      running = refl;
      primary = refl;
      whole = whole;
      point = record {
        version = ap (λ (v : Version). v.0) opened.version ∙ ap (λ (i : Infos). i.version.0) infos_are;
        stands = record { known = omega arith; documents = subst (AreSegmentsOf []) (sym (opened.readers ∙ segs_are)) is.searched };
      };
      writer = subst (λ (i : Infos). WritesAt [] i q.segs) (sym (opened.infos_are ∙ infos_are)) (record {
        documents = subst (AreSegmentsOf []) (sym (opened.segs_are ∙ segs_are)) is.searched;
        generation = refl;
        version = refl;
        counter = refl;
        few = omega arith;
        live = λ none. All-nil (λ (r : SegRecord). 0 < r.live);
      });
      waiting = opened.waiting;
      accepted = opened.accepted;
      uncut = λ none. opened.has_cut_over;
      calm = λ none. opened.merges;
      flight = opened.publish;
    }
      where
        segs_are : p.segs ≡ r.searchers.point.readers
        segs_are = same.segs ∙ is.whole.segs

    -- it holds no file
    pub first_files : (q : PrimaryParts D) → IsPrimary cells q → IsOpenedOn p.dir p.searchers p.commits p.infos p.segs q → PrimaryFiles (λ name. None) cells [] (λ s. 0) q
    first_files q whole opened = record {
      held = record { each = λ name lasting some. absurd (none_some (count_of q.files name) (uncounted name) some) };
      unwritten = λ name undrawn. refl;
      point = opening_past q.point_infos (opened.point_infos ∙ infos_are);
      generation = ap (λ (i : Infos). i.generation) (opened.point_infos ∙ sym opened.infos_are);
      outs = λ s. omega arith;
    }
      where
        none_some : (k : ℕ) → k ≡ 0 → 0 < k → ⊥
        none_some k none some = omega (arith, none, some)

        no_point : searcher_names q.searchers ≡ []
        no_point = nothing_named q.searchers (no_names q.point_infos q.searchers.point.names (opened.point_infos ∙ infos_are) whole.searched.files)
            (opened.tickets ∙ (ap (λ (s : Searchers Shown). s.tickets) same.searchers ∙ is.tickets))

        no_writer : q.names ≡ []
        no_writer = no_names q.infos q.names (opened.infos_are ∙ infos_are) whole.writer.files

        no_rest : primary_names q ≡ []
        no_rest = λ i. no_point i ++ (no_writer i ++ (state_names (opened.states i) ++ merge_names (opened.merges i)))

        no_book : book_names q.commits ≡ []
        no_book = nothing_booked q.commits (ap (λ (b : CommitBook). b.last) (opened.commits_are ∙ same.commits) ∙ is.commits.last)
            (ap (λ (b : CommitBook). b.stage) (opened.commits_are ∙ same.commits) ∙ is.commits.stage)

        uncounted : (name : Name) → count_of q.files name ≡ 0
        uncounted name = whole.node.counts name ∙ λ i. times (no_rest i) name + times (no_book i) name

    pub commits_done : {E : Type 0} (result : Result (PrimaryParts D) E) → IfOk result (IsOpenedOn p.dir p.searchers p.commits p.infos p.segs) → IfOk result (λ q. IsUncommitted q.commits)
    commits_done (Ok q) opened = record {
      last = ap (λ (b : CommitBook). b.last) (opened.commits_are ∙ same.commits) ∙ is.commits.last;
      stage = ap (λ (b : CommitBook). b.stage) (opened.commits_are ∙ same.commits) ∙ is.commits.stage;
    }
    commits_done (Err e) opened = tt

    pub files_done : {E : Type 0} (result : Result (PrimaryParts D) E) → IfOk result (IsPrimary cells) → IfOk result (IsOpenedOn p.dir p.searchers p.commits p.infos p.segs)
        → IfOk result (PrimaryFiles (λ name. None) cells [] (λ s. 0))
    files_done (Ok q) whole opened = first_files q whole opened
    files_done (Err e) whole opened = tt

    -- no name stands there
    first_names : NoneAppears (cells r.dir) (cells p.dir) → (q : PrimaryParts D) → IsOpenedOn p.dir p.searchers p.commits p.infos p.segs q → NamesShow cells [] (Primary q)
    first_names appears q opened = none_shown (cells q.dir) q.searchers.tickets (loose_of q)
        (λ name. ap (λ (d : D). (cells d name).now) opened.dir_is ∙ appears.each name (is.empty name)) (opened.tickets ∙ (ap (λ (s : Searchers Shown). s.tickets) same.searchers ∙ is.tickets))
        (λ i. publish_loose (opened.publish i) ++ merge_loose (opened.merges i))

    pub names_done : {E : Type 0} (result : Result (PrimaryParts D) E) → NoneAppears (cells r.dir) (cells p.dir) → IfOk result (IsOpenedOn p.dir p.searchers p.commits p.infos p.segs) → IfOk result (λ q. NamesShow cells [] (Primary q))
    names_done (Ok q) appears opened = first_names appears q opened
    names_done (Err e) appears opened = tt

  opening_names : (r : ReplicaParts D) → IsOpening cells r → NamesShow cells [] (Replica r)
  opening_names r is = none_shown (cells r.dir) r.searchers.tickets [] is.empty is.tickets refl

  -- a replica of the opening has files as at a source where nothing stands, and no job
  pub replica_files : (n : ℕ) (r : ReplicaParts D) → IsOpening cells r → ReplicaFiles (λ q. None) cells [] n r
  replica_files n r is = record {
    sourced = is.sourced;
    job = subst (λ (o : Option PointJob). JobShows (λ q. None) [] n None o) (sym is.job) tt;
    point = opening_past r.infos is.infos;
    flight = λ at flies. absurd (none_at at flies);
  }
    where
      none_at : (at : At) → ◌≡◌ {A = Option At} None (Some at) → ⊥
      none_at at same = absurd (cc)

  -- nothing was committed
  no_commits : (n : ℕ) (book : CommitBook) → IsUncommitted book → DiskShows (λ q. None) cells [] n (record { book = Some book; dir = None })
  no_commits n book none = record {
    book = record {
      last = subst (λ (o : Option Commit). LastShows (λ q. None) [] n o) (sym none.last) refl;
      has = λ has. absurd (true≢false (sym has));
      flight = subst (λ (o : Option Stage). StageShows (λ q. None) [] n None o) (sym none.stage) tt;
    };
    dir = tt;
  }

  pub first_place : (p : PrimaryParts D) (held : Vec HeldTicket Global) → held.items ≡ [] → PrimaryShows cells [] 1 p → PlaceShows cells [] 1 (record { node = Primary p; held = held })
  first_place p held none shows = record {
    node_shows = shows;
    tickets = subst (λ (rows : List HeldTicket). HoldsTickets [] 1 p.searchers.tickets rows) (sym none) (nothing_held 1 p.searchers.tickets);
  }

  pub opens_primary : (n : ℕ) (p : PrimaryParts D) (held : Vec HeldTicket Global) (x : Node D) → n ≡ 1 → x ≡ Primary p → held.items ≡ [] → PrimaryShows cells [] 1 p → PrimaryFiles (λ q. None) cells [] (λ s. 0) p
      → NamesShow cells [] (Primary p) → IsUncommitted p.commits → OpensPlace cells n (record { node = x; held = held })
  opens_primary n p held x one is none shows files named commits =
      subst (λ (y : ℕ × Node D). OpensPlace cells y.0 (record { node = y.1; held = held })) (λ i. (sym one i, sym is i)) (record { shows = first_place p held none shows; files = files; named = named; disk = no_commits 1 p.commits commits; idle = refl; uncopied = refl })

  pub opens_replica : (n : ℕ) (r : ReplicaParts D) (held : Vec HeldTicket Global) (x : Node D) → n ≢ 1 → x ≡ Replica r → held.items ≡ [] → IsOpening cells r → OpensPlace cells n (record { node = x; held = held })
  opens_replica n r held x other is none opening =
      subst (λ (y : Node D). OpensPlace cells n (record { node = y; held = held })) (sym is)
      (record { shows = first_replica n r held other none opening; files = replica_files n r opening; named = opening_names r opening; disk = no_commits n r.commits opening.commits; idle = ap want_of opening.job; uncopied = opening.copies })

  -- ---- all of them

  -- one more node at the end
  pub place_more : (P : ℕ → NodePlace D → Type 0) (places new : List (Option (NodePlace D))) (x : NodePlace D) → new ≡ places ++ Some x ∷ [] → ((n : ℕ) → IsNode (length places) n → IsSomeAnd (place_of places n) (P n))
      → P (length places + 1) x → (n : ℕ) → IsNode (length new) n → IsSomeAnd (place_of new n) (P n)
  place_more P places new x is was mine n node = subst (λ (l : List (Option (NodePlace D))). IsNode (length l) n → IsSomeAnd (place_of l n) (P n)) (sym is) (λ node. more n node) node
    where
      more : (n : ℕ) → IsNode (length (places ++ Some x ∷ [])) n → IsSomeAnd (place_of (places ++ Some x ∷ []) n) (P n)
      more zero node = absurd (let f = node.0 in omega arith)
      more (suc k) node =
          elim (eqb_tells k (length places)) [
            | inl here ↦
                let mine' : P (suc k) x = subst (λ (j : ℕ). P j x) (let h = here.1 in omega (arith, h)) mine in
                subst (λ (o : Option (NodePlace D)). IsSomeAnd o (P (suc k))) (sym (ap unwrapped (ap (slice_get (places ++ Some x ∷ [])) here.1 ∙ slice_get-push places (Some x)))) mine'
            | inr other ↦
                let l : suc k ≤ length (places ++ Some x ∷ []) = node.1 in
                let within : k < length places = let d = other.1 in omega (arith, l, d, length-append places (Some x ∷ [])) in
                subst (λ (o : Option (NodePlace D)). IsSomeAnd o (P (suc k))) (sym (ap unwrapped (slice_get_before places (Some x ∷ []) k within))) (was (suc k) (omega arith, omega (arith, within)))
          ]

  -- no node of the first ones has a job
  pub jobs_none : (places : List (Option (NodePlace D))) (size k : ℕ) (s : Out) → k ≤ size → ((n : ℕ) → IsNode size n → IsSomeAnd (place_of places n) (OpensPlace cells n)) → jobs_like places s k ≡ 0
  jobs_none places size zero s low each = refl
  jobs_none places size (suc k) s low each = λ i. jobs_none places size k s (omega (arith, low)) each i + one_like s (idle (place_of places (suc k)) (each (suc k) (omega arith, low)) i)
    where
      idle : (o : Option (NodePlace D)) → IsSomeAnd o (OpensPlace cells (suc k)) → want_at o ≡ None
      idle None is = absurd is
      idle (Some place) is = is.idle

  -- the files of all nodes are as at a source where nothing stands
  pub first_sources : (log : Log) (size : ℕ) (places : List (Option (NodePlace D))) → log ≡ [] → ((n : ℕ) → IsNode size n → IsSomeAnd (place_of places n) (OpensPlace cells n)) → FilesShow cells log size places
  first_sources log size places none each = subst (λ (l : Log). FilesShow cells l size places) (sym none) (record {
    source = λ q. None;
    drawn = record { drawn = λ q bytes lasting is. absurd (nothing_means bytes is); live = λ r live_gen bytes small fits is. absurd (nothing_means bytes is) };
    each = λ n node. at (place_of places n) n (each n node);
    names = λ n node. some_then (place_of places n) (each n node) (λ place opens. opens.named);
    disks = λ n node. disk (place_of places n) n (each n node);
    carried = λ q bytes out. absurd (nothing_means bytes out);
  })
    where
      nothing_means : (bytes : List ℕ) → ◌≡◌ {A = Option (List ℕ)} None (Some bytes) → ⊥
      nothing_means bytes same = absurd (cc)

      disk : (o : Option (NodePlace D)) (n : ℕ) → IsSomeAnd o (OpensPlace cells n) → IsSomeAnd (disk_at o) (DiskShows (λ q. None) cells [] n)
      disk None n is = absurd is
      disk (Some place) n is = is.disk

      node_files : (n : ℕ) (x : Node D) → NodeFiles (λ q. None) cells [] (λ s. 0) n x → NodeFiles (λ q. None) cells [] (λ s. jobs_like places s size) n x
      node_files n (Primary p) files = record {
        held = files.held;
        unwritten = files.unwritten;
        point = files.point;
        generation = files.generation;
        outs = λ s. let none' = jobs_none places size size s (omega arith) each in omega (arith, none');
      }
      node_files n (Replica r) files = files
      node_files n (Down d) files = files

      at : (o : Option (NodePlace D)) (n : ℕ) → IsSomeAnd o (OpensPlace cells n) → IsSomeAnd o (λ place. NodeFiles (λ q. None) cells [] (λ s. jobs_like places s size) n place.node)
      at None n is = absurd is
      at (Some place) n is = node_files n place.node is.files

  -- each is in its place
  pub first_shows : (log : Log) (size : ℕ) (places : List (Option (NodePlace D))) → log ≡ [] → 1 ≤ size → length places ≡ size
      → ((n : ℕ) → IsNode size n → IsSomeAnd (place_of places n) (PlaceShows cells [] n)) → Shows cells log size places
  first_shows log size places none some count each = subst (λ (l : Log). Shows cells l size places) (sym none) (record { some = some; count = count; each = each; handed = λ at is. refl })
