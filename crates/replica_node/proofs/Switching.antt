-- A job that ends, or is refused.
use Rattle.replica_node.proofs.Written.{written_apart, now_plain, others_plain, refused_node}
use Rattle.replica_node.proofs.Along.{point_along}
use Rattle.std.proofs.Common.{◌≡◌, ℕ, ◌+◌, ◌<◌, ◌≤◌, true, List, [], ◌++◌, Option, Some, None, refl, sym, ap, subst, ◌∙◌, arith}
use Rattle.std.specs.Prelude.{Contains, IfSome}
use Rattle.std.specs.List.{flat_map}
use Rattle.nrt_base.specs.declared.doc.Doc.{Doc}
use Rattle.disk_model.specs.Disk.{Name, Cells, is_among, reads_of}
use Rattle.file_deleter.specs.Holdings.{Holdings, count_of, times, AreCounted}
use Rattle.file_deleter.specs.Moves.{LetsGo, MovesCounts}
use Rattle.file_deleter.proofs.NameLemmas.{times-append, among_times}
use Rattle.segment_infos.specs.declared.infos.Infos.{Infos}
use Rattle.segment_infos.specs.Files.{files_of_segment}
use Rattle.seg_reader.specs.Shown.{Shown}
use Rattle.seg_reader.specs.Stands.{StandsFor}
use Rattle.commit_steps.specs.declared.stage.CommitBook.{CommitBook}
use Rattle.commit_steps.specs.Book.{book_names}
use Rattle.searcher_switch.specs.Node.{IsWholeNode}
use Rattle.searcher_switch.proofs.Carry.{node_moves, node_kept, node_same_names, nothing_written}
use Rattle.searcher_switch.proofs.Standing.{segments_along, stands_along}
use Rattle.searcher_switch.specs.declared.open.SearchPoint.{SearchPoint}
use Rattle.searcher_switch.specs.declared.searchers.Searchers.{Searchers}
use Rattle.searcher_switch.specs.Tickets.{ticket_names}
use Rattle.searcher_switch.specs.Searching.{searcher_names}
use Rattle.copy_job.specs.declared.part.JobPart.{JobPart}
use Rattle.copy_job.specs.Parts.{written_names, placed_to, own_names, ArePlaceable}
use Rattle.copy_job.specs.Jobs.{Job, job_names, reads_under, IsJob}
use Rattle.copy_state.specs.States.{meta_names}
use Rattle.searcher_switch.specs.Standing.{StandsForSome}
use Rattle.replica_node.specs.declared.job.PointJob.{PointJob}
use Rattle.replica_node.specs.declared.advancing.NewPoint.{NewPoint}
use Rattle.copy_state.specs.declared.state.CopyState.{CopyState}
use Rattle.file_names.specs.Names.{temp_name_of}
use Rattle.searcher_switch.specs.declared.open.Open.{Open}
use Rattle.replica_node.specs.Waiting.{HasNoTemporary, IsWaiting}
use Rattle.replica_node.specs.Replica.{IsPointState, names_of_job, IsPointOf, IsJobAbove}
use Rattle.replica_node.proofs.Temporary.{files_no_temporary}
use Rattle.replica_node.proofs.Waiting.{can_place, waits_placed}
use Rattle.replica_node.specs.Advancing.{IsJobReady, TakesInHand}
use Rattle.replica_node.proofs.Named.{file_counted}
use Rattle.replica_opening.proofs.Openings.{plain_none}

-- the newer point is in hand
module _ (a : Cells) (h0 : Holdings) (others : List Name) (j : Job) (infos : Infos) (book : CommitBook) (node : IsWholeNode a h0 (others ++ job_names j) book) (ready : IsJobReady a h0 j infos)
    (now : Job) (n : ℕ) (parts : now.parts ≡ placed_to n j.parts) (reused : now.reused ≡ j.reused) where
  pub held_node : (b : Cells) (h1 : Holdings) (olds dropped : List Name) (point : NewPoint) → TakesInHand j now infos olds dropped point h0 h1 a b → IsWholeNode b h1 (others ++ (point.names ++ job_names now)) book
  held_node b h1 olds dropped point adv =
      node_moves a b h0 h1 (others ++ job_names j) (others ++ (point.names ++ job_names now)) (job_names j) (point.names ++ job_names now) book (written_names j.parts) node (written_apart a h0 others j book node ready.can_place) adv.moves
      (λ q. omega (arith, times-append others (job_names j) q, times-append others (point.names ++ job_names now) q))
      (record {
        each = λ q named. omega (
          arith,
          now_plain a h0 others j book node ready.can_place now n parts reused q named,
          others_plain a h0 others j book node ready.can_place now n parts reused q named,
          plain_none infos point.names adv.names q named,
          times-append others (point.names ++ job_names now) q,
          times-append point.names (job_names now) q,
        );
      })

-- the newer point is searched, and what the older one, the job and the pending files of the point held is given back
module _ (b c : Cells) (h1 h2 : Holdings) (olds tickets left dropped names gone : List Name) (now : Job) (book : CommitBook) (node : IsWholeNode b h1 ((olds ++ tickets) ++ (names ++ job_names now)) book)
    (split : (q : Name) → times tickets q ≡ times left q + times dropped q) (gone_is : (q : Name) → times gone q ≡ times olds q + times (job_names now) q + times dropped q) where
  pub gone_counted : AreCounted gone h1
  gone_counted = record { each = λ q. omega (arith, gone_is q, split q, node.counts q, times-append (olds ++ tickets) (names ++ job_names now) q, times-append olds tickets q, times-append names (job_names now) q) }

  module _ (lets_go : LetsGo gone h1 h2 b c) where
    pub switched_node : IsWholeNode c h2 (names ++ left) book
    switched_node =
        node_kept b c h1 h2 ((olds ++ tickets) ++ (names ++ job_names now)) (names ++ left) book [] node (nothing_written book) lets_go.keeps
        (λ q. omega (arith, gone_is q, split q, lets_go.counts q, node.counts q, times-append (olds ++ tickets) (names ++ job_names now) q, times-append olds tickets q, times-append names (job_names now) q, times-append names left q))
        (record { each = λ q named. omega (arith, split q, node.plain.each q named, times-append (olds ++ tickets) (names ++ job_names now) q, times-append olds tickets q, times-append names (job_names now) q, times-append names left q) })

    pub new_reads : (q : Name) → 0 < times names q → (c q).now ≡ (b q).now
    new_reads q some =
        lets_go.keeps.reads q
        (omega (arith, some, node.counts q, times-append (olds ++ tickets) (names ++ job_names now) q, times-append names (job_names now) q))
        (omega (arith, some, switched_node.counts q, times-append names left q))

-- ---- a job of which nothing is missing
module _ (a : Cells) (h0 : Holdings) (version : ℕ) (job : Option PointJob) (j : PointJob) (held : job ≡ Some j) (above_some : IfSome job (IsJobAbove version)) (whole_some : IfSome job (λ k. k.copy.missing ≡ []))
    (waits_some : IfSome job (λ k. IsWaiting h0 k.copy)) (others : List Name) (counts : (q : Name) → count_of h0 q ≡ times others q + times (names_of_job job) q) (standing_some : IfSome job (λ k. StandsForSome (reads_under k.copy.parts (reads_of a)) k.infos)) where
  above_j : IsJobAbove version j
  above_j = subst (λ (o : Option PointJob). IfSome o (IsJobAbove version)) held above_some

  complete_j : (q : Name) → Contains (flat_map files_of_segment j.infos.segs) q → 0 < times (own_names j.copy.parts) q + times j.copy.reused q
  complete_j q named =
      let none : times j.copy.missing q ≡ 0 = ap (λ (ns : List Name). times ns q) (subst (λ (o : Option PointJob). IfSome o (λ k. k.copy.missing ≡ [])) held whole_some) in
      omega (arith, none, above_j.copy.each q, file_counted j.infos (meta_names j.copy.want.files) above_j.state.files q named)

  waits_j : IsWaiting h0 j.copy
  waits_j = subst (λ (o : Option PointJob). IfSome o (λ k. IsWaiting h0 k.copy)) held waits_some

  missing_j : j.copy.missing ≡ []
  missing_j = subst (λ (o : Option PointJob). IfSome o (λ k. k.copy.missing ≡ [])) held whole_some

  -- after a refusal the job waits on
  pub waits_refused : (h1 : Holdings) (now : Job) → now ≡ record j.copy { parts = now.parts } → (n : ℕ) × (now.parts ≡ placed_to n j.copy.parts) → ArePlaceable h1 now.parts → IsWaiting h1 now
  waits_refused h1 now same parts able =
      waits_placed j.infos j.copy above_j.copy above_j.state.files h0 waits_j h1 parts.0 now (same ∙ ap (λ (ps : List JobPart). record j.copy { parts = ps }) parts.1) able missing_j

  pub above_refused : (now : Job) → now ≡ record j.copy { parts = now.parts } → IsJob now → IsJobAbove version (record { copy = now; infos = j.infos; stopped = true })
  above_refused now same is_job = record {
    copy = is_job;
    state = subst (λ (s : CopyState). IsPointState s j.infos) (sym (ap (λ (x : Job). x.want) same)) above_j.state;
    above = above_j.above;
  }

  pub above_now : IsJobAbove version j
  above_now = above_j

  pub ready_j : IsJobReady a h0 j.copy j.infos
  ready_j = record {
    spelled = above_j.state.spelled.spelled.can;
    can_place = can_place j.infos j.copy above_j.copy above_j.state.files h0 waits_j others (λ q. counts q ∙ ap (λ (o : Option PointJob). times others q + times (names_of_job o) q) held);
    complete = complete_j;
    standing = subst (λ (o : Option PointJob). IfSome o (λ k. StandsForSome (reads_under k.copy.parts (reads_of a)) k.infos)) held standing_some;
  }

-- ---- the whole replica, before and after
module _ (a b : Cells) (h0 h1 : Holdings) (s : Searchers Shown) (more : List Name) (job : Option PointJob) (j : PointJob) (now : Job) (book : CommitBook) (infos : Infos) (held : job ≡ Some j)
    (node : IsWholeNode a h0 (searcher_names s ++ (names_of_job job ++ more)) book) (ready : IsJobReady a h0 j.copy j.infos) (same : now ≡ record j.copy { parts = now.parts }) (parts : (n : ℕ) × (now.parts ≡ placed_to n j.copy.parts)) where
  holders : (names : List Name) (q : Name) → times ((searcher_names s ++ more) ++ names) q ≡ times s.point.names q + (times (ticket_names s.tickets) q + (times more q + times names q))
  holders names q = omega (arith, times-append (searcher_names s ++ more) names q, times-append (searcher_names s) more q, times-append s.point.names (ticket_names s.tickets) q)

  node_j : IsWholeNode a h0 ((searcher_names s ++ more) ++ job_names j.copy) book
  node_j = node_same_names a h0 (searcher_names s ++ (names_of_job job ++ more)) ((searcher_names s ++ more) ++ job_names j.copy) book node (λ q.
      let names : times (names_of_job job) q ≡ times (job_names j.copy) q = ap (λ (o : Option PointJob). times (names_of_job o) q) held in
      omega (arith, names, holders (job_names j.copy) q, times-append (searcher_names s) (names_of_job job ++ more) q, times-append (names_of_job job) more q, times-append s.point.names (ticket_names s.tickets) q))

  reused_j : now.reused ≡ j.copy.reused
  reused_j = ap (λ (x : Job). x.reused) same

  pub counted_j : (q : Name) → times s.point.names q + times (job_names j.copy) q ≤ count_of h0 q
  counted_j q = omega (arith, node_j.counts q, holders (job_names j.copy) q)

  node_moved : MovesCounts (written_names j.copy.parts) (job_names j.copy) (job_names now) h0 h1 a b → IsWholeNode b h1 ((searcher_names s ++ more) ++ job_names now) book
  node_moved moves = refused_node a h0 (searcher_names s ++ more) j.copy book node_j ready.can_place now parts.0 parts.1 reused_j b h1 moves

  pub node_refused : MovesCounts (written_names j.copy.parts) (job_names j.copy) (job_names now) h0 h1 a b → IsWholeNode b h1 (searcher_names s ++ (job_names now ++ more)) book
  node_refused moves = node_same_names b h1 ((searcher_names s ++ more) ++ job_names now) (searcher_names s ++ (job_names now ++ more)) book (node_moved moves)
      (λ q. omega (arith, holders (job_names now) q, times-append (searcher_names s) (job_names now ++ more) q, times-append (job_names now) more q, times-append s.point.names (ticket_names s.tickets) q))

  pub point_refused : MovesCounts (written_names j.copy.parts) (job_names j.copy) (job_names now) h0 h1 a b → IsPointOf (reads_of a) infos s.point → IsPointOf (reads_of b) infos s.point
  point_refused moves is = point_along a b infos s.point is (λ q some. moves.keeps.reads q (omega (arith, some, node_j.counts q, holders (job_names j.copy) q)) (omega (arith, some, (node_moved moves).counts q, holders (job_names now) q)))

  module _ (left dropped : List Name) (split : (q : Name) → times more q ≡ times left q + times dropped q) (point : NewPoint) (adv : TakesInHand j.copy now j.infos s.point.names dropped point h0 h1 a b) (slice : List Name) (slice_is : slice ≡ point.gone) where
    node_held : IsWholeNode b h1 ((s.point.names ++ (ticket_names s.tickets ++ more)) ++ (point.names ++ job_names now)) book
    node_held = node_same_names b h1 ((searcher_names s ++ more) ++ (point.names ++ job_names now)) ((s.point.names ++ (ticket_names s.tickets ++ more)) ++ (point.names ++ job_names now)) book
        (held_node a h0 (searcher_names s ++ more) j.copy j.infos book node_j ready now parts.0 parts.1 reused_j b h1 s.point.names dropped point adv)
        (λ q. omega (arith, holders (point.names ++ job_names now) q, times-append (s.point.names ++ (ticket_names s.tickets ++ more)) (point.names ++ job_names now) q, times-append s.point.names (ticket_names s.tickets ++ more) q, times-append (ticket_names s.tickets) more q))

    rest_split : (q : Name) → times (ticket_names s.tickets ++ more) q ≡ times (ticket_names s.tickets ++ left) q + times dropped q
    rest_split q = omega (arith, split q, times-append (ticket_names s.tickets) more q, times-append (ticket_names s.tickets) left q)

    slice_gone : (q : Name) → times slice q ≡ times s.point.names q + times (job_names now) q + times dropped q
    slice_gone q = ap (λ (ns : List Name). times ns q) slice_is ∙ adv.gone q

    pub slice_counted : AreCounted slice h1
    slice_counted = gone_counted b b h1 h1 s.point.names (ticket_names s.tickets ++ more) (ticket_names s.tickets ++ left) dropped point.names slice now book node_held rest_split slice_gone

    module _ (c : Cells) (h2 : Holdings) (t : Searchers Shown) (last : Option PointJob) (lets_go : LetsGo slice h1 h2 b c)
        (searched : t.point ≡ record { version = j.infos.version; names = point.names; readers = point.segs }) (tickets : t.tickets ≡ s.tickets) (ended : last ≡ None) where
      switched : IsWholeNode c h2 (point.names ++ (ticket_names s.tickets ++ left)) book
      switched = switched_node b c h1 h2 s.point.names (ticket_names s.tickets ++ more) (ticket_names s.tickets ++ left) dropped point.names slice now book node_held rest_split slice_gone lets_go

      names_are : (q : Name) → times t.point.names q ≡ times point.names q
      names_are q = ap (λ (x : SearchPoint Shown). times x.names q) searched

      tickets_are : (q : Name) → times (ticket_names t.tickets) q ≡ times (ticket_names s.tickets) q
      tickets_are q = ap (λ (ts : List (Open Shown)). times (ticket_names ts) q) tickets

      pub node_finished : IsWholeNode c h2 (searcher_names t ++ (names_of_job last ++ left)) book
      node_finished = node_same_names c h2 (point.names ++ (ticket_names s.tickets ++ left)) (searcher_names t ++ (names_of_job last ++ left)) book switched (λ q.
          let none : times (names_of_job last) q ≡ 0 = ap (λ (o : Option PointJob). times (names_of_job o) q) ended in
          omega (
            arith,
            none,
            names_are q,
            tickets_are q,
            times-append point.names (ticket_names s.tickets ++ left) q,
            times-append (ticket_names s.tickets) left q,
            times-append (searcher_names t) (names_of_job last ++ left) q,
            times-append (names_of_job last) left q,
            times-append t.point.names (ticket_names t.tickets) q,
          ))

      read_on : (q : Name) → Contains (flat_map files_of_segment j.infos.segs) q → (c q).now ≡ (b q).now
      read_on q named = new_reads b c h1 h2 s.point.names (ticket_names s.tickets ++ more) (ticket_names s.tickets ++ left) dropped point.names slice now book node_held rest_split slice_gone lets_go q (file_counted j.infos point.names adv.names q named)

      pub point_finished : IsPointOf (reads_of c) j.infos t.point
      point_finished = subst (λ (p : SearchPoint Shown). IsPointOf (reads_of c) j.infos p) (sym searched) (record {
        version = refl;
        names = adv.names;
        readers = segments_along (reads_of b) (reads_of c) j.infos.segs point.segs read_on adv.readers;
      })

      -- the files of the point read what the job had of them
      pub reads_finished : (q : Name) → Contains (flat_map files_of_segment j.infos.segs) q → (c q).now ≡ reads_under j.copy.parts (reads_of a) q
      reads_finished q named = read_on q named ∙ adv.reads q named

      pub stands_finished : IfSome job (λ k. (docs : List Doc) → StandsFor (reads_under k.copy.parts (reads_of a)) k.infos docs → StandsFor (reads_of c) j.infos docs)
      stands_finished = subst (λ (o : Option PointJob). IfSome o (λ k. (docs : List Doc) → StandsFor (reads_under k.copy.parts (reads_of a)) k.infos docs → StandsFor (reads_of c) j.infos docs)) (sym held)
          (λ docs h. stands_along (reads_under j.copy.parts (reads_of a)) (reads_of c) j.infos docs reads_finished h)

      -- no temporary file is searched
      pub lasting_finished : HasNoTemporary (searcher_names s) → HasNoTemporary (searcher_names t)
      lasting_finished was = record {
        each = λ name k.
            let q : Name = temp_name_of name k in
            omega (arith, names_are q, tickets_are q, (files_no_temporary j.infos point.names adv.names).each name k, was.each name k, times-append t.point.names (ticket_names t.tickets) q, times-append s.point.names (ticket_names s.tickets) q);
      }

      -- what the commits hold reads the same
      pub book_reads : (q : Name) → is_among (book_names book) q ≡ true → (c q).now ≡ (a q).now
      book_reads q there =
          let some : 0 < times (book_names book) q = among_times (book_names book) q there in
          lets_go.keeps.reads q (omega (arith, some, node_held.counts q)) (omega (arith, some, node_finished.counts q)) ∙ adv.moves.keeps.reads q (omega (arith, some, node_j.counts q)) (omega (arith, some, node_held.counts q))
