-- A replica that was just opened.
use Rattle.std.proofs.Common.{◌≡◌, ◌⊎◌, ℕ, zero, suc, ◌+◌, ◌<◌, inl, inr, is_some, Bool, true, false, List, [], ◌∷◌, ◌++◌, Option, Some, None, cond, refl, sym, ap, subst, ◌∙◌, arith, true≢false}
use Rattle.std.specs.Prelude.{Contains}
use Rattle.std.specs.List.{flat_map}
use Rattle.nrt_base.specs.declared.numbers.Gen.{Gen}
use Rattle.file_deleter.specs.Holdings.{count_of, times, IsThere}
use Rattle.file_deleter.proofs.NameLemmas.{times-append, times_one, among_times}
use Rattle.file_names.specs.Names.{is_commit_name, commit_number}
use Rattle.disk_model.specs.Disk.{same, is_among, Image, Name, Content, Cells, reads_of}
use Rattle.disk_model.proofs.CellLemmas.{same_true}
use Rattle.segment_infos.specs.Files.{files_of_segment, AreFilesOf}
use Rattle.seg_reader.specs.Shown.{Shown}
use Rattle.searcher_switch.specs.Node.{IsWholeNode}
use Rattle.searcher_switch.proofs.Carry.{node_same_names}
use Rattle.searcher_switch.specs.declared.open.Open.{Open}
use Rattle.searcher_switch.specs.declared.searchers.Searchers.{Searchers}
use Rattle.searcher_switch.specs.Tickets.{ticket_names}
use Rattle.searcher_switch.specs.Searching.{searcher_names}
use Rattle.replica_opening.specs.Known.{IsLasting}
use Rattle.replica_opening.specs.Opening.{FindsPoint, number_of_last}
use Rattle.replica_opening.specs.declared.opening.Opened.{Opened}
use Rattle.replica_opening.specs.Opened.{IsNodeOpened, IsHandedBack}
use Rattle.replica_node.specs.declared.merges.MergeCopies.{MergeCopies}
use Rattle.replica_node.specs.declared.parts.ReplicaParts.{ReplicaParts}
use Rattle.replica_node.specs.Merges.{no_copies}
use Rattle.replica_node.specs.Sources.{IsSourced}
use Rattle.replica_node.proofs.Named.{among_file, some_among}
use Rattle.commit_steps.proofs.Safe.{own_is, number_of_own}
use Rattle.replica_node.specs.Waiting.{HasNoTemporary}
use Rattle.replica_node.specs.Replica.{IsWholeReplica}
use Rattle.replica_node.proofs.Temporary.{joins, files_no_temporary}
use Rattle.std.specs.Prelude.{IfSome, IsSomeAnd}
use Rattle.std.proofs.lemmas.Option.{same_Some, none-some}
use Rattle.searcher_switch.specs.Appearing.{NoneAppears}
use Rattle.searcher_switch.proofs.Appearing.{there_or}
use Rattle.nrt_base.specs.declared.doc.Doc.{Doc}
use Rattle.seg_reader.specs.Stands.{StandsFor}
use Rattle.replica_node.specs.Starting.{HasJustItsFiles, SearchesJust, OpensOn}
use Rattle.replica_node.proofs.Documents.{readers_search, stands_back}
use Rattle.segment_infos.specs.declared.infos.Infos.{Infos}
use Rattle.commit_steps.specs.declared.states.Commit.{Commit}
use Rattle.commit_steps.specs.declared.stage.Stage.{Stage}
use Rattle.commit_steps.specs.declared.stage.CommitBook.{CommitBook}
use Rattle.commit_steps.specs.Flights.{IsCommit, own_name}
use Rattle.commit_steps.specs.Book.{commit_of, last_names, flying_names, book_names}
use Rattle.searcher_switch.specs.Standing.{StandsForSome, IsStanding}

last_stands : (reads : Name → Content) (infos : Infos) (last : Option Commit) → IfSome last (λ c. IsCommit c × (c.infos ≡ infos)) → StandsForSome reads infos → IfSome last (λ c. StandsForSome reads c.infos)
last_stands reads infos None is stands = tt
last_stands reads infos (Some c) is stands = subst (λ (i : Infos). StandsForSome reads i) (sym is.1) stands

-- the commit that was found is of the point's documents
book_stands : (reads : Name → Content) (infos : Infos) (book : CommitBook) → IfSome book.last (λ c. IsCommit c × (c.infos ≡ infos)) → book.stage ≡ None → StandsForSome reads infos → IsStanding reads book
book_stands reads infos book last none stands = record {
  last = last_stands reads infos book.last last stands;
  flight = subst (λ (o : Option Stage). IfSome o (λ s. StandsForSome reads (commit_of s).infos)) (sym none) tt;
}

-- the name is that of the last commit
abbrev IsOfLast : Option Commit → Name → Type 0
IsOfLast last q = (c : Commit) × (last ≡ Some c) × IsCommit c × (own_name c ≡ q)

-- ---- what an opened node holds
-- a file of a segment that is held is the point's
module _ (cells : Cells) (o : Opened) (node : IsWholeNode cells o.files (searcher_names o.searchers) o.commits) (is : IsNodeOpened (reads_of cells) o) where
  point_file : (q : Name) → 0 < times o.searchers.point.names q → Contains (flat_map files_of_segment o.infos.segs) q
  point_file q some = among_file o.infos o.searchers.point.names is.names q (some_among o.searchers.point.names q some)

  commit_file : (last : Option Commit) → IfSome last (λ c. IsCommit c × (c.infos ≡ o.infos)) → (q : Name) → IsLasting q → 0 < times (last_names last) q → Contains (flat_map files_of_segment o.infos.segs) q
  commit_file None commit q lasting some = absurd (let none : times [] q ≡ 0 = refl in omega (arith, some, none))
  commit_file (Some c) commit q lasting some = by (times c.files q) refl
    where
      all : times c.names q ≡ times c.files q + times (own_name c ∷ []) q
      all = ap (λ (ns : List Name). times ns q) commit.0.names ∙ times-append c.files (own_name c ∷ []) q

      own : (b : Bool) → same (own_name c) q ≡ b → times (own_name c ∷ []) q ≡ 0
      own true e = absurd (true≢false (sym (own_is c commit.0) ∙ ap is_commit_name (same_true (own_name c) q e) ∙ lasting.commit))
      own false e = times_one (own_name c) q ∙ ap (λ b. cond b 1 0) e

      by : (n : ℕ) → times c.files q ≡ n → Contains (flat_map files_of_segment o.infos.segs) q
      by zero e = absurd (omega (arith, e, some, all, own (same (own_name c) q) refl))
      by (suc n) e = subst (λ (i : Infos). Contains (flat_map files_of_segment i.segs) q) commit.1 (among_file c.infos c.files commit.0.files q (some_among c.files q (omega (arith, e))))

  file_opened : (q : Name) → IsLasting q → 0 < count_of o.files q → Contains (flat_map files_of_segment o.infos.segs) q
  file_opened q lasting some = by (times o.searchers.point.names q) refl
    where
      tickets : times (ticket_names o.searchers.tickets) q ≡ 0
      tickets = ap (λ (ts : List (Open Shown)). times (ticket_names ts) q) is.tickets

      flying : times (flying_names o.commits.stage) q ≡ 0
      flying = ap (λ (s : Option Stage). times (flying_names s) q) is.none

      by : (n : ℕ) → times o.searchers.point.names q ≡ n → Contains (flat_map files_of_segment o.infos.segs) q
      by (suc n) e = point_file q (omega (arith, e))
      by zero e = commit_file o.commits.last is.last q lasting
          (omega (arith, e, some, tickets, flying, node.counts q, times-append o.searchers.point.names (ticket_names o.searchers.tickets) q, times-append (last_names o.commits.last) (flying_names o.commits.stage) q))

  -- each name that stands is that of a file of the point, or of the last commit
  commit_name : (last : Option Commit) → IfSome last (λ c. IsCommit c × (c.infos ≡ o.infos)) → (q : Name) → 0 < times (last_names last) q → Contains (flat_map files_of_segment o.infos.segs) q ⊎ IsOfLast last q
  commit_name None commit q some = absurd (let none : times [] q ≡ 0 = refl in omega (arith, some, none))
  commit_name (Some c) commit q some = by (times c.files q) refl
    where
      all : times c.names q ≡ times c.files q + times (own_name c ∷ []) q
      all = ap (λ (ns : List Name). times ns q) commit.0.names ∙ times-append c.files (own_name c ∷ []) q

      own : (b : Bool) → same (own_name c) q ≡ b → 0 < times (own_name c ∷ []) q → own_name c ≡ q
      own true e one = same_true (own_name c) q e
      own false e one = let none : times (own_name c ∷ []) q ≡ 0 = times_one (own_name c) q ∙ ap (λ b. cond b 1 0) e in absurd (omega (arith, one, none))

      by : (n : ℕ) → times c.files q ≡ n → Contains (flat_map files_of_segment o.infos.segs) q ⊎ IsOfLast (Some c) q
      by zero e = inr (c, refl, commit.0, own (same (own_name c) q) refl (omega (arith, e, some, all)))
      by (suc n) e = inl (subst (λ (i : Infos). Contains (flat_map files_of_segment i.segs) q) commit.1 (among_file c.infos c.files commit.0.files q (some_among c.files q (omega (arith, e)))))

  pub name_opened : ((q : Name) → is_some (cells q).now ≡ is_among (searcher_names o.searchers ++ book_names o.commits) q) → (q : Name) → IsThere cells q
      → Contains (flat_map files_of_segment o.infos.segs) q ⊎ IsOfLast o.commits.last q
  name_opened listed q there = by (times o.searchers.point.names q) refl
    where
      some : 0 < times (searcher_names o.searchers ++ book_names o.commits) q
      some = among_times (searcher_names o.searchers ++ book_names o.commits) q (sym (listed q) ∙ there)

      tickets : times (ticket_names o.searchers.tickets) q ≡ 0
      tickets = ap (λ (ts : List (Open Shown)). times (ticket_names ts) q) is.tickets

      flying : times (flying_names o.commits.stage) q ≡ 0
      flying = ap (λ (s : Option Stage). times (flying_names s) q) is.none

      by : (n : ℕ) → times o.searchers.point.names q ≡ n → Contains (flat_map files_of_segment o.infos.segs) q ⊎ IsOfLast o.commits.last q
      by (suc n) e = inl (point_file q (omega (arith, e)))
      by zero e = commit_name o.commits.last is.last q
          (omega (arith, e, some, tickets, flying, times-append (searcher_names o.searchers) (book_names o.commits) q, times-append o.searchers.point.names (ticket_names o.searchers.tickets) q, times-append (last_names o.commits.last) (flying_names o.commits.stage) q))

-- ---- the replica
just_names : (s : Searchers Shown) → s.tickets ≡ [] → (infos : Infos) → AreFilesOf infos s.point.names → HasNoTemporary (searcher_names s)
just_names s none infos are =
    joins s.point.names (ticket_names s.tickets) (files_no_temporary infos s.point.names are) (subst (λ (ts : List (Open Shown)). HasNoTemporary (ticket_names ts)) (sym none) (record { each = λ name job. refl }))

-- where the last commit was found, its name stood
last_stood : (before : Image) (last : Option Commit) (infos : Infos) (q : Name) → FindsPoint before (number_of_last last) infos → IsOfLast last q → before q ≡ None → ⊥
last_stood before None infos q finds of none = none-some of.0 of.1
last_stood before (Some d) infos q finds of none = stands (same_Some d of.0 of.1)
  where
    stands : d ≡ of.0 → ⊥
    stands e =
        let name : own_name d ≡ q = ap own_name e ∙ of.3 in
        let there : before q ≡ Some finds.bytes = ap before (sym name) ∙ finds.newest.there in
        cc

module _ {D : Type 0} (cells : D → Cells) (dir : D) (o : Opened) (node : IsWholeNode (cells dir) o.files (searcher_names o.searchers) o.commits) (is : IsNodeOpened (reads_of (cells dir)) o) (seen : Gen) where
  just_opened : IsWholeReplica cells (record { dir = dir; files = o.files; searchers = o.searchers; commits = o.commits; infos = o.infos; segs = o.segs; seen = seen; jobs = 0; job = None; copies = no_copies; known = o.known })
  just_opened = record {
    node = node_same_names (cells dir) o.files (searcher_names o.searchers) (searcher_names o.searchers ++ ([] ++ ([] ++ []))) o.commits node (λ q. let none : times [] q ≡ 0 = refl in omega (arith, none, times-append (searcher_names o.searchers) [] q));
    point = record { version = is.version; names = is.names; readers = is.readers };
    spelled = is.spelled;
    segs = is.segs;
    known = record { each = λ q lasting some. is.known.each q (file_opened (cells dir) o node is q lasting some) };
    lasting = just_names o.searchers is.tickets o.infos is.names;
    newer = tt;
    waits = tt;
    copied = tt;
    few = grind (arith);
    merges = record { each = tt; apart = tt; beside_job = tt; job_given = tt; pending = record { each = λ name job. refl }; unexpected = refl };
  }

  just_sourced : (before : Cells) (number : Option ℕ) → IsHandedBack before (cells dir) → FindsPoint (reads_of before) number o.infos → (source : Name → Content)
      → ((q : Name) → Contains (flat_map files_of_segment o.infos.segs) q → (before q).now ≡ source q)
      → IsSourced source cells (record { dir = dir; files = o.files; searchers = o.searchers; commits = o.commits; infos = o.infos; segs = o.segs; seen = seen; jobs = 0; job = None; copies = no_copies; known = o.known })
  just_sourced before number back finds source reads = record {
    held = record { each = λ q lasting some. let named = file_opened (cells dir) o node is q lasting some in back.files number o.infos finds q named ∙ reads q named };
    job = tt;
    merges = tt;
  }

  module _ (listed : (q : Name) → is_some (cells dir q).now ≡ is_among (searcher_names o.searchers ++ book_names o.commits) q) where
    last_name : (last : Option Commit) (q : Name) → IsOfLast last q → IsSomeAnd last (λ c. (is_commit_name q ≡ true) × (commit_number q ≡ c.number))
    last_name last q of =
        let c = of.0 in
        let name : own_name c ≡ q = of.3 in
        subst (λ (l : Option Commit). IsSomeAnd l (λ c. (is_commit_name q ≡ true) × (commit_number q ≡ c.number))) (sym of.1)
        (sym (ap is_commit_name name) ∙ own_is c of.2, sym (ap commit_number name) ∙ number_of_own c of.2)

    just_its : HasJustItsFiles cells (record { dir = dir; files = o.files; searchers = o.searchers; commits = o.commits; infos = o.infos; segs = o.segs; seen = seen; jobs = 0; job = None; copies = no_copies; known = o.known })
    just_its = record {
      each = λ q there. elim (name_opened (cells dir) o node is listed q there) [ inl file ↦ inl file | inr of ↦ inr (last_name o.commits.last q of) ];
    }

    none_opened : (before : Cells) → IsHandedBack before (cells dir) → FindsPoint (reads_of before) (number_of_last o.commits.last) o.infos → NoneAppears before (cells dir)
    none_opened before back finds = record { each = λ q none. by q none (there_or (cells dir q).now) }
      where
        by : (q : Name) → (before q).now ≡ None → ((cells dir q).now ≡ None) ⊎ (is_some (cells dir q).now ≡ true) → (cells dir q).now ≡ None
        by q none (inl gone) = gone
        by q none (inr there) = elim (name_opened (cells dir) o node is listed q there) [
          | inl file ↦ back.files (number_of_last o.commits.last) o.infos finds q file ∙ none
          | inr of ↦ absurd (last_stood (reads_of before) o.commits.last o.infos q finds of none)
        ]

-- ---- as an opening makes the copies
abbrev opened_parts : {D : Type 0} → D → Opened → Gen → MergeCopies → ReplicaParts D
opened_parts dir o seen copies = record { dir = dir; files = o.files; searchers = o.searchers; commits = o.commits; infos = o.infos; segs = o.segs; seen = seen; jobs = 0; job = None; copies = copies; known = o.known }

module _ {D : Type 0} (cells : D → Cells) (dir : D) (o : Opened) (node : IsWholeNode (cells dir) o.files (searcher_names o.searchers) o.commits) (is : IsNodeOpened (reads_of (cells dir)) o) (seen : Gen) (copies : MergeCopies) (empty : copies ≡ no_copies) where
  pub whole_opened : IsWholeReplica cells (opened_parts dir o seen copies)
  whole_opened = subst (λ (k : MergeCopies). IsWholeReplica cells (opened_parts dir o seen k)) (sym empty) (just_opened cells dir o node is seen)

  sourced_opened : (before : Cells) (number : Option ℕ) → IsHandedBack before (cells dir) → FindsPoint (reads_of before) number o.infos → (source : Name → Content)
      → ((q : Name) → Contains (flat_map files_of_segment o.infos.segs) q → (before q).now ≡ source q) → IsSourced source cells (opened_parts dir o seen copies)
  sourced_opened before number back finds source reads = subst (λ (k : MergeCopies). IsSourced source cells (opened_parts dir o seen k)) (sym empty) (just_sourced cells dir o node is seen before number back finds source reads)

  its_opened : ((q : Name) → is_some (cells dir q).now ≡ is_among (searcher_names o.searchers ++ book_names o.commits) q) → HasJustItsFiles cells (opened_parts dir o seen copies)
  its_opened listed = subst (λ (k : MergeCopies). HasJustItsFiles cells (opened_parts dir o seen k)) (sym empty) (just_its cells dir o node is seen listed)

  module _ (same : seen ≡ o.infos.generation) (listed : (q : Name) → is_some (cells dir q).now ≡ is_among (searcher_names o.searchers ++ book_names o.commits) q)
      (was : D) (back : IsHandedBack (cells was) (cells dir)) (finds : FindsPoint (reads_of (cells was)) (number_of_last o.commits.last) o.infos) where
    searches : (docs : List Doc) → StandsFor (reads_of (cells was)) o.infos docs → SearchesJust cells docs (opened_parts dir o seen copies)
    searches docs h =
        let after = stands_back (cells was) (cells dir) (number_of_last o.commits.last) o.infos docs back finds h in
        record {
          searched = readers_search (reads_of (cells dir)) o.infos o.searchers.point.readers docs is.readers after;
          stands = after;
          standing = record {
            point = record { docs = docs; stands = after };
            commits = book_stands (reads_of (cells dir)) o.infos o.commits is.last is.none (record { docs = docs; stands = after });
          };
        }

    pub opens_on : OpensOn cells was (opened_parts dir o seen copies)
    opens_on = record {
      whole = whole_opened;
      point = finds;
      documents = searches;
      sourced = sourced_opened (cells was) (number_of_last o.commits.last) back finds;
      held = file_opened (cells dir) o node is;
      fresh = record { stage = is.none; tickets = is.tickets; job = refl; copies = empty; jobs = refl; seen = same };
      back = back;
      appears = none_opened cells dir o node is seen listed (cells was) back finds;
      only = its_opened listed;
    }

-- what is handed back is what was there
pub back_same : (cells : Cells) → IsHandedBack cells cells
back_same cells = record { shown = λ number infos h. h; files = λ number infos h q named. refl; settled = λ h. h }
