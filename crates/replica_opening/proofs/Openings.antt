-- Opening a node.
use Rattle.std.proofs.Common.{◌≡◌, ℕ, ◌+◌, ◌^◌, ◌<◌, ◌≤◌, ◌||◌, ◌&&◌, not, Bool, true, false, List, [], ◌∷◌, ◌++◌, length, get_or, Option, Some, None, is_some, refl, sym, ap, subst, ◌∙◌, arith, inl, inr, true≢false}
use Rattle.std.specs.Prelude.{Contains, IfSome}
use Rattle.std.specs.List.{flat_map}
use Rattle.std.proofs.Math.Dec.{ltb as nat_lt}
use Rattle.std.proofs.lemmas.List.Elements.{All-contains, Contains-get_or, Contains-append_left, Contains-append_right, All-nil}
use Rattle.disk_model.specs.Disk.{Name, Content, Cells, Image, is_among, reads_of}
use Rattle.file_names.specs.Names.{commit_name_of, pending_name_of, is_commit_name, commit_number, is_pending_name, pending_number}
use Rattle.file_names.proofs.NameLaws.{commit_name_only, pending_name_only}
use Rattle.segment_infos.specs.declared.infos.Infos.{Infos}
use Rattle.segment_infos.specs.Files.{files_of_segment, AreFilesOf}
use Rattle.segment_infos.specs.Commits.{commit_numbers, pending_numbers, IsNext}
use Rattle.segment_infos.proofs.CommitLaws.{commits_are, pendings_are}
use Rattle.segment_infos.proofs.SetLaws.{files_plain}
use Rattle.file_deleter.specs.Holdings.{Holdings, count_of, times, is_due, is_known, AreThere, IsWhole, count_in}
use Rattle.file_deleter.specs.Moves.{HoldsFiles}
use Rattle.file_deleter.proofs.NameLemmas.{among_times, not_among_times, among_is, times-append, same_self}
use Rattle.commit_steps.specs.Found.{ShowsNothing}
use Rattle.commit_steps.specs.Recovery.{IsWholeCommit}
use Rattle.commit_steps.specs.Book.{book_names, IsBookSound}
use Rattle.commit_steps.proofs.Safe.{among_of, contains_of}
use Rattle.searcher_switch.specs.Node.{AreFree}
use Rattle.replica_opening.specs.declared.fault.StartFault.{StartFault}
use Rattle.replica_opening.specs.declared.fault.StartFault.TheVariants.{Memory, Recover, Segment, Failed}
use Rattle.std.proofs.Math.Bool.{or-true, or-false}
use Rattle.std.specs.Ordering.{nat_cmp}
use Rattle.std.specs.Cmp.Lexicographic.{slice_cmp}
use Rattle.std.proofs.lemmas.Bool.{and_left}
use Rattle.nrt_base.specs.declared.numbers.Version.{Version}
use Rattle.nrt_base.proofs.Plain.{sorted_none}
use Rattle.segment_infos.specs.Infos.{IsRecord, CanSpell}
use Rattle.seg_reader.specs.Shown.{Shown}
use Rattle.commit_steps.specs.Flights.{IsCommit}
use Rattle.commit_steps.specs.Commits.{HasFilesOf, ImagesShow, ImagesShowNothing}
use Rattle.commit_steps.specs.declared.stage.CommitBook.{CommitBook}
use Rattle.commit_steps.proofs.Recovered.{whole_there}
use Rattle.searcher_switch.specs.declared.open.SearchPoint.{SearchPoint}
use Rattle.searcher_switch.specs.declared.open.Open.{Open}
use Rattle.searcher_switch.specs.declared.searchers.Searchers.{Searchers}
use Rattle.searcher_switch.specs.Tickets.{ticket_names}
use Rattle.searcher_switch.specs.Searching.{searcher_names}
use Rattle.replica_opening.specs.declared.opening.FilesAndCommits.{FilesAndCommits}
use Rattle.replica_opening.specs.declared.opening.Found.{Found}
use Rattle.replica_opening.specs.Readers.{AreReaders}
use Rattle.replica_opening.specs.declared.opening.PointRead.{PointRead}
use Rattle.replica_opening.specs.Known.{KnowsFiles}
use Rattle.replica_opening.specs.Opened.{IsSettledOn, IsOpeningPoint, IsFoundPoint, IsCounted, IsTaken}
use Rattle.replica_opening.specs.Opening.{IsRefusedAmong, IsStartFaultOf, FindsPoint, opening_infos, number_of_last}

-- ---- what is there
pub listed_there : (cells : Cells) (names : List Name) → ((q : Name) → is_among names q ≡ is_some (cells q).now) → AreThere cells names
listed_there cells names listed = record { each = λ k d lt. sym (listed (get_or names k d)) ∙ among_of names (get_or names k d) (Contains-get_or names k d lt) }

pub files_there : (cells : Cells) (infos : Infos) (names : List Name) → AreFilesOf infos names → ((q : Name) → Contains (flat_map files_of_segment infos.segs) q → is_some (cells q).now ≡ true) → AreThere cells names
files_there cells infos names are there = record { each = λ k d lt. there (get_or names k d) ((are.named (get_or names k d)).0 (Contains-get_or names k d lt)) }

-- ---- faults
pub found_fault : (image : Image) (n : ℕ) (infos : Infos) (fault : StartFault) → IsWholeCommit image n infos → IsRefusedAmong image infos.segs fault → IsStartFaultOf image fault
found_fault image n infos Memory whole h = inl tt
found_fault image n infos Failed whole h = inl tt
found_fault image n infos (Recover fault) whole h = absurd h
found_fault image n infos (Segment seg fault) whole h = inr (record { number = n; infos = infos; whole = whole; segment = h.0; seg_is = h.1; first = h.2 })

-- ---- numbers of commits
below_next : (numbers : List ℕ) (next m : ℕ) → IsNext numbers next → Contains numbers m → m < next
below_next numbers next m (None, none, is) there = absurd (let lt : there.0 < length numbers = there.1 in let z : length numbers ≡ 0 = ap length none in omega (arith, lt, z))
below_next numbers next m (Some g, greatest, is) there = let le : m ≤ g = All-contains (λ k. k ≤ g) numbers m greatest.1 there in omega (arith, le, is)

commit_below : (names : List Name) (next : ℕ) → IsNext (commit_numbers names ++ pending_numbers names) next → (n : ℕ) → 0 < n → n < 2 ^ 62 → is_among names (commit_name_of n) ≡ true → n < next
commit_below names next is n some below there =
    below_next (commit_numbers names ++ pending_numbers names) next n is (Contains-append_left (commit_numbers names) (pending_numbers names) n ((commits_are names n).1 (some, below, contains_of names (commit_name_of n) there)))

pending_below : (names : List Name) (next : ℕ) → IsNext (commit_numbers names ++ pending_numbers names) next → (n : ℕ) → 0 < n → n < 2 ^ 62 → is_among names (pending_name_of n) ≡ true → n < next
pending_below names next is n some below there =
    below_next (commit_numbers names ++ pending_numbers names) next n is (Contains-append_right (commit_numbers names) (pending_numbers names) n ((pendings_are names n).1 (some, below, contains_of names (pending_name_of n) there)))

next_some : (numbers : List ℕ) (next : ℕ) → IsNext numbers next → 0 < next
next_some numbers next (None, none, is) = omega (arith, is)
next_some numbers next (Some g, greatest, is) = omega (arith, is)

module _ (cells : Cells) (names : List Name) (next : ℕ) (listed : (q : Name) → is_among names q ≡ is_some (cells q).now) (is : IsNext (commit_numbers names ++ pending_numbers names) next) where
  pub above : (number : Option ℕ) (infos : Infos) → FindsPoint (reads_of cells) number infos → IfSome number (λ n. n < next)
  above None infos finds = tt
  above (Some n) infos shown = commit_below names next is n shown.newest.some shown.newest.below (listed (commit_name_of n) ∙ ap is_some shown.newest.there)

  gone : (c : Content) → (is_some c ≡ true → ⊥) → c ≡ None
  gone None h = refl
  gone (Some bytes) h = absurd (h refl)

  pub free : AreFree cells next
  free = record {
    commits = λ q named above. gone (cells q).now (λ there.
        let one = commit_name_only q named in
        let lt : commit_number q < next = commit_below names next is (commit_number q) one.1 one.2 (ap (is_among names) (sym one.0) ∙ listed q ∙ there) in
        omega (arith, lt, above));
    pending = λ q named above. gone (cells q).now (λ there.
        let one = pending_name_only q named in
        let lt : pending_number q < next = pending_below names next is (pending_number q) one.1 one.2 (ap (is_among names) (sym one.0) ∙ listed q ∙ there) in
        omega (arith, lt, above));
  }

-- ---- what is held
module _ (cells : Cells) (h0 h1 h2 h3 : Holdings) (listed names : List Name) (book : CommitBook) (counts0 : h0.counts ≡ []) (pending0 : h0.due ≡ [])
    (holds1 : HoldsFiles listed h0 h1 cells) (pending1 : (q : Name) → is_due h1 q ≡ (is_due h0 q && not (is_among listed q))) (holds2 : HoldsFiles names h1 h2 cells) (holds3 : HoldsFiles (book_names book) h2 h3 cells)
    (listed_is : (q : Name) → is_among listed q ≡ is_some (cells q).now) where
  count1 : (q : Name) → count_of h1 q ≡ times listed q
  count1 q = let z : count_of h0 q ≡ 0 = ap (λ (cs : List (Name × ℕ)). count_in cs q) counts0 in omega (arith, z, holds1.counts q)

  clear1 : (q : Name) → is_due h1 q ≡ false
  clear1 q = pending1 q ∙ and_left (is_due h0 q) (not (is_among listed q)) (ap (λ (ns : List Name). is_among ns q) pending0)

  whole1 : IsWhole cells h1
  whole1 = record {
    names = λ q. sym (listed_is q) ∙ among_is listed q ∙ ap (nat_lt 0) (sym (count1 q)) ∙ sym (or-false (nat_lt 0 (count_of h1 q))) ∙ ap (λ b. nat_lt 0 (count_of h1 q) || b) (sym (clear1 q));
    apart = λ q h. absurd (true≢false (sym h ∙ clear1 q));
  }

  pub held_whole : IsWhole cells h3
  held_whole = holds3.keeps.whole (holds2.keeps.whole whole1)

  pub held_counts : (q : Name) → count_of h3 q ≡ times listed q + (times names q + times (book_names book) q)
  held_counts q = omega (arith, count1 q, holds2.counts q, holds3.counts q)

  -- what is there is counted, so nothing is pending
  pub held_none : h3.due ≡ []
  held_none = by h3.due refl
    where
      by : (p : List Name) → h3.due ≡ p → h3.due ≡ []
      by [] e = e
      by (x ∷ xs) e =
          let waits : is_due h3 x ≡ true = ap (λ (ns : List Name). is_among ns x) e ∙ ap (λ b. b || is_among xs x) (same_self x) in
          let known : is_known h3 x ≡ true = ap (λ b. nat_lt 0 (count_of h3 x) || b) waits ∙ or-true (nat_lt 0 (count_of h3 x)) in
          let there : 0 < times listed x = among_times listed x (listed_is x ∙ held_whole.names x ∙ known) in
          absurd (omega (arith, there, held_whole.apart x waits, held_counts x))

times_front : (names rest : List Name) (q : Name) → rest ≡ [] → times (names ++ rest) q ≡ times names q
times_front names rest q e = times-append names rest q ∙ ap (λ (ns : List Name). times names q + times ns q) e ∙ grind arith

new_names : (s : Searchers Shown) (version : Version) (names : List Name) (readers : List Shown) → s.point ≡ record { version = version; names = names; readers = readers } → s.tickets ≡ []
    → (q : Name) → times (searcher_names s) q ≡ times names q
new_names s version names readers point none q =
    ap (λ (p : SearchPoint Shown). times (p.names ++ ticket_names s.tickets) q) point ∙ times_front names (ticket_names s.tickets) q (ap (λ (ts : List (Open Shown)). ticket_names ts) none)

pub plain_none : (infos : Infos) (names : List Name) → AreFilesOf infos names → (q : Name) → is_pending_name q ≡ true → times names q ≡ 0
plain_none infos names are q named = by (is_among names q) refl
  where
    by : (b : Bool) → is_among names q ≡ b → times names q ≡ 0
    by true e = absurd (true≢false (sym named ∙ (All-contains (λ (n : Name). (is_commit_name n ≡ false) × (is_pending_name n ≡ false)) names q (files_plain infos names are) (contains_of names q e)).1))
    by false e = not_among_times names q e

pub counted : (cells : Cells) (h0 h1 h2 h3 : Holdings) (listed : List Name) (found : Found) (book : CommitBook) (next : ℕ) → h0.counts ≡ [] → h0.due ≡ []
    → HoldsFiles listed h0 h1 cells → ((q : Name) → is_due h1 q ≡ (is_due h0 q && not (is_among listed q))) → HoldsFiles found.names h1 h2 cells → HoldsFiles (book_names book) h2 h3 cells
    → ((q : Name) → is_among listed q ≡ is_some (cells q).now) → IsNext (commit_numbers listed ++ pending_numbers listed) next
    → number_of_last book.last ≡ found.number → IfSome book.last (λ c. IsCommit c × (c.infos ≡ found.infos)) → book.stage ≡ None → book.next ≡ next → (IsSettledOn cells → IsBookSound cells h3 book)
    → IsCounted cells found listed (record { files = h3; commits = book })
counted cells h0 h1 h2 h3 listed found book next counts0 pending0 holds1 pending1 holds2 holds3 listed_is is last commit none at sound = record {
  counts = held_counts cells h0 h1 h2 h3 listed found.names book counts0 pending0 holds1 pending1 holds2 holds3 listed_is;
  whole = held_whole cells h0 h1 h2 h3 listed found.names book counts0 pending0 holds1 pending1 holds2 holds3 listed_is;
  none = held_none cells h0 h1 h2 h3 listed found.names book counts0 pending0 holds1 pending1 holds2 holds3 listed_is;
  last = last;
  commit = commit;
  stage = none;
  sound = sound;
  free = subst (λ n. AreFree cells n) (sym at) (free cells listed next listed_is is);
}

pub taken : (cells : Cells) (found : Found) (listed slice : List Name) (t : FilesAndCommits) (s : Searchers Shown) → slice ≡ listed → ((q : Name) → is_among listed q ≡ is_some (cells q).now) → IsFoundPoint (reads_of cells) found → IsCounted cells found slice t
    → s.point ≡ record { version = found.infos.version; names = found.names; readers = found.read.segs } → s.tickets ≡ []
    → IsTaken cells (record { opened = record { files = t.files; searchers = s; commits = t.commits; infos = found.infos; segs = found.read.segs; known = found.read.known }; listed = listed })
taken cells found listed slice t s same listed_is f is point tickets =
    let names = new_names s found.infos.version found.names found.read.segs point tickets in
    let readers_are : s.point.readers ≡ found.read.segs = ap (λ (p : SearchPoint Shown). p.readers) point in
    record {
      opened = record {
        finds = subst (λ (n : Option ℕ). FindsPoint (reads_of cells) n found.infos) (sym is.last) f.finds;
        none = is.stage;
        last = is.commit;
        spelled = f.spelled;
        version = ap (λ (p : SearchPoint Shown). p.version) point;
        names = subst (λ (p : SearchPoint Shown). AreFilesOf found.infos p.names) (sym point) f.names;
        there = f.there;
        readers = subst (λ (ss : List Shown). AreReaders (reads_of cells) found.infos.segs ss) (sym readers_are) f.readers;
        segs = sym readers_are;
        known = f.known;
        tickets = tickets;
      };
      listed = listed_is;
      counts = λ q. let e : times slice q ≡ times listed q = ap (λ (ns : List Name). times ns q) same in omega (arith, e, names q, is.counts q);
      whole = is.whole;
      none = is.none;
      sound = is.sound;
      plain = record { each = λ q named. names q ∙ plain_none found.infos found.names f.names q named };
      free = is.free;
    }

-- ---- what an opening without a commit finds
pub nothing_found : (reads : Image) (f : Found) → IsOpeningPoint f → ShowsNothing reads → IsFoundPoint reads f
nothing_found reads f is nothing = record {
  finds = subst (λ (n : Option ℕ). FindsPoint reads n f.infos) (sym is.number) (nothing, is.infos);
  spelled = subst CanSpell (sym is.infos) (record { generation = omega arith; version = omega arith; few = omega arith; records = All-nil IsRecord; apart = λ i j d lt le e. absurd (omega (arith, le)) });
  names = subst (λ (i : Infos). AreFilesOf i f.names) (sym is.infos) (subst (AreFilesOf opening_infos) (sym is.names) (record { ascending = sorted_none (slice_cmp nat_cmp); named = λ q. (λ h. h, λ h. h) }));
  there = λ q named. absurd (no_file q named);
  readers = subst (λ (i : Infos). AreReaders reads i.segs f.read.segs) (sym is.infos) (subst (λ (ss : List Shown). AreReaders reads [] ss) (sym is.segs) tt);
  known = record { each = λ q named. absurd (no_file q named) };
}
  where
    no_file : (q : Name) → Contains (flat_map files_of_segment f.infos.segs) q → ⊥
    no_file q named = let c : Contains (flat_map files_of_segment opening_infos.segs) q = subst (λ (i : Infos). Contains (flat_map files_of_segment i.segs) q) is.infos named in omega (arith, c.1)

pub whole_found : (cells : Cells) (n : ℕ) (infos : Infos) (names ns : List Name) (read : PointRead) → IsWholeCommit (reads_of cells) n infos → AreFilesOf infos names → ns ≡ names → AreReaders (reads_of cells) infos.segs read.segs
    → KnowsFiles (reads_of cells) (flat_map files_of_segment infos.segs) read.known → IsFoundPoint (reads_of cells) (record { number = Some n; infos = infos; names = ns; read = read })
whole_found cells n infos names ns read whole are e readers known = record {
  finds = whole.shown;
  spelled = whole.shown.spelled.spelled.can;
  names = subst (AreFilesOf infos) (sym e) are;
  there = whole_there cells n infos whole;
  readers = readers;
  known = known;
}

pub settled_nothing : (cells : Cells) (number : Option ℕ) (infos : Infos) → FindsPoint (reads_of cells) number infos → HasFilesOf cells infos → number ≡ None → IsSettledOn cells → ImagesShowNothing cells
settled_nothing cells number infos finds there none settled = settled.each None infos (subst (λ (n : Option ℕ). FindsPoint (reads_of cells) n infos) none finds) there

pub settled_commit : (cells : Cells) (number : Option ℕ) (n : ℕ) (infos : Infos) → FindsPoint (reads_of cells) number infos → HasFilesOf cells infos → number ≡ Some n → IsSettledOn cells → ImagesShow cells n infos
settled_commit cells number n infos finds there is settled = settled.each (Some n) infos (subst (λ (m : Option ℕ). FindsPoint (reads_of cells) m infos) is finds) there
