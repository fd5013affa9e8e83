-- What stays where a node that opens removes what nobody holds.
use Rattle.std.proofs.Common.{◌≡◌, ℕ, ◌+◌, ◌<◌, ◌≤◌, ◌||◌, true, List, [], ◌∷◌, ◌++◌, take, drop, Option, Some, None, is_some, refl, sym, ap, subst, ◌∙◌, arith, inl, inr, true≢false}
use Rattle.std.specs.Prelude.{Contains, IfSome}
use Rattle.std.specs.List.{flat_map}
use Rattle.std.proofs.Math.Dec.{ltb as nat_lt}
use Rattle.std.proofs.lemmas.List.{take-append-drop}
use Rattle.std.proofs.lemmas.Bool.{cases_order}
use Rattle.std.proofs.Math.Bool.{or-false}
use Rattle.disk_model.specs.Disk.{Name, Content, Cell, Cells, Image, is_among, reads_of}
use Rattle.file_names.specs.Names.{commit_name_of, commit_number}
use Rattle.file_names.proofs.NameLaws.{commit_name_is_one, commit_number-commit_name}
use Rattle.segment_infos.specs.declared.infos.Infos.{Infos}
use Rattle.segment_infos.specs.Infos.{IsInfosFile}
use Rattle.segment_infos.specs.Files.{files_of_segment}
use Rattle.segment_infos.proofs.FileLaws.{infos_files_one_to_one}
use Rattle.file_deleter.specs.Holdings.{Holdings, count_of, times, IsWhole}
use Rattle.file_deleter.specs.Moves.{LetsGo}
use Rattle.file_deleter.proofs.NameLemmas.{among_times, not_among_times, among_is, times-append}
use Rattle.commit_steps.specs.declared.states.Commit.{Commit}
use Rattle.commit_steps.specs.declared.stage.Stage.{Stage}
use Rattle.commit_steps.specs.Found.{ShowsCommit}
use Rattle.commit_steps.specs.Flights.{own_name, IsCommit}
use Rattle.commit_steps.specs.Commits.{ImagesAre, HasInfos}
use Rattle.commit_steps.specs.Book.{shown_by, last_names, flying_names, book_names, IsBookSound}
use Rattle.commit_steps.proofs.Safe.{among_of}
use Rattle.commit_steps.proofs.Beside.{sound_beside, sound_images}
use Rattle.searcher_switch.specs.Node.{IsWholeNode}
use Rattle.replica_opening.proofs.Metas.{knows_along}
use Rattle.searcher_switch.proofs.Standing.{segments_along}
use Rattle.searcher_switch.specs.Searching.{searcher_names}
use Rattle.searcher_switch.specs.Tickets.{ticket_names}
use Rattle.replica_opening.specs.declared.opening.Taken.{Taken}
use Rattle.replica_opening.specs.Opening.{FindsPoint, number_of_last}
use Rattle.replica_opening.specs.Opened.{IsSettledAt, IsSettledOn, IsNodeOpened, OpensNode, IsTaken, IsHandedBack}

-- ---- a directory shows one point
some_none : (x : Content) (bytes : List ℕ) → x ≡ Some bytes → x ≡ None → ⊥
some_none x bytes a b = cc

pub same_bytes : (x : Content) (a b : List ℕ) → x ≡ Some a → x ≡ Some b → a ≡ b
same_bytes x a b e f = cc

not_above : (image : Image) (m n : ℕ) (x y : Infos) → ShowsCommit image m x → ShowsCommit image n y → m < n → ⊥
not_above image m n x y a b lt =
    let at : commit_number (commit_name_of n) ≡ n = commit_number-commit_name n (omega (arith, b.newest.below)) in
    some_none (image (commit_name_of n)) b.bytes b.newest.there (a.newest.greatest (commit_name_of n) (commit_name_is_one n b.newest.some b.newest.below) (omega (arith, at, lt)))

one_shown : (image : Image) (m n : ℕ) (x y : Infos) → ShowsCommit image m x → ShowsCommit image n y → (m ≡ n) × (x ≡ y)
one_shown image m n x y a b = elim (cases_order m n) [
  | inl same ↦ (same, infos_files_one_to_one.one_value b.bytes x y (subst (λ (t : List ℕ). IsInfosFile x t) (same_bytes (image (commit_name_of n)) a.bytes b.bytes (ap (λ k. image (commit_name_of k)) (sym same) ∙ a.newest.there) b.newest.there) a.spelled) b.spelled)
  | inr rest ↦ elim rest [ inl less ↦ absurd (not_above image m n x y a b less) | inr more ↦ absurd (not_above image n m y x b a more) ]
]

pub one_found : (image : Image) (a b : Option ℕ) (x y : Infos) → FindsPoint image a x → FindsPoint image b y → (a ≡ b) × (x ≡ y)
one_found image None None x y h k = (refl, h.1 ∙ sym k.1)
one_found image None (Some n) x y h k = absurd (some_none (image (commit_name_of n)) k.bytes k.newest.there (h.0 (commit_name_of n) (commit_name_is_one n k.newest.some k.newest.below)))
one_found image (Some m) None x y h k = absurd (some_none (image (commit_name_of m)) h.bytes h.newest.there (k.0 (commit_name_of m) (commit_name_is_one m h.newest.some h.newest.below)))
one_found image (Some m) (Some n) x y h k = let one = one_shown image m n x y h k in (ap Some one.0, one.1)

-- ---- images
settled_of : (cells : Cells) (last : Option Commit) (infos : Infos) → ImagesAre cells last None → IfSome last (λ c. IsCommit c × (c.infos ≡ infos)) → IsSettledAt cells (number_of_last last) infos
settled_of cells None infos images commit = record { each = λ image is. elim (images.each image is) [ inl nothing ↦ nothing.0 | inr rest ↦ elim rest [ inl none ↦ absurd none | inr none ↦ absurd none ] ] }
settled_of cells (Some c) infos images commit = record {
  each = λ image is. elim (images.each image is) [
    | inl nothing ↦ absurd (cc (nothing.1))
    | inr rest ↦ elim rest [ inl has ↦ subst (HasInfos cells image c.number) commit.1 has | inr none ↦ absurd none ]
  ];
}

-- ---- names
pub times_take : (names : List Name) (i : ℕ) (q : Name) → times (take i names) q ≤ times names q
times_take names i q =
    let e : times names q ≡ times (take i names) q + times (drop i names) q = ap (λ (ns : List Name). times ns q) (sym (take-append-drop i names)) ∙ times-append (take i names) (drop i names) q in
    omega (arith, e)

-- where nothing is due, the names that stand are those that are held
names_held : (cells : Cells) (held : Holdings) (names : List Name) (q : Name) → IsWhole cells held → held.due ≡ [] → count_of held q ≡ times names q → is_some (cells q).now ≡ is_among names q
names_held cells held names q whole none count =
    whole.names q ∙ ap (λ b. nat_lt 0 (count_of held q) || b) (ap (λ (ns : List Name). is_among ns q) none) ∙ or-false (nat_lt 0 (count_of held q)) ∙ ap (nat_lt 0) count ∙ sym (among_is names q)

module _ (before after : Cells) (t : Taken) (is : IsTaken before t) (new : Holdings) (gone : List Name) (within : (q : Name) → times gone q ≤ times t.listed q) (lets_go : LetsGo gone t.opened.files new before after) where
  -- what the node holds stays as it is
  stays : (q : Name) → 0 < times (searcher_names t.opened.searchers) q + times (book_names t.opened.commits) q → after q ≡ before q
  stays q some = lets_go.keeps.kept q refl (omega (arith, some, is.counts q)) (omega (arith, some, is.counts q, lets_go.counts q, within q))

  file_stays : (q : Name) → Contains (flat_map files_of_segment t.opened.infos.segs) q → after q ≡ before q
  file_stays q named =
      let there : is_among t.opened.searchers.point.names q ≡ true = among_of t.opened.searchers.point.names q ((is.opened.names.named q).1 named) in
      let some : 0 < times t.opened.searchers.point.names q = among_times t.opened.searchers.point.names q there in
      stays q (omega (arith, some, times-append t.opened.searchers.point.names (ticket_names t.opened.searchers.tickets) q))

  own_some : (c : Commit) → IsCommit c → 0 < times (last_names (Some c)) (own_name c)
  own_some c commit =
      let e : times c.names (own_name c) ≡ times c.files (own_name c) + times (own_name c ∷ []) (own_name c) = ap (λ (ns : List Name). times ns (own_name c)) commit.names ∙ times-append c.files (own_name c ∷ []) (own_name c) in
      let one : 0 < times (own_name c ∷ []) (own_name c) = among_times (own_name c ∷ []) (own_name c) (among_of (own_name c ∷ []) (own_name c) (0, omega arith, refl)) in
      omega (arith, e, one)

  own_stays : (c : Commit) → t.opened.commits.last ≡ Some c → IsCommit c → after (own_name c) ≡ before (own_name c)
  own_stays c last commit =
      let e : times (book_names t.opened.commits) (own_name c) ≡ times (last_names t.opened.commits.last) (own_name c) + times (flying_names t.opened.commits.stage) (own_name c) =
      times-append (last_names t.opened.commits.last) (flying_names t.opened.commits.stage) (own_name c) in
      let f : times (last_names t.opened.commits.last) (own_name c) ≡ times (last_names (Some c)) (own_name c) = ap (λ (o : Option Commit). times (last_names o) (own_name c)) last in
      stays (own_name c) (omega (arith, e, f, own_some c commit))

  -- what was found is found
  finds_by : (last : Option Commit) → t.opened.commits.last ≡ last → IfSome last (λ c. IsCommit c × (c.infos ≡ t.opened.infos)) → FindsPoint (reads_of before) (number_of_last last) t.opened.infos → FindsPoint (reads_of after) (number_of_last last) t.opened.infos
  finds_by None at commit h = (λ q named. lets_go.keeps.none q refl (h.0 q named), h.1)
  finds_by (Some c) at commit h = record {
    bytes = h.bytes;
    newest = record {
      some = h.newest.some;
      below = h.newest.below;
      there = ap (λ (k : Cell). k.now) (own_stays c at commit.0) ∙ h.newest.there;
      greatest = λ q named above. lets_go.keeps.none q refl (h.newest.greatest q named above);
    };
    spelled = h.spelled;
  }

  pub finds_still : FindsPoint (reads_of after) (number_of_last t.opened.commits.last) t.opened.infos
  finds_still = finds_by t.opened.commits.last refl is.opened.last is.opened.finds

  -- the commits are sound
  pub sound_still : IsSettledOn before → IsBookSound after new t.opened.commits
  sound_still settled = sound_beside t.opened.commits t.opened.files new before after (record {
    written = [];
    plain = λ q e. absurd (true≢false (sym e));
    apart = λ q there. refl;
    keeps = lets_go.keeps;
    counted = record { each = λ q. omega (arith, is.counts q) };
    still_counted = record { each = λ q. omega (arith, is.counts q, lets_go.counts q, within q) };
    alone = λ q named. omega (arith, lets_go.counts q);
  }) is.whole (is.sound settled)

  images_still : IsSettledOn before → ImagesAre after t.opened.commits.last None
  images_still settled = subst (λ (o : Option Stage). ImagesAre after t.opened.commits.last (shown_by o)) is.opened.none (sound_images after new t.opened.commits (sound_still settled))

  pub handed_back : IsHandedBack before after
  handed_back = record {
    shown = λ number infos finds.
        let one = one_found (reads_of before) (number_of_last t.opened.commits.last) number t.opened.infos infos is.opened.finds finds in
        subst (λ (n : Option ℕ). FindsPoint (reads_of after) n infos) one.0 (subst (λ (x : Infos). FindsPoint (reads_of after) (number_of_last t.opened.commits.last) x) one.1 finds_still);
    files = λ number infos finds q named.
        let one = one_found (reads_of before) (number_of_last t.opened.commits.last) number t.opened.infos infos is.opened.finds finds in
        ap (λ (k : Cell). k.now) (file_stays q (subst (λ (x : Infos). Contains (flat_map files_of_segment x.segs) q) (sym one.1) named));
    settled = λ settled. record {
      each = λ number infos finds there.
          let one = one_found (reads_of after) (number_of_last t.opened.commits.last) number t.opened.infos infos finds_still finds in
          subst (λ (n : Option ℕ). IsSettledAt after n infos) one.0 (subst (λ (x : Infos). IsSettledAt after (number_of_last t.opened.commits.last) x) one.1
          (settled_of after t.opened.commits.last t.opened.infos (images_still settled) is.opened.last));
    };
  }

  opened_still : IsNodeOpened (reads_of after) (record { files = new; searchers = t.opened.searchers; commits = t.opened.commits; infos = t.opened.infos; segs = t.opened.segs; known = t.opened.known })
  opened_still = record {
    finds = finds_still;
    none = is.opened.none;
    last = is.opened.last;
    spelled = is.opened.spelled;
    version = is.opened.version;
    names = is.opened.names;
    there = λ q named. ap (λ (k : Cell). is_some k.now) (file_stays q named) ∙ is.opened.there q named;
    readers = segments_along (reads_of before) (reads_of after) t.opened.infos.segs t.opened.searchers.point.readers (λ q named. ap (λ (k : Cell). k.now) (file_stays q named)) is.opened.readers;
    segs = is.opened.segs;
    known = record { each = λ q named. knows_along (reads_of before) (reads_of after) t.opened.known q (ap (λ (k : Cell). k.now) (file_stays q named)) (is.opened.known.each q named) };
    tickets = is.opened.tickets;
  }

  opened_node : ((q : Name) → times gone q ≡ times t.listed q) → IsSettledOn before → IsWholeNode after new (searcher_names t.opened.searchers) t.opened.commits
  opened_node all settled = record {
    counts = λ q. omega (arith, is.counts q, lets_go.counts q, all q);
    whole = lets_go.keeps.whole is.whole;
    sound = sound_still settled;
    plain = is.plain;
    free = record {
      commits = λ q named above. lets_go.keeps.none q refl (is.free.commits q named above);
      pending = λ q named above. lets_go.keeps.none q refl (is.free.pending q named above);
    };
  }

  -- the names that are left are those that the node holds
  opened_names : ((q : Name) → times gone q ≡ times t.listed q) → new.due ≡ [] → (q : Name) → is_some (after q).now ≡ is_among (searcher_names t.opened.searchers ++ book_names t.opened.commits) q
  opened_names all none q =
      let count : count_of new q ≡ times (searcher_names t.opened.searchers ++ book_names t.opened.commits) q =
      omega (arith, is.counts q, lets_go.counts q, all q, times-append (searcher_names t.opened.searchers) (book_names t.opened.commits) q) in
      names_held after new (searcher_names t.opened.searchers ++ book_names t.opened.commits) q (lets_go.keeps.whole is.whole) none count

  pub opened_cleared : (first : Cells) → before ≡ first → ((q : Name) → times gone q ≡ times t.listed q) → new.due ≡ []
      → OpensNode first after (record { files = new; searchers = t.opened.searchers; commits = t.opened.commits; infos = t.opened.infos; segs = t.opened.segs; known = t.opened.known })
  opened_cleared first same all none = record { opened = opened_still; node = λ settled. opened_node all (subst IsSettledOn (sym same) settled); names = opened_names all none }

-- ---- a directory that has no file
pub opened_empty : (cells : Cells) (t : Taken) → IsTaken cells t → ((q : Name) → (cells q).now ≡ None) → OpensNode cells cells t.opened
opened_empty cells t is empty = record {
  opened = is.opened;
  node = λ settled. record { counts = λ q. omega (arith, is.counts q, unlisted q); whole = is.whole; sound = is.sound settled; plain = is.plain; free = is.free };
  names = λ q. names_held cells t.opened.files (searcher_names t.opened.searchers ++ book_names t.opened.commits) q is.whole is.none
      (omega (arith, is.counts q, unlisted q, times-append (searcher_names t.opened.searchers) (book_names t.opened.commits) q));
}
  where
    unlisted : (q : Name) → times t.listed q ≡ 0
    unlisted q = not_among_times t.listed q (is.listed q ∙ ap is_some (empty q))
