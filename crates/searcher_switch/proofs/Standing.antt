-- What infos are of depends on what reads under the names of their files.
use Rattle.std.proofs.Common.{◌≡◌, ◌⊎◌, ◌==◌, true≢false, ℕ, Bool, true, false, List, [], ◌∷◌, Option, Some, None, refl, sym, subst, ◌∙◌, cond, arith, inl, inr}
use Rattle.std.specs.Prelude.{IfSome, IsSomeAnd}
use Rattle.std.specs.List.{AllZip, Contains, flat_map}
use Rattle.std.proofs.lemmas.Bool.Decides.{nat_tests}
use Rattle.std.proofs.lemmas.List.Elements.{Contains-append_left, Contains-append_right}
use Rattle.nrt_base.specs.declared.doc.Doc.{Doc}
use Rattle.file_names.specs.Names.{part_name_of, live_name_of}
use Rattle.file_names.specs.declared.composed.SegPart.TheVariants.{Docs, Post, Info}
use Rattle.disk_model.specs.Disk.{Name, Content, Cells, Image, is_among, reads_of}
use Rattle.commit_steps.specs.Given.{SegRecord, Infos, files_of_segment}
use Rattle.file_deleter.specs.Holdings.{Holdings}
use Rattle.seg_reader.specs.Shown.{Shown}
use Rattle.seg_reader.specs.Stands.{IsLiveFileIn, IsSegmentIn, StandsFor}
use Rattle.commit_steps.specs.declared.states.Commit.{Commit}
use Rattle.commit_steps.specs.declared.stage.Stage.{Stage}
use Rattle.commit_steps.specs.declared.stage.Stage.TheVariants.{Begun, Synced, Written, Pending, Named, Renamed}
use Rattle.commit_steps.specs.declared.stage.CommitBook.{CommitBook}
use Rattle.commit_steps.specs.Flights.{own_name, pending_name, IsCommit}
use Rattle.commit_steps.specs.Commits.{HasCommit, Stays}
use Rattle.commit_steps.specs.Book.{commit_of, shown_by, flying_names, last_names, book_names, Stands, IsBookSound, book_after, HasBegun, IsBegun}
use Rattle.commit_steps.proofs.Safe.{among_of}
use Rattle.commit_steps.proofs.Beside.{behind, in_front, in_rear, file_among, sound_images}
use Rattle.searcher_switch.specs.Standing.{StandsForSome, IsStanding, HasStanding, ImagesStand}

-- ---- one segment
module _ (before after : Name → Content) (r : SegRecord) (same_reads : (q : Name) → Contains (files_of_segment r) q → after q ≡ before q) where
  has_live : (test : Bool) → test ≡ false → Contains (part_name_of r.seg.0 Docs ∷ part_name_of r.seg.0 Post ∷ part_name_of r.seg.0 Info ∷ cond test [] (live_name_of r.seg.0 r.live_gen ∷ [])) (live_name_of r.seg.0 r.live_gen)
  has_live true e = absurd (true≢false e)
  has_live false e = (3, omega arith, refl)

  live_along : (live : Option (List ℕ)) → IsLiveFileIn before r live → IsLiveFileIn after r live
  live_along None h = h
  live_along (Some bytes) h =
      let apart : (r.live_gen == 0) ≡ false = grind (arith, nat_tests, h.0) in
      (h.0, same_reads (live_name_of r.seg.0 r.live_gen) (has_live (r.live_gen == 0) apart) ∙ h.1)

  segment_along : (shown : Shown) → IsSegmentIn before r shown → IsSegmentIn after r shown
  segment_along shown h = record {
    parts = h.parts;
    files = record {
      docs = same_reads (part_name_of r.seg.0 Docs) (0, omega arith, refl) ∙ h.files.docs;
      post = same_reads (part_name_of r.seg.0 Post) (1, omega arith, refl) ∙ h.files.post;
      info = same_reads (part_name_of r.seg.0 Info) (2, omega arith, refl) ∙ h.files.info;
      live = live_along h.parts.live h.files.live;
    };
    segment = h.segment;
    live = h.live;
  }

-- ---- infos
pub segments_along : (before after : Name → Content) (records : List SegRecord) (segs : List Shown) → ((q : Name) → Contains (flat_map files_of_segment records) q → after q ≡ before q)
    → AllZip (IsSegmentIn before) records segs → AllZip (IsSegmentIn after) records segs
segments_along before after [] [] same_reads h = tt
segments_along before after [] (s ∷ ss) same_reads h = absurd h
segments_along before after (r ∷ rs) [] same_reads h = absurd h
segments_along before after (r ∷ rs) (s ∷ ss) same_reads h = (
  segment_along before after r (λ q named. same_reads q (Contains-append_left (files_of_segment r) (flat_map files_of_segment rs) q named)) s h.0,
  segments_along before after rs ss (λ q named. same_reads q (Contains-append_right (files_of_segment r) (flat_map files_of_segment rs) q named)) h.1,
)

-- a directory in which the files of infos read the same is of the same documents
pub stands_along : (before after : Name → Content) (infos : Infos) (docs : List Doc) → ((q : Name) → Contains (flat_map files_of_segment infos.segs) q → after q ≡ before q)
    → StandsFor before infos docs → StandsFor after infos docs
stands_along before after infos docs same_reads h = record {
  segs = h.segs;
  stands = record { each = segments_along before after infos.segs h.segs same_reads h.stands.each; stand = h.stands.stand };
}

some_along : (before after : Name → Content) (c : Commit) → IsCommit c → ((q : Name) → is_among c.files q ≡ true → after q ≡ before q) → StandsForSome before c.infos → StandsForSome after c.infos
some_along before after c is same_reads h = record {
  docs = h.docs;
  stands = stands_along before after c.infos h.docs (λ q named. same_reads q (among_of c.files q ((is.files.named q).1 named))) h.stands;
}

-- ---- the commits of a book
last_along : (cells before after : Cells) (last : Option Commit) → IfSome last (Stays cells) → ((q : Name) → is_among (last_names last) q ≡ true → (after q).now ≡ (before q).now)
    → IfSome last (λ c. StandsForSome (reads_of before) c.infos) → IfSome last (λ c. StandsForSome (reads_of after) c.infos)
last_along cells before after None s same_reads h = tt
last_along cells before after (Some c) s same_reads h = some_along (reads_of before) (reads_of after) c s.commit (λ q there. same_reads q (file_among c s.commit q there)) h

flight_along : (cells before after : Cells) (holdings : Holdings) (stage : Option Stage) → IfSome stage (Stands cells holdings) → ((q : Name) → is_among (flying_names stage) q ≡ true → (after q).now ≡ (before q).now)
    → IfSome stage (λ s. StandsForSome (reads_of before) (commit_of s).infos) → IfSome stage (λ s. StandsForSome (reads_of after) (commit_of s).infos)
flight_along cells before after holdings None s same_reads h = tt
flight_along cells before after holdings (Some (Begun x)) s same_reads h = some_along (reads_of before) (reads_of after) x.0.commit s.flight.commit same_reads h
flight_along cells before after holdings (Some (Synced x)) s same_reads h = some_along (reads_of before) (reads_of after) x.0.commit s.flight.commit same_reads h
flight_along cells before after holdings (Some (Written x)) s same_reads h = some_along (reads_of before) (reads_of after) x.0.commit s.flight.commit (λ q there. same_reads q (behind (pending_name x.0.commit) x.0.commit.files q there)) h
flight_along cells before after holdings (Some (Pending x)) s same_reads h = some_along (reads_of before) (reads_of after) x.0.commit s.flight.commit (λ q there. same_reads q (behind (pending_name x.0.commit) x.0.commit.files q there)) h
flight_along cells before after holdings (Some (Named x)) s same_reads h = some_along (reads_of before) (reads_of after) x.0.commit s.flight.commit (λ q there. same_reads q (behind (pending_name x.0.commit) x.0.commit.files q there)) h
flight_along cells before after holdings (Some (Renamed x)) s same_reads h = some_along (reads_of before) (reads_of after) x.0.commit s.flight.commit (λ q there. same_reads q (behind (own_name x.0.commit) x.0.commit.files q there)) h

-- calls beside the book, over which what it holds reads the same
pub standing_kept : (before after : Cells) (holdings : Holdings) (book : CommitBook) → IsBookSound before holdings book → ((q : Name) → is_among (book_names book) q ≡ true → (after q).now ≡ (before q).now)
    → IsStanding (reads_of before) book → IsStanding (reads_of after) book
standing_kept before after holdings book sound same_reads h = record {
  last = last_along before before after book.last sound.safe.last_stays (λ q there. same_reads q (in_front (last_names book.last) (flying_names book.stage) q there)) h.last;
  flight = flight_along before before after holdings book.stage sound.stands (λ q there. same_reads q (in_rear (last_names book.last) (flying_names book.stage) q there)) h.flight;
}

-- ---- a step of the book that is not refused
abbrev SameInBoth : Cells → Cells → CommitBook → CommitBook → Type 0
SameInBoth before after was now = (q : Name) → is_among (book_names was) q ≡ true → is_among (book_names now) q ≡ true → (after q).now ≡ (before q).now

module _ (before after : Cells) (old new : Holdings) (last : Option Commit) (next : ℕ) where
  abbrev book_at : Option Stage → CommitBook
  book_at stage = record { last = last; stage = stage; next = next }

  -- the files of the last commit, and those of the one in flight, under the names of both books
  in_last : (stage : Option Stage) (q : Name) → is_among (last_names last) q ≡ true → is_among (book_names (book_at stage)) q ≡ true
  in_last stage q there = in_front (last_names last) (flying_names stage) q there

  in_stage : (stage : Option Stage) (q : Name) → is_among (flying_names stage) q ≡ true → is_among (book_names (book_at stage)) q ≡ true
  in_stage stage q there = in_rear (last_names last) (flying_names stage) q there

  going_stands : (s t : Stage) → IsBookSound before old (book_at (Some s)) → (commit_of t ≡ commit_of s) → IsCommit (commit_of s)
      → ((q : Name) → is_among (commit_of s).files q ≡ true → is_among (flying_names (Some s)) q ≡ true) → ((q : Name) → is_among (commit_of s).files q ≡ true → is_among (flying_names (Some t)) q ≡ true)
      → SameInBoth before after (book_at (Some s)) (book_at (Some t)) → IsStanding (reads_of before) (book_at (Some s)) → IsStanding (reads_of after) (book_at (Some t))
  going_stands s t sound e is from to same_reads h = record {
    last = last_along before before after last sound.safe.last_stays (λ q there. same_reads q (in_last (Some s) q there) (in_last (Some t) q there)) h.last;
    flight = subst (λ (c : Commit). StandsForSome (reads_of after) c.infos) (sym e)
        (some_along (reads_of before) (reads_of after) (commit_of s) is (λ q there. same_reads q (in_stage (Some s) q (from q there)) (in_stage (Some t) q (to q there))) h.flight);
  }

  step_stands : (stage : Option Stage) → IsBookSound before old (book_at stage) → SameInBoth before after (book_at stage) (book_after (book_at stage))
      → IsStanding (reads_of before) (book_at stage) → IsStanding (reads_of after) (book_after (book_at stage))
  step_stands None sound same_reads h = standing_kept before after old (book_at None) sound (λ q there. same_reads q there there) h
  step_stands (Some (Begun s)) sound same_reads h = going_stands (Begun s) (Synced (record { 0 = s.0 })) sound refl sound.stands.flight.commit (λ q there. there) (λ q there. there) same_reads h
  step_stands (Some (Synced s)) sound same_reads h = going_stands (Synced s) (Written (record { 0 = s.0 })) sound refl sound.stands.flight.commit (λ q there. there) (λ q there. behind (pending_name s.0.commit) s.0.commit.files q there) same_reads h
  step_stands (Some (Written s)) sound same_reads h = going_stands (Written s) (Pending (record { 0 = s.0 })) sound refl sound.stands.flight.commit (λ q there. behind (pending_name s.0.commit) s.0.commit.files q there) (λ q there. behind (pending_name s.0.commit) s.0.commit.files q there) same_reads h
  step_stands (Some (Pending s)) sound same_reads h = going_stands (Pending s) (Named (record { 0 = s.0 })) sound refl sound.stands.flight.commit (λ q there. behind (pending_name s.0.commit) s.0.commit.files q there) (λ q there. behind (pending_name s.0.commit) s.0.commit.files q there) same_reads h
  step_stands (Some (Named s)) sound same_reads h = going_stands (Named s) (Renamed (record { 0 = s.0 })) sound refl sound.stands.flight.commit (λ q there. behind (pending_name s.0.commit) s.0.commit.files q there) (λ q there. behind (own_name s.0.commit) s.0.commit.files q there) same_reads h
  step_stands (Some (Renamed s)) sound same_reads h = record {
    last = some_along (reads_of before) (reads_of after) s.0.commit sound.stands.flight.commit
        (λ q there. same_reads q (in_stage (Some (Renamed s)) q (behind (own_name s.0.commit) s.0.commit.files q there))
        (in_front (last_names (Some s.0.commit)) [] q (file_among s.0.commit sound.stands.flight.commit q there))) h.flight;
    flight = tt;
  }

pub standing_step : (before after : Cells) (old new : Holdings) (was now : CommitBook) → IsBookSound before old was → SameInBoth before after was now → now ≡ book_after was
    → IsStanding (reads_of before) was → IsStanding (reads_of after) now
standing_step before after old new was now sound same_reads e h = subst (λ (b : CommitBook). IsStanding (reads_of after) b) (sym e)
    (step_stands before after old new was.last was.next was.stage sound (subst (λ (b : CommitBook). SameInBoth before after was b) e same_reads) h)

-- ---- a commit that begins
begun_stands : (reads : Name → Content) (infos : Infos) (number : ℕ) (stage : Option Stage) → IsBegun number infos stage → StandsForSome reads infos → IfSome stage (λ s. StandsForSome reads (commit_of s).infos)
begun_stands reads infos number None h s = tt
begun_stands reads infos number (Some (Begun x)) h s = subst (λ (i : Infos). StandsForSome reads i) (sym h.1) s
begun_stands reads infos number (Some (Synced x)) h s = absurd h
begun_stands reads infos number (Some (Written x)) h s = absurd h
begun_stands reads infos number (Some (Pending x)) h s = absurd h
begun_stands reads infos number (Some (Named x)) h s = absurd h
begun_stands reads infos number (Some (Renamed x)) h s = absurd h

pub standing_begun : (reads : Name → Content) (infos : Infos) (was now : CommitBook) → HasBegun infos was now → StandsForSome reads infos → IsStanding reads was → IsStanding reads now
standing_begun reads infos was now b s h = record {
  last = subst (λ (o : Option Commit). IfSome o (λ c. StandsForSome reads c.infos)) (sym b.last) h.last;
  flight = begun_stands reads infos was.next now.stage b.begun s;
}

-- ---- images
image_of : (cells : Cells) (image : Image) (c : Commit) → HasCommit cells image c → StandsForSome (reads_of cells) c.infos → HasStanding cells image c
image_of cells image c has s = record {
  has = has;
  docs = s.docs;
  stands = s.stands;
  image_stands = stands_along (reads_of cells) image c.infos s.docs (λ q named. (has.files q named).0) s.stands;
}

last_image : (cells : Cells) (image : Image) (last : Option Commit) → IsSomeAnd last (HasCommit cells image) → IfSome last (λ c. StandsForSome (reads_of cells) c.infos) → IsSomeAnd last (HasStanding cells image)
last_image cells image None h s = h
last_image cells image (Some c) h s = image_of cells image c h s

flight_image : (cells : Cells) (image : Image) (stage : Option Stage) → IsSomeAnd (shown_by stage) (HasCommit cells image) → IfSome stage (λ s. StandsForSome (reads_of cells) (commit_of s).infos) → IsSomeAnd (shown_by stage) (HasStanding cells image)
flight_image cells image None h s = h
flight_image cells image (Some (Begun x)) h s = h
flight_image cells image (Some (Synced x)) h s = h
flight_image cells image (Some (Written x)) h s = h
flight_image cells image (Some (Pending x)) h s = h
flight_image cells image (Some (Named x)) h s = image_of cells image x.0.commit h s
flight_image cells image (Some (Renamed x)) h s = image_of cells image x.0.commit h s

pub images_stand : (cells : Cells) (holdings : Holdings) (book : CommitBook) → IsBookSound cells holdings book → IsStanding (reads_of cells) book → ImagesStand cells book.last (shown_by book.stage)
images_stand cells holdings book sound h = record {
  each = λ image is. elim ((sound_images cells holdings book sound).each image is) [
    | inl nothing ↦ inl nothing
    | inr some ↦ inr (elim some as (λ _. IsSomeAnd book.last (HasStanding cells image) ⊎ IsSomeAnd (shown_by book.stage) (HasStanding cells image)) [
      | inl last ↦ inl (last_image cells image book.last last h.last)
      | inr flight ↦ inr (flight_image cells image book.stage flight h.flight)
    ])
  ];
}
