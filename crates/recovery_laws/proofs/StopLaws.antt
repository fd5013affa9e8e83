-- What a crash leaves of a replica's commits is found, and opened.
use Rattle.std.proofs.Common.{◌≡◌, ◌⊎◌, ℕ, ◌||◌, Bool, true, false, true≢false, not, List, [], ◌∷◌, Option, Some, None, Result, Ok, Err, is_some, refl, sym, ap, subst, ◌∙◌, inl, inr}
use Rattle.std.specs.Prelude.{cond, IfOk, IfErr, IfSome, IsSome, IsSomeAnd}
use Rattle.std.proofs.lemmas.Bool.{or_right}
use Rattle.nrt_base.proofs.Plain.{ok_never_err, same_ok, same_err}
use Rattle.disk_model.specs.Disk.{Name, Cells, Image, HasCrashed, reads_of, first_missing, is_among}
use Rattle.file_deleter.proofs.NameLemmas.{same_self}
use Rattle.segment_infos.specs.declared.infos.Infos.{Infos}
use Rattle.seg_reader.specs.Stands.{StandsFor}
use Rattle.commit_steps.specs.declared.states.Commit.{Commit}
use Rattle.commit_steps.specs.declared.stage.Stage.{Stage}
use Rattle.commit_steps.specs.declared.stage.Stage.TheVariants.{Begun, Synced, Written, Pending, Named, Renamed}
use Rattle.commit_steps.specs.declared.stage.CommitBook.{CommitBook}
use Rattle.commit_steps.specs.declared.recovery.RecoverFault.{RecoverFault}
use Rattle.commit_steps.specs.Flights.{IsCommit}
use Rattle.commit_steps.specs.Found.{ShowsNothing}
use Rattle.commit_steps.specs.Commits.{IsSafe, HasCommit}
use Rattle.commit_steps.specs.Book.{shown_by, book_by, book_after, is_last_step}
use Rattle.commit_steps.specs.Recovery.{IsWholeCommit, IsCutOff, IsAnswered}
use Rattle.commit_steps.proofs.Safe.{contains_of}
use Rattle.searcher_switch.specs.Standing.{HasStanding, ImagesStand}
use Rattle.replica_opening.specs.declared.fault.StartFault.{StartFault}
use Rattle.replica_opening.specs.Opening.{FindsPoint, number_of_last, opening_infos}
use Rattle.replica_opening.specs.Opened.{IsSettledOn}
use Rattle.replica_opening.proofs.Clearings.{one_found}
use Rattle.replica_opening.proofs.Settled.{restarted_settled}
use Rattle.replica_node.specs.declared.parts.ReplicaParts.{ReplicaParts}
use Rattle.replica_node.specs.Starting.{OpensOn}
use Rattle.recovery_laws.specs.Stops.{IsFoundAs, staged_commit, IsStillInFlight, CommitGoesOn, FindsCommit, StandsAt, StandsAgain, HasInfosAgain}

-- ---- a crash

-- what is left is settled
pub crashed_settled : (before after : Cells) → HasCrashed before after → IsSettledOn after
crashed_settled before after crash = subst IsSettledOn (sym crash.2) (restarted_settled crash.0)

-- none of the files is missing
none_missing : (image : Image) (names : List Name) → ((q : Name) → is_among names q ≡ true → is_some (image q) ≡ true) → first_missing image names ≡ None
none_missing image [] there = refl
none_missing image (x ∷ xs) there =
    ap (λ (b : Bool). cond (not b) (Some x) (first_missing image xs)) (there x (ap (λ (b : Bool). b || is_among xs x) (same_self x)))
    ∙ none_missing image xs (λ q among. there q (more q among))
  where
    more : (q : Name) → is_among xs q ≡ true → is_among (x ∷ xs) q ≡ true
    more q among = or_right _ (is_among xs q) among

-- an image that shows a commit with its files has it whole
whole : (cells : Cells) (image : Image) (c : Commit) → IsCommit c → HasCommit cells image c → IsWholeCommit image c.number c.infos
whole cells image c is has = record {
  shown = has.shown;
  files = c.files;
  named = is.files;
  there = none_missing image c.files (λ q among. (has.files q ((is.files.named q).0 (contains_of c.files q among))).1);
}

-- ---- what is found

only_cut : (due : Option (ℕ × Infos)) (fault : RecoverFault) → IsAnswered (Err fault) (Ok due) → IsCutOff fault
only_cut due fault (inl e) = subst IsCutOff (sym (same_err _ _ e)) tt
only_cut due fault (inr (inl e)) = subst IsCutOff (sym (same_err _ _ e)) tt
only_cut due fault (inr (inr e)) = absurd (ok_never_err _ _ (sym e))

got : (x y : Option (ℕ × Infos)) → IsAnswered (Ok x) (Ok y) → x ≡ y
got x y (inl e) = absurd (ok_never_err _ _ e)
got x y (inr (inl e)) = absurd (ok_never_err _ _ e)
got x y (inr (inr e)) = same_ok _ _ e

-- a commit that there is
record Chosen (o : Option Commit) (P : Commit → Type 0) : Type 0 where
  commit : Commit
  is : o ≡ Some commit
  has : P commit

chosen : (o : Option Commit) (P : Commit → Type 0) → IsSomeAnd o P → Chosen o P
chosen None P has = absurd has
chosen (Some c) P has = record { commit = c; is = refl; has = has }

known : (o : Option Commit) (c : Commit) → IfSome o IsCommit → o ≡ Some c → IsCommit c
known o c all is = subst (λ (x : Option Commit). IfSome x IsCommit) is all

some_and : (o : Option Commit) (P : Commit → Type 0) (c : Commit) → o ≡ Some c → P c → IsSomeAnd o P
some_and o P c is has = subst (λ (x : Option Commit). IsSomeAnd x P) (sym is) has

-- the commits of a sound book are commits
pub sound_last : (cells : Cells) (last flight : Option Commit) → IsSafe cells last flight → IfSome last IsCommit
sound_last cells None flight safe = tt
sound_last cells (Some c) flight safe = safe.last_stays.commit

pub sound_flight : (cells : Cells) (last flight : Option Commit) → IsSafe cells last flight → IfSome flight IsCommit
sound_flight cells last None safe = tt
sound_flight cells last (Some c) safe = safe.in_flight.commit

module _ {D : Type 0} (was : ReplicaParts D) (before after : Cells) (crash : HasCrashed before after) (stand : ImagesStand before was.commits.last (shown_by was.commits.stage)) where
  abbrev image : Image
  image = crash.0

  same_reads : reads_of after ≡ image
  same_reads = ap reads_of crash.2

  -- what is due is found, unless the call is cut off
  record Due (result : Result (Option (ℕ × Infos)) RecoverFault) : Type 0 where
    due : Option (ℕ × Infos)
    finds : FindsCommit was due
    answered : IsAnswered result (Ok due)

  module _ (safe : IsSafe before was.commits.last (shown_by was.commits.stage)) (result : Result (Option (ℕ × Infos)) RecoverFault)
      (none : ShowsNothing (reads_of after) → IsAnswered result (Ok None)) (each : (n : ℕ) (infos : Infos) → IsWholeCommit (reads_of after) n infos → IsAnswered result (Ok (Some (n, infos)))) where
    answers_one : (o : Option Commit) (c : Chosen o (HasStanding before image)) → IfSome o IsCommit → IsAnswered result (Ok (Some (c.commit.number, c.commit.infos)))
    answers_one o c all =
        each c.commit.number c.commit.infos
        (subst (λ (i : Image). IsWholeCommit i c.commit.number c.commit.infos) (sym same_reads) (whole before image c.commit (known o c.commit all c.is) c.has.has))

    is_due : Due result
    is_due = by (stand.each image crash.1)
      where
        by : (ShowsNothing image × (was.commits.last ≡ None)) ⊎ (IsSomeAnd was.commits.last (HasStanding before image) ⊎ IsSomeAnd (shown_by was.commits.stage) (HasStanding before image)) → Due result
        by (inl nothing) = record { due = None; finds = nothing.1; answered = none (subst ShowsNothing (sym same_reads) nothing.0) }
        by (inr (inl has)) =
            let c = chosen was.commits.last (HasStanding before image) has in
            record {
              due = Some (c.commit.number, c.commit.infos);
              finds = inl (some_and was.commits.last (IsFoundAs (c.commit.number, c.commit.infos)) c.commit c.is (refl, refl));
              answered = answers_one was.commits.last c (sound_last before was.commits.last (shown_by was.commits.stage) safe);
            }
        by (inr (inr has)) =
            let c = chosen (shown_by was.commits.stage) (HasStanding before image) has in
            record {
              due = Some (c.commit.number, c.commit.infos);
              finds = inr (some_and (shown_by was.commits.stage) (IsFoundAs (c.commit.number, c.commit.infos)) c.commit c.is (refl, refl));
              answered = answers_one (shown_by was.commits.stage) c (sound_flight before was.commits.last (shown_by was.commits.stage) safe);
            }

    pub finds_commit : IfOk result (FindsCommit was)
    finds_commit = by result is_due
      where
        by : (r : Result (Option (ℕ × Infos)) RecoverFault) → Due r → IfOk r (FindsCommit was)
        by (Ok found) d = subst (FindsCommit was) (sym (got found d.due d.answered)) d.finds
        by (Err fault) d = tt

    pub only_cut_off : IfErr result IsCutOff
    only_cut_off = by result is_due
      where
        by : (r : Result (Option (ℕ × Infos)) RecoverFault) → Due r → IfErr r IsCutOff
        by (Ok found) d = tt
        by (Err fault) d = only_cut d.due fault d.answered

  -- ---- what is opened

  module _ (cells : D → Cells) (here : before ≡ cells was.dir) (dir : D) (there : after ≡ cells dir) where
    finds_here : (now : ReplicaParts D) → OpensOn cells dir now → FindsPoint image (number_of_last now.commits.last) now.infos
    finds_here now opens = subst (λ (i : Image). FindsPoint i (number_of_last now.commits.last) now.infos) (sym (ap reads_of there) ∙ same_reads) opens.point

    stands_at : (now : ReplicaParts D) → OpensOn cells dir now → (c : Commit) → HasStanding before image c → StandsAt cells was now c
    stands_at now opens c has =
        let infos : now.infos ≡ c.infos = (one_found image (number_of_last now.commits.last) (Some c.number) now.infos c.infos (finds_here now opens) has.has.shown).1 in
        record {
          infos = infos;
          docs = has.docs;
          were = subst (λ (x : Cells). StandsFor (reads_of x) c.infos has.docs) here has.stands;
          searches = opens.documents has.docs
              (subst (λ (i : Image). StandsFor i now.infos has.docs) (sym same_reads ∙ ap reads_of there) (subst (λ (x : Infos). StandsFor image x has.docs) (sym infos) has.image_stands));
        }

    stands_again : (now : ReplicaParts D) → OpensOn cells dir now → StandsAgain cells was now
    stands_again now opens = by (stand.each image crash.1)
      where
        by : (ShowsNothing image × (was.commits.last ≡ None)) ⊎ (IsSomeAnd was.commits.last (HasStanding before image) ⊎ IsSomeAnd (shown_by was.commits.stage) (HasStanding before image)) → StandsAgain cells was now
        by (inl nothing) = inl (nothing.1, (one_found image (number_of_last now.commits.last) None now.infos opening_infos (finds_here now opens) (nothing.0, refl)).1)
        by (inr (inl has)) =
            let c = chosen was.commits.last (HasStanding before image) has in
            inr (inl (some_and was.commits.last (StandsAt cells was now) c.commit c.is (stands_at now opens c.commit c.has)))
        by (inr (inr has)) =
            let c = chosen (shown_by was.commits.stage) (HasStanding before image) has in
            inr (inr (some_and (shown_by was.commits.stage) (StandsAt cells was now) c.commit c.is (stands_at now opens c.commit c.has)))

    pub reopened : (result : Result (ReplicaParts D) StartFault) → IfOk result (OpensOn cells dir) → IfOk result (StandsAgain cells was)
    reopened (Ok now) opens = stands_again now opens
    reopened (Err fault) opens = tt

-- ---- a commit that is carried on

pub is_made : (made : Bool) → not made ≡ true → made ≡ false
is_made true more = absurd (true≢false (sym more))
is_made false more = refl

-- the calls of a commit lead on
stage_step : (book : CommitBook) (s : Stage) → book.stage ≡ Some s → is_last_step (Some s) ≡ false → IsStillInFlight book (book_by book (Some s))
stage_step book (Begun s) is more = record { last = refl; flight = sym (ap staged_commit is); some = refl }
stage_step book (Synced s) is more = record { last = refl; flight = sym (ap staged_commit is); some = refl }
stage_step book (Written s) is more = record { last = refl; flight = sym (ap staged_commit is); some = refl }
stage_step book (Pending s) is more = record { last = refl; flight = sym (ap staged_commit is); some = refl }
stage_step book (Named s) is more = record { last = refl; flight = sym (ap staged_commit is); some = refl }
stage_step book (Renamed s) is more = absurd (true≢false more)

stage_goes : (book : CommitBook) (s : Stage) → book.stage ≡ Some s → CommitGoesOn book (book_by book (Some s))
stage_goes book (Renamed s) is = inr (sym (ap staged_commit is), refl)
stage_goes book (Begun s) is = inl (stage_step book (Begun s) is refl)
stage_goes book (Synced s) is = inl (stage_step book (Synced s) is refl)
stage_goes book (Written s) is = inl (stage_step book (Written s) is refl)
stage_goes book (Pending s) is = inl (stage_step book (Pending s) is refl)
stage_goes book (Named s) is = inl (stage_step book (Named s) is refl)

-- the stage that there is
record IsStage (o : Option Stage) : Type 0 where
  stage : Stage
  is : o ≡ Some stage

staged : (o : Option Stage) → IsSome o → IsStage o
staged None some = absurd (true≢false (sym some))
staged (Some s) some = record { stage = s; is = refl }

pub step_goes : (old new : CommitBook) → IsSome old.stage → new ≡ book_after old → CommitGoesOn old new
step_goes old new some after =
    let s = staged old.stage some in
    subst (CommitGoesOn old) (sym (after ∙ ap (book_by old) s.is)) (stage_goes old s.stage s.is)

pub step_more : (old new : CommitBook) → IsSome old.stage → new ≡ book_after old → is_last_step old.stage ≡ false → IsStillInFlight old new
step_more old new some after more =
    let s = staged old.stage some in
    subst (IsStillInFlight old) (sym (after ∙ ap (book_by old) s.is)) (stage_step old s.stage s.is (ap is_last_step (sym s.is) ∙ more))

pub stays_in_flight : (old new : CommitBook) → IsSome old.stage → new ≡ old → IsStillInFlight old new
stays_in_flight old new some same = subst (IsStillInFlight old) (sym same) (record { last = refl; flight = refl; some = some })

pub still_then : (a b c : CommitBook) → IsStillInFlight a b → IsStillInFlight b c → IsStillInFlight a c
still_then a b c one other = record { last = other.last ∙ one.last; flight = other.flight ∙ one.flight; some = other.some }

pub goes_then : (a b c : CommitBook) → IsStillInFlight a b → CommitGoesOn b c → CommitGoesOn a c
goes_then a b c one (inl other) = inl (still_then a b c one other)
goes_then a b c one (inr made) = inr (made.0 ∙ one.flight, made.1)

-- ---- opened behind a stop

shown_is : (o : Option Stage) (P : Commit → Type 0) → IsSomeAnd (shown_by o) P → IsSomeAnd (staged_commit o) P
shown_is None P has = absurd has
shown_is (Some (Named s)) P has = has
shown_is (Some (Renamed s)) P has = has
shown_is (Some (Begun s)) P has = absurd has
shown_is (Some (Synced s)) P has = absurd has
shown_is (Some (Written s)) P has = absurd has
shown_is (Some (Pending s)) P has = absurd has

each_some : (o : Option Commit) (P Q : Commit → Type 0) → ((c : Commit) → P c → Q c) → IsSomeAnd o P → IsSomeAnd o Q
each_some None P Q more has = absurd has
each_some (Some c) P Q more has = more c has

module _ {D : Type 0} (cells : D → Cells) (was stopped : ReplicaParts D) (in_one : IsSome was.commits.stage) (goes : CommitGoesOn was.commits stopped.commits) where
  made_some : (o : Option Stage) → IsSome o → staged_commit o ≡ None → ⊥
  made_some None some none = true≢false (sym some)
  made_some (Some s) some none = cc

  infos_again : (now : ReplicaParts D) → StandsAgain cells stopped now → HasInfosAgain was now
  infos_again now again = by goes again
    where
      HasInfos : Commit → Type 0
      HasInfos c = now.infos ≡ c.infos

      by : CommitGoesOn was.commits stopped.commits → StandsAgain cells stopped now → HasInfosAgain was now
      by (inl still) (inl none) = inl (sym still.last ∙ none.0, none.1)
      by (inl still) (inr (inl last)) =
          inr (inl (subst (λ (o : Option Commit). IsSomeAnd o HasInfos) still.last (each_some stopped.commits.last (StandsAt cells stopped now) HasInfos (λ c at. at.infos) last)))
      by (inl still) (inr (inr flight)) =
          inr (inr (subst (λ (o : Option Commit). IsSomeAnd o HasInfos) still.flight
          (each_some (staged_commit stopped.commits.stage) (StandsAt cells stopped now) HasInfos (λ c at. at.infos) (shown_is stopped.commits.stage (StandsAt cells stopped now) flight))))
      by (inr made) (inl none) = absurd (made_some was.commits.stage in_one (sym made.0 ∙ none.0))
      by (inr made) (inr (inl last)) =
          inr (inr (subst (λ (o : Option Commit). IsSomeAnd o HasInfos) made.0 (each_some stopped.commits.last (StandsAt cells stopped now) HasInfos (λ c at. at.infos) last)))
      by (inr made) (inr (inr flight)) =
          absurd (subst (λ (o : Option Stage). IsSomeAnd (shown_by o) (StandsAt cells stopped now)) made.1 flight)

  pub reopened_behind : (result : Result (ReplicaParts D) StartFault) → IfOk result (StandsAgain cells stopped) → IfOk result (HasInfosAgain was)
  reopened_behind (Ok now) again = infos_again now again
  reopened_behind (Err fault) again = tt
