-- Where the six calls of a commit lead.
use Rattle.std.proofs.Common.{◌≡◌, ◌≢◌, ◌⊎◌, ℕ, ◌+◌, ◌<◌, ◌||◌, Bool, true, false, List, [], ◌∷◌, Option, Some, None, Result, Ok, Err, refl, sym, ap, subst, ◌∙◌, arith, inl, inr, true≢false, is_some, cond}
use Rattle.std.specs.Prelude.{IfSome}
use Rattle.disk_model.specs.Disk.{Name, Content, Cell, Cells, IsKept, may_leave, same, is_among, put, flushed, settled, written, removed, replaced, half_removed, half_replaced, after_write, after_sync, after_sync_names, after_rename}
use Rattle.disk_model.specs.declared.dir.DirFault.{DirFault}
use Rattle.disk_model.specs.declared.dir.DirFault.TheVariants.{Memory, Missing, Exists, Failed}
use Rattle.disk_model.proofs.CellLemmas.{same_true, left_synced, settled_kept, put_here, put_apart, rename_others, rename_target, same_apart, same_kept}
use Rattle.disk_model.proofs.DirectoryLaw.{write_others}
use Rattle.file_names.specs.Names.{is_commit_name, commit_number}
use Rattle.file_deleter.specs.Holdings.{Holdings, count_of, is_due, times}
use Rattle.file_deleter.specs.Moves.{Shifts, RenamesCount}
use Rattle.file_deleter.proofs.NameLemmas.{times-cons, times_one, same_self, unlike, all_there}
use Rattle.file_deleter.proofs.Keeping.{renamed_once}
use Rattle.file_deleter.proofs.Writing.{write_failed_now, keeps_written, rename_failed_now, keeps_renamed}
use Rattle.commit_steps.specs.declared.states.Commit.{Commit}
use Rattle.commit_steps.specs.declared.states.Flight.{Flight}
use Rattle.commit_steps.specs.declared.states.Stopped.{Stopped}
use Rattle.commit_steps.specs.declared.states.Begun.{Begun as BegunState}
use Rattle.commit_steps.specs.declared.states.Synced.{Synced as SyncedState}
use Rattle.commit_steps.specs.declared.states.Written.{Written as WrittenState}
use Rattle.commit_steps.specs.declared.states.Pending.{Pending as PendingState}
use Rattle.commit_steps.specs.declared.states.Named.{Named as NamedState}
use Rattle.commit_steps.specs.declared.states.Renamed.{Renamed as RenamedState}
use Rattle.commit_steps.specs.declared.states.Done.{Done as DoneState}
use Rattle.commit_steps.specs.declared.stage.Stage.{Stage}
use Rattle.commit_steps.specs.declared.stage.Stage.TheVariants.{Begun, Synced, Written, Pending, Named, Renamed}
use Rattle.commit_steps.specs.declared.stage.Progress.{Progress}
use Rattle.commit_steps.specs.declared.stage.Progress.TheVariants.{Going, Made}
use Rattle.commit_steps.specs.Flights.{own_name, pending_name, IsCommit, IsFlight, fault_of}
use Rattle.commit_steps.specs.Commits.{IsSettled, AreSettled, IsAbove, Stays, IsSafe}
use Rattle.commit_steps.specs.Calls.{IsFree, AreSynced, StandsBegun, StandsSynced, StandsWritten, StandsPending, StandsNamed, StandsRenamed}
use Rattle.commit_steps.specs.Book.{progress_of, stage_names, Stands, Leads, Advances}
use Rattle.commit_steps.proofs.Safe.{pending_not_commit, own_is, number_of_own, pending_not_own, pending_no_file, own_no_file, own_apart, greater_apart, safe_all_kept, safe_beside, sync_kept, file_along}

-- ---- answers
module _ (before after : Cells) (old new : Holdings) (from : Stage) where
  ok_of : (to : Progress) → to ≡ progress_of from → Leads before after old new from (progress_of from) → Advances before after old new from (Ok to)
  ok_of to e leads = record { ok = (e, subst (λ (p : Progress). Leads before after old new from p) (sym e) leads); err = tt }

  err_of : (x : Stopped Stage) → x.state ≡ from → Leads before after old new from (Going from) → Advances before after old new from (Err x)
  err_of x e leads = record { ok = tt; err = (e, leads) }

-- ---- calls that change neither a count nor what reads
shifts_still : (holdings : Holdings) (names : List Name) (before after : Cells) → ((q : Name) → (after q).now ≡ (before q).now) → Shifts names names holdings holdings before after
shifts_still holdings names before after now = record {
  balance = λ q. refl;
  whole = λ w. record { names = λ q. ap is_some (now q) ∙ w.names q; apart = w.apart };
  reads = λ q a b. now q;
  none = λ q out gone. now q ∙ gone;
}

-- a name that does not stand in a list is none of it
apart_first : (x : Name) (xs : List Name) (q : Name) → times (x ∷ xs) q ≡ 0 → x ≢ q
apart_first x xs q out i =
    let c : times (x ∷ xs) q ≡ 1 + times xs q = times-cons x xs q ∙ ap (λ b. cond b 1 0 + times xs q) (ap (λ (n : Name). same n q) i ∙ same_self q) in
    absurd (omega (arith, out, c))

free_still : (holdings : Holdings) (before after : Cells) → ((q : Name) → (after q).now ≡ (before q).now) → (q : Name) → IsFree before holdings q → IsFree after holdings q
free_still holdings before after now q h = record { none = now q ∙ h.none; unheld = h.unheld; clear = h.clear }

still : (cells : Cells) (holdings : Holdings) (from : Stage) → Stands cells holdings from → Leads cells cells holdings holdings from (Going from)
still cells holdings from stands = record {
  same = refl;
  safe = λ last above safe. safe;
  stands = stands;
  shifts = shifts_still holdings (stage_names from) cells cells (λ q. refl);
}

sync_now : (cells : Cells) (names : List Name) (q : Name) → (after_sync {T = Unit {0}} cells names (Ok tt) q).now ≡ (cells q).now
sync_now cells names q = (sync_kept {T = Unit {0}} cells names (Ok tt) q).now

sync_here : (cells : Cells) (names : List Name) (q : Name) → is_among names q ≡ true → (after_sync {T = Unit {0}} cells names (Ok tt) q).synced ≡ true
sync_here cells names q there = ap (λ b. (cond b (flushed (cells q)) (cells q)).synced) there

sync_stays : (cells : Cells) (names : List Name) (q : Name) → (cells q).synced ≡ true → (after_sync {T = Unit {0}} cells names (Ok tt) q).synced ≡ true
sync_stays cells names q h = by (is_among names q) refl
  where
    by : (b : Bool) → is_among names q ≡ b → (after_sync {T = Unit {0}} cells names (Ok tt) q).synced ≡ true
    by true e = sync_here cells names q e
    by false e = ap (λ b. (cond b (flushed (cells q)) (cells q)).synced) e ∙ h

-- ---- the first call
module _ (cells : Cells) (holdings : Holdings) (f : Flight) (st : StandsBegun cells holdings f) where
  abbrev files_synced : Cells
  files_synced = after_sync {T = Unit {0}} cells f.commit.files (Ok tt)

  begun_ok : Leads cells files_synced holdings holdings (Begun (record { 0 = f })) (Going (Synced (record { 0 = f })))
  begun_ok = record {
    same = refl;
    safe = λ last above safe. safe_all_kept cells files_synced (sync_kept {T = Unit {0}} cells f.commit.files (Ok tt)) last None safe;
    stands = record {
      flight = st.flight;
      files = record { each = λ q there. (ap is_some (sync_now cells f.commit.files q) ∙ all_there cells f.commit.files q st.files.each there, sync_here cells f.commit.files q there) };
      pending = free_still holdings cells files_synced (sync_now cells f.commit.files) (pending_name f.commit) st.pending;
      own = free_still holdings cells files_synced (sync_now cells f.commit.files) (own_name f.commit) st.own;
    };
    shifts = shifts_still holdings f.commit.files cells files_synced (sync_now cells f.commit.files);
  }

module _ (before after : Cells) (holdings : Holdings) (s : BegunState) (st : StandsBegun before holdings s.0) where
  pub begun_goes : (x : SyncedState) → x.0 ≡ s.0 → after ≡ after_sync {T = Unit {0}} before s.0.commit.files (Ok tt) → Advances before after holdings holdings (Begun s) (Ok (Going (Synced x)))
  begun_goes x e call = ok_of before after holdings holdings (Begun s) (Going (Synced x)) (ap (λ (y : Flight). Going (Synced (record { 0 = y }))) e)
      (subst (λ (c : Cells). Leads before c holdings holdings (Begun s) (Going (Synced (record { 0 = s.0 })))) (sym call) (begun_ok before holdings s.0 st))

  pub begun_stops : (x : Stopped BegunState) → x.state ≡ s → after ≡ before → Advances before after holdings holdings (Begun s) (Err (record { state = Begun x.state; fault = x.fault }))
  begun_stops x e call = err_of before after holdings holdings (Begun s) (record { state = Begun x.state; fault = x.fault }) (ap (λ (y : BegunState). Begun y) e)
      (subst (λ (c : Cells). Leads before c holdings holdings (Begun s) (Going (Begun s))) (sym call) (still before holdings (Begun s) st))

-- ---- the second call
module _ (cells : Cells) (old : Holdings) (f : Flight) (st : StandsSynced cells old f) where
  synced_along : (after : Cells) → ((q : Name) → pending_name f.commit ≢ q → after q ≡ cells q) → AreSynced after f.commit.files
  synced_along after others = record {
    each = λ q there.
        let e : after q ≡ cells q = others q (pending_no_file f.commit f.commit st.flight.commit st.flight.commit q there) in
        (ap (λ (k : Cell). is_some k.now) e ∙ (st.files.each q there).0, ap (λ (k : Cell). k.synced) e ∙ (st.files.each q there).1);
  }

  abbrev with_file : Cells
  with_file = after_write {T = Unit {0}} cells (pending_name f.commit) f.bytes (Ok tt)

  with_others : (q : Name) → pending_name f.commit ≢ q → with_file q ≡ cells q
  with_others q apart = write_others {T = Unit {0}} cells (pending_name f.commit) f.bytes (Ok tt) q apart

  module _ (new : Holdings) (counts : (q : Name) → count_of new q ≡ count_of old q + times (pending_name f.commit ∷ []) q) (due : (q : Name) → is_due new q ≡ is_due old q) where
    once_pending : count_of new (pending_name f.commit) ≡ 1
    once_pending =
        let one : times (pending_name f.commit ∷ []) (pending_name f.commit) ≡ 1 = times_one (pending_name f.commit) (pending_name f.commit) ∙ ap (λ b. cond b 1 0) (same_self (pending_name f.commit)) in
        omega (arith, one, counts (pending_name f.commit), st.pending.unheld)

    synced_ok : Leads cells with_file old new (Synced (record { 0 = f })) (Going (Written (record { 0 = f })))
    synced_ok =
        let keeps = keeps_written (pending_name f.commit) f.bytes cells with_file old new refl st.pending.unheld st.pending.clear counts due in
        let apart : pending_name f.commit ≢ own_name f.commit = pending_not_own f.commit f.commit st.flight.commit in
        let none : times (pending_name f.commit ∷ []) (own_name f.commit) ≡ 0 = times_one (pending_name f.commit) (own_name f.commit) ∙ ap (λ b. cond b 1 0) (same_apart (pending_name f.commit) (own_name f.commit) apart) in
        record {
          same = refl;
          safe = λ last above safe. safe_beside cells with_file f.commit st.flight.commit with_others last None safe;
          stands = record {
            flight = st.flight;
            files = synced_along with_file with_others;
            pending = ap (λ (k : Cell). k.now) (put_here cells (pending_name f.commit) (written f.bytes (cells (pending_name f.commit))));
            once = once_pending;
            own = record {
              none = ap (λ (k : Cell). k.now) (with_others (own_name f.commit) apart) ∙ st.own.none;
              unheld = omega (arith, none, counts (own_name f.commit), st.own.unheld);
              clear = due (own_name f.commit) ∙ st.own.clear;
            };
          };
          shifts = record {
            balance = λ q. omega (arith, counts q, times-cons (pending_name f.commit) f.commit.files q, times_one (pending_name f.commit) q);
            whole = keeps.whole;
            reads = keeps.reads;
            none = λ q out gone. ap (λ (k : Cell). k.now) (with_others q (apart_first (pending_name f.commit) f.commit.files q out)) ∙ gone;
          };
        }

  module _ (e : DirFault) where
    abbrev unwritten : Cells
    unwritten = after_write {T = Unit {0}} cells (pending_name f.commit) f.bytes (Err e)

    synced_still : Leads cells unwritten old old (Synced (record { 0 = f })) (Going (Synced (record { 0 = f })))
    synced_still =
        let now = write_failed_now (pending_name f.commit) f.bytes cells unwritten e in
        let others = write_others {T = Unit {0}} cells (pending_name f.commit) f.bytes (Err e) in
        record {
          same = refl;
          safe = λ last above safe. safe_beside cells unwritten f.commit st.flight.commit others last None safe;
          stands = record {
            flight = st.flight;
            files = synced_along unwritten others;
            pending = free_still old cells unwritten now (pending_name f.commit) st.pending;
            own = free_still old cells unwritten now (own_name f.commit) st.own;
          };
          shifts = shifts_still old f.commit.files cells unwritten now;
        }

module _ (before after : Cells) (old : Holdings) (s : SyncedState) (st : StandsSynced before old s.0) where
  pub synced_goes : (new : Holdings) (x : WrittenState) → x.0 ≡ s.0 → after ≡ after_write {T = Unit {0}} before (pending_name s.0.commit) s.0.bytes (Ok tt)
      → ((q : Name) → count_of new q ≡ count_of old q + times (pending_name s.0.commit ∷ []) q) → ((q : Name) → is_due new q ≡ is_due old q)
      → Advances before after old new (Synced s) (Ok (Going (Written x)))
  synced_goes new x e call counts due = ok_of before after old new (Synced s) (Going (Written x)) (ap (λ (y : Flight). Going (Written (record { 0 = y }))) e)
      (subst (λ (c : Cells). Leads before c old new (Synced s) (Going (Written (record { 0 = s.0 })))) (sym call) (synced_ok before old s.0 st new counts due))

  pub synced_stops : (x : Stopped SyncedState) → x.state ≡ s → after ≡ after_write {T = Unit {0}} before (pending_name s.0.commit) s.0.bytes (Err (fault_of x.fault))
      → Advances before after old old (Synced s) (Err (record { state = Synced x.state; fault = x.fault }))
  synced_stops x e call = err_of before after old old (Synced s) (record { state = Synced x.state; fault = x.fault }) (ap (λ (y : SyncedState). Synced y) e)
      (subst (λ (c : Cells). Leads before c old old (Synced s) (Going (Synced s))) (sym call) (synced_still before old s.0 st (fault_of x.fault)))

-- ---- the third call
module _ (cells : Cells) (holdings : Holdings) (f : Flight) (st : StandsWritten cells holdings f) where
  abbrev own_synced : Cells
  own_synced = after_sync {T = Unit {0}} cells (pending_name f.commit ∷ []) (Ok tt)

  written_ok : Leads cells own_synced holdings holdings (Written (record { 0 = f })) (Going (Pending (record { 0 = f })))
  written_ok =
      let now = sync_now cells (pending_name f.commit ∷ []) in
      record {
        same = refl;
        safe = λ last above safe. safe_all_kept cells own_synced (sync_kept {T = Unit {0}} cells (pending_name f.commit ∷ []) (Ok tt)) last None safe;
        stands = record {
          flight = st.flight;
          files = record { each = λ q there. (ap is_some (now q) ∙ (st.files.each q there).0, sync_stays cells (pending_name f.commit ∷ []) q (st.files.each q there).1) };
          pending = record {
            now = now (pending_name f.commit) ∙ st.pending;
            synced = sync_here cells (pending_name f.commit ∷ []) (pending_name f.commit) (ap (λ b. b || false) (same_self (pending_name f.commit)));
          };
          once = st.once;
          own = free_still holdings cells own_synced now (own_name f.commit) st.own;
        };
        shifts = shifts_still holdings (pending_name f.commit ∷ f.commit.files) cells own_synced now;
      }

module _ (before after : Cells) (holdings : Holdings) (s : WrittenState) (st : StandsWritten before holdings s.0) where
  pub written_goes : (x : PendingState) → x.0 ≡ s.0 → after ≡ after_sync {T = Unit {0}} before (pending_name s.0.commit ∷ []) (Ok tt) → Advances before after holdings holdings (Written s) (Ok (Going (Pending x)))
  written_goes x e call = ok_of before after holdings holdings (Written s) (Going (Pending x)) (ap (λ (y : Flight). Going (Pending (record { 0 = y }))) e)
      (subst (λ (c : Cells). Leads before c holdings holdings (Written s) (Going (Pending (record { 0 = s.0 })))) (sym call) (written_ok before holdings s.0 st))

  pub written_stops : (x : Stopped WrittenState) → x.state ≡ s → after ≡ before → Advances before after holdings holdings (Written s) (Err (record { state = Written x.state; fault = x.fault }))
  written_stops x e call = err_of before after holdings holdings (Written s) (record { state = Written x.state; fault = x.fault }) (ap (λ (y : WrittenState). Written y) e)
      (subst (λ (c : Cells). Leads before c holdings holdings (Written s) (Going (Written s))) (sym call) (still before holdings (Written s) st))

-- ---- the fourth call
settles : (c : Cell) → is_some c.now ≡ true → c.synced ≡ true → IsSettled (settled c)
settles c some on o may = by c.now refl
  where
    by : (now : Content) → c.now ≡ now → o ≡ c.now
    by None e = absurd (true≢false (sym some ∙ ap is_some e))
    by (Some bytes) e = left_synced c.now c.synced bytes o e on may ∙ sym e

above_more : (last : Option Commit) (m n : ℕ) → IsAbove last m → m < n → IsAbove last n
above_more None m n h lt = tt
above_more (Some c) m n h lt = let a : c.number < m = h in omega (arith, a, lt)

module _ (cells : Cells) (holdings : Holdings) (f : Flight) where
  abbrev names_synced : Cells
  names_synced = after_sync_names {T = Unit {0}} cells (Ok tt)

  kept_names : (q : Name) → IsKept (cells q) (names_synced q)
  kept_names q = settled_kept (cells q)

  pending_ok : StandsPending cells holdings f → Leads cells names_synced holdings holdings (Pending (record { 0 = f })) (Going (Named (record { 0 = f })))
  pending_ok st = record {
    same = refl;
    safe = λ last above safe.
        let along : IsSafe names_synced last None = safe_all_kept cells names_synced kept_names last None safe in
        record {
          last_stays = along.last_stays;
          in_flight = record {
            commit = st.flight.commit;
            above = above;
            own = λ o may. inl (along.no_other (own_name f.commit) (own_is f.commit st.flight.commit) (subst (IsAbove last) (sym (number_of_own f.commit st.flight.commit)) above) tt o may);
            files = λ q there. (settles (cells q) (st.files.each q there).0 (st.files.each q there).1, (st.files.each q there).0);
          };
          no_other = λ q named higher apart. along.no_other q named higher tt;
        };
    stands = record {
      flight = st.flight;
      pending = record { now = st.pending.now; synced = st.pending.synced };
      once = st.once;
      own = free_still holdings cells names_synced (λ q. refl) (own_name f.commit) st.own;
    };
    shifts = shifts_still holdings (pending_name f.commit ∷ f.commit.files) cells names_synced (λ q. refl);
  }

  renamed_ok : StandsRenamed cells holdings f → Leads cells names_synced holdings holdings (Renamed (record { 0 = f })) (Made f.commit)
  renamed_ok st = record {
    same = refl;
    safe = λ last above safe.
        let along : IsSafe names_synced last (Some f.commit) = safe_all_kept cells names_synced kept_names last (Some f.commit) safe in
        record {
          last_stays = record {
            commit = st.flight.commit;
            own = λ o may. record { bytes = f.bytes; is = left_synced (cells (own_name f.commit)).now (cells (own_name f.commit)).synced f.bytes o st.own.now st.own.synced may; spelled = st.flight.spelled };
            files = along.in_flight.files;
          };
          in_flight = tt;
          no_other = λ q named higher apart. along.no_other q named (above_more last f.commit.number (commit_number q) above higher) (greater_apart f.commit st.flight.commit q higher);
        };
    stands = tt;
    shifts = shifts_still holdings (own_name f.commit ∷ f.commit.files) cells names_synced (λ q. refl);
  }

module _ (before after : Cells) (holdings : Holdings) (s : PendingState) (st : StandsPending before holdings s.0) where
  pub pending_goes : (x : NamedState) → x.0 ≡ s.0 → after ≡ after_sync_names {T = Unit {0}} before (Ok tt) → Advances before after holdings holdings (Pending s) (Ok (Going (Named x)))
  pending_goes x e call = ok_of before after holdings holdings (Pending s) (Going (Named x)) (ap (λ (y : Flight). Going (Named (record { 0 = y }))) e)
      (subst (λ (c : Cells). Leads before c holdings holdings (Pending s) (Going (Named (record { 0 = s.0 })))) (sym call) (pending_ok before holdings s.0 st))

  pub pending_stops : (x : Stopped PendingState) → x.state ≡ s → after ≡ before → Advances before after holdings holdings (Pending s) (Err (record { state = Pending x.state; fault = x.fault }))
  pending_stops x e call = err_of before after holdings holdings (Pending s) (record { state = Pending x.state; fault = x.fault }) (ap (λ (y : PendingState). Pending y) e)
      (subst (λ (c : Cells). Leads before c holdings holdings (Pending s) (Going (Pending s))) (sym call) (still before holdings (Pending s) st))

-- ---- the sixth call
module _ (before after : Cells) (holdings : Holdings) (s : RenamedState) (st : StandsRenamed before holdings s.0) where
  pub renamed_goes : (x : DoneState) → x.0 ≡ s.0 → after ≡ after_sync_names {T = Unit {0}} before (Ok tt) → Advances before after holdings holdings (Renamed s) (Ok (Made x.0.commit))
  renamed_goes x e call = ok_of before after holdings holdings (Renamed s) (Made x.0.commit) (ap (λ (y : Flight). Made y.commit) e)
      (subst (λ (c : Cells). Leads before c holdings holdings (Renamed s) (Made s.0.commit)) (sym call) (renamed_ok before holdings s.0 st))

  pub renamed_stops : (x : Stopped RenamedState) → x.state ≡ s → after ≡ before → Advances before after holdings holdings (Renamed s) (Err (record { state = Renamed x.state; fault = x.fault }))
  renamed_stops x e call = err_of before after holdings holdings (Renamed s) (record { state = Renamed x.state; fault = x.fault }) (ap (λ (y : RenamedState). Renamed y) e)
      (subst (λ (c : Cells). Leads before c holdings holdings (Renamed s) (Going (Renamed s))) (sym call) (still before holdings (Renamed s) st))

-- ---- the fifth call
-- calls that name only a commit's two names, and add no outcome to the second but the commit's bytes
module _ (before after : Cells) (f : Flight) (is : IsFlight f) (others : (q : Name) → pending_name f.commit ≢ q → own_name f.commit ≢ q → after q ≡ before q)
    (gains : (o : Content) → may_leave (after (own_name f.commit)) o ≡ true → (may_leave (before (own_name f.commit)) o ≡ true) ⊎ (o ≡ Some f.bytes)) where
  files_over : (c : Commit) → IsCommit c → AreSettled before c.files → AreSettled after c.files
  files_over c of h q there = file_along (before q) (after q)
      (same_kept (before q) (after q) (others q (pending_no_file f.commit c is.commit of q there) (own_no_file f.commit c is.commit of q there))) (h q there)

  last_over : (last : Option Commit) → IsAbove last f.commit.number → IfSome last (Stays before) → IfSome last (Stays after)
  last_over None above h = tt
  last_over (Some c) above h =
      let e : after (own_name c) ≡ before (own_name c) = others (own_name c) (pending_not_own f.commit c h.commit) (own_apart c f.commit h.commit is.commit above) in
      record {
        commit = h.commit;
        own = λ o may. h.own o (ap (λ (k : Cell). may_leave k o) (sym e) ∙ may);
        files = files_over c h.commit h.files;
      }

  safe_over : (last : Option Commit) → IsSafe before last (Some f.commit) → IsSafe after last (Some f.commit)
  safe_over last safe = record {
    last_stays = last_over last safe.in_flight.above safe.last_stays;
    in_flight = record {
      commit = is.commit;
      above = safe.in_flight.above;
      own = λ o may. elim (gains o may) [ inl was ↦ safe.in_flight.own o was | inr e ↦ inr (record { bytes = f.bytes; is = e; spelled = is.spelled }) ];
      files = files_over f.commit is.commit safe.in_flight.files;
    };
    no_other = λ q named above apart o may. safe.no_other q named above apart o
        (ap (λ (k : Cell). may_leave k o) (sym (others q (λ e. true≢false (sym named ∙ sym (ap is_commit_name e) ∙ pending_not_commit f.commit)) apart)) ∙ may);
  }

module _ (cells : Cells) (old : Holdings) (f : Flight) (st : StandsNamed cells old f) where
  two : pending_name f.commit ≢ own_name f.commit
  two = pending_not_own f.commit f.commit st.flight.commit

  rename_safe : (r : Result (Unit {0}) DirFault) (last : Option Commit) → IsSafe cells last (Some f.commit) → IsSafe (after_rename cells (pending_name f.commit) (own_name f.commit) r) last (Some f.commit)
  rename_safe r = safe_over cells (after_rename cells (pending_name f.commit) (own_name f.commit) r) f st.flight
      (rename_others cells (pending_name f.commit) (own_name f.commit) r)
      (rename_target cells (pending_name f.commit) (own_name f.commit) r f.bytes two st.pending.now st.pending.synced)

  abbrev with_own : Cells
  with_own = after_rename {T = Unit {0}} cells (pending_name f.commit) (own_name f.commit) (Ok tt)

  own_here : with_own (own_name f.commit) ≡ replaced (cells (pending_name f.commit)) (cells (own_name f.commit))
  own_here =
      put_apart (put cells (own_name f.commit) (replaced (cells (pending_name f.commit)) (cells (own_name f.commit)))) (pending_name f.commit) (removed (cells (pending_name f.commit))) (own_name f.commit) two
      ∙ put_here cells (own_name f.commit) (replaced (cells (pending_name f.commit)) (cells (own_name f.commit)))

  named_none : (q : Name) → times (own_name f.commit ∷ f.commit.files) q ≡ 0 → (cells q).now ≡ None → (with_own q).now ≡ None
  named_none q out gone = by (same (pending_name f.commit) q) refl
    where
      by : (b : Bool) → same (pending_name f.commit) q ≡ b → (with_own q).now ≡ None
      by true e =
          let none : (cells (pending_name f.commit)).now ≡ None = ap (λ (n : Name). (cells n).now) (same_true (pending_name f.commit) q e) ∙ gone in
          absurd (true≢false (sym (ap is_some st.pending.now) ∙ ap is_some none))
      by false e = ap (λ (k : Cell). k.now) (rename_others {T = Unit {0}} cells (pending_name f.commit) (own_name f.commit) (Ok tt) q (unlike (pending_name f.commit) q e)
          (apart_first (own_name f.commit) f.commit.files q out)) ∙ gone

  named_ok : (new : Holdings) → RenamesCount (pending_name f.commit) (own_name f.commit) old new → new.due ≡ old.due
      → Leads cells with_own old new (Named (record { 0 = f })) (Going (Renamed (record { 0 = f })))
  named_ok new moves due =
      let keeps = keeps_renamed (pending_name f.commit) (own_name f.commit) cells with_own old new refl (omega (arith, st.once)) st.own.unheld st.own.clear moves (λ q. ap (λ (ns : List Name). is_among ns q) due) in
      record {
        same = refl;
        safe = λ last above safe. rename_safe (Ok tt) last safe;
        stands = record {
          flight = st.flight;
          own = record { now = ap (λ (k : Cell). k.now) own_here ∙ st.pending.now; synced = ap (λ (k : Cell). k.synced) own_here ∙ st.pending.synced };
        };
        shifts = record {
          balance = λ q. omega (
            arith,
            renamed_once (pending_name f.commit) (own_name f.commit) old new moves st.once st.own.unheld q,
            times-cons (pending_name f.commit) f.commit.files q,
            times_one (pending_name f.commit) q,
            times-cons (own_name f.commit) f.commit.files q,
            times_one (own_name f.commit) q,
          );
          whole = keeps.whole;
          reads = keeps.reads;
          none = named_none;
        };
      }

  pending_synced : (e : DirFault) → (after_rename {T = Unit {0}} cells (pending_name f.commit) (own_name f.commit) (Err e) (pending_name f.commit)).synced ≡ (cells (pending_name f.commit)).synced
  pending_synced Failed = ap (λ (k : Cell). k.synced) (put_here (put cells (own_name f.commit) (half_replaced (cells (pending_name f.commit)) (cells (own_name f.commit)))) (pending_name f.commit) (half_removed (cells (pending_name f.commit))))
  pending_synced Memory = refl
  pending_synced Missing = refl
  pending_synced Exists = refl

  module _ (e : DirFault) where
    abbrev unrenamed : Cells
    unrenamed = after_rename {T = Unit {0}} cells (pending_name f.commit) (own_name f.commit) (Err e)

    named_still : Leads cells unrenamed old old (Named (record { 0 = f })) (Going (Named (record { 0 = f })))
    named_still =
        let now = rename_failed_now (pending_name f.commit) (own_name f.commit) cells unrenamed e in
        record {
          same = refl;
          safe = λ last above safe. rename_safe (Err e) last safe;
          stands = record {
            flight = st.flight;
            pending = record { now = now (pending_name f.commit) ∙ st.pending.now; synced = pending_synced e ∙ st.pending.synced };
            once = st.once;
            own = free_still old cells unrenamed now (own_name f.commit) st.own;
          };
          shifts = shifts_still old (pending_name f.commit ∷ f.commit.files) cells unrenamed now;
        }

module _ (before after : Cells) (old : Holdings) (s : NamedState) (st : StandsNamed before old s.0) where
  pub named_goes : (new : Holdings) (x : RenamedState) → x.0 ≡ s.0 → after ≡ after_rename {T = Unit {0}} before (pending_name s.0.commit) (own_name s.0.commit) (Ok tt)
      → RenamesCount (pending_name s.0.commit) (own_name s.0.commit) old new → new.due ≡ old.due → Advances before after old new (Named s) (Ok (Going (Renamed x)))
  named_goes new x e call moves due = ok_of before after old new (Named s) (Going (Renamed x)) (ap (λ (y : Flight). Going (Renamed (record { 0 = y }))) e)
      (subst (λ (c : Cells). Leads before c old new (Named s) (Going (Renamed (record { 0 = s.0 })))) (sym call) (named_ok before old s.0 st new moves due))

  pub named_stops : (x : Stopped NamedState) → x.state ≡ s → after ≡ after_rename {T = Unit {0}} before (pending_name s.0.commit) (own_name s.0.commit) (Err (fault_of x.fault))
      → Advances before after old old (Named s) (Err (record { state = Named x.state; fault = x.fault }))
  named_stops x e call = err_of before after old old (Named s) (record { state = Named x.state; fault = x.fault }) (ap (λ (y : NamedState). Named y) e)
      (subst (λ (c : Cells). Leads before c old old (Named s) (Going (Named s))) (sym call) (named_still before old s.0 st (fault_of x.fault)))
