-- Names that nobody holds before and after a call.
use Rattle.std.proofs.Common.{◌≡◌, ◌≢◌, ℕ, ◌+◌, false, List, [], ◌∷◌, ◌++◌, Option, Some, None, refl, sym, ap, subst, ◌∙◌, cond, arith, true≢false}
use Rattle.std.specs.Prelude.{IfSome}
use Rattle.disk_model.specs.Disk.{Name, Cells}
use Rattle.disk_model.proofs.CellLemmas.{same_apart}
use Rattle.file_names.specs.Names.{is_commit_name, is_pending_name}
use Rattle.file_deleter.specs.Holdings.{Holdings, times}
use Rattle.commit_steps.specs.Given.{Infos, AreFilesOf}
use Rattle.file_deleter.proofs.NameLemmas.{times-append, times-cons}
use Rattle.commit_steps.proofs.Given.{one_list_of}
use Rattle.commit_steps.specs.declared.states.Commit.{Commit}
use Rattle.commit_steps.specs.declared.stage.Stage.{Stage}
use Rattle.commit_steps.specs.declared.stage.Stage.TheVariants.{Begun, Synced, Written, Pending, Named, Renamed}
use Rattle.commit_steps.specs.declared.stage.CommitBook.{CommitBook}
use Rattle.commit_steps.specs.Flights.{own_name, pending_name, IsCommit}
use Rattle.commit_steps.specs.Book.{flying_names, last_names, book_names, Stands, IsBookSound, book_after, HasBegun, IsBegun}
use Rattle.commit_steps.proofs.Safe.{own_is, pending_is}
use Rattle.searcher_switch.specs.Node.{IsWholeNode, AddsOnly, HoldsNoMore}

pub no_more_beside : (before after : Cells) (old new : Holdings) (hs more : List Name) (book : CommitBook) → IsWholeNode before old hs book → IsWholeNode after new more book → AddsOnly [] hs more → HoldsNoMore old new
no_more_beside before after old new hs more book a b only = record {
  each = λ q c e none. omega (arith, none, a.counts q, b.counts q, only.each q (omega (arith, none, a.counts q)) refl);
}

-- ---- a step of the book
module _ (q : Name) (plain : is_commit_name q ≡ false) (not_pending : is_pending_name q ≡ false) where
  not_own : (c : Commit) → IsCommit c → own_name c ≢ q
  not_own c is e = true≢false (sym (own_is c is) ∙ ap is_commit_name e ∙ plain)

  no_pending_of : (c : Commit) → IsCommit c → pending_name c ≢ q
  no_pending_of c is e = true≢false (sym (pending_is c is) ∙ ap is_pending_name e ∙ not_pending)

  times_rest : (x : Name) (xs : List Name) → x ≢ q → times (x ∷ xs) q ≡ times xs q
  times_rest x xs apart = let c : times (x ∷ xs) q ≡ 0 + times xs q = times-cons x xs q ∙ ap (λ b. cond b 1 0 + times xs q) (same_apart x q apart) in omega (arith, c)

  module _ (cells : Cells) (holdings : Holdings) (last : Option Commit) (next : ℕ) where
    abbrev book_at : Option Stage → CommitBook
    book_at stage = record { last = last; stage = stage; next = next }

    -- the names of the commit in flight change by its own two names alone
    going : (s t : Stage) → times (flying_names (Some t)) q ≡ times (flying_names (Some s)) q → times (book_names (book_at (Some s))) q ≡ 0 → times (book_names (book_at (Some t))) q ≡ 0
    going s t e none = omega (arith, none, e, times-append (last_names last) (flying_names (Some s)) q, times-append (last_names last) (flying_names (Some t)) q)

    step_names : (stage : Option Stage) → IsBookSound cells holdings (book_at stage) → times (book_names (book_at stage)) q ≡ 0 → times (book_names (book_after (book_at stage))) q ≡ 0
    step_names None sound none = none
    step_names (Some (Begun s)) sound none = going (Begun s) (Synced (record { 0 = s.0 })) refl none
    step_names (Some (Synced s)) sound none = going (Synced s) (Written (record { 0 = s.0 })) (times_rest (pending_name s.0.commit) s.0.commit.files (no_pending_of s.0.commit sound.stands.flight.commit)) none
    step_names (Some (Written s)) sound none = going (Written s) (Pending (record { 0 = s.0 })) refl none
    step_names (Some (Pending s)) sound none = going (Pending s) (Named (record { 0 = s.0 })) refl none
    step_names (Some (Named s)) sound none = going (Named s) (Renamed (record { 0 = s.0 }))
        (times_rest (own_name s.0.commit) s.0.commit.files (not_own s.0.commit sound.stands.flight.commit) ∙ sym (times_rest (pending_name s.0.commit) s.0.commit.files (no_pending_of s.0.commit sound.stands.flight.commit))) none
    step_names (Some (Renamed s)) sound none =
        let c : Commit = s.0.commit in
        let is : IsCommit c = sound.stands.flight.commit in
        let all : times (c.names ++ []) q ≡ times c.names q + times [] q = times-append c.names [] q in
        let nil : times [] q ≡ 0 = refl in
        let named : times c.names q ≡ times c.files q + times (own_name c ∷ []) q = ap (λ (ns : List Name). times ns q) is.names ∙ times-append c.files (own_name c ∷ []) q in
        omega (arith, none, all, nil, named, times_rest (own_name c) [] (not_own c is), times_rest (own_name c) c.files (not_own c is), times-append (last_names last) (own_name c ∷ c.files) q)

pub no_more_step : (before after : Cells) (old new : Holdings) (hs : List Name) (was now : CommitBook) → IsWholeNode before old hs was → IsWholeNode after new hs now → now ≡ book_after was → HoldsNoMore old new
no_more_step before after old new hs was now a b e = record {
  each = λ q plain not_pending none.
      let gone : times (book_names was) q ≡ 0 = omega (arith, none, a.counts q) in
      let still : times (book_names now) q ≡ 0 = ap (λ (k : CommitBook). times (book_names k) q) e ∙ step_names q plain not_pending before old was.last was.next was.stage a.sound gone in
      omega (arith, none, a.counts q, b.counts q, still);
}

-- ---- a commit that begins
begun_names : (cells : Cells) (holdings : Holdings) (infos : Infos) (number : ℕ) (names : List Name) (stage : Option Stage) → AreFilesOf infos names → IsBegun number infos stage → IfSome stage (Stands cells holdings)
    → flying_names stage ≡ names
begun_names cells holdings infos number names None files b s = absurd b
begun_names cells holdings infos number names (Some (Begun x)) files b s = one_list_of infos x.0.commit.files names (subst (λ (i : Infos). AreFilesOf i x.0.commit.files) b.1 s.flight.commit.files) files
begun_names cells holdings infos number names (Some (Synced x)) files b s = absurd b
begun_names cells holdings infos number names (Some (Written x)) files b s = absurd b
begun_names cells holdings infos number names (Some (Pending x)) files b s = absurd b
begun_names cells holdings infos number names (Some (Named x)) files b s = absurd b
begun_names cells holdings infos number names (Some (Renamed x)) files b s = absurd b

pub no_more_begun : (cells : Cells) (old new : Holdings) (hs : List Name) (was now : CommitBook) (infos : Infos) (names : List Name) → IsWholeNode cells old hs was → IsWholeNode cells new hs now → HasBegun infos was now
    → AreFilesOf infos names → ((q : Name) → times hs q ≡ 0 → times names q ≡ 0) → HoldsNoMore old new
no_more_begun cells old new hs was now infos names a b begun files within = record {
  each = λ q plain not_pending none.
      let gone : times hs q ≡ 0 = omega (arith, none, a.counts q) in
      let flying : times (flying_names now.stage) q ≡ times names q = ap (λ (ns : List Name). times ns q) (begun_names cells new infos was.next names now.stage files begun.begun b.sound.stands) in
      let last : times (last_names now.last) q ≡ times (last_names was.last) q = ap (λ (o : Option Commit). times (last_names o) q) begun.last in
      omega (arith, none, a.counts q, b.counts q, flying, last, within q gone, times-append (last_names was.last) (flying_names was.stage) q, times-append (last_names now.last) (flying_names now.stage) q);
}
