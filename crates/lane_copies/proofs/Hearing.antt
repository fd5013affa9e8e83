-- Who did tasks for no line has heard of what others did, and did nothing itself.
use Rattle.std.proofs.Common.{◌≡◌, ◌==◌, ℕ, ◌<◌, ◌≤◌, Bool, List, [], ◌∷◌, ◌++◌, None, refl, ap, ◌∙◌, sym, subst, inl, inr, arith, reverse, cond}
use Rattle.std.specs.Prelude.{Result, Ok, Err, OnOk}
use Rattle.std.proofs.lemmas.List.{append-nil, reverse-append, reverse-reverse}
use Rattle.std.proofs.lemmas.List.Elements.{filter-append}
use Rattle.std.proofs.lemmas.Bool.Decides.{eqb_tells}
use Rattle.nrt_base.specs.declared.numbers.LaneNo.{LaneNo}
use Rattle.history_book.specs.declared.inner.Mark.{Mark}
use Rattle.history_book.specs.Log.{Log, name_of}
use Rattle.hist_lock.specs.declared.grows.Grows.{Ghosts}
use Rattle.hist_lock.specs.declared.lock.HistLock.{HistLock}
use Rattle.hist_lock.specs.declared.lock.LaneSeat.{LaneSeat}
use Rattle.hist_lock.specs.History.{entries_by}
use Rattle.hist_lock.specs.Seats.{history_seen, number_of, own_entries}
use Rattle.lane_threads.specs.Walks.{NoneOf, GrowsByOthers}
use Rattle.lane_threads.specs.Seats.{log_seen, IsLaneSeat}
use Rattle.lane_threads.proofs.SeatLemmas.{lane_named}
use Rattle.lane_threads.specs.declared.lane.Lane.{Lane}
use Rattle.lane_threads.specs.Parts.{IsIdleLane, HasHeard}
use Rattle.cluster_site.specs.Sites.{SiteRun}
use Rattle.lane_copies.specs.Taken.{WorksOn}
use Rattle.lane_copies.proofs.Silence.{silent_others}

-- entries that others append are none of the lane's own
own_more : (lane : ℕ) → 1 ≤ lane → (more log : Log) → NoneOf lane more → entries_by name_of lane (reverse (more ++ log)) ≡ entries_by name_of lane (reverse log)
own_more lane first [] log apart = refl
own_more lane first (m ∷ more) log apart =
    let alone : entries_by name_of lane (m ∷ []) ≡ [] = elim (eqb_tells (name_of m) lane) [
      | inl same ↦ absurd (apart.0 (same.1 ∙ sym (lane_named lane first)))
      | inr other ↦ ap (λ (b : Bool). cond b (m ∷ []) []) other.0
    ] in
    ap (entries_by name_of lane) (reverse-append (m ∷ []) (more ++ log))
    ∙ (filter-append (λ (x : Mark). name_of x == lane) (reverse (more ++ log)) (m ∷ [])
    ∙ (ap (λ (xs : List Mark). entries_by name_of lane (reverse (more ++ log)) ++ xs) alone ∙ (append-nil (entries_by name_of lane (reverse (more ++ log))) ∙ own_more lane first more log apart.1)))

module _ {g : Ghosts SiteRun Mark} {logged : Bool} (names : g.names ≡ name_of) (lock : HistLock SiteRun Mark) where
  own_is : (lane : ℕ) (s : LaneSeat SiteRun Mark g) → IsLaneSeat logged lock lane s → own_entries s ≡ entries_by name_of lane (history_seen s)
  own_is lane s seat =
      let first : 1 ≤ number_of s = subst (λ (n : ℕ). 1 ≤ n) (sym seat.number) seat.first in
      let positive : 0 < number_of s = omega (arith, first) in
      sym (subst (λ (n : ℕ). entries_by name_of n (history_seen s) ≡ own_entries s) seat.number
      (subst (λ (f : Mark → ℕ). entries_by f (number_of s) (history_seen s) ≡ own_entries s) names (s.recalls positive)))

  own_stays : (lane : ℕ) (before after : LaneSeat SiteRun Mark g) → IsLaneSeat logged lock lane before → IsLaneSeat logged lock lane after → GrowsByOthers logged lane (log_seen before) (log_seen after)
      → own_entries after ≡ own_entries before
  own_stays lane before after b a grows =
      let seen : history_seen after ≡ reverse (grows.more ++ log_seen before) = sym (reverse-reverse (history_seen after)) ∙ ap reverse grows.log in
      own_is lane after a
      ∙ (ap (entries_by name_of lane) seen
      ∙ (own_more lane b.first grows.more (log_seen before) grows.apart ∙ (ap (entries_by name_of lane) (reverse-reverse (history_seen before)) ∙ sym (own_is lane before b))))

  works_heard : (before after : Lane SiteRun Mark g) → IsIdleLane logged lock before → after.number ≡ before.number → WorksOn logged lock before.number.0 None before.seat after.seat → HasHeard logged lock before after
  works_heard before after idle number works =
      let grows : GrowsByOthers logged before.number.0 (log_seen before.seat) (log_seen after.seat) = silent_others before.number.0 None refl (log_seen before.seat) (log_seen after.seat) works.grows in
      record {
        number = number;
        idle = subst (λ (n : LaneNo). IsLaneSeat logged lock n.0 after.seat) (sym number) works.seat;
        apart = grows;
        own = own_stays before.number.0 before.seat after.seat idle works.seat grows;
      }

  pub on_works_heard : {T E : Type 0} (r : Result T E) (before after : Lane SiteRun Mark g) → IsIdleLane logged lock before → after.number ≡ before.number → OnOk r (WorksOn logged lock before.number.0 None before.seat after.seat)
      → OnOk r (HasHeard logged lock before after)
  on_works_heard (Ok x) before after idle number works = works_heard before after idle number works
  on_works_heard (Err e) before after idle number works = tt
