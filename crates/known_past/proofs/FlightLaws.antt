-- The commit in flight at a node is the last that began there, where its line has no reply since.
use Rattle.std.proofs.Common.{◌≡◌, ◌==◌, ◌<◌, ◌≤◌, ◌+◌, ◌∙◌, ℕ, [], ◌∷◌, length, Bool, true, false, ◌&&◌, nat_le, if◌then◌else◌, Option, Some, None, refl, sym, ap, arith}
use Rattle.std.proofs.lemmas.Bool.{le-leb}
use Rattle.std.proofs.lemmas.Bool.Decides.{nat_tests}
use Rattle.nrt_base.specs.declared.numbers.At.{At}
use Rattle.nrt_base.specs.declared.numbers.NodeNo.{NodeNo}
use Rattle.nrt_base.specs.declared.numbers.Version.{Version}
use Rattle.history_rules.specs.declared.entry.Event.{Event}
use Rattle.history_rules.specs.declared.entry.Event.TheVariants.{Committing, Crashed}
use Rattle.history_rules.specs.Nodes.{Past}
use Rattle.history_rules.specs.Lines.{same_at, is_reply, without_at, commit_in_flight}
use Rattle.known_past.specs.declared.nodes.LinePlace.{LinePlace}
use Rattle.known_past.specs.Lines.{reply_place}
use Rattle.known_past.specs.Nodes.{commit_begun}
use Rattle.known_past.proofs.LineLaws.{reply_low}
use Rattle.known_past.proofs.CopyLaws.{IsLow, higher}

-- what a commit that began leaves in flight
abbrev flight_by : Past → Option LinePlace → Option At
flight_by past None = None
flight_by past (Some f) = if nat_le (reply_place f.at past) f.place then Some f.at else None

begun_low : (n : ℕ) (past : Past) → IsLow (length past) (commit_begun n past)
begun_low n [] = tt
begun_low n (e ∷ past) = by_event e.event (higher past e (commit_begun n past) (begun_low n past))
  where
    by_event : (event : Event) → IsLow (length (e ∷ past)) (commit_begun n past) → IsLow (length (e ∷ past)) (commit_begun n (record { at = e.at; event = event } ∷ past))
    by_event (Committing m v) low =
        elim (m.0 == n) as (λ b. IsLow (length (e ∷ past)) (if b then Some (record { at = e.at; place = length past }) else commit_begun n past)) [ true ↦ omega arith | false ↦ low ]
    by_event (Crashed m) low = elim (m.0 == n) as (λ b. IsLow (length (e ∷ past)) (if b then None else commit_begun n past)) [ true ↦ tt | false ↦ low ]
    by_event event low = low

abbrev shown_at : Past → LinePlace → Bool → Option At
shown_at past f b = if nat_le (if b then length past + 1 else reply_place f.at past) f.place then Some f.at else None

taken : (past : Past) (at : At) (f : LinePlace) (s t : Bool) → same_at at f.at ≡ s → nat_le (reply_place f.at past) f.place ≡ t → f.place + 1 ≤ length past
    → without_at at (if t then Some f.at else None) ≡ shown_at past f s
taken past at f true t own is low = gone t ∙ sym (ap (λ (b : Bool). if b then Some f.at else None) high)
  where
    high : nat_le (length past + 1) f.place ≡ false
    high = grind (arith, nat_tests, low)

    gone : (b : Bool) → without_at at (if b then Some f.at else None) ≡ None
    gone true = ap (λ (b : Bool). if b then None else Some f.at) own
    gone false = refl
taken past at f false true other is low = ap (λ (b : Bool). if b then None else Some f.at) other ∙ sym (ap (λ (b : Bool). if b then Some f.at else None) is)
taken past at f false false other is low = sym (ap (λ (b : Bool). if b then Some f.at else None) is)

-- a reply of the line takes what is in flight, and one of another line leaves it
replied : (past : Past) (at : At) (event : Event) (o : Option LinePlace) → is_reply event ≡ true → IsLow (length past) o
    → without_at at (flight_by past o) ≡ flight_by (record { at = at; event = event } ∷ past) o
replied past at event None reply low = refl
replied past at event (Some f) reply low =
    taken past at f (same_at at f.at) (nat_le (reply_place f.at past) f.place) refl refl low ∙ ap (λ (b : Bool). shown_at past f (b && same_at at f.at)) (sym reply)

unreplied : (past : Past) (at : At) (event : Event) (o : Option LinePlace) → is_reply event ≡ false → flight_by past o ≡ flight_by (record { at = at; event = event } ∷ past) o
unreplied past at event None quiet = refl
unreplied past at event (Some f) quiet = ap (λ (b : Bool). shown_at past f (b && same_at at f.at)) (sym quiet)

flight_is : (n : ℕ) (past : Past) → commit_in_flight n past ≡ flight_by past (commit_begun n past)
flight_is n [] = refl
flight_is n (e ∷ past) = by_event e.event (flight_is n past)
  where
    begun : Option LinePlace
    begun = commit_begun n past

    by_reply : (event : Event) (r : Bool) → is_reply event ≡ r → commit_in_flight n past ≡ flight_by past begun
        → (if r then without_at e.at (commit_in_flight n past) else commit_in_flight n past) ≡ flight_by (record { at = e.at; event = event } ∷ past) begun
    by_reply event true reply was = ap (without_at e.at) was ∙ replied past e.at event begun reply (begun_low n past)
    by_reply event false quiet was = was ∙ unreplied past e.at event begun quiet

    starts : (m : NodeNo) (v : Version) (b : Bool) → commit_in_flight n past ≡ flight_by past begun
        → (if b then Some e.at else commit_in_flight n past) ≡ flight_by (record { at = e.at; event = Committing m v } ∷ past) (if b then Some (record { at = e.at; place = length past }) else begun)
    starts m v true was = sym (ap (λ (b : Bool). if b then Some e.at else None) (le-leb (reply_place e.at past) (length past) (reply_low e.at past)))
    starts m v false was = was ∙ unreplied past e.at (Committing m v) begun refl

    crashes : (m : NodeNo) (b : Bool) → commit_in_flight n past ≡ flight_by past begun
        → (if b then None else without_at e.at (commit_in_flight n past)) ≡ flight_by (record { at = e.at; event = Crashed m } ∷ past) (if b then None else begun)
    crashes m true was = refl
    crashes m false was = ap (without_at e.at) was ∙ replied past e.at (Crashed m) begun refl (begun_low n past)

    by_event : (event : Event) → commit_in_flight n past ≡ flight_by past begun
        → commit_in_flight n (record { at = e.at; event = event } ∷ past) ≡ flight_by (record { at = e.at; event = event } ∷ past) (commit_begun n (record { at = e.at; event = event } ∷ past))
    by_event (Committing m v) was = starts m v (m.0 == n) was
    by_event (Crashed m) was = crashes m (m.0 == n) was
    by_event event was = by_reply event (is_reply event) refl was

-- the commit that began last is in flight where its line has no reply since
pub commit_flies : (n : ℕ) (past : Past) (f : LinePlace) (count : ℕ) → Some f ≡ commit_begun n past → count ≡ reply_place f.at past → count ≤ f.place → Some f.at ≡ commit_in_flight n past
commit_flies n past f count begun is low =
    let open_is : nat_le (reply_place f.at past) f.place ≡ true = le-leb (reply_place f.at past) f.place (omega (arith, is, low)) in
    sym (ap (λ (b : Bool). if b then Some f.at else None) open_is) ∙ ap (flight_by past) begun ∙ sym (flight_is n past)

pub commit_ended : (n : ℕ) (past : Past) (f : LinePlace) (count : ℕ) → Some f ≡ commit_begun n past → count ≡ reply_place f.at past → f.place < count → None ≡ commit_in_flight n past
commit_ended n past f count begun is high =
    let shut : nat_le (reply_place f.at past) f.place ≡ false = grind (arith, nat_tests, is, high) in
    sym (ap (λ (b : Bool). if b then Some f.at else None) shut) ∙ ap (flight_by past) begun ∙ sym (flight_is n past)

-- where none began none is in flight
pub no_commit : (n : ℕ) (past : Past) → None ≡ commit_begun n past → None ≡ commit_in_flight n past
no_commit n past none = ap (flight_by past) none ∙ sym (flight_is n past)
