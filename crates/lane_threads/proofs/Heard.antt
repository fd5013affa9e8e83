-- A lane or a worker that hears of what others did, once and again.
use Rattle.std.proofs.Common.{◌≢◌, ℕ, Bool, [], ◌++◌, refl, ◌∙◌, subst}
use Rattle.nrt_base.specs.declared.numbers.LaneNo.{LaneNo}
use Rattle.hist_lock.specs.declared.grows.Grows.{Ghosts}
use Rattle.hist_lock.specs.declared.lock.HistLock.{HistLock}
use Rattle.history_book.specs.declared.inner.Mark.{Mark}
use Rattle.history_book.specs.Log.{Log, name_of, lane_name}
use Rattle.lane_threads.specs.Walks.{GrowsByOthers}
use Rattle.lane_threads.proofs.WalkLemmas.{log_then}
use Rattle.lane_threads.specs.Seats.{log_seen}
use Rattle.lane_threads.proofs.SeatLemmas.{all-append}
use Rattle.lane_threads.specs.declared.lane.Lane.{Lane}
use Rattle.lane_threads.specs.Parts.{IsIdleLane, HasHeard}

apart_then : (logged : Bool) (lane : ℕ) (a b c : Log) → GrowsByOthers logged lane a b → GrowsByOthers logged lane b c → GrowsByOthers logged lane a c
apart_then logged lane a b c h k =
    record {
      more = k.more ++ h.more;
      log = log_then a b c h.more k.more h.log k.log;
      apart = all-append (λ (m : Mark). name_of m ≢ lane_name lane) k.more h.more k.apart h.apart;
      faults = k.faults;
    }

module _ {T : Type 0} {g : Ghosts T Mark} (logged : Bool) (lock : HistLock T Mark) where
  pub heard_first : (l : Lane T Mark g) → IsIdleLane logged lock l → HasHeard logged lock l l
  heard_first l idle = record { number = refl; idle = idle; apart = record { more = []; log = refl; apart = tt; faults = idle.faults }; own = refl }

  pub heard_then : (a b c : Lane T Mark g) → HasHeard logged lock a b → HasHeard logged lock b c → HasHeard logged lock a c
  heard_then a b c h k =
      record {
        number = k.number ∙ h.number;
        idle = k.idle;
        apart = apart_then logged a.number.0 (log_seen a.seat) (log_seen b.seat) (log_seen c.seat) h.apart
            (subst (λ (n : LaneNo). GrowsByOthers logged n.0 (log_seen b.seat) (log_seen c.seat)) h.number k.apart);
        own = k.own ∙ h.own;
      }
