-- The turn of a worker, which has no lines.
use Rattle.std.proofs.Common.{◌≡◌, ℕ, ◌<◌, Bool, true, false, List, [], refl, sym, subst, arith, None}
use Rattle.std.specs.List.{list_all}
use Rattle.std.proofs.lemmas.Bool.{and_parts}
use Rattle.std.proofs.lemmas.Bool.Decides.{nat_tests}
use Rattle.nrt_base.specs.declared.numbers.LaneNo.{LaneNo}
use Rattle.nrt_base.specs.Bytes.{is_between}
use Rattle.script_serving.specs.declared.script.Line.{Line}
use Rattle.script_serving.specs.declared.script.Phase.{Phase}
use Rattle.script_serving.specs.Lines.{lines_under}
use Rattle.script_serving.specs.Form.{is_phase, is_under, are_apart}
use Rattle.hist_lock.specs.declared.grows.Grows.{Ghosts}
use Rattle.hist_lock.specs.declared.lock.HistLock.{HistLock}
use Rattle.history_book.specs.declared.inner.Mark.{Mark}
use Rattle.lane_threads.proofs.FormLemmas.{lane_without}
use Rattle.lane_threads.proofs.WalkLemmas.{none_serves}
use Rattle.lane_threads.specs.Seats.{log_seen, IsLaneSeat}
use Rattle.lane_threads.specs.declared.lane.Lane.{Lane}
use Rattle.lane_threads.specs.Parts.{HasHeard, EndsItsPart, TakesTurn}

not_between : (n : ℕ) → 8 < n → is_between 1 8 n ≡ false
not_between n beyond = grind (arith, nat_tests)

module _ {T : Type 0} {g : Ghosts T Mark} (logged : Bool) (lock : HistLock T Mark) where
  -- no lines are done where others go on
  none_done : (before after : Lane T Mark g) → HasHeard logged lock before after → EndsItsPart logged lock before.number.0 [] before.seat after.seat
  none_done before after h =
      record {
        seat = subst (λ (n : LaneNo). IsLaneSeat logged lock n.0 after.seat) h.number h.idle;
        ran = record {
          goes = record {
            more = h.apart.more;
            log = h.apart.log;
            serves = none_serves logged before.number.0 [] None h.apart.more (log_seen before.seat) h.apart.apart;
            faults = h.apart.faults;
          };
          answered = refl;
        };
      }

  -- a worker that has done tasks has done its part, since it has no lines
  pub worker_did : (phase : Phase) (before after : Lane T Mark g) → is_phase phase ≡ true → 8 < before.number.0 → after.number ≡ before.number
      → (after.failed ≡ false → HasHeard logged lock before after) → TakesTurn logged lock phase before after
  worker_did phase before after form beyond number heard =
      let under : list_all is_under phase.lanes ≡ true = (and_parts (list_all is_under phase.lanes) (are_apart phase.lanes) form).0 in
      let none : lines_under before.number.0 phase.lanes ≡ [] = lane_without before.number.0 phase.lanes under (not_between before.number.0 beyond) in
      record {
        part = record {
          number = number;
          ran = λ fine. subst (λ (ls : List Line). EndsItsPart logged lock before.number.0 ls before.seat after.seat) (sym none) (none_done before after (heard fine));
        };
        worker = λ beyond fine. (heard fine).own;
      }
