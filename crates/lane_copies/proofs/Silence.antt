-- Entries among which no line of a lane goes on.
use Rattle.std.proofs.Common.{◌≡◌, ◌≢◌, ℕ, Bool, List, [], ◌∷◌, ◌++◌, Option, None, refl, ap, ◌∙◌, sym, subst, inl, inr, arith, if◌then◌else◌, Some}
use Rattle.std.specs.List.{AllByRecursion}
use Rattle.std.proofs.lemmas.Bool.Decides.{eqb_tells}
use Rattle.nrt_base.specs.declared.numbers.At.{At}
use Rattle.history_rules.specs.Lines.{entries_of_line}
use Rattle.history_book.specs.declared.inner.Mark.{Mark}
use Rattle.history_book.specs.declared.inner.Mark.TheVariants.{Shown, TaskFault, Kept}
use Rattle.history_book.specs.Log.{Log, printed, lane_name, name_by}
use Rattle.script_serving.specs.declared.script.Line.{Line}
use Rattle.lane_threads.specs.Owes.{AddsByTask, GoesByTask, FaultsFit}
use Rattle.lane_threads.specs.Walks.{NoneOf, GrowsByOthers, ServesSince}
use Rattle.lane_threads.proofs.WalkLemmas.{other_lane, on_other, task_faults, log_then}
use Rattle.lane_threads.proofs.PartLemmas.{fresh_since}
use Rattle.lane_threads.proofs.SeatLemmas.{all-append}
use Rattle.lane_copies.specs.Taken.{IsSilent, GrowsSilently}

-- no lane has the name of nobody's entries
pub unnamed : (lane : ℕ) → 0 ≢ lane_name lane
unnamed lane is =
    elim (eqb_tells lane 0) [
      | inl none ↦ (let far : ◌≡◌ {A = ℕ} 0 256 = is ∙ ap (λ (b : Bool). if b then 256 else lane) none.0 in omega arith)
      | inr some ↦ some.1 (sym (is ∙ ap (λ (b : Bool). if b then 256 else lane) some.0))
    ]

module _ (lane : ℕ) (by : Option At) where
  others_silent : (more : Log) → NoneOf lane more → AllByRecursion (IsSilent lane by) more
  others_silent [] h = tt
  others_silent (Shown e ∷ more) h = (h.0, others_silent more h.1)
  others_silent (TaskFault e ∷ more) h = (tt, others_silent more h.1)
  others_silent (Kept i ∷ more) h = (λ none. h.0, others_silent more h.1)

  -- of a lane that took tasks for no line others alone have gone on
  silent_apart : by ≡ None → (more : Log) → AllByRecursion (IsSilent lane by) more → NoneOf lane more
  silent_apart none [] h = tt
  silent_apart none (Shown e ∷ more) h = (h.0, silent_apart none more h.1)
  silent_apart none (TaskFault e ∷ more) h = (unnamed lane, silent_apart none more h.1)
  silent_apart none (Kept i ∷ more) h = (h.0 none, silent_apart none more h.1)

module _ (logged : Bool) (lane : ℕ) (by : Option At) where
  task_silent : (more old : Log) → AddsByTask logged (name_by by) more old → AllByRecursion (IsSilent lane by) more
  task_silent [] old h = tt
  task_silent (Shown e ∷ more) old h = absurd h
  task_silent (TaskFault e ∷ more) old h = (tt, task_silent more old h.2)
  task_silent (Kept i ∷ more) old h = (
    λ none is. unnamed lane (elim (h.0) [ inl mine ↦ sym (mine ∙ ap name_by none) ∙ is | inr nobodys ↦ sym nobodys ∙ is ]),
    task_silent more old h.1,
  )

module _ {logged : Bool} (lane : ℕ) (by : Option At) where
  pub silent_first : (log : Log) → FaultsFit logged log → GrowsSilently logged lane by log log
  silent_first log faults = record { more = []; log = refl; silent = tt; faults = faults }

  pub silent_then : (a b c : Log) → GrowsSilently logged lane by a b → GrowsSilently logged lane by b c → GrowsSilently logged lane by a c
  silent_then a b c h k =
      record {
        more = k.more ++ h.more;
        log = log_then a b c h.more k.more h.log k.log;
        silent = all-append (IsSilent lane by) k.more h.more k.silent h.silent;
        faults = k.faults;
      }

  -- others have gone on, and then a call of a task
  pub section_silent : (before found new : Log) → GrowsByOthers logged lane before found → GoesByTask logged (name_by by) found new → GrowsSilently logged lane by before new
  section_silent before found new apart goes =
      silent_then before found new (record { more = apart.more; log = apart.log; silent = others_silent lane by apart.more apart.apart; faults = apart.faults })
      (record { more = goes.more; log = goes.log; silent = task_silent logged lane by goes.more found goes.adds; faults = task_faults logged (name_by by) found new apart.faults goes })

  pub silent_others : by ≡ None → (old new : Log) → GrowsSilently logged lane by old new → GrowsByOthers logged lane old new
  silent_others none old new h = record { more = h.more; log = h.log; apart = silent_apart lane by none h.more h.silent; faults = h.faults }

-- nothing is owed of these entries, whatever lines the lane has
pub silent_serves : (logged : Bool) (lane : ℕ) (by : Option At) (lines : List Line) (behind : Option Mark) (more old : Log) → AllByRecursion (IsSilent lane by) more → ServesSince logged lane lines behind more old
silent_serves logged lane by lines behind [] old h = tt
silent_serves logged lane by lines behind (Shown e ∷ more) old h = (on_other _ _ (other_lane e.at.lane.0 lane h.0), silent_serves logged lane by lines (Some (Shown e)) more old h.1)
silent_serves logged lane by lines behind (TaskFault e ∷ more) old h = silent_serves logged lane by lines (Some (TaskFault e)) more old h.1
silent_serves logged lane by lines behind (Kept i ∷ more) old h = silent_serves logged lane by lines (Some (Kept i)) more old h.1

-- a line of the lane that has no entry stays so
pub silent_fresh : {logged : Bool} (at : At) (by : Option At) (old new : Log) → GrowsSilently logged at.lane.0 by old new → entries_of_line at (printed old) ≡ [] → entries_of_line at (printed new) ≡ []
silent_fresh {logged = logged} at by old new h fresh =
    subst (λ (l : Log). entries_of_line at (printed l) ≡ []) (sym h.log)
    (fresh_since logged at.lane.0 [] at None h.more old refl refl (silent_serves logged at.lane.0 by [] None h.more old h.silent) (subst (FaultsFit logged) h.log h.faults) fresh)
