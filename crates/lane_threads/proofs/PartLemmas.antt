-- A phase's part of a lane's walk, and the walk over the whole script.
use Rattle.std.proofs.Common.{◌≡◌, ◌&&◌, ◌||◌, ◌==◌, ℕ, Bool, true, false, List, [], ◌∷◌, ◌++◌, Some, None, Option, refl, ap, ◌∙◌, sym, subst, if◌then◌else◌}
use Rattle.std.proofs.lemmas.Bool.{and_parts, and_from, true≢false, false≢true, eqb-true}
use Rattle.std.specs.Prelude.{⊤}
use Rattle.history_tables.proofs.RowLemmas.{by_test, same_at_is}
use Rattle.nrt_base.specs.declared.numbers.At.{At}
use Rattle.nrt_base.specs.declared.numbers.SegNo.{SegNo}
use Rattle.documents.specs.declared.operation.Op.{Op}
use Rattle.history_rules.specs.declared.cause.Cause.{Cause}
use Rattle.history_rules.specs.declared.entry.Event.{Event}
use Rattle.history_rules.specs.declared.entry.Event.TheVariants.{Fault as Met, Merging}
use Rattle.history_rules.specs.Nodes.{Past}
use Rattle.history_rules.specs.Lines.{same_at, is_answered, last_of_line, entries_of_line}
use Rattle.script_serving.specs.declared.script.Line.{Line}
use Rattle.script_serving.specs.declared.script.LineCommand.{LineCommand}
use Rattle.script_serving.specs.declared.script.LineCommand.TheVariants.{Merge, Promote}
use Rattle.script_serving.specs.Lines.{command_at, has_line, all_answered, earlier_answered}
use Rattle.script_serving.specs.Refusals.{refusal}
use Rattle.script_serving.specs.Replays.{due}
use Rattle.script_serving.specs.Serves.{Begins, First, Suits, SuitsFault, FitsTurn, FitsReplay, Fits}
use Rattle.history_book.specs.declared.inner.Mark.{Mark}
use Rattle.history_book.specs.declared.inner.Mark.TheVariants.{Shown, TaskFault, Kept}
use Rattle.history_book.specs.Log.{Log, printed, has_merging, begins_merge, FollowsMerging}
use Rattle.lane_threads.specs.Owes.{FaultsFit}
use Rattle.lane_threads.specs.Idle.{NoneIsSo}
use Rattle.lane_threads.specs.Firsts.{FirstIsSo}
use Rattle.lane_threads.specs.Walks.{OnLane, ServesSince}
use Rattle.lane_threads.specs.Phases.{ServesLane, NoneOnLane, FirstOnLane}
use Rattle.lane_threads.proofs.WalkLemmas.{lane_self, on_map, off_this, all_answered_stays, first_any}
use Rattle.lane_threads.proofs.StayLemmas.{merging_there, fresh_fault}

-- ---- a command among lines before, behind and between others

pub command_past : (done rest : List Line) (at : At) → has_line done at ≡ false → command_at (done ++ rest) at ≡ command_at rest at
command_past [] rest at h = refl
command_past (l ∷ done) rest at h = by_line (same_at l.at at) h (command_past done rest at)
  where
    by_line : (b : Bool) → (b || has_line done at) ≡ false → (has_line done at ≡ false → command_at (done ++ rest) at ≡ command_at rest at)
        → (if b then Some l.command else command_at (done ++ rest) at) ≡ command_at rest at
    by_line true f ih = absurd (true≢false f)
    by_line false f ih = ih f

command_in : (part later : List Line) (at : At) (c : LineCommand) → command_at part at ≡ Some c → command_at (part ++ later) at ≡ Some c
command_in [] later at c h = absurd (cc)
command_in (l ∷ part) later at c h = by_line (same_at l.at at) h (command_in part later at c)
  where
    by_line : (b : Bool) → (if b then Some l.command else command_at part at) ≡ Some c → (command_at part at ≡ Some c → command_at (part ++ later) at ≡ Some c)
        → (if b then Some l.command else command_at (part ++ later) at) ≡ Some c
    by_line true f ih = f
    by_line false f ih = ih f

pub has_command : (lines : List Line) (at : At) (c : LineCommand) → command_at lines at ≡ Some c → has_line lines at ≡ true
has_command [] at c h = absurd (cc)
has_command (l ∷ lines) at c h = by_line (same_at l.at at) h (has_command lines at c)
  where
    by_line : (b : Bool) → (if b then Some l.command else command_at lines at) ≡ Some c → (command_at lines at ≡ Some c → has_line lines at ≡ true)
        → (b || has_line lines at) ≡ true
    by_line true f ih = refl
    by_line false f ih = ih f

no_command : (lines : List Line) (at : At) → has_line lines at ≡ false → command_at lines at ≡ None
no_command [] at h = refl
no_command (l ∷ lines) at h = by_line (same_at l.at at) h (no_command lines at)
  where
    by_line : (b : Bool) → (b || has_line lines at) ≡ false → (has_line lines at ≡ false → command_at lines at ≡ None)
        → (if b then Some l.command else command_at lines at) ≡ None
    by_line true f ih = absurd (true≢false f)
    by_line false f ih = ih f

pub earlier_past : (done rest : List Line) (at : At) (past : Past) → all_answered done past ≡ true → earlier_answered rest at past ≡ true
    → earlier_answered (done ++ rest) at past ≡ true
earlier_past [] rest at past d h = h
earlier_past (l ∷ done) rest at past d h =
    let parts = and_parts (is_answered l.at past) (all_answered done past) d in
    by_line (same_at l.at at) parts.0 (earlier_past done rest at past parts.1 h)
  where
    by_line : (b : Bool) → is_answered l.at past ≡ true → earlier_answered (done ++ rest) at past ≡ true
        → (if b then true else is_answered l.at past && earlier_answered (done ++ rest) at past) ≡ true
    by_line true f ih = refl
    by_line false f ih = and_from _ _ f ih

earlier_in : (part later : List Line) (at : At) (past : Past) → has_line part at ≡ true → earlier_answered part at past ≡ true
    → earlier_answered (part ++ later) at past ≡ true
earlier_in [] later at past k h = absurd (false≢true k)
earlier_in (l ∷ part) later at past k h = by_line (same_at l.at at) k h (earlier_in part later at past)
  where
    by_line : (b : Bool) → (b || has_line part at) ≡ true → (if b then true else is_answered l.at past && earlier_answered part at past) ≡ true
        → (has_line part at ≡ true → earlier_answered part at past ≡ true → earlier_answered (part ++ later) at past ≡ true)
        → (if b then true else is_answered l.at past && earlier_answered (part ++ later) at past) ≡ true
    by_line true f g ih = refl
    by_line false f g ih = let parts = and_parts (is_answered l.at past) (earlier_answered part at past) g in and_from _ _ parts.0 (ih f parts.1)

-- ---- an entry that fits among some lines fits among more

fault_wider : (lines wider : List Line) (c : LineCommand) (at : At) (past : Past)
    → (earlier_answered lines at past ≡ true → earlier_answered wider at past ≡ true) → SuitsFault c lines at past → SuitsFault c wider at past
fault_wider lines wider (Merge factor) at past f h = tt
fault_wider lines wider c at past f h = (h.0, f h.1)

turn_wider : (lines wider : List Line) (c : LineCommand) (at : At) (past : Past) (e : Event)
    → (earlier_answered lines at past ≡ true → earlier_answered wider at past ≡ true) → FitsTurn lines past at (Some c) e → FitsTurn wider past at (Some c) e
turn_wider lines wider c at past (Met n kind) f h = fault_wider lines wider c at past f h
turn_wider lines wider c at past e f h = (h.0, f h.1)

fits_wider : (ops : List Op) (lines wider : List Line) (c : LineCommand) (at : At) (past : Past) (e : Event)
    → (earlier_answered lines at past ≡ true → earlier_answered wider at past ≡ true) → Fits ops lines past at (Some c) e → Fits ops wider past at (Some c) e
fits_wider [] lines wider c at past e f h = turn_wider lines wider c at past e f h
fits_wider (op ∷ ops) lines wider c at past e f h = h

-- nothing fits where there is no line
pub fits_nowhere : (ops : List Op) (lines : List Line) (past : Past) (at : At) (e : Event) → Fits ops lines past at None e → ⊥
fits_nowhere [] lines past at e h = h
fits_nowhere (op ∷ ops) lines past at e h = h

-- an entry that fits is of a line
pub fits_line : (ops : List Op) (lines : List Line) (past : Past) (at : At) (e : Event) → Fits ops lines past at (command_at lines at) e → has_line lines at ≡ true
fits_line ops lines past at e h = by_command (command_at lines at) refl h
  where
    by_command : (o : Option LineCommand) → command_at lines at ≡ o → Fits ops lines past at o e → has_line lines at ≡ true
    by_command None is f = absurd (fits_nowhere ops lines past at e f)
    by_command (Some c) is f = has_command lines at c is

-- ---- a merge's line asks for a merge

abbrev pub IsMergeAt : Option LineCommand → Type 0
IsMergeAt (Some (Merge factor)) = ⊤
IsMergeAt c = ⊥

merge_begins : (c : LineCommand) (past : Past) (seg : SegNo) → Begins c past (Merging seg) → IsMergeAt (Some c)
merge_begins (Merge factor) past seg h = tt
merge_begins c past seg h = absurd h

merge_first : (c : LineCommand) (at : At) (past : Past) (seg : SegNo) (o : Option Cause) → First c at past o (Merging seg) → IsMergeAt (Some c)
merge_first c at past seg (Some cause) h = absurd (cc (h))
merge_first c at past seg None h = merge_begins c past seg h

merge_suits : (c : LineCommand) (at : At) (past : Past) (seg : SegNo) (last : Option Event) → Suits c at past last (Merging seg) → IsMergeAt (Some c)
merge_suits c at past seg None h = merge_first c at past seg (refusal c at.lane.0 past) h
merge_suits c at past seg (Some last) h = absurd h.1

merge_turn : (lines : List Line) (at : At) (past : Past) (seg : SegNo) (o : Option LineCommand) → FitsTurn lines past at o (Merging seg) → IsMergeAt o
merge_turn lines at past seg None h = absurd h
merge_turn lines at past seg (Some c) h = merge_suits c at past seg (last_of_line at past) h.0

merge_replay : (op : Op) (at : At) (past : Past) (seg : SegNo) (o : Option LineCommand) → FitsReplay op past at o (Merging seg) → IsMergeAt o
merge_replay op at past seg (Some (Promote n force)) h = absurd h
merge_replay op at past seg o h = absurd h

merge_fits : (ops : List Op) (lines : List Line) (at : At) (past : Past) (seg : SegNo) (o : Option LineCommand) → Fits ops lines past at o (Merging seg) → IsMergeAt o
merge_fits [] lines at past seg o h = merge_turn lines at past seg o h
merge_fits (op ∷ ops) lines at past seg o h = merge_replay op at past seg o h

merge_fits_if : (ops : List Op) (lines : List Line) (at : At) (past : Past) (e : Event) (o : Option LineCommand) → begins_merge e ≡ true
    → Fits ops lines past at o e → IsMergeAt o
merge_fits_if ops lines at past (Merging seg) o m h = merge_fits ops lines at past seg o h
merge_fits_if ops lines at past e o m h = absurd (cc)

pub merge_command : (logged : Bool) (lane : ℕ) (lines : List Line) (at : At) (past : Past) → at.lane.0 ≡ lane → ServesLane logged lane lines past
    → has_merging at past ≡ true → IsMergeAt (command_at lines at)
merge_command logged lane lines at [] mine serves h = absurd (false≢true h)
merge_command logged lane lines at (e ∷ past) mine serves h =
    by_test (begins_merge e.event && same_at e.at at) (λ b. (b || has_merging at past) ≡ true → IsMergeAt (command_at lines at))
    (λ here f.
    let parts = and_parts (begins_merge e.event) (same_at e.at at) here in
    let same : e.at ≡ at = same_at_is e.at at parts.1 in
    let is_lane : (e.at.lane.0 == lane) ≡ true = rw (ap (λ (a : At). a.lane.0) same ∙ mine) (lane_self lane) in
    let fits : Fits (due logged past) lines past e.at (command_at lines e.at) e.event = off_this _ _ is_lane serves.0 in
    subst (λ (a : At). IsMergeAt (command_at lines a)) same (merge_fits_if (due logged past) lines e.at past e.event _ parts.0 fits))
    (λ other f. merge_command logged lane lines at past mine serves.1 f)
    h

-- a fault of a merge's task is one that its line asks for
fault_turn : (lines : List Line) (a : At) (past : Past) (e : Event) (o : Option LineCommand) → FollowsMerging a e past → IsMergeAt o → FitsTurn lines past a o e
fault_turn lines a past (Met n kind) (Some (Merge factor)) f m = tt
fault_turn lines a past (Met n kind) o f m = absurd m
fault_turn lines a past e o f m = absurd f

fault_fits : (ops : List Op) (lines : List Line) (a : At) (past : Past) (e : Event) (o : Option LineCommand) → ops ≡ [] → FollowsMerging a e past → IsMergeAt o
    → Fits ops lines past a o e
fault_fits [] lines a past e o none f m = fault_turn lines a past e o f m
fault_fits (op ∷ ops) lines a past e o none f m = absurd (cc)

-- ---- a part of the walk, over the lines of one phase, goes on in the walk over all

-- an entry may come behind those that owe nothing more
first_on_any : (lane : ℕ) (lines : List Line) (behind : Option Mark) (log : Log) → FirstOnLane lane lines None log → FirstOnLane lane lines behind log
first_on_any lane lines behind [] s = tt
first_on_any lane lines behind (Shown e ∷ log) s = (on_map (e.at.lane.0 == lane) _ _ (λ same owed. first_any (command_at lines e.at) behind e.at e.event owed) s.0, s.1)
first_on_any lane lines behind (TaskFault e ∷ log) s = s
first_on_any lane lines behind (Kept i ∷ log) s = s

module _ (logged : Bool) (lane : ℕ) (done part later : List Line) (apart : (at : At) (c : LineCommand) → command_at part at ≡ Some c → has_line done at ≡ false) where
  fits_in : (ops : List Op) (at : At) (past : Past) (e : Event) (o : Option LineCommand) → command_at part at ≡ o → all_answered done past ≡ true
      → Fits ops part past at o e → Fits ops (done ++ (part ++ later)) past at (command_at (done ++ (part ++ later)) at) e
  fits_in ops at past e None is d h = absurd (fits_nowhere ops part past at e h)
  fits_in ops at past e (Some c) is d h =
      let found : command_at (done ++ (part ++ later)) at ≡ Some c = command_past done (part ++ later) at (apart at c is) ∙ command_in part later at c is in
      rw found (fits_wider ops part (done ++ (part ++ later)) c at past e
      (λ early. earlier_past done (part ++ later) at past d (earlier_in part later at past (has_command part at c is) early)) h)

  pub serves_part : (behind : Option Mark) (more old : Log) → ServesSince logged lane part behind more old → FaultsFit logged (more ++ old) → all_answered done (printed old) ≡ true
      → ServesLane logged lane (done ++ (part ++ later)) (printed old) → ServesLane logged lane (done ++ (part ++ later)) (printed (more ++ old))
  serves_part behind [] old h f d s = s
  serves_part behind (Shown e ∷ more) old h f d s =
      let past : Past = printed (more ++ old) in (
        on_map (e.at.lane.0 == lane) _ _ (λ same owed. fits_in (due logged past) e.at past e.event (command_at part e.at) refl (all_answered_stays done more old d) owed.0) h.0,
        serves_part (Some (Shown e)) more old h.1 (record { follow = f.follow; wait = f.wait }) d s,
      )
  serves_part behind (TaskFault e ∷ more) old h f d s =
      let past : Past = printed (more ++ old) in
      let before : ServesLane logged lane (done ++ (part ++ later)) past = serves_part (Some (TaskFault e)) more old h (record { follow = f.follow.1; wait = f.wait.1 }) d s in (
        by_test (e.at.lane.0 == lane) (λ b. OnLane b (Fits (due logged past) (done ++ (part ++ later)) past e.at (command_at (done ++ (part ++ later)) e.at) e.event))
            (λ same.
            let asks = merge_command logged lane (done ++ (part ++ later)) e.at past (eqb-true e.at.lane.0 lane same) before (merging_there e.at e.event past f.follow.0) in
            fault_fits (due logged past) _ e.at past e.event _ f.wait.0 f.follow.0 asks)
            (λ other. tt),
        before,
      )
  serves_part behind (Kept i ∷ more) old h f d s = serves_part (Some (Kept i)) more old h (record { follow = f.follow; wait = f.wait }) d s

  -- an answer `none` that is so among the lines of the part is so among all
  none_in : (ops : List Op) (at : At) (log : Log) (e : Event) (o : Option LineCommand) → command_at part at ≡ o → Fits ops part (printed log) at o e → NoneIsSo o log e
      → NoneIsSo (command_at (done ++ (part ++ later)) at) log e
  none_in ops at log e None is fits none = absurd (fits_nowhere ops part (printed log) at e fits)
  none_in ops at log e (Some c) is fits none =
      let found : command_at (done ++ (part ++ later)) at ≡ Some c = command_past done (part ++ later) at (apart at c is) ∙ command_in part later at c is in
      λ asks. none (sym found ∙ asks)

  pub none_part : (behind : Option Mark) (more old : Log) → ServesSince logged lane part behind more old → NoneOnLane lane (done ++ (part ++ later)) old → NoneOnLane lane (done ++ (part ++ later)) (more ++ old)
  none_part behind [] old h n = n
  none_part behind (Shown e ∷ more) old h n = (
    on_map (e.at.lane.0 == lane) _ _ (λ same owed. none_in (due logged (printed (more ++ old))) e.at (more ++ old) e.event (command_at part e.at) refl owed.0 owed.1) h.0,
    none_part (Some (Shown e)) more old h.1 n,
  )
  none_part behind (TaskFault e ∷ more) old h n = none_part (Some (TaskFault e)) more old h n
  none_part behind (Kept i ∷ more) old h n = none_part (Some (Kept i)) more old h n

  -- a merge that takes its first range among the lines of the part takes it among all
  first_in : (ops : List Op) (at : At) (behind : Option Mark) (past : Past) (e : Event) (o : Option LineCommand) → command_at part at ≡ o → Fits ops part past at o e → FirstIsSo o behind at e
      → FirstIsSo (command_at (done ++ (part ++ later)) at) behind at e
  first_in ops at behind past e None is fits first = absurd (fits_nowhere ops part past at e fits)
  first_in ops at behind past e (Some c) is fits first =
      let found : command_at (done ++ (part ++ later)) at ≡ Some c = command_past done (part ++ later) at (apart at c is) ∙ command_in part later at c is in
      subst (λ (o : Option LineCommand). FirstIsSo o behind at e) (sym found) first

  pub first_part : (behind : Option Mark) (more old : Log) → ServesSince logged lane part behind more old → FirstOnLane lane (done ++ (part ++ later)) None old
      → FirstOnLane lane (done ++ (part ++ later)) behind (more ++ old)
  first_part behind [] old h s = first_on_any lane (done ++ (part ++ later)) behind old s
  first_part behind (Shown e ∷ more) old h s = (
    on_map (e.at.lane.0 == lane) _ _ (λ same owed. first_in (due logged (printed (more ++ old))) e.at behind (printed (more ++ old)) e.event (command_at part e.at) refl owed.0 owed.2) h.0,
    first_part (Some (Shown e)) more old h.1 s,
  )
  first_part behind (TaskFault e ∷ more) old h s = first_part (Some (TaskFault e)) more old h s
  first_part behind (Kept i ∷ more) old h s = first_part (Some (Kept i)) more old h s

-- ---- lines of the lane that are not of this part stay without an entry

pub fresh_since : (logged : Bool) (lane : ℕ) (part : List Line) (at : At) (behind : Option Mark) (more old : Log) → at.lane.0 ≡ lane → has_line part at ≡ false
    → ServesSince logged lane part behind more old → FaultsFit logged (more ++ old) → entries_of_line at (printed old) ≡ [] → entries_of_line at (printed (more ++ old)) ≡ []
fresh_since logged lane part at behind [] old mine none h f fresh = fresh
fresh_since logged lane part at behind (Shown e ∷ more) old mine none h f fresh =
    let past : Past = printed (more ++ old) in
    let ih = fresh_since logged lane part at (Some (Shown e)) more old mine none h.1 (record { follow = f.follow; wait = f.wait }) fresh in
    by_test (same_at e.at at) (λ b. (if b then e ∷ entries_of_line at past else entries_of_line at past) ≡ [])
    (λ same.
    let is : e.at ≡ at = same_at_is e.at at same in
    let is_lane : (e.at.lane.0 == lane) ≡ true = rw (ap (λ (a : At). a.lane.0) is ∙ mine) (lane_self lane) in
    let fits : Fits (due logged past) part past e.at (command_at part e.at) e.event = (off_this _ _ is_lane h.0).0 in
    let nothing : command_at part e.at ≡ None = ap (command_at part) is ∙ no_command part at none in
    absurd (fits_nowhere (due logged past) part past e.at e.event (subst (λ (o : Option LineCommand). Fits (due logged past) part past e.at o e.event) nothing fits)))
    (λ other. ih)
fresh_since logged lane part at behind (TaskFault e ∷ more) old mine none h f fresh =
    let past : Past = printed (more ++ old) in
    let ih = fresh_since logged lane part at (Some (TaskFault e)) more old mine none h (record { follow = f.follow.1; wait = f.wait.1 }) fresh in
    ap (λ (t : Bool). if t then e ∷ entries_of_line at past else entries_of_line at past) (fresh_fault at e.at e.event past f.follow.0 ih) ∙ ih
fresh_since logged lane part at behind (Kept i ∷ more) old mine none h f fresh =
    fresh_since logged lane part at (Some (Kept i)) more old mine none h (record { follow = f.follow; wait = f.wait }) fresh
