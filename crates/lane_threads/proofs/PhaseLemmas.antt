-- Phase after phase of one lane.
use Rattle.std.proofs.Common.{◌≡◌, ◌&&◌, ◌||◌, ◌==◌, ℕ, ◌+◌, ◌<◌, Bool, true, false, List, [], ◌∷◌, ◌++◌, Some, Option, refl, ap, ◌∙◌, sym, subst, if◌then◌else◌, length, take, drop, get_or, suc, add-one, drop-cons, None}
use Rattle.std.specs.List.{list_all}
use Rattle.std.proofs.lemmas.Grind.{flat_map-append}
use Rattle.std.proofs.lemmas.List.{take-append-drop, take_more}
use Rattle.std.proofs.lemmas.List.Folds.{list_all-append}
use Rattle.std.proofs.lemmas.Bool.{and_parts, and_from, or_left, or_right, eqb-true}
use Rattle.history_tables.proofs.RowLemmas.{by_test, same_at_self}
use Rattle.nrt_base.specs.declared.numbers.At.{At}
use Rattle.history_rules.specs.declared.entry.Event.{Event}
use Rattle.history_rules.specs.declared.entry.Event.TheVariants.{Fault as Met}
use Rattle.history_rules.specs.Nodes.{Past}
use Rattle.history_rules.specs.Lines.{same_at}
use Rattle.script_serving.specs.declared.script.Line.{Line}
use Rattle.script_serving.specs.declared.script.LineCommand.{LineCommand}
use Rattle.script_serving.specs.declared.script.LineCommand.TheVariants.{Merge}
use Rattle.script_serving.specs.declared.script.Phase.{Phase}
use Rattle.script_serving.specs.Lines.{command_at, has_line, all_answered, lines_of_phase, lines_under, earlier_phases_answered}
use Rattle.script_serving.specs.Form.{is_phase, are_ascending}
use Rattle.script_serving.specs.Replays.{due}
use Rattle.script_serving.specs.Serves.{is_merge_fault}
use Rattle.script_serving.proofs.ServingLemmas.{in_front}
use Rattle.history_book.specs.declared.inner.Mark.{Mark}
use Rattle.history_book.specs.declared.inner.Mark.TheVariants.{Shown, TaskFault, Kept}
use Rattle.history_book.specs.Log.{Log, printed, FollowsMerging}
use Rattle.lane_threads.specs.Owes.{FaultsFit}
use Rattle.lane_threads.specs.Walks.{OnLane, NoneOf, ServesSince, GrowsByOthers, AreUnbegun, ArePart}
use Rattle.lane_threads.specs.Phases.{lines_in, lane_lines, ArePhasesInForm, ServesLane, ServesLanePhases, NoneOnLane, FirstOnLane, LaneServes, LaneReady, PhaseDone}
use Rattle.lane_threads.proofs.WalkLemmas.{other_lane, on_other, on_map, none_serves, all_answered_stays}
use Rattle.lane_threads.proofs.StayLemmas.{merging_there}
use Rattle.lane_threads.proofs.PartLemmas.{IsMergeAt, has_command, fits_line, merge_command, serves_part, none_part, first_part, fresh_since}
use Rattle.lane_threads.proofs.FormLemmas.{answered-append, answered_front, answered_back, command_of_lane, line_of_phase, line_behind, ascending_back, ascending_front, lane_answered, under_owned, lane_owned}

-- ---- lines without entries

pub fresh_front : (xs ys : List Line) (past : Past) → AreUnbegun (xs ++ ys) past → AreUnbegun xs past
fresh_front [] ys past h = tt
fresh_front (x ∷ xs) ys past h = (h.0, fresh_front xs ys past h.1)

pub fresh_back : (xs ys : List Line) (past : Past) → AreUnbegun (xs ++ ys) past → AreUnbegun ys past
fresh_back [] ys past h = h
fresh_back (x ∷ xs) ys past h = fresh_back xs ys past h.1

fresh_at_first : (ls : List Line) → AreUnbegun ls []
fresh_at_first [] = tt
fresh_at_first (l ∷ ls) = (refl, fresh_at_first ls)

-- lines of the lane that are none of a part's stay without an entry while the part is done
pub fresh_beyond : (logged : Bool) (lane : ℕ) (part all ls : List Line) (more old : Log) → ((at : At) → has_line ls at ≡ true → has_line all at ≡ true)
    → list_all (λ line. line.at.lane.0 == lane) ls ≡ true → are_ascending (part ++ all) ≡ true → ServesSince logged lane part None more old
    → FaultsFit logged (more ++ old) → AreUnbegun ls (printed old) → AreUnbegun ls (printed (more ++ old))
fresh_beyond logged lane part all [] more old sub own asc s f fresh = tt
fresh_beyond logged lane part all (l ∷ ls) more old sub own asc s f fresh =
    let parts = and_parts (l.at.lane.0 == lane) (list_all (λ line. line.at.lane.0 == lane) ls) own in
    let there : has_line all l.at ≡ true = sub l.at (or_left (same_at l.at l.at) (has_line ls l.at) (same_at_self l.at)) in (
      fresh_since logged lane part l.at None more old (eqb-true l.at.lane.0 lane parts.0) (line_behind part all l.at asc there) s f fresh.0,
      fresh_beyond logged lane part all ls more old (λ at h. sub at (or_right (same_at l.at at) (has_line ls at) h)) parts.1 asc s f fresh.1,
    )

-- ---- an entry in its phase

-- where the phases before its own are answered, an entry is in its phase
earlier_phases : (before after : List Phase) (phase : Phase) (at : At) (past : Past) → all_answered (lines_in before) past ≡ true
    → has_line (lines_of_phase phase) at ≡ true → earlier_phases_answered (before ++ phase ∷ after) at past ≡ true
earlier_phases [] after phase at past h k = rw k refl
earlier_phases (p ∷ before) after phase at past h k =
    by_line (has_line (lines_of_phase p) at) (answered_front (lines_of_phase p) (lines_in before) past h)
    (earlier_phases before after phase at past (answered_back (lines_of_phase p) (lines_in before) past h) k)
  where
    by_line : (b : Bool) → all_answered (lines_of_phase p) past ≡ true → earlier_phases_answered (before ++ phase ∷ after) at past ≡ true
        → (if b then true else all_answered (lines_of_phase p) past && earlier_phases_answered (before ++ phase ∷ after) at past) ≡ true
    by_line true here ih = refl
    by_line false here ih = and_from _ _ here ih

task_fault : (o : Option LineCommand) (a : At) (e : Event) (past : Past) → FollowsMerging a e past → IsMergeAt o → is_merge_fault o e ≡ true
task_fault (Some (Merge factor)) a (Met n kind) past f m = refl
task_fault o a (Met n kind) past f m = absurd m
task_fault o a e past f m = absurd f

-- a fault of a merge's task may come in any phase
merge_in_phase : (logged : Bool) (lane : ℕ) (phases : List Phase) (at : At) (e : Event) (past : Past) → list_all is_phase phases ≡ true → at.lane.0 ≡ lane
    → ServesLane logged lane (lane_lines lane phases) past → FollowsMerging at e past
    → (is_merge_fault (command_at (lines_in phases) at) e || earlier_phases_answered phases at past) ≡ true
merge_in_phase logged lane phases at e past under mine serves follows =
    let asks : IsMergeAt (command_at (lane_lines lane phases) at) = merge_command logged lane (lane_lines lane phases) at past mine serves (merging_there at e past follows) in
    let found : command_at (lines_in phases) at ≡ command_at (lane_lines lane phases) at =
    command_of_lane phases at under ∙ ap (λ (n : ℕ). command_at (lane_lines n phases) at) mine in
    or_left _ _ (task_fault _ at e past follows (subst IsMergeAt (sym found) asks))

-- ---- one phase of one lane

module _ (logged : Bool) (lane : ℕ) (phases before after : List Phase) (phase : Phase) (form : ArePhasesInForm phases) (split : phases ≡ before ++ phase ∷ after) where
  whole_is : lane_lines lane phases ≡ lane_lines lane before ++ (lines_under lane phase.lanes ++ lane_lines lane after)
  whole_is = ap (lane_lines lane) split ∙ flat_map-append (λ (p : Phase). lines_under lane p.lanes) before (phase ∷ after)

  ordered : are_ascending (lane_lines lane before ++ (lines_under lane phase.lanes ++ lane_lines lane after)) ≡ true
  ordered = subst (λ (ls : List Line). are_ascending ls ≡ true) whole_is (form.ordered lane)

  not_before : (at : At) (c : LineCommand) → command_at (lines_under lane phase.lanes) at ≡ Some c → has_line (lane_lines lane before) at ≡ false
  not_before at c h =
      line_behind (lane_lines lane before) _ at ordered
      (in_front (lines_under lane phase.lanes) (lane_lines lane after) at (has_command (lines_under lane phase.lanes) at c h))

  serves_on : (behind : Option Mark) (more old : Log) → ServesSince logged lane (lines_under lane phase.lanes) behind more old → FaultsFit logged (more ++ old)
      → all_answered (lines_in before) (printed old) ≡ true → ServesLane logged lane (lane_lines lane phases) (printed old)
      → ServesLane logged lane (lane_lines lane phases) (printed (more ++ old))
  serves_on behind more old h f d s =
      subst (λ (ls : List Line). ServesLane logged lane ls (printed (more ++ old))) (sym whole_is)
      (serves_part logged lane (lane_lines lane before) (lines_under lane phase.lanes) (lane_lines lane after) not_before behind more old h f
      (lane_answered lane before (printed old) d) (subst (λ (ls : List Line). ServesLane logged lane ls (printed old)) whole_is s))

  none_on : (more old : Log) → ServesSince logged lane (lines_under lane phase.lanes) None more old → NoneOnLane lane (lane_lines lane phases) old → NoneOnLane lane (lane_lines lane phases) (more ++ old)
  none_on more old h n =
      subst (λ (ls : List Line). NoneOnLane lane ls (more ++ old)) (sym whole_is)
      (none_part logged lane (lane_lines lane before) (lines_under lane phase.lanes) (lane_lines lane after) not_before None more old h
      (subst (λ (ls : List Line). NoneOnLane lane ls old) whole_is n))

  first_on : (more old : Log) → ServesSince logged lane (lines_under lane phase.lanes) None more old → FirstOnLane lane (lane_lines lane phases) None old
      → FirstOnLane lane (lane_lines lane phases) None (more ++ old)
  first_on more old h s =
      subst (λ (ls : List Line). FirstOnLane lane ls None (more ++ old)) (sym whole_is)
      (first_part logged lane (lane_lines lane before) (lines_under lane phase.lanes) (lane_lines lane after) not_before None more old h
      (subst (λ (ls : List Line). FirstOnLane lane ls None old) whole_is s))

  in_phase_here : (at : At) (past : Past) (b : Bool) → has_line (lines_under lane phase.lanes) at ≡ true → all_answered (lines_in before) past ≡ true
      → (b || earlier_phases_answered phases at past) ≡ true
  in_phase_here at past b h d =
      or_right b _ (subst (λ (ps : List Phase). earlier_phases_answered ps at past ≡ true) (sym split)
      (earlier_phases before after phase at past d (line_of_phase lane phase at h)))

  phases_on : (behind : Option Mark) (more old : Log) → ServesSince logged lane (lines_under lane phase.lanes) behind more old → FaultsFit logged (more ++ old)
      → all_answered (lines_in before) (printed old) ≡ true → ServesLane logged lane (lane_lines lane phases) (printed old)
      → ServesLanePhases lane (lines_in phases) phases (printed old) → ServesLanePhases lane (lines_in phases) phases (printed (more ++ old))
  phases_on behind [] old h f d s p = p
  phases_on behind (Shown e ∷ more) old h f d s p =
      let past : Past = printed (more ++ old) in (
        on_map (e.at.lane.0 == lane) _ _ (λ same owed.
            in_phase_here e.at past (is_merge_fault (command_at (lines_in phases) e.at) e.event)
            (fits_line (due logged past) (lines_under lane phase.lanes) past e.at e.event owed.0) (all_answered_stays (lines_in before) more old d)) h.0,
        phases_on (Some (Shown e)) more old h.1 (record { follow = f.follow; wait = f.wait }) d s p,
      )
  phases_on behind (TaskFault e ∷ more) old h f d s p =
      let past : Past = printed (more ++ old) in
      let fit : FaultsFit logged (more ++ old) = record { follow = f.follow.1; wait = f.wait.1 } in (
        by_test (e.at.lane.0 == lane) (λ b. OnLane b ((is_merge_fault (command_at (lines_in phases) e.at) e.event || earlier_phases_answered phases e.at past) ≡ true))
            (λ same. merge_in_phase logged lane phases e.at e.event past form.under (eqb-true e.at.lane.0 lane same) (serves_on (Some (TaskFault e)) more old h fit d s) f.follow.0)
            (λ other. tt),
        phases_on (Some (TaskFault e)) more old h fit d s p,
      )
  phases_on behind (Kept i ∷ more) old h f d s p = phases_on (Some (Kept i)) more old h (record { follow = f.follow; wait = f.wait }) d s p

  after_owned : list_all is_phase after ≡ true
  after_owned =
      let all = subst (λ (ps : List Phase). list_all is_phase ps ≡ true) split form.under in
      let rest = and_parts (list_all is_phase before) (list_all is_phase (phase ∷ after)) (sym (list_all-append is_phase before (phase ∷ after)) ∙ all) in
      (and_parts (is_phase phase) (list_all is_phase after) rest.1).1

  -- a lane that is ready for the phase, and has done it, is ready for the next
  pub ready_next : (old new : Log) → LaneReady logged lane phases before (phase ∷ after) old → PhaseDone logged lane phase old new
      → LaneReady logged lane phases (before ++ phase ∷ []) after new
  ready_next old new ready done =
      let more : Log = done.goes.more in
      let is : new ≡ more ++ old = done.goes.log in
      let faults : FaultsFit logged (more ++ old) = subst (FaultsFit logged) is done.goes.faults in
      let stays : all_answered (lines_in before) (printed new) ≡ true =
      subst (λ (l : Log). all_answered (lines_in before) (printed l) ≡ true) (sym is) (all_answered_stays (lines_in before) more old ready.answered) in
      record {
        serves = record {
          serves = subst (λ (l : Log). ServesLane logged lane (lane_lines lane phases) (printed l)) (sym is)
              (serves_on None more old done.goes.serves faults ready.answered ready.serves.serves);
          in_phase = subst (λ (l : Log). ServesLanePhases lane (lines_in phases) phases (printed l)) (sym is)
              (phases_on None more old done.goes.serves faults ready.answered ready.serves.serves ready.serves.in_phase);
          none = subst (λ (l : Log). NoneOnLane lane (lane_lines lane phases) l) (sym is) (none_on more old done.goes.serves ready.serves.none);
          first = subst (λ (l : Log). FirstOnLane lane (lane_lines lane phases) None l) (sym is) (first_on more old done.goes.serves ready.serves.first);
        };
        answered = subst (λ (ls : List Line). all_answered ls (printed new) ≡ true) (sym (flat_map-append lines_of_phase before (phase ∷ [])))
            (answered-append (lines_in before) (lines_of_phase phase ++ []) (printed new) stays
            (answered-append (lines_of_phase phase) [] (printed new) done.answered refl));
        fresh = subst (λ (l : Log). AreUnbegun (lane_lines lane after) (printed l)) (sym is)
            (fresh_beyond logged lane (lines_under lane phase.lanes) (lane_lines lane after) (lane_lines lane after) more old (λ at h. h)
            (lane_owned lane after after_owned) (ascending_back (lane_lines lane before) _ ordered)
            done.goes.serves faults (fresh_back (lines_under lane phase.lanes) (lane_lines lane after) (printed old) ready.fresh));
        faults = done.goes.faults;
      }

-- before anything happened each lane is ready
pub ready_first : (logged : Bool) (lane : ℕ) (phases : List Phase) → LaneReady logged lane phases [] phases []
ready_first logged lane phases =
    record {
      serves = record { serves = tt; in_phase = tt; none = tt; first = tt };
      answered = refl;
      fresh = fresh_at_first (lane_lines lane phases);
      faults = record { follow = tt; wait = tt };
    }

-- ---- the phase at a place

module _ (logged : Bool) (lane : ℕ) (phases : List Phase) (form : ArePhasesInForm phases) (k : ℕ) (phase : Phase) (is : phase ≡ get_or phases k phase) (within : k < length phases) where
  dropped : drop k phases ≡ phase ∷ drop (k + 1) phases
  dropped = rw (add-one, drop-cons phases k phase) (ap (λ (x : Phase). x ∷ drop (suc k) phases) (sym is))

  split : phases ≡ take k phases ++ phase ∷ drop (k + 1) phases
  split = sym (take-append-drop k phases) ∙ ap (λ (ps : List Phase). take k phases ++ ps) dropped

  taken : take (k + 1) phases ≡ take k phases ++ phase ∷ []
  taken = take_more phases k phase within ∙ ap (λ (x : Phase). take k phases ++ x ∷ []) (sym is)

  pub phase_form : is_phase phase ≡ true
  phase_form =
      let all = subst (λ (ps : List Phase). list_all is_phase ps ≡ true) split form.under in
      let rest = and_parts (list_all is_phase (take k phases)) (list_all is_phase (phase ∷ drop (k + 1) phases))
      (sym (list_all-append is_phase (take k phases) (phase ∷ drop (k + 1) phases)) ∙ all) in
      (and_parts (is_phase phase) (list_all is_phase (drop (k + 1) phases)) rest.1).0

  -- the lane's lines of it are its own, and ascend
  pub part_of : ArePart lane (lines_under lane phase.lanes)
  part_of =
      let whole : lane_lines lane phases ≡ lane_lines lane (take k phases) ++ (lines_under lane phase.lanes ++ lane_lines lane (drop (k + 1) phases)) =
      ap (lane_lines lane) split ∙ flat_map-append (λ (p : Phase). lines_under lane p.lanes) (take k phases) (phase ∷ drop (k + 1) phases) in
      let asc = subst (λ (ls : List Line). are_ascending ls ≡ true) whole (form.ordered lane) in
      record {
        own = under_owned lane phase phase_form;
        ascending = ascending_front (lines_under lane phase.lanes) (lane_lines lane (drop (k + 1) phases)) (ascending_back (lane_lines lane (take k phases)) _ asc);
      }

  ready_here : (log : Log) → LaneReady logged lane phases (take k phases) (drop k phases) log → LaneReady logged lane phases (take k phases) (phase ∷ drop (k + 1) phases) log
  ready_here log r = subst (λ (ps : List Phase). LaneReady logged lane phases (take k phases) ps log) dropped r

  -- and have no entry yet where the lane is ready for it
  pub part_fresh : (log : Log) → LaneReady logged lane phases (take k phases) (drop k phases) log → AreUnbegun (lines_under lane phase.lanes) (printed log)
  part_fresh log r = fresh_front (lines_under lane phase.lanes) (lane_lines lane (drop (k + 1) phases)) (printed log) (ready_here log r).fresh

  pub ready_after : (old new : Log) → LaneReady logged lane phases (take k phases) (drop k phases) old → PhaseDone logged lane phase old new
      → LaneReady logged lane phases (take (k + 1) phases) (drop (k + 1) phases) new
  ready_after old new r done =
      subst (λ (ps : List Phase). LaneReady logged lane phases ps (drop (k + 1) phases) new) (sym taken)
      (ready_next logged lane phases (take k phases) (drop (k + 1) phases) phase form split old new (ready_here old r) done)

-- ---- others leave what a lane has served

serves_apart_on : (logged : Bool) (lane : ℕ) (lines : List Line) (more old : Log) → NoneOf lane more → FaultsFit logged (more ++ old)
    → ServesLane logged lane lines (printed old) → ServesLane logged lane lines (printed (more ++ old))
serves_apart_on logged lane lines more old h f s =
    serves_part logged lane [] [] lines (λ at c e. absurd (cc)) None more old (none_serves logged lane [] None more old h) f refl s

phases_apart : (logged : Bool) (lane : ℕ) (phases : List Phase) (more old : Log) → list_all is_phase phases ≡ true → NoneOf lane more → FaultsFit logged (more ++ old)
    → ServesLane logged lane (lane_lines lane phases) (printed old) → ServesLanePhases lane (lines_in phases) phases (printed old)
    → ServesLanePhases lane (lines_in phases) phases (printed (more ++ old))
phases_apart logged lane phases [] old under h f s p = p
phases_apart logged lane phases (Shown e ∷ more) old under h f s p =
    (on_other _ _ (other_lane e.at.lane.0 lane h.0), phases_apart logged lane phases more old under h.1 (record { follow = f.follow; wait = f.wait }) s p)
phases_apart logged lane phases (TaskFault e ∷ more) old under h f s p =
    let past : Past = printed (more ++ old) in
    let fit : FaultsFit logged (more ++ old) = record { follow = f.follow.1; wait = f.wait.1 } in (
      by_test (e.at.lane.0 == lane) (λ b. OnLane b ((is_merge_fault (command_at (lines_in phases) e.at) e.event || earlier_phases_answered phases e.at past) ≡ true))
          (λ same. merge_in_phase logged lane phases e.at e.event past under (eqb-true e.at.lane.0 lane same) (serves_apart_on logged lane (lane_lines lane phases) more old h.1 fit s) f.follow.0)
          (λ other. tt),
      phases_apart logged lane phases more old under h.1 fit s p,
    )
phases_apart logged lane phases (Kept i ∷ more) old under h f s p = phases_apart logged lane phases more old under h.1 (record { follow = f.follow; wait = f.wait }) s p

pub serves_apart : (logged : Bool) (lane : ℕ) (phases : List Phase) (old new : Log) → list_all is_phase phases ≡ true → GrowsByOthers logged lane old new
    → LaneServes logged lane phases old → LaneServes logged lane phases new
serves_apart logged lane phases old new under h s =
    let faults : FaultsFit logged (h.more ++ old) = subst (FaultsFit logged) h.log h.faults in
    record {
      serves = subst (λ (l : Log). ServesLane logged lane (lane_lines lane phases) (printed l)) (sym h.log)
          (serves_apart_on logged lane (lane_lines lane phases) h.more old h.apart faults s.serves);
      in_phase = subst (λ (l : Log). ServesLanePhases lane (lines_in phases) phases (printed l)) (sym h.log)
          (phases_apart logged lane phases h.more old under h.apart faults s.serves s.in_phase);
      none = subst (λ (l : Log). NoneOnLane lane (lane_lines lane phases) l) (sym h.log)
          (none_part logged lane [] [] (lane_lines lane phases) (λ at c e. absurd (cc)) None h.more old (none_serves logged lane [] None h.more old h.apart) s.none);
      first = subst (λ (l : Log). FirstOnLane lane (lane_lines lane phases) None l) (sym h.log)
          (first_part logged lane [] [] (lane_lines lane phases) (λ at c e. absurd (cc)) None h.more old (none_serves logged lane [] None h.more old h.apart) s.first);
    }
