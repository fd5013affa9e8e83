-- What others append leaves a line where it is.
use Rattle.std.proofs.Common.{◌≡◌, ◌≢◌, ◌&&◌, ◌||◌, ◌==◌, Bool, true, false, [], ◌∷◌, ◌++◌, Some, refl, ap, ◌∙◌, sym, subst, if◌then◌else◌}
use Rattle.std.proofs.lemmas.Bool.{true≢false}
use Rattle.history_tables.proofs.RowLemmas.{by_test, same_at_is}
use Rattle.nrt_base.specs.declared.numbers.At.{At}
use Rattle.history_rules.specs.declared.entry.Event.{Event}
use Rattle.history_rules.specs.declared.entry.Event.TheVariants.{Fault as Met}
use Rattle.history_rules.specs.Nodes.{Past}
use Rattle.history_rules.specs.Lines.{same_at, is_start, is_reply, is_answered, last_of_line, start_entry, before_start, entries_of_line}
use Rattle.history_book.specs.declared.inner.Mark.TheVariants.{Shown, TaskFault, Kept}
use Rattle.history_book.specs.Log.{Log, printed, lane_name, has_merging, begins_merge, FollowsMerging, FaultsFollow}
use Rattle.history_book.specs.Steps.{last_by}
use Rattle.lane_threads.specs.Walks.{NoneOf, GrowsByOthers, LineStays}
use Rattle.lane_threads.proofs.WalkLemmas.{other_lane}

pub more_printed : (more old : Log) → printed (more ++ old) ≡ printed more ++ printed old
more_printed [] old = refl
more_printed (Shown e ∷ more) old = ap (λ (p : Past). e ∷ p) (more_printed more old)
more_printed (TaskFault e ∷ more) old = ap (λ (p : Past). e ∷ p) (more_printed more old)
more_printed (Kept i ∷ more) old = more_printed more old

pub other_line : (a b : At) → lane_name a.lane.0 ≢ lane_name b.lane.0 → same_at a b ≡ false
other_line a b e = ap (λ (t : Bool). t && (a.line.0 == b.line.0)) (other_lane a.lane.0 b.lane.0 e)

-- ---- merges

-- a line without an entry has no merge
no_merging : (at : At) (past : Past) → entries_of_line at past ≡ [] → has_merging at past ≡ false
no_merging at [] h = refl
no_merging at (e ∷ past) h = by_line (same_at e.at at) (begins_merge e.event) h (no_merging at past)
  where
    by_line : (b m : Bool) → (if b then e ∷ entries_of_line at past else entries_of_line at past) ≡ []
        → (entries_of_line at past ≡ [] → has_merging at past ≡ false) → ((m && b) || has_merging at past) ≡ false
    by_line true m f ih = absurd (cc)
    by_line false true f ih = ih f
    by_line false false f ih = ih f

pub merging_there : (a : At) (e : Event) (past : Past) → FollowsMerging a e past → has_merging a past ≡ true
merging_there a (Met n kind) past f = f
merging_there a e past f = absurd f

-- ---- a fault of a task leaves a line where it is

if_same : {X : Type 0} (b : Bool) (x : X) → (if b then x else x) ≡ x
if_same true x = refl
if_same false x = refl

module _ (at : At) where
  last_fault : (a : At) (e : Event) (past : Past) → FollowsMerging a e past
      → (if same_at a at then last_by e (last_of_line at past) else last_of_line at past) ≡ last_of_line at past
  last_fault a (Met n kind) past f = if_same (same_at a at) (last_of_line at past)
  last_fault a e past f = absurd f

  answered_fault : (a : At) (e : Event) (past : Past) → FollowsMerging a e past → ((is_reply e && same_at a at) || is_answered at past) ≡ is_answered at past
  answered_fault a (Met n kind) past f = refl
  answered_fault a e past f = absurd f

  start_fault : (a : At) (e : Event) (past : Past) → FollowsMerging a e past
      → (if is_start e && same_at a at then Some e else start_entry at past) ≡ start_entry at past
  start_fault a (Met n kind) past f = refl
  start_fault a e past f = absurd f

  before_fault : (a : At) (e : Event) (past : Past) → FollowsMerging a e past
      → (if is_start e && same_at a at then past else before_start at past) ≡ before_start at past
  before_fault a (Met n kind) past f = refl
  before_fault a e past f = absurd f

  -- the fault of a task is none of a line that has no entry
  pub fresh_fault : (a : At) (e : Event) (past : Past) → FollowsMerging a e past → entries_of_line at past ≡ [] → same_at a at ≡ false
  fresh_fault a e past f h =
      by_test (same_at a at) (λ b. b ≡ false)
      (λ same. let there : has_merging at past ≡ true = subst (λ (x : At). has_merging x past ≡ true) (same_at_is a at same) (merging_there a e past f) in
      absurd (true≢false (sym there ∙ no_merging at past h)))
      (λ other. refl)

  -- ---- so do the entries of other lanes

  last_apart : (more old : Log) → NoneOf at.lane.0 more → FaultsFollow (more ++ old) → last_of_line at (printed (more ++ old)) ≡ last_of_line at (printed old)
  last_apart [] old h f = refl
  last_apart (Shown e ∷ more) old h f =
      ap (λ (t : Bool). if t then last_by e.event (last_of_line at (printed (more ++ old))) else last_of_line at (printed (more ++ old))) (other_line e.at at h.0)
      ∙ last_apart more old h.1 f
  last_apart (TaskFault e ∷ more) old h f = last_fault e.at e.event (printed (more ++ old)) f.0 ∙ last_apart more old h.1 f.1
  last_apart (Kept i ∷ more) old h f = last_apart more old h.1 f

  and_none : (a b : Bool) → ((a && false) || b) ≡ b
  and_none true b = refl
  and_none false b = refl

  answered_apart : (more old : Log) → NoneOf at.lane.0 more → FaultsFollow (more ++ old) → is_answered at (printed (more ++ old)) ≡ is_answered at (printed old)
  answered_apart [] old h f = refl
  answered_apart (Shown e ∷ more) old h f =
      (ap (λ (t : Bool). (is_reply e.event && t) || is_answered at (printed (more ++ old))) (other_line e.at at h.0) ∙ and_none (is_reply e.event) _)
      ∙ answered_apart more old h.1 f
  answered_apart (TaskFault e ∷ more) old h f = answered_fault e.at e.event (printed (more ++ old)) f.0 ∙ answered_apart more old h.1 f.1
  answered_apart (Kept i ∷ more) old h f = answered_apart more old h.1 f

  if_none : {X : Type 0} (a : Bool) (x y : X) → (if a && false then x else y) ≡ y
  if_none true x y = refl
  if_none false x y = refl

  start_apart : (more old : Log) → NoneOf at.lane.0 more → FaultsFollow (more ++ old) → start_entry at (printed (more ++ old)) ≡ start_entry at (printed old)
  start_apart [] old h f = refl
  start_apart (Shown e ∷ more) old h f =
      (ap (λ (t : Bool). if is_start e.event && t then Some e.event else start_entry at (printed (more ++ old))) (other_line e.at at h.0)
      ∙ if_none (is_start e.event) _ _)
      ∙ start_apart more old h.1 f
  start_apart (TaskFault e ∷ more) old h f = start_fault e.at e.event (printed (more ++ old)) f.0 ∙ start_apart more old h.1 f.1
  start_apart (Kept i ∷ more) old h f = start_apart more old h.1 f

  before_apart : (more old : Log) → NoneOf at.lane.0 more → FaultsFollow (more ++ old) → before_start at (printed (more ++ old)) ≡ before_start at (printed old)
  before_apart [] old h f = refl
  before_apart (Shown e ∷ more) old h f =
      (ap (λ (t : Bool). if is_start e.event && t then printed (more ++ old) else before_start at (printed (more ++ old))) (other_line e.at at h.0)
      ∙ if_none (is_start e.event) _ _)
      ∙ before_apart more old h.1 f
  before_apart (TaskFault e ∷ more) old h f = before_fault e.at e.event (printed (more ++ old)) f.0 ∙ before_apart more old h.1 f.1
  before_apart (Kept i ∷ more) old h f = before_apart more old h.1 f

  fresh_apart : (more old : Log) → NoneOf at.lane.0 more → FaultsFollow (more ++ old) → entries_of_line at (printed old) ≡ [] → entries_of_line at (printed (more ++ old)) ≡ []
  fresh_apart [] old h f fresh = fresh
  fresh_apart (Shown e ∷ more) old h f fresh =
      ap (λ (t : Bool). if t then e ∷ entries_of_line at (printed (more ++ old)) else entries_of_line at (printed (more ++ old))) (other_line e.at at h.0)
      ∙ fresh_apart more old h.1 f fresh
  fresh_apart (TaskFault e ∷ more) old h f fresh =
      let ih = fresh_apart more old h.1 f.1 fresh in
      ap (λ (t : Bool). if t then e ∷ entries_of_line at (printed (more ++ old)) else entries_of_line at (printed (more ++ old)))
      (fresh_fault e.at e.event (printed (more ++ old)) f.0 ih) ∙ ih
  fresh_apart (Kept i ∷ more) old h f fresh = fresh_apart more old h.1 f fresh

  -- others leave a line where it is
  pub line_stays : (logged : Bool) (old new : Log) → GrowsByOthers logged at.lane.0 old new → LineStays at old new
  line_stays logged old new h =
      let follow : FaultsFollow (h.more ++ old) = subst FaultsFollow h.log h.faults.follow in
      record {
        last = ap (λ (l : Log). last_of_line at (printed l)) h.log ∙ last_apart h.more old h.apart follow;
        replied = ap (λ (l : Log). is_answered at (printed l)) h.log ∙ answered_apart h.more old h.apart follow;
        start = ap (λ (l : Log). start_entry at (printed l)) h.log ∙ start_apart h.more old h.apart follow;
        before = ap (λ (l : Log). before_start at (printed l)) h.log ∙ before_apart h.more old h.apart follow;
        fresh = λ f. ap (λ (l : Log). entries_of_line at (printed l)) h.log ∙ fresh_apart h.more old h.apart follow f;
      }
