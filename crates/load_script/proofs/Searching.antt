-- The publish behind the join makes the point of all documents, the settle brings node 3 to it, and each search answers there.
use Rattle.std.proofs.Common.{◌≡◌, ℕ, ◌+◌, ◌≤◌, ◌<◌, List, [], ◌∷◌, ◌++◌, ◌&&◌, ◌||◌, Bool, true, false, Option, Some, None, length, max, reverse, refl, ap, ◌∙◌, sym, subst, arith, if◌then◌else◌}
use Rattle.std.specs.Prelude.{⊤, ◌==◌, not, nat_lt, slice_get}
use Rattle.std.specs.List.{list_all}
use Rattle.std.specs.Option.{option_or}
use Rattle.std.proofs.lemmas.Bool.{false≢true, true≢false, and_from, and_parts, or_left, or_right, eq-eqb, eqb-true}
use Rattle.std.proofs.lemmas.Bool.Decides.{nat_tests}
use Rattle.history_tables.proofs.RowLemmas.{same_at_self}
use Rattle.nrt_base.specs.declared.numbers.At.{At}
use Rattle.nrt_base.specs.declared.numbers.NodeNo.{NodeNo}
use Rattle.nrt_base.specs.declared.numbers.TicketNo.{TicketNo}
use Rattle.nrt_base.specs.declared.numbers.Version.{Version}
use Rattle.documents.specs.declared.query.Query.{Query}
use Rattle.documents.specs.declared.answer.Answer.{Answer}
use Rattle.documents.specs.Documents.{documents_after}
use Rattle.documents.specs.Ranking.{scan_of}
use Rattle.history_rules.specs.declared.cause.Cause.{Cause}
use Rattle.history_rules.specs.declared.cause.Cause.TheVariants.{Down, NamesSpent, Lost, Cancelled, LinkFault, Damaged, DiskFault, Nothing, TooManySegments}
use Rattle.history_rules.specs.declared.cause.FaultKind.TheVariants.{Link, Damage}
use Rattle.history_rules.specs.declared.entry.Entry.{Entry}
use Rattle.history_rules.specs.declared.entry.Event.{Event}
use Rattle.history_rules.specs.declared.entry.Event.TheVariants.{Publishing, Published, Copying, Switched, Settling, Settled, Opened, Asking, Answered, Committing, Refused}
use Rattle.history_rules.specs.declared.entry.History.{History}
use Rattle.history_rules.specs.Nodes.{Past, IsReplica, is_at, primary_crashes, crashes, version_of, newest_version}
use Rattle.history_rules.specs.Lines.{same_at, is_start, is_reply, is_answered, last_of_line, start_entry, before_start, NodeSurvives}
use Rattle.history_rules.specs.Points.{operations_written, operations_at_start, operations_at, documents_at, cut_of, cut_has_put}
use Rattle.history_rules.specs.Faults.{same_kind, is_of_disk, has_fault}
use Rattle.history_rules.specs.Rules.{MayRefuse, MayRefuseLine, MayCancel}
use Rattle.history_rules.specs.Started.{is_lost, is_above, is_node_of, is_source_of, StartedSearch}
use Rattle.history_rules.specs.Legal.{IsLegalPast, IsLegal}
use Rattle.history_rules.proofs.PastLemmas.{point_low}
use Rattle.history_rules.proofs.NodeLemmas.{version_low, runs_through}
use Rattle.history_rules.proofs.PointLemmas.{documents_stay_lem}
use Rattle.history_facts.proofs.WrittenLemmas.{started}
use Rattle.script_serving.specs.declared.script.Line.{Line}
use Rattle.script_serving.specs.declared.script.LineCommand.{LineCommand}
use Rattle.script_serving.specs.declared.script.LineCommand.TheVariants.{Publish, Settle, Search}
use Rattle.script_serving.specs.Lines.{lines_of, all_answered}
use Rattle.script_serving.specs.Serves.{First, Suits, Follows, Serves}
use Rattle.script_serving.specs.Refusals.{when, refusal, names_are_spent, may_be_full, may_be_refused, is_late_cause}
use Rattle.script_text.specs.Grammar.{of_lane, lanes_from}
use Rattle.script_text.proofs.FormLemmas.{under}
use Rattle.load_script.specs.Generated.{load_lines, lines_numbered, last_commands, generated_script}
use Rattle.load_script.specs.Totals.{load_documents, place_behind, total_by, total_at, totals_in, totals_of}
use Rattle.load_script.proofs.LoadForm.{last_of}
use Rattle.load_script.proofs.CalmPasts.{IsCalm, calm_primary, calm_runs, calm_crashes, calm_primary_crashes, calm_fault, calm_published, nothing_left}
use Rattle.load_script.proofs.LaneSplits.{all_more, all_parts, under_has, with_primary, documents_written}
use Rattle.load_script.proofs.FewNames.{never_full, never_spent}
use Rattle.load_script.proofs.LastLines.{Known, known_before, known_calm, at_is, replied, started_at, behind, Behind, late_of, late_behind, late_more, newest_stays, has_start, place}

abbrev entry : At → Event → Entry
entry at e = record { at = at; event = e }

-- ---- late refusals

no_crash : (a b : ℕ) → a ≡ 0 → b ≡ 0 → not (a == b) ≡ false
no_crash a b e f = ap not (eq-eqb a b (e ∙ sym f))

never_lost : (past start : Past) (begun : Event) → IsCalm past → IsCalm start → is_lost past start begun ≡ false
never_lost past start Publishing calm quiet = no_crash (primary_crashes past) (primary_crashes start) (calm_primary_crashes past calm) (calm_primary_crashes start quiet)
never_lost past start (Copying n v) calm quiet =
    ap (λ (b : Bool). b || not (primary_crashes past == primary_crashes start)) (no_crash (crashes n.0 past) (crashes n.0 start) (calm_crashes n.0 past calm) (calm_crashes n.0 start quiet))
    ∙ no_crash (primary_crashes past) (primary_crashes start) (calm_primary_crashes past calm) (calm_primary_crashes start quiet)
never_lost past start (Settling v) calm quiet = no_crash (primary_crashes past) (primary_crashes start) (calm_primary_crashes past calm) (calm_primary_crashes start quiet)
never_lost past start (Opened n t v) calm quiet = no_crash (crashes n.0 past) (crashes n.0 start) (calm_crashes n.0 past calm) (calm_crashes n.0 start quiet)
never_lost past start (Asking n t v) calm quiet = no_crash (crashes n.0 past) (crashes n.0 start) (calm_crashes n.0 past calm) (calm_crashes n.0 start quiet)
never_lost past start (Committing n v) calm quiet = no_crash (crashes n.0 past) (crashes n.0 start) (calm_crashes n.0 past calm) (calm_crashes n.0 start quiet)
never_lost past start begun calm quiet = refl

abbrev IsCancel : Cause → Type 0
IsCancel (Cancelled v) = ⊤
IsCancel cause = ⊥

-- a line that has started is refused for a later copy at most
late_cause : (at : At) (past start : Past) (begun : Event) (cause : Cause) → IsCalm past → IsCalm start → MayRefuse 3 past at start begun cause → IsCancel cause
late_cause at past start begun Lost calm quiet keeps = absurd (true≢false (keeps.lost ∙ never_lost past start begun calm quiet))
late_cause at past start begun (Cancelled v) calm quiet keeps = tt
late_cause at past start begun LinkFault calm quiet keeps =
    absurd (true≢false (sym (keeps.met refl) ∙ calm_fault (is_node_of 3 start begun) (same_kind Link) at past calm))
late_cause at past start begun (Damaged name) calm quiet keeps =
    absurd (true≢false (sym (keeps.met refl).0
    ∙ calm_fault (λ m. is_node_of 3 start begun m && not (has_fault (λ k. k == m) (same_kind Link) at past)) (same_kind Damage) at past calm))
late_cause at past start begun DiskFault calm quiet keeps =
    absurd (true≢false (sym (keeps.met refl).0 ∙ calm_fault (λ n. is_node_of 3 start begun n || is_source_of start begun n) is_of_disk at past calm))
late_cause at past start begun cause calm quiet keeps = absurd (keeps.met refl)

calm_start : (n : ℕ) (at : At) (past : Past) → Known n past → IsCalm (before_start at past)
calm_start n at past known = by_entries past (known_calm n past known)
  where
    by_entries : (p : Past) → IsCalm p → IsCalm (before_start at p)
    by_entries [] calm = calm
    by_entries (e ∷ p) calm = by_test (is_start e.event && same_at e.at at) (by_entries p calm.1)
      where
        by_test : (b : Bool) → IsCalm (before_start at p) → IsCalm (if b then p else before_start at p)
        by_test true ih = calm.1
        by_test false ih = ih

-- a line that goes on is refused so
record Broken (at : At) (past : Past) (cause : Cause) : Type 0 where
  begun : Event
  start : start_entry at past ≡ Some begun
  keeps : MayRefuse 3 past at (before_start at past) begun cause
  cancel : IsCancel cause

broken : (n : ℕ) (at : At) (past : Past) (cause : Cause) (x : Event) → Known n past → MayRefuseLine 3 past at (start_entry at past) cause → last_of_line at past ≡ Some x
    → is_answered at past ≡ false → Broken at past cause
broken n at past cause x known keeps last unmet = by_start (start_entry at past) refl keeps
  where
    by_start : (o : Option Event) → start_entry at past ≡ o → MayRefuseLine 3 past at o cause → Broken at past cause
    by_start None is k = absurd (has_start n at past x known last unmet is)
    by_start (Some begun) is k =
        record {
          begun = begun;
          start = is;
          keeps = k;
          cancel = late_cause at past (before_start at past) begun cause (known_calm n past known) (calm_start n at past known) k;
        }

-- ---- the publish

abbrev IsPublishEnd : Event → Type 0
IsPublishEnd (Published g w) = ⊤
IsPublishEnd (Refused cause) = ⊤
IsPublishEnd e = ⊥

publish_first : (at : At) (past : Past) (cause : Option Cause) (e : Event) → is_reply e ≡ true → First Publish at past cause e → IsPublishEnd e
publish_first at past (Some x) e reply first = subst IsPublishEnd (sym first) tt
publish_first at past None (Refused x) reply first = tt
publish_first at past None Publishing reply first = absurd (false≢true reply)
publish_first at past None e reply first = absurd first

publish_follows : (last e : Event) → Follows Publish last e → IsPublishEnd e
publish_follows last (Published g w) follows = tt
publish_follows last (Refused x) follows = tt
publish_follows last e follows = absurd follows

publish_end : (at : At) (past : Past) (last : Option Event) (e : Event) → is_reply e ≡ true → Suits Publish at past last e → IsPublishEnd e
publish_end at past None e reply suits = publish_first at past (refusal Publish at.lane.0 past) e reply suits
publish_end at past (Some last) e reply suits = publish_follows last e suits.1

-- the newest point has the documents of the script
pub record IsFull (n : ℕ) (past : Past) : Type 0 where
  pub full : documents_at past (newest_version past) ≡ load_documents n

no_refusal : (n : ℕ) (past : Past) (lane : ℕ) → n ≤ 10000 → Known n past → refusal Publish lane past ≡ None
no_refusal n past lane few known =
    ap (λ o. option_or o (when (cut_has_put past && names_are_spent past) NamesSpent)) (with_primary past (known_calm n past known))
    ∙ ap (λ (b : Bool). when b NamesSpent) (ap (λ (b : Bool). cut_has_put past && b) (never_spent n 3 past few known.legal known.lanes) ∙ and_no (cut_has_put past))
  where
    and_no : (b : Bool) → (b && false) ≡ false
    and_no true = refl
    and_no false = refl

module _ (n : ℕ) (few : n ≤ 10000) where
  publishes : (past : Past) (e : Event) → Known n (entry (place_behind n 0) e ∷ past) → is_reply e ≡ true → IsPublishEnd e → IsFull n (entry (place_behind n 0) e ∷ past)
  publishes past (Published g w) known reply end =
      let at = place_behind n 0 in
      let now = entry at (Published g w) in
      let keeps = known.legal.0 in
      let start = started_at at Publishing past keeps.started in
      let began = known_before n start.newer (entry at Publishing ∷ start.older) (subst (Known n) start.is (known_before n (now ∷ []) past known)) in
      let first = (behind n 0 Publish start.older Publishing refl began).first in
      let before = known_before n (entry at Publishing ∷ []) start.older began in
      let docs = documents_written n 3 start.older few before.legal before.lanes first in
      let next : w.0 ≡ newest_version past + 1 = keeps.next in
      let greatest : max (newest_version past) w.0 ≡ w.0 = omega (arith, next) in
      let made : (if w.0 == w.0 then operations_at_start at past else operations_at past w.0) ≡ operations_at_start at past = rw (eq-eqb w.0 w.0 refl) refl in
      record { full = ap documents_after (ap (operations_at (now ∷ past)) greatest ∙ (made ∙ (started at past ∙ ap operations_written start.before))) ∙ docs }
  publishes past (Refused cause) known reply end =
      by_last (last_of_line (place_behind n 0) past) refl (behind n 0 Publish past (Refused cause) refl known)
    where
      before : Known n past
      before = known_before n (entry (place_behind n 0) (Refused cause) ∷ []) past known

      by_cause : (c : Cause) → may_be_refused Publish (place_behind n 0) past c ≡ true → ((lane : ℕ) → 1 ≤ lane → lane ≤ 8 → list_all (λ l. is_answered l.at past) (of_lane lane (load_lines n)) ≡ true) → documents_at past (newest_version past) ≡ load_documents n
      by_cause Nothing may first =
          let none : length (cut_of past) ≡ 0 = eqb-true (length (cut_of past)) 0 may in
          let calm = known_calm n past before in
          ap documents_after (nothing_left past calm (calm_published 3 past calm before.legal) none) ∙ documents_written n 3 past few before.legal before.lanes first
      by_cause TooManySegments may first =
          absurd (true≢false (sym (and_parts (cut_has_put past) (may_be_full past) may).1 ∙ never_full n 3 past few before.legal before.lanes))
      by_cause c may first = absurd (false≢true may)

      not_late : (c : Cause) → is_late_cause Publish c ≡ true → IsCancel c → ⊥
      not_late (Cancelled v) late cancel = false≢true late
      not_late c late cancel = cancel

      by_last : (o : Option Event) → last_of_line (place_behind n 0) past ≡ o → Behind n 0 Publish past (Refused cause) → IsFull n (entry (place_behind n 0) (Refused cause) ∷ past)
      by_last None is has =
          let first = subst (λ (o : Option Event). Suits Publish (place_behind n 0) past o (Refused cause)) is has.suits in
          record {
            full = by_cause cause (subst (λ (o : Option Cause). First Publish (place_behind n 0) past o (Refused cause)) (no_refusal n past 1 few before) first) has.first;
          }
      by_last (Some x) is has =
          let next = subst (λ (o : Option Event). Suits Publish (place_behind n 0) past o (Refused cause)) is has.suits in
          absurd (not_late cause next.1 (broken n (place_behind n 0) past cause x before known.legal.0 is has.unmet).cancel)
  publishes past e known reply end = absurd end

  still_first : (past : Past) (e : Entry) → ((lane : ℕ) → 1 ≤ lane → lane ≤ 8 → list_all (λ l. is_answered l.at past) (of_lane lane (load_lines n)) ≡ true)
      → (lane : ℕ) → 1 ≤ lane → lane ≤ 8 → list_all (λ l. is_answered l.at (e ∷ past)) (of_lane lane (load_lines n)) ≡ true
  still_first past e first lane low high =
      all_more (λ l. is_answered l.at past) (λ l. is_answered l.at (e ∷ past)) (λ l h. or_right (is_reply e.event && same_at e.at l.at) (is_answered l.at past) h) (of_lane lane (load_lines n)) (first lane low high)

  -- behind the publish the newest point is full
  full_at : (past : Past) → Known n past → is_answered (place_behind n 0) past ≡ true → IsFull n past
  full_at past known answered =
      let at = place_behind n 0 in
      let reply = replied at past answered in
      let now = entry at reply.event in
      let whole : Known n (reply.newer ++ now ∷ reply.older) = subst (Known n) reply.is known in
      let there = known_before n reply.newer (now ∷ reply.older) whole in
      let has = behind n 0 Publish reply.older reply.event refl there in
      let end = publish_end at reply.older (last_of_line at reply.older) reply.event reply.reply has.suits in
      let full = publishes reply.older reply.event there reply.reply end in
      let met : is_answered at (now ∷ reply.older) ≡ true =
      or_left (is_reply reply.event && same_at at at) (is_answered at reply.older) (and_from (is_reply reply.event) (same_at at at) reply.reply (same_at_self at)) in
      let late = late_of n (now ∷ reply.older) (still_first reply.older now has.first) met in
      let same = newest_stays n reply.newer (now ∷ reply.older) whole late in
      let v : ℕ = newest_version (now ∷ reply.older) in
      subst (IsFull n) (sym reply.is)
      (record {
        full = ap (documents_at (reply.newer ++ now ∷ reply.older)) same ∙ (documents_stay_lem 3 reply.newer (now ∷ reply.older) v whole.legal (omega arith) ∙ full.full);
      })

-- ---- the settle

abbrev IsSettleEnd : Event → Type 0
IsSettleEnd (Settled v) = ⊤
IsSettleEnd (Refused cause) = ⊤
IsSettleEnd e = ⊥

settle_first : (at : At) (past : Past) (cause : Option Cause) (e : Event) → is_reply e ≡ true → First Settle at past cause e → IsSettleEnd e
settle_first at past (Some x) e reply first = subst IsSettleEnd (sym first) tt
settle_first at past None (Refused x) reply first = tt
settle_first at past None (Settling v) reply first = absurd (false≢true reply)
settle_first at past None e reply first = absurd first

settle_follows : (last e : Event) → is_reply e ≡ true → Follows Settle last e → IsSettleEnd e
settle_follows last (Settled v) reply follows = tt
settle_follows last (Refused x) reply follows = tt
settle_follows last (Switched m v) reply follows = absurd (false≢true reply)
settle_follows last e reply follows = absurd follows

settle_end : (at : At) (past : Past) (last : Option Event) (e : Event) → is_reply e ≡ true → Suits Settle at past last e → IsSettleEnd e
settle_end at past None e reply suits = settle_first at past (refusal Settle at.lane.0 past) e reply suits
settle_end at past (Some last) e reply suits = settle_follows last e reply suits.1

abbrev IsSettling : Event → Type 0
IsSettling (Settling v) = ⊤
IsSettling e = ⊥

settling_first : (at : At) (past : Past) (cause : Option Cause) (e : Event) → is_start e ≡ true → First Settle at past cause e → IsSettling e
settling_first at past (Some x) e start first = absurd (false≢true (sym (ap is_start first) ∙ start))
settling_first at past None (Refused x) start first = absurd (false≢true start)
settling_first at past None (Settling v) start first = tt
settling_first at past None e start first = absurd first

settling_follows : (last e : Event) → is_start e ≡ true → Follows Settle last e → IsSettling e
settling_follows last (Settled v) start follows = absurd (false≢true start)
settling_follows last (Refused x) start follows = absurd (false≢true start)
settling_follows last (Switched m v) start follows = absurd (false≢true start)
settling_follows last e start follows = absurd follows

settling : (at : At) (past : Past) (last : Option Event) (e : Event) → is_start e ≡ true → Suits Settle at past last e → IsSettling e
settling at past None e start suits = settling_first at past (refusal Settle at.lane.0 past) e start suits
settling at past (Some last) e start suits = settling_follows last e start suits.1

module _ (n : ℕ) where
  -- since the settle's start the newest version is the one that it notes
  noted : (past older newer : Past) (v : Version) → Known n past → past ≡ newer ++ entry (place_behind n 1) (Settling v) ∷ older → newest_version past ≡ v.0
  noted past older newer v known is =
      let at = place_behind n 1 in
      let now = entry at (Settling v) in
      let whole : Known n (newer ++ now ∷ older) = subst (Known n) is known in
      let there = known_before n newer (now ∷ older) whole in
      let late = late_behind n 1 Settle older (Settling v) (omega arith) (behind n 1 Settle older (Settling v) refl there) in
      ap newest_version is ∙ (newest_stays n newer (now ∷ older) whole (late_more n older now late) ∙ sym there.legal.0.newest)

  cancelled : (past : Past) (v : Version) (begun : Event) → Known n past → start_entry (place_behind n 1) past ≡ Some begun
      → MayCancel 3 past (place_behind n 1) (before_start (place_behind n 1) past) begun v → ⊥
  cancelled past v begun known is keeps =
      let start = started_at (place_behind n 1) begun past is in
      let there = known_before n start.newer (entry (place_behind n 1) begun ∷ start.older) (subst (Known n) start.is known) in
      let has = behind n 1 Settle start.older begun refl there in
      by_event begun (settling (place_behind n 1) start.older (last_of_line (place_behind n 1) start.older) begun start.start has.suits) start.newer start.older start.is keeps.above
    where
      by_event : (b : Event) → IsSettling b → (newer older : Past) → past ≡ newer ++ entry (place_behind n 1) b ∷ older → is_above v.0 b ≡ true → ⊥
      by_event (Settling w) is newer older whole above =
          let newest = noted past older newer w known whole in
          let low = point_low past v.0 keeps.point in
          let high : nat_lt w.0 v.0 ≡ true = above in
          let more : w.0 < v.0 = grind (arith, nat_tests) in
          omega (arith, newest, low, more)
      by_event b is newer older whole above = is

  settles : (past : Past) (e : Event) → Known n (entry (place_behind n 1) e ∷ past) → is_reply e ≡ true → IsSettleEnd e → newest_version past ≤ version_of 3 past
  settles past (Settled v) known reply end =
      let at = place_behind n 1 in
      let keeps = known.legal.0 in
      let before = known_before n (entry at (Settled v) ∷ []) past known in
      let start = started_at at (Settling v) past keeps.started in
      let newest = noted past start.older start.newer v before start.is in
      let calm = known_calm n past before in
      let quiet = calm_start n at past before in
      let replica : IsReplica (before_start at past) 3 = record { running = calm_runs 3 (before_start at past) quiet; other = ap (λ (p : Option NodeNo). is_at p 3) (calm_primary (before_start at past) quiet) } in
      let survives : NodeSurvives past at 3 = record { node = calm_crashes 3 past calm ∙ sym (calm_crashes 3 (before_start at past) quiet) } in
      let reached = keeps.reached 3 (omega arith, omega arith) replica survives in
      omega (arith, newest, reached)
  settles past (Refused cause) known reply end = by_last (last_of_line (place_behind n 1) past) refl (behind n 1 Settle past (Refused cause) refl known)
    where
      before : Known n past
      before = known_before n (entry (place_behind n 1) (Refused cause) ∷ []) past known

      by_cause : (c : Cause) → Broken (place_behind n 1) past c → ⊥
      by_cause (Cancelled v) has = cancelled past v has.begun before has.start (has.keeps.met refl)
      by_cause c has = has.cancel

      by_last : (o : Option Event) → last_of_line (place_behind n 1) past ≡ o → Behind n 1 Settle past (Refused cause) → newest_version past ≤ version_of 3 past
      by_last None is has =
          let first = subst (λ (o : Option Event). Suits Settle (place_behind n 1) past o (Refused cause)) is has.suits in
          absurd (false≢true (subst (λ (o : Option Cause). First Settle (place_behind n 1) past o (Refused cause)) (with_primary past (known_calm n past before)) first))
      by_last (Some x) is has = absurd (by_cause cause (broken n (place_behind n 1) past cause x before known.legal.0 is has.unmet))
  settles past e known reply end = absurd end

  -- behind the settle node 3 is at the newest version
  settled_at : (past : Past) → Known n past → is_answered (place_behind n 1) past ≡ true → version_of 3 past ≡ newest_version past
  settled_at past known answered =
      let at = place_behind n 1 in
      let reply = replied at past answered in
      let now = entry at reply.event in
      let whole : Known n (reply.newer ++ now ∷ reply.older) = subst (Known n) reply.is known in
      let there = known_before n reply.newer (now ∷ reply.older) whole in
      let before = known_before n (now ∷ []) reply.older there in
      let has = behind n 1 Settle reply.older reply.event refl there in
      let low = settles reply.older reply.event there reply.reply (settle_end at reply.older (last_of_line at reply.older) reply.event reply.reply has.suits) in
      let late = late_behind n 1 Settle reply.older reply.event (omega arith) has in
      let same = newest_stays n (now ∷ []) reply.older there late in
      let stays = newest_stays n reply.newer (now ∷ reply.older) whole (late_more n reply.older now late) in
      let calm = known_calm n (reply.newer ++ now ∷ reply.older) whole in
      let none = calm_crashes 3 (reply.newer ++ now ∷ reply.older) calm in
      let still = calm_crashes 3 (now ∷ reply.older) (known_calm n (now ∷ reply.older) there) in
      let one = runs_through 3 3 (now ∷ []) reply.older there.legal (calm_runs 3 reply.older (known_calm n reply.older before)) (omega (arith, still)) in
      let two = runs_through 3 3 reply.newer (now ∷ reply.older) whole.legal one.running (omega (arith, none)) in
      let high = version_low 3 (reply.newer ++ now ∷ reply.older) 3 whole.legal in
      let rise = one.version in
      let more = two.version in
      let here : version_of 3 (reply.newer ++ now ∷ reply.older) ≡ newest_version (reply.newer ++ now ∷ reply.older) = omega (arith, low, same, stays, high, rise, more) in
      ap (version_of 3) reply.is ∙ (here ∙ ap newest_version (sym reply.is))

-- ---- the searches

abbrev third : NodeNo
third = record { 0 = 3 }

abbrev IsSearchEnd : Event → Type 0
IsSearchEnd (Answered m t v query answer) = ⊤
IsSearchEnd (Refused cause) = ⊤
IsSearchEnd e = ⊥

search_first : (q : Query) (at : At) (past : Past) (cause : Option Cause) (e : Event) → is_reply e ≡ true → First (Search third q) at past cause e → IsSearchEnd e
search_first q at past (Some x) e reply first = subst IsSearchEnd (sym first) tt
search_first q at past None (Refused x) reply first = tt
search_first q at past None (Opened m t v) reply first = absurd (false≢true (sym (ap (λ (k : ℕ). not (k == 0)) first.1) ∙ reply))
search_first q at past None e reply first = absurd first

search_follows : (q : Query) (last e : Event) → Follows (Search third q) last e → IsSearchEnd e
search_follows q last (Answered m t v query answer) follows = tt
search_follows q last (Refused x) follows = tt
search_follows q last e follows = absurd follows

search_end : (q : Query) (at : At) (past : Past) (last : Option Event) (e : Event) → is_reply e ≡ true → Suits (Search third q) at past last e → IsSearchEnd e
search_end q at past None e reply suits = search_first q at past (refusal (Search third q) at.lane.0 past) e reply suits
search_end q at past (Some last) e reply suits = search_follows q last e suits.1

query_of : (q : Query) (at : At) (past : Past) (last : Option Event) (m : NodeNo) (t : TicketNo) (v : Version) (query : Query) (answer : Answer)
    → Suits (Search third q) at past last (Answered m t v query answer) → query ≡ q
query_of q at past None m t v query answer suits = absurd (by_cause (refusal (Search third q) at.lane.0 past) suits)
  where
    by_cause : (cause : Option Cause) → First (Search third q) at past cause (Answered m t v query answer) → ⊥
    by_cause (Some x) first = cc
    by_cause None first = first
query_of q at past (Some last) m t v query answer suits = suits.1.2

node_of : (q : Query) (at : At) (past : Past) (last : Option Event) (m : NodeNo) (t : TicketNo) (v : Version) → Suits (Search third q) at past last (Opened m t v) → m.0 ≡ 3
node_of q at past None m t v suits = by_cause (refusal (Search third q) at.lane.0 past) suits
  where
    by_cause : (cause : Option Cause) → First (Search third q) at past cause (Opened m t v) → m.0 ≡ 3
    by_cause (Some x) first = absurd cc
    by_cause None first = ap (λ (k : NodeNo). k.0) first.0
node_of q at past (Some last) m t v suits = absurd suits.1

never_asks : (q : Query) (at : At) (past : Past) (last : Option Event) (m : NodeNo) (t : TicketNo) (v : Version) → Suits (Search third q) at past last (Asking m t v) → ⊥
never_asks q at past None m t v suits = by_cause (refusal (Search third q) at.lane.0 past) suits
  where
    by_cause : (cause : Option Cause) → First (Search third q) at past cause (Asking m t v) → ⊥
    by_cause (Some x) first = cc
    by_cause None first = first
never_asks q at past (Some last) m t v suits = suits.1

-- the event answers with so many
abbrev HasTotal : ℕ → Event → Type 0
HasTotal total (Answered m t v query answer) = answer.total ≡ total
HasTotal total e = ⊥

module _ (n : ℕ) (few : n ≤ 10000) (k : ℕ) (low : 2 ≤ k) (high : k < 6) (q : Query) (there : slice_get last_commands k ≡ Some (Search third q)) where
  at : At
  at = place_behind n k

  -- the version of the search has the documents of the script
  documents_searched : (past newer older : Past) (m : NodeNo) (t : TicketNo) (w : Version) → Known n past → past ≡ newer ++ entry (place_behind n k) (Opened m t w) ∷ older
      → documents_at past w.0 ≡ load_documents n
  documents_searched past newer older m t w known is =
      let now = entry (place_behind n k) (Opened m t w) in
      let whole : Known n (newer ++ now ∷ older) = subst (Known n) is known in
      let began = known_before n newer (now ∷ older) whole in
      let before = known_before n (now ∷ []) older began in
      let has = behind n k (Search third q) older (Opened m t w) there began in
      let node = node_of q (place_behind n k) older (last_of_line (place_behind n k) older) m t w has.suits in
      let searched : w.0 ≡ version_of 3 older = began.legal.0.searched ∙ ap (λ (j : ℕ). version_of j older) node in
      let settled = settled_at n older before (has.earlier 1 (omega (arith, low)) (omega arith)) in
      let version : w.0 ≡ newest_version older = searched ∙ settled in
      let full = full_at n few older before (has.earlier 0 (omega (arith, low)) (omega arith)) in
      ap (λ (p : Past). documents_at p w.0) is
      ∙ (documents_stay_lem 3 newer (now ∷ older) w.0 whole.legal (omega (arith, version))
      ∙ (ap (documents_at older) version ∙ full.full))

  searches : (past : Past) (e : Event) → Known n (entry (place_behind n k) e ∷ past) → is_reply e ≡ true → IsSearchEnd e → HasTotal (scan_of (load_documents n) q).total e
  searches past (Answered m t v query answer) known reply end =
      let has = behind n k (Search third q) past (Answered m t v query answer) there known in
      let same = query_of q (place_behind n k) past (last_of_line (place_behind n k) past) m t v query answer has.suits in
      by_start (start_entry (place_behind n k) past) refl known.legal.0.started same
    where
      before : Known n past
      before = known_before n (entry (place_behind n k) (Answered m t v query answer) ∷ []) past known

      right : answer ≡ scan_of (documents_at past v.0) query
      right = known.legal.0.right

      told : (w : Version) → w ≡ v → documents_at past w.0 ≡ load_documents n → query ≡ q → answer.total ≡ (scan_of (load_documents n) q).total
      told w version docs same =
          ap (λ (a : Answer). a.total)
          (right ∙ (ap (λ (u : Version). scan_of (documents_at past u.0) query) (sym version) ∙ (ap (λ ds. scan_of ds query) docs ∙ ap (scan_of (load_documents n)) same)))

      by_event : (begun : Event) → start_entry (place_behind n k) past ≡ Some begun → StartedSearch m t v (Some begun) → query ≡ q → answer.total ≡ (scan_of (load_documents n) q).total
      by_event (Opened j u w) is began same =
          let start = started_at (place_behind n k) (Opened j u w) past is in
          told w began.2 (documents_searched past start.newer start.older j u w before start.is) same
      by_event (Asking j u w) is began same =
          let start = started_at (place_behind n k) (Asking j u w) past is in
          let asked = known_before n start.newer (entry (place_behind n k) (Asking j u w) ∷ start.older) (subst (Known n) start.is before) in
          let has = behind n k (Search third q) start.older (Asking j u w) there asked in
          absurd (never_asks q (place_behind n k) start.older (last_of_line (place_behind n k) start.older) j u w has.suits)
      by_event begun is began same = absurd began

      by_start : (o : Option Event) → start_entry (place_behind n k) past ≡ o → StartedSearch m t v o → query ≡ q → answer.total ≡ (scan_of (load_documents n) q).total
      by_start None is began same = absurd began
      by_start (Some begun) is began same = by_event begun is began same
  searches past (Refused cause) known reply end = absurd (by_last (last_of_line (place_behind n k) past) refl (behind n k (Search third q) past (Refused cause) there known))
    where
      before : Known n past
      before = known_before n (entry (place_behind n k) (Refused cause) ∷ []) past known

      running : refusal (Search third q) 1 past ≡ None
      running = ap (λ (b : Bool). when (not b) Down) (calm_runs 3 past (known_calm n past before))

      not_late : (c : Cause) → is_late_cause (Search third q) c ≡ true → IsCancel c → ⊥
      not_late (Cancelled v) late cancel = false≢true late
      not_late c late cancel = cancel

      by_last : (o : Option Event) → last_of_line (place_behind n k) past ≡ o → Behind n k (Search third q) past (Refused cause) → ⊥
      by_last None is has =
          let first = subst (λ (o : Option Event). Suits (Search third q) (place_behind n k) past o (Refused cause)) is has.suits in
          false≢true (subst (λ (o : Option Cause). First (Search third q) (place_behind n k) past o (Refused cause)) running first)
      by_last (Some x) is has =
          let next = subst (λ (o : Option Event). Suits (Search third q) (place_behind n k) past o (Refused cause)) is has.suits in
          not_late cause next.1 (broken n (place_behind n k) past cause x before known.legal.0 is has.unmet).cancel
  searches past e known reply end = absurd end

  total_told : (e : Event) (old : ℕ) → HasTotal (scan_of (load_documents n) q).total e → total_by e old ≡ (scan_of (load_documents n) q).total
  total_told (Answered m t v query answer) old has = has
  total_told e old has = absurd has

  no_total : (e : Event) (old : ℕ) → is_reply e ≡ false → total_by e old ≡ old
  no_total (Answered m t v query answer) old none = absurd (true≢false none)
  no_total e old none = refl

  rest_of : (r b a : Bool) → (r && b) ≡ false → (r && b || a) ≡ true → a ≡ true
  rest_of true true a off h = absurd (true≢false off)
  rest_of true false a off h = h
  rest_of false b a off h = h

  -- the search finds as many as the scan of the script's documents
  total_is : (past : Past) → Known n past → is_answered (place_behind n k) past ≡ true → total_at (place_behind n k) past ≡ (scan_of (load_documents n) q).total
  total_is [] known answered = absurd (false≢true answered)
  total_is (e ∷ past) known answered = by_tests (same_at e.at (place_behind n k)) (is_reply e.event) refl refl (total_is past (known_before n (e ∷ []) past known))
    where
      by_tests : (s r : Bool) → same_at e.at (place_behind n k) ≡ s → is_reply e.event ≡ r
          → (is_answered (place_behind n k) past ≡ true → total_at (place_behind n k) past ≡ (scan_of (load_documents n) q).total)
          → (if same_at e.at (place_behind n k) then total_by e.event (total_at (place_behind n k) past) else total_at (place_behind n k) past) ≡ (scan_of (load_documents n) q).total
      by_tests true true f g ih =
          let here : Known n (entry (place_behind n k) e.event ∷ past) = subst (λ (x : Entry). Known n (x ∷ past)) (at_is e.at (place_behind n k) f e.event) known in
          let has = behind n k (Search third q) past e.event there here in
          let end = search_end q (place_behind n k) past (last_of_line (place_behind n k) past) e.event g has.suits in
          rw f (total_told e.event (total_at (place_behind n k) past) (searches past e.event here g end))
      by_tests true false f g ih =
          rw f (no_total e.event (total_at (place_behind n k) past) g
          ∙ ih (rest_of (is_reply e.event) (same_at e.at (place_behind n k)) (is_answered (place_behind n k) past) (ap (λ (b : Bool). b && same_at e.at (place_behind n k)) g) answered))
      by_tests false r f g ih =
          rw f (ih (rest_of (is_reply e.event) (same_at e.at (place_behind n k)) (is_answered (place_behind n k) past) (off (is_reply e.event) f) answered))
        where
          off : (b : Bool) → same_at e.at (place_behind n k) ≡ false → (b && same_at e.at (place_behind n k)) ≡ false
          off true h = h
          off false h = refl

-- ---- all of them

answered_numbered : (cs : List LineCommand) (m j : ℕ) (past : Past) → m ≤ j → j < m + length cs → list_all (λ l. is_answered l.at past) (lines_numbered m 1 cs) ≡ true → is_answered (place j) past ≡ true
answered_numbered [] m j past low high all = absurd (omega (arith, low, high))
answered_numbered (c ∷ cs) m j past low high all =
    let parts = and_parts (is_answered (place m) past) (list_all (λ l. is_answered l.at past) (lines_numbered (m + 1) 1 cs)) all in
    by_number (m == j) refl parts.0 (λ above. answered_numbered cs (m + 1) j past above (omega (arith, high)) parts.1)
  where
    by_number : (b : Bool) → (m == j) ≡ b → is_answered (place m) past ≡ true → (m + 1 ≤ j → is_answered (place j) past ≡ true) → is_answered (place j) past ≡ true
    by_number true e here rest = subst (λ (i : ℕ). is_answered (place i) past ≡ true) (eqb-true m j e) here
    by_number false e here rest = let above : m + 1 ≤ j = grind (arith, nat_tests) in rest above

all_met : (n k : ℕ) (past : Past) → k < 6 → all_answered (lines_of (generated_script n)) past ≡ true → is_answered (place_behind n k) past ≡ true
all_met n k past high all =
    let p : Line → Bool = λ l. is_answered l.at past in
    let behind_join = (all_parts p (under (lanes_from 8 1 (load_lines n))) (under (lanes_from 8 1 (last_of n)) ++ []) all).1 in
    let last = (all_parts p (under (lanes_from 8 1 (last_of n))) [] behind_join).0 in
    answered_numbered last_commands (4 + length (load_lines n)) (4 + length (load_lines n) + k) past (omega arith) (omega (arith, high)) (under_has p 1 8 1 (last_of n) (omega arith) (omega arith) last)

pub totals_are : (n : ℕ) (h : History) → n ≤ 10000 → IsLegal h → Serves (generated_script n) h → totals_in n (reverse h.entries) ≡ totals_of n
totals_are n h few legal serves =
    let past : Past = reverse h.entries in
    let known : Known n past = record { legal = subst (λ (size : ℕ). IsLegalPast size past) serves.nodes legal; lanes = serves.lanes; phases = serves.phases } in
    let doc = total_is n few 2 (omega arith) (omega arith) _ refl past known (all_met n 2 past (omega arith) serves.answered) in
    let one = total_is n few 3 (omega arith) (omega arith) _ refl past known (all_met n 3 past (omega arith) serves.answered) in
    let two = total_is n few 4 (omega arith) (omega arith) _ refl past known (all_met n 4 past (omega arith) serves.answered) in
    let phrase = total_is n few 5 (omega arith) (omega arith) _ refl past known (all_met n 5 past (omega arith) serves.answered) in
    λ i. doc i ∷ one i ∷ two i ∷ phrase i ∷ []
