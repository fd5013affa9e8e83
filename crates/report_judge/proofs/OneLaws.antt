-- A report has one judgement that it is legal: where it is the text of a legal history that serves the script, nothing else is so of it.
use Rattle.std.proofs.Common.{◌≡◌, ℕ, Bool, true, false, List, [], ◌∷◌, ◌++◌, reverse, None, refl, sym, ap, subst, ◌∙◌, append_assoc, append-nil, inl, inr}
use Rattle.std.specs.List.{flat_map}
use Rattle.std.proofs.lemmas.Bool.{false≢true}
use Rattle.std.proofs.lemmas.Option.{none-some}
use Rattle.std.proofs.lemmas.List.{reverse-append, reverse-reverse}
use Rattle.history_rules.specs.declared.entry.Entry.{Entry}
use Rattle.history_rules.specs.declared.entry.History.{History}
use Rattle.history_rules.specs.Nodes.{Past}
use Rattle.history_rules.specs.Lines.{is_answered}
use Rattle.history_rules.specs.Legal.{IsLegalPast}
use Rattle.history_rules.proofs.PastLemmas.{legal_before}
use Rattle.report_text.specs.Texts.{text_of_entry}
use Rattle.report_reading.specs.Cuts.{first_line, behind_line}
use Rattle.report_reading.specs.Widths.{EntryIsNarrow}
use Rattle.report_reading.proofs.LineLaws.{line_is_first}
use Rattle.script_serving.specs.declared.script.Line.{Line}
use Rattle.script_serving.specs.declared.script.Script.{Script}
use Rattle.script_serving.specs.Form.{IsInForm}
use Rattle.script_serving.specs.Lines.{lines_of, all_answered}
use Rattle.script_serving.specs.Replays.{due}
use Rattle.script_serving.specs.Serves.{ServesLanes, ServesPhases}
use Rattle.serving_rules.proofs.ReplayLemmas.{serves_back, turned}
use Rattle.report_judge.specs.declared.judgement.Judgement.{Judgement}
use Rattle.report_judge.specs.declared.judgement.Judgement.TheVariants.{Legal, Broken, Unserved, Unread, Unanswered}
use Rattle.report_judge.specs.Judgements.{AllNarrow, FitsNext, BeginsWithEntry, GoesWellTo, IsLegalReport, IsUnread, IsUnserved, IsBroken, IsUnanswered, IsJudgement, first_unanswered}
use Rattle.report_judge.proofs.ServingLaws.{told_fitting, one_fitting}
use Rattle.report_judge.proofs.WalkLaws.{phases_behind, narrow_behind}

abbrev texts : List Entry → List ℕ
texts es = flat_map text_of_entry es

-- a text that begins with a line is not empty
no_end : (a x : List ℕ) → (a ++ 10 ∷ []) ++ x ≡ [] → ⊥
no_end [] x e = cc
no_end (b ∷ a) x e = cc

-- entries serve the script so far
record Served (script : Script) (past : Past) : Type 0 where
  lanes : ServesLanes script past
  phases : ServesPhases (lines_of script) script.phases past

served_back : (script : Script) (newer past : Past) → Served script (newer ++ past) → Served script past
served_back script newer past h = record { lanes = serves_back script newer past h.lanes; phases = phases_behind script newer past h.phases }

fits_first : (script : Script) (past : Past) (e : Entry) → Served script (e ∷ past) → FitsNext script past e
fits_first script past e h = record { lane = h.lanes.0; phase = h.phases.0 }

-- what one of two lists of entries has behind the other, where its text goes on with the rest
record GoesOn (xs ys : List Entry) (rest : List ℕ) : Type 0 where
  behind : List Entry
  whole : ys ≡ xs ++ behind
  text : rest ≡ texts behind

-- two lists of entries that serve one script, of which one has the front of the other's text, begin alike
agree : (script : Script) (past : Past) (xs ys : List Entry) (rest : List ℕ) → IsInForm script → AllNarrow (reverse xs ++ past) → AllNarrow (reverse ys ++ past)
    → Served script (reverse xs ++ past) → Served script (reverse ys ++ past) → texts xs ++ rest ≡ texts ys → GoesOn xs ys rest
agree script past [] ys rest form p q s t text = record { behind = ys; whole = refl; text = text }
agree script past (x ∷ xs) [] rest form p q s t text = absurd (no_end _ (texts xs ++ rest) (sym (append_assoc (text_of_entry x) (texts xs) rest) ∙ text))
agree script past (x ∷ xs) (y ∷ ys) rest form p q s t text =
    let px : AllNarrow (reverse xs ++ x ∷ past) = subst AllNarrow (turned x xs past) p in
    let qy : AllNarrow (reverse ys ++ y ∷ past) = subst AllNarrow (turned y ys past) q in
    let sx : Served script (reverse xs ++ x ∷ past) = subst (Served script) (turned x xs past) s in
    let ty : Served script (reverse ys ++ y ∷ past) = subst (Served script) (turned y ys past) t in
    let narrow_x = (narrow_behind (reverse xs) (x ∷ past) px).0 in
    let narrow_y = (narrow_behind (reverse ys) (y ∷ past) qy).0 in
    let whole : text_of_entry x ++ (texts xs ++ rest) ≡ text_of_entry y ++ texts ys = sym (append_assoc (text_of_entry x) (texts xs) rest) ∙ text in
    let first_x = line_is_first x (texts xs ++ rest) narrow_x in
    let first_y = line_is_first y (texts ys) narrow_y in
    let line : text_of_entry x ≡ text_of_entry y = sym first_x.0 ∙ ap first_line whole ∙ first_y.0 in
    let others : texts xs ++ rest ≡ texts ys = sym first_x.1 ∙ ap behind_line whole ∙ first_y.1 in
    let fits_x = fits_first script past x (served_back script (reverse xs) (x ∷ past) sx) in
    let fits_y = fits_first script past y (served_back script (reverse ys) (y ∷ past) ty) in
    let one : x ≡ y = one_fitting script past x y form narrow_x narrow_y line fits_x (told_fitting script past y form fits_y) in
    let on = agree script (x ∷ past) xs ys rest form px (subst (λ (e : Entry). AllNarrow (reverse ys ++ e ∷ past)) (sym one) qy) sx (subst (λ (e : Entry). Served script (reverse ys ++ e ∷ past)) (sym one) ty) others in
    record {
      behind = on.behind;
      whole = ap (λ (e : Entry). e ∷ ys) (sym one) ∙ ap (λ (es : List Entry). x ∷ es) on.whole;
      text = on.text;
    }

module _ (script : Script) (report : List ℕ) (form : IsInForm script) (h : History) (is : IsLegalReport script report h) where
  abbrev all : Past
  all = reverse h.entries

  -- entries of which the report has the text at its front are the first of the history
  goes_on : (past : Past) (rest : List ℕ) → AllNarrow past → Served script past → report ≡ texts (reverse past) ++ rest → GoesOn (reverse past) h.entries rest
  goes_on past rest few served text =
      let back : past ≡ reverse (reverse past) ++ [] = sym (append-nil (reverse (reverse past)) ∙ reverse-reverse past) in
      let own : all ≡ all ++ [] = sym (append-nil all) in
      agree script [] (reverse past) h.entries rest form (subst AllNarrow back few) (subst AllNarrow own is.narrow) (subst (Served script) back served)
      (subst (Served script) own (record { lanes = is.serves.lanes; phases = is.serves.phases })) (sym text ∙ sym is.text)

  -- the first entry behind them fits and keeps its rule
  record Next (past : Past) (rest : List ℕ) : Type 0 where
    entry : Entry
    narrow_entry : EntryIsNarrow entry
    begins : BeginsWithEntry rest entry
    served : Served script (entry ∷ past)
    legal : IsLegalPast h.nodes (entry ∷ past)

  next : (past : Past) (rest : List ℕ) → GoesOn (reverse past) h.entries rest → (rest ≡ [] → ⊥) → Next past rest
  next past rest on some = by_behind on.behind on.whole on.text
    where
      by_behind : (behind : List Entry) → h.entries ≡ reverse past ++ behind → rest ≡ texts behind → Next past rest
      by_behind [] whole text = absurd (some text)
      by_behind (e ∷ more) whole text =
          let around : all ≡ reverse more ++ e ∷ past =
          ap reverse whole ∙ reverse-append (reverse past) (e ∷ more)
          ∙ ap (λ (es : List Entry). es ++ reverse (reverse past)) (reverse-append (e ∷ []) more)
          ∙ append_assoc (reverse more) (e ∷ []) (reverse (reverse past))
          ∙ ap (λ (es : List Entry). reverse more ++ e ∷ es) (reverse-reverse past) in
          record {
            entry = e;
            narrow_entry = (narrow_behind (reverse more) (e ∷ past) (subst AllNarrow around is.narrow)).0;
            begins = (texts more, text);
            served = served_back script (reverse more) (e ∷ past) (subst (Served script) around (record { lanes = is.serves.lanes; phases = is.serves.phases }));
            legal = legal_before h.nodes (reverse more) (e ∷ past) (subst (IsLegalPast h.nodes) around is.legal);
          }

  begins_some : (rest : List ℕ) (e : Entry) → BeginsWithEntry rest e → rest ≡ [] → ⊥
  begins_some rest e begins none = no_end _ begins.0 (sym begins.1 ∙ none)

  served_of : (past : Past) (rest : List ℕ) → GoesWellTo script report past rest → Served script past
  served_of past rest goes = record { lanes = goes.well.lanes; phases = goes.well.phases }

  never_unread : (line : ℕ) → IsUnread script report line → ⊥
  never_unread line bad =
      let n = next bad.past bad.rest (goes_on bad.past bad.rest bad.goes.narrow (served_of bad.past bad.rest bad.goes) bad.goes.text) bad.some in
      bad.none n.entry n.narrow_entry n.begins

  never_unserved : (line : ℕ) → IsUnserved script report line → ⊥
  never_unserved line bad =
      let n = next bad.past bad.rest (goes_on bad.past bad.rest bad.goes.narrow (served_of bad.past bad.rest bad.goes) bad.goes.text) (begins_some bad.rest bad.entry bad.is) in
      bad.none n.entry n.narrow_entry n.begins (fits_first script bad.past n.entry n.served)

  never_broken : (line rule : ℕ) → IsBroken script report line rule → ⊥
  never_broken line rule bad =
      let n = next bad.past bad.rest (goes_on bad.past bad.rest bad.goes.narrow (served_of bad.past bad.rest bad.goes) bad.goes.text) (begins_some bad.rest bad.entry bad.is) in
      bad.broken n.entry n.narrow_entry n.begins (fits_first script bad.past n.entry n.served) (subst (λ (size : ℕ). IsLegalPast size (n.entry ∷ bad.past)) is.serves.nodes n.legal).0

  -- entries whose text is the whole report are the history's
  same_entries : (past : Past) → GoesOn (reverse past) h.entries [] → h.entries ≡ reverse past
  same_entries past on = by_behind on.behind on.whole on.text
    where
      by_behind : (behind : List Entry) → h.entries ≡ reverse past ++ behind → [] ≡ texts behind → h.entries ≡ reverse past
      by_behind [] whole text = whole ∙ append-nil (reverse past)
      by_behind (e ∷ more) whole text = absurd (no_end _ (texts more) (sym text))

  all_there : (lines : List Line) (past : Past) → all_answered lines past ≡ true → first_unanswered lines past ≡ None
  all_there [] past e = refl
  all_there (line ∷ lines) past e = by_test (is_answered line.at past) refl (all_there lines past) e
    where
      by_test : (t : Bool) → is_answered line.at past ≡ t → (all_answered lines past ≡ true → first_unanswered lines past ≡ None) → all_answered (line ∷ lines) past ≡ true → first_unanswered (line ∷ lines) past ≡ None
      by_test true k ih e = rw k (ih (rw k at e))
      by_test false k ih e = absurd (false≢true (rw k at e))

  never_unanswered : (line : ℕ) → IsUnanswered script report line → ⊥
  never_unanswered line bad =
      let same : h.entries ≡ reverse bad.past = same_entries bad.past (goes_on bad.past [] bad.goes.narrow (served_of bad.past [] bad.goes) bad.goes.text) in
      let turned : all ≡ bad.past = ap reverse same ∙ reverse-reverse bad.past in
      let answered = subst (λ (p : Past). all_answered (lines_of script) p ≡ true) turned is.serves.answered in
      elim bad.missing.missing [
        | inl lacking ↦ none-some bad.missing.at (sym (all_there (lines_of script) bad.past answered) ∙ lacking)
        | inr replay ↦ replay.1 (subst (λ (p : Past). due script.log p ≡ []) turned is.serves.replayed)
      ]

  abbrev history : ℕ → List Entry → History
  history nodes entries = record { nodes = nodes; entries = entries }

  one_history : (k : History) → IsLegalReport script report k → k ≡ h
  one_history k other =
      let past : Past = reverse k.entries in
      let text : report ≡ texts (reverse past) ++ [] = sym other.text ∙ ap texts (sym (reverse-reverse k.entries)) ∙ sym (append-nil (texts (reverse past))) in
      let same : h.entries ≡ reverse past = same_entries past (goes_on past [] other.narrow (record { lanes = other.serves.lanes; phases = other.serves.phases }) text) in
      ap (λ (n : ℕ). history n k.entries) (other.serves.nodes ∙ sym is.serves.nodes) ∙ ap (history h.nodes) (sym (reverse-reverse k.entries) ∙ sym same)

  -- a legal report is judged legal
  pub judged_legal : (judgement : Judgement) → IsJudgement script report judgement → judgement ≡ Legal h
  judged_legal (Legal k) found = ap Legal (one_history k found)
  judged_legal (Broken line rule) found = absurd (never_broken line rule found)
  judged_legal (Unserved line) found = absurd (never_unserved line found)
  judged_legal (Unread line) found = absurd (never_unread line found)
  judged_legal (Unanswered line) found = absurd (never_unanswered line.0 found)
