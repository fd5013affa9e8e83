-- How far a report goes well, step by step.
use Rattle.std.proofs.Common.{◌≡◌, ℕ, suc, ◌+◌, ◌<◌, List, [], ◌∷◌, ◌++◌, length, get_or, take, drop, reverse, map, true, Some, None, refl, sym, ap, subst, ◌∙◌, append_assoc, append-nil, inl, inr, arith}
use Rattle.std.specs.Prelude.{slice_get}
use Rattle.std.specs.List.{flat_map}
use Rattle.std.proofs.lemmas.List.{reverse-append, reverse-reverse, length-reverse, length-take-le, take-append-drop}
use Rattle.std.proofs.Math.Seq.{drop-cons}
use Rattle.std.proofs.lemmas.Option.{slice_get_within, get_or_from_slice_get}
use Rattle.nrt_base.specs.declared.numbers.At.{At}
use Rattle.documents.specs.declared.operation.Op.{Op}
use Rattle.history_rules.specs.declared.entry.Entry.{Entry}
use Rattle.history_rules.specs.declared.entry.History.{History}
use Rattle.history_rules.specs.Nodes.{Past}
use Rattle.history_rules.specs.Legal.{KeepsRule, IsLegalPast, IsLegal, BreaksFirst}
use Rattle.report_text.specs.Texts.{text_of_entry, text_of}
use Rattle.report_reading.specs.Cuts.{first_line, behind_line}
use Rattle.report_reading.specs.Widths.{EntryIsNarrow}
use Rattle.report_reading.proofs.LineLaws.{line_is_first, lines_joined}
use Rattle.script_serving.specs.declared.script.Script.{Script}
use Rattle.script_serving.specs.Form.{IsInForm}
use Rattle.script_serving.specs.Lines.{lines_of, all_answered}
use Rattle.script_serving.specs.Replays.{due}
use Rattle.script_serving.specs.Serves.{ServesLanes, ServesPhases, Serves}
use Rattle.report_judge.specs.Judgements.{AllNarrow, GoesWell, FitsNext, GoesWellTo, BeginsWithEntry, IsLegalReport, IsUnread, IsUnserved, IsBroken, IsMissing, IsUnanswered, newest_at}
use Rattle.report_judge.specs.Places.{place_of, unanswered_place}
use Rattle.report_judge.proofs.PlaceLaws.{unanswered_is, none_unanswered}
use Rattle.report_judge.specs.Readings.{IsEntryOf, IsEntryRead}
use Rattle.report_judge.specs.declared.judging.WalkEnd.{WalkEnd}
use Rattle.report_judge.specs.declared.judging.WalkEnd.TheVariants.{Whole, Short, Unserved, Unread}
use Rattle.report_judge.specs.Walks.{ServesTo, NoneFits, IsStop, IsWalk}
use Rattle.serving_rules.proofs.ReplayLemmas.{serves_back}
use Rattle.report_judge.proofs.ServingLaws.{one_fitting, told_fitting}

-- a text that begins with the line of an entry has this as its first line
begun : (text : List ℕ) (e : Entry) → EntryIsNarrow e → BeginsWithEntry text e → text_of_entry e ≡ first_line text
begun text e narrow begins = sym (ap first_line begins.1 ∙ (line_is_first e begins.0 narrow).0)

-- a line that is read as nothing is that of no entry
pub none_begins : (script : Script) (ops : List Op) (text line : List ℕ) → line ≡ first_line text → IsEntryRead script ops line None → (e : Entry) → EntryIsNarrow e → BeginsWithEntry text e → ⊥
none_begins script ops text line cut read e narrow begins = read e narrow (begun text e narrow begins ∙ sym cut)

-- a text begins with the line of the entry that was read
pub read_begins : (text : List ℕ) (e : Entry) → text_of_entry e ≡ first_line text → BeginsWithEntry text e
read_begins text e same = (behind_line text, sym (lines_joined text) ∙ ap (λ (t : List ℕ). t ++ behind_line text) (sym same))

-- where the entry that was read does not fit, none does that has its line
pub none_fits_there : (script : Script) (past : Past) (text line : List ℕ) (f : Entry) → IsInForm script → line ≡ first_line text → IsEntryOf script (due script.log past) line f → (FitsNext script past f → ⊥) → NoneFits script past text
none_fits_there script past text line f form cut read other = record {
  entry = f;
  is = read_begins text f (read.text ∙ cut);
  none = λ e narrow begins fits.
      let same : text_of_entry e ≡ text_of_entry f = begun text e narrow begins ∙ sym cut ∙ sym read.text in
      let one : e ≡ f = one_fitting script past e f form narrow read.narrow same fits (record { place = read.place; told = read.told }) in
      other (subst (λ (x : Entry). FitsNext script past x) one fits);
}

flat-append : (xs ys : List Entry) → flat_map text_of_entry (xs ++ ys) ≡ flat_map text_of_entry xs ++ flat_map text_of_entry ys
flat-append [] ys = refl
flat-append (x ∷ xs) ys = ap (λ (t : List ℕ). text_of_entry x ++ t) (flat-append xs ys) ∙ sym (append_assoc (text_of_entry x) (flat_map text_of_entry xs) (flat_map text_of_entry ys))

-- one more entry that fits serves too
pub serves_next : (script : Script) (report : List ℕ) (past : Past) (text line rest : List ℕ) (e : Entry) → ServesTo script report past text → line ≡ first_line text → rest ≡ behind_line text → text_of_entry e ≡ line → EntryIsNarrow e → FitsNext script past e
    → ServesTo script report (e ∷ past) rest
serves_next script report past text line rest e serves cut behind same narrow fits =
    let joined : text ≡ text_of_entry e ++ rest = sym (lines_joined text) ∙ ap (λ (t : List ℕ). t ++ behind_line text) (sym (same ∙ cut)) ∙ ap (λ (t : List ℕ). text_of_entry e ++ t) (sym behind) in
    let front : flat_map text_of_entry (reverse (e ∷ past)) ≡ flat_map text_of_entry (reverse past) ++ text_of_entry e =
    ap (flat_map text_of_entry) (reverse-append (e ∷ []) past) ∙ flat-append (reverse past) (e ∷ []) ∙ ap (λ (t : List ℕ). flat_map text_of_entry (reverse past) ++ t) (append-nil (text_of_entry e)) in
    record {
      lanes = (fits.lane, serves.lanes);
      phases = (fits.phase, serves.phases);
      narrow = (narrow, serves.narrow);
      text =
          serves.text
          ∙ ap (λ (t : List ℕ). flat_map text_of_entry (reverse past) ++ t) joined
          ∙ sym (append_assoc (flat_map text_of_entry (reverse past)) (text_of_entry e) rest)
          ∙ ap (λ (t : List ℕ). t ++ rest) (sym front);
    }

-- a report that was read so far
pub walk_ends : (script : Script) (report : List ℕ) (h : History) (ended : WalkEnd) (items : List Entry) (rest : List ℕ) → h.nodes ≡ script.nodes → h.entries ≡ items
    → ServesTo script report (reverse items) rest → IsStop script (reverse items) rest ended → IsWalk script report h ended
walk_ends script report h ended items rest nodes entries serves end = record {
  nodes = nodes;
  rest = rest;
  serves = subst (λ (es : List Entry). ServesTo script report (reverse es) rest) (sym entries) serves;
  stop = subst (λ (es : List Entry). IsStop script (reverse es) rest ended) (sym entries) end;
}

pub some_left : (text rest : List ℕ) → length rest < length text → text ≡ [] → ⊥
some_left text rest low none = let z : length text ≡ 0 = ap length none in omega (arith, low, z)

-- before any line
pub none_read_yet : (script : Script) (report : List ℕ) → ServesTo script report [] report
none_read_yet script report = record { lanes = tt; phases = tt; narrow = tt; text = refl }

-- one more entry
pub reversed_push : (P : Past → Type 0) (items all : List Entry) (e : Entry) → all ≡ items ++ e ∷ [] → P (e ∷ reverse items) → P (reverse all)
reversed_push P items all e pushed h = subst P (sym (ap reverse pushed ∙ reverse-append items (e ∷ []))) h

-- ---- the end of a report

-- a line of the script lacks its reply
pub line_missing : (script : Script) (past : Past) (places : List At) (at : At) → places ≡ map place_of (lines_of script) → Some at ≡ unanswered_place places past → IsMissing script past at.line.0
line_missing script past places at same found = record {
  at = at;
  number = refl;
  missing = inl (sym (unanswered_is (lines_of script) past) ∙ (ap (λ (ps : List At). unanswered_place ps past) (sym same) ∙ sym found));
}

all_have : (script : Script) (past : Past) (places : List At) → places ≡ map place_of (lines_of script) → None ≡ unanswered_place places past → all_answered (lines_of script) past ≡ true
all_have script past places same none =
    none_unanswered (lines_of script) past (sym (unanswered_is (lines_of script) past) ∙ (ap (λ (ps : List At). unanswered_place ps past) (sym same) ∙ sym none))

-- a replay is not done
pub replay_missing : (script : Script) (past : Past) (places : List At) (left : List Op) (at : At) → places ≡ map place_of (lines_of script) → None ≡ unanswered_place places past
    → left ≡ due script.log past → (left ≡ [] → ⊥) → Some at ≡ newest_at past → IsMissing script past at.line.0
replay_missing script past places left at same none is some newest = record {
  at = at;
  number = refl;
  missing = inr (all_have script past places same none, (λ done. some (is ∙ done)), sym newest);
}

-- all is answered
pub served_whole : (script : Script) (past : Past) (places : List At) (left : List Op) → ServesLanes script past → ServesPhases (lines_of script) script.phases past → places ≡ map place_of (lines_of script)
    → None ≡ unanswered_place places past → left ≡ due script.log past → left ≡ [] → Serves script (record { nodes = script.nodes; entries = reverse past })
served_whole script past places left lanes phases same none is done =
    let turned : past ≡ reverse (reverse past) = sym (reverse-reverse past) in
    record {
      nodes = refl;
      lanes = subst (ServesLanes script) turned lanes;
      phases = subst (ServesPhases (lines_of script) script.phases) turned phases;
      answered = subst (λ (p : Past). all_answered (lines_of script) p ≡ true) turned (all_have script past places same none);
      replayed = subst (λ (p : Past). due script.log p ≡ []) turned (sym is ∙ done);
    }

-- ---- a place in a history

-- a list is what stands before a place, the item there, and what stands behind it
record Cut (xs : List Entry) (i : ℕ) (x : Entry) : Type 0 where
  back : List Entry
  whole : xs ≡ take i xs ++ x ∷ back
  count : length (take i xs) ≡ i

cut_at : (xs : List Entry) (i : ℕ) (x : Entry) → slice_get xs i ≡ Some x → Cut xs i x
cut_at xs i x there =
    let low : i < length xs = slice_get_within xs i x there in
    let item : get_or xs i x ≡ x = get_or_from_slice_get xs i x x there in
    record {
      back = drop (suc i) xs;
      whole =
          sym (take-append-drop i xs)
          ∙ ap (λ (ys : List Entry). take i xs ++ ys) (drop-cons xs i x low)
          ∙ ap (λ (y : Entry). take i xs ++ y ∷ drop (suc i) xs) item;
      count = length-take-le i xs (omega (arith, low));
    }

pub phases_behind : (script : Script) (newer past : Past) → ServesPhases (lines_of script) script.phases (newer ++ past) → ServesPhases (lines_of script) script.phases past
phases_behind script [] past h = h
phases_behind script (e ∷ newer) past h = phases_behind script newer past h.1

pub narrow_behind : (newer past : Past) → AllNarrow (newer ++ past) → AllNarrow past
narrow_behind [] past h = h
narrow_behind (e ∷ newer) past h = narrow_behind newer past h.1

-- the past at a place is behind what is newer
turned : (xs front back : List Entry) (x : Entry) → xs ≡ front ++ x ∷ back → reverse xs ≡ reverse back ++ x ∷ reverse front
turned xs front back x whole =
    ap reverse whole ∙ reverse-append front (x ∷ back)
    ∙ ap (λ (ys : List Entry). ys ++ reverse front) (reverse-append (x ∷ []) back)
    ∙ append_assoc (reverse back) (x ∷ []) (reverse front)

-- ---- the judgement

module _ (script : Script) (report : List ℕ) (h : History) (stop : WalkEnd) (walk : IsWalk script report h stop) where
  abbrev past : Past
  past = reverse h.entries

  well : IsLegal h → GoesWell script past
  well legal = record {
    legal = subst (λ (n : ℕ). IsLegalPast n past) walk.nodes legal;
    lanes = walk.serves.lanes;
    phases = walk.serves.phases;
  }

  goes : IsLegal h → GoesWellTo script report past walk.rest
  goes legal = record { well = well legal; narrow = walk.serves.narrow; text = walk.serves.text }

  abbrev Ends : WalkEnd → Type 0
  Ends s = IsStop script past walk.rest s

  whole_text : walk.rest ≡ [] → text_of h ≡ report
  whole_text none =
      ap (flat_map text_of_entry) (sym (reverse-reverse h.entries))
      ∙ sym (append-nil (flat_map text_of_entry (reverse past)))
      ∙ ap (λ (t : List ℕ). flat_map text_of_entry (reverse past) ++ t) (sym none)
      ∙ sym walk.serves.text

  abbrev history : ℕ → List Entry → History
  history nodes entries = record { nodes = nodes; entries = entries }

  serving : Serves script (history script.nodes (reverse past)) → Serves script h
  serving serves =
      subst (λ (k : History). Serves script k) (ap (λ (n : ℕ). history n (reverse past)) (sym walk.nodes) ∙ ap (history h.nodes) (reverse-reverse h.entries)) serves

  -- a report that is read whole and is legal is a legal report
  pub legal_whole : stop ≡ Whole → IsLegal h → IsLegalReport script report h
  legal_whole is legal =
      let end = subst Ends is walk.stop in
      record { legal = legal; serves = serving end.1; narrow = walk.serves.narrow; text = whole_text end.0 }

  pub legal_short : (line : _) → stop ≡ Short line → IsLegal h → IsUnanswered script report line.0
  legal_short line is legal =
      let end = subst Ends is walk.stop in
      record {
        past = past;
        goes = subst (λ (rest : List ℕ). GoesWellTo script report past rest) end.0 (goes legal);
        missing = end.1;
      }

  place_of_next : length h.entries + 1 ≡ length past + 1
  place_of_next = ap (λ (n : ℕ). n + 1) (sym (length-reverse h.entries))

  pub legal_unserved : stop ≡ Unserved → IsLegal h → IsUnserved script report (length h.entries + 1)
  legal_unserved is legal =
      let end = subst Ends is walk.stop in
      record { past = past; rest = walk.rest; goes = goes legal; place = place_of_next; entry = end.1.entry; is = end.1.is; none = end.1.none }

  pub legal_unread : stop ≡ Unread → IsLegal h → IsUnread script report (length h.entries + 1)
  legal_unread is legal =
      let end = subst Ends is walk.stop in
      record { past = past; rest = walk.rest; goes = goes legal; place = place_of_next; some = end.0; none = end.1 }

  -- the first entry that breaks its rule is the first with which no legal history goes on
  pub broken_at : IsInForm script → (at rule : ℕ) (breaks : BreaksFirst h at rule) → EntryIsNarrow breaks.entry → IsBroken script report (at + 1) rule
  broken_at form at rule breaks narrow =
      let cut = cut_at h.entries at breaks.entry breaks.there in
      let front = take at h.entries in
      let before = reverse front in
      let around : past ≡ reverse cut.back ++ breaks.entry ∷ before = turned h.entries front cut.back breaks.entry cut.whole in
      let lanes = serves_back script (reverse cut.back) (breaks.entry ∷ before) (subst (ServesLanes script) around walk.serves.lanes) in
      let phases = phases_behind script (reverse cut.back) (breaks.entry ∷ before) (subst (ServesPhases (lines_of script) script.phases) around walk.serves.phases) in
      let fits : FitsNext script before breaks.entry = record { lane = lanes.0; phase = phases.0 } in
      let left = flat_map text_of_entry (breaks.entry ∷ cut.back) ++ walk.rest in
      record {
        past = before;
        rest = left;
        goes = record {
          well = record {
            legal = subst (λ (n : ℕ). IsLegalPast n before) walk.nodes breaks.before;
            lanes = lanes.1;
            phases = phases.1;
          };
          narrow = (narrow_behind (reverse cut.back) (breaks.entry ∷ before) (subst AllNarrow around walk.serves.narrow)).1;
          text = text_there cut.back breaks.entry front cut.whole;
        };
        place = ap (λ (n : ℕ). n + 1) (sym (length-reverse front ∙ cut.count));
        entry = breaks.entry;
        is = (flat_map text_of_entry cut.back ++ walk.rest, append_assoc (text_of_entry breaks.entry) (flat_map text_of_entry cut.back) walk.rest);
        fits = fits;
        numbered = breaks.numbered;
        broken = λ e other begins too keeps.
            let mine : BeginsWithEntry left breaks.entry = (flat_map text_of_entry cut.back ++ walk.rest, append_assoc (text_of_entry breaks.entry) (flat_map text_of_entry cut.back) walk.rest) in
            let same : text_of_entry e ≡ text_of_entry breaks.entry = begun left e other begins ∙ sym (begun left breaks.entry narrow mine) in
            let one : e ≡ breaks.entry = one_fitting script before e breaks.entry form other narrow same too (told_fitting script before breaks.entry form fits) in
            breaks.broken (subst (λ (n : ℕ). KeepsRule n before breaks.entry.at breaks.entry.event) (sym walk.nodes) (subst (λ (x : Entry). KeepsRule script.nodes before x.at x.event) one keeps));
      }
    where
      text_there : (back : List Entry) (x : Entry) (front : List Entry) → h.entries ≡ front ++ x ∷ back
          → report ≡ flat_map text_of_entry (reverse (reverse front)) ++ (flat_map text_of_entry (x ∷ back) ++ walk.rest)
      text_there back x front whole =
          walk.serves.text
          ∙ ap (λ (ys : List Entry). flat_map text_of_entry ys ++ walk.rest) (reverse-reverse h.entries ∙ whole)
          ∙ ap (λ (t : List ℕ). t ++ walk.rest) (flat-append front (x ∷ back))
          ∙ append_assoc (flat_map text_of_entry front) (flat_map text_of_entry (x ∷ back)) walk.rest
          ∙ ap (λ (ys : List Entry). flat_map text_of_entry ys ++ (flat_map text_of_entry (x ∷ back) ++ walk.rest)) (sym (reverse-reverse front))
