-- A line that is the line of an entry is read as it, with what its line of the script says.
use Rattle.std.proofs.Common.{◌≡◌, ℕ, List, [], ◌∷◌, ◌++◌, Option, Some, None, Result, Ok, Err, IfOk, refl, sym, ap, subst, ◌∙◌}
use Rattle.std.specs.Fmt.{decimal}
use Rattle.std.proofs.lemmas.Option.{none-some}
use Rattle.nrt_base.proofs.Plain.{cons_parts}
use Rattle.nrt_base.specs.declared.numbers.At.{At}
use Rattle.documents.specs.declared.operation.Op.{Op}
use Rattle.history_rules.specs.declared.entry.Event.{Event}
use Rattle.history_rules.specs.declared.entry.Event.TheVariants.{Accepted, Answered, Drained}
use Rattle.history_rules.specs.declared.entry.Entry.{Entry}
use Rattle.report_text.specs.Texts.{all_spaced, event_words, text_of_entry}
use Rattle.report_reading.specs.Cuts.{cut_words, later_words}
use Rattle.report_reading.specs.Widths.{EntryIsNarrow}
use Rattle.report_reading.specs.Readings.{as_told, IsEventRead, count_word}
use Rattle.report_reading.proofs.LineLaws.{line_is_cut}
use Rattle.report_reading.proofs.ReadingLaws.{count_word_is}
use Rattle.script_serving.specs.declared.script.Line.{Line}
use Rattle.script_serving.specs.declared.script.LineCommand.{LineCommand}
use Rattle.script_serving.specs.declared.script.LineCommand.TheVariants.{Publish}
use Rattle.script_serving.specs.Lines.{lines_of}
use Rattle.script_serving.specs.declared.script.Script.{Script}
use Rattle.report_judge.specs.Places.{line_numbered, place_by, command_by, place_told, command_told}
use Rattle.report_judge.proofs.PlaceLaws.{numbered_is}
use Rattle.report_judge.specs.Readings.{IsEntryRead, IsToldRead}

-- what a line says in place of what is not printed is not printed
told_words : (due : List Op) (command : LineCommand) (e : Event) → event_words (as_told due command e) ≡ event_words e
told_words due command (Accepted seq op) = refl
told_words due command (Answered n t v query answer) = refl
told_words due command (Drained done most) = refl
told_words due command e = refl

abbrev entry : At → Event → Entry
entry at e = record { at = at; event = e }

abbrev text_with : ℕ → List (List ℕ) → List ℕ
text_with number words = decimal number ++ all_spaced words ++ 10 ∷ []

-- the words of a line that is the line of an entry
record Words (word : List ℕ) (rest : List (List ℕ)) (e : Entry) : Type 0 where
  number : word ≡ decimal e.at.line.0
  event : event_words e.event ≡ rest

words_of : (line word : List ℕ) (rest : List (List ℕ)) (e : Entry) → EntryIsNarrow e → cut_words line ≡ word ∷ rest → text_of_entry e ≡ line → Words word rest e
words_of line word rest e narrow cut text =
    let parts = cons_parts word (decimal e.at.line.0) rest (event_words e.event) (sym cut ∙ ap cut_words (sym text) ∙ line_is_cut e narrow) in
    record { number = parts.0; event = sym parts.1 }

module _ (at : At) (due : List Op) (command : LineCommand) (line word rest : List ℕ) (cut : cut_words line ≡ word ∷ later_words rest) where
  -- where no event is read, the line is that of no entry
  pub none_read : IsEventRead due command (later_words rest) None → IsToldRead at due command line None
  none_read read e narrow number text =
      let words = words_of line word (later_words rest) e narrow cut text in
      none-some (as_told due command e.event) (read e.event narrow.event words.event)

  same_event : (f e : Event) → Some f ≡ Some e → f ≡ e
  same_event f e h = cc

  -- where the entry that is read has another text, neither is it
  pub other_text : (event : Event) → IsEventRead due command (later_words rest) (Some event) → (text_of_entry (entry at event) ≡ line → ⊥) → IsToldRead at due command line None
  other_text event read other e narrow number text =
      let words = words_of line word (later_words rest) e narrow cut text in
      let same : event ≡ as_told due command e.event = same_event event (as_told due command e.event) (read e.event narrow.event words.event) in
      let spelled : event_words event ≡ event_words e.event = ap event_words same ∙ told_words due command e.event in
      other (ap (text_with at.line.0) spelled ∙ ap (λ (n : ℕ). text_with n (event_words e.event)) (sym number) ∙ text)

  -- the entry that is read says what the line does
  pub told_read : (event : Event) → IsEventRead due command (later_words rest) (Some event) → EntryIsNarrow (entry at event) → text_of_entry (entry at event) ≡ line
      → IsToldRead at due command line (Some (entry at event))
  told_read event read narrow text =
      let words = words_of line word (later_words rest) (entry at event) narrow cut text in
      let same : event ≡ as_told due command event = same_event event (as_told due command event) (read event narrow.event words.event) in
      (narrow, text, refl, sym same)

-- ---- the number of a line

-- a line that begins with no number is that of no entry
pub no_number : (line word : List ℕ) (rest : List (List ℕ)) → cut_words line ≡ word ∷ rest → count_word word ≡ None → (e : Entry) → EntryIsNarrow e → text_of_entry e ≡ line → ⊥
no_number line word rest cut none e narrow text =
    let words = words_of line word rest e narrow cut text in
    none-some e.at.line.0 (sym none ∙ ap count_word words.number ∙ count_word_is e.at.line.0 narrow.line)

-- the number of a line is that of its entry
number_of : (line word : List ℕ) (rest : List (List ℕ)) (n : ℕ) → cut_words line ≡ word ∷ rest → count_word word ≡ Some n → (e : Entry) → EntryIsNarrow e → text_of_entry e ≡ line → e.at.line.0 ≡ n
number_of line word rest n cut found e narrow text =
    let words = words_of line word rest e narrow cut text in
    same e.at.line.0 n (sym (count_word_is e.at.line.0 narrow.line) ∙ ap count_word (sym words.number) ∙ found)
  where
    same : (a b : ℕ) → Some a ≡ Some b → a ≡ b
    same a b h = cc

pub told_line : (script : Script) (due : List Op) (line word : List ℕ) (rest : List (List ℕ)) (n : ℕ) → cut_words line ≡ word ∷ rest → count_word word ≡ Some n
    → (read : Option Entry) → (place_told script n).line.0 ≡ n → IsToldRead (place_told script n) due (command_told script n) line read → IsEntryRead script due line read
told_line script due line word rest n cut found None same read = λ e narrow text.
    read e narrow (number_of line word rest n cut found e narrow text ∙ sym same) text
told_line script due line word rest n cut found (Some e) same read =
    let number : e.at.line.0 ≡ n = number_of line word rest n cut found e read.0 read.1 in
    record {
      narrow = read.0;
      text = read.1;
      place = read.2 ∙ ap (place_told script) (sym number);
      told = ap (λ (k : ℕ). as_told due (command_told script k) e.event) number ∙ read.3;
    }

-- a line whose number a line of the script has is read by what that line says
pub told_by_line : {E : Type 0} (script : Script) (due : List Op) (line word : List ℕ) (rest : List (List ℕ)) (n : ℕ) (told : Line) → cut_words line ≡ word ∷ rest → count_word word ≡ Some n
    → line_numbered n (lines_of script) ≡ Some told → (r : Result (Option Entry) E) → IfOk r (IsToldRead told.at due told.command line) → IfOk r (IsEntryRead script due line)
told_by_line script due line word rest n told cut found numbered (Ok read) h =
    let place : place_told script n ≡ told.at = ap (place_by n) numbered in
    let command : command_told script n ≡ told.command = ap command_by numbered in
    told_line script due line word rest n cut found read (ap (λ (at : At). at.line.0) place ∙ (numbered_is n (lines_of script) told numbered).number)
    (subst (λ (at : At). IsToldRead at due (command_told script n) line read) (sym place) (subst (λ (c : LineCommand). IsToldRead told.at due c line read) (sym command) h))
told_by_line script due line word rest n told cut found numbered (Err fault) h = h

abbrev nowhere : ℕ → At
nowhere n = record { lane = record { 0 = 0 }; line = record { 0 = n } }

-- where no line of the script has it, by nothing
pub told_by_none : {E : Type 0} (script : Script) (due : List Op) (line word : List ℕ) (rest : List (List ℕ)) (n : ℕ) → cut_words line ≡ word ∷ rest → count_word word ≡ Some n
    → line_numbered n (lines_of script) ≡ None → (r : Result (Option Entry) E) → IfOk r (IsToldRead (nowhere n) due Publish line) → IfOk r (IsEntryRead script due line)
told_by_none script due line word rest n cut found none (Ok read) h =
    let place : place_told script n ≡ nowhere n = ap (place_by n) none in
    let command : command_told script n ≡ Publish = ap command_by none in
    told_line script due line word rest n cut found read (ap (λ (at : At). at.line.0) place)
    (subst (λ (at : At). IsToldRead at due (command_told script n) line read) (sym place) (subst (λ (c : LineCommand). IsToldRead (nowhere n) due c line read) (sym command) h))
told_by_none script due line word rest n cut found none (Err fault) h = h
