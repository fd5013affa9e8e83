-- What is shown of the run of a script, and which of the two is shown: a run or a report.
use Rattle.std.proofs.Common.{◌≡◌, ℕ, List, Option, true, false, ap, ◌∙◌, sym, take, reverse}
use Rattle.std.specs.Io.KnownBytes.{Appends}
use Rattle.std.proofs.lemmas.Bool.{false≢true}
use Rattle.std.proofs.lemmas.List.{reverse-reverse}
use Rattle.history_rules.specs.declared.entry.Entry.{Entry}
use Rattle.history_rules.specs.Legal.{IsLegal}
use Rattle.history_book.specs.Log.{printed}
use Rattle.script_serving.specs.declared.script.Script.{Script}
use Rattle.script_text.specs.Grammar.{SpellsScript}
use Rattle.script_serving.specs.Serves.{Serves}
use Rattle.cluster_state.specs.Run.{Run}
use Rattle.cluster_run.specs.Running.{history_of}
use Rattle.stream_commands.specs.Pictures.{ShowsScript, Shows, ShowsInPart, has_report, ByReport}

-- what is shown of the entries of a cluster is what is shown of its history
pub run_shown : (show : ℕ → List Entry → List ℕ) (script : Script) (r : Run) (entries : List Entry) (text : List ℕ) → IsLegal (history_of r) → Serves script (history_of r)
    → reverse entries ≡ printed r.log → text ≡ show script.nodes entries → ShowsScript show script text
run_shown show script r entries text legal serves is shown =
    let same : entries ≡ reverse (printed r.log) = sym (reverse-reverse entries) ∙ ap (λ (es : List Entry). reverse es) is in
    record { history = history_of r; legal = legal; serves = serves; is = shown ∙ (λ i. show (sym serves.nodes i) (same i)) }

module _ (show : ℕ → List Entry → List ℕ) (bytes : List ℕ) (script : Script) (text : List ℕ) (before after : Option (List ℕ)) (grammar : SpellsScript bytes script)
    (shown : ShowsScript show script text) where
  pub shows_whole : Appends before after text → Shows show bytes before after
  shows_whole written = record { script = script; grammar = grammar; text = text; shown = shown; written = written }

  pub shows_front : (n : ℕ) → Appends before after (take n text) → ShowsInPart show bytes before after
  shows_front n written = record { script = script; grammar = grammar; text = text; shown = shown; front = n; written = written }

-- what is so of a script alone, and of one with its report
module _ (bytes : List ℕ) (A B : Type 0) where
  pub by_script : false ≡ has_report bytes → A → ByReport bytes A B
  by_script none so = record { script = λ h. so; report = λ h. absurd (false≢true (none ∙ h)) }

  pub by_report : true ≡ has_report bytes → B → ByReport bytes A B
  by_report some so = record { script = λ h. absurd (false≢true (sym (some ∙ h))); report = λ h. so }
