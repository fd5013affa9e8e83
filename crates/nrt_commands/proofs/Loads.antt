-- A load: its script and its summary.
use Rattle.std.proofs.Common.{◌≡◌, ◌≤◌, ℕ, false, List, [], take, reverse, Option, ap, ◌∙◌, sym, subst, arith}
use Rattle.std.specs.Prelude.{IsSomeAnd}
use Rattle.std.specs.Io.KnownBytes.{Appends}
use Rattle.std.proofs.lemmas.List.{reverse-reverse}
use Rattle.history_rules.specs.declared.entry.Entry.{Entry}
use Rattle.history_rules.specs.Legal.{IsLegal}
use Rattle.history_book.specs.Log.{printed}
use Rattle.script_serving.specs.declared.script.Script.{Script}
use Rattle.script_serving.specs.Serves.{Serves}
use Rattle.load_script.specs.Generated.{generated_script}
use Rattle.load_script.specs.Totals.{totals_in, summary_text}
use Rattle.load_script.proofs.Searching.{totals_are}
use Rattle.cluster_state.specs.Run.{Run}
use Rattle.cluster_run.specs.Running.{history_of, TellsInner}
use Rattle.std.proofs.KnownBytes.{Consumes-nil}
use Rattle.stream_commands.specs.Reads.{TakesWithin}
use Rattle.nrt_commands.specs.Load.{IsSummary, LeavesSummary, LeavesSummaryInPart}

-- what is not read is taken within any limit
pub takes_none : (a b : Option (List ℕ)) → b ≡ a → TakesWithin a b
takes_none a b is = subst (TakesWithin a) (sym is) (record { bytes = []; taken = Consumes-nil a; within = omega arith })

pub summary_is : (n : ℕ) (script : Script) (r : Run) (entries : List Entry) (text : List ℕ) → n ≤ 10000 → script ≡ generated_script n → r.ended ≡ false → IsLegal (history_of r)
    → Serves script (history_of r) → TellsInner script r.log → reverse entries ≡ printed r.log → text ≡ summary_text n (totals_in n (reverse entries)) → IsSummary n r text
summary_is n script r entries text few is running legal serves told listed spelled =
    let served : Serves (generated_script n) (history_of r) = subst (λ (s : Script). Serves s (history_of r)) is serves in
    let so : TellsInner (generated_script n) r.log = subst (λ (s : Script). TellsInner s r.log) is told in
    let whole : reverse entries ≡ reverse (history_of r).entries = listed ∙ sym (reverse-reverse (printed r.log)) in
    record {
      ran = record { running = running; legal = legal; serves = served; told = so };
      is = spelled ∙ ap (summary_text n) (ap (totals_in n) whole ∙ totals_are n (history_of r) few legal served);
    }

module _ (n : ℕ) (r : Run) (text : List ℕ) (before after : Option (List ℕ)) (summary : IsSummary n r text) where
  pub leaves_summary : Appends before after text → LeavesSummary n before after r
  leaves_summary written = record { ran = summary.ran; written = subst (Appends before after) summary.is written }

  pub leaves_summary_in_part : (k : ℕ) → Appends before after (take k text) → LeavesSummaryInPart n before after r
  leaves_summary_in_part k written = record { ran = summary.ran; front = k; written = subst (λ (t : List ℕ). Appends before after (take k t)) summary.is written }

-- ---- a number that is another by name alone

pub same_summary : (m n : ℕ) (left : Option Run) (before after : Option (List ℕ)) → m ≡ n → IsSomeAnd left (LeavesSummary m before after) → IsSomeAnd left (LeavesSummary n before after)
same_summary m n left before after e has = subst (λ (k : ℕ). IsSomeAnd left (LeavesSummary k before after)) e has

pub same_front : (m n : ℕ) (left : Option Run) (before after : Option (List ℕ)) → m ≡ n → IsSomeAnd left (LeavesSummaryInPart m before after) → IsSomeAnd left (LeavesSummaryInPart n before after)
same_front m n left before after e has = subst (λ (k : ℕ). IsSomeAnd left (LeavesSummaryInPart k before after)) e has
