-- One more entry keeps what is noted of cuts.
use Rattle.std.proofs.Common.{◌≡◌, ℕ, ◌∷◌, Bool, true, false, if◌then◌else◌, refl, ap, ◌∙◌}
use Rattle.std.specs.BTreeMap.{BTreeMap}
use Rattle.nrt_base.specs.declared.numbers.At.{At}
use Rattle.history_rules.specs.declared.entry.Entry.{Entry}
use Rattle.history_rules.specs.Nodes.{Past}
use Rattle.history_rules.specs.Lines.{same_at, is_start, before_start}
use Rattle.history_rules.specs.Points.{cut_has_put}
use Rattle.report_judge.specs.CutNotes.{cut_noted, ShowsCuts}

-- an entry that starts nothing
pub cuts_still : (past : Past) (e : Entry) (cuts : BTreeMap (ℕ × ℕ) Bool) → ShowsCuts past cuts → is_start e.event ≡ false → ShowsCuts (e ∷ past) cuts
cuts_still past e cuts shows other = λ at. rw other (shows at)

-- one that starts its line
pub cuts_next : (past : Past) (e : Entry) (old new : BTreeMap (ℕ × ℕ) Bool) (has : Bool) → ShowsCuts past old → is_start e.event ≡ true → has ≡ cut_has_put past
    → ((at : At) → cut_noted new at ≡ (if same_at e.at at then has else cut_noted old at)) → ShowsCuts (e ∷ past) new
cuts_next past e old new has shows start is noted = λ at. by_test at (same_at e.at at) refl
  where
    by_test : (at : At) (t : Bool) → same_at e.at at ≡ t → cut_noted new at ≡ cut_has_put (before_start at (e ∷ past))
    by_test at true same = rw start (rw same (noted at ∙ ap (λ (b : Bool). if b then has else cut_noted old at) same ∙ is))
    by_test at false other = rw start (rw other (noted at ∙ ap (λ (b : Bool). if b then has else cut_noted old at) other ∙ shows at))
