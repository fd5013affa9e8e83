-- One step of a walk back over the entries, to the newest one of a line that is no fault.
use Rattle.std.proofs.Common.{◌≡◌, ◌∷◌, ◌++◌, suc, false, arith, ℕ, Bool, Option, Some, None, List, [], refl, ap, ◌∙◌, sym, reverse, length}
use Rattle.std.specs.Prelude.{unwrap_or}
use Rattle.std.proofs.lemmas.List.{reverse-append}
use Rattle.nrt_base.specs.declared.numbers.At.{At}
use Rattle.history_rules.specs.declared.entry.Entry.{Entry}
use Rattle.history_rules.specs.Nodes.{Past}
use Rattle.history_rules.specs.Lines.{last_of_line}
use Rattle.history_rules.specs.Rules.{is_merging}

-- before all entries
pub first_merges : (left : List Entry) (at : At) → length left ≡ 0 → false ≡ is_merging (last_of_line at (reverse left))
first_merges [] at none = refl
first_merges (e ∷ left) at none = absurd (let some : suc (length left) ≡ 0 = none in omega (arith, some))

module _ (left front : List Entry) (e : Entry) (last : left ≡ front ++ e ∷ []) (at : At) where
  merges_back : (r : Option Bool) → ((past : Past) → is_merging (last_of_line at (e ∷ past)) ≡ unwrap_or r (is_merging (last_of_line at past))) → is_merging (last_of_line at (reverse left)) ≡ unwrap_or r (is_merging (last_of_line at (reverse front)))
  merges_back r says = ap (λ (past : Past). is_merging (last_of_line at past)) (ap reverse last ∙ reverse-append front (e ∷ [])) ∙ says (reverse front)

  pub merges_here : (r : Option Bool) (here : Bool) → r ≡ Some here → ((past : Past) → is_merging (last_of_line at (e ∷ past)) ≡ unwrap_or r (is_merging (last_of_line at past))) → here ≡ is_merging (last_of_line at (reverse left))
  merges_here r here is says = sym (merges_back r says ∙ ap (λ (x : Option Bool). unwrap_or x (is_merging (last_of_line at (reverse front)))) is)

  pub merges_before : (r : Option Bool) → r ≡ None → ((past : Past) → is_merging (last_of_line at (e ∷ past)) ≡ unwrap_or r (is_merging (last_of_line at past))) → is_merging (last_of_line at (reverse front)) ≡ is_merging (last_of_line at (reverse left))
  merges_before r is says = sym (merges_back r says ∙ ap (λ (x : Option Bool). unwrap_or x (is_merging (last_of_line at (reverse front)))) is)
