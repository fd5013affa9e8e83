-- What a node searches now is what it searched since the start of each line.
use Rattle.std.proofs.Common.{◌≡◌, ◌==◌, ◌<◌, ℕ, List, [], ◌∷◌, length, reverse, Bool, true, false, true≢false, ◌&&◌, ◌||◌, if◌then◌else◌, sym, ap, ◌∙◌, arith}
use Rattle.std.proofs.lemmas.Bool.{eq-eqb}
use Rattle.std.proofs.lemmas.List.{length-reverse}
use Rattle.nrt_base.specs.declared.numbers.At.{At}
use Rattle.history_rules.specs.declared.entry.Entry.{Entry}
use Rattle.history_rules.specs.Nodes.{Past, version_of}
use Rattle.history_rules.specs.Lines.{same_at, is_start}
use Rattle.history_rules.specs.Commits.{was_searched_since}

searched : (at : At) (n v : ℕ) (past : Past) → 0 < length past → version_of n past ≡ v → true ≡ was_searched_since at n v past
searched at n v [] some is = absurd (omega arith)
searched at n v (e ∷ past) some is =
    ap (λ (b : Bool). b || (if is_start e.event && same_at e.at at then false else was_searched_since at n v past)) (sym (eq-eqb (version_of n (e ∷ past)) v is))

not_none : (entries : List Entry) → (length entries == 0) ≡ false → 0 < length (reverse entries)
not_none [] some = absurd (true≢false some)
not_none (e ∷ entries) some = let long = length-reverse (e ∷ entries) in omega (arith, long)

-- where a node searches the version behind some entries, it has searched it since the start of a line
pub searched_now : (at : At) (n v found : ℕ) (entries : List Entry) → (length entries == 0) ≡ false → found ≡ version_of n (reverse entries) → found ≡ v
    → true ≡ was_searched_since at n v (reverse entries)
searched_now at n v found entries some known is = searched at n v (reverse entries) (not_none entries some) (sym known ∙ is)
