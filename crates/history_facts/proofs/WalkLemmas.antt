-- One step of a walk back.
use Rattle.std.proofs.Common.{◌≡◌, ◌∷◌, ◌++◌, suc, arith, ℕ, Bool, Option, Some, None, List, [], refl, ap, ◌∙◌, sym, subst, reverse, length}
use Rattle.std.specs.Prelude.{unwrap_or}
use Rattle.std.proofs.lemmas.List.{reverse-append}
use Rattle.nrt_base.specs.declared.numbers.NodeNo.{NodeNo}
use Rattle.history_rules.specs.declared.entry.Entry.{Entry}
use Rattle.history_rules.specs.Nodes.{Past, is_at, primary_by, primary_of, version_of}
use Rattle.history_facts.specs.declared.counting.Sought.{Sought}
use Rattle.history_facts.specs.declared.counting.Sought.TheVariants.{Point, Start, Written}
use Rattle.history_facts.specs.declared.searched.Said.{Said}
use Rattle.history_facts.specs.declared.searched.Said.TheVariants.{Found, Before}
use Rattle.history_facts.specs.Walks.{operations_sought, ReignsNot, SaysBack}

-- the newest entry stands last
pub last_newest : (left front : List Entry) (e : Entry) → left ≡ front ++ e ∷ [] → reverse left ≡ e ∷ reverse front
last_newest left front e is = ap reverse is ∙ reverse-append front (e ∷ [])

-- before all entries
none_left : (P : Past → Type 0) (left : List Entry) → length left ≡ 0 → P [] → P (reverse left)
none_left P [] none p = p
none_left P (e ∷ left) none p = absurd (let some : suc (length left) ≡ 0 = none in omega (arith, some))

pub first_reigns : (left : List Entry) (n : ℕ) → length left ≡ 0 → is_at (Some (record { 0 = 1 })) n ≡ is_at (primary_of (reverse left)) n
first_reigns left n none = none_left (λ past. is_at (Some (record { 0 = 1 })) n ≡ is_at (primary_of past) n) left none refl

pub first_version : (left : List Entry) (n : ℕ) → length left ≡ 0 → ◌≡◌ {A = ℕ} 1 (version_of n (reverse left))
first_version left n none = none_left (λ past. ◌≡◌ {A = ℕ} 1 (version_of n past)) left none refl

none_sought : (s : Sought) → length (operations_sought s []) ≡ 0
none_sought (Point v) = refl
none_sought (Start at) = refl
none_sought Written = refl

pub first_sought : (left : List Entry) (s : Sought) → length left ≡ 0 → length (operations_sought s (reverse left)) ≡ 0
first_sought left s none = none_left (λ past. length (operations_sought s past) ≡ 0) left none (none_sought s)

module _ (left front : List Entry) (e : Entry) (last : left ≡ front ++ e ∷ []) (n : ℕ) where
  -- who is the primary
  pub reigns_back : (r : Option Bool) → ((p : Option NodeNo) → is_at (primary_by e.event p) n ≡ unwrap_or r (is_at p n)) → is_at (primary_of (reverse left)) n ≡ unwrap_or r (is_at (primary_of (reverse front)) n)
  reigns_back r says = ap (λ (past : Past). is_at (primary_of past) n) (last_newest left front e last) ∙ says (primary_of (reverse front))

  pub reigns_here : (r : Option Bool) (here : Bool) → r ≡ Some here → ((p : Option NodeNo) → is_at (primary_by e.event p) n ≡ unwrap_or r (is_at p n)) → here ≡ is_at (primary_of (reverse left)) n
  reigns_here r here is says = sym (reigns_back r says ∙ ap (λ (x : Option Bool). unwrap_or x (is_at (primary_of (reverse front)) n)) is)

  pub reigns_before : (r : Option Bool) → r ≡ None → ((p : Option NodeNo) → is_at (primary_by e.event p) n ≡ unwrap_or r (is_at p n)) → is_at (primary_of (reverse front)) n ≡ is_at (primary_of (reverse left)) n
  reigns_before r is says = sym (reigns_back r says ∙ ap (λ (x : Option Bool). unwrap_or x (is_at (primary_of (reverse front)) n)) is)

  -- the version that a node searches
  pub apart_here : (apart : Bool) → ReignsNot apart n (reverse left) → ReignsNot apart n (e ∷ reverse front)
  apart_here apart was = subst (ReignsNot apart n) (last_newest left front e last) was

  pub found_here : (look : Said) (v : ℕ) → look ≡ Found v → SaysBack n e (reverse front) look → v ≡ version_of n (reverse left)
  found_here look v is says = sym (ap (version_of n) (last_newest left front e last) ∙ subst (SaysBack n e (reverse front)) is says)

  pub same_before : (look : Said) (apart : Bool) → look ≡ Before apart → SaysBack n e (reverse front) look → version_of n (reverse front) ≡ version_of n (reverse left)
  same_before look apart is says = sym (ap (version_of n) (last_newest left front e last) ∙ (subst (SaysBack n e (reverse front)) is says).0)

  pub apart_before : (look : Said) (apart : Bool) → look ≡ Before apart → SaysBack n e (reverse front) look → ReignsNot apart n (reverse front)
  apart_before look apart is says = (subst (SaysBack n e (reverse front)) is says).1
