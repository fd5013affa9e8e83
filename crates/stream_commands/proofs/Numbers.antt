-- The words of a command with a number.
use Rattle.std.proofs.Common.{◌≡◌, ◌≤◌, ◌<◌, ◌^◌, ℕ, true, false, List, [], ◌∷◌, length, get_or, Option, ap, ◌∙◌, sym, subst, arith}
use Rattle.std.specs.Prelude.{MatchOption}
use Rattle.std.specs.Fmt.{decimal}
use Rattle.std.proofs.lemmas.Bool.Decides.{nat_tests}
use Rattle.std.proofs.lemmas.Fmt.{decimal_injective}
use Rattle.nrt_base.specs.Bytes.{is_between}
use Rattle.script_text.specs.Reading.{number_within}
use Rattle.script_text.proofs.NumberLemmas.{number_case}
use Rattle.script_text.proofs.NumberLaws.{number_in}
use Rattle.script_text.specs.Refused.{is_number_in}
use Rattle.stream_commands.specs.Numbered.{AreNameAndNumber, AreNameAndSome}

two_words : (a b c d : List ℕ) → ◌≡◌ {A = List (List ℕ)} (a ∷ b ∷ []) (c ∷ d ∷ []) → (a ≡ c) × (b ≡ d)
two_words a b c d e = (cc, cc)

pub pair_of : (words : List (List ℕ)) (a b : List ℕ) → 2 ≤ length words → length words < 3 → a ≡ get_or words 0 a → b ≡ get_or words 1 b → words ≡ a ∷ b ∷ []
pair_of [] a b low high e f = absurd (omega (arith, low))
pair_of (x ∷ []) a b low high e f = absurd (omega (arith, low))
pair_of (x ∷ y ∷ []) a b low high e f = λ i. sym e i ∷ sym f i ∷ []
pair_of (x ∷ y ∷ z ∷ words) a b low high e f = absurd (omega (arith, high))

module _ (name : List ℕ) (most : ℕ) (words : List (List ℕ)) where
  -- words of another form are not such
  pub other_words : ((w : List ℕ) → words ≡ name ∷ w ∷ [] → ⊥) → AreNameAndSome name most words → ⊥
  other_words none asks = none (decimal asks.0) asks.1.is

  pub first_is : (a b : List ℕ) → words ≡ a ∷ b ∷ [] → (a ≡ name → ⊥) → AreNameAndSome name most words → ⊥
  first_is a b is other asks = other (two_words a b name (decimal asks.0) (sym is ∙ asks.1.is)).0

  -- nor is one word alone
  pub one_word : (w : List ℕ) (n : ℕ) → words ≡ w ∷ [] → AreNameAndNumber name most words n → ⊥
  one_word w n is asks = short w name (decimal n) (sym is ∙ asks.is)
    where
      short : (a b c : List ℕ) → ◌≡◌ {A = List (List ℕ)} (a ∷ []) (b ∷ c ∷ []) → ⊥
      short a b c e = cc

  pub no_word : (w : List ℕ) → words ≡ w ∷ [] → AreNameAndSome name most words → ⊥
  no_word w is asks = one_word w asks.0 is asks.1

  -- the second word says the number
  asked : (a b : List ℕ) (result : Option ℕ) → most < 2 ^ 64 → words ≡ a ∷ b ∷ [] → a ≡ name → result ≡ number_within 1 most b → MatchOption result (AreNameAndSome name most words → ⊥) (AreNameAndNumber name most words)
  asked a b result small is same number =
      subst (λ (o : Option ℕ). MatchOption o (AreNameAndSome name most words → ⊥) (AreNameAndNumber name most words)) (sym number)
      (number_case 1 most b small (λ (o : Option ℕ). MatchOption o (AreNameAndSome name most words → ⊥) (AreNameAndNumber name most words)) held none)
    where
      held : (n : ℕ) → is_number_in 1 most b ≡ true → decimal n ≡ b → is_between 1 most n ≡ true → AreNameAndNumber name most words n
      held n number spelled between =
          record {
            is = is ∙ (ap (λ (w : List ℕ). w ∷ b ∷ []) same ∙ ap (λ (w : List ℕ). name ∷ w ∷ []) (sym spelled));
            low = grind (arith, nat_tests);
            high = grind (arith, nat_tests);
          }

      none : is_number_in 1 most b ≡ false → AreNameAndSome name most words → ⊥
      none off asks =
          let n : ℕ = asks.0 in
          let low = asks.1.low in
          let high = asks.1.high in
          let spelled : b ≡ decimal n = (two_words a b name (decimal n) (sym is ∙ asks.1.is)).1 in
          let between : is_between 1 most n ≡ true = grind (arith, nat_tests, low, high) in
          let number : is_number_in 1 most (decimal n) ≡ true = number_in 1 most n (omega (arith, high, small)) between in
          let bad : true ≡ false = sym number ∙ (ap (is_number_in 1 most) (sym spelled) ∙ off) in
          cc

  -- so with the slices of both words
  pub asked_pair : (a s b u : List ℕ) (result : Option ℕ) → most < 2 ^ 64 → words ≡ a ∷ b ∷ [] → s ≡ a → u ≡ b → s ≡ name → result ≡ number_within 1 most u
      → MatchOption result (AreNameAndSome name most words → ⊥) (AreNameAndNumber name most words)
  asked_pair a s b u result small is first second same number = asked a b result small is (sym first ∙ same) (number ∙ ap (number_within 1 most) second)

  -- one number is asked for at most
  pub one_number : (m n : ℕ) → most < 2 ^ 64 → AreNameAndNumber name most words m → AreNameAndNumber name most words n → m ≡ n
  one_number m n small one two =
      decimal_injective m n (omega (arith, one.high, small)) (omega (arith, two.high, small)) (two_words name (decimal m) name (decimal n) (sym one.is ∙ two.is)).1
