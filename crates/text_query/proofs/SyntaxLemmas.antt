-- The states tell from which tokens a query goes on.
use Rattle.std.proofs.Common.{◌≡◌, ℕ, zero, suc, List, [], ◌∷◌, ◌++◌, Bool, true, false, Option, Some, None, refl, ap, sym, ◌∙◌, append_assoc, length, take, get_or, ◌+◌, ◌≤◌, ◌<◌, arith}
use Rattle.std.specs.Prelude.{option_and_then}
use Rattle.std.proofs.lemmas.List.{append-nil, take_more, map-append}
use Rattle.std.proofs.lemmas.Option.{none-some}
use Rattle.text_query.specs.declared.token.Placed.{Placed}
use Rattle.text_query.specs.Tokens.{kinds_of}
use Rattle.text_query.specs.declared.syntax.SyntaxState.{SyntaxState}
use Rattle.text_query.specs.declared.token.Token.{Token}
use Rattle.text_query.specs.declared.token.Token.TheVariants.{Word, Phrase, Open, Close, And, Or, Not, Stray}
use Rattle.text_query.specs.Grammar.{QueryReading, ConjReading, UnaryReading, last_conj, conj_or, last_unary, unary_and, not_unary, word, phrase, parenthesised, query_tokens, conj_tokens, unary_tokens}
use Rattle.text_query.specs.Syntax.{IsQuery, BeginsQuery}
use Rattle.text_query.proofs.Suffixes.{query_from_state}
use Rattle.text_query.specs.States.{state, state_behind, state_after}

-- Behind an operand an operator is expected, and as many parentheses are open as before it.
mutual
  pub query_state : (q : QueryReading) (n : ℕ) (rest : List Token) → state_after (state true n) (query_tokens q ++ rest) ≡ state_after (state false n) rest
  query_state (last_conj c) n rest = conj_state c n rest
  query_state (conj_or c q) n rest = rw (append_assoc (conj_tokens c) (Or ∷ query_tokens q) rest) (conj_state c n (Or ∷ query_tokens q ++ rest) ∙ query_state q n rest)

  pub conj_state : (c : ConjReading) (n : ℕ) (rest : List Token) → state_after (state true n) (conj_tokens c ++ rest) ≡ state_after (state false n) rest
  conj_state (last_unary u) n rest = unary_state u n rest
  conj_state (unary_and u c) n rest = rw (append_assoc (unary_tokens u) (And ∷ conj_tokens c) rest) (unary_state u n (And ∷ conj_tokens c ++ rest) ∙ conj_state c n rest)

  pub unary_state : (u : UnaryReading) (n : ℕ) (rest : List Token) → state_after (state true n) (unary_tokens u ++ rest) ≡ state_after (state false n) rest
  unary_state (not_unary u) n rest = unary_state u n rest
  unary_state (word w) n rest = refl
  unary_state (phrase words) n rest = refl
  unary_state (parenthesised q) n rest = rw (append_assoc (query_tokens q) (Close ∷ []) rest) (query_state q (suc n) (Close ∷ rest))

state_after-append : (s : SyntaxState) (tokens more : List Token) → state_after s (tokens ++ more) ≡ option_and_then (λ r. state_after r more) (state_after s tokens)
state_after-append s [] more = refl
state_after-append s (token ∷ tokens) more = append_step (state_behind s token) tokens more (λ r. state_after-append r tokens more)
  where
    append_step : (o : Option SyntaxState) (tokens more : List Token) → ((r : SyntaxState) → state_after r (tokens ++ more) ≡ option_and_then (λ q. state_after q more) (state_after r tokens))
        → option_and_then (λ r. state_after r (tokens ++ more)) o ≡ option_and_then (λ r. state_after r more) (option_and_then (λ r. state_after r tokens) o)
    append_step None tokens more each = refl
    append_step (Some r) tokens more each = each r

-- what closes so many parentheses
closing : ℕ → List Token
closing zero = []
closing (suc n) = Close ∷ closing n

state-closing : (n : ℕ) → state_after (state false n) (closing n) ≡ Some (state false zero)
unfolding closing
state-closing zero = refl
state-closing (suc n) = state-closing n

-- a text that ends a query from a state
ending : Bool → ℕ → List Token
ending true n = Word (97 ∷ []) ∷ closing n
ending false n = closing n

state-ending : (expects : Bool) (n : ℕ) → state_after (state expects n) (ending expects n) ≡ Some (state false zero)
unfolding ending
state-ending true n = state-closing n
state-ending false n = state-closing n

-- where there is a state, a query goes on
pub goes_on_from_state : (tokens : List Token) (s : SyntaxState) → state_after (state true zero) tokens ≡ Some s → BeginsQuery tokens
goes_on_from_state tokens s e =
    let more = ending s.expects_operand s.opened in (
      more,
      query_from_state (tokens ++ more)
          (state_after-append (state true zero) tokens more ∙ (ap (option_and_then (λ r. state_after r more)) e ∙ state-ending s.expects_operand s.opened)),
    )

-- a query is read to its end
pub state_from_query : (tokens : List Token) → IsQuery tokens → state_after (state true zero) tokens ≡ Some (state false zero)
state_from_query tokens (q, e) = ap (state_after (state true zero)) (sym e ∙ sym (append-nil (query_tokens q))) ∙ query_state q zero []

-- where there is no state, no query goes on
pub stops_from_state : (tokens : List Token) → state_after (state true zero) tokens ≡ None → BeginsQuery tokens → ⊥
stops_from_state tokens e (more, q) =
    none-some (state false zero) (ap (option_and_then (λ r. state_after r more)) (sym e) ∙ (sym (state_after-append (state true zero) tokens more) ∙ state_from_query (tokens ++ more) q))

-- one token more
state_after-last : (s : SyntaxState) (tokens : List Token) (token : Token) → state_after s (tokens ++ token ∷ []) ≡ option_and_then (λ r. state_behind r token) (state_after s tokens)
state_after-last s tokens token = state_after-append s tokens (token ∷ []) ∙ last_step (state_after s tokens) token
  where
    one_step : (o : Option SyntaxState) → option_and_then Some o ≡ o
    one_step None = refl
    one_step (Some r) = refl

    last_step : (o : Option SyntaxState) (token : Token) → option_and_then (λ r. option_and_then Some (state_behind r token)) o ≡ option_and_then (λ r. state_behind r token) o
    last_step None token = refl
    last_step (Some r) token = one_step (state_behind r token)

-- the state behind one token more of a text
pub state_after-more : (s : SyntaxState) (tokens : List Placed) (i : ℕ) (placed : Placed) → i < length tokens → placed ≡ get_or tokens i placed
    → state_after s (kinds_of (take (i + 1) tokens)) ≡ option_and_then (λ r. state_behind r placed.token) (state_after s (kinds_of (take i tokens)))
state_after-more s tokens i placed some here =
    ap (λ (ts : List Placed). state_after s (kinds_of ts)) (take_more tokens i placed some ∙ ap (λ (p : Placed). take i tokens ++ p ∷ []) (sym here))
    ∙ (ap (state_after s) (map-append (λ (p : Placed). p.token) (take i tokens) (placed ∷ []))
    ∙ state_after-last s (kinds_of (take i tokens)) placed.token)

-- how many parentheses are open in a state
abbrev opened_in : Option SyntaxState → ℕ
opened_in None = zero
opened_in (Some s) = s.opened

opened_step : (expects : Bool) (n : ℕ) (token : Token) → opened_in (state_behind (state expects n) token) ≤ suc n
opened_step true n (Word w) = omega arith
opened_step false n (Word w) = omega arith
opened_step true n (Phrase words) = omega arith
opened_step false n (Phrase words) = omega arith
opened_step true n Open = omega arith
opened_step false n Open = omega arith
opened_step true n Close = omega arith
opened_step false zero Close = omega arith
opened_step false (suc n) Close = omega arith
opened_step true n And = omega arith
opened_step false n And = omega arith
opened_step true n Or = omega arith
opened_step false n Or = omega arith
opened_step true n Not = omega arith
opened_step false n Not = omega arith
opened_step expects n Stray = omega arith

-- a token opens one parenthesis at most
pub opened_behind : (s r : SyntaxState) (token : Token) → state_behind s token ≡ Some r → r.opened ≤ s.opened + 1
opened_behind s r token e = omega (arith, opened_step s.expects_operand s.opened token, ap opened_in e)
