-- What a text that is read to its end from some state consists of.
use Rattle.std.proofs.Common.{◌≡◌, ℕ, zero, suc, List, [], ◌∷◌, ◌++◌, Bool, true, false, Option, Some, None, refl, ap, sym, ◌∙◌, subst, append_assoc}
use Rattle.std.proofs.lemmas.List.{append-nil}
use Rattle.std.proofs.lemmas.Bool.{false≢true}
use Rattle.text_query.specs.declared.syntax.SyntaxState.{SyntaxState}
use Rattle.text_query.specs.declared.token.Token.{Token}
use Rattle.text_query.specs.declared.token.Token.TheVariants.{Word, Phrase, Open, Close, And, Or, Not, Stray}
use Rattle.text_query.specs.Grammar.{QueryReading, ConjReading, UnaryReading, last_conj, conj_or, last_unary, unary_and, not_unary, word, phrase, parenthesised, query_tokens, conj_tokens, unary_tokens}
use Rattle.text_query.specs.Syntax.{IsQuery}
use Rattle.text_query.specs.States.{state, state_after}

mutual
  -- where an operand is expected and n parentheses are open: a query, and behind it what closes them
  pub data FromOperand : ℕ → List Token → Type 0 where
    whole : {tokens : List Token} (q : QueryReading) → query_tokens q ≡ tokens → FromOperand zero tokens
    within : {n : ℕ} {tokens : List Token} (q : QueryReading) (rest : List Token) → query_tokens q ++ Close ∷ rest ≡ tokens → FromOperator n rest → FromOperand (suc n) tokens

  -- the same behind an operand
  pub data FromOperator : ℕ → List Token → Type 0 where
    ends : FromOperator zero []
    closes : {n : ℕ} {tokens : List Token} → FromOperator n tokens → FromOperator (suc n) (Close ∷ tokens)
    and_more : {n : ℕ} {tokens : List Token} → FromOperand n tokens → FromOperator n (And ∷ tokens)
    or_more : {n : ℕ} {tokens : List Token} → FromOperand n tokens → FromOperator n (Or ∷ tokens)

-- the query with an operand and AND in front
and_first : UnaryReading → QueryReading → QueryReading
and_first u (last_conj c) = last_conj (unary_and u c)
and_first u (conj_or c q) = conj_or (unary_and u c) q

tokens-and_first : (u : UnaryReading) (q : QueryReading) → query_tokens (and_first u q) ≡ unary_tokens u ++ And ∷ query_tokens q
unfolding and_first
tokens-and_first u (last_conj c) = refl
tokens-and_first u (conj_or c q) = append_assoc (unary_tokens u) (And ∷ conj_tokens c) (Or ∷ query_tokens q)

-- the query with NOT in front
not_first_conj : ConjReading → ConjReading
not_first_conj (last_unary u) = last_unary (not_unary u)
not_first_conj (unary_and u c) = unary_and (not_unary u) c

not_first : QueryReading → QueryReading
not_first (last_conj c) = last_conj (not_first_conj c)
not_first (conj_or c q) = conj_or (not_first_conj c) q

tokens-not_first_conj : (c : ConjReading) → conj_tokens (not_first_conj c) ≡ Not ∷ conj_tokens c
unfolding not_first_conj
tokens-not_first_conj (last_unary u) = refl
tokens-not_first_conj (unary_and u c) = refl

tokens-not_first : (q : QueryReading) → query_tokens (not_first q) ≡ Not ∷ query_tokens q
unfolding not_first
tokens-not_first (last_conj c) = tokens-not_first_conj c
tokens-not_first (conj_or c q) = ap (λ (ts : List Token). ts ++ Or ∷ query_tokens q) (tokens-not_first_conj c)

-- an operand in front of what may follow one
after_operand : (u : UnaryReading) {n : ℕ} {tokens : List Token} → FromOperator n tokens → FromOperand n (unary_tokens u ++ tokens)
after_operand u ends = whole (last_conj (last_unary u)) (sym (append-nil (unary_tokens u)))
after_operand u (closes {tokens = tokens} h) = within (last_conj (last_unary u)) tokens refl h
after_operand u (and_more (whole q e)) = whole (and_first u q) (tokens-and_first u q ∙ ap (λ (ts : List Token). unary_tokens u ++ And ∷ ts) e)
after_operand u (and_more (within q rest e h)) =
    within (and_first u q) rest (ap (λ (ts : List Token). ts ++ Close ∷ rest) (tokens-and_first u q) ∙ (append_assoc (unary_tokens u) (And ∷ query_tokens q) (Close ∷ rest) ∙ ap (λ (ts : List Token). unary_tokens u ++ And ∷ ts) e)) h
after_operand u (or_more (whole q e)) = whole (conj_or (last_unary u) q) (ap (λ (ts : List Token). unary_tokens u ++ Or ∷ ts) e)
after_operand u (or_more (within q rest e h)) =
    within (conj_or (last_unary u) q) rest (append_assoc (unary_tokens u) (Or ∷ query_tokens q) (Close ∷ rest) ∙ ap (λ (ts : List Token). unary_tokens u ++ Or ∷ ts) e) h

-- NOT in front of an operand
not_operand : {n : ℕ} {tokens : List Token} → FromOperand n tokens → FromOperand n (Not ∷ tokens)
not_operand (whole q e) = whole (not_first q) (tokens-not_first q ∙ ap (λ (ts : List Token). Not ∷ ts) e)
not_operand (within q rest e h) = within (not_first q) rest (ap (λ (ts : List Token). ts ++ Close ∷ rest) (tokens-not_first q) ∙ ap (λ (ts : List Token). Not ∷ ts) e) h

-- a parenthesis in front of a query and what closes it
open_operand : {n : ℕ} {tokens : List Token} → FromOperand (suc n) tokens → FromOperand n (Open ∷ tokens)
open_operand {n} (within q rest e h) =
    subst (λ (ts : List Token). FromOperand n (Open ∷ ts)) (append_assoc (query_tokens q) (Close ∷ []) rest ∙ e) (after_operand (parenthesised q) h)

-- what is read to the end from a state
abbrev From : Bool → ℕ → List Token → Type 0
From true n tokens = FromOperand n tokens
From false n tokens = FromOperator n tokens

abbrev expects_in : Option SyntaxState → Bool
expects_in None = false
expects_in (Some s) = s.expects_operand

-- how many parentheses are open in a state
abbrev opened_in : Option SyntaxState → ℕ
opened_in None = zero
opened_in (Some s) = s.opened

no_state : {P : Type 0} → None ≡ Some (state false zero) → P
no_state e = cc

at_end : (expects : Bool) (n : ℕ) → Some (state expects n) ≡ Some (state false zero) → From expects n []
at_end true n e = absurd (false≢true (sym (ap expects_in e)))
at_end false n e = subst (λ (k : ℕ). FromOperator k []) (sym (ap opened_in e)) ends

pub from_state : (tokens : List Token) (expects : Bool) (n : ℕ) → state_after (state expects n) tokens ≡ Some (state false zero) → From expects n tokens
from_state [] expects n e = at_end expects n e
from_state (Word w ∷ ts) true n e = after_operand (word w) (from_state ts false n e)
from_state (Word w ∷ ts) false n e = no_state e
from_state (Phrase words ∷ ts) true n e = after_operand (phrase words) (from_state ts false n e)
from_state (Phrase words ∷ ts) false n e = no_state e
from_state (Open ∷ ts) true n e = open_operand (from_state ts true (suc n) e)
from_state (Open ∷ ts) false n e = no_state e
from_state (Close ∷ ts) true n e = no_state e
from_state (Close ∷ ts) false zero e = no_state e
from_state (Close ∷ ts) false (suc n) e = closes (from_state ts false n e)
from_state (And ∷ ts) true n e = no_state e
from_state (And ∷ ts) false n e = and_more (from_state ts true n e)
from_state (Or ∷ ts) true n e = no_state e
from_state (Or ∷ ts) false n e = or_more (from_state ts true n e)
from_state (Not ∷ ts) true n e = not_operand (from_state ts true n e)
from_state (Not ∷ ts) false n e = no_state e
from_state (Stray ∷ ts) expects n e = no_state e

-- what is read to the end from the beginning is a query
whole_query : {tokens : List Token} → FromOperand zero tokens → IsQuery tokens
whole_query (whole q e) = (q, e)

pub query_from_state : (tokens : List Token) → state_after (state true zero) tokens ≡ Some (state false zero) → IsQuery tokens
query_from_state tokens e = whole_query (from_state tokens true zero e)
