-- From which tokens a query goes on, told by what is expected next and how many parentheses are open.
use Rattle.std.specs.Prelude.{ℕ, zero, suc, List, [], ◌∷◌, Bool, true, false, Option, Some, None, option_and_then, if◌then◌else◌}
use Rattle.text_query.specs.declared.syntax.SyntaxState.{SyntaxState}
use Rattle.text_query.specs.declared.token.Token.{Token}
use Rattle.text_query.specs.declared.token.Token.TheVariants.{Word, Phrase, Open, Close, And, Or, Not, Stray}

abbrev pub state : Bool → ℕ → SyntaxState
state expects_operand n = record { expects_operand = expects_operand; opened = n }

-- one parenthesis fewer, where one is open
abbrev pub closed : ℕ → Option SyntaxState
closed zero = None
closed (suc n) = Some (state false n)

-- the state behind a token, or none where no query goes on with it
abbrev pub state_behind : SyntaxState → Token → Option SyntaxState
state_behind s (Word w) = if s.expects_operand then Some (state false s.opened) else None
state_behind s (Phrase words) = if s.expects_operand then Some (state false s.opened) else None
state_behind s Not = if s.expects_operand then Some s else None
state_behind s Open = if s.expects_operand then Some (state true (suc s.opened)) else None
state_behind s And = if s.expects_operand then None else Some (state true s.opened)
state_behind s Or = if s.expects_operand then None else Some (state true s.opened)
state_behind s Close = if s.expects_operand then None else closed s.opened
state_behind s Stray = None

-- the state behind some tokens
abbrev pub state_after : SyntaxState → List Token → Option SyntaxState
state_after s [] = Some s
state_after s (token ∷ tokens) = option_and_then (λ r. state_after r tokens) (state_behind s token)
