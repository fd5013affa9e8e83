use Rattle.std.proofs.Common.{◌≡◌, ◌+◌, ◌<◌, ◌≤◌, ◌⊎◌, ℕ, zero, suc, List, [], ◌∷◌, ◌++◌, Bool, true, false, Option, Some, None, length, take, drop, get_or, drop-cons, inl, inr, refl, ap, sym, ◌∙◌, subst, arith}
use Rattle.std.specs.Prelude.{option_and_then}
use Rattle.std.proofs.lemmas.Bool.{false≢true}
use Rattle.std.proofs.lemmas.List.{take_more, take_all, take-append-drop, map-append}
use Rattle.text_query.specs.declared.syntax.SyntaxState.{SyntaxState}
use Rattle.text_query.specs.declared.token.Placed.{Placed}
use Rattle.text_query.specs.Tokens.{kinds_of}
use Rattle.text_query.specs.Syntax.{IsBadToken}
use Rattle.text_query.specs.States.{state, state_behind, state_after}
use Rattle.text_query.proofs.SyntaxLemmas.{state_after-more, opened_behind, goes_on_from_state, stops_from_state, state_from_query}
use Rattle.text_query.proofs.Suffixes.{query_from_state}
use Rattle.text_query.proofs.syntax.check_syntax.Goals as goal

-- no query goes on with the token at i
bad_token : (tokens : List Placed) (i : ℕ) (placed : Placed) (s : SyntaxState) → i < length tokens → placed ≡ get_or tokens i placed
    → state_after (state true zero) (kinds_of (take i tokens)) ≡ Some s → state_behind s placed.token ≡ None → IsBadToken tokens placed.at
bad_token tokens i placed s some here before stops =
    let more = state_after-more (state true zero) tokens i placed some here in
    let last : kinds_of (take (i + 1) tokens) ≡ kinds_of (take i tokens) ++ placed.token ∷ [] =
    ap kinds_of (take_more tokens i placed some ∙ ap (λ (p : Placed). take i tokens ++ p ∷ []) (sym here))
    ∙ map-append (λ (p : Placed). p.token) (take i tokens) (placed ∷ []) in
    record {
      before = take i tokens;
      bad = placed;
      behind = drop (suc i) tokens;
      split = sym (take-append-drop i tokens) ∙ ap (λ (ts : List Placed). take i tokens ++ ts)
          (drop-cons tokens i placed some ∙ ap (λ (p : Placed). p ∷ drop (suc i) tokens) (sym here));
      goes_on = goes_on_from_state (kinds_of (take i tokens)) s before;
      stops = stops_from_state (kinds_of (take i tokens) ++ placed.token ∷ [])
          (ap (state_after (state true zero)) (sym last) ∙ (more ∙ (ap (option_and_then (λ (r : SyntaxState). state_behind r placed.token)) before ∙ stops)));
      place = refl;
    }

pub returns-in_default-clause-fault : goal.returns-in_default-clause-fault
returns-in_default-clause-fault c =
    inl (bad_token c.args.tokens.now c.loop-placed.placed-index c.placed-item.result c.loop-placed.state c.loop-placed-test.true c.placed-item.is
    c.loop-placed.invariant.0 (sym c.in_default.ensures))

pub loop-placed-preserved : goal.loop-placed-preserved
loop-placed-preserved c =
    let token = c.placed-item.result.token in
    let more = state_after-more (state true zero) c.args.tokens.now c.loop-placed.placed-index c.placed-item.result c.loop-placed-test.true c.placed-item.is in (
      more ∙ (ap (option_and_then (λ (r : SyntaxState). state_behind r token)) c.loop-placed.invariant.0 ∙ sym c.in-Some.ensures),
      omega (arith, opened_behind c.loop-placed.state c.in-Some.behind token (sym c.in-Some.ensures), c.loop-placed.invariant.1),
    )

abbrev expects_in : Option SyntaxState → Bool
expects_in None = false
expects_in (Some s) = s.expects_operand

abbrev opened_in : Option SyntaxState → ℕ
opened_in None = zero
opened_in (Some s) = s.opened

-- where the tokens end in a state in which a query does not end
not_ended : (s : SyntaxState) → (s.expects_operand ≡ true) ⊎ ((s.expects_operand ≡ false) × (0 < s.opened)) → Some s ≡ Some (state false zero) → ⊥
not_ended s (inl e) h = false≢true (sym (ap expects_in h) ∙ e)
not_ended s (inr o) h = let none = ap opened_in h in omega (arith, o.1)

pub returns-then-state-clause-fault : goal.returns-then-state-clause-fault
returns-then-state-clause-fault c =
    let tokens = c.args.tokens.now in
    let s = c.loop-placed.state in
    let ended = subst (λ (ts : List Placed). state_after (state true zero) (kinds_of ts) ≡ Some s)
    (take_all c.loop-placed.placed-index tokens c.loop-placed-test.false) c.loop-placed.invariant.0 in
    inr (record {
      goes_on = goes_on_from_state (kinds_of tokens) s ended;
      stops = λ q. not_ended s c.then-state.either (sym ended ∙ state_from_query (kinds_of tokens) q);
      place = refl;
    })

at_end : (s : SyntaxState) → s.expects_operand ≡ false → s.opened ≤ 0 → s ≡ state false zero
at_end s e o = let z : s.opened ≡ 0 = omega arith in ap (λ (b : Bool). state b s.opened) e ∙ ap (state false) z

pub returns-clause-query : goal.returns-clause-query
returns-clause-query c =
    let tokens = c.args.tokens.now in
    let s = c.loop-placed.state in
    let ended = subst (λ (ts : List Placed). state_after (state true zero) (kinds_of ts) ≡ Some s)
    (take_all c.loop-placed.placed-index tokens c.loop-placed-test.false) c.loop-placed.invariant.0 in
    query_from_state (kinds_of tokens) (ended ∙ ap Some (at_end s c.if-state.false c.if-state-gt0.false))
