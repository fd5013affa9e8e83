use Rattle.std.proofs.Common.{◌≡◌, ◌≢◌, ◌<◌, ◌≤◌, ◌+◌, ◌-◌, ℕ, List, [], ◌∷◌, ◌++◌, false, length, take, drop, get_or, length-drop, append_assoc, ap, sym, ◌∙◌, arith}
use Rattle.std.proofs.lemmas.List.{drop-drop}
use Rattle.std.proofs.lemmas.Bool.Decides.{nat_tests}
use Rattle.std.proofs.lemmas.Grind.{common_steps}
use Rattle.text_query.specs.declared.token.Token.{Token}
use Rattle.text_query.specs.declared.token.Placed.{Placed}
use Rattle.text_query.specs.Tokens.{tokens_from, token_at, bytes_behind, is_space}
use Rattle.text_query.proofs.TokenLemmas.{tokens_at_token, bytes-length}
use Rattle.text_query.proofs.token.tokens.Goals as goal

joined : (at behind : ℕ) (token : Token) (rest text : List ℕ) → 0 < length rest → is_space (get_or rest 0 0) ≡ false
    → token ≡ token_at rest → behind ≡ bytes_behind rest → drop (1 + behind) rest ≡ drop (at + (1 + behind)) text
    → record { at = at; token = token } ∷ tokens_from 0 (at + (1 + behind)) (drop (at + (1 + behind)) text) ≡ tokens_from 0 at rest
joined at behind token rest text some space t b over =
    let step = tokens_at_token at rest some space in
    let first : Placed = record { at = at; token = token_at rest } in
    ap (λ (k : Token). record { at = at; token = k } ∷ tokens_from 0 (at + (1 + behind)) (drop (at + (1 + behind)) text)) t
    ∙ (ap (λ (xs : List ℕ). first ∷ tokens_from 0 (at + (1 + behind)) xs) (sym over)
    ∙ (ap (λ (n : ℕ). first ∷ tokens_from 0 (at + (1 + n)) (drop (1 + n) rest)) b ∙ sym step))

-- a token is taken from the text
next_token : (before after all : List Placed) (text : List ℕ) (at behind : ℕ) (token : Token) → at < length text
    → get_or text at 0 ≢ 32 → after ≡ before ++ record { at = at; token = token } ∷ []
    → token ≡ token_at (take (length text - at) (drop at text)) → behind ≡ bytes_behind (take (length text - at) (drop at text))
    → before ++ tokens_from 0 at (drop at text) ≡ all
    → (after ++ tokens_from 0 (at + (1 + behind)) (drop (at + (1 + behind)) text) ≡ all) × (at + (1 + behind) ≤ length text + 1)
next_token before after all text at behind token some other pushed t b e =
    let rest : take (length text - at) (drop at text) ≡ drop at text = grind (arith, common_steps) in
    let first : get_or (drop at text) 0 0 ≡ get_or text at 0 = grind (arith, common_steps) in
    let there : 0 < length (drop at text) = omega (arith, length-drop at text) in
    let space : is_space (get_or text at 0) ≡ false = grind (arith, nat_tests) in
    let over : drop (1 + behind) (drop at text) ≡ drop (at + (1 + behind)) text = drop-drop (1 + behind) at text in
    let same : behind ≡ bytes_behind (drop at text) = b ∙ ap bytes_behind rest in
    let end : at + (1 + behind) ≤ length text + 1 = omega (arith, bytes-length (drop at text), length-drop at text) in (
      ap (λ (ts : List Placed). ts ++ tokens_from 0 (at + (1 + behind)) (drop (at + (1 + behind)) text)) pushed
          ∙ (append_assoc before (record { at = at; token = token } ∷ []) (tokens_from 0 (at + (1 + behind)) (drop (at + (1 + behind)) text))
          ∙ (ap (λ (ts : List Placed). before ++ ts) (joined at behind token (drop at text) text there (ap is_space first ∙ space) (t ∙ ap token_at rest) same over) ∙ e)),
      end,
    )

pub loop-at-preserved : goal.loop-at-preserved
loop-at-preserved c =
    next_token c.loop-at.tokens.items c.push.new.self.items _ c.args.text.now c.loop-at.at c.in_ok-token.behind c.in_ok-token.token
    c.loop-at-test.true c.if-text-at-eq32.false c.in_ok-push.ensures.items c.in_ok-token.ensures.token c.in_ok-token.ensures.bytes c.loop-at.invariant.0
