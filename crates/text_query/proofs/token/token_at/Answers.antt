use Rattle.std.proofs.Common.{◌≡◌, ◌<◌, ◌+◌, ◌-◌, ℕ, List, true, length, take, drop, get_or, IsTrue, ap, sym, ◌∙◌, subst, arith}
use Rattle.std.specs.List.{list_all}
use Rattle.std.proofs.lemmas.Grind.{common_steps}
use Rattle.documents.specs.Words.{is_alphanumeric}
use Rattle.text_query.specs.Tokens.{run_of, token_of_run}
use Rattle.text_query.proofs.TokenLemmas.{run_at_front, run_is_alphanumeric, token_at_run}
use Rattle.text_query.proofs.token.token_at.Goals as goal

-- as many bytes as the run has are the run
front_is_run : (text : List ℕ) (n : ℕ) → 0 < length text → is_alphanumeric (get_or text 0 0) ≡ true
    → n ≡ length (run_of (take (length text - 1) (drop 1 text))) → take (n + 1) text ≡ run_of text
front_is_run text n some first e =
    let behind : take (length text - 1) (drop 1 text) ≡ drop 1 text = grind (arith, common_steps) in
    ap (λ (k : ℕ). take (k + 1) text) (e ∙ ap (λ (xs : List ℕ). length (run_of xs)) behind) ∙ run_at_front text some first

pub run-requires-clause-run : goal.run-requires-clause-run
run-requires-clause-run c =
    let text = c.args.text.now in
    let run = front_is_run text c.run_len-len.result c.requires (sym c.is_alphanumeric.ensures ∙ c.if-is_alphanumeric.true) c.run_len-len.ensures in
    subst (λ (xs : List ℕ). IsTrue (list_all is_alphanumeric xs)) (sym run) (run_is_alphanumeric text)

pub returns-then-is_alphanumeric-clause-token : goal.returns-then-is_alphanumeric-clause-token
returns-then-is_alphanumeric-clause-token c =
    let text = c.args.text.now in
    let first : is_alphanumeric (get_or text 0 0) ≡ true = sym c.is_alphanumeric.ensures ∙ c.if-is_alphanumeric.true in
    c.in_ok-run.ensures ∙ (ap token_of_run (front_is_run text c.run_len-len.result c.requires first c.run_len-len.ensures) ∙ sym (token_at_run text c.requires first))
