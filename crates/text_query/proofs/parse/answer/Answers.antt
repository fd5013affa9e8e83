use Rattle.std.proofs.Common.{◌≡◌, ℕ, ◌<◌, ◌≤◌, List, count_by, ap, ◌∙◌, subst}
use Rattle.text_query.specs.declared.token.Placed.{Placed}
use Rattle.text_query.specs.Tokens.{is_leaf, kinds_of}
use Rattle.text_query.specs.Syntax.{IsQuery}
use Rattle.text_query.specs.Answers.{most_open}
use Rattle.text_query.proofs.FaultLemmas.{too_open, too_many, parsed}
use Rattle.text_query.proofs.parse.answer.Goals as goal

-- what was said of the tokens that were lent
few_open : (lent tokens : List Placed) (n : ℕ) → lent ≡ tokens → n ≡ most_open 0 (kinds_of lent) → n ≤ 32 → most_open 0 (kinds_of tokens) ≤ 32
few_open lent tokens n same e less = subst (λ (k : ℕ). k ≤ 32) (e ∙ ap (λ (ts : List Placed). most_open 0 (kinds_of ts)) same) less

pub returns-then-most_open-gt-MOST_OPEN : goal.returns-then-most_open-gt-MOST_OPEN
returns-then-most_open-gt-MOST_OPEN c =
    let tokens = c.in_ok-tokens.tokens.items in
    let deep = subst (λ (k : ℕ). 32 < k) (c.most_open.ensures ∙ ap (λ (ts : List Placed). most_open 0 (kinds_of ts)) c.deref-2.ensures.value) c.if-most_open-gt-MOST_OPEN.true in
    too_open c.args.text.now tokens c.in_ok-tokens.ensures
    (subst (λ (ts : List Placed). IsQuery (kinds_of ts)) c.deref.ensures.value c.in_default.ensures.query) deep

pub returns-then-leaves-gt-MOST_LEAVES : goal.returns-then-leaves-gt-MOST_LEAVES
returns-then-leaves-gt-MOST_LEAVES c =
    let tokens = c.in_ok-tokens.tokens.items in
    let built = rw c.in-Some.is at c.in_ok-query.ensures in
    let few = few_open c.deref-2.result.now tokens c.most_open.result c.deref-2.ensures.value c.most_open.ensures c.if-most_open-gt-MOST_OPEN.false in
    let many = subst (λ (k : ℕ). 64 < k) (c.leaf_count-leaves.ensures ∙ ap (λ (ts : List Placed). count_by is_leaf (kinds_of ts)) c.deref-3.ensures.value) c.if-leaves-gt-MOST_LEAVES.true in
    too_many c.args.text.now tokens c.in-Some.query c.in_ok-tokens.ensures few built.0 built.1 many

pub returns : goal.returns
returns c =
    let tokens = c.in_ok-tokens.tokens.items in
    let built = rw c.in-Some.is at c.in_ok-query.ensures in
    let few = few_open c.deref-2.result.now tokens c.most_open.result c.deref-2.ensures.value c.most_open.ensures c.if-most_open-gt-MOST_OPEN.false in
    let leaves = subst (λ (k : ℕ). k ≤ 64) (c.leaf_count-leaves.ensures ∙ ap (λ (ts : List Placed). count_by is_leaf (kinds_of ts)) c.deref-3.ensures.value) c.if-leaves-gt-MOST_LEAVES.false in
    parsed c.args.text.now tokens c.in-Some.query c.in_ok-tokens.ensures few built.0 built.1 leaves
