-- A text has one answer, want of memory apart.
use Rattle.std.proofs.Common.{◌≡◌, ℕ, zero, ◌+◌, ◌<◌, ◌≤◌, max, List, [], ◌∷◌, ◌++◌, Bool, true, false, cond, length, IsTrue, IfOk, not, Option, Some, None, Result, Ok, Err, ◌⊎◌, inl, inr, refl, ap, ◌∙◌, sym, subst, append_assoc, arith}
use Rattle.std.specs.Prelude.{◌&&◌}
use Rattle.std.specs.List.{list_all, count_by}
use Rattle.std.proofs.lemmas.Bool.{false≢true}
use Rattle.std.proofs.lemmas.List.{append-nil, map-append}
use Rattle.text_query.specs.declared.syntax.SyntaxState.{SyntaxState}
use Rattle.documents.specs.declared.query.Query.{Query}
use Rattle.documents.specs.Matching.{depth_of, leaves_of, is_well_formed}
use Rattle.text_query.specs.declared.fault.QueryFault.{QueryFault}
use Rattle.text_query.specs.declared.fault.QueryFault.TheVariants.{Memory, Empty, Syntax, TooDeep, TooMany}
use Rattle.text_query.specs.declared.token.Token.{Token}
use Rattle.text_query.specs.declared.token.Placed.{Placed}
use Rattle.text_query.specs.Tokens.{is_leaf, is_space, token_at, bytes_behind, tokens_from, tokens_of, kinds_of}
use Rattle.text_query.specs.Grammar.{ReadsAs, SpellsQuery}
use Rattle.text_query.specs.Syntax.{IsQuery, BeginsQuery, IsBadToken, IsFirstBadPlace, IsFirstBadToken}
use Rattle.text_query.specs.States.{state}
use Rattle.text_query.specs.Answers.{is_blank, most_open, depth_with, Parses, IsFault, IsQueryAnswer}
use Rattle.text_query.proofs.SyntaxLemmas.{state_from_query}
use Rattle.text_query.proofs.ReadingLemmas.{tree_of, reads_as_tree}
use Rattle.text_query.proofs.AnswerLemmas.{reads_only, leaves-tree_of, well_formed}

-- the answers that the tokens of a text give
pub too_open : (text : List ℕ) (tokens : List Placed) → tokens ≡ tokens_of text → IsQuery (kinds_of tokens) → 32 < most_open 0 (kinds_of tokens) → IsFault text TooDeep
too_open text tokens e q deep =
    let is_query : IsQuery (kinds_of (tokens_of text)) = subst (λ (ts : List Placed). IsQuery (kinds_of ts)) e q in
    let more : 32 < most_open 0 (kinds_of (tokens_of text)) = subst (λ (ts : List Placed). 32 < most_open 0 (kinds_of ts)) e deep in
    let tree = tree_of (kinds_of (tokens_of text)) in
    (tree, reads_as_tree (kinds_of (tokens_of text)) is_query, omega arith)

within : (text : List ℕ) (tokens : List Placed) (query : Query) → tokens ≡ tokens_of text → most_open 0 (kinds_of tokens) ≤ 32 → depth_of query ≤ 32 → depth_with text query ≤ 32
within text tokens query e few shallow =
    let less : most_open 0 (kinds_of (tokens_of text)) ≤ 32 = subst (λ (ts : List Placed). most_open 0 (kinds_of ts) ≤ 32) e few in
    omega arith

spelled : (text : List ℕ) (tokens : List Placed) (query : Query) → tokens ≡ tokens_of text → ReadsAs (kinds_of tokens) query → SpellsQuery text query
spelled text tokens query e reads = subst (λ (ts : List Placed). ReadsAs (kinds_of ts) query) e reads

pub too_many : (text : List ℕ) (tokens : List Placed) (query : Query) → tokens ≡ tokens_of text → most_open 0 (kinds_of tokens) ≤ 32
    → ReadsAs (kinds_of tokens) query → depth_of query ≤ 32 → 64 < count_by is_leaf (kinds_of tokens) → IsFault text TooMany
too_many text tokens query e few reads shallow many =
    (query, spelled text tokens query e reads, within text tokens query e few shallow, subst (λ (n : ℕ). 64 < n) (sym (leaves-tree_of (kinds_of tokens) query reads)) many)

pub parsed : (text : List ℕ) (tokens : List Placed) (query : Query) → tokens ≡ tokens_of text → most_open 0 (kinds_of tokens) ≤ 32
    → ReadsAs (kinds_of tokens) query → depth_of query ≤ 32 → count_by is_leaf (kinds_of tokens) ≤ 64 → Parses text query
parsed text tokens query e few reads shallow leaves =
    (spelled text tokens query e reads, within text tokens query e few shallow, subst (λ (n : ℕ). n ≤ 64) (sym (leaves-tree_of (kinds_of tokens) query reads)) leaves)

-- one tree
pub same_tree : (text : List ℕ) (a b : Query) → SpellsQuery text a → SpellsQuery text b → a ≡ b
same_tree text a b p q = reads_only (kinds_of (tokens_of text)) a p ∙ sym (reads_only (kinds_of (tokens_of text)) b q)

-- spaces have no token
blank_tokens : (at : ℕ) (text : List ℕ) → list_all is_space text ≡ true → tokens_from zero at text ≡ []
blank_tokens at [] e = refl
blank_tokens at (b ∷ text) e =
    ap (λ (c : Bool). cond c (tokens_from zero (at + 1) text) (record { at = at; token = token_at (b ∷ text) } ∷ tokens_from (bytes_behind (b ∷ text)) (at + 1) text))
    (first_holds (is_space b) (list_all is_space text) e)
    ∙ blank_tokens (at + 1) text (second_holds (is_space b) (list_all is_space text) e)
  where
    first_holds : (a b : Bool) → (a && b) ≡ true → a ≡ true
    first_holds true b e = refl
    first_holds false b e = e

    second_holds : (a b : Bool) → (a && b) ≡ true → b ≡ true
    second_holds true b e = e
    second_holds false b e = absurd (false≢true e)

not_at_start : Some (state true zero) ≡ Some (state false zero) → ⊥
not_at_start e = false≢true (sym (ap expects_in e))
  where
    expects_in : Option SyntaxState → Bool
    expects_in None = false
    expects_in (Some s) = s.expects_operand

-- no tokens are a query
no_tokens : IsQuery [] → ⊥
no_tokens q = not_at_start (state_from_query [] q)

blank_spells_none : (text : List ℕ) (query : Query) → IsTrue (is_blank text) → SpellsQuery text query → ⊥
blank_spells_none text query blank (q, e, t) = no_tokens (q, e ∙ ap kinds_of (blank_tokens zero text blank))

-- a query goes on from the front of a query's beginning
goes_on_front : (front rest : List Token) → BeginsQuery (front ++ rest) → BeginsQuery front
goes_on_front front rest (more, q) = (rest ++ more, subst IsQuery (append_assoc front rest more) q)

-- no query goes on from tokens that have a bad one
stops_on : (before rest all : List Placed) (bad : Placed) → (BeginsQuery (kinds_of before ++ bad.token ∷ []) → ⊥) → all ≡ before ++ bad ∷ rest → BeginsQuery (kinds_of all) → ⊥
stops_on before rest all bad stops split on =
    stops (goes_on_front (kinds_of before ++ bad.token ∷ []) (kinds_of rest)
    (subst BeginsQuery (ap kinds_of split ∙ (map-append (λ (p : Placed). p.token) before (bad ∷ rest)
    ∙ sym (append_assoc (kinds_of before) (bad.token ∷ []) (kinds_of rest)))) on))

bad_stops : (tokens : List Placed) (at : ℕ) → IsBadToken tokens at → BeginsQuery (kinds_of tokens) → ⊥
bad_stops tokens at b on = stops_on b.before b.behind tokens b.bad b.stops b.split on

query_goes_on : (tokens : List Token) → IsQuery tokens → BeginsQuery tokens
query_goes_on tokens q = ([], subst IsQuery (sym (append-nil tokens)) q)

-- a text that spells a query has no bad place
spells_no_fault : (text : List ℕ) (query : Query) (at : ℕ) → SpellsQuery text query → IsFirstBadToken text at → ⊥
spells_no_fault text query at (q, e, t) (inl bad) = bad_stops (tokens_of text) at bad (query_goes_on (kinds_of (tokens_of text)) (q, e))
spells_no_fault text query at (q, e, t) (inr missing) = missing.stops (q, e)

-- where two places in a list are, one before the other if they are not one
AreApart : List Placed → List Placed → Placed → Type 0
AreApart before after bad = (between : List Placed) × (after ≡ before ++ bad ∷ between)

abbrev Places : List Placed → List Placed → Placed → Placed → Type 0
Places b1 b2 x1 x2 = (x1 ≡ x2) ⊎ (AreApart b1 b2 x1 ⊎ AreApart b2 b1 x2)

apart_more : (y : Placed) (before after : List Placed) (bad : Placed) → AreApart before after bad → AreApart (y ∷ before) (y ∷ after) bad
unfolding AreApart
apart_more y before after bad (between, e) = (between, ap (λ (ps : List Placed). y ∷ ps) e)

places_more : (y z : Placed) (b1 b2 : List Placed) (x1 x2 : Placed) → y ≡ z → Places b1 b2 x1 x2 → Places (y ∷ b1) (z ∷ b2) x1 x2
places_more y z b1 b2 x1 x2 e (inl same) = inl same
places_more y z b1 b2 x1 x2 e (inr (inl apart)) = inr (inl (subst (λ (w : Placed). AreApart (y ∷ b1) (w ∷ b2) x1) e (apart_more y b1 b2 x1 apart)))
places_more y z b1 b2 x1 x2 e (inr (inr apart)) = inr (inr (subst (λ (w : Placed). AreApart (w ∷ b2) (y ∷ b1) x2) e (apart_more y b2 b1 x2 apart)))

places : (b1 b2 : List Placed) (x1 x2 : Placed) (r1 r2 : List Placed) → b1 ++ x1 ∷ r1 ≡ b2 ++ x2 ∷ r2 → Places b1 b2 x1 x2
unfolding AreApart
places [] [] x1 x2 r1 r2 e = inl (cc)
places [] (z ∷ b2) x1 x2 r1 r2 e = let first : z ≡ x1 = cc in inr (inl (b2, ap (λ (w : Placed). w ∷ b2) first))
places (y ∷ b1) [] x1 x2 r1 r2 e = let first : y ≡ x2 = cc in inr (inr (b1, ap (λ (w : Placed). w ∷ b1) first))
places (y ∷ b1) (z ∷ b2) x1 x2 r1 r2 e =
    let first : y ≡ z = cc in
    let rest : b1 ++ x1 ∷ r1 ≡ b2 ++ x2 ∷ r2 = cc in
    places_more y z b1 b2 x1 x2 first (places b1 b2 x1 x2 r1 r2 rest)

same_bad : (tokens : List Placed) (a b : ℕ) (p : IsBadToken tokens a) (q : IsBadToken tokens b) → Places p.before q.before p.bad q.bad → a ≡ b
unfolding AreApart
same_bad tokens a b p q (inl same) = p.place ∙ (ap (λ (w : Placed). w.at) same ∙ sym q.place)
same_bad tokens a b p q (inr (inl (between, e))) = absurd (stops_on p.before between q.before p.bad p.stops e q.goes_on)
same_bad tokens a b p q (inr (inr (between, e))) = absurd (stops_on q.before between p.before q.bad q.stops e p.goes_on)

-- one place
same_place : (tokens : List Placed) (end a b : ℕ) → IsFirstBadPlace tokens end a → IsFirstBadPlace tokens end b → a ≡ b
same_place tokens end a b (inl p) (inl q) = same_bad tokens a b p q (places p.before q.before p.bad q.bad p.behind q.behind (sym p.split ∙ q.split))
same_place tokens end a b (inl p) (inr q) = absurd (bad_stops tokens a p q.goes_on)
same_place tokens end a b (inr p) (inl q) = absurd (bad_stops tokens b q p.goes_on)
same_place tokens end a b (inr p) (inr q) = p.place ∙ sym q.place

blank_not : (b : Bool) → IsTrue b → IsTrue (not b) → ⊥
blank_not true h n = false≢true n
blank_not false h n = false≢true h

-- the depth and the leaves of a text's tree are those of its one tree
deep_not : (text : List ℕ) (a b : Query) → SpellsQuery text a → SpellsQuery text b → depth_with text a ≤ 32 → 32 < depth_with text b → ⊥
deep_not text a b p q less more =
    let other : 32 < depth_with text a = subst (λ (t : Query). 32 < depth_with text t) (same_tree text b a q p) more in
    apart (depth_with text a) less other
  where
    apart : (n : ℕ) → n ≤ 32 → 32 < n → ⊥
    apart n h k = omega arith

many_not : (text : List ℕ) (a b : Query) → SpellsQuery text a → SpellsQuery text b → leaves_of a ≤ 64 → 64 < leaves_of b → ⊥
many_not text a b p q less more =
    let other : 64 < leaves_of a = subst (λ (t : Query). 64 < leaves_of t) (same_tree text b a q p) more in
    apart (leaves_of a) less other
  where
    apart : (n : ℕ) → n ≤ 64 → 64 < n → ⊥
    apart n h k = omega arith

-- one fault
pub same_fault : (text : List ℕ) (a b : QueryFault) → IsFault text a → IsFault text b → a ≡ b
same_fault text Memory b p q = absurd p
same_fault text Empty Memory p q = absurd q
same_fault text Empty Empty p q = refl
same_fault text Empty (Syntax at) p q = absurd (blank_not (is_blank text) p q.0)
same_fault text Empty TooDeep p (query, spells, deep) = absurd (blank_spells_none text query p spells)
same_fault text Empty TooMany p (query, spells, shallow, many) = absurd (blank_spells_none text query p spells)
same_fault text (Syntax at) Memory p q = absurd q
same_fault text (Syntax at) Empty p q = absurd (blank_not (is_blank text) q p.0)
same_fault text (Syntax at) (Syntax other) p q = ap Syntax (same_place (tokens_of text) (length text) at other p.1 q.1)
same_fault text (Syntax at) TooDeep p (query, spells, deep) = absurd (spells_no_fault text query at spells p.1)
same_fault text (Syntax at) TooMany p (query, spells, shallow, many) = absurd (spells_no_fault text query at spells p.1)
same_fault text TooDeep Memory p q = absurd q
same_fault text TooDeep Empty (query, spells, deep) q = absurd (blank_spells_none text query q spells)
same_fault text TooDeep (Syntax at) (query, spells, deep) q = absurd (spells_no_fault text query at spells q.1)
same_fault text TooDeep TooDeep p q = refl
same_fault text TooDeep TooMany (a, p, deep) (b, q, shallow, many) = absurd (deep_not text b a q p shallow deep)
same_fault text TooMany Memory p q = absurd q
same_fault text TooMany Empty (query, spells, shallow, many) q = absurd (blank_spells_none text query q spells)
same_fault text TooMany (Syntax at) (query, spells, shallow, many) q = absurd (spells_no_fault text query at spells q.1)
same_fault text TooMany TooDeep (a, p, shallow, many) (b, q, deep) = absurd (deep_not text a b p q shallow deep)
same_fault text TooMany TooMany p q = refl

-- a text that is parsed has no fault
pub parses_no_fault : (text : List ℕ) (query : Query) (fault : QueryFault) → Parses text query → IsFault text fault → ⊥
parses_no_fault text query Memory p q = q
parses_no_fault text query Empty p q = blank_spells_none text query q p.0
parses_no_fault text query (Syntax at) p q = spells_no_fault text query at p.0 q.1
parses_no_fault text query TooDeep p (b, q, deep) = deep_not text query b p.0 q p.1 deep
parses_no_fault text query TooMany p (b, q, shallow, many) = many_not text query b p.0 q p.2 many

fault_of : (text : List ℕ) (fault : QueryFault) → IsQueryAnswer text (Err fault) → (fault ≡ Memory) ⊎ IsFault text fault
fault_of text Memory a = inl refl
fault_of text Empty a = inr a
fault_of text (Syntax at) a = inr a
fault_of text TooDeep a = inr a
fault_of text TooMany a = inr a

-- the query that a text parses as is answered, unless memory runs out
query_case : (text : List ℕ) (query : Query) (fault : QueryFault) → Parses text query → (fault ≡ Memory) ⊎ IsFault text fault
    → let none : Result Query QueryFault = Err fault in (none ≡ Err Memory) ⊎ (none ≡ Ok query)
query_case text query fault p (inl e) = inl (ap Err e)
query_case text query fault p (inr q) = absurd (parses_no_fault text query fault p q)

pub query_answered : (text : List ℕ) (answer : Result Query QueryFault) (query : Query) → IsQueryAnswer text answer → Parses text query
    → (answer ≡ Err Memory) ⊎ (answer ≡ Ok query)
query_answered text (Ok other) query a p = inr (ap Ok (same_tree text other query a.0 p.0))
query_answered text (Err fault) query a p = query_case text query fault p (fault_of text fault a)

fault_case : (text : List ℕ) (fault other : QueryFault) → IsFault text fault → (other ≡ Memory) ⊎ IsFault text other
    → let none : Result Query QueryFault = Err other in (none ≡ Err Memory) ⊎ (none ≡ Err fault)
fault_case text fault other p (inl e) = inl (ap Err e)
fault_case text fault other p (inr q) = inr (ap Err (same_fault text other fault q p))

-- the fault of a text is answered, unless memory runs out
pub fault_answered : (text : List ℕ) (answer : Result Query QueryFault) (fault : QueryFault) → IsQueryAnswer text answer → IsFault text fault
    → (answer ≡ Err Memory) ⊎ (answer ≡ Err fault)
fault_answered text (Ok query) fault a p = absurd (parses_no_fault text query fault a p)
fault_answered text (Err other) fault a p = fault_case text fault other p (fault_of text other a)

pub well_formed_answer : (text : List ℕ) (answer : Result Query QueryFault) → IsQueryAnswer text answer → IfOk answer (λ query. IsTrue (is_well_formed query))
well_formed_answer text (Ok query) (spells, depth, leaves) = well_formed text query spells (tree_depth _ _ depth) leaves
  where
    tree_depth : (n m : ℕ) → max n m ≤ 32 → m ≤ 32
    tree_depth n m h = omega arith
well_formed_answer text (Err fault) a = tt
