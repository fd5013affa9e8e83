use Rattle.std.proofs.Common.{◌≡◌, ◌<◌, List, [], ◌∷◌, ◌++◌, refl, ap, sym, ◌∙◌, subst, append_assoc, arith}
use Rattle.std.proofs.IntoIterSteps.{All-taken}
use Rattle.std.proofs.lemmas.List.{map-append}
use Rattle.std.specs.Iterator.{Yields}
use Rattle.std.specs.Vec.Iter.{into_iter_items, into_iter_steps}
use Rattle.std.specs.declared.vec.IntoIter.{IntoIter}
use Rattle.documents.specs.declared.query.Query.{Query}
use Rattle.documents.specs.Matching.{depth_of}
use Rattle.text_query.specs.declared.token.Token.{Token}
use Rattle.text_query.specs.declared.token.Placed.{Placed}
use Rattle.text_query.specs.Tokens.{kinds_of}
use Rattle.text_query.specs.Levels.{Levels, empty_level, level_tree, levels_of, levels_behind, levels_after, levels_depth}
use Rattle.text_query.proofs.ReadingLemmas.{tree_of, reads_as_tree, deep_tree}
use Rattle.text_query.proofs.build.build.Goals as goal

-- what the iterator of a vector has given is a front of its items
taken_front : {X A : Type 0} (s : IntoIter X A) (xs : List X) (t : IntoIter X A) → Yields into_iter_steps s xs t → into_iter_items s ≡ xs ++ into_iter_items t
taken_front s [] t y = ap into_iter_items y
taken_front s (x ∷ xs) t y = y.1.0 ∙ ap (λ ys. x ∷ ys) (taken_front y.0 xs t y.2)

levels_after-last : (levels : Levels) (tokens : List Token) (token : Token) → levels_after levels (tokens ++ token ∷ []) ≡ levels_behind (levels_after levels tokens) token
levels_after-last levels [] token = refl
levels_after-last levels (first ∷ tokens) token = levels_after-last (levels_behind levels first) tokens token

-- the levels behind one item more
levels_more : (items : List Placed) (placed : Placed)
    → levels_behind (levels_after (empty_level, []) (kinds_of items)) placed.token ≡ levels_after (empty_level, []) (kinds_of (items ++ placed ∷ []))
levels_more items placed =
    sym (ap (levels_after (empty_level, [])) (map-append (λ (p : Placed). p.token) items (placed ∷ [])) ∙ levels_after-last (empty_level, []) (kinds_of items) placed.token)

pub returns-in_default : goal.returns-in_default
returns-in_default c =
    let tokens = c.args.tokens.items in
    let it = c.into_iter-placed-iterator in
    let done = c.loop-placed.yielded in
    let placed = c.in-Some.placed in
    let rest = into_iter_items c.next.new.self in
    let front : tokens ≡ (done ++ placed ∷ []) ++ rest =
    sym it.ensures.into_iter_gives.0 ∙ (taken_front it.result done c.loop-placed.placed-iterator c.loop-placed.yielded_by
    ∙ (ap (λ (xs : List Placed). done ++ xs) c.in-Some.ensures.steps.0 ∙ sym (append_assoc done (placed ∷ []) rest))) in
    let split : kinds_of tokens ≡ kinds_of (done ++ placed ∷ []) ++ kinds_of rest = ap kinds_of front ∙ map-append (λ (p : Placed). p.token) (done ++ placed ∷ []) rest in
    let deep = rw c.in_default.is at c.in_ok-behind.ensures in
    let here : 32 < levels_depth (levels_after (empty_level, []) (kinds_of (done ++ placed ∷ []))) =
    subst (λ (l : Levels). 32 < levels_depth l) (ap (λ (l : Levels). levels_behind l placed.token) c.loop-placed.invariant ∙ levels_more done placed) deep in
    (tree_of (kinds_of tokens), reads_as_tree (kinds_of tokens) c.requires, deep_tree (kinds_of tokens) (kinds_of (done ++ placed ∷ [])) (kinds_of rest) c.requires split here)

pub loop-placed-preserved : goal.loop-placed-preserved
loop-placed-preserved c =
    (rw c.in-Some-2.is at c.in_ok-behind.ensures)
    ∙ (ap (λ (l : Levels). levels_behind l c.in-Some.placed.token) c.loop-placed.invariant ∙ levels_more c.loop-placed.yielded c.in-Some.placed)

-- the tree of the level that is left is that of all the tokens
last_tree : (done tokens : List Placed) (levels : Levels) → levels ≡ levels_after (empty_level, []) (kinds_of done) → done ≡ tokens
    → level_tree levels.0 ≡ tree_of (kinds_of tokens)
last_tree done tokens levels e all = ap (λ (l : Levels). level_tree l.0) e ∙ ap (λ (ts : List Placed). tree_of (kinds_of ts)) all

pub returns-in_default-2 : goal.returns-in_default-2
returns-in_default-2 c =
    let tokens = c.args.tokens.items in
    let it = c.into_iter-placed-iterator in
    let all : c.loop-placed.yielded ≡ tokens =
    All-taken it.result c.loop-placed.yielded (c.next.new.self, (c.loop-placed.placed-iterator, c.loop-placed.yielded_by, c.in-None.ensures.steps))
    ∙ it.ensures.into_iter_gives.0 in
    let same = last_tree c.loop-placed.yielded tokens (levels_of c.loop-placed.builder) c.loop-placed.invariant all in
    let deep = rw c.in_default-2.is at c.in_ok-part.ensures in
    (tree_of (kinds_of tokens), reads_as_tree (kinds_of tokens) c.requires, subst (λ (q : Query). 32 < depth_of q) same deep)

pub returns : goal.returns
returns c =
    let tokens = c.args.tokens.items in
    let it = c.into_iter-placed-iterator in
    let all : c.loop-placed.yielded ≡ tokens =
    All-taken it.result c.loop-placed.yielded (c.next.new.self, (c.loop-placed.placed-iterator, c.loop-placed.yielded_by, c.in-None.ensures.steps))
    ∙ it.ensures.into_iter_gives.0 in
    let same = last_tree c.loop-placed.yielded tokens (levels_of c.loop-placed.builder) c.loop-placed.invariant all in
    let part = rw c.in-Some-3.is at c.in_ok-part.ensures in
    let query : c.part.inside.query ≡ tree_of (kinds_of tokens) = c.part.view_is ∙ (part ∙ same) in
    let reads = reads_as_tree (kinds_of tokens) c.requires in
    ((reads.0, reads.1, reads.2 ∙ sym query), omega (arith, c.part.invariant.0, c.part.invariant.1))
