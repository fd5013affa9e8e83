-- What a query matches, from what its parts match, and where a phrase stands.
use Rattle.std.proofs.Common.{◌≡◌, ℕ, suc, ◌+◌, ◌-◌, ◌<◌, List, [], ◌∷◌, length, take, drop, Bool, true, false, refl, ap, ◌∙◌, sym, drop-cons, length-drop, get_or, add-one}
use Rattle.std.proofs.Math.Bool.{and-true}
use Rattle.std.proofs.Math.Seq.{take-length}
use denote.Hole.Carrier.{hidden}
use Rattle.std.specs.Prelude.{not, ◌&&◌, ◌||◌}
use Rattle.std.specs.List.{list_any, list_all}
use mathlib.Core.Former.{Count}
use Rattle.documents.specs.declared.query.Query.{Query, All, Any, Not, All', Any', Not', Row_of-Query, end_of-Query, more_of-Query, items-the_row-Query, items_hidden-the_row-Query-0}
use Rattle.documents.specs.declared.query.Query.TheBlock.{hidden-the_row-Query-1}
use Rattle.documents.specs.Matching.{tails, stands_at_front, stands_in, matches, all_match, any_matches}

all_match-row : (words : List (List ℕ)) (n : _) (row : Row_of-Query n) → all_match row words ≡ list_all (λ part. matches part words) (items-the_row-Query n row)
all_match-row words n end_of-Query = refl
all_match-row words n (more_of-Query part parts) = ap (λ b. matches part words && b) (all_match-row words _ parts)

any_matches-row : (words : List (List ℕ)) (n : _) (row : Row_of-Query n) → any_matches row words ≡ list_any (λ part. matches part words) (items-the_row-Query n row)
any_matches-row words n end_of-Query = refl
any_matches-row words n (more_of-Query part parts) = ap (λ b. matches part words || b) (any_matches-row words _ parts)

-- the parts of a query
abbrev pub row_of : Query → (n : Count) × Row_of-Query n
row_of (All' shape row) = (_, row)
row_of (Any' shape row) = (_, row)
row_of (Not' shape row) = (_, row)
row_of query = (_, end_of-Query)

pub matches_all : (parts : List Query) (words : List (List ℕ)) → matches (All parts) words ≡ list_all (λ part. matches part words) parts
matches_all parts words =
    let row = row_of (All parts) in
    let same = items_hidden-the_row-Query-0 parts in
    all_match-row words row.0 row.1 ∙ ap (list_all (λ part. matches part words)) same

pub matches_any : (parts : List Query) (words : List (List ℕ)) → matches (Any parts) words ≡ list_any (λ part. matches part words) parts
matches_any parts words =
    let row = row_of (Any parts) in
    let same = items_hidden-the_row-Query-0 parts in
    any_matches-row words row.0 row.1 ∙ ap (list_any (λ part. matches part words)) same

pub matches_not : (part : Query) (words : List (List ℕ)) → matches (Not part) words ≡ not (matches part words)
unfolding hidden-the_row-Query-1 hidden
matches_not part words = and-true (not (matches part words))

pub all_from : (words : List (List ℕ)) (i : ℕ) → take (length words - i) (drop i words) ≡ drop i words
all_from words i = ap (λ n. take n (drop i words)) (sym (length-drop i words)) ∙ take-length (drop i words)

-- the words from a place on, and those from the next
pub tails_from : (words : List (List ℕ)) (i : ℕ) → i < length words → tails (drop i words) ≡ drop i words ∷ tails (drop (i + 1) words)
tails_from words i less = rw add-one (ap tails here ∙ ap (λ ws. ws ∷ tails (drop (suc i) words)) (sym here))
  where
    here : drop i words ≡ get_or words i [] ∷ drop (suc i) words
    here = drop-cons words i [] less

-- where the words from a place on do not begin with a phrase, it stands in them just where it stands in those behind
pub stands_behind : (phrase words : List (List ℕ)) (i : ℕ) → i < length words
    → stands_at_front phrase (take (length words - i) (drop i words)) ≡ false
    → stands_in phrase (drop (i + 1) words) ≡ stands_in phrase (drop i words)
stands_behind phrase words i less fails =
    let fails_here = sym (ap (stands_at_front phrase) (all_from words i)) ∙ fails in
    sym (ap (list_any (stands_at_front phrase)) (tails_from words i less) ∙ or_here (stands_at_front phrase (drop i words)) _ fails_here)
  where
    or_here : (a b : Bool) → a ≡ false → (a || b) ≡ b
    or_here true b e = absurd cc
    or_here false b e = refl
