-- The depth, the leaves and the form of a tree, from those of its parts.
use Rattle.std.proofs.Common.{◌≡◌, ℕ, ◌+◌, max, List, [], ◌∷◌, length, Bool, true, refl, ap, ◌∙◌, arith}
use Rattle.std.specs.Prelude.{◌&&◌, nat_le}
use Rattle.std.specs.List.{list_all}
use denote.Hole.Carrier.{hidden}
use mathlib.Core.Former.{Count}
use Rattle.std.proofs.Math.Bool.{and-true}
use Rattle.documents.specs.declared.query.Query.{Query, All, Any, Not, All', Any', Not', Row_of-Query, end_of-Query, more_of-Query, items-the_row-Query, items_hidden-the_row-Query-0}
use Rattle.documents.specs.declared.query.Query.TheBlock.{hidden-the_row-Query-1}
use Rattle.documents.specs.Matching.{depth_of, deepest, leaves_of, all_leaves, count_parts, has_form, all_have_form}
use Rattle.text_query.specs.Depths.{deepest_in}

-- the leaves of several queries
abbrev pub leaves_in : List Query → ℕ
leaves_in [] = 0
leaves_in (query ∷ queries) = leaves_of query + leaves_in queries

deepest-row : (n : _) (row : Row_of-Query n) → deepest row ≡ deepest_in (items-the_row-Query n row)
deepest-row n end_of-Query = refl
deepest-row n (more_of-Query part parts) = ap (max (depth_of part)) (deepest-row _ parts)

all_leaves-row : (n : _) (row : Row_of-Query n) → all_leaves row ≡ leaves_in (items-the_row-Query n row)
all_leaves-row n end_of-Query = refl
all_leaves-row n (more_of-Query part parts) = ap (λ (k : ℕ). leaves_of part + k) (all_leaves-row _ parts)

count_parts-row : (n : _) (row : Row_of-Query n) → count_parts row ≡ length (items-the_row-Query n row)
count_parts-row n end_of-Query = refl
count_parts-row n (more_of-Query part parts) = let e = count_parts-row _ parts in omega arith

pub all_have_form-row : (n : _) (row : Row_of-Query n) → all_have_form row ≡ list_all has_form (items-the_row-Query n row)
all_have_form-row n end_of-Query = refl
all_have_form-row n (more_of-Query part parts) = ap (λ (b : Bool). has_form part && b) (all_have_form-row _ parts)

abbrev row_of : Query → (n : Count) × Row_of-Query n
row_of (All' shape row) = (_, row)
row_of (Any' shape row) = (_, row)
row_of (Not' shape row) = (_, row)
row_of query = (_, end_of-Query)

pub depth_all : (parts : List Query) → depth_of (All parts) ≡ 1 + deepest_in parts
depth_all parts =
    let row = row_of (All parts) in
    ap (λ (k : ℕ). 1 + k) (deepest-row row.0 row.1 ∙ ap deepest_in (items_hidden-the_row-Query-0 parts))

pub depth_any : (parts : List Query) → depth_of (Any parts) ≡ 1 + deepest_in parts
depth_any parts =
    let row = row_of (Any parts) in
    ap (λ (k : ℕ). 1 + k) (deepest-row row.0 row.1 ∙ ap deepest_in (items_hidden-the_row-Query-0 parts))

pub depth_not : (part : Query) → depth_of (Not part) ≡ 1 + depth_of part
unfolding hidden-the_row-Query-1 hidden
depth_not part = let n = depth_of part in let e : max n 0 ≡ n = omega arith in ap (λ (k : ℕ). 1 + k) e

pub leaves_all : (parts : List Query) → leaves_of (All parts) ≡ leaves_in parts
leaves_all parts =
    let row = row_of (All parts) in
    all_leaves-row row.0 row.1 ∙ ap leaves_in (items_hidden-the_row-Query-0 parts)

pub leaves_any : (parts : List Query) → leaves_of (Any parts) ≡ leaves_in parts
leaves_any parts =
    let row = row_of (Any parts) in
    all_leaves-row row.0 row.1 ∙ ap leaves_in (items_hidden-the_row-Query-0 parts)

pub leaves_not : (part : Query) → leaves_of (Not part) ≡ leaves_of part
unfolding hidden-the_row-Query-1 hidden
leaves_not part = let n = leaves_of part in let e : n + 0 ≡ n = omega arith in e

pub form_all : (parts : List Query) → has_form (All parts) ≡ (nat_le 2 (length parts) && list_all has_form parts)
form_all parts =
    let row = row_of (All parts) in
    let same = items_hidden-the_row-Query-0 parts in
    ap (λ (k : ℕ). nat_le 2 k && all_have_form row.1) (count_parts-row row.0 row.1 ∙ ap length same)
    ∙ ap (λ (b : Bool). nat_le 2 (length parts) && b) (all_have_form-row row.0 row.1 ∙ ap (list_all has_form) same)

pub form_any : (parts : List Query) → has_form (Any parts) ≡ (nat_le 2 (length parts) && list_all has_form parts)
form_any parts =
    let row = row_of (Any parts) in
    let same = items_hidden-the_row-Query-0 parts in
    ap (λ (k : ℕ). nat_le 2 k && all_have_form row.1) (count_parts-row row.0 row.1 ∙ ap length same)
    ∙ ap (λ (b : Bool). nat_le 2 (length parts) && b) (all_have_form-row row.0 row.1 ∙ ap (list_all has_form) same)

pub form_not : (part : Query) → has_form (Not part) ≡ has_form part
unfolding hidden-the_row-Query-1 hidden
form_not part = and-true (has_form part)
