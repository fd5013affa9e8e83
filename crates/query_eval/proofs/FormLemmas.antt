-- The parts of a query that has its form have theirs.
use Rattle.std.proofs.Common.{◌≡◌, ℕ, ◌<◌, List, length, sym, ap, ◌∙◌, arith}
use Rattle.std.specs.Prelude.{nat_le, IsTrue}
use Rattle.std.specs.List.{list_all}
use Rattle.std.proofs.lemmas.Bool.{and_parts, leb-true}
use Rattle.text_query.proofs.TreeLemmas.{all_have_form-row, form_not as not_form}
use Rattle.documents.specs.declared.query.Query.{Query, Phrase, All, Any, Not, items_hidden-the_row-Query-0}
use Rattle.documents.specs.Matching.{has_form, all_have_form, count_parts}
use Rattle.documents.proofs.MatchingLemmas.{row_of}

pub form_all : (query : Query) (parts : List Query) → query ≡ All parts → IsTrue (has_form query) → IsTrue (list_all has_form parts)
form_all query parts e form =
    let row = row_of (All parts) in
    let each = (and_parts (nat_le 2 (count_parts row.1)) (all_have_form row.1) (sym (ap has_form e) ∙ form)).1 in
    sym (all_have_form-row row.0 row.1 ∙ ap (list_all has_form) (items_hidden-the_row-Query-0 parts)) ∙ each

pub form_any : (query : Query) (parts : List Query) → query ≡ Any parts → IsTrue (has_form query) → IsTrue (list_all has_form parts)
form_any query parts e form =
    let row = row_of (Any parts) in
    let each = (and_parts (nat_le 2 (count_parts row.1)) (all_have_form row.1) (sym (ap has_form e) ∙ form)).1 in
    sym (all_have_form-row row.0 row.1 ∙ ap (list_all has_form) (items_hidden-the_row-Query-0 parts)) ∙ each

pub form_not : (query part same : Query) → query ≡ Not part → same ≡ part → IsTrue (has_form query) → IsTrue (has_form same)
form_not query part same e s form = ap has_form s ∙ sym (not_form part) ∙ sym (ap has_form e) ∙ form

-- a phrase is not empty
pub form_phrase : (query : Query) (phrase : List (List ℕ)) → query ≡ Phrase phrase → IsTrue (has_form query) → 0 < length phrase
form_phrase query phrase e form = let two = leb-true 2 (length phrase) (sym (ap has_form e) ∙ form) in omega (arith, two)
