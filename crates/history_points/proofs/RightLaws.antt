-- Which answers of a history are right.
use Rattle.std.proofs.Common.{◌≡◌, ◌==◌, ◌≤◌, ◌<◌, ◌∙◌, ◌^◌, ℕ, List, [], ◌∷◌, ◌++◌, take, length, reverse, get_or, if◌then◌else◌, Bool, true, false, refl, sym, ap, subst, arith, length-take-le}
use Rattle.std.specs.Prelude.{◌↔◌, Option, Some, None, IsTrue, IfSome}
use Rattle.std.specs.BTreeMap.{BTreeMap}
use Rattle.std.specs.List.{All}
use Rattle.std.proofs.lemmas.Bool.{eqb-true}
use Rattle.std.proofs.lemmas.List.{length-map, length-reverse, get_or_default, take-take}
use Rattle.std.proofs.lemmas.List.Elements.{All-push}
use Rattle.nrt_base.specs.declared.doc.Doc.{Doc}
use Rattle.documents.specs.declared.answer.Answer.{Answer}
use Rattle.documents.specs.declared.query.Query.{Query}
use Rattle.documents.specs.Documents.{document_of, documents_in}
use Rattle.documents.specs.Ranking.{scan_of}
use Rattle.history_rules.specs.declared.entry.Entry.{Entry}
use Rattle.history_rules.specs.declared.entry.Event.{Event}
use Rattle.history_rules.specs.Points.{operations_at, operations_written}
use Rattle.history_points.specs.declared.right.Request.{Request}
use Rattle.history_points.specs.declared.searched.SearchedTexts.{SearchedTexts}
use Rattle.history_points.specs.AskedPoints.{oldest, place_at, ArePlacesOfPoints}
use Rattle.history_points.specs.RightAnswers.{told_at, IsRequest, IsRightAnswer, AreTold}
use Rattle.history_points.proofs.AskedLaws.{oldest-reverse}

-- a search at an entry, whose place is noted
request_there : (entries : List Entry) (r : Request) (places : BTreeMap ℕ ℕ) → r.at < length entries → ArePlacesOfPoints (reverse (take r.at entries)) places → r.place ≡ place_at places r.version.0 → IsRequest entries r
request_there entries r places within are is =
    let before = take r.at entries in
    let point = are r.version.0 in
    let low = point.low in
    let size : length before ≡ r.at = length-take-le r.at entries (omega (arith, within)) in
    let same : length (reverse before) ≡ length before = length-reverse before in
    let short : place_at places r.version.0 ≤ r.at = omega (arith, low, same, size) in
    record {
      within = within;
      low = omega (arith, short, within, is);
      operations =
          point.operations ∙ ap operations_written (oldest-reverse before (place_at places r.version.0) (omega (arith, short, size)) ∙ ap reverse (take-take (place_at places r.version.0) r.at entries short))
          ∙ ap (λ (k : ℕ). operations_written (reverse (take k entries))) (sym is);
    }

-- one more search is taken in
pub one_requested : (entries : List Entry) (old new : List Request) (r : Request) (places : BTreeMap ℕ ℕ) → new ≡ old ++ r ∷ [] → All (IsRequest entries) old → r.at < length entries
    → ArePlacesOfPoints (reverse (take r.at entries)) places → r.place ≡ place_at places r.version.0 → All (IsRequest entries) new
one_requested entries old new r places more all within are is =
    subst (All (IsRequest entries)) (sym more) (All-push (IsRequest entries) old r all (request_there entries r places within are is))

-- a search among those that were taken in
pub request_at : (entries : List Entry) (items slice : List Request) (i : ℕ) (r : Request) → slice ≡ items → All (IsRequest entries) items → i < length slice → IsRequest entries (get_or slice i r)
request_at entries items slice i r same all low = subst (All (IsRequest entries)) (sym same) all i r low

-- what wrote the documents of a search, as the oldest entries
pub request_point : (entries : List Entry) (r : Request) → IsRequest entries r → operations_at (reverse (take r.at entries)) r.version.0 ≡ operations_written (oldest r.place (reverse entries))
request_point entries r is = is.operations ∙ ap operations_written (sym (oldest-reverse entries r.place is.low))

-- the item at a place does not depend on the default
same_item : (entries : List Entry) (i j : ℕ) (d e : Entry) → i ≡ j → i < length entries → d ≡ get_or entries i d → e ≡ get_or entries j e → d ≡ e
same_item entries i j d e same low first second =
    first ∙ get_or_default entries i d e low ∙ ap (λ (k : ℕ). get_or entries k e) same ∙ sym second

-- one more answer is told
pub told_next : (entries : List Entry) (old new : BTreeMap ℕ Bool) (at : ℕ) (right : Bool) (event : Event) (e : Entry) → AreTold entries old → at < length entries → e ≡ get_or entries at e → event ≡ e.event
    → (IsTrue right ↔ IsRightAnswer (reverse (take at entries)) event) → ((i : ℕ) → told_at new i ≡ (if at == i then Some right else told_at old i)) → AreTold entries new
told_next entries old new at right event e are within is same told noted = λ i b d noted_there low item. by_test i b d noted_there low item (at == i) refl
  where
    some : (b c : Bool) → Some b ≡ Some c → b ≡ c
    some b c same = cc

    by_test : (i : ℕ) (b : Bool) (d : Entry) → told_at new i ≡ Some b → i < length entries → d ≡ get_or entries i d → (t : Bool) → (at == i) ≡ t → IsTrue b ↔ IsRightAnswer (reverse (take i entries)) d.event
    by_test i b d here low item true test =
        let place : at ≡ i = eqb-true at i test in
        let now : right ≡ b = some right b (sym (ap (λ (t : Bool). if t then Some right else told_at old i) test) ∙ sym (noted i) ∙ here) in
        let entry : e ≡ d = same_item entries at i e d place within is item in
        let there : event ≡ d.event = same ∙ ap (λ (x : Entry). x.event) entry in
        subst (λ (k : ℕ). IsTrue b ↔ IsRightAnswer (reverse (take k entries)) d.event) place
        (subst (λ (x : Event). IsTrue b ↔ IsRightAnswer (reverse (take at entries)) x) there
        (subst (λ (x : Bool). IsTrue x ↔ IsRightAnswer (reverse (take at entries)) event) now told))
    by_test i b d here low item false test =
        are i b d (sym (noted i ∙ ap (λ (t : Bool). if t then Some right else told_at old i) test) ∙ here) low item

-- there are no more texts than operations were accepted
pub few_texts : (searched : SearchedTexts) (docs : List Doc) (accepted : ℕ) → documents_in searched.texts ≡ docs → length docs ≤ accepted → accepted < 2 ^ 32 → length searched.texts.entries < 2 ^ 32
few_texts searched docs accepted same few low =
    let size : length (documents_in searched.texts) ≡ length searched.texts.entries = length-map searched.texts.entries document_of in
    let as_many : length (documents_in searched.texts) ≡ length docs = ap (λ (ds : List Doc). length ds) same in
    omega (arith, size, as_many, few, low)

-- the scan of the texts is that of the documents
pub right_there : (right : Bool) (texts docs : List Doc) (query : Query) (answer : Answer) → texts ≡ docs → (IsTrue right ↔ (answer ≡ scan_of texts query)) → (IsTrue right ↔ (answer ≡ scan_of docs query))
right_there right texts docs query answer same is = subst (λ (ds : List Doc). IsTrue right ↔ (answer ≡ scan_of ds query)) same is

-- what is noted of an answer is whether it is right
pub told_there : (entries : List Entry) (told : BTreeMap ℕ Bool) (at : ℕ) (r : Option Bool) → AreTold entries told → at < length entries → r ≡ told_at told at → (e : Entry) → e ≡ get_or entries at e
    → IfSome r (λ right. IsTrue right ↔ IsRightAnswer (reverse (take at entries)) e.event)
told_there entries told at (Some right) are within is = λ e item. are at right e (sym is) within item
told_there entries told at None are within is = λ e item. tt
