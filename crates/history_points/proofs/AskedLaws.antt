-- Where the operations of versions were written, and what is kept of them.
use Rattle.std.proofs.Common.{◌≡◌, ◌==◌, ◌≤◌, ◌+◌, ◌∙◌, ℕ, List, [], ◌∷◌, ◌++◌, length, take, drop, reverse, nat_le, if◌then◌else◌, Bool, true, false, ◌&&◌, refl, sym, ap, subst, arith, take-append-drop, length-take-le}
use Rattle.std.specs.BTreeMap.{BTreeMap}
use Rattle.std.proofs.lemmas.Bool.{le-leb}
use Rattle.std.proofs.lemmas.Bool.Decides.{nat_tests}
use Rattle.std.proofs.lemmas.List.{length-append, length-map, length-reverse, reverse-append}
use Rattle.nrt_base.specs.declared.doc.Doc.{Doc}
use Rattle.nrt_base.specs.declared.numbers.At.{At}
use Rattle.nrt_base.specs.declared.numbers.Gen.{Gen}
use Rattle.nrt_base.specs.declared.numbers.NodeNo.{NodeNo}
use Rattle.nrt_base.specs.declared.numbers.Version.{Version}
use Rattle.documents.specs.declared.operation.Op.{Op}
use Rattle.documents.specs.Documents.{IsAscending, document_of, documents_in, documents_after, after_op}
use Rattle.documents.proofs.DocumentLemmas.{documents_after_last, documents_ascend}
use Rattle.history_rules.specs.declared.entry.Entry.{Entry}
use Rattle.history_rules.specs.declared.entry.Event.{Event}
use Rattle.history_rules.specs.declared.entry.Event.TheVariants.{Accepted, Published, Promoted}
use Rattle.history_rules.specs.Nodes.{Past, version_of}
use Rattle.history_rules.specs.Lines.{same_at, is_start, before_start}
use Rattle.history_rules.specs.Points.{operations_written, operations_at_start, operations_at, documents_at}
use Rattle.history_facts.proofs.WrittenLemmas.{started}
use Rattle.known_past.proofs.Given.{start_short}
use Rattle.history_points.specs.declared.asked.AskedPoint.{AskedPoint}
use Rattle.history_points.specs.declared.reached.Reached.{Reached}
use Rattle.history_points.specs.declared.searched.SearchedTexts.{SearchedTexts}
use Rattle.history_points.specs.Kept.{IsSearched}
use Rattle.history_points.specs.AskedPoints.{place_at, oldest, IsPlaceOfPoint, ArePlacesOfPoints, IsReachedBy, IsAskedPoint}

-- one entry more is none of the oldest
pub oldest-more : (k : ℕ) (e : Entry) (past : Past) → k ≤ length past → oldest k (e ∷ past) ≡ oldest k past
oldest-more k e past low = ap (λ (b : Bool). if b then oldest k past else e ∷ past) (le-leb k (length past) low)

oldest-all : (past : Past) → oldest (length past) past ≡ past
oldest-all [] = refl
oldest-all (e ∷ past) =
    let high : nat_le (length (e ∷ past)) (length past) ≡ false = grind (arith, nat_tests) in
    ap (λ (b : Bool). if b then oldest (length (e ∷ past)) past else e ∷ past) high

oldest-behind : (newer older : Past) → oldest (length older) (newer ++ older) ≡ older
oldest-behind [] older = oldest-all older
oldest-behind (e ∷ newer) older =
    let parts = length-append newer older in
    oldest-more (length older) e (newer ++ older) (omega (arith, parts)) ∙ oldest-behind newer older

-- the first entries are the oldest
pub oldest-reverse : (entries : List Entry) (k : ℕ) → k ≤ length entries → oldest k (reverse entries) ≡ reverse (take k entries)
oldest-reverse entries k low =
    let parts : reverse entries ≡ reverse (drop k entries) ++ reverse (take k entries) =
    ap reverse (sym (take-append-drop k entries)) ∙ reverse-append (take k entries) (drop k entries) in
    let size : length (reverse (take k entries)) ≡ k = length-reverse (take k entries) ∙ length-take-le k entries low in
    ap (λ (n : ℕ). oldest n (reverse entries)) (sym size) ∙ ap (oldest (length (reverse (take k entries)))) parts
    ∙ oldest-behind (reverse (drop k entries)) (reverse (take k entries))

oldest-start : (at : At) (past : Past) → oldest (length (before_start at past)) past ≡ before_start at past
oldest-start at [] = refl
oldest-start at (e ∷ past) =
    elim (is_start e.event && same_at e.at at) as (λ b. oldest (length (if b then past else before_start at past)) (e ∷ past) ≡ (if b then past else before_start at past)) [
      | true ↦ oldest-more (length past) e past (omega arith) ∙ oldest-all past
      | false ↦ oldest-more (length (before_start at past)) e past (start_short at past) ∙ oldest-start at past
    ]

placed : (past : Past) (e : Entry) (v k : ℕ) (ops : List Op) → k ≤ length past → ops ≡ operations_written (oldest k past) → operations_at (e ∷ past) v ≡ ops → IsPlaceOfPoint (e ∷ past) v k
placed past e v k ops low written is = record { low = omega (arith, low); operations = is ∙ written ∙ ap operations_written (sym (oldest-more k e past low)) }

-- an entry that makes no point moves no place
pub same_places : (past : Past) (e : Entry) (places : BTreeMap ℕ ℕ) → ((g : Gen) (v : Version) → e.event ≡ Published g v → ⊥)
    → ((n : NodeNo) (g : Gen) (f v : Version) → e.event ≡ Promoted n g f v → ⊥) → ArePlacesOfPoints past places → ArePlacesOfPoints (e ∷ past) places
same_places past e places published promoted are = λ v.
    placed past e v (place_at places v) (operations_at past v) (are v).low (are v).operations (same e.event published promoted v)
  where
    same : (event : Event) → ((g : Gen) (v : Version) → event ≡ Published g v → ⊥) → ((n : NodeNo) (g : Gen) (f v : Version) → event ≡ Promoted n g f v → ⊥)
        → (v : ℕ) → operations_at (record { at = e.at; event = event } ∷ past) v ≡ operations_at past v
    same (Published g w) published promoted v = absurd (published g w refl)
    same (Promoted n g f w) published promoted v = absurd (promoted n g f w refl)
    same event published promoted v = refl

-- the places after a point of this version, whose operations so many of the oldest entries wrote
point_placed : (past : Past) (e : Entry) (v : Version) (old new : BTreeMap ℕ ℕ) (k : ℕ) (ops : List Op) → ArePlacesOfPoints past old → k ≤ length past → ops ≡ operations_written (oldest k past)
    → ((w : ℕ) → operations_at (e ∷ past) w ≡ (if v.0 == w then ops else operations_at past w))
    → ((w : ℕ) → place_at new w ≡ (if v.0 == w then k else place_at old w)) → ArePlacesOfPoints (e ∷ past) new
point_placed past e v old new k ops are low written point noted = λ w. by_test w (v.0 == w) refl
  where
    by_test : (w : ℕ) (t : Bool) → (v.0 == w) ≡ t → IsPlaceOfPoint (e ∷ past) w (place_at new w)
    by_test w true same =
        let place : place_at new w ≡ k = noted w ∙ ap (λ (b : Bool). if b then k else place_at old w) same in
        let here : operations_at (e ∷ past) w ≡ ops = point w ∙ ap (λ (b : Bool). if b then ops else operations_at past w) same in
        subst (IsPlaceOfPoint (e ∷ past) w) (sym place) (placed past e w k ops low written here)
    by_test w false other =
        let place : place_at new w ≡ place_at old w = noted w ∙ ap (λ (b : Bool). if b then k else place_at old w) other in
        let here : operations_at (e ∷ past) w ≡ operations_at past w = point w ∙ ap (λ (b : Bool). if b then ops else operations_at past w) other in
        subst (IsPlaceOfPoint (e ∷ past) w) (sym place) (placed past e w (place_at old w) (operations_at past w) (are w).low (are w).operations here)

published_at : (past : Past) (e : Entry) (g : Gen) (v : Version) → e.event ≡ Published g v
    → (w : ℕ) → operations_at (e ∷ past) w ≡ (if v.0 == w then operations_at_start e.at past else operations_at past w)
published_at past e g v is = λ w.
    subst (λ (event : Event). operations_at (record { at = e.at; event = event } ∷ past) w ≡ (if v.0 == w then operations_at_start e.at past else operations_at past w)) (sym is) refl

promoted_at : (past : Past) (e : Entry) (n : NodeNo) (g : Gen) (f v : Version) → e.event ≡ Promoted n g f v
    → (w : ℕ) → operations_at (e ∷ past) w ≡ (if v.0 == w then operations_at past (version_of n.0 past) else operations_at past w)
promoted_at past e n g f v is = λ w.
    subst (λ (event : Event). operations_at (record { at = e.at; event = event } ∷ past) w ≡ (if v.0 == w then operations_at past (version_of n.0 past) else operations_at past w)) (sym is) refl

-- the places after a publish, whose line started behind so many entries
pub published_places : (past : Past) (e : Entry) (g : Gen) (v : Version) (old new : BTreeMap ℕ ℕ) (k : ℕ) → e.event ≡ Published g v → ArePlacesOfPoints past old → k ≡ length (before_start e.at past)
    → ((w : ℕ) → place_at new w ≡ (if v.0 == w then k else place_at old w)) → ArePlacesOfPoints (e ∷ past) new
published_places past e g v old new k is are start noted =
    let low = start_short e.at past in
    let written : operations_at_start e.at past ≡ operations_written (oldest k past) =
    started e.at past ∙ ap operations_written (sym (oldest-start e.at past) ∙ ap (λ (n : ℕ). oldest n past) (sym start)) in
    point_placed past e v old new k (operations_at_start e.at past) are (omega (arith, start, low)) written (published_at past e g v is) noted

-- the places after a promotion of a node that searched a version with this place
pub promoted_places : (past : Past) (e : Entry) (n : NodeNo) (g : Gen) (f v : Version) (old new : BTreeMap ℕ ℕ) (k : ℕ) → e.event ≡ Promoted n g f v → ArePlacesOfPoints past old
    → k ≡ place_at old (version_of n.0 past) → ((w : ℕ) → place_at new w ≡ (if v.0 == w then k else place_at old w)) → ArePlacesOfPoints (e ∷ past) new
promoted_places past e n g f v old new k is are place noted =
    let p = are (version_of n.0 past) in
    let low = p.low in
    point_placed past e v old new k (operations_at past (version_of n.0 past)) are (omega (arith, place, low))
    (p.operations ∙ ap (λ (m : ℕ). operations_written (oldest m past)) (sym place)) (promoted_at past e n g f v is) noted

written_accepted : (past : Past) (e : Entry) (seq : ℕ) (op : Op) → e.event ≡ Accepted seq op → operations_written (e ∷ past) ≡ operations_written past ++ op ∷ []
written_accepted past e seq op is =
    subst (λ (event : Event). operations_written (record { at = e.at; event = event } ∷ past) ≡ operations_written past ++ op ∷ []) (sym is) refl

-- an operation was accepted
pub one_written : (past : Past) (e : Entry) (seq : ℕ) (op : Op) (old new : List Doc) → e.event ≡ Accepted seq op → old ≡ documents_after (operations_written past)
    → new ≡ after_op old op → new ≡ documents_after (operations_written (e ∷ past))
one_written past e seq op old new is was after =
    after ∙ ap (λ (docs : List Doc). after_op docs op) was ∙ sym (documents_after_last (operations_written past) op) ∙ ap documents_after (sym (written_accepted past e seq op is))

-- an entry that neither accepts an operation nor promotes a node writes nothing
pub same_written : (past : Past) (e : Entry) (docs : List Doc) → ((seq : _) (op : _) → e.event ≡ Accepted seq op → ⊥)
    → ((n : NodeNo) (g : Gen) (f v : Version) → e.event ≡ Promoted n g f v → ⊥) → docs ≡ documents_after (operations_written past)
    → docs ≡ documents_after (operations_written (e ∷ past))
same_written past e docs accepted promoted was = was ∙ ap documents_after (sym (same e.event accepted promoted))
  where
    same : (event : Event) → ((seq : _) (op : _) → event ≡ Accepted seq op → ⊥) → ((n : NodeNo) (g : Gen) (f v : Version) → event ≡ Promoted n g f v → ⊥)
        → operations_written (record { at = e.at; event = event } ∷ past) ≡ operations_written past
    same (Accepted seq op) accepted promoted = absurd (accepted seq op refl)
    same (Promoted n g f v) accepted promoted = absurd (promoted n g f v refl)
    same event accepted promoted = refl

-- what is kept after one more entry, where the texts stay
pub asked_next : (past : Past) (e : Entry) (old new : AskedPoint) → IsAskedPoint past old → ArePlacesOfPoints (e ∷ past) new.places → new.reached ≡ old.reached → IsAskedPoint (e ∷ past) new
asked_next past e old new asked places same = record {
  places = places;
  reached = subst (IsReachedBy (e ∷ past)) (sym same) (reached_next past e old.reached asked.reached);
}
  where
    reached_next : (past : Past) (e : Entry) (reached : Reached) → IsReachedBy past reached → IsReachedBy (e ∷ past) reached
    reached_next past e reached h = record {
      low = let low = h.low in omega (arith, low);
      kept = h.kept;
      texts = h.texts ∙ ap (λ (p : Past). documents_after (operations_written p)) (sym (oldest-more reached.count e past h.low));
    }

oldest-none : (past : Past) → oldest 0 past ≡ []
oldest-none [] = refl
oldest-none (e ∷ past) = oldest-more 0 e past (omega arith) ∙ oldest-none past

-- no entry wrote no texts
pub none_reached : (past : Past) (reached : Reached) → reached.count ≡ 0 → IsSearched reached.searched → documents_in reached.searched.texts ≡ [] → IsReachedBy past reached
none_reached past reached count kept none = record {
  low = omega (arith, count);
  kept = kept;
  texts =
      none ∙ ap (λ (p : Past). documents_after (operations_written p)) (sym (oldest-none past))
      ∙ ap (λ (k : ℕ). documents_after (operations_written (oldest k past))) (sym count);
}

-- the texts that are kept, as those of the first entries
pub reached_texts : (entries : List Entry) (reached : Reached) → IsReachedBy (reverse entries) reached
    → documents_in reached.searched.texts ≡ documents_after (operations_written (reverse (take reached.count entries)))
reached_texts entries reached h =
    let low : reached.count ≤ length entries = subst (λ (n : ℕ). reached.count ≤ n) (length-reverse entries) h.low in
    h.texts ∙ ap (λ (p : Past). documents_after (operations_written p)) (oldest-reverse entries reached.count low)

-- what is kept where the texts went on to what so many entries wrote
pub reached_there : (entries : List Entry) (new : Reached) (place : ℕ) → place ≤ length entries → new.count ≡ place → IsSearched new.searched
    → documents_in new.searched.texts ≡ documents_after (operations_written (reverse (take place entries))) → IsReachedBy (reverse entries) new
reached_there entries new place low count kept texts =
    let size : length (reverse entries) ≡ length entries = length-reverse entries in
    record {
      low = omega (arith, low, count, size);
      kept = kept;
      texts =
          texts ∙ ap (λ (p : Past). documents_after (operations_written p)) (sym (oldest-reverse entries place low))
          ∙ ap (λ (k : ℕ). documents_after (operations_written (oldest k (reverse entries)))) (sym count);
    }

-- where the texts went on to the place of a point they are its documents
pub reached_point : (past before : Past) (v place : ℕ) (reached : Reached) → IsReachedBy past reached → reached.count ≡ place → operations_at before v ≡ operations_written (oldest place past)
    → documents_in reached.searched.texts ≡ documents_at before v
reached_point past before v place reached is count point =
    is.texts ∙ ap (λ (k : ℕ). documents_after (operations_written (oldest k past))) count ∙ ap documents_after (sym point)

-- the documents of a point ascend
pub point_ascends : (past : Past) (v : ℕ) (docs : List Doc) → docs ≡ documents_at past v → IsAscending docs
point_ascends past v docs is = subst IsAscending (sym is) (documents_ascend (operations_at past v))

-- where the texts were made of the documents of a point, they are what wrote it
pub made_reached : (entries : List Entry) (before : Past) (v place : ℕ) (new : Reached) (docs : List Doc) → place ≤ length entries → new.count ≡ place → IsSearched new.searched
    → documents_in new.searched.texts ≡ docs → docs ≡ documents_at before v → operations_at before v ≡ operations_written (oldest place (reverse entries)) → IsReachedBy (reverse entries) new
made_reached entries before v place new docs low count kept texts is point =
    let size : length (reverse entries) ≡ length entries = length-reverse entries in
    record {
      low = omega (arith, low, count, size);
      kept = kept;
      texts =
          texts ∙ is ∙ ap documents_after point
          ∙ ap (λ (k : ℕ). documents_after (operations_written (oldest k (reverse entries)))) (sym count);
    }

-- the place of a version is one of the entries
pub place_low : (entries : List Entry) (asked : AskedPoint) (v place : ℕ) → IsAskedPoint (reverse entries) asked → place ≡ place_at asked.places v → place ≤ length entries
place_low entries asked v place h is =
    let low = (h.places v).low in
    let size : length (reverse entries) ≡ length entries = length-reverse entries in
    omega (arith, low, is, size)

-- the place of a version has its operations
pub place_is : (past : Past) (asked : AskedPoint) (v place : ℕ) → IsAskedPoint past asked → place ≡ place_at asked.places v → operations_at past v ≡ operations_written (oldest place past)
place_is past asked v place h is = (h.places v).operations ∙ ap (λ (k : ℕ). operations_written (oldest k past)) (sym is)

-- what is kept after documents were counted
pub asked_there : (past : Past) (old new : AskedPoint) → IsAskedPoint past old → new.places ≡ old.places → IsReachedBy past new.reached → IsAskedPoint past new
asked_there past old new asked places reached = record { places = subst (ArePlacesOfPoints past) (sym places) asked.places; reached = reached }

-- there are as many texts as documents
pub count_there : (searched : SearchedTexts) (docs : List Doc) (count : ℕ) → documents_in searched.texts ≡ docs → count ≡ length searched.texts.entries → count ≡ length docs
count_there searched docs count is counted = counted ∙ sym (length-map searched.texts.entries document_of) ∙ ap (λ (ds : List Doc). length ds) is
