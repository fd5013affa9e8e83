-- Steps of a walk over a history.
use Rattle.std.proofs.Common.{◌≡◌, ℕ, List, [], ◌∷◌, ◌++◌, map, take, reverse, length, ◌<◌, get_or, Bool, true, false, ◌==◌, if◌then◌else◌, Result, Ok, Err, OnOk, ap, ◌∙◌, sym, subst, arith}
use Rattle.std.proofs.lemmas.Bool.Decides.{nat_tests}
use Rattle.std.specs.BTreeMap.{BTreeMap, IsOrdered}
use Rattle.nrt_base.specs.declared.doc.Doc.{Doc}
use Rattle.nrt_base.specs.declared.numbers.At.{At}
use Rattle.nrt_base.specs.declared.numbers.Gen.{Gen}
use Rattle.nrt_base.specs.declared.numbers.NodeNo.{NodeNo}
use Rattle.nrt_base.specs.declared.numbers.Version.{Version}
use Rattle.documents.specs.declared.operation.Op.{Op}
use Rattle.history_rules.specs.declared.entry.Entry.{Entry}
use Rattle.history_rules.specs.declared.entry.Event.{Event}
use Rattle.history_rules.specs.declared.entry.Event.TheVariants.{Accepted, Published, Promoted}
use Rattle.history_rules.specs.declared.point.Point.{Point}
use Rattle.history_points.specs.declared.published.Walk.{Walk}
use Rattle.documents.specs.Documents.{IsAscending, key_cmp, document_of, documents_after, after_op}
use Rattle.history_rules.specs.Nodes.{Past, version_of}
use Rattle.history_rules.specs.Points.{operations_written, operations_at, documents_at, points_of}
use Rattle.history_rules.specs.Legal.{KeepsRule, IsLegalPast}
use Rattle.history_points.specs.Walks.{KnowsPast, Promotes, IsStarted, begun_at, made_at, searched_by}
use Rattle.history_rules.proofs.PastLemmas.{keeps_at}
use Rattle.documents.proofs.DocumentLemmas.{documents_ascend, documents_after_last}

-- the documents of a version ascend by key
pub made_ascend : (past : Past) (walk : Walk) → KnowsPast past walk → (v : ℕ) → IsAscending (made_at walk.made v)
made_ascend past walk shows v = subst IsAscending (sym (shows.made v)) (documents_ascend (operations_at past v))

shows_accepted : (past : Past) (at : At) (seq : ℕ) (op : Op) (w : Walk) (texts : BTreeMap (List ℕ) (List ℕ)) → KnowsPast past w
    → IsOrdered key_cmp texts → map document_of texts.entries ≡ after_op (map document_of w.texts.entries) op
    → KnowsPast (record { at = at; event = Accepted seq op } ∷ past) (record w { texts = texts })
shows_accepted past at seq op w texts shows ordered after = record {
  ordered = ordered;
  written = after ∙ ap (λ (docs : List Doc). after_op docs op) shows.written ∙ sym (documents_after_last (operations_written past) op);
  begun = shows.begun;
  made = shows.made;
  searched = shows.searched;
  primary = shows.primary;
  points = shows.points;
}

-- an operation was accepted
pub shows_accept : (past : Past) (entry : Entry) (seq : ℕ) (op : Op) (w : Walk) (texts : BTreeMap (List ℕ) (List ℕ))
    → entry.event ≡ Accepted seq op → KnowsPast past w → IsOrdered key_cmp texts
    → map document_of texts.entries ≡ after_op (map document_of w.texts.entries) op → KnowsPast (entry ∷ past) (record w { texts = texts })
shows_accept past entry seq op w texts is shows ordered after =
    subst (λ (e : Event). KnowsPast (record { at = entry.at; event = e } ∷ past) (record w { texts = texts })) (sym is)
    (shows_accepted past entry.at seq op w texts shows ordered after)

made_if : (b : Bool) (docs old : List Doc) (ops others : List Op) → docs ≡ documents_after ops → old ≡ documents_after others
    → (if b then docs else old) ≡ documents_after (if b then ops else others)
made_if true docs old ops others same same' = same
made_if false docs old ops others same same' = same'

shows_promoted : (past : Past) (at : At) (n : NodeNo) (g : Gen) (f v : Version) (old new : Walk) → KnowsPast past old → Promotes old new n g v
    → KnowsPast (record { at = at; event = Promoted n g f v } ∷ past) new
shows_promoted past at n g f v old new shows done =
    let ops = operations_at past (version_of n.0 past) in
    let same : made_at old.made (searched_by old.searched n.0) ≡ documents_after ops =
    shows.made (searched_by old.searched n.0) ∙ ap (documents_at past) (shows.searched n.0) in
    let found : (v.0 == v.0) ≡ true = grind (arith, nat_tests) in
    record {
      ordered = done.ordered;
      written = done.written ∙ same;
      begun = λ a started. ap (λ (b : BTreeMap (ℕ × ℕ) (List Doc)). begun_at b a) done.begun ∙ shows.begun a started;
      made = λ u. done.made u ∙ made_if (v.0 == u) _ _ ops (operations_at past u) same (shows.made u);
      searched = λ m. done.searched m ∙ ap (λ (w : ℕ). if n.0 == m then v.0 else w) (shows.searched m);
      primary = done.primary;
      points =
          done.points
          ∙ ap (λ (ps : List Point). ps ++ record { generation = g; version = v; docs = made_at old.made (searched_by old.searched n.0) } ∷ []) shows.points
          ∙ ap (λ (docs : List Doc). points_of past ++ record { generation = g; version = v; docs = docs } ∷ [])
          (same ∙ ap (λ (b : Bool). documents_after (if b then ops else operations_at past v.0)) (sym found));
    }

-- a node was promoted
pub shows_promote : (past : Past) (entry : Entry) (n : NodeNo) (g : Gen) (f v : Version) (old new : Walk)
    → entry.event ≡ Promoted n g f v → KnowsPast past old → Promotes old new n g v → KnowsPast (entry ∷ past) new
shows_promote past entry n g f v old new is shows done =
    subst (λ (e : Event). KnowsPast (record { at = entry.at; event = e } ∷ past) new) (sym is)
    (shows_promoted past entry.at n g f v old new shows done)

pub on_both : {T E : Type 0} (r : Result T E) (P Q R : Type 0) → (P → Q → R) → OnOk r P → OnOk r Q → OnOk r R
on_both (Ok x) P Q R f p q = f p q
on_both (Err e) P Q R f p q = tt

is_started_from : (size : ℕ) (past : Past) (at : At) (e : Event) → KeepsRule size past at e → IsStarted past at e
is_started_from size past at (Published g v) keeps = keeps.started
is_started_from size past at e keeps = tt

-- a publish that a legal history has at a place was started by its line
pub is_started : (size : ℕ) (entries : List Entry) (i : ℕ) (e : Entry) → IsLegalPast size (reverse entries) → i < length entries
    → e ≡ get_or entries i e → IsStarted (reverse (take i entries)) e.at e.event
is_started size entries i e legal within is =
    is_started_from size (reverse (take i entries)) e.at e.event (keeps_at size entries i e legal within is)
