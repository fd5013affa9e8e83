-- Which bytes are a postings body.
use Rattle.std.proofs.Common.{◌≡◌, ℕ, zero, suc, ◌+◌, ◌-◌, ◌<◌, Bool, List, [], ◌∷◌, ◌++◌, length, get_or, map, Some, None, refl, sym, ap, subst, ◌∙◌, inl, inr, arith}
use Rattle.std.specs.Prelude.{IsTrue}
use Rattle.std.specs.declared.cmp.Ordering.{Ordering}
use Rattle.std.specs.declared.cmp.Ordering.TheVariants.{Less, Equal, Greater}
use Rattle.std.proofs.lemmas.Bool.{cases_lt}
use Rattle.std.proofs.lemmas.Cmp.{nat_list_cmp_total}
use Rattle.std.proofs.lemmas.List.{append-nil, length-map, get_or_default}
use Rattle.codec_frame.specs.Bytes.{AreBytes}
use Rattle.body_forms.specs.Format.{Read}
use Rattle.postings_plain.specs.declared.format.Format.{Format}
use Rattle.postings_plain.specs.Postings.{Entry, hits_of, entry, IsFileEntry}
use Rattle.postings_plain.specs.Body.{heading_of, heading_order, IsBefore, SpellsPostings}
use Rattle.postings_plain.specs.Reading.{entry_at, end_after, IsEntry, IsEntryUpTo, AreEntries, no_entry, at_place, entry_in, entry_of}
use Rattle.body_forms.specs.ItemTable.{IsItemTable}
use Rattle.std.specs.Ordering.{is_lt}
use Rattle.nrt_base.proofs.Plain.{cons_from}
use Rattle.body_forms.proofs.ItemTables.{table_count}
use Rattle.body_forms.proofs.Formats.{read_is}
use Rattle.postings_plain.proofs.EntryLaws.{entry_format}
use Rattle.postings_plain.proofs.Finding.{entry_at_place}
use Rattle.postings_plain.proofs.BodyLaws.{read_entry}

-- read to the end, the bytes are an entry
pub whole_entry : (format : Format) (item rest : List ℕ) (e : Entry) → AreBytes item → entry_at format item ≡ Some (e, rest) → rest ≡ [] → IsFileEntry format e × (item ≡ entry format e)
whole_entry format item rest e fits r none =
    let t = (entry_format format).takes item e rest fits r in
    (t.1, t.0.parts ∙ ap (λ (x : List ℕ). entry format e ++ x) none ∙ append-nil (entry format e))

-- an entry is read to the end
pub read_whole : (format : Format) (item : List ℕ) (e : Entry) → IsFileEntry format e → item ≡ entry format e → entry_at format item ≡ Some (e, [])
read_whole format item e fit same = ap (entry_at format) (same ∙ sym (append-nil (entry format e))) ∙ (entry_format format).again e [] fit

pub entry_of-is : (format : Format) (items : List (List ℕ)) (i : ℕ) (e : Entry) → IsFileEntry format e → get_or items i [] ≡ entry format e → entry_of format items i ≡ e
entry_of-is format items i e fit same = ap (entry_in format) same ∙ read_entry format e fit

abbrev pub entries_of : (format : Format) → List (List ℕ) → List Entry
entries_of format items = map (entry_in format) items

pub at_entries_of : (format : Format) (items : List (List ℕ)) (i : ℕ) → i < length items → at_place (entries_of format items) i ≡ entry_of format items i
at_entries_of format [] i h = absurd (omega arith)
at_entries_of format (item ∷ items) zero h = refl
at_entries_of format (item ∷ items) (suc i) h = at_entries_of format items i (omega arith)

spell_back : (format : Format) (items : List (List ℕ)) → AreEntries format items → map (entry format) (entries_of format items) ≡ items
spell_back format [] h = refl
spell_back format (item ∷ items) h =
    let f = h 0 (omega arith) in
    cons_from (entry format (entry_in format item)) item (map (entry format) (entries_of format items)) items
    (ap (entry format) (ap (entry_in format) f.2 ∙ read_entry format f.0 f.1) ∙ sym f.2) (spell_back format items (λ i g. h (suc i) (omega arith)))

-- neighbours in order are all in order
abbrev pub NextBelow : (format : Format) → List (List ℕ) → ℕ → Type 0
NextBelow format items n = (i : ℕ) → i < n → heading_order (heading_of (entry_of format items i)) (heading_of (entry_of format items (i + 1))) ≡ Less

chain_up : (format : Format) (items : List (List ℕ)) (n gap i : ℕ) → NextBelow format items n → i + gap < n → heading_order (heading_of (entry_of format items i)) (heading_of (entry_of format items (i + gap + 1))) ≡ Less
chain_up format items n zero i h lt = let e : i + 0 + 1 ≡ i + 1 = omega arith in subst (λ (k : ℕ). heading_order (heading_of (entry_of format items i)) (heading_of (entry_of format items k)) ≡ Less) (sym e) (h i (omega arith))
chain_up format items n (suc gap) i h lt =
    let e : i + suc gap + 1 ≡ i + gap + 1 + 1 = omega arith in
    subst (λ (k : ℕ). heading_order (heading_of (entry_of format items i)) (heading_of (entry_of format items k)) ≡ Less) (sym e)
    (nat_list_cmp_total.trans (heading_of (entry_of format items i)) (heading_of (entry_of format items (i + gap + 1))) (heading_of (entry_of format items (i + gap + 1 + 1))) (chain_up format items n gap i h (omega arith)) (h (i + gap + 1) (omega arith)))

all_up : (format : Format) (items : List (List ℕ)) (n i j : ℕ) → NextBelow format items n → i < j → j < n + 1 → heading_order (heading_of (entry_of format items i)) (heading_of (entry_of format items j)) ≡ Less
all_up format items n i j h lt le =
    let e : i + (j - i - 1) + 1 ≡ j = omega arith in
    subst (λ (k : ℕ). heading_order (heading_of (entry_of format items i)) (heading_of (entry_of format items k)) ≡ Less) e (chain_up format items n (j - i - 1) i h (omega arith))

fit_at : (format : Format) (items : List (List ℕ)) (i : ℕ) → AreEntries format items → i < length items → IsFileEntry format (at_place (entries_of format items) i)
fit_at format items i all h = let f = all i h in subst (IsFileEntry format) (sym (at_entries_of format items i h ∙ entry_of-is format items i f.0 f.1 f.2)) f.1

up_at : (format : Format) (items : List (List ℕ)) (i j : ℕ) → NextBelow format items (length items - 1) → i < j → j < length items → heading_order (heading_of (at_place (entries_of format items) i)) (heading_of (at_place (entries_of format items) j)) ≡ Less
up_at format items i j next lt h =
    ap (λ (e : Entry). heading_order (heading_of e) (heading_of (at_place (entries_of format items) j))) (at_entries_of format items i (omega arith)) ∙ ap (λ (e : Entry). heading_order (heading_of (entry_of format items i)) (heading_of e)) (at_entries_of format items j h)
    ∙ all_up format items (length items - 1) i j next lt (omega arith)

at_default : (es : List Entry) (i : ℕ) (d : Entry) → i < length es → at_place es i ≡ get_or es i d
at_default es i d h = get_or_default es i no_entry d h

before_at : (es : List Entry) (i j : ℕ) (d : Entry) → i < length es → j < length es → IsBefore (at_place es i) (at_place es j) → IsBefore (get_or es i d) (get_or es j d)
before_at es i j d hi hj b =
    subst (λ (e : Entry). IsBefore e (get_or es j d)) (at_default es i d hi) (subst (λ (e : Entry). IsBefore (at_place es i) e) (at_default es j d hj) b)

pub is_body : (format : Format) (bytes : List ℕ) (items : List (List ℕ)) → IsItemTable bytes items → 0 < length items → AreEntries format items → NextBelow format items (length items - 1) → SpellsPostings format bytes (entries_of format items)
is_body format bytes items t pos all next =
    let len : length (entries_of format items) ≡ length items = length-map items (entry_in format) in
    record {
      some = omega (arith, len);
      fit = λ i d h. subst (IsFileEntry format) (at_default (entries_of format items) i d h) (fit_at format items i all (omega (arith, len)));
      ascend = λ i j d lt h. before_at (entries_of format items) i j d (omega arith) h (up_at format items i j next lt (omega (arith, len)));
      table = subst (IsItemTable bytes) (sym (spell_back format items all)) t;
    }

-- what a body's items are
pub body_items : (format : Format) (bytes : List ℕ) (es : List Entry) → SpellsPostings format bytes es → AreEntries format (map (entry format) es)
body_items format bytes es p = λ i h. (at_place es i, p.fit i no_entry (omega (arith, length-map es (entry format))), entry_at_place format es i (omega (arith, length-map es (entry format))))

pub body_next : (format : Format) (bytes : List ℕ) (es : List Entry) → SpellsPostings format bytes es → NextBelow format (map (entry format) es) (length es - 1)
body_next format bytes es p = λ i h.
    let a = entry_of-is format (map (entry format) es) i (at_place es i) (p.fit i no_entry (omega arith)) (entry_at_place format es i (omega arith)) in
    let b = entry_of-is format (map (entry format) es) (i + 1) (at_place es (i + 1)) (p.fit (i + 1) no_entry (omega arith)) (entry_at_place format es (i + 1) (omega arith)) in
    ap (λ (e : Entry). heading_order (heading_of e) (heading_of (entry_of format (map (entry format) es) (i + 1)))) a ∙ ap (λ (e : Entry). heading_order (heading_of (at_place es i)) (heading_of e)) b ∙ p.ascend i (i + 1) no_entry (omega arith) (omega arith)

less_alone : (o : Ordering) → (IsTrue (is_lt o) → o ≡ Less) × (o ≡ Less → IsTrue (is_lt o))
less_alone Less = (λ _. refl, λ _. refl)
less_alone Equal = (λ h. absurd cc, λ e. absurd cc)
less_alone Greater = (λ h. absurd cc, λ e. absurd cc)

pub less_iff : (o r : Ordering) (b : Bool) → b ≡ is_lt o → o ≡ r → (IsTrue b → r ≡ Less) × (r ≡ Less → IsTrue b)
less_iff o r b e f = (λ h. sym f ∙ (less_alone o).0 (sym e ∙ h), λ g. e ∙ (less_alone o).1 (f ∙ g))

pub keys_are : (f g : ℕ) (s t : List ℕ) (d e : Entry) → f ≡ d.0 → s ≡ d.1.0 → g ≡ e.0 → t ≡ e.1.0 → heading_order (f ∷ s) (g ∷ t) ≡ heading_order (heading_of d) (heading_of e)
keys_are f g s t d e fd sd ge te = ap (λ (k : List ℕ). heading_order k (g ∷ t)) (cons_from f d.0 s d.1.0 fd sd) ∙ ap (heading_order (heading_of d)) (cons_from g e.0 t e.1.0 ge te)

pub same_items : (bytes : List ℕ) (a b : List (List ℕ)) → IsItemTable bytes a → IsItemTable bytes b → length a ≡ length b
same_items bytes a b t u = sym (table_count bytes a t) ∙ table_count bytes b u

pub entry_test : (format : Format) (item rest : List ℕ) (end : ℕ) (e : Entry) → AreBytes item → entry_at format item ≡ Some (e, rest) → end ≡ end_after 0 (hits_of e) → rest ≡ [] → IsEntryUpTo format item end
entry_test format item rest end e fits r up none =
    let q = whole_entry format item rest e fits r none in
    (e, q.0, q.1, up)

pub goes_past : (format : Format) (item rest : List ℕ) (e : Entry) → entry_at format item ≡ Some (e, rest) → (rest ≡ [] → ⊥) → IsEntry format item → ⊥
goes_past format item rest e r past x =
    let q = read_is e x.0 rest [] (sym r ∙ read_whole format item x.0 x.1 x.2) in past q.1

pub never_read : (format : Format) (item : List ℕ) → ◌≡◌ {A = Read Entry} (entry_at format item) None → IsEntry format item → ⊥
never_read format item n x = let bad = sym n ∙ read_whole format item x.0 x.1 x.2 in cc

abbrev pub EntryAt : (format : Format) → List (List ℕ) → ℕ → Type 0
EntryAt format items i = IsEntry format (get_or items i [])

pub entry_more : (format : Format) (items : List (List ℕ)) (n : ℕ) (item : List ℕ) → ((i : ℕ) → i < n → EntryAt format items i) → item ≡ get_or items n [] → IsEntry format item → (i : ℕ) → i < n + 1 → EntryAt format items i
entry_more format items n item so_far same here i h =
    elim (cases_lt i n) [
      | inl lt ↦ so_far i lt
      | inr ge ↦ let k : n ≡ i = omega arith in subst (EntryAt format items) k (here.0, here.1, sym same ∙ here.2)
    ]

pub next_more : (format : Format) (items : List (List ℕ)) (n : ℕ) → NextBelow format items n → heading_order (heading_of (entry_of format items n)) (heading_of (entry_of format items (n + 1))) ≡ Less → NextBelow format items (n + 1)
next_more format items n so_far here i h =
    elim (cases_lt i n) [
      | inl lt ↦ so_far i lt
      | inr ge ↦ let k : n ≡ i = omega arith in subst (λ (j : ℕ). heading_order (heading_of (entry_of format items j)) (heading_of (entry_of format items (j + 1))) ≡ Less) k here
    ]
