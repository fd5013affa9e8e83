-- A binary search by key.
use Rattle.std.proofs.Common.{◌≡◌, ℕ, zero, suc, ◌+◌, ◌<◌, ◌≤◌, List, [], ◌∷◌, ◌++◌, length, get_or, map, Some, None, refl, sym, ap, subst, ◌∙◌, arith, inl, inr}
use Rattle.std.specs.Cmp.Lexicographic.{slice_cmp}
use Rattle.std.specs.Ordering.{nat_cmp}
use Rattle.std.specs.declared.cmp.Ordering.TheVariants.{Less, Equal, Greater}
use Rattle.std.proofs.lemmas.Cmp.{nat_list_cmp_total, tied_itself, ranked, by_ranked}
use Rattle.std.proofs.lemmas.Bool.{cases_lt}
use Rattle.std.proofs.lemmas.List.{length-map, get_or_default}
use Rattle.body_forms.specs.Format.{Read}
use Rattle.body_forms.specs.Numbers.{string}
use Rattle.postings_plain.specs.declared.format.Format.{Format}
use Rattle.postings_plain.specs.Postings.{Hit, Entry, field_of, term_of, hits_of, hits, HitsFit, entry, IsFileEntry}
use Rattle.postings_plain.specs.Body.{heading_of, heading_order, SpellsPostings, HasEntry, HasNoEntry}
use Rattle.postings_plain.specs.Reading.{field_at, term_at, no_entry, at_place, HasNoHeading}
use Rattle.postings_plain.proofs.EntryLaws.{field_format, term_format}
use Rattle.body_forms.proofs.ItemTables.{table_count}
use Rattle.body_forms.proofs.Formats.{read_is}
use Rattle.nrt_base.proofs.Plain.{cons_from, cons_first, both_equal}

-- the field, then the term, are read from an entry
pub field_first : (format : Format) (e : Entry) → IsFileEntry format e → field_at (entry format e) ≡ Some (e.0, string e.1.0 ++ hits format e.0 e.1.1)
field_first format e fit = field_format.again e.0 (string e.1.0 ++ hits format e.0 e.1.1) fit.kind

pub term_second : (format : Format) (e : Entry) → IsFileEntry format e → term_at (string e.1.0 ++ hits format e.0 e.1.1) ≡ Some (e.1.0, hits format e.0 e.1.1)
term_second format e fit = term_format.again e.1.0 (hits format e.0 e.1.1) fit.term_fits

pub entry_at_place : (format : Format) (es : List Entry) (i : ℕ) → i < length es → get_or (map (entry format) es) i [] ≡ entry format (at_place es i)
entry_at_place format [] i h = absurd (omega arith)
entry_at_place format (e ∷ es) zero h = refl
entry_at_place format (e ∷ es) (suc i) h = entry_at_place format es i (omega arith)

back : (a b : List ℕ) → heading_order a b ≡ Less → heading_order b a ≡ Greater
back a b e = nat_list_cmp_total.antisymm b a ∙ rw e refl

forth : (a b : List ℕ) → heading_order a b ≡ Greater → heading_order b a ≡ Less
forth a b e = nat_list_cmp_total.antisymm b a ∙ rw e refl

pub field_read : (format : Format) (item : List ℕ) (e : Entry) (field : ℕ) (rest : List ℕ) → IsFileEntry format e → item ≡ entry format e → ◌≡◌ {A = Read ℕ} (Some (field, rest)) (field_at item) → (field ≡ e.0) × (rest ≡ string e.1.0 ++ hits format e.0 e.1.1)
field_read format item e field rest fit same r = read_is field e.0 rest (string e.1.0 ++ hits format e.0 e.1.1) (r ∙ ap field_at same ∙ field_first format e fit)

pub field_is_there : (format : Format) (item : List ℕ) (e : Entry) → IsFileEntry format e → item ≡ entry format e → ◌≡◌ {A = Read ℕ} None (field_at item) → ⊥
field_is_there format item e fit same r = let bad = r ∙ ap field_at same ∙ field_first format e fit in cc

pub term_read : (format : Format) (rest : List ℕ) (e : Entry) (term after : List ℕ) → IsFileEntry format e → rest ≡ string e.1.0 ++ hits format e.0 e.1.1 → ◌≡◌ {A = Read (List ℕ)} (Some (term, after)) (term_at rest) → term ≡ e.1.0
term_read format rest e term after fit same r = let q = read_is term e.1.0 after (hits format e.0 e.1.1) (r ∙ ap term_at same ∙ term_second format e fit) in q.0

pub term_is_there : (format : Format) (rest : List ℕ) (e : Entry) → IsFileEntry format e → rest ≡ string e.1.0 ++ hits format e.0 e.1.1 → ◌≡◌ {A = Read (List ℕ)} None (term_at rest) → ⊥
term_is_there format rest e fit same r = let bad = r ∙ ap term_at same ∙ term_second format e fit in cc

tied_numbers : (x y : ℕ) → nat_cmp x y ≡ Equal → x ≡ y
tied_numbers x y e = by_ranked (x < y) (x ≡ y) (y < x) (nat_cmp x y) (ranked x y (nat_cmp x y) refl) (λ f _. let bad = sym f ∙ e in cc) (λ _ same. same) (λ f _. let bad = sym f ∙ e in cc)

pub same_key : (a b : List ℕ) → heading_order a b ≡ Equal → a ≡ b
same_key [] [] e = refl
same_key [] (y ∷ ys) e = absurd cc
same_key (x ∷ xs) [] e = absurd cc
same_key (x ∷ xs) (y ∷ ys) e =
    let t = both_equal (nat_cmp x y) (slice_cmp nat_cmp xs ys) e in
    cons_from x y xs ys (tied_numbers x y t.0) (same_key xs ys t.1)

-- the places below low come before the key, and those from high on after it
pub record Between (es : List Entry) (key : List ℕ) (low high : ℕ) : Type 0 where
  pub within : high ≤ length es
  pub before : (i : ℕ) → i < low → heading_order (heading_of (at_place es i)) key ≡ Less
  pub after : (i : ℕ) → high ≤ i → i < length es → heading_order (heading_of (at_place es i)) key ≡ Greater

pub all_between : (es : List Entry) (key : List ℕ) → Between es key 0 (length es)
all_between es key = record { within = omega arith; before = λ i h. absurd (omega arith); after = λ i h g. absurd (omega arith) }

pub up : (format : Format) (bytes : List ℕ) (es : List Entry) (key : List ℕ) (low high m : ℕ) → SpellsPostings format bytes es → Between es key low high → m < high → heading_order (heading_of (at_place es m)) key ≡ Less → Between es key (m + 1) high
up format bytes es key low high m p b lt e = record {
  within = b.within;
  before = λ i h. elim (cases_lt i m) [
    | inl below ↦ nat_list_cmp_total.trans (heading_of (at_place es i)) (heading_of (at_place es m)) key (p.ascend i m no_entry below (omega (arith, b.within))) e
    | inr not ↦ let same : m ≡ i = omega arith in subst (λ (k : ℕ). heading_order (heading_of (at_place es k)) key ≡ Less) same e
  ];
  after = b.after;
}

pub down : (format : Format) (bytes : List ℕ) (es : List Entry) (key : List ℕ) (low high m : ℕ) → SpellsPostings format bytes es → Between es key low high → m < high → heading_order (heading_of (at_place es m)) key ≡ Greater → Between es key low m
down format bytes es key low high m p b lt e = record {
  within = omega (arith, b.within);
  before = b.before;
  after = λ i h g. elim (cases_lt m i) [
    | inl below ↦ back key (heading_of (at_place es i)) (nat_list_cmp_total.trans key (heading_of (at_place es m)) (heading_of (at_place es i)) (forth (heading_of (at_place es m)) key e) (p.ascend m i no_entry below g))
    | inr not ↦ let same : m ≡ i = omega arith in subst (λ (k : ℕ). heading_order (heading_of (at_place es k)) key ≡ Greater) same e
  ];
}

pub is_not_there : (es : List Entry) (key : List ℕ) (low high : ℕ) → Between es key low high → high ≤ low → HasNoHeading es key
is_not_there es key low high b le i h same =
    let tie : heading_order (heading_of (at_place es i)) key ≡ Equal = ap (λ (k : List ℕ). heading_order (heading_of (at_place es i)) k) (sym same) ∙ tied_itself nat_list_cmp_total (heading_of (at_place es i)) in
    elim (cases_lt i low) [
      | inl lt ↦ let bad = sym (b.before i lt) ∙ tie in cc
      | inr ge ↦ let bad = sym (b.after i (omega arith) h) ∙ tie in cc
    ]

-- bytes spell as many entries in each format
pub same_size : (bytes : List ℕ) (format other : Format) (es fs : List Entry) → SpellsPostings format bytes es → SpellsPostings other bytes fs → length es ≡ length fs
same_size bytes format other es fs p q = sym (length-map es (entry format)) ∙ sym (table_count bytes (map (entry format) es) p.table) ∙ table_count bytes (map (entry other) fs) q.table ∙ length-map fs (entry other)

pub keys_alike : (f g : ℕ) (a b : List ℕ) (field : ℕ) (term : List ℕ) → f ≡ g → a ≡ b → heading_order (f ∷ a) (field ∷ term) ≡ heading_order (g ∷ b) (field ∷ term)
keys_alike f g a b field term e h = ap (λ (k : List ℕ). heading_order k (field ∷ term)) (cons_from f g a b e h)

pub rows_after : (format : Format) (rest : List ℕ) (e : Entry) (term after : List ℕ) → IsFileEntry format e → rest ≡ string e.1.0 ++ hits format e.0 e.1.1 → ◌≡◌ {A = Read (List ℕ)} (Some (term, after)) (term_at rest) → after ≡ hits format e.0 e.1.1
rows_after format rest e term after fit same r = let q = read_is term e.1.0 after (hits format e.0 e.1.1) (r ∙ ap term_at same ∙ term_second format e fit) in q.1

-- ---- an entry by its field and its term

pub not_among : (es : List Entry) (field : ℕ) (term : List ℕ) → HasNoHeading es (field ∷ term) → HasNoEntry es field term
not_among es field term never hits x = never x.0 x.1 (ap heading_of (get_or_default es x.0 no_entry (field, (term, hits)) x.1 ∙ x.2))

same_parts : (f g : ℕ) (s t : List ℕ) (hs ks : List Hit) → f ∷ s ≡ g ∷ t → ks ≡ hs → ◌≡◌ {A = Entry} (f, (s, hs)) (g, (t, ks))
same_parts f g s t hs ks e h = cc

pub among : (es : List Entry) (field : ℕ) (term : List ℕ) (hits : List Hit) (i : ℕ) → i < length es → heading_of (at_place es i) ≡ field ∷ term → hits ≡ hits_of (at_place es i) → HasEntry es field term hits
among es field term hits i lt e h =
    (i, lt, get_or_default es i (field, (term, hits)) no_entry lt ∙ same_parts (field_of (at_place es i)) field (term_of (at_place es i)) term (hits_of (at_place es i)) hits e h)

pub found_fit : (format : Format) (es : List Entry) (field : ℕ) (term : List ℕ) (hits : List Hit) (i : ℕ) → heading_of (at_place es i) ≡ field ∷ term → hits ≡ hits_of (at_place es i) → IsFileEntry format (at_place es i) → HitsFit field hits
found_fit format es field term hits i e h fit =
    subst (HitsFit field) (sym h) (subst (λ (f : ℕ). HitsFit f (hits_of (at_place es i))) (cons_first (field_of (at_place es i)) field (term_of (at_place es i)) term e) fit.hits_fit)

-- an entry by its parts
pub same_entry : (e : Entry) (field : ℕ) (term : List ℕ) (hits : List Hit) → field ≡ field_of e → term ≡ term_of e → hits ≡ hits_of e → ◌≡◌ {A = Entry} (field, (term, hits)) e
same_entry e field term hits f t h = λ i. (f i, (t i, h i))
