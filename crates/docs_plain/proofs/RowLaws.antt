-- Rows of stored documents, read and written.
use Rattle.std.proofs.Common.{◌≡◌, ℕ, ◌^◌, ◌<◌, ◌≤◌, Bool, true, false, List, length, Some, None, sym, ap, ◌∙◌, arith}
use Rattle.std.specs.Prelude.{IsTrue, ◌&&◌}
use Rattle.std.proofs.lemmas.Bool.{and_parts, and_from, leb-true}
use Rattle.nrt_base.specs.Bytes.{is_key, is_text}
use Rattle.nrt_base.specs.declared.doc.Doc.{Doc}
use Rattle.body_forms.specs.Given.{AreBytes}
use Rattle.body_forms.specs.Format.{Read, IsFormat}
use Rattle.body_forms.specs.Numbers.{string, string_at}
use Rattle.body_forms.proofs.Formats.{read_is, tested_format}
use Rattle.body_forms.proofs.Numerals.{string_format}
use Rattle.docs_plain.specs.Documents.{row, IsRow}
use Rattle.docs_plain.specs.Rows.{key_at, with_rest, doc_in, IsRowOfSome}

pub key_length : (key : List ℕ) → IsTrue (is_key key) → length key ≤ 64
key_length key h = let p = and_parts _ _ h in let q = and_parts _ _ p.0 in leb-true (length key) 64 q.1

pub key_format : IsFormat string (λ key. IsTrue (is_key key) × (length key < 2 ^ 32)) key_at
key_format = tested_format string (λ key. length key < 2 ^ 32) string_at is_key (λ key. IsTrue (is_key key)) string_format (λ key h. h) (λ key h. h)

string_first : (doc : Doc) → IsRow doc → string_at (row doc) ≡ Some (doc.key, doc.text)
string_first doc fit = string_format.again doc.key doc.text (omega (arith, key_length doc.key fit.key))

key_first : (doc : Doc) → IsRow doc → key_at (row doc) ≡ Some (doc.key, doc.text)
key_first doc fit = key_format.again doc.key doc.text (fit.key, omega (arith, key_length doc.key fit.key))

pub doc_in-is : (item : List ℕ) (doc : Doc) → IsRow doc → item ≡ row doc → doc_in item ≡ doc
doc_in-is item doc fit same = ap with_rest (ap key_at same ∙ key_first doc fit)

-- what is read of a row
pub parts_are : (item key text : List ℕ) (doc : Doc) → IsRow doc → item ≡ row doc → ◌≡◌ {A = Read (List ℕ)} (Some (key, text)) (string_at item) → (key ≡ doc.key) × (text ≡ doc.text)
parts_are item key text doc fit same r = read_is key doc.key text doc.text (r ∙ ap string_at same ∙ string_first doc fit)

pub string_is_there : (item : List ℕ) → IsRowOfSome item → ◌≡◌ {A = Read (List ℕ)} None (string_at item) → ⊥
string_is_there item x r = let bad = r ∙ ap string_at x.2 ∙ string_first x.0 x.1 in cc

pub no_row : (item : List ℕ) → ◌≡◌ {A = Read (List ℕ)} None (string_at item) → (IsTrue false → IsRowOfSome item) × (IsRowOfSome item → IsTrue false)
no_row item r = (λ h. absurd cc, λ x. absurd (string_is_there item x r))

pub row_test : (item key text : List ℕ) (b : Bool) → AreBytes item → ◌≡◌ {A = Read (List ℕ)} (Some (key, text)) (string_at item) → b ≡ (is_key key && is_text text)
    → (IsTrue b → IsRowOfSome item) × (IsRowOfSome item → IsTrue b)
row_test item key text b fits r e = (
  λ h. let p = and_parts (is_key key) (is_text text) (sym e ∙ h) in
      let t = string_format.takes item key text fits (sym r) in
      (record { key = key; text = text }, record { key = p.0; text = p.1 }, t.0.parts),
  λ x. let q = parts_are item key text x.0 x.1 x.2 r in
      e ∙ and_from (is_key key) (is_text text) (ap is_key q.0 ∙ x.1.key) (ap is_text q.1 ∙ x.1.text),
)

pub true_and : (a b c : Bool) → a ≡ true → c ≡ b → c ≡ (a && b)
true_and true b c h e = e
true_and false b c h e = absurd cc

pub false_and : (a b c : Bool) → a ≡ false → c ≡ false → c ≡ (a && b)
false_and true b c h e = absurd cc
false_and false b c h e = e
