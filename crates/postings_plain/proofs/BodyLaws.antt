-- The entries that a body spells are those that are read from it.
use Rattle.std.proofs.Common.{◌≡◌, ℕ, suc, ◌<◌, List, [], ◌∷◌, length, map, Some, None, refl, sym, ap, subst, ◌∙◌, arith}
use Rattle.std.proofs.lemmas.List.{append-nil}
use Rattle.body_forms.specs.Format.{Read}
use Rattle.nrt_base.proofs.Plain.{cons_from}
use Rattle.postings_plain.specs.declared.format.Format.{Format}
use Rattle.postings_plain.specs.Postings.{Hit, Entry, hits, entry, IsFileEntry}
use Rattle.postings_plain.specs.Body.{SpellsPostings}
use Rattle.postings_plain.specs.Reading.{rows_of_term_at, hits_at, entry_at, no_entry, at_place, entry_or_none, entry_in, entries_in}
use Rattle.body_forms.specs.Numbers.{positive_at}
use Rattle.body_forms.proofs.TableTests.{items_in-is}
use Rattle.body_forms.proofs.Formats.{bind_some, read_is}
use Rattle.postings_plain.proofs.EntryLaws.{entry_format, hits_format}

pub read_entry : (format : Format) (e : Entry) → IsFileEntry format e → entry_in format (entry format e) ≡ e
read_entry format e fit = ap entry_or_none (ap (entry_at format) (sym (append-nil (entry format e))) ∙ (entry_format format).again e [] fit)

entries_back : (format : Format) (es : List Entry) → ((i : ℕ) → i < length es → IsFileEntry format (at_place es i)) → map (entry_in format) (map (entry format) es) ≡ es
entries_back format [] h = refl
entries_back format (e ∷ es) h = cons_from _ _ _ _ (read_entry format e (h 0 (omega arith))) (entries_back format es (λ i lt. h (suc i) (omega arith)))

pub entries_in-is : (format : Format) (bytes : List ℕ) (es : List Entry) → SpellsPostings format bytes es → entries_in format bytes ≡ es
unfolding entries_in
entries_in-is format bytes es p = ap (map (entry_in format)) (items_in-is bytes (map (entry format) es) p.table) ∙ entries_back format es (λ i h. p.fit i no_entry h)

pub one_list : (format : Format) (body : List ℕ) (es others : List Entry) → SpellsPostings format body es → SpellsPostings format body others → es ≡ others
one_list format body es others s t = sym (entries_in-is format body es s) ∙ entries_in-is format body others t

pub one_body : (format : Format) (a b : List ℕ) (es : List Entry) → SpellsPostings format a es → SpellsPostings format b es → a ≡ b
one_body format a b es s t = s.table.whole ∙ sym t.table.whole

-- the rows of an entry, as a cursor begins on them
pub record Begins (format : Format) (field : ℕ) (bytes : List ℕ) (hs : List Hit) : Type 0 where
  pub count : ℕ
  pub rest : List ℕ
  pub counted : positive_at bytes ≡ Some (count, rest)
  pub read : rows_of_term_at format field count rest ≡ Some (hs, [])

pub begins : (format : Format) (e : Entry) → IsFileEntry format e → Begins format e.0 (hits format e.0 e.1.1) e.1.1
begins format e fit =
    let whole : hits_at format e.0 (hits format e.0 e.1.1) ≡ Some (e.1.1, []) = ap (hits_at format e.0) (sym (append-nil (hits format e.0 e.1.1))) ∙ (hits_format format e.0).again e.1.1 [] (fit.hits_fit, fit.skips_fit) in
    let f = bind_some (positive_at (hits format e.0 e.1.1)) (λ n. rows_of_term_at format e.0 n.0 n.1) (e.1.1, []) whole in
    record { count = f.0.0; rest = f.0.1; counted = f.1; read = f.2 }

pub rows_are_there : (format : Format) (rest : List ℕ) (e : Entry) → IsFileEntry format e → rest ≡ hits format e.0 e.1.1 → ◌≡◌ {A = Read ℕ} None (positive_at rest) → ⊥
rows_are_there format rest e fit same r = let b = begins format e fit in let bad = r ∙ ap positive_at same ∙ b.counted in cc

pub rows_read : (format : Format) (rest after : List ℕ) (e : Entry) (field count : ℕ) → IsFileEntry format e → field ≡ e.0 → rest ≡ hits format e.0 e.1.1 → ◌≡◌ {A = Read ℕ} (Some (count, after)) (positive_at rest)
    → rows_of_term_at format field count after ≡ Some (e.1.1, [])
rows_read format rest after e field count fit f same r =
    let b = begins format e fit in
    let q = read_is count b.count after b.rest (r ∙ ap positive_at same ∙ b.counted) in
    ap (λ (k : ℕ). rows_of_term_at format k count after) f ∙ ap (λ (n : ℕ). rows_of_term_at format e.0 n after) q.0 ∙ ap (rows_of_term_at format e.0 b.count) q.1 ∙ b.read

pub reads_as_itself : (format : Format) (bytes : List ℕ) (es : List Entry) → SpellsPostings format bytes es → SpellsPostings format bytes (entries_in format bytes)
reads_as_itself format bytes es p = subst (SpellsPostings format bytes) (sym (entries_in-is format bytes es p)) p
