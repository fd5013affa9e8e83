-- What has been written of a table of documents.
use Rattle.std.proofs.Common.{◌≡◌, ℕ, ◌+◌, ◌^◌, ◌<◌, ◌≤◌, List, [], ◌∷◌, ◌++◌, length, get_or, map, take, refl, sym, ap, subst, ◌∙◌, arith}
use Rattle.std.specs.List.{All}
use Rattle.std.proofs.lemmas.List.{take_all, map_more, length-map}
use Rattle.std.proofs.lemmas.List.Elements.{All-more}
use Rattle.nrt_base.specs.declared.doc.Doc.{Doc}
use Rattle.body_forms.specs.File.{AddsSpelling}
use Rattle.body_forms.specs.Numbers.{u32_bytes}
use Rattle.body_forms.specs.TableParts.{ArePartsOf, AddsTable}
use Rattle.body_forms.proofs.WritingTables.{parts_none, parts_more}
use Rattle.docs_plain.specs.Documents.{row, IsRow}
use Rattle.docs_plain.specs.Rows.{SpellsSmall}

-- the rows of the first n documents stand in the area, and where each ends in the offsets
pub record HasRows (docs : List Doc) (n : ℕ) (offsets area : List ℕ) : Type 0 where
  pub parts : ArePartsOf (map row (take n docs)) offsets area
  pub fit : All IsRow (take n docs)

none_taken : (docs : List Doc) → take 0 docs ≡ []
none_taken [] = refl
none_taken (doc ∷ docs) = refl

-- `seen` is the area as it is lent
pub rows_start : (docs : List Doc) (before offsets area seen : List ℕ) → before ≡ [] → area ≡ [] → seen ≡ area → offsets ≡ before ++ u32_bytes (length seen) → HasRows docs 0 offsets area
rows_start docs before offsets area seen n z v e =
    let first : offsets ≡ [] ++ u32_bytes 0 = e ∙ ap (λ (x : List ℕ). x ++ u32_bytes (length seen)) n ∙ ap (λ (x : List ℕ). [] ++ u32_bytes (length x)) (v ∙ z) in
    record {
      parts = subst (λ (x : List ℕ). ArePartsOf (map row (take 0 docs)) offsets x) (sym z) (subst (λ (x : List Doc). ArePartsOf (map row x) offsets []) (sym (none_taken docs)) (parts_none offsets first));
      fit = subst (All IsRow) (sym (none_taken docs)) (λ k d lt. absurd (omega arith));
    }

pub rows_next : (docs : List Doc) (n : ℕ) (offsets area : List ℕ) (doc : Doc) (more_offsets more_area seen : List ℕ) → n < length docs → doc ≡ get_or docs n doc → IsRow doc → HasRows docs n offsets area
    → more_area ≡ area ++ row doc → seen ≡ more_area → length seen < 2 ^ 32 → more_offsets ≡ offsets ++ u32_bytes (length seen) → HasRows docs (n + 1) more_offsets more_area
rows_next docs n offsets area doc more_offsets more_area seen lt is fits h e v small f =
    let items = map row (take n docs) in
    let same : map row (take (n + 1) docs) ≡ items ++ row doc ∷ [] = map_more row docs n doc lt ∙ ap (λ (d : Doc). items ++ row d ∷ []) (sym is) in
    let fewer : length more_area < 2 ^ 32 = subst (λ (x : List ℕ). length x < 2 ^ 32) v small in
    let end : more_offsets ≡ offsets ++ u32_bytes (length more_area) = f ∙ ap (λ (x : List ℕ). offsets ++ u32_bytes (length x)) v in
    record {
      parts = subst (λ (x : List (List ℕ)). ArePartsOf x more_offsets more_area) (sym same) (parts_more items (row doc) offsets area more_offsets more_area h.parts e fewer end);
      fit = All-more IsRow docs n doc lt h.fit (subst IsRow is fits);
    }

-- the table of all rows is a body of the documents
pub rows_end : (docs : List Doc) (n count : ℕ) (offsets area offsets_seen area_seen old new : List ℕ) → 0 < length docs → count ≡ length docs → length docs ≤ n → HasRows docs n offsets area
    → offsets_seen ≡ offsets → area_seen ≡ area → AddsTable count offsets_seen area_seen old new → AddsSpelling SpellsSmall docs old new
rows_end docs n count offsets area offsets_seen area_seen old new pos same le h v w adds =
    let all = take_all n docs le in
    let parts : ArePartsOf (map row docs) offsets area = subst (λ (x : List Doc). ArePartsOf (map row x) offsets area) all h.parts in
    let seen = subst (λ (x : List ℕ). ArePartsOf (map row docs) x area_seen) (sym v) (subst (λ (x : List ℕ). ArePartsOf (map row docs) offsets x) (sym w) parts) in
    let t = adds (map row docs) (omega (arith, length-map docs row)) seen in
    record {
      body = t.table;
      added = t.added;
      spelled = record { spelled = record { some = pos; fit = subst (All IsRow) all h.fit; table = t.is_table }; small = t.small };
    }
