-- The offsets and the area of a table, as items are added.
use Rattle.std.proofs.Common.{◌≡◌, ℕ, ◌^◌, ◌<◌, List, [], ◌∷◌, ◌++◌, length, refl, sym, ap, ◌∙◌, arith}
use Rattle.std.proofs.lemmas.List.{length-append}
use Rattle.body_forms.specs.Numbers.{u32_bytes}
use Rattle.body_forms.specs.ItemTable.{concat}
use Rattle.body_forms.specs.TableParts.{ArePartsOf}
use Rattle.body_forms.proofs.TableTests.{concat-append, offsets_more, offsets_none}

-- nothing is written but where the first item starts
pub parts_none : (offsets : List ℕ) → offsets ≡ [] ++ u32_bytes 0 → ArePartsOf [] offsets []
parts_none offsets e = record { offsets_are = e ∙ offsets_none; area_is = refl; small = omega arith }

-- one item more stands in the area, and where it ends in the offsets
pub parts_more : (items : List (List ℕ)) (item offsets area more_offsets more_area : List ℕ) → ArePartsOf items offsets area → more_area ≡ area ++ item → length more_area < 2 ^ 32
    → more_offsets ≡ offsets ++ u32_bytes (length more_area) → ArePartsOf (items ++ item ∷ []) more_offsets more_area
parts_more items item offsets area more_offsets more_area parts e small f =
    let whole : more_area ≡ concat items ++ item = e ∙ ap (λ (x : List ℕ). x ++ item) parts.area_is in
    record {
      offsets_are = f ∙ ap (λ (x : List ℕ). x ++ u32_bytes (length more_area)) parts.offsets_are ∙ offsets_more items item (length more_area) (ap length whole ∙ length-append (concat items) item);
      area_is = whole ∙ sym (concat-append items item);
      small = small;
    }
