-- The numbers in the files and those of the record: all agree, or one is the first that differs.
use Rattle.std.proofs.Common.{◌≡◌, ℕ, Bool, true, false, cond, List, [], ◌∷◌, length, Option, Some, None, refl, sym, ap, ◌∙◌, arith}
use Rattle.std.specs.Prelude.{◌==◌, not}
use Rattle.std.specs.List.{find}
use Rattle.std.proofs.lemmas.Bool.Decides.{nat_tests}
use Rattle.live_bits.specs.LiveRows.{live_rows}
use Rattle.segment_infos.specs.declared.infos.SegRecord.{SegRecord}
use Rattle.postings_plain.specs.Postings.{format_number}
use Rattle.seg_reader.specs.declared.parts.SegFile.{SegFile}
use Rattle.seg_reader.specs.declared.parts.SegFile.TheVariants.{Docs, Post, Info, Live}
use Rattle.seg_reader.specs.declared.reading.Contents.{Contents}
use Rattle.seg_reader.specs.Faults.{Number, number, differs, live_numbers, numbers_of}

-- the numbers of the live file are the record's, where there is one
abbrev pub LiveAgrees : SegRecord → Option (List Bool) → Type 0
LiveAgrees r None = Unit {0}
LiveAgrees r (Some live) = (r.rows ≡ length live) × (r.live ≡ live_rows live)

-- all numbers are the record's
pub record Agree (r : SegRecord) (contents : Contents) : Type 0 where
  pub docs : r.rows ≡ length contents.docs
  pub post : r.rows ≡ contents.post_rows
  pub format : contents.info.format ≡ format_number contents.post.format
  pub seg : r.seg.0 ≡ contents.info.seg.0
  pub rows : r.rows ≡ contents.info.rows
  pub live : LiveAgrees r contents.live

agrees : (a b : ℕ) → a ≡ b → not (a == b) ≡ false
agrees a b e = grind (arith, nat_tests)

equal_if : (a b : ℕ) → not (a == b) ≡ false → a ≡ b
equal_if a b e = grind (arith, nat_tests)

past : (t : Bool) (n : Number) (rest : Option Number) → cond t (Some n) rest ≡ None → (t ≡ false) × (rest ≡ None)
past true n rest e = absurd cc
past false n rest e = (refl, e)

none_differs : (part : SegFile) (a b : ℕ) (rest : List Number) → find differs (number part a b ∷ rest) ≡ None → (a ≡ b) × (find differs rest ≡ None)
none_differs part a b rest e = let p = past (not (a == b)) (number part a b) (find differs rest) e in (equal_if a b p.0, p.1)

goes_on : (part : SegFile) (a b : ℕ) (rest : List Number) → a ≡ b → find differs rest ≡ None → find differs (number part a b ∷ rest) ≡ None
goes_on part a b rest e h = ap (λ (t : Bool). cond t (Some (number part a b)) (find differs rest)) (agrees a b e) ∙ h

live_agrees : (r : SegRecord) (live : Option (List Bool)) → find differs (live_numbers r live) ≡ None → LiveAgrees r live
live_agrees r None e = tt
live_agrees r (Some live) e =
    let rows = none_differs Live r.rows (length live) (number Live r.live (live_rows live) ∷ []) e in
    let lives = none_differs Live r.live (live_rows live) [] rows.1 in
    (rows.0, lives.0)

no_live_differs : (r : SegRecord) (live : Option (List Bool)) → LiveAgrees r live → find differs (live_numbers r live) ≡ None
no_live_differs r None k = refl
no_live_differs r (Some live) k = goes_on Live r.rows (length live) (number Live r.live (live_rows live) ∷ []) k.0 (goes_on Live r.live (live_rows live) [] k.1 refl)

pub agree : (r : SegRecord) (contents : Contents) → find differs (numbers_of r contents) ≡ None → Agree r contents
agree r contents e =
    let version = format_number contents.post.format in
    let a = none_differs Docs r.rows (length contents.docs)
    (number Post r.rows contents.post_rows ∷ number Post contents.info.format version ∷ number Info r.seg.0 contents.info.seg.0 ∷ number Info r.rows contents.info.rows ∷ live_numbers r contents.live) e in
    let b = none_differs Post r.rows contents.post_rows (number Post contents.info.format version ∷ number Info r.seg.0 contents.info.seg.0 ∷ number Info r.rows contents.info.rows ∷ live_numbers r contents.live) a.1 in
    let f = none_differs Post contents.info.format version (number Info r.seg.0 contents.info.seg.0 ∷ number Info r.rows contents.info.rows ∷ live_numbers r contents.live) b.1 in
    let c = none_differs Info r.seg.0 contents.info.seg.0 (number Info r.rows contents.info.rows ∷ live_numbers r contents.live) f.1 in
    let d = none_differs Info r.rows contents.info.rows (live_numbers r contents.live) c.1 in
    record { docs = a.0; post = b.0; format = f.0; seg = c.0; rows = d.0; live = live_agrees r contents.live d.1 }

pub agreeing : (r : SegRecord) (contents : Contents) → Agree r contents → find differs (numbers_of r contents) ≡ None
agreeing r contents k =
    let version = format_number contents.post.format in
    goes_on Docs r.rows (length contents.docs) (number Post r.rows contents.post_rows ∷ number Post contents.info.format version ∷ number Info r.seg.0 contents.info.seg.0 ∷ number Info r.rows contents.info.rows ∷ live_numbers r contents.live) k.docs
    (goes_on Post r.rows contents.post_rows (number Post contents.info.format version ∷ number Info r.seg.0 contents.info.seg.0 ∷ number Info r.rows contents.info.rows ∷ live_numbers r contents.live) k.post
    (goes_on Post contents.info.format version (number Info r.seg.0 contents.info.seg.0 ∷ number Info r.rows contents.info.rows ∷ live_numbers r contents.live) k.format
    (goes_on Info r.seg.0 contents.info.seg.0 (number Info r.rows contents.info.rows ∷ live_numbers r contents.live) k.seg
    (goes_on Info r.rows contents.info.rows (live_numbers r contents.live) k.rows (no_live_differs r contents.live k.live)))))
