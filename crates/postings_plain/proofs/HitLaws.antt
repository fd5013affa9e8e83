-- The laws of hits, from those of their parts.
use Rattle.std.proofs.Common.{◌≡◌, ℕ, zero, suc, ◌+◌, ◌<◌, ◌≤◌, List, [], ◌∷◌, ◌++◌, length, get_or, Some, refl, sym, ap, subst, ◌∙◌, append_assoc, arith}
use Rattle.codec_frame.specs.Bytes.{AreBytes}
use Rattle.body_forms.specs.Format.{IsFormat}
use Rattle.body_forms.specs.Numbers.{difference, MayCome, difference_at}
use Rattle.body_forms.proofs.Formats.{read_is, then_format, chain_format}
use Rattle.body_forms.proofs.NumberLaws.{difference_format, ascending_format}
use Rattle.postings_plain.specs.Postings.{Hit, row_of, positions, PositionsFit, hit, HitFits, above_hit, hits_from, HitsFitFrom, last_row}
use Rattle.postings_plain.specs.Reading.{positions_at, hit_at, counted_from_at, end_after}

pub positions_format : (field : ℕ) → IsFormat (positions field) (PositionsFit field) (positions_at field)
positions_format zero = record {
  again = λ xs rest h. ap (λ (z : List ℕ). Some (z, rest)) (sym h);
  takes = λ bytes xs rest fits e.
      let q = read_is [] xs bytes rest e in
      (record { parts = q.1; rest_fits = subst AreBytes q.1 fits }, sym q.0);
}
positions_format (suc n) = ascending_format

pub hit_format : (field k : ℕ) → IsFormat (hit field k) (HitFits field k) (hit_at field k)
hit_format field k = then_format (difference k) (MayCome k) (difference_at k) (λ _. positions field) (λ _. PositionsFit field) (λ _. positions_at field) (difference_format k) (λ _ _. positions_format field)

-- so many hits, whose rows are k or above
pub rows_format : (field n k : ℕ) → IsFormat (hits_from field k) (λ hs. (length hs ≡ n) × HitsFitFrom field k hs) (counted_from_at field n k)
rows_format field n k = chain_format (hit field) (HitFits field) (hit_at field) above_hit (hit_format field) n k

-- ---- hits, then others

pub hits_from-append : (field k : ℕ) (front others : List Hit) → hits_from field k (front ++ others) ≡ hits_from field k front ++ hits_from field (end_after k front) others
hits_from-append field k [] others = refl
hits_from-append field k (h ∷ front) others =
    ap (λ (t : List ℕ). hit field k h ++ t) (hits_from-append field (above_hit h) front others) ∙ sym (append_assoc (hit field k h) (hits_from field (above_hit h) front) (hits_from field (end_after (above_hit h) front) others))

pub fits-append : (field k : ℕ) (front others : List Hit) → HitsFitFrom field k front → HitsFitFrom field (end_after k front) others → HitsFitFrom field k (front ++ others)
fits-append field k [] others a b = b
fits-append field k (h ∷ front) others a b = (a.0, fits-append field (above_hit h) front others a.1 b)

pub fits_parts : (field k : ℕ) (front others : List Hit) → HitsFitFrom field k (front ++ others) → HitsFitFrom field k front × HitsFitFrom field (end_after k front) others
fits_parts field k [] others a = (tt, a)
fits_parts field k (h ∷ front) others a = let p = fits_parts field (above_hit h) front others a.1 in ((a.0, p.0), p.1)

pub end_after-append : (k : ℕ) (front others : List Hit) → end_after k (front ++ others) ≡ end_after (end_after k front) others
end_after-append k [] others = refl
end_after-append k (h ∷ front) others = end_after-append (above_hit h) front others

pub end_after-last_row : (k : ℕ) (hs : List Hit) → 0 < length hs → end_after k hs ≡ last_row hs + 1
end_after-last_row k [] pos = absurd (omega arith)
end_after-last_row k (h ∷ []) pos = refl
end_after-last_row k (h ∷ g ∷ hs) pos = end_after-last_row (above_hit h) (g ∷ hs) (omega arith)

-- ---- where hits end

pub end_not_below : (field k : ℕ) (hs : List Hit) → HitsFitFrom field k hs → k ≤ end_after k hs
end_not_below field k [] fit = omega arith
end_not_below field k (h ∷ hs) fit = omega (arith, end_not_below field (above_hit h) hs fit.1, fit.0.0.0)

pub end_above : (field k : ℕ) (hs : List Hit) → 0 < length hs → HitsFitFrom field k hs → k < end_after k hs
end_above field k [] pos fit = absurd (omega arith)
end_above field k (h ∷ hs) pos fit = omega (arith, end_not_below field (above_hit h) hs fit.1, fit.0.0.0)

pub all_below : (field k : ℕ) (hs : List Hit) → HitsFitFrom field k hs → (i : ℕ) (d : Hit) → i < length hs → row_of (get_or hs i d) < end_after k hs
all_below field k [] fit i d lt = absurd (omega arith)
all_below field k (h ∷ hs) fit zero d lt = omega (arith, end_not_below field (above_hit h) hs fit.1)
all_below field k (h ∷ hs) fit (suc i) d lt = all_below field (above_hit h) hs fit.1 i d (omega arith)
