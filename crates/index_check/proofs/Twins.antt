-- Live rows, and the first of them that has the key of one before it.
use Rattle.std.proofs.Common.{◌≡◌, ℕ, suc, ◌+◌, ◌<◌, ◌≤◌, Bool, true, false, cond, List, [], ◌∷◌, ◌++◌, length, get_or, take, drop, refl, sym, ap, subst, ◌∙◌, arith, inl, inr, true≢false}
use Rattle.std.specs.Prelude.{◌≢◌, ◌||◌, not}
use Rattle.std.specs.Str.{bytes_eq}
use Rattle.std.specs.List.{AllPairs, Contains, list_any, IsDistinct}
use Rattle.std.specs.BTreeMap.{is_at}
use Rattle.std.specs.BTreeSet.{BTreeSet, contains}
use Rattle.std.specs.Cmp.Lexicographic.{nat_list_eq_equiv}
use Rattle.std.proofs.lemmas.Map.Text.{is_eq-slice_cmp}
use Rattle.std.proofs.lemmas.Map.Keys.{IsDistinct-push, apart_from_distinct}
use Rattle.std.proofs.lemmas.Slice.Eq.{bytes_eq-Decides}
use Rattle.std.proofs.lemmas.List.{drop_more, take_more, take_all, take-append-drop, get_or_append_left}
use Rattle.std.proofs.lemmas.List.Folds.{list_any-append}
use Rattle.std.proofs.lemmas.Bool.{cases_order}
use Rattle.documents.specs.Documents.{key_cmp}
use Rattle.nrt_base.proofs.Plain.{cons_parts}
use Rattle.index_check.specs.declared.rows.LiveRow.{LiveRow}
use Rattle.index_check.specs.Rows.{keys_of, HaveOwnKeys, IsFirstTwin}

-- ---- lists
get_or-middle : {X : Type 0} (xs : List X) (y : X) (ys : List X) (d : X) → get_or (xs ++ y ∷ ys) (length xs) d ≡ y
get_or-middle [] y ys d = refl
get_or-middle (x ∷ xs) y ys d = get_or-middle xs y ys d

length-more : {X : Type 0} (xs : List X) (y : X) (ys : List X) → length xs < length (xs ++ y ∷ ys)
length-more [] y ys = omega arith
length-more (x ∷ xs) y ys = omega (arith, length-more xs y ys)

keys-append : (xs ys : List LiveRow) → keys_of (xs ++ ys) ≡ keys_of xs ++ keys_of ys
keys-append [] ys = refl
keys-append (x ∷ xs) ys = ap (λ (ks : List (List ℕ)). x.doc.key ∷ ks) (keys-append xs ys)

begins_with : {X : Type 0} (x z : List X) (a : X) (y w : List X) → x ++ a ∷ y ≡ z ++ w → length x < length z → (r : List X) × (z ≡ x ++ a ∷ r)
begins_with [] [] a y w e lt = absurd (omega (arith, lt))
begins_with {X} [] (c ∷ z) a y w e lt = let p = cons_parts a c y (z ++ w) e in (z, ap (λ (b : X). b ∷ z) (sym p.0))
begins_with (b ∷ x) [] a y w e lt = absurd (omega (arith, lt))
begins_with {X} (b ∷ x) (c ∷ z) a y w e lt =
    let p = cons_parts b c (x ++ a ∷ y) (z ++ w) e in
    let q = begins_with x z a y w p.1 (omega (arith, lt)) in
    (q.0, ap (λ (k : X). k ∷ z) (sym p.0) ∙ ap (λ (k : List X). b ∷ k) q.1)

same_place : {X : Type 0} (x z : List X) (a b : X) (y w : List X) → x ++ a ∷ y ≡ z ++ b ∷ w → length x ≡ length z → a ≡ b
same_place [] [] a b y w e len = (cons_parts a b y w e).0
same_place [] (c ∷ z) a b y w e len = absurd (omega (arith, len))
same_place (k ∷ x) [] a b y w e len = absurd (omega (arith, len))
same_place (k ∷ x) (c ∷ z) a b y w e len = same_place x z a b y w (cons_parts k c (x ++ a ∷ y) (z ++ b ∷ w) e).1 (omega (arith, len))

-- ---- the first twin is one
pub twin_not_own : (rows : List LiveRow) (twin : LiveRow) → IsFirstTwin rows twin → HaveOwnKeys rows → ⊥
twin_not_own rows twin h own =
    let ks = keys_of h.before in
    let key = twin.doc.key in
    let rest = keys_of h.after in
    let k = h.again.0 in
    let whole : keys_of rows ≡ ks ++ key ∷ rest = ap keys_of h.parts ∙ keys-append h.before (twin ∷ h.after) in
    let apart : AllPairs (λ (a b : List ℕ). a ≢ b) (ks ++ key ∷ rest) = subst (AllPairs (λ (a b : List ℕ). a ≢ b)) whole own in
    apart k (length ks) key h.again.1 (length-more ks key rest) (get_or_append_left ks (key ∷ rest) key k h.again.1 ∙ h.again.2 ∙ sym (get_or-middle ks key rest key))

not_before : (rows : List LiveRow) (a b : LiveRow) (x : IsFirstTwin rows a) (y : IsFirstTwin rows b) → length x.before < length y.before → ⊥
not_before rows a b x y lt =
    let s = begins_with x.before y.before a x.after (b ∷ y.after) (sym x.parts ∙ y.parts) lt in
    twin_not_own y.before a (record { before = x.before; after = s.0; parts = s.1; own = x.own; again = x.again }) y.own

pub one_twin : (rows : List LiveRow) (a b : LiveRow) → IsFirstTwin rows a → IsFirstTwin rows b → a ≡ b
one_twin rows a b x y =
    elim (cases_order (length x.before) (length y.before)) [
      | inl same ↦ same_place x.before y.before a b x.after y.after (sym x.parts ∙ y.parts) same
      | inr rest ↦ elim rest [ inl less ↦ absurd (not_before rows a b x y less) | inr more ↦ absurd (not_before rows b a y x more) ]
    ]

-- ---- the set of the keys that were seen
-- of the first i rows no two have one key, and the set has their keys
pub record HaveSeen (rows : List LiveRow) (i : ℕ) (known : BTreeSet (List ℕ)) : Type 0 where
  pub own : IsDistinct bytes_eq (keys_of (take i rows))
  pub known_are : (q : List ℕ) → contains key_cmp known q ≡ list_any (bytes_eq q) (keys_of (take i rows))

take_none : (rows : List LiveRow) → take 0 rows ≡ []
take_none [] = refl
take_none (r ∷ rows) = refl

pub seen_none : (rows : List LiveRow) (known : BTreeSet (List ℕ)) → known.keys ≡ [] → HaveSeen rows 0 known
unfolding IsDistinct
seen_none rows known e = record {
  own = subst (λ (rs : List LiveRow). IsDistinct bytes_eq (keys_of rs)) (sym (take_none rows)) tt;
  known_are = λ q. ap (list_any (is_at (key_cmp q))) e ∙ sym (ap (λ (rs : List LiveRow). list_any (bytes_eq q) (keys_of rs)) (take_none rows));
}

one_more : (rows : List LiveRow) (i : ℕ) (row : LiveRow) → i < length rows → row ≡ get_or rows i row → keys_of (take (i + 1) rows) ≡ keys_of (take i rows) ++ row.doc.key ∷ []
one_more rows i row lt is = ap keys_of (take_more rows i row lt ∙ ap (λ (r : LiveRow). take i rows ++ r ∷ []) (sym is)) ∙ keys-append (take i rows) (row ∷ [])

same_either : (a b : Bool) → cond a true b ≡ (b || (a || false))
same_either true true = refl
same_either true false = refl
same_either false true = refl
same_either false false = refl

found : (q : List ℕ) (ks : List (List ℕ)) → list_any (bytes_eq q) ks ≡ true → Contains ks q
found q [] e = absurd (true≢false (sym e))
found q (k ∷ ks) e = by (bytes_eq q k) refl (found q ks)
  where
    by : (b : Bool) → bytes_eq q k ≡ b → (list_any (bytes_eq q) ks ≡ true → Contains ks q) → Contains (k ∷ ks) q
    by true f rest = (0, omega arith, sym ((bytes_eq-Decides q k).0 f))
    by false f rest = let there = rest (sym (ap (λ (b : Bool). b || list_any (bytes_eq q) ks) f) ∙ e) in (suc there.0, omega (arith, there.1), there.2)

module _ (rows : List LiveRow) (i : ℕ) (row : LiveRow) (lt : i < length rows) (is : row ≡ get_or rows i row) (key : List ℕ) (key_is : key ≡ row.doc.key) (known : BTreeSet (List ℕ)) (h : HaveSeen rows i known) where
  pub seen_more : (added : Bool) (more : BTreeSet (List ℕ)) → added ≡ not (contains key_cmp known key) → added ≡ true → ((q : List ℕ) → contains key_cmp more q ≡ cond (is_at (key_cmp key) q) true (contains key_cmp known q))
      → HaveSeen rows (i + 1) more
  seen_more added more told new updates =
      let seen = keys_of (take i rows) in
      let grown = one_more rows i row lt is in
      let fresh : list_any (bytes_eq row.doc.key) seen ≡ false =
      ap (λ (k : List ℕ). list_any (bytes_eq k) seen) (sym key_is) ∙ sym (h.known_are key) ∙ was_false (contains key_cmp known key) (sym told ∙ new) in
      record {
        own = subst (IsDistinct bytes_eq) (sym grown) (IsDistinct-push nat_list_eq_equiv seen row.doc.key h.own fresh);
        known_are = λ q.
            updates q ∙ ap (λ (b : Bool). cond b true (contains key_cmp known q)) (is_eq-slice_cmp key q ∙ nat_list_eq_equiv.symm key q ∙ ap (bytes_eq q) key_is)
            ∙ ap (λ (b : Bool). cond (bytes_eq q row.doc.key) true b) (h.known_are q) ∙ same_either (bytes_eq q row.doc.key) (list_any (bytes_eq q) seen)
            ∙ sym (list_any-append (bytes_eq q) seen (row.doc.key ∷ [])) ∙ sym (ap (list_any (bytes_eq q)) grown);
      }
    where
      was_false : (b : Bool) → not b ≡ true → b ≡ false
      was_false true e = absurd (true≢false (sym e))
      was_false false e = refl

  pub is_twin : (added : Bool) → added ≡ not (contains key_cmp known key) → added ≡ false → IsFirstTwin rows row
  is_twin added told old =
      let seen = keys_of (take i rows) in
      let there : list_any (bytes_eq row.doc.key) seen ≡ true =
      ap (λ (k : List ℕ). list_any (bytes_eq k) seen) (sym key_is) ∙ sym (h.known_are key) ∙ was_true (contains key_cmp known key) (sym told ∙ old) in
      record {
        before = take i rows;
        after = drop (i + 1) rows;
        parts = sym (take-append-drop i rows) ∙ ap (λ (rs : List LiveRow). take i rows ++ rs) (drop_more rows i row lt ∙ ap (λ (r : LiveRow). r ∷ drop (i + 1) rows) (sym is));
        own = own_keys (take i rows) h.own;
        again = found row.doc.key seen there;
      }
    where
      was_true : (b : Bool) → not b ≡ false → b ≡ true
      was_true true e = refl
      was_true false e = absurd (true≢false e)

      own_keys : (rs : List LiveRow) → IsDistinct bytes_eq (keys_of rs) → HaveOwnKeys rs
      own_keys rs own a b d less within same = true≢false (sym ((bytes_eq-Decides (get_or (keys_of rs) a d) (get_or (keys_of rs) b d)).1 same) ∙ apart_from_distinct bytes_eq (keys_of rs) a b d own less within)

pub all_own : (rows : List LiveRow) (i : ℕ) (known : BTreeSet (List ℕ)) → length rows ≤ i → HaveSeen rows i known → HaveOwnKeys rows
all_own rows i known le h a b d less within same =
    let own : IsDistinct bytes_eq (keys_of rows) = subst (λ (rs : List LiveRow). IsDistinct bytes_eq (keys_of rs)) (take_all i rows le) h.own in
    true≢false (sym ((bytes_eq-Decides (get_or (keys_of rows) a d) (get_or (keys_of rows) b d)).1 same) ∙ apart_from_distinct bytes_eq (keys_of rows) a b d own less within)
