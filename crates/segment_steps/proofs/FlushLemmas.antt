-- The work for a task is what its marks say.
use Rattle.std.proofs.Common.{◌≡◌, ℕ, ◌<◌, ◌↔◌, Bool, true, false, not, cond, List, [], ◌∷◌, length, map, Option, Some, None, IsSome, IsTrue, refl, sym, ap, subst, ◌∙◌, arith}
use Rattle.std.specs.Prelude.{◌==◌, ◌||◌}
use Rattle.std.specs.List.{list_any}
use Rattle.std.specs.Str.{bytes_eq}
use Rattle.std.specs.BTreeMap.{is_at}
use Rattle.std.specs.BTreeSet.{contains, BTreeSet}
use Rattle.std.proofs.lemmas.List.{length-map}
use Rattle.std.proofs.lemmas.Map.Text.{is_eq-slice_cmp}
use Rattle.nrt_base.specs.declared.doc.Doc.{Doc}
use Rattle.nrt_base.specs.declared.numbers.SegNo.{SegNo}
use Rattle.documents.specs.declared.operation.Op.{Op}
use Rattle.documents.specs.declared.operation.Op.TheVariants.{Put, Delete, Drop}
use Rattle.documents.specs.Documents.{key_cmp}
use Rattle.documents.specs.Words.{words_of}
use Rattle.documents.specs.Documents.{is_put}
use Rattle.live_bits.specs.LiveRows.{live_rows}
use Rattle.seg_merge.specs.Given.{Shown, SegFiles, live_of, record_of, IsBuilt}
use Rattle.live_bits.proofs.LiveCounts.{live_rows-cons}
use Rattle.segment_steps.specs.Cut.{puts_of, puts_live, has_key_of, has_word_of}
use Rattle.segment_steps.specs.Marks.{is_gone}
use Rattle.segment_steps.specs.declared.cut.Gone.{Gone}
use Rattle.segment_steps.specs.Segments.{live_change}
use Rattle.segment_steps.specs.Next.{IsNewOf}
use Rattle.segment_steps.proofs.Segments.{one_way}
use Rattle.segment_steps.proofs.CutRows.{same_any, none_any}
use Rattle.segment_steps.proofs.RowsLeft.{left_agree}

-- ---- the new segment

none_left : (dead : List Bool) → list_any not dead ≡ false → live_rows (live_of dead) ≡ 0
none_left [] e = refl
none_left (true ∷ dead) e = omega (arith, live_rows-cons false (live_of dead), none_left dead e)
none_left (false ∷ dead) e = absurd cc

some_left : (dead : List Bool) → list_any not dead ≡ true → 0 < live_rows (live_of dead)
some_left [] e = absurd cc
some_left (true ∷ dead) e = omega (arith, live_rows-cons false (live_of dead), some_left dead e)
some_left (false ∷ dead) e = omega (arith, live_rows-cons true (live_of dead))

pub none_live : (ops : List Op) (dead : List Bool) → live_of dead ≡ puts_live ops → list_any not dead ≡ false → live_rows (puts_live ops) ≡ 0
none_live ops dead marks e = sym (ap live_rows marks) ∙ none_left dead e

pub some_live : (ops : List Op) (dead : List Bool) → live_of dead ≡ puts_live ops → list_any not dead ≡ true → 0 < live_rows (puts_live ops)
some_live ops dead marks e = subst (λ (rows : List Bool). 0 < live_rows rows) marks (some_left dead e)

as_many : (ops : List Op) → length (puts_of ops) ≡ length (puts_live ops)
as_many [] = refl
as_many (Put doc ∷ ops) = omega (arith, as_many ops)
as_many (Delete key ∷ ops) = as_many ops
as_many (Drop word ∷ ops) = as_many ops

pub rows_marked : (ops : List Op) (dead : List Bool) (docs : List Doc) (n : ℕ) → live_of dead ≡ puts_live ops → docs ≡ puts_of ops → length docs ≡ n → length dead ≡ n
rows_marked ops dead docs n marks rows count = omega (arith, ap length marks, ap length rows, as_many ops, count, length-map dead not)

pub some_rows : (ops : List Op) (dead : List Bool) → live_of dead ≡ puts_live ops → list_any not dead ≡ true → 0 < length dead
some_rows ops [] marks e = absurd cc
some_rows ops (d ∷ dead) marks e = omega arith

no_put : (ops : List Op) → list_any is_put ops ≡ false → puts_live ops ≡ []
no_put [] e = refl
no_put (Put doc ∷ ops) e = absurd cc
no_put (Delete key ∷ ops) e = no_put ops e
no_put (Drop word ∷ ops) e = no_put ops e

pub number_given : (seg : Option SegNo) (ops : List Op) (dead : List Bool) → live_of dead ≡ puts_live ops → IsSome seg ↔ IsTrue (list_any is_put ops) → list_any not dead ≡ true → seg ≡ None → ⊥
number_given seg ops dead marks given some none = by_test (list_any is_put ops) refl
  where
    by_test : (b : Bool) → list_any is_put ops ≡ b → ⊥
    by_test true e = let is = given.1 e in cc
    by_test false e = let lt = some_live ops dead marks some in omega (arith, lt, ap live_rows (no_put ops e))

pub new_is : (seg : SegNo) (number : Option SegNo) (ops : List Op) (dead : List Bool) (docs : List Doc) (built : SegFiles) → live_of dead ≡ puts_live ops → list_any not dead ≡ true → docs ≡ puts_of ops → built.seg ≡ seg → built.live ≡ live_of dead
    → IsBuilt (record_of seg (live_of dead)) built.files docs (live_of dead) → number ≡ Some seg → IsNewOf number ops (Some built)
new_is seg number ops dead docs built marks some rows is_seg is_live is given =
    subst (λ (n : Option SegNo). IsNewOf n ops (Some built)) (sym given) (record {
      number = is_seg;
      rows = is_live ∙ marks;
      some = subst (λ (ls : List Bool). 0 < live_rows ls) (sym (is_live ∙ marks)) (some_live ops dead marks some);
      is =
          subst (λ (n : SegNo). IsBuilt (record_of n built.live) built.files (puts_of ops) built.live) (sym is_seg)
          (subst (λ (ls : List Bool). IsBuilt (record_of seg ls) built.files (puts_of ops) ls) (sym is_live) (subst (λ (ds : List Doc). IsBuilt (record_of seg (live_of dead)) built.files ds (live_of dead)) rows is));
    })

-- ---- the older ones

one_of_keys : (keys : List (List ℕ)) (q : List ℕ) → list_any (is_at (key_cmp q)) keys ≡ list_any (λ (k : List ℕ). bytes_eq k q) keys
one_of_keys [] q = refl
one_of_keys (k ∷ keys) q = both (is_at (key_cmp q) k) (bytes_eq k q) (list_any (is_at (key_cmp q)) keys) (list_any (λ (x : List ℕ). bytes_eq x q) keys) (is_eq-slice_cmp q k ∙ one_way q k) (one_of_keys keys q)
  where
    both : (a b c d : Bool) → a ≡ b → c ≡ d → (a || c) ≡ (b || d)
    both a b c d e f = cc

-- one of these words is among those
any_either : (p : List ℕ → Bool) (q : List ℕ → Bool) (words : List (List ℕ)) → list_any (λ (w : List ℕ). p w || q w) words ≡ (list_any p words || list_any q words)
any_either p q [] = refl
any_either p q (w ∷ words) = each (p w) (q w) (list_any p words) (list_any q words) (any_either p q words)
  where
    each : (a b x y : Bool) → list_any (λ (v : List ℕ). p v || q v) words ≡ (x || y) → ((a || b) || list_any (λ (v : List ℕ). p v || q v) words) ≡ ((a || x) || (b || y))
    each true b x y e = refl
    each false true x y e = right x
      where
        right : (x' : Bool) → true ≡ (x' || true)
        right true = refl
        right false = refl
    each false false x y e = e

words_turned : (words among : List (List ℕ)) → list_any (λ (v : List ℕ). list_any (λ (w : List ℕ). bytes_eq v w) among) words ≡ list_any (λ (w : List ℕ). list_any (λ (v : List ℕ). bytes_eq v w) words) among
words_turned words [] = none_any words
words_turned words (a ∷ among) =
    any_either (λ (v : List ℕ). bytes_eq v a) (λ (v : List ℕ). list_any (λ (w : List ℕ). bytes_eq v w) among) words
    ∙ ap (λ (b : Bool). list_any (λ (v : List ℕ). bytes_eq v a) words || b) (words_turned words among)

words_of_either : (among : BTreeSet (List ℕ)) (words : List (List ℕ)) → list_any (contains key_cmp among) words ≡ list_any (λ (w : List ℕ). list_any (λ (v : List ℕ). bytes_eq v w) words) among.keys
words_of_either among words =
    same_any (contains key_cmp among) (λ (v : List ℕ). list_any (λ (w : List ℕ). bytes_eq v w) among.keys) words
    (λ v. one_of_keys among.keys v ∙ same_any (λ (k : List ℕ). bytes_eq k v) (λ (k : List ℕ). bytes_eq v k) among.keys (λ k. one_way k v))
    ∙ words_turned words among.keys

-- the keys and the words, one after the other, are what is gone
pub gone_agree : (gone : Gone) (d : Doc) → (has_key_of gone.keys.keys d || has_word_of gone.words.keys d) ≡ is_gone gone d
gone_agree gone d =
    ap (λ (b : Bool). b || has_word_of gone.words.keys d) (sym (one_of_keys gone.keys.keys d.key))
    ∙ ap (λ (b : Bool). contains key_cmp gone.keys d.key || b) (sym (words_of_either gone.words (words_of d.text)))

change_from : Shown → List Bool → Option (List Bool)
change_from s left = cond (live_rows left == live_rows s.live) None (Some left)

change_agree : (a b : Doc → Bool) → ((d : Doc) → a d ≡ b d) → (s : Shown) → live_change a s ≡ live_change b s
unfolding change_from
change_agree a b same s = ap (change_from s) (left_agree a b same s.docs s.live)

pub changes_agree : (a b : Doc → Bool) → ((d : Doc) → a d ≡ b d) → (segs : List Shown) → map (live_change a) segs ≡ map (live_change b) segs
changes_agree a b same [] = refl
changes_agree a b same (s ∷ segs) = cells (live_change a s) (live_change b s) (map (live_change a) segs) (map (live_change b) segs) (change_agree a b same s) (changes_agree a b same segs)
  where
    cells : (x y : Option (List Bool)) (xs ys : List (Option (List Bool))) → x ≡ y → xs ≡ ys → x ∷ xs ≡ y ∷ ys
    cells x y xs ys e f = cc
