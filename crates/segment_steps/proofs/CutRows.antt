-- The marks of a cut, as it is gone through from its end, and its rows.
use Rattle.std.proofs.Common.{◌≡◌, ℕ, suc, ◌+◌, ◌<◌, Bool, true, false, not, cond, List, [], ◌∷◌, ◌++◌, length, get_or, drop, reverse, refl, sym, ap, subst, ◌∙◌, arith, drop-cons}
use Rattle.std.specs.Prelude.{◌||◌}
use Rattle.std.specs.List.{list_any}
use Rattle.std.specs.Str.{bytes_eq}
use Rattle.std.specs.BTreeMap.{is_at}
use Rattle.std.specs.BTreeSet.{contains, BTreeSet, btree_set_len}
use Rattle.std.proofs.Math.Bool.{or_assoc, or_comm}
use Rattle.std.proofs.lemmas.List.{append-nil, append_assoc, reverse-append}
use Rattle.std.proofs.lemmas.Map.Text.{is_eq-slice_cmp}
use Rattle.nrt_base.specs.declared.doc.Doc.{Doc}
use Rattle.documents.specs.declared.operation.Op.{Op}
use Rattle.documents.specs.declared.operation.Op.TheVariants.{Put, Delete, Drop}
use Rattle.documents.specs.Documents.{key_cmp, removes}
use Rattle.documents.specs.Words.{words_of, has_word}
use Rattle.seg_merge.specs.Given.{live_of}
use Rattle.segment_steps.specs.Cut.{removed_by, with_put, puts_of, puts_live}
use Rattle.segment_steps.specs.declared.cut.Gone.{Gone}
use Rattle.segment_steps.specs.declared.cut.Marks.{Marks}
use Rattle.segment_steps.specs.Marks.{is_gone, dead_mark, IsMarkedBefore}
use Rattle.segment_steps.proofs.Segments.{one_way}

-- a key that was inserted is named, and the others as before
pub one_key_more : (key k q : List ℕ) (old new : Bool) → key ≡ k → new ≡ cond (is_at (key_cmp key) q) true old → new ≡ (bytes_eq k q || old)
one_key_more key k q old new same e = e ∙ ap (λ (x : List ℕ). cond (is_at (key_cmp x) q) true old) same ∙ ap (λ (b : Bool). cond b true old) (is_eq-slice_cmp k q) ∙ by_test (bytes_eq k q)
  where
    by_test : (b : Bool) → cond b true old ≡ (b || old)
    by_test true = refl
    by_test false = refl

next_op : (ops : List Op) (at : ℕ) (op : Op) → at < length ops → op ≡ get_or ops at op → drop at ops ≡ op ∷ drop (at + 1) ops
next_op ops at op lt item =
    let up : suc at ≡ at + 1 = omega arith in
    drop-cons ops at op lt ∙ ap (λ (o : Op). o ∷ drop (suc at) ops) (sym item) ∙ ap (λ (n : ℕ). op ∷ drop n ops) up

-- ---- a key or a word more

pub key_more : (old new : Gone) (key : List ℕ) → ((q : List ℕ) → contains key_cmp new.keys q ≡ (bytes_eq key q || contains key_cmp old.keys q)) → new.words ≡ old.words
    → (d : Doc) → is_gone new d ≡ (bytes_eq key d.key || is_gone old d)
key_more old new key more same d =
    let words : List (List ℕ) = words_of d.text in
    ap (λ (b : Bool). b || list_any (contains key_cmp new.words) words) (more d.key)
    ∙ ap (λ (s : BTreeSet (List ℕ)). (bytes_eq key d.key || contains key_cmp old.keys d.key) || list_any (contains key_cmp s) words) same
    ∙ or_assoc (bytes_eq key d.key) (contains key_cmp old.keys d.key) (list_any (contains key_cmp old.words) words)

any_more : (p q r : List ℕ → Bool) (words : List (List ℕ)) → ((w : List ℕ) → p w ≡ (q w || r w)) → list_any p words ≡ (list_any q words || list_any r words)
any_more p q r [] same = refl
any_more p q r (w ∷ words) same = each (p w) (q w) (r w) (list_any p words) (list_any q words) (list_any r words) (same w) (any_more p q r words same)
  where
    each : (a b c x y z : Bool) → a ≡ (b || c) → x ≡ (y || z) → (a || x) ≡ ((b || y) || (c || z))
    each a true c x y z e f = rw e refl
    each a false true x y z e f = rw e (right y)
      where
        right : (y' : Bool) → true ≡ (y' || true)
        right true = refl
        right false = refl
    each a false false x y z e f = rw e f

pub same_any : (p q : List ℕ → Bool) (words : List (List ℕ)) → ((w : List ℕ) → p w ≡ q w) → list_any p words ≡ list_any q words
same_any p q [] same = refl
same_any p q (w ∷ words) same = let first = same w in let rest = same_any p q words same in cc

pub word_more : (old new : Gone) (word : List ℕ) → ((q : List ℕ) → contains key_cmp new.words q ≡ (bytes_eq word q || contains key_cmp old.words q)) → new.keys ≡ old.keys
    → (d : Doc) → is_gone new d ≡ (has_word word (words_of d.text) || is_gone old d)
word_more old new word more same d =
    let words : List (List ℕ) = words_of d.text in
    let named : Bool = contains key_cmp old.keys d.key in
    let has : Bool = has_word word words in
    let others : Bool = list_any (contains key_cmp old.words) words in
    ap (λ (b : Bool). contains key_cmp new.keys d.key || b)
    (any_more (contains key_cmp new.words) (λ (w : List ℕ). bytes_eq word w) (contains key_cmp old.words) words more
    ∙ ap (λ (b : Bool). b || list_any (contains key_cmp old.words) words) (same_any (λ (w : List ℕ). bytes_eq word w) (λ (w : List ℕ). bytes_eq w word) words (λ w. one_way word w)))
    ∙ ap (λ (s : BTreeSet (List ℕ)). contains key_cmp s d.key || (has_word word words || list_any (contains key_cmp old.words) words)) same
    ∙ sym (or_assoc named has others) ∙ ap (λ (b : Bool). b || others) (or_comm named has) ∙ or_assoc has named others

-- ---- one operation before those that were gone through

pub gone_before : (ops : List Op) (at : ℕ) (op : Op) (old new : Gone) → at < length ops → op ≡ get_or ops at op
    → ((d : Doc) → is_gone old d ≡ removed_by (drop (at + 1) ops) d) → ((d : Doc) → is_gone new d ≡ (removes op d || is_gone old d))
    → (d : Doc) → is_gone new d ≡ removed_by (drop at ops) d
gone_before ops at op old new lt item before more d =
    more d ∙ ap (λ (b : Bool). removes op d || b) (before d) ∙ sym (ap (λ (os : List Op). removed_by os d) (next_op ops at op lt item))

mark_first : (op : Op) (dead : List Bool) (gone : Doc → Bool) (rest : List Op) → ((d : Doc) → gone d ≡ removed_by rest d) → live_of (reverse dead) ≡ puts_live rest
    → live_of (reverse (dead ++ dead_mark op gone)) ≡ puts_live (op ∷ rest)
mark_first (Put doc) dead gone rest same live =
    ap live_of (reverse-append dead (gone doc ∷ [])) ∙ cells (not (gone doc)) (not (removed_by rest doc)) (live_of (reverse dead)) (puts_live rest) (ap not (same doc)) live
  where
    cells : (x y : Bool) (xs ys : List Bool) → x ≡ y → xs ≡ ys → x ∷ xs ≡ y ∷ ys
    cells x y xs ys e f = cc
mark_first (Delete key) dead gone rest same live = ap live_of (reverse-append dead []) ∙ live
mark_first (Drop word) dead gone rest same live = ap live_of (reverse-append dead []) ∙ live

pub marked_before : (ops : List Op) (at : ℕ) (op : Op) (old : Gone) (dead new : List Bool) → at < length ops → op ≡ get_or ops at op
    → ((d : Doc) → is_gone old d ≡ removed_by (drop (at + 1) ops) d) → live_of (reverse dead) ≡ puts_live (drop (at + 1) ops) → new ≡ dead ++ dead_mark op (is_gone old)
    → live_of (reverse new) ≡ puts_live (drop at ops)
marked_before ops at op old dead new lt item before live more =
    ap (λ (xs : List Bool). live_of (reverse xs)) more ∙ mark_first op dead (is_gone old) (drop (at + 1) ops) before live ∙ sym (ap puts_live (next_op ops at op lt item))

-- ---- rows

put_more : (op : Op) (ops : List Op) → with_put op [] ++ puts_of ops ≡ with_put op (puts_of ops)
put_more (Put doc) ops = refl
put_more (Delete key) ops = refl
put_more (Drop word) ops = refl

pub row_more : (ops : List Op) (at : ℕ) (op : Op) (docs new : List Doc) → at < length ops → op ≡ get_or ops at op → docs ++ puts_of (drop at ops) ≡ puts_of ops → new ≡ docs ++ with_put op [] → new ++ puts_of (drop (at + 1) ops) ≡ puts_of ops
row_more ops at op docs new lt item so_far more =
    ap (λ (ds : List Doc). ds ++ puts_of (drop (at + 1) ops)) more ∙ append_assoc docs (with_put op []) (puts_of (drop (at + 1) ops)) ∙ ap (λ (ds : List Doc). docs ++ ds) (put_more op (drop (at + 1) ops))
    ∙ sym (ap (λ (os : List Op). docs ++ puts_of os) (next_op ops at op lt item)) ∙ so_far

-- ---- no keys, no words

pub none_any : (words : List (List ℕ)) → list_any (λ (w : List ℕ). false) words ≡ false
none_any [] = refl
none_any (w ∷ words) = none_any words

-- no word is among none
pub none_among : (p : List ℕ → Bool) (words : List (List ℕ)) → ((w : List ℕ) → p w ≡ false) → list_any p words ≡ false
none_among p words none = same_any p (λ (w : List ℕ). false) words none ∙ none_any words

none_contained : (keys : List (List ℕ)) (q : List ℕ) → length keys ≡ 0 → list_any (is_at (key_cmp q)) keys ≡ false
none_contained [] q e = refl
none_contained (k ∷ keys) q e = absurd (omega (arith, e))

pub nothing_contains : (among : BTreeSet (List ℕ)) (q : List ℕ) → btree_set_len among ≡ 0 → contains key_cmp among q ≡ false
nothing_contains among q e = none_contained among.keys q e

pub nothing_gone : (gone : Gone) → btree_set_len gone.keys ≡ 0 → btree_set_len gone.words ≡ 0 → (d : Doc) → is_gone gone d ≡ false
nothing_gone gone keys words d =
    ap (λ (b : Bool). b || list_any (contains key_cmp gone.words) (words_of d.text)) (nothing_contains gone.keys d.key keys)
    ∙ none_among (contains key_cmp gone.words) (words_of d.text) (λ (q : List ℕ). nothing_contains gone.words q words)

-- ---- what one operation adds

pub put_marked : (op : Op) (doc : Doc) (key : List ℕ) (is : Bool) (old new : Marks) → op ≡ Put doc → key ≡ doc.key → is ≡ is_gone old.gone doc → new.dead.items ≡ old.dead.items ++ is ∷ []
    → ((q : List ℕ) → contains key_cmp new.gone.keys q ≡ cond (is_at (key_cmp key) q) true (contains key_cmp old.gone.keys q)) → new.gone.words ≡ old.gone.words → IsMarkedBefore op old new
put_marked op doc key is old new e same_key told put more same =
    subst (λ (o : Op). IsMarkedBefore o old new) (sym e) (record {
      gone = key_more old.gone new.gone doc.key (λ q. one_key_more key doc.key q (contains key_cmp old.gone.keys q) (contains key_cmp new.gone.keys q) same_key (more q)) same;
      dead = put ∙ ap (λ (b : Bool). old.dead.items ++ b ∷ []) told;
    })

pub key_marked : (op : Op) (key inserted : List ℕ) (old new : Marks) → op ≡ Delete key → inserted ≡ key → new.dead.items ≡ old.dead.items
    → ((q : List ℕ) → contains key_cmp new.gone.keys q ≡ cond (is_at (key_cmp inserted) q) true (contains key_cmp old.gone.keys q)) → new.gone.words ≡ old.gone.words → IsMarkedBefore op old new
key_marked op key inserted old new e same_key dead more same =
    subst (λ (o : Op). IsMarkedBefore o old new) (sym e) (record {
      gone = key_more old.gone new.gone key (λ q. one_key_more inserted key q (contains key_cmp old.gone.keys q) (contains key_cmp new.gone.keys q) same_key (more q)) same;
      dead = dead ∙ sym (append-nil old.dead.items);
    })

pub word_marked : (op : Op) (word inserted : List ℕ) (old new : Marks) → op ≡ Drop word → inserted ≡ word → new.dead.items ≡ old.dead.items
    → ((q : List ℕ) → contains key_cmp new.gone.words q ≡ cond (is_at (key_cmp inserted) q) true (contains key_cmp old.gone.words q)) → new.gone.keys ≡ old.gone.keys → IsMarkedBefore op old new
word_marked op word inserted old new e same_word dead more same =
    subst (λ (o : Op). IsMarkedBefore o old new) (sym e) (record {
      gone = word_more old.gone new.gone word (λ q. one_key_more inserted word q (contains key_cmp old.gone.words q) (contains key_cmp new.gone.words q) same_word (more q)) same;
      dead = dead ∙ sym (append-nil old.dead.items);
    })
