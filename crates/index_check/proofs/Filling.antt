-- Files that are put into a directory one after the other.
use Rattle.std.proofs.Common.{◌≡◌, ℕ, Bool, true, false, cond, List, [], ◌∷◌, ◌++◌, map, Some, None, refl, sym, ap, subst, ◌∙◌, true≢false}
use Rattle.std.specs.Ordering.{nat_cmp}
use Rattle.std.specs.declared.cmp.Ordering.{Ordering}
use Rattle.std.specs.declared.cmp.Ordering.TheVariants.{Less, Equal, Greater}
use Rattle.std.specs.Cmp.Lexicographic.{slice_cmp}
use Rattle.std.proofs.lemmas.Bool.{and_parts}
use Rattle.std.proofs.lemmas.Cmp.{nat_list_cmp_total, tied_itself}
use Rattle.std.proofs.lemmas.Slice.Eq.{bytes_eq-Decides}
use Rattle.file_names.specs.Names.{is_less, is_ascending}
use Rattle.disk_model.specs.Disk.{Name, Content, Cells, Image, same, put, written, reads_of}
use Rattle.index_check.specs.Images.{NamedFile}
use Rattle.index_check.specs.Directory.{after_puts, directory_with}

-- one file more, at the end
after_puts-more : (image : Image) (files : List NamedFile) (f : NamedFile) (q : Name) → after_puts image (files ++ f ∷ []) q ≡ put (after_puts image files) f.0 (Some f.1) q
after_puts-more image [] f q = refl
after_puts-more image (g ∷ files) f q = after_puts-more (put image g.0 (Some g.1)) files f q

reads-put : (cells : Cells) (name bytes : List ℕ) (q : Name) → reads_of (put cells name (written bytes (cells name))) q ≡ put (reads_of cells) name (Some bytes) q
reads-put cells name bytes q = by (same name q)
  where
    by : (b : Bool) → (cond b (written bytes (cells name)) (cells q)).now ≡ cond b (Some bytes) (cells q).now
    by true = refl
    by false = refl

put-same : (a b : Image) (name : Name) (content : Content) → ((q : Name) → a q ≡ b q) → (q : Name) → put a name content q ≡ put b name content q
put-same a b name content h q = ap (λ (c : Content). cond (same name q) content c) (h q)

-- two images that agree under each name are one
pub same_image : (a b : Image) → ((q : Name) → a q ≡ b q) → a ≡ b
same_image a b h = λ i. λ q. h q i

-- a file was written: it reads, and the others read as before
pub file_put : (before after : Cells) (name bytes : List ℕ) → after ≡ put before name (written bytes (before name)) → reads_of after ≡ put (reads_of before) name (Some bytes)
file_put before after name bytes e = ap reads_of e ∙ same_image (reads_of (put before name (written bytes (before name)))) (put (reads_of before) name (Some bytes)) (reads-put before name bytes)

-- behind these files one more was put
pub one_more : (files : List NamedFile) (name bytes : List ℕ) (before after : Image) → before ≡ directory_with files → after ≡ put before name (Some bytes) → after ≡ directory_with (files ++ (name, bytes) ∷ [])
one_more files name bytes before after so_far e =
    e ∙ ap (λ (image : Image). put image name (Some bytes)) so_far
    ∙ sym (same_image (directory_with (files ++ (name, bytes) ∷ [])) (put (directory_with files) name (Some bytes)) (after_puts-more (λ q. None) files (name, bytes)))

-- ---- a name above all those before it
is_below : (o : Ordering) → is_less o ≡ true → o ≡ Less
is_below Less e = refl
is_below Equal e = absurd (true≢false (sym e))
is_below Greater e = absurd (true≢false (sym e))

below_next : (a : Name) (before after : List NamedFile) (f : NamedFile) → is_ascending (a ∷ map (λ g. g.0) (before ++ f ∷ after)) ≡ true → slice_cmp nat_cmp a f.0 ≡ Less
below_next a [] after f h = is_below (slice_cmp nat_cmp a f.0) (and_parts (is_less (slice_cmp nat_cmp a f.0)) (is_ascending (f.0 ∷ map (λ g. g.0) after)) h).0
below_next a (b ∷ before) after f h =
    let parts = and_parts (is_less (slice_cmp nat_cmp a b.0)) (is_ascending (b.0 ∷ map (λ g. g.0) (before ++ f ∷ after))) h in
    nat_list_cmp_total.trans a b.0 f.0 (is_below (slice_cmp nat_cmp a b.0) parts.0) (below_next b.0 before after f parts.1)

other_name : (a b : Name) → slice_cmp nat_cmp a b ≡ Less → same a b ≡ false
other_name a b less = by (same a b) refl
  where
    by : (t : Bool) → same a b ≡ t → t ≡ false
    by false e = refl
    by true e = absurd (less_never_equal (sym less ∙ ap (λ (q : Name). slice_cmp nat_cmp a q) (sym ((bytes_eq-Decides a b).0 e)) ∙ tied_itself nat_list_cmp_total a))
      where
        less_never_equal : ◌≡◌ {A = Ordering} Less Equal → ⊥
        less_never_equal e = cc

rest_ascends : (a : Name) (names : List Name) → is_ascending (a ∷ names) ≡ true → is_ascending names ≡ true
rest_ascends a [] h = refl
rest_ascends a (b ∷ names) h = (and_parts (is_less (slice_cmp nat_cmp a b)) (is_ascending (b ∷ names)) h).1

still_reads : (image : Image) (before after : List NamedFile) (f : NamedFile) → is_ascending (map (λ g. g.0) (before ++ f ∷ after)) ≡ true → after_puts image before f.0 ≡ image f.0
still_reads image [] after f h = refl
still_reads image (b ∷ before) after f h =
    still_reads (put image b.0 (Some b.1)) before after f (rest_ascends b.0 (map (λ g. g.0) (before ++ f ∷ after)) h)
    ∙ ap (λ (t : Bool). cond t (Some b.1) (image f.0)) (other_name b.0 f.0 (below_next b.0 before after f h))

-- of files whose names ascend the next one does not exist where those before it were put
pub next_unread : (image : Image) (before after all : List NamedFile) (f : NamedFile) → image ≡ directory_with before → all ≡ before ++ f ∷ after → is_ascending (map (λ g. g.0) all) ≡ true → image f.0 ≡ None
next_unread image before after all f so_far whole h =
    ap (λ (now : Image). now f.0) so_far ∙ still_reads (λ q. None) before after f (subst (λ (files : List NamedFile). is_ascending (map (λ g. g.0) files) ≡ true) whole h)
