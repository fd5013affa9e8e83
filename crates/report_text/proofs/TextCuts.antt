-- A line of the report is cut into its words in one way only: no word has a space or a line feed in it.
use Rattle.std.proofs.Common.{◌≡◌, ℕ, ◌+◌, ◌%◌, ◌^◌, ◌≤◌, Bool, true, false, nat_lt, List, [], ◌∷◌, ◌++◌, map, refl, sym, ap, ◌∙◌, arith}
use Rattle.std.specs.List.{list_all}
use Rattle.std.specs.Fmt.{decimal}
use Rattle.std.proofs.lemmas.Bool.Decides.{nat_tests}
use Rattle.std.proofs.lemmas.Fmt.{decimal_by_steps, decimal_injective}
use Rattle.std.proofs.lemmas.List.{append_assoc}
use Rattle.nrt_base.proofs.Plain.{cons_from, cons_parts, digit_is}
use Rattle.nrt_base.specs.Bytes.{is_between, is_key_byte, is_key}
use Rattle.file_names.specs.Names.{is_name_byte, is_file_name}
use Rattle.file_names.specs.Base36.{is_base36_digit, base36_of}
use Rattle.std.proofs.lemmas.Bool.{and_parts, and_from, ltb-true}
use Rattle.file_names.proofs.Base36Lemmas.{list_all-append, spelling_of}
use Rattle.documents.specs.declared.answer.Hit.{Hit}
use Rattle.report_text.specs.Texts.{all_spaced, hit_text}
use Rattle.report_text.specs.Printed.{IsNumber, hit_fits}

-- a word of a line: printable bytes alone, and no space
abbrev pub is_token : List ℕ → Bool
is_token word = list_all is_key_byte word

-- two texts that begin with bytes that pass a test, each before one that fails it, begin with the same bytes
pub cut_word : (p : ℕ → Bool) (a b : List ℕ) (m n : ℕ) (x y : List ℕ) → list_all p a ≡ true → list_all p b ≡ true → p m ≡ false → p n ≡ false
    → a ++ m ∷ x ≡ b ++ n ∷ y → (a ≡ b) × (m ∷ x ≡ n ∷ y)
cut_word p [] [] m n x y h k s t e = (refl, e)
cut_word p [] (c ∷ b) m n x y h k s t e =
    let bad : false ≡ true = sym s ∙ ap p (cons_parts m c x (b ++ n ∷ y) e).0 ∙ (and_parts (p c) (list_all p b) k).0 in absurd cc
cut_word p (c ∷ a) [] m n x y h k s t e =
    let bad : true ≡ false = sym (and_parts (p c) (list_all p a) h).0 ∙ ap p (cons_parts c n (a ++ m ∷ x) y e).0 ∙ t in absurd cc
cut_word p (c ∷ a) (d ∷ b) m n x y h k s t e =
    let same = cons_parts c d (a ++ m ∷ x) (b ++ n ∷ y) e in
    let rest = cut_word p a b m n x y (and_parts (p c) (list_all p a) h).1 (and_parts (p d) (list_all p b) k).1 s t same.1 in
    (cons_from c d a b same.0 rest.0, rest.1)

low_byte : (b : ℕ) → b ≤ 32 → is_key_byte b ≡ false
low_byte b low = grind (arith, nat_tests)

-- what stands behind a word: a space and the words that follow, or the line feed
pub record Behind (rest : List ℕ) : Type 0 where
  pub first : ℕ
  pub others : List ℕ
  pub low : first ≤ 32
  pub whole : rest ≡ first ∷ others

pub behind : (words : List (List ℕ)) (x : List ℕ) → Behind (all_spaced words ++ 10 ∷ x)
behind [] x = record { first = 10; others = x; low = omega arith; whole = refl }
behind (word ∷ words) x = record { first = 32; others = word ++ all_spaced words ++ 10 ∷ x; low = omega arith; whole = refl }

pub cut_front : (a b xs ys : List ℕ) → Behind xs → Behind ys → is_token a ≡ true → is_token b ≡ true → a ++ xs ≡ b ++ ys → (a ≡ b) × (xs ≡ ys)
cut_front a b xs ys p q h k e =
    let cut = cut_word is_key_byte a b p.first q.first p.others q.others h k (low_byte p.first p.low) (low_byte q.first q.low) (sym (ap (λ (t : List ℕ). a ++ t) p.whole) ∙ e ∙ ap (λ (t : List ℕ). b ++ t) q.whole) in
    (cut.0, p.whole ∙ cut.1 ∙ sym q.whole)

-- two lines of words that begin one text are one, and so is what follows them
pub same_words : (xs ys : List (List ℕ)) (a b : List ℕ) → list_all is_token xs ≡ true → list_all is_token ys ≡ true → all_spaced xs ++ 10 ∷ a ≡ all_spaced ys ++ 10 ∷ b → (xs ≡ ys) × (a ≡ b)
same_words [] [] a b h k e = (refl, (cons_parts 10 10 a b e).1)
same_words [] (y ∷ ys) a b h k e = absurd (grind (arith, (cons_parts 10 32 a (y ++ all_spaced ys ++ 10 ∷ b) e).0))
same_words (x ∷ xs) [] a b h k e = absurd (grind (arith, (cons_parts 32 10 (x ++ all_spaced xs ++ 10 ∷ a) b e).0))
same_words (x ∷ xs) (y ∷ ys) a b h k e =
    let behind_x : List ℕ = all_spaced xs ++ 10 ∷ a in
    let behind_y : List ℕ = all_spaced ys ++ 10 ∷ b in
    let g = and_parts (is_token x) (list_all is_token xs) h in
    let f = and_parts (is_token y) (list_all is_token ys) k in
    let first = (cons_parts 32 32 (x ++ all_spaced xs ++ 10 ∷ a) (y ++ all_spaced ys ++ 10 ∷ b) e).1 in
    let joined : x ++ behind_x ≡ y ++ behind_y = sym (append_assoc x (all_spaced xs) (10 ∷ a)) ∙ first ∙ append_assoc y (all_spaced ys) (10 ∷ b) in
    let cut = cut_front x y behind_x behind_y (behind xs a) (behind ys b) g.0 f.0 joined in
    let rest = same_words xs ys a b g.1 f.1 cut.1 in
    (cons_from x y xs ys cut.0 rest.0, rest.1)

-- ---- which texts are words

-- a decimal digit
abbrev is_digit : ℕ → Bool
is_digit b = is_between 48 57 b

digits_are : (n : ℕ) → IsNumber n → list_all is_digit (decimal n) ≡ true
digits_are n h = decimal_by_steps (λ n ds. list_all is_digit ds ≡ true)
    (λ n lt. and_from (is_digit (48 + n)) true (digit_is n lt) refl)
    (λ n ds le ok. list_all-append is_digit ds ((48 + n % 10) ∷ []) ok (and_from (is_digit (48 + n % 10)) true (digit_is (n % 10) (omega arith)) refl))
    n h

bytes_weaker : (p q : ℕ → Bool) → ((b : ℕ) → p b ≡ true → q b ≡ true) → (bytes : List ℕ) → list_all p bytes ≡ true → list_all q bytes ≡ true
bytes_weaker p q w [] h = refl
bytes_weaker p q w (b ∷ bytes) h =
    let e = and_parts (p b) (list_all p bytes) h in
    and_from (q b) (list_all q bytes) (w b e.0) (bytes_weaker p q w bytes e.1)

key_digit : (b : ℕ) → is_digit b ≡ true → is_key_byte b ≡ true
key_digit b h = grind (arith, nat_tests)

pub decimal_is_token : (n : ℕ) → IsNumber n → is_token (decimal n) ≡ true
decimal_is_token n h = bytes_weaker is_digit is_key_byte key_digit (decimal n) (digits_are n h)

digit_byte : (b : ℕ) → is_base36_digit b ≡ true → is_key_byte b ≡ true
digit_byte b h = grind (arith, nat_tests)

name_byte : (b : ℕ) → is_name_byte b ≡ true → is_key_byte b ≡ true
name_byte b h = grind (arith, nat_tests)

pub base36_is_token : (n : ℕ) → IsNumber n → is_token (95 ∷ base36_of n) ≡ true
base36_is_token n h = bytes_weaker is_base36_digit is_key_byte digit_byte (base36_of n) (spelling_of n h).digits

pub key_is_token : (key : List ℕ) → is_key key ≡ true → is_token key ≡ true
key_is_token key h = (and_parts _ (list_all is_key_byte key) h).1

pub name_is_token : (name : List ℕ) → is_file_name name ≡ true → is_token name ≡ true
name_is_token name h = bytes_weaker is_name_byte is_key_byte name_byte name (and_parts _ (list_all is_name_byte name) h).1

pub words_weaker : (p q : List ℕ → Bool) → ((w : List ℕ) → p w ≡ true → q w ≡ true) → (words : List (List ℕ)) → list_all p words ≡ true → list_all q words ≡ true
words_weaker p q w [] h = refl
words_weaker p q w (x ∷ words) h =
    let e = and_parts (p x) (list_all p words) h in
    and_from (q x) (list_all q words) (w x e.0) (words_weaker p q w words e.1)

-- two numbers that are printed alike, before the same words, are one
pub same_number : (a b : ℕ) (xs ys : List (List ℕ)) → IsNumber a → IsNumber b → decimal a ∷ xs ≡ decimal b ∷ ys → (a ≡ b) × (xs ≡ ys)
same_number a b xs ys h k e =
    let both = cons_parts (decimal a) (decimal b) xs ys e in
    (decimal_injective a b h k both.0, both.1)

-- ---- hits

fits_parts : (hit : Hit) → hit_fits hit ≡ true → IsNumber hit.rank × (is_key hit.key ≡ true)
fits_parts hit h =
    let both = and_parts (nat_lt hit.rank (2 ^ 64)) (is_key hit.key) h in
    (ltb-true hit.rank (2 ^ 64) both.0, both.1)

hit_is_token : (hit : Hit) → hit_fits hit ≡ true → is_token (hit_text hit) ≡ true
hit_is_token hit h =
    let fits = fits_parts hit h in
    list_all-append is_key_byte (decimal hit.rank) (58 ∷ hit.key) (decimal_is_token hit.rank fits.0) (key_is_token hit.key fits.1)

pub hits_are_tokens : (hits : List Hit) → list_all hit_fits hits ≡ true → list_all is_token (map hit_text hits) ≡ true
hits_are_tokens [] h = refl
hits_are_tokens (hit ∷ hits) h =
    let both = and_parts (hit_fits hit) (list_all hit_fits hits) h in
    and_from (is_token (hit_text hit)) (list_all is_token (map hit_text hits)) (hit_is_token hit both.0) (hits_are_tokens hits both.1)

-- the rank ends at the first colon, so a key may have colons
same_hit : (a b : Hit) → hit_fits a ≡ true → hit_fits b ≡ true → hit_text a ≡ hit_text b → a ≡ b
same_hit a b h k e =
    let p = fits_parts a h in
    let q = fits_parts b k in
    let cut = cut_word is_digit (decimal a.rank) (decimal b.rank) 58 58 a.key b.key (digits_are a.rank p.0) (digits_are b.rank q.0) refl refl e in
    hit_from a.key b.key a.rank b.rank (cons_parts 58 58 a.key b.key cut.1).1 (decimal_injective a.rank b.rank p.0 q.0 cut.0)
  where
    hit_from : (k l : List ℕ) (m n : ℕ) → k ≡ l → m ≡ n → ◌≡◌ {A = Hit} (record { key = k; rank = m }) (record { key = l; rank = n })
    hit_from k l m n e f = cc

-- hits that are printed alike are the same
pub same_hits : (hits others : List Hit) → list_all hit_fits hits ≡ true → list_all hit_fits others ≡ true → map hit_text hits ≡ map hit_text others → hits ≡ others
same_hits [] [] h k e = refl
same_hits [] (b ∷ others) h k e = absurd cc
same_hits (a ∷ hits) [] h k e = absurd cc
same_hits (a ∷ hits) (b ∷ others) h k e =
    let p = and_parts (hit_fits a) (list_all hit_fits hits) h in
    let q = and_parts (hit_fits b) (list_all hit_fits others) k in
    let words = cons_parts (hit_text a) (hit_text b) (map hit_text hits) (map hit_text others) e in
    cons_from a b hits others (same_hit a b p.0 q.0 words.0) (same_hits hits others p.1 q.1 words.1)
