-- Which token a text begins with, and which tokens follow it.
use Rattle.std.proofs.Common.{◌≡◌, ℕ, zero, suc, ◌+◌, ◌<◌, ◌≤◌, List, [], ◌∷◌, ◌++◌, length, take, drop, get_or, map, Bool, true, false, cond, IsTrue, refl, ap, sym, ◌∙◌, append_assoc, add-one, add-zero, not, arith}
use Rattle.std.specs.Prelude.{◌&&◌}
use Rattle.std.specs.List.{list_all, take_while}
use Rattle.std.proofs.lemmas.Bool.{false≢true}
use Rattle.std.proofs.lemmas.List.{append-nil}
use Rattle.std.proofs.lemmas.List.Sums.{take_while-cons}
use Rattle.documents.specs.Words.{is_alphanumeric, lower, words_of, words_after, with_run}
use Rattle.text_query.specs.declared.token.Token.TheVariants.{Word}
use Rattle.text_query.specs.declared.token.Placed.{Placed}
use Rattle.text_query.specs.Tokens.{is_space, is_quote, run_of, quoted_of, token_of_run, token_of_words, token_of_quote, token_of_byte, token_at, bytes_behind, tokens_from}

first_holds : (a b : Bool) → IsTrue (a && b) → a ≡ true
first_holds true b h = refl
first_holds false b h = absurd (false≢true h)

second_holds : (a b : Bool) → IsTrue (a && b) → IsTrue b
second_holds true b h = h
second_holds false b h = absurd (false≢true h)

-- a run at the end of a text is its last word
words_after_run : (run text : List ℕ) → IsTrue (list_all is_alphanumeric text) → words_after run text ≡ with_run (run ++ map lower text) []
words_after_run run [] h = ap (λ (r : List ℕ). with_run r []) (sym (append-nil run))
words_after_run run (b ∷ text) h =
    ap (λ (c : Bool). cond c (words_after (run ++ lower b ∷ []) text) (with_run run (words_after [] text))) (first_holds (is_alphanumeric b) (list_all is_alphanumeric text) h)
    ∙ (words_after_run (run ++ lower b ∷ []) text (second_holds (is_alphanumeric b) (list_all is_alphanumeric text) h)
    ∙ ap (λ (r : List ℕ). with_run r []) (append_assoc run (lower b ∷ []) (map lower text)))

-- a run is one word
pub words_of_run : (run : List ℕ) → 0 < length run → IsTrue (list_all is_alphanumeric run) → token_of_words (words_of run) ≡ Word (map lower run)
words_of_run [] some h = absurd (omega arith)
words_of_run (b ∷ run) some h = ap token_of_words (words_after_run [] (b ∷ run) h)

front_case : (b : Bool) (x : ℕ) (xs front : List ℕ) → take (length front) xs ≡ front → take (length (cond b (x ∷ front) [])) (x ∷ xs) ≡ cond b (x ∷ front) []
front_case true x xs front e = ap (λ (ys : List ℕ). x ∷ ys) e
front_case false x xs front e = refl

-- as many items from the front as pass are those that pass
pub take_front : (p : ℕ → Bool) (xs : List ℕ) → take (length (take_while p xs)) xs ≡ take_while p xs
take_front p [] = refl
take_front p (x ∷ xs) = rw (take_while-cons p x xs) (front_case (p x) x xs (take_while p xs) (take_front p xs))

all_case : (p : ℕ → Bool) (b : Bool) (x : ℕ) (front : List ℕ) → p x ≡ b → IsTrue (list_all p front) → IsTrue (list_all p (cond b (x ∷ front) []))
all_case p true x front e h = rw e h
all_case p false x front e h = refl

front_passes : (p : ℕ → Bool) (xs : List ℕ) → IsTrue (list_all p (take_while p xs))
front_passes p [] = refl
front_passes p (x ∷ xs) = rw (take_while-cons p x xs) (all_case p (p x) x (take_while p xs) refl (front_passes p xs))

front_length : (p : ℕ → Bool) (xs : List ℕ) → length (take_while p xs) ≤ length xs
front_length p [] = omega arith
front_length p (x ∷ xs) = rw (take_while-cons p x xs) (length_case (p x) x xs (take_while p xs) (front_length p xs))
  where
    length_case : (b : Bool) (x : ℕ) (xs front : List ℕ) → length front ≤ length xs → length (cond b (x ∷ front) []) ≤ length (x ∷ xs)
    length_case true x xs front h = omega arith
    length_case false x xs front h = omega arith

-- the run that a text begins with
pub run_at_front : (text : List ℕ) → 0 < length text → is_alphanumeric (get_or text 0 0) ≡ true → take (length (run_of (drop 1 text)) + 1) text ≡ run_of text
run_at_front [] some e = absurd (omega arith)
run_at_front (b ∷ text) some e =
    rw add-one (ap (λ (ys : List ℕ). b ∷ ys) (take_front is_alphanumeric text) ∙ sym (take_while-cons is_alphanumeric b text ∙ ap (λ (c : Bool). cond c (b ∷ run_of text) []) e))

pub run_is_alphanumeric : (text : List ℕ) → IsTrue (list_all is_alphanumeric (run_of text))
run_is_alphanumeric text = front_passes is_alphanumeric text

pub token_at_run : (text : List ℕ) → 0 < length text → is_alphanumeric (get_or text 0 0) ≡ true → token_at text ≡ token_of_run (run_of text)
token_at_run [] some e = absurd (omega arith)
token_at_run (b ∷ text) some e = ap (λ (c : Bool). cond c (token_of_run (run_of (b ∷ text))) (cond (is_quote b) (token_of_quote text) (token_of_byte b))) e

-- a token takes no more bytes than there are, but for the end of a quote that has none
pub bytes-length : (text : List ℕ) → bytes_behind text ≤ length text
bytes-length [] = omega arith
bytes-length (b ∷ text) = bytes_case (is_alphanumeric b) (is_quote b) text
  where
    bytes_case : (c d : Bool) (text : List ℕ) → cond c (length (run_of text)) (cond d (length (quoted_of text) + 1) 0) ≤ suc (length text)
    bytes_case true d text = omega (arith, front_length is_alphanumeric text)
    bytes_case false true text = omega (arith, front_length (λ b. not (is_quote b)) text)
    bytes_case false false text = omega arith

-- the bytes that a token takes are passed over
tokens_from-drop : (taken at : ℕ) (text : List ℕ) → tokens_from taken at text ≡ tokens_from 0 (at + taken) (drop taken text)
tokens_from-drop zero at text = ap (λ (n : ℕ). tokens_from 0 n text) (sym (add-zero at))
tokens_from-drop (suc taken) at [] = refl
tokens_from-drop (suc taken) at (b ∷ text) =
    tokens_from-drop taken (at + 1) text ∙ ap (λ (n : ℕ). tokens_from 0 n (drop taken text)) (let e : at + 1 + taken ≡ at + suc taken = omega arith in e)

-- a space is passed over
pub tokens_at_space : (at : ℕ) (text : List ℕ) → 0 < length text → is_space (get_or text 0 0) ≡ true → tokens_from 0 at text ≡ tokens_from 0 (at + 1) (drop 1 text)
tokens_at_space at [] some e = absurd (omega arith)
tokens_at_space at (b ∷ text) some e =
    ap (λ (c : Bool). cond c (tokens_from 0 (at + 1) text) (record { at = at; token = token_at (b ∷ text) } ∷ tokens_from (bytes_behind (b ∷ text)) (at + 1) text)) e

after_token : (n at b : ℕ) (text : List ℕ) → tokens_from n (at + 1) text ≡ tokens_from 0 (at + (1 + n)) (drop (1 + n) (b ∷ text))
after_token n at b text =
    let place : at + 1 + n ≡ at + (1 + n) = omega arith in
    let more : suc n ≡ 1 + n = omega arith in
    tokens_from-drop n (at + 1) text
    ∙ (ap (λ (k : ℕ). tokens_from 0 k (drop n text)) place ∙ ap (λ (k : ℕ). tokens_from 0 (at + (1 + n)) (drop k (b ∷ text))) more)

-- at another byte a token begins
pub tokens_at_token : (at : ℕ) (text : List ℕ) → 0 < length text → is_space (get_or text 0 0) ≡ false
    → tokens_from 0 at text ≡ record { at = at; token = token_at text } ∷ tokens_from 0 (at + (1 + bytes_behind text)) (drop (1 + bytes_behind text) text)
tokens_at_token at [] some e = absurd (omega arith)
tokens_at_token at (b ∷ text) some e =
    let first : Placed = record { at = at; token = token_at (b ∷ text) } in
    ap (λ (c : Bool). cond c (tokens_from 0 (at + 1) text) (first ∷ tokens_from (bytes_behind (b ∷ text)) (at + 1) text)) e
    ∙ ap (λ (ts : List Placed). first ∷ ts) (after_token (bytes_behind (b ∷ text)) at b text)
