-- The words of a text.
use Rattle.std.specs.Prelude.{ℕ, ◌+◌, List, [], ◌∷◌, ◌++◌, Bool, ◌||◌, bytes_eq, if◌then◌else◌}
use Rattle.std.specs.List.{list_any}
use Rattle.nrt_base.specs.Bytes.{is_between}

-- a capital letter
abbrev pub is_capital : ℕ → Bool
is_capital b = is_between 65 90 b

-- a letter or a digit
abbrev pub is_alphanumeric : ℕ → Bool
is_alphanumeric b = is_capital b || is_between 97 122 b || is_between 48 57 b

-- a capital made small
abbrev pub lower : ℕ → ℕ
lower b = if is_capital b then b + 32 else b

-- a run that ended here, if there was one, before the words that follow
abbrev pub with_run : List ℕ → List (List ℕ) → List (List ℕ)
with_run [] words = words
with_run (b ∷ run) words = (b ∷ run) ∷ words

-- the words of a text of which the run so far was read
abbrev pub words_after : List ℕ → List ℕ → List (List ℕ)
words_after run [] = with_run run []
words_after run (b ∷ text) =
    if is_alphanumeric b then words_after (run ++ lower b ∷ []) text
    else with_run run (words_after [] text)

-- the longest runs of letters and digits, in order, with capitals made small
abbrev pub words_of : List ℕ → List (List ℕ)
words_of text = words_after [] text

-- the word is among the words
abbrev pub has_word : List ℕ → List (List ℕ) → Bool
has_word word words = list_any (λ w. bytes_eq w word) words
