-- How a report is cut into lines, and a line into words.
use Rattle.std.specs.Prelude.{ℕ, List, [], ◌∷◌, Bool, true, false, ◌||◌, ◌==◌, if◌then◌else◌}
use Rattle.std.specs.List.{onto_first}

-- the first line of a text, with its line feed
abbrev pub first_line : List ℕ → List ℕ
first_line [] = []
first_line (b ∷ text) = b ∷ (if b == 10 then [] else first_line text)

-- what a text has behind its first line
abbrev pub behind_line : List ℕ → List ℕ
behind_line [] = []
behind_line (b ∷ text) = if b == 10 then text else behind_line text

-- a space or a line feed
abbrev pub is_end : ℕ → Bool
is_end b = (b == 10) || (b == 32)

-- the words of a text, cut at each space and at its line feed
abbrev pub cut_words : List ℕ → List (List ℕ)
cut_words [] = [] ∷ []
cut_words (b ∷ text) = if b == 10 then [] ∷ [] else if b == 32 then [] ∷ cut_words text else onto_first b (cut_words text)

-- the words behind the first, where this is what stands behind it: nothing, or a space or a line feed and what follows
abbrev pub later_words : List ℕ → List (List ℕ)
later_words [] = []
later_words (b ∷ text) = if b == 10 then [] else cut_words text

-- there is no word
abbrev pub are_none : List (List ℕ) → Bool
are_none [] = true
are_none (word ∷ words) = false
