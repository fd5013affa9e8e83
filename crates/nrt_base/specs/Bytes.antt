-- Which bytes a key, a text, a word and the bytes of a header may have.
use Rattle.std.specs.Prelude.{ℕ, List, length, Bool, nat_le, ◌&&◌, ◌||◌}
use Rattle.std.specs.List.{list_all}

-- a byte from `low` to `high`
abbrev pub is_between : ℕ → ℕ → ℕ → Bool
is_between low high b = nat_le low b && nat_le b high

-- a byte that a key may have: printable, and no space
abbrev pub is_key_byte : ℕ → Bool
is_key_byte b = is_between 33 126 b

-- a byte that a text may have: printable
abbrev pub is_text_byte : ℕ → Bool
is_text_byte b = is_between 32 126 b

-- a small letter or a digit
abbrev pub is_word_byte : ℕ → Bool
is_word_byte b = is_between 97 122 b || is_between 48 57 b

-- 1 to 64 printable bytes without a space
abbrev pub is_key : List ℕ → Bool
is_key bytes = is_between 1 64 (length bytes) && list_all is_key_byte bytes

-- at most 4,096 printable bytes
abbrev pub is_text : List ℕ → Bool
is_text bytes = nat_le (length bytes) 4096 && list_all is_text_byte bytes

-- at least one byte, and only small letters and digits
abbrev pub is_word : List ℕ → Bool
is_word bytes = nat_le 1 (length bytes) && list_all is_word_byte bytes

-- at most 408 bytes, of any kind
abbrev pub is_header : List ℕ → Bool
is_header bytes = nat_le (length bytes) 408
