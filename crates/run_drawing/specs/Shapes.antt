-- The shapes of a drawing, as SVG spells them. Places and sizes are in pixels.
use Rattle.std.specs.Prelude.{ℕ, List, [], ◌∷◌, ◌++◌, codes, if◌then◌else◌, ◌==◌}
use Rattle.std.specs.List.{flat_map}
use Rattle.std.specs.Fmt.{decimal}

-- a byte of a text, where `&` and `<` have a meaning of their own
abbrev pub escaped_byte : ℕ → List ℕ
escaped_byte b = if b == 38 then codes "&amp;" else if b == 60 then codes "&lt;" else b ∷ []

-- a text, where `&` and `<` have a meaning of their own
abbrev pub escaped : List ℕ → List ℕ
escaped text = flat_map escaped_byte text

-- where a shape stands
unfoldable pub place_text : ℕ → ℕ → List ℕ
place_text x y = codes "' x='" ++ decimal x ++ codes "' y='" ++ decimal y

-- how wide and high a shape is
unfoldable pub size_text : ℕ → ℕ → List ℕ
size_text width height = codes "' width='" ++ decimal width ++ codes "' height='" ++ decimal height

-- from where a level line goes, and how far
unfoldable pub level_text : ℕ → ℕ → ℕ → List ℕ
level_text x y width = codes "' d='M" ++ decimal x ++ codes " " ++ decimal y ++ codes "h" ++ decimal width

-- a rectangle
unfoldable pub box_text : List ℕ → ℕ → ℕ → ℕ → ℕ → List ℕ
box_text class x y width height = codes "<rect class='" ++ class ++ place_text x y ++ size_text width height ++ codes "'/>"

-- a level line
unfoldable pub line_text : List ℕ → ℕ → ℕ → ℕ → List ℕ
line_text class x y width = codes "<path class='" ++ class ++ level_text x y width ++ codes "'/>"

-- words that begin at a place
unfoldable pub word_text : List ℕ → ℕ → ℕ → List ℕ → List ℕ
word_text class x y words = codes "<text class='" ++ class ++ place_text x y ++ codes "'>" ++ words ++ codes "</text>"

-- a mark: shapes, and what is told under the pointer
unfoldable pub mark_text : List ℕ → List ℕ → List ℕ
mark_text title shapes = codes "<g><title>" ++ title ++ codes "</title>" ++ shapes ++ codes "</g>" ++ 10 ∷ []
