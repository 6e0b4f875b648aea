-- The order that a text gives.
use Rattle.std.specs.Prelude.{◌≡◌, ℕ, List, ◌∷◌, length, map, position, Option, unwrap_or}
use Rattle.std.specs.Str.{bytes_eq}
use Rattle.pm_design.specs.declared.plan.Flat.{Flat}
use Rattle.pm_io.specs.Lines.{Line, content, lines_of}

-- the number of the block with this name
abbrev pub place_of : List Flat → List ℕ → Option ℕ
place_of blocks name = position (λ block. bytes_eq block.name name) blocks

-- the number of the block with this name, and if there is none the number of blocks
abbrev pub number_of : List Flat → List ℕ → ℕ
number_of blocks name = unwrap_or (place_of blocks name) (length blocks)

-- the numbers of the blocks that the lines name
unfoldable pub order_of : List Flat → List ℕ → List ℕ
order_of blocks text = map (λ line. number_of blocks (content line)) (lines_of text)

-- a text begins with a line of this content, and then comes the text after it
pub record CutsLine (text line after : List ℕ) : Type 0 where
  pub first : Line
  pub cut : lines_of text ≡ first ∷ lines_of after
  pub content_is : content first ≡ line
