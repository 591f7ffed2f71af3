-- The width of a letter's field.
use Rattle.std.specs.Prelude.{◌≡◌, ℕ, ◌≤◌}
use Rattle.model.specs.Bits.{letter_width}
use Rattle.model.specs.Images.{most_size, size_width}

-- the width of a letter's field under `size` letters
pub record WidthOf (size width : ℕ) : Type 0 where
  pub few : size ≤ most_size
  pub narrow : width ≤ size_width
  pub width_is : width ≡ letter_width size
