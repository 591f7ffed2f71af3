-- The bits of the program that bytes say.
use Rattle.std.specs.Prelude.{List, ◌++◌, map, ℕ, length}
use Rattle.model.specs.Word.{letter}
use Rattle.model.specs.Enumeration.{concat_map}
use Rattle.model.specs.Bits.{digits}
use Rattle.model.specs.Images.{count_width, signed_bits}

unfoldable pub program_bits : ℕ → List ℕ → List ℕ
program_bits size plain = digits count_width (length plain) ++ concat_map (signed_bits size) (map letter plain)
