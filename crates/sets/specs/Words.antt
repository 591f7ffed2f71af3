-- Words of forward letters in an area.
use Rattle.std.specs.Prelude.{List, ℕ, take, drop}
use Rattle.model.specs.Word.{Positive}
use Rattle.sets.specs.declared.words.Span.{Span}

-- the letters of a word of the area
abbrev pub spanned : Span → List ℕ → Positive
spanned s area = take s.letters (drop s.at area)
