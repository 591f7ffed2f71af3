-- The tables and programs of the cases of specification 10, tables by its letters, and of the further sample cases.
use mathlib.Core.List.{List, [], ◌∷◌}
use Prim.Native.Nat.{ℕ}
use lib.ListN.{replicate}
use Rattle.model.specs.Word.{forward, back, Word, Positive, positive}
use Rattle.model.specs.Presentation.{Presentation, Complement, undefined, complement}
use Rattle.model.specs.Images.{table_image, program_image}

-- letters that all weigh 1
abbrev even : ℕ → List ℕ
even n = replicate n 0

-- table B, the braid table of 3 letters (specification 2.4)
abbrev pub braid3 : Presentation
braid3 =
    record {
      size = 3;
      excess = even 3;
      rows =
          (complement (2 ∷ 1 ∷ []) (1 ∷ 2 ∷ []) ∷ complement (3 ∷ []) (1 ∷ []) ∷ []) ∷
          (complement (3 ∷ 2 ∷ []) (2 ∷ 3 ∷ []) ∷ []) ∷ [] ∷ [];
    }

-- table S
abbrev pub braid1 : Presentation
braid1 = record { size = 1; excess = even 1; rows = [] ∷ [] }

-- the braid table of 2 letters
abbrev pub braid2 : Presentation
braid2 = record { size = 2; excess = even 2; rows = (complement (2 ∷ 1 ∷ []) (1 ∷ 2 ∷ []) ∷ []) ∷ [] ∷ [] }

-- table O
abbrev pub open2 : Presentation
open2 = record { size = 2; excess = even 2; rows = (undefined ∷ []) ∷ [] ∷ [] }

-- three letters with the pairs 1, 2; 1, 3; 2, 3
abbrev pub three : Complement → Complement → Complement → Presentation
three p q r = record { size = 3; excess = even 3; rows = (p ∷ q ∷ []) ∷ (r ∷ []) ∷ [] ∷ [] }

-- table K, which breaks the cube rule
abbrev pub broken3 : Presentation
broken3 = three (complement (2 ∷ []) (1 ∷ [])) (complement (3 ∷ []) (1 ∷ [])) (complement (1 ∷ []) (1 ∷ []))

-- two letters with 1 2 1 = 2 2, by their weights less 1
abbrev pub two : ℕ → ℕ → Presentation
two i j = record { size = 2; excess = i ∷ j ∷ []; rows = (complement (2 ∷ 1 ∷ []) (2 ∷ []) ∷ []) ∷ [] ∷ [] }

-- table U, whose sides differ in weight, and table H, where the second letter weighs 2
abbrev pub unequal2 : Presentation
unequal2 = two 0 0

abbrev pub heavy2 : Presentation
heavy2 = two 0 1

-- table E, C(a,b) = b a throughout
abbrev pub endless3 : Presentation
endless3 =
    three (complement (2 ∷ 1 ∷ []) (1 ∷ 2 ∷ [])) (complement (3 ∷ 1 ∷ []) (1 ∷ 3 ∷ [])) (complement (3 ∷ 2 ∷ []) (2 ∷ 3 ∷ []))

-- three letters with 1 3 = 2 1 and 1 2 = 3 3, and the pair 2, 3 open: this table clears, and its mirror does not
abbrev pub mirror_fails3 : Presentation
mirror_fails3 = three (complement (3 ∷ []) (1 ∷ [])) (complement (2 ∷ []) (3 ∷ [])) undefined

abbrev pub image : Presentation → List ℕ
image T = table_image T

-- a program image, of any word and of a positive one
abbrev pub log : ℕ → Word → List ℕ
log n w = program_image n w

abbrev pub pattern : ℕ → Positive → List ℕ
pattern n u = program_image n (positive u)

-- the image of table B, as specification 10 has it
abbrev pub braid_bytes : List ℕ
braid_bytes = 0x20 ∷ 0x04 ∷ 0x90 ∷ 0x86 ∷ 0x30 ∷ 0x92 ∷ 0x92 ∷ 0x60 ∷ []

-- the program of case 1, and its image as specification 10 has it
abbrev pub first : Word
first = back 3 ∷ forward 1 ∷ back 2 ∷ forward 1 ∷ forward 2 ∷ []

abbrev pub first_bytes : List ℕ
first_bytes = 0x00 ∷ 0x5c ∷ 0x28 ∷ 0x20 ∷ []

-- the program of case 5
abbrev pub second : Word
second = back 2 ∷ back 3 ∷ back 1 ∷ forward 1 ∷ forward 1 ∷ forward 2 ∷ forward 3 ∷ []
