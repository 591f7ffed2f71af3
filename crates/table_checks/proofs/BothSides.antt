-- L at the workspace's start and R after it: what the code knows once both are worked out.
use mathlib.Core.Path.{◌≡◌, sym, ap, subst, ◌∙◌}
use mathlib.Core.List.{List, [], ◌∷◌, ◌++◌}
use mathlib.Core.Bool.{false}
use Prim.Native.Nat.{ℕ, ◌-◌, ◌≤◌}
use native.Mathlib.Omega.{arith}
use lib.ListN.{length, take, drop, length-take, length-drop}
use Rattle.model.specs.Word.{Positive, positive, negative}
use Rattle.model.specs.Presentation.{Presentation}
use Rattle.model.specs.Reversing.{reversing}
use Rattle.model.specs.Checks.{empties, side}
use Rattle.model.specs.declared.answers.Stop.{Stop}
use Rattle.engine.specs.Gap.{letters}
use Rattle.cells.specs.Stands.{Serves}
use Rattle.engine.proofs.Letters.{length_letters}
use Rattle.engine.proofs.Lettering.{length_positive}
use Rattle.std.specs.Prelude.{Some, None, Ok, Err}
use Rattle.model.specs.declared.answers.Triple.{Triple}
use Rattle.table_checks.specs.Residuals.{ResidualAnswer, letters_of, Works, Stored, SideWorks}
use Rattle.table_checks.specs.Cube.{CubeAnswer, cube_answer, Sides, RightSide}
use Rattle.table_checks.proofs.Sides.{FoundWord, was_found}
use Rattle.table_checks.proofs.Triples.{rest, right_missing, right_halts, both_words}

-- the other order of a triple's first two letters
abbrev pub other : Triple → Triple
other p = record { a = p.b; b = p.a; c = p.c }

pub turned_serves : {cells : List ℕ} {a b c : ℕ} {T : Presentation} → Serves cells (positive (a ∷ b ∷ c ∷ [])) T → Serves cells (positive (b ∷ a ∷ c ∷ [])) T
turned_serves t = record { stands = t.stands; lettered = (t.lettered.1.0, (t.lettered.0, t.lettered.1.1)) }

stored_fits : (size : ℕ) (n : Positive) (bytes : List ℕ) → Stored size n bytes → length n ≤ length bytes
stored_fits size n bytes s =
    let e = ap length s.letters_are ∙ length_positive n in
    let f : length (letters (take (length n) bytes)) ≤ length bytes = simp (length_letters, length-take) (omega arith) in
    omega arith

-- L is a word, worked out in the workspace
module _ (cells bytes : List ℕ) (kept : ℕ) (p : Triple) (budget : ℕ) (l : SideWorks cells p budget bytes (Ok (Some kept))) (T : Presentation)
    (t : Serves cells (letters_of p) T) where
  left_found : FoundWord T.size bytes (side T budget (length bytes) p.a p.b p.c) kept
  left_found = was_found (side T budget (length bytes) p.a p.b p.c) kept (l T t)

  pub kept_fits : kept ≤ length bytes
  kept_fits = omega (arith, left_found.count, stored_fits T.size left_found.word bytes left_found.stored)

  module _ (after : List ℕ) where
    room_left : length after ≡ length bytes → length (drop kept after) ≡ length bytes - length left_found.word
    room_left k = length-drop kept after ∙ omega (arith, left_found.count)

    works_after : (v : ResidualAnswer) → RightSide cells bytes kept (other p) budget after v
        → Works T.size (side T budget (length bytes - length left_found.word) p.b p.a p.c) (drop kept after) v
    works_after v r =
        subst (λ i. Works T.size (side T budget i p.b p.a p.c) (drop kept after) v) (room_left r.same_length) (r.works T (turned_serves t))

    pub no_right_side : RightSide cells bytes kept (other p) budget after (Ok None) → Ok false ≡ cube_answer (rest T budget (length bytes) p.a p.b p.c)
    no_right_side r = right_missing T budget (length bytes) p.a p.b p.c left_found.word left_found.is (drop kept after) (works_after (Ok None) r)

    pub right_side_halts : (s : Stop) → RightSide cells bytes kept (other p) budget after (Err s)
        → Err s ≡ cube_answer (rest T budget (length bytes) p.a p.b p.c)
    right_side_halts s r = right_halts T budget (length bytes) p.a p.b p.c left_found.word left_found.is s (drop kept after) (works_after (Err s) r)

    -- both are words
    module _ (count : ℕ) (r : RightSide cells bytes kept (other p) budget after (Ok (Some count))) where
      right_found : FoundWord T.size (drop kept after) (side T budget (length (drop kept after)) p.b p.a p.c) count
      right_found = was_found (side T budget (length (drop kept after)) p.b p.a p.c) count (r.works T (turned_serves t))

      abbrev left : Positive
      left = left_found.word

      abbrev right : Positive
      right = right_found.word

      stand : Sides cells after kept count T left right
      stand =
          let f : length right ≤ length (drop kept after) = stored_fits T.size right (drop kept after) right_found.stored in
          let d = length-drop kept after in
          record {
            stands = t.stands;
            l_count = sym left_found.count;
            r_count = sym right_found.count;
            l_letters = ap letters r.front ∙ (ap (λ i. letters (take i bytes)) left_found.count ∙ left_found.stored.letters_are);
            r_letters = ap (λ i. letters (take i (drop kept after))) right_found.count ∙ right_found.stored.letters_are;
            l_named = left_found.stored.lettered;
            r_named = right_found.stored.lettered;
            fit = omega (arith, kept_fits, r.same_length, right_found.count);
          }

      pub both_found : (l r : Positive) × Sides cells after kept count T l r
          × ((v : CubeAnswer) → v ≡ cube_answer (empties (reversing T budget (length after) (negative l ++ positive r)))
          → v ≡ cube_answer (rest T budget (length bytes) p.a p.b p.c))
      both_found = (
        left,
        right,
        stand,
        λ v e. e
            ∙ (ap (λ i. cube_answer (empties (reversing T budget i (negative left ++ positive right)))) r.same_length
            ∙ both_words T budget (length bytes) p.a p.b p.c left left_found.is right
            (ap (λ i. side T budget i p.b p.a p.c) (sym (room_left r.same_length)) ∙ right_found.is)),
      )
