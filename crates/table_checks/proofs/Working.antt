-- What one reversing tells of a residual: that of words in the workspace, and that of two letters, which needs none.
use mathlib.Core.Path.{◌≡◌, refl, sym, ap, ap₂, subst, ◌∙◌}
use mathlib.Core.List.{List, [], ◌∷◌, ◌++◌, append-nil}
use Prim.Native.Nat.{ℕ, zero, suc, ◌+◌, ◌≤◌, ◌<◌}
use native.Mathlib.Omega.{arith}
use lib.ListN.{length, take, length-append}
use lib.Seq.{take-take, take_at}
use Rattle.model.specs.Word.{forward, back, Word, Positive, positive, negative, forwards}
use Rattle.model.specs.Presentation.{Presentation, undefined, complement, complete}
use Rattle.model.specs.Reversing.{Ending, finished, open_pair, stopped, no_budget, no_room, nowhere, site, reversing}
use Rattle.model.specs.Checks.{residual, of_ending, under}
use Rattle.model.specs.Stated.{ending_answer}
use Rattle.model.specs.declared.answers.Ending.{Ending as EndingAnswer}
use Rattle.model.specs.declared.answers.Stop.TheVariants.{Budget, Room}
use Rattle.model.proofs.Words.{fraction_nowhere, numerator_of}
use Rattle.model.proofs.Reversal.{prepended, reversing_long, reversing_none, reversing_open, reversing_spent, reversing_step}
use Rattle.engine.specs.Gap.{letters}
use Rattle.engine.specs.Run.{LeavesWord, LeavesLetters, Reverses}
use Rattle.engine.proofs.Letters.{letters_take}
use Rattle.engine.proofs.Lettering.{lettered_front, length_positive, length_negative}
use Rattle.std.specs.Prelude.{Some, None, Ok, Err}
use Rattle.table_checks.specs.Residuals.{ResidualAnswer, from_ending, residual_answer, Works}

-- the numerator stands at the start
ending_works : (size : ℕ) (e : Ending) (bytes : List ℕ) → LeavesWord e bytes → LeavesLetters size e
    → Works size (of_ending e) bytes (from_ending (ending_answer e))
ending_works size (finished n d k r) bytes h l =
    record {
      answer = refl;
      stores =
          record {
            letters_are =
                ap letters (sym (take-take (length n) (length n + length d) bytes (omega arith)))
                ∙ (letters_take (length n) (take (length n + length d) bytes)
                ∙ (ap (take (length n)) h ∙ take_at (positive n) (negative d) (length n) (length_positive n)));
            lettered = lettered_front size (positive n) (negative d) l;
          };
    }
ending_works size (open_pair a b k) bytes h l = record { answer = refl; stores = tt }
ending_works size (stopped no_budget) bytes h l = record { answer = refl; stores = tt }
ending_works size (stopped no_room) bytes h l = record { answer = refl; stores = tt }

-- a reversing of the inverse of u, then v, gives u\v
module _ (T : Presentation) (u v : Positive) (budget : ℕ) (bytes : List ℕ) where
  pub under_works : {word : Word} (r : EndingAnswer) → word ≡ negative u ++ positive v → Reverses T word budget bytes r
      → Works T.size (under T budget (length bytes) u v) bytes (from_ending r)
  unfolding under
  under_works {word} r e p =
      let w : reversing T budget (length bytes) word ≡ reversing T budget (length bytes) (negative u ++ positive v) =
      ap (reversing T budget (length bytes)) e in
      let q = ending_works T.size (reversing T budget (length bytes) word) bytes p.holds p.named in
      subst (λ d. Works T.size (of_ending d) bytes (from_ending r)) w
      (record { answer = ap from_ending p.answer ∙ q.answer; stores = q.stores })

  -- the two words together do not fit
  pub under_long : length bytes < length u + length v → Works T.size (under T budget (length bytes) u v) bytes (Err Room)
  unfolding under
  under_long h =
      let n : length (negative u ++ positive v) ≡ length u + length v =
      length-append (negative u) (positive v) ∙ ap₂ (λ i j. i + j) (length_negative u) (length_positive v) in
      let e : reversing T budget (length bytes) (negative u ++ positive v) ≡ stopped no_room =
      reversing_long T budget (length bytes) (negative u ++ positive v) (omega arith) in
      rw e (record { answer = refl; stores = tt })

-- TWO LETTERS: their reversing has one step, to C(a,b) and the inverse of C(b,a), so that no workspace is needed to tell how it ends. Specification 4.5.

abbrev ended_answer : Ending → ResidualAnswer
ended_answer d = residual_answer (of_ending d)

module _ (T : Presentation) (room a b : ℕ) where
  pub letters_long : (budget : ℕ) → room < 2 → Err Room ≡ residual_answer (under T budget room (a ∷ []) (b ∷ []))
  unfolding under
  letters_long budget h = sym (ap ended_answer (reversing_long T budget room (back a ∷ forward b ∷ []) (omega arith)))

  module _ (some : 2 ≤ room) where
    pub letters_open : (budget : ℕ) → complete T a b ≡ undefined → Ok None ≡ residual_answer (under T budget room (a ∷ []) (b ∷ []))
    unfolding under
    letters_open budget e = sym (ap ended_answer (reversing_open T budget room (back a ∷ forward b ∷ []) (omega arith) refl e))

    module _ (x y : Positive) (e : complete T a b ≡ complement x y) where
      pub letters_spent : (budget : ℕ) → budget ≡ 0 → Err Budget ≡ residual_answer (under T budget room (a ∷ []) (b ∷ []))
      unfolding under
      letters_spent zero z = sym (ap ended_answer (reversing_spent T room (back a ∷ forward b ∷ []) (omega arith) refl e))
      letters_spent (suc left) z = absurd (omega arith)

      -- the word after the step
      after : Word
      after = positive x ++ (negative y ++ [])

      after_is : after ≡ positive x ++ negative y
      unfolding after
      after_is = ap (λ w. positive x ++ w) (append-nil (negative y))

      after_length : length after ≡ length x + length y
      after_length =
          ap length after_is ∙ (length-append (positive x) (negative y) ∙ ap₂ (λ i j. i + j) (length_positive x) (length_negative y))

      stepped : (left : ℕ) → residual_answer (under T (suc left) room (a ∷ []) (b ∷ [])) ≡ ended_answer (prepended a b (reversing T left room after))
      unfolding under after
      stepped left = ap ended_answer (reversing_step T left room (back a ∷ forward b ∷ []) (omega arith) refl e)

      -- it does not fit; or it does, and has no site
      pub letters_wide : (budget : ℕ) → (budget ≡ 0 → ⊥) → room < length x + length y → Err Room ≡ residual_answer (under T budget room (a ∷ []) (b ∷ []))
      letters_wide zero z h = absurd (z refl)
      letters_wide (suc left) z h =
          sym (stepped left ∙ ap (λ d. ended_answer (prepended a b d)) (reversing_long T left room after (omega (arith, after_length))))

      pub letters_found : (budget : ℕ) → (budget ≡ 0 → ⊥) → length x + length y ≤ room
          → Ok (Some (length x)) ≡ residual_answer (under T budget room (a ∷ []) (b ∷ []))
      letters_found zero z h = absurd (z refl)
      letters_found (suc left) z h =
          let none : site after ≡ nowhere = ap site after_is ∙ fraction_nowhere x y in
          let numerator : forwards after ≡ x = ap forwards after_is ∙ numerator_of x y in
          sym (stepped left
          ∙ (ap (λ d. ended_answer (prepended a b d)) (reversing_none T left room after (omega (arith, after_length)) none)
          ∙ ap (λ n. residual_answer (residual n)) numerator))
