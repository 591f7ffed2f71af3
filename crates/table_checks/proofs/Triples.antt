-- The cube rule at one triple: its two sides, their agreement, and each way in which it ends.
use mathlib.Core.Path.{◌≡◌, refl, sym, ap, ap₂, ◌∙◌}
use mathlib.Core.List.{List, [], ◌∷◌, ◌++◌}
use mathlib.Core.Bool.{Bool, true, false, not, cond}
use Prim.Native.Nat.{ℕ, suc, ◌-◌}
use native.Mathlib.Omega.{arith}
use borrow.Author.Tests.{ne_eqb}
use lib.Dec.{eqb}
use lib.ListN.{length, take, drop}
use Rattle.model.specs.Word.{Positive, positive, negative, inverse}
use Rattle.model.specs.Presentation.{Presentation, undefined, complement, complete}
use Rattle.model.specs.Reversing.{Ending, finished, open_pair, stopped, no_budget, no_room, reversing}
use Rattle.model.specs.Enumeration.{Three}
use Rattle.model.specs.Checks.{Residual, residual, missing, halted, CubeVerdict, empties, both_missing, both_there, where_defined, side, against, cube_at}
use Rattle.model.specs.Stated.{ending_answer}
use Rattle.model.specs.declared.answers.Ending.{Ending as EndingAnswer}
use Rattle.model.specs.declared.answers.Stop.{Stop}
use Rattle.engine.specs.Gap.{letters, word_at, Searched}
use Rattle.cells.specs.Stands.{Serves}
use Rattle.engine.specs.Run.{Reverses}
use Rattle.engine.proofs.Loads.{loaded, load_searched, load_serves}
use Rattle.engine.specs.Words.{Inverted, Moved}
use Rattle.std.specs.Prelude.{Option, Some, None, is_some, Ok, Err}
use Rattle.table_checks.specs.Residuals.{Works}
use Rattle.table_checks.specs.Cube.{verdict_of, cube_answer, Sides}
use Rattle.model.proofs.Impossible.{impossible}
use Rattle.table_checks.proofs.Sides.{was_missing, was_halted}

-- whether a reversing ended empty, as it is told
verdict_answer : (e : Ending) → verdict_of (ending_answer e) ≡ cube_answer (empties e)
verdict_answer (finished [] [] k r) = refl
verdict_answer (finished [] (x ∷ d) k r) = ap (λ t. cond t (Ok true) (Ok false)) (ne_eqb (suc (length d)) 0 (λ e. omega arith))
verdict_answer (finished (x ∷ n) d k r) =
    ap (λ t. cond t (cond (eqb (length d) 0) (Ok true) (Ok false)) (Ok false)) (ne_eqb (suc (length n)) 0 (λ e. omega arith))
verdict_answer (open_pair a b k) = refl
verdict_answer (stopped no_budget) = refl
verdict_answer (stopped no_room) = refl

-- L inverted where it stood and R moved to the end are a word that is loaded
module _ {cells bytes mid last : List ℕ} {left right : ℕ} {T : Presentation} {l r : Positive} (s : Sides cells bytes left right T l r)
    (i : Inverted bytes left mid) (m : Moved mid left right last) where
  left_word : letters (take left last) ≡ negative l
  left_word = ap letters m.kept ∙ (i.inverted ∙ ap inverse s.l_letters)

  right_word : letters (drop (length last - right) last) ≡ positive r
  right_word = m.moved ∙ (ap (λ t. letters (take right t)) i.rest ∙ s.r_letters)

  last_length : length last ≡ length bytes
  last_length = m.same_length ∙ i.same_length

  pub agree_searched : Searched last left (length last - right)
  agree_searched =
      load_searched last left (length last - right) l r (omega (arith, last_length, s.fit)) (omega arith) left_word right_word

  pub agree_serves : Serves cells (word_at last left (length last - right)) T
  agree_serves =
      load_serves last left (length last - right) l r (omega (arith, last_length, s.fit)) (omega arith) left_word right_word s.stands s.l_named
      s.r_named

  pub agree_verdict : (budget : ℕ) (after : List ℕ) (v : EndingAnswer) → length after ≡ length last
      → Reverses T (word_at last left (length last - right)) budget after v
      → verdict_of v ≡ cube_answer (empties (reversing T budget (length bytes) (negative l ++ positive r)))
  agree_verdict budget after v n p =
      let w : word_at last left (length last - right) ≡ negative l ++ positive r =
      loaded last left (length last - right) l r (omega (arith, last_length, s.fit)) (omega arith) left_word right_word in
      ap verdict_of p.answer
      ∙ (verdict_answer (reversing T budget (length after) (word_at last left (length last - right)))
      ∙ ap₂ (λ i u. cube_answer (empties (reversing T budget i u))) (n ∙ last_length) w)

-- ONE TRIPLE

module _ (T : Presentation) (budget room a b c : ℕ) where
  abbrev triple : Three
  triple = record { a = a; b = b; c = c }

  -- what is left to do once L is known
  abbrev pub rest : CubeVerdict
  rest = against T budget room a b c (side T budget room a b c)

  at_triple : cube_at T budget room triple ≡ where_defined (complete T a b) rest
  unfolding cube_at
  at_triple = refl

  -- specification 4.4: where the pair a, b is open the triple passes, and nothing is reversed
  pub open_holds : complete T a b ≡ undefined → Ok true ≡ cube_answer (cube_at T budget room triple)
  open_holds e = sym (ap cube_answer (at_triple ∙ ap (λ p. where_defined p rest) e))

  pub goes_on : (x y : Positive) → complete T a b ≡ complement x y → cube_answer rest ≡ cube_answer (cube_at T budget room triple)
  goes_on x y e = sym (ap cube_answer (at_triple ∙ ap (λ p. where_defined p rest) e))

  pub left_halts : (s : Stop) (area : List ℕ) → Works T.size (side T budget room a b c) area (Err s) → Err s ≡ cube_answer rest
  unfolding against
  left_halts s area w =
      let h = was_halted (side T budget room a b c) s w in
      ap Err h.2 ∙ sym (ap (λ m. cube_answer (against T budget room a b c m)) h.1)

  -- L is undefined
  missing_answer : (m : Residual) (area : List ℕ) (v : Option ℕ) (none : Bool) → is_some v ≡ not none → Works T.size m area (Ok v)
      → Ok none ≡ cube_answer (both_missing m)
  missing_answer (residual n) area v false e w = refl
  missing_answer (residual n) area v true e w =
      let h = w.answer in let f : v ≡ Some (length n) = cc in let g : is_some v ≡ true = ap is_some f in impossible (cc)
  missing_answer missing area v true e w = refl
  missing_answer missing area v false e w = let h = w.answer in let f : v ≡ None = cc in let g : is_some v ≡ false = ap is_some f in impossible (cc)
  missing_answer (halted s) area v none e w = let h = w.answer in impossible (cc)

  by_missing : (area : List ℕ) → Works T.size (side T budget room a b c) area (Ok None)
      → cube_answer (both_missing (side T budget room b a c)) ≡ cube_answer rest
  unfolding against
  by_missing area w = sym (ap (λ m. cube_answer (against T budget room a b c m)) (was_missing (side T budget room a b c) w))

  pub left_missing : (area area' : List ℕ) (v : Option ℕ) (none : Bool) → is_some v ≡ not none → Works T.size (side T budget room a b c) area (Ok None)
      → Works T.size (side T budget room b a c) area' (Ok v) → Ok none ≡ cube_answer rest
  left_missing area area' v none e w w' = missing_answer (side T budget room b a c) area' v none e w' ∙ by_missing area w

  pub missing_halts : (area area' : List ℕ) (s : Stop) → Works T.size (side T budget room a b c) area (Ok None)
      → Works T.size (side T budget room b a c) area' (Err s) → Err s ≡ cube_answer rest
  missing_halts area area' s w w' =
      let h = was_halted (side T budget room b a c) s w' in
      ap Err h.2 ∙ (sym (ap (λ m. cube_answer (both_missing m)) h.1) ∙ by_missing area w)

  -- L is the word l
  module _ (l : Positive) (el : side T budget room a b c ≡ residual l) where
    there : (m : Residual) → side T budget (room - length l) b a c ≡ m
        → cube_answer (both_there (λ r. empties (reversing T budget room (negative l ++ positive r))) m) ≡ cube_answer rest
    unfolding against
    there m e =
        sym (ap cube_answer (ap (against T budget room a b c) el ∙ ap (both_there (λ r. empties (reversing T budget room (negative l ++ positive r)))) e))

    pub right_missing : (area : List ℕ) → Works T.size (side T budget (room - length l) b a c) area (Ok None) → Ok false ≡ cube_answer rest
    right_missing area w = there missing (was_missing (side T budget (room - length l) b a c) w)

    pub right_halts : (s : Stop) (area : List ℕ) → Works T.size (side T budget (room - length l) b a c) area (Err s) → Err s ≡ cube_answer rest
    right_halts s area w = let h = was_halted (side T budget (room - length l) b a c) s w in ap Err h.2 ∙ there (halted h.0) h.1

    pub both_words : (r : Positive) → side T budget (room - length l) b a c ≡ residual r
        → cube_answer (empties (reversing T budget room (negative l ++ positive r))) ≡ cube_answer rest
    both_words r er = there (residual r) er
