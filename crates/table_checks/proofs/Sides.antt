-- (a\b)\(a\c) from its three reversings: each way in which it is worked out.
use mathlib.Core.Path.{◌≡◌, refl, ap, ◌∙◌}
use mathlib.Core.Bool.{true, false}
use mathlib.Core.List.{List, [], ◌∷◌}
use Prim.Native.Nat.{ℕ}
use native.Mathlib.Omega.{arith}
use lib.ListN.{length, get_or}
use Rattle.model.specs.Word.{Word, Positive, positive}
use Rattle.model.specs.Presentation.{Presentation, complement, complete}
use Rattle.model.specs.Reversing.{Stop as ModelStop}
use Rattle.model.specs.Checks.{Residual, residual, missing, halted, and_then, under, side}
use Rattle.model.specs.Stated.{stop_answer}
use Rattle.model.specs.declared.answers.Stop.{Stop}
use Rattle.model.proofs.Impossible.{impossible}
use Rattle.model.proofs.Residuals.{residual_letters, under_residual}
use Rattle.cells.specs.Layout.{cell_at}
use Rattle.model.specs.Range.{InRange}
use Rattle.cells.specs.Stands.{Serves}
use Rattle.std.specs.Prelude.{Option, Some, None, is_some, Ok, Err}
use Rattle.table_checks.specs.Residuals.{residual_answer, Stored, Works}
use Rattle.table_checks.proofs.CellWords.{cell_of}

-- a residual that is a word of k letters at the workspace's start
pub record FoundWord (size : ℕ) (bytes : List ℕ) (m : Residual) (k : ℕ) : Type 0 where
  pub word : Positive
  pub is : m ≡ residual word
  pub count : k ≡ length word
  pub stored : Stored size word bytes

-- what an answer says of the model's residual
module _ {size : ℕ} {bytes : List ℕ} where
  pub was_missing : (m : Residual) → Works size m bytes (Ok None) → m ≡ missing
  was_missing (residual n) w = let e = w.answer in impossible (cc)
  was_missing missing w = refl
  was_missing (halted s) w = let e = w.answer in impossible (cc)

  pub was_found : (m : Residual) (k : ℕ) → Works size m bytes (Ok (Some k)) → FoundWord size bytes m k
  was_found (residual n) k w = let e = w.answer in record { word = n; is = refl; count = cc; stored = w.stores }
  was_found missing k w = let e = w.answer in impossible (cc)
  was_found (halted s) k w = let e = w.answer in impossible (cc)

  pub was_halted : (m : Residual) (s : Stop) → Works size m bytes (Err s) → (h : ModelStop) × (m ≡ halted h) × (s ≡ stop_answer h)
  was_halted (residual n) s w = let e = w.answer in impossible (cc)
  was_halted missing s w = let e = w.answer in impossible (cc)
  was_halted (halted h) s w = let e = w.answer in (h, refl, cc)

-- two letters of three
module _ {cells : List ℕ} {a b c : ℕ} {T : Presentation} (t : Serves cells (positive (a ∷ b ∷ c ∷ [])) T) where
  pub without_third : Serves cells (positive (a ∷ b ∷ [])) T
  without_third = record { stands = t.stands; lettered = (t.lettered.0, (t.lettered.1.0, tt)) }

  pub without_second : Serves cells (positive (a ∷ c ∷ [])) T
  without_second = record { stands = t.stands; lettered = (t.lettered.0, (t.lettered.1.1.0, tt)) }

-- an inner residual that is no word is the side's
ends_there : {size : ℕ} {bytes : List ℕ} (m : Residual) (f : Positive → Residual) (s : Stop) → Err s ≡ residual_answer m
    → Works size (and_then m f) bytes (Err s)
ends_there (residual n) f s e = impossible (cc)
ends_there missing f s e = impossible (cc)
ends_there (halted h) f s e = record { answer = e; stores = tt }

no_word : {size : ℕ} {bytes : List ℕ} (m : Residual) (f : Positive → Residual) (v : Option ℕ) → is_some v ≡ false → Ok v ≡ residual_answer m
    → Works size (and_then m f) bytes (Ok None)
no_word (residual n) f v none e = let h : v ≡ Some (length n) = cc in let g : is_some v ≡ true = ap is_some h in impossible (cc)
no_word missing f v none e = record { answer = refl; stores = tt }
no_word (halted h) f v none e = impossible (cc)

-- and the one that goes on
pub a_word : (m : Residual) (v : Option ℕ) → is_some v ≡ true → Ok v ≡ residual_answer m → (x : Positive) × (m ≡ residual x)
a_word (residual n) v some e = (n, refl)
a_word missing v some e = let h : v ≡ None = cc in let g : is_some v ≡ false = ap is_some h in impossible (cc)
a_word (halted s) v some e = impossible (cc)

module _ (T : Presentation) (budget room a b c : ℕ) where
  abbrev to_b : Residual
  to_b = under T budget room (a ∷ []) (b ∷ [])

  abbrev to_c : Residual
  to_c = under T budget room (a ∷ []) (c ∷ [])

  -- the case of each inner residual
  side_by : side T budget room a b c ≡ and_then to_b (λ x. and_then to_c (λ y. under T budget room x y))
  unfolding side
  side_by = refl

  pub first_halts : (bytes : List ℕ) (s : Stop) → Err s ≡ residual_answer to_b → Works T.size (side T budget room a b c) bytes (Err s)
  first_halts bytes s e = rw side_by (ends_there to_b (λ x. and_then to_c (λ y. under T budget room x y)) s e)

  pub first_missing : (bytes : List ℕ) (v : Option ℕ) → is_some v ≡ false → Ok v ≡ residual_answer to_b
      → Works T.size (side T budget room a b c) bytes (Ok None)
  first_missing bytes v none e = rw side_by (no_word to_b (λ x. and_then to_c (λ y. under T budget room x y)) v none e)

  module _ (x : Positive) (ex : to_b ≡ residual x) where
    pub second_halts : (bytes : List ℕ) (s : Stop) → Err s ≡ residual_answer to_c → Works T.size (side T budget room a b c) bytes (Err s)
    second_halts bytes s e = rw (side_by, ex) (ends_there to_c (λ y. under T budget room x y) s e)

    pub second_missing : (bytes : List ℕ) (v : Option ℕ) → is_some v ≡ false → Ok v ≡ residual_answer to_c
        → Works T.size (side T budget room a b c) bytes (Ok None)
    second_missing bytes v none e = rw (side_by, ex) (no_word to_c (λ y. under T budget room x y) v none e)

    pub both_found : (y : Positive) → to_c ≡ residual y → side T budget room a b c ≡ under T budget room x y
    both_found y ey = side_by ∙ rw (ex, ey) refl

-- a residual of two letters that is found is their complement
module _ (T : Presentation) (budget room a b : ℕ) {x : Positive} (e : under T budget room (a ∷ []) (b ∷ []) ≡ residual x) where
  pub found_other : Positive
  found_other = (under_residual T budget room (a ∷ []) (b ∷ []) e).0

  pub found_rule : complete T a b ≡ complement x found_other
  unfolding found_other
  found_rule = residual_letters T a b (under_residual T budget room (a ∷ []) (b ∷ []) e).1

  -- so its cell is not that of an undefined pair
  pub found_cell : {cells : List ℕ} {word : Word} → Serves cells word T → InRange T.size a → InRange T.size b → get_or cells (cell_at a b) 0 ≡ 255 → ⊥
  found_cell s ra rb h = let w = cell_of s a b ra rb x found_other found_rule in omega (arith, w.count, w.short)
