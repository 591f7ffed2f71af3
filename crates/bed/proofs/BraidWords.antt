-- What a cell's bytes tell of C(a,b) in the braid table.
use mathlib.Core.Path.{◌≡◌, refl, sym, ap, subst, ◌∙◌}
use mathlib.Core.List.{List, [], ◌∷◌}
use mathlib.Core.Bool.{Bool, true, false, cond}
use Prim.Native.Nat.{ℕ, zero, suc, ◌+◌, ◌≤◌, ◌<◌}
use native.Mathlib.Omega.{arith}
use lib.Dec.{eqb}
use lib.Pointwise.{pointwise}
use lib.ListN.{length, take, drop, get_or, length-drop}
use lib.Seq.{ext_get_or, length-take-le}
use Rattle.std.specs.Bool.{Decides}
use Rattle.std.proofs.lemmas.Bool.Decides.{Decides-eqb}
use Rattle.std.proofs.lemmas.List.{get_or-take, get_or-drop}
use Rattle.std.proofs.lemmas.Slice.Eq.{slice_eq-Decides}
use Rattle.model.specs.Word.{Positive}
use Rattle.model.specs.Presentation.{Presentation, Complement, undefined, complement, swapped, complete}
use Rattle.model.specs.Range.{InRange}
use Rattle.model.specs.Bed.{adjacent, braid_word}
use Rattle.model.proofs.Complete.{complete_turn}
use Rattle.model.specs.Images.{most_length}
use Rattle.cells.specs.Layout.{cell_at}
use Rattle.cells.specs.Stands.{HoldsFirst, HoldsWord, Stands}
use Rattle.bed.specs.BraidTable.{HasBraidWord, BraidPair}

-- THE WORD IN A CELL

pub near_word : (a b : ℕ) → true ≡ adjacent a b → braid_word a b ≡ b ∷ a ∷ []
near_word a b e = ap (λ t. cond t (b ∷ a ∷ []) (b ∷ [])) (sym e)

pub far_word : (a b : ℕ) → false ≡ adjacent a b → braid_word a b ≡ b ∷ []
far_word a b e = ap (λ t. cond t (b ∷ a ∷ []) (b ∷ [])) (sym e)

module _ (cells : List ℕ) (T : Presentation) (s : Stands cells T) (a b : ℕ) (ra : InRange T.size a) (rb : InRange T.size b) where
  -- the cell of a pair whose first word is known
  held : (w y : Positive) → complete T a b ≡ complement w y → HoldsWord T.size cells (cell_at a b) w
  held w y e = subst (HoldsFirst T.size cells (cell_at a b)) e (s.cell a b ra rb)

  -- the word that a cell's bytes spell
  spelled : (w : Positive) → length w ≤ most_length → get_or cells (cell_at a b) 0 ≡ length w
      → ((k : ℕ) → k < length w → get_or cells (cell_at a b + 1 + k) 0 ≡ get_or w k 0) → (y : Positive) × (complete T a b ≡ complement w y)
  spelled w short count letters = go (complete T a b) refl
    where
      go : (c : Complement) → complete T a b ≡ c → (y : Positive) × (complete T a b ≡ complement w y)
      go undefined e =
          let u : get_or cells (cell_at a b) 0 ≡ 255 = subst (HoldsFirst T.size cells (cell_at a b)) e (s.cell a b ra rb) in
          absurd (omega arith)
      go (complement x y) e =
          let h = held x y e in
          let n : length x ≡ length w = sym h.count ∙ count in
          (y, e ∙ ap (λ x. complement x y) (ext_get_or 0 x w n (λ k i. sym (h.letters k i) ∙ letters k (omega (arith, n)))))

  -- the first bytes of the cell are the length and the letters of w, which is the word of the braid table
  module _ (w : Positive) (short : length w ≤ most_length) (is : braid_word a b ≡ w) (cell n : ℕ) (cell_is : cell ≡ cell_at a b)
      (n_is : n ≡ suc (length w)) where
    byte_at : (i : ℕ) → i < n → get_or (take n (drop cell cells)) i 0 ≡ get_or cells (cell_at a b + i) 0
    byte_at i h =
        get_or-take n (drop cell cells) i 0 h ∙ (get_or-drop cell cells i 0 ∙ ap (λ c. get_or cells (c + i) 0) cell_is)

    spells : take n (drop cell cells) ≡ length w ∷ w → HasBraidWord T a b
    spells e =
        let count = sym (byte_at 0 (omega arith)) ∙ ap (λ l. get_or l 0 0) e in
        let r =
        spelled w short (ap (λ i. get_or cells i 0) {x = cell_at a b} {y = cell_at a b + 0} (omega arith) ∙ count)
        (λ k h.
        ap (λ i. get_or cells i 0) {x = cell_at a b + 1 + k} {y = cell_at a b + suc k} (omega arith)
        ∙ (sym (byte_at (suc k) (omega arith)) ∙ ap (λ l. get_or l (suc k) 0) e)) in
        record { other = r.0; word = r.1 ∙ ap (λ w. complement w r.0) (sym is) }

    spelt : HasBraidWord T a b → take n (drop cell cells) ≡ length w ∷ w
    spelt h = ext_get_or 0 (take n (drop cell cells)) (length w ∷ w) (long ∙ n_is) letters
      where
        long : length (take n (drop cell cells)) ≡ n
        long = length-take-le n (drop cell cells) (omega (arith, length-drop cell cells, s.full, s.few, ra.high, rb.high, ra.low, rb.low))

        holds : HoldsWord T.size cells (cell_at a b) w
        holds = held w h.other (h.word ∙ ap (λ w. complement w h.other) is)

        letters : (i : ℕ) → i < length (take n (drop cell cells)) → get_or (take n (drop cell cells)) i 0 ≡ get_or (length w ∷ w) i 0
        letters zero l =
            byte_at 0 (omega arith) ∙ (ap (λ i. get_or cells i 0) {x = cell_at a b + 0} {y = cell_at a b} (omega arith) ∙ holds.count)
        letters (suc k) l =
            byte_at (suc k) (omega (arith, long))
            ∙ (ap (λ i. get_or cells i 0) {x = cell_at a b + suc k} {y = cell_at a b + 1 + k} (omega arith) ∙ holds.letters k (omega (arith, long)))

    pub word_decided : (r : Bool) → r ≡ pointwise eqb (take n (drop cell cells)) (length w ∷ w) → Decides r (HasBraidWord T a b)
    word_decided r e =
        let d = slice_eq-Decides Decides-eqb (take n (drop cell cells)) (length w ∷ w) r e in
        (λ t. spells (d.0 t), λ h. d.1 (spelt h))

-- A PAIR, BY ITS TWO WORDS

module _ (T : Presentation) (a b : ℕ) where
  pub pair_of_words : HasBraidWord T a b → HasBraidWord T b a → BraidPair T a b
  pair_of_words h k =
      let turned : complement (braid_word b a) k.other ≡ complement h.other (braid_word a b) =
      sym k.word ∙ (complete_turn T a b ∙ ap swapped h.word) in
      let same : h.other ≡ braid_word b a = cc in
      h.word ∙ ap (complement (braid_word a b)) same

  pub second_of_pair : BraidPair T a b → HasBraidWord T b a
  second_of_pair e = record { other = braid_word a b; word = complete_turn T a b ∙ ap swapped e }
