-- Under the braid table (specification 6.11) joined words and the words of a reversing leave equal beds, from every bed of as many places.
-- From the definitions: the relations of 2.4 hold of crossings (Crossings.antt), and the test for the braid table tells them (Braiding.antt).
-- Main name: `equal_beds`.
use mathlib.Core.Path.{◌≡◌, refl, sym, ap, subst, ◌∙◌}
use mathlib.Core.Logic.{◌≢◌}
use mathlib.Core.List.{[], ◌∷◌, ◌++◌}
use mathlib.Core.Bool.{true, false, ◌||◌, cond}
use Prim.Native.Nat.{ℕ, suc, ◌-◌, ◌<◌}
use native.Mathlib.Omega.{arith}
use native.Mathlib.Decide.{ℕ_discrete, dec_lt}
use lib.Dec.{eqb}
use lib.ListN.{length}
use lib.IntN.{pos, negsuc}
use borrow.Author.Tests.{eq-eqb, ne_eqb}
use Rattle.model.specs.Word.{Letter, forward, back, Word, Positive, positive, negative}
use Rattle.model.specs.Presentation.{Presentation, complement, complete}
use Rattle.model.specs.Reversing.{replaced, Reduces}
use Rattle.model.specs.Range.{InRange}
use Rattle.model.specs.Bed.{adjacent, braid_word, is_braid, Bed, crossed, moved, laid}
use Rattle.model.proofs.Complete.{complete_same, complete_named}
use Rattle.model.proofs.Words.{positive_append, negative_cons}
use Rattle.model.proofs.Equiv.{Equiv, Swap, done, step}
use Rattle.model.proofs.Joining.{joined_equiv}
use Rattle.model.proofs.Beds.{exchanged_length, laid_append}
use Rattle.theory.specs.Beds.{LeaveEqual, EqualBeds}
use Rattle.theory.proofs.Braiding.{braid_words}
use Rattle.theory.proofs.Crossings.{crossed_back, crossed_far, crossed_three}
use Rattle.theory.proofs.Reduction.{reduces}

-- MOVES AND THEIR OPPOSITES

moved_places : (x : Letter) (B : Bed) → length (moved x B).bobbins ≡ length B.bobbins
moved_places (forward i) B = exchanged_length B.bobbins (i - 1)
moved_places (back i) B = exchanged_length B.bobbins (i - 1)

laid_places : (w : Word) (B : Bed) → length (laid w B).bobbins ≡ length B.bobbins
laid_places [] B = refl
laid_places (x ∷ w) B = laid_places w (moved x B) ∙ moved_places x B

back_undone : (a : ℕ) (B : Bed) → moved (forward a) (moved (back a) B) ≡ B
back_undone a B = crossed_back (a - 1) (negsuc 0) (pos 1) refl B

forward_undone : (a : ℕ) (B : Bed) → moved (back a) (moved (forward a) B) ≡ B
forward_undone a B = crossed_back (a - 1) (pos 1) (negsuc 0) refl B

laid_undone : (u : Positive) (B : Bed) → laid (negative u) (laid (positive u) B) ≡ B
laid_undone [] B = refl
laid_undone (a ∷ u) B =
    ap (λ w. laid w (laid (positive u) (moved (forward a) B))) (negative_cons a u)
    ∙ (laid_append (negative u) (back a ∷ []) (laid (positive u) (moved (forward a) B))
    ∙ (ap (moved (back a)) (laid_undone u (moved (forward a) B)) ∙ forward_undone a B))

-- THE RELATIONS OF THE BRAID TABLE

-- neighbours, the smaller one first
next_to : (a b : ℕ) → suc a ≡ b → adjacent a b ≡ true
next_to a b e = ap (λ t. t || eqb (suc b) a) (eq-eqb (suc a) b e)

next_before : (a b : ℕ) → suc a ≡ b → adjacent b a ≡ true
next_before a b e = ap (λ t. t || eqb (suc a) b) (ne_eqb (suc b) a (omega arith)) ∙ eq-eqb (suc a) b e

apart : (a b : ℕ) → suc a ≢ b → suc b ≢ a → adjacent a b ≡ false
apart a b p q = ap (λ t. t || eqb (suc b) a) (ne_eqb (suc a) b p) ∙ ne_eqb (suc b) a q

braid_near : (a b : ℕ) → adjacent a b ≡ true → braid_word a b ≡ b ∷ a ∷ []
braid_near a b e = ap (λ t. cond t (b ∷ a ∷ []) (b ∷ [])) e

braid_far : (a b : ℕ) → adjacent a b ≡ false → braid_word a b ≡ b ∷ []
braid_far a b e = ap (λ t. cond t (b ∷ a ∷ []) (b ∷ [])) e

-- both sides of the relation of a and b
abbrev SidesEqual : ℕ → ℕ → ℕ → Type 0
SidesEqual places a b = LeaveEqual places (positive (a ∷ braid_word a b)) (positive (b ∷ braid_word b a))

sides_turned : (places a b : ℕ) → SidesEqual places a b → SidesEqual places b a
sides_turned places a b h B n = sym (h B n)

module _ (n a b : ℕ) (ra : InRange n a) (rb : InRange n b) where
  sides_near : suc a ≡ b → SidesEqual (suc n) a b
  sides_near e B m =
      let places : suc (suc (a - 1)) < length B.bobbins = omega (arith, ra.low, rb.high, m) in
      ap (λ w. laid (positive (a ∷ w)) B) (braid_near a b (next_to a b e))
      ∙ (ap (λ j. crossed (a - 1) (pos 1) (crossed j (pos 1) (crossed (a - 1) (pos 1) B))) {x = b - 1} {y = suc (a - 1)} (omega (arith, ra.low))
      ∙ (crossed_three (a - 1) (pos 1) B places
      ∙ (ap (λ j. crossed j (pos 1) (crossed (a - 1) (pos 1) (crossed j (pos 1) B))) {x = suc (a - 1)} {y = b - 1} (omega (arith, ra.low))
      ∙ ap (λ w. laid (positive (b ∷ w)) B) (sym (braid_near b a (next_before a b e))))))

  sides_far : suc a < b → SidesEqual (suc n) a b
  sides_far h B m =
      ap (λ w. laid (positive (a ∷ w)) B) (braid_far a b (apart a b (omega arith) (omega arith)))
      ∙ (crossed_far (a - 1) (b - 1) (pos 1) (pos 1) (omega (arith, ra.low)) B
      ∙ ap (λ w. laid (positive (b ∷ w)) B) (sym (braid_far b a (apart b a (omega arith) (omega arith)))))

  sides_below : a < b → SidesEqual (suc n) a b
  sides_below l = go (ℕ_discrete (suc a) b)
    where
      go : Dec (suc a ≡ b) → SidesEqual (suc n) a b
      go (yes e) = sides_near e
      go (no e) = sides_far (omega arith)

sides : (n a b : ℕ) → InRange n a → InRange n b → a ≢ b → SidesEqual (suc n) a b
sides n a b ra rb h = go (dec_lt a b)
  where
    go : Dec (a < b) → SidesEqual (suc n) a b
    go (yes l) = sides_below n a b ra rb l
    go (no l) = sides_turned (suc n) b a (sides_below n b a rb ra (omega arith))

module _ (T : Presentation) (braid : is_braid T ≡ true) where
  -- a relation, also that of a letter with itself
  relation : (a b : ℕ) (x y : Positive) → complete T a b ≡ complement x y → LeaveEqual (suc T.size) (positive (a ∷ x)) (positive (b ∷ y))
  relation a b x y e B m = go (ℕ_discrete a b)
    where
      go : Dec (a ≡ b) → laid (positive (a ∷ x)) B ≡ laid (positive (b ∷ y)) B
      go (yes p) =
          let empty : complete T a b ≡ complement [] [] = subst (λ k. complete T a k ≡ complement [] []) p (complete_same T a) in
          let x≡ : x ≡ [] = cc in
          let y≡ : y ≡ [] = cc in
          ap (λ k. laid (positive (k ∷ x)) B) p ∙ ap (λ w. laid (positive (b ∷ w)) B) (x≡ ∙ sym y≡)
      go (no p) =
          let r = complete_named T p e in
          let words : complete T a b ≡ complement (braid_word a b) (braid_word b a) = braid_words T braid a b p r.0 r.1 in
          let x≡ : x ≡ braid_word a b = cc in
          let y≡ : y ≡ braid_word b a = cc in
          ap (λ w. laid (positive (a ∷ w)) B) x≡ ∙ (sides T.size a b r.0 r.1 p B m ∙ ap (λ w. laid (positive (b ∷ w)) B) (sym y≡))

  -- JOINED WORDS

  -- one side of a relation within a word
  within_word : (p s : Positive) (side : Positive) (B : Bed) → laid (positive (p ++ (side ++ s))) B ≡ laid (positive s)
      (laid (positive side) (laid (positive p) B))
  within_word p s side B =
      ap (λ w. laid w B) (positive_append p (side ++ s))
      ∙ (laid_append (positive p) (positive (side ++ s)) B
      ∙ (ap (λ w. laid w (laid (positive p) B)) (positive_append side s) ∙ laid_append (positive side) (positive s) (laid (positive p) B)))

  one_swap : {u v : Positive} → Swap (complete T) u v → LeaveEqual (suc T.size) (positive u) (positive v)
  one_swap s B m =
      ap (λ u. laid (positive u) B) s.left
      ∙ (within_word s.before s.after (s.a ∷ s.x) B
      ∙ (ap (laid (positive s.after))
      (relation s.a s.b s.x s.y s.rule (laid (positive s.before) B) (laid_places (positive s.before) B ∙ m))
      ∙ (sym (within_word s.before s.after (s.b ∷ s.y) B) ∙ ap (λ u. laid (positive u) B) (sym s.right))))

  equivalent : {u v : Positive} → Equiv (complete T) u v → LeaveEqual (suc T.size) (positive u) (positive v)
  equivalent done B m = refl
  equivalent (step s e) B m = one_swap s B m ∙ equivalent e B m

  -- STEPS OF REVERSING

  one_step : (p : Word) (a b : ℕ) (s : Word) (x y : Positive) → complete T a b ≡ complement x y
      → LeaveEqual (suc T.size) (p ++ (back a ∷ forward b ∷ s)) (replaced p x y s)
  one_step p a b s x y e B m =
      let P = laid p B in
      let Q = moved (back a) P in
      laid_append p (back a ∷ forward b ∷ s) B
      ∙ (ap (laid s)
      (sym (laid_undone y (moved (forward b) Q))
      ∙ ap (laid (negative y))
      (sym (relation a b x y e Q (moved_places (back a) P ∙ (laid_places p B ∙ m))) ∙ ap (laid (positive x)) (back_undone a P)))
      ∙ sym
      (laid_append p (positive x ++ (negative y ++ s)) B
      ∙ (laid_append (positive x) (negative y ++ s) P ∙ laid_append (negative y) s (laid (positive x) P))))

  steps_equal : {w v : Word} {k : ℕ} → Reduces T w v k → LeaveEqual (suc T.size) w v
  steps_equal Reduces.stay B m = refl
  steps_equal (Reduces.go p a b s {x = x} {y = y} e c r) B m = ap (λ w. laid w B) e ∙ (one_step p a b s x y c B m ∙ steps_equal r B m)

  pub equal_beds : EqualBeds T
  equal_beds =
      record {
        joined = λ u v j. equivalent (joined_equiv T u v j);
        reduced = λ w v k r. steps_equal r;
        finished = λ w n d k r. steps_equal (reduces r);
      }
