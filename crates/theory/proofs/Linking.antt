-- Chains of steps between words of either sign (specification 6.18): they can be put one after another, turned and made after any word; joined positive words
-- have one, and so has a word and each word that reversing brings it to.
-- From the definitions alone. Main names: `linked_then`, `linked_turned`, `linked_after`, `equiv_linked`, `reduces_linked`.
use mathlib.Core.Path.{◌≡◌, refl, sym, ap, ◌∙◌, subst}
use mathlib.Core.List.{[], ◌∷◌, ◌++◌, map, append_assoc, reverse-cons}
use Prim.Native.Nat.{ℕ}
use native.Mathlib.Decide.{ℕ_discrete}
use Rattle.model.specs.Word.{Letter, forward, back, Word, Positive, flip, inverse, positive, negative}
use Rattle.model.specs.Presentation.{Presentation, complement, swapped, complete}
use Rattle.model.specs.Reversing.{replaced, Reduces}
use Rattle.model.specs.Range.{All, InRange, LetterInRange, Lettered, PairInRange, TableInRange}
use Rattle.model.specs.Signed.{GroupStep, GroupJoined}
use Rattle.model.proofs.Complete.{complete_turn, complete_named, complete_in_range}
use Rattle.model.proofs.Words.{positive_append}
use Rattle.model.proofs.Equiv.{Equiv, Swap, done, step}
use Rattle.model.proofs.Joining.{idle}
use Rattle.theory.proofs.Letters.{all_append, all_first, all_second, positive_lettered, negative_lettered, flip_lettered}

-- the undoing of a word ends with the undoing of its first letter
inverse_cons : (l : Letter) (w : Word) → inverse (l ∷ w) ≡ inverse w ++ (flip l ∷ [])
inverse_cons l w = reverse-cons (flip l) (map flip w)

-- .. and before another word
inverse_more : (l : Letter) (w t : Word) → inverse (l ∷ w) ++ t ≡ inverse w ++ (flip l ∷ t)
inverse_more l w t = ap (λ v. v ++ t) (inverse_cons l w) ∙ append_assoc (inverse w) (flip l ∷ []) t

-- a letter undone twice
flip_twice : (l : Letter) → flip (flip l) ≡ l
flip_twice (forward a) = refl
flip_twice (back a) = refl

-- a side of a relation within a positive word, before t
side_word : {u : Positive} (before : Positive) (a : ℕ) (x after : Positive) (t : Word) → u ≡ before ++ (a ∷ x ++ after)
    → positive u ++ t ≡ positive before ++ (positive (a ∷ x) ++ (positive after ++ t))
side_word before a x after t e =
    ap (λ v. positive v ++ t) e
    ∙ (ap (λ v. v ++ t) (positive_append before (a ∷ x ++ after) ∙ ap (λ v. positive before ++ v) (positive_append (a ∷ x) after))
    ∙ (append_assoc (positive before) (positive (a ∷ x) ++ positive after) t
    ∙ ap (λ v. positive before ++ v) (append_assoc (positive (a ∷ x)) (positive after) t)))

module _ {T : Presentation} where
  -- CHAINS

  -- of one step, and of none
  one_step : {w w' : Word} → GroupStep T w w' → GroupJoined T w w'
  one_step s = GroupJoined.go s GroupJoined.stay

  equal_linked : {w w' : Word} → w ≡ w' → GroupJoined T w w'
  equal_linked e = rw e GroupJoined.stay

  -- one after another
  pub linked_then : {w w' w'' : Word} → GroupJoined T w w' → GroupJoined T w' w'' → GroupJoined T w w''
  linked_then GroupJoined.stay d = d
  linked_then (GroupJoined.go s c) d = GroupJoined.go s (linked_then c d)

  -- the other way round
  step_turned : {w w' : Word} → GroupStep T w w' → GroupStep T w' w
  step_turned (GroupStep.swap x a b u v y p q rule) = GroupStep.swap x b a v u y q p (complete_turn T a b ∙ ap swapped rule)
  step_turned (GroupStep.insert x l y p) = GroupStep.remove x l y p
  step_turned (GroupStep.remove x l y p) = GroupStep.insert x l y p

  pub linked_turned : {w w' : Word} → GroupJoined T w w' → GroupJoined T w' w
  linked_turned GroupJoined.stay = GroupJoined.stay
  linked_turned (GroupJoined.go s c) = linked_then (linked_turned c) (one_step (step_turned s))

  -- after any word
  step_after : (s : Word) {w w' : Word} → GroupStep T w w' → GroupStep T (s ++ w) (s ++ w')
  step_after s (GroupStep.swap x a b u v y p q rule) =
      rw (← append_assoc s x (positive (a ∷ u) ++ y), ← append_assoc s x (positive (b ∷ v) ++ y)) (GroupStep.swap (s ++ x) a b u v y p q rule)
  step_after s (GroupStep.insert x l y p) =
      rw (← append_assoc s x y, ← append_assoc s x (l ∷ flip l ∷ y)) (GroupStep.insert (s ++ x) l y p)
  step_after s (GroupStep.remove x l y p) =
      rw (← append_assoc s x y, ← append_assoc s x (l ∷ flip l ∷ y)) (GroupStep.remove (s ++ x) l y p)

  pub linked_after : (s : Word) {w w' : Word} → GroupJoined T w w' → GroupJoined T (s ++ w) (s ++ w')
  linked_after s GroupJoined.stay = GroupJoined.stay
  linked_after s (GroupJoined.go h c) = GroupJoined.go (step_after s h) (linked_after s c)

  -- A WORD BESIDE ITS UNDOING

  -- put in before any word: the word and then its undoing
  pub word_undone : (w t : Word) → Lettered T.size w → GroupJoined T t (w ++ (inverse w ++ t))
  word_undone [] t h = GroupJoined.stay
  word_undone (l ∷ w) t h =
      linked_then (one_step (GroupStep.insert [] l t h.0))
      (linked_then (linked_after (l ∷ []) (word_undone w (flip l ∷ t) h.1)) (equal_linked (ap (λ v. l ∷ (w ++ v)) (sym (inverse_more l w t)))))

  -- the undoing and then the word
  pub undone_word : (w t : Word) → Lettered T.size w → GroupJoined T t (inverse w ++ (w ++ t))
  undone_word [] t h = GroupJoined.stay
  undone_word (l ∷ w) t h =
      let pair : inverse w ++ (flip l ∷ flip (flip l) ∷ (w ++ t)) ≡ inverse (l ∷ w) ++ (l ∷ (w ++ t)) =
      ap (λ m. inverse w ++ (flip l ∷ m ∷ (w ++ t))) (flip_twice l) ∙ sym (inverse_more l w (l ∷ (w ++ t))) in
      linked_then (undone_word w t h.1)
      (linked_then (linked_after (inverse w) (one_step (GroupStep.insert [] (flip l) (w ++ t) (flip_lettered T.size l h.0)))) (equal_linked pair))

  -- JOINED POSITIVE WORDS

  -- a swap is a step, or changes nothing
  swap_linked : {u v : Positive} (t : Word) → Swap (complete T) u v → GroupJoined T (positive u ++ t) (positive v ++ t)
  swap_linked {u} {v} t s = by (ℕ_discrete s.a s.b)
    where
      by : Dec (s.a ≡ s.b) → GroupJoined T (positive u ++ t) (positive v ++ t)
      by (yes e) = equal_linked (ap (λ m. positive m ++ t) (idle T s e))
      by (no d) =
          let named = complete_named T d s.rule in
          rw (side_word s.before s.a s.x s.after t s.left, side_word s.before s.b s.y s.after t s.right)
          (one_step (GroupStep.swap (positive s.before) s.a s.b s.x s.y (positive s.after ++ t) named.0 named.1 s.rule))

  -- equivalent words, before any word
  pub equiv_linked : {u v : Positive} (t : Word) → Equiv (complete T) u v → GroupJoined T (positive u ++ t) (positive v ++ t)
  equiv_linked t done = GroupJoined.stay
  equiv_linked t (step s e) = linked_then (swap_linked t s) (equiv_linked t e)

-- REVERSING

module _ (T : Presentation) (range : TableInRange T) where
  -- completions have letters of the table
  complement_letters : (a b : ℕ) {x y : Positive} → complete T a b ≡ complement x y → All (InRange T.size) x × All (InRange T.size) y
  complement_letters a b {x} {y} rule =
      let words : PairInRange T.size (complement x y) = subst (PairInRange T.size) rule (complete_in_range T range a b) in
      (words.0.letters, words.1.letters)

  -- a step keeps to letters of the table,
  step_letters : (p : Word) (a b : ℕ) (s : Word) {x y : Positive} → Lettered T.size (p ++ (back a ∷ forward b ∷ s)) → complete T a b ≡ complement x y
      → Lettered T.size (replaced p x y s)
  step_letters p a b s {x} {y} h rule =
      let letter = LetterInRange T.size in
      let words = complement_letters a b rule in
      all_append letter p (positive x ++ (negative y ++ s)) (all_first letter p (back a ∷ forward b ∷ s) h)
      (all_append letter (positive x) (negative y ++ s) (positive_lettered T.size x words.0)
      (all_append letter (negative y) s (negative_lettered T.size y words.1) (all_second letter p (back a ∷ forward b ∷ s) h).1.1))

  -- and so do steps in any order
  pub reduces_letters : {w v : Word} {k : ℕ} → Lettered T.size w → Reduces T w v k → Lettered T.size v
  reduces_letters h Reduces.stay = h
  reduces_letters h (Reduces.go p a b s {x} {y} e rule r) =
      reduces_letters (step_letters p a b s (subst (Lettered T.size) e h) rule) r

  -- a step at a site: C(b,a) is put in beside its undoing, b C(b,a) becomes a C(a,b), and a is taken out beside its undoing
  site_linked : (a b : ℕ) (x y : Positive) (t : Word) → InRange T.size a → InRange T.size b → complete T a b ≡ complement x y
      → GroupJoined T (back a ∷ forward b ∷ t) (positive x ++ (negative y ++ t))
  site_linked a b x y t p q rule =
      let put = linked_after (back a ∷ forward b ∷ []) (word_undone {T = T} (positive y) t (positive_lettered T.size y (complement_letters a b rule).1)) in
      let changed = GroupStep.swap (back a ∷ []) b a y x (negative y ++ t) q p (complete_turn T a b ∙ ap swapped rule) in
      linked_then put (GroupJoined.go changed (one_step (GroupStep.remove [] (back a) (positive x ++ (negative y ++ t)) p)))

  -- steps in any order
  pub reduces_linked : {w v : Word} {k : ℕ} → Lettered T.size w → Reduces T w v k → GroupJoined T w v
  reduces_linked h Reduces.stay = GroupJoined.stay
  reduces_linked h (Reduces.go p a b s {x} {y} e rule r) =
      let whole : Lettered T.size (p ++ (back a ∷ forward b ∷ s)) = subst (Lettered T.size) e h in
      let rest = all_second (LetterInRange T.size) p (back a ∷ forward b ∷ s) whole in
      linked_then (equal_linked e)
      (linked_then (linked_after p (site_linked a b x y s rest.0 rest.1.0 rule)) (reduces_linked (step_letters p a b s whole rule) r))
