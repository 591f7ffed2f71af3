-- What a word of either sign does to positive words from the left: a forward letter a puts a before a word, a back letter a takes it off, the last letter of
-- the word first. Words that a chain of steps joins (specification 6.18) act alike on a word that is long enough; so a numerator and a denominator are
-- equivalent where the empty word is joined to the one followed by the undoing of the other. No group of fractions is made.
-- From cancelling on both sides and common right multiples, which Signed.antt supplies.
-- Main names: `Acts`, `Multiple`, `carried_on`, `fraction_equal`.
use mathlib.Core.Path.{◌≡◌, sym, subst}
use mathlib.Core.List.{[], ◌∷◌, ◌++◌, append_assoc, append-nil}
use Prim.Native.Nat.{ℕ}
use Rattle.model.specs.Word.{Letter, forward, back, Word, Positive, flip, positive, negative}
use Rattle.model.specs.Presentation.{Presentation, complement, complete}
use Rattle.model.specs.Range.{All, InRange, LetterInRange, Lettered}
use Rattle.model.specs.Signed.{GroupStep, GroupJoined}
use Rattle.model.proofs.Complete.{complete_turn}
use Rattle.model.proofs.Words.{negative_cons}
use Rattle.model.proofs.Equiv.{Equiv, done, trans, one, prefix, suffix, symm}
use Rattle.theory.proofs.Letters.{all_append, all_first, all_second, positive_lettered, lettered_positive, flip_lettered}

-- w takes p to q
data Acts (T : Presentation) : Word → Positive → Positive → Type 0 where
  rests : {p q : Positive} → Equiv (complete T) p q → Acts T [] p q
  puts : {a : ℕ} {w : Word} {p r q : Positive} → Acts T w p r → Equiv (complete T) (a ∷ r) q → Acts T (forward a ∷ w) p q
  takes : {a : ℕ} {w : Word} {p r q : Positive} → Acts T w p r → Equiv (complete T) r (a ∷ q) → Acts T (back a ∷ w) p q

-- w₂ takes p to r, and w₁ takes r to q
record Between (T : Presentation) (w₁ w₂ : Word) (p q : Positive) : Type 0 where
  r : Positive
  first : Acts T w₂ p r
  second : Acts T w₁ r q

module _ {T : Presentation} where
  -- the result may be any word equivalent to it
  ends : {w : Word} {p q q' : Positive} → Acts T w p q → Equiv (complete T) q q' → Acts T w p q'
  ends (rests e) h = rests (trans e h)
  ends (puts x e) h = puts x (trans e h)
  ends (takes {a} x e) h = takes x (trans e (prefix (a ∷ []) h))

  -- a word that follows stays
  extends : {w : Word} {p q : Positive} (z : Positive) → Acts T w p q → Acts T w (p ++ z) (q ++ z)
  extends z (rests e) = rests (suffix z e)
  extends z (puts x e) = puts (extends z x) (suffix z e)
  extends z (takes x e) = takes (extends z x) (suffix z e)

  -- what two words do is what the one does after the other
  through : (w₁ : Word) {w₂ : Word} {p q : Positive} → Acts T (w₁ ++ w₂) p q → Between T w₁ w₂ p q
  through [] {q} x = record { r = q; first = x; second = rests done }
  through (forward a ∷ w₁) (puts x e) =
      let b = through w₁ x in
      record { r = b.r; first = b.first; second = puts b.second e }
  through (back a ∷ w₁) (takes x e) =
      let b = through w₁ x in
      record { r = b.r; first = b.first; second = takes b.second e }

  both : {w₁ w₂ : Word} {p r q : Positive} → Acts T w₂ p r → Acts T w₁ r q → Acts T (w₁ ++ w₂) p q
  both x (rests e) = ends x e
  both x (puts y e) = puts (both x y) e
  both x (takes y e) = takes (both x y) e

  -- a positive word puts itself before a word, its undoing takes it off
  positive_puts : (u : Positive) {p q : Positive} → Acts T (positive u) p q → Equiv (complete T) (u ++ p) q
  positive_puts [] (rests e) = e
  positive_puts (a ∷ u) (puts x e) = trans (prefix (a ∷ []) (positive_puts u x)) e

  puts_positive : (u : Positive) (p : Positive) → Acts T (positive u) p (u ++ p)
  puts_positive [] p = rests done
  puts_positive (a ∷ u) p = puts (puts_positive u p) done

  negative_takes : (d : Positive) {p q : Positive} → Acts T (negative d) p q → Equiv (complete T) p (d ++ q)
  negative_takes [] (rests e) = e
  negative_takes (a ∷ d) {p} {q} x =
      let b = through (negative d) (subst (λ w. Acts T w p q) (negative_cons a d) x) in
      taken a d q b.first (negative_takes d b.second)
    where
      taken : (a : ℕ) (d q : Positive) {p r : Positive} → Acts T (back a ∷ []) p r → Equiv (complete T) r (d ++ q) → Equiv (complete T) p (a ∷ (d ++ q))
      taken a d q (takes (rests e) h) g = trans e (trans h (prefix (a ∷ []) g))

-- a word takes p, then z, to q, then z
record Later (T : Presentation) (w : Word) (p q : Positive) : Type 0 where
  z : Positive
  letters : All (InRange T.size) z
  acts : Acts T w (p ++ z) (q ++ z)

-- a common right multiple of u and the letter a
pub record Multiple (T : Presentation) (a : ℕ) (u : Positive) : Type 0 where
  pub z : Positive
  pub r : Positive
  pub letters : All (InRange T.size) z
  pub same : Equiv (complete T) (u ++ z) (a ∷ r)

-- with equivalence that keeps to the table's letters, cancelling of a letter on the left, and common multiples
module _ (T : Presentation) (kept : (u v : Positive) → Equiv (complete T) u v → All (InRange T.size) u → All (InRange T.size) v)
    (cancel_left : (a : ℕ) (u v : Positive) → Equiv (complete T) (a ∷ u) (a ∷ v) → Equiv (complete T) u v)
    (multiple : (a : ℕ) (u : Positive) → InRange T.size a → All (InRange T.size) u → Multiple T a u) where
  -- of the table's letters: a positive word, a word, a letter
  abbrev Named : Positive → Type 0
  Named = All (InRange T.size)

  abbrev Letters : Word → Type 0
  Letters = Lettered T.size

  abbrev LetterNamed : Letter → Type 0
  LetterNamed = LetterInRange T.size

  -- a word of these takes such words to such words
  acts_letters : {w : Word} {p q : Positive} → Letters w → Named p → Acts T w p q → Named q
  acts_letters {p} {q} g h (rests e) = kept p q e h
  acts_letters {q} g h (puts {a} {r} x e) = kept (a ∷ r) q e (g.0, acts_letters g.1 h x)
  acts_letters {q} g h (takes {a} {r} x e) = (kept r (a ∷ q) e (acts_letters g.1 h x)).1

  -- with nothing after it
  at_once : {w : Word} {p q : Positive} → Acts T w p q → Later T w p q
  at_once {w} {p} {q} x =
      record {
        z = [];
        letters = tt;
        acts = subst (λ u. Acts T w u (q ++ [])) (sym (append-nil p)) (subst (λ u. Acts T w p u) (sym (append-nil q)) x);
      }

  -- then another word acts
  after : (s : Word) {t : Word} {p r q : Positive} → Later T t p r → Acts T s r q → Later T (s ++ t) p q
  after s l y = record { z = l.z; letters = l.letters; acts = both l.acts (extends l.z y) }

  -- ONE STEP

  -- a letter and its undoing put in before t, which takes p to r: a forward letter can be taken off a common multiple only
  put_in : (l : Letter) {t : Word} {p r : Positive} → LetterNamed l → Named r → Acts T t p r → Later T (l ∷ flip l ∷ t) p r
  put_in (forward a) {r} g h x =
      let m = multiple a r g h in
      record { z = m.z; letters = m.letters; acts = puts (takes (extends m.z x) m.same) (symm (complete_turn T) m.same) }
  put_in (back a) g h x = at_once (takes {a = a} (puts {a = a} x done) done)

  -- and taken out: a back letter by cancelling
  taken_out : (l : Letter) {t : Word} {p q : Positive} → Acts T (l ∷ flip l ∷ t) p q → Acts T t p q
  taken_out (forward a) (puts (takes x e) h) = ends x (trans e h)
  taken_out (back a) (takes (puts x e) h) = ends x (cancel_left a _ _ (trans e h))

  -- equivalent words do the same
  exchanged : (u v : Positive) {p q : Positive} → Equiv (complete T) u v → Acts T (positive u) p q → Acts T (positive v) p q
  exchanged u v {p} h x = ends (puts_positive v p) (trans (suffix p (symm (complete_turn T) h)) (positive_puts u x))

  -- the two sides of a relation
  side_swap : (a b : ℕ) (u v : Positive) → complete T a b ≡ complement u v → Equiv (complete T) (a ∷ u) (b ∷ v)
  side_swap a b u v rule =
      one (record { before = []; after = []; a = a; b = b; x = u; y = v; rule = rule; left = sym (append-nil (a ∷ u)); right = sym (append-nil (b ∷ v)) })

  -- what the word before the step does, the word after it does, if p is followed by enough
  carried : {w w' : Word} {p q : Positive} → Letters w → Named p → GroupStep T w w' → Acts T w p q → Later T w' p q
  carried g o (GroupStep.swap x a b u v y i j rule) h =
      let s = through x h in
      let t = through (positive (a ∷ u)) s.first in
      at_once (both (both t.first (exchanged (a ∷ u) (b ∷ v) (side_swap a b u v rule) t.second)) s.second)
  carried g o (GroupStep.insert x l y i) h =
      let s = through x h in
      after x (put_in l i (acts_letters (all_second LetterNamed x y g) o s.first) s.first) s.second
  carried g o (GroupStep.remove x l y i) h =
      let s = through x h in
      at_once (both (taken_out l s.first) s.second)

  -- a step keeps to the table's letters
  step_letters : {w w' : Word} → Letters w → GroupStep T w w' → Letters w'
  step_letters g (GroupStep.swap x a b u v y i j rule) =
      let rest = all_second LetterNamed x (positive (a ∷ u) ++ y) g in
      let side = kept (a ∷ u) (b ∷ v) (side_swap a b u v rule) (lettered_positive T.size (a ∷ u) (all_first LetterNamed (positive (a ∷ u)) y rest)) in
      all_append LetterNamed x (positive (b ∷ v) ++ y) (all_first LetterNamed x (positive (a ∷ u) ++ y) g)
      (all_append LetterNamed (positive (b ∷ v)) y (positive_lettered T.size (b ∷ v) side) (all_second LetterNamed (positive (a ∷ u)) y rest))
  step_letters g (GroupStep.insert x l y i) =
      all_append LetterNamed x (l ∷ flip l ∷ y) (all_first LetterNamed x y g) (i, (flip_lettered T.size l i, all_second LetterNamed x y g))
  step_letters g (GroupStep.remove x l y i) =
      all_append LetterNamed x y (all_first LetterNamed x (l ∷ flip l ∷ y) g) (all_second LetterNamed x (l ∷ flip l ∷ y) g).1.1

  -- CHAINS

  -- so for the words at both ends of a chain
  carried_on : {w w' : Word} {p q : Positive} → Letters w → Named p → GroupJoined T w w' → Acts T w p q → Later T w' p q
  carried_on g o GroupJoined.stay x = at_once x
  carried_on {w'} {p} {q} g o (GroupJoined.go h c) x =
      let first = carried g o h x in
      let more = carried_on (step_letters g h) (all_append (InRange T.size) p first.z o first.letters) c first.acts in
      record {
        z = first.z ++ more.z;
        letters = all_append (InRange T.size) first.z more.z first.letters more.letters;
        acts =
            subst (λ u. Acts T w' u (q ++ (first.z ++ more.z))) (append_assoc p first.z more.z)
            (subst (λ u. Acts T w' ((p ++ first.z) ++ more.z) u) (append_assoc q first.z more.z) more.acts);
      }

  -- where words can be cancelled on the right: the empty word is joined to n, followed by the undoing of d, only if n and d are equivalent
  pub fraction_equal : ((r u v : Positive) → Equiv (complete T) (u ++ r) (v ++ r) → Equiv (complete T) u v)
      → (n d : Positive) → GroupJoined T [] (positive n ++ negative d) → Equiv (complete T) n d
  fraction_equal cancel_right n d c =
      let l = carried_on tt tt c (rests {p = []} done) in
      let b = through (positive n) l.acts in
      cancel_right b.r n d (trans (positive_puts n b.second) (negative_takes d b.first))
