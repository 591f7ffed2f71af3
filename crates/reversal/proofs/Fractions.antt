-- The answer area of reverse: the finished word is copied, and what follows N in it, the inverse of D, is inverted.
use mathlib.Core.Path.{◌≡◌, refl, sym, ap, ap₂, ◌∙◌}
use mathlib.Core.List.{List, [], ◌∷◌, ◌++◌, map, append_assoc, reverse, reverse-reverse}
use Prim.Native.Nat.{ℕ, ◌+◌, ◌-◌, ◌≤◌}
use lib.ListN.{length, take, drop, length-append, length-drop, take-append-drop}
use lib.Seq.{take_at, drop_at, length-take-le}
use Rattle.model.specs.Word.{forward, back, Word, Positive, flip, inverse, positive, negative}
use Rattle.model.specs.Areas.{begins}
use Rattle.model.proofs.Words.{map_reverse}
use Rattle.engine.specs.Gap.{letters}
use Rattle.engine.proofs.Letters.{letters_append, letters_forward, length_letters}
use Rattle.engine.proofs.Lettering.{length_positive, length_negative}
use Rattle.engine.proofs.Loads.{front_of}
use Rattle.engine.specs.Words.{Inverted}

flip_flip : (w : Word) → map flip (map flip w) ≡ w
flip_flip [] = refl
flip_flip (forward a ∷ w) = ap (λ v. forward a ∷ v) (flip_flip w)
flip_flip (back a ∷ w) = ap (λ v. back a ∷ v) (flip_flip w)

pub inverse_inverse : (w : Word) → inverse (inverse w) ≡ w
inverse_inverse w = ap reverse (map_reverse flip (map flip w)) ∙ (reverse-reverse (map flip (map flip w)) ∙ flip_flip w)

module _ (word before mid after : List ℕ) (n : ℕ) (inside : n ≤ length word) (copied : mid ≡ begins word before) (front : take n after ≡ take n mid)
    (p : Inverted (drop n mid) (length word - n) (drop n after))
    (N D : Positive) (en : length N ≡ n) (e : letters word ≡ positive N ++ negative D) where
  abbrev d : ℕ
  d = length word - n

  abbrev first : List ℕ
  first = take n word

  abbrev second : List ℕ
  second = drop n word

  abbrev rest : List ℕ
  rest = drop (length word) before

  first_length : length first ≡ n
  first_length = length-take-le n word inside

  second_length : length second ≡ d
  second_length = length-drop n word

  parts : mid ≡ first ++ (second ++ rest)
  parts = copied ∙ (ap (λ l. l ++ rest) (sym (take-append-drop n word)) ∙ append_assoc first second rest)

  front_is : take n mid ≡ first
  front_is = ap (take n) parts ∙ take_at first (second ++ rest) n first_length

  lent_is : drop n mid ≡ second ++ rest
  lent_is = ap (drop n) parts ∙ drop_at first (second ++ rest) n first_length

  halves : (letters first ≡ positive N) × (letters second ≡ negative D)
  halves =
      front_of (letters first) (letters second) (positive N) (negative D)
      (length_letters first ∙ (first_length ∙ (sym en ∙ sym (length_positive N))))
      (sym (letters_append first second) ∙ (ap letters (take-append-drop n word) ∙ e))

  turned_is : letters (take d (drop n after)) ≡ positive D
  turned_is =
      p.inverted
      ∙ (ap (λ l. inverse (letters l)) (ap (take d) lent_is ∙ take_at second rest d second_length)
      ∙ (ap inverse halves.1 ∙ inverse_inverse (positive D)))

  kept_is : drop d (drop n after) ≡ rest
  kept_is = p.rest ∙ (ap (drop d) lent_is ∙ drop_at second rest d second_length)

  pub fraction_written : after ≡ begins (N ++ D) before
  fraction_written =
      let m : length word ≡ length (N ++ D) =
      sym (length_letters word) ∙ (ap length e ∙ (length-append (positive N) (negative D)
      ∙ (ap₂ (λ i j. i + j) (length_positive N) (length_negative D) ∙ sym (length-append N D)))) in
      let end : drop n after ≡ D ++ rest =
      sym (take-append-drop d (drop n after)) ∙ ap₂ (λ l r. l ++ r) (letters_forward (take d (drop n after)) D turned_is) kept_is in
      sym (take-append-drop n after)
      ∙ (ap₂ (λ l r. l ++ r) (front ∙ (front_is ∙ letters_forward first N halves.0)) end
      ∙ (sym (append_assoc N D rest) ∙ ap (λ i. N ++ D ++ drop i before) m))
