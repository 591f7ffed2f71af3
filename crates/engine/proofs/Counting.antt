-- How many letters of a word are forward and how many back, and what a finished word is.
use mathlib.Core.Path.{◌≡◌, refl, sym, ap, ap₂, ◌∙◌}
use mathlib.Core.List.{List, [], ◌∷◌, ◌++◌, reverse}
use Prim.Native.Nat.{ℕ, ◌+◌, ◌-◌, ◌≤◌, ◌<◌}
use native.Mathlib.Decide.{dec_lt}
use native.Mathlib.Omega.{arith}
use borrow.Author.Tests.{lt-ltb, le-ltb}
use Rattle.std.specs.Prelude.{cond, nat_lt}
use Rattle.std.specs.List.{count_by}
use Rattle.std.proofs.lemmas.List.Sums.{sum_by-cons}
use lib.ListN.{length, take, length-take, length-reverse}
use lib.Seq.{length-take-le, take-take}
use Rattle.model.specs.Word.{forward, back, Word, forwards, backs, letter, positive, negative}
use Rattle.model.specs.Reversing.{ended, site}
use Rattle.model.proofs.Words.{site_fraction}
use Rattle.model.specs.declared.answers.Ending.TheVariants.{Finished}
use Rattle.engine.specs.Gap.{letters, AtEnd}
use Rattle.engine.specs.Run.{LeavesWord, finished_at}
use Rattle.engine.proofs.Letters.{letter_forward, letter_back, length_letters}
use Rattle.engine.proofs.AtGap.{end_word}

-- a letter is forward where its byte is below 128
one_counted : (x : ℕ) (w : Word) → length (forwards (letter x ∷ w)) ≡ cond (nat_lt x 128) 1 0 + length (forwards w)
one_counted x w = go (dec_lt x 128)
  where
    go : Dec (x < 128) → length (forwards (letter x ∷ w)) ≡ cond (nat_lt x 128) 1 0 + length (forwards w)
    go (yes h) = rw (letter_forward x h, lt-ltb x 128 h) (omega arith)
    go (no h) = rw (letter_back x (omega arith), le-ltb x 128 (omega arith)) (omega arith)

pub forwards_counted : (xs : List ℕ) → length (forwards (letters xs)) ≡ count_by (λ x. nat_lt x 128) xs
unfolding letters
forwards_counted [] = refl
forwards_counted (x ∷ xs) =
    one_counted x (letters xs)
    ∙ (ap (λ n. cond (nat_lt x 128) 1 0 + n) (forwards_counted xs) ∙ sym (sum_by-cons (λ y. cond (nat_lt y 128) 1 0) x xs))

both_signs : (w : Word) → length (forwards w) + length (backs w) ≡ length w
both_signs [] = refl
both_signs (forward a ∷ w) = omega (arith, both_signs w)
both_signs (back a ∷ w) = omega (arith, both_signs w)

-- the word at the end of a search
module _ {word : Word} {bytes : List ℕ} {left right : ℕ} (h : AtEnd (site word) word bytes left right) where
  end_length : length word ≡ left
  end_length =
      ap length (end_word h)
      ∙ (length_letters (take left bytes) ∙ length-take-le left bytes (omega (arith, h.ordered, h.all)))

  pub denominator_length : length (reverse (backs word)) ≡ left - length (forwards word)
  denominator_length = length-reverse (backs word) ∙ omega (arith, both_signs word, end_length)

  pub end_fraction : word ≡ positive (forwards word) ++ negative (reverse (backs word))
  end_fraction = site_fraction word h.none

  pub end_holds : (k r : ℕ) → LeavesWord (ended word k r) bytes
  end_holds k r =
      let n : length (forwards word) + length (reverse (backs word)) ≡ left = omega (arith, length-reverse (backs word), both_signs word, end_length) in
      ap (λ i. letters (take i bytes)) n ∙ (sym (end_word h) ∙ end_fraction)

pub counts_few : (bytes : List ℕ) (end : ℕ) → length (forwards (letters (take end bytes))) ≤ end
counts_few bytes end =
    let e : length (letters (take end bytes)) ≤ end = simp (length_letters, length-take) (omega arith) in
    omega (arith, both_signs (letters (take end bytes)))

-- the word that stands in the first bytes
pub finished_front : (bytes : List ℕ) (end steps relations : ℕ) → end ≤ length bytes
    → finished_at (take end bytes) (length (take end bytes)) steps relations ≡ finished_at bytes end steps relations
finished_front bytes end steps relations inside =
    let n : length (take end bytes) ≡ end = length-take-le end bytes inside in
    let whole : take (length (take end bytes)) (take end bytes) ≡ take end bytes =
    ap (λ k. take k (take end bytes)) n ∙ take-take end end bytes (omega arith) in
    ap₂ (λ w k. Finished (length (forwards (letters w))) (k - length (forwards (letters w))) steps relations) whole n
