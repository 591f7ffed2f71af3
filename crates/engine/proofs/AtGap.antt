-- A site at the gap: the word there, what the model says of it, and the word after the step.
use mathlib.Core.Path.{◌≡◌, refl, sym, ap, ap₂, subst, ◌∙◌}
use mathlib.Core.List.{List, ◌∷◌, ◌++◌, append_assoc}
use Prim.Native.Nat.{ℕ, ◌+◌, ◌-◌, ◌≤◌, ◌<◌}
use native.Mathlib.Omega.{arith}
use lib.ListN.{length, take, drop, length-append, length-take, length-drop}
use Rattle.model.specs.Word.{Word, Positive, forward, back, positive, negative}
use Rattle.model.specs.Presentation.{Presentation, undefined, complement, complete}
use Rattle.model.specs.Reversing.{at, site, replaced, next, no_site, blocked, step, by_complement, by_site}
use Rattle.model.specs.Range.{InRange, Lettered}
use Rattle.model.proofs.Words.{site_split}
use Rattle.engine.specs.Search.{site_from, NoneBefore}
use Rattle.engine.specs.Gap.{letters, word_at, place_before, AtSite, AtLeftmost, AtEnd}
use Rattle.engine.specs.Turn.{PairAt, Pushed, Steps, Outgrows, Goes}
use Rattle.engine.proofs.Letters.{letters_append, length_letters}
use Rattle.engine.proofs.Sites.{finds_leftmost, none_after_step}
use Rattle.engine.proofs.Seeking.{front_length, all_before}
use Rattle.engine.proofs.Lettering.{lettered_append, lettered_front, lettered_end, lettered_negative, length_positive, length_negative}
use Rattle.engine.proofs.Pushes.{pushed_kept}

module _ {bytes : List ℕ} {left right a b : ℕ} (h : AtLeftmost bytes left right) (pair : PairAt bytes (left - 1) right a b) where
  abbrev pub prefix : Word
  prefix = letters (take (left - 1) bytes)

  abbrev pub suffix : Word
  suffix = letters (drop (right + 1) bytes)

  prefix_length : length prefix ≡ left - 1
  prefix_length = front_length bytes left h.some_before (omega (arith, h.ordered, h.some_after))

  found : site (word_at bytes left right) ≡ at prefix a b suffix
  found = rw (pair.before, pair.after) h.found

  pub word_here : word_at bytes left right ≡ prefix ++ (back a ∷ forward b ∷ suffix)
  word_here = site_split (word_at bytes left right) found

  pub next_here : (T : Presentation) → next T (word_at bytes left right) ≡ by_complement prefix a b suffix (complete T a b)
  unfolding next
  next_here T = ap (by_site T) found

  module _ (T : Presentation) (l : Lettered T.size (word_at bytes left right)) where
    parts : Lettered T.size (prefix ++ (back a ∷ forward b ∷ suffix))
    parts = rw (← word_here) l

    pub a_named : InRange T.size a
    a_named = (lettered_end T.size prefix (back a ∷ forward b ∷ suffix) parts).0

    pub b_named : InRange T.size b
    b_named = (lettered_end T.size prefix (back a ∷ forward b ∷ suffix) parts).1.0

    pub blocked_here : complete T a b ≡ undefined → next T (word_at bytes left right) ≡ blocked a b
    blocked_here e = next_here T ∙ ap (by_complement prefix a b suffix) e

    module _ (x y : Positive) (rule : complete T a b ≡ complement x y) where
      pub step_here : next T (word_at bytes left right) ≡ step a b (replaced prefix x y suffix)
      step_here = next_here T ∙ ap (by_complement prefix a b suffix) rule

      pub goes : Goes T (word_at bytes left right)
      goes = record { a = a; b = b; word' = replaced prefix x y suffix; taken = step_here }

      next_length : length (replaced prefix x y suffix) ≡ (left - 1) + (length x + (length y + (length bytes - (right + 1))))
      next_length =
          simp (length-append, length_positive, length_negative, length_letters, length-take, length-drop)
          (omega (arith, h.some_before, h.ordered, h.some_after))

      -- the next word does not fit
      pub outgrows : right + 1 - (left - 1) < length x + length y → Outgrows T (word_at bytes left right) (length bytes)
      outgrows long =
          record {
            a = a;
            b = b;
            longer = replaced prefix x y suffix;
            taken = step_here;
            long = omega (arith, next_length, h.some_before, h.ordered, h.some_after);
          }

      -- the two words are written into the end of the gap
      module _ (count : ℕ) (last : List ℕ) (p : Pushed (positive x ++ negative y) bytes (right + 1) count last) (room : count ≤ right + 1 - (left - 1)) where
        written : word_at last (left - 1) (right + 1 - count) ≡ replaced prefix x y suffix
        unfolding word_at
        written =
            letters_append (take (left - 1) last) (drop (right + 1 - count) last)
            ∙ ap₂ (λ w t. w ++ t) (ap letters (pushed_kept p (left - 1) (omega arith))) (p.pushed ∙ append_assoc (positive x) (negative y) suffix)

        pub steps : Lettered T.size (positive x) → Lettered T.size (positive y)
            → Steps T (word_at bytes left right) last (left - 1) (right + 1 - count) a b
        steps lx ly =
            record {
              searched =
                  record {
                    ordered = omega arith;
                    inside = omega (arith, p.same_length, h.some_after);
                    none_before =
                        subst (λ k. NoneBefore (place_before k) (word_at last (left - 1) (right + 1 - count))) prefix_length
                        (subst (NoneBefore (place_before (length prefix))) (sym written) (none_after_step (word_at bytes left right) found x y));
                  };
              taken = step_here ∙ ap (step a b) (sym written);
              lettered =
                  rw written
                  (lettered_append T.size prefix (positive x ++ (negative y ++ suffix))
                  (lettered_front T.size prefix (back a ∷ forward b ∷ suffix) parts)
                  (lettered_append T.size (positive x) (negative y ++ suffix) lx
                  (lettered_append T.size (negative y) suffix (lettered_negative T.size y ly)
                  (lettered_end T.size prefix (back a ∷ forward b ∷ suffix) parts).1.1)));
              resumed = λ p s c d e. let same : prefix ≡ p = cc found in sym prefix_length ∙ ap length same;
            }

-- what a search from a place before which no site begins finds is the leftmost site of the word as it stands
pub here : {place : ℕ} {word : Word} {bytes : List ℕ} {left right : ℕ} → NoneBefore place word → AtSite (site_from place word) word bytes left right
    → AtLeftmost bytes left right
here {place} {word} none h =
    record {
      ordered = h.ordered;
      some_before = h.some_before;
      some_after = h.some_after;
      back_before = h.back_before;
      forward_after = h.forward_after;
      found = ap site h.word_kept ∙ (sym (finds_leftmost place word none) ∙ h.found);
      word_kept = refl;
    }

-- and where it finds none there is none
pub at_end : {place : ℕ} {word : Word} {bytes : List ℕ} {left right : ℕ} → NoneBefore place word → AtEnd (site_from place word) word bytes left right
    → AtEnd (site word) word bytes left right
at_end {place} {word} none h =
    record { ordered = h.ordered; all = h.all; none = sym (finds_leftmost place word none) ∙ h.none; word_kept = h.word_kept }

-- the word before the gap is then all of it
pub end_word : {word : Word} {bytes : List ℕ} {left right : ℕ} → AtEnd (site word) word bytes left right → word ≡ letters (take left bytes)
end_word {bytes} {left} {right} h = sym h.word_kept ∙ all_before bytes left right h.all

pub end_next : (T : Presentation) {word : Word} {bytes : List ℕ} {left right : ℕ} → AtEnd (site word) word bytes left right → next T word ≡ no_site
unfolding next
end_next T h = ap (by_site T) h.none
