-- What remainder makes of each ending.
use mathlib.Core.Path.{◌≡◌, refl, sym, ap, subst, ◌∙◌}
use mathlib.Core.List.{List, [], ◌∷◌, ◌++◌, append-nil}
use Prim.Native.Nat.{ℕ, ◌+◌, ◌≤◌}
use native.Mathlib.Omega.{arith}
use borrow.Author.Tests.{le-ltb}
use lib.Dec.{ltb}
use lib.ListN.{length, take, replicate}
use Rattle.model.specs.Word.{Word, Positive, positive, negative}
use Rattle.model.specs.Presentation.{Presentation}
use Rattle.model.specs.Reversing.{Ending, finished, open_pair, stopped}
use Rattle.model.specs.Outcome.{answered, unless, mapped}
use Rattle.model.specs.Services.{moves_after, remainder_of}
use Rattle.model.specs.Areas.{begins, workspace_after}
use Rattle.loading.proofs.Late.{Late, late_answer, late_unless, late_mapped, late_stop}
use Rattle.model.specs.Stated.{counted}
use Rattle.model.specs.declared.answers.Ending.TheVariants.{Finished}
use Rattle.std.specs.Prelude.{Ok}
use Rattle.model.specs.declared.answers.Remaining.TheVariants.{Moves}
use Rattle.engine.specs.Gap.{letters}
use Rattle.engine.specs.Run.{Reverses}
use Rattle.engine.proofs.Letters.{letters_forward}
use Rattle.engine.proofs.Ended.{end, done}
use Rattle.remainders.specs.Remainder.{States}

-- a reversing that left no denominator: the numerator stands at the workspace's start
module _ (T : Presentation) (word : Word) (budget : ℕ) (workspace before : List ℕ) (n d k r : ℕ) (p : Reverses T word budget workspace (Finished n d k r))
    (z : d ≡ 0) where
  record Finishing : Type 0 where
    pub N : Positive
    pub is : end T word budget workspace ≡ finished N [] k r
    pub n_length : length N ≡ n
    pub stands : take n workspace ≡ N

  finishing : Finishing
  finishing = let q = done T word budget workspace n d k r p in go q.N q.D q.d_length q.is q.n_length q.stands
    where
      go : (N D : Positive) → length D ≡ d → end T word budget workspace ≡ finished N D k r → length N ≡ n
          → letters (take (n + d) workspace) ≡ positive N ++ negative D → Finishing
      go N [] e f en h =
          let all : n ≡ n + d = omega arith in
          record {
            N = N;
            is = f;
            n_length = en;
            stands = letters_forward (take n workspace) N (ap (λ i. letters (take i workspace)) all ∙ (h ∙ append-nil (positive N)));
          }
      go N (x ∷ D) e f en h = absurd (omega arith)

  pub moves_written : n ≤ length before → (after : List ℕ) → after ≡ begins (take n workspace) before
      → States (remainder_of (length before) (end T word budget workspace)) before after (Ok (Moves n k))
  moves_written h after e =
      let q = finishing in
      subst (λ j. States (remainder_of (length before) j) before after (Ok (Moves n k))) (sym q.is)
      (subst (λ t. States (unless t 13 (moves_after q.N k)) before after (Ok (Moves n k)))
      (sym (le-ltb (length before) (length q.N) (omega (arith, q.n_length))))
      (record {
        result = ap (λ i. answered (moves_after i k)) (sym q.n_length);
        area = e ∙ ap (λ l. begins l before) q.stands;
      }))

-- any of them comes after the work has begun
remainder_late : (area : ℕ) (e : Ending) → Late (remainder_of area e)
remainder_late area (finished n [] k r) = late_unless (ltb area (length n)) 13 _ refl
remainder_late area (finished n (x ∷ d) k r) = late_answer
remainder_late area (open_pair a b k) = late_answer
remainder_late area (stopped s) = late_stop s

pub remainder_zero : (area : ℕ) (e : Ending) (workspace : List ℕ) → workspace_after (mapped counted (remainder_of area e)) workspace ≡ replicate
    (length workspace) 0
remainder_zero area e = (late_mapped counted _ (remainder_late area e)).zero
