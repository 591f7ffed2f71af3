-- A word moves to the end: the engine's law of writing a word from its end, where the source is the area itself.
use mathlib.Core.Path.{◌≡◌, sym, ap, ◌∙◌}
use mathlib.Core.List.{List, ◌++◌, append-nil}
use Prim.Native.Nat.{ℕ, ◌+◌, ◌-◌, ◌≤◌, ◌<◌}
use native.Mathlib.Omega.{arith}
use lib.ListN.{length, take, drop, get_or, set}
use lib.Seq.{get_or-take, drop-length}
use Rattle.engine.specs.Gap.{letters}
use Rattle.engine.specs.Turn.{Pushed}
use Rattle.engine.proofs.Letters.{letters_nil}
use Rattle.engine.proofs.Pushes.{pushed_as, pushed_kept, word_none, word_turn}
use Rattle.engine.specs.Words.{Moved}

module _ (before : List ℕ) (from count : ℕ) (inside : from + count ≤ length before) where
  -- the last i letters have moved
  abbrev pub Moving : ℕ → List ℕ → Type 0
  Moving i bytes = Pushed (letters (drop (count - i) (take count (drop from before)))) before (length before) i bytes

  room : count ≤ length before
  room = omega arith

  all : length before ≤ length before
  all = omega arith

  pub moving_start : Moving 0 before
  moving_start = word_none before from count inside before (length before) all room

  module _ (bytes : List ℕ) (i : ℕ) (p : Moving i bytes) where
    -- what is read has not been written yet
    unread : i < count → get_or bytes (from + (count - 1 - i)) 0 ≡ get_or before (from + (count - 1 - i)) 0
    unread h =
        sym (get_or-take (length before - i) bytes (from + (count - 1 - i)) 0 (omega arith))
        ∙ (ap (λ l. get_or l (from + (count - 1 - i)) 0) p.before ∙ get_or-take (length before - i) before (from + (count - 1 - i)) 0 (omega arith))

    pub moving_turn : i < count → Moving (i + 1) (set bytes (length before - 1 - i) (get_or bytes (from + (count - 1 - i)) 0))
    moving_turn h = rw (unread h) (word_turn before from count inside before (length before) all room bytes i h p)

    pub moving_done : i ≡ count → Moved before from count bytes
    moving_done e =
        let f : count - i ≡ 0 = omega arith in
        let q = pushed_as (ap (λ j. letters (drop j (take count (drop from before)))) f) e p in
        record {
          same_length = p.same_length;
          moved =
              ap (λ n. letters (drop (n - count) bytes)) p.same_length
              ∙ (q.pushed
              ∙ (ap (λ l. letters (take count (drop from before)) ++ letters l) (drop-length before)
              ∙ (ap (λ w. letters (take count (drop from before)) ++ w) letters_nil ∙ append-nil (letters (take count (drop from before))))));
          kept = pushed_kept q from (omega arith);
        }
