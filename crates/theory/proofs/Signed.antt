-- What the reversing of one word's undoing, followed by another word, says of two words of either sign (specification 6.18): no open pair is met, and the
-- words are joined exactly if numerator and denominator are. For that words can be cancelled on both sides, and have common right multiples.
-- From `left_cancelling` ([D1] section 1), for the right side that of the mirror (`joined_backward`), `common_multiple` and `fraction_equal`.
-- Main names: `right_cancelling`, `finished_by_some`, `ends_are_joined`, `signed_meaning`.
use mathlib.Core.Path.{◌≡◌, sym, subst, subst₂}
use mathlib.Core.List.{List, [], ◌∷◌, ◌++◌, reverse, append-nil, reverse-append, Memᴰ}
use Prim.Native.Nat.{ℕ}
use Rattle.model.specs.Word.{Word, Positive, inverse, positive, negative}
use Rattle.model.specs.Presentation.{Presentation, complete}
use Rattle.model.specs.Reversing.{finished, open_pair, reversing}
use Rattle.model.specs.Equivalence.{Joined}
use Rattle.model.specs.Outcome.{answered, ◌>>=◌}
use Rattle.model.specs.Enumeration.{pairs, triples}
use Rattle.model.specs.Range.{All, InRange, LetterInRange, Lettered, TableInRange}
use Rattle.model.specs.Checks.{weight_check, cube_check}
use Rattle.model.specs.Mirror.{mirror, mirror_check}
use Rattle.model.specs.Services.{of_mirror, mirror_cleared}
use Rattle.model.specs.Signed.{GroupJoined}
use Rattle.model.proofs.Complete.{complete_turn}
use Rattle.model.proofs.Leftmost.{open_unfinished}
use Rattle.model.proofs.Endings.{ends_exactly}
use Rattle.model.proofs.Equiv.{Equiv}
use Rattle.model.proofs.Joining.{equiv_joined, joined_equiv}
use Rattle.theory.specs.Orders.{FinishesInSomeOrder}
use Rattle.theory.specs.Signed.{ClosedSet, Settles, NotOpen, SignedMeaning}
use Rattle.theory.proofs.Letters.{all_append, positive_lettered, negative_lettered, inverse_lettered}
use Rattle.theory.proofs.Reduction.{finished_reduces}
use Rattle.theory.proofs.Orders.{any_order}
use Rattle.theory.proofs.Grid.{same_grid, turned}
use Rattle.theory.proofs.Diagram.{draw}
use Rattle.theory.proofs.Backward.{joined_backward}
use Rattle.theory.proofs.Checked.{both_pass}
use Rattle.theory.proofs.Remainders.{left_cancelling}
use Rattle.theory.proofs.MirrorClearing.{mirror_meaning}
use Rattle.theory.proofs.Ways.{joined_letters}
use Rattle.theory.proofs.Linking.{linked_then, linked_turned, linked_after, word_undone, undone_word, equiv_linked, reduces_linked}
use Rattle.theory.proofs.Acting.{Multiple, fraction_equal}
use Rattle.theory.proofs.Paving.{Within, Finishable, common_multiple, finishable}

-- CANCELLING ON THE RIGHT

module _ (T : Presentation) (range : TableInRange T) (budget room : ℕ) (clear : mirror_cleared T budget room ≡ answered tt) where
  -- the mirror clears only where there is one
  has_mirror : mirror_check T ≡ answered tt
  unfolding mirror_cleared
  has_mirror =
      (both_pass (mirror_check T) (weight_check T (pairs T.size) >>= λ ok. of_mirror (cube_check (mirror T) budget room (triples T.size))) clear).0

  -- what two joined words end with can be taken off both: under the mirror, where it clears, that is what they begin with
  pub right_cancelling : (r u v : Positive) → Joined T (u ++ r) (v ++ r) → Joined T u v
  right_cancelling r u v j =
      let backward : Joined (mirror T) (reverse r ++ reverse u) (reverse r ++ reverse v) =
      subst₂ (Joined (mirror T)) (reverse-append u r) (reverse-append v r) ((joined_backward T range has_mirror (u ++ r) (v ++ r)).0 j) in
      (joined_backward T range has_mirror u v).1
      (left_cancelling (mirror T) budget room ((mirror_meaning T range budget room).passed clear) (reverse r) (reverse u) (reverse v) backward)

-- A CLOSED SET

module _ (T : Presentation) (S : List Positive) (closed : ClosedSet T S) where
  -- the words of the set
  abbrev In : Positive → Type 0
  In u = Memᴰ u S

  -- v\u is of the set as u\v is
  set_diagram : (u v : Positive) → In u → In v → Within T In u v
  set_diagram u v i j =
      let across = closed.has_complements u v i j in
      let down = closed.has_complements v u j i in
      let g = draw u v across.0 across.2 across.3.1 in
      let h = turned (complete_turn T) (draw v u down.0 down.2 down.3.1) in
      record {
        n = across.0;
        d = across.2;
        k = across.3.0;
        grid = g;
        above = across.1;
        beyond = subst In (sym (same_grid g h).1) down.1;
      }

  -- what is paved with the set
  multiple : (a : ℕ) (u : Positive) → InRange T.size a → All (InRange T.size) u → Multiple T a u
  multiple = common_multiple T In set_diagram closed.has_letters closed.in_letters

  pub finished_by_some : (w : Word) → Lettered T.size w → Finishable T w
  finished_by_some = finishable T In set_diagram closed.has_letters closed.in_letters

  -- so the leftmost steps finish every word, and meet no open pair
  no_open_pair : (w : Word) → Lettered T.size w → (budget room : ℕ) → NotOpen (reversing T budget room w)
  no_open_pair w h budget room a b k e =
      let f = finished_by_some w h in
      let m = (ends_exactly T budget room w (open_pair a b k)).0 e in
      open_unfinished T m.reached.run m.here m.undefined_there f.n f.d ((any_order T w).same_end f.n f.d f.k f.run)

  -- what some order finishes with has letters of the table
  end_letters : (w : Word) → Lettered T.size w → (n d : Positive) (k : ℕ) → FinishesInSomeOrder T w n d k
      → All (InRange T.size) n × All (InRange T.size) d
  end_letters w h n d k run =
      let f = finished_by_some w h in
      let same = (any_order T w).agree f.n f.d n d f.k k f.run run in
      (subst (All (InRange T.size)) same.0 f.over, subst (All (InRange T.size)) same.1 f.under)

-- THE MEANING

module _ (T : Presentation) (S : List Positive) (settles : Settles T S) where
  -- what `Acting` asks for
  kept : (u v : Positive) → Equiv (complete T) u v → All (InRange T.size) u → All (InRange T.size) v
  kept u v e = joined_letters T settles.in_range u v (equiv_joined T e)

  cancel_left : (a : ℕ) (u v : Positive) → Equiv (complete T) (a ∷ u) (a ∷ v) → Equiv (complete T) u v
  cancel_left a u v e =
      let c = settles.clears in
      joined_equiv T u v (left_cancelling T c.0 c.1 c.2 (a ∷ []) u v (equiv_joined T e))

  cancel_right : (r u v : Positive) → Equiv (complete T) (u ++ r) (v ++ r) → Equiv (complete T) u v
  cancel_right r u v e =
      let c = settles.mirror_clears in
      joined_equiv T u v (right_cancelling T settles.in_range c.0 c.1 c.2 r u v (equiv_joined T e))

  module _ (w w' : Word) (h : Lettered T.size w) (h' : Lettered T.size w') where
    -- the word that is reversed, and where it ends
    letters : Lettered T.size (inverse w ++ w')
    letters = all_append (LetterInRange T.size) (inverse w) w' (inverse_lettered T.size w h) h'

    module _ (n d : Positive) (k : ℕ) (run : FinishesInSomeOrder T (inverse w ++ w') n d k) where
      reversed : GroupJoined T (inverse w ++ w') (positive n ++ negative d)
      reversed = reduces_linked T settles.in_range letters run

      -- the empty word is joined to the first one's undoing and itself, so to the numerator and the denominator's undoing
      pub ends_are_joined : GroupJoined T w w' → Joined T n d
      ends_are_joined j =
          let undone = undone_word w [] h in
          let empty : GroupJoined T [] (inverse w ++ w) = subst (λ v. GroupJoined T [] (inverse w ++ v)) (append-nil w) undone in
          equiv_joined T
          (fraction_equal T kept cancel_left (multiple T S settles.closed) cancel_right n d
          (linked_then empty (linked_then (linked_after (inverse w) j) reversed)))

      -- the second word is joined to the first one, its undoing and the second; what follows the first is joined to the empty word
      words_are_joined : Joined T n d → GroupJoined T w w'
      words_are_joined j =
          let in_d = (end_letters T S settles.closed (inverse w ++ w') letters n d k run).1 in
          let same : GroupJoined T (positive n ++ negative d) (positive d ++ negative d) = equiv_linked (negative d) (joined_equiv T n d j) in
          let undone : GroupJoined T [] (positive d ++ negative d) =
          subst (λ v. GroupJoined T [] (positive d ++ v)) (append-nil (negative d)) (word_undone (positive d) [] (positive_lettered T.size d in_d)) in
          let empty : GroupJoined T (inverse w ++ w') [] = linked_then reversed (linked_then same (linked_turned undone)) in
          let first : GroupJoined T (w ++ (inverse w ++ w')) w =
          subst (GroupJoined T (w ++ (inverse w ++ w'))) (append-nil w) (linked_after w empty) in
          linked_turned (linked_then (word_undone w w' h) first)

pub signed_meaning : (T : Presentation) (S : List Positive) → SignedMeaning T S
signed_meaning T S settles w w' h h' =
    record {
      never_open = no_open_pair T S settles.closed (inverse w ++ w') (letters T S settles w w' h h');
      forward_never_open = λ n d p q.
          no_open_pair T S settles.closed (negative n ++ positive d)
          (all_append (LetterInRange T.size) (negative n) (positive d) (negative_lettered T.size n p) (positive_lettered T.size d q));
      ends_in_letters = λ budget room n d k r e.
          end_letters T S settles.closed (inverse w ++ w') (letters T S settles w w' h h') n d k (ended budget room n d k r e);
      joined_ends = λ budget room n d k r e. ends_are_joined T S settles w w' h h' n d k (ended budget room n d k r e);
      ends_joined = λ budget room n d k r e. words_are_joined T S settles w w' h h' n d k (ended budget room n d k r e);
    }
  where
    ended : (budget room : ℕ) (n d : Positive) (k r : ℕ) → reversing T budget room (inverse w ++ w') ≡ finished n d k r
        → FinishesInSomeOrder T (inverse w ++ w') n d k
    ended budget room = finished_reduces T budget room (inverse w ++ w')
