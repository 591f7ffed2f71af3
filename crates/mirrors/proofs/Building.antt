-- The mirror is built of one relation after the other: the laws of a pair that is open, that offends, or whose relation is entered; where building begins,
-- and that the cells stand for the mirror where no pair is left.
use mathlib.Core.Path.{◌≡◌, refl, sym, ap, ap₂, subst, ◌∙◌}
use mathlib.Core.Logic.{◌≢◌}
use mathlib.Core.List.{List, [], ◌∷◌, ◌++◌, reverse, append_assoc, append-nil}
use mathlib.Core.Bool.{Bool, ◌||◌, cond}
use Prim.Native.Nat.{ℕ, ◌+◌, ◌≤◌}
use native.Mathlib.Omega.{arith}
use native.Mathlib.Decide.{ℕ_discrete}
use lib.Dec.{eqb}
use lib.ListN.{length, get_or, replicate, get_or-replicate}
use borrow.Author.Tests.{eq-eqb, ne_eqb}
use Rattle.model.specs.Word.{Positive}
use Rattle.model.specs.Presentation.{Presentation, Complement, undefined, complement, swapped, complete}
use Rattle.model.specs.Range.{InRange}
use Rattle.model.specs.Enumeration.{Two, pairs}
use Rattle.model.specs.Outcome.{answered}
use Rattle.model.specs.Mirror.{from_end, relation_ending, or_else, found, backward, mirror, is_defined, offending, mirrored, mirror_check}
use Rattle.model.proofs.Complete.{complete_same}
use Rattle.model.proofs.Pairs.{pair}
use Rattle.model.proofs.Mirrors.{ending_own, ending_other, else_none, found_more, found_turned, left_found, mirror_different}
use Rattle.model.specs.Images.{most_size}
use Rattle.cells.specs.Layout.{Letters, cell_at, cell_bytes}
use Rattle.cells.specs.Stands.{HoldsWord, HoldsFirst, Of}
use Rattle.cells.specs.Kept.{KeptOutside, SameCell, HoldsPair, KeptPair}
use Rattle.cells.proofs.Kept.{first_byte, holds_kept, words_held, words_kept}
use Rattle.mirrors.specs.Mirror.{offended, Building, WeightsCopied}

pub wide : {n a : ℕ} → n ≤ most_size → InRange n a → InRange most_size a
wide few r = record { low = r.low; high = omega (arith, r.high) }

same_pair : (i j p q : ℕ) → Dec ((i ≡ p) × (j ≡ q))
same_pair i j p q = go (ℕ_discrete i p) (ℕ_discrete j q)
  where
    go : Dec (i ≡ p) → Dec (j ≡ q) → Dec ((i ≡ p) × (j ≡ q))
    go (yes e) (yes f) = yes (e, f)
    go (yes e) (no f) = no (λ g. f g.1)
    go (no e) _ = no (λ g. e g.0)

module _ (T : Presentation) (few : T.size ≤ most_size) (a b : ℕ) (rest : List Two) (cells : List ℕ) (h : Building T cells (pair a b ∷ rest)) where
  abbrev more : List Two
  more = h.earlier ++ (pair a b ∷ [])

  split_more : pairs T.size ≡ more ++ rest
  split_more = h.split ∙ sym (append_assoc h.earlier (pair a b ∷ []) rest)

  by_test : {t : Bool} → offending T h.earlier a b (complete T a b) ≡ t → mirror_check T ≡ cond t (offended a b) (mirrored T more rest)
  by_test e = h.checked ∙ ap (λ t. cond t (offended a b) (mirrored T more rest)) e

  -- OPEN

  pub pair_open : complete T a b ≡ undefined → Building T cells rest
  pair_open e =
      record {
        earlier = more;
        split = split_more;
        checked = by_test (ap (offending T h.earlier a b) e);
        weights = h.weights;
        same = h.same;
        different = λ p q rp rq d. subst (HoldsFirst T.size cells (cell_at p q)) (ap backward (sym (none p q))) (h.different p q rp rq d);
      }
    where
      none : (p q : ℕ) → found T p q more ≡ found T p q h.earlier
      none p q =
          found_more T p q h.earlier (pair a b)
          ∙ (ap (λ c. or_else (found T p q h.earlier) (relation_ending p q a b c)) e ∙ else_none (found T p q h.earlier))

  module _ (x y : Positive) (rule : complete T a b ≡ complement x y) (p q : ℕ) (ep : p ≡ (from_end a x).last) (eq : q ≡ (from_end b y).last) where
    test : offending T h.earlier a b (complete T a b) ≡ eqb p q || is_defined (found T p q h.earlier)
    test = ap (offending T h.earlier a b) rule ∙ ap₂ (λ i j. eqb i j || is_defined (found T i j h.earlier)) (sym ep) (sym eq)

    -- OFFENDING

    pub pair_ends_alike : p ≡ q → mirror_check T ≡ offended a b
    pair_ends_alike e = by_test (test ∙ ap (λ t. t || is_defined (found T p q h.earlier)) (eq-eqb p q e))

    module _ (d : p ≢ q) (rp : InRange T.size p) (rq : InRange T.size q) where
      test_found : offending T h.earlier a b (complete T a b) ≡ is_defined (found T p q h.earlier)
      test_found = test ∙ ap (λ t. t || is_defined (found T p q h.earlier)) (ne_eqb p q d)

      pub pair_taken : (get_or cells (cell_at p q) 0 ≡ 255 → ⊥) → mirror_check T ≡ offended a b
      pair_taken n = go (found T p q h.earlier) refl
        where
          go : (c : Complement) → found T p q h.earlier ≡ c → mirror_check T ≡ offended a b
          go undefined e = absurd (n (subst (λ c. HoldsFirst T.size cells (cell_at p q) (backward c)) e (h.different p q rp rq d)))
          go (complement u v) e = by_test (test_found ∙ ap is_defined e)

      -- ENTERED

      module _ (free : get_or cells (cell_at p q) 0 ≡ 255) where
        unfound : found T p q h.earlier ≡ undefined
        unfound = go (found T p q h.earlier) refl
          where
            go : (c : Complement) → found T p q h.earlier ≡ c → found T p q h.earlier ≡ undefined
            go undefined e = e
            go (complement u v) e =
                let w : HoldsWord T.size cells (cell_at p q) (reverse u) =
                subst (λ c. HoldsFirst T.size cells (cell_at p q) (backward c)) e (h.different p q rp rq d) in
                absurd (omega (arith, w.count, w.in_range.short))

        own : found T p q more ≡ complement (from_end a x).before (from_end b y).before
        own =
            found_more T p q h.earlier (pair a b)
            ∙ (ap₂ or_else unfound (ap (relation_ending p q a b) rule)
            ∙ (ap₂ (λ i j. relation_ending i j a b (complement x y)) ep eq ∙ ending_own (from_end a x) (from_end b y)))

        other : (i j : ℕ) → ((i ≡ p) × (j ≡ q) → ⊥) → ((i ≡ q) × (j ≡ p) → ⊥) → found T i j more ≡ found T i j h.earlier
        other i j there back =
            found_more T i j h.earlier (pair a b)
            ∙ (ap (or_else (found T i j h.earlier))
            (ap (relation_ending i j a b) rule
            ∙ ending_other i j (from_end a x) (from_end b y) (λ e. there (e.0 ∙ sym ep, e.1 ∙ sym eq)) (λ e. back (e.0 ∙ sym eq, e.1 ∙ sym ep)))
            ∙ else_none (found T i j h.earlier))

        module _ (mid after : List ℕ) (first : KeptOutside cells (cell_at p q) mid) (second : KeptOutside mid (cell_at q p) after)
            (there : HoldsWord T.size mid (cell_at p q) (reverse (from_end a x).before))
            (back : HoldsWord T.size after (cell_at q p) (reverse (from_end b y).before)) where
          letters : Letters p q
          letters = (wide few rp, wide few rq)

          kept : KeptPair cells p q after
          kept = words_kept cells p q letters mid after first second

          held : HoldsPair T.size after p q (complement (reverse (from_end a x).before) (reverse (from_end b y).before))
          held =
              words_held cells p q letters mid after first second T.size d (reverse (from_end a x).before) (reverse (from_end b y).before) there back

          turned : found T q p more ≡ complement (from_end b y).before (from_end a x).before
          turned = found_turned T p q d more ∙ ap swapped own

          diagonal : (i : ℕ) → InRange T.size i → SameCell cells after i i
          diagonal i r = kept i i (wide few r, wide few r) (λ e. d (sym e.0 ∙ e.1)) (λ e. d (sym e.1 ∙ e.0))

          apart_from : (i j : ℕ) → InRange T.size i → InRange T.size j → i ≢ j → ((i ≡ p) × (j ≡ q) → ⊥) → ((i ≡ q) × (j ≡ p) → ⊥)
              → HoldsFirst T.size after (cell_at i j) (backward (found T i j more))
          apart_from i j ri rj n e f =
              subst (λ c. HoldsFirst T.size after (cell_at i j) (backward c)) (sym (other i j e f))
              (holds_kept T.size cells after i j (backward (found T i j h.earlier)) (kept i j (wide few ri, wide few rj) e f) (h.different i j ri rj n))

          each : (i j : ℕ) → InRange T.size i → InRange T.size j → i ≢ j → Dec ((i ≡ p) × (j ≡ q)) → Dec ((i ≡ q) × (j ≡ p))
              → HoldsFirst T.size after (cell_at i j) (backward (found T i j more))
          each i j ri rj n (yes e) _ = rw (e.0, e.1, own) held.there
          each i j ri rj n (no e) (yes f) = rw (f.0, f.1, turned) held.back
          each i j ri rj n (no e) (no f) = apart_from i j ri rj n e f

          pub pair_entered : Building T after rest
          pair_entered =
              record {
                earlier = more;
                split = split_more;
                checked = by_test (test_found ∙ ap is_defined unfound);
                weights =
                    record {
                      many = h.weights.many;
                      holds = λ k l.
                          diagonal (1 + k) (record { low = omega arith; high = omega (arith, h.weights.many) }) 1 (omega arith) ∙ h.weights.holds k l;
                      light = h.weights.light;
                    };
                same = λ i r. first_byte cells after i i (diagonal i r) ∙ h.same i r;
                different = λ i j ri rj n. each i j ri rj n (same_pair i j p q) (same_pair i j q p);
              }

-- WHERE BUILDING BEGINS: the weights are copied into cells where every pair is open

pub begun : (cells : List ℕ) (size : ℕ) (T : Presentation) → Of cells size T → (mid : List ℕ) → WeightsCopied cells size (replicate cell_bytes 255) mid
    → Building T mid (pairs size)
unfolding mirror_check
begun cells size T o mid c =
    record {
      earlier = [];
      split = ap pairs o.sized;
      checked = ap (λ n. mirrored T [] (pairs n)) o.sized;
      weights =
          record {
            many = o.stands.weights.many;
            holds = λ k l.
                c.weights (1 + k) (record { low = omega arith; high = omega (arith, o.stands.weights.many, o.sized) }) ∙ o.stands.weights.holds k l;
            light = o.stands.weights.light;
          };
      same = λ i r. c.same i (record { low = r.low; high = omega (arith, r.high, o.sized) });
      different = λ p q rp rq d.
          let letters : Letters p q = (wide o.stands.few rp, wide o.stands.few rq) in
          first_byte (replicate cell_bytes 255) mid p q (c.kept p q letters d)
          ∙ get_or-replicate {A = ℕ} cell_bytes (cell_at p q) 255 0 (omega (arith, letters.0.low, letters.0.high, letters.1.low, letters.1.high));
    }

-- WHERE NO PAIR IS LEFT

module _ (cells : List ℕ) (size : ℕ) (T : Presentation) (o : Of cells size T) (after : List ℕ) (full : length after ≡ cell_bytes) (h : Building T after [])
  where
    all_entered : h.earlier ≡ pairs T.size
    all_entered = sym (h.split ∙ append-nil h.earlier)

    cell_held : (a b : ℕ) → InRange T.size a → InRange T.size b → Dec (a ≡ b) → HoldsFirst T.size after (cell_at a b) (complete (mirror T) a b)
    cell_held a b ra rb (yes e) =
        let empty : HoldsWord T.size after (cell_at a a) [] =
        record { count = h.same a ra; letters = λ k l. absurd (omega arith); in_range = record { short = omega arith; letters = tt } }
        in
        rw (← e, complete_same (mirror T) a) empty
    cell_held a b ra rb (no d) =
        subst (HoldsFirst T.size after (cell_at a b))
        (ap (λ rs. backward (found T a b rs)) all_entered
        ∙ sym (mirror_different T a b d ∙ ap backward (left_found T a b ra.low ra.high rb.low rb.high d)))
        (h.different a b ra rb d)

    pub built : (mirror_check T ≡ answered tt) × Of after size (mirror T)
    built = (
      h.checked,
      record {
        stands =
            record {
              full = full;
              some = o.stands.some;
              few = o.stands.few;
              weights = h.weights;
              cell = λ a b ra rb. cell_held a b ra rb (ℕ_discrete a b);
            };
        sized = o.sized;
      },
    )
