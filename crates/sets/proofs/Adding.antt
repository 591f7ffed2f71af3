-- A word behind the listed ones is listed, or why it is not.
use mathlib.Core.Path.{◌≡◌, refl, sym, ap, ap₂, ◌∙◌}
use mathlib.Core.List.{List, [], ◌∷◌, ◌++◌, append_assoc, append-nil}
use mathlib.Core.Bool.{true, false, cond}
use Prim.Native.Nat.{ℕ, ◌+◌, ◌≤◌, ◌<◌}
use native.Mathlib.Omega.{arith}
use native.Mathlib.Numerals.{add-one}
use borrow.Author.Tests.{le-leb, lt-leb}
use lib.Dec.{leb}
use lib.ListN.{length, take, drop, set, length-append, length-set}
use lib.Seq.{take-suc-set, take-add}
use Rattle.model.specs.Word.{Positive, positive}
use Rattle.model.specs.Range.{Lettered}
use Rattle.model.specs.Reversing.{finished}
use Rattle.model.specs.Ways.{listing_bytes}
use Rattle.model.specs.Outcome.{unplaced, Outcome, answered, refused, ◌>>=◌, unless}
use Rattle.model.specs.Signed.{is_listed, most_words, added_to}
use Rattle.model.specs.declared.answers.Stop.TheVariants.{Room}
use Rattle.model.proofs.Lists.{all_more}
use Rattle.swaps.proofs.Putting.{word_length}
use Rattle.sets.specs.declared.growing.Held.{Held}
use Rattle.sets.specs.declared.growing.SetFault.TheVariants.{TooLarge}
use Rattle.sets.specs.Growing.{stopped_as, fault_as, Growing, Grew, StopsLong}
use Rattle.sets.proofs.Spelling.{listing_both, bytes_after, used_is}

module _ (n : ℕ) (area : List ℕ) (h : Held) (vs : List Positive) (g : Growing n area h vs) (count : ℕ) (inside : h.used + count ≤ length area)
    (w : Positive) (behind : take count (drop h.used area) ≡ w) where
  abbrev outcome : Outcome (List Positive)
  outcome = added_to vs (finished w [] 0 0)

  pub listed_stays : is_listed w vs ≡ true → Grew n area vs outcome h
  listed_stays e =
      record {
        words = vs;
        is = ap (λ t. cond t (answered vs) (unless (leb most_words (length vs)) 22 (vs ++ (w ∷ [])))) e;
        growing = g;
        added = [];
        extends = sym (append-nil vs);
      }

  module _ (new : is_listed w vs ≡ false) where
    not_listed : outcome ≡ unless (leb most_words (length vs)) 22 (vs ++ (w ∷ []))
    not_listed = ap (λ t. cond t (answered vs) (unless (leb most_words (length vs)) 22 (vs ++ (w ∷ [])))) new

    pub too_large : most_words ≤ h.words → (after : List Positive → Outcome (Unit {0})) → fault_as TooLarge ≡ (outcome >>= after)
    too_large many after =
        let e : outcome ≡ refused 22 unplaced =
        not_listed ∙ ap (λ t. unless t 22 (vs ++ (w ∷ []))) (le-leb most_words (length vs) (omega (arith, g.counted))) in
        ap (λ o. o >>= after) (sym e)

    module _ (some : h.words < most_words) where
      more : outcome ≡ answered (vs ++ (w ∷ []))
      more = not_listed ∙ ap (λ t. unless t 22 (vs ++ (w ∷ []))) (lt-leb most_words (length vs) (omega (arith, g.counted)))

      letters : length w ≡ count
      letters = ap length (sym behind) ∙ word_length area h.used count inside

      long : length (vs ++ (w ∷ [])) ≡ length vs + 1
      long = length-append vs (w ∷ [])

      -- its zero byte has no room
      pub long_stops : h.used + count ≡ length area → (after : List Positive → Outcome (Unit {0})) → StopsLong (length area) vs after
          → stopped_as Room ≡ (outcome >>= after)
      long_stops full after stops =
          let e : after (vs ++ (w ∷ [])) ≡ stopped_as Room =
          stops (vs ++ (w ∷ [])) (omega (arith, long)) (omega (arith, long, g.counted, some))
          (omega (arith, bytes_after vs w, used_is n area h.used vs g.lists, letters)) in
          sym (ap (λ o. o >>= after) more ∙ e)

      -- it has
      pub word_added : Lettered n (positive w) → h.used + count < length area
          → Grew n (set area (h.used + count) 0) vs outcome (record { used = h.used + count + 1; words = h.words + 1 })
      word_added named room =
          let front : take (h.used + count) area ≡ listing_bytes vs ++ w =
          take-add h.used count area ∙ ap₂ (λ x y. x ++ y) g.lists.bytes behind in
          record {
            words = vs ++ (w ∷ []);
            is = more;
            growing =
                record {
                  lists =
                      record {
                        inside = omega (arith, length-set area (h.used + count) 0);
                        bytes =
                            ap (λ k. take k (set area (h.used + count) 0)) (add-one (h.used + count))
                            ∙ (take-suc-set area (h.used + count) 0 room
                            ∙ (ap (λ l. l ++ (0 ∷ [])) front
                            ∙ (append_assoc (listing_bytes vs) w (0 ∷ [])
                            ∙ (ap (λ l. listing_bytes vs ++ l) (sym (append-nil (w ++ (0 ∷ [])))) ∙ sym (listing_both vs (w ∷ []))))));
                        few = g.lists.few;
                        named = all_more (λ x. Lettered n (positive x)) vs w g.lists.named named;
                      };
                  counted = omega (arith, long, g.counted);
                  few = omega (arith, long, g.counted, some);
                };
            added = w ∷ [];
            extends = refl;
          }
