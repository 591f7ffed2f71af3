-- The places one after the other, until there is none left.
use mathlib.Core.Path.{◌≡◌, refl, sym, ap, subst, ◌∙◌}
use mathlib.Core.List.{List, [], ◌++◌, map}
use mathlib.Core.Bool.{cond}
use Prim.Native.Nat.{ℕ, zero, suc, ◌+◌, ◌*◌, ◌-◌, ◌≤◌, ◌<◌}
use native.Mathlib.Omega.{arith}
use borrow.Author.Tests.{lt-ltb, le-ltb}
use native.Mathlib.Decide.{dec_lt}
use lib.ListN.{length, take, length-append}
use lib.Seq.{take-length}
use Rattle.std.specs.Prelude.{Result, Ok, Err}
use Rattle.model.specs.Word.{Positive}
use Rattle.model.specs.Presentation.{Presentation}
use Rattle.model.specs.Enumeration.{range}
use Rattle.model.specs.Ways.{listing_bytes}
use Rattle.model.specs.Outcome.{Outcome, answered, refused, ◌>>=◌, mapped}
use Rattle.model.specs.Signed.{first_words, places_at, most_words, set_bytes, taken_pairs, grown_from, grown_set}
use Rattle.model.specs.declared.answers.Stop.TheVariants.{Room}
use Rattle.model.specs.Images.{most_size}
use Rattle.cells.specs.Stands.{Stands}
use Rattle.sets.specs.declared.growing.Held.{Held}
use Rattle.sets.specs.declared.growing.SetFault.{SetFault}
use Rattle.sets.specs.declared.places.Side.TheVariants.{Second, First}
use Rattle.spans.specs.Ends.{HasEnd, EndFound}
use Rattle.sets.specs.Growing.{stopped_as, fault_as, Growing, Grew, StepMeans}
use Rattle.sets.specs.Places.{sided_pair, sided, LaterWord}
use Rattle.sets.proofs.Spelling.{used_is, place_below, start_more, word_has_end, word_inside, word_placed, next_start}
use Rattle.sets.proofs.FirstWords.{firsts, first_named, first_bytes}
use Rattle.sets.proofs.Taking.{pair_stops}

-- an outcome, without its answer
abbrev pub told : {A : Type 0} → Outcome A → Outcome (Unit {0})
told o = mapped (λ x. tt) o

told_then : {A B : Type 0} (o : Outcome A) (f : A → Outcome B) → told (o >>= f) ≡ (o >>= λ x. told (f x))
told_then (answered x) f = refl
told_then (refused n place) f = refl

module _ (T : Presentation) (budget room : ℕ) where
  -- a place that is there
  on_place : (rounds m : ℕ) (vs : List Positive) → m < length vs
      → grown_from T budget room (suc rounds) m vs ≡ (taken_pairs T budget room (places_at m) vs >>= grown_from T budget room rounds (suc m))
  unfolding grown_from
  on_place rounds m vs h =
      ap (λ t. cond t (taken_pairs T budget room (places_at m) vs >>= grown_from T budget room rounds (suc m)) (answered vs)) (lt-ltb m (length vs) h)

  -- no place is left
  past_places : (rounds m : ℕ) (vs : List Positive) → length vs ≤ m → grown_from T budget room rounds m vs ≡ answered vs
  unfolding grown_from
  past_places zero m vs h = refl
  past_places (suc rounds) m vs h =
      ap (λ t. cond t (taken_pairs T budget room (places_at m) vs >>= grown_from T budget room rounds (suc m)) (answered vs)) (le-ltb m (length vs) h)

  -- the words alone are longer than the workspace, and a place is left
  long_places : (m : ℕ) (vs : List Positive) (after : List Positive → Outcome (Unit {0})) → room < set_bytes vs
      → (taken_pairs T budget room (places_at m) vs >>= after) ≡ stopped_as Room
  long_places zero vs after h = pair_stops T budget room vs (sided_pair First 0 0) [] after h
  long_places (suc m) vs after h =
      pair_stops T budget room vs (sided_pair Second (suc m) 0) (map (sided_pair Second (suc m)) (range 1 m) ++ sided First (suc m)) after h

  long_stops : (rounds m : ℕ) (vs : List Positive) → 1 ≤ rounds → m < length vs → room < set_bytes vs
      → told (grown_from T budget room rounds m vs) ≡ stopped_as Room
  long_stops zero m vs r h long = absurd (omega arith)
  long_stops (suc rounds) m vs r h long =
      ap told (on_place rounds m vs h)
      ∙ (told_then (taken_pairs T budget room (places_at m) vs) (grown_from T budget room rounds (suc m))
      ∙ long_places m vs (λ ws. told (grown_from T budget room rounds (suc m) ws)) long)

  -- the first words do
  pub first_stops : room < 1 + 2 * T.size → stopped_as Room ≡ told (grown_set T budget room)
  unfolding grown_set
  first_stops h =
      sym (long_stops most_words 0 (first_words T.size) (omega arith) (omega (arith, firsts T.size)) (omega (arith, first_bytes T.size)))

pub set_is : (T : Presentation) (budget room : ℕ) → grown_set T budget room ≡ grown_from T budget room most_words 0 (first_words T.size)
unfolding grown_set
set_is T budget room = refl

-- the first words are listed
pub first_growing : (n size : ℕ) (area : List ℕ) → n ≡ size → size ≤ most_size → 1 + 2 * size ≤ length area
    → take (1 + 2 * size) area ≡ listing_bytes (first_words size) → Growing n area (record { used = 1 + 2 * size; words = 1 + size }) (first_words n)
first_growing n size area e small inside bytes =
    record {
      lists =
          record {
            inside = inside;
            bytes = bytes ∙ ap (λ k. listing_bytes (first_words k)) (sym e);
            few = omega (arith, e, small);
            named = first_named n;
          };
      counted = omega (arith, firsts n, e);
      few = omega (arith, firsts n, e, small);
    }

-- so many places were gone through from those of vs on; the next word begins at a byte
pub record Closing (T : Presentation) (budget room : ℕ) (vs : List Positive) (area : List ℕ) (h : Held) (at : ℕ) : Type 0 where
  pub place : ℕ
  pub rounds : ℕ
  pub all : place + rounds ≡ most_words
  pub words : List Positive
  pub growing : Growing T.size area h words
  pub within : place ≤ length words
  pub at_is : at ≡ set_bytes (take place words)
  pub left : grown_from T budget room most_words 0 vs ≡ grown_from T budget room rounds place words

pub closing_begun : (T : Presentation) (budget room : ℕ) (vs : List Positive) (area : List ℕ) (h : Held) → Growing T.size area h vs
    → Closing T budget room vs area h 0
closing_begun T budget room vs area h g =
    record { place = 0; rounds = most_words; all = omega arith; words = vs; growing = g; within = omega arith; at_is = refl; left = refl }

module _ {T : Presentation} {budget room : ℕ} {vs : List Positive} {area : List ℕ} {h : Held} {at : ℕ} (k : Closing T budget room vs area h at) where
  -- what all comes to
  abbrev whole : Outcome (List Positive)
  whole = grown_from T budget room most_words 0 vs

  used_all : h.used ≡ set_bytes (take (length k.words) k.words)
  used_all = used_is T.size area h.used k.words k.growing.lists ∙ ap set_bytes (sym (take-length k.words))

  pub closing_closed : h.used ≤ at → answered tt ≡ told whole
  closing_closed l = sym (ap told (k.left ∙ past_places T budget room k.rounds k.place k.words (gone (dec_lt k.place (length k.words)))))
    where
      gone : Dec (k.place < length k.words) → length k.words ≤ k.place
      gone (yes p) = absurd (omega (arith, word_inside T.size area h.used k.words k.growing.lists k.place p, k.at_is))
      gone (no p) = omega arith

  module _ (on : at < h.used) where
    here : k.place < length k.words
    here = place_below k.words k.place (length k.words) (omega (arith, k.at_is, used_all))

    pub closing_end : HasEnd area at
    closing_end = word_has_end T.size area h.used k.words k.growing.lists k.place here at k.at_is

    step : whole ≡ (taken_pairs T budget room (places_at k.place) k.words >>= grown_from T budget room (k.rounds - 1) (suc k.place))
    step =
        let e : k.rounds ≡ suc (k.rounds - 1) = omega (arith, k.all, here, k.growing.few) in
        k.left
        ∙ (ap (λ r. grown_from T budget room r k.place k.words) e ∙ on_place T budget room (k.rounds - 1) k.place k.words here)

    module _ (end : ℕ) (f : EndFound area at end) where
      pub closing_later : {cells : List ℕ} → Stands cells T → LaterWord cells area h (record { at = at; letters = end - at }) T k.words k.place
      closing_later s =
          record {
            stands = s;
            growing = k.growing;
            placed = word_placed T.size area h.used k.words k.growing.lists k.place here at k.at_is end f;
          }

      -- the pairs of the place were taken
      module _ (after : List ℕ) (same : length area ≡ room) (kept : length after ≡ length area) where
        -- what taking them does, by a result
        abbrev Means : Result Held SetFault → Type 0
        Means = StepMeans T.size after k.words (taken_pairs T budget (length area) (places_at k.place) k.words)

        at_room : (r : Result Held SetFault) → Means r → StepMeans T.size after k.words (taken_pairs T budget room (places_at k.place) k.words) r
        at_room r = subst (λ i. StepMeans T.size after k.words (taken_pairs T budget i (places_at k.place) k.words) r) same

        pub closing_ended : (g : SetFault) → Means (Err g) → fault_as g ≡ told whole
        closing_ended g means =
            let n : length after ≡ room = kept ∙ same in
            at_room (Err g) means (λ ws. told (grown_from T budget room (k.rounds - 1) (suc k.place) ws))
            (λ ws more few long.
            long_stops T budget room (k.rounds - 1) (suc k.place) ws (omega (arith, k.all, here)) (omega (arith, here)) (omega (arith, n)))
            ∙ (sym (told_then (taken_pairs T budget room (places_at k.place) k.words) (grown_from T budget room (k.rounds - 1) (suc k.place)))
            ∙ ap told (sym step))

        pub closing_more : (h' : Held) → Means (Ok h') → Closing T budget room vs after h' (end + 1)
        closing_more h' means =
            let g : Grew T.size after k.words (taken_pairs T budget room (places_at k.place) k.words) h' = at_room (Ok h') means in
            let n : length g.words ≡ length k.words + length g.added = ap length g.extends ∙ length-append k.words g.added in
            record {
              place = suc k.place;
              rounds = k.rounds - 1;
              all = omega (arith, k.all, here, k.growing.few);
              words = g.words;
              growing = g.growing;
              within = omega (arith, here, n);
              at_is =
                  next_start T.size area h.used k.words k.growing.lists k.place here at k.at_is end f
                  ∙ (sym (start_more k.words g.added (suc k.place) here) ∙ ap (λ l. set_bytes (take (suc k.place) l)) (sym g.extends));
              left = step ∙ ap (λ o. o >>= grown_from T budget room (k.rounds - 1) (suc k.place)) g.is;
            }
