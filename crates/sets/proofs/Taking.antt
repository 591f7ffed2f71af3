-- The pairs of one place, taken one after the other.
use mathlib.Core.Path.{◌≡◌, refl, sym, ap, subst, ◌∙◌}
use mathlib.Core.List.{List, [], ◌∷◌, ◌++◌, map, append_assoc, append-nil}
use mathlib.Core.Bool.{cond}
use Prim.Native.Nat.{ℕ, suc, ◌+◌, ◌-◌, ◌≤◌, ◌<◌}
use native.Mathlib.Omega.{arith}
use borrow.Author.Tests.{lt-ltb}
use lib.ListN.{length, take, length-append}
use Rattle.std.specs.Prelude.{Result, Ok, Err}
use Rattle.model.specs.Word.{Positive}
use Rattle.model.specs.Presentation.{Presentation}
use Rattle.model.specs.Reversing.{no_room, stopped, reversing}
use Rattle.model.specs.Enumeration.{range, Two}
use Rattle.model.specs.Outcome.{Outcome, answered, refused, ◌>>=◌}
use Rattle.model.specs.Signed.{set_bytes, added_to, taken_pairs}
use Rattle.model.specs.declared.answers.Stop.TheVariants.{Room}
use Rattle.sets.specs.declared.growing.Held.{Held}
use Rattle.sets.specs.declared.growing.SetFault.{SetFault}
use Rattle.spans.specs.Ends.{HasEnd, EndFound}
use Rattle.sets.specs.Listed.{Placed}
use Rattle.sets.specs.Growing.{stopped_as, Growing, Grew, StopsLong, StepMeans, pair_word, after_pair}
use Rattle.sets.proofs.Spelling.{start_more, word_has_end, word_placed, next_start}

-- OUTCOMES ONE AFTER THE OTHER

pub then_assoc : {A B C : Type 0} (o : Outcome A) (f : A → Outcome B) (g : B → Outcome C) → ((o >>= f) >>= g) ≡ (o >>= λ x. (f x >>= g))
then_assoc (answered x) f g = refl
then_assoc (refused n place) f g = refl

module _ (T : Presentation) (budget room : ℕ) where
  pub taken_both : (ps qs : List Two) (vs : List Positive)
      → taken_pairs T budget room (ps ++ qs) vs ≡ (taken_pairs T budget room ps vs >>= taken_pairs T budget room qs)
  taken_both [] qs vs = refl
  taken_both (p ∷ ps) qs vs =
      step (after_pair T budget room vs p) (taken_both ps qs)
      ∙ sym (then_assoc (after_pair T budget room vs p) (taken_pairs T budget room ps) (taken_pairs T budget room qs))
    where
      step : (o : Outcome (List Positive))
          → ((ws : List Positive) → taken_pairs T budget room (ps ++ qs) ws ≡ (taken_pairs T budget room ps ws >>= taken_pairs T budget room qs))
          → (o >>= taken_pairs T budget room (ps ++ qs)) ≡ (o >>= λ ws. (taken_pairs T budget room ps ws >>= taken_pairs T budget room qs))
      step (answered ws) both = both ws
      step (refused n place) both = refl

  -- a pair where the words alone are longer than the workspace
  pub pair_stops : (ws : List Positive) (p : Two) (ps : List Two) (after : List Positive → Outcome (Unit {0})) → room < set_bytes ws
      → (taken_pairs T budget room (p ∷ ps) ws >>= after) ≡ stopped_as Room
  pair_stops ws p ps after h =
      ap (λ t. (added_to ws (cond t (stopped no_room) (reversing T budget (room - set_bytes ws) (pair_word ws p))) >>= taken_pairs T budget room ps) >>= after)
      (lt-ltb room (set_bytes ws) h)

  -- so that what stops for the words that come last does so before them
  pub stops_before : (vs words : List Positive) (ps : List Two) (after : List Positive → Outcome (Unit {0})) → length vs ≤ length words
      → StopsLong room vs after → StopsLong room words (λ ws. taken_pairs T budget room ps ws >>= after)
  stops_before vs words [] after h stops ws more few long = stops ws (omega arith) few long
  stops_before vs words (p ∷ ps) after h stops ws more few long = pair_stops ws p ps after long

-- PAIRS OF ONE PLACE

-- so many of the pairs were taken; the next word begins at a byte
pub record Taking (T : Presentation) (budget room : ℕ) (vs : List Positive) (pair : ℕ → Two) (total : ℕ) (area : List ℕ) (h : Held) (at : ℕ) : Type 0 where
  pub passed : ℕ
  pub within : passed ≤ total
  pub words : List Positive
  pub growing : Growing T.size area h words
  pub added : List Positive
  pub extends : words ≡ vs ++ added
  pub at_is : at ≡ set_bytes (take passed vs)
  pub left : taken_pairs T budget room (map pair (range 0 total)) vs ≡ taken_pairs T budget room (map pair (range passed (total - passed))) words

pub taking_begun : (T : Presentation) (budget room : ℕ) (vs : List Positive) (pair : ℕ → Two) (total : ℕ) (area : List ℕ) (h : Held)
    → Growing T.size area h vs → Taking T budget room vs pair total area h 0
taking_begun T budget room vs pair total area h g =
    let e : total ≡ total - 0 = omega arith in
    record {
      passed = 0;
      within = omega arith;
      words = vs;
      growing = g;
      added = [];
      extends = sym (append-nil vs);
      at_is = refl;
      left = ap (λ k. taken_pairs T budget room (map pair (range 0 k)) vs) e;
    }

module _ {T : Presentation} {budget room : ℕ} {vs : List Positive} {pair : ℕ → Two} {total : ℕ} {area : List ℕ} {h : Held} {at : ℕ}
    (k : Taking T budget room vs pair total area h at) (few : total ≤ length vs) where
  abbrev whole : Outcome (List Positive)
  whole = taken_pairs T budget room (map pair (range 0 total)) vs

  words_length : length k.words ≡ length vs + length k.added
  words_length = ap length k.extends ∙ length-append vs k.added

  start : at ≡ set_bytes (take k.passed k.words)
  start =
      k.at_is
      ∙ (sym (start_more vs k.added k.passed (omega (arith, k.within))) ∙ ap (λ l. set_bytes (take k.passed l)) (sym k.extends))

  pub taking_done : total ≤ k.passed → Grew T.size area vs whole h
  taking_done all =
      let e : total - k.passed ≡ 0 = omega arith in
      record {
        words = k.words;
        is = k.left ∙ ap (λ n. taken_pairs T budget room (map pair (range k.passed n)) k.words) e;
        growing = k.growing;
        added = k.added;
        extends = k.extends;
      }

  module _ (on : k.passed < total) where
    here : k.passed < length k.words
    here = omega (arith, words_length)

    pub taking_end : HasEnd area at
    taking_end = word_has_end T.size area h.used k.words k.growing.lists k.passed here at start

    -- what is left after the next pair
    abbrev rest : List Two
    rest = map pair (range (suc k.passed) (total - suc k.passed))

    step : whole ≡ (after_pair T budget room k.words (pair k.passed) >>= taken_pairs T budget room rest)
    step =
        let e : total - k.passed ≡ suc (total - suc k.passed) = omega arith in
        k.left ∙ ap (λ n. taken_pairs T budget room (map pair (range k.passed n)) k.words) e

    -- the pair was taken
    module _ (after : List ℕ) (same : length area ≡ room) (kept : length after ≡ length area) where
      -- what taking it does, by a result
      abbrev Means : Result Held SetFault → Type 0
      Means = StepMeans T.size after k.words (after_pair T budget (length area) k.words (pair k.passed))

      at_room : (r : Result Held SetFault) → Means r → StepMeans T.size after k.words (after_pair T budget room k.words (pair k.passed)) r
      at_room r = subst (λ i. StepMeans T.size after k.words (after_pair T budget i k.words (pair k.passed)) r) same

      pub taking_ended : (f : SetFault) → Means (Err f) → StepMeans T.size after vs whole (Err f)
      taking_ended f means go stops =
          let n : length after ≡ room = kept ∙ same in
          let later : StopsLong (length after) k.words (λ ws. taken_pairs T budget room rest ws >>= go) =
          subst (λ i. StopsLong i k.words (λ ws. taken_pairs T budget room rest ws >>= go)) (sym n)
          (stops_before T budget room vs k.words rest go (omega (arith, words_length)) (subst (λ i. StopsLong i vs go) n stops)) in
          at_room (Err f) means (λ ws. taken_pairs T budget room rest ws >>= go) later
          ∙ (sym (then_assoc (after_pair T budget room k.words (pair k.passed)) (taken_pairs T budget room rest) go) ∙ ap (λ o. o >>= go) (sym step))

      pub taking_more : (h' : Held) → Means (Ok h') → (end : ℕ) → EndFound area at end → Taking T budget room vs pair total after h' (end + 1)
      taking_more h' means end f =
          let g : Grew T.size after k.words (after_pair T budget room k.words (pair k.passed)) h' = at_room (Ok h') means in
          record {
            passed = suc k.passed;
            within = on;
            words = g.words;
            growing = g.growing;
            added = k.added ++ g.added;
            extends = g.extends ∙ (ap (λ l. l ++ g.added) k.extends ∙ append_assoc vs k.added g.added);
            at_is =
                next_start T.size area h.used k.words k.growing.lists k.passed here at start end f
                ∙ (ap (λ l. set_bytes (take (suc k.passed) l)) k.extends ∙ start_more vs k.added (suc k.passed) (omega arith));
            left = step ∙ ap (λ o. o >>= taken_pairs T budget room rest) g.is;
          }

    pub taking_placed : (end : ℕ) → EndFound area at end → Placed k.words k.passed (record { at = at; letters = end - at })
    taking_placed end f = word_placed T.size area h.used k.words k.growing.lists k.passed here at start end f
