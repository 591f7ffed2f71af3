-- A pair of listed words taken: its reversing in the room behind the listed words, and what each ending says.
use mathlib.Core.Path.{◌≡◌, refl, sym, ap, ap₂, subst, ◌∙◌}
use mathlib.Core.List.{List, [], ◌++◌}
use mathlib.Core.Bool.{cond}
use Prim.Native.Nat.{ℕ, ◌+◌, ◌-◌, ◌≤◌, ◌<◌}
use native.Mathlib.Omega.{arith}
use borrow.Author.Tests.{le-ltb}
use lib.ListN.{length, take, drop, get_or, length-append, length-drop, length-take}
use lib.Seq.{take-add, take_at, drop_at, length-take-le}
use Rattle.std.specs.Prelude.{Result}
use Rattle.model.specs.Word.{Positive, positive, negative}
use Rattle.model.specs.Presentation.{Presentation}
use Rattle.model.specs.Range.{Lettered}
use Rattle.model.specs.Reversing.{Ending, finished, open_pair, stopped, no_budget, no_room, reversing}
use Rattle.model.specs.Enumeration.{Two}
use Rattle.model.specs.Outcome.{Outcome, ◌>>=◌}
use Rattle.model.specs.Signed.{set_bytes, added_to}
use Rattle.model.specs.Stated.{ending_answer}
use Rattle.model.specs.declared.answers.Pair.{Pair}
use Rattle.model.specs.declared.answers.Stop.{Stop}
use Rattle.model.specs.declared.answers.Stop.TheVariants.{Budget, Room}
use Rattle.model.specs.declared.answers.Ending.{Ending as EndingAnswer}
use Rattle.model.specs.declared.answers.Ending.TheVariants.{Finished, Undefined, Stopped}
use Rattle.model.proofs.Impossible.{impossible}
use Rattle.model.proofs.Reversal.{reversing_long}
use Rattle.engine.specs.Gap.{letters}
use Rattle.engine.specs.Run.{LeavesWord, LeavesLetters, Reverses}
use Rattle.engine.proofs.Letters.{letters_append, letters_forward, length_letters}
use Rattle.engine.proofs.Loads.{front_of}
use Rattle.engine.proofs.Lettering.{lettered_front, length_positive, length_negative}
use Rattle.sets.specs.declared.words.Span.{Span}
use Rattle.sets.specs.Words.{spanned}
use Rattle.sets.specs.declared.growing.Held.{Held}
use Rattle.sets.specs.declared.growing.SetFault.{SetFault}
use Rattle.sets.specs.declared.growing.SetFault.TheVariants.{OpenPair, Stopped as SetStopped}
use Rattle.sets.specs.Room.{Fit, Loaded, AtEnds, PairReverses}
use Rattle.sets.specs.Growing.{stopped_as, fault_as, Growing, StepMeans, pair_word, after_pair, Paired}
use Rattle.sets.proofs.Rooms.{part_of_front}
use Rattle.sets.proofs.Spelling.{used_is, word_named, word_part, word_inside}

-- ENDINGS

-- the numerator at the room's start
pub record Numerator (n : ℕ) (no_room : List ℕ) (e : Ending) (count : ℕ) : Type 0 where
  pub word : Positive
  pub others : Positive
  pub steps : ℕ
  pub relations : ℕ
  pub is : e ≡ finished word others steps relations
  pub stands : take count no_room ≡ word
  pub named : Lettered n (positive word)
  pub fits : count ≤ length no_room

module _ {n : ℕ} {no_room : List ℕ} where
  numerator_of : (e : Ending) → LeavesWord e no_room → LeavesLetters n e → (count d k r : ℕ) → Finished count d k r ≡ ending_answer e
      → Numerator n no_room e count
  numerator_of (finished w o i j) h l count d k r e =
      let c : count ≡ length w = cc in
      let all : letters (take (length w + length o) no_room) ≡ letters (take (length w) no_room) ++ letters (take (length o) (drop (length w) no_room)) =
      ap letters (take-add (length w) (length o) no_room) ∙ letters_append (take (length w) no_room) (take (length o) (drop (length w) no_room)) in
      let long : length (positive w ++ negative o) ≡ length w + length o =
      length-append (positive w) (negative o) ∙ ap₂ (λ x y. x + y) (length_positive w) (length_negative o) in
      let short : length (take (length w + length o) no_room) ≡ length w + length o =
      sym (length_letters (take (length w + length o) no_room)) ∙ (ap length h ∙ long) in
      let inside : length w ≤ length no_room = omega (arith, short, length-take (length w + length o) no_room) in
      let front : letters (take (length w) no_room) ≡ positive w =
      (front_of (letters (take (length w) no_room)) (letters (take (length o) (drop (length w) no_room))) (positive w) (negative o)
      (length_letters (take (length w) no_room) ∙ (length-take-le (length w) no_room inside ∙ sym (length_positive w))) (sym all ∙ h)).0 in
      record {
        word = w;
        others = o;
        steps = i;
        relations = j;
        is = refl;
        stands = ap (λ i. take i no_room) c ∙ letters_forward (take (length w) no_room) w front;
        named = lettered_front n (positive w) (negative o) l;
        fits = omega (arith, c, inside);
      }
  numerator_of (open_pair a b i) h l count d k r e = impossible (cc)
  numerator_of (stopped s) h l count d k r e = impossible (cc)

module _ (vs : List Positive) (after : List Positive → Outcome (Unit {0})) where
  open_met : (e : Ending) (p : Pair) (k : ℕ) → Undefined p k ≡ ending_answer e → fault_as (OpenPair p) ≡ (added_to vs e >>= after)
  open_met (finished w o i j) p k e = impossible (cc)
  open_met (open_pair a b i) p k e = let f : p ≡ record { a = a; b = b } = cc in ap (λ q. fault_as (OpenPair q)) f
  open_met (stopped s) p k e = impossible (cc)

  stop_met : (e : Ending) (s : Stop) → Stopped s ≡ ending_answer e → fault_as (SetStopped s) ≡ (added_to vs e >>= after)
  stop_met (finished w o i j) s e = impossible (cc)
  stop_met (open_pair a b i) s e = impossible (cc)
  stop_met (stopped no_budget) s e = let f : s ≡ Budget = cc in ap stopped_as f
  stop_met (stopped no_room) s e = let f : s ≡ Room = cc in ap stopped_as f

-- THE PAIR

module _ {cells area : List ℕ} {h : Held} {u v : Span} {T : Presentation} {vs : List Positive} {p : Two} (q : Paired cells area h u v T vs p)
    (steps : ℕ) where
  abbrev x : Positive
  x = get_or vs p.a []

  abbrev y : Positive
  y = get_or vs p.b []

  bytes : h.used ≡ set_bytes vs
  bytes = used_is T.size area h.used vs q.growing.lists

  inside : h.used ≤ length area
  inside = q.growing.lists.inside

  in_room : after_pair T steps (length area) vs p ≡ added_to vs (reversing T steps (length area - h.used) (pair_word vs p))
  in_room =
      ap (λ t. added_to vs (cond t (stopped no_room) (reversing T steps (length area - set_bytes vs) (pair_word vs p))))
      (le-ltb (length area) (set_bytes vs) (omega (arith, bytes, inside)))
      ∙ ap (λ k. added_to vs (reversing T steps (length area - k) (pair_word vs p))) (sym bytes)

  word_letters : length (pair_word vs p) ≡ u.letters + v.letters
  word_letters =
      length-append (negative x) (positive y)
      ∙ omega (arith, length_negative x, length_positive y, q.first.letters_is, q.second.letters_is)

  -- the two words do not fit
  pub pair_long : length area - h.used < u.letters + v.letters → (after : List Positive → Outcome (Unit {0}))
      → stopped_as Room ≡ (after_pair T steps (length area) vs p >>= after)
  pair_long l after =
      let e : reversing T steps (length area - h.used) (pair_word vs p) ≡ stopped no_room =
      reversing_long T steps (length area - h.used) (pair_word vs p) (omega (arith, word_letters)) in
      sym (ap (λ o. o >>= after) (in_room ∙ ap (added_to vs) e))

  u_inside : u.at + u.letters ≤ h.used
  u_inside =
      omega (arith, word_inside T.size area h.used vs q.growing.lists p.a q.first.inside, q.first.at_is, q.first.letters_is)

  v_inside : v.at + v.letters ≤ h.used
  v_inside =
      omega (arith, word_inside T.size area h.used vs q.growing.lists p.b q.second.inside, q.second.at_is, q.second.letters_is)

  module _ {listing room : List ℕ} (front : listing ≡ take h.used area) (back : room ≡ drop h.used area) (u_fits : u.letters ≤ length room)
      (v_fits : v.letters ≤ length room - u.letters) where
    listing_length : length listing ≡ h.used
    listing_length = ap length front ∙ length-take-le h.used area inside

    room_length : length room ≡ length area - h.used
    room_length = ap length back ∙ length-drop h.used area

    -- a listed word is the same in the listing
    listed_word : (s : Span) → s.at + s.letters ≤ h.used → spanned s listing ≡ spanned s area
    listed_word s within = ap (spanned s) front ∙ part_of_front area s.at s.letters h.used within

    pub pair_fits : Fit listing room u v
    pair_fits =
        record { u_before = omega (arith, u_inside, listing_length); v_before = omega (arith, v_inside, listing_length); fit = omega arith }

    module _ {mid : List ℕ} (l : Loaded listing room u v mid) where
      pub pair_at_ends : AtEnds cells mid u.letters v.letters T x y
      pair_at_ends =
          record {
            stands = q.stands;
            fit = omega (arith, l.same_length);
            u_is =
                l.start
                ∙ (listed_word u u_inside
                ∙ (ap₂ (λ i j. take i (drop j area)) q.first.letters_is q.first.at_is
                ∙ word_part T.size area h.used vs q.growing.lists p.a q.first.inside));
            v_is =
                l.end
                ∙ (listed_word v v_inside
                ∙ (ap₂ (λ i j. take i (drop j area)) q.second.letters_is q.second.at_is
                ∙ word_part T.size area h.used vs q.growing.lists p.b q.second.inside));
            u_named = word_named T.size area h.used vs q.growing.lists p.a q.first.inside;
            v_named = word_named T.size area h.used vs q.growing.lists p.b q.second.inside;
          }

      module _ {after : List ℕ} {r : EndingAnswer} (n : length after ≡ length mid)
          (b : PairReverses cells mid u.letters v.letters steps after r) where
        after_length : length (listing ++ after) ≡ length area
        after_length = length-append listing after ∙ omega (arith, listing_length, room_length, n, l.same_length, inside)

        reverses : Reverses T (pair_word vs p) steps after r
        reverses = b T x y pair_at_ends

        abbrev pub ending : Ending
        ending = reversing T steps (length after) (pair_word vs p)

        pair_outcome : after_pair T steps (length area) vs p ≡ added_to vs ending
        pair_outcome =
            let w : length area - h.used ≡ length after = omega (arith, room_length, n, l.same_length) in
            in_room ∙ ap (λ k. added_to vs (reversing T steps k (pair_word vs p))) w

        pub pair_growing : Growing T.size (listing ++ after) h vs
        pair_growing =
            record {
              lists =
                  record {
                    inside = omega (arith, inside, after_length);
                    bytes = take_at listing after h.used listing_length ∙ (front ∙ q.growing.lists.bytes);
                    few = q.growing.lists.few;
                    named = q.growing.lists.named;
                  };
              counted = q.growing.counted;
              few = q.growing.few;
            }

        pub pair_open : (o : Pair) (k : ℕ) → r ≡ Undefined o k → (go : List Positive → Outcome (Unit {0}))
            → fault_as (OpenPair o) ≡ (after_pair T steps (length area) vs p >>= go)
        pair_open o k e go = open_met vs go ending o k (sym e ∙ reverses.answer) ∙ ap (λ t. t >>= go) (sym pair_outcome)

        pub pair_stopped : (s : Stop) → r ≡ Stopped s → (go : List Positive → Outcome (Unit {0}))
            → fault_as (SetStopped s) ≡ (after_pair T steps (length area) vs p >>= go)
        pair_stopped s e go = stop_met vs go ending s (sym e ∙ reverses.answer) ∙ ap (λ t. t >>= go) (sym pair_outcome)

        pub pair_numerator : (count d k j : ℕ) → r ≡ Finished count d k j → Numerator T.size after ending count
        pair_numerator count d k j e = numerator_of ending reverses.holds reverses.named count d k j (sym e ∙ reverses.answer)

        pub pair_behind : {count : ℕ} (m : Numerator T.size after ending count) → take count (drop h.used (listing ++ after)) ≡ m.word
        pair_behind {count} m = ap (take count) (drop_at listing after h.used listing_length) ∙ m.stands

        pub pair_room : {count : ℕ} → Numerator T.size after ending count → h.used + count ≤ length (listing ++ after)
        pair_room m = omega (arith, m.fits, length-append listing after, listing_length)

        -- the numerator listed
        pub pair_added : {count : ℕ} (m : Numerator T.size after ending count) (last : List ℕ) (st : Result Held SetFault)
            → StepMeans T.size last vs (added_to vs (finished m.word [] 0 0)) st
            → StepMeans T.size last vs (after_pair T steps (length area) vs p) st
        pair_added m last st means =
            subst (λ o. StepMeans T.size last vs o st) (sym (pair_outcome ∙ ap (added_to vs) m.is)) means
