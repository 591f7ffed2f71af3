-- The outcome of ways, from those of the readers, the weight check and the listing, and what its answer means.
use mathlib.Core.Path.{◌≡◌, refl, sym, ap, ap₂, subst, ◌∙◌}
use mathlib.Core.List.Memᴰ
use mathlib.Core.List.{List, [], ◌∷◌, ◌++◌, append_assoc, append-nil}
use mathlib.Core.Bool.{Bool, true, false, not, cond}
use mathlib.Core.Logic.{inr}
use Prim.Native.Nat.{ℕ, suc, ◌+◌, ◌-◌, ◌%◌, ◌≤◌, ◌<◌}
use native.Mathlib.Omega.{arith}
use native.Mathlib.Decide.{dec_lt}
use lib.ListN.{length, take, drop, get_or, set, replicate, length-append, length-drop, length-set}
use lib.Seq.{take_at, drop_at, set_at, drop-cons}
use borrow.Author.Tests.{lt-ltb, le-ltb, ne_eqb, eq-eqb}
use Rattle.std.specs.Prelude.{Result, Ok, Err, MatchResult, IsErrAnd}
use Rattle.std.proofs.lemmas.Result.{err_from_is_err_and}
use Rattle.model.specs.declared.answers.Pair.{Pair}
use Rattle.model.specs.declared.answers.Refusal.{Refusal}
use Rattle.model.specs.declared.answers.Refusal.TheVariants.{AnswerShort}
use Rattle.model.specs.declared.answers.Ways.{Ways}
use Rattle.model.specs.Word.{forward, back, Word, Positive, positive, forwards}
use Rattle.model.specs.Presentation.{Presentation}
use Rattle.model.specs.Equivalence.{Joined}
use Rattle.model.specs.Enumeration.{pairs}
use Rattle.model.specs.Range.{All, InRange, Lettered}
use Rattle.model.specs.Outcome.{Outcome, answered, refused, ◌>>=◌, unless, mapped}
use Rattle.model.specs.Images.{read_table, read_program, most_size}
use Rattle.model.specs.Plain.{plain_program}
use Rattle.model.specs.Services.{is_forward, read_forward, read_table_with}
use Rattle.model.specs.Checks.{weight_check}
use Rattle.model.specs.Areas.{written, begins}
use Rattle.model.specs.Ways.{listing, listing_bytes, fitted_listing, ways, ways_area}
use Rattle.model.specs.Stated.{Counts, counts, listed_as, numbered, refusal}
use Rattle.model.proofs.Words.{plain_positive}
use Rattle.model.proofs.Impossible.{impossible}
use Rattle.model.proofs.Lists.{all_at}
use Rattle.model.proofs.Joining.{joined_same}
use Rattle.model.proofs.Listing.{within_shorter, bytes_more}
use Rattle.model.proofs.Outcomes.{still_refused, goes_on}
use Rattle.images.proofs.RoundTrip.{table_in_range, program_in_range}
use Rattle.images.specs.Programs.{ForwardOf}
use Rattle.loading.proofs.Early.{Early}
use Rattle.loading.proofs.Reading.{program_still_refused, program_runs}
use Rattle.table_checks.specs.Table.{weights_as, WeightsMean}
use Rattle.cells.specs.Stands.{Of}
use Rattle.theory.specs.Ways.{Weighed}
use Rattle.theory.proofs.Letters.{lettered_positive}
use Rattle.theory.proofs.Ways.{listing_lists, listing_meaning, words_in_order, finding_within}
use Rattle.cells.proofs.Rules.{of_few}
use Rattle.ways.specs.Marks.{untried}
use Rattle.ways.specs.Area.{Legible}
use Rattle.ways.specs.State.{current}
use Rattle.ways.specs.Listing.{Task, State, ListedAll}
use Rattle.ways.specs.Service.{Answers, Passed, WaysMeaning, WaysSays, WaysPromise}
use Rattle.spans.proofs.Runs.{letter_ends_none}

-- THE PROGRAM'S WORD

module _ (cells : List ℕ) (size : ℕ) (program : List ℕ) (count : ℕ) (f : ForwardOf program size count) (T : Presentation) (p : Passed cells size T)
    (u : Positive) (e : read_forward size program ≡ answered u) where
  same_word : f.word ≡ u
  same_word = let both : answered f.word ≡ answered u = sym f.read ∙ e in cc

  pub word_length : length u ≡ count
  word_length = ap length (sym same_word) ∙ f.count_is

  few : size ≤ most_size
  few = of_few p.of

  pub weighed : Weighed T u
  weighed =
      record {
        in_range = p.in_range;
        letters = subst (λ n. All (InRange n) u) (sym p.of.sized)
            (lettered_positive size u
            (subst (λ w. Lettered size (positive w)) same_word (program_in_range size few program (positive f.word) f.read_signed).letters));
        even = p.even;
      }

  abbrev pub task : List ℕ → Task cells size
  task before = record { table = T; of = p.of; program = u; weighed = weighed; before = before }

  -- an area that does not hold the program's own word is too short
  pub first_too_long : (area : ℕ) → area ≤ count → area < length (listing_bytes (listing T u))
  first_too_long area h =
      let within = finding_within T u weighed (u ∷ []) (λ w n. subst (Joined T u) (sym (Memᴰ.eq_of_singleton n)) (joined_same T u)) in
      let shorter = within_shorter (u ∷ []) (listing T u) tt (listing_lists T u weighed).ordered within in
      omega (arith, shorter, bytes_more u [], word_length, h)

  -- the area once the program stands in it, with its mark
  module _ (before loaded : List ℕ) (room : count < length before)
      (l : ((w : Word) → read_program size program ≡ answered w → loaded ≡ written before 0 (plain_program w))) where
    loaded_is : loaded ≡ u ++ (get_or before count 0 ∷ drop (suc count) before)
    loaded_is =
        let bytes : plain_program (positive f.word) ≡ u = plain_positive f.word ∙ same_word in
        let many : 0 + length u ≡ count = omega (arith, word_length) in
        l (positive f.word) f.read_signed
        ∙ (ap (λ b. b ++ drop (0 + length b) before) bytes ∙ (ap (λ k. u ++ drop k before) many ∙ ap (λ t. u ++ t) (drop-cons before count 0 room)))

    marked_is : set loaded count untried ≡ u ++ (untried ∷ drop (suc count) before)
    marked_is = ap (λ a. set a count untried) loaded_is ∙ set_at u (get_or before count 0) (drop (suc count) before) untried count word_length

    marked_split : set loaded count untried ≡ (u ++ (untried ∷ [])) ++ drop (suc count) before
    marked_split = marked_is ∙ sym (append_assoc u (untried ∷ []) (drop (suc count) before))

    front_length : length (u ++ (untried ∷ [])) ≡ count + 1
    front_length = omega (arith, length-append u (untried ∷ []), word_length)

    pub loaded_length : length loaded ≡ length before
    loaded_length = ap length loaded_is
        ∙ (length-append u (get_or before count 0 ∷ drop (suc count) before) ∙ omega (arith, length-drop (suc count) before, word_length, room))

    pub begun : State (task before) (set loaded count untried) (count + 1) 0
    begun = (
      current u ∷ [],
      record {
        spells = record {
          fits = omega (arith, length-set loaded count untried, loaded_length, room);
          bytes =
              ap (take (count + 1)) marked_split
              ∙ (take_at (u ++ (untried ∷ [])) (drop (suc count) before) (count + 1) front_length ∙ sym (append-nil (u ++ (untried ∷ []))));
          legible = λ m n. subst Legible (sym (Memᴰ.eq_of_singleton n)) legible;
          ordered = tt;
        };
        same_length = length-set loaded count untried ∙ loaded_length;
        rest =
            ap (drop (count + 1)) marked_split
            ∙ (drop_at (u ++ (untried ∷ [])) (drop (suc count) before) (count + 1) front_length ∙ ap (λ k. drop k before) next);
        joined = λ m n. subst (λ x. Joined T u x.word) (sym (Memᴰ.eq_of_singleton n)) (joined_same T u);
        has = Memᴰ.head refl;
        marks = λ m n. inr (ap (λ x. x.mark) (Memᴰ.eq_of_singleton n));
        tried = λ m n z v d a. let mark : m.mark ≡ untried = ap (λ x. x.mark) (Memᴰ.eq_of_singleton n) in absurd (omega (arith, z, mark));
        counted = ap (λ t. cond t 1 0) (ne_eqb untried 0 (omega arith));
      },
    )
      where
        next : suc count ≡ count + 1
        next = omega arith

        legible : Legible (current u)
        legible =
            record {
              letters = λ i h. letter_ends_none T.size (get_or u i 0) p.in_range.few (all_at (InRange T.size) u i 0 weighed.letters h);
              ends = eq-eqb (untried % untried) 0 refl;
            }

  -- THE ANSWER

  pub long_answers : (before area : List ℕ) → length before < length (listing_bytes (listing T u)) → length area ≡ length before
      → Answers (fitted_listing (length before) (listing T u)) before (replicate (length area) 0) (Err AnswerShort)
  long_answers before area h e =
      let o : fitted_listing (length before) (listing T u) ≡ refusal AnswerShort =
      ap (λ t. unless t 13 (listing T u)) (lt-ltb (length before) (length (listing_bytes (listing T u))) h) in
      record {
        result = sym (ap (mapped counts) o);
        area = ap (λ k. replicate k 0) e ∙ sym (ap (λ x. ways_area x before) o);
      }

  pub whole_answers : (before area : List ℕ) (l : Ways) → length area ≡ length before → ListedAll (task before) area l.words l.bytes
      → Answers (fitted_listing (length before) (listing T u)) before area (Ok l)
  whole_answers before area l e t =
      let long : length area ≡ length (listing_bytes (listing T u)) + (length before - length (listing_bytes (listing T u))) =
      ap length t.area_is ∙ (length-append (listing_bytes (listing T u)) (drop (length (listing_bytes (listing T u))) before)
      ∙ ap (λ j. length (listing_bytes (listing T u)) + j) (length-drop (length (listing_bytes (listing T u))) before)) in
      let fits : length (listing_bytes (listing T u)) ≤ length before = omega (arith, long, e) in
      let o : fitted_listing (length before) (listing T u) ≡ answered (listing T u) =
      ap (λ s. unless s 13 (listing T u)) (le-ltb (length before) (length (listing_bytes (listing T u))) fits) in
      record {
        result = ap₂ (λ i j. answered (record { words = i; bytes = j })) t.words_are t.bytes_are ∙ sym (ap (mapped counts) o);
        area = t.area_is ∙ sym (ap (λ x. ways_area x before) o);
      }

-- THE OUTCOME

-- a refusal other than 13 leaves the area as it was
pub refused_answers : (outcome : Outcome (List Positive)) (before : List ℕ) (r : Refusal) → outcome ≡ refusal r → ((numbered r).0 ≡ 13 → ⊥)
    → Answers outcome before before (Err r)
refused_answers outcome before r e other =
    record {
      result = ap (mapped counts) (sym e);
      area = sym (ap (λ o. ways_area o before) e ∙ ap (λ t. cond t (replicate (length before) 0) before) (ne_eqb (numbered r).0 13 other));
    }

pub early_other : {A : Type 0} (k : ℕ) (o : Outcome A) (r : Refusal) → k < 13 → o ≡ refusal r → Early k o → (numbered r).0 ≡ 13 → ⊥
early_other k o r l e h n = omega (arith, l, n, subst (Early k) e h)

module _ (table program : List ℕ) (area : ℕ) where
  -- what is left to do once the images are read
  abbrev weighs : Presentation → Positive → Outcome (List Positive)
  weighs T u = weight_check T (pairs T.size) >>= λ ok. fitted_listing area (listing T u)

  pub ways_unread : (r : Refusal) → read_table_with read_forward table program ≡ refusal r → ways table program area ≡ refusal r
  unfolding ways
  ways_unread = program_still_refused read_forward table program weighs

  module _ (T : Presentation) (e : read_table table ≡ answered T) (u : Positive) (p : read_forward T.size program ≡ answered u) where
    ways_weighs : ways table program area ≡ weighs T u
    unfolding ways
    ways_weighs = program_runs read_forward table program weighs T u e p

    pub ways_unequal : (r : Refusal) → weight_check T (pairs T.size) ≡ refusal r → ways table program area ≡ refusal r
    ways_unequal r w = ways_weighs ∙ still_refused (weight_check T (pairs T.size)) r w _

    pub ways_lists : weight_check T (pairs T.size) ≡ answered tt → ways table program area ≡ fitted_listing area (listing T u)
    ways_lists w = ways_weighs ∙ goes_on (weight_check T (pairs T.size)) tt w _

-- what a result was, by what `map_err` made of it
module _ {E D : Type 0} (wrap : E → D) (r : Result (Unit {0}) E) (s : Result (Unit {0}) D)
    (m : MatchResult r (λ x. s ≡ Ok x) (λ e. IsErrAnd s (λ d. d ≡ wrap e))) where
  pub mapped_ok : (x : Unit {0}) → s ≡ Ok x → r ≡ Ok x
  mapped_ok x e = go r m
    where
      go : (q : Result (Unit {0}) E) → MatchResult q (λ x. s ≡ Ok x) (λ e. IsErrAnd s (λ d. d ≡ wrap e)) → q ≡ Ok x
      go (Ok y) n = cc
      go (Err y) n = let p = err_from_is_err_and s n in let same : Err p.0 ≡ Ok x = sym p.1 ∙ e in impossible (cc)

  pub mapped_err : (d : D) → s ≡ Err d → (e : E) × (r ≡ Err e) × (d ≡ wrap e)
  mapped_err d e = go r m
    where
      go : (q : Result (Unit {0}) E) → MatchResult q (λ x. s ≡ Ok x) (λ e. IsErrAnd s (λ d. d ≡ wrap e)) → (e : E) × (q ≡ Err e) × (d ≡ wrap e)
      go (Ok y) n = let same : Ok y ≡ Err d = sym n ∙ e in impossible (cc)
      go (Err y) n =
          let p = err_from_is_err_and s n in
          let same : Err d ≡ Err p.0 = sym e ∙ p.1 in
          let last : p.0 ≡ wrap y = p.2 in
          (y, refl, cc)

-- what the weight check's answer says of the table
pub weights_told : (cells : List ℕ) (size : ℕ) (T : Presentation) → Of cells size T → (r : Result (Unit {0}) Pair) → WeightsMean cells size r
    → weight_check T (pairs T.size) ≡ weights_as r
weights_told cells size T o r m = ap (λ n. weight_check T (pairs n)) o.sized ∙ sym (m T o)

-- THE MEANING

told_words : (o : Outcome (List Positive)) (c : Counts) → mapped counts o ≡ answered c → (vs : List Positive) × (o ≡ answered vs) × (counts vs ≡ c)
told_words (answered vs) c e = (vs, refl, cc)
told_words (refused n place) c e = impossible (cc)

fitted_same : (area : ℕ) (vs ws : List Positive) → fitted_listing area vs ≡ answered ws → ws ≡ vs
fitted_same area vs ws e = go (dec_lt area (length (listing_bytes vs)))
  where
    go : Dec (area < length (listing_bytes vs)) → ws ≡ vs
    go (yes l) =
        let s : fitted_listing area vs ≡ refusal AnswerShort = ap (λ t. unless t 13 vs) (lt-ltb area (length (listing_bytes vs)) l) in
        impossible (cc)
    go (no l) =
        let s : fitted_listing area vs ≡ answered vs = ap (λ t. unless t 13 vs) (le-ltb area (length (listing_bytes vs)) (omega arith)) in
        cc

forward_letters : (n : ℕ) (w : Word) → Lettered n w → All (InRange n) (forwards w)
forward_letters n [] h = tt
forward_letters n (forward a ∷ w) h = (h.0, forward_letters n w h.1)
forward_letters n (back a ∷ w) h = forward_letters n w h.1

-- a program that was read names letters only
read_letters : (n : ℕ) → n ≤ most_size → (bytes : List ℕ) (u : Positive) → read_forward n bytes ≡ answered u → All (InRange n) u
unfolding read_forward
read_letters n few bytes u h = go (read_program n bytes) refl h
  where
    test : (w : Word) → Lettered n w → (t : Bool) → unless t 7 (forwards w) ≡ answered u → All (InRange n) u
    test w l true e = impossible (cc)
    test w l false e = let same : forwards w ≡ u = cc in subst (All (InRange n)) same (forward_letters n w l)

    go : (o : Outcome Word) → read_program n bytes ≡ o → (o >>= λ w. unless (not (is_forward w)) 7 (forwards w)) ≡ answered u → All (InRange n) u
    go (answered w) q e = test w (program_in_range n few bytes w q).letters (not (is_forward w)) e
    go (refused i ps) q e = impossible (cc)

module _ (table program before after : List ℕ) (r : Result Ways Refusal) (a : Answers (ways table program (length before)) before after r) where
  pub ways_say : WaysSays table program (listed_as r) after
  ways_say T e u p c told =
      let t = told_words (ways table program (length before)) c (sym a.result ∙ told) in
      by (weight_check T (pairs T.size)) refl t.0 t.1 t.2
    where
      few : T.size ≤ most_size
      few = (table_in_range table T e).few

      means : weight_check T (pairs T.size) ≡ answered tt → (vs : List Positive) → ways table program (length before) ≡ answered vs → counts vs ≡ c
          → WaysMeaning T u c after
      means w vs o n =
          let same : vs ≡ listing T u = fitted_same (length before) (listing T u) vs (sym (ways_lists table program (length before) T e u p w) ∙ o) in
          let told : c ≡ counts (listing T u) = sym n ∙ ap counts same in
          let start : after ≡ begins (listing_bytes (listing T u)) before = a.area ∙ ap (λ x. ways_area x before) (o ∙ ap answered same) in
          record {
            bytes = ap₂ (λ d l. take d.bytes l) told start ∙ take_at (listing_bytes (listing T u)) (drop (length (listing_bytes (listing T u))) before)
                (length (listing_bytes (listing T u))) refl;
            words = ap (λ d. d.words) told;
            lists = listing_meaning T u (record { in_range = table_in_range table T e; letters = read_letters T.size few program u p; even = w });
            in_order = words_in_order T w;
          }

      by : (o : Outcome (Unit {0})) → weight_check T (pairs T.size) ≡ o → (vs : List Positive) → ways table program (length before) ≡ answered vs
          → counts vs ≡ c
          → WaysMeaning T u c after
      by (answered x) w vs o n = means w vs o n
      by (refused i ps) w vs o n =
          let stops : ways table program (length before) ≡ refused i ps =
          ways_weighs table program (length before) T e u p ∙ ap (λ x. x >>= λ ok. fitted_listing (length before) (listing T u)) w in
          impossible (cc)

  -- the service's promise
  pub promised : WaysPromise table program before after (listed_as r)
  promised = record { stated = a.result; answer_is = a.area; meaning = ways_say }
