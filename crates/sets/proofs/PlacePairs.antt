-- The pairs of one place: those with the later word second, then those with it first.
use mathlib.Core.Path.{◌≡◌, sym, ap, subst, ◌∙◌}
use mathlib.Core.List.{List, ◌++◌, append_assoc}
use Prim.Native.Nat.{ℕ, ◌+◌, ◌-◌, ◌≤◌, ◌<◌}
use native.Mathlib.Omega.{arith}
use native.Mathlib.Decide.{dec_lt}
use mathlib.Core.Bool.{true, false}
use borrow.Author.Tests.{ltb-true, ltb-false, leb-true, leb-false}
use lib.ListN.{length, length-append}
use Rattle.std.specs.Prelude.{Result, Ok, Err}
use Rattle.model.specs.Word.{Positive}
use Rattle.model.specs.Presentation.{Presentation}
use Rattle.model.specs.Enumeration.{Two}
use Rattle.model.specs.Outcome.{Outcome, ◌>>=◌}
use Rattle.model.specs.Signed.{places_at, taken_pairs}
use Rattle.sets.specs.declared.words.Span.{Span}
use Rattle.sets.specs.declared.growing.Held.{Held}
use Rattle.sets.specs.declared.growing.SetFault.{SetFault}
use Rattle.sets.specs.declared.places.Side.{Side}
use Rattle.sets.specs.declared.places.Side.TheVariants.{Second, First}
use Rattle.spans.specs.Ends.{EndFound}
use Rattle.sets.specs.Listed.{Placed}
use Rattle.sets.specs.Growing.{Grew, StopsLong, StepMeans, Paired}
use Rattle.sets.specs.Places.{is_taken, chosen_of, sided_pair, sided_count, sided, LaterWord, Later, PlacesMean}
use Rattle.sets.proofs.Spelling.{place_below, place_above, placed_more}
use Rattle.sets.proofs.Taking.{then_assoc, taken_both, stops_before, Taking, taking_placed}

-- a step after growing went on
step_then : {n : ℕ} {mid : List ℕ} {vs : List Positive} {o : Outcome (List Positive)} {h : Held} (g : Grew n mid vs o h) (after : List ℕ)
    (more : List Positive → Outcome (List Positive)) (r : Result Held SetFault) → StepMeans n after g.words (more g.words) r
    → StepMeans n after vs (o >>= more) r
step_then {vs} g after more (Ok h') next =
    record {
      words = next.words;
      is = ap (λ o. o >>= more) g.is ∙ next.is;
      growing = next.growing;
      added = g.added ++ next.added;
      extends = next.extends ∙ (ap (λ l. l ++ next.added) g.extends ∙ append_assoc vs g.added next.added);
    }
step_then {vs} g after more (Err x) next =
    let n : length g.words ≡ length vs + length g.added = ap length g.extends ∙ length-append vs g.added in
    λ go stops. next go (λ ws longer few long. stops ws (omega arith) few long) ∙ sym (ap (λ o. (o >>= more) >>= go) g.is)

module _ {cells old : List ℕ} {start : Held} {later : Span} {T : Presentation} {vs : List Positive} {m : ℕ} (w : LaterWord cells old start later T vs m) where
  -- the later word among more words
  still_placed : {words : List Positive} (added : List Positive) → words ≡ vs ++ added → Placed words m later
  still_placed added e = subst (λ l. Placed l m later) (sym e) (placed_more vs added m later w.placed)

  still_later : {area : List ℕ} {h : Held} {o : Outcome (List Positive)} (g : Grew T.size area vs o h) → LaterWord cells area h later T g.words m
  still_later g = record { stands = w.stands; growing = g.growing; placed = still_placed g.added g.extends }

  pub sided_few : (side : Side) → sided_count side m ≤ length vs
  sided_few Second = omega (arith, w.placed.inside)
  sided_few First = w.placed.inside

  module _ {budget room : ℕ} {area : List ℕ} {h : Held} {at : ℕ} where
    pub sided_all : (side : Side) (k : Taking T budget room vs (sided_pair side m) (sided_count side m) area h at)
        → is_taken side at later.at ≡ false → sided_count side m ≤ k.passed
    sided_all Second k l = go (dec_lt k.passed (length vs))
      where
        go : Dec (k.passed < length vs) → m ≤ k.passed
        go (yes p) = place_above vs k.passed m p (omega (arith, ltb-false at later.at l, k.at_is, w.placed.at_is))
        go (no p) = omega (arith, w.placed.inside)
    sided_all First k l = place_below vs m k.passed (omega (arith, leb-false at later.at l, k.at_is, w.placed.at_is))

    pub sided_on : (side : Side) (k : Taking T budget room vs (sided_pair side m) (sided_count side m) area h at)
        → is_taken side at later.at ≡ true → k.passed < sided_count side m
    sided_on Second k l = place_below vs k.passed m (omega (arith, ltb-true at later.at l, k.at_is, w.placed.at_is))
    sided_on First k l =
        let r : k.passed ≤ m = place_above vs m k.passed w.placed.inside (omega (arith, leb-true at later.at l, k.at_is, w.placed.at_is)) in
        omega arith

    pub sided_paired : (side : Side) (k : Taking T budget room vs (sided_pair side m) (sided_count side m) area h at)
        → is_taken side at later.at ≡ true → {end : ℕ} → EndFound area at end
        → Paired cells area h (chosen_of side later (record { at = at; letters = end - at })) (chosen_of side (record { at = at; letters = end - at }) later) T
        k.words (sided_pair side m k.passed)
    sided_paired side k l {end} f =
        let placed = both side (still_placed k.added k.extends) (taking_placed k (sided_few side) (sided_on side k l) end f) in
        record { stands = w.stands; growing = k.growing; first = placed.0; second = placed.1 }
      where
        both : {words : List Positive} {i : ℕ} {other : Span} (s : Side) → Placed words m later → Placed words i other
            → Placed words (sided_pair s m i).a (chosen_of s later other) × Placed words (sided_pair s m i).b (chosen_of s other later)
        both Second l o = (o, l)
        both First l o = (l, o)

-- all pairs of a place, where those with the later word second were taken
module _ (cells area : List ℕ) (start : Held) (later : Span) (budget : ℕ) (mid : List ℕ) (same : length mid ≡ length area) where
  abbrev taken : Presentation → List Two → List Positive → Outcome (List Positive)
  taken T = taken_pairs T budget (length area)

  both_parts : (T : Presentation) (m : ℕ) (vs : List Positive) → taken T (places_at m) vs ≡ (taken T (sided Second m) vs >>= taken T (sided First m))
  both_parts T m vs = taken_both T budget (length area) (sided Second m) (sided First m) vs

  pub place_ended : (g : SetFault) → PlacesMean (sided Second) cells area start later budget mid (Err g)
      → PlacesMean places_at cells area start later budget mid (Err g)
  place_ended g means T vs m w go stops =
      let long : StopsLong (length mid) vs (λ ws. taken T (sided First m) ws >>= go) =
      subst (λ i. StopsLong i vs (λ ws. taken T (sided First m) ws >>= go)) (sym same)
      (stops_before T budget (length area) vs vs (sided First m) go (omega arith) (subst (λ i. StopsLong i vs go) same stops)) in
      means T vs m w (λ ws. taken T (sided First m) ws >>= go) long
      ∙ (sym (then_assoc (taken T (sided Second m) vs) (taken T (sided First m)) go) ∙ ap (λ o. o >>= go) (sym (both_parts T m vs)))

  module _ {h : Held} (means : PlacesMean (sided Second) cells area start later budget mid (Ok h)) where
    pub place_half : Later cells area start later → Later cells mid h later
    place_half (T, vs, m, w) = (T, (means T vs m w).words, m, still_later w (means T vs m w))

    pub place_taken : (after : List ℕ) (r : Result Held SetFault) → PlacesMean (sided First) cells mid h later budget after r
        → PlacesMean places_at cells area start later budget after r
    place_taken after r next T vs m w =
        let g = means T vs m w in
        subst (λ o. StepMeans T.size after vs o r) (sym (both_parts T m vs))
        (step_then g after (taken T (sided First m)) r
        (subst (λ i. StepMeans T.size after g.words (taken_pairs T budget i (sided First m) g.words) r) same (next T g.words m (still_later w g))))
