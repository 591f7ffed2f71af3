-- In whatever order the steps are taken, the answer is that of the leftmost ones (specification 3.7); and what reverse's outcome says of every order.
-- From steps that commute (Descent.antt), after [D1] Lemma 1.1. Main names: `leftmost_too`, `any_order`, `order_meaning`.
use mathlib.Core.Path.{◌≡◌, refl, sym, ap, subst, ◌∙◌}
use mathlib.Core.Logic.{◌↔◌}
use mathlib.Core.List.{[], ◌∷◌, ◌++◌}
use mathlib.Core.Bool.{Bool, true, false}
use Prim.Native.Nat.{ℕ, ◌+◌}
use native.Mathlib.Omega.{arith}
use Rattle.model.specs.Word.{Letter, forward, back, Word, Positive, positive, negative}
use Rattle.model.specs.Presentation.{Presentation}
use Rattle.model.specs.Reversing.{Site, nowhere, at, beyond, site, Ending, finished, open_pair, stopped, no_budget, no_room, reversing, Leftmost, Reduces}
use Rattle.model.specs.Reversing.{Finishes}
use Rattle.model.specs.Outcome.{Place, answered, refused, unless}
use Rattle.model.specs.Services.{Fraction, fraction_of}
use lib.Dec.{ltb}
use lib.ListN.{length}
use Rattle.theory.specs.Orders.{FinishesInSomeOrder, Strategy, Follows, site_here, further_or_here, last_site, AnyOrder, OrderMeaning}
use Rattle.model.proofs.Impossible.{impossible}
use Rattle.model.proofs.Words.{site_split, fraction_nowhere, fraction_injective}
use Rattle.model.proofs.Leftmost.{Stuck, fraction_stuck, open_stuck, counted, same_end, different_sites}
use Rattle.model.proofs.Endings.{Ends, MeetsOpen, reversing_ends}
use Rattle.theory.proofs.Reduction.{reduces}
use Rattle.theory.proofs.Descent.{Free, nowhere_free, goes_on, open_unending, follows_reduces, follows_too}

-- THE TWO STRATEGIES

leftmost_strategy : Strategy site
leftmost_strategy = record { picked = λ w e. site_split w e; none_left = λ w e. e }

here_split : (x : Letter) (w : Word) {p s : Word} {a b : ℕ} → site_here x w ≡ at p a b s → x ∷ w ≡ p ++ (back a ∷ forward b ∷ s)
here_split (forward c) w e = impossible (cc)
here_split (back c) [] e = impossible (cc)
here_split (back c) (back d ∷ w) e = impossible (cc)
here_split (back c) (forward d ∷ w) e = cc

last_split : (w : Word) {p s : Word} {a b : ℕ} → last_site w ≡ at p a b s → w ≡ p ++ (back a ∷ forward b ∷ s)
last_split [] e = impossible (cc)
last_split (x ∷ w) {p} {s} {a} {b} e = by (last_site w) refl (λ q t c d h. last_split w {p = q} {s = t} {a = c} {b = d} h)
  where
    by : (o : Site) → last_site w ≡ o → ((q t : Word) (c d : ℕ) → last_site w ≡ at q c d t → w ≡ q ++ (back c ∷ forward d ∷ t))
        → x ∷ w ≡ p ++ (back a ∷ forward b ∷ s)
    by nowhere h again = here_split x w (ap (further_or_here x w) (sym h) ∙ e)
    by (at q c d t) h again =
        let whole = again q t c d h in
        let here : at (x ∷ q) c d t ≡ at p a b s = ap (further_or_here x w) (sym h) ∙ e in
        cc

-- where the rightmost site is nowhere there is none
here_none : (x : Letter) (w : Word) → site_here x w ≡ nowhere → site w ≡ nowhere → site (x ∷ w) ≡ nowhere
here_none (forward c) w e h = ap (beyond (forward c)) h
here_none (back c) [] e h = refl
here_none (back c) (back d ∷ w) e h = ap (beyond (back c)) h
here_none (back c) (forward d ∷ w) e h = impossible (cc)

last_none : (w : Word) → last_site w ≡ nowhere → site w ≡ nowhere
last_none [] e = refl
last_none (x ∷ w) e = by (last_site w) refl (last_none w)
  where
    by : (o : Site) → last_site w ≡ o → (last_site w ≡ nowhere → site w ≡ nowhere) → site (x ∷ w) ≡ nowhere
    by nowhere h again = here_none x w (ap (further_or_here x w) (sym h) ∙ e) (again h)
    by (at q c d t) h again =
        let here : at (x ∷ q) c d t ≡ nowhere = ap (further_or_here x w) (sym h) ∙ e in
        impossible (cc)

rightmost_strategy : Strategy last_site
rightmost_strategy = record { picked = λ w e. last_split w e; none_left = last_none }

-- the rightmost of two sites, and of one that a longer run of back letters begins
two_sites : last_site (back 1 ∷ forward 2 ∷ back 3 ∷ forward 4 ∷ []) ≡ at (back 1 ∷ forward 2 ∷ []) 3 4 []
two_sites = refl

one_site : last_site (forward 1 ∷ back 2 ∷ back 3 ∷ forward 1 ∷ back 2 ∷ []) ≡ at (forward 1 ∷ back 2 ∷ []) 3 1 (back 2 ∷ [])
one_site = refl

-- THE STATEMENTS

fraction_free : (n d : Positive) → Free (positive n ++ negative d)
fraction_free n d = nowhere_free (positive n ++ negative d) (fraction_nowhere n d)

module _ (T : Presentation) where
  as_leftmost : {w v : Word} {k : ℕ} → Follows site T w v k → Leftmost T w v k
  as_leftmost Follows.stay = Leftmost.stay
  as_leftmost (Follows.go e c r) = Leftmost.go e c (as_leftmost r)

  -- what some order brings to a word without a site, the leftmost one brings there in as many steps
  pub leftmost_too : {w v : Word} {k : ℕ} → Reduces T w v k → site v ≡ nowhere → Leftmost T w v k
  leftmost_too {w} {v} {k} r e = as_leftmost (follows_too T site leftmost_strategy k w r (nowhere_free v e))

  module _ (w : Word) where
    same : (n d : Positive) (k : ℕ) → FinishesInSomeOrder T w n d k → Finishes T w n d k
    same n d k r = leftmost_too r (fraction_nowhere n d)

    agreed : (n d n' d' : Positive) (k k' : ℕ) → FinishesInSomeOrder T w n d k → FinishesInSomeOrder T w n' d' k' → (n ≡ n') × (d ≡ d') × (k ≡ k')
    agreed n d n' d' k k' r r' =
        let t = same_end (counted (same n d k r)) (fraction_stuck T n d) (counted (same n' d' k' r')) (fraction_stuck T n' d') in
        let parts = fraction_injective n d n' d' t.0 in
        (parts.0, parts.1, t.1)

    strategies : (pick : Word → Site) → Strategy pick → (n d : Positive) (k : ℕ)
        → Follows pick T w (positive n ++ negative d) k ↔ Finishes T w n d k
    strategies pick strategy n d k = (
      (λ f. same n d k (follows_reduces T pick strategy f)),
      (λ f. follows_too T pick strategy k w (reduces f) (fraction_free n d)),
    )

    pub any_order : AnyOrder T w
    any_order =
        record {
          same_end = same;
          agree = agreed;
          gets_there = λ n d k f v j r. let t = goes_on T r (reduces f) (fraction_free n d) in (t.left, t.steps, t.reduces);
          open_pair_stays = λ v j r o n d k f. open_unending T o (goes_on T r f (fraction_free n d)).reduces (fraction_free n d);
          any_strategy = strategies;
          rightmost = strategies last_site rightmost_strategy;
        }

  -- WHAT REVERSE'S OUTCOME SAYS

  none_stuck : (v : Word) → site v ≡ nowhere → Stuck T v
  none_stuck v e p s a b x y h c = impossible (cc)

  met_open : {budget room : ℕ} {w : Word} {a b k : ℕ} → MeetsOpen T budget room w a b k → (v : Word) (j : ℕ) → Reduces T w v j → site v ≡ nowhere → ⊥
  met_open m v j r e =
      let t = same_end (counted m.reached.run) (open_stuck T m.last m.here m.undefined_there) (counted (leftmost_too r e)) (none_stuck v e) in
      different_sites m.here e t.0

  as_fraction : (short : Bool) (f g : Fraction) → unless short 13 f ≡ answered g → f ≡ g
  as_fraction true f g e = impossible (cc)
  as_fraction false f g e = cc

  only_13 : (short : Bool) (f : Fraction) (i : ℕ) (place : Place) → unless short 13 f ≡ refused i place → i ≡ 13
  only_13 true f i place e = cc
  only_13 false f i place e = impossible (cc)

  by_ending : (budget room area : ℕ) (w : Word) (end : Ending) → Ends T budget room w end → OrderMeaning T w (fraction_of area end)
  by_ending budget room area w (finished n d i r) m =
      let f : Fraction = record { numerator = n; denominator = d; steps = i } in
      let short = ltb area (length n + length d) in
      record {
        orders = any_order w;
        reached = λ g e. subst (λ x. Finishes T w x.numerator x.denominator x.steps) (as_fraction short f g e) m.run;
        finished = λ g e v k o h.
            let t = same_end (counted (leftmost_too o h)) (none_stuck v h) (counted m.run) (fraction_stuck T n d) in
            let same : f ≡ g = as_fraction short f g e in
            (t.0 ∙ ap (λ x. positive x.numerator ++ negative x.denominator) same, t.1 ∙ ap (λ x. x.steps) same);
        unfinished = λ place e. absurd (omega (arith, only_13 short f _ place e));
      }
  by_ending budget room area w (open_pair a b i) m =
      record { orders = any_order w; reached = λ g e. impossible (cc); finished = λ g e. impossible (cc); unfinished = λ place e v k o h. met_open m v k o h }
  by_ending budget room area w (stopped no_budget) m =
      record { orders = any_order w; reached = λ g e. impossible (cc); finished = λ g e. impossible (cc); unfinished = λ place e. impossible (cc) }
  by_ending budget room area w (stopped no_room) m =
      record { orders = any_order w; reached = λ g e. impossible (cc); finished = λ g e. impossible (cc); unfinished = λ place e. impossible (cc) }

  pub order_meaning : (budget room area : ℕ) (w : Word) → OrderMeaning T w (fraction_of area (reversing T budget room w))
  order_meaning budget room area w = by_ending budget room area w (reversing T budget room w) (reversing_ends T budget room w)
