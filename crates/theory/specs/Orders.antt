-- Specification 3.7: in whatever order the steps are taken, the answer is that of the leftmost ones. Allowance and room are left aside.
-- The promises of reverse and left_reverse cite it. After [D1] Lemma 1.1; proved as `any_order` and `order_meaning` in proofs/Orders.antt.
-- Main names: `AnyOrder`, `OrderMeaning`; rules that pick a site are `Strategy`, and the rightmost site is `last_site`.
use Rattle.std.specs.Prelude.{◌≡◌, ◌↔◌, [], ◌∷◌, ◌++◌, ℕ, suc, ◌+◌}
use Rattle.model.specs.Word.{Letter, forward, back, Word, Positive, positive, negative}
use Rattle.model.specs.Presentation.{Presentation, undefined, complement, complete}
use Rattle.model.specs.Reversing.{Site, nowhere, at, site, replaced, Reduces, Finishes}
use Rattle.model.specs.Outcome.{Place, Outcome, answered, refused}
use Rattle.model.specs.Services.{Fraction}

-- k steps, in any order, finish the word with numerator n and denominator d
abbrev pub FinishesInSomeOrder : Presentation → Word → Positive → Positive → ℕ → Type 0
FinishesInSomeOrder T w n d k = Reduces T w (positive n ++ negative d) k

-- an open pair stands in the word, at whichever site
pub record HasOpenPair (T : Presentation) (w : Word) : Type 0 where
  pub before : Word
  pub a : ℕ
  pub b : ℕ
  pub after : Word
  pub word : w ≡ before ++ (back a ∷ forward b ∷ after)
  pub unrelated : complete T a b ≡ undefined

-- STRATEGIES

-- a rule that picks a site of every word which has one
pub record Strategy (pick : Word → Site) : Type 0 where
  pub picked : (w : Word) {p s : Word} {a b : ℕ} → pick w ≡ at p a b s → w ≡ p ++ (back a ∷ forward b ∷ s)
  pub none_left : (w : Word) → pick w ≡ nowhere → site w ≡ nowhere

-- k steps, each at the site that the rule picks
pub data Follows (pick : Word → Site) (T : Presentation) : Word → Word → ℕ → Type 0 where
  stay : {w : Word} → Follows pick T w w 0
  go : {w p s w' : Word} {a b k : ℕ} {x y : Positive} → pick w ≡ at p a b s → complete T a b ≡ complement x y
      → Follows pick T (replaced p x y s) w' k → Follows pick T w w' (suc k)

-- the site whose back letter is x, where w comes after x
abbrev pub site_here : Letter → Word → Site
site_here (forward a) w = nowhere
site_here (back a) [] = nowhere
site_here (back a) (back b ∷ w) = nowhere
site_here (back a) (forward b ∷ w) = at [] a b w

-- of x and then w, the rightmost site, given that of w
abbrev pub further_or_here : Letter → Word → Site → Site
further_or_here x w nowhere = site_here x w
further_or_here x w (at p a b s) = at (x ∷ p) a b s

-- the rightmost site of a word
abbrev pub last_site : Word → Site
last_site [] = nowhere
last_site (x ∷ w) = further_or_here x w (last_site w)

-- the rightmost strategy finishes the word with numerator n and denominator d in k steps
abbrev pub FinishesRightmost : Presentation → Word → Positive → Positive → ℕ → Type 0
FinishesRightmost T w n d k = Follows last_site T w (positive n ++ negative d) k

-- WHAT HOLDS OF EVERY PRESENTATION AND EVERY WORD OF EITHER SIGN

pub record AnyOrder (T : Presentation) (w : Word) : Type 0 where
  -- what some order finishes the leftmost one finishes, with the same numerator, denominator and steps
  pub same_end : (n d : Positive) (k : ℕ) → FinishesInSomeOrder T w n d k → Finishes T w n d k
  -- so any two orders that finish agree
  pub agree : (n d n' d' : Positive) (k k' : ℕ) → FinishesInSomeOrder T w n d k → FinishesInSomeOrder T w n' d' k' → (n ≡ n') × (d ≡ d') × (k ≡ k')
  -- where the leftmost order finishes in k steps, j steps of any other leave as many to the same end as are missing from k
  pub gets_there : (n d : Positive) (k : ℕ) → Finishes T w n d k → (v : Word) (j : ℕ) → Reduces T w v j
      → (i : ℕ) × (j + i ≡ k) × FinishesInSomeOrder T v n d i
  -- where some order comes to a word with an open pair, none finishes
  pub open_pair_stays : (v : Word) (j : ℕ) → Reduces T w v j → HasOpenPair T v → (n d : Positive) (k : ℕ) → FinishesInSomeOrder T w n d k → ⊥
  -- every strategy finishes exactly where the leftmost one does, with the same numerator, denominator and steps
  pub any_strategy : (pick : Word → Site) → Strategy pick → (n d : Positive) (k : ℕ)
      → Follows pick T w (positive n ++ negative d) k ↔ Finishes T w n d k
  -- the rightmost one is such
  pub rightmost : (n d : Positive) (k : ℕ) → FinishesRightmost T w n d k ↔ Finishes T w n d k

-- what the outcome of reversing the word says of every order
pub record OrderMeaning (T : Presentation) (w : Word) (outcome : Outcome Fraction) : Type 0 where
  -- what holds of every word holds of this one
  pub orders : AnyOrder T w
  -- an answer is reached: the leftmost order finishes with it, and so does every strategy
  pub reached : (f : Fraction) → outcome ≡ answered f → Finishes T w f.numerator f.denominator f.steps
  -- after an answer, each order that comes to a word without a site comes to the answer's in the answer's number of steps
  pub finished : (f : Fraction) → outcome ≡ answered f → (v : Word) (k : ℕ) → Reduces T w v k → site v ≡ nowhere
      → (v ≡ positive f.numerator ++ negative f.denominator) × (k ≡ f.steps)
  -- after 10 none comes to a word without a site
  pub unfinished : (place : Place) → outcome ≡ refused 10 place → (v : Word) (k : ℕ) → Reduces T w v k → site v ≡ nowhere → ⊥
