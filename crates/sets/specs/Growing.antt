-- What listing one word more comes to, and what taking one pair of listed words does.
use Rattle.std.specs.Prelude.{List, [], ◌++◌, ◌≡◌, ℕ, ◌≤◌, ◌<◌, length, get_or, take, drop, Result, Ok, Err}
use Rattle.model.specs.Word.{Word, Positive, positive, negative}
use Rattle.model.specs.Presentation.{Presentation}
use Rattle.model.specs.Range.{Lettered}
use Rattle.model.specs.Reversing.{finished}
use Rattle.model.specs.Enumeration.{Two}
use Rattle.model.specs.Outcome.{Outcome, answered, ◌>>=◌}
use Rattle.model.specs.Signed.{most_words, set_bytes, beside, added_to}
use Rattle.model.specs.Stated.{refusal}
use Rattle.model.specs.declared.answers.Stop.{Stop as StopAnswer}
use Rattle.model.specs.declared.answers.Stop.TheVariants.{Budget, Room}
use Rattle.model.specs.declared.answers.Place.TheVariants.{Set}
use Rattle.model.specs.declared.answers.Refusal.TheVariants.{AllowanceUsed, WorkspaceShort, SetOpenPair, SetTooLarge}
use Rattle.cells.specs.Stands.{Stands}
use Rattle.sets.specs.declared.words.Span.{Span}
use Rattle.sets.specs.declared.growing.Held.{Held}
use Rattle.sets.specs.declared.growing.SetFault.{SetFault}
use Rattle.sets.specs.declared.growing.SetFault.TheVariants.{OpenPair, TooLarge, Stopped}
use Rattle.sets.specs.Listed.{Lists, Placed}

-- the outcome that each answer states: 21, 22, and 11 and 12 of the set
abbrev pub stopped_as : StopAnswer → Outcome (Unit {0})
stopped_as Budget = refusal (AllowanceUsed Set)
stopped_as Room = refusal (WorkspaceShort Set)

abbrev pub fault_as : SetFault → Outcome (Unit {0})
fault_as (OpenPair p) = refusal (SetOpenPair p)
fault_as TooLarge = refusal SetTooLarge
fault_as (Stopped s) = stopped_as s

abbrev pub grown_as : Result (Unit {0}) SetFault → Outcome (Unit {0})
grown_as (Ok closed) = answered tt
grown_as (Err f) = fault_as f

-- the words listed so far, with letters among n
pub record Growing (n : ℕ) (area : List ℕ) (h : Held) (vs : List Positive) : Type 0 where
  pub lists : Lists n area h.used vs
  pub counted : h.words ≡ length vs
  pub few : length vs ≤ most_words

abbrev pub Grows : List ℕ → Held → Type 0
Grows area h = (n : ℕ) × (vs : List Positive) × Growing n area h vs

-- growing goes on: the words are those of the outcome, the earlier ones in their places
pub record Grew (n : ℕ) (area : List ℕ) (vs : List Positive) (outcome : Outcome (List Positive)) (h : Held) : Type 0 where
  pub words : List Positive
  pub is : outcome ≡ answered words
  pub growing : Growing n area h words
  pub added : List Positive
  pub extends : words ≡ vs ++ added

-- what comes after more words than vs: 12 where they are longer than the workspace
abbrev pub StopsLong : ℕ → List Positive → (List Positive → Outcome (Unit {0})) → Type 0
StopsLong room vs after = (ws : List Positive) → length vs < length ws → length ws ≤ most_words → room < set_bytes ws → after ws ≡ stopped_as Room

-- growing has ended: whatever comes after the outcome, the answer is that of the whole
abbrev pub StepMeans : ℕ → List ℕ → List Positive → Outcome (List Positive) → Result Held SetFault → Type 0
StepMeans n area vs outcome (Ok h) = Grew n area vs outcome h
StepMeans n area vs outcome (Err f) =
    (after : List Positive → Outcome (Unit {0})) → StopsLong (length area) vs after → fault_as f ≡ (outcome >>= after)

-- the word of so many letters behind the listed ones, as a numerator
abbrev pub AddMeans : List ℕ → Held → ℕ → List ℕ → Result Held SetFault → Type 0
AddMeans area h count after r =
    (n : ℕ) (vs : List Positive) → Growing n area h vs → (w : Positive) → take count (drop h.used area) ≡ w → Lettered n (positive w)
    → StepMeans n after vs (added_to vs (finished w [] 0 0)) r

-- u's inverse, then v, for two places of the list
abbrev pub pair_word : List Positive → Two → Word
pair_word vs p = negative (get_or vs p.a []) ++ positive (get_or vs p.b [])

-- the list after the pair was taken
abbrev pub after_pair : Presentation → ℕ → ℕ → List Positive → Two → Outcome (List Positive)
after_pair T budget room vs p = added_to vs (beside T budget room vs (pair_word vs p))

-- the words u and v of a table in the cells have places in the list
pub record Paired (cells area : List ℕ) (h : Held) (u v : Span) (T : Presentation) (vs : List Positive) (p : Two) : Type 0 where
  pub stands : Stands cells T
  pub growing : Growing T.size area h vs
  pub first : Placed vs p.a u
  pub second : Placed vs p.b v

abbrev pub Pairs : List ℕ → List ℕ → Held → Span → Span → Type 0
Pairs cells area h u v = (T : Presentation) × (vs : List Positive) × (p : Two) × Paired cells area h u v T vs p

abbrev pub PairMeans : List ℕ → List ℕ → Held → Span → Span → ℕ → List ℕ → Result Held SetFault → Type 0
PairMeans cells area h u v budget after r =
    (T : Presentation) (vs : List Positive) (p : Two) → Paired cells area h u v T vs p
    → StepMeans T.size after vs (after_pair T budget (length area) vs p) r
