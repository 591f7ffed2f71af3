-- Specification 3.8 and 6.13, as statements: left reversing against right reversing under the mirror, joined words read backward, and what clearing the
-- mirror says of it. The promises of left_reverse and mirror_clear cite them.
-- Proved from the definitions: `left_is_right` in proofs/Mirroring.antt, `joined_backward` in Backward.antt; `mirror_meaning` in MirrorClearing.antt.
-- Main names: `LeftIsRight`, `JoinedBackward`, `MirrorMeaning`.
use Rattle.std.specs.Prelude.{reverse, ◌↔◌, ◌≡◌, ℕ}
use Rattle.model.specs.Word.{Word, Positive}
use Rattle.model.specs.Presentation.{Presentation}
use Rattle.model.specs.Equivalence.{Joined}
use Rattle.model.specs.Reversing.{Ending, finished, open_pair, stopped, reversing}
use Rattle.model.specs.Enumeration.{triples}
use Rattle.model.specs.Outcome.{triple_of, mirror_triple_of, Outcome, answered, refused}
use Rattle.model.specs.Checks.{cleared}
use Rattle.model.specs.Range.{All, TableInRange}
use Rattle.model.specs.Mirror.{mirror, mirror_check, left_reversing}
use Rattle.theory.specs.Cube.{Obeys, FirstBroken}

-- an ending with both words read backward; steps, the open pair and the stop stay
abbrev pub read_backward : Ending → Ending
read_backward (finished n d k r) = finished (reverse n) (reverse d) k r
read_backward (open_pair a b k) = open_pair a b k
read_backward (stopped s) = stopped s

-- left reversing is right reversing of the word read backward, signs kept, under the mirror: for every allowance, room and word
abbrev pub LeftIsRight : Presentation → Type 0
LeftIsRight T = (budget room : ℕ) (w : Word) → left_reversing T budget room w ≡ read_backward (reversing (mirror T) budget room (reverse w))

-- where a table has a mirror, words are joined exactly if they are joined under the mirror when read backward
abbrev pub JoinedBackward : Presentation → Type 0
JoinedBackward T =
    TableInRange T → mirror_check T ≡ answered tt → (u v : Positive) → Joined T u v ↔ Joined (mirror T) (reverse u) (reverse v)

-- clearing the mirror: an answer only where the mirror passes both checks, so that it obeys the cube rule at every triple; 17 only with the first triple of
-- the mirror that breaks the rule
pub record MirrorMeaning (T : Presentation) (budget room : ℕ) (outcome : Outcome (Unit {0})) : Type 0 where
  pub passed : outcome ≡ answered tt → cleared (mirror T) budget room ≡ answered tt
  pub obeyed : outcome ≡ answered tt → All (Obeys (mirror T)) (triples T.size)
  pub broken : (a b c : ℕ) → outcome ≡ refused 17 (mirror_triple_of a b c) → FirstBroken (mirror T) (triples T.size) (triple_of a b c)
  -- where there is a mirror, joined words are those that are joined under it when read backward
  pub joined_backward : JoinedBackward T
