-- Specification 3.8: the mirror of a table, which has each relation read backward, and left reversing, which begins at a word's end.
use Rattle.std.specs.Prelude.{List, [], ◌∷◌, ◌++◌, map, reverse, Bool, true, false, ◌&&◌, ◌||◌, cond, ℕ, zero, suc, ◌-◌, ltb, leb, eqb, length}
use Rattle.model.specs.Word.{Letter, forward, back, Word, Positive, positive, negative}
use Rattle.model.specs.Presentation.{Presentation, Complement, undefined, complement, complete}
use Rattle.model.specs.Reversing.{Site, nowhere, at, Next, no_site, blocked, step, Ending, stopped, no_room, spent, onward}
use Rattle.model.specs.Enumeration.{range, Two, pairs}
use Rattle.model.specs.Outcome.{pair_of, Outcome, answered, refused}

-- RELATIONS FROM THEIR ENDS

-- a word with a letter at least: what stands before its last letter, and that letter
pub record FromEnd : Type 0 where
  pub before : Positive
  pub last : ℕ

-- the side of a relation that is a followed by x
abbrev pub from_end : ℕ → Positive → FromEnd
from_end a [] = record { before = []; last = a }
from_end a (b ∷ x) = record { before = a ∷ (from_end b x).before; last = (from_end b x).last }

-- of two sides that end in p and q, in either order, what stands before p and then what stands before q
abbrev pub ending_in : ℕ → ℕ → FromEnd → FromEnd → Complement
ending_in p q u v =
    cond (eqb u.last p && eqb v.last q) (complement u.before v.before)
    (cond (eqb u.last q && eqb v.last p) (complement v.before u.before) undefined)

-- the same of the two sides of a pair's relation, which an open pair has not
abbrev pub relation_ending : ℕ → ℕ → ℕ → ℕ → Complement → Complement
relation_ending p q a b undefined = undefined
relation_ending p q a b (complement x y) = ending_in p q (from_end a x) (from_end b y)

-- the first of two that is defined
abbrev pub or_else : Complement → Complement → Complement
or_else undefined d = d
or_else (complement x y) d = complement x y

-- of the first relation among these pairs whose sides end in p and q
abbrev pub found : Presentation → ℕ → ℕ → List Two → Complement
found T p q [] = undefined
found T p q (r ∷ rs) = or_else (relation_ending p q r.a r.b (complete T r.a r.b)) (found T p q rs)

-- THE MIRROR

-- both words of a pair read backward
abbrev pub backward : Complement → Complement
backward undefined = undefined
backward (complement x y) = complement (reverse x) (reverse y)

-- the mirror's completion of p towards q is what stands before p, read backward; weights are the table's
abbrev pub mirror : Presentation → Presentation
mirror T =
    record {
      size = T.size;
      excess = T.excess;
      rows = map (λ p. map (λ q. backward (found T p q (pairs T.size))) (range (suc p) (T.size - p))) (range 1 T.size);
    }

-- whether a pair is defined
abbrev pub is_defined : Complement → Bool
is_defined undefined = false
is_defined (complement x y) = true

-- a relation offends where its sides end in the same letter, or in those of one before it
abbrev pub offends : Presentation → List Two → FromEnd → FromEnd → Bool
offends T earlier u v = eqb u.last v.last || is_defined (found T u.last v.last earlier)

abbrev pub offending : Presentation → List Two → ℕ → ℕ → Complement → Bool
offending T earlier a b undefined = false
offending T earlier a b (complement x y) = offends T earlier (from_end a x) (from_end b y)

-- refusal 16 names the first relation that offends, by its own pair
abbrev pub mirrored : Presentation → List Two → List Two → Outcome (Unit {0})
mirrored T earlier [] = answered tt
mirrored T earlier (r ∷ rs) =
    cond (offending T earlier r.a r.b (complete T r.a r.b)) (refused 16 (pair_of r.a r.b)) (mirrored T (earlier ++ (r ∷ [])) rs)

unfoldable pub mirror_check : Presentation → Outcome (Unit {0})
mirror_check T = mirrored T [] (pairs T.size)

-- LEFT REVERSING

-- the rightmost forward letter a that stands directly before a back letter b, as the site of a and b, where x stands before the word
abbrev pub left_of : Letter → Word → Site → Site
left_of x w (at p a b s) = at (x ∷ p) a b s
left_of (forward a) (back b ∷ s) nowhere = at [] a b s
left_of (forward a) (forward b ∷ s) nowhere = nowhere
left_of (forward a) [] nowhere = nowhere
left_of (back a) w nowhere = nowhere

abbrev pub left_site : Word → Site
left_site [] = nowhere
left_site (x ∷ w) = left_of x w (left_site w)

-- U and V of the relation with the sides U p and V q, both empty where p = q; open where there is none, or one of the numbers names no letter
abbrev pub names : Presentation → ℕ → Bool
names T a = leb 1 a && leb a T.size

unfoldable pub left_complete : Presentation → ℕ → ℕ → Complement
left_complete T p q =
    cond (eqb p q) (complement [] []) (cond (names T p && names T q) (found T p q (pairs T.size)) undefined)

-- the word after a step: where the site was, U's undoing, followed by V
abbrev pub left_replaced : Word → Positive → Positive → Word → Word
left_replaced p u v s = p ++ (negative u ++ (positive v ++ s))

-- a pair is named by its back letter first
abbrev pub left_by_complement : Word → ℕ → ℕ → Word → Complement → Next
left_by_complement p a b s undefined = blocked b a
left_by_complement p a b s (complement u v) = step b a (left_replaced p u v s)

abbrev pub left_by_site : Presentation → Site → Next
left_by_site T nowhere = no_site
left_by_site T (at p a b s) = left_by_complement p a b s (left_complete T a b)

unfoldable pub left_next : Presentation → Word → Next
left_next T w = left_by_site T (left_site w)

-- the four endings in the order of 3.2; a finished word is the undoing of D, followed by N
unfoldable pub left_run : Presentation → ℕ → ℕ → ℕ → ℕ → Word → Ending
left_run T room zero k r w = spent w k r (left_next T w)
left_run T room (suc left) k r w = onward room w k r (left_run T room left) (left_next T w)

unfoldable pub left_reversing : Presentation → ℕ → ℕ → Word → Ending
left_reversing T budget room w = cond (ltb room (length w)) (stopped no_room) (left_run T room budget 0 0 w)
