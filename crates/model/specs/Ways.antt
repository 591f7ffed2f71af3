-- Specification 6.14: all words that are joined to a forward program, each once, by the first move that differs.
use Rattle.std.specs.Prelude.{List, [], ◌∷◌, ◌++◌, map, Bool, true, false, cond, ◌≡◌, ℕ, zero, suc, ◌^◌, ltb, eqb, length, replicate}
use Rattle.std.proofs.Math.Option.{Option, none, some}
use Rattle.model.specs.Word.{Positive}
use Rattle.model.specs.Presentation.{Presentation, weigh}
use Rattle.model.specs.Equivalence.{Entry, applied}
use Rattle.model.specs.Enumeration.{range, concat_map, pairs}
use Rattle.model.specs.Checks.{weight_check}
use Rattle.model.specs.Outcome.{Outcome, answered, refused, ◌>>=◌, unless}
use Rattle.model.specs.Services.{read_table_with, read_forward}
use Rattle.model.specs.Areas.{begins}

-- THE ORDER OF WORDS

-- whether u comes before v: at the first letter that differs it has the lower number. Neither comes first of two words one of which begins the other
abbrev pub earlier : Positive → Positive → Bool
earlier [] v = false
earlier (a ∷ u) [] = false
earlier (a ∷ u) (b ∷ v) = cond (eqb a b) (earlier u v) (ltb a b)

-- each word comes before the next one
abbrev pub Ordered : List Positive → Type 0
Ordered [] = Unit {0}
Ordered (u ∷ []) = Unit {0}
Ordered (u ∷ v ∷ vs) = (earlier u v ≡ true) × Ordered (v ∷ vs)

-- the words with one more at its place; one that is there stays once
abbrev pub inserted : Positive → List Positive → List Positive
inserted w [] = w ∷ []
inserted w (v ∷ vs) = cond (earlier w v) (w ∷ v ∷ vs) (cond (earlier v w) (v ∷ inserted w vs) (v ∷ vs))

abbrev pub inserted_all : List Positive → List Positive → List Positive
inserted_all [] vs = vs
inserted_all (w ∷ ws) vs = inserted_all ws (inserted w vs)

-- ONE SWAP

-- every entry with an offset below l and two of n letters: both directions of each relation, at each place
abbrev pub entries : ℕ → ℕ → List Entry
entries n l =
    concat_map (λ o. concat_map (λ a. map (λ b. record { offset = o; a = a; b = b }) (range 1 n)) (range 1 n)) (range 0 l)

abbrev pub of_option : Option Positive → List Positive
of_option none = []
of_option (some w) = w ∷ []

-- the words that one swap makes of u
abbrev pub neighbours : Presentation → Positive → List Positive
neighbours T u = concat_map (λ e. of_option (applied T u e)) (entries T.size (length u))

-- THE LISTING

-- the words with all that one swap makes of them
abbrev pub spread : Presentation → List Positive → List Positive
spread T vs = inserted_all (concat_map (neighbours T) vs) vs

-- a list, and the list after spreading it once: where no word is new the first list is the end, else the second is gone on from
abbrev pub on_from : (List Positive → List Positive) → List Positive → List Positive → Bool → List Positive
on_from go vs more true = vs
on_from go vs more false = go more

-- spread again and again, until no word is new or as often as said
unfoldable pub closure : Presentation → ℕ → List Positive → List Positive
closure T zero vs = vs
closure T (suc k) vs = on_from (closure T k) vs (spread T vs) (eqb (length (spread T vs)) (length vs))

-- the words joined to u. Words of one weight have no more letters than they weigh, and each letter is one of n, so that there are no more of
-- them than there are numbers of so many digits from 0 to n
unfoldable pub listing : Presentation → Positive → List Positive
listing T u = closure T (suc T.size ^ weigh T u) (u ∷ [])

-- THE ANSWER

-- each word's letters, a byte each, then a zero byte
abbrev pub listing_bytes : List Positive → List ℕ
listing_bytes vs = concat_map (λ w. w ++ (0 ∷ [])) vs

-- refusal 13 where the answer area is shorter than the listing
abbrev pub fitted_listing : ℕ → List Positive → Outcome (List Positive)
fitted_listing area vs = unless (ltb area (length (listing_bytes vs))) 13 vs

-- 6.14: the program's tests come before the weight check, and 13 comes last
unfoldable pub ways : List ℕ → List ℕ → ℕ → Outcome (List Positive)
ways table program area =
    read_table_with read_forward table program >>= λ l.
    weight_check l.table (pairs l.table.size) >>= λ ok.
    fitted_listing area (listing l.table l.word)

-- 6.14: the answer area: it begins with the listing; zeros after 13, and as it was after the other refusals
abbrev pub ways_area : Outcome (List Positive) → List ℕ → List ℕ
ways_area (answered vs) area = begins (listing_bytes vs) area
ways_area (refused n place) area = cond (eqb n 13) (replicate (length area) 0) area
