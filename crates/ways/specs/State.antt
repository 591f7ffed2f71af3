-- What holds while the words' swaps are tried, one word after the other.
use mathlib.Core.List.{List, [], ◌∷◌, ◌++◌, Memᴰ}
use Rattle.std.specs.Prelude.{cond, ◌⊎◌, ◌≡◌, ℕ, suc, ◌+◌, ◌<◌, eqb, length, take, drop, get_or}
use Rattle.std.specs.Prelude.{Option as OptionAnswer, Some, None}
use Rattle.std.proofs.Math.Option.{Option, none, some}
use Rattle.model.specs.Word.{Positive}
use Rattle.model.specs.Presentation.{Presentation}
use Rattle.model.specs.Equivalence.{Entry, applied, Joined}
use Rattle.model.specs.Range.{InRange}
use Rattle.model.specs.Ways.{listing, listing_bytes}
use Rattle.theory.specs.Ways.{Weighed}
use Rattle.cells.specs.Stands.{Of}
use Rattle.ways.specs.declared.trying.Held.{Held}
use Rattle.ways.specs.Marks.{untried}
use Rattle.ways.specs.Swap.{new_word, Readable}
use Rattle.ways.specs.Insert.{old_length}
use Rattle.ways.specs.declared.swap.Swap.{Swap}
use Rattle.ways.specs.Area.{Marked, spelled, words, Spells}

-- how many words were tried
abbrev pub tried_count : List Marked → ℕ
tried_count [] = 0
tried_count (m ∷ ms) = cond (eqb m.mark 0) (suc (tried_count ms)) (tried_count ms)

-- the words found so far: all joined to u, which is among them; whatever one swap makes of a tried one is there. Behind them the area is as it was
pub record Sound (T : Presentation) (u : Positive) (before area : List ℕ) (used : ℕ) (ms : List Marked) (count : ℕ) : Type 0 where
  pub spells : Spells area used ms
  pub same_length : length area ≡ length before
  pub rest : drop used area ≡ drop used before
  pub joined : (m : Marked) → Memᴰ m ms → Joined T u m.word
  pub has : Memᴰ u (words ms)
  pub marks : (m : Marked) → Memᴰ m ms → (m.mark ≡ 0) ⊎ (m.mark ≡ untried)
  pub tried : (m : Marked) → Memᴰ m ms → m.mark ≡ 0 → (v : Positive) (e : Entry) → applied T m.word e ≡ some v → Memᴰ v (words ms)
  pub counted : tried_count ms ≡ count

-- what the words are found for: a table in the cells, a program, the area at first, the word under trial, and how many were tried before
pub record Work (cells : List ℕ) (size : ℕ) : Type 0 where
  pub table : Presentation
  pub of : Of cells size table
  pub program : Positive
  pub weighed : Weighed table program
  pub before : List ℕ
  pub word : Positive
  pub count : ℕ

abbrev pub current : Positive → Marked
current w = record { word = w; mark = untried }

-- the word under trial has its place
pub record Busy {cells : List ℕ} {size : ℕ} (g : Work cells size) (area : List ℕ) (h : Held) : Type 0 where
  pub earlier_words : List Marked
  pub later_words : List Marked
  pub sound : Sound g.table g.program g.before area h.used (earlier_words ++ (current g.word ∷ later_words)) g.count
  pub word_is : h.word ≡ length (spelled earlier_words)
  pub letters_is : h.letters ≡ length g.word

abbrev pub list_of : {cells : List ℕ} {size : ℕ} {g : Work cells size} {area : List ℕ} {h : Held} → Busy g area h → List Positive
list_of {g} b = words (b.earlier_words ++ (current g.word ∷ b.later_words))

-- some entries were tried: no word was lost, and what they make of the word is there
pub record Progress {cells : List ℕ} {size : ℕ} (g : Work cells size) (old : List Positive) (P : Entry → Type 0) (area : List ℕ) (h : Held) : Type 0 where
  pub busy : Busy g area h
  pub kept : (x : Positive) → Memᴰ x old → Memᴰ x (list_of busy)
  pub swaps : (e : Entry) (v : Positive) → P e → applied g.table g.word e ≡ some v → Memᴰ v (list_of busy)

-- the listing is longer than the area
abbrev pub TooLong : {cells : List ℕ} {size : ℕ} → Work cells size → Type 0
TooLong g = length g.before < length (listing_bytes (listing g.table g.program))

abbrev pub TriedMeans : {cells : List ℕ} {size : ℕ} → Work cells size → List Positive → (Entry → Type 0) → List ℕ → OptionAnswer Held → Type 0
TriedMeans g old P area (Some h) = Progress g old P area h
TriedMeans g old P area None = TooLong g

-- the swap is one of the word under trial
pub record Swaps (area cells : List ℕ) (h : Held) (s : Swap) : Type 0 where
  pub readable : Readable area cells s
  pub word_is : s.word ≡ h.word
  pub letters_is : old_length s ≡ h.letters

-- there is such work
abbrev pub Works : List ℕ → List ℕ → Held → Type 0
Works cells area h = (size : ℕ) × (g : Work cells size) × Busy g area h

-- where the new word is joined to the program, it is listed afterwards, or the listing is too long
abbrev pub AddMeans : List ℕ → List ℕ → Held → Swap → List ℕ → OptionAnswer Held → Type 0
AddMeans cells area h s after r =
    (size : ℕ) (g : Work cells size) (b : Busy g area h) → (e : Entry) → applied g.table g.word e ≡ some (new_word area cells s)
    → TriedMeans g (list_of b) (λ d. d ≡ e) after r

-- the letters of the word under trial
abbrev pub held_word : List ℕ → Held → Positive
held_word area h = take h.letters (drop h.word area)

-- the entries with an offset and a second letter
abbrev pub Toward : ℕ → ℕ → Entry → Type 0
Toward offset b e = (e.offset ≡ offset) × (e.b ≡ b)

-- a letter of the word under trial, and one of the table
pub record Letter (cells area : List ℕ) (h : Held) (offset b : ℕ) : Type 0 where
  pub size : ℕ
  pub work : Work cells size
  pub busy : Busy work area h
  pub inside : offset < h.letters
  pub named : InRange size b

-- the entry with an offset and two letters
abbrev pub entry_at : ℕ → ℕ → ℕ → Entry
entry_at offset a b = record { offset = offset; a = a; b = b }

-- the swap is one of the word under trial and makes this of it; where there is none, nothing can be made
abbrev pub Makes : List ℕ → List ℕ → Held → OptionAnswer Swap → Option Positive → Type 0
Makes cells area h (Some s) v = Swaps area cells h s × (v ≡ some (new_word area cells s))
Makes cells area h None v = v ≡ none

-- it makes of the word what the entry at the letter, toward the other, makes of it
abbrev pub FittingMeans : List ℕ → List ℕ → Held → ℕ → ℕ → OptionAnswer Swap → Type 0
FittingMeans cells area h offset b r =
    (size : ℕ) (g : Work cells size) → Busy g area h → InRange size b
    → Makes cells area h r (applied g.table g.word (entry_at offset (get_or area (h.word + offset) 0) b))

abbrev pub LetterMeans : List ℕ → List ℕ → Held → ℕ → ℕ → List ℕ → OptionAnswer Held → Type 0
LetterMeans cells area h offset b after r =
    (size : ℕ) (g : Work cells size) (t : Busy g area h) → InRange size b → TriedMeans g (list_of t) (Toward offset b) after r

-- the word under trial of some work
abbrev pub Trial : List ℕ → ℕ → List ℕ → Held → Type 0
Trial cells size area h = (g : Work cells size) × Busy g area h

-- the entries with an offset, and all entries
abbrev pub At : ℕ → Entry → Type 0
At offset e = e.offset ≡ offset

abbrev pub Any : Entry → Type 0
Any e = Unit {0}

-- such entries were tried
abbrev pub TrialMeans : List ℕ → ℕ → List ℕ → Held → (Entry → Type 0) → List ℕ → OptionAnswer Held → Type 0
TrialMeans cells size area h P after r = (g : Work cells size) (t : Busy g area h) → TriedMeans g (list_of t) P after r
