-- Reading refuses with small numbers only: 1 to 3 of a table, 4 to 6 of a program or chain, 7 of one that must be forward. So what is refused
-- before the work begins leaves the workspace as found. 7 is the bound of both ways to read a program.
use mathlib.Core.Path.{◌≡◌, ap, subst}
use mathlib.Core.List.{List}
use mathlib.Core.Bool.{Bool, true, false, not, ◌||◌, cond}
use Prim.Native.Nat.{ℕ, zero, suc, ◌+◌, ◌≤◌}
use native.Mathlib.Omega.{arith}
use borrow.Author.Tests.{le-leb}
use lib.Dec.{ltb, leb, eqb}
use lib.ListN.{length, take, drop, replicate}
use Rattle.model.specs.Word.{forwards}
use Rattle.model.specs.Outcome.{unplaced, Outcome, answered, refused, ◌>>=◌, unless}
use Rattle.model.specs.Bits.{Read, bits_of, field, finish, filling, letter_width, number}
use Rattle.model.specs.Images.{weight_width, offset_width, letter_field, several, rows_of, word_field, defined_field, pair_field, signed_field, entry_field}
use Rattle.model.specs.Images.{read_table}
use Rattle.model.specs.Images.{read_program, read_chain}
use Rattle.model.specs.Services.{is_forward, read_forward}
use Rattle.model.specs.Areas.{workspace_after}
use Rattle.model.specs.Stated.{numbered, refusal}
use Rattle.model.specs.declared.answers.Refusal.{Refusal}
use Rattle.model.specs.Images.{count_width}
use Rattle.model.specs.Images.{chain_count_width}
use Rattle.model.specs.Images.{length_width}
use Rattle.model.specs.Images.{size_width}

-- a refusal, if it is one, has a number of at most k
abbrev pub Early : {A : Type 0} → ℕ → Outcome A → Type 0
Early k (answered x) = Unit {0}
Early k (refused n ps) = n ≤ k

-- one reading and another after it
pub early_then : {A B : Type 0} (k : ℕ) (o : Outcome A) (f : A → Outcome B) → Early k o → ((x : A) → Early k (f x)) → Early k (o >>= f)
early_then k (answered x) f e g = g x
early_then k (refused n ps) f e g = e

test : {A : Type 0} (k : ℕ) (t : Bool) (n : ℕ) (x : A) → n ≤ k → Early k (unless t n x)
test k true n x h = h
test k false n x h = tt

choice : {A : Type 0} (k : ℕ) (t : Bool) (x y : Outcome A) → Early k x → Early k y → Early k (cond t x y)
choice k true x y p q = p
choice k false x y p q = q

module _ (k : ℕ) where
  field_early : (n width : ℕ) (bits : List ℕ) → n ≤ k → Early k (field n width bits)
  unfolding field
  field_early n width bits h = test k (ltb (length bits) width) n (record { value = number 0 (take width bits); rest = drop width bits }) h

  finish_early : {A : Type 0} (n : ℕ) (r : Read A) → n ≤ k → Early k (finish n r)
  unfolding finish
  finish_early n r h = choice k (filling r.rest) (answered r.value) (refused n unplaced) tt h

  letter_early : (early wrong n : ℕ) (bits : List ℕ) → early ≤ k → wrong ≤ k → Early k (letter_field early wrong n bits)
  letter_early early wrong n bits h i =
      early_then k (field early (letter_width n) bits) (λ r. unless (leb n r.value) wrong (record { value = r.value + 1; rest = r.rest }))
      (field_early early (letter_width n) bits h)
      (λ r. test k (leb n r.value) wrong (record { value = r.value + 1; rest = r.rest }) i)

  several_early : {A : Type 0} (reader : List ℕ → Outcome (Read A)) → ((bits : List ℕ) → Early k (reader bits)) → (j : ℕ) (bits : List ℕ)
      → Early k (several reader j bits)
  several_early reader h zero bits = tt
  several_early reader h (suc j) bits =
      early_then k (reader bits) _ (h bits) (λ r. early_then k (several reader j r.rest) _ (several_early reader h j r.rest) (λ rs. tt))

  rows_early : {A : Type 0} (reader : List ℕ → Outcome (Read A)) → ((bits : List ℕ) → Early k (reader bits)) → (j : ℕ) (bits : List ℕ)
      → Early k (rows_of reader j bits)
  rows_early reader h zero bits = tt
  rows_early reader h (suc j) bits =
      early_then k (several reader j bits) _ (several_early reader h j bits)
      (λ r. early_then k (rows_of reader j r.rest) _ (rows_early reader h j r.rest) (λ rs. tt))

word_early : (n : ℕ) (bits : List ℕ) → Early 3 (word_field n bits)
word_early n bits =
    early_then 3 (field 1 length_width bits) _ (field_early 3 1 length_width bits (omega arith))
    (λ c. several_early 3 (letter_field 1 2 n) (λ b. letter_early 3 1 2 n b (omega arith) (omega arith)) c.value c.rest)

pair_early : (n : ℕ) (bits : List ℕ) → Early 3 (pair_field n bits)
pair_early n bits =
    early_then 3 (field 1 1 bits) _ (field_early 3 1 1 bits (omega arith))
    (λ b. choice 3 (eqb b.value 0) _ (defined_field n b.rest) tt
    (early_then 3 (word_field n b.rest) _ (word_early n b.rest) (λ x. early_then 3 (word_field n x.rest) _ (word_early n x.rest) (λ y. tt))))

pub table_early : (bytes : List ℕ) → Early 3 (read_table bytes)
unfolding read_table
table_early bytes =
    early_then 3 (field 1 size_width (bits_of bytes)) _ (field_early 3 1 size_width (bits_of bytes) (omega arith))
    (λ h. early_then 3 (several (field 1 weight_width) (h.value + 1) h.rest) _
    (several_early 3 (field 1 weight_width) (λ b. field_early 3 1 weight_width b (omega arith)) (h.value + 1) h.rest)
    (λ ws. early_then 3 (rows_of (pair_field (h.value + 1)) (h.value + 1) ws.rest) _
    (rows_early 3 (pair_field (h.value + 1)) (pair_early (h.value + 1)) (h.value + 1) ws.rest)
    (λ rs. finish_early 3 3 (record { value = record { size = h.value + 1; excess = ws.value; rows = rs.value }; rest = rs.rest }) (omega arith))))

signed_early : (n : ℕ) (bits : List ℕ) → Early 7 (signed_field n bits)
signed_early n bits =
    early_then 7 (field 4 1 bits) _ (field_early 7 4 1 bits (omega arith))
    (λ s. early_then 7 (letter_field 4 5 n s.rest) _ (letter_early 7 4 5 n s.rest (omega arith) (omega arith)) (λ a. tt))

pub program_early : (n : ℕ) (bytes : List ℕ) → Early 7 (read_program n bytes)
unfolding read_program
program_early n bytes =
    early_then 7 (field 4 count_width (bits_of bytes)) _ (field_early 7 4 count_width (bits_of bytes) (omega arith))
    (λ c. early_then 7 (several (signed_field n) c.value c.rest) _ (several_early 7 (signed_field n) (signed_early n) c.value c.rest)
    (λ w. finish_early 7 6 w (omega arith)))

entry_early : (n : ℕ) (bits : List ℕ) → Early 6 (entry_field n bits)
entry_early n bits =
    early_then 6 (field 4 offset_width bits) _ (field_early 6 4 offset_width bits (omega arith))
    (λ o. early_then 6 (letter_field 4 5 n o.rest) _ (letter_early 6 4 5 n o.rest (omega arith) (omega arith))
    (λ a. early_then 6 (letter_field 4 5 n a.rest) _ (letter_early 6 4 5 n a.rest (omega arith) (omega arith)) (λ b. tt)))

pub chain_early : (n : ℕ) (bytes : List ℕ) → Early 6 (read_chain n bytes)
unfolding read_chain
chain_early n bytes =
    early_then 6 (field 4 chain_count_width (bits_of bytes)) _ (field_early 6 4 chain_count_width (bits_of bytes) (omega arith))
    (λ c. early_then 6 (several (entry_field n) c.value c.rest) _ (several_early 6 (entry_field n) (entry_early n) c.value c.rest)
    (λ es. finish_early 6 6 es (omega arith)))

-- a bound that is larger
pub wider : {A : Type 0} (j k : ℕ) (o : Outcome A) → j ≤ k → Early j o → Early k o
wider j k (answered x) h e = tt
wider j k (refused n ps) h e = omega arith

pub forward_early : (n : ℕ) (bytes : List ℕ) → Early 7 (read_forward n bytes)
unfolding read_forward
forward_early n bytes =
    early_then 7 (read_program n bytes) _ (program_early n bytes)
    (λ w. test 7 (not (is_forward w)) 7 (forwards w) (omega arith))

-- an early refusal leaves the workspace as found
pub refusal_workspace : {A : Type 0} (B : Type 0) (r : Refusal) (o : Outcome A) (k : ℕ) → o ≡ refusal r → Early k o → k ≤ 8 → (area : List ℕ)
    → workspace_after {A = B} (refusal r) area ≡ area
refusal_workspace B r o k e h few area =
    let small : (numbered r).0 ≤ k = subst (Early k) e h in
    ap (λ b. cond (b || (eqb (numbered r).0 16 || (eqb (numbered r).0 23 || eqb (numbered r).0 24))) area (replicate (length area) 0))
    (le-leb (numbered r).0 8 (omega arith))
