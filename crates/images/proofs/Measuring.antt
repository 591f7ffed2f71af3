-- The one pass over a program image: its letters, how many of them are back letters, and what they weigh under the cells of a table.
use mathlib.Core.Path.{◌≡◌, refl, ap, ◌∙◌}
use mathlib.Core.List.{List, [], ◌∷◌, ◌++◌}
use Prim.Native.Nat.{ℕ, suc, ◌+◌, ◌*◌, ◌/◌, ◌%◌, ◌≤◌, ◌<◌}
use native.Mathlib.Omega.{arith}
use borrow.Author.Tests.{ne_eqb}
use lib.Dec.{eqb}
use lib.ListN.{length, get_or}
use Rattle.model.specs.Word.{Letter, forward, back, Word, Positive, positive, byte, backs}
use Rattle.model.specs.Presentation.{Presentation, weigh}
use Rattle.model.specs.Range.{InRange, number_of, Lettered}
use Rattle.model.specs.Services.{is_forward}
use Rattle.cells.specs.Layout.{weight_at}
use Rattle.cells.specs.Stands.{Of}
use Rattle.cells.proofs.Rules.{of_few, held_weight, light_letter}
use Rattle.model.specs.Images.{count_width, most_size}
use Rattle.images.specs.Fields.{FieldAt, from}
use Rattle.images.specs.Programs.{SignedAt, cells_weigh}
use Rattle.images.proofs.Validating.{program, Validated, validated_none, validated_more}

-- a letter's byte has its number and its sign
module _ (x : Letter) (h : number_of x ≤ most_size) where
  pub byte_number : byte x % 128 ≡ number_of x
  byte_number = number x h
    where
      number : (x : Letter) → number_of x ≤ most_size → byte x % 128 ≡ number_of x
      number (forward a) h = omega arith
      number (back a) h = omega arith

  pub byte_sign : byte x / 128 ≡ length (backs (x ∷ []))
  byte_sign = sign x h
    where
      sign : (x : Letter) → number_of x ≤ most_size → byte x / 128 ≡ length (backs (x ∷ []))
      sign (forward a) h = omega arith
      sign (back a) h = omega arith

-- one letter more
backs_more : (w : Word) (x : Letter) → length (backs (w ++ (x ∷ []))) ≡ length (backs w) + length (backs (x ∷ []))
backs_more [] x = omega arith
backs_more (forward a ∷ w) x = backs_more w x
backs_more (back a ∷ w) x = omega (arith, backs_more w x)

weigh_more : (cells : List ℕ) (w : Word) (x : Letter) → cells_weigh cells (w ++ (x ∷ [])) ≡ cells_weigh cells w + suc (get_or cells (weight_at (number_of x)) 0)
weigh_more cells [] x = omega arith
weigh_more cells (y ∷ w) x = omega (arith, weigh_more cells w x)

-- a word is forward where it has no back letter
pub no_back : (w : Word) → eqb (length (backs w)) 0 ≡ is_forward w
no_back [] = refl
no_back (forward a ∷ w) = no_back w
no_back (back a ∷ w) = ne_eqb (suc (length (backs w))) 0 (λ e. omega arith)

-- the letters that were passed, where `rest` is left
pub record Passed (image cells : List ℕ) (size count : ℕ) (rest : List ℕ) (turned weight i : ℕ) : Type 0 where
  pub validated : Validated (program size) image count rest i
  pub signs : turned ≡ length (backs validated.done)
  pub weighed : weight ≡ cells_weigh cells validated.done
  pub some : turned ≤ i
  pub light : weight ≤ 8 * i

pub passed_none : (image cells : List ℕ) (size count : ℕ) → FieldAt image 0 count_width count
    → Passed image cells size count (from image count_width) 0 0 0
unfolding validated_none
passed_none image cells size count first =
    record {
      validated = validated_none (program size) image count first;
      signs = refl;
      weighed = refl;
      some = omega arith;
      light = omega arith;
    }

module _ (image cells : List ℕ) (size : ℕ) (T : Presentation) (o : Of cells size T) where
  module _ (rest : List ℕ) (sign number : ℕ) (next : List ℕ) (s : SignedAt rest size sign number next) where
    few : number_of s.letter ≤ most_size
    few = omega (arith, s.named.high, of_few o)

    number_is : number ≡ number_of s.letter
    number_is = omega (arith, s.written, s.number_small, byte_number s.letter few)

    sign_is : sign ≡ length (backs (s.letter ∷ []))
    sign_is = omega (arith, s.written, s.number_small, byte_sign s.letter few)

    pub passed_named : InRange most_size number
    passed_named = record { low = omega (arith, number_is, s.named.low); high = omega (arith, number_is, few) }

    pub passed_light : suc (get_or cells (weight_at number) 0) ≤ 8
    passed_light =
        let named : InRange T.size number =
        record { low = passed_named.low; high = omega (arith, number_is, s.named.high, o.sized) } in
        omega (arith, held_weight cells T o.stands number named, light_letter cells T o.stands number named)

    pub passed_more : (count turned weight i : ℕ) → Passed image cells size count rest turned weight i → i < count
        → Passed image cells size count next (turned + sign) (weight + suc (get_or cells (weight_at number) 0)) (i + 1)
    unfolding validated_more
    passed_more count turned weight i p h =
        record {
          validated = validated_more (program size) image count rest i p.validated s.letter next h s.read;
          signs = omega (arith, p.signs, sign_is, backs_more p.validated.done s.letter);
          weighed =
              ap (λ n. weight + suc (get_or cells (weight_at n) 0)) number_is ∙ omega (arith, p.weighed, weigh_more cells p.validated.done s.letter);
          some = omega (arith, p.some, s.sign_small);
          light = omega (arith, p.light, passed_light);
        }

  -- the cells of a table hold the weights of its letters
  pub cells_weigh_lem : (u : Positive) → Lettered size (positive u) → cells_weigh cells (positive u) ≡ weigh T u
  cells_weigh_lem [] h = refl
  cells_weigh_lem (a ∷ u) h =
      let named : InRange T.size a = record { low = h.0.low; high = omega (arith, h.0.high, o.sized) } in
      omega (arith, held_weight cells T o.stands a named, cells_weigh_lem u h.1)
