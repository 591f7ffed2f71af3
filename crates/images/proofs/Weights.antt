-- Reading the weights of a table into their places: those read so far, and what is left. The laws are for any reader of a weight.
use mathlib.Core.Path.{◌≡◌, refl, sym, ap, ◌∙◌}
use mathlib.Core.List.{List, [], ◌∷◌, ◌++◌}
use Prim.Native.Nat.{ℕ, suc, ◌+◌, ◌-◌, ◌^◌, ◌≤◌, ◌<◌}
use native.Mathlib.Omega.{arith}
use lib.ListN.{length, get_or, set, length-append, length-set}
use lib.Seq.{get_or-set_same, get_or-set_other}
use Rattle.model.specs.Outcome.{unplaced, Outcome, answered, refused}
use Rattle.model.specs.Bits.{Read}
use Rattle.model.specs.Images.{weight_width, several, most_size}
use Rattle.model.specs.Range.{InRange}
use Rattle.cells.specs.Layout.{cell_at, weight_at, cell_bytes}
use Rattle.images.specs.Tables.{WeightsFrom}
use Rattle.images.proofs.Several.{after, after_none, several_step, several_refused, several_done}
use Rattle.images.proofs.Rows.{one_more}

pub record WeightsFilled (reader : List ℕ → Outcome (Read ℕ)) (begin : List ℕ) (size : ℕ) (before cells rest : List ℕ) (a : ℕ) : Type 0 where
  pub positive : 1 ≤ a
  pub some_left : a ≤ size + 1
  pub same_length : length cells ≡ length before
  pub done : List ℕ
  pub done_length : 1 + length done ≡ a
  pub resumed : several reader size begin ≡ after done (several reader (size + 1 - a) rest)
  pub holds : (k : ℕ) → k < length done → get_or cells (weight_at (1 + k)) 0 ≡ get_or done k 0
  pub light : (k : ℕ) → k < length done → get_or done k 0 < 2 ^ weight_width
  pub kept : (p : ℕ) → InRange most_size p → get_or cells (cell_at p p) 0 ≡ get_or before (cell_at p p) 0

module _ (reader : List ℕ → Outcome (Read ℕ)) (begin : List ℕ) (size : ℕ) (few : size ≤ most_size) (before : List ℕ) (full : length before ≡ cell_bytes) where
  pub weights_none : WeightsFilled reader begin size before before begin 1
  weights_none =
      record {
        positive = omega arith;
        some_left = omega arith;
        same_length = refl;
        done = [];
        done_length = refl;
        resumed = sym (after_none (several reader (size + 1 - 1) begin) ∙ ap (λ k. several reader k begin) {x = size + 1 - 1} {y = size} (omega arith));
        holds = λ k h. absurd (omega arith);
        light = λ k h. absurd (omega arith);
        kept = λ p l. refl;
      }

  module _ (cells rest : List ℕ) (a : ℕ) (f : WeightsFilled reader begin size before cells rest a) where
    left : a ≤ size → size + 1 - a ≡ suc (size + 1 - (a + 1))
    left h = omega arith

    -- the place of the next weight
    pub place_inside : a ≤ size → weight_at a < length cells
    place_inside h = omega (arith, f.same_length, f.positive)

    pub weights_more : a ≤ size → (v : ℕ) (rest' : List ℕ) → v < 2 ^ weight_width
        → reader rest ≡ answered (record { value = v; rest = rest' })
        → WeightsFilled reader begin size before (set cells (weight_at a) v) rest' (a + 1)
    weights_more h v rest' small e =
        let n : 1 + length f.done ≡ a = f.done_length in
        record {
          positive = omega arith;
          some_left = omega arith;
          same_length = length-set cells (weight_at a) v ∙ f.same_length;
          done = f.done ++ (v ∷ []);
          done_length = omega (arith, length-append f.done (v ∷ []));
          resumed =
              f.resumed
              ∙ (ap (λ k. after f.done (several reader k rest)) (left h)
              ∙ several_step reader f.done (size + 1 - (a + 1)) rest (record { value = v; rest = rest' }) e);
          holds =
              one_more (λ k w. get_or (set cells (weight_at a) v) (weight_at (1 + k)) 0 ≡ w) f.done v 0
              (λ k l. get_or-set_other cells (weight_at a) (weight_at (1 + k)) v 0 (λ e. omega arith) ∙ f.holds k l)
              (ap (λ i. get_or (set cells (weight_at a) v) (weight_at i) 0) n ∙ get_or-set_same cells (weight_at a) v 0 (place_inside h));
          light = one_more (λ k w. w < 2 ^ weight_width) f.done v 0 f.light small;
          kept = λ p l. get_or-set_other cells (weight_at a) (cell_at p p) v 0 (λ e. omega (arith, l.low, f.positive)) ∙ f.kept p l;
        }

    pub weight_refused : (n : ℕ) → a ≤ size → reader rest ≡ refused n unplaced → several reader size begin ≡ refused n unplaced
    weight_refused n h e =
        f.resumed
        ∙ (ap (λ k. after f.done (several reader k rest)) (left h)
        ∙ several_refused reader f.done (size + 1 - (a + 1)) rest n unplaced e)

    pub weights_answered : size < a → WeightsFrom reader size before cells begin rest
    weights_answered h =
        record {
          excess = f.done;
          read =
              f.resumed
              ∙ (ap (λ k. after f.done (several reader k rest)) {x = size + 1 - a} {y = 0} (omega arith)
              ∙ several_done reader f.done rest);
          holds = record { many = omega (arith, f.done_length, f.some_left); holds = f.holds; light = f.light };
          kept = f.kept;
        }
