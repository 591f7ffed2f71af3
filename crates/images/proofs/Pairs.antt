-- What a pair of a table begins with: its mark, or its words.
use mathlib.Core.Path.{◌≡◌, ap, ◌∙◌}
use mathlib.Core.Bool.{cond}
use mathlib.Core.List.{List}
use Prim.Native.Nat.{ℕ}
use borrow.Author.Tests.{eq-eqb, ne_eqb}
use lib.Dec.{eqb}
use Rattle.model.specs.Presentation.{Complement, undefined}
use Rattle.model.specs.Outcome.{unplaced, Outcome, answered, refused, ◌>>=◌}
use Rattle.model.specs.Bits.{Read, field}
use Rattle.images.specs.Forms.{words_in, pair_in}
use Rattle.images.specs.declared.forms.Form.{Form}

module _ (f : Form) (size : ℕ) (bits : List ℕ) where
  -- the words of a pair behind what was read for its mark
  defined : List ℕ → Outcome (Read Complement)
  defined rest = words_in f size (cond (eqb f.heads 0) bits rest)

  pair_of : Outcome (Read ℕ) → Outcome (Read Complement)
  unfolding defined
  pair_of o = o >>= λ m. cond (eqb m.value f.mark) (answered (record { value = undefined; rest = m.rest })) (defined m.rest)

  pub mark_ends : field 1 f.opens bits ≡ refused 1 unplaced → pair_in f size bits ≡ refused 1 unplaced
  unfolding pair_of defined
  mark_ends e = ap pair_of e

  module _ (v : ℕ) (rest : List ℕ) (e : field 1 f.opens bits ≡ answered (record { value = v; rest = rest })) where
    pub pair_undefined : v ≡ f.mark → pair_in f size bits ≡ answered (record { value = undefined; rest = rest })
    unfolding pair_of defined
    pair_undefined m = ap pair_of e ∙ ap (λ t. cond t (answered (record { value = undefined; rest = rest })) (defined rest)) (eq-eqb v f.mark m)

    pair_defined : (v ≡ f.mark → ⊥) → pair_in f size bits ≡ defined rest
    unfolding pair_of
    pair_defined m = ap pair_of e ∙ ap (λ t. cond t (answered (record { value = undefined; rest = rest })) (defined rest)) (ne_eqb v f.mark m)

    pub words_first : (v ≡ f.mark → ⊥) → f.heads ≡ 0 → pair_in f size bits ≡ words_in f size bits
    unfolding defined
    words_first m h = pair_defined m ∙ ap (λ t. words_in f size (cond t bits rest)) (eq-eqb f.heads 0 h)

    pub words_behind : (v ≡ f.mark → ⊥) → (f.heads ≡ 0 → ⊥) → pair_in f size bits ≡ words_in f size rest
    unfolding defined
    words_behind m h = pair_defined m ∙ ap (λ t. words_in f size (cond t bits rest)) (ne_eqb f.heads 0 h)
