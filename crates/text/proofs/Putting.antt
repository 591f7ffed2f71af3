-- Texts appended one after the other.
use mathlib.Core.Path.{◌≡◌, sym, ap, subst, ◌∙◌}
use mathlib.Core.List.{List, [], ◌∷◌, ◌++◌, append_assoc}
use mathlib.Core.Bool.{cond}
use Prim.Native.Nat.{ℕ, ◌+◌, ◌*◌, ◌/◌, ◌%◌, ◌≤◌, ◌<◌}
use native.Mathlib.Omega.{arith}
use borrow.Author.Tests.{lt-ltb, le-ltb}
use lib.ListN.{length, take}
use lib.Seq.{take_all}
use Rattle.model.specs.Enumeration.{concat_map}
use Rattle.text.specs.Put.{Put}
use Rattle.text.specs.Text.{zero_digit, digit}

pub put_wider : {m k at next : ℕ} {before text after : List ℕ} → m ≤ k → Put m before at text after next → Put k before at text after next
put_wider h p = record { near = omega (arith, p.near); same_length = p.same_length; appended = p.appended }

-- the same under other names of the number of bytes and of the text
pub put_as : {m k at next : ℕ} {before text other after : List ℕ} → m ≤ k → text ≡ other → Put m before at text after next → Put k before at other after next
put_as {k = k} {at = at} {next = next} {before = before} {after = after} h e p = subst (λ t. Put k before at t after next) e (put_wider h p)

infixr 10 ◌then◌
pub ◌then◌ : {m k at middle next : ℕ} {before s between t after : List ℕ} → Put m before at s between middle → Put k between middle t after next
    → Put (m + k) before at (s ++ t) after next
◌then◌ {at = at} {before = before} {s = s} {t = t} p q =
    record {
      near = omega (arith, p.near, q.near);
      same_length = q.same_length ∙ p.same_length;
      appended = q.appended ∙ (ap (λ l. l ++ t) p.appended ∙ append_assoc (take at before) s t);
    }

-- a digit, where the number reaches its power and where it does not
pub digit_none : (power x : ℕ) → x < power → [] ≡ digit power x
digit_none power x h = sym (ap (λ b. cond b [] ((zero_digit + (x / power) % 10) ∷ [])) (lt-ltb x power h))

pub digit_some : (power x : ℕ) → power ≤ x → (zero_digit + (x / power) % 10) ∷ [] ≡ digit power x
digit_some power x h = sym (ap (λ b. cond b [] ((zero_digit + (x / power) % 10) ∷ [])) (le-ltb x power h))

-- LOOPS: one text for each byte

module _ (f : ℕ → List ℕ) (k : ℕ) (xs before : List ℕ) (at : ℕ) where
  -- the texts of the first i bytes have been put
  abbrev pub PutFirst : ℕ → List ℕ → ℕ → Type 0
  PutFirst i after next = Put (k * i) before at (concat_map f (take i xs)) after next

  pub first_all : (i : ℕ) → i ≡ length xs → {after : List ℕ} {next : ℕ} → PutFirst i after next → Put (k * length xs) before at (concat_map f xs) after next
  first_all i e p =
      put_as (omega (arith, ap (λ n. k * n) e)) (ap (concat_map f) (take_all i xs (omega arith))) p
