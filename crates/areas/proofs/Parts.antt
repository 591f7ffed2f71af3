-- A part of an area, also one that was lent to a call.
use mathlib.Core.Path.{◌≡◌, sym, ap, ◌∙◌}
use mathlib.Core.List.{List, ◌++◌, append-nil}
use Prim.Native.Nat.{ℕ, ◌+◌, ◌-◌, ◌≤◌}
use native.Mathlib.Omega.{arith}
use borrow.Rule.Slice.PartMut.{put_mid, take_put, Post-is, same_len_mid}
use lib.ListN.{length, take, drop, length-drop, take-append-drop}
use lib.Seq.{drop_at, drop-length, length-take-le}

-- so many bytes from a place on
pub taken_length : (area : List ℕ) (from count : ℕ) → from + count ≤ length area → length (take count (drop from area)) ≡ count
taken_length area from count h = length-take-le count (drop from area) (omega (arith, length-drop from area))

-- what stood before a part that was lent is as it was
pub part_joined : (from k : ℕ) (xs ys : List ℕ) → from ≤ length xs → put_mid from k xs ys ≡ take from xs ++ drop from (put_mid from k xs ys)
part_joined from k xs ys inside =
    sym (take-append-drop from (put_mid from k xs ys)) ∙ ap (λ l. l ++ drop from (put_mid from k xs ys)) (take_put from k xs ys inside)

-- a part from `kept` on that was lent and is back
module _ (kept : ℕ) (xs ys : List ℕ) (inside : kept ≤ length xs) where
  pub part_front : take kept (put_mid kept (length xs - kept) xs ys) ≡ take kept xs
  part_front = take_put kept (length xs - kept) xs ys inside

  pub part_back : put_mid kept (length xs - kept) xs ys ≡ take kept xs ++ ys
  part_back = ap (λ l. take kept xs ++ l) (ap (λ l. ys ++ l) (Post-is kept (length xs) xs inside ∙ drop-length xs) ∙ append-nil ys)

  pub part_end : drop kept (put_mid kept (length xs - kept) xs ys) ≡ ys
  part_end = ap (drop kept) part_back ∙ drop_at (take kept xs) ys kept (length-take-le kept xs inside)

  pub part_length : length ys ≡ length (take (length xs - kept) (drop kept xs)) → length (put_mid kept (length xs - kept) xs ys) ≡ length xs
  part_length n = same_len_mid kept (length xs - kept) xs ys n
