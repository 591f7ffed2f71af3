-- A total in two bytes, and the totals written one after the other.
use mathlib.Core.Path.{◌≡◌, refl, sym, ap, ap₂, ◌∙◌}
use mathlib.Core.List.{List, [], ◌∷◌, ◌++◌, append_assoc, append-nil}
use Prim.Native.Nat.{ℕ, suc, ◌+◌, ◌*◌, ◌-◌, ◌/◌, ◌%◌, ◌≤◌, ◌<◌}
use native.Mathlib.Omega.{arith}
use lib.ListN.{length, take, drop, get_or, set, length-append, length-drop}
use lib.Seq.{sets-eq, take-suc, length-take-le, take-append_seam, drop-append_seam, drop-append-add, drop-drop, drop-length, take_all, take_at}
use lib.IntN.{ℤ, pos, negsuc}
use mir.Syntax.{w16}
use mir.Val.{SFits, of_z}
use borrow.Rule.Slice.PartMut.{put_mid}
use Rattle.std.specs.Int.{to_be_bytes}
use Rattle.model.specs.Enumeration.{concat_map}
use Rattle.model.specs.Areas.{written, begins}
use Rattle.model.specs.Bed.{total_bytes}

-- a number's bytes, the high one first
high_first : (n : ℕ) → n < 65536 → to_be_bytes w16 n ≡ (n / 256) ∷ (n % 256) ∷ []
high_first n h = ap (λ x. x ∷ (n % 256) ∷ []) {x = n / 256 % 256} {y = n / 256} (omega arith)

pub two_bytes : (z : ℤ) → SFits w16 z → to_be_bytes w16 (of_z w16 z) ≡ total_bytes z
two_bytes (pos a) f = high_first a (omega (arith, f.sfits))
two_bytes (negsuc a) f =
    let e : 65536 - suc a ≡ 65535 - a = omega arith in
    high_first (65536 - suc a) (omega arith) ∙ ap (λ n. (n / 256) ∷ (n % 256) ∷ []) e

pub bytes_length : (s : List ℤ) → length (concat_map total_bytes s) ≡ 2 * length s
bytes_length [] = refl
bytes_length (x ∷ s) = omega (arith, bytes_length s)

bytes_append : (s t : List ℤ) → concat_map total_bytes (s ++ t) ≡ concat_map total_bytes s ++ concat_map total_bytes t
bytes_append [] t = refl
bytes_append (x ∷ s) t = ap (λ l. total_bytes x ++ l) (bytes_append s t)

-- bytes put behind those that an area begins with
behind : (bs more old mid : List ℕ) → mid ≡ begins bs old → written mid (length bs) more ≡ begins (bs ++ more) old
behind bs more old mid e =
    let n = length bs in
    ap (λ m. take n m ++ (more ++ drop (n + length more) m)) e
    ∙ (ap (λ l. l ++ (more ++ drop (n + length more) (bs ++ drop n old))) (take-append_seam bs (drop n old))
    ∙ (ap (λ l. bs ++ (more ++ l)) (drop-append-add bs (drop n old) (length more) ∙ drop-drop (length more) n old)
    ∙ (sym (append_assoc bs more (drop (n + length more) old))
    ∙ ap (λ k. (bs ++ more) ++ drop k old) (sym (length-append bs more)))))

-- two bytes written one after the other
two_written : (xs : List ℕ) (at x y : ℕ) → at + 2 ≤ length xs → set (set xs at x) (at + 1) y ≡ written xs at (x ∷ y ∷ [])
two_written xs at x y h = ap (λ i. set (set xs at x) i y) {x = at + 1} {y = suc at} (omega arith)
    ∙ (sets-eq (x ∷ y ∷ []) xs at h ∙ append_assoc (take at xs) (x ∷ y ∷ []) (drop (at + 2) xs))

-- one total more
pub total_put : (old : List ℕ) (ts : List ℤ) (k : ℕ) → k < length ts → 2 * length ts ≤ length old → (area bytes : List ℕ)
    → area ≡ begins (concat_map total_bytes (take k ts)) old → bytes ≡ total_bytes (get_or ts k (pos 0))
    → set (set area (2 * k) (get_or bytes 0 0)) (2 * k + 1) (get_or bytes 1 0) ≡ begins (concat_map total_bytes (take (k + 1) ts)) old
total_put old ts k more room area bytes e two =
    let done = concat_map total_bytes (take k ts) in
    let z = get_or ts k (pos 0) in
    let n : length (concat_map total_bytes (take k ts)) ≡ 2 * k = omega (arith, bytes_length (take k ts), length-take-le k ts (omega arith)) in
    let long : length area ≡ length (concat_map total_bytes (take k ts)) + length (drop (length (concat_map total_bytes (take k ts))) old) =
    ap length e ∙ length-append done (drop (length done) old) in
    ap (λ b. set (set area (2 * k) (get_or b 0 0)) (2 * k + 1) (get_or b 1 0)) two
    ∙ (two_written area (2 * k) _ _ (omega (arith, long, n, length-drop (length (concat_map total_bytes (take k ts))) old))
    ∙ (ap (λ m. written area m (total_bytes z)) (sym n)
    ∙ (behind done (total_bytes z) old area e
    ∙ ap (λ l. begins l old)
    (sym (bytes_append (take k ts) (z ∷ []))
    ∙ ap (concat_map total_bytes) (sym (take-suc ts k (pos 0) more) ∙ ap (λ m. take m ts) {x = suc k} {y = k + 1} (omega arith))))))

behind_put : (bs bytes old part : List ℕ) (n : ℕ) → length bs ≡ n
    → part ≡ begins bytes (take (length (bs ++ drop n old) - n) (drop n (bs ++ drop n old)))
    → put_mid n (length (bs ++ drop n old) - n) (bs ++ drop n old) part ≡ begins (bs ++ bytes) old
behind_put bs bytes old part n e p =
    let rest = drop n old in
    let back : drop n (bs ++ drop n old) ≡ drop n old = ap (λ m. drop m (bs ++ rest)) (sym e) ∙ drop-append_seam bs rest in
    let size : length (bs ++ drop n old) - n ≡ length (drop n old) = omega (arith, length-append bs rest, e) in
    let whole : part ≡ begins bytes (drop n old) = p ∙ ap (begins bytes) (ap₂ take size back ∙ take_all (length rest) rest (omega arith)) in
    let none : drop (length (bs ++ drop n old) - n) (drop n (bs ++ drop n old)) ≡ [] = ap₂ drop size back ∙ drop-length rest in
    ap₂ (λ l r. l ++ (part ++ r)) (take_at bs rest n e) none
    ∙ (ap (λ l. bs ++ l) (append-nil part ∙ whole)
    ∙ (ap (λ m. bs ++ (bytes ++ drop (length bytes) (drop m old))) (sym e)
    ∙ (ap (λ l. bs ++ (bytes ++ l)) (drop-drop (length bytes) (length bs) old)
    ∙ (sym (append_assoc bs bytes (drop (length bs + length bytes) old)) ∙ ap (λ k. (bs ++ bytes) ++ drop k old) (sym (length-append bs bytes))))))

-- an area's first bytes, and behind them what is written to its end
pub end_put : (bs bytes old part : List ℕ) (n : ℕ) (mid : List ℕ) → length bs ≡ n → mid ≡ bs ++ drop n old
    → part ≡ begins bytes (take (length mid - n) (drop n mid)) → put_mid n (length mid - n) mid part ≡ begins (bs ++ bytes) old
end_put bs bytes old part n mid e c p =
    ap (λ m. put_mid n (length m - n) m part) c ∙ behind_put bs bytes old part n e (p ∙ ap (λ m. begins bytes (take (length m - n) (drop n m))) c)
