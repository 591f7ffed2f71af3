-- Laws of signed words: inverses of positive words, and where the leftmost site is. A word without a site is N followed by the inverse of D,
-- in one way: specification 3.3, and [D1] section 1 on R-irreducible words.
use mathlib.Core.Path.{◌≡◌, refl, sym, ap, ◌∙◌}
use mathlib.Core.List.{List, [], ◌∷◌, ◌++◌, map, reverse, append-nil, reverse-cons, reverse-append, reverse-reverse, map-append}
use Prim.Native.Nat.{ℕ, suc, ◌-◌, ◌<◌}
use native.Mathlib.Omega.{arith}
use native.Mathlib.Decide.{dec_lt}
use lib.ListN.{length, get_or, length-reverse, get_or-append}
use lib.Seq.{get_or-append_seam}
use Rattle.model.specs.Word.{Letter, forward, back, Word, Positive, flip, positive, negative, forwards, backs}
use Rattle.model.specs.Plain.{plain_program}
use Rattle.model.specs.Reversing.{Site, nowhere, at, beyond, site_after, site}
use Rattle.model.proofs.Impossible.{impossible}

-- SIGNS APART, AND LETTERS FROM THE END

pub forwards_append : (v w : Word) → forwards (v ++ w) ≡ forwards v ++ forwards w
forwards_append [] w = refl
forwards_append (forward a ∷ v) w = ap (λ u. a ∷ u) (forwards_append v w)
forwards_append (back a ∷ v) w = forwards_append v w

pub backs_append : (v w : Word) → backs (v ++ w) ≡ backs v ++ backs w
backs_append [] w = refl
backs_append (forward a ∷ v) w = backs_append v w
backs_append (back a ∷ v) w = ap (λ u. a ∷ u) (backs_append v w)

pub map_reverse : {A B : Type 0} (h : A → B) (l : List A) → map h (reverse l) ≡ reverse (map h l)
map_reverse h [] = refl
map_reverse h (x ∷ l) =
    ap (map h) (reverse-cons x l) ∙ (map-append h (reverse l) (x ∷ []) ∙ (ap (λ m. m ++ (h x ∷ [])) (map_reverse h l) ∙ sym (reverse-cons (h x) (map h l))))

-- a letter from the end
pub reverse_at : {A : Type 0} (l : List A) (k : ℕ) (d : A) → k < length l → get_or (reverse l) k d ≡ get_or l (length l - 1 - k) d
reverse_at [] k d h = absurd (omega arith)
reverse_at (x ∷ l) k d h = ap (λ v. get_or v k d) (reverse-cons x l) ∙ go (dec_lt k (length l)) (reverse_at l k d)
  where
    go : Dec (k < length l) → (k < length l → get_or (reverse l) k d ≡ get_or l (length l - 1 - k) d)
        → get_or (reverse l ++ (x ∷ [])) k d ≡ get_or (x ∷ l) (suc (length l) - 1 - k) d
    go (yes i) known =
        let e : suc (length l) - 1 - k ≡ suc (length l - 1 - k) = omega arith in
        get_or-append (reverse l) (x ∷ []) d k (omega (arith, length-reverse l)) ∙ (known i ∙ ap (λ j. get_or (x ∷ l) j d) (sym e))
    go (no i) known =
        let e : k ≡ length (reverse l) = omega (arith, length-reverse l) in
        let f : suc (length l) - 1 - k ≡ 0 = omega arith in
        ap (λ j. get_or (reverse l ++ (x ∷ [])) j d) e ∙ (get_or-append_seam (reverse l) x [] d ∙ ap (λ j. get_or (x ∷ l) j d) (sym f))

-- INVERSES

pub negative_cons : (a : ℕ) (u : Positive) → negative (a ∷ u) ≡ negative u ++ (back a ∷ [])
negative_cons a u = reverse-cons (back a) (map flip (positive u))

pub positive_append : (u v : Positive) → positive (u ++ v) ≡ positive u ++ positive v
positive_append u v = map-append forward u v

pub negative_append : (u v : Positive) → negative (u ++ v) ≡ negative v ++ negative u
negative_append u v =
    ap (λ w. reverse (map flip w)) (positive_append u v)
    ∙ (ap reverse (map-append flip (positive u) (positive v)) ∙ reverse-append (map flip (positive u)) (map flip (positive v)))

-- an inverse by its letters in the order in which they stand
negative_letters : (u : Positive) → negative u ≡ map back (reverse u)
negative_letters [] = refl
negative_letters (a ∷ u) =
    negative_cons a u
    ∙ (ap (λ w. w ++ (back a ∷ [])) (negative_letters u)
    ∙ (sym (map-append back (reverse u) (a ∷ [])) ∙ ap (map back) (sym (reverse-cons a u))))

-- the letters of a fraction
forwards_back : (l : Positive) → forwards (map back l) ≡ []
forwards_back [] = refl
forwards_back (a ∷ l) = forwards_back l

backs_back : (l : Positive) → backs (map back l) ≡ l
backs_back [] = refl
backs_back (a ∷ l) = ap (λ m. a ∷ m) (backs_back l)

forwards_after : (n : Positive) (w : Word) → forwards (positive n ++ w) ≡ n ++ forwards w
forwards_after [] w = refl
forwards_after (a ∷ n) w = ap (λ m. a ∷ m) (forwards_after n w)

backs_after : (n : Positive) (w : Word) → backs (positive n ++ w) ≡ backs w
backs_after [] w = refl
backs_after (a ∷ n) w = backs_after n w

-- its numerator and denominator read off
pub numerator_of : (n d : Positive) → forwards (positive n ++ negative d) ≡ n
numerator_of n d =
    forwards_after n (negative d)
    ∙ (ap (λ m. n ++ forwards m) (negative_letters d) ∙ (ap (λ m. n ++ m) (forwards_back (reverse d)) ∙ append-nil n))

pub denominator_of : (n d : Positive) → reverse (backs (positive n ++ negative d)) ≡ d
denominator_of n d =
    ap reverse (backs_after n (negative d) ∙ (ap backs (negative_letters d) ∙ backs_back (reverse d))) ∙ reverse-reverse d

-- so a word is a fraction in one way
pub fraction_injective : (n d n' d' : Positive) → positive n ++ negative d ≡ positive n' ++ negative d' → (n ≡ n') × (d ≡ d')
fraction_injective n d n' d' e = (
  sym (numerator_of n d) ∙ (ap forwards e ∙ numerator_of n' d'),
  sym (denominator_of n d) ∙ (ap (λ w. reverse (backs w)) e ∙ denominator_of n' d'),
)

-- SITES

pub beyond_nowhere : (x : Letter) (t : Site) → beyond x t ≡ nowhere → t ≡ nowhere
beyond_nowhere x nowhere e = refl
beyond_nowhere x (at p a b s) e = impossible (cc)

pub beyond_at : (x : Letter) (t : Site) {p s : Word} {a b : ℕ} → beyond x t ≡ at p a b s → (q : Word) × (t ≡ at q a b s) × (p ≡ x ∷ q)
beyond_at x nowhere e = impossible (cc)
beyond_at x (at q a b s) e = (q, cc, cc)

-- no site stands in a positive word before an inverse
back_nowhere : (a : ℕ) (l : Positive) → site_after a (map back l) ≡ nowhere
back_nowhere a [] = refl
back_nowhere a (b ∷ l) = ap (beyond (back a)) (back_nowhere b l)

letters_nowhere : (n l : Positive) → site (positive n ++ map back l) ≡ nowhere
letters_nowhere [] [] = refl
letters_nowhere [] (a ∷ l) = back_nowhere a l
letters_nowhere (a ∷ n) l = ap (beyond (forward a)) (letters_nowhere n l)

pub fraction_nowhere : (n d : Positive) → site (positive n ++ negative d) ≡ nowhere
fraction_nowhere n d = ap (λ w. site (positive n ++ w)) (negative_letters d) ∙ letters_nowhere n (reverse d)

-- and the leftmost site after such words is where the next back letter meets a forward one
back_at : (c : ℕ) (l : Positive) (a b : ℕ) (s : Word) → site_after c (map back l ++ (back a ∷ forward b ∷ s)) ≡ at (back c ∷ map back l) a b s
back_at c [] a b s = refl
back_at c (e ∷ l) a b s = ap (beyond (back c)) (back_at e l a b s)

letters_at : (n l : Positive) (a b : ℕ) (s : Word) → site (positive n ++ (map back l ++ (back a ∷ forward b ∷ s))) ≡ at (positive n ++ map back l) a b s
letters_at [] [] a b s = refl
letters_at [] (c ∷ l) a b s = back_at c l a b s
letters_at (c ∷ n) l a b s = ap (beyond (forward c)) (letters_at n l a b s)

pub fraction_at : (n d : Positive) (a b : ℕ) (s : Word)
    → site (positive n ++ (negative d ++ (back a ∷ forward b ∷ s))) ≡ at (positive n ++ negative d) a b s
fraction_at n d a b s = rw negative_letters (letters_at n (reverse d) a b s)

-- a word at its leftmost site
after_split : (c : ℕ) (w : Word) {p s : Word} {a b : ℕ} → site_after c w ≡ at p a b s → back c ∷ w ≡ p ++ (back a ∷ forward b ∷ s)
after_split c [] e = impossible (cc)
after_split c (forward b ∷ w) e = cc
after_split c (back b ∷ w) {p} {s} {a} {b = b'} e =
    let r = beyond_at (back c) (site_after b w) e in
    ap (λ v. back c ∷ v) (after_split b w r.1) ∙ ap (λ v. v ++ (back a ∷ forward b' ∷ s)) (sym r.2)

pub site_split : (w : Word) {p s : Word} {a b : ℕ} → site w ≡ at p a b s → w ≡ p ++ (back a ∷ forward b ∷ s)
site_split [] e = impossible (cc)
site_split (forward c ∷ w) {p} {s} {a} {b} e =
    let r = beyond_at (forward c) (site w) e in
    ap (λ v. forward c ∷ v) (site_split w r.1) ∙ ap (λ v. v ++ (back a ∷ forward b ∷ s)) (sym r.2)
site_split (back c ∷ w) e = after_split c w e

-- a word without a site is a fraction
after_fraction : (c : ℕ) (w : Word) → site_after c w ≡ nowhere → (forwards w ≡ []) × (w ≡ map back (backs w))
after_fraction c [] e = (refl, refl)
after_fraction c (forward b ∷ w) e = impossible (cc)
after_fraction c (back b ∷ w) e =
    let r = after_fraction b w (beyond_nowhere (back c) (site_after b w) e) in
    (r.0, ap (λ v. back b ∷ v) r.1)

letters_fraction : (w : Word) → site w ≡ nowhere → w ≡ positive (forwards w) ++ map back (backs w)
letters_fraction [] e = refl
letters_fraction (forward a ∷ w) e = ap (λ v. forward a ∷ v) (letters_fraction w (beyond_nowhere (forward a) (site w) e))
letters_fraction (back a ∷ w) e =
    let r = after_fraction a w e in
    ap (λ v. back a ∷ v) r.1 ∙ ap (λ n. positive n ++ (back a ∷ map back (backs w))) (sym r.0)

pub site_fraction : (w : Word) → site w ≡ nowhere → w ≡ positive (forwards w) ++ negative (reverse (backs w))
site_fraction w e =
    letters_fraction w e
    ∙ ap (λ v. positive (forwards w) ++ v) (ap (map back) (sym (reverse-reverse (backs w))) ∙ sym (negative_letters (reverse (backs w))))

-- the bytes of a forward program are its numbers
pub plain_positive : (u : Positive) → plain_program (positive u) ≡ u
plain_positive [] = refl
plain_positive (a ∷ u) = ap (λ l. a ∷ l) (plain_positive u)
