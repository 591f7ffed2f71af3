-- Left reversing is right reversing of the word read backward, under the mirror: the sites correspond, the words after a step correspond, and so
-- the four endings do (specification 3.8).
-- From the mirror's completions (model/proofs/Mirrors.antt), and the definitions.
-- Main names: `sites_correspond`, `steps_correspond`, `left_is_right`.
use mathlib.Core.Path.{◌≡◌, refl, sym, ap, ap₂, ◌∙◌}
use mathlib.Core.List.{[], ◌∷◌, ◌++◌, map, reverse, append_assoc, append-nil, reverse-cons, reverse-append, reverse-reverse}
use mathlib.Core.Bool.{Bool, true, false, cond}
use Prim.Native.Nat.{ℕ, zero, suc}
use lib.Dec.{ltb}
use lib.ListN.{length, length-reverse}
use Rattle.model.specs.Word.{Letter, forward, back, Word, Positive, flip, positive, negative, forwards, backs}
use Rattle.model.specs.Presentation.{Presentation, Complement, undefined, complement, swapped}
use Rattle.model.specs.Reversing.{Site, nowhere, at, beyond, site_after, site, replaced, Next, no_site, blocked, step, by_complement, by_site, next, Ending}
use Rattle.model.specs.Reversing.{finished, stopped, no_room, ended, count, spent, onward, run, reversing}
use Rattle.model.specs.Mirror.{backward, mirror, left_of, left_site, left_complete, left_replaced, left_by_complement, left_by_site, left_next, left_run}
use Rattle.model.specs.Mirror.{left_reversing}
use Rattle.model.proofs.Words.{beyond_at, beyond_nowhere, forwards_append, backs_append, map_reverse}
use Rattle.model.proofs.Mirrors.{mirror_complete}
use Rattle.model.proofs.Impossible.{impossible}
use Rattle.theory.specs.Mirrors.{read_backward, LeftIsRight}

-- the site read backward
abbrev turned : Site → Site
turned nowhere = nowhere
turned (at p a b s) = at (reverse s) b a (reverse p)

-- A WORD MORE AT THE END

more_after : (c : ℕ) (v t : Word) {p s : Word} {a b : ℕ} → site_after c v ≡ at p a b s → site_after c (v ++ t) ≡ at p a b (s ++ t)
more_after c [] t e = impossible (cc)
more_after c (forward b ∷ v) t e = cc
more_after c (back b ∷ v) t {p} {s} {a} {b = b'} e =
    let r = beyond_at (back c) (site_after b v) e in
    ap (beyond (back c)) (more_after b v t r.1) ∙ ap (λ p. at p a b' (s ++ t)) (sym r.2)

more : (v t : Word) {p s : Word} {a b : ℕ} → site v ≡ at p a b s → site (v ++ t) ≡ at p a b (s ++ t)
more [] t e = impossible (cc)
more (forward c ∷ v) t {p} {s} {a} {b} e =
    let r = beyond_at (forward c) (site v) e in
    ap (beyond (forward c)) (more v t r.1) ∙ ap (λ p. at p a b (s ++ t)) (sym r.2)
more (back c ∷ v) t e = more_after c v t e

-- a back letter more, where there is no site
quiet_after : (c : ℕ) (v : Word) (x : ℕ) → site_after c v ≡ nowhere → site_after c (v ++ (back x ∷ [])) ≡ nowhere
quiet_after c [] x e = refl
quiet_after c (forward b ∷ v) x e = impossible (cc)
quiet_after c (back b ∷ v) x e = ap (beyond (back c)) (quiet_after b v x (beyond_nowhere (back c) (site_after b v) e))

quiet : (v : Word) (x : ℕ) → site v ≡ nowhere → site (v ++ (back x ∷ [])) ≡ nowhere
quiet [] x e = refl
quiet (forward c ∷ v) x e = ap (beyond (forward c)) (quiet v x (beyond_nowhere (forward c) (site v) e))
quiet (back c ∷ v) x e = quiet_after c v x e

-- a forward letter more, after a back one
meets_after : (c : ℕ) (v : Word) (b a : ℕ) → site_after c (v ++ (back b ∷ [])) ≡ nowhere
    → site_after c ((v ++ (back b ∷ [])) ++ (forward a ∷ [])) ≡ at (back c ∷ v) b a []
meets_after c [] b a e = refl
meets_after c (forward d ∷ v) b a e = impossible (cc)
meets_after c (back d ∷ v) b a e = ap (beyond (back c)) (meets_after d v b a (beyond_nowhere (back c) (site_after d (v ++ (back b ∷ []))) e))

meets : (v : Word) (b a : ℕ) → site (v ++ (back b ∷ [])) ≡ nowhere → site ((v ++ (back b ∷ [])) ++ (forward a ∷ [])) ≡ at v b a []
meets [] b a e = refl
meets (forward c ∷ v) b a e = ap (beyond (forward c)) (meets v b a (beyond_nowhere (forward c) (site (v ++ (back b ∷ []))) e))
meets (back c ∷ v) b a e = meets_after c v b a e

-- and after a forward one
never_after : (c : ℕ) (v : Word) (b : ℕ) → site_after c (v ++ (forward b ∷ [])) ≡ nowhere → ⊥
never_after c [] b e = impossible (cc)
never_after c (forward d ∷ v) b e = impossible (cc)
never_after c (back d ∷ v) b e = never_after d v b (beyond_nowhere (back c) (site_after d (v ++ (forward b ∷ []))) e)

passes : (v : Word) (b a : ℕ) → site (v ++ (forward b ∷ [])) ≡ nowhere → site ((v ++ (forward b ∷ [])) ++ (forward a ∷ [])) ≡ nowhere
passes [] b a e = refl
passes (forward c ∷ v) b a e = ap (beyond (forward c)) (passes v b a (beyond_nowhere (forward c) (site (v ++ (forward b ∷ []))) e))
passes (back c ∷ v) b a e = absurd (never_after c v b e)

-- THE SITES CORRESPOND

one_more : (x : Letter) (w : Word) (o : Site) → left_site w ≡ o → site (reverse w) ≡ turned o → site (reverse w ++ (x ∷ [])) ≡ turned (left_of x w o)
one_more x w (at p a b s) e h = more (reverse w) (x ∷ []) h ∙ ap (at (reverse s) b a) (sym (reverse-cons x p))
one_more (back c) w nowhere e h = quiet (reverse w) c h
one_more (forward a) [] nowhere e h = refl
one_more (forward a) (back b ∷ s) nowhere e h =
    ap (λ v. site (v ++ (forward a ∷ []))) (reverse-cons (back b) s) ∙ meets (reverse s) b a (ap site (sym (reverse-cons (back b) s)) ∙ h)
one_more (forward a) (forward b ∷ s) nowhere e h =
    ap (λ v. site (v ++ (forward a ∷ []))) (reverse-cons (forward b) s) ∙ passes (reverse s) b a (ap site (sym (reverse-cons (forward b) s)) ∙ h)

sites_correspond : (w : Word) → site (reverse w) ≡ turned (left_site w)
sites_correspond [] = refl
sites_correspond (x ∷ w) = ap site (reverse-cons x w) ∙ one_more x w (left_site w) refl (sites_correspond w)

-- THE WORDS AFTER A STEP CORRESPOND

positive_backward : (v : Positive) → reverse (positive v) ≡ positive (reverse v)
positive_backward v = sym (map_reverse forward v)

negative_backward : (u : Positive) → reverse (negative u) ≡ negative (reverse u)
negative_backward u =
    reverse-reverse (map flip (positive u))
    ∙ (sym (reverse-reverse (map flip (positive u)))
    ∙ (ap reverse (sym (map_reverse flip (positive u))) ∙ ap (λ w. reverse (map flip w)) (positive_backward u)))

steps_correspond : (p : Word) (u v : Positive) (s : Word)
    → reverse (left_replaced p u v s) ≡ replaced (reverse s) (reverse v) (reverse u) (reverse p)
steps_correspond p u v s =
    reverse-append p (negative u ++ (positive v ++ s))
    ∙ (ap (λ w. w ++ reverse p) (reverse-append (negative u) (positive v ++ s) ∙ ap (λ w. w ++ reverse (negative u)) (reverse-append (positive v) s))
    ∙ (ap₂ (λ x y. ((reverse s ++ x) ++ y) ++ reverse p) (positive_backward v) (negative_backward u)
    ∙ (append_assoc (reverse s ++ positive (reverse v)) (negative (reverse u)) (reverse p)
    ∙ append_assoc (reverse s) (positive (reverse v)) (negative (reverse u) ++ reverse p))))

-- THE NEXT WORD

abbrev next_backward : Next → Next
next_backward no_site = no_site
next_backward (blocked a b) = blocked a b
next_backward (step a b w) = step a b (reverse w)

by_complement_lem : (p : Word) (a b : ℕ) (s : Word) (c : Complement)
    → by_complement (reverse s) b a (reverse p) (backward (swapped c)) ≡ next_backward (left_by_complement p a b s c)
by_complement_lem p a b s undefined = refl
by_complement_lem p a b s (complement u v) = ap (step b a) (sym (steps_correspond p u v s))

module _ (T : Presentation) where
  by_site_lem : (o : Site) → by_site (mirror T) (turned o) ≡ next_backward (left_by_site T o)
  by_site_lem nowhere = refl
  by_site_lem (at p a b s) = ap (by_complement (reverse s) b a (reverse p)) (mirror_complete T a b) ∙ by_complement_lem p a b s (left_complete T a b)

  next_backward_lem : (w : Word) → next (mirror T) (reverse w) ≡ next_backward (left_next T w)
  unfolding next left_next
  next_backward_lem w = ap (by_site (mirror T)) (sites_correspond w) ∙ by_site_lem (left_site w)

-- THE ENDINGS

forwards_backward : (w : Word) → forwards (reverse w) ≡ reverse (forwards w)
forwards_backward [] = refl
forwards_backward (forward a ∷ w) =
    ap forwards (reverse-cons (forward a) w)
    ∙ (forwards_append (reverse w) (forward a ∷ []) ∙ (ap (λ u. u ++ (a ∷ [])) (forwards_backward w) ∙ sym (reverse-cons a (forwards w))))
forwards_backward (back a ∷ w) =
    ap forwards (reverse-cons (back a) w) ∙ (forwards_append (reverse w) (back a ∷ []) ∙ (append-nil (forwards (reverse w)) ∙ forwards_backward w))

backs_backward : (w : Word) → backs (reverse w) ≡ reverse (backs w)
backs_backward [] = refl
backs_backward (back a ∷ w) =
    ap backs (reverse-cons (back a) w)
    ∙ (backs_append (reverse w) (back a ∷ []) ∙ (ap (λ u. u ++ (a ∷ [])) (backs_backward w) ∙ sym (reverse-cons a (backs w))))
backs_backward (forward a ∷ w) =
    ap backs (reverse-cons (forward a) w) ∙ (backs_append (reverse w) (forward a ∷ []) ∙ (append-nil (backs (reverse w)) ∙ backs_backward w))

ended_backward : (w : Word) (k r : ℕ) → ended w k r ≡ read_backward (ended (reverse w) k r)
ended_backward w k r =
    ap₂ (λ n d. finished n d k r)
    (sym (reverse-reverse (forwards w)) ∙ ap reverse (sym (forwards_backward w)))
    (ap reverse (sym (reverse-reverse (backs w)) ∙ ap reverse (sym (backs_backward w))))

spent_backward : (w : Word) (k r : ℕ) (m : Next) → spent w k r m ≡ read_backward (spent (reverse w) k r (next_backward m))
spent_backward w k r no_site = ended_backward w k r
spent_backward w k r (blocked a b) = refl
spent_backward w k r (step a b w') = refl

fits_backward : (t : Bool) (e f : Ending) → e ≡ read_backward f → cond t (stopped no_room) e ≡ read_backward (cond t (stopped no_room) f)
fits_backward true e f h = refl
fits_backward false e f h = h

module _ (T : Presentation) (room : ℕ) where
  onward_backward : (left k r : ℕ) (w : Word) (m : Next)
      → ((k r : ℕ) (w : Word) → left_run T room left k r w ≡ read_backward (run (mirror T) room left k r (reverse w)))
      → onward room w k r (left_run T room left) m ≡ read_backward (onward room (reverse w) k r (run (mirror T) room left) (next_backward m))
  onward_backward left k r w no_site go = ended_backward w k r
  onward_backward left k r w (blocked a b) go = refl
  onward_backward left k r w (step a b w') go =
      fits_backward (ltb room (length w')) (left_run T room left (suc k) (count a b r) w')
      (run (mirror T) room left (suc k) (count a b r) (reverse w')) (go (suc k) (count a b r) w')
      ∙ ap (λ l. read_backward (cond (ltb room l) (stopped no_room) (run (mirror T) room left (suc k) (count a b r) (reverse w')))) (sym (length-reverse w'))

  run_backward : (left k r : ℕ) (w : Word) → left_run T room left k r w ≡ read_backward (run (mirror T) room left k r (reverse w))
  unfolding run left_run
  run_backward zero k r w =
      spent_backward w k r (left_next T w) ∙ ap (λ m. read_backward (spent (reverse w) k r m)) (sym (next_backward_lem T w))
  run_backward (suc left) k r w =
      onward_backward left k r w (left_next T w) (run_backward left)
      ∙ ap (λ m. read_backward (onward room (reverse w) k r (run (mirror T) room left) m)) (sym (next_backward_lem T w))

pub left_is_right : (T : Presentation) → LeftIsRight T
unfolding reversing left_reversing
left_is_right T budget room w =
    fits_backward (ltb room (length w)) (left_run T room budget 0 0 w) (run (mirror T) room budget 0 0 (reverse w)) (run_backward T room budget 0 0 w)
    ∙ ap (λ l. read_backward (cond (ltb room l) (stopped no_room) (run (mirror T) room budget 0 0 (reverse w)))) (sym (length-reverse w))
