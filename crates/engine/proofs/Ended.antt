-- What the answer of a reversing in the workspace says of the ending: the finished word, the pair that was met, or the stop.
use mathlib.Core.Path.{◌≡◌, refl, sym, ap, ap₂, ◌∙◌}
use mathlib.Core.List.{List, ◌++◌}
use Prim.Native.Nat.{ℕ, ◌+◌, ◌≤◌}
use native.Mathlib.Omega.{arith}
use lib.ListN.{length, take, length-append, length-take}
use Rattle.model.specs.Word.{Word, Positive, positive, negative}
use Rattle.model.specs.Presentation.{Presentation}
use Rattle.model.specs.Reversing.{Stop, no_budget, no_room, Ending, finished, open_pair, stopped, reversing}
use Rattle.model.specs.Outcome.{unplaced, refused}
use Rattle.model.specs.Checks.{stop_number}
use Rattle.model.specs.Stated.{refusal, stop_refusal, stop_answer, ending_answer}
use Rattle.model.specs.declared.answers.Ending.{Ending as EndingAnswer}
use Rattle.model.specs.declared.answers.Ending.TheVariants.{Finished, Undefined, Stopped}
use Rattle.model.specs.declared.answers.Stop.{Stop as StopAnswer}
use Rattle.model.specs.declared.answers.Pair.{Pair}
use Rattle.model.proofs.Impossible.{impossible}
use Rattle.engine.specs.Gap.{letters}
use Rattle.engine.specs.Run.{LeavesWord, Reverses, Finishable}
use Rattle.engine.proofs.Letters.{length_letters}
use Rattle.engine.proofs.Lettering.{length_positive, length_negative}

-- a stop of the programs is refused by its number, without place numbers
pub stop_numbered : {A : Type 0} (s : Stop) → refusal {A = A} (stop_refusal (stop_answer s)) ≡ refused (stop_number s) unplaced
stop_numbered no_budget = refl
stop_numbered no_room = refl

module _ (T : Presentation) (word : Word) (budget : ℕ) (workspace : List ℕ) where
  abbrev pub end : Ending
  end = reversing T budget (length workspace) word

  -- a finished word, as it stands in the workspace
  pub record Done (n d k r : ℕ) : Type 0 where
    pub N : Positive
    pub D : Positive
    pub is : end ≡ finished N D k r
    pub n_length : length N ≡ n
    pub d_length : length D ≡ d
    pub stands : letters (take (n + d) workspace) ≡ positive N ++ negative D

  pub done : (n d k r : ℕ) → Reverses T word budget workspace (Finished n d k r) → Done n d k r
  done n d k r p = go end refl p.answer p.holds
    where
      go : (e : Ending) → end ≡ e → Finished n d k r ≡ ending_answer e → LeavesWord e workspace → Done n d k r
      go (finished N D k' r') f g h =
          let en : length N ≡ n = cc in
          let ed : length D ≡ d = cc in
          let ek : k' ≡ k = cc in
          let er : r' ≡ r = cc in
          record {
            N = N;
            D = D;
            is = f ∙ ap₂ (λ i j. finished N D i j) ek er;
            n_length = en;
            d_length = ed;
            stands = ap₂ (λ i j. letters (take (i + j) workspace)) (sym en) (sym ed) ∙ h;
          }
      go (open_pair a b j) f g h = impossible (cc)
      go (stopped s) f g h = impossible (cc)

  done_inside : (n d k r : ℕ) → Reverses T word budget workspace (Finished n d k r) → n + d ≤ length workspace
  done_inside n d k r p =
      let q = done n d k r p in
      let e = ap length q.stands ∙ length-append (positive q.N) (negative q.D) in
      let f : length (letters (take (n + d) workspace)) ≤ length workspace = simp (length_letters, length-take) (omega arith) in
      omega (arith, length_positive q.N, length_negative q.D, q.n_length, q.d_length)

  pub finishable : (e : EndingAnswer) → Reverses T word budget workspace e → Finishable workspace e
  finishable (Finished n d k r) p = done_inside n d k r p
  finishable (Undefined q k) p = tt
  finishable (Stopped s) p = tt

  pub met : (p : Pair) (k : ℕ) → Reverses T word budget workspace (Undefined p k) → end ≡ open_pair p.a p.b k
  met p k q = go end refl q.answer
    where
      go : (e : Ending) → end ≡ e → Undefined p k ≡ ending_answer e → end ≡ open_pair p.a p.b k
      go (finished N D i j) f g = impossible (cc)
      go (open_pair a b j) f g =
          let ep : record { a = a; b = b } ≡ p = cc in
          let ek : j ≡ k = cc in
          f ∙ ap₂ (λ x i. open_pair x.a x.b i) ep ek
      go (stopped s) f g = impossible (cc)

  pub record Halted (s : StopAnswer) : Type 0 where
    pub stop : Stop
    pub is : end ≡ stopped stop
    pub told : stop_answer stop ≡ s

  pub halted : (s : StopAnswer) → Reverses T word budget workspace (Stopped s) → Halted s
  halted s q = go end refl q.answer
    where
      go : (e : Ending) → end ≡ e → Stopped s ≡ ending_answer e → Halted s
      go (finished N D i j) f g = impossible (cc)
      go (open_pair a b j) f g = impossible (cc)
      go (stopped m) f g = let e : stop_answer m ≡ s = cc in record { stop = m; is = f; told = e }
