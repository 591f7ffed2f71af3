-- The model's `Joined`, told by entries, is equivalence under the relations: both ways, and with as many entries as steps on two different letters.
-- So it is an equivalence relation and a congruence ([D1] section 1), and keeps weights and lengths where relations do.
use mathlib.Core.Path.{◌≡◌, refl, sym, ap, ◌∙◌}
use mathlib.Core.Logic.{◌↔◌}
use mathlib.Core.List.{List, [], ◌∷◌, ◌++◌}
use mathlib.Core.Bool.{cond}
use Prim.Native.Nat.{ℕ, suc}
use native.Mathlib.Decide.{ℕ_discrete}
use lib.Dec.{eqb}
use lib.ListN.{length}
use borrow.Author.Tests.{eq-eqb, ne_eqb}
use Rattle.model.specs.Word.{Positive}
use Rattle.model.specs.Presentation.{Presentation, complement, complete, total}
use Rattle.model.specs.Equivalence.{Entry, Leads, Joined}
use Rattle.model.proofs.Complete.{complete_same, complete_turn}
use Rattle.model.proofs.Equiv.{Equiv, Swap, done, step, trans, prefix, suffix, symm, swaps, Homogeneous, weight_kept}
use Rattle.model.proofs.Entries.{entry, swap_applied, applied_applies}

-- as many entries as said lead from u to v
pub record Chain (T : Presentation) (u v : Positive) (r : ℕ) : Type 0 where
  pub entries : List Entry
  pub leads : Leads T u entries v
  pub many : length entries ≡ r

module _ (T : Presentation) where
  -- a step on a and a changes nothing
  pub idle : {u v : Positive} (s : Swap (complete T) u v) → s.a ≡ s.b → u ≡ v
  idle s h =
      let empty : complete T s.a s.b ≡ complement [] [] = rw (← h) (complete_same T s.a) in
      let rule = s.rule in
      let x≡ : s.x ≡ [] = cc in
      let y≡ : s.y ≡ [] = cc in
      let sides : s.before ++ (s.a ∷ s.x ++ s.after) ≡ s.before ++ (s.b ∷ s.y ++ s.after) = cc in
      s.left ∙ (sides ∙ sym s.right)

  chain_step : {u w v : Positive} {r : ℕ} (s : Swap (complete T) u w) → Dec (s.a ≡ s.b) → Chain T w v r
      → Chain T u v (cond (eqb s.a s.b) r (suc r))
  chain_step {u} {w} {v} {r} s (yes h) l =
      let none_more : r ≡ cond (eqb s.a s.b) r (suc r) = ap (λ t. cond t r (suc r)) (sym (eq-eqb s.a s.b h)) in
      rw (← none_more, idle s h) l
  chain_step {u} {w} {v} {r} s (no h) l =
      let one_more : suc r ≡ cond (eqb s.a s.b) r (suc r) = ap (λ t. cond t r (suc r)) (sym (ne_eqb s.a s.b h)) in
      record { entries = entry s ∷ l.entries; leads = (w, swap_applied T s h, l.leads); many = ap suc l.many ∙ one_more }

  pub equiv_chain : {u v : Positive} (e : Equiv (complete T) u v) → Chain T u v (swaps e)
  equiv_chain done = record { entries = []; leads = refl; many = refl }
  equiv_chain (step s e) = chain_step s (ℕ_discrete s.a s.b) (equiv_chain e)

  pub equiv_joined : {u v : Positive} → Equiv (complete T) u v → Joined T u v
  equiv_joined e = let l = equiv_chain e in (l.entries, l.leads)

  leads_equiv : (u : Positive) (es : List Entry) (v : Positive) → Leads T u es v → Equiv (complete T) u v
  leads_equiv u [] v h = rw h done
  leads_equiv u (e ∷ es) v h = step (applied_applies T u e h.0 h.1).swap (leads_equiv h.0 es v h.2)

  pub joined_equiv : (u v : Positive) → Joined T u v → Equiv (complete T) u v
  joined_equiv u v j = leads_equiv u j.0 v j.1

  pub joined_exactly : (u v : Positive) → Joined T u v ↔ Equiv (complete T) u v
  joined_exactly u v = (joined_equiv u v, equiv_joined)

  -- AN EQUIVALENCE RELATION AND A CONGRUENCE

  pub joined_same : (u : Positive) → Joined T u u
  joined_same u = equiv_joined done

  pub joined_symmetric : (u v : Positive) → Joined T u v → Joined T v u
  joined_symmetric u v j = equiv_joined (symm (complete_turn T) (joined_equiv u v j))

  pub joined_transitive : (u v w : Positive) → Joined T u v → Joined T v w → Joined T u w
  joined_transitive u v w j i = equiv_joined (trans (joined_equiv u v j) (joined_equiv v w i))

  pub joined_append : (u u' v v' : Positive) → Joined T u u' → Joined T v v' → Joined T (u ++ v) (u' ++ v')
  joined_append u u' v v' j i = equiv_joined (trans (suffix v (joined_equiv u u' j)) (prefix u' (joined_equiv v v' i)))

  -- WEIGHTS

  pub joined_weight : (weight : ℕ → ℕ) → Homogeneous weight (complete T) → (u v : Positive) → Joined T u v → total weight u ≡ total weight v
  joined_weight weight even u v j = weight_kept weight even (joined_equiv u v j)
