-- The subspace polynomials of the images under the subspace polynomial of the first h basis elements are those past h.
use Rattle.std.specs.Prelude.{◌≡◌, List, ℕ, zero, suc, ◌+◌, ◌≤◌, length, get_or, take, drop}
use Rattle.std.proofs.Common.{sym, ap, ap₂, ◌∙◌, add-zero, add-suc, arith, length-drop, get_or-drop}
use Rattle.std.proofs.lemmas.List.{length-map}
use Rattle.std.proofs.Math.ListN.{get_or-map}
use Rattle.field.specs.Laws.{Ops, IsField}
use Rattle.poly.proofs.Span.{vanish-nil, vanish-zero}
use Rattle.poly.specs.Novel.{W, step, image}
use Rattle.poly.proofs.Novel.{W_suc}
use Rattle.poly.specs.Tower.{images}

module _ {K : Ops} (F : IsField K) (bs : List ℕ) (h : ℕ) where
  open K use {◌⊕◌, ◌⊗◌, inv}

  pub length_images : length (images K bs h) ≡ length (drop h bs)
  length_images = length-map (drop h bs) (W K bs h)

  pub images-at : (c : ℕ) → get_or (images K bs h) c 0 ≡ W K bs h (get_or bs (h + c) 0)
  images-at c =
      ap (get_or (images K bs h) c) (sym (vanish-zero F (take h bs))) ∙ get_or-map (W K bs h) (drop h bs) c 0 ∙ ap (W K bs h) (get_or-drop h bs c 0)

  -- The subspace polynomials past h are those of the images, at W h x
  pub W_tower : (c : ℕ) → h + c ≤ length bs → (x : ℕ) → W K bs (h + c) x ≡ W K (images K bs h) c (W K bs h x)
  W_tower zero hc x = ap (λ (k : ℕ). W K bs k x) (add-zero h) ∙ sym (vanish-nil F (W K bs h x))
  W_tower (suc c) hc x =
      ap (λ (k : ℕ). W K bs k x) (add-suc h c) ∙ W_suc F bs (h + c) x (omega arith)
      ∙ ap₂ (λ (u v : ℕ). ◌⊗◌ u (◌⊕◌ u v)) (W_tower c (omega arith) x)
      (W_tower c (omega arith) (get_or bs (h + c) 0) ∙ ap (W K (images K bs h) c) (sym (images-at c)))
      ∙ sym (W_suc F (images K bs h) c (W K bs h x) (omega (arith, length_images, length-drop h bs)))

  pub step_tower : (c : ℕ) → h + c ≤ length bs → step K bs (h + c) ≡ step K (images K bs h) c
  step_tower c hc = W_tower c hc (get_or bs (h + c) 0) ∙ ap (W K (images K bs h) c) (sym (images-at c))

  -- So the table of a column space is the table of the space, shifted by h in both indices
  pub image_tower : (c : ℕ) → h + c ≤ length bs → (x : ℕ) → image K bs (h + c) x ≡ image K (images K bs h) c (W K bs h x)
  image_tower c hc x = ap₂ (λ (u v : ℕ). ◌⊗◌ u (inv v)) (W_tower c hc x) (step_tower c hc)
