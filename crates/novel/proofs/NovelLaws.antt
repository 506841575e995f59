-- What the functions of `novel` leave, from what the changes of basis leave. Assumes nothing.
use mathlib.Core.Bool.{false}
use mathlib.Core.Path.{◌≡◌, refl, sym, ap, ap₂, ◌∙◌, subst}
use mathlib.Core.Logic.{inl}
use mathlib.Core.List.{List, [], ◌∷◌, ◌++◌, zip_with}
use Prim.Native.Nat.{ℕ, ◌+◌, ◌^◌, ◌≤◌, ◌<◌}
use native.Mathlib.Omega.{arith}
use lib.ListN.{length, get_or, take, drop}
use lib.Pow.{pow_mono}
use lib.Seq.{take_at, drop_at, length-take-le}
use Rattle.space.specs.Sizes.{max_dim, max_word}
use Rattle.lists.specs.All.{All, Below, IsZero, All-take}
use Rattle.lists.specs.Stretch.{Apart, stretch, length_stretch}
use Rattle.field.specs.Binary.{◌⊕◌, degree, product, Irreducible}
use Rattle.field.specs.Laws.{Ops, IsField, ⊕_0}
use Rattle.field.specs.Product.{positive}
use Rattle.field.specs.Products.{add_products, accumulated}
use Rattle.field.specs.Symbols.{symbols, symbols-field}
use Rattle.field.specs.declared.Field.{Field}
use Rattle.field.proofs.Accumulate.{length_new, length_accumulated, accumulated-below}
use Rattle.poly.specs.Poly.{eval}
use Rattle.poly.specs.Novel.{W, eval_x}
use Rattle.novel.specs.Sparse.{Sparse, coefficient-lead}
use Rattle.novel.specs.Convert.{eval_by, value_by, Zeros, Tabled, Monomials}
use Rattle.novel.specs.Scales.{scales_of, Scales}
use Rattle.novel.specs.Novel.{Stepped, Changed, Scaled, NovelOf, PowersOf}
use Rattle.novel.proofs.Bases.{eval_by-same, to_normal, from_normal, value_row}

module _ {f : Field} {m : ℕ} {steps : List ℕ} (s : Stepped f m steps) where
  abbrev q : ℕ
  q = f.modulus

  abbrev F : IsField (symbols q)
  F = symbols-field q s.irreducible

  pub tabled_of : {none t : List ℕ} → Zeros none → Sparse q steps m t → Tabled false f none t m
  tabled_of z t =
      record {
        sized = s.sized;
        irreducible = s.irreducible;
        zeros = z;
        few = s.few;
        below = t.below;
        lead = λ e j h. t.right j j h (omega (arith, s.few)) ∙ coefficient-lead F (λ i. get_or steps i 0) j;
      }

  pub changed_of : {t products powers : List ℕ} → Sparse q steps m t → Monomials q (value_by q t) m products powers → Changed q steps m products powers
  changed_of {t} {products} {powers} p c =
      record {
        kept = c.kept;
        below = c.below;
        values = λ bs b x sx. c.values x sx
            ∙ eval_by-same F (λ j. value_by q t j x) (λ j. W (symbols q) bs j x) m products (λ j h. value_row F bs steps t m s.few b.enough b.right p j x h sx);
      }

  pub size_fits : 2 ^ m ≤ max_word
  size_fits = pow_mono {i = m} {j = max_dim} s.few

-- ---- products with the scales

module _ (q : ℕ) (irr : Irreducible q) where
  abbrev K : Ops
  K = symbols q

  products_zeros : (ts factors zs : List ℕ) → All IsZero zs → length factors ≡ length ts → length zs ≡ length ts → add_products q 0 ts factors zs ≡ zip_with (product q) ts factors
  unfolding add_products zip_with
  products_zeros [] [] [] z lf lz = refl
  products_zeros [] [] (x ∷ zs) z lf lz = absurd (omega arith)
  products_zeros [] (y ∷ factors) zs z lf lz = absurd (omega arith)
  products_zeros (t ∷ ts) [] zs z lf lz = absurd (omega arith)
  products_zeros (t ∷ ts) (y ∷ factors) [] z lf lz = absurd (omega arith)
  products_zeros (t ∷ ts) (y ∷ factors) (x ∷ zs) z lf lz =
      ap₂ ◌∷◌
      (ap₂ (λ (a b : ℕ). a ⊕ (product q b y)) z.0 (⊕_0 (symbols-field q irr) t) ∙ (symbols-field q irr).zero-sum (product q t y))
      (products_zeros ts factors zs z.1 (omega arith) (omega arith))

module _ {f : Field} {m : ℕ} {factors : List ℕ} (s : Stepped f m factors) (n : ℕ) (en : n ≡ 2 ^ m) (r old : List ℕ) (right : Scales f.modulus factors m r)
    (b : Below (2 ^ degree f.modulus) old) (fits : 2 ^ m + 2 ^ m ≤ length old) where
  abbrev w : ℕ
  w = f.modulus

  abbrev ts : List ℕ
  ts = take n r

  pub length_scales : length ts ≡ n
  length_scales = length-take-le n r (omega (arith, size_fits s, right.count))

  pub scale_apart : Apart (length ts) 0 n (length old)
  scale_apart = record { first = omega (arith, length_scales); second = omega (arith, length_scales); apart = inl (omega (arith, length_scales)) }

  pub scales_below : Below (2 ^ degree w) ts
  scales_below = All-take (λ (x : ℕ). x < 2 ^ degree w) n r right.below

  abbrev added : List ℕ
  added = add_products w 0 ts (stretch (length ts) 0 old) (stretch (length ts) n old)

  -- the stretch behind the first n numbers
  behind : stretch n n (accumulated w 0 ts 0 n old) ≡ added
  unfolding accumulated stretch
  behind =
      ap (take n) (drop_at (take n old) (added ++ drop (n + length ts) old) n (length-take-le n old (omega arith)))
      ∙ take_at added (drop (n + length ts) old) n (length_new w 0 ts 0 n old scale_apart ∙ length_scales)

  front : stretch (length ts) 0 old ≡ take n old
  unfolding stretch
  front = ap (λ (k : ℕ). take k old) length_scales

  at_power : {k : ℕ} (xs : List ℕ) → k ≡ n → stretch k k xs ≡ stretch n n xs
  at_power xs e = ap (λ (i : ℕ). stretch i i xs) e

  pub scaled_of : Scaled w factors m old (accumulated w 0 ts 0 n old)
  scaled_of =
      record {
        kept = length_accumulated w 0 ts 0 n old scale_apart;
        below = accumulated-below w 0 (positive w s.irreducible) ts 0 n old scale_apart b;
        right = λ z. at_power (accumulated w 0 ts 0 n old) (sym en) ∙ behind
            ∙ products_zeros w s.irreducible ts (stretch (length ts) 0 old) (stretch (length ts) n old)
            (subst (All IsZero) (at_power old (sym en) ∙ ap (λ (k : ℕ). stretch k n old) (sym length_scales)) z)
            (length_stretch (length ts) 0 old scale_apart.first) (length_stretch (length ts) n old scale_apart.second)
            ∙ ap₂ (zip_with (product w)) (ap (λ (k : ℕ). take k r) en ∙ right.right) (front ∙ ap (λ (k : ℕ). take k old) en);
      }

-- ---- the whole of `novel_of` and of `powers_of`

module _ (q : ℕ) (irr : Irreducible q) (m : ℕ) where
  -- a list of 2^m numbers and zeros behind it
  pub zeros-behind : (e zs : List ℕ) → length e ≡ 2 ^ m → All IsZero zs → All IsZero (stretch (2 ^ m) (2 ^ m) (e ++ zs))
  unfolding stretch
  zeros-behind e zs l z = subst (λ (xs : List ℕ). All IsZero (take (2 ^ m) xs)) (sym (drop_at e zs (2 ^ m) l)) (All-take IsZero (2 ^ m) zs z)

  pub novel_of : (steps p e zs new : List ℕ) → length e ≡ 2 ^ m → All IsZero zs → Changed q steps m e p → Scaled q steps m (e ++ zs) new → NovelOf q steps m p new
  novel_of steps p e zs new l z c s =
      record {
        below = s.below;
        values = λ bs b x sx.
            ap (λ (d : List ℕ). eval_x (symbols q) bs m d x) (s.right (zeros-behind e zs l z) ∙ ap (zip_with (product q) (scales_of (symbols q) (λ j. get_or steps j 0) m)) (take_at e zs (2 ^ m) l))
            ∙ to_normal (symbols-field q irr) bs b.elements b.independent m b.enough (λ j. get_or steps j 0) e x b.right l c.below.0 sx
            ∙ sym (c.values bs b x sx);
      }

  pub powers_in : (steps inverses old mid p new : List ℕ) → length (take (2 ^ m) old) ≡ 2 ^ m → Below (2 ^ degree q) (take (2 ^ m) old) → All IsZero (stretch (2 ^ m) (2 ^ m) old)
      → Scaled q inverses m old mid → Changed q steps m (stretch (2 ^ m) (2 ^ m) mid) p → Below (2 ^ degree q) new → stretch (2 ^ m) (2 ^ m) new ≡ p
      → PowersOf q steps inverses m (take (2 ^ m) old) new
  powers_in steps inverses old mid p new l bd z s c bn e =
      record {
        below = bn;
        values = λ bs b ri x sx.
            ap (λ (xs : List ℕ). eval (symbols q) xs x) e ∙ c.values bs b x sx
            ∙ ap (eval_by (symbols q) (λ j. W (symbols q) bs j x) m) (s.right z)
            ∙ from_normal (symbols-field q irr) bs b.elements b.independent m b.enough (λ j. get_or inverses j 0) (take (2 ^ m) old) x ri l bd;
      }
