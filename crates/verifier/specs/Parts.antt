-- A word that is lent in two parts.
use Rattle.std.specs.Prelude.{◌≡◌, List, ℕ, ◌-◌, ◌*◌, ◌^◌, ◌<◌, ◌≤◌, length, replicate}
use Rattle.std.proofs.Common.{sym, subst}
use Rattle.lists.specs.Tables.{insert}
use Rattle.field.specs.Binary.{Irreducible}
use Rattle.field.specs.Products.{Sized}
use Rattle.field.specs.Symbols.{symbols}
use Rattle.field.specs.declared.Field.{Field}
use Rattle.poly.specs.Codeword.{Basis}
use Rattle.space.specs.Images.{Images}
use Rattle.space.specs.Ready.{Ready}
use Rattle.space.specs.Sizes.{max_dim}
use Rattle.space.specs.declared.Setting.{Setting}
use Rattle.proximity.specs.Dim.{S}

-- `near` is a block, `far` seven blocks of that size, and near is block `slot` of the word
pub record InParts (near far : List ℕ) (slot : ℕ) : Type 0 where
  pub seven : length far ≡ 7 * length near
  pub inside : slot < 8

-- the word
unfoldable pub joined : List ℕ → List ℕ → ℕ → List ℕ
joined near far slot = insert (slot * length near) near far

-- f and the table t are those of a space of dimension k, 3 at least
pub record InSpace (f : Field) (k : ℕ) (t : List ℕ) : Type 0 where
  pub sized : Sized f
  pub irreducible : Irreducible f.modulus
  pub low : 3 ≤ k
  pub high : k ≤ max_dim
  pub basis : List ℕ
  pub right : Basis (symbols f.modulus) k basis
  pub table : Images (symbols f.modulus) basis t

-- that of a setting that passed its checks
unfoldable pub ready_space : {m : ℕ} {bs : List ℕ} {s : Setting} → Ready m bs s → InSpace s.field (length bs) s.space.images
ready_space {m} {bs} {s} r =
    let e = sym r.modulus in
    record {
      sized = r.sized;
      irreducible = subst Irreducible e r.sound.modulus.irreducible;
      low = r.sound.low;
      high = r.sound.high;
      basis = bs;
      right = subst (λ (q : ℕ). Basis (symbols q) (length bs) bs) e r.sound.basis;
      table = subst (λ (q : ℕ). Images (symbols q) bs s.space.images) e r.images;
    }

-- a word of 2^k symbols in two parts, and a proof of its length
pub record Lent (k : ℕ) (near far : List ℕ) (slot : ℕ) (π : List ℕ) : Type 0 where
  pub parts : InParts near far slot
  pub eighth : length near ≡ 2 ^ (k - 3)
  pub proof : length π ≡ S k

-- room for the symbols that a coin reads, all zero
unfoldable pub no_symbols : List ℕ
no_symbols = replicate 64 0
