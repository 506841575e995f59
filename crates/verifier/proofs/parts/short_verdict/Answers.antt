use mathlib.Core.Path.{◌≡◌, refl, ◌∙◌}
use mathlib.Core.Logic.{inl, inr}
use mathlib.Core.List.{List, [], ◌∷◌}
use Prim.Native.Nat.{ℕ, ◌-◌, ◌*◌, ◌%◌, ◌^◌, ◌≤◌, ◌<◌}
use native.Mathlib.Omega.{arith}
use lib.ListN.{length}
use lib.Pow.{pow_pos, pow_mono}
use lib.Seq.{length-take-le}
use Rattle.lists.specs.All.{All, Below, All-take}
use Rattle.lists.specs.Answers.{Passes}
use Rattle.lists.specs.Decides.{decides_true, decides_false}
use Rattle.field.specs.Symbols.{symbols}
use Rattle.poly.specs.Codeword.{Basis}
use Rattle.space.specs.Images.{Images}
use Rattle.transform.specs.Slices.{Transposed}
use Rattle.verifier.specs.Parts.{no_symbols}
use Rattle.field.specs.Binary.{degree}
use Rattle.poly.specs.Blocks.{eighths}
use Rattle.verifier.proofs.Laws.{one_shifted}
use Rattle.verifier.proofs.Short.{word_below, read_below}
use Rattle.verifier.proofs.parts.short_verdict.Goals.{Start, Else-not-all_symbols, After-least_degree}
use Rattle.verifier.proofs.parts.short_verdict.Goals as goal

pub all_symbols-requires : goal.all_symbols-requires
all_symbols-requires c = c.requires.0.sized

-- all symbols that were read are below 2^l
module _ (c : goal.Else-not-all_symbols) where
  abbrev start : goal.Start
  start = (goal.at.Else-not-all_symbols c).Start

  abbrev k : ℕ
  k = start.args.k

  abbrev q : ℕ
  q = start.args.f.modulus

  small : Below (2 ^ degree q) start.args.read
  small = decides_true _ c.all_symbols.ensures c.if-not-all_symbols.false

  few : 2 ^ k ≤ 64
  few = pow_mono {j = 6} start.requires.1

  low : 3 ≤ k
  low = start.requires.0.low

pub least_degree-requires : goal.least_degree-requires
least_degree-requires c = let s = (start c).requires.0 in
    let r = (start c).args.read in (
      record {
        sized = s.sized;
        irreducible = s.irreducible;
        low = s.low;
        high = omega (arith, (start c).requires.1);
        long = length-take-le (2 ^ k c) r (omega (arith, few c, (start c).requires.2));
        image-symbols = s.table.elements;
        symbols = All-take (λ (x : ℕ). x < 2 ^ degree (q c)) (2 ^ k c) r (small c);
      },
      (start c).requires.1,
      (start c).requires.2,
      s.table.count,
    )

-- what the test tells of a word whose blocks are the lanes
module _ (c : goal.After-least_degree) (b w : List ℕ) (B : Basis (symbols (q c.before)) (k c.before) b) (I : Images (symbols (q c.before)) b (start c.before).args.images.now)
    (lw : length w ≡ 2 ^ k (goal.at.After-least_degree c).Else-not-all_symbols) (t : Transposed 8 (2 ^ (k (goal.at.After-least_degree c).Else-not-all_symbols - 3)) w no_symbols (start (goal.at.After-least_degree c).Else-not-all_symbols).args.read) where
  abbrev here : goal.Else-not-all_symbols
  here = (goal.at.After-least_degree c).Else-not-all_symbols

  passes : Passes (((9, (All (λ (x : ℕ). x < 2 ^ degree (q here)) w → ⊥)) ∷ []))
  passes =
      inr (
        (λ no_symbol. no_symbol (word_below (2 ^ (k here - 3)) (2 ^ degree (q here)) (pow_pos (k here - 3)) (pow_pos (degree (q here))) w (start here).args.read (lw ∙ eighths (k here) (low here)) t (small here))),
        refl,
      )

  count : 1 * 2 ^ k here % 18446744073709551616 ≡ 2 ^ k here
  count = one_shifted (k here) (omega (arith, (start here).requires.1))

pub returns-in-None : goal.returns-in-None
returns-in-None c = λ b w B I lw t.
    let h = (goal.at.returns-in-None c).After-least_degree in
    (passes h b w B I lw t, (count h b w B I lw t, c.in-None.ensures b B I w lw t.lanes))

pub returns-in-Some : goal.returns-in-Some
returns-in-Some c = λ b w B I lw t.
    let h = (goal.at.returns-in-Some c).After-least_degree in
    let d = c.in-Some.ensures b B I w lw t.lanes in
    (passes h b w B I lw t, (count h b w B I lw t, d.0, d.1, refl))

pub returns-then-not-all_symbols : goal.returns-then-not-all_symbols
returns-then-not-all_symbols c = λ b w B I lw t.
    let s = (goal.at.returns-then-not-all_symbols c).Start in
    let q = s.args.f.modulus in
    let k = s.args.k in (
      omega arith,
      inl (
        (λ h. decides_false _ c.all_symbols.ensures c.if-not-all_symbols.true
            (read_below (2 ^ (k - 3)) (2 ^ degree q) (pow_pos (k - 3)) (pow_pos (degree q)) w s.args.read (lw ∙ eighths k s.requires.0.low) t h)),
        refl,
      ),
    )
