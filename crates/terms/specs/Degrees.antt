-- The degree behind a reject. `Told m bs σ w π coin (Ok (Reject r))` says of it: r.degree is the least degree of a polynomial through the symbols at the
-- coin's positions, as a word over the space at which the coin ends, and r.dimension is the dimension of that space.
use Rattle.std.specs.Prelude.{◌≡◌, refl, ◌⊎◌, Ok, Err, List, ℕ, suc, ◌+◌, ◌^◌, ◌≤◌, ◌<◌, length}
use Rattle.std.proofs.Common.{sym, ap, ◌∙◌, subst, inl, inr, arith}
use Rattle.std.proofs.Math.Decide.{dec_le}
use Rattle.lists.specs.All.{All, IsZero}
use Rattle.lists.specs.Answers.{Refuses}
use Rattle.lists.specs.Tables.{get_or_tab, tab_ext}
use Rattle.field.specs.Laws.{Ops, IsField}
use Rattle.field.specs.Symbols.{symbols}
use Rattle.poly.specs.Coefficients.{coeff, low_length}
use Rattle.poly.proofs.Coefficients.{low-add_p, coeff_equal, eval-coeff}
use Rattle.poly.specs.Poly.{eval, add_p}
use Rattle.poly.proofs.Poly.{eval-add_p, add_p_sym, sum_step}
use Rattle.poly.specs.Span.{elem}
use Rattle.poly.proofs.Span.{elem_sym}
use Rattle.poly.specs.Codeword.{Basis, word_of, Codeword}
use Rattle.poly.proofs.Codeword.{basis_distinct}
use Rattle.poly.specs.LeastDegree.{LeastDegree}
use Rattle.poly.proofs.LeastDegree.{least_unique, least_range, least_shift}
use Rattle.poly.specs.Shift.{word_at}
use Rattle.space.specs.Sound.{Sound, sound_field, sound_passes}
use Rattle.correction.specs.Differences.{differences, differences-differing, differing-le, nonzeros, root-low}
use Rattle.proximity.specs.Dim.{dim, S, R}
use Rattle.proximity.specs.Verdict.{degree_exists}
use Rattle.proximity.specs.Verifier.{Accepts, leaf_dim, leaf_basis}
use Rattle.verifier.specs.Checker.{symbols_at, reads_of, Told}
use Rattle.verifier.specs.Rejected.{InBounds, told_bounds}
use Rattle.verifier.specs.Verdicts.{told_coin, delivery-passes}
use Rattle.verifier.specs.declared.Rejection.{Rejection}
use Rattle.verifier.specs.declared.Verdict.TheVariants.{Accept, Reject}
use Rattle.stored.specs.Check.{coin_checks, AnsweredFile}
use Rattle.host.specs.Answer.{code_of, told_after, HostAnswer, HostDegree}
use Rattle.terms.specs.OneAnswer.{one-file-answer}
use Rattle.terms.specs.Refusals.{refused_file_check}

-- ---- the degree

module _ (m : ℕ) (bs : List ℕ) (σ : ℕ) (w π : List ℕ) (coin : ℕ) where
  -- the word of a polynomial over the space at which the coin ends, at the shift τ
  abbrev pub word_there : ℕ → List ℕ → List ℕ
  word_there τ = word_at (symbols m) τ (leaf_dim (dim (length bs)) coin) (leaf_basis (symbols m) (dim (length bs)) bs coin)

  -- The bounds: m being the dimension of the short word, the degree is between 2^(m-3) and 2^m - 1, and 2^m symbols are read; m is 3 to 6.
  pub degree_bounds : (r : Rejection) → Told m bs σ w π coin (Ok (Reject r)) → InBounds r
  degree_bounds = told_bounds m bs σ w π coin

  -- The degree is that over the space itself, and the same over each shift of it.
  pub degree-at_shifts : Sound m bs σ → (r : Rejection) → Told m bs σ w π coin (Ok (Reject r)) → (τ : ℕ) → (symbols m).Sym τ → LeastDegree (symbols m) (word_there τ) (symbols_at (length bs) w π coin) r.degree
  degree-at_shifts s r (p, (e, a, l, d)) τ sτ =
      (least_shift (sound_field s) (leaf_dim (dim (length bs)) coin) (leaf_basis (symbols m) (dim (length bs)) bs coin) τ sτ (symbols_at (length bs) w π coin) r.degree).0 l

  -- No other number is it.
  pub one-degree : Sound m bs σ → (r : Rejection) → Told m bs σ w π coin (Ok (Reject r)) → (τ : ℕ) → (symbols m).Sym τ → (g : ℕ) → LeastDegree (symbols m) (word_there τ) (symbols_at (length bs) w π coin) g → r.degree ≡ g
  one-degree s r t τ sτ g l = least_unique (degree-at_shifts s r t τ sτ) l

  -- Every pair in range that is not accepted at a coin is answered by a reject: a degree is there.
  pub reject_answered : Sound m bs σ → length w ≡ 2 ^ length bs → length π ≡ S (length bs) → coin < 2 ^ R (length bs) → All (symbols m).Sym (symbols_at (length bs) w π coin)
      → (Accepts (symbols m) (dim (length bs)) bs w π coin → ⊥) → (r : Rejection) × Told m bs σ w π coin (Ok (Reject r))
  reject_answered s lw lπ h sy n =
      let (g, l) = degree_exists (sound_field s) (dim (length bs)) bs w π s.basis lw lπ coin sy n in
      let r : Rejection = record { reads = reads_of (length bs) coin; degree = g; dimension = leaf_dim (dim (length bs)) coin } in
      (r, told_coin m bs σ w π coin (sound_passes m bs σ s) (delivery-passes (length bs) (length w) (length π) coin lw lπ h) (Ok (Reject r)) (inr ((λ f. f sy), refl), (refl, n, l, refl)))

-- ---- how badly

-- The degree of a word that is no codeword, and the number of symbols in which it differs from any codeword, add up to its length at least. So few wrong
-- symbols give a large degree, and one gives the largest.
module _ {K : Ops} (F : IsField K) (m : ℕ) (b : List ℕ) (B : Basis K m b) where
  pub degree-and_distance : (v c : List ℕ) → length v ≡ 2 ^ m → length c ≡ 2 ^ m → (g : ℕ) → (Codeword K m b v → ⊥) → LeastDegree K (word_of K m b) v g → Codeword K m b c → 2 ^ m ≤ g + differences v c
  degree-and_distance v c lv lc g n L (p, lp, sp, e) = by (dec_le (2 ^ m) (g + differences v c))
    where
      low : (i : ℕ) → suc g ≤ i → coeff (add_p K L.coeffs p) i ≡ 0
      low =
          low-add_p F (suc g) L.coeffs p (low_length L.coeffs (suc g) (omega (arith, L.count)))
          (low_length p (suc g) (omega (arith, lp, (least_range F m b B v g lv L).1.0 n)))

      value : (r : List ℕ) (x : List ℕ) → x ≡ word_of K m b r → (i : ℕ) → i < 2 ^ m → coeff x i ≡ eval K r (elem K b i)
      value r x f i h = ap (λ (t : List ℕ). coeff t i) f ∙ get_or_tab (2 ^ m) (λ j. eval K r (elem K b j)) i 0 h

      agree : (i : ℕ) → i < 2 ^ m → coeff v i ≡ coeff c i → eval K (add_p K L.coeffs p) (elem K b i) ≡ 0
      agree i h f = eval-add_p F L.coeffs p (elem K b i) ∙ sum_step F _ _ (sym (value L.coeffs v L.values i h) ∙ f ∙ value p c e i h)

      by : Dec (2 ^ m ≤ g + differences v c) → 2 ^ m ≤ g + differences v c
      by (yes h) = h
      by (no h) =
          let few : suc g + nonzeros (2 ^ m) (λ i. eval K (add_p K L.coeffs p) (elem K b i)) ≤ 2 ^ m =
          omega (arith, differing-le (2 ^ m) (λ i. eval K (add_p K L.coeffs p) (elem K b i)) (λ i. 0) (coeff v) (coeff c) agree, differences-differing (2 ^ m) v c lv lc) in
          let z : All IsZero (add_p K L.coeffs p) = root-low F (2 ^ m) (suc g) (add_p K L.coeffs p) (elem K b) (add_p_sym F L.coeffs p L.elements sp) (λ i l. elem_sym F b i B.elements) (basis_distinct F m b B) low few in
          absurd (n (p, lp, sp, L.values ∙ tab_ext (2 ^ m) (λ i. eval K L.coeffs (elem K b i)) (λ i. eval K p (elem K b i)) (λ i l. eval-coeff F L.coeffs p (elem K b i) (coeff_equal F L.coeffs p z))))

-- ---- the call from C that tells it: `HostDegree f coin before after r` is the contract of host's `proximity_check_degree`, with the three lent numbers before and after

module _ (f : List ℕ) (coin : ℕ) (before : Rejection) where
  -- One answer, and one triple of numbers.
  pub one_host_degree : (after after' : Rejection) (r r' : ℕ) → HostDegree f coin before after r → HostDegree f coin before after' r' → (after ≡ after') × (r ≡ r')
  one_host_degree after after' r r' (u, a, e, h) (v, b, e', h') =
      let same = one-file-answer f coin u v a b in
      (h ∙ ap (told_after before) same ∙ sym h', e ∙ ap code_of same ∙ sym e')

  -- It answers as the call that tells the reads alone.
  pub same_as_reads : (after : Rejection) (r : ℕ) → HostDegree f coin before after r → HostAnswer f coin before.reads after.reads r
  same_as_reads after r (Ok (Accept n), a, e, h) = (Ok (Accept n), a, e, ap (λ (x : Rejection). x.reads) h)
  same_as_reads after r (Ok (Reject x), a, e, h) = (Ok (Reject x), a, e, ap (λ (x : Rejection). x.reads) h)
  same_as_reads after r (Err n, a, e, h) = (Err n, a, e, ap (λ (x : Rejection). x.reads) h)

  -- 0 accepts, with 0 and 0 for degree and dimension; 100 rejects, with those of the reject; a refusal leaves all three.
  abbrev pub DegreeApart : Rejection → ℕ → Type 0
  DegreeApart after r =
      ((r ≡ 0) × AnsweredFile f coin (Ok (Accept after.reads)) × (after.degree ≡ 0) × (after.dimension ≡ 0))
      ⊎ (((r ≡ 100) × AnsweredFile f coin (Ok (Reject after))) ⊎ ((r ≤ 12) × Refuses (coin_checks f coin) r × (after ≡ before)))

  pub degree-apart : (after : Rejection) (r : ℕ) → HostDegree f coin before after r → DegreeApart after r
  degree-apart after r (Ok (Accept n), a, e, h) =
      inl (e, subst (λ (x : ℕ). AnsweredFile f coin (Ok (Accept x))) (sym (ap (λ (x : Rejection). x.reads) h)) a, ap (λ (x : Rejection). x.degree) h, ap (λ (x : Rejection). x.dimension) h)
  degree-apart after r (Ok (Reject x), a, e, h) = inr (inl (e, subst (λ (y : Rejection). AnsweredFile f coin (Ok (Reject y))) (sym h) a))
  degree-apart after r (Err n, a, e, h) = inr (inr (omega (arith, e, (refused_file_check f coin n a).1), subst (Refuses (coin_checks f coin)) (sym e) a, h))
