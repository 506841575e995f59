-- The scratch before the first step. Assumes nothing.
use mathlib.Core.Path.{◌≡◌, refl, sym, ap, ◌∙◌, subst}
use mathlib.Core.Logic.{◌⊎◌, inl, inr}
use mathlib.Core.List.{List, ◌++◌}
use Prim.Native.Nat.{ℕ, ◌+◌, ◌-◌, ◌*◌, ◌^◌, ◌≤◌, ◌<◌}
use native.Mathlib.Decide.{dec_lt}
use native.Mathlib.Nat.{le_refl}
use native.Mathlib.Omega.{arith}
use lib.ListN.{length, get_or, set, take, drop, length-set, length-replicate, length-drop}
use lib.Pow.{pow_pos}
use lib.Seq.{ext_get_or, get_or-set_same, get_or-set_other, length-take-le}
use borrow.Rule.Slice.PartMut.{put_mid}
use Rattle.lists.specs.All.{All, Below, IsZero, All-append, All-take, All-drop, All-replicate, All-at, All-inside, zeros-below}
use Rattle.lists.specs.Calls.{zeros}
use Rattle.lists.specs.Filled.{Filled, put-filled}
use Rattle.lists.specs.Overwrite.{put-here}
use Rattle.lists.specs.Stretch.{stretch, length_stretch, get_or_stretch}
use Rattle.field.specs.Binary.{degree}
use Rattle.field.specs.Laws.{Ops}
use Rattle.field.specs.Symbols.{symbols}
use Rattle.field.specs.declared.Field.{Field}
use Rattle.poly.specs.Span.{elem}
use Rattle.space.specs.Ready.{Ready}
use Rattle.space.specs.declared.Setting.{Setting}
use Rattle.space.specs.Usable.{usable, ready_field}
use Rattle.novel.specs.Settings.{stepped, steps_of}
use Rattle.poly.specs.Coefficients.{coeff, Low, low_length}
use Rattle.poly.proofs.Coefficients.{eval-coeff}
use Rattle.correction.specs.Candidate.{Loaded, Beginning, Begun, Prepared}
use Rattle.correction.specs.Scratch.{scratch_words}
use Rattle.correction.specs.Pairs.{poly_at, Pairs}
use Rattle.correction.specs.Remainders.{Remainders, start}
use Rattle.correction.specs.Start.{Vanishing, InSetting, ThroughWord}
use Rattle.correction.proofs.PairLaws.{coeff-poly, poly-low, poly-symbols}
use Rattle.correction.proofs.StartLaws.{set-each}

-- ---- the polynomial through the word

module _ {s : Setting} {word : List ℕ} (g : InSetting s word) (old cleared : List ℕ) (e : cleared ≡ zeros (length old)) (room : scratch_words * length word ≤ length old) where
  abbrev n : ℕ
  n = length word

  abbrev q : ℕ
  q = s.field.modulus

  length_cleared : length cleared ≡ length old
  length_cleared = ap length e ∙ length-replicate {A = ℕ} (length old) 0

  cleared_zero : All IsZero cleared
  cleared_zero = subst (All IsZero) (sym e) (All-replicate IsZero (length old) 0 refl)

  pub lent-zero : All IsZero (take (3 * n - n) (drop n cleared))
  lent-zero = All-take IsZero (3 * n - n) (drop n cleared) (All-drop IsZero n cleared cleared_zero)

  pub lent_length : length (take (3 * n - n) (drop n cleared)) ≡ n + n
  lent_length = length-take-le (3 * n - n) (drop n cleared) (omega (arith, length-drop n cleared, length_cleared)) ∙ omega arith

  module _ (after : List ℕ) (la : length after ≡ 3 * n - n) (t : ThroughWord s word after) where
    abbrev new : List ℕ
    new = put_mid n (3 * n - n) cleared after

    filled : Filled n (3 * n - n) (λ i. get_or after i 0) cleared new
    filled = put-filled n (3 * n - n) cleared after (omega (arith, length_cleared)) la

    behind : stretch (n + n) n new ≡ after
    unfolding stretch
    behind = ap (λ (m : ℕ). take m (drop n new)) {x = n + n} {y = 3 * n - n} (omega arith) ∙ put-here n (3 * n - n) cleared after (omega (arith, length_cleared)) la

    zero_outside : (p : ℕ) → (p < n) ⊎ (3 * n ≤ p) → get_or new p 0 ≡ 0
    zero_outside p h = filled.outside p (by h) ∙ All-at IsZero cleared 0 cleared_zero refl p
      where
        by : (p < n) ⊎ (3 * n ≤ p) → (p < n) ⊎ (n + (3 * n - n) ≤ p)
        by (inl l) = inl l
        by (inr l) = inr (omega arith)

    pub loaded : Loaded s word old new
    loaded =
        record {
          kept = filled.kept ∙ length_cleared;
          below =
              let small = zeros-below (2 ^ degree q) cleared (pow_pos (degree q)) cleared_zero in
              All-append (λ (x : ℕ). x < 2 ^ degree q) (take n cleared) (after ++ drop (3 * n - n) (drop n cleared)) (All-take (λ (x : ℕ). x < 2 ^ degree q) n cleared small)
              (All-append (λ (x : ℕ). x < 2 ^ degree q) after (drop (3 * n - n) (drop n cleared)) t.below
              (All-drop (λ (x : ℕ). x < 2 ^ degree q) (3 * n - n) (drop n cleared) (All-drop (λ (x : ℕ). x < 2 ^ degree q) n cleared small)));
          through = subst (ThroughWord s word) (sym behind) t;
          rest = zero_outside;
        }

-- ---- the polynomial that vanishes

module _ {f : Field} {steps : List ℕ} {k n : ℕ} {work : List ℕ} (h : Beginning f steps k n work) where
  abbrev q' : ℕ
  q' = f.modulus

  positive : 0 < n
  positive = omega (arith, h.size, pow_pos k)

  part-is : take (6 * n - 4 * n) (drop (4 * n) work) ≡ stretch (2 * n) (4 * n) work
  unfolding stretch
  part-is = ap (λ (m : ℕ). take m (drop (4 * n) work)) {x = 6 * n - 4 * n} {y = 2 * n} (omega arith)

  pub vanish-zero : All IsZero (take (6 * n - 4 * n) (drop (4 * n) work))
  vanish-zero = subst (All IsZero) (sym part-is) h.zero

  pub vanish-room : 2 ^ k < length (take (6 * n - 4 * n) (drop (4 * n) work))
  vanish-room = omega (arith, ap length part-is, length_stretch (2 * n) (4 * n) work (omega (arith, h.room)), h.size, positive)

  module _ (after : List ℕ) (la : length after ≡ 6 * n - 4 * n) (t : Vanishing q' steps k after) where
    abbrev put : List ℕ
    put = put_mid (4 * n) (6 * n - 4 * n) work after

    put_is : Filled (4 * n) (6 * n - 4 * n) (λ i. get_or after i 0) work put
    put_is = put-filled (4 * n) (6 * n - 4 * n) work after (omega (arith, h.room)) la

    pub end-inside : 6 * n < length put
    end-inside = omega (arith, put_is.kept, h.room, positive)

    abbrev done : List ℕ
    done = set put (6 * n) 1

    length_done : length done ≡ length work
    length_done = length-set put (6 * n) 1 ∙ put_is.kept

    same-part : stretch (2 * n) (4 * n) done ≡ after
    same-part =
        ext_get_or 0 (stretch (2 * n) (4 * n) done) after (length_stretch (2 * n) (4 * n) done (omega (arith, length_done, h.room)) ∙ omega arith)
        (λ i l. let m : i < 2 * n = omega (arith, length_stretch (2 * n) (4 * n) done (omega (arith, length_done, h.room))) in
        get_or_stretch (2 * n) (4 * n) done i m ∙ get_or-set_other put (6 * n) (4 * n + i) 1 0 (λ r. omega arith) ∙ put_is.inside i (omega arith))

    put-below : Below (2 ^ degree q') put
    put-below =
        All-append (λ (x : ℕ). x < 2 ^ degree q') (take (4 * n) work) (after ++ drop (6 * n - 4 * n) (drop (4 * n) work)) (All-take (λ (x : ℕ). x < 2 ^ degree q') (4 * n) work h.below)
        (All-append (λ (x : ℕ). x < 2 ^ degree q') after (drop (6 * n - 4 * n) (drop (4 * n) work)) t.below
        (All-drop (λ (x : ℕ). x < 2 ^ degree q') (6 * n - 4 * n) (drop (4 * n) work) (All-drop (λ (x : ℕ). x < 2 ^ degree q') (4 * n) work h.below)))

    pub begun : 1 < 2 ^ degree q' → Begun q' steps k n work done
    begun one =
        record {
          kept = length_done;
          below = set-each (λ (x : ℕ). x < 2 ^ degree q') put (6 * n) 1 put-below one;
          vanishing = subst (Vanishing q' steps k) (sym same-part) t;
          one = get_or-set_same put (6 * n) 1 0 end-inside;
          rest = λ p l. get_or-set_other put (6 * n) p 1 0 (other p l) ∙ put_is.outside p (by p l);
        }
      where
        other : (p : ℕ) → (p < 4 * n) ⊎ (6 * n < p) → p ≡ 6 * n → ⊥
        other p (inl l) r = omega (arith, positive)
        other p (inr l) r = omega arith

        by : (p : ℕ) → (p < 4 * n) ⊎ (6 * n < p) → (p < 4 * n) ⊎ (4 * n + (6 * n - 4 * n) ≤ p)
        by p (inl l) = inl l
        by p (inr l) = inr (omega arith)

-- ---- the first remainders

module _ {s : Setting} {word : List ℕ} (g : InSetting s word) (old mid : List ℕ) (room : scratch_words * length word ≤ length old) (l : Loaded s word old mid) where
  abbrev N : ℕ
  N = length word

  abbrev Q : ℕ
  Q = s.field.modulus

  abbrev K : Ops
  K = symbols Q

  long : scratch_words * N ≤ length mid
  long = omega (arith, l.kept)

  pub beginning : Beginning s.field s.steps s.space.k N mid
  beginning =
      record {
        stepped = stepped (usable g.ready) s.space.k (le_refl s.space.k);
        size = g.whole;
        room = omega (arith, long);
        below = l.below;
        zero =
            Rattle.lists.specs.All.All-of IsZero (stretch (2 * N) (4 * N) mid) 0
            (λ i h. get_or_stretch (2 * N) (4 * N) mid i (omega (arith, length_stretch (2 * N) (4 * N) mid (omega (arith, long)))) ∙ l.rest (4 * N + i) (inr (omega arith)));
      }

  module _ (new : List ℕ) (b : Begun Q s.steps s.space.k N mid new) where
    N-positive : 0 < N
    N-positive = omega (arith, g.whole, pow_pos s.space.k)

    new-long : scratch_words * N ≤ length new
    new-long = omega (arith, long, b.kept)

    abbrev at : (p : ℕ) → List ℕ
    at p = poly_at N p new

    lead-one : coeff (at (4 * N)) N ≡ 1
    lead-one = ap (coeff (at (4 * N))) g.whole ∙ b.vanishing.lead

    -- the polynomial through the word
    whole-poly : List ℕ
    whole-poly = stretch (2 ^ s.space.k) (2 ^ s.space.k) (stretch (N + N) N mid)

    length_inner : length (stretch (N + N) N mid) ≡ N + N
    length_inner = length_stretch (N + N) N mid (omega (arith, long))

    length_whole : length whole-poly ≡ N
    unfolding whole-poly
    length_whole = length_stretch (2 ^ s.space.k) (2 ^ s.space.k) (stretch (N + N) N mid) (omega (arith, length_inner, g.whole)) ∙ sym g.whole

    low-next : Low N (at (2 * N))
    low-next i h = by (dec_lt i (2 * N))
      where
        by : Dec (i < 2 * N) → coeff (at (2 * N)) i ≡ 0
        by (yes k) = coeff-poly N (2 * N) new (omega (arith, new-long)) i k ∙ b.rest (2 * N + i) (inl (omega arith)) ∙ l.rest (2 * N + i) (inr (omega arith))
        by (no k) = poly-low N (2 * N) new (omega (arith, new-long)) i (omega arith)

    same_next : (i : ℕ) → coeff (at (2 * N)) i ≡ coeff whole-poly i
    unfolding whole-poly
    same_next i = by (dec_lt i N)
      where
        by : Dec (i < N) → coeff (at (2 * N)) i ≡ coeff whole-poly i
        by (yes k) =
            coeff-poly N (2 * N) new (omega (arith, new-long)) i (omega arith) ∙ b.rest (2 * N + i) (inl (omega arith))
            ∙ sym (get_or_stretch (2 ^ s.space.k) (2 ^ s.space.k) (stretch (N + N) N mid) i (omega (arith, g.whole))
            ∙ ap (λ (t : ℕ). get_or (stretch (N + N) N mid) (t + i) 0) (sym g.whole)
            ∙ get_or_stretch (N + N) N mid (N + i) (omega arith) ∙ ap (λ (t : ℕ). get_or mid t 0) {x = N + (N + i)} {y = 2 * N + i} (omega arith))
        by (no k) = low-next i (omega arith) ∙ sym (low_length whole-poly N (omega (arith, length_whole)) i (omega arith))

    far-zero : Low 0 (at (8 * N))
    far-zero i h = by (dec_lt i (2 * N))
      where
        by : Dec (i < 2 * N) → coeff (at (8 * N)) i ≡ 0
        by (yes k) = coeff-poly N (8 * N) new (omega (arith, new-long)) i k ∙ b.rest (8 * N + i) (inr (omega (arith, N-positive))) ∙ l.rest (8 * N + i) (inr (omega arith))
        by (no k) = poly-low N (8 * N) new (omega (arith, new-long)) i (omega arith)

    one-first : coeff (at (6 * N)) 0 ≡ 1
    one-first = coeff-poly N (6 * N) new (omega (arith, new-long)) 0 (omega (arith, N-positive)) ∙ ap (λ (t : ℕ). get_or new t 0) {x = 6 * N + 0} {y = 6 * N} (omega arith) ∙ b.one

    one-low : Low 1 (at (6 * N))
    one-low i h = by (dec_lt i (2 * N))
      where
        by : Dec (i < 2 * N) → coeff (at (6 * N)) i ≡ 0
        by (yes k) = coeff-poly N (6 * N) new (omega (arith, new-long)) i k ∙ b.rest (6 * N + i) (inr (omega arith)) ∙ l.rest (6 * N + i) (inr (omega arith))
        by (no k) = poly-low N (6 * N) new (omega (arith, new-long)) i (omega arith)

    symbols-at : (p : ℕ) → p + 2 * N ≤ length new → All K.Sym (at p)
    symbols-at p h = poly-symbols N p new h (2 ^ degree Q) b.below

    first-pairs : (bs : List ℕ) → Ready Q bs s → Pairs Q N (elem K bs) (coeff word) N N (4 * N) new
    unfolding whole-poly
    first-pairs bs r =
        subst (λ (t : ℕ). Remainders K N (elem K bs) (coeff word) N N (at (4 * N)) (at (4 * N + 4 * N)) (at t) (at (t + 4 * N))) {x = 2 * N} {y = 6 * N - 4 * N} (omega arith)
        (subst (λ (t : ℕ). Remainders K N (elem K bs) (coeff word) N N (at (4 * N)) (at t) (at (2 * N)) (at (2 * N + 4 * N))) {x = 8 * N} {y = 4 * N + 4 * N} (omega arith)
        (subst (λ (t : ℕ). Remainders K N (elem K bs) (coeff word) N N (at (4 * N)) (at (8 * N)) (at (2 * N)) (at t)) {x = 6 * N} {y = 2 * N + 4 * N} (omega arith)
        (start (ready_field r) N (elem K bs) (coeff word) (at (4 * N)) (at (2 * N)) (at (6 * N)) (at (8 * N)) (symbols-at (4 * N) (omega (arith, new-long))) (symbols-at (2 * N) (omega (arith, new-long)))
        (λ i h. b.vanishing.low i (omega (arith, g.whole)))
        (λ z. let x : ◌≡◌ {A = ℕ} 1 0 = sym lead-one ∙ z in omega arith)
        low-next
        (λ j h. b.vanishing.roots bs (steps_of r s.space.k (le_refl s.space.k)) j (omega (arith, g.whole)))
        (λ j h. eval-coeff (ready_field r) (at (2 * N)) whole-poly (elem K bs j) same_next ∙ l.through.values bs r j (omega (arith, g.whole)))
        (symbols-at (6 * N) (omega (arith, new-long))) (symbols-at (8 * N) (omega (arith, new-long))) one-first one-low far-zero
        (λ j h. All-inside K.Sym word 0 g.symbols j h))))

    pub prepared : Prepared s word old new
    prepared =
        record {
          kept = b.kept ∙ l.kept;
          held =
              let u = usable g.ready in
              record {
                sized = u.sized;
                irreducible = u.irreducible;
                small = omega arith;
                large = omega arith;
                place = inr refl;
                room = omega (arith, new-long);
                below = b.below;
                lead = λ z.
                    let x : ◌≡◌ {A = ℕ} 1 0 = sym lead-one ∙ coeff-poly N (4 * N) new (omega (arith, new-long)) N (omega (arith, N-positive)) ∙ z in omega arith;
              };
          pairs = first-pairs;
        }
