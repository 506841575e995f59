-- Lists by their entries: a table of a function, a run of lists one after the other, the parts of a list, a list put into another.
use Rattle.std.specs.Prelude.{◌≡◌, refl, List, [], ◌∷◌, ◌++◌, ℕ, zero, suc, ◌+◌, ◌*◌, ◌≤◌, ◌<◌, length, get_or, take, drop}
use Rattle.std.proofs.Common.{sym, ap, ap₂, ◌∙◌, append_assoc, suc-le-suc, zero-mul, suc-mul, zero-lt-suc, le_of_suc-le-suc, not-suc-le-zero, mul-le-mul_right, suc-ne-zero, add_comm, arith, length-append, length-take, length-drop, take-append-drop, take_at, drop_at, drop-drop, length-take-le, get_or-append-add, ext_get_or, get_or-take, get_or-drop, take-add}
use Rattle.std.proofs.Math.ListN.{get_or-append}
use Rattle.std.proofs.lemmas.List.{take-append-le, drop-append-le}
use Rattle.std.proofs.Math.Seq.{drop-append-add}
use Rattle.lists.specs.All.{All}

-- Part i of n parts of length m lies below n m
pub part-fits : {i n : ℕ} (m : ℕ) → i < n → i * m + m ≤ n * m
part-fits {i} {n} m h = omega (arith, mul-le-mul_right m h, suc-mul i m)

module _ {A : Type 0} where
  -- f 0, f 1 and so on, n of them
  abbrev pub tab : ℕ → (ℕ → A) → List A
  tab zero f = []
  tab (suc n) f = f zero ∷ tab n (λ i. f (suc i))

  -- The lists f 0, f 1 and so on, n of them, one after the other
  abbrev pub flat : ℕ → (ℕ → List A) → List A
  flat zero f = []
  flat (suc n) f = f zero ++ flat n (λ i. f (suc i))

  -- The part of length m that i such parts stand before
  abbrev pub part : ℕ → ℕ → List A → List A
  part m i l = take m (drop (i * m) l)

  -- x put into l at s
  abbrev pub insert : ℕ → List A → List A → List A
  insert s x l = take s l ++ x ++ drop s l

  -- l without the m entries from s on
  abbrev pub without : ℕ → ℕ → List A → List A
  without s m l = take s l ++ drop (s + m) l

  pub length_tab : (n : ℕ) (f : ℕ → A) → length (tab n f) ≡ n
  length_tab zero f = refl
  length_tab (suc n) f = ap suc (length_tab n (λ i. f (suc i)))

  pub get_or_tab : (n : ℕ) (f : ℕ → A) (i : ℕ) (d : A) → i < n → get_or (tab n f) i d ≡ f i
  get_or_tab zero f i d h = absurd (not-suc-le-zero h)
  get_or_tab (suc n) f zero d h = refl
  get_or_tab (suc n) f (suc i) d h = get_or_tab n (λ j. f (suc j)) i d (le_of_suc-le-suc h)

  pub tab_ext : (n : ℕ) (f g : ℕ → A) → ((i : ℕ) → i < n → f i ≡ g i) → tab n f ≡ tab n g
  tab_ext zero f g e = refl
  tab_ext (suc n) f g e = ap₂ ◌∷◌ (e zero (zero-lt-suc n)) (tab_ext n (λ i. f (suc i)) (λ i. g (suc i)) (λ i h. e (suc i) (suc-le-suc h)))

  -- A list is the table of its entries
  pub tab_of : (n : ℕ) (l : List A) (d : A) → length l ≡ n → l ≡ tab n (λ i. get_or l i d)
  tab_of n l d e =
      ext_get_or d l (tab n (λ i. get_or l i d)) (e ∙ sym (length_tab n (λ i. get_or l i d)))
      (λ i h. sym (get_or_tab n (λ j. get_or l j d) i d (omega arith)))

  pub flat_ext : (n : ℕ) (f g : ℕ → List A) → ((i : ℕ) → i < n → f i ≡ g i) → flat n f ≡ flat n g
  flat_ext zero f g e = refl
  flat_ext (suc n) f g e = ap₂ ◌++◌ (e zero (zero-lt-suc n)) (flat_ext n (λ i. f (suc i)) (λ i. g (suc i)) (λ i h. e (suc i) (suc-le-suc h)))

  pub length_flat : (n m : ℕ) (f : ℕ → List A) → ((i : ℕ) → i < n → length (f i) ≡ m) → length (flat n f) ≡ n * m
  length_flat zero m f e = sym (zero-mul m)
  length_flat (suc n) m f e =
      length-append (f zero) (flat n (λ i. f (suc i)))
      ∙ ap₂ ◌+◌ (e zero (zero-lt-suc n)) (length_flat n m (λ i. f (suc i)) (λ i h. e (suc i) (suc-le-suc h)))
      ∙ add_comm m (n * m) ∙ sym (suc-mul n m)

  -- The parts of a run of lists are those lists
  pub part-flat : (n m : ℕ) (f : ℕ → List A) (i : ℕ) → ((i : ℕ) → i < n → length (f i) ≡ m) → i < n → part m i (flat n f) ≡ f i
  part-flat zero m f i e h = absurd (not-suc-le-zero h)
  part-flat (suc n) m f zero e h = ap (λ (t : ℕ). take m (drop t (flat (suc n) f))) (zero-mul m) ∙ take_at (f zero) (flat n (λ i. f (suc i))) m (e zero h)
  part-flat (suc n) m f (suc i) e h =
      ap (λ (t : ℕ). take m (drop t (flat (suc n) f))) (suc-mul i m ∙ add_comm (i * m) m ∙ ap (λ (t : ℕ). t + i * m) (sym (e zero (zero-lt-suc n))))
      ∙ ap (take m) (drop-append-add (f zero) (flat n (λ i. f (suc i))) (i * m))
      ∙ part-flat n m (λ i. f (suc i)) i (λ j k. e (suc j) (suc-le-suc k)) (le_of_suc-le-suc h)

  part_drop : (m i s : ℕ) (l : List A) → part m i (drop s l) ≡ take m (drop (s + i * m) l)
  part_drop m i s l = ap (take m) (drop-drop (i * m) s l)

  -- A list is the run of its parts
  pub flat-part : (n m : ℕ) (l : List A) → length l ≡ n * m → flat n (λ i. part m i l) ≡ l
  flat-part zero m [] e = refl
  flat-part zero m (x ∷ l) e = absurd (suc-ne-zero _ (e ∙ zero-mul m))
  flat-part (suc n) m l e =
      ap₂ ◌++◌ (ap (λ (t : ℕ). take m (drop t l)) (zero-mul m))
      (flat_ext n (λ i. part m (suc i) l) (λ i. part m i (drop m l)) (λ i h. ap (λ (t : ℕ). take m (drop t l)) (suc-mul i m ∙ add_comm (i * m) m) ∙ sym (part_drop m i m l))
      ∙ flat-part n m (drop m l) (length-drop m l ∙ omega (arith, suc-mul n m)))
      ∙ take-append-drop m l

  -- A part of the first of two lists
  pub part_append : (m i : ℕ) (l k : List A) → i * m + m ≤ length l → part m i (l ++ k) ≡ part m i l
  part_append m i l k h =
      ap (take m) (drop-append-le (i * m) l k (omega arith))
      ∙ take-append-le m (drop (i * m) l) k (simp length-drop (omega arith))

  pub length_part : (m i : ℕ) (l : List A) → i * m + m ≤ length l → length (part m i l) ≡ m
  length_part m i l h = length-take-le m (drop (i * m) l) (simp length-drop (omega arith))

  pub get_d_part : (m i j : ℕ) (l : List A) (d : A) → j < m → get_or (part m i l) j d ≡ get_or l (i * m + j) d
  get_d_part m i j l d h = get_or-take m (drop (i * m) l) j d h ∙ get_or-drop (i * m) l j d

  -- A part of a table
  pub part-tab : (n m i : ℕ) (f : ℕ → A) → i < n → part m i (tab (n * m) f) ≡ tab m (λ j. f (i * m + j))
  part-tab n m i f h =
      let fits : i * m + m ≤ n * m = part-fits m h in
      tab_of m (part m i (tab (n * m) f)) (f 0) (length_part m i (tab (n * m) f) (omega (arith, length_tab (n * m) f)))
      ∙ tab_ext m (λ j. get_or (part m i (tab (n * m) f)) j (f 0)) (λ j. f (i * m + j))
      (λ j l. get_d_part m i j (tab (n * m) f) (f 0) l ∙ get_or_tab (n * m) f (i * m + j) (f 0) (omega arith))

  -- Lists with the same parts are equal
  pub part_ext : (n m : ℕ) (l k : List A) → length l ≡ n * m → length k ≡ n * m → ((i : ℕ) → i < n → part m i l ≡ part m i k) → l ≡ k
  part_ext n m l k el ek e = sym (flat-part n m l el) ∙ flat_ext n (λ i. part m i l) (λ i. part m i k) e ∙ flat-part n m k ek

  pub length-insert : (s : ℕ) (x l : List A) → length (insert s x l) ≡ length x + length l
  length-insert s x l =
      length-append (take s l ++ x) (drop s l) ∙ ap (λ (t : ℕ). t + length (drop s l)) (length-append (take s l) x)
      ∙ simp (length-take, length-drop) (omega arith)

  -- What was put in, and what stood there before
  pub insert-part : (s : ℕ) (x l : List A) → s ≤ length l → take (length x) (drop s (insert s x l)) ≡ x
  insert-part s x l h =
      ap (λ (t : List A). take (length x) (drop s t)) (append_assoc (take s l) x (drop s l))
      ∙ ap (take (length x)) (drop_at (take s l) (x ++ drop s l) s (length-take-le s l h))
      ∙ take_at x (drop s l) (length x) refl

  pub without-insert : (s : ℕ) (x l : List A) → s ≤ length l → without s (length x) (insert s x l) ≡ l
  without-insert s x l h =
      ap₂ ◌++◌
      (ap (take s) (append_assoc (take s l) x (drop s l)) ∙ take_at (take s l) (x ++ drop s l) s (length-take-le s l h))
      (drop_at (take s l ++ x) (drop s l) (s + length x) (length-append (take s l) x ∙ ap (λ (t : ℕ). t + length x) (length-take-le s l h)))
      ∙ take-append-drop s l

  -- A part taken out and put back
  pub insert-without : (s m : ℕ) (l : List A) → s + m ≤ length l → insert s (take m (drop s l)) (without s m l) ≡ l
  insert-without s m l h =
      ap₂ ◌++◌
      (ap (λ (t : List A). t ++ take m (drop s l)) (take_at (take s l) (drop (s + m) l) s (length-take-le s l (omega arith))))
      (drop_at (take s l) (drop (s + m) l) s (length-take-le s l (omega arith)))
      ∙ ap (λ (t : List A). t ++ drop (s + m) l) (sym (take-add s m l))
      ∙ take-append-drop (s + m) l

  pub length_without : (s m : ℕ) (l : List A) → s + m ≤ length l → length (without s m l) + m ≡ length l
  length_without s m l h = ap (λ (t : ℕ). t + m) (length-append (take s l) (drop (s + m) l)) ∙ simp (length-take, length-drop) (omega arith)

  -- The first n parts
  pub flat_take : (n m : ℕ) (l : List A) → n * m ≤ length l → flat n (λ i. part m i l) ≡ take (n * m) l
  flat_take n m l h =
      flat_ext n (λ i. part m i l) (λ i. part m i (take (n * m) l))
      (λ i j. ap (part m i) (sym (take-append-drop (n * m) l)) ∙ part_append m i (take (n * m) l) (drop (n * m) l) (omega (arith, length-take-le (n * m) l h, part-fits m j)))
      ∙ flat-part n m (take (n * m) l) (length-take-le (n * m) l h)

  -- Runs of parts one after the other
  pub three_first : (m i : ℕ) (a b c : List A) → i * m + m ≤ length a → part m i (a ++ b ++ c) ≡ part m i a
  three_first m i a b c h = ap (part m i) (append_assoc a b c) ∙ part_append m i a (b ++ c) h

  pub three_second : (m i n : ℕ) (a b c : List A) → length a ≡ n → i * m + m ≤ length b → part m i (drop n (a ++ b ++ c)) ≡ part m i b
  three_second m i n a b c e h =
      ap (λ (t : List A). part m i (drop n t)) (append_assoc a b c) ∙ ap (part m i) (drop_at a (b ++ c) n e) ∙ part_append m i b c h

  pub three_third : (m i n : ℕ) (a b c : List A) → length a + length b ≡ n → part m i (drop n (a ++ b ++ c)) ≡ part m i c
  three_third m i n a b c e = ap (part m i) (drop_at (a ++ b) c n (length-append a b ∙ e))

  pub three_split : (n m : ℕ) (l : List A) → take n l ++ take m (drop n l) ++ drop (n + m) l ≡ l
  three_split n m l = ap (λ (t : List A). t ++ drop (n + m) l) (sym (take-add n m l)) ∙ take-append-drop (n + m) l

  -- An entry of what was put in
  pub get_or_insert : (s j : ℕ) (x l : List A) (d : A) → s ≤ length l → j < length x → get_or (insert s x l) (s + j) d ≡ get_or x j d
  get_or_insert s j x l d h i =
      sym (get_or-drop s (insert s x l) j d) ∙ sym (get_or-take (length x) (drop s (insert s x l)) j d i) ∙ ap (λ (t : List A). get_or t j d) (insert-part s x l h)

  -- An entry before and one after what was put in
  pub get_or_insert-before : (s i : ℕ) (x l : List A) (d : A) → s ≤ length l → i < s → get_or (insert s x l) i d ≡ get_or l i d
  get_or_insert-before s i x l d h j =
      ap (λ (t : List A). get_or t i d) (append_assoc (take s l) x (drop s l))
      ∙ get_or-append (take s l) (x ++ drop s l) d i (omega (arith, length-take-le s l h)) ∙ get_or-take s l i d j

  pub get_or_insert-after : (s i : ℕ) (x l : List A) (d : A) → s ≤ length l → get_or (insert s x l) (s + length x + i) d ≡ get_or l (s + i) d
  get_or_insert-after s i x l d h =
      ap (λ (t : ℕ). get_or (insert s x l) (t + i) d) (sym (length-append (take s l) x ∙ ap (λ (t : ℕ). t + length x) (length-take-le s l h)))
      ∙ get_or-append-add (take s l ++ x) (drop s l) i d ∙ get_or-drop s l i d

-- a constant table that is a tabulation of f, which `refl` computes, holds f k at k
pub table_at : (f : ℕ → ℕ) (table : List ℕ) (n : ℕ) → table ≡ tab n f → (k : ℕ) → k < n → get_or table k 0 ≡ f k
table_at f table n e k h = ap (λ (l : List ℕ). get_or l k 0) e ∙ get_or_tab n f k 0 h

pub All-tab : (P : ℕ → Type 0) (n : ℕ) (f : ℕ → ℕ) → ((i : ℕ) → i < n → P (f i)) → All P (tab n f)
All-tab P zero f h = tt
All-tab P (suc n) f h = (h 0 (zero-lt-suc n), All-tab P n (λ i. f (suc i)) (λ i k. h (suc i) (suc-le-suc k)))
