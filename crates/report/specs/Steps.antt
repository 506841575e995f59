-- The files of a stream, read one after the other through the window, give the report on the stream. Assumes nothing.
use Rattle.std.specs.Prelude.{◌≡◌, refl, ◌⊎◌, Some, Result, Ok, Err, MatchResult, List, [], ◌∷◌, ℕ, zero, suc, ◌+◌, ◌<◌, length, drop}
use Rattle.std.proofs.Common.{sym, ◌∙◌, subst, inl, inr, arith, length-take}
use Rattle.std.proofs.Math.Path.{ap, transport}
use Rattle.stored.specs.File.{file_limit}
use Rattle.report.specs.Bounds.{told_bounded}
use Rattle.refusals.specs.declared.Refusal.{Refusal}
use Rattle.report.specs.Entry.{Told}
use Rattle.report.specs.EntryLaws.{window_told}
use Rattle.report.specs.Report.{most_files, Entries, Reported, Fair, GoesOn, no_report, Added, Next}
use Rattle.report.specs.Total.{sum_of, total_of, with_entry}
use Rattle.report.specs.Window.{window_on}
use Rattle.report.specs.declared.Entry.{Entry}
use Rattle.report.specs.declared.Report.{Report}
use Rattle.report.specs.declared.Total.{Total}

-- where the file of an entry ends; a refused one is not passed
abbrev pub end_of : Result Entry Refusal → ℕ
end_of (Ok e) = e.end
end_of (Err r) = 0

-- what the program does: at most n calls of `next` from the report p on, each on the window of what is left of s; they end where the report
-- does not go on or nothing is left. es are the entries on the way, and q is the report at the end.
abbrev pub Steps : ℕ → List ℕ → Report → List (Result Entry Refusal) → Report → Type 0
Steps zero s p es q = (es ≡ []) × (q ≡ p)
Steps (suc n) s p es q =
    (GoesOn p × (0 < length s)
    × ((r : Report) × (e : Result Entry Refusal) × (rest : List (Result Entry Refusal)) × Next (window_on s) p r × (r.latest ≡ Some e) × (es ≡ e ∷ rest) × Steps n (drop (end_of e) s) r rest q))
    ⊎ ((GoesOn p × (0 < length s) → ⊥) × (es ≡ []) × (q ≡ p))

-- ---- the total on the way

-- u is t with the accepted files of es
record Sums (t : Total) (es : List (Result Entry Refusal)) (u : Total) : Type 0 where
  files : u.files ≡ t.files + sum_of (λ e. 1) es
  coins : u.coins ≡ t.coins + sum_of (λ e. e.sweep.coins) es
  rejects : u.rejects ≡ t.rejects + sum_of (λ e. e.sweep.rejects) es

-- one file
with_one : (t : Total) (e : Result Entry Refusal) → Sums t (e ∷ []) (with_entry t e)
with_one t (Ok e) = record { files = omega arith; coins = omega arith; rejects = omega arith }
with_one t (Err r) = record { files = omega arith; coins = omega arith; rejects = omega arith }

fair_with : (s : List ℕ) (n : ℕ) (t : Total) (e : Result Entry Refusal) → Told s e → Fair n t → Fair (n + 1) (with_entry t e)
fair_with s n t (Ok e) x f = let b = told_bounded s e x in record { files = omega (arith, f.files); coins = omega (arith, f.coins, b.coins); rejects = omega (arith, f.rejects, b.rejects) }
fair_with s n t (Err r) x f = record { files = omega (arith, f.files); coins = omega (arith, f.coins); rejects = omega (arith, f.rejects) }

sum_more : (g : Entry → ℕ) (e : Result Entry Refusal) (es : List (Result Entry Refusal)) → sum_of g (e ∷ es) ≡ sum_of g (e ∷ []) + sum_of g es
sum_more g (Ok e) es = omega arith
sum_more g (Err r) es = omega arith

module _ {s : List ℕ} {p r : Report} (a : Added s p r) where
  one_more : Sums p.total (a.entry ∷ []) r.total
  one_more = subst (Sums p.total (a.entry ∷ [])) (sym a.total) (with_one p.total a.entry)

  fair_next : Fair p.read p.total → Fair r.read r.total
  fair_next f = transport (λ i. Fair (sym a.read i) (sym a.total i)) (fair_with s p.read p.total a.entry a.told f)

  sums_next : {es rest : List (Result Entry Refusal)} {u : Total} → es ≡ a.entry ∷ rest → Sums r.total rest u → Sums p.total es u
  sums_next {es} {rest} {u} e t =
      subst (λ (xs : List (Result Entry Refusal)). Sums p.total xs u) (sym e)
      (record {
        files = omega (arith, one_more.files, t.files, sum_more (λ e. 1) a.entry rest);
        coins = omega (arith, one_more.coins, t.coins, sum_more (λ e. e.sweep.coins) a.entry rest);
        rejects = omega (arith, one_more.rejects, t.rejects, sum_more (λ e. e.sweep.rejects) a.entry rest);
      })

sums_none : {es : List (Result Entry Refusal)} {p q : Report} → es ≡ [] → q ≡ p → Sums p.total es q.total
sums_none {es} {p} {q} e g =
    subst (λ (xs : List (Result Entry Refusal)). Sums p.total xs q.total) (sym e)
    (subst (λ (r : Report). Sums p.total [] r.total) (sym g) (record { files = omega arith; coins = omega arith; rejects = omega arith }))

-- ---- the entries on the way

-- no file was refused yet
abbrev Unrefused : Report → Type 0
Unrefused p = (r : Refusal) → p.latest ≡ Some (Err r) → ⊥

goes_on : {p : Report} → Fair p.read p.total → Unrefused p → p.read < most_files → GoesOn p
goes_on f z h = record { accepted = z; room = h; fair = f }

-- past a refused file nothing is read
stopped : (n : ℕ) (s : List ℕ) (p q : Report) (es : List (Result Entry Refusal)) (r : Refusal) → p.latest ≡ Some (Err r) → Steps n s p es q → (es ≡ []) × (q ≡ p)
stopped zero s p q es r z t = t
stopped (suc n) s p q es r z (inl (g, y, t)) = absurd (g.accepted r z)
stopped (suc n) s p q es r z (inr (g, e, d)) = (e, d)

-- no more files than m are left to read
abbrev Right : ℕ → List ℕ → Report → List (Result Entry Refusal) → Report → Type 0
Right m s p es q = Entries m s es × Sums p.total es q.total

module _ (p : Report) (f : Fair p.read p.total) (z : Unrefused p) (es : List (Result Entry Refusal)) (q : Report) where
  -- the report has ended
  ends : (m : ℕ) (s : List ℕ) → p.read + m ≡ most_files → (GoesOn p × (0 < length s) → ⊥) → es ≡ [] → q ≡ p → Right m s p es q
  ends zero s h g e d = (e, sums_none e d)
  ends (suc m) [] h g e d = (e, sums_none e d)
  ends (suc m) (b ∷ s) h g e d = absurd (g (goes_on f z (omega arith), omega arith))

  -- one more file; past an accepted one the rest follows
  module _ (b : ℕ) (s : List ℕ) (r : Report) (rest : List (Result Entry Refusal)) (a : Added (window_on (b ∷ s)) p r) (e : es ≡ a.entry ∷ rest) where
    told : Told (b ∷ s) a.entry
    told = (window_told (b ∷ s) a.entry).0 a.told

    next : (m : ℕ) → MatchResult a.entry (λ x. Entries m (drop x.end (b ∷ s)) rest) (λ d. rest ≡ []) → Sums r.total rest q.total → Right (suc m) (b ∷ s) p es q
    next m l t = ((a.entry, rest, told, e, l), sums_next a e t)

-- a window on some bytes has some
seen : (b : ℕ) (s : List ℕ) → 0 < length (window_on (b ∷ s))
seen b s = omega (arith, length-take file_limit (b ∷ s))

-- the report that goes on has one file more
pub next-added : (s : List ℕ) (p r : Report) → GoesOn p → 0 < length s → Next s p r → Added s p r
next-added s p r g h (inl (o, k, a)) = a
next-added s p r g h (inr (n, e)) = absurd (n (g, h))

steps-right : (n m : ℕ) (s : List ℕ) (p q : Report) (es : List (Result Entry Refusal)) → Fair p.read p.total → Unrefused p → p.read + m ≡ most_files → m < n → Steps n s p es q → Right m s p es q
steps-right zero m s p q es f z h l t = absurd (omega arith)
steps-right (suc n) m s p q es f z h l (inr (g, e, d)) = ends p f z es q m s h g e d
steps-right (suc n) zero s p q es f z h l (inl (g, y, t)) = absurd (omega (arith, g.room))
steps-right (suc n) (suc m) [] p q es f z h l (inl (g, y, t)) = absurd (omega arith)
steps-right (suc n) (suc m) (b ∷ s) p q es f z h l (inl (g, y, (r, x, rest, w, is, e, t))) =
    let a = next-added (window_on (b ∷ s)) p r g (seen b s) w in
    by a x is e (λ (c : Entry) u. steps-right n m (drop c.end (b ∷ s)) r q rest (fair_next a f) u (omega (arith, a.read)) (omega arith)) t
  where
    by : (a : Added (window_on (b ∷ s)) p r) (x : Result Entry Refusal) → r.latest ≡ Some x → es ≡ x ∷ rest
        → ((c : Entry) → Unrefused r → Steps n (drop c.end (b ∷ s)) r rest q → Right m (drop c.end (b ∷ s)) r rest q)
        → Steps n (drop (end_of x) (b ∷ s)) r rest q → Right (suc m) (b ∷ s) p es q
    by a (Ok c) is e ih t =
        let same : a.entry ≡ Ok c = cc in
        let (l, u) = ih c (λ d k. cc) t in
        next p f z es q b s r rest a (e ∙ ap (λ (y : Result Entry Refusal). y ∷ rest) (sym same)) m
        (subst (λ (y : Result Entry Refusal). MatchResult y (λ v. Entries m (drop v.end (b ∷ s)) rest) (λ d. rest ≡ [])) (sym same) l) u
    by a (Err d) is e ih t =
        let same : a.entry ≡ Err d = cc in
        let (l, u) = stopped n (b ∷ s) r q rest d is t in
        next p f z es q b s r rest a (e ∙ ap (λ (y : Result Entry Refusal). y ∷ rest) (sym same)) m
        (subst (λ (y : Result Entry Refusal). MatchResult y (λ v. Entries m (drop v.end (b ∷ s)) rest) (λ d. rest ≡ [])) (sym same) l) (sums_none l u)

-- The files of a stream, read through the window from the first on, give the report on the stream.
pub steps_report : (s : List ℕ) (es : List (Result Entry Refusal)) (q : Report) → Steps (most_files + 1) s no_report es q → Reported s es q.total
unfolding no_report total_of
steps_report s es q t =
    let (l, u) = steps-right (most_files + 1) most_files s no_report q es (record { files = omega arith; coins = omega arith; rejects = omega arith }) (λ r e. cc) refl (omega arith) t in
    let files : q.total.files ≡ sum_of (λ e. 1) es = u.files ∙ omega arith in
    let coins : q.total.coins ≡ sum_of (λ e. e.sweep.coins) es = u.coins ∙ omega arith in
    let rejects : q.total.rejects ≡ sum_of (λ e. e.sweep.rejects) es = u.rejects ∙ omega arith in
    (l, λ i. record { files = files i; coins = coins i; rejects = rejects i })
